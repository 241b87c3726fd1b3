-- What a judgement comes to: a good record lies in the file, its tag may stand there and its length is right; a bad one is refused for one of three numbers.
-- Assumes nothing.
use Rattle.std.proofs.Common.{◌≡◌, ℕ, Bool, true, false, cond, List, [], ◌∷◌, refl, Result, Ok, Err}
use types.Run.{OneOf, hit}
use Rattle.numbers.specs.Numbers.{file_number}
use Rattle.numbers.specs.declared.FileRefusal.{FileRefusal}
use Rattle.numbers.specs.declared.FileRefusal.TheVariants.{Cut, Misplaced, Length}
use Rattle.records.specs.Record.{record_at, tag_of}
use Rattle.records.specs.Rule.{fits}
use Rattle.records.specs.Judge.{judge_by, judge_at}
use Rattle.records.specs.declared.Record.{Record}
use Rattle.records.specs.declared.Broken.{Broken}
use Rattle.records.specs.declared.Broken.TheVariants.{Header, Body}
use Rattle.records.proofs.Laws.{Lies, whole_lies}

-- only the tag of what was found is asked about
pub one_tag : (p : ℕ → Bool) (s : List ℕ) (f : Result Record Broken) (b : Bool) → b ≡ p (tag_of f) → judge_by (λ tag. b) s f ≡ judge_by p s f
one_tag p s (Ok r) b e = rw e
one_tag p s (Err (Body tag)) b e = rw e
one_tag p s (Err Header) b e = refl

-- the else branch of `let Ok(record)`: cut where any tag may stand; where none may, a body cut is misplaced
pub not_whole : (s : List ℕ) (e : Broken) → judge_by (λ tag. true) s (Err e) ≡ Err Cut
not_whole s (Body tag) = refl
not_whole s Header = refl

pub short : (s : List ℕ) (tag : ℕ) → judge_by (λ tag. false) s (Err (Body tag)) ≡ Err Misplaced
short s tag = refl

pub record Is (p : ℕ → Bool) (s : List ℕ) (at : ℕ) (r : Record) : Type 0 where
  pub lies : Lies s at r
  pub allowed : p r.tag ≡ true
  pub fitting : fits s r.tag r.start r.len ≡ true

-- the numbers of the first judgement: a header or body cut, the tag, the length
abbrev pub first_numbers : List ℕ
first_numbers = 2 ∷ 3 ∷ 4 ∷ []

-- what is shown of a good record and of these numbers holds of the judgement
pub judge_is : (p : ℕ → Bool) (s : List ℕ) (at : ℕ) (P : Result Record FileRefusal → Type 0) → ((r : Record) → Is p s at r → P (Ok r))
    → ((why : FileRefusal) → OneOf first_numbers (file_number why) → P (Err why)) → P (judge_at p s at)
unfolding judge_at
judge_is p s at P good bad = by (record_at s at) refl
  where
    whole : (r : Record) (q f : Bool) → p r.tag ≡ q → fits s r.tag r.start r.len ≡ f → Lies s at r → P (cond q (cond f (Ok r) (Err Length)) (Err Misplaced))
    whole r true true a f l = good r (record { lies = l; allowed = a; fitting = f })
    whole r true false a f l = bad Length (hit first_numbers 4 tt)
    whole r false f a e l = bad Misplaced (hit first_numbers 3 tt)

    cut_body : (q : Bool) → P (cond q (Err Cut) (Err Misplaced))
    cut_body true = bad Cut (hit first_numbers 2 tt)
    cut_body false = bad Misplaced (hit first_numbers 3 tt)

    by : (f : Result Record Broken) → record_at s at ≡ f → P (judge_by p s f)
    by (Ok r) q = whole r (p r.tag) (fits s r.tag r.start r.len) refl refl (whole_lies q)
    by (Err (Body t)) q = cut_body (p t)
    by (Err Header) q = bad Cut (hit first_numbers 2 tt)

pub good_is : {p : ℕ → Bool} {s : List ℕ} {at : ℕ} {r : Record} → judge_at p s at ≡ Ok r → Is p s at r
good_is {p} {s} {at} {r} = judge_is p s at (λ j. j ≡ Ok r → Is p s at r) good (λ why o h. cc)
  where
    good : (q : Record) → Is p s at q → ◌≡◌ {A = Result Record FileRefusal} (Ok q) (Ok r) → Is p s at r
    good q i h = let e : q ≡ r = cc in rw (← e) i
