-- Demand 1 for steps, of every state and step.
-- Assumes nothing.
use Prim.Native.Nat.{ℕ, zero, suc, ◌+◌}
use mathlib.Core.Path.{◌≡◌, refl, subst}
use mathlib.Core.Bool.{Bool, true, false, ◌&&◌, ◌||◌, not, cond}
use mathlib.Core.List.{List, [], ◌∷◌}
use mathlib.Core.Logic.{inl, inr}
use Rattle.std.specs.Prelude.{Ok, Err}
use Rattle.numbers.specs.Numbers.{step_number, step_refusal}
use Rattle.numbers.specs.declared.StepRefusal.{StepRefusal}
use lib.Dec.{eqb, leb, ltb}
use types.Run.{OneOf, hit}
use borrow.Author.Tests.{eqb-false}
use Rattle.parts.specs.Cells.{nobody}
use Rattle.bounded.specs.Bounded.{all_below}
use Rattle.tables.specs.Lists.{read_count, read_key}
use Rattle.tables.specs.Sites.{site_count, holds}
use Rattle.tables.specs.Concern.{concerns, local}
use Rattle.steps.specs.Answers.{Answered, numbers_of}
use Rattle.steps.specs.declared.Step.{Step}
use Rattle.steps.specs.declared.Step.TheVariants.{Read, Submit, Deliver, Carry, Close, Settle}
use Rattle.steps.specs.declared.Answer.TheVariants as answer
use Rattle.refusals.specs.Refusals.{carry_refusal_in, close_refusal_in, deliver_refusal_in, read_refusal_in, submit_refusal_in, verdict_refusal_in, vote_refusal_in, refusal_in}
use Rattle.machine.specs.Parts.{place_of, recorded_of, delivered_at, closed_at, cast_by}
use Rattle.machine.specs.Rules.{at_head, next_at, blocked, holds_vote_of, verdict, room_at}
use Rattle.machine.specs.Refusals.{refusal}
use Rattle.machine.specs.Steps.{refused, done, decided, step_of}
use Rattle.machine.specs.declared.State.{State}
use Rattle.machine.proofs.Refused.{done_took, refused_keeps}
use Rattle.demands.specs.Steps.{listed_for, Demand1Step}

-- ---- a number that refuses is listed for its step

-- a test refuses with n, or leaves it to what comes after
else : (l : List ℕ) (b : Bool) (n k : ℕ) → OneOf l n → ((k ≡ 0 → ⊥) → OneOf l k) → (cond b n k ≡ 0 → ⊥) → OneOf l (cond b n k)
else l true n k o r h = o
else l false n k o r h = r h

-- and at the end nothing does
taken : (l : List ℕ) → (◌≡◌ {A = ℕ} 0 0 → ⊥) → OneOf l 0
taken l h = absurd (h refl)

refusal_listed : (st : State) (x : Step) → (refusal st x ≡ 0 → ⊥) → OneOf (listed_for x) (refusal st x)
unfolding refusal_in read_refusal_in submit_refusal_in deliver_refusal_in vote_refusal_in carry_refusal_in verdict_refusal_in close_refusal_in
refusal_listed st (Read t i s) =
    let T = st.tables in
    let l = listed_for (Read t i s) in
    else l (leb T.txns t) 20 _ (hit l 20 tt)
    (else l (leb (read_count T t) i) 22 _ (hit l 22 tt)
    (else l (leb (site_count T) s) 21 _ (hit l 21 tt)
    (else l (not (holds T s (read_key T t i))) 23 _ (hit l 23 tt)
    (else l (recorded_of st t i) 24 _ (hit l 24 tt)
    (taken l)))))
refusal_listed st (Submit t) =
    let T = st.tables in
    let l = listed_for (Submit t) in
    else l (leb T.txns t) 20 _ (hit l 20 tt)
    (else l (ltb 0 (place_of st t)) 24 _ (hit l 24 tt)
    (else l (not (all_below (read_count T t) (recorded_of st t))) 25 _ (hit l 25 tt)
    (taken l)))
refusal_listed st (Deliver s) =
    let l = listed_for (Deliver s) in
    else l (leb (site_count st.tables) s) 21 _ (hit l 21 tt)
    (else l (eqb (next_at st s) nobody) 26 _ (hit l 26 tt)
    (else l (blocked st (next_at st s) s) 27 _ (hit l 27 tt)
    (taken l)))
refusal_listed st (Carry t from to) =
    let T = st.tables in
    let l = listed_for (Carry t from to) in
    else l (leb T.txns t) 20 _ (hit l 20 tt)
    (else l (leb (site_count T) from || leb (site_count T) to) 21 _ (hit l 21 tt)
    (else l (not (concerns T t to)) 23 _ (hit l 23 tt)
    (else l (local T t || (eqb from to || eqb (cast_by st t from) 0)) 28 _ (hit l 28 tt)
    (else l (holds_vote_of st t to from) 24 _ (hit l 24 tt)
    (taken l)))))
refusal_listed st (Close t s) =
    let T = st.tables in
    let l = listed_for (Close t s) in
    else l (leb T.txns t) 20 _ (hit l 20 tt)
    (else l (leb (site_count T) s) 21 _ (hit l 21 tt)
    (else l (not (concerns T t s)) 23 _ (hit l 23 tt)
    (else l (ltb 0 (closed_at st t s)) 24 _ (hit l 24 tt)
    (else l (not (delivered_at st t s)) 29 _ (hit l 29 tt)
    (else l (eqb (verdict st t s) 0) 30 _ (hit l 30 tt)
    (else l (eqb (verdict st t s) 1 && not (at_head st t s)) 31 _ (hit l 31 tt)
    (else l (eqb (verdict st t s) 1 && not (room_at st t s)) 32 _ (hit l 32 tt)
    (taken l))))))))
refusal_listed st Settle = taken (listed_for Settle)

-- ---- every step

-- each number of a list names a refusal
abbrev Named : List ℕ → Type 0
Named [] = Unit {0}
Named (k ∷ ks) = (step_number (step_refusal k) ≡ k) × Named ks

named : (l : List ℕ) (n : ℕ) → Named l → OneOf l n → step_number (step_refusal n) ≡ n
named [] n h o = absurd o
named (k ∷ []) n h o = rw o h.0
named (k ∷ j ∷ l) n h (inl e) = rw e h.0
named (k ∷ j ∷ l) n h (inr o) = named (j ∷ l) n h.1 o

all_named : (x : Step) → Named (listed_for x)
unfolding step_refusal
all_named (Read t i s) = (refl, (refl, (refl, (refl, (refl, tt)))))
all_named (Submit t) = (refl, (refl, (refl, tt)))
all_named (Deliver s) = (refl, (refl, (refl, tt)))
all_named (Carry t from to) = (refl, (refl, (refl, (refl, (refl, tt)))))
all_named (Close t s) = (refl, (refl, (refl, (refl, (refl, (refl, (refl, (refl, tt))))))))
all_named Settle = tt

-- a step on a usable state
refused_listed : (st : State) (x : Step) (r : StepRefusal) → (decided st x).answer ≡ Err r → OneOf (listed_for x) (step_number r)
unfolding decided
refused_listed st x r = by (eqb (refusal st x) 0) refl
  where
    by : (b : Bool) → eqb (refusal st x) 0 ≡ b → (cond b (done st x) (refused st (refusal st x))).answer ≡ Err r → OneOf (listed_for x) (step_number r)
    by true e h = absurd (done_took st x r h)
    by false e h =
        let q : step_refusal (refusal st x) ≡ r = cc in
        let o = refusal_listed st x (eqb-false (refusal st x) 0 e) in
        rw (← q, named (listed_for x) (refusal st x) (all_named x) o) o

pub demand1_step : (st : State) (x : Step) → Demand1Step st x
demand1_step st x = record {
  unusable = λ u. unfold step_of step_refusal in rw u;
  listed = λ u r e. refused_listed st x r (unfold step_of in rw u at e);
  zeros = λ r e. (refused_keeps st x r e).answers;
  kept = λ r e. (refused_keeps st x r e).state;
  accepted = by (step_of st x).answer;
}
  where
    by : (a : Answered) → ((r : StepRefusal) → a ≡ Err r → ⊥) → (numbers_of a).code ≡ 0
    by (Ok (answer.Read version value)) h = refl
    by (Ok (answer.Submitted place)) h = refl
    by (Ok (answer.Delivered t vote)) h = refl
    by (Ok (answer.Carried vote)) h = refl
    by (Ok (answer.Closed verdict)) h = refl
    by (Ok (answer.Settled count)) h = refl
    by (Err r) h = absurd (h r refl)
