-- One turn of the walk over groups, and what a refusal and its absence say.
-- Assumes nothing.
use Rattle.std.proofs.Common.{ℕ, suc, ◌+◌, ◌-◌, ◌≤◌, ◌<◌, ◌≡◌, refl, sym, ◌∙◌, cond, inl, inr, List, arith, leb, ltb, le-leb, ltb-true, ltb-false, ap, add-one, Result, Ok, Err, IsErrAnd}
use Rattle.bounded.specs.Bounded.{first_of, or_else}
use Rattle.bounded.proofs.Truth.{bool, or-false, passed}
use Rattle.bounded.proofs.Laws.{of_none, else-keep, sum_up}
use Rattle.numbers.specs.Numbers.{file_number, file_answer}
use Rattle.numbers.specs.declared.FileRefusal.{FileRefusal}
use Rattle.numbers.proofs.Laws.{file_above}
use Rattle.tables.specs.Sites.{size_in, mask_in, sites_in, keys_from}
use Rattle.tables.specs.Judge.{group_refusal, size_refusal, count_refusal}
use Rattle.tables.specs.declared.Group.{Group}
use Rattle.tables.specs.declared.Tables.{Tables}

-- what a `?` hands on
pub handed : (r : Result (Unit {0}) FileRefusal) (e : FileRefusal) → IsErrAnd r (λ y. y ≡ e) → file_answer r ≡ file_number e
handed (Ok x) e p = absurd p
handed (Err y) e p = ap file_number p

-- it stands before anything else; where there is none, what comes after it counts
pub before : (r : FileRefusal) (a b : ℕ) → file_number r ≡ a → file_number r ≡ or_else a b
before r a b e = e ∙ sym (else-keep a b (λ z. file_above r (e ∙ z)))

pub after : (x a b : ℕ) → 0 ≡ a → x ≡ b → x ≡ or_else a b
after x a b e f = rw (← e) f

-- where a group is left
pub keys_turn : (n g : ℕ) (group : List Group) (s : ℕ) → g < n
    → keys_from (n - g) g group s ≡ cond (ltb s (size_in group g)) (mask_in group g) (keys_from (n - (g + 1)) (g + 1) group (s - size_in group g))
keys_turn n g group s l = rw e (unfold keys_from in refl)
  where
    e : n - g ≡ suc (n - (g + 1))
    e = omega arith

-- the refusal of group g, where n counts the sites before it
pub group_at : (T : Tables) (g n at size : ℕ) → at ≡ g → size ≡ size_in T.group at → n ≡ sites_in T.group g
    → size_refusal T.keys g (size_in T.group at) (n + size) (mask_in T.group at) ≡ group_refusal T g
group_at T g n at size a s e = rw (← add-one g, sum_up, ← e, s, a)

-- counts that are not refused are at most eight
pub count_low : (t r w : ℕ) → count_refusal t r w ≡ 0 → (r ≤ 8) × (w ≤ 8)
unfolding count_refusal
count_low t r w h =
    let (a, b) = or-false (ltb 8 r) _ (or-false (leb 128 t) _ (passed 5 (omega arith) _ _ h).0).1 in
    (ltb-false 8 r a, ltb-false 8 w (or-false (ltb 8 w) _ b).0)

-- a ninth group is refused, so groups that are not refused are at most eight
pub ninth : (keys g size n mask : ℕ) → 8 ≤ g → size_refusal keys g size n mask ≡ 5
unfolding size_refusal
ninth keys g size n mask h = simp (le-leb 8 g h)

pub groups_low : (T : Tables) (n : ℕ) → first_of n (group_refusal T) ≡ 0 → n ≤ 8
groups_low T n h = elim (bool (ltb 8 n)) [ inl e ↦ absurd (omega (arith, past (ltb-true 8 n e))) | inr e ↦ ltb-false 8 n e ]
  where
    past : 8 < n → ◌≡◌ {A = ℕ} 5 0
    past l = sym (ninth T.keys 8 (size_in T.group 8) (sites_in T.group 9) (mask_in T.group 8) (omega arith)) ∙ of_none n (group_refusal T) h 8 l
