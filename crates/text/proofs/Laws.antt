-- Writes one after the other are one write; the digits of n are those of n / 10 and one more; a line's fields one by one.
-- Assumes nothing.
use Prim.Native.Nat.{ℕ, zero, suc, ◌+◌, ◌/◌, ◌%◌, ◌^◌, ◌≤◌, ◌<◌}
use mathlib.Core.Bool.{Bool, true, false}
use mathlib.Core.List.{List, [], ◌∷◌, ◌++◌, append-nil, append_assoc}
use mathlib.Core.Logic.{⊎_elim, inl, inr, ◌⊎◌}
use mathlib.Core.Path.{◌≡◌, refl, sym, ap, ◌∙◌}
use native.Mathlib.Nat.{add-suc, add-zero, pow-suc, suc-add}
use native.Mathlib.Numerals.{add-one}
use native.Mathlib.Omega.{arith}
use lib.Dec.{ltb}
use lib.ListN.{length, get_or, set, take, drop, length-append}
use lib.Seq.{sets, length-sets, sets-eq}
use borrow.Author.Tests.{lt-ltb, le-ltb, ltb-true, ltb-false}
use Rattle.text.specs.Text.{digits_by, digits_of, fields_of, each}
use Rattle.text.specs.Wrote.{put, Wrote, Writes}
use Rattle.text.specs.declared.Writer.{Writer}

sets_append : (xs : List ℕ) (l : List ℕ) (i : ℕ) (ys : List ℕ) → sets (sets l i xs) (i + length xs) ys ≡ sets l i (xs ++ ys)
sets_append [] l i ys = rw add-zero
sets_append (x ∷ xs) l i ys = rw (add-suc, ← suc-add) (sets_append xs (set l i x) (suc i) ys)

pub nothing : {l : List ℕ} {a : ℕ} → Wrote l a l a []
unfolding put
nothing {l} {a} = record { place = omega arith; bytes = refl }

-- two writes, the second from where the first ended, are one
pub then : {l m n : List ℕ} {a b c : ℕ} {xs ys : List ℕ} → Wrote l a m b xs → Wrote m b n c ys → Wrote l a n c (xs ++ ys)
unfolding put
then {l} {m} {n} {a} {b} {c} {xs} {ys} v w = record {
  place = rw length-append (omega arith);
  bytes = w.bytes ∙ rw (v.bytes, v.place) (sets_append xs l a ys);
}

-- a buffer keeps its length
pub same_length : {l m : List ℕ} {at next : ℕ} {xs : List ℕ} → Wrote l at m next xs → length m ≡ length l
unfolding put
same_length {l} {m} {at} {next} {xs} w = ap length w.bytes ∙ length-sets l at xs

-- where there is room, a write changes the places from at on, as many as are written, and no other
pub within : {l m : List ℕ} {at next : ℕ} {xs : List ℕ} → Wrote l at m next xs → next ≤ length l → m ≡ take at l ++ xs ++ drop next l
unfolding put
within {l} {m} {at} {next} {xs} w room = rw (w.place, w.bytes) (sets-eq xs l at (rw w.place at room))

-- a write from the buffer's start: the next place is the length of what was written, which stands before the rest
pub start_length : {l m : List ℕ} {next : ℕ} {xs : List ℕ} → Wrote l 0 m next xs → next ≡ length xs
start_length w = omega arith

pub start_within : {l m : List ℕ} {next : ℕ} {xs : List ℕ} → Wrote l 0 m next xs → next ≤ length l → m ≡ xs ++ drop (length xs) l
start_within w room = rw (start_length w) at (within w room)

each_more : (f : ℕ → List ℕ) (i : ℕ) → each (i + 1) f ≡ each i f ++ f i
unfolding each
each_more f i = rw add-one

-- before the first turn of a loop that writes f i for each i, and after one more turn
pub none : (f : ℕ → List ℕ) {l : List ℕ} {a : ℕ} → Wrote l a l a (each 0 f)
unfolding each
none f = nothing

pub more : (f : ℕ → List ℕ) (i : ℕ) {l m n : List ℕ} {a b c : ℕ} → Wrote l a m b (each i f) → Wrote m b n c (f i) → Wrote l a n c (each (i + 1) f)
more f i v w = rw (each_more f i) (then v w)

one : (f n : ℕ) → digits_by f true n ≡ (48 + n) ∷ []
unfolding digits_by
one zero n = refl
one (suc f) n = refl

-- any bound from n up gives the same digits
enough_step : (f g n : ℕ) (b : Bool) → ltb n 10 ≡ b → n ≤ suc f → n ≤ g
    → ((h m : ℕ) → m ≤ f → m ≤ h → digits_by f (ltb m 10) m ≡ digits_by h (ltb m 10) m) → digits_by (suc f) b n ≡ digits_by g b n
unfolding digits_by
enough_step f g n true e h k ih = sym (one g n)
enough_step f zero n false e h k ih = absurd (omega (arith, ltb-false n 10 e))
enough_step f (suc g) n false e h k ih =
    let l : 10 ≤ n = ltb-false n 10 e in
    ap (λ (d : List ℕ). d ++ ((48 + n % 10) ∷ [])) (ih g (n / 10) (omega arith) (omega arith))

enough : (f g n : ℕ) → n ≤ f → n ≤ g → digits_by f (ltb n 10) n ≡ digits_by g (ltb n 10) n
unfolding digits_by
enough zero g n h k = let e : n ≡ 0 = omega arith in rw e (sym (one g 0))
enough (suc f) g n h k = enough_step f g n (ltb n 10) refl h k (enough f)

digits_one : (n : ℕ) → n < 10 → digits_of n ≡ (48 + n) ∷ []
unfolding digits_of
digits_one n h = rw (lt-ltb n 10 h) (one n n)

digits_more : (n : ℕ) → 10 ≤ n → digits_of n ≡ digits_of (n / 10) ++ ((48 + n % 10) ∷ [])
unfolding digits_of digits_by
digits_more zero h = absurd (omega arith)
digits_more (suc m) h = rw (le-ltb (suc m) 10 h) (ap (λ (d : List ℕ). d ++ ((48 + suc m % 10) ∷ [])) (enough m (suc m / 10) (suc m / 10) (omega arith) (omega arith)))

by_test : (n : ℕ) (b : Bool) → ltb n 10 ≡ b → (n < 10) ⊎ (10 ≤ n)
by_test n true e = inl (ltb-true n 10 e)
by_test n false e = inr (ltb-false n 10 e)

-- a number below 10 ^ (k + 1) has at most k + 1 digits
pub digits_length : (k n : ℕ) → n < 10 ^ suc k → length (digits_of n) ≤ suc k
digits_length zero n h = rw (digits_one n h) (omega arith)
digits_length (suc k) n h =
    ⊎_elim (λ l. rw (digits_one n l) (omega arith))
    (λ l. rw (digits_more n l, length-append) (omega (arith, digits_length k (n / 10) (omega (arith, pow-suc 10 (suc k))))))
    (by_test n (ltb n 10) refl)

-- a number below ten is one digit; any other, those of n / 10 and one more
pub write_one : {l m : List ℕ} {a b d n : ℕ} → n < 10 → d ≡ 48 + n → Wrote l a m b (d ∷ []) → Wrote l a m b (digits_of n)
write_one {n = n} h e w = rw (digits_one n h, ← e) w

pub write_more : {l m k : List ℕ} {a b c d n : ℕ} → 10 ≤ n → Wrote l a m b (digits_of (n / 10)) → d ≡ 48 + n % 10 → Wrote m b k c (d ∷ []) → Wrote l a k c (digits_of n)
write_more {n = n} h v e w = rw (digits_more n h, ← e) (then v w)

-- a number of 32 bits takes at most ten places
pub write_short : {l m : List ℕ} {a b n : ℕ} → n < 2 ^ 32 → Wrote l a m b (digits_of n) → b ≤ a + 10
write_short {n = n} h w = omega (arith, digits_length 9 n (omega arith))

-- the first piece before the others
each_first : (n : ℕ) (f : ℕ → List ℕ) → each (suc n) f ≡ f 0 ++ each n (λ i. f (suc i))
unfolding each
each_first zero f = sym (append-nil (f 0))
each_first (suc n) f = ap (λ (l : List ℕ). l ++ f (suc n)) (each_first n f) ∙ append_assoc (f 0) (each n (λ i. f (suc i))) (f (suc n))

-- a field for each number, then the line feed
pub fields_each : (ns : List ℕ) → fields_of ns ≡ each (length ns) (λ i. 32 ∷ digits_of (get_or ns i 0)) ++ (10 ∷ [])
unfolding fields_of each
fields_each [] = refl
fields_each (n ∷ ns) =
    ap (λ (l : List ℕ). (32 ∷ digits_of n) ++ l) (fields_each ns)
    ∙ sym (append_assoc (32 ∷ digits_of n) (each (length ns) (λ i. 32 ∷ digits_of (get_or ns i 0))) (10 ∷ []))
    ∙ ap (λ (l : List ℕ). l ++ (10 ∷ [])) (sym (each_first (length ns) (λ i. 32 ∷ digits_of (get_or (n ∷ ns) i 0))))

-- the same of writers
pub writes_nothing : {w : Writer} → Writes w w []
writes_nothing = record { lent = refl; wrote = nothing }

pub writes_then : {u v w : Writer} {xs ys : List ℕ} → Writes u v xs → Writes v w ys → Writes u w (xs ++ ys)
writes_then p q = record { lent = q.lent ∙ p.lent; wrote = then p.wrote q.wrote }

pub writes_none : (f : ℕ → List ℕ) {w : Writer} → Writes w w (each 0 f)
unfolding each
writes_none f = writes_nothing

pub writes_more : (f : ℕ → List ℕ) (i : ℕ) {u v w : Writer} → Writes u v (each i f) → Writes v w (f i) → Writes u w (each (i + 1) f)
writes_more f i p q = rw (each_more f i) (writes_then p q)

pub writes_one : {w v : Writer} {d n : ℕ} → n < 10 → d ≡ 48 + n → Writes w v (d ∷ []) → Writes w v (digits_of n)
writes_one {n = n} h e p = rw (digits_one n h, ← e) p

pub writes_digits : {u v w : Writer} {d n : ℕ} → 10 ≤ n → Writes u v (digits_of (n / 10)) → d ≡ 48 + n % 10 → Writes v w (d ∷ []) → Writes u w (digits_of n)
writes_digits {n = n} h p e q = rw (digits_more n h, ← e) (writes_then p q)
