-- What a commit stores, cell by cell.
-- Assumes nothing.
use Rattle.std.proofs.Common.{ℕ, zero, suc, ◌+◌, ◌*◌, ◌≤◌, ◌<◌, ◌≡◌, refl, ◌∙◌, arith, add-one, Bool, true, false, ◌||◌, not, cond, ltb, ltb-true, ◌⊎◌, inl, inr, List, length, length-set, get_or, set}
use Rattle.std.proofs.lemmas.List.{get_or-set_same, get_or-set_other}
use Rattle.bounded.proofs.Truth.{same}
use Rattle.bounded.proofs.Laws.{all_get}
use Rattle.tables.specs.Lists.{write_count, write_key, write_value}
use Rattle.tables.specs.Sites.{holds}
use Rattle.tables.specs.declared.Tables.{Tables}
use Rattle.parts.specs.Cells.{version_in}
use Rattle.parts.specs.Changed.{with_stores}
use Rattle.parts.specs.declared.Parts.{Parts}
use Rattle.rules.specs.Votes.{room_in}
use Rattle.rules.specs.Asked.{room_of}
use Rattle.effects.specs.Stored.{stored, raised, versions_in, committed_in, partly_in, written_in, Room}
use Rattle.steps.specs.Kinds.{version}

-- ---- a store

module _ {A : Type 0} (T : Tables) (t s : ℕ) (d : A) (f : ℕ → A → A) (l : List A) where
  -- the store stays as long
  pub stored_length : (n : ℕ) → length (stored T t s d f l n) ≡ length l
  unfolding stored
  stored_length zero = refl
  stored_length (suc i) = by (holds T s (write_key T t i)) (stored_length i)
    where
      by : (b : Bool) → length (stored T t s d f l i) ≡ length l
          → length (cond b (set (stored T t s d f l i) (s * 64 + write_key T t i) (f i (get_or l (s * 64 + write_key T t i) d))) (stored T t s d f l i)) ≡ length l
      by true e = length-set (stored T t s d f l i) _ _ ∙ e
      by false e = e

  -- a cell that no written key held by s has is as it was
  pub stored_other : (n j : ℕ) → ((i : ℕ) → i < n → holds T s (write_key T t i) ≡ true → j ≡ s * 64 + write_key T t i → ⊥) → get_or (stored T t s d f l n) j d ≡ get_or l j d
  unfolding stored
  stored_other zero j h = refl
  stored_other (suc n) j h = by (holds T s (write_key T t n)) refl (stored_other n j (λ i b. h i (omega arith)))
    where
      by : (b : Bool) → holds T s (write_key T t n) ≡ b → get_or (stored T t s d f l n) j d ≡ get_or l j d
          → get_or (cond b (set (stored T t s d f l n) (s * 64 + write_key T t n) (f n (get_or l (s * 64 + write_key T t n) d))) (stored T t s d f l n)) j d ≡ get_or l j d
      by true k e = get_or-set_other (stored T t s d f l n) (s * 64 + write_key T t n) j (f n (get_or l (s * 64 + write_key T t n) d)) d (h n (omega arith) k) ∙ e
      by false k e = e

  -- the cell of the i-th written key, where s holds it
  pub stored_at : (n i : ℕ) → i < n → ((j : ℕ) → j < n → write_key T t i ≡ write_key T t j → i ≡ j) → holds T s (write_key T t i) ≡ true → s * 64 + write_key T t i < length l
      → get_or (stored T t s d f l n) (s * 64 + write_key T t i) d ≡ f i (get_or l (s * 64 + write_key T t i) d)
  unfolding stored
  stored_at zero i b u h k = absurd (omega arith)
  stored_at (suc n) i b u h k = by (same i n) (stored_at n i)
    where
      P : ℕ → Type 0
      P n = get_or (stored T t s d f l n) (s * 64 + write_key T t i) d ≡ f i (get_or l (s * 64 + write_key T t i) d)

      last : (b : Bool) → (i ≡ n → ⊥) → P n
          → get_or (cond b (set (stored T t s d f l n) (s * 64 + write_key T t n) (f n (get_or l (s * 64 + write_key T t n) d))) (stored T t s d f l n)) (s * 64 + write_key T t i) d ≡ f i (get_or l (s * 64 + write_key T t i) d)
      last true m e = get_or-set_other (stored T t s d f l n) (s * 64 + write_key T t n) (s * 64 + write_key T t i) (f n (get_or l (s * 64 + write_key T t n) d)) d (λ q. m (u n (omega arith) (omega arith))) ∙ e
      last false m e = e

      by : (i ≡ n) ⊎ (i ≡ n → ⊥) → (i < n → ((j : ℕ) → j < n → write_key T t i ≡ write_key T t j → i ≡ j) → holds T s (write_key T t i) ≡ true → s * 64 + write_key T t i < length l → P n)
          → get_or (cond (holds T s (write_key T t n)) (set (stored T t s d f l n) (s * 64 + write_key T t n) (f n (get_or l (s * 64 + write_key T t n) d))) (stored T t s d f l n)) (s * 64 + write_key T t i) d
          ≡ f i (get_or l (s * 64 + write_key T t i) d)
      by (inl e) r = rw (← e, h) (get_or-set_same (stored T t s d f l i) (s * 64 + write_key T t i) (f i (get_or l (s * 64 + write_key T t i) d)) d (omega (arith, stored_length i)))
      by (inr e) r = last (holds T s (write_key T t n)) e (r (omega arith) (λ j q. u j (omega arith)) h k)

-- ---- the writes of a commit

module _ (T : Tables) (w : Parts) (t s : ℕ) where
  -- at first none
  pub none_written : partly_in T w t s 0 ≡ w
  unfolding raised stored
  none_written = refl

  -- one more, where s holds the key
  pub one_written : (i : ℕ) → holds T s (write_key T t i) ≡ true
      → partly_in T w t s (i + 1)
      ≡ (let p = partly_in T w t s i in let j = s * 64 + write_key T t i in with_stores p (set p.versions j (version ((get_or p.versions j (version 0)).0 + 1))) (set p.values j (write_value T t i)))
  unfolding raised stored
  one_written i h = rw (add-one i, h)

  -- and where it does not
  pub one_skipped : (i : ℕ) → holds T s (write_key T t i) ≡ false → partly_in T w t s (i + 1) ≡ partly_in T w t s i
  unfolding raised stored
  one_skipped i h = rw (add-one i, h)

-- where t writes no key twice, the versions raised are those stored
module _ (T : Tables) (w : Parts) (t s : ℕ) (once : (i j : ℕ) → i < write_count T t → j < write_count T t → write_key T t i ≡ write_key T t j → i ≡ j) where
  -- the writes before the i-th store elsewhere
  still : (i : ℕ) → i < write_count T t → get_or (versions_in T w t s i) (s * 64 + write_key T t i) (version 0) ≡ get_or w.versions (s * 64 + write_key T t i) (version 0)
  still i h = stored_other T t s (version 0) (λ i v. version (v.0 + 1)) w.versions i _ (λ j m _ q. let e = once i j h (omega arith) (omega arith) in absurd (omega arith))

  pub raised_once : (n : ℕ) → n ≤ write_count T t → raised T t s w.versions n ≡ versions_in T w t s n
  unfolding raised stored
  raised_once zero h = refl
  raised_once (suc i) h = rw (raised_once i (omega arith), still i (omega arith))

  -- so all that is written is what a commit stores
  pub written_once : written_in T w t s ≡ committed_in T w t s
  written_once = rw (raised_once (write_count T t) (omega arith))

  -- and where the commit has room, so have its writes
  pub has_room : room_of T w.versions t s ≡ true → Room T w t s
  unfolding room_in
  has_room room i h m =
      rw (raised_once i (omega arith), still i h)
      (ltb-true _ _ (rw m at (all_get (write_count T t) (λ i. not (holds T s (write_key T t i)) || ltb (version_in w.versions s (write_key T t i)) 4294967295) room i h)))
