-- What the search for a CLOSE finds, given what is known.
-- Assumes nothing.
use Rattle.std.proofs.Common.{ℕ, ◌≤◌, ◌≡◌, sym, true, false, inl, inr, arith, eqb, eq-eqb, ne_eqb, eqb-true}
use Rattle.parts.specs.Cells.{place_in, nobody}
use Rattle.bounded.proofs.Truth.{clash, same}
use Rattle.bounded.proofs.Laws.{first_only, first-none, first_lacks}
use Rattle.tables.specs.declared.Tables.{Tables}
use Rattle.tables.specs.Fits.{Fits}
use Rattle.search.specs.Search.{Seen, closing, closes_first_in}
use Rattle.search.specs.Known.{any, excludes, KnowsAt}
use Rattle.search.proofs.Closes.{close_has}

-- any excludes none
pub excludes_none : (c u : ℕ) → c ≡ any → excludes c u ≡ true → ⊥
excludes_none c u e h = clash h (rw e)

-- ---- CLOSE

-- where a code is not any, only the one that it names can be closed
module _ (T : Tables) (fits : Fits T) (w : Seen) (s c : ℕ) (one : c ≡ any → ⊥) (k : KnowsAt T w s c) where
  only : (u : ℕ) → eqb (closing T w u s) 0 ≡ true → u ≡ c
  only u z = elim (same c u) [ inl e ↦ sym e | inr d ↦ absurd (k u (rw (ne_eqb c any one, ne_eqb c u d)) (eqb-true _ _ z)) ]

  -- so it is the first, if it can be
  pub code_closes : eqb (closing T w c s) 0 ≡ true → closes_first_in T w s ≡ c
  unfolding closes_first_in
  code_closes h = first_only T.txns (place_in w.places) (λ t. eqb (closing T w t s) 0) nobody fits.txns c (record {
    low = (close_has T w c s (eqb-true _ _ h)).txn;
    passes = h;
    least = λ j l z. rw (only j z) (omega arith);
    lower = λ j l z e. omega (arith, only j z);
  })

  pub code_shut : eqb (closing T w c s) 0 ≡ false → closes_first_in T w s ≡ nobody
  unfolding closes_first_in
  code_shut h = first-none T.txns (place_in w.places) (λ t. eqb (closing T w t s) 0) nobody fits.txns (λ j l z. clash z (rw (only j z) h))

-- where none is found, none can be closed
pub none_closes : (T : Tables) → Fits T → (w : Seen) (s : ℕ) → nobody ≤ closes_first_in T w s → (t : ℕ) → closing T w t s ≡ 0 → ⊥
unfolding closes_first_in
none_closes T fits w s l t z = first_lacks T.txns (place_in w.places) (λ t. eqb (closing T w t s) 0) nobody fits.txns l t (close_has T w t s z).txn (eq-eqb _ _ z)
