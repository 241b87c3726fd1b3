-- A transaction in the tables with it: its counts are those of its record, so it is judged by them first.
-- Assumes nothing.
use Rattle.std.proofs.Common.{ℕ, ◌+◌, ◌<◌, true, List, inl, inr, ◌≡◌, sym, ◌∙◌, arith, ap, leb, length, get_or, get_or-set_same, leb-false}
use Rattle.bounded.specs.Bounded.{or_else}
use Rattle.bounded.proofs.Truth.{bool}
use Rattle.tables.specs.Lists.{no_txn, read_count, write_count}
use Rattle.tables.specs.Judge.{count_refusal, key_refusal, txn_refusal}
use Rattle.tables.specs.declared.Txn.{Txn}
use Rattle.tables.specs.declared.Tables.{Tables}
use Rattle.records.proofs.Laws.{byte}
use Rattle.files.specs.Rows.{with_txn}

-- the body's first byte, and the one after as many more
abbrev pub first_count : List ℕ → ℕ → ℕ
first_count s start = get_or s start 0

abbrev pub second_count : List ℕ → ℕ → ℕ
second_count s start = get_or s (start + 1 + get_or s start 0) 0

-- there is no place for a 129th
past : (t r w : ℕ) → leb 128 t ≡ true → count_refusal t r w ≡ 5
unfolding count_refusal
past t r w e = rw e

module _ (T : Tables) (s : List ℕ) (start : ℕ) (places : length T.txn ≡ 128) where
  pub read_count_lem : T.txns < 128 → read_count (with_txn T s start) T.txns ≡ first_count s start
  unfolding with_txn
  read_count_lem l = ap (λ (x : Txn). x.reads.count) (get_or-set_same T.txn T.txns _ no_txn (omega arith)) ∙ byte s start

  pub write_count_lem : T.txns < 128 → write_count (with_txn T s start) T.txns ≡ second_count s start
  unfolding with_txn
  write_count_lem l = ap (λ (x : Txn). x.writes.count) (get_or-set_same T.txn T.txns _ no_txn (omega arith)) ∙ simp byte

  counts : count_refusal T.txns (read_count (with_txn T s start) T.txns) (write_count (with_txn T s start) T.txns) ≡ count_refusal T.txns (first_count s start) (second_count s start)
  counts = elim (bool (leb 128 T.txns)) [
    | inl e ↦ past T.txns _ _ e ∙ sym (past T.txns _ _ e)
    | inr e ↦ rw (read_count_lem (leb-false 128 T.txns e), write_count_lem (leb-false 128 T.txns e))
  ]

  pub txn_judged : txn_refusal (with_txn T s start) T.txns ≡ or_else (count_refusal T.txns (first_count s start) (second_count s start)) (key_refusal (with_txn T s start) T.txns)
  unfolding txn_refusal
  txn_judged = rw counts
