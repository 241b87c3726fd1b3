-- What one record of a setup comes to: refused, taken into the tables, or END.
-- Assumes nothing.
use Rattle.std.proofs.Common.{Some, None, Ok, Err, ℕ, suc, ◌<◌, ◌≤◌, Bool, true, false, ◌&&◌, ◌||◌, not, cond, List, ◌≡◌, refl, inl, inr, eqb, leb, ltb, length, eqb-true, leb-false}
use types.Run.{OneOf, hit}
use borrow.Author.Tests.{eqb-false}
use Rattle.bounded.specs.Bounded.{all_below, or_else}
use Rattle.bounded.proofs.Truth.{clash}
use Rattle.keys.specs.Keys.{within}
use Rattle.tables.specs.Lists.{present, twice, read_row, read_count, write_row, write_count}
use Rattle.tables.specs.Sites.{size_in, mask_in, sites_in}
use Rattle.tables.specs.Judge.{size_refusal, group_refusal, count_refusal, key_refusal, txn_refusal, some_group, end_refusal}
use Rattle.tables.specs.declared.Tables.{Tables}
use Rattle.records.specs.declared.Record.{Record}
use Rattle.records.proofs.Laws.{Lies}
use Rattle.records.proofs.Good.{Is, first_numbers, judge_is}
use Rattle.numbers.specs.Numbers.{file_number}
use Rattle.numbers.specs.declared.FileRefusal.{FileRefusal}
use Rattle.numbers.specs.declared.FileRefusal.TheVariants.{Misplaced}
use Rattle.numbers.specs.Numbers.{file_refusal}
use Rattle.files.specs.Refusal.{misfit}
use Rattle.files.specs.Setup.{allowed, in_setup, Turned, reading, taken, ended, turn_by, turn_of}
use Rattle.files.specs.Rows.{with_keys, with_group, with_txn}
use Rattle.files.proofs.Fine.{keys_length}
use Rattle.files.proofs.Refusals.{record_numbers, numbered}

-- ---- the numbers that refuse a record

-- those of the first judgement are among them
pub first_number : (n : ℕ) → OneOf first_numbers n → OneOf record_numbers n
first_number n (inl e) = inl e
first_number n (inr (inl e)) = inr (inl e)
first_number n (inr (inr e)) = inr (inr (inl e))

-- a test that refuses with m, or not at all
one : (m : ℕ) → OneOf record_numbers m → (b : Bool) → (cond b m 0 ≡ 0 → ⊥) → OneOf record_numbers (cond b m 0)
one m o true h = o
one m o false h = absurd (h refl)

group_number : (T : Tables) (g : ℕ) → (group_refusal T g ≡ 0 → ⊥) → OneOf record_numbers (group_refusal T g)
unfolding size_refusal
group_number T g h =
    let size = size_in T.group g in
    let mask = mask_in T.group g in
    one 5 (hit record_numbers 5 tt) (leb 8 g || (eqb size 0 || (ltb 16 (sites_in T.group (suc g)) || (eqb mask 0 || not (within mask T.keys))))) h

-- an absent key before a key twice
txn_number : (T : Tables) (t : ℕ) → (txn_refusal T t ≡ 0 → ⊥) → OneOf record_numbers (txn_refusal T t)
unfolding txn_refusal count_refusal key_refusal
txn_number T t =
    let r = read_count T t in
    let w = write_count T t in
    by (leb 128 t || (ltb 8 r || (ltb 8 w || (eqb r 0 && eqb w 0))))
    (present (read_row T t) r T.keys && present (write_row T t) w T.keys)
    (twice (read_row T t) r || twice (write_row T t) w)
  where
    by : (a p q : Bool) → (or_else (cond a 5 0) (cond p (cond q 6 0) 5) ≡ 0 → ⊥) → OneOf record_numbers (or_else (cond a 5 0) (cond p (cond q 6 0) 5))
    by true p q h = hit record_numbers 5 tt
    by false true q h = one 6 (hit record_numbers 6 tt) q h
    by false false q h = hit record_numbers 5 tt

end_number : (T : Tables) → (end_refusal T ≡ 0 → ⊥) → OneOf record_numbers (end_refusal T)
unfolding end_refusal
end_number T = by (all_below T.keys (some_group T.group T.groups))
  where
    by : (b : Bool) → (◌≡◌ {A = ℕ} (cond b 0 7) 0 → ⊥) → OneOf record_numbers (cond b 0 7)
    by true h = absurd (h refl)
    by false h = hit record_numbers 7 tt

-- ---- what the tags tell of the tables so far

keys_first : (keys groups txns : ℕ) → allowed keys groups txns 0x01 ≡ true → keys ≡ 0
unfolding allowed
keys_first keys groups txns = by (eqb keys 0) (eqb groups 0) refl
  where
    by : (p q : Bool) → eqb keys 0 ≡ p → cond p true (cond q false false) ≡ true → keys ≡ 0
    by true q e h = eqb-true keys 0 e
    by false true e h = clash h refl
    by false false e h = clash h refl

keys_before : (keys groups txns tag : ℕ) → allowed keys groups txns tag ≡ true → eqb tag 0x01 ≡ false → keys ≡ 0 → ⊥
unfolding allowed
keys_before keys groups txns tag h e k = clash (rw k at h) e

groups_before : (keys groups txns : ℕ) → allowed keys groups txns 0x0F ≡ true → groups ≡ 0 → ⊥
unfolding allowed
groups_before keys groups txns h g = by (eqb keys 0) (rw g at h)
  where
    by : (p : Bool) → cond p false false ≡ true → ⊥
    by true q = clash q refl
    by false q = clash q refl

-- ---- the cases

-- what is to be shown of the reading after the record at at, in each case
pub record Cases (T : Tables) (s : List ℕ) (at : ℕ) (P : Turned → Type 0) : Type 0 where
  pub refuses : (why : FileRefusal) → OneOf record_numbers (file_number why) → P (reading (Err (misfit why at)) T)
  pub keys : (r : Record) → Lies s at r → T.keys ≡ 0 → r.len ≤ 256 → P (reading (Ok (Some r.next)) (with_keys T s r.start r.len))
  pub group : (r : Record) → Lies s at r → (T.keys ≡ 0 → ⊥) → group_refusal (with_group T s r.start) T.groups ≡ 0 → P (reading (Ok (Some r.next)) (with_group T s r.start))
  pub txn : (r : Record) → Lies s at r → (T.keys ≡ 0 → ⊥) → txn_refusal (with_txn T s r.start) T.txns ≡ 0 → P (reading (Ok (Some r.next)) (with_txn T s r.start))
  pub ready : (T.keys ≡ 0 → ⊥) → (T.groups ≡ 0 → ⊥) → end_refusal T ≡ 0 → P (reading (Ok None) T)
  -- something follows END
  pub follows : (next : ℕ) → next < length s → P (reading (Err (misfit Misplaced next)) T)

module _ (T : Tables) (s : List ℕ) (at : ℕ) (P : Turned → Type 0) (c : Cases T s at P) where
  refused : (n : ℕ) → OneOf record_numbers n → P (reading (Err (misfit (file_refusal n) at)) T)
  refused n o = c.refuses (file_refusal n) (rw (numbered n o) o)

  taken_is : (n : ℕ) (new : Tables) (next : ℕ) → ((n ≡ 0 → ⊥) → OneOf record_numbers n) → (n ≡ 0 → P (reading (Ok (Some next)) new)) → P (taken T at n new next)
  unfolding taken
  taken_is n new next o h = by (eqb n 0) refl
    where
      by : (b : Bool) → eqb n 0 ≡ b → P (cond b (reading (Ok (Some next)) new) (reading (Err (misfit (file_refusal n) at)) T))
      by true e = h (eqb-true n 0 e)
      by false e = refused n (o (eqb-false n 0 e))

  end_is : (next : ℕ) → (T.keys ≡ 0 → ⊥) → (T.groups ≡ 0 → ⊥) → P (ended T s at next)
  unfolding ended
  end_is next k g = by (eqb (end_refusal T) 0) (leb (length s) next) refl refl
    where
      by : (b l : Bool) → eqb (end_refusal T) 0 ≡ b → leb (length s) next ≡ l
          → P (cond b (reading (cond l (Ok None) (Err (misfit Misplaced next))) T) (reading (Err (misfit (file_refusal (end_refusal T)) at)) T))
      by true true e i = c.ready k g (eqb-true (end_refusal T) 0 e)
      by true false e i = c.follows next (leb-false (length s) next i)
      by false l e i = refused (end_refusal T) (end_number T (eqb-false (end_refusal T) 0 e))

  good_turn : (r : Record) → Is (in_setup T) s at r → P (turn_by T s at (Ok r))
  good_turn r i = by (eqb r.tag 0x0F) (eqb r.tag 0x01) (eqb r.tag 0x02) refl refl
    where
      first : (k : ℕ) → eqb r.tag k ≡ true → allowed T.keys T.groups T.txns k ≡ true
      first k e = rw (eqb-true r.tag k e) at i.allowed

      before : eqb r.tag 0x01 ≡ false → T.keys ≡ 0 → ⊥
      before e = keys_before T.keys T.groups T.txns r.tag i.allowed e

      by : (p q b : Bool) → eqb r.tag 0x0F ≡ p → eqb r.tag 0x01 ≡ q →
          P (cond p (ended T s at r.next) (taken T at
          (cond q 0 (cond b (group_refusal (with_group T s r.start) T.groups) (txn_refusal (with_txn T s r.start) T.txns)))
          (cond q (with_keys T s r.start r.len) (cond b (with_group T s r.start) (with_txn T s r.start))) r.next))
      by true q b e f = end_is r.next (before (rw (eqb-true r.tag 0x0F e))) (groups_before T.keys T.groups T.txns (first 0x0F e))
      by false true b e f = taken_is 0 (with_keys T s r.start r.len) r.next (λ h. absurd (h refl)) (λ _. c.keys r i.lies (keys_first T.keys T.groups T.txns (first 0x01 f)) (keys_length s r.start r.len (rw (eqb-true r.tag 0x01 f) at i.fitting)))
      by false false true e f = taken_is (group_refusal (with_group T s r.start) T.groups) (with_group T s r.start) r.next (group_number (with_group T s r.start) T.groups) (c.group r i.lies (before f))
      by false false false e f = taken_is (txn_refusal (with_txn T s r.start) T.txns) (with_txn T s r.start) r.next (txn_number (with_txn T s r.start) T.txns) (c.txn r i.lies (before f))

  pub turn_is : P (turn_of T s at)
  unfolding turn_of
  turn_is = judge_is (in_setup T) s at (λ j. P (turn_by T s at j)) good_turn (λ why o. c.refuses why (first_number (file_number why) o))
