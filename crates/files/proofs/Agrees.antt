-- Tables of a setup that was read to its END: the judgement of tables takes what the reader takes.
-- Assumes nothing.
use Rattle.std.proofs.Common.{Result, Ok, Err, ℕ, suc, ◌+◌, ◌<◌, ◌≤◌, Bool, true, false, cond, List, inl, inr, ◌≡◌, refl, ap, arith, ltb, length, get_or, get_or-set_other, ne_eqb, le-ltb}
use Rattle.bounded.proofs.Truth.{same}
use Rattle.bounded.proofs.Laws.{sum_same, of_put}
use Rattle.tables.specs.Empty.{no_tables}
use Rattle.tables.specs.Lists.{no_txn}
use Rattle.tables.specs.Sites.{no_group, size_in}
use Rattle.tables.specs.Judge.{keys_refusal, group_refusal, key_refusal, txn_refusal, end_refusal, judge}
use Rattle.tables.specs.declared.Group.{Group}
use Rattle.tables.specs.declared.Tables.{Tables}
use Rattle.files.specs.Rows.{with_keys, with_group, with_txn}
use Rattle.files.specs.Setup.{setup_read, read_setup}
use Rattle.numbers.specs.declared.FileRefusal.TheVariants.{TooLong}
use Rattle.files.specs.File.{refused, parts_by, opened, limit, file_of}
use Rattle.files.specs.declared.Refused.{Refused}
use Rattle.files.specs.declared.Where.TheVariants.{InSetup}
use Rattle.files.specs.declared.Reading.{Reading}
use Rattle.files.proofs.Falls.{setup_has}

-- ---- what holds of the tables at each turn

pub record Sound (T : Tables) : Type 0 where
  pub keys : T.keys ≤ 64
  pub first : T.keys ≡ 0 → (T.groups ≡ 0) × (T.txns ≡ 0)
  pub groups : (g : ℕ) → g < T.groups → group_refusal T g ≡ 0
  pub txns : (t : ℕ) → t < T.txns → txn_refusal T t ≡ 0

none_sound : Sound no_tables
unfolding no_tables
none_sound = record {
  keys = omega arith;
  first = λ _. (refl, refl);
  groups = λ g l. absurd (omega arith);
  txns = λ t l. absurd (omega arith);
}

module _ (T : Tables) (s : List ℕ) (start : ℕ) (h : Sound T) where
  keys_sound : (len : ℕ) → T.keys ≡ 0 → len ≤ 256 → Sound (with_keys T s start len)
  unfolding with_keys
  keys_sound len z l = record {
    keys = omega arith;
    first = λ _. h.first z;
    groups = λ g m. absurd (omega (arith, (h.first z).0));
    txns = λ t m. absurd (omega (arith, (h.first z).1));
  }

  -- later records leave what stands before them
  group_before : (g : ℕ) → (g ≡ T.groups → ⊥) → get_or (with_group T s start).group g no_group ≡ get_or T.group g no_group
  unfolding with_group
  group_before g q = get_or-set_other T.group T.groups g _ no_group q

  txn_before : (t : ℕ) → (t ≡ T.txns → ⊥) → get_or (with_txn T s start).txn t no_txn ≡ get_or T.txn t no_txn
  unfolding with_txn
  txn_before t q = get_or-set_other T.txn T.txns t _ no_txn q

  group_sound : (T.keys ≡ 0 → ⊥) → group_refusal (with_group T s start) T.groups ≡ 0 → Sound (with_group T s start)
  unfolding with_group txn_refusal key_refusal
  group_sound k e = record {
    keys = h.keys;
    first = λ z. absurd (k z);
    groups = λ g l. elim (same g T.groups) [
      | inl q ↦ rw q e
      | inr q ↦ (let kept = group_before g q in
          let sites = sum_same (suc g) (size_in (with_group T s start).group) (size_in T.group) (λ i m. ap (λ (x : Group). x.sites) (group_before i (λ d. omega arith))) in
          let was = h.groups g (omega arith) in
          cc)
    ];
    txns = h.txns;
  }

  txn_sound : (T.keys ≡ 0 → ⊥) → txn_refusal (with_txn T s start) T.txns ≡ 0 → Sound (with_txn T s start)
  unfolding with_txn txn_refusal key_refusal
  txn_sound k e = record {
    keys = h.keys;
    first = λ z. absurd (k z);
    groups = h.groups;
    txns = λ t l. elim (same t T.txns) [
      | inl q ↦ rw q e
      | inr q ↦ let kept = txn_before t q in let was = h.txns t (omega arith) in cc
    ];
  }

-- ---- at END they are judged

judged : (T : Tables) → Sound T → (T.keys ≡ 0 → ⊥) → (T.groups ≡ 0 → ⊥) → end_refusal T ≡ 0 → judge T ≡ 0
unfolding judge keys_refusal
judged T h k g e = rw (
  ne_eqb T.keys 0 k,
  le-ltb 64 T.keys h.keys,
  ne_eqb T.groups 0 g,
  of_put T.groups (group_refusal T) h.groups,
  of_put T.txns (txn_refusal T) h.txns,
) e

-- a setup read as far as it goes, where it is not refused
abbrev Ends : Reading ℕ → Type 0
Ends x = elim x.outcome [ Ok _ ↦ judge x.tables ≡ 0 | Err e ↦ Unit {0} ]

setup_ends : (s : List ℕ) → Ends (read_setup s)
setup_ends s = setup_has s (λ r. Sound r.tables) Ends (λ x h. record {
  refuses = λ why o. tt;
  keys = λ r l k m. keys_sound x.tables s r.start h r.len k m;
  group = λ r l k e. group_sound x.tables s r.start h k e;
  txn = λ r l k e. txn_sound x.tables s r.start h k e;
  ready = λ k g e. judged x.tables h k g e;
  follows = λ next l. tt;
}) none_sound

-- a file that is not refused
pub file_judged : (setup schedule : List ℕ) → (file_of setup schedule).outcome ≡ Ok tt → judge (file_of setup schedule).tables ≡ 0
unfolding file_of
file_judged setup schedule = by (ltb limit (length setup + length schedule)) (read_setup setup).outcome (read_setup setup).tables (setup_ends setup)
  where
    by : (b : Bool) (v : Result (Unit {0}) (Refused ℕ)) (T : Tables) → Ends (setup_read v T)
        → (cond b (opened (Err (refused TooLong (InSetup 0))) no_tables) (opened (parts_by v schedule) T)).outcome ≡ Ok tt
        → judge (cond b (opened (Err (refused TooLong (InSetup 0))) no_tables) (opened (parts_by v schedule) T)).tables ≡ 0
    by true v T h e = cc
    by false (Ok _) T h e = h
    by false (Err m) T h e = cc
