-- A fresh view, the views reached from it, and what holds of each: one-copy serializability.
-- Assumes nothing.
use mathlib.Core.Path.{◌≡◌, refl, sym, ap, ◌∙◌}
use mathlib.Core.Bool.{Bool, true, false}
use mathlib.Core.Logic.{inl, inr}
use Prim.Native.Nat.{ℕ, ◌≤◌, ◌<◌}
use native.Mathlib.Omega.{arith}
use Rattle.bounded.proofs.Truth.{clash, same}
use Rattle.onecopy.specs.Copy.{Table, run, chosen}
use Rattle.onecopy.specs.View.{View, there, committed, single}
use Rattle.onecopy.specs.Serial.{Matches, Serial}
use Rattle.onecopy.proofs.Base.{less}
use Rattle.onecopy.proofs.Copy.{copy_gap, copy_chain}
use Rattle.onecopy.proofs.Inv.{Fit, Inv, agree, closed_placed, local, stored, top_store}
use Rattle.onecopy.proofs.Read.{read_v, Reads, read_inv}
use Rattle.onecopy.proofs.Place.{place_v, Places}
use Rattle.onecopy.proofs.PlaceKeeps.{place_inv}
use Rattle.onecopy.proofs.Deliver.{deliver_v, Delivers, carry_v}
use Rattle.onecopy.proofs.DeliverKeeps.{deliver_inv, carry_inv}
use Rattle.onecopy.proofs.Close.{close_v, Closes}
use Rattle.onecopy.proofs.CloseKeeps.{close_inv}

-- nothing has a place, and each replica has version 1 with the first value; n and e, who stands at a place and what was read, are any
unfoldable pub fresh_v : Table → (ℕ → ℕ) → (ℕ → ℕ → ℕ × ℕ) → View
fresh_v T n e = record {
  order = record { place = λ _. 0; at = n };
  seen = e;
  recorded = λ _ _. false;
  delivered = λ _ _. false;
  closed = λ _ _. 0;
  cast = λ _ _. 0;
  held = λ _ _ _. false;
  store = λ _ k. (1, T.first k);
}

pub fresh_inv : (T : Table) (n : ℕ → ℕ) (e : ℕ → ℕ → ℕ × ℕ) → Inv T (fresh_v T n e)
unfolding fresh_v run chosen
fresh_inv T n e = record {
  at_place = λ t h. absurd (omega arith);
  placed_recorded = λ t k h r. absurd (omega arith);
  delivered_placed = λ s t d. clash d refl;
  delivered_concerns = λ s t d. clash d refl;
  closed_delivered = λ s t h. absurd (omega arith);
  cast_delivered = λ s t h. absurd (omega arith);
  held_cast = λ t f a h. clash h refl;
  in_order = λ s t u d n p l. clash d refl;
  vote = λ s t k h r q. absurd (omega arith);
  vote_yes = λ s t k h r q. absurd (omega arith);
  vote_no = λ s t h. absurd (omega arith);
  commit = λ s t k h r. absurd (omega arith);
  abort = λ s t h. absurd (omega arith);
  site = λ s. record {
    top = 0;
    anchor = λ l. absurd (omega arith);
    above = λ u h. absurd (omega arith);
    below = λ u n p l. absurd (omega arith);
    content = λ k h. refl;
  };
  origin = λ t k h. clash h refl;
}

-- the steps, each with what it asks
pub data Step (T : Table) (v : View) : View → Type 0 where
  read : (t : ℕ) (d : ℕ → Bool) (s : ℕ) → Reads T v t d s → Step T v (read_v v t d s)
  place : (t p : ℕ) → Places T v t p → Step T v (place_v v t p)
  deliver : (s t c : ℕ) → Delivers T v s t c → Step T v (deliver_v v s t c)
  carry : (t f a : ℕ) → 0 < v.cast f t → Step T v (carry_v v t f a)
  close : (s t c : ℕ) → Closes T v s t c → Step T v (close_v T v s t c)

pub data Reach (T : Table) : View → Type 0 where
  start : (n : ℕ → ℕ) (e : ℕ → ℕ → ℕ × ℕ) → Reach T (fresh_v T n e)
  go : {v w : View} → Reach T v → Step T v w → Reach T w

pub step_inv : (T : Table) → Fit T → {v w : View} → Inv T v → Step T v w → Inv T w
step_inv T fit {v} i (read t d s g) = read_inv T fit v i t d s g
step_inv T fit {v} i (place t p g) = place_inv T fit v i t p g
step_inv T fit {v} i (deliver s t c g) = deliver_inv T fit v i s t c g
step_inv T fit {v} i (carry t f a g) = carry_inv T v i t f a g
step_inv T fit {v} i (close s t c g) = close_inv T fit v i s t c g

pub reach_inv : (T : Table) → Fit T → {v : View} → Reach T v → Inv T v
reach_inv T fit (start n e) = fresh_inv T n e
reach_inv T fit (go r s) = step_inv T fit (reach_inv T fit r) s

module _ (T : Table) (fit : Fit T) (v : View) (i : Inv T v) where
  -- two places at which the single copy has one version of k have one value of it
  chain : (p q k : ℕ) → (single T v p k).0 ≡ (single T v q k).0 → (single T v p k).1 ≡ (single T v q k).1
  chain p q k e = elim (less p q) [ inl l ↦ up p q (omega arith) e | inr l ↦ sym (up q p l (sym e)) ]
    where
      up : (p q : ℕ) → p ≤ q → (single T v p k).0 ≡ (single T v q k).0 → (single T v p k).1 ≡ (single T v q k).1
      up p q l = (copy_chain T v.order k (committed T.sites v.closed) p q l).1

  pub matches : (s t : ℕ) → v.closed s t ≡ 1 → Matches T v t
  matches s t e k r =
      let (f, h, y) = i.commit s t k e r in
      let o = i.origin t k (i.placed_recorded t k (closed_placed T fit v i s t (omega arith)) r) in
      let n : (single T v o.upto k).0 ≡ (single T v (v.order.place t) k).0 = ap (λ x. x.0) o.is ∙ i.vote_yes f t k y r h in
      sym o.is ∙ (λ j. (n j, chain o.upto (v.order.place t) k n j))

  pub commits : (s t : ℕ) → 0 < v.closed s t → Matches T v t → v.closed s t ≡ 1
  commits s t h m = elim (same (v.closed s t) 1) [
    | inl e ↦ e
    | inr n ↦ absurd (
        let (f, b) = i.abort s t (omega arith) in
        let (k, r, q, ne) = i.vote_no f t b in
        ne (ap (λ x. x.0) (m k r)))
  ]

  pub last : (s : ℕ) → ((u : ℕ) → T.concerns s u ≡ true → 0 < v.order.place u → 0 < v.closed s u)
      → (k p : ℕ) → T.holds s k ≡ true → ((u : ℕ) → v.order.place u < p) → single T v p k ≡ v.store s k
  last s every k p h b =
      local T fit v i s k p (λ u w a l. every u (fit.writer s u k w h) a)
      ∙ elim (less p (i.site s).top) [
        | inl l ↦ sym (copy_gap T v.order k (there v.closed s) p (i.site s).top (omega arith) (λ u a _. absurd (omega (arith, b u)))) ∙ (i.site s).content k h
        | inr l ↦ stored T fit v i s k p h l
      ]

  pub serial : Serial T v
  serial = record {
    agreement = agree T fit v i;
    exactly = λ s t h. (matches s t, commits s t h);
    replica = λ s k h. ((i.site s).top, top_store T fit v i s k h);
    one_value = λ s k p h e. let d = top_store T fit v i s k h in
        chain p (i.site s).top k (e ∙ sym (ap (λ x. x.0) d)) ∙ ap (λ x. x.1) d;
    last = last;
  }

-- one-copy serializability of every view reached
pub reached : (T : Table) → Fit T → {v : View} → Reach T v → Serial T v
reached T fit {v} r = serial T fit v (reach_inv T fit r)
