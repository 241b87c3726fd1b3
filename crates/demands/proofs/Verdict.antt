-- The verdict, the head of the queue and the room for a version are what the theory asks.
-- Assumes nothing.
use Prim.Native.Nat.{ℕ, ◌≤◌, ◌<◌}
use mathlib.Core.Path.{◌≡◌, refl, sym, ap, subst, ◌∙◌}
use mathlib.Core.Bool.{Bool, true, false, ◌&&◌, ◌||◌, not, cond}
use mathlib.Core.Logic.{◌⊎◌, inl, inr}
use native.Mathlib.Omega.{arith}
use lib.Dec.{eqb, ltb}
use borrow.Author.Tests.{eqb-true, eqb-false, ltb-true, ltb-false, not-true, not-false}
use Rattle.queues.specs.Queue.{precedes, head_in}
use Rattle.bounded.specs.Bounded.{any_below}
use Rattle.bounded.proofs.Truth.{and-true, and_put, or-true, or-false, bool}
use Rattle.bounded.proofs.Laws.{any_get, any_put, any_none, all_get, all_put, all_none, any_lack}
use Rattle.tables.specs.Lists.{read_count, read_key, read_row}
use Rattle.tables.specs.Sites.{site_count, holds}
use Rattle.tables.specs.declared.Tables.{Tables}
use Rattle.rules.specs.Votes.{covers_key, covered_in, all_yes_in, verdict_by}
use Rattle.machine.specs.Parts.{place_of, delivered_at, closed_at, cast_by, carried_to}
use Rattle.machine.specs.Rules.{queued, at_head, holds_vote_of, verdict}
use Rattle.machine.specs.declared.State.{State}
use Rattle.onecopy.specs.View.{View}
use Rattle.onecopy.proofs.Rules.{Covered, AllYes, OneNo, base_verdicts}
use Rattle.demands.specs.View.{table_of}
use Rattle.demands.proofs.Tables.{Taken, holds_site}
use Rattle.demands.proofs.Cells.{cell_in}
use Rattle.demands.proofs.View.{listed_get, listed_put, known, seat, inv_of, voter_of_lem, placed_of, view_of, Sound}

module _ (st : State) (g : Taken st.tables) (w : Sound st) (t s : ℕ) (txn : t < st.tables.txns) (near : s < 16) where
  abbrev T : Tables
  T = st.tables

  abbrev v : View
  v = view_of T st

  abbrev covered_at : Bool
  covered_at = covered_in (cast_by st t s) (carried_to st t s) T.group T.groups (read_row T t) (read_count T t) (site_count T) s

  abbrev agreed : Bool
  agreed = all_yes_in st.parts.cast (carried_to st t s) (site_count T) t s

  held_is : (f : ℕ) → v.held t f s ≡ holds_vote_of st t s f
  held_is f = rw (cell_in 16 0 st.parts.cast t s near, cell_in 16 0 st.parts.carried t s near)

  cast_is : (f : ℕ) → f < site_count T → v.cast f t ≡ cast_by st t f
  cast_is f l = cell_in 16 0 st.parts.cast t f (omega (arith, g.sites))

  held_site : (f : ℕ) → v.held t f s ≡ true → (f < site_count T) × (0 < v.cast f t)
  held_site f h =
      let i = inv_of T st w in
      let c = i.held_cast t f s h in
      (known T f t (i.delivered_concerns f t (i.cast_delivered f t c)), c)

  -- the sites whose votes s holds together hold all read keys
  covered_get : covered_at ≡ true → Covered (table_of T) v s t
  unfolding covered_in covers_key
  covered_get h k r =
      let (i, a, l, e) = listed_get T.txns t (read_count T t) k (read_row T t) r in
      let x = all_get (read_count T t) (λ i. any_below (site_count T) (λ f. holds_vote_of st t s f && holds T f (read_key T t i))) h i l in
      let (f, m, y) = any_get (site_count T) (λ f. holds_vote_of st t s f && holds T f (read_key T t i)) x in
      let (p, q) = and-true (holds_vote_of st t s f) (holds T f (read_key T t i)) y in
      (f, held_is f ∙ p, subst (λ j. holds T f j ≡ true) e q)

  covered_put : Covered (table_of T) v s t → covered_at ≡ true
  unfolding covered_in covers_key
  covered_put c = all_put (read_count T t) (λ i. any_below (site_count T) (λ f. holds_vote_of st t s f && holds T f (read_key T t i))) (λ i l.
      let (f, p, q) = c (read_key T t i) (listed_put T.txns t (read_count T t) i (read_row T t) txn l) in
      any_put (site_count T) (λ f. holds_vote_of st t s f && holds T f (read_key T t i)) f (holds_site T f (read_key T t i) q)
      (and_put (holds_vote_of st t s f) (holds T f (read_key T t i)) (sym (held_is f) ∙ p) q))

  abbrev agrees : ℕ → Bool
  agrees f = not (holds_vote_of st t s f) || eqb (cast_by st t f) 1

  -- every vote held is yes, or one is no
  yes_get : agreed ≡ true → AllYes v s t
  unfolding all_yes_in
  yes_get h f p =
      let (l, c) = held_site f p in
      let x : agrees f ≡ true = all_get (site_count T) agrees h f l in
      cast_is f l ∙ eqb-true (cast_by st t f) 1 (rw (sym (held_is f) ∙ p) at x)

  no_get : agreed ≡ false → OneNo v s t
  unfolding all_yes_in
  no_get h =
      let (f, l, x) = all_none (site_count T) agrees h in
      let (a, b) = or-false (not (holds_vote_of st t s f)) (eqb (cast_by st t f) 1) x in
      let p : v.held t f s ≡ true = held_is f ∙ not-false (holds_vote_of st t s f) a in
      (f, p, let q = eqb-false (cast_by st t f) 1 b in omega (arith, (held_site f p).1, cast_is f l))

  yes_put : AllYes v s t → agreed ≡ true
  yes_put y = elim (bool agreed) [ inl e ↦ e | inr e ↦ absurd (let (f, p, b) = no_get e in omega (arith, y f p)) ]

  no_put : OneNo v s t → agreed ≡ false
  no_put n = elim (bool agreed) [ inl e ↦ absurd (let (f, p, b) = n in omega (arith, yes_get e f p)) | inr e ↦ e ]

  -- with no reads nobody votes
  unread : read_count T t ≡ 0 → Covered (table_of T) v s t × AllYes v s t
  unread e = (λ k r. absurd (none k r), λ f p. absurd (let (k, r, h) = seat T f t (voter_of_lem T st w f t (held_site f p).1) in none k r))
    where
      none : (k : ℕ) → (table_of T).reads t k ≡ true → ⊥
      none k r = let (i, a, l, q) = listed_get T.txns t (read_count T t) k (read_row T t) r in omega arith

  pub verdict_known : (verdict st t s ≡ 0 → ⊥) → (base_verdicts (table_of T)).known v s t (verdict st t s)
  unfolding verdict_by
  verdict_known = by (bool (eqb (read_count T t) 0)) covered_at refl agreed refl
    where
      by : (eqb (read_count T t) 0 ≡ true) ⊎ (eqb (read_count T t) 0 ≡ false) → (c : Bool) → covered_at ≡ c → (a : Bool) → agreed ≡ a
          → (◌≡◌ {A = ℕ} (cond (eqb (read_count T t) 0) 1 (cond c (cond a 1 2) 0)) 0 → ⊥) → (base_verdicts (table_of T)).known v s t (cond (eqb (read_count T t) 0) 1 (cond c (cond a 1 2) 0))
      by (inl e) c ec a ea h = rw e (let (x, y) = unread (eqb-true (read_count T t) 0 e) in (x, inl (refl, y)))
      by (inr e) true ec true ea h = rw e (covered_get ec, inl (refl, yes_get ea))
      by (inr e) true ec false ea h = rw e (covered_get ec, inr (refl, no_get ea))
      by (inr e) false ec a ea h = absurd (h (rw e))

  pub verdict_is : (c : ℕ) → (base_verdicts (table_of T)).known v s t c → verdict st t s ≡ c
  unfolding verdict_by
  verdict_is c k = rw (covered_put k.0) (elim (bool (eqb (read_count T t) 0)) [
    | inl e ↦ rw e (elim k.1 [
      | inl q ↦ sym q.0
      | inr q ↦ absurd (let (f, p, b) = q.1 in omega (arith, (unread (eqb-true (read_count T t) 0 e)).1 f p))
    ])
    | inr e ↦ rw e (elim k.1 [ inl q ↦ rw (yes_put q.1, q.0) | inr q ↦ rw (no_put q.1, q.0) ])
  ])

  -- the head of the queue
  abbrev before : ℕ → Bool
  before u = queued st s u && precedes u (place_of st u) t (place_of st t)

  pub head_get : at_head st t s ≡ true → (u : ℕ) → v.delivered s u ≡ true → v.closed s u ≡ 0 → place_of st t ≤ place_of st u
  unfolding head_in
  head_get h u d o =
      let l = placed_of T st w u ((inv_of T st w).delivered_placed s u d) in
      let x : before u ≡ false = any_none T.txns before (not-true (any_below T.txns before) h) u l in
      let q : queued st s u ≡ true = rw (sym (cell_in 16 false st.parts.delivered u s near) ∙ d, sym (cell_in 16 0 st.parts.closed u s near) ∙ o) in
      ltb-false (place_of st u) (place_of st t) (or-false (ltb (place_of st u) (place_of st t)) _ (rw q at x)).0

  pub head_put : v.delivered s t ≡ true → ((u : ℕ) → v.delivered s u ≡ true → v.closed s u ≡ 0 → place_of st t ≤ place_of st u) → at_head st t s ≡ true
  unfolding head_in
  head_put here h = rw (any_lack T.txns before (λ u l q.
      let (a, b) = and-true (queued st s u) (precedes u (place_of st u) t (place_of st t)) q in
      let (d, o) = and-true (delivered_at st u s) (eqb (closed_at st u s) 0) a in
      let d' : v.delivered s u ≡ true = cell_in 16 false st.parts.delivered u s near ∙ d in
      let m : place_of st t ≤ place_of st u = h u d' (cell_in 16 0 st.parts.closed u s near ∙ eqb-true (closed_at st u s) 0 o) in
      elim (or-true (ltb (place_of st u) (place_of st t)) (eqb (place_of st u) (place_of st t) && ltb u t) b) [
        | inl x ↦ omega (arith, ltb-true (place_of st u) (place_of st t) x)
        | inr x ↦
            let i = inv_of T st w in
            let (e, y) = and-true (eqb (place_of st u) (place_of st t)) (ltb u t) x in
            let same_txn : u ≡ t = sym (i.at_place u (i.delivered_placed s u d')) ∙ ap v.order.at (eqb-true (place_of st u) (place_of st t) e) ∙ i.at_place t (i.delivered_placed s t here) in
            omega (arith, ltb-true u t y)
      ]))
