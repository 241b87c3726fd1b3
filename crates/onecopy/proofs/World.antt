-- The machine over any order and any rules: the states reached from fresh, and what holds of each.
-- Assumes nothing.
use mathlib.Core.Path.{◌≡◌, refl}
use mathlib.Core.Bool.{Bool, true}
use Prim.Native.Nat.{ℕ, ◌<◌}
use native.Mathlib.Omega.{arith}
use lib.Dec.{eqb}
use Rattle.bounded.proofs.Truth.{clash}
use Rattle.onecopy.specs.Copy.{Table}
use Rattle.onecopy.specs.View.{View}
use Rattle.onecopy.specs.Serial.{Serial}
use Rattle.onecopy.proofs.Inv.{Fit, Inv}
use Rattle.onecopy.proofs.Close.{close_v}
use Rattle.onecopy.proofs.Deliver.{carry_v}
use Rattle.onecopy.proofs.Read as Read
use Rattle.onecopy.proofs.Read.{read_v, Reads}
use Rattle.onecopy.proofs.Place.{place_v}
use Rattle.onecopy.proofs.PlaceKeeps.{place_inv}
use Rattle.onecopy.proofs.Serial as Ser
use Rattle.onecopy.proofs.Serial.{fresh_v, fresh_inv, Reach, start, go, reached}
use Rattle.onecopy.proofs.Live.{Voted}
use Rattle.onecopy.proofs.Count.{Count}
use Rattle.onecopy.proofs.Finish.{Full, Act, act_step, act_full}
use Rattle.onecopy.proofs.Rules as Rules
use Rattle.onecopy.proofs.Rules.{Rules, Move, move_act}
use Rattle.onecopy.proofs.Ordering as Ord
use Rattle.onecopy.proofs.Ordering.{Orders, Ordering}

-- what a machine is made of: tables that fit, which transactions there are and which are local, who votes, an order and rules
pub record Plan : Type 1 where
  pub table : Table
  pub fit : Fit table
  pub txns : ℕ
  pub local : ℕ → Bool
  pub voter : ℕ → ℕ → Bool
  pub order : Ordering table txns
  pub rules : Rules table
  -- the voters on t are those that hold a key that t reads
  pub seats : (s t k : ℕ) → table.reads t k ≡ true → table.holds s k ≡ true → voter s t ≡ true
  pub seat : (f t : ℕ) → voter f t ≡ true → (k : ℕ) × (table.reads t k ≡ true) × (table.holds f k ≡ true)

-- a view, and the state of the order
pub record World (P : Plan) : Type 0 where
  pub view : View
  pub ord : P.order.State

-- what is counted; all sites run
abbrev pub count : (P : Plan) → World P → Count
count P w = record { txns = P.txns; local = P.local; voter = P.voter; up = λ _. true; billed = P.order.billed w.view.order w.ord }

abbrev pub offers : (P : Plan) → World P → ℕ → ℕ → Type 0
offers P w = P.order.offer w.view w.ord

-- the finishing steps, and those of the order
pub data Ends (P : Plan) (w : World P) : World P → Type 0 where
  move : (v : View) → Move P.table (count P w) P.rules (offers P w) w.view v → Ends P w (record { view = v; ord = w.ord })
  tick : (v : View) (c : P.order.State) → P.order.Tick w.view w.ord v c → Ends P w (record { view = v; ord = c })

-- READ, SUBMIT and the finishing steps
pub data Steps (P : Plan) (w : World P) : World P → Type 0 where
  read : (t k s : ℕ) → Reads P.table w.view t (λ j. eqb j k) s → Steps P w (record { view = read_v w.view t (λ j. eqb j k) s; ord = w.ord })
  submit : (v : View) (c : P.order.State) → P.order.Submit w.view w.ord v c → Steps P w (record { view = v; ord = c })
  ends : {x : World P} → Ends P w x → Steps P w x

-- reached from fresh
pub data Reached (P : Plan) : World P → Type 0 where
  fresh : (n : ℕ → ℕ) (e : ℕ → ℕ → ℕ × ℕ) → Reached P (record { view = fresh_v P.table n e; ord = P.order.start })
  after : {w x : World P} → Reached P w → Steps P w x → Reached P x

-- what holds of every world reached
pub record Holds (P : Plan) (w : World P) : Type 0 where
  pub inv : Inv P.table w.view
  pub good : P.order.Good w.view w.ord
  pub voted : Voted P.table w.view
  pub voter : (s t : ℕ) → 0 < w.view.cast s t → P.voter s t ≡ true

module _ (P : Plan) where
  abbrev T : Table
  T = P.table

  pub full : (w : World P) → Holds P w → Full T (count P w) w.view
  full w h = record { inv = h.inv; voted = h.voted; voter = h.voter; billed = λ t a. P.order.placed_billed w.view w.ord t h.good a }

  pub act : (w : World P) → Holds P w → {v : View} → Move T (count P w) P.rules (offers P w) w.view v → Act T (count P w) w.view v
  act w h m = move_act T (count P w) P.rules (offers P w) P.seats (λ s t o. P.order.sound w.view w.ord s t h.inv h.good o) m

  pub low : (w : World P) → Holds P w → (t : ℕ) → (count P w).billed t ≡ true → t < P.txns
  low w h t b = P.order.low w.view w.ord t h.good b

  move_good : (w : World P) → Holds P w → {v : View} → Move T (count P w) P.rules (offers P w) w.view v → P.order.Good v w.ord
  unfolding carry_v close_v
  move_good w h (Rules.deliver s t x o a) = P.order.deliver w.view w.ord s t (Rules.vote_r P.rules w.view s t) h.inv h.good o
  move_good w h (Rules.carry t f a x lo ne c co q) = P.order.quiet w.view (carry_v w.view t f a) w.ord refl refl (λ _ _ r. r) h.good
  move_good w h (Rules.close s t c x g) = P.order.quiet w.view (close_v T w.view s t c) w.ord refl refl (λ _ _ r. r) h.good

  -- a new place keeps what holds
  orders_holds : (w : World P) → Holds P w → {v : View} (c : P.order.State) → Orders T w.view v → P.order.Good v c → Holds P (record { view = v; ord = c })
  unfolding place_v
  orders_holds w h c Ord.stay g = record { inv = h.inv; good = g; voted = h.voted; voter = h.voter }
  orders_holds w h c (Ord.place t p q) g = record {
    inv = place_inv T P.fit w.view h.inv t p q;
    good = g;
    voted = record { votes = h.voted.votes; own = h.voted.own };
    voter = h.voter;
  }

  pub ends_holds : (w x : World P) → Holds P w → Ends P w x → Holds P x
  ends_holds w x h (move v m) =
      let f = act_full T P.fit (count P w) (low w h) (full w h) (act w h m) in
      record { inv = f.inv; good = move_good w h m; voted = f.voted; voter = f.voter }
  ends_holds w x h (tick v c m) =
      let (o, g) = P.order.tick w.view v w.ord c h.inv h.good m in orders_holds w h c o g

  steps_holds : (w x : World P) → Holds P w → Steps P w x → Holds P x
  unfolding read_v
  steps_holds w x h (ends e) = ends_holds w x h e
  steps_holds w x h (submit v c m) =
      let (o, g) = P.order.submit w.view v w.ord c h.inv h.good m in orders_holds w h c o g
  steps_holds w x h (read t k s g) = record {
    inv = Read.read_inv T P.fit w.view h.inv t (λ j. eqb j k) s g;
    good = P.order.quiet w.view (read_v w.view t (λ j. eqb j k) s) w.ord refl refl
        (Read.more T P.fit w.view h.inv t (λ j. eqb j k) s g) h.good;
    voted = record { votes = h.voted.votes; own = h.voted.own };
    voter = h.voter;
  }

  pub holds : {w : World P} → Reached P w → Holds P w
  unfolding fresh_v
  holds (fresh n e) = record {
    inv = fresh_inv T n e;
    good = P.order.fresh n e;
    voted = record { votes = λ s t k d r h. clash d refl; own = λ s t h. absurd (omega arith) };
    voter = λ s t h. absurd (omega arith);
  }
  holds (after {w} {x} r s) = steps_holds w x (holds r) s

  placed : {v w : View} → Reach T v → Orders T v w → Reach T w
  placed r Ord.stay = r
  placed r (Ord.place t p g) = go r (Ser.place t p g)

  -- the view of each world reached is one of the views reached
  pub traced : {w : World P} → Reached P w → Reach T w.view
  traced (fresh n e) = start n e
  traced (after r (read t k s g)) = go (traced r) (Ser.read t (λ j. eqb j k) s g)
  traced (after {w} r (submit v c m)) = let h = holds r in placed (traced r) (P.order.submit w.view v w.ord c h.inv h.good m).0
  traced (after {w} r (ends (tick v c m))) = let h = holds r in placed (traced r) (P.order.tick w.view v w.ord c h.inv h.good m).0
  traced (after {w} r (ends (move v m))) = go (traced r) (act_step T (count P w) (act w (holds r) m))

  -- demand 3, under every order and all rules
  pub demand3 : {w : World P} → Reached P w → Serial T w.view
  demand3 r = reached T P.fit (traced r)
