use Rattle.std.proofs.Common.{◌≡◌, sym, ◌∙◌}
use native.Mathlib.Nat.{sub-zero}
use Rattle.files.specs.Setup.{setup_turn, read_from}
use Rattle.files.specs.Walk.{go}
use Rattle.files.proofs.Falls.{setup_falls, turned, groups_stay}
use Rattle.files.proofs.Walk.{walk_stops, walk_goes}
use Rattle.files.proofs.Refusals.{handed}
use Rattle.files.proofs.read_tables.Goals as goal
use Rattle.files.proofs.read_tables.Goals.{In-Some}

-- a turn that goes on
goes : (c : In-Some) → setup_turn c.args.s.now (record { at = c.loop-next.at; tables = c.loop-next.t }) ≡ go (record { at = c.in-Some.next; tables = c.turn.new.t })
goes c = turned _ _ _ _ c.in_ok-next.ensures ∙ rw c.in-Some.is

pub loop-next-init : goal.loop-next-init
unfolding read_from
loop-next-init c = (c.requires, rw sub-zero)

pub returns-in_err-next : goal.returns-in_err-next
returns-in_err-next c = rw (handed _ _ c.from_residual.ensures.1) (sym (walk_stops _ _ _ _ _ (turned _ _ _ _ c.in_err-next.ensures)) ∙ c.loop-next.invariant.1)

pub loop-next-smaller : goal.loop-next-smaller
loop-next-smaller c = setup_falls _ _ _ (goes (goal.at.loop-next-smaller c).In-Some)

pub loop-next-preserved : goal.loop-next-preserved
loop-next-preserved c = (
  rw (← c.in_ok-next.ensures) at (groups_stay c.loop-next.t c.args.s.now c.loop-next.at c.loop-next.invariant.0),
  walk_goes _ _ _ (setup_falls _) _ _ (goes (goal.at.loop-next-preserved c).In-Some) ∙ c.loop-next.invariant.1,
)

pub returns : goal.returns
returns c = sym (walk_stops _ _ _ _ _ (turned _ _ _ _ c.in_ok-next.ensures ∙ rw c.in_default.is)) ∙ c.loop-next.invariant.1
