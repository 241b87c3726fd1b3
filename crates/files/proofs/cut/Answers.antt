use Rattle.std.proofs.Common.{◌≡◌, sym, ◌∙◌, eq-eqb, ne_eqb}
use native.Mathlib.Nat.{sub-zero}
use Rattle.files.specs.Walk.{go}
use Rattle.files.specs.Cut.{cut_of, cut_turn}
use Rattle.files.proofs.Walk.{walk_stops, walk_goes}
use Rattle.files.proofs.Cutting.{cut_falls, other_ends}
use Rattle.files.proofs.cut.Goals as goal
use Rattle.files.proofs.cut.Goals.{Else-record-eq-END}

-- a record that is no END: the turn goes on
goes : (c : Else-record-eq-END) → cut_turn c.args.file.now c.loop-record.at ≡ go c.in-Ok.record.next
unfolding cut_turn
goes c = rw (← c.record_from.ensures, c.in-Ok.is, ne_eqb _ _ c.if-record-eq-END.false)

pub loop-record-init : goal.loop-record-init
unfolding cut_of
loop-record-init c = rw sub-zero

pub returns-then-record-eq-END : goal.returns-then-record-eq-END
unfolding cut_turn
returns-then-record-eq-END c = sym (walk_stops _ _ _ _ _ (rw (← c.record_from.ensures, c.in-Ok.is, eq-eqb _ _ c.if-record-eq-END.true))) ∙ c.loop-record.invariant

pub loop-record-smaller : goal.loop-record-smaller
loop-record-smaller c = cut_falls _ _ _ (goes (goal.at.loop-record-smaller c).Else-record-eq-END)

pub loop-record-preserved : goal.loop-record-preserved
loop-record-preserved c = walk_goes _ _ _ (cut_falls _) _ _ (goes (goal.at.loop-record-preserved c).Else-record-eq-END) ∙ c.loop-record.invariant

pub returns : goal.returns
unfolding cut_turn
returns c = sym (walk_stops _ _ _ _ _ (rw (← c.record_from.ensures) (other_ends _ c.record_from.result c.in_default.not-Ok))) ∙ c.loop-record.invariant
