use Rattle.std.proofs.Common.{◌≡◌, length, arith}
use Rattle.std.proofs.lemmas.List.{length-map}
use Rattle.order.specs.Order.{code, codes}
use Rattle.machine.proofs.Loop.{ended_idle, going_first, going_stops, going_ends}
use Rattle.machine.proofs.take_settle.Goals as goal

pub returns-then-idle : goal.returns-then-idle
returns-then-idle c = λ h. ended_idle _ (h c.if-idle.true)

pub loop-n-init : goal.loop-n-init
loop-n-init c =
    let long : length c.args.w.now.delivered ≡ 2048 = omega arith in
    let all : length (codes c.order_of-order.result) ≡ 128 = omega (arith, length-map c.order_of-order.result code) in
    (omega arith, going_first _ _ _ c.requires.1 (c.first_known-known.ensures _ _ _ c.order_of-order.ensures all long))

pub returns-then-k-eq0 : goal.returns-then-k-eq0
returns-then-k-eq0 c = λ _. let g = c.loop-n.invariant.1 in going_stops _ _ _ _ _ g _ _ _ c.loop-n-test.true c.if-k-eq0.true (c.turn-k.ensures.turns g.knows)

pub returns-after-loop-n : goal.returns-after-loop-n
returns-after-loop-n c = λ _. going_ends _ _ _ _ _ c.loop-n.invariant.1 c.loop-n-test.false
