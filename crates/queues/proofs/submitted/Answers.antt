-- `queues::submitted` meets its contract. Its count is that of `submitted_in`.
use Rattle.std.proofs.Common.{rules, tests, arith, ◌∙◌, ltb, refl, take, count_by, ◌≡◌}
use Rattle.bounded.proofs.Ranges.{count_in_front}
use Rattle.steps.specs.Kinds.{place}
use Rattle.steps.specs.declared.Place.{Place}
use Rattle.queues.specs.Queue.{submitted_in}
use Rattle.queues.proofs.Queue.{submitted_most}
use Rattle.queues.proofs.submitted.Goals as goal

pub returns : goal.returns
unfolding submitted_in
returns c =
    let n = c.args.plan.now.tables.txns in
    let places = c.args.w.now.places in
    let h : c.count.result ≡ count_by (λ (p : Place). ltb 0 p.0) (take n places) = search (rules, tests) in
    let e : c.count.result ≡ submitted_in places n = h ∙ count_in_front n (λ (p : Place). ltb 0 p.0) places (place 0) refl in
    (e, omega (arith, e, submitted_most places n, c.requires.txns))
