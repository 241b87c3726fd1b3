-- `search::next_step` meets its contract. Each search is answered and keeps what is known, and the first that finds one is taken.
use Rattle.std.proofs.Common.{◌<◌, refl, lt-ltb}
use Rattle.parts.specs.Cells.{nobody}
use Rattle.search.specs.Search.{seen, nowhere, todo_in}
use Rattle.search.specs.Known.{first_pair}
use Rattle.search.proofs.Pair.{pair_from, pair_to}
use Rattle.search.proofs.next_step.Goals as goal

pub returns-in-Some-clause-value : goal.returns-in-Some-clause-value
unfolding todo_in
returns-in-Some-clause-value c p k =
    let g = c.in-Some.ensures.knows p k in
    (rw (← g.1.0.0, lt-ltb c.in-Some.s nowhere c.in-Some.ensures.bound.1, ← g.1.0.1) refl, g.0)

pub returns-in-Some-first_delivering-clause-value : goal.returns-in-Some-first_delivering-clause-value
unfolding todo_in
returns-in-Some-first_delivering-clause-value c p k =
    let g = c.first_closing.ensures.knows p k in
    let h = c.in-Some-first_delivering.ensures.knows p g.0 in
    (rw (g.1.1 (rw c.in_default.is refl), ← h.1.0.0, lt-ltb c.in-Some-first_delivering.s nowhere c.in-Some-first_delivering.ensures.bound.0) refl, h.0)

pub returns-in_err-t-clause-value : goal.returns-in_err-t-clause-value
unfolding todo_in
returns-in_err-t-clause-value c p k =
    let g = c.first_closing.ensures.knows p k in
    let h = c.first_delivering.ensures.knows p g.0 in
    let u = c.first_carrying.ensures.knows p h.0 in
    (rw (c.from_residual.ensures, g.1.1 (rw c.in_default.is refl), h.1.1 (rw c.in_default-first_delivering.is refl), u.1.1 (rw c.in_err-t.was refl)) refl, u.0)

pub returns-clause-value : goal.returns-clause-value
unfolding todo_in
returns-clause-value c p k =
    let T = c.args.plan.now.tables in
    let w = seen c.args.w.now in
    let t = c.in_ok-t.t in
    let g = c.first_closing.ensures.knows p k in
    let h = c.first_delivering.ensures.knows p g.0 in
    let u = c.in_ok-t.ensures.knows p h.0 in
    let q : first_pair T w.cast w.carried t < 256 = rw (← u.1.0.1) c.in_ok-t.ensures.bound.1 in (
      rw (
        g.1.1 (rw c.in_default.is refl),
        h.1.1 (rw c.in_default-first_delivering.is refl),
        ← u.1.0.0,
        lt-ltb t nobody c.in_ok-t.ensures.bound.0,
        pair_from T w.cast w.carried t p.fits.sites q,
        pair_to T w.cast w.carried t p.fits.sites q,
        u.1.0.1,
      ) refl,
      u.0,
    )
