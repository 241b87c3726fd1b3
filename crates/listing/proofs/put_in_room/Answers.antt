-- `listing::put_in_room` meets its contract. Either the first run told the length, or the room is enough for any listing.
use Rattle.std.proofs.Common.{◌≤◌, length, arith, le-leb}
use Rattle.text.proofs.Laws.{start_length, start_within}
use Rattle.listing.proofs.put_in_room.Goals as goal
use Rattle.listing.proofs.put_in_room.Goals.{else-out-lt-MOST-via-then-out-lt-MOST+else-out-put_listing, else-out-lt-MOST-via-else-out-lt-MOST}

pub returns-clause-out_after : goal.returns-clause-out_after
returns-clause-out_after c =
    let w = c.put_listing-2.ensures.wrote in
    let room : c.put_listing-2.result ≤ length c.args.out.now =
    elim c.else-out-lt-MOST.branch [
      | else-out-lt-MOST-via-then-out-lt-MOST+else-out-put_listing x ↦ omega (arith, start_length x.put_listing.ensures.wrote, x.if-out-put_listing.false, start_length w)
      | else-out-lt-MOST-via-else-out-lt-MOST x ↦ omega (arith, x.if-out-lt-MOST.false, c.put_listing-2.ensures.upper_bound)
    ] in
    rw (le-leb _ _ (rw (start_length w) at room)) (start_within w room)
