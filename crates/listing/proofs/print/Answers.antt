-- `listing::print` meets its contract. Each arm is given the outcome of the reading, and with it the file's listing.
use Rattle.std.proofs.Common.{arith, rules}
use Rattle.listing.proofs.Read.{cut_in, fine_lists, fine_short, refusal_lists, refusal_low}
use Rattle.listing.proofs.print.Goals as goal

pub split_at-requires : goal.split_at-requires
split_at-requires c = cut_in _ c.cut.ensures

pub put_listing-requires : goal.put_listing-requires
put_listing-requires c = let s = c.split_at.ensures in fine_short _ c.cut.ensures s.front s.back c.read_parts-read.ensures c.in-Ok.is

pub offset-at-requires : goal.offset-at-requires
offset-at-requires c = let s = c.split_at.ensures in omega (arith, refusal_low _ c.cut.ensures s.front s.back c.read_parts-read.ensures c.in-Err.is)

pub returns-in-Ok-clause-wrote : goal.returns-in-Ok-clause-wrote
returns-in-Ok-clause-wrote c = let s = c.split_at.ensures in rw (fine_lists _ c.cut.ensures s.front s.back c.read_parts-read.ensures c.in-Ok.is) c.put_listing.ensures.wrote

pub returns-in-Err-clause-wrote : goal.returns-in-Err-clause-wrote
returns-in-Err-clause-wrote c =
    let s = c.split_at.ensures in
    let w = rw (c.from-number.ensures, c.number.ensures, c.offset-at.ensures) at c.line.ensures.wrote in
    rw (refusal_lists _ c.cut.ensures s.front s.back c.read_parts-read.ensures c.in-Err.is) (search rules)
