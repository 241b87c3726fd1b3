-- `listing::list` meets its contract. Each arm is given the outcome of the reading, and with it the file's listing.
use Rattle.listing.proofs.Read.{cut_in, fine_lists, fine_short, refusal_lists}
use Rattle.listing.proofs.list.Goals as goal

pub split_at-requires : goal.split_at-requires
split_at-requires c = cut_in _ c.cut.ensures

pub put_in_room-requires : goal.put_in_room-requires
put_in_room-requires c = let s = c.split_at.ensures in fine_short _ c.cut.ensures s.front s.back c.read_parts-read.ensures c.in-Ok.is

pub returns-in-Ok-clause-value : goal.returns-in-Ok-clause-value
returns-in-Ok-clause-value c = let s = c.split_at.ensures in rw (fine_lists _ c.cut.ensures s.front s.back c.read_parts-read.ensures c.in-Ok.is) c.put_in_room.ensures.value

pub returns-in-Ok-clause-out_after : goal.returns-in-Ok-clause-out_after
returns-in-Ok-clause-out_after c = let s = c.split_at.ensures in rw (fine_lists _ c.cut.ensures s.front s.back c.read_parts-read.ensures c.in-Ok.is) c.put_in_room.ensures.out_after

pub returns-in-Err-clause-value : goal.returns-in-Err-clause-value
returns-in-Err-clause-value c = let s = c.split_at.ensures in rw (refusal_lists _ c.cut.ensures s.front s.back c.read_parts-read.ensures c.in-Err.is)

pub returns-in-Err-clause-out_after : goal.returns-in-Err-clause-out_after
returns-in-Err-clause-out_after c = let s = c.split_at.ensures in rw (refusal_lists _ c.cut.ensures s.front s.back c.read_parts-read.ensures c.in-Err.is)
