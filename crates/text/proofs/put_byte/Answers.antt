-- `text::put_byte` meets its contract. Past the end a store changes nothing.
use Rattle.std.proofs.Common.{rules, sym}
use Rattle.std.proofs.Math.Seq.{set_out}
use Rattle.text.specs.Wrote.{put}
use Rattle.text.proofs.put_byte.Goals as goal

pub returns-then-at-out : goal.returns-then-at-out
unfolding put
returns-then-at-out c = search rules

pub returns-else-at-out : goal.returns-else-at-out
unfolding put
returns-else-at-out c = record { place = search rules; bytes = sym (set_out _ _ _ c.if-at-out.false) }
