-- What comes next, as the step that it is.
use Rattle.std.specs.Prelude.{Option, Some, None}
use Rattle.search.specs.Search.{Todo, Close, Deliver, Carry, Nothing}
use Rattle.search.specs.declared.Next.{Next}
use Rattle.search.specs.declared.Next.TheVariants as next

abbrev pub named : Option Next → Todo
named None = Nothing
named (Some (next.Close t s)) = Close t s
named (Some (next.Deliver s at)) = Deliver s
named (Some (next.Carry t from to)) = Carry t from to
