-- What stands at a position of a list of bytes: a one-byte tag, a two-byte body length, the body.
use Rattle.std.specs.Prelude.{ℕ, ◌+◌, cond, List, length, get_or, leb, Result, Ok, Err}
use Rattle.records.specs.Number.{number}
use Rattle.records.specs.declared.Record.{Record}
use Rattle.records.specs.declared.Broken.{Broken}
use Rattle.records.specs.declared.Broken.TheVariants.{Header, Body}

-- the body's length, from the header at a position
abbrev pub length_at : List ℕ → ℕ → ℕ
length_at s at = number s (at + 1) 2

-- a header cut comes before a body cut
unfoldable pub record_at : List ℕ → ℕ → Result Record Broken
record_at s at =
    cond (leb (at + 3) (length s))
    (cond (leb (at + 3 + length_at s at) (length s))
    (Ok (record { tag = get_or s at 0; start = at + 3; len = length_at s at; next = at + 3 + length_at s at }))
    (Err (Body (get_or s at 0))))
    (Err Header)

-- the tag of what was found, 0 where the header is cut
abbrev pub tag_of : Result Record Broken → ℕ
tag_of (Ok r) = r.tag
tag_of (Err (Body tag)) = tag
tag_of (Err Header) = 0
