-- The length rule of each tag.
use Rattle.std.specs.Prelude.{ℕ, ◌+◌, ◌*◌, ◌%◌, Bool, false, ◌&&◌, cond, List, get_or, leb, eqb}
use Rattle.records.specs.declared.Rule.{Rule}
use Rattle.records.specs.declared.Rule.TheVariants.{NoTag, Exact, Values, Pairs}

-- an exact length; first values of keys; key bytes and pairs; no such tag
unfoldable pub rule_of : ℕ → Rule
rule_of tag =
    cond (eqb tag 0x01) Values
    (cond (eqb tag 0x02) (Exact 9)
    (cond (eqb tag 0x03) Pairs
    (cond (eqb tag 0x0F) (Exact 0)
    (cond (eqb tag 0x10) (Exact 3)
    (cond (eqb tag 0x11) (Exact 1)
    (cond (eqb tag 0x12) (Exact 1)
    (cond (eqb tag 0x13) (Exact 3)
    (cond (eqb tag 0x14) (Exact 2)
    (cond (eqb tag 0x15) (Exact 0)
    NoTag)))))))))

-- 4 to 256, a multiple of 4
unfoldable pub values_fit : ℕ → Bool
values_fit len = leb 4 len && (leb len 256 && eqb (len % 4) 0)

-- 2 + r + 5w, where r is the body's first byte and w the one after r more
abbrev pub pairs_length : List ℕ → ℕ → ℕ
pairs_length s start = 2 + get_or s start 0 + 5 * get_or s (start + 1 + get_or s start 0) 0

-- a body that ends before its w does not fit
unfoldable pub pairs_fit : List ℕ → ℕ → ℕ → Bool
pairs_fit s start len = leb 2 len && (leb (2 + get_or s start 0) len && eqb len (pairs_length s start))

-- a body by its rule
abbrev pub fits_by : Rule → List ℕ → ℕ → ℕ → Bool
fits_by NoTag s start len = false
fits_by (Exact n) s start len = eqb len n
fits_by Values s start len = values_fit len
fits_by Pairs s start len = pairs_fit s start len

unfoldable pub fits : List ℕ → ℕ → ℕ → ℕ → Bool
fits s tag start len = fits_by (rule_of tag) s start len
