-- Bytes as they are written down: a file in hexadecimal with spaces between records, a listing as text.
use Rattle.std.specs.Prelude.{ℕ, ◌+◌, ◌-◌, ◌*◌, Bool, true, false, ◌&&◌, not, cond, List, [] as []ᴸ, ◌∷◌ as ◌∷ᴸ◌, eqb, leb}
use Prim.Native.String.{String, [], ◌∷◌}
use Prim.Native.Char.{code}

-- the characters' numbers
unfoldable pub text : String → List ℕ
text [] = []ᴸ
text (c ∷ s) = code c ∷ᴸ text s

-- 0 to 9, A to F
abbrev pub digit : ℕ → ℕ
digit c = cond (leb c 57) (c - 48) (c - 55)

-- a space; no first digit is waiting
abbrev pub space : ℕ → Bool
space c = eqb c 32

abbrev pub idle : ℕ
idle = 16

-- the first digit waiting after the character c
abbrev pub waiting : ℕ → ℕ → ℕ
waiting high c = cond (space c) high (cond (eqb high idle) (digit c) idle)

abbrev pub put_if : Bool → ℕ → List ℕ → List ℕ
put_if true b l = b ∷ᴸ l
put_if false b l = l

unfoldable pub hex_from : ℕ → String → List ℕ
hex_from high [] = []ᴸ
hex_from high (c ∷ s) = put_if (not (space (code c)) && not (eqb high idle)) (high * 16 + digit (code c)) (hex_from (waiting high (code c)) s)

abbrev pub hex : String → List ℕ
hex s = hex_from idle s
