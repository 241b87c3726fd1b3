use Rattle.std.specs.Prelude.{ℕ, ◌≤◌, ◌<◌, List, get_or}

-- of each site, a position of the order or the one past the last
abbrev pub Within : List ℕ → Type 0
Within l = (s : ℕ) → s < 16 → get_or l s 0 ≤ 128
