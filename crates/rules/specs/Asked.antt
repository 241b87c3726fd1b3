-- The questions asked of the tables T.
use Rattle.std.specs.Prelude.{ℕ, Bool, cond, List}
use Rattle.parts.specs.Cells.{cell}
use Rattle.tables.specs.Lists.{read_row, read_count, write_row, write_count}
use Rattle.tables.specs.Sites.{site_count, site_keys}
use Rattle.tables.specs.Concern.{votes}
use Rattle.tables.specs.declared.Tables.{Tables}
use Rattle.rules.specs.Votes.{certify_in, covered_in, all_yes_in, verdict_by, room_in}
use Rattle.steps.specs.declared.Version.{Version}

-- what s casts on t: 1 yes, 2 no, if it is in V(t); else 0, none
abbrev pub vote_in : Tables → List Version → List Version → List Bool → ℕ → ℕ → ℕ
vote_in T versions read recorded t s =
    cond (votes T t s) (certify_in versions read recorded (read_row T t) (read_count T t) t s (site_keys T s)) 0

-- the verdict on t at s: 0 not known, 1 commit, 2 abort
abbrev pub verdict_at : Tables → List ℕ → List ℕ → ℕ → ℕ → ℕ
verdict_at T cast carried t s =
    verdict_by (read_count T t)
    (covered_in (cell 0 cast t s) (cell 0 carried t s) T.group T.groups (read_row T t) (read_count T t) (site_count T) s)
    (all_yes_in cast (cell 0 carried t s) (site_count T) t s)

-- a commit of t at s has a version left for each key that it writes there
abbrev pub room_of : Tables → List Version → ℕ → ℕ → Bool
room_of T versions t s = room_in versions (write_row T t) (write_count T t) s (site_keys T s)
