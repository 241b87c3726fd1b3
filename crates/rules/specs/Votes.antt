-- Certification at a site, the votes that a site holds, and the verdict.
use Rattle.std.specs.Prelude.{ℕ, ◌+◌, ◌*◌, Bool, ◌&&◌, ◌||◌, not, cond, List, eqb, ltb, get_or}
use Rattle.parts.specs.Cells.{cell, version_in, recorded_in}
use Rattle.bounded.specs.Bounded.{any_below, all_below}
use Rattle.keys.specs.Keys.{member}
use Rattle.tables.specs.Lists.{row_at}
use Rattle.tables.specs.Sites.{keys_from}
use Rattle.tables.specs.declared.Group.{Group}
use Rattle.steps.specs.Kinds.{version}
use Rattle.steps.specs.declared.Version.{Version}

-- t's i-th read has the recorded version at s; a read never recorded doesn't match
abbrev pub current : List Version → List Version → List Bool → List ℕ → ℕ → ℕ → ℕ → Bool
current versions read recorded reads t s i =
    recorded_in recorded t i && eqb (version_in versions s (row_at reads i)) (get_or read (t * 8 + i) (version 0)).0

-- yes (1) exactly if each of t's n read keys that s holds (the set m) has the recorded version there, else no (2)
unfoldable pub certify_in : List Version → List Version → List Bool → List ℕ → ℕ → ℕ → ℕ → ℕ → ℕ
certify_in versions read recorded reads n t s m =
    cond (all_below n (λ i. not (member m (row_at reads i)) || current versions read recorded reads t s i)) 1 2

-- s holds the vote of f: its own if it has cast it, another's if it was carried to it
abbrev pub holds_vote : ℕ → ℕ → ℕ → ℕ → Bool
holds_vote own carried s f = cond (eqb f s) (ltb 0 own) (member carried f)

-- of n sites, one whose vote s holds holds k
unfoldable pub covers_key : ℕ → ℕ → List Group → ℕ → ℕ → ℕ → ℕ → Bool
covers_key own carried group groups n s k =
    any_below n (λ f. holds_vote own carried s f && member (keys_from groups 0 group f) k)

-- the sites whose votes s holds together hold all r read keys of t
unfoldable pub covered_in : ℕ → ℕ → List Group → ℕ → List ℕ → ℕ → ℕ → ℕ → Bool
covered_in own carried group groups reads r n s = all_below r (λ i. covers_key own carried group groups n s (row_at reads i))

-- of n sites, every vote on t that s holds is yes
unfoldable pub all_yes_in : List ℕ → ℕ → ℕ → ℕ → ℕ → Bool
all_yes_in cast carried n t s = all_below n (λ f. not (holds_vote (cell 0 cast t s) carried s f) || eqb (cell 0 cast t f) 1)

-- 0 not known, 1 commit, 2 abort: known once all r reads are covered, commit if every vote held is yes; with no reads commit
unfoldable pub verdict_by : ℕ → Bool → Bool → ℕ
verdict_by r covered agreed = cond (eqb r 0) 1 (cond covered (cond agreed 1 2) 0)

-- no version that a commit of t raises at s (keys m) stands at its last number
unfoldable pub room_in : List Version → List ℕ → ℕ → ℕ → ℕ → Bool
room_in versions writes w s m =
    all_below w (λ i. not (member m (row_at writes i)) || ltb (version_in versions s (row_at writes i)) 4294967295)
