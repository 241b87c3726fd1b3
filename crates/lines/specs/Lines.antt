-- The lines of a listing: each step, then each transaction, then each held key of each site.
use Rattle.std.specs.Prelude.{ℕ, suc, ◌+◌, ◌*◌, cond, List, [], ◌∷◌, ◌++◌, ltb, get_or, Result}
use Rattle.parts.specs.Cells.{place_in, cell, version_in}
use Rattle.bounded.specs.Bounded.{least_below}
use Rattle.keys.specs.Keys.{member}
use Rattle.tables.specs.Sites.{site_count, site_keys}
use Rattle.search.specs.Search.{nowhere}
use Rattle.steps.specs.Answers.{numbers_of}
use Rattle.machine.specs.declared.State.{State}
use Rattle.numbers.specs.declared.StepRefusal.{StepRefusal}
use Rattle.steps.specs.declared.Answer.{Answer}
use Rattle.steps.specs.declared.Numbers.{Numbers}
use Rattle.steps.specs.declared.Place.{Place}
use Rattle.steps.specs.declared.Version.{Version}
use Rattle.text.specs.Text.{line_of, each}

-- STEP, index, answer, two numbers
abbrev pub step_word : List ℕ
step_word = 83 ∷ 84 ∷ 69 ∷ 80 ∷ []

abbrev pub step_line : ℕ → Numbers → List ℕ
step_line i n = line_of step_word (i ∷ n.code ∷ n.first ∷ n.second ∷ [])

unfoldable pub step_lines : ℕ → List (Result Answer StepRefusal) → List ℕ
step_lines i [] = []
step_lines i (a ∷ l) = step_line i (numbers_of a) ++ step_lines (suc i) l

-- 0 open; closed once one of n sites has closed it, with the verdict of the lowest such site
unfoldable pub verdict_in : List ℕ → ℕ → ℕ → ℕ
verdict_in closed n t =
    let s = least_below n (λ s. ltb 0 (cell 0 closed t s)) nowhere in
    cond (ltb s nowhere) (cell 0 closed t s) 0

-- TXN, number, place (0 if none), verdict
abbrev pub txn_word : List ℕ
txn_word = 84 ∷ 88 ∷ 78 ∷ []

abbrev pub txn_line : List Place → List ℕ → ℕ → ℕ → List ℕ
txn_line places closed n t = line_of txn_word (t ∷ place_in places t ∷ verdict_in closed n t ∷ [])

-- ITEM, site, key, version, value; nothing for a key that the site lacks
abbrev pub item_word : List ℕ
item_word = 73 ∷ 84 ∷ 69 ∷ 77 ∷ []

abbrev pub item_line : List Version → List ℕ → ℕ → ℕ → List ℕ
item_line versions values s k = line_of item_word (s ∷ k ∷ version_in versions s k ∷ get_or values (s * 64 + k) 0 ∷ [])

-- of site s, whose keys are the set m, and the first n keys
unfoldable pub item_lines : List Version → List ℕ → ℕ → ℕ → ℕ → List ℕ
item_lines versions values m n s = each n (λ k. cond (member m k) (item_line versions values s k) [])

-- FILE, number, byte offset of the record
abbrev pub file_word : List ℕ
file_word = 70 ∷ 73 ∷ 76 ∷ 69 ∷ []

abbrev pub file_line : ℕ → ℕ → List ℕ
file_line n at = line_of file_word (n ∷ at ∷ [])

-- what is listed of the state at the end
unfoldable pub state_lines : State → List ℕ
state_lines st =
    each st.tables.txns (txn_line st.parts.places st.parts.closed (site_count st.tables))
    ++ each (site_count st.tables) (λ s. item_lines st.parts.versions st.parts.values (site_keys st.tables s) st.tables.keys s)
