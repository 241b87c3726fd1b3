-- Whom each site can close, as it is remembered.
-- Assumes nothing.
use Rattle.std.proofs.Common.{ℕ, ◌≡◌, ◌<◌, List, length, get_or, map, set}
use Rattle.std.proofs.Math.ListN.{get_or-map}
use Rattle.std.proofs.lemmas.List.{map-set}
use Rattle.bounded.proofs.Lists.{within}
use Rattle.tables.specs.declared.Tables.{Tables}
use Rattle.search.specs.Search.{Seen}
use Rattle.search.specs.Known.{any, KnowsClosing, KnowsAt, closable_code}
use Rattle.search.specs.declared.Closable.{Closable}
use Rattle.search.specs.declared.Closable.TheVariants.{Nobody, Anyone}

-- the code of site s
pub code_at : (l : List Closable) (s : ℕ) → get_or (map closable_code l) s any ≡ closable_code (get_or l s Anyone)
code_at l s = get_or-map closable_code l s Anyone

pub closing_get : (T : Tables) (w : Seen) (l : List Closable) → KnowsClosing T w (map closable_code l) → (s : ℕ) → s < length l → KnowsAt T w s (closable_code (get_or l s Nobody))
closing_get T w l k s h t x z = k s t (rw (code_at l s, within l s Anyone Nobody h) x) z

-- with one stored
pub codes_set : (l : List Closable) (s : ℕ) (c : Closable) → map closable_code (set l s c) ≡ set (map closable_code l) s (closable_code c)
codes_set l s c = map-set closable_code l s c
