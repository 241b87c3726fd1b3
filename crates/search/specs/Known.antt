-- What SETTLE remembers of tries that were refused, so as not to try again.
use Rattle.std.specs.Prelude.{ℕ, ◌/◌, ◌%◌, ◌≤◌, ◌<◌, Bool, false, true, ◌||◌, not, cond, List, ◌≡◌, eqb, ltb, get_or, map}
use Rattle.order.specs.Order.{Ordered, waits_at, queued_at}
use Rattle.bounded.specs.Bounded.{least_below}
use Rattle.tables.specs.declared.Tables.{Tables}
use Rattle.parts.specs.Cells.{nobody}
use Rattle.steps.specs.declared.Place.{Place}
use Rattle.refusals.specs.Refusals.{deliver_refusal_in, carry_refusal_in}
use Rattle.search.specs.Search.{Seen, closing}
use Rattle.search.specs.declared.Closable.{Closable}
use Rattle.search.specs.declared.Closable.TheVariants as closable
use Rattle.search.specs.declared.Known.{Known}

-- any transaction
abbrev pub any : ℕ
any = 129

-- where only the transaction c may be closed, or none, t may not
abbrev pub excludes : ℕ → ℕ → Bool
excludes c t = not (eqb c any || eqb c t)

-- of each site, whom it can close
abbrev pub KnowsClosing : Tables → Seen → List ℕ → Type 0
KnowsClosing T w codes = (s t : ℕ) → excludes (get_or codes s any) t ≡ true → closing T w t s ≡ 0 → ⊥

-- at site s, where the code is c
abbrev pub KnowsAt : Tables → Seen → ℕ → ℕ → Type 0
KnowsAt T w s c = (t : ℕ) → excludes c t ≡ true → closing T w t s ≡ 0 → ⊥

-- of each site, that it can deliver nothing
abbrev pub KnowsStuck : Tables → List Place → List Bool → List ℕ → List Bool → Type 0
KnowsStuck T places delivered closed stuck = (s : ℕ) → get_or stuck s false ≡ true → deliver_refusal_in T places delivered closed s ≡ 0 → ⊥

-- the first n pairs of sites, sixteen to a giver, have no vote on t to carry
abbrev pub PassedTo : Tables → List ℕ → List ℕ → ℕ → ℕ → Type 0
PassedTo T cast carried t n = (p : ℕ) → p < n → carry_refusal_in T cast carried t (p / 16) (p % 16) ≡ 0 → ⊥

-- of each transaction, how many pairs
abbrev pub KnowsPassed : Tables → List ℕ → List ℕ → List ℕ → Type 0
KnowsPassed T cast carried passed = (t : ℕ) → PassedTo T cast carried t (get_or passed t 0)

-- the first pair of sites between which a vote on t can be carried, 256 for none
unfoldable pub first_pair : Tables → List ℕ → List ℕ → ℕ → ℕ
first_pair T cast carried t = least_below 256 (λ p. eqb (carry_refusal_in T cast carried t (p / 16) (p % 16)) 0) 256

-- ---- as it is remembered

-- whom a site can close, as a transaction, nobody or any
abbrev pub closable_code : Closable → ℕ
closable_code closable.Nobody = nobody
closable_code (closable.Only t) = cond (ltb t nobody) t nobody
closable_code closable.Anyone = any

-- of site s: the first position that may wait there, the first that may be in its queue and the one past the last
abbrev pub next_at : Known → ℕ → ℕ
next_at l s = get_or l.next.at s 0

abbrev pub low_at : Known → ℕ → ℕ
low_at l s = get_or l.low s 0

abbrev pub top_at : Known → ℕ → ℕ
top_at l s = get_or l.top.at s 0

-- what l says of the transactions in order is so
pub record Knows (T : Tables) (w : Seen) (order : List ℕ) (l : Known) : Type 0 where
  pub ordered : Ordered w.places T.txns order
  pub closing : KnowsClosing T w (map closable_code l.closable)
  pub stuck : KnowsStuck T w.places w.delivered w.closed l.stuck
  pub passed : KnowsPassed T w.cast w.carried l.passed
  pub next : (s i : ℕ) → s < 16 → i < next_at l s → waits_at T w.places w.delivered order s i ≡ false
  pub low : (s i : ℕ) → s < 16 → i < low_at l s → queued_at w.delivered w.closed order s i ≡ false
  pub top : (s i : ℕ) → s < 16 → top_at l s ≤ i → queued_at w.delivered w.closed order s i ≡ false
  pub opened : (i : ℕ) → i < l.open → get_or order i nobody < nobody → 256 ≤ get_or l.passed (get_or order i nobody) 0
