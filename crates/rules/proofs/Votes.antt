-- What the votes that a site holds cover, as sets.
-- Assumes nothing.
use Rattle.std.proofs.Common.{ℕ, ◌<◌, ◌≡◌, sym, ◌∙◌, arith, ltb, lt-ltb, ltb-true, get_or}
use Rattle.bounded.proofs.Laws.{any_get, any_put}
use Rattle.bounded.proofs.Truth.{and-true, and_put, iff_eq}
use Rattle.keys.specs.Keys.{member, meeting}
use Rattle.tables.specs.Sites.{site_count, site_keys}
use Rattle.plan.specs.Planned.{Planned}
use Rattle.plan.specs.declared.Plan.{Plan}
use Rattle.rules.specs.Votes.{holds_vote, covers_key}

-- h is the set of the sites whose votes s holds
abbrev pub Held : ℕ → ℕ → ℕ → ℕ → Type 0
Held h own carried s = (f : ℕ) → member h f ≡ holds_vote own carried s f

-- a site that holds key k has its vote held: the two sets meet
pub covers : (p : Plan) (h own carried s k : ℕ) → Planned p → Held h own carried s → k < 64
    → meeting (get_or p.holders k 0) h ≡ covers_key own carried p.tables.group p.tables.groups (site_count p.tables) s k
unfolding meeting covers_key
covers p h own carried s k is held low = iff_eq _ _
    (λ e.
    let (f, b, q) = any_get 64 _ e in
    let (m, g) = and-true (member (get_or p.holders k 0) f) (member h f) q in
    let (n, o) = and-true (ltb f (site_count p.tables)) (member (site_keys p.tables f) k) (sym (is.holders k f low) ∙ m) in
    any_put (site_count p.tables) _ f (ltb-true f (site_count p.tables) n) (and_put _ _ (sym (held f) ∙ g) o))
    (λ e.
    let (f, b, q) = any_get (site_count p.tables) _ e in
    let (g, o) = and-true (holds_vote own carried s f) (member (site_keys p.tables f) k) q in
    any_put 64 _ f (omega (arith, is.fits.sites)) (and_put _ _ (is.holders k f low ∙ and_put _ _ (lt-ltb f (site_count p.tables) b) o) (held f ∙ g)))
