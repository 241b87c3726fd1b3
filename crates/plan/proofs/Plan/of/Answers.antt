use Rattle.std.proofs.Common.{rules, refl, ◌∙◌, ◌≡◌, ◌<◌, ℕ, get_or, lt-ltb}
use Rattle.keys.specs.Keys.{member}
use Rattle.tables.specs.Lists.{in_row, read_row, read_count, write_row, write_count}
use Rattle.tables.specs.Sites.{site_count, site_keys}
use Rattle.plan.proofs.Questions.{holders_same}
use Rattle.plan.proofs.Made.{made}
use Rattle.plan.proofs.Plan.of.Goals as goal

pub returns : goal.returns
returns c =
    let keys : (s : ℕ) → s < 16 → get_or c.from_fn-site_sets.result s 0 ≡ site_keys c.args.tables s =
    λ s l. made _ _ (λ s x. x ≡ site_keys c.args.tables s) (λ x y q h. search rules) _ 16 c.from_fn-site_sets.ensures.items s 0 l in (
      refl,
      record {
        laid = record {
          txns = c.requires.fits.txns;
          sites = rw c.sites-sites.ensures.0 c.requires.fits.sites;
          short = c.requires.fits.short;
          read_low = c.requires.by_index;
        };
        fits = c.requires.fits;
        sites = c.sites-sites.ensures.0;
        site_sets = keys;
        holders = λ k s l. c.holder_sets.ensures k s l ∙ rw c.sites-sites.ensures.0 (holders_same (site_count c.args.tables) k (site_keys c.args.tables) (λ i. get_or c.from_fn-site_sets.result i 0) c.requires.fits.sites keys s);
        read_sets = λ t k l. made _ _ (λ t x. t < c.args.tables.txns → (k : ℕ) → member x k ≡ in_row (read_row c.args.tables t) (read_count c.args.tables t) k) (λ x y q h. (search rules, λ u k. search (rules, lt-ltb x _ u))) _ 128 c.from_fn.ensures.items t 0 (search rules) l k;
        write_sets = λ t k l. made _ _ (λ t x. t < c.args.tables.txns → (k : ℕ) → member x k ≡ in_row (write_row c.args.tables t) (write_count c.args.tables t) k) (λ x y q h. (search rules, λ u k. search (rules, lt-ltb x _ u))) _ 128 c.from_fn-2.ensures.items t 0 (search rules) l k;
      },
    )
