-- A number below nobody names one that is found, nobody none.
use Rattle.std.proofs.Common.{ℕ, ◌<◌, ◌≡◌, refl, ap, arith, Option, Some, None, IfSome, unwrap_or}
use Rattle.parts.specs.Cells.{nobody}

pub same_found : (a b : Option ℕ) → IfSome a (λ t. t < nobody) → IfSome b (λ t. t < nobody) → unwrap_or a nobody ≡ unwrap_or b nobody → a ≡ b
same_found None None l h e = refl
same_found None (Some t) l h e = absurd (omega arith)
same_found (Some t) None l h e = absurd (omega arith)
same_found (Some t) (Some u) l h e = ap Some e
