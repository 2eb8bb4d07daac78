-- A literal that stands at a place.
use mathlib.Core.Path.{◌≡◌, ap₂}
use Prim.Native.Nat.{ℕ}
use Rattle.store.specs.declared.gates.Kept.{Kept}
use Rattle.store.specs.Kept.{kept_term}
use Rattle.operand_rules.specs.declared.literal.Literal.{Literal}
use Rattle.operand_rules.specs.Literal.{Stands, literal_term}

-- its term is the kept one there
pub literal_at : {l : Literal} {k : Kept} {place : ℕ} → Stands l k place → literal_term l ≡ kept_term k place
literal_at s = ap₂ kept_term s.kept_is s.place_is
