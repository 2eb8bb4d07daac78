-- The literal of a step.
use Rattle.std.specs.Prelude.{◌≡◌, ℕ}
use Rattle.theory.specs.Term.{Term}
use Rattle.store.specs.declared.gates.Kept.{Kept}
use Rattle.store.specs.Kept.{kept_term}
use Rattle.operand_rules.specs.declared.literal.Literal.{Literal}

-- l is at a place of these kept terms
pub record Stands (l : Literal) (k : Kept) (place : ℕ) : Type 0 where
  pub kept_is : l.kept ≡ k
  pub place_is : l.place ≡ place

-- its term
abbrev pub literal_term : Literal → Term
literal_term l = kept_term l.kept l.place
