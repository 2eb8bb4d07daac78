-- What contracts say of a claim `c`: that its premises join to the equality of two terms.
use Rattle.std.specs.Prelude.{Bool, List}
use Rattle.std.specs.Prelude.{Option}
use Rattle.theory.specs.RuleTable.{ChainRule}
use Rattle.theory.specs.Chain as C
use Rattle.chains.specs.declared.joining.Claim.{Claim}
use Rattle.chains.specs.Told.{all_sides_told, joins_told}

-- the premises join to it by a rule
abbrev pub claim_joins : Claim → ChainRule → Bool
claim_joins c rule = joins_told c.past.now rule c.premises c.left c.right

-- the sides of each premise
abbrev pub claim_sides : Claim → List (Option C.Sides)
claim_sides c = all_sides_told c.past.now c.premises
