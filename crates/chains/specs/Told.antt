-- What contracts say of the past of a chain `p`: its kept terms, and the steps that were answered.
use Rattle.std.specs.Prelude.{◌≡◌, Bool, true, List, map, ℕ, ◌+◌, ◌<◌}
use Rattle.std.specs.Prelude.{Option}
use Rattle.theory.specs.Limit.{first_terms}
use Rattle.theory.specs.Term.{Term}
use Rattle.theory.specs.RuleTable.{ChainRule}
use Rattle.theory.specs.Chain.{Earlier, premises_at}
use Rattle.theory.specs.Chain as C
use Rattle.theory.specs.Codes.{all_below}
use Rattle.terms.specs.declared.Args.{Args}
use Rattle.terms.specs.declared.Operands.{Operands}
use Rattle.terms.specs.Decoded.{Inside, OperandsPlaced, words_in, numbers_of}
use Rattle.store.specs.KeptTerms.{kept_terms, kept_term}
use Rattle.chains.specs.declared.premises.Past.{Past}
use Rattle.chains.specs.Premises.{earlier_in, origin_before, sides_in, joins_in}

-- a term is at that place, and its origin is not after `at`
abbrev pub is_before : Past → ℕ → ℕ → Bool
is_before p = origin_before p.terms.job.now p.terms.work.now p.terms.rows

-- the earlier steps
abbrev pub earlier_told : Past → Earlier
earlier_told p = earlier_in p.terms.job.now p.terms.work.now p.answers.memory.now p.terms.rows p.answers.count

-- the literals of the premises, if all of them stand
abbrev pub premises_told : Past → Args → Option (List Term)
premises_told p premises = premises_at (earlier_told p) (kept_terms p.terms) (words_in p.terms.job.now premises)

-- two sides, as terms
abbrev pub sides_of : Past → ℕ × ℕ → C.Sides
sides_of p s = (kept_term p.terms s.0, kept_term p.terms s.1)

-- the sides of the premise with that number, if it stands and is an equality
abbrev pub sides_told : Past → ℕ → Option C.Sides
sides_told p = sides_in (earlier_told p) (kept_terms p.terms)

-- the sides of each premise
abbrev pub all_sides_told : Past → Args → List (Option C.Sides)
all_sides_told p premises = map (sides_told p) (words_in p.terms.job.now premises)

-- the premises join to the equality of the terms at l and r
abbrev pub joins_told : Past → ChainRule → Args → ℕ → ℕ → Bool
joins_told p rule premises l r =
    joins_in rule (earlier_told p) (kept_terms p.terms) (words_in p.terms.job.now premises) (kept_term p.terms l) (kept_term p.terms r)

-- ---- what is granted
-- the premises of a chain, and the two sides of its claim
pub record Joining (p : Past) (premises : Args) (l r : ℕ) : Type 0 where
  pub inside : Inside p.terms.job.now premises
  pub left : l < first_terms + p.terms.rows
  pub right : r < first_terms + p.terms.rows

-- the arguments of both sides
pub record Arguing (p : Past) (xs ys : Operands) : Type 0 where
  pub left_placed : OperandsPlaced p.terms.job.now xs
  pub left_below : all_below (first_terms + p.terms.rows) (numbers_of p.terms.job.now xs) ≡ true
  pub right_placed : OperandsPlaced p.terms.job.now ys
  pub right_below : all_below (first_terms + p.terms.rows) (numbers_of p.terms.job.now ys) ≡ true
