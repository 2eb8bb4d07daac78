-- Verdicts as the code has them, and what a rule's check may take for granted.
use Rattle.std.specs.Prelude.{◌≡◌, List, [], ◌∷◌, map, length, ℕ, T, ◌+◌, ◌<◌}
use Rattle.theory.specs.Limit.{first_terms}
use Rattle.theory.specs.Kind.{Op}
use Rattle.theory.specs.Term.{Term}
use Rattle.theory.specs.Sort.{bv, fitting, sort_of}
use Rattle.theory.specs.Bits.{get_term_bits}
use Rattle.store.specs.declared.gates.Kept.{Kept}
use Rattle.store.specs.Kept.{kept_term, kept_number, kept_width}
use Rattle.operand_rules.specs.declared.Verdict.{Verdict}
use Rattle.theory.specs.Verdict as Said
use Rattle.operand_rules.specs.declared.Verdict.TheVariants as R

-- the verdict that a case stands for
abbrev pub verdict_of : Verdict → Said.Verdict
verdict_of R.Held = Said.held
verdict_of R.FormOnly = Said.form_only
verdict_of R.NotOneLiteral = Said.not_one_literal
verdict_of R.WrongForm = Said.wrong_form
verdict_of R.NotBitVector = Said.not_bit_vector
verdict_of R.NotConstant = Said.not_constant
verdict_of R.BitNotLiteral = Said.bit_not_literal
verdict_of R.OtherValue = Said.other_value
verdict_of R.TermsDiffer = Said.terms_differ
verdict_of R.IndexNotNext = Said.index_not_next
verdict_of R.PremiseBroken = Said.premise_broken

-- the term at x is kept, and is a bit-vector of width w
pub record Operand (k : Kept) (x w : ℕ) : Type 0 where
  pub there : x < first_terms + k.lookup.rows
  pub sort : sort_of (kept_term k x) ≡ bv w

-- an operation of one bit-vector, and the claim
pub record One (k : Kept) (x claim : ℕ) : Type 0 where
  pub only : Operand k x (kept_width k x)
  pub claimed : claim < first_terms + k.lookup.rows

-- an operation of one bit-vector whose width fits the numbers in the operation's kind, and the claim
pub record OneFits (k : Kept) (o : Op) (x claim : ℕ) : Type 0 where
  pub one : One k x claim
  pub fits : T (fitting o (sort_of (kept_term k x) ∷ []))

-- t is a bit-vector, and xs are the numbers of its bits
pub record BitsOf (k : Kept) (xs : List ℕ) (t : Term) : Type 0 where
  pub sort : sort_of t ≡ bv (length xs)
  pub bits : xs ≡ map (kept_number k) (get_term_bits t)

-- an equation of two terms of one sort, and the claim
pub record Same (k : Kept) (x y claim : ℕ) : Type 0 where
  pub left : x < first_terms + k.lookup.rows
  pub right : y < first_terms + k.lookup.rows
  pub same : sort_of (kept_term k y) ≡ sort_of (kept_term k x)
  pub claimed : claim < first_terms + k.lookup.rows
