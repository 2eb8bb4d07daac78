-- What an operation does with its argument list, and what its check may take for granted of the list.
use mathlib.Core.List.{List, [], ◌∷◌, foldl}
use Rattle.std.specs.Prelude.{◌≡◌, false, ℕ, ◌+◌, ◌<◌, ◌≤◌, eqb, get_or}
use Rattle.std.specs.Prelude.{Option, None as none, Some as some}
use Rattle.theory.specs.Limit.{first_terms}
use Rattle.theory.specs.Kind.{Op, Equals, kind}
use Rattle.theory.specs.Term.{Term}
use Rattle.theory.specs.Bits.{get_term_bits}
use Rattle.theory.specs.Verdict.{Verdict}
use Rattle.theory.specs.Rule.{binary, on_many}
use Rattle.terms.specs.declared.Args.{Args}
use Rattle.terms.specs.declared.Operands.TheVariants.{List as Listed}
use Rattle.terms.specs.declared.Term as D
use Rattle.terms.specs.Decoded.{Inside, op_of, operands_of}
use Rattle.store.specs.declared.gates.Kept.{Kept}
use Rattle.store.specs.Kept.{kept_width, words_of}
use Rattle.operand_rules.specs.Rules.{Operand}

-- r are the arguments of t where it is a term of kind o, and nothing where it is not
pub record ArgumentsOf (o : Op) (t : D.Term) (r : Option Args) : Type 0 where
  pub list : (a : Args) → r ≡ some a → (op_of t ≡ o) × (operands_of t ≡ Listed a)
  pub other : r ≡ none → eqb (kind (op_of t)) (kind o) ≡ false

-- one more argument: the circuit of the bits so far and of its bits
abbrev pub next_bits : (List Term → List Term → List Term) → List Term → Term → List Term
next_bits circuit us t = circuit us (get_term_bits t)

-- the bits of the operation on all arguments, from the left
unfoldable pub folded_bits : (List Term → List Term → List Term) → List Term → List Term
folded_bits circuit [] = []
folded_bits circuit (t ∷ ts) = foldl (next_bits circuit) (get_term_bits t) ts

-- (= (op x ..) claim): the claim is the term that is expected of the arguments
abbrev pub by_list : Op → (List Term → Term) → Term → Verdict
by_list o expected literal = binary (kind Equals) literal (on_many (kind o) expected)

-- the number of argument i
abbrev pub argument : Kept → Args → ℕ → ℕ
argument kept list i = get_or (words_of kept list) i 0

-- one argument or more, all of them bit-vectors of width w
pub record Alike (kept : Kept) (list : Args) (w : ℕ) : Type 0 where
  pub inside : Inside kept.lookup.job.now list
  pub some : 1 ≤ list.count
  pub each : (i : ℕ) → i < list.count → Operand kept (argument kept list i) w

-- an operation of bit-vectors of one width, and the claim
pub record Many (kept : Kept) (list : Args) (claim : ℕ) : Type 0 where
  pub alike : Alike kept list (kept_width kept (argument kept list 0))
  pub claimed : claim < first_terms + kept.lookup.rows
