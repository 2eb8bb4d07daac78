-- The rules of operations of one and two bit-vectors: what their terms' operands are, and the verdicts.
use Rattle.std.specs.Prelude.{◌≡◌, false, ℕ, eqb}
use Rattle.std.specs.Prelude.{Option, None as none, Some as some}
use Rattle.theory.specs.Kind.{Op, Equals, kind}
use Rattle.theory.specs.Term as T
use Rattle.theory.specs.Verdict.{Verdict}
use Rattle.theory.specs.Rule.{index_of, unary, binary}
use Rattle.terms.specs.declared.Term.{Term}
use Rattle.terms.specs.declared.Operands.TheVariants.{One, Two}
use Rattle.terms.specs.Decoded.{op_of, operands_of}

-- r is the operation and the operand of t where it is a term of a kind with this number, and nothing where it is not
pub record OperandOf {S : Type 0} (kind_of : S → Op) (number : ℕ) (t : Term) (r : Option (S × ℕ)) : Type 0 where
  pub one : (s : S) (x : ℕ) → r ≡ some (s, x) → (op_of t ≡ kind_of s) × (operands_of t ≡ One x)
  pub other : r ≡ none → eqb (kind (op_of t)) number ≡ false

-- r are the two operands of t where it is a term of kind o, and nothing where it is not
pub record OperandsOf (o : Op) (t : Term) (r : Option (ℕ × ℕ)) : Type 0 where
  pub two : (x y : ℕ) → r ≡ some (x, y) → (op_of t ≡ o) × (operands_of t ≡ Two x y)
  pub other : r ≡ none → eqb (kind (op_of t)) (kind o) ≡ false

-- (= (op x) claim), by the number of op's kind: the verdict on the numbers in the kind, the operand and the claim
abbrev pub by_unary : ℕ → ((ℕ → ℕ) → T.Term → T.Term → Verdict) → T.Term → Verdict
by_unary number verdict literal =
    binary (kind Equals) literal (λ l claim. unary number l (λ x. verdict (λ i. index_of i l) x claim))

-- (= (op x y) claim): the verdict on the operands and the claim
abbrev pub by_binary : Op → (T.Term → T.Term → T.Term → Verdict) → T.Term → Verdict
by_binary o verdict literal =
    binary (kind Equals) literal (λ l claim. binary (kind o) l (λ x y. verdict x y claim))
