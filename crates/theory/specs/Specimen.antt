-- Document 01, "Specimens": the ten rows of the table. x and y are variables.
use Rattle.std.specs.Prelude.{Bool, true, false, ◌&&◌, cond, List, [], ◌∷◌, ℕ, zero, suc, ◌%◌, ◌^◌, eqb}
use Rattle.std.specs.Prelude.{Some as some}
use Rattle.std.proofs.Common.{mod-lt, pow_pos}
use Rattle.theory.specs.Limit.{max_width}
use Rattle.theory.specs.Kind.{Not, And, Equals, BvVar, BvBitOf, BvAnd, BvNeg, BvAdd, BvMul, BvSLt, BvAShr, BvUDiv, BvURem, SignExtend}
use Rattle.theory.specs.Term.{Term, node, nil, cons, two}
use Rattle.theory.specs.Value.{Assign, number, same, value}
use Rattle.theory.specs.Gates.{term_gates}
use Rattle.theory.specs.Circuit.{negate, ashr, udiv, urem}
use Rattle.theory.specs.Bits.{get_term_bits, bb, shifted, divided, product}
use Rattle.theory.specs.RuleTable.{rule_at}
use Rattle.theory.specs.Answer.{Answer}
use Rattle.theory.specs.Job.{reply}

-- what a row says of (= left right) at width n
pub data Fact : Type 0 where
  -- its step is answered with this code and depth
  answered : ℕ → ℕ → Fact
  -- its step is answered with this code
  coded : ℕ → Fact
  -- with this right side in place of its own, with this code and depth 0
  instead : (ℕ → Term) → ℕ → Fact
  -- where x and y have these values, the circuit on the right has this one
  circuit : ℕ → ℕ → ℕ → Fact
  -- and the operation on the left, by the standard, this one
  standard : ℕ → ℕ → ℕ → Fact

-- a row: its rule, its widths, both sides at width n, and what it says of them
pub record Specimen : Type 0 where
  pub rule : ℕ
  pub widths : List ℕ
  pub left : ℕ → Term
  pub right : ℕ → Term
  pub facts : List Fact

-- a row by its parts
abbrev pub specimen : ℕ → List ℕ → (ℕ → Term) → (ℕ → Term) → List Fact → Specimen
specimen rule widths left right facts = record { rule = rule; widths = widths; left = left; right = right; facts = facts }

-- k widths from n on
abbrev pub widths_from : ℕ → ℕ → List ℕ
widths_from n zero = []
widths_from n (suc k) = n ∷ widths_from (suc n) k

-- a row that names no width is of all: 1 to 64
abbrev pub every_width : List ℕ
every_width = widths_from 1 max_width

-- the first variable of width n
abbrev pub x : ℕ → Term
x n = node (BvVar n 0) nil

-- the second variable of width n
abbrev pub y : ℕ → Term
y n = node (BvVar n 1) nil

-- bit 0 of t
abbrev pub bit_0 : Term → Term
bit_0 t = node (BvBitOf 0) (cons t nil)

-- not t
abbrev pub negation : Term → Term
negation t = node Not (cons t nil)

-- the ten rows, in document 01's order
abbrev pub specimens : List Specimen
specimens =
    specimen 9 (1 ∷ []) (λ n. two BvSLt (x n) (y n)) (λ n. two And (bit_0 (x n)) (negation (bit_0 (y n)))) (answered 0 2 ∷ [])
    ∷ specimen 13 (1 ∷ []) (λ n. two Equals (x n) (y n)) (λ n. two Equals (bit_0 (x n)) (bit_0 (y n)))
    (answered 0 1 ∷ instead (λ n. node And (cons (two Equals (bit_0 (x n)) (bit_0 (y n))) nil)) 16 ∷ [])
    ∷ specimen 3 every_width (λ n. node BvAnd (cons (x n) nil)) x (answered 0 0 ∷ [])
    ∷ specimen 10 every_width (λ n. node BvAdd (cons (x n) nil)) (λ n. bb (get_term_bits (x n))) (answered 0 0 ∷ instead x 16 ∷ [])
    ∷ specimen 17 every_width (λ n. node (SignExtend 0) (cons (x n) nil)) x (answered 0 0 ∷ [])
    ∷ specimen 12 (1 ∷ []) (λ n. node BvNeg (cons (x n) nil)) (λ n. bb (negate term_gates (get_term_bits (x n)))) (answered 0 3 ∷ [])
    ∷ specimen 20 (1 ∷ []) (λ n. two BvAShr (x n) (y n)) (λ n. shifted (ashr term_gates false) (x n) (y n))
    (coded 1 ∷ circuit 1 1 0 ∷ standard 1 1 1 ∷ [])
    ∷ specimen 21 (1 ∷ []) (λ n. two BvUDiv (x n) (y n)) (λ n. divided (udiv term_gates false) (x n) (y n))
    (coded 1 ∷ circuit 0 1 1 ∷ standard 0 1 0 ∷ [])
    ∷ specimen 22 (1 ∷ []) (λ n. two BvURem (x n) (y n)) (λ n. divided (urem term_gates false) (x n) (y n))
    (coded 1 ∷ circuit 1 1 1 ∷ standard 1 1 0 ∷ [])
    ∷ specimen 11 (2 ∷ []) (λ n. two BvMul (x n) (y n)) (λ n. product (x n) (y n)) (coded 0 ∷ circuit 3 3 1 ∷ standard 3 3 1 ∷ [])
    ∷ []

-- ---- a row is true
-- x has the value a, any other variable b
abbrev pub x_and_y : ℕ → ℕ → Assign
x_and_y a b = record {
  bool_at = λ v. false;
  number_at = λ n v. cond (eqb v 0) a b % 2 ^ n;
  below = λ n v. mod-lt (cond (eqb v 0) a b) (pow_pos n);
}

-- one answer, of which this is true
abbrev pub one_answer : List Answer → (Answer → Bool) → Bool
one_answer [] p = false
one_answer (a ∷ []) p = p a
one_answer (a ∷ b ∷ rest) p = false

-- of the answer to a step of this rule on (= left right)
abbrev pub gets : ℕ → Term → Term → (Answer → Bool) → Bool
gets rule left right = one_answer (reply rule (rule_at rule) (some (two Equals left right ∷ [])))

-- a fact of row s at width n holds
abbrev pub fact_true : Specimen → ℕ → Fact → Bool
fact_true s n (answered code depth) = gets s.rule (s.left n) (s.right n) (λ a. eqb a.code code && eqb a.depth depth)
fact_true s n (coded code) = gets s.rule (s.left n) (s.right n) (λ a. eqb a.code code)
fact_true s n (instead other code) = gets s.rule (s.left n) (other n) (λ a. eqb a.code code && eqb a.depth 0)
fact_true s n (circuit a b v) = same (value (x_and_y a b) (s.right n)) (number n v)
fact_true s n (standard a b v) = same (value (x_and_y a b) (s.left n)) (number n v)

-- every element passes
abbrev pub all : {A : Type 0} → (A → Bool) → List A → Bool
all f [] = true
all f (a ∷ rest) = f a && all f rest

-- every fact, at every width
abbrev pub specimen_true : Specimen → Bool
specimen_true s = all (λ n. all (fact_true s n) s.facts) s.widths
