-- The rules of Alethe.antt as statements about terms: for each left side, the term that stands on the right. Bit i of x is
-- ((_ @bit_of i) x), or argument i where x is a @bbterm. The rules are as bitvectors.rs follows them; Alethe's text was not compared.
use Rattle.std.specs.Prelude.{◌≡◌, cond, List, [], ◌∷◌, ◌++◌, ℕ, suc, ◌+◌, ◌-◌, ◌^◌, ◌≤◌, ◌<◌, eqb, ltb, get_or}
use Rattle.theory.specs.Kind.{True, False, Const, And, Or, Xor, Equals, BvBitOf, BvBbTerm, BvNot, BvNeg, BvAnd, BvOr, BvXor, BvAdd, BvMul, BvXNor, BvComp, BvULt, BvSLt, BvConcat, BvExtract, SignExtend, kind}
use Rattle.theory.specs.Term.{Term, node, nil, cons, to_list, from_list, two}
use Rattle.theory.specs.Sort.{bool, bv, sort_of}
use Rattle.theory.specs.Value.{bit_at}
use Rattle.theory.specs.Gates.{term_gates}
use Rattle.theory.specs.Bits.{bb}
use Rattle.theory.specs.Move.{bits}
use Rattle.theory.specs.Alethe.{bitwise, bvnot, bvult, bvslt, bvadd, bvneg, bvmul, bvequal, bvcomp, extract, sign_extend}
use Rattle.theory.specs.Verdict.{held}
use Rattle.theory.specs.RuleTable.{Rule, by_value, by_var, by_and, by_or, by_xor, by_xnor, by_not, by_ult, by_slt, by_add, by_mult, by_neg, by_equality, by_comp, by_extract, by_concat, by_sign_extend}
use Rattle.theory.specs.Rule.{verdict}

-- bit i of a term; past the bits of a @bbterm `false`, which no rule reads
abbrev pub bit : Term → ℕ → Term
bit (node o ts) i = cond (eqb (kind o) (kind BvBbTerm)) (get_or (to_list ts) i (node False nil)) (node (BvBitOf i) (cons (node o ts) nil))

-- two bit-vectors of width n
pub record Both (x y : Term) (n : ℕ) : Type 0 where
  pub left : sort_of x ≡ bv n
  pub right : sort_of y ≡ bv n

-- more arguments are read from the left: `first` is what stands for one argument, `prints` for the term so far and one argument more
pub data FromLeft (first : ℕ → Term → Term) (prints : ℕ → (ℕ → Term) → (ℕ → Term) → Term) : List Term → Term → Type 0 where
  alone : {x : Term} {n : ℕ} → sort_of x ≡ bv n → FromLeft first prints (x ∷ []) (first n x)
  and_then : {ts : List Term} {e y : Term} {n : ℕ} → FromLeft first prints ts e → Both e y n
      → FromLeft first prints (ts ++ (y ∷ [])) (prints n (bit e) (bit y))

-- the rule, its left side, and the right side that it has
pub data Prints : Rule → Term → Term → Type 0 where
  bitblast_var : {x : Term} {n : ℕ} → sort_of x ≡ bv n → Prints by_var x (bb (bits n (bit x)))
  bitblast_and : {x y : Term} {n : ℕ} → Both x y n → Prints by_and (two BvAnd x y) (bb (bitwise (two And) n (bit x) (bit y)))
  bitblast_or : {x y : Term} {n : ℕ} → Both x y n → Prints by_or (two BvOr x y) (bb (bitwise (two Or) n (bit x) (bit y)))
  bitblast_xor : {x y : Term} {n : ℕ} → Both x y n → Prints by_xor (two BvXor x y) (bb (bitwise (two Xor) n (bit x) (bit y)))
  bitblast_xnor : {x y : Term} {n : ℕ} → Both x y n → Prints by_xnor (two BvXNor x y) (bb (bitwise (two Equals) n (bit x) (bit y)))
  bitblast_not : {x : Term} {n : ℕ} → sort_of x ≡ bv n → Prints by_not (node BvNot (cons x nil)) (bb (bvnot term_gates n (bit x)))
  bitblast_ult : {x y : Term} {n : ℕ} → Both x y n → Prints by_ult (two BvULt x y) (bvult term_gates n (bit x) (bit y))
  bitblast_slt : {x y : Term} {n : ℕ} → Both x y n → Prints by_slt (two BvSLt x y) (bvslt term_gates n (bit x) (bit y))
  bitblast_add : {x y : Term} {n : ℕ} → Both x y n → Prints by_add (two BvAdd x y) (bb (bvadd term_gates n (bit x) (bit y)))
  bitblast_mult : {x y : Term} {n : ℕ} → Both x y n → Prints by_mult (two BvMul x y) (bb (bvmul term_gates n (bit x) (bit y)))
  bitblast_neg : {x : Term} {n : ℕ} → sort_of x ≡ bv n → Prints by_neg (node BvNeg (cons x nil)) (bb (bvneg term_gates n (bit x)))
  bitblast_equal : {x y : Term} {n : ℕ} → Both x y n → Prints by_equality (two Equals x y) (bvequal term_gates n (bit x) (bit y))
  bitblast_comp : {x y : Term} {n : ℕ} → Both x y n → Prints by_comp (two BvComp x y) (bb (bvcomp term_gates n (bit x) (bit y)))
  bitblast_extract : {x : Term} {n i j : ℕ} → sort_of x ≡ bv n → j ≤ i → i < n
      → Prints by_extract (node (BvExtract i j) (cons x nil)) (bb (extract i j (bit x)))
  bitblast_concat : {x y : Term} {m n : ℕ} → sort_of x ≡ bv m → sort_of y ≡ bv n
      → Prints by_concat (two BvConcat x y) (bb (bits (n + m) (λ k. cond (ltb k n) (bit y k) (bit x (k - n)))))
  bitblast_sign_extend_0 : {x : Term} → Prints by_sign_extend (node (SignExtend 0) (cons x nil)) x
  bitblast_sign_extend : {x : Term} {n k : ℕ} → sort_of x ≡ bv (suc n)
      → Prints by_sign_extend (node (SignExtend (suc k)) (cons x nil)) (bb (sign_extend (suc k) (suc n) (bit x)))
  bitblast_ands : {ts : List Term} {e : Term} → FromLeft (λ n x. x) (λ n x y. bb (bitwise (two And) n x y)) ts e
      → Prints by_and (node BvAnd (from_list ts)) e
  bitblast_ors : {ts : List Term} {e : Term} → FromLeft (λ n x. x) (λ n x y. bb (bitwise (two Or) n x y)) ts e
      → Prints by_or (node BvOr (from_list ts)) e
  bitblast_xors : {ts : List Term} {e : Term} → FromLeft (λ n x. x) (λ n x y. bb (bitwise (two Xor) n x y)) ts e
      → Prints by_xor (node BvXor (from_list ts)) e
  bitblast_mults : {ts : List Term} {e : Term} → FromLeft (λ n x. x) (λ n x y. bb (bvmul term_gates n x y)) ts e
      → Prints by_mult (node BvMul (from_list ts)) e
  bitblast_adds : {ts : List Term} {e : Term} → FromLeft (λ n x. bb (bits n (bit x))) (λ n x y. bb (bvadd term_gates n x y)) ts e
      → Prints by_add (node BvAdd (from_list ts)) e

-- a step of such a rule is accepted exactly when its right side is that term
pub record Exactly (rule : Rule) (l e r : Term) : Type 0 where
  pub only : verdict rule (two Equals l r) ≡ held → r ≡ e
  pub always : r ≡ e → verdict rule (two Equals l r) ≡ held

-- bitblast_const, of a literal whose sides have one sort: bit i of the constant's value, as `true` or `false`
abbrev pub AletheConst : Type 0
AletheConst =
    (n v : ℕ) (r : Term) → v < 2 ^ n → sort_of (two Equals (node (Const n v) nil) r) ≡ bool
    → Exactly by_value (node (Const n v) nil) (bb (bits n (λ i. cond (bit_at i v) (node True nil) (node False nil)))) r

-- of every rule above
abbrev pub AletheRules : Type 0
AletheRules = (rule : Rule) (l e r : Term) → Prints rule l e → Exactly rule l e r
