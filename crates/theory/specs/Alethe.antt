-- The circuits bit by bit, as recurrences over the index, in the manner of Alethe's rules as bitvectors.rs follows them; over any gates.
-- docs/DIFFERENCES.md says what they were written from; Alethe's text was not compared.
-- Bit i of x is `x i`, bit 0 is the lowest, and n is the width.
-- No bit-vector has width 0: what stands there is only what Circuit.antt gives for empty lists.
use Rattle.std.specs.Prelude.{cond, List, [], ◌∷◌, ℕ, zero, suc, ◌+◌, ◌-◌, leb, ltb}
use Rattle.theory.specs.Move.{bits}
use Rattle.theory.specs.Gates.{Gates}

module _ {A : Type 0} where
  -- bvand, bvor, bvxor, and bvxnor with the gate `=`: bit i is gate x_i y_i
  abbrev pub bitwise : (A → A → A) → ℕ → (ℕ → A) → (ℕ → A) → List A
  bitwise gate n x y = bits n (λ i. gate (x i) (y i))

module _ {A : Type 0} (G : Gates A) where
  open G use {true_gate, false_gate, not_gate, and_gate, or_gate, xor_gate, eq_gate, all_gate}

  -- bvnot: bit i is not x_i
  abbrev pub bvnot : ℕ → (ℕ → A) → List A
  bvnot n x = bits n (λ i. not_gate (x i))

  -- ---- bvult and bvslt: what bits 0 to i say
  -- res_0 = (not x_0) and y_0; res_{i+1} = ((x_{i+1} = y_{i+1}) and res_i) or ((not x_{i+1}) and y_{i+1})
  abbrev pub less_at : (ℕ → A) → (ℕ → A) → ℕ → A
  less_at x y zero = and_gate (not_gate (x 0)) (y 0)
  less_at x y (suc i) = or_gate (and_gate (eq_gate (x (suc i)) (y (suc i))) (less_at x y i)) (and_gate (not_gate (x (suc i))) (y (suc i)))

  -- bvult: res_{n-1}
  abbrev pub bvult : ℕ → (ℕ → A) → (ℕ → A) → A
  bvult zero x y = false_gate
  bvult (suc n) x y = less_at x y n

  -- bvslt: ((x_{n-1} = y_{n-1}) and res_{n-2}) or (x_{n-1} and (not y_{n-1})); at width 1 x_0 and (not y_0)
  abbrev pub bvslt : ℕ → (ℕ → A) → (ℕ → A) → A
  bvslt zero x y = false_gate
  bvslt (suc zero) x y = and_gate (x 0) (not_gate (y 0))
  bvslt (suc (suc n)) x y =
      or_gate (and_gate (eq_gate (x (suc n)) (y (suc n))) (less_at x y n)) (and_gate (x (suc n)) (not_gate (y (suc n))))

  -- ---- bvadd and bvneg: c is the carry into bit 0
  -- carry_0 = c; carry_{i+1} = (x_i and y_i) or ((x_i xor y_i) and carry_i)
  abbrev pub carry_at : A → (ℕ → A) → (ℕ → A) → ℕ → A
  carry_at c x y zero = c
  carry_at c x y (suc i) = or_gate (and_gate (x i) (y i)) (and_gate (xor_gate (x i) (y i)) (carry_at c x y i))

  -- bit i of the sum: (x_i xor y_i) xor carry_i
  abbrev pub sum_at : A → (ℕ → A) → (ℕ → A) → ℕ → A
  sum_at c x y i = xor_gate (xor_gate (x i) (y i)) (carry_at c x y i)

  -- bvadd, of two
  abbrev pub bvadd : ℕ → (ℕ → A) → (ℕ → A) → List A
  bvadd n x y = bits n (sum_at false_gate x y)

  -- bvneg: the sum of (not x_i) and false, with the carry true
  abbrev pub bvneg : ℕ → (ℕ → A) → List A
  bvneg n x = bits n (sum_at true_gate (λ i. not_gate (x i)) (λ i. false_gate))

  -- ---- bvmul, of two: to the rows 0 to j - 1, added up, comes row j; every row has the places 0 to n - 1
  -- row j is x, j places up, where y_j is set: sh^j_i = y_j and x_{i-j}, and false below place j
  abbrev pub sh : (ℕ → A) → (ℕ → A) → ℕ → ℕ → A
  sh x y j i = cond (leb j i) (and_gate (y j) (x (i - j))) false_gate

  -- the carry into place i where r and s are added from place j on; false up to place j
  abbrev pub ripple : (ℕ → A) → (ℕ → A) → ℕ → ℕ → A
  ripple r s j zero = false_gate
  ripple r s j (suc i) = cond (leb j i) (or_gate (and_gate (r i) (s i)) (and_gate (xor_gate (r i) (s i)) (ripple r s j i))) false_gate

  -- the sum of the rows 0 to j: res^0_i = sh^0_i; res^{j+1}_i = (res^j_i xor sh^{j+1}_i) xor carry^{j+1}_i, and res^j_i up to place j
  abbrev pub res : (ℕ → A) → (ℕ → A) → ℕ → ℕ → A
  res x y zero i = sh x y 0 i
  res x y (suc j) i =
      cond (leb i j) (res x y j i)
      (xor_gate (xor_gate (res x y j i) (sh x y (suc j) i)) (ripple (res x y j) (sh x y (suc j)) (suc j) i))

  -- carry^{j+1}_{i+1} = (res^j_i and sh^{j+1}_i) or ((res^j_i xor sh^{j+1}_i) and carry^{j+1}_i), and false up to place j + 1
  abbrev pub carry : (ℕ → A) → (ℕ → A) → ℕ → ℕ → A
  carry x y zero i = false_gate
  carry x y (suc j) i = ripple (res x y j) (sh x y (suc j)) (suc j) i

  -- bvmul: bit i is res^{n-1}_i
  abbrev pub bvmul : ℕ → (ℕ → A) → (ℕ → A) → List A
  bvmul zero x y = []
  bvmul (suc n) x y = bits (suc n) (res x y n)

  -- ---- equality and bvcomp: the bits (x_i = y_i), one alone, several under an And
  -- equality: x = y
  abbrev pub bvequal : ℕ → (ℕ → A) → (ℕ → A) → A
  bvequal zero x y = true_gate
  bvequal (suc zero) x y = eq_gate (x 0) (y 0)
  bvequal (suc (suc n)) x y = all_gate (bitwise eq_gate (suc (suc n)) x y)

  -- bvcomp: the one bit of equality
  abbrev pub bvcomp : ℕ → (ℕ → A) → (ℕ → A) → List A
  bvcomp n x y = bvequal n x y ∷ []

-- ---- bits in other places
module _ {A : Type 0} where
  -- extract from j up to i: bit k is x_{j+k}
  abbrev pub extract : ℕ → ℕ → (ℕ → A) → List A
  extract i j x = bits (suc (i - j)) (λ k. x (j + k))

  -- the width of a concat; each argument is given as its width and its bits
  abbrev pub concat_width : List (ℕ × (ℕ → A)) → ℕ
  concat_width [] = 0
  concat_width (v ∷ vs) = concat_width vs + v.0

  -- bit k of a concat: the later arguments have the lower bits; d where there is no argument
  abbrev pub concat_at : A → List (ℕ × (ℕ → A)) → ℕ → A
  concat_at d [] k = d
  concat_at d (v ∷ vs) k = cond (ltb k (concat_width vs)) (concat_at d vs k) (v.1 (k - concat_width vs))

  -- concat, of any number of arguments
  abbrev pub concat : A → List (ℕ × (ℕ → A)) → List A
  concat d vs = bits (concat_width vs) (concat_at d vs)

  -- sign_extend by k bits: bit i is x_i below n, else x_{n-1}
  abbrev pub sign_extend : ℕ → ℕ → (ℕ → A) → List A
  sign_extend k n x = bits (n + k) (λ i. cond (ltb i n) (x i) (x (n - 1)))
