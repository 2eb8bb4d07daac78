-- Document 01, "Meaning": SMT-LIB's values. A value carries its width, so that `meaning` goes from the arguments' values alone.
use Rattle.std.specs.Prelude.{Bool, true, false, ◌&&◌, ◌||◌, not, cond, ℕ, suc, ◌+◌, ◌-◌, ◌*◌, ◌/◌, ◌%◌, ◌^◌, ◌<◌, ltb, eqb, ℤ, length, get_or, replicate}
use Rattle.std.specs.Bool.{beq}
use mathlib.Core.List.{List, [], ◌∷◌, map, foldl}
use Rattle.std.specs.Int.Bits.{bit_and, bit_or, bit_xor}
use Rattle.std.proofs.Math.IntN.{sub_ℕ}
use Rattle.std.specs.Int.Signed.{lt_z}
use Rattle.theory.specs.Kind.{Op, True, False, Not, And, Or, Xor, Equals, Ite, BoolVar, BvVar, Const, BvBitOf, BvBbTerm, BvNot, BvNeg, BvAnd, BvOr, BvXor, BvAdd, BvMul, BvXNor, BvComp, BvULt, BvSLt, BvShl, BvLShr, BvAShr, BvUDiv, BvURem, BvConcat, BvExtract, SignExtend, ZeroExtend, RotateLeft, RotateRight, Repeat}
use Rattle.theory.specs.Term.{Term, Terms, fold, folds}
use Rattle.theory.specs.Move.{Move, moved, left_rotation, right_rotation}

-- what each variable stands for: told apart by sort and name
pub record Assign : Type 0 where
  pub bool_at : ℕ → Bool
  pub number_at : ℕ → ℕ → ℕ
  pub below : (n x : ℕ) → number_at n x < 2 ^ n

-- true or false; or at width n a number
pub data Val : Type 0 where
  truth : Bool → Val
  number : ℕ → ℕ → Val

-- the truth of a value
abbrev pub truth_of : Val → Bool
truth_of (truth b) = b
truth_of (number n x) = false

-- the width of a value
abbrev pub value_width : Val → ℕ
value_width (truth b) = 0
value_width (number n x) = n

-- the number of a value
abbrev pub number_of : Val → ℕ
number_of (truth b) = 0
number_of (number n x) = x

-- argument i
abbrev pub arg : ℕ → List Val → Val
arg i vs = get_or vs i (truth false)

-- 1 for true
abbrev pub bit : Bool → ℕ
bit true = 1
bit false = 0

-- bit 0 first
abbrev pub to_number : List Bool → ℕ
to_number [] = 0
to_number (b ∷ bs) = bit b + 2 * to_number bs

-- bit i weighs 2 ^ i
abbrev pub bit_at : ℕ → ℕ → Bool
bit_at i x = eqb (x / 2 ^ i % 2) 1

-- exclusive or
abbrev pub xor : Bool → Bool → Bool
xor true b = not b
xor false b = b

-- and of any number
abbrev pub all_true : List Bool → Bool
all_true [] = true
all_true (b ∷ bs) = b && all_true bs

-- or of any number
abbrev pub any_true : List Bool → Bool
any_true [] = false
any_true (b ∷ bs) = b || any_true bs

-- both values are equal
abbrev pub same : Val → Val → Bool
same (truth a) (truth b) = beq a b
same (truth a) (number n y) = false
same (number m x) (truth b) = false
same (number m x) (number n y) = eqb m n && eqb x y

-- from the left; one argument is itself
abbrev pub fold1 : (Val → Val → Val) → List Val → Val
fold1 f [] = truth false
fold1 f (v ∷ vs) = foldl f v vs

-- an operation on one number, at its width
abbrev pub num1 : (ℕ → ℕ → ℕ) → Val → Val
num1 f v = number (value_width v) (f (value_width v) (number_of v))

-- an operation on two numbers of one width
abbrev pub num2 : (ℕ → ℕ → ℕ → ℕ) → Val → Val → Val
num2 f u v = number (value_width u) (f (value_width u) (number_of u) (number_of v))

-- ---- the operations on numbers below 2 ^ n
-- every bit inverted
unfoldable pub not_n : ℕ → ℕ → ℕ
not_n n x = 2 ^ n - 1 - x

-- 2 ^ n - x modulo 2 ^ n
unfoldable pub neg_n : ℕ → ℕ → ℕ
neg_n n x = (2 ^ n - x) % 2 ^ n

-- bit by bit
unfoldable pub and_n : ℕ → ℕ → ℕ → ℕ
and_n n x y = bit_and x y

-- bit by bit
unfoldable pub or_n : ℕ → ℕ → ℕ → ℕ
or_n n x y = bit_or x y

-- bit by bit
unfoldable pub xor_n : ℕ → ℕ → ℕ → ℕ
xor_n n x y = bit_xor x y

-- 1 where the bits are equal
unfoldable pub xnor_n : ℕ → ℕ → ℕ → ℕ
xnor_n n x y = 2 ^ n - 1 - bit_xor x y

-- the sum modulo 2 ^ n
unfoldable pub add_n : ℕ → ℕ → ℕ → ℕ
add_n n x y = (x + y) % 2 ^ n

-- the product modulo 2 ^ n
unfoldable pub mul_n : ℕ → ℕ → ℕ → ℕ
mul_n n x y = (x * y) % 2 ^ n

-- x * 2 ^ y modulo 2 ^ n, and 0 for y of n or more
unfoldable pub shl_n : ℕ → ℕ → ℕ → ℕ
shl_n n x y = cond (ltb y n) (x * 2 ^ y % 2 ^ n) 0

-- x / 2 ^ y rounded down, and 0 for y of n or more
unfoldable pub lshr_n : ℕ → ℕ → ℕ → ℕ
lshr_n n x y = cond (ltb y n) (x / 2 ^ y) 0

-- n bits, of which the upper k are copies of the top bit of x, and the others are 0
unfoldable pub top_copies : ℕ → ℕ → ℕ → ℕ
top_copies n k x = cond (bit_at (n - 1) x) (2 ^ n - 2 ^ (n - k)) 0

-- as lshr, with copies of the top bit coming in; only copies for y of n or more
unfoldable pub ashr_n : ℕ → ℕ → ℕ → ℕ
ashr_n n x y = cond (ltb y n) (x / 2 ^ y + top_copies n y x) (top_copies n n x)

-- the quotient rounded down; by 0 all ones
unfoldable pub udiv_n : ℕ → ℕ → ℕ → ℕ
udiv_n n x y = cond (eqb y 0) (2 ^ n - 1) (x / y)

-- the remainder; by 0 x
unfoldable pub urem_n : ℕ → ℕ → ℕ → ℕ
urem_n n x y = cond (eqb y 0) x (x % y)

-- the top bit counts −2^(n − 1)
unfoldable pub signed : ℕ → ℕ → ℤ
signed n x = sub_ℕ (x % 2 ^ (n - 1)) (bit (bit_at (n - 1) x) * 2 ^ (n - 1))

-- the last argument is lowest
abbrev pub concat2 : Val → Val → Val
concat2 u v = number (value_width u + value_width v) (number_of u * 2 ^ value_width v + number_of v)

-- the bits of x moved
abbrev pub moved_n : Move → ℕ → ℕ
moved_n v x = to_number (moved v (λ i. bit_at i x))

-- bit i to place i + k, modulo the width
unfoldable pub rotate_left_n : ℕ → ℕ → ℕ → ℕ
rotate_left_n k n x = moved_n (left_rotation k n) x

-- bit i to place i - k, modulo the width
unfoldable pub rotate_right_n : ℕ → ℕ → ℕ → ℕ
rotate_right_n k n x = moved_n (right_rotation k n) x

-- the value of a term, from the values of its arguments
unfoldable pub meaning : Assign → Op → List Val → Val
meaning ρ True vs = truth true
meaning ρ False vs = truth false
meaning ρ Not vs = truth (not (truth_of (arg 0 vs)))
meaning ρ And vs = truth (all_true (map truth_of vs))
meaning ρ Or vs = truth (any_true (map truth_of vs))
meaning ρ Xor vs = truth (xor (truth_of (arg 0 vs)) (truth_of (arg 1 vs)))
meaning ρ Equals vs = truth (same (arg 0 vs) (arg 1 vs))
meaning ρ Ite vs = truth (cond (truth_of (arg 0 vs)) (truth_of (arg 1 vs)) (truth_of (arg 2 vs)))
meaning ρ (BoolVar x) vs = truth (ρ.bool_at x)
meaning ρ (BvVar n x) vs = number n (ρ.number_at n x)
meaning ρ (Const n x) vs = number n x
meaning ρ (BvBitOf i) vs = truth (bit_at i (number_of (arg 0 vs)))
meaning ρ BvBbTerm vs = number (length vs) (to_number (map truth_of vs))
meaning ρ BvNot vs = num1 not_n (arg 0 vs)
meaning ρ BvNeg vs = num1 neg_n (arg 0 vs)
meaning ρ BvAnd vs = fold1 (num2 and_n) vs
meaning ρ BvOr vs = fold1 (num2 or_n) vs
meaning ρ BvXor vs = fold1 (num2 xor_n) vs
meaning ρ BvAdd vs = fold1 (num2 add_n) vs
meaning ρ BvMul vs = fold1 (num2 mul_n) vs
meaning ρ BvXNor vs = num2 xnor_n (arg 0 vs) (arg 1 vs)
meaning ρ BvComp vs = number 1 (bit (same (arg 0 vs) (arg 1 vs)))
meaning ρ BvULt vs = truth (ltb (number_of (arg 0 vs)) (number_of (arg 1 vs)))
meaning ρ BvSLt vs =
    truth (lt_z (signed (value_width (arg 0 vs)) (number_of (arg 0 vs))) (signed (value_width (arg 1 vs)) (number_of (arg 1 vs))))
meaning ρ BvShl vs = num2 shl_n (arg 0 vs) (arg 1 vs)
meaning ρ BvLShr vs = num2 lshr_n (arg 0 vs) (arg 1 vs)
meaning ρ BvAShr vs = num2 ashr_n (arg 0 vs) (arg 1 vs)
meaning ρ BvUDiv vs = num2 udiv_n (arg 0 vs) (arg 1 vs)
meaning ρ BvURem vs = num2 urem_n (arg 0 vs) (arg 1 vs)
meaning ρ BvConcat vs = fold1 concat2 vs
meaning ρ (BvExtract i j) vs = number (suc (i - j)) (number_of (arg 0 vs) / 2 ^ j % 2 ^ suc (i - j))
meaning ρ (SignExtend k) vs =
    let x = arg 0 vs in
    number (value_width x + k)
    (number_of x + cond (bit_at (value_width x - 1) (number_of x)) (2 ^ (value_width x + k) - 2 ^ value_width x) 0)
meaning ρ (ZeroExtend k) vs = number (value_width (arg 0 vs) + k) (number_of (arg 0 vs))
meaning ρ (RotateLeft k) vs = num1 (rotate_left_n k) (arg 0 vs)
meaning ρ (RotateRight k) vs = num1 (rotate_right_n k) (arg 0 vs)
meaning ρ (Repeat k) vs = fold1 concat2 (replicate k (arg 0 vs))

-- the value of a term under an assignment
abbrev pub value : Assign → Term → Val
value ρ = fold (meaning ρ)

-- the values of its arguments
abbrev pub values : Assign → Terms → List Val
values ρ = folds (meaning ρ)
