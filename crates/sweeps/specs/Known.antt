-- Document 02, P11: bits of which only part is known, and the bits of a term over them.
use Rattle.std.specs.Prelude.{Bool, true, false, ◌&&◌, ◌||◌, cond, List, [], ◌∷◌, map, ℕ, zero, suc, leb, eqb, take, drop, get_or}
use Rattle.theory.specs.Kind.{Op, True, False, Not, And, Or, Xor, Equals, Ite, BoolVar, BvVar, Const, BvBitOf, BvBbTerm, BvNot, BvNeg, BvAnd, BvOr, BvXor, BvAdd, BvMul, BvXNor, BvComp, BvULt, BvSLt, BvShl, BvLShr, BvAShr, BvUDiv, BvURem, BvConcat, BvExtract, SignExtend, ZeroExtend, RotateLeft, RotateRight, Repeat, kind}
use Rattle.theory.specs.Term.{Term, Terms, node, nil, cons, fold, same_term}
use Rattle.theory.specs.Sort.{Sort, first, sorts_of}
use Rattle.theory.specs.Value.{bit_at}
use Rattle.theory.specs.Depth.{gate_kind}
use Rattle.theory.specs.Record.{Bytes}
use Rattle.sweeps.specs.Variables.{bits_in}

-- a bit: 0, 1, or not known
pub data Known : Type 0 where
  zero_bit one_bit unknown : Known

-- the byte that says it
abbrev pub known_byte : Known → ℕ
known_byte zero_bit = 0
known_byte one_bit = 1
known_byte unknown = 2

-- what a byte says; bytes above 2 are refused
abbrev pub of_byte : ℕ → Known
of_byte zero = zero_bit
of_byte (suc zero) = one_bit
of_byte (suc (suc n)) = unknown

-- a bit that is known
abbrev pub of_bool : Bool → Known
of_bool true = one_bit
of_bool false = zero_bit

-- the first bit: a Bool has just one
abbrev pub lead : List Known → Known
lead [] = unknown
lead (b ∷ bs) = b

-- ---- the gates
abbrev pub is_zero : Known → Bool
is_zero zero_bit = true
is_zero one_bit = false
is_zero unknown = false

abbrev pub is_one : Known → Bool
is_one zero_bit = false
is_one one_bit = true
is_one unknown = false

-- one of them is 0
abbrev pub any_zero : List Known → Bool
any_zero [] = false
any_zero (b ∷ bs) = is_zero b || any_zero bs

-- one of them is 1
abbrev pub any_one : List Known → Bool
any_one [] = false
any_one (b ∷ bs) = is_one b || any_one bs

-- all are 0
abbrev pub all_zero : List Known → Bool
all_zero [] = true
all_zero (b ∷ bs) = is_zero b && all_zero bs

-- all are 1
abbrev pub all_one : List Known → Bool
all_one [] = true
all_one (b ∷ bs) = is_one b && all_one bs

-- And: 0 if an argument is 0, 1 if all are 1
unfoldable pub and_known : List Known → Known
and_known bs = cond (any_zero bs) zero_bit (cond (all_one bs) one_bit unknown)

-- Or, the mirror of it
unfoldable pub or_known : List Known → Known
or_known bs = cond (any_one bs) one_bit (cond (all_zero bs) zero_bit unknown)

abbrev pub not_known : Known → Known
not_known zero_bit = one_bit
not_known one_bit = zero_bit
not_known unknown = unknown

-- not known if an argument is
abbrev pub xor_known : Known → Known → Known
xor_known zero_bit b = b
xor_known one_bit b = not_known b
xor_known unknown b = unknown

-- the same
abbrev pub equal_known : Known → Known → Known
equal_known a b = not_known (xor_known a b)

-- the value that both share
abbrev pub shared : Known → Known → Known
shared zero_bit zero_bit = zero_bit
shared zero_bit one_bit = unknown
shared zero_bit unknown = unknown
shared one_bit zero_bit = unknown
shared one_bit one_bit = one_bit
shared one_bit unknown = unknown
shared unknown b = unknown

-- the chosen branch, or the value that both share
abbrev pub ite_known : Known → Known → Known → Known
ite_known zero_bit x y = y
ite_known one_bit x y = x
ite_known unknown x y = shared x y

-- ---- the bits of a term, bit 0 first
-- k bits of x from bit i on
abbrev pub number_bits : ℕ → ℕ → ℕ → List Bool
number_bits x i zero = []
number_bits x i (suc k) = bit_at i x ∷ number_bits x (suc i) k

-- argument i
abbrev pub argument : ℕ → List (List Known) → List Known
argument i bs = get_or bs i []

-- the same, of a Bool
abbrev pub bool_argument : ℕ → List (List Known) → Known
bool_argument i bs = lead (argument i bs)

-- from the bits of the arguments; `input` has the bits of each variable. Kinds that are refused have none
unfoldable pub known_op : (Term → List Known) → Op → List (List Known) → List Known
known_op input True bs = one_bit ∷ []
known_op input False bs = zero_bit ∷ []
known_op input (BoolVar x) bs = input (node (BoolVar x) nil)
known_op input (BvVar n x) bs = input (node (BvVar n x) nil)
known_op input (Const n x) bs = map of_bool (number_bits x 0 n)
known_op input Not bs = not_known (bool_argument 0 bs) ∷ []
known_op input And bs = and_known (map lead bs) ∷ []
known_op input Or bs = or_known (map lead bs) ∷ []
known_op input Xor bs = xor_known (bool_argument 0 bs) (bool_argument 1 bs) ∷ []
known_op input Equals bs = equal_known (bool_argument 0 bs) (bool_argument 1 bs) ∷ []
known_op input Ite bs = ite_known (bool_argument 0 bs) (bool_argument 1 bs) (bool_argument 2 bs) ∷ []
known_op input (BvBitOf i) bs = get_or (argument 0 bs) i unknown ∷ []
known_op input BvBbTerm bs = map lead bs
known_op input BvNot bs = []
known_op input BvNeg bs = []
known_op input BvAnd bs = []
known_op input BvOr bs = []
known_op input BvXor bs = []
known_op input BvAdd bs = []
known_op input BvMul bs = []
known_op input BvXNor bs = []
known_op input BvComp bs = []
known_op input BvULt bs = []
known_op input BvSLt bs = []
known_op input BvShl bs = []
known_op input BvLShr bs = []
known_op input BvAShr bs = []
known_op input BvUDiv bs = []
known_op input BvURem bs = []
known_op input BvConcat bs = []
known_op input (BvExtract i j) bs = []
known_op input (SignExtend k) bs = []
known_op input (ZeroExtend k) bs = []
known_op input (RotateLeft k) bs = []
known_op input (RotateRight k) bs = []
known_op input (Repeat k) bs = []

-- the bits of a term
abbrev pub known : (Term → List Known) → Term → List Known
known input = fold (known_op input)

-- ---- the terms that are not refused
-- variables, constants, `true`, `false`, gates over Bools, BvBitOf, BvBbTerm; s is the first argument's sort
abbrev pub bit_kind : Op → Sort → Bool
bit_kind o s =
    leb (kind o) (kind (Const 0 0)) || (gate_kind (kind o) s || (eqb (kind o) (kind (BvBitOf 0)) || eqb (kind o) (kind BvBbTerm)))

unfoldable mutual
  -- a term of such kinds alone
  pub bit_level : Term → Bool
  bit_level (node o ts) = bit_kind o (first (sorts_of ts)) && all_bit_level ts

  -- all of them are
  pub all_bit_level : Terms → Bool
  all_bit_level nil = true
  all_bit_level (cons t ts) = bit_level t && all_bit_level ts

-- the bits of each variable, by the bytes: one for each bit, the first variable's first
abbrev pub input_of : List Term → Bytes → Term → List Known
input_of [] bytes u = []
input_of (v ∷ vs) bytes u = cond (same_term u v) (map of_byte (take (bits_in v) bytes)) (input_of vs (drop (bits_in v) bytes) u)
