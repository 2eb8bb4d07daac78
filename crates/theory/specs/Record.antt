-- Document 01, "The job": a job's bytes cut into records, and what a record says.
-- A record is a two-byte length L and L bytes: a two-byte kind and a body. The numbers of terms in a body have b bytes each, as the job
-- decides: two, or four where it begins with the record that asks for them (document 02, P10).
use Rattle.std.specs.Prelude.{Bool, true, false, ◌&&◌, cond, List, [], ◌∷◌, ◌++◌, ℕ, zero, suc, ◌+◌, ◌-◌, ◌*◌, ◌/◌, ◌%◌, ◌<◌, leb, eqb, length, take, drop}
use Rattle.std.specs.Prelude.{Option, None as none, Some as some}
use Rattle.theory.specs.Limit.{max_arguments, number_bytes, long_bytes, value_bytes}
use Rattle.theory.specs.Kind.{Op, Not, And, Or, Xor, Equals, Ite, BoolVar, BvVar, Const, BvBitOf, BvBbTerm, BvNot, BvNeg, BvAnd, BvOr, BvXor, BvAdd, BvMul, BvXNor, BvComp, BvULt, BvSLt, BvShl, BvLShr, BvAShr, BvUDiv, BvURem, BvConcat, BvExtract, SignExtend, ZeroExtend, RotateLeft, RotateRight, Repeat, kind, arity, many, takes}
use Rattle.theory.specs.Term.{same_numbers}

-- bytes; a record too is its bytes
abbrev pub Bytes : Type 0
Bytes = List ℕ

-- each is below 256
abbrev pub AllBytes : Bytes → Type 0
AllBytes [] = Unit {0}
AllBytes (b ∷ bs) = (b < 256) × AllBytes bs

-- ---- numbers, little-endian
-- the lowest byte first
abbrev pub little_endian : Bytes → ℕ
little_endian [] = 0
little_endian (b ∷ bs) = b + 256 * little_endian bs

-- the two-byte number at the start
abbrev pub word : Bytes → ℕ
word bs = little_endian (take number_bytes bs)

-- k numbers of b bytes in a row
abbrev pub words : ℕ → ℕ → Bytes → List ℕ
words b zero bs = []
words b (suc k) bs = little_endian (take b bs) ∷ words b k (drop b bs)

-- k bytes of n
abbrev pub bytes_of : ℕ → ℕ → Bytes
bytes_of zero n = []
bytes_of (suc k) n = n % 256 ∷ bytes_of k (n / 256)

-- two bytes of n
abbrev pub word_bytes : ℕ → Bytes
word_bytes = bytes_of number_bytes

-- ---- the job cut into records
-- the bytes of a record whose length stands at the start
abbrev pub extent : Bytes → ℕ
extent bs = number_bytes + word bs

-- a whole record stands at the start: not just 1 byte left, L not below 2, L not beyond the end
abbrev pub whole : Bytes → Bool
whole bs = leb number_bytes (length bs) && (leb number_bytes (word bs) && leb (extent bs) (length bs))

-- the records, up to where no whole record stands; fuel is as many bytes
unfoldable pub cut : ℕ → Bytes → List Bytes
cut zero bs = []
cut (suc fuel) bs = elim (whole bs) [ true ↦ take (extent bs) bs ∷ cut fuel (drop (extent bs) bs) | false ↦ [] ]

-- the records of a job
abbrev pub records_of : Bytes → List Bytes
records_of job = cut (length job) job

-- their bytes
abbrev pub total_length : List Bytes → ℕ
total_length [] = 0
total_length (r ∷ rs) = length r + total_length rs

-- 0 where the records are the whole job, 3 where bytes are left
abbrev pub ending : Bytes → ℕ
ending job = cond (eqb (total_length (records_of job)) (length job)) 0 3

-- ---- a record's parts
-- the kind, after the length
abbrev pub kind_of : Bytes → ℕ
kind_of r = word (drop number_bytes r)

-- the body, after the kind
abbrev pub body_of : Bytes → Bytes
body_of r = drop (number_bytes + number_bytes) r

-- the body is n bytes and then arguments of b bytes, in a number that is allowed
abbrev pub fits : ℕ → ℕ → (ℕ → Bool) → Bytes → Bool
fits b n allowed body =
    leb n (length body) && (eqb ((length body - n) % b) 0 && allowed ((length body - n) / b))

-- the arguments after the first n bytes
abbrev pub arguments : ℕ → ℕ → Bytes → List ℕ
arguments b n body = words b ((length body - n) / b) (drop n body)

-- ---- the kinds of a term, by the numbers that stand before the arguments: none, one, two, or a width and an eight-byte value
-- `plain` has none, `indexed` one, `twice_indexed` two, `valued` a width and a value
pub data Shape : Type 0 where
  plain : Op → Shape
  indexed : (ℕ → Op) → Shape
  twice_indexed valued : (ℕ → ℕ → Op) → Shape

-- the bytes of these numbers
abbrev pub front : Shape → ℕ
front (plain o) = 0
front (indexed f) = number_bytes
front (twice_indexed f) = number_bytes + number_bytes
front (valued f) = number_bytes + value_bytes

-- the kind that they make at the start of a body
abbrev pub make : Shape → Bytes → Op
make (plain o) body = o
make (indexed f) body = f (word body)
make (twice_indexed f) body = f (word body) (word (drop number_bytes body))
make (valued f) body = f (word body) (little_endian (take value_bytes (drop number_bytes body)))

-- every kind that a record can have
abbrev pub shapes : List Shape
shapes =
    indexed BoolVar ∷ twice_indexed BvVar ∷ valued Const
    ∷ plain Not ∷ plain And ∷ plain Or ∷ plain Xor ∷ plain Equals ∷ plain Ite
    ∷ indexed BvBitOf ∷ plain BvBbTerm
    ∷ plain BvNot ∷ plain BvNeg ∷ plain BvAnd ∷ plain BvOr ∷ plain BvXor ∷ plain BvAdd ∷ plain BvMul
    ∷ plain BvXNor ∷ plain BvComp ∷ plain BvULt ∷ plain BvSLt ∷ plain BvShl ∷ plain BvLShr ∷ plain BvAShr ∷ plain BvUDiv ∷ plain BvURem
    ∷ plain BvConcat ∷ twice_indexed BvExtract ∷ indexed SignExtend
    ∷ indexed ZeroExtend ∷ indexed RotateLeft ∷ indexed RotateRight ∷ indexed Repeat ∷ []

-- the first of these with the number k
abbrev pub find_shape : ℕ → List Shape → Option Shape
find_shape k [] = none
find_shape k (s ∷ ss) = cond (eqb (kind (make s [])) k) (some s) (find_shape k ss)

-- the shape of kind k
unfoldable pub shape_of : ℕ → Option Shape
shape_of k = find_shape k shapes

-- ---- what a record says
-- a term's kind and arguments; a step's rule and literals; a chain's rule, premises and literal; a back's count; a kind that is unknown;
-- a body that has not the kind's length
pub data Item : Type 0 where
  term : Op → List ℕ → Item
  step : ℕ → List ℕ → Item
  chain : ℕ → List ℕ → ℕ → Item
  back : ℕ → Item
  unknown misfit : Item

-- the kind of a step
abbrev pub step_kind : ℕ
step_kind = 100

-- the kind of a chain
abbrev pub chain_kind : ℕ
chain_kind = 104

-- the kind of a back
abbrev pub back_kind : ℕ
back_kind = 101

-- a term: the numbers of its shape, then arguments as its kind allows
abbrev pub read_term : ℕ → Option Shape → Bytes → Item
read_term b none body = unknown
read_term b (some s) body =
    cond (fits b (front s) (takes (arity (make s body))) body) (term (make s body) (arguments b (front s) body)) misfit

-- a step: its rule, then 0 to 64 literals
abbrev pub read_step : ℕ → Bytes → Item
read_step b body = cond (fits b number_bytes (λ n. leb n max_arguments) body) (step (word body) (arguments b number_bytes body)) misfit

-- the bytes of a chain's body before its premises: the rule, and the number of premises
abbrev pub chain_front : ℕ
chain_front = number_bytes + number_bytes

-- the number of premises
abbrev pub premise_count : Bytes → ℕ
premise_count body = word (drop number_bytes body)

-- the bytes before its literal
abbrev pub before_literal : Bytes → ℕ
before_literal body = chain_front + number_bytes * premise_count body

-- rule and number of premises stand there, there are 1 to 64 premises, and after them one literal
abbrev pub chain_fits : ℕ → Bytes → Bool
chain_fits b body =
    leb chain_front (length body) && (takes many (premise_count body) && eqb (length body) (before_literal body + b))

-- a chain: its rule, the number of premises, the premises, which are places of steps and so of two bytes, the literal
abbrev pub read_chain : ℕ → Bytes → Item
read_chain b body =
    cond (chain_fits b body)
    (chain (word body) (words number_bytes (premise_count body) (drop chain_front body))
    (little_endian (take b (drop (before_literal body) body))))
    misfit

-- a back: its count
abbrev pub read_back : ℕ → Bytes → Item
read_back b body = cond (eqb (length body) b) (back (little_endian (take b body))) misfit

-- what record r says, where the numbers of terms have b bytes
unfoldable pub read : ℕ → Bytes → Item
read b r =
    cond (eqb (kind_of r) step_kind) (read_step b (body_of r))
    (cond (eqb (kind_of r) chain_kind) (read_chain b (body_of r))
    (cond (eqb (kind_of r) back_kind) (read_back b (body_of r))
    (read_term b (shape_of (kind_of r)) (body_of r))))

-- it is a step, of either kind
abbrev pub is_step : Item → Bool
is_step (term o ks) = false
is_step (step n ks) = true
is_step (chain n ps k) = true
is_step (back n) = false
is_step unknown = false
is_step misfit = false

-- the rule and the literals of a step of either kind
abbrev pub claim_of : Item → Option (ℕ × List ℕ)
claim_of (term o ks) = none
claim_of (step n ks) = some (n, ks)
claim_of (chain n ps k) = some (n, k ∷ [])
claim_of (back n) = none
claim_of unknown = none
claim_of misfit = none

-- how many of the records are steps
abbrev pub step_count : ℕ → List Bytes → ℕ
step_count b [] = 0
step_count b (r ∷ rs) = cond (is_step (read b r)) (suc (step_count b rs)) (step_count b rs)

-- ---- the number length of a job
-- the kind of a record that asks for long numbers: as a job's first, and with no body
abbrev pub long_kind : ℕ
long_kind = 103

-- that record: 02 00 67 00
abbrev pub long_record : Bytes
long_record = word_bytes number_bytes ++ word_bytes long_kind

-- the bytes of a term's number: four where the job begins with that record, else two
unfoldable pub number_length : Bytes → ℕ
number_length job = cond (same_numbers (take (length long_record) job) long_record) long_bytes number_bytes
