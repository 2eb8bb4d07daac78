-- Document 02, P13: terms, declarations and steps in a line's bytes.
use Rattle.std.specs.Prelude.{Bool, true, false, ◌&&◌, ◌||◌, not, cond, List, [], ◌∷◌, ℕ, zero, suc, ◌+◌, ◌-◌, ◌*◌, ◌^◌, eqb, leb, ltb, length}
use Rattle.std.specs.Prelude.{Option, None as none, Some as some}
use Rattle.theory.specs.Limit.{max_arguments, number_bytes, value_bytes}
use Rattle.theory.specs.Kind.{Op, True, False, BoolVar, BvVar, Const, arity, takes}
use Rattle.theory.specs.Term.{Term, node, nil, from_list, same_numbers}
use Rattle.theory.specs.Optional.{is_some, either}
use Rattle.theory.specs.Record.{Bytes, Shape, plain, indexed, twice_indexed, valued}
use Rattle.text.specs.Tokens.{ascii, in_symbol, left, right, end, bad, word, next, after, word_of}
use Rattle.text.specs.Spelling.{named, is_named, kind_names, rule_number}

-- f of what is there
abbrev pub bind : {A B : Type 0} → Option A → (A → Option B) → Option B
bind p f = either none f p

-- ---- numbers
-- what a digit is worth: 0 to 9, then a to f, in both cases
abbrev pub digit_value : ℕ → ℕ
digit_value b =
    cond (leb 48 b && leb b 57) (b - 48)
    (cond (leb 97 b && leb b 102) (b - 87)
    (cond (leb 65 b && leb b 70) (b - 55) 16))

-- digits of a base, after a number
unfoldable pub number_from : ℕ → ℕ → Bytes → Option ℕ
number_from base n [] = some n
number_from base n (d ∷ ds) = elim (ltb (digit_value d) base) [ true ↦ number_from base (base * n + digit_value d) ds | false ↦ none ]

-- the number that a word is in a base
abbrev pub number_in : ℕ → Bytes → Option ℕ
number_in base [] = none
number_in base (d ∷ ds) = number_from base 0 (d ∷ ds)

-- a number below a bound
abbrev pub below : ℕ → Option ℕ → Option ℕ
below bound p = bind p (λ n. cond (ltb n bound) (some n) none)

-- more than one digit, and the first is 0
abbrev pub leading_zero : Bytes → Bool
leading_zero [] = false
leading_zero (d ∷ []) = false
leading_zero (d ∷ e ∷ ds) = eqb d 48

-- SMT-LIB's numeral
abbrev pub numeral : Bytes → Option ℕ
numeral w = cond (leading_zero w) none (number_in 10 w)

-- the numbers that a record's two bytes hold, and its eight bytes
abbrev pub number_end : ℕ
number_end = 256 ^ number_bytes

abbrev pub value_end : ℕ
value_end = 256 ^ value_bytes

-- a number, and what stands after it
pub record Number : Type 0 where
  pub value : ℕ
  pub rest : Bytes

-- these by their parts
abbrev pub a_number : ℕ → Bytes → Number
a_number n bs = record { value = n; rest = bs }

-- a word, and what stands after it
pub record Word : Type 0 where
  pub name : Bytes
  pub rest : Bytes

-- the word that is the first token
unfoldable pub first_word : Bytes → Option Word
first_word bs = bind (word_of (next bs).token) (λ w. some (record { name = w; rest = (next bs).rest }))

-- an index, width or amount: a numeral that fits into a record
abbrev pub index : Bytes → Option Number
index bs = bind (first_word bs) (λ w. bind (below number_end (numeral w.name)) (λ n. some (a_number n w.rest)))

-- ---- names
-- a simple symbol of SMT-LIB
abbrev pub all_symbol : Bytes → Bool
all_symbol [] = true
all_symbol (b ∷ bs) = in_symbol b && all_symbol bs

abbrev pub starts_plain : Bytes → Bool
starts_plain [] = false
starts_plain (b ∷ bs) = not (leb 48 b && leb b 57)

unfoldable pub is_symbol : Bytes → Bool
is_symbol w = starts_plain w && all_symbol w

-- what stands after a prefix
abbrev pub past : Bytes → Bytes → Option Bytes
past [] bs = some bs
past (p ∷ ps) [] = none
past (p ∷ ps) (b ∷ bs) = cond (eqb p b) (past ps bs) none

-- the value of the word bvN
abbrev pub bv_value : Bytes → Option ℕ
bv_value w = bind (past (ascii "bv") w) numeral

-- a name that 01's terms are spelled with
unfoldable pub reserved : Bytes → Bool
reserved w =
    is_named w kind_names || same_numbers w (ascii "true") || same_numbers w (ascii "false") || same_numbers w (ascii "_")
    || is_some (bv_value w)

-- a declared variable; no width is a Bool
pub record Declared : Type 0 where
  pub name : Bytes
  pub width : Option ℕ

-- variable i
abbrev pub variable : ℕ → Declared → Op
variable i d = either (BoolVar i) (λ n. BvVar n i) d.width

-- the variable of a name, the first declared being i
abbrev pub find_name : ℕ → Bytes → List Declared → Option Op
find_name i w [] = none
find_name i w (d ∷ ds) = cond (same_numbers w d.name) (some (variable i d)) (find_name (suc i) w ds)

-- ---- constants
-- one of so many bits, where both numbers fit into a record
abbrev pub constant : Option ℕ → Option ℕ → Option Op
constant width value = bind (below number_end width) (λ n. bind (below value_end value) (λ x. some (Const n x)))

-- the digits of #b and #x, each of so many bits
abbrev pub digits_of : ℕ → ℕ → Bytes → Option Op
digits_of bits base ds = constant (some (bits * length ds)) (number_in base ds)

-- a word that is a whole term: true, false, a variable, #b or #x
unfoldable pub atom : List Declared → Bytes → Option Op
atom vars w =
    cond (same_numbers w (ascii "true")) (some True)
    (cond (same_numbers w (ascii "false")) (some False)
    (either (either (either none (digits_of 4 16) (past (ascii "#x") w)) (digits_of 1 2) (past (ascii "#b") w)) some (find_name 0 w vars)))

-- ---- terms
-- an operation, and what stands after it
pub record Operation : Type 0 where
  pub op : Op
  pub rest : Bytes

-- these by their parts
abbrev pub operation : Op → Bytes → Operation
operation o bs = record { op = o; rest = bs }

-- bvN n) after (_
unfoldable pub bv_constant : Bytes → Option Operation
bv_constant bs =
    bind (first_word bs) (λ w. bind (index w.rest) (λ n. bind (after right n.rest) (λ rest.
    bind (constant (some n.value) (bv_value w.name)) (λ o. some (operation o rest)))))

-- the numbers of a kind that has some; a kind without stands alone
abbrev pub with_numbers : Shape → Bytes → Option Operation
with_numbers (plain o) bs = none
with_numbers (indexed f) bs = bind (index bs) (λ i. some (operation (f i.value) i.rest))
with_numbers (twice_indexed f) bs =
    bind (index bs) (λ i. bind (index i.rest) (λ j. some (operation (f i.value j.value) j.rest)))
with_numbers (valued f) bs = none

-- _ name i ..) after ((
unfoldable pub indexed_operation : Bytes → Option Operation
indexed_operation bs =
    bind (after (word (ascii "_")) bs) (λ a. bind (first_word a) (λ w. bind (named w.name kind_names) (λ s.
    bind (with_numbers s w.rest) (λ g. bind (after right g.rest) (λ rest. some (operation g.op rest))))))

-- a kind that stands alone
abbrev pub alone : Shape → Option Op
alone (plain o) = some o
alone (indexed f) = none
alone (twice_indexed f) = none
alone (valued f) = none

-- a term, and what stands after it
pub record Read : Type 0 where
  pub term : Term
  pub rest : Bytes

-- these by their parts
abbrev pub a_term : Term → Bytes → Read
a_term t bs = record { term = t; rest = bs }

-- terms, and what stands after them
pub record ReadAll : Type 0 where
  pub terms : List Term
  pub rest : Bytes

-- these by their parts
abbrev pub all_terms : List Term → Bytes → ReadAll
all_terms ts bs = record { terms = ts; rest = bs }

-- how a term begins: it is whole, or its operation was read and its arguments follow
pub data Head : Type 0 where
  leaf branch : Op → Bytes → Head

-- after a parenthesis: a constant, an operation with numbers, or one without
unfoldable pub opened : Bytes → Option Head
opened bs =
    elim (next bs).token [
      | left ↦ bind (indexed_operation (next bs).rest) (λ g. some (branch g.op g.rest))
      | right ↦ none
      | end ↦ none
      | bad ↦ none
      | word w ↦
          cond (same_numbers w (ascii "_")) (bind (bv_constant (next bs).rest) (λ g. some (leaf g.op g.rest)))
          (bind (bind (named w kind_names) alone) (λ o. some (branch o (next bs).rest)))
    ]

-- how a term begins
unfoldable pub head : List Declared → Bytes → Option Head
head vars bs =
    elim (next bs).token [
      | left ↦ opened (next bs).rest
      | right ↦ none
      | end ↦ none
      | bad ↦ none
      | word w ↦ bind (atom vars w) (λ o. some (leaf o (next bs).rest))
    ]

-- arguments up to the closing parenthesis, at most k of them; a term is read by r
unfoldable pub arguments : (Bytes → Option Read) → ℕ → Bytes → Option ReadAll
arguments r zero bs = bind (after right bs) (λ rest. some (all_terms [] rest))
arguments r (suc k) bs =
    elim (after right bs) [
      | none ↦ bind (r bs) (λ t. bind (arguments r k t.rest) (λ ts. some (all_terms (t.term ∷ ts.terms) ts.rest)))
      | some rest ↦ some (all_terms [] rest)
    ]

-- an operation on arguments, in a number that its kind has
abbrev pub applied : Op → ReadAll → Option Read
applied o g = cond (takes (arity o) (length g.terms)) (some (a_term (node o (from_list g.terms)) g.rest)) none

-- a term by how it begins; f reads what an operation's arguments make of it
abbrev pub on_head : (Op → Bytes → Option Read) → Head → Option Read
on_head f (leaf o bs) = some (a_term (node o nil) bs)
on_head f (branch o bs) = f o bs

-- A TERM, nested no deeper than n: true, false, variables and constants 0, any other one more than its deepest argument
unfoldable pub read_term : ℕ → List Declared → Bytes → Option Read
read_term zero vars bs = bind (head vars bs) (on_head (λ o rest. none))
read_term (suc n) vars bs =
    bind (head vars bs) (on_head (λ o rest. bind (arguments (λ cs. read_term n vars cs) max_arguments rest) (applied o)))

-- the deepest nesting
abbrev pub max_nesting : ℕ
max_nesting = 200

-- ---- the two forms of a line, after its first two tokens
-- the sort of a variable: no width is a Bool
pub record Sorted : Type 0 where
  pub width : Option ℕ
  pub rest : Bytes

-- Bool, or (_ BitVec n)
unfoldable pub sort_in : Bytes → Option Sorted
sort_in bs =
    either
    (bind (after left bs) (λ a. bind (after (word (ascii "_")) a) (λ b. bind (after (word (ascii "BitVec")) b) (λ c.
    bind (index c) (λ n. bind (after right n.rest) (λ rest. some (record { width = some n.value; rest = rest })))))))
    (λ rest. some (record { width = none; rest = rest }))
    (after (word (ascii "Bool")) bs)

-- name sort)
unfoldable pub declaration : Bytes → Option Declared
declaration bs =
    bind (first_word bs) (λ w. bind (sort_in w.rest) (λ s. bind (after right s.rest) (λ a. bind (after end a) (λ b.
    cond (is_symbol w.name && not (reserved w.name)) (some (record { name = w.name; width = s.width })) none))))

-- a step's literal and the number of its rule
pub record Step : Type 0 where
  pub literal : Term
  pub rule : ℕ

-- name (cl before the literal
unfoldable pub step_front : Bytes → Option Bytes
step_front bs = bind (first_word bs) (λ w. cond (is_symbol w.name) (bind (after left w.rest) (after (word (ascii "cl")))) none)

-- ) :rule name) after it: the rule's number
unfoldable pub step_back : Bytes → Option ℕ
step_back bs =
    bind (after right bs) (λ a. bind (after (word (ascii ":rule")) a) (λ b. bind (first_word b) (λ w. bind (after right w.rest) (λ c.
    bind (after end c) (λ d. rule_number w.name)))))
