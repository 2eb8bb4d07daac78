-- The gates of term numbers: each is looked up among the kept records, and is missing where none says it or an argument is missing.
use Rattle.std.specs.Prelude.{Bool, List, [], ◌∷◌, ℕ, eqb}
use Rattle.std.specs.Prelude.{Option, None as none, Some as some}
use Rattle.theory.specs.Kind.{Not, And, Or, Xor, Equals, Ite, BvBitOf, BvBbTerm, Const, kind}
use Rattle.theory.specs.Gates.{Gates}
use Rattle.theory.specs.Record.{Bytes, number_length}
use Rattle.rows.specs.Layout.{missing}
use Rattle.rows.specs.Rows.{kept}
use Rattle.table.specs.Keys.{place_list, place_indexed, place_constant}

-- `true` is term 0, `false` is term 1
abbrev pub true_number : ℕ
true_number = 0

abbrev pub false_number : ℕ
false_number = 1

-- a number of a term, as the code has it
abbrev pub number : Option ℕ → ℕ
number none = missing
number (some k) = k

-- the gates, `rows` being the kept records, in which numbers of terms have b bytes
abbrev pub numbers : ℕ → List Bytes → Gates ℕ
numbers b rows = record {
  true_gate = true_number;
  false_gate = false_number;
  not_gate = λ x. place_list b (kind Not) (x ∷ []) rows;
  and_gate = λ x y. place_list b (kind And) (x ∷ y ∷ []) rows;
  or_gate = λ x y. place_list b (kind Or) (x ∷ y ∷ []) rows;
  xor_gate = λ x y. place_list b (kind Xor) (x ∷ y ∷ []) rows;
  eq_gate = λ x y. place_list b (kind Equals) (x ∷ y ∷ []) rows;
  ite_gate = λ c x y. place_list b (kind Ite) (c ∷ x ∷ y ∷ []) rows;
  all_gate = λ xs. place_list b (kind And) xs rows;
}

-- the gates of the first n rows of a job, in its own number length
abbrev pub numbers_in : Bytes → Bytes → ℕ → Gates ℕ
numbers_in job work n = numbers (number_length job) (kept job work n)

-- bit i of term x
abbrev pub bit_number : ℕ → List Bytes → ℕ → ℕ → ℕ
bit_number b rows i x = place_indexed b (kind (BvBitOf i)) i x rows

-- the BvBbTerm of these bits
abbrev pub bb_number : ℕ → List Bytes → List ℕ → ℕ
bb_number b rows xs = place_list b (kind BvBbTerm) xs rows

-- the constant of this width and value
abbrev pub constant_number : List Bytes → ℕ → ℕ → ℕ
constant_number rows n v = place_constant (kind (Const n v)) n v rows

-- the divider's test: literally `false`
abbrev pub is_false_number : ℕ → Bool
is_false_number k = eqb k false_number
