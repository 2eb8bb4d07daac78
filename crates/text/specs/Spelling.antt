-- Document 02, P13: how 01's kinds and rules are spelled. The kinds are SMT-LIB's, with `@bit_of` and `@bbterm`;
-- the rules go by 01's names.
use Rattle.std.specs.Prelude.{Bool, false, ◌||◌, cond, List, [], ◌∷◌, ℕ, suc}
use Rattle.std.specs.Prelude.{Option, None as none, Some as some}
use Prim.Native.String.{String}
use Rattle.theory.specs.Term.{same_numbers}
use Rattle.theory.specs.Kind.{Not, And, Or, Xor, Equals, Ite, BvBitOf, BvBbTerm, BvNot, BvNeg, BvAnd, BvOr, BvXor, BvAdd, BvMul, BvXNor, BvComp, BvULt, BvSLt, BvShl, BvLShr, BvAShr, BvUDiv, BvURem, BvConcat, BvExtract, SignExtend}
use Rattle.theory.specs.Record.{Bytes, Shape, plain, indexed, twice_indexed}
use Rattle.theory.specs.RuleTable.{Rule, by_value, by_var, by_and, by_or, by_xor, by_xnor, by_not, by_ult, by_slt, by_add, by_mult, by_neg, by_equality, by_comp, by_extract, by_concat, by_sign_extend, by_shl, by_lshr, by_ashr, by_udiv, by_urem, by_bitwise_slicing}
use Rattle.text.specs.Tokens.{ascii}

-- a row: a name and what it names
pub record Spelled (A : Type 0) : Type 0 where
  pub name : Bytes
  pub names : A

-- a row by its parts
abbrev pub spelled : {A : Type 0} → String → A → Spelled A
spelled s a = record { name = ascii s; names = a }

-- what a word names
abbrev pub named : {A : Type 0} → Bytes → List (Spelled A) → Option A
named w [] = none
named w (r ∷ rs) = cond (same_numbers w r.name) (some r.names) (named w rs)

-- a word is a name
abbrev pub is_named : {A : Type 0} → Bytes → List (Spelled A) → Bool
is_named w [] = false
is_named w (r ∷ rs) = same_numbers w r.name || is_named w rs

-- THE KINDS, in the order of their numbers; a kind with numbers in it stands in `(_ name i ..)`
abbrev pub kind_names : List (Spelled Shape)
kind_names =
    spelled "not" (plain Not) ∷ spelled "and" (plain And) ∷ spelled "or" (plain Or)
    ∷ spelled "xor" (plain Xor) ∷ spelled "=" (plain Equals) ∷ spelled "ite" (plain Ite)
    ∷ spelled "@bit_of" (indexed BvBitOf) ∷ spelled "@bbterm" (plain BvBbTerm)
    ∷ spelled "bvnot" (plain BvNot) ∷ spelled "bvneg" (plain BvNeg)
    ∷ spelled "bvand" (plain BvAnd) ∷ spelled "bvor" (plain BvOr) ∷ spelled "bvxor" (plain BvXor)
    ∷ spelled "bvadd" (plain BvAdd) ∷ spelled "bvmul" (plain BvMul)
    ∷ spelled "bvxnor" (plain BvXNor) ∷ spelled "bvcomp" (plain BvComp) ∷ spelled "bvult" (plain BvULt) ∷ spelled "bvslt" (plain BvSLt)
    ∷ spelled "bvshl" (plain BvShl) ∷ spelled "bvlshr" (plain BvLShr) ∷ spelled "bvashr" (plain BvAShr)
    ∷ spelled "bvudiv" (plain BvUDiv) ∷ spelled "bvurem" (plain BvURem)
    ∷ spelled "concat" (plain BvConcat) ∷ spelled "extract" (twice_indexed BvExtract) ∷ spelled "sign_extend" (indexed SignExtend) ∷ []

-- THE RULES, in the order of their numbers
abbrev pub rule_names : List (Spelled Rule)
rule_names =
    spelled "value" by_value ∷ spelled "var" by_var ∷ spelled "and" by_and ∷ spelled "or" by_or
    ∷ spelled "xor" by_xor ∷ spelled "xnor" by_xnor ∷ spelled "not" by_not
    ∷ spelled "ult" by_ult ∷ spelled "slt" by_slt ∷ spelled "add" by_add ∷ spelled "mult" by_mult
    ∷ spelled "neg" by_neg ∷ spelled "equality" by_equality ∷ spelled "comp" by_comp
    ∷ spelled "extract" by_extract ∷ spelled "concat" by_concat ∷ spelled "sign_extend" by_sign_extend
    ∷ spelled "shl" by_shl ∷ spelled "lshr" by_lshr ∷ spelled "ashr" by_ashr
    ∷ spelled "udiv" by_udiv ∷ spelled "urem" by_urem ∷ spelled "bitwise_slicing" by_bitwise_slicing ∷ []

-- the place of a name, counted from k
abbrev pub place_named : {A : Type 0} → ℕ → Bytes → List (Spelled A) → Option ℕ
place_named k w [] = none
place_named k w (r ∷ rs) = cond (same_numbers w r.name) (some k) (place_named (suc k) w rs)

-- the number of the rule of a name: 1 upward
unfoldable pub rule_number : Bytes → Option ℕ
rule_number w = place_named 1 w rule_names
