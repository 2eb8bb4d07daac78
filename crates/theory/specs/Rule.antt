-- The 23 rules of bitvectors.rs, three by the standard, and four that move bits: from the literal's tree to the verdict.
use Rattle.std.specs.Prelude.{Bool, true, false, ◌&&◌, not, cond, List, [], ◌∷◌, map, ℕ, suc, eqb, get_or}
use Rattle.std.specs.Prelude.{Option, None as none, Some as some}
use Rattle.theory.specs.Kind.{True, False, And, Or, Xor, Equals, Const, BvBbTerm, BvNot, BvNeg, BvAnd, BvOr, BvXor, BvAdd, BvMul, BvXNor, BvComp, BvULt, BvSLt, BvShl, BvLShr, BvAShr, BvUDiv, BvURem, BvConcat, BvExtract, SignExtend, ZeroExtend, RotateLeft, RotateRight, Repeat, kind, indices}
use Rattle.theory.specs.Term.{Term, node, nil, to_list, same_term, two}
use Rattle.theory.specs.Sort.{is_bv_sort, sort_width, sort_of}
use Rattle.theory.specs.Value.{to_number}
use Rattle.theory.specs.Move.{Move, zero_extension, left_rotation, right_rotation, repetition}
use Rattle.theory.specs.Optional.{collect}
use Rattle.theory.specs.Gates.{term_gates}
use Rattle.theory.specs.Circuit.{last, negate, bitblast_ult, slt, equality, shl, lshr, ashr, udiv, urem}
use Rattle.theory.specs.Bits.{get_term_bits, bb, fold_terms, zipped, add_bits, product, extract_bits, concat_bits, extend_bits, moved_bits, shifted, literally_false, divided}
use Rattle.theory.specs.Verdict.{Verdict, held, form_only, wrong_form, not_bit_vector, not_constant, bit_not_literal, other_value, terms_differ, index_not_next}
use Rattle.theory.specs.RuleTable.{Rule, by_value, by_var, by_and, by_or, by_xor, by_xnor, by_not, by_ult, by_slt, by_add, by_mult, by_neg, by_equality, by_comp, by_extract, by_concat, by_sign_extend, by_shl, by_lshr, by_ashr, by_udiv, by_urem, by_bitwise_slicing, by_udiv_standard, by_urem_standard, by_ashr_standard, by_zero_extend, by_rotate_left, by_rotate_right, by_repeat}

-- the kinds with numbers in them: constants
abbrev pub constant_kind : ℕ
constant_kind = kind (Const 0 0)

-- BvExtract
abbrev pub extract_kind : ℕ
extract_kind = kind (BvExtract 0 0)

-- SignExtend
abbrev pub extend_kind : ℕ
extend_kind = kind (SignExtend 0)

-- ---- taking a term apart, as `match_term_err!` does: its arguments where it is of kind k
-- t's arguments, where it is of kind k
unfoldable pub args_of : ℕ → Term → Option (List Term)
args_of k (node o ts) = cond (eqb (kind o) k) (some (to_list ts)) none

-- just one argument
abbrev pub one_of : List Term → Option Term
one_of [] = none
one_of (x ∷ []) = some x
one_of (x ∷ y ∷ zs) = none

-- just two arguments
abbrev pub two_of : List Term → Option (Term × Term)
two_of [] = none
two_of (x ∷ []) = none
two_of (x ∷ y ∷ []) = some (x, y)
two_of (x ∷ y ∷ z ∷ zs) = none

-- number i of a list, 0 where there is none
abbrev pub nth : ℕ → List ℕ → ℕ
nth i is = get_or is i 0

-- number i in the term's kind; it is asked only of a kind that has one
abbrev pub index_of : ℕ → Term → ℕ
index_of i (node o ts) = nth i (indices o)

-- wrong form, unless the part is there
abbrev pub form : {A : Type 0} → Option A → (A → Verdict) → Verdict
form none f = wrong_form
form (some a) f = f a

-- a term of kind k with just one argument
abbrev pub unary : ℕ → Term → (Term → Verdict) → Verdict
unary k t f = form (args_of k t) (λ ts. form (one_of ts) f)

-- a term of kind k with just two arguments
abbrev pub binary : ℕ → Term → (Term → Term → Verdict) → Verdict
binary k t f = form (args_of k t) (λ ts. form (two_of ts) (λ p. f p.0 p.1))

-- ---- the last test: expected and claimed term are the same
-- `ok` where they are
abbrev pub compare : Verdict → Term → Term → Verdict
compare ok expected claimed = cond (same_term expected claimed) ok terms_differ

-- (= (op x) res), res being what is expected of x
abbrev pub on_one : ℕ → (Term → Term) → Term → Term → Verdict
on_one k expected l r = unary k l (λ x. compare held (expected x) r)

-- (= (op x y) res); `ok` is the verdict if accepted
abbrev pub on_two : Verdict → ℕ → (Term → Term → Term) → Term → Term → Verdict
on_two ok k expected l r = binary k l (λ x y. compare ok (expected x y) r)

-- (= (op ..) res)
abbrev pub on_many : ℕ → (List Term → Term) → Term → Term → Verdict
on_many k expected l r = form (args_of k l) (λ ts. compare held (expected ts) r)

-- ---- rule 1: (= v (bbterm ..)). Rust also compares the number of bits with the width of v: both sides have one sort, so they agree
-- `true` and `false` are literal
abbrev pub literal_bit : Term → Option Bool
literal_bit t = cond (same_term t (node True nil)) (some true) (cond (same_term t (node False nil)) (some false) none)

-- the bits, where all are literal
unfoldable pub literal_bits : List Term → Option (List Bool)
literal_bits ts = collect (map literal_bit ts)

-- the bits have the value x
abbrev pub value_bits : ℕ → Option (List Bool) → Verdict
value_bits x none = bit_not_literal
value_bits x (some bs) = cond (eqb x (to_number bs)) held other_value

-- the left side is a constant
abbrev pub constant : Option (List Term) → Verdict → Verdict
constant none v = not_constant
constant (some ts) v = v

-- the bits' value is the constant's
abbrev pub value_rule : Term → Term → Verdict
value_rule v r =
    form (args_of (kind BvBbTerm) r) (λ bits. constant (args_of constant_kind v) (value_bits (index_of 1 v) (literal_bits bits)))

-- ---- rules 2 and 13: the operand is a bit-vector
-- v, where x is one
abbrev pub of_bits : Term → Verdict → Verdict
of_bits x v = cond (is_bv_sort (sort_of x)) v not_bit_vector

-- ---- rule 20: (= (bvashr x y) res). The circuit is SMT-LIB's operation where x cannot be negative
-- x is a BvBbTerm, and its last bit is the term `false` itself
abbrev pub ends_in_false : Term → Bool
ends_in_false (node o ts) = eqb (kind o) (kind BvBbTerm) && literally_false (last (node True nil) (to_list ts))

-- held for such an x, form only for any other
abbrev pub ashr_rule : Term → Term → Verdict
ashr_rule l r = binary (kind BvAShr) l (λ x y. compare (cond (ends_in_false x) held form_only) (shifted (ashr term_gates false) x y) r)

-- ---- rule 23: (= (bvand a c) (concat ..)), slice by slice
-- the two parts of a slice: ((_ extract i j) a) and ((_ extract i j) c), with i the next index from the top
abbrev pub parts_verdict : ℕ → Term → Term → (ℕ → Verdict) → Term → Term → Verdict
parts_verdict done a c next p q =
    unary extract_kind p (λ x.
    unary extract_kind q (λ y.
    cond (not (eqb (index_of 0 p) (index_of 0 q) && eqb (index_of 1 p) (index_of 1 q))) wrong_form
    (cond (not (eqb (suc (index_of 0 p)) done)) index_not_next
    (cond (not (same_term a x && same_term c y)) terms_differ (next (index_of 1 p))))))

-- a slice: bvand of two such parts
abbrev pub slice_verdict : ℕ → Term → Term → Term → (ℕ → Verdict) → Verdict
slice_verdict done a c slice next = binary (kind BvAnd) slice (parts_verdict done a c next)

-- `done` is the lowest index so far. Rust last asks that it is 0: both sides have one width, so it is
unfoldable pub slices_verdict : Term → Term → ℕ → List Term → Verdict
slices_verdict a c done [] = held
slices_verdict a c done (s ∷ ss) = slice_verdict done a c s (λ j. slices_verdict a c j ss)

-- the slices begin at the top of c
abbrev pub slicing_rule : Term → Term → Verdict
slicing_rule l r =
    binary (kind BvAnd) l (λ a c.
    form (args_of (kind BvConcat) r) (slices_verdict a c (sort_width (sort_of c))))

-- ---- rules 27 to 30: (= ((_ op k) x) res), by how the operation of kind `op` moves the bits by k, at a width
-- the claim is the term of the bits moved
abbrev pub moving_rule : ℕ → (ℕ → ℕ → Move) → Term → Term → Verdict
moving_rule op move l r =
    unary op l (λ x. compare held (bb (moved_bits (move (index_of 0 l) (sort_width (sort_of x))) (get_term_bits x))) r)

-- ---- every rule, on (= l r). In rule 16 Rust also compares the number of bits: both sides have one width, so they agree
-- the rule's verdict
unfoldable pub on_sides : Rule → Term → Term → Verdict
on_sides by_value l r = value_rule l r
on_sides by_var l r = of_bits l (compare held (bb (get_term_bits l)) r)
on_sides by_and l r = on_many (kind BvAnd) (fold_terms (zipped (two And))) l r
on_sides by_or l r = on_many (kind BvOr) (fold_terms (zipped (two Or))) l r
on_sides by_xor l r = on_many (kind BvXor) (fold_terms (zipped (two Xor))) l r
on_sides by_xnor l r = on_two held (kind BvXNor) (zipped (two Equals)) l r
on_sides by_not l r = on_one (kind BvNot) (λ x. bb (map term_gates.not_gate (get_term_bits x))) l r
on_sides by_ult l r = on_two held (kind BvULt) (λ x y. bitblast_ult term_gates (get_term_bits x) (get_term_bits y)) l r
on_sides by_slt l r = on_two held (kind BvSLt) (λ x y. slt term_gates (get_term_bits x) (get_term_bits y)) l r
on_sides by_add l r = on_many (kind BvAdd) (λ ts. bb (add_bits ts)) l r
on_sides by_mult l r = on_many (kind BvMul) (fold_terms product) l r
on_sides by_neg l r = on_one (kind BvNeg) (λ x. bb (negate term_gates (get_term_bits x))) l r
on_sides by_equality l r =
    binary (kind Equals) l (λ x y. of_bits x (compare held (equality term_gates (get_term_bits x) (get_term_bits y)) r))
on_sides by_comp l r = on_two held (kind BvComp) (λ x y. bb (equality term_gates (get_term_bits x) (get_term_bits y) ∷ [])) l r
on_sides by_extract l r =
    unary extract_kind l (λ x. form (args_of (kind BvBbTerm) r) (λ bits.
    compare held (bb (extract_bits (index_of 0 l) (index_of 1 l) (get_term_bits x))) r))
on_sides by_concat l r =
    form (args_of (kind BvConcat) l) (λ ts. form (args_of (kind BvBbTerm) r) (λ bits. compare held (bb (concat_bits ts)) r))
on_sides by_sign_extend l r =
    unary extend_kind l (λ x. compare held (cond (eqb (index_of 0 l) 0) x (bb (extend_bits (index_of 0 l) (get_term_bits x)))) r)
on_sides by_shl l r = on_two held (kind BvShl) (shifted (shl term_gates)) l r
on_sides by_lshr l r = on_two held (kind BvLShr) (shifted (lshr term_gates)) l r
on_sides by_ashr l r = ashr_rule l r
on_sides by_udiv l r = on_two form_only (kind BvUDiv) (divided (udiv term_gates false)) l r
on_sides by_urem l r = on_two form_only (kind BvURem) (divided (urem term_gates false)) l r
on_sides by_bitwise_slicing l r = slicing_rule l r
on_sides by_udiv_standard l r = on_two held (kind BvUDiv) (divided (udiv term_gates true)) l r
on_sides by_urem_standard l r = on_two held (kind BvURem) (divided (urem term_gates true)) l r
on_sides by_ashr_standard l r = on_two held (kind BvAShr) (shifted (ashr term_gates true)) l r
on_sides by_zero_extend l r = moving_rule (kind (ZeroExtend 0)) zero_extension l r
on_sides by_rotate_left l r = moving_rule (kind (RotateLeft 0)) left_rotation l r
on_sides by_rotate_right l r = moving_rule (kind (RotateRight 0)) right_rotation l r
on_sides by_repeat l r = moving_rule (kind (Repeat 0)) repetition l r

-- the verdict on a clause of one literal
unfoldable pub verdict : Rule → Term → Verdict
verdict rule literal = binary (kind Equals) literal (on_sides rule)
