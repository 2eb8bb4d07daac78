-- The verdict held on a well-sorted literal: it is an equality, and both sides have one value under every assignment.
use mathlib.Core.Path.{◌≡◌, refl, sym, ap, ap₂, subst, ◌∙◌}
use mathlib.Core.Bool.{Bool, true, false, ◌&&◌, cond}
use mathlib.Core.List.{List, [], ◌∷◌, map}
use Rattle.std.specs.Prelude.{Option, None as none, Some as some}
use Prim.Native.Nat.{ℕ, zero, suc, ◌+◌, ◌-◌, ◌*◌, ◌<◌, ◌≤◌}
use native.Mathlib.Omega.{arith}
use lib.Dec.{T, leb, ltb, eqb, eqb→eq, leb→le, ltb→lt}
use lib.Ieee.Fits.{and_l, and_r}
use lib.ListN.{length, length-map}
use Rattle.theory.specs.Kind.{Op, And, Or, Xor, Equals, Const, BvNot, BvNeg, BvAnd, BvOr, BvXor, BvAdd, BvMul, BvXNor, BvComp, BvULt, BvSLt, BvShl, BvLShr, BvAShr, BvUDiv, BvURem, BvConcat, BvExtract, SignExtend, ZeroExtend, RotateLeft, RotateRight, Repeat, many, exactly, takes, indices}
use Rattle.theory.specs.Term.{fold, Term, Terms, node, nil, cons, to_list, from_list, same_term, two}
use Rattle.theory.specs.Sort.{guard, Sort, bool, bv, same_sort, is_bv_sort, good, sort_width, sum_widths, first, is_width, alike, sort_op, sort_of, sorts_of}
use Rattle.theory.specs.Value.{Assign, to_number, value}
use Rattle.theory.specs.Move.{Move, zero_extension, left_rotation, right_rotation, repetition}
use Rattle.theory.specs.Gates.{term_gates}
use Rattle.theory.specs.Circuit.{negate, bitblast_ult, slt, equality, shl, lshr, ashr, udiv, urem}
use Rattle.theory.specs.Bits.{get_term_bits, bb, fold_terms, zipped, add_bits, product, extract_bits, concat_bits, extend_bits, moved_bits, shifted, divided}
use Rattle.theory.specs.Verdict.{Verdict, held, form_only, not_bit_vector, other_value, terms_differ, not_constant, bit_not_literal}
use Rattle.theory.specs.RuleTable.{Rule, by_value, by_var, by_and, by_or, by_xor, by_xnor, by_not, by_ult, by_slt, by_add, by_mult, by_neg, by_equality, by_comp, by_extract, by_concat, by_sign_extend, by_shl, by_lshr, by_ashr, by_udiv, by_urem, by_bitwise_slicing, by_udiv_standard, by_urem_standard, by_ashr_standard, by_zero_extend, by_rotate_left, by_rotate_right, by_repeat}
use Rattle.theory.specs.Rule.{nth, args_of, index_of, form, unary, binary, compare, on_one, on_two, on_many, literal_bits, value_bits, constant, value_rule, of_bits, ends_in_false, ashr_rule, moving_rule, slices_verdict, slicing_rule, on_sides, verdict}
use Rattle.theory.proofs.Sound.{same_sort_eq}
use Rattle.theory.proofs.Blast.{guard_yes, to_from_list, folds_from_list}
use Rattle.theory.proofs.Rules.{ult_holds, slt_holds, equality_holds, comp_holds, neg_holds, not_holds, add_holds, and_holds, or_holds, xor_holds, xnor_holds}
use Rattle.theory.proofs.Sorts.{is_bv, sorts_sized, sized}
use Rattle.theory.proofs.Slices.{var_holds, literal, value_holds, extract_holds, concat_holds, extend_holds, extend_zero}
use Rattle.theory.proofs.Same.{decode, same_eq}
use Rattle.theory.proofs.Multiplier.{mult_holds}
use Rattle.theory.proofs.Shift.{shl_holds, lshr_holds, ashr_standard_holds}
use Rattle.theory.proofs.Division.{udiv_holds, urem_holds}
use Rattle.theory.proofs.NonNegative.{ashr_holds}
use Rattle.theory.proofs.Form.{not_held, then_held, form_held, same_of, args_held, unary_held, binary_held, many_held, literal_bits_are}
use Rattle.theory.proofs.Slicing.{slicing_holds}
use Rattle.theory.proofs.Moving.{zero_extend_holds, rotate_left_holds, rotate_right_holds, repeat_holds}

-- ---- what a good sort says of the arguments
pub guard_good : (b : Bool) (s : Sort) → T (good (guard b s)) → T b × (guard b s ≡ s)
unfolding guard
guard_good true s h = (tt, refl)
guard_good false s h = absurd h

-- an operation on one, two, or 1 to 64 bit-vectors of one width
one_wide : (x : Term) (r : Sort) → T (good (guard (takes (exactly 1) (length (sorts_of (cons x nil))) && alike (sorts_of (cons x nil))) r)) → sort_of x ≡ bv (sort_width (sort_of x))
unfolding fold
one_wide x r h =
    let a : T (is_bv_sort (sort_of x) && (same_sort (sort_of x) (sort_of x) && true)) = (guard_good _ r h).0 in
    is_bv (sort_of x) (and_l (is_bv_sort (sort_of x)) _ a)

two_wide : (x y : Term) (r : Sort) → let ss = sorts_of (cons x (cons y nil)) in T (good (guard (takes (exactly 2) (length ss) && alike ss) r))
    → (sort_of x ≡ bv (sort_width (sort_of x))) × (sort_of y ≡ bv (sort_width (sort_of x)))
unfolding fold
two_wide x y r h =
    let a : T (is_bv_sort (sort_of x) && (same_sort (sort_of x) (sort_of x) && (same_sort (sort_of x) (sort_of y) && true))) = (guard_good _ r h).0 in
    let b = is_bv (sort_of x) (and_l (is_bv_sort (sort_of x)) _ a) in
    (b, sym (same_sort_eq (sort_of x) (sort_of y) (and_l (same_sort (sort_of x) (sort_of y)) _ (and_r (same_sort (sort_of x) (sort_of x)) _ (and_r (is_bv_sort (sort_of x)) _ a)))) ∙ b)

many_wide : (ts : Terms) → T (good (guard (takes many (length (sorts_of ts)) && alike (sorts_of ts)) (first (sorts_of ts))))
    → guard (takes many (length (sorts_of ts)) && alike (sorts_of ts)) (first (sorts_of ts)) ≡ bv (sort_width (first (sorts_of ts)))
many_wide ts h =
    let g = guard_good (takes many (length (sorts_of ts)) && alike (sorts_of ts)) (first (sorts_of ts)) h in
    g.1 ∙ is_bv (first (sorts_of ts)) (and_l (is_bv_sort (first (sorts_of ts))) _ (and_r (takes many (length (sorts_of ts))) _ g.0))

width_of_sort : (x : Term) (n : ℕ) → sort_of x ≡ bv n → T (is_width n)
width_of_sort x n e = subst (λ (s : Sort). T (sized s)) e (sorts_sized x)

-- an equation: one sort, and a good one
pub equal_sorts : (l r : Term) → sort_of (two Equals l r) ≡ bool → T (good (sort_of l)) × (sort_of l ≡ sort_of r)
unfolding fold
equal_sorts l r e =
    let g : T (good (sort_of l) && (same_sort (sort_of l) (sort_of l) && (same_sort (sort_of l) (sort_of r) && true))) = (guard_yes _ bool bool tt e).0 in (
      and_l (good (sort_of l)) _ g,
      same_sort_eq (sort_of l) (sort_of r) (and_l (same_sort (sort_of l) (sort_of r)) _ (and_r (same_sort (sort_of l) (sort_of l)) _ (and_r (good (sort_of l)) _ g))),
    )

-- ---- rules on (op x), (op x y), (op ..): o is kind k
abbrev Holds : Term → Term → Type 0
Holds l r = (ρ : Assign) → value ρ l ≡ value ρ r

module _ (k : ℕ) (o : Op) (known : (is : List ℕ) → decode k is ≡ o) where
  one_rule : (expected : Term → Term)
      → ((x : Term) → T (good (sort_of (node o (cons x nil)))) → sort_of x ≡ bv (sort_width (sort_of x)))
      → ((ρ : Assign) (x : Term) (n : ℕ) → sort_of x ≡ bv n → value ρ (expected x) ≡ value ρ (node o (cons x nil)))
      → (l r : Term) → T (good (sort_of l)) → on_one k expected l r ≡ held → Holds l r
  one_rule expected wide holds l r g e ρ =
      let u = unary_held k l (λ x. compare held (expected x) r) e in
      let i : l ≡ node o (cons u.one nil) = u.is ∙ ap (λ (p : Op). node p (cons u.one nil)) (known u.numbers) in
      let w = wide u.one (subst (λ (t : Term). T (good (sort_of t))) i g) in
      ap (value ρ) i ∙ sym (holds ρ u.one (sort_width (sort_of u.one)) w) ∙ ap (value ρ) (same_of (expected u.one) r u.after)

  two_rule : (expected : Term → Term → Term)
      → ((x y : Term) → T (good (sort_of (two o x y))) → (sort_of x ≡ bv (sort_width (sort_of x))) × (sort_of y ≡ bv (sort_width (sort_of x))))
      → ((ρ : Assign) (x y : Term) (n : ℕ) → sort_of x ≡ bv n → sort_of y ≡ bv n → value ρ (expected x y) ≡ value ρ (two o x y))
      → (l r : Term) → T (good (sort_of l)) → on_two held k expected l r ≡ held → Holds l r
  two_rule expected wide holds l r g e ρ =
      let u = binary_held k l (λ x y. compare held (expected x y) r) e in
      let i : l ≡ two o u.left u.right = u.is ∙ ap (λ (p : Op). two p u.left u.right) (known u.numbers) in
      let w = wide u.left u.right (subst (λ (t : Term). T (good (sort_of t))) i g) in
      ap (value ρ) i ∙ sym (holds ρ u.left u.right (sort_width (sort_of u.left)) w.0 w.1)
      ∙ ap (value ρ) (same_of (expected u.left u.right) r u.after)

  many_rule : (expected : List Term → Term)
      → ((ts : Terms) → T (good (sort_of (node o ts))) → sort_of (node o ts) ≡ bv (sort_width (sort_of (node o ts))))
      → ((ρ : Assign) (ts : Terms) (n : ℕ) → sort_of (node o ts) ≡ bv n → value ρ (expected (to_list ts)) ≡ value ρ (node o ts))
      → (l r : Term) → T (good (sort_of l)) → on_many k expected l r ≡ held → Holds l r
  many_rule expected wide holds l r g e ρ =
      let u = many_held k l (λ ts. compare held (expected ts) r) e in
      let ts = from_list u.all in
      let i : l ≡ node o ts = u.is ∙ ap (λ (p : Op). node p ts) (known u.numbers) in
      let w = wide ts (subst (λ (t : Term). T (good (sort_of t))) i g) in
      ap (value ρ) i ∙ sym (holds ρ ts (sort_width (sort_of (node o ts))) w)
      ∙ ap (λ (us : List Term). value ρ (expected us)) (to_from_list u.all)
      ∙ ap (value ρ) (same_of (expected u.all) r u.after)

-- from a sort that is some `bv`
bv_of_width : (s : Sort) (n : ℕ) → s ≡ bv n → s ≡ bv (sort_width s)
bv_of_width s n e = e ∙ ap bv (sym (ap sort_width e))

-- rules 21 and 22 never answer held
never : (k : ℕ) (expected : Term → Term → Term) (l r : Term) → on_two form_only k expected l r ≡ held → ⊥
never k expected l r e =
    let u = binary_held k l (λ x y. compare form_only (expected x y) r) e in
    not_held form_only tt (then_held (same_term (expected u.left u.right) r) terms_differ form_only tt u.after).1

-- ---- the arguments, kind by kind
xnor_wide : (x y : Term) → T (good (sort_of (two BvXNor x y))) → (sort_of x ≡ bv (sort_width (sort_of x))) × (sort_of y ≡ bv (sort_width (sort_of x)))
unfolding fold
xnor_wide x y h = two_wide x y _ h

ult_wide : (x y : Term) → T (good (sort_of (two BvULt x y))) → (sort_of x ≡ bv (sort_width (sort_of x))) × (sort_of y ≡ bv (sort_width (sort_of x)))
unfolding fold
ult_wide x y h = two_wide x y _ h

slt_wide : (x y : Term) → T (good (sort_of (two BvSLt x y))) → (sort_of x ≡ bv (sort_width (sort_of x))) × (sort_of y ≡ bv (sort_width (sort_of x)))
unfolding fold
slt_wide x y h = two_wide x y _ h

comp_wide : (x y : Term) → T (good (sort_of (two BvComp x y))) → (sort_of x ≡ bv (sort_width (sort_of x))) × (sort_of y ≡ bv (sort_width (sort_of x)))
unfolding fold
comp_wide x y h = two_wide x y _ h

shl_wide : (x y : Term) → T (good (sort_of (two BvShl x y))) → (sort_of x ≡ bv (sort_width (sort_of x))) × (sort_of y ≡ bv (sort_width (sort_of x)))
unfolding fold
shl_wide x y h = two_wide x y _ h

lshr_wide : (x y : Term) → T (good (sort_of (two BvLShr x y))) → (sort_of x ≡ bv (sort_width (sort_of x))) × (sort_of y ≡ bv (sort_width (sort_of x)))
unfolding fold
lshr_wide x y h = two_wide x y _ h

ashr_wide : (x y : Term) → T (good (sort_of (two BvAShr x y))) → (sort_of x ≡ bv (sort_width (sort_of x))) × (sort_of y ≡ bv (sort_width (sort_of x)))
unfolding fold
ashr_wide x y h = two_wide x y _ h

udiv_wide : (x y : Term) → T (good (sort_of (two BvUDiv x y))) → (sort_of x ≡ bv (sort_width (sort_of x))) × (sort_of y ≡ bv (sort_width (sort_of x)))
unfolding fold
udiv_wide x y h = two_wide x y _ h

urem_wide : (x y : Term) → T (good (sort_of (two BvURem x y))) → (sort_of x ≡ bv (sort_width (sort_of x))) × (sort_of y ≡ bv (sort_width (sort_of x)))
unfolding fold
urem_wide x y h = two_wide x y _ h

not_wide : (x : Term) → T (good (sort_of (node BvNot (cons x nil)))) → sort_of x ≡ bv (sort_width (sort_of x))
unfolding fold
not_wide x h = one_wide x _ h

pub neg_wide : (x : Term) → T (good (sort_of (node BvNeg (cons x nil)))) → sort_of x ≡ bv (sort_width (sort_of x))
unfolding fold
neg_wide x h = one_wide x _ h

and_wide : (ts : Terms) → T (good (sort_of (node BvAnd ts))) → sort_of (node BvAnd ts) ≡ bv (sort_width (sort_of (node BvAnd ts)))
unfolding fold
and_wide ts h = bv_of_width _ _ (many_wide ts h)

or_wide : (ts : Terms) → T (good (sort_of (node BvOr ts))) → sort_of (node BvOr ts) ≡ bv (sort_width (sort_of (node BvOr ts)))
unfolding fold
or_wide ts h = bv_of_width _ _ (many_wide ts h)

xor_wide : (ts : Terms) → T (good (sort_of (node BvXor ts))) → sort_of (node BvXor ts) ≡ bv (sort_width (sort_of (node BvXor ts)))
unfolding fold
xor_wide ts h = bv_of_width _ _ (many_wide ts h)

pub add_wide : (ts : Terms) → T (good (sort_of (node BvAdd ts))) → sort_of (node BvAdd ts) ≡ bv (sort_width (sort_of (node BvAdd ts)))
unfolding fold
add_wide ts h = bv_of_width _ _ (many_wide ts h)

pub mul_wide : (ts : Terms) → T (good (sort_of (node BvMul ts))) → sort_of (node BvMul ts) ≡ bv (sort_width (sort_of (node BvMul ts)))
unfolding fold
mul_wide ts h = bv_of_width _ _ (many_wide ts h)

shl_right : (ρ : Assign) (x y : Term) (n : ℕ) → sort_of x ≡ bv n → sort_of y ≡ bv n → value ρ (shifted (shl term_gates) x y) ≡ value ρ (two BvShl x y)
shl_right ρ x y n sx sy = shl_holds ρ x y n sx sy (width_of_sort x n sx)

lshr_right : (ρ : Assign) (x y : Term) (n : ℕ) → sort_of x ≡ bv n → sort_of y ≡ bv n → value ρ (shifted (lshr term_gates) x y) ≡ value ρ (two BvLShr x y)
lshr_right ρ x y n sx sy = lshr_holds ρ x y n sx sy (width_of_sort x n sx)

ashr_right : (ρ : Assign) (x y : Term) (n : ℕ) → sort_of x ≡ bv n → sort_of y ≡ bv n → value ρ (shifted (ashr term_gates true) x y) ≡ value ρ (two BvAShr x y)
ashr_right ρ x y n sx sy = ashr_standard_holds ρ x y n sx sy (width_of_sort x n sx)

pub and_pair : (a c : Term) → T (good (sort_of (two BvAnd a c)))
    → (sort_of a ≡ bv (sort_width (sort_of a))) × (sort_of c ≡ bv (sort_width (sort_of a))) × (sort_of (two BvAnd a c) ≡ bv (sort_width (sort_of a)))
unfolding fold
and_pair a c h =
    let g = guard_good _ (sort_of a) h in
    let b : T (is_bv_sort (sort_of a) && (same_sort (sort_of a) (sort_of a) && (same_sort (sort_of a) (sort_of c) && true))) = g.0 in
    let s = is_bv (sort_of a) (and_l (is_bv_sort (sort_of a)) _ b) in
    (s, sym (same_sort_eq (sort_of a) (sort_of c) (and_l (same_sort (sort_of a) (sort_of c)) _ (and_r (same_sort (sort_of a) (sort_of a)) _ (and_r (is_bv_sort (sort_of a)) _ b)))) ∙ s, g.1 ∙ s)

pub equals_bool : (x y : Term) → T (good (sort_of (two Equals x y))) → sort_of (two Equals x y) ≡ bool
unfolding fold
equals_bool x y h = (guard_good _ bool h).1

-- ---- rule 1
pub const_args : (n x : ℕ) (ts : List Term) → T (good (sort_of (node (Const n x) (from_list ts)))) → (ts ≡ []) × (sort_of (node (Const n x) (from_list ts)) ≡ bv n)
unfolding fold
const_args n x [] h = (refl, (guard_good _ (bv n) h).1)
const_args n x (t ∷ ts) h =
    let z : suc (length (sorts_of (from_list ts))) ≡ 0 = eqb→eq _ _ (and_l (takes (exactly 0) (length (sorts_of (from_list (t ∷ ts))))) _ (guard_good _ (bv n) h).0) in
    absurd (omega arith)

literals_sort : (bs : List Bool) (n : ℕ) → sort_of (bb (map literal bs)) ≡ bv n → length bs ≡ n
unfolding fold
literals_sort bs n e =
    let g = (guard_yes _ (bv (length (sorts_of (from_list (map literal bs))))) (bv n) tt e).1 in
    sym (length-map bs literal) ∙ sym (length-map (map literal bs) sort_of) ∙ ap length (sym (folds_from_list sort_op (map literal bs))) ∙ ap sort_width g

pub value_bits_held : (x : ℕ) (q : Option (List Bool)) → value_bits x q ≡ held → (bs : List Bool) × (q ≡ some bs) × (x ≡ to_number bs)
value_bits_held x none e = absurd (not_held bit_not_literal tt e)
value_bits_held x (some bs) e = (bs, refl, eqb→eq x (to_number bs) (then_held (eqb x (to_number bs)) other_value held tt e).0)

constant_held : (q : Option (List Term)) (c : Verdict) → constant q c ≡ held → (ts : List Term) × (q ≡ some ts) × (c ≡ held)
constant_held none c e = absurd (not_held not_constant tt e)
constant_held (some ts) c e = (ts, refl, e)

value_held : (l r : Term) → T (good (sort_of l)) → sort_of l ≡ sort_of r → value_rule l r ≡ held → Holds l r
value_held l r g s e ρ =
    let u = many_held 31 r (λ bits. constant (args_of 12 l) (value_bits (index_of 1 l) (literal_bits bits))) e in
    let c = constant_held (args_of 12 l) (value_bits (index_of 1 l) (literal_bits u.all)) u.after in
    let v = value_bits_held (index_of 1 l) (literal_bits u.all) c.2 in
    let a = args_held 12 l c.0 c.1 in
    let n = nth 0 a.0 in
    let x = nth 1 a.0 in
    let k = const_args n x c.0 (subst (λ (t : Term). T (good (sort_of t))) a.1 g) in
    let i : l ≡ node (Const n x) nil = a.1 ∙ ap (λ (ts : List Term). node (Const n x) (from_list ts)) k.0 in
    let j : r ≡ bb (map literal v.0) = u.is ∙ ap bb (literal_bits_are u.all v.0 v.1) in
    let z : sort_of (bb (map literal v.0)) ≡ bv n = ap sort_of (sym j) ∙ sym s ∙ ap sort_of a.1 ∙ k.1 in
    ap (value ρ) i ∙ sym (value_holds ρ n x v.0 (literals_sort v.0 n z) (sym v.2 ∙ ap (index_of 1) a.1)) ∙ ap (value ρ) (sym j)

-- ---- rules 2 and 13
wide_held : (x : Term) (c : Verdict) → of_bits x c ≡ held → (sort_of x ≡ bv (sort_width (sort_of x))) × (c ≡ held)
wide_held x c e = let t = then_held (is_bv_sort (sort_of x)) not_bit_vector c tt e in (is_bv (sort_of x) t.0, t.1)

var_held : (l r : Term) → of_bits l (compare held (bb (get_term_bits l)) r) ≡ held → Holds l r
var_held l r e ρ =
    let w = wide_held l (compare held (bb (get_term_bits l)) r) e in
    sym (var_holds ρ l (sort_width (sort_of l)) w.0) ∙ ap (value ρ) (same_of (bb (get_term_bits l)) r w.1)

equality_held : (l r : Term) → T (good (sort_of l))
    → binary 24 l (λ x y. of_bits x (compare held (equality term_gates (get_term_bits x) (get_term_bits y)) r)) ≡ held → Holds l r
equality_held l r g e ρ =
    let u = binary_held 24 l (λ x y. of_bits x (compare held (equality term_gates (get_term_bits x) (get_term_bits y)) r)) e in
    let x = u.left in
    let y = u.right in
    let w = wide_held x (compare held (equality term_gates (get_term_bits x) (get_term_bits y)) r) u.after in
    let s = (equal_sorts x y (equals_bool x y (subst (λ (t : Term). T (good (sort_of t))) u.is g))).1 in
    ap (value ρ) u.is ∙ sym (equality_holds ρ x y (sort_width (sort_of x)) w.0 (sym s ∙ w.0))
    ∙ ap (value ρ) (same_of (equality term_gates (get_term_bits x) (get_term_bits y)) r w.1)

-- ---- rule 15
extract_args : (i j : ℕ) (x : Term) → T (good (sort_of (node (BvExtract i j) (cons x nil))))
    → (sort_of x ≡ bv (sort_width (sort_of x))) × (j ≤ i) × (i < sort_width (sort_of x))
unfolding fold
extract_args i j x h =
    let a : T (is_bv_sort (sort_of x) && (leb j i && ltb i (sort_width (sort_of x)))) = (guard_good _ (bv (suc (i - j))) h).0 in
    let b = and_r (is_bv_sort (sort_of x)) _ a in
    (is_bv (sort_of x) (and_l (is_bv_sort (sort_of x)) _ a), leb→le j i (and_l (leb j i) _ b), ltb→lt i (sort_width (sort_of x)) (and_r (leb j i) _ b))

extract_held : (l r : Term) → T (good (sort_of l))
    → unary 57 l (λ x. form (args_of 31 r) (λ bits. compare held (bb (extract_bits (index_of 0 l) (index_of 1 l) (get_term_bits x))) r)) ≡ held → Holds l r
extract_held l r g e ρ =
    let u = unary_held 57 l (λ x. form (args_of 31 r) (λ bits. compare held (bb (extract_bits (index_of 0 l) (index_of 1 l) (get_term_bits x))) r)) e in
    let x = u.one in
    let f = form_held (args_of 31 r) (λ bits. compare held (bb (extract_bits (index_of 0 l) (index_of 1 l) (get_term_bits x))) r) u.after in
    let i = nth 0 u.numbers in
    let j = nth 1 u.numbers in
    let s = extract_args i j x (subst (λ (t : Term). T (good (sort_of t))) u.is g) in
    ap (value ρ) u.is ∙ sym (extract_holds ρ x (sort_width (sort_of x)) i j s.0 s.1 s.2)
    ∙ ap₂ (λ (p q : ℕ). value ρ (bb (extract_bits p q (get_term_bits x)))) (ap (index_of 0) (sym u.is)) (ap (index_of 1) (sym u.is))
    ∙ ap (value ρ) (same_of (bb (extract_bits (index_of 0 l) (index_of 1 l) (get_term_bits x))) r f.2)

-- ---- rule 16
pub concat_sort : (ts : Terms) → T (good (sort_of (node BvConcat ts))) → sort_of (node BvConcat ts) ≡ bv (sum_widths (sorts_of ts))
unfolding fold
concat_sort ts h = (guard_good _ (bv (sum_widths (sorts_of ts))) h).1

concat_held : (l r : Term) → T (good (sort_of l)) → form (args_of 56 l) (λ ts. form (args_of 31 r) (λ bits. compare held (bb (concat_bits ts)) r)) ≡ held → Holds l r
concat_held l r g e ρ =
    let u = many_held 56 l (λ ts. form (args_of 31 r) (λ bits. compare held (bb (concat_bits ts)) r)) e in
    let f = form_held (args_of 31 r) (λ bits. compare held (bb (concat_bits u.all)) r) u.after in
    let ts = from_list u.all in
    let s = concat_sort ts (subst (λ (t : Term). T (good (sort_of t))) u.is g) in
    ap (value ρ) u.is ∙ sym (concat_holds ρ ts (sum_widths (sorts_of ts)) s)
    ∙ ap (λ (us : List Term). value ρ (bb (concat_bits us))) (to_from_list u.all) ∙ ap (value ρ) (same_of (bb (concat_bits u.all)) r f.2)

-- ---- rule 17
extend_arg : (k : ℕ) (x : Term) → T (good (sort_of (node (SignExtend k) (cons x nil)))) → sort_of x ≡ bv (sort_width (sort_of x))
unfolding fold
extend_arg k x h =
    let a : T (is_bv_sort (sort_of x) && leb (sort_width (sort_of x) + k) 64) = (guard_good _ (bv (sort_width (sort_of x) + k)) h).0 in
    is_bv (sort_of x) (and_l (is_bv_sort (sort_of x)) _ a)

extended_value : (ρ : Assign) (x : Term) (n k : ℕ) → sort_of x ≡ bv n
    → value ρ (cond (eqb k 0) x (bb (extend_bits k (get_term_bits x)))) ≡ value ρ (node (SignExtend k) (cons x nil))
extended_value ρ x n zero s = extend_zero ρ x n s
extended_value ρ x n (suc k) s = go (eqb (suc k) 0) (λ t. absurd (let z = eqb→eq (suc k) 0 t in omega arith)) (extend_holds ρ x n (suc k) s)
  where
    go : (b : Bool) → (T b → ⊥) → value ρ (bb (extend_bits (suc k) (get_term_bits x))) ≡ value ρ (node (SignExtend (suc k)) (cons x nil))
        → value ρ (cond b x (bb (extend_bits (suc k) (get_term_bits x)))) ≡ value ρ (node (SignExtend (suc k)) (cons x nil))
    go true f d = absurd (f tt)
    go false f d = d

extend_held : (l r : Term) → T (good (sort_of l))
    → unary 58 l (λ x. compare held (cond (eqb (index_of 0 l) 0) x (bb (extend_bits (index_of 0 l) (get_term_bits x)))) r) ≡ held → Holds l r
extend_held l r g e ρ =
    let u = unary_held 58 l (λ x. compare held (cond (eqb (index_of 0 l) 0) x (bb (extend_bits (index_of 0 l) (get_term_bits x)))) r) e in
    let x = u.one in
    let k = nth 0 u.numbers in
    let s = extend_arg k x (subst (λ (t : Term). T (good (sort_of t))) u.is g) in
    ap (value ρ) u.is ∙ sym (extended_value ρ x (sort_width (sort_of x)) k s)
    ∙ ap (λ (p : ℕ). value ρ (cond (eqb p 0) x (bb (extend_bits p (get_term_bits x))))) (ap (index_of 0) (sym u.is))
    ∙ ap (value ρ) (same_of (cond (eqb (index_of 0 l) 0) x (bb (extend_bits (index_of 0 l) (get_term_bits x)))) r u.after)

-- ---- rule 20
ashr_held : (l r : Term) → T (good (sort_of l)) → ashr_rule l r ≡ held → Holds l r
ashr_held l r g e ρ =
    let u = binary_held 53 l (λ x y. compare (cond (ends_in_false x) held form_only) (shifted (ashr term_gates false) x y) r) e in
    let x = u.left in
    let y = u.right in
    let c = then_held (same_term (shifted (ashr term_gates false) x y) r) terms_differ (cond (ends_in_false x) held form_only) tt u.after in
    let f = (then_held (ends_in_false x) form_only held tt c.1).0 in
    let w = ashr_wide x y (subst (λ (t : Term). T (good (sort_of t))) u.is g) in
    ap (value ρ) u.is ∙ sym (ashr_holds ρ x y (sort_width (sort_of x)) w.0 w.1 (width_of_sort x _ w.0) f)
    ∙ ap (value ρ) (same_eq (shifted (ashr term_gates false) x y) r c.0)

-- ---- rule 23
slicing_held : (l r : Term) → T (good (sort_of l)) → sort_of l ≡ sort_of r → slicing_rule l r ≡ held → Holds l r
slicing_held l r g s e ρ =
    let u = binary_held 42 l (λ a c. form (args_of 56 r) (slices_verdict a c (sort_width (sort_of c)))) e in
    let a = u.left in
    let c = u.right in
    let v = many_held 56 r (slices_verdict a c (sort_width (sort_of c))) u.after in
    let w = and_pair a c (subst (λ (t : Term). T (good (sort_of t))) u.is g) in
    let us = from_list v.all in
    let n = sort_width (sort_of a) in
    let m : sort_width (sort_of c) ≡ n = ap sort_width w.1 in
    let p : slices_verdict a c n (to_list us) ≡ held
    = ap₂ (slices_verdict a c) (sym m) (to_from_list v.all) ∙ v.after in
    let q : sort_of (node BvConcat us) ≡ bv n = ap sort_of (sym v.is) ∙ sym s ∙ ap sort_of u.is ∙ w.2 in
    ap (value ρ) u.is ∙ sym (slicing_holds ρ a c n w.0 w.1 us p q) ∙ ap (value ρ) (sym v.is)

-- ---- rules 27 to 30
module _ (op : ℕ) (o : ℕ → Op) (known : (is : List ℕ) → decode op is ≡ o (nth 0 is)) (index : (k : ℕ) → nth 0 (indices (o k)) ≡ k) (move : ℕ → ℕ → Move)
    (wide : (k : ℕ) (x : Term) → T (good (sort_of (node (o k) (cons x nil)))) → sort_of x ≡ bv (sort_width (sort_of x)))
    (holds : (ρ : Assign) (k : ℕ) (x : Term) (n : ℕ) → sort_of x ≡ bv n → T (good (sort_of (node (o k) (cons x nil))))
    → value ρ (bb (moved_bits (move k n) (get_term_bits x))) ≡ value ρ (node (o k) (cons x nil))) where
  moving_held : (l r : Term) → T (good (sort_of l)) → moving_rule op move l r ≡ held → Holds l r
  moving_held l r g e ρ =
      let u = unary_held op l (λ x. compare held (bb (moved_bits (move (index_of 0 l) (sort_width (sort_of x))) (get_term_bits x))) r) e in
      let x = u.one in
      let k = nth 0 u.numbers in
      let i : l ≡ node (o k) (cons x nil) = u.is ∙ ap (λ (p : Op). node p (cons x nil)) (known u.numbers) in
      let f = subst (λ (t : Term). T (good (sort_of t))) i g in
      ap (value ρ) i ∙ sym (holds ρ k x (sort_width (sort_of x)) (wide k x f) f)
      ∙ ap (λ (j : ℕ). value ρ (bb (moved_bits (move j (sort_width (sort_of x))) (get_term_bits x)))) (sym (index k) ∙ ap (index_of 0) (sym i))
      ∙ ap (value ρ) (same_of (bb (moved_bits (move (index_of 0 l) (sort_width (sort_of x))) (get_term_bits x))) r u.after)

zero_arg : (k : ℕ) (x : Term) → T (good (sort_of (node (ZeroExtend k) (cons x nil)))) → sort_of x ≡ bv (sort_width (sort_of x))
unfolding fold
zero_arg k x h =
    let a : T (is_bv_sort (sort_of x) && leb (sort_width (sort_of x) + k) 64) = (guard_good _ (bv (sort_width (sort_of x) + k)) h).0 in
    is_bv (sort_of x) (and_l (is_bv_sort (sort_of x)) _ a)

left_arg : (k : ℕ) (x : Term) → T (good (sort_of (node (RotateLeft k) (cons x nil)))) → sort_of x ≡ bv (sort_width (sort_of x))
unfolding fold
left_arg k x h = one_wide x _ h

right_arg : (k : ℕ) (x : Term) → T (good (sort_of (node (RotateRight k) (cons x nil)))) → sort_of x ≡ bv (sort_width (sort_of x))
unfolding fold
right_arg k x h = one_wide x _ h

repeat_arg : (k : ℕ) (x : Term) → T (good (sort_of (node (Repeat k) (cons x nil)))) → (sort_of x ≡ bv (sort_width (sort_of x))) × (1 ≤ k)
unfolding fold
repeat_arg k x h =
    let a : T (is_bv_sort (sort_of x) && is_width (k * sort_width (sort_of x))) = (guard_good _ (bv (k * sort_width (sort_of x))) h).0 in
    let w = leb→le 1 (k * sort_width (sort_of x)) (and_l (leb 1 (k * sort_width (sort_of x))) _ (and_r (is_bv_sort (sort_of x)) _ a)) in
    (is_bv (sort_of x) (and_l (is_bv_sort (sort_of x)) _ a), some_copies k w)
  where
    some_copies : (j : ℕ) → 1 ≤ j * sort_width (sort_of x) → 1 ≤ j
    some_copies zero z = absurd (omega arith)
    some_copies (suc j) z = omega arith

-- ---- every rule
pub sides_hold : (rule : Rule) (l r : Term) → sort_of (two Equals l r) ≡ bool → on_sides rule l r ≡ held → Holds l r
unfolding on_sides
sides_hold by_value l r s e = value_held l r (equal_sorts l r s).0 (equal_sorts l r s).1 e
sides_hold by_var l r s e = var_held l r e
sides_hold by_and l r s e = many_rule 42 BvAnd (λ is. refl) (fold_terms (zipped (two And))) and_wide and_holds l r (equal_sorts l r s).0 e
sides_hold by_or l r s e = many_rule 43 BvOr (λ is. refl) (fold_terms (zipped (two Or))) or_wide or_holds l r (equal_sorts l r s).0 e
sides_hold by_xor l r s e = many_rule 44 BvXor (λ is. refl) (fold_terms (zipped (two Xor))) xor_wide xor_holds l r (equal_sorts l r s).0 e
sides_hold by_xnor l r s e = two_rule 47 BvXNor (λ is. refl) (zipped (two Equals)) xnor_wide xnor_holds l r (equal_sorts l r s).0 e
sides_hold by_not l r s e = one_rule 40 BvNot (λ is. refl) (λ x. bb (map term_gates.not_gate (get_term_bits x))) not_wide not_holds l r (equal_sorts l r s).0 e
sides_hold by_ult l r s e = two_rule 49 BvULt (λ is. refl) (λ x y. bitblast_ult term_gates (get_term_bits x) (get_term_bits y)) ult_wide ult_holds l r (equal_sorts l r s).0 e
sides_hold by_slt l r s e = two_rule 50 BvSLt (λ is. refl) (λ x y. slt term_gates (get_term_bits x) (get_term_bits y)) slt_wide slt_holds l r (equal_sorts l r s).0 e
sides_hold by_add l r s e = many_rule 45 BvAdd (λ is. refl) (λ ts. bb (add_bits ts)) add_wide add_holds l r (equal_sorts l r s).0 e
sides_hold by_mult l r s e = many_rule 46 BvMul (λ is. refl) (fold_terms product) mul_wide mult_holds l r (equal_sorts l r s).0 e
sides_hold by_neg l r s e = one_rule 41 BvNeg (λ is. refl) (λ x. bb (negate term_gates (get_term_bits x))) neg_wide neg_holds l r (equal_sorts l r s).0 e
sides_hold by_equality l r s e = equality_held l r (equal_sorts l r s).0 e
sides_hold by_comp l r s e = two_rule 48 BvComp (λ is. refl) (λ x y. bb (equality term_gates (get_term_bits x) (get_term_bits y) ∷ [])) comp_wide comp_holds l r (equal_sorts l r s).0 e
sides_hold by_extract l r s e = extract_held l r (equal_sorts l r s).0 e
sides_hold by_concat l r s e = concat_held l r (equal_sorts l r s).0 e
sides_hold by_sign_extend l r s e = extend_held l r (equal_sorts l r s).0 e
sides_hold by_shl l r s e = two_rule 51 BvShl (λ is. refl) (shifted (shl term_gates)) shl_wide shl_right l r (equal_sorts l r s).0 e
sides_hold by_lshr l r s e = two_rule 52 BvLShr (λ is. refl) (shifted (lshr term_gates)) lshr_wide lshr_right l r (equal_sorts l r s).0 e
sides_hold by_ashr l r s e = ashr_held l r (equal_sorts l r s).0 e
sides_hold by_udiv l r s e = absurd (never 54 (divided (udiv term_gates false)) l r e)
sides_hold by_urem l r s e = absurd (never 55 (divided (urem term_gates false)) l r e)
sides_hold by_bitwise_slicing l r s e = slicing_held l r (equal_sorts l r s).0 (equal_sorts l r s).1 e
sides_hold by_udiv_standard l r s e = two_rule 54 BvUDiv (λ is. refl) (divided (udiv term_gates true)) udiv_wide udiv_holds l r (equal_sorts l r s).0 e
sides_hold by_urem_standard l r s e = two_rule 55 BvURem (λ is. refl) (divided (urem term_gates true)) urem_wide urem_holds l r (equal_sorts l r s).0 e
sides_hold by_ashr_standard l r s e = two_rule 53 BvAShr (λ is. refl) (shifted (ashr term_gates true)) ashr_wide ashr_right l r (equal_sorts l r s).0 e
sides_hold by_zero_extend l r s e = moving_held 60 ZeroExtend (λ is. refl) (λ k. refl) zero_extension zero_arg (λ ρ k x n w f. zero_extend_holds ρ k x n w) l r (equal_sorts l r s).0 e
sides_hold by_rotate_left l r s e = moving_held 61 RotateLeft (λ is. refl) (λ k. refl) left_rotation left_arg (λ ρ k x n w f. rotate_left_holds ρ k x n w) l r (equal_sorts l r s).0 e
sides_hold by_rotate_right l r s e = moving_held 62 RotateRight (λ is. refl) (λ k. refl) right_rotation right_arg (λ ρ k x n w f. rotate_right_holds ρ k x n w) l r (equal_sorts l r s).0 e
sides_hold by_repeat l r s e = moving_held 63 Repeat (λ is. refl) (λ k. refl) repetition (λ k x f. (repeat_arg k x f).0) (λ ρ k x n w f. repeat_holds ρ k x n w (repeat_arg k x f).1) l r (equal_sorts l r s).0 e

pub verdict_holds : (rule : Rule) (t : Term) → T (good (sort_of t)) → verdict rule t ≡ held
    → (l : Term) × (r : Term) × (t ≡ two Equals l r) × ((ρ : Assign) → value ρ l ≡ value ρ r)
unfolding verdict
verdict_holds rule t s e =
    let u = binary_held 24 t (on_sides rule) e in
    let b = equals_bool u.left u.right (subst (λ (z : Term). T (good (sort_of z))) u.is s) in
    (u.left, u.right, u.is, sides_hold rule u.left u.right b u.after)
