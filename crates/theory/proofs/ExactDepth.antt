-- The depth of an accepted right side under rules 8, 9, 12 and two-argument 10, for arguments that are no BvBbTerm: exactly 2 * n, and 2 * n + 1 for rule 12.
use mathlib.Core.Path.{◌≡◌, refl, sym, ap, subst, ◌∙◌}
use mathlib.Core.Bool.{Bool, true, false, cond}
use mathlib.Core.List.{List, [], ◌∷◌, map}
use Prim.Native.Nat.{ℕ, zero, suc, ◌+◌, ◌*◌, ◌<◌, ◌≤◌, max}
use native.Mathlib.Omega.{arith}
use lib.Dec.{T, leb, ltb, eqb, leb→le, lt→ltb}
use lib.Ieee.Fits.{and_l}
use Rattle.theory.specs.Kind.{Op, True, False, Not, And, Or, Xor, Equals, BvBitOf, BvNeg, BvAdd, BvULt, BvSLt, kind}
use Rattle.theory.specs.Term.{fold, Term, node, nil, cons, from_list, two}
use Rattle.theory.specs.Sort.{guard, Sort, bool, bv, sort_of}
use Rattle.theory.specs.Depth.{depth, deepest}
use Rattle.theory.specs.Gates.{term_gates}
use Rattle.theory.specs.Circuit.{ripple_carry_adder, negate, bitblast_ult, ult_from, slt, slt_from, less_step, sign_step, sum_bit, next_carry}
use Rattle.theory.specs.Bits.{select, get_term_bits, bb, add_bits}
use Rattle.theory.specs.Verdict.{Verdict, held, accepted}
use Rattle.theory.specs.RuleTable.{Rule, by_ult, by_slt, by_neg, by_add}
use Rattle.theory.specs.Rule.{verdict, on_sides}
use Rattle.theory.specs.Claim.{NoBbTerm, HasDepth, rule_8, rule_9, rule_10, rule_12, ExactDepth}
use Rattle.theory.proofs.Blast.{not_bb, is_bb}
use Rattle.theory.proofs.Sorts.{sorts_sized, sized}
use Rattle.theory.proofs.Form.{code_held, one_claim, two_claim, many_claim, sides_of}
use Rattle.theory.proofs.Basics.{T_true}

-- ---- the bits of the arguments
-- a Bool of depth 0
record Bit (t : Term) : Type 0 where
  is_bool : sort_of t ≡ bool
  flat : depth t ≡ 0

-- two lists of n bits
data Both : ℕ → List Term → List Term → Type 0 where
  end : Both 0 [] []
  next : {n : ℕ} {x y : Term} {xs ys : List Term} → Bit x → Bit y → Both n xs ys → Both (suc n) (x ∷ xs) (y ∷ ys)

bit_of : (t : Term) (n i : ℕ) → sort_of t ≡ bv n → i < n → Bit (node (BvBitOf i) (cons t nil))
unfolding fold guard depth
bit_of t n i s h = record { is_bool = rw (s, T_true (ltb i n) (lt→ltb i n h)); flat = refl }

select_both : (x y : Term) (n i k : ℕ) → sort_of x ≡ bv n → sort_of y ≡ bv n → i + k ≤ n → Both k (select x i k) (select y i k)
unfolding select
select_both x y n i zero s r h = end
select_both x y n i (suc k) s r h =
    next (bit_of x n i s (omega arith)) (bit_of y n i r (omega arith)) (select_both x y n (suc i) k s r (omega arith))

selected : (t : Term) (n : ℕ) → NoBbTerm t n → get_term_bits t ≡ select t 0 n
selected (node o ts) n a = not_bb o ts n a.wide (off (eqb (kind o) 31) refl)
  where
    off : (b : Bool) → eqb (kind o) 31 ≡ b → eqb (kind o) 31 ≡ false
    off true e = absurd (a.no_bb ts (ap (λ (p : Op). node p ts) (is_bb o (subst T (sym e) tt))))
    off false e = e

both_of : (x y : Term) (n : ℕ) → NoBbTerm x n → NoBbTerm y n → Both n (get_term_bits x) (get_term_bits y)
both_of x y n a b = rw (selected x n a, selected y n b) (select_both x y n 0 n a.wide b.wide (omega arith))

-- no width is 0
width_suc : (x : Term) (n : ℕ) → sort_of x ≡ bv n → 1 ≤ n
width_suc x n s = leb→le 1 n (and_l (leb 1 n) (leb n 64) (subst (λ (z : Sort). T (sized z)) s (sorts_sized x)))

-- ---- the gates
constants : (depth (node True nil) ≡ 0) × (depth (node False nil) ≡ 0)
unfolding depth
constants = (refl, refl)

not_depth : (x : Term) → depth (node Not (cons x nil)) ≡ suc (depth x)
unfolding depth
not_depth x = omega arith

and_depth : (x y : Term) → depth (two And x y) ≡ suc (max (depth x) (depth y))
unfolding depth
and_depth x y = omega arith

or_depth : (x y : Term) → depth (two Or x y) ≡ suc (max (depth x) (depth y))
unfolding depth
or_depth x y = omega arith

xor_depth : (x y : Term) → depth (two Xor x y) ≡ suc (max (depth x) (depth y))
unfolding depth
xor_depth x y = omega arith

equals_depth : (x y : Term) → sort_of x ≡ bool → depth (two Equals x y) ≡ suc (max (depth x) (depth y))
unfolding depth fold
equals_depth x y s = rw s (omega arith)

-- ---- ult, slt: each bit adds 2
less_depth : (x y r : Term) → Bit x → Bit y → 1 ≤ depth r → depth (less_step term_gates x y r) ≡ depth r + 2
less_depth x y r a b h =
    let u = a.flat in
    let v = b.flat in
    omega (
      arith,
      or_depth (two And (two Equals x y) r) (two And (node Not (cons x nil)) y),
      and_depth (two Equals x y) r,
      equals_depth x y a.is_bool,
      and_depth (node Not (cons x nil)) y,
      not_depth x,
    )

sign_depth : (x y r : Term) → Bit x → Bit y → 1 ≤ depth r → depth (sign_step term_gates x y r) ≡ depth r + 2
sign_depth x y r a b h =
    let u = a.flat in
    let v = b.flat in
    omega (
      arith,
      or_depth (two And (two Equals x y) r) (two And x (node Not (cons y nil))),
      and_depth (two Equals x y) r,
      equals_depth x y a.is_bool,
      and_depth x (node Not (cons y nil)),
      not_depth y,
    )

first_depth : (x y : Term) → Bit x → Bit y → depth (two And (node Not (cons x nil)) y) ≡ 2
first_depth x y a b = let u = a.flat in let v = b.flat in omega (arith, and_depth (node Not (cons x nil)) y, not_depth x)

ult_from_depth : {n : ℕ} {xs ys : List Term} (r : Term) → Both n xs ys → 1 ≤ depth r → depth (ult_from term_gates r xs ys) ≡ depth r + 2 * n
unfolding ult_from
ult_from_depth r end h = omega arith
ult_from_depth r (next {x = x} {y = y} a b p) h =
    let l = less_depth x y r a b h in
    omega (arith, ult_from_depth (less_step term_gates x y r) p (omega arith))

ult_depth : {n : ℕ} {xs ys : List Term} → Both n xs ys → depth (bitblast_ult term_gates xs ys) ≡ 2 * n
unfolding bitblast_ult
ult_depth end = constants.1
ult_depth (next {x = x} {y = y} a b p) =
    let f = first_depth x y a b in
    omega (arith, ult_from_depth (two And (node Not (cons x nil)) y) p (omega arith))

slt_from_depth : {n : ℕ} {xs ys : List Term} (r : Term) → Both n xs ys → 1 ≤ depth r → depth (slt_from term_gates r xs ys) ≡ depth r + 2 * n
unfolding slt_from
slt_from_depth r end h = omega arith
slt_from_depth r (next {x = x} {y = y} a b end) h = sign_depth x y r a b h
slt_from_depth r (next {x = x} {y = y} a b (next c d p)) h =
    let l = less_depth x y r a b h in
    omega (arith, slt_from_depth (less_step term_gates x y r) (next c d p) (omega arith))

slt_depth : {n : ℕ} {xs ys : List Term} → Both n xs ys → depth (slt term_gates xs ys) ≡ 2 * n
unfolding slt
slt_depth end = constants.1
slt_depth (next {x = x} {y = y} a b end) =
    let u = a.flat in let v = b.flat in omega (arith, and_depth x (node Not (cons y nil)), not_depth y)
slt_depth (next {x = x} {y = y} a b (next c d p)) =
    let f = first_depth x y a b in
    omega (arith, slt_from_depth (two And (node Not (cons x nil)) y) (next c d p) (omega arith))

-- ---- the adder, on pairs of bits the deeper of which has depth e
data Level (e : ℕ) : ℕ → List Term → List Term → Type 0 where
  none : Level e 0 [] []
  more : {n : ℕ} {x y : Term} {xs ys : List Term} → max (depth x) (depth y) ≡ e → Level e n xs ys → Level e (suc n) (x ∷ xs) (y ∷ ys)

module _ (e : ℕ) (x y c : Term) (h : max (depth x) (depth y) ≡ e) where
  sum_depth : depth (sum_bit term_gates x y c) ≡ suc (max (suc e) (depth c))
  sum_depth = omega (arith, xor_depth (two Xor x y) c, xor_depth x y)

  carry_depth : depth (next_carry term_gates x y c) ≡ max (suc e) (depth c) + 2
  carry_depth = omega (arith, or_depth (two And x y) (two And (two Xor x y) c), and_depth x y, and_depth (two Xor x y) c, xor_depth x y)

above : (a b : ℕ) → a ≤ max a b
above a b = omega arith

-- the first sum bit is one deeper than the deepest of its inputs, each further one 2 more
adder_depth : (e : ℕ) {n : ℕ} {xs ys : List Term} (c : Term) → Level e (suc n) xs ys
    → deepest (from_list (ripple_carry_adder term_gates c xs ys)) ≡ suc (max (suc e) (depth c)) + 2 * n
unfolding ripple_carry_adder depth
adder_depth e c (more {x = x} {y = y} h none) = joined _ _ (sum_depth e x y c h)
  where
    joined : (u m : ℕ) → u ≡ m → max u 0 ≡ m + 2 * 0
    joined u m s = omega arith
adder_depth e c (more {x = x} {y = y} h (more {n = n} {x = x'} {y = y'} {xs = xs} {ys = ys} k p)) =
    let s = sum_depth e x y c h in
    let w = carry_depth e x y c h in
    let t = adder_depth e {xs = x' ∷ xs} {ys = y' ∷ ys} (next_carry term_gates x y c) (more k p) in
    joined _ _ (depth (next_carry term_gates x y c)) (max (suc e) (depth c)) n s w t (above (suc e) (depth c))
  where
    joined : (u v d m n : ℕ) → u ≡ suc m → d ≡ m + 2 → v ≡ suc (max (suc e) d) + 2 * n → suc e ≤ m → max u v ≡ suc m + 2 * suc n
    joined u v d m n s w t l = omega arith

bb_depth : (ts : List Term) → depth (bb ts) ≡ deepest (from_list ts)
unfolding depth
bb_depth ts = refl

add_level : {n : ℕ} {xs ys : List Term} → Both n xs ys → Level 0 n xs ys
add_level end = none
add_level (next {x = x} {y = y} a b p) = let u = a.flat in let v = b.flat in more {x = x} {y = y} (omega arith) (add_level p)

neg_level : {n : ℕ} {xs ys : List Term} → Both n xs ys → Level 1 n (map term_gates.not_gate xs) (map (λ (x : Term). term_gates.false_gate) xs)
neg_level end = none
neg_level (next {x = x} a b p) =
    let u = a.flat in more {x = node Not (cons x nil)} {y = node False nil} (omega (arith, not_depth x, constants.1)) (neg_level p)

add_depth : {n : ℕ} {xs ys : List Term} → 1 ≤ n → Both n xs ys → depth (bb (ripple_carry_adder term_gates (node False nil) xs ys)) ≡ 2 * n
add_depth l end = absurd (omega arith)
add_depth l (next {n = n} a b p) =
    let z = constants.1 in
    rw bb_depth (omega (arith, adder_depth 0 (node False nil) (add_level (next a b p))))

neg_depth : {n : ℕ} {xs ys : List Term} → 1 ≤ n → Both n xs ys → depth (bb (negate term_gates xs)) ≡ 2 * n + 1
neg_depth l end = absurd (omega arith)
neg_depth l (next {n = n} a b p) =
    let z = constants.0 in
    rw bb_depth (omega (arith, adder_depth 1 (node True nil) (neg_level (next a b p))))

-- ---- the rules
-- what each rule expects of such arguments has the depth
ult_exact : (x y r : Term) (n : ℕ) → NoBbTerm x n → NoBbTerm y n → on_sides by_ult (two BvULt x y) r ≡ held → depth r ≡ 2 * n
unfolding on_sides
ult_exact x y r n a b e =
    ap depth (sym (two_claim 49 BvULt (λ is. refl) (λ x y. bitblast_ult term_gates (get_term_bits x) (get_term_bits y)) x y r e)) ∙ ult_depth (both_of x y n a b)

slt_exact : (x y r : Term) (n : ℕ) → NoBbTerm x n → NoBbTerm y n → on_sides by_slt (two BvSLt x y) r ≡ held → depth r ≡ 2 * n
unfolding on_sides
slt_exact x y r n a b e =
    ap depth (sym (two_claim 50 BvSLt (λ is. refl) (λ x y. slt term_gates (get_term_bits x) (get_term_bits y)) x y r e)) ∙ slt_depth (both_of x y n a b)

add_exact : (x y r : Term) (n : ℕ) → NoBbTerm x n → NoBbTerm y n → on_sides by_add (two BvAdd x y) r ≡ held → depth r ≡ 2 * n
unfolding on_sides add_bits
add_exact x y r n a b e =
    ap depth (sym (many_claim 45 BvAdd (λ is. refl) (λ ts. bb (add_bits ts)) (cons x (cons y nil)) r e)) ∙ add_depth (width_suc x n a.wide) (both_of x y n a b)

neg_exact : (x r : Term) (n : ℕ) → NoBbTerm x n → on_sides by_neg (node BvNeg (cons x nil)) r ≡ held → depth r ≡ 2 * n + 1
unfolding on_sides
neg_exact x r n a e =
    ap depth (sym (one_claim 41 BvNeg (λ is. refl) (λ x. bb (negate term_gates (get_term_bits x))) x r e)) ∙ neg_depth (width_suc x n a.wide) (both_of x x n a a)

sides_exact : {rule : Rule} {l : Term} {d : ℕ} → HasDepth rule l d → (r : Term) → on_sides rule l r ≡ held → depth r ≡ d
sides_exact (rule_8 {x} {y} {n} a b) r e = ult_exact x y r n a b e
sides_exact (rule_9 {x} {y} {n} a b) r e = slt_exact x y r n a b e
sides_exact (rule_10 {x} {y} {n} a b) r e = add_exact x y r n a b e
sides_exact (rule_12 {x} {n} a) r e = neg_exact x r n a e

-- the answer's depth is the right side's
pub exact_depth : ExactDepth
exact_depth number rule left right d of e =
    let h = code_held (verdict rule (two Equals left right)) e in
    ap (λ (v : Verdict). cond (accepted v) (depth right) 0) h ∙ sides_exact of right (sides_of rule left right h)
