-- P11: the gates on bits of which part is known say what is true, and say no less where more is known.
use mathlib.Core.Path.{◌≡◌, refl, sym, ap, subst, subst₂, ◌∙◌}
use mathlib.Core.Bool.{Bool, true, false, ◌&&◌, ◌||◌, not, cond, beq}
use mathlib.Core.List.{List, [], ◌∷◌, map}
use Prim.Native.Nat.{ℕ, zero, suc, ◌+◌, ◌*◌, ◌/◌, ◌%◌, ◌^◌, ◌<◌}
use native.Mathlib.Nat.{div-one, div-div-eq-div-mul}
use native.Mathlib.Omega.{arith}
use lib.Dec.{eqb}
use lib.ListN.{length, get_or, take, drop}
use Rattle.theory.specs.Kind.{Op, True, False, Not, And, Or, Xor, Equals, Ite, BoolVar, BvVar, Const, BvBitOf, BvBbTerm, BvNot, BvNeg, BvAnd, BvOr, BvXor, BvAdd, BvMul, BvXNor, BvComp, BvULt, BvSLt, BvShl, BvLShr, BvAShr, BvUDiv, BvURem, BvConcat, BvExtract, SignExtend, ZeroExtend, RotateLeft, RotateRight, Repeat}
use Rattle.theory.specs.Term.{Term, Terms, node, nil, cons, fold, folds, same_term}
use Rattle.theory.specs.Value.{bit, to_number, bit_at, xor, all_true, any_true}
use Rattle.theory.specs.Record.{Bytes}
use Rattle.sweeps.specs.Variables.{bits_in}
use Rattle.sweeps.specs.Known.{Known, zero_bit, one_bit, unknown, of_byte, of_bool, lead, any_zero, any_one, all_zero, all_one, and_known, or_known, not_known, xor_known, equal_known, shared, ite_known, number_bits, argument, known_op, known, input_of}
use Rattle.sweeps.specs.Claim.{TrueOf, is_zero, is_one, any, AllTrue, none, more, Refines, filled, same, AllRefine, empty, also}

-- ---- And and Or: the first argument, and what the others come to
pub and_cons : (b : Known) (bs : List Known) → and_known (b ∷ bs) ≡ and_known (b ∷ and_known bs ∷ [])
unfolding and_known
and_cons zero_bit bs = refl
and_cons one_bit bs = go (any_zero bs) (all_one bs)
  where
    go : (z o : Bool) → cond z zero_bit (cond o one_bit unknown) ≡ and_known (one_bit ∷ cond z zero_bit (cond o one_bit unknown) ∷ [])
    go true o = refl
    go false true = refl
    go false false = refl
and_cons unknown bs = go (any_zero bs) (all_one bs)
  where
    go : (z o : Bool) → cond z zero_bit unknown ≡ and_known (unknown ∷ cond z zero_bit (cond o one_bit unknown) ∷ [])
    go true o = refl
    go false true = refl
    go false false = refl

pub or_cons : (b : Known) (bs : List Known) → or_known (b ∷ bs) ≡ or_known (b ∷ or_known bs ∷ [])
unfolding or_known
or_cons one_bit bs = refl
or_cons zero_bit bs = go (any_one bs) (all_zero bs)
  where
    go : (z o : Bool) → cond z one_bit (cond o zero_bit unknown) ≡ or_known (zero_bit ∷ cond z one_bit (cond o zero_bit unknown) ∷ [])
    go true o = refl
    go false true = refl
    go false false = refl
or_cons unknown bs = go (any_one bs) (all_zero bs)
  where
    go : (z o : Bool) → cond z one_bit unknown ≡ or_known (unknown ∷ cond z one_bit (cond o zero_bit unknown) ∷ [])
    go true o = refl
    go false true = refl
    go false false = refl

-- ---- what is said is true
and_two_true : {j k : Known} {a b : Bool} → TrueOf j a → TrueOf k b → TrueOf (and_known (j ∷ k ∷ [])) (a && b)
unfolding and_known
and_two_true is_zero q = is_zero
and_two_true is_one is_zero = is_zero
and_two_true is_one is_one = is_one
and_two_true is_one any = any
and_two_true (any {b = true}) is_zero = is_zero
and_two_true (any {b = false}) is_zero = is_zero
and_two_true any is_one = any
and_two_true any any = any

or_two_true : {j k : Known} {a b : Bool} → TrueOf j a → TrueOf k b → TrueOf (or_known (j ∷ k ∷ [])) (a || b)
unfolding or_known
or_two_true is_one q = is_one
or_two_true is_zero is_zero = is_zero
or_two_true is_zero is_one = is_one
or_two_true is_zero any = any
or_two_true (any {b = true}) is_one = is_one
or_two_true (any {b = false}) is_one = is_one
or_two_true any is_zero = any
or_two_true any any = any

pub and_true : {ks : List Known} {bs : List Bool} → AllTrue ks bs → TrueOf (and_known ks) (all_true bs)
unfolding and_known
and_true none = is_one
and_true (more {k = k} {b = b} {ks = ks} {bs = bs} p r) = subst (λ (z : Known). TrueOf z (b && all_true bs)) (sym (and_cons k ks)) (and_two_true p (and_true r))

pub or_true : {ks : List Known} {bs : List Bool} → AllTrue ks bs → TrueOf (or_known ks) (any_true bs)
unfolding or_known
or_true none = is_zero
or_true (more {k = k} {b = b} {ks = ks} {bs = bs} p r) = subst (λ (z : Known). TrueOf z (b || any_true bs)) (sym (or_cons k ks)) (or_two_true p (or_true r))

pub not_true : {k : Known} {b : Bool} → TrueOf k b → TrueOf (not_known k) (not b)
not_true is_zero = is_one
not_true is_one = is_zero
not_true any = any

pub xor_true : {j k : Known} {a b : Bool} → TrueOf j a → TrueOf k b → TrueOf (xor_known j k) (xor a b)
xor_true is_zero q = q
xor_true is_one q = not_true q
xor_true any q = any

beq_xor : (a b : Bool) → not (xor a b) ≡ beq a b
beq_xor true true = refl
beq_xor true false = refl
beq_xor false true = refl
beq_xor false false = refl

pub equal_true : {j k : Known} {a b : Bool} → TrueOf j a → TrueOf k b → TrueOf (equal_known j k) (beq a b)
equal_true {j} {k} {a} {b} p q = subst (λ (z : Bool). TrueOf (equal_known j k) z) (beq_xor a b) (not_true (xor_true p q))

shared_true : {j k : Known} (c : Bool) {a b : Bool} → TrueOf j a → TrueOf k b → TrueOf (shared j k) (cond c a b)
shared_true true is_zero is_zero = is_zero
shared_true false is_zero is_zero = is_zero
shared_true c is_zero is_one = any
shared_true c is_zero any = any
shared_true c is_one is_zero = any
shared_true true is_one is_one = is_one
shared_true false is_one is_one = is_one
shared_true c is_one any = any
shared_true c any q = any

pub ite_true : {i j k : Known} {c a b : Bool} → TrueOf i c → TrueOf j a → TrueOf k b → TrueOf (ite_known i j k) (cond c a b)
ite_true is_zero p q = q
ite_true is_one p q = p
ite_true (any {b = c}) p q = shared_true c p q

-- ---- numbers and lists
pub of_bools_true : (bs : List Bool) → AllTrue (map of_bool bs) bs
of_bools_true [] = none
of_bools_true (true ∷ bs) = more is_one (of_bools_true bs)
of_bools_true (false ∷ bs) = more is_zero (of_bools_true bs)

half_bit : (b : Bool) (m : ℕ) → (bit b + 2 * m) / 2 ≡ m
half_bit true m = omega arith
half_bit false m = omega arith

next_bit : (b : Bool) (m i : ℕ) → bit_at (suc i) (bit b + 2 * m) ≡ bit_at i m
next_bit b m i =
    let e : (bit b + 2 * m) / 2 ^ suc i ≡ m / 2 ^ i
    = ap (λ (z : ℕ). (bit b + 2 * m) / z) (let z : 2 ^ suc i ≡ 2 * 2 ^ i = omega arith in z)
    ∙ sym (div-div-eq-div-mul (bit b + 2 * m) 2 (2 ^ i)) ∙ ap (λ (z : ℕ). z / 2 ^ i) (half_bit b m) in
    ap (λ (z : ℕ). eqb (z % 2) 1) e

low_bit : (b : Bool) (m : ℕ) → bit_at 0 (bit b + 2 * m) ≡ b
low_bit b m = ap (λ (z : ℕ). eqb (z % 2) 1) (div-one (bit b + 2 * m)) ∙ go b
  where
    go : (b : Bool) → eqb ((bit b + 2 * m) % 2) 1 ≡ b
    go true = ap (λ (z : ℕ). eqb z 1) (let z : (1 + 2 * m) % 2 ≡ 1 = omega arith in z)
    go false = ap (λ (z : ℕ). eqb z 1) (let z : (0 + 2 * m) % 2 ≡ 0 = omega arith in z)

shift_bits : (b : Bool) (m i k : ℕ) → number_bits (bit b + 2 * m) (suc i) k ≡ number_bits m i k
shift_bits b m i zero = refl
shift_bits b m i (suc k) = λ j. next_bit b m i j ∷ shift_bits b m (suc i) k j

pub bits_back : (bs : List Bool) → number_bits (to_number bs) 0 (length bs) ≡ bs
bits_back [] = refl
bits_back (b ∷ bs) = λ j. low_bit b (to_number bs) j ∷ (shift_bits b (to_number bs) 0 (length bs) ∙ bits_back bs) j

-- bit i of a row
pub at_true : {ks : List Known} (x i n : ℕ) → AllTrue ks (number_bits x i n) → (k : ℕ) → k < n → TrueOf (get_or ks k unknown) (bit_at (i + k) x)
at_true x i zero r k h = absurd (omega arith)
at_true x i (suc n) (more {k = b} p r) zero h = subst (λ (z : ℕ). TrueOf b (bit_at z x)) (let z : i ≡ i + 0 = omega arith in z) p
at_true x i (suc n) (more {ks = ks} p r) (suc k) h =
    subst (λ (z : ℕ). TrueOf (get_or ks k unknown) (bit_at z x)) (let z : suc i + k ≡ i + suc k = omega arith in z) (at_true x (suc i) n r k (omega arith))

-- ---- more known says no less
pub refine_self : (ks : List Known) → AllRefine ks ks
refine_self [] = empty
refine_self (k ∷ ks) = also same (refine_self ks)

and_two_refines : {j k j' k' : Known} → Refines j j' → Refines k k' → Refines (and_known (j ∷ k ∷ [])) (and_known (j' ∷ k' ∷ []))
unfolding and_known
and_two_refines {k = zero_bit} {j' = zero_bit} filled same = same
and_two_refines {k = zero_bit} {j' = one_bit} filled same = same
and_two_refines {k = zero_bit} {j' = unknown} filled same = same
and_two_refines {k = one_bit} filled q = filled
and_two_refines {k = unknown} filled q = filled
and_two_refines {j = zero_bit} same q = same
and_two_refines {j = one_bit} same filled = filled
and_two_refines {j = one_bit} same same = same
and_two_refines {j = unknown} {k = zero_bit} same same = same
and_two_refines {j = unknown} {k = one_bit} same q = filled
and_two_refines {j = unknown} {k = unknown} same q = filled

or_two_refines : {j k j' k' : Known} → Refines j j' → Refines k k' → Refines (or_known (j ∷ k ∷ [])) (or_known (j' ∷ k' ∷ []))
unfolding or_known
or_two_refines {k = one_bit} {j' = one_bit} filled same = same
or_two_refines {k = one_bit} {j' = zero_bit} filled same = same
or_two_refines {k = one_bit} {j' = unknown} filled same = same
or_two_refines {k = zero_bit} filled q = filled
or_two_refines {k = unknown} filled q = filled
or_two_refines {j = one_bit} same q = same
or_two_refines {j = zero_bit} same filled = filled
or_two_refines {j = zero_bit} same same = same
or_two_refines {j = unknown} {k = one_bit} same same = same
or_two_refines {j = unknown} {k = zero_bit} same q = filled
or_two_refines {j = unknown} {k = unknown} same q = filled

and_refines : {js ks : List Known} → AllRefine js ks → Refines (and_known js) (and_known ks)
and_refines empty = same
and_refines (also {j} {k} {js} {ks} p r) = subst₂ Refines (sym (and_cons j js)) (sym (and_cons k ks)) (and_two_refines p (and_refines r))

or_refines : {js ks : List Known} → AllRefine js ks → Refines (or_known js) (or_known ks)
or_refines empty = same
or_refines (also {j} {k} {js} {ks} p r) = subst₂ Refines (sym (or_cons j js)) (sym (or_cons k ks)) (or_two_refines p (or_refines r))

not_refines : {j k : Known} → Refines j k → Refines (not_known j) (not_known k)
not_refines filled = filled
not_refines same = same

xor_refines : {j k j' k' : Known} → Refines j j' → Refines k k' → Refines (xor_known j k) (xor_known j' k')
xor_refines filled q = filled
xor_refines {j = zero_bit} same q = q
xor_refines {j = one_bit} same q = not_refines q
xor_refines {j = unknown} same q = filled

shared_refines : {j k j' k' : Known} → Refines j j' → Refines k k' → Refines (shared j k) (shared j' k')
shared_refines filled q = filled
shared_refines {j = zero_bit} {k = zero_bit} same same = same
shared_refines {j = zero_bit} {k = one_bit} same q = filled
shared_refines {j = zero_bit} {k = unknown} same q = filled
shared_refines {j = one_bit} {k = zero_bit} same q = filled
shared_refines {j = one_bit} {k = one_bit} same same = same
shared_refines {j = one_bit} {k = unknown} same q = filled
shared_refines {j = unknown} same q = filled

-- what both branches share is what each of them has
shared_left : (j k : Known) → Refines (shared j k) j
shared_left zero_bit zero_bit = same
shared_left zero_bit one_bit = filled
shared_left zero_bit unknown = filled
shared_left one_bit zero_bit = filled
shared_left one_bit one_bit = same
shared_left one_bit unknown = filled
shared_left unknown k = filled

shared_right : (j k : Known) → Refines (shared j k) k
shared_right zero_bit zero_bit = same
shared_right zero_bit one_bit = filled
shared_right zero_bit unknown = filled
shared_right one_bit zero_bit = filled
shared_right one_bit one_bit = same
shared_right one_bit unknown = filled
shared_right unknown k = filled

refines_trans : {i j k : Known} → Refines i j → Refines j k → Refines i k
refines_trans filled q = filled
refines_trans same q = q

ite_refines : {i j k i' j' k' : Known} → Refines i i' → Refines j j' → Refines k k' → Refines (ite_known i j k) (ite_known i' j' k')
ite_refines {j = j} {k = k} {i' = zero_bit} filled p q = refines_trans (shared_right j k) q
ite_refines {j = j} {k = k} {i' = one_bit} filled p q = refines_trans (shared_left j k) p
ite_refines {i' = unknown} filled p q = shared_refines p q
ite_refines {i = zero_bit} same p q = q
ite_refines {i = one_bit} same p q = p
ite_refines {i = unknown} same p q = shared_refines p q

-- ---- of the arguments of a term
data Args : List (List Known) → List (List Known) → Type 0 where
  no_args : Args [] []
  arg_more : {js ks : List Known} {jss kss : List (List Known)} → AllRefine js ks → Args jss kss → Args (js ∷ jss) (ks ∷ kss)

argument_refines : {jss kss : List (List Known)} → Args jss kss → (i : ℕ) → AllRefine (argument i jss) (argument i kss)
argument_refines no_args i = empty
argument_refines (arg_more p r) zero = p
argument_refines (arg_more p r) (suc i) = argument_refines r i

lead_refines : {js ks : List Known} → AllRefine js ks → Refines (lead js) (lead ks)
lead_refines empty = same
lead_refines (also p r) = p

leads_refine : {jss kss : List (List Known)} → Args jss kss → AllRefine (map lead jss) (map lead kss)
leads_refine no_args = empty
leads_refine (arg_more p r) = also (lead_refines p) (leads_refine r)

bit_refines : {js ks : List Known} → AllRefine js ks → (i : ℕ) → Refines (get_or js i unknown) (get_or ks i unknown)
bit_refines empty i = same
bit_refines (also p r) zero = p
bit_refines (also p r) (suc i) = bit_refines r i

module _ (f g : Term → List Known) (inputs : (u : Term) → AllRefine (f u) (g u)) where
  op_refines : (o : Op) {jss kss : List (List Known)} → Args jss kss → AllRefine (known_op f o jss) (known_op g o kss)
  unfolding known_op
  op_refines True r = also same empty
  op_refines False r = also same empty
  op_refines (BoolVar x) r = inputs (node (BoolVar x) nil)
  op_refines (BvVar n x) r = inputs (node (BvVar n x) nil)
  op_refines (Const n x) r = refine_self (map of_bool (number_bits x 0 n))
  op_refines Not r = also (not_refines (lead_refines (argument_refines r 0))) empty
  op_refines And r = also (and_refines (leads_refine r)) empty
  op_refines Or r = also (or_refines (leads_refine r)) empty
  op_refines Xor r = also (xor_refines (lead_refines (argument_refines r 0)) (lead_refines (argument_refines r 1))) empty
  op_refines Equals r = also (not_refines (xor_refines (lead_refines (argument_refines r 0)) (lead_refines (argument_refines r 1)))) empty
  op_refines Ite r =
      also (ite_refines (lead_refines (argument_refines r 0)) (lead_refines (argument_refines r 1)) (lead_refines (argument_refines r 2))) empty
  op_refines (BvBitOf i) r = also (bit_refines (argument_refines r 0) i) empty
  op_refines BvBbTerm r = leads_refine r
  op_refines BvNot r = empty
  op_refines BvNeg r = empty
  op_refines BvAnd r = empty
  op_refines BvOr r = empty
  op_refines BvXor r = empty
  op_refines BvAdd r = empty
  op_refines BvMul r = empty
  op_refines BvXNor r = empty
  op_refines BvComp r = empty
  op_refines BvULt r = empty
  op_refines BvSLt r = empty
  op_refines BvShl r = empty
  op_refines BvLShr r = empty
  op_refines BvAShr r = empty
  op_refines BvUDiv r = empty
  op_refines BvURem r = empty
  op_refines BvConcat r = empty
  op_refines (BvExtract i j) r = empty
  op_refines (SignExtend k) r = empty
  op_refines (ZeroExtend k) r = empty
  op_refines (RotateLeft k) r = empty
  op_refines (RotateRight k) r = empty
  op_refines (Repeat k) r = empty

  mutual
    unfolding fold

    pub known_refines : (t : Term) → AllRefine (known f t) (known g t)
    known_refines (node o ts) = op_refines o (all_refine ts)

    all_refine : (ts : Terms) → Args (folds (known_op f) ts) (folds (known_op g) ts)
    all_refine nil = no_args
    all_refine (cons t ts) = arg_more (known_refines t) (all_refine ts)

-- ---- the inputs by their bytes
take_refines : (n : ℕ) (bs cs : Bytes) → AllRefine (map of_byte bs) (map of_byte cs) → AllRefine (map of_byte (take n bs)) (map of_byte (take n cs))
take_refines zero bs cs r = empty
take_refines (suc n) [] [] r = empty
take_refines (suc n) (b ∷ bs) (c ∷ cs) (also p r) = also p (take_refines n bs cs r)
take_refines (suc n) [] (c ∷ cs) r = elim r [ ]
take_refines (suc n) (b ∷ bs) [] r = elim r [ ]

drop_refines : (n : ℕ) (bs cs : Bytes) → AllRefine (map of_byte bs) (map of_byte cs) → AllRefine (map of_byte (drop n bs)) (map of_byte (drop n cs))
drop_refines zero bs cs r = r
drop_refines (suc n) [] [] r = empty
drop_refines (suc n) (b ∷ bs) (c ∷ cs) (also p r) = drop_refines n bs cs r
drop_refines (suc n) [] (c ∷ cs) r = elim r [ ]
drop_refines (suc n) (b ∷ bs) [] r = elim r [ ]

input_refines : (vs : List Term) (bs cs : Bytes) → AllRefine (map of_byte bs) (map of_byte cs) → (u : Term) → AllRefine (input_of vs bs u) (input_of vs cs u)
input_refines [] bs cs r u = empty
input_refines (v ∷ vs) bs cs r u = go (same_term u v) (input_refines vs (drop (bits_in v) bs) (drop (bits_in v) cs) (drop_refines (bits_in v) bs cs r) u)
  where
    go : (b : Bool) → AllRefine (input_of vs (drop (bits_in v) bs) u) (input_of vs (drop (bits_in v) cs) u)
        → AllRefine (cond b (map of_byte (take (bits_in v) bs)) (input_of vs (drop (bits_in v) bs) u)) (cond b (map of_byte (take (bits_in v) cs)) (input_of vs (drop (bits_in v) cs) u))
    go true h = take_refines (bits_in v) bs cs r
    go false h = h

-- inputs that say more
pub inputs_refine : (vs : List Term) (t : Term) (bs cs : Bytes) → AllRefine (map of_byte bs) (map of_byte cs) → AllRefine (known (input_of vs bs) t) (known (input_of vs cs) t)
inputs_refine vs t bs cs r = known_refines (input_of vs bs) (input_of vs cs) (input_refines vs bs cs r) t
