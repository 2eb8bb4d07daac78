-- P11: what is said of a term's bits is true under every assignment that fits.
use mathlib.Core.Path.{◌≡◌, refl, sym, ap, subst, subst₂, ◌∙◌}
use mathlib.Core.Bool.{Bool, false, ◌&&◌, cond}
use mathlib.Core.List.{List, [], ◌∷◌, map}
use Rattle.std.specs.Prelude.{Option, None as none, Some as some}
use Prim.Native.Nat.{ℕ, zero, suc}
use native.Mathlib.Nat.{zero-add}
use native.Mathlib.Omega.{arith}
use lib.Dec.{T, ltb, ltb→lt, eqb→eq}
use lib.Ieee.Fits.{and_l, and_r}
use lib.ListN.{length, get_or, length-map}
use Rattle.theory.specs.Kind.{Op, True, False, Not, And, Or, Xor, Equals, Ite, BoolVar, BvVar, Const, BvBitOf, BvBbTerm, exactly, takes}
use Rattle.theory.specs.Term.{Term, Terms, node, nil, cons, fold, folds}
use Rattle.theory.specs.Sort.{Sort, bad, bool, bv, same_sort, all_are, is_bv_sort, good, sort_width, first, sort_op, sort_of, sorts_of}
use Rattle.theory.specs.Value.{Assign, Val, truth, number, truth_of, number_of, arg, bit_at, same, to_number, meaning, value, values}
use Rattle.theory.specs.Optional.{either}
use Rattle.theory.specs.Record.{Bytes}
use Rattle.theory.specs.Plain.{Plain}
use Rattle.theory.specs.Codes.{first_fault}
use Rattle.theory.specs.Limit.{rack}
use Rattle.theory.specs.Job.{run}
use Rattle.theory.proofs.Basics.{taken as passed}
use Rattle.theory.proofs.Demand.{terms_are_sorted}
use Rattle.theory.proofs.Distinct.{plain_well}
use Rattle.theory.proofs.Run.{good_at}
use Rattle.theory.proofs.Sound.{Has, is_truth, is_number, Each, same_sort_eq, values_have}
use Rattle.theory.proofs.Sound as S
use Rattle.sweeps.specs.Variables.{is_variable, stands, stands_any, variables}
use Rattle.sweeps.specs.Known.{Known, zero_bit, one_bit, unknown, of_byte, known_byte, lead, known_op, known, argument, bit_kind, bit_level, all_bit_level, input_of, number_bits}
use Rattle.sweeps.specs.Calls.{final, asked, enough, derivable, known_tests, derived, known_bits}
use Rattle.sweeps.specs.Claim.{TrueOf, is_zero, is_one, any, AllTrue, more, value_bits, TrueBits, AllRefine, Monotone}
use Rattle.sweeps.specs.Claim as C
use Rattle.sweeps.proofs.Asking.{asked_place}
use Rattle.sweeps.proofs.Fitting.{counted, fitted, no_terms}
use Rattle.sweeps.proofs.Partial.{and_true, or_true, not_true, xor_true, equal_true, ite_true, of_bools_true, bits_back, at_true, inputs_refine}
use Rattle.sweeps.proofs.Standing.{stands_self, stands_in, stands_first, stands_rest}
use Rattle.sweeps.proofs.Placing.{placed, fits_input}

-- ---- sorts
abbrev Goods : List Sort → Type 0
Goods [] = Unit {0}
Goods (s ∷ ss) = T (good s) × Goods ss

bools_good : (ss : List Sort) → T (all_are bool ss) → Goods ss
bools_good [] h = tt
bools_good (s ∷ ss) h =
    (subst (λ (z : Sort). T (good z)) (same_sort_eq bool s (and_l (same_sort bool s) _ h)) tt, bools_good ss (and_r (same_sort bool s) _ h))

none_good : (ss : List Sort) → T (takes (exactly 0) (length ss)) → Goods ss
none_good [] h = tt
none_good (s ∷ ss) h = let e = eqb→eq (suc (length ss)) 0 h in absurd (omega arith)

bv_good : (s : Sort) → T (is_bv_sort s) → T (good s)
bv_good (bv n) h = tt
bv_good bad h = elim h [ ]
bv_good bool h = elim h [ ]

one_good : (ss : List Sort) → T (takes (exactly 1) (length ss)) → T (is_bv_sort (first ss)) → Goods ss
one_good [] h b = tt
one_good (s ∷ []) h b = (bv_good s b, tt)
one_good (s ∷ r ∷ ss) h b = let e = eqb→eq (suc (suc (length ss))) 1 h in absurd (omega arith)

-- an Equals that is a gate is one of Bools
bool_are : (s : Sort) (ss : List Sort) → T (same_sort s bool) → T (all_are s ss) → T (all_are bool ss)
bool_are bool ss e h = h
bool_are bad ss e h = elim e [ ]
bool_are (bv _) ss e h = elim e [ ]

equal_bools : (ss : List Sort) → T (good (sort_op Equals ss)) → T (bit_kind Equals (first ss)) → T (all_are bool ss)
equal_bools ss g k = bool_are (first ss) ss (gate (first ss) k) (and_r (good (first ss)) _ (fitted Equals ss g))
  where
    gate : (s : Sort) → T (bit_kind Equals s) → T (same_sort s bool)
    gate bad h = h
    gate bool h = tt
    gate (bv n) h = h

-- the arguments of a term that is bit-level have sorts
args_good : (o : Op) (ss : List Sort) → T (good (sort_op o ss)) → T (bit_kind o (first ss)) → Goods ss
args_good True ss g k = none_good ss (counted True ss g)
args_good False ss g k = none_good ss (counted False ss g)
args_good (BoolVar x) ss g k = none_good ss (counted (BoolVar x) ss g)
args_good (BvVar n x) ss g k = none_good ss (counted (BvVar n x) ss g)
args_good (Const n x) ss g k = none_good ss (counted (Const n x) ss g)
args_good Not ss g k = bools_good ss (fitted Not ss g)
args_good And ss g k = bools_good ss (fitted And ss g)
args_good Or ss g k = bools_good ss (fitted Or ss g)
args_good Xor ss g k = bools_good ss (fitted Xor ss g)
args_good Equals ss g k = bools_good ss (equal_bools ss g k)
args_good Ite ss g k = bools_good ss (fitted Ite ss g)
args_good (BvBitOf i) ss g k = one_good ss (counted (BvBitOf i) ss g) (and_l (is_bv_sort (first ss)) _ (fitted (BvBitOf i) ss g))
args_good BvBbTerm ss g k = bools_good ss (fitted BvBbTerm ss g)
args_good _ ss g k = elim k [ ]

-- ---- the arguments: what is said of each is true
data ArgsTrue : List (List Known) → List Val → Type 0 where
  no_args : ArgsTrue [] []
  arg_more : {ks : List Known} {v : Val} {kss : List (List Known)} {vs : List Val} → AllTrue ks (value_bits v) → ArgsTrue kss vs → ArgsTrue (ks ∷ kss) (v ∷ vs)

bool_true : {ks : List Known} (v : Val) {s : Sort} → AllTrue ks (value_bits v) → Has v s → T (same_sort bool s) → TrueOf (lead ks) (truth_of v)
bool_true (truth b) (more p r) h e = p
bool_true (number n x) r (is_number h) e = absurd e
bool_true (number n x) r S.any e = absurd e

leads_true : {kss : List (List Known)} {vs : List Val} {ss : List Sort} → ArgsTrue kss vs → Each vs ss → T (all_are bool ss) → AllTrue (map lead kss) (map truth_of vs)
leads_true no_args S.none a = C.none
leads_true (arg_more {v = v} p r) (S.more {s = s} h q) a = more (bool_true v p h (and_l (same_sort bool s) _ a)) (leads_true r q (and_r (same_sort bool s) _ a))

lead_true : {kss : List (List Known)} {vs : List Val} {ss : List Sort} → ArgsTrue kss vs → Each vs ss → T (all_are bool ss) → (i : ℕ)
    → TrueOf (lead (argument i kss)) (truth_of (arg i vs))
lead_true no_args S.none a i = any
lead_true (arg_more {v = v} p r) (S.more {s = s} h q) a zero = bool_true v p h (and_l (same_sort bool s) _ a)
lead_true (arg_more {v = v} p r) (S.more {s = s} h q) a (suc i) = lead_true r q (and_r (same_sort bool s) _ a) i

-- Equals of two Bools
truths_same : (u v : Val) {r s : Sort} → Has u r → Has v s → T (same_sort bool r) → T (same_sort bool s) → same u v ≡ same (truth (truth_of u)) (truth (truth_of v))
truths_same (truth a) (truth b) h k e f = refl
truths_same (truth a) (number n y) h (is_number k) e f = absurd f
truths_same (truth a) (number n y) h S.any e f = absurd f
truths_same (number m x) v (is_number h) k e f = absurd e
truths_same (number m x) v S.any k e f = absurd e

same_args : {vs : List Val} {ss : List Sort} → Each vs ss → T (all_are bool ss) → same (arg 0 vs) (arg 1 vs) ≡ same (truth (truth_of (arg 0 vs))) (truth (truth_of (arg 1 vs)))
same_args S.none a = refl
same_args (S.more {v = u} {s = s} h S.none) a = truths_same u (truth false) h is_truth (and_l (same_sort bool s) _ a) tt
same_args (S.more {v = u} {s = s} h (S.more {v = v} {s = r} k q)) a =
    truths_same u v h k (and_l (same_sort bool s) _ a) (and_l (same_sort bool r) _ (and_r (same_sort bool s) _ a))

-- bit i of the first argument
bit_true : {kss : List (List Known)} {vs : List Val} {ss : List Sort} → ArgsTrue kss vs → Each vs ss → (i : ℕ)
    → T (is_bv_sort (first ss) && ltb i (sort_width (first ss))) → TrueOf (get_or (argument 0 kss) i unknown) (bit_at i (number_of (arg 0 vs)))
bit_true no_args S.none i h = any
bit_true (arg_more {ks = ks} p r) (S.more (is_number {n} {x} k) q) i h =
    subst (λ (z : ℕ). TrueOf (get_or ks i unknown) (bit_at z x)) (zero-add i) (at_true x 0 n p i (ltb→lt i n h))
bit_true (arg_more p r) (S.more is_truth q) i h = absurd h
bit_true (arg_more p r) (S.more S.any q) i h = absurd h

-- ---- a term, from its arguments
module _ (ρ : Assign) (input : Term → List Known) where
  -- what is said of the variables that stand in t is true
  abbrev pub InputsTrue : Term → Type 0
  InputsTrue t = (u : Term) → T (is_variable u) → T (stands u t) → AllTrue (input u) (value_bits (value ρ u))

  variable_true : (o : Op) (ts : Terms) → T (takes (exactly 0) (length (sorts_of ts))) → T (is_variable (node o nil)) → InputsTrue (node o ts)
      → AllTrue (input (node o nil)) (value_bits (value ρ (node o nil)))
  variable_true o ts c v f =
      f (node o nil) v (subst (λ (us : Terms). T (stands (node o nil) (node o us))) (sym (no_terms ts c)) (stands_self (node o nil)))

  op_true : (o : Op) (ts : Terms) → T (good (sort_op o (sorts_of ts))) → T (bit_kind o (first (sorts_of ts))) → InputsTrue (node o ts)
      → ArgsTrue (folds (known_op input) ts) (values ρ ts) → AllTrue (known_op input o (folds (known_op input) ts)) (value_bits (meaning ρ o (values ρ ts)))
  unfolding known_op meaning fold
  op_true True ts g k f r = more is_one C.none
  op_true False ts g k f r = more is_zero C.none
  op_true (BoolVar x) ts g k f r = variable_true (BoolVar x) ts (counted (BoolVar x) (sorts_of ts) g) tt f
  op_true (BvVar n x) ts g k f r = variable_true (BvVar n x) ts (counted (BvVar n x) (sorts_of ts) g) tt f
  op_true (Const n x) ts g k f r = of_bools_true _
  op_true Not ts g k f r = more (not_true (lead_true r (values_have ρ ts) (fitted Not (sorts_of ts) g) 0)) C.none
  op_true And ts g k f r = more (and_true (leads_true r (values_have ρ ts) (fitted And (sorts_of ts) g))) C.none
  op_true Or ts g k f r = more (or_true (leads_true r (values_have ρ ts) (fitted Or (sorts_of ts) g))) C.none
  op_true Xor ts g k f r =
      let l = lead_true r (values_have ρ ts) (fitted Xor (sorts_of ts) g) in more (xor_true (l 0) (l 1)) C.none
  op_true Equals ts g k f r =
      let b = equal_bools (sorts_of ts) g k in
      let l = lead_true r (values_have ρ ts) b in
      subst (λ (z : Bool). AllTrue (known_op input Equals (folds (known_op input) ts)) (z ∷ [])) (sym (same_args (values_have ρ ts) b)) (more (equal_true (l 0) (l 1)) C.none)
  op_true Ite ts g k f r =
      let l = lead_true r (values_have ρ ts) (fitted Ite (sorts_of ts) g) in more (ite_true (l 0) (l 1) (l 2)) C.none
  op_true (BvBitOf i) ts g k f r = more (bit_true r (values_have ρ ts) i (fitted (BvBitOf i) (sorts_of ts) g)) C.none
  op_true BvBbTerm ts g k f r =
      subst (λ (bs : List Bool). AllTrue (map lead (folds (known_op input) ts)) bs)
      (sym (subst (λ (n : ℕ). number_bits (to_number (map truth_of (values ρ ts))) 0 n ≡ map truth_of (values ρ ts)) (length-map (values ρ ts) truth_of) (bits_back (map truth_of (values ρ ts)))))
      (leads_true r (values_have ρ ts) (fitted BvBbTerm (sorts_of ts) g))
  op_true _ ts g k f r = elim k [ ]

  mutual
    unfolding fold bit_level

    -- a term that is bit-level
    pub known_true : (t : Term) → T (good (sort_of t)) → T (bit_level t) → InputsTrue t → AllTrue (known input t) (value_bits (value ρ t))
    known_true (node o ts) g h f =
        let k = and_l (bit_kind o (first (sorts_of ts))) (all_bit_level ts) h in
        op_true o ts g k f
        (args_true ts (args_good o (sorts_of ts) g k) (and_r (bit_kind o (first (sorts_of ts))) (all_bit_level ts) h) (λ u v s. f u v (stands_in u o ts s)))

    args_true : (ts : Terms) → Goods (sorts_of ts) → T (all_bit_level ts) → ((u : Term) → T (is_variable u) → T (stands_any u ts) → AllTrue (input u) (value_bits (value ρ u)))
        → ArgsTrue (folds (known_op input) ts) (values ρ ts)
    args_true nil g h f = no_args
    args_true (cons t ts) g h f =
        arg_more (known_true t g.0 (and_l (bit_level t) (all_bit_level ts) h) (λ u v s. f u v (stands_first u t ts s)))
        (args_true ts g.1 (and_r (bit_level t) (all_bit_level ts) h) (λ u v s. f u v (stands_rest u t ts s)))

-- ---- the call
codes_back : (ks : List Known) → map of_byte (map known_byte ks) ≡ ks
codes_back [] = refl
codes_back (zero_bit ∷ ks) = ap (λ (r : List Known). zero_bit ∷ r) (codes_back ks)
codes_back (one_bit ∷ ks) = ap (λ (r : List Known). one_bit ∷ r) (codes_back ks)
codes_back (unknown ∷ ks) = ap (λ (r : List Known). unknown ∷ r) (codes_back ks)

-- an accepted call: its bytes are the term's bits, and its last test has passed
derived_is : (list : Plain) (t : Term) (inputs : Bytes) (code : ℕ) → (derived list (some t) inputs code).code ≡ 0
    → (code ≡ 0) × ((derived list (some t) inputs code).bytes ≡ map known_byte (known (input_of (variables list t) inputs) t))
derived_is list t inputs zero e = (refl, refl)
derived_is list t inputs (suc code) e = absurd (omega arith)

known_passed : (list : Plain) (t : Term) (values : ℕ) (inputs : Bytes) (output : ℕ) → first_fault (known_tests list (some t) values inputs output) ≡ 0 → T (bit_level t)
known_passed list t values inputs output e =
    let a = passed (enough list values) 20 (cond (derivable list t inputs output) 0 23) e in
    let b = passed (derivable list t inputs output) 22 0 a.1 in
    and_l (bit_level t) _ b.0

pub true_bits : TrueBits
unfolding known_bits
true_bits job bytes work space lent place inputs output t e c ρ f =
    let list = final job work space in
    let p = asked_place job work space place t e in
    let e' = sym e in
    let c' : (derived list (some t) inputs (first_fault (known_tests list (some t) lent inputs output))).code ≡ 0
    = subst (λ (q : Option Term). (derived list q inputs (first_fault (known_tests list q lent inputs output))).code ≡ 0) e c in
    let d = derived_is list t inputs (first_fault (known_tests list (some t) lent inputs output)) c' in
    subst (λ (q : Option Term). AllTrue (map of_byte (derived list q inputs (first_fault (known_tests list q lent inputs output))).bytes) (value_bits (value ρ t))) e'
    (subst (λ (bs : Bytes). AllTrue (map of_byte bs) (value_bits (value ρ t))) (sym d.1)
    (subst (λ (ks : List Known). AllTrue ks (value_bits (value ρ t))) (sym (codes_back (known (input_of (variables list t) inputs) t)))
    (known_true ρ (input_of (variables list t) inputs) t
    (subst (λ (x : Term). T (good (sort_of x))) p.is (good_at list place (terms_are_sorted rack job work space) p.low))
    (known_passed list t lent inputs output d.0)
    (λ u v s.
    let q = placed list (plain_well rack job bytes work space (run rack job work space).records (omega arith)) (λ j. Unit {0}) (λ i h l z j m. tt) place p.low tt u
    (subst (λ (x : Term). T (stands u x)) (sym p.is) s) in
    fits_input list t u q.place (omega (arith, q.low, p.low)) q.is v s inputs ρ f))))

-- ---- more is known
-- the bytes of an accepted call are the term's bits
accepted_bytes : (list : Plain) (q : Option Term) (inputs : Bytes) (code : ℕ) → (derived list q inputs code).code ≡ 0 → map of_byte (derived list q inputs code).bytes ≡ either [] (λ t. known (input_of (variables list t) inputs) t) q
accepted_bytes list none inputs code e = refl
accepted_bytes list (some t) inputs code e =
    let d = derived_is list t inputs code e in
    ap (map of_byte) d.1 ∙ codes_back (known (input_of (variables list t) inputs) t)

asked_refines : (list : Plain) (q : Option Term) (fewer further : Bytes) → AllRefine (map of_byte fewer) (map of_byte further)
    → AllRefine (either [] (λ t. known (input_of (variables list t) fewer) t) q) (either [] (λ t. known (input_of (variables list t) further) t) q)
asked_refines list none fewer further r = C.empty
asked_refines list (some t) fewer further r = inputs_refine (variables list t) t fewer further r

pub monotone : Monotone
unfolding known_bits
monotone job work space lent place fewer further output c d r =
    let list = final job work space in
    let q = asked job work space place in
    subst₂ AllRefine (sym (accepted_bytes list q fewer _ c)) (sym (accepted_bytes list q further _ d)) (asked_refines list q fewer further r)
