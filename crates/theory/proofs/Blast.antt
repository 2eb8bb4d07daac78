-- Circuits over terms have the values of the operations that they stand for.
use mathlib.Core.Path.{◌≡◌, refl, sym, ap, ap₂, ◌∙◌, subst}
use mathlib.Core.Bool.{Bool, true, false, ◌&&◌, ◌||◌, cond}
use mathlib.Core.List.{List, [], ◌∷◌, map}
use Prim.Native.Nat.{ℕ, zero, suc, ◌+◌, ◌*◌, ◌/◌, ◌%◌, ◌^◌, ◌<◌}
use native.Mathlib.Nat.{pow-suc, div-one, mod-eq_of_lt, mod-one, div-div-eq-div-mul}
use native.Mathlib.Omega.{arith}
use lib.Arith.{mod-mul}
use lib.Dec.{T, eqb}
use lib.Ieee.Fits.{and_r}
use lib.ListN.{length, length-map}
use lib.Pow.{pow_pos}
use Rattle.theory.specs.Kind.{kind, Op, And, BvBbTerm, many, takes}
use Rattle.theory.specs.Term.{fold, folds, Term, Terms, node, nil, cons, to_list, from_list}
use Rattle.theory.specs.Sort.{Sort, bool, bv, guard, all_are, good, sort_width, sort_of, sorts_of}
use Rattle.theory.specs.Value.{all_true, Assign, Val, truth, number, truth_of, number_of, bit, to_number, bit_at, meaning, value, values}
use Rattle.theory.specs.Gates.{Gates, bool_gates, gates_of, term_gates}
use Rattle.theory.specs.Circuit.{ripple_carry_adder, negate, bitblast_ult, slt, zip_with, equality}
use Rattle.theory.specs.Bits.{select, get_term_bits, bb}
use Rattle.theory.proofs.Sound.{each_length, any, is_truth, is_number, Each, none, more, values_have, bv_value}
use Rattle.theory.proofs.Natural.{Hom, adder_hom, ult_hom, slt_hom, equality_hom, negate_hom, zip_with_hom}

abbrev pub vals : Assign → Gates Val
vals ρ = gates_of (meaning ρ)

pub folds_from_list : {A : Type 0} (alg : Op → List A → A) (ts : List Term) → folds alg (from_list ts) ≡ map (fold alg) ts
unfolding fold
folds_from_list alg [] = refl
folds_from_list {A} alg (t ∷ ts) = ap (λ (vs : List A). fold alg t ∷ vs) (folds_from_list alg ts)

pub folds_to_list : {A : Type 0} (alg : Op → List A → A) (ts : Terms) → map (fold alg) (to_list ts) ≡ folds alg ts
unfolding fold
folds_to_list alg nil = refl
folds_to_list {A} alg (cons t ts) = ap (λ (vs : List A). fold alg t ∷ vs) (folds_to_list alg ts)

-- every fold respects the gates
pub fold_hom : {A : Type 0} (alg : Op → List A → A) → Hom term_gates (gates_of alg) (fold alg)
unfolding fold
fold_hom alg = record {
  true_hom = refl;
  false_hom = refl;
  not_hom = λ x. refl;
  and_hom = λ x y. refl;
  or_hom = λ x y. refl;
  xor_hom = λ x y. refl;
  eq_hom = λ x y. refl;
  ite_hom = λ c x y. refl;
  all_hom = λ xs. ap (alg And) (folds_from_list alg xs);
}

truths : (bs : List Bool) → map truth_of (map truth bs) ≡ bs
truths [] = refl
truths (b ∷ bs) = ap (λ (cs : List Bool). b ∷ cs) (truths bs)

pub and_one : (a b : Bool) → a && (b && true) ≡ a && b
and_one a true = refl
and_one a false = refl

pub or_one : (a b : Bool) → a || (b || false) ≡ a || b
or_one a true = refl
or_one a false = refl

pub truth_hom : (ρ : Assign) → Hom bool_gates (vals ρ) truth
unfolding meaning
truth_hom ρ = record {
  true_hom = refl;
  false_hom = refl;
  not_hom = λ x. refl;
  and_hom = λ x y. ap truth (sym (and_one x y));
  or_hom = λ x y. ap truth (sym (or_one x y));
  xor_hom = λ x y. refl;
  eq_hom = λ x y. refl;
  ite_hom = λ c x y. refl;
  all_hom = λ xs. ap (λ (bs : List Bool). truth (all_true bs)) (sym (truths xs));
}

pub is_bb : (o : Op) → T (eqb (kind o) 31) → o ≡ BvBbTerm
is_bb BvBbTerm h = refl
is_bb _ h = elim h [ ]

unfoldable pub bits_from : ℕ → ℕ → ℕ → List Bool
bits_from x i zero = []
bits_from x i (suc k) = bit_at i x ∷ bits_from x (suc i) k

bit_mod : (r : ℕ) → r < 2 → bit (eqb r 1) ≡ r
bit_mod zero h = refl
bit_mod (suc zero) h = refl
bit_mod (suc (suc r)) h = absurd (omega arith)

half_of : (x i : ℕ) → x / 2 ^ suc i ≡ x / 2 ^ i / 2
half_of x i = rw pow-suc (sym (div-div-eq-div-mul x (2 ^ i) 2))

pub to_number_bits_from : (x i k : ℕ) → to_number (bits_from x i k) ≡ x / 2 ^ i % 2 ^ k
unfolding bits_from
to_number_bits_from x i zero = sym (mod-one (x / 2 ^ i))
to_number_bits_from x i (suc k) =
    let ih : to_number (bits_from x (suc i) k) ≡ x / 2 ^ i / 2 % 2 ^ k
    = to_number_bits_from x (suc i) k ∙ ap (λ (z : ℕ). z % 2 ^ k) (half_of x i) in
    let m : x / 2 ^ i % 2 ^ suc k ≡ (x / 2 ^ i / 2 % 2 ^ k) * 2 + x / 2 ^ i % 2
    = rw pow-suc (mod-mul (x / 2 ^ i) (pow_pos k) (omega arith)) in
    omega (arith, bit_mod (x / 2 ^ i % 2) (omega arith))

pub bits_from_length : (x i k : ℕ) → length (bits_from x i k) ≡ k
unfolding bits_from
bits_from_length x i zero = refl
bits_from_length x i (suc k) = ap suc (bits_from_length x (suc i) k)

pub select_reads : (ρ : Assign) (t : Term) (i k : ℕ) → map (value ρ) (select t i k) ≡ map truth (bits_from (number_of (value ρ t)) i k)
unfolding select bits_from fold meaning
select_reads ρ t i zero = refl
select_reads ρ t i (suc k) = ap (λ (vs : List Val). truth (bit_at i (number_of (value ρ t))) ∷ vs) (select_reads ρ t (suc i) k)

whole : (x n : ℕ) → x < 2 ^ n → to_number (bits_from x 0 n) ≡ x
whole x n h = to_number_bits_from x 0 n ∙ ap (λ (z : ℕ). z % 2 ^ n) (div-one x) ∙ mod-eq_of_lt h

pub to_from_list : (ts : List Term) → to_list (from_list ts) ≡ ts
to_from_list [] = refl
to_from_list (t ∷ ts) = ap (λ (us : List Term). t ∷ us) (to_from_list ts)

pub from_to_list : (ts : Terms) → from_list (to_list ts) ≡ ts
from_to_list nil = refl
from_to_list (cons t ts) = ap (cons t) (from_to_list ts)

-- every value of the term's bits, and the term's own
pub record Bits (ρ : Assign) (t : Term) (n : ℕ) : Type 0 where
  pub bits : List Bool
  pub reads : map (value ρ) (get_term_bits t) ≡ map truth bits
  pub size : length bits ≡ n
  pub means : value ρ t ≡ number n (to_number bits)

pub guard_yes : (b : Bool) (s r : Sort) → T (good r) → guard b s ≡ r → T b × (s ≡ r)
unfolding guard
guard_yes true s r g e = (tt, e)
guard_yes false s r g e = absurd (subst (λ (z : Sort). T (good z)) (sym e) g)

pub bb_value : (ρ : Assign) (ts : List Term) (bs : List Bool) → map (value ρ) ts ≡ map truth bs → value ρ (bb ts) ≡ number (length bs) (to_number bs)
unfolding fold meaning
bb_value ρ ts bs e =
    ap (λ (vs : List Val). number (length vs) (to_number (map truth_of vs))) (folds_from_list (meaning ρ) ts ∙ e)
    ∙ rw (length-map, truths)

-- a BvBbTerm is read by its arguments, whatever its sort
pub bb_bits : (ρ : Assign) (ts : List Term) (bs : List Bool) → map (value ρ) ts ≡ map truth bs → Bits ρ (bb ts) (length bs)
unfolding get_term_bits
bb_bits ρ ts bs e = record { bits = bs; reads = rw (to_from_list ts) e; size = refl; means = bb_value ρ ts bs e }

select_bits : (ρ : Assign) (t : Term) (n : ℕ) → sort_of t ≡ bv n → get_term_bits t ≡ select t 0 n → Bits ρ t n
select_bits ρ t n s e =
    let x = number_of (value ρ t) in
    record {
      bits = bits_from x 0 n;
      reads = ap (map (value ρ)) e ∙ select_reads ρ t 0 n;
      size = bits_from_length x 0 n;
      means = (bv_value ρ t n s).0 ∙ ap (number n) (sym (whole x n (bv_value ρ t n s).1));
    }

all_truth : {vs : List Val} {ss : List Sort} → Each vs ss → T (all_are bool ss) → vs ≡ map truth (map truth_of vs)
all_truth none a = refl
all_truth (more {v = v} {vs = vs} is_truth r) a = ap (λ (us : List Val). v ∷ us) (all_truth r a)
all_truth (more any r) a = absurd a
all_truth (more (is_number h) r) a = absurd a

bb_bits_of : (ρ : Assign) (ts : Terms) (n : ℕ) → sort_of (node BvBbTerm ts) ≡ bv n → Bits ρ (node BvBbTerm ts) n
unfolding fold
bb_bits_of ρ ts n s =
    let g : T (takes many (length (sorts_of ts)) && all_are bool (sorts_of ts)) × (bv (length (sorts_of ts)) ≡ bv n)
    = guard_yes (takes many (length (sorts_of ts)) && all_are bool (sorts_of ts)) (bv (length (sorts_of ts))) (bv n) tt s in
    let e : values ρ ts ≡ map truth (map truth_of (values ρ ts))
    = all_truth (values_have ρ ts) (and_r (takes many (length (sorts_of ts))) _ g.0) in
    let l : length (map truth_of (values ρ ts)) ≡ n
    = rw length-map (each_length (values_have ρ ts) ∙ ap sort_width g.1) in
    subst (λ (us : Terms). Bits ρ (node BvBbTerm us) n) (from_to_list ts)
    (subst (λ (k : ℕ). Bits ρ (bb (to_list ts)) k) l (bb_bits ρ (to_list ts) (map truth_of (values ρ ts)) (folds_to_list (meaning ρ) ts ∙ e)))

pub not_bb : (o : Op) (ts : Terms) (n : ℕ) → sort_of (node o ts) ≡ bv n → eqb (kind o) 31 ≡ false → get_term_bits (node o ts) ≡ select (node o ts) 0 n
unfolding get_term_bits
not_bb o ts n s e = ap₂ (λ (b : Bool) (k : ℕ). cond b (to_list ts) (select (node o ts) 0 k)) e (ap sort_width s)

pub bits_of : (ρ : Assign) (t : Term) (n : ℕ) → sort_of t ≡ bv n → Bits ρ t n
bits_of ρ (node o ts) n s = go (eqb (kind o) 31) refl
  where
    go : (b : Bool) → eqb (kind o) 31 ≡ b → Bits ρ (node o ts) n
    go true e =
        let q : o ≡ BvBbTerm = is_bb o (subst T (sym e) tt) in
        subst (λ (p : Op). Bits ρ (node p ts) n) (sym q) (bb_bits_of ρ ts n (subst (λ (p : Op). sort_of (node p ts) ≡ bv n) q s))
    go false e = select_bits ρ (node o ts) n s (not_bb o ts n s e)

-- ---- from circuits of terms to circuits of Bools
module _ (ρ : Assign) where
  abbrev Reads : List Term → List Bool → Type 0
  Reads ts bs = map (value ρ) ts ≡ map truth bs

  pub adder_reads : (c : Term) (d : Bool) → value ρ c ≡ truth d → (xs ys : List Term) (cs bs : List Bool)
      → Reads xs cs → Reads ys bs → Reads (ripple_carry_adder term_gates c xs ys) (ripple_carry_adder bool_gates d cs bs)
  adder_reads c d e xs ys cs bs p q =
      adder_hom (fold_hom (meaning ρ)) c xs ys ∙ rw (e, p, q) (sym (adder_hom (truth_hom ρ) d cs bs))

  pub negate_reads : (xs : List Term) (cs : List Bool) → Reads xs cs → Reads (negate term_gates xs) (negate bool_gates cs)
  negate_reads xs cs p = negate_hom (fold_hom (meaning ρ)) xs ∙ ap (negate (vals ρ)) p ∙ sym (negate_hom (truth_hom ρ) cs)

  pub ult_reads : (xs ys : List Term) (cs bs : List Bool) → Reads xs cs → Reads ys bs
      → value ρ (bitblast_ult term_gates xs ys) ≡ truth (bitblast_ult bool_gates cs bs)
  ult_reads xs ys cs bs p q = ult_hom (fold_hom (meaning ρ)) xs ys ∙ ap₂ (bitblast_ult (vals ρ)) p q ∙ sym (ult_hom (truth_hom ρ) cs bs)

  pub slt_reads : (xs ys : List Term) (cs bs : List Bool) → Reads xs cs → Reads ys bs
      → value ρ (slt term_gates xs ys) ≡ truth (slt bool_gates cs bs)
  slt_reads xs ys cs bs p q = slt_hom (fold_hom (meaning ρ)) xs ys ∙ ap₂ (slt (vals ρ)) p q ∙ sym (slt_hom (truth_hom ρ) cs bs)

  pub equality_reads : (xs ys : List Term) (cs bs : List Bool) → Reads xs cs → Reads ys bs
      → value ρ (equality term_gates xs ys) ≡ truth (equality bool_gates cs bs)
  equality_reads xs ys cs bs p q =
      equality_hom (fold_hom (meaning ρ)) xs ys ∙ ap₂ (equality (vals ρ)) p q ∙ sym (equality_hom (truth_hom ρ) cs bs)

  pub zip_reads : (f : Term → Term → Term) (g : Val → Val → Val) (k : Bool → Bool → Bool)
      → ((x y : Term) → value ρ (f x y) ≡ g (value ρ x) (value ρ y)) → ((a b : Bool) → truth (k a b) ≡ g (truth a) (truth b))
      → (xs ys : List Term) (cs bs : List Bool) → Reads xs cs → Reads ys bs → Reads (zip_with f xs ys) (zip_with k cs bs)
  zip_reads f g k e d xs ys cs bs p q =
      zip_with_hom (fold_hom (meaning ρ)) f g e xs ys ∙ ap₂ (zip_with g) p q ∙ sym (zip_with_hom (truth_hom ρ) k g d cs bs)
