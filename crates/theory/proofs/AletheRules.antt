-- Each rule of specs/AletheRules.antt is accepted exactly on the term that it prints.
use mathlib.Core.Path.{◌≡◌, refl, sym, ap, ap₂, subst, ◌∙◌}
use mathlib.Core.Bool.{Bool, true, false, cond}
use mathlib.Core.List.{List, [], ◌∷◌, ◌++◌, map, foldl}
use Prim.Native.Nat.{ℕ, zero, suc, ◌+◌, ◌-◌, ◌≤◌, ◌<◌}
use native.Mathlib.Nat.{add-zero}
use native.Mathlib.Omega.{arith}
use lib.Dec.{T, eqb, ltb, eqb→eq, ltb→lt}
use lib.ListN.{length, get_or}
use Rattle.theory.specs.Kind.{Op, False, And, Or, Xor, Equals, BvBitOf, BvBbTerm, BvConcat, BvExtract, kind}
use Rattle.theory.specs.Term.{Term, Terms, node, nil, cons, to_list, from_list, two, same_term}
use Rattle.theory.specs.Sort.{Sort, bv, sort_of, sort_width, is_bv_sort}
use Rattle.theory.specs.Value.{value, truth}
use Rattle.theory.specs.Gates.{term_gates}
use Rattle.theory.specs.Circuit.{zip_with, ripple_carry_adder, negate, bitblast_ult, slt, gather, equality, shift_add_multiplier}
use Rattle.theory.specs.Bits.{select, get_term_bits, bb, fold_terms, zipped, add_bits, product, concat_bits, extract_bits, extend_bits}
use Rattle.theory.specs.Move.{bits, bit_of}
use Rattle.theory.specs.Alethe.{bvadd, bvneg, extract, sign_extend}
use Rattle.theory.specs.Verdict.{Verdict, held, not_bit_vector, terms_differ}
use Rattle.theory.specs.RuleTable.{Rule, by_extract, by_concat}
use Rattle.theory.specs.Rule.{args_of, compare, of_bits, on_sides, verdict}
use Rattle.theory.specs.AletheRules.{bit, Both, Prints, Exactly, AletheRules, bitblast_var, bitblast_and, bitblast_or, bitblast_xor, bitblast_xnor, bitblast_not, bitblast_slt, bitblast_add, bitblast_mult, bitblast_neg, bitblast_equal, bitblast_comp, bitblast_extract, bitblast_concat, bitblast_sign_extend_0, bitblast_sign_extend, FromLeft, alone, and_then, bitblast_ands, bitblast_ors, bitblast_xors, bitblast_mults, bitblast_adds}
use Rattle.theory.specs.AletheRules as A
use Rattle.theory.specs.Specimen.{x_and_y}
use Rattle.theory.proofs.Same.{eq_same}
use Rattle.theory.proofs.Basics.{T_true, foldl_append}
use Rattle.theory.proofs.Form.{form_held, same_of}
use Rattle.theory.proofs.Blast.{bits_of, not_bb, to_from_list}
use Rattle.theory.proofs.Indexed.{length_bits, get_or_bits, bits_by, bits_same, map_bits, zip_bits, append_bits}
use Rattle.theory.proofs.Alethe.{adder_by, ult_by, slt_by, mult_by, gather_by, extract_indexed, extend_indexed}

-- ---- the bits of a term
length_map : {A B : Type 0} (f : A → B) (xs : List A) → length (map f xs) ≡ length xs
length_map f [] = refl
length_map f (x ∷ xs) = ap suc (length_map f xs)

bits_length : (x : Term) (n : ℕ) → sort_of x ≡ bv n → length (get_term_bits x) ≡ n
bits_length x n s =
    let b = bits_of (x_and_y 0 0) x n s in
    sym (length_map (value (x_and_y 0 0)) (get_term_bits x)) ∙ ap length b.reads ∙ length_map truth b.bits ∙ b.size

select_at : (t d : Term) (s k i : ℕ) → i < k → get_or (select t s k) i d ≡ node (BvBitOf (s + i)) (cons t nil)
unfolding select
select_at t d s zero i h = absurd (omega arith)
select_at t d s (suc k) zero h = ap (λ (j : ℕ). node (BvBitOf j) (cons t nil)) (sym (add-zero s))
select_at t d s (suc k) (suc i) h =
    select_at t d (suc s) k i (omega arith) ∙ ap (λ (j : ℕ). node (BvBitOf j) (cons t nil)) (let z : suc s + i ≡ s + suc i = omega arith in z)

bb_is : (o : Op) (ts : Terms) → eqb (kind o) 31 ≡ true → get_term_bits (node o ts) ≡ to_list ts
unfolding get_term_bits
bb_is o ts e = ap (λ (b : Bool). cond b (to_list ts) (select (node o ts) 0 (sort_width (sort_of (node o ts))))) e

bits_are : (x : Term) (n : ℕ) → sort_of x ≡ bv n → get_term_bits x ≡ bits n (bit x)
bits_are (node o ts) n s = go (eqb (kind o) 31) refl
  where
    go : (b : Bool) → eqb (kind o) 31 ≡ b → get_term_bits (node o ts) ≡ bits n (bit (node o ts))
    go true e =
        bits_by (node False nil) (get_term_bits (node o ts)) (bit (node o ts)) (bits_length (node o ts) n s)
        (λ i h. ap (λ (l : List Term). get_or l i (node False nil)) (bb_is o ts e) ∙ sym (ap (λ (c : Bool). cond c (get_or (to_list ts) i (node False nil)) (node (BvBitOf i) (cons (node o ts) nil))) e))
    go false e =
        bits_by (node False nil) (get_term_bits (node o ts)) (bit (node o ts)) (bits_length (node o ts) n s)
        (λ i h. ap (λ (l : List Term). get_or l i (node False nil)) (not_bb o ts n s e) ∙ select_at (node o ts) (node False nil) 0 n i h
        ∙ ap (λ (j : ℕ). node (BvBitOf j) (cons (node o ts) nil)) (let z : 0 + i ≡ i = omega arith in z)
        ∙ sym (ap (λ (c : Bool). cond c (get_or (to_list ts) i (node False nil)) (node (BvBitOf i) (cons (node o ts) nil))) e))

-- ---- the last test
same_claim : (e r : Term) → r ≡ e → compare held e r ≡ held
same_claim e r q = ap (λ (b : Bool). cond b held terms_differ) (T_true (same_term e r) (eq_same e r (sym q)))

exactly : {rule : Rule} {l e r : Term} (x : Term) → verdict rule (two Equals l r) ≡ compare held x r → x ≡ e → Exactly rule l e r
exactly {rule} {l} {e} {r} x v p = record {
  only = λ h. sym (same_of x r (sym v ∙ h)) ∙ p;
  always = λ q. v ∙ same_claim x r (q ∙ sym p);
}

module _ {x y : Term} {n : ℕ} (s : Both x y n) where
  two_bits : {B : Type 0} (circuit : List Term → List Term → B) → circuit (get_term_bits x) (get_term_bits y) ≡ circuit (bits n (bit x)) (bits n (bit y))
  two_bits circuit = ap₂ circuit (bits_are x n s.left) (bits_are y n s.right)

module _ (x : Term) {n : ℕ} (s : sort_of x ≡ bv n) where
  -- a test on the sort of x passes
  of_sort : (v : Verdict) → of_bits x v ≡ v
  of_sort v = ap (λ (z : Sort). cond (is_bv_sort z) v not_bit_vector) s

  one_bit : (i : ℕ) → i < n → bit_of (node False nil) (get_term_bits x) i ≡ bit x i
  one_bit i h = ap (λ (l : List Term). get_or l i (node False nil)) (bits_are x n s) ∙ get_or_bits n (bit x) (node False nil) i h

  neg_bits : negate term_gates (get_term_bits x) ≡ bvneg term_gates n (bit x)
  neg_bits =
      ap (negate term_gates) (bits_are x n s)
      ∙ ap₂ (ripple_carry_adder term_gates term_gates.true_gate) (map_bits term_gates.not_gate n (bit x)) (map_bits (λ (z : Term). term_gates.false_gate) n (bit x))
      ∙ adder_by term_gates (λ i. term_gates.not_gate (bit x i)) (λ i. term_gates.false_gate) n term_gates.true_gate

  extract_same : (i j : ℕ) → j ≤ i → i < n → extract_bits i j (get_term_bits x) ≡ extract i j (bit x)
  extract_same i j h l =
      extract_indexed (node False nil) i j (get_term_bits x) h (let e = bits_length x n s in omega arith)
      ∙ bits_by (node False nil) (extract i j (bit_of (node False nil) (get_term_bits x))) (λ k. bit x (j + k)) (length_bits (suc (i - j)) (λ k. bit_of (node False nil) (get_term_bits x) (j + k)))
      (λ k m. get_or_bits (suc (i - j)) (λ k. bit_of (node False nil) (get_term_bits x) (j + k)) (node False nil) k m ∙ one_bit (j + k) (omega arith))

module _ (x : Term) {n : ℕ} (s : sort_of x ≡ bv (suc n)) where
  extend_same : (k : ℕ) → extend_bits k (get_term_bits x) ≡ sign_extend k (suc n) (bit x)
  extend_same k =
      extend_indexed (node False nil) k (get_term_bits x) (bits_length x (suc n) s)
      ∙ bits_same (suc n + k) (λ i. cond (ltb i (suc n)) (bit_of (node False nil) (get_term_bits x) i) (bit_of (node False nil) (get_term_bits x) (suc n - 1))) (λ i. cond (ltb i (suc n)) (bit x i) (bit x (suc n - 1))) (λ i. at i (ltb i (suc n)) (ltb→lt i (suc n)))
    where
      at : (i : ℕ) (b : Bool) → (T b → i < suc n) → cond b (bit_of (node False nil) (get_term_bits x) i) (bit_of (node False nil) (get_term_bits x) (suc n - 1)) ≡ cond b (bit x i) (bit x (suc n - 1))
      at i true h = one_bit x s i (h tt)
      at i false h = one_bit x s (suc n - 1) (omega arith)

not_zero : (k : ℕ) → eqb (suc k) 0 ≡ false
not_zero k = go (eqb (suc k) 0) (eqb→eq (suc k) 0)
  where
    go : (b : Bool) → (T b → suc k ≡ 0) → b ≡ false
    go true f = absurd (let e = f tt in omega arith)
    go false f = refl

-- ---- more arguments
-- some argument is the first
record First (ts : List Term) : Type 0 where
  head : Term
  tail : List Term
  is : ts ≡ head ∷ tail

first_of : {first : ℕ → Term → Term} {prints : ℕ → (ℕ → Term) → (ℕ → Term) → Term} {ts : List Term} {e : Term} → FromLeft first prints ts e → First ts
first_of (alone {x} s) = record { head = x; tail = []; is = refl }
first_of (and_then {y = y} f b) = let g = first_of f in record { head = g.head; tail = g.tail ++ (y ∷ []); is = ap (λ (l : List Term). l ++ (y ∷ [])) g.is }

-- what folds the arguments from the left is that term
from_left : {first : ℕ → Term → Term} {prints : ℕ → (ℕ → Term) → (ℕ → Term) → Term} (g : List Term → Term)
    → ((x : Term) (n : ℕ) → sort_of x ≡ bv n → g (x ∷ []) ≡ first n x)
    → ((t : Term) (ts : List Term) (y : Term) (n : ℕ) → Both (g (t ∷ ts)) y n → g (t ∷ ts ++ (y ∷ [])) ≡ prints n (bit (g (t ∷ ts))) (bit y))
    → {ts : List Term} {e : Term} → FromLeft first prints ts e → g ts ≡ e
from_left g base step (alone {x} {n} s) = base x n s
from_left {prints = prints} g base step (and_then {ts} {e} {y} {n} f b) =
    let h = from_left g base step f in
    let w = first_of f in
    let k : g (w.head ∷ w.tail) ≡ e = ap g (sym w.is) ∙ h in
    ap (λ (l : List Term). g (l ++ (y ∷ []))) w.is
    ∙ step w.head w.tail y n (record { left = ap sort_of k ∙ b.left; right = b.right })
    ∙ ap (λ (t : Term). prints n (bit t) (bit y)) k

-- a fold of a circuit of two terms
folds : {prints : ℕ → (ℕ → Term) → (ℕ → Term) → Term} (f : Term → Term → Term) → ((x y : Term) (n : ℕ) → Both x y n → f x y ≡ prints n (bit x) (bit y))
    → {ts : List Term} {e : Term} → FromLeft (λ n x. x) prints ts e → fold_terms f ts ≡ e
unfolding fold_terms
folds f two_are w = from_left (fold_terms f) (λ x n s. refl) (λ t ts y n b. foldl_append f t ts (y ∷ []) ∙ two_are (foldl f t ts) y n b) w

sums : {ts : List Term} {e : Term} → FromLeft (λ n x. bb (bits n (bit x))) (λ n x y. bb (bvadd term_gates n x y)) ts e → bb (add_bits ts) ≡ e
unfolding add_bits
sums w =
    from_left (λ ts. bb (add_bits ts)) (λ x n s. ap bb (bits_are x n s))
    (λ t ts y n b.
    let adder = ripple_carry_adder term_gates (node False nil) in
    let so_far = add_bits (t ∷ ts) in
    ap bb
    (foldl_append (λ a u. adder a (get_term_bits u)) (get_term_bits t) ts (y ∷ [])
    ∙ ap (λ (l : List Term). adder l (get_term_bits y)) (sym (bb_is BvBbTerm (from_list so_far) refl ∙ to_from_list so_far))
    ∙ two_bits b adder ∙ adder_by term_gates (bit (bb so_far)) (bit y) n (node False nil))) w

-- the last test over arguments that are a list
of_list : {rule : Rule} {o : Op} {e r : Term} (g : List Term → Term) (ts : List Term)
    → verdict rule (two Equals (node o (from_list ts)) r) ≡ compare held (g (to_list (from_list ts))) r → g ts ≡ e → Exactly rule (node o (from_list ts)) e r
of_list g ts v p = exactly (g (to_list (from_list ts))) v (ap g (to_from_list ts) ∙ p)

pub alethe_rules : AletheRules
unfolding verdict on_sides args_of fold_terms add_bits concat_bits
alethe_rules rule l e r (bitblast_var {x} {n} s) = exactly (bb (get_term_bits x)) (of_sort x s (compare held (bb (get_term_bits x)) r)) (ap bb (bits_are x n s))
alethe_rules rule l e r (bitblast_and {x} {y} {n} s) = exactly _ refl (ap bb (two_bits s (zip_with (two And)) ∙ zip_bits (two And) n (bit x) (bit y)))
alethe_rules rule l e r (bitblast_or {x} {y} {n} s) = exactly _ refl (ap bb (two_bits s (zip_with (two Or)) ∙ zip_bits (two Or) n (bit x) (bit y)))
alethe_rules rule l e r (bitblast_xor {x} {y} {n} s) = exactly _ refl (ap bb (two_bits s (zip_with (two Xor)) ∙ zip_bits (two Xor) n (bit x) (bit y)))
alethe_rules rule l e r (bitblast_xnor {x} {y} {n} s) = exactly _ refl (ap bb (two_bits s (zip_with (two Equals)) ∙ zip_bits (two Equals) n (bit x) (bit y)))
alethe_rules rule l e r (bitblast_not {x} {n} s) =
    exactly (bb (map term_gates.not_gate (get_term_bits x))) refl (ap bb (ap (map term_gates.not_gate) (bits_are x n s) ∙ map_bits term_gates.not_gate n (bit x)))
alethe_rules rule l e r (A.bitblast_ult {x} {y} {n} s) =
    exactly (bitblast_ult term_gates (get_term_bits x) (get_term_bits y)) refl (two_bits s (bitblast_ult term_gates) ∙ ult_by term_gates (bit x) (bit y) n)
alethe_rules rule l e r (bitblast_slt {x} {y} {n} s) =
    exactly (slt term_gates (get_term_bits x) (get_term_bits y)) refl (two_bits s (slt term_gates) ∙ slt_by term_gates (bit x) (bit y) n)
alethe_rules rule l e r (bitblast_add {x} {y} {n} s) =
    exactly (bb (ripple_carry_adder term_gates (node False nil) (get_term_bits x) (get_term_bits y))) refl
    (ap bb (two_bits s (ripple_carry_adder term_gates (node False nil)) ∙ adder_by term_gates (bit x) (bit y) n (node False nil)))
alethe_rules rule l e r (bitblast_mult {x} {y} {n} s) =
    exactly (bb (shift_add_multiplier term_gates (get_term_bits x) (get_term_bits y))) refl (ap bb (two_bits s (shift_add_multiplier term_gates) ∙ mult_by term_gates (bit x) (bit y) n))
alethe_rules rule l e r (bitblast_neg {x} {n} s) = exactly (bb (negate term_gates (get_term_bits x))) refl (ap bb (neg_bits x s))
alethe_rules rule l e r (bitblast_equal {x} {y} {n} s) =
    exactly (equality term_gates (get_term_bits x) (get_term_bits y)) (of_sort x s.left (compare held (equality term_gates (get_term_bits x) (get_term_bits y)) r))
    (two_bits s (equality term_gates) ∙ ap (gather term_gates) (zip_bits term_gates.eq_gate n (bit x) (bit y)) ∙ gather_by term_gates (bit x) (bit y) n)
alethe_rules rule l e r (bitblast_comp {x} {y} {n} s) =
    exactly (bb (equality term_gates (get_term_bits x) (get_term_bits y) ∷ [])) refl
    (ap (λ (z : Term). bb (z ∷ []))
    (two_bits s (equality term_gates) ∙ ap (gather term_gates) (zip_bits term_gates.eq_gate n (bit x) (bit y)) ∙ gather_by term_gates (bit x) (bit y) n))
alethe_rules rule l e r (bitblast_extract {x} {n} {i} {j} s h k) =
    let x' = bb (extract_bits i j (get_term_bits x)) in
    let p : x' ≡ bb (extract i j (bit x)) = ap bb (extract_same x s i j h k) in
    record {
      only = λ q. sym (same_of x' r (form_held (args_of 31 r) (λ (z : List Term). compare held x' r) q).2) ∙ p;
      always = λ q. subst (λ (z : Term). verdict by_extract (two Equals (node (BvExtract i j) (cons x nil)) z) ≡ held) (sym q) (same_claim x' (bb (extract i j (bit x))) (sym p));
    }
alethe_rules rule l e r (bitblast_concat {x} {y} {m} {n} s q) =
    let x' = bb (get_term_bits y ++ get_term_bits x) in
    let p : x' ≡ bb (bits (n + m) (λ k. cond (ltb k n) (bit y k) (bit x (k - n))))
    = ap bb (ap₂ (λ (a b : List Term). a ++ b) (bits_are y n q) (bits_are x m s) ∙ append_bits (node False nil) n m (bit y) (bit x)) in
    record {
      only = λ h. sym (same_of x' r (form_held (args_of 31 r) (λ (z : List Term). compare held x' r) h).2) ∙ p;
      always = λ h. subst (λ (z : Term). verdict by_concat (two Equals (two BvConcat x y) z) ≡ held) (sym h) (same_claim x' (bb (bits (n + m) (λ k. cond (ltb k n) (bit y k) (bit x (k - n))))) (sym p));
    }
alethe_rules rule l e r (bitblast_sign_extend_0 {x}) = exactly x refl refl
alethe_rules rule l e r (bitblast_sign_extend {x} {n} {k} s) =
    exactly (bb (extend_bits (suc k) (get_term_bits x))) (ap (λ (b : Bool). compare held (cond b x (bb (extend_bits (suc k) (get_term_bits x)))) r) (not_zero k)) (ap bb (extend_same x s (suc k)))
alethe_rules rule l e r (bitblast_ands {ts} w) =
    of_list (fold_terms (zipped (two And))) ts refl (folds (zipped (two And)) (λ x y n b. ap bb (two_bits b (zip_with (two And)) ∙ zip_bits (two And) n (bit x) (bit y))) w)
alethe_rules rule l e r (bitblast_ors {ts} w) =
    of_list (fold_terms (zipped (two Or))) ts refl (folds (zipped (two Or)) (λ x y n b. ap bb (two_bits b (zip_with (two Or)) ∙ zip_bits (two Or) n (bit x) (bit y))) w)
alethe_rules rule l e r (bitblast_xors {ts} w) =
    of_list (fold_terms (zipped (two Xor))) ts refl (folds (zipped (two Xor)) (λ x y n b. ap bb (two_bits b (zip_with (two Xor)) ∙ zip_bits (two Xor) n (bit x) (bit y))) w)
alethe_rules rule l e r (bitblast_mults {ts} w) =
    of_list (fold_terms product) ts refl (folds product (λ x y n b. ap bb (two_bits b (shift_add_multiplier term_gates) ∙ mult_by term_gates (bit x) (bit y) n)) w)
alethe_rules rule l e r (bitblast_adds {ts} w) = of_list (λ us. bb (add_bits us)) ts refl (sums w)
