-- Each circuit of Circuit.antt and Bits.antt is the one that specs/Alethe.antt has bit by bit: over any gates, for lists of one length.
-- The d of `bit_of d` stands where a list has ended: no circuit reads it.
use mathlib.Core.Path.{◌≡◌, ap, ap₂, refl, ◌∙◌}
use mathlib.Core.List.{List, [], ◌∷◌, ◌++◌, map}
use Prim.Native.Nat.{ℕ, zero, suc, ◌+◌, ◌-◌, ◌≤◌, ◌<◌}
use native.Mathlib.Nat.{le_refl}
use native.Mathlib.Omega.{arith}
use lib.ListN.{length, drop, replicate, get_or, length-drop}
use lib.Seq.{length-take-le, get_or-take, get_or-drop}
use Rattle.theory.specs.Kind.{False}
use Rattle.theory.specs.Term.{Term, node, nil}
use Rattle.theory.specs.Gates.{Gates}
use Rattle.theory.specs.Circuit.{zip_with, last, ripple_carry_adder, last_carry, negate, bitblast_ult, slt, gather, equality, shift_add_multiplier}
use Rattle.theory.specs.Move.{bits, bit_of}
use Rattle.theory.specs.Alethe.{bitwise, bvnot, carry_at, sum_at, bvadd, bvneg, less_at, bvult, bvslt, bvmul, bvequal, bvcomp, extract, sign_extend, concat_width, concat_at, concat}
use Rattle.theory.specs.Bits.{get_term_bits, extract_bits, concat_bits, extend_bits}
use Rattle.theory.proofs.Indexed.{bits_by, list_bits, map_bits, zip_bits, replicate_bits, append_bits, adder_bits, last_carry_bits, ult_bits, slt_bits}
use Rattle.theory.proofs.Loops.{mult_bits}

-- ---- for bits given by index
module _ {A : Type 0} (G : Gates A) (x y : ℕ → A) where
  pub adder_by : (n : ℕ) (c : A) → ripple_carry_adder G c (bits n x) (bits n y) ≡ bits n (sum_at G c x y)
  adder_by n c = adder_bits G n n x y (carry_at G c x y) (le_refl n) (λ i. refl)

  pub ult_by : (n : ℕ) → bitblast_ult G (bits n x) (bits n y) ≡ bvult G n x y
  unfolding bitblast_ult
  ult_by zero = refl
  ult_by (suc n) = ult_bits G n (λ i. x (suc i)) (λ i. y (suc i)) (less_at G x y) (λ i. refl)

  pub slt_by : (n : ℕ) → slt G (bits n x) (bits n y) ≡ bvslt G n x y
  unfolding slt
  slt_by zero = refl
  slt_by (suc zero) = refl
  slt_by (suc (suc n)) = slt_bits G n (λ i. x (suc i)) (λ i. y (suc i)) (less_at G x y) (λ i. refl)

  pub mult_by : (n : ℕ) → shift_add_multiplier G (bits n x) (bits n y) ≡ bvmul G n x y
  unfolding shift_add_multiplier
  mult_by zero = refl
  mult_by (suc n) = mult_bits G x y n

  pub gather_by : (n : ℕ) → gather G (bitwise G.eq_gate n x y) ≡ bvequal G n x y
  unfolding gather
  gather_by zero = refl
  gather_by (suc zero) = refl
  gather_by (suc (suc n)) = refl

-- ---- one list
map_indexed : {A : Type 0} (d : A) {n : ℕ} (xs : List A) → length xs ≡ n → (f : A → A) → map f xs ≡ bits n (λ i. f (bit_of d xs i))
map_indexed d {n} xs p f = ap (map f) (list_bits d xs p) ∙ map_bits f n (bit_of d xs)

module _ {A : Type 0} (G : Gates A) (d : A) {n : ℕ} (xs : List A) (p : length xs ≡ n) where
  -- rule 7
  pub not_indexed : map G.not_gate xs ≡ bvnot G n (bit_of d xs)
  not_indexed = map_indexed d xs p G.not_gate

  -- rule 12
  pub neg_indexed : negate G xs ≡ bvneg G n (bit_of d xs)
  neg_indexed =
      ap₂ (ripple_carry_adder G G.true_gate) (map_indexed d xs p G.not_gate) (map_indexed d xs p (λ (x : A). G.false_gate))
      ∙ adder_by G (λ i. G.not_gate (bit_of d xs i)) (λ i. G.false_gate) n G.true_gate

-- ---- two lists
module _ {A : Type 0} (d : A) {n : ℕ} (xs ys : List A) (p : length xs ≡ n) (q : length ys ≡ n) where
  -- a circuit by its law for bits given by index
  two_lists : {B : Type 0} (circuit : List A → List A → B) (result : (ℕ → A) → (ℕ → A) → B)
      → ((x y : ℕ → A) → circuit (bits n x) (bits n y) ≡ result x y) → circuit xs ys ≡ result (bit_of d xs) (bit_of d ys)
  two_lists circuit result law = ap₂ circuit (list_bits d xs p) (list_bits d ys q) ∙ law (bit_of d xs) (bit_of d ys)

  -- rules 3 to 6: and, or, xor and, with the gate `=`, xnor
  pub bitwise_indexed : (gate : A → A → A) → zip_with gate xs ys ≡ bitwise gate n (bit_of d xs) (bit_of d ys)
  bitwise_indexed gate = two_lists (zip_with gate) (bitwise gate n) (zip_bits gate n)

module _ {A : Type 0} (G : Gates A) (d : A) {n : ℕ} (xs ys : List A) (p : length xs ≡ n) (q : length ys ≡ n) where
  -- rule 8
  pub ult_indexed : bitblast_ult G xs ys ≡ bvult G n (bit_of d xs) (bit_of d ys)
  ult_indexed = two_lists d xs ys p q (bitblast_ult G) (bvult G n) (λ x y. ult_by G x y n)

  -- rule 9
  pub slt_indexed : slt G xs ys ≡ bvslt G n (bit_of d xs) (bit_of d ys)
  slt_indexed = two_lists d xs ys p q (slt G) (bvslt G n) (λ x y. slt_by G x y n)

  -- the adder, with any carry into bit 0
  pub adder_indexed : (c : A) → ripple_carry_adder G c xs ys ≡ bits n (sum_at G c (bit_of d xs) (bit_of d ys))
  adder_indexed c = two_lists d xs ys p q (ripple_carry_adder G c) (λ x y. bits n (sum_at G c x y)) (λ x y. adder_by G x y n c)

  -- rule 10
  pub add_indexed : ripple_carry_adder G G.false_gate xs ys ≡ bvadd G n (bit_of d xs) (bit_of d ys)
  add_indexed = adder_indexed G.false_gate

  -- rule 11
  pub mult_indexed : shift_add_multiplier G xs ys ≡ bvmul G n (bit_of d xs) (bit_of d ys)
  mult_indexed = two_lists d xs ys p q (shift_add_multiplier G) (bvmul G n) (λ x y. mult_by G x y n)

  -- rule 13
  pub equality_indexed : equality G xs ys ≡ bvequal G n (bit_of d xs) (bit_of d ys)
  equality_indexed = ap (gather G) (bitwise_indexed d xs ys p q G.eq_gate) ∙ gather_by G (bit_of d xs) (bit_of d ys) n

  -- rule 14
  pub comp_indexed : equality G xs ys ∷ [] ≡ bvcomp G n (bit_of d xs) (bit_of d ys)
  comp_indexed = ap (λ (z : A). z ∷ []) equality_indexed

-- the carry into the top bit, which the divider reads
pub last_carry_indexed : {A : Type 0} (G : Gates A) (d : A) {n : ℕ} (xs ys : List A) → length xs ≡ suc n → length ys ≡ suc n
    → (c : A) → last_carry G c xs ys ≡ carry_at G c (bit_of d xs) (bit_of d ys) n
last_carry_indexed G d {n} xs ys p q c =
    two_lists d xs ys p q (last_carry G c) (λ x y. carry_at G c x y n) (λ x y. last_carry_bits G n x y (carry_at G c x y) (λ i. refl))

-- ---- bits in other places
module _ (d : Term) where
  -- rule 15
  pub extract_indexed : (i j : ℕ) (xs : List Term) → j ≤ i → i < length xs → extract_bits i j xs ≡ extract i j (bit_of d xs)
  extract_indexed i j xs h k =
      bits_by d (extract_bits i j xs) (λ m. bit_of d xs (j + m)) (length-take-le (suc (i - j)) (drop j xs) (simp length-drop (omega arith)))
      (λ m l. get_or-take (suc (i - j)) (drop j xs) m d l ∙ get_or-drop j xs m d)

  -- a term as an argument of concat: its width and its bits
  abbrev pub vector : Term → ℕ × (ℕ → Term)
  vector t = (length (get_term_bits t), bit_of d (get_term_bits t))

  -- rule 16
  pub concat_indexed : (ts : List Term) → concat_bits ts ≡ concat d (map vector ts)
  unfolding concat_bits
  concat_indexed [] = refl
  concat_indexed (t ∷ ts) =
      ap₂ (λ (l r : List Term). l ++ r) (concat_indexed ts) (list_bits d (get_term_bits t) refl)
      ∙ append_bits d (concat_width (map vector ts)) (length (get_term_bits t)) (concat_at d (map vector ts)) (bit_of d (get_term_bits t))

  -- the last bit is bit n of n + 1 bits
  last_at : (n : ℕ) (e : Term) (xs : List Term) → length xs ≡ suc n → last e xs ≡ get_or xs n d
  unfolding last
  last_at n e [] p = absurd (omega arith)
  last_at zero e (x ∷ []) p = refl
  last_at (suc n) e (x ∷ []) p = absurd (omega arith)
  last_at zero e (x ∷ x' ∷ xs) p = absurd (omega arith)
  last_at (suc n) e (x ∷ x' ∷ xs) p = last_at n e (x' ∷ xs) (omega arith)

  -- rule 17
  pub extend_indexed : {n : ℕ} (k : ℕ) (xs : List Term) → length xs ≡ suc n → extend_bits k xs ≡ sign_extend k (suc n) (bit_of d xs)
  extend_indexed {n} k xs p =
      ap₂ (λ (l r : List Term). l ++ r) (list_bits d xs p) (ap (replicate k) top ∙ replicate_bits k (bit_of d xs (suc n - 1)))
      ∙ append_bits d (suc n) k (bit_of d xs) (λ i. bit_of d xs (suc n - 1))
    where
      place : n ≡ suc n - 1
      place = omega arith

      top : last (node False nil) xs ≡ bit_of d xs (suc n - 1)
      top = last_at n (node False nil) xs p ∙ ap (bit_of d xs) place
