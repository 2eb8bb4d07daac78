-- The multiplier: it respects the gates, and at Bool it is the product modulo a power of 2; rule 11 holds.
use mathlib.Core.Path.{◌≡◌, refl, ap, ap₂, sym, subst, ◌∙◌}
use mathlib.Core.Bool.{Bool, true, false}
use mathlib.Core.List.{List, [], ◌∷◌, map}
use Prim.Native.Nat.{ℕ, suc, ◌+◌, ◌*◌, ◌%◌, ◌^◌, ◌/◌, ◌≤◌, ◌<◌}
use native.Mathlib.Nat.{le_of_suc-le-suc, not-suc-le-zero, le_of_eq, pow-suc, mod-eq_of_lt, mod-add-mod, zero-mod, mul-zero}
use native.Mathlib.Omega.{arith}
use lib.ListN.{length, length-map}
use lib.Arith.{mod-mul}
use lib.Pow.{pow_pos}
use Rattle.theory.specs.Kind.{BvMul}
use Rattle.theory.specs.Term.{fold, Term, Terms, node, nil, cons, to_list}
use Rattle.theory.specs.Sort.{bad, bv, sort_of}
use Rattle.theory.specs.Value.{Assign, truth, number, bit, to_number, num2, mul_n, meaning, value}
use Rattle.theory.specs.Gates.{Gates, bool_gates, term_gates}
use Rattle.theory.specs.Circuit.{ripple_carry_adder, sum_bit, next_carry, partial_products, add_rows, shift_add_multiplier}
use Rattle.theory.specs.Bits.{get_term_bits, product, fold_terms}
use Rattle.theory.proofs.Sound.{to_number_lt}
use Rattle.theory.proofs.Natural.{Hom, adder_hom}
use Rattle.theory.proofs.Blast.{vals, truth_hom, fold_hom, Bits, bits_of, bb_bits, bb_value, guard_yes}
use Rattle.theory.proofs.Rules.{many_sorts, term_fold}

-- ---- the gates
module _ {A B : Type 0} {G : Gates A} {H : Gates B} {h : A → B} (M : Hom G H h) where
  row_hom : (y : A) (xs : List A) → map h (partial_products G y xs) ≡ partial_products H (h y) (map h xs)
  row_hom y [] = refl
  row_hom y (x ∷ xs) = ap₂ (λ (s : B) (t : List B). s ∷ t) (M.and_hom y x) (row_hom y xs)

  rows_hom : (xs acc ys : List A) → map h (add_rows G xs acc ys) ≡ add_rows H (map h xs) (map h acc) (map h ys)
  unfolding add_rows
  rows_hom xs acc [] = refl
  rows_hom xs [] (y ∷ ys) = refl
  rows_hom xs (a ∷ acc) (y ∷ ys) =
      ap (λ (t : List B). h a ∷ t)
      (rows_hom xs (ripple_carry_adder G G.false_gate acc (partial_products G y xs)) ys
      ∙ ap (λ (t : List B). add_rows H (map h xs) t (map h ys))
      (adder_hom M G.false_gate acc (partial_products G y xs) ∙ ap₂ (λ (c : B) (t : List B). ripple_carry_adder H c (map h acc) t) M.false_hom (row_hom y xs)))

  pub multiplier_hom : (xs ys : List A) → map h (shift_add_multiplier G xs ys) ≡ shift_add_multiplier H (map h xs) (map h ys)
  unfolding shift_add_multiplier
  multiplier_hom xs [] = refl
  multiplier_hom xs (y ∷ ys) = rows_hom xs (partial_products G y xs) ys ∙ ap (λ (t : List B). add_rows H (map h xs) t (map h ys)) (row_hom y xs)

-- ---- lengths
module _ {A : Type 0} (G : Gates A) where
  pub length_row : (y : A) (xs : List A) → length (partial_products G y xs) ≡ length xs
  length_row y xs = length-map xs (G.and_gate y)

  length_adder : (c : A) (ps qs : List A) → length ps ≤ length qs → length (ripple_carry_adder G c ps qs) ≡ length ps
  unfolding ripple_carry_adder
  length_adder c [] qs h = refl
  length_adder c (a ∷ ps) [] h = absurd (not-suc-le-zero h)
  length_adder c (a ∷ ps) (b ∷ qs) h = ap suc (length_adder (next_carry G a b c) ps qs (le_of_suc-le-suc h))

  pub length_next : (c : A) (acc : List A) (y : A) (xs : List A) → length acc ≤ length xs → length (ripple_carry_adder G c acc (partial_products G y xs)) ≡ length acc
  length_next c acc y xs h = length_adder c acc (partial_products G y xs) (rw length_row h)

  length_rows : (xs acc ys : List A) → length acc ≤ length xs → length (add_rows G xs acc ys) ≡ length acc
  unfolding add_rows
  length_rows xs acc [] h = refl
  length_rows xs [] (y ∷ ys) h = refl
  length_rows xs (a ∷ acc) (y ∷ ys) h =
      let next = length_next G.false_gate acc y xs (omega arith) in
      ap suc (length_rows xs (ripple_carry_adder G G.false_gate acc (partial_products G y xs)) ys (omega (arith, next)) ∙ next)

  pub length_multiplier : (xs ys : List A) → length xs ≡ length ys → length (shift_add_multiplier G xs ys) ≡ length xs
  unfolding shift_add_multiplier
  length_multiplier xs [] e = sym e
  length_multiplier xs (y ∷ ys) e = length_rows xs (partial_products G y xs) ys (le_of_eq (length_row y xs)) ∙ length_row y xs

-- ---- numbers
full_adder : (a b c : Bool) → bit (sum_bit bool_gates a b c) + 2 * bit (next_carry bool_gates a b c) ≡ bit c + (bit a + bit b)
full_adder true true true = refl
full_adder true true false = refl
full_adder true false true = refl
full_adder true false false = refl
full_adder false true true = refl
full_adder false true false = refl
full_adder false false true = refl
full_adder false false false = refl

bit_lt : (b : Bool) → bit b < 2
bit_lt true = omega arith
bit_lt false = omega arith

mod_digit : (b k n : ℕ) → b < 2 → (b + 2 * n) % 2 ^ suc k ≡ b + 2 * (n % 2 ^ k)
mod_digit b k n h =
    let high : (b + 2 * n) / 2 ≡ n = omega arith in
    let low : (b + 2 * n) % 2 ≡ b = omega arith in
    rw (pow-suc, mod-mul (b + 2 * n) {m = 2 ^ k} {c = 2} (pow_pos k) (omega arith), high, low) (omega arith)

to_number_row : (y : Bool) (xs : List Bool) → to_number (partial_products bool_gates y xs) ≡ bit y * to_number xs
to_number_row true [] = refl
to_number_row false [] = refl
to_number_row true (x ∷ xs) = omega (arith, to_number_row true xs)
to_number_row false (x ∷ xs) = omega (arith, to_number_row false xs)

to_number_adder : (c : Bool) (ps qs : List Bool) → length ps ≤ length qs
    → to_number (ripple_carry_adder bool_gates c ps qs) ≡ (bit c + (to_number ps + to_number qs)) % 2 ^ length ps
unfolding ripple_carry_adder
to_number_adder c [] qs h = omega arith
to_number_adder c (a ∷ ps) [] h = absurd (not-suc-le-zero h)
to_number_adder c (a ∷ ps) (b ∷ qs) h =
    ap (λ (n : ℕ). bit s + 2 * n) (to_number_adder (next_carry bool_gates a b c) ps qs (le_of_suc-le-suc h))
    ∙ sym (mod_digit (bit s) (length ps) (bit d + (to_number ps + to_number qs)) (bit_lt s))
    ∙ ap (λ (n : ℕ). n % 2 ^ suc (length ps)) (omega (arith, full_adder a b c))
  where
    s : Bool
    s = sum_bit bool_gates a b c

    d : Bool
    d = next_carry bool_gates a b c

to_number_rows : (xs acc ys : List Bool) → length acc ≤ length xs
    → to_number (add_rows bool_gates xs acc ys) ≡ (to_number acc + 2 * (to_number xs * to_number ys)) % 2 ^ length acc
unfolding add_rows
to_number_rows xs acc [] h = sym (ap (λ (n : ℕ). n % 2 ^ length acc) (omega arith) ∙ mod-eq_of_lt (to_number_lt acc))
to_number_rows xs [] (y ∷ ys) h = omega arith
to_number_rows xs (a ∷ acc) (y ∷ ys) h =
    ap (λ (n : ℕ). bit a + 2 * n) (to_number_rows xs (ripple_carry_adder bool_gates false acc (partial_products bool_gates y xs)) ys (omega (arith, len)) ∙ inner)
    ∙ sym (mod_digit (bit a) (length acc) (to_number acc + bit y * to_number xs + 2 * (to_number xs * to_number ys)) (bit_lt a))
    ∙ ap (λ (n : ℕ). n % 2 ^ suc (length acc)) (omega arith)
  where
    next : List Bool
    next = ripple_carry_adder bool_gates false acc (partial_products bool_gates y xs)

    len : length next ≡ length acc
    len = length_next bool_gates false acc y xs (omega arith)

    value_of : to_number next ≡ (to_number acc + bit y * to_number xs) % 2 ^ length acc
    value_of =
        to_number_adder false acc (partial_products bool_gates y xs) (rw length_row (omega arith))
        ∙ ap (λ (n : ℕ). n % 2 ^ length acc) (omega (arith, to_number_row y xs))

    inner : (to_number next + 2 * (to_number xs * to_number ys)) % 2 ^ length next ≡ (to_number acc + bit y * to_number xs + 2 * (to_number xs * to_number ys)) % 2 ^ length acc
    inner = rw (len, value_of) (mod-add-mod (to_number acc + bit y * to_number xs) (2 ^ length acc) (2 * (to_number xs * to_number ys)))

pub to_number_multiplier : (xs ys : List Bool) → to_number (shift_add_multiplier bool_gates xs ys) ≡ (to_number xs * to_number ys) % 2 ^ length xs
unfolding shift_add_multiplier
to_number_multiplier xs [] = rw (mul-zero, zero-mod)
to_number_multiplier xs (y ∷ ys) =
    to_number_rows xs (partial_products bool_gates y xs) ys (le_of_eq (length_row bool_gates y xs))
    ∙ ap (λ (n : ℕ). (to_number (partial_products bool_gates y xs) + 2 * (to_number xs * to_number ys)) % 2 ^ n) (length_row bool_gates y xs)
    ∙ ap (λ (n : ℕ). n % 2 ^ length xs) (omega (arith, to_number_row y xs))

-- ---- rule 11
pub multiplier_reads : (ρ : Assign) (xs ys : List Term) (cs bs : List Bool) → map (value ρ) xs ≡ map truth cs → map (value ρ) ys ≡ map truth bs
    → map (value ρ) (shift_add_multiplier term_gates xs ys) ≡ map truth (shift_add_multiplier bool_gates cs bs)
multiplier_reads ρ xs ys cs bs p q =
    multiplier_hom (fold_hom (meaning ρ)) xs ys ∙ ap₂ (shift_add_multiplier (vals ρ)) p q ∙ sym (multiplier_hom (truth_hom ρ) cs bs)

product_right : (ρ : Assign) (n : ℕ) (a t : Term) → Bits ρ a n → Bits ρ t n
    → Bits ρ (product a t) n × (value ρ (product a t) ≡ num2 mul_n (value ρ a) (value ρ t))
unfolding mul_n
product_right ρ n a t ba bt =
    let ds = shift_add_multiplier bool_gates ba.bits bt.bits in
    let l : length ds ≡ n = length_multiplier bool_gates ba.bits bt.bits (ba.size ∙ sym bt.size) ∙ ba.size in
    let r = multiplier_reads ρ (get_term_bits a) (get_term_bits t) ba.bits bt.bits ba.reads bt.reads in
    let m : to_number ds ≡ (to_number ba.bits * to_number bt.bits) % 2 ^ n
    = to_number_multiplier ba.bits bt.bits ∙ ap (λ (k : ℕ). (to_number ba.bits * to_number bt.bits) % 2 ^ k) ba.size in (
      subst (λ (k : ℕ). Bits ρ (product a t) k) l (bb_bits ρ (shift_add_multiplier term_gates (get_term_bits a) (get_term_bits t)) ds r),
      bb_value ρ (shift_add_multiplier term_gates (get_term_bits a) (get_term_bits t)) ds r ∙ ap₂ number l m ∙ sym (ap₂ (num2 mul_n) ba.means bt.means),
    )

pub mult_holds : (ρ : Assign) (ts : Terms) (n : ℕ) → sort_of (node BvMul ts) ≡ bv n
    → value ρ (fold_terms product (to_list ts)) ≡ value ρ (node BvMul ts)
unfolding fold_terms fold meaning
mult_holds ρ nil n s = absurd (guard_yes _ bad (bv n) tt s).0
mult_holds ρ (cons t ts) n s =
    let h = many_sorts t ts n s in
    term_fold ρ n mul_n product (product_right ρ n) t (bits_of ρ t n h.0) ts h.1
