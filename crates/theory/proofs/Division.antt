-- The divider by the standard: at Bool it divides, whatever is literally false; rules 24 and 25 hold.
use mathlib.Core.Path.{◌≡◌, refl, sym, ap, ap₂, subst, ◌∙◌}
use mathlib.Core.Bool.{Bool, true, false, not, cond}
use mathlib.Core.List.{List, [], ◌∷◌, ◌++◌, map}
use Prim.Native.Nat.{ℕ, zero, suc, ◌+◌, ◌-◌, ◌*◌, ◌/◌, ◌%◌, ◌^◌, ◌≤◌, ◌<◌}
use native.Mathlib.Omega.{arith}
use native.Mathlib.Nat.{pow-suc, mul-one, mul-zero, mul_assoc, add-mul, one-mul, zero-mul, zero-add, mod-eq_of_lt, mul-le-mul_left}
use lib.Arith.{digits_div, digits_mod}
use lib.Dec.{T, eqb, eqb→eq}
use lib.Ieee.Fits.{and_l, and_r}
use lib.ListN.{length, length-map, length-append, length-take}
use Rattle.theory.specs.Kind.{False, BvUDiv, BvURem}
use Rattle.theory.specs.Term.{fold, Term, node, nil, two}
use Rattle.theory.specs.Sort.{bv, sort_of}
use Rattle.theory.specs.Value.{Assign, Val, truth, number, bit, to_number, num2, udiv_n, urem_n, meaning, value}
use Rattle.theory.specs.Gates.{bool_gates, term_gates}
use Rattle.theory.specs.Circuit.{zip_with, drop_top, ripple_carry_adder, carry_out, falses, choose, next_remainder, divide_step, all_false, bitblast_udiv_urem_rec, is_zero, udiv, urem}
use Rattle.theory.specs.Bits.{get_term_bits, literally_false, divided}
use Rattle.theory.proofs.Sound.{to_number_lt}
use Rattle.theory.proofs.Numbers.{pair, adder_sum, adder_length, not_sum, false_zero}
use Rattle.theory.proofs.Blast.{vals, truth_hom, fold_hom, Bits, bits_of, bb_value}
use Rattle.theory.proofs.Basics.{T_same}
use Rattle.theory.proofs.Same.{same_eq}
use Rattle.theory.proofs.Slices.{to_number_append, to_number_take, map_append, false_value}
use Rattle.theory.proofs.Divider.{map_each, both, falses_hom, choose_hom, divide_step_hom, is_zero_hom}

-- ---- x - y, as x + not y + 1: with a carry out it is the difference, and without one x is below y
module _ (xs ys : List Bool) (e : length xs ≡ length ys) where
  not_long : length xs ≡ length (map not ys)
  not_long = e ∙ sym (length-map ys not)

  long_difference : length (ripple_carry_adder bool_gates true xs (map not ys)) ≡ length xs
  long_difference = adder_length bool_gates true (pair xs (map not ys) not_long)

  sub_sum : to_number (ripple_carry_adder bool_gates true xs (map not ys)) + 2 ^ length xs * bit (carry_out bool_gates true xs (map not ys)) + to_number ys ≡ to_number xs + 2 ^ length xs
  sub_sum = omega (arith, adder_sum true (pair xs (map not ys) not_long), not_sum ys, ap (λ (n : ℕ). 2 ^ n) e)

  sub_carry : carry_out bool_gates true xs (map not ys) ≡ true → to_number (ripple_carry_adder bool_gates true xs (map not ys)) + to_number ys ≡ to_number xs
  sub_carry c = let s = rw (c, mul-one) at sub_sum in omega arith

  sub_borrow : carry_out bool_gates true xs (map not ys) ≡ false → to_number xs < to_number ys
  sub_borrow c =
      let s = rw (c, mul-zero) at sub_sum in
      let l : to_number (ripple_carry_adder bool_gates true xs (map not ys)) < 2 ^ length xs
      = subst (λ (n : ℕ). to_number (ripple_carry_adder bool_gates true xs (map not ys)) < 2 ^ n) long_difference (to_number_lt (ripple_carry_adder bool_gates true xs (map not ys))) in
      omega arith

-- ---- lists of bits under a choice
choose_true : (ps qs : List Bool) → length ps ≡ length qs → choose bool_gates true ps qs ≡ ps
unfolding zip_with
choose_true [] qs e = refl
choose_true (p ∷ ps) [] e = absurd (omega arith)
choose_true (p ∷ ps) (q ∷ qs) e = ap (λ (l : List Bool). p ∷ l) (choose_true ps qs (omega arith))

choose_false : (ps qs : List Bool) → length ps ≡ length qs → choose bool_gates false ps qs ≡ qs
unfolding zip_with
choose_false [] [] e = refl
choose_false [] (q ∷ qs) e = absurd (omega arith)
choose_false (p ∷ ps) [] e = refl
choose_false (p ∷ ps) (q ∷ qs) e = ap (λ (l : List Bool). q ∷ l) (choose_false ps qs (omega arith))

choose_length : (c : Bool) (ps qs : List Bool) → length ps ≡ length qs → length (choose bool_gates c ps qs) ≡ length ps
choose_length true ps qs e = ap length (choose_true ps qs e)
choose_length false ps qs e = ap length (choose_false ps qs e) ∙ sym e

kept : (b : Bool) (qs : List Bool) → map (λ (q : Bool). cond false b q) qs ≡ qs
kept b [] = refl
kept b (q ∷ qs) = ap (λ (l : List Bool). q ∷ l) (kept b qs)

all_set : (qs : List Bool) → to_number (map (λ (q : Bool). cond true true q) qs) + 1 ≡ 2 ^ length qs
all_set [] = refl
all_set (q ∷ qs) = rw pow-suc (omega (arith, all_set qs))

-- ---- dropping a top bit that is 0; the remainder shifted left, with x below it
drop_top_length : (l : List Bool) (m : ℕ) → length l ≡ suc m → length (drop_top l) ≡ m
drop_top_length [] m e = absurd (omega arith)
drop_top_length (x ∷ l) m e = rw length-take (omega arith)

drop_top_number : (l : List Bool) (m : ℕ) → length l ≡ suc m → to_number l < 2 ^ m → to_number (drop_top l) ≡ to_number l
drop_top_number [] m e h = absurd (omega arith)
drop_top_number (x ∷ l) m e h =
    let n : length l ≡ m = omega arith in
    to_number_take (length l) (x ∷ l) ∙ mod-eq_of_lt (rw n h)

sum_falses : (l : List Bool) → ripple_carry_adder bool_gates false l (falses bool_gates l) ≡ l
unfolding ripple_carry_adder
sum_falses [] = refl
sum_falses (true ∷ l) = ap (λ (m : List Bool). true ∷ m) (sum_falses l)
sum_falses (false ∷ l) = ap (λ (m : List Bool). false ∷ m) (sum_falses l)

next_is : (x : Bool) (r : List Bool) → next_remainder bool_gates x r ≡ x ∷ drop_top r
unfolding ripple_carry_adder
next_is true r = ap (λ (m : List Bool). true ∷ m) (sum_falses (drop_top r))
next_is false r = ap (λ (m : List Bool). false ∷ m) (sum_falses (drop_top r))

-- ---- q and r have n bits, and are the quotient and the remainder of x by y, where y is not 0
record Divided (n x y : ℕ) (q r : List Bool) : Type 0 where
  q_long : length q ≡ n
  r_long : length r ≡ n
  right : 0 < y → (to_number q * y + to_number r ≡ x) × (to_number r < y)

twice : (q y : ℕ) → (0 + 2 * q) * y ≡ 2 * (q * y)
twice q y = rw (zero-add, mul_assoc)

twice_one : (q y : ℕ) → (1 + 2 * q) * y ≡ y + 2 * (q * y)
twice_one q y = rw (add-mul, mul_assoc, one-mul)

module _ (x : Bool) (xs ys : List Bool) (ey : length ys ≡ suc (length xs)) (q r : List Bool) (d : Divided (suc (length xs)) (to_number xs) (to_number ys) q r) where
  abbrev sh : List Bool
  sh = x ∷ drop_top r

  sh_long : length sh ≡ suc (length xs)
  sh_long = ap suc (drop_top_length r (length xs) d.r_long)

  q_top_long : length (drop_top q) ≡ length xs
  q_top_long = drop_top_length q (length xs) d.q_long

  r_small : 0 < to_number ys → to_number r < 2 ^ length xs
  r_small p = let w = (d.right p).0 in omega (arith, to_number_lt xs)

  q_small : 0 < to_number ys → to_number q < 2 ^ length xs
  q_small p = let w = (d.right p).0 in omega (arith, to_number_lt xs, mul-le-mul_left (to_number q) p, mul-one (to_number q))

  sh_number : 0 < to_number ys → to_number sh ≡ bit x + 2 * to_number r
  sh_number p = rw (drop_top_number r (length xs) d.r_long (r_small p))

  abbrev diff : List Bool
  diff = ripple_carry_adder bool_gates true sh (map not ys)

  diff_long : length diff ≡ length sh
  diff_long = long_difference sh ys (sh_long ∙ sym ey)

  bit_small : bit x ≤ 1
  bit_small = go x
    where
      go : (b : Bool) → bit b ≤ 1
      go true = omega arith
      go false = omega arith

  -- by the two carries: of x - y, and of the shifted remainder less y
  by_carries : (c2 c1 : Bool) → carry_out bool_gates true (x ∷ xs) (map not ys) ≡ c2 → carry_out bool_gates true sh (map not ys) ≡ c1
      → Divided (suc (length xs)) (to_number (x ∷ xs)) (to_number ys)
      (map (λ (b : Bool). cond (not c2) false b) (cond (not c1) false true ∷ drop_top q))
      (choose bool_gates (not c2) (x ∷ xs) (choose bool_gates (not c1) sh diff))
  by_carries false c1 e2 e1 =
      rw (choose_true (x ∷ xs) (choose bool_gates (not c1) sh diff) (sym (choose_length (not c1) sh diff (sym diff_long) ∙ sh_long)))
      (record {
        q_long = ap suc (length-map (drop_top q) _ ∙ q_top_long);
        r_long = refl;
        right = λ p. (rw (false_zero (drop_top q), zero-mul, zero-add) refl, sub_borrow (x ∷ xs) ys (sym ey) e2);
      })
  by_carries true false e2 e1 =
      rw (kept false (drop_top q), choose_true sh diff (sym diff_long), choose_false (x ∷ xs) sh (sym sh_long))
      (record {
        q_long = ap suc q_top_long;
        r_long = sh_long;
        right = λ p. (
          rw (drop_top_number q (length xs) d.q_long (q_small p), twice (to_number q) (to_number ys)) (let w = (d.right p).0 in omega (arith, sh_number p)),
          sub_borrow sh ys (sh_long ∙ sym ey) e1,
        );
      })
  by_carries true true e2 e1 =
      rw (kept false (drop_top q), choose_false sh diff (sym diff_long), choose_false (x ∷ xs) diff (sym (diff_long ∙ sh_long)))
      (record {
        q_long = ap suc q_top_long;
        r_long = diff_long ∙ sh_long;
        right = λ p. (
          rw (drop_top_number q (length xs) d.q_long (q_small p), twice_one (to_number q) (to_number ys))
              (let w = (d.right p).0 in omega (arith, sh_number p, sub_carry sh ys (sh_long ∙ sym ey) e1)),
          (let w = (d.right p).1 in omega (arith, sh_number p, bit_small, sub_carry sh ys (sh_long ∙ sym ey) e1)),
        );
      })

  step_divides : Divided (suc (length xs)) (to_number (x ∷ xs)) (to_number ys) (divide_step bool_gates true x xs ys (q, r)).0 (divide_step bool_gates true x xs ys (q, r)).1
  unfolding divide_step
  step_divides = rw (next_is x r) (by_carries (carry_out bool_gates true (x ∷ xs) (map not ys)) (carry_out bool_gates true sh (map not ys)) refl refl)

quotient : {n x y : ℕ} {q r : List Bool} → Divided n x y q r → 0 < y → to_number q ≡ x / y
quotient {q = q} d p = let w = d.right p in sym (rw (← w.0) (digits_div (to_number q) w.1))

remainder : {n x y : ℕ} {q r : List Bool} → Divided n x y q r → 0 < y → to_number r ≡ x % y
remainder {q = q} d p = let w = d.right p in sym (rw (← w.0) (digits_mod (to_number q) w.1))

-- ---- the circuit of terms: what it reads as
module _ (ρ : Assign) where
  abbrev Reads : List Term → List Bool → Type 0
  Reads ts bs = map (value ρ) ts ≡ map truth bs

  head_reads : (x : Term) (c : Bool) (xs : List Term) (cs : List Bool) → Reads (x ∷ xs) (c ∷ cs) → value ρ x ≡ truth c
  head_reads x c xs cs r = cc

  tail_reads : (x : Term) (c : Bool) (xs : List Term) (cs : List Bool) → Reads (x ∷ xs) (c ∷ cs) → Reads xs cs
  tail_reads x c xs cs r = cc

  -- a quotient and a remainder that are read
  record Reading (n x y : ℕ) (qr : List Term × List Term) : Type 0 where
    q : List Bool
    r : List Bool
    reads_q : Reads qr.0 q
    reads_r : Reads qr.1 r
    divides : Divided n x y q r

  step_reads : (x : Term) (c : Bool) (xs ys : List Term) (cs bs : List Bool) → Reads (x ∷ xs) (c ∷ cs) → Reads ys bs
      → (qr : List Term × List Term) (q r : List Bool) → Reads qr.0 q → Reads qr.1 r
      → both (value ρ) (divide_step term_gates true x xs ys qr) ≡ both truth (divide_step bool_gates true c cs bs (q, r))
  step_reads x c xs ys cs bs rx ry qr q r rq rr =
      divide_step_hom (fold_hom (meaning ρ)) true x xs ys qr
      ∙ rw (head_reads x c xs cs rx, tail_reads x c xs cs rx, ry, rq, rr) (sym (divide_step_hom (truth_hom ρ) true c cs bs (q, r)))

  zero_reading : (xs : List Term) (cs : List Bool) (y : ℕ) → Reads xs cs → to_number cs ≡ 0 → Reading (length cs) (to_number cs) y (falses term_gates xs, falses term_gates xs)
  zero_reading xs cs y r e =
      let f : Reads (falses term_gates xs) (falses bool_gates cs)
      = falses_hom (fold_hom (meaning ρ)) xs ∙ ap (falses (vals ρ)) r ∙ sym (falses_hom (truth_hom ρ) cs) in
      record {
        q = falses bool_gates cs;
        r = falses bool_gates cs;
        reads_q = f;
        reads_r = f;
        divides = record {
          q_long = length-map cs _;
          r_long = length-map cs _;
          right = λ p. (rw (false_zero cs, zero-mul, e), rw (false_zero cs) p);
        };
      }

  false_reads : (x : Term) (c : Bool) → T (literally_false x) → value ρ x ≡ truth c → c ≡ false
  false_reads x c h e = truth_inj (sym e ∙ ap (value ρ) (same_eq x (node False nil) h) ∙ false_value ρ)
    where
      truth_inj : truth c ≡ truth false → c ≡ false
      truth_inj d = cc

  all_false_zero : (xs : List Term) (cs : List Bool) → Reads xs cs → T (all_false term_gates literally_false xs) → to_number cs ≡ 0
  all_false_zero [] [] r h = refl
  all_false_zero [] (c ∷ cs) r h = absurd (let z = ap length r in omega arith)
  all_false_zero (x ∷ xs) [] r h = absurd (let z = ap length r in omega arith)
  all_false_zero (x ∷ xs) (c ∷ cs) r h =
      rw (false_reads x c (and_l (literally_false x) _ h) (head_reads x c xs cs r))
      (omega (arith, all_false_zero xs cs (tail_reads x c xs cs r) (and_r (literally_false x) _ h)))

  shifted_reads : (xs : List Term) (cs : List Bool) → Reads xs cs → Reads (xs ++ (node False nil ∷ [])) (cs ++ (false ∷ []))
  shifted_reads xs cs r =
      map_append (value ρ) xs (node False nil ∷ []) ∙ ap₂ (λ (us vs : List Val). us ++ vs) r (ap (λ (v : Val). v ∷ []) (false_value ρ)) ∙ sym (map_append truth cs (false ∷ []))

  shifted_number : (cs : List Bool) → to_number (cs ++ (false ∷ [])) ≡ to_number cs
  shifted_number cs = to_number_append cs (false ∷ []) ∙ no_more (2 ^ length cs)
    where
      no_more : (z : ℕ) → to_number cs + z * (0 + 2 * 0) ≡ to_number cs
      no_more z = omega arith

  shifted_long : (cs : List Bool) → length (cs ++ (false ∷ [])) ≡ suc (length cs)
  shifted_long cs = length-append cs (false ∷ []) ∙ omega arith

  halved : (c : Bool) (cs : List Bool) (n : ℕ) → to_number (c ∷ cs) < 2 ^ suc n → to_number cs < 2 ^ n
  halved c cs n h = let b : bit c + 2 * to_number cs < 2 ^ n * 2 = rw pow-suc at h in omega arith

  rec_reads : (n : ℕ) (xs ys : List Term) (cs bs : List Bool) → Reads xs cs → Reads ys bs → length cs ≡ length bs → to_number cs < 2 ^ n
      → Reading (length cs) (to_number cs) (to_number bs) (bitblast_udiv_urem_rec term_gates true literally_false n xs ys)
  unfolding bitblast_udiv_urem_rec
  rec_reads zero xs ys cs bs rx ry e h = zero_reading xs cs (to_number bs) rx (omega arith)
  rec_reads (suc n) [] ys [] bs rx ry e h = zero_reading [] [] (to_number bs) refl refl
  rec_reads (suc n) [] ys (c ∷ cs) bs rx ry e h = absurd (let z = ap length rx in omega arith)
  rec_reads (suc n) (x ∷ xs) ys [] bs rx ry e h = absurd (let z = ap length rx in omega arith)
  rec_reads (suc n) (x ∷ xs) ys (c ∷ cs) bs rx ry e h =
      go (all_false term_gates literally_false (x ∷ xs)) (all_false_zero (x ∷ xs) (c ∷ cs) rx)
      (bitblast_udiv_urem_rec term_gates true literally_false n (xs ++ (node False nil ∷ [])) ys)
      (rw (shifted_long cs, shifted_number cs) at
      (rec_reads n (xs ++ (node False nil ∷ [])) ys (cs ++ (false ∷ [])) bs (shifted_reads xs cs (tail_reads x c xs cs rx)) ry (shifted_long cs ∙ e)
      (subst (λ (z : ℕ). z < 2 ^ n) (sym (shifted_number cs)) (halved c cs n h))))
    where
      go : (b : Bool) → (T b → to_number (c ∷ cs) ≡ 0) → (qr : List Term × List Term) → Reading (suc (length cs)) (to_number cs) (to_number bs) qr
          → Reading (suc (length cs)) (to_number (c ∷ cs)) (to_number bs)
          (elim b as (λ z. List Term × List Term) [ true ↦ (falses term_gates (x ∷ xs), falses term_gates (x ∷ xs)) | false ↦ divide_step term_gates true x xs ys qr ])
      go true f qr k = zero_reading (x ∷ xs) (c ∷ cs) (to_number bs) rx (f tt)
      go false f qr k =
          let s = step_reads x c xs ys cs bs rx ry qr k.q k.r k.reads_q k.reads_r in
          record {
            q = (divide_step bool_gates true c cs bs (k.q, k.r)).0;
            r = (divide_step bool_gates true c cs bs (k.q, k.r)).1;
            reads_q = ap (λ (z : List Val × List Val). z.0) s;
            reads_r = ap (λ (z : List Val × List Val). z.1) s;
            divides = step_divides c cs bs (sym e) k.q k.r k.divides;
          }

  zero_reads : (ys : List Term) (bs : List Bool) → Reads ys bs → value ρ (is_zero term_gates ys) ≡ truth (is_zero bool_gates bs)
  zero_reads ys bs r = is_zero_hom (fold_hom (meaning ρ)) ys ∙ ap (is_zero (vals ρ)) r ∙ sym (is_zero_hom (truth_hom ρ) bs)

-- ---- y is 0
zero_test : (bs : List Bool) → is_zero bool_gates bs ≡ eqb (to_number bs) 0
zero_test [] = refl
zero_test (true ∷ bs) = T_same false (eqb (1 + 2 * to_number bs) 0) (λ t. absurd t) (λ t. absurd (let z = eqb→eq (1 + 2 * to_number bs) 0 t in omega arith))
zero_test (false ∷ bs) =
    zero_test bs ∙ T_same (eqb (to_number bs) 0) (eqb (0 + 2 * to_number bs) 0)
    (λ t. let z = eqb→eq (to_number bs) 0 t in eq_eqb (0 + 2 * to_number bs) (omega arith))
    (λ t. let z = eqb→eq (0 + 2 * to_number bs) 0 t in eq_eqb (to_number bs) (omega arith))
  where
    eq_eqb : (k : ℕ) → k ≡ 0 → T (eqb k 0)
    eq_eqb k e = subst (λ (z : ℕ). T (eqb z 0)) (sym e) tt

above_zero : (y : ℕ) → eqb y 0 ≡ false → 0 < y
above_zero zero e = absurd (let z : ◌≡◌ {A = ℕ} 0 1 = cc in omega arith)
above_zero (suc y) e = omega arith

quotient_number : {n x y : ℕ} {q r : List Bool} → Divided n x y q r → to_number (map (λ (b : Bool). cond (eqb y 0) true b) q) ≡ udiv_n n x y
unfolding udiv_n
quotient_number {n} {x} {y} {q} {r} d = go (eqb y 0) refl
  where
    go : (b : Bool) → eqb y 0 ≡ b → to_number (map (λ (z : Bool). cond b true z) q) ≡ cond b (2 ^ n - 1) (x / y)
    go true e = let s = all_set q in let l = ap (λ (k : ℕ). 2 ^ k) d.q_long in omega arith
    go false e = ap to_number (kept true q) ∙ quotient d (above_zero y e)

remainder_number : {n : ℕ} {q r : List Bool} (xs : List Bool) (y : ℕ) → length xs ≡ n → Divided n (to_number xs) y q r → to_number (choose bool_gates (eqb y 0) xs r) ≡ urem_n n (to_number xs) y
unfolding urem_n
remainder_number {n} {q} {r} xs y l d = go (eqb y 0) refl
  where
    go : (b : Bool) → eqb y 0 ≡ b → to_number (choose bool_gates b xs r) ≡ cond b (to_number xs) (to_number xs % y)
    go true e = ap to_number (choose_true xs r (l ∙ sym d.r_long))
    go false e = ap to_number (choose_false xs r (l ∙ sym d.r_long)) ∙ remainder d (above_zero y e)

-- ---- rules 24 and 25
module _ (ρ : Assign) (x y : Term) (n : ℕ) (sx : sort_of x ≡ bv n) (sy : sort_of y ≡ bv n) where
  abbrev bx : Bits ρ x n
  bx = bits_of ρ x n sx

  abbrev by : Bits ρ y n
  by = bits_of ρ y n sy

  terms_long : length (get_term_bits x) ≡ length bx.bits
  terms_long = sym (length-map (get_term_bits x) (value ρ)) ∙ ap length bx.reads ∙ length-map bx.bits truth

  both_long : length bx.bits ≡ length by.bits
  both_long = bx.size ∙ sym by.size

  reading : Reading ρ (length bx.bits) (to_number bx.bits) (to_number by.bits) (bitblast_udiv_urem_rec term_gates true literally_false (length (get_term_bits x)) (get_term_bits x) (get_term_bits y))
  reading =
      rec_reads ρ (length (get_term_bits x)) (get_term_bits x) (get_term_bits y) bx.bits by.bits bx.reads by.reads both_long
      (subst (λ (k : ℕ). to_number bx.bits < 2 ^ k) (sym terms_long) (to_number_lt bx.bits))

  zero_value : value ρ (is_zero term_gates (get_term_bits y)) ≡ truth (eqb (to_number by.bits) 0)
  zero_value = zero_reads ρ (get_term_bits y) by.bits by.reads ∙ ap truth (zero_test by.bits)

  udiv_reads : map (value ρ) (udiv term_gates true literally_false (get_term_bits x) (get_term_bits y)) ≡ map truth (map (λ (b : Bool). cond (eqb (to_number by.bits) 0) true b) reading.q)
  unfolding udiv fold meaning
  udiv_reads =
      map_each (value ρ) (term_gates.ite_gate (is_zero term_gates (get_term_bits y)) term_gates.true_gate) ((vals ρ).ite_gate (value ρ (is_zero term_gates (get_term_bits y))) (vals ρ).true_gate)
      ((fold_hom (meaning ρ)).ite_hom (is_zero term_gates (get_term_bits y)) term_gates.true_gate) (bitblast_udiv_urem_rec term_gates true literally_false (length (get_term_bits x)) (get_term_bits x) (get_term_bits y)).0
      ∙ ap₂ (λ (v : Val) (l : List Val). map ((vals ρ).ite_gate v (vals ρ).true_gate) l) zero_value reading.reads_q
      ∙ sym (map_each truth (λ (b : Bool). cond (eqb (to_number by.bits) 0) true b) ((vals ρ).ite_gate (truth (eqb (to_number by.bits) 0)) (vals ρ).true_gate)
      ((truth_hom ρ).ite_hom (eqb (to_number by.bits) 0) true) reading.q)

  urem_reads : map (value ρ) (urem term_gates true literally_false (get_term_bits x) (get_term_bits y)) ≡ map truth (choose bool_gates (eqb (to_number by.bits) 0) bx.bits reading.r)
  unfolding urem
  urem_reads =
      choose_hom (fold_hom (meaning ρ)) (is_zero term_gates (get_term_bits y)) (get_term_bits x) (bitblast_udiv_urem_rec term_gates true literally_false (length (get_term_bits x)) (get_term_bits x) (get_term_bits y)).1
      ∙ rw (zero_value, bx.reads, reading.reads_r) (sym (choose_hom (truth_hom ρ) (eqb (to_number by.bits) 0) bx.bits reading.r))

  pub udiv_holds : value ρ (divided (udiv term_gates true) x y) ≡ value ρ (two BvUDiv x y)
  unfolding fold meaning
  udiv_holds =
      bb_value ρ (udiv term_gates true literally_false (get_term_bits x) (get_term_bits y)) (map (λ (b : Bool). cond (eqb (to_number by.bits) 0) true b) reading.q) udiv_reads
      ∙ ap₂ number (length-map reading.q _ ∙ reading.divides.q_long ∙ bx.size)
      (quotient_number reading.divides ∙ ap (λ (k : ℕ). udiv_n k (to_number bx.bits) (to_number by.bits)) bx.size)
      ∙ sym (ap₂ (num2 udiv_n) bx.means by.means)

  pub urem_holds : value ρ (divided (urem term_gates true) x y) ≡ value ρ (two BvURem x y)
  unfolding fold meaning
  urem_holds =
      bb_value ρ (urem term_gates true literally_false (get_term_bits x) (get_term_bits y)) (choose bool_gates (eqb (to_number by.bits) 0) bx.bits reading.r) urem_reads
      ∙ ap₂ number (choose_length (eqb (to_number by.bits) 0) bx.bits reading.r (sym reading.divides.r_long) ∙ bx.size)
      (remainder_number bx.bits (to_number by.bits) refl reading.divides ∙ ap (λ (k : ℕ). urem_n k (to_number bx.bits) (to_number by.bits)) bx.size)
      ∙ sym (ap₂ (num2 urem_n) bx.means by.means)
