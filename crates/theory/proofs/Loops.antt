-- The multiplier by index, as bitvectors.rs fills its three tables shift, carry and res: their last row is `shift_add_multiplier`.
use mathlib.Core.Path.{◌≡◌, refl, ap, ap₂, sym, fun_ext, ◌∙◌}
use mathlib.Core.List.{List, [], ◌∷◌}
use Prim.Native.Nat.{ℕ, zero, suc, ◌+◌, ◌-◌, ◌≤◌, ◌<◌, zero-le, suc-le-suc}
use native.Mathlib.Nat.{le_of_suc-le-suc, not-suc-le-zero, le_refl, add-zero, zero-add, add-suc}
use native.Mathlib.Decide.{dec_le}
use native.Mathlib.Omega.{arith}
use lib.ListN.{length, get_or}
use borrow.Author.Tests.{le-leb, lt-leb}
use Rattle.theory.specs.Gates.{Gates}
use Rattle.theory.specs.Circuit.{ripple_carry_adder, next_carry, sum_bit, partial_products, add_rows, shift_add_multiplier}
use Rattle.theory.specs.Move.{bits, bit_of}
use Rattle.theory.specs.Alethe.{ripple, sh, res, carry}
use Rattle.theory.proofs.Indexed.{cond_true, cond_false, get_or_bits, list_bits, map_bits, adder_bits}

-- ---- the three tables of bitvectors.rs, as its loops fill them: for n bits, at every row j < n and place i < n. A row's number is written `suc j` where it is not 0

pub record Tables {T : Type 0} (G : Gates T) (x y : ℕ → T) (n : ℕ) (shift carries result : ℕ → ℕ → T) : Type 0 where
  pub shift_at : (j i : ℕ) → j ≤ i → i < n → shift j i ≡ G.and_gate (y j) (x (i - j))
  pub shift_below : (j i : ℕ) → i < j → j < n → shift j i ≡ G.false_gate
  pub carry_none : (i : ℕ) → i < n → carries 0 i ≡ G.false_gate
  pub carry_start : (j i : ℕ) → i ≤ suc j → suc j < n → carries (suc j) i ≡ G.false_gate
  pub carry_next : (j i : ℕ) → suc j < suc i → suc i < n
      → carries (suc j) (suc i)
      ≡ G.or_gate (G.and_gate (result j i) (shift (suc j) i)) (G.and_gate (G.xor_gate (result j i) (shift (suc j) i)) (carries (suc j) i))
  pub first_row : (i : ℕ) → i < n → result 0 i ≡ shift 0 i
  pub first_place : (j : ℕ) → suc j < n → result (suc j) 0 ≡ shift 0 0
  pub kept : (j i : ℕ) → i < suc j → zero < i → suc j < n → result (suc j) i ≡ result i i
  pub summed : (j i : ℕ) → suc j ≤ i → i < n
      → result (suc j) i ≡ G.xor_gate (G.xor_gate (result j i) (shift (suc j) i)) (carries (suc j) i)

-- ---- the equations of the tables

module _ {T : Type 0} (G : Gates T) (r s : ℕ → T) where
  pub ripple_low : (j i : ℕ) → i ≤ j → ripple G r s j i ≡ G.false_gate
  ripple_low j zero h = refl
  ripple_low j (suc i) h = cond_false (next_carry G (r i) (s i) (ripple G r s j i)) G.false_gate (lt-leb j i h)

  pub ripple_step : (j i : ℕ) → j ≤ i → ripple G r s j (suc i) ≡ next_carry G (r i) (s i) (ripple G r s j i)
  ripple_step j i h = cond_true (next_carry G (r i) (s i) (ripple G r s j i)) G.false_gate (le-leb j i h)

module _ {T : Type 0} (G : Gates T) (x y : ℕ → T) where
  pub sh_at : (j i : ℕ) → j ≤ i → sh G x y j i ≡ G.and_gate (y j) (x (i - j))
  sh_at j i h = cond_true (G.and_gate (y j) (x (i - j))) G.false_gate (le-leb j i h)

  pub sh_below : (j i : ℕ) → i < j → sh G x y j i ≡ G.false_gate
  sh_below j i h = cond_false (G.and_gate (y j) (x (i - j))) G.false_gate (lt-leb j i h)

  pub carry_low : (j i : ℕ) → i ≤ j → carry G x y j i ≡ G.false_gate
  carry_low zero i h = refl
  carry_low (suc j) i h = ripple_low G (res G x y j) (sh G x y (suc j)) (suc j) i h

  pub carry_step : (j i : ℕ) → suc j ≤ i
      → carry G x y (suc j) (suc i) ≡ next_carry G (res G x y j i) (sh G x y (suc j) i) (carry G x y (suc j) i)
  carry_step j i h = ripple_step G (res G x y j) (sh G x y (suc j)) (suc j) i h

  pub res_keep : (j i : ℕ) → i ≤ j → res G x y (suc j) i ≡ res G x y j i
  res_keep j i h =
      cond_true (res G x y j i) (sum_bit G (res G x y j i) (sh G x y (suc j) i) (carry G x y (suc j) i)) (le-leb i j h)

  pub res_sum : (j i : ℕ) → suc j ≤ i
      → res G x y (suc j) i ≡ sum_bit G (res G x y j i) (sh G x y (suc j) i) (carry G x y (suc j) i)
  res_sum j i h =
      cond_false (res G x y j i) (sum_bit G (res G x y j i) (sh G x y (suc j) i) (carry G x y (suc j) i)) (lt-leb i j h)

  -- a place keeps its value from its own row on
  pub res_stable : (m j i : ℕ) → i ≤ j → res G x y (j + m) i ≡ res G x y j i
  res_stable zero j i h = rw (add-zero j)
  res_stable (suc m) j i h = rw (add-suc j m) (res_keep (j + m) i (omega arith) ∙ res_stable m j i h)

  -- for a place below a row, the row has what the place's own row has
  pub res_own : (j i : ℕ) → i ≤ j → res G x y j i ≡ res G x y i i
  res_own j i h = let e : j ≡ i + (j - i) = omega arith in ap (λ (k : ℕ). res G x y k i) e ∙ res_stable (j - i) i i (le_refl i)

  pub res_first : (j : ℕ) → res G x y j 0 ≡ sh G x y 0 0
  res_first j = res_own j 0 zero-le

-- ---- the two forms
module _ {T : Type 0} (G : Gates T) (x y : ℕ → T) where
  -- row j by itself, from its own place on
  shifted_bits : (j n : ℕ) → partial_products G (y j) (bits n x) ≡ bits n (λ i. sh G x y j (j + i))
  shifted_bits j n =
      map_bits (G.and_gate (y j)) n x
      ∙ ap (bits n) (fun_ext (λ i. ap (λ (k : ℕ). G.and_gate (y j) (x k)) (place i) ∙ sym (sh_at G x y j (j + i) (omega arith))))
    where
      place : (i : ℕ) → i ≡ j + i - j
      place i = omega arith

  -- row j + 1 added, from its own place on
  row_bits : (j m n : ℕ) → m ≤ n
      → ripple_carry_adder G G.false_gate (bits m (λ i. res G x y j (suc j + i))) (partial_products G (y (suc j)) (bits n x))
      ≡ bits m (λ i. res G x y (suc j) (suc j + i))
  row_bits j m n h =
      ap₂ (λ (c : T) (row : List T). ripple_carry_adder G c (bits m (λ i. res G x y j (suc j + i))) row) start (shifted_bits (suc j) n)
      ∙ adder_bits G m n (λ i. res G x y j (suc j + i)) (λ i. sh G x y (suc j) (suc j + i)) (λ i. carry G x y (suc j) (suc j + i)) h step
      ∙ ap (bits m) (fun_ext (λ i. sym (res_sum G x y j (suc j + i) (omega arith))))
    where
      start : G.false_gate ≡ carry G x y (suc j) (suc j + 0)
      start = sym (carry_low G x y (suc j) (suc j + 0) (omega arith))

      step : (i : ℕ) → carry G x y (suc j) (suc j + suc i) ≡ next_carry G (res G x y j (suc j + i)) (sh G x y (suc j) (suc j + i)) (carry G x y (suc j) (suc j + i))
      step i = ap (carry G x y (suc j)) (add-suc (suc j) i) ∙ carry_step G x y j (suc j + i) (omega arith)

  -- all rows after row j
  rows_bits : (m j n : ℕ) → suc m ≤ n
      → add_rows G (bits n x) (bits (suc m) (λ i. res G x y j (j + i))) (bits m (λ i. y (suc j + i))) ≡ bits (suc m) (λ i. res G x y (j + m) (j + i))
  unfolding add_rows
  rows_bits zero j n h = ap (λ (k : ℕ). res G x y k (j + 0) ∷ []) (sym (add-zero j))
  rows_bits (suc m) j n h =
      ap₂ (λ (z : T) (zs : List T). z ∷ zs) (sym (res_stable G x y (suc m) j (j + 0) (omega arith)))
      (ap₂ (add_rows G (bits n x)) next (ap (bits m) (fun_ext (λ i. ap y (shift (suc j) i))))
      ∙ rows_bits m (suc j) n (omega arith)
      ∙ ap (bits (suc m)) (fun_ext (λ i. ap₂ (res G x y) (sym (shift j m)) (sym (shift j i)))))
    where
      shift : (k i : ℕ) → k + suc i ≡ suc k + i
      shift k i = omega arith

      next : ripple_carry_adder G G.false_gate (bits (suc m) (λ i. res G x y j (j + suc i))) (partial_products G (y (suc j + 0)) (bits n x))
          ≡ bits (suc m) (λ i. res G x y (suc j) (suc j + i))
      next =
          ap₂ (λ (acc : List T) (b : T). ripple_carry_adder G G.false_gate acc (partial_products G b (bits n x)))
          (ap (bits (suc m)) (fun_ext (λ i. ap (res G x y j) (shift j i)))) (ap y (add-zero (suc j)))
          ∙ row_bits j (suc m) n (omega arith)

  -- bit i of the product is place i of the last row
  pub mult_bits : (n : ℕ) → shift_add_multiplier G (bits (suc n) x) (bits (suc n) y) ≡ bits (suc n) (res G x y n)
  unfolding shift_add_multiplier
  mult_bits n =
      ap₂ (add_rows G (bits (suc n) x)) (shifted_bits 0 (suc n)) (ap (bits n) (fun_ext (λ i. ap y (suc_one i))))
      ∙ rows_bits n 0 (suc n) (le_refl (suc n))
      ∙ ap (bits (suc n)) (fun_ext (λ i. ap₂ (res G x y) (zero-add n) (zero-add i)))
    where
      suc_one : (i : ℕ) → suc i ≡ 1 + i
      suc_one i = omega arith

-- ---- the tables
module _ {T : Type 0} (G : Gates T) (x y : ℕ → T) (n : ℕ) (shift carries result : ℕ → ℕ → T) (t : Tables G x y n shift carries result) where
  shift_same : (j i : ℕ) → j ≤ i → i < n → shift j i ≡ sh G x y j i
  shift_same j i h k = t.shift_at j i h k ∙ sym (sh_at G x y j i h)

  -- the carries of row j + 1, from row j's places
  carry_same : (j : ℕ) → ((i : ℕ) → j ≤ i → i < n → result j i ≡ res G x y j i)
      → (i : ℕ) → suc j ≤ i → i < n → carries (suc j) i ≡ carry G x y (suc j) i
  carry_same j e zero h k = absurd (not-suc-le-zero h)
  carry_same j e (suc i) h k = by (dec_le (suc j) i) (carry_same j e i)
    where
      by : Dec (suc j ≤ i) → (suc j ≤ i → i < n → carries (suc j) i ≡ carry G x y (suc j) i) → carries (suc j) (suc i) ≡ carry G x y (suc j) (suc i)
      by (yes g) ih =
          cc (t.carry_next j i (suc-le-suc g) k, ih g (omega arith), e i (omega arith) (omega arith), shift_same (suc j) i g (omega arith), carry_step G x y j i g)
      by (no g) ih =
          t.carry_start j (suc i) (omega arith) (omega arith) ∙ sym (carry_low G x y (suc j) (suc i) (omega arith))

  -- a row, from its own place on
  upper_same : (j i : ℕ) → j ≤ i → i < n → result j i ≡ res G x y j i
  upper_same zero i h k = t.first_row i k ∙ shift_same 0 i h k
  upper_same (suc j) i h k = go (upper_same j)
    where
      go : ((i : ℕ) → j ≤ i → i < n → result j i ≡ res G x y j i) → result (suc j) i ≡ res G x y (suc j) i
      go e =
          cc (t.summed j i h k, carry_same j e i h k, e i (omega arith) k, shift_same (suc j) i h k, res_sum G x y j i h)

  lower_same : (j i : ℕ) → i < j → j < n → result j i ≡ res G x y j i
  lower_same zero i h k = absurd (not-suc-le-zero h)
  lower_same (suc j) zero h k = t.first_place j k ∙ shift_same 0 0 zero-le (omega arith) ∙ sym (res_own G x y (suc j) 0 zero-le)
  lower_same (suc j) (suc i) h k =
      t.kept j (suc i) h (omega arith) k ∙ upper_same (suc i) (suc i) (le_refl (suc i)) (omega arith) ∙ sym (res_own G x y (suc j) (suc i) (omega arith))

  pub result_same : (j i : ℕ) → j < n → i < n → result j i ≡ res G x y j i
  result_same j i h k = by (dec_le j i)
    where
      by : Dec (j ≤ i) → result j i ≡ res G x y j i
      by (yes g) = upper_same j i g k
      by (no g) = lower_same j i (omega arith) h

-- the last row of such tables is the product, bit by bit
pub tables_mult : {T : Type 0} (G : Gates T) (d : T) (n : ℕ) (xs ys : List T) (shift carries result : ℕ → ℕ → T)
    → Tables G (bit_of d xs) (bit_of d ys) (suc n) shift carries result → length xs ≡ suc n → length ys ≡ suc n
    → (i : ℕ) → i < suc n → result n i ≡ get_or (shift_add_multiplier G xs ys) i d
tables_mult {T} G d n xs ys shift carries result t p q i h =
    result_same G (bit_of d xs) (bit_of d ys) (suc n) shift carries result t n i (le_refl (suc n)) h
    ∙ sym (ap (λ (l : List T). get_or l i d) (ap₂ (shift_add_multiplier G) (list_bits d xs p) (list_bits d ys q) ∙ mult_bits G (bit_of d xs) (bit_of d ys) n) ∙ get_or_bits (suc n) (res G (bit_of d xs) (bit_of d ys) n) d i h)

-- and there are such tables
pub tables_hold : {T : Type 0} (G : Gates T) (x y : ℕ → T) (n : ℕ) → Tables G x y n (sh G x y) (carry G x y) (res G x y)
tables_hold G x y n =
    record {
      shift_at = λ j i h k. sh_at G x y j i h;
      shift_below = λ j i h k. sh_below G x y j i h;
      carry_none = λ i h. refl;
      carry_start = λ j i h k. carry_low G x y (suc j) i h;
      carry_next = λ j i h k. carry_step G x y j i (le_of_suc-le-suc h);
      first_row = λ i h. refl;
      first_place = λ j h. res_first G x y (suc j);
      kept = λ j i h g k. res_own G x y (suc j) i (omega arith);
      summed = λ j i h k. res_sum G x y j i h;
    }
