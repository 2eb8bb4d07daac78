-- A sort behind a test: the tests on widths, values, bits and extensions.
use mathlib.Core.Path.{◌≡◌, refl, sym, ap}
use mathlib.Core.Bool.{Bool, true, false, ◌&&◌, and-false}
use Rattle.std.specs.Prelude.{Option}
use Rattle.std.specs.Bool.{then_some}
use Prim.Native.Nat.{ℕ, zero, suc, ◌*◌, ◌<◌}
use native.Mathlib.Omega.{arith}
use lib.Dec.{leb}
use borrow.Author.Tests.{lt-leb}
use Rattle.theory.specs.Limit.{max_width}
use Rattle.theory.specs.Sort.{Sort, bad, bv, good, guard, is_width, is_bv_sort, sort_width}
use Rattle.store.specs.declared.sorts.Sort.{Sort as Read}
use Rattle.store.specs.declared.sorts.Sort.TheVariants as R
use Rattle.store.specs.Sorts.{sort_read, sort_or_bad}

pub fails : (b : Bool) (s : Sort) → b ≡ false → bad ≡ guard b s
unfolding guard
fails true s e = absurd (let z : ◌≡◌ {A = ℕ} 0 1 = cc in omega arith)
fails false s e = refl

module _ (n : ℕ) where
  pub width_low : n < 1 → is_width n ≡ false
  width_low h = rw (lt-leb 1 n h)

  pub width_high : max_width < n → is_width n ≡ false
  width_high l = rw (lt-leb n max_width l) (and-false (leb 1 n))

-- k copies
many_bits : (k n : ℕ) → max_width < k → is_width (k * n) ≡ false
many_bits k zero h = width_low (k * 0) (omega arith)
many_bits k (suc n) h = width_high (k * suc n) (omega arith)

module _ {s : Sort} (k : ℕ) where
  pub copies_many : {n : ℕ} → s ≡ bv n → max_width < k → is_bv_sort s && is_width (k * sort_width s) ≡ false
  copies_many {n} e h = rw e (many_bits k n h)

-- ---- the code's sorts
-- what is there if a test passed
pub tested : (b : Bool) (s : Read) {r : Option Read} → r ≡ then_some b s → sort_or_bad r ≡ guard b (sort_read s)
unfolding guard
tested true s e = ap sort_or_bad e
tested false s e = ap sort_or_bad e

-- nothing fits where a bit-vector is asked for and there is no sort
pub unfit : {t : Sort} → bad ≡ t → (b : Bool) (s : Sort) → bad ≡ guard (is_bv_sort t && b) s
unfit {t} e b s = fails (is_bv_sort t && b) s (ap (λ (u : Sort). is_bv_sort u && b) (sym e))

-- a sort that is no bit-vector's
pub no_bits : (s : Read) → ((n : ℕ) → s ≡ R.Bv n → ⊥) → is_bv_sort (sort_read s) ≡ false
no_bits R.Bool f = refl
no_bits (R.Bv n) f = absurd (f n refl)

-- every sort of the code is one
pub good_read : (s : Read) → good (sort_read s) ≡ true
good_read R.Bool = refl
good_read (R.Bv n) = refl
