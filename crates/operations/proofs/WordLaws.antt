-- The operations on machine numbers are theory's. Each law is read as: what the code computes ≡ the definition.
use Rattle.std.proofs.Common.{◌≡◌, ℕ, ◌+◌, ◌-◌, ◌*◌, ◌/◌, ◌%◌, ◌^◌, ◌<◌, ◌≤◌, Bool, true, false, cond, sym, ap, ◌∙◌, subst, ap₂, mod-eq_of_lt, sub-add_cancel, arith, pow_pos, pow_mono, shr_lt, le-ltb, lt-ltb, eq-eqb, ne_eqb}
use native.Mathlib.Nat.{mod_self}
use lib.Bits.{bit_and, bit_xor, and_mask, xor_lt}
use lib.Pow.{ones_split, ones_lt, high, mod-mod-pow}
use Rattle.theory.specs.Value.{bit_at, not_n, neg_n, xnor_n, add_n, mul_n, shl_n, lshr_n, top_copies, ashr_n, udiv_n, urem_n}
use Rattle.operations.specs.Width.{Wide}

pub pow_64 : (n : ℕ) → n ≤ 64 → 2 ^ n ≤ 18446744073709551616
pow_64 n h = pow_mono {i = n} {j = 64} h

pub ones_is : (n : ℕ) → Wide n → 18446744073709551615 / 2 ^ (64 - n) ≡ 2 ^ n - 1
ones_is n w =
    let m = 64 - n in
    let e : n + m ≡ 64 = omega (arith, w.most) in
    let f : 18446744073709551615 ≡ (2 ^ n - 1) * 2 ^ m + (2 ^ m - 1) = ap (λ (k : ℕ). 2 ^ k - 1) (sym e) ∙ ones_split n m in
    ap (λ (z : ℕ). z / 2 ^ m) f ∙ high (2 ^ n - 1) m (ones_lt m)

pub low_is : (n x r : ℕ) → r ≡ 2 ^ n - 1 → bit_and x r ≡ x % 2 ^ n
low_is n x r e = ap (bit_and x) e ∙ and_mask x n

-- the low bits of the low 64 bits
pub low_low : (n x : ℕ) → n ≤ 64 → x % 18446744073709551616 % 2 ^ n ≡ x % 2 ^ n
low_low n x h =
    let e : 64 - n + n ≡ 64 = omega arith in
    subst (λ (k : ℕ). x % 2 ^ k % 2 ^ n ≡ x % 2 ^ n) e (mod-mod-pow x (64 - n) n)

-- ---- one number
pub not_is : (n x r : ℕ) → r ≡ 2 ^ n - 1 → r - x ≡ not_n n x
unfolding not_n
not_is n x r e = ap (λ (z : ℕ). z - x) e

pub neg_zero : (n x : ℕ) → x ≡ 0 → 0 ≡ neg_n n x
unfolding neg_n
neg_zero n x e = sym (ap (λ (z : ℕ). (2 ^ n - z) % 2 ^ n) e ∙ ap (λ (z : ℕ). z % 2 ^ n) (let z : 2 ^ n - 0 ≡ 2 ^ n = omega arith in z) ∙ mod_self (2 ^ n))

pub neg_is : (n x r : ℕ) → r ≡ 2 ^ n - 1 → x < 2 ^ n → (x ≡ 0 → ⊥) → r - x + 1 ≡ neg_n n x
unfolding neg_n
neg_is n x r e h z =
    let f : r - x + 1 ≡ 2 ^ n - x = omega (arith, pow_pos n) in
    f ∙ sym (mod-eq_of_lt (less h z))
  where
    less : x < 2 ^ n → (x ≡ 0 → ⊥) → 2 ^ n - x < 2 ^ n
    less h z = omega arith

-- ---- two numbers
pub xnor_is : (n x y r : ℕ) → r ≡ 2 ^ n - 1 → r - bit_xor x y ≡ xnor_n n x y
unfolding xnor_n
xnor_is n x y r e = ap (λ (z : ℕ). z - bit_xor x y) e

pub xor_le : (n x y r : ℕ) → r ≡ 2 ^ n - 1 → x < 2 ^ n → y < 2 ^ n → bit_xor x y ≤ r
xor_le n x y r e h k = omega (arith, xor_lt n x y h k)

pub add_is : (n x y : ℕ) {r : ℕ} → n ≤ 64 → r ≡ (x + y) % 18446744073709551616 % 2 ^ n → r ≡ add_n n x y
unfolding add_n
add_is n x y h e = e ∙ low_low n (x + y) h

pub mul_is : (n x y : ℕ) {r : ℕ} → n ≤ 64 → r ≡ (x * y) % 18446744073709551616 % 2 ^ n → r ≡ mul_n n x y
unfolding mul_n
mul_is n x y h e = e ∙ low_low n (x * y) h

pub shl_is : (n x y r : ℕ) → n ≤ 64 → y < n → r ≡ (x * 2 ^ y) % 18446744073709551616 % 2 ^ n → r ≡ shl_n n x y
unfolding shl_n
shl_is n x y r h l e = e ∙ low_low n (x * 2 ^ y) h ∙ sym (ap (λ (b : Bool). cond b (x * 2 ^ y % 2 ^ n) 0) (lt-ltb y n l))

pub shl_out : (n x y : ℕ) → n ≤ y → 0 ≡ shl_n n x y
unfolding shl_n
shl_out n x y l = sym (ap (λ (b : Bool). cond b (x * 2 ^ y % 2 ^ n) 0) (le-ltb y n l))

pub lshr_is : (n x y : ℕ) → y < n → x / 2 ^ y ≡ lshr_n n x y
unfolding lshr_n
lshr_is n x y l = sym (ap (λ (b : Bool). cond b (x / 2 ^ y) 0) (lt-ltb y n l))

pub lshr_out : (n x y : ℕ) → n ≤ y → 0 ≡ lshr_n n x y
unfolding lshr_n
lshr_out n x y l = sym (ap (λ (b : Bool). cond b (x / 2 ^ y) 0) (le-ltb y n l))

pub udiv_zero : (n x y r : ℕ) → r ≡ 2 ^ n - 1 → y ≡ 0 → r ≡ udiv_n n x y
unfolding udiv_n
udiv_zero n x y r e z = e ∙ sym (ap (λ (b : Bool). cond b (2 ^ n - 1) (x / y)) (eq-eqb y 0 z))

pub udiv_is : (n x y : ℕ) → (y ≡ 0 → ⊥) → x / y ≡ udiv_n n x y
unfolding udiv_n
udiv_is n x y z = sym (ap (λ (b : Bool). cond b (2 ^ n - 1) (x / y)) (ne_eqb y 0 z))

pub urem_zero : (n x y : ℕ) → y ≡ 0 → x ≡ urem_n n x y
unfolding urem_n
urem_zero n x y z = sym (ap (λ (b : Bool). cond b x (x % y)) (eq-eqb y 0 z))

pub urem_is : (n x y : ℕ) → (y ≡ 0 → ⊥) → x % y ≡ urem_n n x y
unfolding urem_n
urem_is n x y z = sym (ap (λ (b : Bool). cond b x (x % y)) (ne_eqb y 0 z))

-- ---- the arithmetic shift
ashr_in : (n x y : ℕ) (b : Bool) → y < n → bit_at (n - 1) x ≡ b → ashr_n n x y ≡ x / 2 ^ y + cond b (2 ^ n - 2 ^ (n - y)) 0
unfolding ashr_n top_copies
ashr_in n x y b l e =
    ap₂ (λ (t c : Bool). cond t (x / 2 ^ y + cond c (2 ^ n - 2 ^ (n - y)) 0) (cond c (2 ^ n - 2 ^ (n - n)) 0)) (lt-ltb y n l) e

ashr_out : (n x y : ℕ) (b : Bool) → n ≤ y → bit_at (n - 1) x ≡ b → ashr_n n x y ≡ cond b (2 ^ n - 2 ^ (n - n)) 0
unfolding ashr_n top_copies
ashr_out n x y b l e =
    ap₂ (λ (t c : Bool). cond t (x / 2 ^ y + cond c (2 ^ n - 2 ^ (n - y)) 0) (cond c (2 ^ n - 2 ^ (n - n)) 0)) (le-ltb y n l) e

pub ashr_set : (n x y r s : ℕ) → y < n → bit_at (n - 1) x ≡ true → r ≡ 2 ^ n - 1 → s ≡ 2 ^ (n - y) - 1 → x / 2 ^ y + (r - s) ≡ ashr_n n x y
ashr_set n x y r s l e f g =
    let p = pow_pos n in
    let q = pow_pos (n - y) in
    let d : r - s ≡ 2 ^ n - 2 ^ (n - y) = omega arith in
    ap (λ (z : ℕ). x / 2 ^ y + z) d ∙ sym (ashr_in n x y true l e)

pub ashr_clear : (n x y : ℕ) → y < n → bit_at (n - 1) x ≡ false → x / 2 ^ y ≡ ashr_n n x y
ashr_clear n x y l e = (let d : x / 2 ^ y ≡ x / 2 ^ y + 0 = omega arith in d) ∙ sym (ashr_in n x y false l e)

pub ashr_full : (n x y r : ℕ) → n ≤ y → bit_at (n - 1) x ≡ true → r ≡ 2 ^ n - 1 → r ≡ ashr_n n x y
ashr_full n x y r l e f =
    f ∙ ap (λ (k : ℕ). 2 ^ n - 2 ^ k) (let z : 0 ≡ n - n = omega arith in z) ∙ sym (ashr_out n x y true l e)

pub ashr_none : (n x y : ℕ) → n ≤ y → bit_at (n - 1) x ≡ false → 0 ≡ ashr_n n x y
ashr_none n x y l e = sym (ashr_out n x y false l e)

-- the copies are above what is shifted
pub ashr_le : (n y r s : ℕ) → y ≤ n → r ≡ 2 ^ n - 1 → s ≡ 2 ^ (n - y) - 1 → s ≤ r
ashr_le n y r s l f g = omega (arith, pow_mono {i = n - y} {j = n} (omega arith))

pub ashr_fits : (n x y r s : ℕ) → n ≤ 64 → y ≤ n → x < 2 ^ n → r ≡ 2 ^ n - 1 → s ≡ 2 ^ (n - y) - 1 → x / 2 ^ y + (r - s) < 18446744073709551616
ashr_fits n x y r s h l b f g =
    let a : x / 2 ^ y < 2 ^ (n - y) = shr_lt (n - y) y (rw (sub-add_cancel l) b) in
    omega (arith, a, pow_64 n h, pow_mono {i = n - y} {j = n} (omega arith), pow_pos (n - y))
