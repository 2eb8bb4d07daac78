-- The circuits on Bools are the operations on numbers.
use mathlib.Core.Path.{◌≡◌, refl, sym, ap, ap₂, ◌∙◌, subst}
use mathlib.Core.Bool.{Bool, true, false, ◌&&◌, ◌||◌, not, cond, beq}
use mathlib.Core.List.{List, [], ◌∷◌, map}
use Prim.Native.Nat.{ℕ, suc, ◌+◌, ◌-◌, ◌*◌, ◌/◌, ◌%◌, ◌^◌, ◌<◌, ◌≤◌, min, max}
use native.Mathlib.Nat.{pow-succ', mul_comm, add_comm, add-zero}
use native.Mathlib.Omega.{arith}
use lib.Arith.{digits_mod, digits_div}
use mathlib.Core.Logic.{◌≢◌}
use lib.Bits.{bit_and, bit_or, bit_xor, and_step, or_step, xor_step, differ}
use lib.Dec.{T, eqb→eq, eqb_refl, ltb, eqb, ltb→lt, lt→ltb, nltb→le}
use lib.IntN.{sub_ℕ, pos, negsuc}
use lib.ListN.{length, length-map}
use lib.Signed.{lt_z}
use Rattle.theory.specs.Value.{bit, to_number, bit_at, xor, all_true, signed}
use Rattle.theory.specs.Gates.{Gates, bool_gates}
use Rattle.theory.specs.Circuit.{ripple_carry_adder, carry_out, negate, ult_from, bitblast_ult, slt_from, slt, zip_with, gather, equality, sum_bit, next_carry, less_step, sign_step}
use Rattle.theory.proofs.Sound.{to_number_lt}
use Rattle.theory.proofs.Basics.{T_same}

-- two lists of one length
pub data Pair {A B : Type 0} : List A → List B → Type 0 where
  end : Pair [] []
  next : {x : A} {y : B} {xs : List A} {ys : List B} → Pair xs ys → Pair (x ∷ xs) (y ∷ ys)

pub pair : {A B : Type 0} (xs : List A) (ys : List B) → length xs ≡ length ys → Pair xs ys
pair [] [] e = end
pair [] (y ∷ ys) e = absurd (omega arith)
pair (x ∷ xs) [] e = absurd (omega arith)
pair (x ∷ xs) (y ∷ ys) e = next (pair xs ys (omega arith))

-- ---- Boolean tests of numbers
pub ltb_same : (a b c d : ℕ) → (a < b → c < d) → (c < d → a < b) → ltb a b ≡ ltb c d
ltb_same a b c d f g =
    T_same (ltb a b) (ltb c d) (λ t. lt→ltb c d (f (ltb→lt a b t))) (λ t. lt→ltb a b (g (ltb→lt c d t)))

-- ---- the adder
full : (x y c : Bool) → bit (sum_bit bool_gates x y c) + 2 * bit (next_carry bool_gates x y c) ≡ bit x + bit y + bit c
full true true true = refl
full true true false = refl
full true false true = refl
full true false false = refl
full false true true = refl
full false true false = refl
full false false true = refl
full false false false = refl

pub adder_sum : (c : Bool) {xs ys : List Bool} → Pair xs ys
    → to_number (ripple_carry_adder bool_gates c xs ys) + 2 ^ length xs * bit (carry_out bool_gates c xs ys) ≡ to_number xs + to_number ys + bit c
unfolding ripple_carry_adder carry_out
adder_sum c end = omega arith
adder_sum c (next {x} {y} {xs} {ys} p) =
    rw pow-succ' (omega (arith, full x y c, adder_sum (next_carry bool_gates x y c) p))

pub adder_length : {A : Type 0} (G : Gates A) (c : A) {xs ys : List A} → Pair xs ys → length (ripple_carry_adder G c xs ys) ≡ length xs
unfolding ripple_carry_adder
adder_length G c end = refl
adder_length G c (next {x} {y} p) = ap suc (adder_length G (next_carry G x y c) p)

mod_of : (m r q s : ℕ) → r < m → r + m * q ≡ s → r ≡ s % m
mod_of m r q s h e = sym (digits_mod q h) ∙ ap (λ (z : ℕ). z % m) (cc (add_comm (q * m) r, mul_comm q m))

pub adder_mod : (c : Bool) {xs ys : List Bool} → Pair xs ys
    → to_number (ripple_carry_adder bool_gates c xs ys) ≡ (to_number xs + to_number ys + bit c) % 2 ^ length xs
adder_mod c {xs} {ys} p =
    mod_of (2 ^ length xs) _ (bit (carry_out bool_gates c xs ys)) _
    (rw (adder_length bool_gates c p) at (to_number_lt (ripple_carry_adder bool_gates c xs ys))) (adder_sum c p)

-- ---- negate
pub not_sum : (xs : List Bool) → to_number (map not xs) + to_number xs + 1 ≡ 2 ^ length xs
not_sum [] = refl
not_sum (true ∷ xs) = rw pow-succ' (omega (arith, not_sum xs))
not_sum (false ∷ xs) = rw pow-succ' (omega (arith, not_sum xs))

pub false_zero : (xs : List Bool) → to_number (map (λ (x : Bool). false) xs) ≡ 0
false_zero [] = refl
false_zero (x ∷ xs) = omega (arith, false_zero xs)

pub negate_mod : (xs : List Bool) → to_number (negate bool_gates xs) ≡ (2 ^ length xs - to_number xs) % 2 ^ length xs
negate_mod xs =
    adder_mod true (pair (map not xs) (map (λ (x : Bool). false) xs) (rw (length-map, length-map)))
    ∙ rw (length-map, false_zero) (ap (λ (z : ℕ). z % 2 ^ length xs) (omega (arith, not_sum xs)))

not_pair : (xs : List Bool) → Pair (map not xs) (map (λ (x : Bool). false) xs)
not_pair xs = pair (map not xs) (map (λ (x : Bool). false) xs) (rw (length-map, length-map))

pub negate_length : (xs : List Bool) → length (negate bool_gates xs) ≡ length xs
negate_length xs = adder_length bool_gates true (not_pair xs) ∙ rw length-map

-- ---- ult
-- the step's result is 1 exactly where x is below y + r
less_bound : (x y r : Bool)
    → (bit y + bit r ≤ bit x + 2 * bit (less_step bool_gates x y r)) × (bit x + 2 * bit (less_step bool_gates x y r) ≤ bit y + bit r + 1)
less_bound true true true = omega arith
less_bound true true false = omega arith
less_bound true false true = omega arith
less_bound true false false = omega arith
less_bound false true true = omega arith
less_bound false true false = omega arith
less_bound false false true = omega arith
less_bound false false false = omega arith

less_bits : (x y r : Bool) (a b : ℕ)
    → ltb a (b + bit (less_step bool_gates x y r)) ≡ ltb (bit x + 2 * a) (bit y + 2 * b + bit r)
less_bits x y r a b =
    let h = less_bound x y r in
    ltb_same a (b + bit (less_step bool_gates x y r)) (bit x + 2 * a) (bit y + 2 * b + bit r) (omega arith) (omega arith)

pub ult_from_lt : (r : Bool) {xs ys : List Bool} → Pair xs ys → ult_from bool_gates r xs ys ≡ ltb (to_number xs) (to_number ys + bit r)
unfolding ult_from
ult_from_lt true end = refl
ult_from_lt false end = refl
ult_from_lt r (next {x} {y} {xs} {ys} p) =
    ult_from_lt (less_step bool_gates x y r) p ∙ less_bits x y r (to_number xs) (to_number ys)

-- the first step is the others' with r false
ult_start : (bs cs : List Bool) → bitblast_ult bool_gates bs cs ≡ ult_from bool_gates false bs cs
unfolding bitblast_ult ult_from
ult_start [] cs = refl
ult_start (x ∷ xs) [] = refl
ult_start (true ∷ xs) (true ∷ ys) = refl
ult_start (true ∷ xs) (false ∷ ys) = refl
ult_start (false ∷ xs) (true ∷ ys) = refl
ult_start (false ∷ xs) (false ∷ ys) = refl

pub ult_lt : {xs ys : List Bool} → Pair xs ys → bitblast_ult bool_gates xs ys ≡ ltb (to_number xs) (to_number ys)
ult_lt {xs} {ys} p = ult_start xs ys ∙ ult_from_lt false p ∙ rw add-zero

pub ltb_yes : (a b : ℕ) → a < b → true ≡ ltb a b
ltb_yes a b h = T_same true (ltb a b) (λ t. lt→ltb a b h) (λ t. tt)

pub ltb_no : (a b : ℕ) → b ≤ a → false ≡ ltb a b
ltb_no a b h = T_same false (ltb a b) (λ t. absurd t) (λ t. absurd (clash (ltb→lt a b t)))
  where
    clash : a < b → ⊥
    clash k = omega arith

-- ---- slt: on Bools it is ult with the top bits inverted
unfoldable pub flip : List Bool → List Bool
flip [] = []
flip (x ∷ []) = not x ∷ []
flip (x ∷ x' ∷ xs) = x ∷ flip (x' ∷ xs)

flip_pair : {xs ys : List Bool} → Pair xs ys → Pair (flip xs) (flip ys)
unfolding flip
flip_pair end = end
flip_pair (next end) = next end
flip_pair (next (next p)) = next (flip_pair (next p))

sign_less : (x y r : Bool) → sign_step bool_gates x y r ≡ less_step bool_gates (not x) (not y) r
sign_less true true r = refl
sign_less true false r = refl
sign_less false true r = refl
sign_less false false r = refl

slt_from_flip : (r : Bool) {xs ys : List Bool} → Pair xs ys → slt_from bool_gates r xs ys ≡ ult_from bool_gates r (flip xs) (flip ys)
unfolding slt_from ult_from flip
slt_from_flip r end = refl
slt_from_flip r (next {x} {y} end) = sign_less x y r
slt_from_flip r (next {x} {y} (next p)) = slt_from_flip (less_step bool_gates x y r) (next p)

slt_one : (x y : Bool) → x && not y ≡ not (not x) && not y
slt_one true y = refl
slt_one false y = refl

pub slt_flip : {xs ys : List Bool} → Pair xs ys → slt bool_gates xs ys ≡ bitblast_ult bool_gates (flip xs) (flip ys)
unfolding slt bitblast_ult ult_from flip
slt_flip end = refl
slt_flip (next {x} {y} end) = slt_one x y
slt_flip (next {x} {y} (next p)) = slt_from_flip (not x && y) (next p)

-- the top bit and the number below it
unfoldable pub top : List Bool → Bool
top [] = false
top (x ∷ []) = x
top (x ∷ x' ∷ xs) = top (x' ∷ xs)

unfoldable pub low : List Bool → ℕ
low [] = 0
low (x ∷ []) = 0
low (x ∷ x' ∷ xs) = bit x + 2 * low (x' ∷ xs)

low_lt : (x : Bool) (xs : List Bool) → low (x ∷ xs) < 2 ^ length xs
unfolding low
low_lt x [] = omega arith
low_lt true (x' ∷ xs) = rw pow-succ' (omega (arith, low_lt x' xs))
low_lt false (x' ∷ xs) = rw pow-succ' (omega (arith, low_lt x' xs))

low_top : (x : Bool) (xs : List Bool) → bit (top (x ∷ xs)) * 2 ^ length xs + low (x ∷ xs) ≡ to_number (x ∷ xs)
unfolding low top
low_top true [] = refl
low_top false [] = refl
low_top x (x' ∷ xs) = rw pow-succ' (omega (arith, low_top x' xs))

flip_top : (x : Bool) (xs : List Bool)
    → to_number (flip (x ∷ xs)) + bit (top (x ∷ xs)) * 2 ^ length xs ≡ 2 ^ length xs + low (x ∷ xs)
unfolding flip low top
flip_top true [] = refl
flip_top false [] = refl
flip_top x (x' ∷ xs) = rw pow-succ' (omega (arith, flip_top x' xs))

bit_odd : (b : Bool) → eqb (bit b % 2) 1 ≡ b
bit_odd true = refl
bit_odd false = refl

pub top_bit : (x : Bool) (xs : List Bool) → bit_at (length xs) (to_number (x ∷ xs)) ≡ top (x ∷ xs)
top_bit x xs =
    ap (λ (z : ℕ). eqb (z / 2 ^ length xs % 2) 1) (sym (low_top x xs))
    ∙ rw (digits_div (bit (top (x ∷ xs))) (low_lt x xs)) (bit_odd (top (x ∷ xs)))

pub low_bits : (x : Bool) (xs : List Bool) → to_number (x ∷ xs) % 2 ^ length xs ≡ low (x ∷ xs)
low_bits x xs =
    ap (λ (z : ℕ). z % 2 ^ length xs) (sym (low_top x xs)) ∙ digits_mod (bit (top (x ∷ xs))) (low_lt x xs)

-- a − b < c − d where a + d < c + b
pub lt_z_sub : (a b c d : ℕ) → lt_z (sub_ℕ a b) (sub_ℕ c d) ≡ ltb (a + d) (c + b)
lt_z_sub a b c d = go (ltb a b) (ltb c d) (ltb→lt a b) (nltb→le a b) (ltb→lt c d) (nltb→le c d)
  where
    go : (p q : Bool) → (T p → a < b) → (T (not p) → b ≤ a) → (T q → c < d) → (T (not q) → d ≤ c)
        → lt_z (cond p (negsuc (b - suc a)) (pos (a - b))) (cond q (negsuc (d - suc c)) (pos (c - d))) ≡ ltb (a + d) (c + b)
    go true true f g h k =
        let f' = f tt in let h' = h tt in
        ltb_same (d - suc c) (b - suc a) (a + d) (c + b) (omega arith) (omega arith)
    go true false f g h k = let f' = f tt in let k' = k tt in ltb_yes (a + d) (c + b) (omega arith)
    go false true f g h k = let g' = g tt in let h' = h tt in ltb_no (a + d) (c + b) (omega arith)
    go false false f g h k =
        let g' = g tt in let k' = k tt in
        ltb_same (a - b) (c - d) (a + d) (c + b) (omega arith) (omega arith)

signed_at : (m n x : ℕ) → m - 1 ≡ n → signed m x ≡ sub_ℕ (x % 2 ^ n) (bit (bit_at n x) * 2 ^ n)
unfolding signed
signed_at m n x e = ap (λ (k : ℕ). sub_ℕ (x % 2 ^ k) (bit (bit_at k x) * 2 ^ k)) e

pub signed_bits : (x : Bool) (xs : List Bool)
    → signed (suc (length xs)) (to_number (x ∷ xs)) ≡ sub_ℕ (low (x ∷ xs)) (bit (top (x ∷ xs)) * 2 ^ length xs)
signed_bits x xs =
    signed_at (suc (length xs)) (length xs) (to_number (x ∷ xs)) (omega arith)
    ∙ ap₂ (λ (a : ℕ) (b : Bool). sub_ℕ a (bit b * 2 ^ length xs)) (low_bits x xs) (top_bit x xs)

pair_length : {A B : Type 0} {xs : List A} {ys : List B} → Pair xs ys → length xs ≡ length ys
pair_length end = refl
pair_length (next p) = ap suc (pair_length p)

pub slt_lt : {xs ys : List Bool} → Pair xs ys
    → slt bool_gates xs ys ≡ lt_z (signed (length xs) (to_number xs)) (signed (length ys) (to_number ys))
unfolding slt signed
slt_lt end = refl
slt_lt (next {x} {y} {xs} {ys} p) =
    slt_flip (next p) ∙ ult_lt (flip_pair (next p))
    ∙ let h = flip_top x xs in let k = flip_top y ys in let e = ap (λ (n : ℕ). 2 ^ n) (pair_length p) in
    let f : to_number (flip (x ∷ xs)) < to_number (flip (y ∷ ys))
    → low (x ∷ xs) + bit (top (y ∷ ys)) * 2 ^ length ys < low (y ∷ ys) + bit (top (x ∷ xs)) * 2 ^ length xs
    = omega arith in
    let g : low (x ∷ xs) + bit (top (y ∷ ys)) * 2 ^ length ys < low (y ∷ ys) + bit (top (x ∷ xs)) * 2 ^ length xs
    → to_number (flip (x ∷ xs)) < to_number (flip (y ∷ ys))
    = omega arith in
    ltb_same _ _ _ _ f g ∙ sym (ap₂ lt_z (signed_bits x xs) (signed_bits y ys)
    ∙ lt_z_sub (low (x ∷ xs)) (bit (top (x ∷ xs)) * 2 ^ length xs) (low (y ∷ ys)) (bit (top (y ∷ ys)) * 2 ^ length ys))

-- ---- equality
eq→eqb : (a b : ℕ) → a ≡ b → T (eqb a b)
eq→eqb a b e = subst (λ (z : ℕ). T (eqb a z)) e (eqb_refl a)

eqb_same : (a b c d : ℕ) → (a ≡ b → c ≡ d) → (c ≡ d → a ≡ b) → eqb a b ≡ eqb c d
eqb_same a b c d f g =
    T_same (eqb a b) (eqb c d) (λ t. eq→eqb c d (f (eqb→eq a b t))) (λ t. eq→eqb a b (g (eqb→eq c d t)))

eqb_no : (a b : ℕ) → a ≢ b → false ≡ eqb a b
eqb_no a b h = T_same false (eqb a b) (λ t. absurd t) (λ t. absurd (h (eqb→eq a b t)))

eq_bits : (x y : Bool) (a b : ℕ) → beq x y && eqb a b ≡ eqb (bit x + 2 * a) (bit y + 2 * b)
eq_bits true true a b = eqb_same a b (1 + 2 * a) (1 + 2 * b) (omega arith) (omega arith)
eq_bits true false a b = eqb_no (1 + 2 * a) (0 + 2 * b) (omega arith)
eq_bits false true a b = eqb_no (0 + 2 * a) (1 + 2 * b) (omega arith)
eq_bits false false a b = eqb_same a b (0 + 2 * a) (0 + 2 * b) (omega arith) (omega arith)

all_eq : {xs ys : List Bool} → Pair xs ys → all_true (zip_with beq xs ys) ≡ eqb (to_number xs) (to_number ys)
unfolding zip_with
all_eq end = refl
all_eq (next {x} {y} {xs} {ys} p) = ap (λ (b : Bool). beq x y && b) (all_eq p) ∙ eq_bits x y (to_number xs) (to_number ys)

pub gather_all : (bs : List Bool) → gather bool_gates bs ≡ all_true bs
unfolding gather
gather_all [] = refl
gather_all (true ∷ []) = refl
gather_all (false ∷ []) = refl
gather_all (b ∷ b' ∷ bs) = refl

pub equality_eq : {xs ys : List Bool} → Pair xs ys → equality bool_gates xs ys ≡ eqb (to_number xs) (to_number ys)
equality_eq {xs} {ys} p = gather_all (zip_with beq xs ys) ∙ all_eq p

-- ---- bit by bit
pub half : (x : Bool) (a : ℕ) → (bit x + 2 * a) / 2 ≡ a
half true a = omega arith
half false a = omega arith

pub odd : (x : Bool) (a : ℕ) → (bit x + 2 * a) % 2 ≡ bit x
odd true a = omega arith
odd false a = omega arith

pub zip_length : {A : Type 0} (f : A → A → A) {xs ys : List A} → Pair xs ys → length (zip_with f xs ys) ≡ length xs
unfolding zip_with
zip_length f end = refl
zip_length f (next p) = ap suc (zip_length f p)

-- an operation on numbers that goes digit by digit
module _ (k : Bool → Bool → Bool) (f : ℕ → ℕ → ℕ) (d : ℕ → ℕ → ℕ) (zeros : f 0 0 ≡ 0)
    (step : (a b : ℕ) → f a b ≡ f (a / 2) (b / 2) * 2 + d (a % 2) (b % 2)) (digit : (x y : Bool) → bit (k x y) ≡ d (bit x) (bit y)) where
  zip_digits : {xs ys : List Bool} → Pair xs ys → to_number (zip_with k xs ys) ≡ f (to_number xs) (to_number ys)
  unfolding zip_with
  zip_digits end = sym zeros
  zip_digits (next {x} {y} {xs} {ys} p) =
      let ih = zip_digits p in
      let e : f (bit x + 2 * to_number xs) (bit y + 2 * to_number ys) ≡ f (to_number xs) (to_number ys) * 2 + d (bit x) (bit y)
      = step (bit x + 2 * to_number xs) (bit y + 2 * to_number ys) ∙ rw (half x (to_number xs), half y (to_number ys), odd x (to_number xs), odd y (to_number ys)) in
      omega (arith, digit x y)

and_digit : (x y : Bool) → bit (x && y) ≡ min (bit x) (bit y)
and_digit true true = refl
and_digit true false = refl
and_digit false true = refl
and_digit false false = refl

or_digit : (x y : Bool) → bit (x || y) ≡ max (bit x) (bit y)
or_digit true true = refl
or_digit true false = refl
or_digit false true = refl
or_digit false false = refl

xor_digit : (x y : Bool) → bit (xor x y) ≡ differ (bit x) (bit y)
xor_digit true true = refl
xor_digit true false = refl
xor_digit false true = refl
xor_digit false false = refl

pub zip_and : {xs ys : List Bool} → Pair xs ys → to_number (zip_with ◌&&◌ xs ys) ≡ bit_and (to_number xs) (to_number ys)
zip_and p = zip_digits ◌&&◌ bit_and min refl and_step and_digit p

pub zip_or : {xs ys : List Bool} → Pair xs ys → to_number (zip_with ◌||◌ xs ys) ≡ bit_or (to_number xs) (to_number ys)
zip_or p = zip_digits ◌||◌ bit_or max refl or_step or_digit p

pub zip_xor : {xs ys : List Bool} → Pair xs ys → to_number (zip_with xor xs ys) ≡ bit_xor (to_number xs) (to_number ys)
zip_xor p = zip_digits xor bit_xor differ refl xor_step xor_digit p

beq_xor : (x y : Bool) → beq x y ≡ not (xor x y)
beq_xor true true = refl
beq_xor true false = refl
beq_xor false true = refl
beq_xor false false = refl

zip_beq : {xs ys : List Bool} → Pair xs ys → zip_with beq xs ys ≡ map not (zip_with xor xs ys)
unfolding zip_with
zip_beq end = refl
zip_beq (next {x} {y} p) = ap₂ (λ (b : Bool) (bs : List Bool). b ∷ bs) (beq_xor x y) (zip_beq p)

pub map_not : (xs : List Bool) → to_number (map not xs) ≡ 2 ^ length xs - 1 - to_number xs
map_not xs = omega (arith, not_sum xs)

pub zip_xnor : {xs ys : List Bool} → Pair xs ys → to_number (zip_with beq xs ys) ≡ 2 ^ length xs - 1 - bit_xor (to_number xs) (to_number ys)
zip_xnor {xs} {ys} p =
    ap to_number (zip_beq p) ∙ map_not (zip_with xor xs ys)
    ∙ ap₂ (λ (m a : ℕ). 2 ^ m - 1 - a) (zip_length xor p) (zip_xor p)
