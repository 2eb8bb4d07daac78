-- Kinds 60 to 63 on numbers: rotations by two shifts, copies one after the other.
use Rattle.std.proofs.Common.{◌≡◌, ℕ, zero, suc, ◌+◌, ◌-◌, ◌*◌, ◌/◌, ◌%◌, ◌^◌, ◌<◌, ◌≤◌, Bool, T, leb, List, [], ◌∷◌, ◌++◌, replicate, sym, refl, ap, ◌∙◌, subst, ap₂, append-nil, add-zero, mod-lt, mod-eq_of_lt, mul-le-mul, zero-add, div-one, arith, leb→le, pow_pos, pow-add, shl_exact, shr_lt}
use mathlib.Core.List.{foldl}
use native.Mathlib.Nat.{mod-one, add-mod_left, div-eq_of_lt}
use lib.Arith.{digits_lt}
use lib.Ieee.Fits.{and_l, and_r}
use Rattle.theory.specs.Kind as K
use Rattle.theory.specs.Move.{bits}
use Rattle.theory.specs.Sort.{good, sort_op, is_bv_sort, is_width}
use Rattle.theory.specs.Value.{Assign, Val, number, to_number, bit_at, moved_n, rotate_left_n, rotate_right_n, concat2, meaning}
use Rattle.theory.proofs.Blast.{bits_from, to_number_bits_from, bits_from_length}
use Rattle.theory.proofs.Indexed.{bits_same}
use Rattle.theory.proofs.Slices.{to_number_append}
use Rattle.sweeps.specs.Sweep.{as_number}
use Rattle.sweeps.proofs.Fitting.{fitted}
use Rattle.operations.specs.Width.{Wide, Fits, turn}
use Rattle.operations.specs.Apply.{sort_by, val_by, One}
use Rattle.operations.proofs.WordLaws.{pow_64}
use Rattle.operations.proofs.ApplyLaws.{word_wide, one_word}

-- ---- rotations
-- bits of which the first k are those of x from place i on
bits_run : (x i k m : ℕ) (f g : ℕ → Bool) → ((j : ℕ) → j < k → f j ≡ bit_at (i + j) x) → ((j : ℕ) → f (k + j) ≡ g j) → bits (k + m) f ≡ bits_from x i k ++ bits m g
unfolding bits_from
bits_run x i zero m f g h e = ap (λ (z : ℕ). bits z f) (zero-add m) ∙ bits_same m f g (λ j. ap f (sym (zero-add j)) ∙ e j)
bits_run x i (suc k) m f g h e =
    ap (λ (z : ℕ). bits z f) (let z : suc k + m ≡ suc (k + m) = omega arith in z)
    ∙ ap₂ (λ (b : Bool) (bs : List Bool). b ∷ bs) (h 0 (omega arith) ∙ ap (λ (z : ℕ). bit_at z x) (add-zero i))
    (bits_run x (suc i) k m (λ j. f (suc j)) g
    (λ j l. h (suc j) (omega arith) ∙ ap (λ (z : ℕ). bit_at z x) (let z : i + suc j ≡ suc i + j = omega arith in z))
    (λ j. ap f (let z : suc (k + j) ≡ suc k + j = omega arith in z) ∙ e j))

-- by a shift down, and one up of what falls out
turned_is : (n s x : ℕ) → s ≤ n → x < 2 ^ n → moved_n (turn n s) x ≡ x / 2 ^ s + x % 2 ^ s * 2 ^ (n - s)
turned_is n s x h l =
    ap to_number (ap (λ (z : ℕ). bits z f) (let z : n ≡ n - s + s = omega arith in z) ∙ bits_run x s (n - s) s f g upper around
    ∙ ap (λ (bs : List Bool). bits_from x s (n - s) ++ bs) (ap (λ (z : ℕ). bits z g) (sym (add-zero s)) ∙ bits_run x 0 s 0 g (λ j. g (s + j)) lower (λ j. refl) ∙ append-nil (bits_from x 0 s)))
    ∙ to_number_append (bits_from x s (n - s)) (bits_from x 0 s)
    ∙ ap₂ (λ (a b : ℕ). a + b) (to_number_bits_from x s (n - s) ∙ mod-eq_of_lt (shr_lt (n - s) s (subst (λ (z : ℕ). x < 2 ^ z) (let z : n ≡ n - s + s = omega arith in z) l)))
    (ap₂ (λ (a b : ℕ). 2 ^ a * b) (bits_from_length x s (n - s)) (to_number_bits_from x 0 s ∙ ap (λ (z : ℕ). z % 2 ^ s) (div-one x)) ∙ swap (2 ^ (n - s)) (x % 2 ^ s))
  where
    f : ℕ → Bool
    f j = bit_at ((j + s) % n) x

    g : ℕ → Bool
    g j = bit_at (j % n) x

    upper : (j : ℕ) → j < n - s → f j ≡ bit_at (s + j) x
    upper j k = ap (λ (z : ℕ). bit_at z x) (mod-eq_of_lt (let z : j + s < n = omega arith in z) ∙ (let z : j + s ≡ s + j = omega arith in z))

    around : (j : ℕ) → f (n - s + j) ≡ g j
    around j = ap (λ (z : ℕ). bit_at z x) (ap (λ (z : ℕ). z % n) (let z : n - s + j + s ≡ n + j = omega arith in z) ∙ add-mod_left n j)

    lower : (j : ℕ) → j < s → g j ≡ bit_at (0 + j) x
    lower j k = ap (λ (z : ℕ). bit_at z x) (mod-eq_of_lt (let z : j < n = omega arith in z) ∙ (let z : j ≡ 0 + j = omega arith in z))

    swap : (a b : ℕ) → a * b ≡ b * a
    swap a b = omega arith

pub turned_none : (n s x : ℕ) → Fits n x → s ≤ n → s ≡ 0 → x ≡ moved_n (turn n s) x
turned_none n s x h l e =
    sym (ap (λ (k : ℕ). moved_n (turn n k) x) e ∙ turned_is n 0 x (omega arith) h.below ∙ ap₂ (λ (a b : ℕ). a + b * 2 ^ (n - 0)) (div-one x) (mod-one x) ∙ (let z : x + 0 * 2 ^ (n - 0) ≡ x = omega arith in z))

pub turned_all : (n s x : ℕ) → Fits n x → s ≡ n → x ≡ moved_n (turn n s) x
turned_all n s x h e =
    sym (ap (λ (k : ℕ). moved_n (turn n k) x) e ∙ turned_is n n x (omega arith) h.below
    ∙ ap₂ (λ (a b : ℕ). a + b) (div-eq_of_lt h.below) (ap₂ (λ (a k : ℕ). a * 2 ^ k) (mod-eq_of_lt h.below) (let z : n - n ≡ 0 = omega arith in z)) ∙ (let z : 0 + x * 1 ≡ x = omega arith in z))

-- the part that comes in at the top
module _ (n s x r : ℕ) (h : Fits n x) (l : s ≤ n) (e : r ≡ x % 2 ^ s) where
  top_exact : r * 2 ^ (n - s) % 18446744073709551616 ≡ x % 2 ^ s * 2 ^ (n - s)
  top_exact =
      ap (λ (z : ℕ). z * 2 ^ (n - s) % 18446744073709551616) e
      ∙ shl_exact {a = x % 2 ^ s} s (n - s) 64 (mod-lt x (pow_pos s)) (omega (arith, h.wide.most))

  pub turned_both : x / 2 ^ s + r * 2 ^ (n - s) % 18446744073709551616 ≡ moved_n (turn n s) x
  turned_both = ap (λ (z : ℕ). x / 2 ^ s + z) top_exact ∙ sym (turned_is n s x l h.below)

  pub turned_fits : x / 2 ^ s + r * 2 ^ (n - s) % 18446744073709551616 < 18446744073709551616
  turned_fits =
      let a : x / 2 ^ s < 2 ^ (n - s) = shr_lt (n - s) s (subst (λ (z : ℕ). x < 2 ^ z) (let z : n ≡ n - s + s = omega arith in z) h.below) in
      let b : x % 2 ^ s * 2 ^ (n - s) + x / 2 ^ s < 2 ^ s * 2 ^ (n - s) = digits_lt (mod-lt x (pow_pos s)) a in
      let c : 2 ^ (s + (n - s)) ≡ 2 ^ s * 2 ^ (n - s) = pow-add 2 s (n - s) in
      omega (arith, top_exact, b, c, pow_64 (s + (n - s)) (omega (arith, h.wide.most)))

pub left_is : (n k x r : ℕ) → r ≡ moved_n (turn n (n - k % n)) x → r ≡ rotate_left_n k n x
unfolding rotate_left_n
left_is n k x r e = e

pub right_is : (n k x r : ℕ) → r ≡ moved_n (turn n (k % n)) x → r ≡ rotate_right_n k n x
unfolding rotate_right_n
right_is n k x r e = e

pub below_width : (n k : ℕ) → Wide n → k % n ≤ n
below_width n k w = omega (arith, mod-lt k (let z : 0 < n = omega (arith, w.least) in z))

-- ---- kinds of one argument
abbrev Is1 : K.Op → ℕ → ℕ → ℕ → Type 0
Is1 o m x r = (ρ : Assign) → r ≡ as_number (meaning ρ o (val_by m x ∷ []))

zero_bv : (k m : ℕ) → T (good (sort_op (K.ZeroExtend k) (sort_by m ∷ []))) → T (is_bv_sort (sort_by m))
zero_bv k m g = and_l (is_bv_sort (sort_by m)) _ (fitted (K.ZeroExtend k) (sort_by m ∷ []) g)

left_bv : (k m : ℕ) → T (good (sort_op (K.RotateLeft k) (sort_by m ∷ []))) → T (is_bv_sort (sort_by m))
left_bv k m g = and_l (is_bv_sort (sort_by m)) _ (fitted (K.RotateLeft k) (sort_by m ∷ []) g)

right_bv : (k m : ℕ) → T (good (sort_op (K.RotateRight k) (sort_by m ∷ []))) → T (is_bv_sort (sort_by m))
right_bv k m g = and_l (is_bv_sort (sort_by m)) _ (fitted (K.RotateRight k) (sort_by m ∷ []) g)

repeat_bv : (k m : ℕ) → T (good (sort_op (K.Repeat k) (sort_by m ∷ []))) → T (is_bv_sort (sort_by m))
repeat_bv k m g = and_l (is_bv_sort (sort_by m)) _ (fitted (K.Repeat k) (sort_by m ∷ []) g)

pub left_word : (k m x : ℕ) → One (K.RotateLeft k) m x → Fits m x
left_word k m x h = one_word (K.RotateLeft k) m x h (left_bv k m)

pub right_word : (k m x : ℕ) → One (K.RotateRight k) m x → Fits m x
right_word k m x h = one_word (K.RotateRight k) m x h (right_bv k m)

pub is_zero_extend : (k m x : ℕ) → One (K.ZeroExtend k) m x → Is1 (K.ZeroExtend k) m x x
unfolding meaning
is_zero_extend k zero x h ρ = absurd (zero_bv k 0 h.sorted)
is_zero_extend k (suc m) x h ρ = refl

pub is_left : (k m x r : ℕ) → One (K.RotateLeft k) m x → r ≡ rotate_left_n k m x → Is1 (K.RotateLeft k) m x r
unfolding meaning
is_left k zero x r h e ρ = absurd (left_bv k 0 h.sorted)
is_left k (suc m) x r h e ρ = e

pub is_right : (k m x r : ℕ) → One (K.RotateRight k) m x → r ≡ rotate_right_n k m x → Is1 (K.RotateRight k) m x r
unfolding meaning
is_right k zero x r h e ρ = absurd (right_bv k 0 h.sorted)
is_right k (suc m) x r h e ρ = e

-- ---- copies, one after the other
pub record Copies (k m : ℕ) : Type 0 where
  pub wide : Wide m
  pub some : 1 ≤ k
  pub few : k * m ≤ 64

pub repeat_in : (k m x : ℕ) → One (K.Repeat k) m x → Copies k m
repeat_in k zero x h = absurd (repeat_bv k 0 h.sorted)
repeat_in k (suc m) x h =
    let f : T (is_width (k * suc m)) = and_r (is_bv_sort (sort_by (suc m))) (is_width (k * suc m)) (fitted (K.Repeat k) (sort_by (suc m) ∷ []) h.sorted) in
    let a = leb→le 1 (k * suc m) (and_l (leb 1 (k * suc m)) (leb (k * suc m) 64) f) in
    record { wide = word_wide (suc m) tt h.first.few; some = positive k a; few = leb→le (k * suc m) 64 (and_r (leb 1 (k * suc m)) (leb (k * suc m) 64) f) }
  where
    positive : (k : ℕ) → 1 ≤ k * suc m → 1 ≤ k
    positive zero a = omega arith
    positive (suc k) a = omega arith

-- the first and i - 1 more
abbrev copied : ℕ → ℕ → ℕ → Val
copied m x i = foldl concat2 (number m x) (replicate (i - 1) (number m x))

-- what they come to once i are joined
pub record Copying (m x i r : ℕ) : Type 0 where
  pub some : 1 ≤ i
  pub below : r < 2 ^ (i * m)
  pub is : number (i * m) r ≡ copied m x i

pub copying_start : (k m x : ℕ) → One (K.Repeat k) m x → Copying m x 1 x
copying_start k m x h =
    let e : 1 * m ≡ m = omega arith in
    record {
      some = omega arith;
      below = subst (λ (z : ℕ). x < 2 ^ z) (sym e) (one_word (K.Repeat k) m x h (repeat_bv k m)).below;
      is = ap (λ (z : ℕ). number z x) e;
    }

-- one more after j others
copies_last : (v : Val) (j : ℕ) (u : Val) → foldl concat2 (concat2 u v) (replicate j v) ≡ concat2 (foldl concat2 u (replicate j v)) v
copies_last v zero u = refl
copies_last v (suc j) u = copies_last v j (concat2 u v)

copied_more : (m x i : ℕ) → 1 ≤ i → copied m x (i + 1) ≡ concat2 (copied m x i) (number m x)
copied_more m x i h =
    ap (λ (j : ℕ). foldl concat2 (number m x) (replicate j (number m x))) (let z : i + 1 - 1 ≡ suc (i - 1) = omega arith in z) ∙ copies_last (number m x) (i - 1) (number m x)

module _ (k m x i r : ℕ) (h : One (K.Repeat k) m x) (c : Copying m x i r) (l : i < k) where
  -- there is room for one more
  pub copying_room : i * m + m ≤ 64
  copying_room =
      let w = repeat_in k m x h in
      let a : (i + 1) * m ≤ k * m = mul-le-mul (let z : i + 1 ≤ k = omega arith in z) (let z : m ≤ m = omega arith in z) in
      omega (arith, a, w.few)

  pub copying_low : m < 64
  copying_low = omega (arith, copying_room, one_of c.some)
    where
      one_of : 1 ≤ i → m ≤ i * m
      one_of a = let b = mul-le-mul a (let z : m ≤ m = omega arith in z) in omega arith

  shifted : r * 2 ^ m % 18446744073709551616 ≡ r * 2 ^ m
  shifted = shl_exact {a = r} (i * m) m 64 c.below copying_room

  joined : r * 2 ^ m + x < 2 ^ ((i + 1) * m)
  joined =
      let b : x < 2 ^ m = (one_word (K.Repeat k) m x h (repeat_bv k m)).below in
      subst (λ (z : ℕ). r * 2 ^ m + x < z) (sym (pow-add 2 (i * m) m) ∙ ap (λ (z : ℕ). 2 ^ z) (let z : i * m + m ≡ (i + 1) * m = omega arith in z)) (digits_lt c.below b)

  pub copying_fits : r * 2 ^ m % 18446744073709551616 + x < 18446744073709551616
  copying_fits = omega (arith, shifted, joined, pow_64 ((i + 1) * m) (let z : (i + 1) * m ≤ 64 = omega (arith, copying_room) in z))

  pub copying_turn : Copying m x (i + 1) (r * 2 ^ m % 18446744073709551616 + x)
  copying_turn = record {
    some = omega arith;
    below = subst (λ (z : ℕ). z + x < 2 ^ ((i + 1) * m)) (sym shifted) joined;
    is = ap₂ number (let z : (i + 1) * m ≡ i * m + m = omega arith in z) (ap (λ (z : ℕ). z + x) shifted)
        ∙ ap (λ (v : Val). concat2 v (number m x)) c.is ∙ sym (copied_more m x i c.some);
  }

pub copying_done : (k m x i r : ℕ) → One (K.Repeat k) m x → Copying m x i r → i ≤ k → k ≤ i → Is1 (K.Repeat k) m x r
unfolding meaning
copying_done k zero x i r h c a b ρ = absurd (repeat_bv k 0 h.sorted)
copying_done zero (suc m) x i r h c a b ρ = absurd (omega (arith, c.some))
copying_done (suc k) (suc m) x i r h c a b ρ =
    ap as_number
    (c.is ∙ ap (λ (j : ℕ). foldl concat2 (number (suc m) x) (replicate j (number (suc m) x))) (let z : i - 1 ≡ k = omega arith in z))
