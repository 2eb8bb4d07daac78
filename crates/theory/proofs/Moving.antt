-- zero_extend, rotate_left, rotate_right, repeat: one law on moved bits, and what each operation's value is as bits moved; rules 27 to 30 hold.
use mathlib.Core.Path.{◌≡◌, refl, sym, ap, ap₂, ◌∙◌}
use mathlib.Core.Bool.{Bool, true, false}
use mathlib.Core.List.{List, [], ◌∷◌, ◌++◌, map, foldl}
use Prim.Native.Nat.{ℕ, zero, suc, ◌+◌, ◌-◌, ◌*◌, ◌/◌, ◌%◌, ◌^◌, ◌<◌, ◌≤◌}
use native.Mathlib.Nat.{mod-lt, mod-add-mod, div-add-mod', zero-add, zero-mul, add-zero, mod-eq_of_lt, div-one, add-mod_left}
use native.Mathlib.Omega.{arith}
use lib.Arith.{digits_mod}
use lib.Dec.{eqb}
use lib.Seq.{get_or-drop}
use lib.ListN.{length, drop, get_or, replicate}
use lib.Pow.{pow_mono}
use Rattle.theory.specs.Kind.{False, ZeroExtend, RotateLeft, RotateRight, Repeat}
use Rattle.theory.specs.Term.{fold, Term, node, nil, cons}
use Rattle.theory.specs.Sort.{bv, sort_of}
use Rattle.theory.specs.Move.{bits, Move, moved, zero_extension, left_rotation, right_rotation, repetition}
use Rattle.theory.specs.Value.{Assign, Val, truth, number, value_width, number_of, to_number, bit_at, fold1, num1, moved_n, rotate_left_n, rotate_right_n, concat2, meaning, value}
use Rattle.theory.proofs.Sound.{bv_value}
use Rattle.theory.specs.Bits.{get_term_bits, bb, moved_bits}
use Rattle.theory.proofs.Blast.{bits_from, to_number_bits_from, bits_of, bb_value}
use Rattle.theory.proofs.Numbers.{odd}
use Rattle.theory.proofs.Slices.{to_number_append, to_number_drop, false_value}
use Rattle.theory.specs.Claim.{Rotations}
use Rattle.theory.proofs.Indexed.{length_bits, get_or_bits, bits_same, map_bits}

-- ---- bits by their places
module _ {A : Type 0} where
  -- bits that agree at the places there are
  bits_below : (m : ℕ) (f g : ℕ → A) → ((i : ℕ) → i < m → f i ≡ g i) → bits m f ≡ bits m g
  bits_below zero f g h = refl
  bits_below (suc m) f g h = ap₂ (λ (x : A) (xs : List A). x ∷ xs) (h 0 (omega arith)) (bits_below m (λ i. f (suc i)) (λ i. g (suc i)) (λ i k. h (suc i) (omega arith)))

  bits_split : (m n : ℕ) (f : ℕ → A) → bits (m + n) f ≡ bits m f ++ bits n (λ i. f (m + i))
  bits_split zero n f = ap (λ (k : ℕ). bits k f) (zero-add n) ∙ bits_same n f (λ i. f (0 + i)) (λ i. ap f (let z : i ≡ 0 + i = omega arith in z))
  bits_split (suc m) n f =
      ap (λ (k : ℕ). bits k f) (let z : suc m + n ≡ suc (m + n) = omega arith in z)
      ∙ ap (λ (xs : List A). f 0 ∷ xs)
      (bits_split m n (λ i. f (suc i))
      ∙ ap (λ (xs : List A). bits m (λ i. f (suc i)) ++ xs) (bits_same n (λ i. f (suc (m + i))) (λ i. f (suc m + i)) (λ i. ap f (let z : suc (m + i) ≡ suc m + i = omega arith in z))))

-- the bit of a number at a place, by the list of its bits
low_bit : (l : List Bool) → eqb (to_number l % 2) 1 ≡ get_or l 0 false
low_bit [] = refl
low_bit (true ∷ l) = rw (odd true (to_number l))
low_bit (false ∷ l) = rw (odd false (to_number l))

pub bit_is : (bs : List Bool) (i : ℕ) → bit_at i (to_number bs) ≡ get_or bs i false
bit_is bs i =
    ap (λ (z : ℕ). eqb (z % 2) 1) (sym (to_number_drop i bs)) ∙ low_bit (drop i bs)
    ∙ get_or-drop i bs 0 false ∙ ap (λ (k : ℕ). get_or bs k false) (add-zero i)

-- ---- THE LAW: a term of moved bits has the operand's bits, moved
bit_reads : (ρ : Assign) (xs : List Term) (bs : List Bool) → map (value ρ) xs ≡ map truth bs → (i : ℕ) → value ρ (get_or xs i (node False nil)) ≡ truth (get_or bs i false)
bit_reads ρ [] [] r i = false_value ρ
bit_reads ρ [] (b ∷ bs) r i = absurd (let z = ap length r in omega arith)
bit_reads ρ (x ∷ xs) [] r i = absurd (let z = ap length r in omega arith)
bit_reads ρ (x ∷ xs) (b ∷ bs) r zero = cc
bit_reads ρ (x ∷ xs) (b ∷ bs) r (suc i) = bit_reads ρ xs bs (let z : map (value ρ) xs ≡ map truth bs = cc in z) i

pub moved_holds : (ρ : Assign) (x : Term) (n : ℕ) (v : Move) → sort_of x ≡ bv n
    → value ρ (bb (moved_bits v (get_term_bits x))) ≡ number v.size (moved_n v (number_of (value ρ x)))
moved_holds ρ x n v s =
    let bx = bits_of ρ x n s in
    let r : map (value ρ) (moved_bits v (get_term_bits x)) ≡ map truth (moved v (λ i. bit_at i (to_number bx.bits)))
    = map_bits (value ρ) v.size (λ j. get_or (get_term_bits x) ((j + v.shift) % v.cycle) (node False nil))
    ∙ bits_same v.size _ (λ j. truth (bit_at ((j + v.shift) % v.cycle) (to_number bx.bits)))
    (λ j. bit_reads ρ (get_term_bits x) bx.bits bx.reads ((j + v.shift) % v.cycle) ∙ ap truth (sym (bit_is bx.bits ((j + v.shift) % v.cycle))))
    ∙ sym (map_bits truth v.size (λ j. bit_at ((j + v.shift) % v.cycle) (to_number bx.bits))) in
    bb_value ρ (moved_bits v (get_term_bits x)) (moved v (λ i. bit_at i (to_number bx.bits))) r
    ∙ ap₂ number (length_bits v.size _) (ap (moved_n v) (sym (ap number_of bx.means)))

-- ---- what the operations' values are as bits moved
same_from : (x i k : ℕ) → bits k (λ j. bit_at (i + j) x) ≡ bits_from x i k
unfolding bits_from
same_from x i zero = refl
same_from x i (suc k) =
    ap₂ (λ (b : Bool) (bs : List Bool). b ∷ bs) (ap (λ (j : ℕ). bit_at j x) (add-zero i))
    (bits_same k (λ j. bit_at (i + suc j) x) (λ j. bit_at (suc i + j) x) (λ j. ap (λ (z : ℕ). bit_at z x) (let z : i + suc j ≡ suc i + j = omega arith in z)) ∙ same_from x (suc i) k)

-- m bits of x, each at its place
pub stay : (m x : ℕ) → x < 2 ^ m → to_number (bits m (λ j. bit_at j x)) ≡ x
stay m x h =
    ap to_number (bits_same m (λ j. bit_at j x) (λ j. bit_at (0 + j) x) (λ j. ap (λ (z : ℕ). bit_at z x) (let z : j ≡ 0 + j = omega arith in z)) ∙ same_from x 0 m)
    ∙ to_number_bits_from x 0 m ∙ ap (λ (z : ℕ). z % 2 ^ m) (div-one x) ∙ mod-eq_of_lt h

-- at the places of one cycle
one_cycle : (m x : ℕ) → x < 2 ^ m → to_number (bits m (λ j. bit_at ((j + 0) % m) x)) ≡ x
one_cycle m x h = ap to_number (bits_below m (λ j. bit_at ((j + 0) % m) x) (λ j. bit_at j x) (λ j l. ap (λ (z : ℕ). bit_at z x) (ap (λ (z : ℕ). z % m) (add-zero j) ∙ mod-eq_of_lt l))) ∙ stay m x h

zeros_moved : (n k x : ℕ) → x < 2 ^ n → moved_n (zero_extension k n) x ≡ x
zeros_moved n k x h = one_cycle (n + k) x (omega (arith, pow_mono {i = n} {j = n + k} (omega arith)))

-- one copy more is n bits below the others
more_copies : (n k x : ℕ) → x < 2 ^ n → moved_n (repetition (suc k) n) x ≡ x + 2 ^ n * moved_n (repetition k n) x
more_copies n k x h =
    ap (λ (m : ℕ). to_number (bits m (λ j. bit_at ((j + 0) % n) x))) (let z : suc k * n ≡ n + k * n = omega arith in z)
    ∙ ap to_number (bits_split n (k * n) (λ j. bit_at ((j + 0) % n) x))
    ∙ to_number_append (bits n (λ j. bit_at ((j + 0) % n) x)) (bits (k * n) (λ j. bit_at ((n + j + 0) % n) x))
    ∙ ap₂ (λ (a b : ℕ). a + b) (one_cycle n x h)
    (ap₂ (λ (a b : ℕ). 2 ^ a * b) (length_bits n (λ j. bit_at ((j + 0) % n) x))
    (ap to_number (bits_same (k * n) (λ j. bit_at ((n + j + 0) % n) x) (λ j. bit_at ((j + 0) % n) x) (λ j. ap (λ (z : ℕ). bit_at z x) (around j)))))
  where
    around : (j : ℕ) → (n + j + 0) % n ≡ (j + 0) % n
    around j = ap (λ (z : ℕ). z % n) (let z : n + j + 0 ≡ n + (j + 0) = omega arith in z) ∙ add-mod_left n (j + 0)

no_copies : (n x : ℕ) → moved_n (repetition 0 n) x ≡ 0
no_copies n x = ap (λ (m : ℕ). to_number (bits m (λ j. bit_at ((j + 0) % n) x))) (zero-mul n)

fold_last : (v : Val) (k : ℕ) (u : Val) → foldl concat2 (concat2 u v) (replicate k v) ≡ concat2 (foldl concat2 u (replicate k v)) v
fold_last v zero u = refl
fold_last v (suc k) u = fold_last v k (concat2 u v)

copies_moved : (n x k : ℕ) → x < 2 ^ n → foldl concat2 (number n x) (replicate k (number n x)) ≡ number (suc k * n) (moved_n (repetition (suc k) n) x)
copies_moved n x zero h = ap₂ number (let z : n ≡ 1 * n = omega arith in z) (sym (more_copies n 0 x h ∙ ap (λ (z : ℕ). x + 2 ^ n * z) (no_copies n x) ∙ nothing (2 ^ n)))
  where
    nothing : (z : ℕ) → x + z * 0 ≡ x
    nothing z = omega arith
copies_moved n x (suc k) h =
    fold_last (number n x) k (number n x) ∙ ap (λ (v : Val). concat2 v (number n x)) (copies_moved n x k h)
    ∙ ap₂ number (let z : suc k * n + n ≡ suc (suc k) * n = omega arith in z)
    (turn (moved_n (repetition (suc k) n) x) (2 ^ n) ∙ sym (more_copies n (suc k) x h))
  where
    turn : (a b : ℕ) → a * b + x ≡ x + b * a
    turn a b = omega arith

-- ---- where the rotations bring a bit
moved_at : (n x : ℕ) (f : ℕ → ℕ) (p : ℕ) → p < n → bit_at p (to_number (bits n (λ j. bit_at (f j) x))) ≡ bit_at (f p) x
moved_at n x f p h = bit_is (bits n (λ j. bit_at (f j) x)) p ∙ get_or_bits n (λ j. bit_at (f j) x) false p h

up_and_back : (n k i : ℕ) → i < n → ((i + k) % n + (n - k % n)) % n ≡ i
up_and_back n k i h =
    let m = mod-lt k (pos_of h) in
    let e : i + k + (n - k % n) ≡ (k / n + 1) * n + i = omega (arith, div-add-mod' k n) in
    mod-add-mod (i + k) n (n - k % n) ∙ ap (λ (z : ℕ). z % n) e ∙ digits_mod (k / n + 1) h
  where
    pos_of : i < n → 0 < n
    pos_of g = omega arith

down_and_back : (n k i : ℕ) → i < n → ((i + (n - k % n)) % n + k % n) % n ≡ i
down_and_back n k i h =
    let m = mod-lt k (pos_of h) in
    let e : i + (n - k % n) + k % n ≡ 1 * n + i = omega arith in
    mod-add-mod (i + (n - k % n)) n (k % n) ∙ ap (λ (z : ℕ). z % n) e ∙ digits_mod 1 h
  where
    pos_of : i < n → 0 < n
    pos_of g = omega arith

pub rotations : Rotations
unfolding rotate_left_n rotate_right_n
rotations n k x i h =
    let p : 0 < n = omega arith in (
      moved_at n x (λ j. (j + (n - k % n)) % n) ((i + k) % n) (mod-lt (i + k) p) ∙ ap (λ (j : ℕ). bit_at j x) (up_and_back n k i h),
      moved_at n x (λ j. (j + k % n) % n) ((i + (n - k % n)) % n) (mod-lt (i + (n - k % n)) p) ∙ ap (λ (j : ℕ). bit_at j x) (down_and_back n k i h),
    )

-- ---- rules 27 to 30
module _ (ρ : Assign) (k : ℕ) (x : Term) (n : ℕ) (s : sort_of x ≡ bv n) where
  abbrev bx : (value ρ x ≡ number n (number_of (value ρ x))) × (number_of (value ρ x) < 2 ^ n)
  bx = bv_value ρ x n s

  pub zero_extend_holds : value ρ (bb (moved_bits (zero_extension k n) (get_term_bits x))) ≡ value ρ (node (ZeroExtend k) (cons x nil))
  unfolding fold meaning
  zero_extend_holds =
      moved_holds ρ x n (zero_extension k n) s ∙ ap (number (n + k)) (zeros_moved n k (number_of (value ρ x)) bx.1)
      ∙ sym (ap (λ (v : Val). number (value_width v + k) (number_of v)) bx.0)

  pub rotate_left_holds : value ρ (bb (moved_bits (left_rotation k n) (get_term_bits x))) ≡ value ρ (node (RotateLeft k) (cons x nil))
  unfolding fold meaning rotate_left_n
  rotate_left_holds = moved_holds ρ x n (left_rotation k n) s ∙ sym (ap (num1 (rotate_left_n k)) bx.0)

  pub rotate_right_holds : value ρ (bb (moved_bits (right_rotation k n) (get_term_bits x))) ≡ value ρ (node (RotateRight k) (cons x nil))
  unfolding fold meaning rotate_right_n
  rotate_right_holds = moved_holds ρ x n (right_rotation k n) s ∙ sym (ap (num1 (rotate_right_n k)) bx.0)

  pub repeat_holds : 1 ≤ k → value ρ (bb (moved_bits (repetition k n) (get_term_bits x))) ≡ value ρ (node (Repeat k) (cons x nil))
  unfolding fold meaning
  repeat_holds h = moved_holds ρ x n (repetition k n) s ∙ go k h ∙ sym (ap (λ (v : Val). fold1 concat2 (replicate k v)) bx.0)
    where
      go : (j : ℕ) → 1 ≤ j → number (j * n) (moved_n (repetition j n) (number_of (value ρ x))) ≡ fold1 concat2 (replicate j (number n (number_of (value ρ x))))
      go zero l = absurd (omega arith)
      go (suc j) l = sym (copies_moved n (number_of (value ρ x)) j bx.1)
