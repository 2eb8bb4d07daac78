-- Circuits bit by bit: lists as the bits 0 to n - 1, what the adder and the comparisons make of such lists, and the stages of the shifter.
use mathlib.Core.Path.{◌≡◌, refl, sym, ap, ap₂, ◌∙◌}
use mathlib.Core.Bool.{Bool, true, false, cond}
use mathlib.Core.List.{List, [], ◌∷◌, ◌++◌, map}
use Prim.Native.Nat.{ℕ, zero, suc, ◌+◌, ◌-◌, ◌^◌, ◌≤◌, ◌<◌}
use native.Mathlib.Omega.{arith}
use native.Mathlib.Decide.{dec_le}
use native.Mathlib.Nat.{add-zero, add-suc, suc-add, le_of_suc-le-suc, not-suc-le-zero}
use lib.ListN.{length, take, drop, replicate, get_or, length-replicate, length-append, length-drop, get_or-replicate, get_or-append}
use lib.Dec.{ltb}
use borrow.Author.Tests.{lt-ltb, le-ltb}
use lib.Seq.{get_or-append-add, get_or-drop, take-suc, length-take-le, ext_get_or}
use Rattle.theory.specs.Gates.{Gates}
use Rattle.theory.specs.Circuit.{zip_with, ripple_carry_adder, sum_bit, next_carry, last_carry, less_step, sign_step, ult_from, slt_from, shl_bits, shl_stage, shl_stages, shr_bits, shr_stage, shr_stages}
use Rattle.theory.specs.Move.{bits, bit_of}

-- a choice whose test is known
pub cond_true : {A : Type 0} {b : Bool} (x y : A) → b ≡ true → cond b x y ≡ x
cond_true x y e = rw e

pub cond_false : {A : Type 0} {b : Bool} (x y : A) → b ≡ false → cond b x y ≡ y
cond_false x y e = rw e

-- ---- lists as bits
module _ {A : Type 0} where
  pub length_bits : (n : ℕ) (f : ℕ → A) → length (bits n f) ≡ n
  length_bits zero f = refl
  length_bits (suc n) f = ap suc (length_bits n (λ i. f (suc i)))

  pub get_or_bits : (n : ℕ) (f : ℕ → A) (d : A) (i : ℕ) → i < n → get_or (bits n f) i d ≡ f i
  get_or_bits zero f d i h = absurd (not-suc-le-zero h)
  get_or_bits (suc n) f d zero h = refl
  get_or_bits (suc n) f d (suc i) h = get_or_bits n (λ k. f (suc k)) d i (le_of_suc-le-suc h)

  -- a list, by what stands at each of its places
  pub bits_by : {n : ℕ} (d : A) (l : List A) (f : ℕ → A) → length l ≡ n → ((i : ℕ) → i < n → get_or l i d ≡ f i) → l ≡ bits n f
  bits_by {n} d l f e h =
      ext_get_or d l (bits n f) (e ∙ sym (length_bits n f)) (λ i k. h i (omega arith) ∙ sym (get_or_bits n f d i (omega arith)))

  -- a list is the list of its bits
  pub list_bits : {n : ℕ} (d : A) (l : List A) → length l ≡ n → l ≡ bits n (bit_of d l)
  list_bits d l e = bits_by d l (bit_of d l) e (λ i h. refl)

  -- bits that agree at every place
  pub bits_same : (n : ℕ) (f g : ℕ → A) → ((i : ℕ) → f i ≡ g i) → bits n f ≡ bits n g
  bits_same zero f g h = refl
  bits_same (suc n) f g h = ap₂ (λ (x : A) (xs : List A). x ∷ xs) (h 0) (bits_same n (λ i. f (suc i)) (λ i. g (suc i)) (λ i. h (suc i)))

  pub map_bits : {B : Type 0} (g : A → B) (n : ℕ) (f : ℕ → A) → map g (bits n f) ≡ bits n (λ i. g (f i))
  map_bits g zero f = refl
  map_bits {B} g (suc n) f = ap (λ (zs : List B). g (f 0) ∷ zs) (map_bits g n (λ i. f (suc i)))

  pub zip_bits : (gate : A → A → A) (n : ℕ) (x y : ℕ → A) → zip_with gate (bits n x) (bits n y) ≡ bits n (λ i. gate (x i) (y i))
  unfolding zip_with
  zip_bits gate zero x y = refl
  zip_bits gate (suc n) x y = ap (λ (zs : List A). gate (x 0) (y 0) ∷ zs) (zip_bits gate n (λ i. x (suc i)) (λ i. y (suc i)))

  pub replicate_bits : (n : ℕ) (a : A) → replicate n a ≡ bits n (λ i. a)
  replicate_bits zero a = refl
  replicate_bits (suc n) a = ap (λ (zs : List A). a ∷ zs) (replicate_bits n a)

  -- two lists, one above the other
  pub append_bits : (d : A) (m n : ℕ) (x y : ℕ → A) → bits m x ++ bits n y ≡ bits (m + n) (λ k. cond (ltb k m) (x k) (y (k - m)))
  append_bits d m n x y =
      bits_by d (bits m x ++ bits n y) (λ k. cond (ltb k m) (x k) (y (k - m))) (simp (length-append, length_bits)) (λ k h. by k h (dec_le (suc k) m))
    where
      by : (k : ℕ) → k < m + n → Dec (k < m) → get_or (bits m x ++ bits n y) k d ≡ cond (ltb k m) (x k) (y (k - m))
      by k h (yes g) = get_or-append (bits m x) (bits n y) d k (omega (arith, length_bits m x)) ∙ get_or_bits m x d k g ∙ sym (cond_true (x k) (y (k - m)) (lt-ltb k m g))
      by k h (no g) =
          ap (λ (i : ℕ). get_or (bits m x ++ bits n y) i d) place
          ∙ get_or-append-add (bits m x) (bits n y) (k - m) d ∙ get_or_bits n y d (k - m) (omega arith) ∙ sym (cond_false (x k) (y (k - m)) (le-ltb k m (omega arith)))
        where
          place : k ≡ length (bits m x) + (k - m)
          place = omega (arith, length_bits m x)

-- ---- circuits with something that goes from bit to bit: r i is what goes into bit i
module _ {A : Type 0} (G : Gates A) where
  -- the adder, cut to the shorter list; r are the carries
  pub adder_bits : (n m : ℕ) (x y r : ℕ → A) → n ≤ m → ((i : ℕ) → r (suc i) ≡ next_carry G (x i) (y i) (r i))
      → ripple_carry_adder G (r 0) (bits n x) (bits m y) ≡ bits n (λ i. sum_bit G (x i) (y i) (r i))
  unfolding ripple_carry_adder
  adder_bits zero m x y r h s = refl
  adder_bits (suc n) zero x y r h s = absurd (not-suc-le-zero h)
  adder_bits (suc n) (suc m) x y r h s =
      ap (λ (zs : List A). sum_bit G (x 0) (y 0) (r 0) ∷ zs)
      (ap (λ (c : A). ripple_carry_adder G c (bits n (λ i. x (suc i))) (bits m (λ i. y (suc i)))) (sym (s 0))
      ∙ adder_bits n m (λ i. x (suc i)) (λ i. y (suc i)) (λ i. r (suc i)) (le_of_suc-le-suc h) (λ i. s (suc i)))

  -- the last carry that the adder lists goes into the top bit
  pub last_carry_bits : (n : ℕ) (x y r : ℕ → A) → ((i : ℕ) → r (suc i) ≡ next_carry G (x i) (y i) (r i))
      → last_carry G (r 0) (bits (suc n) x) (bits (suc n) y) ≡ r n
  unfolding last_carry
  last_carry_bits zero x y r s = refl
  last_carry_bits (suc n) x y r s =
      ap (λ (c : A). last_carry G c (bits (suc n) (λ i. x (suc i))) (bits (suc n) (λ i. y (suc i)))) (sym (s 0))
      ∙ last_carry_bits n (λ i. x (suc i)) (λ i. y (suc i)) (λ i. r (suc i)) (λ i. s (suc i))

  -- ult: r i is what the bits below bit i say
  pub ult_bits : (n : ℕ) (x y r : ℕ → A) → ((i : ℕ) → r (suc i) ≡ less_step G (x i) (y i) (r i)) → ult_from G (r 0) (bits n x) (bits n y) ≡ r n
  unfolding ult_from
  ult_bits zero x y r s = refl
  ult_bits (suc n) x y r s =
      ap (λ (c : A). ult_from G c (bits n (λ i. x (suc i))) (bits n (λ i. y (suc i)))) (sym (s 0))
      ∙ ult_bits n (λ i. x (suc i)) (λ i. y (suc i)) (λ i. r (suc i)) (λ i. s (suc i))

  -- slt: the same, with another step at the top bit
  pub slt_bits : (n : ℕ) (x y r : ℕ → A) → ((i : ℕ) → r (suc i) ≡ less_step G (x i) (y i) (r i))
      → slt_from G (r 0) (bits (suc n) x) (bits (suc n) y) ≡ sign_step G (x n) (y n) (r n)
  unfolding slt_from
  slt_bits zero x y r s = refl
  slt_bits (suc n) x y r s =
      ap (λ (c : A). slt_from G c (bits (suc n) (λ i. x (suc i))) (bits (suc n) (λ i. y (suc i)))) (sym (s 0))
      ∙ slt_bits n (λ i. x (suc i)) (λ i. y (suc i)) (λ i. r (suc i)) (λ i. s (suc i))

-- ---- the shifter, stage by stage
module _ {T : Type 0} (G : Gates T) (d : T) where
  open G use {false_gate, not_gate, ite_gate}

  shl_bits_at : (y : T) (ps qs : List T) (i : ℕ) → i < length ps → i < length qs → get_or (shl_bits G y ps qs) i d ≡ ite_gate y (get_or qs i d) (get_or ps i d)
  unfolding shl_bits
  shl_bits_at y [] qs i hp hq = absurd (omega arith)
  shl_bits_at y (p ∷ ps) [] i hp hq = absurd (omega arith)
  shl_bits_at y (p ∷ ps) (q ∷ qs) zero hp hq = refl
  shl_bits_at y (p ∷ ps) (q ∷ qs) (suc i) hp hq = shl_bits_at y ps qs i (omega arith) (omega arith)

  -- bit i of a stage of shl
  pub shl_stage_below : (s : ℕ) (y : T) (l : List T) (i : ℕ) → i < length l → i < 2 ^ s
      → get_or (shl_stage G s y l) i d ≡ ite_gate y false_gate (get_or l i d)
  shl_stage_below s y l i h b =
      shl_bits_at y l (replicate (2 ^ s) false_gate ++ l) i h (simp (length-append, length-replicate) (omega arith))
      ∙ ap (λ (t : T). ite_gate y t (get_or l i d))
      (get_or-append (replicate (2 ^ s) false_gate) l d i (simp length-replicate b) ∙ get_or-replicate (2 ^ s) i false_gate d b)

  pub shl_stage_above : (s : ℕ) (y : T) (l : List T) (i : ℕ) → i < length l → 2 ^ s ≤ i
      → get_or (shl_stage G s y l) i d ≡ ite_gate y (get_or l (i - 2 ^ s) d) (get_or l i d)
  shl_stage_above s y l i h b =
      shl_bits_at y l (replicate (2 ^ s) false_gate ++ l) i h (simp (length-append, length-replicate) (omega arith))
      ∙ ap (λ (t : T). ite_gate y t (get_or l i d))
      (ap (λ (k : ℕ). get_or (replicate (2 ^ s) false_gate ++ l) k d) place
      ∙ get_or-append-add (replicate (2 ^ s) false_gate) l (i - 2 ^ s) d)
    where
      place : i ≡ length (replicate (2 ^ s) false_gate) + (i - 2 ^ s)
      place = simp length-replicate (omega arith)

  shr_bits_in : (fill y : T) (ps qs : List T) (i : ℕ) → length qs ≤ length ps → i < length qs → get_or (shr_bits G fill y ps qs) i d ≡ ite_gate (not_gate y) (get_or ps i d) (get_or qs i d)
  unfolding shr_bits
  shr_bits_in fill y [] qs i hl hq = absurd (omega arith)
  shr_bits_in fill y (p ∷ ps) [] i hl hq = absurd (omega arith)
  shr_bits_in fill y (p ∷ ps) (q ∷ qs) zero hl hq = refl
  shr_bits_in fill y (p ∷ ps) (q ∷ qs) (suc i) hl hq = shr_bits_in fill y ps qs i (omega arith) (omega arith)

  shr_bits_out : (fill y : T) (ps qs : List T) (i : ℕ) → length qs ≤ i → i < length ps → get_or (shr_bits G fill y ps qs) i d ≡ ite_gate y fill (get_or ps i d)
  unfolding shr_bits
  shr_bits_out fill y [] qs i hq hp = absurd (omega arith)
  shr_bits_out fill y (p ∷ ps) [] zero hq hp = refl
  shr_bits_out fill y (p ∷ ps) [] (suc i) hq hp = shr_bits_out fill y ps [] i (omega arith) (omega arith)
  shr_bits_out fill y (p ∷ ps) (q ∷ qs) zero hq hp = absurd (omega arith)
  shr_bits_out fill y (p ∷ ps) (q ∷ qs) (suc i) hq hp = shr_bits_out fill y ps qs i (omega arith) (omega arith)

  -- bit i of a stage of lshr and ashr
  pub shr_stage_out : (fill : T) (s : ℕ) (y : T) (l : List T) (i : ℕ) → i < length l → length l ≤ i + 2 ^ s
      → get_or (shr_stage G fill s y l) i d ≡ ite_gate y fill (get_or l i d)
  shr_stage_out fill s y l i h b = shr_bits_out fill y l (drop (2 ^ s) l) i (simp length-drop (omega arith)) h

  pub shr_stage_in : (fill : T) (s : ℕ) (y : T) (l : List T) (i : ℕ) → i + 2 ^ s < length l
      → get_or (shr_stage G fill s y l) i d ≡ ite_gate (not_gate y) (get_or l i d) (get_or l (i + 2 ^ s) d)
  shr_stage_in fill s y l i b =
      shr_bits_in fill y l (drop (2 ^ s) l) i (simp length-drop (omega arith)) (simp length-drop (omega arith))
      ∙ ap (λ (t : T). ite_gate (not_gate y) (get_or l i d) t) (get_or-drop (2 ^ s) l i d ∙ ap (λ (k : ℕ). get_or l k d) commute)
    where
      commute : 2 ^ s + i ≡ i + 2 ^ s
      commute = omega arith

  -- one more stage
  pub shl_stages_snoc : (s : ℕ) (ys : List T) (y : T) (l : List T) → shl_stages G s (ys ++ (y ∷ [])) l ≡ shl_stage G (s + length ys) y (shl_stages G s ys l)
  unfolding shl_stages
  shl_stages_snoc s [] y l = rw add-zero
  shl_stages_snoc s (z ∷ ys) y l =
      shl_stages_snoc (suc s) ys y (shl_stage G s z l)
      ∙ ap (λ (k : ℕ). shl_stage G k y (shl_stages G (suc s) ys (shl_stage G s z l))) (suc-add s (length ys) ∙ sym (add-suc s (length ys)))

  pub shr_stages_snoc : (fill : T) (s : ℕ) (ys : List T) (y : T) (l : List T)
      → shr_stages G fill s (ys ++ (y ∷ [])) l ≡ shr_stage G fill (s + length ys) y (shr_stages G fill s ys l)
  unfolding shr_stages
  shr_stages_snoc fill s [] y l = rw add-zero
  shr_stages_snoc fill s (z ∷ ys) y l =
      shr_stages_snoc fill (suc s) ys y (shr_stage G fill s z l)
      ∙ ap (λ (k : ℕ). shr_stage G fill k y (shr_stages G fill (suc s) ys (shr_stage G fill s z l))) (suc-add s (length ys) ∙ sym (add-suc s (length ys)))

  -- after i stages, and after one more: what the loop over s has
  pub shl_stages_take : (ys l : List T) (i : ℕ) → i < length ys
      → shl_stages G 0 (take (suc i) ys) l ≡ shl_stage G i (get_or ys i d) (shl_stages G 0 (take i ys) l)
  shl_stages_take ys l i h =
      ap (λ (k : List T). shl_stages G 0 k l) (take-suc ys i d h)
      ∙ shl_stages_snoc 0 (take i ys) (get_or ys i d) l
      ∙ ap (λ (k : ℕ). shl_stage G k (get_or ys i d) (shl_stages G 0 (take i ys) l)) count
    where
      count : 0 + length (take i ys) ≡ i
      count = omega (arith, length-take-le i ys (omega arith))

  pub shr_stages_take : (fill : T) (ys l : List T) (i : ℕ) → i < length ys
      → shr_stages G fill 0 (take (suc i) ys) l ≡ shr_stage G fill i (get_or ys i d) (shr_stages G fill 0 (take i ys) l)
  shr_stages_take fill ys l i h =
      ap (λ (k : List T). shr_stages G fill 0 k l) (take-suc ys i d h)
      ∙ shr_stages_snoc fill 0 (take i ys) (get_or ys i d) l
      ∙ ap (λ (k : ℕ). shr_stage G fill k (get_or ys i d) (shr_stages G fill 0 (take i ys) l)) count
    where
      count : 0 + length (take i ys) ≡ i
      count = omega (arith, length-take-le i ys (omega arith))
