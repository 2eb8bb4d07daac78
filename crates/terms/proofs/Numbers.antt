-- Bytes, and numbers in a few of them.
use mathlib.Core.Path.{◌≡◌, refl, sym, ap, ap₂, ◌∙◌}
use mathlib.Core.Bool.{Bool, true, false, cond}
use mathlib.Core.List.{[], ◌∷◌}
use Prim.Native.Nat.{ℕ, suc, ◌+◌, ◌*◌, ◌^◌, ◌<◌, ◌≤◌}
use native.Mathlib.Nat.{add-zero, pow-le-pow_right}
use native.Mathlib.Omega.{arith}
use mir.Syntax.{w8}
use mir.Val.{Fits}
use lib.Dec.{T}
use lib.ListN.{length, take, drop, get_or, length-take}
use lib.Seq.{take-nil, get_or-take, get_or-drop, drop-drop}
use Rattle.theory.specs.Limit.{long_bytes}
use Rattle.theory.specs.Term.{same_numbers}
use Rattle.theory.specs.Record.{Bytes, AllBytes, little_endian, long_record, number_length, word}
use Rattle.theory.proofs.Same.{same_numbers_eq}
use Rattle.theory.proofs.Lengths.{either_length}
use Rattle.terms.specs.Bodies.{Length}

-- ---- bytes
-- every element of a slice of bytes is one
pub all_bytes : (bs : Bytes) → ((i : ℕ) → Fits w8 (get_or bs i 0)) → AllBytes bs
all_bytes [] f = tt
all_bytes (b ∷ bs) f = ((f 0).fits, all_bytes bs (λ i. f (suc i)))

-- ---- the sum
-- the lowest byte, and 256 times the number in the others
digit : (m : ℕ) (bs : Bytes) → little_endian (take (suc m) bs) ≡ get_or bs 0 0 + 256 * little_endian (take m (drop 1 bs))
digit m [] = rw take-nil
digit m (b ∷ bs) = refl

-- ---- a number of few bytes, byte by byte
byte_of : (s : Bytes) (at k : ℕ) → get_or (drop k (drop at s)) 0 0 ≡ get_or s (at + k) 0
byte_of s at k = get_or-drop k (drop at s) 0 0 ∙ ap (λ (j : ℕ). get_or (drop at s) j 0) (add-zero k) ∙ get_or-drop at s k 0

peel : (m : ℕ) (s : Bytes) (at k : ℕ) → little_endian (take (suc m) (drop k (drop at s))) ≡ get_or s (at + k) 0 + 256 * little_endian (take m (drop (k + 1) (drop at s)))
peel m s at k =
    digit m (drop k (drop at s))
    ∙ ap₂ (λ (x : ℕ) (bs : Bytes). x + 256 * little_endian (take m bs)) (byte_of s at k) (drop-drop 1 k (drop at s))

module _ (s : Bytes) (at : ℕ) {x : ℕ} (p : x ≡ get_or s at 0) where
  first_byte : get_or s (at + 0) 0 ≡ x
  first_byte = ap (λ (j : ℕ). get_or s j 0) (add-zero at) ∙ sym p

  pub one_byte : x ≡ little_endian (take 1 (drop at s))
  one_byte = omega (arith, peel 0 s at 0, first_byte)

  module _ {y : ℕ} (q : y ≡ get_or s (at + 1) 0) where
    pub two_bytes : x + 256 * y ≡ little_endian (take 2 (drop at s))
    two_bytes = omega (arith, peel 1 s at 0, peel 0 s at 1, first_byte, q)

    module _ {z : ℕ} (r : z ≡ get_or s (at + 2) 0) where
      pub three_bytes : x + 256 * y + 65536 * z ≡ little_endian (take 3 (drop at s))
      three_bytes = omega (arith, peel 2 s at 0, peel 1 s at 1, peel 0 s at 2, first_byte, q, r)

      pub four_bytes : {w : ℕ} → w ≡ get_or s (at + 3) 0 → x + 256 * y + 65536 * z + 16777216 * w ≡ little_endian (take 4 (drop at s))
      four_bytes t = omega (arith, peel 3 s at 0, peel 2 s at 1, peel 1 s at 2, peel 0 s at 3, first_byte, q, r, t)

-- ---- the number length of a job
-- where the first record is another than that of long numbers, it is two
pub not_long : (job : Bytes) → (4 ≤ length job → word (drop 0 job) ≡ 2 → word (drop 2 job) ≡ 103 → ⊥) → 2 ≡ number_length job
unfolding number_length
not_long job f = go (same_numbers (take 4 job) long_record) (same_numbers_eq (take 4 job) long_record)
  where
    its_words : (job : Bytes) → take 4 job ≡ long_record → (word (drop 0 job) ≡ 2) × (word (drop 2 job) ≡ 103)
    its_words job e =
        let byte : (i : ℕ) → i < 4 → get_or job i 0 ≡ get_or long_record i 0 = λ i h. sym (get_or-take 4 job i 0 h) ∙ ap (λ (bs : Bytes). get_or bs i 0) e in
        (sym (two_bytes job 0 (sym (byte 0 (omega arith))) (sym (byte 1 (omega arith)))), sym (two_bytes job 2 (sym (byte 2 (omega arith))) (sym (byte 3 (omega arith)))))

    go : (t : Bool) → (T t → take 4 job ≡ long_record) → ◌≡◌ {A = ℕ} 2 (cond t 4 2)
    go true e =
        let l : length (take 4 job) ≡ 4 = ap length (e tt) in
        let m = length-take 4 job in
        let w = its_words job (e tt) in
        absurd (f (omega arith) w.0 w.1)
    go false e = refl

pub is_long : (job : Bytes) → 4 ≤ length job → word (drop 0 job) ≡ 2 → word (drop 2 job) ≡ 103 → 4 ≡ number_length job
unfolding number_length
is_long [] h p q = absurd (omega arith)
is_long (a ∷ []) h p q = absurd (omega arith)
is_long (a ∷ b ∷ []) h p q = absurd (omega arith)
is_long (a ∷ b ∷ c ∷ []) h p q = absurd (omega arith)
is_long (a ∷ b ∷ c ∷ d ∷ rest) h p q = first a b c d (omega arith) (omega arith) (omega arith) (omega arith)
  where
    first : (a b c d : ℕ) → a ≡ 2 → b ≡ 0 → c ≡ 103 → d ≡ 0 → 4 ≡ number_length (a ∷ b ∷ c ∷ d ∷ rest)
    first a b c d p q r s = rw (p, q, r, s)

-- it is two, or else four
pub short_length : (job : Bytes) {r : ℕ} → r ≡ number_length job → r ≡ 2 → 2 ≡ number_length job
short_length job e f = sym f ∙ e

pub long_length : (job : Bytes) {r : ℕ} → r ≡ number_length job → (r ≡ 2 → ⊥) → 4 ≡ number_length job
long_length job e f = either_length (λ b. (b ≡ 2 → ⊥) → 4 ≡ b) (λ g. absurd (g refl)) (λ g. refl) job (λ g. f (e ∙ g))

-- it is one of those that reading is proved for
pub length_of : (job : Bytes) → Length (number_length job)
length_of = either_length Length (record { some_bytes = omega arith; few_bytes = omega arith }) (record { some_bytes = omega arith; few_bytes = omega arith })

-- a number of so many bytes fits into 32 bits
pub place_small : (b x : ℕ) → b ≤ long_bytes → x < 256 ^ b → x < 4294967296
place_small b x h l = let q : 256 ^ b ≤ 256 ^ 4 = pow-le-pow_right (omega arith) h in omega arith
