-- Loops that append one bit at a time.
use mathlib.Core.Path.{◌≡◌, refl, sym, ap, ◌∙◌}
use mathlib.Core.List.{List, [], ◌∷◌, ◌++◌, map, append-nil}
use mathlib.Core.Logic.{◌⊎◌, inl, inr}
use Prim.Native.Nat.{ℕ, zero, suc, ◌+◌, ◌-◌, ◌<◌, ◌≤◌}
use native.Mathlib.Numerals.{add-one}
use native.Mathlib.Omega.{arith}
use lib.ListN.{length, drop, get_or, replicate, length-append}
use lib.Seq.{append_snoc, drop-cons}
use Rattle.theory.specs.Circuit.{zip_with, last}
use Rattle.theory.specs.Move.{bits}

-- what is appended, and what is still to come, of `left` bits at most, are the whole
pub record Appending (out rest whole : List ℕ) (left : ℕ) : Type 0 where
  pub says : out ++ rest ≡ whole
  pub room : length out + left ≤ 64

module _ {out rest whole : List ℕ} {left : ℕ} where
  pub append_turn : {v left' : ℕ} {out' rest' : List ℕ} → Appending out rest whole left → out' ≡ out ++ v ∷ [] → rest ≡ v ∷ rest' → left ≡ suc left'
      → Appending out' rest' whole left'
  append_turn {v} {rest'} inv e f n =
      record {
        says = rw e (append_snoc out v rest' ∙ ap (λ (t : List ℕ). out ++ t) (sym f) ∙ inv.says);
        room = let z : length (out ++ v ∷ []) ≡ length out + 1 = length-append out (v ∷ []) in rw e (omega (arith, inv.room, n, z));
      }

  pub append_end : Appending out rest whole left → rest ≡ [] → out ≡ whole
  append_end inv e = sym (append-nil out) ∙ ap (λ (t : List ℕ). out ++ t) (sym e) ∙ inv.says

-- ---- a gate between the bits of two lists
pub zip_next : (f : ℕ → ℕ → ℕ) {xs ys xs' ys' : List ℕ} {x y v : ℕ} → (xs ≡ x ∷ xs') × (ys ≡ y ∷ ys') → v ≡ f x y → zip_with f xs ys ≡ v ∷ zip_with f xs' ys'
unfolding zip_with
zip_next f h e = rw (h.0, h.1, e) refl

pub zip_none : (f : ℕ → ℕ → ℕ) {xs ys : List ℕ} → (xs ≡ []) ⊎ (ys ≡ []) → zip_with f xs ys ≡ []
unfolding zip_with
zip_none f (inl e) = rw e refl
zip_none f {xs} (inr e) = rw e (none xs)
  where
    none : (zs : List ℕ) → zip_with f zs [] ≡ []
    none [] = refl
    none (z ∷ zs) = refl

pub zip_shorter : (f : ℕ → ℕ → ℕ) (xs ys : List ℕ) → length (zip_with f xs ys) ≤ length xs
unfolding zip_with
zip_shorter f [] ys = omega arith
zip_shorter f (x ∷ xs) [] = omega arith
zip_shorter f (x ∷ xs) (y ∷ ys) = omega (arith, zip_shorter f xs ys)

-- ---- the bits of a list from bit i on
pub drop_next : (xs : List ℕ) (i : ℕ) → i < length xs → length (drop i xs) ≡ suc (length (drop (i + 1) xs))
drop_next xs i h = rw add-one (ap length (drop-cons xs i 0 h))

-- ---- one bit at every place
constant : (a : ℕ) (xs : List ℕ) → replicate (length xs) a ≡ map (λ (x : ℕ). a) xs
constant a [] = refl
constant a (x ∷ xs) = ap (λ (t : List ℕ). a ∷ t) (constant a xs)

-- such a word beside the bits xs
module _ (a : ℕ) (xs : List ℕ) {k : ℕ} {cs : List ℕ} where
  pub filled : cs ≡ replicate k a → k ≡ length xs → cs ≡ map (λ (x : ℕ). a) xs
  filled e h = e ∙ rw h (constant a xs)

module _ (f : ℕ → ℕ → ℕ) (a : ℕ) (xs : List ℕ) {k : ℕ} {cs zs : List ℕ} where
  pub with_left : zs ≡ zip_with f cs xs → cs ≡ replicate k a → k ≡ length xs → zs ≡ map (f a) xs
  unfolding zip_with
  with_left z e h = z ∙ rw (e, h) (by xs)
    where
      by : (xs : List ℕ) → zip_with f (replicate (length xs) a) xs ≡ map (f a) xs
      by [] = refl
      by (x ∷ xs) = ap (λ (t : List ℕ). f a x ∷ t) (by xs)

  pub with_right : zs ≡ zip_with f xs cs → cs ≡ replicate k a → k ≡ length xs → zs ≡ map (λ x. f x a) xs
  unfolding zip_with
  with_right z e h = z ∙ rw (e, h) (by xs)
    where
      by : (xs : List ℕ) → zip_with f xs (replicate (length xs) a) ≡ map (λ x. f x a) xs
      by [] = refl
      by (x ∷ xs) = ap (λ (t : List ℕ). f x a ∷ t) (by xs)

-- ---- the top bit, and d where there is none
pub top_bit : (d : ℕ) (xs : List ℕ) → get_or xs (length xs - 1) d ≡ last d xs
unfolding last
top_bit d [] = refl
top_bit d (x ∷ []) = refl
top_bit d (x ∷ x' ∷ xs) =
    let z : suc (suc (length xs)) - 1 ≡ suc (suc (length xs) - 1) = omega arith in
    rw z (top_bit d (x' ∷ xs))

-- ---- the bits of a term
pub bits_snoc : {T : Type 0} (i : ℕ) (f : ℕ → T) → bits i f ++ (f i ∷ []) ≡ bits (suc i) f
bits_snoc zero f = refl
bits_snoc {T} (suc i) f = ap (λ (zs : List T). f 0 ∷ zs) (bits_snoc i (λ k. f (suc k)))
