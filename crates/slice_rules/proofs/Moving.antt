-- Moved bits of an array are the numbers of moved bits of terms.
use mathlib.Core.Path.{◌≡◌, refl, sym, ◌∙◌}
use mathlib.Core.List.{List, [], ◌∷◌, map}
use Prim.Native.Nat.{ℕ, zero, suc}
use lib.ListN.{get_or}
use Rattle.theory.specs.Move.{bits, bit_of}
use Rattle.theory.proofs.Indexed.{bits_same, map_bits}

get_or_map : {A : Type 0} (h : A → ℕ) (d : A) (ts : List A) (i : ℕ) → get_or (map h ts) i (h d) ≡ h (get_or ts i d)
get_or_map h d [] i = refl
get_or_map h d (t ∷ ts) zero = refl
get_or_map h d (t ∷ ts) (suc i) = get_or_map h d ts i

pub moved_numbers : {A : Type 0} (h : A → ℕ) (d : A) (ts : List A) {xs : List ℕ} {z : ℕ} → xs ≡ map h ts → h d ≡ z → (m : ℕ) (f : ℕ → ℕ)
    → bits m (λ j. bit_of z xs (f j)) ≡ map h (bits m (λ j. bit_of d ts (f j)))
moved_numbers h d ts {xs} {z} e g m f =
    bits_same m (λ j. get_or xs (f j) z) (λ j. h (get_or ts (f j) d)) (λ j. rw (e, ← g) (get_or_map h d ts (f j))) ∙ sym (map_bits h m (λ j. bit_of d ts (f j)))
