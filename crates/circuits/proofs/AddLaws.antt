-- The adder's loop.
use mathlib.Core.Path.{◌≡◌, refl, sym, ap, ◌∙◌}
use mathlib.Core.List.{List, [], ◌∷◌, ◌++◌}
use mathlib.Core.Logic.{◌⊎◌, inl, inr}
use Prim.Native.Nat.{ℕ, suc, ◌≤◌}
use native.Mathlib.Omega.{arith}
use lib.ListN.{length}
use Rattle.std.proofs.lemmas.List.{nil_from_length}
use Rattle.theory.specs.Gates.{Gates}
use Rattle.theory.specs.Circuit.{ripple_carry_adder, last_carry, carry_out, sum_bit, next_carry}
use Rattle.circuits.proofs.AppendLaws.{Appending, append_turn, append_end}

module _ (g : Gates ℕ) where
  pub adder_next : {x y c v c' : ℕ} {xs ys xs' ys' : List ℕ} → (xs ≡ x ∷ xs') × (ys ≡ y ∷ ys') → v ≡ sum_bit g x y c → c' ≡ next_carry g x y c
      → ripple_carry_adder g c xs ys ≡ v ∷ ripple_carry_adder g c' xs' ys'
  unfolding ripple_carry_adder
  adder_next h e f = rw (h.0, h.1, e, f) refl

  pub adder_none : (c : ℕ) {xs ys : List ℕ} → (xs ≡ []) ⊎ (ys ≡ []) → ripple_carry_adder g c xs ys ≡ []
  unfolding ripple_carry_adder
  adder_none c (inl e) = rw e refl
  adder_none c {xs} (inr e) = rw e (none xs)
    where
      none : (zs : List ℕ) → ripple_carry_adder g c zs [] ≡ []
      none [] = refl
      none (z ∷ zs) = refl

  pub adder_shorter : (c : ℕ) (xs ys : List ℕ) → length (ripple_carry_adder g c xs ys) ≤ length xs
  unfolding ripple_carry_adder
  adder_shorter c [] ys = omega arith
  adder_shorter c (x ∷ xs) [] = omega arith
  adder_shorter c (x ∷ xs) (y ∷ ys) = omega (arith, adder_shorter (next_carry g x y c) xs ys)

  pub adder_length : (c : ℕ) (xs ys : List ℕ) → length xs ≤ length ys → length (ripple_carry_adder g c xs ys) ≡ length xs
  unfolding ripple_carry_adder
  adder_length c [] ys h = refl
  adder_length c (x ∷ xs) [] h = absurd (omega arith)
  adder_length c (x ∷ xs) (y ∷ ys) h = ap suc (adder_length (next_carry g x y c) xs ys (omega arith))

  out_next : (c : ℕ) {x y c' : ℕ} {xs ys xs' ys' : List ℕ} → (xs ≡ x ∷ xs') × (ys ≡ y ∷ ys') → c' ≡ next_carry g x y c → carry_out g c' xs' ys' ≡ carry_out g c xs ys
  unfolding carry_out
  out_next c h e = rw (h.0, h.1, e) refl

  out_none : (c : ℕ) {xs ys : List ℕ} → (xs ≡ []) ⊎ (ys ≡ []) → c ≡ carry_out g c xs ys
  unfolding carry_out
  out_none c (inl e) = rw e refl
  out_none c {xs} (inr e) = rw e (none xs)
    where
      none : (zs : List ℕ) → c ≡ carry_out g c zs []
      none [] = refl
      none (z ∷ zs) = refl

  -- the last carry, where c goes into the first of these bits and l into the bit before
  abbrev carried : ℕ → ℕ → List ℕ → List ℕ → ℕ
  carried l c [] ys = l
  carried l c (x ∷ xs) ys = last_carry g c (x ∷ xs) ys

  carried_next : (l c : ℕ) {x y c' : ℕ} {xs ys xs' ys' : List ℕ} → (xs ≡ x ∷ xs') × (ys ≡ y ∷ ys') → c' ≡ next_carry g x y c → carried c c' xs' ys' ≡ carried l c xs ys
  unfolding last_carry
  carried_next l c {x} {y} {xs'} {ys'} h e = rw (h.0, h.1, e) (next xs')
    where
      next : (zs : List ℕ) → carried c (next_carry g x y c) zs ys' ≡ last_carry g c (x ∷ zs) (y ∷ ys')
      next [] = refl
      next (z ∷ zs) = refl

-- xs and ys are left, c is the carry into the next bit, and l the one into the bit before it
pub record Adding (g : Gates ℕ) (c₀ : ℕ) (xs₀ ys₀ out : List ℕ) (l c : ℕ) (xs ys : List ℕ) : Type 0 where
  pub fill : Appending out (ripple_carry_adder g c xs ys) (ripple_carry_adder g c₀ xs₀ ys₀) (length xs)
  pub last : carried g l c xs ys ≡ last_carry g c₀ xs₀ ys₀
  pub over : carry_out g c xs ys ≡ carry_out g c₀ xs₀ ys₀
  pub beside : length xs ≤ length ys

module _ {g : Gates ℕ} {c₀ : ℕ} {xs₀ ys₀ out : List ℕ} {l c : ℕ} {xs ys : List ℕ} where
  pub adder_turn : {x y v c' : ℕ} {out' xs' ys' : List ℕ} → Adding g c₀ xs₀ ys₀ out l c xs ys → (xs ≡ x ∷ xs') × (ys ≡ y ∷ ys') → out' ≡ out ++ v ∷ []
      → v ≡ sum_bit g x y c → c' ≡ next_carry g x y c → Adding g c₀ xs₀ ys₀ out' c c' xs' ys'
  adder_turn inv h o e f =
      record {
        fill = append_turn inv.fill o (adder_next g h e f) (ap length h.0);
        last = carried_next g l c h f ∙ inv.last;
        over = out_next g c h f ∙ inv.over;
        beside = omega (arith, inv.beside, ap length h.0, ap length h.1);
      }

  pub adder_end : Adding g c₀ xs₀ ys₀ out l c xs ys → (xs ≡ []) ⊎ (ys ≡ []) → (out ≡ ripple_carry_adder g c₀ xs₀ ys₀) × (l ≡ last_carry g c₀ xs₀ ys₀) × (c ≡ carry_out g c₀ xs₀ ys₀)
  adder_end inv h = (append_end inv.fill (adder_none g c h), sym (ap (λ (t : List ℕ). carried g l c t ys) (done h)) ∙ inv.last, out_none g c h ∙ inv.over)
    where
      done : (xs ≡ []) ⊎ (ys ≡ []) → xs ≡ []
      done (inl e) = e
      done (inr e) = nil_from_length xs (omega (arith, inv.beside, ap length e))

pub adder_start : (g : Gates ℕ) (c : ℕ) {xs ys xs₀ ys₀ : List ℕ} → xs ≡ xs₀ → ys ≡ ys₀ → length xs₀ ≤ length ys₀ → length xs₀ ≤ 64 → Adding g c xs₀ ys₀ [] c c xs ys
unfolding last_carry
adder_start g c {xs₀ = xs₀} {ys₀} e f h k =
    rw (e, f) record { fill = record { says = refl; room = omega arith }; last = start xs₀; over = refl; beside = h }
  where
    start : (zs : List ℕ) → carried g c c zs ys₀ ≡ last_carry g c zs ys₀
    start [] = refl
    start (z ∷ zs) = refl
