-- A map that respects the gates respects the circuits.
use mathlib.Core.Path.{◌≡◌, refl, ap, ap₂, ◌∙◌}
use mathlib.Core.List.{List, [], ◌∷◌, map}
use Rattle.theory.specs.Gates.{Gates}
use Rattle.theory.specs.Circuit.{ripple_carry_adder, last_carry, carry_out, negate, ult_from, bitblast_ult, slt_from, slt, zip_with, gather, equality, sum_bit, next_carry, less_step, sign_step}

pub record Hom {A B : Type 0} (G : Gates A) (H : Gates B) (h : A → B) : Type 0 where
  pub true_hom : h G.true_gate ≡ H.true_gate
  pub false_hom : h G.false_gate ≡ H.false_gate
  pub not_hom : (x : A) → h (G.not_gate x) ≡ H.not_gate (h x)
  pub and_hom : (x y : A) → h (G.and_gate x y) ≡ H.and_gate (h x) (h y)
  pub or_hom : (x y : A) → h (G.or_gate x y) ≡ H.or_gate (h x) (h y)
  pub xor_hom : (x y : A) → h (G.xor_gate x y) ≡ H.xor_gate (h x) (h y)
  pub eq_hom : (x y : A) → h (G.eq_gate x y) ≡ H.eq_gate (h x) (h y)
  pub ite_hom : (c x y : A) → h (G.ite_gate c x y) ≡ H.ite_gate (h c) (h x) (h y)
  pub all_hom : (xs : List A) → h (G.all_gate xs) ≡ H.all_gate (map h xs)

module _ {A B : Type 0} {G : Gates A} {H : Gates B} {h : A → B} (M : Hom G H h) where
  sum_hom : (x y c : A) → h (sum_bit G x y c) ≡ sum_bit H (h x) (h y) (h c)
  sum_hom x y c = simp M.xor_hom

  carry_hom : (x y c : A) → h (next_carry G x y c) ≡ next_carry H (h x) (h y) (h c)
  carry_hom x y c = simp (M.or_hom, M.and_hom, M.xor_hom)

  less_hom : (x y r : A) → h (less_step G x y r) ≡ less_step H (h x) (h y) (h r)
  less_hom x y r = simp (M.or_hom, M.and_hom, M.eq_hom, M.not_hom)

  sign_hom : (x y r : A) → h (sign_step G x y r) ≡ sign_step H (h x) (h y) (h r)
  sign_hom x y r = simp (M.or_hom, M.and_hom, M.eq_hom, M.not_hom)

  pub adder_hom : (c : A) (xs ys : List A) → map h (ripple_carry_adder G c xs ys) ≡ ripple_carry_adder H (h c) (map h xs) (map h ys)
  unfolding ripple_carry_adder
  adder_hom c [] ys = refl
  adder_hom c (x ∷ xs) [] = refl
  adder_hom c (x ∷ xs) (y ∷ ys) =
      rw (← sum_hom x y c, ← carry_hom x y c) (ap (λ (zs : List B). h (sum_bit G x y c) ∷ zs) (adder_hom (next_carry G x y c) xs ys))

  pub last_carry_hom : (c : A) (xs ys : List A) → h (last_carry G c xs ys) ≡ last_carry H (h c) (map h xs) (map h ys)
  unfolding last_carry
  last_carry_hom c [] ys = refl
  last_carry_hom c (x ∷ []) ys = refl
  last_carry_hom c (x ∷ x' ∷ xs) [] = refl
  last_carry_hom c (x ∷ x' ∷ xs) (y ∷ ys) = rw (← carry_hom x y c) (last_carry_hom (next_carry G x y c) (x' ∷ xs) ys)

  pub carry_out_hom : (c : A) (xs ys : List A) → h (carry_out G c xs ys) ≡ carry_out H (h c) (map h xs) (map h ys)
  unfolding carry_out
  carry_out_hom c [] ys = refl
  carry_out_hom c (x ∷ xs) [] = refl
  carry_out_hom c (x ∷ xs) (y ∷ ys) = rw (← carry_hom x y c) (carry_out_hom (next_carry G x y c) xs ys)

  pub ult_from_hom : (r : A) (xs ys : List A) → h (ult_from G r xs ys) ≡ ult_from H (h r) (map h xs) (map h ys)
  unfolding ult_from
  ult_from_hom r [] ys = refl
  ult_from_hom r (x ∷ xs) [] = refl
  ult_from_hom r (x ∷ xs) (y ∷ ys) = rw (← less_hom x y r) (ult_from_hom (less_step G x y r) xs ys)

  pub ult_hom : (xs ys : List A) → h (bitblast_ult G xs ys) ≡ bitblast_ult H (map h xs) (map h ys)
  unfolding bitblast_ult
  ult_hom [] ys = M.false_hom
  ult_hom (x ∷ xs) [] = M.false_hom
  ult_hom (x ∷ xs) (y ∷ ys) = ult_from_hom (G.and_gate (G.not_gate x) y) xs ys ∙ simp (M.and_hom, M.not_hom)

  pub slt_from_hom : (r : A) (xs ys : List A) → h (slt_from G r xs ys) ≡ slt_from H (h r) (map h xs) (map h ys)
  unfolding slt_from
  slt_from_hom r [] ys = refl
  slt_from_hom r (x ∷ xs) [] = refl
  slt_from_hom r (x ∷ []) (y ∷ ys) = sign_hom x y r
  slt_from_hom r (x ∷ x' ∷ xs) (y ∷ ys) =
      slt_from_hom (less_step G x y r) (x' ∷ xs) ys ∙ ap (λ z. slt_from H z (map h (x' ∷ xs)) (map h ys)) (less_hom x y r)

  pub slt_hom : (xs ys : List A) → h (slt G xs ys) ≡ slt H (map h xs) (map h ys)
  unfolding slt
  slt_hom [] ys = M.false_hom
  slt_hom (x ∷ xs) [] = M.false_hom
  slt_hom (x ∷ []) (y ∷ ys) = simp (M.and_hom, M.not_hom)
  slt_hom (x ∷ x' ∷ xs) (y ∷ ys) = slt_from_hom (G.and_gate (G.not_gate x) y) (x' ∷ xs) ys ∙ simp (M.and_hom, M.not_hom)

  pub zip_with_hom : (f : A → A → A) (g : B → B → B) → ((x y : A) → h (f x y) ≡ g (h x) (h y))
      → (xs ys : List A) → map h (zip_with f xs ys) ≡ zip_with g (map h xs) (map h ys)
  unfolding zip_with
  zip_with_hom f g e [] ys = refl
  zip_with_hom f g e (x ∷ xs) [] = refl
  zip_with_hom f g e (x ∷ xs) (y ∷ ys) = ap₂ (λ (z : B) (zs : List B). z ∷ zs) (e x y) (zip_with_hom f g e xs ys)

  pub gather_hom : (xs : List A) → h (gather G xs) ≡ gather H (map h xs)
  unfolding gather
  gather_hom [] = M.true_hom
  gather_hom (x ∷ []) = refl
  gather_hom (x ∷ x' ∷ xs) = M.all_hom (x ∷ x' ∷ xs)

  pub equality_hom : (xs ys : List A) → h (equality G xs ys) ≡ equality H (map h xs) (map h ys)
  equality_hom xs ys = gather_hom _ ∙ ap (gather H) (zip_with_hom G.eq_gate H.eq_gate M.eq_hom xs ys)

  pub map_not_hom : (xs : List A) → map h (map G.not_gate xs) ≡ map H.not_gate (map h xs)
  map_not_hom [] = refl
  map_not_hom (x ∷ xs) = ap₂ (λ (z : B) (zs : List B). z ∷ zs) (M.not_hom x) (map_not_hom xs)

  map_false : (xs : List A) → map h (map (λ (x : A). G.false_gate) xs) ≡ map (λ (x : B). H.false_gate) (map h xs)
  map_false [] = refl
  map_false (x ∷ xs) = ap₂ (λ (z : B) (zs : List B). z ∷ zs) M.false_hom (map_false xs)

  pub negate_hom : (xs : List A) → map h (negate G xs) ≡ negate H (map h xs)
  negate_hom xs =
      adder_hom G.true_gate (map G.not_gate xs) (map (λ (x : A). G.false_gate) xs)
      ∙ rw (M.true_hom, map_not_hom xs, map_false xs)
