-- The divider respects the gates, as Rust has it and by the standard. It asks whether a wire is literally false, and the answers must agree.
use mathlib.Core.Path.{◌≡◌, refl, sym, ap, ap₂, ◌∙◌}
use mathlib.Core.Bool.{Bool, true, false, ◌&&◌, cond}
use mathlib.Core.List.{List, [], ◌∷◌, ◌++◌, map}
use Prim.Native.Nat.{ℕ, zero, suc}
use native.Mathlib.Omega.{arith}
use lib.ListN.{length, take, length-map}
use Rattle.theory.specs.Gates.{Gates}
use Rattle.theory.specs.Circuit.{drop_top, ripple_carry_adder, last_carry, carry_out, falses, choose, next_remainder, no_carry, reduced, divide_step, all_false, bitblast_udiv_urem_rec, is_zero, udiv, urem}
use Rattle.theory.proofs.Natural.{Hom, zip_with_hom, adder_hom, last_carry_hom, carry_out_hom, map_not_hom}
use Rattle.theory.proofs.Slices.{map_append, map_take}
use Rattle.theory.proofs.Shift.{cond_hom}

pub map_each : {A B : Type 0} (h : A → B) (f : A → A) (g : B → B) → ((x : A) → h (f x) ≡ g (h x)) → (xs : List A) → map h (map f xs) ≡ map g (map h xs)
map_each h f g e [] = refl
map_each {B = B} h f g e (x ∷ xs) = ap₂ (λ (y : B) (ys : List B). y ∷ ys) (e x) (map_each h f g e xs)

drop_top_map : {A B : Type 0} (h : A → B) (xs : List A) → map h (drop_top xs) ≡ drop_top (map h xs)
drop_top_map h [] = refl
drop_top_map h (x ∷ xs) = map_take h (length xs) (x ∷ xs) ∙ ap (λ (k : ℕ). take k (h x ∷ map h xs)) (sym (length-map xs h))

apart : true ≡ false → ⊥
apart e = let z : ◌≡◌ {A = ℕ} 0 1 = cc in omega arith

abbrev pub both : {A B : Type 0} → (A → B) → List A × List A → List B × List B
both h p = (map h p.0, map h p.1)

module _ {A B : Type 0} {G : Gates A} {H : Gates B} {h : A → B} (M : Hom G H h) where
  pub falses_hom : (xs : List A) → map h (falses G xs) ≡ falses H (map h xs)
  falses_hom [] = refl
  falses_hom (x ∷ xs) = ap₂ (λ (y : B) (ys : List B). y ∷ ys) M.false_hom (falses_hom xs)

  pub choose_hom : (c : A) (ps qs : List A) → map h (choose G c ps qs) ≡ choose H (h c) (map h ps) (map h qs)
  choose_hom c ps qs = zip_with_hom M (G.ite_gate c) (H.ite_gate (h c)) (λ x y. M.ite_hom c x y) ps qs

  next_remainder_hom : (x : A) (r : List A) → map h (next_remainder G x r) ≡ next_remainder H (h x) (map h r)
  next_remainder_hom x r =
      adder_hom M (G.ite_gate (G.eq_gate x G.true_gate) G.true_gate G.false_gate) (G.false_gate ∷ drop_top r) (falses G (x ∷ drop_top r))
      ∙ ap (λ (c : B). ripple_carry_adder H c (h G.false_gate ∷ map h (drop_top r)) (map h (falses G (x ∷ drop_top r)))) odd
      ∙ ap₂ (ripple_carry_adder H (H.ite_gate (H.eq_gate (h x) H.true_gate) H.true_gate H.false_gate))
      (ap₂ (λ (y : B) (ys : List B). y ∷ ys) M.false_hom (drop_top_map h r))
      (falses_hom (x ∷ drop_top r) ∙ ap (λ (ys : List B). falses H (h x ∷ ys)) (drop_top_map h r))
    where
      odd : h (G.ite_gate (G.eq_gate x G.true_gate) G.true_gate G.false_gate) ≡ H.ite_gate (H.eq_gate (h x) H.true_gate) H.true_gate H.false_gate
      odd = rw (M.ite_hom, M.eq_hom, M.true_hom, M.false_hom)

  trues_hom : (xs : List A) → map h (map (λ (x : A). G.true_gate) xs) ≡ map (λ (x : B). H.true_gate) (map h xs)
  trues_hom [] = refl
  trues_hom (x ∷ xs) = ap₂ (λ (y : B) (ys : List B). y ∷ ys) M.true_hom (trues_hom xs)

  module _ (standard : Bool) where
    no_carry_hom : (xs ys : List A) → h (no_carry G standard xs ys) ≡ no_carry H standard (map h xs) (map h ys)
    no_carry_hom xs ys =
        M.not_hom _
        ∙ ap H.not_gate (cond_hom M standard
        (carry_out_hom M G.true_gate xs (map G.not_gate ys) ∙ ap₂ (λ (c : B) (l : List B). carry_out H c (map h xs) l) M.true_hom (map_not_hom M ys))
        (last_carry_hom M G.true_gate xs (map G.not_gate ys) ∙ ap₂ (λ (c : B) (l : List B). last_carry H c (map h xs) l) M.true_hom (map_not_hom M ys)))

    reduced_hom : (r ys : List A) → map h (reduced G standard r ys) ≡ reduced H standard (map h r) (map h ys)
    reduced_hom r ys = go standard
      where
        go : (b : Bool) → map h (cond b (ripple_carry_adder G G.true_gate r (map G.not_gate ys)) (map (λ (x : A). G.true_gate) r))
            ≡ cond b (ripple_carry_adder H H.true_gate (map h r) (map H.not_gate (map h ys))) (map (λ (x : B). H.true_gate) (map h r))
        go true = adder_hom M G.true_gate r (map G.not_gate ys) ∙ ap₂ (λ (c : B) (l : List B). ripple_carry_adder H c (map h r) l) M.true_hom (map_not_hom M ys)
        go false = trues_hom r

    pub divide_step_hom : (x : A) (xs ys : List A) (qr : List A × List A) → both h (divide_step G standard x xs ys qr) ≡ divide_step H standard (h x) (map h xs) (map h ys) (both h qr)
    unfolding divide_step
    divide_step_hom x xs ys qr =
        ap₂ (λ (q r : List B). (q, r))
        (map_each h (λ b. G.ite_gate below G.false_gate b) (λ b. H.ite_gate (h below) H.false_gate b) (λ b. M.ite_hom below G.false_gate b ∙ ap (λ (f : B). H.ite_gate (h below) f (h b)) M.false_hom) quotient
        ∙ ap₂ (λ (c : B) (l : List B). map (λ b. H.ite_gate c H.false_gate b) l) below_hom quotient_hom)
        (choose_hom below (x ∷ xs) (choose G sign r (reduced G standard r ys)) ∙ ap₂ (λ (c : B) (l : List B). choose H c (h x ∷ map h xs) l) below_hom remainder_hom)
      where
        r : List A
        r = next_remainder G x qr.1

        s : List B
        s = next_remainder H (h x) (map h qr.1)

        sign : A
        sign = no_carry G standard r ys

        below : A
        below = no_carry G standard (x ∷ xs) ys

        quotient : List A
        quotient = G.ite_gate sign G.false_gate G.true_gate ∷ drop_top qr.0

        r_hom : map h r ≡ s
        r_hom = next_remainder_hom x qr.1

        sign_hom : h sign ≡ no_carry H standard s (map h ys)
        sign_hom = no_carry_hom r ys ∙ ap (λ (l : List B). no_carry H standard l (map h ys)) r_hom

        below_hom : h below ≡ no_carry H standard (h x ∷ map h xs) (map h ys)
        below_hom = no_carry_hom (x ∷ xs) ys

        quotient_hom : map h quotient ≡ H.ite_gate (no_carry H standard s (map h ys)) H.false_gate H.true_gate ∷ drop_top (map h qr.0)
        quotient_hom =
            ap₂ (λ (y : B) (l : List B). y ∷ l)
            (M.ite_hom sign G.false_gate G.true_gate ∙ rw (M.false_hom, M.true_hom, sign_hom)) (drop_top_map h qr.0)

        remainder_hom : map h (choose G sign r (reduced G standard r ys)) ≡ choose H (no_carry H standard s (map h ys)) s (reduced H standard s (map h ys))
        remainder_hom =
            choose_hom sign r (reduced G standard r ys)
            ∙ ap (λ (c : B). choose H c (map h r) (map h (reduced G standard r ys))) sign_hom
            ∙ ap₂ (choose H (no_carry H standard s (map h ys))) r_hom (reduced_hom r ys ∙ ap (λ (l : List B). reduced H standard l (map h ys)) r_hom)

  pub is_zero_hom : (ys : List A) → h (is_zero G ys) ≡ is_zero H (map h ys)
  is_zero_hom ys =
      M.all_hom (map (λ y. G.eq_gate y G.false_gate) ys)
      ∙ ap H.all_gate (map_each h (λ y. G.eq_gate y G.false_gate) (λ y. H.eq_gate y H.false_gate) (λ y. M.eq_hom y G.false_gate ∙ ap (H.eq_gate (h y)) M.false_hom) ys)

  module _ (standard : Bool) (p : A → Bool) (q : B → Bool) (agree : (x : A) → p x ≡ q (h x)) where
    all_false_hom : (xs : List A) → all_false G p xs ≡ all_false H q (map h xs)
    all_false_hom [] = refl
    all_false_hom (x ∷ xs) = ap₂ ◌&&◌ (agree x) (all_false_hom xs)

    divide_hom : (n : ℕ) (xs ys : List A) → both h (bitblast_udiv_urem_rec G standard p n xs ys) ≡ bitblast_udiv_urem_rec H standard q n (map h xs) (map h ys)
    unfolding bitblast_udiv_urem_rec
    divide_hom zero xs ys = ap (λ (l : List B). (l, l)) (falses_hom xs)
    divide_hom (suc n) [] ys = refl
    divide_hom (suc n) (x ∷ xs) ys =
        go (all_false G p (x ∷ xs)) (all_false H q (h x ∷ map h xs)) (all_false_hom (x ∷ xs))
        (divide_step G standard x xs ys (bitblast_udiv_urem_rec G standard p n (xs ++ (G.false_gate ∷ [])) ys))
        (divide_step H standard (h x) (map h xs) (map h ys) (bitblast_udiv_urem_rec H standard q n (map h xs ++ (H.false_gate ∷ [])) (map h ys)))
        (divide_step_hom standard x xs ys (bitblast_udiv_urem_rec G standard p n (xs ++ (G.false_gate ∷ [])) ys)
        ∙ ap (divide_step H standard (h x) (map h xs) (map h ys))
        (divide_hom n (xs ++ (G.false_gate ∷ [])) ys
        ∙ ap (λ (l : List B). bitblast_udiv_urem_rec H standard q n l (map h ys)) (map_append h xs (G.false_gate ∷ []) ∙ ap (λ (f : B). map h xs ++ (f ∷ [])) M.false_hom)))
      where
        go : (b c : Bool) → b ≡ c → (s : List A × List A) (t : List B × List B) → both h s ≡ t
            → both h (elim b as (λ z. List A × List A) [ true ↦ (falses G (x ∷ xs), falses G (x ∷ xs)) | false ↦ s ])
            ≡ elim c as (λ z. List B × List B) [ true ↦ (falses H (h x ∷ map h xs), falses H (h x ∷ map h xs)) | false ↦ t ]
        go true true e s t d = ap (λ (l : List B). (l, l)) (falses_hom (x ∷ xs))
        go false false e s t d = d
        go true false e s t d = absurd (apart e)
        go false true e s t d = absurd (apart (sym e))

    pub udiv_hom : (xs ys : List A) → map h (udiv G standard p xs ys) ≡ udiv H standard q (map h xs) (map h ys)
    unfolding udiv
    udiv_hom xs ys =
        map_each h (λ b. G.ite_gate (is_zero G ys) G.true_gate b) (λ b. H.ite_gate (h (is_zero G ys)) H.true_gate b)
        (λ b. M.ite_hom (is_zero G ys) G.true_gate b ∙ ap (λ (t : B). H.ite_gate (h (is_zero G ys)) t (h b)) M.true_hom) (bitblast_udiv_urem_rec G standard p (length xs) xs ys).0
        ∙ ap₂ (λ (c : B) (l : List B). map (λ b. H.ite_gate c H.true_gate b) l) (is_zero_hom ys)
        (ap (λ (z : List B × List B). z.0) (divide_hom (length xs) xs ys) ∙ ap (λ (n : ℕ). (bitblast_udiv_urem_rec H standard q n (map h xs) (map h ys)).0) (sym (length-map xs h)))

    pub urem_hom : (xs ys : List A) → map h (urem G standard p xs ys) ≡ urem H standard q (map h xs) (map h ys)
    unfolding urem
    urem_hom xs ys =
        choose_hom (is_zero G ys) xs (bitblast_udiv_urem_rec G standard p (length xs) xs ys).1
        ∙ ap₂ (λ (c : B) (l : List B). choose H c (map h xs) l) (is_zero_hom ys)
        (ap (λ (z : List B × List B). z.1) (divide_hom (length xs) xs ys) ∙ ap (λ (n : ℕ). (bitblast_udiv_urem_rec H standard q n (map h xs) (map h ys)).1) (sym (length-map xs h)))
