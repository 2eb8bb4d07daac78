-- Division: the test for `false`, a step, and the three ways of the recursion.
use mathlib.Core.Path.{◌≡◌, refl, sym, ap, ap₂, ◌∙◌}
use mathlib.Core.Bool.{Bool, true, false, cond, ◌&&◌}
use mathlib.Core.List.{List, [], ◌∷◌, ◌++◌, map}
use Prim.Native.Nat.{ℕ, zero, suc, ◌-◌, ◌≤◌}
use native.Mathlib.Omega.{arith}
use lib.ListN.{length, drop, get_or, replicate, length-map}
use lib.Seq.{length-take-le, drop-cons}
use Rattle.std.specs.List.{list_all}
use Rattle.theory.specs.Gates.{Gates}
use Rattle.theory.specs.Circuit.{ripple_carry_adder, last_carry, carry_out, drop_top, next_remainder, all_false, falses, choose, no_carry, reduced, divide_step, bitblast_udiv_urem_rec, is_zero, udiv, urem}
use Rattle.circuits.proofs.AddLaws.{adder_shorter, adder_length}
use Rattle.circuits.proofs.AppendLaws.{filled}

-- ---- the test of every bit
all_listed : (g : Gates ℕ) (p : ℕ → Bool) (xs : List ℕ) → all_false g p xs ≡ list_all p xs
all_listed g p [] = refl
all_listed g p (x ∷ xs) = ap (λ (t : Bool). p x && t) (all_listed g p xs)

-- ---- a step
-- the next remainder has as many bits, or one
remainder_fits : (g : Gates ℕ) (low : ℕ) (r : List ℕ) {r1 : List ℕ} (n : ℕ) → r1 ≡ next_remainder g low r → length r ≤ n → 1 ≤ n → length r1 ≤ n
remainder_fits g low r n e h k = rw e (omega (arith, by r h, adder_shorter g (g.ite_gate (g.eq_gate low g.true_gate) g.true_gate g.false_gate) (g.false_gate ∷ drop_top r) (falses g (low ∷ drop_top r))))
  where
    by : (xs : List ℕ) → length xs ≤ n → length (g.false_gate ∷ drop_top xs) ≤ n
    by [] h = k
    by (x ∷ xs) h = omega (arith, h, length-take-le (length xs) (x ∷ xs) (omega arith))

-- so that it fits beside the inverted bits of y
pub remainder_beside : (g : Gates ℕ) (low : ℕ) (r x ys : List ℕ) {r1 inverted : List ℕ} → r1 ≡ next_remainder g low r → inverted ≡ map g.not_gate ys
    → 1 ≤ length x → length x ≤ length ys → length r ≤ length x → length r1 ≤ length inverted
remainder_beside g low r x ys {inverted = inverted} e n some beside smaller =
    let long : length inverted ≡ length ys = ap length n ∙ length-map ys g.not_gate in
    remainder_fits g low r (length inverted) e (omega (arith, smaller, beside, long)) (omega (arith, some, beside, long))

-- the sum that is x - y, whose second bits `inverted` are those of y
module _ (g : Gates ℕ) (standard : Bool) (x ys : List ℕ) {inverted : List ℕ} (n : inverted ≡ map g.not_gate ys) where
  pub sum_no_carry : {out carry sign : ℕ} → out ≡ carry_out g g.true_gate x inverted → carry ≡ last_carry g g.true_gate x inverted
      → sign ≡ g.not_gate (cond standard out carry) → sign ≡ no_carry g standard x ys
  sum_no_carry a b e = rw (e, a, b, n) refl

  pub sum_reduced : {bits less : List ℕ} → length x ≤ length inverted → bits ≡ ripple_carry_adder g g.true_gate x inverted
      → less ≡ cond standard bits (replicate (length bits) g.true_gate) → less ≡ reduced g standard x ys
  sum_reduced h b e =
      e ∙ ap₂ (cond standard) (b ∙ ap (ripple_carry_adder g g.true_gate x) n)
      (filled g.true_gate x refl (ap length b ∙ adder_length g g.true_gate x inverted h))

module _ (g : Gates ℕ) (standard : Bool) (x ys q r : List ℕ) where
  pub stepped : {sign low below : ℕ} {r1 q1 less r2 quot rem : List ℕ} → 1 ≤ length x → r1 ≡ next_remainder g (get_or x 0 0) r → sign ≡ no_carry g standard r1 ys
      → low ≡ g.ite_gate sign g.false_gate g.true_gate → q1 ≡ low ∷ drop_top q → less ≡ reduced g standard r1 ys → r2 ≡ choose g sign r1 less
      → below ≡ no_carry g standard x ys → quot ≡ map (g.ite_gate below g.false_gate) q1 → rem ≡ choose g below x r2
      → (quot, rem) ≡ divide_step g standard (get_or x 0 0) (drop 1 x) ys (q, r)
  unfolding divide_step
  stepped {sign} {low} {below} {r1} {q1} {less} {r2} {quot} {rem} h a s l b m t c u v = λ i. (quotient i, rest i)
    where
      e : x ≡ get_or x 0 0 ∷ drop 1 x
      e = drop-cons x 0 0 h

      quotient : quot ≡ (divide_step g standard (get_or x 0 0) (drop 1 x) ys (q, r)).0
      quotient = u ∙ ap (λ (z : ℕ). map (g.ite_gate z g.false_gate) q1) (c ∙ ap (λ (z : List ℕ). no_carry g standard z ys) e) ∙ rw (b, l, s, a)

      rest : rem ≡ (divide_step g standard (get_or x 0 0) (drop 1 x) ys (q, r)).1
      rest = v ∙ ap₂ (λ (z : ℕ) (zs : List ℕ). choose g z zs r2) (c ∙ ap (λ (z : List ℕ). no_carry g standard z ys) e) e ∙ rw (t, m, s, a)

-- ---- the recursion
if_true : {A : Type 0} (b : Bool) (u v : A) → b ≡ true → u ≡ (elim b [ true ↦ u | false ↦ v ])
if_true b u v e = rw e

if_false : {A : Type 0} (b : Bool) (u v : A) → b ≡ false → v ≡ (elim b [ true ↦ u | false ↦ v ])
if_false b u v e = rw e

module _ (g : Gates ℕ) (standard : Bool) (p : ℕ → Bool) (ys : List ℕ) where
  -- a dividend with a first bit, k being left
  abbrev step : ℕ → ℕ → List ℕ → List ℕ × List ℕ
  step k x xs = divide_step g standard x xs ys (bitblast_udiv_urem_rec g standard p k (xs ++ (g.false_gate ∷ [])) ys)

  pub divide_stop : (xs : List ℕ) {q r : List ℕ} {k : ℕ} → k ≡ 0 → q ≡ falses g xs → r ≡ falses g xs → (q, r) ≡ bitblast_udiv_urem_rec g standard p k xs ys
  unfolding bitblast_udiv_urem_rec
  divide_stop xs e f h = rw (e, f, h)

  pub divide_none : (xs : List ℕ) {q r : List ℕ} {t : Bool} (k : ℕ) → (k ≡ 0 → ⊥) → t ≡ list_all p xs → t ≡ true → q ≡ falses g xs → r ≡ falses g xs
      → (q, r) ≡ bitblast_udiv_urem_rec g standard p k xs ys
  unfolding bitblast_udiv_urem_rec
  divide_none xs zero ne a e f h = absurd (ne refl)
  divide_none [] (suc k) ne a e f h = rw (f, h)
  divide_none (x ∷ xs) (suc k) ne a e f h =
      rw (f, h) (if_true (all_false g p (x ∷ xs)) (falses g (x ∷ xs), falses g (x ∷ xs)) (step k x xs) (all_listed g p (x ∷ xs) ∙ sym a ∙ e))

  pub divide_more : (all : List ℕ) {half : List ℕ} {t : Bool} {d e : List ℕ × List ℕ} (k : ℕ) → (k ≡ 0 → ⊥) → t ≡ list_all p all → t ≡ false
      → half ≡ drop 1 all ++ (g.false_gate ∷ []) → d ≡ bitblast_udiv_urem_rec g standard p (k - 1) half ys
      → e ≡ divide_step g standard (get_or all 0 0) (drop 1 all) ys d → e ≡ bitblast_udiv_urem_rec g standard p k all ys
  unfolding bitblast_udiv_urem_rec
  divide_more all zero ne a f b c s = absurd (ne refl)
  divide_more [] (suc k) ne a f b c s = let z : ◌≡◌ {A = Bool} true false = sym a ∙ f in absurd (cc)
  divide_more (x ∷ xs) {half} {t} {d} {e} (suc k) ne a f b c s =
      let z : suc k - 1 ≡ k = omega arith in
      s
      ∙ ap (divide_step g standard x xs ys) (c ∙ ap₂ (λ (k : ℕ) (l : List ℕ). bitblast_udiv_urem_rec g standard p k l ys) z b)
      ∙ if_false (all_false g p (x ∷ xs)) (falses g (x ∷ xs), falses g (x ∷ xs)) (step k x xs) (all_listed g p (x ∷ xs) ∙ sym a ∙ f)

  -- ---- where the divisor is zero
  pub quotient : (xs : List ℕ) {z n : ℕ} {q out : List ℕ} {d : List ℕ × List ℕ} → d ≡ bitblast_udiv_urem_rec g standard p n xs ys → n ≡ length xs → q ≡ d.0
      → z ≡ is_zero g ys → out ≡ map (g.ite_gate z g.true_gate) q → out ≡ udiv g standard p xs ys
  unfolding udiv
  quotient xs a h b c e = e ∙ rw (b, a, c, h)

  pub remains : (xs : List ℕ) {z n : ℕ} {r out : List ℕ} {d : List ℕ × List ℕ} → d ≡ bitblast_udiv_urem_rec g standard p n xs ys → n ≡ length xs → r ≡ d.1
      → z ≡ is_zero g ys → out ≡ choose g z xs r → out ≡ urem g standard p xs ys
  unfolding urem
  remains xs a h b c e = e ∙ rw (b, a, c, h)
