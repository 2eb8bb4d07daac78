-- Rule 23: a conjunction cut into slices has the conjunction's value.
use mathlib.Core.Path.{◌≡◌, refl, sym, ap, ap₂, subst, ◌∙◌}
use mathlib.Core.Bool.{Bool, true, false, ◌&&◌}
use mathlib.Core.List.{foldl}
use Prim.Native.Nat.{ℕ, suc, ◌+◌, ◌-◌, ◌*◌, ◌/◌, ◌%◌, ◌^◌, ◌<◌, ◌≤◌}
use native.Mathlib.Nat.{div-div-eq-div-mul, div-add-mod', div-eq_of_lt, div-one, zero-add, add-zero, sub_self}
use native.Mathlib.Omega.{arith}
use lib.Bits.{bit_and, and_lt, and_shr, and_mod}
use lib.ListN.{length}
use lib.Dec.{T, leb, ltb, eqb, eqb→eq, leb→le}
use lib.Ieee.Fits.{and_l, and_r}
use lib.Pow.{pow-add}
use Rattle.theory.specs.Kind.{BvAnd, BvConcat, BvExtract, many, takes}
use Rattle.theory.specs.Term.{fold, Term, Terms, node, nil, cons, to_list, same_term, two}
use Rattle.theory.specs.Sort.{guard, Sort, bv, is_bv_sort, all_bv, sort_width, sum_widths, is_width, sort_of, sorts_of}
use Rattle.theory.specs.Value.{Assign, Val, number, number_of, value_width, and_n, concat2, meaning, value, values}
use Rattle.theory.specs.Verdict.{Verdict, held, wrong_form, terms_differ, index_not_next}
use Rattle.theory.specs.Rule.{nth, index_of, slice_verdict, slices_verdict}
use Rattle.theory.proofs.Sound.{bv_value}
use Rattle.theory.proofs.Blast.{guard_yes}
use Rattle.theory.proofs.Sorts.{is_bv}
use Rattle.theory.proofs.Same.{same_eq}
use Rattle.theory.proofs.Form.{else_held, unary_held, binary_held}

-- ---- the form of a slice
pub record Slice (done : ℕ) (a c slice : Term) (next : ℕ → Verdict) : Type 0 where
  pub i : ℕ
  pub j : ℕ
  pub is : slice ≡ two BvAnd (node (BvExtract i j) (cons a nil)) (node (BvExtract i j) (cons c nil))
  pub top : suc i ≡ done
  pub after : next j ≡ held

pub slice_held : (done : ℕ) (a c slice : Term) (next : ℕ → Verdict) → slice_verdict done a c slice next ≡ held → Slice done a c slice next
slice_held done a c slice next e =
    let b = binary_held 42 slice _ e in
    let p = b.left in
    let q = b.right in
    let up = unary_held 57 p _ b.after in
    let uq = unary_held 57 q _ up.after in
    let t₁ = else_held (eqb (index_of 0 p) (index_of 0 q) && eqb (index_of 1 p) (index_of 1 q)) wrong_form _ tt uq.after in
    let t₂ = else_held (eqb (suc (index_of 0 p)) done) index_not_next _ tt t₁.1 in
    let t₃ = else_held (same_term a up.one && same_term c uq.one) terms_differ _ tt t₂.1 in
    let ip : index_of 0 p ≡ nth 0 up.numbers = ap (index_of 0) up.is in
    let jp : index_of 1 p ≡ nth 1 up.numbers = ap (index_of 1) up.is in
    let iq : index_of 0 q ≡ nth 0 uq.numbers = ap (index_of 0) uq.is in
    let jq : index_of 1 q ≡ nth 1 uq.numbers = ap (index_of 1) uq.is in
    let ei : index_of 0 p ≡ index_of 0 q = eqb→eq (index_of 0 p) (index_of 0 q) (and_l (eqb (index_of 0 p) (index_of 0 q)) _ t₁.0) in
    let ej : index_of 1 p ≡ index_of 1 q = eqb→eq (index_of 1 p) (index_of 1 q) (and_r (eqb (index_of 0 p) (index_of 0 q)) _ t₁.0) in
    let ea : a ≡ up.one = same_eq a up.one (and_l (same_term a up.one) _ t₃.0) in
    let ec : c ≡ uq.one = same_eq c uq.one (and_r (same_term a up.one) _ t₃.0) in
    let left : p ≡ node (BvExtract (index_of 0 p) (index_of 1 p)) (cons a nil)
    = up.is ∙ ap₂ node (ap₂ BvExtract (sym ip) (sym jp)) (ap (λ (t : Term). cons t nil) (sym ea)) in
    let right : q ≡ node (BvExtract (index_of 0 p) (index_of 1 p)) (cons c nil)
    = uq.is ∙ ap₂ node (ap₂ BvExtract (sym (ei ∙ iq)) (sym (ej ∙ jq))) (ap (λ (t : Term). cons t nil) (sym ec)) in
    record {
      i = index_of 0 p;
      j = index_of 1 p;
      is = b.is ∙ ap₂ (two BvAnd) left right;
      top = eqb→eq (suc (index_of 0 p)) done t₂.0;
      after = t₃.1;
    }

-- ---- the numbers
-- bits j to j + w - 1, below those above them
join : (x j w : ℕ) → x / 2 ^ (j + w) * 2 ^ w + x / 2 ^ j % 2 ^ w ≡ x / 2 ^ j
join x j w =
    ap (λ (z : ℕ). z * 2 ^ w + x / 2 ^ j % 2 ^ w) (ap (λ (z : ℕ). x / z) (pow-add 2 j w) ∙ sym (div-div-eq-div-mul x (2 ^ j) (2 ^ w)))
    ∙ div-add-mod' (x / 2 ^ j) (2 ^ w)

and_part : (x y j w : ℕ) → bit_and (x / 2 ^ j % 2 ^ w) (y / 2 ^ j % 2 ^ w) ≡ bit_and x y / 2 ^ j % 2 ^ w
and_part x y j w = sym (and_mod (x / 2 ^ j) (y / 2 ^ j) w) ∙ ap (λ (z : ℕ). z % 2 ^ w) (sym (and_shr x y j))

-- ---- the sort of a slice
extract_sort : (i j : ℕ) (a : Term) → T (is_bv_sort (sort_of (node (BvExtract i j) (cons a nil))))
    → (j ≤ i) × (sort_of (node (BvExtract i j) (cons a nil)) ≡ bv (suc (i - j)))
unfolding fold guard
extract_sort i j a h = go (is_bv_sort (sort_of a) && (leb j i && ltb i (sort_width (sort_of a)))) (λ t. leb→le j i (and_l (leb j i) _ (and_r (is_bv_sort (sort_of a)) _ t))) h
  where
    go : (b : Bool) → (T b → j ≤ i) → T (is_bv_sort (guard b (bv (suc (i - j))))) → (j ≤ i) × (guard b (bv (suc (i - j))) ≡ bv (suc (i - j)))
    go true f t = (f tt, refl)
    go false f t = absurd t

bv_guard : (b : Bool) (s : Sort) → T (is_bv_sort (guard b s)) → guard b s ≡ s
unfolding guard
bv_guard true s h = refl
bv_guard false s h = absurd h

whole : (p q : Term) → T (is_bv_sort (sort_of (two BvAnd p q))) → sort_of (two BvAnd p q) ≡ sort_of p
unfolding fold
whole p q t = bv_guard _ (sort_of p) t

pub slice_sort : (i j : ℕ) (a c : Term) → let s = two BvAnd (node (BvExtract i j) (cons a nil)) (node (BvExtract i j) (cons c nil)) in
    T (is_bv_sort (sort_of s)) → (j ≤ i) × (sort_of s ≡ bv (suc (i - j)))
slice_sort i j a c h =
    let p = node (BvExtract i j) (cons a nil) in
    let q = node (BvExtract i j) (cons c nil) in
    let e : sort_of (two BvAnd p q) ≡ sort_of p = whole p q h in
    let r = extract_sort i j a (subst (λ (s : Sort). T (is_bv_sort s)) e h) in
    (r.0, e ∙ r.1)

module _ (ρ : Assign) (a c : Term) (n : ℕ) (sa : sort_of a ≡ bv n) (sc : sort_of c ≡ bv n) where
  abbrev both : ℕ
  both = bit_and (number_of (value ρ a)) (number_of (value ρ c))

  slice_value : (i j : ℕ) → value ρ (two BvAnd (node (BvExtract i j) (cons a nil)) (node (BvExtract i j) (cons c nil)))
      ≡ number (suc (i - j)) (both / 2 ^ j % 2 ^ suc (i - j))
  unfolding fold meaning and_n
  slice_value i j = ap (number (suc (i - j))) (and_part (number_of (value ρ a)) (number_of (value ρ c)) j (suc (i - j)))

  -- from the slices above `done` to all of them
  slices_fold : (us : Terms) (done : ℕ) → slices_verdict a c done (to_list us) ≡ held → T (all_bv (sorts_of us)) → done ≤ n
      → (sum_widths (sorts_of us) ≤ done)
      × (foldl concat2 (number (n - done) (both / 2 ^ done)) (values ρ us)
      ≡ number (n - done + sum_widths (sorts_of us)) (both / 2 ^ (done - sum_widths (sorts_of us))))
  unfolding fold slices_verdict
  slices_fold nil done e h l = (omega arith, ap₂ number (sym (add-zero (n - done))) (ap (λ (k : ℕ). both / 2 ^ k) (let z : done ≡ done - 0 = omega arith in z)))
  slices_fold (cons s us) done e h l =
      let f = slice_held done a c s (λ j. slices_verdict a c j (to_list us)) e in
      let w = suc (f.i - f.j) in
      let t = slice_sort f.i f.j a c (subst (λ (u : Term). T (is_bv_sort (sort_of u))) f.is (and_l (is_bv_sort (sort_of s)) _ h)) in
      let ij : f.j ≤ f.i = t.0 in
      let top : suc f.i ≡ done = f.top in
      let sum : f.j + w ≡ done = omega arith in
      let ws : sort_width (sort_of s) ≡ w = ap (λ (u : Term). sort_width (sort_of u)) f.is ∙ ap sort_width t.1 in
      let ih = slices_fold us f.j f.after (and_r (is_bv_sort (sort_of s)) _ h) (omega arith) in
      let below : sum_widths (sorts_of us) ≤ f.j = ih.0 in
      let v : value ρ s ≡ number w (both / 2 ^ f.j % 2 ^ w) = ap (value ρ) f.is ∙ slice_value f.i f.j in
      let step : concat2 (number (n - done) (both / 2 ^ done)) (value ρ s) ≡ number (n - f.j) (both / 2 ^ f.j)
      = ap (concat2 (number (n - done) (both / 2 ^ done))) v
      ∙ ap₂ number (let z : n - done + w ≡ n - f.j = omega arith in z)
      (ap (λ (k : ℕ). both / 2 ^ k * 2 ^ w + both / 2 ^ f.j % 2 ^ w) (sym sum) ∙ join both f.j w) in (
        omega arith,
        ap (λ (u : Val). foldl concat2 u (values ρ us)) step
            ∙ ih.1
            ∙ ap₂ number
            (let z : n - f.j + sum_widths (sorts_of us) ≡ n - done + (sort_width (sort_of s) + sum_widths (sorts_of us)) = omega arith in z)
            (ap (λ (k : ℕ). both / 2 ^ k) (let z : f.j - sum_widths (sorts_of us) ≡ done - (sort_width (sort_of s) + sum_widths (sorts_of us)) = omega arith in z)),
      )

  both_lt : both < 2 ^ n
  both_lt = and_lt n (number_of (value ρ a)) (number_of (value ρ c)) (bv_value ρ a n sa).1 (bv_value ρ c n sc).1

  and_value : value ρ (two BvAnd a c) ≡ number n both
  unfolding fold meaning and_n
  and_value = ap (λ (v : Val). number (value_width v) both) (bv_value ρ a n sa).0

  -- the first slice alone
  start : (s : Term) (m : ℕ) → sort_of s ≡ bv m → concat2 (number (n - n) (both / 2 ^ n)) (value ρ s) ≡ value ρ s
  start s m e =
      let v = (bv_value ρ s m e).0 in
      ap₂ (λ (u : ℕ) (z : ℕ). concat2 (number u z) (value ρ s)) (sub_self n) (div-eq_of_lt both_lt)
      ∙ ap (concat2 (number 0 0)) v ∙ ap₂ number (zero-add m) (let z : 0 * 2 ^ m + number_of (value ρ s) ≡ number_of (value ρ s) = omega arith in z) ∙ sym v

  pub slicing_holds : (us : Terms) → slices_verdict a c n (to_list us) ≡ held → sort_of (node BvConcat us) ≡ bv n
      → value ρ (node BvConcat us) ≡ value ρ (two BvAnd a c)
  unfolding fold meaning
  slicing_holds nil e s = absurd (guard_yes _ (bv 0) (bv n) tt s).0
  slicing_holds (cons s us) e r =
      let g = guard_yes (takes many (length (sorts_of (cons s us))) && (all_bv (sorts_of (cons s us)) && is_width (sum_widths (sorts_of (cons s us))))) _ (bv n) tt r in
      let h : T (all_bv (sorts_of (cons s us))) = and_l (all_bv (sorts_of (cons s us))) _ (and_r (takes many (length (sorts_of (cons s us)))) _ g.0) in
      let sum : sum_widths (sorts_of (cons s us)) ≡ n = ap sort_width g.1 in
      let f = (slices_fold (cons s us) n e h (omega arith)).1 in
      ap (λ (v : Val). foldl concat2 v (values ρ us)) (sym (start s (sort_width (sort_of s)) (is_bv (sort_of s) (and_l (is_bv_sort (sort_of s)) _ h))))
      ∙ f
      ∙ ap₂ number (let z : n - n + sum_widths (sorts_of (cons s us)) ≡ n = omega arith in z)
      (ap (λ (k : ℕ). both / 2 ^ k) (let z : n - sum_widths (sorts_of (cons s us)) ≡ 0 = omega arith in z) ∙ div-one both)
      ∙ sym and_value
