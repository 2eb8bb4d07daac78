-- The measure of a term gives its depth and its width.
use mathlib.Core.Path.{◌≡◌, refl, sym, ap, ap₂, ◌∙◌, subst}
use mathlib.Core.Bool.{Bool, true, false, true≢false, ◌||◌, cond}
use mathlib.Core.List.{List, [], ◌∷◌, map}
use Rattle.std.specs.Prelude.{Option, Result, Ok, Err, None as none, Some as some}
use Rattle.std.specs.Bool.{then_some}
use Rattle.std.specs.Result.{result_ok}
use Prim.Native.Nat.{ℕ, suc, ◌-◌, ◌/◌, ◌<◌, ◌≤◌}
use native.Mathlib.Omega.{arith}
use lib.Dec.{T, eqb, eqb→eq, leb, leb→le}
use lib.Ieee.Fits.{and_l, and_r}
use lib.ListN.{length, length-drop}
use borrow.Author.Tests.{ne_eqb}
use Rattle.theory.specs.Kind.{Op, Not, And, Or, Xor, Equals, Ite, BvBbTerm, kind}
use Rattle.theory.specs.Term.{Term, Terms, node, fold, folds, from_list}
use Rattle.theory.specs.Sort.{Sort, bool, bv, guard, good, first, same_sort, sort_of, sort_width, sorts_of}
use Rattle.theory.specs.Depth.{depth, gate_kind}
use Rattle.theory.specs.Record.{Bytes, word, kind_of, body_of, front, shape_of, Shape, plain, read, term}
use Rattle.theory.proofs.Basics.{some_inj}
use Rattle.theory.proofs.Bytes.{Sound, says_term, term_kind, words_length}
use Rattle.theory.proofs.Sorts.{sized, sorts_sized}
use Rattle.terms.specs.declared.kind.Kind.{Kind}
use Rattle.terms.specs.declared.kind.Kind.TheVariants as D
use Rattle.terms.specs.declared.kind.UnknownKind.{UnknownKind}
use Rattle.terms.specs.Numbered.{number_of, Decodes}
use Rattle.terms.proofs.Forms.{known_kind}
use Rattle.store.specs.Measure.{KindNumbered, is_gate, has_depth, measure, measure_in, depth_in, width_in, bool_depth, bool_in}

-- ---- kinds by their numbers
pub kind_read : {n m : ℕ} (r : Result Kind UnknownKind) → m ≡ n → Decodes m r → KindNumbered n (result_ok r)
kind_read (Ok k) e d = d ∙ e
kind_read (Err u) e d = λ k f. let g = sym (known_kind k (f ∙ sym e)) ∙ d.1 in cc

module _ {n : ℕ} (h : (k : Kind) → number_of k ≡ n → ⊥) where
  no_gate_number : is_gate n ≡ false
  no_gate_number = go (is_gate n) refl
    where
      go : (b : Bool) → is_gate n ≡ b → b ≡ false
      go false e = refl
      go true e =
          let t : T (is_gate n) = subst T (sym e) tt in
          let a = leb→le 20 n (and_l (leb 20 n) _ t) in
          let b = leb→le n 25 (and_r (leb 20 n) _ t) in
          let h0 : 20 ≡ n → ⊥ = h D.Not in
          let h1 : 21 ≡ n → ⊥ = h D.And in
          let h2 : 22 ≡ n → ⊥ = h D.Or in
          let h3 : 23 ≡ n → ⊥ = h D.Xor in
          let h4 : 24 ≡ n → ⊥ = h D.Equals in
          let h5 : 25 ≡ n → ⊥ = h D.Ite in
          absurd (omega arith)

  no_kind : (is_gate n ≡ false) × (eqb n 31 ≡ false)
  no_kind = (no_gate_number, ne_eqb n 31 (λ e. h D.BvBbTerm (sym e)))

-- where no kind has the number
module _ (n : ℕ) {r : Option Kind} (e : r ≡ none) (h : KindNumbered n r) where
  none_tests : (is_gate n ≡ false) × (eqb n 31 ≡ false)
  none_tests = no_kind (subst (KindNumbered n) e h)

  pub none_depth : false ≡ has_depth n
  none_depth = sym (ap₂ (λ (p q : Bool). p || q) none_tests.0 none_tests.1)

  pub none_width : (b z m : ℕ) → m ≡ width_in b n z m
  unfolding width_in
  none_width b z m = rw (none_tests.0, none_tests.1)

  pub none_bool : (m : ℕ) → then_some {T = ℕ} (eqb m 0) 0 ≡ bool_in n m
  unfolding bool_in
  none_bool m = rw (none_tests.0, none_tests.1) (go (eqb m 0))
    where
      go : (b : Bool) → then_some {T = ℕ} b 0 ≡ cond b (some 0) none
      go true = refl
      go false = refl

-- ---- widths
no_width : (b : Bool) → sort_width (guard b bool) ≡ 0
unfolding guard
no_width true = refl
no_width false = refl

gate_width : (o : Op) (ts : Terms) → T (is_gate (kind o)) → sort_width (sort_of (node o ts)) ≡ 0
unfolding fold
gate_width Not ts h = no_width _
gate_width And ts h = no_width _
gate_width Or ts h = no_width _
gate_width Xor ts h = no_width _
gate_width Equals ts h = no_width _
gate_width Ite ts h = no_width _
gate_width _ ts h = elim h [ ]

some_width : (b : Bool) (n : ℕ) → T (good (guard b (bv n))) → sort_width (guard b (bv n)) ≡ n
unfolding guard
some_width true n g = refl
some_width false n g = absurd g

bb_width : (o : Op) (ts : Terms) → T (eqb (kind o) 31) → T (good (sort_of (node o ts))) → sort_width (sort_of (node o ts)) ≡ length (sorts_of ts)
unfolding fold
bb_width BvBbTerm ts h g = some_width _ (length (sorts_of ts)) g
bb_width _ ts h g = elim h [ ]

sorts_length : {A : Type 0} (f : A → Term) (ks : List A) → length (sorts_of (from_list (map f ks))) ≡ length ks
unfolding folds
sorts_length f [] = refl
sorts_length f (k ∷ ks) = ap suc (sorts_length f ks)

-- ---- depths
no_gate : (k : ℕ) (s : Sort) → is_gate k ≡ false → gate_kind k s ≡ false
no_gate k s h =
    rw (ne_eqb k 20 (no 20 refl), ne_eqb k 21 (no 21 refl), ne_eqb k 22 (no 22 refl), ne_eqb k 23 (no 23 refl), ne_eqb k 24 (no 24 refl), ne_eqb k 25 (no 25 refl))
  where
    no : (c : ℕ) → is_gate c ≡ true → k ≡ c → ⊥
    no c t e = true≢false (sym t ∙ ap is_gate (sym e) ∙ h)

neither : (p q : Bool) → (p || q) ≡ false → (p ≡ false) × (q ≡ false)
neither false q h = (refl, h)
neither true q h = absurd (true≢false h)

depth_none : (o : Op) (ts : Terms) → has_depth (kind o) ≡ false → depth (node o ts) ≡ 0
unfolding depth
depth_none o ts h =
    let e = neither (is_gate (kind o)) (eqb (kind o) 31) h in
    rw (no_gate (kind o) (first (sorts_of ts)) e.0, e.1)

-- the depth that a row says
pub depth_is : (o : Op) (ts : Terms) → depth_in (kind o) (measure (node o ts)) ≡ depth (node o ts)
unfolding depth_in measure
depth_is o ts = go (has_depth (kind o)) refl
  where
    go : (b : Bool) → has_depth (kind o) ≡ b → cond (has_depth (kind o)) (cond (has_depth (kind o)) (depth (node o ts)) (sort_width (sort_of (node o ts)))) 0 ≡ depth (node o ts)
    go true e = rw e
    go false e = rw e (sym (depth_none o ts e))

-- ---- widths by rows
bb_count : (b : ℕ) (r : Bytes) (o : Op) (ks : List ℕ) → read b r ≡ term o ks → Sound r → T (eqb (kind o) 31) → (word r - 2) / b ≡ length ks
unfolding shape_of
bb_count b r o ks e sound h =
    let s = says_term b r o ks e in
    let k : kind_of r ≡ 31 = term_kind b r o ks e ∙ eqb→eq (kind o) 31 h in
    let shape_is : s.shape ≡ plain BvBbTerm = some_inj s.shape (plain BvBbTerm) (sym s.is_shape ∙ ap shape_of k) in
    let l : length (body_of r) ≡ word r - 2 = length-drop 4 r ∙ (let z = sound.size in omega arith) in
    sym
    (sym (ap length s.args) ∙ words_length b ((length (body_of r) - front s.shape) / b) _
    ∙ ap (λ (sh : Shape). (length (body_of r) - front sh) / b) shape_is
    ∙ ap (λ (m : ℕ). m / b) (let z : length (body_of r) - 0 ≡ word r - 2 = omega arith in z))

module _ (b : ℕ) (r : Bytes) (o : Op) (ks : List ℕ) (f : ℕ → Term) (says : read b r ≡ term o ks) (sound : Sound r) (fine : T (good (sort_of (node o (from_list (map f ks)))))) where
  abbrev ts : Terms
  ts = from_list (map f ks)

  width_by : (g c : Bool) → is_gate (kind o) ≡ g → eqb (kind o) 31 ≡ c
      → cond g 0 (cond c ((word r - 2) / b) (cond (g || c) (depth (node o ts)) (sort_width (sort_of (node o ts))))) ≡ sort_width (sort_of (node o ts))
  width_by true c x y = sym (gate_width o ts (subst T (sym x) tt))
  width_by false true x y = bb_count b r o ks says sound (subst T (sym y) tt) ∙ sym (bb_width o ts (subst T (sym y) tt) fine ∙ sorts_length f ks)
  width_by false false x y = refl

  -- the width that a row says
  pub width_is : width_in b (kind o) (word r) (measure (node o (from_list (map f ks)))) ≡ sort_width (sort_of (node o (from_list (map f ks))))
  unfolding width_in measure
  width_is = width_by (is_gate (kind o)) (eqb (kind o) 31) refl refl

-- ---- Bools by rows
-- a sort that fits is Bool if it has no width
bool_told : (s : Sort) → T (good s) → T (sized s) → same_sort bool s ≡ eqb (sort_width s) 0
bool_told bool g z = refl
bool_told (bv n) g z = sym (ne_eqb n 0 (λ e. let h = leb→le 1 n (and_l (leb 1 n) _ z) in omega arith))
bool_told Rattle.theory.specs.Sort.bad g z = elim g [ ]

no_bool : (b : Bool) (n : ℕ) → same_sort bool (guard b (bv n)) ≡ false
unfolding guard
no_bool true n = refl
no_bool false n = refl

bb_no_bool : (o : Op) (ts : Terms) → T (eqb (kind o) 31) → same_sort bool (sort_of (node o ts)) ≡ false
unfolding fold
bb_no_bool BvBbTerm ts h = no_bool _ (length (sorts_of ts))
bb_no_bool _ ts h = elim h [ ]

module _ (o : Op) (ts : Terms) (fine : T (good (sort_of (node o ts)))) where
  abbrev w : ℕ
  w = sort_width (sort_of (node o ts))

  told : same_sort bool (sort_of (node o ts)) ≡ eqb w 0
  told = bool_told (sort_of (node o ts)) fine (sorts_sized (node o ts))

  bool_by : (g c : Bool) → is_gate (kind o) ≡ g → eqb (kind o) 31 ≡ c
      → cond g (some (cond (g || c) (depth (node o ts)) w)) (cond c none (cond (eqb (cond (g || c) (depth (node o ts)) w) 0) (some 0) none))
      ≡ cond (same_sort bool (sort_of (node o ts))) (some (depth (node o ts))) none
  bool_by true c x y = rw (told, gate_width o ts (subst T (sym x) tt))
  bool_by false true x y = rw (bb_no_bool o ts (subst T (sym y) tt))
  bool_by false false x y = rw (told, depth_none o ts (ap₂ (λ (p q : Bool). p || q) x y))

  -- the depth that a row says where its term is a Bool
  pub bool_is : bool_in (kind o) (measure (node o ts)) ≡ bool_depth (node o ts)
  unfolding bool_in measure bool_depth
  bool_is = bool_by (is_gate (kind o)) (eqb (kind o) 31) refl refl

-- ---- depths and measures are no more than what they come from
module _ (k m : ℕ) where
  pub depth_least : depth_in k m ≤ m
  unfolding depth_in
  depth_least = go (has_depth k)
    where
      go : (b : Bool) → cond b m 0 ≤ m
      go true = omega arith
      go false = omega arith

module _ (k d w : ℕ) where
  pub measure_small : (bound : ℕ) → d < bound → w < bound → measure_in k d w < bound
  unfolding measure_in
  measure_small bound a b = go (has_depth k)
    where
      go : (t : Bool) → cond t d w < bound
      go true = a
      go false = b

-- the measure of a term, by what is known of it
pub measure_is : (o : Op) (ts : Terms) → measure_in (kind o) (depth (node o ts)) (sort_width (sort_of (node o ts))) ≡ measure (node o ts)
unfolding measure_in measure
measure_is o ts = refl
