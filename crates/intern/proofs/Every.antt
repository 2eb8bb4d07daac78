-- `all` over the arguments by their numbers, with a test that says whether the one there has a sort; `fold` over them, to the larger of the depth so far and of the one there.
use mathlib.Core.Path.{◌≡◌, refl, sym, ap, subst, ◌∙◌}
use mathlib.Core.Bool.{Bool, true, false}
use mathlib.Core.List.{List, [], ◌∷◌}
use Prim.Native.Nat.{ℕ, ◌+◌, ◌-◌, ◌<◌, max}
use native.Mathlib.Omega.{arith}
use lib.ListN.{length, get_or}
use denote.Param.Members.{Mut}
use Rattle.std.specs.Prelude.{Option, None as none, Some as some}
use Rattle.std.specs.Fn.{Called}
use Rattle.std.specs.Iterator.{Yields, ChecksAll, FoldTurn, FoldsItems}
use Rattle.std.specs.List.{FoldsTo}
use Rattle.std.specs.Range.{range_steps}
use Rattle.std.specs.declared.ops.Range.{Range}
use Rattle.theory.specs.Sort.{Sort, all_are, same_sort, sort_of}
use Rattle.theory.specs.Depth.{depth}
use Rattle.theory.specs.Plain.{Plain}
use Rattle.theory.proofs.Places.{tree_at}
use Rattle.rows.specs.Layout.{Bounded, place_end}
use Rattle.store.specs.Sorts.{sorts_at, deepest_at}
use Rattle.intern.proofs.Arguing.{AllAre, are_turn, are_not, are_end, Deepening, deep_turn, deep_end}

module _ {F : Type 0} (g : Mut F (ℕ × Unit {0}) Bool) (f : F) (s : Sort) (list : Plain) (ks : List ℕ) where
  -- a call leaves the test as it is, and says what it tests
  abbrev pub Tests : Type 0
  Tests = (i : ℕ) → i < length ks → (b : Bool) (q : F) → Called g f (i, tt) b q → (q ≡ f) × (b ≡ same_sort s (sort_of (tree_at list (get_or ks i 0))))

abbrev counting : Range ℕ → Option ℕ → Range ℕ → Type 0
counting = range_steps (λ (a b : ℕ). b - a) (λ (a b : ℕ). b ≡ a + 1)

module _ {F : Type 0} {g : Mut F (ℕ × Unit {0}) Bool} {f : F} {s : Sort} {list : Plain} {ks : List ℕ} (k : Tests g f s list ks) where
  passed : (xs : List ℕ) {r t : Range ℕ} {q : F} → AllAre s list ks r.start → r.end ≡ length ks → Yields counting r xs t
      → FoldsTo (λ p x q. Called g p (x, tt) true q) f xs q → AllAre s list ks t.start × (t.end ≡ length ks) × (q ≡ f)
  passed [] w l y e = (subst (λ (z : Range ℕ). AllAre s list ks z.start) y w, subst (λ (z : Range ℕ). z.end ≡ length ks) y l, sym e)
  passed (x ∷ xs) {r} {q = v} w l (j, (same, (more, here, on)), y) (p, c, e) =
      let h = k x (omega (arith, more, here, l)) true p c in
      let b = subst (λ (i : ℕ). true ≡ same_sort s (sort_of (tree_at list (get_or ks i 0)))) here h.1 in
      passed xs (subst (AllAre s list ks) (sym on) (are_turn w (omega (arith, more, l)) refl (sym b))) (same ∙ l) y
      (subst (λ (z : F). FoldsTo (λ p x q. Called g p (x, tt) true q) z xs v) h.0 e)

  pub every : {b : Bool} {r u : Range ℕ} → AllAre s list ks r.start → r.end ≡ length ks → ChecksAll counting g r f b u → b ≡ all_are s (sorts_at list ks)
  every w l (xs, none, q, (t, y, (same, (less, at))), e, h) =
      let r = passed xs w l y e in
      h ∙ are_end r.0 (omega (arith, less, r.1))
  every w l (xs, some x, q, (t, y, (same, (more, here, on))), e, (h, (p, c))) =
      let r = passed xs w l y e in
      let d = k x (omega (arith, more, here, r.1)) false p (subst (λ (z : F). Called g z (x, tt) false p) r.2 c) in
      let b = subst (λ (i : ℕ). false ≡ same_sort s (sort_of (tree_at list (get_or ks i 0)))) here d.1 in
      h ∙ are_not r.0 (omega (arith, more, r.1)) refl (sym b)

module _ {F : Type 0} (g : Mut F (ℕ × (ℕ × Unit {0})) ℕ) (f : F) (list : Plain) (ks : List ℕ) where
  -- a call leaves f as it is, and gives the larger of the depth so far and of the one there
  abbrev pub Deepens : Type 0
  Deepens = (i : ℕ) → i < length ks → (a b : ℕ) (q : F) → Called g f (a, (i, tt)) b q
      → (q ≡ f) × ((d : ℕ) × (b ≡ max a d) × Bounded d (depth (tree_at list (get_or ks i 0))) place_end)

module _ {F : Type 0} {g : Mut F (ℕ × (ℕ × Unit {0})) ℕ} {f : F} {list : Plain} {ks : List ℕ} (k : Deepens g f list ks) where
  deepened : (xs : List ℕ) (q : F) {r t : Range ℕ} {m n : ℕ} → Deepening list ks m r.start → m < place_end → r.end ≡ length ks → Yields counting r xs t
      → FoldsTo {P = F × ℕ} (FoldTurn g) (f, m) xs (q, n) → Deepening list ks n t.start × (n < place_end) × (t.end ≡ length ks)
  deepened [] q {r} {t} {m} {n} w b l y e =
      let z : m ≡ n = ap (λ (p : F × ℕ). p.1) e in
      (subst (λ (i : ℕ). Deepening list ks i t.start) z (subst (λ (u : Range ℕ). Deepening list ks m u.start) y w), subst (λ (i : ℕ). i < place_end) z b, subst (λ (u : Range ℕ). u.end ≡ length ks) y l)
  deepened (x ∷ xs) v {r} {m = m} {n = n} w b l (j, (same, (more, here, on)), y) (p, c, e) =
      let (kept, (d, larger, bounded)) = k x (omega (arith, more, here, l)) m p.1 p.0 c in
      let there = subst (λ (i : ℕ). d ≡ depth (tree_at list (get_or ks i 0))) here bounded.value in
      deepened xs v (subst (Deepening list ks p.1) (sym on) (deep_turn w (omega (arith, more, l)) there larger)) (omega (arith, larger, b, bounded.below)) (same ∙ l) y
      (subst (λ (z : F). FoldsTo {P = F × ℕ} (FoldTurn g) (z, p.1) xs (v, n)) kept e)

  pub deepest_of : {m n : ℕ} {r : Range ℕ} → Deepening list ks m r.start → m < place_end → r.end ≡ length ks → FoldsItems counting g r f m n → Bounded n (deepest_at list ks) place_end
  deepest_of w b l (xs, q, (u, (t, y, (same, (less, at)))), e) =
      let r = deepened xs q w b l y e in
      record { value = deep_end r.0 (omega (arith, less, r.2)); below = r.1 }
