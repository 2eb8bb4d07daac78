-- The arguments of a term: argument i, and the loops over them.
use mathlib.Core.Path.{◌≡◌, sym, ap, ◌∙◌}
use mathlib.Core.Bool.{Bool, true, false, ◌&&◌, and-false}
use mathlib.Core.List.{List}
use Prim.Native.Nat.{ℕ, suc, ◌+◌, ◌-◌, ◌<◌, ◌≤◌, max}
use native.Mathlib.Numerals.{add-one}
use native.Mathlib.Omega.{arith}
use lib.ListN.{length, drop, get_or, drop_of_length-le}
use lib.Seq.{drop-cons}
use Rattle.theory.specs.Limit.{max_arguments, max_width}
use Rattle.theory.specs.Sort.{Sort, bad, bv, guard, same_sort, all_are, all_bv, sum_widths, sort_width, is_bv_sort, is_width, sort_of}
use Rattle.theory.specs.Depth.{depth}
use Rattle.theory.specs.Record.{Bytes}
use Rattle.theory.specs.Plain.{Plain}
use Rattle.theory.proofs.Places.{tree_at}
use Rattle.terms.specs.declared.Operands.{Operands}
use Rattle.terms.specs.declared.Operands.TheVariants.{None, One, Two, Three, List as Listed}
use Rattle.terms.specs.Decoded.{OperandsPlaced}
use Rattle.store.specs.Sorts.{sorts_at, deepest_at, count_of}
use Rattle.intern.proofs.Guarding.{fails, width_high}

-- ---- argument i
pub count_few : (job : Bytes) (ops : Operands) → OperandsPlaced job ops → count_of ops ≤ max_arguments
count_few job None p = omega arith
count_few job (One x) p = omega arith
count_few job (Two x y) p = omega arith
count_few job (Three x y z) p = omega arith
count_few job (Listed a) p = p.few

-- ---- one sort: what is left from i on
pub record AllAre (s : Sort) (list : Plain) (ks : List ℕ) (i : ℕ) : Type 0 where
  pub passed : i ≤ length ks
  pub rest : all_are s (sorts_at list ks) ≡ all_are s (sorts_at list (drop i ks))

module _ {s : Sort} {list : Plain} {ks : List ℕ} where
  are_next : {i : ℕ} → AllAre s list ks i → i < length ks → all_are s (sorts_at list ks) ≡ same_sort s (sort_of (tree_at list (get_or ks i 0))) && all_are s (sorts_at list (drop (suc i) ks))
  are_next {i} p h = p.rest ∙ ap (λ (js : List ℕ). all_are s (sorts_at list js)) (drop-cons ks i 0 h)

  pub are_turn : {i : ℕ} → AllAre s list ks i → i < length ks → {t : Sort} → t ≡ sort_of (tree_at list (get_or ks i 0)) → same_sort s t ≡ true → AllAre s list ks (i + 1)
  are_turn {i} p h {t} e b = record {
    passed = omega arith;
    rest = are_next p h ∙ ap (λ (x : Bool). x && all_are s (sorts_at list (drop (suc i) ks))) (ap (same_sort s) (sym e) ∙ b)
        ∙ ap (λ (k : ℕ). all_are s (sorts_at list (drop k ks))) (sym (add-one i));
  }

  pub are_not : {i : ℕ} → AllAre s list ks i → i < length ks → {t : Sort} → t ≡ sort_of (tree_at list (get_or ks i 0)) → same_sort s t ≡ false → false ≡ all_are s (sorts_at list ks)
  are_not {i} p h {t} e b = sym (are_next p h ∙ ap (λ (x : Bool). x && all_are s (sorts_at list (drop (suc i) ks))) (ap (same_sort s) (sym e) ∙ b))

  pub are_end : {i : ℕ} → AllAre s list ks i → length ks ≤ i → true ≡ all_are s (sorts_at list ks)
  are_end {i} p h = sym (p.rest ∙ rw (drop_of_length-le ks {i = i} h))

-- ---- the sum of the widths: what is left from i on
pub record Summing (list : Plain) (ks : List ℕ) (sum i : ℕ) : Type 0 where
  pub passed : i ≤ length ks
  pub small : sum ≤ max_width
  pub bvs : all_bv (sorts_at list ks) ≡ all_bv (sorts_at list (drop i ks))
  pub total : sum_widths (sorts_at list ks) ≡ sum + sum_widths (sorts_at list (drop i ks))

abbrev joined_sort : List Sort → Sort
joined_sort ss = guard (all_bv ss && is_width (sum_widths ss)) (bv (sum_widths ss))

module _ {list : Plain} {ks : List ℕ} where
  module _ {sum i : ℕ} (p : Summing list ks sum i) (h : i < length ks) {s : Sort} (e : s ≡ sort_of (tree_at list (get_or ks i 0))) where
    next_bvs : all_bv (sorts_at list ks) ≡ is_bv_sort s && all_bv (sorts_at list (drop (suc i) ks))
    next_bvs = p.bvs ∙ ap (λ (js : List ℕ). all_bv (sorts_at list js)) (drop-cons ks i 0 h) ∙ ap (λ (t : Sort). is_bv_sort t && all_bv (sorts_at list (drop (suc i) ks))) (sym e)

    pub sum_no_bv : is_bv_sort s ≡ false → bad ≡ joined_sort (sorts_at list ks)
    sum_no_bv q =
        let x = sum_widths (sorts_at list ks) in
        fails (all_bv (sorts_at list ks) && is_width x) (bv x)
        (ap (λ (b : Bool). b && is_width x) (next_bvs ∙ ap (λ (b : Bool). b && all_bv (sorts_at list (drop (suc i) ks))) q))

    module _ {w : ℕ} (f : s ≡ bv w) where
      next_total : sum_widths (sorts_at list ks) ≡ sum + (w + sum_widths (sorts_at list (drop (suc i) ks)))
      next_total =
          p.total ∙ ap (λ (js : List ℕ). sum + sum_widths (sorts_at list js)) (drop-cons ks i 0 h)
          ∙ ap (λ (t : Sort). sum + (sort_width t + sum_widths (sorts_at list (drop (suc i) ks)))) (sym e ∙ f)

      pub sum_wide : max_width - sum < w → bad ≡ joined_sort (sorts_at list ks)
      sum_wide l =
          let t = next_total in
          let m = p.small in
          let x = sum_widths (sorts_at list ks) in
          fails (all_bv (sorts_at list ks) && is_width x) (bv x) (ap (λ (b : Bool). all_bv (sorts_at list ks) && b) (width_high x (omega arith)) ∙ and-false (all_bv (sorts_at list ks)))

-- ---- the deepest: what is left from i on
pub record Deepening (list : Plain) (ks : List ℕ) (most i : ℕ) : Type 0 where
  pub passed : i ≤ length ks
  pub rest : deepest_at list ks ≡ max most (deepest_at list (drop i ks))

module _ {list : Plain} {ks : List ℕ} where
  pub deep_turn : {most i : ℕ} → Deepening list ks most i → i < length ks → {d : ℕ} → d ≡ depth (tree_at list (get_or ks i 0))
      → {m : ℕ} → m ≡ max most d → Deepening list ks m (i + 1)
  unfolding depth
  deep_turn {most} {i} p h {d} e {m} f =
      let r : deepest_at list ks ≡ max most (max (depth (tree_at list (get_or ks i 0))) (deepest_at list (drop (suc i) ks)))
      = p.rest ∙ ap (λ (js : List ℕ). max most (deepest_at list js)) (drop-cons ks i 0 h) in
      let n = ap (λ (k : ℕ). deepest_at list (drop k ks)) (add-one i) in
      record { passed = omega arith; rest = omega arith }

  pub deep_end : {most i : ℕ} → Deepening list ks most i → length ks ≤ i → most ≡ deepest_at list ks
  unfolding depth
  deep_end {most} {i} p h =
      sym (p.rest ∙ ap (λ (js : List ℕ). max most (deepest_at list js)) (drop_of_length-le ks {i = i} h) ∙ omega arith)
