-- The three tests that Rule leaves out cannot fail on a well-sorted literal.
use mathlib.Core.Path.{◌≡◌, sym, ap, subst, ◌∙◌}
use mathlib.Core.Bool.{◌&&◌}
use mathlib.Core.List.{List, map}
use Prim.Native.Nat.{ℕ, suc, ◌+◌, ◌-◌, ◌≤◌}
use native.Mathlib.Omega.{arith}
use lib.Dec.{T}
use lib.Ieee.Fits.{and_l, and_r}
use lib.ListN.{length, length-map}
use Rattle.theory.specs.Kind.{BvBbTerm, BvConcat, BvAnd, takes, many}
use Rattle.theory.specs.Term.{Term, Terms, node, nil, cons, to_list, from_list, two, fold}
use Rattle.theory.specs.Sort.{Sort, bv, good, is_bv_sort, all_bv, is_width, sum_widths, sort_width, sort_op, sort_of, sorts_of}
use Rattle.theory.specs.Verdict.{held}
use Rattle.theory.specs.Rule.{nth, index_of, slices_verdict}
use Rattle.theory.specs.LeftOut.{ValueSize, ConcatSize, low_index, lowest, Covered}
use Rattle.theory.proofs.Blast.{guard_yes, folds_from_list}
use Rattle.theory.proofs.Form.{args_held}
use Rattle.theory.proofs.Slicing.{slice_held, slice_sort}
use Rattle.theory.proofs.Verdict.{guard_good, equal_sorts, const_args, concat_sort, and_pair}

sorts_are : (ts : List Term) → sorts_of (from_list ts) ≡ map sort_of ts
sorts_are ts = folds_from_list sort_op ts

bb_sort : (bits : List Term) → T (good (sort_of (node BvBbTerm (from_list bits)))) → sort_of (node BvBbTerm (from_list bits)) ≡ bv (length bits)
unfolding fold
bb_sort bits h =
    (guard_good _ (bv (length (sorts_of (from_list bits)))) h).1 ∙ ap bv (ap length (sorts_are bits) ∙ length-map bits sort_of)

wide : {m n : ℕ} → bv m ≡ bv n → m ≡ n
wide e = ap sort_width e

pub value_size : ValueSize
value_size l r e ts bits a b =
    let s = equal_sorts l r e in
    let p = args_held 12 l ts a in
    let q = args_held 31 r bits b in
    let n = nth 0 p.0 in
    let c = const_args n (nth 1 p.0) ts (subst (λ (t : Term). T (good (sort_of t))) p.1 s.0) in
    let g = subst (λ (t : Term). T (good (sort_of t))) q.1 (subst (λ (z : Sort). T (good z)) s.1 s.0) in
    ap (index_of 0) p.1 ∙ wide (sym c.1 ∙ ap sort_of (sym p.1) ∙ s.1 ∙ ap sort_of q.1 ∙ bb_sort bits g)

pub concat_size : ConcatSize
concat_size l r e ts bits a b =
    let s = equal_sorts l r e in
    let p = args_held 56 l ts a in
    let q = args_held 31 r bits b in
    let c = concat_sort (from_list ts) (subst (λ (t : Term). T (good (sort_of t))) p.1 s.0) in
    let g = subst (λ (t : Term). T (good (sort_of t))) q.1 (subst (λ (z : Sort). T (good z)) s.1 s.0) in
    wide (sym (bb_sort bits g) ∙ ap sort_of (sym q.1) ∙ sym s.1 ∙ ap sort_of p.1 ∙ c) ∙ ap sum_widths (sorts_are ts)

-- down to what the widths leave
lowest_is : (a c : Term) (us : Terms) (done : ℕ) → slices_verdict a c done (to_list us) ≡ held → T (all_bv (sorts_of us)) → lowest done (to_list us) + sum_widths (sorts_of us) ≡ done
unfolding fold slices_verdict
lowest_is a c nil done e h = omega arith
lowest_is a c (cons s us) done e h =
    let f = slice_held done a c s (λ j. slices_verdict a c j (to_list us)) e in
    let t = slice_sort f.i f.j a c (subst (λ (u : Term). T (is_bv_sort (sort_of u))) f.is (and_l (is_bv_sort (sort_of s)) _ h)) in
    let ij : f.j ≤ f.i = t.0 in
    let top : suc f.i ≡ done = f.top in
    let w : sort_width (sort_of s) ≡ suc (f.i - f.j) = ap (λ (u : Term). sort_width (sort_of u)) f.is ∙ ap sort_width t.1 in
    let l : low_index s ≡ f.j = ap low_index f.is in
    let r = lowest_is a c us f.j f.after (and_r (is_bv_sort (sort_of s)) _ h) in
    let z : lowest (low_index s) (to_list us) ≡ lowest f.j (to_list us) = ap (λ (j : ℕ). lowest j (to_list us)) l in
    omega arith

pub covered : Covered
unfolding fold
covered a c us e v =
    let s = equal_sorts (two BvAnd a c) (node BvConcat us) e in
    let p = and_pair a c s.0 in
    let n = sort_width (sort_of a) in
    let q : sort_of (node BvConcat us) ≡ bv n = sym s.1 ∙ p.2 in
    let g = guard_yes (takes many (length (sorts_of us)) && (all_bv (sorts_of us) && is_width (sum_widths (sorts_of us)))) (bv (sum_widths (sorts_of us))) (bv n) tt q in
    let h : T (all_bv (sorts_of us)) = and_l (all_bv (sorts_of us)) _ (and_r (takes many (length (sorts_of us))) _ g.0) in
    let m : sum_widths (sorts_of us) ≡ n = ap sort_width g.1 in
    let d : sort_width (sort_of c) ≡ n = ap sort_width p.1 in
    let r = lowest_is a c us (sort_width (sort_of c)) v h in
    omega arith
