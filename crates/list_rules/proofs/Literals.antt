-- What a rule of this crate may take for granted of the arguments of a kept term.
use mathlib.Core.Path.{◌≡◌, refl, sym, ap, ap₂, subst, ◌∙◌}
use mathlib.Core.Bool.{◌&&◌}
use mathlib.Core.List.{List, [], ◌∷◌, map}
use Prim.Native.Nat.{ℕ, suc, zero, ◌+◌, ◌<◌}
use native.Mathlib.Omega.{arith}
use lib.Dec.{T, leb, leb→le}
use lib.Ieee.Fits.{and_l, and_r}
use lib.ListN.{length, get_or}
use Rattle.theory.specs.Limit.{first_terms}
use Rattle.theory.specs.Kind.{Op, Arity, arity, many, takes}
use Rattle.theory.specs.Term.{Term, node, fold, folds, from_list}
use Rattle.theory.specs.Sort.{Sort, good, alike, all_are, same_sort, is_bv_sort, fitting, result_sort, sort_op, sort_of}
use Rattle.theory.specs.Codes.{all_below}
use Rattle.theory.proofs.Sorts.{is_bv}
use Rattle.theory.proofs.Blast.{folds_from_list}
use Rattle.theory.proofs.Places.{more_below}
use Rattle.terms.specs.declared.Args.{Args}
use Rattle.terms.specs.declared.Term.{Term as Decoded}
use Rattle.terms.specs.declared.Operands.{Operands}
use Rattle.terms.specs.declared.Operands.TheVariants.{List as Listed}
use Rattle.terms.specs.Decoded.{op_of, operands_of, numbers_of}
use Rattle.terms.proofs.Lists.{words_in_length}
use Rattle.store.specs.declared.gates.Kept.{Kept}
use Rattle.store.specs.Kept.{KeptArguments, IsTermAt, kept_term, words_of}
use Rattle.store.proofs.Keeping.{store_of}
use Rattle.store.proofs.Arguments.{operand_below}
use Rattle.operand_rules.proofs.Forms.{good_guard, list_inside, below_of, fits}
use Rattle.list_rules.specs.Lists.{Many, argument}
use Rattle.theory.proofs.Basics.{T_true, true_T}
use Rattle.theory.proofs.Sound.{same_sort_eq}

-- ---- the sorts of the arguments
-- where all are s, the one at i is
each_sort : (s : Sort) (f : ℕ → Term) (ks : List ℕ) (i : ℕ) → T (all_are s (map sort_of (map f ks))) → i < length ks → sort_of (f (get_or ks i 0)) ≡ s
each_sort s f [] i h l = absurd (omega arith)
each_sort s f (k ∷ ks) zero h l = sym (same_sort_eq s (sort_of (f k)) (and_l (same_sort s (sort_of (f k))) _ h))
each_sort s f (k ∷ ks) (suc i) h l = each_sort s f ks i (and_r (same_sort s (sort_of (f k))) _ h) (omega arith)

-- where all are alike, each is the first one's, a bit-vector's
all_alike : (f : ℕ → Term) (ks : List ℕ) → T (alike (map sort_of (map f ks))) → (i : ℕ) → i < length ks
    → (sort_of (f (get_or ks i 0)) ≡ sort_of (f (get_or ks 0 0))) × T (is_bv_sort (sort_of (f (get_or ks 0 0))))
all_alike f [] h i l = absurd (omega arith)
all_alike f (k ∷ ks) h i l =
    let s = sort_of (f k) in
    (each_sort s f (k ∷ ks) i (and_r (is_bv_sort s) _ h) l, and_l (is_bv_sort s) _ h)

-- ---- an operation of kind o, which takes a list of bit-vectors of one width
module _ (o : Op) (many_are : arity o ≡ many) (asks : (ss : List Sort) → fitting o ss ≡ alike ss) where
  -- the arguments of a term that has a sort are alike
  fits_alike : (us : List Term) → T (good (sort_of (node o (from_list us)))) → T (alike (map sort_of us))
  unfolding fold
  fits_alike us g =
      let ss = folds sort_op (from_list us) in
      let h = and_r (takes (arity o) (length ss)) _ (good_guard (takes (arity o) (length ss) && fitting o ss) (result_sort o ss) g) in
      subst (λ (rs : List Sort). T (alike rs)) (folds_from_list sort_op us) (subst T (asks ss) h)

  -- the term at l is the operation on the list a: what the check may take for granted
  pub many_given : (k : Kept) {l : ℕ} {u : Decoded} → IsTermAt k l u → l < first_terms + k.lookup.rows → (a : Args) → op_of u ≡ o → operands_of u ≡ Listed a
      → {r : ℕ} → r < first_terms + k.lookup.rows → Many k a r
  many_given k {l} {u} q left a its_kind its_list right =
      let ks = words_of k a in
      let size = words_in_length k.lookup.job.now a in
      let b : T (all_below l ks) = below_of q (Listed a) its_list in
      let inside = list_inside q a its_list in
      let count : T (takes many (length ks)) = true_T _ (ap (λ (x : Arity). takes x (length ks)) (sym many_are)
      ∙ ap₂ (λ (o : Op) (x : Operands). takes (arity o) (length (numbers_of k.lookup.job.now x))) (sym its_kind) (sym its_list) ∙ q.number) in
      let some = leb→le 1 (length ks) (and_l (leb 1 (length ks)) _ count) in
      let given : KeptArguments k (Listed a) = record { store = store_of k; placed = inside; below = T_true _ (more_below l (first_terms + k.lookup.rows) (omega arith) ks b) } in
      let sorts = all_alike (kept_term k) ks (fits_alike (map (kept_term k) ks) (fits q (store_of k) left o (Listed a) its_kind its_list)) in
      record {
        alike = record {
          inside = inside;
          some = omega arith;
          each = λ i h. record {
            there = operand_below given i h refl;
            sort = (sorts i (omega arith)).0 ∙ is_bv (sort_of (kept_term k (argument k a 0))) (sorts i (omega arith)).1;
          };
        };
        claimed = right;
      }
