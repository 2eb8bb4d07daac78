-- What a term that fits says of its arguments, and the forms of terms that the rules ask for.
use mathlib.Core.Path.{◌≡◌, sym, ap, subst, ◌∙◌}
use mathlib.Core.Bool.{Bool, ◌&&◌, cond}
use mathlib.Core.List.{List, ◌∷◌, map}
use Rattle.std.specs.Prelude.{None as none, Some as some}
use Prim.Native.Nat.{ℕ, ◌+◌, ◌<◌, ◌≤◌}
use native.Mathlib.Omega.{arith}
use lib.Dec.{T, eqb, eqb→eq, eqb_refl, leb, leb→le, ltb, ltb→lt}
use lib.Ieee.Fits.{and_l, and_r}
use lib.ListN.{length, get_or}
use borrow.Enum.Refused.{Among}
use denote.Enum.Declared.{tag_of}
use Rattle.theory.specs.Limit.{first_terms, max_width}
use Rattle.theory.specs.Kind.{Op, BvConcat, kind, arity, takes}
use Rattle.theory.specs.Term.{Term, node, same_term, fold, folds, to_list, from_list}
use Rattle.theory.specs.Sort.{Sort, fitting, good, result_sort, is_bv_sort, all_bv, sort_width, sum_widths, sort_op, sort_of}
use Rattle.theory.specs.Record.{Bytes}
use Rattle.theory.specs.Verdict.{Verdict}
use Rattle.theory.specs.Rule.{args_of, form}
use Rattle.theory.proofs.Same.{same_eq, eq_same}
use Rattle.theory.proofs.Blast.{folds_from_list, to_from_list}
use Rattle.theory.proofs.Places.{tree_at, more_below}
use Rattle.terms.specs.declared.Term.{Term as Decoded}
use Rattle.terms.specs.declared.Operands.{Operands}
use Rattle.terms.specs.declared.Operands.TheVariants.{List as Listed}
use Rattle.terms.specs.declared.Args.{Args}
use Rattle.terms.specs.Decoded.{op_of, operands_of, numbers_of, arguments_of}
use Rattle.terms.proofs.Cases.{kinds, kind_tag, all_other}
use Rattle.terms.specs.contracts.Term as E
use Rattle.store.specs.Store.{listed}
use Rattle.store.specs.declared.gates.Kept.{Kept}
use Rattle.store.specs.Kept.{KeptArguments, IsTermAt, kept_terms, kept_term, kept_number, words_of}
use Rattle.store.proofs.Keeping.{store_of}
use Rattle.store.specs.Terms.{TermAt}
use Rattle.store.proofs.Claims.{own_number}
use Rattle.operand_rules.proofs.Tests.{same_eqb, eqb_yes}
use Rattle.operand_rules.proofs.Numbers.{few, there}
use Rattle.operand_rules.proofs.Forms.{tree, good_guard, others, not_kind, made_of, below_of, list_inside, fits}
use Rattle.slice_rules.specs.Given.{Concat, sorts_in}
use Rattle.theory.proofs.Basics.{T_true, T_same}

-- a term that fits: so do the sorts of its arguments
pub fitted : (o : Op) (us : List Term) → T (good (sort_of (node o (from_list us)))) → T (fitting o (map sort_of us))
unfolding fold
fitted o us g =
    let ss = folds sort_op (from_list us) in
    subst (λ (rs : List Sort). T (fitting o rs)) (folds_from_list sort_op us)
    (and_r (takes (arity o) (length ss)) _ (good_guard (takes (arity o) (length ss) && fitting o ss) (result_sort o ss) g))

-- a kept term has its place as number
pub own : (k : Kept) {x : ℕ} → x < first_terms + k.lookup.rows → x ≡ kept_number k (kept_term k x)
own k {x} h = sym (own_number (kept_terms k) (store_of k).well (few k) x (there k h))

-- so two kept terms are one exactly where their places are
pub same_place : (k : Kept) (a b : ℕ) → a < first_terms + k.lookup.rows → b < first_terms + k.lookup.rows → same_term (kept_term k a) (kept_term k b) ≡ eqb a b
same_place k a b h l =
    T_same (same_term (kept_term k a) (kept_term k b)) (eqb a b)
    (λ t. subst (λ (i : ℕ). T (eqb a i)) (own k h ∙ ap (kept_number k) (same_eq (kept_term k a) (kept_term k b) t) ∙ sym (own k l)) (eqb_refl a))
    (λ t. eq_same (kept_term k a) (kept_term k b) (ap (kept_term k) (eqb→eq a b t)))

module _ {job work : Bytes} {n p : ℕ} {t : Decoded} (s : TermAt job work n p t) where
  -- ---- forms
  -- the arguments, where it is of that kind
  pub args_are : (o : Op) (ops : Operands) → op_of t ≡ o → operands_of t ≡ ops → args_of (kind o) (tree job work n p) ≡ some (map (tree job work n) (numbers_of job ops))
  unfolding args_of
  args_are o ops e d =
      let us = map (tree job work n) (numbers_of job ops) in
      ap (args_of (kind o)) (made_of s o ops e d) ∙ ap (λ (b : Bool). cond b (some (to_list (from_list us))) none) (same_eqb (kind o)) ∙ ap some (to_from_list us)

  -- none, in the else of a pattern
  pub args_not : (k : ℕ) → Among (0 ∷ others k) (tag_of E.the_type t) → T (all_other (get_or kinds k 0) (0 ∷ others k)) → args_of (get_or kinds k 0) (tree job work n p) ≡ none
  unfolding args_of
  args_not k e h =
      ap (args_of (get_or kinds k 0)) s.made
      ∙ ap (λ (b : Bool). cond b (some (to_list (from_list (map (tree job work n) (arguments_of job t))))) none) (not_kind k t e h)

  -- a term of case k has the form, whatever its arguments
  pub any_form : (k : ℕ) → tag_of E.the_type t ≡ k → (v : Verdict) → form (args_of (get_or kinds k 0) (tree job work n p)) (λ ts. v) ≡ v
  unfolding args_of
  any_form k e v =
      ap (λ (u : Term). form (args_of (get_or kinds k 0) u) (λ ts. v)) s.made
      ∙ ap (λ (b : Bool). form (cond b (some (to_list (from_list (map (tree_at (listed job work n)) (arguments_of job t))))) none) (λ ts. v))
      (eqb_yes (kind_tag t ∙ ap (λ (j : ℕ). get_or kinds j 0) e))

-- ---- sorts
module _ (k : Kept) {p : ℕ} {t : Decoded} (s : IsTermAt k p t) (kept : p < first_terms + k.lookup.rows) where
  -- what its kind asks of the arguments' sorts
  pub asked : (o : Op) (ops : Operands) → op_of t ≡ o → operands_of t ≡ ops → T (fitting o (sorts_in k (numbers_of k.lookup.job.now ops)))
  asked o ops e d = fitted o (map (kept_term k) (numbers_of k.lookup.job.now ops)) (fits s (store_of k) kept o ops e d)

  -- a list of arguments
  pub list_given : (a : Args) → operands_of t ≡ Listed a → KeptArguments k (Listed a)
  list_given a d = record {
    store = store_of k;
    placed = list_inside s a d;
    below = T_true _ (more_below p (first_terms + k.lookup.rows) (omega arith) (words_of k a) (below_of s (Listed a) d));
  }

  -- what the check of concat may take for granted
  pub concat_given : (a : Args) (claim : ℕ) → op_of t ≡ BvConcat → operands_of t ≡ Listed a → claim < first_terms + k.lookup.rows → Concat k a claim
  concat_given a claim e d c =
      let ss = sorts_in k (words_of k a) in
      let h = asked BvConcat (Listed a) e d in
      record {
        arguments = list_given a d;
        bit_vectors = and_l (all_bv ss) _ h;
        fits = leb→le (sum_widths ss) max_width (and_r (leb 1 (sum_widths ss)) _ (and_r (all_bv ss) _ h));
        claimed = c;
      }

-- ---- what fits the numbers in a kind: of extract
pub part_fits : (s : Sort) (i j : ℕ) → T (is_bv_sort s && (leb j i && ltb i (sort_width s))) → (j ≤ i) × (i < sort_width s)
part_fits s i j h = let q = and_r (is_bv_sort s) _ h in (leb→le j i (and_l (leb j i) _ q), ltb→lt i (sort_width s) (and_r (leb j i) _ q))

-- of zero_extend and sign_extend
pub wider_fits : (s : Sort) (m : ℕ) → T (is_bv_sort s && leb (sort_width s + m) max_width) → sort_width s + m ≤ max_width
wider_fits s m h = leb→le (sort_width s + m) max_width (and_r (is_bv_sort s) _ h)
