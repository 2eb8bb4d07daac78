-- The rule bitwise_slicing: conjunctions of two, the tests on a slice, and the slices one after the other.
use mathlib.Core.Path.{◌≡◌, refl, sym, ap, ap₂, subst, ◌∙◌}
use mathlib.Core.Bool.{Bool, ◌&&◌, not, cond}
use mathlib.Core.List.{List, [], ◌∷◌, map}
use Rattle.std.specs.Prelude.{Option, None as none, Some as some, Result, Ok as ok, Err as err}
use Prim.Native.Nat.{ℕ, suc, ◌+◌, ◌<◌}
use native.Mathlib.Numerals.{add-one}
use native.Mathlib.Omega.{arith}
use borrow.Enum.Refused.{Among}
use denote.Enum.Declared.{tag_of}
use lib.Dec.{T, eqb, ltb, ltb→lt}
use lib.Ieee.Fits.{and_l, and_r}
use lib.ListN.{length, get_or, length-map}
use Rattle.theory.specs.Limit.{first_terms}
use Rattle.theory.specs.Kind.{BvAnd, BvExtract, kind}
use Rattle.theory.specs.Term.{Term, same_term}
use Rattle.theory.specs.Optional.{either}
use Rattle.theory.specs.Codes.{all_below}
use Rattle.theory.specs.Verdict.{Verdict, held, wrong_form, terms_differ, index_not_next}
use Rattle.theory.specs.Rule.{args_of, two_of, index_of, form, unary, binary, extract_kind, slice_verdict, slices_verdict, parts_verdict}
use Rattle.terms.specs.declared.Term.{Term as Decoded}
use Rattle.terms.specs.declared.Operands.TheVariants.{One as OneArg, List as Listed}
use Rattle.terms.specs.declared.Args.{Args}
use Rattle.terms.specs.Decoded.{op_of, operands_of}
use Rattle.terms.specs.contracts.Term as E
use Rattle.store.specs.declared.gates.Kept.{Kept}
use Rattle.store.specs.Kept.{IsTermAt, kept_term, kept_width, words_of}
use Rattle.store.proofs.Arguments.{count_length, operand_below}
use Rattle.operand_rules.specs.declared.Verdict as R
use Rattle.slice_rules.specs.declared.parts.Extraction.{Extraction}
use Rattle.operand_rules.specs.Rules.{verdict_of}
use Rattle.operand_rules.proofs.Forms.{others, indexed_form}
use Rattle.slice_rules.specs.Slices.{two_args, pair_of, PairKept, Conjunction, after, number_tests, Answers}
use Rattle.slice_rules.proofs.Fitting.{same_place, args_are, args_not, list_given}

-- ---- a conjunction of two
-- `binary` by the two arguments
binary_two : (k : ℕ) (t : Term) (f : Term → Term → Verdict) → form (two_args k t) (λ p. f p.0 p.1) ≡ binary k t f
binary_two k t f = go (args_of k t)
  where
    go : (q : Option (List Term)) → form (either none two_of q) (λ p. f p.0 p.1) ≡ form q (λ ts. form (two_of ts) (λ p. f p.0 p.1))
    go none = refl
    go (some ts) = refl

module _ {k : Kept} {p : ℕ} {r : Option (ℕ × ℕ)} (s : Conjunction k p r) where
  -- what it makes of a form
  of_pair : (q : Option (ℕ × ℕ)) → r ≡ q → (f : Term → Term → Verdict) → form (pair_of k q) (λ u. f u.0 u.1) ≡ binary (kind BvAnd) (kept_term k p) f
  of_pair q e f =
      ap (λ (o : Option (Term × Term)). form o (λ u. f u.0 u.1)) (sym (ap (pair_of k) e) ∙ s.arguments) ∙ binary_two (kind BvAnd) (kept_term k p) f

  -- it is one, of x and y
  pub pair_form : {x y : ℕ} → r ≡ some (x, y) → (f : Term → Term → Verdict) → f (kept_term k x) (kept_term k y) ≡ binary (kind BvAnd) (kept_term k p) f
  pair_form {x} {y} e f = of_pair (some (x, y)) e f

  -- it is none
  pub no_pair : r ≡ none → (f : Term → Term → Verdict) → wrong_form ≡ binary (kind BvAnd) (kept_term k p) f
  no_pair e f = of_pair none e f

  -- and these are kept
  pub pair_kept : {x y : ℕ} → r ≡ some (x, y) → (x < first_terms + k.lookup.rows) × (y < first_terms + k.lookup.rows)
  pair_kept e = subst (PairKept k) e s.kept

-- what a decoded term says of it: another kind, another number of arguments, or just two
two_of_not : (us : List Term) → (length us ≡ 2 → ⊥) → two_of us ≡ none
two_of_not [] h = refl
two_of_not (x ∷ []) h = refl
two_of_not (x ∷ y ∷ []) h = absurd (h refl)
two_of_not (x ∷ y ∷ z ∷ us) h = refl

two_of_is : (f : ℕ → Term) (ks : List ℕ) → length ks ≡ 2 → two_of (map f ks) ≡ some (f (get_or ks 0 0), f (get_or ks 1 0))
two_of_is f [] h = absurd (omega arith)
two_of_is f (x ∷ []) h = absurd (omega arith)
two_of_is f (x ∷ y ∷ []) h = refl
two_of_is f (x ∷ y ∷ z ∷ ks) h = absurd (omega arith)

module _ (k : Kept) {p : ℕ} {t : Decoded} (s : IsTermAt k p t) where
  pub not_and : Among (0 ∷ others 15) (tag_of E.the_type t) → Conjunction k p none
  not_and e = record { arguments = sym (ap (either none two_of) (args_not s 15 e tt)); kept = tt }

  module _ {a : Args} where
    pub not_two : op_of t ≡ BvAnd → operands_of t ≡ Listed a → (a.count ≡ 2 → ⊥) → Conjunction k p none
    not_two e d h = record {
      arguments = sym (ap (either none two_of) (args_are s BvAnd (Listed a) e d)
          ∙ two_of_not (map (kept_term k) (words_of k a)) (λ z. h (sym (length-map (words_of k a) (kept_term k) ∙ count_length k.lookup.job.now (Listed a)) ∙ z)));
      kept = tt;
    }

    pub and_two : p < first_terms + k.lookup.rows → op_of t ≡ BvAnd → operands_of t ≡ Listed a → a.count ≡ 2
        → {x y : ℕ} → x ≡ get_or (words_of k a) 0 0 → y ≡ get_or (words_of k a) 1 0 → Conjunction k p (some (x, y))
    and_two there e d l {x} {y} f g =
        let given = list_given k s there a d in
        record {
          arguments = ap₂ (λ (u v : Term). some (u, v)) (ap (kept_term k) f) (ap (kept_term k) g)
              ∙ sym (ap (either none two_of) (args_are s BvAnd (Listed a) e d) ∙ two_of_is (kept_term k) (words_of k a) (count_length k.lookup.job.now (Listed a) ∙ l));
          kept = (operand_below given 0 (omega arith) f, operand_below given 1 (omega arith) g);
        }

-- ---- the tests on a slice
-- where these are bits j to i of x and bits m to k of y, the tests are on numbers
module _ (kept : Kept) {p q : ℕ} {t u : Decoded} (s : IsTermAt kept p t) (r : IsTermAt kept q u) where
  pub pair_tested : (a c done : ℕ) (l : Extraction) (x : ℕ) (m : Extraction) (y : ℕ) (next : ℕ → Verdict) → op_of t ≡ BvExtract l.upper l.lower → operands_of t ≡ OneArg x
      → op_of u ≡ BvExtract m.upper m.lower → operands_of u ≡ OneArg y → a < first_terms + kept.lookup.rows → c < first_terms + kept.lookup.rows → x < first_terms + kept.lookup.rows → y < first_terms + kept.lookup.rows
      → number_tests a c done l x m y next ≡ parts_verdict done (kept_term kept a) (kept_term kept c) next (kept_term kept p) (kept_term kept q)
  pair_tested a c done l x r' y next e d f g ha hc hx hy =
      let i = l.upper in
      let j = l.lower in
      let k = r'.upper in
      let m = r'.lower in
      let A = kept_term kept a in
      let C = kept_term kept c in
      ap (λ (z : ℕ). cond (not (eqb i k && eqb j m)) wrong_form (cond (not (eqb z done)) index_not_next (cond (not (eqb a x && eqb c y)) terms_differ (next j)))) (add-one i)
      ∙ ap₂ (λ (v w : Bool). cond (not (eqb i k && eqb j m)) wrong_form (cond (not (eqb (suc i) done)) index_not_next (cond (not (v && w)) terms_differ (next j))))
      (sym (same_place kept a x ha hx)) (sym (same_place kept c y hc hy))
      ∙ indexed_form r (BvExtract k m) y f g
      (λ h z. cond (not (eqb i (h 0) && eqb j (h 1))) wrong_form (cond (not (eqb (suc i) done)) index_not_next (cond (not (same_term A (kept_term kept x) && same_term C z)) terms_differ (next j))))
      ∙ indexed_form s (BvExtract i j) x e d
      (λ h w. unary extract_kind (kept_term kept q) (λ z.
      cond (not (eqb (h 0) (index_of 0 (kept_term kept q)) && eqb (h 1) (index_of 1 (kept_term kept q)))) wrong_form
      (cond (not (eqb (suc (h 0)) done)) index_not_next (cond (not (same_term A w && same_term C z)) terms_differ (next (h 1))))))

-- ---- the slices at these places, `done` being the lowest index before them
abbrev pub slices_in : Kept → (a c done : ℕ) → List ℕ → Verdict
slices_in k a c done ks = slices_verdict (kept_term k a) (kept_term k c) done (map (kept_term k) ks)

-- what is left of them
pub record Slicing (k : Kept) (a c : ℕ) (ks : List ℕ) (done : ℕ) (left : List ℕ) : Type 0 where
  pub below : T (all_below (first_terms + k.lookup.rows) left)
  pub rest : slices_in k a c (kept_width k c) ks ≡ slices_in k a c done left

module _ {k : Kept} {a c : ℕ} where
  module _ {ks : List ℕ} {done : ℕ} {left : List ℕ} (inv : Slicing k a c ks done left) where
    module _ {x : ℕ} {others : List ℕ} (e : left ≡ x ∷ others) where
      here : T (all_below (first_terms + k.lookup.rows) (x ∷ others))
      here = subst (λ (ls : List ℕ). T (all_below (first_terms + k.lookup.rows) ls)) e inv.below

      pub slice_below : x < first_terms + k.lookup.rows
      slice_below = ltb→lt x (first_terms + k.lookup.rows) (and_l (ltb x (first_terms + k.lookup.rows)) _ here)

      module _ (r : Result ℕ R.Verdict) (f : Answers r (slice_verdict done (kept_term k a) (kept_term k c) (kept_term k x))) where
        -- the next slice
        next : after r (λ j. slices_in k a c j others) ≡ slices_in k a c (kept_width k c) ks
        unfolding slices_verdict
        next = f (λ j. slices_in k a c j others) ∙ sym (inv.rest ∙ ap (slices_in k a c done) e)

        -- it is as it should be
        pub slices_turn : {j : ℕ} → r ≡ ok j → Slicing k a c ks j others
        slices_turn d = record {
          below = and_r (ltb x (first_terms + k.lookup.rows)) _ here;
          rest = sym next ∙ ap (λ (q : Result ℕ R.Verdict). after q (λ m. slices_in k a c m others)) d;
        }

        -- it is refused
        pub slices_refused : {v : R.Verdict} → r ≡ err v → verdict_of v ≡ slices_in k a c (kept_width k c) ks
        slices_refused d = sym (ap (λ (q : Result ℕ R.Verdict). after q (λ m. slices_in k a c m others)) d) ∙ next

    -- none is left
    pub slices_end : left ≡ [] → held ≡ slices_in k a c (kept_width k c) ks
    unfolding slices_verdict
    slices_end e = sym (inv.rest ∙ ap (slices_in k a c done) e)
