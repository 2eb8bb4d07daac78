-- A term at a place: its arguments may be evaluated, and what they come to is its value.
use mathlib.Core.Path.{◌≡◌, refl, sym, ap, subst, ◌∙◌}
use mathlib.Core.List.{List, [], ◌∷◌, map}
use Prim.Native.Nat.{ℕ, ◌+◌, ◌<◌}
use native.Mathlib.Omega.{arith}
use lib.Dec.{T}
use Rattle.theory.specs.Limit.{first_terms}
use Rattle.theory.specs.Kind.{Op}
use Rattle.theory.specs.Term.{Term, fold, folds, from_list}
use Rattle.theory.specs.Sort.{Sort, good, sort_op, sort_of}
use Rattle.theory.specs.Value.{meaning, value}
use Rattle.theory.specs.Record.{Bytes, number_length}
use Rattle.theory.specs.Plain.{Plain}
use Rattle.theory.specs.Codes.{all_below}
use Rattle.theory.proofs.Basics.{true_T}
use Rattle.theory.proofs.Places.{tree_at, tree_of, more_below}
use Rattle.terms.specs.declared.Term.{Term as Decoded}
use Rattle.terms.specs.declared.Term.TheVariants as D
use Rattle.terms.specs.Decoded.{OperandsPlaced, op_of, operands_of, arguments_of}
use Rattle.store.specs.Store.{listed}
use Rattle.store.specs.Shelf.{TermOn, args_at}
use Rattle.sweeps.specs.Variables.{is_variable}
use Rattle.sweeps.specs.Sweep.{as_number}
use Rattle.evaluation.specs.Cells.{AllRight, sorts_on, Given, Comes, Evaluable, Evaluated}
use Rattle.store.specs.KeptTerms.{IsTermOn}
use Rattle.evaluation.specs.Columns.{column}
use Rattle.evaluation.specs.declared.evaluate.Column.{Column}
use Rattle.evaluation.proofs.PlaceLaws.{place_good}

-- a fold of the terms at places
folds_at : {A : Type 0} (alg : Op → List A → A) (list : Plain) (ks : List ℕ) → folds alg (from_list (map (tree_at list) ks)) ≡ map (λ (k : ℕ). fold alg (tree_at list k)) ks
unfolding fold
folds_at alg list [] = refl
folds_at {A} alg list (k ∷ ks) = ap (λ (r : List A). fold alg (tree_at list k) ∷ r) (folds_at alg list ks)

-- the term at a place may be evaluated, and t is it
pub record Decodable (job work : Bytes) (n : ℕ) (f : ℕ → ℕ) (place : ℕ) (t : Decoded) : Type 0 where
  pub able : Evaluable job work n f
  pub low : place < first_terms + n
  pub term : TermOn job work n place t

fold_of : {A : Type 0} (alg : Op → List A → A) (list : Plain) (o : Op) (ks : List ℕ) → fold alg (tree_of list o ks) ≡ alg o (map (λ (k : ℕ). fold alg (tree_at list k)) ks)
unfolding fold
fold_of alg list o ks = ap (alg o) (folds_at alg list ks)

module _ {job work : Bytes} {n : ℕ} {num : ℕ → ℕ} {place : ℕ} {t : Decoded} (d : Decodable job work n num place t) where
  module _ (u : Decoded) (e : t ≡ u) where
    made : tree_at (listed job work n) place ≡ tree_of (listed job work n) (op_of u) (arguments_of job u)
    made = d.term.term_at.made ∙ ap (λ (z : Decoded). tree_of (listed job work n) (op_of z) (arguments_of job z)) e

    args : arguments_of job u ≡ args_at (number_length job) (listed job work n) place
    args = ap (arguments_of job) (sym e) ∙ d.term.args_are

    -- its sort comes from its arguments'
    pub sort_made : sort_of (tree_at (listed job work n) place) ≡ sort_op (op_of u) (sorts_on (listed job work n) (arguments_of job u))
    sort_made = ap sort_of made ∙ fold_of sort_op (listed job work n) (op_of u) (arguments_of job u)

    -- its arguments may be evaluated
    pub given_at : Given job work n num (op_of u) (arguments_of job u)
    given_at = record {
      able = d.able;
      below = more_below place (first_terms + n) (omega (arith, d.low)) (arguments_of job u)
          (subst (λ (z : Decoded). T (all_below place (arguments_of job z))) e (true_T _ d.term.term_at.below));
      sorted = subst (λ (s : Sort). T (good s)) sort_made (place_good d.able place d.low);
    }

    -- and what they come to is its value
    pub done_at : {r : ℕ} → Comes (listed job work n) num (op_of u) (arguments_of job u) r → Evaluated (number_length job) (listed job work n) num place r
    done_at f ρ a v =
        f ρ (subst (AllRight ρ (listed job work n) num) (sym args) a)
        ∙ ap as_number (sym (ap (value ρ) made ∙ fold_of (meaning ρ) (listed job work n) (op_of u) (arguments_of job u)))

    -- a variable's value stands in its own cell
    pub own_at : {r : ℕ} → T (is_variable (tree_of (listed job work n) (op_of u) (arguments_of job u))) → r ≡ num place → Evaluated (number_length job) (listed job work n) num place r
    own_at i f ρ a v = f ∙ v (subst (λ (z : Term). T (is_variable z)) (sym made) i)

    -- a list of arguments lies in the job
    pub placed_at : OperandsPlaced job (operands_of u)
    placed_at = subst (λ (z : Decoded). OperandsPlaced job (operands_of z)) e d.term.term_at.placed

  -- ---- the terms without arguments
  pub true_at : t ≡ D.True → Evaluated (number_length job) (listed job work n) num place 1
  unfolding meaning
  true_at e = done_at D.True e (λ ρ a. refl)

  pub false_at : t ≡ D.False → Evaluated (number_length job) (listed job work n) num place 0
  unfolding meaning
  false_at e = done_at D.False e (λ ρ a. refl)

  pub const_at : (m x : ℕ) → t ≡ D.Const m x → Evaluated (number_length job) (listed job work n) num place x
  unfolding meaning
  const_at m x e = done_at (D.Const m x) e (λ ρ a. refl)

-- a term of a column
pub standing : (c : Column) {place : ℕ} {t : Decoded} → place < first_terms + c.terms.rows → IsTermOn c.terms place t
    → Decodable c.terms.job.now c.terms.work.now c.terms.rows (column c) place t
standing c l t = record { able = record { shelf = c.terms.shelf; ranged = c.ranged }; low = l; term = t }
