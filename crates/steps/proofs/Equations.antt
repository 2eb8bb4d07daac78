-- A literal that is an equation: its two sides, and the depth of the right one.
use mathlib.Core.Path.{◌≡◌, refl, sym, ap, ◌∙◌}
use mathlib.Core.Bool.{Bool, true, false, cond}
use mathlib.Core.List.{List, [], ◌∷◌, map}
use Rattle.std.specs.Prelude.{None as none, Some as some}
use Prim.Native.Nat.{ℕ}
use native.Mathlib.Omega.{arith}
use lib.Dec.{eqb}
use Rattle.std.specs.Prelude.{slice_get as get_elem?}
use borrow.Enum.Refused.{Among}
use denote.Enum.Declared.{tag_of}
use Rattle.theory.specs.Kind.{Equals, kind}
use Rattle.theory.specs.Term.{Term, node, to_list, from_list}
use Rattle.theory.specs.Depth.{depth}
use Rattle.theory.specs.Optional.{either}
use Rattle.theory.specs.Verdict.{Verdict, accepted}
use Rattle.theory.specs.Rule.{args_of, two_of, form, binary}
use Rattle.theory.specs.Record.{Bytes}
use Rattle.theory.specs.Chain.{Sides, sides}
use Rattle.theory.specs.Job.{right_depth}
use Rattle.theory.proofs.Places.{tree_at}
use Rattle.terms.specs.declared.Term.{Term as Decoded}
use Rattle.terms.specs.declared.Term.TheVariants as D
use Rattle.terms.specs.declared.Operands.TheVariants.{Two as TwoArgs}
use Rattle.terms.specs.Decoded.{op_of, operands_of, arguments_of}
use Rattle.terms.specs.contracts.Term as E
use Rattle.store.specs.Store.{listed}
use Rattle.store.specs.Terms.{TermAt}
use Rattle.operand_rules.proofs.Forms.{tree, others, not_kind, made_of}
use Rattle.steps.specs.Answering.{equation_depth}

module _ {job work : Bytes} {n p : ℕ} {t : Decoded} (s : TermAt job work n p t) where
  -- a term of another kind has none
  pub no_sides : Among (0 ∷ others 9) (tag_of E.the_type t) → sides (tree job work n p) ≡ none
  unfolding args_of
  no_sides e =
      ap sides s.made
      ∙ ap (λ (b : Bool). either none two_of (cond b (some (to_list (from_list (map (tree_at (listed job work n)) (arguments_of job t))))) none)) (not_kind 9 t e tt)

  -- an equation's
  pub two_sides : {l r : ℕ} → t ≡ D.Equals l r → sides (tree job work n p) ≡ some (tree job work n l, tree job work n r)
  unfolding args_of
  two_sides {l} {r} e = ap sides (made_of s Equals (TwoArgs l r) (ap op_of e) (ap operands_of e))

  -- their depth
  pub no_depth : Among (0 ∷ others 9) (tag_of E.the_type t) → 0 ≡ equation_depth (tree job work n p)
  no_depth e = sym (ap (either 0 (λ (q : Sides). depth q.1)) (no_sides e))

  pub right_of : {l r : ℕ} → t ≡ D.Equals l r → depth (tree job work n r) ≡ equation_depth (tree job work n p)
  right_of e = sym (ap (either 0 (λ (q : Sides). depth q.1)) (two_sides e))

-- a verdict on the sides of an equation that accepts: the literal has two sides
pub accepted_depth : (t : Term) (f : Term → Term → Verdict) → accepted (binary (kind Equals) t f) ≡ true → equation_depth t ≡ right_depth t
unfolding args_of
accepted_depth (node o ts) f a = go (eqb (kind o) (kind Equals)) (to_list ts) a
  where
    go : (b : Bool) (us : List Term) → accepted (form (cond b (some us) none) (λ vs. form (two_of vs) (λ p. f p.0 p.1))) ≡ true
        → either 0 (λ (p : Sides). depth p.1) (either none two_of (cond b (some us) none)) ≡ either 0 depth (get_elem? us 1)
    go true [] e = absurd (let z : ◌≡◌ {A = ℕ} 0 1 = cc in omega arith)
    go true (x ∷ []) e = absurd (let z : ◌≡◌ {A = ℕ} 0 1 = cc in omega arith)
    go true (x ∷ y ∷ []) e = refl
    go true (x ∷ y ∷ z ∷ zs) e = absurd (let w : ◌≡◌ {A = ℕ} 0 1 = cc in omega arith)
    go false us e = absurd (let z : ◌≡◌ {A = ℕ} 0 1 = cc in omega arith)
