-- The verdict of a chain: held where its premises join to the claim, and else why not.
use mathlib.Core.Path.{◌≡◌, refl, sym, ap, ap₂, ◌∙◌}
use mathlib.Core.Bool.{Bool, false, cond}
use mathlib.Core.List.{List, [], ◌∷◌, map}
use Rattle.std.specs.Prelude.{Option, None as none, Some as some}
use Prim.Native.Nat.{ℕ}
use borrow.Enum.Refused.{Among}
use denote.Enum.Declared.{tag_of}
use Rattle.theory.specs.Kind.{Equals}
use Rattle.theory.specs.Term.{Term}
use Rattle.theory.specs.Optional.{either, is_some, cons_some, collect}
use Rattle.theory.specs.Verdict.{held, wrong_form, premise_broken}
use Rattle.theory.specs.RuleTable.{ChainRule}
use Rattle.theory.specs.Rule.{form}
use Rattle.theory.specs.Record.{Bytes}
use Rattle.theory.specs.Plain.{Plain}
use Rattle.theory.specs.Chain.{Earlier, Sides, sides, joins, chain_verdict, premise_at, premises_at, joined}
use Rattle.theory.proofs.Basics.{none_some, some_inj, cons_some_is}
use Rattle.terms.specs.declared.Term.{Term as Decoded}
use Rattle.terms.specs.declared.Term.TheVariants as D
use Rattle.terms.specs.Decoded.{op_of, operands_of}
use Rattle.terms.specs.contracts.Term as E
use Rattle.store.specs.Terms.{TermAt}
use Rattle.operand_rules.proofs.Forms.{tree, others, no_case, two_form}
use Rattle.chains.specs.Premises.{sides_in, joins_in}

-- ---- the sides of premises
module _ (earlier : Earlier) (list : Plain) where
  -- none is missing
  sides_are : (ks : List ℕ) (ts : List Term) → premises_at earlier list ks ≡ some ts → map (sides_in earlier list) ks ≡ map sides ts
  unfolding sides_in
  sides_are [] ts e = ap (map sides) (some_inj [] ts e)
  sides_are (k ∷ ks) ts e =
      let q = cons_some_is (premise_at earlier list k) (premises_at earlier list ks) ts e in
      ap₂ (λ (x : Option Sides) (xs : List (Option Sides)). x ∷ xs) (ap (either none sides) q.2) (sides_are ks q.1 q.3) ∙ ap (map sides) (sym q.4)

  -- one is missing, and has no sides
  sides_missing : (ks : List ℕ) → premises_at earlier list ks ≡ none → collect (map (sides_in earlier list) ks) ≡ none
  unfolding sides_in
  sides_missing [] e = absurd (none_some [] (sym e))
  sides_missing (k ∷ ks) e = go (premise_at earlier list k) (premises_at earlier list ks) e (sides_missing ks)
    where
      no_more : (x : Option Sides) → cons_some x none ≡ none
      no_more none = refl
      no_more (some p) = refl

      go : (p : Option Term) (q : Option (List Term)) {x : Option (List Sides)} → cons_some p q ≡ none → (q ≡ none → x ≡ none)
          → cons_some (either none sides p) x ≡ none
      go none q d f = refl
      go (some t) none d f = ap (cons_some (sides t)) (f refl) ∙ no_more (sides t)
      go (some t) (some ts) d f = absurd (none_some (t ∷ ts) (sym d))

by_test : (f : List Sides → Bool) (q : Option (List Sides)) → cond (either false f q) held wrong_form ≡ form q (λ ps. cond (f ps) held wrong_form)
by_test f none = refl
by_test f (some ps) = refl

-- ---- the verdict on a claim: where it is not held, a premise is missing, or else its form is wrong
refused_is : (by : ChainRule) (claim : Term) → ((ts : List Term) → wrong_form ≡ chain_verdict by ts claim)
    → (q : Option (List Term)) → cond (is_some q) wrong_form premise_broken ≡ joined by q claim
refused_is by claim h none = refl
refused_is by claim h (some ts) = h ts

module _ {job work : Bytes} {n p : ℕ} {t : Decoded} (s : TermAt job work n p t) (by : ChainRule) where
  -- the claim is no equation
  pub no_claim : Among (0 ∷ others 9) (tag_of E.the_type t)
      → (q : Option (List Term)) → cond (is_some q) wrong_form premise_broken ≡ joined by q (tree job work n p)
  unfolding chain_verdict
  no_claim e = refused_is by (tree job work n p) (λ ts. no_case s 9 e tt _)

  -- it is one: where a premise is missing, none of the rules joins
  pub claim_joined : (earlier : Earlier) (list : Plain) (ks : List ℕ) {l r : ℕ} → t ≡ D.Equals l r
      → {b : Bool} → b ≡ joins_in by earlier list ks (tree job work n l) (tree job work n r)
      → cond b held (cond (is_some (premises_at earlier list ks)) wrong_form premise_broken) ≡ joined by (premises_at earlier list ks) (tree job work n p)
  unfolding chain_verdict joins_in
  claim_joined earlier list ks {l} {r} e {b} h =
      ap (λ (x : Bool). cond x held (cond (is_some (premises_at earlier list ks)) wrong_form premise_broken)) h ∙ go (premises_at earlier list ks) refl
    where
      test : List Sides → Bool
      test ps = joins by ps (tree job work n l) (tree job work n r)

      go : (q : Option (List Term)) → premises_at earlier list ks ≡ q
          → cond (either false test (collect (map (sides_in earlier list) ks))) held (cond (is_some q) wrong_form premise_broken) ≡ joined by q (tree job work n p)
      go none d = ap (λ (x : Option (List Sides)). cond (either false test x) held premise_broken) (sides_missing earlier list ks d)
      go (some ts) d =
          by_test test (collect (map (sides_in earlier list) ks))
          ∙ ap (λ (xs : List (Option Sides)). form (collect xs) (λ ps. cond (test ps) held wrong_form)) (sides_are earlier list ks ts d)
          ∙ sym (two_form s Equals l r (ap op_of e) (ap operands_of e) (λ x y. form (collect (map sides ts)) (λ ps. cond (joins by ps x y) held wrong_form)))
