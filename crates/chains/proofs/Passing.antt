-- `all` over the premises of a list, with a test that says whether the one with that number may be a premise.
use mathlib.Core.Path.{◌≡◌, refl, sym, ap, subst, ◌∙◌}
use mathlib.Core.Bool.{Bool, true, false}
use mathlib.Core.List.{List, [], ◌∷◌}
use Prim.Native.Nat.{ℕ}
use denote.Param.Members.{Mut}
use Rattle.std.specs.Prelude.{Option, None as none, Some as some}
use Rattle.std.specs.Fn.{Called}
use Rattle.std.specs.Iterator.{Yields, YieldsFirst, ChecksAll}
use Rattle.std.specs.List.{FoldsTo}
use Rattle.theory.specs.Term.{Term}
use Rattle.theory.specs.Optional.{is_some, cons_some}
use Rattle.theory.specs.Plain.{Plain}
use Rattle.theory.specs.Chain.{Earlier, premise_place, premise_at, premises_at}
use Rattle.terms.specs.Numbers.{numbers_left}
use Rattle.terms.specs.declared.list.Numbers.{Numbers}
use Rattle.store.specs.KeptTerms.{kept_terms}
use Rattle.chains.specs.declared.premises.Past.{Past}
use Rattle.chains.specs.Told.{earlier_told}
use Rattle.chains.proofs.Standing.{broken_tree, standing_tree}

-- the test is that of what is left
abbrev all_there : Earlier → Plain → List ℕ → Bool
all_there earlier list ks = is_some (premises_at earlier list ks)

one_there : (q : Option Term) (qs : Option (List Term)) → true ≡ is_some q → is_some (cons_some q qs) ≡ is_some qs
one_there none qs e = absurd (cc)
one_there (some t) none e = refl
one_there (some t) (some ts) e = refl

one_broken : (q : Option Term) (qs : Option (List Term)) → false ≡ is_some q → false ≡ is_some (cons_some q qs)
one_broken none qs e = refl
one_broken (some t) qs e = absurd (cc)

module _ (p : Past) where
  -- the place is there where the term is
  there : (number : ℕ) → is_some (premise_place (earlier_told p) number) ≡ is_some (premise_at (earlier_told p) (kept_terms p.terms) number)
  there number = go (premise_place (earlier_told p) number) refl
    where
      go : (q : Option ℕ) → premise_place (earlier_told p) number ≡ q → is_some q ≡ is_some (premise_at (earlier_told p) (kept_terms p.terms) number)
      go none e = sym (ap is_some (broken_tree _ _ _ _ _ p.noted.store number number none (sym e) refl refl))
      go (some x) e = sym (ap is_some (standing_tree _ _ _ _ _ p.noted.store number number (some x) (sym e) refl refl))

  module _ {F : Type 0} (g : Mut F (ℕ × Unit {0}) Bool) (f : F) where
    -- a call leaves the test as it is, and says what it tests
    abbrev pub Tests : Type 0
    Tests = (x : ℕ) (b : Bool) (q : F) → Called g f (x, tt) b q → (q ≡ f) × (b ≡ is_some (premise_place (earlier_told p) x))

  module _ {F : Type 0} {g : Mut F (ℕ × Unit {0}) Bool} {f : F} (k : Tests g f) where
    abbrev Left : Bool → Numbers → Type 0
    Left whole s = whole ≡ all_there (earlier_told p) (kept_terms p.terms) (numbers_left s)

    passed : {whole : Bool} (xs : List ℕ) (s t : Numbers) {q : F} → Left whole s → Yields (YieldsFirst numbers_left) s xs t
        → FoldsTo (λ p x q. Called g p (x, tt) true q) f xs q → Left whole t × (q ≡ f)
    passed {whole} [] s t w y e = (subst (Left whole) y w, sym e)
    passed (x ∷ xs) s t {q = r} w (j, v, y) (m, c, e) =
        let h = k x true m c in
        passed xs j t (w ∙ ap (all_there (earlier_told p) (kept_terms p.terms)) v ∙ one_there _ _ (h.1 ∙ there x)) y
        (subst (λ (z : F). FoldsTo (λ p x q. Called g p (x, tt) true q) z xs r) h.0 e)

    pub every : {b whole : Bool} (s u : Numbers) → Left whole s → ChecksAll (YieldsFirst numbers_left) g s f b u → b ≡ whole
    every s u w (xs, none, q, (t, y, v), e, h) =
        let r = passed xs s t w y e in
        h ∙ sym (r.0 ∙ ap (all_there (earlier_told p) (kept_terms p.terms)) v.0)
    every s u w (xs, some x, q, (t, y, v), e, (h, (m, c))) =
        let r = passed xs s t w y e in
        let d = k x false m (subst (λ (z : F). Called g z (x, tt) false m) r.1 c) in
        h ∙ one_broken _ _ (d.1 ∙ there x) ∙ sym (r.0 ∙ ap (all_there (earlier_told p) (kept_terms p.terms)) v)
