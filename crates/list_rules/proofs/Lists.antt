-- What a check knows of its argument list: each argument, the common width, and the expected term.
use mathlib.Core.Path.{◌≡◌, sym, ◌∙◌}
use mathlib.Core.List.{List, [], ◌∷◌, map, foldl}
use Prim.Native.Nat.{ℕ, suc, ◌<◌, ◌≤◌}
use native.Mathlib.Omega.{arith}
use lib.ListN.{length, get_or, length-map}
use Rattle.theory.specs.Term.{Term}
use Rattle.theory.specs.Bits.{bb, get_term_bits}
use Rattle.terms.specs.declared.Args.{Args}
use Rattle.store.specs.declared.gates.Kept.{Kept}
use Rattle.store.specs.Kept.{kept_terms, kept_term, kept_number}
use Rattle.store.proofs.Keeping.{store_of}
use Rattle.store.proofs.Claims.{own_number}
use Rattle.operand_rules.specs.Rules.{Operand}
use Rattle.operand_rules.proofs.Numbers.{few, there}
use Rattle.list_rules.specs.Lists.{Alike, Many, argument, next_bits, folded_bits}

module _ {k : Kept} {w : ℕ} {a : Args} (given : Alike k a w) where
  -- there is a first one
  pub first_of : Operand k (argument k a 0) w
  first_of = given.each 0 given.some

module _ {k : Kept} {claim : ℕ} {a : Args} (given : Many k a claim) {x : ℕ} (e : x ≡ argument k a 0) where
  -- it is the number of the first argument's term
  pub first_number : x ≡ kept_number k (kept_term k (argument k a 0))
  first_number =
      let o = first_of given.alike in
      e ∙ sym (own_number (kept_terms k) (store_of k).well (few k) (argument k a 0) (there k o.there))

module _ (expected : List Term → Term) (f : ℕ → Term) (ks : List ℕ) {least : ℕ} (some : 1 ≤ length ks) where
  -- so few arguments are one, and expected as it is
  pub alone_from : ((t : Term) (ts : List Term) → suc (length ts) < least → expected (t ∷ ts) ≡ t) → length ks < least → expected (map f ks) ≡ f (get_or ks 0 0)
  alone_from alone l = go ks some l
    where
      go : (js : List ℕ) → 1 ≤ length js → length js < least → expected (map f js) ≡ f (get_or js 0 0)
      go [] s h = absurd (omega arith)
      go (j ∷ js) s h = alone (f j) (map f js) (let n = length-map js f in omega (arith, h, n))

  -- so many are expected as the term of their bits
  pub folded_from : (circuit : List Term → List Term → List Term)
      → ((t : Term) (ts : List Term) → least ≤ suc (length ts) → expected (t ∷ ts) ≡ bb (foldl (next_bits circuit) (get_term_bits t) ts))
      → least ≤ length ks → expected (map f ks) ≡ bb (folded_bits circuit (map f ks))
  unfolding folded_bits
  folded_from circuit enough l = go ks some l
    where
      go : (js : List ℕ) → 1 ≤ length js → least ≤ length js → expected (map f js) ≡ bb (folded_bits circuit (map f js))
      go [] s h = absurd (omega arith)
      go (j ∷ js) s h = enough (f j) (map f js) (let n = length-map js f in omega (arith, h, n))
