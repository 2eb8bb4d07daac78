-- Laws of tables of words.
use mathlib.Core.Path.{◌≡◌, refl, sym, ap, ap₂, ◌∙◌}
use mathlib.Core.Bool.{Bool, true, false, cond}
use mathlib.Core.List.{List, [], ◌∷◌, map}
use Rattle.std.specs.Prelude.{Option, None as none, Some as some, option_map}
use Prim.Native.Nat.{ℕ, ◌+◌, ◌<◌}
use native.Mathlib.Numerals.{add-one}
use lib.Dec.{eqb}
use lib.ListN.{length, drop, get_or}
use lib.Seq.{drop-cons}
use Rattle.std.specs.Borrow.{Bor}
use Rattle.std.specs.Cmp.Lexicographic.{pointwise}
use Rattle.theory.specs.Term.{same_numbers}
use Rattle.theory.specs.Record.{Bytes}
use Rattle.terms.specs.declared.kind.Kind.{Kind}
use Rattle.terms.specs.Numbered.{shape}
use Rattle.text.specs.Spelling.{Spelled, named, kind_names}
use Rattle.words.specs.Tables.{Beside, beside}
use Rattle.words.proofs.WordLaws.{same_said}

-- the first value beside a word
first_beside : {A : Type 0} → Bytes → List Bytes → List (Option A) → Option A
first_beside w [] qs = none
first_beside w (n ∷ ns) [] = none
first_beside w (n ∷ ns) (q ∷ qs) = cond (same_numbers w n) q (first_beside w ns qs)

under : {A B : Type 0} (f : A → B) (b : Bool) (a : A) (p : Option A) → option_map f (cond b (some a) p) ≡ cond b (some (f a)) (option_map f p)
under f true a p = refl
under f false a p = refl

in_table : {A B : Type 0} (f : A → B) (w : Bytes) (rs : List (Bor Bytes × A))
    → option_map f (beside w rs) ≡ first_beside w (map (λ r. r.0.now) rs) (map (λ r. some (f r.1)) rs)
unfolding first_beside
in_table f w [] = refl
in_table f w (r ∷ rs) = under f (same_numbers w r.0.now) r.1 (beside w rs) ∙ ap (cond (same_numbers w r.0.now) (some (f r.1))) (in_table f w rs)

in_names : {A : Type 0} (w : Bytes) (rs : List (Spelled A)) → named w rs ≡ first_beside w (map (λ r. r.name) rs) (map (λ r. some r.names) rs)
unfolding first_beside
in_names w [] = refl
in_names w (r ∷ rs) = ap (cond (same_numbers w r.name) (some r.names)) (in_names w rs)

-- ---- the walk over a table
module _ {A : Type 0} (w : Bytes) (rs : List (Bor Bytes × A)) (i : ℕ) (leads : beside w (drop i rs) ≡ beside w rs) (inside : i < length rs)
    {r : Bor Bytes × A} (here : r ≡ get_or rs i r) where
  at_row : beside w rs ≡ cond (same_numbers w r.0.now) (some r.1) (beside w (drop (i + 1) rs))
  at_row =
      let e : drop i rs ≡ r ∷ drop (i + 1) rs = drop-cons rs i r inside ∙ ap₂ (λ (x : Bor Bytes × A) (j : ℕ). x ∷ drop j rs) (sym here) (sym (add-one i)) in
      sym leads ∙ ap (beside w) e

  pub beside_found : true ≡ pointwise eqb w r.0.now → Beside w rs (some r.1)
  beside_found e = record { is = sym (at_row ∙ rw (same_said w r.0.now e)) }

  pub beside_on : false ≡ pointwise eqb w r.0.now → beside w (drop (i + 1) rs) ≡ beside w rs
  beside_on e = sym (at_row ∙ rw (same_said w r.0.now e))

-- a table with the kinds' names and shapes
pub kind_said : {rs : List (Bor Bytes × Kind)} {w : Bytes} {r : Option Kind} → Beside w rs r → map (λ r. r.0.now) rs ≡ map (λ r. r.name) kind_names
    → map (λ r. some (shape r.1)) rs ≡ map (λ r. some r.names) kind_names → option_map shape r ≡ named w kind_names
kind_said {rs} {w} b n s = ap (option_map shape) b.is ∙ in_table shape w rs ∙ ap₂ (first_beside w) n s ∙ sym (in_names w kind_names)
