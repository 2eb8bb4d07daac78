-- Whether the kind of the term at a place is refused.
use mathlib.Core.Path.{◌≡◌, refl, sym, ap, subst, ◌∙◌}
use mathlib.Core.Bool.{Bool, false, ◌||◌}
use mathlib.Core.List.{[], ◌∷◌}
use Prim.Native.Nat.{ℕ, ◌<◌}
use native.Mathlib.Omega.{arith}
use lib.Dec.{T}
use Rattle.theory.specs.Term.{fold}
use Rattle.theory.specs.Sort.{Sort, bool, sort_of, same_sort}
use Rattle.theory.specs.Record.{Bytes}
use Rattle.theory.specs.Codes.{all_below}
use Rattle.theory.proofs.Basics.{true_T}
use Rattle.theory.specs.Places.{tree_at, tree_of}
use Rattle.terms.specs.declared.Term.{Term as Decoded}
use Rattle.terms.specs.declared.Term.TheVariants as D
use Rattle.terms.specs.Decoded.{op_of, arguments_of}
use Rattle.store.specs.contracts.sorts.SortPartialEq.TheImpl as Derived
use Rattle.store.specs.declared.sorts.Sort.{Sort as Read}
use Rattle.store.specs.declared.sorts.Sort.TheVariants as S
use Rattle.store.specs.Sorts.{sort_read}
use Rattle.store.specs.Store.{listed}
use Rattle.store.specs.Shelf.{TermOn}
use Rattle.evaluation.proofs.ListLaws.{below_at}
use Rattle.ternary.specs.Bits.{bit_kind_in}

-- ---- the kind of the term at a place
is_bool : (s : Read) → (Derived.ghosts).eq s S.Bool ≡ same_sort (sort_read s) bool || false
is_bool S.Bool = refl
is_bool (S.Bv n) = refl

module _ {job work : Bytes} {n place : ℕ} {t : Decoded} (h : TermOn job work n place t) where
  kind_at : (u : Decoded) → t ≡ u → {b : Bool} → b ≡ bit_kind_in (tree_of (listed job work n) (op_of u) (arguments_of job u)) → b ≡ bit_kind_in (tree_at (listed job work n) place)
  kind_at u e f = f ∙ sym (ap bit_kind_in (h.term_at.made ∙ ap (λ (z : Decoded). tree_of (listed job work n) (op_of z) (arguments_of job z)) e))

  pub equals_low : (x y : ℕ) → t ≡ D.Equals x y → x < place
  equals_low x y e = below_at place (x ∷ y ∷ []) 0 (subst (λ (z : Decoded). T (all_below place (arguments_of job z))) e (true_T _ h.term_at.below)) (omega arith)

  pub kind_equals : (x y : ℕ) → t ≡ D.Equals x y → (s : Read) → sort_read s ≡ sort_of (tree_at (listed job work n) x) → {b : Bool} → b ≡ (Derived.ghosts).eq s S.Bool → b ≡ bit_kind_in (tree_at (listed job work n) place)
  unfolding fold
  kind_equals x y e s f g = kind_at (D.Equals x y) e (g ∙ is_bool s ∙ ap (λ (r : Sort). same_sort r bool || false) f)
