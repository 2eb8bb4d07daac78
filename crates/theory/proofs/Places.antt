-- The plain list: the terms at places that are there.
use mathlib.Core.Path.{◌≡◌, refl, ap, ap₂}
use mathlib.Core.List.{List, [], ◌∷◌, ◌++◌, map}
use Rattle.std.specs.Prelude.{None as none, Some as some}
use Prim.Native.Nat.{ℕ, zero, suc, ◌<◌, ◌≤◌}
use native.Mathlib.Omega.{arith}
use lib.Dec.{T, ltb, ltb→lt, lt→ltb}
use lib.Ieee.Fits.{and_l, and_r, and_i}
use lib.ListN.{length, get_or-append}
use Rattle.theory.specs.Kind.{Op, True}
use Rattle.theory.specs.Term.{Term, node, nil, from_list}
use Rattle.theory.specs.Optional.{either, cons_some}
use Rattle.theory.specs.Plain.{Entry, entry, Plain, at_place, at_places, term_of}
use Rattle.theory.specs.Codes.{all_below}
pub use Rattle.theory.specs.Places.{entry_at, tree_at, tree_of}
use Rattle.theory.proofs.Basics.{none_some, some_inj, get_elem_of}

pub at_place_is : (list : Plain) (i : ℕ) → i < length list → at_place list i ≡ some (tree_at list i)
at_place_is list i h = ap (either none (λ (e : Entry). some e.tree)) (get_elem_of list i (entry (node True nil) []) h)

pub term_there : (list : Plain) (i : ℕ) (t : Term) → at_place list i ≡ some t → (i < length list) × (tree_at list i ≡ t)
term_there [] i t e = absurd (none_some t e)
term_there (d ∷ list) zero t e = (omega arith, some_inj d.tree t e)
term_there (d ∷ list) (suc i) t e = let h = term_there list i t e in (omega (arith, h.0), h.1)

pub at_places_are : (list : Plain) (ks : List ℕ) → T (all_below (length list) ks) → at_places list ks ≡ some (map (tree_at list) ks)
at_places_are list [] h = refl
at_places_are list (k ∷ ks) h =
    ap₂ cons_some (at_place_is list k (ltb→lt k (length list) (and_l (ltb k (length list)) _ h)))
    (at_places_are list ks (and_r (ltb k (length list)) _ h))

pub term_of_is : (list : Plain) (o : Op) (ks : List ℕ) → T (all_below (length list) ks) → term_of list o ks ≡ some (tree_of list o ks)
term_of_is list o ks h = ap (either none (λ (ts : List Term). some (node o (from_list ts)))) (at_places_are list ks h)

-- ---- a longer list has the same terms at the old places
pub tree_at_old : (list more : Plain) (k : ℕ) → k < length list → tree_at (list ++ more) k ≡ tree_at list k
tree_at_old list more k h = ap (λ (e : Entry). e.tree) (get_or-append list more (entry (node True nil) []) k h)

pub trees_old : (list more : Plain) (n : ℕ) → n ≤ length list → (ks : List ℕ) → T (all_below n ks)
    → map (tree_at (list ++ more)) ks ≡ map (tree_at list) ks
trees_old list more n h [] b = refl
trees_old list more n h (k ∷ ks) b =
    let l = ltb→lt k n (and_l (ltb k n) _ b) in
    ap₂ (λ (x : Term) (xs : List Term). x ∷ xs) (tree_at_old list more k (omega arith)) (trees_old list more n h ks (and_r (ltb k n) _ b))

pub more_below : (m n : ℕ) → m ≤ n → (ks : List ℕ) → T (all_below m ks) → T (all_below n ks)
more_below m n h [] b = tt
more_below m n h (k ∷ ks) b =
    let l = ltb→lt k m (and_l (ltb k m) _ b) in
    and_i (ltb k n) (all_below n ks) (lt→ltb k n (omega arith)) (more_below m n h ks (and_r (ltb k m) _ b))
