-- Document 01, "The job": terms as trees, and the test for one tree.
use Rattle.std.specs.Prelude.{Bool, true, false, ◌&&◌, List, [], ◌∷◌, ℕ, eqb}
use Rattle.theory.specs.Kind.{Op, kind, indices}

-- a term is a kind and its arguments; `Terms` is a list of them
mutual
  pub data Term : Type 0 where
    node : Op → Terms → Term

  pub data Terms : Type 0 where
    nil : Terms
    cons : Term → Terms → Terms

-- a fold of a term: its sort and its value are folds
module _ {A : Type 0} (alg : Op → List A → A) where
  unfoldable mutual
    pub fold : Term → A
    fold (node o ts) = alg o (folds ts)

    pub folds : Terms → List A
    folds nil = []
    folds (cons t ts) = fold t ∷ folds ts

-- a term's arguments as a list, and back
abbrev pub to_list : Terms → List Term
to_list nil = []
to_list (cons t ts) = t ∷ to_list ts

-- a list as a term's arguments
abbrev pub from_list : List Term → Terms
from_list [] = nil
from_list (t ∷ ts) = cons t (from_list ts)

-- a term of two arguments
abbrev pub two : Op → Term → Term → Term
two o x y = node o (cons x (cons y nil))

-- the two lists are one
abbrev pub same_numbers : List ℕ → List ℕ → Bool
same_numbers [] [] = true
same_numbers [] (y ∷ ys) = false
same_numbers (x ∷ xs) [] = false
same_numbers (x ∷ xs) (y ∷ ys) = eqb x y && same_numbers xs ys

-- one kind, with the same numbers in it
unfoldable pub same_op : Op → Op → Bool
same_op o p = eqb (kind o) (kind p) && same_numbers (indices o) (indices p)

-- the same kind and the same arguments
unfoldable mutual
  pub same_term : Term → Term → Bool
  same_term (node o ts) (node p us) = same_op o p && same_terms ts us

  pub same_terms : Terms → Terms → Bool
  same_terms nil nil = true
  same_terms nil (cons u us) = false
  same_terms (cons t ts) nil = false
  same_terms (cons t ts) (cons u us) = same_term t u && same_terms ts us
