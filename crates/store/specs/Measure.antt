-- The measure of a term: the one number that its row keeps. No term needs both its depth and its width to be kept: the gates are Bools, the
-- width of a BvBbTerm is the number of its arguments, and any other term has depth 0.
use Rattle.std.specs.Prelude.{◌≡◌, Bool, ◌&&◌, ◌||◌, cond, ℕ, ◌-◌, ◌/◌, leb, eqb}
use Rattle.std.specs.Prelude.{Option, None as none, Some as some}
use Rattle.theory.specs.Limit.{number_bytes}
use Rattle.theory.specs.Kind.{Not, Ite, BvBbTerm, kind}
use Rattle.theory.specs.Term.{Term, node}
use Rattle.theory.specs.Sort.{bool, same_sort, sort_of, sort_width}
use Rattle.theory.specs.Depth.{depth}
use Rattle.terms.specs.declared.kind.Kind.{Kind}
use Rattle.terms.specs.Numbered.{number_of}

-- the kind that has a number
abbrev pub KindNumbered : ℕ → Option Kind → Type 0
KindNumbered n none = (k : Kind) → number_of k ≡ n → ⊥
KindNumbered n (some k) = number_of k ≡ n

-- the kinds from Not to Ite
abbrev pub is_gate : ℕ → Bool
is_gate k = leb (kind Not) k && leb k (kind Ite)

-- the kinds that have a depth
abbrev pub has_depth : ℕ → Bool
has_depth k = is_gate k || eqb k (kind BvBbTerm)

-- the depth of such a term, the width of any other
unfoldable pub measure : Term → ℕ
measure (node o ts) = cond (has_depth (kind o)) (depth (node o ts)) (sort_width (sort_of (node o ts)))

-- the same by the kind, the depth and the width
unfoldable pub measure_in : ℕ → ℕ → ℕ → ℕ
measure_in k d w = cond (has_depth k) d w

-- the depth that a row says, by its record's kind and its measure
unfoldable pub depth_in : ℕ → ℕ → ℕ
depth_in k m = cond (has_depth k) m 0

-- the width, by the record's kind and length too, where numbers of terms have b bytes
unfoldable pub width_in : ℕ → ℕ → ℕ → ℕ → ℕ
width_in b k size m = cond (is_gate k) 0 (cond (eqb k (kind BvBbTerm)) ((size - number_bytes) / b) m)

-- the depth of a term where it is a Bool
unfoldable pub bool_depth : Term → Option ℕ
bool_depth t = cond (same_sort bool (sort_of t)) (some (depth t)) none

-- the same, by the record's kind and the measure
unfoldable pub bool_in : ℕ → ℕ → Option ℕ
bool_in k m = cond (is_gate k) (some m) (cond (eqb k (kind BvBbTerm)) none (cond (eqb m 0) (some 0) none))
