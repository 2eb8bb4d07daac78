-- Document 01, "The job": the depth of a term.
use Rattle.std.specs.Prelude.{Bool, ◌&&◌, ◌||◌, cond, ℕ, suc, max, eqb}
use Rattle.theory.specs.Kind.{Op, Not, And, Or, Xor, Equals, Ite, BvBbTerm, kind}
use Rattle.theory.specs.Term.{Term, Terms, node, nil, cons}
use Rattle.theory.specs.Sort.{Sort, bool, first, same_sort, sorts_of}

-- the gates: Not, And, Or, Xor, Ite, and Equals where its first argument's sort, s, is Bool
abbrev pub gate_kind : ℕ → Sort → Bool
gate_kind k s =
    eqb k (kind Not) || eqb k (kind And) || eqb k (kind Or) || eqb k (kind Xor)
    || eqb k (kind Ite) || (eqb k (kind Equals) && same_sort s bool)

-- one more than the deepest argument; the deepest argument for BvBbTerm; 0 elsewhere
abbrev pub depth_op : Op → Sort → ℕ → ℕ
depth_op o s deepest = cond (gate_kind (kind o) s) (suc deepest) (cond (eqb (kind o) (kind BvBbTerm)) deepest 0)

unfoldable mutual
  -- of a term
  pub depth : Term → ℕ
  depth (node o ts) = depth_op o (first (sorts_of ts)) (deepest ts)

  -- of the deepest of some terms
  pub deepest : Terms → ℕ
  deepest nil = 0
  deepest (cons t ts) = max (depth t) (deepest ts)
