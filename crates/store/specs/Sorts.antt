-- Sorts as the code has them; the arguments of a term, with their sorts and depths.
use Rattle.std.specs.Prelude.{◌≡◌, true, List, map, ℕ, ◌+◌}
use Rattle.std.specs.Prelude.{Option, None as none, Some as some}
use Rattle.theory.specs.Limit.{first_terms}
use Rattle.theory.specs.Term.{from_list}
use Rattle.theory.specs.Sort.{sort_of}
use Rattle.theory.specs.Sort as S
use Rattle.theory.specs.Depth.{deepest}
use Rattle.theory.specs.Record.{Bytes}
use Rattle.theory.specs.Plain.{Plain}
use Rattle.theory.specs.Codes.{all_below}
use Rattle.theory.specs.Places.{tree_at}
use Rattle.terms.specs.declared.Operands.{Operands}
use Rattle.terms.specs.declared.Operands.TheVariants.{None, One, Two, Three, List as Listed}
use Rattle.terms.specs.Decoded.{OperandsPlaced, numbers_of}
use Rattle.store.specs.Store.{Store}
use Rattle.store.specs.declared.sorts.Sort.{Sort}
use Rattle.store.specs.declared.sorts.Sort.TheVariants.{Bool, Bv}

-- the sort that a case stands for
abbrev pub sort_read : Sort → S.Sort
sort_read Bool = S.bool
sort_read (Bv n) = S.bv n

-- the same of what may have no sort
abbrev pub sort_or_bad : Option Sort → S.Sort
sort_or_bad none = S.bad
sort_or_bad (some s) = sort_read s

-- the sorts of the terms at these places
abbrev pub sorts_at : Plain → List ℕ → List S.Sort
sorts_at list ks = map (λ (k : ℕ). sort_of (tree_at list k)) ks

-- the depth of the deepest of them
abbrev pub deepest_at : Plain → List ℕ → ℕ
deepest_at list ks = deepest (from_list (map (tree_at list) ks))

-- how many arguments there are
abbrev pub count_of : Operands → ℕ
count_of None = 0
count_of (One x) = 1
count_of (Two x y) = 2
count_of (Three x y z) = 3
count_of (Listed a) = a.count

-- the arguments of a term that may be kept: they can be read in the job, and each is the number of a kept term
pub record Arguments (job work : Bytes) (n : ℕ) (ops : Operands) : Type 0 where
  pub store : Store job work n
  pub placed : OperandsPlaced job ops
  pub below : all_below (first_terms + n) (numbers_of job ops) ≡ true
