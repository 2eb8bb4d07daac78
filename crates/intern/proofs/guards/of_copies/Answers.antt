-- `of_copies`: k times the width is a width.
use mathlib.Core.Path.{ap}
use mathlib.Core.Bool.{◌&&◌}
use Prim.Native.Nat.{◌*◌}
use native.Mathlib.Omega.{arith}
use Rattle.theory.specs.Sort.{bv, is_bv_sort, sort_width, is_width}
use Rattle.store.specs.Sorts.{sort_read}
use Rattle.intern.proofs.Guarding.{fails, copies_many}
use Rattle.intern.proofs.guards.of_copies.Goals as goal

pub returns-then-k-gt-MAX_WIDTH : goal.returns-then-k-gt-MAX_WIDTH
returns-then-k-gt-MAX_WIDTH c = let a = c.args in let s = sort_read a.s in
    fails (is_bv_sort s && is_width (a.k * sort_width s)) (bv (a.k * sort_width s)) (copies_many a.k (ap sort_read c.in-Bv.is) (omega arith))
