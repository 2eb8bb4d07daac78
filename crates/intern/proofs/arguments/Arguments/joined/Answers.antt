-- `joined`: the sum of the widths is what was summed and what is left from i on (Arguing, `Summing`).
use mathlib.Core.Path.{ap}
use native.Mathlib.Omega.{arith}
use Rattle.store.specs.Sorts.{sort_read}
use Rattle.intern.proofs.Guarding.{no_bits}
use Rattle.intern.proofs.Arguing.{sum_no_bv, sum_wide}
use Rattle.intern.proofs.arguments.Arguments.joined.Goals as goal

pub returns-in_default : goal.returns-in_default
returns-in_default c = sum_no_bv c.loop-i.invariant (omega (arith, c.count-i-end.ensures, c.loop-i-test.true)) c.sort.ensures (no_bits c.sort.result c.in_default.not-Bv)

pub returns-then-sum-w : goal.returns-then-sum-w
returns-then-sum-w c = sum_wide c.loop-i.invariant (omega (arith, c.count-i-end.ensures, c.loop-i-test.true)) c.sort.ensures (ap sort_read c.in-Bv.is) c.if-sum-w.true
