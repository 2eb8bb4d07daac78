use mathlib.Core.List.{List}
use mathlib.Core.Path.{ap, ◌∙◌}
use Prim.Native.Nat.{ℕ, ◌+◌}
use native.Mathlib.Omega.{arith}
use lib.ListN.{set, get_or}
use Rattle.writer.proofs.PlaceLaws.{copy_turn}
use borrow.Author.Rules.{rules}
use Rattle.writer.proofs.places.copy.Goals as goal

pub loop-i-preserved : goal.loop-i-preserved
loop-i-preserved c = (search rules, search rules, ap (λ (x : List ℕ). set x (c.args.at + c.loop-i.i) (get_or c.args.bytes.now c.loop-i.i 0)) c.loop-i.invariant.2 ∙ copy_turn c.args.out.now c.args.bytes.now c.args.at c.loop-i.i (omega arith))
