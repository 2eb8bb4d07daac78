use mathlib.Core.Path.{ap, ◌∙◌}
use Prim.Native.Nat.{ℕ, ◌*◌, ◌/◌, ◌%◌, ◌^◌}
use Rattle.evaluation.specs.Cells.{digit, lane_at}
use Rattle.evaluation.proofs.cells.lane.Goals as goal

pub returns : goal.returns
unfolding lane_at digit
returns c = c.low.ensures ∙ ap (λ (x : ℕ). x / 2 ^ (c.args.w * c.args.j) % 2 ^ c.args.w) c.cell.ensures
