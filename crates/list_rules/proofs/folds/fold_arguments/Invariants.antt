use Rattle.std.specs.Prelude.{◌≤◌, length}
use Rattle.terms.specs.Numbers.{numbers_left}
use Rattle.store.specs.Kept.{words_of}
use Rattle.list_rules.proofs.Folding.{Folding}
use Rattle.list_rules.proofs.folds.fold_arguments.Given as goal

abbrev pub invariant-loop-x : goal.invariant-loop-x
invariant-loop-x g l =
    (length l.bits.items ≤ l.w) × Folding l.kept g.O.Operation.circuit l.w (words_of l.kept l.fn.list) l.bits.items (numbers_left l.x-iterator)
