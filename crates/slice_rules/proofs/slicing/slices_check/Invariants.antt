use Rattle.store.specs.Kept.{words_of}
use Rattle.terms.specs.Numbers.{numbers_left}
use Rattle.slice_rules.proofs.SliceLaws.{Slicing}
use Rattle.slice_rules.proofs.slicing.slices_check.Given as goal

abbrev pub invariant-loop-x : goal.invariant-loop-x
invariant-loop-x l = Slicing l.kept l.a l.c (words_of l.kept l.fn.list) l.done (numbers_left l.x-iterator)
