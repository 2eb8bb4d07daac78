use Rattle.std.specs.Iterator.Adapters.{rev_source}
use Rattle.terms.specs.Numbers.{numbers_left}
use Rattle.store.specs.Kept.{words_of}
use Rattle.slice_rules.proofs.Copying.{Joining}
use Rattle.slice_rules.proofs.parts.concat_check.Given as goal

abbrev pub invariant-loop-x : goal.invariant-loop-x
invariant-loop-x l = Joining l.kept (words_of l.kept l.fn.list) l.bits.items (numbers_left (rev_source l.x-iterator))
