-- The invariant: what is counted, with the answers that are left, is the whole count.
use Rattle.std.specs.Iterator.Adapters.{take_source, take_count}
use Rattle.std.specs.Slice.Iter.{chunks_exact_rest, chunks_exact_size}
use Rattle.theory.specs.Tally.{how_many}
use Rattle.tally.specs.Counted.{belongs}
use Rattle.tally.specs.Listed.{listed}
use Rattle.tally.proofs.Counting.{Counted}
use Rattle.tally.proofs.WholeAnswers.of.Given as goal

abbrev pub invariant-loop-answer : goal.invariant-loop-answer
invariant-loop-answer l =
    let chunks = take_source l.answer-iterator in
    Counted l.self.bytes (belongs l.class) (how_many (belongs l.class) (listed l.self)) l.self.count l.n (take_count l.answer-iterator) (chunks_exact_size chunks) (chunks_exact_rest chunks)
