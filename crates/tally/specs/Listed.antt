-- The answers that are counted, as the code holds them.
use Rattle.std.specs.Prelude.{List}
use Rattle.theory.specs.Answer.{Answer, decode_answers}
use Rattle.tally.specs.declared.WholeAnswers.{WholeAnswers}

abbrev pub listed : WholeAnswers → List Answer
listed a = decode_answers a.bytes a.count a.memory.now
