use mathlib.Core.Path.{refl}
use Rattle.words.proofs.WordLaws.{same_said}
use Rattle.names.proofs.MarkLaws.{some_word, word_tested}
use Rattle.names.proofs.marks.word_after.Goals as goal

pub returns : goal.returns
returns c =
    word_tested c.args.wanted.now c.args.line.now (some_word _ c.first_word.ensures c.in_ok-word.was) c.in_ok-word.rest refl _
    (same_said c.in_ok-word.word.now c.args.wanted.now c.eq.ensures) c.then_some.ensures
