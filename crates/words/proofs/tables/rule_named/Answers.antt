use Rattle.text.specs.Spelling.{rule_number}
use Rattle.words.proofs.tables.rule_named.Goals as goal

pub returns : goal.returns
unfolding rule_number
returns c = c.beside.ensures.is
