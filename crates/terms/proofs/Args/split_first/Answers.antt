use Rattle.terms.proofs.Lists.{first_of}
use Rattle.terms.proofs.Args.split_first.Goals as goal

pub returns-clause-numbers : goal.returns-clause-numbers
returns-clause-numbers c = first_of c.args.job.now c.args.self c.requires.some c.argument.ensures
