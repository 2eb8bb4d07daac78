-- `Term::read`: the job's number length is one of those that `read_as` is proved for.
use mathlib.Core.Path.{subst, sym}
use Rattle.terms.specs.Bodies.{Length}
use Rattle.terms.proofs.Numbers.{length_of}
use Rattle.terms.proofs.Term.read.Goals as goal

pub read_as-requires : goal.read_as-requires
read_as-requires c = record { whole = c.requires; sized = subst Length (sym c.number_length.ensures) (length_of c.args.job.now) }
