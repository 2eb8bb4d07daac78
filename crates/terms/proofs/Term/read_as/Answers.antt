-- `Term::read_as`: the numbers that were read are the length and the kind of the record, and the body is the rest of it.
use mathlib.Core.Path.{◌∙◌}
use borrow.Author.Rules.{rules}
use Rattle.terms.specs.Framing.{record_at}
use Rattle.terms.proofs.Reading.{stands, kind_there, body_there, read_as_step, read_as_back, read_as_chain, read_as_term}
use Rattle.terms.proofs.Term.read_as.Goals as goal

pub returns-in-100 : goal.returns-in-100
returns-in-100 c = let a = c.args in let s = (stands c.args.job.now c.args.at c.requires.whole) in let e = c.read_step.ensures in
    record { says = e.says ∙ read_as_step a.bytes (record_at a.job.now a.at) (body_there s c.number.ensures.value) (kind_there s c.number-2.ensures.value ∙ c.in-100.is); placed = e.placed }

pub returns-in-101 : goal.returns-in-101
returns-in-101 c = let a = c.args in let s = (stands c.args.job.now c.args.at c.requires.whole) in let e = c.read_back.ensures in
    record { says = e.says ∙ read_as_back a.bytes (record_at a.job.now a.at) (body_there s c.number.ensures.value) (kind_there s c.number-2.ensures.value ∙ c.in-101.is); placed = e.placed }

pub returns-in-104 : goal.returns-in-104
returns-in-104 c = let a = c.args in let s = (stands c.args.job.now c.args.at c.requires.whole) in let e = c.read_chain.ensures in
    record { says = e.says ∙ read_as_chain a.bytes (record_at a.job.now a.at) (body_there s c.number.ensures.value) (kind_there s c.number-2.ensures.value ∙ c.in-104.is); placed = e.placed }

pub returns-in_default : goal.returns-in_default
returns-in_default c = let a = c.args in let s = (stands c.args.job.now c.args.at c.requires.whole) in let e = c.read_term.ensures in
    record { says = e.says ∙ read_as_term a.bytes (record_at a.job.now a.at) (body_there s c.number.ensures.value) (kind_there s c.number-2.ensures.value) (search rules) (search rules) (search rules); placed = e.placed }
