use mathlib.Core.Path.{sym, ap, ◌∙◌}
use Rattle.names.specs.Kinds.{op_of}
use Rattle.text.specs.Writing.{placed_all, put_term}
use Rattle.writer.specs.Written.{job_of, room}
use Rattle.writer.proofs.PlaceLaws.{kind_high}
use Rattle.writer.proofs.PutLaws.{term_lone, term_low, put_record}
use Rattle.writer.proofs.places.Writer.put_term.Goals as goal

pub keep-requires : goal.keep-requires
keep-requires c =
    let is = c.as_slice.ensures.value ∙ c.encode.ensures in
    record { lone = term_lone _ _ c.requires.few is; low = term_low _ _ c.requires.few is }

pub returns-clause-puts : goal.returns-clause-puts
returns-clause-puts c =
    c.keep.ensures.puts ∙ put_record _ _ _ _ (kind_high c.in-Of.kind c.in-Of.x c.in-Of.y) c.type_inv.numbers (c.as_slice.ensures.value ∙ c.encode.ensures)
    ∙ sym (ap (λ o. put_term (room c.args.self.now) (op_of o) (placed_all c.args.numbers.now (job_of c.args.self.now))) c.in-Of.is)
