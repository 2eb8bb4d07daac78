-- `opening_fault`: the place, the kind and the length of the record.
use mathlib.Core.Path.{sym, ◌∙◌}
use native.Mathlib.Omega.{arith}
use Rattle.terms.specs.Framing.{record_at}
use Rattle.terms.proofs.Reading.{stands, kind_there}
use Rattle.records.proofs.StepTests.{opening_other, opening_body, opening_none, body_length}
use Rattle.records.proofs.opening_fault.Goals as goal

pub returns-then-number-from : goal.returns-then-number-from
returns-then-number-from c =
    opening_other c.args.place (record_at c.args.here.now.job.now c.args.here.now.at) c.if-place-ne0.false
    (λ e. c.if-number-from.true (sym (kind_there (stands c.args.here.now.job.now c.args.here.now.at c.requires) c.number.ensures.value) ∙ e ∙ sym c.from.ensures))

pub returns-then-number-ne-NUMBER_BYTES : goal.returns-then-number-ne-NUMBER_BYTES
returns-then-number-ne-NUMBER_BYTES c =
    let s = stands c.args.here.now.job.now c.args.here.now.at c.requires in
    let low = s.low in
    opening_body c.args.place (record_at c.args.here.now.job.now c.args.here.now.at) c.if-place-ne0.false (kind_there s c.number.ensures.value ∙ c.if-number-from.false ∙ c.from.ensures)
    (λ e. c.if-number-ne-NUMBER_BYTES.true (omega (arith, e, body_length c.args.here.now.job.now c.args.here.now.at c.number-2.result c.requires c.number-2.ensures.value, c.number-2.ensures.value)))

pub returns : goal.returns
returns c =
    opening_none c.args.place (record_at c.args.here.now.job.now c.args.here.now.at) c.if-place-ne0.false
    (kind_there (stands c.args.here.now.job.now c.args.here.now.at c.requires) c.number.ensures.value ∙ c.if-number-from.false ∙ c.from.ensures)
    (body_length c.args.here.now.job.now c.args.here.now.at _ c.requires c.number-2.ensures.value ∙ omega (arith, c.if-number-ne-NUMBER_BYTES.false))
