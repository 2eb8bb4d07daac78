use mathlib.Core.Path.{ap, sym, ◌∙◌}
use Rattle.std.specs.Option.{unwrap_or}
use Rattle.std.proofs.lemmas.Option.{unwrap_or-slice_get}
use Rattle.theory.specs.Circuit.{last}
use Rattle.theory.proofs.Indexed.{cond_true, cond_false}
use Rattle.circuits.proofs.AppendLaws.{top_bit}
use Rattle.shift_circuits.proofs.ShiftLaws.{ashr_whole}
use Rattle.shift_circuits.proofs.shift.ashr.Goals.{then-standard, else-standard}
use Rattle.shift_circuits.proofs.shift.ashr.Goals as goal

pub returns : goal.returns
returns c =
    ashr_whole _ _ c.args.y.now.items c.args.x.now.items _
    (c.unwrap_or-sign.ensures ∙ ap (λ o. unwrap_or o 1) (c.copied.ensures ∙ c.last.ensures.value) ∙ unwrap_or-slice_get c.deref.result.now _ 1 ∙ top_bit 1 c.deref.result.now ∙ ap (last 1) c.deref.ensures.0)
    (elim c.if-standard.branch [
      | then-standard w ↦ w.beyond-is ∙ sym (cond_true _ _ w.if-standard.true)
      | else-standard w ↦ w.beyond-is ∙ sym (cond_false _ _ w.if-standard.false)
    ])
    c.stages-shifted.ensures c.bounded.ensures
