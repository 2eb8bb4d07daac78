use mathlib.Core.Path.{◌∙◌, ap}
use Rattle.std.specs.List.{list_all}
use Rattle.store.specs.Numbers.{is_false_number}
use Rattle.circuits.proofs.AppendLaws.{filled}
use Rattle.shift_circuits.proofs.DivideLaws.{divide_stop, divide_none, divide_more}
use Rattle.shift_circuits.proofs.divider.+bitblast_udiv_urem_rec.Goals.{then-left-eq0-via-then-left-eq0, then-left-eq0-via-else-left-eq0+then-all_false}
use Rattle.shift_circuits.proofs.divider.+bitblast_udiv_urem_rec.Goals as goal

pub returns-then-left-eq0-clause-value : goal.returns-then-left-eq0-clause-value
returns-then-left-eq0-clause-value t c = let q = filled _ _ c.same_bits.ensures c.len.ensures.value in
    let r = filled _ _ c.same_bits-then-left-eq0.ensures c.len-then-left-eq0.ensures.value in
    elim c.then-left-eq0.branch [
      | then-left-eq0-via-then-left-eq0 w ↦ divide_stop _ _ _ _ _ w.if-left-eq0.true q r
      | then-left-eq0-via-else-left-eq0+then-all_false w ↦ divide_none _ _ _ _ _ _ w.if-left-eq0.false (w.all_false.ensures ∙ ap (list_all is_false_number) w.deref.ensures.0) w.if-all_false.true q r
    ]

pub returns-clause-value : goal.returns-clause-value
returns-clause-value t c =
    divide_more _ _ _ _ _ _ c.if-left-eq0.false (c.all_false.ensures ∙ ap (list_all is_false_number) c.deref.ensures.0) c.if-all_false.false
    c.shift_right.ensures c.bitblast_udiv_urem_rec-half.ensures.value c.divide_step.ensures.value
