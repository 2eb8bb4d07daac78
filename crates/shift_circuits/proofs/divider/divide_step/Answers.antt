use mathlib.Core.List.{List}
use mathlib.Core.Path.{ap, ◌∙◌}
use Prim.Native.Nat.{ℕ}
use lib.ListN.{get_or}
use Rattle.store.specs.Lookup.{gates}
use Rattle.theory.specs.Circuit.{next_remainder}
use Rattle.circuits.proofs.AppendLaws.{with_left, zip_shorter}
use Rattle.shift_circuits.proofs.DivideLaws.{remainder_beside, sum_no_carry, sum_reduced, stepped}
use Rattle.shift_circuits.proofs.divider.divide_step.Goals as goal

pub ripple_carry_adder-r1_less_y-requires : goal.ripple_carry_adder-r1_less_y-requires
ripple_carry_adder-r1_less_y-requires c = let a = c.requires in
    record { beside = remainder_beside _ _ _ c.args.x.now.items c.args.y.now.items c.next_remainder-r1.ensures c.nots-not_y.ensures a.some a.beside a.smaller }

pub returns-clause-value : goal.returns-clause-value
returns-clause-value c =
    let a = c.requires in
    let r1 = c.ripple_carry_adder-r1_less_y.ensures in
    let x = c.ripple_carry_adder-x_less_y.ensures in
    let n = c.nots-not_y.ensures in
    let fits = remainder_beside _ _ _ c.args.x.now.items c.args.y.now.items c.next_remainder-r1.ensures n a.some a.beside a.smaller in
    stepped _ _ _ _ _ _ a.some (c.next_remainder-r1.ensures ∙ ap (λ (l : List ℕ). next_remainder (gates c.args.lookup.now) (get_or l 0 0) c.args.half.now.rem.items) c.deref.ensures.0)
    (sum_no_carry _ _ _ _ n r1.out_value r1.carry_value c.no_carry-sign.ensures) c.ite3-low.ensures c.shift_left-q1.ensures
    (sum_reduced _ _ _ _ n fits r1.bits_value c.reduced-less.ensures) c.ites-r2.ensures
    (sum_no_carry _ _ _ _ n x.out_value x.carry_value c.no_carry-below.ensures)
    (with_left _ _ _ c.ites-quot.ensures c.same_bits-falses.ensures c.len.ensures.value) c.ites-rem.ensures

pub returns-clause-smaller : goal.returns-clause-smaller
returns-clause-smaller c = rw c.ites-rem.ensures (zip_shorter _ c.args.x.now.items _)
