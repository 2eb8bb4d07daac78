-- The ten rows of document 01's table "Specimens", computed: every fact of every row, at every width that the row is of.
use mathlib.Core.Path.{◌≡◌, refl}
use mathlib.Core.Bool.{true}
use lib.ListN.{length}
use Rattle.theory.specs.Term.{fold, same_op, same_term}
use Rattle.theory.specs.Sort.{guard}
use Rattle.theory.specs.Value.{meaning, mul_n, ashr_n, top_copies, udiv_n, urem_n}
use Rattle.theory.specs.Depth.{depth}
use Rattle.theory.specs.Circuit.{zip_with, last, clog2, ripple_carry_adder, last_carry, ult_from, bitblast_ult, slt_from, slt, gather, add_rows, shift_add_multiplier, shr_bits, shr_stages, ashr, divide_step, bitblast_udiv_urem_rec, udiv, urem}
use Rattle.theory.specs.Bits.{select, get_term_bits, fold_terms, add_bits}
use Rattle.theory.specs.Rule.{args_of, on_sides, verdict}
use Rattle.theory.specs.Specimen.{specimens, all, specimen_true}

pub ten_rows : length specimens ≡ 10
ten_rows = refl

pub specimens_hold : all specimen_true specimens ≡ true
unfolding fold guard same_op same_term meaning mul_n ashr_n top_copies udiv_n urem_n depth zip_with last clog2 ripple_carry_adder last_carry ult_from bitblast_ult slt_from slt gather add_rows shift_add_multiplier shr_bits shr_stages ashr divide_step bitblast_udiv_urem_rec udiv urem select get_term_bits fold_terms add_bits args_of on_sides verdict
specimens_hold = refl
