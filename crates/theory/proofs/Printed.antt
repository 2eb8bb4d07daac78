-- Document 01's example of the program `bbcheck`, computed: for its bytes the two lines `steps 1 terms 10 stop 0` and `1 9 0 2`.
use mathlib.Core.Path.{◌≡◌, refl}
use mathlib.Core.List.{[], ◌∷◌}
use Rattle.theory.specs.Term.{fold, same_op, same_term}
use Rattle.theory.specs.Sort.{guard}
use Rattle.theory.specs.Depth.{depth}
use Rattle.theory.specs.Circuit.{zip_with, last, clog2, ripple_carry_adder, last_carry, ult_from, bitblast_ult, slt_from, slt, gather, add_rows, shift_add_multiplier, shl_bits, shl_stages, shr_bits, shr_stages, shl, lshr, ashr, divide_step, bitblast_udiv_urem_rec, udiv, urem}
use Rattle.theory.specs.Bits.{select, get_term_bits, fold_terms, add_bits, concat_bits}
use Rattle.theory.specs.Rule.{args_of, literal_bits, slices_verdict, on_sides, verdict}
use Rattle.theory.specs.Record.{cut, shape_of, read, number_length}
use Rattle.theory.specs.Plain.{feed, repeat_of}
use Rattle.theory.specs.Codes.{fault}
use Rattle.theory.specs.Job.{answers_to, run_from, run}
use Rattle.theory.specs.Program.{digits, bbcheck}

pub printed : bbcheck (0x06 ∷ 0x00 ∷ 0x0B ∷ 0x00 ∷ 0x01 ∷ 0x00 ∷ 0x00 ∷ 0x00 ∷ 0x06 ∷ 0x00 ∷ 0x0B ∷ 0x00 ∷ 0x01 ∷ 0x00 ∷ 0x01 ∷ 0x00 ∷ 0x06 ∷ 0x00 ∷ 0x1E ∷ 0x00 ∷ 0x00 ∷ 0x00 ∷ 0x02 ∷ 0x00 ∷ 0x06 ∷ 0x00 ∷ 0x1E ∷ 0x00 ∷ 0x00 ∷ 0x00 ∷ 0x03 ∷ 0x00 ∷ 0x04 ∷ 0x00 ∷ 0x14 ∷ 0x00 ∷ 0x05 ∷ 0x00 ∷ 0x06 ∷ 0x00 ∷ 0x15 ∷ 0x00 ∷ 0x04 ∷ 0x00 ∷ 0x06 ∷ 0x00 ∷ 0x06 ∷ 0x00 ∷ 0x32 ∷ 0x00 ∷ 0x02 ∷ 0x00 ∷ 0x03 ∷ 0x00 ∷ 0x06 ∷ 0x00 ∷ 0x18 ∷ 0x00 ∷ 0x08 ∷ 0x00 ∷ 0x07 ∷ 0x00 ∷ 0x06 ∷ 0x00 ∷ 0x64 ∷ 0x00 ∷ 0x09 ∷ 0x00 ∷ 0x09 ∷ 0x00 ∷ [])
    ≡ 0x73 ∷ 0x74 ∷ 0x65 ∷ 0x70 ∷ 0x73 ∷ 0x20 ∷ 0x31 ∷ 0x20 ∷ 0x74 ∷ 0x65 ∷ 0x72 ∷ 0x6D ∷ 0x73 ∷ 0x20 ∷ 0x31 ∷ 0x30 ∷ 0x20 ∷ 0x72 ∷ 0x65 ∷ 0x70 ∷ 0x65 ∷ 0x61 ∷ 0x74 ∷ 0x73 ∷ 0x20 ∷ 0x30 ∷ 0x20 ∷ 0x73 ∷ 0x74 ∷ 0x6F ∷ 0x70 ∷ 0x20 ∷ 0x30 ∷ 0x0A ∷ 0x31 ∷ 0x20 ∷ 0x39 ∷ 0x20 ∷ 0x30 ∷ 0x20 ∷ 0x32 ∷ 0x0A ∷ []
unfolding fold same_op same_term guard depth zip_with last clog2 ripple_carry_adder last_carry ult_from bitblast_ult slt_from slt gather add_rows shift_add_multiplier shl_bits shl_stages shr_bits shr_stages shl lshr ashr divide_step bitblast_udiv_urem_rec udiv urem select get_term_bits fold_terms add_bits concat_bits args_of literal_bits slices_verdict on_sides verdict cut shape_of read number_length feed repeat_of fault answers_to run_from run digits bbcheck
printed = refl
