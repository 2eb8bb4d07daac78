-- The laws that goals of this crate want.
use Rattle.operations.proofs.ApplyLaws.{in_one, out_one, one_word, not_bv, neg_bv, is_not, is_bvnot, is_bvneg, is_bit, is_extract, in_two, out_two, two_both, two_wide, two_fits, xnor_bv, shl_bv, lshr_bv, ashr_bv, udiv_bv, is_xor, is_equals, is_xnor, is_comp, is_ult, is_slt, is_shl, is_lshr, is_ashr, is_udiv, is_urem, is_then, is_else, is_extend_set, is_extend_clear}
use Rattle.operations.proofs.ManyLaws.{add_wide, mul_wide, bits_room, bits_small, concat_room, at_add, at_mul}
use Rattle.operations.proofs.MoveLaws.{copying_low, copying_fits, left_word, right_word, is_zero_extend, is_left, is_right, turned_none, turned_all, below_width, right_is, left_is}
use Rattle.operations.proofs.WordLaws.{shl_is, shl_out, neg_zero, neg_is, mul_is, lshr_is, lshr_out, udiv_zero, udiv_is, not_is, ones_is, urem_zero, urem_is, xor_le, xnor_is, add_is, ashr_clear, ashr_full, ashr_none, low_is}

pub ruleset laws = (in_one, out_one, one_word, not_bv, neg_bv, is_not, is_bvnot, is_bvneg, is_bit, is_extract, in_two, out_two, two_both, two_wide, two_fits, xnor_bv, shl_bv, lshr_bv, ashr_bv, udiv_bv, is_xor, is_equals, is_xnor, is_comp, is_ult, is_slt, is_shl, is_lshr, is_ashr, is_udiv, is_urem, is_then, is_else, is_extend_set, is_extend_clear, add_wide, mul_wide, bits_room, bits_small, concat_room, at_add, at_mul, copying_low, copying_fits, left_word, right_word, is_zero_extend, is_left, is_right, turned_none, turned_all, below_width, right_is, left_is, shl_is, shl_out, neg_zero, neg_is, mul_is, lshr_is, lshr_out, udiv_zero, udiv_is, not_is, ones_is, urem_zero, urem_is, xor_le, xnor_is, add_is, ashr_clear, ashr_full, ashr_none, low_is)
