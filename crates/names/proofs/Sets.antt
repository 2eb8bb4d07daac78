-- The laws that goals of this crate want.
use Rattle.names.proofs.MarkLaws.{left_is, left_not, right_is, right_not, first_is, first_none, word_none, word_tested, end_is, end_not, rest_none, rest_some, no_word, some_word}
use Rattle.names.proofs.KindLaws.{index_none, index_bad, index_is, no_index, some_index, bv_short, bv_first, bv_second, bv_rest}
use Rattle.names.proofs.LineLaws.{none_left}
use Rattle.names.proofs.NameLaws.{no_sort, some_sort, no_declaration, some_declaration, no_name}
use Rattle.words.proofs.WordLaws.{same_said}
use Rattle.words.proofs.NumberLaws.{leads_zero, leads_other, leads_short}
use Rattle.names.proofs.SymbolLaws.{no_digits, zero_digits, digits_end, symbol_none, symbol_digit, symbol_all, reserved_kind, reserved_true, reserved_false, reserved_mark}

pub ruleset laws = (same_said, left_is, left_not, right_is, right_not, first_is, first_none, word_none, word_tested, end_is, end_not, rest_none, rest_some, no_word, some_word, index_none, index_bad, index_is, no_index, some_index, bv_short, bv_first, bv_second, bv_rest, none_left, no_sort, some_sort, no_declaration, some_declaration, no_name, leads_zero, leads_other, leads_short, no_digits, zero_digits, digits_end, symbol_none, symbol_digit, symbol_all, reserved_kind, reserved_true, reserved_false, reserved_mark)
