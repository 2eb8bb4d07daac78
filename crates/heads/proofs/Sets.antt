-- The laws that goals of this crate want.
use Rattle.words.proofs.WordLaws.{same_said, same_as, stripped}
use Rattle.words.proofs.ReadLaws.{fits_in, fits_not, told_none, told_some}
use Rattle.names.proofs.MarkLaws.{rest_none, rest_some, no_word, some_word, first_is, first_none}
use Rattle.names.proofs.KindLaws.{no_index, some_index}
use Rattle.heads.proofs.ConstantLaws.{wide, no_value, const_is}
use Rattle.heads.proofs.HeadLaws.{plain_alone, not_alone, one_number, two_numbers, no_numbers, opened_word}

pub ruleset laws = (same_said, same_as, fits_in, fits_not, stripped, told_none, told_some, rest_none, rest_some, no_word, some_word, no_index, some_index, first_is, first_none, wide, no_value, const_is, plain_alone, not_alone, one_number, two_numbers, no_numbers, opened_word)
