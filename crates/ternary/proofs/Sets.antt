-- The laws that goals of this crate want.
use Rattle.ternary.proofs.BitLaws.{rowing_done, bit_asked, bit_bool}
use Rattle.ternary.proofs.KindLaws.{equals_low}
use Rattle.ternary.proofs.KnownLaws.{known_asked, and_inside, or_inside, bit_asked as knownlaws_bit_asked}
use Rattle.marks.proofs.MarkLaws.{count_is}

pub ruleset laws = (rowing_done, bit_asked, bit_bool, equals_low, known_asked, and_inside, or_inside, knownlaws_bit_asked, count_is)
