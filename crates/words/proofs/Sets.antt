-- The laws that goals of this crate want.
use Rattle.words.proofs.NumberLaws.{count_start, count_none, count_end, leads_zero, leads_other, leads_short}
use Rattle.words.proofs.TableLaws.{beside_found, beside_on}
use Rattle.words.proofs.WordLaws.{same_said}

pub ruleset laws = (count_start, count_none, count_end, leads_zero, leads_other, leads_short, same_said, beside_found, beside_on)
