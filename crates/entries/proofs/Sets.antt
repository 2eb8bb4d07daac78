-- The laws that goals of this crate want.
use Rattle.names.proofs.MarkLaws.{rest_none, rest_some, no_word, some_word, end_some, end_none}

pub ruleset laws = (rest_none, rest_some, no_word, some_word, end_some, end_none)
