-- The spellings are those of theory's tables, in their order: document 01's kinds after the variables and constants, and its rules.
use mathlib.Core.Path.{◌≡◌, refl}
use mathlib.Core.List.{map}
use lib.ListN.{take, drop}
use Rattle.theory.specs.Record.{shapes}
use Rattle.theory.specs.RuleTable.{rules}
use Rattle.text.specs.Spelling.{kind_names, rule_names}

pub kinds_spelled : map (λ r. r.names) kind_names ≡ take 27 (drop 3 shapes)
kinds_spelled = refl

pub rules_spelled : map (λ r. r.names) rule_names ≡ take 23 rules
rules_spelled = refl
