-- The rules of chains, as the code has them.
use Rattle.std.specs.Prelude.{◌≡◌, ℕ, Result, Ok, Err, None as none, Some as some}
use Rattle.theory.specs.RuleTable.{by_symm, by_trans, by_cong, chain_rule_at}
use Rattle.theory.specs.RuleTable as T
use Rattle.chains.specs.declared.ChainRule.{ChainRule}
use Rattle.chains.specs.declared.ChainRule.TheVariants.{Symm, Trans, Cong}
use Rattle.rules.specs.declared.UnknownRule.{UnknownRule}

-- the rule that a case stands for
abbrev pub rule_of : ChainRule → T.ChainRule
rule_of Symm = by_symm
rule_of Trans = by_trans
rule_of Cong = by_cong

-- a rule by its number; the error has the number where no rule has it
abbrev pub Decodes : ℕ → Result ChainRule UnknownRule → Type 0
Decodes n (Ok r) = chain_rule_at n ≡ some (rule_of r)
Decodes n (Err e) = (e.0 ≡ n) × (chain_rule_at n ≡ none)
