-- The rules, as the code has them.
use Rattle.std.specs.Prelude.{◌≡◌, ℕ, Result, Ok, Err, None as none, Some as some}
use Rattle.theory.specs.RuleTable.{rule_at}
use Rattle.theory.specs.RuleTable as T
use Rattle.rules.specs.declared.Rule.{Rule}
use Rattle.rules.specs.declared.Rule.TheVariants as R
use Rattle.rules.specs.declared.UnknownRule.{UnknownRule}

-- the rule that a case stands for
abbrev pub rule_of : Rule → T.Rule
rule_of R.Value = T.by_value
rule_of R.Var = T.by_var
rule_of R.And = T.by_and
rule_of R.Or = T.by_or
rule_of R.Xor = T.by_xor
rule_of R.Xnor = T.by_xnor
rule_of R.Not = T.by_not
rule_of R.Ult = T.by_ult
rule_of R.Slt = T.by_slt
rule_of R.Add = T.by_add
rule_of R.Mult = T.by_mult
rule_of R.Neg = T.by_neg
rule_of R.Equality = T.by_equality
rule_of R.Comp = T.by_comp
rule_of R.Extract = T.by_extract
rule_of R.Concat = T.by_concat
rule_of R.SignExtend = T.by_sign_extend
rule_of R.Shl = T.by_shl
rule_of R.Lshr = T.by_lshr
rule_of R.Ashr = T.by_ashr
rule_of R.Udiv = T.by_udiv
rule_of R.Urem = T.by_urem
rule_of R.BitwiseSlicing = T.by_bitwise_slicing
rule_of R.UdivStandard = T.by_udiv_standard
rule_of R.UremStandard = T.by_urem_standard
rule_of R.AshrStandard = T.by_ashr_standard
rule_of R.ZeroExtend = T.by_zero_extend
rule_of R.RotateLeft = T.by_rotate_left
rule_of R.RotateRight = T.by_rotate_right
rule_of R.Repeat = T.by_repeat

-- a rule by its number; the error has the number where no rule has it
abbrev pub Decodes : ℕ → Result Rule UnknownRule → Type 0
Decodes n (Ok r) = rule_at n ≡ some (rule_of r)
Decodes n (Err e) = (e.0 ≡ n) × (rule_at n ≡ none)
