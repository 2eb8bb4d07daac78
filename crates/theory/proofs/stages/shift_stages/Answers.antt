use Rattle.std.proofs.Common.{◌≡◌, ℕ, rules, sym, ap}
use Rattle.theory.specs.Circuit.{clog2}
use Rattle.theory.proofs.Logarithm.{one_set, more_set}
use Rattle.theory.proofs.stages.shift_stages.Goals as goal

zero_width : (n : ℕ) → n ≡ 0 → 0 ≡ clog2 n
unfolding clog2
zero_width n e = sym (ap clog2 e)

pub returns-then-width-eq0 : goal.returns-then-width-eq0
returns-then-width-eq0 c = zero_width _ c.if-width-eq0.true

pub returns-then-width-eq1 : goal.returns-then-width-eq1
returns-then-width-eq1 c = one_set _ (search rules) (search rules) c.if-width-eq1.true

pub returns-else-width-eq1 : goal.returns-else-width-eq1
returns-else-width-eq1 c = more_set _ (search rules) (search rules) c.if-width-eq1.false
