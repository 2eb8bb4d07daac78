-- `trans`: two premises or more, which lead from one side to the other.
use mathlib.Core.Path.{◌∙◌}
use native.Mathlib.Omega.{arith}
use Rattle.terms.proofs.Lists.{words_in_length}
use Rattle.chains.proofs.Joins.{trans_few, trans_is}
use Rattle.chains.proofs.joining.Claim.trans.Goals as goal

pub returns-then-self-lt2 : goal.returns-then-self-lt2
returns-then-self-lt2 c =
    trans_few _ _ _ _ _ (omega (arith, words_in_length c.args.self.now.past.now.terms.job.now c.args.self.now.premises, c.if-self-lt2.true))

pub returns : goal.returns
returns c =
    c.leads.ensures
    ∙ trans_is _ _ _ _ _ (omega (arith, words_in_length c.args.self.now.past.now.terms.job.now c.args.self.now.premises, c.if-self-lt2.false))
