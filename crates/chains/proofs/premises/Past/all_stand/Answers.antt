use mathlib.Core.Path.{sym, ap}
use borrow.Author.Rules.{rules}
use Rattle.theory.specs.Optional.{is_some}
use Rattle.store.specs.KeptTerms.{kept_terms}
use Rattle.theory.specs.Chain.{premises_at}
use Rattle.chains.specs.Told.{earlier_told}
use Rattle.chains.proofs.Passing.{every}
use Rattle.chains.proofs.premises.Past.all_stand.Goals as goal

pub returns : goal.returns
returns c = every c.args.self.now (λ x b q k. search rules) c.numbers.result c.all.new.self
    (ap (λ ks. is_some (premises_at (earlier_told c.args.self.now) (kept_terms c.args.self.now.terms) ks)) (sym c.numbers.ensures)) c.all.ensures.ran
