use mathlib.Core.Path.{ap, sym, ◌∙◌}
use native.Mathlib.Omega.{arith}
use Rattle.theory.specs.Term.{Term}
use Rattle.theory.specs.Verdict.{held}
use Rattle.theory.specs.Rule.{compare}
use Rattle.terms.proofs.Lists.{words_in_length}
use Rattle.operand_rules.proofs.Numbers.{ends, bits_end}
use Rattle.store.specs.Kept.{kept_term, kept_arguments, words_of}
use Rattle.list_rules.specs.Lists.{argument, folded_bits}
use Rattle.list_rules.proofs.Lists.{first_number, alone_from, folded_from}
use Rattle.list_rules.proofs.folds.folded_check.Goals as goal

pub returns-then-list-LEAST : goal.returns-then-list-LEAST
returns-then-list-LEAST g c = let a = c.args in
    let k = a.kept.now in
    let n = words_in_length k.lookup.job.now a.list in
    ends held k c.requires.claimed (kept_term k (argument k a.list 0)) (first_number c.requires c.argument-first.ensures) c.compare.ensures
    ∙ ap (λ (t : Term). compare held t (kept_term k a.claim))
    (sym (alone_from g.O.Operation.expected (kept_term k) (words_of k a.list) (omega (arith, n, c.requires.alike.some)) g.met.O.Operation.alone (omega (arith, n, c.if-list-LEAST.true))))

pub returns : goal.returns
returns g c = let a = c.args in
    let k = a.kept.now in
    let n = words_in_length k.lookup.job.now a.list in
    bits_end held k c.requires.claimed (folded_bits g.O.Operation.circuit (kept_arguments k a.list))
    c.fold_arguments-bits.ensures c.compare_bits.ensures
    ∙ ap (λ (t : Term). compare held t (kept_term k a.claim))
    (sym (folded_from g.O.Operation.expected (kept_term k) (words_of k a.list) (omega (arith, n, c.requires.alike.some)) g.O.Operation.circuit g.met.O.Operation.enough
    (omega (arith, n, c.if-list-LEAST.false))))
