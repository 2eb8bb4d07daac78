-- `term_on`: a row's record says a term, which is the one at its place.
use borrow.Author.Rules.{rules}
use native.Mathlib.Omega.{arith}
use Rattle.terms.specs.declared.Item.TheVariants as I
use Rattle.store.proofs.Keeping.{row_whole, true_at, false_at, read_term_at, read_no_term}
use Rattle.store.proofs.shelf.Terms.term_on.Goals as goal

pub returns-then-place-eq-TRUE : goal.returns-then-place-eq-TRUE
returns-then-place-eq-TRUE c = true_at c.args.self.now.shelf c.args.place c.if-place-eq-TRUE.true

pub returns-then-place-eq-FALSE : goal.returns-then-place-eq-FALSE
returns-then-place-eq-FALSE c = false_at c.args.self.now.shelf c.args.place c.if-place-eq-FALSE.true

pub read-requires : goal.read-requires
read-requires c = row_whole c.args.self.now.shelf _ (search rules) c.offset_at-at.ensures.value

pub returns-in_default : goal.returns-in_default
returns-in_default c = read_no_term c.args.self.now.shelf c.args.place (omega (arith, c.if-place-eq-TRUE.false, c.if-place-eq-FALSE.false)) c.requires c.offset_at-at.ensures.value
    c.read.result (λ t e. c.in_default.not-Ok (I.Term t) e) c.read.ensures.says

pub returns-in_default-item : goal.returns-in_default-item
returns-in_default-item c = read_no_term c.args.self.now.shelf c.args.place (omega (arith, c.if-place-eq-TRUE.false, c.if-place-eq-FALSE.false)) c.requires c.offset_at-at.ensures.value
    c.read.result (λ t e. c.in_default-item.not-Term t (let f = c.in-Ok.is in cc)) c.read.ensures.says

pub returns : goal.returns
returns c = read_term_at c.args.self.now.shelf c.args.place (omega (arith, c.if-place-eq-TRUE.false, c.if-place-eq-FALSE.false)) c.requires c.offset_at-at.ensures.value
    c.read.result (let f = c.in-Ok.is in let g = c.in-Term.is in cc) c.read.ensures.says c.read.ensures.placed
