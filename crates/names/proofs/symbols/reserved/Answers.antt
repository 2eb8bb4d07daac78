use mathlib.Core.Path.{sym, ap, ◌∙◌}
use Rattle.theory.specs.Optional.{is_some}
use Rattle.text.specs.Tokens.{ascii}
use Rattle.text.specs.Reading.{bind, numeral}
use Rattle.words.proofs.WordLaws.{same_as, stripped}
use Rattle.words.proofs.ReadLaws.{told_none, told_some}
use Rattle.names.proofs.SymbolLaws.{reserved_kind, reserved_bv}
use Rattle.names.proofs.symbols.reserved.Goals as goal

pub returns-then-is_some : goal.returns-then-is_some
returns-then-is_some c = reserved_kind c.args.word.now c.kind_named.result c.kind_named.ensures c.is_some.ensures c.if-is_some.true

pub returns-in-None : goal.returns-in-None
returns-in-None c = reserved_bv c.args.word.now c.kind_named.result c.kind_named.ensures c.is_some.ensures c.if-is_some.false
    (same_as c.args.word.now (ascii "true") c.if-eq.ensures c.as_slice.ensures) (same_as c.args.word.now (ascii "false") c.if-eq-2.ensures c.as_slice-2.ensures) (same_as c.args.word.now (ascii "_") c.if-eq-3.ensures c.as_slice-3.ensures)
    (sym (ap (λ q. is_some (bind q numeral)) (told_none (λ b. b.now) _ (stripped (ascii "bv") c.args.word.now c.strip_prefix.result c.strip_prefix.ensures.cases) c.in-None.is)))

pub returns-in-Some : goal.returns-in-Some
returns-in-Some c = reserved_bv c.args.word.now c.kind_named.result c.kind_named.ensures c.is_some.ensures c.if-is_some.false
    (same_as c.args.word.now (ascii "true") c.if-eq.ensures c.as_slice.ensures) (same_as c.args.word.now (ascii "false") c.if-eq-2.ensures c.as_slice-2.ensures) (same_as c.args.word.now (ascii "_") c.if-eq-3.ensures c.as_slice-3.ensures)
    (c.is_numeral.ensures ∙ sym (ap (λ q. is_some (bind q numeral)) (told_some (λ b. b.now) _ (stripped (ascii "bv") c.args.word.now c.strip_prefix.result c.strip_prefix.ensures.cases) c.in-Some.is)))
