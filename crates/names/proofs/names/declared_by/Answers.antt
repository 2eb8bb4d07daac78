use mathlib.Core.Path.{sym, ◌∙◌}
use Rattle.text.specs.Reading.{declaration}
use Rattle.text.specs.Claim.{declared_by}
use Rattle.names.proofs.MarkLaws.{rest_none, rest_some, no_word, some_word, end_some, end_none}
use Rattle.names.proofs.NameLaws.{no_sort, some_sort}
use Rattle.names.proofs.names.declared_by.Goals as goal

pub returns-in_err-a : goal.returns-in_err-a
unfolding declared_by declaration
returns-in_err-a c = rw (c.from_residual.ensures, rest_none _ c.left_after.ensures c.in_err-a.was)

pub returns-in_err-b : goal.returns-in_err-b
unfolding declared_by declaration
returns-in_err-b c = rw (c.from_residual-in_err-b.ensures, rest_some _ c.left_after.ensures c.in_ok-a.was, rest_none _ c.word_after.ensures c.in_err-b.was)

pub returns-in_err-name : goal.returns-in_err-name
unfolding declared_by declaration
returns-in_err-name c = rw (c.from_residual-in_err-name.ensures, rest_some _ c.left_after.ensures c.in_ok-a.was, rest_some _ c.word_after.ensures c.in_ok-b.was, no_word _ c.first_word.ensures c.in_err-name.was)

pub returns-in_err-sort : goal.returns-in_err-sort
unfolding declared_by declaration
returns-in_err-sort c = rw (c.from_residual-in_err-sort.ensures, rest_some _ c.left_after.ensures c.in_ok-a.was, rest_some _ c.word_after.ensures c.in_ok-b.was, some_word _ c.first_word.ensures c.in_ok-name.was, no_sort _ c.read_sort.ensures c.in_err-sort.was)

pub returns-in_err-last : goal.returns-in_err-last
unfolding declared_by declaration
returns-in_err-last c = rw (c.from_residual-in_err-last.ensures, rest_some _ c.left_after.ensures c.in_ok-a.was, rest_some _ c.word_after.ensures c.in_ok-b.was, some_word _ c.first_word.ensures c.in_ok-name.was, some_sort _ c.read_sort.ensures c.in_ok-sort.was, rest_none _ c.right_after.ensures c.in_err-last.was)

pub returns-then-not-at_end : goal.returns-then-not-at_end
unfolding declared_by declaration
returns-then-not-at_end c = rw (rest_some _ c.left_after.ensures c.in_ok-a.was, rest_some _ c.word_after.ensures c.in_ok-b.was, some_word _ c.first_word.ensures c.in_ok-name.was, some_sort _ c.read_sort.ensures c.in_ok-sort.was, rest_some _ c.right_after.ensures c.in_ok-last.was, end_none _ c.at_end.ensures c.if-not-at_end.true)

pub returns-then-not-is_symbol : goal.returns-then-not-is_symbol
unfolding declared_by declaration
returns-then-not-is_symbol c = rw (rest_some _ c.left_after.ensures c.in_ok-a.was, rest_some _ c.word_after.ensures c.in_ok-b.was, some_word _ c.first_word.ensures c.in_ok-name.was, some_sort _ c.read_sort.ensures c.in_ok-sort.was, rest_some _ c.right_after.ensures c.in_ok-last.was, (end_some _ c.at_end.ensures c.if-not-at_end.false).1, sym c.is_symbol.ensures ∙ c.if-not-is_symbol.true)

pub returns-then-reserved : goal.returns-then-reserved
unfolding declared_by declaration
returns-then-reserved c = rw (rest_some _ c.left_after.ensures c.in_ok-a.was, rest_some _ c.word_after.ensures c.in_ok-b.was, some_word _ c.first_word.ensures c.in_ok-name.was, some_sort _ c.read_sort.ensures c.in_ok-sort.was, rest_some _ c.right_after.ensures c.in_ok-last.was, (end_some _ c.at_end.ensures c.if-not-at_end.false).1, sym c.is_symbol.ensures ∙ c.if-not-is_symbol.false, sym c.reserved.ensures ∙ c.if-reserved.true)

pub returns : goal.returns
unfolding declared_by declaration
returns c = rw (rest_some _ c.left_after.ensures c.in_ok-a.was, rest_some _ c.word_after.ensures c.in_ok-b.was, some_word _ c.first_word.ensures c.in_ok-name.was, some_sort _ c.read_sort.ensures c.in_ok-sort.was, rest_some _ c.right_after.ensures c.in_ok-last.was, (end_some _ c.at_end.ensures c.if-not-at_end.false).1, sym c.is_symbol.ensures ∙ c.if-not-is_symbol.false, sym c.reserved.ensures ∙ c.if-reserved.false)
