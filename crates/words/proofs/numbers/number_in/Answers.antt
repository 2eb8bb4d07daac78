use Rattle.std.proofs.Common.{refl, arith}
use Rattle.words.proofs.NumberLaws.{digit_is, digit_none, count_bad, count_over, count_on}
use Rattle.words.proofs.numbers.number_in.Goals as goal

pub returns-in_err-d : goal.returns-in_err-d
returns-in_err-d c =
    rw c.from_residual.ensures
    (count_bad c.loop-b.invariant c.loop-b-test.true refl (digit_none c.from.ensures (c.type_inv.word c.loop-b.b-index).fits c.requires.high c.in_err-d.ensures.value))

pub returns-in_err-checked_mul : goal.returns-in_err-checked_mul
returns-in_err-checked_mul c = let d = digit_is c.from.ensures (c.type_inv.word c.loop-b.b-index).fits c.requires.high c.in_ok-d.ensures.value.0 c.in_ok-d.ensures.value.1 in
    rw c.from_residual-in_err-checked_mul.ensures
    (count_over c.loop-b.invariant c.loop-b-test.true d.0 d.1 c.requires.low (omega (arith, c.in_err-checked_mul.ensures)))

pub returns-in_err-n : goal.returns-in_err-n
returns-in_err-n c = let d = digit_is c.from.ensures (c.type_inv.word c.loop-b.b-index).fits c.requires.high c.in_ok-d.ensures.value.0 c.in_ok-d.ensures.value.1 in
    rw c.from_residual-in_err-n.ensures
    (count_over c.loop-b.invariant c.loop-b-test.true d.0 d.1 c.requires.low (omega (arith, c.in_ok-checked_mul.ensures.1, c.in_err-n.ensures, c.from-in-loop-b.ensures)))

pub returns-then-most-n : goal.returns-then-most-n
returns-then-most-n c = let d = digit_is c.from.ensures (c.type_inv.word c.loop-b.b-index).fits c.requires.high c.in_ok-d.ensures.value.0 c.in_ok-d.ensures.value.1 in
    count_over c.loop-b.invariant c.loop-b-test.true d.0 d.1 c.requires.low (omega arith)

pub loop-b-preserved : goal.loop-b-preserved
loop-b-preserved c = let d = digit_is c.from.ensures (c.type_inv.word c.loop-b.b-index).fits c.requires.high c.in_ok-d.ensures.value.0 c.in_ok-d.ensures.value.1 in
    count_on c.loop-b.invariant c.loop-b-test.true d.0 d.1 (omega arith) c.if-most-n.false
