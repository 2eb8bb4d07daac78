-- `Term::argument`: number i of a list stands i times the bytes of a number after its place.
use Rattle.std.proofs.Common.{◌≡◌, ℕ, ◌+◌, ◌*◌, ◌<◌, List, take, drop, get_or, sym, ap, ◌∙◌, arith}
use Rattle.theory.specs.Record.{little_endian}
use Rattle.terms.specs.Decoded.{words_in}
use Rattle.terms.specs.declared.Args.{Args}
use Rattle.terms.proofs.Numbers.{one_byte, two_bytes, three_bytes, four_bytes}
use Rattle.terms.proofs.Lists.{argument_is}
use Rattle.terms.proofs.Term.argument.Goals as goal

-- a number of n bytes there, n being the list's length of a number
there : (job : List ℕ) (list : Args) (i : ℕ) {n x : ℕ} → i < list.count → list.bytes ≡ n
    → x ≡ little_endian (take n (drop (list.at + list.bytes * i) job)) → x ≡ get_or (words_in job list) i 0
there job list i h e f = argument_is job list i h (f ∙ ap (λ (m : ℕ). little_endian (take m (drop (list.at + list.bytes * i) job))) (sym e))

pub returns-then-bytes-eq1 : goal.returns-then-bytes-eq1
returns-then-bytes-eq1 c = let a = c.args in
    there a.job.now a.list a.i c.requires.below c.if-bytes-eq1.true (one_byte a.job.now (a.list.at + a.list.bytes * a.i) c.from-one.ensures)

pub returns-then-bytes-eq2 : goal.returns-then-bytes-eq2
returns-then-bytes-eq2 c = let a = c.args in
    there a.job.now a.list a.i c.requires.below c.if-bytes-eq2.true
    (two_bytes a.job.now (a.list.at + a.list.bytes * a.i) c.from-one.ensures c.from.ensures)

pub returns-then-bytes-eq3 : goal.returns-then-bytes-eq3
returns-then-bytes-eq3 c = let a = c.args in
    there a.job.now a.list a.i c.requires.below c.if-bytes-eq3.true
    (three_bytes a.job.now (a.list.at + a.list.bytes * a.i) c.from-one.ensures c.from.ensures c.from-2.ensures)

pub returns : goal.returns
returns c = let a = c.args in
    let few = c.requires.inside.sized.few_bytes in
    let some = c.requires.inside.sized.some_bytes in
    there a.job.now a.list a.i {n = 4} c.requires.below (omega arith)
    (four_bytes a.job.now (a.list.at + a.list.bytes * a.i) c.from-one.ensures c.from.ensures c.from-2.ensures c.from-3.ensures)
