use borrow.Author.Rules.{rules}
use mathlib.Core.Path.{◌≡◌, sym, ap, ◌∙◌}
use mathlib.Core.List.{◌++◌}
use Prim.Native.Nat.{◌+◌, ◌*◌}
use native.Mathlib.Omega.{arith}
use lib.ListN.{length}
use Rattle.theory.specs.Record.{bytes_of, front}
use Rattle.terms.specs.Numbered.{shape}
use Rattle.names.specs.Kinds.{shaped}
use Rattle.writer.proofs.PlaceLaws.{kind_number, front_long, fill_turn, fill_end}
use Rattle.writer.proofs.encode.encode.Goals as goal

pub loop-number-preserved : goal.loop-number-preserved
loop-number-preserved c =
    fill_turn c.loop-number.invariant c.loop-number-test.true (c.put-in-loop-number.ensures ∙ ap (λ n. c.loop-number.key.items ++ bytes_of 2 n) c.from-in-loop-number.ensures)

pub returns : goal.returns
returns c =
    let long = front_long c.args.kind c.args.x c.args.y in
    let f : c.form.result.front ≡ front (shape c.args.kind) = search rules in
    fill_end (shaped (shape c.args.kind) c.args.x c.args.y) c.from-2.result (c.form.result.front + 2 * length c.args.numbers.now) (kind_number c.args.kind c.args.x c.args.y ∙ sym (c.from-2.ensures ∙ c.from.ensures))
    c.new-key.ensures c.put.ensures c.put-2.ensures c.put_front.ensures (omega (arith, f, long)) c.loop-number.invariant c.loop-number-test.false
