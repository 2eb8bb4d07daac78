use mathlib.Core.Path.{sym, ◌∙◌}
use Rattle.theory.proofs.Basics.{true_T}
use Rattle.marks.proofs.Threading.{threading_turn, threading_pass, threading_same, threading_done}
use Rattle.marks.proofs.links.Links.thread.Goals as goal
use Rattle.marks.proofs.links.Links.thread.Goals.{then-is_marked, else-is_marked}

pub loop-k-preserved : goal.loop-k-preserved
loop-k-preserved c =
    let i = c.loop-k.invariant in
    let h = c.loop-k-test.true in
    let e = c.is_marked.ensures in
    let m = i.0.marks_are c.loop-k.k in (
      elim c.if-is_marked.branch [
        | then-is_marked w ↦ threading_same w.self-is w.next-is (threading_turn i.0 h (true_T _ (sym m ∙ sym e ∙ w.if-is_marked.true)) w.link.ensures)
        | else-is_marked w ↦ threading_same w.self-is w.next-is (threading_pass i.0 h (sym m ∙ sym e ∙ w.if-is_marked.false))
      ],
      i.1,
    )

pub returns : goal.returns
returns c = threading_done c.loop-k.invariant.0 c.loop-k-test.false c.loop-k.invariant.1 c.link-2.ensures
