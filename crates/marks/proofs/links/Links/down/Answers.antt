use mathlib.Core.Path.{sym, ◌∙◌}
use Rattle.theory.proofs.Basics.{true_T}
use Rattle.marks.proofs.LinkLaws.{kept_more}
use Rattle.marks.proofs.Marking.{marking_start, marking_term, marking_pass, marking_done, marking_same}
use Rattle.marks.proofs.links.Links.down.Goals as goal
use Rattle.marks.proofs.links.Links.down.Goals.{then-is_marked, else-is_marked}

pub loop-k-init : goal.loop-k-init
loop-k-init c = marking_start c.requires c.clear.ensures c.set.ensures

pub loop-k-preserved : goal.loop-k-preserved
loop-k-preserved c =
    let i = c.loop-k.invariant in
    let h = c.loop-k-test.true in
    let e = c.is_marked.ensures in
    elim c.if-is_marked.branch [
      | then-is_marked w ↦ marking_same w.self-is (marking_term i h (true_T _ (sym e ∙ w.if-is_marked.true)) w.set_term.ensures)
      | else-is_marked w ↦ marking_same w.self-is (marking_pass i h (sym e ∙ w.if-is_marked.false))
    ]

pub returns : goal.returns
returns c = marking_done (kept_more c.clear.ensures.kept c.set.ensures.kept) c.loop-k.invariant c.loop-k-test.false
