use mathlib.Core.Path.{◌≡◌, sym, ap, ap₂, subst, ◌∙◌}
use Prim.Native.Nat.{ℕ, ◌+◌}
use native.Mathlib.Omega.{arith}
use Rattle.theory.specs.Record.{Bytes}
use Rattle.rows.proofs.RowLaws.{rows_small, same_equal, same_sound}
use Rattle.rows.specs.Layout.{link_at, offset_at}
use Rattle.table.specs.Falls.{Falls}
use Rattle.table.specs.declared.walk.Bucket.{Bucket}
use Rattle.table.proofs.BucketLaws.{Seeking, seek_falls, seek_found, seek_next, seek_none, seek_row, seek_start, told_none, told_some}
use Rattle.table.proofs.walk.walk.Goals as goal

pub invariant_of-row-items : goal.invariant_of-row-items
invariant_of-row-items g c = record { falls = subst (λ (l : ℕ). Falls l c.args.work.now c.args.first) (sym c.LINK_BYTES.ensures) (seek_falls (seek_start c.requires)) }

pub loop-row-init : goal.loop-row-init
loop-row-init g c = let a = c.args in let i = c.into_iter-row-iterator.ensures.into_iter_gives in (
  ap (λ (b : Bucket). b.work.now) i,
  (
    ap (λ (b : Bucket). b.link_bytes) i ∙ c.LINK_BYTES.ensures,
    subst (λ (held : ℕ). Seeking g.N.Lengths.LINK_BYTES a.job.now a.work.now a.n a.wanted.now held) (sym (ap (λ (b : Bucket). b.held) i)) (seek_start c.requires),
  ),
)

pub overflow_cast-result : goal.overflow_cast-result
overflow_cast-result g c =
    let s = c.loop-row.invariant.1.1 in let t = c.in-Some.ensures.steps in
    let r = rows_small s.table.rows in let l = seek_row s (λ z. omega (arith, t.more)) in omega (arith, t.item_is)

pub returns-then-is_record : goal.returns-then-is_record
returns-then-is_record g c =
    let s = c.loop-row.invariant.1.1 in let t = c.in-Some.ensures.steps in
    let more : c.loop-row.row-iterator.held ≡ 0 → ⊥ = λ z. omega (arith, t.more) in
    let r = rows_small s.table.rows in let l = seek_row s more in
    told_some (ap (λ (k : ℕ). k + 2) t.item_is ∙ seek_found s more (c.offset_as.ensures.value ∙ ap₂ (λ (l k : ℕ). offset_at l c.args.work.now k) c.LINK_BYTES-in-loop-row.ensures t.item_is) (same_sound _ _ (sym c.is_record.ensures ∙ c.if-is_record.true))) (λ m. omega (arith, t.item_is))

pub loop-row-preserved : goal.loop-row-preserved
loop-row-preserved g c =
    let i = c.loop-row.invariant in let t = c.in-Some.ensures.steps in
    let more : c.loop-row.row-iterator.held ≡ 0 → ⊥ = λ z. omega (arith, t.more) in (
      ap (λ b. b.now) t.work_is ∙ i.0,
      (
        t.length_is ∙ i.1.0,
        seek_next i.1.1 more (c.offset_as.ensures.value ∙ ap₂ (λ (l k : ℕ). offset_at l c.args.work.now k) c.LINK_BYTES-in-loop-row.ensures t.item_is)
            (t.next_is ∙ ap₂ (λ (l : ℕ) (w : Bytes). link_at l w c.in-Some.row) i.1.0 i.0 ∙ ap (link_at g.N.Lengths.LINK_BYTES c.args.work.now) t.item_is)
            (λ e. let z = sym (same_equal e) ∙ sym c.is_record.ensures ∙ c.if-is_record.false in cc),
      ),
    )

pub returns : goal.returns
returns g c = told_none (seek_none c.loop-row.invariant.1.1 c.in-None.ensures.steps.0)
