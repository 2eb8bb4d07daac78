-- A table over the records of a memory that grows: it stays right.
use mathlib.Core.Path.{◌≡◌, sym, ap, ◌∙◌}
use mathlib.Core.List.{◌++◌}
use Prim.Native.Nat.{ℕ, ◌+◌, ◌-◌, ◌≤◌, ◌<◌}
use native.Mathlib.Omega.{arith}
use lib.ListN.{length, take, drop, length-append, length-drop}
use lib.Seq.{take-append-le, drop-append-le}
use Rattle.theory.specs.Limit.{max_job}
use Rattle.theory.specs.Record.{Bytes, little_endian, extent}
use Rattle.terms.specs.Framing.{record_at}
use Rattle.rows.specs.Layout.{offset_at}
use Rattle.rows.specs.Rows.{row_record, Rows, kept_as}
use Rattle.rows.proofs.RowLaws.{column_same}
use Rattle.table.specs.Buckets.{TableOf, bucket_of, newest, row_bucket}
use Rattle.table.proofs.BucketLaws.{newest_same}

module _ (job more : Bytes) where
  same_part : (n at : ℕ) → at + n ≤ length job → take n (drop at job) ≡ take n (drop at (job ++ more))
  same_part n at h =
      let l : length (drop at job) ≡ length job - at = length-drop at job in
      sym (ap (take n) (drop-append-le at job more (omega arith)) ∙ take-append-le n (drop at job) more (omega arith))

  same_extent : (at : ℕ) → at + 2 ≤ length job → extent (drop at job) ≡ extent (drop at (job ++ more))
  same_extent at h = ap (λ (x : Bytes). 2 + little_endian x) (same_part 2 at h)

  same_record : (at : ℕ) → at + extent (drop at job) ≤ length job → record_at job at ≡ record_at (job ++ more) at
  same_record at h =
      same_part (extent (drop at job)) at h ∙ ap (λ (n : ℕ). take n (drop at (job ++ more))) (same_extent at (omega arith))

  module _ {l : ℕ} {work : Bytes} {n : ℕ} (r : Rows l job work n) where
    same_row : (k : ℕ) → k < n → row_record l job work k ≡ row_record l (job ++ more) work k
    same_row k h = same_record (offset_at l work k) (r.inside k h)

    same_rows : length (job ++ more) ≤ max_job → Rows l (job ++ more) work n
    same_rows s = record {
      link_length = r.link_length;
      short = s;
      few = r.few;
      room = r.room;
      inside = λ k h.
          let i = r.inside k h in
          let e = same_extent (offset_at l work k) (omega arith) in
          let z : length (job ++ more) ≡ length job + length more = length-append job more in
          omega arith;
    }

    pub same_kept : kept_as l job work n ≡ kept_as l (job ++ more) work n
    unfolding kept_as
    same_kept = column_same (row_record l job work) (row_record l (job ++ more) work) n same_row

    same_bucket : (c k : ℕ) → k < n → row_bucket l (job ++ more) work c k ≡ row_bucket l job work c k
    unfolding row_bucket
    same_bucket c k h = ap (bucket_of work c) (sym (same_row k h))

    same_newest : (c j k : ℕ) → k ≤ n → newest (row_bucket l job work c) j k ≡ newest (row_bucket l (job ++ more) work c) j k
    same_newest c j k h = sym (newest_same (row_bucket l job work c) (row_bucket l (job ++ more) work c) j k (λ i b. same_bucket c i (omega arith)))

    -- THE TABLE STAYS RIGHT
    pub same_table : {start c : ℕ} → length (job ++ more) ≤ max_job → TableOf l job work n start c → TableOf l (job ++ more) work n start c
    same_table {start} {c} s t = record {
      rows = same_rows s;
      below = t.below;
      within = t.within;
      cells = t.cells;
      small = t.small;
      heads = λ j h. t.heads j h ∙ same_newest c j n (omega arith);
      links = λ k h. t.links k h ∙ same_newest c (row_bucket l job work c k) k (omega arith)
          ∙ ap (λ (j : ℕ). newest (row_bucket l (job ++ more) work c) j k) (sym (same_bucket c k h));
      distinct = λ i j p q e. t.distinct i j p q (same_row i p ∙ e ∙ sym (same_row j q));
    }
