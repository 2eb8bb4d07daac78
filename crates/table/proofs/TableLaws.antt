-- What keeps the table: a row more, and a row less. Assumes nothing.
use mathlib.Core.Path.{◌≡◌, sym, ap, ◌∙◌}
use Prim.Native.Nat.{ℕ, ◌+◌, ◌*◌, ◌≤◌, ◌<◌}
use native.Mathlib.Decide.{dec_lt, ℕ_discrete}
use native.Mathlib.Omega.{arith}
use lib.ListN.{length}
use borrow.Author.Count.{below_more}
use Rattle.theory.specs.Record.{Bytes}
use Rattle.terms.specs.Framing.{record_at}
use Rattle.rows.specs.Layout.{link_at, offset_at, row_size}
use Rattle.rows.specs.Rows.{Rows}
use Rattle.table.specs.Buckets.{TableOf, bucket_of, head_at, newest, row_bucket, seed_in}
use Rattle.table.proofs.BucketLaws.{bucket_same, newest_here, newest_other, newest_same}

-- a row whose offset stays is in the same bucket
pub row_same : (l : ℕ) (job work after : Bytes) (c k : ℕ) → (0 < c → seed_in after ≡ seed_in work) → offset_at l after k ≡ offset_at l work k
    → row_bucket l job after c k ≡ row_bucket l job work c k
unfolding row_bucket
row_same l job work after c k seed e = ap (λ (o : ℕ). bucket_of after c (record_at job o)) e ∙ bucket_same work after c (record_at job (offset_at l work k)) seed

-- a row with record x is in x's bucket
row_new : (l : ℕ) (job work after : Bytes) (c k : ℕ) (x : Bytes) → (0 < c → seed_in after ≡ seed_in work) → record_at job (offset_at l after k) ≡ x
    → row_bucket l job after c k ≡ bucket_of work c x
unfolding row_bucket
row_new l job work after c k x seed e = ap (λ (y : Bytes). bucket_of after c y) e ∙ bucket_same work after c x seed

-- a row less: the head of the last row's bucket now holds that row's link
module _ (l : ℕ) (job work after : Bytes) (n start c : ℕ) (table : TableOf l job work (n + 1) start c) (seed : 0 < c → seed_in after ≡ seed_in work)
    (head : row_bucket l job work c n < c → head_at l after start (row_bucket l job work c n) ≡ link_at l work n)
    (others : (i : ℕ) → i < c → (i ≡ row_bucket l job work c n → ⊥) → head_at l after start i ≡ head_at l work start i)
    (offsets : (k : ℕ) → k < n → offset_at l after k ≡ offset_at l work k) (links : (k : ℕ) → k < n → link_at l after k ≡ link_at l work k)
    (rows : Rows l job after n) (long : length after ≡ length work) where
  less_same : (k : ℕ) → k < n → row_bucket l job after c k ≡ row_bucket l job work c k
  less_same k h = row_same l job work after c k seed (offsets k h)

  less_newest : (j k : ℕ) → k ≤ n → newest (row_bucket l job after c) j k ≡ newest (row_bucket l job work c) j k
  less_newest j k h = newest_same (row_bucket l job work c) (row_bucket l job after c) j k (λ i a. less_same i (omega arith))

  less_head : (i : ℕ) → i < c → Dec (i ≡ row_bucket l job work c n) → head_at l after start i ≡ newest (row_bucket l job after c) i n
  less_head i h (yes e) =
      rw e (head (rw (← e) h) ∙ table.links n (omega arith) ∙ sym (less_newest (row_bucket l job work c n) n (omega arith)))
  less_head i h (no e) =
      others i h e ∙ table.heads i h ∙ newest_other (row_bucket l job work c) i n (λ q. e (sym q)) ∙ sym (less_newest i n (omega arith))

  pub table_less : TableOf l job after n start c
  table_less = record {
    rows = rows;
    below = omega (arith, table.below);
    within = rw long table.within;
    cells = λ h. rw long (table.cells h);
    small = table.small;
    heads = λ i h. less_head i h (ℕ_discrete i (row_bucket l job work c n));
    links = λ k h. links k h ∙ table.links k (omega arith) ∙ sym (less_newest (row_bucket l job after c k) k (omega arith) ∙ ap (λ (j : ℕ). newest (row_bucket l job work c) j k) (less_same k h));
    distinct = λ i j a b q. table.distinct i j (omega arith) (omega arith)
        (ap (λ (o : ℕ). record_at job o) (sym (offsets i a)) ∙ q ∙ ap (λ (o : ℕ). record_at job o) (offsets j b));
  }

-- a row more: row n has x's record and links to what x's bucket started at, and the bucket starts at it
module _ (l : ℕ) (job work after : Bytes) (n start c : ℕ) (x : Bytes) (table : TableOf l job work n start c) (seed : 0 < c → seed_in after ≡ seed_in work)
    (head : bucket_of work c x < c → head_at l after start (bucket_of work c x) ≡ n + 1)
    (others : (i : ℕ) → i < c → (i ≡ bucket_of work c x → ⊥) → head_at l after start i ≡ head_at l work start i)
    (offsets : (k : ℕ) → k < n → offset_at l after k ≡ offset_at l work k) (named : record_at job (offset_at l after n) ≡ x)
    (links : (k : ℕ) → k < n → link_at l after k ≡ link_at l work k) (link : link_at l after n ≡ newest (row_bucket l job work c) (bucket_of work c x) n)
    (none : (k : ℕ) → k < n → x ≡ record_at job (offset_at l work k) → ⊥)
    (rows : Rows l job after (n + 1)) (below : (n + 1) * row_size l ≤ start) (long : length after ≡ length work) where
  more_same : (k : ℕ) → k < n → row_bucket l job after c k ≡ row_bucket l job work c k
  more_same k h = row_same l job work after c k seed (offsets k h)

  more_new : row_bucket l job after c n ≡ bucket_of work c x
  more_new = row_new l job work after c n x seed named

  more_newest : (j k : ℕ) → k ≤ n → newest (row_bucket l job after c) j k ≡ newest (row_bucket l job work c) j k
  more_newest j k h = newest_same (row_bucket l job work c) (row_bucket l job after c) j k (λ i a. more_same i (omega arith))

  more_head : (i : ℕ) → i < c → Dec (i ≡ bucket_of work c x) → head_at l after start i ≡ newest (row_bucket l job after c) i (n + 1)
  more_head i h (yes e) = ap (head_at l after start) e ∙ head (rw (← e) h) ∙ sym (newest_here (row_bucket l job after c) i n (more_new ∙ sym e))
  more_head i h (no e) =
      others i h e ∙ table.heads i h ∙ sym (newest_other (row_bucket l job after c) i n (λ q. e (sym q ∙ more_new)) ∙ more_newest i n (omega arith))

  more_link : (k : ℕ) → k < n + 1 → link_at l after k ≡ newest (row_bucket l job after c) (row_bucket l job after c k) k
  more_link =
      below_more (λ k. link_at l after k ≡ newest (row_bucket l job after c) (row_bucket l job after c k) k) n
      (λ k h. links k h ∙ table.links k h ∙ sym (more_newest (row_bucket l job after c k) k (omega arith) ∙ ap (λ (j : ℕ). newest (row_bucket l job work c) j k) (more_same k h)))
      (link ∙ sym (more_newest (row_bucket l job after c n) n (omega arith) ∙ ap (λ (j : ℕ). newest (row_bucket l job work c) j n) more_new))

  more_distinct : (i j : ℕ) → i < n + 1 → j < n + 1 → record_at job (offset_at l after i) ≡ record_at job (offset_at l after j)
      → Dec (i < n) → Dec (j < n) → i ≡ j
  more_distinct i j a b q (yes e) (yes f) =
      table.distinct i j e f (ap (λ (o : ℕ). record_at job o) (sym (offsets i e)) ∙ q ∙ ap (λ (o : ℕ). record_at job o) (offsets j f))
  more_distinct i j a b q (yes e) (no f) =
      let g : j ≡ n = omega arith in
      absurd (none i e (sym named ∙ ap (λ (k : ℕ). record_at job (offset_at l after k)) (sym g) ∙ sym q ∙ ap (λ (o : ℕ). record_at job o) (offsets i e)))
  more_distinct i j a b q (no e) (yes f) =
      let g : i ≡ n = omega arith in
      absurd (none j f (sym named ∙ ap (λ (k : ℕ). record_at job (offset_at l after k)) (sym g) ∙ q ∙ ap (λ (o : ℕ). record_at job o) (offsets j f)))
  more_distinct i j a b q (no e) (no f) = omega arith

  pub table_more : TableOf l job after (n + 1) start c
  table_more = record {
    rows = rows;
    below = below;
    within = rw long table.within;
    cells = λ h. rw long (table.cells h);
    small = table.small;
    heads = λ i h. more_head i h (ℕ_discrete i (bucket_of work c x));
    links = more_link;
    distinct = λ i j a b q. more_distinct i j a b q (dec_lt i n) (dec_lt j n);
  }
