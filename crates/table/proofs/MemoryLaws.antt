-- What a stored row and a stored head do to the table and to the lists of what the rows keep.
use mathlib.Core.Path.{◌≡◌, refl, sym, ap, ap₂, ◌∙◌, subst}
use mathlib.Core.Bool.{Bool, true, false, cond}
use mathlib.Core.List.{[], ◌∷◌, ◌++◌}
use Prim.Native.Nat.{ℕ, suc, ◌+◌, ◌*◌, ◌-◌, ◌/◌, ◌^◌, ◌≤◌, ◌<◌, min}
use native.Mathlib.Nat.{not-suc-le-zero, le_trans, mod-lt, div-add-mod', zero-div, pow-le-pow_right}
use native.Mathlib.Decide.{dec_lt}
use native.Mathlib.Omega.{arith}
use lib.Dec.{eqb}
use lib.ListN.{get_or-append, drop, get_or, get_or-replicate, length, length-append, length-drop, length-replicate, replicate, take}
use lib.Seq.{sets, length-sets, take-nil, drop-nil}
use borrow.Author.Tests.{le-ltb, lt-ltb}
use Rattle.theory.specs.Limit.{max_job, max_terms, term_bytes, first_terms}
use Rattle.theory.specs.Record.{Bytes, little_endian, extent, bytes_of, number_length}
use Rattle.terms.specs.Framing.{record_at}
use Rattle.terms.specs.Bodies.{Length}
use Rattle.terms.proofs.Numbers.{length_of}
use Rattle.rows.specs.Layout.{link_at, link_bytes, measure_at, number_at, offset_at, row_size}
use Rattle.rows.specs.Rows.{Rows, column, kept_as, measures, row_record, stored_row}
use Rattle.rows.specs.Rows as Listed
use Rattle.table.specs.Buckets.{Sought, TableAs, TableOf, added_row, bucket_of, dropped_from, dropped_row, first_in, first_of, head_at, head_count, heads_start, most_heads, most_heads_of, most_rows, newest, row_bucket, seed_bytes, seed_in, stored_head}
use Rattle.table.specs.Promise.{Cleared, Cut, Wiped, carried, cleared, dropped_rows}
use Rattle.rows.proofs.RowLaws.{column_added, column_same, column_take, length_bytes, length_stored, link_before, link_least, link_stored, link_whole, measure_before, measure_stored, number_after, number_after_stored, number_before, number_same, number_stored, offset_before, offset_stored, row_before, row_least, rows_stored}
use Rattle.table.proofs.BucketLaws.{newest_low, sought_from}
use Rattle.table.proofs.TableLaws.{table_less, table_more}

-- ---- a stored head

module _ (l : ℕ) (work : Bytes) (start c j v : ℕ) where
  pub head_in : j < c → stored_head l work start c j v ≡ sets work (start + j * l) (bytes_of l v)
  unfolding stored_head
  head_in h = rw (lt-ltb j c h)

  pub head_out : c ≤ j → stored_head l work start c j v ≡ work
  unfolding stored_head
  head_out h = rw (le-ltb j c h)

  pub length_head : length (stored_head l work start c j v) ≡ length work
  length_head = go (dec_lt j c)
    where
      go : Dec (j < c) → length (stored_head l work start c j v) ≡ length work
      go (yes h) = ap length (head_in h) ∙ length-sets work (start + j * l) (bytes_of l v)
      go (no h) = ap length (head_out (omega arith))

  pub before_head : (at len : ℕ) → at + len ≤ start → number_at (stored_head l work start c j v) at len ≡ number_at work at len
  before_head at len b = go (dec_lt j c)
    where
      go : Dec (j < c) → number_at (stored_head l work start c j v) at len ≡ number_at work at len
      go (yes h) = ap (λ (w : Bytes). number_at w at len) (head_in h) ∙ number_before work (start + j * l) (bytes_of l v) at len (omega arith)
      go (no h) = ap (λ (w : Bytes). number_at w at len) (head_out (omega arith))

  pub after_head : (at len : ℕ) → start + c * l ≤ at → number_at (stored_head l work start c j v) at len ≡ number_at work at len
  after_head at len b = go (dec_lt j c)
    where
      go : Dec (j < c) → number_at (stored_head l work start c j v) at len ≡ number_at work at len
      go (yes h) =
          ap (λ (w : Bytes). number_at w at len) (head_in h)
          ∙ number_after work (start + j * l) (bytes_of l v) at len (let e = length_bytes l v in let r : j * l + l ≤ c * l = row_before l h in omega arith)
      go (no h) = ap (λ (w : Bytes). number_at w at len) (head_out (omega arith))

  pub head_here : j < c → start + c * l ≤ length work → v < 256 ^ l → head_at l (stored_head l work start c j v) start j ≡ v
  unfolding head_at
  head_here h room small =
      ap (λ (w : Bytes). number_at w (start + j * l) l) (head_in h)
      ∙ number_stored work (start + j * l) l v (let r : j * l + l ≤ c * l = row_before l h in omega arith) small

  pub head_other : (i : ℕ) → (i ≡ j → ⊥) → head_at l (stored_head l work start c j v) start i ≡ head_at l work start i
  unfolding head_at
  head_other i d = go (dec_lt j c) (dec_lt i j)
    where
      go : Dec (j < c) → Dec (i < j) → number_at (stored_head l work start c j v) (start + i * l) l ≡ number_at work (start + i * l) l
      go (no h) t = ap (λ (w : Bytes). number_at w (start + i * l) l) (head_out (omega arith))
      go (yes h) (yes t) =
          ap (λ (w : Bytes). number_at w (start + i * l) l) (head_in h)
          ∙ number_before work (start + j * l) (bytes_of l v) (start + i * l) l (let r : i * l + l ≤ j * l = row_before l t in omega arith)
      go (yes h) (no t) =
          ap (λ (w : Bytes). number_at w (start + i * l) l) (head_in h)
          ∙ number_after work (start + j * l) (bytes_of l v) (start + i * l) l
          (let e = length_bytes l v in let u : j < i = omega (arith, d) in let r : j * l + l ≤ i * l = row_before l u in omega arith)

  -- the seed stays
  pub seed_head : start + c * l + 4 ≤ length work → seed_in (stored_head l work start c j v) ≡ seed_in work
  unfolding seed_in
  seed_head h = rw length_head (after_head (length work - 4) 4 (omega arith))

  -- the rows stay
  module _ (n : ℕ) (below : n * row_size l ≤ start) where
    pub offset_head : (k : ℕ) → k < n → offset_at l (stored_head l work start c j v) k ≡ offset_at l work k
    unfolding offset_at
    offset_head k h = before_head (k * row_size l) 3 (omega (arith, row_before (row_size l) h))

    pub measure_head : (k : ℕ) → k < n → measure_at l (stored_head l work start c j v) k ≡ measure_at l work k
    unfolding measure_at
    measure_head k h = before_head (k * row_size l + 3) l (omega (arith, row_before (row_size l) h))

    pub link_head : (k : ℕ) → k < n → link_at l (stored_head l work start c j v) k ≡ link_at l work k
    unfolding link_at
    link_head k h = before_head (k * row_size l + 3 + l) l (omega (arith, row_before (row_size l) h))

    pub rows_head : (job : Bytes) → Rows l job work n → Rows l job (stored_head l work start c j v) n
    rows_head job rows = record {
      link_length = rows.link_length;
      short = rows.short;
      few = rows.few;
      room = rw length_head rows.room;
      inside = λ k h. rw (offset_head k h) (rows.inside k h);
    }

-- ---- a stored row leaves the heads and the seed

module _ (l : ℕ) (work : Bytes) (n offset measure link start : ℕ) (below : n * row_size l + row_size l ≤ start) (within : start ≤ length work) where
  row_room : n * row_size l + row_size l ≤ length work
  row_room = omega arith

  pub head_row : (i : ℕ) → head_at l (stored_row l work n offset measure link) start i ≡ head_at l work start i
  unfolding head_at
  head_row i = number_after_stored l work n offset measure link row_room (start + i * l) l (omega arith)

  pub seed_row : start + 4 ≤ length work → seed_in (stored_row l work n offset measure link) ≡ seed_in work
  unfolding seed_in
  seed_row h = rw (length_stored l work n offset measure link row_room) (number_after_stored l work n offset measure link row_room (length work - 4) 4 (omega arith))

-- ---- a row is added

module _ (l : ℕ) (job work : Bytes) (n start c offset measure first : ℕ) (table : TableOf l job work n start c) (few : first_terms + suc n < 256 ^ l)
    (below : n * row_size l + row_size l ≤ start) (small : offset < 16777216) (inside : offset + extent (drop offset job) ≤ length job)
    (first_is : first ≡ newest (row_bucket l job work c) (bucket_of work c (record_at job offset)) n)
    (none : (k : ℕ) → k < n → record_at job offset ≡ record_at job (offset_at l work k) → ⊥) where
  abbrev j : ℕ
  j = bucket_of work c (record_at job offset)

  abbrev mid : Bytes
  mid = stored_row l work n offset measure first

  abbrev last : Bytes
  last = stored_head l (stored_row l work n offset measure first) start c (bucket_of work c (record_at job offset)) (n + 1)

  room : n * row_size l + row_size l ≤ length work
  room = omega (arith, table.within)

  long : length mid ≡ length work
  long = length_stored l work n offset measure first room

  ends : (n + 1) * row_size l ≤ start
  ends = omega arith

  cells : 0 < c → start + c * l + 4 ≤ length mid
  cells h = rw long (table.cells h)

  offsets : (k : ℕ) → k < n → offset_at l last k ≡ offset_at l work k
  offsets k h = offset_head l mid start c j (n + 1) (n + 1) ends k (omega arith) ∙ offset_before l work n offset measure first room k h

  offset_last : offset_at l last n ≡ offset
  offset_last = offset_head l mid start c j (n + 1) (n + 1) ends n (omega arith) ∙ offset_stored l work n offset measure first room small

  first_small : first < 256 ^ l
  first_small = omega (arith, first_is, newest_low (row_bucket l job work c) j n)

  pub table_added : TableOf l job (added_row l work n start c (bucket_of work c (record_at job offset)) offset measure first) (n + 1) start c
  unfolding added_row
  table_added =
      table_more l job work last n start c (record_at job offset) table
      (λ h. seed_head l mid start c j (n + 1) (cells h) ∙ seed_row l work n offset measure first start below table.within (omega (arith, table.cells h)))
      (λ h. head_here l mid start c j (n + 1) h (omega (arith, cells (omega arith))) (omega arith))
      (λ i h d. head_other l mid start c j (n + 1) i d ∙ head_row l work n offset measure first start below table.within i)
      offsets
      (ap (λ (o : ℕ). record_at job o) offset_last)
      (λ k h. link_head l mid start c j (n + 1) (n + 1) ends k (omega arith) ∙ link_before l work n offset measure first room k h)
      (link_head l mid start c j (n + 1) (n + 1) ends n (omega arith) ∙ link_stored l work n offset measure first room first_small ∙ first_is)
      none
      (rows_head l mid start c j (n + 1) (n + 1) ends job (rows_stored l work n offset measure first room job table.rows few small inside))
      ends
      (length_head l mid start c j (n + 1) ∙ long)

  pub length_added : length (added_row l work n start c (bucket_of work c (record_at job offset)) offset measure first) ≡ length work
  unfolding added_row
  length_added = length_head l mid start c j (n + 1) ∙ long

  -- the lists of the records and of the measures have the new row's at the end
  pub kept_added : kept_as l job (added_row l work n start c (bucket_of work c (record_at job offset)) offset measure first) (n + 1) ≡ kept_as l job work n ++ (record_at job offset ∷ [])
  unfolding added_row kept_as
  kept_added =
      column_added (row_record l job work) (row_record l job last) n (record_at job offset)
      (λ k h. ap (λ (o : ℕ). record_at job o) (offsets k h)) (ap (λ (o : ℕ). record_at job o) offset_last)

  pub offsets_added : Listed.offsets l (added_row l work n start c (bucket_of work c (record_at job offset)) offset measure first) (n + 1) ≡ Listed.offsets l work n ++ (offset ∷ [])
  unfolding added_row Listed.offsets
  offsets_added = column_added (offset_at l work) (offset_at l last) n offset offsets offset_last

  pub measures_added : measure < 256 ^ l → measures l (added_row l work n start c (bucket_of work c (record_at job offset)) offset measure first) (n + 1) ≡ measures l work n ++ (measure ∷ [])
  unfolding added_row measures
  measures_added fits =
      column_added (measure_at l work) (measure_at l last) n measure
      (λ k h. measure_head l mid start c j (n + 1) (n + 1) ends k (omega arith) ∙ measure_before l work n offset measure first room k h)
      (measure_head l mid start c j (n + 1) (n + 1) ends n (omega arith) ∙ measure_stored l work n offset measure first room fits)

-- ---- the last row is dropped

-- none of the first n rows has another offset or measure
pub record Unmoved (l : ℕ) (work after : Bytes) (n : ℕ) : Type 0 where
  pub offset : (k : ℕ) → k < n → offset_at l after k ≡ offset_at l work k
  pub measure : (k : ℕ) → k < n → measure_at l after k ≡ measure_at l work k

rows_less : (l : ℕ) (job work : Bytes) (n : ℕ) → Rows l job work (n + 1) → Rows l job work n
rows_less l job work n rows = record { link_length = rows.link_length; short = rows.short; few = omega (arith, rows.few); room = omega (arith, rows.room); inside = λ k h. rows.inside k (omega arith) }

module _ (l : ℕ) (job work : Bytes) (k start c : ℕ) (table : TableOf l job work (k + 1) start c) where
  abbrev before : Bytes
  before = stored_head l work start c (row_bucket l job work c k) (link_at l work k)

  ends_k : k * row_size l ≤ start
  ends_k = omega (arith, table.below)

  link_small : link_at l work k < 256 ^ l
  link_small = omega (arith, table.links k (omega arith), newest_low (row_bucket l job work c) (row_bucket l job work c k) k, table.rows.few)

  pub table_dropped : TableOf l job (dropped_row l job work k start c) k start c
  unfolding dropped_row
  table_dropped =
      table_less l job work before k start c table
      (λ h. seed_head l work start c (row_bucket l job work c k) (link_at l work k) (table.cells h))
      (λ h. head_here l work start c (row_bucket l job work c k) (link_at l work k) h (omega (arith, table.cells (omega arith))) link_small)
      (λ i h d. head_other l work start c (row_bucket l job work c k) (link_at l work k) i d)
      (λ i h. offset_head l work start c (row_bucket l job work c k) (link_at l work k) k ends_k i h)
      (λ i h. link_head l work start c (row_bucket l job work c k) (link_at l work k) k ends_k i h)
      (rows_head l work start c (row_bucket l job work c k) (link_at l work k) k ends_k job (rows_less l job work k table.rows))
      (length_head l work start c (row_bucket l job work c k) (link_at l work k))

  pub unmoved_dropped : {first : Bytes} → Unmoved l first work (k + 1) → Unmoved l first (dropped_row l job work k start c) k
  unfolding dropped_row
  unmoved_dropped same = record {
    offset = λ i h. offset_head l work start c (row_bucket l job work c k) (link_at l work k) k ends_k i h ∙ same.offset i (omega arith);
    measure = λ i h. measure_head l work start c (row_bucket l job work c k) (link_at l work k) k ends_k i h ∙ same.measure i (omega arith);
  }

  pub length_dropped : length (dropped_row l job work k start c) ≡ length work
  unfolding dropped_row
  length_dropped = length_head l work start c (row_bucket l job work c k) (link_at l work k)

-- ---- the numbers that the code reads to drop the last row

module _ (l : ℕ) (job work : Bytes) (k start c at : ℕ) (table : TableOf l job work (k + 1) start c) (place : at ≡ offset_at l work k) where
  pub drop_is : (len j link : ℕ) → len ≡ number_at job at 2 → j ≡ bucket_of work c (take (at + len + 2 - at) (drop at job)) → link ≡ link_at l work k
      → stored_head l work start c j link ≡ dropped_row l job work k start c
  unfolding dropped_row row_bucket
  drop_is len j link e f g =
      let d : at + len + 2 - at ≡ extent (drop at job) = omega arith in
      let q : j ≡ bucket_of work c (record_at job (offset_at l work k)) = f ∙ rw (d, place) in
      ap₂ (λ (i v : ℕ). stored_head l work start c i v) q g

-- ---- the frame

quotient_room : (len r : ℕ) → len / r * r ≤ len
quotient_room len r = let d = div-add-mod' len r in omega arith

-- a row is no longer than what a term costs
pub row_fits : (b : ℕ) → row_size (link_bytes b) ≤ term_bytes b
row_fits b = omega (arith, link_least b)

-- no more rows than terms fit, nor than there can be
pub rows_is : (b len : ℕ) → min (len / term_bytes b) (max_terms b) ≡ most_rows b len
unfolding most_rows
rows_is b len = refl

rows_least : (b len : ℕ) → most_rows b len ≤ len / term_bytes b
rows_least b len = let e = rows_is b len in omega arith

rows_above : (b n len : ℕ) → n < len / term_bytes b → n < max_terms b → n < most_rows b len
rows_above b n len f m = let e = rows_is b len in omega arith

pub start_within : (b len : ℕ) → heads_start b len ≤ len
unfolding heads_start
start_within b len =
    le_trans (times (most_rows b len) (row_size (link_bytes b)) (term_bytes b) (row_fits b))
    (le_trans (row_least (term_bytes b) (rows_least b len)) (quotient_room len (term_bytes b)))
  where
    times : (q r s : ℕ) → r ≤ s → q * r ≤ q * s
    times q r s h = let e : r * q ≤ s * q = row_least q h in let f : q * r ≡ r * q = omega arith in let g : q * s ≡ s * q = omega arith in omega arith

-- as the code sums it up
pub start_is : (b len l rows : ℕ) → l ≡ link_bytes b → rows ≡ most_rows b len → (rows * (3 + 2 * l) ≡ heads_start b len) × (rows * (3 + 2 * l) ≤ len)
unfolding heads_start
start_is b len l rows e f = (rw (e, f), rw (e, f) (start_within b len))

-- where there is memory for one term more than n, and there can be one, there is room for its row
pub start_room : (b n len : ℕ) → n * term_bytes b + term_bytes b ≤ len → n < max_terms b → n * row_size (link_bytes b) + row_size (link_bytes b) ≤ heads_start b len
unfolding heads_start
start_room b n len h few = row_before (row_size (link_bytes b)) (rows_above b n len in_rows few)
  where
    more : (q r : ℕ) → n * r + r ≤ len → q * r ≤ len → len < q * r + r → n < q
    more q r p e m = go (dec_lt n q)
      where
        go : Dec (n < q) → n < q
        go (yes h) = h
        go (no h) = absurd (let k : q * r ≤ n * r = row_least r (let z : q ≤ n = omega arith in z) in omega arith)

    in_rows : n < len / term_bytes b
    in_rows =
        more (len / term_bytes b) (term_bytes b) h (quotient_room len (term_bytes b))
        (let d = div-add-mod' len (term_bytes b) in let m = mod-lt len (let z : 0 < term_bytes b = omega arith in z) in omega arith)

pub row_memory : (b n len : ℕ) {l : ℕ} → l ≡ link_bytes b → n * term_bytes b + term_bytes b ≤ len → n < max_terms b → n * row_size l + row_size l ≤ len
row_memory b n len e h few = rw e (le_trans (start_room b n len h few) (start_within b len))

-- there is always a head allowed, and no more than of any table
pub heads_some : (l : ℕ) → 0 < most_heads_of l
unfolding most_heads_of
heads_some l = go (eqb l 2)
  where
    go : (t : Bool) → 0 < cond t 131072 most_heads
    go true = omega arith
    go false = omega arith

heads_least : (l : ℕ) → most_heads_of l ≤ most_heads
unfolding most_heads_of
heads_least l = go (eqb l 2)
  where
    go : (t : Bool) → cond t 131072 most_heads ≤ most_heads
    go true = omega arith
    go false = omega arith

pub count_few : (l len start : ℕ) → (len - start - 4) / l < most_heads_of l → (len - start - 4) / l ≡ head_count l len start
unfolding head_count
count_few l len start h = rw (lt-ltb ((len - start - 4) / l) (most_heads_of l) h)

pub count_most : (l len start : ℕ) → most_heads_of l ≤ (len - start - 4) / l → most_heads_of l ≡ head_count l len start
unfolding head_count
count_most l len start h = rw (le-ltb ((len - start - 4) / l) (most_heads_of l) h)

pub count_none : (l len start : ℕ) → len - start < 4 → 0 ≡ head_count l len start
count_none l len start h =
    let e : len - start - 4 ≡ 0 = omega arith in
    let q : (len - start - 4) / l ≡ 0 = rw e (zero-div l) in
    sym q ∙ count_few l len start (let m = heads_some l in omega arith)

pub count_is : (l len start : ℕ) → min ((len - start - 4) / l) (most_heads_of l) ≡ head_count l len start
count_is l len start = go (dec_lt ((len - start - 4) / l) (most_heads_of l))
  where
    go : Dec ((len - start - 4) / l < most_heads_of l) → min ((len - start - 4) / l) (most_heads_of l) ≡ head_count l len start
    go (yes h) = let e = count_few l len start h in omega arith
    go (no h) = let e = count_most l len start (omega arith) in omega arith

pub count_least : (l len start : ℕ) → (head_count l len start ≤ (len - start - 4) / l) × (head_count l len start ≤ most_heads)
count_least l len start = go (dec_lt ((len - start - 4) / l) (most_heads_of l)) (heads_least l)
  where
    go : Dec ((len - start - 4) / l < most_heads_of l) → most_heads_of l ≤ most_heads → (head_count l len start ≤ (len - start - 4) / l) × (head_count l len start ≤ most_heads)
    go (yes h) m = let e = count_few l len start h in (omega arith, omega arith)
    go (no h) m = let e = count_most l len start (omega arith) in (omega arith, omega arith)

pub count_room : (l len start : ℕ) → 0 < l → 0 < head_count l len start → start + head_count l len start * l + 4 ≤ len
count_room l len start some h =
    let a : head_count l len start * l ≤ (len - start - 4) / l * l = row_least l (count_least l len start).0 in
    let b = quotient_room (len - start - 4) l in
    let d : 1 * l ≤ head_count l len start * l = row_least l h in
    omega arith

-- the heads of a frame: their number, and where they lie
pub heads_few : (l len start : ℕ) {c : ℕ} → c ≡ head_count l len start → c ≤ most_heads
heads_few l len start e = let k = count_least l len start in omega (arith, k.1)

pub heads_inside : (start : ℕ) {l len c : ℕ} → Length l → c ≡ head_count l len start → 0 < c → start + c * l + seed_bytes ≤ len
heads_inside start {l} {len} sized e h = rw e (count_room l len start sized.some_bytes (subst (λ (k : ℕ). 0 < k) e h))

-- ---- an empty table

zero_number : (s : Bytes) (at len : ℕ) → ((i : ℕ) → i < len → get_or s (at + i) 0 ≡ 0) → number_at s at len ≡ 0
zero_number s at len h = number_same len s [] at (λ i l. h i l) ∙ go len at
  where
    go : (len at : ℕ) → little_endian (take len (drop at [])) ≡ 0
    go len at = rw (drop-nil at, take-nil)

zero_head : (l : ℕ) (work : Bytes) (start c j : ℕ) → ((at : ℕ) → at + 4 < length work → get_or work at 0 ≡ 0) → j < c → start + c * l + 4 ≤ length work → head_at l work start j ≡ 0
unfolding head_at
zero_head l work start c j z h room = zero_number work (start + j * l) l (λ i a. z (start + j * l + i) (let r : j * l + l ≤ c * l = row_before l h in omega arith))

newest_empty : (f : ℕ → ℕ) (j : ℕ) → newest f j 0 ≡ 0
unfolding newest
newest_empty f j = refl

-- a power of 256 is no less than 256
bytes_hold : {l : ℕ} → Length l → 256 ≤ 256 ^ l
bytes_hold {l} h = let q : 256 ^ 1 ≤ 256 ^ l = pow-le-pow_right (omega arith) h.some_bytes in omega arith

pub table_empty : (b : ℕ) → Length b → (job work : Bytes) → length job ≤ max_job → ((at : ℕ) → at + 4 < length work → get_or work at 0 ≡ 0) → TableAs b job work 0
table_empty b lb job work short z =
    let l = link_bytes b in
    let some = (link_whole lb).some_bytes in
    record {
      rows = record { link_length = link_whole lb; short = short; few = let p = bytes_hold (link_whole lb) in omega arith; room = omega arith; inside = λ k h. absurd (not-suc-le-zero h) };
      below = omega arith;
      within = start_within b (length work);
      cells = λ h. count_room (link_bytes b) (length work) (heads_start b (length work)) some h;
      small = (count_least (link_bytes b) (length work) (heads_start b (length work))).1;
      heads = λ j h. zero_head (link_bytes b) work (heads_start b (length work)) (head_count (link_bytes b) (length work) (heads_start b (length work))) j z h
          (count_room (link_bytes b) (length work) (heads_start b (length work)) some (omega arith))
          ∙ sym (newest_empty (row_bucket (link_bytes b) job work (head_count (link_bytes b) (length work) (heads_start b (length work)))) j);
      links = λ k h. absurd (not-suc-le-zero h);
      distinct = λ i j a b q. absurd (not-suc-le-zero a);
    }

-- ---- what callers are promised of a memory that is cleared, and of dropped rows

-- all bytes are zero but the seed's
zeros_before : (m : ℕ) (rest : Bytes) (at : ℕ) → at < m → get_or (replicate m 0 ++ rest) at 0 ≡ 0
zeros_before m rest at h = get_or-append (replicate m 0) rest 0 at (rw length-replicate h) ∙ get_or-replicate m at 0 0 h

pub wiped : (work : Bytes) → Wiped work (replicate (length work) 0)
wiped work = record {
  all_zero = refl;
  ready = λ job short. table_empty (number_length job) (length_of job) job (replicate (length work) 0) short
      (λ at h. get_or-replicate (length work) at 0 0 (omega (arith, length-replicate {A = ℕ} (length work) 0)));
}

pub length_cleared : (work : Bytes) → length (cleared work) ≡ length work
unfolding cleared
length_cleared work =
    length-append (replicate (length work - seed_bytes) 0) (drop (length work - seed_bytes) work)
    ∙ rw (length-replicate, length-drop) (omega arith)

-- a memory too short for a seed stays, and one that is zero up to the seed is cleared
pub cleared_short : (work : Bytes) → length work < 4 → cleared work ≡ work
unfolding cleared
cleared_short work h = let z : length work - 4 ≡ 0 = omega arith in rw z

cleared_zero : (work : Bytes) (at : ℕ) → at + 4 < length work → get_or (cleared work) at 0 ≡ 0
unfolding cleared
cleared_zero work at h = zeros_before (length work - seed_bytes) (drop (length work - seed_bytes) work) at (omega arith)

pub clears : (work : Bytes) → Cleared work (cleared work)
clears work = record {
  memory_is = refl;
  ready = λ job short. table_empty (number_length job) (length_of job) job (cleared work) short
      (λ at h. cleared_zero work at (omega (arith, length_cleared work)));
}

-- a seed that is carried, or not
pub carried_not : (work : Bytes) (n : ℕ) → n < 4 → work ≡ carried work n
unfolding carried
carried_not work n h = rw (lt-ltb n 4 h)

pub carried_on : (work : Bytes) (n : ℕ) → 4 ≤ n → {seed : ℕ} → seed ≡ number_at work (length work - 4) 4 → sets work (n - 4) (bytes_of 4 seed) ≡ carried work n
unfolding carried seed_in
carried_on work n h e = rw (le-ltb n 4 h, e)

-- a table is over the frame of its memory's length
pub framed : (b : ℕ) {job work : Bytes} {n l start c : ℕ} → l ≡ link_bytes b → start ≡ heads_start b (length work) → c ≡ head_count l (length work) start
    → TableAs b job work n → TableOf l job work n start c
framed b e f g table = rw (g, f, e) table

-- a record is looked for from the newest row of its bucket
pub sought_of : (b : ℕ) {job work x : Bytes} {n l first : ℕ} → l ≡ link_bytes b → TableAs b job work n → first ≡ first_of b work n x → Sought l job work n first x
unfolding first_of
sought_of b {job} {work} {x} e table f = rw e (sought_from x table refl f)

-- which is what its bucket's head holds
pub first_is : (b : ℕ) (work x : Bytes) (n : ℕ) {l start c j r : ℕ} → l ≡ link_bytes b → start ≡ heads_start b (length work) → c ≡ head_count l (length work) start
    → j ≡ bucket_of work c x → r ≡ first_in l work n start c j → r ≡ first_of b work n x
unfolding first_of
first_is b work x n e f g h q = q ∙ rw (h, g, f, e)

pub unframed : (b : ℕ) {job work : Bytes} {n l start c : ℕ} → l ≡ link_bytes b → start ≡ heads_start b (length work) → c ≡ head_count l (length work) start
    → TableOf l job work n start c → TableAs b job work n
unframed b {job} {work} {n} {l} {start} e f g table =
    subst (λ (i : ℕ). TableOf i job work n (heads_start b (length work)) (head_count i (length work) (heads_start b (length work)))) e
    (subst (λ (s : ℕ). TableOf l job work n s (head_count l (length work) s)) f
    (subst (λ (i : ℕ). TableOf l job work n start i) g table))

module _ (b : ℕ) {job work after : Bytes} {n m k : ℕ} (table : TableAs b job after k) (same : Unmoved (link_bytes b) work after k)
    (down : k ≤ m) (up : m ≤ k) (less : m ≤ n) where
  end_is : k ≡ m
  end_is = omega arith

  whole : m + (n - m) ≡ n
  whole = omega arith

  -- a list with one entry for each row keeps its first m
  cut_column : {A : Type 0} (f g : ℕ → A) → ((i : ℕ) → i < k → g i ≡ f i) → column g m ≡ take m (column f n)
  cut_column f g e =
      column_same g f m (λ i h. e i (omega arith)) ∙ column_take f m (n - m) ∙ ap (λ (i : ℕ). take m (column f i)) whole

  pub cut : after ≡ dropped_rows b job work n m → Cut b job work after n m
  unfolding kept_as measures Listed.offsets
  cut memory = record {
    memory_is = memory;
    table = subst (λ (i : ℕ). TableAs b job after i) end_is table;
    kept_is = cut_column (row_record (link_bytes b) job work) (row_record (link_bytes b) job after) (λ i h. ap (λ (o : ℕ). record_at job o) (same.offset i h));
    offsets_are = cut_column (offset_at (link_bytes b) work) (offset_at (link_bytes b) after) same.offset;
    measures_are = cut_column (measure_at (link_bytes b) work) (measure_at (link_bytes b) after) same.measure;
  }

-- the rows that the loop has dropped, by what it computed
pub dropped_is : (b : ℕ) (job work after : Bytes) (n m : ℕ) {k l start c : ℕ} → k ≤ m → l ≡ link_bytes b → start ≡ heads_start b (length work)
    → c ≡ head_count l (length work) start → dropped_from l job work start c m (n - m) ≡ dropped_from l job after start c m (k - m) → after ≡ dropped_rows b job work n m
unfolding dropped_rows dropped_from
dropped_is b job work after n m {k} {l} {start} {c} down e f g same =
    let z : k - m ≡ 0 = omega arith in
    let q : dropped_from l job work start c m (n - m) ≡ after = rw z at same in
    sym q ∙ rw (g, f, e)

-- one row dropped, in a loop that goes down to m
module _ {l : ℕ} {job work : Bytes} {m k start c : ℕ} (h : m < k) (table : TableOf l job work k start c) where
  pub before_drop : TableOf l job work (k - 1 + 1) start c
  before_drop =
      let e : k ≡ k - 1 + 1 = omega arith in
      subst (λ (n : ℕ). TableOf l job work n start c) e table

  pub drop_next : {after : Bytes} → after ≡ dropped_row l job work (k - 1) start c
      → dropped_from l job work start c m (k - m) ≡ dropped_from l job after start c m (k - 1 - m)
  unfolding dropped_from
  drop_next {after} e =
      let one : k - m ≡ suc (k - 1 - m) = omega arith in
      let row : m + (k - 1 - m) ≡ k - 1 = omega arith in
      ap (dropped_from l job work start c m) one
      ∙ ap (λ (i : ℕ). dropped_from l job (dropped_row l job work i start c) start c m (k - 1 - m)) row
      ∙ ap (λ (w : Bytes). dropped_from l job w start c m (k - 1 - m)) (sym e)

  pub drop_turn : {first after : Bytes} → Unmoved l first work k → after ≡ dropped_row l job work (k - 1) start c
      → TableOf l job after (k - 1) start c × (length after ≡ length work) × Unmoved l first after (k - 1)
  drop_turn {first} {after} same e =
      let f : k ≡ k - 1 + 1 = omega arith in
      rw e (
        table_dropped l job work (k - 1) start c before_drop,
        length_dropped l job work (k - 1) start c before_drop,
        unmoved_dropped l job work (k - 1) start c before_drop (subst (λ (i : ℕ). Unmoved l first work i) f same),
      )
