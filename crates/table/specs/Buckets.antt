-- Separate chaining over the rows, so that a record is found without a walk over all of them. A record's bytes lead to a bucket; the rows
-- of a bucket form a list, from the newest to the oldest: the bucket's head names the newest, and each row's link the one before it. A head
-- and a link have l bytes, and hold 0 for no row, or one more than a row's index. The work memory has the rows first, then the heads, and
-- in its last four bytes the seed from which the buckets are computed. What is found does not depend on the seed; how long it takes does.
use Rattle.std.specs.Prelude.{◌≡◌, cond, Option, None as none, Some as some, ℕ, zero, suc, ◌+◌, ◌*◌, ◌-◌, ◌/◌, ◌%◌, ◌≤◌, ◌<◌, min, length, drop, get_or, eqb, ltb}
use Rattle.std.proofs.lemmas.List.Edits.{sets}
use Rattle.theory.specs.Limit.{number_bytes, term_bytes, max_terms}
use Rattle.theory.specs.Record.{Bytes, bytes_of, number_length}
use Rattle.rows.specs.Layout.{missing, link_bytes, row_size, number_at, link_at}
use Rattle.rows.specs.Rows.{row_record, Rows, stored_row}

-- ---- the frame: where the heads stand
-- the most heads of any table
abbrev pub most_heads : ℕ
most_heads = 2097152

-- the most of one whose links have l bytes: about twice the most terms
unfoldable pub most_heads_of : ℕ → ℕ
most_heads_of l = cond (eqb l number_bytes) 131072 most_heads

-- the bytes of the seed
abbrev pub seed_bytes : ℕ
seed_bytes = 4

-- how many rows a work memory of len bytes can ever hold: as many as terms fit, and no more than there can be terms
unfoldable pub most_rows : ℕ → ℕ → ℕ
most_rows b len = min (len / term_bytes b) (max_terms b)

-- in a work memory of len bytes the heads stand after these
unfoldable pub heads_start : ℕ → ℕ → ℕ
heads_start b len = most_rows b len * row_size (link_bytes b)

-- how many heads of l bytes there are from `start` to the seed
unfoldable pub head_count : ℕ → ℕ → ℕ → ℕ
head_count l len start = cond (ltb ((len - start - seed_bytes) / l) (most_heads_of l)) ((len - start - seed_bytes) / l) (most_heads_of l)

-- how many buckets a work memory of len bytes has
abbrev pub bucket_count : ℕ → ℕ → ℕ
bucket_count b len = head_count (link_bytes b) len (heads_start b len)

-- ---- the buckets
-- the seed
unfoldable pub seed_in : Bytes → ℕ
seed_in work = number_at work (length work - seed_bytes) seed_bytes

-- the multiplier that a seed gives, from 1 to 2 ^ 30
unfoldable pub multiplier : ℕ → ℕ
multiplier seed = (seed + 668265263) % 1073741824 + 1

-- the same modulo the prime 2 ^ 31 - 1, and not much above it
abbrev pub fold : ℕ → ℕ
fold x = x % 2147483648 + x / 2147483648

-- what is above every hash
abbrev pub hash_end : ℕ
hash_end = 2147483648

-- a number made of h and q words of two bytes: the value of a polynomial, whose coefficients they are, at m
unfoldable pub hash_from : ℕ → ℕ → ℕ → Bytes → ℕ
hash_from m zero h x = h % hash_end
hash_from m (suc q) h x = hash_from m q (fold ((h + number_at x 0 2) * m)) (drop 2 x)

-- a number made of a record's kind and body: the whole words of the body, with the kind's low byte above the first of them. The number of
-- words says the record's length, which is left out
unfoldable pub hash_of : ℕ → Bytes → ℕ
hash_of m x = cond (ltb (length x) 4) 0 (hash_from m ((length x - 4) / 2) (get_or x 2 0 * 65536) (drop 4 x))

-- the bucket of a record, of c buckets; 0 where there are none
unfoldable pub bucket_of : Bytes → ℕ → Bytes → ℕ
bucket_of work c x = hash_of (multiplier (seed_in work)) x * c / hash_end

-- the bucket of row k
unfoldable pub row_bucket : ℕ → Bytes → Bytes → ℕ → ℕ → ℕ
row_bucket l job work c k = bucket_of work c (row_record l job work k)

-- ---- the rows of a bucket
-- one more than the greatest k below n for which f k is j; 0 where there is none
unfoldable pub newest : (ℕ → ℕ) → ℕ → ℕ → ℕ
newest f j zero = 0
newest f j (suc n) = cond (eqb (f n) j) (suc n) (newest f j n)

-- what the head of bucket j holds
unfoldable pub head_at : ℕ → Bytes → ℕ → ℕ → ℕ
head_at l work start j = number_at work (start + j * l) l

-- one more than the newest row of bucket j, of c buckets over n rows: a memory that is too small for heads has one bucket, with all rows
unfoldable pub first_in : ℕ → Bytes → ℕ → ℕ → ℕ → ℕ → ℕ
first_in l work n start c j = cond (ltb j c) (head_at l work start j) n

-- the same of x's bucket, in a work memory where terms' numbers have b bytes
unfoldable pub first_of : ℕ → Bytes → ℕ → Bytes → ℕ
first_of b work n x =
    first_in (link_bytes b) work n (heads_start b (length work)) (bucket_count b (length work)) (bucket_of work (bucket_count b (length work)) x)

-- n rows are kept, with c heads from `start` on: each head names the newest row of its bucket, each link the one before its row in the
-- row's bucket, and no two rows have one record
pub record TableOf (l : ℕ) (job work : Bytes) (n start c : ℕ) : Type 0 where
  pub rows : Rows l job work n
  pub below : n * row_size l ≤ start
  pub within : start ≤ length work
  pub cells : 0 < c → start + c * l + seed_bytes ≤ length work
  pub small : c ≤ most_heads
  pub heads : (j : ℕ) → j < c → head_at l work start j ≡ newest (row_bucket l job work c) j n
  pub links : (k : ℕ) → k < n → link_at l work k ≡ newest (row_bucket l job work c) (row_bucket l job work c k) k
  pub distinct : (i j : ℕ) → i < n → j < n → row_record l job work i ≡ row_record l job work j → i ≡ j

-- THE INVARIANT: n rows are kept in the work memory, and the buckets over them are right. A wiped memory has it with n 0
abbrev pub TableAs : ℕ → Bytes → Bytes → ℕ → Type 0
TableAs b job work n = TableOf (link_bytes b) job work n (heads_start b (length work)) (bucket_count b (length work))

-- by the job's own number length
abbrev pub Table : Bytes → Bytes → ℕ → Type 0
Table job work n = TableAs (number_length job) job work n

-- x is looked for from `first`, the newest row of its bucket
pub record Sought (l : ℕ) (job work : Bytes) (n first : ℕ) (x : Bytes) : Type 0 where
  pub start : ℕ
  pub c : ℕ
  pub table : TableOf l job work n start c
  pub first_is : first ≡ newest (row_bucket l job work c) (bucket_of work c x) n

-- a place, or none where it is missing
unfoldable pub unless_missing : ℕ → Option ℕ
unless_missing p = cond (eqb p missing) none (some p)

-- ---- what is stored
-- the work memory with v in head j, where there is one
unfoldable pub stored_head : ℕ → Bytes → ℕ → ℕ → ℕ → ℕ → Bytes
stored_head l work start c j v = cond (ltb j c) (sets work (start + j * l) (bytes_of l v)) work

-- the work memory with row n stored before the row `first` of bucket j
unfoldable pub added_row : ℕ → Bytes → ℕ → ℕ → ℕ → ℕ → ℕ → ℕ → ℕ → Bytes
added_row l work n start c j offset measure first = stored_head l (stored_row l work n offset measure first) start c j (n + 1)

-- the work memory with the last row, k, dropped: its bucket starts at the row before it
unfoldable pub dropped_row : ℕ → Bytes → Bytes → ℕ → ℕ → ℕ → Bytes
dropped_row l job work k start c = stored_head l work start c (row_bucket l job work c k) (link_at l work k)

-- the work memory with the last `more` of m + more rows dropped, the newest first
unfoldable pub dropped_from : ℕ → Bytes → Bytes → ℕ → ℕ → ℕ → ℕ → Bytes
dropped_from l job work start c m zero = work
dropped_from l job work start c m (suc more) = dropped_from l job (dropped_row l job work (m + more) start c) start c m more
