-- The rows: the records that the work memory keeps, and the place of a record among them.
use Rattle.std.specs.Prelude.{cond, List, [], ◌∷◌, ◌++◌, ℕ, zero, suc, ◌+◌, ◌*◌, ◌^◌, ◌≤◌, ◌<◌, length, drop}
use Rattle.std.proofs.lemmas.List.Edits.{sets}
use Rattle.theory.specs.Limit.{first_terms, max_job}
use Rattle.theory.specs.Term.{same_numbers}
use Rattle.theory.specs.Record.{Bytes, extent, bytes_of}
use Rattle.terms.specs.Framing.{record_at}
use Rattle.terms.specs.Bodies.{Length}
use Rattle.rows.specs.Layout.{missing, link_size, offset_bytes, row_size, offset_at, measure_at}

-- f 0, f 1 and so on, n of them
unfoldable pub column : {A : Type 0} → (ℕ → A) → ℕ → List A
column f zero = []
column f (suc n) = column f n ++ (f n ∷ [])

-- the record of row k
abbrev pub row_record : ℕ → Bytes → Bytes → ℕ → Bytes
row_record l job work k = record_at job (offset_at l work k)

-- THE KEPT LIST: the records of the first n rows
unfoldable pub kept_as : ℕ → Bytes → Bytes → ℕ → List Bytes
kept_as l job work n = column (row_record l job work) n

-- by the job's own number length
abbrev pub kept : Bytes → Bytes → ℕ → List Bytes
kept job work n = kept_as (link_size job) job work n

-- where they stand in the job
unfoldable pub offsets : ℕ → Bytes → ℕ → List ℕ
offsets l work n = column (offset_at l work) n

-- their measures
unfoldable pub measures : ℕ → Bytes → ℕ → List ℕ
measures l work n = column (measure_at l work) n

-- the n rows have places and lie in the work memory, and each row's record lies in the job
pub record Rows (l : ℕ) (job work : Bytes) (n : ℕ) : Type 0 where
  pub link_length : Length l
  pub short : length job ≤ max_job
  pub few : first_terms + n < 256 ^ l
  pub room : n * row_size l ≤ length work
  pub inside : (k : ℕ) → k < n → offset_at l work k + extent (drop (offset_at l work k) job) ≤ length job

-- the place of the first record that equals x, the list's first having place p; or missing
unfoldable pub place_from : ℕ → Bytes → List Bytes → ℕ
place_from p x [] = missing
place_from p x (y ∷ ys) = cond (same_numbers x y) p (place_from (suc p) x ys)

-- the place of a record among the kept ones: `true` and `false` stand before them
abbrev pub place_of : Bytes → List Bytes → ℕ
place_of x rows = place_from first_terms x rows

-- the bytes of a row
unfoldable pub row_bytes : ℕ → ℕ → ℕ → ℕ → Bytes
row_bytes l offset measure link = bytes_of offset_bytes offset ++ (bytes_of l measure ++ bytes_of l link)

-- the work memory with row n stored
unfoldable pub stored_row : ℕ → Bytes → ℕ → ℕ → ℕ → ℕ → Bytes
stored_row l work n offset measure link = sets work (n * row_size l) (row_bytes l offset measure link)

-- the work memory with v as the link of row k
unfoldable pub stored_link : ℕ → Bytes → ℕ → ℕ → Bytes
stored_link l work k v = sets work (k * row_size l + offset_bytes + l) (bytes_of l v)
