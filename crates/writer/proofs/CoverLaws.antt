-- The rows over the first terms of a job: they find them, and they stay right when the job grows.
use mathlib.Core.Path.{◌≡◌, refl, sym, ap, ap₂, subst, ◌∙◌}
use mathlib.Core.Bool.{Bool, true, false, cond}
use mathlib.Core.List.{List, [], ◌∷◌, ◌++◌, append_assoc, append-nil}
use Rattle.std.specs.Prelude.{Option, None as none, Some as some}
use Prim.Native.Nat.{ℕ, zero, suc, ◌+◌, ◌-◌, ◌≤◌, ◌<◌}
use native.Mathlib.Omega.{arith}
use lib.ListN.{length, take, drop, length-append, take-append-drop}
use lib.Seq.{take-append-le, drop-append-le, take_all, take-nil, drop-length, drop_at}
use Rattle.theory.specs.Limit.{first_terms, number_bytes, max_job}
use Rattle.theory.specs.Term.{same_numbers}
use Rattle.theory.specs.Optional.{either}
use Rattle.theory.specs.Record.{Bytes, extent, cut, kind_of, step_kind, number_length}
use Rattle.terms.specs.Framing.{record_at}
use Rattle.rows.specs.Layout.{link_bytes, missing}
use Rattle.rows.specs.Rows as R
use Rattle.rows.proofs.RowLaws.{length_kept}
use Rattle.table.specs.Buckets.{TableAs, Table, unless_missing}
use Rattle.table.proofs.BucketLaws.{told_none, told_some}
use Rattle.table.specs.Promise.{count_after, list_after, memory_after, Grown}
use Rattle.table.specs.declared.kept.Added.{Added}
use Rattle.table.specs.declared.kept.Added.TheVariants.{Found, New}
use Rattle.text.specs.Writing.{Lone, Clean, kept, place_from}
use Rattle.text.proofs.Records.{empty_clean, clean_more, kept_more, kept_step}
use Rattle.writer.specs.Places.{row_records, Covered, Ready}
use Rattle.writer.proofs.Frame.{same_kept, same_table}

nothing : {A : Type 0} (l : List A) → length l ≡ 0 → l ≡ []
nothing [] e = refl
nothing (x ∷ l) e = absurd (omega arith)

kept_nothing : kept [] ≡ []
unfolding kept cut
kept_nothing = refl

-- the bytes from a up to b
pub part_is : (a b : ℕ) (l : Bytes) → a ≤ b → take (b - a) (drop a l) ≡ drop a (take b l)
part_is zero b l h = let e : b - 0 ≡ b = omega arith in ap (λ (n : ℕ). take n l) e
part_is (suc a) zero l h = absurd (omega arith)
part_is (suc a) (suc b) [] h = take-nil (suc b - suc a)
part_is (suc a) (suc b) (x ∷ l) h = let e : suc b - suc a ≡ b - a = omega arith in ap (λ (n : ℕ). take n (drop a l)) e ∙ part_is a b l (omega arith)

-- ---- a wiped work memory
pub covered_none : {work : Bytes} → Table [] work 0 → Covered [] work 0 0
unfolding R.kept_as R.column number_length
covered_none t = record { before = omega arith; table = t; split = refl; rest = empty_clean }

-- nothing is put yet
pub ready_first : {out work : Bytes} → Table [] work 0 → Ready out work (record { done = 0; terms = 0; rows = 0; covered = 0 })
unfolding kept cut
ready_first t = record { within = omega arith; counted = refl; clean = empty_clean; few = omega arith; rows = covered_none t }

-- ---- one record more
module _ {job work : Bytes} {rows covered : ℕ} (g : Covered job work rows covered) (r : Bytes) (c : Clean job) (l : Lone r) where
  front : take covered (job ++ r) ≡ take covered job
  front = take-append-le covered job r g.before

  back : drop covered (job ++ r) ≡ drop covered job ++ r
  back = drop-append-le covered job r g.before

  before_more : covered ≤ length (job ++ r)
  before_more = let b = g.before in let n : length (job ++ r) ≡ length job + length r = length-append job r in omega arith

  table_more : TableAs number_bytes (take covered (job ++ r)) work rows
  table_more = subst (λ (x : Bytes). TableAs number_bytes x work rows) (sym front) g.table

  rest_more : Clean (drop covered (job ++ r))
  rest_more = subst Clean (sym back) (clean_more (drop covered job) r g.rest l)

  -- a step
  pub covered_step : kind_of r ≡ step_kind → Covered (job ++ r) work rows covered
  covered_step k = record {
    before = before_more;
    table = table_more;
    split = kept_step job r c l k ∙ g.split
        ∙ ap₂ (λ (x : Bytes) (y : List Bytes). row_records x work rows ++ y) (sym front) (sym (ap kept back ∙ kept_step (drop covered job) r g.rest l k));
    rest = rest_more;
  }

  -- a term
  module _ (f : kind_of r ≡ step_kind → ⊥) where
    pub covered_more : Covered (job ++ r) work rows covered
    covered_more = record {
      before = before_more;
      table = table_more;
      split = kept_more job r c l f ∙ ap (λ (x : List Bytes). x ++ (r ∷ [])) g.split ∙ append_assoc (row_records (take covered job) work rows) (kept (drop covered job)) (r ∷ [])
          ∙ ap₂ (λ (x : Bytes) (y : List Bytes). row_records x work rows ++ y) (sym front) (sym (ap kept back ∙ kept_more (drop covered job) r g.rest l f));
      rest = rest_more;
    }

    -- with a row
    module _ (short : length (job ++ r) ≤ max_job) where
      whole_is : take covered job ++ (drop covered job ++ r) ≡ job ++ r
      whole_is = sym (append_assoc (take covered job) (drop covered job) r) ∙ ap (λ (x : Bytes). x ++ r) (take-append-drop covered job)

      pub covered_table : TableAs number_bytes (job ++ r) work rows
      covered_table =
          subst (λ (x : Bytes). TableAs number_bytes x work rows) whole_is
          (same_table (take covered job) (drop covered job ++ r) g.table.rows (subst (λ (x : Bytes). length x ≤ max_job) (sym whole_is) short) g.table)

      rows_same : row_records (take covered job) work rows ≡ row_records (job ++ r) work rows
      rows_same = same_kept (take covered job) (drop covered job ++ r) g.table.rows ∙ ap (λ (x : Bytes). row_records x work rows) whole_is

      record_is : record_at (job ++ r) (length job) ≡ r
      record_is =
          ap (λ (x : Bytes). take (extent x) x) (drop_at job r (length job) refl) ∙ ap (λ (n : ℕ). take n r) l.size ∙ take_all (length r) r (omega arith)

      pub record_ends : length job + extent (drop (length job) (job ++ r)) ≤ length (job ++ r)
      record_ends =
          let e : extent (drop (length job) (job ++ r)) ≡ length r = ap extent (drop_at job r (length job) refl) ∙ l.size in
          let n : length (job ++ r) ≡ length job + length r = length-append job r in
          omega arith

      all_rows : rows ≡ length (kept job) → kept job ≡ row_records (take covered job) work rows
      all_rows e =
          let k : length (kept job) ≡ rows + length (kept (drop covered job))
          = ap length g.split ∙ length-append (row_records (take covered job) work rows) (kept (drop covered job))
          ∙ ap (λ (n : ℕ). n + length (kept (drop covered job))) (length_kept (link_bytes number_bytes) (take covered job) work rows) in
          g.split ∙ ap (λ (x : List Bytes). row_records (take covered job) work rows ++ x) (nothing (kept (drop covered job)) (omega arith)) ∙ append-nil (row_records (take covered job) work rows)

      pub covered_row : {work' : Bytes} {a : Option Added} {limit p : ℕ} → rows ≡ length (kept job) → Grown number_bytes (job ++ r) work work' rows limit (length job) 0 a → a ≡ some (New p)
          → Covered (job ++ r) work' (rows + 1) (length (job ++ r))
      unfolding count_after list_after
      covered_row {work'} {a} {limit} {p} e h d =
          let t : Grown number_bytes (job ++ r) work work' rows limit (length job) 0 (some (New p)) = subst (Grown number_bytes (job ++ r) work work' rows limit (length job) 0) d h in
          let n = length (job ++ r) in
          let all : take n (job ++ r) ≡ job ++ r = take_all n (job ++ r) (omega arith) in
          let none_left : drop n (job ++ r) ≡ [] = drop-length (job ++ r) in
          record {
            before = omega arith;
            table = subst (λ (x : Bytes). TableAs number_bytes x work' (rows + 1)) (sym all) t.table;
            split = kept_more job r c l f ∙ ap₂ (λ (x : List Bytes) (y : Bytes). x ++ (y ∷ [])) (all_rows e ∙ rows_same) (sym record_is) ∙ sym t.kept_is
                ∙ sym (append-nil (row_records (job ++ r) work' (rows + 1)))
                ∙ ap₂ (λ (x : Bytes) (y : List Bytes). row_records x work' (rows + 1) ++ y) (sym all) (sym (ap kept none_left ∙ kept_nothing));
            rest = subst Clean (sym none_left) empty_clean;
          }

-- no row was added: the work memory is as it was
module _ {job work work' : Bytes} {n limit at : ℕ} {a : Option Added} (g : Grown number_bytes job work work' n limit at 0 a) where
  unchanged_for : {x : Option Added} → a ≡ x → Grown number_bytes job work work' n limit at 0 x
  unchanged_for e = subst (Grown number_bytes job work work' n limit at 0) e g

  pub unchanged_found : {p : ℕ} → a ≡ some (Found p) → work' ≡ work
  unfolding memory_after
  unchanged_found e = (unchanged_for e).memory_is

  pub unchanged_none : a ≡ none → work' ≡ work
  unfolding memory_after
  unchanged_none e = (unchanged_for e).memory_is

-- ---- a record is looked up
place_append : (p : ℕ) (w : Bytes) (xs ys : List Bytes) → place_from p w (xs ++ ys) ≡ either (place_from (p + length xs) w ys) some (place_from p w xs)
place_append p w [] ys = let e : p ≡ p + 0 = omega arith in ap (λ (n : ℕ). place_from n w ys) e
place_append p w (x ∷ xs) ys = go (same_numbers w x) (place_append (suc p) w xs ys)
  where
    go : (b : Bool) → place_from (suc p) w (xs ++ ys) ≡ either (place_from (suc p + length xs) w ys) some (place_from (suc p) w xs)
        → elim b as (λ z. Option ℕ) [ true ↦ some p | false ↦ place_from (suc p) w (xs ++ ys) ]
        ≡ either (place_from (p + suc (length xs)) w ys) some (elim b as (λ z. Option ℕ) [ true ↦ some p | false ↦ place_from (suc p) w xs ])
    go true e = refl
    go false e = let q : suc p + length xs ≡ p + suc (length xs) = omega arith in e ∙ ap (λ (n : ℕ). either (place_from n w ys) some (place_from (suc p) w xs)) q

-- what the rows' place says: missing, or the place
row_place : (p : ℕ) (w : Bytes) (xs : List Bytes) → p + length xs ≤ missing → place_from p w xs ≡ unless_missing (R.place_from p w xs)
unfolding R.place_from
row_place p w [] h = told_none refl
row_place p w (x ∷ xs) h = go (same_numbers w x) (row_place (suc p) w xs (omega arith))
  where
    go : (b : Bool) → place_from (suc p) w xs ≡ unless_missing (R.place_from (suc p) w xs)
        → elim b as (λ z. Option ℕ) [ true ↦ some p | false ↦ place_from (suc p) w xs ]
        ≡ unless_missing (cond b p (R.place_from (suc p) w xs))
    go true e = told_some refl (λ q. omega arith)
    go false e = e

module _ {job work : Bytes} {rows covered : ℕ} (g : Covered job work rows covered) (w : Bytes) where
  few_rows : first_terms + rows < 65536
  unfolding link_bytes
  few_rows = g.table.rows.few

  by_rows : place_from first_terms w (row_records (take covered job) work rows) ≡ unless_missing (R.place_of w (row_records (take covered job) work rows))
  by_rows =
      let n : length (row_records (take covered job) work rows) ≡ rows = length_kept (link_bytes number_bytes) (take covered job) work rows in
      let f = few_rows in
      row_place first_terms w (row_records (take covered job) work rows) (omega arith)

  in_parts : place_from first_terms w (kept job)
      ≡ either (place_from (rows + 2) w (kept (drop covered job))) some (place_from first_terms w (row_records (take covered job) work rows))
  in_parts =
      let n : first_terms + length (row_records (take covered job) work rows) ≡ rows + 2 = ap (λ (m : ℕ). 2 + m) (length_kept (link_bytes number_bytes) (take covered job) work rows) ∙ omega arith in
      ap (place_from first_terms w) g.split ∙ place_append first_terms w (row_records (take covered job) work rows) (kept (drop covered job))
      ∙ ap (λ (m : ℕ). either (place_from m w (kept (drop covered job))) some (place_from first_terms w (row_records (take covered job) work rows))) n

  -- what the rows say, and the records after them
  module _ {r : Option ℕ} (told : r ≡ unless_missing (R.place_of w (row_records (take covered job) work rows))) where
    by_told : place_from first_terms w (kept job) ≡ either (place_from (rows + 2) w (kept (drop covered job))) some r
    by_told = in_parts ∙ ap (either (place_from (rows + 2) w (kept (drop covered job))) some) (by_rows ∙ sym told)

    pub found_row : {p : ℕ} → r ≡ some p → some p ≡ place_from first_terms w (kept job)
    found_row {p} e = sym (by_told ∙ ap (either (place_from (rows + 2) w (kept (drop covered job))) some) e)

    pub found_rest : r ≡ none → place_from (rows + 2) w (kept (drop covered job)) ≡ place_from first_terms w (kept job)
    found_rest e = sym (by_told ∙ ap (either (place_from (rows + 2) w (kept (drop covered job))) some) e)
