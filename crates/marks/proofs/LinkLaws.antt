-- The links of rows: storing one moves no row, and changes no other link.
use mathlib.Core.Path.{◌≡◌, refl, sym, ap, subst, ◌∙◌}
use mathlib.Core.Bool.{Bool, true, false, not}
use Prim.Native.Nat.{ℕ, zero, suc, ◌+◌, ◌-◌, ◌*◌, ◌^◌, ◌≤◌, ◌<◌}
use native.Mathlib.Omega.{arith}
use lib.Dec.{T, eqb}
use lib.ListN.{length}
use lib.Seq.{sets}
use borrow.Author.Tests.{eqb-true, eqb-false, ne_eqb}
use Rattle.theory.specs.Limit.{first_terms}
use Rattle.theory.specs.Record.{Bytes, bytes_of, number_length}
use Rattle.theory.specs.Plain.{Plain}
use Rattle.theory.specs.Places.{tree_at}
use Rattle.theory.specs.Listed.{AllGood}
use Rattle.theory.proofs.Basics.{T_true}
use Rattle.theory.proofs.Distinct.{WellKept}
use Rattle.terms.specs.Framing.{record_at}
use Rattle.rows.specs.Layout.{link_at, link_size, measure_at, offset_at, row_size}
use Rattle.rows.specs.Rows.{kept, kept_as, stored_link}
use Rattle.rows.proofs.RowLaws.{column_same, row_before, length_linked, link_here, link_other, offset_linked, measure_linked}
use Rattle.store.specs.Measure.{measure}
use Rattle.store.specs.Shelf.{Shelf, args_at}
use Rattle.store.specs.Store.{listed, stored, records}
use Rattle.marks.specs.Marks.{Room}
use Rattle.marks.specs.Links.{link_of, is_marked, list_of, args_of, Kept, Put, Linked}
use Rattle.marks.specs.declared.links.Links.{Links}

-- ---- a link that is stored
-- in the job's own number length
pub link_stored : (l : Links) (k v : ℕ) {after : Bytes} → after ≡ sets l.work.now (k * (3 + 2 * l.link_bytes) + 3 + l.link_bytes) (bytes_of l.link_bytes v) → after ≡ stored_link (link_size l.job.now) l.work.now k v
unfolding stored_link
link_stored l k v h = rw l.sized at h

module _ {job work after : Bytes} {n k : ℕ} (v : ℕ) (s : Shelf job work n) (low : k < n) (e : after ≡ stored_link (link_size job) work k v) where
  inside : k * row_size (link_size job) + row_size (link_size job) ≤ length work
  inside = omega (arith, s.rows.room, row_before (row_size (link_size job)) low)

  offset_put : (j : ℕ) → offset_at (link_size job) after j ≡ offset_at (link_size job) work j
  offset_put j = ap (λ (z : Bytes). offset_at (link_size job) z j) e ∙ offset_linked (link_size job) work k v inside j

  measure_put : (j : ℕ) → measure_at (link_size job) after j ≡ measure_at (link_size job) work j
  measure_put j = ap (λ (z : Bytes). measure_at (link_size job) z j) e ∙ measure_linked (link_size job) work k v inside j

  length_put : length after ≡ length work
  length_put = ap length e ∙ length_linked (link_size job) work k v inside

  here_put : v < 256 ^ link_size job → link_at (link_size job) after k ≡ v
  here_put h = ap (λ (z : Bytes). link_at (link_size job) z k) e ∙ link_here (link_size job) work k v inside h

  other_put : (j : ℕ) → (j ≡ k → ⊥) → link_at (link_size job) after j ≡ link_at (link_size job) work j
  other_put j f = ap (λ (z : Bytes). link_at (link_size job) z j) e ∙ link_other (link_size job) work k v inside j f

  records_put : kept job after n ≡ kept job work n
  unfolding kept_as
  records_put = column_same _ _ n (λ j h. ap (record_at job) (offset_put j))

  list_put : listed job after n ≡ listed job work n
  list_put = ap (stored (number_length job)) records_put

  -- the rows can still be read
  pub shelf_put : Shelf job after n
  shelf_put = record {
    rows = record {
      link_length = s.rows.link_length;
      short = s.rows.short;
      few = s.rows.few;
      room = subst (λ (z : ℕ). n * row_size (link_size job) ≤ z) (sym length_put) s.rows.room;
      inside = λ j h. rw (offset_put j) (s.rows.inside j h);
    };
    well = subst (WellKept (number_length job)) (sym list_put) s.well;
    sorted = subst AllGood (sym list_put) s.sorted;
    count = ap length list_put ∙ s.count;
    records_are = ap records list_put ∙ s.records_are ∙ sym records_put;
    measures_are = λ j h. measure_put j ∙ s.measures_are j h ∙ ap (λ (list : Plain). measure (tree_at list (first_terms + j))) (sym list_put);
  }

pub put_done : {old new : Links} {k v : ℕ} → k < old.rows → new.job.now ≡ old.job.now → new.rows ≡ old.rows → new.work.ghost_name ≡ old.work.ghost_name
    → new.work.now ≡ stored_link (link_size old.job.now) old.work.now k v → Put old k v new
put_done {old} {new} {k} {v} low e f g h = record {
  kept = record {
    job_is = e;
    rows_are = f;
    memory_is = g;
    length_is = length_put v old.shelf low h;
    list_is = ap (λ (j : Bytes). listed j new.work.now new.rows) e ∙ ap (listed old.job.now new.work.now) f ∙ list_put v old.shelf low h;
  };
  here = λ l. ap (λ (j : Bytes). link_at (link_size j) new.work.now k) e ∙ here_put v old.shelf low h l;
  others = λ i d. ap (λ (j : Bytes). link_at (link_size j) new.work.now i) e ∙ other_put v old.shelf low h i d;
}

-- ---- what stays
pub kept_self : (l : Links) → Kept l l
kept_self l = record { job_is = refl; rows_are = refl; memory_is = refl; length_is = refl; list_is = refl }

pub kept_more : {old mid new : Links} → Kept old mid → Kept mid new → Kept old new
kept_more h g = record {
  job_is = g.job_is ∙ h.job_is;
  rows_are = g.rows_are ∙ h.rows_are;
  memory_is = g.memory_is ∙ h.memory_is;
  length_is = g.length_is ∙ h.length_is;
  list_is = g.list_is ∙ h.list_is;
}

pub args_same : {old new : Links} → Kept old new → (p : ℕ) → args_of new p ≡ args_of old p
args_same {old} {new} e p = ap (λ (b : ℕ). args_at b (list_of new) p) (ap number_length e.job_is) ∙ ap (λ (list : Plain). args_at (number_length old.job.now) list p) e.list_is

-- a place of the rows is one of them still
pub low_kept : {old new : Links} {place : ℕ} → Kept old new → place < first_terms + old.rows → place < first_terms + new.rows
low_kept e l = omega (arith, e.rows_are)

-- the row of a place, and the two that it is counted beyond
place_rows : (p r : ℕ) → first_terms ≤ p → p * r ≡ (p - first_terms) * r + r + r
place_rows p r l = let e : p ≡ suc (suc (p - first_terms)) = omega arith in ap (λ (q : ℕ). q * r) e ∙ omega arith

pub room_in : (job work : Bytes) (n : ℕ) → n * row_size (link_size job) ≤ length work → (k : ℕ) → k < first_terms + n → Room job work k
room_in job work n h k l = record {
  room = λ z.
      let low : k - first_terms < n = omega arith in
      omega (arith, place_rows k (row_size (link_size job)) z, row_before (row_size (link_size job)) low);
}

-- ---- one link
module _ {old new : Links} {place v : ℕ} where
  pub link_row : first_terms ≤ place → v < 256 ^ link_size old.job.now → Put old (place - first_terms) v new → Linked old place v new
  link_row l h p = record {
    kept = p.kept;
    here = λ z. p.here h;
    others = λ i f. p.others i (λ z. f (let y : suc (suc i) ≡ place = omega arith in y));
  }

  -- a link that is no 0 leaves a marked place marked
  pub link_marks : Linked old place v new → 1 ≤ v → T (is_marked old place) → (p : ℕ) → is_marked new p ≡ is_marked old p
  link_marks s h m zero = refl
  link_marks s h m (suc zero) = refl
  link_marks s h m (suc (suc i)) = go (eqb (suc (suc i)) place) (eqb-true (suc (suc i)) place) (eqb-false (suc (suc i)) place)
    where
      go : (b : Bool) → (b ≡ true → suc (suc i) ≡ place) → (b ≡ false → suc (suc i) ≡ place → ⊥) → is_marked new (suc (suc i)) ≡ is_marked old (suc (suc i))
      go true f g =
          let e = f refl in
          let k : place - first_terms ≡ i = omega arith in
          ap (λ (z : ℕ). not (eqb z 0)) (ap (link_of new) (sym k) ∙ s.here (omega arith)) ∙ ap not (ne_eqb v 0 (λ z. omega arith))
          ∙ sym (T_true _ (subst (λ (z : ℕ). T (is_marked old z)) (sym e) m))
      go false f g = ap (λ (z : ℕ). not (eqb z 0)) (s.others i (g refl))
