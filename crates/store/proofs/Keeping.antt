-- The kept list and its rows: each row's record is the record of its entry, and says its term.
use mathlib.Core.Path.{◌≡◌, refl, sym, ap, ap₂, subst, ◌∙◌}
use mathlib.Core.Bool.{true}
use mathlib.Core.List.{List, [], ◌∷◌, map}
use Rattle.std.specs.Prelude.{Result, Ok, Err, Some as some}
use Prim.Native.Nat.{ℕ, zero, suc, ◌+◌, ◌*◌, ◌-◌, ◌<◌, ◌≤◌}
use native.Mathlib.Omega.{arith}
use lib.Dec.{T}
use lib.ListN.{length, take, drop, get_or, length-take, length-drop}
use Rattle.std.specs.Prelude.{slice_get as get_elem?}
use lib.Seq.{get_or-drop}
use borrow.Author.Tests.{le-leb}
use Rattle.theory.specs.Limit.{first_terms}
use Rattle.theory.specs.Kind.{Op, True, False}
use Rattle.theory.specs.Term.{Term, node, nil}
use Rattle.theory.specs.Record as R
use Rattle.theory.specs.Record.{Bytes, word, extent, whole, term, read, shape_of, number_length}
use Rattle.theory.specs.Plain.{Entry, entry, Plain}
use Rattle.theory.specs.Codes.{all_below}
use Rattle.theory.proofs.Bytes.{Sound, says_term}
use Rattle.theory.specs.Places.{entry_at, tree_at, tree_of}
use Rattle.theory.proofs.Distinct.{Entered, tree_0, tree_1}
use Rattle.theory.proofs.Distinct as T
use Rattle.terms.specs.Framing.{record_at}
use Rattle.terms.proofs.Numbers.{length_of}
use Rattle.rows.specs.Layout.{link_size, offset_at, row_size}
use Rattle.rows.proofs.RowLaws.{row_room}
use Rattle.table.proofs.Face.{kept_at}
use Rattle.terms.specs.declared.Term.{Term as Decoded}
use Rattle.terms.specs.declared.Term.TheVariants as D
use Rattle.terms.specs.declared.Item.{Item}
use Rattle.terms.specs.declared.Item.TheVariants as I
use Rattle.terms.specs.declared.Fault.{Fault}
use Rattle.terms.specs.declared.Fault.TheVariants as F
use Rattle.terms.specs.declared.Args.{Args}
use Rattle.terms.specs.Decoded.{words_in, OperandsPlaced, op_of, operands_of, arguments_of, item_of, read_of, PlacedIn}
use Rattle.store.specs.Store.{Store, listed, records}
use Rattle.store.specs.declared.gates.Kept.{Kept}
use Rattle.store.specs.declared.shelf.Terms.{Terms}
use Rattle.store.specs.KeptTerms.{Holds, kept_term}
use Rattle.store.specs.Lookup.{Finds}
use Rattle.store.specs.Kept as K
use Rattle.store.specs.Shelf.{Shelf, TermOn, item_args, args_at}
use Rattle.store.proofs.Lookup.{says_count}
use Rattle.theory.proofs.Basics.{T_true, some_inj, get_elem_of, get_elem_lt}

-- ---- a row's record
get_or_map : {A B : Type 0} (f : A → B) (l : List A) (k : ℕ) (d : A) → get_or (map f l) k (f d) ≡ f (get_or l k d)
get_or_map f [] k d = refl
get_or_map f (x ∷ l) zero d = refl
get_or_map f (x ∷ l) (suc k) d = get_or_map f l k d

-- record k of a list is that of the entry after the first two
pub records_at : (list : Plain) (k : ℕ) → get_or (records list) k [] ≡ (entry_at list (first_terms + k)).bytes
records_at list k =
    get_or_map (λ (e : Entry). e.bytes) (drop first_terms list) k (entry (node True nil) [])
    ∙ ap (λ (e : Entry). e.bytes) (get_or-drop first_terms list k (entry (node True nil) []))

-- a record that lies in the job and is whole
pub stands_whole : (job : Bytes) (at : ℕ) → at + extent (drop at job) ≤ length job → Sound (record_at job at) → whole (drop at job) ≡ true
stands_whole job at h s =
    let bs = drop at job in
    let d : length bs ≡ length job - at = length-drop at job in
    let l : length (take (extent bs) bs) ≡ extent bs = length-take (extent bs) bs ∙ omega arith in
    let g = s.long in
    rw (le-leb 2 (length bs) (omega arith), le-leb 2 (word bs) (omega arith), le-leb (extent bs) (length bs) (omega arith))

-- what was read and is no term says none
says_no_term : (job : Bytes) (r : Result Item Fault) → ((t : Decoded) → r ≡ Ok (I.Term t) → ⊥) → (o : Op) (ks : List ℕ) → read_of job r ≡ term o ks → ⊥
says_no_term job (Ok (I.Term t)) g o ks e = g t refl
says_no_term job (Ok (I.Step n a)) g o ks e = cc
says_no_term job (Ok (I.Chain n a k)) g o ks e = cc
says_no_term job (Ok (I.Back n)) g o ks e = cc
says_no_term job (Err F.Unknown) g o ks e = cc
says_no_term job (Err F.Misfit) g o ks e = cc

module _ {job work : Bytes} {n : ℕ} (s : Shelf job work n) where
  -- the entry of row k
  pub row_kept : (k : ℕ) → k < n → Entered (number_length job) (listed job work n) (first_terms + k) (entry_at (listed job work n) (first_terms + k))
  row_kept k h = T.kept_at (listed job work n) s.well (first_terms + k) (omega arith) (omega (arith, s.count))

  -- a row lies in the work memory
  pub row_lies : {k : ℕ} → k < n → k * row_size (link_size job) + row_size (link_size job) ≤ length work
  row_lies h = row_room s.rows h

  pub row_bytes : (k : ℕ) → k < n → (entry_at (listed job work n) (first_terms + k)).bytes ≡ record_at job (offset_at (link_size job) work k)
  row_bytes k h =
      sym (records_at (listed job work n) k) ∙ ap (λ (rs : List Bytes). get_or rs k []) s.records_are ∙ kept_at (link_size job) job work n k h

  pub row_sound : (k : ℕ) → k < n → Sound (record_at job (offset_at (link_size job) work k))
  row_sound k h = subst Sound (row_bytes k h) (row_kept k h).sound

  pub row_whole : (k : ℕ) → k < n → {at : ℕ} → at ≡ offset_at (link_size job) work k → whole (drop at job) ≡ true
  row_whole k h e = rw e (stands_whole job (offset_at (link_size job) work k) (s.rows.inside k h) (row_sound k h))

  pub row_says : (k : ℕ) (h : k < n) → let e = row_kept k h in read (number_length job) (record_at job (offset_at (link_size job) work k)) ≡ term e.op e.args
  row_says k h = ap (read (number_length job)) (sym (row_bytes k h)) ∙ (row_kept k h).says

  -- what was read at a row's record
  module _ (p : ℕ) (l : first_terms ≤ p) (h : p < first_terms + n) {at : ℕ} (e : at ≡ offset_at (link_size job) work (p - first_terms)) where
    row_place : first_terms + (p - first_terms) ≡ p
    row_place = omega arith

    row_item : {i : R.Item} → i ≡ read (number_length job) (record_at job at) → let q = row_kept (p - first_terms) (omega arith) in i ≡ term q.op q.args
    row_item f = f ∙ ap (λ (k : ℕ). read (number_length job) (record_at job k)) e ∙ row_says (p - first_terms) (omega arith)

    pub row_term : {t : Decoded} → item_of job (I.Term t) ≡ read (number_length job) (record_at job at) → OperandsPlaced job (operands_of t) → TermOn job work n p t
    unfolding args_at
    row_term {t} f o =
        let q = row_kept (p - first_terms) (omega arith) in
        let g = row_item f in
        let a : q.op ≡ op_of t = cc in
        let b : q.args ≡ arguments_of job t = cc in
        record {
          term_at = record {
            made = ap (tree_at (listed job work n)) (sym row_place) ∙ q.made ∙ ap₂ (tree_of (listed job work n)) a b;
            placed = o;
            below = T_true _ (subst (λ (k : ℕ). T (all_below k (arguments_of job t))) row_place (subst (λ (ks : List ℕ). T (all_below (first_terms + (p - first_terms)) ks)) b q.below));
            number = T_true _ (says_count (length_of job) _ (op_of t) (arguments_of job t) (says_term (number_length job) _ (op_of t) (arguments_of job t) (q.says ∙ ap₂ term a b)));
          };
          args_are = sym b ∙ sym (ap item_args q.says) ∙ ap (args_at (number_length job) (listed job work n)) row_place;
        }

    -- once it is known which term it is
    pub read_term_at : (r : Result Item Fault) {t : Decoded} → r ≡ Ok (I.Term t) → read_of job r ≡ read (number_length job) (record_at job at) → PlacedIn job r → TermOn job work n p t
    read_term_at r {t} d f o = row_term {t = t} (ap (read_of job) (sym d) ∙ f) (subst (PlacedIn job) d o)

    -- a row's record says nothing else
    pub read_no_term : (r : Result Item Fault) → ((t : Decoded) → r ≡ Ok (I.Term t) → ⊥) → read_of job r ≡ read (number_length job) (record_at job at) → {t : Decoded} → TermOn job work n p t
    read_no_term r g f =
        let q = row_kept (p - first_terms) (omega arith) in
        absurd (says_no_term job r g q.op q.args (row_item f))

-- `true` and `false` have no record, and so no arguments
no_args : (b : ℕ) (list : Plain) (k : ℕ) → (entry_at list k).bytes ≡ [] → args_at b list k ≡ []
unfolding args_at read shape_of
no_args b list k e = ap (λ (r : Bytes). item_args (read b r)) e

first_bytes : (list : Plain) (k : ℕ) (t : Term) → get_elem? list k ≡ some (entry t []) → (entry_at list k).bytes ≡ []
first_bytes list k t e =
    ap (λ (x : Entry). x.bytes) (some_inj _ _ (sym (get_elem_of list k _ (get_elem_lt list k _ e)) ∙ e))

-- the first two terms have no arguments
pub first_args : {b : ℕ} (list : Plain) → T.WellKept b list → (k : ℕ) → k < first_terms → args_at b list k ≡ []
first_args {b} list w zero h = no_args b list 0 (first_bytes list 0 (node True nil) w.is_true)
first_args {b} list w (suc zero) h = no_args b list 1 (first_bytes list 1 (node False nil) w.is_false)
first_args list w (suc (suc k)) h = absurd (omega arith)

pub true_at : {job work : Bytes} {n : ℕ} → Shelf job work n → (p : ℕ) → p ≡ 0 → TermOn job work n p D.True
true_at {job} {work} {n} s p e = rw e (record {
  term_at = record { made = tree_0 (listed job work n) s.well; placed = tt; below = refl; number = refl };
  args_are = sym (no_args (number_length job) (listed job work n) 0 (first_bytes (listed job work n) 0 (node True nil) s.well.is_true));
})

pub false_at : {job work : Bytes} {n : ℕ} → Shelf job work n → (p : ℕ) → p ≡ 1 → TermOn job work n p D.False
false_at {job} {work} {n} s p e = rw e (record {
  term_at = record { made = tree_1 (listed job work n) s.well; placed = tt; below = refl; number = refl };
  args_are = sym (no_args (number_length job) (listed job work n) 1 (first_bytes (listed job work n) 1 (node False nil) s.well.is_false));
})

-- a store is a shelf
pub shelf : {job work : Bytes} {n : ℕ} → Store job work n → Shelf job work n
shelf s = record {
  rows = s.table.rows;
  well = s.well;
  sorted = s.sorted;
  count = s.count;
  records_are = s.records_are;
  measures_are = s.measures_are;
}

-- and what is kept is a store
pub store_of : (k : Kept) → Store k.lookup.job.now k.lookup.work.now k.lookup.rows
store_of k = record {
  table = k.lookup.table;
  well = k.shelf.well;
  sorted = k.shelf.sorted;
  count = k.shelf.count;
  records_are = k.shelf.records_are;
  measures_are = k.shelf.measures_are;
}

-- terms that hold the rows of a job say what these say
module _ {t : Terms} {job work : Bytes} {n : ℕ} (h : Holds t job work n) where
  pub same_kept : (p : ℕ) → kept_term t p ≡ tree_at (listed job work n) p
  same_kept p = rw (h.job_is, h.work_is, h.rows_are) refl

  pub same_on : {p : ℕ} {d : Decoded} → TermOn t.job.now t.work.now t.rows p d → TermOn job work n p d
  same_on {p} {d} x =
      subst (λ (j : Bytes). TermOn j work n p d) h.job_is
      (subst (λ (w : Bytes). TermOn t.job.now w n p d) h.work_is (subst (λ (k : ℕ). TermOn t.job.now t.work.now k p d) h.rows_are x))

-- what is kept of the rows of a job says what these say
module _ (k : Kept) {job work : Bytes} {n : ℕ} (h : Finds k.lookup job work n) where
  found_terms : K.kept_terms k ≡ listed job work n
  found_terms =
      ap (λ (j : Bytes). listed j k.lookup.work.now k.lookup.rows) h.job_is ∙ ap (λ (w : Bytes). listed job w k.lookup.rows) h.work_is
      ∙ ap (λ (r : ℕ). listed job work r) h.rows_are

  pub found_term : (p : ℕ) → K.kept_term k p ≡ tree_at (listed job work n) p
  found_term p = ap (λ (l : Plain). tree_at l p) found_terms

  pub found_arguments : (a : Args) → K.kept_arguments k a ≡ map (tree_at (listed job work n)) (words_in job a)
  found_arguments a =
      ap (λ (j : Bytes). map (K.kept_term k) (words_in j a)) h.job_is ∙ ap (λ (l : Plain). map (tree_at l) (words_in job a)) found_terms
