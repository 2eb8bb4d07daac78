-- Taking a term: the row that is added builds the entry that the record's term adds to the list.
use mathlib.Core.Path.{◌≡◌, refl, sym, ap, ap₂, subst, ◌∙◌}
use mathlib.Core.Bool.{Bool, true, false, ◌&&◌, ◌||◌, cond}
use mathlib.Core.List.{List, [], ◌∷◌, ◌++◌, map, map-append}
use Rattle.std.specs.Prelude.{Option, Result, Ok, Err, None as none, Some as some}
use Prim.Native.Nat.{ℕ, zero, suc, ◌+◌, ◌-◌, ◌*◌, ◌^◌, ◌<◌, ◌≤◌, min}
use native.Mathlib.Nat.{pow-le-pow_right}
use native.Mathlib.Omega.{arith}
use native.Mathlib.Decide.{ℕ_discrete, dec_le}
use lib.Dec.{T, leb, ltb, eqb, leb→le}
use lib.Ieee.Fits.{and_r}
use lib.ListN.{length, take, drop, get_or, length-take, length-append, get_or-append}
use Rattle.std.specs.Prelude.{slice_get as get_elem?}
use lib.Seq.{take-take, get_or-append_seam, get_or-take, drop-append-le, drop-drop}
use borrow.Author.Tests.{eqb-true, eqb-false, le-leb, lt-leb}
use Rattle.theory.specs.Limit.{number_bytes, Limits, capped, first_terms, max_width, term_bytes}
use Rattle.theory.specs.Kind.{Op, True, arity, kind, takes}
use Rattle.theory.specs.Term.{Term, node, nil, from_list, same_numbers}
use Rattle.theory.specs.Sort.{Sort, bad, bool, bv, good, sort_of, sort_width, first}
use Rattle.theory.specs.Depth.{depth}
use Rattle.theory.specs.Record.{Bytes, AllBytes, little_endian, word, extent, whole, kind_of, term, read, number_length}
use Rattle.theory.specs.Plain.{Entry, entry, Plain, term_of, has, put, feed, feed_item}
use Rattle.theory.specs.Plain as P
use Rattle.theory.specs.Codes.{all_below, first_fault, well_sorted, room}
use Rattle.theory.proofs.Run.{good_snoc}
use Rattle.theory.proofs.Distinct.{has_at, snoc_well}
use Rattle.theory.proofs.Bytes.{take_bytes, drop_bytes}
use Rattle.theory.proofs.Bounds.{depth_step}
use Rattle.theory.proofs.Basics.{some_inj, foldl_append, get_elem_of, T_true}
use Rattle.theory.proofs.Same.{same_numbers_eq}
use Rattle.theory.proofs.Bytes.{Sound, says_term, term_kind}
use Rattle.theory.proofs.Sorts.{sized, sorts_sized}
use Rattle.theory.proofs.Places.{entry_at, tree_at, tree_of, tree_at_old, term_of_is}
use Rattle.theory.proofs.Run.{AllGood}
use Rattle.theory.proofs.Distinct.{WellKept}
use Rattle.terms.specs.Framing.{record_at}
use Rattle.terms.proofs.Numbers.{length_of}
use Rattle.rows.specs.Layout.{link_size, measure_at, missing, number_at}
use Rattle.rows.specs.Rows.{kept, measures, offsets, place_of}
use Rattle.table.specs.Buckets.{Table}
use Rattle.table.specs.Promise.{Grown, room_for, added_for, count_after, list_after, memory_after, with_row}
use Rattle.table.specs.declared.kept.Added.{Added}
use Rattle.table.specs.declared.kept.Added.TheVariants as A
use Rattle.table.proofs.Face.{measures_at, place_stands, place_absent}
use Rattle.rows.proofs.RowLaws.{and_first, length_column, length_kept, link_whole, number_same, rows_small}
use Rattle.terms.specs.declared.Term.{Term as Decoded}
use Rattle.terms.specs.Decoded.{op_of, operands_of, arguments_of}
use Rattle.terms.specs.Numbered.{code_in}
use Rattle.store.specs.Measure.{measure, measure_in}
use Rattle.store.proofs.Measuring.{measure_is, measure_small}
use Rattle.store.specs.Store.{Store, stored, listed, records}
use Rattle.store.specs.Sorts.{Arguments, sort_read, sorts_at, deepest_at}
use Rattle.intern.specs.Kinds.{Fitting, SortDepthOf, sort_in}
use Rattle.intern.proofs.Guarding.{good_read}
use Rattle.store.specs.declared.sorts.Sort.{Sort as Read}
use Rattle.std.specs.Option.{ok_or}
use Rattle.terms.specs.declared.stop.Stop.{Stop}
use Rattle.intern.specs.declared.kinds.SortAndDepth.{SortAndDepth}
use Rattle.store.specs.declared.gates.Lookup.{Lookup}
use Rattle.store.specs.declared.gates.Kept.{Kept}
use Rattle.store.specs.Lookup.{Finds}
use Rattle.terms.specs.declared.stop.Stop.TheVariants as S
use Rattle.intern.specs.Interning.{Answer, Offered, Taken, rows_after, offsets_after, bytes_after, with_term, answer_for, list_after as list_after_of}
use Rattle.store.proofs.Lookup.{says_count}
use Rattle.intern.proofs.Asking.{tree_depth}
use Rattle.intern.proofs.Bools.{deepest_small}
use Rattle.store.proofs.Keeping.{records_at}
use Rattle.intern.specs.declared.Interned.TheVariants as I
use Rattle.terms.proofs.Parts.{whole_parts}

-- the record at `at` is whole
pub whole_sound : (job : Bytes) (at : ℕ) → AllBytes job → whole (drop at job) ≡ true → Sound (record_at job at)
whole_sound job at b w =
    let bs = drop at job in
    let p = whole_parts bs w in
    let x = p.low in
    let y = p.fit in
    let l : length (take (extent bs) bs) ≡ 2 + word bs = length-take (extent bs) bs ∙ omega arith in
    let z : word (take (extent bs) bs) ≡ word bs = ap little_endian (take-take 2 (extent bs) bs (omega arith)) in
    record { bytes = take_bytes (extent bs) bs (drop_bytes at job b); size = l ∙ ap (λ (n : ℕ). 2 + n) (sym z); long = omega arith }

kind_at : (job : Bytes) (at : ℕ) → whole (drop at job) ≡ true → number_at job (at + number_bytes) number_bytes ≡ kind_of (record_at job at)
kind_at job at w =
    let p = whole_parts (drop at job) w in
    let x = p.low in
    let y = p.fit in
    sym (number_same 2 (record_at job at) (drop at job) 2 (λ j b. get_or-take (extent (drop at job)) (drop at job) (2 + j) 0 (omega arith))
    ∙ ap (λ (bs : Bytes). little_endian (take 2 bs)) (drop-drop 2 at job))

-- ---- is the record there?
record There (list : Plain) (r : Bytes) : Type 0 where
  place : ℕ
  near : place < length list
  equal : (entry_at list place).bytes ≡ r

has_there : (list : Plain) (r : Bytes) → T (has list r) → There list r
has_there [] r h = absurd h
has_there (d ∷ list) r h = go (same_numbers d.bytes r) (same_numbers_eq d.bytes r) (has_there list r) h
  where
    go : (b : Bool) → (T b → d.bytes ≡ r) → (T (has list r) → There list r) → T (b || has list r) → There (d ∷ list) r
    go true f g t = record { place = 0; near = omega arith; equal = f tt }
    go false f g t = let q = g t in let l = q.near in record { place = suc q.place; near = omega arith; equal = q.equal }

off : (b : Bool) → (T b → ⊥) → b ≡ false
off true f = absurd (f tt)
off false f = refl

module _ {job work : Bytes} {n : ℕ} (s : Store job work n) (r : Bytes) where
  found_there : (place_of r (kept job work n) ≡ missing → ⊥) → has (listed job work n) r ≡ true
  found_there f =
      let list = listed job work n in
      let q = place_stands r (kept job work n) f in
      let k = q.index in
      let b = q.below in
      let l : first_terms + k < length list = (let x = length_kept (link_size job) job work n in let y = s.count in omega arith) in
      T_true _ (has_at list (first_terms + k) (entry_at list (first_terms + k)) r (get_elem_of list (first_terms + k) (entry (node True nil) []) l)
      (sym (records_at list k) ∙ ap (λ (rs : List Bytes). get_or rs k []) s.records_are ∙ q.equal))

  missing_there : 4 ≤ length r → place_of r (kept job work n) ≡ missing → has (listed job work n) r ≡ false
  missing_there h e = off (has (listed job work n) r) (λ t. let q = has_there (listed job work n) r t in go q.place q.near q.equal)
    where
      bytes_of : (j : ℕ) (x : Term) → get_elem? (listed job work n) j ≡ some (entry x []) → j < length (listed job work n) → (entry_at (listed job work n) j).bytes ≡ []
      bytes_of j x f l = ap (λ (d : Entry). d.bytes) (some_inj _ _ (sym (get_elem_of (listed job work n) j (entry (node True nil) []) l) ∙ f))

      go : (j : ℕ) → j < length (listed job work n) → (entry_at (listed job work n) j).bytes ≡ r → ⊥
      go zero l g = let z = ap length (sym (bytes_of 0 _ s.well.is_true l) ∙ g) in omega arith
      go (suc zero) l g = let z = ap length (sym (bytes_of 1 _ s.well.is_false l) ∙ g) in omega arith
      go (suc (suc k)) l g =
          let x = length_kept (link_size job) job work n in
          let y = s.count in
          let few = rows_small s.table.rows in
          let two : first_terms + k ≡ suc (suc k) = omega arith in
          place_absent r (kept job work n) (omega arith) e k (omega arith)
          (ap (λ (rs : List Bytes). get_or rs k []) (sym s.records_are) ∙ records_at (listed job work n) k ∙ ap (λ (i : ℕ). (entry_at (listed job work n) i).bytes) two ∙ g)

-- ---- the store with the same rows
pub store_same : {job work after : Bytes} {n : ℕ} → Store job work n → Table job after n → kept job after n ≡ kept job work n
    → measures (link_size job) after n ≡ measures (link_size job) work n → Store job after n
store_same {job} {work} {after} {n} s t k m =
    let e : listed job after n ≡ listed job work n = ap (stored (number_length job)) k in
    record {
      table = t;
      well = subst (WellKept (number_length job)) (sym e) s.well;
      sorted = subst AllGood (sym e) s.sorted;
      count = ap length e ∙ s.count;
      records_are = ap records e ∙ s.records_are ∙ sym k;
      measures_are = λ i h.
          sym (measures_at (link_size job) job after n i h) ∙ ap (λ (l : List ℕ). get_or l i 0) m ∙ measures_at (link_size job) job work n i h ∙ s.measures_are i h
          ∙ ap (λ (l : Plain). measure (tree_at l (first_terms + i))) (sym e);
    }

-- ---- one more entry
records_snoc : (list : Plain) (e : Entry) → first_terms ≤ length list → records (list ++ (e ∷ [])) ≡ records list ++ (e.bytes ∷ [])
records_snoc list e h =
    ap (map (λ (x : Entry). x.bytes)) (drop-append-le first_terms list (e ∷ []) h) ∙ map-append (λ (x : Entry). x.bytes) (drop first_terms list) (e ∷ [])

measures_length : (l : ℕ) (work : Bytes) (n : ℕ) → length (measures l work n) ≡ n
unfolding measures
measures_length l work n = length_column (measure_at l work) n

-- an element of a column with one more
column_snoc : (f g : ℕ → ℕ) (n x : ℕ) (l : List ℕ) → length l ≡ n → ((k : ℕ) → k < n → get_or l k 0 ≡ g k) → ((k : ℕ) → k < n + 1 → get_or (l ++ (x ∷ [])) k 0 ≡ f k)
    → ((k : ℕ) → k < n → f k ≡ g k) × (f n ≡ x)
column_snoc f g n x l e p q = (
  λ k h. sym (q k (omega arith)) ∙ get_or-append l (x ∷ []) 0 k (omega arith) ∙ p k h,
  sym (q n (omega arith)) ∙ ap (λ (j : ℕ). get_or (l ++ (x ∷ [])) j 0) (sym e) ∙ get_or-append_seam l x [] 0,
)

module _ {job work : Bytes} {n : ℕ} (s : Store job work n) (r : Bytes) (o : Op) (ks : List ℕ)
    (says : read (number_length job) r ≡ term o ks) (below : T (all_below (length (listed job work n)) ks)) where
  -- what the list becomes
  fed_as : feed (number_length job) (listed job work n) r ≡ cond (has (listed job work n) r) (listed job work n) (listed job work n ++ (entry (tree_of (listed job work n) o ks) r ∷ []))
  unfolding feed
  fed_as = ap (feed_item (listed job work n) r) says ∙ ap (put (listed job work n) r) (term_of_is (listed job work n) o ks below)

  pub fed_old : has (listed job work n) r ≡ true → listed job work n ≡ feed (number_length job) (listed job work n) r
  fed_old e = sym (fed_as ∙ ap (λ (b : Bool). cond b (listed job work n) (listed job work n ++ (entry (tree_of (listed job work n) o ks) r ∷ []))) e)

  module _ (after : Bytes) (new : has (listed job work n) r ≡ false) (k : kept job after (n + 1) ≡ kept job work n ++ (r ∷ [])) where
    fed_new : feed (number_length job) (listed job work n) r ≡ listed job work n ++ (entry (tree_of (listed job work n) o ks) r ∷ [])
    fed_new = fed_as ∙ ap (λ (b : Bool). cond b (listed job work n) (listed job work n ++ (entry (tree_of (listed job work n) o ks) r ∷ []))) new

    pub snoc_fed : listed job after (n + 1) ≡ feed (number_length job) (listed job work n) r
    snoc_fed = ap (stored (number_length job)) k ∙ foldl_append (feed (number_length job)) P.start (kept job work n) (r ∷ [])

    snoc_listed : listed job after (n + 1) ≡ listed job work n ++ (entry (tree_of (listed job work n) o ks) r ∷ [])
    snoc_listed = snoc_fed ∙ fed_new

    -- the trees at the old places, and at the new one
    tree_old : (i : ℕ) → i < n → tree_at (listed job work n) (first_terms + i) ≡ tree_at (listed job after (n + 1)) (first_terms + i)
    tree_old i h =
        let c = s.count in
        sym (ap (λ (l : Plain). tree_at l (first_terms + i)) snoc_listed
        ∙ tree_at_old (listed job work n) (entry (tree_of (listed job work n) o ks) r ∷ []) (first_terms + i) (omega arith))

    tree_new : tree_of (listed job work n) o ks ≡ tree_at (listed job after (n + 1)) (first_terms + n)
    tree_new =
        sym (ap₂ (λ (l : Plain) (j : ℕ). tree_at l j) snoc_listed (sym s.count)
        ∙ ap (λ (e : Entry). e.tree) (get_or-append_seam (listed job work n) (entry (tree_of (listed job work n) o ks) r) [] (entry (node True nil) [])))

    -- each row has its tree's number
    module _ (f g : ℕ → ℕ) (h : Term → ℕ) (same : (i : ℕ) → i < n → f i ≡ g i) (last : f n ≡ h (tree_of (listed job work n) o ks))
        (old : (i : ℕ) → i < n → g i ≡ h (tree_at (listed job work n) (first_terms + i))) where
      numbers_snoc : (i : ℕ) → i < n + 1 → f i ≡ h (tree_at (listed job after (n + 1)) (first_terms + i))
      numbers_snoc i l = go (ℕ_discrete i n)
        where
          go : Dec (i ≡ n) → f i ≡ h (tree_at (listed job after (n + 1)) (first_terms + i))
          go (yes e) = ap f e ∙ last ∙ ap h tree_new ∙ ap (λ (j : ℕ). h (tree_at (listed job after (n + 1)) (first_terms + j))) (sym e)
          go (no e) = same i (omega arith) ∙ old i (omega arith) ∙ ap h (tree_old i (omega arith))

    pub store_snoc : Sound r → T (good (sort_of (tree_of (listed job work n) o ks))) → Table job after (n + 1)
        → measures (link_size job) after (n + 1) ≡ measures (link_size job) work n ++ (measure (tree_of (listed job work n) o ks) ∷ []) → Store job after (n + 1)
    store_snoc sound sorted t m =
        let list = listed job work n in
        let e = entry (tree_of list o ks) r in
        let c = s.count in
        let l = link_size job in
        let mm = column_snoc (measure_at l after) (measure_at l work) n _ (measures l work n) (measures_length l work n) (λ i h. measures_at l job work n i h)
        (λ i h. ap (λ (x : List ℕ). get_or x i 0) (sym m) ∙ measures_at l job after (n + 1) i h) in
        record {
          table = t;
          well = subst (WellKept (number_length job)) (sym snoc_listed) (snoc_well list r o ks s.well sound says below (λ z. subst T new z));
          sorted = subst AllGood (sym snoc_listed) (good_snoc list e s.sorted sorted);
          count = ap length snoc_listed ∙ length-append list (e ∷ []) ∙ omega arith;
          records_are = ap records snoc_listed ∙ records_snoc list e (omega arith) ∙ ap (λ (rs : List Bytes). rs ++ (r ∷ [])) s.records_are ∙ sym k;
          measures_are = numbers_snoc (measure_at l after) (measure_at l work) measure mm.0 mm.1 s.measures_are;
        }

-- ---- depths and widths fit into a row
width_step : (s : Sort) → T (sized s) → sort_width s ≤ 64
width_step bad h = omega arith
width_step bool h = omega arith
width_step (bv n) h = leb→le n 64 (and_r (leb 1 n) _ h)

-- ---- what adding a row says
module _ (nb limit : ℕ) (x : Bytes) (rows : List Bytes) (len : ℕ) where
  pub found_means : {p : ℕ} → some (A.Found p) ≡ added_for nb limit x rows len → place_of x rows ≡ missing → ⊥
  unfolding added_for
  found_means {p} e = go (eqb (place_of x rows) missing) (room_for nb limit (length rows) len) (eqb-false (place_of x rows) missing) e
    where
      go : (b c : Bool) → (b ≡ false → place_of x rows ≡ missing → ⊥) → some (A.Found p) ≡ cond b (cond c (some (A.New (first_terms + length rows))) none) (some (A.Found (place_of x rows))) → place_of x rows ≡ missing → ⊥
      go true true f d = absurd (cc)
      go true false f d = absurd (cc)
      go false c f d = f refl

  pub new_means : {p : ℕ} → some (A.New p) ≡ added_for nb limit x rows len → (place_of x rows ≡ missing) × (room_for nb limit (length rows) len ≡ true)
  unfolding added_for
  new_means {p} e = go (eqb (place_of x rows) missing) (room_for nb limit (length rows) len) (eqb-true (place_of x rows) missing) e
    where
      go : (b c : Bool) → (b ≡ true → place_of x rows ≡ missing) → some (A.New p) ≡ cond b (cond c (some (A.New (first_terms + length rows))) none) (some (A.Found (place_of x rows))) → (place_of x rows ≡ missing) × (c ≡ true)
      go true true f d = (f refl, refl)
      go true false f d = absurd (cc)
      go false c f d = absurd (cc)

  pub spent_means : none ≡ added_for nb limit x rows len → (place_of x rows ≡ missing) × (room_for nb limit (length rows) len ≡ false)
  unfolding added_for
  spent_means e = go (eqb (place_of x rows) missing) (room_for nb limit (length rows) len) (eqb-true (place_of x rows) missing) e
    where
      go : (b c : Bool) → (b ≡ true → place_of x rows ≡ missing) → none ≡ cond b (cond c (some (A.New (first_terms + length rows))) none) (some (A.Found (place_of x rows))) → (place_of x rows ≡ missing) × (c ≡ false)
      go true true f d = absurd (cc)
      go true false f d = (f refl, refl)
      go false c f d = absurd (cc)

-- ---- a term that is offered
code_law : (sorted there roomy : Bool) (n : ℕ) → code_in (answer_for sorted there roomy n) ≡ first_fault ((sorted, 7) ∷ (there || roomy, 8) ∷ [])
unfolding answer_for
code_law true true roomy n = refl
code_law true false true n = refl
code_law true false false n = refl
code_law false there roomy n = refl

-- a width is at most the rack's, so the limit that is stated is tested as well as the capped one
capped_width : (w limit : ℕ) → w ≤ max_width → leb w (min limit max_width) ≡ leb w limit
capped_width w limit h = go (dec_le w limit)
  where
    go : Dec (w ≤ limit) → leb w (min limit max_width) ≡ leb w limit
    go (yes l) = le-leb w (min limit max_width) (omega arith) ∙ sym (le-leb w limit l)
    go (no l) = lt-leb w (min limit max_width) (omega arith) ∙ sym (lt-leb w limit (omega arith))

-- what reads the rows of a job says what these say
module _ {l : Lookup} {job work : Bytes} {n : ℕ} (h : Finds l job work n) where
  over : (P : Bytes → Bytes → ℕ → Type 0) → P job work n → P l.job.now l.work.now l.rows
  over P x =
      subst (λ (j : Bytes). P j l.work.now l.rows) (sym h.job_is)
      (subst (λ (w : Bytes). P job w l.rows) (sym h.work_is) (subst (λ (m : ℕ). P job work m) (sym h.rows_are) x))

  back_over : (P : Bytes → Bytes → ℕ → Type 0) → P l.job.now l.work.now l.rows → P job work n
  back_over P x =
      subst (λ (m : ℕ). P job work m) h.rows_are
      (subst (λ (w : Bytes). P job w l.rows) h.work_is (subst (λ (j : Bytes). P j l.work.now l.rows) h.job_is x))

  pub sorted_as : (t : Decoded) {r : Option SortAndDepth} → SortDepthOf (tree_of (listed l.job.now l.work.now l.rows) (op_of t) (arguments_of l.job.now t)) r
      → SortDepthOf (tree_of (listed job work n) (op_of t) (arguments_of job t)) r
  sorted_as t {r} = back_over (λ j w m. SortDepthOf (tree_of (listed j w m) (op_of t) (arguments_of j t)) r)

-- ---- an option as a result: what the code went on with, or stopped with
pub ok_told : {A : Type 0} (r : Option A) (e : Stop) {q : Result A Stop} {x : A} → q ≡ ok_or r e → q ≡ Ok x → r ≡ some x
ok_told none e f g = absurd (cc)
ok_told (some y) e {q} {x} f g = let z : y ≡ x = cc in ap some z

pub err_told : {A : Type 0} (r : Option A) (e : Stop) {q : Result A Stop} {d : Stop} → q ≡ ok_or r e → q ≡ Err d → (r ≡ none) × (d ≡ e)
err_told none e {q} {d} f g = let z : d ≡ e = cc in (refl, z)
err_told (some y) e f g = absurd (cc)

-- a term has this sort and this depth
pub record Sorted (job work : Bytes) (n : ℕ) (t : Decoded) (m : SortAndDepth) : Type 0 where
  pub sort_is : sort_read m.sort ≡ sort_of (tree_of (listed job work n) (op_of t) (arguments_of job t))
  pub depth_is : m.depth ≡ depth (tree_of (listed job work n) (op_of t) (arguments_of job t))

pub sorted_told : {l : Lookup} {job work : Bytes} {n : ℕ} → Finds l job work n → (t : Decoded) {r : Option SortAndDepth}
    → SortDepthOf (tree_of (listed l.job.now l.work.now l.rows) (op_of t) (arguments_of l.job.now t)) r
    → {m : SortAndDepth} → r ≡ some m → Sorted job work n t m
sorted_told h t {r} s {m} e =
    let q = sorted_as h t s in
    record { sort_is = ap sort_in (sym e) ∙ q.sort_is; depth_is = q.depth_is m e }

-- what is tested of a sort
abbrev fits : Limits → Sort → Bool
fits limits s = good s && leb (sort_width s) limits.width

pub fits_told : (limits : Limits) (s : Read) {b : Bool} → b ≡ leb (sort_width (sort_read s)) limits.width → fits limits (sort_read s) ≡ b
fits_told limits s e = ap (λ (x : Bool). x && leb (sort_width (sort_read s)) limits.width) (good_read s) ∙ sym e

module _ (limits : Limits) {job work : Bytes} {n at : ℕ} {t : Decoded} (o : Offered job work n at t) where
  says_it : read (number_length job) (record_at job at) ≡ term (op_of t) (arguments_of job t)
  says_it = sym o.says

  number_fits : takes (arity (op_of t)) (length (arguments_of job t)) ≡ true
  number_fits = T_true _ (says_count (length_of job) (record_at job at) (op_of t) (arguments_of job t) (says_term (number_length job) (record_at job at) (op_of t) (arguments_of job t) says_it))

  -- the term may be kept, by what reads the store
  pub fitting : (k : Kept) → Finds k.lookup job work n → Fitting k t
  fitting k h = record {
    arguments = over h (λ j w m. Arguments j w m (operands_of t)) o.arguments;
    number = subst (λ (j : Bytes). takes (arity (op_of t)) (length (arguments_of j t)) ≡ true) (sym h.job_is) number_fits;
  }

  all_low : T (all_below (length (listed job work n)) (arguments_of job t))
  all_low = subst T (sym (ap (λ (m : ℕ). all_below m (arguments_of job t)) o.arguments.store.count ∙ o.arguments.below)) tt

  depth_small : {d : ℕ} → d ≡ depth (tree_of (listed job work n) (op_of t) (arguments_of job t)) → d < 256 ^ link_size job
  depth_small e =
      let few = o.arguments.store.table.rows.few in
      let b = deepest_small o.arguments.store (arguments_of job t) o.arguments.below in
      let q = depth_step (op_of t) (first (sorts_at (listed job work n) (arguments_of job t))) (deepest_at (listed job work n) (arguments_of job t)) in
      let z = tree_depth (listed job work n) (op_of t) (arguments_of job t) in
      omega arith

  width_within : {s : Sort} → s ≡ sort_of (tree_of (listed job work n) (op_of t) (arguments_of job t)) → sort_width s ≤ max_width
  width_within {s} e = width_step s (subst (λ (x : Sort). T (sized x)) (sym e) (sorts_sized (tree_of (listed job work n) (op_of t) (arguments_of job t))))

  width_small : {s : Sort} → s ≡ sort_of (tree_of (listed job work n) (op_of t) (arguments_of job t)) → {w : ℕ} → w ≡ sort_width s → w < 256
  width_small e f = let q = width_within e in omega arith

  -- the kind that stands in the record
  kind_is : {k : ℕ} → k ≡ number_at job (at + number_bytes) number_bytes → k ≡ kind (op_of t)
  kind_is f = f ∙ kind_at job at o.stands ∙ term_kind (number_length job) (record_at job at) (op_of t) (arguments_of job t) says_it

  -- the measure that the code computes is the term's, and fits into a row
  pub measure_computed : {k d w m : ℕ} {s : Sort} → k ≡ number_at job (at + number_bytes) number_bytes → d ≡ depth (tree_of (listed job work n) (op_of t) (arguments_of job t)) → w ≡ sort_width s
      → s ≡ sort_of (tree_of (listed job work n) (op_of t) (arguments_of job t)) → m ≡ measure_in k d w → m ≡ measure (tree_of (listed job work n) (op_of t) (arguments_of job t))
  measure_computed {k} {d} {w} {m} {s} a b c e f = f ∙ rw (kind_is a, b, c, e) (measure_is (op_of t) (from_list (map (tree_at (listed job work n)) (arguments_of job t))))

  pub measure_fits : (k : ℕ) {d w m : ℕ} {s : Sort} → d ≡ depth (tree_of (listed job work n) (op_of t) (arguments_of job t)) → w ≡ sort_width s
      → s ≡ sort_of (tree_of (listed job work n) (op_of t) (arguments_of job t)) → m ≡ measure_in k d w → m < 256 ^ link_size job
  measure_fits k {d} {w} {m} {s} b c e f =
      let least : 256 ^ 1 ≤ 256 ^ link_size job = pow-le-pow_right (omega arith) (link_whole (length_of job)).some_bytes in
      subst (λ (x : ℕ). x < 256 ^ link_size job) (sym f) (measure_small k d w (256 ^ link_size job) (depth_small b) (omega (arith, width_small e c)))

  sorted_is : {s : Sort} → s ≡ sort_of (tree_of (listed job work n) (op_of t) (arguments_of job t))
      → well_sorted (capped (number_length job) limits) (term_of (listed job work n) (op_of t) (arguments_of job t)) ≡ fits limits s
  sorted_is {s} e =
      ap (well_sorted (capped (number_length job) limits)) (term_of_is (listed job work n) (op_of t) (arguments_of job t) all_low) ∙ ap (fits (capped (number_length job) limits)) (sym e)
      ∙ ap (λ (b : Bool). good s && b) (capped_width (sort_width s) limits.width (width_within e))

  room_is : room (number_length job) (capped (number_length job) limits) (length work) (listed job work n) ≡ room_for (number_length job) limits.terms n (length work)
  unfolding room_for
  room_is =
      let c = o.arguments.store.count in
      let a : suc (length (listed job work n)) - first_terms ≡ suc n = omega arith in
      ap₂ (λ (x y : ℕ). leb (term_bytes (number_length job) * x) (length work) && ltb y (capped (number_length job) limits).terms) a c

  -- the answer and its code
  decided : {sorted there roomy : Bool} → well_sorted (capped (number_length job) limits) (term_of (listed job work n) (op_of t) (arguments_of job t)) ≡ sorted
      → has (listed job work n) (record_at job at) ≡ there → room (number_length job) (capped (number_length job) limits) (length work) (listed job work n) ≡ roomy
      → answer_for sorted there roomy n ≡ answer_for (well_sorted (capped (number_length job) limits) (term_of (listed job work n) (op_of t) (arguments_of job t))) (has (listed job work n) (record_at job at)) (room (number_length job) (capped (number_length job) limits) (length work) (listed job work n)) n
  decided e f g = rw (e, f, g)

  taken : {answer : Answer} {after : Bytes}
      → answer ≡ answer_for (well_sorted (capped (number_length job) limits) (term_of (listed job work n) (op_of t) (arguments_of job t))) (has (listed job work n) (record_at job at)) (room (number_length job) (capped (number_length job) limits) (length work) (listed job work n)) n
      → after ≡ bytes_after answer work (with_term job work n at (tree_of (listed job work n) (op_of t) (arguments_of job t)))
      → Store job after (rows_after answer n) → listed job after (rows_after answer n) ≡ list_after_of answer (listed job work n) (feed (number_length job) (listed job work n) (record_at job at))
      → offsets (link_size job) after (rows_after answer n) ≡ offsets_after answer at (offsets (link_size job) work n) → Taken limits job work after n at t answer
  taken {answer} e m s l f = record { answer_is = e; code_is = ap code_in e ∙ code_law _ _ _ n; memory_is = m; store = s; listed_is = l; offsets_are = f }

  -- it has no sort, or is too wide
  pub taken_unsorted : {s : Sort} → s ≡ sort_of (tree_of (listed job work n) (op_of t) (arguments_of job t)) → fits limits s ≡ false → Taken limits job work work n at t (Err S.Unsorted)
  unfolding answer_for
  taken_unsorted {s} e f = taken (decided (sorted_is e ∙ f) refl refl) refl o.arguments.store refl refl

  module _ {after : Bytes} {m : ℕ} {s : Sort} (bytes : AllBytes job) (e : s ≡ sort_of (tree_of (listed job work n) (op_of t) (arguments_of job t))) (f : fits limits s ≡ true)
      (me : m ≡ measure (tree_of (listed job work n) (op_of t) (arguments_of job t))) {a : Option Added} (g : Grown (number_length job) job work after n limits.terms at m a) where
    sorted_true : well_sorted (capped (number_length job) limits) (term_of (listed job work n) (op_of t) (arguments_of job t)) ≡ true
    sorted_true = sorted_is e ∙ f

    sound_it : Sound (record_at job at)
    sound_it = whole_sound job at bytes o.stands

    grown_as : (b : Option Added) → a ≡ b → Grown (number_length job) job work after n limits.terms at m b
    grown_as b q = subst (Grown (number_length job) job work after n limits.terms at m) q g

    pub taken_found : {p : ℕ} → a ≡ some (A.Found p) → Taken limits job work after n at t (Ok (I.Found n))
    unfolding count_after list_after memory_after answer_for
    taken_found {p} q =
        let h = grown_as (some (A.Found p)) q in
        let s = o.arguments.store in
        let there = found_there s (record_at job at) (found_means (number_length job) limits.terms (record_at job at) (kept job work n) (length work) h.answer_is) in
        taken (decided sorted_true there refl) h.memory_is (store_same s h.table h.kept_is h.measures_are)
        (ap (stored (number_length job)) h.kept_is ∙ fed_old s (record_at job at) (op_of t) (arguments_of job t) says_it all_low there) h.offsets_are

    pub taken_spent : a ≡ none → Taken limits job work after n at t (Err S.Spent)
    unfolding count_after list_after memory_after answer_for
    taken_spent q =
        let h = grown_as none q in
        let s = o.arguments.store in
        let w = spent_means (number_length job) limits.terms (record_at job at) (kept job work n) (length work) h.answer_is in
        let there = missing_there s (record_at job at) sound_it.long w.0 in
        let none_left : room (number_length job) (capped (number_length job) limits) (length work) (listed job work n) ≡ false = room_is ∙ ap (λ (k : ℕ). room_for (number_length job) limits.terms k (length work)) (sym (length_kept (link_size job) job work n)) ∙ w.1 in
        taken (decided sorted_true there none_left) h.memory_is (store_same s h.table h.kept_is h.measures_are) (ap (stored (number_length job)) h.kept_is) h.offsets_are

    pub taken_new : {p : ℕ} → a ≡ some (A.New p) → Taken limits job work after n at t (Ok (I.New (n + 1)))
    unfolding count_after list_after memory_after answer_for with_term
    taken_new {p} q =
        let h = grown_as (some (A.New p)) q in
        let st = o.arguments.store in
        let w = new_means (number_length job) limits.terms (record_at job at) (kept job work n) (length work) h.answer_is in
        let there = missing_there st (record_at job at) sound_it.long w.0 in
        let some_left : room (number_length job) (capped (number_length job) limits) (length work) (listed job work n) ≡ true = room_is ∙ ap (λ (k : ℕ). room_for (number_length job) limits.terms k (length work)) (sym (length_kept (link_size job) job work n)) ∙ w.1 in
        let ms = h.measures_are ∙ ap (λ (x : ℕ). measures (link_size job) work n ++ (x ∷ [])) me in
        taken (decided sorted_true there some_left) (h.memory_is ∙ ap (with_row (number_length job) job work n at) me)
        (store_snoc st (record_at job at) (op_of t) (arguments_of job t) says_it all_low after there h.kept_is sound_it (subst (λ (x : Sort). T (good x)) e (subst T (sym (and_first (good s) _ f)) tt)) h.table ms)
        (snoc_fed st (record_at job at) (op_of t) (arguments_of job t) says_it all_low after there h.kept_is) h.offsets_are
