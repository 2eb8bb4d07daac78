-- The sort and the depth of the term at a place, by its row.
use mathlib.Core.Path.{◌≡◌, refl, sym, ap, subst, ◌∙◌}
use mathlib.Core.List.{[], map}
use Rattle.std.specs.Prelude.{Some as some}
use native.Mathlib.Nat.{add-zero}
use Prim.Native.Nat.{ℕ, zero, suc, ◌+◌, ◌-◌, ◌^◌, ◌<◌, ◌≤◌}
use native.Mathlib.Omega.{arith}
use lib.Dec.{T, leb, leb→le}
use lib.Ieee.Fits.{and_l, and_r}
use lib.ListN.{drop, length, take}
use lib.Seq.{drop-drop, get_or-take}
use Rattle.theory.specs.Limit.{first_terms}
use Rattle.rows.proofs.RowLaws.{length_record, number_same}
use Rattle.theory.specs.Kind.{kind}
use Rattle.theory.specs.Term.{Term, fold, from_list}
use Rattle.theory.specs.Sort.{Sort, bad, bool, bv, guard, good, sort_width, sort_of}
use Rattle.theory.specs.Depth.{depth}
use Rattle.theory.specs.Record.{Bytes, extent, little_endian, number_length, read, term, word}
use Rattle.theory.specs.Places.{tree_at, tree_of}
use Rattle.theory.proofs.Bytes.{Sound, term_kind}
use Rattle.theory.proofs.Run.{good_at}
use Rattle.theory.proofs.Sorts.{sized, sorts_sized}
use Rattle.theory.proofs.Distinct.{tree_0, tree_1}
use Rattle.rows.specs.Layout.{Bounded, link_bytes, link_size, measure_at, number_at, offset_at, place_end}
use Rattle.terms.specs.Framing.{record_at}
use Rattle.terms.proofs.Numbers.{place_small}
use Rattle.store.specs.Measure.{measure, depth_in, width_in, bool_depth, bool_in}
use Rattle.store.specs.Store.{listed}
use Rattle.store.specs.Shelf.{Shelf, root_kind}
use Rattle.store.proofs.Measuring.{depth_is, depth_least, width_is, bool_is}
use Rattle.store.proofs.Keeping.{row_kept, row_says, row_sound}

-- ---- the sort of a term, by its width
no_width_bool : (s : Sort) → T (good s) → T (sized s) → sort_width s ≡ 0 → bool ≡ s
no_width_bool bool g z e = refl
no_width_bool (bv n) g z e = absurd (let h = leb→le 1 n (and_l (leb 1 n) _ z) in omega arith)
no_width_bool bad g z e = elim g [ ]

width_least : (s : Sort) → T (sized s) → sort_width s ≤ 64
width_least bad h = omega arith
width_least bool h = omega arith
width_least (bv n) h = leb→le n 64 (and_r (leb 1 n) _ h)

module _ {job work : Bytes} {n : ℕ} (s : Shelf job work n) where
  -- `true` and `false`
  low_sort : (p : ℕ) → p < first_terms → bool ≡ sort_of (tree_at (listed job work n) p)
  unfolding fold guard
  low_sort zero h = ap sort_of (sym (tree_0 (listed job work n) s.well))
  low_sort (suc zero) h = ap sort_of (sym (tree_1 (listed job work n) s.well))
  low_sort (suc (suc p)) h = absurd (omega arith)

  pub low_width : (p : ℕ) → p < first_terms → 0 ≡ sort_width (sort_of (tree_at (listed job work n) p))
  low_width p h = ap sort_width (low_sort p h)

  pub low_depth : (p : ℕ) → p < first_terms → 0 ≡ depth (tree_at (listed job work n) p)
  unfolding depth
  low_depth zero h = ap depth (sym (tree_0 (listed job work n) s.well))
  low_depth (suc zero) h = ap depth (sym (tree_1 (listed job work n) s.well))
  low_depth (suc (suc p)) h = absurd (omega arith)

  pub low_bool : (p : ℕ) → p < first_terms → some 0 ≡ bool_depth (tree_at (listed job work n) p)
  unfolding bool_depth
  low_bool p h = rw (← low_sort p h) (ap some (low_depth p h))

  -- the term of row k, and what stands in its record, where a link has l bytes, as the job's links have
  module _ (k : ℕ) (h : k < n) {b l : ℕ} (be : b ≡ number_length job) (le : l ≡ link_bytes b) {at : ℕ} (ae : at ≡ offset_at l work k) where
    own_link : l ≡ link_size job
    own_link = le ∙ ap link_bytes be

    pub own_offset : at ≡ offset_at (link_size job) work k
    own_offset = ae ∙ ap (λ (i : ℕ). offset_at i work k) own_link

    -- the record lies in the job, and has a length and a kind
    pub row_stands : (at + extent (drop at job) ≤ length job) × (4 ≤ extent (drop at job))
    row_stands = (inside, let z = (row_sound s k h).long in let l = length_record job [] (offset_at (link_size job) work k) (s.rows.inside k h) in rw own_offset (omega arith))
      where
        inside : at + extent (drop at job) ≤ length job
        inside = rw own_offset (s.rows.inside k h)

    record_number : (i : ℕ) → i + 2 ≤ 4 → number_at (record_at job at) i 2 ≡ number_at job (at + i) 2
    record_number i l =
        number_same 2 (record_at job at) (drop at job) i (λ j b. get_or-take (extent (drop at job)) (drop at job) (i + j) 0 (let z = row_stands.1 in omega arith))
        ∙ ap (λ (bs : Bytes). little_endian (take 2 bs)) (drop-drop i at job)

    row_tree : tree_at (listed job work n) (first_terms + k) ≡ tree_of (listed job work n) (row_kept s k h).op (row_kept s k h).args
    row_tree = (row_kept s k h).made

    row_fine : T (good (sort_of (tree_of (listed job work n) (row_kept s k h).op (row_kept s k h).args)))
    row_fine = subst (λ (t : Term). T (good (sort_of t))) row_tree (good_at (listed job work n) (first_terms + k) s.sorted (omega (arith, s.count)))

    row_read : read (number_length job) (record_at job at) ≡ term (row_kept s k h).op (row_kept s k h).args
    row_read = ap (λ (o : ℕ). read (number_length job) (record_at job o)) own_offset ∙ row_says s k h

    row_sound_at : Sound (record_at job at)
    row_sound_at = subst (λ (o : ℕ). Sound (record_at job o)) (sym own_offset) (row_sound s k h)

    kind_is : {c : ℕ} → c ≡ number_at job (at + 2) 2 → c ≡ kind (row_kept s k h).op
    kind_is f = f ∙ sym (record_number 2 (omega arith)) ∙ term_kind (number_length job) (record_at job at) (row_kept s k h).op (row_kept s k h).args row_read

    pub row_root : {c : ℕ} → c ≡ number_at job (at + 2) 2 → c ≡ root_kind (tree_at (listed job work n) (first_terms + k))
    row_root f = kind_is f ∙ sym (ap root_kind row_tree)

    size_is : {z : ℕ} → z ≡ number_at job at 2 → z ≡ word (record_at job at)
    size_is f = f ∙ ap (λ (i : ℕ). number_at job i 2) (sym (add-zero at)) ∙ sym (record_number 0 (omega arith))

    row_measure : {m : ℕ} → m ≡ measure_at l work k → m ≡ measure (tree_of (listed job work n) (row_kept s k h).op (row_kept s k h).args)
    row_measure f = f ∙ ap (λ (i : ℕ). measure_at i work k) own_link ∙ s.measures_are k h ∙ ap measure row_tree

    -- a measure fits into a number
    pub own_measure : {m : ℕ} → Bounded m (measure_at l work k) (256 ^ l) → Bounded m (measure_at (link_size job) work k) place_end
    own_measure f = record {
      value = f.value ∙ ap (λ (i : ℕ). measure_at i work k) own_link;
      below = place_small l _ (rw own_link s.rows.link_length.few_bytes) f.below;
    }

    row_width_in : {c z m : ℕ} → c ≡ number_at job (at + 2) 2 → z ≡ number_at job at 2 → m ≡ measure_at l work k
        → width_in b c z m ≡ sort_width (sort_of (tree_at (listed job work n) (first_terms + k)))
    row_width_in {c} {z} {m} ce ze me =
        let q = row_kept s k h in
        let list = listed job work n in
        rw (be, kind_is ce, size_is ze, row_measure me, row_tree)
        (width_is (number_length job) (record_at job at) q.op q.args (tree_at list) row_read row_sound_at row_fine)

    pub row_width : {w c z m : ℕ} → w ≡ width_in b c z m → c ≡ number_at job (at + 2) 2 → z ≡ number_at job at 2
        → m ≡ measure_at l work k → Bounded w (sort_width (sort_of (tree_at (listed job work n) (first_terms + k)))) 256
    row_width {w} we ce ze me =
        let t = tree_at (listed job work n) (first_terms + k) in
        let e = we ∙ row_width_in ce ze me in
        record { value = e; below = let z = width_least (sort_of t) (sorts_sized t) in omega arith }

    row_depth_in : {c m : ℕ} → c ≡ number_at job (at + 2) 2 → m ≡ measure_at l work k → depth_in c m ≡ depth (tree_at (listed job work n) (first_terms + k))
    row_depth_in {c} {m} ce me =
        let q = row_kept s k h in
        rw (kind_is ce, row_measure me, row_tree) (depth_is q.op (from_list (map (tree_at (listed job work n)) q.args)))

    pub row_depth : {d c m : ℕ} → d ≡ depth_in c m → c ≡ number_at job (at + 2) 2 → Bounded m (measure_at l work k) place_end
        → Bounded d (depth (tree_at (listed job work n) (first_terms + k))) place_end
    row_depth {d} {c} {m} de ce me =
        record { value = de ∙ row_depth_in ce me.value; below = omega (arith, de, depth_least c m, me.below) }

    pub row_bool_depth : {c m : ℕ} → c ≡ number_at job (at + 2) 2 → m ≡ measure_at l work k → bool_in c m ≡ bool_depth (tree_at (listed job work n) (first_terms + k))
    row_bool_depth {c} {m} ce me =
        let q = row_kept s k h in
        rw (kind_is ce, row_measure me, row_tree)
        (bool_is q.op (from_list (map (tree_at (listed job work n)) q.args)) row_fine)

  -- a term that has no width is a Bool
  pub place_bool : (p : ℕ) → p < first_terms + n → {w : ℕ} → w ≡ sort_width (sort_of (tree_at (listed job work n) p)) → w ≡ 0 → bool ≡ sort_of (tree_at (listed job work n) p)
  place_bool p l e z = no_width_bool _ (good_at (listed job work n) p s.sorted (omega (arith, s.count))) (sorts_sized (tree_at (listed job work n) p)) (sym e ∙ z)

  -- the kind of a row's term
  pub row_kind : (p : ℕ) → first_terms ≤ p → {d : ℕ} → d ≡ root_kind (tree_at (listed job work n) (first_terms + (p - first_terms))) → d ≡ root_kind (tree_at (listed job work n) p)
  row_kind p h e = e ∙ ap (λ (i : ℕ). root_kind (tree_at (listed job work n) i)) (let z : first_terms + (p - first_terms) ≡ p = omega arith in z)
