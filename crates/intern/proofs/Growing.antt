-- The store starts, is cut back and grows: the list that the rows build does the same.
use mathlib.Core.Path.{◌≡◌, refl, sym, ap, subst, ◌∙◌}
use mathlib.Core.Bool.{Bool, true, false, cond}
use mathlib.Core.List.{List, [], ◌∷◌, ◌++◌, foldl}
use Rattle.std.specs.Prelude.{Option, None as none, Some as some}
use Prim.Native.Nat.{ℕ, zero, suc, ◌+◌, ◌-◌, ◌<◌, ◌≤◌}
use native.Mathlib.Omega.{arith}
use lib.ListN.{length, take, get_or, length-take, length-append}
use lib.Seq.{take-take, take_all, take-nil, take-append_seam, get_or-take}
use Rattle.theory.specs.Limit.{first_terms, max_job}
use Rattle.theory.specs.Kind.{Op, True}
use Rattle.theory.specs.Term.{Term, node, nil}
use Rattle.theory.specs.Record.{Bytes, Item, term, read, number_length}
use Rattle.theory.specs.Plain.{Entry, entry, Plain, term_of, has, put, feed, feed_item}
use Rattle.theory.specs.Plain as P
use Rattle.theory.proofs.Run.{good_take, start_good}
use Rattle.theory.proofs.Distinct.{take_well, start_well}
use Rattle.theory.proofs.Places.{tree_at}
use Rattle.theory.proofs.Run.{AllGood}
use Rattle.theory.proofs.Distinct.{WellKept}
use Rattle.rows.specs.Rows.{kept, kept_as, column, measures}
use Rattle.table.specs.Promise.{Cleared, Cut}
use Rattle.table.proofs.Face.{kept_at, measures_at}
use Rattle.rows.specs.Layout.{link_size}
use Rattle.store.specs.Measure.{measure}
use Rattle.store.specs.Store.{Store, listed, records}
use Rattle.intern.specs.Interning.{Started, CutBack}
use Rattle.store.proofs.Keeping.{row_kept, row_says, shelf}
use Rattle.theory.proofs.Slices.{map_take}
use Rattle.rows.proofs.RowLaws.{length_kept}

-- ---- the start
pub started : {job work after : Bytes} → length job ≤ max_job → Cleared work after → Started job work after
unfolding kept_as column
started {job} {work} {after} h w = record {
  store = record {
    table = w.ready job h;
    well = start_well;
    sorted = start_good;
    count = refl;
    records_are = refl;
    measures_are = λ k l. absurd (omega arith);
  };
  listed_is = refl;
  memory_is = w.memory_is;
}

-- ---- records that say terms, fed one after the other
-- r says a term
record SaysSome (b : ℕ) (r : Bytes) : Type 0 where
  op : Op
  args : List ℕ
  says : read b r ≡ term op args

abbrev AllSay : ℕ → List Bytes → Type 0
AllSay b [] = Unit {0}
AllSay b (r ∷ rs) = SaysSome b r × AllSay b rs

-- each adds an entry, or none
grows : (b : ℕ) (P : Plain → Type 0) (list : Plain) (r : Bytes) → SaysSome b r → P list → ((e : Entry) → P (list ++ (e ∷ []))) → P (feed b list r)
unfolding feed
grows b P list r s old new = subst (λ (i : Item). P (feed_item list r i)) (sym s.says) (go (term_of list s.op s.args))
  where
    by : (h : Bool) (t : Term) → P (cond h list (list ++ (entry t r ∷ [])))
    by true t = old
    by false t = new (entry t r)

    go : (q : Option Term) → P (put list r q)
    go none = old
    go (some t) = by (has list r) t

fed_length : (b : ℕ) (list : Plain) (rs : List Bytes) → AllSay b rs → length (foldl (feed b) list rs) ≤ length list + length rs
fed_length b list [] h = omega arith
fed_length b list (r ∷ rs) h =
    grows b (λ (l : Plain). length (foldl (feed b) l rs) ≤ length list + length (r ∷ rs)) list r h.0
    (let q = fed_length b list rs h.1 in omega arith)
    (λ e. let q = fed_length b (list ++ (e ∷ [])) rs h.1 in let l = length-append list (e ∷ []) in omega arith)

-- where each added one, the first m records build the first part
fed_part : (b : ℕ) (list : Plain) (rs : List Bytes) → AllSay b rs → length (foldl (feed b) list rs) ≡ length list + length rs
    → (m : ℕ) → m ≤ length rs → take (length list + m) (foldl (feed b) list rs) ≡ foldl (feed b) list (take m rs)
fed_part b list [] h e zero l = take_all (length list + 0) list (omega arith)
fed_part b list [] h e (suc m) l = absurd (omega arith)
fed_part b list (r ∷ rs) h e zero l =
    grows b (λ (x : Plain). length (foldl (feed b) x rs) ≡ length list + length (r ∷ rs) → take (length list + 0) (foldl (feed b) x rs) ≡ list) list r h.0
    (λ d. absurd (let q = fed_length b list rs h.1 in omega arith))
    (λ x d.
    let k = length-append list (x ∷ []) in
    sym (take-take (length list + 0) (length (list ++ (x ∷ [])) + 0) (foldl (feed b) (list ++ (x ∷ [])) rs) (omega arith))
    ∙ ap (take (length list + 0)) (fed_part b (list ++ (x ∷ [])) rs h.1 (omega arith) 0 (omega arith))
    ∙ ap (λ (j : ℕ). take j (list ++ (x ∷ []))) (plus_none (length list))
    ∙ take-append_seam list (x ∷ [])) e
  where
    plus_none : (n : ℕ) → n + 0 ≡ n
    plus_none n = omega arith
fed_part b list (r ∷ rs) h e (suc m) l =
    grows b (λ (x : Plain). length (foldl (feed b) x rs) ≡ length list + length (r ∷ rs) → take (length list + suc m) (foldl (feed b) x rs) ≡ foldl (feed b) x (take m rs)) list r h.0
    (λ d. absurd (let q = fed_length b list rs h.1 in omega arith))
    (λ x d.
    let k = length-append list (x ∷ []) in
    let z : length list + suc m ≡ length (list ++ (x ∷ [])) + m = omega arith in
    ap (λ (j : ℕ). take j (foldl (feed b) (list ++ (x ∷ [])) rs)) z
    ∙ fed_part b (list ++ (x ∷ [])) rs h.1 (omega arith) m (omega arith)) e

say_from : (b : ℕ) (rs : List Bytes) → ((k : ℕ) → k < length rs → SaysSome b (get_or rs k [])) → AllSay b rs
say_from b [] f = tt
say_from b (r ∷ rs) f = (f 0 (omega arith), say_from b rs (λ k h. f (suc k) (omega arith)))

kept_say : {job work : Bytes} {n : ℕ} → Store job work n → AllSay (number_length job) (kept job work n)
kept_say {job} {work} {n} s =
    say_from (number_length job) (kept job work n) (λ k h.
    let l : k < n = (let q = length_kept (link_size job) job work n in omega arith) in
    record { op = (row_kept (shelf s) k l).op; args = (row_kept (shelf s) k l).args; says = ap (read (number_length job)) (kept_at (link_size job) job work n k l) ∙ row_says (shelf s) k l })

-- ---- the records of a part
records_part : (m : ℕ) (list : Plain) → records (take (suc (suc m)) list) ≡ take m (records list)
records_part m [] = sym (take-nil m)
records_part m (e ∷ []) = sym (take-nil m)
records_part m (e ∷ d ∷ list) = map_take (λ (x : Entry). x.bytes) m list

-- ---- the store cut back
module _ {job work after : Bytes} {n count : ℕ} (s : Store job work n) (low : first_terms ≤ count) (high : count ≤ first_terms + n)
    (c : Cut (number_length job) job work after n (count - first_terms)) where
  cut_listed : listed job after (count - first_terms) ≡ take count (listed job work n)
  cut_listed =
      let l = length_kept (link_size job) job work n in
      let z : length P.start + (count - first_terms) ≡ count = omega arith in
      ap (foldl (feed (number_length job)) P.start) c.kept_is
      ∙ sym (fed_part (number_length job) P.start (kept job work n) (kept_say s) (s.count ∙ omega arith) (count - first_terms) (omega arith))
      ∙ ap (λ (j : ℕ). take j (listed job work n)) z

  cut_tree : (k : ℕ) → k < count - first_terms → tree_at (listed job work n) (first_terms + k) ≡ tree_at (listed job after (count - first_terms)) (first_terms + k)
  cut_tree k h =
      sym (ap (λ (x : Plain). tree_at x (first_terms + k)) cut_listed
      ∙ ap (λ (e : Entry). e.tree) (get_or-take count (listed job work n) (first_terms + k) (entry (node True nil) []) (omega arith)))

  pub cut_back : CutBack job work after n count
  cut_back =
      let list = listed job work n in
      let m = count - first_terms in
      let q = s.count in
      let z : count ≡ suc (suc m) = omega arith in
      record {
        memory_is = c.memory_is;
        store = record {
          table = c.table;
          well = subst (WellKept (number_length job)) (sym cut_listed) (take_well count list low (omega arith) s.well);
          sorted = subst AllGood (sym cut_listed) (good_take count list s.sorted);
          count = ap length cut_listed ∙ length-take count list ∙ omega arith;
          records_are = ap records (cut_listed ∙ ap (λ (j : ℕ). take j list) z) ∙ records_part m list ∙ ap (take m) s.records_are ∙ sym c.kept_is;
          measures_are = λ k h.
              sym (measures_at (link_size job) job after m k h) ∙ ap (λ (l : List ℕ). get_or l k 0) c.measures_are ∙ get_or-take m (measures (link_size job) work n) k 0 h
              ∙ measures_at (link_size job) job work n k (omega arith) ∙ s.measures_are k (omega arith) ∙ ap measure (cut_tree k h);
        };
        listed_is = cut_listed;
        offsets_are = c.offsets_are;
      }
