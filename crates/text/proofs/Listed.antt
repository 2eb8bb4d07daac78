-- The terms that are written stand on the plain list, at the places of their numbers.
use mathlib.Core.Path.{◌≡◌, refl, sym, ap, ap₂, subst, ◌∙◌}
use mathlib.Core.Bool.{Bool, true, false, ◌||◌, cond}
use mathlib.Core.List.{List, [], ◌∷◌, ◌++◌, map, map-append, foldl, append_assoc, append-nil}
use Rattle.std.specs.Prelude.{Option, None as none, Some as some}
use Prim.Native.Nat.{ℕ, zero, suc, ◌+◌, ◌/◌, ◌<◌, ◌≤◌}
use native.Mathlib.Omega.{arith}
use lib.Dec.{T, leb, eqb, eqb→eq}
use lib.Ieee.Fits.{and_l, and_r}
use lib.Seq.{drop-append-le, get_or-append_seam}
use lib.ListN.{length, drop, length-append, length-drop, length-map}
use Rattle.std.specs.Prelude.{slice_get as get_elem?}
use Rattle.theory.specs.Limit.{first_terms, value_bytes, number_bytes}
use Rattle.theory.specs.Kind.{Op, True, False, kind, indices}
use Rattle.theory.specs.Term.{Term, node, nil, same_numbers}
use Rattle.theory.specs.Record.{Bytes, AllBytes, word, bytes_of, word_bytes, records_of, kind_of, step_kind, long_kind, Item, term, unknown, read, shape_of, is_step, step_count, number_length}
use Rattle.theory.specs.Plain.{Entry, entry, Plain, start, put, has, feed, feed_item}
use Rattle.theory.specs.Codes.{all_below}
use Rattle.theory.proofs.Basics.{none_some, some_inj, foldl_append, get_elem_of, get_elem_lt, T_true}
use Rattle.theory.proofs.Same.{same_numbers_refl}
use Rattle.theory.specs.Listed.{Sound, WellKept}
use Rattle.theory.specs.Places.{tree_at, tree_of}
use Rattle.theory.proofs.Places.{term_of_is, tree_at_old}
use Rattle.theory.proofs.Distinct.{snoc_well}
use Rattle.text.specs.Reading.{bind, number_end}
use Rattle.text.specs.Writing.{Clean, Lone, kept, place_from, append, value_last, Placed, placed, keep, record_of, words_bytes, front_bytes}
use Rattle.text.proofs.Records.{records_more, clean_more, kept_more, short_more}
use Rattle.text.proofs.Encoding.{record_length, record_lone}

-- ---- equal bytes
pub same_is : (x y : Bytes) → T (same_numbers x y) → x ≡ y
same_is [] [] t = refl
same_is (a ∷ x) (b ∷ y) t = ap₂ (λ (u : ℕ) (v : Bytes). u ∷ v) (eqb→eq a b (and_l (eqb a b) _ t)) (same_is x y (and_r (eqb a b) _ t))
same_is [] (b ∷ y) t = elim t [ ]
same_is (a ∷ x) [] t = elim t [ ]

-- ---- the kept records and the list
abbrev pub bytes_on : Plain → List Bytes
bytes_on es = map (λ e. e.bytes) es

-- a job's list: the records fed, in order
pub record Holds (job : Bytes) (list : Plain) : Type 0 where
  pub clean : Clean job
  pub short : number_length job ≡ number_bytes
  pub list_is : foldl (feed number_bytes) start (records_of job) ≡ list
  pub well : WellKept number_bytes list
  pub same : kept job ≡ bytes_on (drop first_terms list)

-- a longer list
pub record Extends (old new : Plain) : Type 0 where
  pub more : Plain
  pub is : new ≡ old ++ more

pub extends_none : (list : Plain) → Extends list list
extends_none list = record { more = []; is = sym (append-nil list) }

pub extends_on : {a b c : Plain} → Extends a b → Extends b c → Extends a c
extends_on {a} {b} {c} p q = record {
  more = p.more ++ q.more;
  is = q.is ∙ ap (λ (l : Plain). l ++ q.more) p.is ∙ append_assoc a p.more q.more;
}

pub extends_length : {a b : Plain} → Extends a b → length a ≤ length b
extends_length {a} {b} p = let e : length b ≡ length a + length p.more = ap length p.is ∙ length-append a p.more in omega arith

pub extends_tree : {a b : Plain} → Extends a b → (k : ℕ) → k < length a → tree_at b k ≡ tree_at a k
extends_tree {a} {b} p k h = ap (λ (l : Plain). tree_at l k) p.is ∙ tree_at_old a p.more k h

-- ---- a record's place
record At (es : Plain) (r : Bytes) (p k : ℕ) : Type 0 where
  off : ℕ
  at_entry : Entry
  where_is : k ≡ p + off
  there : get_elem? es off ≡ some at_entry
  is_r : at_entry.bytes ≡ r

place_found : (r : Bytes) (es : Plain) (p k : ℕ) → place_from p r (bytes_on es) ≡ some k → At es r p k
place_found r [] p k e = absurd (none_some k e)
place_found r (x ∷ es) p k e = go (same_numbers r x.bytes) (same_is r x.bytes) (place_found r es (suc p) k) e
  where
    go : (b : Bool) → (T b → r ≡ x.bytes) → (place_from (suc p) r (bytes_on es) ≡ some k → At es r (suc p) k)
        → elim b as (λ z. Option ℕ) [ true ↦ some p | false ↦ place_from (suc p) r (bytes_on es) ] ≡ some k → At (x ∷ es) r p k
    go true s ih d = record { off = 0; at_entry = x; where_is = (let q : p ≡ k = some_inj p k d in omega arith); there = refl; is_r = sym (s tt) }
    go false s ih d = let a = ih d in record { off = suc a.off; at_entry = a.at_entry; where_is = (let q = a.where_is in omega arith); there = a.there; is_r = a.is_r }

place_none : (r : Bytes) (es : Plain) (p : ℕ) → place_from p r (bytes_on es) ≡ none → T (has es r) → ⊥
place_none r [] p e t = t
place_none r (x ∷ es) p e t = go (same_numbers r x.bytes) refl (place_none r es (suc p)) e (same_numbers x.bytes r) (same_is x.bytes r) t
  where
    go : (b : Bool) → same_numbers r x.bytes ≡ b → (place_from (suc p) r (bytes_on es) ≡ none → T (has es r) → ⊥)
        → ◌≡◌ {A = Option ℕ} (elim b as (λ z. Option ℕ) [ true ↦ some p | false ↦ place_from (suc p) r (bytes_on es) ]) none
        → (c : Bool) → (T c → x.bytes ≡ r) → T (c || has es r) → ⊥
    go true f ih d c s t = none_some p (sym d)
    go false f ih d true s t =
        let z : same_numbers r x.bytes ≡ true = ap (same_numbers r) (s tt) ∙ T_true (same_numbers r r) (same_numbers_refl r) in
        let w : ◌≡◌ {A = ℕ} 0 1 = cc in omega arith
    go false f ih d false s t = ih d t

-- the first two have no record
past_two : (list : Plain) (r : Bytes) → WellKept number_bytes list → (r ≡ [] → ⊥) → T (has list r) → T (has (drop first_terms list) r)
past_two [] r w n t = t
past_two (a ∷ []) r w n t = absurd (none_some (entry (node False nil) []) w.is_false)
past_two (a ∷ b ∷ es) r w n t =
    let ea : a.bytes ≡ [] = ap (λ (e : Entry). e.bytes) (some_inj a (entry (node True nil) []) w.is_true) in
    let eb : b.bytes ≡ [] = ap (λ (e : Entry). e.bytes) (some_inj b (entry (node False nil) []) w.is_false) in
    go r n (subst (λ (x : Bytes). T (same_numbers x r || (same_numbers b.bytes r || has es r))) ea t) eb
  where
    go : (r : Bytes) → (r ≡ [] → ⊥) → T (same_numbers [] r || (same_numbers b.bytes r || has es r)) → b.bytes ≡ [] → T (has es r)
    go [] n t e = absurd (n refl)
    go (x ∷ r) n t e = subst (λ (y : Bytes). T (same_numbers y (x ∷ r) || has es (x ∷ r))) e t

drop_two : (list : Plain) (j : ℕ) → get_elem? (drop 2 list) j ≡ get_elem? list (2 + j)
drop_two [] j = refl
drop_two (a ∷ []) j = let e : 2 + j ≡ suc (suc j) = omega arith in sym (ap (get_elem? (a ∷ [])) e)
drop_two (a ∷ b ∷ es) j = let e : 2 + j ≡ suc (suc j) = omega arith in sym (ap (get_elem? (a ∷ b ∷ es)) e)

pub two_long : (list : Plain) → WellKept number_bytes list → 2 ≤ length list
two_long list w = get_elem_lt list 1 _ w.is_false

-- as many kept records as places after the first two
kept_length : {job : Bytes} {list : Plain} → Holds job list → 2 + length (kept job) ≡ length list
kept_length {job} {list} h =
    let e : length (kept job) ≡ length (drop 2 list) = ap length h.same ∙ length-map (drop 2 list) (λ (x : Entry). x.bytes) in
    let l = length-drop 2 list in
    let t = two_long list h.well in
    omega arith

-- ---- a term's record is put, or is there
-- a record that says the term o of arguments on the list
pub record Says (list : Plain) (r : Bytes) (o : Op) (ks : List ℕ) : Type 0 where
  pub says : read number_bytes r ≡ term o ks
  pub sound : Sound r
  pub lone : Lone r
  pub no_step : kind_of r ≡ step_kind → ⊥
  pub below : T (all_below (length list) ks)

-- a job has grown by records that are no steps
pub record Grows (old new : Bytes) : Type 0 where
  pub records : List Bytes
  pub are : records_of new ≡ records_of old ++ records
  pub no_steps : step_count number_bytes records ≡ 0

pub count_append : (xs ys : List Bytes) → step_count number_bytes (xs ++ ys) ≡ step_count number_bytes xs + step_count number_bytes ys
count_append [] ys = omega arith
count_append (x ∷ xs) ys = go (is_step (read number_bytes x)) (count_append xs ys)
  where
    go : (b : Bool) → step_count number_bytes (xs ++ ys) ≡ step_count number_bytes xs + step_count number_bytes ys
        → cond b (suc (step_count number_bytes (xs ++ ys))) (step_count number_bytes (xs ++ ys)) ≡ cond b (suc (step_count number_bytes xs)) (step_count number_bytes xs) + step_count number_bytes ys
    go true e = omega arith
    go false e = e

pub grows_none : (job : Bytes) → Grows job job
grows_none job = record { records = []; are = sym (append-nil (records_of job)); no_steps = refl }

pub grows_on : {a b c : Bytes} → Grows a b → Grows b c → Grows a c
grows_on {a} {b} {c} p q = record {
  records = p.records ++ q.records;
  are = q.are ∙ ap (λ (l : List Bytes). l ++ q.records) p.are ∙ append_assoc (records_of a) p.records q.records;
  no_steps = count_append p.records q.records ∙ (let x = p.no_steps in let y = q.no_steps in omega arith);
}

-- what was put: the list then, and the term at its number
pub record Stood (job : Bytes) (list : Plain) (p : Placed) (t : Term) : Type 0 where
  pub grows : Grows job p.job
  pub after : Plain
  pub holds : Holds p.job after
  pub extends : Extends list after
  pub inside : p.number < length after
  pub tree : tree_at after p.number ≡ t

-- the record that asks for long numbers says no term
pub long_unknown : (r : Bytes) → kind_of r ≡ long_kind → read number_bytes r ≡ unknown
unfolding read shape_of
long_unknown r e = rw e

some_bytes : (r : Bytes) → Sound r → r ≡ [] → ⊥
some_bytes r s e = let l = s.long in let z : length r ≡ 0 = ap length e in omega arith

module _ {job : Bytes} {list : Plain} (h : Holds job list) {r : Bytes} {o : Op} {ks : List ℕ} (s : Says list r o ks) where
  -- it is there
  keep_found : (k : ℕ) → place_from first_terms r (kept job) ≡ some k → Stood job list (placed k job) (tree_of list o ks)
  keep_found k e =
      let a = place_found r (drop first_terms list) first_terms k (ap (place_from first_terms r) (sym h.same) ∙ e) in
      let w = a.where_is in
      let g : get_elem? list k ≡ some a.at_entry = ap (get_elem? list) w ∙ sym (drop_two list a.off) ∙ a.there in
      let l : k < length list = get_elem_lt list k a.at_entry g in
      let c = h.well.kept k a.at_entry (omega arith) g in
      let q : term c.op c.args ≡ term o ks = sym c.says ∙ ap (read number_bytes) a.is_r ∙ s.says in
      let qo : c.op ≡ o = cc in
      let qa : c.args ≡ ks = cc in
      let te : tree_at list k ≡ a.at_entry.tree = ap (λ (x : Entry). x.tree) (some_inj _ _ (sym (get_elem_of list k (entry (node True nil) []) l) ∙ g)) in
      record { grows = grows_none job; after = list; holds = h; extends = extends_none list; inside = l; tree = te ∙ c.made ∙ ap₂ (tree_of list) qo qa }

  -- it is new
  new_entry : Entry
  new_entry = entry (tree_of list o ks) r

  fed_more : place_from first_terms r (kept job) ≡ none → feed number_bytes list r ≡ list ++ (new_entry ∷ [])
  unfolding feed new_entry
  fed_more e =
      let n : T (has list r) → ⊥ = λ t. place_none r (drop first_terms list) first_terms (ap (place_from first_terms r) (sym h.same) ∙ e) (past_two list r h.well (some_bytes r s.sound) t) in
      ap (feed_item list r) s.says ∙ ap (put list r) (term_of_is list o ks s.below)
      ∙ ap (λ (b : Bool). cond b list (list ++ (new_entry ∷ []))) (false_of (has list r) n)
    where
      false_of : (b : Bool) → (T b → ⊥) → b ≡ false
      false_of true f = absurd (f tt)
      false_of false f = refl

  keep_new : place_from first_terms r (kept job) ≡ none → Stood job list (placed (first_terms + length (kept job)) (job ++ r)) (tree_of list o ks)
  unfolding new_entry
  keep_new e =
      let list' = list ++ (new_entry ∷ []) in
      let n : T (has list r) → ⊥ = λ t. place_none r (drop first_terms list) first_terms (ap (place_from first_terms r) (sym h.same) ∙ e) (past_two list r h.well (some_bytes r s.sound) t) in
      let kl : first_terms + length (kept job) ≡ length list = kept_length h in
      let two = two_long list h.well in
      let l' : length list' ≡ length list + 1 = length-append list (new_entry ∷ []) in
      record {
        grows = record { records = r ∷ []; are = records_more job r h.clean s.lone; no_steps = ap (λ (i : Item). cond (is_step i) 1 0) s.says };
        after = list';
        holds = record {
          clean = clean_more job r h.clean s.lone;
          short = short_more job r h.clean (λ z. let q : term o ks ≡ unknown = sym s.says ∙ long_unknown r z in let y : ◌≡◌ {A = ℕ} 0 1 = cc in omega arith) h.short;
          list_is = ap (foldl (feed number_bytes) start) (records_more job r h.clean s.lone) ∙ foldl_append (feed number_bytes) start (records_of job) (r ∷ [])
              ∙ ap (λ (x : Plain). feed number_bytes x r) h.list_is ∙ fed_more e;
          well = snoc_well list r o ks h.well s.sound s.says s.below n;
          same = kept_more job r h.clean s.lone s.no_step ∙ ap (λ (x : List Bytes). x ++ (r ∷ [])) h.same
              ∙ sym (ap bytes_on (drop-append-le 2 list (new_entry ∷ []) two) ∙ map-append (λ (x : Entry). x.bytes) (drop 2 list) (new_entry ∷ []));
        };
        extends = record { more = new_entry ∷ []; is = refl };
        inside = omega arith;
        tree = ap (tree_at list') kl ∙ ap (λ (x : Entry). x.tree) (get_or-append_seam list new_entry [] (entry (node True nil) []));
      }

  pub keep_sound : (room : ℕ) (p : Placed) → keep room r job ≡ some p → Stood job list p (tree_of list o ks)
  unfolding keep
  keep_sound room p e = by_place (place_from first_terms r (kept job)) refl e
    where
      by_room : (b : Bool) → place_from first_terms r (kept job) ≡ none
          → bind (cond b (some (job ++ r)) none) (λ j. some (placed (first_terms + length (kept job)) j)) ≡ some p → Stood job list p (tree_of list o ks)
      by_room true f d = subst (λ (x : Placed). Stood job list x (tree_of list o ks)) (some_inj _ _ d) (keep_new f)
      by_room false f d = absurd (none_some p d)

      by_place : (q : Option ℕ) → place_from first_terms r (kept job) ≡ q
          → elim q as (λ x. Option Placed) [ none ↦ bind (append room r job) (λ j. some (placed (first_terms + length (kept job)) j)) | some k ↦ some (placed k job) ] ≡ some p
          → Stood job list p (tree_of list o ks)
      by_place none f d = by_room (leb (length job + length r) room) f d
      by_place (some k) f d = subst (λ (x : Placed). Stood job list x (tree_of list o ks)) (some_inj _ _ d) (keep_found k f)

-- ---- the bytes of a record
bytes_bytes : (k n : ℕ) → AllBytes (bytes_of k n)
bytes_bytes zero n = tt
bytes_bytes (suc k) n = (omega arith, bytes_bytes k (n / 256))

append_bytes : (xs ys : Bytes) → AllBytes xs → AllBytes ys → AllBytes (xs ++ ys)
append_bytes [] ys p q = q
append_bytes (x ∷ xs) ys p q = (p.0, append_bytes xs ys p.1 q)

words_all : (ks : List ℕ) → AllBytes (words_bytes ks)
words_all [] = tt
words_all (k ∷ ks) = append_bytes (word_bytes k) (words_bytes ks) (bytes_bytes 2 k) (words_all ks)

value_all : (xs : List ℕ) → AllBytes (value_last xs)
value_all [] = tt
value_all (n ∷ []) = bytes_bytes 2 n
value_all (n ∷ x ∷ xs) = append_bytes (word_bytes n) (bytes_of value_bytes x) (bytes_bytes 2 n) (bytes_bytes 8 x)

front_all : (o : Op) → AllBytes (front_bytes o)
unfolding front_bytes
front_all o = go (eqb (kind o) 12)
  where
    go : (b : Bool) → AllBytes (cond b (value_last (indices o)) (words_bytes (indices o)))
    go true = value_all (indices o)
    go false = words_all (indices o)

record_all : (k : ℕ) (body : Bytes) → AllBytes body → AllBytes (record_of k body)
record_all k body b = append_bytes (word_bytes (2 + length body)) (word_bytes k ++ body) (bytes_bytes 2 (2 + length body)) (append_bytes (word_bytes k) body (bytes_bytes 2 k) b)

pub record_sound_of : (k : ℕ) (body : Bytes) → 2 + length body < number_end → AllBytes body → Sound (record_of k body)
record_sound_of k body h b =
    let l = record_length k body in
    let z = record_lone k body h in
    let e : 2 + word (record_of k body) ≡ length (record_of k body) = z.size in
    record { bytes = record_all k body b; size = sym e; long = omega arith }

pub body_all : (o : Op) (ks : List ℕ) → AllBytes (front_bytes o ++ words_bytes ks)
body_all o ks = append_bytes (front_bytes o) (words_bytes ks) (front_all o) (words_all ks)
