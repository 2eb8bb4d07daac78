-- The bridge: on a well-kept list, the looked-up number of a gate is the place of the gate's term, or missing where no place has it.
use mathlib.Core.Path.{◌≡◌, refl, sym, ap, ap₂, subst, ◌∙◌}
use mathlib.Core.Bool.{Bool, true, false, ◌&&◌, cond}
use mathlib.Core.List.{List, [], ◌∷◌, ◌++◌, map, map-map}
use mathlib.Core.Logic.{◌↔◌}
use Rattle.std.specs.Prelude.{Option, None as none, Some as some}
use Prim.Native.Nat.{ℕ, suc, ◌+◌, ◌-◌, ◌/◌, ◌%◌, ◌^◌, ◌<◌, ◌≤◌}
use native.Mathlib.Nat.{pow-le-pow_right}
use native.Mathlib.Omega.{arith}
use lib.Dec.{T, leb, ltb, eqb, lt→ltb, leb→le}
use lib.Ieee.Fits.{and_l, and_r, and_i}
use lib.ListN.{length, drop, length-map, length-append}
use Rattle.std.specs.Prelude.{slice_get as get_elem?}
use borrow.Author.Tests.{le-ltb}
use Rattle.theory.specs.Limit.{first_terms}
use Rattle.theory.specs.Kind.{Op, True, False, Not, And, Or, Xor, Equals, Ite, BvBitOf, BvBbTerm, Const, kind, many, arity, takes}
use Rattle.theory.specs.Term.{Term, node, nil, cons, fold, folds, from_list, same_numbers, same_op}
use Rattle.theory.specs.Optional.{either, cons_some, collect}
use Rattle.theory.specs.Gates.{term_gates}
use Rattle.theory.specs.Record.{Bytes, AllBytes, bytes_of, term, misfit, plain, shape_of, body_of, read, front}
use Rattle.theory.specs.Plain.{Entry, entry, Plain}
use Rattle.theory.proofs.Basics.{none_some, some_inj, cons_some_is, get_elem_lt, T_true, true_T, T_same}
use Rattle.theory.proofs.Natural.{Hom}
use Rattle.theory.proofs.Blast.{folds_from_list}
use Rattle.theory.proofs.Same.{same_op_eq}
use Rattle.theory.proofs.Bytes.{words_length, Sound, SaysTerm, says_term, same_record, not_constant}
use Rattle.theory.proofs.Distinct.{WellKept}
use Rattle.theory.specs.Bits.{bb}
use Rattle.theory.proofs.Places.{tree_at}
use Rattle.theory.proofs.Place.{item_is, agrees, find_from, find, lookup, place, item_says, says_item, found_from, constants_placed, place_tree, tree_place}
use Rattle.rows.specs.Layout.{missing}
use Rattle.rows.specs.Rows.{place_from, place_of}
use Rattle.terms.specs.Bodies.{Length}
use Rattle.terms.proofs.Numbers.{place_small}
use Rattle.table.specs.Keys.{record_of, words_bytes, last_number, all_places, place_list, place_indexed, place_constant}
use Rattle.rows.proofs.RowLaws.{same_refl, same_sound}
use Rattle.store.specs.Numbers.{number, numbers, bit_number, bb_number, constant_number}
use Rattle.store.specs.Store.{records}
use Rattle.table.proofs.KeyLaws.{words_bytes_length, few_words}
use Rattle.store.proofs.Reading.{words_bytes_small, indexed_small, record_sound, read_plain, read_indexed, read_constant}

-- ---- one record: the lookup by bytes and the lookup by what a record says
abbrev AllSound : Plain → Type 0
AllSound [] = Unit {0}
AllSound (e ∷ rest) = Sound e.bytes × AllSound rest

module _ (b : ℕ) (x : Bytes) (o : Op) (ks : List ℕ) (s : Sound x) (d : read b x ≡ term o ks) where
  same_agrees : (e : Entry) → Sound e.bytes → same_numbers x e.bytes ≡ agrees b e o ks
  same_agrees e h =
      T_same (same_numbers x e.bytes) (agrees b e o ks)
      (λ t. says_item b o ks e (ap (read b) (sym (same_sound x e.bytes (T_true _ t))) ∙ d))
      (λ t. true_T _ (subst (λ (y : Bytes). same_numbers x y ≡ true) (same_record b x e.bytes o ks s h d (item_says (read b e.bytes) o ks t)) (same_refl x)))

  place_rest : (p : ℕ) (rest : Plain) → AllSound rest → place_from p x (map (λ (e : Entry). e.bytes) rest) ≡ number (find_from b p rest o ks)
  unfolding place_from find_from
  place_rest p [] h = refl
  place_rest p (e ∷ rest) h =
      ap₂ (λ (t : Bool) (k : ℕ). cond t p k) (same_agrees e h.0) (place_rest (suc p) rest h.1)
      ∙ number_cond (agrees b e o ks) p (find_from b (suc p) rest o ks)
    where
      number_cond : (b : Bool) (k : ℕ) (q : Option ℕ) → cond b k (number q) ≡ number (cond b (some k) q)
      number_cond true k q = refl
      number_cond false k q = refl

-- ---- a list is its first two entries and those that have a record
sound_from : (list : Plain) → ((i : ℕ) (e : Entry) → get_elem? list i ≡ some e → Sound e.bytes) → AllSound list
sound_from [] f = tt
sound_from (e ∷ list) f = (f 0 e refl, sound_from list (λ i x g. f (suc i) x g))

empty_item : (b : ℕ) (o : Op) (ks : List ℕ) → item_is (read b []) o ks ≡ false
unfolding read shape_of
empty_item b o ks = refl

skips : (b : ℕ) (e d : Entry) (rest : Plain) (o : Op) (ks : List ℕ) → (kind o < 2 → ⊥) → e.bytes ≡ [] → d.bytes ≡ [] → find b (e ∷ d ∷ rest) o ks ≡ find_from b first_terms rest o ks
unfolding find find_from
skips b e d rest o ks f p q =
    none_of (same_op True o && same_numbers [] ks) (same_op False o && same_numbers [] ks) (agrees b e o ks) (agrees b d o ks)
    (λ t. f (subst (λ (r : Op). kind r < 2) (same_op_eq True o (and_l (same_op True o) _ t)) (omega arith)))
    (λ t. f (subst (λ (r : Op). kind r < 2) (same_op_eq False o (and_l (same_op False o) _ t)) (omega arith)))
    (ap (λ (bs : Bytes). item_is (read b bs) o ks) p ∙ empty_item b o ks) (ap (λ (bs : Bytes). item_is (read b bs) o ks) q ∙ empty_item b o ks)
  where
    none_of : (a r c g : Bool) → (T a → ⊥) → (T r → ⊥) → c ≡ false → g ≡ false
        → cond a (some 0) (cond r (some 1) (cond c (some 0) (cond g (some 1) (find_from b 2 rest o ks)))) ≡ find_from b 2 rest o ks
    none_of true r c g h k x y = absurd (h tt)
    none_of false true c g h k x y = absurd (k tt)
    none_of false false c g h k x y = rw (x, y)

-- a record that says a term has as many arguments as its kind may have
pub says_count : {b : ℕ} (lb : Length b) (r : Bytes) (o : Op) (ks : List ℕ) → SaysTerm b r o ks → T (takes (arity o) (length ks))
says_count {b} lb r o ks s =
    let n = (length (body_of r) - front s.shape) / b in
    let t : T (takes (arity o) n) = and_r (eqb ((length (body_of r) - front s.shape) % b) 0) _ (and_r (leb (front s.shape) (length (body_of r))) _ s.fit) in
    subst (λ (k : ℕ). T (takes (arity o) k)) (sym (words_length b n (drop (front s.shape) (body_of r))) ∙ ap length s.args) t

module _ {b : ℕ} (lb : Length b) (list : Plain) (w : WellKept b list) where
  -- the first two entries, and the others
  record Parts : Type 0 where
    first : Entry
    second : Entry
    rest : Plain
    whole : list ≡ first ∷ second ∷ rest
    first_empty : first.bytes ≡ []
    second_empty : second.bytes ≡ []
    sound : AllSound rest

  parts_of : (l : Plain) → list ≡ l → Parts
  parts_of [] c = absurd (none_some _ (ap (λ (l : Plain). get_elem? l 0) (sym c) ∙ w.is_true))
  parts_of (e ∷ []) c = absurd (none_some _ (ap (λ (l : Plain). get_elem? l 1) (sym c) ∙ w.is_false))
  parts_of (e ∷ d ∷ rest) c = record {
    first = e;
    second = d;
    rest = rest;
    whole = c;
    first_empty = ap (λ (x : Entry). x.bytes) (some_inj e (entry (node True nil) []) (ap (λ (l : Plain). get_elem? l 0) (sym c) ∙ w.is_true));
    second_empty = ap (λ (x : Entry). x.bytes) (some_inj d (entry (node False nil) []) (ap (λ (l : Plain). get_elem? l 1) (sym c) ∙ w.is_false));
    sound = sound_from rest (λ i x g. (w.kept (suc (suc i)) x (omega arith) (ap (λ (l : Plain). get_elem? l (suc (suc i))) c ∙ g)).sound);
  }

  -- a record that says a term is found where a record that says it is
  pub place_find : (x : Bytes) (o : Op) (ks : List ℕ) → Sound x → read b x ≡ term o ks → place_of x (records list) ≡ number (find b list o ks)
  place_find x o ks s d =
      let p = parts_of list refl in
      ap (λ (l : Plain). place_of x (records l)) p.whole
      ∙ place_rest b x o ks s d first_terms p.rest p.sound
      ∙ ap number (sym (ap (λ (l : Plain). find b l o ks) p.whole ∙ skips b p.first p.second p.rest o ks (not_constant b x o ks d) p.first_empty p.second_empty))

  -- one that says none is not found, and neither is a term with a number of arguments that its kind has not
  place_none : (x : Bytes) → read b x ≡ misfit → (p : ℕ) (rest : Plain) → ((e : Entry) (i : ℕ) → get_elem? rest i ≡ some e → read b e.bytes ≡ misfit → ⊥)
      → place_from p x (map (λ (e : Entry). e.bytes) rest) ≡ missing
  unfolding place_from
  place_none x d p [] f = refl
  place_none x d p (e ∷ rest) f =
      ap₂ (λ (t : Bool) (k : ℕ). cond t p k) (off (same_numbers x e.bytes) (same_sound x e.bytes)) (place_none x d (suc p) rest (λ y i g. f y (suc i) g))
    where
      off : (t : Bool) → (t ≡ true → x ≡ e.bytes) → t ≡ false
      off true g = absurd (f e 0 refl (ap (read b) (sym (g refl)) ∙ d))
      off false g = refl

  kept_says : (p : Parts) (e : Entry) (i : ℕ) → get_elem? p.rest i ≡ some e → read b e.bytes ≡ misfit → ⊥
  kept_says p e i g d =
      let k = w.kept (suc (suc i)) e (omega arith) (ap (λ (l : Plain). get_elem? l (suc (suc i))) p.whole ∙ g) in
      let z : term k.op k.args ≡ misfit = sym k.says ∙ d in
      let y : ◌≡◌ {A = ℕ} 0 1 = cc in
      omega arith

  -- what is found says it, and stands on the list
  find_says : (o : Op) (ks : List ℕ) (k : ℕ) → (kind o < 2 → ⊥) → find b list o ks ≡ some k → (e : Entry) × (get_elem? list k ≡ some e) × (read b e.bytes ≡ term o ks)
  find_says o ks k f d =
      let p = parts_of list refl in
      let q = found_from b first_terms p.rest o ks k
      (sym (skips b p.first p.second p.rest o ks f p.first_empty p.second_empty) ∙ ap (λ (l : Plain). find b l o ks) (sym p.whole) ∙ d) in
      let z : k ≡ suc (suc q.0) = q.2 ∙ add_two' q.0 in
      (q.1, ap₂ (λ (l : Plain) (j : ℕ). get_elem? l j) p.whole z ∙ q.3, q.4)
    where
      add_two' : (j : ℕ) → first_terms + j ≡ suc (suc j)
      add_two' j = omega arith

  find_unfit : (o : Op) (ks : List ℕ) → (kind o < 2 → ⊥) → (T (takes (arity o) (length ks)) → ⊥) → find b list o ks ≡ none
  find_unfit o ks f g = go (find b list o ks) refl
    where
      go : (q : Option ℕ) → find b list o ks ≡ q → find b list o ks ≡ none
      go none c = c
      go (some k) c =
          let x = find_says o ks k f c in
          let s = says_term b x.0.bytes o ks x.2 in
          absurd (g (says_count lb x.0.bytes o ks s))

  -- the number of a gate whose arguments have these numbers
  gate_found : (o : Op) (ks : List ℕ) → kind o < 100 → (kind o < 2 → ⊥) → shape_of (kind o) ≡ some (plain o) → (T (takes (arity o) (length ks)) → length ks ≤ 64)
      → T (all_places b ks) → place_of (record_of (kind o) (words_bytes b ks)) (records list) ≡ number (find b list o ks)
  gate_found o ks h f e small p = go (takes (arity o) (length ks)) refl
    where
      go : (t : Bool) → takes (arity o) (length ks) ≡ t → place_of (record_of (kind o) (words_bytes b ks)) (records list) ≡ number (find b list o ks)
      go true c =
          let l = small (true_T _ c) in
          let n = words_bytes_length b ks in
          place_find (record_of (kind o) (words_bytes b ks)) o ks (record_sound (kind o) (words_bytes b ks) (let m = few_words lb.few_bytes l in omega arith) (words_bytes_small b ks))
          (read_plain lb o ks h e p ∙ ap (λ (t : Bool). cond t (term o ks) misfit) c)
      go false c =
          let q = parts_of list refl in
          ap (λ (l : Plain). place_of (record_of (kind o) (words_bytes b ks)) (records l)) q.whole
          ∙ place_none (record_of (kind o) (words_bytes b ks)) (read_plain lb o ks h e p ∙ ap (λ (t : Bool). cond t (term o ks) misfit) c) first_terms q.rest (kept_says q)
          ∙ ap number (sym (find_unfit o ks f (λ t. subst T c t)))

-- ---- numbers that may be missing
abbrev IsPlace : ℕ → Option ℕ → Type 0
IsPlace b none = Unit {0}
IsPlace b (some k) = k < last_number b

abbrev ArePlaces : ℕ → List (Option ℕ) → Type 0
ArePlaces b [] = Unit {0}
ArePlaces b (p ∷ ps) = IsPlace b p × ArePlaces b ps

collect_some : (b : ℕ) (ps : List (Option ℕ)) → ArePlaces b ps → (ks : List ℕ) → collect ps ≡ some ks → (map number ps ≡ ks) × T (all_places b ks)
unfolding all_places
collect_some b [] h ks e = (some_inj [] ks e, subst (λ (js : List ℕ). T (all_places b js)) (some_inj [] ks e) tt)
collect_some b (none ∷ ps) h ks e = absurd (none_some ks e)
collect_some b (some k ∷ ps) h ks e =
    let q = cons_some_is (some k) (collect ps) ks e in
    let r = collect_some b ps h.1 q.1 q.3 in
    let z : k ≡ q.0 = some_inj k q.0 q.2 in (
      ap₂ (λ (x : ℕ) (xs : List ℕ). x ∷ xs) z r.0 ∙ sym q.4,
      subst (λ (js : List ℕ). T (all_places b js)) (ap (λ (x : ℕ). x ∷ q.1) z ∙ sym q.4) (and_i (ltb k (last_number b)) (all_places b q.1) (lt→ltb k (last_number b) h.0) r.1),
    )

-- what stands for no place is none
missing_none : {b : ℕ} → Length b → ltb missing (last_number b) ≡ false
unfolding last_number
missing_none {b} lb = le-ltb missing (256 ^ b - 1) (let p : 256 ^ b ≤ 256 ^ 4 = pow-le-pow_right (omega arith) lb.few_bytes in omega arith)

collect_none : {b : ℕ} (lb : Length b) (ps : List (Option ℕ)) → collect ps ≡ none → all_places b (map number ps) ≡ false
unfolding all_places
collect_none lb [] e = absurd (none_some [] (sym e))
collect_none {b} lb (none ∷ ps) e = ap (λ (t : Bool). t && all_places b (map number ps)) (missing_none lb)
collect_none {b} lb (some k ∷ ps) e = go (collect ps) (collect_none lb ps) e
  where
    after : (t c : Bool) → c ≡ false → (t && c) ≡ false
    after true c d = d
    after false c d = refl

    go : (q : Option (List ℕ)) → (q ≡ none → all_places b (map number ps) ≡ false) → cons_some (some k) q ≡ none → (ltb k (last_number b) && all_places b (map number ps)) ≡ false
    go none f d = after (ltb k (last_number b)) (all_places b (map number ps)) (f refl)
    go (some ks) f d = absurd (none_some (k ∷ ks) (sym d))

ten_bytes : (n v : ℕ) → AllBytes (bytes_of 2 n ++ bytes_of 8 v)
ten_bytes n v = (omega arith, (omega arith, (omega arith, (omega arith, (omega arith, (omega arith, (omega arith, (omega arith, (omega arith, (omega arith, tt))))))))))

-- the places of a list are numbers that b bytes hold
pub record Few (b : ℕ) (list : Plain) : Type 0 where
  pub length_b : Length b
  pub count : length list < 256 ^ b

module _ {b : ℕ} (list : Plain) (w : WellKept b list) (few : Few b list) where
  -- a gate without indices: the looked-up number is the number of what `lookup` finds
  pub gate_number : (o : Op) → kind o < 100 → (kind o < 2 → ⊥) → shape_of (kind o) ≡ some (plain o) → (ps : List (Option ℕ))
      → (T (takes (arity o) (length ps)) → length ps ≤ 64) → ArePlaces b ps
      → place_list b (kind o) (map number ps) (records list) ≡ number (lookup b list o ps)
  unfolding place_list
  gate_number o h f e ps small q = go (collect ps) (collect_some b ps q) (collect_none few.length_b ps)
    where
      go : (c : Option (List ℕ)) → ((ks : List ℕ) → c ≡ some ks → (map number ps ≡ ks) × T (all_places b ks)) → (c ≡ none → all_places b (map number ps) ≡ false)
          → cond (all_places b (map number ps)) (place_of (record_of (kind o) (words_bytes b (map number ps))) (records list)) missing ≡ number (either none (find b list o) c)
      go none a r = ap (λ (t : Bool). cond t (place_of (record_of (kind o) (words_bytes b (map number ps))) (records list)) missing) (r refl)
      go (some ks) a r' =
          let r = a ks refl in
          let l : length ks ≡ length ps = ap length (sym r.0) ∙ length-map ps number in
          ap (λ (js : List ℕ). cond (all_places b js) (place_of (record_of (kind o) (words_bytes b js)) (records list)) missing) r.0
          ∙ ap (λ (t : Bool). cond t (place_of (record_of (kind o) (words_bytes b ks)) (records list)) missing) (T_true (all_places b ks) r.1)
          ∙ gate_found few.length_b list w o ks h f e (λ t. let m = small (subst (λ (n : ℕ). T (takes (arity o) n)) l t) in omega arith) r.1

  -- a place that is found is one
  find_place : (o : Op) (ks : List ℕ) (k : ℕ) → find b list o ks ≡ some k → k < length list
  unfolding find
  find_place o ks k e = go (same_op True o && same_numbers [] ks) (same_op False o && same_numbers [] ks) e
    where
      go : (a r : Bool) → cond a (some 0) (cond r (some 1) (find_from b 0 list o ks)) ≡ some k → k < length list
      go true r d = subst (λ (j : ℕ). j < length list) (some_inj 0 k d) (get_elem_lt list 0 _ w.is_true)
      go false true d = subst (λ (j : ℕ). j < length list) (some_inj 1 k d) (get_elem_lt list 1 _ w.is_false)
      go false false d = let q = found_from b 0 list o ks k d in let z : k ≡ 0 + q.0 = q.2 in omega (arith, get_elem_lt list q.0 q.1 q.3)

  listed_place : (k : ℕ) → k < length list → k < last_number b
  unfolding last_number
  listed_place k h = let c = few.count in omega arith

  lookup_place : (o : Op) (c : Option (List ℕ)) → IsPlace b (either none (find b list o) c)
  lookup_place o none = tt
  lookup_place o (some ks) = go (find b list o ks) refl
    where
      go : (q : Option ℕ) → find b list o ks ≡ q → IsPlace b q
      go none e = tt
      go (some k) e = listed_place k (find_place o ks k e)

  -- the number of a term
  abbrev pub number_of : Term → ℕ
  number_of t = number (place b list t)

  is_place : (t : Term) → IsPlace b (place b list t)
  unfolding fold
  is_place (node o ts) = lookup_place o (collect (folds (lookup b list) ts))

  are_places : (ts : List Term) → ArePlaces b (map (place b list) ts)
  are_places [] = tt
  are_places (t ∷ ts) = (is_place t, are_places ts)

  -- a gate of terms, looked up
  placed : (o : Op) → kind o < 100 → (kind o < 2 → ⊥) → shape_of (kind o) ≡ some (plain o) → (ts : List Term) → (T (takes (arity o) (length ts)) → length ts ≤ 64)
      → number_of (node o (from_list ts)) ≡ place_list b (kind o) (map number_of ts) (records list)
  unfolding fold
  placed o h f e ts small =
      ap (λ (ps : List (Option ℕ)). number (lookup b list o ps)) (folds_from_list (lookup b list) ts)
      ∙ sym (gate_number o h f e (map (place b list) ts) (λ t. let l = length-map ts (place b list) in let m = small (subst (λ (n : ℕ). T (takes (arity o) n)) l t) in omega arith) (are_places ts))
      ∙ ap (λ (ks : List ℕ). place_list b (kind o) ks (records list)) (map-map number (place b list) ts)

  -- THE BRIDGE: looking gates up respects the gates, so a circuit of looked-up numbers is the number of the circuit's term
  pub number_hom : Hom term_gates (numbers b (records list)) number_of
  unfolding shape_of
  number_hom = record {
    true_hom = ap number (constants_placed b list).0;
    false_hom = ap number (constants_placed b list).1;
    not_hom = λ x. placed Not (omega arith) (λ h. omega arith) refl (x ∷ []) (λ t. omega arith);
    and_hom = λ x y. placed And (omega arith) (λ h. omega arith) refl (x ∷ y ∷ []) (λ t. omega arith);
    or_hom = λ x y. placed Or (omega arith) (λ h. omega arith) refl (x ∷ y ∷ []) (λ t. omega arith);
    xor_hom = λ x y. placed Xor (omega arith) (λ h. omega arith) refl (x ∷ y ∷ []) (λ t. omega arith);
    eq_hom = λ x y. placed Equals (omega arith) (λ h. omega arith) refl (x ∷ y ∷ []) (λ t. omega arith);
    ite_hom = λ c x y. placed Ite (omega arith) (λ h. omega arith) refl (c ∷ x ∷ y ∷ []) (λ t. omega arith);
    all_hom = λ xs. placed And (omega arith) (λ h. omega arith) refl xs (many_small (length xs));
  }
    where
      many_small : (n : ℕ) → T (takes many n) → n ≤ 64
      many_small n t = leb→le n 64 (and_r (leb 1 n) _ t)

  -- the BvBbTerm of bits
  pub bb_hom : (ts : List Term) → number_of (bb ts) ≡ bb_number b (records list) (map number_of ts)
  unfolding shape_of
  bb_hom ts = placed BvBbTerm (omega arith) (λ h. omega arith) refl ts (λ t. leb→le (length ts) 64 (and_r (leb 1 (length ts)) _ t))

  -- a bit of a term
  bit_missing : (i : ℕ) → bit_number b (records list) i missing ≡ missing
  unfolding place_indexed all_places
  bit_missing i =
      ap (λ (t : Bool). cond (t && true) (place_of (record_of 30 (bytes_of 2 i ++ words_bytes b (missing ∷ []))) (records list)) missing)
      (missing_none few.length_b)

  bit_found : (i k : ℕ) → i < 64 → k < last_number b → bit_number b (records list) i k ≡ number (find b list (BvBitOf i) (k ∷ []))
  unfolding place_indexed all_places shape_of
  bit_found i k h l =
      let p : T (all_places b (k ∷ [])) = and_i (ltb k (last_number b)) true (lt→ltb k (last_number b) l) tt in
      let body = bytes_of 2 i ++ words_bytes b (k ∷ []) in
      let n = words_bytes_length b (k ∷ []) in
      let f = few.length_b.few_bytes in
      let m : length body ≡ 2 + length (words_bytes b (k ∷ [])) = length-append (bytes_of 2 i) (words_bytes b (k ∷ [])) in
      ap (λ (t : Bool). cond t (place_of (record_of 30 body) (records list)) missing) (T_true (all_places b (k ∷ [])) p)
      ∙ place_find few.length_b list w (record_of 30 body) (BvBitOf i) (k ∷ [])
      (record_sound 30 body (omega arith) (indexed_small b i (k ∷ [])))
      (read_indexed few.length_b BvBitOf i k (omega arith) refl refl (omega arith) p)

  pub bit_hom : (i : ℕ) → i < 64 → (t : Term) → number_of (node (BvBitOf i) (cons t nil)) ≡ bit_number b (records list) i (number_of t)
  unfolding fold
  bit_hom i h t = go (place b list t) (is_place t)
    where
      go : (q : Option ℕ) → IsPlace b q → number (either none (find b list (BvBitOf i)) (cons_some q (some []))) ≡ bit_number b (records list) i (number q)
      go none p = sym (bit_missing i)
      go (some k) p = sym (bit_found i k h p)

  -- a constant
  pub constant_hom : (n v : ℕ) → n < 65536 → v < 18446744073709551616 → number_of (node (Const n v) nil) ≡ constant_number (records list) n v
  unfolding fold place_constant
  constant_hom n v h l =
      sym (place_find few.length_b list w (record_of 12 (bytes_of 2 n ++ bytes_of 8 v)) (Const n v) []
      (record_sound 12 (bytes_of 2 n ++ bytes_of 8 v) (omega arith) (ten_bytes n v)) (read_constant few.length_b n v h l))

  -- a looked-up number is the claimed one exactly where the claimed term is the expected one
  pub number_exact : (k : ℕ) → k < length list → (t : Term) → (number_of t ≡ k) ↔ (tree_at list k ≡ t)
  number_exact k h t = (
    λ e. place_tree list w t k (some_number (place b list t) k (let p = place_small b (length list) few.length_b.few_bytes few.count in omega arith) e),
    λ e. ap number (ap (place b list) (sym e) ∙ tree_place list w k h),
  )
    where
      some_number : (q : Option ℕ) (j : ℕ) → j < missing → number q ≡ j → q ≡ some j
      some_number none j l e = absurd (omega arith)
      some_number (some i) j l e = ap some e
