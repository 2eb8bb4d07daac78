-- Term numbers: looking a term up on the plain list is a fold, and a term that stands on the list has its place as number.
use mathlib.Core.Path.{◌≡◌, refl, sym, ap, ap₂, subst, ◌∙◌}
use mathlib.Core.Bool.{Bool, true, false, ◌&&◌, cond}
use mathlib.Core.List.{List, [], ◌∷◌, map}
use Rattle.std.specs.Prelude.{Option, None as none, Some as some}
use Prim.Native.Nat.{ℕ, zero, suc, ◌+◌, ◌<◌, ◌≤◌}
use native.Mathlib.Omega.{arith}
use lib.Dec.{T, ltb, ltb→lt}
use lib.Ieee.Fits.{and_l, and_r, and_i}
use lib.ListN.{length}
use Rattle.std.specs.Prelude.{slice_get as get_elem?}
use Rattle.theory.specs.Limit.{first_terms}
use Rattle.theory.specs.Kind.{Op, True, False, kind}
use Rattle.theory.specs.Term.{Term, Terms, node, nil, cons, fold, folds, from_list, same_numbers, same_op}
use Rattle.theory.specs.Optional.{either, cons_some, collect}
use Rattle.theory.specs.Record.{Item, term, read, shape_of}
use Rattle.theory.specs.Plain.{Entry, entry, Plain}
use Rattle.theory.specs.Codes.{all_below}
unfoldable pub use Rattle.theory.specs.Places.{item_is, agrees, find_from, find, lookup, place}
use Rattle.theory.proofs.Basics.{none_some, some_inj, cons_some_is, get_elem_of, get_elem_lt}
use Rattle.theory.proofs.Same.{same_numbers_eq, same_numbers_refl, same_op_eq, same_op_refl}
use Rattle.theory.proofs.Bytes.{same_record, not_constant}
use Rattle.theory.proofs.Places.{entry_at, tree_at, tree_of}
use Rattle.theory.proofs.Distinct.{Entered, WellKept, tree_0, tree_1, kept_at}

-- ---- what is found
pub item_says : (i : Item) (o : Op) (ks : List ℕ) → T (item_is i o ks) → i ≡ term o ks
item_says (term p js) o ks h =
    ap₂ term (same_op_eq p o (and_l (same_op p o) _ h)) (same_numbers_eq js ks (and_r (same_op p o) _ h))
item_says (Rattle.theory.specs.Record.step _ _) o ks h = elim h [ ]
item_says (Rattle.theory.specs.Record.chain _ _ _) o ks h = elim h [ ]
item_says (Rattle.theory.specs.Record.back _) o ks h = elim h [ ]
item_says Rattle.theory.specs.Record.unknown o ks h = elim h [ ]
item_says Rattle.theory.specs.Record.misfit o ks h = elim h [ ]

pub says_item : (b : ℕ) (o : Op) (ks : List ℕ) (e : Entry) → read b e.bytes ≡ term o ks → T (agrees b e o ks)
says_item b o ks e h =
    subst (λ (i : Item). T (item_is i o ks)) (sym h) (and_i (same_op o o) (same_numbers ks ks) (same_op_refl o) (same_numbers_refl ks))

pub found_from : (b : ℕ) (n : ℕ) (list : Plain) (o : Op) (ks : List ℕ) (k : ℕ) → find_from b n list o ks ≡ some k
    → (j : ℕ) × (e : Entry) × (k ≡ n + j) × (get_elem? list j ≡ some e) × (read b e.bytes ≡ term o ks)
unfolding find_from
found_from b n [] o ks k d = absurd (none_some k d)
found_from b n (e ∷ list) o ks k d = go (agrees b e o ks) (λ t. t) (found_from b (suc n) list o ks k) d
  where
    go : (t : Bool) → (T t → T (agrees b e o ks))
        → (find_from b (suc n) list o ks ≡ some k → (j : ℕ) × (x : Entry) × (k ≡ suc n + j) × (get_elem? list j ≡ some x) × (read b x.bytes ≡ term o ks))
        → cond t (some n) (find_from b (suc n) list o ks) ≡ some k
        → (j : ℕ) × (x : Entry) × (k ≡ n + j) × (get_elem? (e ∷ list) j ≡ some x) × (read b x.bytes ≡ term o ks)
    go true f ih c =
        let z = some_inj n k c in
        (0, e, omega arith, refl, item_says (read b e.bytes) o ks (f tt))
    go false f ih c = let (j, x, y, u, v) = ih c in (suc j, x, omega arith, u, v)

-- no bytes say no term
empty_says : (b : ℕ) (o : Op) (ks : List ℕ) → read b [] ≡ term o ks → ⊥
unfolding read shape_of
empty_says b o ks e = let z : ◌≡◌ {A = ℕ} 0 1 = cc in omega arith

module _ {b : ℕ} (list : Plain) (w : WellKept b list) where
  -- a record that says a term stands after the first two
  late : (j : ℕ) (e : Entry) (o : Op) (ks : List ℕ) → get_elem? list j ≡ some e → read b e.bytes ≡ term o ks → first_terms ≤ j
  late zero e o ks f d = absurd (empty_says b o ks (ap (λ (x : Entry). read b x.bytes) (some_inj _ e (sym w.is_true ∙ f)) ∙ d))
  late (suc zero) e o ks f d = absurd (empty_says b o ks (ap (λ (x : Entry). read b x.bytes) (some_inj _ e (sym w.is_false ∙ f)) ∙ d))
  late (suc (suc j)) e o ks f d = omega arith

  said_tree : (j : ℕ) (e : Entry) (o : Op) (ks : List ℕ) → get_elem? list j ≡ some e → read b e.bytes ≡ term o ks → tree_at list j ≡ tree_of list o ks
  said_tree j e o ks f d =
      let k = w.kept j e (late j e o ks f d) f in
      let s : term k.op k.args ≡ term o ks = sym k.says ∙ d in
      let p : k.op ≡ o = cc in
      let q : k.args ≡ ks = cc in
      let t : entry_at list j ≡ e = some_inj _ e (sym (get_elem_of list j (entry (node True nil) []) (get_elem_lt list j e f)) ∙ f) in
      ap (λ (x : Entry). x.tree) t ∙ k.made ∙ ap₂ (tree_of list) p q

  pub find_tree : (o : Op) (ks : List ℕ) (k : ℕ) → find b list o ks ≡ some k → tree_at list k ≡ tree_of list o ks
  unfolding find
  find_tree o ks k d = go (same_op True o && same_numbers [] ks) (same_op False o && same_numbers [] ks) (λ t. t) (λ t. t) d
    where
      constant : (i : ℕ) (p : Op) → tree_at list i ≡ node p nil → T (same_op p o && same_numbers [] ks) → i ≡ k → tree_at list k ≡ tree_of list o ks
      constant i p f t z =
          ap (tree_at list) (sym z) ∙ f ∙ ap₂ (tree_of list) (same_op_eq p o (and_l (same_op p o) _ t)) (same_numbers_eq [] ks (and_r (same_op p o) _ t))

      go : (a c : Bool) → (T a → T (same_op True o && same_numbers [] ks)) → (T c → T (same_op False o && same_numbers [] ks))
          → cond a (some 0) (cond c (some 1) (find_from b 0 list o ks)) ≡ some k → tree_at list k ≡ tree_of list o ks
      go true x f g c = constant 0 True (tree_0 list w) (f tt) (some_inj 0 k c)
      go false true f g c = constant 1 False (tree_1 list w) (g tt) (some_inj 1 k c)
      go false false f g c =
          let (j, e, x, y, u) = found_from b 0 list o ks k c in
          ap (tree_at list) (let z : k ≡ j = omega arith in z) ∙ said_tree j e o ks y u

either_some : (f : List ℕ → Option ℕ) (q : Option (List ℕ)) (k : ℕ) → either none f q ≡ some k → (ks : List ℕ) × (q ≡ some ks) × (f ks ≡ some k)
either_some f none k e = absurd (none_some k e)
either_some f (some ks) k e = (ks, refl, e)

-- a term that has a number stands at that place
module _ {b : ℕ} (list : Plain) (w : WellKept b list) where
  mutual
    unfolding fold

    pub place_tree : (t : Term) (k : ℕ) → place b list t ≡ some k → tree_at list k ≡ t
    place_tree (node o ts) k e =
        let q = either_some (find b list o) (collect (folds (lookup b list) ts)) k e in
        find_tree list w o q.0 k q.2 ∙ ap (node o) (places_trees ts q.0 q.1)

    places_trees : (ts : Terms) (ks : List ℕ) → collect (folds (lookup b list) ts) ≡ some ks → from_list (map (tree_at list) ks) ≡ ts
    places_trees nil ks e = ap (λ (js : List ℕ). from_list (map (tree_at list) js)) (sym (some_inj [] ks e))
    places_trees (cons t ts) ks e =
        let q = cons_some_is (fold (lookup b list) t) (collect (folds (lookup b list) ts)) ks e in
        ap (λ (js : List ℕ). from_list (map (tree_at list) js)) q.4
        ∙ ap₂ cons (place_tree t q.0 q.2) (places_trees ts q.1 q.3)

-- ---- a term of the list is found at its place
first_match : (b : ℕ) (n : ℕ) (list : Plain) (o : Op) (ks : List ℕ) (j : ℕ) (e : Entry) → get_elem? list j ≡ some e → T (agrees b e o ks)
    → ((i : ℕ) (d : Entry) → i < j → get_elem? list i ≡ some d → T (agrees b d o ks) → ⊥) → find_from b n list o ks ≡ some (n + j)
unfolding find_from
first_match b n [] o ks j e g t f = absurd (none_some e g)
first_match b n (x ∷ xs) o ks zero e g t f =
    go (agrees b x o ks) (subst (λ (d : Entry). T (agrees b d o ks)) (sym (some_inj x e g)) t)
  where
    go : (t : Bool) → T t → cond t (some n) (find_from b (suc n) xs o ks) ≡ some (n + 0)
    go true h = ap some (let z : n ≡ n + 0 = omega arith in z)
    go false h = absurd h
first_match b n (x ∷ xs) o ks (suc j) e g t f =
    go (agrees b x o ks) (λ h. f 0 x (omega arith) refl h) (first_match b (suc n) xs o ks j e g t (λ i d l c h. f (suc i) d (omega arith) c h))
  where
    go : (t : Bool) → (T t → ⊥) → find_from b (suc n) xs o ks ≡ some (suc n + j) → cond t (some n) (find_from b (suc n) xs o ks) ≡ some (n + suc j)
    go true h c = absurd (h tt)
    go false h c = c ∙ ap some (let z : suc n + j ≡ n + suc j = omega arith in z)

pub constants_placed : (b : ℕ) (list : Plain) → (place b list (node True nil) ≡ some 0) × (place b list (node False nil) ≡ some 1)
unfolding fold find same_op
constants_placed b list = (refl, refl)

module _ {b : ℕ} (list : Plain) (w : WellKept b list) where
  -- a kept record is found under its own number
  find_own : (i : ℕ) (e : Entry) (k : Entered b list i e) → get_elem? list i ≡ some e → find b list k.op k.args ≡ some i
  unfolding find
  find_own i e k f =
      let o = k.op in
      let ks = k.args in
      go (same_op True o && same_numbers [] ks) (same_op False o && same_numbers [] ks)
      (λ t. apart True (same_op_eq True o (and_l (same_op True o) _ t)) (omega arith))
      (λ t. apart False (same_op_eq False o (and_l (same_op False o) _ t)) (omega arith))
      (first_match b 0 list o ks i e f (says_item b o ks e k.says)
      (λ j d l g t. let s : read b d.bytes ≡ term o ks = item_says (read b d.bytes) o ks t in
      k.new j d l g (same_record b d.bytes e.bytes o ks (w.kept j d (late list w j d o ks g s) g).sound k.sound s k.says)))
    where
      apart : (p : Op) → p ≡ k.op → kind p < 2 → ⊥
      apart p c l = not_constant b e.bytes k.op k.args k.says (subst (λ (q : Op). kind q < 2) c l)

      go : (a c : Bool) → (T a → ⊥) → (T c → ⊥) → find_from b 0 list k.op k.args ≡ some (0 + i)
          → cond a (some 0) (cond c (some 1) (find_from b 0 list k.op k.args)) ≡ some i
      go true x f g d = absurd (f tt)
      go false true f g d = absurd (g tt)
      go false false f g d = d ∙ ap some (let z : 0 + i ≡ i = omega arith in z)

  collect_all : (n : ℕ) → ((i : ℕ) → i < n → place b list (tree_at list i) ≡ some i)
      → (ks : List ℕ) → T (all_below n ks) → collect (folds (lookup b list) (from_list (map (tree_at list) ks))) ≡ some ks
  unfolding fold
  collect_all n h [] b = refl
  collect_all n h (k ∷ ks) b = ap₂ cons_some (h k (ltb→lt k n (and_l (ltb k n) _ b))) (collect_all n h ks (and_r (ltb k n) _ b))

  kept_placed : (o : Op) (ks : List ℕ) (i : ℕ) → collect (folds (lookup b list) (from_list (map (tree_at list) ks))) ≡ some ks → find b list o ks ≡ some i
      → place b list (tree_of list o ks) ≡ some i
  unfolding fold
  kept_placed o ks i c f = ap (either none (find b list o)) c ∙ f

  placed : (n i : ℕ) → i < n → i < length list → place b list (tree_at list i) ≡ some i
  placed zero i l m = absurd (omega arith)
  placed (suc n) zero l m = ap (place b list) (tree_0 list w) ∙ (constants_placed b list).0
  placed (suc n) (suc zero) l m = ap (place b list) (tree_1 list w) ∙ (constants_placed b list).1
  placed (suc n) (suc (suc j)) l m =
      let i = suc (suc j) in
      let k = kept_at list w i (omega arith) m in
      ap (place b list) k.made
      ∙ kept_placed k.op k.args i (collect_all i (λ x b. placed n x (omega arith) (omega arith)) k.args k.below)
      (find_own i (entry_at list i) k (get_elem_of list i (entry (node True nil) []) m))

  pub tree_place : (i : ℕ) → i < length list → place b list (tree_at list i) ≡ some i
  tree_place i h = placed (suc i) i (omega arith) h
