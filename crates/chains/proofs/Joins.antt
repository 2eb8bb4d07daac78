-- The three rules on numbers: equal terms have equal numbers, and what is left of a list of premises decides.
use mathlib.Core.Path.{◌≡◌, refl, sym, ap, ap₂, subst, ◌∙◌}
use mathlib.Core.Bool.{Bool, true, false, ◌&&◌, and-false}
use mathlib.Core.List.{List, [], ◌∷◌, map}
use Rattle.std.specs.Prelude.{Option, None as none, Some as some, option_map, IfSome}
use Rattle.std.specs.Option.{option_eq}
use Prim.Native.Nat.{ℕ, zero, suc, ◌+◌, ◌≤◌, ◌<◌}
use native.Mathlib.Numerals.{add-one}
use native.Mathlib.Omega.{arith}
use lib.Dec.{T, leb, ltb, eqb, eqb→eq, eqb_refl}
use lib.ListN.{length, drop, get_or, drop_of_length-le, length-map}
use lib.Seq.{drop-cons}
use borrow.Author.Tests.{eq-eqb, ne_eqb, le-leb, ltb-true}
use Rattle.theory.specs.Limit.{first_terms}
use Rattle.theory.specs.Kind.{Op}
use Rattle.theory.specs.Term.{Term, same_op, same_term}
use Rattle.theory.specs.Optional.{either, cons_some, collect}
use Rattle.theory.specs.RuleTable.{by_symm, by_trans, by_cong}
use Rattle.theory.specs.Record.{Bytes}
use Rattle.theory.specs.Plain.{Plain}
use Rattle.theory.specs.Chain.{Earlier, Sides, turned, leads, argument_wise, joins}
use Rattle.theory.proofs.Basics.{T_same, T_true, true_T}
use Rattle.theory.proofs.Blast.{to_from_list}
use Rattle.theory.proofs.Same.{same_eq, eq_same}
use Rattle.theory.proofs.Places.{tree_at, tree_of, more_below}
use Rattle.theory.proofs.Distinct.{trees_distinct}
use Rattle.terms.specs.declared.Term.{Term as Decoded}
use Rattle.terms.specs.declared.Args.{Args}
use Rattle.terms.specs.declared.Operands.{Operands}
use Rattle.terms.specs.declared.Operands.TheVariants as O
use Rattle.terms.specs.Decoded.{operands_of, numbers_of, arguments_of, words_in}
use Rattle.terms.proofs.Lists.{words_in_length}
use Rattle.terms.proofs.Parts.{both}
use Rattle.store.specs.Sorts.{count_of}
use Rattle.theory.specs.Codes.{all_below}
use Rattle.store.specs.KeptTerms.{kept_terms, kept_term}
use Rattle.store.specs.Store.{Store, listed}
use Rattle.store.specs.Terms.{TermAt}
use Rattle.operand_rules.proofs.Forms.{tree}
use Rattle.chains.specs.declared.premises.Past.{Past}
use Rattle.chains.specs.Premises.{sides_in, is_equality, leads_in, argued, joins_in}
use Rattle.chains.specs.Told.{earlier_told, sides_of, sides_told, all_sides_told, Joining, Arguing}

-- ---- arguments
-- as many numbers as the code counts
pub count_length : (job : Bytes) (ops : Operands) → length (numbers_of job ops) ≡ count_of ops
count_length job O.None = refl
count_length job (O.One x) = refl
count_length job (O.Two x y) = refl
count_length job (O.Three x y z) = refl
count_length job (O.List a) = words_in_length job a

-- number i of them is a place
pub number_below : (b : ℕ) (ks : List ℕ) (i : ℕ) → all_below b ks ≡ true → i < length ks → get_or ks i 0 < b
number_below b [] i h l = absurd (omega arith)
number_below b (k ∷ ks) zero h l = ltb-true k b (both (ltb k b) (all_below b ks) h).0
number_below b (k ∷ ks) (suc i) h l = number_below b ks i (both (ltb k b) (all_below b ks) h).1 (omega arith)

-- the arguments of a term that is kept are kept
pub args_below : {job work : Bytes} {n p : ℕ} {t : Decoded} → TermAt job work n p t → p < first_terms + n → (ops : Operands) → ops ≡ operands_of t
    → all_below (first_terms + n) (numbers_of job ops) ≡ true
args_below {job} {work} {n} {p} {t} s h ops e =
    ap (λ (o : Operands). all_below (first_terms + n) (numbers_of job o)) e
    ∙ T_true _ (more_below p (first_terms + n) (omega arith) (arguments_of job t) (true_T _ s.below))

-- ---- numbers for terms
module _ {job work : Bytes} {n : ℕ} (s : Store job work n) where
  pub same_places : (a b : ℕ) → a < first_terms + n → b < first_terms + n → same_term (tree job work n a) (tree job work n b) ≡ eqb a b
  same_places a b h k =
      let c = s.count in
      T_same (same_term (tree job work n a) (tree job work n b)) (eqb a b)
      (λ t. subst (λ (x : ℕ). T (eqb a x))
      (trees_distinct (listed job work n) s.well a b (omega arith) (omega arith) (same_eq (tree job work n a) (tree job work n b) t)) (eqb_refl a))
      (λ t. eq_same (tree job work n a) (tree job work n b) (ap (tree job work n) (eqb→eq a b t)))

  -- one premise, by its sides
  module _ {a b l r : ℕ} (ha : a < first_terms + n) (hb : b < first_terms + n) (hl : l < first_terms + n) (hr : r < first_terms + n) {q : Option Sides}
      (e : some (tree job work n a, tree job work n b) ≡ q) where
    equality_is : is_equality (tree job work n l) (tree job work n r) q ≡ (eqb a l && eqb b r)
    equality_is =
        ap (is_equality (tree job work n l) (tree job work n r)) (sym e) ∙ ap₂ (λ (x y : Bool). x && y) (same_places a l ha hl) (same_places b r hb hr)

-- as many of each
pub argued_left : (list : Plain) (ps : List (Option Sides)) (xs ys : List ℕ) → (length xs ≡ length ps → ⊥) → false ≡ argued list ps xs ys
argued_left list [] [] ys h = absurd (h refl)
argued_left list [] (x ∷ xs) ys h = refl
argued_left list (p ∷ ps) [] ys h = refl
argued_left list (p ∷ ps) (x ∷ xs) [] h = refl
argued_left list (p ∷ ps) (x ∷ xs) (y ∷ ys) h =
    sym (ap (λ (b : Bool). is_equality (tree_at list x) (tree_at list y) p && b) (sym (argued_left list ps xs ys (λ e. h (ap suc e)))) ∙ and-false (is_equality (tree_at list x) (tree_at list y) p))

pub argued_right : (list : Plain) (ps : List (Option Sides)) (xs ys : List ℕ) → (length ys ≡ length ps → ⊥) → false ≡ argued list ps xs ys
argued_right list [] [] [] h = absurd (h refl)
argued_right list [] [] (y ∷ ys) h = refl
argued_right list [] (x ∷ xs) ys h = refl
argued_right list (p ∷ ps) [] ys h = refl
argued_right list (p ∷ ps) (x ∷ xs) [] h = refl
argued_right list (p ∷ ps) (x ∷ xs) (y ∷ ys) h =
    sym (ap (λ (b : Bool). is_equality (tree_at list x) (tree_at list y) p && b) (sym (argued_right list ps xs ys (λ e. h (ap suc e)))) ∙ and-false (is_equality (tree_at list x) (tree_at list y) p))

-- ---- from premises that may be missing to theory's test of all
-- the test of all, where none is missing
abbrev all : (List Sides → Bool) → List (Option Sides) → Bool
all f ps = either false f (collect ps)

all_cons : (f : List Sides → Bool) (p : Sides) (ps : List (Option Sides)) → all f (some p ∷ ps) ≡ all (λ (qs : List Sides). f (p ∷ qs)) ps
all_cons f p ps = go (collect ps)
  where
    go : (q : Option (List Sides)) → either false f (cons_some (some p) q) ≡ either false (λ (qs : List Sides). f (p ∷ qs)) q
    go none = refl
    go (some qs) = refl

all_and : (b : Bool) (f : List Sides → Bool) (ps : List (Option Sides)) → all (λ (qs : List Sides). b && f qs) ps ≡ (b && all f ps)
all_and b f ps = go (collect ps)
  where
    go : (q : Option (List Sides)) → either false (λ (qs : List Sides). b && f qs) q ≡ (b && either false f q)
    go none = sym (and-false b)
    go (some qs) = refl

all_never : (ps : List (Option Sides)) → all (λ (qs : List Sides). false) ps ≡ false
all_never ps = go (collect ps)
  where
    go : (q : Option (List Sides)) → either false (λ (qs : List Sides). false) q ≡ false
    go none = refl
    go (some qs) = refl

leads_all : (l r : Term) (ps : List (Option Sides)) → all (λ (qs : List Sides). leads l qs r) ps ≡ leads_in l ps r
leads_all l r [] = refl
leads_all l r (none ∷ ps) = refl
leads_all l r (some p ∷ ps) =
    all_cons (λ qs. leads l qs r) p ps ∙ all_and (same_term l p.0) (λ qs. leads p.1 qs r) ps ∙ ap (λ (b : Bool). same_term l p.0 && b) (leads_all p.1 r ps)

-- at least two
two_all : (f : List Sides → Bool) (ps : List (Option Sides)) → 2 ≤ length ps → all (λ (qs : List Sides). leb 2 (length qs) && f qs) ps ≡ all f ps
two_all f [] h = absurd (omega arith)
two_all f (p ∷ []) h = absurd (omega arith)
two_all f (none ∷ q ∷ ps) h = refl
two_all f (some p ∷ none ∷ ps) h = refl
two_all f (some p ∷ some q ∷ ps) h = go (collect ps)
  where
    go : (x : Option (List Sides)) → either false (λ (qs : List Sides). leb 2 (length qs) && f qs) (cons_some (some p) (cons_some (some q) x))
        ≡ either false f (cons_some (some p) (cons_some (some q) x))
    go none = refl
    go (some qs) = rw (le-leb 2 (length (p ∷ q ∷ qs)) (omega arith))

one_all : (f : List Sides → Bool) (ps : List (Option Sides)) → length ps < 2 → all (λ (qs : List Sides). leb 2 (length qs) && f qs) ps ≡ false
one_all f [] h = refl
one_all f (none ∷ []) h = refl
one_all f (some p ∷ []) h = refl
one_all f (p ∷ q ∷ ps) h = absurd (omega arith)

-- one
turned_all : (l r : Term) (p : Option Sides) → all (λ (qs : List Sides). turned qs l r) (p ∷ []) ≡ is_equality r l p
turned_all l r none = refl
turned_all l r (some p) = go (same_term p.1 l) (same_term p.0 r)
  where
    go : (a b : Bool) → a && b ≡ (b && a)
    go true true = refl
    go true false = refl
    go false true = refl
    go false false = refl

turned_other : (l r : Term) (ps : List (Option Sides)) → (length ps ≡ 1 → ⊥) → all (λ (qs : List Sides). turned qs l r) ps ≡ false
turned_other l r [] h = refl
turned_other l r (p ∷ []) h = absurd (h refl)
turned_other l r (none ∷ q ∷ ps) h = refl
turned_other l r (some p ∷ none ∷ ps) h = refl
turned_other l r (some p ∷ some q ∷ ps) h = go (collect ps)
  where
    go : (x : Option (List Sides)) → either false (λ (qs : List Sides). turned qs l r) (cons_some (some p) (cons_some (some q) x)) ≡ false
    go none = refl
    go (some qs) = refl

-- one for each argument
argued_all : (list : Plain) (ps : List (Option Sides)) (xs ys : List ℕ)
    → all (λ (qs : List Sides). argument_wise qs (map (tree_at list) xs) (map (tree_at list) ys)) ps ≡ argued list ps xs ys
argued_all list [] [] [] = refl
argued_all list [] [] (y ∷ ys) = refl
argued_all list [] (x ∷ xs) ys = refl
argued_all list (none ∷ ps) [] ys = refl
argued_all list (none ∷ ps) (x ∷ xs) [] = refl
argued_all list (none ∷ ps) (x ∷ xs) (y ∷ ys) = refl
argued_all list (some p ∷ ps) [] ys = all_cons (λ qs. argument_wise qs [] (map (tree_at list) ys)) p ps ∙ all_never ps
argued_all list (some p ∷ ps) (x ∷ xs) [] = all_cons (λ qs. argument_wise qs (tree_at list x ∷ map (tree_at list) xs) []) p ps ∙ all_never ps
argued_all list (some p ∷ ps) (x ∷ xs) (y ∷ ys) =
    let a = same_term p.0 (tree_at list x) in
    let b = same_term p.1 (tree_at list y) in
    let f : List Sides → Bool = λ qs. argument_wise qs (map (tree_at list) xs) (map (tree_at list) ys) in
    all_cons (λ qs. argument_wise qs (tree_at list x ∷ map (tree_at list) xs) (tree_at list y ∷ map (tree_at list) ys)) p ps
    ∙ all_and a (λ qs. b && f qs) ps ∙ ap (λ (c : Bool). a && c) (all_and b f ps ∙ ap (λ (c : Bool). b && c) (argued_all list ps xs ys)) ∙ assoc a b (argued list ps xs ys)
  where
    assoc : (a b c : Bool) → a && (b && c) ≡ (a && b && c)
    assoc true b c = refl
    assoc false b c = refl

module _ (earlier : Earlier) (list : Plain) (ks : List ℕ) where
  abbrev pub found : List (Option Sides)
  found = map (sides_in earlier list) ks

  pub found_length : length found ≡ length ks
  found_length = length-map ks (sides_in earlier list)

  -- premise i
  pub found_at : (i : ℕ) → i < length ks → sides_in earlier list (get_or ks i 0) ≡ get_or found i none
  found_at i h = go ks i h
    where
      go : (js : List ℕ) (j : ℕ) → j < length js → sides_in earlier list (get_or js j 0) ≡ get_or (map (sides_in earlier list) js) j none
      go [] j l = absurd (omega arith)
      go (k ∷ js) zero l = refl
      go (k ∷ js) (suc j) l = go js j (omega arith)

  pub symm_other : (l r : Term) → (length ks ≡ 1 → ⊥) → false ≡ joins_in by_symm earlier list ks l r
  unfolding joins_in joins
  symm_other l r h = sym (turned_other l r found (λ e. h (sym found_length ∙ e)))

  pub trans_few : (l r : Term) → length ks < 2 → false ≡ joins_in by_trans earlier list ks l r
  unfolding joins_in joins
  trans_few l r h = sym (one_all (λ qs. leads l qs r) found (let e = found_length in omega arith))

  pub trans_is : (l r : Term) → 2 ≤ length ks → leads_in l found r ≡ joins_in by_trans earlier list ks l r
  unfolding joins_in joins
  trans_is l r h = sym (two_all (λ qs. leads l qs r) found (let e = found_length in omega arith) ∙ leads_all l r found)

  cong_parts : (o p : Op) (xs ys : List ℕ) → joins_in by_cong earlier list ks (tree_of list o xs) (tree_of list p ys) ≡ (same_op o p && argued list found xs ys)
  unfolding joins_in joins
  cong_parts o p xs ys =
      let ts = map (tree_at list) xs in
      let us = map (tree_at list) ys in
      ap₂ (λ (vs ws : List Term). all (λ (qs : List Sides). same_op o p && argument_wise qs vs ws) found) (to_from_list ts) (to_from_list us)
      ∙ all_and (same_op o p) (λ qs. argument_wise qs ts us) found ∙ ap (λ (b : Bool). same_op o p && b) (argued_all list found xs ys)

  module _ {l r : Term} (o p : Op) (xs ys : List ℕ) (el : l ≡ tree_of list o xs) (er : r ≡ tree_of list p ys) where
    pub cong_other : same_op o p ≡ false → false ≡ joins_in by_cong earlier list ks l r
    cong_other e = sym (ap₂ (joins_in by_cong earlier list ks) el er ∙ cong_parts o p xs ys ∙ rw e)

    pub cong_is : same_op o p ≡ true → argued list found xs ys ≡ joins_in by_cong earlier list ks l r
    cong_is e = sym (ap₂ (joins_in by_cong earlier list ks) el er ∙ cong_parts o p xs ys ∙ rw e)

-- symm of one premise
pub symm_one : (earlier : Earlier) (list : Plain) (ks : List ℕ) (l r : Term) → length ks ≡ 1
    → is_equality r l (sides_in earlier list (get_or ks 0 0)) ≡ joins_in by_symm earlier list ks l r
unfolding joins_in joins
symm_one earlier list [] l r h = absurd (omega arith)
symm_one earlier list (k ∷ []) l r h = sym (turned_all l r (sides_in earlier list k))
symm_one earlier list (j ∷ k ∷ ks) l r h = absurd (omega arith)

-- ---- loops over the premises of a chain
-- a path of premises: what is left of it leads from where it has come to
pub record Leading (p : Past) (premises : Args) (l r at : ℕ) (left : List ℕ) : Type 0 where
  pub kept : at < first_terms + p.terms.rows
  pub rest : leads_in (kept_term p.terms l) (all_sides_told p premises) (kept_term p.terms r)
      ≡ leads_in (kept_term p.terms at) (map (sides_told p) left) (kept_term p.terms r)

-- arguments, one premise for each: what is left from i on decides
pub record Comparing (p : Past) (premises : Args) (xs ys : List ℕ) (i : ℕ) : Type 0 where
  pub rest : argued (kept_terms p.terms) (all_sides_told p premises) xs ys
      ≡ argued (kept_terms p.terms) (drop i (all_sides_told p premises)) (drop i xs) (drop i ys)

module _ (p : Past) (premises : Args) where
  -- as many sides as premises
  pub told_length : length (all_sides_told p premises) ≡ premises.count
  told_length =
      found_length (earlier_told p) (kept_terms p.terms) (words_in p.terms.job.now premises) ∙ words_in_length p.terms.job.now premises

  told_at : (i : ℕ) → i < premises.count → {k : ℕ} → k ≡ get_or (words_in p.terms.job.now premises) i 0 → sides_told p k ≡ get_or (all_sides_told p premises) i none
  told_at i h e =
      ap (sides_told p) e
      ∙ found_at (earlier_told p) (kept_terms p.terms) (words_in p.terms.job.now premises) i (let l = words_in_length p.terms.job.now premises in omega arith)

module _ (p : Past) where
  -- the sides that the code reads of the premise with number k
  module _ (s : Option (ℕ × ℕ)) (k : ℕ)
      (below : IfSome s (λ q. (q.0 < first_terms + p.terms.rows) × (q.1 < first_terms + p.terms.rows)))
      (e : option_map (sides_of p) s ≡ sides_told p k) where
    sides_none : s ≡ none → none ≡ sides_told p k
    sides_none f = sym (ap (option_map (sides_of p)) f) ∙ e

    module _ {a b : ℕ} (f : s ≡ some (a, b)) where
      sides_are : some (kept_term p.terms a, kept_term p.terms b) ≡ sides_told p k
      sides_are = ap (option_map (sides_of p)) (sym f) ∙ e

      both_below : (a < first_terms + p.terms.rows) × (b < first_terms + p.terms.rows)
      both_below = subst (λ (q : Option (ℕ × ℕ)). IfSome q (λ x. (x.0 < first_terms + p.terms.rows) × (x.1 < first_terms + p.terms.rows))) f below

      shown_by : {l r : ℕ} → l < first_terms + p.terms.rows → r < first_terms + p.terms.rows
          → (eqb a l && eqb b r) ≡ is_equality (kept_term p.terms l) (kept_term p.terms r) (sides_told p k)
      shown_by hl hr = sym (equality_is p.noted.store both_below.0 both_below.1 hl hr sides_are)

    -- they are compared by their numbers
    pub shown : (l r : ℕ) → l < first_terms + p.terms.rows → r < first_terms + p.terms.rows
        → option_eq (λ (x y : ℕ × ℕ). eqb x.0 y.0 && eqb x.1 y.1) s (some (l, r)) ≡ is_equality (kept_term p.terms l) (kept_term p.terms r) (sides_told p k)
    shown l r hl hr = go s refl
      where
        go : (q : Option (ℕ × ℕ)) → s ≡ q
            → option_eq (λ (x y : ℕ × ℕ). eqb x.0 y.0 && eqb x.1 y.1) q (some (l, r)) ≡ is_equality (kept_term p.terms l) (kept_term p.terms r) (sides_told p k)
        go none f = ap (is_equality (kept_term p.terms l) (kept_term p.terms r)) (sides_none f)
        go (some (a, b)) f = shown_by f hl hr

    module _ {premises : Args} {l r at : ℕ} {left others : List ℕ} (v : Leading p premises l r at left) (d : left ≡ k ∷ others) where
      here : leads_in (kept_term p.terms l) (all_sides_told p premises) (kept_term p.terms r)
          ≡ leads_in (kept_term p.terms at) (sides_told p k ∷ map (sides_told p) others) (kept_term p.terms r)
      here = v.rest ∙ ap (λ (ks : List ℕ). leads_in (kept_term p.terms at) (map (sides_told p) ks) (kept_term p.terms r)) d

      pub lead_none : s ≡ none → false ≡ leads_in (kept_term p.terms l) (all_sides_told p premises) (kept_term p.terms r)
      lead_none f =
          sym (here ∙ ap (λ (q : Option Sides). leads_in (kept_term p.terms at) (q ∷ map (sides_told p) others) (kept_term p.terms r)) (sym (sides_none f)))

      module _ {a b : ℕ} (f : s ≡ some (a, b)) where
        on : leads_in (kept_term p.terms l) (all_sides_told p premises) (kept_term p.terms r)
            ≡ (eqb at a && leads_in (kept_term p.terms b) (map (sides_told p) others) (kept_term p.terms r))
        on =
            here
            ∙ ap (λ (q : Option Sides). leads_in (kept_term p.terms at) (q ∷ map (sides_told p) others) (kept_term p.terms r)) (sym (sides_are f))
            ∙ ap (λ (x : Bool). x && leads_in (kept_term p.terms b) (map (sides_told p) others) (kept_term p.terms r))
            (same_places p.noted.store at a v.kept (both_below f).0)

        pub lead_off : (a ≡ at → ⊥) → false ≡ leads_in (kept_term p.terms l) (all_sides_told p premises) (kept_term p.terms r)
        lead_off g = sym (on ∙ rw (ne_eqb at a (λ z. g (sym z))))

        pub lead_turn : a ≡ at → Leading p premises l r b others
        lead_turn g = record { kept = (both_below f).1; rest = on ∙ rw (eq-eqb at a (sym g)) }

  pub lead_end : {premises : Args} {l r at : ℕ} {left : List ℕ} → Joining p premises l r → Leading p premises l r at left → left ≡ []
      → eqb at r ≡ leads_in (kept_term p.terms l) (all_sides_told p premises) (kept_term p.terms r)
  lead_end {premises} {l} {r} {at} {left} h v e =
      sym (v.rest
      ∙ ap (λ (ks : List ℕ). leads_in (kept_term p.terms at) (map (sides_told p) ks) (kept_term p.terms r)) e
      ∙ same_places p.noted.store at r v.kept h.right)

module _ (p : Past) (premises : Args) where
  -- the arguments of two terms, as many as premises
  module _ {xs ys : Operands} (h : Arguing p xs ys) where
    pub other_left : (count_of xs ≡ premises.count → ⊥)
        → false ≡ argued (kept_terms p.terms) (all_sides_told p premises) (numbers_of p.terms.job.now xs) (numbers_of p.terms.job.now ys)
    other_left f =
        argued_left (kept_terms p.terms) (all_sides_told p premises) (numbers_of p.terms.job.now xs) (numbers_of p.terms.job.now ys)
        (λ e. f (sym (count_length p.terms.job.now xs) ∙ e ∙ told_length p premises))

    pub other_right : (count_of ys ≡ premises.count → ⊥)
        → false ≡ argued (kept_terms p.terms) (all_sides_told p premises) (numbers_of p.terms.job.now xs) (numbers_of p.terms.job.now ys)
    other_right f =
        argued_right (kept_terms p.terms) (all_sides_told p premises) (numbers_of p.terms.job.now xs) (numbers_of p.terms.job.now ys)
        (λ e. f (sym (count_length p.terms.job.now ys) ∙ e ∙ told_length p premises))

    module _ (left : count_of xs ≡ premises.count) (right : count_of ys ≡ premises.count) {i : ℕ} where
      -- the arguments at place i are kept
      pub arguments_below : i < premises.count → {x y : ℕ} → x ≡ get_or (numbers_of p.terms.job.now xs) i 0 → y ≡ get_or (numbers_of p.terms.job.now ys) i 0
          → (x < first_terms + p.terms.rows) × (y < first_terms + p.terms.rows)
      arguments_below t {x} {y} e f =
          let m = count_length p.terms.job.now xs in
          let n = count_length p.terms.job.now ys in
          let a = number_below (first_terms + p.terms.rows) (numbers_of p.terms.job.now xs) i h.left_below (omega arith) in
          let b = number_below (first_terms + p.terms.rows) (numbers_of p.terms.job.now ys) i h.right_below (omega arith) in
          (omega (arith, a, e), omega (arith, b, f))

      module _ (v : Comparing p premises (numbers_of p.terms.job.now xs) (numbers_of p.terms.job.now ys) i) where
        pub argue_end : premises.count ≤ i
            → true ≡ argued (kept_terms p.terms) (all_sides_told p premises) (numbers_of p.terms.job.now xs) (numbers_of p.terms.job.now ys)
        argue_end t =
            let o = told_length p premises in
            let m = count_length p.terms.job.now xs in
            let n = count_length p.terms.job.now ys in
            let k : length (all_sides_told p premises) ≤ i = omega arith in
            let a : length (numbers_of p.terms.job.now xs) ≤ i = omega arith in
            let b : length (numbers_of p.terms.job.now ys) ≤ i = omega arith in
            sym (v.rest
            ∙ rw (drop_of_length-le (all_sides_told p premises) {i = i} k, drop_of_length-le (numbers_of p.terms.job.now xs) {i = i} a, drop_of_length-le (numbers_of p.terms.job.now ys) {i = i} b))

        module _ (t : i < premises.count) {x y : ℕ} (e : x ≡ get_or (numbers_of p.terms.job.now xs) i 0) (f : y ≡ get_or (numbers_of p.terms.job.now ys) i 0)
            {k : ℕ} (d : k ≡ get_or (words_in p.terms.job.now premises) i 0)
            {c : Bool} (shown : c ≡ is_equality (kept_term p.terms x) (kept_term p.terms y) (sides_told p k)) where
          on_argue : argued (kept_terms p.terms) (all_sides_told p premises) (numbers_of p.terms.job.now xs) (numbers_of p.terms.job.now ys)
              ≡ (c && argued (kept_terms p.terms) (drop (suc i) (all_sides_told p premises)) (drop (suc i) (numbers_of p.terms.job.now xs)) (drop (suc i) (numbers_of p.terms.job.now ys)))
          on_argue =
              let o = told_length p premises in
              let m = count_length p.terms.job.now xs in
              let n = count_length p.terms.job.now ys in
              let j : i < length (all_sides_told p premises) = omega arith in
              let a : i < length (numbers_of p.terms.job.now xs) = omega arith in
              let b : i < length (numbers_of p.terms.job.now ys) = omega arith in
              v.rest
              ∙ rw (drop-cons (all_sides_told p premises) i none j, drop-cons (numbers_of p.terms.job.now xs) i 0 a, drop-cons (numbers_of p.terms.job.now ys) i 0 b)
              (ap (λ (z : Bool). z && argued (kept_terms p.terms) (drop (suc i) (all_sides_told p premises)) (drop (suc i) (numbers_of p.terms.job.now xs)) (drop (suc i) (numbers_of p.terms.job.now ys)))
              (ap₂ (λ (w z : ℕ). is_equality (kept_term p.terms w) (kept_term p.terms z) (get_or (all_sides_told p premises) i none)) (sym e) (sym f)
              ∙ ap (is_equality (kept_term p.terms x) (kept_term p.terms y)) (sym (told_at p premises i t d)) ∙ sym shown))

          pub argue_fails : c ≡ false → false ≡ argued (kept_terms p.terms) (all_sides_told p premises) (numbers_of p.terms.job.now xs) (numbers_of p.terms.job.now ys)
          argue_fails g = sym (on_argue ∙ rw g)

          pub argue_turn : c ≡ true → Comparing p premises (numbers_of p.terms.job.now xs) (numbers_of p.terms.job.now ys) (i + 1)
          argue_turn g = record { rest = on_argue ∙ rw (g, add-one) }
