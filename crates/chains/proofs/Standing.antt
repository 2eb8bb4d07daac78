-- Premises: what the code reads of an earlier step, and that it is theory's.
use mathlib.Core.Path.{◌≡◌, refl, sym, ap, subst, ◌∙◌}
use mathlib.Core.Bool.{Bool, true, false, cond}
use mathlib.Core.List.{List, [], ◌∷◌, map}
use Rattle.std.specs.Prelude.{Option, None as none, Some as some, Result, Ok, Err}
use Prim.Native.Nat.{ℕ, zero, suc, ◌+◌, ◌-◌, ◌≤◌, ◌<◌}
use native.Mathlib.Omega.{arith}
use lib.Dec.{leb, ltb, eqb}
use lib.ListN.{length, get_or, length-map}
use Rattle.std.specs.Prelude.{slice_get as get_elem?}
use Rattle.std.specs.Bool.{then_some}
use borrow.Author.Tests.{eq-eqb, ne_eqb, le-leb}
use Rattle.theory.specs.Limit.{first_terms}
use Rattle.theory.specs.Optional.{either}
use Rattle.theory.specs.Record.{Bytes, read, claim_of, number_length}
use Rattle.theory.specs.Record as R
use Rattle.theory.specs.Plain.{at_place}
use Rattle.theory.specs.Chain.{Earlier, Sides, sides, premise_place, premise_at}
use Rattle.theory.proofs.Basics.{none_some, some_inj, get_elem_of, get_elem_lt}
use Rattle.theory.proofs.Places.{tree_at, at_place_is}
use Rattle.theory.proofs.Origins.{Mark, before, standing, all_standing}
use Rattle.terms.specs.declared.Item.{Item}
use Rattle.terms.specs.declared.Item.TheVariants as I
use Rattle.terms.specs.declared.Fault.{Fault}
use Rattle.terms.specs.declared.Fault.TheVariants as F
use Rattle.terms.specs.Framing.{record_at}
use Rattle.terms.specs.declared.Args.{Args}
use Rattle.terms.specs.Decoded.{read_of, words_in}
use Rattle.terms.proofs.Lists.{words_in_length}
use Rattle.rows.specs.Layout.{link_size, offset_at}
use Rattle.rows.specs.Rows.{column, offsets}
use Rattle.rows.proofs.RowLaws.{get_or_column, length_column}
use Rattle.store.specs.Store.{Store, listed}
use Rattle.operand_rules.proofs.Forms.{tree}
use Rattle.steps.specs.Answering.{step_place, step_code}
use Rattle.chains.specs.declared.premises.Past.{Past}
use Rattle.chains.specs.Premises.{claimed_at, left_at, mark_at, marks_in, origins, earlier_in, origin_before, sides_in}

-- ---- the literal that a record claims
-- which item was read
pub was_read : {r : Result Item Fault} {i j : Item} → r ≡ Ok i → i ≡ j → r ≡ Ok j
was_read e f = cc

-- once it is known what was read there
pub claims : (job : Bytes) (place : ℕ) {r : Result Item Fault} (q : Result Item Fault) → read_of job r ≡ read (number_length job) (record_at job place) → r ≡ q
    → either none (λ (c : ℕ × List ℕ). get_elem? c.1 0) (claim_of (read_of job q)) ≡ claimed_at job place
unfolding claimed_at
claims job place q e f = ap (λ (j : R.Item). either none (λ (c : ℕ × List ℕ). get_elem? c.1 0) (claim_of j)) (ap (read_of job) (sym f) ∙ e)

-- a record that says nothing claims nothing
pub claims_none : (job : Bytes) (place : ℕ) (r : Result Item Fault) → ((i : Item) → r ≡ Ok i → ⊥) → read_of job r ≡ read (number_length job) (record_at job place)
    → none ≡ claimed_at job place
claims_none job place (Ok i) h e = absurd (h i refl)
claims_none job place (Err F.Unknown) h e = claims job place (Err F.Unknown) e refl
claims_none job place (Err F.Misfit) h e = claims job place (Err F.Misfit) e refl

-- the first of a list
pub first_of : (ks : List ℕ) → 0 < length ks → some (get_or ks 0 0) ≡ get_elem? ks 0
first_of ks h = sym (get_elem_of ks 0 0 h)

none_first : (ks : List ℕ) → length ks ≡ 0 → none ≡ get_elem? ks 0
none_first [] h = refl
none_first (k ∷ ks) h = absurd (omega arith)

-- a step's
module _ (job : Bytes) (place : ℕ) {r : Result Item Fault} {rule : ℕ} {a : Args} (e : read_of job r ≡ read (number_length job) (record_at job place)) (f : r ≡ Ok (I.Step rule a)) where
  pub step_none : a.count ≡ 0 → none ≡ claimed_at job place
  step_none h = none_first (words_in job a) (words_in_length job a ∙ h) ∙ claims job place (Ok (I.Step rule a)) e f

  pub step_first : (a.count ≡ 0 → ⊥) → {x : ℕ} → x ≡ get_or (words_in job a) 0 0 → some x ≡ claimed_at job place
  step_first h g = ap some g ∙ first_of (words_in job a) (let l = words_in_length job a in omega arith) ∙ claims job place (Ok (I.Step rule a)) e f

-- ---- the origin of a term
column_at : {A : Type 0} (f : ℕ → A) (d : A) (n k : ℕ) → k < n → get_elem? (column f n) k ≡ some (f k)
column_at f d n k h = get_elem_of (column f n) k d (let l = length_column f n in omega arith) ∙ ap some (get_or_column f d n k h)

column_none : {A : Type 0} (f : ℕ → A) (n k : ℕ) → n ≤ k → get_elem? (column f n) k ≡ none
column_none f n k h = beyond (column f n) k (let l = length_column f n in omega arith)
  where
    beyond : {A : Type 0} (xs : List A) (i : ℕ) → length xs ≤ i → get_elem? xs i ≡ none
    beyond [] i h = refl
    beyond (x ∷ xs) zero h = absurd (omega arith)
    beyond (x ∷ xs) (suc i) h = beyond xs i (omega arith)

map_at : {A B : Type 0} (f : A → B) (xs : List A) (k : ℕ) → get_elem? (map f xs) k ≡ either none (λ (a : A). some (f a)) (get_elem? xs k)
map_at f [] k = refl
map_at f (x ∷ xs) zero = refl
map_at f (x ∷ xs) (suc k) = map_at f xs k

-- of a row
row_origin : (job work : Bytes) (n p : ℕ) → first_terms ≤ p → p - first_terms < n → get_elem? (origins job work n) p ≡ some (suc (offset_at (link_size job) work (p - first_terms)))
unfolding origins offsets
row_origin job work n zero l h = absurd (omega arith)
row_origin job work n (suc zero) l h = absurd (omega arith)
row_origin job work n (suc (suc k)) l h =
    let e : suc (suc k) - first_terms ≡ k = omega arith in
    map_at suc (column (offset_at (link_size job) work) n) k ∙ ap (either none (λ (a : ℕ). some (suc a))) (column_at (offset_at (link_size job) work) 0 n k (omega arith))
    ∙ ap (λ (j : ℕ). some (suc (offset_at (link_size job) work j))) (sym e)

no_origin : (job work : Bytes) (n p : ℕ) → first_terms ≤ p → n ≤ p - first_terms → get_elem? (origins job work n) p ≡ none
unfolding origins offsets
no_origin job work n zero l h = absurd (omega arith)
no_origin job work n (suc zero) l h = absurd (omega arith)
no_origin job work n (suc (suc k)) l h = map_at suc (column (offset_at (link_size job) work) n) k ∙ ap (either none (λ (a : ℕ). some (suc a))) (column_none (offset_at (link_size job) work) n k (omega arith))

-- `true` and `false`
pub first_before : (job work : Bytes) (n p at : ℕ) → p < first_terms → true ≡ origin_before job work n p at
unfolding origin_before origins
first_before job work n zero at h = sym (le-leb 0 at (omega arith))
first_before job work n (suc zero) at h = sym (le-leb 0 at (omega arith))
first_before job work n (suc (suc p)) at h = absurd (omega arith)

pub absent_before : (job work : Bytes) (n p at : ℕ) → first_terms ≤ p → n ≤ p - first_terms → false ≡ origin_before job work n p at
unfolding origin_before
absent_before job work n p at l h = sym (ap (either false (λ (o : ℕ). leb o at)) (no_origin job work n p l h))

pub row_before : (job work : Bytes) (n p at : ℕ) → first_terms ≤ p → p - first_terms < n → ltb (offset_at (link_size job) work (p - first_terms)) at ≡ origin_before job work n p at
unfolding origin_before
row_before job work n p at l h = sym (ap (either false (λ (o : ℕ). leb o at)) (row_origin job work n p l h))

-- a term that is there has a place
pub origin_below : (job work : Bytes) (n p o : ℕ) → get_elem? (origins job work n) p ≡ some o → p < first_terms + n
unfolding origins offsets
origin_below job work n p o e =
    let a = get_elem_lt (origins job work n) p o e in
    let l = length_column (offset_at (link_size job) work) n in
    let m = length-map (column (offset_at (link_size job) work) n) suc in
    omega arith

-- ---- a premise
module _ (job work memory : Bytes) (n answered : ℕ) where
  abbrev E : Earlier
  E = earlier_in job work memory n answered

  earlier_at : (k : ℕ) → k < answered → get_elem? E k ≡ some (standing (origins job work n) (step_place (number_length job) memory k) (left_at job memory k))
  unfolding marks_in
  earlier_at k h =
      map_at (λ (m : Mark). standing (origins job work n) m.0 m.1) (column (mark_at job memory) answered) k
      ∙ ap (either none (λ (m : Mark). some (standing (origins job work n) m.0 m.1))) (column_at (mark_at job memory) (0, none) answered k h)

  module _ {number : ℕ} (some_number : number ≡ 0 → ⊥) where
    next : number ≡ suc (number - 1)
    next = omega arith

    -- no such step
    pub premise_beyond : answered ≤ number - 1 → none ≡ premise_place E number
    unfolding marks_in
    premise_beyond h =
        sym (ap (premise_place E) next
        ∙ ap (either none (λ (p : Option ℕ). p))
        (map_at (λ (m : Mark). standing (origins job work n) m.0 m.1) (column (mark_at job memory) answered) (number - 1)
        ∙ ap (either none (λ (m : Mark). some (standing (origins job work n) m.0 m.1))) (column_none (mark_at job memory) answered (number - 1) h)))

    module _ (there : number - 1 < answered) where
      premise_is : premise_place E number ≡ standing (origins job work n) (step_place (number_length job) memory (number - 1)) (left_at job memory (number - 1))
      premise_is = ap (premise_place E) next ∙ ap (either none (λ (p : Option ℕ). p)) (earlier_at (number - 1) there)

      -- it is not held
      pub premise_refused : {code : ℕ} → code ≡ step_code (number_length job) memory (number - 1) → (code ≡ 0 → ⊥) → none ≡ premise_place E number
      unfolding left_at
      premise_refused {code} e f =
          sym (premise_is ∙ ap (λ (b : Bool). standing (origins job work n) (step_place (number_length job) memory (number - 1)) (cond b (claimed_at job (step_place (number_length job) memory (number - 1))) none))
          (ap (λ (c : ℕ). eqb c 0) (sym e) ∙ ne_eqb code 0 f))

      -- it is held
      module _ {code place : ℕ} (e : code ≡ step_code (number_length job) memory (number - 1)) (z : code ≡ 0) (g : place ≡ step_place (number_length job) memory (number - 1)) where
        premise_left : {q : Option ℕ} → q ≡ claimed_at job place → premise_place E number ≡ standing (origins job work n) place q
        unfolding left_at
        premise_left {q} f =
            premise_is
            ∙ ap (λ (b : Bool). standing (origins job work n) (step_place (number_length job) memory (number - 1)) (cond b (claimed_at job (step_place (number_length job) memory (number - 1))) none)) (ap (λ (c : ℕ). eqb c 0) (sym e) ∙ eq-eqb code 0 z)
            ∙ ap (λ (s : ℕ). standing (origins job work n) s (claimed_at job s)) (sym g)
            ∙ ap (standing (origins job work n) place) (sym f)

        pub premise_claims_none : none ≡ claimed_at job place → none ≡ premise_place E number
        premise_claims_none f = sym (premise_left f)

        pub premise_stands : {p : ℕ} → some p ≡ claimed_at job place → {b : Bool} → b ≡ origin_before job work n p place → then_some b p ≡ premise_place E number
        unfolding origin_before
        premise_stands {p} f {b} h = sym (premise_left f ∙ go (get_elem? (origins job work n) p) ∙ ap (λ (c : Bool). cond c (some p) none) (sym h) ∙ kept b)
          where
            kept : (c : Bool) → cond c (some p) none ≡ then_some c p
            kept true = refl
            kept false = refl

            go : (q : Option ℕ) → before q place p ≡ cond (either false (λ (o : ℕ). leb o place) q) (some p) none
            go none = refl
            go (some o) = refl

  -- its literal is kept
  stands_below : (s : ℕ) (q : Option ℕ) (p : ℕ) → standing (origins job work n) s q ≡ some p → p < first_terms + n
  stands_below s none p e = absurd (none_some p e)
  stands_below s (some m) p e = go (get_elem? (origins job work n) m) refl e
    where
      go : (o : Option ℕ) → get_elem? (origins job work n) m ≡ o → before o s m ≡ some p → p < first_terms + n
      go none f d = absurd (none_some p d)
      go (some o) f d = by_test (leb o s) d
        where
          by_test : (b : Bool) → cond b (some m) none ≡ some p → p < first_terms + n
          by_test true c = subst (λ (x : ℕ). x < first_terms + n) (some_inj m p c) (origin_below job work n m o f)
          by_test false c = absurd (none_some p c)

  marks_below : (ms : List Mark) (k p : ℕ) → get_elem? (all_standing (origins job work n) ms) k ≡ some (some p) → p < first_terms + n
  marks_below [] k p e = absurd (none_some (some p) e)
  marks_below (m ∷ ms) zero p e = stands_below m.0 m.1 p (some_inj (standing (origins job work n) m.0 m.1) (some p) e)
  marks_below (m ∷ ms) (suc k) p e = marks_below ms k p e

  pub premise_below : (number p : ℕ) → premise_place E number ≡ some p → p < first_terms + n
  premise_below zero p e = absurd (none_some p e)
  premise_below (suc k) p e = go (get_elem? E k) refl e
    where
      go : (q : Option (Option ℕ)) → get_elem? E k ≡ q → either none (λ (x : Option ℕ). x) q ≡ some p → p < first_terms + n
      go none f d = absurd (none_some p d)
      go (some none) f d = absurd (none_some p d)
      go (some (some m)) f d = marks_below (marks_in job memory answered) k p (f ∙ ap some d)

  -- what the code read of the premise with the number `arg`, which is `number`
  module _ (s : Store job work n) (arg number : ℕ) (x : Option ℕ) (read_is : x ≡ premise_place E arg) (same : arg ≡ number) where
    place_is : premise_place E number ≡ x
    place_is = ap (premise_place E) (sym same) ∙ sym read_is

    -- none
    pub broken_tree : x ≡ none → premise_at E (listed job work n) number ≡ none
    broken_tree e = ap (either none (at_place (listed job work n))) (place_is ∙ e)

    pub broken_sides : x ≡ none → none ≡ sides_in E (listed job work n) number
    unfolding sides_in
    broken_sides e = sym (ap (either none sides) (broken_tree e))

    module _ {p : ℕ} (e : x ≡ some p) where
      pub literal_below : p < first_terms + n
      literal_below = premise_below number p (place_is ∙ e)

      pub standing_tree : premise_at E (listed job work n) number ≡ some (tree_at (listed job work n) p)
      standing_tree =
          let c = s.count in
          let b = literal_below in
          ap (either none (at_place (listed job work n))) (place_is ∙ e) ∙ at_place_is (listed job work n) p (omega arith)

      pub standing_sides : {q : Option Sides} → sides (tree job work n p) ≡ q → q ≡ sides_in E (listed job work n) number
      unfolding sides_in
      standing_sides f = sym (ap (either none sides) standing_tree ∙ f)

-- ---- the answer to a step that is there
module _ (p : Past) (k : ℕ) where
  pub code_told : {c : ℕ} → c ≡ step_code p.answers.bytes p.answers.memory.now k → c ≡ step_code (number_length p.terms.job.now) p.answers.memory.now k
  code_told f = f ∙ ap (λ (b : ℕ). step_code b p.answers.memory.now k) p.depth_bytes

  pub place_told : {c : ℕ} → c ≡ step_place p.answers.bytes p.answers.memory.now k → c ≡ step_place (number_length p.terms.job.now) p.answers.memory.now k
  place_told f = f ∙ ap (λ (b : ℕ). step_place b p.answers.memory.now k) p.depth_bytes
