-- A term that is written stands on the plain list, at the place of its number.
use mathlib.Core.Path.{◌≡◌, refl, sym, ap, ap₂, subst, ◌∙◌}
use mathlib.Core.Bool.{Bool, true, false, ◌&&◌, cond}
use mathlib.Core.Logic.{◌⊎◌, inl, inr, ⊎_elim}
use mathlib.Core.List.{List, [], ◌∷◌, ◌++◌, map}
use Rattle.std.specs.Prelude.{Option, None as none, Some as some}
use Prim.Native.Nat.{ℕ, ◌+◌, ◌<◌, ◌≤◌}
use native.Mathlib.Omega.{arith}
use lib.Dec.{T, leb, eqb, ltb, lt→ltb}
use lib.Ieee.Fits.{and_i}
use lib.ListN.{length, length-append, length-map}
use borrow.Author.Tests.{eqb-true, leb-true, ltb-true, ltb-false}
use Rattle.theory.specs.Limit.{first_terms, max_arguments}
use Rattle.theory.specs.Kind.{Op, True, False, Not, And, Or, Xor, Equals, Ite, BoolVar, BvVar, Const, BvBitOf, BvBbTerm, BvNot, BvNeg, BvAnd, BvOr, BvXor, BvAdd, BvMul, BvXNor, BvComp, BvULt, BvSLt, BvShl, BvLShr, BvAShr, BvUDiv, BvURem, BvConcat, BvExtract, SignExtend, ZeroExtend, RotateLeft, RotateRight, Repeat, kind, arity, takes}
use Rattle.theory.specs.Term.{Term, Terms, node, nil, cons, from_list, to_list}
use Rattle.theory.specs.Record.{Bytes, kind_of}
use Rattle.theory.specs.Plain.{Plain}
use Rattle.theory.specs.Codes.{all_below}
use Rattle.theory.proofs.Basics.{none_some, some_inj}
use Rattle.theory.specs.Places.{tree_at}
use Rattle.theory.proofs.Distinct.{tree_0, tree_1}
use Rattle.text.specs.Reading.{bind, number_end}
use Rattle.text.specs.Writing.{Placed, placed, PlacedAll, placed_all, keep, record_of, words_bytes, front_bytes, term_record, put_term, write, write_all}
use Rattle.text.proofs.Encoding.{Fit, record_kind, record_lone, words_length, term_says}
use Rattle.text.proofs.Listed.{Holds, Grows, grows_none, grows_on, Extends, extends_none, extends_on, extends_length, extends_tree, Says, Stood, keep_sound, record_sound_of, body_all, two_long}

-- ---- the kinds, one by one
pub small : (o : Op) → (kind o < 64) × (length (front_bytes o) ≤ 10)
unfolding front_bytes
small True = (omega arith, omega arith)
small False = (omega arith, omega arith)
small Not = (omega arith, omega arith)
small And = (omega arith, omega arith)
small Or = (omega arith, omega arith)
small Xor = (omega arith, omega arith)
small Equals = (omega arith, omega arith)
small Ite = (omega arith, omega arith)
small BvBbTerm = (omega arith, omega arith)
small BvNot = (omega arith, omega arith)
small BvNeg = (omega arith, omega arith)
small BvAnd = (omega arith, omega arith)
small BvOr = (omega arith, omega arith)
small BvXor = (omega arith, omega arith)
small BvAdd = (omega arith, omega arith)
small BvMul = (omega arith, omega arith)
small BvXNor = (omega arith, omega arith)
small BvComp = (omega arith, omega arith)
small BvULt = (omega arith, omega arith)
small BvSLt = (omega arith, omega arith)
small BvShl = (omega arith, omega arith)
small BvLShr = (omega arith, omega arith)
small BvAShr = (omega arith, omega arith)
small BvUDiv = (omega arith, omega arith)
small BvURem = (omega arith, omega arith)
small BvConcat = (omega arith, omega arith)
small (BoolVar x) = (omega arith, omega arith)
small (BvVar n x) = (omega arith, omega arith)
small (Const n x) = (omega arith, omega arith)
small (BvBitOf i) = (omega arith, omega arith)
small (BvExtract i j) = (omega arith, omega arith)
small (SignExtend m) = (omega arith, omega arith)
small (ZeroExtend m) = (omega arith, omega arith)
small (RotateLeft m) = (omega arith, omega arith)
small (RotateRight m) = (omega arith, omega arith)
small (Repeat m) = (omega arith, omega arith)

exact : (k n : ℕ) → k ≤ 3 → eqb n k ≡ true → n ≤ max_arguments
exact k n h e = let q = eqb-true n k e in omega arith

up_to : (n : ℕ) → (leb 1 n && leb n max_arguments) ≡ true → n ≤ max_arguments
up_to n e = leb-true n max_arguments (second (leb 1 n) e)
  where
    second : (a : Bool) {b : Bool} → (a && b) ≡ true → b ≡ true
    second true e = e
    second false e = absurd (let z : ◌≡◌ {A = ℕ} 0 1 = cc in omega arith)

-- no kind has more arguments
pub few : (o : Op) (n : ℕ) → takes (arity o) n ≡ true → n ≤ max_arguments
few True n e = exact 0 n (omega arith) e
few False n e = exact 0 n (omega arith) e
few Not n e = exact 1 n (omega arith) e
few And n e = up_to n e
few Or n e = up_to n e
few Xor n e = exact 2 n (omega arith) e
few Equals n e = exact 2 n (omega arith) e
few Ite n e = exact 3 n (omega arith) e
few BvBbTerm n e = up_to n e
few BvNot n e = exact 1 n (omega arith) e
few BvNeg n e = exact 1 n (omega arith) e
few BvAnd n e = up_to n e
few BvOr n e = up_to n e
few BvXor n e = up_to n e
few BvAdd n e = up_to n e
few BvMul n e = up_to n e
few BvXNor n e = exact 2 n (omega arith) e
few BvComp n e = exact 2 n (omega arith) e
few BvULt n e = exact 2 n (omega arith) e
few BvSLt n e = exact 2 n (omega arith) e
few BvShl n e = exact 2 n (omega arith) e
few BvLShr n e = exact 2 n (omega arith) e
few BvAShr n e = exact 2 n (omega arith) e
few BvUDiv n e = exact 2 n (omega arith) e
few BvURem n e = exact 2 n (omega arith) e
few BvConcat n e = up_to n e
few (BoolVar x) n e = exact 0 n (omega arith) e
few (BvVar w x) n e = exact 0 n (omega arith) e
few (Const w x) n e = exact 0 n (omega arith) e
few (BvBitOf i) n e = exact 1 n (omega arith) e
few (BvExtract i j) n e = exact 1 n (omega arith) e
few (SignExtend m) n e = exact 1 n (omega arith) e
few (ZeroExtend m) n e = exact 1 n (omega arith) e
few (RotateLeft m) n e = exact 1 n (omega arith) e
few (RotateRight m) n e = exact 1 n (omega arith) e
few (Repeat m) n e = exact 1 n (omega arith) e

-- only `true` and `false` have kinds below 2
pub low : (o : Op) → kind o < first_terms → (o ≡ True) ⊎ (o ≡ False)
low True h = inl refl
low False h = inr refl
low Not h = absurd (omega arith)
low And h = absurd (omega arith)
low Or h = absurd (omega arith)
low Xor h = absurd (omega arith)
low Equals h = absurd (omega arith)
low Ite h = absurd (omega arith)
low BvBbTerm h = absurd (omega arith)
low BvNot h = absurd (omega arith)
low BvNeg h = absurd (omega arith)
low BvAnd h = absurd (omega arith)
low BvOr h = absurd (omega arith)
low BvXor h = absurd (omega arith)
low BvAdd h = absurd (omega arith)
low BvMul h = absurd (omega arith)
low BvXNor h = absurd (omega arith)
low BvComp h = absurd (omega arith)
low BvULt h = absurd (omega arith)
low BvSLt h = absurd (omega arith)
low BvShl h = absurd (omega arith)
low BvLShr h = absurd (omega arith)
low BvAShr h = absurd (omega arith)
low BvUDiv h = absurd (omega arith)
low BvURem h = absurd (omega arith)
low BvConcat h = absurd (omega arith)
low (BoolVar x) h = absurd (omega arith)
low (BvVar n x) h = absurd (omega arith)
low (Const n x) h = absurd (omega arith)
low (BvBitOf i) h = absurd (omega arith)
low (BvExtract i j) h = absurd (omega arith)
low (SignExtend m) h = absurd (omega arith)
low (ZeroExtend m) h = absurd (omega arith)
low (RotateLeft m) h = absurd (omega arith)
low (RotateRight m) h = absurd (omega arith)
low (Repeat m) h = absurd (omega arith)

-- ---- terms that can be written: the numbers in them fit, and the arguments are as many as the kind has
unfoldable mutual
  pub Writable : Term → Type 0
  Writable (node o ts) = Fit o × (takes (arity o) (length (to_list ts)) ≡ true) × WritableAll ts

  pub WritableAll : Terms → Type 0
  WritableAll nil = Unit {0}
  WritableAll (cons t ts) = Writable t × WritableAll ts

-- ---- a term whose arguments stand on the list
pub from_to : (ts : Terms) → from_list (to_list ts) ≡ ts
from_to nil = refl
from_to (cons t ts) = ap (cons t) (from_to ts)

no_terms : (ts : Terms) → length (to_list ts) ≡ 0 → ts ≡ nil
no_terms nil e = refl
no_terms (cons t ts) e = absurd (omega arith)

record StoodAll (job : Bytes) (list : Plain) (g : PlacedAll) (ts : Terms) : Type 0 where
  grows : Grows job g.job
  after : Plain
  holds : Holds g.job after
  extends : Extends list after
  below : T (all_below (length after) g.numbers)
  trees : map (tree_at after) g.numbers ≡ to_list ts

module _ {job : Bytes} {list : Plain} {g : PlacedAll} {ts : Terms} (a : StoodAll job list g ts) (o : Op) (fit : Fit o) (t : takes (arity o) (length (to_list ts)) ≡ true) where
  count : length g.numbers ≡ length (to_list ts)
  count = sym (length-map g.numbers (tree_at a.after)) ∙ ap length a.trees

  put_low : kind o < first_terms → Stood job list (placed (kind o) g.job) (node o ts)
  put_low h =
      let w = a.holds.well in
      let two = two_long a.after w in
      record { grows = a.grows; after = a.after; holds = a.holds; extends = a.extends; inside = omega arith; tree = ⊎_elim (λ e. by_true e) (λ e. by_false e) (low o h) }
    where
      by_true : o ≡ True → tree_at a.after (kind o) ≡ node o ts
      by_true e =
          let n : length (to_list ts) ≡ 0 = eqb-true (length (to_list ts)) 0 (subst (λ (x : Op). takes (arity x) (length (to_list ts)) ≡ true) e t) in
          ap (λ (x : Op). tree_at a.after (kind x)) e ∙ tree_0 a.after a.holds.well ∙ ap₂ node (sym e) (sym (no_terms ts n))

      by_false : o ≡ False → tree_at a.after (kind o) ≡ node o ts
      by_false e =
          let n : length (to_list ts) ≡ 0 = eqb-true (length (to_list ts)) 0 (subst (λ (x : Op). takes (arity x) (length (to_list ts)) ≡ true) e t) in
          ap (λ (x : Op). tree_at a.after (kind x)) e ∙ tree_1 a.after a.holds.well ∙ ap₂ node (sym e) (sym (no_terms ts n))

  says : first_terms ≤ kind o → all_below number_end g.numbers ≡ true → Says a.after (term_record o g.numbers) o g.numbers
  unfolding term_record
  says lo b =
      let s = small o in
      let hi = s.0 in
      let fr = s.1 in
      let c = count in
      let n : length (to_list ts) ≤ max_arguments = few o (length (to_list ts)) t in
      let body = front_bytes o ++ words_bytes g.numbers in
      let l : length body ≡ length (front_bytes o) + length (words_bytes g.numbers) = length-append (front_bytes o) (words_bytes g.numbers) in
      let wl = words_length g.numbers in
      let size : 2 + length body < number_end = omega arith in
      let k : kind_of (record_of (kind o) body) ≡ kind o = record_kind (kind o) body (omega arith) in
      record {
        says = term_says o g.numbers fit lo (ap (takes (arity o)) c ∙ t) b;
        sound = record_sound_of (kind o) body size (body_all o g.numbers);
        lone = record_lone (kind o) body size;
        no_step = λ e. omega arith;
        below = a.below;
      }

  put_sound : (room : ℕ) (p : Placed) → put_term room o g ≡ some p → Stood job list p (node o ts)
  unfolding put_term
  put_sound room p e = by_kind (ltb (kind o) first_terms) refl e
    where
      by_numbers : (b : Bool) → first_terms ≤ kind o → all_below number_end g.numbers ≡ b → cond b (keep room (term_record o g.numbers) g.job) none ≡ some p → Stood job list p (node o ts)
      by_numbers false lo f d = absurd (none_some p d)
      by_numbers true lo f d =
          let s = keep_sound a.holds (says lo f) room p d in
          record {
            grows = grows_on a.grows s.grows;
            after = s.after;
            holds = s.holds;
            extends = extends_on a.extends s.extends;
            inside = s.inside;
            tree = s.tree ∙ ap (λ (l : List Term). node o (from_list l)) a.trees ∙ ap (node o) (from_to ts);
          }

      by_kind : (b : Bool) → ltb (kind o) first_terms ≡ b
          → cond b (some (placed (kind o) g.job)) (cond (all_below number_end g.numbers) (keep room (term_record o g.numbers) g.job) none) ≡ some p → Stood job list p (node o ts)
      by_kind true f d = subst (λ (x : Placed). Stood job list x (node o ts)) (some_inj _ _ d) (put_low (ltb-true (kind o) first_terms f))
      by_kind false f d = by_numbers (all_below number_end g.numbers) (ltb-false (kind o) first_terms f) refl d

-- ---- one term after the others
stood_none : {job : Bytes} {list : Plain} → Holds job list → StoodAll job list (placed_all [] job) nil
stood_none {job} {list} h = record { grows = grows_none job; after = list; holds = h; extends = extends_none list; below = tt; trees = refl }

stood_more : {job : Bytes} {list : Plain} {p : Placed} {t : Term} (s : Stood job list p t) {g : PlacedAll} {ts : Terms} → StoodAll p.job s.after g ts
    → StoodAll job list (placed_all (p.number ∷ g.numbers) g.job) (cons t ts)
stood_more {job} {list} {p} {t} s {g} {ts} a =
    let i = s.inside in
    let l = extends_length a.extends in
    record {
      grows = grows_on s.grows a.grows;
      after = a.after;
      holds = a.holds;
      extends = extends_on s.extends a.extends;
      below = and_i (ltb p.number (length a.after)) _ (lt→ltb p.number (length a.after) (omega arith)) a.below;
      trees = ap₂ (λ (x : Term) (xs : List Term). x ∷ xs) (extends_tree a.extends p.number i ∙ s.tree) a.trees;
    }

after_all : {job : Bytes} {list : Plain} {o : Op} {ts : Terms} → Fit o → takes (arity o) (length (to_list ts)) ≡ true → (room : ℕ) (p : Placed) (q : Option PlacedAll)
    → ((g : PlacedAll) → q ≡ some g → StoodAll job list g ts) → bind q (put_term room o) ≡ some p → Stood job list p (node o ts)
after_all f t room p none ih d = absurd (none_some p d)
after_all {o = o} f t room p (some g) ih d = put_sound (ih g refl) o f t room p d

after_rest : {job : Bytes} {list : Plain} {t : Term} {ts : Terms} {p : Placed} (s : Stood job list p t) (g : PlacedAll) (q : Option PlacedAll) → ((x : PlacedAll) → q ≡ some x → StoodAll p.job s.after x ts)
    → bind q (λ x. some (placed_all (p.number ∷ x.numbers) x.job)) ≡ some g → StoodAll job list g (cons t ts)
after_rest s g none ih d = absurd (none_some g d)
after_rest {job} {list} {t} {ts} {p} s g (some x) ih d = subst (λ (y : PlacedAll). StoodAll job list y (cons t ts)) (some_inj _ _ d) (stood_more s (ih x refl))

after_first : {job : Bytes} {list : Plain} {t : Term} {ts : Terms} (room : ℕ) (g : PlacedAll) (q : Option Placed) → ((p : Placed) → q ≡ some p → Stood job list p t)
    → ((j : Bytes) (l : Plain) → Holds j l → (x : PlacedAll) → write_all ts room j ≡ some x → StoodAll j l x ts)
    → bind q (λ p. bind (write_all ts room p.job) (λ x. some (placed_all (p.number ∷ x.numbers) x.job))) ≡ some g → StoodAll job list g (cons t ts)
after_first room g none ih jh d = absurd (none_some g d)
after_first {job} {list} {t} {ts} room g (some p) ih jh d = let s = ih p refl in after_rest s g (write_all ts room p.job) (λ x e. jh p.job s.after s.holds x e) d

-- A TERM THAT IS WRITTEN
mutual
  unfolding write write_all Writable WritableAll

  pub write_sound : (t : Term) → Writable t → {job : Bytes} {list : Plain} → Holds job list → (room : ℕ) (p : Placed) → write t room job ≡ some p → Stood job list p t
  write_sound (node o ts) w {job} {list} h room p e = after_all w.0 w.1 room p (write_all ts room job) (λ g d. write_all_sound ts w.2 h room g d) e

  write_all_sound : (ts : Terms) → WritableAll ts → {job : Bytes} {list : Plain} → Holds job list → (room : ℕ) (g : PlacedAll) → write_all ts room job ≡ some g → StoodAll job list g ts
  write_all_sound nil w {job} {list} h room g e = subst (λ (x : PlacedAll). StoodAll job list x nil) (some_inj _ _ e) (stood_none h)
  write_all_sound (cons t ts) w {job} {list} h room g e =
      after_first room g (write t room job) (λ p d. write_sound t w.0 h room p d) (λ j l k x d. write_all_sound ts w.1 k room x d) e
