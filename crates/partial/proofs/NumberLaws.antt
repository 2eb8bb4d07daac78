-- The bits by a number: each way out is what the tests say.
use mathlib.Core.Path.{◌≡◌, refl, sym, ap, ap₂, subst, ◌∙◌}
use mathlib.Core.Bool.{Bool, true, false, ◌&&◌, cond}
use mathlib.Core.List.{List, [], ◌∷◌, map}
use Rattle.std.specs.Prelude.{Option, Some as some}
use Rattle.std.specs.List.{list_all}
use Prim.Native.Nat.{ℕ, zero, suc, ◌+◌, ◌*◌, ◌≤◌, ◌<◌}
use native.Mathlib.Omega.{arith}
use lib.Dec.{T, leb, ltb, eqb, eqb→eq, leb→le}
use lib.Ieee.Fits.{and_l, and_r}
use lib.ListN.{length, take, drop, get_or, replicate, length-map, length-drop}
use lib.Seq.{length-take-le}
use borrow.Author.Tests.{eq-eqb, ltb-true, ltb-false}
use Rattle.theory.specs.Limit.{first_terms}
use Rattle.theory.specs.Term.{Term}
use Rattle.theory.specs.Record.{Bytes}
use Rattle.theory.specs.Plain.{Plain}
use Rattle.theory.specs.Codes.{first_fault, all_below}
use Rattle.theory.specs.Places.{tree_at}
use Rattle.theory.proofs.Basics.{true_T}
use Rattle.theory.proofs.Distinct.{tree_0, tree_1}
use Rattle.theory.proofs.Places.{at_place_is}
use Rattle.theory.proofs.Run.{good_at}
use Rattle.store.specs.Store.{listed}
use Rattle.table.specs.Promise.{Wiped}
use Rattle.sweeps.specs.Variables.{is_variable, stands, bits_in, variables, total_bits}
use Rattle.sweeps.specs.Sweep.{upward}
use Rattle.sweeps.specs.Known.{Known, unknown, known_byte, of_byte, known, bit_level, input_of}
use Rattle.sweeps.specs.Calls.{enough, cell_bytes, derivable, Derived, derived, known_tests, written}
use Rattle.sweeps.proofs.Standing.{stands_self}
use Rattle.marks.specs.Marks.{mark_of, Marks}
use Rattle.marks.proofs.MarkLaws.{mark_low}
use Rattle.digits.specs.Digits.{Few}
use Rattle.store.specs.declared.shelf.Terms.{Terms}
use Rattle.marks.specs.declared.Asked.{Asked}
use Rattle.store.specs.KeptTerms.{Holds, kept_terms}
use Rattle.sweeper.proofs.NumberLaws.{none_at, list_here, list_same, kept_same}
use Rattle.counter.proofs.CountLaws.{holds_written}
use Rattle.evaluation.specs.Cells.{cell_at}
use Rattle.ternary.specs.Bits.{Closed, Offset}
use Rattle.partial.specs.Levels.{BitLevel}
use Rattle.partial.specs.Inputs.{InputsPlaced}
use Rattle.partial.specs.Passing.{Ready, Offsets, Passed}
use Rattle.partial.specs.Output.{Output, byte_of, Wrote}
use Rattle.partial.specs.Number.{Derivable, Accepted, IsDerivable, IsAccepted, bits_of, derived_number}
use Rattle.partial.proofs.LevelLaws.{closed_of}
use Rattle.partial.proofs.InputLaws.{offsets}
use Rattle.partial.proofs.LengthLaws.{length_known}

-- ---- bytes 0, 1 and 2
known_bytes : (inputs : Bytes) → list_all (λ b. ltb b 3) inputs ≡ all_below 3 inputs
known_bytes [] = refl
known_bytes (b ∷ bs) = ap (λ (r : Bool). ltb b 3 && r) (known_bytes bs)

-- ---- is it derivable?
abbrev by_tests : Bool → Bool → Bool → Bool → Bool
by_tests a b c d = a && (b && (c && d))

abbrev all_bits : Plain → ℕ → ℕ
all_bits list asked = total_bits (variables list (tree_at list asked))

level_is : {list : Plain} {job work : Bytes} {n asked : ℕ} {b : Bool} → BitLevel list job work n asked b → b ≡ true → BitLevel list job work n asked true
level_is {list} {job} {work} {n} {asked} l e = subst (BitLevel list job work n asked) e l

module _ {list : Plain} {job work : Bytes} {n asked : ℕ} {inputs : Bytes} {room : ℕ} {b : Bool} (l : BitLevel list job work n asked b) where
  module _ (e : b ≡ true) {size : ℕ} (f : size ≡ all_bits list asked) where
    module _ (g : length inputs ≡ size) where
      -- the output decides
      pub by_room : {c : Bool} → c ≡ list_all (λ b. ltb b 3) inputs → c ≡ true → {w : ℕ} → w ≡ bits_in (tree_at list asked) → Derivable list job work n asked inputs room (leb w room)
      by_room h k d = record {
        is = λ i. by_tests ((level_is l e).is i) (sym (eq-eqb (length inputs) (all_bits list asked) (g ∙ f)) i) ((sym k ∙ h ∙ known_bytes inputs) i) (leb (d i) room);
        level = λ z. level_is l e;
      }

-- ---- the bytes written
by_index : (f : ℕ → ℕ) (ks : List Known) (k : ℕ) → ((j : ℕ) → j < length ks → f (k + j) ≡ known_byte (get_or ks j unknown)) → map f (upward k (length ks)) ≡ map known_byte ks
by_index f [] k h = refl
by_index f (b ∷ ks) k h =
    ap₂ (λ (x : ℕ) (xs : Bytes). x ∷ xs) (ap f (let z : k ≡ k + 0 = omega arith in z) ∙ h 0 (omega arith))
    (by_index f ks (suc k) (λ j l. ap f (let z : suc k + j ≡ k + suc j = omega arith in z) ∙ h (suc j) (omega arith)))

bytes_are : (ks : List Known) (size : ℕ) → length ks ≡ size → map (λ (j : ℕ). known_byte (get_or ks j unknown)) (upward 0 size) ≡ map known_byte ks
bytes_are ks size e =
    ap (λ (m : ℕ). map (λ (j : ℕ). known_byte (get_or ks j unknown)) (upward 0 m)) (sym e)
    ∙ by_index (λ (j : ℕ). known_byte (get_or ks j unknown)) ks 0 (λ j l. ap (λ (i : ℕ). known_byte (get_or ks i unknown)) (let z : 0 + j ≡ j = omega arith in z))

-- a variable has as many bits as its place in the inputs
offset_length : {input : Term → List Known} {list : Plain} {inputs values : Bytes} {p : ℕ} → Offset input list inputs values p → length (known input (tree_at list p)) ≡ bits_in (tree_at list p)
offset_length {list} {inputs} {values} {p} o =
    let k = bits_in (tree_at list p) in
    let l = length-drop (cell_at values p) inputs in
    let q = o.fits in
    ap length o.bits_are ∙ length-map (take k (drop (cell_at values p) inputs)) of_byte ∙ length-take-le k (drop (cell_at values p) inputs) (omega arith)

module _ {job work : Bytes} {n : ℕ} {values : Bytes} {asked : ℕ} {inputs outputs : Bytes} (s : Accepted job work n values asked inputs outputs) where
  abbrev list : Plain
  list = listed job work n

  asked_low : asked < length list
  asked_low = omega (arith, s.marked.shelf.count, s.marked.low)

  asked_marked : T (mark_of job work asked)
  asked_marked = go (ltb asked first_terms) (ltb-true asked first_terms) (ltb-false asked first_terms)
    where
      go : (b : Bool) → (b ≡ true → asked < first_terms) → (b ≡ false → first_terms ≤ asked) → T (mark_of job work asked)
      go true f g = subst T (mark_low job work asked (f refl)) tt
      go false f g = subst T (sym (s.marked.marks_are asked (g refl) s.marked.low)) (stands_self (tree_at list asked))

  closed : Closed job work n
  closed = closed_of s.marked s.level

  -- a marked variable stands in the asked term
  variable_stands : (p : ℕ) → p < length list → T (mark_of job work p) → T (is_variable (tree_at list p)) → T (stands (tree_at list p) (tree_at list asked))
  variable_stands zero l m v = absurd (subst (λ (t : Term). T (is_variable t)) (tree_0 list s.marked.shelf.well) v)
  variable_stands (suc zero) l m v = absurd (subst (λ (t : Term). T (is_variable t)) (tree_1 list s.marked.shelf.well) v)
  variable_stands (suc (suc p)) l m v = subst T (s.marked.marks_are (suc (suc p)) (omega arith) (omega (arith, s.marked.shelf.count))) m

  module _ {mid : Bytes} (d : InputsPlaced list asked values mid) where
    pub derive_ready : Ready job work n mid asked
    derive_ready = record { marked = s.marked; closed = closed; room = omega (arith, s.room, d.length_is) }

    abbrev input : Term → List Known
    input = input_of (variables list (tree_at list asked)) inputs

    inputs_there : Offsets input list job work inputs mid
    inputs_there p l m v = offsets d inputs s.inputs_are p l (good_at list p s.marked.shelf.sorted l) v (variable_stands p l m v)

    known_length : length (known input (tree_at list asked)) ≡ bits_in (tree_at list asked)
    known_length =
        length_known input (tree_at list asked) (closed.kinds asked s.marked.low asked_marked) (good_at list asked s.marked.shelf.sorted asked_low)
        (λ v. offset_length (inputs_there asked asked_low asked_marked v))

    pub derive_output : {size : ℕ} → Few size (bits_in (tree_at list asked)) → Output job work n asked size outputs
    derive_output f = record { closed = closed; low = s.marked.low; marked = asked_marked; bits_are = f.value; room = omega (arith, f.value, s.output_room) }

    module _ {next : Bytes} (e : Passed list job work inputs asked mid next) where
      pub derive_bytes : {size : ℕ} → Few size (bits_in (tree_at list asked)) → {after : Bytes} → Wrote list job work inputs next asked size outputs after
          → after ≡ written (bits_of list asked inputs) outputs
      derive_bytes {size} f {after} w =
          let t = tree_at list asked in
          holds_written (byte_of input t) size outputs after (omega (arith, f.value, s.output_room)) (w.holds input (e.sound input inputs_there))
          ∙ ap (λ (bs : Bytes). written bs outputs) (bytes_are (known input t) size (known_length ∙ sym f.value))

      pub derive_zero : {last : Bytes} → Wiped next last → last ≡ replicate (length values) 0
      derive_zero w = w.all_zero ∙ ap (λ (k : ℕ). replicate k 0) (e.length_is ∙ d.length_is)

-- ---- the ways out, over any list
-- no bytes
abbrev no_bytes : ℕ → Derived
no_bytes code = record { code = code; bytes = [] }

module _ (list : Plain) (number values : ℕ) (inputs : Bytes) (output : ℕ) where
  pub way_none : length list ≤ number → derived_number list number values inputs output ≡ no_bytes 20
  unfolding derived_number
  way_none h = ap (λ (q : Option Term). derived list q inputs (first_fault (known_tests list q values inputs output))) (none_at list number h)

  module _ (l : number < length list) where
    abbrev by_codes : Bool → Bool → Derived
    by_codes a b = derived list (some (tree_at list number)) inputs (cond a (cond b 0 23) 21)

    tests_are : derived_number list number values inputs output ≡ by_codes (enough list values) (derivable list (tree_at list number) inputs output)
    unfolding derived_number
    tests_are = ap (λ (q : Option Term). derived list q inputs (first_fault (known_tests list q values inputs output))) (at_place_is list number l)

    pub way_room : enough list values ≡ false → derived_number list number values inputs output ≡ no_bytes 21
    way_room r = tests_are ∙ ap (λ (a : Bool). by_codes a (derivable list (tree_at list number) inputs output)) r

    module _ (r : enough list values ≡ true) where
      pub way_refused : derivable list (tree_at list number) inputs output ≡ false → derived_number list number values inputs output ≡ no_bytes 23
      way_refused e = tests_are ∙ ap₂ by_codes r e

      pub way_done : derivable list (tree_at list number) inputs output ≡ true
          → derived_number list number values inputs output ≡ record { code = 0; bytes = bits_of list number inputs }
      way_done e = tests_are ∙ ap₂ by_codes r e

-- the terms before they are marked
pub derived_here : {t : Terms} {job work : Bytes} {n : ℕ} → Holds t job work n → (number values : ℕ) (inputs : Bytes) (output : ℕ) → derived_number (listed job work n) number values inputs output ≡ derived_number (kept_terms t) number values inputs output
derived_here h number values inputs output = ap (λ (list : Plain). derived_number list number values inputs output) (sym (list_here h))

-- ---- what is left in the memories
-- a refusal writes no byte
pub refused_code : {code : ℕ} {c : Derived} → c ≡ no_bytes code → code ≡ c.code
refused_code e = ap (λ (x : Derived). x.code) (sym e)

pub refused_bytes : (old : Bytes) {code : ℕ} {c : Derived} → c ≡ no_bytes code → old ≡ written c.bytes old
refused_bytes old e = ap (λ (x : Derived). written x.bytes old) (sym e)

-- an accepted call
pub done : (old : Bytes) {now : Bytes} {c : Derived} (new : Bytes) → c ≡ record { code = 0; bytes = new } → now ≡ written new old → (0 ≡ c.code) × (now ≡ written c.bytes old)
done old new e f = (ap (λ (x : Derived). x.code) (sym e), f ∙ ap (λ (x : Derived). written x.bytes old) (sym e))

-- ---- after the marks
-- the asked term's bits are given, and there is room
pub accepted_of : (k : Asked) {values inputs outputs : Bytes} {b c : Bool} → IsDerivable k inputs (length outputs) b → b ≡ true → c ≡ enough (kept_terms k.terms) (length values) → c ≡ true → IsAccepted k values inputs outputs
accepted_of k {values} {inputs} {outputs} d e f g =
    let list = kept_terms k.terms in
    let t = tree_at list k.place in
    let a = and_r (bit_level t) (eqb (length inputs) (total_bits (variables list t)) && (all_below 3 inputs && leb (bits_in t) (length outputs))) (true_T _ (sym d.is ∙ e)) in
    let b = and_r (eqb (length inputs) (total_bits (variables list t))) (all_below 3 inputs && leb (bits_in t) (length outputs)) a in
    record {
      marked = k.marks;
      level = d.level e;
      inputs_are = eqb→eq (length inputs) (total_bits (variables list t)) (and_l (eqb (length inputs) (total_bits (variables list t))) (all_below 3 inputs && leb (bits_in t) (length outputs)) a);
      room = leb→le (cell_bytes * length list) (length values) (true_T _ (sym f ∙ g));
      output_room = leb→le (bits_in t) (length outputs) (and_r (all_below 3 inputs) (leb (bits_in t) (length outputs)) b);
    }

-- the asked term is that of the number, in the same list
module _ {job work after : Bytes} {n number : ℕ} (m : Marks job work n number after) (k : Asked) (h : Holds k.terms job after n) (p : k.place ≡ number) where
  -- and has the cells that it had before
  pub cells_same : {t : Terms} → Holds t job work n → (values : ℕ) {b : Bool} → b ≡ enough (kept_terms t) values → b ≡ enough (kept_terms k.terms) values
  cells_same g values e = e ∙ ap (λ (list : Plain). enough list values) (sym (kept_same m k h p g))

  pub derived_same : (values : ℕ) (inputs : Bytes) (output : ℕ) → derived_number (kept_terms k.terms) k.place values inputs output ≡ derived_number (listed job work n) number values inputs output
  derived_same values inputs output = ap₂ (λ (list : Plain) (x : ℕ). derived_number list x values inputs output) (list_same m k h p) p
