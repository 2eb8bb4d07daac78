-- The answers' memory while the job runs: what one more answer changes of the places and codes in it, and what it comes to in the end.
use mathlib.Core.Path.{◌≡◌, refl, sym, ap, ap₂, subst, ◌∙◌}
use mathlib.Core.Bool.{true, cond}
use mathlib.Core.List.{List, [], ◌∷◌, ◌++◌, map, append_assoc, append-nil}
use Rattle.std.specs.Prelude.{Option, None as none, Some as some}
use Prim.Native.Nat.{ℕ, suc, ◌+◌, ◌-◌, ◌*◌, ◌<◌, ◌≤◌}
use native.Mathlib.Nat.{add-zero, mul-le-mul_left}
use native.Mathlib.Omega.{arith}
use native.Mathlib.Decide.{dec_lt}
use lib.Dec.{eqb}
use lib.ListN.{length, take, drop, length-append, length-drop, length-map}
use Rattle.std.specs.Prelude.{slice_get as get_elem?}
use lib.Seq.{take-take, take-append-le, drop-append-le, drop-append-add, drop_at, drop-drop, length-take-le, take_at}
use Rattle.theory.specs.Limit.{answer_bytes}
use Rattle.theory.specs.Optional.{either}
use Rattle.theory.specs.Record.{Bytes, little_endian, whole, Item, term, step, chain, back, unknown, misfit, read, claim_of, number_length}
use Rattle.theory.specs.Plain.{Plain}
use Rattle.theory.specs.Answer.{Answer, encode_answers}
use Rattle.theory.specs.Chain.{Earlier, leaves}
use Rattle.theory.specs.Job.{item_answers, answers_to, answers_after}
use Rattle.theory.proofs.Written.{AllSmall, bytes_length}
use Rattle.theory.proofs.Origins.{Mark, marks_item}
use Rattle.terms.specs.Framing.{record_at}
use Rattle.terms.proofs.Parts.{drop_take}
use Rattle.rows.proofs.RowLaws.{column_more, column_same}
use Rattle.steps.specs.Answering.{note, notes, with_notes, step_place, step_code, sealed}
use Rattle.steps.proofs.Writing.{Note, all_notes, note_length, sealed_all, none_written, one_item}
use Rattle.chains.specs.Premises.{claimed_at, left_at, mark_at, marks_in}

-- ---- one more answer
-- n bytes at p, which stand before q
front_part : (memory more : Bytes) (q p n : ℕ) → p + n ≤ q → q ≤ length memory → take n (drop p (take q memory ++ more)) ≡ take n (drop p memory)
front_part memory more q p n h l =
    let a : length (take q memory) ≡ q = length-take-le q memory l in
    let d = length-drop p memory in
    let b : length (take (q - p) (drop p memory)) ≡ q - p = length-take-le (q - p) (drop p memory) (omega arith) in
    ap (take n) (drop-append-le p (take q memory) more (omega arith) ∙ ap (λ (bs : Bytes). bs ++ more) (drop_take p q memory))
    ∙ take-append-le n (take (q - p) (drop p memory)) more (omega arith) ∙ take-take n (q - p) (drop p memory) (omega arith)

module _ (b : ℕ) (memory : Bytes) (k place : ℕ) (fits : answer_bytes b * k ≤ length memory) where
  -- the answers before stay
  module _ (new : List Answer) (j : ℕ) (h : j < k) where
    earlier : answer_bytes b * suc j ≤ answer_bytes b * k
    earlier = mul-le-mul_left (answer_bytes b) h

    pub place_before : step_place b (with_notes b memory k place new) j ≡ step_place b memory j
    unfolding with_notes
    place_before = ap little_endian (front_part memory _ (answer_bytes b * k) (answer_bytes b * j) 3 (omega (arith, earlier)) fits)

    code_before : step_code b (with_notes b memory k place new) j ≡ step_code b memory j
    unfolding with_notes
    code_before = ap little_endian (front_part memory _ (answer_bytes b * k) (answer_bytes b * j + 6) 2 (omega (arith, earlier)) fits)

  -- and the new one is there
  module _ (a : Answer) where
    here : drop (answer_bytes b * k) (with_notes b memory k place (a ∷ [])) ≡ note b place a ++ drop (answer_bytes b * (k + 1)) memory
    unfolding with_notes
    here =
        drop_at (take (answer_bytes b * k) memory) ((note b place a ++ []) ++ drop (answer_bytes b * (k + 1)) memory) (answer_bytes b * k)
        (length-take-le (answer_bytes b * k) memory fits) ∙ ap (λ (bs : Bytes). bs ++ drop (answer_bytes b * (k + 1)) memory) (append-nil (note b place a))

    pub place_new : place < 16777216 → step_place b (with_notes b memory k place (a ∷ [])) k ≡ place
    place_new s = ap (λ (bs : Bytes). little_endian (take 3 bs)) here ∙ omega arith

    code_new : a.code < 65536 → step_code b (with_notes b memory k place (a ∷ [])) k ≡ a.code
    code_new s =
        ap (λ (bs : Bytes). little_endian (take 2 bs)) (sym (drop-drop 6 (answer_bytes b * k) (with_notes b memory k place (a ∷ []))) ∙ ap (drop 6) here) ∙ omega arith

-- ---- the marks
module _ (job memory : Bytes) (k place : ℕ) (fits : answer_bytes (number_length job) * k ≤ length memory) (near : place < 16777216) where
  mark_before : (new : List Answer) (j : ℕ) → j < k → mark_at job (with_notes (number_length job) memory k place new) j ≡ mark_at job memory j
  unfolding left_at
  mark_before new j h =
      ap₂ (λ (p c : ℕ). (p, cond (eqb c 0) (claimed_at job p) none)) (place_before (number_length job) memory k place fits new j h) (code_before (number_length job) memory k place fits new j h)

  mark_new : (a : Answer) → a.code < 65536 → (n : ℕ) (ks : List ℕ) → claim_of (read (number_length job) (record_at job place)) ≡ some (n, ks)
      → mark_at job (with_notes (number_length job) memory k place (a ∷ [])) k ≡ (place, leaves ks a)
  unfolding left_at claimed_at
  mark_new a s n ks e =
      ap₂ (λ (p c : ℕ). (p, cond (eqb c 0) (claimed_at job p) none)) (place_new (number_length job) memory k place fits a near) (code_new (number_length job) memory k place fits a s)
      ∙ ap (λ (q : Option (ℕ × List ℕ)). (place, cond (eqb a.code 0) (either none (λ (c : ℕ × List ℕ). get_elem? c.1 0) q) none)) e

  none_more : marks_in job (with_notes (number_length job) memory k place []) (k + 0) ≡ marks_in job memory k
  none_more = ap₂ (marks_in job) (none_written (number_length job) memory k place) (add-zero k)

  -- a step of either kind
  step_marks : (n : ℕ) (ks : List ℕ) → claim_of (read (number_length job) (record_at job place)) ≡ some (n, ks) → (new : List Answer) → length new ≤ 1 → AllSmall (number_length job) new
      → marks_in job (with_notes (number_length job) memory k place new) (k + length new) ≡ marks_in job memory k ++ map (λ (a : Answer). (place, leaves ks a)) new
  unfolding marks_in
  step_marks n ks e [] l s = none_more ∙ sym (append-nil (marks_in job memory k))
  step_marks n ks e (a ∷ []) l s =
      column_more (mark_at job (with_notes (number_length job) memory k place (a ∷ []))) k
      ∙ ap₂ (λ (ms : List Mark) (m : Mark). ms ++ (m ∷ []))
      (column_same (mark_at job (with_notes (number_length job) memory k place (a ∷ []))) (mark_at job memory) k (λ j h. mark_before (a ∷ []) j h)) (mark_new a (s 0 a refl).code_small n ks e)
  step_marks n ks e (a ∷ b ∷ new) l s = absurd (omega arith)

  pub marks_more : (earlier : Earlier) (list : Plain) → AllSmall (number_length job) (answers_to (number_length job) earlier list (record_at job place))
      → marks_in job (with_notes (number_length job) memory k place (answers_to (number_length job) earlier list (record_at job place))) (k + length (answers_to (number_length job) earlier list (record_at job place)))
      ≡ marks_item (marks_in job memory k) place (read (number_length job) (record_at job place)) (answers_to (number_length job) earlier list (record_at job place))
  unfolding answers_to
  marks_more earlier list s = go (read (number_length job) (record_at job place)) refl s
    where
      go : (i : Item) → read (number_length job) (record_at job place) ≡ i → AllSmall (number_length job) (item_answers earlier list i)
          → marks_in job (with_notes (number_length job) memory k place (item_answers earlier list i)) (k + length (item_answers earlier list i))
          ≡ marks_item (marks_in job memory k) place i (item_answers earlier list i)
      go (term o ks) e s = none_more
      go (step n ks) e s = step_marks n ks (ap claim_of e) (item_answers earlier list (step n ks)) (one_item earlier list (step n ks)) s
      go (chain n ps x) e s = step_marks n (x ∷ []) (ap claim_of e) (item_answers earlier list (chain n ps x)) (one_item earlier list (chain n ps x)) s
      go (back n) e s = none_more
      go unknown e s = none_more
      go misfit e s = none_more

  -- at the place of each step stands a whole record
  pub places_more : whole (drop place job) ≡ true → ((j : ℕ) → j < k → whole (drop (step_place (number_length job) memory j) job) ≡ true) → (new : List Answer) → length new ≤ 1
      → (j : ℕ) → j < k + length new → whole (drop (step_place (number_length job) (with_notes (number_length job) memory k place new) j) job) ≡ true
  places_more w h [] l j b = subst (λ (m : Bytes). whole (drop (step_place (number_length job) m j) job) ≡ true) (sym (none_written (number_length job) memory k place)) (h j (omega arith))
  places_more w h (a ∷ []) l j b = go (dec_lt j k)
    where
      go : Dec (j < k) → whole (drop (step_place (number_length job) (with_notes (number_length job) memory k place (a ∷ [])) j) job) ≡ true
      go (yes c) = ap (λ (p : ℕ). whole (drop p job)) (place_before (number_length job) memory k place fits (a ∷ []) j c) ∙ h j c
      go (no c) =
          let e : j ≡ k = omega arith in
          ap (λ (i : ℕ). whole (drop (step_place (number_length job) (with_notes (number_length job) memory k place (a ∷ [])) i) job)) e ∙ ap (λ (p : ℕ). whole (drop p job)) (place_new (number_length job) memory k place fits a near) ∙ w
  places_more w h (a ∷ b ∷ new) l j c = absurd (omega arith)

-- ---- all answers so far, each with the place of its step's record
abbrev pub answers_of : List Note → List Answer
answers_of ms = map (λ (m : Note). m.1) ms

abbrev pub at_record : ℕ → List Answer → List Note
at_record place new = map (λ (a : Answer). (place, a)) new

-- the memory with these in it
abbrev pub notes_after : ℕ → List Note → Bytes → Bytes
notes_after b ms old = all_notes b ms ++ drop (answer_bytes b * length ms) old

pub answers_more : (ms : List Note) (place : ℕ) (new : List Answer) → answers_of (ms ++ at_record place new) ≡ answers_of ms ++ new
answers_more [] place [] = refl
answers_more [] place (a ∷ new) = ap (λ (xs : List Answer). a ∷ xs) (answers_more [] place new)
answers_more (m ∷ ms) place new = ap (λ (xs : List Answer). m.1 ∷ xs) (answers_more ms place new)

notes_length : (b : ℕ) (ms : List Note) → length (all_notes b ms) ≡ answer_bytes b * length ms
notes_length b [] = omega arith
notes_length b (m ∷ ms) =
    length-append (note b m.0 m.1) (all_notes b ms) ∙ (let e = note_length b m.0 m.1 in let f = notes_length b ms in omega arith)

notes_append : (b : ℕ) (ms ns : List Note) → all_notes b (ms ++ ns) ≡ all_notes b ms ++ all_notes b ns
notes_append b [] ns = refl
notes_append b (m ∷ ms) ns =
    ap (λ (bs : Bytes). note b m.0 m.1 ++ bs) (notes_append b ms ns) ∙ sym (append_assoc (note b m.0 m.1) (all_notes b ms) (all_notes b ns))

notes_are : (b place : ℕ) (new : List Answer) → notes b place new ≡ all_notes b (at_record place new)
notes_are b place [] = refl
notes_are b place (a ∷ new) = ap (λ (bs : Bytes). note b place a ++ bs) (notes_are b place new)

pub notes_more : (b : ℕ) (old : Bytes) (ms : List Note) (place : ℕ) (new : List Answer) {k : ℕ} → k ≡ length ms
    → with_notes b (notes_after b ms old) k place new ≡ notes_after b (ms ++ at_record place new) old
unfolding with_notes
notes_more b old ms place new {k} e =
    let bs = all_notes b ms in
    let cs = notes b place new in
    let l : length bs ≡ answer_bytes b * length ms = notes_length b ms in
    let i : length (at_record place new) ≡ length new = length-map new (λ (a : Answer). (place, a)) in
    let m : length cs ≡ answer_bytes b * length new = ap length (notes_are b place new) ∙ notes_length b (at_record place new) ∙ ap (λ (x : ℕ). answer_bytes b * x) i in
    let p : length bs ≡ answer_bytes b * k = l ∙ ap (λ (x : ℕ). answer_bytes b * x) (sym e) in
    let q : answer_bytes b * (k + length new) ≡ length bs + length cs = ap (λ (x : ℕ). answer_bytes b * (x + length new)) e ∙ omega arith in
    let j : length (ms ++ at_record place new) ≡ length ms + length new = length-append ms (at_record place new) ∙ ap (λ (x : ℕ). length ms + x) i in
    let s : answer_bytes b * length ms + length cs ≡ answer_bytes b * (length ms + length new) = omega arith in
    let n : answer_bytes b * length ms + length cs ≡ answer_bytes b * length (ms ++ at_record place new) = s ∙ ap (λ (x : ℕ). answer_bytes b * x) (sym j) in
    ap₂ (λ (x y : Bytes). x ++ (cs ++ y)) (take_at bs (drop (answer_bytes b * length ms) old) (answer_bytes b * k) p)
    (ap (λ (x : ℕ). drop x (bs ++ drop (answer_bytes b * length ms) old)) q ∙ drop-append-add bs (drop (answer_bytes b * length ms) old) (length cs)
    ∙ drop-drop (length cs) (answer_bytes b * length ms) old)
    ∙ sym (append_assoc bs cs (drop (answer_bytes b * length ms + length cs) old))
    ∙ ap₂ (λ (x : Bytes) (y : ℕ). x ++ drop y old) (ap (λ (zs : Bytes). bs ++ zs) (notes_are b place new) ∙ sym (notes_append b ms (at_record place new))) n

-- when the job has ended
pub notes_sealed : (b : ℕ) (old : Bytes) (ms : List Note) {k : ℕ} → k ≡ length ms → sealed b k (notes_after b ms old) ≡ answers_after b (answers_of ms) old
notes_sealed b old ms e =
    let l : length (answers_of ms) ≡ length ms = length-map ms (λ (m : Note). m.1) in
    let n : answer_bytes b * length ms ≡ length (encode_answers b (answers_of ms)) = sym (bytes_length b (answers_of ms) ∙ ap (λ (x : ℕ). answer_bytes b * x) l) in
    ap (λ (i : ℕ). sealed b i (notes_after b ms old)) e ∙ sealed_all b ms (drop (answer_bytes b * length ms) old) ∙ ap (λ (i : ℕ). encode_answers b (answers_of ms) ++ drop i old) n
