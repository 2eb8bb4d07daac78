-- The answers' memory while a job runs: nothing written, one answer stored, answers after answers; and when it has ended.
use mathlib.Core.Path.{◌≡◌, refl, sym, ap, ap₂, ◌∙◌}
use mathlib.Core.List.{List, [], ◌∷◌, ◌++◌, map, append_assoc, append-nil}
use Rattle.std.specs.Prelude.{Option, None as none, Some as some}
use Prim.Native.Nat.{ℕ, zero, suc, ◌+◌, ◌-◌, ◌*◌, ◌<◌, ◌≤◌}
use native.Mathlib.Nat.{mul-le-mul_left}
use native.Mathlib.Omega.{arith}
use native.Mathlib.Numerals.{add-one}
use lib.ListN.{length, take, drop, set, length-append, length-drop, take-append-drop}
use lib.Seq.{sets, sets-eq, length-take-le, drop-drop, take_at, drop_at}
use Rattle.theory.specs.Limit.{answer_bytes, number_bytes}
use Rattle.theory.specs.Term.{Term}
use Rattle.theory.specs.RuleTable.{Rule, rule_at, ChainRule, chain_rule_at}
use Rattle.theory.specs.Record.{Bytes, bytes_of, word_bytes, Item, term, step, chain, back, unknown, misfit, read}
use Rattle.theory.specs.Plain.{Plain, at_place, at_places}
use Rattle.theory.specs.Answer.{Answer, encode_answer, encode_answers}
use Rattle.theory.specs.Chain.{Earlier, premises_at}
use Rattle.theory.specs.Job.{reply, chain_reply, item_answers, answers_to}
use Rattle.rows.proofs.RowLaws.{sets_append, length_bytes}
use Rattle.steps.specs.Answering.{head_bytes, tail_of, note, notes, with_notes, encode_head, sealed}

-- ---- the memory
-- no answer changes nothing
pub none_written : (b : ℕ) (old : Bytes) (k place : ℕ) → with_notes b old k place [] ≡ old
unfolding with_notes
none_written b old k place =
    let e : answer_bytes b * (k + 0) ≡ answer_bytes b * k = omega arith in
    ap (λ (n : ℕ). take (answer_bytes b * k) old ++ drop n old) e ∙ take-append-drop (answer_bytes b * k) old

tail_length : (b : ℕ) (a : Answer) → length (tail_of b a) ≡ 4 + b
tail_length b a = omega (arith, length_bytes b a.depth)

pub note_length : (b place : ℕ) (a : Answer) → length (note b place a) ≡ answer_bytes b
note_length b place a = omega (arith, length_bytes b a.depth)

notes_length : (b place : ℕ) (new : List Answer) → length (notes b place new) ≡ answer_bytes b * length new
notes_length b place [] = omega arith
notes_length b place (a ∷ rest) =
    length-append (note b place a) (notes b place rest) ∙ (let e = note_length b place a in let f = notes_length b place rest in omega arith)

-- the memory has room for them, if it keeps its length
pub written_fits : (b : ℕ) (old : Bytes) (k place : ℕ) (new : List Answer) → answer_bytes b * k ≤ length old → length (with_notes b old k place new) ≡ length old
    → answer_bytes b * (k + length new) ≤ length old
unfolding with_notes
written_fits b old k place new h e =
    let front = take (answer_bytes b * k) old in
    let rest = drop (answer_bytes b * (k + length new)) old in
    let x : length front ≡ answer_bytes b * k = length-take-le (answer_bytes b * k) old h in
    let y : length rest ≡ length old - answer_bytes b * (k + length new) = length-drop (answer_bytes b * (k + length new)) old in
    let c : length (notes b place new) ≡ answer_bytes b * length new = notes_length b place new in
    let d : length (front ++ (notes b place new ++ rest)) ≡ length front + (length (notes b place new) + length rest)
    = length-append front (notes b place new ++ rest) ∙ ap (λ (m : ℕ). length front + m) (length-append (notes b place new) rest) in
    omega arith

-- an item has one answer or none
pub one_item : (earlier : Earlier) (list : Plain) (i : Item) → length (item_answers earlier list i) ≤ 1
one_item earlier list i = go i
  where
    replies : (n : ℕ) (p : Option Rule) (q : Option (List Term)) → length (reply n p q) ≤ 1
    replies n none q = omega arith
    replies n (some rule) none = omega arith
    replies n (some rule) (some ts) = omega arith

    chain_replies : (n : ℕ) (p : Option ChainRule) (premises : Option (List Term)) (q : Option Term) → length (chain_reply n p premises q) ≤ 1
    chain_replies n none premises q = omega arith
    chain_replies n (some rule) premises none = omega arith
    chain_replies n (some rule) premises (some t) = omega arith

    go : (i : Item) → length (item_answers earlier list i) ≤ 1
    go (step n ks) = replies n (rule_at n) (at_places list ks)
    go (chain n ps k) = chain_replies n (chain_rule_at n) (premises_at earlier list ps) (at_place list k)
    go (term o ks) = omega arith
    go (back n) = omega arith
    go unknown = omega arith
    go misfit = omega arith

-- so has a record
pub one_answer : (b : ℕ) (earlier : Earlier) (list : Plain) (r : Bytes) → length (answers_to b earlier list r) ≤ 1
unfolding answers_to
one_answer b earlier list r = one_item earlier list (read b r)

-- four numbers stored one after the other are an answer, as it stands while the job runs
pub four : (b : ℕ) (d d₁ d₂ d₃ d₄ : Bytes) (k place : ℕ) (a : Answer) → answer_bytes b * suc k ≤ length d
    → d₁ ≡ sets d (answer_bytes b * k) (bytes_of 4 place)
    → d₂ ≡ sets d₁ (answer_bytes b * k + 4) (word_bytes a.rule)
    → d₃ ≡ sets d₂ (answer_bytes b * k + 6) (word_bytes a.code)
    → d₄ ≡ sets d₃ (answer_bytes b * k + 8) (bytes_of b a.depth)
    → d₄ ≡ with_notes b d k place (a ∷ [])
unfolding with_notes
four b d d₁ d₂ d₃ d₄ k place a h e₁ e₂ e₃ e₄ =
    let p = answer_bytes b * k in
    let deep = bytes_of b a.depth in
    let six : p + 4 + 2 ≡ p + 6 = omega arith in
    let eight : p + 6 + 2 ≡ p + 8 = omega arith in
    let l = note_length b place a in
    let q : p + length (note b place a) ≡ answer_bytes b * (k + 1) = omega arith in
    let stored : d₄ ≡ sets d p (note b place a)
    = e₄ ∙ sym (sets_append d p (bytes_of 4 place) (tail_of b a)
    ∙ ap (λ (x : Bytes). sets x (p + 4) (tail_of b a)) (sym e₁)
    ∙ sets_append d₁ (p + 4) (word_bytes a.rule) (word_bytes a.code ++ deep)
    ∙ ap₂ (λ (x : Bytes) (j : ℕ). sets x j (word_bytes a.code ++ deep)) (sym e₂) six
    ∙ sets_append d₂ (p + 6) (word_bytes a.code) deep
    ∙ ap₂ (λ (x : Bytes) (j : ℕ). sets x j deep) (sym e₃) eight) in
    stored ∙ sets-eq (note b place a) d p (omega arith) ∙ append_assoc (take p d) (note b place a) (drop (p + length (note b place a)) d)
    ∙ ap₂ (λ (n : ℕ) (zs : Bytes). take p d ++ (zs ++ drop n d)) q (sym (append-nil (note b place a)))

-- ---- length and kind, when the job has ended
sets_skip : (x : ℕ) (xs : Bytes) (i : ℕ) (vs : Bytes) → sets (x ∷ xs) (suc i) vs ≡ x ∷ sets xs i vs
sets_skip x xs i [] = refl
sets_skip x xs i (v ∷ vs) = sets_skip x (set xs i v) (suc i) vs

sets_after : (xs ys : Bytes) (i : ℕ) (vs : Bytes) → sets (xs ++ ys) (length xs + i) vs ≡ xs ++ sets ys i vs
sets_after [] ys i vs = let e : 0 + i ≡ i = omega arith in ap (λ (j : ℕ). sets ys j vs) e
sets_after (x ∷ xs) ys i vs =
    let e : suc (length xs) + i ≡ suc (length xs + i) = omega arith in
    ap (λ (j : ℕ). sets (x ∷ (xs ++ ys)) j vs) e ∙ sets_skip x (xs ++ ys) (length xs + i) vs ∙ ap (λ (zs : Bytes). x ∷ zs) (sets_after xs ys i vs)

module _ (b : ℕ) where
  -- the bytes of an answer after its length and kind
  abbrev rest_bytes : ℕ
  rest_bytes = answer_bytes b - head_bytes

  -- the first answer, and those after it
  sealed_first : (d : Bytes) → answer_bytes b ≤ length d → sealed b 1 d ≡ sets d 0 (encode_head b)
  unfolding sealed
  sealed_first d h =
      let e : 4 + rest_bytes ≡ answer_bytes b = omega arith in
      sym (sets-eq (encode_head b) d 0 (omega arith)
      ∙ ap (λ (zs : Bytes). encode_head b ++ zs)
      (sym (take-append-drop rest_bytes (drop 4 d)) ∙ ap (λ (zs : Bytes). take rest_bytes (drop 4 d) ++ zs) (drop-drop rest_bytes 4 d ∙ ap (λ (j : ℕ). drop j d) e)))

  sealed_next : (k : ℕ) (d : Bytes) → answer_bytes b * suc k ≤ length d → sealed b (suc k) d ≡ sets (sealed b k d) (answer_bytes b * k) (encode_head b)
  unfolding sealed
  sealed_next zero d h =
      sealed_first d (omega arith) ∙ (let e : 0 ≡ answer_bytes b * 0 = omega arith in ap (λ (j : ℕ). sets d j (encode_head b)) e)
  sealed_next (suc k) d h =
      let head = encode_head b in
      let mid = take rest_bytes (drop 4 d) in
      let after = drop (answer_bytes b) d in
      let front = head ++ mid in
      let m : length mid ≡ rest_bytes = length-take-le rest_bytes (drop 4 d) (let q = length-drop 4 d in omega arith) in
      let l : length front ≡ answer_bytes b = length-append head mid ∙ omega arith in
      let e : length front + answer_bytes b * k ≡ answer_bytes b * suc k = omega arith in
      let ih = sealed_next k after (let q = length-drop (answer_bytes b) d in omega arith) in
      ap (λ (zs : Bytes). head ++ (mid ++ zs)) ih
      ∙ sym (append_assoc head mid (sets (sealed b k after) (answer_bytes b * k) head))
      ∙ sym (sets_after front (sealed b k after) (answer_bytes b * k) head)
      ∙ ap₂ (λ (zs : Bytes) (j : ℕ). sets zs j head) (append_assoc head mid (sealed b k after)) e

  pub sealed_start : (d : Bytes) → d ≡ sealed b 0 d
  unfolding sealed
  sealed_start d = refl

  -- two numbers stored
  pub sealed_more : (d d₀ d₁ d₂ : Bytes) (k : ℕ) → answer_bytes b * suc k ≤ length d → d₀ ≡ sealed b k d
      → d₁ ≡ sets d₀ (answer_bytes b * k) (word_bytes (answer_bytes b - number_bytes))
      → d₂ ≡ sets d₁ (answer_bytes b * k + 2) (word_bytes 200) → d₂ ≡ sealed b (k + 1) d
  sealed_more d d₀ d₁ d₂ k h e₀ e₁ e₂ =
      let p = answer_bytes b * k in
      let stored : d₂ ≡ sets (sealed b k d) p (encode_head b) = rw (e₂, e₁, e₀) (sym (sets_append (sealed b k d) p (word_bytes (answer_bytes b - number_bytes)) (word_bytes 200))) in
      stored ∙ sym (sealed_next k d h) ∙ ap (λ (j : ℕ). sealed b j d) (sym (add-one k))

-- the loop of `seal`: of n answers the first k have their length and kind
pub record Sealing (b n : ℕ) (old memory : Bytes) (k : ℕ) : Type 0 where
  pub within : k ≤ n
  pub long : length memory ≡ length old
  pub sealed_is : memory ≡ sealed b k old

pub sealing_start : (b n : ℕ) (old : Bytes) → Sealing b n old old 0
sealing_start b n old = record { within = omega arith; long = refl; sealed_is = sealed_start b old }

module _ {b n k : ℕ} {old memory : Bytes} (room : answer_bytes b * n ≤ length old) (s : Sealing b n old memory k) (more : k < n) where
  -- one more answer is there
  pub sealing_room : answer_bytes b * suc k ≤ length memory
  sealing_room =
      let less : answer_bytes b * suc k ≤ answer_bytes b * n = mul-le-mul_left (answer_bytes b) more in
      let l = s.long in omega arith

  pub sealing_turn : {first second : Bytes} → length second ≡ length memory
      → first ≡ sets memory (answer_bytes b * k) (word_bytes (answer_bytes b - number_bytes))
      → second ≡ sets first (answer_bytes b * k + 2) (word_bytes 200) → Sealing b n old second (k + 1)
  sealing_turn {first} {second} l e f =
      let r = sealing_room in
      let long = s.long in
      record {
        within = omega arith;
        long = l ∙ s.long;
        sealed_is = sealed_more b old memory first second k (omega arith) s.sealed_is e f;
      }

-- answers as they stood while the job ran, each with the place of its step's record
abbrev pub Note : Type 0
Note = ℕ × Answer

abbrev pub all_notes : ℕ → List Note → Bytes
all_notes b [] = []
all_notes b (m ∷ ms) = note b m.0 m.1 ++ all_notes b ms

-- they are the answers then
pub sealed_all : (b : ℕ) (ms : List Note) (rest : Bytes)
    → sealed b (length ms) (all_notes b ms ++ rest) ≡ encode_answers b (map (λ (m : Note). m.1) ms) ++ rest
unfolding sealed
sealed_all b [] rest = refl
sealed_all b (m ∷ ms) rest =
    let n = note b m.0 m.1 in
    let tail = tail_of b m.1 in
    let more = all_notes b ms ++ rest in
    let answers = encode_answers b (map (λ (x : Note). x.1) ms) in
    let e : length tail ≡ answer_bytes b - head_bytes = tail_length b m.1 ∙ omega arith in
    ap (λ (zs : Bytes). sealed b (suc (length ms)) zs) (append_assoc n (all_notes b ms) rest)
    ∙ ap₂ (λ (xs ys : Bytes). encode_head b ++ (xs ++ sealed b (length ms) ys)) (take_at tail more (answer_bytes b - head_bytes) e)
    (drop_at n more (answer_bytes b) (note_length b m.0 m.1))
    ∙ ap (λ (zs : Bytes). encode_head b ++ (tail ++ zs)) (sealed_all b ms rest)
    ∙ sym (append_assoc (encode_answer b m.1) answers rest)
