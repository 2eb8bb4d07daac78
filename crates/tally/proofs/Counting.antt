-- Counting the codes of answers, one answer at a time.
use mathlib.Core.Path.{◌≡◌, refl, sym, ap, ◌∙◌}
use mathlib.Core.Bool.{Bool, true, false, cond}
use mathlib.Core.List.{◌++◌}
use Prim.Native.Nat.{ℕ, zero, suc, ◌+◌, ◌*◌, ◌≤◌, ◌<◌}
use native.Mathlib.Omega.{arith}
use lib.ListN.{length, take, drop, length-append, length-drop}
use lib.Seq.{drop_at}
use Rattle.std.proofs.lemmas.List.{take-append-le, drop-append-le}
use Rattle.theory.specs.Limit.{number_bytes, answer_bytes}
use Rattle.theory.specs.Record.{Bytes, word}
use Rattle.theory.specs.Answer.{decode_answer, decode_answers}
use Rattle.theory.specs.Tally.{how_many}

-- the code of the first of the answers
code_front : (b : ℕ) (x rest : Bytes) → length x ≡ answer_bytes b → word (drop (3 * number_bytes) x) ≡ (decode_answer b (x ++ rest)).code
code_front b x rest h =
    let e : take 2 (drop 6 (x ++ rest)) ≡ take 2 (drop 6 x)
    = ap (take 2) (drop-append-le 6 x rest (omega arith)) ∙ take-append-le 2 (drop 6 x) rest (omega (arith, length-drop 6 x)) in
    rw e refl

-- n are counted, and with those among the `left` answers that the rest begins with they are all; no more than `most`
pub record Counted (b : ℕ) (p : ℕ → Bool) (whole most n left chunk : ℕ) (rest : Bytes) : Type 0 where
  pub few : n + left ≤ most
  pub chunk_is : chunk ≡ answer_bytes b
  pub there : left * answer_bytes b ≤ length rest
  pub whole_is : n + how_many p (decode_answers b left rest) ≡ whole

one_more : (t : Bool) (m : ℕ) → cond t (suc m) m ≡ cond t 1 0 + m
one_more true m = omega arith
one_more false m = omega arith

zero_left : (m a r : ℕ) → m * a ≤ r → r < a → m ≡ 0
zero_left zero a r g h = refl
zero_left (suc m) a r g h = absurd (omega arith)

module _ {b : ℕ} {p : ℕ → Bool} {whole most n left chunk : ℕ} {rest : Bytes} where
  -- the next answer has the code y, which counts r
  pub counted_turn : (x : Bytes) {rest' : Bytes} {left' chunk' y r : ℕ} → Counted b p whole most n left chunk rest → left' + 1 ≡ left → chunk' ≡ chunk
      → (rest ≡ x ++ rest') × (length x ≡ chunk) → y ≡ word (drop (3 * number_bytes) x) → (r ≡ cond (p y) 1 0) × (r ≤ 1)
      → Counted b p whole most (n + r) left' chunk' rest'
  counted_turn x {rest'} {left'} {y = y} s l c h e one =
      let others = how_many p (decode_answers b left' rest') in
      let size : length x ≡ answer_bytes b = h.1 ∙ s.chunk_is in
      let more : left ≡ suc left' = omega arith in
      let turn : how_many p (decode_answers b left rest) ≡ cond (p y) 1 0 + others
      = ap (λ (m : ℕ). how_many p (decode_answers b m rest)) more
      ∙ ap (λ (bs : Bytes). how_many p (decode_answers b (suc left') bs)) h.0
      ∙ one_more (p (decode_answer b (x ++ rest')).code) _
      ∙ ap (λ (z : ℕ). cond (p z) 1 0 + how_many p (decode_answers b left' (drop (answer_bytes b) (x ++ rest')))) (sym (e ∙ code_front b x rest' size))
      ∙ ap (λ (bs : Bytes). cond (p y) 1 0 + how_many p (decode_answers b left' bs)) (drop_at x rest' (answer_bytes b) size) in
      record {
        few = omega arith;
        chunk_is = c ∙ s.chunk_is;
        there = let q = ap (λ (z : ℕ). z * answer_bytes b) more in omega (arith, q, s.there, ap length h.0, length-append x rest');
        whole_is = omega (arith, s.whole_is, turn);
      }

  -- where the answers have ended
  pub counted_end : Counted b p whole most n left chunk rest → (0 < left → length rest < chunk) → n ≡ whole
  counted_end s h =
      let none : left ≡ 0 = go left (λ l. zero_left left (answer_bytes b) (length rest) s.there (omega (arith, h l, s.chunk_is))) in
      (let z : n ≡ n + how_many p (decode_answers b 0 rest) = omega arith in z) ∙ ap (λ (m : ℕ). n + how_many p (decode_answers b m rest)) (sym none) ∙ s.whole_is
    where
      go : (m : ℕ) → (0 < m → m ≡ 0) → m ≡ 0
      go zero f = refl
      go (suc m) f = f (omega arith)
