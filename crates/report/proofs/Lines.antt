-- The lines of a report, one after the other.
use mathlib.Core.Path.{◌≡◌, refl, sym, ap, ap₂, ◌∙◌}
use mathlib.Core.List.{[], ◌∷◌, ◌++◌, append_assoc, append-nil}
use mathlib.Core.Logic.{◌⊎◌, inl, inr}
use Prim.Native.Nat.{ℕ, zero, suc, ◌+◌, ◌*◌, ◌-◌, ◌≤◌, ◌<◌}
use native.Mathlib.Omega.{arith}
use borrow.Author.Tests.{le-leb}
use borrow.Rule.Slice.PartMut.{put_mid}
use lib.ListN.{length, take, drop, length-append, length-drop, drop_of_length-le}
use lib.Seq.{take_at, drop_at, drop-drop, take-length}
use Rattle.std.proofs.lemmas.Bool.Decides.{nat_tests}
use Rattle.std.proofs.lemmas.List.{take-append-le, drop-append-le}
use Rattle.theory.specs.Limit.{answer_bytes}
use Rattle.theory.specs.Record.{Bytes}
use Rattle.theory.specs.Answer.{decode_answer, decode_answers}
use Rattle.theory.specs.Program.{answer_lines}
use Rattle.report.specs.Text.{head, line, report_text, written}

-- all that is left after so many bytes
all_left : (xs : Bytes) (size : ℕ) → take (length xs - size) (drop size xs) ≡ drop size xs
all_left xs size = ap (λ n. take n (drop size xs)) (sym (length-drop size xs)) ∙ take-length (drop size xs)

module _ (old done : Bytes) {now : Bytes} {size : ℕ} where
  left_of : now ≡ written done old → size ≡ length done → drop size now ≡ drop size old
  left_of e s = ap (drop size) e ∙ drop_at done (drop (length done) old) size (sym s) ∙ ap (λ n. drop n old) (sym s)

  -- a second text right after the first
  pub written_more : (t : Bytes) → now ≡ written done old → size ≡ length done
      → put_mid size (length now - size) now (written t (take (length now - size) (drop size now))) ≡ written (done ++ t) old
  written_more t e s =
      let front : take size now ≡ done = ap (take size) e ∙ take_at done (drop (length done) old) size (sym s) in
      let none : drop (length now - size) (drop size now) ≡ [] = drop_of_length-le (drop size now) (omega (arith, length-drop size now)) in
      let after : drop (length t) (drop size old) ≡ drop (length (done ++ t)) old
      = drop-drop (length t) size old ∙ ap (λ n. drop n old) (let z : size + length t ≡ length (done ++ t) = omega (arith, length-append done t) in z) in
      rw (front, none, all_left now size, left_of e s, append-nil, after, append_assoc)

-- the first of the answers
front_at : (k j : ℕ) (x rest : Bytes) → j + k ≤ length x → take k (drop j (x ++ rest)) ≡ take k (drop j x)
front_at k j x rest h = ap (take k) (drop-append-le j x rest (omega arith)) ∙ take-append-le k (drop j x) rest (omega (arith, length-drop j x))

decode_next : (b n : ℕ) (x rest : Bytes) → length x ≡ answer_bytes b → decode_answers b (suc n) (x ++ rest) ≡ decode_answer b x ∷ decode_answers b n rest
decode_next b n x rest h =
    rw (front_at 2 4 x rest (omega arith), front_at 2 6 x rest (omega arith), front_at b 8 x rest (omega arith), drop_at x rest (answer_bytes b) h) refl

-- `done` is written at the start of `old`, and with the lines of the answers that are left, of `count`, it is the whole text
pub record Lines (b count : ℕ) (old text now : Bytes) (size k last chunk : ℕ) (rest : Bytes) : Type 0 where
  pub done : Bytes
  pub left : ℕ
  pub now_is : now ≡ written done old
  pub size_is : size ≡ length done
  pub near : size ≤ 80 + k * 34
  pub last_is : last ≡ count
  pub left_is : k + left ≡ count
  pub chunk_is : chunk ≡ answer_bytes b
  pub there : left * answer_bytes b ≤ length rest
  pub text_is : done ++ answer_lines (suc k) (decode_answers b left rest) ≡ text

zero_left : (n a r : ℕ) → n * a ≤ r → r < a → n ≡ 0
zero_left zero a r g h = refl
zero_left (suc n) a r g h = absurd (omega arith)

module _ {b count : ℕ} {old text now : Bytes} {size k last chunk : ℕ} {rest : Bytes} where
  -- a step of the range and one of the chunks, and the line that was written
  pub lines_turn : (x : Bytes) {rest' t part : Bytes} {k' last' chunk' n j : ℕ} → Lines b count old text now size k last chunk rest
      → (last' ≡ last) × ((0 < last - k) × (j ≡ k) × (k' ≡ k + 1)) → chunk' ≡ chunk → (rest ≡ x ++ rest') × (length x ≡ chunk)
      → t ≡ line (j + 1) (decode_answer b x) → length t ≤ 34 → part ≡ written t (take (length now - size) (drop size now)) → n ≡ length t
      → Lines b count old text (put_mid size (length now - size) now part) (size + n) k' last' chunk' rest'
  lines_turn x {rest'} {t} {part} {k'} {n = n} {j = j} l r c h e f p s =
      let m = l.left - 1 in
      let left : l.left ≡ suc m = omega arith in
      let size_b : length x ≡ answer_bytes b = h.1 ∙ l.chunk_is in
      let a = decode_answer b x in
      let place : suc k ≡ k' = omega arith in
      let text_line : line (suc k) a ≡ t = ap (λ z. line z a) (let z : suc k ≡ j + 1 = omega arith in z) ∙ sym e in
      record {
        done = l.done ++ t;
        left = m;
        now_is = ap (put_mid size (length now - size) now) p ∙ written_more old l.done t l.now_is l.size_is;
        size_is = omega (arith, length-append l.done t);
        near = omega arith;
        last_is = r.0 ∙ l.last_is;
        left_is = omega arith;
        chunk_is = c ∙ l.chunk_is;
        there = let p = ap (λ (z : ℕ). z * answer_bytes b) left in omega (arith, p, l.there, ap length h.0, length-append x rest');
        text_is =
            append_assoc l.done t (answer_lines (suc k') (decode_answers b m rest'))
            ∙ ap₂ (λ y z. l.done ++ (y ++ answer_lines (suc z) (decode_answers b m rest'))) (sym text_line) (sym place)
            ∙ ap (λ ls. l.done ++ answer_lines (suc k) ls) (sym (decode_next b m x rest' size_b))
            ∙ ap₂ (λ d bs. l.done ++ answer_lines (suc k) (decode_answers b d bs)) (sym left) (sym h.0)
            ∙ l.text_is;
      }

  -- where the range or the chunks have ended
  pub lines_end : Lines b count old text now size k last chunk rest → (last - k ≡ 0) ⊎ (length rest < chunk) → (now ≡ written text old) × (size ≡ length text)
  lines_end l h =
      let none : l.left ≡ 0 = elim h [ inl z ↦ omega arith | inr z ↦ zero_left l.left (answer_bytes b) (length rest) l.there (omega (arith, l.chunk_is)) ] in
      let e : l.done ≡ text = sym (append-nil l.done) ∙ ap (λ d. l.done ++ answer_lines (suc k) (decode_answers b d rest)) (sym none) ∙ l.text_is in
      (l.now_is ∙ ap (λ t. written t old) e, l.size_is ∙ ap length e)

-- as many answers are read as are asked for
length_decode : (b k : ℕ) (bs : Bytes) → length (decode_answers b k bs) ≡ k
length_decode b zero bs = refl
length_decode b (suc k) bs = ap suc (length_decode b k (drop (answer_bytes b) bs))

-- the text of a report that has the answers and the space
module _ (stop terms repeats count b : ℕ) (bs : Bytes) (space : ℕ) where
  pub report_whole : count * answer_bytes b ≤ length bs → 80 + count * 34 ≤ space
      → report_text stop terms repeats count b bs space ≡ head count terms repeats stop ++ answer_lines 1 (decode_answers b count bs)
  unfolding report_text
  report_whole g h = rw (le-leb _ _ g, le-leb _ _ h) (ap (λ n. head n terms repeats stop ++ answer_lines 1 (decode_answers b count bs)) (length_decode b count bs))

-- what the functions' goals need
pub ruleset laws = (nat_tests, lines_turn)
