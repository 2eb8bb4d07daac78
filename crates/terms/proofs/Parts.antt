-- Parts of a job's bytes: a number in a part is the number at its place in the job.
use mathlib.Core.Path.{◌≡◌, refl, sym, ap, ap₂, ◌∙◌}
use mathlib.Core.Bool.{Bool, true, false, ◌&&◌}
use mathlib.Core.List.{List, [], ◌∷◌}
use Prim.Native.Nat.{ℕ, zero, suc, ◌+◌, ◌-◌, ◌*◌, ◌≤◌}
use native.Mathlib.Omega.{arith}
use lib.Dec.{leb}
use lib.ListN.{length, take, drop, length-take, length-drop}
use lib.Seq.{take-nil, take-take}
use borrow.Author.Tests.{leb-true}
use Rattle.theory.specs.Limit.{number_bytes, value_bytes}
use Rattle.theory.specs.Record.{Bytes, little_endian, word, words, extent, whole, Shape, plain, indexed, twice_indexed, valued, front, make}
use Rattle.terms.specs.Framing.{part}

-- both tests hold
pub both : (a b : Bool) → a && b ≡ true → (a ≡ true) × (b ≡ true)
both true b e = (refl, e)
both false b e = (e, cc)

pub drop_take : (i n : ℕ) (bs : Bytes) → drop i (take n bs) ≡ take (n - i) (drop i bs)
drop_take zero n bs = let e : n - 0 ≡ n = omega arith in rw e
drop_take (suc i) zero bs = let e : 0 - suc i ≡ 0 = omega arith in rw e
drop_take (suc i) (suc n) [] = sym (take-nil (suc n - suc i))
drop_take (suc i) (suc n) (b ∷ bs) = let e : suc n - suc i ≡ n - i = omega arith in rw e (drop_take i n bs)

pub word_take : (n : ℕ) (bs : Bytes) → number_bytes ≤ n → word (take n bs) ≡ word bs
word_take n bs h = ap little_endian (take-take number_bytes n bs h)

pub words_take : (b k n : ℕ) (bs : Bytes) → b * k ≤ n → words b k (take n bs) ≡ words b k bs
words_take b zero n bs h = refl
words_take b (suc k) n bs h =
    ap₂ (λ (x : ℕ) (xs : List ℕ). x ∷ xs) (ap little_endian (take-take b n bs (omega arith)))
    (ap (words b k) (drop_take b n bs) ∙ words_take b k (n - b) (drop b bs) (omega arith))

-- the numbers in front of the arguments
pub make_take : (s : Shape) (n : ℕ) (bs : Bytes) → front s ≤ n → make s (take n bs) ≡ make s bs
make_take (plain o) n bs h = refl
make_take (indexed f) n bs h = ap f (word_take n bs h)
make_take (twice_indexed f) n bs h =
    ap₂ f (word_take n bs (omega arith))
    (ap word (drop_take number_bytes n bs) ∙ word_take (n - number_bytes) (drop number_bytes bs) (omega arith))
make_take (valued f) n bs h =
    ap₂ f (word_take n bs (omega arith))
    (ap (λ (xs : Bytes). little_endian (take value_bytes xs)) (drop_take number_bytes n bs)
    ∙ ap little_endian (take-take value_bytes (n - number_bytes) (drop number_bytes bs) (omega arith)))

pub length_part : (job : Bytes) (at n : ℕ) → at + n ≤ length job → length (part job at n) ≡ n
length_part job at n h = length-take n (drop at job) ∙ rw length-drop (omega arith)

-- ---- a whole record
pub record Whole (bs : Bytes) : Type 0 where
  pub two : number_bytes ≤ length bs
  pub low : number_bytes ≤ word bs
  pub fit : extent bs ≤ length bs

pub whole_parts : (bs : Bytes) → whole bs ≡ true → Whole bs
whole_parts bs e =
    let p = both (leb number_bytes (length bs)) _ e in
    let q = both (leb number_bytes (word bs)) _ p.1 in
    record { two = leb-true number_bytes (length bs) p.0; low = leb-true number_bytes (word bs) q.0; fit = leb-true (extent bs) (length bs) q.1 }
