-- The tally: until a count holds, the last three sum to all answers written.
use mathlib.Core.Path.{◌≡◌, refl, ap, ap₂, ◌∙◌}
use mathlib.Core.Bool.{Bool, true, false, cond}
use mathlib.Core.List.{List, [], ◌∷◌, map, foldl}
use Prim.Native.Nat.{ℕ, zero, suc, ◌+◌, ◌<◌}
use native.Mathlib.Omega.{arith}
use lib.Dec.{T, eqb, leb, eqb→eq, le→leb}
use lib.ListN.{length, drop}
use Rattle.theory.specs.Limit.{answer_bytes}
use Rattle.theory.specs.Record.{Bytes, number_length}
use Rattle.theory.specs.Answer.{Answer, decode_answers}
use Rattle.theory.specs.Job.{call}
use Rattle.theory.specs.Tally.{Tally, max_tally, up, how_many, tally_after, zero_tally}
use Rattle.theory.specs.Claim.{Free, sum, Lent, left_by, written, TallySum}

one_of_three : (c : ℕ) (x y z : ℕ) → cond (eqb c 0) (suc x) x + cond (eqb c 1) (suc y) y + cond (leb 2 c) (suc z) z ≡ suc (x + y + z)
one_of_three zero x y z = omega arith
one_of_three (suc zero) x y z = omega arith
one_of_three (suc (suc c)) x y z = go (eqb (suc (suc c)) 0) (eqb (suc (suc c)) 1) (leb 2 (suc (suc c))) (λ t. let e = eqb→eq (suc (suc c)) 0 t in omega arith) (λ t. let e = eqb→eq (suc (suc c)) 1 t in omega arith) (le→leb 2 (suc (suc c)) (omega arith))
  where
    go : (p q r : Bool) → (T p → ⊥) → (T q → ⊥) → T r → cond p (suc x) x + cond q (suc y) y + cond r (suc z) z ≡ suc (x + y + z)
    go true q r f g h = absurd (f tt)
    go false true r f g h = absurd (g tt)
    go false false true f g h = omega arith
    go false false false f g h = absurd h

parts : (answers : List Answer) → how_many (λ c. eqb c 0) answers + how_many (λ c. eqb c 1) answers + how_many (λ c. leb 2 c) answers ≡ length answers
parts [] = refl
parts (a ∷ rest) =
    one_of_three a.code (how_many (λ c. eqb c 0) rest) (how_many (λ c. eqb c 1) rest) (how_many (λ c. leb 2 c) rest) ∙ ap suc (parts rest)

up_free : (c n : ℕ) → up c n < max_tally → (c < max_tally) × (up c n ≡ c + n)
up_free c n h = (omega arith, omega arith)

step : (t : Tally) (o : List Answer) → Free (tally_after t o) → Free t × (sum (tally_after t o) ≡ sum t + length o)
unfolding tally_after
step t o f =
    let a = up_free t.held (how_many (λ c. eqb c 0) o) f.held_free in
    let b = up_free t.form_only (how_many (λ c. eqb c 1) o) f.form_free in
    let c = up_free t.refused (how_many (λ c. leb 2 c) o) f.refused_free in (
      record { held_free = a.0; form_free = b.0; refused_free = c.0 },
      added t.held t.form_only t.refused _ _ _ _ _ _ (length o) a.1 b.1 c.1 (parts o),
    )
  where
    added : (h f r p q s h' f' r' n : ℕ) → h' ≡ h + p → f' ≡ f + q → r' ≡ r + s → p + q + s ≡ n → h' + f' + r' ≡ h + f + r + n
    added h f r p q s h' f' r' n a b c d = omega arith

-- all answers of some lists
abbrev total : List (List Answer) → ℕ
total [] = 0
total (o ∷ os) = length o + total os

sum_from : (os : List (List Answer)) (t : Tally) → Free (foldl tally_after t os) → Free t × (sum (foldl tally_after t os) ≡ sum t + total os)
sum_from [] t f = (f, omega arith)
sum_from (o ∷ os) t f =
    let r = sum_from os (tally_after t o) f in
    let s = step t o r.0 in
    (s.0, r.1 ∙ ap (λ (n : ℕ). n + total os) s.1 ∙ let x = sum t in let y = length o in omega arith)

-- as many answers are read as are asked for
pub decoded_length : (b k : ℕ) (bs : Bytes) → length (decode_answers b k bs) ≡ k
decoded_length b zero bs = refl
decoded_length b (suc k) bs = ap suc (decoded_length b k (drop (answer_bytes b) bs))

total_written : (jobs : List Lent) → total (map left_by jobs) ≡ written jobs
total_written [] = refl
total_written (l ∷ rest) =
    let c = call l.limits l.job l.work l.answers in
    ap₂ (λ (m n : ℕ). m + n) (decoded_length (number_length l.job) c.result.answers c.answer_memory) (total_written rest)

pub tally_sum : TallySum
tally_sum jobs f = let t = total_written jobs in let s = (sum_from (map left_by jobs) zero_tally f).1 in omega arith
