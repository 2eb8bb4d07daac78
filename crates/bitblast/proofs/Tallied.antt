-- The two exports together: `bb_tally` counts what `bb_job_within` wrote.
use mathlib.Core.Path.{◌≡◌, refl, ap, ◌∙◌}
use mathlib.Core.List.{List, [], ◌∷◌, ◌++◌}
use Prim.Native.Nat.{ℕ, ◌*◌, ◌/◌, ◌≤◌, min}
use native.Mathlib.Omega.{arith}
use lib.ListN.{length}
use Rattle.theory.specs.Limit.{answer_bytes, number_bytes, long_bytes}
use Rattle.theory.specs.Record.{Bytes}
use Rattle.theory.specs.Answer.{Answer, encode_answers, decode_answers}
use Rattle.theory.specs.Job.{answers_after, run}
use Rattle.theory.proofs.Bounds.{run_fits}
use Rattle.theory.proofs.Lengths.{either_length}
use Rattle.theory.proofs.Written.{answers_kept}
use Rattle.tally.specs.Counted.{depth_length, whole_answers, answers_in}
use Rattle.bitblast.specs.Claim.{TallyCounts}

-- where the first answer says that its depth has b bytes, and so many whole answers stand in the memory, they are what is counted
module _ (b : ℕ) (says : (a : Answer) (rest : List Answer) (more : Bytes) → depth_length (encode_answers b (a ∷ rest) ++ more) ≡ b)
    (whole : (size count : ℕ) → answer_bytes b * count ≤ size → whole_answers b size count ≡ count) where
  counts : (answers : List Answer) (old : Bytes) → let m = answers_after b answers old in answer_bytes b * length answers ≤ length m
      → answers_in (length answers) m ≡ decode_answers b (length answers) m
  counts [] old h =
      let m = answers_after b [] old in
      let none : (x : ℕ) → min 0 x ≡ 0 = λ x. omega arith in
      ap (λ (n : ℕ). decode_answers (depth_length m) n m) (none (length m / answer_bytes (depth_length m)))
  counts (a ∷ rest) old h =
      let m = answers_after b (a ∷ rest) old in
      ap (λ (d : ℕ). decode_answers d (whole_answers d (length m) (length (a ∷ rest))) m) (says a rest _)
      ∙ ap (λ (n : ℕ). decode_answers b n m) (whole (length m) (length (a ∷ rest)) h)

says_short : (a : Answer) (rest : List Answer) (more : Bytes) → depth_length (encode_answers number_bytes (a ∷ rest) ++ more) ≡ number_bytes
unfolding depth_length
says_short a rest more = refl

says_long : (a : Answer) (rest : List Answer) (more : Bytes) → depth_length (encode_answers long_bytes (a ∷ rest) ++ more) ≡ long_bytes
unfolding depth_length
says_long a rest more = refl

whole_short : (size count : ℕ) → answer_bytes number_bytes * count ≤ size → whole_answers number_bytes size count ≡ count
whole_short size count h = let q : count ≤ size / answer_bytes number_bytes = omega arith in omega arith

whole_long : (size count : ℕ) → answer_bytes long_bytes * count ≤ size → whole_answers long_bytes size count ≡ count
whole_long size count h = let q : count ≤ size / answer_bytes long_bytes = omega arith in omega arith

pub counted : TallyCounts
counted l =
    let o = run l.limits l.job (length l.work) (length l.answers) in
    let k = (answers_kept l.limits l.job l.work l.answers).0 in
    let f = (run_fits l.limits l.job (length l.work) (length l.answers)).answers_fit in
    either_length (λ b. (answers : List Answer) (old : Bytes) → let m = answers_after b answers old in answer_bytes b * length answers ≤ length m
    → answers_in (length answers) m ≡ decode_answers b (length answers) m)
    (counts number_bytes says_short whole_short) (counts long_bytes says_long whole_long) l.job o.answers l.answers (omega (arith, k, f))
