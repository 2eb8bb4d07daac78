-- Nothing of one job reaches the next.
use mathlib.Core.Path.{◌≡◌, sym, ap, ap₂, ◌∙◌}
use mathlib.Core.List.{List, ◌++◌}
use Prim.Native.Nat.{ℕ, ◌*◌}
use lib.ListN.{length, drop, replicate}
use Rattle.theory.specs.Limit.{answer_bytes}
use Rattle.theory.specs.Record.{Bytes, number_length}
use Rattle.theory.specs.Answer.{Answer, encode_answers}
use Rattle.theory.specs.Job.{Outcome, run, Call, returned, answers_after}
use Rattle.theory.specs.Claim.{NothingKept}
use Rattle.theory.proofs.Written.{bytes_length}

-- the memory of the answers, by its bytes past the last answer
same_after : (b : ℕ) (answers : List Answer) (old new : Bytes) → drop (answer_bytes b * length answers) old ≡ drop (answer_bytes b * length answers) new
    → answers_after b answers old ≡ answers_after b answers new
same_after b answers old new e =
    let bs = encode_answers b answers in
    ap (λ (n : ℕ). bs ++ drop n old) (bytes_length b answers) ∙ ap (λ (l : Bytes). bs ++ l) e ∙ ap (λ (n : ℕ). bs ++ drop n new) (sym (bytes_length b answers))

-- what a call does, by the outcome, the length of the work memory and the answers' memory
abbrev by_outcome : Outcome → ℕ → Bytes → Call
by_outcome o work answers = record { result = returned o; work_memory = replicate work 0; answer_memory = answers }

pub nothing_kept : NothingKept
nothing_kept limits job work work₂ old old₂ w o e =
    let r = run limits job (length work) (length old) in
    ap (by_outcome r (length work)) (same_after (number_length job) r.answers old old₂ e)
    ∙ ap₂ (λ (m n : ℕ). let s = run limits job m n in by_outcome s m (answers_after (number_length job) s.answers old₂)) w o
