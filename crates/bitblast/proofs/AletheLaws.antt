-- What a call with a text promises of the job's steps.
use mathlib.Core.Path.{◌≡◌, refl, sym, ap, ap₂, subst, ◌∙◌}
use native.Mathlib.Omega.{arith}
use lib.ListN.{length, take, drop}
use lib.Seq.{take-append_seam}
use Rattle.theory.specs.Record.{Bytes}
use Rattle.text.specs.Convert.{Outcome, written, refused, convert, Returned, returned, job_after, call}
use Rattle.text.specs.Claim.{steps_of, StepsWritten}
use Rattle.text.proofs.Steps.{steps_written}

-- a text that is accepted: the steps of the job are the text's
pub steps_called : (text work old : Bytes) {r : Returned} {new : Bytes} → r ≡ (call text work old).result → new ≡ (call text work old).job_memory → r.code ≡ 0
    → StepsWritten (take r.length new) (steps_of text)
steps_called text work old {r} {new} e d z = go (convert (length old) text) refl e d
  where
    go : (o : Outcome) → convert (length old) text ≡ o → r ≡ returned o → new ≡ job_after o old → StepsWritten (take r.length new) (steps_of text)
    go (written j) f e d =
        let k : take r.length new ≡ j = ap₂ (λ (x : Returned) (y : Bytes). take x.length y) e d ∙ take-append_seam j (drop (length j) old) in
        subst (λ (x : Bytes). StepsWritten x (steps_of text)) (sym k) (steps_written (length old) text j f)
    go (refused place) f e d = absurd (let n : r.code ≡ 25 = ap (λ (x : Returned). x.code) e in omega arith)
