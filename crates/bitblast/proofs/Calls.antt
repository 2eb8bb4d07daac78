-- A call as theory has it, by what is returned and what both memories hold; the three demands follow from these.
use mathlib.Core.Path.{◌≡◌, sym, subst}
use Prim.Native.Nat.{ℕ}
use lib.ListN.{length}
use Rattle.theory.specs.Limit.{Limits}
use Rattle.theory.specs.Record.{Bytes, AllBytes, number_length}
use Rattle.theory.specs.Answer.{decode_answers}
use Rattle.theory.specs.Job.{Returned, call}
use Rattle.theory.specs.Demand.{Demand3}
use Rattle.theory.specs.Demands.{Stops, Demand2}
use Rattle.theory.proofs.Demands.{demand_1}
use Rattle.theory.proofs.Written.{demand_2_call, demand_3_call}
use Rattle.runs.specs.declared.Outcome.{Outcome as Told}
use Rattle.runs.specs.Walking.{told}

-- the three demands, of stated limits, a job, the lengths lent, what is returned and the answers' memory
abbrev Demanded : Limits → Bytes → ℕ → ℕ → Returned → Bytes → Type 0
Demanded limits job work space r memory =
    Stops limits job work space r.stop r.records
    × (Demand2 limits job work space (decode_answers (number_length job) r.answers memory) × Demand3 limits job work space r.records (decode_answers (number_length job) r.answers memory))

-- the six promises of a call, of which the last three follow from the others
pub called : (limits : Limits) (job work old : Bytes) → AllBytes job → (o : Told) {work' answers' : Bytes} → let c = call limits job work old in
    told o ≡ c.result → answers' ≡ c.answer_memory → work' ≡ c.work_memory
    → (told o ≡ c.result) × ((answers' ≡ c.answer_memory) × ((work' ≡ c.work_memory) × Demanded limits job (length work) (length old) (told o) answers'))
called limits job work old b o {work'} {answers'} r a w =
    let c = call limits job work old in
    let d : Demanded limits job (length work) (length old) c.result c.answer_memory =
    (demand_1 limits job (length work) (length old), (demand_2_call limits job work old b, demand_3_call limits job work old b)) in (
      r,
      (
        a,
        (
          w,
          subst (Demanded limits job (length work) (length old) (told o)) (sym a)
              (subst (λ (x : Returned). Demanded limits job (length work) (length old) x c.answer_memory) (sym r) d),
        ),
      ),
    )
