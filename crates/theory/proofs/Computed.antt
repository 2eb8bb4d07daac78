-- Document 01's own jobs, computed: each comes to what it says, which is what the original Rust answers; and a few of document 02's chains, jobs under
-- stated limits, and jobs whose numbers have four bytes. Written by tools/listed_jobs.py; the program `replay` runs these and many others.
use mathlib.Core.Path.{◌≡◌, refl}
use mathlib.Core.List.{List, [], ◌∷◌}
use Prim.Native.Nat.{ℕ}
use Rattle.theory.specs.Limit.{Limits, stated, rack}
use Rattle.theory.specs.Term.{fold, same_op, same_term}
use Rattle.theory.specs.Sort.{guard}
use Rattle.theory.specs.Depth.{depth}
use Rattle.theory.specs.Circuit.{zip_with, last, clog2, ripple_carry_adder, last_carry, carry_out, ult_from, bitblast_ult, slt_from, slt, gather, add_rows, shift_add_multiplier, shl_bits, shl_stages, shr_bits, shr_stages, shl, lshr, ashr, divide_step, bitblast_udiv_urem_rec, udiv, urem}
use Rattle.theory.specs.Bits.{select, get_term_bits, fold_terms, add_bits, concat_bits}
use Rattle.theory.specs.Rule.{args_of, literal_bits, slices_verdict, on_sides, verdict}
use Rattle.theory.specs.Record.{Bytes, cut, shape_of, read, number_length}
use Rattle.theory.specs.Plain.{feed, repeat_of}
use Rattle.theory.specs.Codes.{fault}
use Rattle.theory.specs.Answer.{Answer}
use Rattle.theory.specs.Chain.{joins, chain_verdict}
use Rattle.theory.specs.Job.{Outcome, answers_to, recall, run_from, run}

-- a job, its limits, the lent bytes of work memory and answers, and what a run of it comes to
record Case : Type 0 where
  limits : Limits
  job : Bytes
  work : ℕ
  space : ℕ
  outcome : Outcome

abbrev answer : ℕ → ℕ → ℕ → Answer
answer rule code depth = record { rule = rule; code = code; depth = depth }

abbrev case : Limits → Bytes → ℕ → ℕ → ℕ → ℕ → List Answer → ℕ → ℕ → Case
case limits job work space stop done answers terms repeats = record {
  limits = limits;
  job = job;
  work = work;
  space = space;
  outcome = record { stop = stop; records = done; answers = answers; terms = terms; repeats = repeats };
}

-- each comes to its outcome
abbrev Computed : List Case → Type 0
Computed [] = Unit {0}
Computed (c ∷ cs) = (run c.limits c.job c.work c.space ≡ c.outcome) × Computed cs

abbrev cases : List Case
cases =
    -- document 01, code 3: L beyond the end
    case rack (6 ∷ 0 ∷ 11 ∷ []) 64 64 3 0 ([]) 2 0
    -- document 01, code 4: kind 99
    ∷ case rack (2 ∷ 0 ∷ 99 ∷ 0 ∷ []) 64 64 4 0 ([]) 2 0
    -- document 01, code 5: Not with two arguments
    ∷ case rack (6 ∷ 0 ∷ 20 ∷ 0 ∷ 0 ∷ 0 ∷ 1 ∷ 0 ∷ []) 64 64 5 0 ([]) 2 0
    -- document 01, code 6: Not of term 2 of 2
    ∷ case rack (4 ∷ 0 ∷ 20 ∷ 0 ∷ 2 ∷ 0 ∷ []) 64 64 6 0 ([]) 2 0
    -- document 01, code 7: width 65
    ∷ case rack (6 ∷ 0 ∷ 11 ∷ 0 ∷ 65 ∷ 0 ∷ 0 ∷ 0 ∷ []) 64 64 7 0 ([]) 2 0
    -- document 01, code 8: work of 7 bytes
    ∷ case rack (6 ∷ 0 ∷ 11 ∷ 0 ∷ 1 ∷ 0 ∷ 0 ∷ 0 ∷ []) 7 64 8 0 ([]) 2 0
    -- document 01, code 9: rule 99
    ∷ case rack (4 ∷ 0 ∷ 100 ∷ 0 ∷ 99 ∷ 0 ∷ []) 64 64 9 0 ([]) 2 0
    -- document 01, code 10: no literal
    ∷ case rack (4 ∷ 0 ∷ 100 ∷ 0 ∷ 1 ∷ 0 ∷ []) 64 64 0 1 (answer 1 10 0 ∷ []) 2 0
    -- document 01, code 11: rule 1 on true
    ∷ case rack (6 ∷ 0 ∷ 100 ∷ 0 ∷ 1 ∷ 0 ∷ 0 ∷ 0 ∷ []) 64 64 0 1 (answer 1 11 0 ∷ []) 2 0
    -- document 01, code 12: rule 2 on (= true true)
    ∷ case rack (6 ∷ 0 ∷ 24 ∷ 0 ∷ 0 ∷ 0 ∷ 0 ∷ 0 ∷ 6 ∷ 0 ∷ 100 ∷ 0 ∷ 2 ∷ 0 ∷ 2 ∷ 0 ∷ []) 64 64 0 2 (answer 2 12 0 ∷ []) 3 0
    -- document 01, code 13: rule 1, left side a variable
    ∷ case rack (6 ∷ 0 ∷ 11 ∷ 0 ∷ 1 ∷ 0 ∷ 0 ∷ 0 ∷ 4 ∷ 0 ∷ 31 ∷ 0 ∷ 0 ∷ 0 ∷ 6 ∷ 0 ∷ 24 ∷ 0 ∷ 2 ∷ 0 ∷ 3 ∷ 0 ∷ 6 ∷ 0 ∷ 100 ∷ 0 ∷ 1 ∷ 0 ∷ 4 ∷ 0 ∷ []) 64 64 0 4 (answer 1 13 0 ∷ []) 5 0
    -- document 01, code 14: #b0, bit a variable
    ∷ case rack (12 ∷ 0 ∷ 12 ∷ 0 ∷ 1 ∷ 0 ∷ 0 ∷ 0 ∷ 0 ∷ 0 ∷ 0 ∷ 0 ∷ 0 ∷ 0 ∷ 4 ∷ 0 ∷ 10 ∷ 0 ∷ 0 ∷ 0 ∷ 4 ∷ 0 ∷ 31 ∷ 0 ∷ 3 ∷ 0 ∷ 6 ∷ 0 ∷ 24 ∷ 0 ∷ 2 ∷ 0 ∷ 4 ∷ 0 ∷ 6 ∷ 0 ∷ 100 ∷ 0 ∷ 1 ∷ 0 ∷ 5 ∷ 0 ∷ []) 64 64 0 5 (answer 1 14 0 ∷ []) 6 0
    -- document 01, code 15: #b0, bit true
    ∷ case rack (12 ∷ 0 ∷ 12 ∷ 0 ∷ 1 ∷ 0 ∷ 0 ∷ 0 ∷ 0 ∷ 0 ∷ 0 ∷ 0 ∷ 0 ∷ 0 ∷ 4 ∷ 0 ∷ 31 ∷ 0 ∷ 0 ∷ 0 ∷ 6 ∷ 0 ∷ 24 ∷ 0 ∷ 2 ∷ 0 ∷ 3 ∷ 0 ∷ 6 ∷ 0 ∷ 100 ∷ 0 ∷ 1 ∷ 0 ∷ 4 ∷ 0 ∷ []) 64 64 0 4 (answer 1 15 0 ∷ []) 5 0
    -- document 01, code 16: rule 9, the And's arguments swapped
    ∷ case rack (6 ∷ 0 ∷ 11 ∷ 0 ∷ 1 ∷ 0 ∷ 0 ∷ 0 ∷ 6 ∷ 0 ∷ 11 ∷ 0 ∷ 1 ∷ 0 ∷ 1 ∷ 0 ∷ 6 ∷ 0 ∷ 30 ∷ 0 ∷ 0 ∷ 0 ∷ 2 ∷ 0 ∷ 6 ∷ 0 ∷ 30 ∷ 0 ∷ 0 ∷ 0 ∷ 3 ∷ 0 ∷ 4 ∷ 0 ∷ 20 ∷ 0 ∷ 5 ∷ 0 ∷ 6 ∷ 0 ∷ 21 ∷ 0 ∷ 6 ∷ 0 ∷ 4 ∷ 0 ∷ 6 ∷ 0 ∷ 50 ∷ 0 ∷ 2 ∷ 0 ∷ 3 ∷ 0 ∷ 6 ∷ 0 ∷ 24 ∷ 0 ∷ 8 ∷ 0 ∷ 7 ∷ 0 ∷ 6 ∷ 0 ∷ 100 ∷ 0 ∷ 9 ∷ 0 ∷ 9 ∷ 0 ∷ []) 64 64 0 9 (answer 9 16 0 ∷ []) 10 0
    -- document 01, code 17: rule 23, low slice first
    ∷ case rack (6 ∷ 0 ∷ 11 ∷ 0 ∷ 2 ∷ 0 ∷ 0 ∷ 0 ∷ 6 ∷ 0 ∷ 11 ∷ 0 ∷ 2 ∷ 0 ∷ 1 ∷ 0 ∷ 8 ∷ 0 ∷ 57 ∷ 0 ∷ 1 ∷ 0 ∷ 1 ∷ 0 ∷ 2 ∷ 0 ∷ 8 ∷ 0 ∷ 57 ∷ 0 ∷ 1 ∷ 0 ∷ 1 ∷ 0 ∷ 3 ∷ 0 ∷ 6 ∷ 0 ∷ 42 ∷ 0 ∷ 4 ∷ 0 ∷ 5 ∷ 0 ∷ 8 ∷ 0 ∷ 57 ∷ 0 ∷ 0 ∷ 0 ∷ 0 ∷ 0 ∷ 2 ∷ 0 ∷ 8 ∷ 0 ∷ 57 ∷ 0 ∷ 0 ∷ 0 ∷ 0 ∷ 0 ∷ 3 ∷ 0 ∷ 6 ∷ 0 ∷ 42 ∷ 0 ∷ 7 ∷ 0 ∷ 8 ∷ 0 ∷ 6 ∷ 0 ∷ 42 ∷ 0 ∷ 2 ∷ 0 ∷ 3 ∷ 0 ∷ 6 ∷ 0 ∷ 56 ∷ 0 ∷ 9 ∷ 0 ∷ 6 ∷ 0 ∷ 6 ∷ 0 ∷ 24 ∷ 0 ∷ 10 ∷ 0 ∷ 11 ∷ 0 ∷ 6 ∷ 0 ∷ 100 ∷ 0 ∷ 23 ∷ 0 ∷ 12 ∷ 0 ∷ []) 128 64 0 12 (answer 23 17 0 ∷ []) 13 0
    -- document 01, the same, high slice first
    ∷ case rack (6 ∷ 0 ∷ 11 ∷ 0 ∷ 2 ∷ 0 ∷ 0 ∷ 0 ∷ 6 ∷ 0 ∷ 11 ∷ 0 ∷ 2 ∷ 0 ∷ 1 ∷ 0 ∷ 8 ∷ 0 ∷ 57 ∷ 0 ∷ 1 ∷ 0 ∷ 1 ∷ 0 ∷ 2 ∷ 0 ∷ 8 ∷ 0 ∷ 57 ∷ 0 ∷ 1 ∷ 0 ∷ 1 ∷ 0 ∷ 3 ∷ 0 ∷ 6 ∷ 0 ∷ 42 ∷ 0 ∷ 4 ∷ 0 ∷ 5 ∷ 0 ∷ 8 ∷ 0 ∷ 57 ∷ 0 ∷ 0 ∷ 0 ∷ 0 ∷ 0 ∷ 2 ∷ 0 ∷ 8 ∷ 0 ∷ 57 ∷ 0 ∷ 0 ∷ 0 ∷ 0 ∷ 0 ∷ 3 ∷ 0 ∷ 6 ∷ 0 ∷ 42 ∷ 0 ∷ 7 ∷ 0 ∷ 8 ∷ 0 ∷ 6 ∷ 0 ∷ 42 ∷ 0 ∷ 2 ∷ 0 ∷ 3 ∷ 0 ∷ 6 ∷ 0 ∷ 56 ∷ 0 ∷ 6 ∷ 0 ∷ 9 ∷ 0 ∷ 6 ∷ 0 ∷ 24 ∷ 0 ∷ 10 ∷ 0 ∷ 11 ∷ 0 ∷ 6 ∷ 0 ∷ 100 ∷ 0 ∷ 23 ∷ 0 ∷ 12 ∷ 0 ∷ []) 128 64 0 12 (answer 23 0 0 ∷ []) 13 0
    -- document 01, code 18: back to 1
    ∷ case rack (4 ∷ 0 ∷ 101 ∷ 0 ∷ 1 ∷ 0 ∷ []) 64 64 18 0 ([]) 2 0
    -- document 01, code 19: 9 answer bytes
    ∷ case rack (6 ∷ 0 ∷ 100 ∷ 0 ∷ 1 ∷ 0 ∷ 0 ∷ 0 ∷ []) 64 9 19 0 ([]) 2 0
    -- document 01, code 3: just 1 byte left
    ∷ case rack (6 ∷ []) 64 64 3 0 ([]) 2 0
    -- document 01, code 3: L below 2
    ∷ case rack (1 ∷ 0 ∷ 0 ∷ []) 64 64 3 0 ([]) 2 0
    -- document 01, code 0: nothing
    ∷ case rack ([]) 0 0 0 0 ([]) 2 0
    -- document 01, the job of bbcheck's example
    ∷ case rack (6 ∷ 0 ∷ 11 ∷ 0 ∷ 1 ∷ 0 ∷ 0 ∷ 0 ∷ 6 ∷ 0 ∷ 11 ∷ 0 ∷ 1 ∷ 0 ∷ 1 ∷ 0 ∷ 6 ∷ 0 ∷ 30 ∷ 0 ∷ 0 ∷ 0 ∷ 2 ∷ 0 ∷ 6 ∷ 0 ∷ 30 ∷ 0 ∷ 0 ∷ 0 ∷ 3 ∷ 0 ∷ 4 ∷ 0 ∷ 20 ∷ 0 ∷ 5 ∷ 0 ∷ 6 ∷ 0 ∷ 21 ∷ 0 ∷ 4 ∷ 0 ∷ 6 ∷ 0 ∷ 6 ∷ 0 ∷ 50 ∷ 0 ∷ 2 ∷ 0 ∷ 3 ∷ 0 ∷ 6 ∷ 0 ∷ 24 ∷ 0 ∷ 8 ∷ 0 ∷ 7 ∷ 0 ∷ 6 ∷ 0 ∷ 100 ∷ 0 ∷ 9 ∷ 0 ∷ 9 ∷ 0 ∷ []) 65536 65536 0 9 (answer 9 0 2 ∷ []) 10 0
    -- document 02, P12: symm
    ∷ case rack (6 ∷ 0 ∷ 11 ∷ 0 ∷ 2 ∷ 0 ∷ 0 ∷ 0 ∷ 6 ∷ 0 ∷ 30 ∷ 0 ∷ 1 ∷ 0 ∷ 2 ∷ 0 ∷ 4 ∷ 0 ∷ 20 ∷ 0 ∷ 3 ∷ 0 ∷ 6 ∷ 0 ∷ 30 ∷ 0 ∷ 0 ∷ 0 ∷ 2 ∷ 0 ∷ 4 ∷ 0 ∷ 20 ∷ 0 ∷ 5 ∷ 0 ∷ 6 ∷ 0 ∷ 31 ∷ 0 ∷ 6 ∷ 0 ∷ 4 ∷ 0 ∷ 4 ∷ 0 ∷ 40 ∷ 0 ∷ 2 ∷ 0 ∷ 6 ∷ 0 ∷ 24 ∷ 0 ∷ 8 ∷ 0 ∷ 7 ∷ 0 ∷ 6 ∷ 0 ∷ 100 ∷ 0 ∷ 7 ∷ 0 ∷ 9 ∷ 0 ∷ 6 ∷ 0 ∷ 24 ∷ 0 ∷ 7 ∷ 0 ∷ 7 ∷ 0 ∷ 6 ∷ 0 ∷ 100 ∷ 0 ∷ 2 ∷ 0 ∷ 10 ∷ 0 ∷ 6 ∷ 0 ∷ 11 ∷ 0 ∷ 1 ∷ 0 ∷ 2 ∷ 0 ∷ 6 ∷ 0 ∷ 30 ∷ 0 ∷ 0 ∷ 0 ∷ 11 ∷ 0 ∷ 12 ∷ 0 ∷ 12 ∷ 0 ∷ 1 ∷ 0 ∷ 1 ∷ 0 ∷ 0 ∷ 0 ∷ 0 ∷ 0 ∷ 0 ∷ 0 ∷ 6 ∷ 0 ∷ 30 ∷ 0 ∷ 0 ∷ 0 ∷ 13 ∷ 0 ∷ 4 ∷ 0 ∷ 20 ∷ 0 ∷ 12 ∷ 0 ∷ 6 ∷ 0 ∷ 21 ∷ 0 ∷ 15 ∷ 0 ∷ 14 ∷ 0 ∷ 8 ∷ 0 ∷ 25 ∷ 0 ∷ 16 ∷ 0 ∷ 12 ∷ 0 ∷ 1 ∷ 0 ∷ 4 ∷ 0 ∷ 31 ∷ 0 ∷ 17 ∷ 0 ∷ 6 ∷ 0 ∷ 53 ∷ 0 ∷ 11 ∷ 0 ∷ 11 ∷ 0 ∷ 6 ∷ 0 ∷ 24 ∷ 0 ∷ 19 ∷ 0 ∷ 18 ∷ 0 ∷ 6 ∷ 0 ∷ 100 ∷ 0 ∷ 20 ∷ 0 ∷ 20 ∷ 0 ∷ 6 ∷ 0 ∷ 24 ∷ 0 ∷ 8 ∷ 0 ∷ 2 ∷ 0 ∷ 6 ∷ 0 ∷ 100 ∷ 0 ∷ 7 ∷ 0 ∷ 21 ∷ 0 ∷ 6 ∷ 0 ∷ 31 ∷ 0 ∷ 5 ∷ 0 ∷ 3 ∷ 0 ∷ 6 ∷ 0 ∷ 24 ∷ 0 ∷ 2 ∷ 0 ∷ 22 ∷ 0 ∷ 6 ∷ 0 ∷ 100 ∷ 0 ∷ 2 ∷ 0 ∷ 23 ∷ 0 ∷ 4 ∷ 0 ∷ 100 ∷ 0 ∷ 2 ∷ 0 ∷ 6 ∷ 0 ∷ 24 ∷ 0 ∷ 7 ∷ 0 ∷ 8 ∷ 0 ∷ 10 ∷ 0 ∷ 104 ∷ 0 ∷ 31 ∷ 0 ∷ 1 ∷ 0 ∷ 1 ∷ 0 ∷ 24 ∷ 0 ∷ []) 524264 6000 0 30 (answer 7 0 1 ∷ answer 2 0 1 ∷ answer 20 1 3 ∷ answer 7 16 0 ∷ answer 2 0 0 ∷ answer 2 10 0 ∷ answer 31 0 0 ∷ []) 25 0
    -- document 02, P12: premise form only
    ∷ case rack (6 ∷ 0 ∷ 11 ∷ 0 ∷ 2 ∷ 0 ∷ 0 ∷ 0 ∷ 6 ∷ 0 ∷ 30 ∷ 0 ∷ 1 ∷ 0 ∷ 2 ∷ 0 ∷ 4 ∷ 0 ∷ 20 ∷ 0 ∷ 3 ∷ 0 ∷ 6 ∷ 0 ∷ 30 ∷ 0 ∷ 0 ∷ 0 ∷ 2 ∷ 0 ∷ 4 ∷ 0 ∷ 20 ∷ 0 ∷ 5 ∷ 0 ∷ 6 ∷ 0 ∷ 31 ∷ 0 ∷ 6 ∷ 0 ∷ 4 ∷ 0 ∷ 4 ∷ 0 ∷ 40 ∷ 0 ∷ 2 ∷ 0 ∷ 6 ∷ 0 ∷ 24 ∷ 0 ∷ 8 ∷ 0 ∷ 7 ∷ 0 ∷ 6 ∷ 0 ∷ 100 ∷ 0 ∷ 7 ∷ 0 ∷ 9 ∷ 0 ∷ 6 ∷ 0 ∷ 24 ∷ 0 ∷ 7 ∷ 0 ∷ 7 ∷ 0 ∷ 6 ∷ 0 ∷ 100 ∷ 0 ∷ 2 ∷ 0 ∷ 10 ∷ 0 ∷ 6 ∷ 0 ∷ 11 ∷ 0 ∷ 1 ∷ 0 ∷ 2 ∷ 0 ∷ 6 ∷ 0 ∷ 30 ∷ 0 ∷ 0 ∷ 0 ∷ 11 ∷ 0 ∷ 12 ∷ 0 ∷ 12 ∷ 0 ∷ 1 ∷ 0 ∷ 1 ∷ 0 ∷ 0 ∷ 0 ∷ 0 ∷ 0 ∷ 0 ∷ 0 ∷ 6 ∷ 0 ∷ 30 ∷ 0 ∷ 0 ∷ 0 ∷ 13 ∷ 0 ∷ 4 ∷ 0 ∷ 20 ∷ 0 ∷ 12 ∷ 0 ∷ 6 ∷ 0 ∷ 21 ∷ 0 ∷ 15 ∷ 0 ∷ 14 ∷ 0 ∷ 8 ∷ 0 ∷ 25 ∷ 0 ∷ 16 ∷ 0 ∷ 12 ∷ 0 ∷ 1 ∷ 0 ∷ 4 ∷ 0 ∷ 31 ∷ 0 ∷ 17 ∷ 0 ∷ 6 ∷ 0 ∷ 53 ∷ 0 ∷ 11 ∷ 0 ∷ 11 ∷ 0 ∷ 6 ∷ 0 ∷ 24 ∷ 0 ∷ 19 ∷ 0 ∷ 18 ∷ 0 ∷ 6 ∷ 0 ∷ 100 ∷ 0 ∷ 20 ∷ 0 ∷ 20 ∷ 0 ∷ 6 ∷ 0 ∷ 24 ∷ 0 ∷ 8 ∷ 0 ∷ 2 ∷ 0 ∷ 6 ∷ 0 ∷ 100 ∷ 0 ∷ 7 ∷ 0 ∷ 21 ∷ 0 ∷ 6 ∷ 0 ∷ 31 ∷ 0 ∷ 5 ∷ 0 ∷ 3 ∷ 0 ∷ 6 ∷ 0 ∷ 24 ∷ 0 ∷ 2 ∷ 0 ∷ 22 ∷ 0 ∷ 6 ∷ 0 ∷ 100 ∷ 0 ∷ 2 ∷ 0 ∷ 23 ∷ 0 ∷ 4 ∷ 0 ∷ 100 ∷ 0 ∷ 2 ∷ 0 ∷ 6 ∷ 0 ∷ 24 ∷ 0 ∷ 7 ∷ 0 ∷ 8 ∷ 0 ∷ 10 ∷ 0 ∷ 104 ∷ 0 ∷ 31 ∷ 0 ∷ 1 ∷ 0 ∷ 3 ∷ 0 ∷ 24 ∷ 0 ∷ []) 524264 6000 0 30 (answer 7 0 1 ∷ answer 2 0 1 ∷ answer 20 1 3 ∷ answer 7 16 0 ∷ answer 2 0 0 ∷ answer 2 10 0 ∷ answer 31 24 0 ∷ []) 25 0
    -- document 02, P12: count 0
    ∷ case rack (6 ∷ 0 ∷ 11 ∷ 0 ∷ 2 ∷ 0 ∷ 0 ∷ 0 ∷ 6 ∷ 0 ∷ 30 ∷ 0 ∷ 1 ∷ 0 ∷ 2 ∷ 0 ∷ 4 ∷ 0 ∷ 20 ∷ 0 ∷ 3 ∷ 0 ∷ 6 ∷ 0 ∷ 30 ∷ 0 ∷ 0 ∷ 0 ∷ 2 ∷ 0 ∷ 4 ∷ 0 ∷ 20 ∷ 0 ∷ 5 ∷ 0 ∷ 6 ∷ 0 ∷ 31 ∷ 0 ∷ 6 ∷ 0 ∷ 4 ∷ 0 ∷ 4 ∷ 0 ∷ 40 ∷ 0 ∷ 2 ∷ 0 ∷ 6 ∷ 0 ∷ 24 ∷ 0 ∷ 8 ∷ 0 ∷ 7 ∷ 0 ∷ 6 ∷ 0 ∷ 100 ∷ 0 ∷ 7 ∷ 0 ∷ 9 ∷ 0 ∷ 6 ∷ 0 ∷ 24 ∷ 0 ∷ 7 ∷ 0 ∷ 7 ∷ 0 ∷ 6 ∷ 0 ∷ 100 ∷ 0 ∷ 2 ∷ 0 ∷ 10 ∷ 0 ∷ 6 ∷ 0 ∷ 11 ∷ 0 ∷ 1 ∷ 0 ∷ 2 ∷ 0 ∷ 6 ∷ 0 ∷ 30 ∷ 0 ∷ 0 ∷ 0 ∷ 11 ∷ 0 ∷ 12 ∷ 0 ∷ 12 ∷ 0 ∷ 1 ∷ 0 ∷ 1 ∷ 0 ∷ 0 ∷ 0 ∷ 0 ∷ 0 ∷ 0 ∷ 0 ∷ 6 ∷ 0 ∷ 30 ∷ 0 ∷ 0 ∷ 0 ∷ 13 ∷ 0 ∷ 4 ∷ 0 ∷ 20 ∷ 0 ∷ 12 ∷ 0 ∷ 6 ∷ 0 ∷ 21 ∷ 0 ∷ 15 ∷ 0 ∷ 14 ∷ 0 ∷ 8 ∷ 0 ∷ 25 ∷ 0 ∷ 16 ∷ 0 ∷ 12 ∷ 0 ∷ 1 ∷ 0 ∷ 4 ∷ 0 ∷ 31 ∷ 0 ∷ 17 ∷ 0 ∷ 6 ∷ 0 ∷ 53 ∷ 0 ∷ 11 ∷ 0 ∷ 11 ∷ 0 ∷ 6 ∷ 0 ∷ 24 ∷ 0 ∷ 19 ∷ 0 ∷ 18 ∷ 0 ∷ 6 ∷ 0 ∷ 100 ∷ 0 ∷ 20 ∷ 0 ∷ 20 ∷ 0 ∷ 6 ∷ 0 ∷ 24 ∷ 0 ∷ 8 ∷ 0 ∷ 2 ∷ 0 ∷ 6 ∷ 0 ∷ 100 ∷ 0 ∷ 7 ∷ 0 ∷ 21 ∷ 0 ∷ 6 ∷ 0 ∷ 31 ∷ 0 ∷ 5 ∷ 0 ∷ 3 ∷ 0 ∷ 6 ∷ 0 ∷ 24 ∷ 0 ∷ 2 ∷ 0 ∷ 22 ∷ 0 ∷ 6 ∷ 0 ∷ 100 ∷ 0 ∷ 2 ∷ 0 ∷ 23 ∷ 0 ∷ 4 ∷ 0 ∷ 100 ∷ 0 ∷ 2 ∷ 0 ∷ 6 ∷ 0 ∷ 24 ∷ 0 ∷ 7 ∷ 0 ∷ 8 ∷ 0 ∷ 8 ∷ 0 ∷ 104 ∷ 0 ∷ 31 ∷ 0 ∷ 0 ∷ 0 ∷ 24 ∷ 0 ∷ []) 524264 6000 5 29 (answer 7 0 1 ∷ answer 2 0 1 ∷ answer 20 1 3 ∷ answer 7 16 0 ∷ answer 2 0 0 ∷ answer 2 10 0 ∷ []) 25 0
    -- document 02, P12: trans in the other order
    ∷ case rack (6 ∷ 0 ∷ 11 ∷ 0 ∷ 2 ∷ 0 ∷ 0 ∷ 0 ∷ 6 ∷ 0 ∷ 30 ∷ 0 ∷ 1 ∷ 0 ∷ 2 ∷ 0 ∷ 4 ∷ 0 ∷ 20 ∷ 0 ∷ 3 ∷ 0 ∷ 6 ∷ 0 ∷ 30 ∷ 0 ∷ 0 ∷ 0 ∷ 2 ∷ 0 ∷ 4 ∷ 0 ∷ 20 ∷ 0 ∷ 5 ∷ 0 ∷ 6 ∷ 0 ∷ 31 ∷ 0 ∷ 6 ∷ 0 ∷ 4 ∷ 0 ∷ 4 ∷ 0 ∷ 40 ∷ 0 ∷ 2 ∷ 0 ∷ 6 ∷ 0 ∷ 24 ∷ 0 ∷ 8 ∷ 0 ∷ 7 ∷ 0 ∷ 6 ∷ 0 ∷ 100 ∷ 0 ∷ 7 ∷ 0 ∷ 9 ∷ 0 ∷ 6 ∷ 0 ∷ 24 ∷ 0 ∷ 7 ∷ 0 ∷ 7 ∷ 0 ∷ 6 ∷ 0 ∷ 100 ∷ 0 ∷ 2 ∷ 0 ∷ 10 ∷ 0 ∷ 6 ∷ 0 ∷ 11 ∷ 0 ∷ 1 ∷ 0 ∷ 2 ∷ 0 ∷ 6 ∷ 0 ∷ 30 ∷ 0 ∷ 0 ∷ 0 ∷ 11 ∷ 0 ∷ 12 ∷ 0 ∷ 12 ∷ 0 ∷ 1 ∷ 0 ∷ 1 ∷ 0 ∷ 0 ∷ 0 ∷ 0 ∷ 0 ∷ 0 ∷ 0 ∷ 6 ∷ 0 ∷ 30 ∷ 0 ∷ 0 ∷ 0 ∷ 13 ∷ 0 ∷ 4 ∷ 0 ∷ 20 ∷ 0 ∷ 12 ∷ 0 ∷ 6 ∷ 0 ∷ 21 ∷ 0 ∷ 15 ∷ 0 ∷ 14 ∷ 0 ∷ 8 ∷ 0 ∷ 25 ∷ 0 ∷ 16 ∷ 0 ∷ 12 ∷ 0 ∷ 1 ∷ 0 ∷ 4 ∷ 0 ∷ 31 ∷ 0 ∷ 17 ∷ 0 ∷ 6 ∷ 0 ∷ 53 ∷ 0 ∷ 11 ∷ 0 ∷ 11 ∷ 0 ∷ 6 ∷ 0 ∷ 24 ∷ 0 ∷ 19 ∷ 0 ∷ 18 ∷ 0 ∷ 6 ∷ 0 ∷ 100 ∷ 0 ∷ 20 ∷ 0 ∷ 20 ∷ 0 ∷ 6 ∷ 0 ∷ 24 ∷ 0 ∷ 8 ∷ 0 ∷ 2 ∷ 0 ∷ 6 ∷ 0 ∷ 100 ∷ 0 ∷ 7 ∷ 0 ∷ 21 ∷ 0 ∷ 6 ∷ 0 ∷ 31 ∷ 0 ∷ 5 ∷ 0 ∷ 3 ∷ 0 ∷ 6 ∷ 0 ∷ 24 ∷ 0 ∷ 2 ∷ 0 ∷ 22 ∷ 0 ∷ 6 ∷ 0 ∷ 100 ∷ 0 ∷ 2 ∷ 0 ∷ 23 ∷ 0 ∷ 4 ∷ 0 ∷ 100 ∷ 0 ∷ 2 ∷ 0 ∷ 12 ∷ 0 ∷ 104 ∷ 0 ∷ 32 ∷ 0 ∷ 2 ∷ 0 ∷ 2 ∷ 0 ∷ 1 ∷ 0 ∷ 9 ∷ 0 ∷ []) 524264 6000 0 29 (answer 7 0 1 ∷ answer 2 0 1 ∷ answer 20 1 3 ∷ answer 7 16 0 ∷ answer 2 0 0 ∷ answer 2 10 0 ∷ answer 32 11 0 ∷ []) 24 0
    -- document 02, P12: cong bvmul of two
    ∷ case rack (6 ∷ 0 ∷ 11 ∷ 0 ∷ 2 ∷ 0 ∷ 0 ∷ 0 ∷ 6 ∷ 0 ∷ 30 ∷ 0 ∷ 1 ∷ 0 ∷ 2 ∷ 0 ∷ 4 ∷ 0 ∷ 20 ∷ 0 ∷ 3 ∷ 0 ∷ 6 ∷ 0 ∷ 30 ∷ 0 ∷ 0 ∷ 0 ∷ 2 ∷ 0 ∷ 4 ∷ 0 ∷ 20 ∷ 0 ∷ 5 ∷ 0 ∷ 6 ∷ 0 ∷ 31 ∷ 0 ∷ 6 ∷ 0 ∷ 4 ∷ 0 ∷ 4 ∷ 0 ∷ 40 ∷ 0 ∷ 2 ∷ 0 ∷ 6 ∷ 0 ∷ 24 ∷ 0 ∷ 8 ∷ 0 ∷ 7 ∷ 0 ∷ 6 ∷ 0 ∷ 100 ∷ 0 ∷ 7 ∷ 0 ∷ 9 ∷ 0 ∷ 6 ∷ 0 ∷ 24 ∷ 0 ∷ 7 ∷ 0 ∷ 7 ∷ 0 ∷ 6 ∷ 0 ∷ 100 ∷ 0 ∷ 2 ∷ 0 ∷ 10 ∷ 0 ∷ 6 ∷ 0 ∷ 11 ∷ 0 ∷ 1 ∷ 0 ∷ 2 ∷ 0 ∷ 6 ∷ 0 ∷ 30 ∷ 0 ∷ 0 ∷ 0 ∷ 11 ∷ 0 ∷ 12 ∷ 0 ∷ 12 ∷ 0 ∷ 1 ∷ 0 ∷ 1 ∷ 0 ∷ 0 ∷ 0 ∷ 0 ∷ 0 ∷ 0 ∷ 0 ∷ 6 ∷ 0 ∷ 30 ∷ 0 ∷ 0 ∷ 0 ∷ 13 ∷ 0 ∷ 4 ∷ 0 ∷ 20 ∷ 0 ∷ 12 ∷ 0 ∷ 6 ∷ 0 ∷ 21 ∷ 0 ∷ 15 ∷ 0 ∷ 14 ∷ 0 ∷ 8 ∷ 0 ∷ 25 ∷ 0 ∷ 16 ∷ 0 ∷ 12 ∷ 0 ∷ 1 ∷ 0 ∷ 4 ∷ 0 ∷ 31 ∷ 0 ∷ 17 ∷ 0 ∷ 6 ∷ 0 ∷ 53 ∷ 0 ∷ 11 ∷ 0 ∷ 11 ∷ 0 ∷ 6 ∷ 0 ∷ 24 ∷ 0 ∷ 19 ∷ 0 ∷ 18 ∷ 0 ∷ 6 ∷ 0 ∷ 100 ∷ 0 ∷ 20 ∷ 0 ∷ 20 ∷ 0 ∷ 6 ∷ 0 ∷ 24 ∷ 0 ∷ 8 ∷ 0 ∷ 2 ∷ 0 ∷ 6 ∷ 0 ∷ 100 ∷ 0 ∷ 7 ∷ 0 ∷ 21 ∷ 0 ∷ 6 ∷ 0 ∷ 31 ∷ 0 ∷ 5 ∷ 0 ∷ 3 ∷ 0 ∷ 6 ∷ 0 ∷ 24 ∷ 0 ∷ 2 ∷ 0 ∷ 22 ∷ 0 ∷ 6 ∷ 0 ∷ 100 ∷ 0 ∷ 2 ∷ 0 ∷ 23 ∷ 0 ∷ 4 ∷ 0 ∷ 100 ∷ 0 ∷ 2 ∷ 0 ∷ 6 ∷ 0 ∷ 46 ∷ 0 ∷ 7 ∷ 0 ∷ 22 ∷ 0 ∷ 6 ∷ 0 ∷ 46 ∷ 0 ∷ 8 ∷ 0 ∷ 2 ∷ 0 ∷ 6 ∷ 0 ∷ 24 ∷ 0 ∷ 25 ∷ 0 ∷ 24 ∷ 0 ∷ 12 ∷ 0 ∷ 104 ∷ 0 ∷ 33 ∷ 0 ∷ 2 ∷ 0 ∷ 1 ∷ 0 ∷ 5 ∷ 0 ∷ 26 ∷ 0 ∷ []) 524264 6000 0 32 (answer 7 0 1 ∷ answer 2 0 1 ∷ answer 20 1 3 ∷ answer 7 16 0 ∷ answer 2 0 0 ∷ answer 2 10 0 ∷ answer 33 0 0 ∷ []) 27 0
    -- document 02, P12: back at the literal, added again at the same number
    ∷ case rack (6 ∷ 0 ∷ 11 ∷ 0 ∷ 2 ∷ 0 ∷ 0 ∷ 0 ∷ 6 ∷ 0 ∷ 30 ∷ 0 ∷ 1 ∷ 0 ∷ 2 ∷ 0 ∷ 4 ∷ 0 ∷ 20 ∷ 0 ∷ 3 ∷ 0 ∷ 6 ∷ 0 ∷ 30 ∷ 0 ∷ 0 ∷ 0 ∷ 2 ∷ 0 ∷ 4 ∷ 0 ∷ 20 ∷ 0 ∷ 5 ∷ 0 ∷ 6 ∷ 0 ∷ 31 ∷ 0 ∷ 6 ∷ 0 ∷ 4 ∷ 0 ∷ 4 ∷ 0 ∷ 40 ∷ 0 ∷ 2 ∷ 0 ∷ 6 ∷ 0 ∷ 24 ∷ 0 ∷ 8 ∷ 0 ∷ 7 ∷ 0 ∷ 6 ∷ 0 ∷ 100 ∷ 0 ∷ 7 ∷ 0 ∷ 9 ∷ 0 ∷ 6 ∷ 0 ∷ 24 ∷ 0 ∷ 7 ∷ 0 ∷ 7 ∷ 0 ∷ 6 ∷ 0 ∷ 100 ∷ 0 ∷ 2 ∷ 0 ∷ 10 ∷ 0 ∷ 6 ∷ 0 ∷ 11 ∷ 0 ∷ 1 ∷ 0 ∷ 2 ∷ 0 ∷ 6 ∷ 0 ∷ 30 ∷ 0 ∷ 0 ∷ 0 ∷ 11 ∷ 0 ∷ 12 ∷ 0 ∷ 12 ∷ 0 ∷ 1 ∷ 0 ∷ 1 ∷ 0 ∷ 0 ∷ 0 ∷ 0 ∷ 0 ∷ 0 ∷ 0 ∷ 6 ∷ 0 ∷ 30 ∷ 0 ∷ 0 ∷ 0 ∷ 13 ∷ 0 ∷ 4 ∷ 0 ∷ 20 ∷ 0 ∷ 12 ∷ 0 ∷ 6 ∷ 0 ∷ 21 ∷ 0 ∷ 15 ∷ 0 ∷ 14 ∷ 0 ∷ 8 ∷ 0 ∷ 25 ∷ 0 ∷ 16 ∷ 0 ∷ 12 ∷ 0 ∷ 1 ∷ 0 ∷ 4 ∷ 0 ∷ 31 ∷ 0 ∷ 17 ∷ 0 ∷ 6 ∷ 0 ∷ 53 ∷ 0 ∷ 11 ∷ 0 ∷ 11 ∷ 0 ∷ 6 ∷ 0 ∷ 24 ∷ 0 ∷ 19 ∷ 0 ∷ 18 ∷ 0 ∷ 6 ∷ 0 ∷ 100 ∷ 0 ∷ 20 ∷ 0 ∷ 20 ∷ 0 ∷ 6 ∷ 0 ∷ 24 ∷ 0 ∷ 8 ∷ 0 ∷ 2 ∷ 0 ∷ 6 ∷ 0 ∷ 100 ∷ 0 ∷ 7 ∷ 0 ∷ 21 ∷ 0 ∷ 6 ∷ 0 ∷ 31 ∷ 0 ∷ 5 ∷ 0 ∷ 3 ∷ 0 ∷ 6 ∷ 0 ∷ 24 ∷ 0 ∷ 2 ∷ 0 ∷ 22 ∷ 0 ∷ 6 ∷ 0 ∷ 100 ∷ 0 ∷ 2 ∷ 0 ∷ 23 ∷ 0 ∷ 4 ∷ 0 ∷ 100 ∷ 0 ∷ 2 ∷ 0 ∷ 6 ∷ 0 ∷ 24 ∷ 0 ∷ 7 ∷ 0 ∷ 8 ∷ 0 ∷ 4 ∷ 0 ∷ 101 ∷ 0 ∷ 9 ∷ 0 ∷ 6 ∷ 0 ∷ 24 ∷ 0 ∷ 8 ∷ 0 ∷ 7 ∷ 0 ∷ 6 ∷ 0 ∷ 24 ∷ 0 ∷ 7 ∷ 0 ∷ 8 ∷ 0 ∷ 10 ∷ 0 ∷ 104 ∷ 0 ∷ 31 ∷ 0 ∷ 1 ∷ 0 ∷ 1 ∷ 0 ∷ 10 ∷ 0 ∷ 6 ∷ 0 ∷ 24 ∷ 0 ∷ 8 ∷ 0 ∷ 8 ∷ 0 ∷ 12 ∷ 0 ∷ 104 ∷ 0 ∷ 32 ∷ 0 ∷ 2 ∷ 0 ∷ 1 ∷ 0 ∷ 7 ∷ 0 ∷ 11 ∷ 0 ∷ []) 524264 6000 0 35 (answer 7 0 1 ∷ answer 2 0 1 ∷ answer 20 1 3 ∷ answer 7 16 0 ∷ answer 2 0 0 ∷ answer 2 10 0 ∷ answer 31 24 0 ∷ answer 32 24 0 ∷ []) 12 0
    -- document 02, P8: width 17 of 16
    ∷ case (stated 16 1024) (6 ∷ 0 ∷ 11 ∷ 0 ∷ 17 ∷ 0 ∷ 0 ∷ 0 ∷ []) 64 64 7 0 ([]) 2 0
    -- document 02, P8: a width limit above 64 is 64
    ∷ case (stated 65 1024) (6 ∷ 0 ∷ 11 ∷ 0 ∷ 64 ∷ 0 ∷ 0 ∷ 0 ∷ 6 ∷ 0 ∷ 11 ∷ 0 ∷ 65 ∷ 0 ∷ 0 ∷ 0 ∷ []) 64 64 7 1 ([]) 3 0
    -- document 02, P8: three terms, then a new one
    ∷ case (stated 16 3) (4 ∷ 0 ∷ 10 ∷ 0 ∷ 0 ∷ 0 ∷ 4 ∷ 0 ∷ 10 ∷ 0 ∷ 1 ∷ 0 ∷ []) 64 64 8 1 ([]) 3 0
    -- document 02, P8: a repeat at the limit, then a new one
    ∷ case (stated 16 3) (4 ∷ 0 ∷ 10 ∷ 0 ∷ 0 ∷ 0 ∷ 4 ∷ 0 ∷ 10 ∷ 0 ∷ 0 ∷ 0 ∷ 4 ∷ 0 ∷ 10 ∷ 0 ∷ 1 ∷ 0 ∷ []) 64 64 8 2 ([]) 3 1
    -- document 02, P8: limits far above the rack's
    ∷ case (stated 4294967295 4294967295) (6 ∷ 0 ∷ 11 ∷ 0 ∷ 1 ∷ 0 ∷ 0 ∷ 0 ∷ 6 ∷ 0 ∷ 11 ∷ 0 ∷ 1 ∷ 0 ∷ 1 ∷ 0 ∷ 6 ∷ 0 ∷ 30 ∷ 0 ∷ 0 ∷ 0 ∷ 2 ∷ 0 ∷ 6 ∷ 0 ∷ 30 ∷ 0 ∷ 0 ∷ 0 ∷ 3 ∷ 0 ∷ 4 ∷ 0 ∷ 20 ∷ 0 ∷ 5 ∷ 0 ∷ 6 ∷ 0 ∷ 21 ∷ 0 ∷ 4 ∷ 0 ∷ 6 ∷ 0 ∷ 6 ∷ 0 ∷ 50 ∷ 0 ∷ 2 ∷ 0 ∷ 3 ∷ 0 ∷ 6 ∷ 0 ∷ 24 ∷ 0 ∷ 8 ∷ 0 ∷ 7 ∷ 0 ∷ 6 ∷ 0 ∷ 100 ∷ 0 ∷ 9 ∷ 0 ∷ 9 ∷ 0 ∷ []) 64 64 0 9 (answer 9 0 2 ∷ []) 10 0
    -- document 02, P10: the first record a second time
    ∷ case rack (2 ∷ 0 ∷ 103 ∷ 0 ∷ 2 ∷ 0 ∷ 103 ∷ 0 ∷ []) 64 64 4 1 ([]) 2 0
    -- document 02, P10: the first record with a body
    ∷ case rack (4 ∷ 0 ∷ 103 ∷ 0 ∷ 0 ∷ 0 ∷ []) 64 64 5 0 ([]) 2 0
    -- document 02, P10: an argument whose low bytes name a term
    ∷ case rack (2 ∷ 0 ∷ 103 ∷ 0 ∷ 6 ∷ 0 ∷ 20 ∷ 0 ∷ 0 ∷ 0 ∷ 1 ∷ 0 ∷ []) 64 64 6 1 ([]) 2 0
    -- document 02, P10: 23 answer bytes for two steps
    ∷ case rack (2 ∷ 0 ∷ 103 ∷ 0 ∷ 8 ∷ 0 ∷ 100 ∷ 0 ∷ 1 ∷ 0 ∷ 0 ∷ 0 ∷ 0 ∷ 0 ∷ 8 ∷ 0 ∷ 100 ∷ 0 ∷ 1 ∷ 0 ∷ 0 ∷ 0 ∷ 0 ∷ 0 ∷ []) 64 23 19 2 (answer 1 11 0 ∷ []) 2 0
    -- document 02, P10: 23 bytes of work memory: a term, a repeat, and a second
    ∷ case rack (2 ∷ 0 ∷ 103 ∷ 0 ∷ 4 ∷ 0 ∷ 10 ∷ 0 ∷ 0 ∷ 0 ∷ 4 ∷ 0 ∷ 10 ∷ 0 ∷ 0 ∷ 0 ∷ 4 ∷ 0 ∷ 10 ∷ 0 ∷ 1 ∷ 0 ∷ []) 23 64 8 3 ([]) 3 1
    -- document 02, P10: a depth has four bytes
    ∷ case rack (2 ∷ 0 ∷ 103 ∷ 0 ∷ 6 ∷ 0 ∷ 20 ∷ 0 ∷ 0 ∷ 0 ∷ 0 ∷ 0 ∷ 6 ∷ 0 ∷ 20 ∷ 0 ∷ 2 ∷ 0 ∷ 0 ∷ 0 ∷ 6 ∷ 0 ∷ 20 ∷ 0 ∷ 3 ∷ 0 ∷ 0 ∷ 0 ∷ 6 ∷ 0 ∷ 31 ∷ 0 ∷ 4 ∷ 0 ∷ 0 ∷ 0 ∷ 10 ∷ 0 ∷ 24 ∷ 0 ∷ 5 ∷ 0 ∷ 0 ∷ 0 ∷ 5 ∷ 0 ∷ 0 ∷ 0 ∷ 8 ∷ 0 ∷ 100 ∷ 0 ∷ 2 ∷ 0 ∷ 6 ∷ 0 ∷ 0 ∷ 0 ∷ []) 60 12 0 7 (answer 2 0 3 ∷ []) 7 0
    -- document 02, P10: limits far above the rack's
    ∷ case (stated 4294967295 4294967295) (2 ∷ 0 ∷ 103 ∷ 0 ∷ 6 ∷ 0 ∷ 11 ∷ 0 ∷ 1 ∷ 0 ∷ 0 ∷ 0 ∷ 6 ∷ 0 ∷ 11 ∷ 0 ∷ 1 ∷ 0 ∷ 1 ∷ 0 ∷ 8 ∷ 0 ∷ 30 ∷ 0 ∷ 0 ∷ 0 ∷ 2 ∷ 0 ∷ 0 ∷ 0 ∷ 8 ∷ 0 ∷ 30 ∷ 0 ∷ 0 ∷ 0 ∷ 3 ∷ 0 ∷ 0 ∷ 0 ∷ 6 ∷ 0 ∷ 20 ∷ 0 ∷ 5 ∷ 0 ∷ 0 ∷ 0 ∷ 10 ∷ 0 ∷ 21 ∷ 0 ∷ 4 ∷ 0 ∷ 0 ∷ 0 ∷ 6 ∷ 0 ∷ 0 ∷ 0 ∷ 10 ∷ 0 ∷ 50 ∷ 0 ∷ 2 ∷ 0 ∷ 0 ∷ 0 ∷ 3 ∷ 0 ∷ 0 ∷ 0 ∷ 10 ∷ 0 ∷ 24 ∷ 0 ∷ 8 ∷ 0 ∷ 0 ∷ 0 ∷ 7 ∷ 0 ∷ 0 ∷ 0 ∷ 8 ∷ 0 ∷ 100 ∷ 0 ∷ 9 ∷ 0 ∷ 9 ∷ 0 ∷ 0 ∷ 0 ∷ []) 96 12 0 10 (answer 9 0 2 ∷ []) 10 0
    ∷ []

pub computed : Computed cases
unfolding fold same_op same_term guard depth zip_with last clog2 ripple_carry_adder last_carry carry_out ult_from bitblast_ult slt_from slt gather add_rows shift_add_multiplier shl_bits shl_stages shr_bits shr_stages shl lshr ashr divide_step bitblast_udiv_urem_rec udiv urem select get_term_bits fold_terms add_bits concat_bits args_of literal_bits slices_verdict on_sides verdict cut shape_of read number_length feed repeat_of fault joins chain_verdict answers_to recall run_from run
computed = (refl, (refl, (refl, (refl, (refl, (refl, (refl, (refl, (refl, (refl, (refl, (refl, (refl, (refl, (refl, (refl, (refl, (refl, (refl, (refl, (refl, (refl, (refl, (refl, (refl, (refl, (refl, (refl, (refl, (refl, (refl, (refl, (refl, (refl, (refl, (refl, (refl, (refl, (refl, (refl, tt))))))))))))))))))))))))))))))))))))))))
