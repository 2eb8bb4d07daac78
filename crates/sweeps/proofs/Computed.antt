-- Small calls, computed: each comes to what an independent reading of document 02 gives.
use mathlib.Core.Path.{◌≡◌, refl}
use mathlib.Core.Bool.{true}
use mathlib.Core.List.{List, [], ◌∷◌, ◌++◌}
use Prim.Native.Nat.{ℕ, ◌*◌}
use lib.ListN.{length}
use Rattle.theory.specs.Kind.{BoolVar, BvVar}
use Rattle.theory.specs.Term.{Term, node, nil, fold, same_op, same_term}
use Rattle.theory.specs.Sort.{guard}
use Rattle.theory.specs.Value.{not_n, neg_n, and_n, or_n, xor_n, xnor_n, add_n, mul_n, shl_n, lshr_n, top_copies, ashr_n, udiv_n, urem_n, signed, rotate_left_n, rotate_right_n, meaning}
use Rattle.theory.specs.Depth.{depth}
use Rattle.theory.specs.Circuit.{zip_with, last, clog2, ripple_carry_adder, last_carry, ult_from, bitblast_ult, slt_from, slt}
use Rattle.theory.specs.Bits.{select, get_term_bits, fold_terms, add_bits, concat_bits}
use Rattle.theory.specs.Rule.{args_of, literal_bits, slices_verdict, on_sides, verdict}
use Rattle.theory.specs.Record.{Bytes, cut, shape_of, read, number_length}
use Rattle.theory.specs.Plain.{feed}
use Rattle.theory.specs.Codes.{fault}
use Rattle.theory.specs.Job.{answers_to, run_from, run}
use Rattle.sweeps.specs.Variables.{stands, assignment}
use Rattle.sweeps.specs.Known.{and_known, or_known, known_op, bit_level}
use Rattle.sweeps.specs.Calls.{sweep, count, known_bits}

-- a job, the lent bytes of work memory, answers and value buffer, the number asked for, and what the call comes to
abbrev sweeps : Bytes → ℕ → ℕ → ℕ → ℕ → ℕ → ℕ → ℕ → Type 0
sweeps bytes work space values number code assignments differing =
    sweep bytes work space values number ≡ record { code = code; assignments = assignments; differing = differing }

abbrev count_case : Bytes → ℕ → ℕ → ℕ → ℕ → ℕ → ℕ → List ℕ → Type 0
count_case bytes work space values number run_length code counts =
    count bytes work space values number run_length ≡ record { code = code; counts = counts }

abbrev known_case : Bytes → ℕ → ℕ → ℕ → ℕ → Bytes → ℕ → ℕ → Bytes → Type 0
known_case bytes work space values number inputs output code out =
    known_bits bytes work space values number inputs output ≡ record { code = code; bytes = out }

-- each number in two bytes, the lower first
abbrev wide : List ℕ → Bytes
wide [] = []
wide (x ∷ xs) = x ∷ 0 ∷ wide xs

-- a job by its records, each its kind and the numbers after it, all below 256
abbrev job : List (List ℕ) → Bytes
job [] = []
job (ws ∷ rs) = wide (2 * length ws ∷ ws) ++ job rs

-- document 01's job
abbrev job_01 : Bytes
job_01 = job ((11 ∷ 1 ∷ 0 ∷ []) ∷ (11 ∷ 1 ∷ 1 ∷ []) ∷ (30 ∷ 0 ∷ 2 ∷ []) ∷ (30 ∷ 0 ∷ 3 ∷ []) ∷ (20 ∷ 5 ∷ []) ∷ (21 ∷ 4 ∷ 6 ∷ []) ∷ (50 ∷ 2 ∷ 3 ∷ []) ∷ (24 ∷ 8 ∷ 7 ∷ []) ∷ (100 ∷ 9 ∷ 9 ∷ []) ∷ [])

-- two variables of width 2, the second declared first, and their sum
abbrev two_added : Bytes
two_added = job ((11 ∷ 2 ∷ 1 ∷ []) ∷ (11 ∷ 2 ∷ 0 ∷ []) ∷ (45 ∷ 3 ∷ 2 ∷ []) ∷ [])

-- three Bool variables, 2 to 4, and a term over them
abbrev three_bools : List ℕ → Bytes
three_bools t = job ((10 ∷ 0 ∷ []) ∷ (10 ∷ 1 ∷ []) ∷ (10 ∷ 2 ∷ []) ∷ t ∷ [])

-- a variable v of width 3, a Bool p, the constant 9, and the BvBbTerm of v's bits 1, 2 and 0, p And `false`, bits 3 and 1 of the constant
abbrev mixed : Bytes
mixed =
    job ((11 ∷ 3 ∷ 0 ∷ []) ∷ (10 ∷ 0 ∷ []) ∷ (30 ∷ 1 ∷ 2 ∷ []) ∷ (30 ∷ 2 ∷ 2 ∷ []) ∷ (30 ∷ 0 ∷ 2 ∷ []) ∷ (21 ∷ 3 ∷ 1 ∷ []) ∷ (12 ∷ 4 ∷ 9 ∷ 0 ∷ 0 ∷ 0 ∷ []) ∷ (30 ∷ 3 ∷ 8 ∷ []) ∷ (30 ∷ 1 ∷ 8 ∷ []) ∷ (31 ∷ 4 ∷ 5 ∷ 6 ∷ 7 ∷ 9 ∷ 10 ∷ []) ∷ [])

-- a number of width 2, and a Bool after it
abbrev two_variables : List Term
two_variables = node (BvVar 2 0) nil ∷ node (BoolVar 3) nil ∷ []

abbrev Computed : Type 0
Computed =
    -- document 01's job
    sweeps job_01 4000 100 80 9 0 4 0
    -- not an Equals
    × sweeps job_01 4000 100 80 8 20 0 0
    -- no such term
    × sweeps job_01 4000 100 80 10 20 0 0
    -- value buffer one byte short
    × sweeps job_01 4000 100 79 9 21 0 0
    -- stops early
    × sweeps (job_01 ++ (job ((99 ∷ []) ∷ []))) 4000 100 80 9 20 0 0
    -- two Bools kept, one stands
    × sweeps (job ((10 ∷ 0 ∷ []) ∷ (10 ∷ 1 ∷ []) ∷ (24 ∷ 2 ∷ 2 ∷ []) ∷ [])) 4000 100 40 4 0 2 0
    -- no variable
    × sweeps (job ((24 ∷ 0 ∷ 0 ∷ []) ∷ [])) 4000 100 24 2 0 1 0
    -- 17 bits
    × sweeps (job ((10 ∷ 0 ∷ []) ∷ (10 ∷ 1 ∷ []) ∷ (10 ∷ 2 ∷ []) ∷ (10 ∷ 3 ∷ []) ∷ (10 ∷ 4 ∷ []) ∷ (10 ∷ 5 ∷ []) ∷ (10 ∷ 6 ∷ []) ∷ (10 ∷ 7 ∷ []) ∷ (10 ∷ 8 ∷ []) ∷ (10 ∷ 9 ∷ []) ∷ (10 ∷ 10 ∷ []) ∷ (10 ∷ 11 ∷ []) ∷ (10 ∷ 12 ∷ []) ∷ (10 ∷ 13 ∷ []) ∷ (10 ∷ 14 ∷ []) ∷ (10 ∷ 15 ∷ []) ∷ (10 ∷ 16 ∷ []) ∷ (21 ∷ 2 ∷ 3 ∷ 4 ∷ 5 ∷ 6 ∷ 7 ∷ 8 ∷ 9 ∷ 10 ∷ 11 ∷ 12 ∷ 13 ∷ 14 ∷ 15 ∷ 16 ∷ 17 ∷ 18 ∷ []) ∷ (24 ∷ 19 ∷ 19 ∷ []) ∷ [])) 4000 100 168 20 20 0 0
    -- a sum and a wrong sum
    × sweeps (job ((11 ∷ 2 ∷ 1 ∷ []) ∷ (11 ∷ 2 ∷ 0 ∷ []) ∷ (43 ∷ 3 ∷ 2 ∷ []) ∷ (45 ∷ 3 ∷ 2 ∷ []) ∷ (24 ∷ 5 ∷ 4 ∷ []) ∷ [])) 4000 100 56 6 0 16 7
    -- slt and ult
    × sweeps (job ((11 ∷ 2 ∷ 1 ∷ []) ∷ (11 ∷ 2 ∷ 0 ∷ []) ∷ (49 ∷ 3 ∷ 2 ∷ []) ∷ (50 ∷ 3 ∷ 2 ∷ []) ∷ (24 ∷ 5 ∷ 4 ∷ []) ∷ [])) 4000 100 56 6 0 16 8
    -- a Bool above a number
    × sweeps (job ((11 ∷ 2 ∷ 0 ∷ []) ∷ (30 ∷ 0 ∷ 2 ∷ []) ∷ (10 ∷ 3 ∷ []) ∷ (22 ∷ 4 ∷ 3 ∷ []) ∷ (30 ∷ 1 ∷ 2 ∷ []) ∷ (25 ∷ 4 ∷ 6 ∷ 0 ∷ []) ∷ (24 ∷ 7 ∷ 5 ∷ []) ∷ [])) 4000 100 72 8 0 8 4
    -- ashr and urem
    × sweeps (job ((11 ∷ 2 ∷ 1 ∷ []) ∷ (11 ∷ 2 ∷ 0 ∷ []) ∷ (55 ∷ 3 ∷ 2 ∷ []) ∷ (53 ∷ 3 ∷ 2 ∷ []) ∷ (24 ∷ 5 ∷ 4 ∷ []) ∷ [])) 4000 100 56 6 0 16 8
    -- concat and extract
    × sweeps (job ((11 ∷ 2 ∷ 1 ∷ []) ∷ (57 ∷ 1 ∷ 0 ∷ 2 ∷ []) ∷ (58 ∷ 1 ∷ 3 ∷ []) ∷ (11 ∷ 1 ∷ 0 ∷ []) ∷ (56 ∷ 5 ∷ 2 ∷ []) ∷ (24 ∷ 6 ∷ 4 ∷ []) ∷ [])) 4000 100 64 7 0 8 4
    -- a repetition and a zero extension; the two rotations
    × sweeps (job ((11 ∷ 1 ∷ 0 ∷ []) ∷ (63 ∷ 2 ∷ 2 ∷ []) ∷ (60 ∷ 1 ∷ 2 ∷ []) ∷ (24 ∷ 3 ∷ 4 ∷ []) ∷ [])) 4000 100 48 5 0 2 1
    × sweeps (job ((11 ∷ 3 ∷ 0 ∷ []) ∷ (61 ∷ 1 ∷ 2 ∷ []) ∷ (62 ∷ 1 ∷ 2 ∷ []) ∷ (24 ∷ 3 ∷ 4 ∷ []) ∷ [])) 4000 100 48 5 0 8 6
    -- assignment 5 of a number of width 2 and a Bool after it
    × ((assignment two_variables 5).number_at 2 0 ≡ 1)
    × ((assignment two_variables 5).bool_at 3 ≡ true)
    -- a sum
    × count_case two_added 4000 100 40 4 256 0 (4 ∷ 4 ∷ 4 ∷ 4 ∷ [])
    -- run of three
    × count_case two_added 4000 100 40 4 3 22 []
    -- both too short
    × count_case two_added 4000 100 3 4 3 21 []
    -- an And
    × count_case (job ((11 ∷ 2 ∷ 7 ∷ []) ∷ (30 ∷ 0 ∷ 2 ∷ []) ∷ (10 ∷ 1 ∷ []) ∷ (10 ∷ 0 ∷ []) ∷ (21 ∷ 5 ∷ 4 ∷ 3 ∷ []) ∷ [])) 4000 100 56 6 256 0 (14 ∷ 2 ∷ [])
    -- true
    × count_case [] 4000 100 16 0 256 0 (0 ∷ 1 ∷ [])
    -- width 9
    × count_case (job ((11 ∷ 9 ∷ 0 ∷ []) ∷ (40 ∷ 2 ∷ []) ∷ [])) 4000 100 32 3 256 20 []
    -- And: 0 if an argument is 0
    × known_case (three_bools (21 ∷ 2 ∷ 3 ∷ 4 ∷ [])) 4000 100 48 5 (2 ∷ 2 ∷ 0 ∷ []) 1 0 (0 ∷ [])
    -- 1 if all are 1
    × known_case (three_bools (21 ∷ 2 ∷ 3 ∷ 4 ∷ [])) 4000 100 48 5 (1 ∷ 1 ∷ 1 ∷ []) 1 0 (1 ∷ [])
    -- else not known
    × known_case (three_bools (21 ∷ 2 ∷ 3 ∷ 4 ∷ [])) 4000 100 48 5 (1 ∷ 1 ∷ 2 ∷ []) 1 0 (2 ∷ [])
    -- Or, the mirror of it
    × known_case (three_bools (22 ∷ 2 ∷ 3 ∷ 4 ∷ [])) 4000 100 48 5 (2 ∷ 1 ∷ 0 ∷ []) 1 0 (1 ∷ [])
    × known_case (three_bools (22 ∷ 2 ∷ 3 ∷ 4 ∷ [])) 4000 100 48 5 (0 ∷ 0 ∷ 0 ∷ []) 1 0 (0 ∷ [])
    × known_case (three_bools (22 ∷ 2 ∷ 3 ∷ 4 ∷ [])) 4000 100 48 5 (0 ∷ 2 ∷ 0 ∷ []) 1 0 (2 ∷ [])
    -- Not
    × known_case (three_bools (20 ∷ 4 ∷ [])) 4000 100 48 5 (2 ∷ []) 1 0 (2 ∷ [])
    × known_case (three_bools (20 ∷ 4 ∷ [])) 4000 100 48 5 (0 ∷ []) 1 0 (1 ∷ [])
    -- Xor
    × known_case (three_bools (23 ∷ 4 ∷ 2 ∷ [])) 4000 100 48 5 (1 ∷ 2 ∷ []) 1 0 (2 ∷ [])
    × known_case (three_bools (23 ∷ 4 ∷ 2 ∷ [])) 4000 100 48 5 (1 ∷ 0 ∷ []) 1 0 (1 ∷ [])
    -- Equals of a term that is not known with itself
    × known_case (three_bools (24 ∷ 3 ∷ 3 ∷ [])) 4000 100 48 5 (2 ∷ []) 1 0 (2 ∷ [])
    × known_case (three_bools (24 ∷ 3 ∷ 4 ∷ [])) 4000 100 48 5 (0 ∷ 0 ∷ []) 1 0 (1 ∷ [])
    -- Ite: the chosen branch
    × known_case (three_bools (25 ∷ 2 ∷ 3 ∷ 4 ∷ [])) 4000 100 48 5 (1 ∷ 0 ∷ 2 ∷ []) 1 0 (0 ∷ [])
    × known_case (three_bools (25 ∷ 2 ∷ 3 ∷ 4 ∷ [])) 4000 100 48 5 (0 ∷ 2 ∷ 1 ∷ []) 1 0 (1 ∷ [])
    -- what both branches share
    × known_case (three_bools (25 ∷ 2 ∷ 3 ∷ 4 ∷ [])) 4000 100 48 5 (2 ∷ 1 ∷ 1 ∷ []) 1 0 (1 ∷ [])
    × known_case (three_bools (25 ∷ 2 ∷ 3 ∷ 4 ∷ [])) 4000 100 48 5 (2 ∷ 1 ∷ 0 ∷ []) 1 0 (2 ∷ [])
    -- the bits of a constant, of variables and of gates; the variable with the lowest number first, bit 0 first
    × known_case mixed 4000 100 96 11 (1 ∷ 2 ∷ 0 ∷ 2 ∷ []) 6 0 (2 ∷ 0 ∷ 1 ∷ 0 ∷ 1 ∷ 0 ∷ [])
    -- 20 before 21
    × known_case mixed 4000 100 95 12 (1 ∷ 2 ∷ 0 ∷ 2 ∷ []) 6 20 []
    -- 21 before 23
    × known_case mixed 4000 100 95 11 (1 ∷ 2 ∷ 0 ∷ []) 6 21 []
    -- a byte too few, a byte too many
    × known_case mixed 4000 100 96 11 (1 ∷ 2 ∷ 0 ∷ []) 6 23 []
    × known_case mixed 4000 100 96 11 (1 ∷ 2 ∷ 0 ∷ 2 ∷ 0 ∷ []) 6 23 []
    -- a byte above 2
    × known_case mixed 4000 100 96 11 (1 ∷ 3 ∷ 0 ∷ 2 ∷ []) 6 23 []
    -- an output that is too short
    × known_case mixed 4000 100 96 11 (1 ∷ 2 ∷ 0 ∷ 2 ∷ []) 5 23 []
    -- Equals of bit-vectors
    × known_case (job ((11 ∷ 1 ∷ 0 ∷ []) ∷ (24 ∷ 2 ∷ 2 ∷ []) ∷ [])) 4000 100 32 3 (1 ∷ []) 1 23 []
    -- an operation on bit-vectors, also below other terms
    × known_case (job ((11 ∷ 1 ∷ 0 ∷ []) ∷ (61 ∷ 0 ∷ 2 ∷ []) ∷ (30 ∷ 0 ∷ 3 ∷ []) ∷ (21 ∷ 1 ∷ 4 ∷ []) ∷ [])) 4000 100 48 5 (1 ∷ []) 1 23 []
    -- more than 16 bits
    × known_case (job ((11 ∷ 17 ∷ 0 ∷ []) ∷ [])) 4000 100 24 2 (1 ∷ 0 ∷ 1 ∷ 0 ∷ 1 ∷ 0 ∷ 1 ∷ 0 ∷ 1 ∷ 0 ∷ 1 ∷ 0 ∷ 1 ∷ 0 ∷ 1 ∷ 0 ∷ 2 ∷ []) 17 0 (1 ∷ 0 ∷ 1 ∷ 0 ∷ 1 ∷ 0 ∷ 1 ∷ 0 ∷ 1 ∷ 0 ∷ 1 ∷ 0 ∷ 1 ∷ 0 ∷ 1 ∷ 0 ∷ 2 ∷ [])

pub computed : Computed
unfolding fold same_op same_term guard not_n neg_n and_n or_n xor_n xnor_n add_n mul_n shl_n lshr_n top_copies ashr_n udiv_n urem_n signed rotate_left_n rotate_right_n meaning depth zip_with last clog2 ripple_carry_adder last_carry ult_from bitblast_ult slt_from slt select get_term_bits fold_terms add_bits concat_bits args_of literal_bits slices_verdict on_sides verdict cut shape_of read number_length feed fault answers_to run_from run stands assignment sweep count and_known or_known known_op bit_level known_bits
computed = (refl, refl, refl, refl, refl, refl, refl, refl, refl, refl, refl, refl, refl, refl, refl, refl, refl, refl, refl, refl, refl, refl, refl, refl, refl, refl, refl, refl, refl, refl, refl, refl, refl, refl, refl, refl, refl, refl, refl, refl, refl, refl, refl, refl, refl, refl, refl, refl, refl)
