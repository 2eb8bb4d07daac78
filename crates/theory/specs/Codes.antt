-- Document 01, "Codes": what stops the job at a whole record. Codes 4 to 9, 18 and 19, in their order;
-- code 3 is in Record (`ending`), code 2 in Job. Codes 7 and 8 are under limits that the caller states (document 02, P8);
-- codes 4 and 5 know the first record of a job with long numbers (P10).
use Rattle.std.specs.Prelude.{Bool, true, false, ◌&&◌, ◌||◌, cond, List, [], ◌∷◌, ℕ, suc, ◌-◌, ◌*◌, eqb, leb, ltb, length}
use Rattle.std.specs.Prelude.{Option}
use Rattle.theory.specs.Limit.{Limits, capped, first_terms, term_bytes, answer_bytes}
use Rattle.theory.specs.Term.{Term}
use Rattle.theory.specs.Sort.{good, sort_width, sort_of}
use Rattle.theory.specs.Optional.{is_some, either}
use Rattle.theory.specs.RuleTable.{rule_at, chain_rule_at}
use Rattle.theory.specs.Record.{Bytes, kind_of, body_of, Item, term, step, chain, back, unknown, misfit, read, long_kind}
use Rattle.theory.specs.Plain.{Plain, term_of, has}

-- tests in their order, each with the code where it fails
abbrev pub first_fault : List (Bool × ℕ) → ℕ
first_fault [] = 0
first_fault (t ∷ ts) = cond t.0 (first_fault ts) t.1

-- each number is below n
abbrev pub all_below : ℕ → List ℕ → Bool
all_below n [] = true
all_below n (k ∷ ks) = ltb k n && all_below n ks

-- sorts, widths, indices and values fit, and a bit-vector's width its limit
abbrev pub well_sorted : Limits → Option Term → Bool
well_sorted limits = either false (λ t. good (sort_of t) && leb (sort_width (sort_of t)) limits.width)

-- one more term has its bytes of work memory and a number; `true` and `false` are free
abbrev pub room : ℕ → Limits → ℕ → Plain → Bool
room b limits work list = leb (term_bytes b * (suc (length list) - first_terms)) work && ltb (length list) limits.terms

-- the tests of a step of either kind, where that many terms are kept; `known` says that it has such a rule, `space` is the bytes lent for
-- answers, `answered` the answers written so far
abbrev pub step_tests : ℕ → ℕ → ℕ → ℕ → Bool → List ℕ → List (Bool × ℕ)
step_tests b terms space answered known ks =
    (all_below terms ks, 6) ∷ (known, 9) ∷ (leb (answer_bytes b * suc answered) space, 19) ∷ []

-- the tests of a record whose kind says no term, no step and no back: it is the job's first and asks for long numbers, and it has no body
abbrev pub opening_tests : ℕ → Bytes → List (Bool × ℕ)
opening_tests place r = (eqb place 0 && eqb (kind_of r) long_kind, 4) ∷ (eqb (length (body_of r)) 0, 5) ∷ []

-- the tests of a record before which `place` records stand; `limits` are as the caller states them, `work` is the bytes lent for terms
abbrev pub tests : ℕ → ℕ → Limits → ℕ → ℕ → Plain → ℕ → Bytes → Item → List (Bool × ℕ)
tests place b limits work space list answered r unknown = opening_tests place r
tests place b limits work space list answered r misfit = (false, 5) ∷ []
tests place b limits work space list answered r (term o ks) =
    (all_below (length list) ks, 6) ∷ (well_sorted (capped b limits) (term_of list o ks), 7)
    ∷ (has list r || room b (capped b limits) work list, 8) ∷ []
tests place b limits work space list answered r (step n ks) = step_tests b (length list) space answered (is_some (rule_at n)) ks
tests place b limits work space list answered r (chain n ps k) =
    step_tests b (length list) space answered (is_some (chain_rule_at n)) (k ∷ [])
tests place b limits work space list answered r (back n) = (leb first_terms n && leb n (length list), 18) ∷ []

-- the code that stops the job at record r, before which `place` records stand, or 0; the numbers of terms have b bytes
unfoldable pub fault : ℕ → ℕ → Limits → ℕ → ℕ → Plain → ℕ → Bytes → ℕ
fault place b limits work space list answered r = first_fault (tests place b limits work space list answered r (read b r))
