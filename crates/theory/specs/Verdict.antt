-- Document 01, "Codes": what a step can be answered, and the code of each.
use Rattle.std.specs.Prelude.{Bool, true, false, ℕ}

-- 0, 1 accepted; 10 to 17 refused, and 24 of a chain
pub data Verdict : Type 0 where
  held form_only : Verdict
  not_one_literal wrong_form not_bit_vector not_constant bit_not_literal other_value terms_differ index_not_next premise_broken : Verdict

-- document 01's number of each
abbrev pub code_of : Verdict → ℕ
code_of held = 0
code_of form_only = 1
code_of not_one_literal = 10
code_of wrong_form = 11
code_of not_bit_vector = 12
code_of not_constant = 13
code_of bit_not_literal = 14
code_of other_value = 15
code_of terms_differ = 16
code_of index_not_next = 17
code_of premise_broken = 24

-- the step is accepted: its claim is what the rule expects
abbrev pub accepted : Verdict → Bool
accepted held = true
accepted form_only = true
accepted not_one_literal = false
accepted wrong_form = false
accepted not_bit_vector = false
accepted not_constant = false
accepted bit_not_literal = false
accepted other_value = false
accepted terms_differ = false
accepted index_not_next = false
accepted premise_broken = false
