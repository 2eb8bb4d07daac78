-- Document 01, "The job": the 23 rules and their numbers; and those after them: three by the standard, four that move bits.
-- Document 02, P12: the three rules of a chain and theirs.
use Rattle.std.specs.Prelude.{cond, List, [], ◌∷◌, ℕ, zero, suc, ◌-◌, leb}
use Rattle.std.specs.Prelude.{Option, None as none}
use Rattle.std.specs.Prelude.{slice_get as get_elem?}

-- document 01 names them value, var, and, or, ..; `standard`: the circuit whose value is the standard's
pub data Rule : Type 0 where
  by_value by_var by_and by_or by_xor by_xnor by_not by_ult by_slt by_add by_mult by_neg : Rule
  by_equality by_comp by_extract by_concat by_sign_extend by_shl by_lshr by_ashr by_udiv by_urem by_bitwise_slicing : Rule
  by_udiv_standard by_urem_standard by_ashr_standard : Rule
  by_zero_extend by_rotate_left by_rotate_right by_repeat : Rule

-- rules 1 to 30, in this order
abbrev pub rules : List Rule
rules =
    by_value ∷ by_var ∷ by_and ∷ by_or ∷ by_xor ∷ by_xnor ∷ by_not ∷ by_ult ∷ by_slt ∷ by_add ∷ by_mult ∷ by_neg
    ∷ by_equality ∷ by_comp ∷ by_extract ∷ by_concat ∷ by_sign_extend ∷ by_shl ∷ by_lshr ∷ by_ashr ∷ by_udiv ∷ by_urem ∷ by_bitwise_slicing
    ∷ by_udiv_standard ∷ by_urem_standard ∷ by_ashr_standard
    ∷ by_zero_extend ∷ by_rotate_left ∷ by_rotate_right ∷ by_repeat ∷ []

-- the rule of a number, counted from 1
abbrev pub rule_at : ℕ → Option Rule
rule_at zero = none
rule_at (suc k) = get_elem? rules k

-- ---- the rules that join steps into a chain
-- Alethe's symm, trans and cong
pub data ChainRule : Type 0 where
  by_symm by_trans by_cong : ChainRule

-- the number of the first of them
abbrev pub first_chain_rule : ℕ
first_chain_rule = 31

-- rules 31 to 33, in this order
abbrev pub chain_rules : List ChainRule
chain_rules = by_symm ∷ by_trans ∷ by_cong ∷ []

-- the rule of a number, counted from 31
abbrev pub chain_rule_at : ℕ → Option ChainRule
chain_rule_at n = cond (leb first_chain_rule n) (get_elem? chain_rules (n - first_chain_rule)) none
