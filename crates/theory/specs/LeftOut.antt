-- The three tests of bitvectors.rs that Rule leaves out, because they cannot fail on a well-sorted literal (= l r).
use Rattle.std.specs.Prelude.{◌≡◌, List, [], ◌∷◌, map, ℕ, length, get_or}
use Rattle.std.specs.Prelude.{Some as some}
use Rattle.theory.specs.Kind.{True, Equals, BvBbTerm, BvConcat, BvAnd, kind}
use Rattle.theory.specs.Term.{Term, Terms, node, nil, to_list, two}
use Rattle.theory.specs.Sort.{bool, sum_widths, sort_of, sort_width}
use Rattle.theory.specs.Verdict.{held}
use Rattle.theory.specs.Rule.{args_of, index_of, constant_kind, slices_verdict}

-- rule 1: as many bits as the constant's width
abbrev pub ValueSize : Type 0
ValueSize = (l r : Term) → sort_of (two Equals l r) ≡ bool → (ts bits : List Term)
    → args_of constant_kind l ≡ some ts → args_of (kind BvBbTerm) r ≡ some bits
    → index_of 0 l ≡ length bits

-- rule 16: as many bits as the arguments' widths together
abbrev pub ConcatSize : Type 0
ConcatSize = (l r : Term) → sort_of (two Equals l r) ≡ bool → (ts bits : List Term)
    → args_of (kind BvConcat) l ≡ some ts → args_of (kind BvBbTerm) r ≡ some bits
    → length bits ≡ sum_widths (map sort_of ts)

-- the lower index of a slice: of the first of the two parts
abbrev pub low_index : Term → ℕ
low_index (node o ts) = index_of 1 (get_or (to_list ts) 0 (node True nil))

-- the lowest index after all slices
abbrev pub lowest : ℕ → List Term → ℕ
lowest done [] = done
lowest done (s ∷ ss) = lowest (low_index s) ss

-- rule 23: the slices cover all bits, down to 0
abbrev pub Covered : Type 0
Covered = (a c : Term) (us : Terms) → sort_of (two Equals (two BvAnd a c) (node BvConcat us)) ≡ bool
    → slices_verdict a c (sort_width (sort_of c)) (to_list us) ≡ held → lowest (sort_width (sort_of c)) (to_list us) ≡ 0
