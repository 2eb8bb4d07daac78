-- The numbers of the store's terms: circuits of numbers are the numbers of circuits, and the last test of a rule.
use mathlib.Core.Path.{◌≡◌, sym, ap, ap₂, subst, ◌∙◌}
use mathlib.Core.Bool.{Bool, true, false, cond}
use mathlib.Core.List.{List, map}
use Prim.Native.Nat.{ℕ, ◌+◌, ◌<◌, ◌≤◌}
use native.Mathlib.Omega.{arith}
use lib.Dec.{T, eqb, eqb→eq, leb, leb→le}
use lib.Ieee.Fits.{and_l, and_r}
use lib.ListN.{length, length-map}
use Rattle.theory.specs.Limit.{first_terms}
use Rattle.theory.specs.Kind.{Op, False, BvBbTerm, kind}
use Rattle.theory.specs.Term.{Term, Terms, node, nil, same_term, fold, to_list, from_list}
use Rattle.theory.specs.Sort.{Sort, bad, bool, bv, sort_width, sort_of}
use Rattle.theory.specs.Value.{value, truth}
use Rattle.theory.specs.Specimen.{x_and_y}
use Rattle.theory.specs.Gates.{term_gates}
use Rattle.theory.specs.Bits.{get_term_bits, select, bb, literally_false}
use Rattle.theory.specs.Move.{bits}
use Rattle.theory.specs.Record.{Bytes, number_length}
use Rattle.theory.specs.Codes.{all_below}
use Rattle.theory.specs.Verdict.{Verdict, terms_differ}
use Rattle.theory.specs.Rule.{compare}
use Rattle.theory.proofs.Natural.{Hom}
use Rattle.theory.proofs.Same.{same_eq, eq_same}
use Rattle.theory.proofs.Distinct.{tree_1}
use Rattle.theory.proofs.Sorts.{sized, sorts_sized}
use Rattle.theory.proofs.Blast.{bits_of, to_from_list}
use Rattle.theory.proofs.Places.{tree_at, tree_of, more_below}
use Rattle.terms.specs.declared.Args.{Args}
use Rattle.terms.specs.declared.Term.{Term as Decoded}
use Rattle.terms.specs.declared.Term.TheVariants as D
use Rattle.terms.specs.Decoded.{op_of, arguments_of, words_in}
use Rattle.rows.specs.Rows.{kept}
use Rattle.rows.proofs.RowLaws.{link_holds, link_back}
use Rattle.store.specs.Numbers.{numbers, bit_number, bb_number, is_false_number}
use Rattle.store.specs.declared.gates.Kept.{Kept}
use Rattle.store.specs.Lookup.{gates}
use Rattle.store.specs.Kept.{IsTermAt, kept_terms, kept_term, kept_bits, kept_number}
use Rattle.store.proofs.Keeping.{store_of}
use Rattle.store.proofs.Lookup.{Few, number_hom, number_exact, bb_hom}
use Rattle.store.proofs.Claims.{own_numbers, select_numbers, compare_number}
use Rattle.operand_rules.specs.Rules.{Operand, BitsOf}
use Rattle.theory.proofs.Basics.{true_T, T_same}

-- the width of a bit-vector is 1 to 64
pub sized_bv : (s : Sort) (w : ℕ) → T (sized s) → s ≡ bv w → (1 ≤ w) × (w ≤ 64)
sized_bv s w h e = let k = subst (λ (x : Sort). T (sized x)) e h in (leb→le 1 w (and_l (leb 1 w) (leb w 64) k), leb→le w 64 (and_r (leb 1 w) (leb w 64) k))

abbrev is_bv_number : Sort → ℕ
is_bv_number bad = 0
is_bv_number bool = 0
is_bv_number (bv n) = 1

-- ---- the bits of the term at a place
-- a term that is no BvBbTerm
pub other_bits : (u : Term) (o : Op) (ts : Terms) → u ≡ node o ts → eqb (kind o) (kind BvBbTerm) ≡ false → get_term_bits u ≡ select u 0 (sort_width (sort_of u))
unfolding get_term_bits
other_bits u o ts e d =
    ap get_term_bits e
    ∙ ap (λ (b : Bool). cond b (to_list ts) (select (node o ts) 0 (sort_width (sort_of (node o ts))))) d
    ∙ ap (λ (x : Term). select x 0 (sort_width (sort_of x))) (sym e)

-- a BvBbTerm: as many bits as arguments
pub bb_bits : (us : List Term) → get_term_bits (bb us) ≡ us
unfolding get_term_bits
bb_bits us = to_from_list us

pub few : (k : Kept) → Few (number_length k.lookup.job.now) (kept_terms k)
few k =
    let c = (store_of k).count in
    let r = (store_of k).table.rows in
    let f = link_holds (number_length k.lookup.job.now) _ r.few in
    record { length_b = link_back r.link_length; count = omega arith }

pub there : (k : Kept) → {x : ℕ} → x < first_terms + k.lookup.rows → x < length (kept_terms k)
there k h = let c = (store_of k).count in omega arith

pub widths : {k : Kept} {x w : ℕ} → Operand k x w → (1 ≤ w) × (w ≤ 64)
widths {k} {x} {w} o = sized_bv (sort_of (kept_term k x)) w (sorts_sized (kept_term k x)) o.sort

pub operand_as : {k : Kept} {x v w : ℕ} → Operand k x w → v ≡ w → Operand k x v
operand_as {k} {x} o e = subst (λ (u : ℕ). Operand k x u) (sym e) o

-- looking gates up respects the gates
pub store_hom : (k : Kept) → Hom term_gates (gates k.lookup) (kept_number k)
store_hom k = subst (λ (rs : List Bytes). Hom term_gates (numbers (number_length k.lookup.job.now) rs) (kept_number k)) (store_of k).records_are (number_hom (kept_terms k) (store_of k).well (few k))

-- the divider's test: the term `false` has the number 1
pub false_test : (k : Kept) → (t : Term) → literally_false t ≡ is_false_number (kept_number k t)
false_test k t =
    let e : kept_term k 1 ≡ node False nil = tree_1 (kept_terms k) (store_of k).well in
    let g = number_exact (kept_terms k) (store_of k).well (few k) 1 (there k (omega arith)) t in
    T_same (same_term t (node False nil)) (eqb (kept_number k t) 1)
    (λ h. subst (λ (k : ℕ). T (eqb k 1)) (sym (g.1 (e ∙ sym (same_eq t (node False nil) h)))) tt)
    (λ h. eq_same t (node False nil) (sym (g.0 (eqb→eq (kept_number k t) 1 h)) ∙ e))

-- THE LAST TEST of a rule: e is the number of the expected term
pub ends : (ok : Verdict) → (k : Kept) → {v : Verdict} {claim e : ℕ} → claim < first_terms + k.lookup.rows → (t : Term) → e ≡ kept_number k t
    → v ≡ cond (eqb e claim) ok terms_differ → v ≡ compare ok t (kept_term k claim)
ends ok k {v} {claim} h t d c =
    c ∙ ap (λ (k : ℕ). cond (eqb k claim) ok terms_differ) d ∙ sym (compare_number (kept_terms k) (store_of k).well (few k) ok t claim (there k h))

-- where a term of bits is expected, and bs are the numbers of these
pub bits_end : (ok : Verdict) → (k : Kept) → {v : Verdict} {claim : ℕ} {bs : List ℕ} → claim < first_terms + k.lookup.rows → (ts : List Term) → bs ≡ map (kept_number k) ts
    → v ≡ cond (eqb (bb_number (number_length k.lookup.job.now) (kept k.lookup.job.now k.lookup.work.now k.lookup.rows) bs) claim) ok terms_differ → v ≡ compare ok (bb ts) (kept_term k claim)
bits_end ok k h ts d =
    ends ok k h (bb ts)
    (ap₂ (bb_number (number_length k.lookup.job.now)) (sym (store_of k).records_are) d ∙ sym (bb_hom (kept_terms k) (store_of k).well (few k) ts))

pub selected : {k : Kept} {p w : ℕ} {t : Decoded} {xs : List ℕ} → Operand k p w → IsTermAt k p t → eqb (kind (op_of t)) (kind BvBbTerm) ≡ false
    → xs ≡ bits w (λ i. bit_number (number_length k.lookup.job.now) (kept k.lookup.job.now k.lookup.work.now k.lookup.rows) i p) → xs ≡ map (kept_number k) (get_term_bits (kept_term k p))
selected {k} {p} {w} {t} o s d e =
    e
    ∙ sym (ap (map (kept_number k)) (other_bits (kept_term k p) (op_of t) _ s.made d ∙ ap (λ (x : Sort). select (kept_term k p) 0 (sort_width x)) o.sort)
    ∙ select_numbers (kept_terms k) (store_of k).well (few k) p w (there k o.there) (widths o).1
    ∙ ap (λ (rs : List Bytes). bits w (λ i. bit_number (number_length k.lookup.job.now) rs i p)) (store_of k).records_are)

pub argued : {k : Kept} {p w : ℕ} {t : Decoded} {a : Args} {xs : List ℕ} → Operand k p w → IsTermAt k p t → t ≡ D.BvBbTerm a
    → xs ≡ words_in k.lookup.job.now a → xs ≡ map (kept_number k) (get_term_bits (kept_term k p))
argued {k} {p} {t = t} {a = a} o s e d =
    let ks = words_in k.lookup.job.now a in
    let us = map (tree_at (kept_terms k)) ks in
    let m : kept_term k p ≡ bb us = s.made ∙ ap (λ (q : Decoded). tree_of (kept_terms k) (op_of q) (arguments_of k.lookup.job.now q)) e in
    let b : T (all_below p ks) = true_T _ (sym (ap (λ (q : Decoded). all_below p (arguments_of k.lookup.job.now q)) e) ∙ s.below) in
    let g = there k o.there in
    d
    ∙ sym (ap (map (kept_number k)) (ap get_term_bits m ∙ bb_bits us)
    ∙ own_numbers (kept_terms k) (store_of k).well (few k) ks (more_below p (length (kept_terms k)) (omega arith) ks b))

-- an operand has as many bits as its width says
pub bits_length : {k : Kept} {x w : ℕ} {xs : List ℕ} → Operand k x w → xs ≡ map (kept_number k) (kept_bits k x) → length xs ≡ w
bits_length {k} {x} {w} o e =
    let b = bits_of (x_and_y 0 0) (kept_term k x) w o.sort in
    ap length e ∙ length-map (kept_bits k x) (kept_number k) ∙ sym (length-map (kept_bits k x) (value (x_and_y 0 0))) ∙ ap length b.reads ∙ length-map b.bits truth ∙ b.size

-- the bits of an operand
pub operand_bits : {k : Kept} {x w : ℕ} {xs : List ℕ} → Operand k x w → xs ≡ map (kept_number k) (kept_bits k x) → BitsOf k xs (kept_term k x)
operand_bits o e = record { sort = o.sort ∙ ap bv (sym (bits_length o e)); bits = e }
