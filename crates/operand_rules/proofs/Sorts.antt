-- `let Sort::Bv(w) = sort_at(..) else { .. }`, and the bits of a width.
use mathlib.Core.Path.{◌≡◌, refl, sym, ap, ap₂, ◌∙◌}
use mathlib.Core.Bool.{cond}
use mathlib.Core.List.{List, ◌∷◌, map}
use Prim.Native.Nat.{ℕ, zero, suc, ◌+◌, ◌^◌, ◌<◌, ◌≤◌}
use native.Mathlib.Nat.{add-zero, zero-add}
use native.Mathlib.Omega.{arith}
use borrow.Author.Tests.{lt-ltb, le-leb}
use Rattle.theory.specs.Limit.{first_terms}
use Rattle.theory.specs.Kind.{Const}
use Rattle.theory.specs.Term.{Term, node, nil, fold}
use Rattle.theory.specs.Sort.{bv, guard, is_bv_sort, sort_width, sort_of}
use Rattle.theory.specs.Bits.{get_term_bits, select}
use Rattle.theory.specs.Move.{bits}
use Rattle.theory.specs.Record.{Bytes, number_length}
use Rattle.theory.specs.Verdict.{Verdict, not_bit_vector}
use Rattle.theory.specs.Rule.{of_bits}
use Rattle.theory.specs.Sort as Th
use Rattle.theory.proofs.Shift.{lt_two_pow}
use Rattle.rows.specs.Rows.{kept}
use Rattle.store.specs.Numbers.{bit_number, constant_number}
use Rattle.store.specs.Store.{records}
use Rattle.store.specs.declared.gates.Kept.{Kept}
use Rattle.store.specs.Kept.{kept_terms, kept_term, kept_number}
use Rattle.store.proofs.Keeping.{store_of}
use Rattle.store.specs.Sorts.{sort_read}
use Rattle.store.specs.declared.sorts.Sort.{Sort}
use Rattle.store.specs.declared.sorts.Sort.TheVariants.{Bv}
use Rattle.store.proofs.Lookup.{bit_hom, constant_hom}
use Rattle.operand_rules.specs.Rules.{Operand}
use Rattle.operand_rules.proofs.Numbers.{few}
use Rattle.theory.proofs.Indexed.{bits_same}

-- the bits of a width, as a constant of that width
abbrev pub width_bits : ℕ → List Term
width_bits w = get_term_bits (node (Const w w) nil)

-- a width fits into as many bits
const_sort : (w : ℕ) → 1 ≤ w → w ≤ 64 → sort_of (node (Const w w) nil) ≡ bv w
unfolding fold guard
const_sort w h k = rw (le-leb 1 w h, le-leb w 64 k, lt-ltb w (2 ^ w) (lt_two_pow w))

const_bits : (w : ℕ) → 1 ≤ w → w ≤ 64 → width_bits w ≡ select (node (Const w w) nil) 0 w
unfolding get_term_bits
const_bits w h k = ap (λ (s : Th.Sort). select (node (Const w w) nil) 0 (sort_width s)) (const_sort w h k)

pub three : (f : List ℕ → List ℕ → List ℕ → List ℕ) {a b c x y z : List ℕ} → a ≡ x → b ≡ y → c ≡ z → f a b c ≡ f x y z
three f d e g = rw (d, e, g)

-- the pattern: a bit-vector of width w
pub operand_told : (k : Kept) {x w : ℕ} {r : Sort} → x < first_terms + k.lookup.rows → sort_read r ≡ sort_of (kept_term k x) → r ≡ Bv w → Operand k x w
operand_told k h e d = record { there = h; sort = sym e ∙ ap sort_read d }

pub is_bits : {k : Kept} {x w : ℕ} {v : Verdict} (u : Verdict) → Operand k x w → v ≡ u → v ≡ of_bits (kept_term k x) u
is_bits u o e = e ∙ sym (ap (λ (s : Th.Sort). cond (is_bv_sort s) u not_bit_vector) o.sort)

-- the bits of any term that is no BvBbTerm, from bit i on
pub select_from : (k : Kept) (t : Term) (i m : ℕ) → i + m ≤ 64
    → map (kept_number k) (select t i m) ≡ bits m (λ j. bit_number (number_length k.lookup.job.now) (records (kept_terms k)) (i + j) (kept_number k t))
unfolding select
select_from k t i zero l = refl
select_from k t i (suc m) l =
    ap₂ (λ (y : ℕ) (ys : List ℕ). y ∷ ys)
    (bit_hom (kept_terms k) (store_of k).well (few k) i (omega arith) t
    ∙ ap (λ (q : ℕ). bit_number (number_length k.lookup.job.now) (records (kept_terms k)) q (kept_number k t)) (sym (add-zero i)))
    (select_from k t (suc i) m (omega arith)
    ∙ bits_same m (λ j. bit_number (number_length k.lookup.job.now) (records (kept_terms k)) (suc i + j) (kept_number k t)) (λ j. bit_number (number_length k.lookup.job.now) (records (kept_terms k)) (i + suc j) (kept_number k t))
    (λ j. ap (λ (q : ℕ). bit_number (number_length k.lookup.job.now) (records (kept_terms k)) q (kept_number k t)) (let z : suc i + j ≡ i + suc j = omega arith in z)))

-- the bits of a width
pub width_numbers : (k : Kept) {xs : List ℕ} {g : ℕ} → (w : ℕ) → 1 ≤ w → w ≤ 64 → g ≡ constant_number (kept k.lookup.job.now k.lookup.work.now k.lookup.rows) w w
    → xs ≡ bits w (λ i. bit_number (number_length k.lookup.job.now) (kept k.lookup.job.now k.lookup.work.now k.lookup.rows) i g) → xs ≡ map (kept_number k) (width_bits w)
width_numbers k {xs} {g} w h l d e =
    let t = node (Const w w) nil in
    let m : g ≡ kept_number k t =
    d ∙ ap (λ (rs : List Bytes). constant_number rs w w) (sym (store_of k).records_are) ∙ sym (constant_hom (kept_terms k) (store_of k).well (few k) w w (omega arith) (omega arith)) in
    e
    ∙ ap₂ (λ (rs : List Bytes) (j : ℕ). bits w (λ i. bit_number (number_length k.lookup.job.now) rs i j)) (sym (store_of k).records_are) m
    ∙ sym (ap (map (kept_number k)) (const_bits w h l) ∙ select_from k t 0 w (omega arith)
    ∙ bits_same w (λ j. bit_number (number_length k.lookup.job.now) (records (kept_terms k)) (0 + j) (kept_number k t)) (λ j. bit_number (number_length k.lookup.job.now) (records (kept_terms k)) j (kept_number k t))
    (λ j. ap (λ (i : ℕ). bit_number (number_length k.lookup.job.now) (records (kept_terms k)) i (kept_number k t)) (zero-add j)))
