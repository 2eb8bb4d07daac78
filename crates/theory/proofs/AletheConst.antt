-- Rule 1 is accepted exactly on the constant's own bits.
use mathlib.Core.Path.{◌≡◌, refl, sym, ap, ap₂, subst, ◌∙◌}
use mathlib.Core.Bool.{Bool, true, false, cond}
use mathlib.Core.List.{List, [], ◌∷◌, map}
use Rattle.std.specs.Prelude.{Some as some}
use Prim.Native.Nat.{ℕ, zero, suc}
use lib.Dec.{T, eqb, eqb_refl}
use lib.ListN.{length, get_or}
use Rattle.theory.specs.Kind.{True, False, Equals, Const}
use Rattle.theory.specs.Term.{Term, node, nil, two, same_op, same_term}
use Rattle.theory.specs.Value.{to_number, bit_at}
use Rattle.theory.specs.Optional.{cons_some}
use Rattle.theory.specs.Bits.{bb}
use Rattle.theory.specs.Move.{bits}
use Rattle.theory.specs.Verdict.{held, other_value}
use Rattle.theory.specs.RuleTable.{by_value}
use Rattle.theory.specs.Rule.{args_of, constant, literal_bit, literal_bits, value_bits, on_sides, verdict}
use Rattle.theory.specs.AletheRules.{AletheConst}
use Rattle.theory.proofs.Basics.{T_true}
use Rattle.theory.proofs.Blast.{to_from_list}
use Rattle.theory.proofs.Slices.{literal}
use Rattle.theory.proofs.Form.{sides_of, form_held, args_held, literal_bits_are}
use Rattle.theory.proofs.Verdict.{value_bits_held}
use Rattle.theory.proofs.LeftOut.{value_size}
use Rattle.theory.proofs.Indexed.{bits_by, bits_same, map_bits}
use Rattle.theory.proofs.Moving.{bit_is, stay}

-- ---- bits that are literally true or false
literal_is : (b : Bool) → literal b ≡ cond b (node True nil) (node False nil)
literal_is true = refl
literal_is false = refl

get_or_literal : (bs : List Bool) (i : ℕ) → get_or (map literal bs) i (node False nil) ≡ literal (get_or bs i false)
get_or_literal [] i = refl
get_or_literal (b ∷ bs) zero = refl
get_or_literal (b ∷ bs) (suc i) = get_or_literal bs i

length_literal : (bs : List Bool) → length (map literal bs) ≡ length bs
length_literal [] = refl
length_literal (b ∷ bs) = ap suc (length_literal bs)

literal_read : (b : Bool) → literal_bit (literal b) ≡ some b
unfolding same_term same_op
literal_read true = refl
literal_read false = refl

literals_read : (bs : List Bool) → literal_bits (map literal bs) ≡ some bs
unfolding literal_bits
literals_read [] = refl
literals_read (b ∷ bs) = ap₂ cons_some (literal_read b) (literals_read bs)

-- ---- the bits of a number
abbrev const_bits : ℕ → ℕ → List Term
const_bits n v = bits n (λ i. cond (bit_at i v) (node True nil) (node False nil))

const_literals : (n v : ℕ) → map literal (bits n (λ i. bit_at i v)) ≡ const_bits n v
const_literals n v =
    map_bits literal n (λ i. bit_at i v)
    ∙ bits_same n (λ i. literal (bit_at i v)) (λ i. cond (bit_at i v) (node True nil) (node False nil)) (λ i. literal_is (bit_at i v))

bits_of_value : (n v : ℕ) (bs : List Bool) → length bs ≡ n → v ≡ to_number bs → map literal bs ≡ const_bits n v
bits_of_value n v bs l e =
    bits_by (node False nil) (map literal bs) (λ i. cond (bit_at i v) (node True nil) (node False nil)) (length_literal bs ∙ l)
    (λ i h. get_or_literal bs i ∙ literal_is (get_or bs i false)
    ∙ ap (λ (b : Bool). cond b (node True nil) (node False nil)) (sym (bit_is bs i) ∙ ap (bit_at i) (sym e)))

pub alethe_const : AletheConst
unfolding verdict on_sides args_of
alethe_const n v r small s =
    let l = node (Const n v) nil in
    record {
      only = λ h.
          let f = form_held (args_of 31 r) (λ ts. constant (some []) (value_bits v (literal_bits ts))) (sides_of by_value l r h) in
          let q = value_bits_held v (literal_bits f.0) f.2 in
          let k : length q.0 ≡ n = sym (length_literal q.0) ∙ ap length (sym (literal_bits_are f.0 q.0 q.1)) ∙ sym (value_size l r s [] f.0 refl f.1) in
          (args_held 31 r f.0 f.1).1 ∙ ap bb (literal_bits_are f.0 q.0 q.1 ∙ bits_of_value n v q.0 k q.2);
      always = λ e.
          subst (λ (t : Term). verdict by_value (two Equals l t) ≡ held) (sym e)
          (ap (λ (ts : List Term). value_bits v (literal_bits ts)) (to_from_list (const_bits n v) ∙ sym (const_literals n v))
          ∙ ap (value_bits v) (literals_read (bits n (λ i. bit_at i v)))
          ∙ ap (λ (b : Bool). cond b held other_value) (T_true (eqb v (to_number (bits n (λ i. bit_at i v)))) (subst (λ (x : ℕ). T (eqb v x)) (sym (stay n v small)) (eqb_refl v))));
    }
