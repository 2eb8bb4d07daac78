-- The loops of the shifts: along a stage, and over the stages.
use mathlib.Core.Path.{◌≡◌, refl, sym, ap, ap₂, ◌∙◌}
use mathlib.Core.Bool.{Bool, cond, false, true}
use mathlib.Core.List.{List, [], ◌∷◌, ◌++◌}
use mathlib.Core.Logic.{◌⊎◌, inl, inr}
use Prim.Native.Nat.{ℕ, zero, suc, ◌+◌, ◌-◌, ◌^◌, ◌<◌, ◌≤◌, min}
use native.Mathlib.Numerals.{add-one}
use native.Mathlib.Omega.{arith}
use lib.ListN.{length, take, drop, get_or, replicate, length-append, length-drop, drop_of_length-le}
use lib.Seq.{drop-cons}
use lib.Dec.{leb}
use Rattle.std.proofs.Common.{Iter, Some, None, take_all}
use Rattle.std.proofs.lemmas.List.{nil_from_length}
use Rattle.std.proofs.iter.Yields.{nat_range_steps}
use Rattle.std.specs.Slice.Iter.{iter_rest, iter_steps}
use Rattle.std.specs.declared.ops.Range.{Range}
use Rattle.theory.specs.Gates.{Gates}
use Rattle.theory.specs.Circuit.{clog2_from, clog2, last, shl_bits, shl_stage, shl_stages, shr_bits, shr_stage, shr_stages, bounded, shl, lshr, ashr}
use Rattle.shift_circuits.specs.Stages.{staged}
use Rattle.circuits.proofs.AppendLaws.{Appending, append_turn, append_end, drop_next}

-- ---- a stage to the left, t being 2 ^ s: beside bit i stands what the bit i - t is, or false
below_end : (t a i : ℕ) (ps : List ℕ) → i < t → a ≡ get_or (replicate t a ++ ps) i 0
below_end zero a i ps h = absurd (omega arith)
below_end (suc t) a zero ps h = refl
below_end (suc t) a (suc i) ps h = below_end t a i ps (omega arith)

above_end : (t a i : ℕ) (ps : List ℕ) → t ≤ i → get_or ps (i - t) 0 ≡ get_or (replicate t a ++ ps) i 0
above_end zero a i ps h = let z : i - 0 ≡ i = omega arith in rw z refl
above_end (suc t) a zero ps h = absurd (omega arith)
above_end (suc t) a (suc i) ps h = let z : suc i - suc t ≡ i - t = omega arith in rw z (above_end t a i ps (omega arith))

pub record ShlStage (g : Gates ℕ) (s t y : ℕ) (ps out : List ℕ) (i : ℕ) : Type 0 where
  pub places : t ≡ 2 ^ s
  pub filled : Appending out (shl_bits g y (drop i ps) (drop i (replicate (2 ^ s) g.false_gate ++ ps))) (shl_stage g s y ps) (length (drop i ps))

module _ {g : Gates ℕ} {s t y : ℕ} {ps : List ℕ} where
  module _ {out out' : List ℕ} {i v from : ℕ} (inv : ShlStage g s t y ps out i) (o : out' ≡ out ++ v ∷ []) (h : i < length ps) (e : v ≡ g.ite_gate y from (get_or ps i 0)) where
    left_turn : from ≡ get_or (replicate (2 ^ s) g.false_gate ++ ps) i 0 → ShlStage g s t y ps out' (i + 1)
    unfolding shl_bits
    left_turn f =
        let qs = replicate (2 ^ s) g.false_gate ++ ps in
        let l : i < length qs = omega (arith, h, length-append (replicate (2 ^ s) g.false_gate) ps) in
        record { places = inv.places; filled = append_turn inv.filled o (rw (drop-cons ps i 0 h, drop-cons qs i 0 l, add-one, e, f) refl) (drop_next ps i h) }

    pub left_out : from ≡ g.false_gate → i < t → ShlStage g s t y ps out' (i + 1)
    left_out f b = left_turn (f ∙ below_end (2 ^ s) g.false_gate i ps (omega (arith, inv.places, b)))

    pub left_in : from ≡ get_or ps (i - t) 0 → t ≤ i → ShlStage g s t y ps out' (i + 1)
    left_in f b = left_turn (f ∙ ap (λ (n : ℕ). get_or ps (i - n) 0) inv.places ∙ above_end (2 ^ s) g.false_gate i ps (omega (arith, inv.places, b)))

  pub left_end : {out : List ℕ} {i : ℕ} → ShlStage g s t y ps out i → length ps ≤ i → out ≡ shl_stage g s y ps
  unfolding shl_bits
  left_end {i} inv h = append_end inv.filled (ap (λ (l : List ℕ). shl_bits g y l (drop i (replicate (2 ^ s) g.false_gate ++ ps))) (drop_of_length-le ps h))

-- ---- a stage to the right: the bits above are those from bit 2 ^ s on, as a slice has them
from_bit : (t : ℕ) (ps : List ℕ) → take (length ps - min t (length ps)) (drop (min t (length ps)) ps) ≡ drop t ps
from_bit t ps = take_all (length ps - min t (length ps)) (drop (min t (length ps)) ps) (omega (arith, length-drop (min t (length ps)) ps)) ∙ by t ps
  where
    by : (t : ℕ) (ps : List ℕ) → drop (min t (length ps)) ps ≡ drop t ps
    by zero ps = let z : min 0 (length ps) ≡ 0 = omega arith in ap (λ (n : ℕ). drop n ps) z
    by (suc t) [] = let z : min (suc t) 0 ≡ 0 = omega arith in ap (λ (n : ℕ). drop {A = ℕ} n []) z
    by (suc t) (p ∷ ps) = let z : min (suc t) (suc (length ps)) ≡ suc (min t (length ps)) = omega arith in ap (λ (n : ℕ). drop n (p ∷ ps)) z ∙ by t ps

-- what is next at bit i beside the bits qs
pub record ShrStage (g : Gates ℕ) (fill s y : ℕ) (ps out : List ℕ) (i : ℕ) (qs : List ℕ) : Type 0 where
  pub filled : Appending out (shr_bits g fill y (drop i ps) qs) (shr_stage g fill s y ps) (length (drop i ps))

module _ {g : Gates ℕ} {fill s y : ℕ} {ps : List ℕ} where
  pub right_start : {out qs : List ℕ} → out ≡ [] → qs ≡ take (length ps - min (2 ^ s) (length ps)) (drop (min (2 ^ s) (length ps)) ps) → length ps ≤ 64
      → ShrStage g fill s y ps out 0 qs
  right_start e f h = rw (e, f, from_bit (2 ^ s) ps) record { filled = record { says = refl; room = omega (arith, h) } }

  module _ {out out' : List ℕ} {i v : ℕ} {qs qs' : List ℕ} (inv : ShrStage g fill s y ps out i qs) (o : out' ≡ out ++ v ∷ []) (h : i < length ps) where
    pub right_in : {q stays : ℕ} → qs ≡ q ∷ qs' → stays ≡ g.not_gate y → v ≡ g.ite_gate stays (get_or ps i 0) q → ShrStage g fill s y ps out' (i + 1) qs'
    unfolding shr_bits
    right_in a n e = record { filled = append_turn inv.filled o (rw (drop-cons ps i 0 h, add-one, a, e, n) refl) (drop_next ps i h) }

    pub right_out : length qs ≡ 0 → qs' ≡ qs → v ≡ g.ite_gate y fill (get_or ps i 0) → ShrStage g fill s y ps out' (i + 1) qs'
    unfolding shr_bits
    right_out a b e = record { filled = append_turn inv.filled o (rw (b, nil_from_length qs a, drop-cons ps i 0 h, add-one, e) refl) (drop_next ps i h) }

  pub right_end : {out : List ℕ} {i : ℕ} {qs : List ℕ} → ShrStage g fill s y ps out i qs → length ps ≤ i → out ≡ shr_stage g fill s y ps
  unfolding shr_bits
  right_end {qs = qs} inv h = append_end inv.filled (ap (λ (l : List ℕ). shr_bits g fill y l qs) (drop_of_length-le ps h))

-- ---- over the stages
stages_from : (fuel k n : ℕ) → clog2_from fuel k n ≤ k + fuel
stages_from zero k n = omega arith
stages_from (suc fuel) k n = by (leb n (2 ^ k)) (stages_from fuel (suc k) n)
  where
    by : (b : Bool) → clog2_from fuel (suc k) n ≤ suc k + fuel → (elim b [ true ↦ k | false ↦ clog2_from fuel (suc k) n ]) ≤ k + suc fuel
    by true ih = omega arith
    by false ih = omega arith

stages_few : (n : ℕ) → clog2 n ≤ n
unfolding clog2
stages_few n = omega (arith, stages_from n 0 n)

-- the stages of `left` are left, over the bits bs
pub record Staging (f : ℕ → ℕ → List ℕ → List ℕ) (xs ys res : List ℕ) (left : Range ℕ) (bs : List ℕ) : Type 0 where
  pub few : left.end ≤ length xs
  pub says : staged f left.start (take (left.end - left.start) bs) res ≡ staged f 0 (take (clog2 (length xs)) ys) xs

module _ {f : ℕ → ℕ → List ℕ → List ℕ} {xs ys res : List ℕ} {left : Range ℕ} where
  pub stages_start : {stages : ℕ} {bs : List ℕ} → stages ≡ clog2 (length xs) → res ≡ xs → left ≡ record { start = 0; end = stages } → bs ≡ ys → Staging f xs ys res left bs
  stages_start {stages} e h a b =
      let n : stages - 0 ≡ clog2 (length xs) = omega (arith, e) in
      rw (h, a, b) record { few = rw e (stages_few (length xs)); says = ap (λ (k : ℕ). staged f 0 (take k ys) xs) n }

  module _ {bs : List ℕ} (inv : Staging f xs ys res left bs) where
    pub stages_low : {left' : Range ℕ} (s : ℕ) → nat_range_steps left (Some s) left' → length xs ≤ 64 → s ≤ 63
    stages_low s h n = omega (arith, h.1.0, h.1.1, inv.few, n)

    pub stages_turn : {res' bs' : List ℕ} {left' : Range ℕ} (s b : ℕ) → nat_range_steps left (Some s) left' → bs ≡ b ∷ bs' → res' ≡ f s b res → Staging f xs ys res' left' bs'
    unfolding staged
    stages_turn {res'} {bs'} {left'} s b h e r =
        let n : left.end - left.start ≡ suc (left'.end - left'.start) = omega (arith, h.0, h.1.0, h.1.2) in
        record {
          few = rw (h.0) inv.few;
          says = ap (λ (k : ℕ). staged f k (take (left'.end - left'.start) bs') res') (h.1.2 ∙ add-one left.start)
              ∙ ap (staged f (suc left.start) (take (left'.end - left'.start) bs')) (r ∙ ap (λ (k : ℕ). f k b res) h.1.1)
              ∙ sym (ap₂ (λ (k : ℕ) (l : List ℕ). staged f left.start (take k l) res) n e)
              ∙ inv.says;
        }

    stages_done : (left.end - left.start ≡ 0) ⊎ (length bs ≡ 0) → res ≡ staged f 0 (take (clog2 (length xs)) ys) xs
    unfolding staged
    stages_done (inl e) = ap (λ (k : ℕ). staged f left.start (take k bs) res) (sym e) ∙ inv.says
    stages_done (inr e) = ap (λ (l : List ℕ). staged f left.start l res) (sym (none (left.end - left.start)) ∙ ap (take (left.end - left.start)) (sym (nil_from_length bs e))) ∙ inv.says
      where
        none : (n : ℕ) → take {A = ℕ} n [] ≡ []
        none zero = refl
        none (suc n) = refl

  pub stages_end : (i : Iter ℕ) → Staging f xs ys res left (iter_rest i) → ((u : Range ℕ) × nat_range_steps left None u) ⊎ ((u : Iter ℕ) × iter_steps i None u)
      → res ≡ staged f 0 (take (clog2 (length xs)) ys) xs
  stages_end i inv (inl h) = stages_done inv (inl h.1.1.0)
  stages_end i inv (inr h) = stages_done inv (inr h.1.0)

-- the stages of each direction
module _ (g : Gates ℕ) where
  staged_left : (s : ℕ) (ys xs : List ℕ) → staged (shl_stage g) s ys xs ≡ shl_stages g s ys xs
  unfolding staged shl_stages
  staged_left s [] xs = refl
  staged_left s (y ∷ ys) xs = staged_left (suc s) ys (shl_stage g s y xs)

  staged_right : (fill s : ℕ) (ys xs : List ℕ) → staged (shr_stage g fill) s ys xs ≡ shr_stages g fill s ys xs
  unfolding staged shr_stages
  staged_right fill s [] xs = refl
  staged_right fill s (y ∷ ys) xs = staged_right fill (suc s) ys (shr_stage g fill s y xs)

-- ---- the whole shift: the stages, and then the bound
module _ (g : Gates ℕ) (size ys xs : List ℕ) {p r : List ℕ} where
  pub shl_whole : p ≡ staged (shl_stage g) 0 (take (clog2 (length xs)) ys) xs → r ≡ bounded g g.false_gate size ys p → r ≡ shl g size xs ys
  unfolding shl
  shl_whole a b = b ∙ rw (a, staged_left g 0 (take (clog2 (length xs)) ys) xs) refl

  pub lshr_whole : p ≡ staged (shr_stage g g.false_gate) 0 (take (clog2 (length xs)) ys) xs → r ≡ bounded g g.false_gate size ys p → r ≡ lshr g size xs ys
  unfolding lshr
  lshr_whole a b = b ∙ rw (a, staged_right g g.false_gate 0 (take (clog2 (length xs)) ys) xs) refl

  pub ashr_whole : (standard : Bool) {f beyond : ℕ} → f ≡ last g.false_gate xs → beyond ≡ cond standard f g.false_gate
      → p ≡ staged (shr_stage g f) 0 (take (clog2 (length xs)) ys) xs → r ≡ bounded g beyond size ys p → r ≡ ashr g standard size xs ys
  unfolding ashr
  ashr_whole standard {f = f} z s a b = b ∙ rw (s, a, staged_right g f 0 (take (clog2 (length xs)) ys) xs, z) refl
