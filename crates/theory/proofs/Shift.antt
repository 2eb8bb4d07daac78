-- The shifter: it respects the gates, and at Bool it is SMT-LIB's bvshl, bvlshr and, by the standard, bvashr; rules 18, 19 and 26 hold.
use mathlib.Core.Path.{◌≡◌, refl, sym, ap, ap₂, ◌∙◌, subst}
use mathlib.Core.Bool.{Bool, true, false, cond}
use mathlib.Core.List.{List, [], ◌∷◌, ◌++◌, map, append_assoc}
use Prim.Native.Nat.{ℕ, zero, suc, ◌+◌, ◌-◌, ◌*◌, ◌^◌, ◌/◌, ◌%◌, ◌≤◌, ◌<◌}
use native.Mathlib.Omega.{arith}
use native.Mathlib.Nat.{sub-add_cancel, sub_self, add-mul-div_right, pow-suc, mul_assoc, mul_comm, mul-add, mul-one, mul-zero, add-zero, zero-add, one-mul, mod-eq_of_lt}
use lib.ListN.{length, take, drop, replicate, get_or, length-map, length-replicate, length-append, length-take, length-drop, replicate-append-replicate}
use lib.Seq.{take-take, take_all, get_or-drop, ext_get_or}
use lib.Dec.{T, ltb, leb, lt→ltb, ltb→lt}
use lib.Pow.{pow_pos, pow-add}
use borrow.Author.Tests.{leb-true}
use Rattle.theory.specs.Kind.{BvShl, BvLShr, BvAShr, Const}
use Rattle.theory.specs.Term.{fold, Term, node, nil, two}
use Rattle.theory.specs.Sort.{guard, Sort, bv, sort_width, is_width, sort_of}
use Rattle.theory.specs.Value.{Assign, truth, number, bit, to_number, num2, shl_n, lshr_n, top_copies, ashr_n, meaning, value}
use Rattle.theory.specs.Gates.{Gates, bool_gates, term_gates}
use Rattle.theory.specs.Circuit.{last, bitblast_ult, clog2, clog2_from, shl_bits, shl_stage, shl_stages, shr_bits, shr_stage, shr_stages, bounded, stage_bits, shl, lshr, ashr}
use Rattle.theory.specs.Bits.{get_term_bits, size_bits, shifted}
use Rattle.theory.proofs.Natural.{Hom, ult_hom}
use Rattle.theory.proofs.Numbers.{pair, ult_lt}
use Rattle.theory.proofs.Blast.{truth_hom, fold_hom, bits_of, bb_value}
use Rattle.theory.proofs.Slices.{to_number_append, to_number_take, to_number_drop, map_append, map_take, map_drop, map_replicate, last_map, last_top, top_at, copies}
use Rattle.theory.proofs.Basics.{T_true}

-- ---- the gates
module _ {A B : Type 0} {G : Gates A} {H : Gates B} {h : A → B} (M : Hom G H h) where
  shl_bits_hom : (y : A) (ps qs : List A) → map h (shl_bits G y ps qs) ≡ shl_bits H (h y) (map h ps) (map h qs)
  unfolding shl_bits
  shl_bits_hom y [] qs = refl
  shl_bits_hom y (p ∷ ps) [] = refl
  shl_bits_hom y (p ∷ ps) (q ∷ qs) = ap₂ (λ (s : B) (t : List B). s ∷ t) (M.ite_hom y q p) (shl_bits_hom y ps qs)

  shl_stages_hom : (s : ℕ) (ys ps : List A) → map h (shl_stages G s ys ps) ≡ shl_stages H s (map h ys) (map h ps)
  unfolding shl_stages
  shl_stages_hom s [] ps = refl
  shl_stages_hom s (y ∷ ys) ps =
      shl_stages_hom (suc s) ys (shl_stage G s y ps)
      ∙ ap (λ (l : List B). shl_stages H (suc s) (map h ys) l)
      (shl_bits_hom y ps (replicate (2 ^ s) G.false_gate ++ ps)
      ∙ ap (shl_bits H (h y) (map h ps))
      (map_append h (replicate (2 ^ s) G.false_gate) ps
      ∙ ap (λ (l : List B). l ++ map h ps) (map_replicate h (2 ^ s) G.false_gate ∙ ap (replicate (2 ^ s)) M.false_hom)))

  shr_bits_hom : (fill y : A) (ps qs : List A) → map h (shr_bits G fill y ps qs) ≡ shr_bits H (h fill) (h y) (map h ps) (map h qs)
  unfolding shr_bits
  shr_bits_hom fill y [] qs = refl
  shr_bits_hom fill y (p ∷ ps) [] = ap₂ (λ (s : B) (t : List B). s ∷ t) (M.ite_hom y fill p) (shr_bits_hom fill y ps [])
  shr_bits_hom fill y (p ∷ ps) (q ∷ qs) =
      ap₂ (λ (s : B) (t : List B). s ∷ t) (M.ite_hom (G.not_gate y) p q ∙ ap (λ (c : B). H.ite_gate c (h p) (h q)) (M.not_hom y)) (shr_bits_hom fill y ps qs)

  pub shr_stages_hom : (fill : A) (s : ℕ) (ys ps : List A) → map h (shr_stages G fill s ys ps) ≡ shr_stages H (h fill) s (map h ys) (map h ps)
  unfolding shr_stages
  shr_stages_hom fill s [] ps = refl
  shr_stages_hom fill s (y ∷ ys) ps =
      shr_stages_hom fill (suc s) ys (shr_stage G fill s y ps)
      ∙ ap (λ (l : List B). shr_stages H (h fill) (suc s) (map h ys) l)
      (shr_bits_hom fill y ps (drop (2 ^ s) ps) ∙ ap (shr_bits H (h fill) (h y) (map h ps)) (map_drop h (2 ^ s) ps))

  pub bounded_hom : (beyond : A) (size ys ps : List A) → map h (bounded G beyond size ys ps) ≡ bounded H (h beyond) (map h size) (map h ys) (map h ps)
  bounded_hom beyond size ys [] = refl
  bounded_hom beyond size ys (p ∷ ps) =
      ap₂ (λ (s : B) (t : List B). s ∷ t)
      (M.ite_hom (bitblast_ult G ys size) p beyond ∙ ap (λ (c : B). H.ite_gate c (h p) (h beyond)) (ult_hom M ys size))
      (bounded_hom beyond size ys ps)

  pub stage_bits_hom : (xs ys : List A) → map h (stage_bits G xs ys) ≡ stage_bits H (map h xs) (map h ys)
  stage_bits_hom xs ys = map_take h (clog2 (length xs)) ys ∙ ap (λ (k : ℕ). take (clog2 k) (map h ys)) (sym (length-map xs h))

  pub shl_hom : (size xs ys : List A) → map h (shl G size xs ys) ≡ shl H (map h size) (map h xs) (map h ys)
  unfolding shl
  shl_hom size xs ys =
      bounded_hom G.false_gate size ys (shl_stages G 0 (stage_bits G xs ys) xs)
      ∙ ap₂ (λ (b : B) (l : List B). bounded H b (map h size) (map h ys) l) M.false_hom
      (shl_stages_hom 0 (stage_bits G xs ys) xs ∙ ap (λ (l : List B). shl_stages H 0 l (map h xs)) (stage_bits_hom xs ys))

  pub lshr_hom : (size xs ys : List A) → map h (lshr G size xs ys) ≡ lshr H (map h size) (map h xs) (map h ys)
  unfolding lshr
  lshr_hom size xs ys =
      bounded_hom G.false_gate size ys (shr_stages G G.false_gate 0 (stage_bits G xs ys) xs)
      ∙ ap₂ (λ (b : B) (l : List B). bounded H b (map h size) (map h ys) l) M.false_hom
      (shr_stages_hom G.false_gate 0 (stage_bits G xs ys) xs
      ∙ ap₂ (λ (f : B) (l : List B). shr_stages H f 0 l (map h xs)) M.false_hom (stage_bits_hom xs ys))

  top_hom : (xs : List A) → h (last G.false_gate xs) ≡ last H.false_gate (map h xs)
  top_hom xs = last_map h G.false_gate xs ∙ ap (λ (d : B). last d (map h xs)) M.false_hom

  pub cond_hom : (b : Bool) {x y : A} {u v : B} → h x ≡ u → h y ≡ v → h (cond b x y) ≡ cond b u v
  cond_hom true p q = p
  cond_hom false p q = q

  pub ashr_hom : (standard : Bool) (size xs ys : List A) → map h (ashr G standard size xs ys) ≡ ashr H standard (map h size) (map h xs) (map h ys)
  unfolding ashr
  ashr_hom standard size xs ys =
      bounded_hom (cond standard (last G.false_gate xs) G.false_gate) size ys (shr_stages G (last G.false_gate xs) 0 (stage_bits G xs ys) xs)
      ∙ ap₂ (λ (b : B) (l : List B). bounded H b (map h size) (map h ys) l) (cond_hom standard (top_hom xs) M.false_hom)
      (shr_stages_hom (last G.false_gate xs) 0 (stage_bits G xs ys) xs
      ∙ ap₂ (λ (f : B) (l : List B). shr_stages H f 0 l (map h xs)) (top_hom xs) (stage_bits_hom xs ys))

-- ---- lengths
module _ {A : Type 0} (G : Gates A) where
  pub length_shl_bits : (y : A) (ps qs : List A) → length ps ≤ length qs → length (shl_bits G y ps qs) ≡ length ps
  unfolding shl_bits
  length_shl_bits y [] qs e = refl
  length_shl_bits y (p ∷ ps) [] e = absurd (omega arith)
  length_shl_bits y (p ∷ ps) (q ∷ qs) e = ap suc (length_shl_bits y ps qs (omega arith))

  length_shl_stages : (s : ℕ) (ys ps : List A) → length (shl_stages G s ys ps) ≡ length ps
  unfolding shl_stages
  length_shl_stages s [] ps = refl
  length_shl_stages s (y ∷ ys) ps =
      length_shl_stages (suc s) ys (shl_stage G s y ps)
      ∙ length_shl_bits y ps (replicate (2 ^ s) G.false_gate ++ ps) (simp length-append (omega arith))

  pub length_shr_bits : (fill y : A) (ps qs : List A) → length (shr_bits G fill y ps qs) ≡ length ps
  unfolding shr_bits
  length_shr_bits fill y [] qs = refl
  length_shr_bits fill y (p ∷ ps) [] = ap suc (length_shr_bits fill y ps [])
  length_shr_bits fill y (p ∷ ps) (q ∷ qs) = ap suc (length_shr_bits fill y ps qs)

  length_shr_stages : (fill : A) (s : ℕ) (ys ps : List A) → length (shr_stages G fill s ys ps) ≡ length ps
  unfolding shr_stages
  length_shr_stages fill s [] ps = refl
  length_shr_stages fill s (y ∷ ys) ps =
      length_shr_stages fill (suc s) ys (shr_stage G fill s y ps) ∙ length_shr_bits fill y ps (drop (2 ^ s) ps)

  pub length_shl : (size xs ys : List A) → length (shl G size xs ys) ≡ length xs
  unfolding shl
  length_shl size xs ys = length-map (shl_stages G 0 (stage_bits G xs ys) xs) _ ∙ length_shl_stages 0 (stage_bits G xs ys) xs

  pub length_lshr : (size xs ys : List A) → length (lshr G size xs ys) ≡ length xs
  unfolding lshr
  length_lshr size xs ys =
      length-map (shr_stages G G.false_gate 0 (stage_bits G xs ys) xs) _ ∙ length_shr_stages G.false_gate 0 (stage_bits G xs ys) xs

  pub length_ashr : (standard : Bool) (size xs ys : List A) → length (ashr G standard size xs ys) ≡ length xs
  unfolding ashr
  length_ashr standard size xs ys =
      length-map (shr_stages G (last G.false_gate xs) 0 (stage_bits G xs ys) xs) _ ∙ length_shr_stages (last G.false_gate xs) 0 (stage_bits G xs ys) xs

-- ---- the logarithm
clog2_from_above : (fuel k n : ℕ) → n ≤ 2 ^ (fuel + k) → n ≤ 2 ^ clog2_from fuel k n
clog2_from_above zero k n h = rw zero-add at h
clog2_from_above (suc fuel) k n h = go (leb n (2 ^ k)) refl (clog2_from_above fuel (suc k) n (subst (λ (e : ℕ). n ≤ 2 ^ e) (omega arith) h))
  where
    go : (t : Bool) → leb n (2 ^ k) ≡ t → n ≤ 2 ^ clog2_from fuel (suc k) n → n ≤ 2 ^ clog2_from (suc fuel) k n
    go true e ih = rw (e, clog2_from) (leb-true n (2 ^ k) e)
    go false e ih = rw (e, clog2_from) ih

pub lt_two_pow : (n : ℕ) → n < 2 ^ n
lt_two_pow zero = omega arith
lt_two_pow (suc n) = rw pow-suc (omega (arith, lt_two_pow n))

pub clog2_above : (n : ℕ) → n ≤ 2 ^ clog2 n
unfolding clog2
clog2_above n = clog2_from_above n 0 n (rw add-zero (omega (arith, lt_two_pow n)))

-- ---- at Bool: the stages as one shift of the list
to_number_zeros : (k : ℕ) → to_number (replicate k false) ≡ 0
to_number_zeros zero = refl
to_number_zeros (suc k) = omega (arith, to_number_zeros k)

to_number_shifted : (k : ℕ) (l : List Bool) → to_number (replicate k false ++ l) ≡ to_number l * 2 ^ k
to_number_shifted k l = rw (to_number_append, to_number_zeros, length-replicate, mul_comm (2 ^ k)) (omega arith)

-- the shift of stage s beside that of the stages above it
place : (s b t : ℕ) → 2 ^ suc s * t + 2 ^ s * b ≡ 2 ^ s * (b + 2 * t)
place s b t = rw (pow-suc, mul-add, mul_assoc) (omega arith)

-- a list moved up k places, with false below, at n places
abbrev up : ℕ → ℕ → List Bool → List Bool
up n k l = take n (replicate k false ++ l)

shl_bits_off : (ps qs : List Bool) → length ps ≤ length qs → shl_bits bool_gates false ps qs ≡ ps
unfolding shl_bits
shl_bits_off [] qs h = refl
shl_bits_off (p ∷ ps) [] h = absurd (omega arith)
shl_bits_off (p ∷ ps) (q ∷ qs) h = ap (λ (l : List Bool). p ∷ l) (shl_bits_off ps qs (omega arith))

shl_bits_on : (ps qs : List Bool) → shl_bits bool_gates true ps qs ≡ take (length ps) qs
unfolding shl_bits
shl_bits_on [] qs = refl
shl_bits_on (p ∷ ps) [] = refl
shl_bits_on (p ∷ ps) (q ∷ qs) = ap (λ (l : List Bool). q ∷ l) (shl_bits_on ps qs)

take_cut : (p q : List Bool) (n m : ℕ) → n ≤ m → take n (p ++ take m q) ≡ take n (p ++ q)
take_cut [] q n m h = take-take n m q h
take_cut (x ∷ p) q zero m h = refl
take_cut (x ∷ p) q (suc n) m h = ap (λ (l : List Bool). x ∷ l) (take_cut p q n m (omega arith))

length_up : (n k : ℕ) (l : List Bool) → n ≤ length l → length (up n k l) ≡ n
length_up n k l h = simp (length-take, length-append, length-replicate) (omega arith)

up_up : (n a b : ℕ) (l : List Bool) → up n a (up n b l) ≡ up n (a + b) l
up_up n a b l = take_cut (replicate a false) (replicate b false ++ l) n n (omega arith) ∙ rw (← append_assoc, replicate-append-replicate)

shl_stage_value : (n s : ℕ) (y : Bool) (l : List Bool) → length l ≡ n → shl_stage bool_gates s y l ≡ up n (2 ^ s * bit y) l
shl_stage_value n s true l e = shl_bits_on l (replicate (2 ^ s) false ++ l) ∙ rw (e, mul-one)
shl_stage_value n s false l e = shl_bits_off l (replicate (2 ^ s) false ++ l) (simp length-append (omega arith)) ∙ rw mul-zero (sym (take_all n l (omega arith)))

shl_stages_value : (n s : ℕ) (ys l : List Bool) → length l ≡ n → shl_stages bool_gates s ys l ≡ up n (2 ^ s * to_number ys) l
unfolding shl_stages
shl_stages_value n s [] l e = rw mul-zero (sym (take_all n l (omega arith)))
shl_stages_value n s (y ∷ ys) l e =
    rw (shl_stage_value n s y l e)
    (shl_stages_value n (suc s) ys (up n (2 ^ s * bit y) l) (length_up n (2 ^ s * bit y) l (omega arith))
    ∙ up_up n (2 ^ suc s * to_number ys) (2 ^ s * bit y) l
    ∙ ap (λ (k : ℕ). up n k l) (place s (bit y) (to_number ys)))

shr_bits_off : (fill : Bool) (ps qs : List Bool) → shr_bits bool_gates fill false ps qs ≡ ps
unfolding shr_bits
shr_bits_off fill [] qs = refl
shr_bits_off fill (p ∷ ps) [] = ap (λ (l : List Bool). p ∷ l) (shr_bits_off fill ps [])
shr_bits_off fill (p ∷ ps) (q ∷ qs) = ap (λ (l : List Bool). p ∷ l) (shr_bits_off fill ps qs)

shr_bits_on : (fill : Bool) (ps qs : List Bool) (i : ℕ) → length qs ≤ length ps → get_or (shr_bits bool_gates fill true ps qs) i fill ≡ get_or qs i fill
unfolding shr_bits
shr_bits_on fill [] [] i h = refl
shr_bits_on fill [] (q ∷ qs) i h = absurd (omega arith)
shr_bits_on fill (p ∷ ps) [] zero h = refl
shr_bits_on fill (p ∷ ps) [] (suc i) h = shr_bits_on fill ps [] i (omega arith)
shr_bits_on fill (p ∷ ps) (q ∷ qs) zero h = refl
shr_bits_on fill (p ∷ ps) (q ∷ qs) (suc i) h = shr_bits_on fill ps qs i (omega arith)

shr_stage_value : (fill : Bool) (s : ℕ) (y : Bool) (l : List Bool) (i : ℕ) → get_or (shr_stage bool_gates fill s y l) i fill ≡ get_or l (2 ^ s * bit y + i) fill
shr_stage_value fill s true l i = shr_bits_on fill l (drop (2 ^ s) l) i (simp length-drop (omega arith)) ∙ rw (get_or-drop, mul-one)
shr_stage_value fill s false l i = rw (shr_bits_off fill l (drop (2 ^ s) l), mul-zero, zero-add)

shr_stages_at : (fill : Bool) (s : ℕ) (ys l : List Bool) (i : ℕ) → get_or (shr_stages bool_gates fill s ys l) i fill ≡ get_or l (2 ^ s * to_number ys + i) fill
unfolding shr_stages
shr_stages_at fill s [] l i = rw (mul-zero, zero-add)
shr_stages_at fill s (y ∷ ys) l i =
    shr_stages_at fill (suc s) ys (shr_stage bool_gates fill s y l) i
    ∙ shr_stage_value fill s y l (2 ^ suc s * to_number ys + i)
    ∙ ap (λ (k : ℕ). get_or l k fill) (omega (arith, place s (bit y) (to_number ys)))

-- a list moved down, with `fill` above
abbrev down : Bool → ℕ → List Bool → List Bool
down fill k l = drop k (l ++ replicate k fill)

get_or_pad : (l : List Bool) (k i : ℕ) (fill : Bool) → get_or (l ++ replicate k fill) i fill ≡ get_or l i fill
get_or_pad [] zero i fill = refl
get_or_pad [] (suc k) zero fill = refl
get_or_pad [] (suc k) (suc i) fill = get_or_pad [] k i fill
get_or_pad (x ∷ l) k zero fill = refl
get_or_pad (x ∷ l) k (suc i) fill = get_or_pad l k i fill

shr_stages_value : (fill : Bool) (s : ℕ) (ys l : List Bool) → shr_stages bool_gates fill s ys l ≡ down fill (2 ^ s * to_number ys) l
shr_stages_value fill s ys l =
    ext_get_or fill (shr_stages bool_gates fill s ys l) (down fill k l)
    (simp (length_shr_stages, length-drop, length-append, length-replicate) (omega arith))
    (λ i _. shr_stages_at fill s ys l i ∙ sym (get_or-drop k (l ++ replicate k fill) i fill ∙ get_or_pad l k (k + i) fill))
  where
    k : ℕ
    k = 2 ^ s * to_number ys

down_zeros : (k : ℕ) (l : List Bool) → to_number (down false k l) ≡ to_number l / 2 ^ k
down_zeros k l = rw (to_number_drop, to_number_append, to_number_zeros, mul-zero, add-zero)

-- copies of the top bit, above and alone
ones_up : (a b : ℕ) → 0 < b → a * b * (b - 1) ≡ (a * b - a) * b
ones_up a zero h = absurd (omega arith)
ones_up a (suc c) h =
    let e : a * suc c - a ≡ a * c = omega arith in
    let f : suc c - 1 ≡ c = omega arith in
    rw (e, f) (mul_assoc a (suc c) c ∙ ap (λ (z : ℕ). a * z) (mul_comm (suc c) c) ∙ sym (mul_assoc a c (suc c)))

tops : (n k x : ℕ) (b : Bool) → k ≤ n → (x + 2 ^ n * cond b (2 ^ k - 1) 0) / 2 ^ k ≡ x / 2 ^ k + cond b (2 ^ n - 2 ^ (n - k)) 0
tops n k x false h = ap (λ (z : ℕ). z / 2 ^ k) (no_more (2 ^ n)) ∙ sym (add-zero (x / 2 ^ k))
  where
    no_more : (z : ℕ) → x + z * 0 ≡ x
    no_more z = omega arith
tops n k x true h =
    let m : 2 ^ n ≡ 2 ^ (n - k) * 2 ^ k = ap (λ (e : ℕ). 2 ^ e) (sym (sub-add_cancel h)) ∙ pow-add 2 (n - k) k in
    let e : 2 ^ n * (2 ^ k - 1) ≡ (2 ^ n - 2 ^ (n - k)) * 2 ^ k
    = ap (λ (z : ℕ). z * (2 ^ k - 1)) m ∙ ones_up (2 ^ (n - k)) (2 ^ k) (pow_pos k) ∙ ap (λ (z : ℕ). (z - 2 ^ (n - k)) * 2 ^ k) (sym m) in
    ap (λ (z : ℕ). (x + z) / 2 ^ k) e ∙ add-mul-div_right x (2 ^ n - 2 ^ (n - k)) (pow_pos k)

down_tops : (k : ℕ) (l : List Bool) → k ≤ length l → to_number (down (last false l) k l) ≡ to_number l / 2 ^ k + top_copies (length l) k (to_number l)
unfolding top_copies
down_tops k l h =
    to_number_drop k (l ++ replicate k (last false l))
    ∙ ap (λ (z : ℕ). z / 2 ^ k) (to_number_append l (replicate k (last false l)) ∙ ap (λ (z : ℕ). to_number l + 2 ^ length l * z) (copies k (last false l)))
    ∙ tops (length l) k (to_number l) (last false l) h
    ∙ ap (λ (b : Bool). to_number l / 2 ^ k + cond b (2 ^ length l - 2 ^ (length l - k)) 0) (last_top l ∙ sym (top_at l))

all_tops : (l : List Bool) → to_number (replicate (length l) (last false l)) ≡ top_copies (length l) (length l) (to_number l)
unfolding top_copies
all_tops l =
    copies (length l) (last false l)
    ∙ ap (λ (z : ℕ). cond (last false l) (2 ^ length l - 2 ^ z) 0) (sym (sub_self (length l)))
    ∙ ap (λ (b : Bool). cond b (2 ^ length l - 2 ^ (length l - length l)) 0) (last_top l ∙ sym (top_at l))

-- ---- the whole circuits
ite_on : (d : Bool) (l : List Bool) → map (λ (p : Bool). cond true p d) l ≡ l
ite_on d [] = refl
ite_on d (x ∷ l) = ap (λ (m : List Bool). x ∷ m) (ite_on d l)

ite_off : (d : Bool) (l : List Bool) → map (λ (p : Bool). cond false p d) l ≡ replicate (length l) d
ite_off d [] = refl
ite_off d (x ∷ l) = ap (λ (m : List Bool). d ∷ m) (ite_off d l)

-- the bits of y that the stages read make up y, where y is below the length
low_bits : (n : ℕ) (ys : List Bool) → to_number ys < n → to_number (take (clog2 n) ys) ≡ to_number ys
low_bits n ys h = to_number_take (clog2 n) ys ∙ mod-eq_of_lt (omega (arith, clog2_above n))

module _ (size xs ys : List Bool) (ey : length ys ≡ length xs) (es : length size ≡ length xs) (is : to_number size ≡ length xs) where
  test : bitblast_ult bool_gates ys size ≡ ltb (to_number ys) (length xs)
  test = ult_lt (pair ys size (ey ∙ sym es)) ∙ ap (ltb (to_number ys)) is

  pub shl_value : to_number (shl bool_gates size xs ys) ≡ shl_n (length xs) (to_number xs) (to_number ys)
  unfolding shl shl_n
  shl_value = rw test (go (ltb (to_number ys) (length xs)) refl)
    where
      go : (b : Bool) → ltb (to_number ys) (length xs) ≡ b
          → to_number (map (λ (p : Bool). cond b p false) (shl_stages bool_gates 0 (stage_bits bool_gates xs ys) xs)) ≡ cond b (to_number xs * 2 ^ to_number ys % 2 ^ length xs) 0
      go true e =
          let h : to_number ys < length xs = ltb→lt (to_number ys) (length xs) (subst T (sym e) tt) in
          ap to_number (ite_on false (shl_stages bool_gates 0 (stage_bits bool_gates xs ys) xs)
          ∙ shl_stages_value (length xs) 0 (stage_bits bool_gates xs ys) xs refl
          ∙ ap (λ (k : ℕ). up (length xs) k xs) (one-mul (to_number (stage_bits bool_gates xs ys)) ∙ low_bits (length xs) ys h))
          ∙ to_number_take (length xs) (replicate (to_number ys) false ++ xs)
          ∙ ap (λ (z : ℕ). z % 2 ^ length xs) (to_number_shifted (to_number ys) xs)
      go false e = ap to_number (ite_off false (shl_stages bool_gates 0 (stage_bits bool_gates xs ys) xs)) ∙ to_number_zeros (length (shl_stages bool_gates 0 (stage_bits bool_gates xs ys) xs))

  pub lshr_value : to_number (lshr bool_gates size xs ys) ≡ lshr_n (length xs) (to_number xs) (to_number ys)
  unfolding lshr lshr_n
  lshr_value = rw test (go (ltb (to_number ys) (length xs)) refl)
    where
      go : (b : Bool) → ltb (to_number ys) (length xs) ≡ b
          → to_number (map (λ (p : Bool). cond b p false) (shr_stages bool_gates false 0 (stage_bits bool_gates xs ys) xs)) ≡ cond b (to_number xs / 2 ^ to_number ys) 0
      go true e =
          let h : to_number ys < length xs = ltb→lt (to_number ys) (length xs) (subst T (sym e) tt) in
          ap to_number (ite_on false (shr_stages bool_gates false 0 (stage_bits bool_gates xs ys) xs)
          ∙ shr_stages_value false 0 (stage_bits bool_gates xs ys) xs
          ∙ ap (λ (k : ℕ). down false k xs) (one-mul (to_number (stage_bits bool_gates xs ys)) ∙ low_bits (length xs) ys h))
          ∙ down_zeros (to_number ys) xs
      go false e = ap to_number (ite_off false (shr_stages bool_gates false 0 (stage_bits bool_gates xs ys) xs)) ∙ to_number_zeros (length (shr_stages bool_gates false 0 (stage_bits bool_gates xs ys) xs))

  -- the standard's: the top bit comes in, and is every bit beyond the width
  pub ashr_value : to_number (ashr bool_gates true size xs ys) ≡ ashr_n (length xs) (to_number xs) (to_number ys)
  unfolding ashr ashr_n
  ashr_value = rw test (go (ltb (to_number ys) (length xs)) refl)
    where
      go : (b : Bool) → ltb (to_number ys) (length xs) ≡ b
          → to_number (map (λ (p : Bool). cond b p (last false xs)) (shr_stages bool_gates (last false xs) 0 (stage_bits bool_gates xs ys) xs))
          ≡ cond b (to_number xs / 2 ^ to_number ys + top_copies (length xs) (to_number ys) (to_number xs)) (top_copies (length xs) (length xs) (to_number xs))
      go true e =
          let h : to_number ys < length xs = ltb→lt (to_number ys) (length xs) (subst T (sym e) tt) in
          ap to_number (ite_on (last false xs) (shr_stages bool_gates (last false xs) 0 (stage_bits bool_gates xs ys) xs)
          ∙ shr_stages_value (last false xs) 0 (stage_bits bool_gates xs ys) xs
          ∙ ap (λ (k : ℕ). down (last false xs) k xs) (one-mul (to_number (stage_bits bool_gates xs ys)) ∙ low_bits (length xs) ys h))
          ∙ down_tops (to_number ys) xs (omega arith)
      go false e =
          ap to_number (ite_off (last false xs) (shr_stages bool_gates (last false xs) 0 (stage_bits bool_gates xs ys) xs)
          ∙ ap (λ (k : ℕ). replicate k (last false xs)) (length_shr_stages bool_gates (last false xs) 0 (stage_bits bool_gates xs ys) xs))
          ∙ all_tops xs

-- ---- rules 18 and 19
const_value : (ρ : Assign) (n x : ℕ) → value ρ (node (Const n x) nil) ≡ number n x
unfolding fold meaning
const_value ρ n x = refl

const_sort : (n : ℕ) → T (is_width n) → sort_of (node (Const n n) nil) ≡ bv n
unfolding fold guard
const_sort n w = rw (T_true (is_width n) w, T_true (ltb n (2 ^ n)) (lt→ltb n (2 ^ n) (lt_two_pow n)))

number_inj : (m n x y : ℕ) → number m x ≡ number n y → x ≡ y
number_inj m n x y e = cc

module _ (ρ : Assign) (x y : Term) (n : ℕ) (sx : sort_of x ≡ bv n) (sy : sort_of y ≡ bv n) (w : T (is_width n))
    (circuit : List Term → List Term → List Term → List Term) (on_bools : List Bool → List Bool → List Bool → List Bool)
    (reads : (size xs ys : List Term) (ss cs bs : List Bool) → map (value ρ) size ≡ map truth ss → map (value ρ) xs ≡ map truth cs → map (value ρ) ys ≡ map truth bs
    → map (value ρ) (circuit size xs ys) ≡ map truth (on_bools ss cs bs))
    (long : (size xs ys : List Bool) → length (on_bools size xs ys) ≡ length xs)
    (f : ℕ → ℕ → ℕ → ℕ)
    (right : (size xs ys : List Bool) → length ys ≡ length xs → length size ≡ length xs → to_number size ≡ length xs
    → to_number (on_bools size xs ys) ≡ f (length xs) (to_number xs) (to_number ys)) where
  size_is : size_bits x ≡ get_term_bits (node (Const n n) nil)
  size_is = ap (λ (s : Sort). get_term_bits (node (Const (sort_width s) (sort_width s)) nil)) sx

  shifted_holds : value ρ (shifted circuit x y) ≡ num2 f (value ρ x) (value ρ y)
  shifted_holds =
      let bx = bits_of ρ x n sx in
      let by = bits_of ρ y n sy in
      let bz = bits_of ρ (node (Const n n) nil) n (const_sort n w) in
      let ds = on_bools bz.bits bx.bits by.bits in
      let z : to_number bz.bits ≡ n = number_inj n n (to_number bz.bits) n (sym bz.means ∙ const_value ρ n n) in
      let r : map (value ρ) (circuit (size_bits x) (get_term_bits x) (get_term_bits y)) ≡ map truth ds
      = ap (λ (s : List Term). map (value ρ) (circuit s (get_term_bits x) (get_term_bits y))) size_is
      ∙ reads (get_term_bits (node (Const n n) nil)) (get_term_bits x) (get_term_bits y) bz.bits bx.bits by.bits bz.reads bx.reads by.reads in
      let l : length ds ≡ n = long bz.bits bx.bits by.bits ∙ bx.size in
      let m : to_number ds ≡ f n (to_number bx.bits) (to_number by.bits)
      = right bz.bits bx.bits by.bits (by.size ∙ sym bx.size) (bz.size ∙ sym bx.size) (z ∙ sym bx.size)
      ∙ ap (λ (k : ℕ). f k (to_number bx.bits) (to_number by.bits)) bx.size in
      bb_value ρ (circuit (size_bits x) (get_term_bits x) (get_term_bits y)) ds r ∙ ap₂ number l m ∙ sym (ap₂ (num2 f) bx.means by.means)

shl_reads : (ρ : Assign) (size xs ys : List Term) (ss cs bs : List Bool) → map (value ρ) size ≡ map truth ss → map (value ρ) xs ≡ map truth cs → map (value ρ) ys ≡ map truth bs
    → map (value ρ) (shl term_gates size xs ys) ≡ map truth (shl bool_gates ss cs bs)
shl_reads ρ size xs ys ss cs bs o p q =
    shl_hom (fold_hom (meaning ρ)) size xs ys ∙ rw (o, p, q) (sym (shl_hom (truth_hom ρ) ss cs bs))

pub shl_holds : (ρ : Assign) (x y : Term) (n : ℕ) → sort_of x ≡ bv n → sort_of y ≡ bv n → T (is_width n)
    → value ρ (shifted (shl term_gates) x y) ≡ value ρ (two BvShl x y)
unfolding fold meaning
shl_holds ρ x y n sx sy w = shifted_holds ρ x y n sx sy w (shl term_gates) (shl bool_gates) (shl_reads ρ) (length_shl bool_gates) shl_n shl_value

lshr_reads : (ρ : Assign) (size xs ys : List Term) (ss cs bs : List Bool) → map (value ρ) size ≡ map truth ss → map (value ρ) xs ≡ map truth cs → map (value ρ) ys ≡ map truth bs
    → map (value ρ) (lshr term_gates size xs ys) ≡ map truth (lshr bool_gates ss cs bs)
lshr_reads ρ size xs ys ss cs bs o p q =
    lshr_hom (fold_hom (meaning ρ)) size xs ys ∙ rw (o, p, q) (sym (lshr_hom (truth_hom ρ) ss cs bs))

pub lshr_holds : (ρ : Assign) (x y : Term) (n : ℕ) → sort_of x ≡ bv n → sort_of y ≡ bv n → T (is_width n)
    → value ρ (shifted (lshr term_gates) x y) ≡ value ρ (two BvLShr x y)
unfolding fold meaning
lshr_holds ρ x y n sx sy w = shifted_holds ρ x y n sx sy w (lshr term_gates) (lshr bool_gates) (lshr_reads ρ) (length_lshr bool_gates) lshr_n lshr_value

ashr_reads : (ρ : Assign) (size xs ys : List Term) (ss cs bs : List Bool) → map (value ρ) size ≡ map truth ss → map (value ρ) xs ≡ map truth cs → map (value ρ) ys ≡ map truth bs
    → map (value ρ) (ashr term_gates true size xs ys) ≡ map truth (ashr bool_gates true ss cs bs)
ashr_reads ρ size xs ys ss cs bs o p q =
    ashr_hom (fold_hom (meaning ρ)) true size xs ys ∙ rw (o, p, q) (sym (ashr_hom (truth_hom ρ) true ss cs bs))

pub ashr_standard_holds : (ρ : Assign) (x y : Term) (n : ℕ) → sort_of x ≡ bv n → sort_of y ≡ bv n → T (is_width n)
    → value ρ (shifted (ashr term_gates true) x y) ≡ value ρ (two BvAShr x y)
unfolding fold meaning
ashr_standard_holds ρ x y n sx sy w = shifted_holds ρ x y n sx sy w (ashr term_gates true) (ashr bool_gates true) (ashr_reads ρ) (length_ashr bool_gates true) ashr_n ashr_value
