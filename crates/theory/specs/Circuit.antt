-- The circuits of bitvectors.rs, each once, over any gates. A bit-vector is a list of wires, bit 0 first;
-- the lists of one circuit have one length.
use Rattle.std.specs.Prelude.{Bool, true, false, ◌&&◌, cond, List, [], ◌∷◌, ◌++◌, map, ℕ, zero, suc, ◌^◌, length, take, drop, replicate, leb}
use Rattle.theory.specs.Gates.{Gates}

-- a gate between the bits of two lists
unfoldable pub zip_with : {A : Type 0} → (A → A → A) → List A → List A → List A
zip_with f [] ys = []
zip_with f (x ∷ xs) [] = []
zip_with f (x ∷ xs) (y ∷ ys) = f x y ∷ zip_with f xs ys

module _ {A : Type 0} where
  -- the last bit, and d where there is none
  unfoldable pub last : A → List A → A
  last d [] = d
  last d (x ∷ []) = x
  last d (x ∷ x' ∷ xs) = last d (x' ∷ xs)

  -- all but the last bit
  abbrev pub drop_top : List A → List A
  drop_top [] = []
  drop_top (x ∷ xs) = take (length xs) (x ∷ xs)

-- the width's logarithm, rounded up: the least k, from the one given, with n at most 2 ^ k
abbrev pub clog2_from : ℕ → ℕ → ℕ → ℕ
clog2_from zero k n = k
clog2_from (suc fuel) k n = elim (leb n (2 ^ k)) [ true ↦ k | false ↦ clog2_from fuel (suc k) n ]

-- the width's logarithm, rounded up; 0 at width 1
unfoldable pub clog2 : ℕ → ℕ
clog2 n = clog2_from n 0 n

module _ {A : Type 0} (G : Gates A) where
  -- ---- ripple_carry_adder
  -- a bit of the sum: x, y and the carry into it
  abbrev pub sum_bit : A → A → A → A
  sum_bit x y c = G.xor_gate (G.xor_gate x y) c

  -- the carry out of a bit: or (and x y) (and (xor x y) c)
  abbrev pub next_carry : A → A → A → A
  next_carry x y c = G.or_gate (G.and_gate x y) (G.and_gate (G.xor_gate x y) c)

  -- the sum, from a carry into bit 0
  unfoldable pub ripple_carry_adder : A → List A → List A → List A
  ripple_carry_adder c [] ys = []
  ripple_carry_adder c (x ∷ xs) [] = []
  ripple_carry_adder c (x ∷ xs) (y ∷ ys) = sum_bit x y c ∷ ripple_carry_adder (next_carry x y c) xs ys

  -- the last carry that the adder lists: the one into the top bit
  unfoldable pub last_carry : A → List A → List A → A
  last_carry c [] ys = c
  last_carry c (x ∷ []) ys = c
  last_carry c (x ∷ x' ∷ xs) [] = c
  last_carry c (x ∷ x' ∷ xs) (y ∷ ys) = last_carry (next_carry x y c) (x' ∷ xs) ys

  -- the carry out of the top bit
  unfoldable pub carry_out : A → List A → List A → A
  carry_out c [] ys = c
  carry_out c (x ∷ xs) [] = c
  carry_out c (x ∷ xs) (y ∷ ys) = carry_out (next_carry x y c) xs ys

  -- neg: the sum of the bits inverted and of `false`, with a carry in
  abbrev pub negate : List A → List A
  negate xs = ripple_carry_adder G.true_gate (map G.not_gate xs) (map (λ (x : A). G.false_gate) xs)

  -- ---- bitblast_ult: from bit 0 up, with what the bits below say
  -- one more bit: equal and the bits below say so, or x 0 and y 1
  abbrev pub less_step : A → A → A → A
  less_step x y r = G.or_gate (G.and_gate (G.eq_gate x y) r) (G.and_gate (G.not_gate x) y)

  -- r is what the bits below say
  unfoldable pub ult_from : A → List A → List A → A
  ult_from r [] ys = r
  ult_from r (x ∷ xs) [] = r
  ult_from r (x ∷ xs) (y ∷ ys) = ult_from (less_step x y r) xs ys

  -- x < y
  unfoldable pub bitblast_ult : List A → List A → A
  bitblast_ult [] ys = G.false_gate
  bitblast_ult (x ∷ xs) [] = G.false_gate
  bitblast_ult (x ∷ xs) (y ∷ ys) = ult_from (G.and_gate (G.not_gate x) y) xs ys

  -- ---- slt: the top bit the other way round
  -- the top bit: x negative and y not
  abbrev pub sign_step : A → A → A → A
  sign_step x y r = G.or_gate (G.and_gate (G.eq_gate x y) r) (G.and_gate x (G.not_gate y))

  -- the last bit of the list is the top bit
  unfoldable pub slt_from : A → List A → List A → A
  slt_from r [] ys = r
  slt_from r (x ∷ xs) [] = r
  slt_from r (x ∷ []) (y ∷ ys) = sign_step x y r
  slt_from r (x ∷ x' ∷ xs) (y ∷ ys) = slt_from (less_step x y r) (x' ∷ xs) ys

  -- x < y as signed numbers; at width 1 the only bit is the sign
  unfoldable pub slt : List A → List A → A
  slt [] ys = G.false_gate
  slt (x ∷ xs) [] = G.false_gate
  slt (x ∷ []) (y ∷ ys) = G.and_gate x (G.not_gate y)
  slt (x ∷ x' ∷ xs) (y ∷ ys) = slt_from (G.and_gate (G.not_gate x) y) (x' ∷ xs) ys

  -- ---- equality: one equation as it is, several under an And
  -- one alone, several under an And
  unfoldable pub gather : List A → A
  gather [] = G.true_gate
  gather (x ∷ []) = x
  gather (x ∷ x' ∷ xs) = G.all_gate (x ∷ x' ∷ xs)

  -- x = y, bit by bit
  abbrev pub equality : List A → List A → A
  equality xs ys = gather (zip_with G.eq_gate xs ys)

  -- ---- shift_add_multiplier: a row is x where a bit of y is set
  -- and y x_i, for every bit of x
  abbrev pub partial_products : A → List A → List A
  partial_products y xs = map (G.and_gate y) xs

  -- the rows that are left, added to what is summed so far, each one place further up; the adder cuts a row to the places left
  unfoldable pub add_rows : List A → List A → List A → List A
  add_rows xs acc [] = acc
  add_rows xs [] (y ∷ ys) = []
  add_rows xs (a ∷ acc) (y ∷ ys) = a ∷ add_rows xs (ripple_carry_adder G.false_gate acc (partial_products y xs)) ys

  -- the product, at the width of x
  unfoldable pub shift_add_multiplier : List A → List A → List A
  shift_add_multiplier xs [] = []
  shift_add_multiplier xs (y ∷ ys) = add_rows xs (partial_products y xs) ys

  -- ---- bitblast_shift_op: stage s shifts by 2 ^ s where bit s of y is set
  -- left: bit i is ite y false p[i] below 2 ^ s, else ite y p[i - 2 ^ s] p[i]
  unfoldable pub shl_bits : A → List A → List A → List A
  shl_bits y [] qs = []
  shl_bits y (p ∷ ps) [] = []
  shl_bits y (p ∷ ps) (q ∷ qs) = G.ite_gate y q p ∷ shl_bits y ps qs

  -- stage s to the left: beside bit i stands bit i - 2 ^ s, or false
  abbrev pub shl_stage : ℕ → A → List A → List A
  shl_stage s y ps = shl_bits y ps (replicate (2 ^ s) G.false_gate ++ ps)

  -- a stage for each bit of y that is read, from stage s on
  unfoldable pub shl_stages : ℕ → List A → List A → List A
  shl_stages s [] ps = ps
  shl_stages s (y ∷ ys) ps = shl_stages (suc s) ys (shl_stage s y ps)

  -- right: bit i is ite (not y) p[i] p[i + 2 ^ s] where there is such a bit, else ite y fill p[i]
  unfoldable pub shr_bits : A → A → List A → List A → List A
  shr_bits fill y [] qs = []
  shr_bits fill y (p ∷ ps) [] = G.ite_gate y fill p ∷ shr_bits fill y ps []
  shr_bits fill y (p ∷ ps) (q ∷ qs) = G.ite_gate (G.not_gate y) p q ∷ shr_bits fill y ps qs

  -- stage s to the right: beside bit i stands bit i + 2 ^ s, as long as there is one
  abbrev pub shr_stage : A → ℕ → A → List A → List A
  shr_stage fill s y ps = shr_bits fill y ps (drop (2 ^ s) ps)

  -- a stage for each bit of y that is read, from stage s on
  unfoldable pub shr_stages : A → ℕ → List A → List A → List A
  shr_stages fill s [] ps = ps
  shr_stages fill s (y ∷ ys) ps = shr_stages fill (suc s) ys (shr_stage fill s y ps)

  -- last: every bit is `beyond` unless y is below the width; `size` are the bits of the width as a constant of that width
  abbrev pub bounded : A → List A → List A → List A → List A
  bounded beyond size ys = map (λ p. G.ite_gate (bitblast_ult ys size) p beyond)

  -- the bits of y that the stages read
  abbrev pub stage_bits : List A → List A → List A
  stage_bits xs ys = take (clog2 (length xs)) ys

  -- shift left
  unfoldable pub shl : List A → List A → List A → List A
  shl size xs ys = bounded G.false_gate size ys (shl_stages 0 (stage_bits xs ys) xs)

  -- shift right, with false coming in
  unfoldable pub lshr : List A → List A → List A → List A
  lshr size xs ys = bounded G.false_gate size ys (shr_stages G.false_gate 0 (stage_bits xs ys) xs)

  -- shift right, with the top bit coming in. Where y is not below the width Rust has all false;
  -- the standard has copies of the top bit there too
  unfoldable pub ashr : Bool → List A → List A → List A → List A
  ashr standard size xs ys =
      let top = last G.false_gate xs in
      bounded (cond standard top G.false_gate) size ys (shr_stages top 0 (stage_bits xs ys) xs)

  -- ---- bitblast_udiv_urem_rec, as Rust has it; and with two changes, where `standard`, by which it is the standard's division
  -- as many bits, all false
  abbrev pub falses : List A → List A
  falses = map (λ (x : A). G.false_gate)

  -- every bit: c ? p : q
  abbrev pub choose : A → List A → List A → List A
  choose c = zip_with (G.ite_gate c)

  -- the remainder shifted left, with bit 0 of x added
  abbrev pub next_remainder : A → List A → List A
  next_remainder x0 r =
      ripple_carry_adder (G.ite_gate (G.eq_gate x0 G.true_gate) G.true_gate G.false_gate)
      (G.false_gate ∷ drop_top r) (falses (x0 ∷ drop_top r))

  module _ (standard : Bool) where
    -- x - y has no carry, by which x is below y: Rust takes the carry into the top bit, the standard's is the one out of it
    abbrev pub no_carry : List A → List A → A
    no_carry xs ys =
        G.not_gate (cond standard (carry_out G.true_gate xs (map G.not_gate ys))
        (last_carry G.true_gate xs (map G.not_gate ys)))

    -- the remainder where it is not below y: Rust has every bit true, the standard has the bits of the difference
    abbrev pub reduced : List A → List A → List A
    reduced r ys = cond standard (ripple_carry_adder G.true_gate r (map G.not_gate ys)) (map (λ (b : A). G.true_gate) r)

    -- one step: from the quotient q and the remainder r of x shifted right
    unfoldable pub divide_step : A → List A → List A → List A × List A → List A × List A
    divide_step x0 xs ys qr =
        let r = next_remainder x0 qr.1 in
        let sign = no_carry r ys in
        let below = no_carry (x0 ∷ xs) ys in
        let q = G.ite_gate sign G.false_gate G.true_gate ∷ drop_top qr.0 in
        (map (λ b. G.ite_gate below G.false_gate b) q, choose below (x0 ∷ xs) (choose sign r (reduced r ys)))

  -- every bit of y is false
  abbrev pub is_zero : List A → A
  is_zero ys = G.all_gate (map (λ y. G.eq_gate y G.false_gate) ys)

  -- `literally_false` tests a wire; a literally false dividend gives all false at once
  module _ (literally_false : A → Bool) where
    -- every bit is literally false
    abbrev pub all_false : List A → Bool
    all_false [] = true
    all_false (x ∷ xs) = literally_false x && all_false xs

  module _ (standard : Bool) (literally_false : A → Bool) where
    -- the quotient and the remainder; n bits are left
    unfoldable pub bitblast_udiv_urem_rec : ℕ → List A → List A → List A × List A
    bitblast_udiv_urem_rec zero xs ys = (falses xs, falses xs)
    bitblast_udiv_urem_rec (suc n) [] ys = ([], [])
    bitblast_udiv_urem_rec (suc n) (x ∷ xs) ys =
        elim (all_false literally_false (x ∷ xs)) [
          | true ↦ (falses (x ∷ xs), falses (x ∷ xs))
          | false ↦ divide_step standard x xs ys (bitblast_udiv_urem_rec n (xs ++ (G.false_gate ∷ [])) ys)
        ]

    -- bitblast_udiv_urem: all true, and x, where y is zero
    unfoldable pub udiv : List A → List A → List A
    udiv xs ys = map (λ q. G.ite_gate (is_zero ys) G.true_gate q) (bitblast_udiv_urem_rec (length xs) xs ys).0

    -- the remainder
    unfoldable pub urem : List A → List A → List A
    urem xs ys = choose (is_zero ys) xs (bitblast_udiv_urem_rec (length xs) xs ys).1
