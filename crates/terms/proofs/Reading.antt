-- Where a record ends, and which of its readings holds.
use mathlib.Core.Path.{◌≡◌, refl, sym, ap, ap₂, subst, ◌∙◌}
use mathlib.Core.Bool.{Bool, true, false, ◌&&◌, cond}
use mathlib.Core.List.{List, [], ◌∷◌}
use Rattle.std.specs.Prelude.{Option, None as none, Some as some}
use Prim.Native.Nat.{ℕ, ◌+◌, ◌-◌, ◌*◌, ◌/◌, ◌%◌, ◌<◌, ◌≤◌}
use native.Mathlib.Omega.{arith}
use lib.Dec.{leb, eqb, leb-zero}
use lib.ListN.{length, take, drop, length-drop}
use lib.Seq.{drop-drop, take-take}
use borrow.Author.Tests.{le-leb, lt-leb, eq-eqb, ne_eqb, leb-true, leb-false, eqb-true}
use Rattle.theory.specs.Limit.{number_bytes, max_arguments}
use Rattle.theory.specs.Kind.{Arity, exactly, many, arity, takes}
use Rattle.theory.specs.Record.{Bytes, little_endian, word, words, extent, whole, kind_of, body_of, fits, arguments, step, chain, misfit, premise_count, chain_front, chain_fits, Shape, plain, indexed, twice_indexed, valued, make, shapes, find_shape, shape_of, read, read_term, read_step, read_chain, read_back}
use Rattle.std.specs.Prelude.{None as Broken, Some as Ends}
use Rattle.terms.specs.Framing.{part, record_at, frame_of}
use Rattle.terms.specs.declared.kind.Form.{Form}
use Rattle.terms.specs.declared.kind.Kind.{Kind}
use Rattle.terms.specs.Bodies.{form_of, sized, fitting, made, least, most}
use Rattle.terms.specs.Numbered.{shape, number_of}
use Rattle.terms.proofs.Parts.{both, drop_take, word_take, words_take, length_part, whole_parts}
use Rattle.terms.proofs.Arms.{Sized, sized_whole}
use Rattle.terms.proofs.Forms.{shape_number}

-- ---- where a record ends
pub length_after : (n : ℕ) (bs : Bytes) → length (drop n bs) ≡ length bs - n
length_after n bs = length-drop n bs

-- ---- what a caller learns of the place from its frame
pub broken_learnt : (bs : Bytes) → Broken ≡ frame_of bs → whole bs ≡ false
unfolding frame_of
broken_learnt bs e = go (whole bs) e
  where
    go : (b : Bool) → Broken ≡ cond b (Ends (extent bs)) Broken → b ≡ false
    go true d = absurd (let z : ◌≡◌ {A = ℕ} 0 1 = cc in omega arith)
    go false d = refl

pub whole_learnt : (bs : Bytes) {n : ℕ} → Ends n ≡ frame_of bs → (whole bs ≡ true) × (n ≡ extent bs)
unfolding frame_of
whole_learnt bs {n} e = go (whole bs) e
  where
    go : (b : Bool) → Ends n ≡ cond b (Ends (extent bs)) Broken → (b ≡ true) × (n ≡ extent bs)
    go true d = (refl, cc)
    go false d = absurd (let z : ◌≡◌ {A = ℕ} 0 1 = cc in omega arith)

-- ---- a body's length, by its number of arguments
between : (a : Arity) (n : ℕ) → leb (least a) n && leb n (most a) ≡ takes a n
between (exactly k) n = go (leb k n) (leb n k) (eqb n k) refl refl refl
  where
    go : (p q r : Bool) → leb k n ≡ p → leb n k ≡ q → eqb n k ≡ r → p && q ≡ r
    go true true true a b c = refl
    go true true false a b c =
        let x = leb-true k n a in
        let y = leb-true n k b in
        let e : eqb n k ≡ true = eq-eqb n k (omega arith) in
        cc
    go true false true a b c = absurd (let x = leb-false n k b in let y = eqb-true n k c in omega arith)
    go true false false a b c = refl
    go false q true a b c = absurd (let x = leb-false k n a in let y = eqb-true n k c in omega arith)
    go false q false a b c = refl
between many n = refl

-- the arity does not change with the numbers in front
abbrev Steady : Shape → Type 0
Steady s = (b : Bytes) → arity (make s b) ≡ arity (make s [])

abbrev AllSteady : List Shape → Type 0
AllSteady [] = Unit {0}
AllSteady (plain o ∷ ss) = AllSteady ss
AllSteady (indexed f ∷ ss) = Steady (indexed f) × AllSteady ss
AllSteady (twice_indexed f ∷ ss) = Steady (twice_indexed f) × AllSteady ss
AllSteady (valued f ∷ ss) = Steady (valued f) × AllSteady ss

steady_split : (s : Shape) (ss : List Shape) → AllSteady (s ∷ ss) → Steady s × AllSteady ss
steady_split (plain o) ss h = (λ b. refl, h)
steady_split (indexed f) ss h = h
steady_split (twice_indexed f) ss h = h
steady_split (valued f) ss h = h

-- what is said of the shape, if there is one
abbrev IfSome : (Shape → Type 0) → Option Shape → Type 0
IfSome P none = Unit {0}
IfSome P (some s) = P s

find_steady : (k : ℕ) (ss : List Shape) → AllSteady ss → IfSome Steady (find_shape k ss)
find_steady k [] h = tt
find_steady k (s ∷ ss) h = go (eqb _ k) (find_steady k ss (steady_split s ss h).1)
  where
    go : (b : Bool) → IfSome Steady (find_shape k ss) → IfSome Steady (cond b (some s) (find_shape k ss))
    go true ih = (steady_split s ss h).0
    go false ih = ih

steady_of : (k : ℕ) → IfSome Steady (shape_of k)
unfolding shape_of
steady_of k = find_steady k shapes (λ b. refl, (λ b. refl, (λ b. refl, (λ b. refl, (λ b. refl, (λ b. refl, (λ b. refl, (λ b. refl, (λ b. refl, (λ b. refl, tt))))))))))

steady_kind : (k : Kind) → Steady (shape k)
steady_kind k = subst (IfSome Steady) (shape_number k) (steady_of (number_of k))

-- ---- a kind's body, by its form
-- what the test of length says of the body
pub test_of : (c size : ℕ) {f : Form} {r w : Bool} (k : Kind) (b : Bytes) → r ≡ sized c size f → f ≡ form_of (shape k) → length b ≡ size → r ≡ w
    → fitting c (shape k) b ≡ w
test_of c size k b e g l t =
    let m : sized c size (form_of (shape k)) ≡ fitting c (shape k) b = rw (← l, steady_kind k b, between (arity (make (shape k) []))) in
    sym (e ∙ ap (sized c size) g ∙ m) ∙ t

-- what a body says where it does not fit, and where it does
module _ (c : ℕ) {o : Option Shape} {s : Shape} (e : o ≡ some s) (b : Bytes) where
  pub term_misfit : fitting c s b ≡ false → misfit ≡ read_term c o b
  term_misfit f = rw (e, f)

  pub term_fits : fitting c s b ≡ true → made c s b ≡ read_term c o b
  term_fits f = rw (e, f)

-- ---- a step's body
abbrev step_form : Form
step_form = record { front = number_bytes; least = 0; most = max_arguments }

step_test : (c : ℕ) (b : Bytes) {size : ℕ} → length b ≡ size → sized c size step_form ≡ fits c number_bytes (λ n. leb n max_arguments) b
step_test c b e = rw (← e, leb-zero)

module _ (c : ℕ) (job : Bytes) (body size : ℕ) (h : body + size ≤ length job) where
  -- the literals lie in the body, and are not too many
  pub step_sizes : sized c size step_form ≡ true → Sized c number_bytes size × ((size - number_bytes) / c ≤ max_arguments)
  step_sizes e =
      let p = both (leb number_bytes size) _ e in
      let q = both (eqb ((size - number_bytes) % c) 0) _ p.1 in
      let r = both (leb 0 ((size - number_bytes) / c)) _ q.1 in
      (record { long = leb-true number_bytes size p.0; even = eqb-true ((size - number_bytes) % c) 0 q.0 }, leb-true _ max_arguments r.1)

  -- and end where it does
  pub step_end : sized c size step_form ≡ true → body + number_bytes + c * ((size - number_bytes) / c) ≤ length job
  step_end e = let w = sized_whole (step_sizes e).0 in omega arith

  pub step_fits : sized c size step_form ≡ true → {n : ℕ} → n ≡ word (drop body job)
      → step n (words c ((size - number_bytes) / c) (drop (body + number_bytes) job)) ≡ read_step c (part job body size)
  step_fits e {n} f =
      let b = part job body size in
      let len : length b ≡ size = length_part job body size h in
      let s = (step_sizes e).0 in
      let l = s.long in
      let v = sized_whole s in
      let k = (size - number_bytes) / c in
      let t : fits c number_bytes (λ i. leb i max_arguments) b ≡ true = sym (step_test c b len) ∙ e in
      let w : word b ≡ n = word_take size (drop body job) l ∙ sym f in
      let a : arguments c number_bytes b ≡ words c k (drop (body + number_bytes) job)
      = ap (λ (m : ℕ). words c ((m - number_bytes) / c) (drop number_bytes b)) len
      ∙ ap (words c k) (drop_take number_bytes size (drop body job))
      ∙ words_take c k (size - number_bytes) (drop number_bytes (drop body job)) (omega arith)
      ∙ ap (words c k) (drop-drop number_bytes body job) in
      sym (ap (λ (q : Bool). cond q (step (word b) (arguments c number_bytes b)) misfit) t ∙ ap₂ step w a)

  -- ---- a chain's body

  module _ (l : chain_front ≤ size) {n : ℕ} (f : n ≡ word (drop (body + number_bytes) job)) where
    -- the number of premises
    chain_count : premise_count (part job body size) ≡ n
    chain_count =
        ap word (drop_take number_bytes size (drop body job)) ∙ word_take (size - number_bytes) (drop number_bytes (drop body job)) (omega arith)
        ∙ ap word (drop-drop number_bytes body job) ∙ sym f

    chain_test : chain_fits c (part job body size) ≡ (takes many n && eqb size (chain_front + number_bytes * n + c))
    chain_test = rw (length_part job body size h, chain_count, le-leb chain_front size l)

    -- no premise
    pub chain_none : n < 1 → misfit ≡ read_chain c (part job body size)
    chain_none k = rw (chain_test, lt-leb 1 n k)

    -- too many
    pub chain_many : max_arguments < n → misfit ≡ read_chain c (part job body size)
    chain_many k = rw (chain_test, le-leb 1 n (omega arith), lt-leb n max_arguments k)

    -- another length
    pub chain_length : 1 ≤ n → n ≤ max_arguments → (size ≡ chain_front + number_bytes * n + c → ⊥) → misfit ≡ read_chain c (part job body size)
    chain_length k m e = rw (chain_test, le-leb 1 n k, le-leb n max_arguments m, ne_eqb size (chain_front + number_bytes * n + c) e)

    pub chain_made : 1 ≤ n → n ≤ max_arguments → size ≡ chain_front + number_bytes * n + c
        → {rule literal : ℕ} → rule ≡ word (drop body job) → literal ≡ little_endian (take c (drop (body + (chain_front + number_bytes * n)) job))
        → chain rule (words number_bytes n (drop (body + chain_front) job)) literal ≡ read_chain c (part job body size)
    chain_made k m e {rule} {literal} p q =
        let b = part job body size in
        let t : chain_fits c b ≡ true = rw (chain_test, le-leb 1 n k, le-leb n max_arguments m, eq-eqb size (chain_front + number_bytes * n + c) e) in
        let w : word b ≡ rule = word_take size (drop body job) (omega arith) ∙ sym p in
        let a : words number_bytes n (drop chain_front b) ≡ words number_bytes n (drop (body + chain_front) job)
        = ap (words number_bytes n) (drop_take chain_front size (drop body job))
        ∙ words_take number_bytes n (size - chain_front) (drop chain_front (drop body job)) (omega arith)
        ∙ ap (words number_bytes n) (drop-drop chain_front body job) in
        let z : little_endian (take c (drop (chain_front + number_bytes * n) b)) ≡ literal
        = ap (λ (bs : Bytes). little_endian (take c bs)) (drop_take (chain_front + number_bytes * n) size (drop body job))
        ∙ ap little_endian (take-take c (size - (chain_front + number_bytes * n)) (drop (chain_front + number_bytes * n) (drop body job)) (omega arith))
        ∙ ap (λ (bs : Bytes). little_endian (take c bs)) (drop-drop (chain_front + number_bytes * n) body job) ∙ sym q in
        sym (rw (t, chain_count, w, a, z))

-- ---- a record's kind and body, by its place in the job
-- the record lies in the job, and has a kind
pub record Stands (job : Bytes) (at : ℕ) : Type 0 where
  pub low : number_bytes ≤ word (drop at job)
  pub end : at + (number_bytes + word (drop at job)) ≤ length job

pub stands : (job : Bytes) (at : ℕ) → whole (drop at job) ≡ true → Stands job at
stands job at w =
    let p = whole_parts (drop at job) w in
    let l = length-drop at job in
    let f = p.fit in
    record { low = p.low; end = omega arith }

module _ {job : Bytes} {at : ℕ} (s : Stands job at) where
  pub kind_there : {k : ℕ} → k ≡ word (drop (at + number_bytes) job) → kind_of (record_at job at) ≡ k
  kind_there e =
      let bs = drop at job in
      let l = s.low in
      ap word (drop_take number_bytes (extent bs) bs) ∙ word_take (extent bs - number_bytes) (drop number_bytes bs) (omega arith)
      ∙ ap word (drop-drop number_bytes at job) ∙ sym e

  pub body_there : {n : ℕ} → n ≡ word (drop at job) → body_of (record_at job at) ≡ part job (at + number_bytes * 2) (n - number_bytes)
  body_there {n} f =
      let bs = drop at job in
      let e : extent bs - (number_bytes + number_bytes) ≡ n - number_bytes = omega arith in
      drop_take (number_bytes + number_bytes) (extent bs) bs ∙ rw (drop-drop, e)

module _ (c : ℕ) (r : Bytes) {b : Bytes} (h : body_of r ≡ b) where
  pub read_as_step : kind_of r ≡ 100 → read_step c b ≡ read c r
  unfolding read
  read_as_step e = rw (eq-eqb (kind_of r) 100 e, ← h)

  pub read_as_back : kind_of r ≡ 101 → read_back c b ≡ read c r
  unfolding read
  read_as_back e = rw (ne_eqb (kind_of r) 100 (λ f. omega arith), ne_eqb (kind_of r) 104 (λ f. omega arith), eq-eqb (kind_of r) 101 e, ← h)

  pub read_as_chain : kind_of r ≡ 104 → read_chain c b ≡ read c r
  unfolding read
  read_as_chain e = rw (ne_eqb (kind_of r) 100 (λ f. omega arith), eq-eqb (kind_of r) 104 e, ← h)

  pub read_as_term : {k : ℕ} → kind_of r ≡ k → (k ≡ 100 → ⊥) → (k ≡ 101 → ⊥) → (k ≡ 104 → ⊥) → read_term c (shape_of k) b ≡ read c r
  unfolding read
  read_as_term {k} e f g i = rw (e, ne_eqb k 100 f, ne_eqb k 104 i, ne_eqb k 101 g, ← h)
