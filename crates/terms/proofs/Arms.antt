-- What a body that fits its kind says, in the numbers at its place in the job.
use mathlib.Core.Path.{◌≡◌, sym, ap, ap₂, subst, ◌∙◌}
use mathlib.Core.Bool.{Bool, true}
use mathlib.Core.List.{List, [], ◌∷◌, ◌++◌}
use Prim.Native.Nat.{ℕ, ◌+◌, ◌-◌, ◌*◌, ◌/◌, ◌%◌, ◌≤◌}
use native.Mathlib.Nat.{div-add-mod}
use native.Mathlib.Omega.{arith}
use lib.Dec.{leb, eqb}
use lib.ListN.{length, take, drop}
use lib.Seq.{drop-drop}
use borrow.Author.Tests.{leb-true, eqb-true}
use Rattle.theory.specs.Limit.{number_bytes, value_bytes, max_arguments}
use Rattle.theory.specs.Kind.{Op, Arity, exactly, many, arity, takes}
use Rattle.theory.specs.Record.{Bytes, little_endian, word, words, fits, arguments, term, Item, Shape, plain, indexed, twice_indexed, valued, front, make}
use Rattle.terms.specs.Framing.{part}
use Rattle.terms.specs.Decoded.{Inside, words_in}
use Rattle.terms.specs.declared.Args.{Args}
use Rattle.terms.specs.Bodies.{Length, fitting, made}
use Rattle.terms.specs.declared.kind.Kind.{Kind}
use Rattle.terms.specs.declared.records.Body.{Body}
use Rattle.terms.specs.Records.{bytes_of}
use Rattle.terms.specs.Numbered.{shape}
use Rattle.terms.proofs.Parts.{both, drop_take, words_take, make_take, length_part}

-- a body stands in the job, and has the length of its shape; `before` bytes stand before its arguments
pub record Fits (c : ℕ) (job : Bytes) (s : Shape) (body size before : ℕ) : Type 0 where
  pub length_b : Length c
  pub end : body + size ≤ length job
  pub fit : fitting c s (part job body size) ≡ true
  pub front_is : before ≡ front s

-- ---- the parts of a test of length
pub record Sized (c before size : ℕ) : Type 0 where
  pub long : before ≤ size
  pub even : (size - before) % c ≡ 0

-- so the arguments are all of the body after the front
pub sized_whole : {c before size : ℕ} → Sized c before size → before + c * ((size - before) / c) ≡ size
sized_whole {c} {before} {size} s = let l = s.long in let e = s.even in let d = div-add-mod (size - before) c in omega arith

fits_sized : (c before : ℕ) (allowed : ℕ → Bool) (b : Bytes) → fits c before allowed b ≡ true → Sized c before (length b) × (allowed ((length b - before) / c) ≡ true)
fits_sized c before allowed b e =
    let p = both (leb before (length b)) _ e in
    let q = both (eqb ((length b - before) % c) 0) _ p.1 in
    (record { long = leb-true before (length b) p.0; even = eqb-true ((length b - before) % c) 0 q.0 }, q.1)

module _ {c : ℕ} {job : Bytes} {s : Shape} {body size before : ℕ} (h : Fits c job s body size before) where
  -- the arguments after the front, as many as there are
  said : (n : ℕ) → Sized c (front s) size → (size - front s) / c ≡ n
      → term (make s (drop body job)) (words c n (drop (front s) (drop body job))) ≡ made c s (part job body size)
  said n z g =
      let len : length (part job body size) ≡ size = length_part job body size h.end in
      let k : (length (part job body size) - front s) / c ≡ n = ap (λ (m : ℕ). (m - front s) / c) len ∙ g in
      let l = z.long in
      let w : c * n ≤ size - front s = (let v = sized_whole z in let u : c * ((size - front s) / c) ≡ c * n = ap (λ (m : ℕ). c * m) g in omega arith) in
      let a : words c n (drop (front s) (drop body job)) ≡ arguments c (front s) (part job body size)
      = sym (ap (λ (m : ℕ). words c m (drop (front s) (part job body size))) k
      ∙ ap (words c n) (drop_take (front s) size (drop body job))
      ∙ words_take c n (size - front s) (drop (front s) (drop body job)) w) in
      ap₂ term (sym (make_take s size (drop body job) l)) a

  -- a shape with n arguments
  exactly_there : (n : ℕ) → ((b : Bytes) → arity (make s b) ≡ exactly n)
      → term (make s (drop body job)) (words c n (drop before (drop body job))) ≡ made c s (part job body size)
  exactly_there n a =
      let b = part job body size in
      let p = fits_sized c (front s) (takes (exactly n)) b (sym (ap (λ (r : Arity). fits c (front s) (takes r) b) (a b)) ∙ h.fit) in
      let len : length b ≡ size = length_part job body size h.end in
      let t : (length b - front s) / c ≡ n = eqb-true _ n p.1 in
      ap (λ (m : ℕ). term (make s (drop body job)) (words c n (drop m (drop body job)))) h.front_is
      ∙ said n (subst (Sized c (front s)) len p.0) (ap (λ (m : ℕ). (m - front s) / c) (sym len) ∙ t)

-- a kind with a list of arguments: it lies in the job
pub many_there : {c : ℕ} {job : Bytes} {body size before : ℕ} (o : Op) → Fits c job (plain o) body size before → arity o ≡ many
    → {list : Args} → list ≡ record { at = body; count = size / c; bytes = c }
    → (term o (words_in job list) ≡ made c (plain o) (part job body size)) × Inside job list
many_there {c} {job} {body} {size} {before} o h a {list} n =
    let b = part job body size in
    let p = fits_sized c 0 (takes many) b (sym (ap (λ (r : Arity). fits c 0 (takes r) b) a) ∙ h.fit) in
    let len : length b ≡ size = length_part job body size h.end in
    let q : (length b - 0) / c ≤ max_arguments = leb-true _ max_arguments (both (leb 1 ((length b - 0) / c)) _ p.1).1 in
    let none_before : length b - 0 ≡ size = omega arith in
    let z : Sized c 0 size = subst (Sized c 0) len p.0 in
    let w : 0 + c * ((size - 0) / c) ≡ size = sized_whole z in
    let l = h.end in
    let i : (size - 0) / c ≡ size / c = ap (λ (m : ℕ). m / c) (let u : size - 0 ≡ size = omega arith in u) in
    let t : c * ((size - 0) / c) ≡ c * (size / c) = ap (λ (m : ℕ). c * m) i in
    let r : size / c ≤ max_arguments = subst (λ (m : ℕ). m / c ≤ max_arguments) none_before q in
    subst (λ (list : Args). (term o (words_in job list) ≡ made c (plain o) (part job body size)) × Inside job list) (sym n)
    (said h (size / c) z i, record { end = omega arith; few = r; sized = h.length_b })

-- ---- each form of body: what the numbers that were read say
-- number i of those in front, and argument i
abbrev index_at : Bytes → ℕ → ℕ → ℕ
index_at job body i = word (drop (body + number_bytes * i) job)

abbrev argument_in : ℕ → Bytes → ℕ → ℕ → ℕ
argument_in c job first i = little_endian (take c (drop (first + c * i) job))

index_first : (job : Bytes) (body : ℕ) → index_at job body 0 ≡ word (drop body job)
index_first job body = let e : body + number_bytes * 0 ≡ body = omega arith in ap (λ (m : ℕ). word (drop m job)) e

argument_moves : (c : ℕ) (job : Bytes) (first i : ℕ) {at : ℕ} → first + c * i ≡ at → {x : ℕ} → x ≡ argument_in c job first i → x ≡ little_endian (take c (drop at job))
argument_moves c job first i e p = p ∙ ap (λ (m : ℕ). little_endian (take c (drop m job))) e

module _ {c : ℕ} {job : Bytes} {s : Shape} {body size before : ℕ} (h : Fits c job s body size before) where
  -- the arguments that were read
  arg_1 : {x : ℕ} → x ≡ argument_in c job (body + before) 0 → words c 1 (drop before (drop body job)) ≡ x ∷ []
  arg_1 p =
      let e : body + before + c * 0 ≡ body + before = omega arith in
      ap (λ (n : ℕ). n ∷ []) (ap (λ (bs : Bytes). little_endian (take c bs)) (drop-drop before body job) ∙ sym (argument_moves c job (body + before) 0 e p))

  module _ {x y : ℕ} (p : x ≡ argument_in c job (body + before) 0) (q : y ≡ argument_in c job (body + before) 1) where
    arg_2 : words c 2 (drop before (drop body job)) ≡ x ∷ y ∷ []
    arg_2 =
        let e : body + before + c * 0 ≡ body + before = omega arith in
        let f : body + before + c * 1 ≡ body + before + c = omega arith in
        ap₂ (λ (m n : ℕ). m ∷ n ∷ []) (ap (λ (bs : Bytes). little_endian (take c bs)) (drop-drop before body job) ∙ sym (argument_moves c job (body + before) 0 e p))
        (ap (λ (bs : Bytes). little_endian (take c bs)) (ap (drop c) (drop-drop before body job) ∙ drop-drop c (body + before) job) ∙ sym (argument_moves c job (body + before) 1 f q))

    arg_3 : {z : ℕ} → z ≡ argument_in c job (body + before) 2 → words c 3 (drop before (drop body job)) ≡ x ∷ y ∷ z ∷ []
    arg_3 r =
        let e : body + before + c * 2 ≡ body + before + c + c = omega arith in
        ap₂ (λ (ms : List ℕ) (n : ℕ). ms ++ (n ∷ [])) arg_2
        (ap (λ (bs : Bytes). little_endian (take c bs)) (ap (drop c) (ap (drop c) (drop-drop before body job) ∙ drop-drop c (body + before) job)
        ∙ drop-drop c (body + before + c) job) ∙ sym (argument_moves c job (body + before) 2 e r))

module _ {c : ℕ} {job : Bytes} {body size before : ℕ} (o : Op) (h : Fits c job (plain o) body size before) where
  pub plain_one : arity o ≡ exactly 1 → {x : ℕ} → x ≡ argument_in c job (body + before) 0
      → term o (x ∷ []) ≡ made c (plain o) (part job body size)
  plain_one a p = ap (term o) (sym (arg_1 h p)) ∙ exactly_there h 1 (λ b. a)

  module _ {x y : ℕ} (p : x ≡ argument_in c job (body + before) 0) (q : y ≡ argument_in c job (body + before) 1) where
    pub plain_two : arity o ≡ exactly 2 → term o (x ∷ y ∷ []) ≡ made c (plain o) (part job body size)
    plain_two a = ap (term o) (sym (arg_2 h p q)) ∙ exactly_there h 2 (λ b. a)

    pub plain_three : arity o ≡ exactly 3 → {z : ℕ} → z ≡ argument_in c job (body + before) 2
        → term o (x ∷ y ∷ z ∷ []) ≡ made c (plain o) (part job body size)
    plain_three a r = ap (term o) (sym (arg_3 h p q r)) ∙ exactly_there h 3 (λ b. a)

module _ {c : ℕ} {job : Bytes} {body size before : ℕ} (o : ℕ → Op) (h : Fits c job (indexed o) body size before) {i : ℕ} (p : i ≡ index_at job body 0) where
  pub indexed_one : ((i : ℕ) → arity (o i) ≡ exactly 1) → {x : ℕ} → x ≡ argument_in c job (body + before) 0
      → term (o i) (x ∷ []) ≡ made c (indexed o) (part job body size)
  indexed_one a q = ap₂ (λ (n : ℕ) (ks : List ℕ). term (o n) ks) (p ∙ index_first job body) (sym (arg_1 h q)) ∙ exactly_there h 1 (λ b. a (word b))

module _ {c : ℕ} {job : Bytes} {body size before : ℕ} (o : ℕ → ℕ → Op) (h : Fits c job (twice_indexed o) body size before) {i j : ℕ}
    (p : i ≡ index_at job body 0) (q : j ≡ index_at job body 1) where
  index_2 : j ≡ word (drop number_bytes (drop body job))
  index_2 = let e : body + number_bytes * 1 ≡ body + number_bytes = omega arith in q ∙ ap (λ (m : ℕ). word (drop m job)) e ∙ rw drop-drop

  pub twice_none : ((i j : ℕ) → arity (o i j) ≡ exactly 0) → term (o i j) [] ≡ made c (twice_indexed o) (part job body size)
  twice_none a = ap₂ (λ (m n : ℕ). term (o m n) []) (p ∙ index_first job body) index_2 ∙ exactly_there h 0 (λ b. a (word b) (word (drop number_bytes b)))

  pub twice_one : ((i j : ℕ) → arity (o i j) ≡ exactly 1) → {x : ℕ} → x ≡ argument_in c job (body + before) 0
      → term (o i j) (x ∷ []) ≡ made c (twice_indexed o) (part job body size)
  twice_one a {x} r =
      ap₂ (λ (m n : ℕ). term (o m n) (x ∷ [])) (p ∙ index_first job body) index_2
      ∙ ap (term (o (word (drop body job)) (word (drop number_bytes (drop body job))))) (sym (arg_1 h r))
      ∙ exactly_there h 1 (λ b. a (word b) (word (drop number_bytes b)))

pub valued_none : {c : ℕ} {job : Bytes} {body size before : ℕ} (o : ℕ → ℕ → Op) → Fits c job (valued o) body size before
    → {i v : ℕ} → i ≡ index_at job body 0 → v ≡ little_endian (take value_bytes (drop (body + number_bytes) job))
    → ((i j : ℕ) → arity (o i j) ≡ exactly 0) → term (o i v) [] ≡ made c (valued o) (part job body size)
valued_none {c} {job} {body} {size} {before} o h p g a =
    let d : drop number_bytes (drop body job) ≡ drop (body + number_bytes) job = drop-drop number_bytes body job in
    rw (p ∙ index_first job body, g, ← d) (exactly_there h 0 (λ b. a (word b) (little_endian (take value_bytes (drop number_bytes b)))))

-- ---- as a body is passed
-- it fits its kind
pub fitted : (b : Body) (k : Kind) {before : ℕ} → fitting b.bytes (shape k) (bytes_of b) ≡ true → before ≡ front (shape k)
    → Fits b.bytes b.job.now (shape k) b.at b.size before
fitted b k f e = record { length_b = b.sized; end = b.inside; fit = f; front_is = e }

-- in the arm of a kind: what a body of that kind says
pub by_kind : {c : ℕ} {job : Bytes} {body size before : ℕ} {k l : Kind} {i : Item} → k ≡ l → Fits c job (shape k) body size before
    → (Fits c job (shape l) body size before → i ≡ made c (shape l) (part job body size)) → i ≡ made c (shape k) (part job body size)
by_kind {c} {job} {body} {size} {before} {k} {l} {i} e h f =
    subst (λ (m : Kind). i ≡ made c (shape m) (part job body size)) (sym e) (f (subst (λ (m : Kind). Fits c job (shape m) body size before) e h))

-- and of what else is known of it
pub by_kind_too : {c : ℕ} {job : Bytes} {body size before : ℕ} {k l : Kind} {i : Item} {More : Type 0} → k ≡ l → Fits c job (shape k) body size before
    → (Fits c job (shape l) body size before → (i ≡ made c (shape l) (part job body size)) × More) → (i ≡ made c (shape k) (part job body size)) × More
by_kind_too {c} {job} {body} {size} {before} {k} {l} {i} {More} e h f =
    subst (λ (m : Kind). (i ≡ made c (shape m) (part job body size)) × More) (sym e) (f (subst (λ (m : Kind). Fits c job (shape m) body size before) e h))
