-- What the cells say of the bits of the marked terms.
use Rattle.std.specs.Prelude.{◌≡◌, Bool, List, map, ℕ, suc, ◌+◌, ◌≤◌, ◌<◌, T, length, take, drop, get_or}
use Rattle.theory.specs.Limit.{first_terms}
use Rattle.theory.specs.Term.{Term, node}
use Rattle.theory.specs.Sort.{first, sorts_of, sort_of, sort_width}
use Rattle.theory.specs.Record.{Bytes, number_length}
use Rattle.theory.specs.Plain.{Plain}
use Rattle.theory.specs.Claim.{element}
use Rattle.theory.specs.Places.{tree_at}
use Rattle.store.specs.Store.{listed}
use Rattle.store.specs.Shelf.{Shelf, args_at}
use Rattle.sweeps.specs.Variables.{is_variable, bits_in}
use Rattle.sweeps.specs.Known.{Known, unknown, known_byte, of_byte, lead, known, bit_kind}
use Rattle.marks.specs.Marks.{mark_of}
use Rattle.evaluation.specs.Cells.{cell_at}

-- a cell as a bit
abbrev pub cell_bit : Bytes → ℕ → Known
cell_bit values k = of_byte (cell_at values k)

-- a term of a kind that is not refused
abbrev pub bit_kind_in : Term → Bool
bit_kind_in (node o ts) = bit_kind o (first (sorts_of ts))

-- the rows can be read, the arguments of a marked term are marked, and its kind is bit-level
pub record Closed (job work : Bytes) (n : ℕ) : Type 0 where
  pub shelf : Shelf job work n
  pub closed : (p : ℕ) → p < first_terms + n → T (mark_of job work p)
      → (j : ℕ) → T (element j (args_at (number_length job) (listed job work n) p)) → T (mark_of job work j)
  pub kinds : (p : ℕ) → p < first_terms + n → T (mark_of job work p) → T (bit_kind_in (tree_at (listed job work n) p))

-- the bits of the variable at a place stand in the inputs, from the place on that its cell says
pub record Offset (input : Term → List Known) (list : Plain) (inputs values : Bytes) (p : ℕ) : Type 0 where
  pub fits : cell_at values p + bits_in (tree_at list p) ≤ length inputs
  pub bits_are : known input (tree_at list p) ≡ map of_byte (take (bits_in (tree_at list p)) (drop (cell_at values p) inputs))

-- the cell of a Bool holds its bit, that of a bit-vector variable says where its bits stand
pub record Tells (input : Term → List Known) (list : Plain) (inputs values : Bytes) (p : ℕ) : Type 0 where
  pub bool_is : sort_width (sort_of (tree_at list p)) ≡ 0 → cell_at values p ≡ known_byte (lead (known input (tree_at list p)))
  pub variable_is : (sort_width (sort_of (tree_at list p)) ≡ 0 → ⊥) → T (is_variable (tree_at list p)) → Offset input list inputs values p

-- the marked places below x do
abbrev pub Sound : (Term → List Known) → Plain → Bytes → Bytes → Bytes → Bytes → ℕ → Type 0
Sound input list job work inputs values x = (j : ℕ) → j < x → T (mark_of job work j) → Tells input list inputs values j

-- r is bit i of the term at place x, where its cell and those below are sound
abbrev pub BitOn : Plain → Bytes → Bytes → Bytes → Bytes → ℕ → ℕ → Known → Type 0
BitOn list job work inputs values x i r =
    (input : Term → List Known) → Sound input list job work inputs values (suc x)
    → r ≡ get_or (known input (tree_at list x)) i unknown

-- r is the bit of the Bool at a place, where the cells below are sound, and that of a variable says where its bit stands
abbrev pub KnownOn : Plain → Bytes → Bytes → Bytes → Bytes → ℕ → Known → Type 0
KnownOn list job work inputs values place r =
    (input : Term → List Known) → Sound input list job work inputs values place
    → (T (is_variable (tree_at list place)) → Offset input list inputs values place)
    → r ≡ lead (known input (tree_at list place))
