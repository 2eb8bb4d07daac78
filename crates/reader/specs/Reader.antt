-- A term that is read and written at one time; its arguments.
use Rattle.std.specs.Prelude.{◌≡◌, Bool, true, false, cond, List, [], ◌++◌, ℕ, length, take}
use Rattle.std.specs.Prelude as rust
use Rattle.std.specs.Prelude.{Option, None as none, Some as some}
use Rattle.theory.specs.Kind.{Op, arity, takes}
use Rattle.theory.specs.Term.{from_list}
use Rattle.theory.specs.Record.{Bytes}
use Rattle.theory.specs.Codes.{all_below}
use Rattle.text.specs.Reading.{bind, number_end, Declared, read_term, arguments}
use Rattle.text.specs.Writing.{placed_all, put_term, write, write_all}
use Rattle.writer.specs.declared.places.Writer.{Writer}
use Rattle.reader.specs.declared.reading.Read.{Read}
use Rattle.reader.specs.declared.reading.List as list
use Rattle.writer.specs.Written.{job_of}

-- a term's number, what is left of the line, and the job with the term
pub record Got : Type 0 where
  pub number : ℕ
  pub rest : Bytes
  pub job : Bytes

abbrev pub got : ℕ → Bytes → Bytes → Got
got k bs job = record { number = k; rest = bs; job = job }

-- the same of several terms
pub record GotAll : Type 0 where
  pub numbers : List ℕ
  pub rest : Bytes
  pub job : Bytes

abbrev pub got_all : List ℕ → Bytes → Bytes → GotAll
got_all ks bs job = record { numbers = ks; rest = bs; job = job }

-- a term is read, and written
unfoldable pub read_write : ℕ → List Declared → ℕ → Bytes → Bytes → Option Got
read_write n vars room bs job =
    bind (read_term n vars bs) (λ t. bind (write t.term room job) (λ p. some (got p.number t.rest p.job)))

-- arguments are read, and written
unfoldable pub read_write_all : ℕ → List Declared → ℕ → ℕ → Bytes → Bytes → Option GotAll
read_write_all n vars room k bs job =
    bind (arguments (λ cs. read_term n vars cs) k bs) (λ g.
    bind (write_all (from_list g.terms) room job) (λ w. some (got_all w.numbers g.rest w.job)))

-- a term without arguments is written
unfoldable pub leaf_write : ℕ → Op → Bytes → Bytes → Option Got
leaf_write room o rest job = bind (put_term room o (placed_all [] job)) (λ p. some (got p.number rest p.job))

-- a term whose arguments are written
unfoldable pub finish : ℕ → Op → GotAll → Option Got
finish room o g =
    cond (takes (arity o) (length g.numbers))
    (bind (put_term room o (placed_all g.numbers g.job)) (λ p. some (got p.number g.rest p.job)))
    none

-- arguments whose numbers fit into a record
abbrev pub fitting : Option GotAll → Option GotAll
fitting p = bind p (λ g. cond (all_below number_end g.numbers) (some g) none)

-- numbers before those of more terms
abbrev pub before : List ℕ → Option GotAll → Option GotAll
before ks p = bind p (λ g. some (got_all (ks ++ g.numbers) g.rest g.job))

-- ---- what the code says
-- a term that was read and written
abbrev pub told_read : Writer → rust.Option Read → Option Got
told_read w r = rust.option_map (λ t. got t.number t.rest.now (job_of w)) r

-- arguments that were read and written
abbrev pub got_list : Writer → list.List → GotAll
got_list w l = got_all (take l.count l.numbers) l.rest.now (job_of w)

-- the same, where they were not refused
abbrev pub told_list : Writer → list.List → rust.Option (Unit {0}) → Option GotAll
told_list w l r = rust.option_map (λ u. got_list w l) r
