-- The body of a record: the length that its kind has, and what it says.
use Rattle.std.specs.Prelude.{Bool, ◌&&◌, [], ℕ, ◌-◌, ◌/◌, ◌%◌, ◌<◌, ◌≤◌, leb, eqb}
use Rattle.theory.specs.Limit.{max_arguments, long_bytes}
use Rattle.theory.specs.Kind.{Arity, exactly, many, arity, takes}
use Rattle.theory.specs.Record.{Bytes, fits, arguments, Shape, front, make, Item, term}
use Rattle.terms.specs.declared.kind.Form.{Form}

-- the bytes of a term's number: any number of them from one to four
pub record Length (b : ℕ) : Type 0 where
  pub some_bytes : 0 < b
  pub few_bytes : b ≤ long_bytes

-- the least and the greatest number of arguments
abbrev pub least : Arity → ℕ
least (exactly k) = k
least many = 1

abbrev pub most : Arity → ℕ
most (exactly k) = k
most many = max_arguments

-- the form of a body with that shape
abbrev pub form_of : Shape → Form
form_of s = record { front = front s; least = least (arity (make s [])); most = most (arity (make s [])) }

-- a body of so many bytes has that form, its arguments b bytes each
abbrev pub sized : ℕ → ℕ → Form → Bool
sized b size f =
    leb f.front size
    && (eqb ((size - f.front) % b) 0
    && (leb f.least ((size - f.front) / b) && leb ((size - f.front) / b) f.most))

-- the body has the length of the shape
abbrev pub fitting : ℕ → Shape → Bytes → Bool
fitting b s body = fits b (front s) (takes (arity (make s body))) body

-- what a body that fits says
abbrev pub made : ℕ → Shape → Bytes → Item
made b s body = term (make s body) (arguments b (front s) body)
