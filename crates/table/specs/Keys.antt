-- The place of a record that is given by its parts. Numbers of terms have b bytes.
use Rattle.std.specs.Prelude.{◌≡◌, Bool, true, cond, Option, None as none, Some as some, List, [], ◌∷◌, ◌++◌, ℕ, ◌+◌, ◌-◌, ◌*◌, ◌^◌, ◌≤◌, length, take}
use Rattle.theory.specs.Limit.{number_bytes, long_bytes, value_bytes, max_arguments}
use Rattle.theory.specs.Record.{Bytes, bytes_of}
use Rattle.theory.specs.Codes.{all_below}
use Rattle.rows.specs.Layout.{missing}
use Rattle.rows.specs.Rows.{place_of}

-- so few arguments fit into a short array ..
abbrev pub few_arguments : ℕ
few_arguments = 3

-- .. which has so many bytes: for a record's length, its kind and these
abbrev pub key_bytes : ℕ
key_bytes = 2 * number_bytes + long_bytes * few_arguments

-- one for the most
abbrev pub list_bytes : ℕ
list_bytes = 2 * number_bytes + long_bytes * max_arguments

-- an array of `space` bytes has room for a record with so many arguments of b bytes
pub record Roomy (b count space : ℕ) : Type 0 where
  pub few : count ≤ max_arguments
  pub room : 2 * number_bytes + count * b ≤ space

-- a record: its length, which counts the bytes after it, its kind, its body
unfoldable pub record_of : ℕ → Bytes → Bytes
record_of kind body = (bytes_of number_bytes (number_bytes + length body) ++ bytes_of number_bytes kind) ++ body

-- the bytes of terms' numbers in a row
unfoldable pub words_bytes : ℕ → List ℕ → Bytes
words_bytes b [] = []
words_bytes b (x ∷ xs) = bytes_of b x ++ words_bytes b xs

-- the last number that b bytes hold, which is no place
unfoldable pub last_number : ℕ → ℕ
last_number b = 256 ^ b - 1

-- each of them can be a place
unfoldable pub all_places : ℕ → List ℕ → Bool
all_places b xs = all_below (last_number b) xs

-- the length of a record of arguments; none where one of them can't be a place
unfoldable pub built_length : ℕ → List ℕ → Option ℕ
built_length b xs = cond (all_places b xs) (some (2 * number_bytes + length xs * b)) none

-- an array of `space` bytes was made `key`, which begins with the record of a kind with these arguments
pub record Built (b kind : ℕ) (xs : List ℕ) (space : ℕ) (key : Bytes) (end : Option ℕ) : Type 0 where
  pub long : length key ≡ space
  pub end_is : end ≡ built_length b xs
  pub record_is : all_places b xs ≡ true → take (2 * number_bytes + length xs * b) key ≡ record_of kind (words_bytes b xs)

-- the place of the record of a kind whose body is arguments. Missing where one of them can't be a place
unfoldable pub place_list : ℕ → ℕ → List ℕ → List Bytes → ℕ
place_list b kind xs rows = cond (all_places b xs) (place_of (record_of kind (words_bytes b xs)) rows) missing

-- the place of the record of a kind whose body is an index and an argument
unfoldable pub place_indexed : ℕ → ℕ → ℕ → ℕ → List Bytes → ℕ
place_indexed b kind i x rows =
    cond (all_places b (x ∷ [])) (place_of (record_of kind (bytes_of number_bytes i ++ words_bytes b (x ∷ []))) rows) missing

-- the place of the record of a kind whose body is a number and a value: a constant, by its width and value
unfoldable pub place_constant : ℕ → ℕ → ℕ → List Bytes → ℕ
place_constant kind width value rows = place_of (record_of kind (bytes_of number_bytes width ++ bytes_of value_bytes value)) rows
