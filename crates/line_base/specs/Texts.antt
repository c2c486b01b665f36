-- What parts of a text spell: cuts at a byte, fronts and ends, and decimal numbers; this project's own.
use Rattle.std.specs.Prelude.{ℕ, ◌+◌, ◌-◌, ◌*◌, ◌==◌, ◌&&◌, min, nat_le, Bool, false, Option, None, Some, List, [], ◌∷◌, length, take, drop, if◌then◌else◌}
use Rattle.std.specs.Str.{bytes_eq}
use Rattle.std.specs.List.{list_all}

infixl 10 ◌>>=◌
-- what a function on a found value finds, and nothing where there is no value
abbrev pub ◌>>=◌ : {A B : Type 0} → Option A → (A → Option B) → Option B
None >>= next = None
(Some x) >>= next = next x

-- a text up to the first such byte, and what stands behind that byte, if it is there
unfoldable pub cut_at : ℕ → List ℕ → List ℕ × Option (List ℕ)
cut_at mark [] = ([], None)
cut_at mark (byte ∷ bytes) = if byte == mark then ([], Some bytes) else (byte ∷ (cut_at mark bytes).0, (cut_at mark bytes).1)

-- what stands behind these bytes, where the text begins with them
abbrev pub after_front : List ℕ → List ℕ → Option (List ℕ)
after_front front text = if bytes_eq (take (length front) text) front then Some (drop (length front) text) else None

-- what stands before these bytes, where the text ends with them
abbrev pub before_end : List ℕ → List ℕ → Option (List ℕ)
before_end end text = if bytes_eq (drop (length text - length end) text) end then Some (take (length text - length end) text) else None

-- the byte is a decimal digit
abbrev pub is_digit : ℕ → Bool
is_digit byte = nat_le 48 byte && nat_le byte 57

-- the number that decimal digits write behind those of `before`
abbrev pub number_after : ℕ → List ℕ → ℕ
number_after before [] = before
number_after before (digit ∷ digits) = number_after (before * 10 + (digit - 48)) digits

-- the field is one or more decimal digits
abbrev pub is_number : List ℕ → Bool
is_number [] = false
is_number (byte ∷ bytes) = is_digit byte && list_all is_digit bytes

-- the number that a field of one or more decimal digits writes
unfoldable pub number_in : List ℕ → Option ℕ
number_in field = if is_number field then Some (number_after 0 field) else None

-- a number that is compared with a bound of at most 10^15 alone: the number, or 10^15 + 1 where it is greater
abbrev pub capped : ℕ → ℕ
capped number = min number 1000000000000001

-- what stands beside a text in a table, if the text is there
abbrev pub looked_up : {A : Type 0} → List (List ℕ × A) → List ℕ → Option A
looked_up [] text = None
looked_up (row ∷ rows) text = if bytes_eq text row.0 then Some row.1 else looked_up rows text
