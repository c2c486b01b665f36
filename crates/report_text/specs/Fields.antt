-- The fields of a line: what stands between single spaces; this project's own.
use Rattle.std.specs.Prelude.{ℕ, ◌==◌, Bool, Option, None, Some, Result, Ok, Err, List, [], ◌∷◌}
use Rattle.std.specs.List.{slice_split, join_with_byte}
use Rattle.report_text.specs.declared.fault.TextFault.{TextFault}
use Rattle.report_text.specs.declared.fault.TextFault.TheVariants.{Word}
use Rattle.line_base.specs.Steps.{◌>>=◌}

-- the byte is a space, which parts two fields
abbrev pub is_space : ℕ → Bool
is_space byte = byte == 32

-- the line of these fields: one space between each two
abbrev pub line_of : List (List ℕ) → List ℕ
line_of fields = join_with_byte 32 fields

-- the fields of a line
abbrev pub fields_of : List ℕ → List (List ℕ)
fields_of line = slice_split is_space line

-- the next field, and those behind it; Word where there is none, or an empty one
abbrev pub field_read : List (List ℕ) → Result (List ℕ × List (List ℕ)) TextFault
field_read [] = Err Word
field_read ([] ∷ fields) = Err Word
field_read ((byte ∷ bytes) ∷ fields) = Ok (byte ∷ bytes, fields)

-- the value that the next field spells, and the fields behind it
unfoldable pub value_read : {A : Type 0} → (List ℕ → Result A TextFault) → List (List ℕ) → Result (A × List (List ℕ)) TextFault
value_read spelled fields = do
  field ← field_read fields
  value ← spelled field.0
  Ok (value, field.1)

-- these fields behind another one, each with its space
abbrev pub spaced : List (List ℕ) → List ℕ
spaced [] = []
spaced (field ∷ fields) = 32 ∷ line_of (field ∷ fields)

-- the fields that are left behind another one: none where the text has ended
abbrev pub fields_left : Option (List ℕ) → List (List ℕ)
fields_left None = []
fields_left (Some text) = fields_of text
