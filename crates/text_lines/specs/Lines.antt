-- How bytes are cut into lines; this project's own.
use Rattle.std.specs.Prelude.{ℕ, ◌==◌, Bool, true, List, [], ◌∷◌, if◌then◌else◌}
use Rattle.std.specs.List.{slice_split}

-- the byte is an LF, which ends a line
abbrev pub is_lf : ℕ → Bool
is_lf byte = byte == 10

-- all of these parts but the last
abbrev pub all_but_last : List (List ℕ) → List (List ℕ)
all_but_last [] = []
all_but_last (part ∷ []) = []
all_but_last (part ∷ next ∷ parts) = part ∷ all_but_last (next ∷ parts)

-- the last of these parts
abbrev pub last_of : List (List ℕ) → List ℕ
last_of [] = []
last_of (part ∷ []) = part
last_of (part ∷ next ∷ parts) = last_of (next ∷ parts)

-- the lines that end in these bytes, each without its LF
unfoldable pub ended_lines : List ℕ → List (List ℕ)
ended_lines bytes = all_but_last (slice_split is_lf bytes)

-- what stands behind the last LF of these bytes
unfoldable pub open_line : List ℕ → List ℕ
open_line bytes = last_of (slice_split is_lf bytes)

-- a line without the one CR at its end, if it has one
abbrev pub without_cr : List ℕ → List ℕ
without_cr [] = []
without_cr (byte ∷ []) = if byte == 13 then [] else byte ∷ []
without_cr (byte ∷ next ∷ bytes) = byte ∷ without_cr (next ∷ bytes)

-- a line without the CR at its end is empty or a comment
abbrev pub is_blank : List ℕ → Bool
is_blank [] = true
is_blank (byte ∷ bytes) = byte == 35
