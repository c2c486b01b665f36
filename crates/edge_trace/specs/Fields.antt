-- What the fields of a line spell: times in seconds, and levels; this project's own.
use Rattle.std.specs.Prelude.{ℕ, ◌-◌, ◌==◌, ◌&&◌, nat_le, Bool, true, false, Option, None, Some, List, [], ◌∷◌, ◌++◌, length, map, replicate, if◌then◌else◌}
use Rattle.std.specs.List.{slice_split}
use Rattle.line_base.specs.Texts.{◌>>=◌, is_number, number_after, cut_at}

-- a field without the blanks (0x20) before it
abbrev pub without_blanks : List ℕ → List ℕ
without_blanks [] = []
without_blanks (byte ∷ bytes) = if byte == 32 then without_blanks bytes else byte ∷ bytes

-- the fields of a line: what stands between its commas, without the blanks before it
unfoldable pub fields : List ℕ → List (List ℕ)
fields line = map without_blanks (slice_split (λ byte. byte == 44) line)

-- the time in ns that whole seconds and their decimals write: the number of all digits, with nine decimals
abbrev pub nanoseconds : List ℕ → List ℕ → ℕ
nanoseconds whole decimals = number_after 0 (whole ++ (decimals ++ replicate (9 - length decimals) 48))

-- the time in ns of seconds whose decimals, up to nine, stand behind a point, if there is one
unfoldable pub seconds_at : List ℕ × Option (List ℕ) → Option ℕ
seconds_at (whole, None) = if is_number whole then Some (nanoseconds whole []) else None
seconds_at (whole, Some decimals) = if is_number whole && is_number decimals && nat_le (length decimals) 9 then Some (nanoseconds whole decimals) else None

-- the time in ns of a field in seconds: digits, or digits, a point (0x2E) and 1 to 9 digits
abbrev pub seconds_in : List ℕ → Option ℕ
seconds_in field = seconds_at (cut_at 46 field)

-- the level that a field spells: `0` is low and `1` is high
abbrev pub level_in : List ℕ → Option Bool
level_in [] = None
level_in (byte ∷ []) = if byte == 48 then Some false else (if byte == 49 then Some true else None)
level_in (byte ∷ next ∷ bytes) = None

-- the levels that all these fields spell
unfoldable pub levels_in : List (List ℕ) → Option (List Bool)
levels_in [] = Some []
levels_in (field ∷ others) = do
  level ← level_in field
  levels ← levels_in others
  Some (level ∷ levels)
