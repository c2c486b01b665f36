-- Numbers and spans of numbers, as they stand behind a key; this project's own.
use Rattle.std.specs.Prelude.{ℕ, ◌==◌, nat_le, ◌&&◌, Option, None, Some, List, [], ◌∷◌, length, if◌then◌else◌}
use Rattle.std.specs.List.{slice_split}
use Rattle.line_base.specs.declared.edge.Span.{Span}
use Rattle.line_base.specs.Texts.{◌>>=◌, cut_at, number_in}

-- the number from the lowest to the highest that one or more decimal digits write
unfoldable pub number_within : ℕ → ℕ → List ℕ → Option ℕ
number_within low high text = do
  number ← number_in text
  if nat_le low number && nat_le number high then Some number else None

-- the span of these two texts, where each writes a number of at most `most`
unfoldable pub span_of : ℕ → List ℕ × Option (List ℕ) → Option Span
span_of most (low, None) = None
span_of most (low, Some high) = do
  least ← number_within 0 most low
  greatest ← number_within 0 most high
  Some (record { low = least; high = greatest })

-- the span that a text writes: two such numbers, parted by its first hyphen (0x2D)
abbrev pub span_in : ℕ → List ℕ → Option Span
span_in most text = span_of most (cut_at 45 text)

-- the spans that these texts write, if each of them writes one
unfoldable pub each_span : ℕ → List (List ℕ) → Option (List Span)
each_span most [] = Some []
each_span most (text ∷ texts) = do
  span ← span_in most text
  spans ← each_span most texts
  Some (span ∷ spans)

-- the parts of a text between its slashes (0x2F)
abbrev pub parts_in : List ℕ → List (List ℕ)
parts_in text = slice_split (λ byte. byte == 47) text

-- the 1 to 8 spans that a text writes, parted by slashes
unfoldable pub spans_in : ℕ → List ℕ → Option (List Span)
spans_in most text = if nat_le (length (parts_in text)) 8 then each_span most (parts_in text) else None
