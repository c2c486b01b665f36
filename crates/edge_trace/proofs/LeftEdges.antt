-- The edges of a row that are left, by the lowest digit.
use Rattle.std.proofs.Common.{◌≡◌, ℕ, suc, ◌+◌, ◌-◌, ◌/◌, ◌%◌, ◌<◌, ◌≤◌, nat_lt, Bool, Option, List, [], ◌∷◌, ap, ◌∙◌, arith}
use Rattle.line_base.specs.declared.edge.Edge.{Edge}
use Rattle.edge_trace.specs.RowEdges.{edges_from, level_told, levels_told}
use Rattle.edge_trace.proofs.ToldLevels.{digit_level, none_told}

-- the edges at this time of the lines from this one on to line 15, by these digits
abbrev pub left_from : ℕ → ℕ → ℕ → List Edge
left_from line time levels = edges_from line time (levels_told (16 - line) levels)

by_digit : (line time levels : ℕ) → line < 16 → left_from line time levels ≡ edges_from line time (level_told (levels % 4) ∷ levels_told (16 - (line + 1)) (levels / 4))
unfolding levels_told
by_digit line time levels low = (let more : 16 - line ≡ suc (16 - (line + 1)) = omega arith in ap (λ (n : ℕ). edges_from line time (levels_told n levels)) more)

-- a line without an edge is passed over
pub left_passed : (line time levels : ℕ) → line < 16 → levels % 4 ≡ 0 → left_from line time levels ≡ left_from (line + 1) time (levels / 4)
unfolding edges_from
left_passed line time levels low none =
    by_digit line time levels low ∙ ap (λ (digit : ℕ). edges_from line time (level_told digit ∷ levels_told (16 - (line + 1)) (levels / 4))) none

-- the edge of a line that has one is the first
pub left_first : (line time levels : ℕ) → line < 16 → 0 < levels % 4 → left_from line time levels ≡ record { line = line; time = time; level = nat_lt 1 (levels % 4) } ∷ left_from (line + 1) time (levels / 4)
unfolding edges_from
left_first line time levels low some =
    by_digit line time levels low ∙ ap (λ (o : Option Bool). edges_from line time (o ∷ levels_told (16 - (line + 1)) (levels / 4))) (digit_level (levels % 4) some)

-- behind the last line, or where no digit is left, there is none
pub none_left : (line time levels : ℕ) → 16 ≤ line → left_from line time levels ≡ []
unfolding edges_from levels_told
none_left line time levels past = (let none : 16 - line ≡ 0 = omega arith in ap (λ (n : ℕ). edges_from line time (levels_told n levels)) none)

pub no_digit_left : (line time levels : ℕ) → levels ≡ 0 → left_from line time levels ≡ []
no_digit_left line time levels none = ap (left_from line time) none ∙ none_told line time (16 - line)
