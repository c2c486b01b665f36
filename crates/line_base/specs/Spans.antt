-- Spans of whole numbers, both ends included, and how a short list of them is kept; this project's own.
use Rattle.std.specs.Prelude.{◌≡◌, ℕ, ◌-◌, ◌≤◌, Bool, ◌&&◌, nat_le, List, ◌++◌, length, take, replicate}
use Rattle.line_base.specs.declared.edge.Span.{Span}

-- the number lies in the span, both ends included
abbrev pub is_in : Span → ℕ → Bool
is_in span number = nat_le span.low number && nat_le number span.high

-- what stands in the cells that hold no span
abbrev pub no_span : Span
no_span = record { low = 0; high = 0 }

-- the first cells of eight hold spans, and those behind them hold none
pub record IsKept (cells : List Span) (count : ℕ) : Type 0 where
  pub few : length (take count cells) ≤ 8
  pub padded : cells ≡ take count cells ++ replicate (8 - length (take count cells)) no_span
  pub counted : count ≡ length (take count cells)
