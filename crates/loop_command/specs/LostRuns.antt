-- Which of a loop's edges are lost before its second receiver; this project's own.
use Rattle.std.specs.Prelude.{ℕ, ◌-◌, ◌*◌, ◌/◌, min, List, map}
use Rattle.std.specs.List.{range_with_len}
use Rattle.line_base.specs.Thinned.{LostRun}

-- the lost run of this number, of so many edges: the edges from 1,000 times that number on, 50 or those that are left
abbrev pub lost_run : ℕ → ℕ → LostRun
lost_run edges number = record { first = 1000 * number; count = min 50 (edges - 1000 * number) }

-- the lost runs of so many edges: one of each number from 1 on that times 1,000 is below their number
unfoldable pub lost_runs : ℕ → List LostRun
lost_runs edges = map (lost_run edges) (range_with_len 1 ((edges - 1) / 1000))
