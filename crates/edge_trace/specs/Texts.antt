-- How an edge is written: as a narrow row; this project's own.
use Rattle.std.specs.Prelude.{ℕ, Bool, List, [], ◌∷◌, ◌++◌, decimal, if◌then◌else◌}
use Rattle.line_base.specs.declared.edge.Edge.{Edge}

-- a level as a digit: `0` is low and `1` is high
abbrev pub level_digit : Bool → ℕ
level_digit level = if level then 49 else 48

-- the narrow row of an edge, without its end: the time in ns, the line and the level, with commas (0x2C) between them
unfoldable pub narrow_text : Edge → List ℕ
narrow_text edge = decimal edge.time ++ (44 ∷ (decimal edge.line ++ (44 ∷ level_digit edge.level ∷ [])))
