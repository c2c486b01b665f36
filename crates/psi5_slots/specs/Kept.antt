-- What a reader of slots has kept; this project's own.
use Rattle.std.specs.Prelude.{◌≡◌, ℕ, suc, Bool, if◌then◌else◌, Option, None, Some, option_map, List, [], ◌∷◌}
use Rattle.line_base.specs.declared.edge.Span.{Span}
use Rattle.line_base.specs.Spans.{is_in}
use Rattle.psi5_slots.specs.History.{is_answered, offsets_from}

-- the number of the first of these windows in which the offset lies, counted from 0
abbrev pub window_in : List Span → ℕ → Option ℕ
window_in [] offset = None
window_in (window ∷ windows) offset = if is_in window offset then Some 0 else option_map (λ number. suc number) (window_in windows offset)

-- the flags say of each window whether one of these offsets lies in it
abbrev pub AnsweredIn : List Span → List Bool → List ℕ → Type 0
AnsweredIn [] flags offsets = Unit {0}
AnsweredIn (window ∷ windows) [] offsets = ⊥
AnsweredIn (window ∷ windows) (answered ∷ flags) offsets = (answered ≡ is_answered offsets window) × AnsweredIn windows flags offsets

-- the flags say of each window whether one of these starts lies in it, by their offsets from the last sync pulse, if there is one
abbrev pub AnsweredSince : List Span → List Bool → Option ℕ → List ℕ → Type 0
AnsweredSince windows flags None starts = Unit {0}
AnsweredSince windows flags (Some sync) starts = AnsweredIn windows flags (offsets_from sync starts)
