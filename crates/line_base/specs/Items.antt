-- What is counted of items, and where a list of them ends; this project's own.
use Rattle.std.specs.Prelude.{ℕ, ◌+◌, Bool, true, false, List, [], ◌∷◌, ◌++◌}
use Rattle.line_base.specs.Orderly.{IsOrderly}
use Rattle.line_base.specs.declared.edge.Item.{Item}
use Rattle.line_base.specs.declared.edge.Item.TheVariants as item

-- how many edges these items are, with those that were lost
abbrev pub edges_counted : List Item → ℕ
edges_counted [] = 0
edges_counted (item.Edge edge ∷ items) = 1 + edges_counted items
edges_counted (item.Gap first count ∷ items) = count + edges_counted items
edges_counted (item.End ∷ items) = edges_counted items
edges_counted (item.Cut ∷ items) = edges_counted items

-- how many edges were lost in the gaps
abbrev pub lost_in : List Item → ℕ
lost_in [] = 0
lost_in (item.Edge edge ∷ items) = lost_in items
lost_in (item.Gap first count ∷ items) = count + lost_in items
lost_in (item.End ∷ items) = lost_in items
lost_in (item.Cut ∷ items) = lost_in items

-- an end or a cut stands among the items
abbrev pub has_end : List Item → Bool
has_end [] = false
has_end (item.Edge edge ∷ items) = has_end items
has_end (item.Gap first count ∷ items) = has_end items
has_end (item.End ∷ items) = true
has_end (item.Cut ∷ items) = true

-- the last item of a list: a cut where it was cut off, else an end
abbrev pub last_item : Bool → Item
last_item true = item.Cut
last_item false = item.End

-- the items are orderly for the lines, and an end may follow
unfoldable pub IsOpen : List ℕ → List Item → Type 0
IsOpen lines items = IsOrderly lines (items ++ item.End ∷ [])
