-- The reports of a list of items, cut anywhere: those of the stretches that are closed, and then those of the open one.
use Rattle.std.proofs.Common.{◌≡◌, ℕ, ◌+◌, ◌≤◌, List, length, [], ◌∷◌, ◌++◌, Some, refl, ap, sym, ◌∙◌, append_assoc, append-nil, add_assoc, add-zero, zero-add, arith}
use Rattle.line_base.specs.Edges.{NumberedEdge}
use Rattle.line_base.specs.declared.edge.Item.{Item}
use Rattle.line_base.specs.declared.edge.Item.TheVariants as item
use Rattle.receiver_core.specs.declared.report.Report.{Report}
use Rattle.receiver_core.specs.declared.report.What.TheVariants as what
use Rattle.receiver_core.specs.declared.setup.ChannelSetup.{ChannelSetup}
use Rattle.receiver_core.specs.SentReports.{report}
use Rattle.line_base.specs.Items.{edges_counted}
use Rattle.line_base.proofs.Opens.{edges_counted-append}
use Rattle.receiver_core.specs.Channels.{stretch_reports, end_reports, reports_from, so_far}
use Rattle.std.proofs.lemmas.List.{length-append}
use Rattle.receiver_core.specs.Readers.{open_count}
use Rattle.receiver_core.specs.OpenStretches.{open_with, open_from, open_stretch, resumed}

-- the reports of the stretches that a gap or an end has closed
closed_from : ChannelSetup → ℕ → List NumberedEdge → List Item → List Report
closed_from setup number stretch [] = []
closed_from setup number stretch (item.Edge edge ∷ items) = closed_from setup (number + 1) (stretch ++ record { number = number; edge = edge } ∷ []) items
closed_from setup number stretch (item.Gap first count ∷ items) = stretch_reports setup stretch ++ report first (what.Gap count) ∷ closed_from setup (number + count) [] items
closed_from setup number stretch (item.End ∷ items) = stretch_reports setup stretch ++ end_reports setup stretch
closed_from setup number stretch (item.Cut ∷ items) = stretch_reports setup stretch

split : (setup : ChannelSetup) (number : ℕ) (stretch : List NumberedEdge) (items more : List Item)
    → reports_from setup number stretch (items ++ more) ≡ closed_from setup number stretch items ++ resumed setup (number + edges_counted items) (open_from number stretch items) more
unfolding closed_from reports_from open_from
split setup number stretch [] more = ap (λ n. reports_from setup n stretch more) (sym (add-zero number))
split setup number stretch (item.Edge edge ∷ items) more =
    let longer : List NumberedEdge = stretch ++ record { number = number; edge = edge } ∷ [] in
    split setup (number + 1) longer items more
    ∙ ap (λ n. closed_from setup (number + 1) longer items ++ resumed setup n (open_from (number + 1) longer items) more) (add_assoc number 1 (edges_counted items))
split setup number stretch (item.Gap first count ∷ items) more =
    let next = number + count in
    ap (λ l. stretch_reports setup stretch ++ report first (what.Gap count) ∷ l)
    (split setup next [] items more ∙ ap (λ n. closed_from setup next [] items ++ resumed setup n (open_from next [] items) more) (add_assoc number count (edges_counted items)))
    ∙ sym (append_assoc (stretch_reports setup stretch) (report first (what.Gap count) ∷ closed_from setup next [] items) (resumed setup (number + (count + edges_counted items)) (open_from next [] items) more))
split setup number stretch (item.End ∷ items) more = sym (append-nil (stretch_reports setup stretch ++ end_reports setup stretch))
split setup number stretch (item.Cut ∷ items) more = sym (append-nil (stretch_reports setup stretch))

open-first : (number : ℕ) (stretch : List NumberedEdge) (next : Item) → open_from number stretch (next ∷ []) ≡ open_with (number + 0) (Some stretch) next
unfolding open_from
open-first number stretch (item.Edge edge) = ap (λ (n : ℕ). Some (stretch ++ record { number = n; edge = edge } ∷ [])) (sym (add-zero number))
open-first number stretch (item.Gap first count) = refl
open-first number stretch item.End = refl
open-first number stretch item.Cut = refl

open-more : (number : ℕ) (stretch : List NumberedEdge) (items : List Item) (next : Item)
    → open_from number stretch (items ++ next ∷ []) ≡ open_with (number + edges_counted items) (open_from number stretch items) next
unfolding open_from
open-more number stretch [] next = open-first number stretch next
open-more number stretch (item.Edge edge ∷ items) next =
    let longer : List NumberedEdge = stretch ++ record { number = number; edge = edge } ∷ [] in
    open-more (number + 1) longer items next ∙ ap (λ n. open_with n (open_from (number + 1) longer items) next) (add_assoc number 1 (edges_counted items))
open-more number stretch (item.Gap first count ∷ items) next =
    open-more (number + count) [] items next ∙ ap (λ n. open_with n (open_from (number + count) [] items) next) (add_assoc number count (edges_counted items))
open-more number stretch (item.End ∷ items) next = refl
open-more number stretch (item.Cut ∷ items) next = refl

-- the edges of a list and one item more are those of the list and those of the item
pub counted-more : (items : List Item) (next : Item) → edges_counted (items ++ next ∷ []) ≡ edges_counted items + edges_counted (next ∷ [])
counted-more items next = edges_counted-append items (next ∷ [])

-- the open edges of a list and one item more
pub open_stretch-more : (items : List Item) (next : Item) → open_stretch (items ++ next ∷ []) ≡ open_with (edges_counted items) (open_stretch items) next
unfolding open_stretch
open_stretch-more items next = open-more 0 [] items next ∙ ap (λ n. open_with n (open_from 0 [] items) next) (zero-add (edges_counted items))

cut-at : (setup : ChannelSetup) (items more : List Item)
    → so_far setup (items ++ more) ≡ closed_from setup 0 [] items ++ resumed setup (edges_counted items) (open_stretch items) more
unfolding so_far open_stretch
cut-at setup items more = split setup 0 [] items more ∙ ap (λ n. closed_from setup 0 [] items ++ resumed setup n (open_from 0 [] items) more) (zero-add (edges_counted items))

-- where one item more adds these reports to those of the open edges, it adds them to those of the list
pub so_far-more : (setup : ChannelSetup) (items : List Item) (next : Item) (answers : List Report)
    → resumed setup (edges_counted items) (open_stretch items) (next ∷ []) ≡ resumed setup (edges_counted items) (open_stretch items) [] ++ answers
    → so_far setup (items ++ next ∷ []) ≡ so_far setup items ++ answers
so_far-more setup items next answers adds =
    let closed = closed_from setup 0 [] items in
    let left = resumed setup (edges_counted items) (open_stretch items) [] in
    cut-at setup items (next ∷ []) ∙ ap (λ l. closed ++ l) adds ∙ sym (append_assoc closed left answers)
    ∙ ap (λ l. l ++ answers) (sym (cut-at setup items []) ∙ ap (so_far setup) (append-nil items))

open-from-few : (number : ℕ) (stretch : List NumberedEdge) (items : List Item) → length stretch ≤ number → open_count (open_from number stretch items) ≤ number + edges_counted items
unfolding open_from
open-from-few number stretch [] few = omega (arith, few)
open-from-few number stretch (item.Edge edge ∷ items) few =
    let longer : List NumberedEdge = stretch ++ record { number = number; edge = edge } ∷ [] in
    let rest = open-from-few (number + 1) longer items (omega (arith, few, length-append stretch (record { number = number; edge = edge } ∷ []))) in
    omega (arith, rest)
open-from-few number stretch (item.Gap first count ∷ items) few = let rest = open-from-few (number + count) [] items (omega arith) in omega (arith, rest)
open-from-few number stretch (item.End ∷ items) few = omega arith
open-from-few number stretch (item.Cut ∷ items) few = omega arith

-- at most all edges of the items are open
pub open-few : (items : List Item) → open_count (open_stretch items) ≤ edges_counted items
unfolding open_stretch
open-few items = let few = open-from-few 0 [] items (omega arith) in omega (arith, few)
