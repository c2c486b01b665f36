-- What one edge more, or the end, adds to a channel's reports.
use Rattle.std.proofs.Common.{◌≡◌, ◌+◌, ◌==◌, ◌<◌, ◌^◌, ◌≤◌, Bool, cond, List, [], ◌∷◌, ◌++◌, true, false, length, drop, filter, map, refl, ap, sym, subst, ◌∙◌, arith, append-nil, length-append, eqb-true}
use Rattle.std.proofs.lemmas.List.Elements.{filter-append}
use Rattle.std.proofs.lemmas.List.{length-map, map-append, drop_at, drop_all}
use Rattle.line_base.specs.declared.edge.Edge.{Edge}
use Rattle.line_base.specs.declared.edge.Item.{Item}
use Rattle.line_base.specs.declared.edge.Item.TheVariants as item
use Rattle.receiver_core.specs.declared.report.Report.{Report}
use Rattle.receiver_core.specs.declared.setup.ChannelSetup.{ChannelSetup}
use Rattle.line_base.specs.Items.{edges_counted}
use Rattle.receiver_core.specs.Channels.{so_far, final}
use Rattle.receiver_core.specs.CountedReceivers.{HasTaken}
use Rattle.receiver_core.specs.Readers.{IsTakeable}
use Rattle.receiver_core.specs.Tallies.{tally_of}
use Rattle.receiver_core.specs.declared.counted_receiver.CountedReceiver.{CountedReceiver}
use Rattle.receiver_core.specs.Tallies.{counted_in}
use Rattle.decode_command.specs.Channels.{is_on, items_on, reports_on, final_on, reports_added, reports_of_end}
use Rattle.decode_command.specs.Followed.{Follows}

fewer : (p : Edge → Bool) (edge : Edge) (edges : List Edge) (t : Bool) → length (filter p edges) ≤ length edges → length (cond t (edge ∷ filter p edges) (filter p edges)) ≤ length (edge ∷ edges)
fewer p edge edges true few = omega (arith, few)
fewer p edge edges false few = omega (arith, few)

few_picked : (p : Edge → Bool) (edges : List Edge) → length (filter p edges) ≤ length edges
few_picked p [] = omega arith
few_picked p (edge ∷ edges) = fewer p edge edges (p edge) (few_picked p edges)

-- edges are as many items
counted-map : (edges : List Edge) → edges_counted (map item.Edge edges) ≡ length edges
counted-map [] = refl
counted-map (edge ∷ edges) = (let before = counted-map edges in omega arith)

-- a channel has at most as many items as the list has edges
few-items : (setup : ChannelSetup) (edges : List Edge) → edges_counted (items_on setup edges) ≤ length edges
unfolding items_on
few-items setup edges = omega (arith, counted-map (filter (is_on setup) edges), few_picked (is_on setup) edges)

-- the next edge may be handed to the receiver
pub edge-takeable : (setup : ChannelSetup) (edges : List Edge) (edge : Edge) → edge.time ≤ 10 ^ 15 → length edges < 2 ^ 60 → IsTakeable (edges_counted (items_on setup edges)) (item.Edge edge)
edge-takeable setup edges edge in_range few = (in_range, omega (arith, few-items setup edges))

few-elements : (setup : ChannelSetup) (edges : List Edge) → length (items_on setup edges) ≤ length edges
unfolding items_on
few-elements setup edges = omega (arith, length-map (filter (is_on setup) edges) item.Edge, few_picked (is_on setup) edges)

-- a receiver that has taken these edges may take the next one, and they are few
pub may-take : (channel : CountedReceiver) (edges : List Edge) (edge : Edge) → edge.time ≤ 10 ^ 15 → length edges < 2 ^ 60 → Follows channel edges
    → (items : List Item) × HasTaken channel items × IsTakeable (edges_counted items) (item.Edge edge) × (length items < 2 ^ 60)
may-take channel edges edge in_range few follows = (items_on channel.setup edges, follows, edge-takeable channel.setup edges edge in_range few, omega (arith, few-elements channel.setup edges, few))

-- or the end
pub may-end : (channel : CountedReceiver) (edges : List Edge) → length edges < 2 ^ 60 → Follows channel edges
    → (items : List Item) × HasTaken channel items × IsTakeable (edges_counted items) item.End × (length items < 2 ^ 60)
may-end channel edges few follows = (items_on channel.setup edges, follows, tt, omega (arith, few-elements channel.setup edges, few))

-- the items of a channel with one edge more, by whether that is on its lines
items-with : (setup : ChannelSetup) (edges : List Edge) (edge : Edge) (t : Bool) → is_on setup edge ≡ t → items_on setup (edges ++ edge ∷ []) ≡ items_on setup edges ++ map item.Edge (cond t (edge ∷ []) [])
unfolding items_on
items-with setup edges edge t on =
    ap (map item.Edge) (filter-append (is_on setup) edges (edge ∷ []) ∙ ap (λ (u : Bool). filter (is_on setup) edges ++ cond u (edge ∷ []) []) on)
    ∙ map-append item.Edge (filter (is_on setup) edges) (cond t (edge ∷ []) [])

items-same : (setup : ChannelSetup) (edges : List Edge) (edge : Edge) → is_on setup edge ≡ false → items_on setup (edges ++ edge ∷ []) ≡ items_on setup edges
items-same setup edges edge off = items-with setup edges edge false off ∙ append-nil (items_on setup edges)

items-more : (setup : ChannelSetup) (edges : List Edge) (edge : Edge) → is_on setup edge ≡ true → items_on setup (edges ++ edge ∷ []) ≡ items_on setup edges ++ item.Edge edge ∷ []
items-more setup edges edge on = items-with setup edges edge true on

-- an edge of another line adds no report
pub nothing-added : (setup : ChannelSetup) (edges : List Edge) (edge : Edge) → is_on setup edge ≡ false → reports_added setup edges edge ≡ []
unfolding reports_added reports_on
nothing-added setup edges edge off =
    ap (λ items. drop (length (so_far setup (items_on setup edges))) (so_far setup items)) (items-same setup edges edge off)
    ∙ drop_all (length (so_far setup (items_on setup edges))) (so_far setup (items_on setup edges)) (omega arith)

-- and is taken
pub still-follows : (channel : CountedReceiver) (edges : List Edge) (edge : Edge) → is_on channel.setup edge ≡ false → Follows channel edges → Follows channel (edges ++ edge ∷ [])
still-follows channel edges edge off before = subst (λ (items : List Item). HasTaken channel items) (sym (items-same channel.setup edges edge off)) before

-- a channel that has taken the next edge of its lines follows the edges with it
pub follows-more : (old new : CountedReceiver) (edges : List Edge) (edge : Edge) → is_on old.setup edge ≡ true → new.setup ≡ old.setup → HasTaken new (items_on old.setup edges ++ item.Edge edge ∷ []) → Follows new (edges ++ edge ∷ [])
follows-more old new edges edge on same taken =
    subst (λ (items : List Item). HasTaken new items) (sym (items-more old.setup edges edge on) ∙ ap (λ (setup : ChannelSetup). items_on setup (edges ++ edge ∷ [])) (sym same)) taken

-- and what it gave is what the edge adds
pub are-added : (setup : ChannelSetup) (edges : List Edge) (edge : Edge) (reports : List Report) → is_on setup edge ≡ true
    → so_far setup (items_on setup edges ++ item.Edge edge ∷ []) ≡ so_far setup (items_on setup edges) ++ reports → reports ≡ reports_added setup edges edge
unfolding reports_added reports_on
are-added setup edges edge reports on grows =
    let more = ap (so_far setup) (items-more setup edges edge on) ∙ grows in
    sym (ap (drop (length (so_far setup (items_on setup edges)))) more ∙ drop_at (so_far setup (items_on setup edges)) reports (length (so_far setup (items_on setup edges))) refl)

-- what the end gave is what it adds
pub are-of_end : (setup : ChannelSetup) (edges : List Edge) (reports : List Report) → so_far setup (items_on setup edges ++ item.End ∷ []) ≡ so_far setup (items_on setup edges) ++ reports → reports ≡ reports_of_end setup edges
unfolding reports_of_end final_on final reports_on
are-of_end setup edges reports grows =
    sym (ap (drop (length (so_far setup (items_on setup edges)))) grows ∙ drop_at (so_far setup (items_on setup edges)) reports (length (so_far setup (items_on setup edges))) refl)

-- and all reports are counted then
pub counted-final : (old new : CountedReceiver) (edges : List Edge) → new.setup ≡ old.setup → HasTaken new (items_on old.setup edges ++ item.End ∷ []) → new.tally ≡ tally_of (final_on old.setup edges)
unfolding final_on final
counted-final old new edges same taken = taken.counted_are ∙ ap (λ (setup : ChannelSetup). tally_of (so_far setup (items_on old.setup edges ++ item.End ∷ []))) same

-- a new channel has taken no edge
pub nothing-follows : (channel : CountedReceiver) → HasTaken channel [] → Follows channel []
unfolding items_on
nothing-follows channel taken = taken
