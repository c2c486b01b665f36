-- The lines of a PSI5 channel, and the places of its bursts, with one edge more.
--     data-on, data-off      the edges of the data line
--     added-on, added-off      which burst the edge begins
--     history-more, places-more, places-counted      what the slots are told, and where the bursts stand
use Rattle.std.proofs.Common.{◌≡◌, ℕ, suc, ◌+◌, ◌-◌, ◌≤◌, Bool, true, false, ◌||◌, not, if◌then◌else◌, Option, List, [], ◌∷◌, ◌++◌, length, drop, map, refl, ap, sym, subst, ◌∙◌, append_assoc, append-nil, arith}
use Rattle.std.specs.List.{filter, list_any}
use Rattle.std.proofs.Math.Seq.{drop-append_seam}
use Rattle.std.proofs.lemmas.List.{length-append, length-map}
use Rattle.std.proofs.lemmas.List.Elements.{filter-append}
use Rattle.std.proofs.lemmas.List.Folds.{list_any-append}
use Rattle.line_base.specs.Edges.{NumberedEdge}
use Rattle.line_base.specs.Streams.{IsFrontOf}
use Rattle.psi5_frame.specs.Setup.{Settings}
use Rattle.psi5_frame.specs.Bursts.{begins, burst_starts, starts_in}
use Rattle.psi5_frame.specs.Edges.{Change, changes_after, changes_of}
use Rattle.psi5_frame.proofs.Prefixes.{grows-starts}
use Rattle.receiver_core.specs.declared.setup.SyncSlots.{SyncSlots}
use Rattle.receiver_core.specs.Psi5Places.{is_on_sync, data_edges, has_sync_edge, grown, starts_added, slot_events, slot_events_after, slot_history, burst_place, places_after, burst_places}

-- ---- the lines
pub data-more : (slots : Option SyncSlots) (seen more : List NumberedEdge) → data_edges slots (seen ++ more) ≡ data_edges slots seen ++ data_edges slots more
unfolding data_edges
data-more slots seen more = filter-append (λ e. not (is_on_sync slots e)) seen more

by_line : (e : NumberedEdge) (b : Bool) → (if not b then e ∷ [] else []) ≡ (if b then [] else e ∷ [])
by_line e true = refl
by_line e false = refl

data-one : (slots : Option SyncSlots) (e : NumberedEdge) → data_edges slots (e ∷ []) ≡ (if is_on_sync slots e then [] else e ∷ [])
unfolding data_edges
data-one slots e = by_line e (is_on_sync slots e)

-- an edge of the sync line adds no data edge
pub data-on : (slots : Option SyncSlots) (seen : List NumberedEdge) (e : NumberedEdge) → is_on_sync slots e ≡ true → data_edges slots (seen ++ e ∷ []) ≡ data_edges slots seen
data-on slots seen e on =
    data-more slots seen (e ∷ []) ∙ ap (λ l. data_edges slots seen ++ l) (data-one slots e ∙ ap (λ (b : Bool). if b then [] else e ∷ []) on) ∙ append-nil (data_edges slots seen)

-- any other edge is one
pub data-off : (slots : Option SyncSlots) (seen : List NumberedEdge) (e : NumberedEdge) → is_on_sync slots e ≡ false → data_edges slots (seen ++ e ∷ []) ≡ data_edges slots seen ++ e ∷ []
data-off slots seen e off = data-more slots seen (e ∷ []) ∙ ap (λ l. data_edges slots seen ++ l) (data-one slots e ∙ ap (λ (b : Bool). if b then [] else e ∷ []) off)

or-false : (b : Bool) → (b || false) ≡ b
or-false true = refl
or-false false = refl

-- an edge of the sync line is one there
pub sync_edge-more : (slots : Option SyncSlots) (seen : List NumberedEdge) (e : NumberedEdge) → has_sync_edge slots (seen ++ e ∷ []) ≡ (has_sync_edge slots seen || is_on_sync slots e)
unfolding has_sync_edge
sync_edge-more slots seen e = list_any-append (is_on_sync slots) seen (e ∷ []) ∙ ap (λ b. list_any (is_on_sync slots) seen || b) (or-false (is_on_sync slots e))

-- ---- the bursts that begin
-- a list that has grown by these has these new
pub grown-by : {X : Type 0} (before after more : List X) → after ≡ before ++ more → grown before after ≡ more
grown-by before after more is = ap (drop (length before)) is ∙ drop-append_seam before more

-- an edge of the sync line begins none
pub added-on : (s : Settings) (slots : Option SyncSlots) (seen : List NumberedEdge) (e : NumberedEdge) → is_on_sync slots e ≡ true → starts_added s slots seen e ≡ []
unfolding starts_added
added-on s slots seen e on =
    let starts = burst_starts s (data_edges slots seen) in
    grown-by starts (burst_starts s (data_edges slots (seen ++ e ∷ []))) [] (ap (burst_starts s) (data-on slots seen e on) ∙ sym (append-nil starts))

-- any other those by which the bursts of the data line grow
pub added-off : (s : Settings) (slots : Option SyncSlots) (seen : List NumberedEdge) (e : NumberedEdge) (more : List ℕ) → is_on_sync slots e ≡ false
    → burst_starts s (data_edges slots seen ++ e ∷ []) ≡ burst_starts s (data_edges slots seen) ++ more → starts_added s slots seen e ≡ more
unfolding starts_added
added-off s slots seen e more off is =
    grown-by (burst_starts s (data_edges slots seen)) (burst_starts s (data_edges slots (seen ++ e ∷ []))) more (ap (burst_starts s) (data-off slots seen e off) ∙ is)

-- the bursts that have begun are those before the edge and the one that it begins
pub starts-more : (s : Settings) (slots : Option SyncSlots) (seen : List NumberedEdge) (e : NumberedEdge)
    → burst_starts s (data_edges slots (seen ++ e ∷ [])) ≡ burst_starts s (data_edges slots seen) ++ starts_added s slots seen e
unfolding starts_added
starts-more s slots seen e =
    let starts = burst_starts s (data_edges slots seen) in
    let front : IsFrontOf starts (burst_starts s (data_edges slots (seen ++ e ∷ []))) =
    subst (λ l. IsFrontOf starts (burst_starts s l)) (sym (data-more slots seen (e ∷ []))) (grows-starts s (data_edges slots seen) (data_edges slots (e ∷ []))) in
    front.is ∙ ap (λ l. starts ++ l) (sym (grown-by starts (burst_starts s (data_edges slots (seen ++ e ∷ []))) front.rest front.is))

-- ---- what the slots are told
events-append : (s : Settings) (slots : Option SyncSlots) (before edges : List NumberedEdge) (e : NumberedEdge)
    → slot_events_after s slots before (edges ++ e ∷ []) ≡ slot_events_after s slots before edges ++ slot_events s slots (before ++ edges) e
unfolding slot_events_after
events-append s slots before [] e = append-nil (slot_events s slots before e) ∙ ap (λ l. slot_events s slots l e) (sym (append-nil before))
events-append s slots before (x ∷ edges) e =
    let here = slot_events s slots before x in
    ap (λ l. here ++ l) (events-append s slots (before ++ x ∷ []) edges e)
    ∙ sym (append_assoc here (slot_events_after s slots (before ++ x ∷ []) edges) (slot_events s slots ((before ++ x ∷ []) ++ edges) e))
    ∙ ap (λ l. (here ++ slot_events_after s slots (before ++ x ∷ []) edges) ++ slot_events s slots l e) (append_assoc before (x ∷ []) edges)

-- the slots are told what the edge adds
pub history-more : (s : Settings) (slots : Option SyncSlots) (seen : List NumberedEdge) (e : NumberedEdge)
    → slot_history s slots (seen ++ e ∷ []) ≡ slot_history s slots seen ++ slot_events s slots seen e
history-more s slots seen e = events-append s slots [] seen e

-- no edges tell them nothing
pub history-none : (s : Settings) (slots : Option SyncSlots) → slot_history s slots [] ≡ []
unfolding slot_events_after
history-none s slots = refl

-- ---- the places
places-append : (s : Settings) (slots : Option SyncSlots) (before edges : List NumberedEdge) (e : NumberedEdge)
    → places_after s slots before (edges ++ e ∷ []) ≡ places_after s slots before edges ++ map (λ number. burst_place s slots (before ++ edges) e) (starts_added s slots (before ++ edges) e)
unfolding places_after
places-append s slots before [] e =
    append-nil (map (λ number. burst_place s slots before e) (starts_added s slots before e))
    ∙ ap (λ l. map (λ number. burst_place s slots l e) (starts_added s slots l e)) (sym (append-nil before))
places-append s slots before (x ∷ edges) e =
    let here = map (λ number. burst_place s slots before x) (starts_added s slots before x) in
    let later = places_after s slots (before ++ x ∷ []) edges in
    ap (λ l. here ++ l) (places-append s slots (before ++ x ∷ []) edges e)
    ∙ sym (append_assoc here later (map (λ number. burst_place s slots ((before ++ x ∷ []) ++ edges) e) (starts_added s slots ((before ++ x ∷ []) ++ edges) e)))
    ∙ ap (λ l. (here ++ later) ++ map (λ number. burst_place s slots l e) (starts_added s slots l e)) (append_assoc before (x ∷ []) edges)

-- the bursts stand where they stood, and the one that the edge begins, where it stands
pub places-more : (s : Settings) (slots : Option SyncSlots) (seen : List NumberedEdge) (e : NumberedEdge)
    → burst_places s slots (seen ++ e ∷ []) ≡ burst_places s slots seen ++ map (λ number. burst_place s slots seen e) (starts_added s slots seen e)
places-more s slots seen e = places-append s slots [] seen e

-- no edges begin none
pub places-none : (s : Settings) (slots : Option SyncSlots) → burst_places s slots [] ≡ []
unfolding places_after
places-none s slots = refl

-- the places of more edges begin with those of these
pub places-front : (s : Settings) (slots : Option SyncSlots) (before edges more : List NumberedEdge)
    → places_after s slots before (edges ++ more) ≡ places_after s slots before edges ++ places_after s slots (before ++ edges) more
unfolding places_after
places-front s slots before [] more = ap (λ l. places_after s slots l more) (sym (append-nil before))
places-front s slots before (x ∷ edges) more =
    let here = map (λ number. burst_place s slots before x) (starts_added s slots before x) in
    let later = places_after s slots (before ++ x ∷ []) edges in
    ap (λ l. here ++ l) (places-front s slots (before ++ x ∷ []) edges more)
    ∙ sym (append_assoc here later (places_after s slots ((before ++ x ∷ []) ++ edges) more))
    ∙ ap (λ l. (here ++ later) ++ places_after s slots l more) (append_assoc before (x ∷ []) edges)

counted-from : (s : Settings) (slots : Option SyncSlots) (before edges : List NumberedEdge)
    → length (burst_starts s (data_edges slots before)) + length (places_after s slots before edges) ≡ length (burst_starts s (data_edges slots (before ++ edges)))
unfolding places_after
counted-from s slots before [] =
    let same = ap (λ l. length (burst_starts s (data_edges slots l))) (append-nil before) in
    omega (arith, same)
counted-from s slots before (x ∷ edges) =
    let added = starts_added s slots before x in
    let here = map (λ number. burst_place s slots before x) added in
    let later = places_after s slots (before ++ x ∷ []) edges in
    let all : length (here ++ later) ≡ length added + length later = length-append here later ∙ ap (λ n. n + length later) (length-map added (λ number. burst_place s slots before x)) in
    let now : length (burst_starts s (data_edges slots (before ++ x ∷ []))) ≡ length (burst_starts s (data_edges slots before)) + length added =
    ap length (starts-more s slots before x) ∙ length-append (burst_starts s (data_edges slots before)) added in
    let rest = counted-from s slots (before ++ x ∷ []) edges in
    let same = ap (λ l. length (burst_starts s (data_edges slots l))) (append_assoc before (x ∷ []) edges) in
    omega (arith, all, now, rest, same)

pub no-data : (slots : Option SyncSlots) → data_edges slots [] ≡ []
unfolding data_edges
no-data slots = refl

no-starts : (s : Settings) (slots : Option SyncSlots) → burst_starts s (data_edges slots []) ≡ []
unfolding data_edges changes_of starts_in
no-starts s slots = refl

-- there is one for each burst that has begun
pub places-counted : (s : Settings) (slots : Option SyncSlots) (seen : List NumberedEdge) → length (burst_places s slots seen) ≡ length (burst_starts s (data_edges slots seen))
places-counted s slots seen =
    let all = counted-from s slots [] seen in
    let none = ap length (no-starts s slots) in
    omega (arith, all, none)

-- ---- numbers
few-kept : {X : Type 0} (p : X → Bool) (xs : List X) → length (filter p xs) ≤ length xs
few-kept p [] = omega arith
few-kept p (x ∷ xs) = by_first (p x) (few-kept p xs)
  where
    by_first : (b : Bool) → length (filter p xs) ≤ length xs → length (if b then x ∷ filter p xs else filter p xs) ≤ suc (length xs)
    by_first true few = omega (arith, few)
    by_first false few = omega (arith, few)

changes-few : (bit before : ℕ) (edges : List NumberedEdge) → length (changes_after bit before edges) ≤ length edges
unfolding changes_after
changes-few bit before [] = omega arith
changes-few bit before (e ∷ edges) = let few = changes-few bit e.edge.time edges in omega (arith, few)

line-few : (bit : ℕ) (edges : List NumberedEdge) → length (changes_of bit edges) ≤ length edges - 1
unfolding changes_of
line-few bit [] = omega arith
line-few bit (opening ∷ edges) = let few = changes-few bit opening.edge.time edges in omega (arith, few)

started-few : (s : Settings) (edges : List NumberedEdge) → length (burst_starts s edges) ≤ length edges - 1
unfolding starts_in
started-few s edges =
    let few = line-few s.bit edges in
    let kept = few-kept begins (changes_of s.bit edges) in
    omega (arith, few, kept, length-map (filter begins (changes_of s.bit edges)) (λ (edge : Change). edge.number))

data-few : (slots : Option SyncSlots) (edges : List NumberedEdge) → length (data_edges slots edges) ≤ length edges
unfolding data_edges
data-few slots edges = few-kept (λ e. not (is_on_sync slots e)) edges

-- fewer bursts begin than there are edges
pub starts-few : (s : Settings) (slots : Option SyncSlots) (seen : List NumberedEdge) → length (burst_starts s (data_edges slots seen)) ≤ length seen - 1
starts-few s slots seen =
    let starts = started-few s (data_edges slots seen) in
    let fewer = data-few slots seen in
    omega (arith, starts, fewer)
