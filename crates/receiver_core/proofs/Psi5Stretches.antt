-- A PSI5 channel that has taken one edge more of its data line, or an end.
--     told-more, told-last      what is told
--     reports-more, past-more      its reports, and the good bursts since the last break
--     bursts-more      what the channel stands for
use Rattle.std.proofs.Common.{◌≡◌, ℕ, zero, suc, ◌+◌, ◌-◌, ◌≤◌, Bool, true, false, if◌then◌else◌, Option, None, Some, List, [], ◌∷◌, ◌++◌, length, drop, map, option_to_list, refl, ap, sym, subst, ◌∙◌, append-nil, arith}
use Rattle.std.specs.List.{last_or}
use Rattle.std.specs.List.{All}
use Rattle.std.specs.Option.{IfSome}
use Rattle.std.proofs.lemmas.List.{length-append, take_at}
use Rattle.std.proofs.lemmas.List.Elements.{All-pop, All-take}
use Rattle.line_base.specs.Edges.{NumberedEdge}
use Rattle.line_base.specs.Streams.{IsFrontOf}
use Rattle.psi5_frame.specs.Setup.{Settings}
use Rattle.psi5_frame.specs.declared.burst.Burst.{Burst}
use Rattle.psi5_frame.specs.declared.burst.Burst.TheVariants.{Good, Bad}
use Rattle.psi5_frame.specs.declared.reader.BurstReader.{BurstReader}
use Rattle.psi5_frame.specs.Meanings.{BurstFits}
use Rattle.psi5_frame.specs.Readers as frames
use Rattle.psi5_frame.proofs.Fitting.{all-fit}
use Rattle.psi5_frame.proofs.Prefixes.{grows-at_end, grows-bursts}
use Rattle.psi5_frame.specs.Bursts.{bursts_so_far, bursts_at_end, burst_starts}
use Rattle.psi5_frame.proofs.Counts.{so_far-counted, at_end-counted}
use Rattle.receiver_core.specs.declared.setup.SyncSlots.{SyncSlots}
use Rattle.receiver_core.specs.declared.report.Report.{Report}
use Rattle.receiver_core.specs.declared.psi5_burst.BurstPlace.{BurstPlace}
use Rattle.receiver_core.specs.declared.psi5_burst.BurstPlace.TheVariants as at
use Rattle.receiver_core.specs.declared.psi5_burst.Told.{Told}
use Rattle.receiver_core.specs.declared.psi5_burst.Told.TheVariants as told
use Rattle.receiver_core.specs.declared.sync_line.SyncLine.{SyncLine}
use Rattle.receiver_core.specs.declared.init_readers.InitReaders.{InitReaders}
use Rattle.receiver_core.specs.declared.psi5_channel.Psi5Channel.{Psi5Channel}
use Rattle.receiver_core.specs.Psi5Places.{is_on_sync, data_edges, starts_added, burst_place, places_after, burst_places}
use Rattle.receiver_core.specs.Psi5Reports.{told_of, told_at, told_so_far, told_at_end, told_past, burst_reports, psi5_so_far, psi5_at_end}
use Rattle.receiver_core.specs.Psi5Stretches.{told_ended, IsPlace, ReadsCodes, SyncStandsFor, StandsForBursts}
use Rattle.receiver_core.proofs.Psi5Places.{data-more, data-on, data-off, no-data, added-on, added-off, places-more, places-front, places-none, places-counted, starts-few}
use Rattle.receiver_core.proofs.SyncLines.{line-passed}
use Rattle.receiver_core.proofs.Psi5Reports.{told-parts, told-none, told-one, reports-append, reports-nil, past-append, past-nil}

-- ---- the last place
last_one : (place : BurstPlace) (before : Option BurstPlace) (places : List BurstPlace) (count : ℕ) → length places ≡ suc count → Some place ≡ last_or before places → drop count places ≡ place ∷ []
last_one place before [] count long last = absurd cc
last_one place before (p ∷ []) zero long last = cc
last_one place before (p ∷ q ∷ places) zero long last = absurd cc
last_one place before (p ∷ places) (suc count) long last = last_one place (Some p) places count (omega (arith, long)) last

-- ---- what is told
one_ended : (place : BurstPlace) (places more : List BurstPlace) (bursts : List Burst) (ended : Option Burst) → length bursts ≤ length places
    → ((burst : Burst) → ended ≡ Some burst → length places ≡ suc (length bursts)) → Some place ≡ last_or (Some at.Unread) places
    → told_at (places ++ more) (bursts ++ option_to_list ended) ≡ told_at places bursts ++ told_ended place ended
one_ended place places more bursts None few one last =
    told-parts places more bursts [] few ∙ ap (λ l. told_at places bursts ++ l) (told-none (drop (length bursts) places ++ more))
one_ended place places more bursts (Some burst) few one last =
    told-parts places more bursts (burst ∷ []) few
    ∙ ap (λ l. told_at places bursts ++ l) (ap (λ l. told_at (l ++ more) (burst ∷ [])) (last_one place (Some at.Unread) places (length bursts) (one burst refl) last) ∙ told-one place more burst)

some-more : (bursts more : List Burst) (ended : Option Burst) (burst : Burst) → more ≡ bursts ++ option_to_list ended → ended ≡ Some burst → length more ≡ suc (length bursts)
some-more bursts more ended burst is some =
    let all : length more ≡ length bursts + 1 = ap length (is ∙ ap (λ (o : Option Burst). bursts ++ option_to_list o) some) ∙ length-append bursts (burst ∷ []) in
    omega (arith, all)

begun-count : (began : Bool) (number : ℕ) → length (if began then number ∷ [] else []) ≤ 1
begun-count true number = omega arith
begun-count false number = omega arith

-- what is told of the edges and one more of the data line is what was told, and what is told of the burst that it ends
pub told-more : (s : Settings) (slots : Option SyncSlots) (seen : List NumberedEdge) (e : NumberedEdge) (place : BurstPlace) (ended : Option Burst) (began : Bool) → is_on_sync slots e ≡ false
    → bursts_so_far s (data_edges slots seen ++ e ∷ []) ≡ bursts_so_far s (data_edges slots seen) ++ option_to_list ended
    → burst_starts s (data_edges slots seen ++ e ∷ []) ≡ burst_starts s (data_edges slots seen) ++ (if began then e.number ∷ [] else [])
    → Some place ≡ last_or (Some at.Unread) (burst_places s slots seen)
    → told_so_far s slots (seen ++ e ∷ []) ≡ told_so_far s slots seen ++ told_ended place ended
unfolding told_so_far
told-more s slots seen e place ended began off grows starts last =
    let line = data_edges slots seen in
    let places = burst_places s slots seen in
    let bursts = bursts_so_far s line in
    let more = map (λ number. burst_place s slots seen e) (starts_added s slots seen e) in
    let so_far = so_far-counted s line in
    let after = so_far-counted s (line ++ e ∷ []) in
    let counted = places-counted s slots seen in
    let begun : length (burst_starts s (line ++ e ∷ [])) ≡ length (burst_starts s line) + length (if began then e.number ∷ [] else []) = ap length starts ∙ length-append (burst_starts s line) (if began then e.number ∷ [] else []) in
    let few : length bursts ≤ length places = omega (arith, so_far, counted) in
    let one : (burst : Burst) → ended ≡ Some burst → length places ≡ suc (length bursts) =
    λ burst some. omega (arith, some-more bursts (bursts_so_far s (line ++ e ∷ [])) ended burst grows some, so_far, after, counted, begun, begun-count began e.number) in
    ap (λ l. told_at l (bursts_so_far s (data_edges slots (seen ++ e ∷ [])))) (places-more s slots seen e)
    ∙ ap (λ l. told_at (places ++ more) l) (ap (bursts_so_far s) (data-off slots seen e off) ∙ grows)
    ∙ one_ended place places more bursts ended few one last

-- what is told at the end is what was told, and what is told of the last burst
pub told-last : (s : Settings) (slots : Option SyncSlots) (seen : List NumberedEdge) (place : BurstPlace) (last : Option Burst)
    → bursts_at_end s (data_edges slots seen) ≡ bursts_so_far s (data_edges slots seen) ++ option_to_list last
    → Some place ≡ last_or (Some at.Unread) (burst_places s slots seen)
    → told_at_end s slots seen ≡ told_so_far s slots seen ++ told_ended place last
unfolding told_so_far told_at_end
told-last s slots seen place last ends is_last =
    let line = data_edges slots seen in
    let places = burst_places s slots seen in
    let bursts = bursts_so_far s line in
    let so_far = so_far-counted s line in
    let at_end = at_end-counted s line in
    let counted = places-counted s slots seen in
    let few : length bursts ≤ length places = omega (arith, so_far, counted) in
    let one : (burst : Burst) → last ≡ Some burst → length places ≡ suc (length bursts) =
    λ burst some. omega (arith, some-more bursts (bursts_at_end s line) last burst ends some, at_end, counted) in
    ap (λ l. told_at places l) ends ∙ ap (λ l. told_at l (bursts ++ option_to_list last)) (sym (append-nil places)) ∙ one_ended place places [] bursts last few one is_last

-- ---- its reports
-- where more is told, the reports grow by those of it
pub reports-more : (s : Settings) (slots : Option SyncSlots) (repeats : Option ℕ) (seen after : List NumberedEdge) (next : List Told) → told_so_far s slots after ≡ told_so_far s slots seen ++ next
    → psi5_so_far s slots repeats after ≡ psi5_so_far s slots repeats seen ++ burst_reports s repeats (told_past [] (told_so_far s slots seen)) next
unfolding psi5_so_far
reports-more s slots repeats seen after next is = ap (burst_reports s repeats []) is ∙ reports-append s repeats [] (told_so_far s slots seen) next

pub reports-last : (s : Settings) (slots : Option SyncSlots) (repeats : Option ℕ) (seen : List NumberedEdge) (next : List Told) → told_at_end s slots seen ≡ told_so_far s slots seen ++ next
    → psi5_at_end s slots repeats seen ≡ psi5_so_far s slots repeats seen ++ burst_reports s repeats (told_past [] (told_so_far s slots seen)) next
unfolding psi5_so_far psi5_at_end
reports-last s slots repeats seen next is = ap (burst_reports s repeats []) is ∙ reports-append s repeats [] (told_so_far s slots seen) next

-- and so do the good bursts since the last break
pub past-more : (s : Settings) (slots : Option SyncSlots) (seen after : List NumberedEdge) (next : List Told) → told_so_far s slots after ≡ told_so_far s slots seen ++ next
    → told_past [] (told_so_far s slots after) ≡ told_past (told_past [] (told_so_far s slots seen)) next
past-more s slots seen after next is = ap (told_past []) is ∙ past-append [] (told_so_far s slots seen) next

-- ---- how many there are
past-few : (since all : List Told) → length (told_past since all) ≤ length since + length all
unfolding told_past
past-few since [] = omega arith
past-few since (told.Good place slot payload ∷ all) =
    let few = past-few (since ++ told.Good place slot payload ∷ []) all in
    omega (arith, few, length-append since (told.Good place slot payload ∷ []))
past-few since (told.Bad place rule ∷ all) = let few = past-few [] all in omega (arith, few)

one-told : (place : BurstPlace) (burst : Burst) → length (told_of place burst) ≤ 1
one-told at.Unread burst = omega arith
one-told at.Free (Good number payload) = omega arith
one-told at.Free (Bad number rule) = omega arith
one-told (at.Slot slot) (Good number payload) = omega arith
one-told (at.Slot slot) (Bad number rule) = omega arith
one-told (at.Outside first wrong) (Good number payload) = omega arith
one-told (at.Outside first wrong) (Bad number rule) = omega arith

told-few : (places : List BurstPlace) (bursts : List Burst) → length (told_at places bursts) ≤ length bursts
unfolding told_at
told-few [] bursts = omega arith
told-few (p ∷ places) [] = omega arith
told-few (p ∷ places) (b ∷ bursts) = let few = told-few places bursts in omega (arith, few, one-told p b, length-append (told_of p b) (told_at places bursts))

-- fewer good bursts than edges
pub since-few : (s : Settings) (slots : Option SyncSlots) (seen : List NumberedEdge) → length (told_past [] (told_so_far s slots seen)) ≤ length seen - 1
unfolding told_so_far
since-few s slots seen =
    let places = burst_places s slots seen in
    let bursts = bursts_so_far s (data_edges slots seen) in
    omega (arith, past-few [] (told_at places bursts), told-few places bursts, so_far-counted s (data_edges slots seen), starts-few s slots seen)

-- ---- the bursts fit
-- a burst that is complete has values that fit
pub ended-fits : (s : Settings) (before after : List NumberedEdge) (ended : Option Burst) → bursts_so_far s after ≡ bursts_so_far s before ++ option_to_list ended → IfSome ended (BurstFits s)
ended-fits s before after ended grows =
    let front = grows-at_end s after [] in
    let each : All (BurstFits s) (bursts_so_far s after ++ front.rest) = subst (λ (l : List Burst). All (BurstFits s) l) front.is (all-fit s (after ++ [])) in
    let some : All (BurstFits s) (bursts_so_far s after) =
    subst (λ (l : List Burst). All (BurstFits s) l) (take_at (bursts_so_far s after) front.rest (length (bursts_so_far s after)) refl)
    (All-take (BurstFits s) (length (bursts_so_far s after)) (bursts_so_far s after ++ front.rest) each) in
    (All-pop (BurstFits s) (bursts_so_far s after) (bursts_so_far s before) ended grows some).1

-- and so has the last
pub last-fits : (s : Settings) (seen : List NumberedEdge) (last : Option Burst) → bursts_at_end s seen ≡ bursts_so_far s seen ++ option_to_list last → IfSome last (BurstFits s)
last-fits s seen last ends = (All-pop (BurstFits s) (bursts_at_end s seen) (bursts_so_far s seen) last ends (all-fit s seen)).1

-- ---- what the channel stands for
last-more : (before : Option BurstPlace) (places : List BurstPlace) (place : BurstPlace) → Some place ≡ last_or before (places ++ place ∷ [])
last-more before [] place = refl
last-more before (p ∷ places) place = last-more (Some p) places place

-- where the edge begins a burst, its place is the last
pub last-begun : (s : Settings) (slots : Option SyncSlots) (seen : List NumberedEdge) (e : NumberedEdge) (place : BurstPlace) → starts_added s slots seen e ≡ e.number ∷ [] → place ≡ burst_place s slots seen e
    → Some place ≡ last_or (Some at.Unread) (burst_places s slots (seen ++ e ∷ []))
last-begun s slots seen e place begins is =
    let places : burst_places s slots (seen ++ e ∷ []) ≡ burst_places s slots seen ++ place ∷ [] =
    places-more s slots seen e ∙ ap (λ l. burst_places s slots seen ++ map (λ number. burst_place s slots seen e) l) begins ∙ ap (λ (p : BurstPlace). burst_places s slots seen ++ p ∷ []) (sym is) in
    last-more (Some at.Unread) (burst_places s slots seen) place ∙ ap (last_or (Some at.Unread)) (sym places)

-- else the last place stays
pub last-stays : (s : Settings) (slots : Option SyncSlots) (seen : List NumberedEdge) (e : NumberedEdge) (place : BurstPlace) → starts_added s slots seen e ≡ []
    → Some place ≡ last_or (Some at.Unread) (burst_places s slots seen) → Some place ≡ last_or (Some at.Unread) (burst_places s slots (seen ++ e ∷ []))
last-stays s slots seen e place none last =
    last ∙ ap (last_or (Some at.Unread)) (sym (places-more s slots seen e ∙ ap (λ l. burst_places s slots seen ++ map (λ number. burst_place s slots seen e) l) none ∙ append-nil (burst_places s slots seen)))

-- the sync line stands for an edge of the data line that begins no burst
pub syncs-pass : (s : Settings) (slots : Option SyncSlots) (sync : Option SyncLine) (seen : List NumberedEdge) (e : NumberedEdge) → SyncStandsFor s slots sync seen → is_on_sync slots e ≡ false → starts_added s slots seen e ≡ []
    → SyncStandsFor s slots sync (seen ++ e ∷ [])
syncs-pass s None None seen e stands off none = tt
syncs-pass s None (Some sync) seen e stands off none = absurd stands
syncs-pass s (Some slots) None seen e stands off none = absurd stands
syncs-pass s (Some slots) (Some sync) seen e stands off none = line-passed s slots sync seen e stands off none

-- what one edge of the data line does to a channel
pub record IsRead (s : Settings) (slots : Option SyncSlots) (repeats : Option ℕ) (old : Psi5Channel) (seen : List NumberedEdge) (e : NumberedEdge) (reader : BurstReader) (ended : Option Burst) (began : Bool) : Type 0 where
  pub before : StandsForBursts s slots repeats old seen
  pub off : is_on_sync slots e ≡ false
  pub reads : frames.StandsFor s reader (data_edges slots seen ++ e ∷ [])
  pub grows : bursts_so_far s (data_edges slots seen ++ e ∷ []) ≡ bursts_so_far s (data_edges slots seen) ++ option_to_list ended
  pub starts : burst_starts s (data_edges slots seen ++ e ∷ []) ≡ burst_starts s (data_edges slots seen) ++ (if began then e.number ∷ [] else [])

-- what is told with it
pub told-read : (s : Settings) (slots : Option SyncSlots) (repeats : Option ℕ) (old : Psi5Channel) (seen : List NumberedEdge) (e : NumberedEdge) (reader : BurstReader) (ended : Option Burst) (began : Bool)
    → IsRead s slots repeats old seen e reader ended began → told_so_far s slots (seen ++ e ∷ []) ≡ told_so_far s slots seen ++ told_ended old.place ended
told-read s slots repeats old seen e reader ended began read = told-more s slots seen e old.place ended began read.off read.grows read.starts read.before.last

-- the channel stands for the edge too, where it begins a burst
pub bursts-begun : (s : Settings) (slots : Option SyncSlots) (repeats : Option ℕ) (old : Psi5Channel) (seen : List NumberedEdge) (e : NumberedEdge) (reader : BurstReader) (ended : Option Burst)
    → IsRead s slots repeats old seen e reader ended true → (sync : Option SyncLine) (place : BurstPlace) (init : Option InitReaders)
    → (starts_added s slots seen e ≡ e.number ∷ [] → SyncStandsFor s slots sync (seen ++ e ∷ [])) → place ≡ burst_place s slots seen e → IsPlace place
    → ReadsCodes s repeats old.has_codes init (told_past (told_past [] (told_so_far s slots seen)) (told_ended old.place ended))
    → StandsForBursts s slots repeats (record { has_codes = old.has_codes; sync = sync; bursts = reader; place = place; init = init }) (seen ++ e ∷ [])
bursts-begun s slots repeats old seen e reader ended read sync place init syncs is valid codes =
    let begins : starts_added s slots seen e ≡ e.number ∷ [] = added-off s slots seen e (e.number ∷ []) read.off read.starts in
    record {
      syncs = syncs begins;
      reads = subst (λ (l : List NumberedEdge). frames.StandsFor s reader l) (sym (data-off slots seen e read.off)) read.reads;
      last = last-begun s slots seen e place begins is;
      valid = valid;
      codes = subst (λ (l : List Told). ReadsCodes s repeats old.has_codes init l) (sym (past-more s slots seen (seen ++ e ∷ []) (told_ended old.place ended) (told-read s slots repeats old seen e reader ended true read))) codes;
    }

-- and where it doesn't
pub bursts-stay : (s : Settings) (slots : Option SyncSlots) (repeats : Option ℕ) (old : Psi5Channel) (seen : List NumberedEdge) (e : NumberedEdge) (reader : BurstReader) (ended : Option Burst)
    → IsRead s slots repeats old seen e reader ended false → (init : Option InitReaders)
    → ReadsCodes s repeats old.has_codes init (told_past (told_past [] (told_so_far s slots seen)) (told_ended old.place ended))
    → StandsForBursts s slots repeats (record { has_codes = old.has_codes; sync = old.sync; bursts = reader; place = old.place; init = init }) (seen ++ e ∷ [])
bursts-stay s slots repeats old seen e reader ended read init codes =
    let none : starts_added s slots seen e ≡ [] = added-off s slots seen e [] read.off read.starts in
    record {
      syncs = syncs-pass s slots old.sync seen e read.before.syncs read.off none;
      reads = subst (λ (l : List NumberedEdge). frames.StandsFor s reader l) (sym (data-off slots seen e read.off)) read.reads;
      last = last-stays s slots seen e old.place none read.before.last;
      valid = read.before.valid;
      codes = subst (λ (l : List Told). ReadsCodes s repeats old.has_codes init l) (sym (past-more s slots seen (seen ++ e ∷ []) (told_ended old.place ended) (told-read s slots repeats old seen e reader ended false read))) codes;
    }

-- nothing is told of an edge of the sync line
pub told-on : (s : Settings) (slots : Option SyncSlots) (seen : List NumberedEdge) (e : NumberedEdge) → is_on_sync slots e ≡ true → told_so_far s slots (seen ++ e ∷ []) ≡ told_so_far s slots seen
unfolding told_so_far
told-on s slots seen e on =
    ap (λ l. told_at l (bursts_so_far s (data_edges slots (seen ++ e ∷ []))))
    (places-more s slots seen e ∙ ap (λ l. burst_places s slots seen ++ map (λ number. burst_place s slots seen e) l) (added-on s slots seen e on) ∙ append-nil (burst_places s slots seen))
    ∙ ap (λ l. told_at (burst_places s slots seen) (bursts_so_far s l)) (data-on slots seen e on)

-- the channel stands for it too
pub bursts-synced : (s : Settings) (slots : Option SyncSlots) (repeats : Option ℕ) (old : Psi5Channel) (seen : List NumberedEdge) (e : NumberedEdge) (sync : Option SyncLine) → StandsForBursts s slots repeats old seen
    → is_on_sync slots e ≡ true → SyncStandsFor s slots sync (seen ++ e ∷ [])
    → StandsForBursts s slots repeats (record { has_codes = old.has_codes; sync = sync; bursts = old.bursts; place = old.place; init = old.init }) (seen ++ e ∷ [])
bursts-synced s slots repeats old seen e sync before on syncs = record {
  syncs = syncs;
  reads = subst (λ (l : List NumberedEdge). frames.StandsFor s old.bursts l) (sym (data-on slots seen e on)) before.reads;
  last = last-stays s slots seen e old.place (added-on s slots seen e on) before.last;
  valid = before.valid;
  codes = subst (λ (l : List Told). ReadsCodes s repeats old.has_codes old.init (told_past [] l)) (sym (told-on s slots seen e on)) before.codes;
}

pub none-told : (s : Settings) (slots : Option SyncSlots) → told_so_far s slots [] ≡ []
unfolding told_so_far told_at
none-told s slots = ap (λ l. told_at l (bursts_so_far s (data_edges slots []))) (places-none s slots)

nothing-past : told_past [] [] ≡ []
unfolding told_past
nothing-past = refl

-- a channel that has seen no edge
pub bursts-none : (s : Settings) (slots : Option SyncSlots) (repeats : Option ℕ) (channel : Psi5Channel) → SyncStandsFor s slots channel.sync [] → frames.StandsFor s channel.bursts []
    → channel.place ≡ at.Unread → ReadsCodes s repeats channel.has_codes channel.init [] → StandsForBursts s slots repeats channel []
bursts-none s slots repeats channel syncs reads unread codes = record {
  syncs = syncs;
  reads = subst (λ (l : List NumberedEdge). frames.StandsFor s channel.bursts l) (sym (no-data slots)) reads;
  last = ap (λ (p : BurstPlace). Some p) unread ∙ ap (last_or (Some at.Unread)) (sym (places-none s slots));
  valid = subst (λ (p : BurstPlace). IsPlace p) (sym unread) tt;
  codes = subst (λ (l : List Told). ReadsCodes s repeats channel.has_codes channel.init l) (sym (ap (told_past []) (none-told s slots) ∙ nothing-past)) codes;
}

-- and its reports stay
pub quiet-so_far : (s : Settings) (slots : Option SyncSlots) (repeats : Option ℕ) (seen : List NumberedEdge) (e : NumberedEdge) (reports : List Report) → reports ≡ [] → is_on_sync slots e ≡ true
    → psi5_so_far s slots repeats (seen ++ e ∷ []) ≡ psi5_so_far s slots repeats seen ++ reports
unfolding psi5_so_far
quiet-so_far s slots repeats seen e reports none on =
    ap (burst_reports s repeats []) (told-on s slots seen e on) ∙ sym (append-nil (burst_reports s repeats [] (told_so_far s slots seen))) ∙ ap (λ l. burst_reports s repeats [] (told_so_far s slots seen) ++ l) (sym none)

-- ---- an edge that goes on with a burst
-- it is read as one that ends and begins none
pub passed-read : (s : Settings) (slots : Option SyncSlots) (repeats : Option ℕ) (old : Psi5Channel) (seen : List NumberedEdge) (e : NumberedEdge) (reader : BurstReader)
    → StandsForBursts s slots repeats old seen → is_on_sync slots e ≡ false → frames.StandsFor s reader (data_edges slots seen ++ e ∷ [])
    → bursts_so_far s (data_edges slots seen ++ e ∷ []) ≡ bursts_so_far s (data_edges slots seen) → burst_starts s (data_edges slots seen ++ e ∷ []) ≡ burst_starts s (data_edges slots seen)
    → IsRead s slots repeats old seen e reader None false
passed-read s slots repeats old seen e reader before off reads quiet starts = record {
  before = before;
  off = off;
  reads = reads;
  grows = quiet ∙ sym (append-nil (bursts_so_far s (data_edges slots seen)));
  starts = starts ∙ sym (append-nil (burst_starts s (data_edges slots seen)));
}

pub bursts-pass : (s : Settings) (slots : Option SyncSlots) (repeats : Option ℕ) (old : Psi5Channel) (seen : List NumberedEdge) (e : NumberedEdge) (reader : BurstReader) → IsRead s slots repeats old seen e reader None false
    → StandsForBursts s slots repeats (record { has_codes = old.has_codes; sync = old.sync; bursts = reader; place = old.place; init = old.init }) (seen ++ e ∷ [])
bursts-pass s slots repeats old seen e reader read =
    bursts-stay s slots repeats old seen e reader None read old.init
    (subst (λ (l : List Told). ReadsCodes s repeats old.has_codes old.init l) (sym (past-nil (told_past [] (told_so_far s slots seen)))) read.before.codes)

pub pass-so_far : (s : Settings) (slots : Option SyncSlots) (repeats : Option ℕ) (old : Psi5Channel) (seen : List NumberedEdge) (e : NumberedEdge) (reader : BurstReader) (reports : List Report) → IsRead s slots repeats old seen e reader None false → reports ≡ []
    → psi5_so_far s slots repeats (seen ++ e ∷ []) ≡ psi5_so_far s slots repeats seen ++ reports
pass-so_far s slots repeats old seen e reader reports read none =
    reports-more s slots repeats seen (seen ++ e ∷ []) [] (told-read s slots repeats old seen e reader None false read)
    ∙ ap (λ l. psi5_so_far s slots repeats seen ++ l) (reports-nil s repeats (told_past [] (told_so_far s slots seen)) ∙ sym none)

-- ---- what was told stays
told-front : (s : Settings) (slots : Option SyncSlots) (seen more : List NumberedEdge) → IsFrontOf (told_so_far s slots seen) (told_so_far s slots (seen ++ more))
unfolding told_so_far
told-front s slots seen more =
    let line = data_edges slots seen in
    let places = burst_places s slots seen in
    let later = places_after s slots seen more in
    let front = grows-bursts s line (data_edges slots more) in
    let few : length (bursts_so_far s line) ≤ length places = omega (arith, so_far-counted s line, places-counted s slots seen) in
    record {
      rest = told_at (drop (length (bursts_so_far s line)) places ++ later) front.rest;
      is = ap (λ l. told_at l (bursts_so_far s (data_edges slots (seen ++ more)))) (places-front s slots [] seen more)
          ∙ ap (λ l. told_at (places ++ later) l) (ap (bursts_so_far s) (data-more slots seen more) ∙ front.is)
          ∙ told-parts places later (bursts_so_far s line) front.rest few;
    }

-- the reports of more edges begin with those of these
pub psi5-front : (s : Settings) (slots : Option SyncSlots) (repeats : Option ℕ) (seen more : List NumberedEdge) → IsFrontOf (psi5_so_far s slots repeats seen) (psi5_so_far s slots repeats (seen ++ more))
psi5-front s slots repeats seen more =
    let front = told-front s slots seen more in
    record {
      rest = burst_reports s repeats (told_past [] (told_so_far s slots seen)) front.rest;
      is = reports-more s slots repeats seen (seen ++ more) front.rest front.is;
    }

-- what is told at the end begins with what was told
pub end-front : (s : Settings) (slots : Option SyncSlots) (repeats : Option ℕ) (seen : List NumberedEdge) → IsFrontOf (psi5_so_far s slots repeats seen) (psi5_at_end s slots repeats seen)
unfolding told_so_far told_at_end psi5_so_far psi5_at_end
end-front s slots repeats seen =
    let line = data_edges slots seen in
    let places = burst_places s slots seen in
    let bursts = bursts_so_far s line in
    let front : IsFrontOf bursts (bursts_at_end s line) = subst (λ l. IsFrontOf bursts (bursts_at_end s l)) (append-nil line) (grows-at_end s line []) in
    let few : length bursts ≤ length places = omega (arith, so_far-counted s line, places-counted s slots seen) in
    let next = told_at (drop (length bursts) places ++ []) front.rest in
    let is : told_at places (bursts_at_end s line) ≡ told_at places bursts ++ next =
    ap (told_at places) front.is ∙ ap (λ l. told_at l (bursts ++ front.rest)) (sym (append-nil places)) ∙ told-parts places [] bursts front.rest few in
    record {
      rest = burst_reports s repeats (told_past [] (told_at places bursts)) next;
      is = ap (burst_reports s repeats []) is ∙ reports-append s repeats [] (told_at places bursts) next;
    }
