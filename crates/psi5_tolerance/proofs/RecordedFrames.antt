-- How the edges of a frame are heard that are recorded of it.
--     edges-recorded      edges that are recorded, each with its level
--     are_places, heard      edges at places one or two half-bits apart are steps to these places
--     no_start_in      no burst begins among them
--     frame_heard      the edges of a frame are a burst that is its waveform
use Rattle.std.proofs.Common.{◌≡◌, ℕ, suc, ◌+◌, ◌-◌, ◌*◌, ◌≤◌, ◌⊎◌, Bool, true, false, not, Option, List, [], ◌∷◌, ◌++◌, length, map, refl, sym, ◌∙◌, ap, ap₂, subst, inl, inr, arith}
use Rattle.std.proofs.lemmas.Nat.{mul-le}
use Rattle.line_base.specs.Edges.{NumberedEdge}
use Rattle.link_math.specs.declared.manchester.Halves.{Halves}
use Rattle.link_math.specs.declared.manchester.Halves.TheVariants.{Short, One, Two, Quiet}
use Rattle.link_math.specs.Division.{bits_of}
use Rattle.link_math.specs.Manchester.{halves_in}
use Rattle.psi5_frame.specs.declared.burst.Payload.{Payload}
use Rattle.psi5_frame.specs.declared.burst.Burst.TheVariants.{Good}
use Rattle.psi5_frame.specs.Intervals.{half_bits, is_quiet}
use Rattle.psi5_frame.specs.Setup.{Settings, bit_count, check_width}
use Rattle.psi5_frame.specs.Edges.{Change, change_at, changes_after}
use Rattle.psi5_frame.specs.Frames.{payload_bits, check_number, frame_of, changed_at, waveform, levels_of}
use Rattle.psi5_frame.specs.Waveforms.{IsStep, AreSteps, Alternate, places_after, IsFrameBurst}
use Rattle.psi5_frame.specs.Bursts.{has_start, last_of, judged}
use Rattle.psi5_frame.proofs.FrameLaws.{frame_is_good, front_of_waveform, length-framed}
use Rattle.link_tolerance.specs.Recorded.{IsRecorded, AreRecorded}
use Rattle.psi5_tolerance.specs.Lines.{SyncWindows, times_of}
use Rattle.psi5_tolerance.specs.Trains.{FrameSent, FrameAt, IdealEdge, edges_at, edges_sent, end_of, SentBefore, IsHalf, IsFrameSent}
use Rattle.psi5_tolerance.specs.Traces.{ideal_times}
use Rattle.psi5_tolerance.proofs.Intervals.{AreBounds, one_half, two_halves}

-- ---- recorded edges
pub record IsEdge (jitter : ℕ) (ideal : IdealEdge) (e : NumberedEdge) : Type 0 where
  pub at : IsRecorded jitter ideal.time e.edge.time
  pub level : e.edge.level ≡ ideal.level

abbrev pub AreEdges : ℕ → List IdealEdge → List NumberedEdge → Type 0
AreEdges jitter [] [] = Unit {0}
AreEdges jitter [] (e ∷ edges) = ⊥
AreEdges jitter (ideal ∷ ideals) [] = ⊥
AreEdges jitter (ideal ∷ ideals) (e ∷ edges) = IsEdge jitter ideal e × AreEdges jitter ideals edges

pub edges-recorded : (jitter : ℕ) (ideals : List IdealEdge) (edges : List NumberedEdge) → AreRecorded jitter (ideal_times ideals) (times_of edges)
    → map (λ (e : NumberedEdge). e.edge.level) edges ≡ map (λ (ideal : IdealEdge). ideal.level) ideals → AreEdges jitter ideals edges
edges-recorded jitter [] [] times levels = tt
edges-recorded jitter [] (e ∷ edges) times levels = absurd times
edges-recorded jitter (ideal ∷ ideals) [] times levels = absurd times
edges-recorded jitter (ideal ∷ ideals) (e ∷ edges) times levels =
    (record { at = times.0; level = cc }, edges-recorded jitter ideals edges times.1 cc)

pub length-edges : (jitter : ℕ) (ideals : List IdealEdge) (edges : List NumberedEdge) → AreEdges jitter ideals edges → length edges ≡ length ideals
length-edges jitter [] [] recorded = refl
length-edges jitter [] (e ∷ edges) recorded = absurd recorded
length-edges jitter (ideal ∷ ideals) [] recorded = absurd recorded
length-edges jitter (ideal ∷ ideals) (e ∷ edges) recorded = ap suc (length-edges jitter ideals edges recorded.1)

pub length-edges_at : (start half : ℕ) (level : Bool) (places : List ℕ) → length (edges_at start half level places) ≡ length places
unfolding edges_at
length-edges_at start half level [] = refl
length-edges_at start half level (place ∷ places) = ap suc (length-edges_at start half (not level) places)

-- ---- the places of a waveform
abbrev pub StepPlaces : ℕ → List ℕ → Type 0
StepPlaces place [] = Unit {0}
StepPlaces place (next ∷ places) = ((next ≡ suc place) ⊎ (next ≡ suc (suc place))) × StepPlaces next places

abbrev pub last_place : ℕ → List ℕ → ℕ
last_place place [] = place
last_place place (next ∷ places) = last_place next places

-- the places after the middle of a bit are one or two half-bits apart, and end in time
pub record ArePlaces (bits : ℕ) (place : ℕ) (places : List ℕ) : Type 0 where
  pub apart : StepPlaces place places
  pub ends : last_place place places ≤ place + 1 + 2 * bits

pub are_places : (bits : List Bool) (place : ℕ) (level : Bool) → ArePlaces (length bits) place (changed_at (suc place) level (levels_of bits ++ false ∷ []))
unfolding changed_at
are_places [] place true = record { apart = (inl refl, tt); ends = omega arith }
are_places [] place false = record { apart = tt; ends = omega arith }
are_places (true ∷ bits) place true = let h = are_places bits (suc (suc place)) false in record { apart = (inr refl, h.apart); ends = omega (arith, h.ends) }
are_places (false ∷ bits) place false = let h = are_places bits (suc (suc place)) true in record { apart = (inr refl, h.apart); ends = omega (arith, h.ends) }
are_places (false ∷ bits) place true = let h = are_places bits (suc (suc place)) true in record { apart = (inl refl, (inl refl, h.apart)); ends = omega (arith, h.ends) }
are_places (true ∷ bits) place false = let h = are_places bits (suc (suc place)) false in record { apart = (inl refl, (inl refl, h.apart)); ends = omega (arith, h.ends) }

-- the bits of a frame behind its first start bit
abbrev pub later_bits : Settings → Payload → List Bool
later_bits s p = false ∷ (payload_bits s.parts p ++ bits_of (check_width s.check) (check_number s.check (payload_bits s.parts p)))

-- the places of a frame's waveform behind the first
abbrev pub later_places : Settings → Payload → List ℕ
later_places s p = changed_at 2 true (levels_of (later_bits s p) ++ false ∷ [])

pub waveform_is : (s : Settings) (p : Payload) → waveform (frame_of s p) ≡ 1 ∷ later_places s p
waveform_is s p = front_of_waveform (later_bits s p)

-- ---- edges at such places
abbrev pub last_time : ℕ → List NumberedEdge → ℕ
last_time time [] = time
last_time time (e ∷ edges) = last_time e.edge.time edges

pub record Heard (s : Settings) (start half place : ℕ) (level : Bool) (time : ℕ) (places : List ℕ) (edges : List NumberedEdge) : Type 0 where
  pub steps : AreSteps (changes_after s.bit time edges)
  pub at : places_after place (changes_after s.bit time edges) ≡ places
  pub alternate : Alternate level (changes_after s.bit time edges)
  pub last : IsRecorded s.jitter (start + last_place place places * half) (last_time time edges)

is_step : (interval : Halves) → (interval ≡ One) ⊎ (interval ≡ Two) → IsStep interval
is_step interval (inl one) = subst (λ (h : Halves). IsStep h) (sym one) tt
is_step interval (inr two) = subst (λ (h : Halves). IsStep h) (sym two) tt

record Next (place next : ℕ) (interval : Halves) : Type 0 where
  step : IsStep interval
  at : place + half_bits interval ≡ next

next_one : (s : Settings) (start half place next time r : ℕ) → AreBounds s.bit s.jitter → IsHalf s.bit half → IsRecorded s.jitter (start + place * half) time → IsRecorded s.jitter (start + next * half) r
    → (next ≡ suc place) ⊎ (next ≡ suc (suc place)) → Next place next (halves_in (r - time) s.bit)
next_one s start half place next time r b h here there (inl one) =
    let x : start + next * half ≡ (start + place * half) + half = ap (λ n. start + n * half) one ∙ omega arith in
    let is = one_half s.bit s.jitter half (start + place * half) time r b h here (subst (λ (n : ℕ). IsRecorded s.jitter n r) x there) in
    record { step = is_step _ (inl is); at = ap (λ i. place + half_bits i) is ∙ omega (arith, one) }
next_one s start half place next time r b h here there (inr two) =
    let x : start + next * half ≡ (start + place * half) + 2 * half = ap (λ n. start + n * half) two ∙ omega arith in
    let is = two_halves s.bit s.jitter half (start + place * half) time r b h here (subst (λ (n : ℕ). IsRecorded s.jitter n r) x there) in
    record { step = is_step _ (inr is); at = ap (λ i. place + half_bits i) is ∙ omega (arith, two) }

pub heard : (s : Settings) (start half place : ℕ) (level : Bool) (time : ℕ) (places : List ℕ) (edges : List NumberedEdge) → AreBounds s.bit s.jitter → IsHalf s.bit half
    → IsRecorded s.jitter (start + place * half) time → StepPlaces place places → AreEdges s.jitter (edges_at start half (not level) places) edges
    → Heard s start half place level time places edges
unfolding edges_at changes_after places_after
heard s start half place level time [] [] b h here apart recorded = record { steps = tt; at = refl; alternate = tt; last = here }
heard s start half place level time [] (e ∷ edges) b h here apart recorded = absurd recorded
heard s start half place level time (next ∷ places) [] b h here apart recorded = absurd recorded
heard s start half place level time (next ∷ places) (e ∷ edges) b h here apart recorded =
    let there = recorded.0.at in
    let step = next_one s start half place next time e.edge.time b h here there apart.0 in
    let rest = heard s start half next (not level) e.edge.time places edges b h there apart.1 recorded.1 in
    record {
      steps = (step.step, rest.steps);
      at = ap₂ (λ p l. p ∷ l) step.at (ap (λ p. places_after p (changes_after s.bit e.edge.time edges)) step.at ∙ rest.at);
      alternate = (recorded.0.level, subst (λ (l : Bool). Alternate l (changes_after s.bit e.edge.time edges)) (sym recorded.0.level) rest.alternate);
      last = rest.last;
    }

-- steps begin no burst
loud : (interval : Halves) → IsStep interval → is_quiet interval ≡ false
loud Short is = absurd is
loud One is = refl
loud Two is = refl
loud Quiet is = absurd is

pub no_start_in : (edges : List Change) → AreSteps edges → has_start edges ≡ false
unfolding has_start
no_start_in [] steps = refl
no_start_in (edge ∷ later) steps = rw (loud edge.interval steps.0) (no_start_in later steps.1)

-- ---- one frame
-- what is heard of a frame: its first edge, a rise near its ideal time, and a burst that says the payload and ends in time
pub record FrameHeard (s : Settings) (f : FrameSent) (time : ℕ) (edges : List NumberedEdge) : Type 0 where
  pub first : NumberedEdge
  pub rest : List NumberedEdge
  pub is : edges ≡ first ∷ rest
  pub at : IsRecorded s.jitter (f.start + f.half) first.edge.time
  pub rises : first.edge.level ≡ true
  pub said : judged s (change_at s.bit time first) (changes_after s.bit first.edge.time rest) ≡ Good (last_of (change_at s.bit time first) (changes_after s.bit first.edge.time rest)).number f.payload
  pub goes_on : has_start (changes_after s.bit first.edge.time rest) ≡ false
  pub ends : 1000 * last_time time edges ≤ end_of s f + 1000 * s.jitter

by_places : (s : Settings) (sync : Option SyncWindows) (before : SentBefore) (f : FrameSent) (time : ℕ) (edges : List NumberedEdge) → AreBounds s.bit s.jitter → IsFrameSent s sync before f
    → AreEdges s.jitter (edges_at f.start f.half true (1 ∷ later_places s f.payload)) edges → FrameHeard s f time edges
unfolding edges_at
by_places s sync before f time [] b sent never = absurd never
by_places s sync before f time (e ∷ rest) b sent recorded =
    let places = are_places (later_bits s f.payload) 1 true in
    let here = recorded.0.at in
    let h = heard s f.start f.half 1 true e.edge.time (later_places s f.payload) rest b sent.half_bits here places.apart recorded.1 in
    let first = change_at s.bit time e in
    let later = changes_after s.bit e.edge.time rest in
    let frame : IsFrameBurst s first later f.payload = record {
      fits = sent.fits;
      rises = recorded.0.level;
      steps = h.steps;
      places = ap (λ l. 1 ∷ l) h.at ∙ sym (waveform_is s f.payload);
    } in
    let ends : last_place 1 (later_places s f.payload) ≤ 2 * bit_count s = omega (arith, places.ends, length-framed s f.payload) in
    record {
      first = e;
      rest = rest;
      is = refl;
      at = record { not_too_early = omega (arith, here.not_too_early); not_too_late = omega (arith, here.not_too_late) };
      rises = recorded.0.level;
      said = frame_is_good s first later f.payload (subst (λ (l : Bool). Alternate l later) (sym recorded.0.level) h.alternate) frame;
      goes_on = no_start_in later h.steps;
      ends = omega (arith, h.last.not_too_late, mul-le (last_place 1 (later_places s f.payload)) f.half (2 * bit_count s) f.half ends (omega arith));
    }

pub frame_heard : (s : Settings) (sync : Option SyncWindows) (before : SentBefore) (f : FrameSent) (time : ℕ) (edges : List NumberedEdge) → AreBounds s.bit s.jitter → IsFrameSent s sync before f
    → AreEdges s.jitter (edges_sent s (FrameAt f)) edges → FrameHeard s f time edges
frame_heard s sync before f time edges b sent recorded =
    by_places s sync before f time edges b sent (subst (λ (l : List ℕ). AreEdges s.jitter (edges_at f.start f.half true l) edges) (waveform_is s f.payload) recorded)
