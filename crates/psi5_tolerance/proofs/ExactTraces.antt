-- The edges of a train, recorded without jitter, are an honest trace.
--     trains-honest      of each train that may be sent
--     nominal-honest      of frames whose half-bits are half of the nominal bit time
use Rattle.std.proofs.Common.{◌≡◌, ◌≢◌, ℕ, suc, ◌+◌, ◌*◌, ◌≤◌, ◌<◌, ◌⊎◌, Bool, true, false, not, nat_eq, cond, if◌then◌else◌, Option, None, Some, List, [], ◌∷◌, ◌++◌, map, refl, sym, ◌∙◌, ap, subst, inl, inr, arith}
use Rattle.std.specs.List.{filter}
use Rattle.std.specs.Option.{IfSome}
use Rattle.std.proofs.lemmas.Bool.{eq-eqb, ne_eqb}
use Rattle.std.proofs.lemmas.Nat.{mul-le}
use Rattle.line_base.specs.Edges.{NumberedEdge}
use Rattle.psi5_frame.specs.Setup.{Settings, fault_of, bit_count}
use Rattle.psi5_frame.specs.Frames.{frame_of, waveform}
use Rattle.psi5_frame.proofs.FrameLaws.{length-framed}
use Rattle.link_tolerance.specs.Recorded.{IsRecorded, AreRecorded}
use Rattle.psi5_tolerance.specs.Lines.{SyncWindows, is_on_sync, data_edges, sync_edges, behind_opening, rises_of, times_of, IsNotBefore, AreInOrder}
use Rattle.psi5_tolerance.specs.Trains.{Psi5Message, FrameSent, Sending, SyncAt, FrameAt, message_of, IdealEdge, edges_at, edges_sent, ideal_edges, SentBefore, nothing_sent, end_of, sent_with, IsFrameSent, IsTrainBehind, IsTrain}
use Rattle.psi5_tolerance.specs.Traces.{on_data, on_sync, ideal_times, AreSlots, OpensBehind, IsHonest}
use Rattle.psi5_tolerance.specs.Exact.{nearest, AreTwoLines, exact_edge, exact_from, opening_of, exact_trace, NominalBurst, nominal_frame, nominal_train, nominal_messages, AreNominal}
use Rattle.psi5_tolerance.proofs.Intervals.{bounds-accepted}
use Rattle.psi5_tolerance.proofs.RecordedFrames.{StepPlaces, last_place, are_places, later_bits, later_places, waveform_is}
use Rattle.psi5_tolerance.proofs.HeardFrames.{data-train}

first_at : (start half : ℕ) (places : List ℕ) → edges_at start half true (1 ∷ places) ≡ record { on_sync = false; time = start + 1 * half; level = true } ∷ edges_at start half false places
unfolding edges_at
first_at start half places = refl

-- ---- times
nearest-recorded : (jitter ideal : ℕ) → 1 ≤ jitter → IsRecorded jitter ideal (nearest ideal)
nearest-recorded jitter ideal some = record { not_too_early = omega arith; not_too_late = omega arith }

pub all-recorded : (jitter : ℕ) (ideals : List ℕ) → 1 ≤ jitter → AreRecorded jitter ideals (map nearest ideals)
all-recorded jitter [] some = tt
all-recorded jitter (ideal ∷ ideals) some = (nearest-recorded jitter ideal some, all-recorded jitter ideals some)

nearest-later : (a b : ℕ) → a ≤ b → nearest a ≤ nearest b
nearest-later a b le = omega arith

-- ---- one line
pub record OneLine (line number : ℕ) (ideals : List IdealEdge) : Type 0 where
  pub times : times_of (data_edges None (exact_from line None number ideals)) ≡ map nearest (ideal_times ideals)
  pub levels : map (λ (e : NumberedEdge). e.edge.level) (data_edges None (exact_from line None number ideals)) ≡ map (λ (ideal : IdealEdge). ideal.level) ideals
  pub syncs : sync_edges None (exact_from line None number ideals) ≡ []

pub one_line : (line number : ℕ) (ideals : List IdealEdge) → OneLine line number ideals
unfolding exact_from
one_line line number [] = record { times = refl; levels = refl; syncs = refl }
one_line line number (ideal ∷ ideals) =
    let rest = one_line line (suc number) ideals in
    record { times = ap (λ l. nearest ideal.time ∷ l) rest.times; levels = ap (λ l. ideal.level ∷ l) rest.levels; syncs = rest.syncs }

-- without slots all edges of a train are on the data line
pub record AllData (s : Settings) (sent : List Sending) : Type 0 where
  pub all : on_data (ideal_edges s sent) ≡ ideal_edges s sent
  pub none : on_sync (ideal_edges s sent) ≡ []

pub none_at : (start half : ℕ) (level : Bool) (places : List ℕ) (rest : List IdealEdge) → on_sync (edges_at start half level places ++ rest) ≡ on_sync rest
unfolding edges_at
none_at start half level [] rest = refl
none_at start half level (place ∷ places) rest = none_at start half (not level) places rest

pub all_data : (s : Settings) (before : SentBefore) (sent : List Sending) → IsTrainBehind s None before sent → AllData s sent
all_data s before [] train = record { all = refl; none = refl }
all_data s before (SyncAt pulse ∷ sent) train = absurd train.0
all_data s before (FrameAt f ∷ sent) train =
    let rest = all_data s (sent_with s before (FrameAt f)) sent train.1 in
    record {
      all = data-train s f sent ∙ ap (λ l. edges_sent s (FrameAt f) ++ l) rest.all;
      none = none_at f.start f.half true (waveform (frame_of s f.payload)) (ideal_edges s sent) ∙ rest.none;
    }

-- ---- two lines
on_exact : (line number : ℕ) (sync : SyncWindows) (ideal : IdealEdge) → line ≢ sync.line → is_on_sync (Some sync) (exact_edge line (Some sync) number ideal) ≡ ideal.on_sync
on_exact line number sync ideal differ = by_line ideal.on_sync
  where
    by_line : (b : Bool) → nat_eq (if b then sync.line else line) sync.line ≡ b
    by_line true = eq-eqb sync.line sync.line refl
    by_line false = ne_eqb line sync.line differ

record TwoLines (line number : ℕ) (sync : SyncWindows) (ideals : List IdealEdge) : Type 0 where
  times : times_of (data_edges (Some sync) (exact_from line (Some sync) number ideals)) ≡ map nearest (ideal_times (on_data ideals))
  levels : map (λ (e : NumberedEdge). e.edge.level) (data_edges (Some sync) (exact_from line (Some sync) number ideals)) ≡ map (λ (ideal : IdealEdge). ideal.level) (on_data ideals)
  syncs : times_of (filter (λ (e : NumberedEdge). e.edge.level) (sync_edges (Some sync) (exact_from line (Some sync) number ideals))) ≡ map nearest (ideal_times (filter (λ (ideal : IdealEdge). ideal.level) (on_sync ideals)))

one_more : (line number : ℕ) (sync : SyncWindows) (ideal : IdealEdge) (ideals : List IdealEdge) → line ≢ sync.line → TwoLines line (suc number) sync ideals → TwoLines line number sync (ideal ∷ ideals)
unfolding exact_from
one_more line number sync ideal ideals differ rest = record { times = rw is (data_times ideal.on_sync); levels = rw is (data_levels ideal.on_sync); syncs = rw is (sync_times ideal.on_sync) }
  where
    e : NumberedEdge
    e = exact_edge line (Some sync) number ideal

    later : List NumberedEdge
    later = exact_from line (Some sync) (suc number) ideals

    is : is_on_sync (Some sync) e ≡ ideal.on_sync
    is = on_exact line number sync ideal differ

    data_times : (b : Bool) → times_of (cond (not b) (e ∷ data_edges (Some sync) later) (data_edges (Some sync) later)) ≡ map nearest (ideal_times (cond (not b) (ideal ∷ on_data ideals) (on_data ideals)))
    data_times true = rest.times
    data_times false = ap (λ l. nearest ideal.time ∷ l) rest.times

    data_levels : (b : Bool) → map (λ (x : NumberedEdge). x.edge.level) (cond (not b) (e ∷ data_edges (Some sync) later) (data_edges (Some sync) later)) ≡ map (λ (i : IdealEdge). i.level) (cond (not b) (ideal ∷ on_data ideals) (on_data ideals))
    data_levels true = rest.levels
    data_levels false = ap (λ l. ideal.level ∷ l) rest.levels

    by_level : (level : Bool) → times_of (cond level (e ∷ filter (λ (x : NumberedEdge). x.edge.level) (sync_edges (Some sync) later)) (filter (λ (x : NumberedEdge). x.edge.level) (sync_edges (Some sync) later)))
        ≡ map nearest (ideal_times (cond level (ideal ∷ filter (λ (i : IdealEdge). i.level) (on_sync ideals)) (filter (λ (i : IdealEdge). i.level) (on_sync ideals))))
    by_level true = ap (λ l. nearest ideal.time ∷ l) rest.syncs
    by_level false = rest.syncs

    sync_times : (b : Bool) → times_of (filter (λ (x : NumberedEdge). x.edge.level) (cond b (e ∷ sync_edges (Some sync) later) (sync_edges (Some sync) later)))
        ≡ map nearest (ideal_times (filter (λ (i : IdealEdge). i.level) (cond b (ideal ∷ on_sync ideals) (on_sync ideals))))
    sync_times true = by_level ideal.level
    sync_times false = rest.syncs

two_lines : (line number : ℕ) (sync : SyncWindows) (ideals : List IdealEdge) → line ≢ sync.line → TwoLines line number sync ideals
unfolding exact_from
two_lines line number sync [] differ = record { times = refl; levels = refl; syncs = refl }
two_lines line number sync (ideal ∷ ideals) differ = one_more line number sync ideal ideals differ (two_lines line (suc number) sync ideals differ)

-- sync pulses are rises
pulses_rise : (s : Settings) (sent : List Sending) → filter (λ (ideal : IdealEdge). ideal.level) (on_sync (ideal_edges s sent)) ≡ on_sync (ideal_edges s sent)
pulses_rise s [] = refl
pulses_rise s (SyncAt pulse ∷ sent) = ap (λ l. record { on_sync = true; time = pulse; level = true } ∷ l) (pulses_rise s sent)
pulses_rise s (FrameAt f ∷ sent) =
    let is = none_at f.start f.half true (waveform (frame_of s f.payload)) (ideal_edges s sent) in
    ap (filter (λ (ideal : IdealEdge). ideal.level)) is ∙ pulses_rise s sent ∙ sym is

-- ---- the order of times
-- these ideal edges are in order of time, the first no earlier than this
abbrev Rise : ℕ → List IdealEdge → Type 0
Rise time [] = Unit {0}
Rise time (ideal ∷ ideals) = (time ≤ ideal.time) × Rise ideal.time ideals

rise-from : (time later : ℕ) (ideals : List IdealEdge) → time ≤ later → Rise later ideals → Rise time ideals
rise-from time later [] le rise = tt
rise-from time later (ideal ∷ ideals) le rise = (omega (arith, rise.0, le), rise.1)

step-later : (place next half : ℕ) → (next ≡ suc place) ⊎ (next ≡ suc (suc place)) → place * half ≤ next * half
step-later place next half (inl one) = mul-le place half next half (omega (arith, one)) (omega arith)
step-later place next half (inr two) = mul-le place half next half (omega (arith, two)) (omega arith)

places-rise : (start half place : ℕ) (level : Bool) (places : List ℕ) (rest : List IdealEdge) → StepPlaces place places → Rise (start + last_place place places * half) rest
    → Rise (start + place * half) (edges_at start half level places ++ rest)
unfolding edges_at
places-rise start half place level [] rest apart rise = rise
places-rise start half place level (next ∷ places) rest apart rise =
    (omega (arith, step-later place next half apart.0), places-rise start half next (not level) places rest apart.1 rise)

-- what was sent before ended no earlier than this
data IsPast (before : SentBefore) (time : ℕ) : Type 0 where
  AtStart : time ≡ 0 → IsPast before time
  AtFrame : (end : ℕ) → before.frame_end ≡ Some end → time ≤ end → IsPast before time
  AtPulse : before.sync ≡ Some time → IsPast before time

pulse-later : (before : SentBefore) (time pulse : ℕ) → IsPast before time → IfSome before.frame_end (λ end. end ≤ pulse) → IfSome before.sync (λ sync. sync < pulse) → time ≤ pulse
pulse-later before time pulse (AtStart zero_is) after_frame after_sync = omega (arith, zero_is)
pulse-later before time pulse (AtFrame end is le) after_frame after_sync = let h = subst (λ (o : Option ℕ). IfSome o (λ n. n ≤ pulse)) is after_frame in omega (arith, h, le)
pulse-later before time pulse (AtPulse is) after_frame after_sync = let h = subst (λ (o : Option ℕ). IfSome o (λ n. n < pulse)) is after_sync in omega (arith, h)

rise-later : (s : Settings) (sync : SyncWindows) (before : SentBefore) (f : FrameSent) (time : ℕ) → IsPast before time → IsFrameSent s (Some sync) before f → time ≤ f.start + 1 * f.half
rise-later s sync before f time (AtStart zero_is) may = omega (arith, zero_is)
rise-later s sync before f time (AtFrame end is le) may = let h = subst (λ (o : Option ℕ). IfSome o (λ n. n + 1050 * s.bit ≤ f.start)) is may.apart in omega (arith, h, le)
rise-later s sync before f time (AtPulse is) may =
    let same : Some time ≡ Some may.in_slot.sync = sym is ∙ may.in_slot.is_after in
    let e : time ≡ may.in_slot.sync = cc in
    omega (arith, e, may.in_slot.not_early)

train-rises : (s : Settings) (sync : SyncWindows) (before : SentBefore) (sent : List Sending) (time : ℕ) → IsPast before time → IsTrainBehind s (Some sync) before sent → Rise time (ideal_edges s sent)
train-rises s sync before [] time past train = tt
train-rises s sync before (SyncAt pulse ∷ sent) time past train =
    (pulse-later before time pulse past train.0.after_frame train.0.after_sync, train-rises s sync (sent_with s before (SyncAt pulse)) sent pulse (AtPulse refl) train.1)
train-rises s sync before (FrameAt f ∷ sent) time past train =
    let behind = sent_with s before (FrameAt f) in
    let rest = ideal_edges s sent in
    let places = are_places (later_bits s f.payload) 1 true in
    let few : last_place 1 (later_places s f.payload) ≤ 2 * bit_count s = omega (arith, places.ends, length-framed s f.payload) in
    let end : f.start + last_place 1 (later_places s f.payload) * f.half ≤ end_of s f = omega (arith, mul-le (last_place 1 (later_places s f.payload)) f.half (2 * bit_count s) f.half few (omega arith)) in
    let later = train-rises s sync behind sent (end_of s f) (AtFrame (end_of s f) refl (omega arith)) train.1 in
    let whole : Rise time (edges_at f.start f.half true (1 ∷ later_places s f.payload) ++ rest) =
    first_rises f.start f.half time (later_places s f.payload) rest (rise-later s sync before f time past train.0)
    (places-rise f.start f.half 1 false (later_places s f.payload) rest places.apart (rise-from (f.start + last_place 1 (later_places s f.payload) * f.half) (end_of s f) rest end later)) in
    subst (λ (l : List ℕ). Rise time (edges_at f.start f.half true l ++ rest)) (sym (waveform_is s f.payload)) whole
  where
    first_rises : (start half time : ℕ) (places : List ℕ) (rest : List IdealEdge) → time ≤ start + 1 * half → Rise (start + 1 * half) (edges_at start half false places ++ rest)
        → Rise time (edges_at start half true (1 ∷ places) ++ rest)
    first_rises start half time places rest le rise = subst (λ (l : List IdealEdge). Rise time (l ++ rest)) (sym (first_at start half places)) (le, rise)

in-order : (line number time : ℕ) (sync : Option SyncWindows) (ideals : List IdealEdge) → Rise time ideals → IsNotBefore (nearest time) (exact_from line sync number ideals) × AreInOrder (exact_from line sync number ideals)
unfolding exact_from
in-order line number time sync [] rise = (tt, tt)
in-order line number time sync (ideal ∷ ideals) rise =
    let rest = in-order line (suc number) ideal.time sync ideals rise.1 in
    (nearest-later time ideal.time rise.0, (rest.0, rest.1))

-- ---- honest traces
opens_none : (jitter : ℕ) (edges : List NumberedEdge) → OpensBehind jitter edges []
opens_none jitter [] = tt
opens_none jitter (opening ∷ edges) = tt

free-honest : (line : ℕ) (s : Settings) (sent : List Sending) → fault_of s.bit s.parts s.jitter ≡ None → IsTrain s None sent → IsHonest s None (map message_of sent) (exact_trace line s None sent)
free-honest line s sent accepted train =
    let ideals = ideal_edges s sent in
    let one = one_line line 1 ideals in
    let all = all_data s nothing_sent sent train in
    record {
      accepted = accepted;
      slots = tt;
      sent = sent;
      carries = refl;
      train = train;
      left_out = 0;
      data_line = record {
        times = subst (λ (l : List IdealEdge). AreRecorded s.jitter (ideal_times l) (times_of (data_edges None (exact_from line None 1 ideals)))) (sym all.all)
            (subst (λ (l : List ℕ). AreRecorded s.jitter (ideal_times ideals) l) (sym one.times) (all-recorded s.jitter (ideal_times ideals) (bounds-accepted s accepted).least));
        levels = one.levels ∙ ap (map (λ (ideal : IdealEdge). ideal.level)) (sym all.all);
        opens = opens_none s.jitter (data_edges None (exact_trace line s None sent));
      };
      sync_line = record {
        times = subst (λ (l : List IdealEdge). AreRecorded s.jitter (ideal_times l) (times_of (rises_of (sync_edges None (exact_trace line s None sent))))) (sym all.none)
            (subst (λ (l : List NumberedEdge). AreRecorded s.jitter [] (times_of (rises_of l))) (sym one.syncs) tt);
        opens = opens_none s.jitter (sync_edges None (exact_trace line s None sent));
      };
      together = tt;
    }

slots-honest : (line : ℕ) (s : Settings) (sync : SyncWindows) (sent : List Sending) → fault_of s.bit s.parts s.jitter ≡ None → AreSlots s (Some sync) → line ≢ sync.line → IsTrain s (Some sync) sent
    → IsHonest s (Some sync) (map message_of sent) (exact_trace line s (Some sync) sent)
slots-honest line s sync sent accepted slots differ train =
    let ideals = ideal_edges s sent in
    let edges = exact_from line (Some sync) 2 ideals in
    let two = two_lines line 2 sync ideals differ in
    let some = (bounds-accepted s accepted).least in
    let off : nat_eq line sync.line ≡ false = ne_eqb line sync.line differ in
    let on : nat_eq sync.line sync.line ≡ true = eq-eqb sync.line sync.line refl in
    let on_line : data_edges (Some sync) (exact_trace line s (Some sync) sent) ≡ opening_of 0 line ∷ data_edges (Some sync) edges = rw (off, on) refl in
    let on_other : sync_edges (Some sync) (exact_trace line s (Some sync) sent) ≡ opening_of 1 sync.line ∷ sync_edges (Some sync) edges = rw (off, on) refl in
    let order = in-order line 2 0 (Some sync) ideals (train-rises s sync nothing_sent sent 0 (AtStart refl) train) in
    record {
      accepted = accepted;
      slots = slots;
      sent = sent;
      carries = refl;
      train = train;
      left_out = 0;
      data_line = record {
        times = subst (λ (l : List NumberedEdge). AreRecorded s.jitter (ideal_times (on_data ideals)) (times_of (behind_opening l))) (sym on_line)
            (subst (λ (l : List ℕ). AreRecorded s.jitter (ideal_times (on_data ideals)) l) (sym two.times) (all-recorded s.jitter (ideal_times (on_data ideals)) some));
        levels = ap (λ l. map (λ (e : NumberedEdge). e.edge.level) (behind_opening l)) on_line ∙ two.levels;
        opens = opens_none s.jitter (data_edges (Some sync) (exact_trace line s (Some sync) sent));
      };
      sync_line = record {
        times = subst (λ (l : List NumberedEdge). AreRecorded s.jitter (ideal_times (on_sync ideals)) (times_of (rises_of l))) (sym on_other)
            (subst (λ (l : List ℕ). AreRecorded s.jitter (ideal_times (on_sync ideals)) l) (sym (two.syncs ∙ ap (λ l. map nearest (ideal_times l)) (pulses_rise s sent)))
            (all-recorded s.jitter (ideal_times (on_sync ideals)) some));
        opens = opens_none s.jitter (sync_edges (Some sync) (exact_trace line s (Some sync) sent));
      };
      together = (omega arith, (order.0, order.1));
    }

pub trains-honest : (line : ℕ) (s : Settings) (sync : Option SyncWindows) (sent : List Sending) → fault_of s.bit s.parts s.jitter ≡ None → AreSlots s sync → AreTwoLines line sync → IsTrain s sync sent
    → IsHonest s sync (map message_of sent) (exact_trace line s sync sent)
trains-honest line s None sent accepted slots differ train = free-honest line s sent accepted train
trains-honest line s (Some sync) sent accepted slots differ train = slots-honest line s sync sent accepted slots differ train

-- ---- nominal half-bits
pub nominal_behind : (s : Settings) (before : SentBefore) (burst : NominalBurst) (bursts : List NominalBurst) → IfSome before.frame_end (λ end. end + 1050 * s.bit ≤ burst.start) → AreNominal s (burst ∷ bursts)
    → IsTrainBehind s None before (nominal_train s (burst ∷ bursts))
nominal_behind s before burst [] apart nominal =
    (record { fits = nominal.0; half_bits = record { not_below = omega arith; not_above = omega arith }; apart = apart; in_slot = refl }, tt)
nominal_behind s before burst (next ∷ bursts) apart nominal = (
  record { fits = nominal.0; half_bits = record { not_below = omega arith; not_above = omega arith }; apart = apart; in_slot = refl },
  nominal_behind s (sent_with s before (FrameAt (nominal_frame s burst))) next bursts nominal.1 nominal.2,
)

pub nominal-train : (s : Settings) (bursts : List NominalBurst) → AreNominal s bursts → IsTrain s None (nominal_train s bursts)
nominal-train s [] nominal = tt
nominal-train s (burst ∷ bursts) nominal = nominal_behind s nothing_sent burst bursts tt nominal

pub nominal-says : (s : Settings) (bursts : List NominalBurst) → map message_of (nominal_train s bursts) ≡ nominal_messages bursts
nominal-says s [] = refl
nominal-says s (burst ∷ bursts) = ap (λ l. message_of (FrameAt (nominal_frame s burst)) ∷ l) (nominal-says s bursts)

pub nominal-honest : (line : ℕ) (s : Settings) (bursts : List NominalBurst) → fault_of s.bit s.parts s.jitter ≡ None → AreNominal s bursts
    → IsHonest s None (nominal_messages bursts) (exact_trace line s None (nominal_train s bursts))
nominal-honest line s bursts accepted nominal =
    subst (λ (l : List Psi5Message). IsHonest s None l (exact_trace line s None (nominal_train s bursts))) (nominal-says s bursts)
    (free-honest line s (nominal_train s bursts) accepted (nominal-train s bursts nominal))
