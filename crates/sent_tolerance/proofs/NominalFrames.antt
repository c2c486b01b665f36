-- Frames that are sent with the nominal tick are a train, and their falls may be recorded with jitter.
--     nominal_train        they are a train
--     nominal_ideal        their ideal falls
--     are_honest           they are an honest trace wherever their falls are recorded
--     not_jittered         with no jitter at all
--     train_is_honest      any train has an honest trace
use Rattle.std.proofs.Common.{◌≡◌, ℕ, suc, ◌+◌, ◌*◌, ◌≤◌, None, true, List, [], ◌∷◌, ◌++◌, drop, take, map, flat_map, refl, ap, ap₂, sym, ◌∙◌, arith}
use Rattle.std.proofs.lemmas.List.{drop-map, length-map, map-append, take-map}
use Rattle.std.proofs.lemmas.List.Elements.{All-head, All-map, All-tail}
use Rattle.std.specs.List.{All}
use Rattle.sent_frame.specs.declared.frame.SentFrame.{SentFrame}
use Rattle.sent_frame.specs.Setup.{Settings, fault_of}
use Rattle.sent_frame.specs.Pulses.{falls_in}
use Rattle.sent_frame.specs.Frames.{ticks_of}
use Rattle.link_tolerance.specs.Recorded.{AreRecorded, OpensAfter}
use Rattle.link_tolerance.specs.Ticks.{IsOwnTick}
use Rattle.sent_tolerance.specs.Nominal.{AreJittered, edges_from, edges_of, nominal_falls, told_in_ns}
use Rattle.sent_tolerance.specs.Traces.{IsHonest}
use Rattle.sent_tolerance.specs.Trains.{DriftsTo, FitsSetup, IsSent, IsTrain, Sending, ideal_falls}
use Rattle.link_tolerance.specs.Pulses.{falls_behind, lengths_of}
use Rattle.sent_tolerance.proofs.FrameTicks.{setup_range}
use Rattle.sent_tolerance.proofs.HeardTrains.{frames_of, lengths_sent}
use Rattle.sent_tolerance.proofs.RecordedFalls.{times_of}

-- ---- what is sent
-- a frame that is sent with the nominal tick
abbrev nominal_sending : Settings → ℕ → SentFrame → Sending
nominal_sending s pause frame = record { frame = frame; pause = pause; tick = 1000 * s.tick; own_ticks = map (λ count. 1000 * s.tick) (drop 1 (ticks_of s frame pause)) }

abbrev nominal_sendings : Settings → ℕ → List SentFrame → List Sending
nominal_sendings s pause frames = map (nominal_sending s pause) frames

carries_frames : (s : Settings) (pause : ℕ) (frames : List SentFrame) → frames_of (nominal_sendings s pause frames) ≡ frames
carries_frames s pause [] = refl
carries_frames s pause (frame ∷ frames) = ap (λ rest. frame ∷ rest) (carries_frames s pause frames)

all_same : (tick : ℕ) (counts : List ℕ) → All (IsOwnTick tick) (map (λ count. tick) counts)
all_same tick counts = All-map (IsOwnTick tick) (λ count. tick) counts (λ k d within. record { not_below = omega arith; not_above = omega arith })

sending_is_sent : (s : Settings) (pause : ℕ) (frame : SentFrame) → FitsSetup s frame → (s.pause ≡ true → (12 ≤ pause) × (pause ≤ 768)) → IsSent s (nominal_sending s pause frame)
sending_is_sent s pause frame fits pauses = record {
  fits = fits;
  pause = pauses;
  tick = record { not_below = omega arith; not_above = omega arith };
  one_for_each = ap suc (length-map (drop 1 (ticks_of s frame pause)) (λ count. 1000 * s.tick));
  own_ticks = all_same (1000 * s.tick) (drop 1 (ticks_of s frame pause));
}

drifts_nowhere : (s : Settings) (pause : ℕ) (frames : List SentFrame) → DriftsTo (1000 * s.tick) (nominal_sendings s pause frames)
drifts_nowhere s pause [] = tt
drifts_nowhere s pause (frame ∷ frames) = record { not_below = omega arith; not_above = omega arith }

pub nominal_train : (s : Settings) (pause : ℕ) (frames : List SentFrame) → All (FitsSetup s) frames → (s.pause ≡ true → (12 ≤ pause) × (pause ≤ 768)) → IsTrain s (nominal_sendings s pause frames)
nominal_train s pause [] fit pauses = tt
nominal_train s pause (frame ∷ frames) fit pauses =
    (sending_is_sent s pause frame (All-head (FitsSetup s) frame frames fit) pauses, drifts_nowhere s pause frames, nominal_train s pause frames (All-tail (FitsSetup s) frame frames fit) pauses)

-- ---- when
-- the same times in ps
abbrev in_ps : List ℕ → List ℕ
in_ps times = map (λ time. 1000 * time) times

abbrev counts_of : Settings → ℕ → List SentFrame → List ℕ
counts_of s pause frames = flat_map (λ frame. ticks_of s frame pause) frames

lengths_nominal : (tick : ℕ) (counts : List ℕ) → lengths_of counts (map (λ count. 1000 * tick) counts) ≡ in_ps (map (λ count. count * tick) counts)
lengths_nominal tick [] = refl
lengths_nominal tick (count ∷ counts) =
    let same : count * (1000 * tick) ≡ 1000 * (count * tick) = omega arith in
    ap₂ (λ first rest. first ∷ rest) same (lengths_nominal tick counts)

all_lengths : (s : Settings) (pause : ℕ) (frames : List SentFrame) → lengths_sent s (nominal_sendings s pause frames) ≡ in_ps (map (λ count. count * s.tick) (counts_of s pause frames))
all_lengths s pause [] = refl
all_lengths s pause (frame ∷ frames) =
    let counts = ticks_of s frame pause in
    let more = counts_of s pause frames in
    ap₂ (λ front rest. front ++ rest) (lengths_nominal s.tick counts) (all_lengths s pause frames)
    ∙ sym (map-append (λ time. 1000 * time) (map (λ count. count * s.tick) counts) (map (λ count. count * s.tick) more))
    ∙ ap in_ps (sym (map-append (λ count. count * s.tick) counts more))

falls_scaled : (time : ℕ) (lengths : List ℕ) → falls_behind (1000 * time) (in_ps lengths) ≡ in_ps (falls_behind time lengths)
unfolding falls_behind
falls_scaled time [] = refl
falls_scaled time (sent ∷ lengths) =
    let next : 1000 * time + 1000 * sent ≡ 1000 * (time + sent) = omega arith in
    ap (λ t. t ∷ falls_behind t (in_ps lengths)) next ∙ ap (λ rest. 1000 * (time + sent) ∷ rest) (falls_scaled (time + sent) lengths)

pub nominal_ideal : (s : Settings) (start pause : ℕ) (frames : List SentFrame) → ideal_falls s (1000 * start) (nominal_sendings s pause frames) ≡ in_ps (nominal_falls s start pause frames)
unfolding ideal_falls nominal_falls
nominal_ideal s start pause [] = refl
nominal_ideal s start pause (frame ∷ frames) =
    let lengths = map (λ count. count * s.tick) (counts_of s pause (frame ∷ frames)) in
    ap (λ rest. 1000 * start ∷ falls_behind (1000 * start) rest) (all_lengths s pause (frame ∷ frames))
    ∙ ap (λ rest. 1000 * start ∷ rest) (falls_scaled start lengths)

-- ---- what is recorded
times_are : (tick number : ℕ) (times : List ℕ) → times_of (falls_in (edges_from tick number times)) ≡ times
unfolding edges_from
times_are tick number [] = refl
times_are tick number (time ∷ times) = ap (λ rest. time ∷ rest) (times_are tick (suc (suc number)) times)

are_recorded : (jitter : ℕ) (nominals times : List ℕ) → AreJittered jitter nominals times → AreRecorded jitter (in_ps nominals) times
are_recorded jitter [] [] near = tt
are_recorded jitter [] (time ∷ times) near = absurd near
are_recorded jitter (nominal ∷ nominals) [] near = absurd near
are_recorded jitter (nominal ∷ nominals) (time ∷ times) near =
    (record { not_too_early = omega (arith, near.0); not_too_late = omega (arith, near.1) }, are_recorded jitter nominals times near.2)

opens_after : (jitter opening : ℕ) (falls : List ℕ) → All (λ fall. fall ≤ opening + jitter) falls → OpensAfter jitter opening (in_ps falls)
opens_after jitter opening [] before = tt
opens_after jitter opening (fall ∷ []) before = omega (arith, All-head (λ f. f ≤ opening + jitter) fall [] before)
opens_after jitter opening (fall ∷ next ∷ falls) before = opens_after jitter opening (next ∷ falls) (All-tail (λ f. f ≤ opening + jitter) fall (next ∷ falls) before)

pub are_honest : (s : Settings) (start pause left_out opening : ℕ) (frames : List SentFrame) (times : List ℕ) → fault_of s.tick s.jitter s.nibbles ≡ None → All (FitsSetup s) frames → (s.pause ≡ true → (12 ≤ pause) × (pause ≤ 768))
    → All (λ fall. fall ≤ opening + s.jitter) (take left_out (nominal_falls s start pause frames)) → AreJittered s.jitter (drop left_out (nominal_falls s start pause frames)) times → IsHonest s frames (edges_of s opening times)
are_honest s start pause left_out opening frames times accepted fit pauses before near =
    let falls = nominal_falls s start pause frames in
    record {
      accepted = accepted;
      sent = nominal_sendings s pause frames;
      carries = carries_frames s pause frames;
      train = nominal_train s pause frames fit pauses;
      start = 1000 * start;
      left_out = left_out;
      recorded = rw (nominal_ideal s start pause frames, drop-map (λ time. 1000 * time) left_out falls, times_are s.tick 1 times) (are_recorded s.jitter (drop left_out falls) times near);
      opens = rw (nominal_ideal s start pause frames, take-map (λ time. 1000 * time) left_out falls) (opens_after s.jitter opening (take left_out falls) before);
    }

pub not_jittered : (jitter : ℕ) (times : List ℕ) → AreJittered jitter times times
not_jittered jitter [] = tt
not_jittered jitter (time ∷ times) = (omega arith, omega arith, not_jittered jitter times)

-- ---- an exact clock
exact_clock : (jitter : ℕ) (ideals : List ℕ) → 1 ≤ jitter → AreRecorded jitter ideals (told_in_ns ideals)
exact_clock jitter [] some = tt
exact_clock jitter (ideal ∷ ideals) some = (record { not_too_early = omega arith; not_too_late = omega arith }, exact_clock jitter ideals some)

pub train_is_honest : (s : Settings) (start : ℕ) (sent : List Sending) → fault_of s.tick s.jitter s.nibbles ≡ None → IsTrain s sent → IsHonest s (frames_of sent) (edges_of s 0 (told_in_ns (ideal_falls s start sent)))
train_is_honest s start sent accepted train =
    let range = setup_range s.tick s.jitter s.nibbles accepted in
    record {
      accepted = accepted;
      sent = sent;
      carries = refl;
      train = train;
      start = start;
      left_out = 0;
      recorded = rw (times_are s.tick 1 (told_in_ns (ideal_falls s start sent))) (exact_clock s.jitter (ideal_falls s start sent) range.jitter_low);
      opens = tt;
    }
