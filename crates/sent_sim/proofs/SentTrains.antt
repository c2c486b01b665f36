-- One frame more of a train.
--     last_tick, train-push        a frame behind a train
--     frame-is_sent                a frame that is drawn is one as it may be sent
--     pulses-room                  its pulses are long
--     pulses-count                 as many as it has
use Rattle.std.proofs.Common.{◌≡◌, ℕ, suc, ◌+◌, ◌*◌, ◌≤◌, Bool, true, false, List, [], ◌∷◌, ◌++◌, length, drop, map, refl, ap, sym, ◌∙◌, if◌then◌else◌, arith}
use Rattle.std.specs.List.{All}
use Rattle.std.proofs.lemmas.List.{length-map}
use Rattle.std.proofs.lemmas.List.Elements.{All-append, All-cons, All-map, All-nil}
use Rattle.sent_frame.specs.declared.frame.SentFrame.{SentFrame}
use Rattle.sent_frame.specs.Setup.{Settings}
use Rattle.sent_frame.specs.Frames.{ticks_of}
use Rattle.sent_frame.specs.Reading.{crc_of}
use Rattle.link_tolerance.specs.Ticks.{FollowsTick}
use Rattle.sent_tolerance.specs.Trains.{FitsSetup, IsSent, IsTrain, Sending, pulses_sent}
use Rattle.sent_sim.specs.SentSims.{FrameWords, frame_sent, own_count}
use Rattle.sim_base.specs.DrawnTicks.{next_tick, own_tick, own_ticks, pause_ticks}
use Rattle.sent_sim.proofs.SentFrames.{as_many_own}
use Rattle.sim_base.proofs.PulseLengths.{lengths-least, owns-long}
use Rattle.sim_base.proofs.TickBounds.{all-near, pause-within, stays_tick}

-- ---- behind a train
-- the tick of the last of these frames, and this one where there is none
abbrev pub last_tick : ℕ → List Sending → ℕ
last_tick tick [] = tick
last_tick tick (f ∷ sent) = last_tick f.tick sent

pub train-push : (s : Settings) (tick : ℕ) (sent : List Sending) (f : Sending) → IsTrain s sent → IsSent s f → FollowsTick (last_tick tick sent) f.tick → IsTrain s (sent ++ f ∷ [])
train-push s tick [] f train is_sent follows = (is_sent, tt, tt)
train-push s tick (first ∷ []) f train is_sent follows = (train.0, follows, (is_sent, tt, tt))
train-push s tick (first ∷ next ∷ sent) f train is_sent follows = (train.0, train.1, train-push s first.tick (next ∷ sent) f train.2 is_sent follows)

pub last-push : (tick : ℕ) (sent : List Sending) (f : Sending) → last_tick tick (sent ++ f ∷ []) ≡ f.tick
last-push tick [] f = refl
last-push tick (first ∷ sent) f = last-push first.tick sent f

-- ---- a frame that is drawn
pub frame-is_sent : (s : Settings) (before : ℕ) (frame : SentFrame) (drawn : FrameWords) → FitsSetup s frame → length drawn.own ≡ own_count s → IsSent s (frame_sent s before frame drawn)
unfolding frame_sent
frame-is_sent s before frame drawn fits as_many =
    let tick = next_tick s.tick before drawn.tick in
    let pause = if s.pause then pause_ticks drawn.pause else 0 in
    let own : length (own_ticks tick drawn.own) ≡ length (drop 1 (ticks_of s frame pause)) = length-map drawn.own (own_tick tick) ∙ as_many ∙ sym (as_many_own s frame pause fits.as_many) in
    record {
      fits = fits;
      pause = λ has. let is : pause ≡ pause_ticks drawn.pause = ap (λ b. if b then pause_ticks drawn.pause else 0) has in
          let within = pause-within drawn.pause in
          (omega (arith, is, within.0), omega (arith, is, within.1));
      tick = stays_tick s.tick before drawn.tick;
      one_for_each = ap suc own;
      own_ticks = all-near tick drawn.own;
    }

-- ---- its pulses
pauses-long : (s : Settings) (pause : ℕ) (has : Bool) → (has ≡ true → 12 ≤ pause) → All (λ count. 12 ≤ count) (if has then pause ∷ [] else [])
pauses-long s pause true long = All-cons (λ count. 12 ≤ count) pause [] (long refl) (All-nil (λ count. 12 ≤ count))
pauses-long s pause false long = All-nil (λ count. 12 ≤ count)

-- each pulse has 12 ticks or more
counts-long : (s : Settings) (frame : SentFrame) (pause : ℕ) → (s.pause ≡ true → 12 ≤ pause) → All (λ count. 12 ≤ count) (ticks_of s frame pause)
counts-long s frame pause long =
    let P : ℕ → Type 0 = λ count. 12 ≤ count in
    let crc = 12 + crc_of s.crc frame.nibbles in
    let nibbles = map (λ nibble. 12 + nibble) frame.nibbles in
    let pauses = if s.pause then pause ∷ [] else [] in
    All-cons P 56 ((12 + frame.status) ∷ (nibbles ++ crc ∷ pauses)) (omega arith) (All-cons P (12 + frame.status) (nibbles ++ crc ∷ pauses) (omega arith)
    (All-append P nibbles (crc ∷ pauses) (All-map P (λ nibble. 12 + nibble) frame.nibbles (λ k d within. omega arith))
    (All-cons P crc pauses (omega arith) (pauses-long s pause s.pause long))))

pub pulses-long : (s : Settings) (f : Sending) → IsSent s f → All (λ pulse. 12 * (798 * s.tick) ≤ pulse) (pulses_sent s f)
pulses-long s f is_sent =
    lengths-least 12 (798 * s.tick) (ticks_of s f.frame f.pause) (f.tick ∷ f.own_ticks) (counts-long s f.frame f.pause (λ has. (is_sent.pause has).0))
    (All-cons (λ t. 798 * s.tick ≤ t) f.tick f.own_ticks (omega (arith, is_sent.tick)) (owns-long s.tick f.tick f.own_ticks is_sent.tick is_sent.own_ticks))
