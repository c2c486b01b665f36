-- What is drawn of a frame.
--     drawn-falls, drawn-last, drawn-next      its falls, the last of them, and the generator behind them
--     drawn-late, drawn-in_time                they come after the first of all and up to the last
use Rattle.std.proofs.Common.{◌≡◌, ℕ, suc, ◌+◌, ◌*◌, ◌≤◌, Option, None, Some, true, false, List, [], ◌∷◌, ◌++◌, length, drop, map, sum, refl, ap, ap₂, sym, ◌∙◌, append_assoc, add_assoc, if◌then◌else◌, arith}
use Rattle.std.specs.List.{All}
use Rattle.std.proofs.lemmas.List.{length-append, length-map}
use Rattle.std.proofs.lemmas.List.Elements.{All-append, All-cons, All-nil}
use Rattle.std.proofs.lemmas.List.Sums.{sum_by-cons}
use Rattle.rand_pcg.specs.Lcg.{Lcg}
use Rattle.sent_frame.specs.declared.frame.SentFrame.{SentFrame}
use Rattle.sent_frame.specs.Setup.{Settings}
use Rattle.sent_frame.specs.Frames.{ticks_of}
use Rattle.sent_frame.specs.Reading.{crc_of}
use Rattle.link_tolerance.specs.Pulses.{falls_behind, lengths_of}
use Rattle.sent_tolerance.specs.Trains.{Sending, pulses_sent}
use Rattle.sim_base.specs.DrawnTicks.{own_ticks}
use Rattle.sent_sim.specs.SentSims.{begins_at, ends_at, first_falls, frame_sent, frame_words, ideal_of, own_count, past_frame, pause_count}
use Rattle.sent_sim.specs.SentStates.{IsInTime}
use Rattle.sim_base.specs.Wobbles.{behind_word, past, words}
use Rattle.sim_base.proofs.PulseLengths.{within}

-- the ticks of the pulses behind the calibration pulse
abbrev others_of : Settings → SentFrame → ℕ → List ℕ
others_of s frame pause = drop 1 (ticks_of s frame pause)

-- as many pulses have a tick of their own
pub as_many_own : (s : Settings) (frame : SentFrame) (pause : ℕ) → length frame.nibbles ≡ s.nibbles → length (others_of s frame pause) ≡ own_count s
as_many_own s frame pause fits =
    let pauses : length (if s.pause then pause ∷ [] else []) ≡ pause_count s = elim s.pause as (λ b. length (if b then pause ∷ [] else []) ≡ (if b then 1 else 0)) [ true ↦ refl | false ↦ refl ] in
    let crc = (12 + crc_of s.crc frame.nibbles) in
    let more = if s.pause then pause ∷ [] else [] in
    let whole : length (map (λ nibble. 12 + nibble) frame.nibbles ++ crc ∷ more) ≡ length (map (λ nibble. 12 + nibble) frame.nibbles) + suc (length more) = length-append (map (λ nibble. 12 + nibble) frame.nibbles) (crc ∷ more) in
    omega (arith, whole, length-map frame.nibbles (λ nibble. 12 + nibble), pauses)

module _ (s : Settings) (last : Option ℕ) (before : ℕ) (frame : SentFrame) (g : Lcg) (fits : length frame.nibbles ≡ s.nibbles) where
  -- the frame as it is sent
  abbrev f : Sending
  f = frame_sent s before frame (frame_words s g)

  abbrev others : List ℕ
  others = others_of s frame f.pause

  -- the own ticks by the generator behind the words of the tick and the pause
  own-are : f.own_ticks ≡ own_ticks f.tick (words (length others) (past (pause_count s) (behind_word g)))
  unfolding frame_sent frame_words
  own-are = ap (λ n. own_ticks f.tick (words n (past (pause_count s) (behind_word g)))) (sym (as_many_own s frame f.pause fits))

  -- the lengths of the pulses behind the calibration pulse
  abbrev lengths : List ℕ
  lengths = lengths_of others (own_ticks f.tick (words (length others) (past (pause_count s) (behind_word g))))

  pulses-are : pulses_sent s f ≡ 56 * f.tick ∷ lengths
  unfolding frame_sent
  pulses-are = ap (λ own. 56 * f.tick ∷ lengths_of others own) own-are

  -- where the calibration pulse ends
  abbrev calibrated : ℕ
  calibrated = begins_at s last + 56 * f.tick

  falls-are : ideal_of s last f ≡ (first_falls s last ++ calibrated ∷ []) ++ falls_behind calibrated lengths
  unfolding ideal_of falls_behind
  falls-are = ap (λ l. first_falls s last ++ falls_behind (begins_at s last) l) pulses-are ∙ sym (append_assoc (first_falls s last) (calibrated ∷ []) (falls_behind calibrated lengths))

  last-is : ends_at s last f ≡ calibrated + sum lengths
  unfolding ends_at
  last-is = ap (λ l. begins_at s last + sum l) pulses-are ∙ ap (λ n. begins_at s last + n) (sum_by-cons (λ n. n) (56 * f.tick) lengths) ∙ sym (add_assoc (begins_at s last) (56 * f.tick) (sum lengths))

  next-is : past_frame s g ≡ past (length others) (past (pause_count s) (behind_word g))
  unfolding past_frame
  next-is = ap (λ n. past n (past (pause_count s) (behind_word g))) (sym (as_many_own s frame f.pause fits))

-- what the code has: the same by its own values
pub record IsDrawn (s : Settings) (last : Option ℕ) (before : ℕ) (frame : SentFrame) (g : Lcg) (falls : List ℕ) (start tick : ℕ) (counts : List ℕ) (behind : Lcg) : Type 0 where
  pub fits : length frame.nibbles ≡ s.nibbles
  pub tick_is : tick ≡ (frame_sent s before frame (frame_words s g)).tick
  pub counts_are : counts ≡ drop 1 (ticks_of s frame (frame_sent s before frame (frame_words s g)).pause)
  pub behind_is : behind ≡ past (pause_count s) (behind_word g)
  pub start_is : start ≡ begins_at s last + 56 * tick
  pub falls_are : falls ≡ first_falls s last ++ start ∷ []

module _ {s : Settings} {last : Option ℕ} {before : ℕ} {frame : SentFrame} {g : Lcg} {falls : List ℕ} {start tick : ℕ} {counts : List ℕ} {behind : Lcg} (drawn : IsDrawn s last before frame g falls start tick counts behind) where
  start-are : start ≡ begins_at s last + 56 * (f s last before frame g drawn.fits).tick
  start-are = drawn.start_is ∙ ap (λ t. begins_at s last + 56 * t) drawn.tick_is

  lengths-are : lengths_of counts (own_ticks tick (words (length counts) behind)) ≡ lengths s last before frame g drawn.fits
  lengths-are =
      ap (λ l. lengths_of l (own_ticks tick (words (length l) behind))) drawn.counts_are
      ∙ ap₂ (λ t b. lengths_of (others s last before frame g drawn.fits) (own_ticks t (words (length (others s last before frame g drawn.fits)) b))) drawn.tick_is drawn.behind_is

  pub drawn-falls : (more : List ℕ) → more ≡ falls ++ falls_behind start (lengths_of counts (own_ticks tick (words (length counts) behind))) → more ≡ ideal_of s last (frame_sent s before frame (frame_words s g))
  drawn-falls more is =
      is
      ∙ ap (λ l. l ++ falls_behind start (lengths_of counts (own_ticks tick (words (length counts) behind)))) drawn.falls_are
      ∙ ap₂ (λ a l. (first_falls s last ++ a ∷ []) ++ falls_behind a l) start-are lengths-are
      ∙ sym (falls-are s last before frame g drawn.fits)

  pub drawn-last : (end : ℕ) → end ≡ start + sum (lengths_of counts (own_ticks tick (words (length counts) behind))) → end ≡ ends_at s last (frame_sent s before frame (frame_words s g))
  drawn-last end is = is ∙ ap₂ (λ a l. a + sum l) start-are lengths-are ∙ sym (last-is s last before frame g drawn.fits)

  pub drawn-next : (wobble : Lcg) → wobble ≡ past (length counts) behind → wobble ≡ past_frame s g
  drawn-next wobble is = is ∙ ap₂ (λ l b. past (length l) b) drawn.counts_are drawn.behind_is ∙ sym (next-is s last before frame g drawn.fits)

begins-late : (s : Settings) (last : Option ℕ) → IsInTime s.tick last → 100000 * s.tick ≤ begins_at s last
begins-late s None in_time = omega arith
begins-late s (Some last) in_time = in_time.0

firsts-within : (s : Settings) (last : Option ℕ) (most : ℕ) → begins_at s last ≤ most → All (λ fall. (100000 * s.tick ≤ fall) × (fall ≤ most)) (first_falls s last)
firsts-within s None most low = All-cons (λ fall. (100000 * s.tick ≤ fall) × (fall ≤ most)) (100000 * s.tick) [] (omega arith, low) (All-nil (λ fall. (100000 * s.tick ≤ fall) × (fall ≤ most)))
firsts-within s (Some last) most low = All-nil (λ fall. (100000 * s.tick ≤ fall) × (fall ≤ most))

pub drawn-late : (s : Settings) (last : Option ℕ) (f : Sending) → IsInTime s.tick last → 100000 * s.tick ≤ ends_at s last f
unfolding ends_at
drawn-late s last f in_time = omega (arith, begins-late s last in_time)

pub drawn-in_time : (s : Settings) (last : Option ℕ) (f : Sending) → IsInTime s.tick last → All (λ fall. (100000 * s.tick ≤ fall) × (fall ≤ ends_at s last f)) (ideal_of s last f)
unfolding ends_at ideal_of
drawn-in_time s last f in_time =
    let low = begins-late s last in_time in
    All-append (λ fall. (100000 * s.tick ≤ fall) × (fall ≤ ends_at s last f)) (first_falls s last) (falls_behind (begins_at s last) (pulses_sent s f))
    (firsts-within s last (ends_at s last f) (omega arith)) (within (100000 * s.tick) (ends_at s last f) (begins_at s last) (pulses_sent s f) low (omega arith))
