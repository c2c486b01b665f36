-- What is drawn of an answer.
--     answer-falls, answer-last, answer-next     its falls, the last of them, and the generator behind them
--     answer-within                              they come behind the trigger's rise, up to the last
use Rattle.std.proofs.Common.{◌≡◌, ℕ, ◌+◌, ◌*◌, ◌≤◌, List, [], ◌∷◌, ◌++◌, length, drop, map, sum, ap, ap₂, sym, subst, ◌∙◌, add-zero, add_assoc, arith}
use Rattle.std.specs.List.{All}
use Rattle.std.proofs.lemmas.List.{length-append, length-map}
use Rattle.std.proofs.lemmas.List.Elements.{All-cons}
use Rattle.std.proofs.lemmas.List.Sums.{sum_by-cons}
use Rattle.rand_pcg.specs.Lcg.{Lcg}
use Rattle.sent_frame.specs.declared.frame.SentFrame.{SentFrame}
use Rattle.sent_frame.specs.Reading.{covered, crc_of}
use Rattle.spc_link.specs.Setup.{Settings}
use Rattle.spc_tolerance.specs.Trains.{Trigger, last_of, pulses_sent, ticks_in}
use Rattle.link_tolerance.specs.Pulses.{falls_behind, lengths_of}
use Rattle.sim_base.specs.DrawnTicks.{any_tick, own_ticks}
use Rattle.spc_sim.specs.SpcSims.{IsDrawnAnswer, answer_sent, answer_words, inside, own_count, past_answer}
use Rattle.sim_base.specs.Wobbles.{behind_word, past, word, words}
use Rattle.sim_base.proofs.PulseLengths.{within}

-- the last fall is where the pulses end
pub last-falls : (time : ℕ) (pulses : List ℕ) → last_of time (falls_behind time pulses) ≡ time + sum pulses
unfolding falls_behind
last-falls time [] = sym (add-zero time)
last-falls time (pulse ∷ pulses) = last-falls (time + pulse) pulses ∙ add_assoc time pulse (sum pulses) ∙ ap (λ n. time + n) (sym (sum_by-cons (λ n. n) pulse pulses))

-- as many pulses have a tick of their own
pub as_many_own : (s : Settings) (frame : SentFrame) → length frame.nibbles ≡ s.sent.nibbles → length (drop 1 (ticks_in s frame)) ≡ own_count s
as_many_own s frame fits =
    let crc = crc_of s.sent.crc (covered s.cover frame.status frame.nibbles) in
    let whole : length (map (λ value. 12 + value) (frame.nibbles ++ crc ∷ [])) ≡ length (frame.nibbles ++ crc ∷ []) = length-map (frame.nibbles ++ crc ∷ []) (λ value. 12 + value) in
    let parts : length (frame.nibbles ++ crc ∷ []) ≡ length frame.nibbles + 1 = length-append frame.nibbles (crc ∷ []) in
    omega (arith, whole, parts)

-- what the code has of an answer
pub record IsDrawn (s : Settings) (frame : SentFrame) (rise tick : ℕ) (g : Lcg) (start : ℕ) (counts : List ℕ) (behind : Lcg) : Type 0 where
  pub fits : length frame.nibbles ≡ s.sent.nibbles
  pub start_is : start ≡ rise + inside s s.delay (word g)
  pub counts_are : counts ≡ drop 1 (ticks_in s frame)
  pub behind_is : behind ≡ behind_word g

module _ {s : Settings} {frame : SentFrame} {rise tick : ℕ} {g : Lcg} {start : ℕ} {counts : List ℕ} {behind : Lcg} (drawn : IsDrawn s frame rise tick g start counts behind) where
  -- the lengths of the pulses behind the calibration pulse
  lengths-are : (trigger : Trigger) (w : ℕ) → any_tick s.sent.tick w ≡ tick
      → pulses_sent s (answer_sent s trigger frame w (answer_words s g)) ≡ 56 * tick ∷ lengths_of counts (own_ticks tick (words (length counts) behind))
  unfolding answer_sent answer_words
  lengths-are trigger w tick_is =
      let as_many : own_count s ≡ length counts = sym (as_many_own s frame drawn.fits) ∙ ap length (sym drawn.counts_are) in
      ap (λ t. 56 * t ∷ lengths_of (drop 1 (ticks_in s frame)) (own_ticks t (words (own_count s) (behind_word g)))) tick_is
      ∙ ap (λ l. 56 * tick ∷ lengths_of l (own_ticks tick (words (own_count s) (behind_word g)))) (sym drawn.counts_are)
      ∙ ap₂ (λ n b. 56 * tick ∷ lengths_of counts (own_ticks tick (words n b))) as_many (sym drawn.behind_is)

  starts : (trigger : Trigger) (w : ℕ) → trigger.rise ≡ rise → (answer_sent s trigger frame w (answer_words s g)).start ≡ start
  unfolding answer_sent answer_words
  starts trigger w rise_is = ap (λ r. r + inside s s.delay (word g)) rise_is ∙ sym drawn.start_is

  pub answer-drawn : (falls : List ℕ) (last : ℕ)
      → falls ≡ (start ∷ (start + 56 * tick) ∷ []) ++ falls_behind (start + 56 * tick) (lengths_of counts (own_ticks tick (words (length counts) behind)))
      → last ≡ start + 56 * tick + sum (lengths_of counts (own_ticks tick (words (length counts) behind)))
      → (trigger : Trigger) (w : ℕ) → trigger.rise ≡ rise → any_tick s.sent.tick w ≡ tick → IsDrawnAnswer s (answer_sent s trigger frame w (answer_words s g)) falls last
  unfolding falls_behind
  answer-drawn falls last falls_are last_is trigger w rise_is tick_is =
      let lengths = lengths_of counts (own_ticks tick (words (length counts) behind)) in
      let begins = sym (starts trigger w rise_is) in
      let pulses = sym (lengths-are trigger w tick_is) in
      record {
        falls_are = falls_are ∙ ap₂ (λ a l. a ∷ falls_behind a l) begins pulses;
        last_is = last_is ∙ add_assoc start (56 * tick) (sum lengths) ∙ ap (λ n. start + n) (sym (sum_by-cons (λ n. n) (56 * tick) lengths))
            ∙ sym (last-falls start (56 * tick ∷ lengths)) ∙ ap₂ (λ a l. last_of a (falls_behind a l)) begins pulses;
      }

  pub answer-next : (wobble : Lcg) → wobble ≡ past (length counts) behind → wobble ≡ past_answer s g
  unfolding past_answer
  answer-next wobble is = is ∙ ap₂ past (ap length drawn.counts_are ∙ as_many_own s frame drawn.fits) drawn.behind_is

-- they come behind the start, up to the last
pub answer-within : (rise start calibrated : ℕ) (pulses falls : List ℕ) (last : ℕ) → rise ≤ start → start ≤ calibrated → falls ≡ (start ∷ calibrated ∷ []) ++ falls_behind calibrated pulses → last ≡ calibrated + sum pulses
    → All (λ fall. (rise ≤ fall) × (fall ≤ last)) falls
answer-within rise start calibrated pulses falls last begins calibrates falls_are last_is =
    let P : ℕ → Type 0 = λ fall. (rise ≤ fall) × (fall ≤ last) in
    subst (All P) (sym falls_are)
    (All-cons P start (calibrated ∷ falls_behind calibrated pulses) (begins, omega arith)
    (All-cons P calibrated (falls_behind calibrated pulses) (omega arith, omega arith) (within rise last calibrated pulses (omega arith) (omega arith))))
