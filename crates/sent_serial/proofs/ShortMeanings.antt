-- Each step of the short messages stands for something in the statuses, the last of which ends it.
--     short-grows      the steps by which they grow with one status more
use Rattle.std.proofs.Common.{◌≡◌, ℕ, ◌+◌, ◌*◌, ◌/◌, ◌%◌, ◌^◌, ◌<◌, ◌≤◌, List, [], ◌∷◌, ◌++◌, Bool, true, false, cond, nat_eq, map, take, drop, length, length-append, sym, ap, ap₂, ◌∙◌, subst, inl, inr, drop-drop, arith}
use Rattle.std.specs.List.{All}
use Rattle.std.proofs.Math.Seq.{take-add}
use Rattle.std.proofs.lemmas.Bool.{cases_Bool, cases_lt, eqb-false, eqb-true}
use Rattle.std.proofs.lemmas.List.{length-drop, length-take-le}
use Rattle.std.proofs.lemmas.List.Elements.{All-cons, All-nil, All-same, All-take}
use Rattle.line_base.proofs.ReportMeanings.{BringsAll, BringsOne, GrowsBy, brings-all, brings-none, reads-grow}
use Rattle.line_base.specs.declared.rule.Rule.TheVariants.{Restart, SerialCheck}
use Rattle.link_math.specs.Checks.{crc4_of}
use Rattle.link_math.specs.Division.{number_of}
use Rattle.link_math.proofs.BitFields.{number_of-append}
use Rattle.link_math.proofs.BitLists.{number_of-below}
use Rattle.sent_serial.specs.declared.step.SerialStep.{SerialStep}
use Rattle.sent_serial.specs.declared.step.SerialStep.TheVariants.{Short, Bad}
use Rattle.sent_serial.specs.Statuses.{start_bit, value_bit, clear_before}
use Rattle.sent_serial.specs.Short.{nibble_at, short_found, short_message, short_reading}
use Rattle.sent_serial.specs.Meanings.{AreLast, EndsInShort, ShortMeans, short_crc}
use Rattle.sent_serial.proofs.FrameRanges.{all_clear, field_bits}
use Rattle.sent_serial.proofs.KeptBits.{length-map}
use Rattle.sent_serial.proofs.Prefixes.{short-keeps, short-none}
use Rattle.sent_serial.proofs.ShortSteps.{found-message, found-restart, found-skipped, found-waits, reads-restart, reads-skipped, reads-waiting, reads-whole}
use Rattle.sent_serial.proofs.StartBits.{clear-append, clear_before-le, clear_here, no_clear}

-- ---- what waits
-- the first of these statuses begins a message, and the later ones are in it
record Waits (first : ℕ) (later : List ℕ) : Type 0 where
  pub starts : start_bit first ≡ true
  pub all : clear_before later ≡ length later
  pub few : length later < 15

-- ---- a whole message
-- sixteen frames at the end, of which the first alone has its start bit set
record IsSixteen (statuses frames : List ℕ) : Type 0 where
  pub last : AreLast 16 frames statuses
  pub first_set : All (λ status. start_bit status ≡ true) (take 1 frames)
  pub others_clear : All (λ status. start_bit status ≡ false) (take 15 (drop 1 frames))

halves : (high low : List Bool) → length low ≡ 4 → (number_of (high ++ low) / 16 ≡ number_of high) × (number_of (high ++ low) % 16 ≡ number_of low)
halves high low four =
    let sum : number_of (high ++ low) ≡ number_of high * 16 + number_of low = number_of-append high low ∙ ap (λ n. number_of high * 2 ^ n + number_of low) four in
    let small : number_of low < 16 = omega (arith, number_of-below low, ap (λ n. 2 ^ n) four) in
    (omega arith, omega arith)

-- four bits behind so many
nibble-long : (place : ℕ) (bits : List Bool) → length bits ≡ 16 → place ≤ 12 → length (take 4 (drop place bits)) ≡ 4
nibble-long place bits sixteen fits = length-take-le 4 (drop place bits) (omega (arith, length-drop place bits))

crc-is : (bits : List Bool) → length bits ≡ 16 → crc4_of (nibble_at 0 bits ∷ nibble_at 4 bits ∷ nibble_at 8 bits ∷ []) ≡ short_crc (nibble_at 0 bits) (number_of (take 8 (drop 4 bits)))
crc-is bits sixteen =
    let value : take 8 (drop 4 bits) ≡ take 4 (drop 4 bits) ++ take 4 (drop 8 bits) = take-add 4 4 (drop 4 bits) ∙ ap (λ rest. take 4 (drop 4 bits) ++ take 4 rest) (drop-drop 4 4 bits) in
    let parts = halves (take 4 (drop 4 bits)) (take 4 (drop 8 bits)) (nibble-long 8 bits sixteen (omega arith)) in
    ap₂ (λ high low. crc4_of (nibble_at 0 bits ∷ high ∷ low ∷ [])) (sym parts.0) (sym parts.1)
    ∙ ap (λ v. short_crc (nibble_at 0 bits) (number_of v)) (sym value)

one : (statuses : List ℕ) (step : SerialStep) → ShortMeans statuses step → All (ShortMeans statuses) (step ∷ [])
one statuses step means = All-cons (ShortMeans statuses) step [] means (All-nil (ShortMeans statuses))

checked-means : (statuses : List ℕ) (id value crc : ℕ) (right : Bool) → EndsInShort statuses id value crc → nat_eq crc (short_crc id value) ≡ right → All (ShortMeans statuses) (cond right (Short id value) (Bad SerialCheck) ∷ [])
checked-means statuses id value crc true message is =
    one statuses (Short id value) (subst (λ (c : ℕ). EndsInShort statuses id value c) (eqb-true crc (short_crc id value) is) message)
checked-means statuses id value crc false message is =
    one statuses (Bad SerialCheck) (record { id = id; value = value; crc = crc; message = message; wrong = eqb-false crc (short_crc id value) is })

is-short : (statuses frames : List ℕ) → IsSixteen statuses frames
    → EndsInShort statuses (nibble_at 0 (map value_bit frames)) (number_of (take 8 (drop 4 (map value_bit frames)))) (nibble_at 12 (map value_bit frames))
is-short statuses frames sixteen = record {
  frames = frames;
  last = sixteen.last;
  first_set = sixteen.first_set;
  others_clear = sixteen.others_clear;
  id_is = ap number_of (field_bits value_bit 0 4 frames);
  value_is = ap number_of (field_bits value_bit 4 8 frames);
  crc_is = ap number_of (field_bits value_bit 12 4 frames);
}

message-means : (statuses frames : List ℕ) → IsSixteen statuses frames → All (ShortMeans statuses) (short_message (map value_bit frames) ∷ [])
unfolding short_message
message-means statuses frames sixteen =
    let bits = map value_bit frames in
    let id = nibble_at 0 bits in
    let value = number_of (take 8 (drop 4 bits)) in
    let same = crc-is bits (length-map value_bit frames ∙ sixteen.last.as_many) in
    checked-means statuses id value (nibble_at 12 bits) (nat_eq (nibble_at 12 bits) (crc4_of (id ∷ nibble_at 4 bits ∷ nibble_at 8 bits ∷ [])))
    (is-short statuses frames sixteen) (ap (nat_eq (nibble_at 12 bits)) (sym same))

-- ---- one status more
none-mean : (statuses : List ℕ) (steps : List SerialStep) → steps ≡ [] → All (ShortMeans statuses) steps
none-mean statuses steps none = All-same (ShortMeans statuses) steps [] none (All-nil (ShortMeans statuses))

one-none : (status : ℕ) → short_reading (status ∷ []) ≡ []
one-none status =
    elim (cases_Bool (start_bit status)) [
      | inl starts ↦ reads-waiting status [] starts no_clear (omega arith)
      | inr clear ↦ reads-skipped status [] clear ∙ short-none
    ]

restart-means : (statuses before : List ℕ) (first : ℕ) (later : List ℕ) (status : ℕ) → statuses ≡ before ++ first ∷ (later ++ status ∷ []) → Waits first later → start_bit status ≡ true
    → All (ShortMeans statuses) (short_reading (first ∷ (later ++ status ∷ [])))
restart-means statuses before first later status are waits again =
    All-same (ShortMeans statuses) (short_reading (first ∷ (later ++ status ∷ []))) (Bad Restart ∷ [])
    (reads-restart first status later waits.starts waits.all (omega (arith, waits.few)) again ∙ ap (λ steps. Bad Restart ∷ steps) (one-none status))
    (one statuses (Bad Restart) (record {
      before = before;
      first = first;
      between = later;
      last = status;
      stands = are;
      first_set = waits.starts;
      few = omega (arith, waits.few);
      between_clear = all_clear later waits.all;
      last_set = again;
    }))

whole-means : (statuses before : List ℕ) (first : ℕ) (later : List ℕ) (status : ℕ) → statuses ≡ before ++ first ∷ (later ++ status ∷ []) → Waits first later → length later ≡ 14 → start_bit status ≡ false
    → All (ShortMeans statuses) (short_reading (first ∷ (later ++ status ∷ [])))
whole-means statuses before first later status are waits fourteen clear =
    let frames = first ∷ (later ++ status ∷ []) in
    let clears : clear_before (later ++ status ∷ []) ≡ length (later ++ status ∷ []) =
    omega (arith, clear-append later (status ∷ []) waits.all, clear_here status [] clear, no_clear, length-append later (status ∷ [])) in
    All-same (ShortMeans statuses) (short_reading frames) (short_message (map value_bit frames) ∷ [])
    (reads-whole first (later ++ status ∷ []) waits.starts clears (omega (arith, length-append later (status ∷ []))))
    (message-means statuses frames (record {
      last = record { before = before; stands = are; as_many = omega (arith, length-append later (status ∷ [])) };
      first_set = All-cons (λ s. start_bit s ≡ true) first [] waits.starts (All-nil (λ s. start_bit s ≡ true));
      others_clear = All-take (λ s. start_bit s ≡ false) 15 (later ++ status ∷ []) (all_clear (later ++ status ∷ []) clears);
    }))

more-mean : (statuses before : List ℕ) (first : ℕ) (later : List ℕ) (status : ℕ) → statuses ≡ before ++ first ∷ (later ++ status ∷ []) → Waits first later
    → All (ShortMeans statuses) (short_reading (first ∷ (later ++ status ∷ [])))
more-mean statuses before first later status are waits =
    elim (cases_Bool (start_bit status)) [
      | inl again ↦ restart-means statuses before first later status are waits again
      | inr clear ↦
          elim (cases_lt (length later) 14) [
            | inr fourteen ↦ whole-means statuses before first later status are waits (omega (arith, waits.few)) clear
            | inl fewer ↦
                none-mean statuses (short_reading (first ∷ (later ++ status ∷ [])))
                (reads-waiting first (later ++ status ∷ []) waits.starts
                (omega (arith, clear-append later (status ∷ []) waits.all, clear_here status [] clear, no_clear, length-append later (status ∷ []))) (omega (arith, length-append later (status ∷ []))))
          ]
    ]

-- what stands at the first of these statuses, and what one more makes of it
one-more : (statuses before : List ℕ) (first : ℕ) (later : List ℕ) (status : ℕ) → statuses ≡ before ++ first ∷ (later ++ status ∷ []) → BringsOne short_found (ShortMeans statuses) tt first later status
unfolding short_reading
one-more statuses before first later status are =
    elim (cases_Bool (start_bit first)) [
      | inr clear ↦ brings-none short_found (ShortMeans statuses) tt first later status [] 0 tt (found-skipped first later clear)
      | inl starts ↦
          elim (cases_lt (clear_before later) 15) [
            | inr enough ↦ brings-none short_found (ShortMeans statuses) tt first later status (_ ∷ []) 15 tt (found-message first later starts enough)
            | inl short ↦
                elim (cases_lt (clear_before later) (length later)) [
                  | inl fewer ↦ brings-none short_found (ShortMeans statuses) tt first later status (Bad Restart ∷ []) (clear_before later) tt (found-restart first later starts fewer short)
                  | inr all ↦
                      let waits : Waits first later = record { starts = starts; all = omega (arith, clear_before-le later); few = omega (arith, clear_before-le later) } in
                      brings-all short_found (ShortMeans statuses) tt first later status [] (found-waits first later starts waits.all waits.few) (more-mean statuses before first later status are waits)
                ]
          ]
    ]

short-brings : BringsAll short_found ShortMeans
unfolding short_reading
short-brings = record {
  alone = λ statuses before due status are. none-mean statuses (short_reading (status ∷ [])) (one-none status);
  one_more = λ statuses before due first later status are. one-more statuses before first later status are;
}

-- the steps of short messages grow with one status more by some that stand for something there
pub short-grows : (before : List ℕ) (status : ℕ) → GrowsBy (ShortMeans (before ++ status ∷ [])) (short_reading before) (short_reading (before ++ status ∷ []))
unfolding short_reading
short-grows before status = reads-grow short_found tt ShortMeans short-keeps short-brings before status
