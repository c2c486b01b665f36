-- Each step of the enhanced messages stands for something in the statuses, the last of which ends it.
--     enhanced-grows      the steps by which they grow with one status more
use Rattle.std.proofs.Common.{◌≡◌, ℕ, ◌+◌, ◌<◌, ◌≤◌, List, [], ◌∷◌, ◌++◌, Bool, true, false, cond, nat_eq, take, length, length-append, refl, sym, ap, ◌∙◌, append-nil, inl, inr, arith}
use Rattle.std.specs.List.{All}
use Rattle.std.specs.Prelude.{slice_index}
use Rattle.std.proofs.Math.ListN.{get_or-append}
use Rattle.std.proofs.Math.Seq.{get_or-append_seam, take-length}
use Rattle.std.proofs.lemmas.Bool.{cases_Bool, cases_lt, eqb-false, eqb-true}
use Rattle.std.proofs.lemmas.List.Elements.{All-cons, All-nil, All-same}
use Rattle.line_base.specs.Readings.{ended, read_past, told}
use Rattle.line_base.specs.Readings.Found.{Waiting}
use Rattle.line_base.proofs.Readings.{read-nil}
use Rattle.line_base.proofs.ReportMeanings.{BringsAll, BringsOne, GrowsBy, brings-all, brings-none, reads-grow}
use Rattle.line_base.specs.declared.rule.Rule.TheVariants.{Zero13, Zero18, SerialCheck}
use Rattle.link_math.specs.Division.{number_of}
use Rattle.link_math.specs.Checks.{crc6_of}
use Rattle.sent_serial.specs.declared.step.SerialStep.{SerialStep}
use Rattle.sent_serial.specs.declared.step.SerialStep.TheVariants.{Enhanced, Bad}
use Rattle.sent_serial.specs.Statuses.{start_bit, start_bits, value_bits, set_before}
use Rattle.sent_serial.specs.Enhanced.{begun, begun_at, checked_bits, enhanced_content, enhanced_found, enhanced_message, enhanced_reading}
use Rattle.sent_serial.specs.Meanings.{BeginsEnhanced, EndsInEighteen, EnhancedMeans}
use Rattle.sent_serial.proofs.EnhancedSteps.{at-begun, at-run, at-seven, at-skipped, begun-13, begun-18, begun-early, begun-late, begun-whole, finds-first, reads-ended, reads-skipped, reads-waiting}
use Rattle.sent_serial.proofs.FrameRanges.{clear_next, one_frame, set_front}
use Rattle.sent_serial.proofs.EnhancedLeads.{broken}
use Rattle.sent_serial.proofs.Prefixes.{enhanced-keeps, enhanced-none}
use Rattle.sent_serial.proofs.StartBits.{all_set-later, no_set, set-append, set-stays, set_before-le, set_here, set_none}

-- ---- what waits
-- all start bits are set, and there are up to six
record IsRun (kept : List ℕ) : Type 0 where
  pub all : set_before kept ≡ length kept
  pub few : length kept ≤ 6

-- the first start bits are those of an enhanced message, and there are 7 to 17
record IsWithin (kept : List ℕ) : Type 0 where
  pub begins : set_before kept ≡ 6
  pub some : 7 ≤ length kept
  pub few : length kept ≤ 17
  pub clear_13 : 12 < length kept → start_bit (slice_index kept 12) ≡ false

-- ---- what the frames at the end mean
one : (statuses : List ℕ) (step : SerialStep) → EnhancedMeans statuses step → All (EnhancedMeans statuses) (step ∷ [])
one statuses step means = All-cons (EnhancedMeans statuses) step [] means (All-nil (EnhancedMeans statuses))

none-mean : (statuses : List ℕ) (steps : List SerialStep) → steps ≡ [] → All (EnhancedMeans statuses) steps
none-mean statuses steps none = All-same (EnhancedMeans statuses) steps [] none (All-nil (EnhancedMeans statuses))

begins-with : (frames : List ℕ) → set_before frames ≡ 6 → 6 < length frames → BeginsEnhanced frames
begins-with frames begins long = record {
  six_set = set_front 6 frames (omega arith);
  seventh_clear = one_frame false 6 frames long (clear_next 6 frames begins long);
}

content-told : (statuses frames : List ℕ) (wide : Bool) (a b c d : ℕ) → EndsInEighteen statuses frames → number_of (value_bits 1 6 frames) ≡ crc6_of (checked_bits frames)
    → enhanced_content frames ≡ cond wide (Enhanced a b true) (Enhanced c d false) → EnhancedMeans statuses (cond wide (Enhanced a b true) (Enhanced c d false))
content-told statuses frames true a b c d message right says = record { frames = frames; message = message; right = right; says = says }
content-told statuses frames false a b c d message right says = record { frames = frames; message = message; right = right; says = says }

content-means : (statuses frames : List ℕ) → EndsInEighteen statuses frames → number_of (value_bits 1 6 frames) ≡ crc6_of (checked_bits frames) → EnhancedMeans statuses (enhanced_content frames)
unfolding enhanced_content
content-means statuses frames message right = content-told statuses frames (nat_eq (number_of (start_bits 8 1 frames)) 1) _ _ _ _ message right refl

checked-means : (statuses frames : List ℕ) (right : Bool) → EndsInEighteen statuses frames → nat_eq (number_of (value_bits 1 6 frames)) (crc6_of (checked_bits frames)) ≡ right
    → All (EnhancedMeans statuses) (cond right (enhanced_content frames) (Bad SerialCheck) ∷ [])
checked-means statuses frames true message is = one statuses (enhanced_content frames) (content-means statuses frames message (eqb-true (number_of (value_bits 1 6 frames)) (crc6_of (checked_bits frames)) is))
checked-means statuses frames false message is =
    one statuses (Bad SerialCheck) (record { frames = frames; message = message; wrong = eqb-false (number_of (value_bits 1 6 frames)) (crc6_of (checked_bits frames)) is })

message-means : (statuses frames : List ℕ) → EndsInEighteen statuses frames → All (EnhancedMeans statuses) (enhanced_message frames ∷ [])
unfolding enhanced_message
message-means statuses frames message = checked-means statuses frames (nat_eq (number_of (value_bits 1 6 frames)) (crc6_of (checked_bits frames))) message refl

-- ---- one status more in a run
one-none : (status : ℕ) → enhanced_reading (status ∷ []) ≡ []
one-none status =
    elim (cases_Bool (start_bit status)) [
      | inl set ↦ reads-waiting (status ∷ []) (at-run (status ∷ []) (omega (arith, set_here status [] set, no_set)) (omega arith))
      | inr clear ↦ reads-skipped status [] (at-skipped (status ∷ []) (omega (arith, set_none status [] clear)) (omega (arith, set_none status [] clear))) ∙ enhanced-none
    ]

seventh-none : (run : List ℕ) → set_before run ≡ length run → length run ≡ 7 → enhanced_reading run ≡ []
seventh-none [] all seven = absurd (omega arith)
seventh-none (first ∷ run) all seven = reads-skipped first run (at-seven (first ∷ run) (omega arith)) ∙ reads-waiting run (at-run run (all_set-later first run all) (omega arith))

broken-none : (run : List ℕ) (status : ℕ) → set_before run ≡ length run → length run < 6 → start_bit status ≡ false → enhanced_reading (run ++ status ∷ []) ≡ []
unfolding enhanced_reading
broken-none run status all fewer clear = ap (read_past enhanced_found 0 tt) (sym (append-nil (run ++ status ∷ []))) ∙ (broken run status all fewer clear).reads [] ∙ read-nil enhanced_found tt

run-none : (kept : List ℕ) (status : ℕ) → IsRun kept → enhanced_reading (kept ++ status ∷ []) ≡ []
run-none kept status run =
    let whole = kept ++ status ∷ [] in
    let long : length whole ≡ length kept + 1 = length-append kept (status ∷ []) in
    let sets : set_before whole ≡ length kept + set_before (status ∷ []) = set-append kept (status ∷ []) run.all in
    elim (cases_Bool (start_bit status)) [
      | inl set ↦
          let all : set_before whole ≡ length whole = omega (arith, set_here status [] set, no_set) in
          elim (cases_lt (length kept) 6) [
            | inl fewer ↦ reads-waiting whole (at-run whole all (omega arith))
            | inr six ↦ seventh-none whole all (omega (arith, run.few))
          ]
      | inr clear ↦
          elim (cases_lt (length kept) 6) [
            | inl fewer ↦ broken-none kept status run.all fewer clear
            | inr six ↦
                reads-waiting whole
                (at-begun whole (omega (arith, set_none status [] clear, run.few)) (omega (arith, run.few)) ∙ begun-early whole (omega (arith, run.few)))
          ]
    ]

-- ---- one status more in a message
-- these statuses end in what was kept and one status more
record IsMore (statuses kept : List ℕ) (status : ℕ) : Type 0 where
  pub before : List ℕ
  pub stands : statuses ≡ before ++ (kept ++ status ∷ [])
  pub within : IsWithin kept
  pub begins : set_before (kept ++ status ∷ []) ≡ 6
  pub long : length (kept ++ status ∷ []) ≡ length kept + 1
  pub last : start_bit (slice_index (kept ++ status ∷ []) (length kept)) ≡ start_bit status
  pub clear_13 : 12 < length kept → start_bit (slice_index (kept ++ status ∷ []) 12) ≡ false

is-more : (statuses before kept : List ℕ) (status : ℕ) → statuses ≡ before ++ (kept ++ status ∷ []) → IsWithin kept → IsMore statuses kept status
is-more statuses before kept status are within = record {
  before = before;
  stands = are;
  within = within;
  begins = set-stays kept (status ∷ []) (omega (arith, within.begins, within.some)) ∙ within.begins;
  long = length-append kept (status ∷ []);
  last = ap start_bit (get_or-append_seam kept status [] 0);
  clear_13 = λ longer. ap start_bit (get_or-append kept (status ∷ []) 0 12 longer) ∙ within.clear_13 longer;
}

last-at : (kept : List ℕ) (count status : ℕ) (bit : Bool) → length kept ≡ count → start_bit (slice_index (kept ++ status ∷ []) (length kept)) ≡ start_bit status → start_bit status ≡ bit
    → start_bit (slice_index (kept ++ status ∷ []) count) ≡ bit
last-at kept count status bit long last is = ap (λ n. start_bit (slice_index (kept ++ status ∷ []) n)) (sym long) ∙ last ∙ is

at-13 : (statuses kept : List ℕ) (status : ℕ) → IsMore statuses kept status → length kept ≡ 12 → start_bit status ≡ true → All (EnhancedMeans statuses) (enhanced_reading (kept ++ status ∷ []))
at-13 statuses kept status more twelve set =
    let frames = kept ++ status ∷ [] in
    let thirteen : length frames ≡ 13 = omega (arith, more.long) in
    let last : start_bit (slice_index frames 12) ≡ true = last-at kept 12 status true twelve more.last set in
    All-same (EnhancedMeans statuses) (enhanced_reading frames) (Bad Zero13 ∷ [])
    (reads-ended kept (status ∷ []) (Bad Zero13) 11 (omega arith) (at-begun frames more.begins (omega arith) ∙ begun-13 frames (omega arith) last)
    ∙ ap (λ steps. Bad Zero13 ∷ steps) (one-none status))
    (one statuses (Bad Zero13) (record {
      frames = frames;
      last = record { before = more.before; stands = more.stands; as_many = thirteen };
      begins = begins-with frames more.begins (omega arith);
      thirteenth_set = one_frame true 12 frames (omega arith) last;
    }))

at-18 : (statuses kept : List ℕ) (status : ℕ) → IsMore statuses kept status → length kept ≡ 17 → start_bit status ≡ true → All (EnhancedMeans statuses) (enhanced_reading (kept ++ status ∷ []))
at-18 statuses kept status more seventeen set =
    let frames = kept ++ status ∷ [] in
    let eighteen : length frames ≡ 18 = omega (arith, more.long) in
    let clear : start_bit (slice_index frames 12) ≡ false = more.clear_13 (omega arith) in
    let last : start_bit (slice_index frames 17) ≡ true = last-at kept 17 status true seventeen more.last set in
    All-same (EnhancedMeans statuses) (enhanced_reading frames) (Bad Zero18 ∷ [])
    (reads-ended kept (status ∷ []) (Bad Zero18) 16 (omega arith) (at-begun frames more.begins (omega arith) ∙ begun-18 frames (omega arith) clear last)
    ∙ ap (λ steps. Bad Zero18 ∷ steps) (one-none status))
    (one statuses (Bad Zero18) (record {
      frames = frames;
      last = record { before = more.before; stands = more.stands; as_many = eighteen };
      begins = begins-with frames more.begins (omega arith);
      thirteenth_clear = one_frame false 12 frames (omega arith) clear;
      eighteenth_set = one_frame true 17 frames (omega arith) last;
    }))

whole-means : (statuses kept : List ℕ) (status : ℕ) → IsMore statuses kept status → length kept ≡ 17 → start_bit status ≡ false → All (EnhancedMeans statuses) (enhanced_reading (kept ++ status ∷ []))
whole-means statuses kept status more seventeen none =
    let frames = kept ++ status ∷ [] in
    let eighteen : length frames ≡ 18 = omega (arith, more.long) in
    let clear : start_bit (slice_index frames 12) ≡ false = more.clear_13 (omega arith) in
    let last : start_bit (slice_index frames 17) ≡ false = last-at kept 17 status false seventeen more.last none in
    let all : take 18 frames ≡ frames = ap (λ n. take n frames) (sym eighteen) ∙ take-length frames in
    let same : frames ++ [] ≡ frames = append-nil frames in
    All-same (EnhancedMeans statuses) (enhanced_reading frames) (enhanced_message frames ∷ [])
    (ap enhanced_reading (sym same)
    ∙ reads-ended frames [] (enhanced_message frames) 17 (omega arith)
    (ap begun_at same ∙ at-begun frames more.begins (omega arith) ∙ begun-whole frames (omega arith) clear last ∙ ap (λ l. ended (enhanced_message l) 17) all)
    ∙ ap (λ steps. enhanced_message frames ∷ steps) enhanced-none)
    (message-means statuses frames (record {
      last = record { before = more.before; stands = more.stands; as_many = eighteen };
      begins = begins-with frames more.begins (omega arith);
      thirteenth_clear = one_frame false 12 frames (omega arith) clear;
      eighteenth_clear = one_frame false 17 frames (omega arith) last;
    }))

-- a message that isn't whole yet has no step
unfinished : (statuses kept : List ℕ) (status : ℕ) → IsMore statuses kept status → length kept < 17 → (12 ≤ length kept → start_bit (slice_index (kept ++ status ∷ []) 12) ≡ false)
    → enhanced_reading (kept ++ status ∷ []) ≡ []
unfinished statuses kept status more few clear =
    let frames = kept ++ status ∷ [] in
    reads-waiting frames (at-begun frames more.begins (omega (arith, more.long, more.within.some))
    ∙ elim (cases_lt 12 (length frames)) [
      | inl longer ↦ begun-late frames longer (clear (omega (arith, more.long))) (omega (arith, more.long))
      | inr short ↦ begun-early frames short
    ])

more-mean : (statuses kept : List ℕ) (status : ℕ) → IsMore statuses kept status → All (EnhancedMeans statuses) (enhanced_reading (kept ++ status ∷ []))
more-mean statuses kept status more =
    elim (cases_lt (length kept) 17) [
      | inr seventeen ↦
          elim (cases_Bool (start_bit status)) [
            | inl set ↦ at-18 statuses kept status more (omega (arith, more.within.few)) set
            | inr clear ↦ whole-means statuses kept status more (omega (arith, more.within.few)) clear
          ]
      | inl few ↦
          elim (cases_lt 12 (length kept)) [
            | inl longer ↦ none-mean statuses (enhanced_reading (kept ++ status ∷ [])) (unfinished statuses kept status more few (λ _. more.clear_13 longer))
            | inr short ↦
                elim (cases_lt (length kept) 12) [
                  | inl shorter ↦ none-mean statuses (enhanced_reading (kept ++ status ∷ [])) (unfinished statuses kept status more few (λ long. absurd (omega arith)))
                  | inr twelve ↦
                      let is_12 : length kept ≡ 12 = omega arith in
                      elim (cases_Bool (start_bit status)) [
                        | inl set ↦ at-13 statuses kept status more is_12 set
                        | inr clear ↦ none-mean statuses (enhanced_reading (kept ++ status ∷ [])) (unfinished statuses kept status more few (λ _. last-at kept 12 status false is_12 more.last clear))
                      ]
                ]
          ]
    ]

-- what one status more makes of a run, or of a message that isn't whole
run-brings : (statuses : List ℕ) (first : ℕ) (later : List ℕ) (status : ℕ) → IsRun (first ∷ later) → BringsOne enhanced_found (EnhancedMeans statuses) tt first later status
unfolding enhanced_reading
run-brings statuses first later status run =
    brings-all enhanced_found (EnhancedMeans statuses) tt first later status [] (finds-first first later ∙ at-run (first ∷ later) run.all run.few)
    (none-mean statuses (enhanced_reading (first ∷ (later ++ status ∷ []))) (run-none (first ∷ later) status run))

within-brings : (statuses before : List ℕ) (first : ℕ) (later : List ℕ) (status : ℕ) → statuses ≡ before ++ first ∷ (later ++ status ∷ []) → IsWithin (first ∷ later) → begun (first ∷ later) ≡ Waiting []
    → BringsOne enhanced_found (EnhancedMeans statuses) tt first later status
unfolding enhanced_reading
within-brings statuses before first later status are within waits =
    brings-all enhanced_found (EnhancedMeans statuses) tt first later status [] (finds-first first later ∙ at-begun (first ∷ later) within.begins (omega (arith, within.some)) ∙ waits)
    (more-mean statuses (first ∷ later) status (is-more statuses before (first ∷ later) status are within))

-- where a message has ended, or none begins, nothing was unfinished
none-brings : (statuses : List ℕ) (first : ℕ) (later : List ℕ) (status : ℕ) (steps : List SerialStep) (used : ℕ) → begun_at (first ∷ later) ≡ told steps used tt → BringsOne enhanced_found (EnhancedMeans statuses) tt first later status
none-brings statuses first later status steps used ends = brings-none enhanced_found (EnhancedMeans statuses) tt first later status steps used tt (finds-first first later ∙ ends)

begun-brings : (statuses before : List ℕ) (first : ℕ) (later : List ℕ) (status : ℕ) → statuses ≡ before ++ first ∷ (later ++ status ∷ []) → set_before (first ∷ later) ≡ 6 → 6 < length (first ∷ later)
    → BringsOne enhanced_found (EnhancedMeans statuses) tt first later status
begun-brings statuses before first later status are begins long =
    let kept = first ∷ later in
    let here = at-begun kept begins long in
    elim (cases_lt 12 (length kept)) [
      | inr short ↦
          within-brings statuses before first later status are (record { begins = begins; some = long; few = omega arith; clear_13 = λ longer. absurd (omega arith) }) (begun-early kept short)
      | inl longer ↦
          elim (cases_Bool (start_bit (slice_index kept 12))) [
            | inl set ↦ none-brings statuses first later status (Bad Zero13 ∷ []) 11 (here ∙ begun-13 kept longer set)
            | inr clear ↦
                elim (cases_lt 17 (length kept)) [
                  | inr few ↦ within-brings statuses before first later status are (record { begins = begins; some = long; few = few; clear_13 = λ _. clear }) (begun-late kept longer clear few)
                  | inl whole ↦
                      elim (cases_Bool (start_bit (slice_index kept 17))) [
                        | inl set ↦ none-brings statuses first later status (Bad Zero18 ∷ []) 16 (here ∙ begun-18 kept whole clear set)
                        | inr last ↦ none-brings statuses first later status (enhanced_message (take 18 kept) ∷ []) 17 (here ∙ begun-whole kept whole clear last)
                      ]
                ]
          ]
    ]

one-more : (statuses before : List ℕ) (first : ℕ) (later : List ℕ) (status : ℕ) → statuses ≡ before ++ first ∷ (later ++ status ∷ []) → BringsOne enhanced_found (EnhancedMeans statuses) tt first later status
one-more statuses before first later status are =
    let kept = first ∷ later in
    elim (cases_lt (set_before kept) (length kept)) [
      | inr all ↦
          elim (cases_lt 6 (length kept)) [
            | inl many ↦ none-brings statuses first later status [] 0 (at-seven kept (omega arith))
            | inr few ↦ run-brings statuses first later status (record { all = omega (arith, set_before-le kept); few = few })
          ]
      | inl fewer ↦
          elim (cases_lt (set_before kept) 6) [
            | inl few ↦ none-brings statuses first later status [] 0 (at-skipped kept few fewer)
            | inr enough ↦
                elim (cases_lt 6 (set_before kept)) [
                  | inl many ↦ none-brings statuses first later status [] 0 (at-seven kept many)
                  | inr six ↦ begun-brings statuses before first later status are (omega arith) (omega arith)
                ]
          ]
    ]

enhanced-brings : BringsAll enhanced_found EnhancedMeans
unfolding enhanced_reading
enhanced-brings = record {
  alone = λ statuses before due status are. none-mean statuses (enhanced_reading (status ∷ [])) (one-none status);
  one_more = λ statuses before due first later status are. one-more statuses before first later status are;
}

-- the steps of enhanced messages grow with one status more by some that stand for something there
pub enhanced-grows : (before : List ℕ) (status : ℕ) → GrowsBy (EnhancedMeans (before ++ status ∷ [])) (enhanced_reading before) (enhanced_reading (before ++ status ∷ []))
unfolding enhanced_reading
enhanced-grows before status = reads-grow enhanced_found tt EnhancedMeans enhanced-keeps enhanced-brings before status
