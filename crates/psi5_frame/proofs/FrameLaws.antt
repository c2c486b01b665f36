-- A burst is good exactly where it is the waveform of a frame.
--     good_is_frame      a good burst is the waveform of its payload's frame
--     frame_is_good      the waveform of a frame is good
use Rattle.std.proofs.Common.{◌≡◌, ℕ, ◌+◌, ◌-◌, ◌*◌, ◌/◌, ◌%◌, ◌≤◌, ◌⊎◌, Bool, true, false, not, nat_eq, if◌then◌else◌, Option, None, Some, List, [], ◌∷◌, ◌++◌, length, take, drop, refl, sym, ◌∙◌, ap, ap₂, subst, inl, inr, arith}
use Rattle.std.proofs.lemmas.Bool.{eq-eqb, eqb-true}
use Rattle.std.proofs.lemmas.List.{length-append}
use Rattle.line_base.specs.declared.rule.Rule.TheVariants as rule
use Rattle.link_math.specs.Division.{number_of, bits_of}
use Rattle.link_math.proofs.BitLists.{length-bits_of}
use Rattle.psi5_frame.specs.declared.burst.Payload.{Payload}
use Rattle.psi5_frame.specs.declared.burst.Burst.{Burst}
use Rattle.psi5_frame.specs.declared.burst.Burst.TheVariants.{Good, Bad}
use Rattle.link_math.specs.declared.manchester.Halves.TheVariants.{One, Two}
use Rattle.psi5_frame.specs.Intervals.{half_bits}
use Rattle.psi5_frame.specs.Setup.{Settings, bit_count, payload_width, check_width}
use Rattle.psi5_frame.specs.Edges.{Change}
use Rattle.psi5_frame.specs.Frames.{check_number, payload_bits, payload_of, Fits, framed, frame_of, changed_at, waveform, levels_of}
use Rattle.psi5_frame.specs.Waveforms.{AreSteps, Alternate, places_after, IsFrameBurst}
use Rattle.psi5_frame.specs.Bursts.{last_of, place_after, has_place, bits_after, fault_after, edge_fault, burst_bits, checked, concluded, judged, judged_by, has_start, Violation}
use Rattle.psi5_frame.proofs.Framed.{framed-checks, checks-framed}
use Rattle.psi5_frame.proofs.Payloads.{payload_of-payload_bits, payload_bits-payload_of, fits-payload_of, length-payload_bits}
use Rattle.psi5_frame.proofs.Walks.{InPhase, StartsLow, level_after, forward, backward, are_unbroken, no_fault, reached, has_reached, count_bits, step_cases, by_width, step_grows}
use Rattle.psi5_frame.proofs.Growing.{even_bit}

-- ---- what a good burst was
whole_of : (fault : Option Violation) (whole : Burst) (place : ℕ) (payload : Payload) → judged_by fault whole ≡ Good place payload → (fault ≡ None) × (whole ≡ Good place payload)
whole_of None whole place payload e = (refl, e)
whole_of (Some violation) whole place payload e = absurd cc

record IsConcluded (s : Settings) (is_whole : Bool) (last : Change) (bits : List Bool) (place : ℕ) (payload : Payload) : Type 0 where
  whole : is_whole ≡ true
  low : last.level ≡ false
  good : checked s last.number (drop 2 bits) ≡ Good place payload

by_level : (s : Settings) (last : Change) (level : Bool) (bits : List Bool) (place : ℕ) (payload : Payload) → last.level ≡ level
    → (if level then Bad last.number rule.EndsHigh else checked s last.number (drop 2 bits)) ≡ Good place payload → IsConcluded s true last bits place payload
by_level s last true bits place payload is e = absurd cc
by_level s last false bits place payload is e = record { whole = refl; low = is; good = e }

concluded_of : (s : Settings) (is_whole : Bool) (last : Change) (bits : List Bool) (place : ℕ) (payload : Payload) → concluded s is_whole last bits ≡ Good place payload → IsConcluded s is_whole last bits place payload
concluded_of s true last bits place payload e = by_level s last last.level bits place payload refl e
concluded_of s false last bits place payload e = absurd cc

record IsChecked (s : Settings) (number : ℕ) (bits : List Bool) (place : ℕ) (payload : Payload) : Type 0 where
  right : number_of (drop (payload_width s.parts) bits) ≡ check_number s.check (take (payload_width s.parts) bits)
  place_is : number ≡ place
  payload_is : payload_of s.parts bits ≡ payload

by_check : (s : Settings) (number : ℕ) (bits : List Bool) (test : Bool) (place : ℕ) (payload : Payload)
    → nat_eq (number_of (drop (payload_width s.parts) bits)) (check_number s.check (take (payload_width s.parts) bits)) ≡ test
    → (if test then Good number (payload_of s.parts bits) else Bad number rule.Psi5Check) ≡ Good place payload → IsChecked s number bits place payload
by_check s number bits true place payload is e = record {
  right = eqb-true (number_of (drop (payload_width s.parts) bits)) (check_number s.check (take (payload_width s.parts) bits)) is;
  place_is = cc;
  payload_is = cc;
}
by_check s number bits false place payload is e = absurd cc

checked_of : (s : Settings) (number : ℕ) (bits : List Bool) (place : ℕ) (payload : Payload) → checked s number bits ≡ Good place payload → IsChecked s number bits place payload
unfolding checked
checked_of s number bits place payload e =
    by_check s number bits (nat_eq (number_of (drop (payload_width s.parts) bits)) (check_number s.check (take (payload_width s.parts) bits))) place payload refl e

rise_of : (bits : ℕ) (first : Change) (later : List Change) (level : Bool) → first.level ≡ level
    → (if level then fault_after bits 1 later else Some (record { place = first.number; rule = rule.FirstFall })) ≡ None → (first.level ≡ true) × (fault_after bits 1 later ≡ None)
rise_of bits first later true is e = (is, e)
rise_of bits first later false is e = absurd cc

-- ---- the first edges
steps_of_phase : (place : ℕ) (edges : List Change) → InPhase place edges → AreSteps edges
steps_of_phase place [] phase = tt
steps_of_phase place (edge ∷ later) phase = (phase.0.0, steps_of_phase (place + half_bits edge.interval) later phase.1)

-- an edge at half-bit 3 says 0
bit_3 : (place : ℕ) (edge : Change) (later : List Change) → place + half_bits edge.interval ≡ 3 → edge.level ≡ true → bits_after place (edge ∷ later) ≡ false ∷ bits_after 3 later
unfolding bits_after
bit_3 place edge later e high = rw (e, high) refl

no_bit : (place next : ℕ) (edge : Change) (later : List Change) → place + half_bits edge.interval ≡ next → next % 2 ≡ 0 → bits_after place (edge ∷ later) ≡ bits_after next later
unfolding bits_after
no_bit place next edge later e even = rw (e, even_bit next edge.level even) refl

dropped : (bits rest : List Bool) → bits ≡ false ∷ rest → bits ≡ false ∷ drop 1 bits
dropped bits rest e = e ∙ ap (λ l. false ∷ drop 1 l) (sym e)

nothing : length (bits_after 2 []) ≡ 0
unfolding bits_after
nothing = refl

none_at_1 : length (bits_after 1 []) ≡ 0
unfolding bits_after
none_at_1 = refl

second_by : (edge : Change) (later : List Change) → (edge.interval ≡ One) ⊎ (edge.interval ≡ Two) → InPhase 1 (edge ∷ later) → StartsLow 1 (edge ∷ later) → 1 ≤ length (bits_after 1 (edge ∷ later))
    → bits_after 1 (edge ∷ later) ≡ false ∷ drop 1 (bits_after 1 (edge ∷ later))
second_by edge later (inr two) phase starts some =
    let at : 1 + half_bits edge.interval ≡ 3 = by_width 1 edge.interval 2 3 (ap half_bits two) refl in
    dropped (bits_after 1 (edge ∷ later)) (bits_after 3 later) (bit_3 1 edge later at (starts.0 at))
second_by edge [] (inl one) phase starts some =
    let at : 1 + half_bits edge.interval ≡ 2 = by_width 1 edge.interval 1 2 (ap half_bits one) refl in
    absurd (none_left (ap length (no_bit 1 2 edge [] at refl)))
  where
    none_left : length (bits_after 1 (edge ∷ [])) ≡ length (bits_after 2 []) → ⊥
    none_left e = omega (arith, e, some, nothing)
second_by edge (second ∷ later) (inl one) phase starts some =
    let at : 1 + half_bits edge.interval ≡ 2 = by_width 1 edge.interval 1 2 (ap half_bits one) refl in
    let at2 : (1 + half_bits edge.interval) + half_bits second.interval ≡ 3 = elim (step_cases second.interval phase.1.0.0) [
      | inl single ↦ by_width (1 + half_bits edge.interval) second.interval 1 3 (ap half_bits single) (ap (λ n. n + 1) at)
      | inr double ↦ absurd (omega (arith, phase.1.0.1 double, at))
    ] in
    let on : 2 + half_bits second.interval ≡ 3 = ap (λ n. n + half_bits second.interval) (sym at) ∙ at2 in
    dropped (bits_after 1 (edge ∷ second ∷ later)) (bits_after 3 later) (no_bit 1 2 edge (second ∷ later) at refl ∙ bit_3 2 second later on (starts.1.0 at2))

second_low : (later : List Change) → InPhase 1 later → StartsLow 1 later → 1 ≤ length (bits_after 1 later) → bits_after 1 later ≡ false ∷ drop 1 (bits_after 1 later)
second_low [] phase starts some = absurd (omega (arith, some, none_at_1))
second_low (edge ∷ later) phase starts some = second_by edge later (step_cases edge.interval phase.0.0) phase starts some

-- an edge at half-bit 3 is a rise where the second bit is 0
late_low : (place : ℕ) (edges : List Change) → 3 ≤ place → AreSteps edges → StartsLow place edges
late_low place [] late steps = tt
late_low place (edge ∷ later) late steps =
    ((λ at. absurd (omega (arith, at, late, step_grows edge.interval steps.0))), late_low (place + half_bits edge.interval) later (omega (arith, late)) steps.1)

said_0 : (place : ℕ) (edge : Change) (later : List Change) (rest : List Bool) → place + half_bits edge.interval ≡ 3 → bits_after place (edge ∷ later) ≡ false ∷ rest → edge.level ≡ true
unfolding bits_after
said_0 place edge later rest three e = by_level_of edge.level (rw three at e)
  where
    by_level_of : (level : Bool) → not level ∷ bits_after 3 later ≡ false ∷ rest → level ≡ true
    by_level_of true e = refl
    by_level_of false e = absurd cc

starts_by : (edge : Change) (later : List Change) (rest : List Bool) → (edge.interval ≡ One) ⊎ (edge.interval ≡ Two) → InPhase 1 (edge ∷ later) → bits_after 1 (edge ∷ later) ≡ false ∷ rest → StartsLow 1 (edge ∷ later)
starts_by edge later rest (inr two) phase e =
    let at : 1 + half_bits edge.interval ≡ 3 = by_width 1 edge.interval 2 3 (ap half_bits two) refl in
    ((λ is. said_0 1 edge later rest at e), late_low (1 + half_bits edge.interval) later (omega (arith, at)) (steps_of_phase (1 + half_bits edge.interval) later phase.1))
starts_by edge [] rest (inl one) phase e =
    let at : 1 + half_bits edge.interval ≡ 2 = by_width 1 edge.interval 1 2 (ap half_bits one) refl in
    ((λ is. absurd (omega (arith, is, at))), tt)
starts_by edge (second ∷ later) rest (inl one) phase e =
    let at : 1 + half_bits edge.interval ≡ 2 = by_width 1 edge.interval 1 2 (ap half_bits one) refl in
    let at2 : (1 + half_bits edge.interval) + half_bits second.interval ≡ 3 = elim (step_cases second.interval phase.1.0.0) [
      | inl single ↦ by_width (1 + half_bits edge.interval) second.interval 1 3 (ap half_bits single) (ap (λ n. n + 1) at)
      | inr double ↦ absurd (omega (arith, phase.1.0.1 double, at))
    ] in
    let on : 2 + half_bits second.interval ≡ 3 = ap (λ n. n + half_bits second.interval) (sym at) ∙ at2 in (
      (λ is. absurd (omega (arith, is, at))),
      (
        (λ is. said_0 2 second later rest on (sym (no_bit 1 2 edge (second ∷ later) at refl) ∙ e)),
        late_low ((1 + half_bits edge.interval) + half_bits second.interval) later (omega (arith, at2)) (steps_of_phase ((1 + half_bits edge.interval) + half_bits second.interval) later phase.1.1),
      ),
    )

starts_of : (later : List Change) (rest : List Bool) → InPhase 1 later → bits_after 1 later ≡ false ∷ rest → StartsLow 1 later
starts_of [] rest phase e = tt
starts_of (edge ∷ later) rest phase e = starts_by edge later rest (step_cases edge.interval phase.0.0) phase e

last_level : (first : Change) (later : List Change) → (last_of first later).level ≡ level_after first.level later
last_level first [] = refl
last_level first (edge ∷ later) = last_level edge later

-- ---- good bursts are frames
pub front_of_waveform : (bits : List Bool) → waveform (false ∷ bits) ≡ 1 ∷ changed_at 2 true (levels_of bits ++ false ∷ [])
unfolding waveform changed_at
front_of_waveform bits = refl

pub good_is_frame : (s : Settings) (first : Change) (later : List Change) (place : ℕ) (payload : Payload) → has_start later ≡ false → Alternate first.level later
    → judged s first later ≡ Good place payload → (place ≡ (last_of first later).number) × IsFrameBurst s first later payload
unfolding judged
good_is_frame s first later place payload loud alternate e =
    let n = bit_count s in
    let w = payload_width s.parts in
    let parts = whole_of (edge_fault n first later) (concluded s (has_place (2 * n - 1) 1 later) (last_of first later) (burst_bits first later)) place payload e in
    let end = concluded_of s (has_place (2 * n - 1) 1 later) (last_of first later) (burst_bits first later) place payload parts.1 in
    let risen = rise_of n first later first.level refl parts.0 in
    let walked = are_unbroken n 1 true later loud risen.1 in
    let good = checked_of s (last_of first later).number (drop 2 (burst_bits first later)) place payload end.good in
    let far : 2 * n - 1 ≤ place_after 1 later = has_reached (2 * n - 1) 1 later end.whole in
    let near : place_after 1 later ≤ 2 * n = walked.within (omega arith) in
    let count : length (bits_after 1 later) ≡ n - 1 = omega (arith, count_bits 1 later walked.phase, far, near) in
    let rest = drop 1 (bits_after 1 later) in
    let bits : bits_after 1 later ≡ false ∷ rest = second_low later walked.phase walked.starts (omega (arith, count)) in
    let long : length rest ≡ w + check_width s.check = omega (arith, ap length bits, count) in
    let framed_rest : rest ≡ take w rest ++ bits_of (check_width s.check) (check_number s.check (take w rest)) = checks-framed s.check rest w long good.right in
    let fields : payload_bits s.parts payload ≡ take w rest = ap (payload_bits s.parts) (sym good.payload_is) ∙ payload_bits-payload_of s.parts rest (omega (arith, long)) in
    let frame : frame_of s payload ≡ false ∷ bits_after 1 later =
    ap (framed s.check) fields ∙ ap (λ l. false ∷ false ∷ l) (sym framed_rest) ∙ ap (λ l. false ∷ l) (sym bits) in
    let low : level_after true later ≡ false = ap (λ l. level_after l later) (sym risen.0) ∙ sym (last_level first later) ∙ end.low in
    let walk = forward 1 true later (subst (λ (l : Bool). Alternate l later) risen.0 alternate) walked.phase low in (
      sym good.place_is,
      record {
        fits = subst (λ (p : Payload). Fits s.parts p) good.payload_is (fits-payload_of s.parts rest (omega (arith, long)));
        rises = risen.0;
        steps = steps_of_phase 1 later walked.phase;
        places = ap (λ l. 1 ∷ l) (walk.at_middle refl) ∙ sym (ap waveform frame ∙ front_of_waveform (bits_after 1 later));
      },
    )

-- ---- frames are good
pub length-framed : (s : Settings) (payload : Payload) → length (payload_bits s.parts payload ++ bits_of (check_width s.check) (check_number s.check (payload_bits s.parts payload))) ≡ payload_width s.parts + check_width s.check
length-framed s payload =
    let fields = payload_bits s.parts payload in
    let tail = bits_of (check_width s.check) (check_number s.check fields) in
    length-append fields tail ∙ ap₂ (λ a b. a + b) (length-payload_bits s.parts payload) (length-bits_of (check_width s.check) (check_number s.check fields))

right_check : (s : Settings) (number : ℕ) (payload : Payload) → Fits s.parts payload
    → checked s number (payload_bits s.parts payload ++ bits_of (check_width s.check) (check_number s.check (payload_bits s.parts payload))) ≡ Good number payload
unfolding checked
right_check s number payload fits =
    let fields = payload_bits s.parts payload in
    let tail = bits_of (check_width s.check) (check_number s.check fields) in
    let both = framed-checks s.check fields (payload_width s.parts) (length-payload_bits s.parts payload) in
    let test : nat_eq (number_of (drop (payload_width s.parts) (fields ++ tail))) (check_number s.check (take (payload_width s.parts) (fields ++ tail))) ≡ true =
    eq-eqb _ _ (both.1 ∙ ap (check_number s.check) (sym both.0)) in
    rw test (ap (Good number) (payload_of-payload_bits s.parts payload tail fits))

pub frame_is_good : (s : Settings) (first : Change) (later : List Change) (payload : Payload) → Alternate first.level later
    → IsFrameBurst s first later payload → judged s first later ≡ Good (last_of first later).number payload
unfolding judged
frame_is_good s first later payload alternate h =
    let n = bit_count s in
    let fields = payload_bits s.parts payload in
    let rest = fields ++ bits_of (check_width s.check) (check_number s.check fields) in
    let places : places_after 1 later ≡ changed_at 2 true (levels_of (false ∷ rest) ++ false ∷ []) = cc_tail (h.places ∙ front_of_waveform (false ∷ rest)) in
    let said = backward (false ∷ rest) 1 true later refl (subst (λ (l : Bool). Alternate l later) h.rises alternate) h.steps places in
    let count : (place_after 1 later + 1) / 2 ≡ n = omega (arith, count_bits 1 later said.phase, ap length said.bits_are, length-framed s payload) in
    let none : fault_after n 1 later ≡ None = no_fault n 1 true later said.phase (starts_of later rest said.phase said.bits_are) (omega (arith, count)) (λ e. said.low) in
    let fault : edge_fault n first later ≡ None = rw h.rises none in
    let whole : has_place (2 * n - 1) 1 later ≡ true = reached (2 * n - 1) 1 later (omega arith) said.phase (omega arith) (omega (arith, count)) in
    let low : (last_of first later).level ≡ false = last_level first later ∙ ap (λ l. level_after l later) h.rises ∙ said.low in
    let bits : burst_bits first later ≡ false ∷ false ∷ rest = ap₂ (λ l b. not l ∷ b) h.rises said.bits_are in
    rw (fault, whole, low, bits) (right_check s (last_of first later).number payload h.fits)
  where
    cc_tail : 1 ∷ places_after 1 later ≡ 1 ∷ changed_at 2 true (levels_of (false ∷ (payload_bits s.parts payload ++ bits_of (check_width s.check) (check_number s.check (payload_bits s.parts payload)))) ++ false ∷ [])
        → places_after 1 later ≡ changed_at 2 true (levels_of (false ∷ (payload_bits s.parts payload ++ bits_of (check_width s.check) (check_number s.check (payload_bits s.parts payload)))) ++ false ∷ [])
    cc_tail e = cc
