-- What a burst says, from what is kept of it.
use Rattle.std.proofs.Common.{◌≡◌, ℕ, ◌-◌, ◌*◌, ◌<◌, ◌≤◌, Bool, true, false, nat_le, None, Some, List, take, drop, refl, sym, ◌∙◌, ap, arith}
use Rattle.std.proofs.lemmas.Bool.Decides.{nat_tests}
use Rattle.std.proofs.lemmas.Bool.{ne_eqb, eq-eqb}
use Rattle.link_math.specs.Division.{number_of}
use Rattle.psi5_frame.specs.Frames.{check_number, payload_of}
use Rattle.line_base.specs.declared.rule.Rule.TheVariants as rule
use Rattle.psi5_frame.specs.declared.burst.Burst.TheVariants.{Good, Bad}
use Rattle.psi5_frame.specs.Setup.{Settings, bit_count, payload_width}
use Rattle.psi5_frame.specs.Edges.{Change}
use Rattle.psi5_frame.specs.Bursts.{has_place, last_of, edge_fault, burst_bits, concluded, judged, judged_by, checked, Violation}
use Rattle.psi5_frame.specs.Kept.{IsSound}

pub judged-violated : (s : Settings) (first : Change) (later : List Change) (violation : Violation) → edge_fault (bit_count s) first later ≡ Some violation → judged s first later ≡ Bad violation.place violation.rule
unfolding judged
judged-violated s first later violation e =
    ap (λ f. judged_by f (concluded s (has_place (2 * bit_count s - 1) 1 later) (last_of first later) (burst_bits first later))) e

pub judged-sound : (s : Settings) (first : Change) (later : List Change) → edge_fault (bit_count s) first later ≡ None
    → judged s first later ≡ concluded s (has_place (2 * bit_count s - 1) 1 later) (last_of first later) (burst_bits first later)
unfolding judged
judged-sound s first later e =
    ap (λ f. judged_by f (concluded s (has_place (2 * bit_count s - 1) 1 later) (last_of first later) (burst_bits first later))) e

below_false : (a b : ℕ) → b < a → nat_le a b ≡ false
below_false a b h = grind (arith, nat_tests)

reached_true : (a b : ℕ) → a ≤ b → nat_le a b ≡ true
reached_true a b h = grind (arith, nat_tests)

pub judged-few : (s : Settings) (number place : ℕ) (level : Bool) (said : List Bool) (first : Change) (later : List Change)
    → IsSound (bit_count s) number level place said first later → place < 2 * bit_count s - 1 → judged s first later ≡ Bad number rule.TooFew
judged-few s number place level said first later h few =
    judged-sound s first later h.unbroken ∙ rw (h.whole_is, below_false (2 * bit_count s - 1) place few, h.number_is) refl

pub judged-high : (s : Settings) (number place : ℕ) (level : Bool) (said : List Bool) (first : Change) (later : List Change)
    → IsSound (bit_count s) number level place said first later → 2 * bit_count s - 1 ≤ place → level ≡ true → judged s first later ≡ Bad number rule.EndsHigh
judged-high s number place level said first later h enough high =
    judged-sound s first later h.unbroken ∙ rw (h.whole_is, reached_true (2 * bit_count s - 1) place enough, h.level_is, high, h.number_is) refl

pub judged-checked : (s : Settings) (number place : ℕ) (level : Bool) (said : List Bool) (first : Change) (later : List Change)
    → IsSound (bit_count s) number level place said first later → 2 * bit_count s - 1 ≤ place → level ≡ false → judged s first later ≡ checked s number (drop 2 said)
judged-checked s number place level said first later h enough low =
    judged-sound s first later h.unbroken ∙ rw (h.whole_is, reached_true (2 * bit_count s - 1) place enough, h.level_is, low, h.number_is, h.bits_are) refl

-- ---- the check of a frame

pub checked-bad : (s : Settings) (place a b : ℕ) (bits fields check : List Bool) → a ≡ number_of check → b ≡ check_number s.check fields
    → fields ≡ take (payload_width s.parts) bits → check ≡ drop (payload_width s.parts) bits → (a ≡ b → ⊥) → checked s place bits ≡ Bad place rule.Psi5Check
unfolding checked
checked-bad s place a b bits fields check is_a is_b front back differ =
    let left : number_of (drop (payload_width s.parts) bits) ≡ a = ap number_of (sym back) ∙ sym is_a in
    let right : check_number s.check (take (payload_width s.parts) bits) ≡ b = ap (check_number s.check) (sym front) ∙ sym is_b in
    rw (left, right, ne_eqb a b differ) refl

pub checked-good : (s : Settings) (place a b : ℕ) (bits fields check : List Bool) → a ≡ number_of check → b ≡ check_number s.check fields
    → fields ≡ take (payload_width s.parts) bits → check ≡ drop (payload_width s.parts) bits → a ≡ b → checked s place bits ≡ Good place (payload_of s.parts bits)
unfolding checked
checked-good s place a b bits fields check is_a is_b front back same =
    let left : number_of (drop (payload_width s.parts) bits) ≡ a = ap number_of (sym back) ∙ sym is_a in
    let right : check_number s.check (take (payload_width s.parts) bits) ≡ b = ap (check_number s.check) (sym front) ∙ sym is_b in
    rw (left, right, eq-eqb a b same) refl
