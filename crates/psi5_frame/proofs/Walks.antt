-- Edges in phase, the bits that they say, and the waveform of these bits.
--     forward      the places of edges in phase are those at which the levels of their bits change
--     backward      edges at these places say these bits and are in phase
--     are_unbroken, no_fault      edges that violate no rule are in phase, and the other way round
--     reached, has_reached      a place is passed by edges in phase only where one of them is at it
--     count_bits      how many bits they say
use Rattle.std.proofs.Common.{◌≡◌, ℕ, suc, ◌+◌, ◌*◌, ◌/◌, ◌%◌, ◌<◌, ◌≤◌, ◌⊎◌, Bool, true, false, ◌&&◌, ◌||◌, not, nat_eq, nat_lt, if◌then◌else◌, Option, None, Some, List, [], ◌∷◌, ◌++◌, length, refl, sym, ◌∙◌, ap, subst, inl, inr, le_trans, arith}
use Rattle.std.proofs.lemmas.Bool.Decides.{nat_tests}
use Rattle.std.proofs.lemmas.Bool.{cases_order, eq-eqb, eqb-true, ne_eqb, true≢false, false≢true}
use Rattle.std.proofs.lemmas.List.{length-append}
use Rattle.line_base.specs.declared.rule.Rule.{Rule}
use Rattle.line_base.specs.declared.rule.Rule.TheVariants as rule
use Rattle.link_math.specs.declared.manchester.Halves.{Halves}
use Rattle.link_math.specs.declared.manchester.Halves.TheVariants.{Short, One, Two, Quiet}
use Rattle.psi5_frame.specs.Intervals.{half_bits, is_quiet}
use Rattle.psi5_frame.specs.Edges.{Change}
use Rattle.psi5_frame.specs.Frames.{levels_of, changed_at}
use Rattle.psi5_frame.specs.Waveforms.{IsStep, AreSteps, Alternate, places_after}
use Rattle.psi5_frame.specs.Bursts.{is_even, place_after, has_place, bit_at, bits_after, fault_at, Violation, first_of, fault_after, has_start, begins}
use Rattle.psi5_frame.proofs.Growing.{unbroken, length_bit_at, even_bit, odd_bit}

-- ---- forward
-- the levels that these edges' bits have, and the low level behind them
abbrev pub levels_after : ℕ → List Change → List Bool
levels_after place edges = levels_of (bits_after place edges) ++ false ∷ []

-- each interval is one half-bit, or two from the middle of a bit
abbrev pub InPhase : ℕ → List Change → Type 0
InPhase place [] = Unit {0}
InPhase place (edge ∷ later) = (IsStep edge.interval × (edge.interval ≡ Two → place % 2 ≡ 1)) × InPhase (place + half_bits edge.interval) later

-- the level after these edges
abbrev pub level_after : Bool → List Change → Bool
level_after level [] = level
level_after level (edge ∷ later) = level_after edge.level later

-- what stands behind the middle of a bit, and between two bits
abbrev pub AtMiddle : ℕ → Bool → List Change → Type 0
AtMiddle place level edges = places_after place edges ≡ changed_at (suc place) level (levels_after place edges)

pub record BetweenBits (place : ℕ) (level : Bool) (edges : List Change) : Type 0 where
  pub rest : List Bool
  pub levels : levels_after place edges ≡ level ∷ rest
  pub places : places_after place edges ≡ changed_at (suc place) level rest

-- the levels of the bits, at an edge between two bits, and at one in the middle of a bit
levels-between : (place next : ℕ) (edge : Change) (later : List Change) → place + half_bits edge.interval ≡ next → next % 2 ≡ 0
    → levels_after place (edge ∷ later) ≡ levels_after next later
unfolding bits_after
levels-between place next edge later e even = rw (e, even_bit next edge.level even) refl

levels-middle : (place next : ℕ) (edge : Change) (later : List Change) → place + half_bits edge.interval ≡ next → next % 2 ≡ 1
    → levels_after place (edge ∷ later) ≡ not edge.level ∷ not (not edge.level) ∷ levels_after next later
unfolding bits_after
levels-middle place next edge later e odd = rw (e, odd_bit next edge.level odd) refl

places-step : (place next : ℕ) (edge : Change) (later : List Change) → place + half_bits edge.interval ≡ next → places_after place (edge ∷ later) ≡ next ∷ places_after next later
unfolding places_after
places-step place next edge later e = rw e refl

-- a half-bit of another level, or of the same
changed_at-other : (place : ℕ) (level : Bool) (rest : List Bool) → changed_at place level (not level ∷ rest) ≡ place ∷ changed_at (suc place) (not level) rest
unfolding changed_at
changed_at-other place true rest = refl
changed_at-other place false rest = refl

changed_at-same : (place : ℕ) (level : Bool) (rest : List Bool) → changed_at place level (level ∷ rest) ≡ changed_at (suc place) level rest
unfolding changed_at
changed_at-same place true rest = refl
changed_at-same place false rest = refl

twice_not : (level : Bool) → not (not level) ≡ level
twice_not true = refl
twice_not false = refl

-- one half-bit from the middle of a bit: the line changed_at between two bits
middle_one : (place : ℕ) (level : Bool) (edge : Change) (later : List Change) → place % 2 ≡ 1 → place + half_bits edge.interval ≡ suc place → edge.level ≡ not level
    → BetweenBits (suc place) (not level) later → AtMiddle place level (edge ∷ later)
middle_one place level edge later odd e other h =
    places-step place (suc place) edge later e
    ∙ ap (λ l. suc place ∷ l) h.places
    ∙ sym (ap (changed_at (suc place) level) (levels-between place (suc place) edge later e (omega arith) ∙ h.levels) ∙ changed_at-other (suc place) level h.rest)

-- two half-bits from the middle of a bit: the next bit is another one
middle_two : (place : ℕ) (level : Bool) (edge : Change) (later : List Change) → place % 2 ≡ 1 → place + half_bits edge.interval ≡ suc (suc place) → edge.level ≡ not level
    → AtMiddle (suc (suc place)) (not level) later → AtMiddle place level (edge ∷ later)
middle_two place level edge later odd e other h =
    let next = suc (suc place) in
    let rest = levels_after next later in
    let levels : levels_after place (edge ∷ later) ≡ level ∷ not level ∷ rest =
    levels-middle place next edge later e (omega arith) ∙ rw (other, twice_not level) refl in
    places-step place next edge later e
    ∙ ap (λ l. next ∷ l) h
    ∙ sym (ap (changed_at (suc place) level) levels ∙ changed_at-same (suc place) level (not level ∷ rest) ∙ changed_at-other next level rest)

-- one half-bit from between two bits to the middle of the next
between_one : (place : ℕ) (level : Bool) (edge : Change) (later : List Change) → place % 2 ≡ 0 → place + half_bits edge.interval ≡ suc place → edge.level ≡ not level
    → AtMiddle (suc place) (not level) later → BetweenBits place level (edge ∷ later)
between_one place level edge later even e other h =
    let rest = levels_after (suc place) later in
    record {
      rest = not level ∷ rest;
      levels = levels-middle place (suc place) edge later e (omega arith) ∙ rw (other, twice_not level) refl;
      places = places-step place (suc place) edge later e ∙ ap (λ l. suc place ∷ l) h ∙ sym (changed_at-other (suc place) level rest);
    }

pub step_cases : (interval : Halves) → IsStep interval → (interval ≡ One) ⊎ (interval ≡ Two)
step_cases Short never = absurd never
step_cases One is = inl refl
step_cases Two is = inr refl
step_cases Quiet never = absurd never

pub record Forward (place : ℕ) (level : Bool) (edges : List Change) : Type 0 where
  pub at_middle : place % 2 ≡ 1 → AtMiddle place level edges
  pub between : place % 2 ≡ 0 → BetweenBits place level edges

pub by_width : (place : ℕ) (interval : Halves) (k next : ℕ) → half_bits interval ≡ k → place + k ≡ next → place + half_bits interval ≡ next
by_width place interval k next w e = ap (λ n. place + n) w ∙ e

forward_by : (place : ℕ) (level : Bool) (edge : Change) (later : List Change) → edge.level ≡ not level → (edge.interval ≡ One) ⊎ (edge.interval ≡ Two)
    → (edge.interval ≡ Two → place % 2 ≡ 1) → Forward (place + half_bits edge.interval) edge.level later → Forward place level (edge ∷ later)
forward_by place level edge later other (inl one) phase h =
    let e : place + half_bits edge.interval ≡ suc place = by_width place edge.interval 1 (suc place) (ap half_bits one) (omega arith) in
    let there : Forward (suc place) (not level) later = rw (sym e, sym other) h in
    record {
      at_middle = λ odd. middle_one place level edge later odd e other (there.between (omega arith));
      between = λ even. between_one place level edge later even e other (there.at_middle (omega arith));
    }
forward_by place level edge later other (inr two) phase h =
    let e : place + half_bits edge.interval ≡ suc (suc place) = by_width place edge.interval 2 (suc (suc place)) (ap half_bits two) (omega arith) in
    let there : Forward (suc (suc place)) (not level) later = rw (sym e, sym other) h in
    record {
      at_middle = λ odd. middle_two place level edge later odd e other (there.at_middle (omega arith));
      between = λ even. absurd (omega (arith, phase two, even));
    }

-- the places of edges that are in phase are those at which the levels of their bits change
pub forward : (place : ℕ) (level : Bool) (edges : List Change) → Alternate level edges → InPhase place edges → level_after level edges ≡ false → Forward place level edges
unfolding places_after bits_after changed_at
forward place level [] alternate phase low = record {
  at_middle = λ odd. rw low refl;
  between = λ even. record { rest = []; levels = ap (λ l. l ∷ []) (sym low); places = refl };
}
forward place level (edge ∷ later) alternate phase low =
    let next = place + half_bits edge.interval in
    let rest : Forward next edge.level later = forward next edge.level later alternate.1 phase.1 low in
    forward_by place level edge later alternate.0 (step_cases edge.interval phase.0.0) phase.0.1 rest

-- ---- backward
-- what edges at the places of a waveform say
pub record Says (place : ℕ) (level : Bool) (edges : List Change) (bits : List Bool) : Type 0 where
  pub bits_are : bits_after place edges ≡ bits
  pub phase : InPhase place edges
  pub low : level_after level edges ≡ false

nil_cons : {A : Type 0} (x : A) (xs : List A) {C : Type 0} → x ∷ xs ≡ [] → C
nil_cons x xs e = absurd cc

head_same : (x y : ℕ) (xs ys : List ℕ) → x ∷ xs ≡ y ∷ ys → x ≡ y
head_same x y xs ys e = cc

tail_same : (x y : ℕ) (xs ys : List ℕ) → x ∷ xs ≡ y ∷ ys → xs ≡ ys
tail_same x y xs ys e = cc

-- an edge one or two half-bits on
pub one_step : (interval : Halves) → IsStep interval → half_bits interval ≡ 1 → interval ≡ One
one_step Short is w = absurd is
one_step One is w = refl
one_step Two is w = absurd (omega arith)
one_step Quiet is w = absurd is

pub not_two : (interval : Halves) → interval ≡ One → interval ≡ Two → ⊥
not_two interval one two = let e : One ≡ Two = sym one ∙ two in absurd cc

added : (place k w : ℕ) → place + w ≡ place + k → w ≡ k
added place k w e = omega arith

last_fall : (place : ℕ) (level : Bool) (edges : List Change) → place % 2 ≡ 1 → Alternate level edges → AreSteps edges → places_after place edges ≡ changed_at (suc place) level (false ∷ []) → Says place level edges []
unfolding places_after bits_after changed_at
last_fall place false [] odd alternate steps e = record { bits_are = refl; phase = tt; low = refl }
last_fall place true [] odd alternate steps e = absurd cc
last_fall place false (edge ∷ later) odd alternate steps e = absurd cc
last_fall place true (edge ∷ []) odd alternate steps e =
    let at : place + half_bits edge.interval ≡ suc place = head_same (place + half_bits edge.interval) (suc place) [] [] e in
    record {
      bits_are = rw (at, even_bit (suc place) edge.level (omega arith)) refl;
      phase = ((steps.0, λ two. odd), tt);
      low = alternate.0;
    }
last_fall place true (edge ∷ other ∷ later) odd alternate steps e = nil_cons _ _ (tail_same _ (suc place) _ [] e)

-- what is to be shown of edges at the places of these bits
abbrev pub Backward : List Bool → Type 0
Backward bits = (place : ℕ) (level : Bool) (edges : List Change) → place % 2 ≡ 1 → Alternate level edges → AreSteps edges
    → places_after place edges ≡ changed_at (suc place) level (levels_of bits ++ false ∷ []) → Says place level edges bits

back_same : (bits : List Bool) (place : ℕ) (level : Bool) (edges : List Change) → Backward bits → place % 2 ≡ 1 → Alternate level edges → AreSteps edges
    → places_after place edges ≡ suc (suc place) ∷ changed_at (suc (suc (suc place))) (not level) (levels_of bits ++ false ∷ []) → Says place level edges (level ∷ bits)
unfolding places_after bits_after
back_same bits place level [] rec odd alternate steps e = absurd cc
back_same bits place level (edge ∷ later) rec odd alternate steps e =
    let next = suc (suc place) in
    let at : place + half_bits edge.interval ≡ next = head_same (place + half_bits edge.interval) next _ _ e in
    let rest : places_after next later ≡ changed_at (suc next) (not level) (levels_of bits ++ false ∷ []) =
    ap (λ n. places_after n later) (sym at) ∙ tail_same (place + half_bits edge.interval) next _ _ e in
    let h = rec next (not level) later (omega arith) (subst (λ (l : Bool). Alternate l later) alternate.0 alternate.1) steps.1 rest in
    record {
      bits_are = rw (at, odd_bit next edge.level (omega arith), alternate.0, twice_not level, h.bits_are) refl;
      phase = ((steps.0, λ two. odd), subst (λ (n : ℕ). InPhase n later) (sym at) h.phase);
      low = subst (λ (l : Bool). level_after l later ≡ false) (sym alternate.0) h.low;
    }

back_other : (bits : List Bool) (place : ℕ) (level : Bool) (edges : List Change) → Backward bits → place % 2 ≡ 1 → Alternate level edges → AreSteps edges
    → places_after place edges ≡ suc place ∷ suc (suc place) ∷ changed_at (suc (suc (suc place))) level (levels_of bits ++ false ∷ []) → Says place level edges (not level ∷ bits)
unfolding places_after bits_after
back_other bits place level [] rec odd alternate steps e = absurd cc
back_other bits place level (first ∷ []) rec odd alternate steps e = nil_cons _ _ (sym (tail_same _ (suc place) _ _ e))
back_other bits place level (first ∷ second ∷ later) rec odd alternate steps e =
    let middle = suc (suc place) in
    let at : place + half_bits first.interval ≡ suc place = head_same (place + half_bits first.interval) (suc place) _ _ e in
    let tail = tail_same (place + half_bits first.interval) (suc place) _ _ e in
    let at2 : (place + half_bits first.interval) + half_bits second.interval ≡ middle = head_same _ middle _ _ tail in
    let on : suc place + half_bits second.interval ≡ middle = ap (λ n. n + half_bits second.interval) (sym at) ∙ at2 in
    let rest : places_after middle later ≡ changed_at (suc middle) level (levels_of bits ++ false ∷ []) =
    ap (λ n. places_after n later) (sym at2) ∙ tail_same _ middle _ _ tail in
    let levels : second.level ≡ level = alternate.1.0 ∙ ap not alternate.0 ∙ twice_not level in
    let h = rec middle level later (omega arith) (subst (λ (l : Bool). Alternate l later) levels alternate.1.1) steps.1.1 rest in
    let one : second.interval ≡ One = one_step second.interval steps.1.0 (added (suc place) 1 (half_bits second.interval) (on ∙ omega arith)) in
    record {
      bits_are = rw (at, even_bit (suc place) first.level (omega arith), on, odd_bit middle second.level (omega arith), levels, h.bits_are) refl;
      phase = ((steps.0, λ two. odd), ((steps.1.0, λ two. absurd (not_two second.interval one two)), subst (λ (n : ℕ). InPhase n later) (sym at2) h.phase));
      low = subst (λ (l : Bool). level_after l later ≡ false) (sym levels) h.low;
    }

pub backward : (bits : List Bool) → Backward bits
backward [] place level edges odd alternate steps e = last_fall place level edges odd alternate steps e
backward (true ∷ bits) place true edges odd alternate steps e =
    back_same bits place true edges (backward bits) odd alternate steps (e ∙ changed_at-same (suc place) true (false ∷ (levels_of bits ++ false ∷ [])) ∙ changed_at-other (suc (suc place)) true (levels_of bits ++ false ∷ []))
backward (false ∷ bits) place false edges odd alternate steps e =
    back_same bits place false edges (backward bits) odd alternate steps (e ∙ changed_at-same (suc place) false (true ∷ (levels_of bits ++ false ∷ [])) ∙ changed_at-other (suc (suc place)) false (levels_of bits ++ false ∷ []))
backward (true ∷ bits) place false edges odd alternate steps e =
    back_other bits place false edges (backward bits) odd alternate steps (e ∙ changed_at-other (suc place) false (false ∷ (levels_of bits ++ false ∷ [])) ∙ ap (λ l. suc place ∷ l) (changed_at-other (suc (suc place)) true (levels_of bits ++ false ∷ [])))
backward (false ∷ bits) place true edges odd alternate steps e =
    back_other bits place true edges (backward bits) odd alternate steps (e ∙ changed_at-other (suc place) true (true ∷ (levels_of bits ++ false ∷ [])) ∙ ap (λ l. suc place ∷ l) (changed_at-other (suc (suc place)) false (levels_of bits ++ false ∷ [])))

-- ---- faults and places
-- a fall at half-bit 3 comes nowhere
abbrev pub StartsLow : ℕ → List Change → Type 0
StartsLow place [] = Unit {0}
StartsLow place (edge ∷ later) = (place + half_bits edge.interval ≡ 3 → edge.level ≡ true) × StartsLow (place + half_bits edge.interval) later

unfaulted : (number : ℕ) (here : Option Rule) (later : Option Violation) → first_of number here later ≡ None → (here ≡ None) × (later ≡ None)
unfaulted number None later e = (refl, e)
unfaulted number (Some rule) later e = absurd cc

-- what it means that edges break no rule
pub record AreUnbroken (bits place : ℕ) (level : Bool) (edges : List Change) : Type 0 where
  pub phase : InPhase place edges
  pub starts : StartsLow place edges
  pub within : place ≤ 2 * bits → place_after place edges ≤ 2 * bits

loud_step : (interval : Halves) → is_quiet interval ≡ false → 1 ≤ half_bits interval → IsStep interval
loud_step Short loud some = absurd (omega arith)
loud_step One loud some = tt
loud_step Two loud some = tt
loud_step Quiet loud some = absurd cc

or_parts : (a b : Bool) → (a || b) ≡ false → (a ≡ false) × (b ≡ false)
or_parts true b e = absurd cc
or_parts false b e = (refl, e)

pub are_unbroken : (bits place : ℕ) (level : Bool) (edges : List Change) → has_start edges ≡ false → fault_after bits place edges ≡ None → AreUnbroken bits place level edges
unfolding has_start fault_after place_after
are_unbroken bits place level [] loud none = record { phase = tt; starts = tt; within = λ few. few }
are_unbroken bits place level (edge ∷ later) loud none =
    let quiet = or_parts (begins edge) (has_start later) loud in
    let parts = unfaulted edge.number (fault_at bits place edge.interval edge.level) (fault_after bits (place + half_bits edge.interval) later) none in
    let here = unbroken bits place edge.interval edge.level quiet.0 parts.0 in
    let rest = are_unbroken bits (place + half_bits edge.interval) edge.level later quiet.1 parts.1 in
    record {
      phase = ((loud_step edge.interval quiet.0 here.some, λ two. here.in_phase (ap half_bits two)), rest.phase);
      starts = (here.starts_low, rest.starts);
      within = λ few. rest.within here.not_long;
    }

-- edges in phase only go on
place_grows : (place : ℕ) (edges : List Change) → place ≤ place_after place edges
unfolding place_after
place_grows place [] = omega arith
place_grows place (edge ∷ later) = omega (arith, place_grows (place + half_bits edge.interval) later)

and_false : (a : Bool) → (a && false) ≡ false
and_false true = refl
and_false false = refl

clear_fault : (bits place : ℕ) (level : Bool) → place ≤ 2 * bits → (place ≡ 2 * bits → level ≡ false) → (place ≡ 3 → level ≡ true)
    → (if nat_eq place 3 && not level then Some rule.StartBit else (if nat_lt (2 * bits) place || (nat_eq place (2 * bits) && level) then Some rule.TooLong else None)) ≡ None
clear_fault bits place true few ends starts =
    let long : nat_lt (2 * bits) place ≡ false = grind (arith, nat_tests) in
    let last : nat_eq place (2 * bits) ≡ false = ne_eqb place (2 * bits) (λ e. true≢false (ends e)) in
    let start : (nat_eq place 3 && false) ≡ false = and_false (nat_eq place 3) in
    rw (start, long, last) refl
clear_fault bits place false few ends starts =
    let long : nat_lt (2 * bits) place ≡ false = grind (arith, nat_tests) in
    let start : nat_eq place 3 ≡ false = ne_eqb place 3 (λ e. false≢true (starts e)) in
    let last : (nat_eq place (2 * bits) && false) ≡ false = and_false (nat_eq place (2 * bits)) in
    rw (start, long, last) refl

pub no_fault_at : (bits place : ℕ) (interval : Halves) (level : Bool) → IsStep interval → (interval ≡ Two → place % 2 ≡ 1) → place + half_bits interval ≤ 2 * bits
    → (place + half_bits interval ≡ 2 * bits → level ≡ false) → (place + half_bits interval ≡ 3 → level ≡ true) → fault_at bits place interval level ≡ None
no_fault_at bits place Short level is phase few ends starts = absurd is
no_fault_at bits place One level is phase few ends starts = clear_fault bits (place + 1) level few ends starts
no_fault_at bits place Two level is phase few ends starts =
    let odd : is_even place ≡ false = grind (arith, nat_tests, phase refl) in
    rw odd (clear_fault bits (place + 2) level few ends starts)
no_fault_at bits place Quiet level is phase few ends starts = absurd is

pub step_grows : (interval : Halves) → IsStep interval → 1 ≤ half_bits interval
step_grows Short is = absurd is
step_grows One is = omega arith
step_grows Two is = omega arith
step_grows Quiet is = absurd is

-- an edge at the frame's end is the last
edge_ends : (bits next : ℕ) (level : Bool) (later : List Change) → InPhase next later → place_after next later ≤ 2 * bits
    → (place_after next later ≡ 2 * bits → level_after level later ≡ false) → next ≡ 2 * bits → level ≡ false
unfolding place_after
edge_ends bits next level [] phase few ends e = ends e
edge_ends bits next level (edge ∷ later) phase few ends e =
    absurd (omega (arith, few, e, step_grows edge.interval phase.0.0, place_grows (next + half_bits edge.interval) later))

-- edges in phase break no rule where they end in time
pub no_fault : (bits place : ℕ) (level : Bool) (edges : List Change) → InPhase place edges → StartsLow place edges → place_after place edges ≤ 2 * bits
    → (place_after place edges ≡ 2 * bits → level_after level edges ≡ false) → fault_after bits place edges ≡ None
unfolding fault_after place_after
no_fault bits place level [] phase starts few ends = refl
no_fault bits place level (edge ∷ later) phase starts few ends =
    let next = place + half_bits edge.interval in
    let here = no_fault_at bits place edge.interval edge.level phase.0.0 phase.0.1 (le_trans (place_grows next later) few) (edge_ends bits next edge.level later phase.1 few ends) starts.0 in
    rw (here, no_fault bits next edge.level later phase.1 starts.1 few ends) refl

-- ---- the middle of the last bit
passed : (target place : ℕ) (interval : Halves) → target % 2 ≡ 1 → IsStep interval → (interval ≡ Two → place % 2 ≡ 1) → place < target → target < place + half_bits interval → ⊥
passed target place Short odd is phase before above = is
passed target place One odd is phase before above = omega arith
passed target place Two odd is phase before above = omega (arith, phase refl)
passed target place Quiet odd is phase before above = is

pub reached : (target place : ℕ) (edges : List Change) → target % 2 ≡ 1 → InPhase place edges → place < target → target ≤ place_after place edges → has_place target place edges ≡ true
unfolding has_place place_after
reached target place [] odd phase before far = absurd (omega arith)
reached target place (edge ∷ later) odd phase before far = by_order (cases_order (place + half_bits edge.interval) target) (λ below. reached target (place + half_bits edge.interval) later odd phase.1 below far)
  where
    there : (rest : Bool) → place + half_bits edge.interval ≡ target → (nat_eq (place + half_bits edge.interval) target || rest) ≡ true
    there rest e = rw (eq-eqb (place + half_bits edge.interval) target e) refl

    on : (here : Bool) (rest : Bool) → rest ≡ true → (here || rest) ≡ true
    on true rest e = refl
    on false rest e = e

    by_order : (place + half_bits edge.interval ≡ target) ⊎ ((place + half_bits edge.interval < target) ⊎ (target < place + half_bits edge.interval))
        → (place + half_bits edge.interval < target → has_place target (place + half_bits edge.interval) later ≡ true) → (nat_eq (place + half_bits edge.interval) target || has_place target (place + half_bits edge.interval) later) ≡ true
    by_order (inl e) rest = there (has_place target (place + half_bits edge.interval) later) e
    by_order (inr (inl below)) rest = on (nat_eq (place + half_bits edge.interval) target) (has_place target (place + half_bits edge.interval) later) (rest below)
    by_order (inr (inr above)) rest = absurd (passed target place edge.interval odd phase.0.0 phase.0.1 before above)

pub has_reached : (target place : ℕ) (edges : List Change) → has_place target place edges ≡ true → target ≤ place_after place edges
unfolding has_place place_after
has_reached target place [] e = absurd cc
has_reached target place (edge ∷ later) e = by_here (nat_eq (place + half_bits edge.interval) target) refl e (λ rest. has_reached target (place + half_bits edge.interval) later rest)
  where
    by_here : (here : Bool) → nat_eq (place + half_bits edge.interval) target ≡ here → (here || has_place target (place + half_bits edge.interval) later) ≡ true
        → (has_place target (place + half_bits edge.interval) later ≡ true → target ≤ place_after (place + half_bits edge.interval) later) → target ≤ place_after (place + half_bits edge.interval) later
    by_here true h e rest = omega (arith, eqb-true (place + half_bits edge.interval) target h, place_grows (place + half_bits edge.interval) later)
    by_here false h e rest = rest e

-- how many bits the edges say
pub count_bits : (place : ℕ) (edges : List Change) → InPhase place edges → (place + 1) / 2 + length (bits_after place edges) ≡ (place_after place edges + 1) / 2
unfolding bits_after place_after
count_bits place [] phase = omega arith
count_bits place (edge ∷ later) phase =
    let next = place + half_bits edge.interval in
    let rest = count_bits next later phase.1 in
    let long : length (bit_at next edge.level ++ bits_after next later) ≡ next % 2 + length (bits_after next later) =
    length-append (bit_at next edge.level) (bits_after next later) ∙ ap (λ n. n + length (bits_after next later)) (length_bit_at next edge.level) in
    elim (step_cases edge.interval phase.0.0) [
      | inl one ↦ omega (arith, long, rest, by_width place edge.interval 1 (place + 1) (ap half_bits one) refl)
      | inr two ↦ omega (arith, long, rest, by_width place edge.interval 2 (place + 2) (ap half_bits two) refl, phase.0.1 two)
    ]
