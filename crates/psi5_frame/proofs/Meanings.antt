-- What each burst stands for.
--     all-mean      what all bursts of a line's edges say
use Rattle.std.proofs.Common.{◌≡◌, ◌≢◌, ℕ, Bool, true, false, ◌||◌, not, nat_eq, if◌then◌else◌, Option, None, Some, List, [], ◌∷◌, ◌++◌, take, drop, refl, sym, ◌∙◌, ap, ap₂, subst, append_assoc}
use Rattle.std.specs.List.{All}
use Rattle.std.proofs.lemmas.Bool.{eqb-false}
use Rattle.std.proofs.lemmas.List.Elements.{All-cons, All-nil}
use Rattle.line_base.specs.Edges.{NumberedEdge}
use Rattle.line_base.specs.declared.rule.Rule.{Rule}
use Rattle.line_base.specs.declared.rule.Rule.TheVariants as rule
use Rattle.link_math.specs.declared.manchester.Halves.{Halves}
use Rattle.link_math.specs.declared.manchester.Halves.TheVariants.{Short, One, Two, Quiet}
use Rattle.link_math.specs.Division.{number_of}
use Rattle.psi5_frame.specs.declared.burst.Burst.{Burst}
use Rattle.psi5_frame.specs.declared.burst.Burst.TheVariants.{Good, Bad}
use Rattle.psi5_frame.specs.Intervals.{is_quiet}
use Rattle.psi5_frame.specs.Setup.{Settings, bit_count, payload_width}
use Rattle.psi5_frame.specs.Edges.{Change, changes_of}
use Rattle.psi5_frame.specs.Frames.{check_number, payload_of}
use Rattle.psi5_frame.specs.Bursts.{begins, has_start, run_of, judged, all_bursts, edge_fault, fault_after, has_place, last_of, checked, bursts_at_end, Violation}
use Rattle.psi5_frame.specs.Meanings.{IsQuietAfter, IsRead, IsRightUpTo, Means, Violates, said_bits, last_middle}
use Rattle.psi5_frame.proofs.FrameLaws.{good_is_frame}
use Rattle.psi5_frame.proofs.Judged.{judged-violated, judged-sound}
use Rattle.psi5_frame.proofs.Runs.{run_of-cons, run_none}
use Rattle.psi5_frame.proofs.Violations.{are_right, first_wrong, is_reached, not_reached}

-- ---- which bursts are read
quiet_is : (h : Halves) → is_quiet h ≡ true → h ≡ Quiet
quiet_is Short e = absurd cc
quiet_is One e = absurd cc
quiet_is Two e = absurd cc
quiet_is Quiet e = refl

not_quiet : (h : Halves) → is_quiet h ≡ false → h ≢ Quiet
not_quiet h e quiet = differ (sym (ap is_quiet quiet) ∙ e)
  where
    differ : true ≡ false → ⊥
    differ e = cc

or_false : (a b : Bool) → (a || b) ≡ false → (a ≡ false) × (b ≡ false)
or_false true b e = absurd cc
or_false false b e = (refl, e)

all_loud : (edges : List Change) → has_start edges ≡ false → All (λ (edge : Change). edge.interval ≢ Quiet) edges
unfolding has_start
all_loud [] none = All-nil (λ (edge : Change). edge.interval ≢ Quiet)
all_loud (x ∷ edges) none =
    let parts = or_false (begins x) (has_start edges) none in
    All-cons (λ (edge : Change). edge.interval ≢ Quiet) x edges (not_quiet x.interval parts.0) (all_loud edges parts.1)

-- a run, and what comes behind it
record IsParted (edges : List Change) : Type 0 where
  rest : List Change
  parted : edges ≡ run_of edges ++ rest
  loud : has_start (run_of edges) ≡ false
  quiet : IsQuietAfter rest

parted : (edges : List Change) → IsParted edges
unfolding has_start
parted [] = record { rest = []; parted = rw run_none refl; loud = ap has_start run_none; quiet = tt }
parted (x ∷ edges) = by_first (begins x) refl (parted edges)
  where
    by_first : (b : Bool) → begins x ≡ b → IsParted edges → IsParted (x ∷ edges)
    by_first true starts rest =
        let none : run_of (x ∷ edges) ≡ [] = run_of-cons x edges ∙ ap (λ b. if b then [] else x ∷ run_of edges) starts in
        record { rest = x ∷ edges; parted = ap (λ l. l ++ (x ∷ edges)) (sym none); loud = ap has_start none; quiet = quiet_is x.interval starts }
    by_first false loud rest =
        let more : run_of (x ∷ edges) ≡ x ∷ run_of edges = run_of-cons x edges ∙ ap (λ b. if b then [] else x ∷ run_of edges) loud in
        record {
          rest = rest.rest;
          parted = ap (λ l. x ∷ l) rest.parted ∙ ap (λ l. l ++ rest.rest) (sym more);
          loud = ap has_start more ∙ ap₂ (λ a b. a || b) loud rest.loud;
          quiet = rest.quiet;
        }

is_read : (before : List Change) (first : Change) (edges : List Change) → begins first ≡ true → IsRead (before ++ first ∷ edges) first (run_of edges)
is_read before first edges starts =
    let h = parted edges in
    record {
      before = before;
      after = h.rest;
      stands = ap (λ l. before ++ first ∷ l) h.parted;
      quiet_before = quiet_is first.interval starts;
      none_within = all_loud (run_of edges) h.loud;
      quiet_after = h.quiet;
    }

-- ---- what a burst says
-- a burst that is read, and no edge of which violates a rule
record IsUnfaulted (s : Settings) (edges : List Change) (first : Change) (later : List Change) : Type 0 where
  read : IsRead edges first later
  loud : has_start later ≡ false
  rises : first.level ≡ true
  none : edge_fault (bit_count s) first later ≡ None
  none_later : fault_after (bit_count s) 1 later ≡ None

right_up_to : (s : Settings) (edges : List Change) (first : Change) (later : List Change) → IsUnfaulted s edges first later → IsRightUpTo (bit_count s) first later (last_of first later).number
right_up_to s edges first later h = record { right = are_right (bit_count s) first later h.rises h.loud h.none_later; last = refl }

bad-means : (s : Settings) (edges : List Change) (first : Change) (later : List Change) (number : ℕ) (r : Rule) → IsRead edges first later → Violates s first later number r
    → judged s first later ≡ Bad number r → Means s edges (judged s first later)
bad-means s edges first later number r read violates e =
    subst (λ (b : Burst). Means s edges b) (sym e) (record { first = first; later = later; read = read; violates = violates })

-- the end decides
says : (s : Settings) (first : Change) (later : List Change) (whole high : Bool) → edge_fault (bit_count s) first later ≡ None → has_place (last_middle (bit_count s)) 1 later ≡ whole
    → (last_of first later).level ≡ high
    → judged s first later ≡ (if not whole then Bad (last_of first later).number rule.TooFew
    else (if high then Bad (last_of first later).number rule.EndsHigh else checked s (last_of first later).number (said_bits first later)))
says s first later whole high none w h = judged-sound s first later none ∙ rw (w, h) refl

-- the check that these bits say is that of the payload bits before it
abbrev is_checked : Settings → List Bool → Bool
is_checked s said = nat_eq (number_of (drop (payload_width s.parts) said)) (check_number s.check (take (payload_width s.parts) said))

checked_by : (s : Settings) (number : ℕ) (said : List Bool) (right : Bool) → is_checked s said ≡ right
    → checked s number said ≡ (if right then Good number (payload_of s.parts said) else Bad number rule.Psi5Check)
unfolding checked
checked_by s number said right e = ap (λ b. if b then Good number (payload_of s.parts said) else Bad number rule.Psi5Check) e

check-means : (s : Settings) (edges : List Change) (first : Change) (later : List Change) (right : Bool) → IsUnfaulted s edges first later → is_checked s (said_bits first later) ≡ right
    → has_place (last_middle (bit_count s)) 1 later ≡ true → (last_of first later).level ≡ false → Means s edges (judged s first later)
check-means s edges first later true h right w low =
    let number = (last_of first later).number in
    let payload = payload_of s.parts (said_bits first later) in
    let good : judged s first later ≡ Good number payload = says s first later true false h.none w low ∙ checked_by s number (said_bits first later) true right in
    subst (λ (b : Burst). Means s edges b) (sym good)
    (record { first = first; later = later; read = h.read; frame = λ alternate. (good_is_frame s first later number payload h.loud alternate good).1; last = refl })
check-means s edges first later false h wrong w low =
    let number = (last_of first later).number in
    bad-means s edges first later number rule.Psi5Check h.read (right_up_to s edges first later h, is_reached (last_middle (bit_count s)) later w, low, eqb-false _ _ wrong)
    (says s first later true false h.none w low ∙ checked_by s number (said_bits first later) false wrong)

end-means : (s : Settings) (edges : List Change) (first : Change) (later : List Change) (whole high : Bool) → IsUnfaulted s edges first later
    → has_place (last_middle (bit_count s)) 1 later ≡ whole → (last_of first later).level ≡ high → Means s edges (judged s first later)
end-means s edges first later false high h w level =
    bad-means s edges first later (last_of first later).number rule.TooFew h.read (right_up_to s edges first later h, not_reached (last_middle (bit_count s)) later w) (says s first later false high h.none w level)
end-means s edges first later true true h w level =
    bad-means s edges first later (last_of first later).number rule.EndsHigh h.read (right_up_to s edges first later h, is_reached (last_middle (bit_count s)) later w, level) (says s first later true true h.none w level)
end-means s edges first later true false h w level = check-means s edges first later (is_checked s (said_bits first later)) h refl w level

-- the first edge, and then the others, decide
later-means : (s : Settings) (edges : List Change) (first : Change) (later : List Change) (fault : Option Violation) → IsRead edges first later → has_start later ≡ false → first.level ≡ true
    → edge_fault (bit_count s) first later ≡ fault → fault_after (bit_count s) 1 later ≡ fault → Means s edges (judged s first later)
later-means s edges first later None read loud rises e none =
    end-means s edges first later (has_place (last_middle (bit_count s)) 1 later) (last_of first later).level (record { read = read; loud = loud; rises = rises; none = e; none_later = none }) refl refl
later-means s edges first later (Some v) read loud rises e fault =
    bad-means s edges first later v.place v.rule read (first_wrong s first later v rises loud fault) (judged-violated s first later v e)

first-means : (s : Settings) (edges : List Change) (first : Change) (later : List Change) (level : Bool) → IsRead edges first later → has_start later ≡ false → first.level ≡ level → Means s edges (judged s first later)
first-means s edges first later true read loud rises =
    let same : edge_fault (bit_count s) first later ≡ fault_after (bit_count s) 1 later = ap (λ b. if b then fault_after (bit_count s) 1 later else Some (record { place = first.number; rule = rule.FirstFall })) rises in
    later-means s edges first later (fault_after (bit_count s) 1 later) read loud rises same refl
first-means s edges first later false read loud falls =
    let violation : Violation = record { place = first.number; rule = rule.FirstFall } in
    let same : edge_fault (bit_count s) first later ≡ Some violation = ap (λ b. if b then fault_after (bit_count s) 1 later else Some violation) falls in
    bad-means s edges first later first.number rule.FirstFall read (refl, falls) (judged-violated s first later violation same)

judged-means : (s : Settings) (before : List Change) (first : Change) (edges : List Change) → begins first ≡ true → Means s (before ++ first ∷ edges) (judged s first (run_of edges))
judged-means s before first edges starts =
    first-means s (before ++ first ∷ edges) first (run_of edges) first.level (is_read before first edges starts) (parted edges).loud refl

-- ---- what all bursts say
all_from : (s : Settings) (before edges : List Change) → All (Means s (before ++ edges)) (all_bursts s edges)
unfolding all_bursts
all_from s before [] = All-nil (Means s (before ++ []))
all_from s before (x ∷ edges) = by_first (begins x) refl (subst (λ (l : List Change). All (Means s l) (all_bursts s edges)) (append_assoc before (x ∷ []) edges) (all_from s (before ++ x ∷ []) edges))
  where
    by_first : (b : Bool) → begins x ≡ b → All (Means s (before ++ x ∷ edges)) (all_bursts s edges)
        → All (Means s (before ++ x ∷ edges)) (if b then judged s x (run_of edges) ∷ all_bursts s edges else all_bursts s edges)
    by_first true starts rest = All-cons (Means s (before ++ x ∷ edges)) (judged s x (run_of edges)) (all_bursts s edges) (judged-means s before x edges starts) rest
    by_first false starts rest = rest

pub all-mean : (s : Settings) (edges : List NumberedEdge) → All (Means s (changes_of s.bit edges)) (bursts_at_end s edges)
all-mean s edges = all_from s [] (changes_of s.bit edges)
