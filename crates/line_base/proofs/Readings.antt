-- The laws of readings, from what one link says of what it finds.
--     KeepsFound      what is found stays when more comes
--     read-front      so the reports of a list are a front of those of a longer one
use Rattle.std.proofs.Common.{◌≡◌, ℕ, zero, suc, Bool, true, false, cond, List, [], ◌∷◌, ◌++◌, length, refl, ap, ◌∙◌}
use Rattle.line_base.specs.Streams.{IsFrontOf}
use Rattle.line_base.specs.Readings.{Found, go_on, end_on, read_past, end_past, told}
use Rattle.line_base.specs.Readings.Found.{Waiting, Past, Reported}
use Rattle.line_base.proofs.Fronts.{IsFrontOf-nil, IsFrontOf-after}

-- ---- equations
pub read-nil : {X Y S : Type 0} (found : S → X → List X → Found Y S) (due : S) → read_past found 0 due [] ≡ []
unfolding read_past
read-nil found due = refl

pub end-nil : {X Y S : Type 0} (found : S → X → List X → Found Y S) (due : S) → end_past found 0 due [] ≡ []
unfolding end_past
end-nil found due = refl

pub read-first : {X Y S : Type 0} (found : S → X → List X → Found Y S) (due : S) (x : X) (xs : List X)
    → read_past found 0 due (x ∷ xs) ≡ go_on (found due x xs) (λ used next. read_past found used next xs)
unfolding read_past
read-first found due x xs = refl

pub end-first : {X Y S : Type 0} (found : S → X → List X → Found Y S) (due : S) (x : X) (xs : List X)
    → end_past found 0 due (x ∷ xs) ≡ end_on (found due x xs) (λ used next. end_past found used next xs)
unfolding end_past
end-first found due x xs = refl

-- behind a front stands what is read of the rest
pub read-rest : {X Y S : Type 0} (found : S → X → List X → Found Y S) (due : S) (front rest : List X) → read_past found (length front) due (front ++ rest) ≡ read_past found 0 due rest
unfolding read_past
read-rest found due [] rest = refl
read-rest found due (x ∷ front) rest = read-rest found due front rest

pub end-rest : {X Y S : Type 0} (found : S → X → List X → Found Y S) (due : S) (front rest : List X) → end_past found (length front) due (front ++ rest) ≡ end_past found 0 due rest
unfolding end_past
end-rest found due [] rest = refl
end-rest found due (x ∷ front) rest = end-rest found due front rest

-- something unfinished has no report
pub read-waits : {X Y S : Type 0} (found : S → X → List X → Found Y S) (due : S) (x : X) (xs : List X) (ends : List Y) → found due x xs ≡ Waiting ends → read_past found 0 due (x ∷ xs) ≡ []
read-waits found due x xs ends waits = read-first found due x xs ∙ ap (λ f. go_on f (λ used next. read_past found used next xs)) waits

pub end-waits : {X Y S : Type 0} (found : S → X → List X → Found Y S) (due : S) (x : X) (xs : List X) (ends : List Y) → found due x xs ≡ Waiting ends → end_past found 0 due (x ∷ xs) ≡ ends
end-waits found due x xs ends waits = end-first found due x xs ∙ ap (λ f. end_on f (λ used next. end_past found used next xs)) waits

-- ---- what was found stays
-- what is found when more comes is the same, but that something unfinished may come to anything
abbrev pub Keeps : {Y S : Type 0} → Found Y S → Found Y S → Type 0
Keeps (Waiting ends) now = Unit {0}
Keeps (Past used next) now = now ≡ Past used next
Keeps {Y} {S} (Reported report found) now = (rest : Found Y S) × (now ≡ Reported report rest) × Keeps found rest

-- whatever is found, it stays when more comes
pub record KeepsFound {X Y S : Type 0} (found : S → X → List X → Found Y S) : Type 0 where
  pub each : (due : S) (x : X) (xs more : List X) → Keeps (found due x xs) (found due x (xs ++ more))

pub keeps-same : {Y S : Type 0} (f : Found Y S) → Keeps f f
keeps-same (Waiting ends) = tt
keeps-same (Past used next) = refl
keeps-same (Reported report found) = (found, refl, keeps-same found)

-- what each of two is the same as
pub keeps-as : {Y S : Type 0} (f g f' g' : Found Y S) → f ≡ f' → g ≡ g' → Keeps f' g' → Keeps f g
keeps-as f g f' g' e e' keeps = rw (e, e') keeps

pub keeps-alike : {Y S : Type 0} (f g found : Found Y S) → f ≡ found → g ≡ found → Keeps f g
keeps-alike f g found e e' = keeps-as f g found found e e' (keeps-same found)

-- by a test of what is there already
pub keeps-cond : {Y S : Type 0} (test : Bool) (f g f' g' : Found Y S) → Keeps f g → Keeps f' g' → Keeps (cond test f f') (cond test g g')
keeps-cond true f g f' g' keeps other = keeps
keeps-cond false f g f' g' keeps other = other

pub keeps-waits : {Y S : Type 0} (f g : Found Y S) (ends : List Y) → f ≡ Waiting ends → Keeps f g
keeps-waits f g ends e = keeps-as f g (Waiting ends) g e refl tt

pub keeps-told : {Y S : Type 0} (reports : List Y) (used : ℕ) (next : S) (f : Found Y S) → Keeps (told reports used next) f → f ≡ told reports used next
keeps-told [] used next f keeps = keeps
keeps-told (report ∷ reports) used next f keeps = keeps.1 ∙ ap (Reported report) (keeps-told reports used next keeps.0 keeps.2)

fronts-on : {Y S : Type 0} (f g : Found Y S) (later more : ℕ → S → List Y) → Keeps f g → ((used : ℕ) (next : S) → IsFrontOf (later used next) (more used next)) → IsFrontOf (go_on f later) (go_on g more)
fronts-on (Waiting ends) g later more keeps h = IsFrontOf-nil (go_on g more)
fronts-on (Past used next) g later more same h = rw same (h used next)
fronts-on (Reported report found) g later more keeps h = rw keeps.1 (IsFrontOf-after (report ∷ []) (fronts-on found keeps.0 later more keeps.2 h))

-- what was reported stays when more comes
pub read-front : {X Y S : Type 0} (found : S → X → List X → Found Y S) → KeepsFound found → (skip : ℕ) (due : S) (xs more : List X) → IsFrontOf (read_past found skip due xs) (read_past found skip due (xs ++ more))
unfolding read_past
read-front found keeps skip due [] more = IsFrontOf-nil (read_past found skip due more)
read-front found keeps (suc skip) due (x ∷ xs) more = read-front found keeps skip due xs more
read-front found keeps zero due (x ∷ xs) more =
    fronts-on (found due x xs) (found due x (xs ++ more)) (λ used next. read_past found used next xs) (λ used next. read_past found used next (xs ++ more))
    (keeps.each due x xs more) (λ used next. read-front found keeps used next xs more)
