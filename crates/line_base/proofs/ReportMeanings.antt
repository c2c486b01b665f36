-- What each report of a reading means, from what all that is found means.
--     FindsAll, read-all      each report has what all that is found has
--     BringsAll, reads-grow      and so has each by which a reading grows with one element more
use Rattle.std.proofs.Common.{◌≡◌, ℕ, zero, suc, List, [], ◌∷◌, ◌++◌, length, take, drop, refl, sym, ap, subst, ◌∙◌, append_assoc, append-nil}
use Rattle.std.proofs.Math.Seq.{drop-append_seam}
use Rattle.std.proofs.lemmas.List.Elements.{All-cons, All-nil, All-same}
use Rattle.std.specs.List.{All}
use Rattle.line_base.specs.Readings.{Found, go_on, read_past, told}
use Rattle.line_base.specs.Readings.Found.{Waiting, Past, Reported}
use Rattle.line_base.proofs.Readings.{Keeps, KeepsFound}

-- ---- what each report means
-- each of these reports has this, and what is due behind them that
abbrev pub FoundHas : {Y S : Type 0} → (Y → Type 0) → (ℕ → S → Type 0) → Found Y S → Type 0
FoundHas P Then (Waiting ends) = All P ends
FoundHas P Then (Past used next) = Then used next
FoundHas P Then (Reported report found) = P report × FoundHas P Then found

-- what is due says this of the elements that are used up, and then each report that is found has that
pub record FindsAll {X Y S : Type 0} (found : S → X → List X → Found Y S) (P : Y → Type 0) (Knows : S → List X → Type 0) (whole : List X) : Type 0 where
  pub each : (due : S) (before : List X) (x : X) (xs : List X) → whole ≡ before ++ x ∷ xs → Knows due before
      → FoundHas P (λ used next. Knows next (before ++ x ∷ take used xs)) (found due x xs)

has-on : {Y S : Type 0} (P : Y → Type 0) (Then : ℕ → S → Type 0) (f : Found Y S) (later : ℕ → S → List Y) → FoundHas P Then f → ((used : ℕ) (next : S) → Then used next → All P (later used next)) → All P (go_on f later)
has-on P Then (Waiting ends) later has h = All-nil P
has-on P Then (Past used next) later has h = h used next has
has-on P Then (Reported report found) later has h = All-cons P report (go_on found later) has.0 (has-on P Then found later has.1 h)

-- the rest of a list is to be read, and so many of it are used up
record IsReached {X S : Type 0} (Knows : S → List X → Type 0) (whole : List X) (skip : ℕ) (due : S) (rest : List X) : Type 0 where
  pub before : List X
  pub stands : whole ≡ before ++ rest
  pub knows : Knows due (before ++ take skip rest)

read_all : {X Y S : Type 0} (found : S → X → List X → Found Y S) (P : Y → Type 0) (Knows : S → List X → Type 0) (whole : List X) → FindsAll found P Knows whole
    → (skip : ℕ) (due : S) (rest : List X) → IsReached Knows whole skip due rest → All P (read_past found skip due rest)
unfolding read_past
read_all found P Knows whole finds skip due [] reached = All-nil P
read_all found P Knows whole finds (suc skip) due (x ∷ xs) reached = read_all found P Knows whole finds skip due xs (record {
  before = reached.before ++ x ∷ [];
  stands = reached.stands ∙ sym (append_assoc reached.before (x ∷ []) xs);
  knows = subst (Knows due) (sym (append_assoc reached.before (x ∷ []) (take skip xs))) reached.knows;
})
read_all found P Knows whole finds zero due (x ∷ xs) reached =
    has-on P (λ used next. Knows next (reached.before ++ x ∷ take used xs)) (found due x xs) (λ used next. read_past found used next xs)
    (finds.each due reached.before x xs reached.stands (subst (Knows due) (append-nil reached.before) reached.knows))
    (λ used next knows. read_all found P Knows whole finds used next xs (record {
      before = reached.before ++ x ∷ [];
      stands = reached.stands ∙ sym (append_assoc reached.before (x ∷ []) xs);
      knows = subst (Knows next) (sym (append_assoc reached.before (x ∷ []) (take used xs))) knows;
    }))

-- each report of a reading has what all that is found has
pub read-all : {X Y S : Type 0} (found : S → X → List X → Found Y S) (start : S) (P : Y → Type 0) (Knows : S → List X → Type 0) (whole : List X) → FindsAll found P Knows whole → Knows start []
    → All P (read_past found 0 start whole)
read-all found start P Knows whole finds knows = read_all found P Knows whole finds 0 start whole (record { before = []; stands = refl; knows = knows })

-- ---- what the reports mean by which a reading grows
-- some reports are followed by others, each of which has this
pub record GrowsBy {Y : Type 0} (P : Y → Type 0) (reports more : List Y) : Type 0 where
  pub rest : List Y
  pub is : more ≡ reports ++ rest
  pub has : All P rest

-- each report has this that comes of what was unfinished before
abbrev pub Brings : {Y S : Type 0} → (Y → Type 0) → (ℕ → S → List Y) → Found Y S → Found Y S → Type 0
Brings P later (Waiting ends) now = All P (go_on now later)
Brings P later (Past used next) now = Unit {0}
Brings {Y} {S} P later (Reported report found) now = (rest : Found Y S) → now ≡ Reported report rest → Brings P later found rest

-- each report has this that one element more makes of what was unfinished
abbrev pub BringsOne : {X Y S : Type 0} → (S → X → List X → Found Y S) → (Y → Type 0) → S → X → List X → X → Type 0
BringsOne found P due first later x = Brings P (λ used next. read_past found used next (later ++ x ∷ [])) (found due first later) (found due first (later ++ x ∷ []))

-- and so has each that comes of an element alone
pub record BringsAll {X Y S : Type 0} (found : S → X → List X → Found Y S) (P : List X → Y → Type 0) : Type 0 where
  pub alone : (whole before : List X) (due : S) (x : X) → whole ≡ before ++ x ∷ [] → All (P whole) (read_past found 0 due (x ∷ []))
  pub one_more : (whole before : List X) (due : S) (first : X) (later : List X) (x : X) → whole ≡ before ++ first ∷ (later ++ x ∷ []) → BringsOne found (P whole) due first later x

brings_none : {Y S : Type 0} (P : Y → Type 0) (later : ℕ → S → List Y) (f now : Found Y S) (reports : List Y) (used : ℕ) (next : S) → f ≡ told reports used next → Brings P later f now
brings_none P later f now [] used next e = rw e tt
brings_none P later f now (report ∷ reports) used next e = rw e (λ rest same. brings_none P later (told reports used next) rest reports used next refl)

-- nothing was unfinished
pub brings-none : {X Y S : Type 0} (found : S → X → List X → Found Y S) (P : Y → Type 0) (due : S) (first : X) (later : List X) (x : X) (reports : List Y) (used : ℕ) (next : S)
    → found due first later ≡ told reports used next → BringsOne found P due first later x
brings-none found P due first later x reports used next e = brings_none P _ (found due first later) (found due first (later ++ x ∷ [])) reports used next e

-- all was unfinished
pub brings-all : {X Y S : Type 0} (found : S → X → List X → Found Y S) (P : Y → Type 0) (due : S) (first : X) (later : List X) (x : X) (ends : List Y)
    → found due first later ≡ Waiting ends → All P (read_past found 0 due (first ∷ (later ++ x ∷ []))) → BringsOne found P due first later x
unfolding read_past
brings-all found P due first later x ends e all = rw e all

grows_on : {Y S : Type 0} (P : Y → Type 0) (f g : Found Y S) (later more : ℕ → S → List Y) → Keeps f g → ((used : ℕ) (next : S) → GrowsBy P (later used next) (more used next)) → Brings P more f g
    → GrowsBy P (go_on f later) (go_on g more)
grows_on P (Waiting ends) g later more keeps grow brings = record { rest = go_on g more; is = refl; has = brings }
grows_on P (Past used next) g later more same grow brings = rw same (grow used next)
grows_on P (Reported report found) g later more keeps grow brings =
    let behind = grows_on P found keeps.0 later more keeps.2 grow (brings keeps.0 keeps.1) in
    rw keeps.1 (record { rest = behind.rest; is = ap (λ l. report ∷ l) behind.is; has = behind.has })

reads_grow : {X Y S : Type 0} (found : S → X → List X → Found Y S) (P : List X → Y → Type 0) → KeepsFound found → BringsAll found P
    → (skip : ℕ) (due : S) (whole before later : List X) (x : X) → whole ≡ before ++ (later ++ x ∷ []) → GrowsBy (P whole) (read_past found skip due later) (read_past found skip due (later ++ x ∷ []))
unfolding read_past
reads_grow found P keeps brings zero due whole before [] x are = record { rest = read_past found 0 due (x ∷ []); is = refl; has = brings.alone whole before due x are }
reads_grow found P keeps brings (suc skip) due whole before [] x are = record { rest = []; is = refl; has = All-nil (P whole) }
reads_grow found P keeps brings (suc skip) due whole before (first ∷ later) x are =
    reads_grow found P keeps brings skip due whole (before ++ first ∷ []) later x (are ∙ sym (append_assoc before (first ∷ []) (later ++ x ∷ [])))
reads_grow found P keeps brings zero due whole before (first ∷ later) x are =
    grows_on (P whole) (found due first later) (found due first (later ++ x ∷ [])) (λ used next. read_past found used next later) (λ used next. read_past found used next (later ++ x ∷ []))
    (keeps.each due first later (x ∷ []))
    (λ used next. reads_grow found P keeps brings used next whole (before ++ first ∷ []) later x (are ∙ sym (append_assoc before (first ∷ []) (later ++ x ∷ []))))
    (brings.one_more whole before due first later x are)

-- a reading grows with one element more by reports that have this
pub reads-grow : {X Y S : Type 0} (found : S → X → List X → Found Y S) (start : S) (P : List X → Y → Type 0) → KeepsFound found → BringsAll found P → (seen : List X) (x : X)
    → GrowsBy (P (seen ++ x ∷ [])) (read_past found 0 start seen) (read_past found 0 start (seen ++ x ∷ []))
reads-grow found start P keeps brings seen x = reads_grow found P keeps brings 0 start (seen ++ x ∷ []) [] seen x refl

-- so each report behind those that were there has it
pub last-have : {Y : Type 0} (P : Y → Type 0) (reports more : List Y) → GrowsBy P reports more → All P (drop (length reports) more)
last-have P reports more grows = All-same P (drop (length reports) more) grows.rest (ap (drop (length reports)) grows.is ∙ drop-append_seam reports grows.rest) grows.has
