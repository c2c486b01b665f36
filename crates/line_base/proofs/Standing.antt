-- How a reader with bounded state takes more elements.
--     leads-none, leads-past, leads-again, leads-then      where elements lead
--     led-kept, led-past, led-whole, led-then      what agrees with a state there
--     Waits      what agrees with a state has no report yet
--     stands-none, stands-more, reads-more, ends-so      a reader of a list
--     over-none, over-more, over-reads      a reader of what is made of another list
use Rattle.std.proofs.Common.{◌≡◌, ℕ, List, [], ◌∷◌, ◌++◌, length, refl, sym, ap, subst, ◌∙◌, append_assoc, append-nil}
use Rattle.line_base.specs.Readings.{Found, go_on, end_on, read_past, end_past, told, told_before}
use Rattle.line_base.specs.Standing.{LeadsTo, Led, Leads, StandsFor, StandsOver, LeadsOver}
use Rattle.line_base.proofs.Readers.{goes_on, grows}
use Rattle.line_base.proofs.Readings.{Keeps, KeepsFound, keeps-told, read-nil, read-first, read-rest, end-first, end-rest}

-- ---- where elements lead
pub leads-none : {X Y S : Type 0} (found : S → X → List X → Found Y S) (due : S) (xs : List X) → LeadsTo found due xs [] due xs
leads-none found due xs = record { reads = λ more. refl; ends = λ more. refl }

pub leads-then : {X Y S : Type 0} (found : S → X → List X → Found Y S) (due next last : S) (xs ys zs : List X) (reports others : List Y)
    → LeadsTo found due xs reports next ys → LeadsTo found next ys others last zs → LeadsTo found due xs (reports ++ others) last zs
leads-then found due next last xs ys zs reports others first second = record {
  reads = λ more. first.reads more ∙ ap (λ l. reports ++ l) (second.reads more) ∙ sym (append_assoc reports others (read_past found 0 last (zs ++ more)));
  ends = λ more. first.ends more ∙ second.ends more;
}

go_on-told : {Y S : Type 0} (reports : List Y) (used : ℕ) (next : S) (later : ℕ → S → List Y) → go_on (told reports used next) later ≡ reports ++ later used next
go_on-told [] used next later = refl
go_on-told (report ∷ reports) used next later = ap (λ l. report ∷ l) (go_on-told reports used next later)

end_on-told : {Y S : Type 0} (reports : List Y) (used : ℕ) (next : S) (later : ℕ → S → List Y) → end_on (told reports used next) later ≡ later used next
end_on-told [] used next later = refl
end_on-told (report ∷ reports) used next later = end_on-told reports used next later

go_on-before : {Y S : Type 0} (reports : List Y) (found : Found Y S) (later : ℕ → S → List Y) → go_on (told_before reports found) later ≡ reports ++ go_on found later
go_on-before [] found later = refl
go_on-before (report ∷ reports) found later = ap (λ l. report ∷ l) (go_on-before reports found later)

end_on-before : {Y S : Type 0} (reports : List Y) (found : Found Y S) (later : ℕ → S → List Y) → end_on (told_before reports found) later ≡ end_on found later
end_on-before [] found later = refl
end_on-before (report ∷ reports) found later = end_on-before reports found later

-- what is told of a front, and then the rest
pub read-told : {X Y S : Type 0} (found : S → X → List X → Found Y S) (due next : S) (x : X) (front rest : List X) (reports : List Y)
    → found due x (front ++ rest) ≡ told reports (length front) next → read_past found 0 due (x ∷ front ++ rest) ≡ reports ++ read_past found 0 next rest
read-told found due next x front rest reports finds =
    read-first found due x (front ++ rest)
    ∙ ap (λ f. go_on f (λ used next. read_past found used next (front ++ rest))) finds
    ∙ go_on-told reports (length front) next (λ used next. read_past found used next (front ++ rest))
    ∙ ap (λ l. reports ++ l) (read-rest found next front rest)

-- and where nothing comes behind it
pub read-all-told : {X Y S : Type 0} (found : S → X → List X → Found Y S) (due next : S) (x : X) (xs : List X) (reports : List Y)
    → found due x xs ≡ told reports (length xs) next → read_past found 0 due (x ∷ xs) ≡ reports
read-all-told found due next x xs reports finds =
    ap (λ l. read_past found 0 due (x ∷ l)) (sym (append-nil xs))
    ∙ read-told found due next x xs [] reports (ap (found due x) (append-nil xs) ∙ finds)
    ∙ ap (λ l. reports ++ l) (read-nil found next) ∙ append-nil reports

pub end-told : {X Y S : Type 0} (found : S → X → List X → Found Y S) (due next : S) (x : X) (front rest : List X) (reports : List Y)
    → found due x (front ++ rest) ≡ told reports (length front) next → end_past found 0 due (x ∷ front ++ rest) ≡ end_past found 0 next rest
end-told found due next x front rest reports finds =
    end-first found due x (front ++ rest)
    ∙ ap (λ f. end_on f (λ used next. end_past found used next (front ++ rest))) finds
    ∙ end_on-told reports (length front) next (λ used next. end_past found used next (front ++ rest))
    ∙ end-rest found next front rest

-- what is found once stays, so it is enough to look at the elements that are there
pub leads-past : {X Y S : Type 0} (found : S → X → List X → Found Y S) → KeepsFound found → (due next : S) (x : X) (front rest : List X) (reports : List Y)
    → found due x (front ++ rest) ≡ told reports (length front) next → LeadsTo found due (x ∷ front ++ rest) reports next rest
leads-past {X = X} {Y = Y} {S = S} found keeps due next x front rest reports finds =
    let xs = front ++ rest in
    let stays : (more : List X) → found due x (front ++ (rest ++ more)) ≡ told reports (length front) next = λ more.
    ap (found due x) (sym (append_assoc front rest more))
    ∙ keeps-told reports (length front) next (found due x (xs ++ more)) (subst (λ (f : Found Y S). Keeps f (found due x (xs ++ more))) finds (keeps.each due x xs more)) in
    record {
      reads = λ more. ap (λ l. read_past found 0 due (x ∷ l)) (append_assoc front rest more) ∙ read-told found due next x front (rest ++ more) reports (stays more);
      ends = λ more. ap (λ l. end_past found 0 due (x ∷ l)) (append_assoc front rest more) ∙ end-told found due next x front (rest ++ more) reports (stays more);
    }

-- the same element is read again, with another thing due
pub leads-again : {X Y S : Type 0} (found : S → X → List X → Found Y S) (due next : S) (x : X) (xs : List X) (reports : List Y)
    → ((more : List X) → found due x (xs ++ more) ≡ told_before reports (found next x (xs ++ more))) → LeadsTo found due (x ∷ xs) reports next (x ∷ xs)
leads-again found due next x xs reports again = record {
  reads = λ more.
      read-first found due x (xs ++ more)
      ∙ ap (λ f. go_on f (λ used next. read_past found used next (xs ++ more))) (again more)
      ∙ go_on-before reports (found next x (xs ++ more)) (λ used next. read_past found used next (xs ++ more))
      ∙ ap (λ l. reports ++ l) (sym (read-first found next x (xs ++ more)));
  ends = λ more.
      end-first found due x (xs ++ more)
      ∙ ap (λ f. end_on f (λ used next. end_past found used next (xs ++ more))) (again more)
      ∙ end_on-before reports (found next x (xs ++ more)) (λ used next. end_past found used next (xs ++ more))
      ∙ sym (end-first found next x (xs ++ more));
}

-- ---- what a state agrees with
-- the elements are kept
pub led-kept : {X Y S : Type 0} {found : S → X → List X → Found Y S} {Agrees : S → List X → Type 0} (due : S) (xs : List X) → Agrees due xs → Led found Agrees due xs []
led-kept {found = found} due xs agrees = record { next = due; rest = xs; agrees = agrees; leads = leads-none found due xs }

-- what stands at the front ends before the rest
pub led-past : {X Y S : Type 0} {found : S → X → List X → Found Y S} {Agrees : S → List X → Type 0} → KeepsFound found → (due next : S) (x : X) (front rest : List X) (reports : List Y)
    → found due x (front ++ rest) ≡ told reports (length front) next → Agrees next rest → Led found Agrees due (x ∷ front ++ rest) reports
led-past {found = found} keeps due next x front rest reports finds agrees =
    record { next = next; rest = rest; agrees = agrees; leads = leads-past found keeps due next x front rest reports finds }

-- what stands at the front ends with the last element
pub led-whole : {X Y S : Type 0} {found : S → X → List X → Found Y S} {Agrees : S → List X → Type 0} → KeepsFound found → (due next : S) (x : X) (xs : List X) (reports : List Y)
    → found due x xs ≡ told reports (length xs) next → Agrees next [] → Led found Agrees due (x ∷ xs) reports
led-whole {X = X} {found = found} {Agrees = Agrees} keeps due next x xs reports finds agrees =
    subst (λ (l : List X). Led found Agrees due (x ∷ l) reports) (append-nil xs) (led-past keeps due next x xs [] reports (ap (found due x) (append-nil xs) ∙ finds) agrees)

-- some elements lead to others, and these to what agrees
pub led-then : {X Y S : Type 0} {found : S → X → List X → Found Y S} {Agrees : S → List X → Type 0} (due next : S) (xs rest : List X) (reports others : List Y)
    → LeadsTo found due xs reports next rest → Led found Agrees next rest others → Led found Agrees due xs (reports ++ others)
led-then {found = found} due next xs rest reports others first led =
    record { next = led.next; rest = led.rest; agrees = led.agrees; leads = leads-then found due next led.next xs rest led.rest reports others first led.leads }

-- ---- a reader
-- what agrees with the state has no report yet, and these where nothing more comes
pub record Waits {X Y S : Type 0} (found : S → X → List X → Found Y S) (Agrees : S → List X → Type 0) (ends : List Y) : Type 0 where
  pub none : (due : S) (kept : List X) → Agrees due kept → read_past found 0 due kept ≡ []
  pub at_end : (due : S) (kept : List X) → Agrees due kept → end_past found 0 due kept ≡ ends

pub stands-none : {X Y S : Type 0} (found : S → X → List X → Found Y S) (start : S) (Agrees : S → List X → Type 0) → Agrees start [] → StandsFor found start Agrees []
stands-none found start Agrees agrees = record {
  due = start;
  kept = [];
  agrees = agrees;
  leads = record { reads = λ more. ap (λ l. l ++ read_past found 0 start more) (sym (read-nil found start)); ends = λ more. refl };
}

-- the reports grow by those that the next elements lead to
pub reads-more : {X Y S : Type 0} (found : S → X → List X → Found Y S) (start : S) (Before After : S → List X → Type 0) (seen xs : List X) (reports ends : List Y)
    → StandsFor found start Before seen → Leads found Before After xs reports → Waits found After ends → read_past found 0 start (seen ++ xs) ≡ read_past found 0 start seen ++ reports
reads-more found start Before After seen xs reports ends stands leads waits =
    let led = leads.each stands.due stands.kept stands.agrees in
    let before = read_past found 0 start seen in
    stands.leads.reads xs
    ∙ ap (λ l. before ++ read_past found 0 stands.due l) (sym (append-nil (stands.kept ++ xs)))
    ∙ ap (λ l. before ++ l) (led.leads.reads [] ∙ ap (λ l. reports ++ read_past found 0 led.next l) (append-nil led.rest) ∙ ap (λ l. reports ++ l) (waits.none led.next led.rest led.agrees) ∙ append-nil reports)

-- and the reader stands for those elements too
pub stands-more : {X Y S : Type 0} (found : S → X → List X → Found Y S) (start : S) (Before After : S → List X → Type 0) (seen xs : List X) (reports ends : List Y)
    → StandsFor found start Before seen → Leads found Before After xs reports → Waits found After ends → StandsFor found start After (seen ++ xs)
stands-more found start Before After seen xs reports ends stands leads waits =
    let led = leads.each stands.due stands.kept stands.agrees in
    let before = read_past found 0 start seen in
    record {
      due = led.next;
      kept = led.rest;
      agrees = led.agrees;
      leads = record {
        reads = λ more.
            ap (read_past found 0 start) (append_assoc seen xs more)
            ∙ stands.leads.reads (xs ++ more)
            ∙ ap (λ l. before ++ read_past found 0 stands.due l) (sym (append_assoc stands.kept xs more))
            ∙ ap (λ l. before ++ l) (led.leads.reads more)
            ∙ sym (append_assoc before reports (read_past found 0 led.next (led.rest ++ more)))
            ∙ ap (λ l. l ++ read_past found 0 led.next (led.rest ++ more)) (sym (reads-more found start Before After seen xs reports ends stands leads waits));
        ends = λ more.
            ap (end_past found 0 start) (append_assoc seen xs more)
            ∙ stands.leads.ends (xs ++ more)
            ∙ ap (end_past found 0 stands.due) (sym (append_assoc stands.kept xs more))
            ∙ led.leads.ends more;
      };
    }

-- no elements lead nowhere
pub leads-still : {X Y S : Type 0} {found : S → X → List X → Found Y S} {Before After : S → List X → Type 0} → ((due : S) (kept : List X) → Before due kept → After due kept) → Leads found Before After [] []
leads-still {X = X} {found = found} {After = After} same = record {
  each = λ due kept agrees. subst (λ (l : List X). Led found After due l []) (sym (append-nil kept)) (led-kept due kept (same due kept agrees));
}

-- what the end adds is what the state says of it
pub ends-so : {X Y S : Type 0} (found : S → X → List X → Found Y S) (start : S) (Agrees : S → List X → Type 0) (seen : List X) (ends : List Y)
    → StandsFor found start Agrees seen → Waits found Agrees ends → end_past found 0 start seen ≡ ends
ends-so found start Agrees seen ends stands waits =
    ap (end_past found 0 start) (sym (append-nil seen)) ∙ stands.leads.ends [] ∙ ap (end_past found 0 stands.due) (append-nil stands.kept) ∙ waits.at_end stands.due stands.kept stands.agrees

-- ---- a reading of what is made of another list
pub over-none : {W X Y S : Type 0} (make : List W → List X) (found : S → X → List X → Found Y S) (start : S) (Agrees : S → List X → Type 0) → make [] ≡ [] → Agrees start [] → StandsOver make make found start Agrees []
over-none {X = X} make found start Agrees none agrees = record {
  makes = record { each = λ more. ap (λ l. l ++ make more) (sym none) };
  stands = subst (λ (l : List X). StandsFor found start Agrees l) (sym none) (stands-none found start Agrees agrees);
}

pub over-reads : {W X Y S : Type 0} (make made now : List W → List X) (found : S → X → List X → Found Y S) (start : S) (Before After : S → List X → Type 0) (seen : List W) (w : W) (reports ends : List Y)
    → StandsOver make made found start Before seen → LeadsOver made now found Before After w reports → now [] ≡ [] → Waits found After ends
    → read_past found 0 start (make (seen ++ w ∷ [])) ≡ read_past found 0 start (make seen) ++ reports
over-reads make made now found start Before After seen w reports ends over leads none waits =
    ap (read_past found 0 start) (grows w leads.news now over.makes leads.makes none)
    ∙ reads-more found start Before After (make seen) leads.news reports ends over.stands leads.leads waits

pub over-more : {W X Y S : Type 0} (make made now : List W → List X) (found : S → X → List X → Found Y S) (start : S) (Before After : S → List X → Type 0) (seen : List W) (w : W) (reports ends : List Y)
    → StandsOver make made found start Before seen → LeadsOver made now found Before After w reports → now [] ≡ [] → Waits found After ends → StandsOver make now found start After (seen ++ w ∷ [])
over-more {X = X} make made now found start Before After seen w reports ends over leads none waits = record {
  makes = goes_on w leads.news now over.makes leads.makes none;
  stands = subst (λ (l : List X). StandsFor found start After l) (sym (grows w leads.news now over.makes leads.makes none))
      (stands-more found start Before After (make seen) leads.news reports ends over.stands leads.leads waits);
}
