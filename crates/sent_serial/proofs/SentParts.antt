-- What is read of a part of what is sent, from what one kind of message says of its reading.
--     IsReading      what it says
--     on_its_way      behind the first frames of a message
--     lost      behind frames that aren't there
--     part_reads      of any part
use Rattle.std.proofs.Common.{◌≡◌, ℕ, zero, suc, ◌+◌, ◌<◌, ◌≤◌, List, [], ◌∷◌, ◌++◌, None, false, length, take, drop, refl, sym, ap, ap₂, ◌∙◌, append-nil, append_assoc, length-append, arith}
use Rattle.std.specs.List.{All}
use Rattle.std.proofs.lemmas.List.{drop-take, map-append}
use Rattle.std.proofs.lemmas.List.Elements.{All-head, All-tail}
use Rattle.sent_serial.specs.declared.step.SerialStep.{SerialStep}
use Rattle.sent_serial.specs.declared.step.SerialStep.TheVariants as step
use Rattle.sent_serial.specs.Statuses.{HasTwoBits, start_bit, value_bit}
use Rattle.sent_serial.specs.SentStatuses.{statuses_sent}
use Rattle.sent_serial.specs.Sendings.{Sending, SentStatus, statuses_in, ended_by, sent_from, sent_statuses, FitsFrom, messages_told}
use Rattle.sent_serial.specs.Sendings.Sending.{Frame, Message}
use Rattle.sent_serial.proofs.MessagesTold.{not_told, told_here}
use Rattle.sent_serial.proofs.SentBits.{SameBits, SameStarts, own_clear, own_start, own_value, two_bits-sent}

-- this status of the message comes behind those in front of it, and before those that are left
pub record StandsIn (message : SerialStep) (front : List ℕ) (next : ℕ) (left : List ℕ) : Type 0 where
  pub is : statuses_sent message ≡ front ++ next ∷ left

-- what the reading of one kind of message makes of nothing, of a frame outside of messages, of a front of a message, of a whole one, and of a frame of one whose first frame isn't there
pub record IsReading (IsSent : SerialStep → Type 0) (reading : List ℕ → List SerialStep) : Type 0 where
  pub none : reading [] ≡ []
  pub plain : (status : ℕ) (later : List ℕ) → start_bit status ≡ false → reading (status ∷ later) ≡ reading later
  pub waits : (message : SerialStep) (kept front : List ℕ) (next : ℕ) (left : List ℕ) → IsSent message → StandsIn message front next left → SameBits kept front → reading kept ≡ []
  pub whole : (message : SerialStep) (kept later : List ℕ) → IsSent message → SameBits kept (statuses_sent message) → reading (kept ++ later) ≡ message ∷ reading later
  pub rest : (message : SerialStep) (front : List ℕ) (next : ℕ) (left : List ℕ) (status : ℕ) (later : List ℕ) → IsSent message → StandsIn message front next left → 0 < length front
      → start_bit status ≡ start_bit next → SameStarts left later → reading (status ∷ later) ≡ reading later

-- ---- the statuses of a message one by one
next_two_bits : (front : List ℕ) (next : ℕ) (left : List ℕ) → All HasTwoBits (front ++ next ∷ left) → HasTwoBits next × All HasTwoBits left
next_two_bits [] next left all = (All-head HasTwoBits next left all, All-tail HasTwoBits next left all)
next_two_bits (bits ∷ front) next left all = next_two_bits front next left (All-tail HasTwoBits bits (front ++ next ∷ left) all)

-- one frame more has the same bits
same_next : (kept front : List ℕ) (next own : ℕ) → SameBits kept front → HasTwoBits next → own < 4 → SameBits (kept ++ (next + own) ∷ []) (front ++ next ∷ [])
same_next kept front next own same two small = record {
  values = map-append value_bit kept ((next + own) ∷ []) ∙ ap₂ (λ bits bit. bits ++ bit ∷ []) same.values (own_value next own two small) ∙ sym (map-append value_bit front (next ∷ []));
  starts = map-append start_bit kept ((next + own) ∷ []) ∙ ap₂ (λ bits bit. bits ++ bit ∷ []) same.starts (own_start next own two small) ∙ sym (map-append start_bit front (next ∷ []));
}

-- the one behind it
stands_next : (message : SerialStep) (front : List ℕ) (next after : ℕ) (left : List ℕ) → StandsIn message front next (after ∷ left) → StandsIn message (front ++ next ∷ []) after left
stands_next message front next after left stands = record { is = stands.is ∙ sym (append_assoc front (next ∷ []) (after ∷ left)) }

stands_length : (message : SerialStep) (front : List ℕ) (next : ℕ) (left : List ℕ) → StandsIn message front next left → length (statuses_sent message) ≡ suc (length front + length left)
stands_length message front next left stands = ap length stands.is ∙ omega (arith, length-append front (next ∷ left))

stands_two_bits : (message : SerialStep) (front : List ℕ) (next : ℕ) (left : List ℕ) → StandsIn message front next left → HasTwoBits next × All HasTwoBits left
stands_two_bits message front next left stands = next_two_bits front next left (rw stands.is at (two_bits-sent message))

-- a message's frames to come have its start bits
same_starts : (IsSent : SerialStep → Type 0) (message : SerialStep) (left : List ℕ) (sendings : List Sending) → All HasTwoBits left → FitsFrom IsSent left sendings → SameStarts left (statuses_in (sent_from message left sendings))
unfolding sent_from
same_starts IsSent message [] sendings two fits = tt
same_starts IsSent message (next ∷ left) [] two fits = tt
same_starts IsSent message (next ∷ left) (Frame own ∷ sendings) two fits =
    let parts = next_two_bits [] next left two in
    (own_start next own parts.0 fits.0, same_starts IsSent message left sendings parts.1 fits.1)
same_starts IsSent message (next ∷ left) (Message other ∷ sendings) two fits = absurd (cc (fits.1))

-- ---- where a part begins
-- these frames of a message were kept, and so many frames stand before what is left of it
pub record IsKept (IsSent : SerialStep → Type 0) (message : SerialStep) (kept : List ℕ) (before : ℕ) (next : ℕ) (left : List ℕ) : Type 0 where
  pub is_sent : IsSent message
  pub front : List ℕ
  pub stands : StandsIn message front next left
  pub same : SameBits kept front
  pub behind : length front ≤ before

-- the same, or no message is on its way and nothing was kept
abbrev pub IsOnItsWay : (SerialStep → Type 0) → SerialStep → List ℕ → ℕ → List ℕ → Type 0
IsOnItsWay IsSent message kept before [] = kept ≡ []
IsOnItsWay IsSent message kept before (next ∷ left) = IsKept IsSent message kept before next left

-- fewer frames stand before what is left of a message than it has there
pub record IsBehind (IsSent : SerialStep → Type 0) (message : SerialStep) (before : ℕ) (next : ℕ) (left : List ℕ) : Type 0 where
  pub is_sent : IsSent message
  pub front : List ℕ
  pub stands : StandsIn message front next left
  pub cut : before < length front

-- the same, or no message is on its way
abbrev pub IsLost : (SerialStep → Type 0) → SerialStep → ℕ → List ℕ → Type 0
IsLost IsSent message before [] = Unit {0}
IsLost IsSent message before (next ∷ left) = IsBehind IsSent message before next left

-- these are left of a message that is sent
pub record IsRest (IsSent : SerialStep → Type 0) (message : SerialStep) (next : ℕ) (left : List ℕ) : Type 0 where
  pub is_sent : IsSent message
  pub front : List ℕ
  pub stands : StandsIn message front next left

-- the same, or no message is on its way
abbrev pub IsLeft : (SerialStep → Type 0) → SerialStep → List ℕ → Type 0
IsLeft IsSent message [] = Unit {0}
IsLeft IsSent message (next ∷ left) = IsRest IsSent message next left

same_none : SameBits [] []
same_none = record { values = refl; starts = refl }

begins : (IsSent : SerialStep → Type 0) (message : SerialStep) (before : ℕ) (all : List ℕ) → statuses_sent message ≡ all → IsSent message → IsOnItsWay IsSent message [] before all
begins IsSent message before [] is sent = refl
begins IsSent message before (next ∷ left) is sent = record { is_sent = sent; front = []; stands = record { is = is }; same = same_none; behind = omega arith }

begins_left : (IsSent : SerialStep → Type 0) (message : SerialStep) (all : List ℕ) → statuses_sent message ≡ all → IsSent message → IsLeft IsSent message all
begins_left IsSent message [] is sent = tt
begins_left IsSent message (next ∷ left) is sent = record { is_sent = sent; front = []; stands = record { is = is } }

next_kept : (IsSent : SerialStep → Type 0) (message : SerialStep) (kept : List ℕ) (before next after : ℕ) (left : List ℕ) (own : ℕ) → own < 4
    → IsKept IsSent message kept before next (after ∷ left) → IsKept IsSent message (kept ++ (next + own) ∷ []) (suc before) after left
next_kept IsSent message kept before next after left own small k =
    let two = (stands_two_bits message k.front next (after ∷ left) k.stands).0 in
    record {
      is_sent = k.is_sent;
      front = k.front ++ next ∷ [];
      stands = stands_next message k.front next after left k.stands;
      same = same_next kept k.front next own k.same two small;
      behind = omega (arith, k.behind, length-append k.front (next ∷ []));
    }

next_behind : (IsSent : SerialStep → Type 0) (message : SerialStep) (before next after : ℕ) (left : List ℕ) → IsBehind IsSent message before next (after ∷ left) → IsBehind IsSent message (suc before) after left
next_behind IsSent message before next after left b = record {
  is_sent = b.is_sent;
  front = b.front ++ next ∷ [];
  stands = stands_next message b.front next after left b.stands;
  cut = omega (arith, b.cut, length-append b.front (next ∷ []));
}

next_left : (IsSent : SerialStep → Type 0) (message : SerialStep) (next : ℕ) (left : List ℕ) → IsRest IsSent message next left → IsLeft IsSent message left
next_left IsSent message next [] rest = tt
next_left IsSent message next (after ∷ left) rest = record { is_sent = rest.is_sent; front = rest.front ++ next ∷ []; stands = stands_next message rest.front next after left rest.stands }

nothing_kept : (IsSent : SerialStep → Type 0) (message : SerialStep) (kept : List ℕ) (before : ℕ) (left : List ℕ) → left ≡ [] → IsOnItsWay IsSent message kept before left → kept ≡ []
nothing_kept IsSent message kept before [] none way = way
nothing_kept IsSent message kept before (next ∷ left) none way = absurd (cc (none))

-- ---- where a part ends
-- the sendings up to so many frames
up_to : ℕ → List Sending → List Sending
up_to zero sendings = []
up_to (suc count) [] = []
up_to (suc count) (Frame own ∷ sendings) = Frame own ∷ up_to count sendings
up_to (suc count) (Message message ∷ sendings) = Message message ∷ up_to (suc count) sendings

sent_up_to : (count : ℕ) (message : SerialStep) (left : List ℕ) (sendings : List Sending) → take count (sent_from message left sendings) ≡ sent_from message left (up_to count sendings)
unfolding sent_from up_to
sent_up_to zero message left sendings = refl
sent_up_to (suc count) message left [] = refl
sent_up_to (suc count) message [] (Frame own ∷ sendings) = ap (λ sent. record { status = own; ends = None } ∷ sent) (sent_up_to count message [] sendings)
sent_up_to (suc count) message (next ∷ left) (Frame own ∷ sendings) = ap (λ sent. record { status = next + own; ends = ended_by message left } ∷ sent) (sent_up_to count message left sendings)
sent_up_to (suc count) message left (Message other ∷ sendings) = sent_up_to (suc count) other (statuses_sent other) sendings

fits_up_to : (IsSent : SerialStep → Type 0) (count : ℕ) (left : List ℕ) (sendings : List Sending) → FitsFrom IsSent left sendings → FitsFrom IsSent left (up_to count sendings)
unfolding up_to
fits_up_to IsSent zero left sendings fits = tt
fits_up_to IsSent (suc count) left [] fits = tt
fits_up_to IsSent (suc count) left (Frame own ∷ sendings) fits = (fits.0, fits_up_to IsSent count (drop 1 left) sendings fits.1)
fits_up_to IsSent (suc count) left (Message message ∷ sendings) fits = (fits.0, fits.1, fits_up_to IsSent (suc count) (statuses_sent message) sendings fits.2)

-- ---- what is read
module _ (IsSent : SerialStep → Type 0) (reading : List ℕ → List SerialStep) (of : IsReading IsSent reading) where
  -- all that is told is read of what is sent from here on, behind what was kept
  abbrev Reads : List ℕ → ℕ → List SentStatus → Type 0
  Reads kept before sent = reading (kept ++ statuses_in sent) ≡ messages_told before sent

  ends_whole : (message : SerialStep) (kept : List ℕ) (before next own : ℕ) → own < 4 → IsKept IsSent message kept before next [] → SameBits (kept ++ (next + own) ∷ []) (statuses_sent message)
  ends_whole message kept before next own small k =
      let two = (stands_two_bits message k.front next [] k.stands).0 in
      rw k.stands.is (same_next kept k.front next own k.same two small)

  pub on_its_way : (message : SerialStep) (kept left : List ℕ) (sendings : List Sending) (before : ℕ) → IsOnItsWay IsSent message kept before left → FitsFrom IsSent left sendings
      → Reads kept before (sent_from message left sendings)
  unfolding sent_from messages_told
  on_its_way message kept [] [] before way fits = ap reading (append-nil kept ∙ way) ∙ of.none
  on_its_way message kept (next ∷ left) [] before way fits = ap reading (append-nil kept) ∙ of.waits message kept way.front next left way.is_sent way.stands way.same
  on_its_way message kept [] (Frame own ∷ sendings) before way fits =
      ap (λ k. reading (k ++ own ∷ statuses_in (sent_from message [] sendings))) way
      ∙ of.plain own (statuses_in (sent_from message [] sendings)) (own_clear own fits.0)
      ∙ on_its_way message [] [] sendings (suc before) refl fits.1
  on_its_way message kept (next ∷ []) (Frame own ∷ sendings) before way fits =
      let rest = statuses_in (sent_from message [] sendings) in
      let long = stands_length message way.front next [] way.stands in
      ap reading (sym (append_assoc kept ((next + own) ∷ []) rest))
      ∙ of.whole message (kept ++ (next + own) ∷ []) rest way.is_sent (ends_whole message kept before next own fits.0 way)
      ∙ ap (λ steps. message ∷ steps) (on_its_way message [] [] sendings (suc before) refl fits.1)
      ∙ ap (λ told. told ++ messages_told (suc before) (sent_from message [] sendings)) (sym (told_here before message (omega (arith, long, way.behind))))
  on_its_way message kept (next ∷ after ∷ left) (Frame own ∷ sendings) before way fits =
      let rest = statuses_in (sent_from message (after ∷ left) sendings) in
      ap reading (sym (append_assoc kept ((next + own) ∷ []) rest))
      ∙ on_its_way message (kept ++ (next + own) ∷ []) (after ∷ left) sendings (suc before) (next_kept IsSent message kept before next after left own fits.0 way) fits.1
  on_its_way message kept left (Message other ∷ sendings) before way fits =
      ap (λ k. reading (k ++ statuses_in (sent_from other (statuses_sent other) sendings))) (nothing_kept IsSent message kept before left fits.1 way)
      ∙ on_its_way other [] (statuses_sent other) sendings before (begins IsSent other before (statuses_sent other) refl fits.0) fits.2

  pub lost : (message : SerialStep) (left : List ℕ) (sendings : List Sending) (before : ℕ) → IsLost IsSent message before left → FitsFrom IsSent left sendings
      → Reads [] before (sent_from message left sendings)
  unfolding sent_from messages_told
  lost message [] sendings before is fits = on_its_way message [] [] sendings before refl fits
  lost message (next ∷ left) [] before is fits = of.none
  lost message (next ∷ []) (Frame own ∷ sendings) before is fits =
      let rest = statuses_in (sent_from message [] sendings) in
      let two = stands_two_bits message is.front next [] is.stands in
      let long = stands_length message is.front next [] is.stands in
      of.rest message is.front next [] (next + own) rest is.is_sent is.stands (omega (arith, is.cut)) (own_start next own two.0 fits.0) tt
      ∙ on_its_way message [] [] sendings (suc before) refl fits.1
      ∙ ap (λ told. told ++ messages_told (suc before) (sent_from message [] sendings)) (sym (not_told before message (omega (arith, long, is.cut))))
  lost message (next ∷ after ∷ left) (Frame own ∷ sendings) before is fits =
      let rest = statuses_in (sent_from message (after ∷ left) sendings) in
      let two = stands_two_bits message is.front next (after ∷ left) is.stands in
      of.rest message is.front next (after ∷ left) (next + own) rest is.is_sent is.stands (omega (arith, is.cut)) (own_start next own two.0 fits.0)
      (same_starts IsSent message (after ∷ left) sendings two.1 fits.1)
      ∙ lost message (after ∷ left) sendings (suc before) (next_behind IsSent message before next after left is) fits.1
  lost message (next ∷ left) (Message other ∷ sendings) before is fits = absurd (cc (fits.1))

  from_rest : (message : SerialStep) (front : List ℕ) (next : ℕ) (left : List ℕ) (sendings : List Sending) → IsSent message → StandsIn message front next left → FitsFrom IsSent (next ∷ left) sendings
      → Reads [] 0 (sent_from message (next ∷ left) sendings)
  from_rest message [] next left sendings sent stands fits =
      on_its_way message [] (next ∷ left) sendings 0 (record { is_sent = sent; front = []; stands = stands; same = same_none; behind = omega arith }) fits
  from_rest message (first ∷ front) next left sendings sent stands fits =
      lost message (next ∷ left) sendings 0 (record { is_sent = sent; front = first ∷ front; stands = stands; cut = omega arith }) fits

  from_here : (message : SerialStep) (left : List ℕ) (sendings : List Sending) → IsLeft IsSent message left → FitsFrom IsSent left sendings → Reads [] 0 (sent_from message left sendings)
  from_here message [] sendings is fits = on_its_way message [] [] sendings 0 refl fits
  from_here message (next ∷ left) sendings is fits = from_rest message is.front next left sendings is.is_sent is.stands fits

  behind_cut : (cut : ℕ) (message : SerialStep) (left : List ℕ) (sendings : List Sending) → IsLeft IsSent message left → FitsFrom IsSent left sendings → Reads [] 0 (drop cut (sent_from message left sendings))
  unfolding sent_from messages_told
  behind_cut zero message left sendings is fits = from_here message left sendings is fits
  behind_cut (suc cut) message left [] is fits = of.none
  behind_cut (suc cut) message [] (Frame own ∷ sendings) is fits = behind_cut cut message [] sendings tt fits.1
  behind_cut (suc cut) message (next ∷ left) (Frame own ∷ sendings) is fits = behind_cut cut message left sendings (next_left IsSent message next left is) fits.1
  behind_cut (suc cut) message left (Message other ∷ sendings) is fits = behind_cut (suc cut) other (statuses_sent other) sendings (begins_left IsSent other (statuses_sent other) refl fits.0) fits.2

  pub part_reads : (sendings : List Sending) (cut count : ℕ) → FitsFrom IsSent [] sendings → Reads [] 0 (take count (drop cut (sent_statuses sendings)))
  part_reads sendings cut count fits =
      let part : take count (drop cut (sent_statuses sendings)) ≡ drop cut (sent_from step.Nothing [] (up_to (cut + count) sendings)) =
      sym (drop-take cut count (sent_statuses sendings)) ∙ ap (drop cut) (sent_up_to (cut + count) step.Nothing [] sendings) in
      rw part (behind_cut cut step.Nothing [] (up_to (cut + count) sendings) tt (fits_up_to IsSent (cut + count) [] sendings fits))
