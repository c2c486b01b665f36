-- What is left to send of serial messages, and what is sent behind it.
--     left_behind, message_behind
--     fits-append, sent-append
--     two_bits-sent
use Rattle.std.proofs.Common.{◌≡◌, ℕ, ◌+◌, Bool, true, false, None, List, [], ◌∷◌, ◌++◌, drop, refl, ap, arith}
use Rattle.std.specs.List.{All}
use Rattle.std.proofs.lemmas.List.Elements.{All-cons, All-nil}
use Rattle.sent_serial.specs.declared.step.SerialStep.{SerialStep}
use Rattle.sent_serial.specs.declared.step.SerialStep.TheVariants as step
use Rattle.sent_serial.specs.Statuses.{HasTwoBits}
use Rattle.sent_serial.specs.SentStatuses.{enhanced_statuses, short_statuses, status_of, statuses_of, statuses_sent, statuses_with_check}
use Rattle.sent_serial.specs.Sendings.{FitsFrom, Sending, ended_by, sent_from}
use Rattle.sent_serial.specs.Sendings.Sending.{Frame, Message}

-- the statuses that are left to send behind these, where these were left before
abbrev pub left_behind : List ℕ → List Sending → List ℕ
left_behind left [] = left
left_behind left (Frame own ∷ sendings) = left_behind (drop 1 left) sendings
left_behind left (Message message ∷ sendings) = left_behind (statuses_sent message) sendings

-- the message that they are of
abbrev pub message_behind : SerialStep → List Sending → SerialStep
message_behind message [] = message
message_behind message (Frame own ∷ sendings) = message_behind message sendings
message_behind message (Message next ∷ sendings) = message_behind next sendings

pub left-append : (left : List ℕ) (sendings more : List Sending) → left_behind left (sendings ++ more) ≡ left_behind (left_behind left sendings) more
left-append left [] more = refl
left-append left (Frame own ∷ sendings) more = left-append (drop 1 left) sendings more
left-append left (Message message ∷ sendings) more = left-append (statuses_sent message) sendings more

pub fits-append : (IsSent : SerialStep → Type 0) (left : List ℕ) (sendings more : List Sending) → FitsFrom IsSent left sendings → FitsFrom IsSent (left_behind left sendings) more → FitsFrom IsSent left (sendings ++ more)
fits-append IsSent left [] more first second = second
fits-append IsSent left (Frame own ∷ sendings) more first second = (first.0, fits-append IsSent (drop 1 left) sendings more first.1 second)
fits-append IsSent left (Message message ∷ sendings) more first second = (first.0, first.1, fits-append IsSent (statuses_sent message) sendings more first.2 second)

pub sent-append : (message : SerialStep) (left : List ℕ) (sendings more : List Sending)
    → sent_from message left (sendings ++ more) ≡ sent_from message left sendings ++ sent_from (message_behind message sendings) (left_behind left sendings) more
unfolding sent_from
sent-append message left [] more = refl
sent-append message [] (Frame own ∷ sendings) more = ap (λ l. record { status = own; ends = None } ∷ l) (sent-append message [] sendings more)
sent-append message (bits ∷ left) (Frame own ∷ sendings) more = ap (λ l. record { status = bits + own; ends = ended_by message left } ∷ l) (sent-append message left sendings more)
sent-append message [] (Message next ∷ sendings) more = sent-append next (statuses_sent next) sendings more
sent-append message (bits ∷ left) (Message next ∷ sendings) more = sent-append next (statuses_sent next) sendings more

-- ---- statuses have no other bits
two_bits-of : (value start : Bool) → HasTwoBits (status_of value start)
two_bits-of false false = record { is_nibble = omega arith; no_other = refl }
two_bits-of false true = record { is_nibble = omega arith; no_other = refl }
two_bits-of true false = record { is_nibble = omega arith; no_other = refl }
two_bits-of true true = record { is_nibble = omega arith; no_other = refl }

two_bits-statuses : (values starts : List Bool) → All HasTwoBits (statuses_of values starts)
unfolding statuses_of
two_bits-statuses [] starts = All-nil HasTwoBits
two_bits-statuses (value ∷ values) [] = All-nil HasTwoBits
two_bits-statuses (value ∷ values) (start ∷ starts) = All-cons HasTwoBits (status_of value start) (statuses_of values starts) (two_bits-of value start) (two_bits-statuses values starts)

pub two_bits-sent : (message : SerialStep) → All HasTwoBits (statuses_sent message)
unfolding statuses_sent short_statuses enhanced_statuses statuses_with_check
two_bits-sent step.Nothing = All-nil HasTwoBits
two_bits-sent (step.Short id value) = two_bits-statuses _ _
two_bits-sent (step.Enhanced id value wide) = two_bits-statuses _ _
two_bits-sent (step.Bad rule) = All-nil HasTwoBits
