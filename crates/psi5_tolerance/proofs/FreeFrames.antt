-- The frames of a trace without slots have none.
--     free-frames      each that is heard
use Rattle.std.proofs.Common.{◌≡◌, ℕ, zero, suc, ◌-◌, Bool, true, false, if◌then◌else◌, Option, None, List, [], ◌∷◌, ◌++◌, map, drop, get_or, subst}
use Rattle.line_base.specs.Edges.{NumberedEdge}
use Rattle.psi5_frame.specs.declared.burst.Payload.{Payload}
use Rattle.psi5_frame.specs.Setup.{Settings}
use Rattle.psi5_frame.specs.Edges.{Change, changes_of}
use Rattle.psi5_frame.specs.Bursts.{begins}
use Rattle.psi5_tolerance.specs.Lines.{data_edges, told_edges}
use Rattle.psi5_tolerance.specs.Trains.{Psi5Message, Sync, Burst as Sent, Sending, SyncAt, FrameAt, message_of, SentBefore, nothing_sent, sent_with, IsTrainBehind}
use Rattle.psi5_tolerance.specs.Traces.{IsHonest}
use Rattle.psi5_tolerance.specs.FromFirst.{HeardFrame, edge_count, number_at, heard_frame, heard_from, edges_in, recorded_in, heard_of}

abbrev pub AreFree : List HeardFrame → Type 0
AreFree [] = Unit {0}
AreFree (f ∷ frames) = (f.slot ≡ None) × AreFree frames

abbrev SayFree : List Psi5Message → Type 0
SayFree [] = Unit {0}
SayFree (Sync ∷ messages) = SayFree messages
SayFree (Sent slot p ∷ messages) = (slot ≡ None) × SayFree messages

say_free : (s : Settings) (before : SentBefore) (sent : List Sending) → IsTrainBehind s None before sent → SayFree (map message_of sent)
say_free s before [] train = tt
say_free s before (SyncAt pulse ∷ sent) train = absurd train.0
say_free s before (FrameAt f ∷ sent) train = (train.0.in_slot, say_free s (sent_with s before (FrameAt f)) sent train.1)

free-append : (xs ys : List HeardFrame) → AreFree xs → AreFree ys → AreFree (xs ++ ys)
free-append [] ys front back = back
free-append (f ∷ xs) ys front back = (front.0, free-append xs ys front.1 back)

free_frame : (count : ℕ) (slot : Option ℕ) (p : Payload) (edges : List Change) (told : List Bool) → slot ≡ None → AreFree (heard_frame count slot p edges told)
free_frame count slot p [] told free = tt
free_frame count slot p (edge ∷ edges) told free = by_first (begins edge)
  where
    by_first : (b : Bool) → AreFree (if b then record { first = edge.number; last = number_at (edge ∷ edges) (count - 1); is_told = get_or told 0 false; slot = slot; payload = p } ∷ [] else [])
    by_first true = (free, tt)
    by_first false = tt

free_from : (s : Settings) (missing : ℕ) (messages : List Psi5Message) (edges : List Change) (told : List Bool) → SayFree messages → AreFree (heard_from s missing messages edges told)
unfolding heard_from
free_from s missing [] edges told free = tt
free_from s zero (Sync ∷ messages) edges told free = free_from s 0 messages edges told free
free_from s zero (Sent slot p ∷ messages) edges told free =
    let n = edge_count s (Sent slot p) in
    free-append (heard_frame n slot p edges told) (heard_from s 0 messages (drop n edges) (drop n told)) (free_frame n slot p edges told free.0) (free_from s 0 messages (drop n edges) (drop n told) free.1)
free_from s (suc missing) (Sync ∷ messages) edges told free =
    let n = 1 - suc missing in
    free_from s (suc missing - 1) messages (drop n edges) (drop n told) free
free_from s (suc missing) (Sent slot p ∷ messages) edges told free =
    let n = edge_count s (Sent slot p) - suc missing in
    free_from s (suc missing - edge_count s (Sent slot p)) messages (drop n edges) (drop n told) free.1

pub free-frames : (s : Settings) (messages : List Psi5Message) (edges : List NumberedEdge) → IsHonest s None messages edges → AreFree (heard_of s None messages edges)
unfolding heard_of
free-frames s messages edges h =
    free_from s (edges_in s messages - recorded_in None edges) messages (changes_of s.bit (data_edges None edges)) (drop 1 (told_edges None edges))
    (subst (λ (l : List Psi5Message). SayFree l) h.carries (say_free s nothing_sent h.sent h.train))
