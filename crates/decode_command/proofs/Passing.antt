-- Channels that read other lines than that of an edge, at the front of a list of channels.
--     pass-none, pass-more      they are counted
--     parted      and cut off
--     passed-told      no line is told of them
--     reading-follow, joined-follow      the others follow, and once they have taken the edge, all have
use Rattle.std.proofs.Common.{◌≡◌, ℕ, suc, ◌+◌, ◌≤◌, Bool, false, List, [], ◌∷◌, ◌++◌, length, take, refl, sym, ◌∙◌, ap, subst, append_assoc, arith}
use Rattle.std.specs.List.{All}
use Rattle.std.proofs.lemmas.List.{length-append, take_at}
use Rattle.std.proofs.lemmas.List.Elements.{All-nil, All-cons, All-head, All-tail, All-append}
use Rattle.line_base.specs.declared.edge.Edge.{Edge}
use Rattle.receiver_core.specs.Setups.{reads_line}
use Rattle.receiver_core.specs.declared.counted_receiver.CountedReceiver.{CountedReceiver}
use Rattle.decode_command.specs.Channels.{reports_added, edge_lines, told_lines}
use Rattle.decode_command.specs.Followed.{AllFollow, setups_of}
use Rattle.decode_command.proofs.OneMore.{nothing-added, still-follows}
use Rattle.decode_command.proofs.Writing.{no-lines}
use Rattle.decode_command.proofs.Taking.{all-follow-append}

-- the channel reads other lines
abbrev pub ReadsOther : ℕ → CountedReceiver → Type 0
ReadsOther line channel = reads_line channel.setup line ≡ false

-- and so does each of these
abbrev pub ReadOthers : List CountedReceiver → ℕ → Type 0
ReadOthers channels line = All (λ (channel : CountedReceiver). reads_line channel.setup line ≡ false) channels

-- so many channels are passed over, and these are left
pub record PassedSoFar (channels : List CountedReceiver) (line count : ℕ) (rest : List CountedReceiver) : Type 0 where
  pub parts : take count channels ++ rest ≡ channels
  pub counted : length (take count channels) ≡ count
  pub others : ReadOthers (take count channels) line

-- none yet
pub pass-none : (channels : List CountedReceiver) (line : ℕ) → PassedSoFar channels line 0 channels
pass-none channels line = record { parts = refl; counted = refl; others = All-nil (ReadsOther line) }

-- and one more
pub pass-more : (channels : List CountedReceiver) (line count : ℕ) (rest : List CountedReceiver) (channel : CountedReceiver) (others : List CountedReceiver) → rest ≡ channel ∷ others → reads_line channel.setup line ≡ false
    → PassedSoFar channels line count rest → PassedSoFar channels line (count + 1) others
pass-more channels line count rest channel others is other so_far =
    let front = take count channels in
    let whole : (front ++ channel ∷ []) ++ others ≡ channels = append_assoc front (channel ∷ []) others ∙ ap (λ l. front ++ l) (sym is) ∙ so_far.parts in
    let long : length (front ++ channel ∷ []) ≡ count + 1 = omega (arith, length-append front (channel ∷ []), so_far.counted) in
    let next : take (count + 1) channels ≡ front ++ channel ∷ [] = ap (take (count + 1)) (sym whole) ∙ take_at (front ++ channel ∷ []) others (count + 1) long in
    record {
      parts = ap (λ l. l ++ others) next ∙ whole;
      counted = ap length next ∙ long;
      others = subst (λ (l : List CountedReceiver). ReadOthers l line) (sym next) (All-append (ReadsOther line) front (channel ∷ []) so_far.others (All-cons (ReadsOther line) channel [] other (All-nil (ReadsOther line))));
    }

-- at most all are passed over
pub pass-few : (channels : List CountedReceiver) (line count : ℕ) (rest : List CountedReceiver) → PassedSoFar channels line count rest → count ≤ length channels
pass-few channels line count rest so_far =
    omega (arith, length-append (take count channels) rest, ap length so_far.parts, so_far.counted)

-- these have taken the edge too
passed-follow : (channels : List CountedReceiver) (edges : List Edge) (edge : Edge) → ReadOthers channels edge.line → AllFollow channels edges → AllFollow channels (edges ++ edge ∷ [])
passed-follow [] edges edge others follow = tt
passed-follow (channel ∷ channels) edges edge others follow =
    (still-follows channel edges edge (All-head (ReadsOther edge.line) channel channels others) follow.0, passed-follow channels edges edge (All-tail (ReadsOther edge.line) channel channels others) follow.1)

-- channels in two parts follow where both do
parts-follow : (passed reading : List CountedReceiver) (edges : List Edge) → AllFollow (passed ++ reading) edges → AllFollow passed edges × AllFollow reading edges
parts-follow [] reading edges follow = (tt, follow)
parts-follow (channel ∷ passed) reading edges follow =
    let others = parts-follow passed reading edges follow.1 in
    ((follow.0, others.0), others.1)

-- no line is told of channels that are passed over
passed-lines : (number : ℕ) (passed reading : List CountedReceiver) (edges : List Edge) (edge : Edge) → ReadOthers passed edge.line
    → edge_lines number (setups_of (passed ++ reading)) edges edge ≡ edge_lines (number + length passed) (setups_of reading) edges edge
unfolding edge_lines
passed-lines number [] reading edges edge others = (let same : number ≡ number + 0 = omega arith in ap (λ (n : ℕ). edge_lines n (setups_of reading) edges edge) same)
passed-lines number (channel ∷ passed) reading edges edge others =
    let same : number + 1 + length passed ≡ number + suc (length passed) = omega arith in
    ap (λ l. l ++ edge_lines (number + 1) (setups_of (passed ++ reading)) edges edge) (no-lines number (reports_added channel.setup edges edge) (nothing-added channel.setup edges edge (All-head (ReadsOther edge.line) channel passed others)))
    ∙ passed-lines (number + 1) passed reading edges edge (All-tail (ReadsOther edge.line) channel passed others)
    ∙ ap (λ (n : ℕ). edge_lines n (setups_of reading) edges edge) same

-- channels from a number on in two parts, the first of which read other lines than this
pub record Parted (channels passed reading : List CountedReceiver) (line number next : ℕ) : Type 0 where
  pub parts : channels ≡ passed ++ reading
  pub others : ReadOthers passed line
  pub place : next ≡ number + length passed

pub parted : (channels passed reading : List CountedReceiver) (line number count : ℕ) → channels ≡ passed ++ reading → passed ≡ take count channels → length passed ≡ count → ReadOthers (take count channels) line
    → Parted channels passed reading line number (number + count)
parted channels passed reading line number count parts front long others =
    record { parts = parts; others = subst (λ (l : List CountedReceiver). ReadOthers l line) (sym front) others; place = omega (arith, long) }

-- the lines of an edge are those of the second part
pub passed-told : (told : Bool) (number next : ℕ) (channels passed reading : List CountedReceiver) (edges : List Edge) (edge : Edge) → Parted channels passed reading edge.line number next
    → told_lines told (edge_lines next (setups_of reading) edges edge) ≡ told_lines told (edge_lines number (setups_of channels) edges edge)
passed-told told number next channels passed reading edges edge p =
    ap (told_lines told) (ap (λ (n : ℕ). edge_lines n (setups_of reading) edges edge) p.place ∙ sym (passed-lines number passed reading edges edge p.others) ∙ ap (λ (l : List CountedReceiver). edge_lines number (setups_of l) edges edge) (sym p.parts))

-- the second part follows
pub reading-follow : (channels passed reading : List CountedReceiver) (line number next : ℕ) (edges : List Edge) → Parted channels passed reading line number next → AllFollow channels edges → AllFollow reading edges
reading-follow channels passed reading line number next edges p follow = (parts-follow passed reading edges (subst (λ (l : List CountedReceiver). AllFollow l edges) p.parts follow)).1

-- once the second part has taken the edge, all have
pub joined-follow : (channels passed reading after : List CountedReceiver) (number next : ℕ) (edges : List Edge) (edge : Edge) → Parted channels passed reading edge.line number next → AllFollow channels edges
    → AllFollow after (edges ++ edge ∷ []) → AllFollow (passed ++ after) (edges ++ edge ∷ [])
joined-follow channels passed reading after number next edges edge p follow taken =
    let both = parts-follow passed reading edges (subst (λ (l : List CountedReceiver). AllFollow l edges) p.parts follow) in
    all-follow-append passed after (edges ++ edge ∷ []) (passed-follow passed edges edge p.others both.0) taken
