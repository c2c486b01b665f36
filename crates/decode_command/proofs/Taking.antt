-- Channels that take an edge or the end, one after another, and what is written of it.
use Rattle.std.proofs.Common.{arith, length, append_assoc, append-nil, None, ◌≡◌, ℕ, ◌+◌, List, [], ◌∷◌, ◌++◌, Bool, true, false, Option, ap, sym, subst, ◌∙◌, refl, ◌||◌}
use Rattle.std.specs.List.{All}
use Rattle.std.proofs.lemmas.List.{map-append}
use Rattle.std.proofs.lemmas.List.Elements.{All-head, All-tail}
use Rattle.receiver_core.specs.Setups.{setup_fault_of}
use Rattle.line_base.specs.declared.edge.Edge.{Edge}
use Rattle.receiver_core.specs.declared.report.Report.{Report}
use Rattle.receiver_core.specs.declared.setup.ChannelSetup.{ChannelSetup}
use Rattle.receiver_core.specs.declared.tally.Tally.{Tally}
use Rattle.receiver_core.specs.declared.counted_receiver.CountedReceiver.{CountedReceiver}
use Rattle.report_text.specs.Reports.{report_line, lines_of}
use Rattle.report_text.specs.Totals.{total_line}
use Rattle.decode_command.specs.Channels.{reports_added, reports_of_end, edge_lines, end_lines, total_lines, told_lines, has_marks, is_marked}
use Rattle.decode_command.specs.Followed.{Follows, AllFollow, AllCounted, setups_of}
use Rattle.decode_command.specs.Writes.{Written, Takes, TakesFront}
use Rattle.decode_command.proofs.Writing.{takes-then, then-cut, cut-behind, told-then, lines-then, no-lines}

-- a text in two parts, both of which are written
pub both-written : (a b c : Written) (some others all : List ℕ) → all ≡ some ++ others → Takes a b some → Takes b c others → Takes a c all
both-written a b c some others all parts first second = subst (λ (text : List ℕ). Takes a c text) (sym parts) (takes-then a b c some others first second)

-- the second of which is cut
pub second-cut : (a b : Written) (got : Option (List ℕ)) (some others all : List ℕ) → all ≡ some ++ others → Takes a b some → TakesFront b got others → TakesFront a got all
second-cut a b got some others all parts first cut = subst (λ (text : List ℕ). TakesFront a got text) (sym parts) (then-cut a b got some others first cut)

-- the first of which is cut
pub first-cut : (a : Written) (got : Option (List ℕ)) (some others all : List ℕ) → all ≡ some ++ others → TakesFront a got some → TakesFront a got all
first-cut a got some others all parts cut = subst (λ (text : List ℕ). TakesFront a got text) (sym parts) (cut-behind a got some others cut)

-- the lines of a report and of the others
pub lines-parts : (number : ℕ) (all : List Report) (report : Report) (others : List Report) → all ≡ report ∷ others → lines_of number all ≡ report_line number report ++ lines_of number others
lines-parts number all report others parts = sym (lines-then number report others all parts)

told-parts : (told : Bool) (some others all : List ℕ) → all ≡ some ++ others → told_lines told all ≡ told_lines told some ++ told_lines told others
told-parts told some others all parts = ap (told_lines told) parts ∙ sym (told-then told some others)

-- the lines that an edge adds, by the first channel and by the others
pub edge-parts : (told : Bool) (number : ℕ) (channels : List CountedReceiver) (channel : CountedReceiver) (others : List CountedReceiver) (edges : List Edge) (edge : Edge) → channels ≡ channel ∷ others
    → told_lines told (edge_lines number (setups_of channels) edges edge) ≡ told_lines told (lines_of number (reports_added channel.setup edges edge)) ++ told_lines told (edge_lines (number + 1) (setups_of others) edges edge)
unfolding edge_lines
edge-parts told number channels channel others edges edge parts =
    told-parts told (lines_of number (reports_added channel.setup edges edge)) (edge_lines (number + 1) (setups_of others) edges edge) (edge_lines number (setups_of channels) edges edge)
    (ap (λ cs. edge_lines number (setups_of cs) edges edge) parts)

-- no channel adds none
pub edge-none : (told : Bool) (number : ℕ) (channels : List CountedReceiver) (edges : List Edge) (edge : Edge) → channels ≡ [] → [] ≡ told_lines told (edge_lines number (setups_of channels) edges edge)
unfolding edge_lines
edge-none true number channels edges edge none = sym (ap (λ cs. edge_lines number (setups_of cs) edges edge) none)
edge-none false number channels edges edge none = refl

-- the lines that the end adds, by the first channel and by the others
pub end-parts : (told : Bool) (number : ℕ) (channels : List CountedReceiver) (channel : CountedReceiver) (others : List CountedReceiver) (edges : List Edge) → channels ≡ channel ∷ others
    → told_lines told (end_lines number (setups_of channels) edges) ≡ told_lines told (lines_of number (reports_of_end channel.setup edges)) ++ told_lines told (end_lines (number + 1) (setups_of others) edges)
unfolding end_lines
end-parts told number channels channel others edges parts =
    told-parts told (lines_of number (reports_of_end channel.setup edges)) (end_lines (number + 1) (setups_of others) edges) (end_lines number (setups_of channels) edges)
    (ap (λ cs. end_lines number (setups_of cs) edges) parts)

pub end-none : (told : Bool) (number : ℕ) (channels : List CountedReceiver) (edges : List Edge) → channels ≡ [] → [] ≡ told_lines told (end_lines number (setups_of channels) edges)
unfolding end_lines
end-none true number channels edges none = sym (ap (λ cs. end_lines number (setups_of cs) edges) none)
end-none false number channels edges none = refl

-- the total lines, by the first channel, which has counted all, and by the others
pub total-parts : (number : ℕ) (channels : List CountedReceiver) (channel : CountedReceiver) (others : List CountedReceiver) (edges : List Edge) → channels ≡ channel ∷ others → AllCounted channels edges
    → total_lines number (setups_of channels) edges ≡ total_line number channel.tally ++ total_lines (number + 1) (setups_of others) edges
unfolding total_lines
total-parts number channels channel others edges parts counted =
    let all : AllCounted (channel ∷ others) edges = subst (λ (cs : List CountedReceiver). AllCounted cs edges) parts counted in
    ap (λ cs. total_lines number (setups_of cs) edges) parts ∙ ap (λ (t : Tally). total_line number t ++ total_lines (number + 1) (setups_of others) edges) (sym all.0)

pub total-none : (number : ℕ) (channels : List CountedReceiver) (edges : List Edge) → channels ≡ [] → [] ≡ total_lines number (setups_of channels) edges
unfolding total_lines
total-none number channels edges none = sym (ap (λ cs. total_lines number (setups_of cs) edges) none)

-- no channel is marked, or the first or another one is
pub marked-none : (channels : List CountedReceiver) (edges : List Edge) → channels ≡ [] → false ≡ is_marked (setups_of channels) edges
unfolding is_marked
marked-none channels edges none = sym (ap (λ cs. is_marked (setups_of cs) edges) none)

pub marked-parts : (channels : List CountedReceiver) (channel : CountedReceiver) (others : List CountedReceiver) (edges : List Edge) → channels ≡ channel ∷ others → AllCounted channels edges
    → has_marks channel.tally || is_marked (setups_of others) edges ≡ is_marked (setups_of channels) edges
unfolding is_marked
marked-parts channels channel others edges parts counted =
    let all : AllCounted (channel ∷ others) edges = subst (λ (cs : List CountedReceiver). AllCounted cs edges) parts counted in
    ap (λ (t : Tally). has_marks t || is_marked (setups_of others) edges) all.0 ∙ sym (ap (λ cs. is_marked (setups_of cs) edges) parts)

-- the first and the others follow
pub follow-parts : (channels : List CountedReceiver) (channel : CountedReceiver) (others : List CountedReceiver) (edges : List Edge) → channels ≡ channel ∷ others → AllFollow channels edges → Follows channel edges × AllFollow others edges
follow-parts channels channel others edges parts follow = subst (λ (cs : List CountedReceiver). AllFollow cs edges) parts follow

-- no channel is left to take them
pub none-follow : (channels : List CountedReceiver) (edges : List Edge) → length channels ≡ 0 → AllFollow channels edges
none-follow [] edges none = tt
none-follow (channel ∷ channels) edges none = absurd (omega arith)

pub counted-parts : (channels : List CountedReceiver) (channel : CountedReceiver) (others : List CountedReceiver) (edges : List Edge) → channels ≡ channel ∷ others → AllCounted channels edges → AllCounted others edges
counted-parts channels channel others edges parts counted = let all : AllCounted (channel ∷ others) edges = subst (λ (cs : List CountedReceiver). AllCounted cs edges) parts counted in all.1

-- a list without a first element
pub none-left : {A : Type 0} (xs : List A) → length xs ≡ 0 → xs ≡ []
none-left [] e = refl
none-left (x ∷ xs) e = absurd (omega arith)

-- no report has no line, told or not
pub told-nothing : (told : Bool) (number : ℕ) (reports : List Report) → reports ≡ [] → told_lines told (lines_of number reports) ≡ []
told-nothing true number reports none = no-lines number reports none
told-nothing false number reports none = refl

-- channels are made of the first of these setups, none of which has a fault, and none has taken an edge
pub record MadeSoFar (setups rest : List ChannelSetup) (channels : List CountedReceiver) : Type 0 where
  pub parts : setups_of channels ++ rest ≡ setups
  pub sound : All (λ setup. setup_fault_of setup ≡ None) rest
  pub follow : AllFollow channels []

-- channels in two parts
pub all-follow-append : (channels more : List CountedReceiver) (edges : List Edge) → AllFollow channels edges → AllFollow more edges → AllFollow (channels ++ more) edges
all-follow-append [] more edges first second = second
all-follow-append (channel ∷ channels) more edges first second = (first.0, all-follow-append channels more edges first.1 second)

-- one channel more is made
pub made-one : (setups rest : List ChannelSetup) (setup : ChannelSetup) (others : List ChannelSetup) (channels : List CountedReceiver) (channel : CountedReceiver) → MadeSoFar setups rest channels → rest ≡ setup ∷ others → channel.setup ≡ setup
    → Follows channel [] → MadeSoFar setups others (channels ++ channel ∷ [])
made-one setups rest setup others channels channel so_far first same follows = record {
  parts = ap (λ l. l ++ others) (map-append (λ (c : CountedReceiver). c.setup) channels (channel ∷ []) ∙ ap (λ s. setups_of channels ++ s ∷ []) same) ∙ append_assoc (setups_of channels) (setup ∷ []) others
      ∙ ap (λ l. setups_of channels ++ l) (sym first) ∙ so_far.parts;
  sound = All-tail (λ setup. setup_fault_of setup ≡ None) setup others (subst (λ (l : List ChannelSetup). All (λ setup. setup_fault_of setup ≡ None) l) first so_far.sound);
  follow = all-follow-append channels (channel ∷ []) [] so_far.follow (follows, tt);
}

-- the next setup has no fault
pub next-sound : (setups rest : List ChannelSetup) (setup : ChannelSetup) (others : List ChannelSetup) (channels : List CountedReceiver) → MadeSoFar setups rest channels → rest ≡ setup ∷ others → setup_fault_of setup ≡ None
next-sound setups rest setup others channels so_far first =
    All-head (λ setup. setup_fault_of setup ≡ None) setup others (subst (λ (l : List ChannelSetup). All (λ setup. setup_fault_of setup ≡ None) l) first so_far.sound)

-- all are made
pub made-all : (setups rest : List ChannelSetup) (channels : List CountedReceiver) → MadeSoFar setups rest channels → rest ≡ [] → setups_of channels ≡ setups
made-all setups rest channels so_far none = sym (append-nil (setups_of channels)) ∙ ap (λ l. setups_of channels ++ l) (sym none) ∙ so_far.parts
