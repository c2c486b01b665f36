-- The last line is read, and what it is is taken.
use Rattle.std.proofs.Common.{◌≡◌, ◌∷◌, [], ◌++◌, List, Ok, refl, sym, subst}
use Rattle.line_base.specs.declared.edge.Edge.{Edge}
use Rattle.edge_trace.specs.Limits.{answers_of, whole_answers_of, edges_of, line_number_of}
use Rattle.decode_command.specs.Followed.{AllFollow}
use Rattle.decode_command.specs.Runs.{decoding_of}
use Rattle.decode_command.proofs.LastLines.{last_row-edges, no_row-edges, no_row-put, last_row-put, last_row-cut, last_line-refused, last_row-in_range, last_row-room}
use Rattle.decode_command.proofs.run.Run.take_last.Goals as goal

pub put_row-requires-clause-in_range : goal.put_row-requires-clause-in_range
put_row-requires-clause-in_range g c =
    let bytes = c.requires.0 in
    let grows : whole_answers_of bytes ≡ answers_of bytes ++ Ok c.in-Some-Ok.row.edges ∷ [] = rw c.in-Some-Ok.field-0-is at (c.in-Some-Ok.ensures.whole bytes c.requires.1.lines) in
    last_row-in_range bytes c.in-Some-Ok.row.edges grows

pub put_row-requires-clause-follow : goal.put_row-requires-clause-follow
put_row-requires-clause-follow g c =
    let bytes = c.requires.0 in
    let grows : whole_answers_of bytes ≡ answers_of bytes ++ Ok c.in-Some-Ok.row.edges ∷ [] = rw c.in-Some-Ok.field-0-is at (c.in-Some-Ok.ensures.whole bytes c.requires.1.lines) in
    (edges_of bytes, c.requires.1.follow, last_row-room bytes c.in-Some-Ok.row.edges grows)

pub returns-in-None-clause-follow : goal.returns-in-None-clause-follow
returns-in-None-clause-follow g c = λ bytes before.
    subst (λ (es : List Edge). AllFollow c.args.self.now.channels.items es) (sym (no_row-edges bytes (c.in-None.ensures.whole bytes before.lines))) before.follow

pub returns-in-None-clause-taken : goal.returns-in-None-clause-taken
returns-in-None-clause-taken g c = λ bytes before. no_row-put (decoding_of c.args.self.now) _ bytes before.sound (c.in-None.ensures.whole bytes before.lines)

pub returns-in-Ok-clause-follow : goal.returns-in-Ok-clause-follow
returns-in-Ok-clause-follow g c = λ bytes before.
    subst (λ (es : List Edge). AllFollow c.put_row.new.self.channels.items es) (sym (last_row-edges bytes c.in-Some-Ok.row.edges (rw c.in-Some-Ok.field-0-is at (c.in-Some-Ok.ensures.whole bytes before.lines))))
    (c.in-Ok.ensures.follow (edges_of bytes) before.follow)

pub returns-in-Ok-clause-taken : goal.returns-in-Ok-clause-taken
returns-in-Ok-clause-taken g c = λ bytes before.
    last_row-put (decoding_of c.args.self.now) _ _ bytes c.in-Some-Ok.row.edges before.sound (rw c.in-Some-Ok.field-0-is at (c.in-Some-Ok.ensures.whole bytes before.lines))
    (c.in-Ok.ensures.written (edges_of bytes) before.follow)

pub returns-in-Err-clause-taken : goal.returns-in-Err-clause-taken
returns-in-Err-clause-taken g c = λ bytes before.
    last_row-cut (decoding_of c.args.self.now) _ _ bytes c.in-Some-Ok.row.edges (rw c.in-Some-Ok.field-0-is at (c.in-Some-Ok.ensures.whole bytes before.lines))
    (c.in-Err.ensures.cut (edges_of bytes) before.follow)

pub returns-in-Some-Err-clause-taken : goal.returns-in-Some-Err-clause-taken
returns-in-Some-Err-clause-taken g c = λ bytes before.
    let refused = last_line-refused bytes c.line_number.result c.in-Some-Err.fault before.sound (rw c.in-Some-Err.field-0-is at (c.in-Some-Err.ensures.whole bytes before.lines))
    (c.line_number.ensures.ended (line_number_of bytes) (c.in-Some-Err.ensures.ends bytes before.lines)) in
    (refused.0, refused.1, refl)
