-- A byte is read, and what it ends is taken.
use Rattle.std.proofs.Common.{◌≡◌, ◌∷◌, [], ◌++◌, Ok, refl}
use Rattle.edge_trace.specs.Limits.{answers_of, edges_of}
use Rattle.decode_command.specs.Runs.{decoding_of}
use Rattle.decode_command.proofs.TakeBytes.{none-took, row-took, row-cut, fault-stops, row-in_range, row-room}
use Rattle.decode_command.proofs.run.Run.take_byte.Goals as goal

pub put_row-requires-clause-in_range : goal.put_row-requires-clause-in_range
put_row-requires-clause-in_range g c =
    let bytes = c.requires.0 in
    let later = bytes ++ c.args.byte ∷ [] in
    let grows : answers_of later ≡ answers_of bytes ++ Ok c.in-Some-Ok.row.edges ∷ [] = rw c.in-Some-Ok.field-0-is at (c.in-Some-Ok.ensures.grows bytes c.requires.1.lines) in
    row-in_range bytes later c.in-Some-Ok.row.edges grows

pub put_row-requires-clause-follow : goal.put_row-requires-clause-follow
put_row-requires-clause-follow g c =
    let bytes = c.requires.0 in
    let later = bytes ++ c.args.byte ∷ [] in
    let grows : answers_of later ≡ answers_of bytes ++ Ok c.in-Some-Ok.row.edges ∷ [] = rw c.in-Some-Ok.field-0-is at (c.in-Some-Ok.ensures.grows bytes c.requires.1.lines) in
    (edges_of bytes, c.requires.1.follow, row-room bytes later c.in-Some-Ok.row.edges grows)

pub returns-in-None-clause-took : goal.returns-in-None-clause-took
returns-in-None-clause-took g c = λ bytes before.
    none-took c.args.self.now _ _ bytes (bytes ++ c.args.byte ∷ []) before refl refl (c.in-None.ensures.stands bytes before.lines) (c.in-None.ensures.grows bytes before.lines)

pub returns-in-Ok-clause-took : goal.returns-in-Ok-clause-took
returns-in-Ok-clause-took g c = λ bytes before.
    let row = c.in-Some-Ok.row.edges in
    row-took c.args.self.now c.feed.new.self c.put_row.new.self _ _ bytes (bytes ++ c.args.byte ∷ []) row before c.put_row.ensures.lines (c.in-Some-Ok.ensures.stands bytes before.lines) (rw c.in-Some-Ok.field-0-is at (c.in-Some-Ok.ensures.grows bytes before.lines))
    (c.in-Ok.ensures.follow (edges_of bytes) before.follow)
    (c.in-Ok.ensures.written (edges_of bytes) before.follow)

pub returns-in-Err-clause-stopped : goal.returns-in-Err-clause-stopped
returns-in-Err-clause-stopped g c = λ bytes before.
    row-cut (decoding_of c.args.self.now) _ _ bytes (bytes ++ c.args.byte ∷ []) c.in-Some-Ok.row.edges (rw c.in-Some-Ok.field-0-is at (c.in-Some-Ok.ensures.grows bytes before.lines))
    (c.in-Err.ensures.cut (edges_of bytes) before.follow)

pub returns-in-Some-Err-clause-stopped : goal.returns-in-Some-Err-clause-stopped
returns-in-Some-Err-clause-stopped g c = λ bytes before.
    let later = bytes ++ c.args.byte ∷ [] in
    fault-stops (decoding_of c.args.self.now) _ bytes later c.line_number.result c.in-Some-Err.fault before.sound (rw c.in-Some-Err.field-0-is at (c.in-Some-Err.ensures.grows bytes before.lines)) (c.line_number.ensures.number later (c.in-Some-Err.ensures.stands bytes before.lines))
