-- Runs over bytes: their first byte, and what is put behind a pull.
use Rattle.std.proofs.Common.{◌≡◌, ℕ, List, [], ◌++◌, Option, None, Some, ap, sym, subst}
use Rattle.std.specs.Io.KnownBytes.{Appends}
use Rattle.line_base.specs.Streams.{AppendsFront}
use Rattle.line_base.specs.declared.edge.Edge.{Edge}
use Rattle.line_base.specs.declared.faults.LineFault.{LineFault}
use Rattle.edge_trace.specs.Readers.{StandsFor}
use Rattle.decode_command.specs.declared.run.Run.{Run}
use Rattle.decode_command.specs.Followed.{AllFollow}
use Rattle.decode_command.specs.Writes.{Written, Takes, GrowsAlong, GrowsTowards}
use Rattle.command_base.specs.Grown as output
use Rattle.decode_command.specs.Runs.{Reads, put_out}
use Rattle.decode_command.proofs.EdgeLists.{edges-nil, fault-nil}
use Rattle.edge_trace.specs.Limits.{edges_of, whole_edges_of, whole_fault_of}
use Rattle.decode_command.specs.Channels.{Decoding, text_so_far, whole_text, text_of}
use Rattle.decode_command.proofs.Fronts.{input-sound, input-refused}
use Rattle.decode_command.proofs.Writing.{takes-put, takes-cut, takes-bare, grows-twice, grows-cut}
use Rattle.command_base.proofs.Growing.{grows-nothing}

-- a run that has taken no byte
pub reads-nothing : (run : Run) → StandsFor run.lines [] → AllFollow run.channels.items [] → Reads run []
reads-nothing run stands follow = record { lines = stands; sound = fault-nil; follow = subst (λ (es : List Edge). AllFollow run.channels.items es) (sym edges-nil) follow }

-- a growth, behind which all that is gathered is put
pub grows-put : (a b : Written) (got : Option (List ℕ)) (x y : List ℕ) → GrowsAlong a b x y → Appends b.got got b.gathered → GrowsAlong a (put_out got) x y
grows-put a b got x y grows put = record { more = grows.more; is = grows.is; taken = takes-put a b got grows.more grows.taken put }

-- or a front of it
pub grows-cut_off : (a b : Written) (got : Option (List ℕ)) (x y : List ℕ) → GrowsAlong a b x y → AppendsFront b.got got b.gathered → GrowsTowards a got x y
grows-cut_off a b got x y grows cut = record { more = grows.more; is = grows.is; front = takes-cut a b got grows.more grows.taken cut }

-- the same, where nothing was gathered before
pub grows-from : (held : List ℕ) (got got' : Option (List ℕ)) (x y : List ℕ) → held ≡ [] → GrowsAlong (record { got = got; gathered = held }) (put_out got') x y → output.GrowsAlong got got' x y
grows-from held got got' x y none grows =
    let bare = subst (λ (l : List ℕ). Takes (record { got = got; gathered = l }) (put_out got') grows.more) none grows.taken in
    record { more = grows.more; is = grows.is; appended = takes-bare got got' grows.more bare }

pub towards-from : (held : List ℕ) (got got' : Option (List ℕ)) (x y : List ℕ) → held ≡ [] → GrowsTowards (record { got = got; gathered = held }) got' x y → output.GrowsTowards got got' x y
towards-from held got got' x y none grows =
    record { more = grows.more; is = grows.is; front = subst (λ (l : List ℕ). AppendsFront got got' (l ++ grows.more)) none grows.front }

-- a run that differs in what it has gathered alone has taken the same bytes
pub reads-same : (old new : Run) (bytes : List ℕ) → new.lines ≡ old.lines → new.channels ≡ old.channels → Reads old bytes → Reads new bytes
reads-same old new bytes lines channels before = record { lines = rw lines before.lines; sound = before.sound; follow = rw channels before.follow }

-- the last row's lines, and then what the end adds
pub end-grows : (decoding now : Decoding) (held : List ℕ) (got got' : Option (List ℕ)) (b : Written) (bytes : List ℕ) → held ≡ [] → whole_fault_of bytes ≡ None
    → GrowsAlong (record { got = got; gathered = held }) b (text_so_far decoding (edges_of bytes)) (text_so_far decoding (whole_edges_of bytes)) → now ≡ decoding
    → GrowsAlong b (put_out got') (text_so_far now (whole_edges_of bytes)) (whole_text now (whole_edges_of bytes))
    → output.GrowsAlong got got' (text_so_far decoding (edges_of bytes)) (text_of decoding bytes)
end-grows decoding now held got got' b bytes none sound last same ended =
    grows-from held got got' (text_so_far decoding (edges_of bytes)) (text_of decoding bytes) none
    (grows-twice (record { got = got; gathered = held }) b (put_out got') (text_so_far decoding (edges_of bytes)) (text_so_far decoding (whole_edges_of bytes)) (text_of decoding bytes) last
    (subst (λ (t : List ℕ). GrowsAlong b (put_out got') (text_so_far decoding (whole_edges_of bytes)) t) (input-sound decoding bytes sound)
    (subst (λ (d : Decoding). GrowsAlong b (put_out got') (text_so_far d (whole_edges_of bytes)) (whole_text d (whole_edges_of bytes))) same ended)))

-- or a front of it
pub end-cuts : (decoding now : Decoding) (held : List ℕ) (got got' : Option (List ℕ)) (b : Written) (bytes : List ℕ) → held ≡ [] → whole_fault_of bytes ≡ None
    → GrowsAlong (record { got = got; gathered = held }) b (text_so_far decoding (edges_of bytes)) (text_so_far decoding (whole_edges_of bytes)) → now ≡ decoding
    → GrowsTowards b got' (text_so_far now (whole_edges_of bytes)) (whole_text now (whole_edges_of bytes))
    → output.GrowsTowards got got' (text_so_far decoding (edges_of bytes)) (text_of decoding bytes)
end-cuts decoding now held got got' b bytes none sound last same ended =
    towards-from held got got' (text_so_far decoding (edges_of bytes)) (text_of decoding bytes) none
    (grows-cut (record { got = got; gathered = held }) b got' (text_so_far decoding (edges_of bytes)) (text_so_far decoding (whole_edges_of bytes)) (text_of decoding bytes) last
    (subst (λ (t : List ℕ). GrowsTowards b got' (text_so_far decoding (whole_edges_of bytes)) t) (input-sound decoding bytes sound)
    (subst (λ (d : Decoding). GrowsTowards b got' (text_so_far d (whole_edges_of bytes)) (whole_text d (whole_edges_of bytes))) same ended)))

-- behind a refused last line nothing is written
pub end-refused : (decoding : Decoding) (old new : Written) (bytes : List ℕ) (fault : ℕ × LineFault) → whole_fault_of bytes ≡ Some fault → whole_edges_of bytes ≡ edges_of bytes → new ≡ old
    → output.GrowsAlong old.got new.got (text_so_far decoding (edges_of bytes)) (text_of decoding bytes)
end-refused decoding old new bytes fault found none kept =
    subst (λ (g : Option (List ℕ)). output.GrowsAlong old.got g (text_so_far decoding (edges_of bytes)) (text_of decoding bytes)) (sym (ap (λ (w : Written). w.got) kept))
    (subst (λ (t : List ℕ). output.GrowsAlong old.got old.got (text_so_far decoding (edges_of bytes)) t) (sym (input-refused decoding bytes fault found none)) (grows-nothing old.got (text_so_far decoding (edges_of bytes))))
