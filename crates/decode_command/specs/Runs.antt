-- How far a run over bytes has come, and why it stops; this project's own.
use Rattle.std.specs.Prelude.{◌≡◌, ℕ, List, [], Option, None, Some, Result, Ok, Err}
use Rattle.edge_trace.specs.Limits.{edges_of, fault_of, whole_edges_of, whole_fault_of}
use Rattle.edge_trace.specs.Readers.{StandsFor}
use Rattle.command_base.specs.Tasks.{Task}
use Rattle.decode_command.specs.declared.run.Run.{Run}
use Rattle.decode_command.specs.declared.run.Stop.{Stop}
use Rattle.decode_command.specs.declared.run.Stop.TheVariants as stop
use Rattle.decode_command.specs.Channels.{Decoding, decoding_task, text_so_far}
use Rattle.decode_command.specs.Followed.{AllFollow, setups_of}
use Rattle.decode_command.specs.Writes.{Written, GrowsAlong, GrowsTowards}

-- what a run decodes and tells
abbrev pub decoding_of : Run → Decoding
decoding_of run = record { setups = setups_of run.channels.items; told = run.told }

-- an output that holds this, for which a run has gathered its lines
abbrev pub written_by : Run → Option (List ℕ) → Written
written_by run got = record { got = got; gathered = run.text }

-- an output that holds this, for which nothing is gathered
abbrev pub put_out : Option (List ℕ) → Written
put_out got = record { got = got; gathered = [] }

-- a run has taken these bytes, which have no fault: its edge reader stands for them, and its channels have taken their edges
pub record Reads (run : Run) (bytes : List ℕ) : Type 0 where
  pub lines : StandsFor run.lines bytes
  pub sound : fault_of bytes ≡ None
  pub follow : AllFollow run.channels.items (edges_of bytes)

-- a run took bytes up to a later list of bytes, and what it wrote went along
pub record TookBytes (old new : Run) (got got' : Option (List ℕ)) (earlier bytes : List ℕ) : Type 0 where
  pub reads : Reads new bytes
  pub grows : GrowsAlong (written_by old got) (written_by new got') (text_so_far (decoding_of old) (edges_of earlier)) (text_so_far (decoding_of old) (edges_of bytes))

-- a run has taken these bytes, which have no fault, of this task, and has put all its lines
pub record HasPut (task : Task) (run : Run) (bytes : List ℕ) : Type 0 where
  pub decodes : task ≡ decoding_task (decoding_of run)
  pub gathered : run.text ≡ []
  pub reads : Reads run bytes

-- what a run that stopped at its bytes has written since earlier ones: at a line that is refused, the text so far; at a put that failed, a front of it
abbrev pub StoppedAt : Decoding → Stop → Written → Written → List ℕ → List ℕ → Type 0
StoppedAt decoding (stop.Line number fault) old new earlier bytes =
    (fault_of bytes ≡ Some (number, fault)) × GrowsAlong old new (text_so_far decoding (edges_of earlier)) (text_so_far decoding (edges_of bytes))
StoppedAt decoding stop.Put old new earlier bytes = GrowsTowards old new.got (text_so_far decoding (edges_of earlier)) (text_so_far decoding (edges_of bytes))

-- what the end of the input was found to be: a refused last line, which adds no edge, or an edge list without a fault, whose last row is taken
abbrev pub LastTaken : Decoding → Result (Unit {0}) Stop → Written → Written → List ℕ → Type 0
LastTaken decoding (Ok done) old new bytes = (whole_fault_of bytes ≡ None) × GrowsAlong old new (text_so_far decoding (edges_of bytes)) (text_so_far decoding (whole_edges_of bytes))
LastTaken decoding (Err (stop.Line number fault)) old new bytes = (whole_fault_of bytes ≡ Some (number, fault)) × (whole_edges_of bytes ≡ edges_of bytes) × (new ≡ old)
LastTaken decoding (Err stop.Put) old new bytes = GrowsTowards old new.got (text_so_far decoding (edges_of bytes)) (text_so_far decoding (whole_edges_of bytes))
