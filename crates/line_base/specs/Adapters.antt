-- What stands behind a source and a sink over std, and their counts of faults; this project's own.
use Rattle.std.specs.Prelude.{ℕ}
use Rattle.line_base.specs.declared.std_streams.StdSink.{StdSink}
use Rattle.line_base.specs.declared.std_streams.StdSource.{StdSource}
use Rattle.line_base.specs.declared.lazy_file_sink.LazyFileSink.{LazyFileSink}

-- the reader behind a source
abbrev pub source_reader : {R : Type 0} → StdSource R → R
source_reader source = source.reader

-- how often a pull of the source has failed
abbrev pub source_faults : {R : Type 0} → StdSource R → ℕ
source_faults source = source.faults

-- the writer behind a sink
abbrev pub sink_writer : {W : Type 0} → StdSink W → W
sink_writer sink = sink.writer

-- how often a put to the sink has failed
abbrev pub sink_faults : {W : Type 0} → StdSink W → ℕ
sink_faults sink = sink.faults

-- the number of a lane whose file is a sink
abbrev pub lane_number : {R F D : Type 0} → LazyFileSink R F D → ℕ
lane_number lane = lane.number

-- how often a put to the file of a lane has failed
abbrev pub lane_faults : {R F D : Type 0} → LazyFileSink R F D → ℕ
lane_faults lane = lane.faults
