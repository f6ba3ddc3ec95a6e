-- The counts that the adapters keep.
use Rattle.std.specs.Prelude.{ℕ}
use Rattle.cq_outside.specs.declared.real.file_shelf.FileShelf.{FileShelf}
use Rattle.cq_outside.specs.declared.real.reader_source.ReaderSource.{ReaderSource}
use Rattle.cq_outside.specs.declared.real.writer_sink.WriterSink.{WriterSink}

-- how many reads failed
abbrev pub read_faults : {R : Type 0} → ReaderSource R → ℕ
read_faults s = s.faults

-- how many bytes were read
abbrev pub bytes_taken : {R : Type 0} → ReaderSource R → ℕ
bytes_taken s = s.taken

-- how many writes failed
abbrev pub write_faults : {W : Type 0} → WriterSink W → ℕ
write_faults s = s.faults

-- how many loads failed
abbrev pub load_faults : {R F D : Type 0} → FileShelf R F D → ℕ
load_faults s = s.faults

-- how many loads were refused
abbrev pub loads_refused : {R F D : Type 0} → FileShelf R F D → ℕ
loads_refused s = s.refused
