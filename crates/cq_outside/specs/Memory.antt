-- What the objects in memory show.
use Rattle.std.specs.Prelude.{ℕ, List, drop, Option, Vec, String}
use Rattle.std.specs.BTreeMap.{BTreeMap, get_by_text}
use Rattle.std.specs.Option.{option_map}
use Rattle.std.specs.declared.alloc.Global.{Global}
use Rattle.cq_outside.specs.Files.{Files}
use Rattle.cq_outside.specs.declared.calls.Calls.{Calls}
use Rattle.cq_outside.specs.declared.memory_source.SteadySource.{SteadySource}
use Rattle.cq_outside.specs.declared.memory_source.MemSource.{MemSource}
use Rattle.cq_outside.specs.declared.memory_sink.MemSink.{MemSink}
use Rattle.cq_outside.specs.declared.memory_shelf.SteadyShelf.{SteadyShelf}
use Rattle.cq_outside.specs.declared.memory_shelf.MemShelf.{MemShelf}

-- the bytes that a source in memory has left
abbrev pub steady_source_bytes : SteadySource → List ℕ
steady_source_bytes s = drop s.at s.bytes.items

abbrev pub source_bytes : MemSource → List ℕ
source_bytes s = steady_source_bytes s.bytes

abbrev pub source_calls : MemSource → Calls
source_calls s = s.calls

-- how many bytes a read takes at most
abbrev pub source_piece : MemSource → ℕ
source_piece s = s.piece

-- how many bytes were taken
abbrev pub steady_source_taken : SteadySource → ℕ
steady_source_taken s = s.at

abbrev pub source_taken : MemSource → ℕ
source_taken s = steady_source_taken s.bytes

-- the bytes that a sink in memory holds
abbrev pub sink_bytes : MemSink → List ℕ
sink_bytes s = s.bytes.items

abbrev pub sink_calls : MemSink → Calls
sink_calls s = s.calls

-- how many bytes a write takes at most
abbrev pub sink_piece : MemSink → ℕ
sink_piece s = s.piece

-- the bytes of each file by its name, in a map of files by their names
abbrev pub files_of : BTreeMap (String Global) (Vec ℕ Global) → Files
files_of files name = option_map (λ file. file.items) (get_by_text files name)

abbrev pub steady_shelf_files : SteadyShelf → Files
steady_shelf_files s = files_of s.files

abbrev pub shelf_files : MemShelf → Files
shelf_files s = steady_shelf_files s.files

-- how many loads a shelf in memory refused
abbrev pub steady_shelf_refused : SteadyShelf → ℕ
steady_shelf_refused s = s.refused

abbrev pub shelf_refused : MemShelf → ℕ
shelf_refused s = steady_shelf_refused s.files

abbrev pub shelf_calls : MemShelf → Calls
shelf_calls s = s.calls
