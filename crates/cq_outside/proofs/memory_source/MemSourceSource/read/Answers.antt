use Rattle.std.proofs.Common.{◌<◌, ◌++◌, Some, drop, length, arith, length-append, length-drop, length-take}
use Rattle.cq_outside.proofs.Told.{reads_into_front}
use Rattle.cq_outside.proofs.memory_source.MemSourceSource.read.Goals as goal

pub returns-clause-bytes : goal.returns-clause-bytes
returns-clause-bytes c =
    let old = c.args.self.now.bytes in
    let new = c.read.new.self in
    let rest = drop c.min-room.result c.args.buf.now in
    let room : 0 < length (c.read.new.buf ++ rest) → 0 < length c.read.new.buf = λ some. omega (arith, length-append c.read.new.buf rest, length-drop c.min-room.result c.args.buf.now, length-take c.min-room.result c.args.buf.now) in
    reads_into_front (Some (drop old.at old.bytes.items)) (Some (drop new.at new.bytes.items)) c.read.result c.read.new.buf rest c.read.ensures.bound room c.read.ensures.bytes
