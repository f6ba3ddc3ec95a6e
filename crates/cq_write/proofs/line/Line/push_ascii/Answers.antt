use Rattle.std.proofs.Common.{◌∙◌, ap, sym}
use Rattle.std.proofs.lemmas.Str.{chars-IsAscii}
use Rattle.spec_text.specs.Texts.{last_of}
use Rattle.cq_write.proofs.line.Line.push_ascii.Goals as goal

pub place-requires : goal.place-requires
place-requires c = c.last_byte.ensures ∙ ap last_of (c.as_bytes.ensures.value ∙ sym (chars-IsAscii c.args.piece.now c.requires))
