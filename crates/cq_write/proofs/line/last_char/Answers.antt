use Rattle.std.proofs.Common.{sym, ap, ◌∙◌}
use Rattle.std.proofs.lemmas.Iterator.{YieldsList-from_chars}
use Rattle.std.proofs.lemmas.Iterator.Consumers.{YieldsList-end}
use Rattle.std.proofs.lemmas.List.{map-id}
use Rattle.spec_text.specs.Texts.{last_of}
use Rattle.std.proofs.lemmas.Str.{chars-IsAscii}
use Rattle.cq_write.proofs.Steps.{last_of-snoc}
use Rattle.cq_write.proofs.line.last_char.Goals as goal

pub loop-c-preserved : goal.loop-c-preserved
loop-c-preserved c = sym (last_of-snoc c.loop-c.yielded c.in-Some.c)

pub returns : goal.returns
returns c =
    let all = YieldsList-end (YieldsList-from_chars c.args.text.now c.utf8.text cc) c.loop-c.yielded _ c.loop-c.yielded_by _ _ c.in-None.is c.next.ensures.steps in
    c.loop-c.invariant ∙ ap last_of (sym (map-id c.loop-c.yielded) ∙ all.0)

pub returns-then-is_ascii : goal.returns-then-is_ascii
returns-then-is_ascii c = c.last_byte.ensures ∙ ap last_of (c.as_bytes.ensures.value ∙ sym (chars-IsAscii c.args.text.now c.if-is_ascii.ensures.cases))
