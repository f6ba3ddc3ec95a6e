use Rattle.std.proofs.Common.{◌∙◌, sym}
use Rattle.cq_read.proofs.Lookups.{known_named}
use Rattle.cq_read.proofs.NamesLookups.{looks_up, with_names}
use Rattle.cq_read.specs.NamesWords.{names_of}
use Rattle.cq_read.proofs.variables.Variables.known.Goals as goal

pub returns : goal.returns
returns c count =
    let entries = c.self.inside.numbers.entries in
    rw (← c.self.view_is)
    (c.copied.ensures ∙ c.get.ensures.value ∙ looks_up entries c.args.name.now ∙ sym (known_named (with_names count (names_of entries)) c.args.name.now c.if-eq.ensures))
