use Rattle.std.proofs.Common.{◌∙◌}
use Rattle.cq_term.specs.Texts.{text_of}
use Rattle.cq_term.specs.Meaning.{at}
use Rattle.cq_catch.proofs.Terms.{shows_compound}
use Rattle.cq_catch.proofs.matching.matching.rule_of.Goals as goal

pub unreachable-requires : goal.unreachable-requires
unreachable-requires c =
    let r = c.requires.reads in
    let s = shows_compound (text_of r.0) (at c.args.heap.now.now.terms c.args.asked) r.1 r.2 in
    c.in_default.not-Compound s.0 s.1 (c.view.ensures.view ∙ s.2)
