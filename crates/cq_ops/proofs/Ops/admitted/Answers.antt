use Rattle.std.proofs.Common.{◌≡◌, Some, true, false, ap, ◌∙◌}
use Rattle.std.specs.Int.{w128}
use Rattle.std.proofs.lemmas.Int.{to_z-of_z}
use Rattle.std.specs.Prelude.{bytes_eq, codes}
use Rattle.cq_term.specs.Texts.{text_of}
use Rattle.spec_syntax.specs.Operators.{in_range}
use Rattle.cq_ops.proofs.Named.{clash, set_clash}
use Rattle.cq_ops.proofs.Ops.admitted.Goals as goal

pub returns-then-clashes-clause-refused : goal.returns-then-clashes-clause-refused
returns-then-clashes-clause-refused c =
    let texts = c.args.atoms.now in
    let p = c.in-Some.priority in
    let kind = c.in-Some-kind_named.kind in
    let in_priority : Some p ≡ in_range c.args.priority = c.in-Some.ensures ∙ ap in_range (to_z-of_z w128 c.args.priority c.ranges.priority) in
    let no_comma : bytes_eq (text_of texts c.args.name) (codes ",") ≡ false = cc in
    let clashes : clash texts c.args.self.now c.args.priority c.args.kind.now c.args.name p kind c.text-text.ensures.different c.requires in_priority c.in-Some-kind_named.ensures no_comma ≡ true = cc in
    set_clash texts c.args.self.now c.args.priority c.args.kind.now c.args.name p kind c.text-text.ensures.different c.requires in_priority c.in-Some-kind_named.ensures no_comma clashes
