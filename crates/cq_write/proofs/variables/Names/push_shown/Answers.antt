use Rattle.std.proofs.Common.{◌++◌, ◌∙◌, ap, nat_eq, string_bytes}
use Rattle.indexmap.specs.IndexMap.{get}
use Rattle.cq_write.proofs.Naming.{none_given, shown_counted}
use Rattle.cq_write.proofs.Steps.{on_ok}
use Rattle.cq_write.proofs.variables.Names.push_shown.Goals as goal

pub returns-in-None : goal.returns-in-None
returns-in-None c =
    let n = c.args.self.now in
    let v = c.args.variable.0 in
    on_ok c.push_counted-in-None.result
    (λ e. e ∙ ap (λ t. string_bytes c.args.out.now ++ t)
    (shown_counted n.names.now n.unnamed.keys v c.len-count.result (none_given n.names.now (get nat_eq n.given) v c.requires.given c.in_default.ensures.value) c.in-None.ensures.index c.len-count.ensures.len))
    c.push_counted-in-None.ensures
