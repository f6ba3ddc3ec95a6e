use Rattle.std.proofs.Common.{◌≡◌, ◌<◌, ◌≤◌, Some, length, refl, ap, ◌∙◌, arith}
use Rattle.std.specs.Prelude.{slice_get}
use Rattle.std.specs.Option.{option_map}
use Rattle.std.proofs.lemmas.Option.{slice_get_read}
use Rattle.cq_predicates.specs.Entries.{entry}
use Rattle.cq_predicates.specs.TableNames.{as_builtin}
use Rattle.cq_predicates.proofs.Entries.{is_found, none_found}
use Rattle.cq_predicates.proofs.table.numbered.Builtins.get.Goals as goal

pub returns-then-arity-len : goal.returns-then-arity-len
returns-then-arity-len c = λ texts are different known.
    let xs = c.args.self.now.by_arity in
    let past : length xs.items ≤ c.args.pred.arity = omega (arith, c.if-arity-len.true, c.len.ensures, xs.ok.0) in
    none_found texts different c.args.pred.arity c.args.pred.name known xs.items are.size past

pub returns : goal.returns
returns c = λ texts are different known.
    let xs = c.args.self.now.by_arity in
    let arity = c.args.pred.arity in
    let entries = c.index.result.now in
    let within : arity < length xs.items = omega (arith, c.if-arity-len.false, c.len.ensures, xs.ok.0) in
    let stood : slice_get xs.items arity ≡ Some entries = slice_get_read xs.items (length xs.items) arity entries refl within c.index.ensures in
    ap (option_map as_builtin) (c.get.ensures ∙ ap (entry entries) c.index-number.ensures) ∙ is_found texts different arity c.args.pred.name known entries (are.lists arity entries stood)
