use Rattle.std.proofs.Common.{◌≡◌, ◌<◌, ◌++◌, [], ◌∷◌, Some, None, false, length, get_or, map, ap, ◌∙◌, arith}
use Rattle.std.specs.List.{list_any}
use Rattle.std.proofs.lemmas.List.{get_or_default}
use Rattle.cq_clauses.specs.declared.predicates.Named.{Named}
use Rattle.cq_clauses.specs.Database.{same_pred}
use Rattle.cq_clauses.specs.Named.{pred_named}
use Rattle.cq_clauses.specs.Predicates.{PredicatesValue}
use Rattle.cq_clauses.proofs.Chained.{chained_more}
use Rattle.cq_clauses.proofs.predicates.Predicates.add.Goals as goal

pub invariant_of-self : goal.invariant_of-self
invariant_of-self c =
    let newest = c.self.inside.newest.items in
    let named = c.self.inside.named.items in
    let new : Named = record { pred = c.args.pred; earlier = c.replace-earlier.result } in
    let within : c.args.pred.name < length newest = omega (arith, c.requires.name, ap (λ (v : PredicatesValue). v.names) c.self.view_is) in
    let there : c.index.result < length newest = omega (arith, within, c.index.ensures) in
    let absent : list_any (same_pred c.args.pred) (map pred_named named) ≡ false =
    ap (λ (v : PredicatesValue). list_any (same_pred c.args.pred) v.preds) c.self.view_is ∙ c.requires.absent in
    let pushed : c.push.new.self.items ≡ named ++ new ∷ [] = rw c.unwrap.ensures at c.push.ensures.items in
    let number : c.replace-earlier.new.dest ≡ Some (length named) = c.replace-earlier.ensures.after ∙ ap Some (c.len-number.ensures ∙ c.self.inside.named.ok.0) in
    let earlier : new.earlier ≡ get_or newest c.args.pred.name None =
    c.replace-earlier.ensures.value ∙ c.index_mut.ensures.value ∙ get_or_default newest c.index.result c.index_mut.result.now None there ∙ ap (λ i. get_or newest i None) c.index.ensures in
    rw (pushed, number, c.index.ensures) (chained_more named new newest c.self.invariant within absent earlier)
