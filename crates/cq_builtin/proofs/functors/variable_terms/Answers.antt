use Rattle.std.proofs.Common.{◌<◌, ◌+◌, ◌++◌, ◌∷◌, ◌∙◌, [], map, length, ap, sym}
use Rattle.std.proofs.lemmas.List.{map-append}
use Rattle.std.proofs.lemmas.List.Elements.{All-push, All-same}
use Rattle.spec_terms.specs.Variables.{counted_from}
use Rattle.cq_term.specs.Meaning.{at}
use Rattle.cq_builtin.proofs.Over.{counted_more}
use Rattle.cq_builtin.proofs.functors.variable_terms.Goals as goal

pub loop-i-preserved : goal.loop-i-preserved
loop-i-preserved c =
    let ts = c.args.heap.now.now.terms in
    let us = c.args.heap.now.now.images in
    let ids = c.loop-i.ids.items in
    let pushed = c.in_ok-push.ensures.items in
    record {
      live = All-same (λ id. id < length ts) c.push.new.self.items (ids ++ c.var_term.result ∷ []) pushed (All-push (λ id. id < length ts) ids c.var_term.result c.loop-i.invariant.live c.var_term.ensures.live);
      terms = ap (map (at ts)) pushed ∙ map-append (at ts) ids (c.var_term.result ∷ [])
          ∙ (λ j. c.loop-i.invariant.terms j ++ c.var_term.ensures.term j ∷ [])
          ∙ sym (map-append (at us) (counted_from c.args.first c.loop-i.i) ((c.args.first + c.loop-i.i) ∷ [])) ∙ ap (map (at us)) (sym (counted_more c.args.first c.loop-i.i));
    }
