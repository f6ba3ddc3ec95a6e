use Rattle.std.proofs.Common.{◌<◌, ◌++◌, ◌∷◌, ◌∙◌, [], map, length, ap, sym}
use Rattle.std.proofs.lemmas.List.{map-append}
use Rattle.std.proofs.lemmas.List.Elements.{All-push, All-same}
use Rattle.spec_terms.specs.Variables.{counted_from}
use Rattle.cq_term.specs.Meaning.{at}
use Rattle.cq_interpreter.proofs.Keeping.{counted_more}
use Rattle.cq_interpreter.proofs.goals.variable_terms.Goals as goal

pub loop-number-preserved : goal.loop-number-preserved
loop-number-preserved c =
    let ts = c.args.heap.now.now.terms in
    let us = c.args.heap.now.now.images in
    let ids = c.loop-number.ids.items in
    let pushed = c.in_ok-push.ensures.items in
    let more = counted_more c.loop-number.number in
    record {
      live = All-same (λ id. id < length ts) c.push.new.self.items (ids ++ c.var_term.result ∷ []) pushed (All-push (λ id. id < length ts) ids c.var_term.result c.loop-number.invariant.live c.var_term.ensures.live);
      terms = ap (map (at ts)) pushed ∙ map-append (at ts) ids (c.var_term.result ∷ [])
          ∙ (λ j. c.loop-number.invariant.terms j ++ c.var_term.ensures.term j ∷ [])
          ∙ sym (map-append (at us) (counted_from 0 c.loop-number.number) (c.loop-number.number ∷ [])) ∙ ap (map (at us)) (sym more);
    }
