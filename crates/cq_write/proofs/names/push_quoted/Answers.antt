use Rattle.std.proofs.Common.{◌++◌, ◌∷◌, [], sym, ap, ◌∙◌, string_bytes, append_assoc, arith}
use Rattle.std.proofs.lemmas.Iterator.{YieldsList-from_chars}
use Rattle.std.proofs.lemmas.Iterator.Consumers.{YieldsList-end}
use Rattle.std.proofs.lemmas.List.{map-id}
use Rattle.spec_text.specs.Texts.{all_escaped, escaped}
use Rattle.cq_write.proofs.Steps.{all_escaped-snoc}
use Rattle.cq_write.proofs.names.push_quoted.Goals as goal

pub loop-c-preserved : goal.loop-c-preserved
loop-c-preserved c =
    let old = string_bytes c.args.out.now in
    let ys = c.loop-c.yielded in
    c.in_ok-push_escaped.ensures ∙ ap (λ t. t ++ escaped 39 c.in-Some.c) c.loop-c.invariant ∙ append_assoc old (39 ∷ all_escaped 39 ys) (escaped 39 c.in-Some.c)
    ∙ ap (λ t. old ++ 39 ∷ t) (sym (all_escaped-snoc 39 ys c.in-Some.c))

pub returns : goal.returns
returns c =
    let old = string_bytes c.args.out.now in
    let all = YieldsList-end (YieldsList-from_chars c.args.name.now c.utf8.name cc) c.loop-c.yielded _ c.loop-c.yielded_by _ _ c.in-None.is c.next.ensures.steps in
    c.in_ok-push-2.ensures.bytes ∙ ap (λ t. string_bytes c.loop-c.out ++ t) (c.in_ok-push-2.ensures.ascii (omega arith)) ∙ ap (λ t. t ++ 39 ∷ []) c.loop-c.invariant ∙ append_assoc old (39 ∷ all_escaped 39 c.loop-c.yielded) (39 ∷ [])
    ∙ ap (λ cs. old ++ 39 ∷ (all_escaped 39 cs ++ 39 ∷ [])) (sym (map-id c.loop-c.yielded) ∙ all.0)
