use Rattle.std.proofs.Common.{◌∙◌, ◌++◌, chars, sym, ap}
use Rattle.std.proofs.lemmas.Str.{encodes-append, encodes-chars}
use Rattle.cq_predicates.proofs.text.concatenation.joined_texts.Goals as goal

pub returns : goal.returns
returns c =
    let first = c.args.first.now in
    let last = c.args.last.now in
    c.in_ok-push_str.ensures.bytes ∙ ap (λ t. t ++ last) c.in_ok-text.ensures.ok
    ∙ (λ i. sym (encodes-chars first c.utf8.first) i ++ sym (encodes-chars last c.utf8.last) i) ∙ sym (encodes-append (chars first) (chars last))
