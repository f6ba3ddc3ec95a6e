use Rattle.std.proofs.Common.{◌∙◌, ap, sym, subst, length, map}
use Rattle.spec_terms.specs.Term.{apply}
use Rattle.spec_numbers.proofs.Prefixes.{prefix_get_or}
use Rattle.cq_term.specs.Meaning.{blank}
use Rattle.std.proofs.lemmas.List.Elements.{All-same}
use Rattle.cq_term.specs.Names.{HasNamesBelow}
use Rattle.cq_resolve.specs.Pattern.{IsNamedBelow, term_of}
use Rattle.cq_resolve.specs.Marks.{shown}
use Rattle.cq_resolve.specs.Building.{moved_by, image_from}
use Rattle.cq_resolve.specs.StoredValue.{ClauseValue}
use Rattle.cq_resolve.proofs.StoredNamed.{named_pattern}
use Rattle.cq_resolve.proofs.Renamed.{renamed_image}
use Rattle.cq_resolve.proofs.stored.clause.Clause.renamed.Goals as goal

pub returns-clause-head : goal.returns-clause-head
returns-clause-head c =
    let older = c.args.heap.now.now.images in
    let images = c.new_variables.new.heap.now.images in
    prefix_get_or c.build.new.heap.now.terms c.build-2.new.heap.now.terms c.in_ok-head.head blank c.in_ok-body.ensures.terms c.in_ok-head.ensures.live
    ∙ c.in_ok-head.ensures.built
    ∙ ap (λ hs. apply (image_from images c.in_ok-first.first) (term_of (map shown hs))) c.deref.ensures.value
    ∙ renamed_image older images c.in_ok-first.first c.self.inside.variables (map shown c.self.inside.head.items) c.self.invariant.head c.in_ok-first.ensures.images c.in_ok-first.ensures.first
    ∙ ap (λ (v : ClauseValue). apply (moved_by (length older)) v.head) c.self.view_is

pub returns-clause-body : goal.returns-clause-body
returns-clause-body c =
    let older = c.args.heap.now.now.images in
    let images = c.new_variables.new.heap.now.images in
    c.in_ok-body.ensures.built
    ∙ ap (λ us. apply (image_from us c.in_ok-first.first) (term_of (map shown c.deref-2.result.now))) c.in_ok-head.ensures.images
    ∙ ap (λ hs. apply (image_from images c.in_ok-first.first) (term_of (map shown hs))) c.deref-2.ensures.value
    ∙ renamed_image older images c.in_ok-first.first c.self.inside.variables (map shown c.self.inside.body.items) c.self.invariant.body c.in_ok-first.ensures.images c.in_ok-first.ensures.first
    ∙ ap (λ (v : ClauseValue). apply (moved_by (length older)) v.body) c.self.view_is

pub returns-clause-names : goal.returns-clause-names
returns-clause-names c = λ n h all.
    let count = c.self.inside.variables in
    let head = map shown c.self.inside.head.items in
    let body = map shown c.self.inside.body.items in
    let in_head = subst (HasNamesBelow n) (sym (ap (λ (v : ClauseValue). v.head) c.self.view_is)) h.head in
    let in_body = subst (HasNamesBelow n) (sym (ap (λ (v : ClauseValue). v.body) c.self.view_is)) h.body in
    c.in_ok-body.ensures.names n (All-same (IsNamedBelow n) (map shown c.deref-2.result.now) body (ap (map shown) c.deref-2.ensures.value) (named_pattern n count body c.self.invariant.body in_body))
    (c.in_ok-head.ensures.names n (All-same (IsNamedBelow n) (map shown c.deref.result.now) head (ap (map shown) c.deref.ensures.value) (named_pattern n count head c.self.invariant.head in_head)) (c.in_ok-first.ensures.names n all))
