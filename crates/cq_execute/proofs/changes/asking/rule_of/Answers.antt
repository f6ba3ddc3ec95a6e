use Rattle.std.proofs.Common.{◌≡◌, ◌<◌, ℕ, Some, List, [], ◌∷◌, length, codes, sym, ap, ap₂, ◌∙◌, subst}
use Rattle.std.specs.Prelude.{slice_get}
use Rattle.std.proofs.lemmas.List.Elements.{All-from_recursion}
use Rattle.std.proofs.lemmas.Option.{slice_get_within}
use Rattle.spec_numbers.specs.Texts.{Text}
use Rattle.spec_syntax.specs.Trees.{Tree}
use Rattle.spec_terms.specs.Term.{with_arguments}
use Rattle.cq_machine.specs.Machines.{terms}
use Rattle.cq_machine.proofs.Built.{stands_then}
use Rattle.cq_execute.proofs.ChangesAsked.{built_then, live_on, tree_on}
use Rattle.cq_execute.proofs.changes.asking.rule_of.Goals as goal

pub build-requires-clause-name : goal.build-requires-clause-name
build-requires-clause-name c =
    let m = c.args.m.now in
    subst (λ (t : List Text). m.names.rule < length t) (sym c.body_of.ensures.more.program.atoms) (slice_get_within m.atoms m.names.rule (codes ":-") c.requires.sound.known.rule)

pub build-requires-clause-live : goal.build-requires-clause-live
build-requires-clause-live c =
    let m = c.args.m.now in
    All-from_recursion (λ (i : ℕ). i < length (terms c.body_of.new.m)) (c.args.parts.head ∷ c.in_ok-body.body ∷ [])
    (live_on m c.body_of.new.m c.body_of.ensures.more c.args.parts.head c.requires.head, (c.in_ok-body.ensures.live, tt))

pub returns-clause-built : goal.returns-clause-built
returns-clause-built c =
    let m = c.args.m.now in
    let mid = c.body_of.new.m in
    c.in_ok-rule.ensures.built (codes ":-") (subst (λ (x : List Text). slice_get x m.names.rule ≡ Some (codes ":-")) (sym c.body_of.ensures.more.program.atoms) c.requires.sound.known.rule)
    ∙ ap₂ (λ (x y : Tree). with_arguments (codes ":-") (x ∷ y ∷ [])) (tree_on m mid c.body_of.ensures.more c.args.parts.head c.requires.head) c.in_ok-body.ensures.built

pub returns-clause-more : goal.returns-clause-more
returns-clause-more c = built_then c.args.m.now c.body_of.new.m c.build.new.m c.body_of.ensures.more c.build.ensures.more

pub returns-clause-stands : goal.returns-clause-stands
returns-clause-stands c = stands_then c.args.m.now c.body_of.new.m c.build.new.m c.body_of.ensures.stands c.build.ensures.stands
