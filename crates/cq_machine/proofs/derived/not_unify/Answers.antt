use Rattle.std.proofs.Common.{◌≡◌, ◌<◌, Some, List, [], ◌∷◌, length, codes, sym, ap, ap₂, ◌∙◌, subst}
use Rattle.std.specs.Prelude.{slice_get}
use Rattle.std.proofs.lemmas.Option.{slice_get_within}
use Rattle.spec_builtins.specs.Built.{compound1, compound2}
use Rattle.spec_builtins.specs.Terms as builtins
use Rattle.spec_numbers.specs.Texts.{Text}
use Rattle.spec_search.specs.Rows.{nth}
use Rattle.spec_syntax.specs.Trees.{Tree}
use Rattle.spec_terms.specs.Term.{Compound, one, more, with_arguments}
use Rattle.cq_attr.proofs.Elements.{on_err}
use Rattle.cq_term.specs.Trees.{tree}
use Rattle.cq_branch.proofs.Arguments.{argument_reads}
use Rattle.cq_machine.specs.Machines.{terms, now}
use Rattle.cq_machine.proofs.Built.{selected_on, stands_then}
use Rattle.cq_machine.proofs.Kept.{argument_is}
use Rattle.cq_machine.proofs.Over.{reads_over_one, reads_over_two}
use Rattle.cq_machine.proofs.derived.not_unify.Goals as goal

pub returns-in_err-equal-clause-err : goal.returns-in_err-equal-clause-err
returns-in_err-equal-clause-err c = on_err c.from_residual.result c.build.ensures.stands

pub build-requires-2-clause-name : goal.build-requires-2-clause-name
build-requires-2-clause-name c =
    let m = c.args.m.now in
    subst (λ (t : List Text). m.names.not < length t) (sym c.build.ensures.more.program.atoms) (slice_get_within m.atoms m.names.not (codes "\\+") c.requires.sound.known.not)

pub returns-in_err-negated-clause-err : goal.returns-in_err-negated-clause-err
returns-in_err-negated-clause-err c =
    on_err c.from_residual-in_err-negated.result (stands_then c.args.m.now c.build.new.m c.build-2.new.m c.build.ensures.stands c.build-2.ensures.stands)

pub returns-in_err-step-clause-err : goal.returns-in_err-step-clause-err
returns-in_err-step-clause-err c =
    on_err c.from_residual-in_err-step.result (stands_then c.args.m.now c.build-2.new.m c.put.new.m
    (stands_then c.args.m.now c.build.new.m c.build-2.new.m c.build.ensures.stands c.build-2.ensures.stands) c.in_err-step.ensures.err)

pub returns-clause-row : goal.returns-clause-row
returns-clause-row c = λ p behind g s.
    let m = c.args.m.now in
    let mid = c.build.new.m in
    let low = c.build-2.new.m in
    let a : Tree = nth (builtins.arguments g) 0 in
    let b : Tree = nth (builtins.arguments g) 1 in
    let ra = argument_reads m.atoms (now m).0 p.state c.args.goal 0 c.arg-left.result g s.reads c.arg-left.ensures.live c.arg-left.ensures.arg in
    let rb = argument_reads m.atoms (now m).0 p.state c.args.goal 1 c.arg-right.result g s.reads c.arg-right.ensures.live c.arg-right.ensures.arg in
    let e : tree mid.atoms (terms mid) c.in_ok-equal.equal ≡ Compound (codes "=") (more a (one b)) =
    c.in_ok-equal.ensures.built (codes "=") c.requires.sound.known.equal
    ∙ ap₂ (λ (x y : Tree). with_arguments (codes "=") (x ∷ y ∷ []))
    (argument_is m.atoms (now m).0 p.state c.args.goal 0 c.arg-left.result g s.reads c.arg-left.ensures.live c.arg-left.ensures.arg)
    (argument_is m.atoms (now m).0 p.state c.args.goal 1 c.arg-right.result g s.reads c.arg-right.ensures.live c.arg-right.ensures.arg) in
    let q = reads_over_two mid.atoms (now mid).0 p.state c.in_ok-equal.equal (codes "=") a b c.in_ok-equal.ensures.live e ra.1 rb.1 in
    let t : tree low.atoms (terms low) c.in_ok-negated.negated ≡ Compound (codes "\\+") (one (compound2 "=" a b)) =
    c.in_ok-negated.ensures.built (codes "\\+") (subst (λ (x : List Text). slice_get x m.names.not ≡ Some (codes "\\+")) (sym c.build.ensures.more.program.atoms) c.requires.sound.known.not)
    ∙ ap (λ (x : Tree). with_arguments (codes "\\+") (x ∷ [])) e in
    c.in_ok-step.ensures.row p behind c.args.goal g (compound1 "\\+" (compound2 "=" a b))
    (selected_on mid low c.args.goal c.args.height c.args.rest p behind g c.build-2.ensures.more
    (selected_on m mid c.args.goal c.args.height c.args.rest p behind g c.build.ensures.more s))
    (reads_over_one low.atoms (now low).0 p.state c.in_ok-negated.negated (codes "\\+") (compound2 "=" a b) c.in_ok-negated.ensures.live t q.1)
