use Rattle.std.proofs.Common.{ℕ, [], List, sym, ap, ◌∙◌}
use Rattle.std.proofs.lemmas.Option.{slice_get-get_or}
use Rattle.spec_numbers.specs.Texts.{Text}
use Rattle.spec_terms.specs.Term.{with_arguments}
use Rattle.cq_term.specs.Texts.{text_of}
use Rattle.cq_built.proofs.Trees.{trees_map}
use Rattle.cq_term.specs.Meaning.{at}
use Rattle.cq_term.specs.Trees.{tree, trees}
use Rattle.cq_built.proofs.Trees.{known_at}
use Rattle.cq_machine.specs.Machines.{terms}
use Rattle.cq_machine.proofs.More.{more_built, nameless}
use Rattle.cq_machine.proofs.Whole.{named_below, built_none}
use Rattle.cq_machine.proofs.selected.calls.extended.Goals as goal

pub returns-in_default-clause-built : goal.returns-in_default-clause-built
returns-in_default-clause-built c =
    let m = c.args.m.now in
    nameless (text_of m.atoms) (at (terms m) c.args.called) _ (rw c.in_default.is at c.name_of.ensures.none)

pub returns-in_default-clause-more : goal.returns-in_default-clause-more
returns-in_default-clause-more c = built_none c.args.m.now

pub returns-in_err-args-clause-more : goal.returns-in_err-args-clause-more
returns-in_err-args-clause-more c = built_none c.args.m.now

pub build-requires-clause-name : goal.build-requires-clause-name
build-requires-clause-name c =
    let m = c.args.m.now in
    named_below _ (at (terms m) c.args.called) c.in-Some.name (known_at m.atoms (terms m) c.args.called c.requires.sound.names c.requires.called) c.in-Some.ensures.some

pub returns-clause-built : goal.returns-clause-built
returns-clause-built c =
    let m = c.args.m.now in
    let name = c.in-Some.name in
    let below = named_below _ (at (terms m) c.args.called) name (known_at m.atoms (terms m) c.args.called c.requires.sound.names c.requires.called) c.in-Some.ensures.some in
    ap (λ (a : List Text). tree a (terms c.build.new.m) c.in_ok-id.id) (sym c.build.ensures.more.program.atoms)
    ∙ c.in_ok-id.ensures.built (text_of m.atoms name) (slice_get-get_or m.atoms name [] below)
    ∙ ap (λ (ids : List ℕ). with_arguments (text_of m.atoms name) (trees m.atoms (terms m) ids)) c.deref.ensures.value
    ∙ ap (with_arguments (text_of m.atoms name)) (sym (trees_map m.atoms (terms m) c.in_ok-args.args.items))
    ∙ more_built (text_of m.atoms) (at (terms m) c.args.called) (at (terms m) c.args.goal) name _ c.in-Some.ensures.some c.in_ok-args.ensures.are
