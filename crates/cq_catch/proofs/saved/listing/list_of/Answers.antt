use Rattle.std.proofs.Common.{◌≡◌, ℕ, List, sym, subst}
use Rattle.std.specs.Prelude.{IfOk, codes}
use Rattle.std.proofs.lemmas.Option.{slice_get_within}
use Rattle.spec_numbers.proofs.Prefixes.{prefix_both, prefix_within}
use Rattle.spec_syntax.specs.Trees.{Tree, list_tree}
use Rattle.cq_built.proofs.Growing.{longer_by_text}
use Rattle.cq_term.specs.Trees.{tree}
use Rattle.cq_choices.proofs.Named.{known_more}
use Rattle.cq_catch.proofs.Known.{trees_named}
use Rattle.cq_catch.proofs.saved.listing.list_of.Goals as goal

pub list-built-requires-clause-names : goal.list-built-requires-clause-names
list-built-requires-clause-names c =
    known_more c.args.atoms.now c.intern.new.self (longer_by_text c.args.atoms.now c.intern.new.self (codes "[]") c.in_ok-known.ensures.texts) c.args.heap.now.now.terms c.requires.names

pub text-text-requires : goal.text-text-requires
text-text-requires c =
    prefix_within c.intern.new.self c.list-built.new.atoms c.in_ok-known.known c.list-built.ensures.grows.longer
    (slice_get_within c.intern.new.self c.in_ok-known.known (codes "[]") c.in_ok-known.ensures.number)

pub returns-clause-built : goal.returns-clause-built
returns-clause-built c =
    let first = longer_by_text c.args.atoms.now c.intern.new.self (codes "[]") c.in_ok-known.ensures.texts in
    let terms = c.args.heap.now.now.terms in
    let known = known_more c.args.atoms.now c.intern.new.self first terms c.requires.names in
    let same = trees_named c.intern.new.self c.list-built.new.atoms c.list-built.ensures.grows.longer terms known c.args.elements.now c.requires.live in
    let P : List Tree → Type 0 = λ us. IfOk c.list-built.result (λ (id : ℕ). tree c.list-built.new.atoms c.list-built.new.heap.now.terms id ≡ list_tree us) in
    subst P (sym same) c.list-built.ensures.built

pub returns-clause-grows : goal.returns-clause-grows
returns-clause-grows c =
    let first = longer_by_text c.args.atoms.now c.intern.new.self (codes "[]") c.in_ok-known.ensures.texts in
    let g = c.list-built.ensures.grows in
    record {
      longer = prefix_both c.args.atoms.now c.intern.new.self c.list-built.new.atoms first g.longer;
      terms = g.terms;
      images = g.images;
      names = λ k. g.names (known_more c.args.atoms.now c.intern.new.self first c.args.heap.now.now.terms k);
      saved = g.saved;
      room = g.room;
    }
