use Rattle.std.proofs.Common.{[], ◌∷◌, map, refl, arith}
use Rattle.std.proofs.lemmas.List.Elements.{All-cons}
use Rattle.std.specs.Prelude.{◌<◌, length}
use Rattle.spec_numbers.proofs.Prefixes.{prefix_same}
use Rattle.spec_terms.specs.Term.{with_arguments}
use Rattle.cq_term.specs.Meaning.{at}
use Rattle.cq_built.proofs.Growing.{grows_term}
use Rattle.cq_built.proofs.Trees.{over_known, tree_over}
use Rattle.cq_built.proofs.building.over_known.Goals as goal

pub returns-clause-built : goal.returns-clause-built
returns-clause-built c = λ text known.
    tree_over c.args.atoms.now c.args.heap.now.now.terms c.compound.new.self.now.terms c.args.name c.in_ok-id.id text (c.args.first ∷ c.args.second ∷ [])
    c.in_ok-id.ensures.terms c.in_ok-id.ensures.id known

pub returns-clause-grows : goal.returns-clause-grows
returns-clause-grows c =
    let texts = c.args.atoms.now in
    let ts = c.args.heap.now.now.terms in
    let there =
    All-cons (λ id. id < length ts) c.args.first (c.args.second ∷ []) c.requires.first
    (All-cons (λ id. id < length ts) c.args.second [] c.requires.second (λ i d m. absurd (omega (arith, m)))) in
    grows_term texts texts c.args.heap.now c.compound.new.self (with_arguments c.args.name (map (at ts) (c.args.first ∷ c.args.second ∷ []))) (prefix_same texts texts refl)
    c.in_ok-id.ensures.terms c.in_ok-id.ensures.images
    (λ known. over_known texts ts c.args.name (c.args.first ∷ c.args.second ∷ []) c.requires.name there known)
    c.in_ok-id.ensures.saved c.in_ok-id.ensures.room
