use Rattle.std.proofs.Common.{[], ◌∷◌, map, refl, codes, arith}
use Rattle.std.proofs.lemmas.List.Elements.{All-cons}
use Rattle.spec_numbers.proofs.Prefixes.{prefix_same}
use Rattle.spec_terms.specs.Term.{with_arguments}
use Rattle.std.specs.Prelude.{◌<◌, length}
use Rattle.cq_term.specs.Meaning.{at}
use Rattle.cq_built.proofs.Growing.{grows_term}
use Rattle.cq_built.proofs.Trees.{over_known, name_known}
use Rattle.cq_relations.proofs.constraints.in_braces.Goals as goal

pub returns-clause-grows : goal.returns-clause-grows
returns-clause-grows c =
    let texts = c.args.atoms.now in
    let ts = c.args.heap.now.now.terms in
    let there = All-cons (λ id. id < length ts) c.args.constraint [] c.requires.constraint (λ i d m. absurd (omega (arith, m))) in
    grows_term texts texts c.args.heap.now c.compound.new.self (with_arguments c.args.curly (map (at ts) (c.args.constraint ∷ []))) (prefix_same texts texts refl)
    c.in_ok-id.ensures.terms c.in_ok-id.ensures.images
    (λ known. over_known texts ts c.args.curly (c.args.constraint ∷ []) (name_known texts c.args.curly (codes "{}") c.requires.curly) there known)
    c.in_ok-id.ensures.saved c.in_ok-id.ensures.room
