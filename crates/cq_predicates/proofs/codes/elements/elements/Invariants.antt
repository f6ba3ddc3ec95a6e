use Rattle.std.proofs.Common.{◌≡◌, ◌<◌, All, map, length, take}
use Rattle.spec_builtins.specs.Texts.{element_of}
use Rattle.cq_term.specs.Trees.{trees}
use Rattle.cq_built.specs.Growing.{Grows}
use Rattle.cq_predicates.specs.Elements.{kind_of}
use Rattle.cq_predicates.proofs.codes.elements.elements.Given as goal

abbrev pub invariant-loop-character : goal.invariant-loop-character
invariant-loop-character l = record {
  live : All (λ id. id < length l.heap.now.terms) l.ids.items;
  built : trees l.atoms l.heap.now.terms l.ids.items ≡ map (element_of (kind_of l.kind)) (take l.character-index l.characters);
  grows : Grows l.fn.atoms l.fn.heap l.atoms l.heap;
}
