use Rattle.std.proofs.Common.{◌+◌, ◌∙◌, ◌∷◌, map, ap, sym}
use Rattle.cq_predicates.specs.Places.{place, parts_left}
use Rattle.cq_predicates.specs.Ways.{part_way}
use Rattle.cq_predicates.proofs.Kept.{part_kept, map_kept}
use Rattle.cq_predicates.proofs.text.ways.PartWays.next.Goals as goal

pub returns-clause-next : goal.returns-clause-next
returns-clause-next c =
    let w = c.args.self.now in
    let ts = c.args.heap.now.now.terms in
    let cs = w.parts.characters.items in
    let more = c.part_alternative.new.atoms in
    let new = c.part_alternative.new.heap in
    let built = c.in_ok-way.ensures.built ∙ ap (λ ds. part_way c.args.atoms.now ts w.args ds c.in-Some.place) c.deref.ensures.value in
    let rest = map_kept (part_way c.args.atoms.now ts w.args cs) (part_way more new.now.terms w.args cs)
    (part_kept c.args.atoms.now more c.args.heap.now new c.part_alternative.ensures.grows c.requires.names w.args c.requires.live cs) (parts_left w.parts (place c.in-Some.place.before (c.in-Some.place.len + 1))) in
    ap (map (part_way c.args.atoms.now ts w.args cs)) c.in-Some.ensures.some ∙ (λ i. sym built i ∷ sym rest i)
