use Rattle.std.proofs.Common.{◌+◌, ◌∙◌, ◌∷◌, map, ap, sym}
use Rattle.cq_predicates.specs.Places.{splits_left}
use Rattle.cq_predicates.specs.Ways.{split_way}
use Rattle.cq_predicates.proofs.Kept.{split_kept, map_kept}
use Rattle.cq_predicates.proofs.text.ways.SplitWays.next.Goals as goal

pub returns-clause-next : goal.returns-clause-next
returns-clause-next c =
    let w = c.args.self.now in
    let ts = c.args.heap.now.now.terms in
    let cs = w.splits.characters.items in
    let more = c.split_alternative.new.atoms in
    let new = c.split_alternative.new.heap in
    let built = c.in_ok-way.ensures.built ∙ ap (λ ds. split_way c.args.atoms.now ts w.args ds c.in-Some.count) c.deref.ensures.value in
    let rest = map_kept (split_way c.args.atoms.now ts w.args cs) (split_way more new.now.terms w.args cs)
    (split_kept c.args.atoms.now more c.args.heap.now new c.split_alternative.ensures.grows c.requires.names w.args c.requires.live cs) (splits_left w.splits (c.in-Some.count + 1)) in
    ap (map (split_way c.args.atoms.now ts w.args cs)) c.in-Some.ensures.some ∙ (λ i. sym built i ∷ sym rest i)
