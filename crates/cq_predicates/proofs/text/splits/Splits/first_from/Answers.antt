use Rattle.std.proofs.Common.{◌≡◌, ◌∙◌, sym, arith, length, take, drop, true, false}
use Rattle.std.proofs.lemmas.Bool.{and_from, and_left, and_right}
use Rattle.cq_predicates.specs.Places.{admits_text, splits_so}
use Rattle.cq_predicates.proofs.TextRows.{count_first, count_passed}
use Rattle.cq_predicates.proofs.text.splits.Splits.first_from.Goals as goal
use Rattle.cq_predicates.proofs.text.splits.Splits.first_from.Goals.{else-admits_text-via-then-admits_text+else-admits_text-2, else-admits_text-via-else-admits_text}

pub returns-then-admits_text-2-clause-some : goal.returns-then-admits_text-2-clause-some
returns-then-admits_text-2-clause-some c =
    let w = c.args.self.now in
    let n = c.loop-count.count in
    let front : admits_text w.first (take n w.characters.items) ≡ true = cc in
    let back : admits_text w.last (drop n w.characters.items) ≡ true = cc in
    sym c.loop-count.invariant ∙ count_first (splits_so w) (length w.characters.items) n (omega arith) (and_from _ _ front back)

pub loop-count-preserved : goal.loop-count-preserved
loop-count-preserved c =
    let s = c.args.self.now in
    let n = c.loop-count.count in
    elim c.else-admits_text.branch [
      | else-admits_text-via-then-admits_text+else-admits_text-2 w ↦
          (let back : admits_text s.last (drop n s.characters.items) ≡ false = cc in
          sym (count_passed (splits_so s) (length s.characters.items) n (omega arith) (and_right (admits_text s.first (take n s.characters.items)) _ back)) ∙ c.loop-count.invariant)
      | else-admits_text-via-else-admits_text w ↦
          (let front : admits_text s.first (take n s.characters.items) ≡ false = cc in
          sym (count_passed (splits_so s) (length s.characters.items) n (omega arith) (and_left _ (admits_text s.last (drop n s.characters.items)) front)) ∙ c.loop-count.invariant)
    ]
