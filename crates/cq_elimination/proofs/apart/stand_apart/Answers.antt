use Rattle.std.proofs.Common.{◌≡◌, ◌+◌, ◌-◌, ◌≤◌, ◌++◌, length, take, drop, arith, subst}
use Rattle.std.proofs.lemmas.List.{take_all, length-drop}
use Rattle.cq_elimination.specs.ApartSides.{StandsApart}
use Rattle.cq_elimination.proofs.Bounding.{stand_more, none_follows}
use Rattle.cq_elimination.proofs.apart.stand_apart.Goals as goal

pub rows-preserved : goal.rows-preserved
rows-preserved c =
    let rows = c.args.rows.now in
    let i = c.rows.at in
    let last = length-drop (i + 1) rows in
    let short : length (drop (i + 1) rows) ≤ length rows - (i + 1) = omega (arith, last) in
    let back : take (length rows - (i + 1)) (drop (i + 1) rows) ≡ drop (i + 1) rows = take_all (length rows - (i + 1)) (drop (i + 1) rows) short in
    stand_more rows c.args.beside.now i c.index-rows-at.result c.index-rows-at.is
    (subst (λ l. StandsApart c.index-rows-at.result (take i rows ++ l ++ c.args.beside.now)) back c.if-not-stands_apart.ensures) c.rows.invariant

pub returns : goal.returns
returns c =
    none_follows c.args.rows.now c.args.beside.now c.requires.inequalities c.requires.beside c.requires.solvable c.rows.at c.rows-test.false c.rows.invariant
