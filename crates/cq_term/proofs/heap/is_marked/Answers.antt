use Rattle.std.proofs.Common.{◌≡◌, ℕ, ◌≤◌, ◌-◌, false, length, arith, ltb}
use Rattle.std.proofs.lemmas.Bool.Decides.{nat_tests}
use Rattle.std.proofs.lemmas.Option.{slice_get_within, slice_get-get_or}
use Rattle.cq_term.specs.declared.heap.Place.{Place}
use Rattle.cq_term.proofs.heap.is_marked.Goals as goal

abbrev blank_place : Place
blank_place = record { cells = 0; wide = 0; args = 0; vars = 0; order = 0; learnt = 0 }

not_less : (a b : ℕ) → ltb a b ≡ false → b ≤ a
not_less a b = grind (arith, nat_tests)

pub returns-then-count-eq0 : goal.returns-then-count-eq0
returns-then-count-eq0 c = λ off k p e. absurd (omega (arith, slice_get_within c.args.marks.now k p e, c.if-count-eq0.true))

pub returns : goal.returns
returns c = λ off k p e.
    let marks = c.args.marks.now in
    let within = slice_get_within marks k p e in
    let last = slice_get-get_or marks (length marks - 1) blank_place (omega (arith, within)) in
    let earlier = c.requires k (length marks - 1) p _ e last (omega (arith, within)) in
    omega (arith, earlier.cells, not_less _ _ off, c.index.ensures)
