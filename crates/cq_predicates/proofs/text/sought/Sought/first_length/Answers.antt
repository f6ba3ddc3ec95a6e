use Rattle.std.proofs.Common.{arith, rules, sym, ◌∙◌}
use Rattle.std.proofs.lemmas.Bool.{both_ways}
use Rattle.cq_predicates.specs.Places.{fits, place}
use Rattle.cq_predicates.proofs.TextRows.{row_first, row_none}
use Rattle.cq_predicates.proofs.text.sought.Sought.first_length.Goals as goal
use Rattle.cq_predicates.proofs.text.sought.Sought.first_length.Goals.{else-low-len-via-then-low-len+then-len-most+else-fits, else-low-len-via-then-low-len+else-len-most, else-low-len-via-else-low-len}

pub returns-then-fits-clause-some : goal.returns-then-fits-clause-some
returns-then-fits-clause-some c =
    row_first c.args.self.now c.args.characters.now c.args.before c.args.low c.first_try-len.result (omega arith) (omega arith)
    (λ j l u e. (let h = c.first_try-len.ensures j l (omega arith) e in omega (arith, h.1))) (search rules)

pub returns-else-low-len-clause-none : goal.returns-else-low-len-clause-none
returns-else-low-len-clause-none c =
    row_none c.args.self.now c.args.characters.now c.args.before c.args.low c.requires
    (λ j l u e. (let h = c.first_try-len.ensures j l u e in elim c.else-low-len.branch [
      | else-low-len-via-then-low-len+then-len-most+else-fits w ↦ both_ways (fits c.args.self.now c.args.characters.now (place c.args.before c.first_try-len.result)) (sym w.fits.ensures ∙ w.if-fits.false) h.2
      | else-low-len-via-then-low-len+else-len-most w ↦ omega (arith, h.0, h.1)
      | else-low-len-via-else-low-len w ↦ omega (arith, h.0)
    ]))
