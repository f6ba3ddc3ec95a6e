use Rattle.std.proofs.Common.{sym, subst}
use Rattle.cq_dict.specs.Holders.{AreTouched}
use Rattle.cq_tableau.proofs.level.choosing.count_rows.Goals as goal

pub touched-requires : goal.touched-requires
touched-requires c = λ t. c.requires.there

pub count_among-rows-requires-clause-touched : goal.count_among-rows-requires-clause-touched
count_among-rows-requires-clause-touched c = subst (AreTouched c.args.dict.now.roles c.args.c) (sym c.deref.ensures.value) c.in_ok-touched.ensures
