use Rattle.std.proofs.Common.{arith}
use Rattle.std.proofs.lemmas.Option.{slice_get_within}
use Rattle.cq_tableau.proofs.fixing.open_if_named.Goals as goal

-- what has no name is no variable's
pub returns : goal.returns
returns c = λ x e. let l = slice_get_within c.args.names.now.now c.args.n _ e in absurd (omega (arith, l, c.len.ensures, c.if-n-len.false))
