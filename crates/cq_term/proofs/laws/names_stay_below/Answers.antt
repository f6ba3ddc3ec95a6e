use Rattle.cq_term.proofs.Known.{names_more, names_substituted, names_over}
use Rattle.cq_term.proofs.laws.names_stay_below.Goals as goal

pub returns : goal.returns
returns c = record { more = λ m n t le. names_more m n le t; substituted = names_substituted; over = names_over }
