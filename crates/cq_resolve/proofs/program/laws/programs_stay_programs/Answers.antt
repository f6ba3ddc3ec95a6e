use Rattle.cq_resolve.proofs.Whole.{none_whole, added_whole, removed_whole, declared_whole, names_whole}
use Rattle.cq_resolve.proofs.program.laws.programs_stay_programs.Goals as goal

pub returns : goal.returns
returns c = record { none = none_whole; added = added_whole; removed = removed_whole; declared = declared_whole; named = names_whole }
