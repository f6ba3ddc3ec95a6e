use Rattle.cq_predicates.proofs.Staying.{ways_kept, ways_live}
use Rattle.cq_predicates.proofs.laws.alternatives_stay_the_same.Goals as goal

pub returns : goal.returns
returns c = record { same = ways_kept; live = ways_live }
