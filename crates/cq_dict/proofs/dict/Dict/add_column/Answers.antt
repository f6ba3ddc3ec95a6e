use Rattle.cq_dict.proofs.Ends.{live_table, live_same}
use Rattle.cq_dict.proofs.dict.Dict.add_column.Goals as goal

pub push-requires : goal.push-requires
push-requires c = live_table c.args.self.now.roles c.count-number.ensures.table

pub returns-clause-same : goal.returns-clause-same
returns-clause-same c = live_same c.args.self.now.roles _ c.in_ok-push.ensures.roles
