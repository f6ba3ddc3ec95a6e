use Rattle.spec_branch.proofs.Members.{members_met, halves_met, members_true}
use Rattle.spec_branch.proofs.told.constraints_are_met_by_members_and_halves.Goals as goal

pub returns : goal.returns
returns c = record { members = members_met; halves = halves_met; told = members_true }
