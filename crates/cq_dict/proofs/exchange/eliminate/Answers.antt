use Rattle.std.proofs.Common.{length}
use Rattle.cq_dict.proofs.Eliminated.{Both, change_row, change_lacks, both_cover, eliminates}
use Rattle.cq_dict.proofs.Written.{covers_within}
use Rattle.cq_dict.proofs.exchange.eliminate.Goals as goal

pub after-requires-clause-rows : goal.after-requires-clause-rows
after-requires-clause-rows c =
    let m = c.in_ok-changes.ensures.moved in change_row c.args.roles.now c.args.leaving c.args.column m.q m.rate c.requires.table m.solved c.in_ok-changes.changes.items m.covers

pub after-requires-clause-new : goal.after-requires-clause-new
after-requires-clause-new c =
    let m = c.in_ok-changes.ensures.moved in change_lacks c.args.roles.now c.args.leaving c.args.column m.q m.rate c.requires.table m.solved c.in_ok-changes.changes.items m.covers

pub returns-clause-within : goal.returns-clause-within
returns-clause-within c =
    let m = c.in_ok-changes.ensures.moved in
    covers_within (Both c.args.leaving c.args.column m.q m.rate) c.args.roles.now (length c.args.roles.now) c.in_ok-turned.turned.items
    (both_cover c.args.roles.now c.args.leaving c.args.column m.q m.rate c.requires.table m.solved c.in_ok-changes.changes.items m.covers c.in_ok-turned.turned.items c.in_ok-turned.ensures)

pub returns-clause-eliminates : goal.returns-clause-eliminates
returns-clause-eliminates c =
    let m = c.in_ok-changes.ensures.moved in
    eliminates c.args.roles.now c.args.leaving c.args.column m.q m.rate c.requires.table m.solved c.in_ok-changes.changes.items m.covers c.in_ok-turned.turned.items c.in_ok-turned.ensures
