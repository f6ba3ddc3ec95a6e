use Rattle.std.proofs.Common.{Err, ap, sym, ◌∙◌}
use Rattle.cq_tableau.proofs.Passed.{searched, search_passed, search_spent, never_searched}
use Rattle.cq_tableau.proofs.Looks.{looks_same, room_rises, lifted_looks, live_column, then_looks, then_speaks, then_seen, then_refuses, then_spends}
use Rattle.cq_tableau.proofs.looking.look.Goals as goal

pub returns-in_err-pivot-in-Some-clause-overflow : goal.returns-in_err-pivot-in-Some-clause-overflow
returns-in_err-pivot-in-Some-clause-overflow c = λ pair e.
    let f = searched c.from_residual.result c.in_err-pivot-in-Some.field-0.0 pair c.from_residual.ensures.1 e in
    let o = c.in_err-pivot-in-Some.ensures.overflow pair (ap Err f) in
    record {
      roles = c.args.dict.now.roles;
      looks = looks_same c.args.dict.now.roles c.args.dict.now.restricted;
      row = c.in-Some.r;
      column = c.args.q;
      made = o.0;
      refused = o.1;
    }

pub returns-in_err-pivot-in-Some-clause-pivots : goal.returns-in_err-pivot-in-Some-clause-pivots
returns-in_err-pivot-in-Some-clause-pivots c = λ n e. absurd (never_searched c.from_residual.result c.in_err-pivot-in-Some.field-0.0 n c.from_residual.ensures.1 e)

pub look_at_row-requires-in-Some-clause-speaks : goal.look_at_row-requires-in-Some-clause-speaks
look_at_row-requires-in-Some-clause-speaks c =
    let e = c.in_ok-pivot-in-Some.ensures in
    let old = c.args.dict.now in
    then_speaks old.roles c.pivot.new.self.roles old.restricted c.pivot.new.self.restricted e.flags
    (lifted_looks old.roles old.restricted c.args.q (live_column old.roles c.args.q c.if-is_row.ensures (sym c.is_dropped.ensures ∙ c.if-is_dropped.false))
    c.in-Some.r c.in-Some.ensures c.pivot.new.self.roles e.kinds e.same e.table) c.requires.speaks

pub returns-in_err-seen-in-Some-clause-overflow : goal.returns-in_err-seen-in-Some-clause-overflow
returns-in_err-seen-in-Some-clause-overflow c = λ pair g.
    let e = c.in_ok-pivot-in-Some.ensures in
    let old = c.args.dict.now in
    let f = search_passed c.from_residual-in_err-seen-in-Some.result c.in_err-seen-in-Some.field-0.0 pair c.from_residual-in_err-seen-in-Some.ensures.1 g in
    then_refuses old.roles c.pivot.new.self.roles old.restricted c.pivot.new.self.restricted e.flags
    (lifted_looks old.roles old.restricted c.args.q (live_column old.roles c.args.q c.if-is_row.ensures (sym c.is_dropped.ensures ∙ c.if-is_dropped.false))
    c.in-Some.r c.in-Some.ensures c.pivot.new.self.roles e.kinds e.same e.table) pair (c.in_err-seen-in-Some.ensures.overflow pair (ap Err f))

pub returns-in_err-seen-in-Some-clause-pivots : goal.returns-in_err-seen-in-Some-clause-pivots
returns-in_err-seen-in-Some-clause-pivots c = λ n g.
    let e = c.in_ok-pivot-in-Some.ensures in
    let old = c.args.dict.now in
    let f = search_spent c.from_residual-in_err-seen-in-Some.result c.in_err-seen-in-Some.field-0.0 n c.from_residual-in_err-seen-in-Some.ensures.1 g in
    let o = c.in_err-seen-in-Some.ensures.pivots n (ap Err f) in (
      o.0,
      then_spends old.roles c.pivot.new.self.roles old.restricted c.pivot.new.self.restricted e.flags
          (lifted_looks old.roles old.restricted c.args.q (live_column old.roles c.args.q c.if-is_row.ensures (sym c.is_dropped.ensures ∙ c.if-is_dropped.false))
          c.in-Some.r c.in-Some.ensures c.pivot.new.self.roles e.kinds e.same e.table) n o.1,
    )

pub returns-in_ok-seen-in-Some-clause-looks : goal.returns-in_ok-seen-in-Some-clause-looks
returns-in_ok-seen-in-Some-clause-looks c =
    let e = c.in_ok-pivot-in-Some.ensures in
    let old = c.args.dict.now in
    then_looks old.roles c.pivot.new.self.roles old.restricted c.pivot.new.self.restricted e.flags
    (lifted_looks old.roles old.restricted c.args.q (live_column old.roles c.args.q c.if-is_row.ensures (sym c.is_dropped.ensures ∙ c.if-is_dropped.false))
    c.in-Some.r c.in-Some.ensures c.pivot.new.self.roles e.kinds e.same e.table) _ c.in_ok-seen-in-Some.ensures.looks

pub returns-in_ok-seen-in-Some-clause-seen : goal.returns-in_ok-seen-in-Some-clause-seen
returns-in_ok-seen-in-Some-clause-seen c =
    let e = c.in_ok-pivot-in-Some.ensures in
    let old = c.args.dict.now in
    then_seen old.roles c.pivot.new.self.roles old.restricted c.pivot.new.self.restricted e.flags
    (lifted_looks old.roles old.restricted c.args.q (live_column old.roles c.args.q c.if-is_row.ensures (sym c.is_dropped.ensures ∙ c.if-is_dropped.false))
    c.in-Some.r c.in-Some.ensures c.pivot.new.self.roles e.kinds e.same e.table) _ c.args.q c.in_ok-seen-in-Some.seen c.in_ok-seen-in-Some.ensures.seen

pub returns-in-None-clause-seen : goal.returns-in-None-clause-seen
returns-in-None-clause-seen c =
    room_rises c.args.dict.now.roles c.args.dict.now.restricted c.args.q
    (live_column c.args.dict.now.roles c.args.q c.if-is_row.ensures (sym c.is_dropped.ensures ∙ c.if-is_dropped.false)) c.in-None.ensures
