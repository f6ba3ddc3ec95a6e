use Rattle.std.proofs.Common.{◌≡◌, ℕ, List, Err, true, refl, ap, sym, subst}
use Rattle.spec_linear.specs.Solution.{Has}
use Rattle.cq_frac.specs.declared.row.Entry.{Entry}
use Rattle.cq_dict.specs.Roles.{is_live}
use Rattle.cq_simplex.specs.Answers.{IsAnswer, AreSpent}
use Rattle.cq_simplex.specs.declared.Aim.TheVariants as aim_of
use Rattle.cq_tableau.specs.Dropped.{quantities, DropsEach}
use Rattle.cq_tableau.proofs.Passed.{search_passed, search_spent}
use Rattle.cq_tableau.proofs.Looks.{search_feasible, carried_looks, positive_rises, unlimited_rises, columns_live, at_zero, dropped_looks, flat_now, restricted_high}
use Rattle.cq_tableau.proofs.looking.look_at_row.Goals as goal

pub ascend-requires-clause-feasible : goal.ascend-requires-clause-feasible
ascend-requires-clause-feasible c =
    let s = c.requires.speaks in
    search_feasible s.forms s.list c.args.dict.now.roles c.args.dict.now.restricted s.speaks c.args.q

pub returns-in_err-ascend-clause-overflow : goal.returns-in_err-ascend-clause-overflow
returns-in_err-ascend-clause-overflow c = λ pair e.
    let f = search_passed c.from_residual.result c.in_err-ascend.field-0.0 pair c.from_residual.ensures.1 e in
    let o = c.in_err-ascend.ensures.overflow pair (ap Err f) in
    let d = c.in_err-ascend.ensures.carried in
    record {
      roles = c.ascend.new.dict.roles;
      looks = carried_looks c.args.dict.now.roles c.ascend.new.dict.roles c.args.dict.now.restricted c.args.q d;
      row = o.row;
      column = o.column;
      made = o.made;
      refused = o.refused;
    }

pub returns-in_err-ascend-clause-pivots : goal.returns-in_err-ascend-clause-pivots
returns-in_err-ascend-clause-pivots c = λ n e.
    let o = c.in_err-ascend.ensures.pivots n (ap Err (search_spent c.from_residual.result c.in_err-ascend.field-0.0 n c.from_residual.ensures.1 e)) in (
      o.0,
      record {
        roles = o.1.from;
        looks = carried_looks c.args.dict.now.roles o.1.from c.args.dict.now.restricted c.args.q o.1.carried;
        row = c.args.q;
        is_row = o.1.carried.asked_row;
        flag = c.requires.flag;
        last = c.ascend.new.dict.roles;
        spent = subst (λ m. AreSpent o.1.from c.args.dict.now.restricted c.args.q aim_of.Positive m c.ascend.new.dict.roles) (sym o.0) o.1.spent;
      },
    )

pub drop_all-requires-clause-live : goal.drop_all-requires-clause-live
drop_all-requires-clause-live c =
    let m = c.in_ok-ascend.ensures in
    let a = subst (IsAnswer c.args.dict.now.roles c.args.dict.now.restricted c.args.q aim_of.Positive c.ascend.new.dict.roles) c.in-At.is m.answer in
    subst (λ (t : List Entry). (z : ℕ) → Has z (quantities t) → is_live c.ascend.new.dict.roles z ≡ true) (sym c.deref.ensures.value)
    (columns_live c.args.dict.now.roles c.args.dict.now.restricted c.args.q c.ascend.new.dict.roles m.carried c.in-At.field-0 c.in-At.columns.items a.0 a.1)

pub returns-in-Positive-clause-looks : goal.returns-in-Positive-clause-looks
returns-in-Positive-clause-looks c =
    let d = c.in_ok-ascend.ensures.carried in
    carried_looks c.args.dict.now.roles c.ascend.new.dict.roles c.args.dict.now.restricted c.args.q d

pub returns-in-Positive-clause-seen : goal.returns-in-Positive-clause-seen
returns-in-Positive-clause-seen c =
    let m = c.in_ok-ascend.ensures in
    let a = subst (IsAnswer c.args.dict.now.roles c.args.dict.now.restricted c.args.q aim_of.Positive c.ascend.new.dict.roles) c.in-Positive.is m.answer in
    positive_rises c.args.dict.now.roles c.args.dict.now.restricted c.args.q c.ascend.new.dict.roles m.carried a.1

pub returns-in-Unbounded-clause-looks : goal.returns-in-Unbounded-clause-looks
returns-in-Unbounded-clause-looks c =
    let d = c.in_ok-ascend.ensures.carried in
    carried_looks c.args.dict.now.roles c.ascend.new.dict.roles c.args.dict.now.restricted c.args.q d

pub returns-in-Unbounded-clause-seen : goal.returns-in-Unbounded-clause-seen
returns-in-Unbounded-clause-seen c =
    let m = c.in_ok-ascend.ensures in
    let a = subst (IsAnswer c.args.dict.now.roles c.args.dict.now.restricted c.args.q aim_of.Positive c.ascend.new.dict.roles) c.in-Unbounded.is m.answer in
    unlimited_rises c.args.dict.now.roles c.args.dict.now.restricted c.args.q c.ascend.new.dict.roles m.carried a.0

pub returns-in_ok-drop_all-in-At-clause-looks : goal.returns-in_ok-drop_all-in-At-clause-looks
returns-in_ok-drop_all-in-At-clause-looks c =
    let old = c.args.dict.now.roles in
    let flags = c.args.dict.now.restricted in
    let m = c.in_ok-ascend.ensures in
    let s = c.requires.speaks in
    let mid = c.ascend.new.dict.roles in
    let a = subst (IsAnswer old flags c.args.q aim_of.Positive mid) c.in-At.is m.answer in
    dropped_looks old flags c.args.q mid m.carried c.in-At.field-0 c.in-At.columns.items a.0 a.1 c.drop_all.new.dict.roles
    (subst (λ (t : List Entry). DropsEach mid (quantities t) c.drop_all.new.dict.roles) c.deref.ensures.value c.in_ok-drop_all-in-At.ensures.dropped)
    (at_zero old flags c.args.q mid m.carried c.in-At.field-0 a.0 c.requires.flag s.forms s.list s.speaks (a.2 refl))
    (λ forms l k w. restricted_high forms l old flags k c.args.q c.requires.flag w)

pub returns-in_ok-drop_all-in-At-clause-seen : goal.returns-in_ok-drop_all-in-At-clause-seen
returns-in_ok-drop_all-in-At-clause-seen c =
    let old = c.args.dict.now.roles in
    let flags = c.args.dict.now.restricted in
    let m = c.in_ok-ascend.ensures in
    let s = c.requires.speaks in
    let mid = c.ascend.new.dict.roles in
    let a = subst (IsAnswer old flags c.args.q aim_of.Positive mid) c.in-At.is m.answer in
    flat_now old flags c.args.q mid m.carried c.in-At.field-0 c.in-At.columns.items a.0 a.1 c.drop_all.new.dict.roles
    (subst (λ (t : List Entry). DropsEach mid (quantities t) c.drop_all.new.dict.roles) c.deref.ensures.value c.in_ok-drop_all-in-At.ensures.dropped)
    (at_zero old flags c.args.q mid m.carried c.in-At.field-0 a.0 c.requires.flag s.forms s.list s.speaks (a.2 refl))
    (λ forms l k w. restricted_high forms l old flags k c.args.q c.requires.flag w)
