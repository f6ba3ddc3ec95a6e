-- The last step joins the equation.
use Rattle.std.proofs.Common.{ap, sym, subst, ◌∙◌, inl, refl, Err}
use Rattle.std.specs.Prelude.{is_some, filter}
use Rattle.cq_frac.specs.declared.VarId.{VarId}
use Rattle.cq_frac.specs.Rows as row
use Rattle.cq_dict.specs.Roles.{PivotPair, IsEliminated}
use Rattle.cq_equations.specs.Contents.{solved_in, number_in}
use Rattle.cq_equations.specs.Told.{numbers_of}
use Rattle.cq_equations.specs.Entering.{AreGained, follows, eliminates, in_form, in_exchange}
use Rattle.cq_equations.proofs.Fresh.{known_after, last_row, first_of, none_first}
use Rattle.cq_equations.proofs.Gained.{fault_of, known_rest, gained_by, none_gained}
use Rattle.cq_equations.proofs.entering.enter.Goals as goal

pub add_member-requires : goal.add_member-requires
add_member-requires c = known_after c.args.table.now.now c.add_variables.new.table.now c.args.form.now c.in_ok-add_variables.ensures.added

pub returns-in_err-add_member-clause-overflow : goal.returns-in_err-add_member-clause-overflow
returns-in_err-add_member-clause-overflow c = λ pair e.
    let f = fault_of c.from_residual-in_err-add_member.result c.in_err-add_member.field-0.0 c.from_residual-in_err-add_member.ensures.1 pair e in
    let p = c.in_err-add_member.ensures.overflow pair (ap Err f) in
    (in_form c.add_variables.new.table.now c.in_ok-add_variables.ensures.added p.0, p.1)

pub lead-constant-requires : goal.lead-constant-requires
lead-constant-requires c =
    let m = c.in_ok-add_member.ensures.added in
    (m.row, last_row c.add_variables.new.table.now c.add_member.new.self.now c.args.form.now m c.count-row.result c.count-row.ensures.count)

pub eliminate-requires : goal.eliminate-requires
eliminate-requires c =
    let m = c.in_ok-add_member.ensures.added in
    let at = last_row c.add_variables.new.table.now c.add_member.new.self.now c.args.form.now m c.count-row.result c.count-row.ensures.count in
    let r = first_of m.row.live c.in-Some.first (sym (c.lead-constant.ensures m.row at).1 ∙ c.in-Some.is) in
    record { own = m.row; factor = c.in-Some.first.factor; is_row = at; in_row = subst (row.Has c.in-Some.first) (sym r.1) (inl refl) }

pub returns-in_err-eliminate-in-Some-clause-overflow : goal.returns-in_err-eliminate-in-Some-clause-overflow
returns-in_err-eliminate-in-Some-clause-overflow c = λ pair e.
    let f = fault_of c.from_residual-in_err-eliminate-in-Some.result c.in_err-eliminate-in-Some.field-0.0 c.from_residual-in_err-eliminate-in-Some.ensures.1 pair e in
    let p = c.in_err-eliminate-in-Some.ensures.overflow pair (ap Err f) in (
      in_exchange c.add_variables.new.table.now c.add_member.new.self.now c.in_ok-add_variables.ensures.added c.in_ok-add_member.ensures.added c.in-Some.first.quantity
          (subst (λ n. PivotPair c.add_member.new.self.now.roles n c.in-Some.first.quantity pair.operation pair.left pair.right) c.count-row.ensures.count p.0),
      p.1,
    )

pub returns-in_ok-eliminate-in-Some-clause-joined : goal.returns-in_ok-eliminate-in-Some-clause-joined
returns-in_ok-eliminate-in-Some-clause-joined c =
    let m = c.in_ok-add_member.ensures.added in
    let at = last_row c.add_variables.new.table.now c.add_member.new.self.now c.args.form.now m c.count-row.result c.count-row.ensures.count in
    let r = first_of m.row.live c.in-Some.first (sym (c.lead-constant.ensures m.row at).1 ∙ c.in-Some.is) in
    record {
      known = c.add_variables.new.table.now;
      adds = c.in_ok-add_variables.ensures.added;
      joins = eliminates c.add_member.new.self.now m (record {
        first = c.in-Some.first;
        rest = r.0;
        live = r.1;
        names = c.in_ok-eliminate-in-Some.ensures.names;
        same = c.in_ok-eliminate-in-Some.ensures.same;
        kinds = subst (λ n. IsEliminated c.add_member.new.self.now.roles n c.in-Some.first.quantity c.eliminate.new.self.now.roles) c.count-row.ensures.count c.in_ok-eliminate-in-Some.ensures.kinds;
        table = c.in_ok-eliminate-in-Some.ensures.table;
      });
      gained = gained_by c.add_variables.new.table.now c.eliminate.new.self.now c.count-row.ensures.named.distinct c.in_ok-rest-in-Some.rest.items c.gather.new.fixed.items
          (known_rest c.add_variables.new.table.now c.add_member.new.self.now c.args.form.now c.count-row.ensures.named m (numbers_of c.in_ok-rest-in-Some.rest.items) c.in_ok-rest-in-Some.ensures)
          (c.gather.ensures ∙ ap (filter (λ (v : VarId). is_some (number_in (solved_in c.eliminate.new.self.now v.0)))) c.deref.ensures.value);
    }

pub returns-then-is_zero-clause-joined : goal.returns-then-is_zero-clause-joined
returns-then-is_zero-clause-joined c =
    let m = c.in_ok-add_member.ensures.added in
    let at = last_row c.add_variables.new.table.now c.add_member.new.self.now c.args.form.now m c.count-row.result c.count-row.ensures.count in
    let lead = c.lead-constant.ensures m.row at in
    record {
      known = c.add_variables.new.table.now;
      adds = c.in_ok-add_variables.ensures.added;
      joins = follows m (none_first m.row.live (sym lead.1 ∙ c.in-None.is)) (sym lead.0 ∙ c.is_zero.ensures.0 c.if-is_zero.true);
      gained = subst (λ s. AreGained c.add_variables.new.table.now c.add_member.new.self.now (numbers_of s)) (sym c.new.ensures.items) (none_gained c.add_variables.new.table.now c.add_member.new.self.now c.args.form.now c.count-row.ensures.named m);
    }

pub returns-else-is_zero-clause-contradiction : goal.returns-else-is_zero-clause-contradiction
returns-else-is_zero-clause-contradiction c =
    let m = c.in_ok-add_member.ensures.added in
    let at = last_row c.add_variables.new.table.now c.add_member.new.self.now c.args.form.now m c.count-row.result c.count-row.ensures.count in
    let lead = c.lead-constant.ensures m.row at in
    record {
      known = c.add_variables.new.table.now;
      adds = c.in_ok-add_variables.ensures.added;
      contradicts = record {
        asked = c.add_member.new.self.now;
        member = m;
        live = none_first m.row.live (sym lead.1 ∙ c.in-None.is);
        constant = λ z. let t = c.is_zero.ensures.1 (lead.0 ∙ z) in let f = c.if-is_zero.false in cc;
      };
    }
