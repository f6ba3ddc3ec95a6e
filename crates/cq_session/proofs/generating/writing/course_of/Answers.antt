use Rattle.std.proofs.Common.{[]}
use Rattle.spec_search.specs.Search.{Search}
use Rattle.spec_command.specs.Outcome.{GenFrom, gen_budgets, gen_search}
use Rattle.cq_session.specs.declared.generating.course.Course.{Course}
use Rattle.cq_session.proofs.Courses.{of_all}
use Rattle.cq_session.proofs.generating.writing.course_of.Goals as goal

pub run_query-requires : goal.run_query-requires
run_query-requires g c =
    let h = c.in_ok-program.ensures in
    record { kept = h.kept; runs = (gen_search c.args.number, h.stands); named = h.names; budgets = h.budgets }

pub returns : goal.returns
returns g c =
    of_all c.run_query.result _ (λ (x : Course) (s : Search). GenFrom gen_budgets c.args.number x.line.items x.stopped 0 [] s) (gen_search c.args.number)
    c.in_ok-program.ensures.stands c.run_query.ensures
