use Rattle.std.proofs.Common.{◌≡◌, sym, subst}
use Rattle.std.specs.Prelude.{MatchBool}
use Rattle.spec_linear.specs.Solution.{Unsolvable, Has}
use Rattle.spec_linear.proofs.Denominators.{has_right}
use Rattle.cq_equations.specs.Contents.{told_of}
use Rattle.cq_equations.specs.Told.{numbers_of}
use Rattle.cq_equations.proofs.Fault.{overflow_back, pivots_back}
use Rattle.cq_equations.proofs.project.solved.Goals as goal

pub unreachable-requires : goal.unreachable-requires
unreachable-requires c =
    let none : Unsolvable c.args.told.now =
    subst (λ b. MatchBool b (told_of c.tell_all.new.store ≡ c.args.told.now) (Unsolvable c.args.told.now)) c.in-Ok-false.field-0-test c.in-Ok-false.ensures.kept in
    none c.requires.solvable.0 c.requires.solvable.1

pub returns-in-Err-clause-overflow : goal.returns-in-Err-clause-overflow
returns-in-Err-clause-overflow c pair e =
    let ordered = c.in_ok-store.ensures.order in
    let made = c.in-Err.ensures.overflow pair (overflow_back c.in-Err.fault c.from.result pair c.from.ensures e) in
    record {
      before = made.before;
      member = made.member;
      after = made.after;
      order = made.order;
      split = made.split;
      stays = λ x h. made.stays x (subst (Has x) (sym ordered.split) (has_right x ordered.others (numbers_of c.args.keep.now) h));
      made = made.made;
    }

pub returns-in-Err-clause-pivots : goal.returns-in-Err-clause-pivots
returns-in-Err-clause-pivots c n e = c.in-Err.ensures.pivots n (pivots_back c.in-Err.fault c.from.result n c.from.ensures e)
