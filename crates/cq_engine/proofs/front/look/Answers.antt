use Rattle.std.proofs.Common.{Some, None, refl, sym, arith, ◌∙◌}
use Rattle.std.specs.Prelude.{Ok, Err, OnErr}
use Rattle.std.specs.declared.result.Result.{Result}
use Rattle.cq_engine.proofs.Engines.{going_on, goes_then, keeps_on, keeps_both, keeps_none, comes_at_once, look_front, left_less}
use Rattle.cq_engine.proofs.front.look.Goals as goal

-- what holds at all holds of each result
on_any : {A E P : Type 0} (r : Result A E) → P → OnErr r P
on_any (Ok x) p = tt
on_any (Err e) p = p

pub marks-init : goal.marks-init
marks-init c =
    let m = c.args.m.now in
    record {
      kept = c.requires.kept;
      works = c.requires.works;
      goes = λ steps n s j. comes_at_once m steps n c.args.current.now s j;
      program = keeps_none m;
      budget = refl;
    }

pub gather-requires-clause-sound : goal.gather-requires-clause-sound
gather-requires-clause-sound c = (rw c.in-Mark.is at c.in-Ok.ensures.next).1

pub gather-requires-clause-mark : goal.gather-requires-clause-mark
gather-requires-clause-mark c = (rw c.in-Mark.is at c.in-Ok.ensures.next).2

pub gather-requires-clause-works : goal.gather-requires-clause-works
gather-requires-clause-works c =
    going_on c.marks.m c.look_once.new.m c.marks.current (Some c.in-Mark.k) (rw c.in-Mark.is at c.in-Ok.ensures.next).0 c.marks.invariant.works

pub marks-preserved : goal.marks-preserved
marks-preserved c =
    let i = c.marks.invariant in
    let fn = c.args in
    let mid = c.look_once.new.m in
    let new = c.gather.new.m in
    let comes = (rw c.in-Mark.is at c.in-Ok.ensures.next).0 in
    let last = goes_then c.marks.m mid new c.marks.current (Some c.in-Mark.k) None comes c.in_ok-gather-in-Mark.ensures.comes in
    record {
      kept = c.gather.ensures.kept;
      works = going_on c.marks.m new c.marks.current None last i.works;
      goes = goes_then fn.m.now c.marks.m new fn.current.now c.marks.current None i.goes last;
      program = keeps_both fn.m.now c.marks.m new i.program (keeps_on c.marks.m mid new c.look_once.ensures.program c.gather.ensures.program);
      budget = c.gather.ensures.budget ∙ c.look_once.ensures.budget ∙ i.budget;
    }

pub marks-smaller : goal.marks-smaller
marks-smaller c =
    let comes = (rw c.in-Mark.is at c.in-Ok.ensures.next).0 in
    let less = left_less c.marks.m c.look_once.new.m c.marks.current (Some c.in-Mark.k) comes c.marks.invariant.works in
    let fewer = c.in_ok-gather-in-Mark.ensures.fewer in
    omega (arith, less, fewer)

pub returns-in-Told-clause-front : goal.returns-in-Told-clause-front
returns-in-Told-clause-front c = λ budgets e b s j.
    let i = c.marks.invariant in
    let next = (rw c.in-Told.is at c.in-Ok.ensures.next).0 in
    look_front budgets c.args.m.now c.marks.m c.look_once.new.m c.args.selected c.args.current.now c.marks.current c.in-Told.front s i.goes (λ r k. next budgets e (b ∙ sym i.budget) r k) j

pub returns-in-Told-clause-ahead : goal.returns-in-Told-clause-ahead
returns-in-Told-clause-ahead c = (rw c.in-Told.is at c.in-Ok.ensures.next).1

pub returns-in-Told-clause-program : goal.returns-in-Told-clause-program
returns-in-Told-clause-program c = keeps_both c.args.m.now c.marks.m c.look_once.new.m c.marks.invariant.program c.look_once.ensures.program

pub returns-in-Err-clause-err : goal.returns-in-Err-clause-err
returns-in-Err-clause-err c =
    goes_then c.args.m.now c.marks.m c.look_once.new.m c.args.current.now c.marks.current None c.marks.invariant.goes c.in-Err.ensures.err

pub returns-in-Err-clause-program : goal.returns-in-Err-clause-program
returns-in-Err-clause-program c = keeps_both c.args.m.now c.marks.m c.look_once.new.m c.marks.invariant.program c.look_once.ensures.program

pub returns-in_err-gather-in-Mark-clause-err : goal.returns-in_err-gather-in-Mark-clause-err
returns-in_err-gather-in-Mark-clause-err c =
    let mid = c.look_once.new.m in
    let comes = (rw c.in-Mark.is at c.in-Ok.ensures.next).0 in
    on_any c.from_residual.result
    (goes_then c.args.m.now c.marks.m c.gather.new.m c.args.current.now c.marks.current (Some c.in-Mark.k) c.marks.invariant.goes
    (goes_then c.marks.m mid c.gather.new.m c.marks.current (Some c.in-Mark.k) (Some c.in-Mark.k) comes c.in_err-gather-in-Mark.ensures.err))

pub returns-in_err-gather-in-Mark-clause-program : goal.returns-in_err-gather-in-Mark-clause-program
returns-in_err-gather-in-Mark-clause-program c =
    keeps_both c.args.m.now c.marks.m c.gather.new.m c.marks.invariant.program
    (keeps_on c.marks.m c.look_once.new.m c.gather.new.m c.look_once.ensures.program c.gather.ensures.program)
