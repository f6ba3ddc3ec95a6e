use Rattle.std.proofs.Common.{◌≡◌, ℕ, Option, None, Some, sym, subst, ◌∙◌}
use Rattle.std.specs.Prelude.{Ok, Err, IfOk, IfSome}
use Rattle.std.specs.declared.result.Result.{Result}
use Rattle.cq_predicates.specs.declared.table.builtins.Builtin.{Builtin}
use Rattle.cq_machine.specs.declared.machine.Machine.{Machine}
use Rattle.cq_engine.specs.Fronts.{HasWork}
use Rattle.cq_engine.specs.Seeking.{StandsFor}
use Rattle.cq_engine.specs.declared.front.Front.{Front}
use Rattle.cq_engine.proofs.Engines.{comes_at_once}
use Rattle.cq_engine.specs.Turning.{CallsAt, CallsAtFront, CallsInFront}
use Rattle.cq_engine.proofs.events.turning.ahead.Goals as goal

-- ---- the goal is in front already

in_front : (k l : ℕ) (o : Option ℕ) → o ≡ Some k → o ≡ Some l → k ≡ l
in_front k l o e f = let both : Some k ≡ Some l = sym e ∙ f in cc

here : (m : Machine) (n steps k : ℕ) (o : Option ℕ) (b : Builtin) → o ≡ Some k → CallsInFront m n steps o b → HasWork steps n m k × CallsAt m k b
here m n steps k o b e c =
    let same = in_front c.k k o c.at e in
    (subst (HasWork steps n m) same c.work, subst (λ (i : ℕ). CallsAt m i b) same c.calls)

pub returns-in-Some-current-clause-front : goal.returns-in-Some-current-clause-front
returns-in-Some-current-clause-front c = λ budgets e b s j.
    let m = c.args.m.now in
    comes_at_once m budgets.steps c.args.selected (Some c.in-Some-current.k) s (subst (λ (o : Option ℕ). StandsFor m c.args.selected o s) c.in-Some-current.is j)

pub returns-in-Some-current-clause-known : goal.returns-in-Some-current-clause-known
returns-in-Some-current-clause-known c =
    let at = (here c.args.m.now c.args.selected c.args.steps c.in-Some-current.k c.args.current.now c.in-Some.field-0 c.in-Some-current.is (rw c.in-Some.is at c.requires.known)).1 in
    subst (λ (o : Option Builtin). IfSome o (CallsAt c.args.m.now c.in-Some-current.k)) (sym c.in-Some.is) at

-- ---- it is looked for

none_known : {E : Type 0} (m : Machine) (o : Option Builtin) (r : Result Front E) → o ≡ None → IfOk r (λ f. IfSome o (CallsAtFront m f))
none_known m o (Ok f) e = subst (λ (p : Option Builtin). IfSome p (CallsAtFront m f)) (sym e) tt
none_known m o (Err x) e = tt

pub returns-in-None-clause-known : goal.returns-in-None-clause-known
returns-in-None-clause-known c = none_known c.look.new.m c.args.known c.look.result c.in-None.is
