use Rattle.std.proofs.Common.{◌≡◌, List, Result, Ok, Err, IfOk}
use Rattle.std.specs.Prelude.{Vec, ℕ}
use Rattle.std.specs.declared.alloc.AllocError.{AllocError}
use Rattle.std.specs.declared.alloc.Global.{Global}
use Rattle.spec_numbers.specs.Texts.{Text}
use Rattle.spec_syntax.specs.Operators.{Ops}
use Rattle.spec_branch.specs.Branch.{State}
use Rattle.spec_command.specs.Outcome.{value_text}
use Rattle.cq_built.proofs.Trees.{known_at}
use Rattle.cq_machine.specs.Machines.{terms}
use Rattle.cq_interpreter.specs.Toplevels.{texts, HasAnswered}
use Rattle.cq_interpreter.proofs.Valued.{there, is_value}
use Rattle.cq_interpreter.proofs.examining.ToplevelExamined.value.Goals as goal

-- what holds of the text that is written
of_text : (r : Result (Vec ℕ Global) AllocError) (written : Text) (P : Text → Type 0) → IfOk r (λ x. x.items ≡ written) → ((text : Text) → text ≡ written → P text)
    → IfOk r (λ x. P x.items)
of_text (Ok x) written P h f = f x.items h
of_text (Err e) written P h f = tt

pub var_term-id-requires : goal.var_term-id-requires
var_term-id-requires c = there c.args.self.now c.args.number c.requires.named c.requires.told.0 c.requires.told.1 c.requires.told.2

pub write_term-requires : goal.write_term-requires
write_term-requires c =
    let t = c.args.self.now in
    record { live = c.var_term-id.ensures.live; names = known_at (texts t) (terms t.engine.machine) c.var_term-id.result c.requires.told.2.ready.stands.names c.var_term-id.ensures.live }

pub returns : goal.returns
returns c =
    let t = c.args.self.now in
    of_text c.write_term.result _ (λ (text : Text). (st : State) (ops : Ops) → HasAnswered t st ops → text ≡ value_text c.args.number ops st) c.write_term.ensures
    (λ text written st ops answered. is_value t c.args.number c.requires.named st ops answered c.var_term-id.result c.var_term-id.ensures.term text written)
