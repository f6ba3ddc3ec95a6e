-- What is written of an answer whose lines were made, or where a fault came.
use Rattle.std.proofs.Common.{◌≡◌, ℕ, refl, sym, subst, Result, Ok, Err}
use Rattle.std.specs.Prelude.{Vec, IfOk, IfErr}
use Rattle.std.specs.declared.alloc.Global.{Global}
use Rattle.spec_syntax.specs.Operators.{Ops}
use Rattle.spec_simplex.specs.Answers.{IsProjectionDue}
use Rattle.spec_simplex.specs.Chains.{IsBlandChain}
use Rattle.spec_branch.specs.Branch.{State}
use Rattle.spec_answers.specs.Answer.{AnswerForm}
use Rattle.spec_answers.specs.Targets.{wanted}
use Rattle.spec_engine.specs.Parts as parts
use Rattle.spec_transcript.specs.Causes as why
use Rattle.cq_frac.specs.declared.Pair.{Pair}
use Rattle.cq_project.specs.declared.eliminate.ProjectFault.{ProjectFault}
use Rattle.cq_project.specs.declared.eliminate.ProjectFault.TheVariants.{Overflow, Pivots, Rows, NoMemory}
use Rattle.cq_project.specs.EliminateFaults.{IfRows}
use Rattle.cq_project.specs.Answering.{IsRefusedAnswering, IsSpentAnswering}
use Rattle.cq_settle.specs.Rest.{IsReadyAs}
use Rattle.cq_machine.specs.Machines.{database_of, now}
use Rattle.cq_session.specs.Events.{IsAnswered}
use Rattle.cq_session.specs.declared.transcript.interpreter.Answered.{Answered}
use Rattle.cq_session.specs.declared.transcript.interpreter.Answered.TheVariants as answered
use Rattle.cq_interpreter.specs.Told.{IsWritten}
use Rattle.cq_interpreter.specs.Toplevels.{texts, budgets_of, names_of, HasAnswered}
use Rattle.cq_interpreter.specs.declared.toplevel.Toplevel.{Toplevel}

abbrev IsReadyIn : Toplevel → State → Type 0
IsReadyIn t st = IsReadyAs (texts t) (now t.engine.machine).0 st

module _ (t : Toplevel) (made : Result (Vec ℕ Global) ProjectFault)
    (lines_of : IfOk made (λ text. (st : State) → IsReadyIn t st → AnswerForm (database_of t.engine.machine).operators (names_of t) st text.items))
    (refused : (pair : Pair) → made ≡ Err (Overflow pair) → (st : State) → IsReadyIn t st → IsRefusedAnswering (wanted (names_of t) st) st.linear pair)
    (spent : (n : ℕ) → made ≡ Err (Pivots n) → (st : State) → IsReadyIn t st
    → (n ≡ t.engine.machine.world.first.store.pivots) × IsSpentAnswering (wanted (names_of t) st) st.linear n)
    (limit : IfErr made (λ fault. (st : State) → IsReadyIn t st → IfRows fault (IsProjectionDue (wanted (names_of t) st) st.linear 4096))) where
  written_as : (r : Result (Vec ℕ Global) ProjectFault) → made ≡ r → (a : Answered) → IsWritten r a → IsAnswered (budgets_of t) (HasAnswered t) (names_of t) a
  written_as (Ok text) e (answered.Lines lines) w =
      let made_lines = subst (λ (r : Result (Vec ℕ Global) ProjectFault). IfOk r (λ x. (st : State) → IsReadyIn t st → AnswerForm (database_of t.engine.machine).operators (names_of t) st x.items)) e lines_of in
      λ st ops h.
      subst (λ (o : Ops). AnswerForm o (names_of t) st lines.items) (sym h.operators)
      (subst (λ (x : Vec ℕ Global). AnswerForm (database_of t.engine.machine).operators (names_of t) st x.items) (sym w) (made_lines st h.ready))
  written_as (Ok text) e (answered.Stop line) w = absurd w
  written_as (Err (Overflow pair)) e (answered.Stop line) w =
      λ st ops h. let r = refused pair e st h.ready in
      (why.Overflow pair, parts.overflow r.of_answer r.due, w)
  written_as (Err (Pivots n)) e (answered.Stop line) w =
      λ st ops h. let r = spent n e st h.ready in
      (why.Pivots (budgets_of t).pivots, parts.pivots r.1.of_answer (subst (IsBlandChain r.1.moment) r.0 r.1.chain), w)
  written_as (Err (Rows p n rest rows)) e (answered.Stop line) w =
      let due = subst (λ (r : Result (Vec ℕ Global) ProjectFault). IfErr r (λ fault. (st : State) → IsReadyIn t st → IfRows fault (IsProjectionDue (wanted (names_of t) st) st.linear 4096))) e limit in
      λ st ops h. (why.Projection p n rest rows.items, parts.rows (due st h.ready), w)
  written_as (Err NoMemory) e (answered.Stop line) w = absurd w
  written_as (Err (Overflow pair)) e (answered.Lines lines) w = absurd w
  written_as (Err (Pivots n)) e (answered.Lines lines) w = absurd w
  written_as (Err (Rows p n rest rows)) e (answered.Lines lines) w = absurd w
  written_as (Err NoMemory) e (answered.Lines lines) w = absurd w

  pub written : (a : Answered) → IsWritten made a → IsAnswered (budgets_of t) (HasAnswered t) (names_of t) a
  written a w = written_as made refl a w
