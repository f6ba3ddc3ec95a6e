-- What the answers of a machine's world say of the goal that asks.
use Rattle.std.proofs.Common.{◌≡◌, ℕ, List, [], Option, None, Some, sym, ap, ◌∙◌, subst, inl}
use Rattle.spec_numbers.specs.Rational.{ℚ}
use Rattle.spec_linear.specs.Solution.{Constraint, Fixes}
use Rattle.spec_numbers.specs.Texts.{Text}
use Rattle.spec_builtins.specs.Errors.{type_error}
use Rattle.spec_syntax.specs.Trees.{Tree}
use Rattle.spec_branch.specs.Checks.{question_error, expression_error, members}
use Rattle.spec_branch.specs.Branch.{State, Branch, no_work}
use Rattle.spec_search.specs.Builtins.{Side}
use Rattle.spec_search.specs.Constraints.{entailed_row}
use Rattle.spec_search.specs.Replies.{Place, Reply, IfEntailed, WithExtent, child, made, makes, onward, unless_error}
use Rattle.spec_search.specs.Rows.{reply_of}
use Rattle.spec_search.specs.Steps as step
use Rattle.spec_search.specs.Steps.{Steps, Children, children, ball_of}
use Rattle.spec_transcript.specs.Questions.{IsQuestionMoment}
use Rattle.cq_store.specs.declared.store.Extent.TheVariants as extent
use Rattle.cq_store.specs.declared.store.StoreFault.{StoreFault}
use Rattle.cq_store.specs.declared.store.StoreFault.TheVariants as fault
use Rattle.cq_questions.specs.declared.extents.Reach.{Reach}
use Rattle.cq_questions.specs.declared.extents.Reach.TheVariants as reach
use Rattle.cq_questions.specs.Extents.{IsReach}
use Rattle.cq_questions.specs.Members.{AreEntailed, IsOneBroken, IsFirstWaiting}
use Rattle.cq_questions.specs.Stops.{AtStates, IsDueIn, MembersStop, ExtentStops}
use Rattle.cq_questions.specs.Values.{AtValues, WithValues}
use Rattle.cq_questions.proofs.Answered.{entailed_step, broken_step, not_linear_step, extent_step, unbounded_step, false_step, waits_step, members_due, extent_due}
use Rattle.cq_term.specs.Trees.{tree}
use Rattle.cq_settle.specs.Contents.{Contents}
use Rattle.cq_branch.specs.Worlds.{IsBranch, Leads}
use Rattle.cq_machine.specs.declared.machine.Machine.{Machine}
use Rattle.cq_machine.specs.Machines.{now, holds}
use Rattle.cq_execute.specs.Asked.{StepsOn, IsStoppedAt}
use Rattle.cq_execute.specs.Found.{IsFoundAt, valued_by}

module _ (texts : List Text) (w : Contents) (st : State) (b : IsBranch texts w st) where
  -- what holds of the values that the world's list fixes holds of those that the state's does
  pub with_values : (P : List Constraint → (ℕ → Option ℚ) → Type 0) → AtValues w.told (P w.told) → WithValues st.linear (P st.linear)
  with_values P h =
      let e = b.ready.stands.linear in
      record {
        fixed = b.fixed;
        fixes = subst (λ (l : List Constraint). Fixes l b.fixed) e b.fixes;
        holds = subst (λ (l : List Constraint). P l b.fixed) e (h b.fixed b.fixes);
      }

  pub at_state : (P : State → Type 0) → AtStates w.told P → P st
  at_state P h = h st (sym b.ready.stands.linear)

-- ---- the goal's reply

-- where nothing is wrong with the term that was checked, the reply is the question, and else its error
module _ (p : Place) (g : Tree) (check : Option Tree) (r : Reply) (row : reply_of p g ≡ unless_error check r) where
  pub asks : check ≡ None → reply_of p g ≡ r
  asks e = row ∙ ap (λ (c : Option Tree). unless_error c r) e

  pub refused : (e : Tree) → check ≡ Some e → Steps p g (ball_of g e)
  refused e h = step.raises (row ∙ ap (λ (c : Option Tree). unless_error c r) h)

-- the machine leads to the children of the goal's step
pub steps_on : (m : Machine) (current : Option ℕ) (p : Place) (behind : List Branch) (g : Tree) (bs : List Branch)
    → Leads m.atoms (holds m) (now m) current p behind (makes p bs) → Steps p g (children p bs) → StepsOn m current p behind g
steps_on m current p behind g bs l h =
    let e : made p bs ≡ l.made = (let same = l.row in cc) in
    record { reply = makes p bs; leads = l; step = subst (λ x. Steps p g (Children x)) e h }

-- a moment of the question that the reply is, is why the query stops
pub asking_stops : (n : ℕ) (f : StoreFault) (p : Place) (g : Tree) → IsDueIn (IsQuestionMoment p.state (reply_of p g)) n f → IsStoppedAt n f p g
asking_stops n (fault.Overflow pair) p g h = inl h
asking_stops n (fault.Pivots k) p g h = (h.0, inl h.1)
asking_stops n fault.NoMemory p g h = tt

-- ---- entailed(C)

module _ (texts : List Text) (w : Contents) (p : Place) (b : IsBranch texts w p.state) (g c : Tree) (row : reply_of p g ≡ entailed_row p c)
    (lawful : question_error c ≡ None) (ms : List Tree) (same : ms ≡ members c) where
  abbrev next : Branch
  next = child p.rest p.state no_work

  asked : reply_of p g ≡ IfEntailed ms next
  asked = asks p g (question_error c) (IfEntailed (members c) next) row lawful ∙ ap (λ (ts : List Tree). IfEntailed ts next) (sym same)

  pub entailed_then : AtValues w.told (λ fixed. AreEntailed w.told fixed ms) → Steps p g (children p (onward p))
  entailed_then h = entailed_step p g ms next asked (with_values texts w p.state b (λ l fixed. AreEntailed l fixed ms) h)

  pub broken_then : AtValues w.told (λ fixed. IsOneBroken w.told fixed ms) → Steps p g (children p [])
  broken_then h = broken_step p g ms next asked (with_values texts w p.state b (λ l fixed. IsOneBroken l fixed ms) h)

  pub waiting_then : (t : Tree) → AtValues w.told (λ fixed. IsFirstWaiting fixed ms t) → Steps p g (ball_of g (type_error "linear" t))
  waiting_then t h = not_linear_step p g ms next asked t (with_values texts w p.state b (λ l fixed. IsFirstWaiting fixed ms t) h)

  pub members_stop : (n : ℕ) (f : StoreFault) → AtStates w.told (λ st. MembersStop n st ms f) → IsStoppedAt n f p g
  members_stop n f h = asking_stops n f p g (members_due p g ms next n f asked (at_state texts w p.state b (λ st. MembersStop n st ms f) h))

-- ---- how far an expression reaches

module _ (texts : List Text) (w : Contents) (p : Place) (b : IsBranch texts w p.state) (g e : Tree) (side : Side) (next : ℚ → Branch)
    (row : reply_of p g ≡ unless_error (expression_error e) (WithExtent side e next)) (lawful : expression_error e ≡ None) where
  asked_about : reply_of p g ≡ WithExtent side e next
  asked_about = asks p g (expression_error e) (WithExtent side e next) row lawful

  -- what is found of an expression is the goal's step
  pub found_then : (id : ℕ) → tree texts w.heap.terms id ≡ e → (r : Reach) → AtValues w.told (λ fixed. IsReach side w.told fixed e r)
      → IsFoundAt texts w.heap.terms (valued_by id r) p g next
  found_then id same (reach.Linear (extent.Value q)) h =
      extent_step p g side e next asked_about q (with_values texts w p.state b (λ l fixed. IsReach side l fixed e (reach.Linear (extent.Value q))) h)
  found_then id same (reach.Linear extent.Unbounded) h =
      unbounded_step p g side e next asked_about (with_values texts w p.state b (λ l fixed. IsReach side l fixed e (reach.Linear extent.Unbounded)) h)
  found_then id same reach.Waits h =
      subst (λ (t : Tree). Steps p g (ball_of g (type_error "linear" t))) (sym same)
      (waits_step p g side e next asked_about (with_values texts w p.state b (λ l fixed. IsReach side l fixed e reach.Waits) h))
  found_then id same reach.False h = false_step p g side e next asked_about (with_values texts w p.state b (λ l fixed. IsReach side l fixed e reach.False) h)

  pub reach_stops : (n : ℕ) (f : StoreFault) → AtStates w.told (λ st. ExtentStops n st side e f) → IsStoppedAt n f p g
  reach_stops n f h = asking_stops n f p g (extent_due p g side e next n f asked_about (at_state texts w p.state b (λ st. ExtentStops n st side e f) h))
