-- What a step says of the goal that was selected.
use Rattle.std.proofs.Common.{◌≡◌, ℕ, List, [], map, true, Option, Some, None, refl, sym, ap, ◌∙◌, subst}
use Rattle.spec_numbers.specs.Texts.{Text}
use Rattle.spec_terms.specs.Term.{Var, Number, Name, Compound}
use Rattle.spec_syntax.specs.Trees.{Tree}
use Rattle.spec_builtins.specs.Built.{indicator_of}
use Rattle.spec_builtins.specs.Kinds.{is_callable}
use Rattle.spec_builtins.specs.Terms.{arguments}
use Rattle.spec_branch.specs.Branch.{Branch, plain_copy, read}
use Rattle.spec_search.specs.Builtins.{Builtin, builtin_of}
use Rattle.spec_search.specs.Control.{clause_child, user_row}
use Rattle.spec_search.specs.Database.{Database}
use Rattle.spec_search.specs.Replies as reply
use Rattle.spec_search.specs.Replies.{Place, Reply, made}
use Rattle.spec_search.specs.Rows.{reply_of, reply_by, builtin_reply}
use Rattle.spec_search.specs.Steps as steps
use Rattle.spec_search.specs.Steps.{Steps, Ball, Children, ball_of}
use Rattle.spec_engine.specs.Coming.{Comes}
use Rattle.spec_engine.specs.Standing.{engine}
use Rattle.cq_built.specs.Errors.{error_tree}
use Rattle.cq_calls.specs.Calling.{CallBecomes}
use Rattle.cq_branch.specs.Worlds.{IsBranch, term_in, Leads}
use Rattle.cq_term.specs.Trees.{tree}
use Rattle.cq_machine.specs.declared.machine.Machine.{Machine}
use Rattle.cq_machine.specs.declared.step.Step.{Step}
use Rattle.cq_machine.specs.declared.step.Step.TheVariants.{Goes, Back, Raises, Throws, Refuses}
use Rattle.cq_machine.specs.Machines.{terms, now, holds, database_of}
use Rattle.cq_machine.specs.Stepping.{IsStep}
use Rattle.cq_machine.specs.Calls.{IsCall}
use Rattle.cq_execute.specs.declared.executed.Executed.{Executed}
use Rattle.cq_execute.specs.Executions.{Continues, HasStep, Reaches}

-- ---- replies

pub replies : (p : Place) (g : Tree) (b : Builtin) → builtin_of (indicator_of g) ≡ Some b → reply_of p g ≡ builtin_reply p b (arguments g)
replies p (Var v) b e = cc
replies p (Number q) b e = cc
replies p (Name a) b e = ap (reply_by p (Name a)) e
replies p (Compound f ts) b e = ap (reply_by p (Compound f ts)) e

pub user_replies : (p : Place) (g : Tree) → is_callable g ≡ true → builtin_of (indicator_of g) ≡ None → reply_of p g ≡ user_row p (indicator_of g)
user_replies p (Var v) c e = cc
user_replies p (Number q) c e = cc
user_replies p (Name a) c e = ap (reply_by p (Name a)) e
user_replies p (Compound f ts) c e = ap (reply_by p (Compound f ts)) e

-- ---- steps

module _ (m : Machine) (p : Place) (behind : List Branch) (g : Tree) (d : p.database ≡ database_of m) where
  -- where the step makes the children to which a row leads
  pub continues : (current : Option ℕ) (r : Reply) (l : Leads m.atoms (holds m) (now m) current p behind r) → Steps p g (Children l.made) → Continues m current [] p behind g
  continues current r l step = record {
    made = l.made;
    step = step;
    database = l.database ∙ d;
    output = l.output;
    comes = λ steps s e b. subst (λ (db : Database). Comes (IsBranch m.atoms) (term_in m.atoms) steps (engine db s.selected (holds m) (now m) current) s) d
        (l.comes steps s (e ∙ sym d) b);
  }

  -- its reply is an error
  pub raised : (e : Tree) → reply_of p g ≡ reply.Raises e → HasStep m p g (ball_of g e)
  raised e h = record { step = steps.raises h; database = d }

  -- it throws a term, which reads as itself
  thrown : (t : Tree) → reply_of p g ≡ reply.Throws t → read p.state t ≡ t → HasStep m p g (Ball (plain_copy t))
  thrown t h r = record { step = steps.throws h (ap plain_copy (sym r)); database = d }

  pub reach : (s : Step) (r : Reply) → reply_of p g ≡ r → IsStep m s p behind r → Reaches m s [] p behind g
  reach (Goes k) r e l = continues (Some k) r l (steps.makes (e ∙ l.row))
  reach Back r e l = continues None r l (steps.makes (e ∙ l.row))
  reach (Raises x) r e h = raised (error_tree m.atoms (terms m) x) (e ∙ h)
  reach (Throws id) r e h = thrown (tree m.atoms (terms m) id) (e ∙ h.is) h.reads
  reach (Refuses pair) r e h = record { is = e ∙ h; database = d }

  -- the clauses of a call are tried
  called : (current : Option ℕ) → reply_of p g ≡ user_row p (indicator_of g) → CallBecomes m.atoms (holds m) (now m) current p behind g → Continues m current [] p behind g
  called current e c = record {
    made = made p (map (clause_child p g) c.some);
    step = steps.calls (e ∙ c.row) c.selection;
    database = d;
    output = refl;
    comes = λ steps s f b. subst (λ (db : Database). Comes (IsBranch m.atoms) (term_in m.atoms) steps (engine db s.selected (holds m) (now m) current) s) d
        (c.comes steps s (f ∙ sym d) b);
  }

  pub reach_call : (s : Step) → reply_of p g ≡ user_row p (indicator_of g) → IsCall m s p behind g → Reaches m s [] p behind g
  reach_call (Goes k) e c = called (Some k) e c
  reach_call Back e c = called None e c
  reach_call (Raises x) e h = raised (error_tree m.atoms (terms m) x) (e ∙ h)
  reach_call (Throws id) e c = absurd c
  reach_call (Refuses pair) e c = absurd c

-- a step that shows nothing
pub quietly : (m : Machine) (x : Executed) (s : Step) (p : Place) (behind : List Branch) (g : Tree) → x.step ≡ s → x.output.items ≡ [] → Reaches m s [] p behind g
    → Reaches m x.step x.output.items p behind g
quietly m x s p behind g is none r =
    subst (λ (text : Text). Reaches m x.step text p behind g) (sym none) (subst (λ (t : Step). Reaches m t [] p behind g) (sym is) r)
