use Rattle.std.proofs.Common.{◌≡◌, ℕ, ◌+◌, length, sym, ap, ◌∙◌, subst, arith}
use Rattle.std.specs.Prelude.{IfOk}
use Rattle.spec_terms.specs.Term.{Subst, Var, apply, named}
use Rattle.spec_terms.proofs.Substitution.{apply-identity}
use Rattle.spec_transcript.specs.Purposes.{ball_line}
use Rattle.cq_term.specs.Texts.{text_of}
use Rattle.cq_resolve.specs.Building.{moved_by}
use Rattle.cq_term.specs.Meaning.{HeapTerm, at}
use Rattle.cq_term.specs.Names.{HasNamesBelow}
use Rattle.cq_write.specs.Meaning.{operators}
use Rattle.cq_interpreter.proofs.lines.stored_line.Goals as goal
use Rattle.cq_interpreter.proofs.lines.stored_line.Goals.{In_ok-id}

moved_none : (t : HeapTerm) → apply (moved_by 0) t ≡ t
moved_none t = ap (λ (s : Subst ℕ). apply s t) (λ i v. Var (none v i)) ∙ apply-identity t
  where
    none : (v : ℕ) → 0 + v ≡ v
    none v = omega arith

-- on a heap without variables the term is as it is stored
restored : (t : HeapTerm) (images : ℕ) (new : HeapTerm) → images ≡ 0 → new ≡ apply (moved_by images) t → new ≡ t
restored t images new none e = e ∙ ap (λ (n : ℕ). apply (moved_by n) t) none ∙ moved_none t

is_ball : (c : In_ok-id) → at c.restore.new.heap.now.terms c.in_ok-id.id ≡ c.args.ball.now.term
is_ball c = restored c.args.ball.now.term _ _ (ap length c.new-heap.ensures.images) c.in_ok-id.ensures.moved

pub line_on-requires-clause-names : goal.line_on-requires-clause-names
line_on-requires-clause-names c = subst (HasNamesBelow (length c.args.machine.now.atoms)) (sym (is_ball (goal.at.line_on-requires-clause-names c).In_ok-id)) c.requires

pub returns : goal.returns
returns c =
    let m = c.args.machine.now in
    subst (λ (t : HeapTerm). IfOk c.line_on.result (λ line. line.items ≡ ball_line (operators m.atoms m.ops) (named (text_of m.atoms) t)))
    (is_ball (goal.at.returns c).In_ok-id) c.line_on.ensures
