-- Steps of a settling in the definitions: a term moves, and a branch is pruned.
use Rattle.std.proofs.Common.{◌≡◌, ◌<◌, ℕ, List, [], ◌∷◌, ◌++◌, map, length, Option, Some, refl, sym, ap, ◌∙◌, subst, append_assoc}
use Rattle.std.specs.Prelude.{IsPermutation}
use Rattle.spec_numbers.specs.Rational.{ℚ}
use Rattle.spec_linear.specs.Solution.{Constraint, Solvable, Unsolvable, Fixes}
use Rattle.spec_linear.proofs.Lists.{unsolvable_more}
use Rattle.spec_numbers.specs.Texts.{Text}
use Rattle.spec_terms.specs.Term.{Subst, Var, Number, Name, Compound, apply, named}
use Rattle.spec_syntax.specs.Trees.{Tree}
use Rattle.spec_branch.specs.Relations.{lin, row_of}
use Rattle.spec_branch.specs.Branch.{State, Pending}
use Rattle.spec_branch.specs.Closure.{no_move, move}
use Rattle.spec_branch.specs.Settling.{Settling, Clash, NoSolution, clash, no_solution, NoClash, is_no_number, binding_equation, newly_bound}
use Rattle.cq_term.specs.Texts.{text_of}
use Rattle.cq_frac.specs.declared.VarId.{VarId}
use Rattle.cq_term.specs.Meaning.{HeapTerm, at}
use Rattle.cq_settle.specs.Contents.{Contents}
use Rattle.cq_settle.specs.Called.{IsCalled}
use Rattle.cq_settle.specs.Settled.{IsPruned}
use Rattle.cq_settle.specs.Steps.{ClashesAt, is_neither, StopsAt, CannotJoin}
use Rattle.cq_settle.specs.Underway.{IsReached, unified}
use Rattle.cq_settle.proofs.Ends.{then_moves, unsolvable_closed}

-- ---- a clash

pub named_neither : (f : ℕ → Text) (t : HeapTerm) → is_no_number (named f t) ≡ is_neither t
named_neither f (Var v) = refl
named_neither f (Number q) = refl
named_neither f (Name a) = refl
named_neither f (Compound a ts) = refl

pub clash_prunes : (texts : List Text) (c : Contents) (newly : List VarId) (told : List ℕ) (rows : List Constraint) (st : State) (p : Pending) (u : Subst Text)
    → IsCalled texts c newly told rows st p u → (v : ℕ) → v < length c.heap.images → ClashesAt c v → IsPruned st p u
clash_prunes texts c newly told rows st p u k v l h = (
  Clash,
  λ items. clash (record {
    variable = v;
    numeric = sym (k.stands.numeric v) ∙ h.0;
    image = ap is_no_number (k.stands.bindings.inside v l) ∙ named_neither (text_of texts) (at c.heap.images v) ∙ h.1;
  }),
)

-- ---- lists without a solution

-- the list with all of the constraints has none, where it has none with some of them
pub stopped : (l all done left : List Constraint) (next : Constraint) → all ≡ done ++ next ∷ left → Unsolvable ((l ++ done) ++ next ∷ []) → Unsolvable (l ++ all)
stopped l all done left next e h =
    let s : ((l ++ done) ++ next ∷ []) ++ left ≡ l ++ all =
    append_assoc (l ++ done) (next ∷ []) left ∙ append_assoc l done (next ∷ left) ∙ ap (λ (xs : List Constraint). l ++ xs) (sym e) in
    subst Unsolvable s (unsolvable_more ((l ++ done) ++ next ∷ []) left h)

module _ (st : State) (p : Pending) (u : Subst Text) (no_clash : NoClash st (unified st u)) where
  pub pruned_at : (l : List Constraint) (w : List Tree) → IsReached st p u l w → Unsolvable l → IsPruned st p u
  pruned_at l w r h =
      let j : Settling st p u = record {
        equations = r.equations;
        each_newly_bound = r.each_newly_bound;
        linear = l;
        waiting = w;
        closure = record { moves = r.moves; closed = unsolvable_closed (unified st u) l w h };
      } in
      (NoSolution l, λ items. no_solution no_clash j h)

  pub stops_joining : (equations : List Constraint) → IsPermutation equations (map (binding_equation (unified st u)) (newly_bound st u))
      → StopsAt CannotJoin st.linear (equations ++ p.rows) → IsPruned st p u
  stops_joining equations each s =
      pruned_at (st.linear ++ equations ++ p.rows) (st.delayed ++ p.told)
      (record { equations = equations; each_newly_bound = each; moves = no_move })
      (subst Unsolvable (sym (append_assoc st.linear equations p.rows)) (stopped st.linear (equations ++ p.rows) s.done s.left s.next s.split s.here))

-- ---- a term that moves

pub moved : (st : State) (p : Pending) (u : Subst Text) (l : List Constraint) (before after : List Tree) (t : Tree) → IsReached st p u l (before ++ t ∷ after)
    → Solvable l → (fixed : ℕ → Option ℚ) → Fixes l fixed → (row : Constraint) → row_of (lin fixed (apply (unified st u) t)) ≡ Some row
    → IsReached st p u (l ++ row ∷ []) (before ++ after)
moved st p u l before after t r solvable fixed fixes row e = record {
  equations = r.equations;
  each_newly_bound = r.each_newly_bound;
  moves = then_moves r.moves (move (record {
    before = before;
    term = t;
    after = after;
    among = refl;
    solvable = solvable;
    result = lin fixed (apply (unified st u) t);
    is_lin = record { fixed = fixed; fixes = fixes; is = refl };
    row = row;
    row_is = e;
    joins = refl;
    leaves = refl;
  }) no_move);
}
