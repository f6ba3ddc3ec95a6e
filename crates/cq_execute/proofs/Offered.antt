-- The row of a predicate on terms or texts, for the goal that calls it.
use Rattle.std.proofs.Common.{◌≡◌, ℕ, List, [], Some, None, refl, sym, ap, ◌∙◌, subst}
use Rattle.std.specs.Prelude.{Ok, Err, IfOk, OnErr, option_and_then}
use Rattle.std.specs.declared.result.Result.{Result}
use Rattle.spec_syntax.specs.Trees.{Tree}
use Rattle.spec_builtins.specs.Built.{indicator_of}
use Rattle.spec_builtins.specs.Alternatives.{Solutions, Faults, Offers}
use Rattle.spec_builtins.specs.Terms.{arguments}
use Rattle.spec_branch.specs.Branch.{Branch}
use Rattle.spec_search.specs.Calls.{solutions_of}
use Rattle.spec_search.specs.Predicates.{Predicate, Order, Test, AtomList, Functor, Arg, Univ, CopyTerm, AtomLength, CharCode, NumberCodes, AtomConcat, SubAtom, predicate_of, predicate_named}
use Rattle.spec_search.proofs.PredicatesStepping.{called}
use Rattle.spec_search.specs.Builtins.{Builtin, builtin_of}
use Rattle.spec_search.specs.Replies as reply
use Rattle.spec_search.specs.Replies.{Place, Made, Makes, made, offers, alternative_child}
use Rattle.spec_search.specs.Rows.{builtin_reply}
use Rattle.spec_search.specs.Steps.{Children}
use Rattle.cq_built.specs.Errors.{error_tree}
use Rattle.cq_frac.specs.declared.Pair.{Pair}
use Rattle.cq_predicates.specs.TableNames.{built_in}
use Rattle.cq_term.specs.Trees.{tree}
use Rattle.cq_branch.proofs.Added.{reads_tree}
use Rattle.cq_choices.specs.Calls as ways
use Rattle.cq_choices.proofs.Leading.{made_is}
use Rattle.cq_machine.specs.declared.machine.Machine.{Machine}
use Rattle.cq_machine.specs.declared.step.Step.{Step}
use Rattle.cq_machine.specs.declared.step.Step.TheVariants.{Goes, Back, Raises, Throws, Refuses}
use Rattle.cq_machine.specs.Machines.{terms, now, IsSound, StillStands}
use Rattle.cq_machine.specs.Stepping.{IsSelectedAt, IsStep, CanGo, OnRaises}
use Rattle.cq_machine.specs.Offers.{HasMoreNames}
use Rattle.cq_execute.specs.Executions.{Reaches}
use Rattle.cq_execute.specs.Rows.{IsRowDone, as_stop}
use Rattle.cq_execute.specs.Stops.{no_memory}
use Rattle.cq_execute.proofs.Reached.{replies, continues, raised}
use Rattle.cq_execute.proofs.Done.{keeps_walks}

-- the built-in predicate that it is
pub is_predicate : (q : Predicate) → predicate_of (built_in q) ≡ Some q
is_predicate (Order c) = refl
is_predicate (Test t) = refl
is_predicate (AtomList k) = refl
is_predicate Functor = refl
is_predicate Arg = refl
is_predicate Univ = refl
is_predicate CopyTerm = refl
is_predicate AtomLength = refl
is_predicate CharCode = refl
is_predicate NumberCodes = refl
is_predicate AtomConcat = refl
is_predicate SubAtom = refl

pub named_so : (g : Tree) (q : Predicate) → builtin_of (indicator_of g) ≡ Some (built_in q) → predicate_named (indicator_of g) ≡ Some q
named_so g q e = ap (option_and_then predicate_of) e ∙ is_predicate q

no_overflow : (p : Place) (s : Solutions) (pair : Pair) → offers p s ≡ reply.Overflows pair → ⊥
no_overflow p (Faults e) pair h = cc
no_overflow p (Offers found) pair h = cc

no_throw : (p : Place) (s : Solutions) (t : Tree) → offers p s ≡ reply.Throws t → ⊥
no_throw p (Faults e) t h = cc
no_throw p (Offers found) t h = cc

-- an error of the row is the reply
abbrev pub RaiseErrors : Type 0
RaiseErrors = (b : Builtin) (q : Predicate) → predicate_of b ≡ Some q → (p : Place) (ts : List Tree) (e : Tree) → ways.row_of q p ts ≡ reply.Raises e → builtin_reply p b ts ≡ reply.Raises e

module _ (old new : Machine) (more : HasMoreNames old new) (id height rest : ℕ) (q : Predicate) (calls : builtin_of (indicator_of (tree old.atoms (terms old) id)) ≡ Some (built_in q))
    (errors : RaiseErrors) where
  module _ (p : Place) (behind : List Branch) (g : Tree) (at : IsSelectedAt old id height rest p behind g) where
    found : builtin_of (indicator_of g) ≡ Some (built_in q)
    found = subst (λ (t : Tree). builtin_of (indicator_of t) ≡ Some (built_in q)) (reads_tree old.atoms (now old).0 p.state id g at.reads) calls

    abbrev Row : Type 0
    Row = (s : Step) → IsStep new s p behind (ways.row_of q p (arguments g)) → Reaches new s [] p behind g

    reached : Row
    reached (Goes k) l =
        continues new p behind g (at.database ∙ sym more.database) (Some k) (ways.row_of q p (arguments g)) l
        ((called p g q (named_so g q found) at.reads.1 (Children l.made)).1 (sym (made_is p g (solutions_of q p.state.fresh (arguments g)) l.made l.row)))
    reached Back l =
        continues new p behind g (at.database ∙ sym more.database) None (ways.row_of q p (arguments g)) l
        ((called p g q (named_so g q found) at.reads.1 (Children l.made)).1 (sym (made_is p g (solutions_of q p.state.fresh (arguments g)) l.made l.row)))
    reached (Raises e) h =
        raised new p behind g (at.database ∙ sym more.database) (error_tree new.atoms (terms new) e)
        (replies p g (built_in q) found ∙ errors (built_in q) q (is_predicate q) p (arguments g) (error_tree new.atoms (terms new) e) h)
    reached (Throws id) h = absurd (no_throw p (solutions_of q p.state.fresh (arguments g)) _ h.is)
    reached (Refuses pair) h = absurd (no_overflow p (solutions_of q p.state.fresh (arguments g)) pair h)

  abbrev RowOf : Step → Type 0
  RowOf s = (h : ℕ) (p : Place) (behind : List Branch) (g : Tree) → IsSelectedAt old id h rest p behind g → IsStep new s p behind (ways.row_of q p (arguments g))

  pub offer_done : {E : Type 0} (r : Result Step E) → IfOk r RowOf → IfOk r (CanGo new) → IfOk r (λ s. OnRaises s (StillStands old new)) → IsSound new
      → new.world.first.store.pivots ≡ old.world.first.store.pivots → OnErr r (StillStands old new) → IsRowDone old new id height rest (as_stop r)
  offer_done (Ok s) row goes raises sound budget err = record {
    row = λ p behind g at. reached p behind g at s (row height p behind g at);
    stop = tt;
    goes = goes;
    raises = raises;
    sound = sound;
    program = keeps_walks old new (record { atoms = more.atoms; names = more.names; clauses = more.clauses; budget = budget });
    err = tt;
    err_database = tt;
  }
  offer_done (Err e) row goes raises sound budget err = record {
    row = tt;
    stop = λ p behind g at. no_memory;
    goes = tt;
    raises = tt;
    sound = sound;
    program = keeps_walks old new (record { atoms = more.atoms; names = more.names; clauses = more.clauses; budget = budget });
    err = err;
    err_database = more.database;
  }
