-- The steps of a goal that calls a predicate on terms or texts.
use Rattle.std.proofs.Common.{◌≡◌, ℕ, ◌+◌, List, [], ◌∷◌, length, Bool, true, false, Option, Some, None, refl, sym, ap, ◌∙◌, subst, arith}
use Rattle.std.specs.Prelude.{option_and_then}
use Rattle.std.proofs.Math.Bool.{or-false}
use Rattle.spec_terms.specs.Term.{Terms, Var, Number, Name, Compound, one, more, list_of, apply, apply_all}
use Rattle.spec_terms.specs.Variables.{variables, renamed_from}
use Rattle.spec_syntax.specs.Trees.{Tree}
use Rattle.spec_builtins.specs.Built.{indicator_of}
use Rattle.spec_builtins.specs.Alternatives.{Solutions, Faults, Offers, ◌≐◌, holds_if}
use Rattle.spec_builtins.specs.Terms.{arguments, passes}
use Rattle.spec_branch.specs.Branch.{State, plain_copy, read}
use Rattle.spec_search.specs.Builtins.{Builtin, builtin_of}
use Rattle.spec_search.specs.Builtins as builtin
use Rattle.spec_search.specs.Database.{Clause}
use Rattle.spec_search.specs.Replies.{Place, Calls, WithCopy, offers, succeeds_if, child, with_new, with_equations, alternative_child}
use Rattle.spec_search.specs.Control.{copied_child}
use Rattle.spec_search.specs.Rows.{nth, reply_of, reply_by, builtin_reply}
use Rattle.spec_search.specs.Steps.{Steps, Stepped, children, raises, makes, copies}
use Rattle.spec_search.proofs.OneStep.{step_once}
use Rattle.spec_search.specs.Predicates.{Predicate, predicate_of, predicate_named}
use Rattle.spec_search.specs.Calls.{solutions_of, stepped_by, copy_way}

-- ---- arguments

abbrev AllRead : State → List Tree → Type 0
AllRead st [] = Unit {0}
AllRead st (t ∷ ts) = (read st t ≡ t) × AllRead st ts

all_read : (st : State) (ts : Terms (List ℕ)) → apply_all st.bindings ts ≡ ts → AllRead st (list_of ts)
all_read st (one t) e = (let h : apply st.bindings t ≡ t = cc in (h, tt))
all_read st (more t ts) e = (let h : apply st.bindings t ≡ t = cc in let k : apply_all st.bindings ts ≡ ts = cc in (h, all_read st ts k))

arguments_read : (st : State) (t : Tree) → read st t ≡ t → AllRead st (arguments t)
arguments_read st (Var v) e = tt
arguments_read st (Number q) e = tt
arguments_read st (Name a) e = tt
arguments_read st (Compound f ts) e = (let k : apply_all st.bindings ts ≡ ts = cc in all_read st ts k)

first_read : (st : State) (ts : List Tree) → AllRead st ts → read st (nth ts 0) ≡ nth ts 0
first_read st [] h = refl
first_read st (t ∷ ts) h = h.0

-- ---- children

module _ (p : Place) (goal : Tree) where
  offered : (s : Solutions) → reply_of p goal ≡ offers p s → Steps p goal (stepped_by p goal s)
  offered (Faults e) h = raises h
  offered (Offers ways) h = makes h

  none_new : with_new 0 p.state ≡ p.state
  none_new = (let e : p.state.fresh + 0 ≡ p.state.fresh = omega arith in λ i. record p.state { fresh = e i })

  tested : (b : Bool) → reply_of p goal ≡ succeeds_if b p → Steps p goal (stepped_by p goal (holds_if b))
  tested true h = subst (λ st. Steps p goal (children p (child p.rest st (with_equations []) ∷ []))) (sym none_new) (makes h)
  tested false h = makes h

  copied_way : (a b : Tree) → copied_child p b (plain_copy a) ≡ alternative_child p (copy_way p.state.fresh (plain_copy a) b)
  copied_way a b = λ i. child p.rest
      (record p.state { fresh = p.state.fresh + length (variables a); numeric = λ v. or-false (p.state.numeric v) i })
      (with_equations ((b ≐ renamed_from p.state.fresh a) ∷ []))

  copied : (a b : Tree) → read p.state a ≡ a → reply_of p goal ≡ WithCopy a (copied_child p b)
      → Steps p goal (stepped_by p goal (Offers (copy_way p.state.fresh (plain_copy a) b ∷ [])))
  copied a b e h =
      subst (λ x. Steps p goal (children p (x ∷ []))) (copied_way a b)
      (copies {t = a} {f = copied_child p b} {c = plain_copy a} h (ap plain_copy (sym e)))

  -- ---- a step

  abbrev StepsBy : Predicate → Type 0
  StepsBy q = Steps p goal (stepped_by p goal (solutions_of q p.state.fresh (arguments goal)))

  of_same : (q r : Predicate) → Some q ≡ Some r → StepsBy q → StepsBy r
  of_same q r e h = (let same : q ≡ r = cc in subst StepsBy same h)

  steps : (b : Builtin) (q : Predicate) → predicate_of b ≡ Some q → reply_of p goal ≡ builtin_reply p b (arguments goal)
      → AllRead p.state (arguments goal) → StepsBy q
  steps (builtin.Test k) q e h all = of_same _ q e (tested (passes k (nth (arguments goal) 0)) h)
  steps builtin.CopyTerm q e h all =
      of_same _ q e (copied (nth (arguments goal) 0) (nth (arguments goal) 1) (first_read p.state (arguments goal) all) h)
  steps (builtin.Order c) q e h all = of_same _ q e (offered _ h)
  steps (builtin.AtomList k) q e h all = of_same _ q e (offered _ h)
  steps builtin.Functor q e h all = of_same _ q e (offered _ h)
  steps builtin.Arg q e h all = of_same _ q e (offered _ h)
  steps builtin.Univ q e h all = of_same _ q e (offered _ h)
  steps builtin.AtomLength q e h all = of_same _ q e (offered _ h)
  steps builtin.CharCode q e h all = of_same _ q e (offered _ h)
  steps builtin.NumberCodes q e h all = of_same _ q e (offered _ h)
  steps builtin.AtomConcat q e h all = of_same _ q e (offered _ h)
  steps builtin.SubAtom q e h all = of_same _ q e (offered _ h)
  steps b q e h all = cc

  -- ---- no call of clauses

  offers_no_call : (s : Solutions) (cs : List Clause) → offers p s ≡ Calls cs → ⊥
  offers_no_call (Faults e) cs h = cc
  offers_no_call (Offers ways) cs h = cc

  tests_no_call : (b : Bool) (cs : List Clause) → succeeds_if b p ≡ Calls cs → ⊥
  tests_no_call true cs h = cc
  tests_no_call false cs h = cc

  no_call : (b : Builtin) (q : Predicate) (ts : List Tree) → predicate_of b ≡ Some q → (cs : List Clause)
      → builtin_reply p b ts ≡ Calls cs → ⊥
  no_call (builtin.Test k) q ts e cs h = tests_no_call (passes k (nth ts 0)) cs h
  no_call builtin.CopyTerm q ts e cs h = cc
  no_call (builtin.Order c) q ts e cs h = offers_no_call _ cs h
  no_call (builtin.AtomList k) q ts e cs h = offers_no_call _ cs h
  no_call builtin.Functor q ts e cs h = offers_no_call _ cs h
  no_call builtin.Arg q ts e cs h = offers_no_call _ cs h
  no_call builtin.Univ q ts e cs h = offers_no_call _ cs h
  no_call builtin.AtomLength q ts e cs h = offers_no_call _ cs h
  no_call builtin.CharCode q ts e cs h = offers_no_call _ cs h
  no_call builtin.NumberCodes q ts e cs h = offers_no_call _ cs h
  no_call builtin.AtomConcat q ts e cs h = offers_no_call _ cs h
  no_call builtin.SubAtom q ts e cs h = offers_no_call _ cs h
  no_call b q ts e cs h = cc

  -- a goal of a predicate's indicator is an atom or a compound
  replies : (t : Tree) (q : Predicate) → predicate_named (indicator_of t) ≡ Some q → reply_of p t ≡ reply_by p t (builtin_of (indicator_of t))
  replies (Var v) q e = cc
  replies (Number n) q e = cc
  replies (Name a) q e = refl
  replies (Compound f ts) q e = refl

  by_found : (o : Option Builtin) (q : Predicate) → option_and_then predicate_of o ≡ Some q → reply_of p goal ≡ reply_by p goal o
      → AllRead p.state (arguments goal) → StepsBy q × ((cs : List Clause) → reply_of p goal ≡ Calls cs → ⊥)
  by_found None q e h all = cc
  by_found (Some b) q e h all = (steps b q e h all, λ cs k. no_call b q (arguments goal) e cs (sym h ∙ k))

  pub called : (q : Predicate) → predicate_named (indicator_of goal) ≡ Some q → read p.state goal ≡ goal
      → (o : Stepped) → (Steps p goal o → o ≡ stepped_by p goal (solutions_of q p.state.fresh (arguments goal)))
      × (o ≡ stepped_by p goal (solutions_of q p.state.fresh (arguments goal)) → Steps p goal o)
  called q e r o =
      let found = by_found (builtin_of (indicator_of goal)) q e (replies goal q e) (arguments_read p.state goal r) in
      ((λ h. step_once p goal found.1 o _ h found.0), (λ k. subst (Steps p goal) (sym k) found.0))
