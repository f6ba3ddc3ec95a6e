-- Where nothing is left to do, the moves have ended in a closure, and the branch is kept.
use Rattle.std.proofs.Common.{◌≡◌, ℕ, List, [], ◌∷◌, ◌++◌, true, Option, refl, sym, ap, ◌∙◌, subst, inl, inr, arith}
use Rattle.std.specs.Prelude.{Contains}
use Rattle.std.specs.List.{AllByRecursion, AllZip}
use Rattle.spec_numbers.specs.Rational.{ℚ}
use Rattle.spec_linear.specs.Solution.{Has, Solvable, Fixes}
use Rattle.spec_numbers.specs.Texts.{Text}
use Rattle.spec_terms.specs.Term.{Subst, Var, Occurs, apply}
use Rattle.spec_terms.proofs.Substitution.{apply_agree}
use Rattle.spec_syntax.specs.Trees.{Tree}
use Rattle.spec_branch.specs.Relations.{Waits, lin}
use Rattle.spec_branch.specs.Branch.{State, Item, Pending}
use Rattle.spec_branch.specs.Closure.{Moves}
use Rattle.spec_branch.specs.Settling.{Settling, SettlesUnified, Kept, kept, kept_branch, bindings_after, fixed_values}
use Rattle.cq_attr.specs.Attributes.{Waiting}
use Rattle.cq_term.specs.Meaning.{HeapTerm}
use Rattle.cq_settle.specs.Contents.{Contents}
use Rattle.cq_settle.specs.Standing.{constraints}
use Rattle.cq_settle.specs.Underway.{IsUnderway, WaitsOrToDo, IsToDo, unified, numeric_then, valued, bindings_now}
use Rattle.cq_settle.proofs.Ends.{AllWait, waiting_closed}
use Rattle.cq_settle.proofs.Here.{agree, inside}
use Rattle.cq_settle.proofs.Values.{lin_agree, one_image}

pub nothing_behind : {A : Type 0} (xs : List A) → xs ++ [] ≡ xs
nothing_behind [] = refl
nothing_behind (x ∷ xs) = ap (λ ys. x ∷ ys) (nothing_behind xs)

no_member : {X : Type 0} (v : ℕ) → Contains [] v → X
no_member v h = absurd (omega (arith, h.1))

nothing_to_do : (k : Waiting) → IsToDo [] [] k → ⊥
nothing_to_do k (inl h) = no_member k.number h
nothing_to_do k (inr h) = no_member h.0 h.2

pub by_member : (P : Tree → Type 0) (ts : List Tree) → AllByRecursion P ts → (t : Tree) → Has t ts → P t
by_member P [] h t m = absurd m
by_member P (x ∷ ts) h t (inl e) = subst P (sym e) h.0
by_member P (x ∷ ts) h t (inr m) = by_member P ts h.1 t m

module _ (s : Subst Text) (values : ℕ → Option ℚ) where
  waits_here : (k : Waiting) (t : Tree) → WaitsOrToDo s values [] [] k t → lin values (apply s t) ≡ Waits
  waits_here k t (inl e) = e
  waits_here k t (inr d) = absurd (nothing_to_do k d)

  waits_each : (ks : List Waiting) (ts : List Tree) → AllZip (WaitsOrToDo s values [] []) ks ts → (t : Tree) → Has t ts → lin values (apply s t) ≡ Waits
  waits_each [] [] z t h = absurd h
  waits_each [] (x ∷ ts) z t h = absurd z
  waits_each (k ∷ ks) [] z t h = absurd z
  waits_each (k ∷ ks) (x ∷ ts) z t (inl e) = let P : Tree → Type 0 = λ y. lin values (apply s y) ≡ Waits in subst P (sym e) (waits_here k x z.0)
  waits_each (k ∷ ks) (x ∷ ts) z t (inr h) = waits_each ks ts z.1 t h

module _ (texts : List Text) (older : List HeapTerm) (c : Contents) (st : State) (p : Pending) (u : Subst Text) (values : ℕ → Option ℚ) (waiting : List Tree) (all : List ℕ)
    (k : IsUnderway texts older c st p u values waiting [] [] [] [] all) (solvable : Solvable c.told) (fixed : ℕ → Option ℚ) (fixes : Fixes c.told fixed) where
  agree_here : (v : ℕ) → numeric_then st p u v ≡ true → unified st u v ≡ Var v → values v ≡ fixed v
  agree_here = agree texts older c st p u values waiting [] [] [] [] all k.here fixed fixes

  pub numeric_inside : (t : Tree) → Has t waiting → (v : ℕ) → Occurs v (apply (unified st u) t) → numeric_then st p u v ≡ true
  numeric_inside t h =
      by_member _ (waiting ++ []) k.here.numeric_terms t (subst (λ (ws : List Tree). Has t ws) (sym (nothing_behind waiting)) h)

  pub all_wait : AllWait (unified st u) fixed waiting
  all_wait t h =
      sym (lin_agree values fixed (apply (unified st u) t) (λ v o. agree_here v (numeric_inside t h v o) (inside st p u k.here.task t v o)))
      ∙ waits_each (unified st u) values (constraints c.attrs) waiting k.here.looked_at t h

  pub settling : Settling st p u
  settling = record {
    equations = k.reached.equations;
    each_newly_bound = k.reached.each_newly_bound;
    linear = c.told;
    waiting = waiting;
    closure = record {
      moves = subst (λ (ws : List Tree). Moves (unified st u) (st.linear ++ k.reached.equations ++ p.rows) (st.delayed ++ p.told) c.told ws) (nothing_behind waiting) k.reached.moves;
      closed = waiting_closed (unified st u) c.told waiting fixed fixes all_wait;
    };
  }

  pub settles : (items : List Item) → SettlesUnified items st p u (Kept (kept_branch items st p u c.told waiting fixed))
  unfolding settling
  settles items = kept k.here.task.no_clash settling solvable fixed fixes

  -- the bindings are those of the branch that is kept
  pub same_image : (w : ℕ) → unified st u w ≡ Var w → valued values w ≡ fixed_values (numeric_then st p u) fixed w
  same_image w e = one_image (numeric_then st p u w) (values w) (fixed w) w (λ n. agree_here w n e) (λ q h. k.here.are_bound.numeric w q h)

  pub same_bindings : (v : ℕ) → bindings_now st u values v ≡ bindings_after st p u fixed v
  same_bindings v =
      apply_agree (valued values) (fixed_values (numeric_then st p u) fixed) (unified st u v) (λ w o. same_image w (k.here.task.read_through.through v w o))
