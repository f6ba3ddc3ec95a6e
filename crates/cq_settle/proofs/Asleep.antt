-- A goal that is put to sleep on an unbound variable leaves nothing to settle.
use Rattle.std.proofs.Common.{◌≡◌, ℕ, suc, List, [], ◌∷◌, ◌++◌, true, refl, sym, ap, ◌∙◌, subst, append-nil}
use Rattle.std.specs.List.{AllZip, AllByRecursion}
use Rattle.std.proofs.lemmas.List.Elements.{filter-append}
use Rattle.spec_numbers.specs.Texts.{Text}
use Rattle.spec_terms.specs.Term.{Var, named}
use Rattle.spec_syntax.specs.Trees.{Tree}
use Rattle.spec_branch.specs.Branch.{State, Frozen, Sleeper}
use Rattle.spec_branch.specs.Settling.{frozen_state, still_sleeps, state_of}
use Rattle.cq_term.specs.Texts.{text_of}
use Rattle.cq_attr.specs.Attributes.{Waiting, Attributes, suspended}
use Rattle.cq_attr.specs.declared.susp.Susp.TheVariants as susp
use Rattle.cq_attr.proofs.Elements.{contains_here}
use Rattle.cq_frac.specs.declared.VarId.{VarId}
use Rattle.cq_term.specs.Shown.{IsUnbound}
use Rattle.cq_term.specs.Trees.{tree}
use Rattle.cq_settle.specs.Contents.{Contents}
use Rattle.cq_settle.specs.Standing.{Stands, IsConstraint, IsSleeper, is_constraint, is_goal, constraints, goals}
use Rattle.cq_settle.specs.Rest.{IsReadThrough, IsAtRest, IsReadyAs, IsReady}
use Rattle.cq_settle.specs.Ready.{MayBeTold, with_attributes}
use Rattle.cq_settle.proofs.Told.{itself}

zip_push : (R : Waiting → Sleeper → Type 0) (xs : List Waiting) (ys : List Sleeper) (x : Waiting) (y : Sleeper) → AllZip R xs ys → R x y → AllZip R (xs ++ x ∷ []) (ys ++ y ∷ [])
zip_push R [] [] x y z r = (r, tt)
zip_push R [] (b ∷ ys) x y z r = absurd z
zip_push R (a ∷ xs) [] x y z r = absurd z
zip_push R (a ∷ xs) (b ∷ ys) x y z r = (z.0, zip_push R xs ys x y z.1 r)

recursion_push : (P : Sleeper → Type 0) (ys : List Sleeper) (y : Sleeper) → AllByRecursion P ys → P y → AllByRecursion P (ys ++ y ∷ [])
recursion_push P [] y a p = (p, tt)
recursion_push P (x ∷ ys) y a p = (a.0, recursion_push P ys y a.1 p)

module _ (texts : List Text) (c : Contents) (v : VarId) (goal : ℕ) (st : State) (r : IsReadyAs texts c st) (i : IsUnbound c.heap.images v.0) (m : MayBeTold c.heap goal) where
  abbrev sleeper : Sleeper
  sleeper = record { number = st.next_sleeper; asleep = Frozen (Var v.0) (tree texts c.heap.terms goal) }

  abbrev waiting : Waiting
  waiting = record { number = c.attrs.next; watched = v.0 ∷ []; susp = susp.Goal v goal }

  abbrev after : State
  after = record st { sleepers = st.sleepers ++ sleeper ∷ []; next_sleeper = suc st.next_sleeper }

  abbrev attributes : Attributes
  attributes = suspended c.attrs (v.0 ∷ []) (susp.Goal v goal)

  unbound : st.bindings v.0 ≡ Var v.0
  unbound = r.stands.bindings.inside v.0 i.0 ∙ ap (named (text_of texts)) i.1

  is_sleeper : IsSleeper texts c.heap st.bindings st.bindings waiting sleeper
  is_sleeper = record {
    variable = v;
    id = goal;
    susp = refl;
    variable_live = i.0;
    live = m.live;
    reads = (sym (r.stands.bindings.inside v.0 i.0), itself texts c.heap st.bindings r.stands.bindings goal m);
    watched = λ x e. let same : v.0 ≡ x = (let both : Var v.0 ≡ Var x = sym unbound ∙ e in cc) in contains_here v.0 [] x same;
  }

  same_constraints : constraints attributes ≡ constraints c.attrs
  same_constraints = filter-append (λ (k : Waiting). is_constraint k.susp) c.attrs.waiting (waiting ∷ []) ∙ append-nil (constraints c.attrs)

  one_goal : goals attributes ≡ goals c.attrs ++ waiting ∷ []
  one_goal = filter-append (λ (k : Waiting). is_goal k.susp) c.attrs.waiting (waiting ∷ [])

  stands : Stands texts (with_attributes c attributes) st.bindings st.bindings after
  stands = record {
    bindings = r.stands.bindings;
    linear = r.stands.linear;
    delayed = subst (λ (ks : List Waiting). AllZip (IsConstraint texts c.heap st.bindings st.bindings) ks st.delayed) (sym same_constraints) r.stands.delayed;
    numeric = r.stands.numeric;
    sleepers = subst (λ (ks : List Waiting). AllZip (IsSleeper texts c.heap st.bindings st.bindings) ks (st.sleepers ++ sleeper ∷ [])) (sym one_goal)
        (zip_push (IsSleeper texts c.heap st.bindings st.bindings) (goals c.attrs) st.sleepers waiting sleeper r.stands.sleepers is_sleeper);
    fresh = r.stands.fresh;
    names = r.stands.names;
  }

  through : IsReadThrough after
  through = record {
    through = r.rests.read_through.through;
    older = r.rests.read_through.older;
    below = r.rests.read_through.below;
    beyond = r.rests.read_through.beyond;
    numeric = r.rests.read_through.numeric;
  }

  sleeps : still_sleeps (state_of st.bindings sleeper.asleep) ≡ true
  sleeps = ap (λ (t : Tree). still_sleeps (frozen_state t (tree texts c.heap.terms goal))) unbound

  rests : IsAtRest after
  rests = record {
    read_through = through;
    solvable = r.rests.solvable;
    fixed = r.rests.fixed;
    no_clash = r.rests.no_clash;
    images = r.rests.images;
    waiting = r.rests.waiting;
    delayed = r.rests.delayed;
    asleep = recursion_push (λ k. still_sleeps (state_of st.bindings k.asleep) ≡ true) st.sleepers sleeper r.rests.asleep sleeps;
  }

  sleeps_ready : IsReady texts (with_attributes c attributes)
  sleeps_ready = (after, record { stands = stands; rests = rests })

pub goal_sleeps : (texts : List Text) (c : Contents) (v : VarId) (goal : ℕ) → IsReady texts c → IsUnbound c.heap.images v.0 → MayBeTold c.heap goal
    → IsReady texts (with_attributes c (suspended c.attrs (v.0 ∷ []) (susp.Goal v goal)))
goal_sleeps texts c v goal r i m = sleeps_ready texts c v goal r.0 r.1 i m
