-- Each selected goal has a step where its constraints have a solution, or its arithmetic refuses two numbers.
use Rattle.std.proofs.Common.{◌≡◌, ◌⊎◌, inl, inr, ℕ, List, [], ◌∷◌, Option, Some, None, Bool, true, false, cond, refl, ap, ◌∙◌}
use Rattle.std.specs.Prelude.{find}
use Rattle.spec_numbers.specs.Rational.{ℚ}
use Rattle.cq_frac.specs.declared.Pair.{Pair}
use Rattle.spec_linear.specs.Form.{Linear, negated_form}
use Rattle.spec_linear.specs.Solution.{Constraint, Solvable, Fixes, Has}
use Rattle.spec_linear.specs.Extremes.{IsInfimum, IsUnbounded}
use Rattle.spec_syntax.specs.Trees.{Tree}
use Rattle.spec_branch.specs.Relations.{Lin, Is, Waits, False, lin, lin_expression}
use Rattle.spec_branch.specs.Branch.{Branch}
use Rattle.spec_search.specs.Database.{Clause}
use Rattle.spec_search.specs.Builtins.{Side, Least, Greatest}
use Rattle.spec_search.specs.Replies as reply
use Rattle.spec_search.specs.Replies.{Place, Reply, Raises, Throws, WithCopy, Makes, Calls, IfEntailed, WithExtent}
use Rattle.spec_search.specs.Rows.{reply_of}
use Rattle.spec_search.specs.Steps.{IsSelection, end, takes, waits, is_not_linear, IsEntailed, IsBroken, AllEntailed, Stepped, Steps, raises, throws, copies, makes, calls, not_linear, entailed, not_entailed, expression_waits, expression_false, extent, no_extent}
use Rattle.spec_projection.proofs.Fixing.{follows_or_breaks, values_fixed, values_fixed_are}
use Rattle.spec_projection.proofs.Extent as decided
use Rattle.spec_projection.proofs.Extent.{HasExtent, extent_below}

module _ (p : Place) (goal : Tree) (solvable : Solvable p.state.linear) where
  abbrev HasStep : Type 0
  HasStep = (o : Stepped) × Steps p goal o

  abbrev l : List Constraint
  l = p.state.linear

  abbrev values : ℕ → Option ℚ
  values = values_fixed p.state.linear

  values_are : Fixes p.state.linear values
  values_are = values_fixed_are p.state.linear

  -- all clauses of a call
  all_of : (cs : List Clause) → IsSelection p goal cs cs
  all_of [] = end
  all_of (c ∷ cs) = takes (all_of cs)

  -- ---- questions

  abbrev SomeBroken : List Tree → Type 0
  SomeBroken ms = (m : Tree) × Has m ms × IsBroken l (lin values m)

  one_member : (r : Lin Constraint) → waits r ≡ false → IsEntailed l r ⊎ IsBroken l r
  one_member (Is c) e = follows_or_breaks l c
  one_member Waits e = cc
  one_member False e = inr tt

  -- none of the members waits
  all_or_some : (ms : List Tree) → find (is_not_linear values) ms ≡ None → AllEntailed l values ms ⊎ SomeBroken ms
  all_or_some [] e = inl tt
  all_or_some (m ∷ ms) e = go (is_not_linear values m) refl e (all_or_some ms)
    where
      by : IsEntailed l (lin values m) ⊎ IsBroken l (lin values m) → AllEntailed l values ms ⊎ SomeBroken ms → AllEntailed l values (m ∷ ms) ⊎ SomeBroken (m ∷ ms)
      by (inl h) (inl k) = inl (h, k)
      by (inl h) (inr k) = inr (k.0, inr k.1, k.2)
      by (inr h) k = inr (m, inl refl, h)

      go : (b : Bool) → is_not_linear values m ≡ b → cond b (Some m) (find (is_not_linear values) ms) ≡ None
          → (find (is_not_linear values) ms ≡ None → AllEntailed l values ms ⊎ SomeBroken ms) → AllEntailed l values (m ∷ ms) ⊎ SomeBroken (m ∷ ms)
      go true d f rest = cc
      go false d f rest = by (one_member (lin values m) d) (rest f)

  asks : (ms : List Tree) (b : Branch) → reply_of p goal ≡ IfEntailed ms b → HasStep
  asks ms b e = go (find (is_not_linear values) ms) refl
    where
      by : find (is_not_linear values) ms ≡ None → AllEntailed l values ms ⊎ SomeBroken ms → HasStep
      by f (inl h) = (_, entailed values e values_are f h)
      by f (inr h) = (_, not_entailed h.0 values e values_are f h.1 h.2)

      go : (r : Option Tree) → find (is_not_linear values) ms ≡ r → HasStep
      go (Some m) f = (_, not_linear values e values_are f)
      go None f = by f (all_or_some ms f)

  -- ---- extents

  reaches : (side : Side) (t : Tree) (f : ℚ → Branch) → reply_of p goal ≡ WithExtent side t f → HasStep
  reaches side t f e = go (lin_expression values t) refl
    where
      greatest : (form : Linear) → side ≡ Greatest → lin_expression values t ≡ Is form → HasExtent l form → HasStep
      greatest form d g (inl h) = (_, extent values (e ∙ ap (λ x. WithExtent x t f) d) values_are g h.1)
      greatest form d g (inr h) = (_, no_extent values (e ∙ ap (λ x. WithExtent x t f) d) values_are g h)

      least : (form : Linear) → side ≡ Least → lin_expression values t ≡ Is form → ((q : ℚ) × IsInfimum l form q) ⊎ IsUnbounded l (negated_form form) → HasStep
      least form d g (inl h) = (_, extent values (e ∙ ap (λ x. WithExtent x t f) d) values_are g h.1)
      least form d g (inr h) = (_, no_extent values (e ∙ ap (λ x. WithExtent x t f) d) values_are g h)

      by : (x : Side) → side ≡ x → (form : Linear) → lin_expression values t ≡ Is form → HasStep
      by Greatest d form g = greatest form d g (decided.extent l form solvable)
      by Least d form g = least form d g (extent_below l form solvable)

      go : (r : Lin Linear) → lin_expression values t ≡ r → HasStep
      go (Is form) g = by side refl form g
      go Waits g = (_, expression_waits values e values_are g)
      go False g = (_, expression_false values e values_are g)

  -- ---- all replies

  pub step_or_refused : HasStep ⊎ ((pair : Pair) × (reply_of p goal ≡ reply.Overflows pair))
  step_or_refused = go (reply_of p goal) refl
    where
      go : (r : Reply) → reply_of p goal ≡ r → HasStep ⊎ ((pair : Pair) × (reply_of p goal ≡ reply.Overflows pair))
      go (Raises t) e = inl (_, raises e)
      go (Throws t) e = inl (_, throws e refl)
      go (WithCopy t f) e = inl (_, copies e refl)
      go (reply.Overflows pair) e = inr (pair, e)
      go (Makes m) e = inl (_, makes e)
      go (Calls cs) e = inl (_, calls e (all_of cs))
      go (IfEntailed ms b) e = inl (asks ms b e)
      go (WithExtent side t f) e = inl (reaches side t f e)
