-- Pairs of terms that are to stay different, and conditions for which goals wait, as they stand to the terms that they read as. Linear constraints don't
-- count: two variables that are only entailed equal are two variables.
use Rattle.std.specs.Prelude.{◌⊎◌, List, [], ◌∷◌, Bool, true, false, if◌then◌else◌, ◌&&◌, ◌||◌, not, bytes_eq, codes, Option, Some, None}
use Rattle.std.specs.declared.cmp.Ordering.{Ordering}
use Rattle.std.specs.declared.cmp.Ordering.TheVariants.{Less, Equal, Greater}
use Rattle.spec_numbers.specs.Texts.{Text}
use Rattle.spec_terms.specs.Term.{Subst, Var, Number, Name, Compound, one, more, apply}
use Rattle.spec_terms.specs.Unifier.{Equation, IsUnifier, HasNoUnifier}
use Rattle.spec_terms.specs.Variables.{variables}
use Rattle.spec_terms.specs.Order.{compare_terms}
use Rattle.spec_syntax.specs.Trees.{Tree}
use Rattle.spec_builtins.specs.Built.{compound2}
use Rattle.spec_builtins.specs.Errors.{instantiation, domain_error}
use Rattle.std.proofs.Common.{inl, inr}
use Rattle.spec_terms.proofs.UnifiedLemmas.{texts_unified}

-- ---- pairs that are to stay different

-- no substitution makes the terms equal, they are identical, or some substitution makes them equal and they are not
pub data DifState : Type 0 where
  Gone : DifState
  Broken : DifState
  Waiting : DifState

-- the two terms as one equation
abbrev pub pair : Tree → Tree → List (Equation Text)
pair a b = record { left = a; right = b } ∷ []

-- the terms are identical: neither comes first in the order of terms
abbrev pub is_same : Tree → Tree → Bool
is_same a b = elim (compare_terms a b) [ Less ↦ false | Equal ↦ true | Greater ↦ false ]

-- where they have a unifier
abbrev pub broken_or_waiting : Tree → Tree → DifState
broken_or_waiting a b = if is_same a b then Broken else Waiting

-- The type of `texts_unified` says that it decides: it gives a unifier, or that there is none.
abbrev pub state_by : (a b : Tree) → ((u : Subst Text) × IsUnifier (pair a b) u) ⊎ HasNoUnifier (pair a b) → DifState
state_by a b (inl h) = broken_or_waiting a b
state_by a b (inr n) = Gone

-- of two terms as they read
abbrev pub dif_state : Tree → Tree → DifState
dif_state a b = state_by a b (texts_unified (pair a b))

-- whether the pair still stays different may yet change
abbrev pub is_waiting : DifState → Bool
is_waiting Gone = false
is_waiting Broken = false
is_waiting Waiting = true

-- ---- conditions

-- the term is a variable
abbrev pub is_variable : Tree → Bool
is_variable (Var v) = true
is_variable t = false

-- no variable stands in the term
abbrev pub is_ground : Tree → Bool
is_ground t = elim (variables t) [ [] ↦ true | v ∷ vs ↦ false ]

-- the first of two errors
abbrev pub first_of : Option Tree → Option Tree → Option Tree
first_of (Some e) d = Some e
first_of None d = d

-- whether a condition holds, and what is wrong with a term that is none
abbrev mutual
  -- Of a condition as it reads: `nonvar(X)` is true where X is no variable, `ground(T)` where T has none, `?=(X,Y)` where the terms
  -- can no longer come to be one or the other; `,` where both sides are, `;` where either is.
  pub is_true : Tree → Bool
  is_true (Compound f (more a (one b))) =
      if bytes_eq f (codes ",") then is_true a && is_true b
      else if bytes_eq f (codes ";") then is_true a || is_true b
      else if bytes_eq f (codes "?=") then not (is_waiting (dif_state a b)) else false
  is_true (Compound f (one a)) =
      if bytes_eq f (codes "nonvar") then not (is_variable a) else if bytes_eq f (codes "ground") then is_ground a else false
  is_true t = false

  -- The first error of a term that is to be a condition, from left to right, a part before its own parts: it is a variable, or
  -- none of these. The arguments of `nonvar`, `ground` and `?=` are no parts.
  pub condition_error : Tree → Option Tree
  condition_error (Var v) = Some instantiation
  condition_error (Compound f (more a (one b))) =
      if bytes_eq f (codes ",") || bytes_eq f (codes ";") then first_of (condition_error a) (condition_error b)
      else if bytes_eq f (codes "?=") then None else Some (domain_error "when_condition" (Compound f (more a (one b))))
  condition_error (Compound f (one a)) =
      if bytes_eq f (codes "nonvar") || bytes_eq f (codes "ground") then None else Some (domain_error "when_condition" (Compound f (one a)))
  condition_error t = Some (domain_error "when_condition" t)
