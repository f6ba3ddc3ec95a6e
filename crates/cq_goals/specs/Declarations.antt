-- What a declaration of predicates names, and its errors in turn.
use Rattle.std.specs.Prelude.{◌≡◌, ℕ, ◌<◌, List, [], ◌∷◌, Bool, true, not, ◌&&◌, if◌then◌else◌, nat_le, Option, Some, None, length, map, All}
use Rattle.std.specs.List.{list_any}
use Rattle.spec_numbers.specs.Texts.{Text}
use Rattle.spec_syntax.specs.Trees.{Tree}
use Rattle.spec_builtins.specs.Built.{Indicator}
use Rattle.spec_builtins.specs.Kinds.{is_integer, is_below_zero, natural_of}
use Rattle.spec_builtins.specs.Errors.{instantiation, type_error, or_error}
use Rattle.spec_builtins.specs.Clauses.{error_if, error_at_first, declared_terms, declared, is_joining, is_indicator, is_unbound_indicator, slashed, not_changeable}
use Rattle.cq_term.specs.Texts.{text_of}
use Rattle.cq_term.specs.Meaning.{HeapTerm}
use Rattle.cq_term.specs.Trees.{tree}
use Rattle.cq_term.specs.declared.names.Pred.{Pred}
use Rattle.cq_built.specs.Errors.{indicator_of}
use Rattle.cq_built.specs.Sides.{HasSides}
use Rattle.cq_built.specs.declared.sides.Sides.{Sides}

-- ---- errors in turn

-- the error of the first term that is no indicator
abbrev pub indicators_error : List Tree → Option Tree
indicators_error ts = error_at_first (λ t. not (is_indicator t)) (λ t. type_error "predicate_indicator" t) ts

-- the error of a declaration, before it is asked which predicates are built in
abbrev pub own_error : Tree → Option Tree
own_error t = or_error (error_if (list_any is_unbound_indicator (declared_terms t)) instantiation) (indicators_error (declared_terms t))

-- the error of the first of the predicates that is built in
abbrev pub built_in_error : (Indicator → Bool) → List Indicator → Option Tree
built_in_error built_in [] = None
built_in_error built_in (i ∷ rest) = if built_in i then Some (not_changeable i) else built_in_error built_in rest

-- ---- on a heap

-- the term is a conjunction or a list's cell of these sides
pub record AreJoined (texts : List Text) (ts : List HeapTerm) (id : ℕ) (s : Sides) : Type 0 where
  pub sides : HasSides ts id s
  pub joining : is_joining (text_of texts s.name) ≡ true

-- the term is NAME/ARITY of these sides
pub record AreSlashed (texts : List Text) (ts : List HeapTerm) (id : ℕ) (s : Sides) : Type 0 where
  pub sides : HasSides ts id s
  pub slashed : slashed (tree texts ts id) ≡ Some (tree texts ts s.left, tree texts ts s.right)

-- a whole number from 0 to the greatest arity
abbrev pub is_arity : Tree → Bool
is_arity t = is_integer t && not (is_below_zero t) && nat_le (natural_of t) 1000000

-- it is this one
pub record IsArity (t : Tree) (n : ℕ) : Type 0 where
  pub lawful : is_arity t ≡ true
  pub number : natural_of t ≡ n

-- the term names this predicate
pub record IsDeclared (texts : List Text) (t : Tree) (p : Pred) : Type 0 where
  pub lawful : is_indicator t ≡ true
  pub declared : declared t ≡ indicator_of texts p
  pub known : p.name < length texts

-- the terms name these predicates, in order
pub record AreDeclared (texts : List Text) (ts : List Tree) (ps : List Pred) : Type 0 where
  pub lawful : indicators_error ts ≡ None
  pub declared : map (indicator_of texts) ps ≡ map declared ts
  pub known : All (λ p. p.name < length texts) ps
