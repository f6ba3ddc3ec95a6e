-- What a goal op(P,K,N) asks for, and its errors in turn.
use Rattle.std.specs.Prelude.{◌≡◌, ℕ, ◌<◌, List, Bool, true, not, ◌&&◌, ◌||◌, Option, None, is_none, length, All, Result}
use Rattle.std.specs.List.{list_any, list_all}
use Rattle.spec_numbers.specs.Texts.{Text}
use Rattle.spec_syntax.specs.Operators.{Ops, Refusal}
use Rattle.spec_terms.specs.Term.{Name}
use Rattle.spec_syntax.specs.Trees.{Tree}
use Rattle.spec_builtins.specs.Kinds.{is_variable, is_name, is_integer, is_list, is_partial, parts}
use Rattle.spec_builtins.specs.Errors.{instantiation, type_error, domain_error, permission_error, or_error}
use Rattle.spec_builtins.specs.Clauses.{error_if, error_at_first}
use Rattle.spec_builtins.specs.Operators.{whole_of, priority_of, kind_of, operator_names, operator_error, operators_after, named_set, is_comma, is_clash}
use Rattle.cq_term.specs.Texts.{text_of}
use Rattle.cq_term.specs.Meaning.{HeapTerm}
use Rattle.cq_term.specs.Trees.{tree, trees}
use Rattle.cq_built.specs.declared.kinds.lists.Parts as listed
use Rattle.cq_goals.specs.declared.declarations.operators.OperatorGoal.{OperatorGoal}
use Rattle.cq_goals.specs.declared.declarations.operators.Operands.{Operands}
use Rattle.cq_goals.specs.declared.declarations.operators.Asked.{Asked}
use Rattle.cq_goals.specs.declared.declarations.operators.Refused.{Refused}
use Rattle.cq_goals.specs.declared.declarations.operators.Refused.TheVariants as refused

-- ---- the goal

-- its three terms are there
pub record IsLiveGoal (ts : List HeapTerm) (g : OperatorGoal) : Type 0 where
  pub priority : g.priority < length ts
  pub kind : g.kind < length ts
  pub names : g.names < length ts

-- its first error with this table
abbrev pub goal_error : List Text → List HeapTerm → OperatorGoal → Ops → Option Tree
goal_error texts ts g ops = operator_error ops (tree texts ts g.priority) (tree texts ts g.kind) (tree texts ts g.names)

-- this table with its operators set
abbrev pub table_after : List Text → List HeapTerm → OperatorGoal → Ops → Ops
table_after texts ts g ops =
    operators_after ops (tree texts ts g.priority) (tree texts ts g.kind) (operator_names (tree texts ts g.names))

-- ---- its errors in turn

abbrev pub is_unbound : Tree → Tree → Tree → Bool
is_unbound p k n =
    is_variable p || is_variable k || is_variable n || is_partial n || list_any is_variable (operator_names n)

abbrev pub are_names : Tree → Bool
are_names n = is_name n || (is_list n && list_all is_name (operator_names n))

abbrev pub unbound_error : Tree → Tree → Tree → Option Tree
unbound_error p k n = error_if (is_unbound p k n) instantiation

abbrev pub priority_error : Tree → Option Tree
priority_error p =
    or_error (error_if (not (is_integer p)) (type_error "integer" p))
    (error_if (is_none (priority_of p)) (domain_error "operator_priority" p))

abbrev pub kind_error : Tree → Option Tree
kind_error k =
    or_error (error_if (not (is_name k)) (type_error "atom" k)) (error_if (is_none (kind_of k)) (domain_error "operator_specifier" k))

abbrev pub names_error : Tree → Option Tree
names_error n = error_if (not (are_names n)) (type_error "list" n)

-- the error before any name is tried
abbrev pub arguments_error : List Text → List HeapTerm → OperatorGoal → Option Tree
arguments_error texts ts g =
    let t = tree texts ts in
    or_error (unbound_error (t g.priority) (t g.kind) (t g.names))
    (or_error (priority_error (t g.priority)) (or_error (kind_error (t g.kind)) (names_error (t g.names))))

-- the table refuses a name for this cause
abbrev pub is_cause : Refused → Result Ops Refusal → Bool
is_cause refused.Comma r = is_comma r
is_cause refused.Clash r = is_clash r

-- the error of the first of the names that is refused for this cause
abbrev pub first_refused : List Text → List HeapTerm → OperatorGoal → Ops → Refused → (Tree → Tree) → List Tree → Option Tree
first_refused texts ts g ops c e ns =
    error_at_first (λ n. is_cause c (named_set ops (tree texts ts g.priority) (tree texts ts g.kind) n)) e ns

-- the error of the names, of which all are tried before any is set
abbrev pub refusal_error : List Text → List HeapTerm → OperatorGoal → Ops → Option Tree
refusal_error texts ts g ops =
    let ns = operator_names (tree texts ts g.names) in
    or_error (first_refused texts ts g ops refused.Comma (λ n. permission_error "modify" "operator" n) ns)
    (first_refused texts ts g ops refused.Clash (λ n. permission_error "create" "operator" n) ns)

-- ---- what it asks for

-- the terms of the names, and what stands behind them in a list
pub record AreListed (texts : List Text) (ts : List HeapTerm) (names : ℕ) (p : listed.Parts) : Type 0 where
  pub live : All (λ id. id < length ts) p.elements.items
  pub tail_live : p.tail < length ts
  pub elements : trees texts ts p.elements.items ≡ operator_names (tree texts ts names)
  pub tail : tree texts ts p.tail ≡ (parts (tree texts ts names)).tail

-- the goal has no error before any name is tried, and asks for this priority and this kind
pub record AreOperands (texts : List Text) (ts : List HeapTerm) (g : OperatorGoal) (o : Operands) : Type 0 where
  pub lawful : arguments_error texts ts g ≡ None
  pub priority : whole_of (tree texts ts g.priority) ≡ o.priority
  pub kind : tree texts ts g.kind ≡ Name (text_of texts o.kind)
  pub kind_known : o.kind < length texts
  pub names : are_names (tree texts ts g.names) ≡ true

-- it asks for these names
pub record IsAsked (texts : List Text) (ts : List HeapTerm) (a : Asked) : Type 0 where
  pub operands : AreOperands texts ts a.goal a.operands
  pub live : All (λ id. id < length ts) a.names.items
  pub names : trees texts ts a.names.items ≡ operator_names (tree texts ts a.goal.names)
  pub named : All (λ id. is_name (tree texts ts id) ≡ true) a.names.items
