-- The errors of built-in predicates as the definitions' terms.
use Rattle.std.specs.Prelude.{◌≡◌, ◌<◌, List, codes, length, ⊤}
use Rattle.spec_numbers.specs.Texts.{Text}
use Rattle.spec_terms.specs.Term as term
use Rattle.spec_syntax.specs.Trees.{Tree, binary}
use Rattle.spec_builtins.specs.Built.{Indicator, indicator, indicator_term, atom, compound1, compound2, compound3}
use Rattle.spec_builtins.specs.Errors.{instantiation, existence_error, error_ball}
use Rattle.spec_builtins.specs.Alternatives.{Solutions, Faults}
use Rattle.cq_term.specs.Texts.{text_of}
use Rattle.cq_term.specs.Meaning.{HeapTerm}
use Rattle.cq_term.specs.declared.names.Pred.{Pred}
use Rattle.cq_term.specs.Trees.{tree}
use Rattle.cq_built.specs.declared.errors.ValidType.{ValidType}
use Rattle.cq_built.specs.declared.errors.ValidType.TheVariants as type
use Rattle.cq_built.specs.declared.errors.ValidDomain.{ValidDomain}
use Rattle.cq_built.specs.declared.errors.ValidDomain.TheVariants as domain
use Rattle.cq_built.specs.declared.errors.Representation.{Representation}
use Rattle.cq_built.specs.declared.errors.Representation.TheVariants as representation
use Rattle.cq_built.specs.declared.errors.Permission.{Permission}
use Rattle.cq_built.specs.declared.errors.Permission.TheVariants as permission
use Rattle.cq_built.specs.declared.errors.Culprit.{Culprit}
use Rattle.cq_built.specs.declared.errors.Culprit.TheVariants as culprit
use Rattle.cq_built.specs.declared.errors.BuiltinError.{BuiltinError}
use Rattle.cq_built.specs.declared.errors.BuiltinError.TheVariants as error
use Rattle.cq_built.specs.declared.errors.BuiltinFault.{BuiltinFault}
use Rattle.cq_built.specs.declared.errors.BuiltinFault.TheVariants as fault

abbrev pub type_name : ValidType → Text
type_name type.Atom = codes "atom"
type_name type.Atomic = codes "atomic"
type_name type.Callable = codes "callable"
type_name type.Character = codes "character"
type_name type.Compound = codes "compound"
type_name type.Constraint = codes "constraint"
type_name type.Evaluable = codes "evaluable"
type_name type.Integer = codes "integer"
type_name type.Linear = codes "linear"
type_name type.List = codes "list"
type_name type.Number = codes "number"
type_name type.PredicateIndicator = codes "predicate_indicator"

abbrev pub domain_name : ValidDomain → Text
domain_name domain.Library = codes "library"
domain_name domain.NonEmptyList = codes "non_empty_list"
domain_name domain.NotLessThanZero = codes "not_less_than_zero"
domain_name domain.OperatorPriority = codes "operator_priority"
domain_name domain.OperatorSpecifier = codes "operator_specifier"

abbrev pub representation_name : Representation → Text
representation_name representation.CharacterCode = codes "character_code"
representation_name representation.MaxArity = codes "max_arity"

-- what is not allowed, and of what
abbrev pub action_name : Permission → Text
action_name permission.ModifyStaticProcedure = codes "modify"
action_name permission.AccessPrivateProcedure = codes "access"
action_name permission.ModifyOperator = codes "modify"
action_name permission.CreateOperator = codes "create"

abbrev pub object_name : Permission → Text
object_name permission.ModifyStaticProcedure = codes "static_procedure"
object_name permission.AccessPrivateProcedure = codes "private_procedure"
object_name permission.ModifyOperator = codes "operator"
object_name permission.CreateOperator = codes "operator"

-- ---- culprits

abbrev pub indicator_of : List Text → Pred → Indicator
indicator_of texts p = indicator (text_of texts p.name) p.arity

abbrev pub culprit_tree : List Text → List HeapTerm → Culprit → Tree
culprit_tree texts ts (culprit.Term id) = tree texts ts id
culprit_tree texts ts (culprit.Number q) = term.Number q
culprit_tree texts ts (culprit.Predicate p) = indicator_term (indicator_of texts p)

-- a name over what was wanted and the culprit
abbrev pub blaming_tree : List Text → List HeapTerm → Text → Text → Culprit → Tree
blaming_tree texts ts name wanted c = binary name (term.Name wanted) (culprit_tree texts ts c)

-- it is there, and its name, if it has one of its own, has a text
abbrev pub IsThere : List Text → List HeapTerm → Culprit → Type 0
IsThere texts ts (culprit.Term id) = id < length ts
IsThere texts ts (culprit.Number q) = ⊤
IsThere texts ts (culprit.Predicate p) = p.name < length texts

-- ---- errors

-- the error as a term
abbrev pub error_tree : List Text → List HeapTerm → BuiltinError → Tree
error_tree texts ts error.Instantiation = instantiation
error_tree texts ts (error.Type k c) = compound2 "type_error" (term.Name (type_name k)) (culprit_tree texts ts c)
error_tree texts ts (error.Domain k c) = compound2 "domain_error" (term.Name (domain_name k)) (culprit_tree texts ts c)
error_tree texts ts (error.Representation k) = compound1 "representation_error" (term.Name (representation_name k))
error_tree texts ts (error.Permission k c) = compound3 "permission_error" (term.Name (action_name k)) (term.Name (object_name k)) (culprit_tree texts ts c)
error_tree texts ts (error.UnknownProcedure p) = existence_error (indicator_of texts p)
error_tree texts ts error.ZeroDivisor = compound1 "evaluation_error" (atom "zero_divisor")
error_tree texts ts error.IllegalNumber = compound1 "syntax_error" (atom "illegal_number")

-- the error at a goal, as it is raised
abbrev pub ball_tree : List Text → List HeapTerm → BuiltinError → Pred → Tree
ball_tree texts ts e goal = error_ball (error_tree texts ts e) (indicator_of texts goal)

-- its culprit is there
abbrev pub HasCulprit : List Text → List HeapTerm → BuiltinError → Type 0
HasCulprit texts ts (error.Type k c) = IsThere texts ts c
HasCulprit texts ts (error.Domain k c) = IsThere texts ts c
HasCulprit texts ts (error.Permission k c) = IsThere texts ts c
HasCulprit texts ts (error.UnknownProcedure p) = p.name < length texts
HasCulprit texts ts e = ⊤

-- ---- faults

-- the predicate gives this error; want of memory says nothing of it
abbrev pub Explains : List Text → List HeapTerm → Solutions → BuiltinFault → Type 0
Explains texts ts s (fault.Error e) = s ≡ Faults (error_tree texts ts e)
Explains texts ts s fault.NoMemory = ⊤

-- the error that stands in a fault has its culprit
abbrev pub CanBeRaised : List Text → List HeapTerm → BuiltinFault → Type 0
CanBeRaised texts ts (fault.Error e) = HasCulprit texts ts e
CanBeRaised texts ts fault.NoMemory = ⊤
