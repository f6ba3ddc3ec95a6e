-- The goals that a goal is made of, and the predicates that they call.
use Rattle.std.specs.Prelude.{◌≡◌, ℕ, ◌+◌, ◌<◌, List, [], ◌∷◌, ◌++◌, Bool, ◌&&◌, ◌||◌, if◌then◌else◌, nat_le, Option, Some, None, bytes_eq, codes, fold, length}
use Rattle.spec_numbers.specs.Texts.{Text}
use Rattle.spec_terms.specs.Term.{Name, Compound, one, more, count, size}
use Rattle.spec_syntax.specs.Trees.{Tree, unary, binary}
use Rattle.spec_builtins.specs.Built.{Indicator, indicator}
use Rattle.spec_builtins.specs.Bodies.{is_control}
use Rattle.cq_term.specs.Meaning.{HeapTerm, at}
use Rattle.cq_term.specs.Trees.{tree}
use Rattle.cq_lint.specs.Predicates.{with_some}
use Rattle.cq_lint.specs.declared.goals.Inner.{Inner}
use Rattle.cq_lint.specs.declared.goals.Inner.TheVariants as inner

-- a name whose only argument is a goal
abbrev pub is_wrapper : Text → Bool
is_wrapper f = bytes_eq f (codes "\\+") || bytes_eq f (codes "call") || bytes_eq f (codes "once") || bytes_eq f (codes "initialization")

-- the goals that a goal is made of, from left to right; control constructs are taken apart
abbrev pub goals_of : Tree → List Tree
goals_of (Compound f (one a)) = if is_wrapper f then goals_of a else unary f a ∷ []
goals_of (Compound f (more a (one b))) =
    if is_control f then goals_of a ++ goals_of b
    else if bytes_eq f (codes "freeze") then goals_of b
    else binary f a b ∷ []
goals_of (Compound f (more a (more b (one c)))) =
    if bytes_eq f (codes "catch") then goals_of a ++ goals_of c
    else if bytes_eq f (codes "findall") then goals_of b
    else Compound f (more a (more b (one c))) ∷ []
goals_of t = t ∷ []

-- the predicate of a goal, to which so many arguments are added
abbrev pub predicate_with : ℕ → Tree → Option Indicator
predicate_with n (Name a) = Some (indicator a n)
predicate_with n (Compound f ts) = Some (indicator f (count ts + n))
predicate_with n t = None

-- the predicate of a goal or a head; a variable and a number have none
abbrev pub predicate_of : Tree → Option Indicator
predicate_of t = predicate_with 0 t

-- call with two to eight arguments, of which the first is a goal
abbrev pub adds_arguments : Text → ℕ → Bool
adds_arguments f n = bytes_eq f (codes "call") && nat_le n 7

-- the predicate that a goal calls which is taken apart no further
abbrev pub called : Tree → Option Indicator
called (Compound f (more a ts)) = if adds_arguments f (count ts) then predicate_with (count ts) a else predicate_of (Compound f (more a ts))
called t = predicate_of t

-- the predicates so far, and the one that a goal calls
abbrev pub with_called : List Indicator → Tree → List Indicator
with_called is t = with_some is (called t)

-- the predicates that a goal calls, each once, in the order in which they are called first
abbrev pub calls_of : Tree → List Indicator
calls_of t = fold with_called [] (goals_of t)

-- ---- on a heap

-- these are the parts of a goal that are goals
abbrev pub AreInner : List Text → List HeapTerm → ℕ → Inner → Type 0
AreInner texts ts id inner.Alone = goals_of (tree texts ts id) ≡ tree texts ts id ∷ []
AreInner texts ts id (inner.One a) = (goals_of (tree texts ts id) ≡ goals_of (tree texts ts a)) × (a < length ts) × (size (at ts a) < size (at ts id))
AreInner texts ts id (inner.Two a b) =
    (goals_of (tree texts ts id) ≡ goals_of (tree texts ts a) ++ goals_of (tree texts ts b)) × (a < length ts) × (b < length ts)
    × (size (at ts a) + size (at ts b) < size (at ts id))
