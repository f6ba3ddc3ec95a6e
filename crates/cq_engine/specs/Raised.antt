-- Which goal an error names, and its ball.
use Rattle.std.specs.Prelude.{◌≡◌, ◌<◌, List, length, codes, ⊤}
use Rattle.spec_numbers.specs.Texts.{Text}
use Rattle.spec_syntax.specs.Trees.{Tree}
use Rattle.spec_builtins.specs.Built as built
use Rattle.spec_builtins.specs.Built.{Indicator, indicator}
use Rattle.spec_builtins.specs.Errors.{error_ball}
use Rattle.cq_built.specs.Errors.{error_tree, indicator_of}
use Rattle.cq_built.specs.declared.errors.BuiltinError.{BuiltinError}
use Rattle.cq_term.specs.Meaning.{HeapTerm}
use Rattle.cq_engine.specs.declared.events.raiser.Raiser.{Raiser}
use Rattle.cq_engine.specs.declared.events.raiser.Raiser.TheVariants.{Named, Caller, Nameless}

-- its name, if it has one of its own, has a text
abbrev pub IsNumbered : List Text → Raiser → Type 0
IsNumbered texts (Named p) = p.name < length texts
IsNumbered texts Caller = ⊤
IsNumbered texts Nameless = ⊤

-- the name and the number of arguments that the error tells
abbrev pub raised_by : List Text → Raiser → Indicator
raised_by texts (Named p) = indicator_of texts p
raised_by texts Caller = indicator (codes "call") 1
raised_by texts Nameless = indicator (codes "") 0

-- they are those of the goal
abbrev pub is_raised_by : List Text → Raiser → Tree → Type 0
is_raised_by texts r goal = raised_by texts r ≡ built.indicator_of goal

-- the ball of an error that the goal raises
abbrev pub ball_by : List Text → List HeapTerm → BuiltinError → Raiser → Tree
ball_by texts ts e r = error_ball (error_tree texts ts e) (raised_by texts r)
