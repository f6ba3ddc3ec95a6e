-- What the clauses of a text are for, and the lines that are written beside answers.
use Rattle.std.specs.Prelude.{ℕ, ◌++◌, codes, bytes_eq, if◌then◌else◌}
use Rattle.spec_numbers.specs.Texts.{Text}
use Rattle.spec_syntax.specs.Operators.{Ops}
use Rattle.spec_terms.specs.Term.{Compound, one}
use Rattle.spec_syntax.specs.Trees.{Tree}
use Rattle.spec_text.specs.Numbers.{whole_text}
use Rattle.spec_text.specs.Written.{writeq}
use Rattle.spec_builtins.specs.Built.{compound1}
use Rattle.spec_transcript.specs.declared.Source.{Source}
use Rattle.spec_transcript.specs.declared.Source.TheVariants.{File, Input}

-- what a clause of a text asks for: a directive, a goal that runs after the file, a query, or a clause to be added
pub data Purpose : Type 0 where
  Directive Initialization Query Fact : Tree → Purpose

-- a directive, or a goal for later
abbrev pub initialization_or : Tree → Purpose
initialization_or (Compound f (one g)) = if bytes_eq f (codes "initialization") then Initialization g else Directive (Compound f (one g))
initialization_or t = Directive t

-- initialization(G) waits only as the whole of a file's directive
abbrev pub directive : Source → Tree → Purpose
directive File d = initialization_or d
directive Input d = Directive d

-- a term that is neither a directive nor marked as a query
abbrev pub unmarked : Source → Tree → Purpose
unmarked File t = Fact t
unmarked Input t = Query t

-- what a term that was read is for: a directive, a query or a clause
abbrev pub purpose : Source → Tree → Purpose
purpose source (Compound f (one t)) =
    if bytes_eq f (codes ":-") then directive source t
    else if bytes_eq f (codes "?-") then Query t
    else unmarked source (Compound f (one t))
purpose source t = unmarked source t

-- the goal as which a directive runs
abbrev pub once : Tree → Tree
once g = compound1 "once" g

-- ---- lines

-- behind an answer
abbrev pub answer_end : Text
answer_end = codes ";\n"

-- no branch is left
abbrev pub no_line : Text
no_line = codes "no\n"

-- the last answer that is allowed was written
abbrev pub more_line : Text
more_line = codes "more\n"

-- a ball that nothing catches
abbrev pub ball_line : Ops → Tree → Text
ball_line ops ball = codes "error: " ++ writeq ops ball ++ codes "\n"

-- a syntax error at this place
abbrev pub syntax_line : ℕ → Text
syntax_line at = codes "error: syntax " ++ whole_text at ++ codes "\n"
