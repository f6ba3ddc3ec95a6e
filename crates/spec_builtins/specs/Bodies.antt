-- Bodies of clauses: what may stand in one, and how its variables become goals.
use Rattle.std.specs.Prelude.{Bool, true, false, ◌&&◌, ◌||◌, if◌then◌else◌, codes, bytes_eq}
use Rattle.spec_numbers.specs.Texts.{Text}
use Rattle.spec_terms.specs.Term.{Var, Number, Name, Compound, one, more}
use Rattle.spec_syntax.specs.Trees.{Tree, binary}
use Rattle.spec_builtins.specs.Built.{compound1}
use Rattle.spec_builtins.specs.Kinds.{is_callable}

-- conjunction, disjunction and if-then, whose arguments are goals
abbrev pub is_control : Text → Bool
is_control f = bytes_eq f (codes ",") || bytes_eq f (codes ";") || bytes_eq f (codes "->")

-- no conjunct and no branch is a number
abbrev pub is_body : Tree → Bool
is_body (Var v) = true
is_body (Number q) = false
is_body (Name a) = true
is_body (Compound f (one a)) = true
is_body (Compound f (more a (one b))) = if is_control f then is_body a && is_body b else true
is_body (Compound f (more a (more b ts))) = true

-- each conjunct and branch that is a variable X becomes call(X)
abbrev pub converted_body : Tree → Tree
converted_body (Var v) = compound1 "call" (Var v)
converted_body (Number q) = Number q
converted_body (Name a) = Name a
converted_body (Compound f (one a)) = Compound f (one a)
converted_body (Compound f (more a (one b))) =
    if is_control f then binary f (converted_body a) (converted_body b) else binary f a b
converted_body (Compound f (more a (more b ts))) = Compound f (more a (more b ts))

-- a goal that a construct puts in front: a variable or a number is put there as call of it
abbrev pub as_goal : Tree → Tree
as_goal t = if is_callable t then t else compound1 "call" t
