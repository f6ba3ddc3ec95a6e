-- Goals and the errors that they raise, each error of each predicate once.
use Prim.Native.String.{String}
use Rattle.std.specs.Prelude.{◌≡◌, ℕ, pos, List, [], ◌∷◌, ⊤, codes}
use Rattle.spec_numbers.specs.Rational.{int_ℚ, ratio, neg_ℚ}
use Rattle.spec_terms.specs.Term.{Number}
use Rattle.spec_syntax.specs.Trees.{Tree, list_tree}
use Rattle.spec_builtins.specs.Built.{atom, compound1, compound2, natural, indicator, indicator_term}
use Rattle.spec_builtins.specs.Errors.{instantiation, type_error, domain_error, representation_error, permission_error, existence_error, not_evaluable}
use Rattle.spec_builtins.specs.Terms.{arguments}
use Rattle.spec_search.specs.Builtins.{Builtin, Throw, Findall, Assert, Retract, ClauseGoal, DynamicGoal, Entailed, Extent, Optimum, Least, Greatest}
use Rattle.spec_search.specs.Database.{First, Last}
use Rattle.spec_search.specs.Replies.{Place, Raises}
use Rattle.spec_search.specs.Rows.{builtin_reply, reply_of}
use Rattle.spec_search.specs.Examples.{X, Y, Z, goal}

-- the number -n
abbrev pub minus : ℕ → Tree
minus n = Number (neg_ℚ (int_ℚ (pos n)))

-- the errors of a procedure that may not be changed, of one that may not be read, and of one that isn't there, and of
-- what builds no expression, by name and arity
abbrev pub not_changed : String → ℕ → Tree
not_changed s n = permission_error "modify" "static_procedure" (indicator_term (indicator (codes s) n))

-- the error of clauses that may not be read
abbrev pub not_read : String → ℕ → Tree
not_read s n = permission_error "access" "private_procedure" (indicator_term (indicator (codes s) n))

-- the error of a predicate that is not there
abbrev pub unknown : String → ℕ → Tree
unknown s n = existence_error (indicator (codes s) n)

-- the error of a function that is not there
abbrev pub no_function : String → ℕ → Tree
no_function s n = not_evaluable (indicator (codes s) n)

-- each goal raises the error beside it
abbrev pub AllRaise : Place → List (Tree × Tree) → Type 0
AllRaise p [] = ⊤
AllRaise p (c ∷ cs) = (reply_of p c.0 ≡ Raises c.1) × AllRaise p cs

-- of control, and an unknown procedure
abbrev pub control_balls : List (Tree × Tree)
control_balls =
    (goal "call" (X ∷ []), instantiation)
    ∷ (goal "call" (natural 1 ∷ []), type_error "callable" (natural 1))
    ∷ (
      goal "call" (compound2 "," (atom "fail") (natural 1) ∷ []),
      type_error "callable" (compound2 "," (atom "fail") (natural 1)),
    )
    ∷ (goal "call" (natural 1 ∷ atom "a" ∷ []), type_error "callable" (natural 1))
    ∷ (goal "foo" (X ∷ []), unknown "foo" 1)
    ∷ []

-- of the predicates that take terms apart and build them
abbrev pub term_balls : List (Tree × Tree)
term_balls =
    (goal "functor" (X ∷ Y ∷ natural 2 ∷ []), instantiation)
    ∷ (goal "functor" (X ∷ atom "f" ∷ Y ∷ []), instantiation)
    ∷ (goal "functor" (X ∷ atom "f" ∷ atom "g" ∷ []), type_error "integer" (atom "g"))
    ∷ (goal "functor" (X ∷ atom "f" ∷ minus 1 ∷ []), domain_error "not_less_than_zero" (minus 1))
    ∷ (goal "functor" (X ∷ compound1 "f" (atom "a") ∷ natural 0 ∷ []), type_error "atomic" (compound1 "f" (atom "a")))
    ∷ (goal "functor" (X ∷ natural 1 ∷ natural 2 ∷ []), type_error "atom" (natural 1))
    ∷ (goal "arg" (X ∷ compound1 "f" (atom "a") ∷ Y ∷ []), instantiation)
    ∷ (goal "arg" (natural 1 ∷ X ∷ Y ∷ []), instantiation)
    ∷ (goal "arg" (atom "a" ∷ compound1 "f" (atom "a") ∷ X ∷ []), type_error "integer" (atom "a"))
    ∷ (goal "arg" (natural 1 ∷ atom "a" ∷ X ∷ []), type_error "compound" (atom "a"))
    ∷ (goal "arg" (minus 1 ∷ compound1 "f" (atom "a") ∷ X ∷ []), domain_error "not_less_than_zero" (minus 1))
    ∷ (goal "=.." (X ∷ compound2 "." (atom "a") Y ∷ []), instantiation)
    ∷ (goal "=.." (X ∷ atom "a" ∷ []), type_error "list" (atom "a"))
    ∷ (goal "=.." (X ∷ atom "[]" ∷ []), domain_error "non_empty_list" (atom "[]"))
    ∷ (goal "=.." (X ∷ list_tree (Y ∷ []) ∷ []), instantiation)
    ∷ (
      goal "=.." (X ∷ list_tree (compound1 "f" (atom "a") ∷ []) ∷ []),
      type_error "atomic" (compound1 "f" (atom "a")),
    )
    ∷ (goal "=.." (X ∷ list_tree (natural 1 ∷ natural 2 ∷ []) ∷ []), type_error "atom" (natural 1))
    ∷ []

-- of the predicates on texts
abbrev pub text_balls : List (Tree × Tree)
text_balls =
    (goal "atom_length" (X ∷ Y ∷ []), instantiation)
    ∷ (goal "atom_length" (natural 1 ∷ Y ∷ []), type_error "atom" (natural 1))
    ∷ (goal "atom_length" (atom "a" ∷ atom "b" ∷ []), type_error "integer" (atom "b"))
    ∷ (goal "atom_length" (atom "a" ∷ minus 1 ∷ []), domain_error "not_less_than_zero" (minus 1))
    ∷ (goal "atom_chars" (natural 1 ∷ X ∷ []), type_error "atom" (natural 1))
    ∷ (goal "atom_chars" (X ∷ compound2 "." (atom "a") Y ∷ []), instantiation)
    ∷ (goal "atom_chars" (X ∷ list_tree (Y ∷ []) ∷ []), instantiation)
    ∷ (goal "atom_chars" (X ∷ atom "a" ∷ []), type_error "list" (atom "a"))
    ∷ (goal "atom_chars" (X ∷ list_tree (atom "ab" ∷ []) ∷ []), type_error "character" (atom "ab"))
    ∷ (goal "atom_codes" (X ∷ list_tree (atom "a" ∷ []) ∷ []), type_error "integer" (atom "a"))
    ∷ (goal "atom_codes" (X ∷ list_tree (minus 1 ∷ []) ∷ []), representation_error "character_code")
    ∷ (goal "char_code" (X ∷ Y ∷ []), instantiation)
    ∷ (goal "char_code" (atom "ab" ∷ X ∷ []), type_error "character" (atom "ab"))
    ∷ (goal "char_code" (X ∷ atom "a" ∷ []), type_error "integer" (atom "a"))
    ∷ (goal "char_code" (X ∷ minus 1 ∷ []), representation_error "character_code")
    ∷ (goal "number_codes" (X ∷ atom "[]" ∷ []), compound1 "syntax_error" (atom "illegal_number"))
    ∷ (goal "number_codes" (X ∷ Y ∷ []), instantiation)
    ∷ (goal "number_codes" (atom "a" ∷ X ∷ []), type_error "number" (atom "a"))
    ∷ (goal "atom_concat" (natural 1 ∷ atom "b" ∷ X ∷ []), type_error "atom" (natural 1))
    ∷ (goal "atom_concat" (atom "a" ∷ natural 1 ∷ X ∷ []), type_error "atom" (natural 1))
    ∷ (goal "atom_concat" (X ∷ Y ∷ natural 1 ∷ []), type_error "atom" (natural 1))
    ∷ (goal "atom_concat" (X ∷ atom "b" ∷ Z ∷ []), instantiation)
    ∷ (goal "sub_atom" (X ∷ Y ∷ Y ∷ Y ∷ Z ∷ []), instantiation)
    ∷ (goal "sub_atom" (natural 1 ∷ X ∷ X ∷ X ∷ Y ∷ []), type_error "atom" (natural 1))
    ∷ (goal "sub_atom" (atom "a" ∷ X ∷ X ∷ X ∷ natural 1 ∷ []), type_error "atom" (natural 1))
    ∷ (goal "sub_atom" (atom "a" ∷ atom "b" ∷ X ∷ X ∷ Y ∷ []), type_error "integer" (atom "b"))
    ∷ (goal "sub_atom" (atom "a" ∷ X ∷ atom "b" ∷ X ∷ Y ∷ []), type_error "integer" (atom "b"))
    ∷ (goal "sub_atom" (atom "a" ∷ X ∷ X ∷ atom "b" ∷ Y ∷ []), type_error "integer" (atom "b"))
    ∷ []

-- of arithmetic
abbrev pub arithmetic_balls : List (Tree × Tree)
arithmetic_balls =
    (goal "is" (X ∷ Y ∷ []), instantiation)
    ∷ (goal "is" (X ∷ compound2 "+" (atom "foo") (natural 1) ∷ []), no_function "foo" 0)
    ∷ (goal "is" (X ∷ compound1 "foo" Y ∷ []), no_function "foo" 1)
    ∷ (
      goal "is" (X ∷ compound2 "mod" (compound2 "/" (natural 1) (natural 2)) (natural 2) ∷ []),
      type_error "integer" (Number (ratio (pos 1) 2)),
    )
    ∷ (
      goal "is" (X ∷ compound2 "//" (natural 1) (natural 0) ∷ []),
      compound1 "evaluation_error" (atom "zero_divisor"),
    )
    ∷ (goal "<" (X ∷ atom "a" ∷ []), instantiation)
    ∷ (goal "=:=" (natural 1 ∷ atom "a" ∷ []), no_function "a" 0)
    ∷ []

-- of declarations and operators
abbrev pub declaration_balls : List (Tree × Tree)
declaration_balls = (
  goal "discontiguous" (compound2 "/" (atom "foo") (atom "a") ∷ []),
  type_error "predicate_indicator" (compound2 "/" (atom "foo") (atom "a")),
)
    ∷ (goal "use_module" (X ∷ []), instantiation)
    ∷ (
      goal "use_module" (compound1 "library" (atom "clpfd") ∷ []),
      domain_error "library" (compound1 "library" (atom "clpfd")),
    )
    ∷ (goal "op" (natural 200 ∷ atom "xfx" ∷ X ∷ []), instantiation)
    ∷ (goal "op" (atom "a" ∷ atom "xfx" ∷ atom "b" ∷ []), type_error "integer" (atom "a"))
    ∷ (goal "op" (natural 1201 ∷ atom "xfx" ∷ atom "b" ∷ []), domain_error "operator_priority" (natural 1201))
    ∷ (goal "op" (natural 200 ∷ natural 1 ∷ atom "b" ∷ []), type_error "atom" (natural 1))
    ∷ (goal "op" (natural 200 ∷ atom "abc" ∷ atom "b" ∷ []), domain_error "operator_specifier" (atom "abc"))
    ∷ (goal "op" (natural 200 ∷ atom "xfx" ∷ natural 1 ∷ []), type_error "list" (natural 1))
    ∷ (goal "op" (natural 200 ∷ atom "xfx" ∷ atom "," ∷ []), permission_error "modify" "operator" (atom ","))
    ∷ (
      goal "op" (natural 200 ∷ atom "xf" ∷ list_tree (atom "a" ∷ atom "+" ∷ []) ∷ []),
      permission_error "create" "operator" (atom "+"),
    )
    ∷ []

-- of constraints
abbrev pub constraint_balls : List (Tree × Tree)
constraint_balls =
    (goal "{}" (X ∷ []), instantiation)
    ∷ (goal "{}" (compound2 "," (compound2 "=" X (natural 1)) Y ∷ []), instantiation)
    ∷ (goal "{}" (atom "foo" ∷ []), type_error "constraint" (atom "foo"))
    ∷ (goal "{}" (compound2 ";" (atom "foo") Y ∷ []), type_error "constraint" (atom "foo"))
    ∷ (goal "{}" (compound2 "=" X (atom "foo") ∷ []), no_function "foo" 0)
    ∷ (goal "{}" (compound2 ">" (compound1 "foo" X) Y ∷ []), no_function "foo" 1)
    ∷ []

-- ---- of predicates that no table has yet

-- the row of each predicate raises the error beside its goal
abbrev pub AllRowsRaise : Place → List (Builtin × Tree × Tree) → Type 0
AllRowsRaise p [] = ⊤
AllRowsRaise p (c ∷ cs) = (builtin_reply p c.0 (arguments c.1) ≡ Raises c.2) × AllRowsRaise p cs

-- of throw, findall and questions to constraints, and of goals that read and change clauses, beside a static p/1
abbrev pub row_balls : List (Builtin × Tree × Tree)
row_balls =
    (Throw, goal "throw" (X ∷ []), instantiation)
    ∷ (Findall, goal "findall" (X ∷ atom "a" ∷ atom "b" ∷ []), type_error "list" (atom "b"))
    ∷ (Assert First, goal "asserta" (X ∷ []), instantiation)
    ∷ (Assert Last, goal "assertz" (compound2 ":-" X (atom "a") ∷ []), instantiation)
    ∷ (Assert Last, goal "assertz" (natural 1 ∷ []), type_error "callable" (natural 1))
    ∷ (
      Assert Last,
      goal "assertz" (compound2 ":-" (atom "foo") (compound2 "," (atom "bar") (natural 1)) ∷ []),
      type_error "callable" (compound2 "," (atom "bar") (natural 1)),
    )
    ∷ (Assert First, goal "asserta" (compound1 "p" (natural 2) ∷ []), not_changed "p" 1)
    ∷ (Assert Last, goal "assertz" (compound2 "," (atom "a") (atom "b") ∷ []), not_changed "," 2)
    ∷ (Retract, goal "retract" (X ∷ []), instantiation)
    ∷ (Retract, goal "retract" (compound1 "p" X ∷ []), not_changed "p" 1)
    ∷ (ClauseGoal, goal "clause" (X ∷ Y ∷ []), instantiation)
    ∷ (ClauseGoal, goal "clause" (natural 1 ∷ Y ∷ []), type_error "callable" (natural 1))
    ∷ (ClauseGoal, goal "clause" (compound1 "q" X ∷ natural 2 ∷ []), type_error "callable" (natural 2))
    ∷ (ClauseGoal, goal "clause" (compound1 "p" X ∷ Y ∷ []), not_read "p" 1)
    ∷ (ClauseGoal, goal "clause" (compound1 "write" X ∷ Y ∷ []), not_read "write" 1)
    ∷ (DynamicGoal, goal "dynamic" (X ∷ []), instantiation)
    ∷ (DynamicGoal, goal "dynamic" (compound2 "/" (atom "foo") X ∷ []), instantiation)
    ∷ (DynamicGoal, goal "dynamic" (atom "foo" ∷ []), type_error "predicate_indicator" (atom "foo"))
    ∷ (
      DynamicGoal,
      goal "dynamic" (compound2 "," (compound2 "/" (atom "foo") (natural 1)) (compound2 "/" (atom "write") (natural 1)) ∷ []),
      not_changed "write" 1,
    )
    ∷ (Entailed, goal "entailed" (X ∷ []), instantiation)
    ∷ (Entailed, goal "entailed" (atom "a" ∷ []), type_error "constraint" (atom "a"))
    ∷ (Entailed, goal "entailed" (compound2 ";" X (atom "a") ∷ []), type_error "linear" (compound2 ";" X (atom "a")))
    ∷ (Extent Greatest, goal "sup" (atom "a" ∷ X ∷ []), no_function "a" 0)
    ∷ (Extent Least, goal "inf" (compound2 "f" X Y ∷ Z ∷ []), no_function "f" 2)
    ∷ (Optimum Least, goal "minimize" (atom "a" ∷ []), no_function "a" 0)
    ∷ (Optimum Greatest, goal "maximize" (atom "a" ∷ []), no_function "a" 0)
    ∷ []
