-- What a call of a predicate on terms and texts gives, and what that is as a step of the search.
use Rattle.std.specs.Prelude.{ℕ, List, [], ◌∷◌, map, length}
use Rattle.spec_terms.specs.Term.{apply}
use Rattle.spec_terms.specs.Variables.{numbered_from}
use Rattle.spec_syntax.specs.Trees.{Tree}
use Rattle.spec_builtins.specs.Alternatives.{Alternative, Solutions, Faults, Offers, ◌≐◌, holds_if}
use Rattle.spec_builtins.specs.Terms.{passes, order_row, functor_row, arg_row, univ_row}
use Rattle.spec_builtins.specs.Texts.{atom_length_row, atom_list_row, char_code_row, number_codes_row, atom_concat_row, sub_atom_row}
use Rattle.spec_branch.specs.Branch.{Copied, plain_copy}
use Rattle.spec_search.specs.Replies.{Place, alternative_child}
use Rattle.spec_search.specs.Rows.{nth}
use Rattle.spec_search.specs.Steps.{Stepped, ball_of, children}
use Rattle.spec_search.specs.Predicates.{Predicate, Order, Test, AtomList, Functor, Arg, Univ, CopyTerm, AtomLength, CharCode, NumberCodes, AtomConcat, SubAtom}

-- the only alternative of a copy: a term that is to be unified with it, over its variables as new ones
abbrev pub copy_way : ℕ → Copied → Tree → Alternative
copy_way fresh c t = record { new = length c.variables; equations = (t ≐ apply (numbered_from fresh c.variables) c.term) ∷ [] }

-- the error of a call with these arguments, or its alternatives in order; `fresh` is the number of the next variable
abbrev pub solutions_of : Predicate → ℕ → List Tree → Solutions
solutions_of (Order c) fresh ts = order_row c (nth ts 0) (nth ts 1)
solutions_of (Test k) fresh ts = holds_if (passes k (nth ts 0))
solutions_of (AtomList k) fresh ts = atom_list_row k (nth ts 0) (nth ts 1)
solutions_of Functor fresh ts = functor_row fresh (nth ts 0) (nth ts 1) (nth ts 2)
solutions_of Arg fresh ts = arg_row (nth ts 0) (nth ts 1) (nth ts 2)
solutions_of Univ fresh ts = univ_row (nth ts 0) (nth ts 1)
solutions_of CopyTerm fresh ts = Offers (copy_way fresh (plain_copy (nth ts 0)) (nth ts 1) ∷ [])
solutions_of AtomLength fresh ts = atom_length_row (nth ts 0) (nth ts 1)
solutions_of CharCode fresh ts = char_code_row (nth ts 0) (nth ts 1)
solutions_of NumberCodes fresh ts = number_codes_row (nth ts 0) (nth ts 1)
solutions_of AtomConcat fresh ts = atom_concat_row (nth ts 0) (nth ts 1) (nth ts 2)
solutions_of SubAtom fresh ts = sub_atom_row (nth ts 0) (nth ts 1) (nth ts 2) (nth ts 3) (nth ts 4)

-- what they are as a step of a goal: its ball, or the children of all alternatives
abbrev pub stepped_by : Place → Tree → Solutions → Stepped
stepped_by p goal (Faults e) = ball_of goal e
stepped_by p goal (Offers ways) = children p (map (alternative_child p) ways)
