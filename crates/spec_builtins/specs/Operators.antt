-- op(P,K,N): its checks, and the table after it.
use Rattle.std.specs.Prelude.{ℕ, List, [], ◌∷◌, Bool, true, false, if◌then◌else◌, not, ◌&&◌, ◌||◌, ℤ, pos, Option, is_none, Result, Ok, Err}
use Rattle.std.specs.List.{list_any, list_all}
use Rattle.spec_syntax.specs.declared.operators.OpKind.{OpKind}
use Rattle.spec_syntax.specs.Operators.{Ops, Refusal, Comma, Clash, kind_named, in_range, set_checked, put}
use Rattle.spec_terms.specs.Term.{Number}
use Rattle.spec_syntax.specs.Trees.{Tree}
use Rattle.spec_builtins.specs.Kinds.{is_variable, is_name, is_integer, name_text, parts, is_list, is_partial}
use Rattle.spec_builtins.specs.Errors.{instantiation, type_error, domain_error, permission_error}
use Rattle.spec_builtins.specs.Clauses.{first_error, error_if, error_at_first}

-- the whole number that a term is, or 0
abbrev pub whole_of : Tree → ℤ
whole_of (Number q) = q.numerator
whole_of t = pos 0

-- the priority and the kind that are asked for, if they are lawful
abbrev pub priority_of : Tree → Option ℕ
priority_of p = in_range (whole_of p)

-- the kind of operator that an atom names, as xfx
abbrev pub kind_of : Tree → Option OpKind
kind_of k = kind_named (name_text k)

-- the names that are to be set: an atom, or the elements of a list
abbrev pub operator_names : Tree → List Tree
operator_names n = if is_name n then n ∷ [] else (parts n).elements

-- it is refused because of the comma
abbrev pub is_comma : Result Ops Refusal → Bool
is_comma (Err Comma) = true
is_comma r = false

-- it is refused because of a clash
abbrev pub is_clash : Result Ops Refusal → Bool
is_clash (Err Clash) = true
is_clash r = false

-- the name set in the table
abbrev pub named_set : Ops → Tree → Tree → Tree → Result Ops Refusal
named_set ops p k n = set_checked ops (priority_of p) (kind_of k) (name_text n)

-- the error of op(P,K,N); all names are checked before any is set, and for a comma before a clash
abbrev pub operator_error : Ops → Tree → Tree → Tree → Option Tree
operator_error ops p k n =
    let ns = operator_names n in
    first_error (
    error_if (is_variable p || is_variable k || is_variable n || is_partial n || list_any is_variable ns) instantiation
    ∷ error_if (not (is_integer p)) (type_error "integer" p)
    ∷ error_if (is_none (priority_of p)) (domain_error "operator_priority" p)
    ∷ error_if (not (is_name k)) (type_error "atom" k)
    ∷ error_if (is_none (kind_of k)) (domain_error "operator_specifier" k)
    ∷ error_if (not (is_name n || (is_list n && list_all is_name ns))) (type_error "list" n)
    ∷ error_at_first (λ a. is_comma (named_set ops p k a)) (λ a. permission_error "modify" "operator" a) ns
    ∷ error_at_first (λ a. is_clash (named_set ops p k a)) (λ a. permission_error "create" "operator" a) ns
    ∷ [])

-- the new table, or the old one where it is refused
abbrev pub table_or : Ops → Result Ops Refusal → Ops
table_or ops (Ok changed) = changed
table_or ops (Err r) = ops

-- the table with the names set one after another
abbrev pub operators_after : Ops → Tree → Tree → List Tree → Ops
operators_after ops p k [] = ops
operators_after ops p k (n ∷ ns) = operators_after (table_or ops (named_set ops p k n)) p k ns

-- the table with each name set to this priority and kind
abbrev pub put_all : Ops → ℕ → OpKind → List Tree → Ops
put_all ops priority kind [] = ops
put_all ops priority kind (n ∷ ns) = put_all (put ops priority kind (name_text n)) priority kind ns
