-- What ?- {X*Y=6}. writes: the constraint waits.
use Rattle.std.proofs.Common.{◌≡◌, ℕ, List, [], ◌∷◌, ◌++◌, Option, Some, None, inl, codes, refl, sym, ap, ◌∙◌, subst}
use Rattle.std.specs.Char.{encode_utf8}
use Rattle.std.specs.Str.{chars, is_utf8}
use Rattle.spec_numbers.specs.Gcd.{gcd}
use Rattle.spec_numbers.specs.Rational.{ℚ, ratio, int_ℚ, neg_ℚ, inv_ℚ, ◌+ℚ◌, ◌*ℚ◌}
use Rattle.spec_linear.specs.Solution.{Constraint, Fixes}
use Rattle.spec_syntax.specs.Characters.{first_char}
use Rattle.spec_syntax.specs.Grammar.{use_of, begins_term}
use Rattle.spec_syntax.specs.Writing.{is_bare_right, is_bare_left, is_bare_argument, needs_quotes, is_spaced, infix_token}
use Rattle.spec_text.specs.Pieces.{pieces_at, argument_pieces}
use Rattle.spec_text.specs.Texts.{name_text, is_apart}
use Rattle.spec_syntax.specs.Trees.{Tree}
use Rattle.spec_syntax.specs.TextTokens.{VariableName}
use Rattle.spec_terms.specs.Term.{Var, identity, apply}
use Rattle.spec_builtins.specs.Built.{natural, compound2}
use Rattle.spec_branch.specs.Relations.{Lin, Waits, lin, row_of, IsLin}
use Rattle.spec_branch.specs.Branch.{Branch}
use Rattle.spec_branch.specs.Closure.{no_move}
use Rattle.spec_branch.specs.Settling.{Settling, Settles, unified, kept, Kept, kept_branch}
use Rattle.spec_branch.specs.Alike.{no_values}
use Rattle.spec_branch.proofs.Idle.{fixes_nothing}
use Rattle.spec_search.specs.Database.{initial}
use Rattle.spec_search.specs.Search.{Search, empty_state}
use Rattle.spec_search.specs.Turns as turn
use Rattle.spec_transcript.specs.declared.Source.TheVariants.{Input}
use Rattle.spec_transcript.specs.Session as session
use Rattle.spec_transcript.specs.Session.{Reader, AQuery, Opening, Searching, plain_line}
use Rattle.spec_numbers.specs.Texts.{Text}
use Rattle.spec_numbers.proofs.Places.{nothing_within}
use Rattle.spec_examples.specs.Rows.{some_goals, no_files, Writes}
use Rattle.spec_examples.proofs.Unify.{no_pairs}
use Rattle.spec_examples.proofs.Told.{telling, unsettled, search_of, nothing_solvable}
use Rattle.spec_examples.proofs.Walk.{walk, further, onward, finished}

abbrev product : Tree
product = compound2 "=" (compound2 "*" (Var 0) (Var 1)) (natural 6)

-- nothing is fixed, so neither factor is a number
fixes_none : (fixed : ℕ → Option ℚ) → Fixes [] fixed → (x : ℕ) (o : Option ℚ) → fixed x ≡ o → fixed x ≡ None
fixes_none fixed f x None e = e
fixes_none fixed f x (Some q) e = let h : no_values x ≡ Some q = fixes_nothing.complete x q (f.sound x q e) in cc

waits : lin no_values product ≡ Waits
waits = refl

never_moves : (result : Lin Constraint) (row : Constraint) → IsLin [] product result → row_of result ≡ Some row → ⊥
never_moves result row h e =
    let none : h.fixed ≡ no_values = λ i x. fixes_none h.fixed h.fixes x (h.fixed x) refl i in
    let is : result ≡ Waits = sym h.is ∙ ap (λ (f : ℕ → Option ℚ). lin f product) none ∙ waits in
    let k : row_of Waits ≡ Some row = sym (ap row_of is) ∙ e in
    cc

no_row_joins : (before after : List Tree) (term : Tree) (result : Lin Constraint) (row : Constraint) → product ∷ [] ≡ before ++ term ∷ after → IsLin [] (apply identity term) result
    → row_of result ≡ Some row → ⊥
no_row_joins [] after term result row e h r =
    let is : product ≡ term = cc in
    never_moves result row (subst (λ (t : Tree). IsLin [] (apply identity t) result) (sym is) h) r
no_row_joins (t ∷ before) after term result row e h r = nothing_within before after term (let k : [] ≡ before ++ term ∷ after = cc in k)

settling : Settling (empty_state 2) (telling product) identity
settling = record {
  equations = [];
  each_newly_bound = record { moves = []; below = tt; is = refl };
  linear = [];
  waiting = product ∷ [];
  closure = record { moves = no_move; closed = λ m x h. no_row_joins h.before h.after h.term h.result h.row h.among h.is_lin h.row_is };
}

abbrev branch : Branch
branch = kept_branch [] (empty_state 2) (telling product) identity [] (product ∷ []) no_values

settles : Settles [] (empty_state 2) (telling product) (Kept branch)
unfolding settling
settles = unified identity no_pairs (kept (λ v e. cc) settling nothing_solvable no_values fixes_nothing)

abbrev text : Text
text = codes "?- {X*Y=6}."

abbrev names : List VariableName
names = record { name = codes "X"; number = 0 } ∷ record { name = codes "Y"; number = 1 } ∷ []

abbrev told : Search
told = search_of (unsettled [] (telling product) 2) 1

abbrev delayed : Search
delayed = search_of branch 1

abbrev here : Reader
here = record { source = Input; bytes = text; at = 11; later = []; files = [] }

pub delayed_row : Writes text (codes "{X*Y=6}\n;\nno\n")
unfolding encode_utf8 chars is_utf8 first_char use_of begins_term ratio int_ℚ neg_ℚ inv_ℚ gcd ◌+ℚ◌ ◌*ℚ◌ is_bare_right is_bare_left is_bare_argument needs_quotes is_spaced infix_token pieces_at argument_pieces name_text is_apart
delayed_row =
    finished some_goals no_files text []
    (onward some_goals no_files text (Opening initial [])
    (further some_goals no_files text (Opening initial []) (walk some_goals no_files text []) [] plain_line (Searching delayed (AQuery names 10) here)
    (session.turns {s = told} {t = delayed} (inl refl) (turn.keeps refl settles))))
    refl refl
