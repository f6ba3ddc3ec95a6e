-- What ?- {X>0}, X=a. writes: a numeric variable becomes no atom.
use Rattle.std.proofs.Common.{◌≡◌, ℕ, List, [], ◌∷◌, pos, inl, codes, refl, sym, ap, ◌∙◌}
use Rattle.std.specs.Char.{encode_utf8}
use Rattle.std.specs.Str.{chars, is_utf8}
use Rattle.spec_numbers.specs.Gcd.{gcd}
use Rattle.spec_numbers.specs.Rational.{ℚ, ratio, int_ℚ, neg_ℚ, inv_ℚ, ◌+ℚ◌, ◌*ℚ◌}
use Rattle.spec_numbers.proofs.Sign.{pos_one, pos_add, pos_nonneg}
use Rattle.spec_linear.specs.declared.Relation.TheVariants.{Gt}
use Rattle.spec_linear.specs.Form.{variable_form, constant_form, difference_form}
use Rattle.spec_linear.specs.Solution.{Constraint, Solves, Fixed, Fixes}
use Rattle.spec_linear.proofs.Points.{all_at}
use Rattle.spec_syntax.specs.Characters.{first_char}
use Rattle.spec_syntax.specs.Grammar.{use_of, begins_term}
use Rattle.spec_syntax.specs.Trees.{Tree}
use Rattle.spec_terms.specs.Term.{Subst, Var, identity, single, followed_by}
use Rattle.spec_terms.specs.Unifier.{IsUnifier}
use Rattle.spec_builtins.specs.Built.{natural, atom, compound2}
use Rattle.spec_builtins.specs.Alternatives.{◌≐◌}
use Rattle.spec_branch.specs.Relations.{Is, lin}
use Rattle.spec_branch.specs.Branch.{Item, Goal, Pending, Branch, Unsettled, no_work}
use Rattle.spec_branch.specs.Settling.{Settles, unified, clash, kept, Kept, Pruned, Clash, kept_branch}
use Rattle.spec_branch.specs.Alike.{no_values}
use Rattle.spec_search.specs.Database.{initial}
use Rattle.spec_search.specs.Search.{Search, empty_state}
use Rattle.spec_search.specs.Turns as turn
use Rattle.spec_transcript.specs.declared.Source.TheVariants.{Input}
use Rattle.spec_transcript.specs.Session as session
use Rattle.spec_transcript.specs.Session.{Reader, AQuery, Opening, Searching, plain_line}
use Rattle.spec_numbers.specs.Texts.{Text}
use Rattle.spec_examples.specs.Rows.{some_goals, no_files, Writes}
use Rattle.spec_examples.proofs.Unify.{no_pairs, bound}
use Rattle.spec_examples.proofs.Told.{x_alone, telling, unsettled, search_of, settling}
use Rattle.spec_examples.proofs.Walk.{walk, further, onward, finished}

abbrev inequality : Tree
inequality = compound2 ">" (Var 0) (natural 0)

abbrev row : Constraint
row = record { relation = Gt; form = difference_form (variable_form 0) (constant_form (int_ℚ (pos 0))) }

row_is : lin no_values inequality ≡ Is row
row_is = refl

-- ---- X may be 1 and 2

holds_at_one : Solves (all_at (pos 1)) (row ∷ [])
unfolding all_at ratio int_ℚ neg_ℚ gcd ◌+ℚ◌ ◌*ℚ◌
holds_at_one = (record { positive = pos_one.positive }, tt)

holds_at_two : Solves (all_at (pos 2)) (row ∷ [])
unfolding all_at ratio int_ℚ neg_ℚ gcd ◌+ℚ◌ ◌*ℚ◌
holds_at_two = (record { positive = (pos_add pos_one (pos_nonneg pos_one)).positive }, tt)

one_is_not_two : ratio (pos 1) 1 ≡ ratio (pos 2) 1 → ⊥
unfolding ratio gcd
one_is_not_two e = let k : pos 1 ≡ pos 2 = ap (λ (q : ℚ). q.numerator) e in cc

not_fixed : (x : ℕ) (q : ℚ) → Fixed (row ∷ []) x q → ⊥
unfolding all_at
not_fixed x q f = one_is_not_two (f.always (all_at (pos 1)) holds_at_one ∙ sym (f.always (all_at (pos 2)) holds_at_two))

fixes : Fixes (row ∷ []) no_values
fixes = record { sound = λ x q e. cc; complete = λ x q f. absurd (not_fixed x q f) }

-- ---- the inequality joins

abbrev behind : List Item
behind = Goal (compound2 "=" (Var 0) (atom "a")) 0 ∷ []

abbrev branch : Branch
branch = kept_branch behind (empty_state 1) (telling inequality) identity (row ∷ []) [] no_values

settles : Settles behind (empty_state 1) (telling inequality) (Kept branch)
unfolding settling
settles = unified identity no_pairs (kept (λ v e. cc) (settling inequality row row_is) (all_at (pos 1), holds_at_one) no_values fixes)

-- ---- the atom clashes

abbrev binding : Pending
binding = record no_work { equations = (Var 0 ≐ atom "a") ∷ [] }

abbrev unifier_of : Subst Text
unifier_of = followed_by (single 0 (atom "a")) identity

binds : IsUnifier ((Var 0 ≐ atom "a") ∷ []) unifier_of
binds = bound 0 (atom "a") [] (λ h. h) (λ w e. cc) identity no_pairs

clashes : Settles [] branch.state binding (Pruned Clash)
clashes = unified unifier_of binds (clash (record { variable = 0; numeric = refl; image = refl }))

-- ---- the transcript

abbrev text : Text
text = codes "?- {X>0}, X=a."

abbrev told : Search
told = search_of (unsettled behind (telling inequality) 1) 2

abbrev holds : Search
holds = search_of branch 2

abbrev bound_too : Search
bound_too = search_of (record { items = []; state = branch.state; phase = Unsettled binding }) 3

abbrev pruned : Search
pruned = record bound_too { branches = [] }

abbrev here : Reader
here = record { source = Input; bytes = text; at = 14; later = []; files = [] }

pub clash_row : Writes text (codes "no\n")
unfolding encode_utf8 chars is_utf8 first_char use_of begins_term ratio int_ℚ neg_ℚ inv_ℚ gcd ◌+ℚ◌ ◌*ℚ◌
clash_row =
    finished some_goals no_files text []
    (onward some_goals no_files text (Opening initial [])
    (further some_goals no_files text (Opening initial [])
    (onward some_goals no_files text (Opening initial [])
    (further some_goals no_files text (Opening initial []) (walk some_goals no_files text []) [] plain_line (Searching holds (AQuery x_alone 10) here)
    (session.turns {s = told} {t = holds} (inl refl) (turn.keeps refl settles))))
    [] plain_line (Searching pruned (AQuery x_alone 10) here) (session.turns {s = bound_too} {t = pruned} (inl refl) (turn.prunes refl clashes refl))))
    refl refl
