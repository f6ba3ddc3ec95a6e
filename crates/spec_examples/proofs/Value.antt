-- What ?- {2*X+3=7}. writes.
use Rattle.std.proofs.Common.{ℕ, [], ◌∷◌, ◌++◌, inl, inr, codes, refl}
use Rattle.std.specs.Char.{encode_utf8}
use Rattle.std.specs.Str.{chars, is_utf8}
use Rattle.spec_numbers.specs.Gcd.{gcd}
use Rattle.spec_numbers.specs.Rational.{ratio, int_ℚ, neg_ℚ, inv_ℚ, ◌+ℚ◌, ◌*ℚ◌}
use Rattle.spec_linear.specs.Solution.{Has, SomeMentions}
use Rattle.spec_linear.specs.SolvedForm.{rows_of}
use Rattle.spec_linear.proofs.Solving.{solvable, echelon, same-rows}
use Rattle.spec_syntax.specs.Standard.{standard}
use Rattle.spec_syntax.specs.Characters.{first_char}
use Rattle.spec_syntax.specs.Grammar.{use_of, begins_term}
use Rattle.spec_syntax.specs.Writing.{is_bare_right, is_bare_left, is_bare_argument, needs_quotes, is_spaced, infix_token}
use Rattle.spec_text.specs.Pieces.{pieces_at, argument_pieces}
use Rattle.spec_text.specs.Texts.{name_text, is_apart}
use Rattle.spec_terms.specs.Term.{identity}
use Rattle.spec_projection.specs.Others.{AreOthers}
use Rattle.spec_branch.specs.Branch.{Branch}
use Rattle.spec_branch.specs.Settling.{Settles, unified, kept, Kept, kept_branch}
use Rattle.spec_answers.specs.Rows.{no_rows}
use Rattle.spec_answers.specs.Answer.{AnswerForm}
use Rattle.spec_answers.proofs.Plain.{keeps_nothing}
use Rattle.spec_search.specs.Database.{initial}
use Rattle.spec_search.specs.Search.{Search, empty_state}
use Rattle.spec_search.specs.Turns as turn
use Rattle.spec_transcript.specs.declared.Source.TheVariants.{Input}
use Rattle.spec_transcript.specs.Purposes.{answer_end}
use Rattle.spec_transcript.specs.Session as session
use Rattle.spec_transcript.specs.Session.{Reader, AQuery, Opening, Searching, plain_line}
use Rattle.spec_numbers.specs.Texts.{Text}
use Rattle.spec_numbers.proofs.Places.{nothing_within}
use Rattle.spec_examples.specs.Rows.{some_goals, no_files, Writes}
use Rattle.spec_examples.proofs.Unify.{no_pairs}
use Rattle.spec_examples.proofs.Equation.{equation, row, row_is, two_at, solved, fixed, fixes}
use Rattle.spec_examples.proofs.Told.{x_alone, telling, unsettled, search_of, settling}
use Rattle.spec_examples.proofs.Walk.{walk, further, onward, finished}

-- ---- settling

abbrev branch : Branch
branch = kept_branch [] (empty_state 1) (telling equation) identity (row ∷ []) [] fixed

settles : Settles [] (empty_state 1) (telling equation) (Kept branch)
unfolding settling
settles = unified identity no_pairs (kept (λ v e. cc) (settling equation row row_is) (solvable (0 ∷ []) (row ∷ []) two_at solved) fixed fixes)

-- ---- the answer

-- X is solved for before the targets, of which there are none
others : AreOthers [] (row ∷ []) (0 ∷ [])
unfolding ratio int_ℚ neg_ℚ gcd ◌*ℚ◌ ◌+ℚ◌
others = record { youngest_first = tt; others = λ x. (λ h. (stands x h, λ never. never), λ h. has x h.0) }
  where
    stands : (x : ℕ) → Has x (0 ∷ []) → SomeMentions x (row ∷ [])
    stands x (inl e) = inl (inl e)
    stands x (inr never) = absurd never

    has : (x : ℕ) → SomeMentions x (row ∷ []) → Has x (0 ∷ [])
    has x (inl (inl e)) = inl e
    has x (inl (inr never)) = absurd never
    has x (inr never) = absurd never

answer : AnswerForm standard x_alone branch.state (codes "X = 2\n")
unfolding encode_utf8 chars is_utf8 first_char ratio int_ℚ gcd neg_ℚ ◌*ℚ◌ ◌+ℚ◌ is_bare_right is_bare_left is_bare_argument needs_quotes is_spaced infix_token pieces_at argument_pieces name_text is_apart
answer = record {
  front = 0 ∷ [];
  others = others;
  kept = [];
  older_first = tt;
  rows = no_rows;
  keeps = keeps_nothing (0 ∷ []) [] (row ∷ []) (rows_of two_at (0 ∷ [])) [] refl (echelon (0 ∷ []) (row ∷ []) two_at solved [] (0 ∷ []) refl) (λ x h. h) (λ x h. h);
  form = record {
    projected = record {
      echelon = echelon (0 ∷ []) (row ∷ []) two_at solved (0 ∷ []) [] refl;
      unsolved = λ c h. absurd h;
      irredundant = λ k m c e follows. nothing_within k m c e;
      strict = λ c h. absurd h;
      same = same-rows (0 ∷ []) (row ∷ []) two_at solved (0 ∷ []) [] refl;
    };
    scaled_inequalities = tt;
    scaled_disequations = tt;
    sorted_inequalities = tt;
    sorted_disequations = tt;
  };
  lines = refl;
}

-- ---- the transcript

abbrev text : Text
text = codes "?- {2*X+3=7}."

abbrev told : Search
told = search_of (unsettled [] (telling equation) 1) 1

abbrev holds : Search
holds = search_of branch 1

abbrev shown : Search
shown = record told { branches = [] }

abbrev here : Reader
here = record { source = Input; bytes = text; at = 13; later = []; files = [] }

pub value_row : Writes text (codes "X = 2\n;\nno\n")
unfolding encode_utf8 chars is_utf8 first_char use_of begins_term ratio int_ℚ neg_ℚ inv_ℚ gcd ◌+ℚ◌ ◌*ℚ◌ is_bare_right is_bare_left is_bare_argument needs_quotes is_spaced infix_token pieces_at argument_pieces name_text is_apart
value_row =
    finished some_goals no_files text []
    (onward some_goals no_files text (Opening initial [])
    (further some_goals no_files text (Opening initial [])
    (further some_goals no_files text (Opening initial []) (walk some_goals no_files text []) [] plain_line (Searching holds (AQuery x_alone 10) here)
    (session.turns {s = told} {t = holds} (inl refl) (turn.keeps refl settles)))
    (codes "X = 2\n" ++ answer_end) plain_line (Searching shown (AQuery x_alone 9) here) (session.answers {s = holds} {t = shown} {n = 8} (turn.answers refl) answer)))
    refl refl
