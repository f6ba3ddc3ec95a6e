-- What ?- {X=<_A, _A=<3}. writes: the hidden variable is eliminated.
use Rattle.std.proofs.Common.{◌≡◌, ℕ, suc, List, [], ◌∷◌, ◌++◌, pos, inl, inr, codes, refl, sym, ap, ap₂, ◌∙◌, subst}
use Rattle.std.specs.Char.{encode_utf8}
use Rattle.std.specs.Str.{chars, is_utf8}
use Rattle.spec_numbers.specs.Gcd.{gcd}
use Rattle.spec_numbers.specs.Rational.{ℚ, 1ℚ, ratio, int_ℚ, neg_ℚ, inv_ℚ, ◌+ℚ◌, ◌-ℚ◌, ◌*ℚ◌, IsPositive, IsNotNegative}
use Rattle.spec_numbers.specs.Sums.{Monomial}
use Rattle.spec_numbers.specs.Texts.{Text}
use Rattle.spec_numbers.proofs.Ring.{var, int, ◌⊕◌, ◌⊗◌, minus}
use Rattle.spec_numbers.proofs.RationalLemmas.{ring}
use Rattle.spec_numbers.proofs.Sign.{pos_one, nonneg_zero, nonneg_add, not_both, one_not_zero}
use Rattle.spec_numbers.proofs.Places.{nothing_within}
use Rattle.spec_linear.specs.declared.Relation.TheVariants.{Ge, Ne}
use Rattle.spec_linear.specs.Form.{value_at, variable_form, constant_form, difference_form}
use Rattle.spec_linear.specs.Solution.{Constraint, Entails, Satisfies, Extends, Same, Has, SomeMentions, MentionsOnly, number}
use Rattle.spec_linear.proofs.Values.{value_at-constant_form, value_at-variable_form, value_at-difference_form}
use Rattle.spec_linear.proofs.Points.{solves_same}
use Rattle.spec_linear.proofs.Denominators.{extends}
use Rattle.spec_linear.proofs.Lists.{entails_same}
use Rattle.spec_syntax.specs.Standard.{standard}
use Rattle.spec_syntax.specs.Characters.{first_char}
use Rattle.spec_syntax.specs.Grammar.{use_of, begins_term}
use Rattle.spec_syntax.specs.Writing.{is_bare_right, is_bare_left, is_bare_argument, needs_quotes, is_spaced, infix_token}
use Rattle.spec_syntax.specs.Trees.{Tree}
use Rattle.spec_syntax.specs.TextTokens.{VariableName}
use Rattle.spec_text.specs.Pieces.{pieces_at, argument_pieces}
use Rattle.spec_text.specs.Texts.{name_text, is_apart}
use Rattle.spec_terms.specs.Term.{Var}
use Rattle.spec_builtins.specs.Built.{natural, compound2}
use Rattle.spec_projection.specs.Interior.{strictly}
use Rattle.spec_projection.specs.Others.{AreOthers}
use Rattle.spec_projection.specs.Printed.{AtMost}
use Rattle.spec_projection.specs.Strict.{HasForm}
use Rattle.spec_branch.specs.Branch.{Branch}
use Rattle.spec_answers.specs.Rows.{Inequality, Rows, inequality}
use Rattle.spec_answers.specs.Forms.{IsScaled}
use Rattle.spec_answers.specs.Answer.{AnswerForm}
use Rattle.spec_answers.proofs.Plain.{keeps_nothing}
use Rattle.spec_search.specs.Database.{initial}
use Rattle.spec_search.specs.Search.{Search}
use Rattle.spec_search.specs.Turns as turn
use Rattle.spec_transcript.specs.declared.Source.TheVariants.{Input}
use Rattle.spec_transcript.specs.Purposes.{answer_end}
use Rattle.spec_transcript.specs.Session as session
use Rattle.spec_transcript.specs.Session.{Reader, AQuery, Opening, Searching, plain_line}
use Rattle.spec_examples.specs.Rows.{some_goals, no_files, Writes}
use Rattle.spec_examples.proofs.Told.{unsettled, search_of}
use Rattle.spec_examples.proofs.Both.{telling_both, branch_of_both, both_settle}
use Rattle.spec_examples.proofs.Inequalities.{no_equation_follows}
use Rattle.spec_examples.proofs.Walk.{walk, further, onward, finished}

abbrev three : ℚ
three = int_ℚ (pos 3)

abbrev below : Tree
below = compound2 "=<" (Var 0) (Var 1)

abbrev bounded : Tree
bounded = compound2 "=<" (Var 1) (natural 3)

abbrev row : Constraint
row = record { relation = Ge; form = difference_form (variable_form 1) (variable_form 0) }

abbrev other : Constraint
other = record { relation = Ge; form = difference_form (constant_form three) (variable_form 1) }

abbrev list : List Constraint
list = row ∷ other ∷ []

-- ---- what they say

row_value : (a : ℕ → ℚ) → value_at a row.form ≡ a 1 -ℚ a 0
row_value a =
    value_at-difference_form a (variable_form 1) (variable_form 0)
    ∙ ap₂ (λ v w. v -ℚ w) (value_at-variable_form a 1) (value_at-variable_form a 0)

other_value : (a : ℕ → ℚ) → value_at a other.form ≡ three -ℚ a 1
other_value a =
    value_at-difference_form a (constant_form three) (variable_form 1)
    ∙ ap₂ (λ v w. v -ℚ w) (value_at-constant_form a three) (value_at-variable_form a 1)

-- X is 1 and the hidden variable is 2
abbrev one_more : ℕ → ℚ
one_more x = int_ℚ (pos (suc x))

inside : Satisfies one_more (strictly list)
inside = (
  subst IsPositive (sym (row_value one_more ∙ ring [] (int (pos 2) ⊕ minus (int (pos 1))) (int (pos 1)) refl)) pos_one,
  (subst IsPositive (sym (other_value one_more ∙ ring [] (int (pos 3) ⊕ minus (int (pos 2))) (int (pos 1)) refl)) pos_one, tt),
)

-- ---- the answer's row

abbrev x : Monomial
x = record { variable = 0; factor = 1ℚ }

abbrev printed : Inequality
printed = record { products = x ∷ []; comparison = AtMost; bound = three }

abbrev rows : Rows
rows = record { equations = []; inequalities = printed ∷ []; disequations = [] }

printed_value : (a : ℕ → ℚ) → value_at a (inequality printed).form ≡ three -ℚ a 0
printed_value a = ring (a 0 ∷ []) (int (pos 3) ⊕ (minus (int (pos 1)) ⊗ var 0 ⊕ int (pos 0))) (int (pos 3) ⊕ minus (var 0)) refl

-- the hidden variable may be X itself
same : Same (0 ∷ []) (inequality printed ∷ []) list
same = record { mentions = mentions; same = λ a. (forth a, back a) }
  where
    mentions : MentionsOnly (0 ∷ []) (inequality printed ∷ [])
    mentions y (inl (inl e)) = inl e
    mentions y (inl (inr never)) = elim never [ ]
    mentions y (inr never) = elim never [ ]

    forth : (a : ℕ → ℚ) → Satisfies a (inequality printed ∷ []) → Extends (0 ∷ []) a list
    forth a h =
        extends (0 ∷ []) (λ y. a 0) list (
          subst IsNotNegative (sym (row_value (λ y. a 0) ∙ ring (a 0 ∷ []) (var 0 ⊕ minus (var 0)) (int (pos 0)) refl)) nonneg_zero,
          (subst IsNotNegative (sym (other_value (λ y. a 0))) (subst IsNotNegative (printed_value a) h.0), tt),
        )

    -- both inequalities together
    sum_holds : (a : ℕ → ℚ) → IsNotNegative (a 1 -ℚ a 0) → IsNotNegative (three -ℚ a 1) → IsNotNegative (three -ℚ a 0)
    sum_holds a h k =
        subst IsNotNegative (ring (a 0 ∷ a 1 ∷ []) ((var 1 ⊕ minus (var 0)) ⊕ (int (pos 3) ⊕ minus (var 1))) (int (pos 3) ⊕ minus (var 0)) refl) (nonneg_add h k)

    back : (a : ℕ → ℚ) → Extends (0 ∷ []) a list → Satisfies a (inequality printed ∷ [])
    back a e =
        let s = (solves_same e.0 list).0 e.2 in
        let h = sum_holds (number e.0) (subst IsNotNegative (row_value (number e.0)) s.0) (subst IsNotNegative (other_value (number e.0)) s.1.0) in
        (subst IsNotNegative (sym (printed_value a)) (subst (λ q. IsNotNegative (three -ℚ q)) e.1.0 h), tt)

-- X may be 4 without the row
needed : (k m : List Constraint) (c : Constraint) → inequality printed ∷ [] ≡ k ++ c ∷ m → Entails (k ++ m) c → ⊥
needed [] m c e follows =
    let one : inequality printed ≡ c = cc in
    let none : [] ≡ m = cc in
    let h : IsNotNegative (value_at (λ y. int_ℚ (pos 4)) (inequality printed).form) =
    (entails_same [] (inequality printed)).0 (subst (λ l. Entails l (inequality printed)) (sym none) (subst (Entails m) (sym one) follows)) (λ y. int_ℚ (pos 4)) tt in
    not_both pos_one (subst IsNotNegative (printed_value (λ y. int_ℚ (pos 4)) ∙ ring [] (int (pos 3) ⊕ minus (int (pos 4))) (minus (int (pos 1))) refl) h)
needed (d ∷ k) m c e follows = nothing_within k m c (tail_is e)
  where
    tail_is : inequality printed ∷ [] ≡ d ∷ (k ++ c ∷ m) → [] ≡ k ++ c ∷ m
    tail_is e = cc

scaled : IsScaled (0 ∷ []) (x ∷ [])
scaled = record { ordered = inl (refl, tt); nonzero = (one_not_zero, tt); first = x; rest = []; leads = refl; one = refl }

-- the hidden variable stands before X, which is the target
others : AreOthers (0 ∷ []) list (1 ∷ [])
unfolding ratio int_ℚ neg_ℚ gcd ◌+ℚ◌ ◌*ℚ◌
others = record { youngest_first = tt; others = λ y. (λ h. (stands y h, hidden y h), λ h. other_than_x y h.0 h.1) }
  where
    stands : (y : ℕ) → Has y (1 ∷ []) → SomeMentions y list
    stands y (inl e) = inl (inr (inl e))
    stands y (inr never) = absurd never

    hidden : (y : ℕ) → Has y (1 ∷ []) → Has y (0 ∷ []) → ⊥
    hidden y (inl e) (inl f) = let never : 1 ≡ 0 = sym e ∙ f in cc
    hidden y (inl e) (inr never) = never
    hidden y (inr never) h = never

    other_than_x : (y : ℕ) → SomeMentions y list → (Has y (0 ∷ []) → ⊥) → Has y (1 ∷ [])
    other_than_x y (inl (inl e)) n = absurd (n (inl e))
    other_than_x y (inl (inr (inl e))) n = inl e
    other_than_x y (inl (inr (inr never))) n = absurd never
    other_than_x y (inr (inl (inl e))) n = inl e
    other_than_x y (inr (inl (inr never))) n = absurd never
    other_than_x y (inr (inr never)) n = absurd never

-- an inequality alone has no disequation of its form
only_row : (c : Constraint) → Has c (inequality printed ∷ []) → c.relation ≡ Ge → HasForm c.form (inequality printed ∷ []) → ⊥
only_row c h weak f = no_disequation f.disequation f.among f.relation
  where
    no_disequation : (d : Constraint) → Has d (inequality printed ∷ []) → d.relation ≡ Ne → ⊥
    no_disequation d (inl e) r = let never : Ge ≡ Ne = sym (ap (λ (c : Constraint). c.relation) e) ∙ r in cc
    no_disequation d (inr never) r = absurd never

abbrev branch : Branch
branch = branch_of_both 2 refl below bounded row other refl refl refl refl one_more inside

abbrev names : List VariableName
names = record { name = codes "X"; number = 0 } ∷ record { name = codes "_A"; number = 1 } ∷ []

answer : AnswerForm standard names branch.state (codes "{X=<3}\n")
unfolding encode_utf8 chars is_utf8 first_char ratio int_ℚ gcd neg_ℚ ◌*ℚ◌ ◌+ℚ◌ is_bare_right is_bare_left is_bare_argument needs_quotes is_spaced infix_token pieces_at argument_pieces name_text is_apart
answer = record {
  front = 1 ∷ [];
  others = others;
  kept = [];
  older_first = tt;
  rows = rows;
  keeps = keeps_nothing (1 ∷ []) (0 ∷ []) list [] [] refl (no_equation_follows list refl one_more inside (1 ∷ 0 ∷ [])) (λ y h. absurd h) (λ y h. absurd h);
  form = record {
    projected = record {
      echelon = no_equation_follows list refl one_more inside (0 ∷ []);
      unsolved = λ c h. tt;
      irredundant = needed;
      strict = only_row;
      same = same;
    };
    scaled_inequalities = (scaled, tt);
    scaled_disequations = tt;
    sorted_inequalities = tt;
    sorted_disequations = tt;
  };
  lines = refl;
}

-- ---- the transcript

abbrev text : Text
text = codes "?- {X=<_A, _A=<3}."

abbrev told : Search
told = search_of (unsettled [] (telling_both below bounded) 2) 1

abbrev holds : Search
holds = search_of branch 1

abbrev shown : Search
shown = record told { branches = [] }

abbrev here : Reader
here = record { source = Input; bytes = text; at = 18; later = []; files = [] }

pub projected_row : Writes text (codes "{X=<3}\n;\nno\n")
unfolding encode_utf8 chars is_utf8 first_char use_of begins_term ratio int_ℚ neg_ℚ inv_ℚ gcd ◌+ℚ◌ ◌*ℚ◌ is_bare_right is_bare_left is_bare_argument needs_quotes is_spaced infix_token pieces_at argument_pieces name_text is_apart
projected_row =
    finished some_goals no_files text []
    (onward some_goals no_files text (Opening initial [])
    (further some_goals no_files text (Opening initial [])
    (further some_goals no_files text (Opening initial []) (walk some_goals no_files text []) [] plain_line (Searching holds (AQuery names 10) here)
    (session.turns {s = told} {t = holds} (inl refl) (turn.keeps refl (both_settle 2 refl below bounded row other refl refl refl refl one_more inside))))
    (codes "{X=<3}\n" ++ answer_end) plain_line (Searching shown (AQuery names 9) here) (session.answers {s = holds} {t = shown} {n = 8} (turn.answers refl) answer)))
    refl refl
