-- What ?- {X>=3, X>=5}. writes: the first inequality follows from the second.
use Rattle.std.proofs.Common.{◌≡◌, ℕ, List, [], ◌∷◌, ◌++◌, pos, inl, inr, codes, refl, sym, ap, ap₂, ◌∙◌, subst}
use Rattle.std.specs.Char.{encode_utf8}
use Rattle.std.specs.Str.{chars, is_utf8}
use Rattle.spec_numbers.specs.Gcd.{gcd}
use Rattle.spec_numbers.specs.Rational.{ℚ, 0ℚ, 1ℚ, ratio, int_ℚ, neg_ℚ, inv_ℚ, ◌+ℚ◌, ◌-ℚ◌, ◌*ℚ◌, IsPositive, IsNotNegative}
use Rattle.spec_numbers.specs.Sums.{Monomial}
use Rattle.spec_numbers.specs.Texts.{Text}
use Rattle.spec_numbers.proofs.Ring.{var, int, ◌⊕◌, ◌⊗◌, minus}
use Rattle.spec_numbers.proofs.RationalLemmas.{ring}
use Rattle.spec_numbers.proofs.Sign.{pos_one, pos_add, pos_nonneg, nonneg_add, not_both, one_not_zero}
use Rattle.spec_numbers.proofs.Places.{nothing_within}
use Rattle.spec_linear.specs.declared.Relation.TheVariants.{Ge, Ne}
use Rattle.spec_linear.specs.Form.{value_at, variable_form, constant_form, difference_form}
use Rattle.spec_linear.specs.Solution.{Constraint, Entails, Satisfies, Extends, Same, Has, SomeMentions, MentionsOnly, number}
use Rattle.spec_linear.proofs.Values.{value_at-constant_form, value_at-variable_form, value_at-difference_form}
use Rattle.spec_linear.proofs.Points.{solves_same}
use Rattle.spec_linear.proofs.Denominators.{extends}
use Rattle.spec_linear.proofs.Lists.{entails_same}
use Rattle.spec_syntax.specs.Standard.{standard}
use Rattle.spec_syntax.specs.Characters.{first_char}
use Rattle.spec_syntax.specs.Grammar.{use_of, begins_term}
use Rattle.spec_syntax.specs.Writing.{is_bare_right, is_bare_left, is_bare_argument, needs_quotes, is_spaced, infix_token}
use Rattle.spec_syntax.specs.Trees.{Tree}
use Rattle.spec_text.specs.Pieces.{pieces_at, argument_pieces}
use Rattle.spec_text.specs.Texts.{name_text, is_apart}
use Rattle.spec_terms.specs.Term.{Var}
use Rattle.spec_builtins.specs.Built.{natural, compound2}
use Rattle.spec_projection.specs.Interior.{strictly}
use Rattle.spec_projection.specs.Others.{AreOthers}
use Rattle.spec_projection.specs.Printed.{AtLeast}
use Rattle.spec_projection.specs.Strict.{HasForm}
use Rattle.spec_branch.specs.Branch.{Branch}
use Rattle.spec_answers.specs.Rows.{Inequality, Rows, inequality}
use Rattle.spec_answers.specs.Forms.{IsScaled}
use Rattle.spec_answers.specs.Answer.{AnswerForm}
use Rattle.spec_answers.proofs.Plain.{keeps_nothing}
use Rattle.spec_search.specs.Database.{initial}
use Rattle.spec_search.specs.Search.{Search}
use Rattle.spec_search.specs.Turns as turn
use Rattle.spec_transcript.specs.declared.Source.TheVariants.{Input}
use Rattle.spec_transcript.specs.Purposes.{answer_end}
use Rattle.spec_transcript.specs.Session as session
use Rattle.spec_transcript.specs.Session.{Reader, AQuery, Opening, Searching, plain_line}
use Rattle.spec_examples.specs.Rows.{some_goals, no_files, Writes}
use Rattle.spec_examples.proofs.Told.{x_alone, unsettled, search_of}
use Rattle.spec_examples.proofs.Both.{telling_both, branch_of_both, both_settle}
use Rattle.spec_examples.proofs.Inequalities.{no_equation_follows}
use Rattle.spec_examples.proofs.Walk.{walk, further, onward, finished}

abbrev three : ℚ
three = int_ℚ (pos 3)

abbrev five : ℚ
five = int_ℚ (pos 5)

abbrev lower : Tree
lower = compound2 ">=" (Var 0) (natural 3)

abbrev higher : Tree
higher = compound2 ">=" (Var 0) (natural 5)

abbrev row : Constraint
row = record { relation = Ge; form = difference_form (variable_form 0) (constant_form three) }

abbrev other : Constraint
other = record { relation = Ge; form = difference_form (variable_form 0) (constant_form five) }

abbrev list : List Constraint
list = row ∷ other ∷ []

-- ---- what they say

value_is : (a : ℕ → ℚ) (q : ℚ) → value_at a (difference_form (variable_form 0) (constant_form q)) ≡ a 0 -ℚ q
value_is a q =
    value_at-difference_form a (variable_form 0) (constant_form q)
    ∙ ap₂ (λ v w. v -ℚ w) (value_at-variable_form a 0) (value_at-constant_form a q)

abbrev six : ℕ → ℚ
six x = int_ℚ (pos 6)

three_positive : IsPositive three
three_positive =
    subst IsPositive (ring [] (int (pos 1) ⊕ (int (pos 1) ⊕ int (pos 1))) (int (pos 3)) refl)
    (pos_add pos_one (pos_nonneg (pos_add pos_one (pos_nonneg pos_one))))

inside : Satisfies six (strictly list)
inside = (
  subst IsPositive (sym (value_is six three ∙ ring [] (int (pos 6) ⊕ minus (int (pos 3))) (int (pos 3)) refl)) three_positive,
  (subst IsPositive (sym (value_is six five ∙ ring [] (int (pos 6) ⊕ minus (int (pos 5))) (int (pos 1)) refl)) pos_one, tt),
)

-- ---- the answer's row

abbrev x : Monomial
x = record { variable = 0; factor = 1ℚ }

abbrev printed : Inequality
printed = record { products = x ∷ []; comparison = AtLeast; bound = five }

abbrev rows : Rows
rows = record { equations = []; inequalities = printed ∷ []; disequations = [] }

printed_value : (a : ℕ → ℚ) → value_at a (inequality printed).form ≡ a 0 -ℚ five
printed_value a = ring (a 0 ∷ []) (minus (int (pos 5)) ⊕ (int (pos 1) ⊗ var 0 ⊕ int (pos 0))) (var 0 ⊕ minus (int (pos 5))) refl

-- X>=5 and 2>=0 together
lower_holds : (q : ℚ) → IsNotNegative (q -ℚ five) → IsNotNegative (q -ℚ three)
lower_holds q h =
    subst IsNotNegative (ring (q ∷ []) ((var 0 ⊕ minus (int (pos 5))) ⊕ (int (pos 1) ⊕ int (pos 1))) (var 0 ⊕ minus (int (pos 3))) refl)
    (nonneg_add h (pos_nonneg (pos_add pos_one (pos_nonneg pos_one))))

same : Same (0 ∷ []) (inequality printed ∷ []) list
same = record { mentions = mentions; same = λ a. (forth a, back a) }
  where
    mentions : MentionsOnly (0 ∷ []) (inequality printed ∷ [])
    mentions y (inl (inl e)) = inl e
    mentions y (inl (inr never)) = elim never [ ]
    mentions y (inr never) = elim never [ ]

    forth : (a : ℕ → ℚ) → Satisfies a (inequality printed ∷ []) → Extends (0 ∷ []) a list
    forth a h =
        let k : IsNotNegative (a 0 -ℚ five) = subst IsNotNegative (printed_value a) h.0 in
        extends (0 ∷ []) a list (subst IsNotNegative (sym (value_is a three)) (lower_holds (a 0) k), (subst IsNotNegative (sym (value_is a five)) k, tt))

    back : (a : ℕ → ℚ) → Extends (0 ∷ []) a list → Satisfies a (inequality printed ∷ [])
    back a e =
        let s = (solves_same e.0 list).0 e.2 in
        (subst IsNotNegative (sym (printed_value a)) (subst (λ q. IsNotNegative (q -ℚ five)) e.1.0 (subst IsNotNegative (value_is (number e.0) five) s.1.0)), tt)

-- X may be 0 without the row
needed : (k m : List Constraint) (c : Constraint) → inequality printed ∷ [] ≡ k ++ c ∷ m → Entails (k ++ m) c → ⊥
needed [] m c e follows =
    let one : inequality printed ≡ c = cc in
    let none : [] ≡ m = cc in
    let h : IsNotNegative (value_at (λ y. 0ℚ) (inequality printed).form) =
    (entails_same [] (inequality printed)).0 (subst (λ l. Entails l (inequality printed)) (sym none) (subst (Entails m) (sym one) follows)) (λ y. 0ℚ) tt in
    not_both five_positive (subst IsNotNegative (printed_value (λ y. 0ℚ) ∙ ring [] (int (pos 0) ⊕ minus (int (pos 5))) (minus (int (pos 5))) refl) h)
  where
    five_positive : IsPositive five
    five_positive = subst IsPositive (ring [] (int (pos 3) ⊕ (int (pos 1) ⊕ int (pos 1))) (int (pos 5)) refl) (pos_add three_positive (pos_nonneg (pos_add pos_one (pos_nonneg pos_one))))
needed (d ∷ k) m c e follows = nothing_within k m c (tail_is e)
  where
    tail_is : inequality printed ∷ [] ≡ d ∷ (k ++ c ∷ m) → [] ≡ k ++ c ∷ m
    tail_is e = cc

scaled : IsScaled (0 ∷ []) (x ∷ [])
scaled = record { ordered = inl (refl, tt); nonzero = (one_not_zero, tt); first = x; rest = []; leads = refl; one = refl }

no_others : AreOthers (0 ∷ []) list []
unfolding ratio int_ℚ neg_ℚ gcd ◌+ℚ◌ ◌*ℚ◌
no_others = record { youngest_first = tt; others = λ y. (λ h. absurd h, λ h. absurd (h.1 (mentioned y h.0))) }
  where
    mentioned : (y : ℕ) → SomeMentions y list → Has y (0 ∷ [])
    mentioned y (inl (inl e)) = inl e
    mentioned y (inl (inr never)) = absurd never
    mentioned y (inr (inl (inl e))) = inl e
    mentioned y (inr (inl (inr never))) = absurd never
    mentioned y (inr (inr never)) = absurd never

-- an inequality alone has no disequation of its form
only_row : (c : Constraint) → Has c (inequality printed ∷ []) → c.relation ≡ Ge → HasForm c.form (inequality printed ∷ []) → ⊥
only_row c h weak f = no_disequation f.disequation f.among f.relation
  where
    no_disequation : (d : Constraint) → Has d (inequality printed ∷ []) → d.relation ≡ Ne → ⊥
    no_disequation d (inl e) r = let never : Ge ≡ Ne = sym (ap (λ (c : Constraint). c.relation) e) ∙ r in cc
    no_disequation d (inr never) r = absurd never

abbrev branch : Branch
branch = branch_of_both 1 refl lower higher row other refl refl refl refl six inside

answer : AnswerForm standard x_alone branch.state (codes "{X>=5}\n")
unfolding encode_utf8 chars is_utf8 first_char ratio int_ℚ gcd neg_ℚ ◌*ℚ◌ ◌+ℚ◌ is_bare_right is_bare_left is_bare_argument needs_quotes is_spaced infix_token pieces_at argument_pieces name_text is_apart
answer = record {
  front = [];
  others = no_others;
  kept = [];
  older_first = tt;
  rows = rows;
  keeps = keeps_nothing [] (0 ∷ []) list [] [] refl (no_equation_follows list refl six inside (0 ∷ [])) (λ y h. absurd h) (λ y h. absurd h);
  form = record {
    projected = record {
      echelon = no_equation_follows list refl six inside (0 ∷ []);
      unsolved = λ c h. tt;
      irredundant = needed;
      strict = only_row;
      same = same;
    };
    scaled_inequalities = (scaled, tt);
    scaled_disequations = tt;
    sorted_inequalities = tt;
    sorted_disequations = tt;
  };
  lines = refl;
}

-- ---- the transcript

abbrev text : Text
text = codes "?- {X>=3, X>=5}."

abbrev told : Search
told = search_of (unsettled [] (telling_both lower higher) 1) 1

abbrev holds : Search
holds = search_of branch 1

abbrev shown : Search
shown = record told { branches = [] }

abbrev here : Reader
here = record { source = Input; bytes = text; at = 16; later = []; files = [] }

pub above_row : Writes text (codes "{X>=5}\n;\nno\n")
unfolding encode_utf8 chars is_utf8 first_char use_of begins_term ratio int_ℚ neg_ℚ inv_ℚ gcd ◌+ℚ◌ ◌*ℚ◌ is_bare_right is_bare_left is_bare_argument needs_quotes is_spaced infix_token pieces_at argument_pieces name_text is_apart
above_row =
    finished some_goals no_files text []
    (onward some_goals no_files text (Opening initial [])
    (further some_goals no_files text (Opening initial [])
    (further some_goals no_files text (Opening initial []) (walk some_goals no_files text []) [] plain_line (Searching holds (AQuery x_alone 10) here)
    (session.turns {s = told} {t = holds} (inl refl) (turn.keeps refl (both_settle 1 refl lower higher row other refl refl refl refl six inside))))
    (codes "{X>=5}\n" ++ answer_end) plain_line (Searching shown (AQuery x_alone 9) here) (session.answers {s = holds} {t = shown} {n = 8} (turn.answers refl) answer)))
    refl refl
