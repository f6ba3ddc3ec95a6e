-- Answers of branches without linear constraints, and of lists without disequations, for which no variable is kept.
use Rattle.std.proofs.Common.{◌≡◌, ℕ, List, [], ◌∷◌, ◌++◌, map, refl, sym, subst}
use Rattle.spec_numbers.proofs.Places.{nothing_within}
use Rattle.spec_linear.specs.Form.{Linear}
use Rattle.spec_linear.specs.Solution.{Constraint, Has, MentionsOnly, Same}
use Rattle.spec_linear.proofs.Denominators.{extends}
use Rattle.spec_linear.specs.Echelon.{Solved, IsEchelon}
use Rattle.spec_syntax.specs.Operators.{Ops}
use Rattle.spec_syntax.specs.TextTokens.{VariableName}
use Rattle.spec_projection.specs.Others.{AreOthers}
use Rattle.spec_projection.specs.Substitution.{put_into, solved_variables}
use Rattle.spec_projection.specs.Strict.{HasForm, Strengthened, no_more, left_alone}
use Rattle.spec_projection.specs.Irredundant.{Sifts, done}
use Rattle.spec_projection.specs.Projection.{Keeps, inequalities_of, disequations_of}
use Rattle.spec_branch.specs.Branch.{State}
use Rattle.spec_answers.specs.Lines.{or_true, lines_text}
use Rattle.spec_answers.specs.Rows.{no_rows}
use Rattle.spec_answers.specs.Forms.{AreAnswerRows}
use Rattle.spec_answers.specs.Targets.{wanted}
use Rattle.spec_answers.specs.Answer.{AnswerForm, answer_lines}

-- ---- lists without disequations

no_form : (f : Linear) → HasForm f [] → ⊥
no_form f h = h.among

none_strict : (l : List Constraint) → Strengthened [] l l
none_strict [] = no_more
none_strict (c ∷ l) = left_alone (λ e h. no_form c.form h) (none_strict l)

-- where no disequation is told, no variable is kept beside the targets
pub keeps_nothing : (front targets : List ℕ) (l : List Constraint) (others es : List Solved) → disequations_of l ≡ [] → IsEchelon (front ++ targets) l (others ++ es)
    → ((x : ℕ) → Has x (solved_variables others) → Has x front) → ((x : ℕ) → Has x (solved_variables es) → Has x targets) → Keeps front targets [] l es
keeps_nothing front targets l others es none echelon in_front of_targets = record {
  others = others;
  echelon = echelon;
  others_in_front = in_front;
  solved_targets = of_targets;
  strict = map (put_into (others ++ es)) (inequalities_of l);
  strengthened = subst (λ ds. Strengthened (map (put_into (others ++ es)) ds) (map (put_into (others ++ es)) (inequalities_of l)) (map (put_into (others ++ es)) (inequalities_of l))) (sym none)
      (none_strict (map (put_into (others ++ es)) (inequalities_of l)));
  left = map (put_into (others ++ es)) (disequations_of l);
  unequal = subst (λ ds. Sifts (map (put_into (others ++ es)) (inequalities_of l)) [] (map (put_into (others ++ es)) ds) (map (put_into (others ++ es)) ds)) (sym none) done;
  kept_all = subst (λ ds. MentionsOnly (targets ++ []) (map (put_into (others ++ es)) ds)) (sym none) (λ x h. absurd h);
  kept_only = λ x h. absurd h;
}

-- ---- lists without a constraint

no_others : (targets : List ℕ) → AreOthers targets [] []
no_others targets = record { youngest_first = tt; others = λ x. (λ h. absurd h, λ h. h.0) }

no_equations : (order : List ℕ) → IsEchelon order [] []
no_equations order = record { first = tt; sorted = tt; reduced = tt; entailed = tt; complete = λ f over e. e }

same : (order : List ℕ) → Same order [] []
same order = record { mentions = λ x h. absurd h; same = λ a. (λ h. extends order a [] h, λ h. tt) }

pub no_answer_rows : (order : List ℕ) → AreAnswerRows order [] no_rows
no_answer_rows order = record {
  projected = record {
    echelon = no_equations order;
    unsolved = λ c h. absurd h;
    irredundant = λ k m c e follows. nothing_within k m c e;
    strict = λ c h. absurd h;
    same = same order;
  };
  scaled_inequalities = tt;
  scaled_disequations = tt;
  sorted_inequalities = tt;
  sorted_disequations = tt;
}

pub plain_answer : (ops : Ops) (names : List VariableName) (st : State) → st.linear ≡ []
    → AnswerForm ops names st (lines_text (or_true (answer_lines ops names st (wanted names st ++ []) no_rows)))
plain_answer ops names st e = record {
  front = [];
  others = subst (λ l. AreOthers (wanted names st) l []) (sym e) (no_others (wanted names st));
  kept = [];
  older_first = tt;
  rows = no_rows;
  keeps = subst (λ l. Keeps [] (wanted names st) [] l []) (sym e) (keeps_nothing [] (wanted names st) [] [] [] refl (no_equations (wanted names st)) (λ x h. absurd h) (λ x h. absurd h));
  form = subst (λ l. AreAnswerRows (wanted names st ++ []) l no_rows) (sym e) (no_answer_rows (wanted names st ++ []));
  lines = refl;
}
