-- What is refused while equations that follow from a list are solved, or put into its other rows, is refused while an answer is
-- made of the list.
use Rattle.std.proofs.Common.{◌≡◌, inl, inr, ℕ, List, [], ◌∷◌, ◌++◌, refl, ap, sym, subst, ◌∙◌, append-nil}
use Rattle.std.specs.List.{AllByRecursion}
use Rattle.spec_numbers.specs.Rational.{ℚ, ◌+ℚ◌, ◌*ℚ◌, neg_ℚ}
use Rattle.spec_numbers.specs.Sums.{Monomial, Mentions, unit, factor_of}
use Rattle.spec_numbers.proofs.Ring.{var, ◌⊕◌, ◌⊗◌, minus}
use Rattle.spec_numbers.proofs.RationalLemmas.{ring}
use Rattle.spec_numbers.proofs.Sums.{factor_of-is}
use Rattle.spec_linear.specs.declared.Relation.{Relation}
use Rattle.spec_linear.specs.declared.Relation.TheVariants.{Eq, Gt, Ge, Ne}
use Rattle.spec_linear.specs.Form.{Linear, IsForm, value_at, variable_form, scaled_form}
use Rattle.spec_linear.specs.Solution.{Constraint, Holds, HoldsAt, Point, number, Solves, Solvable, AreEquations, Entails, Has, SomeMentions, MentionsOnly, equal_zero}
use Rattle.spec_linear.proofs.Points.{solves_same}
use Rattle.spec_linear.proofs.Denominators.{has_left}
use Rattle.spec_linear.proofs.Values.{value_at-variable_form, value_at-scaled_form}
use Rattle.spec_linear.proofs.Ordered.{IsForm-scaled_form}
use Rattle.spec_linear.specs.Echelon.{Solved, AreDistinct, IsEchelon}
use Rattle.spec_projection.proofs.Members.{has_image}
use Rattle.spec_projection.proofs.Mentions.{some_mentions}
use Rattle.spec_simplex.specs.LimitsDictionary.{variable, IsQuantity, SomeFormMentions, IsDictionary, without_disequations, in_front_unless_disequation}
use Rattle.spec_simplex.specs.Asked.{IsAsked, of_member, of_variable, alone}
use Rattle.spec_simplex.specs.Answers.{beginning, IsAnswerMember, AsksMember, IsAnswerRow}
use Rattle.spec_simplex.specs.Overflow.{Moment, answering, in_answer, constant, column, Adding, Makes, scaled, added, OverflowDue}
use Rattle.cq_frac.specs.declared.Operation.{Operation}
use Rattle.cq_frac.specs.declared.Operation.TheVariants.{Sum, Product as Times}
use Rattle.cq_frac.specs.declared.Pair.{Pair}
use Rattle.cq_form.specs.Steps.{HasCoefficient, coefficients, constants, SumPair, ScalePair, coefficient}
use Rattle.cq_form.specs.Steps.{of_variable as common, of_variable as multiple, constant as constant_pair}
use Rattle.cq_form.proofs.Forms.{coefficient_is}
use Rattle.cq_equations.specs.Contents.{variable_forms}
use Rattle.cq_project.specs.Answering.{IsRefusedAnswering}
use Rattle.cq_project.specs.Putting.{value_of, PutsPair, scales, adds, PutsInForm, PutsInSome}
use Rattle.cq_project.proofs.Places.{AreAmong, among_front, mentioned_there}
use Rattle.cq_project.proofs.Weakly.{holds_without}
use Rattle.cq_project.proofs.Pairs.{answered, refused_there}
use Rattle.cq_project.proofs.Free.{columns_of, zeros_of, expression_of, over_free, form_written, free_dictionary}

-- the variables of forms of variables
of_variables : (xs : List ℕ) (x : ℕ) → SomeFormMentions x (variable_forms xs) → Has x xs
of_variables [] x h = absurd h
of_variables (y ∷ xs) x (inl h) = inl (elim h [ inl e ↦ e | inr n ↦ absurd n ])
of_variables (y ∷ xs) x (inr h) = inr (of_variables xs x h)

variables_asked : (xs : List ℕ) (x : ℕ) → Has x xs → SomeFormMentions x (variable_forms xs)
variables_asked [] x h = absurd h
variables_asked (y ∷ xs) x (inl e) = inl (inl e)
variables_asked (y ∷ xs) x (inr h) = inr (variables_asked xs x h)

mentions_of : (x : ℕ) (q : ℚ) (s : List Monomial) → HasCoefficient x q s → Mentions x s
mentions_of x q [] h = absurd h
mentions_of x q (m ∷ s) (inl e) = inl (ap (λ z. z.variable) e)
mentions_of x q (m ∷ s) (inr h) = inr (mentions_of x q s h)

factor_scaled : (k : ℚ) (f : Linear) (x : ℕ) → factor_of x (scaled_form k f).products ≡ k *ℚ factor_of x f.products
factor_scaled k f x =
    let g : Linear = scaled_form k f in
    let w : g.constant +ℚ factor_of x g.products ≡ k *ℚ (f.constant +ℚ factor_of x f.products) =
    ap (λ r. g.constant +ℚ r) (factor_of-is x g.products) ∙ value_at-scaled_form (unit x) k f ∙ ap (λ r. k *ℚ (f.constant +ℚ r)) (sym (factor_of-is x f.products)) in
    ring (g.constant ∷ factor_of x g.products ∷ []) (var 1) (minus (var 0) ⊕ (var 0 ⊕ var 1)) refl ∙ ap (λ r. neg_ℚ g.constant +ℚ r) w
    ∙ ring (k ∷ f.constant ∷ factor_of x f.products ∷ []) (minus (var 0 ⊗ var 1) ⊕ var 0 ⊗ (var 1 ⊕ var 2)) (var 0 ⊗ var 2) refl

-- ---- over the equations alone
module _ (order : List ℕ) (eqs : List Constraint) (es : List Solved) (distinct : AreDistinct order) (are_equations : AreEquations eqs)
    (echelon : IsEchelon order eqs es) (only : MentionsOnly order eqs) where
  module _ (f : Linear) (over : (x : ℕ) → Mentions x f.products → Has x order) where
    abbrev moment : Moment
    moment = record { stage = answering; list = eqs; asked = f ∷ variable_forms order; operations = []; rows = [] }

    known : (x : ℕ) → IsQuantity eqs (f ∷ variable_forms order) (variable x) → Has x order
    known x (inl h) = only x h
    known x (inr h) = elim h [ inl m ↦ over x m | inr m ↦ of_variables order x m ]

    dictionary : IsDictionary eqs (f ∷ variable_forms order) (zeros_of eqs) (columns_of es order)
    dictionary =
        free_dictionary order eqs es distinct are_equations echelon only (f ∷ variable_forms order) known (λ x h. inr (variables_asked order x h))

    module _ (pair : Pair) (p : PutsInForm es f pair) where
      abbrev earlier_form : Linear
      earlier_form = record { products = p.earlier; constant = f.constant }

      mentioned_before : (s : List Monomial) (t : List Monomial) (x : ℕ) → Mentions x s → Mentions x (s ++ t)
      mentioned_before [] t x h = absurd h
      mentioned_before (m ∷ s) t x (inl e) = inl e
      mentioned_before (m ∷ s) t x (inr h) = inr (mentioned_before s t x h)

      mentioned_there_too : (s : List Monomial) (m : Monomial) (t : List Monomial) → Mentions m.variable (s ++ m ∷ t)
      mentioned_there_too [] m t = inl refl
      mentioned_there_too (n ∷ s) m t = inr (mentioned_there_too s m t)

      over_earlier : (x : ℕ) → Mentions x p.earlier → Has x order
      over_earlier x m = over x (subst (Mentions x) (sym p.split) (mentioned_before p.earlier (p.now ∷ p.later) x m))

      over_now : (x : ℕ) → Mentions x (variable_form p.now.variable).products → Has x order
      over_now x m = elim m [
        | inl e ↦ subst (λ y. Has y order) (sym e) (over p.now.variable (subst (Mentions p.now.variable) (sym p.split) (mentioned_there_too p.earlier p.now p.later)))
        | inr n ↦ absurd n
      ]

      module _ (row : Linear) (ordered : IsForm row) (values : (a : ℕ → ℚ) → value_at a row ≡ value_of es a p.now.variable) where
        row_values : (a : ℕ → ℚ) → value_at a row ≡ value_at (value_of es a) (variable_form p.now.variable)
        row_values a = values a ∙ sym (value_at-variable_form (value_of es a) p.now.variable)

        abbrev adding : Adding moment
        adding = record {
          zeros = zeros_of eqs;
          columns = columns_of es order;
          in_use = in_answer refl dictionary;
          form = f;
          is_asked = inl refl;
          ordered = p.ordered;
          earlier = p.earlier;
          now = p.now;
          later = p.later;
          split = p.split;
          numbers = expression_of row;
          written = form_written order eqs es distinct are_equations echelon only (variable_form p.now.variable) row over_now ordered row_values;
          before = expression_of p.before;
          gave = form_written order eqs es distinct are_equations echelon only earlier_form p.before over_earlier p.before_ordered p.gave;
        }

        in_row : (y : ℕ) → Mentions y row.products → Has (variable y) (columns_of es order)
        in_row y m = has_image variable y _ (over_free order eqs es distinct are_equations echelon only (variable_form p.now.variable) row over_now ordered row_values y m)

        in_before : (y : ℕ) → Mentions y p.before.products → Has (variable y) (columns_of es order)
        in_before y m = has_image variable y _ (over_free order eqs es distinct are_equations echelon only earlier_form p.before over_earlier p.before_ordered p.gave y m)

        scales_made : {o : Operation} {l r : ℚ} → ScalePair p.now.factor row o l r → Makes moment o l r
        scales_made (coefficient q (multiple y h)) =
            subst (λ z. Makes moment Times p.now.factor z) (coefficient_is 0 y q row.products ordered h)
            (scaled adding (column (variable y)) (in_row y (mentions_of y q row.products h)))
        scales_made constant_pair = scaled adding constant tt

        adds_made : {o : Operation} {l r : ℚ} → SumPair p.before (scaled_form p.now.factor row) o l r → Makes moment o l r
        adds_made (coefficients l r (common y h k)) =
            subst (λ z. Makes moment Sum z r) (coefficient_is 0 y l p.before.products p.before_ordered h)
            (subst (λ z. Makes moment Sum (factor_of y p.before.products) z)
            (sym (factor_scaled p.now.factor row y) ∙ coefficient_is 0 y r (scaled_form p.now.factor row).products (IsForm-scaled_form p.now.factor row ordered) k)
            (added adding (column (variable y)) (in_before y (mentions_of y l p.before.products h))))
        adds_made constants = added adding constant tt

      puts_due : PutsPair es p.before p.now.variable p.now.factor pair → OverflowDue moment pair
      puts_due (scales row ordered values h refused) = record { made = scales_made row ordered values h; refused = refused }
      puts_due (adds row ordered values h refused) = record { made = adds_made row ordered values h; refused = refused }

      pub due : OverflowDue moment pair
      due = puts_due p.puts

-- ---- over the list
all_variables : (targets : List ℕ) (told : List Constraint) (xs : List ℕ)
    → AllByRecursion (IsAsked told (IsAnswerMember targets told) (AsksMember targets told)) (variable_forms xs)
all_variables targets told [] = tt
all_variables targets told (x ∷ xs) = (of_variable x, all_variables targets told xs)

module _ (targets order : List ℕ) (told eqs : List Constraint) (solvable : Solvable told) (all : MentionsOnly order told) (among : AreAmong eqs told)
    (are_equations : AreEquations eqs) (entailed : (c : Constraint) → Has c eqs → Entails told c) where
  over_order : (c : Constraint) → Has c told → (x : ℕ) → Mentions x c.form.products → Has x order
  over_order c h x m = all x (some_mentions x told c h m)

  equations_only : MentionsOnly order eqs
  equations_only x h = all x (mentioned_there eqs told among x h)

  relation_of : (c : Constraint) → Has c eqs → c.relation ≡ Eq
  relation_of c h = by eqs are_equations h
    where
      by : (l : List Constraint) → AreEquations l → Has c l → c.relation ≡ Eq
      by [] e h = absurd h
      by (d ∷ l) e (inl w) = ap (λ z. z.relation) w ∙ e.0
      by (d ∷ l) e (inr k) = by l e.1 k

  -- a beginning of the equations holds where the list does without its disequations
  follows : (front back : List Constraint) → eqs ≡ front ++ back → (p : Point) → Solves p (without_disequations told) → Solves p (without_disequations front)
  follows front back split p s = fewer front (λ c h. h)
    where
      v : ℕ → ℚ
      v = number p

      holds : (c : Constraint) → Has c front → HoldsAt v c
      holds c h =
          let k : Has c eqs = subst (Has c) (sym split) (has_left c front back h) in
          let same : equal_zero c.form ≡ c = ap (λ r. record { relation = r; form = c.form }) (sym (relation_of c k)) in
          subst (HoldsAt v) same
          (holds_without told solvable c.form (subst (Entails told) (sym same) (entailed c k)) v ((solves_same p (without_disequations told)).0 s))

      with_it : (r : Relation) (c : Constraint) (l : List Constraint) → Holds p c → Solves p l → Solves p (in_front_unless_disequation r c l)
      with_it Eq c l h s = (h, s)
      with_it Gt c l h s = (h, s)
      with_it Ge c l h s = (h, s)
      with_it Ne c l h s = s

      fewer : (l : List Constraint) → ((c : Constraint) → Has c l → Has c front) → Solves p (without_disequations l)
      fewer [] i = tt
      fewer (c ∷ l) i = with_it c.relation c (without_disequations l) ((solves_same p (c ∷ [])).1 (holds c (i c (inl refl)), tt)).0 (fewer l (λ d h. i d (inr h)))

  -- a moment with the forms of the variables and one of a member
  module _ (m : Moment) (no_operations : m.operations ≡ []) (no_rows : m.rows ≡ []) (front back : List Constraint) (split : eqs ≡ front ++ back) (is : m.list ≡ front)
      (c : Constraint) (member : Has c told) (xs : List ℕ) (stays : (x : ℕ) → Has x order → Has x xs) (asks : m.asked ≡ c.form ∷ variable_forms xs) where
    here : AreAmong m.list told
    here = subst (λ l. AreAmong l told) (sym is) (among_front front back eqs told among split)

    knows : (x : ℕ) → SomeMentions x told → IsQuantity m.list m.asked (variable x)
    knows x h = inr (subst (SomeFormMentions x) (sym asks) (inr (variables_asked xs x (stays x (all x h)))))

    holds_too : (p : Point) → Solves p (without_disequations told) → Solves p (without_disequations m.list)
    holds_too p s = subst (λ l. Solves p (without_disequations l)) (sym is) (follows front back split p s)

    pub refused_so : (pair : Pair) → OverflowDue m pair → IsRefusedAnswering targets told pair
    refused_so pair d = record {
      moment = answered m told here knows holds_too;
      of_answer = record {
        stage = refl;
        list = told;
        is_list = beginning told [] (sym (append-nil told));
        in_force = alone;
        asked = subst (AllByRecursion (IsAsked told (IsAnswerMember targets told) (AsksMember targets told))) (sym asks) (of_member c member, all_variables targets told xs);
        rows = subst (AllByRecursion (IsAnswerRow targets told)) (sym no_rows) tt;
        operations = no_operations;
      };
      due = refused_there m told here knows holds_too pair d;
    }

  -- ---- while the equations are put into members of the list
  module _ (es : List Solved) (distinct : AreDistinct order) (echelon : IsEchelon order eqs es) (rows : List Constraint) (members : (c : Constraint) → Has c rows → Has c told) where
    pub putting_refused : (pair : Pair) → PutsInSome es rows pair → IsRefusedAnswering targets told pair
    putting_refused pair p =
        let h = members p.row p.member in
        refused_so (moment order eqs es distinct are_equations echelon equations_only p.row.form (over_order p.row h)) refl refl eqs [] (sym (append-nil eqs)) refl p.row h order (λ x k. k) refl
        pair (due order eqs es distinct are_equations echelon equations_only p.row.form (over_order p.row h) pair p.puts)
