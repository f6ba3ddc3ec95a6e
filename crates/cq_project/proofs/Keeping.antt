-- What the steps up to the elimination keep of a list.
use Rattle.std.proofs.Common.{◌≡◌, ◌↔◌, inl, inr, ℕ, List, [], ◌∷◌, ◌++◌, refl, ap, sym, subst, ◌∙◌}
use Rattle.std.specs.Prelude.{map}
use Rattle.spec_numbers.specs.Sums.{Mentions}
use Rattle.spec_linear.specs.Solution.{Constraint, Solvable, Has, SomeMentions, MentionsOnly}
use Rattle.spec_linear.proofs.Lists.{solves_append}
use Rattle.spec_linear.proofs.Denominators.{has_left, has_right}
use Rattle.spec_linear.specs.Echelon.{Solved, AreDistinct, variables, equations, IsBefore, IsEchelon}
use Rattle.spec_linear.proofs.Orders.{in_order-has, mentions-has}
use Rattle.spec_projection.specs.Lists.{AreForms}
use Rattle.spec_projection.specs.Others.{AreAscending, AreOthers}
use Rattle.spec_projection.specs.Irredundant.{Sifts}
use Rattle.spec_projection.specs.Strict.{Strengthened}
use Rattle.spec_projection.specs.Substitution.{put_into}
use Rattle.spec_projection.specs.Projection.{is_inequality, is_disequation, inequalities_of, disequations_of, Keeps}
use Rattle.spec_projection.proofs.Members.{has_either, has_mapped, has_filtered}
use Rattle.spec_projection.proofs.Filled.{each}
use Rattle.spec_projection.proofs.Free.{mentions-with_forms_of}
use Rattle.spec_projection.proofs.Mentions.{some_mentions, mentioning}
use Rattle.spec_projection.proofs.PutIn.{put_inequalities, put_disequations, put_in_alike}
use Rattle.spec_projection.proofs.Sifted.{sublist_has, sifted_sublist}
use Rattle.spec_projection.proofs.Standing.{has_or_not}
use Rattle.spec_projection.proofs.Strong.{strengthened_alike, strengthened_from}
use Rattle.spec_simplex.specs.Answers.{Strengthens}
use Rattle.cq_equations.specs.Told.{numbers_of}
use Rattle.cq_equations.specs.Rows.{equations_of}
use Rattle.cq_project.proofs.Parts.{solvable_part}
use Rattle.cq_project.specs.declared.keep.Kept.{Kept}
use Rattle.cq_project.specs.Variables.{solved_for}
use Rattle.cq_project.specs.Keeping.{IsKept}
use Rattle.cq_project.proofs.Listing.{order_distinct, order_all}
use Rattle.cq_project.proofs.Parted.{solved_for_others, parted, others_in_front, targets_solved}

-- ---- rows with the equations put in
module _ (order : List ℕ) (l : List Constraint) (es : List Solved) (distinct : AreDistinct order) (only : MentionsOnly order l) (echelon : IsEchelon order l es) where
  abbrev ordered : List Constraint
  ordered = map (put_into es) (inequalities_of l)

  abbrev unequal : List Constraint
  unequal = map (put_into es) (disequations_of l)

  -- they hold together
  pub put_solvable : Solvable l → Solvable (ordered ++ unequal)
  put_solvable s = (s.0, ((solves_append s.0 (equations es) (ordered ++ unequal)).0 ((put_in_alike order l es distinct echelon only s.0).1 s.1)).1)

  form_over : (e : Solved) → Has e es → (y : ℕ) → Mentions y e.form.products → Has y order
  form_over e h y m =
      in_order-has order (e.variable ∷ variables e.form.products) (each (λ d. IsBefore order d.variable d.form.products) es echelon.first e h).ordered y
      (inr (mentions-has y e.form.products m))

  -- and mention variables of the order
  pub put_over : (k : List Constraint) → ((c : Constraint) → Has c k → Has c l) → MentionsOnly order (map (put_into es) k)
  put_over k within y u =
      let t = mentioning y (map (put_into es) k) u in
      let s = has_mapped (put_into es) t.row k t.among in
      mentions-with_forms_of (λ z. Has z order) es s.from.form form_over (λ z m n. only z (some_mentions z l s.from (within s.from s.member) m)) y
      (subst (λ c. Mentions y c.form.products) s.is t.mentions)

  pub ordered_over : MentionsOnly order ordered
  ordered_over = put_over (inequalities_of l) (λ c h. (has_filtered (λ d. is_inequality d.relation) c l h).0)

  pub unequal_over : MentionsOnly order unequal
  unequal_over = put_over (disequations_of l) (λ c h. (has_filtered (λ d. is_disequation d.relation) c l h).0)

-- ---- strict rows beside disequations
pub strict_solvable : (ds rows strict : List Constraint) → Strengthened ds rows strict → Solvable (rows ++ ds) → Solvable (strict ++ ds)
strict_solvable ds rows strict s v = (v.0, (strengthened_alike ds rows strict s v.0).1 v.1)

-- ---- the record
module _ (targets front : List ℕ) (l : List Constraint) (es : List Solved) (k : Kept)
    (solvable : Solvable l) (forms : AreForms l) (distinct : AreDistinct targets) (others : AreOthers targets l front)
    (echelon : IsEchelon (front ++ targets) l es)
    (strengthens : Strengthens l es k.inequalities.items)
    (sifts : Sifts k.inequalities.items [] (map (put_into es) (disequations_of l)) k.disequations.items)
    (equations_are : equations_of k.equations.items ≡ solved_for targets es)
    (older_first : AreAscending (numbers_of k.variables.items))
    (chosen : (x : ℕ) → Has x (numbers_of k.variables.items) ↔ (SomeMentions x k.disequations.items × (Has x targets → ⊥)))
    (rest : (x : ℕ) → Has x (numbers_of k.rest.items) ↔ (Has x front × (Has x (numbers_of k.variables.items) → ⊥))) where
  abbrev kept : List ℕ
  kept = numbers_of k.variables.items

  abbrev strict : List Constraint
  strict = k.inequalities.items

  abbrev left : List Constraint
  left = k.disequations.items

  order_apart : AreDistinct (front ++ targets)
  order_apart = order_distinct targets front l others distinct

  over_all : MentionsOnly (front ++ targets) l
  over_all = order_all targets front l others

  split : solved_for_others targets es ++ equations_of k.equations.items ≡ es
  split = ap (λ w. solved_for_others targets es ++ w) equations_are ∙ parted front targets order_apart es echelon.sorted

  left_among : (c : Constraint) → Has c left → Has c (map (put_into es) (disequations_of l))
  left_among = sublist_has left (map (put_into es) (disequations_of l)) (sifted_sublist strict (map (put_into es) (disequations_of l)) left sifts)

  left_over : MentionsOnly (front ++ targets) left
  left_over x m =
      let t = mentioning x left m in
      unequal_over (front ++ targets) l es order_apart over_all echelon x (some_mentions x (map (put_into es) (disequations_of l)) t.row (left_among t.row t.among) t.mentions)

  kept_from : (x : ℕ) → Has x kept → Has x front × SomeMentions x left
  kept_from x h =
      let c = (chosen x).0 h in
      (elim (has_either x front targets (left_over x c.0)) [ inl i ↦ i | inr i ↦ absurd (c.1 i) ], c.0)

  keeps : Keeps front targets kept l (equations_of k.equations.items)
  keeps = record {
    others = solved_for_others targets es;
    echelon = subst (IsEchelon (front ++ targets) l) (sym split) echelon;
    others_in_front = others_in_front front targets order_apart es echelon.sorted;
    solved_targets = λ x h. targets_solved front targets order_apart es x (subst (λ w. Has x (map (λ e. e.variable) w)) equations_are h);
    strict = strict;
    strengthened = subst (λ w. Strengthened (map (put_into w) (disequations_of l)) (map (put_into w) (inequalities_of l)) strict) (sym split) strengthens;
    left = left;
    unequal = subst (λ w. Sifts strict [] (map (put_into w) (disequations_of l)) left) (sym split) sifts;
    kept_all = λ x m. elim (has_or_not x targets) [ inl h ↦ has_left x targets kept h | inr n ↦ has_right x targets kept ((chosen x).1 (m, n)) ];
    kept_only = kept_from;
  }

  strict_over : MentionsOnly (numbers_of k.rest.items ++ (targets ++ kept)) strict
  strict_over x m =
      let t = mentioning x strict m in
      let s = strengthened_from (map (put_into es) (disequations_of l)) (map (put_into es) (inequalities_of l)) strict strengthens t.row t.among in
      let among = some_mentions x (map (put_into es) (inequalities_of l)) s.row s.among (subst (λ f. Mentions x f.products) s.form t.mentions) in
      elim (has_either x front targets (ordered_over (front ++ targets) l es order_apart over_all echelon x among)) [
        | inl i ↦ elim (has_or_not x kept) [
          | inl h ↦ has_right x (numbers_of k.rest.items) (targets ++ kept) (has_right x targets kept h)
          | inr n ↦ has_left x (numbers_of k.rest.items) (targets ++ kept) ((rest x).1 (i, n))
        ]
        | inr i ↦ has_right x (numbers_of k.rest.items) (targets ++ kept) (has_left x targets kept i)
      ]

  rest_apart : (x : ℕ) → Has x (numbers_of k.rest.items) → Has x (targets ++ kept) → ⊥
  rest_apart x h i =
      let r = (rest x).0 h in
      elim (has_either x targets kept i) [ inl t ↦ ((others.others x).0 r.0).1 t | inr n ↦ r.1 n ]

  pub is_kept : IsKept targets l k
  unfolding keeps
  is_kept = record {
    es = es;
    leaves = record {
      front = front;
      others = others;
      solved_targets = equations_of k.equations.items;
      keeps = keeps;
      equations = sym split;
      strict_is = refl;
    };
    equations_are = refl;
    left = refl;
    older_first = older_first;
    forms = forms;
    distinct = order_apart;
    all = over_all;
    inequalities = λ c h.
        let s = strengthened_from (map (put_into es) (disequations_of l)) (map (put_into es) (inequalities_of l)) strict strengthens c h in
        s.inequality (put_inequalities es l s.row s.among);
    disequations = λ c h. put_disequations es l c (left_among c h);
    solvable =
        solvable_part (strict ++ left) (strict ++ map (put_into es) (disequations_of l))
        (λ c h. elim (has_either c strict left h) [
          | inl i ↦ has_left c strict (map (put_into es) (disequations_of l)) i
          | inr i ↦ has_right c strict (map (put_into es) (disequations_of l)) (left_among c i)
        ])
        (strict_solvable (map (put_into es) (disequations_of l)) (map (put_into es) (inequalities_of l)) strict strengthens
        (put_solvable (front ++ targets) l es order_apart over_all echelon solvable));
    apart = rest_apart;
    over = strict_over;
  }
