-- What rows at their greatest values refute, with the columns' members as weights.
use Rattle.std.proofs.Common.{◌≡◌, ℕ, ◌<◌, List, [], ◌∷◌, ◌++◌, length, Bool, true, false, Some, ◌⊎◌, inl, inr, refl, ap, sym, subst, ◌∙◌}
use Rattle.std.specs.Prelude.{IsSomeAnd}
use Rattle.std.proofs.lemmas.Option.{slice_get_within, same_Some}
use Rattle.spec_numbers.specs.Rational.{ℚ, 0ℚ, 1ℚ, neg_ℚ, IsPositive, IsNotNegative, ◌<ℚ◌}
use Rattle.spec_numbers.proofs.Sign.{pos_nonneg, pos_one}
use Rattle.spec_linear.specs.declared.Relation.{Relation}
use Rattle.spec_linear.specs.declared.Relation.TheVariants.{Eq, Gt, Ge, Ne}
use Rattle.spec_linear.specs.Form.{Linear, negated_form}
use Rattle.spec_linear.specs.Solution.{Constraint}
use Rattle.spec_linear.specs.Certificate.{member, Allows, SomeStrict, Refutes}
use Rattle.spec_projection.specs.Elimination.{IsInequality}
use Rattle.spec_simplex.specs.Entries.{row_entries, AllNumbered, IsNumbered}
use Rattle.spec_simplex.specs.Reach.{IsGreatest}
use Rattle.spec_simplex.specs.Tableau.{Tableau, Place, IsWritten, IsOptimal}
use Rattle.spec_simplex.proofs.Certificate.{once_refutes, apart_refutes}
use Rattle.spec_simplex.proofs.More.{one_top}
use Rattle.spec_simplex.proofs.TableauWritten.{top}
use Rattle.cq_form.specs.Entries.{products_of}
use Rattle.cq_frac.specs.declared.row.Entry.{Entry}
use Rattle.cq_frac.specs.Rows as rows
use Rattle.cq_dict.specs.declared.table.Role.{Role}
use Rattle.cq_dict.specs.declared.table.Role.TheVariants.{Basic}
use Rattle.cq_dict.specs.Roles.{Quantities, is_restricted, is_dropped}
use Rattle.cq_dict.proofs.Roles.{role_is, at_below}
use Rattle.cq_tableau.specs.declared.names.Name.{Name}
use Rattle.cq_tableau.specs.Forms.{row_of, form_at, tableau}
use Rattle.cq_tableau.specs.Keeps.{Speaks}
use Rattle.cq_tableau.specs.Refuted.{number_of, number_in, IsTooSmall}
use Rattle.cq_tableau.specs.Restored.{AreHighest, AreFormEntries}
use Rattle.cq_tableau.specs.Stored.{IsMemberOf, IsEquation, IsBetween}
use Rattle.cq_tableau.proofs.Steps.{flag_more, form_more, form_last, dropped_more}
use Rattle.cq_tableau.proofs.Tied.{optimal_of, entry_live}
use Rattle.cq_tableau.proofs.Restores.{made_speaks}

-- a form's row over numbered columns, with its constant and its entries
pub record Weighs (m : List Constraint) (number : ℕ → ℕ) (f : Linear) (v : ℚ) (found : List (ℕ × ℚ)) : Type 0 where
  pub table : Tableau
  pub written : IsWritten table
  pub place : Place table f
  pub numbered : IsNumbered table m number place.quantity
  pub constant : (table.row place.quantity).constant ≡ v
  pub is : row_entries number (table.row place.quantity) ≡ found

weakly_allows : (r : Relation) → IsInequality r → (v : ℚ) → IsNotNegative v → Allows r v
weakly_allows Eq w v h = absurd w
weakly_allows Gt w v h = h
weakly_allows Ge w v h = h
weakly_allows Ne w v h = absurd w

equation_allows : (r : Relation) → r ≡ Eq → (v : ℚ) → Allows r v
equation_allows Eq e v = tt
equation_allows Gt e v = cc
equation_allows Ge e v = cc
equation_allows Ne e v = cc

-- ---- a row behind the named quantities, in a list whose members stand in m too
module _ (l m : List Constraint) (more : (i : ℕ) (k : Constraint) → member l i ≡ Some k → member m i ≡ Some k) (names : List Name) (q : Quantities)
    (s : IsBetween l names q) (f : Linear) (old : List Role) (flags : List Bool) (e : flags ≡ q.restricted ++ false ∷ [])
    (speaks : Speaks (s.forms ++ f ∷ []) l old flags) (was : (z : ℕ) → is_dropped old z ≡ true → is_dropped q.roles z ≡ true)
    (found : List (ℕ × ℚ)) (h : AreHighest names (length q.roles) old flags found) where
  flag_here : (z : ℕ) → is_restricted flags z ≡ is_restricted q.restricted z
  flag_here z = ap (λ g. is_restricted g z) e ∙ flag_more q.restricted z

  member_numbered : (R : Relation → Type 0) (z : ℕ) (o : IsMemberOf R l names z) (v : ℚ) → Allows o.constraint.relation v
      → IsSomeAnd (member m (number_in names z)) (λ k. (k.form ≡ form_at (s.forms ++ f ∷ []) z) × Allows k.relation v)
  member_numbered R z o v a =
      let w = s.members z o.number o.named in
      let b : z < length s.forms = subst (λ y. z < y) (s.size ∙ sym s.keeps.describes.size) (slice_get_within names _ _ o.named) in
      subst (λ i. IsSomeAnd (member m i) (λ k. (k.form ≡ form_at (s.forms ++ f ∷ []) z) × Allows k.relation v)) (sym (ap number_of o.named))
      (subst (λ x. IsSomeAnd x (λ k. (k.form ≡ form_at (s.forms ++ f ∷ []) z) × Allows k.relation v)) (sym (more o.number o.constraint o.told_at))
      (ap (λ (x : Constraint). x.form) (same_Some o.constraint w.constraint (sym o.told_at ∙ w.told_at)) ∙ w.form_is ∙ sym (form_more s.forms f z b), a))

  all_live : (t : List Entry) → ((y : Entry) → rows.Has y (rows.negated t) → IsPositive y.factor)
      → ((y : Entry) → rows.Has y (rows.negated t) → is_restricted flags y.quantity ≡ true)
      → AllNumbered (tableau h.new flags (s.forms ++ f ∷ [])) m (number_in names) (products_of t)
  all_live [] p r = tt
  all_live (y ∷ t) p r =
      let n : Entry = record { quantity = y.quantity; factor = neg_ℚ y.factor } in
      let o = s.owned y.quantity (sym (flag_here y.quantity) ∙ r n (inl refl)) in (
        member_numbered IsInequality y.quantity o (neg_ℚ y.factor) (weakly_allows o.constraint.relation o.relation_is (neg_ℚ y.factor) (pos_nonneg (p n (inl refl)))),
        all_live t (λ w i. p w (inr i)) (λ w i. r w (inr i)),
      )

  equation_here : (z : ℕ) → is_dropped h.new z ≡ true → IsMemberOf IsEquation l names z
  equation_here z d = elim (s.dropped z (was z (h.highest.only z d))) [
    | inl g ↦ absurd (clash (is_restricted flags z) (flag_here z ∙ g) (h.highest.none z d))
    | inr o ↦ o
  ]
    where
      clash : (b : Bool) → b ≡ true → b ≡ false → ⊥
      clash b x y = cc

  all_dropped : (t : List Entry) → ((y : Entry) → rows.Has y t → is_dropped h.new y.quantity ≡ true)
      → AllNumbered (tableau h.new flags (s.forms ++ f ∷ [])) m (number_in names) (products_of t)
  all_dropped [] d = tt
  all_dropped (y ∷ t) d =
      let o = equation_here y.quantity (d y (inl refl)) in (
        member_numbered IsEquation y.quantity o (neg_ℚ y.factor) (equation_allows o.constraint.relation o.relation_is (neg_ℚ y.factor)),
        all_dropped t (λ w i. d w (inr i)),
      )

  now : Speaks (s.forms ++ f ∷ []) l h.new flags
  now = h.highest.speaks (s.forms ++ f ∷ []) l speaks

  last_form : form_at (s.forms ++ f ∷ []) (length q.roles) ≡ f
  last_form = ap (form_at (s.forms ++ f ∷ [])) (sym s.keeps.describes.size) ∙ form_last s.forms f

  there : length q.roles < length h.new
  there = at_below h.new (length q.roles) (Basic h.own) h.highest.is_row

  row_here : row_of (length q.roles) (Basic h.own) ≡ (tableau h.new flags (s.forms ++ f ∷ [])).row (length q.roles)
  row_here = ap (row_of (length q.roles)) (sym (role_is h.new (length q.roles) (Basic h.own) h.highest.is_row))

  own_greatest : IsGreatest l f h.own.constant
  own_greatest =
      let d = tableau h.new flags (s.forms ++ f ∷ []) in
      subst (λ g. IsGreatest l g h.own.constant) last_form
      (subst (λ r. IsGreatest l (form_at (s.forms ++ f ∷ []) (length q.roles)) r.constant) (sym row_here)
      (top d l now.sound (length q.roles) there
      (subst (λ r. IsOptimal d r.live) row_here (optimal_of h.new flags (s.forms ++ f ∷ []) h.own.live h.highest.positive h.highest.restricted))))

  pub weighs : (v : ℚ) → IsGreatest l f v → Weighs m (number_in names) f v found
  weighs v g =
      let d = tableau h.new flags (s.forms ++ f ∷ []) in
      record {
        table = d;
        written = now.sound.written;
        place = record { quantity = length q.roles; made = there; form_is = last_form };
        numbered = record {
          live = subst (λ r. AllNumbered d m (number_in names) r.live) row_here (all_live h.own.live h.highest.positive h.highest.restricted);
          dropped = subst (λ r. AllNumbered d m (number_in names) r.dropped) row_here
              (all_dropped h.own.dropped (λ y i. entry_live (is_dropped h.new) 0 h.own.dropped (now.table.rows (length q.roles) h.own h.highest.is_row).dropped_row y i));
        };
        constant = ap (λ r. r.constant) (sym row_here) ∙ one_top l f h.own.constant v own_greatest g;
        is = ap (row_entries (number_in names)) (sym row_here) ∙ sym h.is;
      }

-- a form's row that is made
pub form_weighs : (l m : List Constraint) → ((i : ℕ) (k : Constraint) → member l i ≡ Some k → member m i ≡ Some k) → (names : List Name) (q : Quantities)
    → IsBetween l names q → (f : Linear) (found : List (ℕ × ℚ)) → AreFormEntries names q f found → (v : ℚ) → IsGreatest l f v → Weighs m (number_in names) f v found
form_weighs l m more names q s f found a v g =
    weighs l m more names q s f a.mid.roles a.mid.restricted a.has_row.flags (made_speaks l names q s f a.mid a.has_row)
    (λ z d. sym (dropped_more q.roles (Basic a.has_row.row.row) refl z) ∙ ap (λ r. is_dropped r z) (sym a.has_row.row.last) ∙ d) found a.highest v g

-- ---- what they refute
module _ (m : List Constraint) (number : ℕ → ℕ) (c : Constraint) (i : ℕ) (at : member m i ≡ Some c) where
  -- an inequality of which this is the greatest value
  pub inequality_falls : IsInequality c.relation → (v : ℚ) (found : List (ℕ × ℚ)) → Weighs m number c.form v found → IsTooSmall c.relation v
      → Refutes ((i, 1ℚ) ∷ found) m
  inequality_falls k v found w small =
      subst (λ t. Refutes ((i, 1ℚ) ∷ t) m) w.is
      (once_refutes m w.table number w.written c.form w.place w.numbered i c at refl (λ r. subst IsInequality r k) (wrong small))
    where
      wrong : IsTooSmall c.relation v
          → ((w.table.row w.place.quantity).constant <ℚ 0ℚ)
          ⊎ (((w.table.row w.place.quantity).constant ≡ 0ℚ) × SomeStrict m ((i, 1ℚ) ∷ row_entries number (w.table.row w.place.quantity)))
      wrong (inl b) = inl (subst (λ x. x <ℚ 0ℚ) (sym w.constant) b)
      wrong (inr b) = inr (w.constant ∙ b.0, inl (subst (λ o. IsSomeAnd o (λ k. (k.relation ≡ Gt) × IsPositive 1ℚ)) (sym at) (b.1, pos_one)))

  -- a disequation whose form is zero
  pub disequation_falls : c.relation ≡ Ne → (up down : List (ℕ × ℚ)) → Weighs m number c.form 0ℚ up → Weighs m number (negated_form c.form) 0ℚ down
      → Refutes ((i, 1ℚ) ∷ up ++ (i, neg_ℚ 1ℚ) ∷ down) m
  disequation_falls k up down u d =
      subst (λ t. Refutes ((i, 1ℚ) ∷ t ++ (i, neg_ℚ 1ℚ) ∷ down) m) u.is
      (subst (λ t. Refutes ((i, 1ℚ) ∷ row_entries number (u.table.row u.place.quantity) ++ (i, neg_ℚ 1ℚ) ∷ t) m) d.is
      (apart_refutes u.table d.table m number u.written d.written c.form u.place d.place i
      (at ∙ ap (λ r. Some (record { relation = r; form = c.form })) k) u.numbered u.constant d.numbered d.constant))
