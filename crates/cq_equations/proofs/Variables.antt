-- A new variable joins: it is a live column of its own.
use Rattle.std.proofs.Common.{◌≡◌, ℕ, zero, suc, ◌+◌, ◌<◌, List, [], ◌∷◌, ◌++◌, length, true, nat_eq, arith, refl, ap, ap₂, sym, subst, ◌∙◌, ◌⊎◌, inl, inr, length-append}
use Rattle.spec_numbers.specs.Rational.{ℚ, ◌+ℚ◌}
use Rattle.spec_numbers.specs.Sums.{Mentions}
use Rattle.spec_linear.specs.Solution.{Constraint, Has, SomeMentions}
use Rattle.spec_linear.proofs.Denominators.{has_left, has_right}
use Rattle.spec_linear.proofs.Values.{value_at-variable_form}
use Rattle.spec_simplex.specs.LimitsDictionary.{Quantity, variable, member, member_at, IsQuantity, amount}
use Rattle.spec_linear.specs.Echelon.{AreDistinct}
use Rattle.spec_linear.proofs.Filled.{value_at-agrees}
use Rattle.cq_frac.specs.declared.VarId.{VarId}
use Rattle.cq_frac.specs.Row.{Row}
use Rattle.cq_frac.specs.Rows.{choose}
use Rattle.cq_frac.specs.Numbers.{IsOver}
use Rattle.cq_frac.proofs.Units.{row_weaker}
use Rattle.cq_dict.specs.declared.table.Role.{Role}
use Rattle.cq_dict.specs.declared.table.Role.TheVariants.{Live, Dropped, Basic}
use Rattle.cq_dict.specs.Roles.{IsAt, is_live, is_dropped, IsMet}
use Rattle.cq_equations.specs.declared.table.Name.TheVariants.{Variable}
use Rattle.cq_equations.specs.Describes.{Agree, Describes}
use Rattle.cq_equations.specs.Contents.{Named, AreNamed, IsNamed, IsStored, variables_of, place_of, variable_forms}
use Rattle.cq_dict.proofs.Roles.{role_live, role_dropped, live_at, dropped_at, at_last, at_below}
use Rattle.cq_equations.proofs.Roles.{at_append, append_back}
use Rattle.cq_dict.proofs.Free.{sum_agrees}
use Rattle.cq_equations.proofs.Dictionary.{has_either}
use Rattle.cq_equations.proofs.Names.{named_more, named_last, place_more, place_last, member_more, variables_of-append, members_in-append}
use Rattle.cq_equations.proofs.Solved.{forms_mention, mentioned_form}
use Rattle.spec_numbers.proofs.Tests.{nat_eq-self, nat_eq-apart}

-- the values of a, but q at x
abbrev put : ℕ → ℚ → (ℕ → ℚ) → ℕ → ℚ
put x q a y = choose (nat_eq y x) q (a y)

put_self : (x : ℕ) (q : ℚ) (a : ℕ → ℚ) → put x q a x ≡ q
put_self x q a = ap (λ b. choose b q (a x)) (nat_eq-self x)

put_other : (x : ℕ) (q : ℚ) (a : ℕ → ℚ) (y : ℕ) → (y ≡ x → ⊥) → put x q a y ≡ a y
put_other x q a y n = ap (λ b. choose b q (a y)) (nat_eq-apart y x n)

pub has_end : (y : ℕ) (s : List ℕ) (x : ℕ) → Has y (s ++ x ∷ []) → Has y s ⊎ (y ≡ x)
has_end y [] x (inl e) = inr e
has_end y [] x (inr h) = absurd h
has_end y (z ∷ s) x (inl e) = inl (inl e)
has_end y (z ∷ s) x (inr h) = elim (has_end y s x h) [ inl k ↦ inl (inr k) | inr e ↦ inr e ]

distinct-end : (s : List ℕ) (x : ℕ) → AreDistinct s → (Has x s → ⊥) → AreDistinct (s ++ x ∷ [])
distinct-end [] x d n = ((λ h. h), tt)
distinct-end (y ∷ s) x d n = ((λ h. elim (has_end y s x h) [ inl k ↦ d.0 k | inr e ↦ n (inl (sym e)) ]), distinct-end s x d.1 (λ h. n (inr h)))

pub member_mentions : (z : ℕ) (l : List Constraint) (i : ℕ) → i < length l → Mentions z (member_at l i).form.products → SomeMentions z l
member_mentions z [] i h m = absurd (omega arith)
member_mentions z (c ∷ l) zero h m = inl m
member_mentions z (c ∷ l) (suc i) h m = inr (member_mentions z l i (omega arith) m)

-- ---- more roles

pub live_more : (roles more : List Role) (c : ℕ) → is_live roles c ≡ true → is_live (roles ++ more) c ≡ true
live_more roles more c h = live_at (roles ++ more) c Live (at_append roles more c Live (role_live roles c h))

pub dropped_more : (roles more : List Role) (c : ℕ) → is_dropped roles c ≡ true → is_dropped (roles ++ more) c ≡ true
dropped_more roles more c h = dropped_at (roles ++ more) c Dropped (at_append roles more c Dropped (role_dropped roles c h))

pub over_more : (roles more : List Role) (r : Row) → IsOver (is_live roles) (is_dropped roles) r → IsOver (is_live (roles ++ more)) (is_dropped (roles ++ more)) r
over_more roles more r o = record {
  live_row = row_weaker (is_live roles) (is_live (roles ++ more)) 0 r.live (live_more roles more) o.live_row;
  dropped_row = row_weaker (is_dropped roles) (is_dropped (roles ++ more)) 0 r.dropped (dropped_more roles more) o.dropped_row;
}

module _ (t : Named) (named : AreNamed t) (v : VarId) (new : Has v.0 (variables_of t.names) → ⊥) where
  abbrev pub with_variable : Named
  with_variable = record { names = t.names ++ Variable v ∷ []; roles = t.roles ++ Live ∷ [] }

  pub order_is : variables_of (t.names ++ Variable v ∷ []) ≡ variables_of t.names ++ v.0 ∷ []
  order_is = variables_of-append t.names (Variable v ∷ [])

  pub named_joins : AreNamed with_variable
  named_joins = record {
    table = record {
      rows = λ i r h. elim (append_back t.roles Live (Basic r) i h) [ inl k ↦ over_more t.roles (Live ∷ []) r (named.table.rows i r k) | inr k ↦ let w = k.1 in cc ];
    };
    size = length-append t.names (Variable v ∷ []) ∙ ap (λ n. n + 1) named.size ∙ sym (length-append t.roles (Live ∷ []));
    distinct = subst AreDistinct (sym order_is) (distinct-end (variables_of t.names) v.0 named.distinct new);
    columns = λ c h.
        elim (append_back t.roles Live Live c (role_live (t.roles ++ Live ∷ []) c h)) [
          | inl k ↦ let w = named.columns c (live_at t.roles c Live k) in (w.0, named_more t.names (Variable v ∷ []) c w.0 w.1)
          | inr k ↦ (v, subst (λ n. IsNamed (t.names ++ Variable v ∷ []) n v) (named.size ∙ sym k.0) (named_last t.names v))
        ];
  }

  module _ (l : List Constraint) (s : IsStored l t) where
    has_more : (y : ℕ) → Has y (variables_of t.names) → Has y (variables_of (t.names ++ Variable v ∷ []))
    has_more y h = subst (Has y) (sym order_is) (has_left y (variables_of t.names) (v.0 ∷ []) h)

    has_new : Has v.0 (variables_of (t.names ++ Variable v ∷ []))
    has_new = subst (Has v.0) (sym order_is) (has_right v.0 (variables_of t.names) (v.0 ∷ []) (inl refl))

    has_back : (y : ℕ) → Has y (variables_of (t.names ++ Variable v ∷ [])) → Has y (variables_of t.names) ⊎ (y ≡ v.0)
    has_back y h = has_end y (variables_of t.names) v.0 (subst (Has y) order_is h)

    quantity_back : (q : Quantity) → IsQuantity l (variable_forms (variables_of (t.names ++ Variable v ∷ []))) q → (q ≡ variable v.0) ⊎ IsQuantity l (variable_forms (variables_of t.names)) q
    quantity_back (variable y) (inl h) = inr (inl h)
    quantity_back (variable y) (inr h) =
        elim (has_back y (forms_mention y (variables_of (t.names ++ Variable v ∷ [])) h)) [ inl k ↦ inr (inr (mentioned_form y (variables_of t.names) k)) | inr e ↦ inl (ap variable e) ]
    quantity_back (member i) h = inr h

    quantity_more : (q : Quantity) → IsQuantity l (variable_forms (variables_of t.names)) q → IsQuantity l (variable_forms (variables_of (t.names ++ Variable v ∷ []))) q
    quantity_more (variable y) (inl h) = inl h
    quantity_more (variable y) (inr h) = inr (mentioned_form y (variables_of (t.names ++ Variable v ∷ [])) (has_more y (forms_mention y (variables_of t.names) h)))
    quantity_more (member i) h = h

    known : (y : ℕ) → IsQuantity l (variable_forms (variables_of t.names)) (variable y) → Has y (variables_of t.names)
    known y (inl h) = s.known y h
    known y (inr h) = forms_mention y (variables_of t.names) h

    not_new : (q : Quantity) → IsQuantity l (variable_forms (variables_of t.names)) q → q ≡ variable v.0 → ⊥
    not_new (variable y) h e = let w : y ≡ v.0 = cc in new (subst (λ z. Has z (variables_of t.names)) w (known y h))
    not_new (member i) h e = cc

    place_old : (q : Quantity) → IsQuantity l (variable_forms (variables_of t.names)) q → place_of (t.names ++ Variable v ∷ []) q ≡ place_of t.names q
    place_old (variable y) h = place_more t.names (Variable v ∷ []) y (known y h)
    place_old (member i) h = member_more t.names (Variable v ∷ []) i (omega (arith, h, s.members))

    place_new : (q : Quantity) → q ≡ variable v.0 → place_of (t.names ++ Variable v ∷ []) q ≡ length t.roles
    place_new q e = ap (place_of (t.names ++ Variable v ∷ [])) e ∙ place_last t.names v new ∙ named.size

    -- the amount of a quantity does not depend on the new variable
    amount_old : (a : ℕ → ℚ) (y : ℚ) (q : Quantity) → IsQuantity l (variable_forms (variables_of t.names)) q → amount l (put v.0 y a) q ≡ amount l a q
    amount_old a y (variable z) h =
        value_at-variable_form (put v.0 y a) z ∙ put_other v.0 y a z (λ e. new (subst (λ z. Has z (variables_of t.names)) e (known z h))) ∙ sym (value_at-variable_form a z)
    amount_old a y (member i) h =
        value_at-agrees (put v.0 y a) a (member_at l i).form (λ z m. put_other v.0 y a z (λ e. new (subst (λ z. Has z (variables_of t.names)) e (s.known z (member_mentions z l i h m)))))

    column_below : (q : Quantity) → Has q (s.live ++ s.gone) → place_of t.names q < length t.roles
    column_below q h =
        elim (has_either q s.live s.gone h) [
          | inl k ↦ at_below t.roles (place_of t.names q) Live (role_live t.roles (place_of t.names q) (s.describes.live_is q k))
          | inr k ↦ at_below t.roles (place_of t.names q) Dropped (role_dropped t.roles (place_of t.names q) (s.describes.gone_is q k))
        ]

    below : (q : Quantity) → IsQuantity l (variable_forms (variables_of t.names)) q → place_of t.names q < length t.roles
    below q i =
        elim (s.describes.others q i) [
          | inl h ↦ column_below q h
          | inr r ↦ at_below t.roles (place_of t.names q) (Basic r.0) r.1
        ]

    met_before : (x : ℕ → ℚ) → IsMet x (t.roles ++ Live ∷ []) → IsMet x t.roles
    met_before x m = record { rows = λ i r h. m.rows i r (at_append t.roles (Live ∷ []) i (Basic r) h) }

    forth : (a : ℕ → ℚ) → (x : ℕ → ℚ) × IsMet x (t.roles ++ Live ∷ []) × Agree l (variable_forms (variables_of (t.names ++ Variable v ∷ []))) (place_of (t.names ++ Variable v ∷ [])) a x
    forth a = (
      put (length t.roles) (a v.0) (s.describes.forth a).0,
      record {
        rows = λ i r h.
            elim (append_back t.roles Live (Basic r) i h) [
              | inl k ↦
                  let o = named.table.rows i r k in
                  stays i (at_below t.roles i (Basic r) k) ∙ (s.describes.forth a).1.rows i r k
                  ∙ ap₂ (λ u w. r.constant +ℚ (u +ℚ w))
                  (sum_agrees (is_live t.roles) 0 (s.describes.forth a).0 (put (length t.roles) (a v.0) (s.describes.forth a).0) r.live o.live_row (λ c w. sym (stays c (at_below t.roles c Live (role_live t.roles c w)))))
                  (sum_agrees (is_dropped t.roles) 0 (s.describes.forth a).0 (put (length t.roles) (a v.0) (s.describes.forth a).0) r.dropped o.dropped_row (λ c w. sym (stays c (at_below t.roles c Dropped (role_dropped t.roles c w)))))
              | inr k ↦ let w = k.1 in cc
            ];
      },
      record {
        same = λ q i.
            elim (quantity_back q i) [
              | inl e ↦
                  ap (put (length t.roles) (a v.0) (s.describes.forth a).0) (place_new q e) ∙ put_self (length t.roles) (a v.0) (s.describes.forth a).0
                  ∙ sym (value_at-variable_form a v.0) ∙ ap (amount l a) (sym e)
              | inr h ↦ ap (put (length t.roles) (a v.0) (s.describes.forth a).0) (place_old q h) ∙ stays (place_of t.names q) (below q h) ∙ (s.describes.forth a).2.same q h
            ];
      },
    )
      where
        stays : (i : ℕ) → i < length t.roles → put (length t.roles) (a v.0) (s.describes.forth a).0 i ≡ (s.describes.forth a).0 i
        stays i h = put_other (length t.roles) (a v.0) (s.describes.forth a).0 i (λ e. omega (arith, h, e))

    back : (x : ℕ → ℚ) → IsMet x (t.roles ++ Live ∷ []) → (a : ℕ → ℚ) × Agree l (variable_forms (variables_of (t.names ++ Variable v ∷ []))) (place_of (t.names ++ Variable v ∷ [])) a x
    back x m =
        let b = s.describes.back x (met_before x m) in (
          put v.0 (x (length t.roles)) b.0,
          record {
            same = λ q i.
                elim (quantity_back q i) [
                  | inl e ↦ ap x (place_new q e) ∙ sym (put_self v.0 (x (length t.roles)) b.0) ∙ sym (value_at-variable_form (put v.0 (x (length t.roles)) b.0) v.0) ∙ ap (amount l (put v.0 (x (length t.roles)) b.0)) (sym e)
                  | inr h ↦ ap x (place_old q h) ∙ b.1.same q h ∙ sym (amount_old b.0 (x (length t.roles)) q h)
                ];
          },
        )

    old_column : (q : Quantity) → Has q (s.live ++ s.gone) → place_of (t.names ++ Variable v ∷ []) q ≡ place_of t.names q
    old_column q h = place_old q (s.describes.columns q h)

    apart : (q r : Quantity) → Has q (variable v.0 ∷ (s.live ++ s.gone)) → Has r (variable v.0 ∷ (s.live ++ s.gone)) → place_of (t.names ++ Variable v ∷ []) q ≡ place_of (t.names ++ Variable v ∷ []) r → q ≡ r
    apart q r (inl h) (inl k) e = h ∙ sym k
    apart q r (inl h) (inr k) e = absurd (omega (arith, column_below r k, place_new q h, e, old_column r k))
    apart q r (inr h) (inl k) e = absurd (omega (arith, column_below q h, place_new r k, e, old_column q h))
    apart q r (inr h) (inr k) e = s.describes.apart q r h k (sym (old_column q h) ∙ e ∙ old_column r k)

    live_is : (q : Quantity) → Has q (variable v.0 ∷ s.live) → is_live (t.roles ++ Live ∷ []) (place_of (t.names ++ Variable v ∷ []) q) ≡ true
    live_is q (inl h) = subst (λ n. is_live (t.roles ++ Live ∷ []) n ≡ true) (sym (place_new q h)) (live_at (t.roles ++ Live ∷ []) (length t.roles) Live (at_last t.roles Live))
    live_is q (inr h) = subst (λ n. is_live (t.roles ++ Live ∷ []) n ≡ true) (sym (old_column q (has_left q s.live s.gone h))) (live_more t.roles (Live ∷ []) (place_of t.names q) (s.describes.live_is q h))

    describes : Describes l (variable_forms (variables_of (t.names ++ Variable v ∷ []))) (t.roles ++ Live ∷ []) (place_of (t.names ++ Variable v ∷ [])) (variable v.0 ∷ s.live) s.gone
    describes = record {
      forth = forth;
      back = back;
      columns = λ q h. elim h [ inl e ↦ subst (IsQuantity l (variable_forms (variables_of (t.names ++ Variable v ∷ [])))) (sym e) (inr (mentioned_form v.0 (variables_of (t.names ++ Variable v ∷ [])) has_new)) | inr k ↦ quantity_more q (s.describes.columns q k) ];
      once = ((λ h. not_new (variable v.0) (s.describes.columns (variable v.0) h) refl), s.describes.once);
      apart = apart;
      live_is = live_is;
      gone_is = λ q h. subst (λ n. is_dropped (t.roles ++ Live ∷ []) n ≡ true) (sym (old_column q (has_right q s.live s.gone h))) (dropped_more t.roles (Live ∷ []) (place_of t.names q) (s.describes.gone_is q h));
      each_live = λ c h.
          elim (append_back t.roles Live Live c (role_live (t.roles ++ Live ∷ []) c h)) [
            | inl k ↦ let q = s.describes.each_live c (live_at t.roles c Live k) in (q.0, inr q.1, old_column q.0 (has_left q.0 s.live s.gone q.1) ∙ q.2)
            | inr k ↦ (variable v.0, inl refl, place_new (variable v.0) refl ∙ sym k.0)
          ];
      each_gone = λ c h.
          elim (append_back t.roles Live Dropped c (role_dropped (t.roles ++ Live ∷ []) c h)) [
            | inl k ↦ let q = s.describes.each_gone c (dropped_at t.roles c Dropped k) in (q.0, q.1, old_column q.0 (has_right q.0 s.live s.gone q.1) ∙ q.2)
            | inr k ↦ let w = k.1 in cc
          ];
      others = λ q i.
          elim (quantity_back q i) [
            | inl e ↦ inl (inl e)
            | inr h ↦ elim (s.describes.others q h) [
              | inl k ↦ inl (inr k)
              | inr r ↦ inr (r.0, subst (λ n. IsAt (t.roles ++ Live ∷ []) n (Basic r.0)) (sym (place_old q h)) (at_append t.roles (Live ∷ []) (place_of t.names q) (Basic r.0) r.1))
            ]
          ];
    }

    pub variable_joins : IsStored l with_variable
    variable_joins = record {
      named = named_joins;
      live = variable v.0 ∷ s.live;
      gone = s.gone;
      describes = describes;
      solved = record {
        equations = s.solved.equations;
        members = λ i h.
            elim (s.solved.members i h) [
              | inl g ↦ inl g
              | inr r ↦ inr (r.0, subst (λ n. IsAt (t.roles ++ Live ∷ []) n (Basic r.0)) (sym (place_old (member i) h)) (at_append t.roles (Live ∷ []) (place_of t.names (member i)) (Basic r.0) r.1), r.2, r.3)
            ];
        only = s.solved.only;
      };
      rows = λ i r h.
          elim (append_back t.roles Live (Basic r) i h) [
            | inl k ↦ let q = s.rows i r k in (q.0, quantity_more q.0 q.1, place_old q.0 q.1 ∙ q.2)
            | inr k ↦ let w = k.1 in cc
          ];
      behind = record {
        behind = λ i r h.
            elim (append_back t.roles Live (Basic r) i h) [
              | inl k ↦ row_weaker (is_live t.roles) (is_live (t.roles ++ Live ∷ [])) (i + 1) r.live (live_more t.roles (Live ∷ [])) (s.behind.behind i r k)
              | inr k ↦ let w = k.1 in cc
            ];
      };
      known = λ x h. has_more x (s.known x h);
      members = omega (arith, members_in-append t.names (Variable v ∷ []), s.members);
    }

-- ---- the empty table

no_quantity : (q : Quantity) → IsQuantity [] (variable_forms []) q → ⊥
no_quantity (variable x) (inl h) = h
no_quantity (variable x) (inr h) = h
no_quantity (member i) h = omega arith

pub empty_is_stored : IsStored [] (record { names = []; roles = [] })
empty_is_stored = record {
  named = record { table = record { rows = λ i r h. absurd h }; size = refl; distinct = tt; columns = λ c h. absurd (role_live [] c h) };
  live = [];
  gone = [];
  describes = record {
    forth = λ v. (v, record { rows = λ i r h. absurd h }, record { same = λ q i. absurd (no_quantity q i) });
    back = λ x m. (x, record { same = λ q i. absurd (no_quantity q i) });
    columns = λ q h. absurd h;
    once = tt;
    apart = λ q r h k e. absurd h;
    live_is = λ q h. absurd h;
    gone_is = λ q h. absurd h;
    each_live = λ c h. absurd (role_live [] c h);
    each_gone = λ c h. absurd (role_dropped [] c h);
    others = λ q i. absurd (no_quantity q i);
  };
  solved = record { equations = λ i h. absurd (omega arith); members = λ i h. absurd (omega arith); only = λ q h. absurd h };
  rows = λ i r h. absurd h;
  behind = record { behind = λ i r h. absurd h };
  known = λ x h. h;
  members = refl;
}
