-- What was linear stays so under more fixed values, with the same values.
use Rattle.std.proofs.Common.{◌≡◌, ℕ, Bool, true, false, cond, Option, None, Some, refl, sym, ap, ap₂, ◌∙◌, subst, ◌||◌, ◌&&◌}
use Rattle.std.specs.Prelude.{codes, bytes_eq}
use Rattle.std.specs.Cmp.Lexicographic.{bytes_decides}
use Rattle.spec_numbers.specs.Rational.{ℚ, inv_ℚ}
use Rattle.spec_linear.specs.Form.{Linear, is_zero, is_constant, difference_form, negated_form, scaled_form}
use Rattle.spec_linear.specs.Solution.{Constraint}
use Rattle.spec_numbers.specs.Texts.{Text}
use Rattle.spec_terms.specs.Term.{Var, Number, Name, Compound, one, more}
use Rattle.spec_syntax.specs.Trees.{Tree}
use Rattle.spec_branch.specs.Expressions.{UnaryName, BinaryName, Over, unary_name, binary_name, unary_of, binary_of, quotient_form, form_of, has_zero_divisor, is_zero_form}
use Rattle.spec_branch.specs.Relations.{Lin, Is, False, lin, related, related_forms, relation_name, RelationName, Equals, Differs, Greater, GreaterOrEqual, Lesser, LesserOrEqual}
use Rattle.spec_branch.proofs.Refined.{Refines, Grows, form_grows, refines_negated, refines_sum}

-- the name is that of quotients
pub is_over : (f : Text) → bytes_eq f (codes "/") ≡ true → binary_name f ≡ Some Over
is_over f e = subst (λ (g : Text). binary_name g ≡ Some Over) (sym ((bytes_decides f (codes "/")).0 e)) refl

-- a divisor of a quotient that has a form isn't zero
nonzero_divisor : (f : Linear) (p : Option Linear) (g : Linear) → binary_of (Some Over) (Some f) p ≡ Some g
    → is_zero_form p ≡ false
nonzero_divisor f None g e = refl
nonzero_divisor f (Some d) g e = go (is_constant d) (is_zero d.constant) refl e
  where
    go : (b c : Bool) → is_zero d.constant ≡ c → quotient_form f (cond b (Some d.constant) None) ≡ Some g
        → (b && c) ≡ false
    go false c h e = refl
    go true true h e =
        let k : None ≡ Some g = ap (λ (z : Bool). cond z None (Some (scaled_form (inv_ℚ d.constant) f))) (sym h) ∙ e in
        cc
    go true false h e = refl

unary_inner : (n : Option UnaryName) (o : Option Linear) (g : Linear) → unary_of n o ≡ Some g
    → (h : Linear) × (o ≡ Some h)
unary_inner None o g e = cc
unary_inner (Some n) None g e = cc
unary_inner (Some n) (Some h) g e = (h, refl)

binary_inner : (n : Option BinaryName) (o p : Option Linear) (g : Linear) → binary_of n o p ≡ Some g
    → (h : Linear) × (k : Linear) × (o ≡ Some h) × (p ≡ Some k)
binary_inner None o p g e = cc
binary_inner (Some n) None p g e = cc
binary_inner (Some n) (Some h) None g e = cc
binary_inner (Some n) (Some h) (Some k) g e = (h, k, refl, refl)

or_false : (a b c : Bool) → a ≡ false → b ≡ false → c ≡ false → (a || b || c) ≡ false
or_false a b c e f g = λ i. e i || f i || g i

-- what has a form has no zero divisor
pub no_zero : (fixed : ℕ → Option ℚ) (t : Tree) (g : Linear) → form_of fixed t ≡ Some g
    → has_zero_divisor fixed t ≡ false
no_zero fixed (Var x) g e = refl
no_zero fixed (Number q) g e = refl
no_zero fixed (Name a) g e = refl
no_zero fixed (Compound f (one a)) g e =
    let h : (h : Linear) × (form_of fixed a ≡ Some h) = unary_inner (unary_name f) (form_of fixed a) g e in
    no_zero fixed a h.0 h.1
no_zero fixed (Compound f (more a (one b))) g e =
    let h : (h : Linear) × (k : Linear) × (form_of fixed a ≡ Some h) × (form_of fixed b ≡ Some k) = binary_inner (binary_name f) (form_of fixed a) (form_of fixed b) g e in
    or_false (has_zero_divisor fixed a) (has_zero_divisor fixed b) (bytes_eq f (codes "/") && is_zero_form (form_of fixed b)) (no_zero fixed a h.0 h.2) (no_zero fixed b h.1 h.3) (divisor f (form_of fixed a) (form_of fixed b) g h.0 h.2 e)
  where
    divisor : (f : Text) (o p : Option Linear) (g h : Linear) → o ≡ Some h → binary_of (binary_name f) o p ≡ Some g
        → (bytes_eq f (codes "/") && is_zero_form p) ≡ false
    divisor f o p g h d e = go (bytes_eq f (codes "/")) refl
      where
        go : (b : Bool) → bytes_eq f (codes "/") ≡ b → (b && is_zero_form p) ≡ false
        go false k = refl
        go true k = nonzero_divisor h p g (ap₂ (λ (n : Option BinaryName) (w : Option Linear). binary_of n w p) (sym (is_over f k)) (sym d) ∙ e)
no_zero fixed (Compound f (more a (more b ts))) g e = refl

-- relations
pub record StaysLinear (later : ℕ → Option ℚ) (c : Constraint) (r : Lin Constraint) : Type 0 where
  pub row : Constraint
  pub is : r ≡ Is row
  pub relation : c.relation ≡ row.relation
  pub refines : Refines later c.form row.form

module _ (earlier later : ℕ → Option ℚ) (kept : (x : ℕ) (q : ℚ) → earlier x ≡ Some q → later x ≡ Some q) where
  grown_difference : (f g f' g' : Linear) → Refines later f f' → Refines later g g'
      → Refines later (difference_form f g) (difference_form f' g')
  grown_difference f g f' g' r s = refines_sum later f (negated_form g) f' (negated_form g') r (refines_negated later g g' s)

  stays_related : (n : RelationName) (f g f' g' : Linear) → Refines later f f' → Refines later g g'
      → StaysLinear later (related n f g) (Is (related n f' g'))
  stays_related Equals f g f' g' r s = record { row = related Equals f' g'; is = refl; relation = refl; refines = grown_difference f g f' g' r s }
  stays_related Differs f g f' g' r s = record { row = related Differs f' g'; is = refl; relation = refl; refines = grown_difference f g f' g' r s }
  stays_related Greater f g f' g' r s = record { row = related Greater f' g'; is = refl; relation = refl; refines = grown_difference f g f' g' r s }
  stays_related GreaterOrEqual f g f' g' r s = record { row = related GreaterOrEqual f' g'; is = refl; relation = refl; refines = grown_difference f g f' g' r s }
  stays_related Lesser f g f' g' r s = record { row = related Lesser f' g'; is = refl; relation = refl; refines = grown_difference g f g' f' s r }
  stays_related LesserOrEqual f g f' g' r s = record { row = related LesserOrEqual f' g'; is = refl; relation = refl; refines = grown_difference g f g' f' s r }

  stays_both : (n : RelationName) (f g f' g' : Linear) (m : Option RelationName) (o p : Option Linear) → m ≡ Some n
      → o ≡ Some f' → p ≡ Some g' → Refines later f f' → Refines later g g'
      → StaysLinear later (related n f g) (related_forms m o p)
  stays_both n f g f' g' m o p d e h r s =
      let k : StaysLinear later (related n f g) (Is (related n f' g')) = stays_related n f g f' g' r s in
      let i : related_forms m o p ≡ Is (related n f' g') = λ j. related_forms (d j) (e j) (h j) in
      record { row = k.row; is = i ∙ k.is; relation = k.relation; refines = k.refines }

  -- both sides of what is linear have forms
  record Sides (m : Option RelationName) (o p : Option Linear) (c : Constraint) : Type 0 where
    name : RelationName
    left : Linear
    right : Linear
    name_is : m ≡ Some name
    left_is : o ≡ Some left
    right_is : p ≡ Some right
    row_is : related name left right ≡ c

  linear_same : (x y : Constraint) → Is x ≡ Is y → x ≡ y
  linear_same x y e = cc

  sides : (m : Option RelationName) (o p : Option Linear) (c : Constraint) → related_forms m o p ≡ Is c
      → Sides m o p c
  sides None o p c e = cc
  sides (Some n) None p c e = cc
  sides (Some n) (Some f) None c e = cc
  sides (Some n) (Some f) (Some g) c e = record { name = n; left = f; right = g; name_is = refl; left_is = refl; right_is = refl; row_is = linear_same (related n f g) c e }

  grows_to : (o p : Option Linear) (f : Linear) → o ≡ Some f → Grows later o p
      → (g : Linear) × (p ≡ Some g) × Refines later f g
  grows_to o p f e h = subst (λ (w : Option Linear). Grows later w p) e h

  -- from the two sides, as they were
  stays_from : (r : Text) (a b : Tree) (c : Constraint)
      → Sides (relation_name r) (form_of earlier a) (form_of earlier b) c
      → StaysLinear later c (lin later (Compound r (more a (one b))))
  stays_from r a b c s =
      let ga : (g : Linear) × (form_of later a ≡ Some g) × Refines later s.left g = grows_to (form_of earlier a) (form_of later a) s.left s.left_is (form_grows later earlier kept a) in
      let gb : (g : Linear) × (form_of later b ≡ Some g) × Refines later s.right g = grows_to (form_of earlier b) (form_of later b) s.right s.right_is (form_grows later earlier kept b) in
      let z : (has_zero_divisor later a || has_zero_divisor later b) ≡ false = λ i. no_zero later a ga.0 ga.1 i || no_zero later b gb.0 gb.1 i in
      let k : StaysLinear later (related s.name s.left s.right) (related_forms (relation_name r) (form_of later a) (form_of later b)) =
      stays_both s.name s.left s.right ga.0 gb.0 (relation_name r) (form_of later a) (form_of later b) s.name_is ga.1 gb.1 ga.2 gb.2 in
      finish c (related s.name s.left s.right) s.row_is (has_zero_divisor later a || has_zero_divisor later b) z (related_forms (relation_name r) (form_of later a) (form_of later b)) k
    where
      finish : (c x : Constraint) → x ≡ c → (y : Bool) → y ≡ false → (w : Lin Constraint) → StaysLinear later x w
          → StaysLinear later c (cond y False w)
      finish c x d y e w k =
          record {
            row = k.row;
            is = ap (λ (v : Bool). cond v False w) e ∙ k.is;
            relation = ap (λ (v : Constraint). v.relation) (sym d) ∙ k.relation;
            refines = subst (λ (v : Constraint). Refines later v.form k.row.form) d k.refines;
          }

  not_false : (z : Bool) (w : Lin Constraint) (c : Constraint) → cond z False w ≡ Is c → w ≡ Is c
  not_false true w c e = cc
  not_false false w c e = e

  pub stays_linear : (r : Text) (a b : Tree) (c : Constraint) → lin earlier (Compound r (more a (one b))) ≡ Is c
      → StaysLinear later c (lin later (Compound r (more a (one b))))
  stays_linear r a b c e =
      stays_from r a b c (
      sides (relation_name r) (form_of earlier a) (form_of earlier b) c (
      not_false (has_zero_divisor earlier a || has_zero_divisor earlier b) (related_forms (relation_name r) (form_of earlier a) (form_of earlier b)) c e))
