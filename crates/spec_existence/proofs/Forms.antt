-- The linear constraints of a branch list their products in order, also once it has settled.
use Rattle.std.proofs.Common.{◌≡◌, inl, inr, ℕ, suc, zero, List, [], ◌∷◌, ◌++◌, Bool, true, false, cond, Option, Some, None, map, arith, refl, ap, sym, subst, ◌∙◌}
use Rattle.std.specs.Prelude.{IsPermutation, All, ◌||◌}
use Rattle.std.proofs.lemmas.List.Sorted.{All-permutation, IsPermutation-sym}
use Rattle.spec_numbers.specs.Rational.{ℚ, 1ℚ}
use Rattle.spec_linear.specs.Form.{Linear, IsForm, variable_form}
use Rattle.spec_linear.specs.Solution.{Constraint, false_constraint}
use Rattle.spec_linear.proofs.Ordered.{IsForm-constant_form, IsForm-variable_form, IsForm-difference_form}
use Rattle.spec_projection.specs.Lists.{AreForms}
use Rattle.spec_projection.proofs.Members.{has_either, has_mapped}
use Rattle.spec_numbers.specs.Texts.{Text}
use Rattle.spec_terms.specs.Term.{Subst, Var, Number, Name, Compound, one, more, apply, followed_by}
use Rattle.spec_syntax.specs.Trees.{Tree}
use Rattle.spec_branch.specs.Expressions.{form_of, has_zero_divisor}
use Rattle.spec_branch.specs.Relations.{RelationName, Equals, Differs, Greater, GreaterOrEqual, Lesser, LesserOrEqual, relation_name, related, Lin, False, related_forms, lin, row_of}
use Rattle.spec_branch.proofs.Kept.{GoodOption, form_good}
use Rattle.spec_branch.specs.Branch.{State, Item, Pending, Branch}
use Rattle.spec_branch.specs.Closure.{IsMove, Moves, no_move, move}
use Rattle.spec_branch.specs.Settling.{image_form, binding_equation, newly_bound, Settling, Settles, unified, SettlesUnified, kept, Kept}

-- ---- told terms

related_form : (r : RelationName) (f g : Linear) → IsForm f → IsForm g → IsForm (related r f g).form
related_form Equals f g h k = IsForm-difference_form f g h k
related_form Differs f g h k = IsForm-difference_form f g h k
related_form Greater f g h k = IsForm-difference_form f g h k
related_form GreaterOrEqual f g h k = IsForm-difference_form f g h k
related_form Lesser f g h k = IsForm-difference_form g f k h
related_form LesserOrEqual f g h k = IsForm-difference_form g f k h

module _ (fixed : ℕ → Option ℚ) where
  -- what joins is in order
  abbrev pub IsInOrder : Lin Constraint → Type 0
  IsInOrder r = (c : Constraint) → row_of r ≡ Some c → IsForm c.form

  by_forms : (r : Option RelationName) (o p : Option Linear) → GoodOption fixed o → GoodOption fixed p → IsInOrder (related_forms r o p)
  by_forms None o p h k c e = cc
  by_forms (Some r) None p h k c e = cc
  by_forms (Some r) (Some f) None h k c e = cc
  by_forms (Some r) (Some f) (Some g) h k c e =
      let d : related r f g ≡ c = cc in
      subst (λ x. IsForm x.form) d (related_form r f g h.form k.form)

  false_or : (b : Bool) (r : Lin Constraint) → IsInOrder r → IsInOrder (cond b False r)
  false_or true r h c e =
      let d : false_constraint ≡ c = cc in
      subst (λ x. IsForm x.form) d (IsForm-constant_form 1ℚ)
  false_or false r h c e = h c e

  pub in_order : (t : Tree) → IsInOrder (lin fixed t)
  in_order (Var v) c e = cc
  in_order (Number q) c e = cc
  in_order (Name a) c e = cc
  in_order (Compound r (one a)) c e = cc
  in_order (Compound r (more a (one b))) c e =
      false_or (has_zero_divisor fixed a || has_zero_divisor fixed b) (related_forms (relation_name r) (form_of fixed a) (form_of fixed b))
      (by_forms (relation_name r) (form_of fixed a) (form_of fixed b) (form_good fixed a) (form_good fixed b)) c e
  in_order (Compound r (more a (more b ts))) c e = cc

-- ---- lists

forms_append : (l m : List Constraint) → AreForms l → AreForms m → AreForms (l ++ m)
forms_append l m h k c i = elim (has_either c l m i) [ inl j ↦ h c j | inr j ↦ k c j ]

one_form : (d : Constraint) → IsForm d.form → AreForms (d ∷ [])
one_form d h c (inl e) = subst (λ x. IsForm x.form) (sym e) h
one_form d h c (inr k) = absurd k

module _ (s : Subst Text) where
  move_forms : (l m : List Constraint) (w x : List Tree) → IsMove s l w m x → AreForms l → AreForms m
  move_forms l m w x i h =
      subst AreForms (sym i.joins)
      (forms_append l (i.row ∷ []) h (one_form i.row (in_order i.is_lin.fixed (apply s i.term) i.row (ap row_of i.is_lin.is ∙ i.row_is))))

  pub moves_forms : {l m : List Constraint} {w x : List Tree} → Moves s l w m x → AreForms l → AreForms m
  moves_forms no_move h = h
  moves_forms (move {l = l} {l' = m} {w = w} {w' = x} i r) h = moves_forms r (move_forms l m w x i h)

  image_is : (t : Tree) → IsForm (image_form t)
  image_is (Var w) = IsForm-variable_form w
  image_is (Number q) = IsForm-constant_form q
  image_is (Name a) = IsForm-variable_form 0
  image_is (Compound f ts) = IsForm-variable_form 0

  equations_forms : (vs : List ℕ) → AreForms (map (binding_equation s) vs)
  equations_forms vs c h =
      let k = has_mapped (binding_equation s) c vs h in
      subst (λ x. IsForm x.form) (sym k.is) (IsForm-difference_form (variable_form k.from) (image_form (s k.from)) (IsForm-variable_form k.from) (image_is (s k.from)))

-- in any order
to_all : (l : List Constraint) → AreForms l → All (λ c. IsForm c.form) l
to_all [] h k d i = absurd (omega (arith, i))
to_all (c ∷ l) h zero d i = h c (inl refl)
to_all (c ∷ l) h (suc k) d i = to_all l (λ e j. h e (inr j)) k d (omega (arith, i))

from_all : (l : List Constraint) → All (λ c. IsForm c.form) l → AreForms l
from_all [] h c i = absurd i
from_all (d ∷ l) h c (inl e) = subst (λ x. IsForm x.form) (sym e) (h zero d (omega arith))
from_all (d ∷ l) h c (inr i) = from_all l (λ k e j. h (suc k) e (omega (arith, j))) c i

permuted_forms : (xs ys : List Constraint) → IsPermutation xs ys → AreForms ys → AreForms xs
permuted_forms xs ys p h = from_all xs (All-permutation (λ c. IsForm c.form) ys xs (IsPermutation-sym xs ys p) (to_all ys h))

-- ---- settling

module _ (items : List Item) (st : State) (p : Pending) (linear : AreForms st.linear) (rows : AreForms p.rows) where
  settling_forms : (u : Subst Text) (j : Settling st p u) → AreForms j.linear
  settling_forms u j =
      moves_forms (followed_by st.bindings u) j.closure.moves
      (forms_append (st.linear ++ j.equations) p.rows
      (forms_append st.linear j.equations linear
      (permuted_forms j.equations (map (binding_equation (followed_by st.bindings u)) (newly_bound st u)) j.each_newly_bound (equations_forms (followed_by st.bindings u) (newly_bound st u))))
      rows)

  unified_forms : (u : Subst Text) (b : Branch) → SettlesUnified items st p u (Kept b) → AreForms b.state.linear
  unified_forms u b (kept n j h fixed fixes) = settling_forms u j

  pub kept_forms : (b : Branch) → Settles items st p (Kept b) → AreForms b.state.linear
  kept_forms b (unified u i h) = unified_forms u b h
