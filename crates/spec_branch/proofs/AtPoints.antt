-- The same at points: what a term has become holds at the same solutions of a list that fixes more, and a false term stays false.
use Rattle.std.proofs.Common.{◌≡◌, ◌↔◌, ℕ, List, Bool, true, false, cond, Option, None, Some, refl, sym, ap, ap₂, ◌∙◌, subst, ◌||◌, ◌&&◌}
use Rattle.std.specs.Prelude.{codes, bytes_eq}
use Rattle.spec_numbers.specs.Rational.{ℚ}
use Rattle.spec_linear.specs.declared.Relation.{Relation}
use Rattle.spec_linear.specs.Form.{Linear, value_at, is_zero, is_constant}
use Rattle.spec_linear.specs.Solution.{Constraint, Meets, Point, number, Solves, Fixes, Holds}
use Rattle.spec_linear.proofs.Points.{holds_same}
use Rattle.spec_numbers.specs.Texts.{Text}
use Rattle.spec_terms.specs.Term.{Var, Number, Name, Compound, one, more}
use Rattle.spec_syntax.specs.Trees.{Tree}
use Rattle.spec_branch.specs.Expressions.{number_of, form_of, has_zero_divisor, is_zero_form}
use Rattle.spec_branch.specs.Relations.{Lin, Is, False, lin, related_forms, relation_name, RelationName}
use Rattle.spec_branch.proofs.Kept.{Good, GoodOption, form_good}
use Rattle.spec_branch.specs.Values.{Agrees}
use Rattle.spec_branch.proofs.Refined.{Refines, Grows, form_grows, stays_number}
use Rattle.spec_branch.proofs.Stable.{StaysLinear, stays_linear}
use Rattle.spec_numbers.proofs.Tests.{both_are}

-- ---- zero divisors stay

or_grows : (a b c d : Bool) → (a ≡ true → c ≡ true) → (b ≡ true → d ≡ true) → (a || b) ≡ true → (c || d) ≡ true
or_grows true b c d h k e = ap (λ (x : Bool). x || d) (h refl)
or_grows false b true d h k e = refl
or_grows false b false d h k e = k e

and_grows : (a b c : Bool) → (b ≡ true → c ≡ true) → (a && b) ≡ true → (a && c) ≡ true
and_grows true b c h e = h e
and_grows false b c h e = e

number_of-constant : (g : Linear) (k : ℚ) → number_of g ≡ Some k → (is_constant g ≡ true) × (g.constant ≡ k)
number_of-constant g k e = go (is_constant g) refl e
  where
    go : (b : Bool) → is_constant g ≡ b → cond b (Some g.constant) None ≡ Some k
        → (is_constant g ≡ true) × (g.constant ≡ k)
    go true p h = let c : g.constant ≡ k = cc in (p, c)
    go false p h = cc

module _ (earlier later : ℕ → Option ℚ) (kept : (x : ℕ) (q : ℚ) → earlier x ≡ Some q → later x ≡ Some q) where
  zero_form : (f g : Linear) → Refines later f g → Good later g → (is_constant f && is_zero f.constant) ≡ true
      → (is_constant g && is_zero g.constant) ≡ true
  zero_form f g r good e =
      let p = both_are (is_constant f) (is_zero f.constant) e in
      let n : number_of f ≡ Some f.constant = ap (λ (b : Bool). cond b (Some f.constant) None) p.0 in
      let m = number_of-constant g f.constant (stays_number later f g r good f.constant n) in
      ap₂ (λ (b : Bool) (q : ℚ). b && is_zero q) m.0 m.1 ∙ p.1

  zero_form_stays : (o p : Option Linear) → Grows later o p → GoodOption later p → is_zero_form o ≡ true
      → is_zero_form p ≡ true
  zero_form_stays None p h good e = cc
  zero_form_stays (Some f) p h good e =
      subst (λ (w : Option Linear). is_zero_form w ≡ true) (sym h.1) (zero_form f h.0 h.2 (subst (λ (w : Option Linear). GoodOption later w) h.1 good) e)

  zero_stays : (t : Tree) → has_zero_divisor earlier t ≡ true → has_zero_divisor later t ≡ true
  zero_stays (Var x) e = e
  zero_stays (Number q) e = e
  zero_stays (Name a) e = e
  zero_stays (Compound f (one a)) e = zero_stays a e
  zero_stays (Compound f (more a (one b))) e =
      or_grows (has_zero_divisor earlier a || has_zero_divisor earlier b) (bytes_eq f (codes "/") && is_zero_form (form_of earlier b))
      (has_zero_divisor later a || has_zero_divisor later b) (bytes_eq f (codes "/") && is_zero_form (form_of later b))
      (or_grows (has_zero_divisor earlier a) (has_zero_divisor earlier b) (has_zero_divisor later a) (has_zero_divisor later b) (zero_stays a) (zero_stays b))
      (and_grows (bytes_eq f (codes "/")) (is_zero_form (form_of earlier b)) (is_zero_form (form_of later b)) (zero_form_stays (form_of earlier b) (form_of later b) (form_grows later earlier kept b) (form_good later b)))
      e
  zero_stays (Compound f (more a (more b ts))) e = e

  was_zero : (z : Bool) (w : Lin Constraint) → (w ≡ False → ⊥) → cond z False w ≡ False → z ≡ true
  was_zero true w h e = refl
  was_zero false w h e = absurd (h e)

  never_false : (m : Option RelationName) (o p : Option Linear) → related_forms m o p ≡ False → ⊥
  never_false None o p e = cc
  never_false (Some n) None p e = cc
  never_false (Some n) (Some f) None e = cc
  never_false (Some n) (Some f) (Some g) e = cc

  relation_false : (r : Text) (a b : Tree) → lin earlier (Compound r (more a (one b))) ≡ False
      → lin later (Compound r (more a (one b))) ≡ False
  relation_false r a b e =
      let z : (has_zero_divisor earlier a || has_zero_divisor earlier b) ≡ true =
      was_zero (has_zero_divisor earlier a || has_zero_divisor earlier b) (related_forms (relation_name r) (form_of earlier a) (form_of earlier b)) (never_false (relation_name r) (form_of earlier a) (form_of earlier b)) e in
      ap (λ (y : Bool). cond y False (related_forms (relation_name r) (form_of later a) (form_of later b))) (
      or_grows (has_zero_divisor earlier a) (has_zero_divisor earlier b) (has_zero_divisor later a) (has_zero_divisor later b) (zero_stays a) (zero_stays b) z)

  -- a false term stays false
  pub false_stays : (t : Tree) → lin earlier t ≡ False → lin later t ≡ False
  false_stays (Var x) e = cc
  false_stays (Number q) e = cc
  false_stays (Name a) e = cc
  false_stays (Compound r (one a)) e = cc
  false_stays (Compound r (more a (one b))) e = relation_false r a b e
  false_stays (Compound r (more a (more b ts))) e = cc

  -- what is linear is a relation of two expressions
  record IsRelation (u : Tree) : Type 0 where
    name : Text
    left : Tree
    right : Tree
    is : u ≡ Compound name (more left (one right))

  is_relation : (u : Tree) (c : Constraint) → lin earlier u ≡ Is c → IsRelation u
  is_relation (Var x) c e = cc
  is_relation (Number q) c e = cc
  is_relation (Name a) c e = cc
  is_relation (Compound r (one a)) c e = cc
  is_relation (Compound r (more a (one b))) c e = record { name = r; left = a; right = b; is = refl }
  is_relation (Compound r (more a (more b ts))) c e = cc

  -- a linear term stays linear
  pub linear_stays : (u : Tree) (c : Constraint) → lin earlier u ≡ Is c → StaysLinear later c (lin later u)
  linear_stays u c e =
      let r : IsRelation u = is_relation u c e in
      let d : lin earlier (Compound r.name (more r.left (one r.right))) ≡ Is c = ap (λ (z : Tree). lin earlier z) (sym r.is) ∙ e in
      let l : StaysLinear later c (lin later (Compound r.name (more r.left (one r.right)))) = stays_linear earlier later kept r.name r.left r.right c d in
      record { row = l.row; is = ap (λ (z : Tree). lin later z) r.is ∙ l.is; relation = l.relation; refines = l.refines }

-- ---- points

meets : (r s : Relation) (a b : ℚ) → r ≡ s → a ≡ b → Meets r a → Meets s b
meets r s a b e f h = subst (λ (q : ℚ). Meets s q) f (subst (λ (t : Relation). Meets t a) e h)

pub agrees : (l : List Constraint) (fixed : ℕ → Option ℚ) → Fixes l fixed → (p : Point) → Solves p l
    → Agrees fixed (number p)
agrees l fixed h p s x q e = (h.sound x q e).always p s

-- a constraint and the one that it has become hold at the same solutions
pub same_holds : (l : List Constraint) (later : ℕ → Option ℚ) → Fixes l later → (c d : Constraint)
    → c.relation ≡ d.relation → Refines later c.form d.form → (p : Point) → Solves p l → Holds p c ↔ Holds p d
same_holds l later h c d e r p s =
    let v : value_at (number p) c.form ≡ value_at (number p) d.form = r.same (number p) (agrees l later h p s) in (
      λ k. (holds_same p d).1 (meets c.relation d.relation (value_at (number p) c.form) (value_at (number p) d.form) e v ((holds_same p c).0 k)),
      λ k. (holds_same p c).1 (meets d.relation c.relation (value_at (number p) d.form) (value_at (number p) c.form) (sym e) (sym v) ((holds_same p d).0 k)),
    )

-- linear over a list, a term is linear over one that fixes more, and at its solutions the two constraints say the same
pub linear_over : (l : List Constraint) (earlier later : ℕ → Option ℚ)
    → ((x : ℕ) (q : ℚ) → earlier x ≡ Some q → later x ≡ Some q) → Fixes l later → (t : Tree) (c : Constraint)
    → lin earlier t ≡ Is c
    → (d : Constraint) × (lin later t ≡ Is d) × ((p : Point) → Solves p l → Holds p c ↔ Holds p d)
linear_over l earlier later kept h t c e =
    let s : StaysLinear later c (lin later t) = linear_stays earlier later kept t c e in
    (s.row, s.is, same_holds l later h c s.row s.relation s.refines)
