-- A branch that settling keeps is settled.
use Rattle.std.proofs.Common.{◌≡◌, ℕ, List, [], ◌∷◌, ◌++◌, Bool, true, false, cond, Option, Some, None, refl, sym, ap, ap₂, ◌∙◌, ◌||◌, ◌&&◌}
use Rattle.std.specs.Prelude.{codes, bytes_eq}
use Rattle.spec_numbers.specs.Rational.{ℚ}
use Rattle.spec_linear.specs.Solution.{Constraint, Solvable, Fixes, Has, false_constraint}
use Rattle.spec_numbers.specs.Texts.{Text}
use Rattle.spec_terms.specs.Term.{Subst, Var, Number, Name, Compound, one, more, apply, followed_by}
use Rattle.spec_terms.proofs.Substitution.{apply-followed_by}
use Rattle.spec_syntax.specs.Trees.{Tree}
use Rattle.spec_branch.specs.Expressions.{variable_under, unary_name, binary_name, unary_of, binary_of, form_of, has_zero_divisor, is_zero_form}
use Rattle.spec_branch.specs.Relations.{Lin, Is, Waits, False, lin, related_forms, relation_name, row_of, IsLin}
use Rattle.spec_branch.specs.Branch.{State, Item, Pending, Branch}
use Rattle.spec_branch.specs.Settling.{Settling, Settles, SettlesUnified, Kept, unified, kept, kept_branch, fixed_values, value_or_variable, numeric_after}
use Rattle.spec_branch.specs.Meaning.{IsSettled}
use Rattle.spec_branch.proofs.Absorbed.{has_parts}
use Rattle.spec_branch.proofs.Waiting.{one_map}

-- ---- fixed variables bound to their values

module _ (numeric : ℕ → Bool) (fixed : ℕ → Option ℚ) where
  abbrev bound : Subst Text
  bound = fixed_values numeric fixed

  variable_form_same : (x : ℕ) (b : Bool) (o : Option ℚ) → fixed x ≡ o
      → form_of fixed (cond b (value_or_variable o x) (Var x)) ≡ Some (variable_under (fixed x) x)
  variable_form_same x true None e = refl
  variable_form_same x true (Some q) e = ap (λ (p : Option ℚ). Some (variable_under p x)) (sym e)
  variable_form_same x false o e = refl

  no_divisor : (x : ℕ) (b : Bool) (o : Option ℚ) → has_zero_divisor fixed (cond b (value_or_variable o x) (Var x)) ≡ false
  no_divisor x true None = refl
  no_divisor x true (Some q) = refl
  no_divisor x false o = refl

  no_relation : (x : ℕ) (b : Bool) (o : Option ℚ) → lin fixed (cond b (value_or_variable o x) (Var x)) ≡ Waits
  no_relation x true None = refl
  no_relation x true (Some q) = refl
  no_relation x false o = refl

  same_form : (t : Tree) → form_of fixed (apply bound t) ≡ form_of fixed t
  same_form (Var x) = variable_form_same x (numeric x) (fixed x) refl
  same_form (Number q) = refl
  same_form (Name n) = refl
  same_form (Compound f (one t)) = ap (unary_of (unary_name f)) (same_form t)
  same_form (Compound f (more t (one u))) = ap₂ (binary_of (binary_name f)) (same_form t) (same_form u)
  same_form (Compound f (more t (more u us))) = refl

  same_divisors : (t : Tree) → has_zero_divisor fixed (apply bound t) ≡ has_zero_divisor fixed t
  same_divisors (Var x) = no_divisor x (numeric x) (fixed x)
  same_divisors (Number q) = refl
  same_divisors (Name n) = refl
  same_divisors (Compound f (one t)) = same_divisors t
  same_divisors (Compound f (more t (one u))) =
      λ i. same_divisors t i || same_divisors u i || (bytes_eq f (codes "/") && is_zero_form (same_form u i))
  same_divisors (Compound f (more t (more u us))) = refl

  same_lin : (t : Tree) → lin fixed (apply bound t) ≡ lin fixed t
  same_lin (Var x) = no_relation x (numeric x) (fixed x)
  same_lin (Number q) = refl
  same_lin (Name n) = refl
  same_lin (Compound f (one t)) = refl
  same_lin (Compound r (more t (one u))) =
      λ i. cond (same_divisors t i || same_divisors u i) False (related_forms (relation_name r) (same_form t i) (same_form u i))
  same_lin (Compound f (more t (more u us))) = refl

  -- ---- what is unbound

  unbound_free : (v : ℕ) (t : Tree) → apply bound t ≡ Var v → numeric v ≡ true → fixed v ≡ None
  unbound_free v (Number q) e n = cc
  unbound_free v (Name a) e n = cc
  unbound_free v (Compound f ts) e n = cc
  unbound_free v (Var x) e n = go (numeric x) (fixed x) refl refl e
    where
      go : (b : Bool) (o : Option ℚ) → numeric x ≡ b → fixed x ≡ o → cond b (value_or_variable o x) (Var x) ≡ Var v
          → fixed v ≡ None
      go true None h k e =
          let same : x ≡ v = cc in
          ap fixed (sym same) ∙ k
      go true (Some q) h k e = cc
      go false o h k e =
          let same : x ≡ v = cc in
          let other : numeric v ≡ false = ap numeric (sym same) ∙ h in
          cc

-- ---- settling

module _ (items : List Item) (st : State) (w : Pending) (u : Subst Text) where
  rests : (j : Settling st w u) (fixed : ℕ → Option ℚ) → Solvable j.linear → Fixes j.linear fixed
      → IsSettled (kept_branch items st w u j.linear j.waiting fixed).state
  rests j fixed solvable fixes = record {
    solvable = solvable;
    waiting = waits;
    unbound = λ v q n e k. (
        let free : fixed v ≡ None = unbound_free (numeric_after st u (followed_by st.bindings u) w.told) fixed v (followed_by st.bindings u v) e n in
        let some : fixed v ≡ Some q = fixes.complete v q k in
        cc);
  }
    where
      as_before : (t : Tree) (r : Lin Constraint)
          → IsLin j.linear (apply (followed_by (followed_by st.bindings u) (fixed_values (numeric_after st u (followed_by st.bindings u) w.told) fixed)) t) r
          → IsLin j.linear (apply (followed_by st.bindings u) t) r
      as_before t r i = record {
        fixed = fixed;
        fixes = fixes;
        is =
            sym (same_lin (numeric_after st u (followed_by st.bindings u) w.told) fixed (apply (followed_by st.bindings u) t))
            ∙ ap (lin fixed) (sym (apply-followed_by (followed_by st.bindings u) (fixed_values (numeric_after st u (followed_by st.bindings u) w.told) fixed) t))
            ∙ ap (λ (f : ℕ → Option ℚ). lin f (apply (followed_by (followed_by st.bindings u) (fixed_values (numeric_after st u (followed_by st.bindings u) w.told) fixed)) t)) (one_map j.linear j.linear fixed i.fixed (λ p. (λ h. h, λ h. h)) fixes i.fixes)
            ∙ i.is;
      }

      -- what has a row would move
      still : (t : Tree) (r : Lin Constraint) (c : Constraint) → Has t j.waiting → row_of r ≡ Some c
          → IsLin j.linear (apply (followed_by st.bindings u) t) r → ⊥
      still t r c h e i =
          let parts : (b : List Tree) × (a : List Tree) × (j.waiting ≡ b ++ t ∷ a) = has_parts t j.waiting h in
          j.closure.closed (j.linear ++ c ∷ []) (parts.0 ++ parts.1) (
          record {
            before = parts.0;
            term = t;
            after = parts.1;
            among = parts.2;
            solvable = solvable;
            result = r;
            is_lin = i;
            row = c;
            row_is = e;
            joins = refl;
            leaves = refl;
          })

      waits : (t : Tree) (r : Lin Constraint) → Has t j.waiting
          → IsLin j.linear (apply (followed_by (followed_by st.bindings u) (fixed_values (numeric_after st u (followed_by st.bindings u) w.told) fixed)) t) r
          → r ≡ Waits
      waits t Waits h i = refl
      waits t (Is c) h i = absurd (still t (Is c) c h refl (as_before t (Is c) i))
      waits t False h i = absurd (still t False false_constraint h refl (as_before t False i))

  unified_rests : (b : Branch) → SettlesUnified items st w u (Kept b) → IsSettled b.state
  unified_rests b (kept n j solvable fixed fixes) = rests j fixed solvable fixes

pub kept_rests : (items : List Item) (st : State) (w : Pending) (b : Branch) → Settles items st w (Kept b)
    → IsSettled b.state
kept_rests items st w b (unified u i h) = unified_rests items st w u b h
