-- Values that are bound once a constraint has joined.
use Rattle.std.proofs.Common.{◌≡◌, ◌<◌, ℕ, List, [], ◌∷◌, ◌++◌, length, true, Option, None, Some, refl, sym, ap, ◌∙◌, subst}
use Rattle.spec_numbers.specs.Rational.{ℚ}
use Rattle.spec_linear.specs.Solution.{Constraint, Solvable, Fixed}
use Rattle.spec_linear.proofs.Lists.{fixed_more, fixed_once}
use Rattle.spec_numbers.specs.Texts.{Text}
use Rattle.spec_terms.specs.Term.{Subst, Var, Number, Name, Compound, apply, named}
use Rattle.spec_syntax.specs.Trees.{Tree}
use Rattle.spec_branch.specs.Branch.{State, Pending}
use Rattle.spec_branch.specs.Settling.{value_or_variable}
use Rattle.cq_term.specs.Texts.{text_of}
use Rattle.cq_attr.specs.Attributes.{is_numeric}
use Rattle.cq_frac.specs.declared.VarId.{VarId}
use Rattle.cq_term.specs.Meaning.{HeapTerm, at}
use Rattle.cq_term.specs.Trees.{tree}
use Rattle.cq_settle.specs.Contents.{Contents}
use Rattle.cq_settle.specs.Steps.{JoinsAndBinds}
use Rattle.cq_settle.specs.Underway.{AreBound, unified, numeric_then, valued, bindings_now}
use Rattle.cq_settle.proofs.Composed.{first_of, together}

-- a variable that reads as itself with values is itself
value_itself : (w v : ℕ) (o : Option ℚ) → value_or_variable o w ≡ Var v → w ≡ v
value_itself w v None e = cc
value_itself w v (Some q) e = cc

unread : (f : ℕ → Option ℚ) (v : ℕ) (t : Tree) → apply (valued f) t ≡ Var v → t ≡ Var v
unread f v (Var w) e = ap (λ (x : ℕ). Var x) (value_itself w v (f w) e)
unread f v (Number q) e = cc
unread f v (Name a) e = cc
unread f v (Compound g ts) e = cc

no_value : (v : ℕ) (o : Option ℚ) → value_or_variable o v ≡ Var v → o ≡ None
no_value v None e = refl
no_value v (Some q) e = cc

pub unnamed : (f : ℕ → Text) (v : ℕ) (t : HeapTerm) → named f t ≡ Var v → t ≡ Var v
unnamed f v (Var w) e = let s : w ≡ v = cc in ap (λ (x : ℕ). Var x) s
unnamed f v (Number q) e = cc
unnamed f v (Name a) e = cc
unnamed f v (Compound g ts) e = cc

module _ (texts : List Text) (c : Contents) (row : Constraint) (d : Contents) (before after : List VarId) (st : State) (p : Pending) (u : Subst Text)
    (f : ℕ → Option ℚ) (old : AreBound st p u c.told f) (j : JoinsAndBinds c row d before after)
    (images : (v : ℕ) → v < length c.heap.images → bindings_now st u f v ≡ tree texts c.heap.images v)
    (below : (v : ℕ) → is_numeric c.attrs v ≡ true → v < length c.heap.images)
    (numeric : (v : ℕ) → is_numeric c.attrs v ≡ numeric_then st p u v) where
  solvable_longer : Solvable (c.told ++ row ∷ [])
  solvable_longer = subst Solvable j.list j.solvable

  grown : (v : ℕ) (q : ℚ) → Fixed c.told v q → Fixed d.told v q
  grown v q h = subst (λ (l : List Constraint). Fixed l v q) (sym j.list) (fixed_more c.told (row ∷ []) v q h solvable_longer)

  numeric_of : (v : ℕ) (q : ℚ) (o : Option ℚ) → f v ≡ o → first_of o (j.values v) ≡ Some q → numeric_then st p u v ≡ true
  numeric_of v q (Some r) e h = old.numeric v r e
  numeric_of v q None e h = sym (numeric v) ∙ (j.binds.sound v q h).0

  unbound_of : (v : ℕ) (q : ℚ) (o : Option ℚ) → f v ≡ o → first_of o (j.values v) ≡ Some q → unified st u v ≡ Var v
  unbound_of v q (Some r) e h = old.unbound v r e
  unbound_of v q None e h = unread f v (unified st u v) (images v (below v (j.binds.sound v q h).0) ∙ ap (named (text_of texts)) (j.binds.sound v q h).1)

  fixed_of : (v : ℕ) (q : ℚ) (o : Option ℚ) → f v ≡ o → first_of o (j.values v) ≡ Some q → Fixed d.told v q
  fixed_of v q (Some r) e h = grown v q (old.fixed v q (e ∙ h))
  fixed_of v q None e h = (j.binds.sound v q h).2

  left_over : (v : ℕ) (r : ℚ) → f v ≡ Some r → f v ≡ None → ⊥
  left_over v r e n = let s : None ≡ Some r = sym n ∙ e in cc

  complete_of : (v : ℕ) (q : ℚ) (o : Option ℚ) → f v ≡ o → numeric_then st p u v ≡ true → unified st u v ≡ Var v → Fixed d.told v q → first_of o (j.values v) ≡ Some q
  complete_of v q (Some r) e n b h = ap (λ (x : ℚ). Some x) (fixed_once d.told v r q (grown v r (old.fixed v r e)) h)
  complete_of v q None e n b h =
      let here : at c.heap.images v ≡ Var v = unnamed (text_of texts) v (at c.heap.images v)
      (sym (images v (below v (numeric v ∙ n))) ∙ ap (apply (valued f)) b ∙ ap (λ (x : Option ℚ). value_or_variable x v) e) in
      j.complete v q (numeric v ∙ n) here h (λ r g. left_over v r (old.complete v r n b g) e)

  pub bound_further : AreBound st p u d.told (together f j.values)
  bound_further = record {
    numeric = λ v q h. numeric_of v q (f v) refl h;
    unbound = λ v q h. unbound_of v q (f v) refl h;
    fixed = λ v q h. fixed_of v q (f v) refl h;
    complete = λ v q n b h. complete_of v q (f v) refl n b h;
  }
