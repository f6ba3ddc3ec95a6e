-- A variable that becomes a number or a name.
use Rattle.std.proofs.Common.{◌≡◌, ◌∷◌, ◌++◌, ◌∙◌, [], ℕ, List, length, map, refl, sym, ap, subst, arith, append-nil, length-append}
use Rattle.std.proofs.lemmas.List.{length-map}
use Rattle.std.proofs.lemmas.List.Elements.{All-push}
use Rattle.spec_numbers.specs.Prefixes.{IsPrefix}
use Rattle.spec_terms.specs.Term.{Var, Number, Name, Compound, Occurs, apply, single}
use Rattle.spec_terms.specs.Unifier.{IsUnifier}
use Rattle.cq_attr.specs.Attributes.{Attributes}
use Rattle.cq_frac.specs.declared.VarId.{VarId}
use Rattle.cq_resolve.specs.Joined.{CanMeet, Joined, equal}
use Rattle.cq_resolve.proofs.Telling.{constant_can, joined_told}
use Rattle.cq_settle.specs.Equal.{AllEqual, MayBeEqual}
use Rattle.cq_term.specs.HeapValue.{Terms}
use Rattle.cq_term.specs.Meaning.{HeapTerm, at}
use Rattle.cq_term.specs.Shown.{view_of}
use Rattle.cq_term.specs.declared.view.View.TheVariants as view
use Rattle.cq_term.proofs.Arguments.{shown_variable}
use Rattle.cq_unify.specs.Unified.{in_turn}
use Rattle.cq_unify.proofs.Named.{names_bind}
use Rattle.cq_term.specs.declared.walk.pairs.Pair.{Pair}
use Rattle.cq_branch.specs.Entries.{AreFree, IsConstant, IsFree}

-- no variable stands in it
nothing_inside : (v : ℕ) (t : HeapTerm) → IsConstant (view_of t) → Occurs v t → ⊥
nothing_inside v (Var x) h o = absurd h
nothing_inside v (Number q) h o = o
nothing_inside v (Name a) h o = o
nothing_inside v (Compound f ts) h o = absurd h

-- a part that is as long as the whole
whole : (xs ys : List HeapTerm) → IsPrefix xs ys → length ys ≡ length xs → ys ≡ xs
whole xs ys p e = by p.0 p.1
  where
    by : (more : List HeapTerm) → ys ≡ xs ++ more → ys ≡ xs
    by [] q = q ∙ append-nil xs
    by (t ∷ ts) q = absurd (omega (arith, ap length q, length-append xs (t ∷ ts), e))

module _ (old new : Terms) (pair : Pair) (may : MayBeEqual old pair) (v : VarId) (shown : view_of (at old.terms pair.left) ≡ view.Var v)
    (constant : IsConstant (view_of (at old.terms pair.right)))
    (terms : new.terms ≡ map (apply (single v.0 (at old.terms pair.right))) old.terms)
    (images : new.images ≡ map (apply (single v.0 (at old.terms pair.right))) old.images) where
  left_is : at old.terms pair.left ≡ Var v.0
  left_is = shown_variable (at old.terms pair.left) v shown

  can : CanMeet old v pair.right
  can = constant_can old old v pair.right refl (may.0.inside v.0 (subst (Occurs v.0) (sym left_is) refl)) (λ x o. nothing_inside x (at old.terms pair.right) constant o)

  joined : Joined old new (Var v.0) (at old.terms pair.right) (v ∷ [])
  joined = joined_told old new v pair.right can terms images

  same_terms : new.terms ≡ map (apply (in_turn joined.bindings)) old.terms
  same_terms =
      whole (map (apply (in_turn joined.bindings)) old.terms) new.terms joined.terms
      (ap length terms ∙ length-map old.terms (apply (single v.0 (at old.terms pair.right))) ∙ sym (length-map old.terms (apply (in_turn joined.bindings))))

  equal_now : AllEqual old new (pair ∷ []) (v ∷ [])
  equal_now = record {
    read_through = All-push (MayBeEqual old) [] pair (λ k d lt. absurd (omega (arith, lt))) may;
    unifier = in_turn joined.bindings;
    unifies = subst (λ (t : HeapTerm). IsUnifier (equal t (at old.terms pair.right)) (in_turn joined.bindings)) (sym left_is) joined.unifier;
    terms = same_terms;
    images = joined.images;
    newly = joined.newly;
    once = joined.once;
  }

  -- where nothing waits for it, nothing is to be settled
  pub constant_free : (a : Attributes) → IsFree a (v ∷ []) → AreFree old new a (pair ∷ [])
  constant_free a free = record {
    newly = v ∷ [];
    equal = equal_now;
    free = free;
    names = λ n. names_bind n v.0 old.terms new.terms pair.right terms may.1.live;
  }
