-- What waits reads on as values are bound.
use Rattle.std.proofs.Common.{◌≡◌, ◌<◌, ℕ, zero, suc, List, [], ◌∷◌, map, length, Option, None, Some, refl, sym, ap, ◌∙◌, subst, arith}
use Rattle.std.proofs.lemmas.List.{length-map}
use Rattle.spec_numbers.specs.Rational.{ℚ}
use Rattle.spec_linear.specs.Solution.{Constraint}
use Rattle.spec_numbers.specs.Texts.{Text}
use Rattle.spec_terms.specs.Term.{Subst, Var, Number, Name, Compound, Occurs, apply, named}
use Rattle.spec_terms.proofs.Substitution.{occurs_from}
use Rattle.spec_syntax.specs.Trees.{Tree}
use Rattle.spec_branch.specs.Branch.{State, Asleep, Frozen, Sleeper}
use Rattle.spec_branch.specs.Settling.{value_or_variable}
use Rattle.cq_term.specs.Texts.{text_of}
use Rattle.cq_attr.specs.Attributes.{Attributes, Waiting}
use Rattle.cq_frac.specs.declared.VarId.{VarId}
use Rattle.cq_term.specs.HeapValue.{Terms}
use Rattle.cq_term.specs.Meaning.{HeapTerm, at}
use Rattle.cq_term.specs.Trees.{tree}
use Rattle.cq_settle.specs.Standing.{IsConstraint, IsSleeper, AreRead, IsAwaited}
use Rattle.cq_settle.specs.Steps.{BindsValues}
use Rattle.cq_settle.specs.Steps as heap
use Rattle.cq_settle.specs.Underway.{valued, bindings_now}
use Rattle.cq_settle.proofs.Composed.{together, now_together, read_on_heap}

-- a variable of a term with values is one of the term
value_inside : (v x : ℕ) (o : Option ℚ) → Occurs v (value_or_variable o x) → v ≡ x
value_inside v x None h = h
value_inside v x (Some q) h = absurd h

pub occurs_before : (g : ℕ → Option ℚ) (t : Tree) (v : ℕ) → Occurs v (apply (valued g) t) → Occurs v t
occurs_before g t v o =
    let r = occurs_from (valued g) v t o in
    let P : ℕ → Type 0 = λ x. Occurs x t in
    subst P (sym (value_inside v r.0 (g r.0) r.2)) r.1

-- the element of a mapped list
pub at_mapped : (f : HeapTerm → HeapTerm) (ts : List HeapTerm) (i : ℕ) → i < length ts → at (map f ts) i ≡ f (at ts i)
at_mapped f [] i l = absurd (omega (arith, l))
at_mapped f (t ∷ ts) zero l = refl
at_mapped f (t ∷ ts) (suc i) l = at_mapped f ts i (omega (arith, l))

module _ (texts : List Text) (st : State) (u : Subst Text) (f : ℕ → Option ℚ) (a : Attributes) (told : List Constraint) (old new : Terms) (before after : List VarId) (g : ℕ → Option ℚ)
    (b : BindsValues a told old new before after g) where
  abbrev was : Subst Text
  was = bindings_now st u f

  abbrev is : Subst Text
  is = bindings_now st u (together f g)

  pub tree_reads : (id : ℕ) → id < length old.terms → tree texts new.terms id ≡ apply (valued g) (tree texts old.terms id)
  tree_reads id l = ap (named (text_of texts)) (b.terms id l) ∙ read_on_heap texts g (at old.terms id)

  pub image_reads : (v : ℕ) → v < length old.images → tree texts new.images v ≡ apply (valued g) (tree texts old.images v)
  image_reads v l =
      ap (λ (ts : List HeapTerm). named (text_of texts) (at ts v)) b.images
      ∙ ap (named (text_of texts)) (at_mapped (apply (heap.valued g)) old.images v l)
      ∙ read_on_heap texts g (at old.images v)

  pub same_images : length new.images ≡ length old.images
  same_images = ap length b.images ∙ length-map old.images (apply (heap.valued g))

  pub reads_further : (t : Tree) (x : Tree) → x ≡ apply was t → apply (valued g) x ≡ apply is t
  reads_further t x e = ap (apply (valued g)) e ∙ now_together st u f g t

  inside_before : (t : Tree) (v : ℕ) → Occurs v (apply is t) → Occurs v (apply was t)
  inside_before t v o = occurs_before g (apply was t) v (subst (λ (x : Tree). Occurs v x) (sym (now_together st u f g t)) o)

  pub constraint_further : (k : Waiting) (t : Tree) → IsConstraint texts old was was k t → IsConstraint texts new is is k t
  constraint_further k t c = record {
    id = c.id;
    susp = c.susp;
    live = omega (arith, c.live, b.longer);
    reads = tree_reads c.id c.live ∙ reads_further t (tree texts old.terms c.id) c.reads;
    watched = λ v o. c.watched v (inside_before t v o);
  }

  awaited_before : (v : ℕ) (x : Asleep) → IsAwaited is v x → IsAwaited was v x
  awaited_before v (Frozen y h) e = unvalued (apply was y) (now_together st u f g y ∙ e) where
    from_value : (w : ℕ) (o : Option ℚ) → value_or_variable o w ≡ Var v → w ≡ v
    from_value w None i = cc
    from_value w (Some q) i = cc

    unvalued : (t : Tree) → apply (valued g) t ≡ Var v → t ≡ Var v
    unvalued (Var w) i = ap (λ (x : ℕ). Var x) (from_value w (g w) i)
    unvalued (Number q) i = cc
    unvalued (Name n) i = cc
    unvalued (Compound n ts) i = cc

  read_both : (x : VarId) (id : ℕ) (z : Asleep) → x.0 < length old.images → id < length old.terms → AreRead texts old was x id z → AreRead texts new is x id z
  read_both x id (Frozen y h) l m r =
      (image_reads x.0 l ∙ reads_further y (tree texts old.images x.0) r.0, tree_reads id m ∙ reads_further h (tree texts old.terms id) r.1)

  pub sleeper_further : (k : Waiting) (z : Sleeper) → IsSleeper texts old was was k z → IsSleeper texts new is is k z
  sleeper_further k z s = record {
    variable = s.variable;
    id = s.id;
    susp = s.susp;
    variable_live = omega (arith, s.variable_live, same_images);
    live = omega (arith, s.live, b.longer);
    reads = read_both s.variable s.id z.asleep s.variable_live s.live s.reads;
    watched = λ v e. s.watched v (awaited_before v z.asleep e);
  }
