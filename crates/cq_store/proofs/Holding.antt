-- A call between a mark and its end keeps what the store holds.
use Rattle.std.proofs.Common.{◌≡◌, ℕ, ◌+◌, ◌-◌, ◌<◌, ◌≤◌, List, [], ◌∷◌, ◌++◌, length, take, inl, inr, arith, ap, sym, subst, ◌∙◌, length-append}
use Rattle.std.specs.Prelude.{slice_get, Some}
use Rattle.std.proofs.Math.Seq.{take-append_seam}
use Rattle.std.proofs.lemmas.Option.{none-some, slice_get_within}
use Rattle.spec_numbers.specs.Prefixes.{IsPrefix}
use Rattle.spec_numbers.proofs.Prefixes.{prefix_same, prefix_both}
use Rattle.spec_numbers.proofs.Places.{newest, get_kept, get_push, get_take}
use Rattle.spec_linear.specs.Solution.{Constraint}
use Rattle.cq_frac.specs.declared.VarId.{VarId}
use Rattle.cq_dict.specs.Roles.{Quantities}
use Rattle.cq_tableau.specs.declared.names.Name.{Name}
use Rattle.cq_tableau.specs.declared.names.Name.TheVariants.{Variable}
use Rattle.cq_store.specs.Held.{AreStored, IsHeld}
use Rattle.cq_tableau.specs.Numbered.{AreNumbered}
use Rattle.cq_tableau.proofs.Storing.{empty_stored}

-- the first names are found as before
numbered_before : (names more : List Name) → IsPrefix names more → (entries : List (VarId × ℕ)) → AreNumbered more entries → AreNumbered names entries
numbered_before names more p entries h n x e = h n x (subst (λ l. slice_get l n ≡ Some (Variable x)) (sym p.1) (get_kept names p.0 n (Variable x) e))

-- a mark was made and ended, so there is room for as many marks as before
pub room_kept : {X : Type 0} (saved : List X) (now : X) (n : ℕ) → n ≡ length saved → (all : List X) → all ≡ saved ++ now ∷ []
    → (before between after : ℕ) → before ≤ between + 1 → between + (length all - n) ≤ after → before ≤ after
room_kept saved now n at all all_are before between after made ended = omega (arith, at, ap length all_are, length-append saved (now ∷ []), made, ended)

-- nothing is held yet
pub empty_held : (h : List Constraint × (List Name × Quantities)) → h ≡ ([], ([], record { roles = []; restricted = [] })) → (entries : List (VarId × ℕ))
    → (saved : List (List Constraint × (List Name × Quantities))) → saved ≡ [] → IsHeld h saved entries
empty_held h e entries saved f =
    subst (λ z. IsHeld z saved entries) (sym e) (subst (λ s. IsHeld ([], ([], record { roles = []; restricted = [] })) s entries) (sym f) (record {
      stored = empty_stored;
      numbered = λ n x g. absurd (none-some (Variable x) g);
      marks = λ k z g. absurd (none-some z g);
      grows = λ k z g. absurd (none-some z g);
      sorted = λ j k y z g i l. absurd (none-some y g);
    }))

module _ (now : List Constraint × (List Name × Quantities)) (saved : List (List Constraint × (List Name × Quantities))) (entries : List (VarId × ℕ))
    (held : IsHeld now saved entries) where
  -- more is held now, and the marks are as before
  held_more : (new : List Constraint × (List Name × Quantities)) → AreStored new → IsPrefix now.1.0 new.1.0 → (found : List (VarId × ℕ)) → AreNumbered new.1.0 found
      → (kept : List (List Constraint × (List Name × Quantities))) → kept ≡ saved → IsHeld new kept found
  held_more new s p found num kept e = record {
    stored = s;
    numbered = num;
    marks = λ k h g. held.marks k h (subst (λ l. slice_get l k ≡ Some h) e g);
    grows = λ k h g. prefix_both h.1.0 now.1.0 new.1.0 (held.grows k h (subst (λ l. slice_get l k ≡ Some h) e g)) p;
    sorted = λ j k g h a b l. held.sorted j k g h (subst (λ t. slice_get t j ≡ Some g) e a) (subst (λ t. slice_get t k ≡ Some h) e b) l;
  }

  -- a mark is made, something is entered, and the mark is ended
  module _ (n : ℕ) (at : n ≡ length saved) (marked : List Constraint × (List Name × Quantities)) (same : marked ≡ now)
      (entered : List Constraint × (List Name × Quantities)) (grows : IsPrefix marked.1.0 entered.1.0) (found : List (VarId × ℕ)) (num : AreNumbered entered.1.0 found)
      (all : List (List Constraint × (List Name × Quantities))) (all_are : all ≡ saved ++ now ∷ []) (last : List Constraint × (List Name × Quantities))
      (left : List (List Constraint × (List Name × Quantities))) (left_are : left ≡ take n all) where
    pub left_same : left ≡ saved
    left_same = left_are ∙ ap (λ m. take m all) at ∙ ap (take (length saved)) all_are ∙ take-append_seam saved (now ∷ [])

    grown : IsPrefix now.1.0 entered.1.0
    grown = subst (λ (z : List Constraint × (List Name × Quantities)). IsPrefix z.1.0 entered.1.0) same grows

    pub held_joined : last ≡ entered → AreStored entered → IsHeld last left found
    held_joined e s = subst (λ z. IsHeld z left found) (sym e) (held_more entered s grown found num left left_same)

    pub last_undone : slice_get all n ≡ Some last → last ≡ now
    last_undone e = newest saved now n at all all_are last e

    pub held_undone : slice_get all n ≡ Some last → IsHeld last left found
    held_undone e =
        subst (λ z. IsHeld z left found) (sym (last_undone e))
        (held_more now held.stored (prefix_same now.1.0 now.1.0 (λ i. now.1.0)) found (numbered_before now.1.0 entered.1.0 grown found num) left left_same)

  -- a mark is made of what is held
  pub held_marked : (new : List Constraint × (List Name × Quantities)) → new ≡ now → (all : List (List Constraint × (List Name × Quantities))) → all ≡ saved ++ now ∷ []
      → IsHeld new all entries
  held_marked new same all e = subst (λ z. IsHeld z all entries) (sym same) (subst (λ l. IsHeld now l entries) (sym e) (record {
    stored = held.stored;
    numbered = held.numbered;
    marks = λ k h g. elim (get_push saved now k h g) [ inl i ↦ held.marks k h i | inr i ↦ subst AreStored i.1 held.stored ];
    grows = λ k h g. elim (get_push saved now k h g) [ inl i ↦ held.grows k h i | inr i ↦ prefix_same h.1.0 now.1.0 (ap (λ (z : List Constraint × (List Name × Quantities)). z.1.0) i.1) ];
    sorted = sorted;
  }))
    where
      sorted : (j k : ℕ) (g h : List Constraint × (List Name × Quantities)) → slice_get (saved ++ now ∷ []) j ≡ Some g → slice_get (saved ++ now ∷ []) k ≡ Some h
          → j ≤ k → IsPrefix g.1.0 h.1.0
      sorted j k g h a b l = elim (get_push saved now k h b) [
        | inl i ↦ elim (get_push saved now j g a) [
          | inl o ↦ held.sorted j k g h o i l
          | inr o ↦ absurd (omega (arith, l, o.0, slice_get_within saved k h i))
        ]
        | inr i ↦ elim (get_push saved now j g a) [
          | inl o ↦ subst (λ (z : List Constraint × (List Name × Quantities)). IsPrefix g.1.0 z.1.0) i.1 (held.grows j g o)
          | inr o ↦ prefix_same g.1.0 h.1.0 (ap (λ (z : List Constraint × (List Name × Quantities)). z.1.0) (sym i.1 ∙ o.1))
        ]
      ]

  module _ (n : ℕ) (left : List (List Constraint × (List Name × Quantities))) (left_are : left ≡ take n saved) where
    kept_at : (k : ℕ) (h : List Constraint × (List Name × Quantities)) → slice_get left k ≡ Some h → (slice_get saved k ≡ Some h) × (k < n)
    kept_at k h e = get_take n k saved h (subst (λ l. slice_get l k ≡ Some h) left_are e)

    -- the mark of this number and later ones end
    pub held_forgotten : (new : List Constraint × (List Name × Quantities)) → new ≡ now → IsHeld new left entries
    held_forgotten new same = subst (λ z. IsHeld z left entries) (sym same) (record {
      stored = held.stored;
      numbered = held.numbered;
      marks = λ k h g. held.marks k h (kept_at k h g).0;
      grows = λ k h g. held.grows k h (kept_at k h g).0;
      sorted = λ j k g h a b l. held.sorted j k g h (kept_at j g a).0 (kept_at k h b).0 l;
    })

    -- what the mark keeps is given back
    pub held_given_back : (new : List Constraint × (List Name × Quantities)) → slice_get saved n ≡ Some new → IsHeld new left entries
    held_given_back new e = record {
      stored = held.marks n new e;
      numbered = numbered_before new.1.0 now.1.0 (held.grows n new e) entries held.numbered;
      marks = λ k h g. held.marks k h (kept_at k h g).0;
      grows = λ k h g. held.sorted k n h new (kept_at k h g).0 e (omega (arith, (kept_at k h g).1));
      sorted = λ j k g h a b l. held.sorted j k g h (kept_at j g a).0 (kept_at k h b).0 l;
    }
