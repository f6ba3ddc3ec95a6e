-- The steps of a store: what each shows of the list that it makes.
use Rattle.std.proofs.Common.{◌≡◌, ℕ, ◌<◌, arith, List, [], ◌∷◌, true, false, ◌⊎◌, inl, inr, pos, refl, ap, sym, subst, ◌∙◌}
use Rattle.spec_numbers.specs.Rational.{ℚ, 0ℚ, 1ℚ, ◌+ℚ◌, ◌-ℚ◌, IsPositive}
use Rattle.spec_numbers.specs.Sums.{factor_of}
use Rattle.spec_numbers.proofs.Ring.{int, ◌⊕◌, minus}
use Rattle.spec_numbers.proofs.RationalLemmas.{ring}
use Rattle.spec_numbers.proofs.Sign.{pos_one}
use Rattle.spec_linear.specs.declared.Relation.{Relation}
use Rattle.spec_linear.specs.declared.Relation.TheVariants.{Eq, Gt, Ge, Ne}
use Rattle.spec_linear.specs.Form.{Linear, value_at, negated_form}
use Rattle.spec_linear.specs.Solution.{Constraint, Satisfies, Has, Entails, equal_zero}
use Rattle.spec_linear.proofs.Lists.{entails_same}
use Rattle.spec_linear.specs.Weak.{above_zero, at_least_zero, not_zero, weak}
use Rattle.spec_linear.proofs.Far.{weak_satisfied}
use Rattle.spec_linear.specs.Extremes.{IsSupremum, IsUnbounded}
use Rattle.spec_simplex.specs.Reach.{Rises, Moves, Stands, Cut, Again}
use Rattle.spec_simplex.specs.Tableau.{Tableau, numbers, Within, IsWritten, IsFeasible, Place, IsNothing, IsSomething, Held, Owned, Changed, Sound, Invariant, IsOptimal, IsUnlimited}
use Rattle.spec_simplex.proofs.Standing.{x0, satisfiable}
use Rattle.spec_simplex.proofs.Join.{keep_weak, keep_strict, keep_apart, keep_zero, again_each}
use Rattle.spec_simplex.proofs.Extent.{Grows, greatest_is_supremum, unbounded_over}
use Rattle.spec_simplex.proofs.TableauWritten.{moves, nothing_is, kept_same, kept_of, solvable_of, top, open_unbounded, takes_every_value}

-- the only number of a list of one
pub one_of : (q z : ℕ) → Has z (q ∷ []) → z ≡ q
one_of q z (inl e) = e
one_of q z (inr h) = absurd h

-- ---- members and owners in a longer list, and in the other tableau
owned_more : (l : List Constraint) (c : Constraint) (f : Linear) → Owned l f → Owned (c ∷ l) f
owned_more l c f (inl m) = inl (inr m)
owned_more l c f (inr (inl m)) = inr (inl (inr m))
owned_more l c f (inr (inr m)) = inr (inr (inr m))

module _ (d e : Tableau) (w : IsWritten d) (drops restricts : List ℕ) (r : Changed d e drops restricts) where
  pub within_there : (v : ℕ → ℚ) → Within d v → ((c : ℕ) → Has c drops → numbers d v c ≡ 0ℚ) → Within e v
  within_there v g z c k = go (r.dropped_only c k)
    where
      go : Has c drops ⊎ (d.is_dropped c ≡ true) → numbers e v c ≡ 0ℚ
      go (inl s) = ap (value_at v) (r.form c (r.drops_made c s)) ∙ z c s
      go (inr s) = ap (value_at v) (r.form c (w.made_dropped c s)) ∙ g c s

  pub within_back : (v : ℕ → ℚ) → Within e v → Within d v
  within_back v g c k = ap (value_at v) (sym (r.form c (w.made_dropped c k))) ∙ g c (r.dropped_still c k)

  pub within_zero : (v : ℕ → ℚ) → Within e v → (c : ℕ) → Has c drops → numbers d v c ≡ 0ℚ
  within_zero v g c k = ap (value_at v) (sym (r.form c (r.drops_made c k))) ∙ g c (r.drops_each c k)

  pub more_made : (q : ℕ) → q < d.count → q < e.count
  more_made q h = let k = r.count in omega arith

  place_there : (f : Linear) → (p : Place d f) × (d.is_restricted p.quantity ≡ true) → (p : Place e f) × (e.is_restricted p.quantity ≡ true)
  place_there f p = (
    record {
      quantity = p.0.quantity;
      made = more_made p.0.quantity p.0.made;
      form_is = r.form p.0.quantity p.0.made ∙ p.0.form_is;
    },
    r.restricted_still p.0.quantity p.1,
  )

  held_there : (k : Relation) (f : Linear) → Held d k f → Held e k f
  held_there Eq f h = λ v g. h v (within_back v g)
  held_there Gt f h = place_there f h
  held_there Ge f h = place_there f h
  held_there Ne f h = tt

  -- what is restricted has an owner, where that holds of what is newly restricted
  owner_there : (l m : List Constraint) → ((f : Linear) → Owned l f → Owned m f) → Sound d l → ((z : ℕ) → Has z restricts → Owned m (d.form z)) → (z : ℕ) →
      z < e.count → e.is_restricted z ≡ true → Owned m (e.form z)
  owner_there l m more i o z h k = go (r.restricted_only z k)
    where
      go : Has z restricts ⊎ (d.is_restricted z ≡ true) → Owned m (e.form z)
      go (inl s) = subst (Owned m) (sym (r.form z (r.restricts_made z s))) (o z s)
      go (inr s) = let n = w.made_restricted z s in subst (Owned m) (sym (r.form z n)) (more (d.form z) (i.restricted z n s))

-- columns that are zero at the solutions of the weak list may be dropped
module _ (d e : Tableau) (drops restricts : List ℕ) (r : Changed d e drops restricts) (l : List Constraint) (i : Sound d l) (w : IsWritten e)
    (f : IsFeasible e) where
  pub sound_dropped : ((c : ℕ) → Has c drops → (v : ℕ → ℚ) → Satisfies v (weak l) → numbers d v c ≡ 0ℚ) → ((z : ℕ) → Has z restricts → Owned l (d.form z)) →
      Sound e l
  sound_dropped z o = record {
    written = w;
    feasible = f;
    inside = λ v s. within_there d e i.written drops restricts r v (i.inside v s) (λ c k. z c k v s);
    held = λ c m. held_there d e i.written drops restricts r c.relation c.form (i.held c m);
    restricted = owner_there d e i.written drops restricts r l l (λ f o. o) i o;
  }

  -- a member more
  pub sound_more : (c : Constraint) → ((z : ℕ) → Has z drops → (v : ℕ → ℚ) → Satisfies v (weak (c ∷ l)) → numbers d v z ≡ 0ℚ) →
      ((v : ℕ → ℚ) → Satisfies v (weak (c ∷ l)) → Satisfies v (weak l)) →
      Held e c.relation c.form → ((z : ℕ) → Has z restricts → Owned (c ∷ l) (d.form z)) → Sound e (c ∷ l)
  sound_more c z more h o = record {
    written = w;
    feasible = f;
    inside = λ v s. within_there d e i.written drops restricts r v (i.inside v (more v s)) (λ q k. z q k v s);
    held = held;
    restricted = owner_there d e i.written drops restricts r l (c ∷ l) (λ f o. owned_more l c f o) i o;
  }
    where
      held : (k : Constraint) → Has k (c ∷ l) → Held e k.relation k.form
      held k (inl s) = subst (λ k. Held e k.relation k.form) (sym s) h
      held k (inr m) = held_there d e i.written drops restricts r k.relation k.form (i.held k m)

-- an exchange, and a new quantity, have to show no more than the rows
module _ (d e : Tableau) (l : List Constraint) (i : Invariant d l) (r : Changed d e [] []) (w : IsWritten e) (f : IsFeasible e) where
  pub exchanged : Invariant e l
  exchanged = record {
    sound = sound_dropped d e [] [] r l i.sound w f (λ c k. absurd k) (λ z k. absurd k);
    stands =
        (kept_same (Within d) (Within e) l (λ v g. within_there d e i.sound.written [] [] r v g (λ c k. absurd k)) (within_back d e i.sound.written [] [] r)
        (kept_of d l i)).stands;
  }

-- ---- an inequality
module _ (d e : Tableau) (l : List Constraint) (i : Sound d l) (q : ℕ) (h : q < d.count) (r : Changed d e [] (q ∷ [])) (w : IsWritten e)
    (f : IsFeasible e) where
  own_place : (p : Place e (d.form q)) × (e.is_restricted p.quantity ≡ true)
  own_place = (record { quantity = q; made = more_made d e i.written [] (q ∷ []) r q h; form_is = r.form q h }, r.restricts_each q (inl refl))

  -- the new tableau speaks of the longer weak list, whether or not the new row rises
  pub sound_weak : Sound e (at_least_zero (d.form q) ∷ l)
  sound_weak =
      sound_more d e [] (q ∷ []) r l i w f (at_least_zero (d.form q)) (λ z k. absurd k) (λ v s. s.1) own_place
      (λ z s. subst (λ x. Owned (at_least_zero (d.form q) ∷ l) (d.form x)) (sym (one_of q z s)) (inl (inl refl)))

  pub sound_strict : Sound e (above_zero (d.form q) ∷ l)
  sound_strict =
      sound_more d e [] (q ∷ []) r l i w f (above_zero (d.form q)) (λ z k. absurd k) (λ v s. s.1) own_place
      (λ z s. subst (λ x. Owned (above_zero (d.form q) ∷ l) (d.form x)) (sym (one_of q z s)) (inr (inl (inl refl))))

module _ (d e : Tableau) (l : List Constraint) (i : Invariant d l) (q : ℕ) (h : q < d.count) (r : Changed d e [] (q ∷ [])) (w : IsWritten e) (f : IsFeasible e)
    (up : Rises l (d.form q)) where
  there : (v : ℕ → ℚ) → Within d v → Within e v
  there v g = within_there d e i.sound.written [] (q ∷ []) r v g (λ c k. absurd k)

  -- where it rises, all stands
  pub joined_weak : Invariant e (at_least_zero (d.form q) ∷ l)
  joined_weak = record {
    sound = sound_weak d e l i.sound q h r w f;
    stands =
        (kept_same (Within d) (Within e) (at_least_zero (d.form q) ∷ l) there (within_back d e i.sound.written [] (q ∷ []) r)
        (keep_weak (Within d) l (d.form q) (kept_of d l i) up)).stands;
  }

  pub joined_strict : Invariant e (above_zero (d.form q) ∷ l)
  joined_strict = record {
    sound = sound_strict d e l i.sound q h r w f;
    stands =
        (kept_same (Within d) (Within e) (above_zero (d.form q) ∷ l) there (within_back d e i.sound.written [] (q ∷ []) r)
        (keep_strict (Within d) l (d.form q) (kept_of d l i) up)).stands;
  }

-- ---- f =\= 0, where its row is something
module _ (d : Tableau) (l : List Constraint) (i : Invariant d l) (q : ℕ) (h : q < d.count) where
  pub joined_apart : IsSomething (d.row q) → Invariant d (not_zero (d.form q) ∷ l)
  joined_apart s = record {
    sound = record {
      written = i.sound.written;
      feasible = i.sound.feasible;
      inside = i.sound.inside;
      held = held;
      restricted = λ z m k. owned_more l (not_zero (d.form q)) (d.form z) (i.sound.restricted z m k);
    };
    stands = (keep_apart (Within d) l (d.form q) (kept_of d l i) (moves d i.sound.written q h s)).stands;
  }
    where
      held : (c : Constraint) → Has c (not_zero (d.form q) ∷ l) → Held d c.relation c.form
      held c (inl s) = subst (λ k. Held d k.relation k.form) (sym s) tt
      held c (inr m) = i.sound.held c m

  -- an equation is entailed where the row is nothing, and not where it is something
  pub entails_zero : IsNothing (d.row q) → Entails l (equal_zero (d.form q))
  entails_zero n = (entails_same l (equal_zero (d.form q))).1 (λ v s. nothing_is d i.sound.written q h n v (i.sound.inside v (weak_satisfied v l s)))

  pub not_entails_zero : IsSomething (d.row q) → Entails l (equal_zero (d.form q)) → ⊥
  not_entails_zero s e =
      let v = satisfiable (Within d) (not_zero (d.form q) ∷ l) (keep_apart (Within d) l (d.form q) (kept_of d l i) (moves d i.sound.written q h s)) in
      v.1.0 ((entails_same l (equal_zero (d.form q))).0 e v.0 v.1.1)

  -- ---- suprema
  pub sup_of : IsOptimal d (d.row q).live → IsSupremum l (d.form q) (d.row q).constant
  sup_of f = greatest_is_supremum l (d.form q) (d.row q).constant (solvable_of d l i) (top d l i.sound q h f)

  pub unbounded_of : (c : ℕ) → IsUnlimited d c → IsPositive (factor_of c (d.row q).live) → IsUnbounded l (d.form q)
  unbounded_of c o p = unbounded_over l (d.form q) (solvable_of d l i) (open_unbounded d l i.sound q h c o p)

  pub unbounded_free : (c : ℕ) → d.is_live c ≡ true → d.is_restricted c ≡ false → (factor_of c (d.row q).live ≡ 0ℚ → ⊥) → IsUnbounded l (d.form q)
  unbounded_free c e r n = unbounded_over l (d.form q) (solvable_of d l i) go
    where
      go : Grows l (d.form q)
      go y =
          let o = takes_every_value d l i.sound q h c e r n (y +ℚ 1ℚ) in
          (o.0, o.1, record { gap = subst IsPositive (ring (y ∷ []) (int (pos 1)) (x0 ⊕ int (pos 1) ⊕ minus x0) refl ∙ ap (λ w. w -ℚ y) (sym o.2)) pos_one })

-- ---- an equation: its own quantity is dropped
module _ (d e : Tableau) (l : List Constraint) (q : ℕ) (restricts : List ℕ) (r : Changed d e (q ∷ []) restricts) (own : (z : ℕ) → Has z restricts → z ≡ q)
    (b : IsWritten d) (w : IsWritten e) (f : IsFeasible e) where
  zero_owned : (z : ℕ) → Has z restricts → Owned (equal_zero (d.form q) ∷ l) (d.form z)
  zero_owned z s = subst (λ x. Owned (equal_zero (d.form q) ∷ l) (d.form x)) (sym (own z s)) (inr (inr (inl refl)))

  pub sound_zero : Sound d l → Sound e (equal_zero (d.form q) ∷ l)
  sound_zero i =
      sound_more d e (q ∷ []) restricts r l i w f (equal_zero (d.form q)) (λ z s v k. ap (numbers d v) (one_of q z s) ∙ k.0) (λ v s. s.1)
      (λ v g. within_zero d e b (q ∷ []) restricts r v g q (inl refl)) zero_owned

  cut_there : (v : ℕ → ℚ) → Cut (Within d) (d.form q) v → Within e v
  cut_there v g = within_there d e b (q ∷ []) restricts r v g.0 (λ c s. ap (numbers d v) (one_of q c s) ∙ g.1)

  cut_back : (v : ℕ → ℚ) → Within e v → Cut (Within d) (d.form q) v
  cut_back v g = (within_back d e b (q ∷ []) restricts r v g, within_zero d e b (q ∷ []) restricts r v g q (inl refl))

  moves_back : (g : Linear) → Moves (Within e) g → Moves (Cut (Within d) (d.form q)) g
  moves_back g m = record { at = m.at; inside = cut_back m.at m.inside; apart = m.apart }

  -- where it rises and falls, all stands but the disequations, whose rows are to be seen again
  pub joined_zero : Invariant d l → Rises l (d.form q) → Rises l (negated_form (d.form q)) →
      ((c : Constraint) → Has c l → c.relation ≡ Ne → Moves (Within e) c.form) → Invariant e (equal_zero (d.form q) ∷ l)
  joined_zero i up down n = record {
    sound = sound_zero i.sound;
    stands = (kept_same (Cut (Within d) (d.form q)) (Within e) (equal_zero (d.form q) ∷ l) cut_there cut_back
        (keep_zero (Within d) l (d.form q) (kept_of d l i) up down (λ c m s. moves_back c.form (n c m s)))).stands;
  }

-- ---- fewer solutions: what has to be seen again
pub joined_again : (d e : Tableau) (l : List Constraint) (c : Constraint) → Invariant d l → Sound e (c ∷ l) → ((v : ℕ → ℚ) → Within e v → Within d v) →
    Stands (Within e) (c ∷ l) c.relation c.form → ((k : Constraint) → Has k l → Again (Within e) (c ∷ l) k.relation k.form) → Invariant e (c ∷ l)
joined_again d e l c i s back own again = record { sound = s; stands = again_each (Within d) (Within e) l c back i.stands own again }
