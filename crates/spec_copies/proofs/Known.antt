-- The copies of the samples.
use Rattle.std.proofs.Common.{◌≡◌, ◌⊎◌, inl, inr, ℕ, List, [], ◌∷◌, ◌++◌, pos, refl, sym, ap, ap₂, subst, ◌∙◌, arith, append-nil}
use Rattle.std.specs.Prelude.{filter}
use Rattle.spec_numbers.specs.Rational.{ℚ, 0ℚ, 1ℚ, ◌+ℚ◌, ◌-ℚ◌, ◌*ℚ◌, neg_ℚ, IsNotNegative}
use Rattle.spec_numbers.proofs.Ring.{var, int, ◌⊕◌, ◌⊗◌, minus}
use Rattle.spec_numbers.proofs.RationalLemmas.{ring}
use Rattle.spec_linear.specs.declared.Relation.{Relation}
use Rattle.spec_linear.specs.declared.Relation.TheVariants.{Eq, Gt, Ge, Ne}
use Rattle.spec_linear.specs.Form.{changed_at}
use Rattle.spec_linear.specs.Solution.{Constraint, Has, SomeMentions, MentionsOnly, Satisfies, Extends, Same}
use Rattle.spec_projection.specs.Targets.{AgreeOn}
use Rattle.spec_projection.proofs.Members.{alike_refl}
use Rattle.spec_projection.proofs.SameOn.{extends_by_values, same_on_refl, same_from_same_on}
use Rattle.spec_terms.specs.Term.{Occurs}
use Rattle.spec_syntax.specs.Trees.{Tree}
use Rattle.spec_branch.specs.Branch.{State, Copied, Frozen, read}
use Rattle.spec_branch.specs.Examples.{X, Y}
use Rattle.spec_copies.specs.Reach.{Link, delayed_link, asleep_link, links, Reaches, stands, linked, touches, delayed_terms, asleep_terms}
use Rattle.spec_copies.specs.Copies.{IsRest, reach, IsCopy}
use Rattle.spec_copies.specs.Alike.{SameCopy}
use Rattle.spec_copies.specs.Samples.{positive, positive_copy, successor, successor_copy, product, product_term, product_copy, frozen, frozen_goal, frozen_copy, free_copy}
use Rattle.spec_copies.proofs.Same.{ascending_same, rows_alike}
use Rattle.spec_copies.proofs.Unkept.{none_kept}

-- the copy with these variables beside the term's, and these rows
abbrev the_copy : State → Tree → List ℕ → List Constraint → Copied
the_copy st t rest rows = record {
  variables = reach st t rest;
  term = read st t;
  numeric = filter st.numeric (reach st t rest);
  rows = rows;
  told = filter (touches (reach st t rest)) (delayed_terms st);
  asleep = filter (λ a. touches (reach st t rest) (asleep_link a).from) (asleep_terms st);
}

abbrev NoDisequation : List Constraint → Type 0
NoDisequation l = (d : Constraint) → Has d l → d.relation ≡ Ne → ⊥

module _ (st : State) (t : Tree) (rest : List ℕ) (rows : List Constraint) (is_rest : IsRest st t rest) (none : NoDisequation st.linear)
    (same : Same (reach st t rest) rows st.linear) (c : Copied) (copy : IsCopy st t c) where
  rest_same : copy.rest ≡ rest
  rest_same =
      ascending_same copy.rest rest copy.is_rest.older_first is_rest.older_first
      (λ v m. (is_rest.reached v).1 ((copy.is_rest.reached v).0 m))
      (λ v m. (copy.is_rest.reached v).1 ((is_rest.reached v).0 m))

  variables_same : reach st t copy.rest ++ copy.kept ≡ reach st t rest
  variables_same =
      ap₂ (λ (r k : List ℕ). reach st t r ++ k) rest_same (none_kept (reach st t copy.rest) st.linear copy.kept none copy.is_kept)
      ∙ append-nil (reach st t rest)

  known : SameCopy c (the_copy st t rest rows)
  known = record {
    variables = copy.variables_are ∙ variables_same;
    term = copy.term_is;
    numeric = copy.numeric_are ∙ ap (filter st.numeric) variables_same;
    rows =
        rows_alike (reach st t rest) c.rows rows st.linear st.linear (alike_refl st.linear)
        (subst (λ (vs : List ℕ). Same vs c.rows st.linear) variables_same copy.rows_say) same;
    told = copy.told_are ∙ ap (λ (r : List ℕ). filter (touches (reach st t r)) (delayed_terms st)) rest_same;
    asleep = copy.asleep_are ∙ ap (λ (r : List ℕ). filter (λ a. touches (reach st t r) (asleep_link a).from) (asleep_terms st)) rest_same;
  }

-- ---- general facts

no_more : (st : State) (t : Tree) → ((v : ℕ) → Reaches (read st t) (links st) v → Occurs v (read st t)) → IsRest st t []
no_more st t of_term = record { older_first = tt; reached = λ v. (λ h. absurd h, λ h. h.1 (of_term v h.0)) }

unlinked : (t : Tree) (v : ℕ) → Reaches t [] v → Occurs v t
unlinked t v (stands o) = o
unlinked t v (linked k h r o q) = absurd h

itself : (vs : List ℕ) (l : List Constraint) → MentionsOnly vs l → Same vs l l
itself vs l only = same_from_same_on vs l l only (same_on_refl vs l)

nothing_told : NoDisequation []
nothing_told d h e = h

other_relation : (c d : Constraint) → d ≡ c → d.relation ≡ Ne → c.relation ≡ Ne
other_relation c d i e = sym (ap (λ (z : Constraint). z.relation) i) ∙ e

-- ---- X>0

positive_only : MentionsOnly (0 ∷ []) positive.linear
positive_only v (inl (inl e)) = inl e
positive_only v (inl (inr n)) = absurd n
positive_only v (inr n) = absurd n

positive_told : NoDisequation positive.linear
positive_told d (inl i) e = let w : Gt ≡ Ne = other_relation _ d i e in cc
positive_told d (inr h) e = absurd h

pub positive_known : (c : Copied) → IsCopy positive X c → SameCopy c positive_copy
positive_known c copy = known positive X [] positive.linear (no_more positive X (unlinked X)) positive_told (itself (0 ∷ []) positive.linear positive_only) c copy

-- ---- X>=1, Y=X+1

successor_told : NoDisequation successor.linear
successor_told d (inl i) e = let w : Ge ≡ Ne = other_relation _ d i e in cc
successor_told d (inr (inl i)) e = let w : Eq ≡ Ne = other_relation _ d i e in cc
successor_told d (inr (inr h)) e = absurd h

successor_only : MentionsOnly (1 ∷ []) successor_copy.rows
successor_only v (inl (inl e)) = inl e
successor_only v (inl (inr n)) = absurd n
successor_only v (inr n) = absurd n

-- X is one less than Y
abbrev before : (ℕ → ℚ) → ℕ → ℚ
before a = changed_at 0 (a 1 -ℚ 1ℚ) a

forth : (a : ℕ → ℚ) → Satisfies a successor_copy.rows → Extends (1 ∷ []) a successor.linear
forth a h =
    (extends_by_values (1 ∷ []) a successor.linear).1 (
      before a,
      (λ v k. elim k [ inl e ↦ subst (λ (z : ℕ). before a z ≡ a z) (sym e) refl | inr n ↦ absurd n ]),
      (
        subst IsNotNegative
            (ring (a 1 ∷ []) (minus (int (pos 1) ⊕ int (pos 1)) ⊕ (int (pos 1) ⊗ var 0 ⊕ int (pos 0)))
            (minus (int (pos 1)) ⊕ (int (pos 1) ⊗ (var 0 ⊕ minus (int (pos 1))) ⊕ int (pos 0))) refl)
            h.0,
        (
          ring (a 1 ∷ [])
              (minus (int (pos 1)) ⊕ (minus (int (pos 1)) ⊗ (var 0 ⊕ minus (int (pos 1))) ⊕ (int (pos 1) ⊗ var 0 ⊕ int (pos 0))))
              (int (pos 0)) refl,
          tt,
        ),
      ),
    )

back : (a : ℕ → ℚ) → Extends (1 ∷ []) a successor.linear → Satisfies a successor_copy.rows
back a h =
    let b = (extends_by_values (1 ∷ []) a successor.linear).0 h in
    let same : b.0 1 ≡ a 1 = b.1 1 (inl refl) in
    let sum : neg_ℚ 1ℚ +ℚ (1ℚ *ℚ b.0 0 +ℚ 0ℚ) ≡ neg_ℚ (1ℚ +ℚ 1ℚ) +ℚ (1ℚ *ℚ a 1 +ℚ 0ℚ) =
    ring (b.0 0 ∷ b.0 1 ∷ [])
    (minus (int (pos 1)) ⊕ (int (pos 1) ⊗ var 0 ⊕ int (pos 0)))
    ((minus (int (pos 1) ⊕ int (pos 1)) ⊕ (int (pos 1) ⊗ var 1 ⊕ int (pos 0)))
    ⊕ minus (minus (int (pos 1)) ⊕ (minus (int (pos 1)) ⊗ var 0 ⊕ (int (pos 1) ⊗ var 1 ⊕ int (pos 0))))) refl
    ∙ ap₂ (λ (z w : ℚ). (neg_ℚ (1ℚ +ℚ 1ℚ) +ℚ (1ℚ *ℚ z +ℚ 0ℚ)) +ℚ neg_ℚ w) same b.2.1.0
    ∙ ring (a 1 ∷ []) ((minus (int (pos 1) ⊕ int (pos 1)) ⊕ (int (pos 1) ⊗ var 0 ⊕ int (pos 0))) ⊕ minus (int (pos 0)))
    (minus (int (pos 1) ⊕ int (pos 1)) ⊕ (int (pos 1) ⊗ var 0 ⊕ int (pos 0))) refl in
    (subst IsNotNegative sum b.2.0, tt)

pub successor_known : (c : Copied) → IsCopy successor Y c → SameCopy c successor_copy
successor_known c copy =
    known successor Y [] successor_copy.rows (no_more successor Y (unlinked Y)) successor_told
    (record { mentions = successor_only; same = λ a. (forth a, back a) }) c copy

-- ---- X*Y=6

in_product : (v : ℕ) → Occurs v product_term → (v ≡ 0) ⊎ (v ≡ 1)
in_product v (inl (inl e)) = inl e
in_product v (inl (inr e)) = inr e
in_product v (inr n) = absurd n

product_reach : (v : ℕ) → Reaches X (delayed_link product_term ∷ []) v → (v ≡ 0) ⊎ (v ≡ 1)
product_reach v (stands o) = inl o
product_reach v (linked k (inl e) r o q) = in_product v (subst (λ (z : Link). Occurs v z.to) e q)
product_reach v (linked k (inr n) r o q) = absurd n

product_rest : IsRest product X (1 ∷ [])
product_rest = record { older_first = tt; reached = λ v. (forth_to v, back_from v) }
  where
    forth_to : (v : ℕ) → Has v (1 ∷ []) → Reaches X (delayed_link product_term ∷ []) v × (Occurs v X → ⊥)
    forth_to v (inl e) = (linked {w = 0} (delayed_link product_term) (inl refl) (stands refl) (inl (inl refl)) (inl (inr e)), λ (o : v ≡ 0). omega (arith, o, e))
    forth_to v (inr n) = absurd n

    back_from : (v : ℕ) → Reaches X (delayed_link product_term ∷ []) v × (Occurs v X → ⊥) → Has v (1 ∷ [])
    back_from v h = elim (product_reach v h.0) [ inl e ↦ absurd (h.1 e) | inr e ↦ inl e ]

nothing_only : (vs : List ℕ) → MentionsOnly vs []
nothing_only vs v h = absurd h

pub product_known : (c : Copied) → IsCopy product X c → SameCopy c product_copy
product_known c copy = known product X (1 ∷ []) [] product_rest nothing_told (itself (0 ∷ 1 ∷ []) [] (nothing_only (0 ∷ 1 ∷ []))) c copy

-- ---- freeze(X,p(Y))

abbrev waiting : Link
waiting = asleep_link (Frozen X frozen_goal)

frozen_reach : (v : ℕ) → Reaches X (waiting ∷ []) v → (v ≡ 0) ⊎ (v ≡ 1)
frozen_reach v (stands o) = inl o
frozen_reach v (linked k (inl e) r o q) = inr (subst (λ (z : Link). Occurs v z.to) e q)
frozen_reach v (linked k (inr n) r o q) = absurd n

frozen_rest : IsRest frozen X (1 ∷ [])
frozen_rest = record { older_first = tt; reached = λ v. (forth_to v, back_from v) }
  where
    forth_to : (v : ℕ) → Has v (1 ∷ []) → Reaches X (waiting ∷ []) v × (Occurs v X → ⊥)
    forth_to v (inl e) = (linked {w = 0} waiting (inl refl) (stands refl) refl e, λ (o : v ≡ 0). omega (arith, o, e))
    forth_to v (inr n) = absurd n

    back_from : (v : ℕ) → Reaches X (waiting ∷ []) v × (Occurs v X → ⊥) → Has v (1 ∷ [])
    back_from v h = elim (frozen_reach v h.0) [ inl e ↦ absurd (h.1 e) | inr e ↦ inl e ]

-- from Y no link leads on
free_reach : (v : ℕ) → Reaches Y (waiting ∷ []) v → v ≡ 1
free_reach v (stands o) = o
free_reach v (linked {w = w} k (inl e) r o q) =
    let a : w ≡ 1 = free_reach w r in let b : w ≡ 0 = subst (λ (z : Link). Occurs w z.from) e o in absurd (omega (arith, a, b))
free_reach v (linked k (inr n) r o q) = absurd n

pub frozen_known : (c : Copied) → IsCopy frozen X c → SameCopy c frozen_copy
frozen_known c copy = known frozen X (1 ∷ []) [] frozen_rest nothing_told (itself (0 ∷ 1 ∷ []) [] (nothing_only (0 ∷ 1 ∷ []))) c copy

pub free_known : (c : Copied) → IsCopy frozen Y c → SameCopy c free_copy
free_known c copy = known frozen Y [] [] (no_more frozen Y free_reach) nothing_told (itself (1 ∷ []) [] (nothing_only (1 ∷ []))) c copy
