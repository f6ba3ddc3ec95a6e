-- What a pass leaves: a sublist with the same solutions beside the others, none of whose rows follows.
use Rattle.std.proofs.Common.{◌≡◌, ◌⊎◌, inl, inr, List, [], ◌∷◌, ◌++◌, ap, ap₂, sym, subst, ◌∙◌}
use Rattle.std.proofs.lemmas.List.{append_assoc, append-nil}
use Rattle.spec_linear.specs.Solution.{Constraint, Entails, Equivalent, Has}
use Rattle.spec_projection.specs.Irredundant.{IsSublist, empty, kept, left_out, IsIrredundantSublist, NoneFollows, Sifts, done, dropped, stays}
use Rattle.spec_projection.proofs.Members.{has_either, alike_by_members, alike_refl, member_entailed}
use Rattle.spec_projection.proofs.Splits.{Before, Behind, split, split_one, entails_members, In, in_first, in_second, in_third, has_in, in_has}
use Rattle.spec_linear.proofs.Lists.{alike_trans}

pub sublist_has : (k l : List Constraint) → IsSublist k l → (c : Constraint) → Has c k → Has c l
sublist_has _ _ empty c h = h
sublist_has _ _ (kept s) c (inl e) = inl e
sublist_has _ _ (kept {k = k} {l = l} s) c (inr h) = inr (sublist_has k l s c h)
sublist_has k _ (left_out {l = l} s) c h = inr (sublist_has k l s c h)

-- ---- the rows that were gone through

-- at the start
pub none_yet : (beside : List Constraint) → NoneFollows [] beside
none_yet beside [] m c e f = cc
none_yet beside (z ∷ k) m c e f = cc

-- a row is dropped
pub less_beside : (part beside less : List Constraint) → ((c : Constraint) → Has c less → Has c beside) → NoneFollows part beside → NoneFollows part less
less_beside part beside less i n k m c e f = n k m c e (entails_members (k ++ m ++ less) (k ++ m ++ beside) c more f)
  where
    more : (d : Constraint) → Has d (k ++ m ++ less) → Has d (k ++ m ++ beside)
    more d h = elim (has_in d k m less h) [
      | in_first j ↦ in_has d k m beside (in_first j)
      | in_second j ↦ in_has d k m beside (in_second j)
      | in_third j ↦ in_has d k m beside (in_third (i d j))
    ]

-- a row stays
pub one_more : (part beside : List Constraint) (d : Constraint) → NoneFollows part (d ∷ beside) → (Entails (part ++ beside) d → ⊥) → NoneFollows (part ++ d ∷ []) beside
one_more part beside d n own k m c e f = go (split part (d ∷ []) k m c e)
  where
    go : Before part (d ∷ []) k c m ⊎ Behind part (d ∷ []) k c m → ⊥
    go (inl b) = n k b.behind c b.first (entails_members (k ++ m ++ beside) (k ++ b.behind ++ (d ∷ beside)) c more f)
      where
        more : (a : Constraint) → Has a (k ++ m ++ beside) → Has a (k ++ b.behind ++ (d ∷ beside))
        more a h = elim (has_in a k m beside h) [
          | in_first j ↦ in_has a k b.behind (d ∷ beside) (in_first j)
          | in_second j ↦ elim (has_either a b.behind (d ∷ []) (subst (Has a) b.rest j)) [
            | inl i ↦ in_has a k b.behind (d ∷ beside) (in_second i)
            | inr i ↦ elim i [ inl w ↦ in_has a k b.behind (d ∷ beside) (in_third (inl w)) | inr w ↦ absurd w ]
          ]
          | in_third j ↦ in_has a k b.behind (d ∷ beside) (in_third (inr j))
        ]
    go (inr b) =
        let o = split_one d b.front m c b.second in
        let front : k ≡ part = b.rest ∙ ap (λ w. part ++ w) o.front ∙ append-nil part in
        own (subst (λ z. Entails (part ++ beside) z) o.is
        (subst (λ w. Entails (w ++ beside) c) (ap₂ (λ u v. u ++ v) front o.behind ∙ append-nil part) f))

-- ---- the whole pass

module _ (beside : List Constraint) where
  pub sifted_none : (before left final : List Constraint) → NoneFollows before (left ++ beside) → Sifts beside before left final → NoneFollows final beside
  sifted_none before [] _ n done = n
  sifted_none before (c ∷ left) final n (dropped e s) =
      sifted_none before left final (less_beside before (c ∷ left ++ beside) (left ++ beside) (λ d h. inr h) n) s
  sifted_none before (c ∷ left) final n (stays e s) =
      sifted_none (before ++ c ∷ []) left final (one_more before (left ++ beside) c n (λ f. e (subst (λ w. Entails w c) (sym (append_assoc before left beside)) f))) s

  -- what is kept and those left hold what all that were there hold
  pub sifted_alike : (before left final : List Constraint) → Sifts beside before left final → Equivalent (final ++ beside) (before ++ left ++ beside)
  sifted_alike before [] _ done =
      subst (λ w. Equivalent (before ++ beside) (w ++ beside)) (sym (append-nil before)) (alike_refl (before ++ beside))
  sifted_alike before (c ∷ left) final (dropped e s) =
      alike_trans (final ++ beside) (before ++ left ++ beside) (before ++ (c ∷ left) ++ beside) (sifted_alike before left final s)
      (alike_by_members (before ++ left ++ beside) (before ++ (c ∷ left) ++ beside)
      (λ d h. member_entailed (before ++ (c ∷ left) ++ beside) d (in_has d before (c ∷ left) beside (fewer d (has_in d before left beside h))))
      (λ d h. again d (has_in d before (c ∷ left) beside h)))
    where
      fewer : (d : Constraint) → In d before left beside → In d before (c ∷ left) beside
      fewer d (in_first j) = in_first j
      fewer d (in_second j) = in_second (inr j)
      fewer d (in_third j) = in_third j

      again : (d : Constraint) → In d before (c ∷ left) beside → Entails (before ++ left ++ beside) d
      again d (in_first j) = member_entailed (before ++ left ++ beside) d (in_has d before left beside (in_first j))
      again d (in_second (inl w)) = subst (Entails (before ++ left ++ beside)) (sym w) e
      again d (in_second (inr j)) = member_entailed (before ++ left ++ beside) d (in_has d before left beside (in_second j))
      again d (in_third j) = member_entailed (before ++ left ++ beside) d (in_has d before left beside (in_third j))
  sifted_alike before (c ∷ left) final (stays e s) =
      subst (λ w. Equivalent (final ++ beside) (w ++ beside)) (append_assoc before (c ∷ []) left) (sifted_alike (before ++ c ∷ []) left final s)

-- the rest of what a pass leaves is a sublist of what it goes through
pub record Rest (before left final : List Constraint) : Type 0 where
  pub rows : List Constraint
  pub parts : final ≡ before ++ rows
  pub sublist : IsSublist rows left

pub sifted_rest : (beside before left final : List Constraint) → Sifts beside before left final → Rest before left final
sifted_rest beside before [] _ done = record { rows = []; parts = sym (append-nil before); sublist = empty }
sifted_rest beside before (c ∷ left) final (dropped e s) =
    let r = sifted_rest beside before left final s in
    record { rows = r.rows; parts = r.parts; sublist = left_out r.sublist }
sifted_rest beside before (c ∷ left) final (stays e s) =
    let r = sifted_rest beside (before ++ c ∷ []) left final s in
    record { rows = c ∷ r.rows; parts = r.parts ∙ append_assoc before (c ∷ []) r.rows; sublist = kept r.sublist }

pub sifted_sublist : (beside left final : List Constraint) → Sifts beside [] left final → IsSublist final left
sifted_sublist beside left final s =
    let r = sifted_rest beside [] left final s in subst (λ w. IsSublist w left) (sym r.parts) r.sublist

-- a pass with nothing beside
pub sifted_irredundant : (left final : List Constraint) → Sifts [] [] left final → IsIrredundantSublist final left
sifted_irredundant left final s = record {
  sublist = sifted_sublist [] left final s;
  same = subst (λ w. Equivalent w left) (append-nil final) (subst (λ w. Equivalent (final ++ []) w) (append-nil left) (sifted_alike [] [] left final s));
  irredundant = λ k m c e f. sifted_none [] [] left final (none_yet (left ++ [])) s k m c e (subst (λ w. Entails w c) (sym (append-nil (k ++ m))) f);
}

-- with a decision there is a pass
pub passes : ((l : List Constraint) (c : Constraint) → Entails l c ⊎ (Entails l c → ⊥)) → (beside before left : List Constraint) → (final : List Constraint) × Sifts beside before left final
passes decide beside before [] = (before, done)
passes decide beside before (c ∷ left) = go (decide (before ++ left ++ beside) c) (passes decide beside before left) (passes decide beside (before ++ c ∷ []) left)
  where
    go : Entails (before ++ left ++ beside) c ⊎ (Entails (before ++ left ++ beside) c → ⊥) → (final : List Constraint) × Sifts beside before left final
        → (final : List Constraint) × Sifts beside (before ++ c ∷ []) left final → (final : List Constraint) × Sifts beside before (c ∷ left) final
    go (inl e) without with_it = (without.0, dropped e without.1)
    go (inr n) without with_it = (with_it.0, stays n with_it.1)

beside_both : (k l m n : List Constraint) → k ++ l ++ (m ++ n) ≡ k ++ (l ++ m) ++ n
beside_both k l m n = sym (append_assoc (k ++ l) m n) ∙ ap (λ w. w ++ n) (append_assoc k l m)

-- a pass over one part beside the other, and then over the other, is a pass over both
pub sifted_halves : (beside other kept part mid final : List Constraint) → Sifts (other ++ beside) kept part mid → Sifts beside mid other final → Sifts beside kept (part ++ other) final
sifted_halves beside other before [] _ final done t = t
sifted_halves beside other before (c ∷ left) mid final (dropped e s) t =
    dropped (subst (λ w. Entails w c) (beside_both before left other beside) e) (sifted_halves beside other before left mid final s t)
sifted_halves beside other before (c ∷ left) mid final (stays e s) t =
    stays (λ f. e (subst (λ w. Entails w c) (sym (beside_both before left other beside)) f)) (sifted_halves beside other (before ++ c ∷ []) left mid final s t)
