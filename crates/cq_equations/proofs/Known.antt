-- Variables that are gathered, each once.
use Rattle.std.proofs.Common.{◌≡◌, ℕ, ◌+◌, ◌<◌, List, [], ◌∷◌, ◌++◌, length, take, get_or, Bool, true, false, nat_eq, ◌||◌, if◌then◌else◌, drop, arith, refl, ap, sym, subst, ◌∙◌, inl, inr, ◌⊎◌, append_assoc, append-nil}
use Rattle.std.specs.List.{list_any}
use Rattle.std.proofs.lemmas.List.{take_more, take-append-drop}
use Rattle.indexmap.specs.IndexSet.{insert_key}
use Rattle.spec_numbers.specs.Sums.{Monomial, Mentions}
use Rattle.spec_linear.specs.Solution.{Constraint, Has, SomeMentions}
use Rattle.spec_linear.specs.Echelon.{AreDistinct}
use Rattle.cq_frac.specs.declared.VarId.{VarId}
use Rattle.spec_numbers.proofs.Tests.{nat_eq-same, nat_eq-other}
use Rattle.spec_numbers.specs.Rational.{ℚ}
use Rattle.cq_frac.specs.declared.row.Entry.{Entry}
use Rattle.cq_form.specs.Entries.{product_of, products_of}
use Rattle.cq_equations.specs.Told.{numbers_of}
use Rattle.cq_equations.specs.Rows.{Knows}

has_front : (ps qs : List VarId) (x : ℕ) → Has x (numbers_of ps) → Has x (numbers_of (ps ++ qs))
has_front [] qs x h = absurd h
has_front (a ∷ ps) qs x (inl e) = inl e
has_front (a ∷ ps) qs x (inr h) = inr (has_front ps qs x h)

has_back : (ps qs : List VarId) (x : ℕ) → Has x (numbers_of qs) → Has x (numbers_of (ps ++ qs))
has_back [] qs x h = h
has_back (a ∷ ps) qs x h = inr (has_back ps qs x h)

has_either : (ps qs : List VarId) (x : ℕ) → Has x (numbers_of (ps ++ qs)) → Has x (numbers_of ps) ⊎ Has x (numbers_of qs)
has_either [] qs x h = inr h
has_either (a ∷ ps) qs x (inl e) = inl (inl e)
has_either (a ∷ ps) qs x (inr h) = go (has_either ps qs x h)
  where
    go : Has x (numbers_of ps) ⊎ Has x (numbers_of qs) → Has x (numbers_of (a ∷ ps)) ⊎ Has x (numbers_of qs)
    go (inl k) = inl (inr k)
    go (inr k) = inr k

-- one more behind distinct variables
distinct_more : (ks : List VarId) (x : VarId) → AreDistinct (numbers_of ks) → (Has x.0 (numbers_of ks) → ⊥) → AreDistinct (numbers_of (ks ++ x ∷ []))
distinct_more [] x d n = ((λ h. h), tt)
distinct_more (k ∷ ks) x d n = (fresh, distinct_more ks x d.1 (λ h. n (inr h)))
  where
    fresh : Has k.0 (numbers_of (ks ++ x ∷ [])) → ⊥
    fresh h = go (has_either ks (x ∷ []) k.0 h)
      where
        go : Has k.0 (numbers_of ks) ⊎ Has k.0 (numbers_of (x ∷ [])) → ⊥
        go (inl k) = d.0 k
        go (inr (inl e)) = n (inl (sym e))
        go (inr (inr z)) = z

-- the front of distinct variables has none of the rest
once : (ps qs : List VarId) (x : VarId) → AreDistinct (numbers_of (ps ++ x ∷ qs)) → Has x.0 (numbers_of ps) → ⊥
once [] qs x d h = h
once (a ∷ ps) qs x d (inl e) = d.0 (subst (λ z. Has z (numbers_of (ps ++ x ∷ qs))) e (has_back ps (x ∷ qs) x.0 (inl refl)))
once (a ∷ ps) qs x d (inr h) = once ps qs x d.1 h

-- distinct variables with the front behind
pub distinct_swap : (ps qs : List VarId) → AreDistinct (numbers_of (ps ++ qs)) → AreDistinct (numbers_of (qs ++ ps))
distinct_swap [] qs d = subst (λ ks. AreDistinct (numbers_of ks)) (sym (append-nil qs)) d
distinct_swap (a ∷ ps) qs d =
    subst (λ ks. AreDistinct (numbers_of ks)) (append_assoc qs (a ∷ []) ps)
    (distinct_swap ps (qs ++ a ∷ []) (subst (λ ks. AreDistinct (numbers_of ks)) (append_assoc ps qs (a ∷ [])) (distinct_more (ps ++ qs) a d.1 d.0)))

module _ (eq : VarId → VarId → Bool) (same : (a b : VarId) → eq a b ≡ nat_eq a.0 b.0) where
  any_has : (ks : List VarId) (x : VarId) → list_any (eq x) ks ≡ true → Has x.0 (numbers_of ks)
  any_has [] x h = cc
  any_has (k ∷ ks) x h = go (eq x k) refl (any_has ks x) h
    where
      go : (b : Bool) → eq x k ≡ b → (list_any (eq x) ks ≡ true → Has x.0 (numbers_of ks)) → (b || list_any (eq x) ks) ≡ true → Has x.0 (numbers_of (k ∷ ks))
      go true e r h = inl (nat_eq-same x.0 k.0 (sym (same x k) ∙ e))
      go false e r h = inr (r h)

  none_has : (ks : List VarId) (x : VarId) → list_any (eq x) ks ≡ false → Has x.0 (numbers_of ks) → ⊥
  none_has [] x h m = m
  none_has (k ∷ ks) x h m = go (eq x k) refl (none_has ks x) h m
    where
      go : (b : Bool) → eq x k ≡ b → (list_any (eq x) ks ≡ false → Has x.0 (numbers_of ks) → ⊥) → (b || list_any (eq x) ks) ≡ false → Has x.0 (numbers_of (k ∷ ks)) → ⊥
      go true e r h m = cc
      go false e r h (inl i) = nat_eq-other x.0 k.0 (sym (same x k) ∙ e) i
      go false e r h (inr m) = r h m

  -- a key that is there, or one more
  inserted : (ks : List VarId) (x : VarId) → ((list_any (eq x) ks ≡ true) × (insert_key eq ks x ≡ ks)) ⊎ ((list_any (eq x) ks ≡ false) × (insert_key eq ks x ≡ ks ++ x ∷ []))
  inserted ks x = go (list_any (eq x) ks) refl
    where
      go : (b : Bool) → list_any (eq x) ks ≡ b → ((list_any (eq x) ks ≡ true) × ((if b then ks else ks ++ x ∷ []) ≡ ks)) ⊎ ((list_any (eq x) ks ≡ false) × ((if b then ks else ks ++ x ∷ []) ≡ ks ++ x ∷ []))
      go true e = inl (e, refl)
      go false e = inr (e, refl)

  -- the next wanted variable
  pub wanted_more : (keep keys new : List VarId) (i : ℕ) (x : VarId) → AreDistinct (numbers_of keep) → i < length keep → x ≡ get_or keep i x → keys ≡ take i keep → new ≡ insert_key eq keys x → new ≡ take (i + 1) keep
  wanted_more keep keys new i x d l e h n = go (inserted keys x)
    where
      more : take (i + 1) keep ≡ take i keep ++ x ∷ []
      more = take_more keep i x l ∙ ap (λ y. take i keep ++ y ∷ []) (sym e)

      split : keep ≡ take i keep ++ x ∷ drop (i + 1) keep
      split = sym (take-append-drop (i + 1) keep) ∙ ap (λ t. t ++ drop (i + 1) keep) more ∙ append_assoc (take i keep) (x ∷ []) (drop (i + 1) keep)

      go : ((list_any (eq x) keys ≡ true) × (insert_key eq keys x ≡ keys)) ⊎ ((list_any (eq x) keys ≡ false) × (insert_key eq keys x ≡ keys ++ x ∷ [])) → new ≡ take (i + 1) keep
      go (inl k) = absurd (once (take i keep) (drop (i + 1) keep) x (subst (λ t. AreDistinct (numbers_of t)) split d) (subst (λ t. Has x.0 (numbers_of t)) h (any_has keys x k.0)))
      go (inr k) = n ∙ k.1 ∙ ap (λ t. t ++ x ∷ []) h ∙ sym more

  -- what is known after a variable is inserted
  pub record Inserted (keep : List VarId) (l : List Constraint) (keys new : List VarId) (x : VarId) : Type 0 where
    pub knows : Knows keep l new
    pub there : Has x.0 (numbers_of new)
    pub stays : (y : ℕ) → Has y (numbers_of keys) → Has y (numbers_of new)

  pub knows_more : (keep : List VarId) (l : List Constraint) (keys new : List VarId) (x : VarId) → Knows keep l keys → new ≡ insert_key eq keys x → Inserted keep l keys new x
  knows_more keep l keys new x k n = go (inserted keys x)
    where
      go : ((list_any (eq x) keys ≡ true) × (insert_key eq keys x ≡ keys)) ⊎ ((list_any (eq x) keys ≡ false) × (insert_key eq keys x ≡ keys ++ x ∷ [])) → Inserted keep l keys new x
      go (inl i) =
          let e : keys ≡ new = sym (n ∙ i.1) in
          record {
            knows = subst (Knows keep l) e k;
            there = subst (λ t. Has x.0 (numbers_of t)) e (any_has keys x i.0);
            stays = λ y h. subst (λ t. Has y (numbers_of t)) e h;
          }
      go (inr i) =
          let e : keys ++ x ∷ [] ≡ new = sym (n ∙ i.1) in
          let grow : (y : ℕ) → Has y (numbers_of keys) → Has y (numbers_of new) = λ y h. subst (λ t. Has y (numbers_of t)) e (has_front keys (x ∷ []) y h) in
          record {
            knows = record {
              others = k.others ++ x ∷ [];
              split = sym e ∙ ap (λ t. t ++ x ∷ []) k.split ∙ append_assoc keep k.others (x ∷ []);
              distinct = subst (λ t. AreDistinct (numbers_of t)) e (distinct_more keys x k.distinct (none_has keys x i.0));
              all = λ y m. grow y (k.all y m);
            };
            there = subst (λ t. Has x.0 (numbers_of t)) e (has_back keys (x ∷ []) x.0 (inl refl));
            stays = grow;
          }

mentions_either : (s t : List Monomial) (y : ℕ) → Mentions y (s ++ t) → Mentions y s ⊎ Mentions y t
mentions_either [] t y h = inr h
mentions_either (m ∷ s) t y (inl e) = inl (inl e)
mentions_either (m ∷ s) t y (inr h) = go (mentions_either s t y h)
  where
    go : Mentions y s ⊎ Mentions y t → Mentions y (m ∷ s) ⊎ Mentions y t
    go (inl k) = inl (inr k)
    go (inr k) = inr k

some_either : (l m : List Constraint) (y : ℕ) → SomeMentions y (l ++ m) → SomeMentions y l ⊎ SomeMentions y m
some_either [] m y h = inr h
some_either (c ∷ l) m y (inl e) = inl (inl e)
some_either (c ∷ l) m y (inr h) = go (some_either l m y h)
  where
    go : SomeMentions y l ⊎ SomeMentions y m → SomeMentions y (c ∷ l) ⊎ SomeMentions y m
    go (inl k) = inl (inr k)
    go (inr k) = inr k

-- one more member, all of whose variables are known
pub knows_member : (keep : List VarId) (told : List Constraint) (keys : List VarId) (i : ℕ) (c : Constraint) → Knows keep (take i told) keys → i < length told → c ≡ get_or told i c → ((y : ℕ) → Mentions y c.form.products → Has y (numbers_of keys)) → Knows keep (take (i + 1) told) keys
knows_member keep told keys i c k l e h = record {
  others = k.others;
  split = k.split;
  distinct = k.distinct;
  all = λ y m. go y (some_either (take i told) (c ∷ []) y (subst (SomeMentions y) (take_more told i c l ∙ ap (λ d. take i told ++ d ∷ []) (sym e)) m));
}
  where
    go : (y : ℕ) → SomeMentions y (take i told) ⊎ SomeMentions y (c ∷ []) → Has y (numbers_of keys)
    go y (inl m) = k.all y m
    go y (inr (inl m)) = h y m
    go y (inr (inr m)) = absurd m

-- one more variable of a form is known
pub entry_more : (keys new : List VarId) (entries : List Entry) (i : ℕ) (p : Entry) → i < length entries → p ≡ get_or entries i p → Has p.quantity (numbers_of new) → ((y : ℕ) → Has y (numbers_of keys) → Has y (numbers_of new)) → ((y : ℕ) → Mentions y (products_of (take i entries)) → Has y (numbers_of keys)) → (y : ℕ) → Mentions y (products_of (take (i + 1) entries)) → Has y (numbers_of new)
entry_more keys new entries i p l e there stays h y m =
    go (mentions_either (products_of (take i entries)) (products_of (p ∷ [])) y (subst (Mentions y) (ap products_of (take_more entries i p l ∙ ap (λ q. take i entries ++ q ∷ []) (sym e)) ∙ products_append (take i entries)) m))
  where
    products_append : (s : List Entry) → products_of (s ++ p ∷ []) ≡ products_of s ++ products_of (p ∷ [])
    products_append [] = refl
    products_append (q ∷ s) = ap (λ t. product_of q ∷ t) (products_append s)

    go : Mentions y (products_of (take i entries)) ⊎ Mentions y (products_of (p ∷ [])) → Has y (numbers_of new)
    go (inl k) = stays y (h y k)
    go (inr (inl k)) = subst (λ z. Has z (numbers_of new)) (sym k) there
    go (inr (inr k)) = absurd k
