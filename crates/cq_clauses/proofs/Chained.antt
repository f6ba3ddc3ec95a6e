-- Predicates are found along the chains of their names.
use Rattle.std.proofs.Common.{◌≡◌, ℕ, zero, suc, ◌+◌, ◌<◌, ◌≤◌, ◌==◌, Bool, true, false, cond, not, ◌||◌, List, [], ◌∷◌, ◌++◌, length, map, take, set, get_or, replicate, position, Option, Some, None, nat_lt, refl, sym, ap, ap₂, subst, ◌∙◌, inl, inr, arith, length-append, true≢false}
use Rattle.std.specs.Prelude.{slice_get}
use Rattle.std.specs.List.{list_any, position_or_len}
use Rattle.std.proofs.lemmas.Bool.{cases_eq, cases_lt, lt-ltb, ltb-true, false_from_ne_true, and_from}
use Rattle.std.proofs.lemmas.List.{get_or-set_same, get_or-set_other, take_all}
use Rattle.std.proofs.lemmas.List.Elements.{All-more, All-weaker}
use Rattle.std.proofs.lemmas.Option.{none-some, same_Some, slice_get_within}
use Rattle.spec_numbers.proofs.Places.{get_push, get_kept}
use Rattle.spec_numbers.proofs.Tests.{nat_eq-same, nat_eq-self, both_are, or_left, or_right}
use Rattle.cq_term.specs.declared.names.Pred.{Pred}
use Rattle.cq_clauses.specs.declared.predicates.Named.{Named}
use Rattle.cq_clauses.specs.Database.{same_pred}
use Rattle.cq_clauses.specs.Named.{pred_named, behind, IsNewest, AreLinked, AreChained, Searches, HasPlaces}
use Rattle.cq_clauses.proofs.Found.{position-map, list_any-map}
use Rattle.cq_clauses.proofs.Writes.{got_last}

-- ---- the only one that passes a test

module _ {A : Type 0} (test : A → Bool) where
  first_at : (xs : List A) (i : ℕ) (x : A) → slice_get xs i ≡ Some x → test x ≡ true → ((k : ℕ) (y : A) → k < i → slice_get xs k ≡ Some y → test y ≡ false) → position_or_len test xs ≡ i
  first_at [] i x got passes others = absurd (none-some x got)
  first_at (y ∷ xs) zero x got passes others = ap (λ b. cond (not b) (1 + position_or_len test xs) 0) (ap test (same_Some y x got) ∙ passes)
  first_at (y ∷ xs) (suc i) x got passes others =
      let rest = first_at xs i x got passes (λ k z l g. others (suc k) z (omega (arith, l)) g) in
      ap (λ b. cond (not b) (1 + position_or_len test xs) 0) (others 0 y (omega arith) refl) ∙ omega (arith, rest)

  pub place_of_first : (xs : List A) (i : ℕ) (x : A) → slice_get xs i ≡ Some x → test x ≡ true → ((k : ℕ) (y : A) → k < i → slice_get xs k ≡ Some y → test y ≡ false) → position test xs ≡ Some i
  place_of_first xs i x got passes others =
      ap (λ k. cond (nat_lt k (length xs)) (Some k) None) (first_at xs i x got passes others)
      ∙ ap (λ b. cond b (Some i) None) (lt-ltb i (length xs) (slice_get_within xs i x got))

  pub any_at : (xs : List A) (i : ℕ) (x : A) → slice_get xs i ≡ Some x → test x ≡ true → list_any test xs ≡ true
  any_at [] i x got passes = absurd (none-some x got)
  any_at (y ∷ xs) zero x got passes = or_left (test y) (list_any test xs) (ap test (same_Some y x got) ∙ passes)
  any_at (y ∷ xs) (suc i) x got passes = or_right (test y) (list_any test xs) (any_at xs i x got passes)

  none_first : (xs : List A) → ((k : ℕ) (y : A) → slice_get xs k ≡ Some y → test y ≡ false) → position_or_len test xs ≡ length xs
  none_first [] others = refl
  none_first (y ∷ xs) others =
      let rest = none_first xs (λ k z g. others (suc k) z g) in
      ap (λ b. cond (not b) (1 + position_or_len test xs) 0) (others 0 y refl) ∙ omega (arith, rest)

  pub place_of_none : (xs : List A) → ((k : ℕ) (y : A) → slice_get xs k ≡ Some y → test y ≡ false) → position test xs ≡ None
  place_of_none xs others =
      ap (λ k. cond (nat_lt k (length xs)) (Some k) None) (none_first xs others)
      ∙ ap (λ b. cond b (Some (length xs)) None) (false_from_ne_true (nat_lt (length xs) (length xs)) (λ e. omega (arith, ltb-true (length xs) (length xs) e)))

  pub any_none : (xs : List A) → ((k : ℕ) (y : A) → slice_get xs k ≡ Some y → test y ≡ false) → list_any test xs ≡ false
  any_none [] others = refl
  any_none (y ∷ xs) others = ap (λ b. b || list_any test xs) (others 0 y refl) ∙ any_none xs (λ k z g. others (suc k) z g)

-- ---- predicates

pub pred_is : (p q : Pred) → same_pred p q ≡ true → p ≡ q
pred_is p q e =
    let both = both_are (p.name == q.name) (p.arity == q.arity) e in
    ap₂ (λ (name arity : ℕ). record { name = name; arity = arity }) (nat_eq-same p.name q.name both.0) (nat_eq-same p.arity q.arity both.1)

module _ (newest : List (Option ℕ)) (named : List Named) (is : AreChained newest named) (pred : Pred) where
  pub begun : Searches pred named (get_or newest pred.name None)
  begun = record {
    on_chain = (is.names pred.name).is_named;
    others = λ i n low got. false_from_ne_true (same_pred pred n.pred) (λ e.
        (is.names pred.name).others i n low (slice_get_within named i n got) got (sym (ap (λ (p : Pred). p.name) (pred_is pred n.pred e))));
  }

module _ (named : List Named) (pred : Pred) (number : Option ℕ) (at : ℕ) (searches : Searches pred named number) (stood : number ≡ Some at) where
  pub searched_in : at < length named
  searched_in = (searches.on_chain at stood).before

  pub searched_at : Searches pred named (Some at)
  searched_at = subst (Searches pred named) stood searches

pub searched_none : (named : List Named) (pred : Pred) (number : Option ℕ) → Searches pred named number → ((at : ℕ) → number ≡ Some at → ⊥) → Searches pred named None
searched_none named pred None searches none = searches
searched_none named pred (Some at) searches none = absurd (none at refl)

module _ (named : List Named) (is : AreLinked named) (pred : Pred) where
  module _ (at : ℕ) (searches : Searches pred named (Some at)) (here : Named) (got : slice_get named at ≡ Some here) where
    same_name : here.pred.name ≡ pred.name
    same_name =
        let w = searches.on_chain at refl in
        sym (ap (λ (n : Named). n.pred.name) (same_Some w.here here (sym w.got ∙ got))) ∙ w.same

    pub next : (here.pred.arity ≡ pred.arity → ⊥) → Searches pred named here.earlier
    next apart = record {
      on_chain = λ i e.
          let w = (is.earlier at here got).is_named i e in
          record { here = w.here; got = w.got; same = w.same ∙ same_name; before = omega (arith, w.before, slice_get_within named at here got) };
      others = λ i n low g. false_from_ne_true (same_pred pred n.pred) (other i n low g);
    }
      where
        other : (i : ℕ) (n : Named) → behind here.earlier ≤ i → slice_get named i ≡ Some n → same_pred pred n.pred ≡ true → ⊥
        other i n low g e =
            let same : pred ≡ n.pred = pred_is pred n.pred e in
            elim (cases_lt i at) [
              | inl before ↦ (is.earlier at here got).others i n low before g (sym (ap (λ (p : Pred). p.name) same) ∙ sym same_name)
              | inr from ↦ elim (cases_eq i at) [
                | inl here_is ↦
                    let n_is : here ≡ n = same_Some here n (sym got ∙ ap (slice_get named) (sym here_is) ∙ g) in
                    let arity : here.pred.arity ≡ pred.arity = ap (λ (m : Named). m.pred.arity) n_is ∙ sym (ap (λ (p : Pred). p.arity) same) in
                    apart arity
                | inr other_is ↦ true≢false (sym e ∙ searches.others i n (omega (arith, from, other_is)) g)
              ]
            ]

    not_behind : behind here.earlier ≤ at
    not_behind = earlier_before here.earlier (λ i e. ((is.earlier at here got).is_named i e).before)
      where
        earlier_before : (o : Option ℕ) → ((i : ℕ) → o ≡ Some i → i < at) → behind o ≤ at
        earlier_before None low = omega arith
        earlier_before (Some i) low = let l = low i refl in omega (arith, l)

    pub smaller : (number : Option ℕ) → number ≡ Some at → behind here.earlier < behind number
    smaller number stood = omega (arith, not_behind, ap behind stood)

    module _ (same : here.pred.arity ≡ pred.arity) where
      passes : same_pred pred here.pred ≡ true
      passes = and_from (pred.name == here.pred.name) (pred.arity == here.pred.arity)
          (ap (λ m. pred.name == m) same_name ∙ nat_eq-self pred.name) (ap (λ m. pred.arity == m) same ∙ nat_eq-self pred.arity)

      pub found_at : Some at ≡ position (same_pred pred) (map pred_named named)
      found_at = sym (position-map pred_named (same_pred pred) named
          ∙ place_of_first (λ (n : Named). same_pred pred n.pred) named at here got passes
          (λ k n l g. false_from_ne_true (same_pred pred n.pred) (λ e.
          let twice : same_pred here.pred n.pred ≡ true = ap (λ (p : Pred). same_pred p n.pred) (sym (pred_is pred here.pred passes)) ∙ e in
          omega (arith, l, is.once at k here n got g twice))))

      pub found_any : true ≡ list_any (same_pred pred) (map pred_named named)
      found_any = sym (list_any-map pred_named (same_pred pred) named ∙ any_at (λ (n : Named). same_pred pred n.pred) named at here got passes)

  module _ (searches : Searches pred named None) where
    pub none_at : None ≡ position (same_pred pred) (map pred_named named)
    none_at = sym (position-map pred_named (same_pred pred) named ∙ place_of_none (λ (n : Named). same_pred pred n.pred) named (λ k n g. searches.others k n (omega arith) g))

    pub none_any : false ≡ list_any (same_pred pred) (map pred_named named)
    none_any = sym (list_any-map pred_named (same_pred pred) named ∙ any_none (λ (n : Named). same_pred pred n.pred) named (λ k n g. searches.others k n (omega arith) g))

-- ---- one more

module _ (named : List Named) (new : Named) where
  still : (name end : ℕ) (number : Option ℕ) → end ≤ length named → IsNewest name named end number → IsNewest name (named ++ new ∷ []) end number
  still name end number le is = record {
    is_named = λ i e. let w = is.is_named i e in record { here = w.here; got = get_kept named (new ∷ []) i w.here w.got; same = w.same; before = w.before };
    others = λ i n low high got same. elim (get_push named new i n got) [
      | inl old ↦ is.others i n low high old same
      | inr last ↦ absurd (omega (arith, last.0, high, le))
    ];
  }

  unnamed : (name : ℕ) (number : Option ℕ) → (name ≡ new.pred.name → ⊥) → IsNewest name named (length named) number → IsNewest name (named ++ new ∷ []) (length (named ++ new ∷ [])) number
  unnamed name number apart is = record {
    is_named = λ i e.
        let w = is.is_named i e in
        record { here = w.here; got = get_kept named (new ∷ []) i w.here w.got; same = w.same; before = omega (arith, w.before, length-append named (new ∷ [])) };
    others = λ i n low high got same. elim (get_push named new i n got) [
      | inl old ↦ is.others i n low (slice_get_within named i n old) old same
      | inr last ↦ apart (sym same ∙ sym (ap (λ (m : Named). m.pred.name) last.1))
    ];
  }

  newest_last : IsNewest new.pred.name (named ++ new ∷ []) (length (named ++ new ∷ [])) (Some (length named))
  newest_last = record {
    is_named = λ i e.
        let at : length named ≡ i = same_Some (length named) i e in
        record { here = new; got = ap (slice_get (named ++ new ∷ [])) (sym at) ∙ got_last named new; same = refl; before = omega (arith, at, length-append named (new ∷ [])) };
    others = λ i n low high got same. omega (arith, low, high, length-append named (new ∷ []));
  }

  module _ (newest : List (Option ℕ)) (is : AreChained newest named) (within : new.pred.name < length newest)
      (absent : list_any (same_pred new.pred) (map pred_named named) ≡ false) (earlier : new.earlier ≡ get_or newest new.pred.name None) where
    not_there : (i : ℕ) (n : Named) → slice_get named i ≡ Some n → same_pred new.pred n.pred ≡ true → ⊥
    not_there i n got same =
        let any : list_any (same_pred new.pred) (map pred_named named) ≡ true =
        list_any-map pred_named (same_pred new.pred) named ∙ any_at (λ (m : Named). same_pred new.pred m.pred) named i n got same in
        let both : true ≡ false = sym any ∙ absent in cc

    names : (name : ℕ) → IsNewest name (named ++ new ∷ []) (length (named ++ new ∷ [])) (get_or (set newest new.pred.name (Some (length named))) name None)
    names name = elim (cases_eq name new.pred.name) [
      | inl e ↦
          let P : ℕ → Type 0 = λ m. IsNewest m (named ++ new ∷ []) (length (named ++ new ∷ [])) (get_or (set newest new.pred.name (Some (length named))) m None) in
          subst P (sym e) (subst (IsNewest new.pred.name (named ++ new ∷ []) (length (named ++ new ∷ []))) (sym (get_or-set_same newest new.pred.name (Some (length named)) None within)) newest_last)
      | inr d ↦ subst (IsNewest name (named ++ new ∷ []) (length (named ++ new ∷ []))) (sym (get_or-set_other newest new.pred.name name (Some (length named)) None d))
          (unnamed name (get_or newest name None) d (is.names name))
    ]

    links : (i : ℕ) (n : Named) → slice_get (named ++ new ∷ []) i ≡ Some n → IsNewest n.pred.name (named ++ new ∷ []) i n.earlier
    links i n got = elim (get_push named new i n got) [
      | inl old ↦ let l = slice_get_within named i n old in still n.pred.name i n.earlier (omega (arith, l)) (is.linked.earlier i n old)
      | inr last ↦
          let P : ℕ → Named → Type 0 = λ k (m : Named). IsNewest m.pred.name (named ++ new ∷ []) k m.earlier in
          subst (λ k. P k n) (sym last.0) (subst (P (length named)) last.1
          (subst (IsNewest new.pred.name (named ++ new ∷ []) (length named)) (sym earlier) (still new.pred.name (length named) (get_or newest new.pred.name None) (omega arith) (is.names new.pred.name))))
    ]

    once : (i j : ℕ) (m n : Named) → slice_get (named ++ new ∷ []) i ≡ Some m → slice_get (named ++ new ∷ []) j ≡ Some n → same_pred m.pred n.pred ≡ true → i ≡ j
    once i j m n left right same = elim (get_push named new i m left) [
      | inl old ↦ elim (get_push named new j n right) [
        | inl other ↦ is.linked.once i j m n old other same
        | inr last ↦
            let back : same_pred new.pred m.pred ≡ true =
            ap₂ (λ (p q : Pred). same_pred p q) (ap pred_named last.1) (pred_is m.pred n.pred same) ∙ same_self n.pred in
            absurd (not_there i m old back)
      ]
      | inr last ↦ elim (get_push named new j n right) [
        | inl other ↦ absurd (not_there j n other (ap (λ (k : Named). same_pred k.pred n.pred) last.1 ∙ same))
        | inr too ↦ last.0 ∙ sym too.0
      ]
    ]
      where
        same_self : (p : Pred) → same_pred p p ≡ true
        same_self p = and_from (p.name == p.name) (p.arity == p.arity) (nat_eq-self p.name) (nat_eq-self p.arity)

    pub chained_more : AreChained (set newest new.pred.name (Some (length named))) (named ++ new ∷ [])
    chained_more = record { names = names; linked = record { earlier = links; once = once } }

-- ---- places for names

-- nothing past the end is there already
get_or-nothing : (xs : List (Option ℕ)) (n i : ℕ) → get_or (xs ++ replicate n None) i None ≡ get_or xs i None
get_or-nothing [] zero i = refl
get_or-nothing [] (suc n) zero = refl
get_or-nothing [] (suc n) (suc i) = get_or-nothing [] n i
get_or-nothing (x ∷ xs) n zero = refl
get_or-nothing (x ∷ xs) n (suc i) = get_or-nothing xs n i

pub widened_same : (newest wider : List (Option ℕ)) (width more name : ℕ) → length newest ≤ width → wider ≡ take width newest ++ replicate more None → get_or wider name None ≡ get_or newest name None
widened_same newest wider width more name le e =
    ap (λ xs. get_or xs name None) (e ∙ ap (λ xs. xs ++ replicate more None) (take_all width newest le)) ∙ get_or-nothing newest more name

pub places_more : (newest wider : List (Option ℕ)) (preds : List Pred) (i : ℕ) (d : Pred) → HasPlaces newest (take i preds) → i < length preds → length newest ≤ length wider
    → (get_or preds i d).name < length wider → HasPlaces wider (take (i + 1) preds)
places_more newest wider preds i d places within le here =
    let P : Pred → Type 0 = λ p. p.name < length wider in
    All-more P preds i d within (All-weaker (λ (p : Pred). p.name < length newest) P (λ p h. omega (arith, h, le)) (take i preds) places) here
