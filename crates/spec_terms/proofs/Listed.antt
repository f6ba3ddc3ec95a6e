-- The list of a term's variables: which it has, each once, and the way back from a renamed term.
use Rattle.std.proofs.Common.{◌≡◌, ◌≢◌, ℕ, zero, suc, ◌+◌, ◌-◌, ◌<◌, arith, ap, ◌∙◌, sym, refl, subst, inl, inr, ◌⊎◌, cond, Bool, true, false, List, [], ◌∷◌, ◌++◌, length, get_or, map}
use Rattle.std.specs.Prelude.{Contains, ◌==◌, ⊤}
use Rattle.std.specs.List.{list_any, position_or_len, AllPairs}
use Rattle.std.proofs.lemmas.Bool.{cases_eq, eq-eqb, ne_eqb, true≢false, false≢true}
use Rattle.spec_terms.specs.Term.{Term, Terms, Var, Number, Name, Compound, one, more, Occurs, OccursIn, apply, apply_all, followed_by, identity}
use Rattle.spec_terms.specs.Variables.{with_variable, variables_after, variables_in, variables, numbered_from, original_from, renamed_from, counted_from}
use Rattle.std.proofs.lemmas.List.{map-append}
use Rattle.spec_terms.proofs.Substitution.{apply-followed_by, apply_agree, apply-identity}

abbrev pub Member : ℕ → List ℕ → Type 0
Member v [] = ⊥
Member v (w ∷ ws) = (w ≡ v) ⊎ Member v ws

abbrev Distinct : List ℕ → Type 0
Distinct [] = ⊤
Distinct (v ∷ vs) = (Member v vs → ⊥) × Distinct vs

contains_member : (vs : List ℕ) (v k : ℕ) → k < length vs → get_or vs k v ≡ v → Member v vs
contains_member [] v k lt e = absurd (omega arith)
contains_member (w ∷ ws) v zero lt e = inl e
contains_member (w ∷ ws) v (suc k) lt e = inr (contains_member ws v k (omega arith) e)

pub member_contains : (vs : List ℕ) (v : ℕ) → Member v vs → Contains vs v
member_contains [] v m = absurd m
member_contains (w ∷ ws) v m = elim m [
  | inl e ↦ (0, omega arith, e)
  | inr n ↦ (let c = member_contains ws v n in (suc c.0, omega (arith, c.1), c.2))
]

member_push : (vs : List ℕ) (v w : ℕ) → Member w (vs ++ v ∷ []) → Member w vs ⊎ (v ≡ w)
member_push [] v w m = elim m [ inl e ↦ inr e | inr n ↦ absurd n ]
member_push (x ∷ vs) v w m = elim m [
  | inl e ↦ inl (inl e)
  | inr n ↦ elim (member_push vs v w n) [ inl h ↦ inl (inr h) | inr e ↦ inr e ]
]

member_kept : (vs : List ℕ) (v w : ℕ) → Member w vs → Member w (vs ++ v ∷ [])
member_kept [] v w m = absurd m
member_kept (x ∷ vs) v w m = elim m [ inl e ↦ inl e | inr n ↦ inr (member_kept vs v w n) ]

member_last : (vs : List ℕ) (v : ℕ) → Member v (vs ++ v ∷ [])
member_last [] v = inl refl
member_last (x ∷ vs) v = inr (member_last vs v)

any_member : (vs : List ℕ) (v : ℕ) → list_any (λ w. w == v) vs ≡ true → Member v vs
any_member [] v e = absurd (false≢true e)
any_member (w ∷ ws) v e = elim (cases_eq w v) [ inl h ↦ inl h | inr n ↦ inr (any_member ws v (rw (ne_eqb w v n) at e)) ]

any_absent : (vs : List ℕ) (v : ℕ) → list_any (λ w. w == v) vs ≡ false → Member v vs → ⊥
any_absent [] v e m = m
any_absent (w ∷ ws) v e m = elim (cases_eq w v) [
  | inl h ↦ true≢false (rw (eq-eqb w v h) at e)
  | inr n ↦ elim m [ inl h ↦ n h | inr k ↦ any_absent ws v (rw (ne_eqb w v n) at e) k ]
]

-- ---- one more variable
with_from : (vs : List ℕ) (v w : ℕ) → Member w (with_variable vs v) → Member w vs ⊎ (w ≡ v)
with_from vs v w m = go (list_any (λ x. x == v) vs) m
  where
    go : (b : Bool) → Member w (cond b vs (vs ++ v ∷ [])) → Member w vs ⊎ (w ≡ v)
    go true m = inl m
    go false m = elim (member_push vs v w m) [ inl h ↦ inl h | inr e ↦ inr (sym e) ]

pub with_kept : (vs : List ℕ) (v w : ℕ) → Member w vs → Member w (with_variable vs v)
with_kept vs v w m = go (list_any (λ x. x == v) vs)
  where
    go : (b : Bool) → Member w (cond b vs (vs ++ v ∷ []))
    go true = m
    go false = member_kept vs v w m

pub with_last : (vs : List ℕ) (v : ℕ) → Member v (with_variable vs v)
with_last vs v = go (list_any (λ x. x == v) vs) refl
  where
    go : (b : Bool) → list_any (λ x. x == v) vs ≡ b → Member v (cond b vs (vs ++ v ∷ []))
    go true e = any_member vs v e
    go false e = member_last vs v

distinct_push : (vs : List ℕ) (v : ℕ) → Distinct vs → (Member v vs → ⊥) → Distinct (vs ++ v ∷ [])
distinct_push [] v d n = (λ m. m, d)
distinct_push (w ∷ ws) v d n = (λ m. elim (member_push ws v w m) [ inl h ↦ d.0 h | inr e ↦ n (inl (sym e)) ], distinct_push ws v d.1 (λ m. n (inr m)))

with_distinct : (vs : List ℕ) (v : ℕ) → Distinct vs → Distinct (with_variable vs v)
with_distinct vs v d = go (list_any (λ x. x == v) vs) refl
  where
    go : (b : Bool) → list_any (λ x. x == v) vs ≡ b → Distinct (cond b vs (vs ++ v ∷ []))
    go true e = d
    go false e = distinct_push vs v d (any_absent vs v e)

place_back : (vs : List ℕ) (v d : ℕ) → Member v vs → get_or vs (position_or_len (λ w. w == v) vs) d ≡ v
place_back [] v d m = absurd m
place_back (w ∷ ws) v d m = elim (cases_eq w v) [
  | inl h ↦ rw (eq-eqb w v h) h
  | inr n ↦
      let next : 1 + position_or_len (λ x. x == v) ws ≡ suc (position_or_len (λ x. x == v) ws) = omega arith in
      rw (ne_eqb w v n) (rw next (elim m [ inl h ↦ absurd (n h) | inr k ↦ place_back ws v d k ]))
]

-- ---- the variables of a term
module _ {A : Type 0} where
  mutual
    listed_from : (vs : List ℕ) (t : Term A) (w : ℕ) → Member w (variables_after vs t) → Member w vs ⊎ Occurs w t
    listed_from vs (Var v) w m = with_from vs v w m
    listed_from vs (Number q) w m = inl m
    listed_from vs (Name a) w m = inl m
    listed_from vs (Compound f ts) w m = listed_in_from vs ts w m

    listed_in_from : (vs : List ℕ) (ts : Terms A) (w : ℕ) → Member w (variables_in vs ts) → Member w vs ⊎ OccursIn w ts
    listed_in_from vs (one t) w m = listed_from vs t w m
    listed_in_from vs (more t ts) w m = elim (listed_in_from (variables_after vs t) ts w m) [
      | inl h ↦ elim (listed_from vs t w h) [ inl k ↦ inl k | inr o ↦ inr (inl o) ]
      | inr o ↦ inr (inr o)
    ]

  mutual
    pub listed_kept : (vs : List ℕ) (t : Term A) (w : ℕ) → Member w vs → Member w (variables_after vs t)
    listed_kept vs (Var v) w m = with_kept vs v w m
    listed_kept vs (Number q) w m = m
    listed_kept vs (Name a) w m = m
    listed_kept vs (Compound f ts) w m = listed_in_kept vs ts w m

    pub listed_in_kept : (vs : List ℕ) (ts : Terms A) (w : ℕ) → Member w vs → Member w (variables_in vs ts)
    listed_in_kept vs (one t) w m = listed_kept vs t w m
    listed_in_kept vs (more t ts) w m = listed_in_kept (variables_after vs t) ts w (listed_kept vs t w m)

  mutual
    pub listed_here : (vs : List ℕ) (t : Term A) (w : ℕ) → Occurs w t → Member w (variables_after vs t)
    listed_here vs (Var v) w o = subst (λ (x : ℕ). Member x (with_variable vs v)) (sym o) (with_last vs v)
    listed_here vs (Number q) w o = absurd o
    listed_here vs (Name a) w o = absurd o
    listed_here vs (Compound f ts) w o = listed_in_here vs ts w o

    listed_in_here : (vs : List ℕ) (ts : Terms A) (w : ℕ) → OccursIn w ts → Member w (variables_in vs ts)
    listed_in_here vs (one t) w o = listed_here vs t w o
    listed_in_here vs (more t ts) w o = elim o [
      | inl h ↦ listed_in_kept (variables_after vs t) ts w (listed_here vs t w h)
      | inr h ↦ listed_in_here (variables_after vs t) ts w h
    ]

  mutual
    listed_distinct : (vs : List ℕ) (t : Term A) → Distinct vs → Distinct (variables_after vs t)
    listed_distinct vs (Var v) d = with_distinct vs v d
    listed_distinct vs (Number q) d = d
    listed_distinct vs (Name a) d = d
    listed_distinct vs (Compound f ts) d = listed_in_distinct vs ts d

    listed_in_distinct : (vs : List ℕ) (ts : Terms A) → Distinct vs → Distinct (variables_in vs ts)
    listed_in_distinct vs (one t) d = listed_distinct vs t d
    listed_in_distinct vs (more t ts) d = listed_in_distinct (variables_after vs t) ts (listed_distinct vs t d)

  pub occurs_listed : (t : Term A) (v : ℕ) → Occurs v t → Contains (variables t) v
  occurs_listed t v o = member_contains (variables t) v (listed_here [] t v o)

  pub listed_occurs : (t : Term A) (v : ℕ) → Contains (variables t) v → Occurs v t
  listed_occurs t v c = elim (listed_from [] t v (contains_member (variables t) v c.0 c.1 c.2)) [ inl m ↦ absurd m | inr o ↦ o ]

  pub listed_once : (t : Term A) → AllPairs ◌≢◌ (variables t)
  listed_once t = pairs (variables t) (listed_distinct [] t tt)
    where
      apart : (v : ℕ) (vs : List ℕ) (j : ℕ) (d : ℕ) → j < length vs → (Member v vs → ⊥) → v ≢ get_or vs j d
      apart v [] j d lt n e = omega arith
      apart v (w ∷ ws) zero d lt n e = n (inl (sym e))
      apart v (w ∷ ws) (suc j) d lt n e = apart v ws j d (omega arith) (λ m. n (inr m)) e

      pairs : (vs : List ℕ) → Distinct vs → AllPairs ◌≢◌ vs
      pairs [] d i j x lt le = absurd (omega arith)
      pairs (v ∷ vs) d i zero x lt le = absurd (omega arith)
      pairs (v ∷ vs) d zero (suc j) x lt le = apart v vs j x (omega arith) d.0
      pairs (v ∷ vs) d (suc i) (suc j) x lt le = pairs vs d.1 i j x (omega arith) (omega arith)

  back_from : (n : ℕ) (t : Term A) (v : ℕ) → Occurs v t → ◌≡◌ {A = Term A} (followed_by {A = A} (numbered_from n (variables t)) (original_from n (variables t)) v) (Var v)
  back_from n t v o =
      let p : ℕ = position_or_len (λ w. w == v) (variables t) in
      let e : (n + p) - n ≡ p = omega arith in
      ap (λ k. Var (get_or (variables t) k 0)) e ∙ ap (λ x. Var x) (place_back (variables t) v 0 (listed_here [] t v o))

  -- a renamed term leads back to the term
  pub renamed_back : (n : ℕ) (t : Term A) → apply (original_from n (variables t)) (renamed_from n t) ≡ t
  renamed_back n t =
      sym (apply-followed_by (numbered_from n (variables t)) (original_from n (variables t)) t)
      ∙ apply_agree (followed_by (numbered_from n (variables t)) (original_from n (variables t))) identity t (back_from n t)
      ∙ apply-identity t

-- ---- the variables of a renamed term
map_members : (f g : ℕ → ℕ) (vs : List ℕ) → ((v : ℕ) → Member v vs → f v ≡ g v) → map f vs ≡ map g vs
map_members f g [] h = refl
map_members f g (v ∷ vs) h = λ i. h v (inl refl) i ∷ map_members f g vs (λ w m. h w (inr m)) i

-- f tells the variables of the list apart
abbrev pub Separates : (ℕ → ℕ) → List ℕ → Type 0
Separates f all = (v w : ℕ) → Member v all → Member w all → f v ≡ f w → v ≡ w

any_map : (f : ℕ → ℕ) (all vs : List ℕ) (v : ℕ) → Separates f all → ((w : ℕ) → Member w vs → Member w all) → Member v all →
    list_any (λ w. w == f v) (map f vs) ≡ list_any (λ w. w == v) vs
any_map f all [] v s within m = refl
any_map f all (w ∷ ws) v s within m = elim (cases_eq w v) [
  | inl h ↦ rw (eq-eqb w v h, eq-eqb (f w) (f v) (ap f h)) refl
  | inr n ↦ rw (ne_eqb w v n, ne_eqb (f w) (f v) (λ e. n (s w v (within w (inl refl)) m e))) (any_map f all ws v s (λ x k. within x (inr k)) m)
]

with-map : (f : ℕ → ℕ) (all vs : List ℕ) (v : ℕ) → Separates f all → ((w : ℕ) → Member w vs → Member w all) → Member v all →
    with_variable (map f vs) (f v) ≡ map f (with_variable vs v)
with-map f all vs v s within m =
    ap (λ b. cond b (map f vs) (map f vs ++ f v ∷ [])) (any_map f all vs v s within m) ∙ go (list_any (λ w. w == v) vs)
  where
    go : (b : Bool) → cond b (map f vs) (map f vs ++ f v ∷ []) ≡ map f (cond b vs (vs ++ v ∷ []))
    go true = refl
    go false = sym (map-append f vs (v ∷ []))

separated : (n : ℕ) (vs : List ℕ) → Separates (λ v. n + position_or_len (λ w. w == v) vs) vs
separated n vs v w m k e =
    let p : position_or_len (λ x. x == v) vs ≡ position_or_len (λ x. x == w) vs = omega (arith, e) in
    sym (place_back vs v 0 m) ∙ ap (λ j. get_or vs j 0) p ∙ place_back vs w 0 k

counted : (n : ℕ) (vs : List ℕ) → Distinct vs → map (λ v. n + position_or_len (λ w. w == v) vs) vs ≡ counted_from n (length vs)
counted n [] d = refl
counted n (v ∷ vs) d = λ i. first i ∷ (rest ∙ counted (suc n) vs d.1) i
  where
    first : n + position_or_len (λ w. w == v) (v ∷ vs) ≡ n
    first = rw (eq-eqb v v refl) (omega arith)

    step : (w : ℕ) → Member w vs → n + position_or_len (λ x. x == w) (v ∷ vs) ≡ suc n + position_or_len (λ x. x == w) vs
    step w m = rw (ne_eqb v w (λ e. d.0 (subst (λ (y : ℕ). Member y vs) (sym e) m))) (omega arith)

    rest : map (λ w. n + position_or_len (λ x. x == w) (v ∷ vs)) vs ≡ map (λ w. suc n + position_or_len (λ x. x == w) vs) vs
    rest = map_members (λ w. n + position_or_len (λ x. x == w) (v ∷ vs)) (λ w. suc n + position_or_len (λ x. x == w) vs) vs step

module _ {A : Type 0} where
  abbrev pub renaming : (ℕ → ℕ) → ℕ → Term A
  renaming f v = Var (f v)

  mutual
    pub variables_after-renamed : (f : ℕ → ℕ) (all vs : List ℕ) (t : Term A) → Separates f all → ((w : ℕ) → Member w (variables_after vs t) → Member w all) →
        variables_after (map f vs) (apply (renaming f) t) ≡ map f (variables_after vs t)
    variables_after-renamed f all vs (Var v) s within = with-map f all vs v s (λ w m. within w (with_kept vs v w m)) (within v (with_last vs v))
    variables_after-renamed f all vs (Number q) s within = refl
    variables_after-renamed f all vs (Name a) s within = refl
    variables_after-renamed f all vs (Compound g ts) s within = variables_in-renamed f all vs ts s within

    variables_in-renamed : (f : ℕ → ℕ) (all vs : List ℕ) (ts : Terms A) → Separates f all → ((w : ℕ) → Member w (variables_in vs ts) → Member w all) →
        variables_in (map f vs) (apply_all (renaming f) ts) ≡ map f (variables_in vs ts)
    variables_in-renamed f all vs (one t) s within = variables_after-renamed f all vs t s within
    variables_in-renamed f all vs (more t ts) s within =
        ap (λ ws. variables_in ws (apply_all (renaming f) ts)) (variables_after-renamed f all vs t s (λ w m. within w (listed_in_kept (variables_after vs t) ts w m)))
        ∙ variables_in-renamed f all (variables_after vs t) ts s within

  -- they are numbered without a gap
  pub variables-renamed_from : (n : ℕ) (t : Term A) → variables (renamed_from n t) ≡ counted_from n (length (variables t))
  variables-renamed_from n t =
      variables_after-renamed (λ v. n + position_or_len (λ w. w == v) (variables t)) (variables t) [] t (separated n (variables t)) (λ w m. m)
      ∙ counted n (variables t) (listed_distinct [] t tt)
