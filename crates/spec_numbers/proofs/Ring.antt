-- Equations of commutative rings, by computing normal forms: `solve` proves `value ρ e ≡ value ρ f` where both have one normal form.
use Rattle.std.proofs.Common.{◌≡◌, ℕ, zero, suc, Bool, true, false, ◌&&◌, eqb, ltb, leb, List, [], ◌∷◌, ℤ, pos, negsuc, ◌+ℤ◌, ◌*ℤ◌, refl, sym, ap, ap₂, ◌∙◌, eqb→eq, T, subst}

infixl 6 ◌⊕◌
infixl 7 ◌⊗◌
pub data Poly : Type 0 where
  var : ℕ → Poly
  int : ℤ → Poly
  ◌⊕◌ : Poly → Poly → Poly
  ◌⊗◌ : Poly → Poly → Poly
  minus : Poly → Poly

-- a coefficient, and a product of variables
pub record PowerProduct : Type 0 where
  pub coef : ℤ
  pub vars : List ℕ

abbrev pub eq_vars : List ℕ → List ℕ → Bool
eq_vars [] [] = true
eq_vars [] (y ∷ ys) = false
eq_vars (x ∷ xs) [] = false
eq_vars (x ∷ xs) (y ∷ ys) = eqb x y && eq_vars xs ys

abbrev pub lt_vars : List ℕ → List ℕ → Bool
lt_vars [] [] = false
lt_vars [] (y ∷ ys) = true
lt_vars (x ∷ xs) [] = false
lt_vars (x ∷ xs) (y ∷ ys) = elim (eqb x y) [ true ↦ lt_vars xs ys | false ↦ ltb x y ]

abbrev pub put_var : ℕ → List ℕ → List ℕ
put_var x [] = x ∷ []
put_var x (y ∷ ys) = elim (leb x y) [ true ↦ x ∷ (y ∷ ys) | false ↦ y ∷ put_var x ys ]

abbrev pub join_vars : List ℕ → List ℕ → List ℕ
join_vars [] ys = ys
join_vars (x ∷ xs) ys = put_var x (join_vars xs ys)

abbrev pub keep : ℤ → List ℕ → List PowerProduct → List PowerProduct
keep (pos zero) m s = s
keep (pos (suc n)) m s = record { coef = pos (suc n); vars = m } ∷ s
keep (negsuc n) m s = record { coef = negsuc n; vars = m } ∷ s

abbrev pub put : ℤ → List ℕ → List PowerProduct → List PowerProduct
put c m [] = keep c m []
put c m (t ∷ s) =
    elim (eq_vars m t.vars) [
      | true ↦ keep (c +ℤ t.coef) m s
      | false ↦ elim (lt_vars m t.vars) [ true ↦ keep c m (t ∷ s) | false ↦ t ∷ put c m s ]
    ]

abbrev pub plus : List PowerProduct → List PowerProduct → List PowerProduct
plus [] r = r
plus (t ∷ s) r = put t.coef t.vars (plus s r)

abbrev pub scaled : ℤ → List ℕ → List PowerProduct → List PowerProduct
scaled c m [] = []
scaled c m (t ∷ s) = put (c *ℤ t.coef) (join_vars m t.vars) (scaled c m s)

abbrev pub times : List PowerProduct → List PowerProduct → List PowerProduct
times [] r = []
times (t ∷ s) r = plus (scaled t.coef t.vars r) (times s r)

abbrev pub normal : Poly → List PowerProduct
normal (var k) = put (pos 1) (k ∷ []) []
normal (int z) = keep z [] []
normal (e ⊕ f) = plus (normal e) (normal f)
normal (e ⊗ f) = times (normal e) (normal f)
normal (minus e) = scaled (negsuc 0) [] (normal e)

pub record IsRing (R : Type 0) (add mul : R → R → R) (neg : R → R) (of_int : ℤ → R) : Type 0 where
  pub add_comm : (x y : R) → add x y ≡ add y x
  pub add_assoc : (x y z : R) → add (add x y) z ≡ add x (add y z)
  pub zero_add : (x : R) → add (of_int (pos 0)) x ≡ x
  pub mul_comm : (x y : R) → mul x y ≡ mul y x
  pub mul_assoc : (x y z : R) → mul (mul x y) z ≡ mul x (mul y z)
  pub one_mul : (x : R) → mul (of_int (pos 1)) x ≡ x
  pub zero_mul : (x : R) → mul (of_int (pos 0)) x ≡ of_int (pos 0)
  pub mul_add : (x y z : R) → mul x (add y z) ≡ add (mul x y) (mul x z)
  pub neg_is : (x : R) → neg x ≡ mul (of_int (negsuc 0)) x
  pub of_add : (a b : ℤ) → of_int (a +ℤ b) ≡ add (of_int a) (of_int b)
  pub of_mul : (a b : ℤ) → of_int (a *ℤ b) ≡ mul (of_int a) (of_int b)

eq_vars_same : (m k : List ℕ) → eq_vars m k ≡ true → m ≡ k
eq_vars_same [] [] e = refl
eq_vars_same [] (y ∷ ys) e = cc
eq_vars_same (x ∷ xs) [] e = cc
eq_vars_same (x ∷ xs) (y ∷ ys) e = go (eqb x y) refl (eq_vars_same xs ys) e
  where
    go : (b : Bool) → eqb x y ≡ b → (eq_vars xs ys ≡ true → xs ≡ ys) → (b && eq_vars xs ys) ≡ true → (x ∷ xs) ≡ (y ∷ ys)
    go true h rec e = ap₂ (λ a r. a ∷ r) (eqb→eq x y (subst T (sym h) tt)) (rec e)
    go false h rec e = cc

module _ (R : Type 0) (add mul : R → R → R) (neg : R → R) (of_int : ℤ → R) where
  abbrev pub pick : List R → ℕ → R
  pick [] k = of_int (pos 0)
  pick (x ∷ xs) zero = x
  pick (x ∷ xs) (suc k) = pick xs k

  abbrev pub value : List R → Poly → R
  value ρ (var k) = pick ρ k
  value ρ (int z) = of_int z
  value ρ (e ⊕ f) = add (value ρ e) (value ρ f)
  value ρ (e ⊗ f) = mul (value ρ e) (value ρ f)
  value ρ (minus e) = neg (value ρ e)

module _ (R : Type 0) (add mul : R → R → R) (neg : R → R) (of_int : ℤ → R) (laws : IsRing R add mul neg of_int) (ρ : List R) where
  at : ℕ → R
  at k = pick R add mul neg of_int ρ k

  abbrev of_vars : List ℕ → R
  of_vars [] = of_int (pos 1)
  of_vars (x ∷ m) = mul (at x) (of_vars m)

  abbrev of_monomials : List PowerProduct → R
  of_monomials [] = of_int (pos 0)
  of_monomials (t ∷ s) = add (mul (of_int t.coef) (of_vars t.vars)) (of_monomials s)

  swap_mul : (x y z : R) → mul x (mul y z) ≡ mul y (mul x z)
  swap_mul x y z = sym (laws.mul_assoc x y z) ∙ ap (λ w. mul w z) (laws.mul_comm x y) ∙ laws.mul_assoc y x z

  swap_add : (x y z : R) → add x (add y z) ≡ add y (add x z)
  swap_add x y z = sym (laws.add_assoc x y z) ∙ ap (λ w. add w z) (laws.add_comm x y) ∙ laws.add_assoc y x z

  add_mul : (x y z : R) → mul (add x y) z ≡ add (mul x z) (mul y z)
  add_mul x y z = laws.mul_comm (add x y) z ∙ laws.mul_add z x y ∙ ap₂ add (laws.mul_comm z x) (laws.mul_comm z y)

  mul_one : (x : R) → mul x (of_int (pos 1)) ≡ x
  mul_one x = laws.mul_comm x (of_int (pos 1)) ∙ laws.one_mul x

  add_zero : (x : R) → add x (of_int (pos 0)) ≡ x
  add_zero x = laws.add_comm x (of_int (pos 0)) ∙ laws.zero_add x

  put_var_is : (x : ℕ) (m : List ℕ) → of_vars (put_var x m) ≡ mul (at x) (of_vars m)
  put_var_is x [] = refl
  put_var_is x (y ∷ m) = go (leb x y) (put_var_is x m)
    where
      go : (b : Bool) → of_vars (put_var x m) ≡ mul (at x) (of_vars m) → of_vars (elim b [ true ↦ x ∷ (y ∷ m) | false ↦ y ∷ put_var x m ]) ≡ mul (at x) (mul (at y) (of_vars m))
      go true rec = refl
      go false rec = ap (mul (at y)) rec ∙ swap_mul (at y) (at x) (of_vars m)

  join_vars_is : (m k : List ℕ) → of_vars (join_vars m k) ≡ mul (of_vars m) (of_vars k)
  join_vars_is [] k = sym (laws.one_mul (of_vars k))
  join_vars_is (x ∷ m) k =
      put_var_is x (join_vars m k) ∙ ap (mul (at x)) (join_vars_is m k) ∙ sym (laws.mul_assoc (at x) (of_vars m) (of_vars k))

  keep_is : (c : ℤ) (m : List ℕ) (s : List PowerProduct) → of_monomials (keep c m s) ≡ add (mul (of_int c) (of_vars m)) (of_monomials s)
  keep_is (pos zero) m s = sym (ap (λ w. add w (of_monomials s)) (laws.zero_mul (of_vars m)) ∙ laws.zero_add (of_monomials s))
  keep_is (pos (suc n)) m s = refl
  keep_is (negsuc n) m s = refl

  put_is : (c : ℤ) (m : List ℕ) (s : List PowerProduct) → of_monomials (put c m s) ≡ add (mul (of_int c) (of_vars m)) (of_monomials s)
  put_is c m [] = keep_is c m []
  put_is c m (t ∷ s) = go (eq_vars m t.vars) refl (put_is c m s)
    where
      rest : (b : Bool) → of_monomials (put c m s) ≡ add (mul (of_int c) (of_vars m)) (of_monomials s) → of_monomials (elim b [ true ↦ keep c m (t ∷ s) | false ↦ t ∷ put c m s ]) ≡ add (mul (of_int c) (of_vars m)) (of_monomials (t ∷ s))
      rest true rec = keep_is c m (t ∷ s)
      rest false rec = ap (add (mul (of_int t.coef) (of_vars t.vars))) rec ∙ swap_add (mul (of_int t.coef) (of_vars t.vars)) (mul (of_int c) (of_vars m)) (of_monomials s)

      same : eq_vars m t.vars ≡ true → add (mul (of_int (c +ℤ t.coef)) (of_vars m)) (of_monomials s) ≡ add (mul (of_int c) (of_vars m)) (of_monomials (t ∷ s))
      same h =
          ap (λ w. add (mul w (of_vars m)) (of_monomials s)) (laws.of_add c t.coef)
          ∙ ap (λ w. add w (of_monomials s)) (add_mul (of_int c) (of_int t.coef) (of_vars m))
          ∙ laws.add_assoc (mul (of_int c) (of_vars m)) (mul (of_int t.coef) (of_vars m)) (of_monomials s)
          ∙ ap (λ k. add (mul (of_int c) (of_vars m)) (add (mul (of_int t.coef) (of_vars k)) (of_monomials s))) (eq_vars_same m t.vars h)

      go : (b : Bool) → eq_vars m t.vars ≡ b → of_monomials (put c m s) ≡ add (mul (of_int c) (of_vars m)) (of_monomials s) → of_monomials (elim b [ true ↦ keep (c +ℤ t.coef) m s | false ↦ elim (lt_vars m t.vars) [ true ↦ keep c m (t ∷ s) | false ↦ t ∷ put c m s ] ]) ≡ add (mul (of_int c) (of_vars m)) (of_monomials (t ∷ s))
      go true h rec = keep_is (c +ℤ t.coef) m s ∙ same h
      go false h rec = rest (lt_vars m t.vars) rec

  plus_is : (s r : List PowerProduct) → of_monomials (plus s r) ≡ add (of_monomials s) (of_monomials r)
  plus_is [] r = sym (laws.zero_add (of_monomials r))
  plus_is (t ∷ s) r =
      put_is t.coef t.vars (plus s r)
      ∙ ap (add (mul (of_int t.coef) (of_vars t.vars))) (plus_is s r)
      ∙ sym (laws.add_assoc (mul (of_int t.coef) (of_vars t.vars)) (of_monomials s) (of_monomials r))

  -- (c d) (m k) is (c m) (d k)
  mix : (c d : ℤ) (m k : List ℕ) → mul (of_int (c *ℤ d)) (of_vars (join_vars m k)) ≡ mul (mul (of_int c) (of_vars m)) (mul (of_int d) (of_vars k))
  mix c d m k =
      ap₂ mul (laws.of_mul c d) (join_vars_is m k)
      ∙ laws.mul_assoc (of_int c) (of_int d) (mul (of_vars m) (of_vars k))
      ∙ ap (mul (of_int c)) (swap_mul (of_int d) (of_vars m) (of_vars k))
      ∙ sym (laws.mul_assoc (of_int c) (of_vars m) (mul (of_int d) (of_vars k)))

  scaled_is : (c : ℤ) (m : List ℕ) (s : List PowerProduct) → of_monomials (scaled c m s) ≡ mul (mul (of_int c) (of_vars m)) (of_monomials s)
  scaled_is c m [] = sym (laws.mul_comm (mul (of_int c) (of_vars m)) (of_int (pos 0)) ∙ laws.zero_mul (mul (of_int c) (of_vars m)))
  scaled_is c m (t ∷ s) =
      put_is (c *ℤ t.coef) (join_vars m t.vars) (scaled c m s)
      ∙ ap₂ add (mix c t.coef m t.vars) (scaled_is c m s)
      ∙ sym (laws.mul_add (mul (of_int c) (of_vars m)) (mul (of_int t.coef) (of_vars t.vars)) (of_monomials s))

  times_is : (s r : List PowerProduct) → of_monomials (times s r) ≡ mul (of_monomials s) (of_monomials r)
  times_is [] r = sym (laws.zero_mul (of_monomials r))
  times_is (t ∷ s) r =
      plus_is (scaled t.coef t.vars r) (times s r)
      ∙ ap₂ add (scaled_is t.coef t.vars r) (times_is s r)
      ∙ sym (add_mul (mul (of_int t.coef) (of_vars t.vars)) (of_monomials s) (of_monomials r))

  normal_is : (e : Poly) → of_monomials (normal e) ≡ value R add mul neg of_int ρ e
  unfolding at
  normal_is (var k) = add_zero (mul (of_int (pos 1)) (mul (at k) (of_int (pos 1)))) ∙ laws.one_mul (mul (at k) (of_int (pos 1))) ∙ mul_one (at k)
  normal_is (int z) = keep_is z [] [] ∙ add_zero (mul (of_int z) (of_int (pos 1))) ∙ mul_one (of_int z)
  normal_is (e ⊕ f) = plus_is (normal e) (normal f) ∙ ap₂ add (normal_is e) (normal_is f)
  normal_is (e ⊗ f) = times_is (normal e) (normal f) ∙ ap₂ mul (normal_is e) (normal_is f)
  normal_is (minus e) =
      scaled_is (negsuc 0) [] (normal e)
      ∙ ap₂ mul (mul_one (of_int (negsuc 0))) (normal_is e)
      ∙ sym (laws.neg_is (value R add mul neg of_int ρ e))

  pub solve : (e f : Poly) → normal e ≡ normal f → value R add mul neg of_int ρ e ≡ value R add mul neg of_int ρ f
  solve e f h = sym (normal_is e) ∙ ap of_monomials h ∙ normal_is f
