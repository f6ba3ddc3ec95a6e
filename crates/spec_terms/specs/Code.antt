-- Terms as stored values, so that a struct can be seen as terms.
use base.Stored.{Coded, Gv, gnil, gnum, gcons}
use Rattle.std.specs.Prelude.{◌≡◌, ℕ, ℤ}
use Rattle.std.specs.Coded.{code_by, coded×, coded_ℕ, coded_ℤ}
use Rattle.spec_numbers.specs.Rational.{ℚ, denominator, ratio}
use Rattle.spec_numbers.proofs.RationalLemmas.{ratio_back}
use Rattle.spec_terms.specs.Term.{Term, Terms, Var, Number, Name, Compound, one, more}

-- a rational as a stored value
abbrev pub coded_rational : Coded ℚ
coded_rational = code_by (ℤ × ℕ) (coded× coded_ℤ coded_ℕ) (λ q. (q.numerator, denominator q)) (λ p. ratio p.0 p.1) ratio_back

-- a term as a value of the general kind, and its arguments
abbrev mutual
  pub term_code : {A : Type 0} → Coded A → Term A → Gv
  term_code c (Var n) = gcons gnil (gnum n)
  term_code c (Number q) = gcons (gnum 0) (coded_rational.code q)
  term_code c (Name a) = gcons (gnum 1) (c.code a)
  term_code c (Compound f ts) = gcons (gcons gnil gnil) (gcons (c.code f) (terms_code c ts))

  pub terms_code : {A : Type 0} → Coded A → Terms A → Gv
  terms_code c (one t) = gcons (term_code c t) gnil
  terms_code c (more t ts) = gcons (term_code c t) (gcons gnil (terms_code c ts))

mutual
  pub term_inj : {A : Type 0} (c : Coded A) → (x y : Term A) → term_code c x ≡ term_code c y → x ≡ y
  term_inj c (Var a) (Var b) p = cc
  term_inj c (Number a) (Number b) p =
      let e : coded_rational.code a ≡ coded_rational.code b = cc in
      let h : a ≡ b = coded_rational.inj a b e in
      cc
  term_inj c (Name a) (Name b) p =
      let e : c.code a ≡ c.code b = cc in
      let h : a ≡ b = c.inj a b e in
      cc
  term_inj c (Compound f ts) (Compound g us) p =
      let e : terms_code c ts ≡ terms_code c us = cc in
      let h : ts ≡ us = terms_inj c ts us e in
      let d : c.code f ≡ c.code g = cc in
      let k : f ≡ g = c.inj f g d in
      cc
  term_inj c (Var a) _ p = cc
  term_inj c (Number a) _ p = cc
  term_inj c (Name a) _ p = cc
  term_inj c (Compound f ts) _ p = cc

  pub terms_inj : {A : Type 0} (c : Coded A) → (x y : Terms A) → terms_code c x ≡ terms_code c y → x ≡ y
  terms_inj c (one t) (one u) p =
      let e : term_code c t ≡ term_code c u = cc in
      let h : t ≡ u = term_inj c t u e in
      cc
  terms_inj c (more t ts) (more u us) p =
      let e : term_code c t ≡ term_code c u = cc in
      let h : t ≡ u = term_inj c t u e in
      let d : terms_code c ts ≡ terms_code c us = cc in
      let k : ts ≡ us = terms_inj c ts us d in
      cc
  terms_inj c (one t) (more u us) p = cc
  terms_inj c (more t ts) (one u) p = cc

-- a term as a stored value, over names that can be stored
abbrev pub coded_term : {A : Type 0} → Coded A → Coded (Term A)
coded_term c = record { code = term_code c; inj = term_inj c }
