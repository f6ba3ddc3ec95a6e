-- Terms over numbered variables and rationals, and substitutions of their variables.
use Rattle.std.specs.Prelude.{◌≡◌, ℕ, suc, ◌+◌, ◌==◌, ◌⊎◌, cond, List, [], ◌∷◌}
use Rattle.spec_numbers.specs.Rational.{ℚ}

mutual
  -- a variable by its number (the smaller is the older), a rational, an atom by its name, or a name with arguments;
  -- the names are of any type, as texts, or numbers that a table gives to texts
  pub data Term (A : Type 0) : Type 0 where
    Var : ℕ → Term A
    Number : ℚ → Term A
    Name : A → Term A
    Compound : A → Terms A → Term A

  -- at least one term
  pub data Terms (A : Type 0) : Type 0 where
    one : Term A → Terms A
    more : Term A → Terms A → Terms A

-- the arguments as a list
abbrev pub list_of : {A : Type 0} → Terms A → List (Term A)
list_of (one t) = t ∷ []
list_of (more t ts) = t ∷ list_of ts

-- a list with a first element as arguments
abbrev pub terms_of : {A : Type 0} → Term A → List (Term A) → Terms A
terms_of t [] = one t
terms_of t (u ∷ us) = more t (terms_of u us)

-- a name with these arguments; without one the atom
abbrev pub with_arguments : {A : Type 0} → A → List (Term A) → Term A
with_arguments f [] = Name f
with_arguments f (t ∷ ts) = Compound f (terms_of t ts)

-- how many arguments
abbrev pub count : {A : Type 0} → Terms A → ℕ
count (one t) = 1
count (more t ts) = suc (count ts)

-- how many variables, numbers and names, with repetitions
abbrev mutual
  pub size : {A : Type 0} → Term A → ℕ
  size (Var v) = 1
  size (Number q) = 1
  size (Name a) = 1
  size (Compound f ts) = suc (total_size ts)

  pub total_size : {A : Type 0} → Terms A → ℕ
  total_size (one t) = size t
  total_size (more t ts) = size t + total_size ts

-- the variable stands in the term
abbrev mutual
  pub Occurs : {A : Type 0} → ℕ → Term A → Type 0
  Occurs v (Var w) = v ≡ w
  Occurs v (Number q) = ⊥
  Occurs v (Name a) = ⊥
  Occurs v (Compound f ts) = OccursIn v ts

  pub OccursIn : {A : Type 0} → ℕ → Terms A → Type 0
  OccursIn v (one t) = Occurs v t
  OccursIn v (more t ts) = Occurs v t ⊎ OccursIn v ts

-- a substitution: the image of each variable
abbrev pub Subst : Type 0 → Type 0
Subst A = ℕ → Term A

-- the substitution that changes nothing
abbrev pub identity : {A : Type 0} → Subst A
identity v = Var v

-- the substitution of one variable
abbrev pub single : {A : Type 0} → ℕ → Term A → Subst A
single v u w = cond (v == w) u (Var w)

-- the term with each variable replaced by its image
abbrev mutual
  pub apply : {A : Type 0} → Subst A → Term A → Term A
  apply s (Var v) = s v
  apply s (Number q) = Number q
  apply s (Name a) = Name a
  apply s (Compound f ts) = Compound f (apply_all s ts)

  pub apply_all : {A : Type 0} → Subst A → Terms A → Terms A
  apply_all s (one t) = one (apply s t)
  apply_all s (more t ts) = more (apply s t) (apply_all s ts)

-- first r, then s
abbrev pub followed_by : {A : Type 0} → Subst A → Subst A → Subst A
followed_by r s v = apply s (r v)

-- the term with each name replaced
abbrev mutual
  pub named : {A B : Type 0} → (A → B) → Term A → Term B
  named f (Var v) = Var v
  named f (Number q) = Number q
  named f (Name a) = Name (f a)
  named f (Compound a ts) = Compound (f a) (named_all f ts)

  pub named_all : {A B : Type 0} → (A → B) → Terms A → Terms B
  named_all f (one t) = one (named f t)
  named_all f (more t ts) = more (named f t) (named_all f ts)
