-- Errors and members of terms by their heads.
use Rattle.std.proofs.Common.{◌≡◌, ◌≢◌, ℕ, ◌+◌, Bool, true, false, ◌&&◌, ◌||◌, [], ◌∷◌, ◌++◌, Option, Some, None, is_some, nat_eq, refl, ap, ◌∙◌, arith}
use Rattle.std.specs.Prelude.{if◌then◌else◌}
use Rattle.std.proofs.lemmas.Bool.Decides.{nat_tests}
use Rattle.spec_numbers.specs.Texts.{Text}
use Rattle.spec_terms.specs.Term.{Var, Number, Name, Compound, one, more, count, named, named_all}
use Rattle.spec_syntax.specs.Trees.{Tree, binary}
use Rattle.spec_builtins.specs.Built.{indicator}
use Rattle.spec_builtins.specs.Errors.{instantiation, type_error, not_evaluable, or_error}
use Rattle.spec_branch.specs.Checks.{is_expression, expression_error, expressions_error, constraint_error, question_error, binary_error, is_conjunction, is_disjunction, members, halves, in_conjunction}
use Rattle.spec_branch.specs.Expressions.{unary_name, binary_name}
use Rattle.spec_branch.specs.Relations.{relation_name}
use Rattle.cq_term.specs.Meaning.{HeapTerm}
use Rattle.cq_term.specs.Shown.{view_of}
use Rattle.cq_term.specs.declared.view.View.TheVariants as view
use Rattle.cq_built.specs.Sides.{is_binary}
use Rattle.cq_built.proofs.Heads.{count-named}
use Rattle.cq_goals.specs.declared.checks.Purpose.{Purpose}
use Rattle.cq_goals.specs.declared.checks.Purpose.TheVariants as purpose
use Rattle.cq_goals.specs.Checking.{error_for}

-- ---- constraints

module _ (f : Text) (a b : Tree) where
  pub error_of_conjunction : (p : Purpose) → is_disjunction f ≡ false → is_conjunction f ≡ true → error_for p (binary f a b) ≡ or_error (error_for p a) (error_for p b)
  error_of_conjunction purpose.Telling d c =
      let r = is_some (relation_name f) in
      let e = or_error (expression_error a) (expression_error b) in
      ap (λ x. if x || is_disjunction f then or_error (constraint_error a) (constraint_error b) else if r then e else Some (type_error "constraint" (binary f a b))) c
  error_of_conjunction purpose.Question d c =
      let r = is_some (relation_name f) in
      let e = or_error (expression_error a) (expression_error b) in
      let m = or_error (question_error a) (question_error b) in
      ap (λ x. if x then Some (type_error "linear" (binary f a b)) else binary_error f (binary f a b) m e) d
      ∙ ap (λ x. if x || is_disjunction f then m else if r then e else Some (type_error "constraint" (binary f a b))) c

  pub error_of_disjunction : is_disjunction f ≡ true → constraint_error (binary f a b) ≡ or_error (constraint_error a) (constraint_error b)
  error_of_disjunction d =
      let r = is_some (relation_name f) in
      let e = or_error (expression_error a) (expression_error b) in
      let m = or_error (constraint_error a) (constraint_error b) in
      ap (λ x. if is_conjunction f || x then m else if r then e else Some (type_error "constraint" (binary f a b))) d
      ∙ by (is_conjunction f) m (if r then e else Some (type_error "constraint" (binary f a b)))
    where
      by : (c : Bool) (m w : Option Tree) → (if c || true then m else w) ≡ m
      by true m w = refl
      by false m w = refl

  -- neither a conjunction nor a disjunction
  unjoined : (p : Purpose) → is_disjunction f ≡ false → is_conjunction f ≡ false → error_for p (binary f a b) ≡ (if is_some (relation_name f) then or_error (expression_error a) (expression_error b) else Some (type_error "constraint" (binary f a b)))
  unjoined purpose.Telling d c =
      let r = is_some (relation_name f) in
      let e = or_error (expression_error a) (expression_error b) in
      let m = or_error (constraint_error a) (constraint_error b) in
      λ i. if c i || d i then m else if r then e else Some (type_error "constraint" (binary f a b))
  unjoined purpose.Question d c =
      let r = is_some (relation_name f) in
      let e = or_error (expression_error a) (expression_error b) in
      let m = or_error (question_error a) (question_error b) in
      ap (λ x. if x then Some (type_error "linear" (binary f a b)) else binary_error f (binary f a b) m e) d
      ∙ (λ i. if c i || d i then m else if r then e else Some (type_error "constraint" (binary f a b)))

  pub error_of_relation : (p : Purpose) → is_disjunction f ≡ false → is_conjunction f ≡ false → is_some (relation_name f) ≡ true → error_for p (binary f a b) ≡ or_error (expression_error a) (expression_error b)
  error_of_relation p d c r = unjoined p d c ∙ ap (λ x. if x then or_error (expression_error a) (expression_error b) else Some (type_error "constraint" (binary f a b))) r

-- ---- terms without two sides
module _ (g : ℕ → Text) where
  pub unbound_constraint : (p : Purpose) (t : HeapTerm) (v : _) → view_of t ≡ view.Var v → error_for p (named g t) ≡ Some instantiation
  unbound_constraint purpose.Telling (Var v) w e = refl
  unbound_constraint purpose.Question (Var v) w e = refl
  unbound_constraint p (Number q) w e = cc
  unbound_constraint p (Name a) w e = cc
  unbound_constraint p (Compound f ts) w e = cc

  pub no_constraint : (p : Purpose) (t : HeapTerm) → is_binary t ≡ false → ((v : _) → view_of t ≢ view.Var v) → error_for p (named g t) ≡ Some (type_error "constraint" (named g t))
  no_constraint p (Var v) e n = absurd (n _ refl)
  no_constraint purpose.Telling (Number q) e n = refl
  no_constraint purpose.Question (Number q) e n = refl
  no_constraint purpose.Telling (Name a) e n = refl
  no_constraint purpose.Question (Name a) e n = refl
  no_constraint purpose.Telling (Compound f (one t)) e n = refl
  no_constraint purpose.Question (Compound f (one t)) e n = refl
  no_constraint p (Compound f (more t (one u))) e n = cc
  no_constraint purpose.Telling (Compound f (more t (more u us))) e n = refl
  no_constraint purpose.Question (Compound f (more t (more u us))) e n = refl

  pub halves_of_other : (t : HeapTerm) → is_binary t ≡ false → halves (named g t) ≡ None
  halves_of_other (Var v) e = refl
  halves_of_other (Number q) e = refl
  halves_of_other (Name a) e = refl
  halves_of_other (Compound f (one t)) e = refl
  halves_of_other (Compound f (more t (one u))) e = cc
  halves_of_other (Compound f (more t (more u us))) e = refl

pub members_of_conjunction : (f : Text) (a b : Tree) → is_conjunction f ≡ true → members (binary f a b) ≡ members a ++ members b
members_of_conjunction f a b c = ap (λ x. if x then members a ++ members b else binary f a b ∷ []) c

pub halves_of_disjunction : (f : Text) (a b : Tree) → is_disjunction f ≡ true → halves (binary f a b) ≡ Some (record { left = a; right = b })
halves_of_disjunction f a b d =
    ap (λ x. if x then Some (record { left = a; right = b }) else if is_conjunction f then in_conjunction a b (halves a) (halves b) else None) d

pub halves_of_conjunction : (f : Text) (a b : Tree) → is_disjunction f ≡ false → is_conjunction f ≡ true → halves (binary f a b) ≡ in_conjunction a b (halves a) (halves b)
halves_of_conjunction f a b d c =
    λ i. if d i then Some (record { left = a; right = b }) else if c i then in_conjunction a b (halves a) (halves b) else None

pub no_halves : (f : Text) (a b : Tree) → is_disjunction f ≡ false → is_conjunction f ≡ false → halves (binary f a b) ≡ None
no_halves f a b d c =
    λ i. if d i then Some (record { left = a; right = b }) else if c i then in_conjunction a b (halves a) (halves b) else None

-- ---- expressions

apart : (m n : ℕ) → m ≢ n → nat_eq m n ≡ false
apart m n h = grind (arith, nat_tests)

or_false : (x : Bool) → (x || false) ≡ x
or_false true = refl
or_false false = refl

no_expression : (f : Text) (n : ℕ) → n ≢ 1 → n ≢ 2 → is_expression f n ≡ false
no_expression f n h k = λ i. (apart n 1 h i && is_some (unary_name f)) || (apart n 2 k i && is_some (binary_name f))

module _ (g : ℕ → Text) where
  pub many_expression : (t : HeapTerm) (f n : ℕ) → view_of t ≡ view.Compound f n → n ≢ 1 → n ≢ 2 → expression_error (named g t) ≡ Some (not_evaluable (indicator (g f) n))
  many_expression (Var v) f n e h k = cc
  many_expression (Number q) f n e h k = cc
  many_expression (Name b) f n e h k = cc
  many_expression (Compound b (one t)) f n e h k = let c : ◌≡◌ {A = ℕ} n 1 = cc in absurd (h c)
  many_expression (Compound b (more t us)) f n e h k =
      let d : b ≡ f = cc in
      let c : count (more t us) ≡ n = cc in
      let m : count (named_all g (more t us)) ≡ n = count-named g (more t us) ∙ c in
      let other : is_expression (g b) (count (named_all g (more t us))) ≡ false = ap (is_expression (g b)) m ∙ no_expression (g b) n h k in
      ap (λ x. if x then expressions_error (named_all g (more t us)) else Some (not_evaluable (indicator (g b) (count (named_all g (more t us)))))) other
      ∙ (λ i. Some (not_evaluable (indicator (g (d i)) (m i))))

  pub one_expression : (t a : HeapTerm) (f : ℕ) → t ≡ Compound f (one a) → is_some (unary_name (g f)) ≡ true → expression_error (named g t) ≡ expression_error (named g a)
  one_expression t a f e h =
      ap (λ u. expression_error (named g u)) e
      ∙ ap (λ x. if x || false then expression_error (named g a) else Some (not_evaluable (indicator (g f) 1))) h

  pub not_one : (t a : HeapTerm) (f : ℕ) → t ≡ Compound f (one a) → is_some (unary_name (g f)) ≡ false → expression_error (named g t) ≡ Some (not_evaluable (indicator (g f) 1))
  not_one t a f e h =
      ap (λ u. expression_error (named g u)) e
      ∙ ap (λ x. if x || false then expression_error (named g a) else Some (not_evaluable (indicator (g f) 1))) h

  pub two_expression : (t a b : HeapTerm) (f : ℕ) → t ≡ Compound f (more a (one b)) → is_some (binary_name (g f)) ≡ true → expression_error (named g t) ≡ or_error (expression_error (named g a)) (expression_error (named g b))
  two_expression t a b f e h =
      ap (λ u. expression_error (named g u)) e
      ∙ ap (λ x. if x then or_error (expression_error (named g a)) (expression_error (named g b)) else Some (not_evaluable (indicator (g f) 2))) h

  pub not_two : (t a b : HeapTerm) (f : ℕ) → t ≡ Compound f (more a (one b)) → is_some (binary_name (g f)) ≡ false → expression_error (named g t) ≡ Some (not_evaluable (indicator (g f) 2))
  not_two t a b f e h =
      ap (λ u. expression_error (named g u)) e
      ∙ ap (λ x. if x then or_error (expression_error (named g a)) (expression_error (named g b)) else Some (not_evaluable (indicator (g f) 2))) h
