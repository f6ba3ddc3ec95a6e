-- What the steps of the begin come to together.
use Rattle.std.proofs.Common.{◌≡◌, ℕ, List, ◌++◌, map, Bool, true, refl, sym, ap, ap₂, ◌∙◌, subst, inl, inr, ◌⊎◌, ◌||◌, append_assoc}
use Rattle.std.specs.Prelude.{Contains, All, ◌==◌}
use Rattle.std.specs.List.{list_any}
use Rattle.spec_numbers.specs.Rational.{ℚ}
use Rattle.spec_linear.specs.Solution.{Constraint, Fixed}
use Rattle.spec_terms.specs.Variables.{variables}
use Rattle.cq_attr.specs.Attributes.{Attributes, Waiting, is_numeric}
use Rattle.cq_frac.specs.declared.VarId.{VarId}
use Rattle.cq_term.specs.Meaning.{at}
use Rattle.cq_term.specs.Shown.{IsUnbound}
use Rattle.cq_term.specs.Places.{numbers_of}
use Rattle.cq_settle.specs.Contents.{Contents}
use Rattle.cq_settle.specs.Steps.{WaitsOn, Follows, HaveJoined, StopsAt, equations_of, numeric_ones, is_image_of}
use Rattle.cq_settle.proofs.Begin.{HasBegun}
use Rattle.cq_settle.proofs.Joined.{contains_or_not}
use Rattle.cq_settle.proofs.Start.{stops_more, stops_behind}

module _ (c : Contents) (newly : List VarId) (a : Attributes) (follows : Follows c.heap.images (numbers_of newly) c.attrs a) where
  abbrev pub followed : Contents
  followed = record c { attrs = a }

  same_test : is_numeric a ≡ is_numeric c.attrs
  same_test = let f : List ℕ → ℕ → Bool = λ ns v. list_any (λ w. w == v) ns in ap f follows.numeric

  pub same_ones : numeric_ones a newly ≡ numeric_ones c.attrs newly
  same_ones = ap (λ (test : ℕ → Bool). Rattle.std.specs.Prelude.filter test (numbers_of newly)) same_test

  pub same_equations : equations_of followed newly ≡ equations_of c newly
  same_equations = ap (map (Rattle.cq_settle.specs.Steps.equation_at c.heap.images)) same_ones

  -- what stops among the equations, or among the rows behind them, stops among all
  pub stops_first : (P : List Constraint → Constraint → Type 0) (rows : List Constraint) → StopsAt P c.told (equations_of followed newly) → StopsAt P c.told (equations_of c newly ++ rows)
  stops_first P rows h = stops_more P c.told (equations_of c newly) rows (subst (λ (es : List Constraint). StopsAt P c.told es) same_equations h)

  pub stops_second : (P : List Constraint → Constraint → Type 0) (rows mid : List Constraint) (f g : List VarId) → HaveJoined c.told (equations_of followed newly) mid f g → StopsAt P mid rows
      → StopsAt P c.told (equations_of c newly ++ rows)
  stops_second P rows mid f g j h = stops_behind P c.told (equations_of c newly) rows mid (j.list ∙ ap (λ (es : List Constraint). c.told ++ es) same_equations) h

  module _ (told : List ℕ) (rows : List Constraint) (b d : Attributes) (mid last : List Constraint) (none first second third : List VarId)
      (equations : HaveJoined c.told (equations_of followed newly) mid none first)
      (numeric : (v : ℕ) → is_numeric b v ≡ (is_numeric a v || is_image_of c.heap.images (numeric_ones a newly) v))
      (images : (v : ℕ) → is_image_of c.heap.images (numeric_ones a newly) v ≡ true → Contains (numbers_of first) v)
      (waiting : b.waiting ≡ a.waiting)
      (joined : HaveJoined mid rows last first second)
      (numeric_told : (v : ℕ) → is_numeric d v ≡ (is_numeric b v || list_any (λ id. list_any (λ w. w == v) (variables (at c.heap.terms id))) told))
      (unbound : All (λ id. All (IsUnbound c.heap.images) (variables (at c.heap.terms id))) told)
      (in_told : All (λ id. All (Contains (numbers_of third)) (variables (at c.heap.terms id))) told)
      (still : (v : ℕ) → Contains (numbers_of second) v → Contains (numbers_of third) v)
      (waiting_told : d.waiting ≡ b.waiting) (pivots : ℕ) where
    abbrev pub begun_world : Contents
    begun_world = record { heap = c.heap; attrs = d; told = last; pivots = pivots }

    found : (v : ℕ) (q : ℚ) → Fixed last v q → ((r : ℚ) → Fixed c.told v r → ⊥) → Contains (numbers_of third) v ⊎ (Contains (numbers_of third) v → ⊥) → Contains (numbers_of third) v
    found v q f n (inl h) = h
    found v q f n (inr g) = absurd (g (still v (joined.told v q f (λ r h. g (still v (joined.still v (equations.told v r h n)))))))

    pub has_begun : HasBegun c begun_world newly told rows (numbers_of third)
    has_begun = record {
      heap = refl;
      waiting = subst (λ (ws : List Waiting). Rattle.std.specs.List.AllZip (WaitsOn c.heap.images (numbers_of newly)) c.attrs.waiting ws) (sym (waiting_told ∙ waiting)) follows.waiting;
      numeric = λ v.
          numeric_told v
          ∙ ap (λ (x : Bool). x || list_any (λ id. list_any (λ w. w == v) (variables (at c.heap.terms id))) told)
          (numeric v ∙ ap₂ (λ (test : ℕ → Bool) (ns : List ℕ). test v || is_image_of c.heap.images ns v) same_test same_ones);
      list = joined.list ∙ ap (λ (l : List Constraint). l ++ rows) (equations.list ∙ ap (λ (es : List Constraint). c.told ++ es) same_equations)
          ∙ append_assoc c.told (equations_of c newly) rows;
      newly_fixed = λ v q f n. found v q f n (contains_or_not (numbers_of third) v);
      images = λ v e. still v (joined.still v (images v (ap (λ (ns : List ℕ). is_image_of c.heap.images ns v) same_ones ∙ e)));
      in_told = in_told;
      unbound = unbound;
    }
