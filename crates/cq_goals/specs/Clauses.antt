-- Clauses on a heap, and the parts of a body that are still to be looked at.
use Rattle.std.specs.Prelude.{◌≡◌, ℕ, ◌+◌, ◌<◌, List, [], ◌∷◌, Bool, true, false, not, ◌&&◌, Option, None, Some, length, All, IfSome}
use Rattle.spec_numbers.specs.Texts.{Text}
use Rattle.spec_terms.specs.Term.{size}
use Rattle.spec_syntax.specs.Trees.{Tree}
use Rattle.spec_builtins.specs.Built.{atom}
use Rattle.spec_builtins.specs.Built as built
use Rattle.spec_builtins.specs.Kinds.{is_variable, is_callable}
use Rattle.spec_builtins.specs.Errors.{instantiation, type_error, or_error}
use Rattle.spec_builtins.specs.Bodies.{is_body, is_control}
use Rattle.spec_builtins.specs.Clauses.{error_if, head_body}
use Rattle.cq_term.specs.Texts.{text_of}
use Rattle.cq_term.specs.Meaning.{HeapTerm, at}
use Rattle.cq_term.specs.Trees.{tree}
use Rattle.cq_term.specs.declared.names.Pred.{Pred}
use Rattle.cq_built.specs.Errors.{indicator_of}
use Rattle.cq_built.specs.Sides.{HasSides}
use Rattle.cq_built.specs.declared.sides.Sides.{Sides}
use Rattle.cq_built.specs.Splitting.{waiting_size}
use Rattle.cq_goals.specs.declared.declarations.clauses.ClauseParts.{ClauseParts}

-- the body as the definitions see it: that of a fact is true
abbrev pub body_tree : List Text → List HeapTerm → Option ℕ → Tree
body_tree texts ts None = atom "true"
body_tree texts ts (Some id) = tree texts ts id

-- the term is a clause of this head and this body
pub record AreParts (texts : List Text) (ts : List HeapTerm) (id : ℕ) (p : ClauseParts) : Type 0 where
  pub head_live : p.head < length ts
  pub body_live : IfSome p.body (λ b. b < length ts)
  pub are : head_body (tree texts ts id) ≡ record { head = tree texts ts p.head; body = body_tree texts ts p.body }

-- the term is a rule of these sides
pub record IsRule (texts : List Text) (ts : List HeapTerm) (id : ℕ) (s : Sides) : Type 0 where
  pub sides : HasSides ts id s
  pub are : head_body (tree texts ts id) ≡ record { head = tree texts ts s.left; body = tree texts ts s.right }

-- the head is of this predicate
pub record IsOf (texts : List Text) (p : Pred) (head : Tree) : Type 0 where
  pub indicator : indicator_of texts p ≡ built.indicator_of head
  pub known : p.name < length texts

-- the error of a head, and of a body
abbrev pub head_error : Tree → Option Tree
head_error h = or_error (error_if (is_variable h) instantiation) (error_if (not (is_callable h)) (type_error "callable" h))

abbrev pub body_error : Tree → Option Tree
body_error b = error_if (not (is_body b)) (type_error "callable" b)

-- ---- bodies

-- the term is a construct of these sides
pub record IsControl (texts : List Text) (ts : List HeapTerm) (id : ℕ) (s : Sides) : Type 0 where
  pub sides : HasSides ts id s
  pub control : is_control (text_of texts s.name) ≡ true

-- each of the terms may stand in a body
abbrev pub are_bodies : List Text → List HeapTerm → List ℕ → Bool
are_bodies texts ts [] = true
are_bodies texts ts (id ∷ ids) = is_body (tree texts ts id) && are_bodies texts ts ids

-- others wait in place of a term
pub record BodyWaits (texts : List Text) (ts : List HeapTerm) (old : List ℕ) (id : ℕ) (new : List ℕ) : Type 0 where
  pub same : are_bodies texts ts new ≡ (are_bodies texts ts old && is_body (tree texts ts id))
  pub live : All (λ x. x < length ts) old → All (λ x. x < length ts) new
  pub less : waiting_size ts new < waiting_size ts old + size (at ts id)

-- the term is no body, or others wait in its place
abbrev pub BodyGoesOn : List Text → List HeapTerm → List ℕ → ℕ → Bool → List ℕ → Type 0
BodyGoesOn texts ts old id false new = is_body (tree texts ts id) ≡ false
BodyGoesOn texts ts old id true new = BodyWaits texts ts old id new

-- the terms that wait may stand in a body where the whole may
pub record IsBodyUnderWay (texts : List Text) (ts : List HeapTerm) (whole : Bool) (ws : List ℕ) : Type 0 where
  pub leads : are_bodies texts ts ws ≡ whole
  pub live : All (λ x. x < length ts) ws
