-- Clauses taken apart, and bodies whose parts are looked at one after another.
use Rattle.std.proofs.Common.{◌≡◌, ℕ, ◌+◌, ◌<◌, Bool, true, false, ◌&&◌, List, [], ◌∷◌, ◌++◌, length, Some, None, refl, ap, sym, ◌∙◌, arith}
use Rattle.std.proofs.Math.Bool.{and-true}
use Rattle.std.specs.Prelude.{All, not, if◌then◌else◌, codes, bytes_eq}
use Rattle.std.proofs.lemmas.List.Elements.{All-nil, All-push, All-same, All-pop}
use Rattle.spec_numbers.specs.Texts.{Text}
use Rattle.spec_terms.specs.Term.{Var, Number, Name, Compound, one, more, named}
use Rattle.spec_syntax.specs.Trees.{Tree, binary}
use Rattle.spec_builtins.specs.Kinds.{is_variable, is_callable, is_number}
use Rattle.spec_builtins.specs.Errors.{instantiation, type_error, or_error}
use Rattle.spec_builtins.specs.Bodies.{is_body, is_control}
use Rattle.spec_builtins.specs.Clauses.{error_if, first_error, HeadBody, head_body, fact, clause_error}
use Rattle.cq_term.specs.Texts.{text_of}
use Rattle.cq_term.specs.Meaning.{HeapTerm, at}
use Rattle.cq_term.specs.Shown.{view_of}
use Rattle.cq_term.specs.declared.view.View.TheVariants as view
use Rattle.cq_term.specs.Trees.{tree}
use Rattle.cq_built.specs.Sides.{is_binary}
use Rattle.cq_built.specs.declared.sides.Sides.{Sides}
use Rattle.cq_built.specs.Splitting.{waiting_size}
use Rattle.cq_built.proofs.Heads.{tree_of_sides, size_of_sides, size_positive}
use Rattle.cq_built.proofs.Splitting.{size_last}
use Rattle.cq_goals.specs.Clauses.{AreParts, head_error, body_error, body_tree, are_bodies, BodyWaits, IsBodyUnderWay, IsControl}
use Rattle.cq_goals.specs.declared.declarations.clauses.ClauseParts.{ClauseParts}
use Rattle.cq_goals.proofs.DeclarationsErrors.{three_errors}

-- a clause has the error of its head, or else that of its body
pub clause_in_turn : (texts : List Text) (ts : List HeapTerm) (id : ℕ) (p : ClauseParts) → AreParts texts ts id p → clause_error (tree texts ts id) ≡ or_error (head_error (tree texts ts p.head)) (body_error (body_tree texts ts p.body))
clause_in_turn texts ts id p h =
    ap (λ (c : HeadBody). first_error (error_if (is_variable c.head) instantiation ∷ error_if (not (is_callable c.head)) (type_error "callable" c.head) ∷ error_if (not (is_body c.body)) (type_error "callable" c.body) ∷ [])) h.are
    ∙ three_errors (error_if (is_variable (tree texts ts p.head)) instantiation) (error_if (not (is_callable (tree texts ts p.head))) (type_error "callable" (tree texts ts p.head))) (body_error (body_tree texts ts p.body))

pub no_rule : (f : Text) (a b : Tree) → bytes_eq f (codes ":-") ≡ false → head_body (binary f a b) ≡ fact (binary f a b)
no_rule f a b e = ap (λ x. if x then record { head = a; body = b } else fact (binary f a b)) e

pub rule_is : (f : Text) (a b : Tree) → bytes_eq f (codes ":-") ≡ true → head_body (binary f a b) ≡ record { head = a; body = b }
rule_is f a b e = ap (λ x. if x then record { head = a; body = b } else fact (binary f a b)) e

module _ (g : ℕ → Text) where
  pub fact_of_other : (t : HeapTerm) → is_binary t ≡ false → head_body (named g t) ≡ fact (named g t)
  fact_of_other (Var v) e = refl
  fact_of_other (Number q) e = refl
  fact_of_other (Name a) e = refl
  fact_of_other (Compound f (one t)) e = refl
  fact_of_other (Compound f (more t (one u))) e = cc
  fact_of_other (Compound f (more t (more u us))) e = refl

  pub body_of_other : (t : HeapTerm) → is_binary t ≡ false → is_number (named g t) ≡ false → is_body (named g t) ≡ true
  body_of_other (Var v) e n = refl
  body_of_other (Number q) e n = cc
  body_of_other (Name a) e n = refl
  body_of_other (Compound f (one t)) e n = refl
  body_of_other (Compound f (more t (one u))) e n = cc
  body_of_other (Compound f (more t (more u us))) e n = refl

pub body_of_control : (f : Text) (a b : Tree) → is_control f ≡ true → is_body (binary f a b) ≡ (is_body a && is_body b)
body_of_control f a b e = ap (λ x. if x then is_body a && is_body b else true) e

pub body_of_goal : (f : Text) (a b : Tree) → is_control f ≡ false → is_body (binary f a b) ≡ true
body_of_goal f a b e = ap (λ x. if x then is_body a && is_body b else true) e

pub number_is_no_body : (t : Tree) → is_number t ≡ true → is_body t ≡ false
number_is_no_body (Var v) e = cc
number_is_no_body (Number q) e = refl
number_is_no_body (Name a) e = cc
number_is_no_body (Compound f ts) e = cc

-- ---- parts that wait

and_assoc : (a b c : Bool) → ((a && b) && c) ≡ (a && (b && c))
and_assoc true b c = refl
and_assoc false b c = refl

and_swap : (a b : Bool) → (a && b) ≡ (b && a)
and_swap true true = refl
and_swap true false = refl
and_swap false true = refl
and_swap false false = refl

module _ (texts : List Text) (ts : List HeapTerm) where
  bodies_last : (ids : List ℕ) (id : ℕ) → are_bodies texts ts (ids ++ id ∷ []) ≡ (are_bodies texts ts ids && is_body (tree texts ts id))
  bodies_last [] id = and-true (is_body (tree texts ts id))
  bodies_last (w ∷ ids) id = ap (λ b. is_body (tree texts ts w) && b) (bodies_last ids id) ∙ sym (and_assoc (is_body (tree texts ts w)) (are_bodies texts ts ids) (is_body (tree texts ts id)))

  module _ (old new : List ℕ) (id : ℕ) where
    pub control_waits : (s : Sides) → IsControl texts ts id s → new ≡ (old ++ s.right ∷ []) ++ s.left ∷ [] → BodyWaits texts ts old id new
    control_waits s h n =
        let l = is_body (tree texts ts s.left) in
        let r = is_body (tree texts ts s.right) in
        let b : is_body (tree texts ts id) ≡ (l && r) = ap is_body (tree_of_sides texts ts id s h.sides) ∙ body_of_control (text_of texts s.name) (tree texts ts s.left) (tree texts ts s.right) h.control in
        record {
          same =
              ap (are_bodies texts ts) n ∙ bodies_last (old ++ s.right ∷ []) s.left ∙ ap (λ x. x && l) (bodies_last old s.right)
              ∙ and_assoc (are_bodies texts ts old) r l ∙ ap (λ x. are_bodies texts ts old && x) (and_swap r l ∙ sym b);
          live = λ all.
              All-same (λ x. x < length ts) new ((old ++ s.right ∷ []) ++ s.left ∷ []) n
              (All-push (λ x. x < length ts) (old ++ s.right ∷ []) s.left (All-push (λ x. x < length ts) old s.right all h.sides.right) h.sides.left);
          less = (let e = ap (waiting_size ts) n in let a = size_last ts (old ++ s.right ∷ []) s.left in let c = size_last ts old s.right in let z = size_of_sides ts id s h.sides in omega (arith, e, a, c, z));
        }

    pub goal_passes : is_body (tree texts ts id) ≡ true → new ≡ old → BodyWaits texts ts old id new
    goal_passes b n = record {
      same = ap (are_bodies texts ts) n ∙ sym (and-true (are_bodies texts ts old)) ∙ ap (λ x. are_bodies texts ts old && x) (sym b);
      live = λ all. All-same (λ x. x < length ts) new old n all;
      less = (let e = ap (waiting_size ts) n in let z = size_positive (at ts id) in omega (arith, e, z));
    }

  module _ (whole : Bool) (ws old : List ℕ) (id : ℕ) (h : IsBodyUnderWay texts ts whole ws) (n : ws ≡ old ++ id ∷ []) where
    body_popped : All (λ x. x < length ts) old × (id < length ts)
    body_popped = All-pop (λ x. x < length ts) ws old (Some id) n h.live

    pub body_live : id < length ts
    body_live = body_popped.1

    body_leads : (are_bodies texts ts old && is_body (tree texts ts id)) ≡ whole
    body_leads = sym (bodies_last old id) ∙ ap (are_bodies texts ts) (sym n) ∙ h.leads

    pub body_stops : is_body (tree texts ts id) ≡ false → whole ≡ false
    body_stops f = sym body_leads ∙ ap (λ x. are_bodies texts ts old && x) f ∙ and_swap (are_bodies texts ts old) false

    module _ (new : List ℕ) (w : BodyWaits texts ts old id new) where
      pub body_goes : IsBodyUnderWay texts ts whole new
      body_goes = record { leads = w.same ∙ body_leads; live = w.live body_popped.0 }

      pub body_less : waiting_size ts new < waiting_size ts ws
      body_less = let s = ap (waiting_size ts) n in let t = size_last ts old id in let l = w.less in omega (arith, s, t, l)

  pub body_ends : (whole : Bool) (ws : List ℕ) → IsBodyUnderWay texts ts whole ws → length ws ≡ 0 → whole ≡ true
  body_ends whole [] h n = sym h.leads
  body_ends whole (w ∷ ws) h n = absurd (omega (arith, n))

  pub body_starts : (id : ℕ) (ws : List ℕ) → id < length ts → ws ≡ id ∷ [] → IsBodyUnderWay texts ts (is_body (tree texts ts id)) ws
  body_starts id ws live n = record {
    leads = ap (are_bodies texts ts) n ∙ and-true (is_body (tree texts ts id));
    live = All-same (λ x. x < length ts) ws (id ∷ []) n (All-push (λ x. x < length ts) [] id (All-nil (λ x. x < length ts)) live);
  }

-- ---- heads
module _ (g : ℕ → Text) where
  pub head_is_unbound : (t : HeapTerm) (v : _) → view_of t ≡ view.Var v → head_error (named g t) ≡ Some instantiation
  head_is_unbound (Var v) w e = refl
  head_is_unbound (Number q) w e = cc
  head_is_unbound (Name a) w e = cc
  head_is_unbound (Compound f ts) w e = cc

  pub head_is_number : (t : HeapTerm) (q : _) → view_of t ≡ view.Number q → head_error (named g t) ≡ Some (type_error "callable" (named g t))
  head_is_number (Var v) w e = cc
  head_is_number (Number q) w e = refl
  head_is_number (Name a) w e = cc
  head_is_number (Compound f ts) w e = cc

  pub head_is_atom : (t : HeapTerm) (a : ℕ) → view_of t ≡ view.Name a → head_error (named g t) ≡ None
  head_is_atom (Var v) w e = cc
  head_is_atom (Number q) w e = cc
  head_is_atom (Name a) w e = refl
  head_is_atom (Compound f ts) w e = cc

  pub head_is_compound : (t : HeapTerm) (f n : ℕ) → view_of t ≡ view.Compound f n → head_error (named g t) ≡ None
  head_is_compound (Var v) f n e = cc
  head_is_compound (Number q) f n e = cc
  head_is_compound (Name a) f n e = cc
  head_is_compound (Compound b ts) f n e = refl
