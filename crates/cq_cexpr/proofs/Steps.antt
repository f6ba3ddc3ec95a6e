-- The steps of a walk through an expression: what the operations under way make of what a step comes to.
use Rattle.std.proofs.Common.{◌≡◌, ◌≢◌, ℕ, Bool, true, false, suc, ◌+◌, ◌*◌, ◌<◌, List, [], ◌∷◌, ◌++◌, length, Option, Some, None, ◌⊎◌, inl, inr, refl, ap, ap₂, sym, ◌∙◌, subst, arith}
use Rattle.std.specs.Prelude.{slice_get, if◌then◌else◌, ◌&&◌}
use Rattle.std.proofs.lemmas.Option.{same_Some}
use Rattle.spec_linear.specs.Form.{Linear}
use Rattle.spec_linear.specs.Solution.{Has}
use Rattle.spec_simplex.specs.Overflow.{Operands}
use Rattle.spec_numbers.specs.Texts.{Text}
use Rattle.spec_terms.specs.Term.{Var, Number, Name, Compound, one, more, count, size, named}
use Rattle.spec_syntax.specs.Trees.{Tree}
use Rattle.spec_branch.specs.Expressions.{BinaryName, Plus, Minus, Times, Over, Power, Least, Greatest, unary_name, binary_name, binary_of, is_zero_form, form_of}
use Rattle.spec_branch.specs.Relations.{Lin, Waits, False, form_or_waits, lin_expression}
use Rattle.spec_branch.specs.Alike.{no_values}
use Rattle.spec_transcript.specs.Operands.{binary_operands, expression_operands}
use Rattle.cq_term.specs.Texts.{text_of}
use Rattle.cq_frac.specs.declared.Pair.{Pair}
use Rattle.cq_term.specs.Trees.{tree}
use Rattle.cq_term.specs.Meaning.{HeapTerm, at}
use Rattle.cq_term.specs.Names.{HasNamesBelow}
use Rattle.cq_term.specs.Shown.{view_of, arguments}
use Rattle.cq_term.specs.declared.view.View.TheVariants as view
use Rattle.cq_cexpr.specs.declared.names.Unary.{Unary}
use Rattle.cq_cexpr.specs.declared.names.Binary.{Binary}
use Rattle.cq_cexpr.specs.declared.evaluation.Waiting.{Waiting}
use Rattle.cq_cexpr.specs.declared.evaluation.Waiting.TheVariants as waiting
use Rattle.cq_cexpr.specs.declared.evaluation.Step.{Step}
use Rattle.cq_cexpr.specs.declared.evaluation.Step.TheVariants as step
use Rattle.cq_cexpr.specs.Names.{unary_meant, binary_meant, is_over}
use Rattle.cq_cexpr.specs.Overflows.{Within, ComesFrom}
use Rattle.cq_cexpr.specs.Sums.{whole_of, due_in}
use Rattle.cq_cexpr.specs.declared.sums.Sum.{Sum}
use Rattle.cq_cexpr.specs.Work.{form_in, unless_zero, after_one, after_right, after_both, read_at, outcome, resumed, all_resumed, CanVisit, CanTake, CanResume, CanResumeAll, step_work, waiting_work, all_work, IsUnderWay, GoesOn, IsJoined}
use Rattle.cq_cexpr.proofs.Overflowing.{within_left, within_right, within_trans, comes_within}
use Rattle.cq_cexpr.proofs.Expressed.{one_is, two_is, form_in_taken, FormOr, as_defined, is_none, form_or}

-- ---- the operations of a compound

no_left : (n : Option BinaryName) (p : Option Linear) → binary_operands n None p ≡ []
no_left None p = refl
no_left (Some Plus) p = refl
no_left (Some Minus) p = refl
no_left (Some Times) p = refl
no_left (Some Over) p = refl
no_left (Some Power) p = refl
no_left (Some Least) p = refl
no_left (Some Greatest) p = refl

no_right : (n : Option BinaryName) (o : Option Linear) → binary_operands n o None ≡ []
no_right None o = refl
no_right (Some Plus) None = refl
no_right (Some Plus) (Some f) = refl
no_right (Some Minus) None = refl
no_right (Some Minus) (Some f) = refl
no_right (Some Times) None = refl
no_right (Some Times) (Some f) = refl
no_right (Some Over) None = refl
no_right (Some Over) (Some f) = refl
no_right (Some Power) None = refl
no_right (Some Power) (Some f) = refl
no_right (Some Least) o = refl
no_right (Some Greatest) o = refl

pub nothing_within : (s t : List Operands) → s ≡ [] → Within s t
nothing_within s t e o h = absurd (subst (Has o) e h)

module _ (f : Text) (a b : Tree) where
  abbrev own : Option Linear → Option Linear → List Operands
  own o p = binary_operands (binary_name f) o p

  -- those of the forms that its arguments come to
  own_operands : FormOr no_values a → FormOr no_values b → Within (own (form_in (lin_expression no_values a)) (form_in (lin_expression no_values b))) (own (form_of no_values a) (form_of no_values b))
  own_operands (as_defined d) (as_defined e) =
      λ o h. subst (Has o) (ap₂ own d e) h
  own_operands (is_none d) k = nothing_within _ _ (ap (λ o. own o (form_in (lin_expression no_values b))) d ∙ no_left (binary_name f) (form_in (lin_expression no_values b)))
  own_operands (as_defined d) (is_none e) = nothing_within _ _ (ap (own (form_in (lin_expression no_values a))) e ∙ no_right (binary_name f) (form_in (lin_expression no_values a)))

  pub left_operands : Within (expression_operands no_values a) (expression_operands no_values (Compound f (more a (one b))))
  left_operands = within_trans _ _ _ (within_left (expression_operands no_values a) (expression_operands no_values b)) (within_left (expression_operands no_values a ++ expression_operands no_values b) (own (form_of no_values a) (form_of no_values b)))

  pub right_operands : Within (expression_operands no_values b) (expression_operands no_values (Compound f (more a (one b))))
  right_operands = within_trans _ _ _ (within_right (expression_operands no_values a) (expression_operands no_values b)) (within_left (expression_operands no_values a ++ expression_operands no_values b) (own (form_of no_values a) (form_of no_values b)))

  pub read_operands : Within (own (form_in (lin_expression no_values a)) (form_in (lin_expression no_values b))) (expression_operands no_values (Compound f (more a (one b))))
  read_operands =
      within_trans _ _ _ (own_operands (form_or no_values a) (form_or no_values b))
      (within_right (expression_operands no_values a ++ expression_operands no_values b) (own (form_of no_values a) (form_of no_values b)))

-- ---- operations that wait

pub all_work-append : (ts : List HeapTerm) (ws us : List Waiting) → all_work ts (ws ++ us) ≡ all_work ts ws + all_work ts us
all_work-append ts [] us = omega arith
all_work-append ts (w ∷ ws) us = omega (arith, all_work-append ts ws us)

module _ (texts : List Text) (ts : List HeapTerm) where
  pub all_resumed-append : (ws : List Waiting) (w : Waiting) (r : Lin Linear) → all_resumed texts ts (ws ++ w ∷ []) r ≡ all_resumed texts ts ws (resumed texts ts w r)
  all_resumed-append [] w r = refl
  all_resumed-append (v ∷ ws) w r = ap (resumed texts ts v) (all_resumed-append ws w r)

  -- a zero divisor passes through
  false_through : (w : Waiting) → resumed texts ts w False ≡ False
  false_through (waiting.Only n) = refl
  false_through (waiting.Left n right) = refl
  false_through (waiting.Right n left) = refl

  pub all_false : (ws : List Waiting) → all_resumed texts ts ws False ≡ False
  all_false [] = refl
  all_false (w ∷ ws) = ap (resumed texts ts w) (all_false ws) ∙ false_through w

  module _ (all : List Operands) where
    push : (ws : List Waiting) (w : Waiting) (r : Lin Linear) → CanResumeAll texts ts all ws (resumed texts ts w r) → CanResume texts ts all w r
        → CanResumeAll texts ts all (ws ++ w ∷ []) r
    push [] w r h k = (tt, k)
    push (v ∷ ws) w r h k = (push ws w r h.0 k, subst (CanResume texts ts all v) (sym (all_resumed-append ws w r)) h.1)

    pop : (ws : List Waiting) (w : Waiting) (r : Lin Linear) → CanResumeAll texts ts all (ws ++ w ∷ []) r
        → CanResumeAll texts ts all ws (resumed texts ts w r) × CanResume texts ts all w r
    pop [] w r h = (tt, h.1)
    pop (v ∷ ws) w r h = (((pop ws w r h.0).0, subst (CanResume texts ts all v) (all_resumed-append ws w r) h.1), (pop ws w r h.0).1)

    -- one operation more waits
    pub waits : (old new : List Waiting) (w : Waiting) (r : Lin Linear) (work : ℕ) (next : Step) → new ≡ old ++ w ∷ [] → resumed texts ts w (outcome texts ts next) ≡ r
        → CanResume texts ts all w (outcome texts ts next) → CanTake texts ts all next → waiting_work ts w + step_work ts next < work → GoesOn texts ts all old r work new next
    waits old new w r work next n e c h k =
        let added : all_work ts new ≡ all_work ts old + (waiting_work ts w + 0) = ap (all_work ts) n ∙ all_work-append ts old (w ∷ []) in
        record {
          leads = ap (λ ws. all_resumed texts ts ws (outcome texts ts next)) n ∙ all_resumed-append old w (outcome texts ts next) ∙ ap (all_resumed texts ts old) e;
          waiting = λ g. subst (λ ws. CanResumeAll texts ts all ws (outcome texts ts next)) (sym n)
              (push old w (outcome texts ts next) (subst (CanResumeAll texts ts all old) (sym e) g) c);
          ready = h;
          less = omega arith;
        }

    -- a form, or waiting, is there
    pub returns : (old : List Waiting) (r : Lin Linear) (work : ℕ) (next : Step) → outcome texts ts next ≡ r → CanTake texts ts all next → step_work ts next < work
        → GoesOn texts ts all old r work old next
    returns old r work next e h k = record {
      leads = ap (all_resumed texts ts old) e;
      waiting = subst (CanResumeAll texts ts all old) (sym e);
      ready = h;
      less = omega arith;
    }

    -- ---- the loop
    module _ (result : Lin Linear) (ws : List Waiting) (s : Step) (h : IsUnderWay texts ts all result ws s) where
      module _ (id : ℕ) (e : s ≡ step.Visit id) where
        visited : all_resumed texts ts ws (read_at texts ts id) ≡ result
        visited = ap (λ t. all_resumed texts ts ws (outcome texts ts t)) (sym e) ∙ h.leads

        module _ (new : List Waiting) (next : Step) (g : (all : List Operands) → CanVisit texts ts all id → GoesOn texts ts all ws (read_at texts ts id) (3 * size (at ts id)) new next) where
          visit_on : GoesOn texts ts all ws (read_at texts ts id) (3 * size (at ts id)) new next
          visit_on = g all (subst (CanTake texts ts all) e h.ready)

          pub visit_goes_on : IsUnderWay texts ts all result new next
          visit_goes_on = record {
            leads = visit_on.leads ∙ visited;
            waiting = visit_on.waiting (subst (λ t. CanResumeAll texts ts all ws (outcome texts ts t)) e h.waiting);
            ready = visit_on.ready;
          }

          pub visit_is_less : all_work ts new + step_work ts next < all_work ts ws + step_work ts s
          visit_is_less =
              let less : all_work ts new + step_work ts next < all_work ts ws + 3 * size (at ts id) = visit_on.less in
              let more : step_work ts s ≡ 3 * size (at ts id) = ap (step_work ts) e in
              omega (arith, less, more)

      pub stopped : s ≡ step.Stop → False ≡ result
      stopped e = sym (all_false ws) ∙ ap (λ t. all_resumed texts ts ws (outcome texts ts t)) (sym e) ∙ h.leads

      pub due : (value : Option Sum) → s ≡ step.Return value → Within (due_in value) all
      due value e = subst (CanTake texts ts all) e h.ready

      pub done : (value : Option Sum) → s ≡ step.Return value → ws ≡ [] → form_or_waits (whole_of value) ≡ result
      done value e n =
          ap (λ us. all_resumed texts ts us (form_or_waits (whole_of value))) (sym n) ∙ ap (λ t. all_resumed texts ts ws (outcome texts ts t)) (sym e) ∙ h.leads

      module _ (value : Option Sum) (old : List Waiting) (w : Waiting) (e : s ≡ step.Return value) (n : ws ≡ old ++ w ∷ []) where
        returned : all_resumed texts ts old (resumed texts ts w (form_or_waits (whole_of value))) ≡ result
        returned =
            sym (all_resumed-append old w (form_or_waits (whole_of value)))
            ∙ ap (λ us. all_resumed texts ts us (form_or_waits (whole_of value))) (sym n) ∙ ap (λ t. all_resumed texts ts ws (outcome texts ts t)) (sym e) ∙ h.leads

        popped : CanResumeAll texts ts all old (resumed texts ts w (form_or_waits (whole_of value))) × CanResume texts ts all w (form_or_waits (whole_of value))
        popped =
            pop old w (form_or_waits (whole_of value))
            (subst (λ us. CanResumeAll texts ts all us (form_or_waits (whole_of value))) n (subst (λ t. CanResumeAll texts ts all ws (outcome texts ts t)) e h.waiting))

        pub resume_overflows : (pair : Pair) → ((texts : List Text) (ts : List HeapTerm) (all : List Operands) → Within (due_in value) all → CanResume texts ts all w (form_or_waits (whole_of value)) → ComesFrom all pair) → ComesFrom all pair
        resume_overflows pair c = c texts ts all (due value e) popped.1

        module _ (new : List Waiting) (next : Step) (g : (texts : List Text) (ts : List HeapTerm) (all : List Operands) → Within (due_in value) all → CanResume texts ts all w (form_or_waits (whole_of value))
            → GoesOn texts ts all old (resumed texts ts w (form_or_waits (whole_of value))) (waiting_work ts w) new next) where
          resume_on : GoesOn texts ts all old (resumed texts ts w (form_or_waits (whole_of value))) (waiting_work ts w) new next
          resume_on = g texts ts all (due value e) popped.1

          pub resume_goes_on : IsUnderWay texts ts all result new next
          resume_goes_on = record { leads = resume_on.leads ∙ returned; waiting = resume_on.waiting popped.0; ready = resume_on.ready }

          pub resume_is_less : all_work ts new + step_work ts next < all_work ts ws + step_work ts s
          resume_is_less =
              let less : all_work ts new + step_work ts next < all_work ts old + waiting_work ts w = resume_on.less in
              let more : all_work ts ws ≡ all_work ts old + (waiting_work ts w + 0) = ap (all_work ts) n ∙ all_work-append ts old (w ∷ []) in
              omega (arith, less, more)

-- ---- an operation waits for its first argument, or for its second
module _ (texts : List Text) (ts : List HeapTerm) (all : List Operands) (old new : List Waiting) where
  pub one_waits : (id argument f : ℕ) (n : Option Unary) → at ts id ≡ Compound f (one (at ts argument)) → unary_meant n ≡ unary_name (text_of texts f) → argument < length ts
      → new ≡ old ++ waiting.Only n ∷ [] → CanVisit texts ts all id → GoesOn texts ts all old (read_at texts ts id) (3 * size (at ts id)) new (step.Visit argument)
  one_waits id argument f n e d live m can =
      let came : read_at texts ts id ≡ resumed texts ts (waiting.Only n) (read_at texts ts argument) =
      ap (λ u. lin_expression no_values (named (text_of texts) u)) e ∙ one_is no_values (text_of texts f) (tree texts ts argument)
      ∙ ap (λ k. after_one k (read_at texts ts argument)) (sym d) in
      let smaller : size (at ts id) ≡ suc (size (at ts argument)) = ap size e in
      waits texts ts all old new (waiting.Only n) (read_at texts ts id) (3 * size (at ts id)) (step.Visit argument) m (sym came) tt
      (record {
        live = live;
        names = (subst (HasNamesBelow (length texts)) e can.names).1;
        operations = subst (λ u. Within (expression_operands no_values (named (text_of texts) u)) all) e can.operations;
      })
      (omega (arith, smaller))

  pub left_waits : (id left right f : ℕ) (n : Option Binary) → at ts id ≡ Compound f (more (at ts left) (one (at ts right))) → binary_meant n ≡ binary_name (text_of texts f)
      → left < length ts → right < length ts → new ≡ old ++ waiting.Left n right ∷ [] → CanVisit texts ts all id
      → GoesOn texts ts all old (read_at texts ts id) (3 * size (at ts id)) new (step.Visit left)
  left_waits id left right f n e d left_live right_live m can =
      let a = tree texts ts left in
      let b = tree texts ts right in
      let g = text_of texts f in
      let came : read_at texts ts id ≡ resumed texts ts (waiting.Left n right) (read_at texts ts left) =
      ap (λ u. lin_expression no_values (named (text_of texts) u)) e ∙ two_is no_values g a b
      ∙ ap (λ k. after_both k (read_at texts ts left) (read_at texts ts right)) (sym d) in
      let smaller : size (at ts id) ≡ suc (size (at ts left) + size (at ts right)) = ap size e in
      let names = subst (HasNamesBelow (length texts)) e can.names in
      let inside : Within (expression_operands no_values (Compound g (more a (one b)))) all =
      subst (λ u. Within (expression_operands no_values (named (text_of texts) u)) all) e can.operations in
      waits texts ts all old new (waiting.Left n right) (read_at texts ts id) (3 * size (at ts id)) (step.Visit left) m (sym came) (
        record { live = right_live; names = names.1.1; operations = within_trans _ _ all (right_operands g a b) inside },
        subst (λ k. Within (binary_operands k (form_in (read_at texts ts left)) (form_in (read_at texts ts right))) all) (sym d) (within_trans _ _ all (read_operands g a b) inside),
      )
      (record { live = left_live; names = names.1.0; operations = within_trans _ _ all (left_operands g a b) inside })
      (omega (arith, smaller))

  pub right_waits : (w : Waiting) (n : Option Binary) (right : ℕ) (value : Option Sum) → w ≡ waiting.Left n right → Within (due_in value) all
      → CanResume texts ts all w (form_or_waits (whole_of value)) → new ≡ old ++ waiting.Right n value ∷ []
      → GoesOn texts ts all old (resumed texts ts w (form_or_waits (whole_of value))) (waiting_work ts w) new (step.Visit right)
  right_waits w n right value e d c m =
      let form = whole_of value in
      let can = subst (λ v. CanResume texts ts all v (form_or_waits form)) e c in
      subst (λ v. GoesOn texts ts all old (resumed texts ts v (form_or_waits form)) (waiting_work ts v) new (step.Visit right)) (sym e)
      (waits texts ts all old new (waiting.Right n value) (resumed texts ts (waiting.Left n right) (form_or_waits form)) (2 + 3 * size (at ts right)) (step.Visit right) m
      (same form) (d, inside form can.1) can.0 (omega arith))
    where
      same : (value : Option Linear) → after_right (binary_meant n) value (read_at texts ts right) ≡ resumed texts ts (waiting.Left n right) (form_or_waits value)
      same None = refl
      same (Some f) = refl

      inside : (value : Option Linear) → Within (binary_operands (binary_meant n) (form_in (form_or_waits value)) (form_in (read_at texts ts right))) all
          → Within (binary_operands (binary_meant n) value (form_in (read_at texts ts right))) all
      inside None h = h
      inside (Some f) h = h

-- ---- terms by their heads

only_argument : (t : HeapTerm) (f : ℕ) → view_of t ≡ view.Compound f 1 → (a : HeapTerm) × (t ≡ Compound f (one a))
only_argument (Var v) f e = cc
only_argument (Number q) f e = cc
only_argument (Name b) f e = cc
only_argument (Compound g (one t)) f e = let h : f ≡ g = cc in (t, ap (λ k. Compound k (one t)) (sym h))
only_argument (Compound g (more t (one u))) f e = let h : ◌≡◌ {A = ℕ} 2 1 = cc in absurd (omega (arith, h))
only_argument (Compound g (more t (more u us))) f e = let h : suc (suc (count us)) ≡ 1 = cc in absurd (omega (arith, h))

pub one_argument : (t a : HeapTerm) (f : ℕ) → view_of t ≡ view.Compound f 1 → slice_get (arguments t) 0 ≡ Some a → t ≡ Compound f (one a)
one_argument t a f e d =
    let k = only_argument t f e in
    k.1 ∙ ap (λ u. Compound f (one u)) (same_Some k.0 a (subst (λ u. slice_get (arguments u) 0 ≡ Some a) k.1 d))

-- a compound of more arguments waits
pub others_wait : (texts : List Text) (t : HeapTerm) (f n : ℕ) → view_of t ≡ view.Compound f n → n ≢ 1 → n ≢ 2 → lin_expression no_values (named (text_of texts) t) ≡ Waits
others_wait texts (Var v) f n e h k = cc
others_wait texts (Number q) f n e h k = cc
others_wait texts (Name b) f n e h k = cc
others_wait texts (Compound g (one t)) f n e h k = let d : ◌≡◌ {A = ℕ} n 1 = cc in absurd (h d)
others_wait texts (Compound g (more t (one u))) f n e h k = let d : ◌≡◌ {A = ℕ} n 2 = cc in absurd (k d)
others_wait texts (Compound g (more t (more u us))) f n e h k = refl

pub something_to_do : (t : HeapTerm) → 0 < 3 * size t
something_to_do (Var v) = omega arith
something_to_do (Number q) = omega arith
something_to_do (Name a) = omega arith
something_to_do (Compound f ts) = omega arith

-- ---- what an operation makes of its forms

has_either : (o : Operands) (s t : List Operands) → Has o (s ++ t) → Has o s ⊎ Has o t
has_either o [] t h = inr h
has_either o (p ∷ s) t (inl e) = inl (inl e)
has_either o (p ∷ s) t (inr h) = elim (has_either o s t h) [ inl k ↦ inl (inr k) | inr k ↦ inr k ]

-- where a divisor is zero
pub joined_zero : (n : Option BinaryName) (left : Option Sum) (right : Option Linear) → (is_over n && is_zero_form right) ≡ true → IsJoined n left right step.Stop
joined_zero n left right e = ap (λ (b : Bool). if b then False else form_or_waits (binary_of n (whole_of left) right)) (sym e)

pub joined_form : (n : Option BinaryName) (left value : Option Sum) (right : Option Linear) → (is_over n && is_zero_form right) ≡ false
    → whole_of value ≡ binary_of n (whole_of left) right → Within (due_in value) (due_in left ++ binary_operands n (whole_of left) right)
    → IsJoined n left right (step.Return value)
joined_form n left value right e v d =
    (ap form_or_waits v ∙ ap (λ (b : Bool). if b then False else form_or_waits (binary_of n (whole_of left) right)) (sym e), d)

module _ (texts : List Text) (ts : List HeapTerm) (all : List Operands) (old : List Waiting) (w : Waiting) (form : Option Linear) where
  -- the operations of the right argument's turn
  all_within : (n : Option Binary) (left : Option Sum) → CanResume texts ts all (waiting.Right n left) (form_or_waits form)
      → Within (due_in left ++ binary_operands (binary_meant n) (whole_of left) form) all
  all_within n left c o h =
      elim (has_either o (due_in left) (binary_operands (binary_meant n) (whole_of left) form) h) [
        | inl k ↦ c.0 o k
        | inr k ↦ subst (λ p. Within (binary_operands (binary_meant n) (whole_of left) p) all) (form_in_taken form) c.1 o k
      ]

  pub right_returns : (n : Option Binary) (left : Option Sum) (next : Step) → w ≡ waiting.Right n left → CanResume texts ts all w (form_or_waits form) → IsJoined (binary_meant n) left form next
      → GoesOn texts ts all old (resumed texts ts w (form_or_waits form)) (waiting_work ts w) old next
  right_returns n left next e c j =
      subst (λ v. GoesOn texts ts all old (resumed texts ts v (form_or_waits form)) (waiting_work ts v) old next) (sym e)
      (go next (subst (λ v. CanResume texts ts all v (form_or_waits form)) e c) j)
    where
      same : (form : Option Linear) → unless_zero (binary_meant n) form (binary_of (binary_meant n) (whole_of left) form) ≡ after_right (binary_meant n) (whole_of left) (form_or_waits form)
      same None = refl
      same (Some f) = refl

      go : (next : Step) → CanResume texts ts all (waiting.Right n left) (form_or_waits form) → IsJoined (binary_meant n) left form next
          → GoesOn texts ts all old (resumed texts ts (waiting.Right n left) (form_or_waits form)) 1 old next
      go (step.Visit id) c j = absurd j
      go (step.Return made) c j =
          returns texts ts all old (resumed texts ts (waiting.Right n left) (form_or_waits form)) 1 (step.Return made) (j.0 ∙ same form)
          (within_trans (due_in made) _ all j.1 (all_within n left c)) (omega arith)
      go step.Stop c j = returns texts ts all old (resumed texts ts (waiting.Right n left) (form_or_waits form)) 1 step.Stop (j ∙ same form) tt (omega arith)

  pub right_comes : (n : Option Binary) (left : Option Sum) (pair : Pair) → w ≡ waiting.Right n left → CanResume texts ts all w (form_or_waits form)
      → ComesFrom (due_in left ++ binary_operands (binary_meant n) (whole_of left) form) pair → ComesFrom all pair
  right_comes n left pair e c h =
      comes_within (due_in left ++ binary_operands (binary_meant n) (whole_of left) form) all pair (all_within n left (subst (λ v. CanResume texts ts all v (form_or_waits form)) e c)) h

-- a walk begins
pub begins : (texts : List Text) (ts : List HeapTerm) (id : ℕ) (ws : List Waiting) → ws ≡ [] → id < length ts → HasNamesBelow (length texts) (at ts id)
    → IsUnderWay texts ts (expression_operands no_values (tree texts ts id)) (read_at texts ts id) ws (step.Visit id)
begins texts ts id ws e live names =
    subst (λ us. IsUnderWay texts ts (expression_operands no_values (tree texts ts id)) (read_at texts ts id) us (step.Visit id)) (sym e)
    (record { leads = refl; waiting = tt; ready = record { live = live; names = names; operations = λ o h. h } })
