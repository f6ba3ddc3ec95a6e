-- The steps of an evaluation: what the operations under way make of what a step comes to.
use Rattle.std.proofs.Common.{◌≡◌, ℕ, suc, ◌+◌, ◌*◌, ◌<◌, List, [], ◌∷◌, ◌++◌, length, None, ◌≢◌, refl, ap, ap₂, sym, ◌∙◌, subst, arith, Some}
use Rattle.std.specs.Prelude.{All, slice_get}
use Rattle.std.proofs.lemmas.Option.{same_Some}
use Rattle.std.proofs.lemmas.List.Elements.{All-push, All-same, All-pop}
use Rattle.spec_terms.proofs.Substitution.{size_positive}
use Rattle.spec_terms.specs.Term.{Terms, Var, Number, Name, Compound, one, more, count, size, named, named_all}
use Rattle.spec_terms.specs.declared.arithmetic.UnaryOperation.{UnaryOperation}
use Rattle.spec_terms.specs.declared.arithmetic.BinaryOperation.{BinaryOperation}
use Rattle.spec_numbers.specs.Texts.{Text}
use Rattle.spec_terms.specs.Operations.{unary_named, binary_named, NotEvaluable, Evaluated, Value, Fails, Overflows, ArithmeticError, binary_result}
use Rattle.spec_terms.specs.Arithmetic.{evaluate, unary_applied, binary_applied, after_both}
use Rattle.spec_numbers.specs.Rational.{ℚ}
use Rattle.cq_term.specs.Texts.{text_of}
use Rattle.cq_term.specs.Names.{HasNamesBelow}
use Rattle.cq_term.proofs.Arguments.{both_arguments}
use Rattle.cq_frac.specs.declared.Pair.{Pair}
use Rattle.cq_term.specs.Meaning.{HeapTerm, at}
use Rattle.cq_term.specs.Shown.{view_of, arguments}
use Rattle.cq_term.specs.declared.view.View.TheVariants as view
use Rattle.cq_goals.specs.declared.arith.evaluation.Waiting.{Waiting}
use Rattle.cq_goals.specs.declared.arith.evaluation.Waiting.TheVariants as waiting
use Rattle.cq_goals.specs.declared.arith.evaluation.Step.{Step}
use Rattle.cq_goals.specs.declared.arith.evaluation.Step.TheVariants as step
use Rattle.cq_goals.specs.declared.arith.faults.EvalFault.{EvalFault}
use Rattle.cq_goals.specs.declared.arith.faults.EvalFault.TheVariants as fault
use Rattle.cq_goals.specs.ArithFaults.{ComesTo, told}
use Rattle.cq_goals.specs.Work.{evaluated_at, outcome, resumed, all_resumed, CanTake, CanResume, step_work, waiting_work, all_work, IsUnderWay, GoesOn}

pub all_work-append : (ts : List HeapTerm) (ws us : List Waiting) → all_work ts (ws ++ us) ≡ all_work ts ws + all_work ts us
all_work-append ts [] us = omega arith
all_work-append ts (w ∷ ws) us = omega (arith, all_work-append ts ws us)

module _ (texts : List Text) (ts : List HeapTerm) where
  pub all_resumed-append : (ws : List Waiting) (w : Waiting) (result : Evaluated) → all_resumed texts ts (ws ++ w ∷ []) result ≡ all_resumed texts ts ws (resumed texts ts w result)
  all_resumed-append [] w result = refl
  all_resumed-append (v ∷ ws) w result = ap (resumed texts ts v) (all_resumed-append ws w result)

  -- an error and an overflow pass through
  fails_through : (w : Waiting) (e : ArithmeticError Text) → resumed texts ts w (Fails e) ≡ Fails e
  fails_through (waiting.Only o) e = refl
  fails_through (waiting.Left o right) e = refl
  fails_through (waiting.Right o left) e = refl

  overflows_through : (w : Waiting) (p : Pair) → resumed texts ts w (Overflows p) ≡ Overflows p
  overflows_through (waiting.Only o) p = refl
  overflows_through (waiting.Left o right) p = refl
  overflows_through (waiting.Right o left) p = refl

  all_fail : (ws : List Waiting) (e : ArithmeticError Text) → all_resumed texts ts ws (Fails e) ≡ Fails e
  all_fail [] e = refl
  all_fail (w ∷ ws) e = ap (resumed texts ts w) (all_fail ws e) ∙ fails_through w e

  all_overflow : (ws : List Waiting) (p : Pair) → all_resumed texts ts ws (Overflows p) ≡ Overflows p
  all_overflow [] p = refl
  all_overflow (w ∷ ws) p = ap (resumed texts ts w) (all_overflow ws p) ∙ overflows_through w p

  -- what a step comes to, the whole comes to
  pub comes_through : (ws : List Waiting) (result : Evaluated) (f : EvalFault) → ComesTo texts result f → ComesTo texts (all_resumed texts ts ws result) f
  comes_through ws result (fault.Error e) h = ap (all_resumed texts ts ws) h ∙ all_fail ws (told texts e)
  comes_through ws result (fault.Overflow p) h = ap (all_resumed texts ts ws) h ∙ all_overflow ws p
  comes_through ws result fault.NoMemory h = tt

  -- one operation more waits
  pub waits : (old new : List Waiting) (w : Waiting) (result : Evaluated) (work : ℕ) (next : Step) → new ≡ old ++ w ∷ [] → resumed texts ts w (outcome texts ts next) ≡ result → CanResume texts ts w → CanTake texts ts next → waiting_work ts w + step_work ts next < work →
      GoesOn texts ts old result work new next
  waits old new w result work next n e c h k =
      let added : all_work ts new ≡ all_work ts old + (waiting_work ts w + 0) = ap (all_work ts) n ∙ all_work-append ts old (w ∷ []) in
      record {
        leads = ap (λ ws. all_resumed texts ts ws (outcome texts ts next)) n ∙ all_resumed-append old w (outcome texts ts next) ∙ ap (all_resumed texts ts old) e;
        waiting = λ all. All-same (CanResume texts ts) new (old ++ w ∷ []) n (All-push (CanResume texts ts) old w all c);
        ready = h;
        less = omega arith;
      }

  -- ---- the loop
  module _ (result : Evaluated) (ws : List Waiting) (s : Step) (h : IsUnderWay texts ts result ws s) where
    visited : (id : ℕ) → s ≡ step.Visit id → all_resumed texts ts ws (evaluated_at texts ts id) ≡ result
    visited id e = ap (λ t. all_resumed texts ts ws (outcome texts ts t)) (sym e) ∙ h.leads

    pub visit_stops : (id : ℕ) (f : EvalFault) → s ≡ step.Visit id → ComesTo texts (evaluated_at texts ts id) f → ComesTo texts result f
    visit_stops id f e c = subst (λ r. ComesTo texts r f) (visited id e) (comes_through ws (evaluated_at texts ts id) f c)

    module _ (q : ℚ) (old : List Waiting) (w : Waiting) (e : s ≡ step.Return q) (n : ws ≡ old ++ w ∷ []) where
      returned : all_resumed texts ts old (resumed texts ts w (Value q)) ≡ result
      returned =
          sym (all_resumed-append old w (Value q))
          ∙ ap (λ us. all_resumed texts ts us (Value q)) (sym n) ∙ ap (λ t. all_resumed texts ts ws (outcome texts ts t)) (sym e) ∙ h.leads

      popped : All (CanResume texts ts) old × CanResume texts ts w
      popped = All-pop (CanResume texts ts) ws old (Some w) n h.waiting

      pub resume_stops : (f : EvalFault) → ((texts : List Text) (ts : List HeapTerm) → ComesTo texts (resumed texts ts w (Value q)) f) → ComesTo texts result f
      resume_stops f c = subst (λ r. ComesTo texts r f) returned (comes_through old (resumed texts ts w (Value q)) f (c texts ts))

      module _ (new : List Waiting) (next : Step) (g : (texts : List Text) (ts : List HeapTerm) → CanResume texts ts w → GoesOn texts ts old (resumed texts ts w (Value q)) (waiting_work ts w) new next) where
        goes : GoesOn texts ts old (resumed texts ts w (Value q)) (waiting_work ts w) new next
        goes = g texts ts popped.1

        pub resume_goes_on : IsUnderWay texts ts result new next
        resume_goes_on = let k = goes in record { leads = k.leads ∙ returned; waiting = k.waiting popped.0; ready = k.ready }

        pub resume_is_less : all_work ts new + step_work ts next < all_work ts ws + step_work ts s
        resume_is_less =
            let less : all_work ts new + step_work ts next < all_work ts old + waiting_work ts w = goes.less in
            let more : all_work ts ws ≡ all_work ts old + (waiting_work ts w + 0) = ap (all_work ts) n ∙ all_work-append ts old (w ∷ []) in
            omega (arith, less, more)

-- ---- the arguments of a compound
pub only_argument : (t : HeapTerm) (f : ℕ) → view_of t ≡ view.Compound f 1 → (a : HeapTerm) × (t ≡ Compound f (one a))
only_argument (Var v) f e = cc
only_argument (Number q) f e = cc
only_argument (Name b) f e = cc
only_argument (Compound g (one t)) f e = let h : f ≡ g = cc in (t, ap (λ k. Compound k (one t)) (sym h))
only_argument (Compound g (more t (one u))) f e = let h : ◌≡◌ {A = ℕ} 2 1 = cc in absurd (omega (arith, h))
only_argument (Compound g (more t (more u us))) f e = let h : suc (suc (count us)) ≡ 1 = cc in absurd (omega (arith, h))

pub has_one : (t : HeapTerm) (f : ℕ) → view_of t ≡ view.Compound f 1 → 0 < length (arguments t)
has_one t f e = subst (λ u. 0 < length (arguments u)) (sym (only_argument t f e).1) (omega arith)

pub has_two : (t : HeapTerm) (f : ℕ) → view_of t ≡ view.Compound f 2 → 1 < length (arguments t)
has_two t f e = subst (λ u. 1 < length (arguments u)) (sym (both_arguments t f e).2) (omega arith)

pub one_argument : (t a : HeapTerm) (f : ℕ) → view_of t ≡ view.Compound f 1 → slice_get (arguments t) 0 ≡ Some a → t ≡ Compound f (one a)
one_argument t a f e d =
    let k = only_argument t f e in
    k.1 ∙ ap (λ u. Compound f (one u)) (same_Some k.0 a (subst (λ u. slice_get (arguments u) 0 ≡ Some a) k.1 d))

pub two_arguments : (t a b : HeapTerm) (f : ℕ) → view_of t ≡ view.Compound f 2 → slice_get (arguments t) 0 ≡ Some a → slice_get (arguments t) 1 ≡ Some b → t ≡ Compound f (more a (one b))
two_arguments t a b f e d c =
    let k = both_arguments t f e in
    k.2
    ∙ ap (λ u. Compound f (more u (one k.1))) (same_Some k.0 a (subst (λ u. slice_get (arguments u) 0 ≡ Some a) k.2 d))
    ∙ ap (λ u. Compound f (more a (one u))) (same_Some k.1 b (subst (λ u. slice_get (arguments u) 1 ≡ Some b) k.2 c))

-- ---- names that are no operations
count-named : (g : ℕ → Text) (us : Terms ℕ) → count (named_all g us) ≡ count us
count-named g (one t) = refl
count-named g (more t us) = ap (λ n. suc n) (count-named g us)

module _ (texts : List Text) where
  pub not_unary : (t : HeapTerm) (f : ℕ) → view_of t ≡ view.Compound f 1 → unary_named (text_of texts f) ≡ None → evaluate (named (text_of texts) t) ≡ Fails (NotEvaluable (text_of texts f) 1)
  not_unary t f e n =
      let k = only_argument t f e in
      ap (λ u. evaluate (named (text_of texts) u)) k.1 ∙ ap (λ o. unary_applied (text_of texts f) o (evaluate (named (text_of texts) k.0))) n

  pub not_binary : (t : HeapTerm) (f : ℕ) → view_of t ≡ view.Compound f 2 → binary_named (text_of texts f) ≡ None → evaluate (named (text_of texts) t) ≡ Fails (NotEvaluable (text_of texts f) 2)
  not_binary t f e n =
      let k = both_arguments t f e in
      ap (λ u. evaluate (named (text_of texts) u)) k.2 ∙ ap (λ o. binary_applied (text_of texts f) o (evaluate (named (text_of texts) k.0)) (evaluate (named (text_of texts) k.1))) n

  pub too_many : (t : HeapTerm) (f n : ℕ) → view_of t ≡ view.Compound f n → n ≢ 1 → n ≢ 2 → evaluate (named (text_of texts) t) ≡ Fails (NotEvaluable (text_of texts f) n)
  too_many (Var v) f n e h k = cc
  too_many (Number q) f n e h k = cc
  too_many (Name b) f n e h k = cc
  too_many (Compound g (one t)) f n e h k = let d : ◌≡◌ {A = ℕ} n 1 = cc in absurd (h d)
  too_many (Compound g (more t (one u))) f n e h k = let d : ◌≡◌ {A = ℕ} n 2 = cc in absurd (k d)
  too_many (Compound g (more t (more u us))) f n e h k =
      let d : g ≡ f = cc in
      let c : suc (suc (count us)) ≡ n = cc in
      ap (λ m. Fails (NotEvaluable (text_of texts g) m)) (ap (λ m. suc (suc m)) (count-named (text_of texts) us) ∙ c) ∙ ap (λ m. Fails (NotEvaluable (text_of texts m) n)) d

-- ---- an operation waits for its first argument, or for its second
module _ (texts : List Text) (ts : List HeapTerm) (old new : List Waiting) where
  pub one_waits : (id argument f : ℕ) (o : UnaryOperation) → at ts id ≡ Compound f (one (at ts argument)) → unary_named (text_of texts f) ≡ Some o → HasNamesBelow (length texts) (at ts id) → argument < length ts → new ≡ old ++ waiting.Only o ∷ [] →
      GoesOn texts ts old (evaluated_at texts ts id) (3 * size (at ts id)) new (step.Visit argument)
  one_waits id argument f o e d h live n =
      let came : evaluated_at texts ts id ≡ resumed texts ts (waiting.Only o) (evaluated_at texts ts argument) =
      ap (λ u. evaluate (named (text_of texts) u)) e ∙ ap (λ m. unary_applied (text_of texts f) m (evaluated_at texts ts argument)) d in
      let smaller : size (at ts id) ≡ suc (size (at ts argument)) = ap size e in
      waits texts ts old new (waiting.Only o) (evaluated_at texts ts id) (3 * size (at ts id)) (step.Visit argument) n (sym came) tt (live, (subst (HasNamesBelow (length texts)) e h).1) (omega (arith, smaller))

  pub left_waits : (id left right f : ℕ) (o : BinaryOperation) → at ts id ≡ Compound f (more (at ts left) (one (at ts right))) → binary_named (text_of texts f) ≡ Some o → HasNamesBelow (length texts) (at ts id) → left < length ts → right < length ts → new ≡ old ++ waiting.Left o right ∷ [] →
      GoesOn texts ts old (evaluated_at texts ts id) (3 * size (at ts id)) new (step.Visit left)
  left_waits id left right f o e d h left_live right_live n =
      let came : evaluated_at texts ts id ≡ resumed texts ts (waiting.Left o right) (evaluated_at texts ts left) =
      ap (λ u. evaluate (named (text_of texts) u)) e ∙ ap (λ m. binary_applied (text_of texts f) m (evaluated_at texts ts left) (evaluated_at texts ts right)) d in
      let smaller : size (at ts id) ≡ suc (size (at ts left) + size (at ts right)) = ap size e in
      let names = subst (HasNamesBelow (length texts)) e h in
      waits texts ts old new (waiting.Left o right) (evaluated_at texts ts id) (3 * size (at ts id)) (step.Visit left) n (sym came) (right_live, names.1.1) (left_live, names.1.0) (omega (arith, smaller))

  -- on two numbers it waits for none
  pub applied : (id left right f : ℕ) (o : BinaryOperation) (p q : ℚ) → at ts id ≡ Compound f (more (at ts left) (one (at ts right))) → binary_named (text_of texts f) ≡ Some o
      → at ts left ≡ Number p → at ts right ≡ Number q → evaluated_at texts ts id ≡ binary_result o p q
  applied id left right f o p q e d l r =
      ap (λ u. evaluate (named (text_of texts) u)) e ∙ ap (λ m. binary_applied (text_of texts f) m (evaluated_at texts ts left) (evaluated_at texts ts right)) d
      ∙ ap₂ (λ t u. after_both o (evaluate (named (text_of texts) t)) (evaluate (named (text_of texts) u))) l r

  -- nor does a term whose value is known
  pub value_returned : (id : ℕ) (q : ℚ) → evaluated_at texts ts id ≡ Value q → GoesOn texts ts old (evaluated_at texts ts id) (3 * size (at ts id)) old (step.Return q)
  value_returned id q e =
      record { leads = ap (all_resumed texts ts old) (sym e); waiting = λ all. all; ready = tt; less = omega (arith, size_positive (at ts id)) }

  pub right_waits : (w : Waiting) (o : BinaryOperation) (right : ℕ) (value : ℚ) → w ≡ waiting.Left o right → CanResume texts ts w → new ≡ old ++ waiting.Right o value ∷ [] →
      GoesOn texts ts old (resumed texts ts w (Value value)) (waiting_work ts w) new (step.Visit right)
  right_waits w o right value e c n =
      subst (λ v. GoesOn texts ts old (resumed texts ts v (Value value)) (waiting_work ts v) new (step.Visit right)) (sym e)
      (waits texts ts old new (waiting.Right o value) (resumed texts ts (waiting.Left o right) (Value value)) (2 + 3 * size (at ts right)) (step.Visit right) n refl tt (subst (CanResume texts ts) e c) (omega arith))
