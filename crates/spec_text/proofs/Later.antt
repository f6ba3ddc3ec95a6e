-- The machine reads the same whatever number its variables are counted on from.
use Rattle.std.proofs.Common.{◌≡◌, ℕ, suc, ◌+◌, Bool, true, false, List, [], ◌∷◌, ◌++◌, map, codes, Option, Some, None, refl, sym, ap, ◌∙◌, subst, arith}
use Rattle.std.proofs.lemmas.List.{map-append}
use Rattle.std.specs.Prelude.{option_map, unwrap_or, ◌==◌, ◌&&◌, if◌then◌else◌, bytes_eq, chars, pos}
use Rattle.spec_numbers.specs.Rational.{int_ℚ, ℚ}
use Rattle.spec_syntax.specs.declared.operators.OpDef.{OpDef}
use Rattle.spec_numbers.specs.Texts.{Text}
use Rattle.spec_syntax.specs.Operators.{Ops, right_most}
use Rattle.spec_terms.specs.Term.{Terms, Var, Number, Name, Compound, one, more, apply_all}
use Rattle.spec_syntax.specs.declared.grammar.Kind.{Kind}
use Rattle.spec_syntax.specs.declared.grammar.Kind.TheVariants as kind
use Rattle.spec_syntax.specs.GrammarTokens as lexical
use Rattle.spec_syntax.specs.GrammarTokens.{next_token, opens_directly, digit_directly, bytes_of}
use Rattle.spec_syntax.specs.Tokens.{Token, Variable, Numeral, Codes, Close, CloseList, CloseCurly}
use Rattle.spec_syntax.specs.Trees.{Tree, unary, binary, list_tree, nil, cell}
use Rattle.spec_syntax.specs.Grammar.{Use, AsInfix, AsPostfix, Outside, use_of, begins_term, applied_as}
use Rattle.spec_syntax.specs.Machine.{Frame, RightOf, OperandOf, InGroup, InCurly, InArguments, InElements, InTail, State, BeforeTerm, AfterOperand, AfterName, AfterFunctor, AfterMinus, AfterOpenList, AfterOpenCurly, Whole, with_arguments_before, with_elements_before, start, IsOpen, end_clause, end_group, end_curly, end_argument, end_element, end_tail, after_operand, before_term, apply_if, after_name, step}
use Rattle.spec_syntax.specs.TextTokens.{VariableName, Variables, no_variables, number_of, known, next_number, with_name, with_variable, variables_after, bare_name, quoted_name, quoted_text, mark, seen}
use Rattle.spec_text.specs.Readings.{Read}
use Rattle.spec_text.specs.Runs.{ReadsOn, whole, onward, stuck, faulty, cut_off}
use Rattle.spec_text.specs.Later.{tree_later, name_later, variables_later, variables_from, read_later}

module _ (n : ℕ) where
  abbrev frame_later : Frame → Frame
  frame_later (RightOf f b op m) = RightOf f (tree_later n b) op m
  frame_later (OperandOf f op m) = OperandOf f op m
  frame_later (InGroup m) = InGroup m
  frame_later (InCurly m) = InCurly m
  frame_later (InArguments f before m) = InArguments f (map (tree_later n) before) m
  frame_later (InElements before m) = InElements (map (tree_later n) before) m
  frame_later (InTail before m) = InTail (map (tree_later n) before) m

  abbrev state_later : State → State
  state_later (BeforeTerm m k) = BeforeTerm m (map frame_later k)
  state_later (AfterOperand m l a k) = AfterOperand m l (tree_later n a) (map frame_later k)
  state_later (AfterName f m k) = AfterName f m (map frame_later k)
  state_later (AfterFunctor f m k) = AfterFunctor f m (map frame_later k)
  state_later (AfterMinus m k) = AfterMinus m (map frame_later k)
  state_later (AfterOpenList m k) = AfterOpenList m (map frame_later k)
  state_later (AfterOpenCurly m k) = AfterOpenCurly m (map frame_later k)
  state_later (Whole a) = Whole (tree_later n a)

  abbrev token_later : Token → Token
  token_later (Variable v) = Variable (n + v)
  token_later tok = tok

  -- ---- trees

  arguments_later : (before : List Tree) (us : Terms Text) → with_arguments_before (map (tree_later n) before) (apply_all (λ v. Var (n + v)) us) ≡ apply_all (λ v. Var (n + v)) (with_arguments_before before us)
  arguments_later [] us = refl
  arguments_later (a ∷ before) us = arguments_later before (more a us)

  elements_later : (before : List Tree) (t : Tree) → with_elements_before (map (tree_later n) before) (tree_later n t) ≡ tree_later n (with_elements_before before t)
  elements_later [] t = refl
  elements_later (a ∷ before) t = elements_later before (cell a t)

  codes_later : (cs : List ℕ) → tree_later n (list_tree (map (λ c. Number (int_ℚ (pos c))) cs)) ≡ list_tree (map (λ c. Number (int_ℚ (pos c))) cs)
  codes_later [] = refl
  codes_later (c ∷ cs) = ap (cell (Number (int_ℚ (pos c)))) (codes_later cs)

  -- ---- steps

  module _ (ops : Ops) where
    use_later : (m l : ℕ) (tok : Token) → use_of ops m l (token_later tok) ≡ use_of ops m l tok
    unfolding use_of
    use_later m l (Variable v) = refl
    use_later m l tok = refl

    end_clause_later : (a : Tree) (tok : Token) → end_clause ops (tree_later n a) (token_later tok) ≡ option_map state_later (end_clause ops a tok)
    end_clause_later a (Variable v) = refl
    end_clause_later a tok = refl

    end_group_later : (m : ℕ) (a : Tree) (k : List Frame) (tok : Token) → end_group ops m (tree_later n a) (map frame_later k) (token_later tok) ≡ option_map state_later (end_group ops m a k tok)
    end_group_later m a k (Variable v) = refl
    end_group_later m a k tok = refl

    end_curly_later : (m : ℕ) (a : Tree) (k : List Frame) (tok : Token) → end_curly ops m (tree_later n a) (map frame_later k) (token_later tok) ≡ option_map state_later (end_curly ops m a k tok)
    end_curly_later m a k (Variable v) = refl
    end_curly_later m a k tok = refl

    end_argument_later : (f : Text) (before : List Tree) (m : ℕ) (a : Tree) (k : List Frame) (tok : Token) →
        end_argument ops f (map (tree_later n) before) m (tree_later n a) (map frame_later k) (token_later tok) ≡ option_map state_later (end_argument ops f before m a k tok)
    end_argument_later f before m a k (Variable v) = refl
    end_argument_later f before m a k Close = ap (λ us. Some (AfterOperand m 0 (Compound f us) (map frame_later k))) (arguments_later before (one a))
    end_argument_later f before m a k tok = refl

    end_element_later : (before : List Tree) (m : ℕ) (a : Tree) (k : List Frame) (tok : Token) →
        end_element ops (map (tree_later n) before) m (tree_later n a) (map frame_later k) (token_later tok) ≡ option_map state_later (end_element ops before m a k tok)
    end_element_later before m a k (Variable v) = refl
    end_element_later before m a k CloseList = ap (λ t. Some (AfterOperand m 0 t (map frame_later k))) (elements_later before (cell a nil))
    end_element_later before m a k tok = refl

    end_tail_later : (before : List Tree) (m : ℕ) (a : Tree) (k : List Frame) (tok : Token) →
        end_tail ops (map (tree_later n) before) m (tree_later n a) (map frame_later k) (token_later tok) ≡ option_map state_later (end_tail ops before m a k tok)
    end_tail_later before m a k (Variable v) = refl
    end_tail_later before m a k CloseList = ap (λ t. Some (AfterOperand m 0 t (map frame_later k))) (elements_later before a)
    end_tail_later before m a k tok = refl

    after_operand_later : (k : List Frame) (m : ℕ) (a : Tree) (tok : Token) (u : Use) →
        after_operand ops (map frame_later k) m (tree_later n a) (token_later tok) u ≡ option_map state_later (after_operand ops k m a tok u)
    after_operand_later k m a tok (AsInfix f op) = refl
    after_operand_later k m a tok (AsPostfix f op) = refl
    after_operand_later [] m a tok Outside = end_clause_later a tok
    after_operand_later (RightOf f b op p ∷ k) m a tok Outside =
        ap (λ u. after_operand ops (map frame_later k) p (binary f (tree_later n b) (tree_later n a)) (token_later tok) u) (use_later p op.priority tok)
        ∙ after_operand_later k p (binary f b a) tok (use_of ops p op.priority tok)
    after_operand_later (OperandOf f op p ∷ k) m a tok Outside =
        ap (λ u. after_operand ops (map frame_later k) p (unary f (tree_later n a)) (token_later tok) u) (use_later p op.priority tok)
        ∙ after_operand_later k p (unary f a) tok (use_of ops p op.priority tok)
    after_operand_later (InGroup p ∷ k) m a tok Outside = end_group_later p a k tok
    after_operand_later (InCurly p ∷ k) m a tok Outside = end_curly_later p a k tok
    after_operand_later (InArguments f before p ∷ k) m a tok Outside = end_argument_later f before p a k tok
    after_operand_later (InElements before p ∷ k) m a tok Outside = end_element_later before p a k tok
    after_operand_later (InTail before p ∷ k) m a tok Outside = end_tail_later before p a k tok

    before_term_later : (m : ℕ) (k : List Frame) (tok : Token) → before_term ops m (map frame_later k) (token_later tok) ≡ option_map state_later (before_term ops m k tok)
    before_term_later m k (Variable v) = refl
    before_term_later m k (Codes text) = ap (λ t. Some (AfterOperand m 0 t (map frame_later k))) (sym (codes_later (chars text)))
    before_term_later m k tok = refl

    applied_later : (f : Text) (tok : Token) → applied_as ops f (token_later tok ∷ []) ≡ applied_as ops f (tok ∷ [])
    unfolding begins_term
    applied_later f (Variable v) = refl
    applied_later f tok = refl

    apply_if_later : (b : Bool) (f : Text) (op : OpDef) (m : ℕ) (k : List Frame) (tok : Token) → apply_if ops b f op m (map frame_later k) (token_later tok) ≡ option_map state_later (apply_if ops b f op m k tok)
    apply_if_later true f op m k tok = before_term_later (right_most op) (OperandOf f op m ∷ k) tok
    apply_if_later false f op m k tok = refl

    after_name_later : (f : Text) (m : ℕ) (k : List Frame) (tok : Token) (o : Option OpDef) →
        after_name ops f m (map frame_later k) (token_later tok) o ≡ option_map state_later (after_name ops f m k tok o)
    after_name_later f m k tok (Some op) = apply_if_later _ f op m k tok
    after_name_later f m k tok None =
        ap (λ u. after_operand ops (map frame_later k) m (Name f) (token_later tok) u) (use_later m 0 tok) ∙ after_operand_later k m (Name f) tok (use_of ops m 0 tok)

    step_later : (s : State) (tok : Token) → step ops (state_later s) (token_later tok) ≡ option_map state_later (step ops s tok)
    step_later (BeforeTerm m k) tok = before_term_later m k tok
    step_later (AfterOperand m l a k) tok =
        ap (λ u. after_operand ops (map frame_later k) m (tree_later n a) (token_later tok) u) (use_later m l tok) ∙ after_operand_later k m a tok (use_of ops m l tok)
    step_later (AfterName f m k) tok = ap (after_name ops f m (map frame_later k) (token_later tok)) (applied_later f tok) ∙ after_name_later f m k tok (applied_as ops f (tok ∷ []))
    step_later (AfterFunctor f m k) (Variable v) = refl
    step_later (AfterFunctor f m k) tok = refl
    step_later (AfterMinus m k) (Variable v) = refl
    step_later (AfterMinus m k) tok = refl
    step_later (AfterOpenList m k) CloseList = refl
    step_later (AfterOpenList m k) tok = before_term_later 999 (InElements [] m ∷ k) tok
    step_later (AfterOpenCurly m k) CloseCurly = refl
    step_later (AfterOpenCurly m k) tok = before_term_later 1200 (InCurly m ∷ k) tok
    step_later (Whole a) tok = refl

    open_later : (s : State) → IsOpen s → IsOpen (state_later s)
    open_later (Whole a) is = is
    open_later s is = tt

  -- ---- tokens

  if_mapped : (b : Bool) (m : ℕ) (x y : Option ℕ) → x ≡ option_map (λ v. n + v) y → (if b then Some (n + m) else x) ≡ option_map (λ v. n + v) (if b then Some m else y)
  if_mapped true m x y e = refl
  if_mapped false m x y e = e

  number_of_later : (names : List VariableName) (name : Text) → number_of (map (name_later n) names) name ≡ option_map (λ v. n + v) (number_of names name)
  number_of_later [] name = refl
  number_of_later (v ∷ names) name = if_mapped (bytes_eq name v.name) v.number _ _ (number_of_later names name)

  known_later : (variables : Variables) (name : Text) → known (variables_later n variables) name ≡ option_map (λ v. n + v) (known variables name)
  known_later variables name = by (bytes_eq name (codes "_"))
    where
      by : (b : Bool) → (if b then None else number_of (map (name_later n) variables.names) name) ≡ option_map (λ v. n + v) (if b then None else number_of variables.names name)
      by true = refl
      by false = number_of_later variables.names name

  next_number_later : (variables : Variables) (name : Text) → next_number (variables_later n variables) name ≡ n + next_number variables name
  next_number_later variables name = ap (λ o. unwrap_or o (n + variables.count)) (known_later variables name) ∙ by (known variables name)
    where
      by : (o : Option ℕ) → unwrap_or (option_map (λ v. n + v) o) (n + variables.count) ≡ n + unwrap_or o variables.count
      by None = refl
      by (Some v) = refl

  with_name_later : (variables : Variables) (name : Text) → with_name (variables_later n variables) name ≡ map (name_later n) (with_name variables name)
  with_name_later variables name = by (bytes_eq name (codes "_"))
    where
      by : (b : Bool) → (if b then map (name_later n) variables.names else map (name_later n) variables.names ++ record { name = name; number = n + variables.count } ∷ [])
          ≡ map (name_later n) (if b then variables.names else variables.names ++ record { name = name; number = variables.count } ∷ [])
      by true = refl
      by false = sym (map-append (name_later n) variables.names (record { name = name; number = variables.count } ∷ []))

  with_variable_later : (variables : Variables) (name : Text) → with_variable (variables_later n variables) name ≡ variables_later n (with_variable variables name)
  with_variable_later variables name = ap (λ o. chosen o) (known_later variables name) ∙ by (known variables name)
    where
      chosen : Option ℕ → Variables
      chosen o = elim o [
        | Some number ↦ variables_later n variables
        | None ↦ record { names = with_name (variables_later n variables) name; count = suc (n + variables.count) }
      ]

      by : (o : Option ℕ) → elim (option_map (λ v. n + v) o) [
        | Some number ↦ variables_later n variables
        | None ↦ record { names = with_name (variables_later n variables) name; count = suc (n + variables.count) }
      ] ≡ variables_later n (elim o [
        | Some number ↦ variables
        | None ↦ record { names = with_name variables name; count = suc variables.count }
      ])
      by (Some v) = refl
      by None = let count : suc (n + variables.count) ≡ n + suc variables.count = omega arith in λ i. record { names = with_name_later variables name i; count = count i }

  if_named : (b : Bool) (x y : Token) → token_later x ≡ x → token_later y ≡ y → token_later (if b then x else y) ≡ (if b then x else y)
  if_named true x y p q = p
  if_named false x y p q = q

  if_marked : (b : Bool) (x y : Option Token) → option_map token_later x ≡ x → option_map token_later y ≡ y → option_map token_later (if b then x else y) ≡ (if b then x else y)
  if_marked true x y p q = p
  if_marked false x y p q = q

  mark_later : (bs : Text) → option_map token_later (mark bs) ≡ mark bs
  mark_later [] = refl
  mark_later (b ∷ bs) =
      if_marked (b == 40) _ _ refl (if_marked (b == 41) _ _ refl (if_marked (b == 91) _ _ refl (if_marked (b == 93) _ _ refl
      (if_marked (b == 123) _ _ refl (if_marked (b == 125) _ _ refl (if_marked (b == 44) _ _ refl (if_marked (b == 124) _ _ refl refl)))))))

  bare_later : (text : List ℕ) (t : lexical.Token) (name : Text) → token_later (bare_name text t name) ≡ bare_name text t name
  bare_later text t name = if_named (opens_directly text t) _ _ refl (if_named (bytes_eq name (codes "-") && digit_directly text t) _ _ refl refl)

  quoted_later : (text : List ℕ) (t : lexical.Token) (name : Text) → token_later (quoted_name text t name) ≡ quoted_name text t name
  quoted_later text t name = if_named (opens_directly text t) _ _ refl refl

  numeral_later : (o : Option ℚ) → option_map Numeral o ≡ option_map token_later (option_map Numeral o)
  numeral_later None = refl
  numeral_later (Some q) = refl

  seen_by : (text : List ℕ) (variables : Variables) (t : lexical.Token) (k : Kind) → t.kind ≡ k → seen text (variables_later n variables) t ≡ option_map token_later (seen text variables t)
  seen_by text variables t kind.Name e = rw e (ap Some (sym (bare_later text t (bytes_of text t.span))))
  seen_by text variables t kind.Quoted e = rw e (ap Some (sym (quoted_later text t (quoted_text text t))))
  seen_by text variables t kind.Codes e = rw e refl
  seen_by text variables t kind.Variable e = rw e (ap (λ v. Some (Variable v)) (next_number_later variables (bytes_of text t.span)))
  seen_by text variables t kind.Numeral e = rw e (numeral_later t.number)
  seen_by text variables t kind.Punctuation e = rw e (sym (mark_later (bytes_of text t.span)))
  seen_by text variables t kind.End e = rw e refl
  seen_by text variables t kind.Eof e = rw e refl

  after_by : (text : List ℕ) (variables : Variables) (t : lexical.Token) (k : Kind) → t.kind ≡ k → variables_after text (variables_later n variables) t ≡ variables_later n (variables_after text variables t)
  after_by text variables t kind.Name e = rw e refl
  after_by text variables t kind.Quoted e = rw e refl
  after_by text variables t kind.Codes e = rw e refl
  after_by text variables t kind.Variable e = rw e (with_variable_later variables (bytes_of text t.span))
  after_by text variables t kind.Numeral e = rw e refl
  after_by text variables t kind.Punctuation e = rw e refl
  after_by text variables t kind.End e = rw e refl
  after_by text variables t kind.Eof e = rw e refl

  -- ---- readings

  module _ (ops : Ops) (text : List ℕ) where
    seen_later : (variables : Variables) (t : lexical.Token) (tok : Token) → seen text variables t ≡ Some tok → seen text (variables_later n variables) t ≡ Some (token_later tok)
    seen_later variables t tok e = seen_by text variables t t.kind refl ∙ ap (option_map token_later) e

    reads_later : (s : State) (at : ℕ) (variables : Variables) (r : Read) → ReadsOn ops text s at variables r → ReadsOn ops text (state_later s) at (variables_later n variables) (read_later n r)
    reads_later s at variables r whole = whole
    reads_later s at variables r (onward {s' = s'} {t = t} {tok = tok} found is steps reads) =
        onward found (seen_later variables t tok is) (step_later ops s tok ∙ ap (option_map state_later) steps)
        (subst (λ x. ReadsOn ops text (state_later s') t.span.end x (read_later n r)) (sym (after_by text variables t t.kind refl)) (reads_later s' t.span.end (variables_after text variables t) r reads))
    reads_later s at variables r (stuck {t = t} {tok = tok} is_open found is none on) =
        stuck (open_later ops s is_open) found (seen_later variables t tok is) (step_later ops s tok ∙ ap (option_map state_later) none) on
    reads_later s at variables r (faulty is_open found on) = faulty (open_later ops s is_open) found on
    reads_later s at variables r (cut_off is_open found k) = cut_off (open_later ops s is_open) found k

    pub counted_on : (at : ℕ) (r : Read) → ReadsOn ops text start at no_variables r → ReadsOn ops text start at (variables_from n) (read_later n r)
    counted_on at r reads =
        let same : n + 0 ≡ n = omega arith in
        subst (λ (m : ℕ). ReadsOn ops text start at (record { names = []; count = m }) (read_later n r)) same (reads_later start at no_variables r reads)
