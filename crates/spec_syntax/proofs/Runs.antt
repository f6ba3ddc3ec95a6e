-- What the machine says of whole lists of tokens.
use Rattle.std.proofs.Common.{◌≡◌, ℕ, Bool, false, List, [], ◌∷◌, ◌++◌, codes, Option, Some, None, inl, inr, refl, sym, ap, ◌∙◌, subst, append-nil}
use Rattle.spec_numbers.specs.Rational.{0ℚ, neg_ℚ}
use Rattle.spec_numbers.specs.Texts.{Text}
use Rattle.spec_syntax.specs.Operators.{Ops}
use Rattle.spec_terms.specs.Term.{Number, Name, Compound, one}
use Rattle.spec_syntax.specs.Tokens.{Token, Numeral, Named, Functor, Minus, Open, Close, OpenList, CloseList, OpenCurly, CloseCurly, End}
use Rattle.spec_syntax.specs.Trees.{Tree, unary, binary, nil, cell}
use Rattle.spec_syntax.specs.Grammar.{use_of, Stops, begins_term, applied_as, IsTerm, term, IsOperand, numeral, negative, compound, atom, applied, empty_list, listed, empty_curly, curly, IsAfter, stop, last, AreElements, final, further, tailed, Parses, BeginsClause, IsNeither, IsRefused}
use Rattle.spec_syntax.specs.Machine.{Frame, RightOf, OperandOf, InGroup, InCurly, InArguments, InElements, InTail, State, BeforeTerm, AfterOperand, AfterName, AfterFunctor, AfterMinus, AfterOpenList, AfterOpenCurly, Whole, with_arguments_before, with_elements_before, start, IsOpen, step, run_from, run}
use Rattle.spec_syntax.specs.Yields.{Then, Fills, Yields, YieldsFrom}
use Rattle.spec_syntax.proofs.Steps.{step_to, step_back, term_back}

module _ (ops : Ops) where
  -- what closes the frames
  closing : List Frame → List Token
  closing [] = End ∷ []
  closing (RightOf f b op m ∷ k) = closing k
  closing (OperandOf f op m ∷ k) = closing k
  closing (InGroup m ∷ k) = Close ∷ closing k
  closing (InCurly m ∷ k) = CloseCurly ∷ closing k
  closing (InArguments f before m ∷ k) = Close ∷ closing k
  closing (InElements before m ∷ k) = CloseList ∷ closing k
  closing (InTail before m ∷ k) = CloseList ∷ closing k

  -- no term goes on there
  closing_stops : (k : List Frame) (m l : ℕ) → Stops ops m l (closing k)
  unfolding closing use_of
  closing_stops [] m l = refl
  closing_stops (RightOf f b op n ∷ k) m l = closing_stops k m l
  closing_stops (OperandOf f op n ∷ k) m l = closing_stops k m l
  closing_stops (InGroup n ∷ k) m l = refl
  closing_stops (InCurly n ∷ k) m l = refl
  closing_stops (InArguments f before n ∷ k) m l = refl
  closing_stops (InElements before n ∷ k) m l = refl
  closing_stops (InTail before n ∷ k) m l = refl

  alone_there : (k : List Frame) (f : Text) → applied_as ops f (closing k) ≡ None
  unfolding closing begins_term
  alone_there [] f = refl
  alone_there (RightOf g b op n ∷ k) f = alone_there k f
  alone_there (OperandOf g op n ∷ k) f = alone_there k f
  alone_there (InGroup n ∷ k) f = refl
  alone_there (InCurly n ∷ k) f = refl
  alone_there (InArguments g before n ∷ k) f = refl
  alone_there (InElements before n ∷ k) f = refl
  alone_there (InTail before n ∷ k) f = refl

  closed : (k : List Frame) (m l : ℕ) (a : Tree) → (t : Tree) × Then ops (Fills ops k) m l a (closing k) t
  unfolding closing
  closed [] m l a = (a, (End ∷ [], a, stop (closing_stops [] m l), (refl, refl)))
  closed (RightOf f b op n ∷ k) m l a = let (t, then) = closed k n op.priority (binary f b a) in (t, (closing k, a, stop (closing_stops (RightOf f b op n ∷ k) m l), then))
  closed (OperandOf f op n ∷ k) m l a = let (t, then) = closed k n op.priority (unary f a) in (t, (closing k, a, stop (closing_stops (OperandOf f op n ∷ k) m l), then))
  closed (InGroup n ∷ k) m l a = let (t, then) = closed k n 0 a in (t, (Close ∷ closing k, a, stop (closing_stops (InGroup n ∷ k) m l), (closing k, refl, then)))
  closed (InCurly n ∷ k) m l a = let (t, then) = closed k n 0 (unary (codes "{}") a) in (t, (CloseCurly ∷ closing k, a, stop (closing_stops (InCurly n ∷ k) m l), (closing k, refl, then)))
  closed (InArguments f before n ∷ k) m l a =
      let (t, then) = closed k n 0 (Compound f (with_arguments_before before (one a))) in (t, (Close ∷ closing k, a, stop (closing_stops (InArguments f before n ∷ k) m l), inl (closing k, refl, then)))
  closed (InElements before n ∷ k) m l a =
      let (t, then) = closed k n 0 (with_elements_before before (cell a nil)) in (t, (CloseList ∷ closing k, a, stop (closing_stops (InElements before n ∷ k) m l), inl (closing k, refl, then)))
  closed (InTail before n ∷ k) m l a =
      let (t, then) = closed k n 0 (with_elements_before before a) in (t, (CloseList ∷ closing k, a, stop (closing_stops (InTail before n ∷ k) m l), (closing k, refl, then)))

  -- some tokens complete each state
  pub completes : (s : State) → (ts : List Token) × (t : Tree) × Yields ops s ts t
  unfolding closing use_of
  completes (BeforeTerm m k) = let (t, then) = closed k m 0 (Number 0ℚ) in (Numeral 0ℚ ∷ closing k, t, term_back ops m k _ t (closing k, 0, Number 0ℚ, numeral, then))
  completes (AfterOperand m l a k) = let (t, then) = closed k m l a in (closing k, t, then)
  completes (AfterName f m k) = let (t, then) = closed k m 0 (Name f) in (closing k, t, (closing k, 0, Name f, atom (alone_there k f), then))
  completes (AfterFunctor f m k) =
      let (t, then) = closed k m 0 (unary f (Number 0ℚ)) in
      (Open ∷ Numeral 0ℚ ∷ Close ∷ closing k, t, (closing k, 0, unary f (Number 0ℚ), compound (last (term numeral (stop refl))), then))
  completes (AfterMinus m k) = let (t, then) = closed k m 0 (Number (neg_ℚ 0ℚ)) in (Numeral 0ℚ ∷ closing k, t, (closing k, 0, Number (neg_ℚ 0ℚ), negative, then))
  completes (AfterOpenList m k) = let (t, then) = closed k m 0 nil in (CloseList ∷ closing k, t, (closing k, 0, nil, empty_list, then))
  completes (AfterOpenCurly m k) = let (t, then) = closed k m 0 (Name (codes "{}")) in (CloseCurly ∷ closing k, t, (closing k, 0, Name (codes "{}"), empty_curly, then))
  completes (Whole a) = ([], a, (refl, refl))

  no_operand : {m l : ℕ} {mid : List Token} {a : Tree} → IsOperand ops m [] mid l a → ⊥
  no_operand b = elim b [ ]

  no_term : {m : ℕ} {mid : List Token} {a : Tree} → IsTerm ops m [] mid a → ⊥
  no_term (term b after) = no_operand b

  none_left : (k : List Frame) (m l : ℕ) (a : Tree) (rest : List Token) (c t : Tree) → IsAfter ops m l a [] rest c → Fills ops k c rest t → ⊥
  none_left [] m l a rest c t (stop s) (e, same) = cc
  none_left (RightOf f b op n ∷ k) m l a rest c t (stop s) (r, d, after, fills) = none_left k n op.priority (binary f b a) r d t after fills
  none_left (OperandOf f op n ∷ k) m l a rest c t (stop s) (r, d, after, fills) = none_left k n op.priority (unary f a) r d t after fills
  none_left (InGroup n ∷ k) m l a rest c t (stop s) (us, e, then) = cc
  none_left (InCurly n ∷ k) m l a rest c t (stop s) (us, e, then) = cc
  none_left (InArguments f b n ∷ k) m l a rest c t (stop s) (inl (us, e, then)) = cc
  none_left (InArguments f b n ∷ k) m l a rest c t (stop s) (inr (us, mid, args, e, r, then)) = cc
  none_left (InElements b n ∷ k) m l a rest c t (stop s) (inl (us, e, then)) = cc
  none_left (InElements b n ∷ k) m l a rest c t (stop s) (inr (inl (us, mid, u, e, r, then))) = cc
  none_left (InElements b n ∷ k) m l a rest c t (stop s) (inr (inr (us, mid, u, e, r, then))) = cc
  none_left (InTail b n ∷ k) m l a rest c t (stop s) (us, e, then) = cc

  no_elements_left : {mid : List Token} {a : Tree} → AreElements ops [] mid a → ⊥
  no_elements_left (final b) = no_term b
  no_elements_left (further b c) = no_term b
  no_elements_left (tailed b c) = no_term b

  -- a token behind which something must come is no operand
  not_name : (f : Text) (q : Bool) (m : ℕ) (k : List Frame) (mid : List Token) (l : ℕ) (a t : Tree) → IsOperand ops m (Named f q ∷ []) mid l a → Then ops (Fills ops k) m l a mid t → ⊥
  not_name f q m k mid l a t (atom e) (rest, c, after, fills) = none_left k m 0 (Name f) rest c t after fills
  not_name f q m k mid l a t (applied e low same c) then = no_term c

  not_functor : (f : Text) (m : ℕ) (mid : List Token) (l : ℕ) (a : Tree) → IsOperand ops m (Functor f ∷ []) mid l a → ⊥
  not_functor f m mid l a b = elim b [ ]

  not_minus : (m : ℕ) (mid : List Token) (l : ℕ) (a : Tree) → IsOperand ops m (Minus ∷ []) mid l a → ⊥
  not_minus m mid l a b = elim b [ ]

  not_open_list : (m : ℕ) (mid : List Token) (l : ℕ) (a : Tree) → IsOperand ops m (OpenList ∷ []) mid l a → ⊥
  not_open_list m mid l a (listed b) = no_elements_left b

  not_open_curly : (m : ℕ) (mid : List Token) (l : ℕ) (a : Tree) → IsOperand ops m (OpenCurly ∷ []) mid l a → ⊥
  not_open_curly m mid l a (curly b) = no_term b

  -- only the state behind a whole clause yields a clause without a token
  only_whole : (s : State) (t : Tree) → Yields ops s [] t → s ≡ Whole t
  only_whole (BeforeTerm m k) t (rest, c, b, fills) = absurd (no_term b)
  only_whole (AfterOperand m l a k) t (rest, c, after, fills) = absurd (none_left k m l a rest c t after fills)
  only_whole (AfterName f m k) t (mid, l, a, b, then) = absurd (not_name f false m k mid l a t b then)
  only_whole (AfterFunctor f m k) t (mid, l, a, b, then) = absurd (not_functor f m mid l a b)
  only_whole (AfterMinus m k) t (mid, l, a, b, then) = absurd (not_minus m mid l a b)
  only_whole (AfterOpenList m k) t (mid, l, a, b, then) = absurd (not_open_list m mid l a b)
  only_whole (AfterOpenCurly m k) t (mid, l, a, b, then) = absurd (not_open_curly m mid l a b)
  only_whole (Whole a) t (e, same) = ap Whole same

  whole_from : (o : Option State) (t : Tree) → YieldsFrom ops o [] t → o ≡ Some (Whole t)
  whole_from None t g = elim g [ ]
  whole_from (Some s) t g = ap Some (only_whole s t g)

  same_tree : (t u : Tree) → Whole t ≡ Whole u → t ≡ u
  same_tree t u e = cc

  same_state : (s r : State) → Some s ≡ Some r → s ≡ r
  same_state s r e = cc

  -- ---- runs

  run_to : (ts : List Token) (o : Option State) (rest : List Token) (t : Tree) → YieldsFrom ops o (ts ++ rest) t → YieldsFrom ops (run_from ops o ts) rest t
  run_to [] o rest t g = g
  run_to (tok ∷ ts) (Some s) rest t g = run_to ts (step ops s tok) rest t (step_to ops s tok (ts ++ rest) t g)
  run_to (tok ∷ ts) None rest t g = elim g [ ]

  run_back : (ts : List Token) (o : Option State) (rest : List Token) (t : Tree) → YieldsFrom ops (run_from ops o ts) rest t → YieldsFrom ops o (ts ++ rest) t
  run_back [] o rest t g = g
  run_back (tok ∷ ts) (Some s) rest t g = step_back ops s tok (ts ++ rest) t (run_back ts (step ops s tok) rest t g)
  run_back (tok ∷ ts) None rest t g = g

  pub run_onward : (ts : List Token) (o : Option State) (s : State) (tok : Token) → run_from ops o ts ≡ Some s → run_from ops o (ts ++ tok ∷ []) ≡ step ops s tok
  run_onward [] (Some r) s tok e = ap (λ x. step ops x tok) (same_state r s e)
  run_onward [] None s tok e = cc
  run_onward (t ∷ ts) (Some r) s tok e = run_onward ts (step ops r t) s tok e
  run_onward (t ∷ ts) None s tok e = cc

  start_to : (ts : List Token) (t : Tree) → Parses ops ts t → Yields ops start ts t
  start_to ts t p = (End ∷ [], t, p, (refl, refl))

  start_back : (ts : List Token) (t : Tree) → Yields ops start ts t → Parses ops ts t
  start_back ts t (rest, a, b, (e, same)) = subst (λ x. Parses ops ts x) same (subst (λ x. IsTerm ops 1200 ts x a) e b)

  -- from the state behind the first tokens of a clause the others make it
  clause_to : (ts rest : List Token) (t : Tree) → Parses ops (ts ++ rest) t → YieldsFrom ops (run ops ts) rest t
  clause_to ts rest t p = run_to ts (Some start) rest t (start_to (ts ++ rest) t p)

  clause_back : (ts rest : List Token) (t : Tree) → YieldsFrom ops (run ops ts) rest t → Parses ops (ts ++ rest) t
  clause_back ts rest t g = start_back (ts ++ rest) t (run_back ts (Some start) rest t g)

  -- ---- clauses

  pub clause_runs : (ts : List Token) (t : Tree) → Parses ops ts t → run ops ts ≡ Some (Whole t)
  clause_runs ts t p = whole_from (run ops ts) t (clause_to ts [] t (rw append-nil p))

  pub run_parses : (ts : List Token) (t : Tree) → run ops ts ≡ Some (Whole t) → Parses ops ts t
  run_parses ts t e = rw append-nil at (clause_back ts [] t (subst (λ o. YieldsFrom ops o [] t) (sym e) (refl, refl)))

  pub parses_once : (ts : List Token) (t u : Tree) → Parses ops ts t → Parses ops ts u → t ≡ u
  parses_once ts t u p q = same_tree t u (same_state (Whole t) (Whole u) (sym (clause_runs ts t p) ∙ clause_runs ts u q))

  -- ---- beginnings of clauses

  -- a state that yields a clause by one more token is open
  open_before : (s : State) (tok : Token) (rest : List Token) (t : Tree) → Yields ops s (tok ∷ rest) t → IsOpen s
  open_before (Whole a) tok rest t (e, same) = cc
  open_before s tok rest t g = tt

  -- the machine is behind these tokens, and no clause is whole
  IsBehind : List Token → Type 0
  IsBehind ts = (s : State) × (run ops ts ≡ Some s) × IsOpen s

  behind_by : (ts rest : List Token) (tok : Token) (t : Tree) (o : Option State) → run ops ts ≡ o → YieldsFrom ops o (tok ∷ rest) t → IsBehind ts
  unfolding IsBehind
  behind_by ts rest tok t None e g = elim g [ ]
  behind_by ts rest tok t (Some s) e g = (s, e, open_before s tok rest t g)

  pub begun_runs : (ts : List Token) → BeginsClause ops ts → (s : State) × (run ops ts ≡ Some s) × IsOpen s
  unfolding IsBehind
  begun_runs ts (tok, rest, t, p) = behind_by ts rest tok t _ refl (clause_to ts (tok ∷ rest) t p)

  -- an open state is not one behind a whole clause
  not_open : (s : State) (t : Tree) → IsOpen s → s ≡ Whole t → ⊥
  not_open s t is e = subst (λ x. IsOpen x) e is

  -- an open state is completed by one token at least
  begins_by : (ts : List Token) (s : State) → run ops ts ≡ Some s → IsOpen s → (rest : List Token) (t : Tree) → Yields ops s rest t → BeginsClause ops ts
  begins_by ts s e is [] t g = absurd (not_open s t is (only_whole s t g))
  begins_by ts s e is (tok ∷ rest) t g = (tok, rest, t, clause_back ts (tok ∷ rest) t (subst (λ o. YieldsFrom ops o (tok ∷ rest) t) (sym e) g))

  pub run_begins : (ts : List Token) → (s : State) × (run ops ts ≡ Some s) × IsOpen s → BeginsClause ops ts
  run_begins ts (s, e, is) = let (rest, t, g) = completes s in begins_by ts s e is rest t g

  -- a clause begins no longer one
  pub nothing_behind : (ts : List Token) (t : Tree) → Parses ops ts t → BeginsClause ops ts → ⊥
  nothing_behind ts t p b = let (s, e, is) = begun_runs ts b in not_open s t is (same_state s (Whole t) (sym e ∙ clause_runs ts t p))

  -- ---- refusals

  none_some : (o : Option State) (s : State) → o ≡ None → o ≡ Some s → ⊥
  none_some o s e f = let g : None ≡ Some s = sym e ∙ f in cc

  pub none_neither : (ts : List Token) → run ops ts ≡ None → IsNeither ops ts
  none_neither ts e = record {
    no_clause = λ t p. none_some (run ops ts) (Whole t) e (clause_runs ts t p);
    no_beginning = λ b. none_some (run ops ts) (begun_runs ts b).0 e (begun_runs ts b).1;
  }

  not_neither : (ts : List Token) (s : State) → run ops ts ≡ Some s → IsNeither ops ts → ⊥
  not_neither ts (Whole t) e n = n.no_clause t (run_parses ts t e)
  not_neither ts s e n = n.no_beginning (run_begins ts (s, e, tt))

  neither_by : (ts : List Token) → IsNeither ops ts → (o : Option State) → run ops ts ≡ o → run ops ts ≡ None
  neither_by ts n None e = e
  neither_by ts n (Some s) e = absurd (not_neither ts s e n)

  pub neither_none : (ts : List Token) → IsNeither ops ts → run ops ts ≡ None
  neither_none ts n = neither_by ts n _ refl

  pub refused_runs : (ts : List Token) (tok : Token) → IsRefused ops ts tok → (s : State) × (run ops ts ≡ Some s) × IsOpen s × (step ops s tok ≡ None)
  refused_runs ts tok r =
      let (s, e, is) = begun_runs ts r.begun in
      (s, e, is, sym (run_onward ts (Some start) s tok e) ∙ neither_none (ts ++ tok ∷ []) r.refused)

  pub run_refuses : (ts : List Token) (tok : Token) → (s : State) × (run ops ts ≡ Some s) × IsOpen s × (step ops s tok ≡ None) → IsRefused ops ts tok
  run_refuses ts tok (s, e, is, none) =
      record { begun = run_begins ts (s, e, is); refused = none_neither (ts ++ tok ∷ []) (run_onward ts (Some start) s tok e ∙ none) }
