-- What the grammar still allows from each state of the machine.
use Rattle.std.specs.Prelude.{◌≡◌, ℕ, false, List, [], ◌∷◌, codes, Option, Some, None, ◌⊎◌}
use Rattle.spec_numbers.specs.Texts.{Text}
use Rattle.spec_syntax.specs.Operators.{Ops}
use Rattle.spec_terms.specs.Term.{Terms, Compound, one, more}
use Rattle.spec_syntax.specs.Tokens.{Token, Named, Functor, Minus, Close, OpenList, CloseList, OpenCurly, CloseCurly, Comma, Bar, End}
use Rattle.spec_syntax.specs.Trees.{Tree, unary, binary, nil, cell}
use Rattle.spec_syntax.specs.Grammar.{IsTerm, IsOperand, IsAfter, AreArguments, AreElements}
use Rattle.spec_syntax.specs.Machine.{Frame, RightOf, OperandOf, InGroup, InCurly, InArguments, InElements, InTail, State, BeforeTerm, AfterOperand, AfterName, AfterFunctor, AfterMinus, AfterOpenList, AfterOpenCurly, Whole, with_arguments_before, with_elements_before}

module _ (ops : Ops) where
  -- operators behind an operand a, and then what the frames wait for
  abbrev pub Then : (Tree → List Token → Tree → Type 0) → ℕ → ℕ → Tree → List Token → Tree → Type 0
  Then fills m l a ts t = (rest : List Token) × (c : Tree) × IsAfter ops m l a ts rest c × fills c rest t

  -- with the term a for the first frame, these tokens make the clause t
  abbrev pub Fills : List Frame → Tree → List Token → Tree → Type 0
  Fills [] a ts t = (ts ≡ End ∷ []) × (a ≡ t)
  Fills (RightOf f b op m ∷ k) a ts t = Then (Fills k) m op.priority (binary f b a) ts t
  Fills (OperandOf f op m ∷ k) a ts t = Then (Fills k) m op.priority (unary f a) ts t
  Fills (InGroup m ∷ k) a ts t = (us : List Token) × (ts ≡ Close ∷ us) × Then (Fills k) m 0 a us t
  Fills (InCurly m ∷ k) a ts t = (us : List Token) × (ts ≡ CloseCurly ∷ us) × Then (Fills k) m 0 (unary (codes "{}") a) us t
  Fills (InArguments f before m ∷ k) a ts t =
      ((us : List Token) × (ts ≡ Close ∷ us) × Then (Fills k) m 0 (Compound f (with_arguments_before before (one a))) us t)
      ⊎ ((us : List Token) × (mid : List Token) × (args : Terms Text) × (ts ≡ Comma ∷ us) × AreArguments ops us mid args
      × Then (Fills k) m 0 (Compound f (with_arguments_before before (more a args))) mid t)
  Fills (InElements before m ∷ k) a ts t =
      ((us : List Token) × (ts ≡ CloseList ∷ us) × Then (Fills k) m 0 (with_elements_before before (cell a nil)) us t)
      ⊎ (((us : List Token) × (mid : List Token) × (u : Tree) × (ts ≡ Comma ∷ us) × AreElements ops us mid u
      × Then (Fills k) m 0 (with_elements_before before (cell a u)) mid t)
      ⊎ ((us : List Token) × (mid : List Token) × (u : Tree) × (ts ≡ Bar ∷ us) × IsTerm ops 999 us (CloseList ∷ mid) u
      × Then (Fills k) m 0 (with_elements_before before (cell a u)) mid t))
  Fills (InTail before m ∷ k) a ts t = (us : List Token) × (ts ≡ CloseList ∷ us) × Then (Fills k) m 0 (with_elements_before before a) us t

  -- an operand, and what follows it
  abbrev pub FromOperand : ℕ → List Frame → List Token → Tree → Type 0
  FromOperand m k ts t = (mid : List Token) × (l : ℕ) × (a : Tree) × IsOperand ops m ts mid l a × Then (Fills k) m l a mid t

  -- from this state on these tokens make the clause t
  abbrev pub Yields : State → List Token → Tree → Type 0
  Yields (BeforeTerm m k) ts t = (rest : List Token) × (a : Tree) × IsTerm ops m ts rest a × Fills k a rest t
  Yields (AfterOperand m l a k) ts t = Then (Fills k) m l a ts t
  -- a name is an atom or applied whether it is in quotes or not
  Yields (AfterName f m k) ts t = FromOperand m k (Named f false ∷ ts) t
  Yields (AfterFunctor f m k) ts t = FromOperand m k (Functor f ∷ ts) t
  Yields (AfterMinus m k) ts t = FromOperand m k (Minus ∷ ts) t
  Yields (AfterOpenList m k) ts t = FromOperand m k (OpenList ∷ ts) t
  Yields (AfterOpenCurly m k) ts t = FromOperand m k (OpenCurly ∷ ts) t
  Yields (Whole a) ts t = (ts ≡ []) × (a ≡ t)

  -- the same from a state that may be none
  abbrev pub YieldsFrom : Option State → List Token → Tree → Type 0
  YieldsFrom None ts t = ⊥
  YieldsFrom (Some s) ts t = Yields s ts t
