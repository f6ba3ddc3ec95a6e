-- Each step keeps what the grammar allows.
use Rattle.std.proofs.Common.{◌≡◌, ℕ, ◌≤◌, Bool, true, false, List, [], ◌∷◌, codes, Option, Some, None, refl, subst, nat_le}
use Rattle.spec_numbers.specs.Rational.{neg_ℚ}
use Rattle.spec_syntax.specs.declared.operators.OpDef.{OpDef}
use Rattle.spec_numbers.specs.Texts.{Text}
use Rattle.spec_syntax.specs.Operators.{Ops, right_most}
use Rattle.spec_terms.specs.Term.{Var, Number, Name, Compound}
use Rattle.spec_syntax.specs.Tokens.{Token, Variable, Numeral, Codes, Named, Functor, Minus, Open, Close, OpenList, CloseList, OpenCurly, CloseCurly}
use Rattle.spec_syntax.specs.Trees.{Tree, unary, nil, code_list}
use Rattle.spec_syntax.specs.Grammar.{applied_as, IsTerm, term, IsOperand, variable, numeral, negative, text, compound, atom, applied, group, empty_list, listed, empty_curly, curly, IsAfter, AreElements, final, further, tailed}
use Rattle.spec_syntax.specs.Machine.{Frame, OperandOf, InCurly, InElements, State, BeforeTerm, AfterOperand, AfterName, AfterFunctor, AfterMinus, AfterOpenList, AfterOpenCurly, Whole, before_term, apply_if, after_name, after_functor, after_minus, after_open_list, after_open_curly, step}
use Rattle.spec_syntax.specs.Yields.{Then, Fills, FromOperand, Yields, YieldsFrom}
use Rattle.spec_syntax.proofs.Behind.{not_low, after_operand_to, after_operand_back, arguments_to, arguments_back, elements_to, elements_back}
use Rattle.spec_numbers.proofs.Tests.{true_le}

module _ (ops : Ops) where
  -- quotes do not matter to the name itself
  quotes_aside : {m l : ℕ} {f : Text} {p q : Bool} {ts mid : List Token} {a : Tree} → IsOperand ops m (Named f p ∷ ts) mid l a → IsOperand ops m (Named f q ∷ ts) mid l a
  quotes_aside (atom e) = atom e
  quotes_aside (applied e low same b) = applied e low same b

  -- the step where a term is term_begins
  pub before_term_to : (m : ℕ) (k : List Frame) (tok : Token) (ts : List Token) (t : Tree) (mid : List Token) (l : ℕ) (a : Tree) →
      IsOperand ops m (tok ∷ ts) mid l a → Then ops (Fills ops k) m l a mid t → YieldsFrom ops (before_term ops m k tok) ts t
  before_term_to m k tok ts t mid l a numeral then = then
  before_term_to m k tok ts t mid l a (negative {q = q}) then = (mid, l, a, negative, then)
  before_term_to m k tok ts t mid l a variable then = then
  before_term_to m k tok ts t mid l a text then = then
  before_term_to m k tok ts t mid l a (compound args) then = (mid, 0, a, compound args, then)
  before_term_to m k tok ts t mid l a (atom e) then = (mid, l, a, atom e, then)
  before_term_to m k tok ts t mid l a (applied e low same b) then = (mid, l, a, applied e low same b, then)
  before_term_to m k tok ts t mid l a (group b) then = (Close ∷ mid, a, b, (mid, refl, then))
  before_term_to m k tok ts t mid l a empty_list then = (mid, l, a, empty_list, then)
  before_term_to m k tok ts t mid l a (listed b) then = (mid, l, a, listed b, then)
  before_term_to m k tok ts t mid l a empty_curly then = (mid, l, a, empty_curly, then)
  before_term_to m k tok ts t mid l a (curly b) then = (mid, l, a, curly b, then)

  before_term_back : (m : ℕ) (k : List Frame) (tok : Token) (ts : List Token) (t : Tree) → YieldsFrom ops (before_term ops m k tok) ts t → FromOperand ops m k (tok ∷ ts) t
  before_term_back m k (Numeral q) ts t g = (ts, 0, Number q, numeral, g)
  before_term_back m k (Variable v) ts t g = (ts, 0, Var v, variable, g)
  before_term_back m k (Codes cs) ts t g = (ts, 0, code_list cs, text, g)
  before_term_back m k (Functor f) ts t g = g
  before_term_back m k (Named f q) ts t (mid, l, a, b, then) = (mid, l, a, quotes_aside b, then)
  before_term_back m k Minus ts t g = g
  before_term_back m k Open ts t (rest, a, b, (us, e, then)) = (us, 0, a, group (subst (λ x. IsTerm ops 1200 ts x a) e b), then)
  before_term_back m k OpenList ts t g = g
  before_term_back m k OpenCurly ts t g = g
  before_term_back m k tok ts t g = elim g [ ]

  -- a term is an operand and what follows it
  term_to : (m : ℕ) (k : List Frame) (ts : List Token) (t : Tree) → Yields ops (BeforeTerm m k) ts t → FromOperand ops m k ts t
  term_to m k ts t (rest, c, term {l = l} {mid = mid} {a = a} b after, fills) = (mid, l, a, b, (rest, c, after, fills))

  pub term_back : (m : ℕ) (k : List Frame) (ts : List Token) (t : Tree) → FromOperand ops m k ts t → Yields ops (BeforeTerm m k) ts t
  term_back m k ts t (mid, l, a, b, (rest, c, after, fills)) = (rest, c, term b after, fills)

  term_begins : (m : ℕ) (k : List Frame) (tok : Token) (ts : List Token) (t : Tree) → Yields ops (BeforeTerm m k) (tok ∷ ts) t → YieldsFrom ops (before_term ops m k tok) ts t
  term_begins m k tok ts t g = let (mid, l, a, b, then) = term_to m k (tok ∷ ts) t g in before_term_to m k tok ts t mid l a b then

  term_begins_back : (m : ℕ) (k : List Frame) (tok : Token) (ts : List Token) (t : Tree) → YieldsFrom ops (before_term ops m k tok) ts t → Yields ops (BeforeTerm m k) (tok ∷ ts) t
  term_begins_back m k tok ts t g = term_back m k (tok ∷ ts) t (before_term_back m k tok ts t g)

  apply_to : (b : Bool) (f : Text) (op : OpDef) (m : ℕ) (k : List Frame) (tok : Token) (ts : List Token) (t : Tree) → nat_le op.priority m ≡ b → op.priority ≤ m →
      Yields ops (BeforeTerm (right_most op) (OperandOf f op m ∷ k)) (tok ∷ ts) t → YieldsFrom ops (apply_if ops b f op m k tok) ts t
  apply_to true f op m k tok ts t e low g = term_begins (right_most op) (OperandOf f op m ∷ k) tok ts t g
  apply_to false f op m k tok ts t e low g = not_low op.priority m e low

  after_name_to : (f : Text) (m : ℕ) (k : List Frame) (tok : Token) (ts : List Token) (t : Tree) → Yields ops (AfterName f m k) (tok ∷ ts) t → YieldsFrom ops (after_name ops f m k tok (applied_as ops f (tok ∷ []))) ts t
  after_name_to f m k tok ts t (mid, l, a, atom e, then) = rw e (after_operand_to ops k m 0 (Name f) tok ts t then)
  after_name_to f m k tok ts t (mid, l, a, applied {op = op} {a = b} e low same c, (rest, d, after, fills)) =
      rw e (apply_to _ f op m k tok ts t refl low (mid, b, c, (rest, d, subst (λ x. IsAfter ops m x (unary f b) mid rest d) same after, fills)))

  apply_back : (b : Bool) (f : Text) (op : OpDef) (m : ℕ) (k : List Frame) (tok : Token) (ts : List Token) (t : Tree) → nat_le op.priority m ≡ b →
      YieldsFrom ops (apply_if ops b f op m k tok) ts t → (op.priority ≤ m) × Yields ops (BeforeTerm (right_most op) (OperandOf f op m ∷ k)) (tok ∷ ts) t
  apply_back true f op m k tok ts t e g = (true_le op.priority m e, term_begins_back (right_most op) (OperandOf f op m ∷ k) tok ts t g)
  apply_back false f op m k tok ts t e g = elim g [ ]

  after_name_by : (f : Text) (m : ℕ) (k : List Frame) (tok : Token) (ts : List Token) (t : Tree) (o : Option OpDef) → applied_as ops f (tok ∷ ts) ≡ o →
      YieldsFrom ops (after_name ops f m k tok o) ts t → Yields ops (AfterName f m k) (tok ∷ ts) t
  after_name_by f m k tok ts t None e g = (tok ∷ ts, 0, Name f, atom e, after_operand_back ops k m 0 (Name f) tok ts t g)
  after_name_by f m k tok ts t (Some op) e g =
      let (low, (mid, b, c, (rest, d, after, fills))) = apply_back _ f op m k tok ts t refl g in
      (mid, op.priority, unary f b, applied e low refl c, (rest, d, after, fills))

  after_functor_to : (f : Text) (m : ℕ) (k : List Frame) (tok : Token) (ts : List Token) (t : Tree) → Yields ops (AfterFunctor f m k) (tok ∷ ts) t → YieldsFrom ops (after_functor ops f m k tok) ts t
  after_functor_to f m k tok ts t (mid, l, a, compound {args = args} those, then) = arguments_to ops f m k [] ts t mid args those then

  after_functor_back : (f : Text) (m : ℕ) (k : List Frame) (tok : Token) (ts : List Token) (t : Tree) → YieldsFrom ops (after_functor ops f m k tok) ts t → Yields ops (AfterFunctor f m k) (tok ∷ ts) t
  after_functor_back f m k Open ts t g = let (mid, args, those, then) = arguments_back ops f m k [] ts t g in (mid, 0, Compound f args, compound those, then)
  after_functor_back f m k tok ts t g = elim g [ ]

  after_minus_to : (m : ℕ) (k : List Frame) (tok : Token) (ts : List Token) (t : Tree) → Yields ops (AfterMinus m k) (tok ∷ ts) t → YieldsFrom ops (after_minus ops m k tok) ts t
  after_minus_to m k tok ts t (mid, l, a, negative, then) = then

  after_minus_back : (m : ℕ) (k : List Frame) (tok : Token) (ts : List Token) (t : Tree) → YieldsFrom ops (after_minus ops m k tok) ts t → Yields ops (AfterMinus m k) (tok ∷ ts) t
  after_minus_back m k (Numeral q) ts t g = (ts, 0, Number (neg_ℚ q), negative, g)
  after_minus_back m k tok ts t g = elim g [ ]

  -- no term begins with a closing bracket
  no_term : (m : ℕ) (ts rest : List Token) (a : Tree) → IsTerm ops m (CloseList ∷ ts) rest a → ⊥
  no_term m ts rest a (term b after) = elim b [ ]

  no_term_curly : (m : ℕ) (ts rest : List Token) (a : Tree) → IsTerm ops m (CloseCurly ∷ ts) rest a → ⊥
  no_term_curly m ts rest a (term b after) = elim b [ ]

  no_list : (ts rest : List Token) (a : Tree) → AreElements ops (CloseList ∷ ts) rest a → ⊥
  no_list ts rest a (final b) = no_term 999 ts _ _ b
  no_list ts rest a (further b c) = no_term 999 ts _ _ b
  no_list ts rest a (tailed b c) = no_term 999 ts _ _ b

  after_open_list_to : (m : ℕ) (k : List Frame) (tok : Token) (ts : List Token) (t : Tree) → Yields ops (AfterOpenList m k) (tok ∷ ts) t → YieldsFrom ops (after_open_list ops m k tok) ts t
  after_open_list_to m k CloseList ts t (mid, l, a, empty_list, then) = then
  after_open_list_to m k CloseList ts t (mid, l, a, listed b, then) = absurd (no_list ts mid a b)
  after_open_list_to m k tok ts t (mid, l, a, listed b, then) = term_begins 999 (InElements [] m ∷ k) tok ts t (elements_to ops m k [] (tok ∷ ts) t mid a b then)

  after_open_list_some : (m : ℕ) (k : List Frame) (tok : Token) (ts : List Token) (t : Tree) → YieldsFrom ops (before_term ops 999 (InElements [] m ∷ k) tok) ts t → Yields ops (AfterOpenList m k) (tok ∷ ts) t
  after_open_list_some m k tok ts t g = let (mid, u, b, then) = elements_back ops m k [] (tok ∷ ts) t (term_begins_back 999 (InElements [] m ∷ k) tok ts t g) in (mid, 0, u, listed b, then)

  after_open_list_back : (m : ℕ) (k : List Frame) (tok : Token) (ts : List Token) (t : Tree) → YieldsFrom ops (after_open_list ops m k tok) ts t → Yields ops (AfterOpenList m k) (tok ∷ ts) t
  after_open_list_back m k CloseList ts t g = (ts, 0, nil, empty_list, g)
  after_open_list_back m k tok ts t g = after_open_list_some m k tok ts t g

  after_open_curly_to : (m : ℕ) (k : List Frame) (tok : Token) (ts : List Token) (t : Tree) → Yields ops (AfterOpenCurly m k) (tok ∷ ts) t → YieldsFrom ops (after_open_curly ops m k tok) ts t
  after_open_curly_to m k CloseCurly ts t (mid, l, a, empty_curly, then) = then
  after_open_curly_to m k CloseCurly ts t (mid, l, a, curly {t = u} b, then) = absurd (no_term_curly 1200 ts _ _ b)
  after_open_curly_to m k tok ts t (mid, l, a, curly {t = u} b, then) = term_begins 1200 (InCurly m ∷ k) tok ts t (CloseCurly ∷ mid, u, b, (mid, refl, then))

  after_open_curly_some : (m : ℕ) (k : List Frame) (tok : Token) (ts : List Token) (t : Tree) → YieldsFrom ops (before_term ops 1200 (InCurly m ∷ k) tok) ts t → Yields ops (AfterOpenCurly m k) (tok ∷ ts) t
  after_open_curly_some m k tok ts t g = let (rest, u, b, (us, e, then)) = term_begins_back 1200 (InCurly m ∷ k) tok ts t g in
      (us, 0, unary (codes "{}") u, curly (subst (λ x. IsTerm ops 1200 (tok ∷ ts) x u) e b), then)

  curly_back : (m : ℕ) (k : List Frame) (tok : Token) (ts : List Token) (t : Tree) → YieldsFrom ops (after_open_curly ops m k tok) ts t → Yields ops (AfterOpenCurly m k) (tok ∷ ts) t
  curly_back m k CloseCurly ts t g = (ts, 0, Name (codes "{}"), empty_curly, g)
  curly_back m k tok ts t g = after_open_curly_some m k tok ts t g

  -- what a state yields from a token on is what the next state yields behind it
  pub step_to : (s : State) (tok : Token) (ts : List Token) (t : Tree) → Yields ops s (tok ∷ ts) t → YieldsFrom ops (step ops s tok) ts t
  step_to (BeforeTerm m k) tok ts t g = term_begins m k tok ts t g
  step_to (AfterOperand m l a k) tok ts t g = after_operand_to ops k m l a tok ts t g
  step_to (AfterName f m k) tok ts t g = after_name_to f m k tok ts t g
  step_to (AfterFunctor f m k) tok ts t g = after_functor_to f m k tok ts t g
  step_to (AfterMinus m k) tok ts t g = after_minus_to m k tok ts t g
  step_to (AfterOpenList m k) tok ts t g = after_open_list_to m k tok ts t g
  step_to (AfterOpenCurly m k) tok ts t g = after_open_curly_to m k tok ts t g
  step_to (Whole a) tok ts t (e, same) = cc

  pub step_back : (s : State) (tok : Token) (ts : List Token) (t : Tree) → YieldsFrom ops (step ops s tok) ts t → Yields ops s (tok ∷ ts) t
  step_back (BeforeTerm m k) tok ts t g = term_begins_back m k tok ts t g
  step_back (AfterOperand m l a k) tok ts t g = after_operand_back ops k m l a tok ts t g
  step_back (AfterName f m k) tok ts t g = after_name_by f m k tok ts t _ refl g
  step_back (AfterFunctor f m k) tok ts t g = after_functor_back f m k tok ts t g
  step_back (AfterMinus m k) tok ts t g = after_minus_back m k tok ts t g
  step_back (AfterOpenList m k) tok ts t g = after_open_list_back m k tok ts t g
  step_back (AfterOpenCurly m k) tok ts t g = curly_back m k tok ts t g
  step_back (Whole a) tok ts t g = elim g [ ]
