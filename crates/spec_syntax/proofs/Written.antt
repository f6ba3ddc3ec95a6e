-- What is written of a term is read as that term: facts about operators and first tokens.
use Rattle.std.proofs.Common.{◌≡◌, ℕ, ◌≤◌, ◌<◌, Bool, true, false, not, ◌&&◌, ◌||◌, List, [], ◌∷◌, ◌++◌, codes, Option, Some, None, is_some, refl, sym, ap, ◌∙◌, arith, nat_le, nat_lt, append_assoc}
use Rattle.std.specs.Prelude.{if◌then◌else◌, bytes_eq}
use Rattle.std.specs.Cmp.Lexicographic.{bytes_decides}
use Rattle.std.proofs.lemmas.Bool.Decides.{nat_tests}
use Rattle.spec_numbers.specs.Rational.{ℚ}
use Rattle.spec_syntax.specs.declared.operators.OpDef.{OpDef}
use Rattle.spec_syntax.specs.declared.operators.OpKind.{OpKind}
use Rattle.spec_syntax.specs.declared.operators.OpKind.TheVariants.{Xfx, Xfy, Yfx, Fy, Fx, Xf, Yf}
use Rattle.spec_numbers.specs.Texts.{Text}
use Rattle.spec_syntax.specs.Operators.{Ops, left_most, right_most, is_operator}
use Rattle.spec_terms.specs.Term.{Var, Number, Name, Compound, one, more}
use Rattle.spec_syntax.specs.Tokens.{Token, Numeral, Named, Minus, Open, Comma}
use Rattle.spec_syntax.specs.Trees.{Tree}
use Rattle.spec_syntax.specs.Grammar.{operator_name, allowed, AsInfix, AsPostfix, Outside, use_of, Stops, may_begin, begins_term, applied_as}
use Rattle.spec_syntax.specs.Writing.{IsTable, or_else, operator_of, priority_of, right_end, priority, open_end, is_negative, is_never_bare, is_bare_right, is_bare_left, is_bare_argument, unless, needs_quotes, name_before, infix_token, Alone, InList, number_tokens, atom_tokens, name_tokens, is_signed, prefix_tokens, operand_tokens, unary_tokens, infix_tokens, binary_tokens, written_at}
use Rattle.spec_numbers.proofs.Tests.{le_false, le_true, neither_is, true_le}
use Rattle.spec_numbers.proofs.Places.{none_is}

true_lt : (x m : ℕ) → nat_lt x m ≡ true → x < m
true_lt x m e = grind (arith, nat_tests)

both : (a b : Bool) → (a && b) ≡ true → (a ≡ true) × (b ≡ true)
both true true e = (refl, refl)
both true false e = cc
both false b e = cc

not_true : (a : Bool) → not a ≡ true → a ≡ false
not_true true e = cc
not_true false e = refl

or_true : (b : Bool) → (b || true) ≡ true
or_true true = refl
or_true false = refl

-- an operand's priority is at most the operator's
right_by : (p : ℕ) (k : OpKind) → right_most (record { priority = p; kind = k }) ≤ p
right_by p Xfx = omega arith
right_by p Xfy = omega arith
right_by p Yfx = omega arith
right_by p Fy = omega arith
right_by p Fx = omega arith
right_by p Xf = omega arith
right_by p Yf = omega arith

left_by : (p : ℕ) (k : OpKind) → left_most (record { priority = p; kind = k }) ≤ p
left_by p Xfx = omega arith
left_by p Xfy = omega arith
left_by p Yfx = omega arith
left_by p Fy = omega arith
left_by p Fx = omega arith
left_by p Xf = omega arith
left_by p Yf = omega arith

pub right_low : (op : OpDef) → right_most op ≤ op.priority
right_low op = right_by op.priority op.kind

pub left_low : (op : OpDef) → left_most op ≤ op.priority
left_low op = left_by op.priority op.kind

module _ (ops : Ops) where
  -- no term takes an operator of priority p or more before these tokens
  unfoldable pub Blocks : ℕ → List Token → Type 0
  Blocks p rest = (m l : ℕ) → m < p → Stops ops m l rest

  -- an atom is not applied to what follows
  abbrev pub IsUnapplied : Tree → List Token → Type 0
  IsUnapplied (Name f) rest = applied_as ops f rest ≡ None
  IsUnapplied (Var v) rest = Unit {0}
  IsUnapplied (Number q) rest = Unit {0}
  IsUnapplied (Compound f ts) rest = Unit {0}

  pub unapplied_name : (f : Text) (tok : Token) (rest : List Token) → begins_term ops tok ≡ false → applied_as ops f (tok ∷ rest) ≡ None
  unapplied_name f tok rest e = rw e refl

  pub unapplied_before : (t : Tree) (tok : Token) (rest : List Token) → begins_term ops tok ≡ false → IsUnapplied t (tok ∷ rest)
  unapplied_before (Name f) tok rest e = unapplied_name f tok rest e
  unapplied_before (Var v) tok rest e = tt
  unapplied_before (Number q) tok rest e = tt
  unapplied_before (Compound f ts) tok rest e = tt

  no_operator : (f : Text) → is_operator ops f ≡ false → (ops.prefix f ≡ None) × (ops.infixed f ≡ None)
  no_operator f e =
      let h = neither_is (is_some (ops.prefix f) || is_some (ops.infixed f)) _ e in
      let g = neither_is (is_some (ops.prefix f)) _ h.0 in
      (none_is _ g.0, none_is _ g.1)

  applied_none : (b : Bool) → ◌≡◌ {A = Option OpDef} (if b then None else None) None
  applied_none true = refl
  applied_none false = refl

  unapplied_other : (f : Text) (rest : List Token) → ops.prefix f ≡ None → applied_as ops f rest ≡ None
  unapplied_other f [] e = refl
  unapplied_other f (tok ∷ rest) e = rw e (applied_none (begins_term ops tok))

  -- an atom that is no operator is never applied
  pub unapplied : (t : Tree) (rest : List Token) → is_never_bare ops t ≡ false → IsUnapplied t rest
  unapplied (Name f) rest e = unapplied_other f rest (no_operator f e).0
  unapplied (Var v) rest e = tt
  unapplied (Number q) rest e = tt
  unapplied (Compound f ts) rest e = tt

  pub closers_block : (p : ℕ) (tok : Token) (rest : List Token) → operator_name tok ≡ None → Blocks p (tok ∷ rest)
  unfolding Blocks use_of
  closers_block p tok rest e m l h = rw e refl

  -- what a term does at an operator
  take_by : (m l : ℕ) (op : OpDef) → op.priority ≤ m → l ≤ left_most op → allowed m l (Some op) ≡ Some op
  take_by m l op h g = rw (le_true op.priority m h, le_true l (left_most op) g) refl

  leave_by : (m l : ℕ) (op : OpDef) → m < op.priority → allowed m l (Some op) ≡ None
  leave_by m l op h = rw (le_false op.priority m h) refl

  name_before_is : (f : Text) (right : List Token) → operator_name (name_before f right) ≡ Some f
  name_before_is f [] = refl
  name_before_is f (Open ∷ ts) = refl
  name_before_is f (Numeral q ∷ ts) = by (bytes_eq f (codes "-")) refl
    where
      by : (b : Bool) → bytes_eq f (codes "-") ≡ b → operator_name (if b then Minus else Named f (needs_quotes f)) ≡ Some f
      by true e = ap Some (sym ((bytes_decides f (codes "-")).0 e))
      by false e = refl
  name_before_is f (tok ∷ ts) = refl

  pub infix_token_is : (f : Text) (right : List Token) → operator_name (infix_token f right) ≡ Some f
  unfolding infix_token
  infix_token_is f right = by _ _ refl
    where
      by : (b c : Bool) → bytes_eq f (codes ",") ≡ b → operator_name (if b then Comma else if c then Named f (needs_quotes f) else name_before f right) ≡ Some f
      by true c e = ap Some (sym ((bytes_decides f (codes ",")).0 e))
      by false true e = refl
      by false false e = name_before_is f right

  module _ (are : IsTable ops) where
    pub infix_taken : (m l : ℕ) (f : Text) (tok : Token) (op : OpDef) → operator_name tok ≡ Some f → ops.infixed f ≡ Some op →
        op.priority ≤ m → l ≤ left_most op → use_of ops m l tok ≡ AsInfix f op
    unfolding use_of
    infix_taken m l f tok op n e h g = rw (n, e, take_by m l op h g) refl

    pub infix_left : (m l : ℕ) (f : Text) (tok : Token) (op : OpDef) → operator_name tok ≡ Some f → ops.infixed f ≡ Some op →
        m < op.priority → use_of ops m l tok ≡ Outside
    unfolding use_of
    infix_left m l f tok op n e h = rw (n, e, leave_by m l op h, are.not_both f op e) refl

    not_infixed : (f : Text) (op : OpDef) → ops.postfix f ≡ Some op → (o : Option OpDef) → ops.infixed f ≡ o → ops.infixed f ≡ None
    not_infixed f op e None i = i
    not_infixed f op e (Some other) i = let h : Some op ≡ None = sym e ∙ are.not_both f other i in cc

    pub postfix_taken : (m l : ℕ) (f : Text) (q : Bool) (op : OpDef) → ops.postfix f ≡ Some op → op.priority ≤ m → l ≤ left_most op → use_of ops m l (Named f q) ≡ AsPostfix f op
    unfolding use_of
    postfix_taken m l f q op e h g = rw (not_infixed f op e _ refl, e, take_by m l op h g) refl

    pub postfix_left : (m l : ℕ) (f : Text) (q : Bool) (op : OpDef) → ops.postfix f ≡ Some op → m < op.priority → use_of ops m l (Named f q) ≡ Outside
    unfolding use_of
    postfix_left m l f q op e h = rw (not_infixed f op e _ refl, e, leave_by m l op h) refl

    pub comma_blocks : (rest : List Token) → Blocks 1000 (Comma ∷ rest)
    unfolding Blocks
    comma_blocks rest m l h = infix_left m l (codes ",") Comma _ refl are.comma h

    -- ---- bounds of priorities

    IsLow : Option OpDef → Type 0
    IsLow o = (priority_of o ≤ 1200) × (right_end o ≤ priority_of o)

    low_by : (o : Option OpDef) → ((op : OpDef) → o ≡ Some op → op.priority ≤ 1200) → IsLow o
    unfolding IsLow
    low_by None h = (omega arith, omega arith)
    low_by (Some op) h = (h op refl, right_low op)

    unary_low : (f : Text) (b : Bool) (o p : Option OpDef) → ops.prefix f ≡ o → ops.postfix f ≡ p → (op : OpDef) → (if b then None else or_else o p) ≡ Some op → op.priority ≤ 1200
    unary_low f true o p e g op h = cc
    unary_low f false (Some q) p e g op h = (are.prefix f op (e ∙ h)).at_most
    unary_low f false None p e g op h = (are.postfix f op (g ∙ h)).at_most

    binary_low : (f : Text) (b : Bool) (o : Option OpDef) → ops.infixed f ≡ o → (op : OpDef) → (if b then None else o) ≡ Some op → op.priority ≤ 1200
    binary_low f true o e op h = cc
    binary_low f false o e op h = (are.infixed f op (e ∙ h)).at_most

    operator_low : (t : Tree) (op : OpDef) → operator_of ops t ≡ Some op → op.priority ≤ 1200
    operator_low (Var v) op h = cc
    operator_low (Number q) op h = cc
    operator_low (Name f) op h = cc
    operator_low (Compound f (one a)) op h = unary_low f (bytes_eq f (codes "{}")) _ _ refl refl op h
    operator_low (Compound f (more a (one b))) op h = binary_low f (bytes_eq f (codes ".")) _ refl op h
    operator_low (Compound f (more a (more b cs))) op h = cc

    pub fits : (t : Tree) → (priority ops t ≤ 1200) × (open_end ops t ≤ priority ops t)
    unfolding IsLow
    fits t = low_by (operator_of ops t) (operator_low t)

    -- ---- operands without parentheses

    pub bare_right : (most : ℕ) (a : Tree) → is_bare_right ops most a ≡ true → (priority ops a ≤ most) × (is_never_bare ops a ≡ false)
    unfolding is_bare_right
    bare_right most a e = let h = both _ _ e in (true_le (priority ops a) most h.0, not_true _ h.1)

    pub bare_left : (op : OpDef) (a : Tree) → is_bare_left ops op a ≡ true → (priority ops a ≤ left_most op) × (open_end ops a < op.priority) × (is_never_bare ops a ≡ false)
    unfolding is_bare_left
    bare_left op a e =
        let h = both _ _ e in
        let g = both (nat_le (priority ops a) (left_most op)) _ h.0 in
        (true_le (priority ops a) (left_most op) g.0, true_lt (open_end ops a) op.priority g.1, not_true _ h.1)

    pub bare_argument : (a : Tree) → is_bare_argument ops a ≡ true → priority ops a ≤ 999
    unfolding is_bare_argument
    bare_argument a e = true_le (priority ops a) 999 e

  -- ---- first tokens

  -- the first of these tokens begins a term
  abbrev pub begin : List Token → Bool
  begin [] = false
  begin (tok ∷ ts) = begins_term ops tok

  pub applied_there : (f : Text) (op : OpDef) (ts : List Token) → ops.prefix f ≡ Some op → begin ts ≡ true → applied_as ops f ts ≡ Some op
  applied_there f op [] e h = cc
  applied_there f op (tok ∷ ts) e h = rw h e

  pub begin_unless : (a : Tree) (b : Bool) (rest : List Token) → (b ≡ true → begin (written_at ops Alone a ++ rest) ≡ true) → begin (unless b (written_at ops Alone a) ++ rest) ≡ true
  unfolding begins_term
  begin_unless a true rest h = h refl
  begin_unless a false rest h = refl

  begin_name : (f : Text) (q : Bool) → may_begin ops f ≡ true → begins_term ops (Named f q) ≡ true
  unfolding begins_term
  begin_name f q e = rw e (or_true q)

  begin_number : (q : ℚ) (b : Bool) (rest : List Token) → b ≡ false → begin (number_tokens b q ++ rest) ≡ true
  unfolding begins_term
  begin_number q true rest e = cc
  begin_number q false rest e = refl

  begin_atom : (f : Text) (b : Bool) (rest : List Token) → is_operator ops f ≡ false → begin (name_tokens ops b Alone f ++ rest) ≡ true
  unfolding begins_term
  begin_atom f true rest e = refl
  begin_atom f false rest e = by (bytes_eq f (codes "{}"))
    where
      by : (b : Bool) → begin (atom_tokens b f ++ rest) ≡ true
      by true = refl
      by false = begin_name f (needs_quotes f) (rw (no_operator f e).1 refl)

  unfoldable pub Begins : Tree → Type 0
  Begins a = (rest : List Token) → is_never_bare ops a ≡ false → begin (written_at ops Alone a ++ rest) ≡ true

  begin_prefix : (f : Text) (op : OpDef) (a : Tree) (b : Bool) (rest : List Token) → ops.prefix f ≡ Some op → begin (prefix_tokens ops op b f a (written_at ops Alone a) ++ rest) ≡ true
  unfolding begins_term
  begin_prefix f op a true rest e = refl
  begin_prefix f op a false rest e = begin_name f (needs_quotes f) (rw e (or_true _))

  bare_left_never : (op : OpDef) (a : Tree) → is_bare_left ops op a ≡ true → is_never_bare ops a ≡ false
  unfolding is_bare_left
  bare_left_never op a e = not_true _ (both _ _ e).1

  begin_operand : (f : Text) (a : Tree) (o p : Option OpDef) (rest : List Token) → ops.prefix f ≡ o → Begins a → begin (operand_tokens ops o p f a (written_at ops Alone a) ++ rest) ≡ true
  unfolding begins_term Begins
  begin_operand f a (Some op) p rest e ih = begin_prefix f op a (is_signed f a) rest e
  begin_operand f a None (Some op) rest e ih = rw append_assoc (begin_unless a (is_bare_left ops op a) _ (λ bare. ih _ (bare_left_never op a bare)))
  begin_operand f a None None rest e ih = refl

  begin_unary : (f : Text) (a : Tree) (b : Bool) (rest : List Token) → Begins a → begin (unary_tokens ops b f a (written_at ops Alone a) ++ rest) ≡ true
  unfolding begins_term
  begin_unary f a true rest ih = refl
  begin_unary f a false rest ih = begin_operand f a _ (ops.postfix f) rest refl ih

  begin_infix : (f : Text) (a b : Tree) (o : Option OpDef) (rest : List Token) → Begins a → begin (infix_tokens ops o f a b (written_at ops Alone a) (written_at ops Alone b) ++ rest) ≡ true
  unfolding begins_term Begins
  begin_infix f a b (Some op) rest ih = rw append_assoc (begin_unless a (is_bare_left ops op a) _ (λ bare. ih _ (bare_left_never op a bare)))
  begin_infix f a b None rest ih = refl

  begin_binary : (f : Text) (a b : Tree) (d : Bool) (rest : List Token) → Begins a →
      begin (binary_tokens ops d Alone f a b (written_at ops Alone a) (written_at ops Alone b) (written_at ops InList b) ++ rest) ≡ true
  unfolding begins_term
  begin_binary f a b true rest ih = refl
  begin_binary f a b false rest ih = begin_infix f a b (ops.infixed f) rest ih

  -- an operand that may stand bare begins a term
  pub begin_written : (t : Tree) → Begins t
  unfolding written_at begins_term Begins
  begin_written (Var v) rest e = refl
  begin_written (Number q) rest e = begin_number q (is_negative q) rest e
  begin_written (Name f) rest e = begin_atom f (bytes_eq f (codes "[]")) rest e
  begin_written (Compound f (one a)) rest e = begin_unary f a (bytes_eq f (codes "{}")) rest (begin_written a)
  begin_written (Compound f (more a (one b))) rest e = begin_binary f a b (bytes_eq f (codes ".")) rest (begin_written a)
  begin_written (Compound f (more a (more b cs))) rest e = refl
