-- What is written of a term is read as that term: the induction.
use Rattle.std.proofs.Common.{◌≡◌, ℕ, suc, ◌≤◌, ◌<◌, Bool, true, false, List, [], ◌∷◌, ◌++◌, codes, Option, Some, None, refl, sym, subst, arith, append_assoc}
use Rattle.std.specs.Prelude.{if◌then◌else◌, bytes_eq}
use Rattle.std.specs.Cmp.Lexicographic.{bytes_decides}
use Rattle.spec_numbers.specs.Rational.{ℚ, neg_ℚ}
use Rattle.spec_numbers.proofs.Ring.{var, minus}
use Rattle.spec_numbers.proofs.RationalLemmas.{ring}
use Rattle.spec_syntax.specs.declared.operators.OpDef.{OpDef}
use Rattle.spec_numbers.specs.Texts.{Text}
use Rattle.spec_syntax.specs.Operators.{Ops, left_most, right_most}
use Rattle.spec_terms.specs.Term.{Terms, Var, Number, Name, Compound, one, more}
use Rattle.spec_syntax.specs.Tokens.{Token, Variable, Numeral, Named, Minus, Close, OpenList, CloseList, OpenCurly, CloseCurly, Comma, Bar, End}
use Rattle.spec_syntax.specs.Trees.{Tree, cell}
use Rattle.spec_syntax.specs.Grammar.{operator_name, begins_term, IsTerm, term, IsOperand, variable, numeral, negative, compound, atom, applied, group, empty_list, listed, empty_curly, curly, IsAfter, stop, infixed, postfixed, AreArguments, last, next, AreElements, final, further, tailed, Parses}
use Rattle.spec_syntax.specs.Writing.{IsTable, or_else, binary_operator, priority_of, right_end, priority, open_end, is_negative, is_bare_right, is_bare_left, is_bare_argument, unless, as_argument, needs_quotes, infix_token, Alone, InList, placed, number_tokens, nil_tokens, atom_tokens, name_tokens, functional, is_signed, prefix_tokens, operand_tokens, unary_tokens, infix_tokens, binary_tokens, written_at, arguments_written, written}
use Rattle.spec_syntax.proofs.Written.{left_low, Blocks, IsUnapplied, unapplied_before, unapplied, closers_block, infix_token_is, infix_taken, infix_left, postfix_taken, postfix_left, comma_blocks, fits, bare_right, bare_left, bare_argument, applied_there, begin_unless, begin_written, Begins}

twice_negated : (q : ℚ) → neg_ℚ (neg_ℚ q) ≡ q
twice_negated q = ring (q ∷ []) (minus (minus (var 0))) (var 0) refl

module _ (ops : Ops) (are : IsTable ops) where
  -- What is read where these tokens of a term stand: the term, and then what comes behind an operand of its priority or less.
  WrittenAs : Tree → List Token → Type 0
  WrittenAs t ts = (m p : ℕ) (rest left : List Token) (u : Tree) → priority ops t ≤ m → Blocks ops p rest → open_end ops t < p → IsUnapplied ops t rest →
      ((l : ℕ) → l ≤ priority ops t → IsAfter ops m l t rest left u) → IsTerm ops m (ts ++ rest) left u

  Written : Tree → Type 0
  Written t = WrittenAs t (written_at ops Alone t)

  -- What is read where these tokens stand for a tail, behind an element.
  TailAs : Tree → List Token → Type 0
  TailAs t ts = (a : Tree) → Written a → (rest : List Token) → AreElements ops (as_argument ops a (written_at ops Alone a) ++ (ts ++ rest)) rest (cell a t)

  -- ---- operands

  -- a term before a token that is no operator and begins no term
  closed_written : (a : Tree) (ts : List Token) → WrittenAs a ts → (m : ℕ) (tok : Token) (rest : List Token) → priority ops a ≤ m → operator_name tok ≡ None → begins_term ops tok ≡ false →
      IsTerm ops m (ts ++ tok ∷ rest) (tok ∷ rest) a
  unfolding WrittenAs Blocks
  closed_written a ts w m tok rest low no_operator no_beginning =
      let blocked = closers_block ops 1201 tok rest no_operator in
      w m 1201 (tok ∷ rest) (tok ∷ rest) a low blocked (omega (arith, fits ops are a)) (unapplied_before ops a tok rest no_beginning)
      (λ l h. stop (closers_block ops (suc m) tok rest no_operator m l (omega arith)))

  -- a term in parentheses, or not
  operand_written : (a : Tree) (ts : List Token) → WrittenAs a ts → (bare : Bool) (m p most : ℕ) (rest left : List Token) (u : Tree) →
      (bare ≡ true → (priority ops a ≤ m) × (priority ops a ≤ most) × (open_end ops a < p) × IsUnapplied ops a rest) → Blocks ops p rest →
      ((l : ℕ) → l ≤ most → IsAfter ops m l a rest left u) → IsTerm ops m (unless bare ts ++ rest) left u
  unfolding WrittenAs begins_term
  operand_written a ts w true m p most rest left u h blocked after =
      w m p rest left u (h refl).0 blocked (h refl).2 (h refl).3 (λ l low. after l (omega (arith, low, (h refl).1)))
  operand_written a ts w false m p most rest left u h blocked after =
      rw append_assoc (term (group (closed_written a ts w 1200 Close rest (fits ops are a).0 refl refl)) (after 0 (omega arith)))

  -- a right operand, and nothing behind it
  right_written : (a : Tree) → Written a → (most p : ℕ) (rest : List Token) → most < p → Blocks ops p rest →
      IsTerm ops most (unless (is_bare_right ops most a) (written_at ops Alone a) ++ rest) rest a
  unfolding Blocks Written
  right_written a w most p rest h blocked =
      operand_written a (written_at ops Alone a) w (is_bare_right ops most a) most p most rest rest a
      (λ bare. let g = bare_right ops are most a bare in (g.0, g.0, omega (arith, fits ops are a, g.0, h), unapplied ops a rest g.1)) blocked (λ l low. stop (blocked most l h))

  argument_before : (a : Tree) (ts : List Token) → WrittenAs a ts → (tok : Token) (rest : List Token) → Blocks ops 1000 (tok ∷ rest) → begins_term ops tok ≡ false →
      IsTerm ops 999 (as_argument ops a ts ++ tok ∷ rest) (tok ∷ rest) a
  unfolding Blocks
  argument_before a ts w tok rest blocked no_beginning =
      operand_written a ts w (is_bare_argument ops a) 999 1000 999 (tok ∷ rest) (tok ∷ rest) a
      (λ bare. let g = bare_argument ops are a bare in (g, g, omega (arith, fits ops are a, g), unapplied_before ops a tok rest no_beginning)) blocked (λ l low. stop (blocked 999 l (omega arith)))

  -- ---- arguments

  last_written : (a : Tree) → Written a → (rest : List Token) → AreArguments ops (as_argument ops a (written_at ops Alone a) ++ Close ∷ rest) rest (one a)
  unfolding begins_term Written
  last_written a w rest = last (argument_before a (written_at ops Alone a) w Close rest (closers_block ops 1000 Close rest refl) refl)

  next_written : (a : Tree) (as1 : Terms Text) (ts rest : List Token) → Written a → AreArguments ops ts rest as1 →
      AreArguments ops (as_argument ops a (written_at ops Alone a) ++ Comma ∷ ts) rest (more a as1)
  unfolding begins_term Written
  next_written a as1 ts rest w those = next (argument_before a (written_at ops Alone a) w Comma ts (comma_blocks ops are ts) refl) those

  -- ---- atoms and numbers

  variable_as : (v : ℕ) → WrittenAs (Var v) (Variable v ∷ [])
  unfolding WrittenAs
  variable_as v m p rest left u low blocked below ok after = term variable (after 0 (omega arith))

  number_as : (q : ℚ) (b : Bool) → WrittenAs (Number q) (number_tokens b q)
  unfolding WrittenAs
  number_as q false m p rest left u low blocked below ok after = term numeral (after 0 (omega arith))
  number_as q true m p rest left u low blocked below ok after =
      term (subst (λ r. IsOperand ops m (Minus ∷ Numeral (neg_ℚ q) ∷ rest) rest 0 (Number r)) (twice_negated q) negative) (after 0 (omega arith))

  atom_as : (f : Text) (b : Bool) → bytes_eq f (codes "{}") ≡ b → WrittenAs (Name f) (atom_tokens b f)
  unfolding WrittenAs
  atom_as f true e m p rest left u low blocked below ok after =
      term (subst (λ g. IsOperand ops m (OpenCurly ∷ CloseCurly ∷ rest) rest 0 (Name g)) (sym ((bytes_decides f (codes "{}")).0 e)) empty_curly) (after 0 (omega arith))
  atom_as f false e m p rest left u low blocked below ok after = term (atom ok) (after 0 (omega arith))

  nil_as : (f : Text) → bytes_eq f (codes "[]") ≡ true → WrittenAs (Name f) (nil_tokens Alone)
  unfolding WrittenAs
  nil_as f e m p rest left u low blocked below ok after =
      term (subst (λ g. IsOperand ops m (OpenList ∷ CloseList ∷ rest) rest 0 (Name g)) (sym ((bytes_decides f (codes "[]")).0 e)) empty_list) (after 0 (omega arith))

  -- ---- operators

  functional_as : (f : Text) (a : Tree) (ts rest : List Token) (m : ℕ) → IsTerm ops 999 (ts ++ Close ∷ rest) (Close ∷ rest) a → IsOperand ops m (functional f ts ++ rest) rest 0 (Compound f (one a))
  functional_as f a ts rest m one_argument = rw append_assoc (compound (last one_argument))

  signed_low : (f : Text) (a : Tree) → is_signed f a ≡ true → priority ops a ≤ 999
  signed_low f (Number q) e = omega arith
  signed_low f (Var v) e = cc
  signed_low f (Name g) e = cc
  signed_low f (Compound g ts) e = cc

  prefix_as : (f : Text) (a : Tree) (op : OpDef) (b : Bool) → is_signed f a ≡ b → ops.prefix f ≡ Some op → Written a → (m p : ℕ) (rest left : List Token) (u : Tree) →
      op.priority ≤ m → Blocks ops p rest → right_most op < p → ((l : ℕ) → l ≤ op.priority → IsAfter ops m l (Compound f (one a)) rest left u) →
      IsTerm ops m (prefix_tokens ops op b f a (written_at ops Alone a) ++ rest) left u
  unfolding Written begins_term Begins
  prefix_as f a op true s e w m p rest left u low blocked below after =
      term (functional_as f a (written_at ops Alone a) rest m (closed_written a (written_at ops Alone a) w 999 Close rest (signed_low f a s) refl refl)) (after 0 (omega arith))
  prefix_as f a op false s e w m p rest left u low blocked below after =
      let bare = is_bare_right ops (right_most op) a in
      let begins = begin_unless ops a bare rest (λ h. begin_written ops a rest (bare_right ops are (right_most op) a h).1) in
      term (applied (applied_there ops f op (unless bare (written_at ops Alone a) ++ rest) e begins) low refl (right_written a w (right_most op) p rest below blocked)) (after op.priority (omega arith))

  operand_as : (f : Text) (a : Tree) (o q : Option OpDef) → ops.prefix f ≡ o → ops.postfix f ≡ q → Written a → (m p : ℕ) (rest left : List Token) (u : Tree) →
      priority_of (or_else o q) ≤ m → Blocks ops p rest → right_end (or_else o q) < p → ((l : ℕ) → l ≤ priority_of (or_else o q) → IsAfter ops m l (Compound f (one a)) rest left u) →
      IsTerm ops m (operand_tokens ops o q f a (written_at ops Alone a) ++ rest) left u
  unfolding Blocks Written
  operand_as f a (Some op) q e g w m p rest left u low blocked below after = prefix_as f a op _ refl e w m p rest left u low blocked below after
  operand_as f a None (Some op) e g w m p rest left u low blocked below after =
      rw append_assoc (operand_written a (written_at ops Alone a) w (is_bare_left ops op a) m op.priority (left_most op) (Named f (needs_quotes f) ∷ rest) left u
      (λ bare. let k = bare_left ops are op a bare in (omega (arith, k.0, left_low op, low), k.0, k.1, unapplied ops a _ k.2))
      (λ n l less. postfix_left ops are n l f (needs_quotes f) op g less)
      (λ l most. postfixed (postfix_taken ops are m l f (needs_quotes f) op g low most) (after op.priority (omega arith))))
  operand_as f a None None e g w m p rest left u low blocked below after =
      rw append_assoc (term (compound (last_written a w rest)) (after 0 (omega arith)))

  unary_as : (f : Text) (a : Tree) (b : Bool) → bytes_eq f (codes "{}") ≡ b → Written a → (m p : ℕ) (rest left : List Token) (u : Tree) →
      priority_of (if b then None else or_else (ops.prefix f) (ops.postfix f)) ≤ m → Blocks ops p rest → right_end (if b then None else or_else (ops.prefix f) (ops.postfix f)) < p →
      ((l : ℕ) → l ≤ priority_of (if b then None else or_else (ops.prefix f) (ops.postfix f)) → IsAfter ops m l (Compound f (one a)) rest left u) →
      IsTerm ops m (unary_tokens ops b f a (written_at ops Alone a) ++ rest) left u
  unfolding Written begins_term
  unary_as f a true e w m p rest left u low blocked below after =
      rw append_assoc (term (subst (λ g. IsOperand ops m (OpenCurly ∷ written_at ops Alone a ++ CloseCurly ∷ rest) rest 0 (Compound g (one a))) (sym ((bytes_decides f (codes "{}")).0 e))
      (curly (closed_written a (written_at ops Alone a) w 1200 CloseCurly rest (fits ops are a).0 refl refl))) (after 0 (omega arith)))
  unary_as f a false e w m p rest left u low blocked below after = operand_as f a _ _ refl refl w m p rest left u low blocked below after

  infix_as : (f : Text) (a b : Tree) (o : Option OpDef) → ops.infixed f ≡ o → Written a → Written b → (m p : ℕ) (rest left : List Token) (u : Tree) →
      priority_of o ≤ m → Blocks ops p rest → right_end o < p → ((l : ℕ) → l ≤ priority_of o → IsAfter ops m l (Compound f (more a (one b))) rest left u) →
      IsTerm ops m (infix_tokens ops o f a b (written_at ops Alone a) (written_at ops Alone b) ++ rest) left u
  unfolding Blocks Written
  infix_as f a b (Some op) e wa wb m p rest left u low blocked below after =
      let right = unless (is_bare_right ops (right_most op) b) (written_at ops Alone b) in
      let name = infix_token_is ops f right in
      rw append_assoc (operand_written a (written_at ops Alone a) wa (is_bare_left ops op a) m op.priority (left_most op) (infix_token f right ∷ right ++ rest) left u
      (λ bare. let k = bare_left ops are op a bare in (omega (arith, k.0, left_low op, low), k.0, k.1, unapplied ops a _ k.2))
      (λ n l less. infix_left ops are n l f (infix_token f right) op name e less)
      (λ l most. infixed (infix_taken ops are m l f (infix_token f right) op name e low most) (right_written b wb (right_most op) p rest below blocked) (after op.priority (omega arith))))
  infix_as f a b None e wa wb m p rest left u low blocked below after =
      simp append_assoc (term (compound (next_written a (one b) _ rest wa (last_written b wb rest))) (after 0 (omega arith)))

  -- ---- lists

  -- a tail that is no list
  other_tail : (t : Tree) (ts : List Token) → WrittenAs t ts → TailAs t (placed ops InList t ts)
  unfolding TailAs begins_term Written
  other_tail t ts w a wa rest =
      let blocked = closers_block ops 1000 Bar (as_argument ops t ts ++ CloseList ∷ rest) refl in
      let e : as_argument ops t ts ++ CloseList ∷ rest ≡ (as_argument ops t ts ++ CloseList ∷ []) ++ rest = sym (append_assoc (as_argument ops t ts) (CloseList ∷ []) rest) in
      subst (λ x. AreElements ops (as_argument ops a (written_at ops Alone a) ++ Bar ∷ x) rest (cell a t)) e
      (tailed (argument_before a (written_at ops Alone a) wa Bar _ blocked refl) (argument_before t ts w CloseList rest (closers_block ops 1000 CloseList rest refl) refl))

  nil_tail : (f : Text) → bytes_eq f (codes "[]") ≡ true → TailAs (Name f) (nil_tokens InList)
  unfolding TailAs begins_term Written
  nil_tail f e a wa rest = subst (λ g. AreElements ops (as_argument ops a (written_at ops Alone a) ++ CloseList ∷ rest) rest (cell a (Name g))) (sym ((bytes_decides f (codes "[]")).0 e))
      (final (argument_before a (written_at ops Alone a) wa CloseList rest (closers_block ops 1000 CloseList rest refl) refl))

  cell_as : (f : Text) (a b : Tree) → bytes_eq f (codes ".") ≡ true → Written a → TailAs b (written_at ops InList b) →
      WrittenAs (Compound f (more a (one b))) (OpenList ∷ as_argument ops a (written_at ops Alone a) ++ written_at ops InList b)
  unfolding WrittenAs TailAs
  cell_as f a b e wa tb m p rest left u low blocked below ok after =
      rw append_assoc (term (subst (λ g. IsOperand ops m (OpenList ∷ as_argument ops a (written_at ops Alone a) ++ (written_at ops InList b ++ rest)) rest 0 (Compound g (more a (one b))))
      (sym ((bytes_decides f (codes ".")).0 e)) (listed (tb a wa rest))) (after 0 (omega arith)))

  cell_tail : (f : Text) (a b : Tree) → bytes_eq f (codes ".") ≡ true → Written a → TailAs b (written_at ops InList b) →
      TailAs (Compound f (more a (one b))) (Comma ∷ as_argument ops a (written_at ops Alone a) ++ written_at ops InList b)
  unfolding TailAs begins_term Written
  cell_tail f a b e wa tb h wh rest =
      let more_elements = subst (λ g. AreElements ops (as_argument ops a (written_at ops Alone a) ++ (written_at ops InList b ++ rest)) rest (Compound g (more a (one b)))) (sym ((bytes_decides f (codes ".")).0 e)) (tb a wa rest) in
      let es = append_assoc (as_argument ops a (written_at ops Alone a)) (written_at ops InList b) rest in
      subst (λ x. AreElements ops (as_argument ops h (written_at ops Alone h) ++ Comma ∷ x) rest (cell h (Compound f (more a (one b))))) (sym es)
      (further (argument_before h (written_at ops Alone h) wh Comma _ (comma_blocks ops are _) refl) more_elements)

  -- ---- terms

  Both : Tree → List Token → List Token → Type 0
  Both t ts us = WrittenAs t ts × TailAs t us

  atom_both : (f : Text) (b : Bool) → bytes_eq f (codes "[]") ≡ b → Both (Name f) (name_tokens ops b Alone f) (name_tokens ops b InList f)
  unfolding Both
  atom_both f true e = (nil_as f e, nil_tail f e)
  atom_both f false e = let w = atom_as f _ refl in (w, other_tail (Name f) _ w)

  no_cell : (f : Text) → bytes_eq f (codes ".") ≡ false → binary_operator ops f ≡ ops.infixed f
  no_cell f e = rw e refl

  infix_both : (f : Text) (a b : Tree) → Written a → Written b → bytes_eq f (codes ".") ≡ false →
      WrittenAs (Compound f (more a (one b))) (infix_tokens ops (ops.infixed f) f a b (written_at ops Alone a) (written_at ops Alone b))
  unfolding WrittenAs
  infix_both f a b wa wb e m p rest left u low blocked below ok after =
      let is = no_cell f e in
      infix_as f a b _ refl wa wb m p rest left u (subst (λ o. priority_of o ≤ m) is low) blocked (subst (λ o. right_end o < p) is below)
      (λ l h. after l (subst (λ o. l ≤ priority_of o) (sym is) h))

  binary_both : (f : Text) (a b : Tree) (d : Bool) → bytes_eq f (codes ".") ≡ d → Written a → Written b → TailAs b (written_at ops InList b) →
      Both (Compound f (more a (one b))) (binary_tokens ops d Alone f a b (written_at ops Alone a) (written_at ops Alone b) (written_at ops InList b))
      (binary_tokens ops d InList f a b (written_at ops Alone a) (written_at ops Alone b) (written_at ops InList b))
  unfolding Both
  binary_both f a b true e wa wb tb = (cell_as f a b e wa tb, cell_tail f a b e wa tb)
  binary_both f a b false e wa wb tb = let w = infix_both f a b wa wb e in (w, other_tail (Compound f (more a (one b))) _ w)

  unary_both : (f : Text) (a : Tree) → Written a → WrittenAs (Compound f (one a)) (unary_tokens ops (bytes_eq f (codes "{}")) f a (written_at ops Alone a))
  unfolding WrittenAs
  unary_both f a wa m p rest left u low blocked below ok after = unary_as f a _ refl wa m p rest left u low blocked below after

  functional_both : (f : Text) (a b : Tree) (cs : Terms Text) → Written a → ((rest : List Token) → AreArguments ops (arguments_written ops (more b cs) ++ Close ∷ rest) rest (more b cs)) →
      WrittenAs (Compound f (more a (more b cs))) (functional f (as_argument ops a (written_at ops Alone a) ++ Comma ∷ arguments_written ops (more b cs)))
  unfolding WrittenAs
  functional_both f a b cs wa those m p rest left u low blocked below ok after =
      simp append_assoc (term (compound (next_written a (more b cs) _ rest wa (those rest))) (after 0 (omega arith)))

  mutual
    unfolding Both Written written_at

    both : (t : Tree) → Both t (written_at ops Alone t) (written_at ops InList t)
    both (Var v) = let w = variable_as v in (w, other_tail (Var v) _ w)
    both (Number q) = let w = number_as q (is_negative q) in (w, other_tail (Number q) _ w)
    both (Name f) = atom_both f _ refl
    both (Compound f (one a)) = let w = unary_both f a (both a).0 in (w, other_tail (Compound f (one a)) _ w)
    both (Compound f (more a (one b))) = binary_both f a b _ refl (both a).0 (both b).0 (both b).1
    both (Compound f (more a (more b cs))) = let w = functional_both f a b cs (both a).0 (all_written (more b cs)) in (w, other_tail (Compound f (more a (more b cs))) _ w)

    all_written : (as1 : Terms Text) (rest : List Token) → AreArguments ops (arguments_written ops as1 ++ Close ∷ rest) rest as1
    all_written (one a) rest = last_written a (both a).0 rest
    all_written (more a as1) rest = rw append_assoc (next_written a as1 _ rest (both a).0 (all_written as1 rest))

  -- what is written of a term is read as that term
  pub round_trip : (t : Tree) → Parses ops (written ops t ++ End ∷ []) t
  unfolding Both begins_term
  round_trip t = closed_written t (written_at ops Alone t) (both t).0 1200 End [] (fits ops are t).0 refl refl
