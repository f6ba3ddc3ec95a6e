-- Each step behind an operand keeps what the grammar allows.
use Rattle.std.proofs.Common.{◌≡◌, ℕ, ◌≤◌, false, List, [], ◌∷◌, codes, inl, inr, refl, sym, ap, subst, arith, nat_le}
use Rattle.spec_numbers.specs.Texts.{Text}
use Rattle.spec_syntax.specs.Operators.{Ops}
use Rattle.spec_terms.specs.Term.{Terms, Compound, one, more}
use Rattle.spec_syntax.specs.Tokens.{Token, Close, CloseList, CloseCurly, Comma, Bar, End}
use Rattle.spec_syntax.specs.Trees.{Tree, unary, binary, nil, cell}
use Rattle.spec_syntax.specs.Grammar.{Use, AsInfix, AsPostfix, Outside, use_of, IsTerm, IsAfter, stop, infixed, postfixed, AreArguments, last, next, AreElements, final, further, tailed}
use Rattle.spec_syntax.specs.Machine.{Frame, RightOf, OperandOf, InGroup, InCurly, InArguments, InElements, InTail, BeforeTerm, with_arguments_before, with_elements_before, end_clause, end_group, end_curly, end_argument, end_element, end_tail, after_operand}
use Rattle.spec_syntax.specs.Yields.{Then, Fills, Yields, YieldsFrom}
use Rattle.std.proofs.lemmas.Bool.Decides.{nat_tests}

pub tail_is : {x y : Token} {xs ys : List Token} → x ∷ xs ≡ y ∷ ys → xs ≡ ys
tail_is e = cc

pub not_low : (x m : ℕ) → nat_le x m ≡ false → x ≤ m → ⊥
not_low x m e low = grind (arith, nat_tests)

module _ (ops : Ops) where
  -- what is known of a step behind an operand, from what is known where term(m) ends there
  by_use : (k : List Frame) (m l : ℕ) (a : Tree) (tok : Token) (ts : List Token) (t : Tree) →
      (Fills ops k a (tok ∷ ts) t → YieldsFrom ops (after_operand ops k m a tok Outside) ts t) →
      (rest : List Token) (c : Tree) → IsAfter ops m l a (tok ∷ ts) rest c → Fills ops k c rest t → YieldsFrom ops (after_operand ops k m a tok (use_of ops m l tok)) ts t
  by_use k m l a tok ts t ends rest c (stop s) fills = rw s (ends fills)
  by_use k m l a tok ts t ends rest c (infixed {mid = mid} {b = b} e rhs after) fills = rw e (mid, b, rhs, (rest, c, after, fills))
  by_use k m l a tok ts t ends rest c (postfixed e after) fills = rw e (rest, c, after, fills)

  back_by : (k : List Frame) (m l : ℕ) (a : Tree) (tok : Token) (ts : List Token) (t : Tree) →
      (YieldsFrom ops (after_operand ops k m a tok Outside) ts t → Fills ops k a (tok ∷ ts) t) →
      (u : Use) → use_of ops m l tok ≡ u → YieldsFrom ops (after_operand ops k m a tok u) ts t → Then ops (Fills ops k) m l a (tok ∷ ts) t
  back_by k m l a tok ts t ends (AsInfix f op) e (mid, b, rhs, (rest, c, after, fills)) = (rest, c, infixed e rhs after, fills)
  back_by k m l a tok ts t ends (AsPostfix f op) e (rest, c, after, fills) = (rest, c, postfixed e after, fills)
  back_by k m l a tok ts t ends Outside e given = (tok ∷ ts, a, stop e, ends given)

  ends_all : (a : Tree) (tok : Token) (ts : List Token) (t : Tree) → Fills ops [] a (tok ∷ ts) t → YieldsFrom ops (end_clause ops a tok) ts t
  ends_all a End ts t (e, r) = (cc, r)
  ends_all a tok ts t (e, r) = cc

  moved : {x y : Token} {xs ys : List Token} (P : List Token → Type 0) → x ∷ xs ≡ y ∷ ys → P ys → P xs
  moved P e p = subst P (sym (tail_is e)) p

  ends_group : (m : ℕ) (a : Tree) (k : List Frame) (tok : Token) (ts : List Token) (t : Tree) → Fills ops (InGroup m ∷ k) a (tok ∷ ts) t → YieldsFrom ops (end_group ops m a k tok) ts t
  ends_group m a k Close ts t (us, e, r) = moved (λ x. Then ops (Fills ops k) m 0 a x t) e r
  ends_group m a k tok ts t (us, e, r) = cc

  ends_curly : (m : ℕ) (a : Tree) (k : List Frame) (tok : Token) (ts : List Token) (t : Tree) → Fills ops (InCurly m ∷ k) a (tok ∷ ts) t → YieldsFrom ops (end_curly ops m a k tok) ts t
  ends_curly m a k CloseCurly ts t (us, e, r) = moved (λ x. Then ops (Fills ops k) m 0 (unary (codes "{}") a) x t) e r
  ends_curly m a k tok ts t (us, e, r) = cc

  ends_tail : (before : List Tree) (m : ℕ) (a : Tree) (k : List Frame) (tok : Token) (ts : List Token) (t : Tree) → Fills ops (InTail before m ∷ k) a (tok ∷ ts) t → YieldsFrom ops (end_tail ops before m a k tok) ts t
  ends_tail before m a k CloseList ts t (us, e, r) = moved (λ x. Then ops (Fills ops k) m 0 (with_elements_before before a) x t) e r
  ends_tail before m a k tok ts t (us, e, r) = cc

  -- the arguments that are still to come, behind those that are there
  pub arguments_to : (f : Text) (m : ℕ) (k : List Frame) (before : List Tree) (ts : List Token) (t : Tree) (mid : List Token) (args : Terms Text) → AreArguments ops ts mid args →
      Then ops (Fills ops k) m 0 (Compound f (with_arguments_before before args)) mid t → Yields ops (BeforeTerm 999 (InArguments f before m ∷ k)) ts t
  arguments_to f m k before ts t mid args (last {a = a} head) then = (Close ∷ mid, a, head, inl (mid, refl, then))
  arguments_to f m k before ts t mid args (next {mid = m2} {a = a} {args = others} head rest) then = (Comma ∷ m2, a, head, inr (m2, mid, others, refl, rest, then))

  pub arguments_back : (f : Text) (m : ℕ) (k : List Frame) (before : List Tree) (ts : List Token) (t : Tree) → Yields ops (BeforeTerm 999 (InArguments f before m ∷ k)) ts t →
      (mid : List Token) × (args : Terms Text) × AreArguments ops ts mid args × Then ops (Fills ops k) m 0 (Compound f (with_arguments_before before args)) mid t
  arguments_back f m k before ts t (rest, a, head, inl (us, e, then)) = (us, one a, last (subst (λ x. IsTerm ops 999 ts x a) e head), then)
  arguments_back f m k before ts t (rest, a, head, inr (us, mid, args, e, others, then)) = (mid, more a args, next (subst (λ x. IsTerm ops 999 ts x a) e head) others, then)

  pub elements_to : (m : ℕ) (k : List Frame) (before : List Tree) (ts : List Token) (t : Tree) (mid : List Token) (u : Tree) → AreElements ops ts mid u →
      Then ops (Fills ops k) m 0 (with_elements_before before u) mid t → Yields ops (BeforeTerm 999 (InElements before m ∷ k)) ts t
  elements_to m k before ts t mid u (final {a = a} head) then = (CloseList ∷ mid, a, head, inl (mid, refl, then))
  elements_to m k before ts t mid u (further {mid = m2} {a = a} {t = v} head rest) then = (Comma ∷ m2, a, head, inr (inl (m2, mid, v, refl, rest, then)))
  elements_to m k before ts t mid u (tailed {mid = m2} {a = a} {t = v} head rest) then = (Bar ∷ m2, a, head, inr (inr (m2, mid, v, refl, rest, then)))

  pub elements_back : (m : ℕ) (k : List Frame) (before : List Tree) (ts : List Token) (t : Tree) → Yields ops (BeforeTerm 999 (InElements before m ∷ k)) ts t →
      (mid : List Token) × (u : Tree) × AreElements ops ts mid u × Then ops (Fills ops k) m 0 (with_elements_before before u) mid t
  elements_back m k before ts t (rest, a, head, inl (us, e, then)) = (us, cell a nil, final (subst (λ x. IsTerm ops 999 ts x a) e head), then)
  elements_back m k before ts t (rest, a, head, inr (inl (us, mid, u, e, others, then))) = (mid, cell a u, further (subst (λ x. IsTerm ops 999 ts x a) e head) others, then)
  elements_back m k before ts t (rest, a, head, inr (inr (us, mid, u, e, others, then))) = (mid, cell a u, tailed (subst (λ x. IsTerm ops 999 ts x a) e head) others, then)

  ends_argument : (f : Text) (before : List Tree) (m : ℕ) (a : Tree) (k : List Frame) (tok : Token) (ts : List Token) (t : Tree) →
      Fills ops (InArguments f before m ∷ k) a (tok ∷ ts) t → YieldsFrom ops (end_argument ops f before m a k tok) ts t
  ends_argument f before m a k Close ts t (inl (us, e, r)) = moved (λ x. Then ops (Fills ops k) m 0 (Compound f (with_arguments_before before (one a))) x t) e r
  ends_argument f before m a k Close ts t (inr (us, mid, args, e, r, then)) = cc
  ends_argument f before m a k Comma ts t (inl (us, e, r)) = cc
  ends_argument f before m a k Comma ts t (inr (us, mid, args, e, r, then)) = arguments_to f m k (a ∷ before) ts t mid args (moved (λ x. AreArguments ops x mid args) e r) then
  ends_argument f before m a k tok ts t (inl (us, e, r)) = cc
  ends_argument f before m a k tok ts t (inr (us, mid, args, e, r, then)) = cc

  ends_element : (before : List Tree) (m : ℕ) (a : Tree) (k : List Frame) (tok : Token) (ts : List Token) (t : Tree) →
      Fills ops (InElements before m ∷ k) a (tok ∷ ts) t → YieldsFrom ops (end_element ops before m a k tok) ts t
  ends_element before m a k CloseList ts t (inl (us, e, r)) = moved (λ x. Then ops (Fills ops k) m 0 (with_elements_before before (cell a nil)) x t) e r
  ends_element before m a k CloseList ts t (inr (inl (us, mid, u, e, r, then))) = cc
  ends_element before m a k CloseList ts t (inr (inr (us, mid, u, e, r, then))) = cc
  ends_element before m a k Comma ts t (inl (us, e, r)) = cc
  ends_element before m a k Comma ts t (inr (inl (us, mid, u, e, r, then))) = elements_to m k (a ∷ before) ts t mid u (moved (λ x. AreElements ops x mid u) e r) then
  ends_element before m a k Comma ts t (inr (inr (us, mid, u, e, r, then))) = cc
  ends_element before m a k Bar ts t (inl (us, e, r)) = cc
  ends_element before m a k Bar ts t (inr (inl (us, mid, u, e, r, then))) = cc
  ends_element before m a k Bar ts t (inr (inr (us, mid, u, e, r, then))) =
      (CloseList ∷ mid, u, moved (λ x. IsTerm ops 999 x (CloseList ∷ mid) u) e r, (mid, refl, then))
  ends_element before m a k tok ts t (inl (us, e, r)) = cc
  ends_element before m a k tok ts t (inr (inl (us, mid, u, e, r, then))) = cc
  ends_element before m a k tok ts t (inr (inr (us, mid, u, e, r, then))) = cc

  -- the step behind an operand
  pub after_operand_to : (k : List Frame) (m l : ℕ) (a : Tree) (tok : Token) (ts : List Token) (t : Tree) → Then ops (Fills ops k) m l a (tok ∷ ts) t → YieldsFrom ops (after_operand ops k m a tok (use_of ops m l tok)) ts t
  after_operand_to [] m l a tok ts t (rest, c, after, fills) = by_use [] m l a tok ts t (ends_all a tok ts t) rest c after fills
  after_operand_to (RightOf f b op n ∷ k) m l a tok ts t (rest, c, after, fills) = by_use (RightOf f b op n ∷ k) m l a tok ts t (after_operand_to k n op.priority (binary f b a) tok ts t) rest c after fills
  after_operand_to (OperandOf f op n ∷ k) m l a tok ts t (rest, c, after, fills) = by_use (OperandOf f op n ∷ k) m l a tok ts t (after_operand_to k n op.priority (unary f a) tok ts t) rest c after fills
  after_operand_to (InGroup n ∷ k) m l a tok ts t (rest, c, after, fills) = by_use (InGroup n ∷ k) m l a tok ts t (ends_group n a k tok ts t) rest c after fills
  after_operand_to (InCurly n ∷ k) m l a tok ts t (rest, c, after, fills) = by_use (InCurly n ∷ k) m l a tok ts t (ends_curly n a k tok ts t) rest c after fills
  after_operand_to (InArguments f b n ∷ k) m l a tok ts t (rest, c, after, fills) = by_use (InArguments f b n ∷ k) m l a tok ts t (ends_argument f b n a k tok ts t) rest c after fills
  after_operand_to (InElements b n ∷ k) m l a tok ts t (rest, c, after, fills) = by_use (InElements b n ∷ k) m l a tok ts t (ends_element b n a k tok ts t) rest c after fills
  after_operand_to (InTail b n ∷ k) m l a tok ts t (rest, c, after, fills) = by_use (InTail b n ∷ k) m l a tok ts t (ends_tail b n a k tok ts t) rest c after fills

  all_back : (a : Tree) (tok : Token) (ts : List Token) (t : Tree) → YieldsFrom ops (end_clause ops a tok) ts t → Fills ops [] a (tok ∷ ts) t
  all_back a End ts t (e, r) = (ap (λ x. End ∷ x) e, r)
  all_back a tok ts t g = elim g [ ]

  group_back : (m : ℕ) (a : Tree) (k : List Frame) (tok : Token) (ts : List Token) (t : Tree) → YieldsFrom ops (end_group ops m a k tok) ts t → Fills ops (InGroup m ∷ k) a (tok ∷ ts) t
  group_back m a k Close ts t g = (ts, refl, g)
  group_back m a k tok ts t g = elim g [ ]

  curly_back : (m : ℕ) (a : Tree) (k : List Frame) (tok : Token) (ts : List Token) (t : Tree) → YieldsFrom ops (end_curly ops m a k tok) ts t → Fills ops (InCurly m ∷ k) a (tok ∷ ts) t
  curly_back m a k CloseCurly ts t g = (ts, refl, g)
  curly_back m a k tok ts t g = elim g [ ]

  tail_back : (before : List Tree) (m : ℕ) (a : Tree) (k : List Frame) (tok : Token) (ts : List Token) (t : Tree) → YieldsFrom ops (end_tail ops before m a k tok) ts t → Fills ops (InTail before m ∷ k) a (tok ∷ ts) t
  tail_back before m a k CloseList ts t g = (ts, refl, g)
  tail_back before m a k tok ts t g = elim g [ ]

  argument_back : (f : Text) (before : List Tree) (m : ℕ) (a : Tree) (k : List Frame) (tok : Token) (ts : List Token) (t : Tree) →
      YieldsFrom ops (end_argument ops f before m a k tok) ts t → Fills ops (InArguments f before m ∷ k) a (tok ∷ ts) t
  argument_back f before m a k Close ts t g = inl (ts, refl, g)
  argument_back f before m a k Comma ts t g = let (mid, args, r, then) = arguments_back f m k (a ∷ before) ts t g in inr (ts, mid, args, refl, r, then)
  argument_back f before m a k tok ts t g = elim g [ ]

  element_back : (before : List Tree) (m : ℕ) (a : Tree) (k : List Frame) (tok : Token) (ts : List Token) (t : Tree) →
      YieldsFrom ops (end_element ops before m a k tok) ts t → Fills ops (InElements before m ∷ k) a (tok ∷ ts) t
  element_back before m a k CloseList ts t g = inl (ts, refl, g)
  element_back before m a k Comma ts t g = let (mid, u, r, then) = elements_back m k (a ∷ before) ts t g in inr (inl (ts, mid, u, refl, r, then))
  element_back before m a k Bar ts t (rest, u, r, (us, e, then)) = inr (inr (ts, us, u, refl, subst (λ x. IsTerm ops 999 ts x u) e r, then))
  element_back before m a k tok ts t g = elim g [ ]

  pub after_operand_back : (k : List Frame) (m l : ℕ) (a : Tree) (tok : Token) (ts : List Token) (t : Tree) → YieldsFrom ops (after_operand ops k m a tok (use_of ops m l tok)) ts t → Then ops (Fills ops k) m l a (tok ∷ ts) t
  after_operand_back [] m l a tok ts t g = back_by [] m l a tok ts t (all_back a tok ts t) _ refl g
  after_operand_back (RightOf f b op n ∷ k) m l a tok ts t g = back_by (RightOf f b op n ∷ k) m l a tok ts t (after_operand_back k n op.priority (binary f b a) tok ts t) _ refl g
  after_operand_back (OperandOf f op n ∷ k) m l a tok ts t g = back_by (OperandOf f op n ∷ k) m l a tok ts t (after_operand_back k n op.priority (unary f a) tok ts t) _ refl g
  after_operand_back (InGroup n ∷ k) m l a tok ts t g = back_by (InGroup n ∷ k) m l a tok ts t (group_back n a k tok ts t) _ refl g
  after_operand_back (InCurly n ∷ k) m l a tok ts t g = back_by (InCurly n ∷ k) m l a tok ts t (curly_back n a k tok ts t) _ refl g
  after_operand_back (InArguments f b n ∷ k) m l a tok ts t g = back_by (InArguments f b n ∷ k) m l a tok ts t (argument_back f b n a k tok ts t) _ refl g
  after_operand_back (InElements b n ∷ k) m l a tok ts t g = back_by (InElements b n ∷ k) m l a tok ts t (element_back b n a k tok ts t) _ refl g
  after_operand_back (InTail b n ∷ k) m l a tok ts t g = back_by (InTail b n ∷ k) m l a tok ts t (tail_back b n a k tok ts t) _ refl g
