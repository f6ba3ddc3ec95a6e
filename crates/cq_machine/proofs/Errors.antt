-- Errors of calls where names are added, and rows as replies.
use Rattle.std.proofs.Common.{◌≡◌, ◌≢◌, ◌<◌, ◌+◌, List, [], ◌∷◌, length, Bool, true, false, Some, refl, sym, ap, ◌∙◌, subst, arith}
use Rattle.spec_numbers.specs.Prefixes.{IsPrefix}
use Rattle.spec_numbers.proofs.Prefixes.{prefix_get_or, prefix_within}
use Rattle.spec_numbers.specs.Texts.{Text}
use Rattle.spec_terms.specs.Term.{Name}
use Rattle.spec_syntax.specs.Trees.{Tree}
use Rattle.spec_builtins.specs.Built.{indicator, indicator_term, compound2, compound3}
use Rattle.spec_builtins.specs.Errors.{existence_error}
use Rattle.spec_builtins.specs.Alternatives.{holds_if}
use Rattle.spec_builtins.specs.Terms.{passes}
use Rattle.spec_branch.specs.Branch.{State}
use Rattle.spec_search.specs.Predicates.{Predicate, CopyTerm, predicate_of}
use Rattle.spec_search.specs.Builtins as builtin
use Rattle.spec_search.specs.Builtins.{Builtin}
use Rattle.spec_search.specs.Replies.{Place, Raises, child, makes, offers, succeeds_if, with_equations, with_new}
use Rattle.spec_search.specs.Rows.{nth, builtin_reply}
use Rattle.cq_built.specs.Errors.{culprit_tree, error_tree, indicator_of, type_name, domain_name, action_name, object_name, HasCulprit, IsThere}
use Rattle.cq_built.specs.declared.errors.Culprit.{Culprit}
use Rattle.cq_built.specs.declared.errors.Culprit.TheVariants as culprit
use Rattle.cq_built.specs.declared.errors.BuiltinError.{BuiltinError}
use Rattle.cq_built.specs.declared.errors.BuiltinError.TheVariants as error
use Rattle.cq_term.specs.Meaning.{HeapTerm}
use Rattle.cq_term.specs.Trees.{KnowsTerms}
use Rattle.cq_term.specs.declared.names.Pred.{Pred}
use Rattle.cq_choices.specs.Calls.{row_of}
use Rattle.cq_choices.proofs.Named.{tree_named}

-- ---- where names are added

module _ (texts more : List Text) (longer : IsPrefix texts more) (ts : List HeapTerm) (known : KnowsTerms texts ts) where
  predicate_same : (p : Pred) → p.name < length texts → indicator_of more p ≡ indicator_of texts p
  predicate_same p l = ap (λ (t : Text). indicator t p.arity) (prefix_get_or texts more p.name [] longer l)

  culprit_same : (c : Culprit) → IsThere texts ts c → culprit_tree more ts c ≡ culprit_tree texts ts c
  culprit_same (culprit.Term id) l = tree_named texts more longer ts known id l
  culprit_same (culprit.Number q) l = refl
  culprit_same (culprit.Predicate p) l = ap indicator_term (predicate_same p l)

  culprit_there : (c : Culprit) → IsThere texts ts c → IsThere more ts c
  culprit_there (culprit.Term id) l = l
  culprit_there (culprit.Number q) l = tt
  culprit_there (culprit.Predicate p) l = prefix_within texts more p.name longer l

  -- an error is the same term
  pub error_same : (e : BuiltinError) → HasCulprit texts ts e → error_tree more ts e ≡ error_tree texts ts e
  error_same error.Instantiation h = refl
  error_same (error.Type k c) h = ap (λ (t : Tree). compound2 "type_error" (Name (type_name k)) t) (culprit_same c h)
  error_same (error.Domain k c) h = ap (λ (t : Tree). compound2 "domain_error" (Name (domain_name k)) t) (culprit_same c h)
  error_same (error.Representation k) h = refl
  error_same (error.Permission k c) h =
      ap (λ (t : Tree). compound3 "permission_error" (Name (action_name k)) (Name (object_name k)) t) (culprit_same c h)
  error_same (error.UnknownProcedure p) h = ap existence_error (predicate_same p h)
  error_same error.ZeroDivisor h = refl
  error_same error.IllegalNumber h = refl

  -- and its culprit is there
  pub culprit_on : (e : BuiltinError) → HasCulprit texts ts e → HasCulprit more ts e
  culprit_on error.Instantiation h = tt
  culprit_on (error.Type k c) h = culprit_there c h
  culprit_on (error.Domain k c) h = culprit_there c h
  culprit_on (error.Representation k) h = tt
  culprit_on (error.Permission k c) h = culprit_there c h
  culprit_on (error.UnknownProcedure p) h = prefix_within texts more p.name longer h
  culprit_on error.ZeroDivisor h = tt
  culprit_on error.IllegalNumber h = tt

-- ---- as replies

module _ (p : Place) (ts : List Tree) where
  same_state : with_new 0 p.state ≡ p.state
  same_state = (let e : p.state.fresh + 0 ≡ p.state.fresh = omega arith in λ i. record p.state { fresh = e i })

  test_replies : (b : Bool) → offers p (holds_if b) ≡ succeeds_if b p
  test_replies true = ap (λ (st : State). makes p (child p.rest st (with_equations []) ∷ [])) same_state
  test_replies false = refl

  abbrev IsReply : Builtin → Predicate → Type 0
  IsReply b q = row_of q p ts ≡ builtin_reply p b ts

  of_same : (b : Builtin) (q r : Predicate) → Some r ≡ Some q → IsReply b r → IsReply b q
  of_same b q r s h = (let same : r ≡ q = cc in subst (IsReply b) same h)

  -- but for copy_term, whose reply is of the copy that is made
  pub row_replies : (b : Builtin) (q : Predicate) → predicate_of b ≡ Some q → q ≢ CopyTerm → IsReply b q
  row_replies (builtin.Test k) q s other = of_same (builtin.Test k) q _ s (test_replies (passes k (nth ts 0)))
  row_replies builtin.CopyTerm q s other = absurd (other (let same : q ≡ CopyTerm = cc in same))
  row_replies (builtin.Order c) q s other = of_same (builtin.Order c) q _ s refl
  row_replies (builtin.AtomList k) q s other = of_same (builtin.AtomList k) q _ s refl
  row_replies builtin.Functor q s other = of_same builtin.Functor q _ s refl
  row_replies builtin.Arg q s other = of_same builtin.Arg q _ s refl
  row_replies builtin.Univ q s other = of_same builtin.Univ q _ s refl
  row_replies builtin.AtomLength q s other = of_same builtin.AtomLength q _ s refl
  row_replies builtin.CharCode q s other = of_same builtin.CharCode q _ s refl
  row_replies builtin.NumberCodes q s other = of_same builtin.NumberCodes q _ s refl
  row_replies builtin.AtomConcat q s other = of_same builtin.AtomConcat q _ s refl
  row_replies builtin.SubAtom q s other = of_same builtin.SubAtom q _ s refl
  row_replies b q s other = cc

  -- copy_term raises no error
  error_is : (q : Predicate) (e : Tree) → row_of q p ts ≡ Raises e → q ≢ CopyTerm
  error_is q e h same = (let copies : row_of CopyTerm p ts ≡ Raises e = subst (λ (r : Predicate). row_of r p ts ≡ Raises e) same h in cc)

  pub error_replies : (b : Builtin) (q : Predicate) (e : Tree) → predicate_of b ≡ Some q → row_of q p ts ≡ Raises e → builtin_reply p b ts ≡ Raises e
  error_replies b q e s h = sym (row_replies b q s (error_is q e h)) ∙ h
