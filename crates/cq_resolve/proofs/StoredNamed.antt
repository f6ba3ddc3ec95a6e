-- Names below a count: of the heads of a term, and of the terms of a heap.
use Rattle.std.proofs.Common.{◌≡◌, ℕ, zero, suc, ◌<◌, List, [], ◌∷◌, ◌++◌, length, map, get_or, sym, ◌∙◌, subst, arith, append_assoc, append-nil}
use Rattle.std.specs.Prelude.{All}
use Rattle.std.proofs.lemmas.List.Elements.{All-append, All-cons, All-push, All-same, All-map}
use Rattle.spec_terms.specs.Term.{Terms, Var, Number, Name, Compound, one, more, count, with_arguments}
use Rattle.cq_term.specs.Meaning.{HeapTerm, at, blank}
use Rattle.cq_term.specs.Names.{HasNamesBelow, HaveNamesBelow}
use Rattle.cq_term.specs.Shown.{variables_from}
use Rattle.cq_term.proofs.Known.{names_over}
use Rattle.cq_term.specs.declared.view.View.{View}
use Rattle.cq_term.specs.declared.view.View.TheVariants as view
use Rattle.cq_resolve.specs.Pattern.{heads, heads_in, term_of, IsNamedBelow, IsPattern}
use Rattle.cq_resolve.proofs.Reading.{pattern_heads}

none_named : (n : ℕ) → All (IsNamedBelow n) []
none_named n k d lt = absurd (omega arith)

mutual
  named_heads : (n : ℕ) (t : HeapTerm) (hs : List View) → HasNamesBelow n t → All (IsNamedBelow n) hs → All (IsNamedBelow n) (heads t ++ hs)
  named_heads n (Var v) hs h all = All-cons (IsNamedBelow n) (view.Var (record { 0 = v })) hs tt all
  named_heads n (Number q) hs h all = All-cons (IsNamedBelow n) (view.Number q) hs tt all
  named_heads n (Name a) hs h all = All-cons (IsNamedBelow n) (view.Name a) hs h all
  named_heads n (Compound f ts) hs h all = All-cons (IsNamedBelow n) (view.Compound f (count ts)) (heads_in ts ++ hs) h.0 (named_heads_in n ts hs h.1 all)

  named_heads_in : (n : ℕ) (ts : Terms ℕ) (hs : List View) → HaveNamesBelow n ts → All (IsNamedBelow n) hs → All (IsNamedBelow n) (heads_in ts ++ hs)
  named_heads_in n (one t) hs h all = named_heads n t hs h all
  named_heads_in n (more t ts) hs h all =
      subst (All (IsNamedBelow n)) (sym (append_assoc (heads t) (heads_in ts) hs)) (named_heads n t (heads_in ts ++ hs) h.0 (named_heads_in n ts hs h.1 all))

pub named_pattern : (n count : ℕ) (hs : List View) → IsPattern count hs → HasNamesBelow n (term_of hs) → All (IsNamedBelow n) hs
named_pattern n count hs p h =
    subst (All (IsNamedBelow n)) (append-nil (heads (term_of hs)) ∙ pattern_heads count hs p) (named_heads n (term_of hs) [] h (none_named n))

pub named_same : (n : ℕ) (ts us : List HeapTerm) → us ≡ ts → All (HasNamesBelow n) ts → All (HasNamesBelow n) us
named_same n ts us e all = All-same (HasNamesBelow n) us ts e all

-- variables have no names
named_variables : (n k count : ℕ) → All (HasNamesBelow n) (variables_from k count)
named_variables n k zero = λ j d lt. absurd (omega arith)
named_variables n k (suc count) = All-cons (HasNamesBelow n) (Var k) (variables_from (suc k) count) tt (named_variables n (suc k) count)

pub named_more : (n : ℕ) (ts us : List HeapTerm) (k count : ℕ) → us ≡ ts ++ variables_from k count → All (HasNamesBelow n) ts → All (HasNamesBelow n) us
named_more n ts us k count e all =
    named_same n (ts ++ variables_from k count) us e (All-append (HasNamesBelow n) ts (variables_from k count) all (named_variables n k count))

-- one more term on a heap
pub named_push : (n : ℕ) (ts us : List HeapTerm) (t : HeapTerm) → us ≡ ts ++ t ∷ [] → HasNamesBelow n t → All (HasNamesBelow n) ts → All (HasNamesBelow n) us
named_push n ts us t e h all = All-same (HasNamesBelow n) us (ts ++ t ∷ []) e (All-push (HasNamesBelow n) ts t all h)

pub named_over : (n f : ℕ) (ts us : List HeapTerm) (ids : List ℕ) → us ≡ ts ++ with_arguments f (map (at ts) ids) ∷ [] → All (λ i. i < length ts) ids → f < n → All (HasNamesBelow n) ts → All (HasNamesBelow n) us
named_over n f ts us ids e live lt all =
    named_push n ts us (with_arguments f (map (at ts) ids)) e
    (names_over n f (map (at ts) ids) lt (All-map (HasNamesBelow n) (at ts) ids (λ k d within. all (get_or ids k d) blank (live k d within)))) all
