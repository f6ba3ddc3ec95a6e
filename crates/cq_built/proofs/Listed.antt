-- The elements that were listed, and what is behind them.
use Rattle.std.proofs.Common.{◌≡◌, ℕ, List, [], ◌∷◌, ◌++◌, sym, ap, ◌∙◌, append_assoc, append-nil}
use Rattle.std.proofs.lemmas.List.{map-append}
use Rattle.spec_numbers.specs.Texts.{Text}
use Rattle.spec_syntax.specs.Trees.{Tree}
use Rattle.spec_builtins.specs.Kinds.{Parts, no_cell}
use Rattle.cq_term.specs.Meaning.{HeapTerm}
use Rattle.cq_term.specs.Trees.{tree, trees}
use Rattle.cq_built.specs.Cells.{with_first}

-- the elements before the parts
abbrev pub behind : List Tree → Parts → Parts
behind ts p = record p { elements = ts ++ p.elements }

pub trees_push : (texts : List Text) (ts : List HeapTerm) (ids new : List ℕ) (id : ℕ) → new ≡ ids ++ id ∷ [] → trees texts ts new ≡ trees texts ts ids ++ tree texts ts id ∷ []
trees_push texts ts ids new id e = ap (trees texts ts) e ∙ map-append (tree texts ts) ids (id ∷ [])

pub one_more : (before after : List Tree) (t : Tree) (p q : Parts) → after ≡ before ++ t ∷ [] → p ≡ with_first t q → behind before p ≡ behind after q
one_more before after t p q longer e =
    ap (behind before) e ∙ ap (λ xs. record { elements = xs; tail = q.tail }) (sym (append_assoc before (t ∷ []) q.elements) ∙ ap (λ xs. xs ++ q.elements) (sym longer))

pub no_more : (before : List Tree) (t : Tree) (p : Parts) → p ≡ no_cell t → behind before p ≡ record { elements = before; tail = t }
no_more before t p e = ap (behind before) e ∙ ap (λ xs. record { elements = xs; tail = t }) (append-nil before)
