-- The left side of a disjunction on a heap.
use Rattle.std.proofs.Common.{◌≡◌, ℕ, zero, suc, ◌<◌, List, [], ◌∷◌, length, Bool, true, false, Some, refl, sym, ap, ◌∙◌, arith, codes}
use Rattle.std.specs.Prelude.{bytes_eq, slice_get, if◌then◌else◌, ◌+◌}
use Rattle.std.specs.Cmp.Lexicographic.{bytes_decides}
use Rattle.std.specs.Option.{option_map}
use Rattle.spec_numbers.specs.Texts.{Text}
use Rattle.spec_terms.specs.Term.{Var, Number, Name, Compound, one, more, named}
use Rattle.spec_syntax.specs.Trees.{Tree, binary}
use Rattle.spec_branch.specs.Branch as branch
use Rattle.spec_branch.specs.Branch.{State}
use Rattle.spec_search.specs.Control.{if_then_items}
use Rattle.cq_term.specs.Texts.{text_of}
use Rattle.cq_built.specs.Sides.{is_binary}
use Rattle.cq_built.specs.declared.sides.Sides.{Sides}
use Rattle.cq_term.specs.Meaning.{HeapTerm}
use Rattle.cq_term.specs.Trees.{tree}
use Rattle.cq_settle.specs.Contents.{Contents}
use Rattle.cq_branch.specs.Sides.{IsIfThen, IsPlain}
use Rattle.cq_branch.specs.Worlds.{ReadsAs}
use Rattle.cq_branch.proofs.Added.{reads_tree}

-- what is no compound of two arguments is no if-then
pub plain_other : (g : ℕ → Text) (t : HeapTerm) → is_binary t ≡ false → IsPlain (named g t)
plain_other g (Var v) e = λ p. refl
plain_other g (Number q) e = λ p. refl
plain_other g (Name a) e = λ p. refl
plain_other g (Compound f (one a)) e = λ p. refl
plain_other g (Compound f (more a (one b))) e = cc
plain_other g (Compound f (more a (more b ts))) e = λ p. refl

-- nor is one of another name
pub plain_name : (f : Text) (a b : Tree) → bytes_eq f (codes "->") ≡ false → IsPlain (binary f a b)
plain_name f a b e = λ p. ap (λ (x : Bool). if x then if_then_items p (p.height + 1) a b else branch.Goal (binary f a b) p.cut ∷ p.rest) e

pub arrow_is : (f : Text) (a b : Tree) → bytes_eq f (codes "->") ≡ true → binary f a b ≡ binary (codes "->") a b
arrow_is f a b e = ap (λ (g : Text). binary g a b) ((bytes_decides f (codes "->")).0 e)

-- ---- the sides of a term that reads as itself

pub term_there : (texts : List Text) (ts : List HeapTerm) (id : ℕ) → id < length ts → option_map (named (text_of texts)) (slice_get ts id) ≡ Some (tree texts ts id)
term_there texts [] id l = absurd (omega (arith, l))
term_there texts (t ∷ ts) zero l = refl
term_there texts (t ∷ ts) (suc id) l = term_there texts ts id (omega (arith, l))

module _ (texts : List Text) (w : Contents) (st : State) (id : ℕ) (s : Sides) (i : IsIfThen texts w.heap.terms id s) (a : Tree) (r : ReadsAs texts w st id a) where
  abbrev left : Tree
  left = tree texts w.heap.terms s.left

  abbrev right : Tree
  right = tree texts w.heap.terms s.right

  pub term_is : a ≡ binary (codes "->") left right
  term_is = sym (reads_tree texts w st id a r) ∙ i.term
