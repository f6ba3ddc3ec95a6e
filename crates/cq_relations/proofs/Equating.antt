-- X is E, as a goal that makes X and a number equal that was put on the heap.
use Rattle.std.proofs.Common.{◌≡◌, ℕ, List, [], ◌∷◌, Option, None, sym, ap, ◌∙◌, subst, refl}
use Rattle.spec_numbers.specs.Prefixes.{IsPrefix}
use Rattle.spec_numbers.specs.Texts.{Text}
use Rattle.spec_terms.specs.Arithmetic.{evaluate}
use Rattle.spec_syntax.specs.Trees.{Tree}
use Rattle.spec_branch.specs.Branch.{Branch, Pending}
use Rattle.spec_builtins.specs.Alternatives.{◌≐◌}
use Rattle.spec_search.specs.Changes.{is_row}
use Rattle.spec_search.specs.Replies.{Place, Reply, unifies, with_equations, makes, child}
use Rattle.cq_frac.specs.declared.Pair.{Pair}
use Rattle.cq_goals.specs.Faults.{IsValue, IsOutcome}
use Rattle.cq_goals.specs.declared.faults.GoalFault.{GoalFault}
use Rattle.cq_store.specs.declared.store.StoreFault.{StoreFault}
use Rattle.cq_store.specs.declared.store.StoreFault.TheVariants as store
use Rattle.cq_term.specs.HeapValue.{Terms}
use Rattle.cq_term.specs.Meaning.{HeapTerm}
use Rattle.cq_term.specs.Trees.{tree, KnowsTerms}
use Rattle.cq_settle.specs.Contents.{Contents}
use Rattle.cq_settle.specs.Settled.{MayRefuse, MayTake}
use Rattle.spec_engine.specs.declared.machine.cell.Cell.{Cell}
use Rattle.spec_engine.specs.Cells.{Value, Stack}
use Rattle.cq_branch.specs.Worlds.{with_heap, ReadsAs, Placed, Leads, Grown}
use Rattle.cq_branch.proofs.Added.{reads_tree}
use Rattle.cq_branch.proofs.Grown.{tree_same}
use Rattle.cq_branch.proofs.Reading.{read_live}
use Rattle.cq_branch.specs.declared.begin.beginning.Begun.{Begun}
use Rattle.cq_branch.specs.Begun.{goes_to, trees_of_pairs, AtPlaces}
use Rattle.cq_relations.specs.declared.faults.RelationFault.TheVariants as fault
use Rattle.cq_relations.specs.Faults.{IsRefused, IsStopped, Explains}
use Rattle.cq_relations.specs.Goals.{AtBoth}
use Rattle.cq_relations.proofs.Growing.{grown_terms, placed_grown, back_from_any}
use Rattle.cq_relations.proofs.Values.{value_is, value_refused}

-- a reply that makes one child is why that is not settled
pub stopped_by : (n : ℕ) (f : StoreFault) (p : Place) (reply : Reply) (work : Pending) → reply ≡ makes p (child p.rest p.state work ∷ [])
    → ((pair : Pair) → f ≡ store.Overflow pair → MayRefuse p.state work pair) → ((k : ℕ) → f ≡ store.Pivots k → (k ≡ n) × MayTake p.state work k) → IsStopped n f p reply
stopped_by n (store.Overflow pair) p reply work row refuses takes = record { work = work; row = row; holds = refuses pair refl }
stopped_by n (store.Pivots k) p reply work row refuses takes = (let t = takes k refl in (t.0, record { work = work; row = row; holds = t.1 }))
stopped_by n store.NoMemory p reply work row refuses takes = tt

module _ (texts : List Text) (c : Contents) (h : Terms) (lists : List (List Cell)) (left expression rest : ℕ) where
  module _ (terms : IsPrefix c.heap.terms h.terms) (images : h.images ≡ c.heap.images) (names : KnowsTerms texts h.terms) (id : ℕ)
      (v : IsValue (evaluate (tree texts c.heap.terms expression)) (tree texts h.terms id)) where
    abbrev mid : Value Contents
    mid = (with_heap h c, lists)

    abbrev work : Pending
    work = with_equations (trees_of_pairs texts h.terms (record { left = left; right = id } ∷ []))

    grows : Grown texts (c, lists) mid
    grows = grown_terms texts c h terms images names lists

    module _ (p : Place) (x e : Tree) (rx : ReadsAs texts c p.state left x) (re : ReadsAs texts c p.state expression e) where
      value : IsValue (evaluate e) (tree texts h.terms id)
      value = subst (λ (t : Tree). IsValue (evaluate t) (tree texts h.terms id)) (reads_tree texts c p.state expression e re) v

      left_is : tree texts h.terms left ≡ x
      left_is = tree_same texts c.heap h terms images left (read_live texts c.heap.terms left x rx.0) ∙ reads_tree texts c p.state left x rx

      row_is : is_row p x e ≡ unifies p (trees_of_pairs texts h.terms (record { left = left; right = id } ∷ []))
      row_is = value_is p x (evaluate e) (tree texts h.terms id) value ∙ ap (λ (t : Tree). unifies p ((t ≐ tree texts h.terms id) ∷ [])) (sym left_is)

    pub leads_to : (new : Value Contents) (b : Begun)
        → ((choices : Stack Contents) (p : Place) (behind : List Branch) → Placed texts choices mid rest p behind
        → Leads texts choices new (goes_to b) p behind (unifies p (trees_of_pairs texts h.terms (record { left = left; right = id } ∷ []))))
        → AtBoth texts (c, lists) left expression rest (λ choices p behind x e. Leads texts choices new (goes_to b) p behind (is_row p x e))
    leads_to new b row = λ choices p behind x e place rx re.
        subst (λ (r : Reply). Leads texts choices new (goes_to b) p behind r) (sym (row_is p x e rx re))
        (row choices p behind (placed_grown texts choices (c, lists) mid grows p behind rest place))

    pub is_not_settled : (n : ℕ) (f : StoreFault) → ((pair : Pair) → f ≡ store.Overflow pair → AtPlaces texts mid rest (λ st. MayRefuse st work pair))
        → ((k : ℕ) → f ≡ store.Pivots k → (k ≡ n) × AtPlaces texts mid rest (λ st. MayTake st work k))
        → AtBoth texts (c, lists) left expression rest (λ choices p behind x e. Explains texts c.heap.terms n (fault.Settling f) p (is_row p x e))
    is_not_settled n f refuses takes = λ choices p behind x e place rx re.
        let there = placed_grown texts choices (c, lists) mid grows p behind rest place in
        stopped_by n f p (is_row p x e) work (row_is p x e rx re) (λ pair q. refuses pair q choices p behind there)
        (λ k q. (let t = takes k q in (t.0, t.1 choices p behind there)))

-- the expression has no value
pub has_no_value : (texts : List Text) (c : Contents) (lists : List (List Cell)) (left expression rest n : ℕ) (f : GoalFault)
    → IsOutcome texts c.heap.terms (evaluate (tree texts c.heap.terms expression)) f
    → AtBoth texts (c, lists) left expression rest (λ choices p behind x e. Explains texts c.heap.terms n (fault.Goal f) p (is_row p x e))
has_no_value texts c lists left expression rest n f o = λ choices p behind x e place rx re.
    subst (λ (t : Tree). IsRefused texts c.heap.terms f (is_row p x t)) (reads_tree texts c p.state expression e re)
    (value_refused texts c.heap.terms p x (evaluate (tree texts c.heap.terms expression)) f o)

-- ---- under a mark

-- where the row of X is E leads to, from a world to another
abbrev pub ValueRow : List Text → List (List Cell) → List (List Cell) → ℕ → ℕ → ℕ → Option ℕ → Contents → Contents → Type 0
ValueRow texts lists later left expression rest current old new =
    AtBoth texts (old, lists) left expression rest (λ choices p behind x e. Leads texts choices (new, later) current p behind (is_row p x e))

module _ (texts : List Text) (lists later : List (List Cell)) (left expression rest : ℕ) where
  pub row_from : (current : Option ℕ) (old marked ran end : Contents) → marked ≡ old → end ≡ ran → ValueRow texts lists later left expression rest current marked ran
      → ValueRow texts lists later left expression rest current old end
  row_from current old marked ran end m n r =
      subst (λ (x : Contents). ValueRow texts lists later left expression rest current x end) m
      (subst (ValueRow texts lists later left expression rest current marked) (sym n) r)

  pub row_back : (old marked ran end : Contents) → marked ≡ old → ValueRow texts lists later left expression rest None marked ran
      → ValueRow texts lists later left expression rest None old end
  row_back old marked ran end m r =
      subst (λ (x : Contents). ValueRow texts lists later left expression rest None x end) m
      (λ choices p behind x e place rx re. back_from_any texts choices (ran, later) (end, later) p behind (is_row p x e) (r choices p behind x e place rx re))
