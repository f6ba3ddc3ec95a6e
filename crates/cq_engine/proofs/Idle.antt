-- A query begins on an engine without one.
use Rattle.std.proofs.Common.{◌≡◌, ℕ, ◌<◌, List, [], ◌∷◌, ◌++◌, length, map, Bool, true, false, Some, refl, sym, ap, ◌∙◌, subst, arith}
use Rattle.std.specs.Prelude.{reverse}
use Rattle.spec_numbers.specs.Texts.{Text}
use Rattle.spec_terms.proofs.Substitution.{apply-identity}
use Rattle.spec_builtins.specs.Kinds.{is_callable}
use Rattle.spec_search.specs.Control.{put}
use Rattle.spec_search.specs.Database.{Database}
use Rattle.spec_search.specs.Search.{settled, empty_state, start}
use Rattle.cq_control.specs.Items.{items_at}
use Rattle.spec_engine.specs.declared.machine.cell.Cell.{Cell}
use Rattle.spec_engine.specs.Cells.{Fits, Value, Stack}
use Rattle.spec_engine.specs.Standing.{engine, AreItems, IsStanding}
use Rattle.cq_term.specs.Trees.{tree}
use Rattle.cq_settle.specs.Contents.{Contents}
use Rattle.cq_branch.specs.Lists.{HasCells, put_cell, goal_cell}
use Rattle.cq_resolve.specs.Database.{Program}
use Rattle.cq_branch.specs.declared.alternatives.Alternatives.{Alternatives}
use Rattle.cq_branch.specs.Worlds.{IsBranch, term_in, left_at, stack, KnowsNothing, Stands}
use Rattle.cq_branch.proofs.Beginning.{begins}
use Rattle.cq_branch.proofs.Control.{put_items}
use Rattle.cq_branch.proofs.Reading.{tree_read}
use Rattle.cq_machine.proofs.Built.{last_cells}
use Rattle.cq_engine.proofs.Engines.{zip_none}

first_fits : (b : Bool) (t : ℕ) → Fits 0 (put_cell b t 0 ∷ [])
first_fits true t = (omega arith, tt)
first_fits false t = tt

-- where nothing is known, the query's goal in front of nothing is that of its search
pub query_stands : (texts : List Text) (db : Database) (c : Contents) (lists : List (List Cell)) (k id : ℕ) → KnowsNothing texts c → id < length c.heap.terms
    → HasCells lists k (goal_cell texts c.heap.terms id 0 ∷ [])
    → IsStanding (IsBranch texts) (term_in texts) (engine db 0 [] (c, lists) (Some k)) (start db (tree texts c.heap.terms id) (length c.heap.images))
query_stands texts db c lists k id nothing live h =
    let query = tree texts c.heap.terms id in
    let st = empty_state (length c.heap.images) in
    let reads = tree_read texts c.heap.terms id query live refl in
    let items = put_items (IsBranch texts) (term_in texts) [] c st id 0 query [] [] (reads, apply-identity query) refl in
    record {
      database = refl;
      selected = refl;
      first = settled (put query 0 ∷ []) st ∷ [];
      behind = [];
      branches = refl;
      current = (
        put query 0 ∷ [],
        st,
        refl,
        record {
          there = h.there;
          fits = subst (Fits 0) (sym h.are) (first_fits (is_callable query) id);
          state = begins texts c nothing;
          cells = subst (λ cs. AreItems (IsBranch texts) (term_in texts) [] c st cs (put query 0 ∷ [])) (sym h.are) items;
        },
      );
      waiting = refl;
    }

-- the same where there are no choices
pub started : (texts : List Text) (v : Program) (db : Database) (c : Contents) (lists : List (List Cell)) (saved : List (Value Contents)) (choices : List Alternatives) (k id : ℕ)
    → KnowsNothing texts c → choices ≡ [] → id < length c.heap.terms → HasCells lists k (goal_cell texts c.heap.terms id 0 ∷ [])
    → Stands texts v db 0 saved choices (c, lists) (Some k) (start db (tree texts c.heap.terms id) (length c.heap.images))
started texts v db c lists saved choices k id nothing none live h =
    let empty : stack texts v saved choices ≡ [] = ap (map (left_at texts v)) (zip_none (reverse saved) choices none) in
    subst (λ (rs : Stack Contents). IsStanding (IsBranch texts) (term_in texts) (engine db 0 rs (c, lists) (Some k)) (start db (tree texts c.heap.terms id) (length c.heap.images))) (sym empty)
    (query_stands texts db c lists k id nothing live h)

-- the cell of the goal in front of nothing
pub first_cells : (old new : List (List Cell)) (k zero_ : ℕ) (c d : Cell) → k ≡ length old → new ≡ old ++ (c ∷ items_at old zero_) ∷ [] → old ≡ [] ∷ [] → zero_ ≡ 0 → c ≡ d
    → HasCells new k (d ∷ [])
first_cells old new k zero_ c d number is lists none same =
    let behind : items_at old zero_ ≡ [] = ap (λ (i : ℕ). items_at old i) none ∙ ap (λ (ls : List (List Cell)). items_at ls 0) lists in
    let cells : c ∷ items_at old zero_ ≡ d ∷ [] = ap (λ (x : Cell). x ∷ items_at old zero_) same ∙ ap (λ (l : List Cell). d ∷ l) behind in
    subst (HasCells new k) cells (last_cells old new k (c ∷ items_at old zero_) number is)
