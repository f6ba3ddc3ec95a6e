-- A goal in front is the one that the search selects next.
use Rattle.std.proofs.Common.{◌≡◌, ℕ, ◌<◌, List, [], ◌∷◌, ◌++◌, Option, Some, true, false, refl, sym, ap, ap₂, ◌∙◌, subst}
use Rattle.std.proofs.lemmas.Bool.{false≢true}
use Rattle.spec_syntax.specs.Trees.{Tree}
use Rattle.spec_builtins.specs.Built.{compound1}
use Rattle.spec_branch.specs.Branch as branch
use Rattle.spec_branch.specs.Branch.{State, Item, Branch, read}
use Rattle.spec_search.specs.Search.{Search, Look, Selecting, is_selecting, look_at, look_at_items, settled}
use Rattle.spec_search.specs.Turns.{place_of}
use Rattle.cq_control.specs.Items.{items_at}
use Rattle.spec_engine.specs.declared.machine.cell.Cell.{Cell}
use Rattle.spec_engine.specs.declared.machine.cell.Cell.TheVariants.{Goal, Call, CutTo, CutFail, CatchEnd, Collect}
use Rattle.spec_engine.specs.Cells.{below}
use Rattle.spec_engine.specs.Standing.{IsContinuation, AreItems, AreWaiting}
use Rattle.cq_catch.specs.Balls.{ComesUp}
use Rattle.cq_branch.specs.Worlds.{IsBranch, term_in}
use Rattle.cq_branch.proofs.Beginning.{reads_again}
use Rattle.cq_branch.proofs.Selected.{goal_selected, call_selected}
use Rattle.cq_machine.specs.declared.machine.Machine.{Machine}
use Rattle.cq_machine.specs.Machines.{now, holds, database_of, StillStands}
use Rattle.cq_machine.specs.Stepping.{IsSelectedAt}
use Rattle.cq_engine.specs.Fronts.{IsGoal}
use Rattle.cq_engine.specs.Seeking.{StandsFor}
use Rattle.cq_execute.specs.Executions.{IsCallSelected}
use Rattle.cq_engine.specs.Turning.{HasGoal, SelectsNext}

-- ---- what is in front

module _ (m : Machine) (n k rest : ℕ) (s : Search) (j : StandsFor m n (Some k) s) (earlier : rest < k) where
  pub goal_next : (t height : ℕ) → items_at m.world.second.now k ≡ Goal t height ∷ items_at m.world.second.now rest
      → (x : SelectsNext m n rest s) × IsSelectedAt m t height rest (place_of s x.state x.items x.cut x.behind) x.behind (read x.state x.goal)
  goal_next t height e =
      let c = goal_selected (IsBranch m.atoms) (term_in m.atoms) (database_of m) n (holds m) (now m) k rest s j earlier t height e in
      let g = c.0 in (
        record {
          goal = g.goal;
          cut = g.cut;
          items = g.items;
          state = g.state;
          behind = g.behind;
          look = g.selects;
          placed = (g.selected.place, g.selected.waiting);
          database = j.database;
          selected = j.selected;
        },
        record {
          selected = g.selected;
          reads = reads_again m.atoms (now m).0 g.state t g.goal g.selected.place.continuation.state c.1;
          database = j.database;
        },
      )

  pub call_next : (t : ℕ) → items_at m.world.second.now k ≡ Call t ∷ items_at m.world.second.now rest
      → (x : SelectsNext m n rest s) × (g : Tree) × (compound1 "call" (read x.state g) ≡ read x.state x.goal)
      × IsCallSelected m t rest (place_of s x.state x.items x.cut x.behind) x.behind (read x.state g)
  call_next t e =
      let c = call_selected (IsBranch m.atoms) (term_in m.atoms) (database_of m) n (holds m) (now m) k rest s j earlier t e in
      let g = c.0 in (
        record {
          goal = compound1 "call" g.goal;
          cut = g.cut;
          items = g.items;
          state = g.state;
          behind = g.behind;
          look = g.selects;
          placed = (g.place, g.waiting);
          database = j.database;
          selected = j.selected;
        },
        g.goal,
        refl,
        record {
          placed = (g.place, g.waiting);
          reads = reads_again m.atoms (now m).0 g.state t g.goal g.place.continuation.state c.1;
          database = j.database;
        },
      )

-- ---- which goal is in front

-- a search selects one goal next
pub same_goal : (l : Look) (t u : Tree) (cut height : ℕ) (items more : List Item) (st su : State) (behind older : List Branch)
    → l ≡ Selecting t cut items st behind → l ≡ Selecting u height more su older → read st t ≡ read su u
same_goal l t u cut height items more st su behind older e f = (let states : st ≡ su = cc in let goals : t ≡ u = cc in ap₂ read states goals)

abbrev head_or : Cell → List Cell → Cell
head_or c [] = c
head_or c (x ∷ xs) = x

pub goal_here : (m : Machine) (k rest : ℕ) (c : Cell) (h : HasGoal m k) → items_at m.world.second.now k ≡ c ∷ items_at m.world.second.now rest → IsGoal c
goal_here m k rest c h cells = let same : h.cell ≡ c = ap (head_or c) (sym h.cells ∙ cells) in subst IsGoal same h.goal

-- where the search selects one, one is in front
module _ (m : Machine) (n k : ℕ) (s : Search) (j : StandsFor m n (Some k) s) (t : Tree) (cut : ℕ) (more : List Item) (st : State) (behind : List Branch)
    (look : look_at s.branches ≡ Selecting t cut more st behind) where
  not_goal : (items : List Item) → j.current.0 ≡ items → is_selecting (look_at_items items j.current.1 j.behind) ≡ false → ⊥
  not_goal items e f =
      let looked : look_at s.branches ≡ look_at_items j.current.0 j.current.1 j.behind = ap look_at (j.branches ∙ ap (λ l. l ++ j.behind) j.current.2) in
      let no : false ≡ true = sym f ∙ ap (λ l. is_selecting (look_at_items l j.current.1 j.behind)) (sym e) ∙ ap is_selecting (sym looked ∙ look) in
      false≢true no

  pub goal_in_front : HasGoal m k
  goal_in_front = by (items_at m.world.second.now k) refl j.current.3.cells
    where
      by : (cs : List Cell) → items_at m.world.second.now k ≡ cs → AreItems (IsBranch m.atoms) (term_in m.atoms) (holds m) (now m).0 j.current.1 cs j.current.0 → HasGoal m k
      by [] e a = absurd (not_goal [] a refl)
      by (Goal id height ∷ cs) e a = record { cell = Goal id height; behind = cs; cells = e; goal = tt }
      by (Call id ∷ cs) e a = record { cell = Call id; behind = cs; cells = e; goal = tt }
      by (CutTo h ∷ cs) e a = absurd (not_goal (branch.CutTo (below (holds m) h) ∷ a.0) a.1 refl)
      by (CutFail h ∷ cs) e a = absurd (not_goal (branch.CutFail (below (holds m) h) ∷ a.0) a.1 refl)
      by (CatchEnd h c r ∷ cs) e a = absurd (not_goal (branch.CatchEnd (below (holds m) h) a.1 a.2 a.3 ∷ a.4) a.5 refl)
      by (Collect h id ∷ cs) e a = absurd (not_goal (branch.Collect (below (holds m) h) a.0 ∷ a.1) a.2 refl)

-- ---- where a machine still stands

pub stands_still : (old new : Machine) (n : ℕ) (current : Option ℕ) (s : Search) → StillStands old new → database_of new ≡ database_of old → StandsFor old n current s → StandsFor new n current s
stands_still old new n current s still e j = let k = still (database_of old) n current s j in record {
  database = k.database ∙ sym e;
  selected = k.selected;
  first = k.first;
  behind = k.behind;
  branches = k.branches;
  current = k.current;
  waiting = k.waiting;
}

abbrev first_items : List Branch → List Item
first_items [] = []
first_items (b ∷ bs) = b.items

abbrev first_state : State → List Branch → State
first_state st [] = st
first_state st (b ∷ bs) = b.state

abbrev others : List Branch → List Branch
others [] = []
others (b ∷ bs) = bs

-- a continuation still stands for its items, in front of the same branches
pub up_still : (old new : Machine) → StillStands old new → (from : ℕ) (items : List Item) (st : State) (behind : List Branch)
    → ComesUp old.atoms (holds old) (now old) from items st behind → ComesUp new.atoms (holds new) (now new) from items st behind
up_still old new still from items st behind up =
    let t : Search = record { database = database_of old; branches = settled items st ∷ behind; selected = 0 } in
    let j = still (database_of old) 0 (Some from) t (record {
      database = refl;
      selected = refl;
      first = settled items st ∷ [];
      behind = behind;
      branches = refl;
      current = (items, st, refl, up.continuation);
      waiting = up.waiting;
    }) in
    let c = j.current in
    let same : settled c.0 c.1 ∷ j.behind ≡ settled items st ∷ behind = sym (j.branches ∙ ap (λ l. l ++ j.behind) c.2) in
    record {
      continuation = subst (λ (is : List Item). IsContinuation (IsBranch new.atoms) (term_in new.atoms) (holds new) (now new) from is st) (ap first_items same)
          (subst (λ (su : State). IsContinuation (IsBranch new.atoms) (term_in new.atoms) (holds new) (now new) from c.0 su) (ap (first_state st) same) c.3);
      waiting = subst (AreWaiting (IsBranch new.atoms) (term_in new.atoms) (holds new)) (ap others same) j.waiting;
    }
