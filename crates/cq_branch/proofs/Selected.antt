-- A goal in front is selected, and the engine comes to what its row makes. More that is built changes nothing.
use Rattle.std.proofs.Common.{inr, ◌≡◌, ℕ, suc, ◌<◌, List, [], ◌∷◌, ◌++◌, length, Option, None, Some, refl, sym, ap, ◌∙◌, subst, arith}
use Rattle.spec_syntax.specs.Trees.{Tree}
use Rattle.spec_builtins.specs.Built.{compound1}
use Rattle.spec_branch.specs.Branch as branch
use Rattle.spec_branch.specs.Branch.{State, Item, Branch, read}
use Rattle.spec_search.specs.Database.{Database}
use Rattle.spec_search.specs.Rows.{reply_of}
use Rattle.spec_search.specs.Search.{Search, settled, look_at, Selecting}
use Rattle.spec_search.specs.Turns.{Turn, Wrote, place_of, after_step}
use Rattle.cq_control.specs.Items.{items_at}
use Rattle.spec_engine.specs.declared.machine.cell.Cell.{Cell}
use Rattle.spec_engine.specs.declared.machine.cell.Cell.TheVariants.{Goal, Call}
use Rattle.spec_engine.specs.Cells.{Fits, Value, Stack, below}
use Rattle.spec_engine.specs.Standing.{engine, AreItems, IsContinuation, IsCurrent, IsStanding}
use Rattle.spec_engine.specs.Coming.{after, Comes}
use Rattle.spec_engine.proofs.Kept.{fits_more, items_read_on, length-waiting}
use Rattle.spec_engine.proofs.Made.{goal_made}
use Rattle.cq_branch.specs.Selecting.{Selects, SelectsCall, Becomes, HasGrown}

module _ {W : Type 0} (IsState : W → State → Type 0) (term : W → ℕ → Option Tree) where
  -- ---- more was built

  pub continuation_grown : (choices : Stack W) (old new : Value W) → HasGrown IsState term old new → (k : ℕ) (items : List Item) (st : State)
      → IsContinuation IsState term choices old k items st → IsContinuation IsState term choices new k items st
  continuation_grown choices old new g k items st c = record {
    there = omega (arith, c.there, g.lists.more);
    fits = subst (Fits (length choices)) (sym (g.lists.same k c.there)) c.fits;
    state = g.state st c.state;
    cells = subst (λ cs. AreItems IsState term choices new.0 st cs items) (sym (g.lists.same k c.there))
        (items_read_on IsState term choices old.0 st new.0 st (λ id t e. g.terms id (read st t) e) (items_at old.1 k) items c.cells);
  }

  current_grown : (choices : Stack W) (old new : Value W) → HasGrown IsState term old new → (current : Option ℕ) (bs : List Branch)
      → IsCurrent IsState term choices old current bs → IsCurrent IsState term choices new current bs
  current_grown choices old new g None bs c = c
  current_grown choices old new g (Some k) bs c = (c.0, c.1, c.2, continuation_grown choices old new g k c.0 c.1 c.3)

  pub standing_grown : (db : Database) (n : ℕ) (choices : Stack W) (old new : Value W) → HasGrown IsState term old new → (current : Option ℕ) (s : Search)
      → IsStanding IsState term (engine db n choices old current) s → IsStanding IsState term (engine db n choices new current) s
  standing_grown db n choices old new g current s j = record {
    database = j.database;
    selected = j.selected;
    first = j.first;
    behind = j.behind;
    branches = j.branches;
    current = current_grown choices old new g current j.first j.current;
    waiting = j.waiting;
  }

  -- ---- a goal in front

  module _ (db : Database) (n : ℕ) (choices : Stack W) (now : Value W) (k rest : ℕ) (s : Search)
      (j : IsStanding IsState term (engine db n choices now (Some k)) s) (earlier : rest < k) where
    looks : (i : Item) (more : List Item) → j.current.0 ≡ i ∷ more → look_at s.branches ≡ look_at (settled (i ∷ more) j.current.1 ∷ j.behind)
    looks i more e = ap look_at (j.branches ∙ ap (λ l. l ++ j.behind) j.current.2 ∙ ap (λ is. settled is j.current.1 ∷ j.behind) e)

    rest_there : rest < length now.1
    rest_there = omega (arith, j.current.3.there)

    front_items : (cs : List Cell) → items_at now.1 k ≡ cs → AreItems IsState term choices now.0 j.current.1 cs j.current.0
    front_items cs e = subst (λ l. AreItems IsState term choices now.0 j.current.1 l j.current.0) e j.current.3.cells

    front_fits : (cs : List Cell) → items_at now.1 k ≡ cs → Fits (length choices) cs
    front_fits cs e = subst (Fits (length choices)) e j.current.3.fits

    pub goal_selected : (t height : ℕ) → items_at now.1 k ≡ Goal t height ∷ items_at now.1 rest
        → (c : Selects IsState term choices now height rest s) × (term now.0 t ≡ Some (read c.state c.goal))
    goal_selected t height e =
        let a = front_items (Goal t height ∷ items_at now.1 rest) e in
        let f = front_fits (Goal t height ∷ items_at now.1 rest) e in (
          record {
            goal = a.0;
            cut = below choices height;
            items = a.1;
            state = j.current.1;
            behind = j.behind;
            selects = looks (branch.Goal a.0 (below choices height)) a.1 a.2;
            selected = record {
              place = record {
                continuation = record { there = rest_there; fits = fits_more height (length choices) (items_at now.1 rest) f.0 f.1; state = j.current.3.state; cells = a.4 };
                height = length-waiting IsState term choices j.behind j.waiting;
              };
              within = f.0;
              goes_back = refl;
              fits = f.1;
              waiting = j.waiting;
            };
          },
          a.3,
        )

    pub call_selected : (t : ℕ) → items_at now.1 k ≡ Call t ∷ items_at now.1 rest
        → (c : SelectsCall IsState term choices now rest s) × (term now.0 t ≡ Some (read c.state c.goal))
    call_selected t e =
        let a = front_items (Call t ∷ items_at now.1 rest) e in
        let f = front_fits (Call t ∷ items_at now.1 rest) e in (
          record {
            goal = a.0;
            cut = a.1;
            items = a.2;
            state = j.current.1;
            behind = j.behind;
            selects = looks (branch.Goal (compound1 "call" a.0) a.1) a.2 a.3;
            place = record {
              continuation = record { there = rest_there; fits = f; state = j.current.3.state; cells = a.5 };
              height = length-waiting IsState term choices j.behind j.waiting;
            };
            waiting = j.waiting;
          },
          a.4,
        )

  -- ---- its row

  -- the turn that selects the goal shows nothing, and then the engine comes to what the row makes
  pub made_comes : (steps : ℕ) (s : Search) (goal : Tree) (cut : ℕ) (items : List Item) (st : State) (behind : List Branch) → look_at s.branches ≡ Selecting goal cut items st behind
      → s.selected < steps → (choices : Stack W) (now : Value W) (current : Option ℕ)
      → Becomes IsState term choices now current (place_of s st items cut behind) behind (reply_of (place_of s st items cut behind) (read st goal))
      → Comes IsState term steps (engine s.database (suc s.selected) choices now current) s
  made_comes steps s goal cut items st behind look few choices now current b =
      let t : Turn s (Wrote []) (after_step s b.made behind) = subst (λ text. Turn s (Wrote text) (after_step s b.made behind)) b.output (goal_made s goal cut items st behind b.made look b.row) in
      let c = b.comes steps (after_step s b.made behind) b.database refl in
      record { reached = c.reached; quiet = after (inr few) t c.quiet; stands = c.stands }
