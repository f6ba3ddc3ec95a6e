-- A selected goal makes children, of which the first is settled.
use Rattle.std.proofs.Common.{inl, ◌≡◌, ℕ, List, [], ◌∷◌, Option, None, Some, refl, ap, ◌∙◌}
use Rattle.spec_syntax.specs.Trees.{Tree}
use Rattle.spec_branch.specs.Branch.{State, Item, Branch, Pending, no_work, read}
use Rattle.spec_branch.specs.Settling.{Settles, Kept, Pruned, Why}
use Rattle.spec_search.specs.Database.{Database, clause_removed}
use Rattle.spec_search.specs.Replies.{Makes, Made, child}
use Rattle.spec_search.specs.Rows.{reply_of}
use Rattle.spec_search.specs.Steps as step
use Rattle.spec_search.specs.Search.{Search, is_selecting, settled, Settling, Selecting, look_at}
use Rattle.spec_search.specs.Turns as turn
use Rattle.spec_search.specs.Turns.{Turn, Wrote, with_branches, place_of, after_step, after_removal}
use Rattle.spec_engine.specs.Cells.{One, Value, Stack}
use Rattle.spec_engine.specs.Standing.{engine, IsContinuation, AreWaiting}
use Rattle.spec_engine.specs.Coming.{at_once, after, Comes}

-- a goal whose row makes children: its turn writes what the row does, and the children stand in front of the branches that are kept
pub goal_made : (s : Search) (goal : Tree) (cut : ℕ) (items : List Item) (st : State) (behind : List Branch) (m : Made)
    → look_at s.branches ≡ Selecting goal cut items st behind → reply_of (place_of s st items cut behind) (read st goal) ≡ Makes m
    → Turn s (Wrote m.output) (after_step s m behind)
goal_made s goal cut items st behind m look row = turn.steps look (step.makes row)

module _ {W : Type 0} (IsState : W → State → Type 0) (term : W → ℕ → Option Tree) where
  -- the first branch is settled and kept: the engine goes on with a continuation that stands for it
  pub child_kept : (steps : ℕ) (db : Database) (n : ℕ) (rs : Stack W) (now : Value W) (k : ℕ) (s : Search) (items : List Item) (st : State) (p : Pending) (behind : List Branch)
      → s.database ≡ db → s.selected ≡ n → look_at s.branches ≡ Settling items st p behind → p.removes ≡ None
      → (items' : List Item) (st' : State) → Settles items st p (Kept (settled items' st')) → IsContinuation IsState term rs now k items' st' → AreWaiting IsState term rs behind
      → Comes IsState term steps (engine db n rs now (Some k)) s
  child_kept steps db n rs now k s items st p behind d e look none items' st' keep cont wait = record {
    reached = record s { database = after_removal p.removes s.database; branches = settled items' st' ∷ behind };
    quiet = after (inl (ap is_selecting look)) (turn.keeps look keep) at_once;
    stands = record {
      database = ap (λ (o : Option ℕ). after_removal o s.database) none ∙ d;
      selected = e;
      first = settled items' st' ∷ [];
      behind = behind;
      branches = refl;
      current = (items', st', refl, cont);
      waiting = wait;
    };
  }

  -- the same, where a clause is removed then
  pub child_removes : (steps : ℕ) (db : Database) (n : ℕ) (rs : Stack W) (now : Value W) (k : ℕ) (s : Search) (items : List Item) (st : State) (p : Pending) (behind : List Branch)
      → s.database ≡ db → s.selected ≡ n → look_at s.branches ≡ Settling items st p behind → (m : ℕ) → p.removes ≡ Some m
      → (items' : List Item) (st' : State) → Settles items st p (Kept (settled items' st')) → IsContinuation IsState term rs now k items' st' → AreWaiting IsState term rs behind
      → Comes IsState term steps (engine (clause_removed m db) n rs now (Some k)) s
  child_removes steps db n rs now k s items st p behind d e look m some items' st' keep cont wait = record {
    reached = record s { database = after_removal p.removes s.database; branches = settled items' st' ∷ behind };
    quiet = after (inl (ap is_selecting look)) (turn.keeps look keep) at_once;
    stands = record {
      database = ap (λ (o : Option ℕ). after_removal o s.database) some ∙ ap (clause_removed m) d;
      selected = e;
      first = settled items' st' ∷ [];
      behind = behind;
      branches = refl;
      current = (items', st', refl, cont);
      waiting = wait;
    };
  }

  -- it is pruned: the engine comes back
  pub child_pruned : (steps : ℕ) (db : Database) (n : ℕ) (rs : Stack W) (now : Value W) (s : Search) (items : List Item) (st : State) (p : Pending) (behind : List Branch)
      → s.database ≡ db → s.selected ≡ n → look_at s.branches ≡ Settling items st p behind → p.ball ≡ None
      → (why : Why) → Settles items st p (Pruned why) → AreWaiting IsState term rs behind
      → Comes IsState term steps (engine db n rs now None) s
  child_pruned steps db n rs now s items st p behind d e look none why prune wait = record {
    reached = with_branches behind s;
    quiet = after (inl (ap is_selecting look)) (turn.prunes look prune none) at_once;
    stands = record { database = d; selected = e; first = []; behind = behind; branches = refl; current = refl; waiting = wait };
  }

  -- one more choice, for a branch that goes on with a continuation
  pub choice_waits : (rs : Stack W) (now : Value W) (k : ℕ) (items : List Item) (st : State) (behind : List Branch)
      → IsContinuation IsState term rs now k items st → AreWaiting IsState term rs behind
      → AreWaiting IsState term ((now, One k) ∷ rs) (child items st no_work ∷ behind)
  choice_waits rs now k items st behind c wait = (child items st no_work ∷ [], behind, refl, (items, st, refl, c), wait)
