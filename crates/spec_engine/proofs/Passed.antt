-- Marks that are passed, choices that are come back to, and goals that are selected.
use Rattle.std.proofs.Common.{inl, ◌≡◌, Bool, ℕ, suc, ◌<◌, List, [], ◌∷◌, ◌++◌, length, Option, None, Some, refl, sym, ap, ◌∙◌, subst, map, arith}
use Rattle.std.proofs.lemmas.Option.{none-some}
use Rattle.spec_syntax.specs.Trees.{Tree}
use Rattle.spec_branch.specs.Branch.{State, Item, Branch, no_work, read}
use Rattle.spec_search.specs.Database.{Database, Clause}
use Rattle.spec_builtins.specs.Alternatives.{Alternative}
use Rattle.spec_search.specs.Replies.{Place, child, alternative_child, with_new, with_equations}
use Rattle.spec_search.specs.Changes.{clause_match}
use Rattle.spec_search.specs.Control.{clause_child, clause_items, clause_state, clause_work}
use Rattle.spec_search.specs.Balls as balls
use Rattle.spec_search.specs.Search.{Search, is_selecting, settled, Settling, Selecting, look_at}
use Rattle.spec_search.specs.Turns as turn
use Rattle.spec_search.specs.Turns.{with_branches, place_of}
use Rattle.cq_control.specs.Items.{items_at}
use Rattle.cq_control.specs.Open.{last}
use Rattle.spec_engine.specs.declared.machine.cell.Cell.{Cell}
use Rattle.spec_engine.specs.declared.machine.cell.Cell.TheVariants.{Goal, CutTo, CutFail, CatchEnd}
use Rattle.spec_engine.specs.Cells.{Fits, Left, One, Clauses, Ways, Barrier, Catches, Caught, Gathers, Matches, Value, Stack, below, as_catch, top_catch}
use Rattle.spec_engine.specs.Standing.{engine, removed_by, AreItems, IsPlace, AreBranches, AreWaiting, IsStanding}
use Rattle.spec_engine.specs.Coming.{at_once, after, Comes, Rest}
use Rattle.spec_engine.specs.Trying.{TakesBall, ComparesClause}
use Rattle.spec_engine.proofs.Kept.{last-older, last-all, length-last, fits_more, items_last, length-waiting, waiting-last}

module _ {W : Type 0} (IsState : W → State → Type 0) (term : W → ℕ → Option Tree) where
  -- a search whose first branch is this one, settled
  first_is : (s : Search) (first behind : List Branch) (items items' : List Item) (st : State) → s.branches ≡ first ++ behind → first ≡ settled items st ∷ [] → items ≡ items'
      → s.branches ≡ settled items' st ∷ behind
  first_is s first behind items items' st e f i = e ∙ ap (λ l. l ++ behind) f ∙ ap (λ is. settled is st ∷ behind) i

  -- the newest choice, which is a catch, stands for no branch
  catch_none : (older : Stack W) (v : Value W) (left : Left) (call : Value W × ℕ) (own : List Branch) → as_catch v left ≡ Some call → AreBranches IsState term older v left own → own ≡ []
  catch_none older v (One k) call own e a = absurd (none-some call e)
  catch_none older v (Clauses t cs k) call own e a = absurd (none-some call e)
  catch_none older v (Ways ways k) call own e a = absurd (none-some call e)
  catch_none older v Barrier call own e a = absurd (none-some call e)
  catch_none older v (Catches k) call own e a = a
  catch_none older v (Caught ball c r k) call own e a = absurd (none-some call e)
  catch_none older v (Gathers t copies k) call own e a = absurd (none-some call e)
  catch_none older v (Matches t removes cs k) call own e a = absurd (none-some call e)

  no_catch : (rs : Stack W) (h : ℕ) (bs : List Branch) {call : Value W × ℕ} → length rs ≡ suc h → top_catch rs ≡ Some call → AreWaiting IsState term rs bs
      → AreWaiting IsState term (last h rs) bs
  no_catch [] h bs {call} e t w = absurd (none-some call t)
  no_catch (c ∷ older) h bs {call} e t w =
      let n : length older ≡ h = omega (arith, e) in
      let same : last h (c ∷ older) ≡ older = last-older c older h (omega (arith, n)) ∙ last-all older h (omega (arith, n)) in
      let is : w.1 ≡ bs = ap (λ l. l ++ w.1) (sym (catch_none older c.0 c.1 call w.0 t w.3)) ∙ sym w.2 in
      subst (λ (cs : Stack W). AreWaiting IsState term cs bs) (sym same) (subst (AreWaiting IsState term older) is w.4)

  module _ (steps : ℕ) (db : Database) (n : ℕ) (rs : Stack W) (now : Value W) (k next : ℕ) (s : Search) (j : IsStanding IsState term (engine db n rs now (Some k)) s) (earlier : next < k) where
    -- the cells in front
    front : (cs : List Cell) → items_at now.1 k ≡ cs → AreItems IsState term rs now.0 j.current.1 cs j.current.0 × Fits (length rs) cs
    front cs e = (subst (λ l. AreItems IsState term rs now.0 j.current.1 l j.current.0) e j.current.3.cells, subst (Fits (length rs)) e j.current.3.fits)

    behind_there : next < length now.1
    behind_there = omega (arith, j.current.3.there)

    pub cut_passed : (h : ℕ) → items_at now.1 k ≡ CutTo h ∷ items_at now.1 next → Comes IsState term steps (engine db n (last h rs) now (Some next)) s
    cut_passed h e =
        let f = front (CutTo h ∷ items_at now.1 next) e in
        let st = j.current.1 in
        let bs = settled f.0.0 st ∷ balls.last (below rs h) j.behind in
        let long : length (last h rs) ≡ h = length-last rs h f.1.0 in
        record {
          reached = with_branches bs s;
          quiet = after (inl (ap is_selecting (ap look_at (first_is s j.first j.behind j.current.0 _ st j.branches j.current.2 f.0.1)))) (turn.moves (ap look_at (first_is s j.first j.behind j.current.0 _ st j.branches j.current.2 f.0.1))) at_once;
          stands = record {
            database = j.database;
            selected = j.selected;
            first = settled f.0.0 st ∷ [];
            behind = balls.last (below rs h) j.behind;
            branches = refl;
            current = (
              f.0.0,
              st,
              refl,
              record {
                there = behind_there;
                fits = subst (λ m. Fits m (items_at now.1 next)) (sym long) f.1.1;
                state = j.current.3.state;
                cells = items_last IsState term rs h now.0 st (items_at now.1 next) f.0.0 f.1.1 f.0.2;
              },
            );
            waiting = waiting-last IsState term rs h j.behind j.waiting;
          };
        }

    pub fail_passed : (h : ℕ) → items_at now.1 k ≡ CutFail h ∷ items_at now.1 next → Comes IsState term steps (engine db n (last h rs) now None) s
    fail_passed h e =
        let f = front (CutFail h ∷ items_at now.1 next) e in
        let st = j.current.1 in
        record {
          reached = with_branches (balls.last (below rs h) j.behind) s;
          quiet = after (inl (ap is_selecting (ap look_at (first_is s j.first j.behind j.current.0 _ st j.branches j.current.2 f.0.1)))) (turn.moves (ap look_at (first_is s j.first j.behind j.current.0 _ st j.branches j.current.2 f.0.1))) at_once;
          stands = record {
            database = j.database;
            selected = j.selected;
            first = [];
            behind = balls.last (below rs h) j.behind;
            branches = refl;
            current = refl;
            waiting = waiting-last IsState term rs h j.behind j.waiting;
          };
        }

    pub end_passed : (h c r : ℕ) → items_at now.1 k ≡ CatchEnd h c r ∷ items_at now.1 next → Comes IsState term steps (engine db n rs now (Some next)) s
    end_passed h c r e =
        let f = front (CatchEnd h c r ∷ items_at now.1 next) e in
        let st = j.current.1 in
        let more = f.0.4 in
        record {
          reached = with_branches (settled more st ∷ j.behind) s;
          quiet = after (inl (ap is_selecting (ap look_at (first_is s j.first j.behind j.current.0 _ st j.branches j.current.2 f.0.5)))) (turn.moves (ap look_at (first_is s j.first j.behind j.current.0 _ st j.branches j.current.2 f.0.5))) at_once;
          stands = record {
            database = j.database;
            selected = j.selected;
            first = settled more st ∷ [];
            behind = j.behind;
            branches = refl;
            current = (
              more,
              st,
              refl,
              record {
                there = behind_there;
                fits = fits_more h (length rs) (items_at now.1 next) (omega (arith, f.1.0)) f.1.1;
                state = j.current.3.state;
                cells = f.0.13;
              },
            );
            waiting = j.waiting;
          };
        }

    -- the same where the choice of the catch is the newest one: it stands for no branch
    pub end_cuts : (h c r : ℕ) → items_at now.1 k ≡ CatchEnd h c r ∷ items_at now.1 next → length rs ≡ suc h → Comes IsState term steps (engine db n (last h rs) now (Some next)) s
    end_cuts h c r e top =
        let f = front (CatchEnd h c r ∷ items_at now.1 next) e in
        let st = j.current.1 in
        let more = f.0.4 in
        let long : length (last h rs) ≡ h = length-last rs h (omega (arith, f.1.0)) in
        let is = first_is s j.first j.behind j.current.0 _ st j.branches j.current.2 f.0.5 in
        record {
          reached = with_branches (settled more st ∷ j.behind) s;
          quiet = after (inl (ap is_selecting (ap look_at is))) (turn.moves (ap look_at is)) at_once;
          stands = record {
            database = j.database;
            selected = j.selected;
            first = settled more st ∷ [];
            behind = j.behind;
            branches = refl;
            current = (
              more,
              st,
              refl,
              record {
                there = behind_there;
                fits = subst (λ m. Fits m (items_at now.1 next)) (sym long) f.1.1;
                state = j.current.3.state;
                cells = items_last IsState term rs h now.0 st (items_at now.1 next) more f.1.1 f.0.13;
              },
            );
            waiting = no_catch rs h j.behind top (subst (λ (cs : Stack W). top_catch cs ≡ Some f.0.0) (last-all rs (suc h) (omega (arith, top))) f.0.6) j.waiting;
          };
        }

    -- a goal in front is selected: it reads as the world reads its term, and stands in a place with this continuation behind it
    pub selects : (t cut : ℕ) → items_at now.1 k ≡ Goal t cut ∷ items_at now.1 next
        → (goal : Tree) × (items : List Item) × (st : State) × (look_at s.branches ≡ Selecting goal (below rs cut) items st j.behind)
        × (term now.0 t ≡ Some (read st goal)) × IsPlace IsState term rs now next (place_of s st items (below rs cut) j.behind)
    selects t cut e =
        let f = front (Goal t cut ∷ items_at now.1 next) e in
        let st = j.current.1 in (
          f.0.0,
          f.0.1,
          st,
          ap look_at (first_is s j.first j.behind j.current.0 _ st j.branches j.current.2 f.0.2),
          f.0.3,
          record {
            continuation = record { there = behind_there; fits = fits_more cut (length rs) (items_at now.1 next) f.1.0 f.1.1; state = j.current.3.state; cells = f.0.4 };
            height = length-waiting IsState term rs j.behind j.waiting;
          },
        )

  -- ---- the engine comes back to its newest choice

  module _ (steps : ℕ) (db : Database) (n : ℕ) (older : Stack W) (v now : Value W) (s : Search) where
    pub one_begun : Rest IsState → (k : ℕ) → IsStanding IsState term (engine db n ((v, One k) ∷ older) now None) s → Comes IsState term steps (engine db n older v (Some k)) s
    one_begun rest k j =
        let own = j.waiting.3 in
        let is : s.branches ≡ child own.0 own.1 no_work ∷ j.waiting.1 =
        j.branches ∙ ap (λ l. l ++ j.behind) j.current ∙ j.waiting.2 ∙ ap (λ l. l ++ j.waiting.1) own.2 in
        record {
          reached = record s { database = s.database; branches = settled own.0 own.1 ∷ j.waiting.1 };
          quiet = after (inl (ap is_selecting (ap look_at is))) (turn.keeps (ap look_at is) (rest v.0 own.1 own.0 own.3.state)) at_once;
          stands = record {
            database = j.database;
            selected = j.selected;
            first = settled own.0 own.1 ∷ [];
            behind = j.waiting.1;
            branches = refl;
            current = (own.0, own.1, refl, own.3);
            waiting = j.waiting.4;
          };
        }

    -- the next clause of a call is tried: its branch is settled, and the others wait
    pub clause_begun : (t k : ℕ) (c : Clause) (cs : List Clause) → IsStanding IsState term (engine db n ((v, Clauses t (c ∷ cs) k) ∷ older) now None) s
        → (p : Place) × (goal : Tree) × (behind : List Branch) × (look_at s.branches ≡ Settling (clause_items p c) (clause_state p c) (clause_work p goal c) behind)
        × (term v.0 t ≡ Some goal) × IsPlace IsState term older v k p × AreWaiting IsState term ((v, Clauses t cs k) ∷ older) behind
    clause_begun t k c cs j =
        let own = j.waiting.3 in
        let left = map (clause_child own.0 own.1) cs in
        let is : s.branches ≡ clause_child own.0 own.1 c ∷ (left ++ j.waiting.1) =
        j.branches ∙ ap (λ l. l ++ j.behind) j.current ∙ j.waiting.2 ∙ ap (λ l. l ++ j.waiting.1) own.2 in
        (own.0, own.1, left ++ j.waiting.1, ap look_at is, own.3, own.4, (left, j.waiting.1, refl, (own.0, own.1, refl, own.3, own.4), j.waiting.4))

    -- the next alternative of a predicate is tried: its branch is settled, and the others wait
    pub way_begun : (k : ℕ) (way : Alternative) (ways : List Alternative) → IsStanding IsState term (engine db n ((v, Ways (way ∷ ways) k) ∷ older) now None) s
        → (p : Place) × (behind : List Branch) × (look_at s.branches ≡ Settling p.rest (with_new way.new p.state) (with_equations way.equations) behind)
        × IsPlace IsState term older v k p × AreWaiting IsState term ((v, Ways ways k) ∷ older) behind
    way_begun k way ways j =
        let own = j.waiting.3 in
        let left = map (alternative_child own.0) ways in
        let is : s.branches ≡ alternative_child own.0 way ∷ (left ++ j.waiting.1) =
        j.branches ∙ ap (λ l. l ++ j.behind) j.current ∙ j.waiting.2 ∙ ap (λ l. l ++ j.waiting.1) own.1 in
        (own.0, left ++ j.waiting.1, ap look_at is, own.2, (left, j.waiting.1, refl, (own.0, refl, own.2), j.waiting.4))

    -- a catch takes a ball: the branch that it saved is settled
    pub ball_taken : (ball : Tree) (c r k : ℕ) → IsStanding IsState term (engine db n ((v, Caught ball c r k) ∷ older) now None) s
        → TakesBall IsState term older v ball c r k s
    ball_taken ball c r k j =
        let own = j.waiting.3 in
        let is : s.branches ≡ balls.caught_branch own.2 own.1 own.3 own.4 own.0 ∷ j.waiting.1 =
        j.branches ∙ ap (λ l. l ++ j.behind) j.current ∙ j.waiting.2 ∙ ap (λ l. l ++ j.waiting.1) own.5 in
        record {
          items = own.0;
          state = own.1;
          ball = own.2;
          catcher = own.3;
          recovery = own.4;
          behind = j.waiting.1;
          look = ap look_at is;
          is_stored = own.6;
          reads_catcher = own.7;
          reads_recovery = own.8;
          continuation = own.9;
          waiting = j.waiting.4;
        }

    -- the next clause is compared with the one asked for: its branch is settled, and the others wait
    pub clause_compared : (t : ℕ) (removes : Bool) (c : Clause) (cs : List Clause) (k : ℕ)
        → IsStanding IsState term (engine db n ((v, Matches t removes (c ∷ cs) k) ∷ older) now None) s → ComparesClause IsState term older v t removes c cs k s
    clause_compared t removes c cs k j =
        let own = j.waiting.3 in
        let left = map (clause_match own.0 (removed_by removes) own.1) cs in
        let is : s.branches ≡ clause_match own.0 (removed_by removes) own.1 c ∷ (left ++ j.waiting.1) =
        j.branches ∙ ap (λ l. l ++ j.behind) j.current ∙ j.waiting.2 ∙ ap (λ l. l ++ j.waiting.1) own.2 in
        record {
          place = own.0;
          asked = own.1;
          behind = left ++ j.waiting.1;
          look = ap look_at is;
          reads = own.3;
          is_place = own.4;
          waiting = (left, j.waiting.1, refl, (own.0, own.1, refl, own.3, own.4), j.waiting.4);
        }
