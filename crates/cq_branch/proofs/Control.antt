-- The rows of control, as what an engine does by them.
use Rattle.std.proofs.Common.{◌≡◌, ℕ, ◌<◌, ◌≤◌, ◌+◌, List, [], ◌∷◌, length, Option, None, Some, Bool, true, false, refl, sym, ap, ◌∙◌, subst, arith}
use Rattle.std.specs.Prelude.{if◌then◌else◌}
use Rattle.spec_syntax.specs.Trees.{Tree}
use Rattle.spec_builtins.specs.Built.{compound1}
use Rattle.spec_builtins.specs.Kinds.{is_callable}
use Rattle.spec_branch.specs.Branch as branch
use Rattle.spec_branch.specs.Branch.{State, Item, Branch, no_work}
use Rattle.spec_search.specs.Balls as balls
use Rattle.spec_search.specs.Control.{put, and_row, or_row, first_items, if_then_row, if_then_items, cut_row, not_row}
use Rattle.spec_search.specs.Replies.{Place, child, made, makes, goes_on, onward}
use Rattle.spec_search.specs.Search.{look_at}
use Rattle.cq_control.specs.Heights.{total}
use Rattle.cq_control.specs.Items.{items_at}
use Rattle.cq_control.specs.Open.{last}
use Rattle.spec_engine.specs.declared.machine.cell.Cell.{Cell}
use Rattle.spec_engine.specs.declared.machine.cell.Cell.TheVariants.{CutTo, CutFail}
use Rattle.spec_engine.specs.Cells.{Fits, One, size, Value, Stack, below}
use Rattle.spec_engine.specs.Standing.{AreItems, IsContinuation, AreWaiting}
use Rattle.spec_engine.specs.Coming.{at_once, Rest}
use Rattle.spec_engine.proofs.Kept.{fits_more, items_older, items_last, waiting-last, length-last, last-all, last-older}
use Rattle.spec_engine.proofs.Made.{child_kept, choice_waits}
use Rattle.cq_branch.specs.Lists.{put_cell}
use Rattle.cq_branch.specs.Selecting.{Reads, IsSelected, Becomes}

module _ {W : Type 0} (IsState : W → State → Type 0) (term : W → ℕ → Option Tree) where
  -- ---- items in front

  -- a goal that a construct puts in front of these
  pub put_items : (choices : Stack W) (w : W) (st : State) (t height : ℕ) (goal : Tree) (cs : List Cell) (more : List Item) → Reads IsState term w st t goal
      → AreItems IsState term choices w st cs more
      → AreItems IsState term choices w st (put_cell (is_callable goal) t height ∷ cs) (put goal (below choices height) ∷ more)
  put_items choices w st t height goal cs more r a = go (is_callable goal) refl where
    item : Bool → Item
    item c = branch.Goal (if c then goal else compound1 "call" goal) (below choices height)

    go : (b : Bool) → is_callable goal ≡ b → AreItems IsState term choices w st (put_cell b t height ∷ cs) (put goal (below choices height) ∷ more)
    go true e = (goal, more, ap (λ (c : Bool). item c ∷ more) e, r.0 ∙ ap (λ (x : Tree). Some x) (sym r.1), a)
    go false e = (goal, below choices height, more, ap (λ (c : Bool). item c ∷ more) e, r.0 ∙ ap (λ (x : Tree). Some x) (sym r.1), a)

  -- a continuation of these cells
  pub built : (choices : Stack W) (w : W) (lists : List (List Cell)) (k : ℕ) (cs : List Cell) (items : List Item) (st : State) → k < length lists → items_at lists k ≡ cs
      → Fits (length choices) cs → IsState w st → AreItems IsState term choices w st cs items → IsContinuation IsState term choices (w, lists) k items st
  built choices w lists k cs items st there e f i a = record {
    there = there;
    fits = subst (Fits (length choices)) (sym e) f;
    state = i;
    cells = subst (λ l. AreItems IsState term choices w st l items) (sym e) a;
  }

  put_fits : (n t height : ℕ) (b : Bool) (cs : List Cell) → height ≤ n → Fits height cs → Fits n (put_cell b t height ∷ cs)
  put_fits n t height true cs le f = (le, f)
  put_fits n t height false cs le f = fits_more height n cs le f

  -- ---- children

  -- no child: the engine comes back
  pub no_children : (choices : Stack W) (now : Value W) (p : Place) (behind : List Branch) → AreWaiting IsState term choices behind
      → Becomes IsState term choices now None p behind (makes p [])
  no_children choices now p behind wait = record {
    made = made p [];
    row = refl;
    database = refl;
    output = refl;
    comes = λ steps s d b. record {
      reached = s;
      quiet = at_once;
      stands = record { database = d; selected = refl; first = []; behind = behind; branches = b; current = refl; waiting = wait };
    };
  }

  module _ (rests : Rest IsState) where
    -- one child, which goes on with a continuation
    pub goes_on_with : (choices : Stack W) (now : Value W) (k : ℕ) (p : Place) (behind : List Branch) (items : List Item)
        → IsContinuation IsState term choices now k items p.state → AreWaiting IsState term choices behind
        → Becomes IsState term choices now (Some k) p behind (goes_on p items)
    goes_on_with choices now k p behind items c wait = record {
      made = made p (child items p.state no_work ∷ []);
      row = refl;
      database = refl;
      output = refl;
      comes = λ steps s d b. child_kept IsState term steps p.database s.selected choices now k s items p.state no_work behind d refl (ap look_at b) refl
          items p.state (rests now.0 p.state items c.state) c wait;
    }

    -- the first of two children goes on, and the second waits as a choice
    chooses : (choices : Stack W) (now : Value W) (k other : ℕ) (p : Place) (behind : List Branch) (items others : List Item)
        → IsContinuation IsState term ((now, One other) ∷ choices) now k items p.state → IsContinuation IsState term choices now other others p.state
        → AreWaiting IsState term choices behind
        → Becomes IsState term ((now, One other) ∷ choices) now (Some k) p behind (makes p (child items p.state no_work ∷ child others p.state no_work ∷ []))
    chooses choices now k other p behind items others c d wait = record {
      made = made p (child items p.state no_work ∷ child others p.state no_work ∷ []);
      row = refl;
      database = refl;
      output = refl;
      comes = λ steps s e b. child_kept IsState term steps p.database s.selected ((now, One other) ∷ choices) now k s items p.state no_work
          (child others p.state no_work ∷ behind) e refl (ap look_at b) refl items p.state (rests now.0 p.state items c.state) c
          (choice_waits IsState term choices now other others p.state behind d wait);
    }

    -- ---- rows, of a goal that was selected over these choices, in a world to which continuations were added
    module _ (choices : Stack W) (w : W) (old lists : List (List Cell)) (height rest : ℕ) (p : Place) (behind : List Branch)
        (s : IsSelected IsState term choices (w, old) height rest p behind) where
      -- all choices are below this height
      all_below : below choices (length choices) ≡ p.height
      all_below = ap (total size) (last-all choices (length choices) (omega arith)) ∙ sym s.place.height

      -- A,B becomes A, then B
      pub and_becomes : (k left right : ℕ) (a b : Tree) → Reads IsState term w p.state left a → Reads IsState term w p.state right b → k < length lists
          → items_at lists k ≡ put_cell (is_callable a) left height ∷ put_cell (is_callable b) right height ∷ items_at old rest
          → Becomes IsState term choices (w, lists) (Some k) p behind (and_row p a b)
      and_becomes k left right a b ra rb there e =
          subst (λ h. Becomes IsState term choices (w, lists) (Some k) p behind (goes_on p (put a h ∷ put b h ∷ p.rest))) (sym s.goes_back)
          (goes_on_with choices (w, lists) k p behind (put a (below choices height) ∷ put b (below choices height) ∷ p.rest)
          (built choices w lists k _ _ p.state there e
          (put_fits (length choices) left height (is_callable a) _ s.within (put_fits height right height (is_callable b) _ (omega arith) s.fits))
          s.place.continuation.state
          (put_items choices w p.state left height a _ _ ra (put_items choices w p.state right height b _ _ rb s.place.continuation.cells)))
          s.waiting)

      -- C->T, with one child
      pub if_then_becomes : (k condition second : ℕ) (c t : Tree) → Reads IsState term w p.state condition c → Reads IsState term w p.state second t → k < length lists
          → items_at lists k ≡ put_cell (is_callable c) condition (length choices) ∷ CutTo (length choices) ∷ put_cell (is_callable t) second height ∷ items_at old rest
          → Becomes IsState term choices (w, lists) (Some k) p behind (if_then_row p c t)
      if_then_becomes k condition second c t rc rt there e =
          let P : ℕ → ℕ → Type 0 = λ h g. Becomes IsState term choices (w, lists) (Some k) p behind (goes_on p (put c h ∷ branch.CutTo h ∷ put t g ∷ p.rest)) in
          subst (λ h. P h p.cut) all_below
          (subst (P (below choices (length choices))) (sym s.goes_back)
          (goes_on_with choices (w, lists) k p behind (put c (below choices (length choices)) ∷ branch.CutTo (below choices (length choices)) ∷ put t (below choices height) ∷ p.rest)
          (built choices w lists k _ _ p.state there e
          (put_fits (length choices) condition (length choices) (is_callable c) _ (omega arith)
          (omega arith, put_fits (length choices) second height (is_callable t) _ s.within s.fits))
          s.place.continuation.state
          (put_items choices w p.state condition (length choices) c _ _ rc (_, refl, put_items choices w p.state second height t _ _ rt s.place.continuation.cells)))
          s.waiting))

      -- ---- with one more choice, of another continuation
      module _ (k other : ℕ) (there : k < length lists) (other_there : other < length lists) where
        abbrev pub pushed : Stack W
        pushed = ((w, lists), One other) ∷ choices

        same_below : (h : ℕ) → h ≤ length choices → below pushed h ≡ below choices h
        same_below h le = ap (total size) (last-older ((w, lists), One other) choices h le)

        one_more : below pushed (length choices + 1) ≡ p.height + 1
        one_more =
            let e : below pushed (length choices + 1) ≡ 1 + total size choices = ap (total size) (last-all pushed (length choices + 1) (omega arith)) in
            omega (arith, e, s.place.height)

        below_old : below pushed (length choices) ≡ p.height
        below_old = same_below (length choices) (omega arith) ∙ all_below

        goes_back : below pushed height ≡ p.cut
        goes_back = same_below height s.within ∙ sym s.goes_back

        older_items : (cs : List Cell) (items : List Item) → Fits (length choices) cs → AreItems IsState term choices w p.state cs items → AreItems IsState term pushed w p.state cs items
        older_items cs items f a = items_older IsState term ((w, lists), One other) choices w p.state cs items f a

        two : (items others items' others' : List Item) → items ≡ items' → others ≡ others'
            → Becomes IsState term pushed (w, lists) (Some k) p behind (makes p (child items p.state no_work ∷ child others p.state no_work ∷ []))
            → Becomes IsState term pushed (w, lists) (Some k) p behind (makes p (child items' p.state no_work ∷ child others' p.state no_work ∷ []))
        two items others items' others' e f b =
            subst (λ o. Becomes IsState term pushed (w, lists) (Some k) p behind (makes p (child items' p.state no_work ∷ child o p.state no_work ∷ []))) f
            (subst (λ i. Becomes IsState term pushed (w, lists) (Some k) p behind (makes p (child i p.state no_work ∷ child others p.state no_work ∷ []))) e b)

        -- the continuation behind the goal, over the choices and with one more
        rest_items : AreItems IsState term pushed w p.state (items_at old rest) p.rest
        rest_items = older_items (items_at old rest) p.rest s.place.continuation.fits s.place.continuation.cells

        -- C, then a cut to the choices, then T
        condition_items : (condition second : ℕ) (c t : Tree) → Reads IsState term w p.state condition c → Reads IsState term w p.state second t
            → AreItems IsState term pushed w p.state (put_cell (is_callable c) condition (length choices + 1) ∷ CutTo (length choices) ∷ put_cell (is_callable t) second height ∷ items_at old rest)
            (put c (below pushed (length choices + 1)) ∷ branch.CutTo (below pushed (length choices)) ∷ put t (below pushed height) ∷ p.rest)
        condition_items condition second c t rc rt =
            put_items pushed w p.state condition (length choices + 1) c _ _ rc (_, refl, put_items pushed w p.state second height t _ _ rt rest_items)

        -- A;B where A is no if-then
        pub or_becomes : (left right : ℕ) (a b : Tree) → Reads IsState term w p.state left a → Reads IsState term w p.state right b → first_items p a ≡ put a p.cut ∷ p.rest
            → items_at lists k ≡ put_cell (is_callable a) left height ∷ items_at old rest → items_at lists other ≡ put_cell (is_callable b) right height ∷ items_at old rest
            → Becomes IsState term pushed (w, lists) (Some k) p behind (or_row p a b)
        or_becomes left right a b ra rb first e f =
            two (put a (below pushed height) ∷ p.rest) (put b (below choices height) ∷ p.rest) (first_items p a) (put b p.cut ∷ p.rest)
            (ap (λ h. put a h ∷ p.rest) goes_back ∙ sym first) (ap (λ h. put b h ∷ p.rest) (sym s.goes_back))
            (chooses choices (w, lists) k other p behind _ _
            (built pushed w lists k _ _ p.state there e (put_fits (length pushed) left height (is_callable a) _ (omega (arith, s.within)) s.fits) s.place.continuation.state
            (put_items pushed w p.state left height a _ _ ra rest_items))
            (built choices w lists other _ _ p.state other_there f (put_fits (length choices) right height (is_callable b) _ s.within s.fits) s.place.continuation.state
            (put_items choices w p.state right height b _ _ rb s.place.continuation.cells))
            s.waiting)

        -- C->T;B
        pub if_then_else_becomes : (condition second right : ℕ) (a c t b : Tree) → Reads IsState term w p.state condition c → Reads IsState term w p.state second t
            → Reads IsState term w p.state right b → first_items p a ≡ if_then_items p (p.height + 1) c t
            → items_at lists k ≡ put_cell (is_callable c) condition (length choices + 1) ∷ CutTo (length choices) ∷ put_cell (is_callable t) second height ∷ items_at old rest
            → items_at lists other ≡ put_cell (is_callable b) right height ∷ items_at old rest
            → Becomes IsState term pushed (w, lists) (Some k) p behind (or_row p a b)
        if_then_else_becomes condition second right a c t b rc rt rb first e f =
            two (put c (below pushed (length choices + 1)) ∷ branch.CutTo (below pushed (length choices)) ∷ put t (below pushed height) ∷ p.rest) (put b (below choices height) ∷ p.rest)
            (first_items p a) (put b p.cut ∷ p.rest)
            (ap (λ h. put c h ∷ branch.CutTo (below pushed (length choices)) ∷ put t (below pushed height) ∷ p.rest) one_more
            ∙ ap (λ h. put c (p.height + 1) ∷ branch.CutTo h ∷ put t (below pushed height) ∷ p.rest) below_old
            ∙ ap (λ h. put c (p.height + 1) ∷ branch.CutTo p.height ∷ put t h ∷ p.rest) goes_back ∙ sym first)
            (ap (λ h. put b h ∷ p.rest) (sym s.goes_back))
            (chooses choices (w, lists) k other p behind _ _
            (built pushed w lists k _ _ p.state there e
            (put_fits (length pushed) condition (length choices + 1) (is_callable c) _ (omega arith)
            (omega arith, put_fits (length choices) second height (is_callable t) _ s.within s.fits))
            s.place.continuation.state (condition_items condition second c t rc rt))
            (built choices w lists other _ _ p.state other_there f (put_fits (length choices) right height (is_callable b) _ s.within s.fits) s.place.continuation.state
            (put_items choices w p.state right height b _ _ rb s.place.continuation.cells))
            s.waiting)

        -- \+ G: first G, a cut and no child, second it goes on
        pub not_becomes : (id : ℕ) (g : Tree) → Reads IsState term w p.state id g
            → items_at lists k ≡ put_cell (is_callable g) id (length choices + 1) ∷ CutFail (length choices) ∷ items_at old rest → items_at lists other ≡ items_at old rest
            → Becomes IsState term pushed (w, lists) (Some k) p behind (not_row p g)
        not_becomes id g r e f =
            two (put g (below pushed (length choices + 1)) ∷ branch.CutFail (below pushed (length choices)) ∷ p.rest) p.rest
            (put g (p.height + 1) ∷ branch.CutFail p.height ∷ p.rest) p.rest
            (ap (λ h. put g h ∷ branch.CutFail (below pushed (length choices)) ∷ p.rest) one_more ∙ ap (λ h. put g (p.height + 1) ∷ branch.CutFail h ∷ p.rest) below_old)
            refl
            (chooses choices (w, lists) k other p behind _ _
            (built pushed w lists k _ _ p.state there e
            (put_fits (length pushed) id (length choices + 1) (is_callable g) _ (omega arith) (omega arith, s.place.continuation.fits))
            s.place.continuation.state (put_items pushed w p.state id (length choices + 1) g _ _ r (_, refl, rest_items)))
            (built choices w lists other _ _ p.state other_there f s.place.continuation.fits s.place.continuation.state s.place.continuation.cells)
            s.waiting)

      -- a cut keeps the choices below the height, and it goes on
      pub cut_becomes : Becomes IsState term (last height choices) (w, old) (Some rest) p behind (cut_row p)
      cut_becomes = record {
        made = record (made p (onward p)) { keeps = Some p.cut };
        row = refl;
        database = refl;
        output = refl;
        comes = λ steps t d b. child_kept IsState term steps p.database t.selected (last height choices) (w, old) rest t p.rest p.state no_work (balls.last p.cut behind) d refl
            (ap look_at b) refl p.rest p.state (rests w p.state p.rest s.place.continuation.state)
            (record {
              there = s.place.continuation.there;
              fits = subst (λ n. Fits n (items_at old rest)) (sym (length-last choices height s.within)) s.fits;
              state = s.place.continuation.state;
              cells = items_last IsState term choices height w p.state (items_at old rest) p.rest s.fits s.place.continuation.cells;
            })
            (subst (λ h. AreWaiting IsState term (last height choices) (balls.last h behind)) (sym s.goes_back) (waiting-last IsState term choices height behind s.waiting));
      }
