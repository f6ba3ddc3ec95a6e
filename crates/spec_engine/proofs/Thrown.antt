-- A query begins, and a ball is handed to the nearest catch.
use Rattle.std.proofs.Common.{◌≡◌, ℕ, ◌<◌, List, [], ◌∷◌, length, Option, None, Some, refl, sym, ap, ◌∙◌, subst, arith}
use Rattle.std.proofs.lemmas.Option.{same_Some, none-some}
use Rattle.spec_syntax.specs.Trees.{Tree}
use Rattle.spec_builtins.specs.Bodies.{as_goal}
use Rattle.spec_branch.specs.Branch.{State, Item, Branch, Copied, read}
use Rattle.spec_search.specs.Database.{Database}
use Rattle.spec_search.specs.Balls as balls
use Rattle.spec_search.specs.Balls.{handed, caught_branch}
use Rattle.spec_search.specs.Control.{put}
use Rattle.spec_search.specs.Search.{settled, empty_state, start}
use Rattle.cq_control.specs.Items.{items_at}
use Rattle.spec_engine.specs.declared.machine.cell.Cell.{Cell}
use Rattle.spec_engine.specs.declared.machine.cell.Cell.TheVariants.{Goal, Call, CutTo, CutFail, CatchEnd, Collect}
use Rattle.cq_control.specs.Open.{last}
use Rattle.spec_engine.specs.Cells.{Caught, Fits, nearest_catch, Value, Stack, below, catch_at}
use Rattle.spec_engine.specs.Standing.{engine, AreItems, IsContinuation, AreWaiting, IsStanding, IsHanded, IsStoredAs}
use Rattle.spec_engine.proofs.Kept.{items_last, length-last, waiting-last}

pub nearest_fits : (n : ℕ) (cs : List Cell) (q : ℕ × ℕ × ℕ × List Cell) → Fits n cs → nearest_catch cs ≡ Some q → (q.0 < n) × Fits q.0 q.3
nearest_fits n [] q f e = absurd (none-some q e)
nearest_fits n (Goal t cut ∷ cs) q f e = let r = nearest_fits cut cs q f.1 e in (omega (arith, r.0, f.0), r.1)
nearest_fits n (Call t ∷ cs) q f e = nearest_fits n cs q f e
nearest_fits n (CutTo h ∷ cs) q f e = let r = nearest_fits h cs q f.1 e in (omega (arith, r.0, f.0), r.1)
nearest_fits n (CutFail h ∷ cs) q f e = let r = nearest_fits h cs q f.1 e in (omega (arith, r.0, f.0), r.1)
nearest_fits n (CatchEnd h c r ∷ cs) q f e =
    let P : ℕ × ℕ × ℕ × List Cell → Type 0 = λ p. (p.0 < n) × Fits p.0 p.3 in
    subst P (same_Some (h, c, r, cs) q e) f
nearest_fits n (Collect h t ∷ cs) q f e = let r = nearest_fits h cs q f.1 e in (omega (arith, r.0, f.0), r.1)

module _ {W : Type 0} (IsState : W → State → Type 0) (term : W → ℕ → Option Tree) where
  pub query_begins : (db : Database) (query : Tree) (n : ℕ) (now : Value W) (k t : ℕ) → IsState now.0 (empty_state n) → k < length now.1 → items_at now.1 k ≡ Goal t 0 ∷ []
      → term now.0 t ≡ Some (read (empty_state n) (as_goal query)) → IsStanding IsState term (engine db 0 [] now (Some k)) (start db query n)
  query_begins db query n now k t i there e reads = record {
    database = refl;
    selected = refl;
    first = settled (put query 0 ∷ []) (empty_state n) ∷ [];
    behind = [];
    branches = refl;
    current = (
      put query 0 ∷ [],
      empty_state n,
      refl,
      record {
        there = there;
        fits = subst (Fits 0) (sym e) (omega arith, tt);
        state = i;
        cells = subst (λ cs. AreItems IsState term [] now.0 (empty_state n) cs (put query 0 ∷ [])) (sym e) (as_goal query, [], refl, reads, refl);
      },
    );
    waiting = refl;
  }

  pub uncaught : (rs : Stack W) (w : W) (st : State) (cs : List Cell) (items : List Item) (ball : Copied) (bs : List Branch)
      → AreItems IsState term rs w st cs items → nearest_catch cs ≡ None → handed ball items bs ≡ None
  uncaught rs w st [] items ball bs a e = ap (λ is. handed ball is bs) a
  uncaught rs w st (Goal t cut ∷ cs) items ball bs a e = ap (λ is. handed ball is bs) a.2 ∙ uncaught rs w st cs a.1 ball bs a.4 e
  uncaught rs w st (Call t ∷ cs) items ball bs a e = ap (λ is. handed ball is bs) a.3 ∙ uncaught rs w st cs a.2 ball bs a.5 e
  uncaught rs w st (CutTo h ∷ cs) items ball bs a e = ap (λ is. handed ball is bs) a.1 ∙ uncaught rs w st cs a.0 ball bs a.2 e
  uncaught rs w st (CutFail h ∷ cs) items ball bs a e = ap (λ is. handed ball is bs) a.1 ∙ uncaught rs w st cs a.0 ball bs a.2 e
  uncaught rs w st (CatchEnd h c r ∷ cs) items ball bs a e = absurd (none-some (h, c, r, cs) (sym e))
  uncaught rs w st (Collect h t ∷ cs) items ball bs a e = ap (λ is. handed ball is bs) a.2 ∙ uncaught rs w st cs a.1 ball bs a.5 e

  -- what is handed from items is handed from these, too
  passed : (rs : Stack W) (ball : Copied) (items more : List Item) (bs : List Branch) (q : ℕ × ℕ × ℕ × List Cell) → handed ball items bs ≡ handed ball more bs
      → IsHanded IsState term rs ball more bs q → IsHanded IsState term rs ball items bs q
  passed rs ball items more bs q e h = record {
    call = h.call;
    saved = h.saved;
    catcher = h.catcher;
    recovery = h.recovery;
    left = h.left;
    is = e ∙ h.is;
    kept = h.kept;
    there = h.there;
    behind_it = h.behind_it;
    state = h.state;
    reads_catcher = h.reads_catcher;
    reads_recovery = h.reads_recovery;
    cells = h.cells;
  }

  pub caught : (rs : Stack W) (w : W) (st : State) (cs : List Cell) (items : List Item) (ball : Copied) (bs : List Branch) (q : ℕ × ℕ × ℕ × List Cell)
      → AreItems IsState term rs w st cs items → nearest_catch cs ≡ Some q → IsHanded IsState term rs ball items bs q
  caught rs w st [] items ball bs q a e = absurd (none-some q e)
  caught rs w st (Goal t cut ∷ cs) items ball bs q a e = passed rs ball items a.1 bs q (ap (λ is. handed ball is bs) a.2) (caught rs w st cs a.1 ball bs q a.4 e)
  caught rs w st (Call t ∷ cs) items ball bs q a e = passed rs ball items a.2 bs q (ap (λ is. handed ball is bs) a.3) (caught rs w st cs a.2 ball bs q a.5 e)
  caught rs w st (CutTo h ∷ cs) items ball bs q a e = passed rs ball items a.0 bs q (ap (λ is. handed ball is bs) a.1) (caught rs w st cs a.0 ball bs q a.2 e)
  caught rs w st (CutFail h ∷ cs) items ball bs q a e = passed rs ball items a.0 bs q (ap (λ is. handed ball is bs) a.1) (caught rs w st cs a.0 ball bs q a.2 e)
  caught rs w st (CatchEnd h c r ∷ cs) items ball bs q a e =
      subst (IsHanded IsState term rs ball items bs) (same_Some (h, c, r, cs) q e) (record {
        call = a.0;
        saved = a.1;
        catcher = a.2;
        recovery = a.3;
        left = a.4;
        is = ap (λ is. handed ball is bs) a.5;
        kept = a.6;
        there = a.7;
        behind_it = a.8;
        state = a.9;
        reads_catcher = a.10;
        reads_recovery = a.11;
        cells = a.12;
      })
  caught rs w st (Collect h t ∷ cs) items ball bs q a e = passed rs ball items a.1 bs q (ap (λ is. handed ball is bs) a.2) (caught rs w st cs a.1 ball bs q a.5 e)

  -- the choice of the catch has the ball, and the newer ones are cut
  pub ball_waits : (rs : Stack W) (now : Value W) (k : ℕ) (items : List Item) (st : State) (ball : Copied) (stored : Tree) (bs : List Branch) (q : ℕ × ℕ × ℕ × List Cell)
      → IsContinuation IsState term rs now k items st → AreWaiting IsState term rs bs → nearest_catch (items_at now.1 k) ≡ Some q → IsStoredAs ball stored
      → (call : Value W × ℕ) × (catch_at rs q.0 ≡ Some call) × (next : List Branch) × (handed ball items bs ≡ Some next)
      × AreWaiting IsState term ((call.0, Caught stored q.1 q.2 call.1) ∷ last q.0 rs) next
  ball_waits rs now k items st ball stored bs q c wait near kept =
      let h = caught rs now.0 st (items_at now.1 k) items ball bs q c.cells near in
      let fits = nearest_fits (length rs) (items_at now.1 k) q c.fits near in
      let long : length (last q.0 rs) ≡ q.0 = length-last rs q.0 (omega (arith, fits.0)) in
      let f : Fits q.0 (items_at h.call.0.1 h.call.1) = subst (Fits q.0) (sym h.behind_it) fits.1 in
      let a : AreItems IsState term rs h.call.0.0 h.saved (items_at h.call.0.1 h.call.1) h.left =
      subst (λ cs. AreItems IsState term rs h.call.0.0 h.saved cs h.left) (sym h.behind_it) h.cells in (
        h.call,
        h.kept,
        caught_branch ball h.saved h.catcher h.recovery h.left ∷ balls.last (below rs q.0) bs,
        h.is,
        (
          caught_branch ball h.saved h.catcher h.recovery h.left ∷ [],
          balls.last (below rs q.0) bs,
          refl,
          (
            h.left,
            h.saved,
            ball,
            h.catcher,
            h.recovery,
            refl,
            kept,
            h.reads_catcher,
            h.reads_recovery,
            record {
              there = h.there;
              fits = subst (λ m. Fits m (items_at h.call.0.1 h.call.1)) (sym long) f;
              state = h.state;
              cells = items_last IsState term rs q.0 h.call.0.0 h.saved (items_at h.call.0.1 h.call.1) h.left f a;
            },
          ),
          waiting-last IsState term rs q.0 bs wait,
        ),
      )
