-- The rows of catch and of findall: a choice that keeps the world of a call, and one that gathers.
use Rattle.std.proofs.Common.{◌≡◌, ℕ, suc, ◌<◌, List, [], ◌∷◌, length, Option, Some, Bool, true, ◌||◌, refl, sym, ap, ◌∙◌, subst, map, arith}
use Rattle.std.specs.Prelude.{if◌then◌else◌}
use Rattle.spec_numbers.specs.Texts.{Text}
use Rattle.spec_syntax.specs.Trees.{Tree}
use Rattle.spec_builtins.specs.Kinds.{is_list, is_partial}
use Rattle.spec_builtins.specs.Errors.{type_error}
use Rattle.spec_branch.specs.Branch as branch
use Rattle.spec_branch.specs.Branch.{State, Branch, no_work, read}
use Rattle.spec_search.specs.Control.{call_of, catch_row, findall_row}
use Rattle.spec_search.specs.Replies.{Place, Raises, child, made, makes}
use Rattle.spec_search.specs.Search.{look_at}
use Rattle.cq_control.specs.Heights.{total}
use Rattle.cq_control.specs.Items.{items_at}
use Rattle.cq_control.specs.Open.{AreMarked, open_choices}
use Rattle.cq_resolve.specs.Database.{Program}
use Rattle.cq_settle.specs.Contents.{Contents}
use Rattle.spec_engine.specs.declared.machine.cell.Cell.{Cell}
use Rattle.spec_engine.specs.declared.machine.cell.Cell.TheVariants.{Call, CatchEnd, Collect}
use Rattle.spec_engine.specs.Cells.{Left, Catches, Gathers, size, Value, Stack, below, top_catch, TopGathers}
use Rattle.spec_engine.specs.Standing.{AreItems}
use Rattle.spec_engine.specs.Coming.{Rest}
use Rattle.spec_engine.proofs.Kept.{items_older, last-all, last-older}
use Rattle.spec_engine.proofs.Made.{child_kept}
use Rattle.cq_branch.specs.declared.alternatives.Alternatives.{Alternatives}
use Rattle.cq_branch.specs.declared.alternatives.Alternatives.TheVariants as alternatives
use Rattle.cq_branch.specs.Lists.{HasCells, KeepsLists}
use Rattle.cq_branch.specs.Selecting.{Reads, IsSelected, Becomes}
use Rattle.cq_branch.specs.Worlds.{IsBranch, term_in, ReadsAs, Selected, Leads, stack, left_at}
use Rattle.cq_branch.proofs.Added.{has_still}
use Rattle.cq_branch.proofs.Branches.{branches_rest}
use Rattle.cq_branch.proofs.Control.{built, goes_on_with}
use Rattle.cq_branch.proofs.Done.{length-stack}

module _ {W : Type 0} (IsState : W → State → Type 0) (term : W → ℕ → Option Tree) (rests : Rest IsState) (choices : Stack W) (w : W) (old lists : List (List Cell))
    (height rest : ℕ) (p : Place) (behind : List Branch) (s : IsSelected IsState term choices (w, old) height rest p behind)
    (there : rest < length lists) (same : items_at lists rest ≡ items_at old rest) where
  -- the term of a cell, as it reads
  reads : (id : ℕ) (t : Tree) → Reads IsState term w p.state id t → term w id ≡ Some (read p.state t)
  reads id t r = r.0 ∙ ap (λ (x : Tree). Some x) (sym r.1)

  -- one more choice
  module _ (left : Left) where
    abbrev pushed : Stack W
    pushed = ((w, lists), left) ∷ choices

    all : below pushed (length choices) ≡ p.height
    all = ap (total size) (last-older ((w, lists), left) choices (length choices) (omega arith) ∙ last-all choices (length choices) (omega arith)) ∙ sym s.place.height

    rest_items : AreItems IsState term pushed w p.state (items_at old rest) p.rest
    rest_items = items_older IsState term ((w, lists), left) choices w p.state (items_at old rest) p.rest s.place.continuation.fits s.place.continuation.cells

  pub catch_becomes : (k goal catcher recovery : ℕ) (g c r : Tree) → Reads IsState term w p.state goal g → Reads IsState term w p.state catcher c
      → Reads IsState term w p.state recovery r → k < length lists
      → items_at lists k ≡ Call goal ∷ CatchEnd (length choices) catcher recovery ∷ items_at old rest
      → Becomes IsState term (((w, lists), Catches rest) ∷ choices) (w, lists) (Some k) p behind (catch_row p g c r)
  catch_becomes k goal catcher recovery g c r rg rc rr k_there e =
      let after = pushed (Catches rest) in
      goes_on_with IsState term rests after (w, lists) k p behind (call_of g ∷ branch.CatchEnd p.height p.state c r ∷ p.rest)
      (built IsState term after w lists k _ _ p.state k_there e (omega arith, s.place.continuation.fits) s.place.continuation.state (
        g,
        0,
        _,
        refl,
        reads goal g rg,
        (
          ((w, lists), rest),
          p.state,
          c,
          r,
          p.rest,
          ap (λ (h : ℕ). branch.CatchEnd h p.state c r ∷ p.rest) (sym (all (Catches rest))),
          ap top_catch (last-all after (suc (length choices)) (omega arith)),
          there,
          same,
          s.place.continuation.state,
          reads catcher c rc,
          reads recovery r rr,
          rest_items (Catches rest),
          rest_items (Catches rest),
        ),
      ))
      ([], behind, refl, refl, s.waiting)

  pub findall_becomes : (k template goal list : ℕ) (t g l : Tree) → Reads IsState term w p.state template t → Reads IsState term w p.state goal g
      → Reads IsState term w p.state list l → (is_partial l || is_list l) ≡ true → k < length lists
      → items_at lists k ≡ Call goal ∷ Collect (length choices) template ∷ items_at old rest
      → Becomes IsState term (((w, lists), Gathers list [] rest) ∷ choices) (w, lists) (Some k) p behind (findall_row p t g l)
  findall_becomes k template goal list t g l rt rg rl may k_there e =
      let after = pushed (Gathers list [] rest) in
      let items = call_of g ∷ branch.Collect p.height t ∷ p.rest in
      let own = child (branch.Gathered l [] ∷ p.rest) p.state no_work in
      record {
        made = made p (child items p.state no_work ∷ own ∷ []);
        row = ap (λ (b : Bool). if b then makes p (child items p.state no_work ∷ own ∷ []) else Raises (type_error "list" l)) may;
        database = refl;
        output = refl;
        comes = λ steps q d b. child_kept IsState term steps p.database q.selected after (w, lists) k q items p.state no_work (own ∷ behind) d refl
            (ap look_at b) refl items p.state (rests w p.state items s.place.continuation.state)
            (built IsState term after w lists k _ _ p.state k_there e (omega arith, s.place.continuation.fits) s.place.continuation.state (
              g,
              0,
              _,
              refl,
              reads goal g rg,
              (
                t,
                p.rest,
                ap (λ (h : ℕ). branch.Collect h t ∷ p.rest) (sym (all (Gathers list [] rest))),
                subst TopGathers (sym (last-all after (suc (length choices)) (omega arith))) tt,
                reads template t rt,
                rest_items (Gathers list [] rest),
              ),
            )) (
              own ∷ [],
              behind,
              refl,
              (
                p.rest,
                p.state,
                l,
                [],
                refl,
                tt,
                reads list l rl,
                built IsState term choices w lists rest _ _ p.state there same s.place.continuation.fits s.place.continuation.state s.place.continuation.cells,
              ),
              s.waiting,
            );
      }

-- ---- over the choices of the code

module _ (texts : List Text) (v : Program) (w : Contents) (old new : List (List Cell)) (height rest : ℕ) (p : Place) (behind : List Branch)
    (saved more : List (Value Contents)) (choices after : List Alternatives) (later : Value Contents) (marked : AreMarked saved choices)
    (s : Selected texts (stack texts v saved choices) (w, old) height rest p behind) (keeps : KeepsLists old new) (is_later : later ≡ (w, new)) where
  still : HasCells new rest (items_at old rest)
  still = has_still old new rest (items_at old rest) (record { there = s.place.continuation.there; are = refl }) keeps

  top_is : (top : ℕ) → top ≡ length choices → top ≡ length (stack texts v saved choices)
  top_is top e = e ∙ sym (length-stack texts v saved choices marked)

  pub catch_done : (k top goal catcher recovery : ℕ) (g c r : Tree) → top ≡ length choices
      → HasCells new k (Call goal ∷ CatchEnd top catcher recovery ∷ items_at old rest)
      → open_choices more after ≡ ((w, new), alternatives.Catches rest) ∷ open_choices saved choices
      → ReadsAs texts w p.state goal g → ReadsAs texts w p.state catcher c → ReadsAs texts w p.state recovery r
      → Leads texts (stack texts v more after) later (Some k) p behind (catch_row p g c r)
  catch_done k top goal catcher recovery g c r e h o rg rc rr =
      subst (λ st. Leads texts st later (Some k) p behind (catch_row p g c r)) (sym (ap (map (left_at texts v)) o))
      (subst (λ (x : Value Contents). Leads texts (((w, new), Catches rest) ∷ stack texts v saved choices) x (Some k) p behind (catch_row p g c r)) (sym is_later)
      (catch_becomes (IsBranch texts) (term_in texts) (branches_rest texts) (stack texts v saved choices) w old new height rest p behind s still.there still.are
      k goal catcher recovery g c r rg rc rr h.there (h.are ∙ ap (λ (m : ℕ). Call goal ∷ CatchEnd m catcher recovery ∷ items_at old rest) (top_is top e))))

  pub findall_done : (k top template goal list : ℕ) (t g l : Tree) → top ≡ length choices
      → HasCells new k (Call goal ∷ Collect top template ∷ items_at old rest)
      → open_choices more after ≡ ((w, new), alternatives.Gathers list [] rest) ∷ open_choices saved choices
      → ReadsAs texts w p.state template t → ReadsAs texts w p.state goal g → ReadsAs texts w p.state list l → (is_partial l || is_list l) ≡ true
      → Leads texts (stack texts v more after) later (Some k) p behind (findall_row p t g l)
  findall_done k top template goal list t g l e h o rt rg rl may =
      subst (λ st. Leads texts st later (Some k) p behind (findall_row p t g l)) (sym (ap (map (left_at texts v)) o))
      (subst (λ (x : Value Contents). Leads texts (((w, new), Gathers list [] rest) ∷ stack texts v saved choices) x (Some k) p behind (findall_row p t g l)) (sym is_later)
      (findall_becomes (IsBranch texts) (term_in texts) (branches_rest texts) (stack texts v saved choices) w old new height rest p behind s still.there still.are
      k template goal list t g l rt rg rl may h.there (h.are ∙ ap (λ (m : ℕ). Call goal ∷ Collect m template ∷ items_at old rest) (top_is top e))))
