-- A call of a predicate, by what the code has done.
use Rattle.std.proofs.Common.{◌≡◌, ℕ, List, [], ◌∷◌, length, map, Option, None, Some, sym, ap, ◌∙◌, subst}
use Rattle.std.specs.Prelude.{IfNone, IfSome}
use Rattle.std.specs.List.{zip}
use Rattle.spec_numbers.specs.Prefixes.{IsPrefix}
use Rattle.spec_search.specs.Replies.{Reply, offers}
use Rattle.spec_search.specs.Predicates.{Predicate}
use Rattle.spec_search.specs.Calls.{solutions_of}
use Rattle.cq_built.specs.Errors.{Explains}
use Rattle.cq_built.specs.declared.errors.BuiltinFault.{BuiltinFault}
use Rattle.cq_control.specs.Open.{AreMarked, open_choices}
use Rattle.cq_store.specs.StoreValue.{kept}
use Rattle.cq_predicates.specs.Given.{CanGoOn, Gives}
use Rattle.cq_predicates.specs.declared.solutions.Solutions.{Solutions}
use Rattle.cq_term.specs.HeapValue.{Terms}
use Rattle.cq_term.specs.Names.{HasNamesOfTerms}
use Rattle.cq_term.specs.Trees.{trees, KnowsTerms}
use Rattle.cq_settle.specs.Contents.{Contents, contents_of}
use Rattle.cq_settle.specs.declared.world.World.{World}
use Rattle.spec_engine.specs.declared.machine.cell.Cell.{Cell}
use Rattle.spec_engine.specs.Cells.{Value}
use Rattle.cq_branch.specs.declared.alternatives.Alternatives.{Alternatives}
use Rattle.cq_branch.specs.declared.alternatives.Alternatives.TheVariants as alternatives
use Rattle.cq_branch.specs.Worlds.{with_heap, saved_values, Placed, Leads}
use Rattle.cq_choices.specs.Calls.{AreRead, CallLeads, CallRaises, row_of}
use Rattle.cq_choices.specs.Held.{Held, StaysOver, AreNamedByTerms, open_of, stack_of}
use Rattle.cq_choices.specs.Newest.{Replaces, Renews}
use Rattle.cq_choices.proofs.Ending.{over_with}
use Rattle.cq_choices.proofs.Leading.{ways_lead, row_is, raised}
use Rattle.cq_choices.proofs.Newest.{same_front, same_behind}

-- ---- the choice that is left

pub left_open : (saved more : List (Value Contents)) (choices after : List Alternatives) (before now : Value Contents) (content : Alternatives)
    (older : List (Value Contents × Alternatives)) → open_choices saved choices ≡ (before, alternatives.Barrier) ∷ older → Renews saved choices now content more after
    → open_choices more after ≡ (now, content) ∷ older
left_open saved more choices after before now content older e r =
    r.3 ∙ ap (λ xs. (now, content) ∷ xs) (same_behind r.0 (before, alternatives.Barrier) r.1 older (sym r.2 ∙ e))

module _ (h new : Held) (longer : IsPrefix h.texts new.texts) (known : AreNamedByTerms (open_of h)) (known_now : HasNamesOfTerms h.now.0.heap) (start : Value Contents) (same : start ≡ h.now) (built : Terms)
    (q : Predicate) (args : List ℕ) (rest : ℕ) (s : Solutions)
    (gives : Gives new.texts start.0.heap built (solutions_of q (length start.0.heap.images) (trees h.texts start.0.heap.terms args)) s)
    (terms : IsPrefix start.0.heap.terms built.terms) (names : KnowsTerms new.texts built.terms)
    (opened : open_of new ≡ ((with_heap built start.0, start.1), alternatives.Ways s rest) ∷ open_of h) where
  known_there : HasNamesOfTerms start.0.heap
  known_there = subst (λ (x : Value Contents). HasNamesOfTerms x.0.heap) (sym same) known_now

  pub call_leads : CallLeads h new q args rest
  call_leads v p behind ts o placed read =
      let at_start : Placed h.texts (stack_of v h) start rest p behind = subst (λ (x : Value Contents). Placed h.texts (stack_of v h) x rest p behind) (sym same) placed in
      let read_there : AreRead h.texts start.0 p.state args ts = subst (λ (x : Value Contents). AreRead h.texts x.0 p.state args ts) (sym same) read in
      let row = row_is h.texts start.0 q p args ts at_start.0.continuation.state read_there ∙ ap (offers p) gives.offered in
      subst (λ (r : Reply). Leads new.texts (stack_of v new) new.now None p behind r) (sym row)
      (ways_lead new.texts v h longer o known start known_there built gives.count terms gives.images names rest p behind at_start s new.saved new.choices new.now opened)

  pub stays_over : CanGoOn built.terms s → StaysOver h new
  stays_over live v o =
      over_with h new v o longer (((with_heap built start.0, start.1), alternatives.Ways s rest) ∷ open_of h) opened (live, o.choices)

pub call_raises : (h : Held) (start : Value Contents) → start ≡ h.now → (q : Predicate) (args : List ℕ) (f : BuiltinFault)
    → Explains h.texts start.0.heap.terms (solutions_of q (length start.0.heap.images) (trees h.texts start.0.heap.terms args)) f → CallRaises h q args f
call_raises h start same q args f x p ts b read =
    raised h.texts h.now.0 p (solutions_of q (length h.now.0.heap.images) (trees h.texts h.now.0.heap.terms args)) (row_of q p ts) f (row_is h.texts h.now.0 q p args ts b read)
    (subst (λ (y : Value Contents). Explains h.texts y.0.heap.terms (solutions_of q (length y.0.heap.images) (trees h.texts y.0.heap.terms args)) f) same x)

-- ---- another heap with the same marks

abbrev pub saved_with : List Terms → World → List (List (List Cell)) → List (Value Contents)
saved_with hs w ls = zip (map contents_of (zip hs (zip w.attrs.saved (map (kept w.store.pivots) w.store.saved)))) ls

pub open_with : (hs : List Terms) (w : World) (ls : List (List (List Cell))) (choices : List Alternatives) (xs : List (Value Contents × Alternatives)) → hs ≡ w.heap.saved
    → open_choices (saved_values w ls) choices ≡ xs → open_choices (saved_with hs w ls) choices ≡ xs
open_with hs w ls choices xs same e = ap (λ (ts : List Terms). open_choices (saved_with ts w ls) choices) same ∙ e

pub marked_with : (hs : List Terms) (w : World) (ls : List (List (List Cell))) (choices : List Alternatives) → hs ≡ w.heap.saved → AreMarked (saved_values w ls) choices
    → AreMarked (saved_with hs w ls) choices
marked_with hs w ls choices same m = ap (λ (ts : List Terms). length (saved_with ts w ls)) same ∙ m

-- ---- the choice is taken off again

pub undone : (r : Option Alternatives) (choices fewer : List Alternatives) (saved less : List (Value Contents)) (now back : Value Contents)
    (older : List (Value Contents × Alternatives)) (below : List Alternatives) → choices ≡ alternatives.Barrier ∷ below
    → IfNone r ((choices ≡ []) × (fewer ≡ [])) → IfSome r (λ x. open_choices saved choices ≡ (back, x) ∷ open_choices less fewer)
    → open_choices saved choices ≡ (now, alternatives.Barrier) ∷ older → (back ≡ now) × (open_choices less fewer ≡ older)
undone None choices fewer saved less now back older below is none some e = (let h : [] ≡ alternatives.Barrier ∷ below = sym none.0 ∙ is in cc)
undone (Some x) choices fewer saved less now back older below is none some e =
    let same = sym some ∙ e in (
      ap (λ (y : Value Contents × Alternatives). y.0) (same_front (back, x) (now, alternatives.Barrier) (open_choices less fewer) older same),
      same_behind (back, x) (now, alternatives.Barrier) (open_choices less fewer) older same,
    )
