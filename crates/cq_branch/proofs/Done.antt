-- What the rows of control have done, by the continuations that they added.
use Rattle.std.proofs.Common.{◌≡◌, ℕ, ◌+◌, List, ◌∷◌, length, Some, refl, sym, ap, ap₂, ◌∙◌, subst, map, arith, codes}
use Rattle.std.specs.Prelude.{reverse}
use Rattle.std.proofs.lemmas.List.{length-map, length-reverse}
use Rattle.std.proofs.lemmas.Slice.Zip.{length-zip}
use Rattle.spec_numbers.specs.Texts.{Text}
use Rattle.spec_syntax.specs.Trees.{Tree, binary}
use Rattle.spec_branch.specs.Branch.{Branch}
use Rattle.spec_search.specs.Control.{and_row, or_row, if_then_row, not_row}
use Rattle.spec_search.specs.Replies.{Place, Reply}
use Rattle.cq_control.specs.Items.{items_at}
use Rattle.cq_control.specs.Open.{AreMarked, last, open_choices}
use Rattle.cq_resolve.specs.Database.{Program}
use Rattle.cq_settle.specs.Contents.{Contents}
use Rattle.spec_engine.specs.declared.machine.cell.Cell.{Cell}
use Rattle.spec_engine.specs.declared.machine.cell.Cell.TheVariants.{CutTo, CutFail}
use Rattle.spec_engine.specs.Cells.{Value, Stack, One}
use Rattle.cq_branch.specs.declared.alternatives.Alternatives.{Alternatives}
use Rattle.cq_branch.specs.declared.alternatives.Alternatives.TheVariants as alternatives
use Rattle.cq_branch.specs.Lists.{HasCells, KeepsLists, goal_cell}
use Rattle.cq_branch.specs.Sides.{IsPlain}
use Rattle.cq_branch.specs.Worlds.{IsBranch, term_in, ReadsAs, Selected, Leads, stack, left_at}
use Rattle.cq_branch.proofs.Arrived.{last-map}
use Rattle.cq_branch.proofs.Branches.{branches_rest}
use Rattle.cq_branch.proofs.Added.{cell_is, has_still}
use Rattle.cq_branch.proofs.Control.{and_becomes, or_becomes, if_then_becomes, if_then_else_becomes, not_becomes}

module _ (texts : List Text) (w : Contents) (old new : List (List Cell)) (height rest : ℕ) (p : Place) (behind : List Branch) (choices : Stack Contents)
    (s : Selected texts choices (w, old) height rest p behind) where
  pub and_done : (k left right : ℕ) (a b : Tree)
      → HasCells new k (goal_cell texts w.heap.terms left height ∷ goal_cell texts w.heap.terms right height ∷ items_at old rest)
      → ReadsAs texts w p.state left a → ReadsAs texts w p.state right b
      → Leads texts choices (w, new) (Some k) p behind (and_row p a b)
  and_done k left right a b h ra rb =
      and_becomes (IsBranch texts) (term_in texts) (branches_rest texts) choices w old new height rest p behind s k left right a b ra rb h.there
      (h.are ∙ ap₂ (λ x y. x ∷ y ∷ items_at old rest) (cell_is texts w p.state left height a ra) (cell_is texts w p.state right height b rb))

  pub if_then_done : (k top condition goal : ℕ) (c t : Tree) → top ≡ length choices
      → HasCells new k (goal_cell texts w.heap.terms condition top ∷ CutTo top ∷ goal_cell texts w.heap.terms goal height ∷ items_at old rest)
      → ReadsAs texts w p.state condition c → ReadsAs texts w p.state goal t
      → Leads texts choices (w, new) (Some k) p behind (if_then_row p c t)
  if_then_done k top condition goal c t e h rc rt =
      let n = length choices in
      if_then_becomes (IsBranch texts) (term_in texts) (branches_rest texts) choices w old new height rest p behind s k condition goal c t rc rt h.there
      (h.are ∙ ap (λ m. goal_cell texts w.heap.terms condition m ∷ CutTo m ∷ goal_cell texts w.heap.terms goal height ∷ items_at old rest) e
      ∙ ap₂ (λ x y. x ∷ CutTo n ∷ y ∷ items_at old rest) (cell_is texts w p.state condition n c rc) (cell_is texts w p.state goal height t rt))

  -- ---- with a choice

  above_is : (top above : ℕ) → top ≡ length choices → above ≡ top + 1 → above ≡ length choices + 1
  above_is top above e f = omega (arith, e, f)

  module _ (k other : ℕ) where
    pub not_done : (top above goal : ℕ) (g : Tree) → top ≡ length choices → above ≡ top + 1 → KeepsLists old new
        → HasCells new k (goal_cell texts w.heap.terms goal above ∷ CutFail top ∷ items_at old rest)
        → ReadsAs texts w p.state goal g
        → Leads texts (((w, new), One rest) ∷ choices) (w, new) (Some k) p behind (not_row p g)
    not_done top above goal g e f keeps h r =
        let still = has_still old new rest (items_at old rest) (record { there = s.place.continuation.there; are = refl }) keeps in
        not_becomes (IsBranch texts) (term_in texts) (branches_rest texts) choices w old new height rest p behind s k rest h.there still.there goal g r
        (h.are ∙ ap₂ (λ m n. goal_cell texts w.heap.terms goal m ∷ CutFail n ∷ items_at old rest) (above_is top above e f) e
        ∙ ap (λ x. x ∷ CutFail (length choices) ∷ items_at old rest) (cell_is texts w p.state goal (length choices + 1) g r)) still.are

    pub or_done : (left right : ℕ) (a b : Tree) → HasCells new k (goal_cell texts w.heap.terms left height ∷ items_at old rest)
        → HasCells new other (goal_cell texts w.heap.terms right height ∷ items_at old rest)
        → ReadsAs texts w p.state left a → ReadsAs texts w p.state right b → IsPlain a
        → Leads texts (((w, new), One other) ∷ choices) (w, new) (Some k) p behind (or_row p a b)
    or_done left right a b h g ra rb plain =
        or_becomes (IsBranch texts) (term_in texts) (branches_rest texts) choices w old new height rest p behind s k other h.there g.there left right a b ra rb (plain p)
        (h.are ∙ ap (λ x. x ∷ items_at old rest) (cell_is texts w p.state left height a ra))
        (g.are ∙ ap (λ x. x ∷ items_at old rest) (cell_is texts w p.state right height b rb))

    pub if_then_else_done : (top above condition goal right : ℕ) (c t b : Tree) → top ≡ length choices → above ≡ top + 1
        → HasCells new k (goal_cell texts w.heap.terms condition above ∷ CutTo top ∷ goal_cell texts w.heap.terms goal height ∷ items_at old rest)
        → HasCells new other (goal_cell texts w.heap.terms right height ∷ items_at old rest)
        → ReadsAs texts w p.state condition c → ReadsAs texts w p.state goal t → ReadsAs texts w p.state right b
        → Leads texts (((w, new), One other) ∷ choices) (w, new) (Some k) p behind (or_row p (binary (codes "->") c t) b)
    if_then_else_done top above condition goal right c t b e f h g rc rt rb =
        if_then_else_becomes (IsBranch texts) (term_in texts) (branches_rest texts) choices w old new height rest p behind s k other h.there g.there condition goal right
        (binary (codes "->") c t) c t b rc rt rb refl
        (h.are ∙ ap₂ (λ m n. goal_cell texts w.heap.terms condition m ∷ CutTo n ∷ goal_cell texts w.heap.terms goal height ∷ items_at old rest) (above_is top above e f) e
        ∙ ap₂ (λ x y. x ∷ CutTo (length choices) ∷ y ∷ items_at old rest) (cell_is texts w p.state condition (length choices + 1) c rc) (cell_is texts w p.state goal height t rt))
        (g.are ∙ ap (λ x. x ∷ items_at old rest) (cell_is texts w p.state right height b rb))

-- ---- choices

pub stack_pushed : (texts : List Text) (v : Program) (saved more : List (Value Contents)) (choices after : List Alternatives) (now : Value Contents) (k : ℕ)
    → open_choices more after ≡ (now, alternatives.One k) ∷ open_choices saved choices → stack texts v more after ≡ (now, One k) ∷ stack texts v saved choices
stack_pushed texts v saved more choices after now k e = ap (map (left_at texts v)) e

pub length-stack : (texts : List Text) (v : Program) (saved : List (Value Contents)) (choices : List Alternatives) → AreMarked saved choices → length (stack texts v saved choices) ≡ length choices
length-stack texts v saved choices m =
    length-map (open_choices saved choices) (left_at texts v) ∙ omega (arith, length-zip (reverse saved) choices, length-reverse saved, m)

-- the same over equal choices and an equal world
pub leads_same : (texts : List Text) (k : ℕ) (p : Place) (behind : List Branch) (r : Reply) (choices after : Stack Contents) (now later : Value Contents) → after ≡ choices → later ≡ now
    → Leads texts choices now (Some k) p behind r → Leads texts after later (Some k) p behind r
leads_same texts k p behind r choices after now later e f l =
    subst (λ c. Leads texts c later (Some k) p behind r) (sym e) (subst (λ n. Leads texts choices n (Some k) p behind r) (sym f) l)

pub stack_cut : (texts : List Text) (v : Program) (saved fewer : List (Value Contents)) (choices after : List Alternatives) (height : ℕ)
    → open_choices fewer after ≡ last height (open_choices saved choices) → stack texts v fewer after ≡ last height (stack texts v saved choices)
stack_cut texts v saved fewer choices after height e = ap (map (left_at texts v)) e ∙ sym (last-map (left_at texts v) height (open_choices saved choices))
