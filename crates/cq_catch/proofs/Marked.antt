-- The mark of a findall in front: the choice at its height gathers one more copy.
use Rattle.std.proofs.Common.{◌≡◌, ◌<◌, ◌+◌, ℕ, List, [], ◌∷◌, ◌++◌, length, map, None, Some, refl, sym, ap, ◌∙◌, subst, arith}
use Rattle.std.specs.Prelude.{All}
use Rattle.std.specs.List.{AllByRecursion}
use Rattle.std.proofs.lemmas.List.Elements.{All-push}
use Rattle.spec_numbers.specs.Texts.{Text}
use Rattle.spec_terms.specs.Variables.{renamed_from}
use Rattle.spec_search.specs.Database.{Database}
use Rattle.spec_search.specs.Search.{Search}
use Rattle.cq_control.specs.Heights.{total}
use Rattle.cq_control.specs.Items.{items_at}
use Rattle.cq_control.specs.Open.{AreMarked, last, open_choices}
use Rattle.cq_control.proofs.Opened.{open-around}
use Rattle.cq_resolve.specs.Database.{Program}
use Rattle.cq_resolve.specs.StoredValue.{StoredValue}
use Rattle.cq_term.specs.Meaning.{at}
use Rattle.cq_settle.specs.Contents.{Contents}
use Rattle.spec_engine.specs.declared.machine.cell.Cell.TheVariants.{Collect}
use Rattle.spec_engine.specs.Cells.{GathersAt, Value, size}
use Rattle.cq_branch.specs.Choices.{AreOpen, CanBeTried}
use Rattle.cq_branch.specs.Stored.{IsCountedTerm}
use Rattle.cq_branch.specs.Worlds.{stack, left_at, left_of, Stands, IsWorking, Arrives}
use Rattle.cq_branch.specs.declared.alternatives.Alternatives.{Alternatives}
use Rattle.cq_branch.specs.declared.alternatives.Alternatives.TheVariants.{Gathers}
use Rattle.cq_branch.proofs.Done.{length-stack}
use Rattle.cq_branch.proofs.Reading.{read_live}
use Rattle.cq_catch.specs.Gathering.{GathersThere, GathersMore}
use Rattle.cq_catch.proofs.Collected.{Opened, gathers_there, gathered_there, mark_there}
use Rattle.cq_catch.proofs.Places.{around}

module _ (saved : List (Value Contents)) (choices : List Alternatives) (now : Value Contents) (k rest height template : ℕ) (marked : AreMarked saved choices)
    (front : items_at now.1 k ≡ Collect height template ∷ items_at now.1 rest) where
  -- its template is a term
  pub template_there : IsWorking saved choices now (Some k) → template < length now.0.heap.terms
  template_there w =
      let m = mark_there w.0 w.1 w.2 w.3 saved choices now k rest height template w.4 w.5 front in
      read_live w.0 now.0.heap.terms template m.2.0 m.2.1

  -- the choice at its height gathers
  pub gathers_at_mark : IsWorking saved choices now (Some k) → GathersThere choices height
  gathers_at_mark w =
      let m = mark_there w.0 w.1 w.2 w.3 saved choices now k rest height template w.4 w.5 front in
      let r = around height choices (omega (arith, m.0, length-stack w.0 w.1 saved choices marked)) in
      let older = last height choices in
      let o = open-around saved r.0 older r.1 (marked ∙ ap length r.2) in
      let there : GathersAt (stack w.0 w.1 saved choices) (length older) = subst (λ (n : ℕ). GathersAt (stack w.0 w.1 saved choices) n) (sym r.3) m.1 in
      let f = gathers_there w.0 w.1 saved choices r.0 older r.1 r.2 o.0 o.1 o.2 o.3 o.4 there in
      record {
        newer = r.0;
        older = older;
        list = f.0;
        copies = f.1;
        rest = f.2;
        are = r.2 ∙ ap (λ (x : Alternatives). r.0 ++ x ∷ older) f.3;
        below = r.3;
      }

  -- with the copy it stands for the search that has collected
  pub collects : (after : List Alternatives) (copy : StoredValue) → template < length now.0.heap.terms → copy.term ≡ renamed_from 0 (at now.0.heap.terms template)
      → GathersMore choices height copy after → (steps : ℕ) (texts : List Text) (v : Program) (db : Database) (n : ℕ) (s : Search)
      → Stands texts v db n saved choices now (Some k) s → Arrives steps texts v db n saved after now None s
  collects after copy live renamed g steps texts v db n s j =
      let h = g.0 in
      let x = Gathers h.list h.copies h.rest in
      let o = open-around saved h.newer h.older x (marked ∙ ap length h.are) in
      gathered_there texts v saved choices h.newer h.older x h.are o.0 o.1 o.2 o.3 o.4 steps db n now k rest template h.list h.rest h.copies copy after s refl g.1
      (front ∙ ap (λ (m : ℕ). Collect m template ∷ items_at now.1 rest) (sym h.below)) live renamed j

-- ---- choices can be gone on with

module _ (texts : List Text) (v : Program) where
  abbrev Open : Opened → Type 0
  Open xs = AllByRecursion (λ (c : Value Contents × Alternatives). CanBeTried texts v c.0.0.heap.terms c.1) xs

  open_other : (front below : Opened) (value : Value Contents) (x y : Alternatives) → (CanBeTried texts v value.0.heap.terms x → CanBeTried texts v value.0.heap.terms y)
      → Open (front ++ (value, x) ∷ below) → Open (front ++ (value, y) ∷ below)
  open_other [] below value x y f o = (f o.0, o.1)
  open_other (d ∷ front) below value x y f o = (o.0, open_other front below value x y f o.1)

  pub open_gathered : (saved : List (Value Contents)) (choices after : List Alternatives) (height : ℕ) (copy : StoredValue) → AreMarked saved choices
      → GathersMore choices height copy after → IsCountedTerm (length texts) copy → AreOpen texts v saved choices → AreOpen texts v saved after
  open_gathered saved choices after height copy marked g counted o =
      let h = g.0 in
      let x = Gathers h.list h.copies h.rest in
      let y = Gathers h.list (h.copies ++ copy ∷ []) h.rest in
      let a = open-around saved h.newer h.older x (marked ∙ ap length h.are) in
      let Each : List Alternatives → Type 0 = λ cs. Open (open_choices saved cs) in
      let was : Open (a.0 ++ (a.2, x) ∷ a.1) = subst Open (a.4 x) (subst Each h.are o) in
      let more : All (IsCountedTerm (length texts)) h.copies → All (IsCountedTerm (length texts)) (h.copies ++ copy ∷ []) =
      λ all. All-push (IsCountedTerm (length texts)) h.copies copy all counted in
      subst Each (sym g.1) (subst Open (sym (a.4 y)) (open_other a.0 a.1 a.2 x y more was))

-- ---- choices stand for as many branches

module _ (texts : List Text) (v : Program) where
  total_other : (front below : Opened) (value : Value Contents) (x y : Alternatives) → size (left_of texts v value.0.heap.terms x) ≡ size (left_of texts v value.0.heap.terms y)
      → total size (map (left_at texts v) (front ++ (value, x) ∷ below)) ≡ total size (map (left_at texts v) (front ++ (value, y) ∷ below))
  total_other [] below value x y e = ap (λ (n : ℕ). n + total size (map (left_at texts v) below)) e
  total_other (d ∷ front) below value x y e = ap (λ (n : ℕ). size (left_of texts v d.0.0.heap.terms d.1) + n) (total_other front below value x y e)

  pub total_gathered : (saved : List (Value Contents)) (choices after : List Alternatives) (height : ℕ) (copy : StoredValue) → AreMarked saved choices
      → GathersMore choices height copy after → total size (stack texts v saved after) ≡ total size (stack texts v saved choices)
  total_gathered saved choices after height copy marked g =
      let h = g.0 in
      let x = Gathers h.list h.copies h.rest in
      let y = Gathers h.list (h.copies ++ copy ∷ []) h.rest in
      let a = open-around saved h.newer h.older x (marked ∙ ap length h.are) in
      let count : List Alternatives → ℕ = λ cs. total size (stack texts v saved cs) in
      let opened : Opened → ℕ = λ os. total size (map (left_at texts v) os) in
      ap count g.1 ∙ ap opened (a.4 y) ∙ total_other a.0 a.1 a.2 y x refl ∙ ap opened (sym (a.4 x)) ∙ ap count (sym h.are)
