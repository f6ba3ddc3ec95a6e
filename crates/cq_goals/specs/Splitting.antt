-- The members of a constraint, and its halves, while they are looked for.
use Rattle.std.specs.Prelude.{◌≡◌, ℕ, ◌+◌, ◌<◌, List, [], ◌∷◌, Option, Some, None, true, length, All}
use Rattle.spec_numbers.specs.Texts.{Text}
use Rattle.spec_terms.specs.Term.{size}
use Rattle.spec_branch.specs.Checks.{is_conjunction, Halves, halves, in_conjunction}
use Rattle.cq_term.specs.Texts.{text_of}
use Rattle.cq_term.specs.Meaning.{HeapTerm, at}
use Rattle.cq_term.specs.HeapValue.{HeapValue}
use Rattle.cq_term.specs.Trees.{tree}
use Rattle.cq_built.specs.Growing.{Grows}
use Rattle.cq_built.specs.Sides.{HasSides}
use Rattle.cq_built.specs.declared.sides.Sides.{Sides}
use Rattle.cq_goals.specs.declared.halves.Frame.{Frame}
use Rattle.cq_goals.specs.declared.halves.Frame.TheVariants as frame
use Rattle.cq_goals.specs.declared.halves.HalfTerms.{HalfTerms}
use Rattle.cq_goals.specs.declared.halves.Occurrence.{Occurrence}
use Rattle.cq_goals.specs.declared.halves.Shape.{Shape}
use Rattle.cq_goals.specs.declared.halves.Shape.TheVariants as shape

-- ---- members

-- the term is a conjunction of these
pub record AreConjuncts (texts : List Text) (ts : List HeapTerm) (id : ℕ) (s : Sides) : Type 0 where
  pub sides : HasSides ts id s
  pub conjunction : is_conjunction (text_of texts s.name) ≡ true

-- ---- halves

-- a term as a conjunction, a disjunction, or neither
abbrev pub HasShape : List Text → List HeapTerm → ℕ → Shape → Type 0
HasShape texts ts id (shape.Disjunction s) =
    HasSides ts id s × (halves (tree texts ts id) ≡ Some (record { left = tree texts ts s.left; right = tree texts ts s.right }))
HasShape texts ts id (shape.Conjunction s) =
    AreConjuncts texts ts id s × (halves (tree texts ts id) ≡ in_conjunction (tree texts ts s.left) (tree texts ts s.right)
    (halves (tree texts ts s.left)) (halves (tree texts ts s.right)))
HasShape texts ts id shape.Neither = halves (tree texts ts id) ≡ None

-- the halves of a conjunction, once those of the side that is searched are known
abbrev pub resumed : List Text → List HeapTerm → Frame → Option Halves → Option Halves
resumed texts ts (frame.Left s) h = in_conjunction (tree texts ts s.left) (tree texts ts s.right) h (halves (tree texts ts s.right))
resumed texts ts (frame.Right s) h = in_conjunction (tree texts ts s.left) (tree texts ts s.right) None h

-- those of the whole, of which the last conjunction is the innermost
abbrev pub all_resumed : List Text → List HeapTerm → List Frame → Option Halves → Option Halves
all_resumed texts ts [] h = h
all_resumed texts ts (f ∷ fs) h = resumed texts ts f (all_resumed texts ts fs h)

abbrev pub frame_sides : Frame → Sides
frame_sides (frame.Left s) = s
frame_sides (frame.Right s) = s

-- both sides are there, and the name, which has a text, is that of a conjunction
pub record IsLiveFrame (texts : List Text) (ts : List HeapTerm) (f : Frame) : Type 0 where
  pub left : (frame_sides f).left < length ts
  pub right : (frame_sides f).right < length ts
  pub known : (frame_sides f).name < length texts
  pub conjunction : is_conjunction (text_of texts (frame_sides f).name) ≡ true

abbrev pub frame_work : List HeapTerm → Frame → ℕ
frame_work ts (frame.Left s) = size (at ts s.right)
frame_work ts (frame.Right s) = 0

abbrev pub all_work : List HeapTerm → List Frame → ℕ
all_work ts [] = 0
all_work ts (f ∷ fs) = frame_work ts f + all_work ts fs

-- the search came to a term, or to the end
pub record Searches (texts : List Text) (ts : List HeapTerm) (id : ℕ) (fs : List Frame) (whole : Option Halves) : Type 0 where
  pub id_live : id < length ts
  pub live : All (IsLiveFrame texts ts) fs
  pub leads : all_resumed texts ts fs (halves (tree texts ts id)) ≡ whole

abbrev pub IsNext : List Text → List HeapTerm → Option Halves → Option ℕ → List Frame → Type 0
IsNext texts ts whole None fs = whole ≡ None
IsNext texts ts whole (Some id) fs = Searches texts ts id fs whole

abbrev pub next_work : List HeapTerm → Option ℕ → List Frame → ℕ
next_work ts None fs = 0
next_work ts (Some id) fs = all_work ts fs + size (at ts id)

-- two terms as halves
abbrev pub halves_at : List Text → List HeapTerm → HalfTerms → Halves
halves_at texts ts h = record { left = tree texts ts h.left; right = tree texts ts h.right }

abbrev pub AreHalvesLive : List HeapTerm → HalfTerms → Type 0
AreHalvesLive ts h = (h.left < length ts) × (h.right < length ts)

-- where the first disjunction stands: its sides, and the conjunctions round it
pub record IsOccurrence (texts : List Text) (ts : List HeapTerm) (whole : Option Halves) (p : Occurrence) : Type 0 where
  pub halves_live : AreHalvesLive ts p.halves
  pub live : All (IsLiveFrame texts ts) p.path.items
  pub leads : all_resumed texts ts p.path.items (Some (halves_at texts ts p.halves)) ≡ whole

-- over a heap that has grown since, the halves within the conjunctions that are left are those of the whole
pub record IsJoining (texts : List Text) (old : HeapValue) (whole : Option Halves) (new : HeapValue) (path : List Frame) (h : HalfTerms) : Type 0 where
  pub grows : Grows texts old texts new
  pub halves_live : AreHalvesLive new.now.terms h
  pub live : All (IsLiveFrame texts old.now.terms) path
  pub leads : all_resumed texts old.now.terms path (Some (halves_at texts new.now.terms h)) ≡ whole
