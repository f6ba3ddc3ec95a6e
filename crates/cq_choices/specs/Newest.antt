-- Changes of the newest choice.
use Rattle.std.specs.Prelude.{◌≡◌, ◌⊎◌, ℕ, List, [], ◌∷◌}
use Rattle.spec_numbers.specs.Texts.{Text}
use Rattle.cq_control.specs.Open.{open_choices}
use Rattle.cq_predicates.specs.Given.{ways_left}
use Rattle.cq_predicates.specs.declared.solutions.Solutions.{Solutions}
use Rattle.cq_term.specs.Meaning.{HeapTerm}
use Rattle.cq_settle.specs.Contents.{Contents}
use Rattle.spec_engine.specs.Cells.{Value}
use Rattle.cq_branch.specs.declared.alternatives.Alternatives.{Alternatives}
use Rattle.cq_branch.specs.declared.alternatives.Alternatives.TheVariants as alternatives

-- it leaves other alternatives to try
abbrev pub Replaces : List Alternatives → Alternatives → List Alternatives → Type 0
Replaces old content new = (before : Alternatives) × (older : List Alternatives) × (old ≡ before ∷ older) × (new ≡ content ∷ older)

-- it goes back to this value and leaves these alternatives to try; the older ones are as they were
abbrev pub Renews : List (Value Contents) → List Alternatives → Value Contents → Alternatives → List (Value Contents) → List Alternatives → Type 0
Renews saved choices now content more after =
    (newest : Value Contents × Alternatives) × (older : List (Value Contents × Alternatives)) × (open_choices saved choices ≡ newest ∷ older)
    × (open_choices more after ≡ (now, content) ∷ older)

-- its alternatives are taken: it goes back to the value now, and stands for no branch
abbrev pub Takes : List (Value Contents) → List Alternatives → Value Contents → Solutions → ℕ → List (Value Contents) → List Alternatives → Type 0
Takes saved choices now s rest more after =
    (older : List (Value Contents × Alternatives)) × (open_choices saved choices ≡ (now, alternatives.Ways s rest) ∷ older)
    × (open_choices more after ≡ (now, alternatives.Barrier) ∷ older)

-- no alternative is left
abbrev pub HasNoneLeft : Solutions → Type 0
HasNoneLeft s = (texts : List Text) (ts : List HeapTerm) → ways_left texts ts s ≡ []

-- the choice with these alternatives is left, or it is gone where it has none
abbrev pub IsLeft : Value Contents → Solutions → ℕ → List (Value Contents × Alternatives) → List (Value Contents × Alternatives) → Type 0
IsLeft start s rest older new = (new ≡ (start, alternatives.Ways s rest) ∷ older) ⊎ ((new ≡ older) × HasNoneLeft s)

-- the choice that stood for no branch has these alternatives, or is gone where there is none
abbrev pub PutsBack : List (Value Contents) → List Alternatives → Solutions → ℕ → List (Value Contents) → List Alternatives → Type 0
PutsBack saved choices s rest more after = (start : Value Contents) (older : List (Value Contents × Alternatives))
    → open_choices saved choices ≡ (start, alternatives.Barrier) ∷ older → IsLeft start s rest older (open_choices more after)
