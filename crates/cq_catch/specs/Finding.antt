-- What an engine comes to as it goes on to a goal in front.
use Rattle.std.specs.Prelude.{◌≡◌, ℕ, ◌<◌, List, [], length, Option, None, Some}
use Rattle.spec_syntax.specs.Operators.{Ops}
use Rattle.spec_search.specs.Search.{Search}
use Rattle.spec_transcript.specs.Causes.{Budgets}
use Rattle.cq_control.specs.Items.{items_at}
use Rattle.cq_resolve.specs.Database.{Program, as_database}
use Rattle.cq_resolve.specs.StoredValue.{StoredValue}
use Rattle.cq_branch.specs.Marks.{IsFront}
use Rattle.cq_branch.specs.Stored.{IsCountedTerm}
use Rattle.cq_branch.specs.Worlds.{Stands}
use Rattle.cq_branch.specs.Stops.{waiting_in}
use Rattle.cq_choices.specs.Held.{Held, stack_of}
use Rattle.cq_catch.specs.Taking.{Escapes}
use Rattle.cq_catch.specs.Matching.{Reaches}
use Rattle.cq_catch.specs.declared.find.Next.{Next}
use Rattle.cq_catch.specs.declared.find.Next.TheVariants as next
use Rattle.cq_catch.specs.declared.find.Next.TheVariants.{Goes}
use Rattle.cq_catch.specs.declared.find.Found.{Found}
use Rattle.cq_catch.specs.declared.find.Found.TheVariants as found
use Rattle.cq_catch.specs.declared.find.Found.TheVariants.{Front}

-- the choices stand for fewer branches, or are fewer and stand for no more
abbrev pub AreFewer : Program → Held → Program → Held → Type 0
AreFewer v old w new = waiting_in (stack_of w new) < waiting_in (stack_of v old)

-- each search for which it stood tells a ball next that nothing catches, which is stored so; the engine stands for the search then
abbrev pub ThrowsFrom : Program → Held → Option ℕ → Program → Held → StoredValue → Type 0
ThrowsFrom v old start w new stored = (budgets : Budgets) (ops : Ops) (n : ℕ) (s : Search)
    → Stands old.texts v (as_database old.texts ops v) n old.saved old.choices old.now start s
    → Escapes budgets w new stored (as_database new.texts ops w) n s

-- ---- the newest choice

-- what the engine comes to from there
abbrev pub NextIs : Program → Held → Program → Held → Next → Type 0
NextIs v old w new (Goes k) = Reaches v old None w new k × AreFewer v old w new
NextIs v old w new (next.Escaped ball) = ThrowsFrom v old None w new ball × IsCountedTerm (length new.texts) ball × (new.choices ≡ [])
NextIs v old w new next.Over = Reaches v old None w new None × (new.choices ≡ [])

-- what it comes to at last: something in front of a continuation, or no branch is left
abbrev pub FoundIs : Program → Held → Option ℕ → Program → Held → Found → Type 0
FoundIs v old start w new (Front k) = Reaches v old start w new (Some k) × IsFront (items_at new.now.1 k)
FoundIs v old start w new (found.Escaped ball) = ThrowsFrom v old start w new ball × IsCountedTerm (length new.texts) ball × (new.choices ≡ [])
FoundIs v old start w new found.Over = Reaches v old start w new None × (new.choices ≡ [])
