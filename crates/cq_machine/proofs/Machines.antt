-- What a machine keeps and stands for where a predicate was called on it.
use Rattle.std.proofs.Common.{◌≡◌, ◌<◌, ℕ, zero, suc, List, [], ◌∷◌, length, Option, Some, sym, subst, map, arith}
use Rattle.std.specs.Prelude.{OnErr, Ok, Err, slice_get}
use Rattle.std.specs.declared.result.Result.{Result}
use Rattle.std.proofs.lemmas.Option.{none-some}
use Rattle.spec_numbers.specs.Texts.{Text}
use Rattle.spec_search.specs.Database.{Database}
use Rattle.spec_search.specs.Search.{Search}
use Rattle.cq_resolve.specs.Database.{Program}
use Rattle.cq_settle.specs.Contents.{Contents}
use Rattle.spec_engine.specs.Cells.{Value}
use Rattle.spec_engine.specs.Standing.{engine, IsStanding}
use Rattle.cq_branch.specs.declared.alternatives.Alternatives.{Alternatives}
use Rattle.cq_branch.specs.Worlds.{IsBranch, term_in, left_at, Stands}
use Rattle.cq_machine.specs.Machines.{IsSound}
use Rattle.cq_machine.specs.declared.machine.Machine.{Machine}
use Rattle.cq_choices.specs.Held.{Held, IsOver, IsAsBefore}
use Rattle.cq_machine.specs.Offers.{held_by}

-- a sound machine's choices can be gone on with
pub over_sound : (m : Machine) → IsSound m → IsOver m.clauses (held_by m)
over_sound m s = record { program = s.program; choices = s.untried }

-- a name that has a text is among those that are known
pub named_there : (texts : List Text) (a : ℕ) (t : Text) → slice_get texts a ≡ Some t → a < length texts
named_there [] a t e = absurd (none-some t e)
named_there (x ∷ texts) zero t e = omega arith
named_there (x ∷ texts) (suc a) t e = (let l = named_there texts a t e in omega (arith, l))

-- the same choices and the same world stand for the same search
pub same_stands : (old new : Held) → IsAsBefore old new → (v : Program) (db : Database) (n : ℕ) (current : Option ℕ) (s : Search)
    → Stands new.texts v db n old.saved old.choices old.now current s → Stands new.texts v db n new.saved new.choices new.now current s
same_stands old new b v db n current s j =
    subst (λ (w : Value Contents). Stands new.texts v db n new.saved new.choices w current s) (sym b.now)
    (subst (λ (xs : List (Value Contents × Alternatives)). IsStanding (IsBranch new.texts) (term_in new.texts) (engine db n (map (left_at new.texts v) xs) old.now current) s)
    (sym b.choices) j)

pub on_err : {A E P Q : Type 0} (r : Result A E) → (P → Q) → OnErr r P → OnErr r Q
on_err (Ok x) f p = tt
on_err (Err e) f p = f p
