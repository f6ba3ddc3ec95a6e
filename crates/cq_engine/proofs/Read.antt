-- A heap that a clause was read on knows nothing of its variables.
use Rattle.std.proofs.Common.{◌≡◌, ◌⊎◌, inl, inr, ℕ, ◌<◌, ◌≤◌, List, length, sym, ap, ◌∙◌, subst, arith}
use Rattle.std.specs.Prelude.{Ok, Err, Result, reverse}
use Rattle.std.specs.List.{AllByRecursion}
use Rattle.std.specs.declared.alloc.AllocError.{AllocError}
use Rattle.std.proofs.lemmas.Bool.{cases_lt}
use Rattle.spec_numbers.specs.Texts.{Text}
use Rattle.spec_numbers.proofs.Prefixes.{prefix_get_or, prefix_same}
use Rattle.spec_terms.specs.Term.{Var}
use Rattle.cq_term.specs.Texts.{AreDifferent}
use Rattle.cq_control.specs.Open.{AreMarked}
use Rattle.cq_ops.specs.Tables.{AreNamed}
use Rattle.cq_resolve.specs.Database.{IsProgram}
use Rattle.cq_term.specs.HeapValue.{HeapValue, Terms}
use Rattle.cq_term.specs.Meaning.{at, blank}
use Rattle.cq_term.specs.Trees.{KnowsTerms}
use Rattle.cq_read.specs.declared.feed.Fed.{Fed}
use Rattle.cq_read.specs.declared.feed.Fed.TheVariants as fed
use Rattle.cq_read.specs.declared.reading.Read.{Read}
use Rattle.cq_read.specs.declared.reading.Read.TheVariants as read
use Rattle.cq_read.specs.Growth.{Grows, IsAsBefore}
use Rattle.cq_read.specs.Shown.{Leaves}
use Rattle.cq_read.specs.Feeds.{LeavesFed}
use Rattle.cq_settle.specs.Contents.{Contents}
use Rattle.spec_engine.specs.Cells.{Value}
use Rattle.cq_branch.specs.Choices.{CanBeTried}
use Rattle.cq_branch.specs.Worlds.{KnowsNothing, with_heap}
use Rattle.cq_branch.specs.declared.alternatives.Alternatives.{Alternatives}
use Rattle.cq_machine.specs.Machines.{AreNames, now, saved}
use Rattle.cq_engine.proofs.Engines.{zip_none}
use Rattle.cq_engine.specs.declared.events.engine.Engine.{Engine}
use Rattle.cq_engine.specs.Events.{IsIdle}

as_before : (old new : HeapValue) → IsAsBefore old new → Grows old new
as_before old new b = record {
  terms = prefix_same old.now.terms new.now.terms (ap (λ (t : Terms). t.terms) b.now);
  images = prefix_same old.now.images new.now.images (ap (λ (t : Terms). t.images) b.now);
  fresh = λ v l m. let e = ap (λ (t : Terms). length t.images) b.now in absurd (omega (arith, l, m, e));
  saved = b.saved;
  room = b.room;
}

pub left : (old new : HeapValue) (r : Result Read AllocError) → Leaves old new r → Grows old new
left old new (Ok (read.Clause term names next)) g = g
left old new (Ok read.End) b = as_before old new b
left old new (Ok (read.Syntax error resume)) b = as_before old new b
left old new (Err e) b = as_before old new b

pub left_fed : (old new : HeapValue) (r : Result Fed AllocError) → LeavesFed old new r → Grows old new
left_fed old new (Ok (fed.Read r)) g = left old new (Ok r) g
left_fed old new (Ok fed.Needs) b = as_before old new b
left_fed old new (Err e) b = as_before old new b

module _ (texts more : List Text) (c : Contents) (old new : HeapValue) (same : c.heap ≡ old.now) (g : Grows old new) (k : KnowsNothing texts c) where
  image_by : (v : ℕ) → v < length new.now.images → (v < length c.heap.images) ⊎ (length c.heap.images ≤ v) → at new.now.images v ≡ Var v
  image_by v l (inl early) =
      let e = ap (λ (t : Terms). length t.images) same in
      prefix_get_or old.now.images new.now.images v blank g.images (omega (arith, early, e)) ∙ ap (λ (t : Terms). at t.images v) (sym same) ∙ k.images v early
  image_by v l (inr late) = let e = ap (λ (t : Terms). length t.images) same in g.fresh v (omega (arith, late, e)) l

  pub nothing_read : KnowsTerms more new.now.terms → KnowsNothing more (with_heap new.now c)
  nothing_read names = record { names = names; images = λ v l. image_by v l (cases_lt v (length c.heap.images)); attrs = k.attrs; told = k.told }

-- an engine without a query still has none where it has as many marks and the same choices, and nothing is known of its terms
pub idle_on : (old new : Engine) → IsIdle old → AreNames new.machine.atoms new.machine.names → AreDifferent new.machine.atoms
    → IsProgram new.machine.atoms new.machine.clauses → AreNamed new.machine.atoms new.machine.ops → KnowsNothing new.machine.atoms (now new.machine).0
    → saved new.machine ≡ saved old.machine → new.machine.choices ≡ old.machine.choices → new.machine.world.second.now ≡ old.machine.world.second.now → IsIdle new
idle_on old new idle known different program named nothing marks_same choices_same lists_same =
    let s = idle.sound in
    record {
      sound = record {
        known = known;
        different = different;
        names = nothing.names;
        program = program;
        operators_named = named;
        marked = subst (λ (l : List (Value Contents)). AreMarked l new.machine.choices) (sym marks_same)
            (subst (λ (cs : List Alternatives). AreMarked (saved old.machine) cs) (sym choices_same) s.marked);
        untried = subst (AllByRecursion (λ (c : Value Contents × Alternatives). CanBeTried new.machine.atoms new.machine.clauses c.0.0.heap.terms c.1))
            (sym (zip_none (reverse (saved new.machine)) new.machine.choices (choices_same ∙ idle.choices))) tt;
      };
      nothing = nothing;
      lists = lists_same ∙ idle.lists;
      choices = choices_same ∙ idle.choices;
    }
