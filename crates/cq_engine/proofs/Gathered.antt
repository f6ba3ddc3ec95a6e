-- A machine at the mark of a findall.
use Rattle.std.proofs.Common.{◌≡◌, ◌<◌, ℕ, List, None, Some, sym, subst, arith}
use Rattle.std.specs.Prelude.{Ok, Err, OnOk, OnErr}
use Rattle.std.specs.declared.result.Result.{Result}
use Rattle.spec_numbers.specs.Texts.{Text}
use Rattle.spec_search.specs.Database.{Database}
use Rattle.spec_search.specs.Search.{Search}
use Rattle.cq_control.specs.Heights.{total}
use Rattle.cq_resolve.specs.Database.{Program}
use Rattle.spec_engine.specs.Cells.{size}
use Rattle.cq_branch.specs.declared.alternatives.Alternatives.{Alternatives}
use Rattle.cq_branch.specs.Worlds.{stack, Stands, Arrives}
use Rattle.cq_machine.specs.declared.machine.Machine.{Machine}
use Rattle.cq_machine.specs.Machines.{database_of, now, saved}
use Rattle.cq_engine.specs.Fronts.{left_on}
use Rattle.cq_engine.specs.Seeking.{GoesTo}
use Rattle.cq_engine.proofs.Engines.{comes_at_once}

module _ (m : Machine) (choices : List Alternatives) (k : ℕ) where
  abbrev then_ : Machine
  then_ = record m { choices = choices }

  pub gathers : {A E : Type 0} (r : Result A E)
      → OnOk r ((steps : ℕ) (texts : List Text) (v : Program) (db : Database) (n : ℕ) (s : Search) → Stands texts v db n (saved m) m.choices (now m) (Some k) s
      → Arrives steps texts v db n (saved m) choices (now m) None s)
      → OnOk r (GoesTo m (Some k) then_ None)
  gathers (Ok x) f = λ steps n s j. f steps m.atoms m.clauses (database_of m) n s j
  gathers (Err e) f = tt

  pub fewer : {A E : Type 0} (r : Result A E)
      → OnOk r ((texts : List Text) (v : Program) → total size (stack texts v (saved m) choices) ≡ total size (stack texts v (saved m) m.choices))
      → OnOk r (left_on then_ None < left_on m (Some k))
  fewer (Ok x) f = let same = f m.atoms m.clauses in omega (arith, same)
  fewer (Err e) f = tt

  pub stays : {A E : Type 0} (r : Result A E) → OnErr r (choices ≡ m.choices) → OnErr r (GoesTo m (Some k) then_ (Some k))
  stays (Ok x) e = tt
  stays (Err f) e =
      subst (λ (cs : List Alternatives). GoesTo m (Some k) (record m { choices = cs }) (Some k)) (sym e) (λ steps n s j. comes_at_once m steps n (Some k) s j)
