-- What a program and its machine are where a change was made, or where memory was wanting.
use Rattle.std.proofs.Common.{◌≡◌, refl, sym, subst}
use Rattle.std.specs.Prelude.{Ok, Err, OnOk, OnErr}
use Rattle.std.specs.declared.result.Result.{Result}
use Rattle.spec_numbers.proofs.Prefixes.{prefix_same}
use Rattle.cq_resolve.specs.Database.{Program}
use Rattle.cq_machine.specs.declared.machine.Machine.{Machine}
use Rattle.cq_execute.specs.Changing.{KeepsAllButClauses}

-- what stays so of a program through a change, and where there was none
pub either_way : {A E : Type 0} (P : Program → Type 0) (old new : Program) (Done : Type 0) → P old → (Done → P new) → (r : Result A E) → OnOk r Done → OnErr r (new ≡ old) → P new
either_way P old new Done was done (Ok x) h e = done h
either_way P old new Done was done (Err f) h e = subst P (sym e) was

-- what follows of a change
pub on_ok : {A E P Q : Type 0} (r : Result A E) → (P → Q) → OnOk r P → OnOk r Q
on_ok (Ok x) f p = f p
on_ok (Err e) f p = tt

-- a machine that is as it was
pub all_kept : (m : Machine) → KeepsAllButClauses m m
all_kept m = record {
  atoms = prefix_same m.atoms m.atoms refl;
  names = refl;
  ops = refl;
  showing = record { begun = λ w is. is; same = λ texts w is. refl };
  budget = refl;
}
