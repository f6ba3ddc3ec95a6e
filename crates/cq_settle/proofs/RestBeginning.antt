-- A world that knows nothing has nothing left to settle.
use Rattle.std.proofs.Common.{◌≡◌, ℕ, List, [], length, false, refl, sym, ap, subst, arith}
use Rattle.std.specs.Prelude.{filter, pos, ◌==◌}
use Rattle.std.specs.List.{AllZip, list_any}
use Rattle.spec_linear.specs.Solution.{Solvable}
use Rattle.spec_numbers.specs.Texts.{Text}
use Rattle.spec_terms.specs.Term.{identity, named}
use Rattle.spec_branch.specs.Branch.{State}
use Rattle.spec_branch.specs.Alike.{idle}
use Rattle.cq_term.specs.Texts.{text_of}
use Rattle.cq_attr.specs.Attributes.{Waiting}
use Rattle.cq_settle.specs.Contents.{Contents}
use Rattle.cq_settle.specs.Standing.{Stands, IsConstraint, IsSleeper, is_constraint, is_goal}
use Rattle.cq_settle.specs.Rest.{IsReadThrough, IsAtRest, IsReady}
use Rattle.cq_settle.specs.Ready.{KnowsNothing}

nothing_solvable : Solvable []
nothing_solvable = (record { denominator = 1; positive = omega arith; numerator = λ v. pos 0 }, tt)

module _ (texts : List Text) (c : Contents) (k : KnowsNothing texts c) where
  abbrev st : State
  st = idle identity (λ v. false) 0 (length c.heap.images)

  stands : Stands texts c identity identity st
  stands = record {
    bindings = record { inside = λ v l. sym (ap (named (text_of texts)) (k.unbound v l)); outside = λ v l. refl };
    linear = k.told;
    delayed = subst (λ (ks : List Waiting). AllZip (IsConstraint texts c.heap identity identity) (filter (λ w. is_constraint w.susp) ks) []) (sym k.waiting) tt;
    numeric = λ v. ap (λ (ns : List ℕ). list_any (λ w. w == v) ns) k.numeric;
    sleepers = subst (λ (ks : List Waiting). AllZip (IsSleeper texts c.heap identity identity) (filter (λ w. is_goal w.susp) ks) []) (sym k.waiting) tt;
    fresh = refl;
    names = k.names;
  }

  read_through : IsReadThrough st
  read_through = record {
    through = λ v w o. refl;
    older = λ v w e. let h : v ≡ w = cc in omega (arith, h);
    below = λ v w l o. omega (arith, l, o);
    beyond = λ v l. refl;
    numeric = λ v e. cc;
  }

  rests : IsAtRest st
  rests = record {
    read_through = read_through;
    solvable = nothing_solvable;
    fixed = λ v q e f. cc;
    no_clash = λ v e. cc;
    images = λ v w e f. cc;
    waiting = tt;
    delayed = tt;
    asleep = tt;
  }

  pub begins_ready : IsReady texts c
  begins_ready = (st, record { stands = stands; rests = rests })
