use Rattle.std.proofs.Common.{rules, ◌≡◌, ◌+◌, ◌<◌, ◌≤◌, [], ◌∷◌, ◌++◌, length, take, drop, get_or, arith, refl, ap, sym, subst, ◌∙◌}
use Rattle.std.proofs.lemmas.List.{take_all}
use Rattle.spec_linear.specs.Solution.{Unsolvable, Has, MentionsOnly}
use Rattle.spec_linear.proofs.Denominators.{has_left}
use Rattle.cq_equations.specs.Told.{CallMakes, new_variables}
use Rattle.cq_equations.specs.Contents.{order_of, told_of}
use Rattle.cq_equations.proofs.Turned.{relation_at, parted, order_stays, no_solution, told_more}
use Rattle.cq_equations.proofs.project.tell_all.Goals as goal

pub members-init : goal.members-init
members-init c = (c.requires.new, λ m. refl, λ x h. h)

pub tell-requires : goal.tell-requires
tell-requires c =
    let within : c.members.c-index < length c.args.told.now = omega arith in
    relation_at c.args.told.now c.members.c-index c.in_ok-c.c c.requires.equations within
    (subst (λ d. d ≡ get_or c.args.told.now c.members.c-index d) (sym c.in_ok-c.ensures.cases) c.c-item.is)

pub returns-in-Err-clause-overflow : goal.returns-in-Err-clause-overflow
returns-in-Err-clause-overflow c pair e =
    let within : c.members.c-index < length c.args.told.now = omega arith in
    let is = subst (λ d. d ≡ get_or c.args.told.now c.members.c-index d) (sym c.in_ok-c.ensures.cases) c.c-item.is in
    record {
      before = take c.members.c-index c.args.told.now;
      member = c.in_ok-c.c;
      after = drop (c.members.c-index + 1) c.args.told.now;
      order = order_of c.members.store;
      split = parted c.args.told.now c.members.c-index c.in_ok-c.c within is;
      stays = c.members.invariant.2;
      made = subst (λ t. CallMakes t (order_of c.members.store) c.in_ok-c.c pair) c.members.invariant.0 (c.in-Err.ensures.overflow pair (search rules));
    }

pub members-preserved : goal.members-preserved
members-preserved c =
    let within : c.members.c-index < length c.args.told.now = omega arith in
    let is = subst (λ d. d ≡ get_or c.args.told.now c.members.c-index d) (sym c.in_ok-c.ensures.cases) c.c-item.is in
    let told : told_of c.tell.new.self ≡ told_of c.members.store ++ c.in_ok-c.c ∷ [] = search rules in
    let order : order_of c.tell.new.self ≡ order_of c.members.store ++ new_variables (order_of c.members.store) c.in_ok-c.c.form = search rules in (
      told_more c.args.told.now (told_of c.members.store) (told_of c.tell.new.self) c.members.c-index c.in_ok-c.c within is c.members.invariant.0 told,
      λ m.
          let same = c.members.invariant.1 m in
          order_stays c.args.told.now c.members.c-index c.in_ok-c.c (order_of c.members.store) (order_of c.tell.new.self) (subst (λ o. MentionsOnly o c.args.told.now) (sym same) m) within is order ∙ same,
      λ x h. subst (Has x) (sym order) (has_left x (order_of c.members.store) (new_variables (order_of c.members.store) c.in_ok-c.c.form) (c.members.invariant.2 x h)),
    )

pub returns-in-Ok-Unsolvable-clause-kept : goal.returns-in-Ok-Unsolvable-clause-kept
returns-in-Ok-Unsolvable-clause-kept c =
    let within : c.members.c-index < length c.args.told.now = omega arith in
    let is = subst (λ d. d ≡ get_or c.args.told.now c.members.c-index d) (sym c.in_ok-c.ensures.cases) c.c-item.is in
    let none : Unsolvable (told_of c.members.store ++ c.in_ok-c.c ∷ []) = search rules in
    no_solution c.args.told.now c.members.c-index c.in_ok-c.c within is (subst (λ t. Unsolvable (t ++ c.in_ok-c.c ∷ [])) c.members.invariant.0 none)

pub returns-clause-kept : goal.returns-clause-kept
returns-clause-kept c =
    let whole : length c.args.told.now ≤ c.members.c-index = omega arith in
    c.members.invariant.0 ∙ take_all c.members.c-index c.args.told.now whole
