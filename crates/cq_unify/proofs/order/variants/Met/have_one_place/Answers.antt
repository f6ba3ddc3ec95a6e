use Rattle.std.proofs.Common.{◌≡◌, sym, ◌∙◌, ap, refl, eqb-true, eq-eqb}
use Rattle.cq_frac.specs.contracts.VarIdPartialEq.TheImpl as same_variable
use Rattle.cq_term.specs.Places.{numbers_of, place_of}
use Rattle.cq_term.proofs.WalkPlaces.{numbers_of-insert_key, position_or_len-place}
use Rattle.cq_unify.proofs.order.variants.Met.have_one_place.Goals as goal

pub returns-clause-left : goal.returns-clause-left
returns-clause-left c = ap numbers_of c.in_ok-left.ensures.keys ∙ numbers_of-insert_key same_variable.eq-value.it (λ a b. refl) c.args.self.now.left.keys c.args.v

pub returns-clause-right : goal.returns-clause-right
returns-clause-right c = ap numbers_of c.in_ok-right.ensures.keys ∙ numbers_of-insert_key same_variable.eq-value.it (λ a b. refl) c.args.self.now.right.keys c.args.w

pub returns-clause-place : goal.returns-clause-place
returns-clause-place c =
    let left : c.in_ok-left.left ≡ place_of c.args.self.now.left.keys c.args.v.0 =
    c.in_ok-left.ensures.index ∙ position_or_len-place (same_variable.eq-value.it c.args.v) c.args.v.0 (λ w. refl) c.args.self.now.left.keys in
    let right : c.in_ok-right.right ≡ place_of c.args.self.now.right.keys c.args.w.0 =
    c.in_ok-right.ensures.index ∙ position_or_len-place (same_variable.eq-value.it c.args.w) c.args.w.0 (λ w. refl) c.args.self.now.right.keys in
    (λ h. sym left ∙ eqb-true c.in_ok-left.left c.in_ok-right.right h ∙ right, λ h. eq-eqb c.in_ok-left.left c.in_ok-right.right (left ∙ h ∙ sym right))
