use Rattle.std.proofs.Common.{◌≡◌, ◌⊎◌, inl, inr, Ok, Err, sym, subst, length, refl, arith}
use Rattle.std.proofs.lemmas.Bool.{cases_lt, false≢true}
use Rattle.std.proofs.lemmas.Option.{slice_get_read}
use Rattle.cq_clauses.proofs.Numbers.{least_some, least_none}
use Rattle.cq_clauses.proofs.place_list.PlaceList.first_from.Goals as goal
use Rattle.cq_clauses.proofs.place_list.PlaceList.first_from.Goals.{in-Ok, in-Ok-2}

pub returns-in-Some-clause-later : goal.returns-in-Some-clause-later
returns-in-Some-clause-later c =
    let at : (c.binary_search.result ≡ Ok c.match-binary_search.place) ⊎ (c.binary_search.result ≡ Err c.match-binary_search.place) =
    elim c.match-binary_search.branch [
      | in-Ok w ↦ subst (λ p. (c.binary_search.result ≡ Ok p) ⊎ (c.binary_search.result ≡ Err p)) (sym w.place-is) w.in-Ok.is
      | in-Ok-2 w ↦ subst (λ p. (c.binary_search.result ≡ Ok p) ⊎ (c.binary_search.result ≡ Err p)) (sym w.place-is) w.in-Ok.is
    ] in
    (least_some c.self.inside.numbers.items c.args.from c.binary_search.result c.match-binary_search.place c.binary_search.ensures.position (rw c.self.view_is c.requires.rising) at c.in-Some.number.now
    (slice_get_read c.self.inside.numbers.items (length c.self.inside.numbers.items) c.match-binary_search.place c.in-Some.number.now refl (omega (arith, c.in-Some.ensures.variant.0 refl, c.self.inside.numbers.ok.0)) c.in-Some.ensures.lookup)).0

pub returns-in-Some-clause-none : goal.returns-in-Some-clause-none
returns-in-Some-clause-none c =
    let at : (c.binary_search.result ≡ Ok c.match-binary_search.place) ⊎ (c.binary_search.result ≡ Err c.match-binary_search.place) =
    elim c.match-binary_search.branch [
      | in-Ok w ↦ subst (λ p. (c.binary_search.result ≡ Ok p) ⊎ (c.binary_search.result ≡ Err p)) (sym w.place-is) w.in-Ok.is
      | in-Ok-2 w ↦ subst (λ p. (c.binary_search.result ≡ Ok p) ⊎ (c.binary_search.result ≡ Err p)) (sym w.place-is) w.in-Ok.is
    ] in
    rw (← c.self.view_is) (least_some c.self.inside.numbers.items c.args.from c.binary_search.result c.match-binary_search.place c.binary_search.ensures.position (rw c.self.view_is c.requires.rising) at c.in-Some.number.now
    (slice_get_read c.self.inside.numbers.items (length c.self.inside.numbers.items) c.match-binary_search.place c.in-Some.number.now refl (omega (arith, c.in-Some.ensures.variant.0 refl, c.self.inside.numbers.ok.0)) c.in-Some.ensures.lookup)).1

pub returns-in-None-clause-none : goal.returns-in-None-clause-none
returns-in-None-clause-none c =
    let at : (c.binary_search.result ≡ Ok c.match-binary_search.place) ⊎ (c.binary_search.result ≡ Err c.match-binary_search.place) =
    elim c.match-binary_search.branch [
      | in-Ok w ↦ subst (λ p. (c.binary_search.result ≡ Ok p) ⊎ (c.binary_search.result ≡ Err p)) (sym w.place-is) w.in-Ok.is
      | in-Ok-2 w ↦ subst (λ p. (c.binary_search.result ≡ Ok p) ⊎ (c.binary_search.result ≡ Err p)) (sym w.place-is) w.in-Ok.is
    ] in
    rw (← c.self.view_is) (least_none c.self.inside.numbers.items c.args.from c.binary_search.result c.match-binary_search.place c.binary_search.ensures.position (rw c.self.view_is c.requires.rising) at c.args.end
    (elim (cases_lt c.match-binary_search.place (length c.self.inside.numbers.items)) [
      | inl less ↦ absurd (false≢true (c.in-None.ensures.variant.1 (omega (arith, less, c.self.inside.numbers.ok.0))))
      | inr rest ↦ rest
    ]))
