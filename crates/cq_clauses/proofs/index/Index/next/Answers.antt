use Rattle.std.proofs.Common.{◌≡◌, ◌+◌, [], sym, ap, subst, ◌∙◌}
use Rattle.std.specs.Prelude.{unwrap_or}
use Rattle.std.specs.Option.{option_copied}
use Rattle.std.proofs.lemmas.Option.{none-some}
use Rattle.std.specs.HashMap.{get}
use Rattle.cq_clauses.specs.Keys.{same_key}
use Rattle.cq_clauses.specs.Numbered.{NoneWithin}
use Rattle.cq_clauses.proofs.Indexed.{keyless_rises, keyed_rises, none_matches}
use Rattle.cq_clauses.proofs.index.Index.next.Goals as goal
use Rattle.cq_clauses.proofs.index.Index.next.Goals.{in-Some, in-None}

pub first_from-keyless-requires-clause-rising : goal.first_from-keyless-requires-clause-rising
first_from-keyless-requires-clause-rising c = keyless_rises c.args.self.now c.requires.0 c.requires.1.0

pub first_from-keyed-requires-clause-rising : goal.first_from-keyed-requires-clause-rising
first_from-keyed-requires-clause-rising c =
    keyed_rises c.args.self.now c.requires.0 c.requires.1.0 c.args.key.now c.in-Some.places.now (sym (ap option_copied c.in-Some.is) ∙ c.get.ensures.value)

pub returns-clause-none : goal.returns-clause-none
returns-clause-none c keys is =
    let index = c.args.self.now in
    let none : NoneWithin (unwrap_or (get same_key index.keyed c.args.key.now) []) (index.first + c.args.from) c.match-get.keyed =
    elim c.match-get.branch [
      | in-Some w ↦ (
          let e : unwrap_or (get same_key index.keyed c.args.key.now) [] ≡ w.in-Some.places.now = ap (λ o. unwrap_or o []) (sym c.get.ensures.value ∙ ap option_copied w.in-Some.is) in
          subst (λ n. NoneWithin (unwrap_or (get same_key index.keyed c.args.key.now) []) (index.first + c.args.from) n) (sym w.keyed-is)
          (subst (λ ns. NoneWithin ns (index.first + c.args.from) w.first_from-keyed.result) (sym e) w.first_from-keyed.ensures.none))
      | in-None w ↦ (
          let e : unwrap_or (get same_key index.keyed c.args.key.now) [] ≡ [] = ap (λ o. unwrap_or o []) (sym c.get.ensures.value ∙ ap option_copied w.in-None.is) in
          subst (λ ns. NoneWithin ns (index.first + c.args.from) c.match-get.keyed) (sym e) (record { beyond = λ i x got high. absurd (none-some x got) }))
    ] in
    none_matches index keys is c.args.key.now c.args.from c.first_from-keyless.result c.match-get.keyed c.min.result c.first_from-keyless.ensures.none none c.min.ensures
