use Rattle.std.proofs.Common.{ℕ, Option, subst}
use Rattle.std.specs.Prelude.{MatchOption}
use Rattle.cq_dict.specs.Roles.{HasEntry}
use Rattle.cq_tableau.specs.Lightest.{IsLightest}
use Rattle.cq_store.specs.Equated.{HasNoLiveEntry}
use Rattle.cq_store.proofs.Equations.{free_crosses}
use Rattle.cq_store.proofs.equating.enter_zero.Goals as goal

pub lightest_column-requires-clause-table : goal.lightest_column-requires-clause-table
lightest_column-requires-clause-table c = c.requires.behind.keeps.table

pub lightest_column-requires-clause-row : goal.lightest_column-requires-clause-row
lightest_column-requires-clause-row c = c.requires.behind.row

pub enter_by_column-requires-clause-crosses : goal.enter_by_column-requires-clause-crosses
enter_by_column-requires-clause-crosses c =
    let roles = c.args.dict.now.roles in
    let flags = c.args.dict.now.restricted in
    free_crosses c.args.told.now c.args.names.now.now c.args.c.now roles flags c.args.q c.requires.behind c.in-Some.column
    (subst (IsLightest roles flags c.args.q) c.in-Some.is c.in_ok-column.ensures).0

pub first_column-requires : goal.first_column-requires
first_column-requires c = record { row = c.requires.behind.row }

pub enter_by_level-requires-clause-level : goal.enter_by_level-requires-clause-level
enter_by_level-requires-clause-level c =
    let roles = c.args.dict.now.roles in
    let flags = c.args.dict.now.restricted in
    record {
      behind = c.requires.behind;
      zero = c.requires.zero;
      none = subst (IsLightest roles flags c.args.q) c.in_default.is c.in_ok-column.ensures;
      entry = subst (λ (o : Option ℕ). MatchOption o (HasNoLiveEntry roles c.args.q) (λ k. HasEntry roles c.args.q k)) c.in-Some-first_column.is c.first_column.ensures;
    }

pub enter_nothing-requires-clause-number : goal.enter_nothing-requires-clause-number
enter_nothing-requires-clause-number c =
    let roles = c.args.dict.now.roles in
    subst (λ (o : Option ℕ). MatchOption o (HasNoLiveEntry roles c.args.q) (λ k. HasEntry roles c.args.q k)) c.in-None.is c.first_column.ensures

pub returns-in-None-clause-pivots : goal.returns-in-None-clause-pivots
returns-in-None-clause-pivots c = λ n e. absurd (c.enter_nothing.ensures.pivots n e)

pub returns-in-None-clause-numbered : goal.returns-in-None-clause-numbered
returns-in-None-clause-numbered c = c.enter_nothing.ensures.numbered c.args.numbers.now.entries c.requires.numbered
