use Rattle.std.proofs.Common.{Bor, length, ap, subst, ◌∙◌, arith}
use Rattle.std.specs.Prelude.{slice_get}
use Rattle.std.proofs.lemmas.List.{get_or_default}
use Rattle.std.proofs.lemmas.List.Elements.{AllWithin-more, AllWithin-upto, All-from_all_within}
use Rattle.spec_numbers.specs.Texts.{Text}
use Rattle.cq_predicates.specs.Numbered.{HasEntry}
use Rattle.cq_predicates.specs.declared.table.builtins.Builtin.{Builtin}
use Rattle.cq_predicates.proofs.Entries.{right_put, entry_put, has_put, none_right, has_all}
use Rattle.cq_predicates.proofs.table.numbered.entries_with.Goals as goal

pub loop-name-init : goal.loop-name-init
loop-name-init c = ((λ x text e. e), c.requires.different, none_right c.args.atoms.now c.args.arity c.new-entries.result c.new-entries.ensures, λ x d low l. absurd (omega (arith, l)))

pub loop-name-preserved : goal.loop-name-preserved
loop-name-preserved c =
    let i = c.loop-name.invariant in
    let old = c.loop-name.atoms in
    let new = c.number_of.new.atoms in
    let before = c.loop-name.entries in
    let after = c.put.new.self in
    let n = c.args.arity in
    let k = c.loop-name.name-index in
    let number = c.index.result in
    let keeps = c.number_of.ensures.kept in
    let put = c.in_ok-put.ensures in
    let rows = c.rows-name-items.result.now in
    let P = λ (row : Bor Text × Builtin). HasEntry new after row.0.now in
    let named = ap (slice_get new) c.index.ensures ∙ c.in_ok-number.ensures.number in (
      (λ x text e. keeps x text (i.0 x text e)),
      c.number_of.ensures.different,
      right_put old new n before after number _ keeps put (record { name = _; named = named; is = c.rows-name-items.ensures.right k _ (omega arith) }) i.2,
      AllWithin-more P rows 0 k
          (λ x d low l. entry_put old new n before after number _ keeps put _ (i.3 x d low l))
          (λ d. subst P (get_or_default rows k _ d (omega arith)) (has_put old new n before after number _ keeps put _ named)),
    )

pub returns-clause-entries : goal.returns-clause-entries
returns-clause-entries c =
    let rows = c.rows-name-items.result.now in
    let P = λ (row : Bor Text × Builtin). HasEntry c.loop-name.atoms c.loop-name.entries row.0.now in
    record {
      right = c.loop-name.invariant.2;
      all = has_all c.loop-name.atoms c.loop-name.entries c.args.arity rows c.rows-name-items.ensures
          (All-from_all_within P rows (AllWithin-upto P rows 0 c.loop-name.name-index (length rows) (omega arith) c.loop-name.invariant.3));
    }
