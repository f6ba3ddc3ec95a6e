use Rattle.std.proofs.Common.{◌∷◌, [], length, subst, sym, ap, arith}
use Rattle.std.proofs.lemmas.List.{length-append}
use Rattle.cq_predicates.specs.Numbered.{AreByArity, AreWith}
use Rattle.cq_predicates.proofs.Entries.{by_arity_more, none_by_arity}
use Rattle.cq_predicates.proofs.table.numbered.Builtins.new.Goals as goal

pub loop-arity-init : goal.loop-arity-init
loop-arity-init c = ((λ k text e. e), c.requires.different, ap length c.new-by_arity.ensures.items, none_by_arity _ _ c.new-by_arity.ensures.items)

pub loop-arity-preserved : goal.loop-arity-preserved
loop-arity-preserved c =
    let i = c.loop-arity.invariant in
    let old = c.loop-arity.by_arity.items in
    let entries = c.in_ok-entries.entries in
    let more = c.in_ok-push.ensures.items in
    let keeps = c.entries_with.ensures.kept in
    let atoms = c.entries_with.new.atoms in (
      (λ k text e. keeps k text (i.0 k text e)),
      c.entries_with.ensures.different,
      omega (arith, ap length more, length-append old (entries ∷ []), i.2),
      subst (AreByArity atoms) (sym more) (by_arity_more c.loop-arity.atoms atoms old entries keeps i.3 (subst (λ n. AreWith atoms n entries) (sym i.2) c.in_ok-entries.ensures.entries)),
    )

pub returns-clause-are : goal.returns-clause-are
returns-clause-are c = let i = c.loop-arity.invariant in record { size = omega (arith, i.2); lists = i.3 }
