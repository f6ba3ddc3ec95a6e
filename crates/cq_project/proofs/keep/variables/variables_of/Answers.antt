use Rattle.std.proofs.Common.{nat_eq, sym, subst, ◌∙◌}
use Rattle.std.proofs.lemmas.List.Filters.{dedup_is}
use Rattle.std.proofs.lemmas.Map.Keys.{IsStrictlyIncreasing-dedup}
use Rattle.std.proofs.lemmas.Result.{IfOk-weaker}
use Rattle.spec_linear.specs.Solution.{Has}
use Rattle.spec_projection.specs.Others.{AreAscending}
use Rattle.cq_project.proofs.Listing.{ascending, deduped}
use Rattle.cq_project.proofs.keep.variables.variables_of.Goals as goal

pub returns-clause-oldest_first : goal.returns-clause-oldest_first
returns-clause-oldest_first c =
    let is = dedup_is nat_eq _ _ c.dedup.ensures.filtered in
    IfOk-weaker c.numbered.result _ _
    (λ xs e. subst AreAscending (sym (e ∙ c.deref.ensures.value ∙ is)) (ascending _ (IsStrictlyIncreasing-dedup c.sort_unstable.new.self.items c.sort_unstable.ensures.sorted)))
    c.numbered.ensures

pub returns-clause-mentioned : goal.returns-clause-mentioned
returns-clause-mentioned c =
    let is = dedup_is nat_eq _ _ c.dedup.ensures.filtered in
    IfOk-weaker c.numbered.result _ _
    (λ xs e x.
    let d = deduped c.in_ok-numbers.numbers.items c.sort_unstable.new.self.items c.sort_unstable.ensures.permutation x in
    let m = c.in_ok-numbers.ensures x in (
      (λ h. m.0 (d.0 (subst (Has x) (e ∙ c.deref.ensures.value ∙ is) h))),
      (λ h. subst (Has x) (sym (e ∙ c.deref.ensures.value ∙ is)) (d.1 (m.1 h))),
    ))
    c.numbered.ensures
