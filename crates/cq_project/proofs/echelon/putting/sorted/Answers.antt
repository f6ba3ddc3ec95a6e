use Rattle.std.proofs.Common.{rules, ◌≡◌, ap, sym, subst, ◌∙◌}
use Rattle.std.specs.List.{AllByRecursion}
use Rattle.std.proofs.lemmas.List.Sorted.{IsNonDecreasingBy-from_sort_by_key}
use Rattle.spec_numbers.specs.Rational.{0ℚ, ◌+ℚ◌}
use Rattle.spec_numbers.specs.Sums.{sum_at}
use Rattle.spec_linear.specs.Form.{variables, value_at}
use Rattle.spec_linear.specs.Echelon.{AreDistinct}
use Rattle.cq_frac.specs.declared.row.Entry.{Entry}
use Rattle.cq_form.specs.Entries.{products_of}
use Rattle.cq_project.proofs.Sorting.{same_products, sorted_form, permuted_sum}
use Rattle.cq_project.proofs.echelon.putting.sorted.Goals as goal

pub of_entries-requires : goal.of_entries-requires
of_entries-requires c =
    let same = ap products_of c.in_ok-entries.ensures ∙ same_products c.args.equation.now.products.items in
    record {
      in_order = sorted_form c.in_ok-entries.entries.items c.sort_by_key.new.self.items c.sort_by_key.ensures.permutation
          (IsNonDecreasingBy-from_sort_by_key (λ (m : Entry). m.quantity) _ c.in_ok-sort_by_key.ensures.sorted (λ a r q k. search rules))
          (subst (λ s. AreDistinct (variables s)) (sym same) c.requires.proper.once)
          (subst (AllByRecursion (λ m. m.factor ≡ 0ℚ → ⊥)) (sym same) c.requires.proper.nonzero);
    }

pub returns-clause-value : goal.returns-clause-value
returns-clause-value c = λ a.
    ap (λ f. value_at a f) c.of_entries.ensures
    ∙ ap (λ q. c.args.equation.now.constant +ℚ q) (permuted_sum a c.in_ok-entries.entries.items c.sort_by_key.new.self.items c.sort_by_key.ensures.permutation)
    ∙ ap (λ s. c.args.equation.now.constant +ℚ sum_at a s) (ap products_of c.in_ok-entries.ensures ∙ same_products c.args.equation.now.products.items)
