-- Clauses that are kept, and put under new variables, are those of the definitions.
use Rattle.std.proofs.Common.{◌≡◌, ℕ, zero, suc, ◌+◌, ◌<◌, List, length, get_or, refl, sym, ap, ◌∙◌, arith, subst, inl, inr, Contains}
use Rattle.std.specs.Prelude.{◌==◌}
use Rattle.std.specs.List.{position_or_len}
use Rattle.std.proofs.lemmas.Bool.{eq-eqb, ne_eqb}
use Rattle.std.proofs.lemmas.List.Sums.{position_or_len_is}
use Rattle.spec_numbers.specs.Texts.{Text}
use Rattle.spec_terms.specs.Term.{Subst, Var, Compound, one, more, Occurs, apply, named}
use Rattle.spec_terms.specs.Variables.{variables, numbered_from, renamed_from, counted_from}
use Rattle.spec_terms.proofs.Substitution.{apply_agree, named-apply}
use Rattle.spec_terms.proofs.Listed.{occurs_listed, variables-renamed_from}
use Rattle.spec_terms.proofs.RenamedVariables.{variables_named}
use Rattle.spec_builtins.specs.Clauses.{rule, counted_on, variable_count}
use Rattle.cq_term.specs.Texts.{text_of}
use Rattle.cq_term.specs.Meaning.{HeapTerm}
use Rattle.cq_resolve.specs.Building.{moved_by}
use Rattle.cq_resolve.specs.StoredValue.{ClauseValue, both, HaveNamesBelow}
use Rattle.cq_resolve.specs.Database.{IsCounted, as_parts}

-- ---- places of counted variables

counted_length : (n count : ℕ) → length (counted_from n count) ≡ count
counted_length n zero = refl
counted_length n (suc count) = ap suc (counted_length (suc n) count)

counted_at : (n count k d : ℕ) → k < count → get_or (counted_from n count) k d ≡ n + k
counted_at n zero k d l = absurd (omega arith)
counted_at n (suc count) zero d l = omega arith
counted_at n (suc count) (suc k) d l = counted_at (suc n) count k d (omega arith) ∙ omega arith

place_counted : (count v : ℕ) → Contains (counted_from 0 count) v → position_or_len (λ w. w == v) (counted_from 0 count) ≡ v
place_counted count v there =
    let within : there.0 < count = omega (arith, there.1, counted_length 0 count) in
    let is : there.0 ≡ v = omega (arith, there.2, counted_at 0 count there.0 v within) in
    let inside : v < count = omega arith in
    position_or_len_is (λ w. w == v) (counted_from 0 count) v 0 (omega (arith, counted_length 0 count))
    (λ k l. ne_eqb (get_or (counted_from 0 count) k 0) v (λ e. omega (arith, counted_at 0 count k 0 (omega arith))))
    (λ l. eq-eqb (get_or (counted_from 0 count) v 0) v (counted_at 0 count v 0 inside ∙ omega arith))

-- ---- clauses

-- the variables of a clause by text are those by number
variables_read : (texts : List Text) (c : ClauseValue) → variables (rule (as_parts texts c)) ≡ variables (both c.head c.body)
variables_read texts c = variables_named (text_of texts) (both c.head c.body)

module _ (texts : List Text) (n names : ℕ) (c : ClauseValue) (is : IsCounted names c) where
  -- what stands in the clause is moved
  part_moved : (t : HeapTerm) → ((v : ℕ) → Occurs v t → Occurs v (both c.head c.body))
      → apply (numbered_from n (variables (rule (as_parts texts c)))) (named (text_of texts) t) ≡ named (text_of texts) (apply (moved_by n) t)
  part_moved t inside =
      ap (λ vs. apply (numbered_from n vs) (named (text_of texts) t)) (variables_read texts c ∙ is.numbered)
      ∙ sym (named-apply (text_of texts) (numbered_from n (counted_from 0 c.variables)) t)
      ∙ ap (named (text_of texts)) (apply_agree (numbered_from n (counted_from 0 c.variables)) (moved_by n) t
      (λ v o. ap (λ k. Var (n + k)) (place_counted c.variables v (subst (λ (vs : List ℕ). Contains vs v) is.numbered (occurs_listed (both c.head c.body) v (inside v o))))))

  pub instance_moved : counted_on n (as_parts texts c) ≡ record { head = named (text_of texts) (apply (moved_by n) c.head); body = named (text_of texts) (apply (moved_by n) c.body) }
  instance_moved = λ i. record { head = part_moved c.head (λ v o. inl o) i; body = part_moved c.body (λ v o. inr o) i }

  pub counted_variables : variable_count (as_parts texts c) ≡ c.variables
  counted_variables = ap length (variables_read texts c ∙ is.numbered) ∙ counted_length 0 c.variables

-- ---- clauses as they are kept

abbrev first_part : HeapTerm → HeapTerm
first_part (Compound f (more t ts)) = t
first_part t = t

abbrev second_part : HeapTerm → HeapTerm
second_part (Compound f (more t (one u))) = u
second_part t = t

module _ (head body : HeapTerm) (c : ClauseValue) (renamed : both c.head c.body ≡ renamed_from 0 (both head body)) where
  abbrev numbering : {A : Type 0} → Subst A
  numbering = numbered_from 0 (variables (both head body))

  is_first : c.head ≡ apply numbering head
  is_first = ap first_part renamed

  is_second : c.body ≡ apply numbering body
  is_second = ap second_part renamed

  pub kept_parts : (texts : List Text) → as_parts texts c ≡ counted_on 0 (record { head = named (text_of texts) head; body = named (text_of texts) body })
  kept_parts texts = λ i. record { head = first i; body = second i }
    where
      read : variables (rule (record { head = named (text_of texts) head; body = named (text_of texts) body })) ≡ variables (both head body)
      read = variables_named (text_of texts) (both head body)

      first : named (text_of texts) c.head ≡ apply (numbered_from 0 (variables (rule (record { head = named (text_of texts) head; body = named (text_of texts) body })))) (named (text_of texts) head)
      first = ap (named (text_of texts)) is_first ∙ named-apply (text_of texts) numbering head ∙ ap (λ vs. apply (numbered_from 0 vs) (named (text_of texts) head)) (sym read)

      second : named (text_of texts) c.body ≡ apply (numbered_from 0 (variables (rule (record { head = named (text_of texts) head; body = named (text_of texts) body })))) (named (text_of texts) body)
      second = ap (named (text_of texts)) is_second ∙ named-apply (text_of texts) numbering body ∙ ap (λ vs. apply (numbered_from 0 vs) (named (text_of texts) body)) (sym read)

  pub kept_counted : (names : ℕ) → c.variables ≡ length (variables (both head body)) → HaveNamesBelow names c → IsCounted names c
  kept_counted names count below = record {
    below = below;
    numbered = ap variables renamed ∙ variables-renamed_from 0 (both head body) ∙ ap (counted_from 0) (sym count);
  }
