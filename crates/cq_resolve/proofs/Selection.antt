-- The clauses that a call passes over by its first argument may be left out.
use Rattle.std.proofs.Common.{◌≡◌, ℕ, ◌<◌, List, [], ◌∷◌, length, map, filter, Bool, true, false, cond, Option, Some, None, refl, sym, ap, ◌∙◌, subst}
use Rattle.std.specs.Prelude.{All}
use Rattle.std.specs.Option.{option_map_or}
use Rattle.std.proofs.lemmas.List.Elements.{All-head, All-tail}
use Rattle.std.proofs.lemmas.Option.{slice_get-get_or}
use Rattle.spec_numbers.specs.Texts.{Text}
use Rattle.spec_terms.specs.Term.{Term, Subst, apply, named}
use Rattle.spec_terms.specs.Unifier.{HasNoUnifier}
use Rattle.spec_terms.proofs.Renamed.{none_by_texts}
use Rattle.spec_builtins.specs.Alternatives.{◌≐◌}
use Rattle.spec_search.specs.Database as search
use Rattle.spec_search.specs.Replies.{Place}
use Rattle.spec_search.specs.Control.{instance}
use Rattle.spec_search.specs.Steps.{IsSelection, end, takes, leaves_out}
use Rattle.cq_term.specs.Texts.{AreDifferent, text_of}
use Rattle.cq_term.specs.Meaning.{HeapTerm, blank}
use Rattle.cq_term.specs.Names.{HasNamesBelow}
use Rattle.cq_term.proofs.Known.{names_substituted, each_below, different_below}
use Rattle.cq_resolve.specs.Building.{moved_by}
use Rattle.cq_resolve.specs.StoredValue.{ClauseValue}
use Rattle.cq_clauses.specs.declared.key.Key.{Key}
use Rattle.cq_clauses.specs.Keys.{may_match}
use Rattle.cq_clauses.specs.Selected.{key_at, matching}
use Rattle.cq_resolve.specs.Keys.{key_of}
use Rattle.cq_resolve.specs.Database.{IsCounted, as_clause, content_at}
use Rattle.cq_resolve.proofs.Excluded.{excluded}
use Rattle.cq_resolve.proofs.Instances.{instance_moved}

-- ---- clauses passed over

module _ (texts : List Text) (different : AreDifferent texts) (p : Place) (goal : HeapTerm) (goal_known : HasNamesBelow (length texts) goal) (contents : List ClauseValue)
    (counted : All (IsCounted (length texts)) contents) where
  abbrev key_in : ℕ → Option Key
  key_in = key_at (λ (c : ClauseValue). key_of c.head) contents

  abbrev clause : ℕ → search.Clause
  clause = as_clause texts contents

  abbrev content : ℕ → ClauseValue
  content n = content_at contents n

  is_counted : (n : ℕ) → n < length contents → IsCounted (length texts) (content n)
  is_counted n within = counted n (record { head = blank; body = blank; variables = 0 }) within

  -- a head that nothing makes equal to the goal has no unifier with it under the next variables
  pub none_with_texts : (n : ℕ) → n < length contents → ((r : Subst ℕ) → HasNoUnifier (record { left = goal; right = apply r (content n).head } ∷ []))
      → HasNoUnifier ((named (text_of texts) goal ≐ (instance p (clause n)).head) ∷ [])
  none_with_texts n within none =
      let c : ClauseValue = content n in
      let is : IsCounted (length texts) c = is_counted n within in
      let moved : HeapTerm = apply (moved_by p.state.fresh) c.head in
      let below : HasNamesBelow (length texts) moved = names_substituted (length texts) (moved_by p.state.fresh) c.head is.below.head (λ v o. tt) in
      subst (λ (t : Term Text). HasNoUnifier ((named (text_of texts) goal ≐ t) ∷ []))
      (sym (ap (λ h. h.head) (instance_moved texts p.state.fresh (length texts) c is)))
      (none_by_texts (text_of texts) (length texts) (different_below texts different) (record { left = goal; right = moved } ∷ [])
      (each_below (length texts) goal goal_known, each_below (length texts) moved below, tt) (none (moved_by p.state.fresh)))

  no_unifier : (k : Key) (n : ℕ) → key_of goal ≡ Some k → n < length contents → may_match k (key_in n) ≡ false
      → HasNoUnifier ((named (text_of texts) goal ≐ (instance p (clause n)).head) ∷ [])
  no_unifier k n of_goal within passed =
      let key : key_in n ≡ key_of (content n).head =
      ap (λ o. option_map_or (λ (d : ClauseValue). key_of d.head) o None) (slice_get-get_or contents n (record { head = blank; body = blank; variables = 0 }) within) in
      none_with_texts n within (λ r. excluded goal (content n).head r k of_goal (ap (may_match k) (sym key) ∙ passed))

  all_taken : (ns : List ℕ) → IsSelection p (named (text_of texts) goal) (map clause ns) (map clause ns)
  all_taken [] = end
  all_taken (n ∷ ns) = takes (all_taken ns)

  some_taken : (k : Key) → key_of goal ≡ Some k → (ns : List ℕ) → All (λ n. n < length contents) ns
      → IsSelection p (named (text_of texts) goal) (map clause ns) (map clause (filter (λ n. may_match k (key_in n)) ns))
  some_taken k of_goal [] h = end
  some_taken k of_goal (n ∷ ns) h = go (may_match k (key_in n)) refl (some_taken k of_goal ns (All-tail (λ n. n < length contents) n ns h))
    where
      go : (b : Bool) → may_match k (key_in n) ≡ b → IsSelection p (named (text_of texts) goal) (map clause ns) (map clause (filter (λ n. may_match k (key_in n)) ns))
          → IsSelection p (named (text_of texts) goal) (map clause (n ∷ ns)) (map clause (cond b (n ∷ filter (λ n. may_match k (key_in n)) ns) (filter (λ n. may_match k (key_in n)) ns)))
      go true e next = takes next
      go false e next = leaves_out (no_unifier k n of_goal (All-head (λ n. n < length contents) n ns h) e) next

  pub selected : (ns : List ℕ) → All (λ n. n < length contents) ns
      → IsSelection p (named (text_of texts) goal) (map clause ns) (map clause (matching key_in (key_of goal) ns))
  selected ns h = by (key_of goal) refl
    where
      by : (o : Option Key) → key_of goal ≡ o → IsSelection p (named (text_of texts) goal) (map clause ns) (map clause (matching key_in o ns))
      by None e = all_taken ns
      by (Some k) e = some_taken k e ns h
