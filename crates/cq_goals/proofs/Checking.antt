-- Parts that wait to be looked at.
use Rattle.std.proofs.Common.{◌≡◌, ℕ, ◌+◌, ◌<◌, List, [], ◌∷◌, ◌++◌, length, Option, Some, None, ap, sym, ◌∙◌, arith}
use Rattle.std.specs.Prelude.{All}
use Rattle.std.proofs.lemmas.List.Elements.{All-nil, All-push, All-same, All-pop}
use Rattle.spec_numbers.specs.Texts.{Text}
use Rattle.spec_terms.specs.Term.{size}
use Rattle.spec_syntax.specs.Trees.{Tree, binary}
use Rattle.spec_builtins.specs.Errors.{or_error, type_error}
use Rattle.spec_branch.specs.Checks.{constraint_error, question_error}
use Rattle.cq_term.specs.Texts.{text_of}
use Rattle.cq_term.specs.Meaning.{HeapTerm, at}
use Rattle.cq_term.specs.Trees.{tree}
use Rattle.cq_built.specs.declared.errors.BuiltinFault.{BuiltinFault}
use Rattle.cq_built.specs.Faults.{IsFound}
use Rattle.cq_built.specs.Sides.{HasSides}
use Rattle.cq_built.specs.declared.sides.Sides.{Sides}
use Rattle.cq_built.proofs.SidesErrors.{found_first, found_same}
use Rattle.cq_built.proofs.Heads.{tree_of_sides, size_of_sides}
use Rattle.cq_goals.specs.declared.checks.Purpose.{Purpose}
use Rattle.cq_goals.specs.declared.checks.Purpose.TheVariants as purpose
use Rattle.cq_goals.specs.declared.checks.Part.{Part}
use Rattle.cq_goals.specs.declared.checks.Part.TheVariants as part
use Rattle.cq_goals.specs.declared.checks.Role.TheVariants as role
use Rattle.cq_goals.specs.Checking.{error_for, part_error, part_id, IsLivePart, waiting_error, waiting_size, GoesOn, IsUnderWay, IsRole}
use Rattle.cq_goals.proofs.Errors.{or_error-assoc, or_error-none}
use Rattle.cq_goals.proofs.Heads.{error_of_conjunction, error_of_disjunction, error_of_relation}

module _ (p : Purpose) (texts : List Text) (ts : List HeapTerm) where
  pub waits_last : (ws : List Part) (w : Part) → waiting_error p texts ts (ws ++ w ∷ []) ≡ or_error (part_error p texts ts w) (waiting_error p texts ts ws)
  waits_last [] w = sym (or_error-none (part_error p texts ts w))
  waits_last (v ∷ ws) w =
      ap (λ o. or_error o (part_error p texts ts v)) (waits_last ws w)
      ∙ or_error-assoc (part_error p texts ts w) (waiting_error p texts ts ws) (part_error p texts ts v)

  pub size_last : (ws : List Part) (w : Part) → waiting_size ts (ws ++ w ∷ []) ≡ waiting_size ts ws + size (at ts (part_id w))
  size_last [] w = omega arith
  size_last (v ∷ ws) w = let h = size_last ws w in omega (arith, h)

  module _ (old new : List Part) (error : Option Tree) (work : ℕ) where
    -- a part without an error that has no parts of its own
    pub goes_by : new ≡ old → error ≡ None → 0 < work → GoesOn p texts ts old error work new
    goes_by n e lt = record {
      same = ap (waiting_error p texts ts) n ∙ ap (λ o. or_error o (waiting_error p texts ts old)) (sym e);
      live = λ all. All-same (IsLivePart ts) new old n all;
      less = (let s = ap (waiting_size ts) n in omega (arith, s, lt));
    }

    pub goes_to : (a : Part) → new ≡ old ++ a ∷ [] → error ≡ part_error p texts ts a → IsLivePart ts a → size (at ts (part_id a)) < work → GoesOn p texts ts old error work new
    goes_to a n e live lt = record {
      same = ap (waiting_error p texts ts) n ∙ waits_last old a ∙ ap (λ o. or_error o (waiting_error p texts ts old)) (sym e);
      live = λ all. All-same (IsLivePart ts) new (old ++ a ∷ []) n (All-push (IsLivePart ts) old a all live);
      less = (let s = ap (waiting_size ts) n in let t = size_last old a in omega (arith, s, t, lt));
    }

    pub goes_to_both : (a b : Part) → new ≡ (old ++ b ∷ []) ++ a ∷ [] → error ≡ or_error (part_error p texts ts a) (part_error p texts ts b) → IsLivePart ts a → IsLivePart ts b
        → size (at ts (part_id a)) + size (at ts (part_id b)) < work → GoesOn p texts ts old error work new
    goes_to_both a b n e live_a live_b lt = record {
      same =
          ap (waiting_error p texts ts) n ∙ waits_last (old ++ b ∷ []) a ∙ ap (or_error (part_error p texts ts a)) (waits_last old b)
          ∙ sym (or_error-assoc (part_error p texts ts a) (part_error p texts ts b) (waiting_error p texts ts old))
          ∙ ap (λ o. or_error o (waiting_error p texts ts old)) (sym e);
      live = λ all.
          All-same (IsLivePart ts) new ((old ++ b ∷ []) ++ a ∷ []) n
          (All-push (IsLivePart ts) (old ++ b ∷ []) a (All-push (IsLivePart ts) old b all live_b) live_a);
      less = (let s = ap (waiting_size ts) n in let t = size_last (old ++ b ∷ []) a in let u = size_last old b in omega (arith, s, t, u, lt));
    }

  -- ---- the loop, at a part that was taken off
  module _ (whole : Option Tree) (ws old : List Part) (w : Part) (h : IsUnderWay p texts ts whole ws) (n : ws ≡ old ++ w ∷ []) where
    popped : All (IsLivePart ts) old × IsLivePart ts w
    popped = All-pop (IsLivePart ts) ws old (Some w) n h.live

    pub next_live : IsLivePart ts w
    next_live = popped.1

    leads : or_error (part_error p texts ts w) (waiting_error p texts ts old) ≡ whole
    leads = sym (waits_last old w) ∙ ap (waiting_error p texts ts) (sym n) ∙ h.leads

    pub stops : (f : BuiltinFault) → IsFound texts ts (part_error p texts ts w) f → IsFound texts ts whole f
    stops f found = found_same texts ts whole (or_error (part_error p texts ts w) (waiting_error p texts ts old)) f (sym leads) (found_first texts ts (part_error p texts ts w) (waiting_error p texts ts old) f found)

    module _ (new : List Part) (g : GoesOn p texts ts old (part_error p texts ts w) (size (at ts (part_id w))) new) where
      pub goes : IsUnderWay p texts ts whole new
      goes = record { leads = g.same ∙ leads; live = g.live popped.0 }

      pub is_less : waiting_size ts new < waiting_size ts ws
      is_less = let s = ap (waiting_size ts) n in let t = size_last old w in let l = g.less in omega (arith, s, t, l)

  pub ends : (whole : Option Tree) (ws : List Part) → IsUnderWay p texts ts whole ws → length ws ≡ 0 → whole ≡ None
  ends whole [] h n = sym h.leads
  ends whole (w ∷ ws) h n = absurd (omega (arith, n))

  pub starts : (w : Part) (ws : List Part) → IsLivePart ts w → ws ≡ w ∷ [] → IsUnderWay p texts ts (part_error p texts ts w) ws
  starts w ws live n = record {
    leads = ap (waiting_error p texts ts) n;
    live = All-same (IsLivePart ts) ws (w ∷ []) n (All-push (IsLivePart ts) [] w (All-nil (IsLivePart ts)) live);
  }

-- ---- a term with two sides, by what its name is
module _ (texts : List Text) (ts : List HeapTerm) (id : ℕ) (s : Sides) (h : HasSides ts id s) where
  whole_is : tree texts ts id ≡ binary (text_of texts s.name) (tree texts ts s.left) (tree texts ts s.right)
  whole_is = tree_of_sides texts ts id s h

  module _ (old new : List Part) where
    pub conjuncts_wait : (p : Purpose) → IsRole (text_of texts s.name) role.Conjunction → new ≡ (old ++ part.Constraint s.right ∷ []) ++ part.Constraint s.left ∷ []
        → GoesOn p texts ts old (error_for p (tree texts ts id)) (size (at ts id)) new
    conjuncts_wait p r n =
        goes_to_both p texts ts old new (error_for p (tree texts ts id)) (size (at ts id)) (part.Constraint s.left) (part.Constraint s.right) n
        (ap (error_for p) whole_is ∙ error_of_conjunction (text_of texts s.name) (tree texts ts s.left) (tree texts ts s.right) p r.0 r.1) h.left h.right (size_of_sides ts id s h)

    pub disjuncts_wait : IsRole (text_of texts s.name) role.Disjunction → new ≡ (old ++ part.Constraint s.right ∷ []) ++ part.Constraint s.left ∷ []
        → GoesOn purpose.Telling texts ts old (constraint_error (tree texts ts id)) (size (at ts id)) new
    disjuncts_wait r n =
        goes_to_both purpose.Telling texts ts old new (constraint_error (tree texts ts id)) (size (at ts id)) (part.Constraint s.left) (part.Constraint s.right) n
        (ap constraint_error whole_is ∙ error_of_disjunction (text_of texts s.name) (tree texts ts s.left) (tree texts ts s.right) r) h.left h.right (size_of_sides ts id s h)

    pub relation_waits : (p : Purpose) → IsRole (text_of texts s.name) role.Relation → new ≡ (old ++ part.Expression s.right ∷ []) ++ part.Expression s.left ∷ []
        → GoesOn p texts ts old (error_for p (tree texts ts id)) (size (at ts id)) new
    relation_waits p r n =
        goes_to_both p texts ts old new (error_for p (tree texts ts id)) (size (at ts id)) (part.Expression s.left) (part.Expression s.right) n
        (ap (error_for p) whole_is ∙ error_of_relation (text_of texts s.name) (tree texts ts s.left) (tree texts ts s.right) p r.as_disjunction r.as_conjunction r.as_relation)
        h.left h.right (size_of_sides ts id s h)
