-- A match as it begins, and what it comes to.
use Rattle.std.proofs.Common.{◌≡◌, ℕ, ◌+◌, ◌-◌, ◌<◌, ◌≤◌, ◌^◌, List, [], ◌∷◌, ◌++◌, length, map, refl, ap, sym, ◌∙◌, subst, arith, append-nil, length-append, Bool}
use Rattle.std.specs.Prelude.{Ok, Some}
use Rattle.std.specs.declared.result.Result.{Result}
use Rattle.std.specs.declared.option.Option.{Option}
use Rattle.std.specs.declared.alloc.AllocError.{AllocError}
use Rattle.std.proofs.lemmas.List.{get_or_append_left}
use Rattle.std.proofs.lemmas.List.Elements.{All-cons}
use Rattle.spec_terms.specs.Term.{Subst, Occurs, apply, identity}
use Rattle.spec_terms.proofs.Substitution.{apply-followed_by}
use Rattle.cq_frac.specs.declared.VarId.{VarId}
use Rattle.cq_term.specs.Meaning.{HeapTerm, at, blank}
use Rattle.cq_term.specs.HeapValue.{Terms}
use Rattle.cq_term.specs.Shown.{IsUnbound}
use Rattle.cq_term.proofs.Arguments.{all_one}
use Rattle.cq_term.specs.declared.view.View.{View}
use Rattle.cq_unify.specs.Unified.{in_turn}
use Rattle.spec_numbers.specs.Prefixes.{IsPrefix}
use Rattle.cq_unify.specs.Copied.{unbound_from}
use Rattle.cq_term.specs.Pairs.{pairwise}
use Rattle.spec_numbers.proofs.Prefixes.{prefix_both}
use Rattle.cq_unify.proofs.Places.{variables_now}
use Rattle.cq_resolve.specs.Pattern.{read, term_of, IsPattern}
use Rattle.cq_resolve.specs.Building.{AreThere, moved_by, image_from}
use Rattle.cq_resolve.specs.Joined.{equal}
use Rattle.cq_resolve.specs.Resolved.{Resolved, with_variables, completed}
use Rattle.cq_resolve.specs.Matching.{Call, Begun, Matching, Walked, IsFresh, image_of}
use Rattle.cq_resolve.proofs.Completed.{names_left}
use Rattle.cq_resolve.proofs.Matched.{term_now}
use Rattle.cq_resolve.proofs.Reading.{read_pattern, pattern_below}
use Rattle.cq_resolve.proofs.Renamed.{new_image}
use Rattle.cq_unify.proofs.Progress.{map-identity}
use Rattle.cq_resolve.proofs.Unifying.{solving_start, solving_end}

pub nil_of : {A : Type 0} (xs : List A) → length xs ≡ 0 → xs ≡ []
nil_of [] e = refl
nil_of (x ∷ xs) e = absurd (omega arith)

pub ok_is : (a b : Bool) → a ≡ b → ◌≡◌ {A = Result Bool AllocError} (Ok a) (Ok b)
ok_is a b e = λ i. Ok (e i)

pub ok_some : (x y : ℕ) → ◌≡◌ {A = Result (Option ℕ) AllocError} (Ok (Some x)) (Ok (Some y)) → x ≡ y
ok_some x y e = cc

module _ (old : Terms) (count : ℕ) (hs : List View) (goal : ℕ) (before : List VarId) where
  abbrev pub the_call : Call
  the_call = record { base = length old.images; count = count; start = with_variables old count; goal = equal (at old.terms goal) (apply (moved_by (length old.images)) (term_of hs)); before = before }

  module _ (first : ℕ) (pattern : IsPattern count hs) (few : count < 2 ^ 64) (begins : first ≡ length old.images) (space : length old.images ≤ 2 ^ 64) (live : goal < length old.terms) (known : (v : ℕ) → Occurs v (at old.terms goal) → IsUnbound old.images v) where
    begun : Begun the_call hs first
    begun = record {
      fits = pattern.fits;
      few = few;
      begins = begins;
      all = variables_now old.images (with_variables old count).images count refl;
      new = λ k lt. new_image old.images (with_variables old count).images count k refl lt;
    }

    stays : (v : ℕ) → IsUnbound old.images v → IsUnbound (with_variables old count).images v
    stays v h = (
      omega (arith, h.0, length-append old.images (unbound_from (length old.images) count)),
      get_or_append_left old.images (unbound_from (length old.images) count) blank v h.0 ∙ h.1,
    )

    fresh : (v : ℕ) → (Occurs v (at old.terms goal) → ⊥) → IsFresh identity (at old.terms goal ∷ []) v
    fresh v n = record {
      kept = refl;
      alone = λ x o. sym o;
      absent = All-cons (λ (t : HeapTerm). Occurs v t → ⊥) (at old.terms goal) [] n (λ k d lt. absurd (omega arith));
    }

    matching_start : Matching the_call hs first (with_variables old count) before 0 0 (goal ∷ [])
    matching_start = record {
      begun = begun;
      bindings = [];
      told = [];
      listed = sym (append-nil before);
      live = all_one goal (length old.terms) live;
      paired = sym pattern.one;
      bound = record {
        terms = ([], sym (map-identity old.terms) ∙ sym (append-nil (map (apply identity) old.terms)));
        images = sym (map-identity (with_variables old count).images);
        in_order = refl;
        newly = λ v. (λ c. absurd (omega (arith, c.1)), λ h. absurd (h.1 h.0));
        once = λ i j d lt within. absurd (omega arith);
      };
      solving = solving_start (equal (at old.terms goal) (apply (moved_by (length old.images)) (term_of hs))) (at old.terms goal) (apply (moved_by (length old.images)) (term_of hs))
          (pairwise (at old.terms goal ∷ []) (map (apply (image_of (length old.images) identity)) (read hs))) refl
          (ap (λ ts. pairwise (at old.terms goal ∷ []) (map (apply (image_of (length old.images) identity)) ts)) (read_pattern count hs pattern));
      unmet = λ v le. fresh v (λ o. omega (arith, (known v o).0));
      foreign = λ v lt n. fresh v (λ o. n (stays v (known v o)));
    }

    pub walked_start : Walked the_call hs first old before 0 0 (goal ∷ [])
    walked_start =
        let left : length old.images + count - length old.images ≡ count = omega arith in
        record {
          matching = subst (λ n. Matching the_call hs first (with_variables old n) before 0 0 (goal ∷ [])) (sym left) matching_start;
          made = omega arith;
          some = omega arith;
          space = omega arith;
        }

  -- the variables that weren't met are made, and the body
  module _ (first : ℕ) (now : Terms) (after : List VarId) (place met : ℕ) (w : Walked the_call hs first now after place met []) (left : ℕ) (rest : met + left ≡ count)
      (mid : Terms) (larger : IsPrefix now.terms mid.terms) (images : mid.images ≡ now.images ++ unbound_from (length now.images) left) where
    abbrev s : Subst ℕ
    s = in_turn w.matching.bindings

    all_made : mid.images ≡ (completed (length old.images + count) now).images
    all_made =
        let k : length old.images + count - length now.images ≡ left = omega (arith, w.made) in
        images ∙ ap (λ n. now.images ++ unbound_from (length now.images) n) (sym k)

    all_images : mid.images ≡ map (apply (in_turn w.matching.bindings)) (with_variables old count).images
    all_images = all_made ∙ w.matching.bound.images

    pub all_there : (other : ℕ) → (0 < left → other ≡ length now.images) → AreThere mid.images other left → AreThere mid.images first count
    all_there other begins there = record {
      there = omega (arith, w.matching.begun.begins, variables_now now.images mid.images left images, w.made);
      fits = omega (arith, names_left mid.images (length now.images) left other begins there (omega (arith, w.made, w.space)), w.made, w.matching.begun.begins);
    }

    module _ (new : Terms) (bs : List View) (id : ℕ) (body : IsPattern count bs) (longer : IsPrefix mid.terms new.terms) (same : new.images ≡ mid.images) (live : id < length new.terms) (built : at new.terms id ≡ apply (image_from mid.images first) (term_of bs)) where
      pub resolved_end : Resolved old new (record { head = term_of hs; body = term_of bs; variables = count }) goal id w.matching.told
      resolved_end = record {
        bindings = w.matching.bindings;
        unifier = solving_end (equal (at old.terms goal) (apply (moved_by (length old.images)) (term_of hs))) (in_turn w.matching.bindings) w.matching.solving;
        terms = prefix_both (map (apply s) old.terms) now.terms new.terms w.matching.bound.terms (prefix_both now.terms mid.terms new.terms larger longer);
        images = same ∙ all_images;
        live = live;
        body = built ∙ term_now the_call hs first w.matching.begun mid.images s all_images (term_of bs) (pattern_below count bs body)
            ∙ apply-followed_by (moved_by (length old.images)) s (term_of bs);
        in_order = w.matching.bound.in_order;
        newly = λ v. (
          λ d. (
              let h = (w.matching.bound.newly v).0 d in
              (h.0, λ u. h.1 (subst (λ us. IsUnbound us v.0) (same ∙ all_made) u))
              ),
          λ h. (w.matching.bound.newly v).1 (h.0, λ u. h.1 (subst (λ us. IsUnbound us v.0) (sym (same ∙ all_made)) u)),
        );
        once = w.matching.bound.once;
      }
