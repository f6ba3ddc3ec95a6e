-- A term whose variables nothing constrains has a plain copy.
use Rattle.std.proofs.Common.{◌≡◌, inl, inr, ℕ, List, [], ◌∷◌, ◌++◌, Bool, true, false, cond, map, refl, sym, ap₂, subst, ◌∙◌, append-nil}
use Rattle.std.specs.Prelude.{filter, ◌==◌}
use Rattle.std.specs.List.{list_any}
use Rattle.spec_numbers.proofs.Tests.{one_is}
use Rattle.spec_linear.specs.Solution.{Constraint, Has, SomeMentions, Solvable, Same}
use Rattle.spec_linear.proofs.Denominators.{has_left, has_right, extends}
use Rattle.spec_projection.specs.Strict.{no_more}
use Rattle.spec_projection.specs.Irredundant.{done}
use Rattle.spec_projection.specs.Projection.{Keeps}
use Rattle.spec_projection.proofs.Members.{has_either, has_image, alike_refl}
use Rattle.spec_terms.specs.Term.{Occurs}
use Rattle.spec_terms.specs.Variables.{variables}
use Rattle.spec_syntax.specs.Trees.{Tree}
use Rattle.spec_branch.specs.Branch.{State, Copied, Asleep, plain_copy, read}
use Rattle.spec_copies.specs.Reach.{delayed_link, asleep_link, delayed_terms, asleep_terms, links, Reaches, stands, linked, touches}
use Rattle.spec_copies.specs.Parts.{IsSplit, nothing, into_second, IsPart}
use Rattle.spec_copies.specs.Copies.{IsRest, reach, IsKept, IsCopy}
use Rattle.spec_copies.specs.Alike.{MentionsNumeric, IsUnconstrained, SameCopy}
use Rattle.spec_copies.proofs.Apart.{part_same}
use Rattle.spec_copies.proofs.Listed as of_terms
use Rattle.spec_copies.proofs.Listed.{any_has}
use Rattle.spec_copies.proofs.Parts.{one_part}
use Rattle.spec_copies.proofs.Same.{ascending_same, same}
use Rattle.spec_copies.proofs.Unkept.{none_in_part}

-- a variable that a term lists stands in it
occurring : (t : Tree) (v : ℕ) → Has v (variables t) → Occurs v t
occurring t v h = of_terms.stands t v h

touching_in : (vs ws : List ℕ) → list_any (λ v. list_any (λ w. w == v) vs) ws ≡ true → (v : ℕ) × Has v ws × Has v vs
touching_in vs [] e = cc
touching_in vs (w ∷ ws) e = elim (one_is (list_any (λ u. u == w) vs) (list_any (λ v. list_any (λ u. u == v) vs) ws) e) [
  | inl d ↦ (w, inl refl, any_has w vs d)
  | inr d ↦ let r = touching_in vs ws d in (r.0, inr r.1, r.2)
]

touching : (vs : List ℕ) (t : Tree) → touches vs t ≡ true → (v : ℕ) × Occurs v t × Has v vs
touching vs t e = let r = touching_in vs (variables t) e in (r.0, occurring t r.0 r.1, r.2)

-- none passes
none_pass : {A : Type 0} (test : A → Bool) (xs : List A) → ((x : A) → Has x xs → test x ≡ true → ⊥) → [] ≡ filter test xs
none_pass test [] n = refl
none_pass test (x ∷ xs) n = go (test x) refl (none_pass test xs (λ y h. n y (inr h)))
  where
    go : (b : Bool) → test x ≡ b → [] ≡ filter test xs → [] ≡ cond b (x ∷ filter test xs) (filter test xs)
    go true e rest = absurd (n x (inl refl) e)
    go false e rest = rest

-- nothing is kept beside targets of which nothing is said
keeps_nothing : (targets : List ℕ) → Keeps [] targets [] [] []
keeps_nothing targets = record {
  others = [];
  echelon = record { first = tt; sorted = tt; reduced = tt; entailed = tt; complete = λ f over e. e };
  others_in_front = λ x h. absurd h;
  solved_targets = λ x h. absurd h;
  strict = [];
  strengthened = no_more;
  left = [];
  unequal = done;
  kept_all = λ x h. absurd h;
  kept_only = λ x h. absurd h;
}

module _ (st : State) (t : Tree) (numeric : MentionsNumeric st) (solvable : Solvable st.linear) (none : IsUnconstrained st t) where
  abbrev u : Tree
  u = read st t

  of_term : (v : ℕ) → Reaches u (links st) v → Occurs v u
  of_term v (stands o) = o
  of_term v (linked {w = w} k h r o q) = absurd (none.unlinked w k (of_term w r) h o)

  abbrev targets : List ℕ
  targets = reach st t []

  target_occurs : (v : ℕ) → Has v targets → Occurs v u
  target_occurs v h = elim (has_either v (variables u) [] h) [ inl k ↦ occurring u v k | inr k ↦ absurd k ]

  is_rest : IsRest st t []
  is_rest = record { older_first = tt; reached = λ v. (λ h. absurd h, λ h. h.1 (of_term v h.0)) }

  all_behind : (l : List Constraint) → IsSplit l [] l
  all_behind [] = nothing
  all_behind (c ∷ l) = into_second (all_behind l)

  never : (v : ℕ) → Has v targets → SomeMentions v st.linear → ⊥
  never v h m = let a : st.numeric v ≡ true = numeric v m in let b : st.numeric v ≡ false = none.plain v (target_occurs v h) in cc

  is_part : IsPart targets st.linear []
  is_part = record { rest = st.linear; split = all_behind st.linear; connected = λ c h. absurd h; elsewhere = never; apart = λ x h. absurd h }

  is_kept : IsKept targets st.linear []
  is_kept = record {
    part = [];
    is_part = is_part;
    front = [];
    others = record { youngest_first = tt; others = λ x. (λ h. absurd h, λ h. h.0) };
    older_first = tt;
    equations = [];
    keeps = keeps_nothing targets;
  }

  rows_say : Same (targets ++ []) [] st.linear
  rows_say = record {
    mentions = λ x h. absurd h;
    same = λ a. (λ s. (part_same targets [] st.linear [] is_part solvable (λ y h. absurd h) a).0 (extends (targets ++ []) a [] s), λ e. tt);
  }

  no_delayed : (d : Tree) → Has d (delayed_terms st) → touches targets d ≡ true → ⊥
  no_delayed d h e =
      let r = touching targets d e in
      none.unlinked r.0 (delayed_link d) (target_occurs r.0 r.2)
      (has_left (delayed_link d) (map delayed_link (delayed_terms st)) (map asleep_link (asleep_terms st)) (has_image delayed_link d (delayed_terms st) h)) r.1

  no_sleeper : (a : Asleep) → Has a (asleep_terms st) → touches targets (asleep_link a).from ≡ true → ⊥
  no_sleeper a h e =
      let r = touching targets (asleep_link a).from e in
      none.unlinked r.0 (asleep_link a) (target_occurs r.0 r.2)
      (has_right (asleep_link a) (map delayed_link (delayed_terms st)) (map asleep_link (asleep_terms st)) (has_image asleep_link a (asleep_terms st) h)) r.1

  no_numeric : (v : ℕ) → Has v (targets ++ []) → st.numeric v ≡ true → ⊥
  no_numeric v h e = elim (has_either v targets [] h) [
    | inl k ↦ let b : st.numeric v ≡ false = none.plain v (target_occurs v k) in cc
    | inr k ↦ k
  ]

  pub plain : IsCopy st t (plain_copy (read st t))
  plain = record {
    rest = [];
    is_rest = is_rest;
    kept = [];
    is_kept = is_kept;
    variables_are = sym (append-nil targets ∙ append-nil (variables u));
    term_is = refl;
    numeric_are = none_pass st.numeric (targets ++ []) no_numeric;
    rows_say = rows_say;
    told_are = none_pass (touches targets) (delayed_terms st) no_delayed;
    asleep_are = none_pass (λ a. touches targets (asleep_link a).from) (asleep_terms st) no_sleeper;
  }

  -- ---- and no other

  module _ (c : Copied) (copy : IsCopy st t c) where
    rest_none : copy.rest ≡ []
    rest_none = ascending_same copy.rest [] copy.is_rest.older_first tt (λ v m. (is_rest.reached v).1 ((copy.is_rest.reached v).0 m)) (λ v m. absurd m)

    still_kept : IsKept targets st.linear copy.kept
    still_kept = subst (λ (r : List ℕ). IsKept (reach st t r) st.linear copy.kept) rest_none copy.is_kept

    kept_none : copy.kept ≡ []
    kept_none =
        none_in_part targets st.linear copy.kept still_kept
        (λ d h e. subst (λ (m : List Constraint). Has d m) (one_part targets st.linear still_kept.part [] still_kept.is_part is_part) h)

    variables_none : c.variables ≡ variables u
    variables_none =
        copy.variables_are ∙ ap₂ (λ (r k : List ℕ). reach st t r ++ k) rest_none kept_none ∙ append-nil targets ∙ append-nil (variables u)

    pub only_plain : SameCopy c (plain_copy (read st t))
    only_plain = same st st.linear (alike_refl st.linear) t c (plain_copy (read st t)) copy plain variables_none
