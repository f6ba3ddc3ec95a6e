-- Each term of a solvable state has a copy.
use Rattle.std.proofs.Common.{◌≡◌, ◌⊎◌, inl, inr, ℕ, List, ◌++◌, map, refl, subst}
use Rattle.std.specs.Prelude.{filter}
use Rattle.spec_linear.specs.Solution.{Constraint, Has, SomeMentions, Solvable, Same}
use Rattle.spec_linear.specs.Echelon.{AreDistinct}
use Rattle.spec_projection.specs.Lists.{AreForms}
use Rattle.spec_projection.specs.Targets.{SameOn}
use Rattle.spec_projection.proofs.Members.{has_mapped, has_image}
use Rattle.spec_projection.proofs.Standing.{has_or_not}
use Rattle.spec_projection.proofs.SameOn as same_on
use Rattle.spec_terms.specs.Term.{Occurs}
use Rattle.spec_terms.specs.Variables.{variables}
use Rattle.spec_syntax.specs.Trees.{Tree}
use Rattle.spec_branch.specs.Branch.{State, Copied, read}
use Rattle.spec_copies.specs.Reach.{Link, links, Reaches, linked, touches, delayed_terms, asleep_terms, asleep_link}
use Rattle.spec_copies.specs.Reach as reaching
use Rattle.spec_copies.specs.Copies.{IsRest, reach, IsKept, IsCopy}
use Rattle.spec_copies.proofs.Apart.{part_same}
use Rattle.spec_copies.proofs.Led.{Edge, Led, starts, goes, AllLed, all_led}
use Rattle.spec_copies.proofs.Listed.{listed, stands, variables_distinct}
use Rattle.spec_copies.proofs.Parts.{cut, is_part, of_list, part_solvable}
use Rattle.spec_copies.proofs.Projected.{HasRows, rows_exist, distinct_both}
use Rattle.spec_copies.proofs.Sorted.{Sorted, sorted, Below, above_or_below, below_through, never_below, ascending, in_order_distinct}

-- ---- what a copy takes with it

abbrev link_edge : Link → Edge
link_edge k = record { from = variables k.from; to = variables k.to }

module _ (u : Tree) (ls : List Link) where
  led : (v : ℕ) → Reaches u ls v → Led (variables u) (map link_edge ls) v
  led v (reaching.stands o) = starts (listed u v o)
  led v (linked {w = w} k h r o q) = goes (link_edge k) (has_image link_edge k ls h) (led w r) (listed k.from w o) (listed k.to v q)

  reached : (v : ℕ) → Led (variables u) (map link_edge ls) v → Reaches u ls v
  reached v (starts h) = reaching.stands (stands u v h)
  reached v (goes {w = w} e h l f t) =
      let c = has_mapped link_edge e ls h in
      linked c.from c.member (reached w l)
      (stands c.from.from w (subst (λ (z : Edge). Has w z.from) c.is f))
      (stands c.from.to v (subst (λ (z : Edge). Has v z.to) c.is t))

-- ---- the copy

module _ (st : State) (t : Tree) (forms : AreForms st.linear) (solvable : Solvable st.linear) where
  abbrev u : Tree
  u = read st t

  reach_all : AllLed (variables u) (map link_edge (links st))
  reach_all = all_led (variables u) (map link_edge (links st))

  abbrev IsMore : ℕ → Type 0
  IsMore v = Reaches u (links st) v × (Occurs v u → ⊥)

  more_or_not : (v : ℕ) → IsMore v ⊎ (IsMore v → ⊥)
  more_or_not v = go (has_or_not v reach_all.all) (has_or_not v (variables u))
    where
      go : Has v reach_all.all ⊎ (Has v reach_all.all → ⊥) → Has v (variables u) ⊎ (Has v (variables u) → ⊥) → IsMore v ⊎ (IsMore v → ⊥)
      go (inl h) (inr n) = inl (reached u (links st) v (reach_all.led v h), λ o. n (listed u v o))
      go (inl h) (inl k) = inr (λ m. m.1 (stands u v k))
      go (inr n) d = inr (λ m. n (reach_all.complete v (led u (links st) v m.0)))

  rest : Sorted Below above_or_below below_through IsMore reach_all.all
  rest = sorted Below above_or_below below_through IsMore more_or_not reach_all.all

  is_rest : IsRest st t rest.listed
  is_rest = record {
    older_first = ascending rest.listed rest.in_order;
    reached = λ v. (rest.is v, λ m. rest.all v m (reach_all.complete v (led u (links st) v m.0)));
  }

  rest_distinct : AreDistinct rest.listed
  rest_distinct = in_order_distinct Below above_or_below below_through never_below rest.listed rest.in_order

  abbrev targets : List ℕ
  targets = reach st t rest.listed

  targets_distinct : AreDistinct targets
  targets_distinct = distinct_both (variables u) rest.listed (variables_distinct u) rest_distinct (λ x h k. (rest.is x k).1 (stands u x h))

  abbrev part : List Constraint
  part = (cut targets st.linear).part

  rows : HasRows targets part
  rows = rows_exist targets part targets_distinct (λ c h. forms c (of_list targets st.linear c h)) (part_solvable targets st.linear solvable)

  is_kept : IsKept targets st.linear rows.kept
  is_kept = record {
    part = part;
    is_part = is_part targets st.linear;
    front = rows.front;
    others = rows.others;
    older_first = rows.older_first;
    equations = rows.equations;
    keeps = rows.keeps;
  }

  kept_in_part : (y : ℕ) → Has y rows.kept → SomeMentions y part
  kept_in_part y h = ((rows.others.others y).0 (rows.keeps.kept_only y h).0).0

  says : SameOn (targets ++ rows.kept) rows.rows st.linear
  says =
      same_on.same_on_trans (targets ++ rows.kept) rows.rows part st.linear (same_on.same_on_from_same (targets ++ rows.kept) rows.rows part rows.same)
      (part_same targets rows.kept st.linear part (is_part targets st.linear) solvable kept_in_part)

  rows_say : Same (targets ++ rows.kept) rows.rows st.linear
  rows_say = same_on.same_from_same_on (targets ++ rows.kept) rows.rows st.linear rows.same.mentions says

  abbrev the_copy : Copied
  the_copy = record {
    variables = targets ++ rows.kept;
    term = u;
    numeric = filter st.numeric (targets ++ rows.kept);
    rows = rows.rows;
    told = filter (touches targets) (delayed_terms st);
    asleep = filter (λ a. touches targets (asleep_link a).from) (asleep_terms st);
  }

  pub copy_exists : (c : Copied) × IsCopy st t c
  copy_exists = (
    the_copy,
    record {
      rest = rest.listed;
      is_rest = is_rest;
      kept = rows.kept;
      is_kept = is_kept;
      variables_are = refl;
      term_is = refl;
      numeric_are = refl;
      rows_say = rows_say;
      told_are = refl;
      asleep_are = refl;
    },
  )
