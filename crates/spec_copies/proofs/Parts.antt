-- Each list has one part that is connected with some variables.
use Rattle.std.proofs.Common.{◌≡◌, ◌⊎◌, inl, inr, ℕ, List, [], ◌∷◌, map, refl, sym, ap, subst, ◌∙◌}
use Rattle.spec_numbers.specs.Sums.{Monomial, Mentions}
use Rattle.spec_linear.specs.Form.{variables}
use Rattle.spec_linear.specs.Solution.{Constraint, Has, SomeMentions, Solvable}
use Rattle.spec_linear.proofs.Denominators.{has_mentioned, solvable_same}
use Rattle.spec_projection.proofs.Members.{has_mapped, has_image}
use Rattle.spec_projection.proofs.Mentions.{some_mentions, mentioning}
use Rattle.spec_copies.specs.Parts.{IsSplit, nothing, into_first, into_second, IsConnected, at_variable, at_member, IsPart}
use Rattle.spec_copies.proofs.Apart.{first_part}
use Rattle.spec_copies.proofs.Led.{Edge, Led, starts, goes, AllLed, all_led, both_or_none}

has_mentions : (x : ℕ) (s : List Monomial) → Has x (variables s) → Mentions x s
has_mentions x [] h = absurd h
has_mentions x (m ∷ s) (inl e) = inl e
has_mentions x (m ∷ s) (inr h) = inr (has_mentions x s h)

-- a member leads from each of its variables to all of them
abbrev member_edge : Constraint → Edge
member_edge c = record { from = variables c.form.products; to = variables c.form.products }

-- members that mention one of some variables, and those that mention none
pub record SplitBy (vs : List ℕ) (l : List Constraint) : Type 0 where
  pub part : List Constraint
  pub rest : List Constraint
  pub split : IsSplit l part rest
  pub in_part : (c : Constraint) → Has c part → Has c l × ((x : ℕ) × Has x (variables c.form.products) × Has x vs)
  pub in_rest : (c : Constraint) → Has c rest → (x : ℕ) → Has x (variables c.form.products) → Has x vs → ⊥

pub split_by : (vs : List ℕ) (l : List Constraint) → SplitBy vs l
split_by vs [] = record { part = []; rest = []; split = nothing; in_part = λ c h. absurd h; in_rest = λ c h x i j. h }
split_by vs (c ∷ l) = go (both_or_none (variables c.form.products) vs) (split_by vs l)
  where
    go : ((x : ℕ) × Has x (variables c.form.products) × Has x vs) ⊎ ((x : ℕ) → Has x (variables c.form.products) → Has x vs → ⊥) → SplitBy vs l → SplitBy vs (c ∷ l)
    go (inl b) s = record {
      part = c ∷ s.part;
      rest = s.rest;
      split = into_first s.split;
      in_part = λ d h. elim h [
        | inl e ↦ (inl e, subst (λ (z : Constraint). (x : ℕ) × Has x (variables z.form.products) × Has x vs) (sym e) b)
        | inr k ↦ (inr (s.in_part d k).0, (s.in_part d k).1)
      ];
      in_rest = s.in_rest;
    }
    go (inr n) s = record {
      part = s.part;
      rest = c ∷ s.rest;
      split = into_second s.split;
      in_part = λ d h. (inr (s.in_part d h).0, (s.in_part d h).1);
      in_rest = λ d h x i j. elim h [ inl e ↦ n x (subst (λ (z : Constraint). Has x (variables z.form.products)) e i) j | inr k ↦ s.in_rest d k x i j ];
    }

module _ (xs : List ℕ) (l : List Constraint) where
  pub all : AllLed xs (map member_edge l)
  all = all_led xs (map member_edge l)

  from_where : (x : ℕ) → Led xs (map member_edge l) x → Has x xs ⊎ ((d : Constraint) × IsConnected xs l d × Mentions x d.form.products)
  from_where x (starts h) = inl h
  from_where x (goes {w = w} e h r f t) =
      let c = has_mapped member_edge e l h in
      let here = has_mentions w c.from.form.products (subst (λ (z : Edge). Has w z.from) c.is f) in
      let there = has_mentions x c.from.form.products (subst (λ (z : Edge). Has x z.to) c.is t) in
      elim (from_where w r) [
        | inl k ↦ inr (c.from, at_variable w c.member k here, there)
        | inr k ↦ inr (c.from, at_member w c.member k.1 k.2 here, there)
      ]

  pub cut : SplitBy all.all l
  cut = split_by all.all l

  connected : (c : Constraint) → Has c cut.part → IsConnected xs l c
  connected c h =
      let i = cut.in_part c h in
      let m = has_mentions i.1.0 c.form.products i.1.1 in
      elim (from_where i.1.0 (all.led i.1.0 i.1.2)) [
        | inl k ↦ at_variable i.1.0 i.0 k m
        | inr k ↦ at_member i.1.0 i.0 k.1 k.2 m
      ]

  not_rest : (x : ℕ) → Has x all.all → SomeMentions x cut.rest → ⊥
  not_rest x h m = let r = mentioning x cut.rest m in cut.in_rest r.row r.among x (has_mentioned x r.row.form.products r.mentions) h

  apart : (x : ℕ) → SomeMentions x cut.part → SomeMentions x cut.rest → ⊥
  apart x p m =
      let r = mentioning x cut.part p in
      let i = cut.in_part r.row r.among in
      not_rest x
      (all.complete x (goes (member_edge r.row) (has_image member_edge r.row l i.0) (all.led i.1.0 i.1.2) i.1.1 (has_mentioned x r.row.form.products r.mentions))) m

  pub is_part : IsPart xs l cut.part
  is_part = record { rest = cut.rest; split = cut.split; connected = connected; elsewhere = λ x h m. not_rest x (all.complete x (starts h)) m; apart = apart }

  pub of_list : (c : Constraint) → Has c cut.part → Has c l
  of_list c h = (cut.in_part c h).0

  pub part_solvable : Solvable l → Solvable cut.part
  part_solvable s =
      let a = (solvable_same l).0 s in
      (solvable_same cut.part).1 (a.0, (first_part a.0 l cut.part cut.rest cut.split a.1).0)

-- ---- one part

module _ (xs : List ℕ) (l : List Constraint) where
  in_one : (part rest : List Constraint) (s : IsSplit l part rest) (c : Constraint) → Has c l → Has c part ⊎ Has c rest
  in_one part rest s c h = either l part rest s h
    where
      either : (k p r : List Constraint) → IsSplit k p r → Has c k → Has c p ⊎ Has c r
      either k p r nothing i = absurd i
      either k p r (into_first t) (inl e) = inl (inl e)
      either k p r (into_first t) (inr i) = elim (either _ _ _ t i) [ inl j ↦ inl (inr j) | inr j ↦ inr j ]
      either k p r (into_second t) (inl e) = inr (inl e)
      either k p r (into_second t) (inr i) = elim (either _ _ _ t i) [ inl j ↦ inl j | inr j ↦ inr (inr j) ]

  -- no member of the rest is connected with the variables
  rest_apart : (part : List Constraint) (p : IsPart xs l part) (c : Constraint) → Has c p.rest → IsConnected xs l c → ⊥
  rest_apart part p c h (at_variable x i j m) = p.elsewhere x j (some_mentions x p.rest c h m)
  rest_apart part p c h (at_member {d = d} x i k m n) = elim (in_one part p.rest p.split d (member_of d k)) [
    | inl j ↦ p.apart x (some_mentions x part d j m) (some_mentions x p.rest c h n)
    | inr j ↦ rest_apart part p d j k
  ]
    where
      member_of : (d : Constraint) → IsConnected xs l d → Has d l
      member_of d (at_variable y i j m) = i
      member_of d (at_member y i k m n) = i

  same_parts : (k p q r s : List Constraint) → IsSplit k p r → IsSplit k q s → ((c : Constraint) → Has c p → IsConnected xs l c)
      → ((c : Constraint) → Has c q → IsConnected xs l c) → ((c : Constraint) → Has c r → IsConnected xs l c → ⊥)
      → ((c : Constraint) → Has c s → IsConnected xs l c → ⊥) → p ≡ q
  same_parts k p q r s nothing nothing a b n m = refl
  same_parts k p q r s (into_first {c = c} t) (into_first u) a b n m =
      ap (λ (w : List Constraint). c ∷ w) (same_parts _ _ _ _ _ t u (λ d h. a d (inr h)) (λ d h. b d (inr h)) n m)
  same_parts k p q r s (into_first {c = c} t) (into_second u) a b n m = absurd (m c (inl refl) (a c (inl refl)))
  same_parts k p q r s (into_second {c = c} t) (into_first u) a b n m = absurd (n c (inl refl) (b c (inl refl)))
  same_parts k p q r s (into_second t) (into_second u) a b n m =
      same_parts _ _ _ _ _ t u a b (λ d h. n d (inr h)) (λ d h. m d (inr h))

  pub one_part : (part other : List Constraint) → IsPart xs l part → IsPart xs l other → part ≡ other
  one_part part other p q = same_parts l part other p.rest q.rest p.split q.split p.connected q.connected (rest_apart part p) (rest_apart other q)
