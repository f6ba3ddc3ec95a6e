-- An equation's quantity is dropped: the list while it joins, which members fall, and what is stored where each stands still.
use Rattle.std.proofs.Common.{◌≡◌, ℕ, suc, ◌+◌, ◌<◌, List, [], ◌∷◌, ◌++◌, length, Bool, true, ◌⊎◌, inl, inr, add-one, refl, ap, sym, subst, ◌∙◌}
use Rattle.std.proofs.lemmas.Option.{slice_get_within, same_Some}
use Rattle.spec_numbers.proofs.Places.{get_kept}
use Rattle.spec_numbers.specs.Rational.{0ℚ}
use Rattle.spec_numbers.specs.Sums.{Mentions}
use Rattle.spec_linear.specs.declared.Relation.{Relation}
use Rattle.spec_linear.specs.declared.Relation.TheVariants.{Eq, Gt, Ge, Ne}
use Rattle.spec_linear.specs.Form.{Linear, value_at}
use Rattle.spec_linear.specs.Solution.{Constraint, Has}
use Rattle.spec_simplex.specs.Asked.{NoQuestion, of_member, of_joining}
use Rattle.spec_projection.specs.Elimination.{IsInequality}
use Rattle.spec_simplex.specs.Reach.{Rises, IsFlat, Stands, Again}
use Rattle.spec_simplex.specs.Tableau.{Within, WithinEquations, IsWritten, IsNothing, HasFeasibleNumbers, Sound}
use Rattle.spec_simplex.proofs.Members.{sound_there, told_last}
use Rattle.spec_simplex.proofs.Linked.{linked_written}
use Rattle.spec_simplex.proofs.Steps.{sound_zero, joined_again}
use Rattle.spec_simplex.proofs.More.{own_dropped}
use Rattle.spec_simplex.proofs.More as of_more
use Rattle.spec_simplex.proofs.Feasible.{level_elimination}
use Rattle.spec_simplex.proofs.TableauWritten.{nothing_is}
use Rattle.cq_form.specs.Entries.{products_of}
use Rattle.cq_frac.specs.declared.Pair.{Pair}
use Rattle.cq_dict.specs.declared.table.Role.{Role}
use Rattle.cq_dict.specs.declared.table.Role.TheVariants.{Dropped, Basic}
use Rattle.cq_dict.specs.Roles.{AreOverColumns, IsEliminated, is_live, is_dropped, is_restricted, role_at, factor_at}
use Rattle.cq_dict.specs.Dict.{SameMeaning}
use Rattle.cq_dict.proofs.Roles.{at_below, dropped_at, role_is, factor_is}
use Rattle.cq_simplex.specs.declared.Aim.TheVariants.{Positive}
use Rattle.cq_tableau.specs.declared.names.Name.{Name}
use Rattle.cq_tableau.specs.declared.names.Name.TheVariants.{Variable, Member}
use Rattle.cq_tableau.specs.Forms.{row_of, form_at, tableau}
use Rattle.cq_tableau.specs.Keeps.{Keeps, Speaks}
use Rattle.cq_tableau.specs.Looked.{SpeaksOfSome, LooksOn, StandsAt, AllStand, IsFallen, IsStrict, IsApart, RefusesLook, SpendsLook}
use Rattle.cq_tableau.specs.Stored.{IsKnown, IsMemberOf, IsStored, IsBetween}
use Rattle.cq_tableau.specs.Values.{IsNumber, number_row, dropped_column}
use Rattle.cq_tableau.proofs.Tied.{linked, still_describes, feasible_of, entry_live, entry_not_zero, constant_row}
use Rattle.cq_tableau.proofs.Steps.{form_more}
use Rattle.cq_tableau.proofs.Joined.{written, over_restricted}
use Rattle.cq_store.specs.Equated.{IsRowBehind, Crosses, IsLevelRow}
use Rattle.cq_store.specs.Fallen.{FallsAt}
use Rattle.cq_tableau.specs.Faced.{AllApart}
use Rattle.cq_store.specs.StoreValue.{MayRefuse, MayTake, Only, joined}
use Rattle.cq_store.proofs.Equations.{eliminated, gone, still_dropped, only_dropped, form_here, front_is, unflagged, flag_before, quantity, is_member, moves_within, stored_behind, stored_by, factor_there}
use Rattle.cq_store.proofs.Moments.{exchange_refused, exchanges_spent}
use Rattle.cq_store.proofs.Stops.{has_member}

-- ---- the row's quantity is dropped, and the rows are feasible
module _ (told : List Constraint) (names : List Name) (c : Constraint) (roles : List Role) (flags : List Bool) (q column : ℕ) (b : IsRowBehind told names c roles flags q)
    (i : c.relation ≡ Eq) (column_live : is_live roles column ≡ true) (new : List Role) (x : IsEliminated roles q column new) (same : SameMeaning roles new)
    (table : AreOverColumns new) (f : HasFeasibleNumbers (tableau new flags (b.stored.forms ++ c.form ∷ []))) where
  new_size : length flags ≡ length new
  new_size = b.keeps.size ∙ sym x.size

  new_written : IsWritten (tableau new flags (b.stored.forms ++ c.form ∷ []))
  new_written =
      linked_written (tableau new flags (b.stored.forms ++ c.form ∷ []))
      (linked new flags (b.stored.forms ++ c.form ∷ []) table new_size (still_describes roles new (b.stored.forms ++ c.form ∷ []) x.size same b.keeps.describes))

  pub dropped_speaks : Speaks (b.stored.forms ++ c.form ∷ []) (c ∷ told) new flags
  dropped_speaks =
      let forms : List Linear = b.stored.forms ++ c.form ∷ [] in
      let d = tableau roles flags forms in
      let e = tableau new flags forms in
      let ch = (eliminated roles new q column b.row column_live x flags forms).changed in
      let w0 = written forms told roles flags b.keeps in
      record {
        table = table;
        size = new_size;
        describes = still_describes roles new forms x.size same b.keeps.describes;
        sound = subst (λ k. Sound e (k ∷ told)) (front_is told names c roles flags q b i)
            (sound_zero d e told q [] ch (λ z k. absurd k) w0 new_written (feasible_of new flags forms table f) b.keeps.invariant.sound);
        dropped = of_more.dropped_more d e w0 (q ∷ []) [] ch (λ z k. absurd k) told b.keeps.dropped c
            (λ r. subst (λ g. IsFlat (WithinEquations e) g) (form_here told names c roles flags q b)
            (own_dropped e q (gone roles new q column b.row column_live x) (unflagged told names c roles flags q b)));
      }

  pub dropped_some : SpeaksOfSome new flags
  dropped_some = record { forms = b.stored.forms ++ c.form ∷ []; list = c ∷ told; speaks = dropped_speaks }

  -- ---- after the second look
  module _ (last : List Role) (s : LooksOn new last flags) where
    now_speaks : Speaks (b.stored.forms ++ c.form ∷ []) (c ∷ told) last flags
    now_speaks = s.speaks (b.stored.forms ++ c.form ∷ []) (c ∷ told) dropped_speaks

    last_size : length last ≡ length roles
    last_size = s.size ∙ x.size

    only_last : (z : ℕ) → is_dropped last z ≡ true → (z ≡ q) ⊎ ((is_restricted flags z ≡ true) ⊎ (is_dropped roles z ≡ true))
    only_last z h = elim (s.only z h) [
      | inl r ↦ inr (inl r)
      | inr d ↦ elim (only_dropped roles new q column b.row column_live x z d) [ inl e ↦ inl e | inr g ↦ inr (inr g) ]
    ]

    speaks_last : Speaks (b.stored.forms ++ c.form ∷ []) (told ++ c ∷ []) last flags
    speaks_last = record {
      table = now_speaks.table;
      size = now_speaks.size;
      describes = now_speaks.describes;
      sound = sound_there (tableau last flags (b.stored.forms ++ c.form ∷ [])) (c ∷ told) (told ++ c ∷ []) (told_last told c) now_speaks.sound;
      dropped = λ e m o. now_speaks.dropped e ((told_last told c).back e m) o;
    }

    -- the list while it joins
    pub between : IsBetween (told ++ c ∷ []) (names ++ Member (suc (length told)) ∷ []) (record { roles = last; restricted = flags })
    between = stored_by told names c roles flags q b i Speaks last last_size only_last speaks_last

    pub between_numbered : (number : ℕ) → number ≡ length told + 1 → IsBetween (told ++ c ∷ []) (names ++ Member number ∷ []) (record { roles = last; restricted = flags })
    between_numbered number num =
        subst (λ m. IsBetween (told ++ c ∷ []) (names ++ Member m ∷ []) (record { roles = last; restricted = flags })) (sym (num ∙ add-one (length told))) between

    -- ---- a member falls
    form_of_member : (R : Relation → Type 0) (z : ℕ) (m : IsMemberOf R told names z) → form_at (b.stored.forms ++ c.form ∷ []) z ≡ m.constraint.form
    form_of_member R z m =
        let w = b.stored.members z m.number m.named in
        let n : z < length b.stored.forms = subst (λ y. z < y) (b.stored.size ∙ sym b.stored.keeps.describes.size) (slice_get_within names _ _ m.named) in
        form_more b.stored.forms c.form z n ∙ sym w.form_is ∙ ap (λ (t : Constraint). t.form) (same_Some w.constraint m.constraint (sym w.told_at ∙ m.told_at))

    falls_by : (R : Relation → Type 0) (z : ℕ) (m : IsMemberOf R told names z) → (m.constraint.relation ≡ Gt) ⊎ (m.constraint.relation ≡ Ne)
        → IsFlat (Within (tableau last flags (b.stored.forms ++ c.form ∷ []))) (form_at (b.stored.forms ++ c.form ∷ []) z) → (number : ℕ)
        → FallsAt told (told ++ c ∷ []) (names ++ Member number ∷ []) z
    falls_by R z m r flat number = record {
      number = m.number;
      named = get_kept names (Member number ∷ []) z (Member m.number) m.named;
      constraint = m.constraint;
      told_at = m.told_at;
      relation_is = r;
      flat = λ v w. ap (value_at v) (sym (form_of_member R z m)) ∙ flat v (speaks_last.sound.inside v w);
    }

    number_zero : (z : ℕ) → IsNumber last z 0ℚ → IsFlat (Within (tableau last flags (b.stored.forms ++ c.form ∷ []))) (form_at (b.stored.forms ++ c.form ∷ []) z)
    number_zero z (number_row own a e k) v w =
        nothing_is (tableau last flags (b.stored.forms ++ c.form ∷ [])) now_speaks.sound.written z (at_below last z (Basic own) a)
        (subst (λ t. IsNothing (row_of z t)) (sym (role_is last z (Basic own) a)) (record { constant = sym k; live = ap products_of e })) v w
    number_zero z (dropped_column a k) v w = w z (dropped_at last z Dropped a)

    pub strict_falls : (z : ℕ) → IsFallen IsStrict told names new last flags z → (number : ℕ) → FallsAt told (told ++ c ∷ []) (names ++ Member number ∷ []) z
    strict_falls z h number = falls_by IsStrict z h.member (inl h.member.relation_is) (h.flat (b.stored.forms ++ c.form ∷ []) (c ∷ told) dropped_speaks) number

    pub apart_falls : (z : ℕ) → IsMemberOf IsApart told names z → IsNumber last z 0ℚ → (number : ℕ) → FallsAt told (told ++ c ∷ []) (names ++ Member number ∷ []) z
    apart_falls z m n number = falls_by IsApart z m (inr m.relation_is) (number_zero z n) number

    module _ (all : AllStand told names new last flags) (apart : AllApart told names last) where
      abbrev Now : Relation → Linear → Type 0
      Now r f = Again (Within (tableau last flags (b.stored.forms ++ c.form ∷ []))) (c ∷ told) r f

      stands : (k : Constraint) (h : Has k told) → IsInequality k.relation
          → StandsAt told names (b.stored.forms ++ c.form ∷ []) (c ∷ told) last flags (quantity told names b.before b.stored k h).number
      stands k h r =
          let z = quantity told names b.before b.stored k h in
          all (b.stored.forms ++ c.form ∷ []) (c ∷ told) dropped_speaks z.number
          (flag_before told names c roles flags q b z.number ∙ b.stored.flagged z.number (is_member IsInequality told names b.stored.forms k z r))

      form_of : (k : Constraint) (h : Has k told) → form_at (b.stored.forms ++ c.form ∷ []) (quantity told names b.before b.stored k h).number ≡ k.form
      form_of k h = let z = quantity told names b.before b.stored k h in form_more b.stored.forms c.form z.number z.below ∙ z.form_is

      again : (k : Constraint) → Has k told → (r : Relation) → k.relation ≡ r → Now r k.form
      again k h Eq e = tt
      again k h Gt e =
          subst (λ g. Rises (c ∷ told) g) (form_of k h)
          (elim (stands k h (subst IsInequality (sym e) tt)) [
            | inl g ↦ g
            | inr g ↦ absurd (g.1 (is_member IsStrict told names b.stored.forms k (quantity told names b.before b.stored k h) e))
          ])
      again k h Ge e =
          subst (λ g. IsFlat (Within (tableau last flags (b.stored.forms ++ c.form ∷ []))) g ⊎ Rises (c ∷ told) g) (form_of k h)
          (elim (stands k h (subst IsInequality (sym e) tt)) [ inl g ↦ inr g | inr g ↦ inl g.0 ])
      again k h Ne e = moves_within told names c roles flags q b i last now_speaks.table last_size now_speaks.sound.written apart k h e

      own_stands : (r : Relation) → r ≡ Eq → Stands (Within (tableau last flags (b.stored.forms ++ c.form ∷ []))) (c ∷ told) r c.form
      own_stands Eq e = λ v w.
          ap (value_at v) (sym (form_here told names c roles flags q b)) ∙ w q (s.still q (gone roles new q column b.row column_live x))
      own_stands Gt e = cc
      own_stands Ge e = cc
      own_stands Ne e = cc

      level_keeps : Keeps (b.stored.forms ++ c.form ∷ []) (c ∷ told) last flags
      level_keeps = record {
        table = now_speaks.table;
        size = now_speaks.size;
        describes = now_speaks.describes;
        invariant = joined_again (tableau roles flags (b.stored.forms ++ c.form ∷ [])) (tableau last flags (b.stored.forms ++ c.form ∷ [])) told c b.keeps.invariant now_speaks.sound
            (λ v w z h. w z (s.still z (still_dropped roles new q column b.row column_live x z h))) (own_stands c.relation i) (λ k h. again k h k.relation refl);
        dropped = now_speaks.dropped;
      }

      pub level_stored : (number : ℕ) → number ≡ length told + 1 → (new_names : List Name) → new_names ≡ names ++ Member number ∷ []
          → IsStored (told ++ c ∷ []) new_names (record { roles = last; restricted = flags })
      level_stored number num new_names names_are = stored_behind told names c roles flags q b i last last_size only_last level_keeps number num new_names names_are

  -- ---- the stops of the second look
  knows_later : (z : ℕ) → Mentions z c.form.products → IsKnown (names ++ Member (suc (length told)) ∷ []) z
  knows_later z m = let k = b.knows z m in (k.0, get_kept names (Member (suc (length told)) ∷ []) k.0 (Variable (record { 0 = z })) k.1)

  pub look_refused : (pair : Pair) → RefusesLook new flags pair → MayRefuse told (Only c) NoQuestion pair
  look_refused pair r =
      exchange_refused (told ++ c ∷ []) (names ++ Member (suc (length told)) ∷ []) (record { roles = r.roles; restricted = flags }) (between r.roles r.looks) c.form knows_later
      told (Only c) NoQuestion (joined c refl) (of_joining c refl) r.row r.column pair (r.made, r.refused)

  pub look_spent : (n : ℕ) → SpendsLook new flags n → MayTake told (Only c) NoQuestion n
  look_spent n p =
      let d = between p.roles p.looks in
      let m = d.owned p.row p.flag in
      let g = d.members p.row m.number m.named in
      let is = sym g.form_is ∙ ap (λ (t : Constraint). t.form) (same_Some g.constraint m.constraint (sym g.told_at ∙ m.told_at)) in
      exchanges_spent (told ++ c ∷ []) (names ++ Member (suc (length told)) ∷ []) (record { roles = p.roles; restricted = flags }) d m.constraint.form
      (λ z k. d.mentioned p.row (slice_get_within (names ++ Member (suc (length told)) ∷ []) p.row (Member m.number) m.named) z (subst (λ (t : Linear). Mentions z t.products) (sym is) k))
      told (Only c) NoQuestion (joined c refl) (of_member m.constraint (has_member (told ++ c ∷ []) m.number m.constraint m.told_at)) p.row p.is_row is Positive n p.last p.spent

-- ---- where the form is on both sides of zero
module _ (told : List Constraint) (names : List Name) (c : Constraint) (roles : List Role) (flags : List Bool) (q column : ℕ) (y : Crosses told names c roles flags q column) where
  pub crossing_live : is_live roles column ≡ true
  crossing_live =
      entry_live (is_live roles) 0 y.entry.own.live (y.behind.keeps.table.rows q y.entry.own y.entry.is_row).live_row (record { quantity = column; factor = y.entry.factor }) y.entry.in_row

-- ---- where the row is zero
module _ (told : List Constraint) (names : List Name) (c : Constraint) (roles : List Role) (flags : List Bool) (q column : ℕ) (y : IsLevelRow told names c roles flags q column) where
  pub level_live : is_live roles column ≡ true
  level_live =
      entry_live (is_live roles) 0 y.entry.own.live (y.behind.keeps.table.rows q y.entry.own y.entry.is_row).live_row (record { quantity = column; factor = y.entry.factor }) y.entry.in_row

  column_there : factor_at roles q column ≡ 0ℚ → ⊥
  column_there z =
      entry_not_zero (is_live roles) 0 y.entry.own.live (y.behind.keeps.table.rows q y.entry.own y.entry.is_row).live_row (record { quantity = column; factor = y.entry.factor }) y.entry.in_row
      (sym (factor_is roles q y.entry.own y.entry.is_row column) ∙ z)

  pub level_feasible : (new : List Role) → IsEliminated roles q column new → SameMeaning roles new → AreOverColumns new
      → HasFeasibleNumbers (tableau new flags (y.behind.stored.forms ++ c.form ∷ []))
  level_feasible new x same table =
      let forms : List Linear = y.behind.stored.forms ++ c.form ∷ [] in
      level_elimination (tableau roles flags forms) (tableau new flags forms) (written forms told roles flags y.behind.keeps)
      (linked_written (tableau new flags forms) (linked new flags forms table (y.behind.keeps.size ∙ sym x.size) (still_describes roles new forms x.size same y.behind.keeps.describes)))
      q column (eliminated roles new q column y.behind.row level_live x flags forms) y.behind.keeps.invariant.sound.feasible
      (over_restricted forms told roles flags y.behind.keeps q y.behind.row y.none) (constant_row q (role_at roles q) ∙ y.zero)
      (λ z. column_there (sym (factor_there roles q y.behind.row column) ∙ z))
