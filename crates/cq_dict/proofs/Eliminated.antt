-- An exchange after which the row's quantity is dropped, written at once.
use Rattle.std.proofs.Common.{◌≡◌, ℕ, ◌<◌, List, length, true, arith, refl, sym, subst, ◌∙◌, inl, inr}
use Rattle.spec_numbers.specs.Rational.{ℚ}
use Rattle.cq_frac.specs.Row.{Row}
use Rattle.cq_frac.specs.Rows.{everywhere, Lacks, except}
use Rattle.cq_frac.specs.Numbers.{IsOver, also}
use Rattle.cq_frac.proofs.Shifts.{over_anywhere, passes}
use Rattle.cq_dict.specs.declared.columns.Turn.TheVariants.{Dropping}
use Rattle.cq_dict.specs.declared.table.Change.{Change}
use Rattle.cq_dict.specs.declared.table.Role.{Role}
use Rattle.cq_dict.specs.declared.table.Role.TheVariants.{Live, Dropped, Basic}
use Rattle.cq_dict.specs.Changes.{Changes, Covers, IsWritten, Moved, IsSolved, Exchanges, Eliminates, Turned, AreTurned, Turns}
use Rattle.cq_dict.specs.Roles.{IsAt, is_live, is_dropped, AreOverColumns, IsOfOneKind}
use Rattle.cq_dict.proofs.Exchanged.{q_over, other_lacks, solved_apart, solved_exchanges}
use Rattle.cq_dict.proofs.Places.{places, places_written, places_cover, listed}
use Rattle.cq_dict.proofs.Roles.{at_one, at_exists, live_at, role_dropped, equal_or_not, row_on}
use Rattle.cq_dict.proofs.Turned.{turned_kept, turned_row, stays_dropped, drops}
use Rattle.cq_dict.proofs.Written.{related}

same_row : (r z : Row) → Basic r ≡ Basic z → r ≡ z
same_row r z e = cc

still_of_kind : (old mid new : List Role) (i : ℕ) → IsOfOneKind old mid i → IsOfOneKind mid new i → IsOfOneKind old new i
still_of_kind old mid new i a b = record { live = b.live ∙ a.live; dropped = b.dropped ∙ a.dropped; row = b.row ∙ a.row }

-- what a role becomes by the exchange, and then by the drop
pub record Both (leaving column : ℕ) (q : Row) (rate : ℚ) (n : ℕ) (s t : Role) : Type 0 where
  pub between : Role
  pub moved : Moved leaving column q rate n s between
  pub turned : Turned Dropping leaving n between t

-- a role that stands between the two at a place
pub record Between (roles new : List Role) (leaving column : ℕ) (q : Row) (rate : ℚ) (n : ℕ) (m : Role) : Type 0 where
  pub moved : (s : Role) → IsAt roles n s → Moved leaving column q rate n s m
  pub turned : (t : Role) → IsAt new n t → Turned Dropping leaving n m t

module _ (roles : List Role) (leaving column : ℕ) (q : Row) (rate : ℚ) (table : AreOverColumns roles) (s : IsSolved roles leaving column q rate)
    (before : List Change) (covers : Covers (Moved leaving column q rate) roles (length roles) before) where
  all_over : IsOver (is_live roles) (is_dropped roles) q
  all_over = q_over roles leaving column s.entry.own s.entry.factor table s.entry.is_row s.entry.in_row q rate s.divided s.rate_is

  of_role : (n : ℕ) (u t : Role) (o : Row) → IsAt roles n u → Moved leaving column q rate n u t → t ≡ Basic o → (n ≡ leaving → ⊥) → (n ≡ column → ⊥) → IsOver (also leaving (except column (is_live roles))) (is_dropped roles) o
  of_role n Live t o a m e f g = let w : Basic o ≡ Live = sym e ∙ m.live f g refl in cc
  of_role n Dropped t o a m e f g = let w : Basic o ≡ Dropped = sym e ∙ m.dropped f g refl in cc
  of_role n (Basic p) t o a m e f g =
      let w = m.row f g p refl in
      subst (λ (z : Row). IsOver (also leaving (except column (is_live roles))) (is_dropped roles) z) (same_row w.0 o (sym w.1 ∙ e)) (w.2.over (is_live roles) (is_dropped roles) (table.rows n p a) all_over)

  moved_over : (n : ℕ) (u t : Role) (o : Row) → IsAt roles n u → Moved leaving column q rate n u t → t ≡ Basic o → IsOver (also leaving (except column (is_live roles))) (is_dropped roles) o
  moved_over n u t o a m e =
      elim (equal_or_not n leaving) [
        | inl f ↦ let w : Basic o ≡ Live = sym e ∙ m.leaves f in cc
        | inr f ↦ elim (equal_or_not n column) [
          | inl g ↦
              let w = m.enters f g in
              subst (λ (z : Row). IsOver (also leaving (except column (is_live roles))) (is_dropped roles) z) (same_row w.0 o (sym w.1 ∙ e)) (w.2.over (is_live roles) (is_dropped roles) all_over)
          | inr g ↦ of_role n u t o a m e f g
        ]
      ]

  change_over : (d : Change) (o : Row) → Changes d before → d.role ≡ Basic o → IsOver (also leaving (except column (is_live roles))) (is_dropped roles) o
  change_over d o h e = let k = covers.changed d h in moved_over d.at k.0 d.role o k.1 k.2 e

  pub change_row : (d : Change) (o : Row) → Changes d before → d.role ≡ Basic o → IsOver everywhere everywhere o
  change_row d o h e = over_anywhere (also leaving (except column (is_live roles))) (is_dropped roles) o (change_over d o h e)

  pub change_lacks : (d : Change) (o : Row) → Changes d before → d.role ≡ Basic o → Lacks leaving o.dropped
  change_lacks d o h e = λ m g f.
      let k = change_over d o h e in
      let t : is_dropped roles leaving ≡ true = subst (λ z. is_dropped roles z ≡ true) f (passes (is_dropped roles) 0 o.dropped m k.dropped_row g) in
      let w = at_one roles leaving Dropped (Basic s.entry.own) (role_dropped roles leaving t) s.entry.is_row in
      cc

  not_leaving : (n : ℕ) (u : Role) → IsAt roles n u → Moved leaving column q rate n u u → n ≡ leaving → ⊥
  not_leaving n u a m e =
      let w : u ≡ Basic s.entry.own = at_one roles leaving u (Basic s.entry.own) (subst (λ k. IsAt roles k u) e a) s.entry.is_row in
      let v : u ≡ Live = m.leaves e in
      cc

  stays : (n : ℕ) (u : Role) → IsAt roles n u → Moved leaving column q rate n u u → Turned Dropping leaving n u u
  stays n Live a m = turned_kept Dropping leaving n Live Live (not_leaving n Live a m) (λ r e. cc) refl
  stays n Dropped a m = turned_kept Dropping leaving n Dropped Dropped (not_leaving n Dropped a m) (λ r e. cc) refl
  stays n (Basic o) a m = turned_row Dropping leaving n (Basic o) (Basic o) (not_leaving n (Basic o) a m) o o refl refl (stays_dropped o leaving (other_lacks roles leaving column q rate table s n o a))

  module _ (after : List Change) (turned : AreTurned Dropping leaving before after) where
    pub both_cover : Covers (Both leaving column q rate) roles (length roles) after
    both_cover = record {
      changed = λ c h.
          let d = turned.from c h in
          let k = covers.changed d.0 d.1 in (
            k.0,
            subst (λ z. IsAt roles z k.0) d.2 k.1,
            record {
              between = d.0.role;
              moved = subst (λ z. Moved leaving column q rate z k.0 d.0.role) d.2 k.2;
              turned = subst (λ z. Turned Dropping leaving z d.0.role c.role) d.2 d.3;
            },
          );
      kept = λ j u l a.
          elim (covers.kept j u l a) [
            | inl m ↦ inl (record { between = u; moved = m; turned = stays j u a m })
            | inr w ↦ let d = turned.to w.0 w.1 in inr (d.0, d.1, d.2 ∙ w.2)
          ];
    }

    module _ (new : List Role) (written : IsWritten roles after new) where
      both : (j : ℕ) (u t : Role) → IsAt roles j u → IsAt new j t → Both leaving column q rate j u t
      both j u t a b = related (Both leaving column q rate) roles (length roles) after both_cover (omega arith) new written j u t a b

      between : (j : ℕ) → j < length roles → (m : Role) × Between roles new leaving column q rate j m
      between j l =
          let u = at_exists roles j l in
          let size = written.size in
          let t = at_exists new j (omega (arith, l, size)) in
          let b = both j u.0 t.0 u.1 t.1 in (
            b.between,
            record {
              moved = λ v a. subst (λ z. Moved leaving column q rate j z b.between) (at_one roles j u.0 v u.1 a) b.moved;
              turned = λ v a. subst (λ z. Turned Dropping leaving j b.between z) (at_one new j t.0 v t.1 a) b.turned;
            },
          )

      of_two : (mid : List Role) → length mid ≡ length roles → ((j : ℕ) (m : Role) → IsAt mid j m → Between roles new leaving column q rate j m) → Eliminates roles leaving column new
      of_two mid size each =
          let a : Exchanges roles leaving column mid =
          solved_exchanges roles leaving column q rate table s (places 0 mid)
          (places_cover (Moved leaving column q rate) roles mid size (λ j u m g h. (each j m h).moved u g)) mid (places_written roles mid size) in
          let long : length new ≡ length mid = written.size ∙ sym size in
          let b : Turns Dropping mid leaving new =
          drops mid leaving a.table (places 0 new) new (places_written mid new long) (live_at mid leaving Live a.kinds.leaves)
          (places_cover (Turned Dropping leaving) mid new long (λ j m t g h. (each j m g).turned t h)) in
          record {
            table = b.table;
            same = λ x. ((λ m. (b.same x).0 ((a.same x).0 m)), (λ m. (a.same x).1 ((b.same x).1 m)));
            kinds = record {
              size = written.size;
              leaves = b.kinds.own;
              enters = row_on mid new column (b.kinds.others column (λ e. solved_apart roles leaving column q rate table s (sym e))) a.kinds.enters;
              others = λ i n k. still_of_kind roles mid new i (a.kinds.others i n k) (b.kinds.others i n);
            };
          }

      pub eliminates : Eliminates roles leaving column new
      eliminates = let m = listed (Between roles new leaving column q rate) (length roles) between in of_two m.0 m.1 m.2
