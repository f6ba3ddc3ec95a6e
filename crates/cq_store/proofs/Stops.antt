-- The stops of the second look on a face are due.
use Rattle.std.proofs.Common.{◌≡◌, ℕ, zero, suc, List, [], ◌∷◌, ◌++◌, length, Bool, Some, inl, inr, refl, ap, sym, subst, ◌∙◌}
use Rattle.std.specs.Prelude.{slice_get}
use Rattle.std.proofs.lemmas.Option.{none-some, same_Some, slice_get_within}
use Rattle.spec_numbers.proofs.Places.{get_kept}
use Rattle.spec_numbers.specs.Sums.{Mentions}
use Rattle.spec_linear.specs.Form.{Linear}
use Rattle.spec_linear.specs.Solution.{Constraint, Has}
use Rattle.spec_linear.specs.Certificate.{member as member_of}
use Rattle.spec_simplex.specs.Asked.{NoQuestion, of_member, of_joining}
use Rattle.cq_frac.specs.declared.Pair.{Pair}
use Rattle.cq_dict.specs.declared.table.Role.{Role}
use Rattle.cq_simplex.specs.declared.Aim.TheVariants.{Positive}
use Rattle.cq_tableau.specs.declared.names.Name.{Name}
use Rattle.cq_tableau.specs.declared.names.Name.TheVariants.{Variable, Member}
use Rattle.cq_tableau.specs.Stored.{IsKnown, IsBetween}
use Rattle.cq_store.specs.StoreValue.{MayRefuse, MayTake, Only, joined}
use Rattle.cq_tableau.specs.Faced.{HoldsAtZero, RefusesFace, SpendsFace, IsOnFace}
use Rattle.cq_frac.specs.declared.row.Entry.{Entry}
use Rattle.cq_tableau.proofs.Faces.{holds_further}
use Rattle.cq_store.proofs.Stays.{face_between}
use Rattle.cq_store.proofs.Moments.{exchange_refused, exchanges_spent}

has_at : (l : List Constraint) (i : ℕ) (c : Constraint) → slice_get l i ≡ Some c → Has c l
has_at [] i c e = absurd (none-some c e)
has_at (d ∷ l) zero c e = inl (sym (same_Some d c e))
has_at (d ∷ l) (suc i) c e = inr (has_at l i c e)

pub has_member : (l : List Constraint) (i : ℕ) (c : Constraint) → member_of l i ≡ Some c → Has c l
has_member l zero c e = absurd (none-some c e)
has_member l (suc i) c e = has_at l i c e

module _ (told : List Constraint) (names : List Name) (c : Constraint) (roles : List Role) (flags : List Bool) (n : ℕ) (columns : List Entry)
    (f : IsOnFace told names c roles flags n columns) where
  between : (new : List Role) (new_flags : List Bool) → HoldsAtZero n roles flags new new_flags
      → IsBetween (told ++ c ∷ []) (names ++ Member (suc (length told)) ∷ []) (record { roles = new; restricted = new_flags })
  between new new_flags h =
      face_between told names f.before f.stored c f.weak f.knows roles flags f.flags_are f.keeps f.dropped n f.last (record { roles = new; restricted = new_flags }) h

  knows_later : (x : ℕ) → Mentions x c.form.products → IsKnown (names ++ Member (suc (length told)) ∷ []) x
  knows_later x m = let k = f.knows x m in (k.0, get_kept names (Member (suc (length told)) ∷ []) k.0 (Variable (record { 0 = x })) k.1)

  pub face_refused : (pair : Pair) → RefusesFace n roles flags pair → MayRefuse told (Only c) NoQuestion pair
  face_refused pair r =
      let h = holds_further n roles flags r.roles r.refuses.roles r.new_flags r.holds r.refuses.looks in
      exchange_refused (told ++ c ∷ []) (names ++ Member (suc (length told)) ∷ []) (record { roles = r.refuses.roles; restricted = r.new_flags })
      (between r.refuses.roles r.new_flags h) c.form knows_later told (Only c) NoQuestion (joined c refl) (of_joining c refl)
      r.refuses.row r.refuses.column pair (r.refuses.made, r.refuses.refused)

  pub face_spent : (budget : ℕ) → SpendsFace n roles flags budget → MayTake told (Only c) NoQuestion budget
  face_spent budget r =
      let p = r.spends in
      let h = holds_further n roles flags r.roles p.roles r.new_flags r.holds p.looks in
      let b = between p.roles r.new_flags h in
      let m = b.owned p.row p.flag in
      let g = b.members p.row m.number m.named in
      let is = sym g.form_is ∙ ap (λ (x : Constraint). x.form) (same_Some g.constraint m.constraint (sym g.told_at ∙ m.told_at)) in
      exchanges_spent (told ++ c ∷ []) (names ++ Member (suc (length told)) ∷ []) (record { roles = p.roles; restricted = r.new_flags })
      b m.constraint.form
      (λ x k. b.mentioned p.row (slice_get_within (names ++ Member (suc (length told)) ∷ []) p.row (Member m.number) m.named) x (subst (λ (t : Linear). Mentions x t.products) (sym is) k))
      told (Only c) NoQuestion (joined c refl) (of_member m.constraint (has_member (told ++ c ∷ []) m.number m.constraint m.told_at))
      p.row p.is_row is Positive budget p.last p.spent
