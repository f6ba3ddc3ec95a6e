-- The quantities at the marks and their names, mark by mark.
use Rattle.std.proofs.Common.{◌≡◌, ℕ, zero, suc, ◌≤◌, List, [], ◌∷◌, ◌++◌, length, map, take, Bool, Some, arith, refl, ap, sym, subst, ◌∙◌, inl, inr}
use Rattle.std.proofs.lemmas.List.{length-take, map-append, take-append-le}
use Rattle.std.proofs.lemmas.Option.{slice_get_within, slice_get-map}
use Rattle.std.proofs.Math.Seq.{take-length}
use Rattle.std.specs.List.{take-map}
use Rattle.std.specs.Option.{option_map}
use Rattle.std.specs.Prelude.{slice_get}
use Rattle.spec_numbers.proofs.Places.{get_push, get_take, map_same}
use Rattle.cq_dict.specs.Roles.{Quantities}
use Rattle.cq_equations.specs.declared.table.Name.{Name}
use Rattle.cq_equations.specs.Contents.{Named, AreNamed}
use Rattle.cq_equations.specs.Marked.{named_at, AreMarked}

take_less : {X : Type 0} (j n : ℕ) (xs : List X) → j ≤ n → take j (take n xs) ≡ take j xs
take_less zero n xs h = refl
take_less (suc j) zero xs h = absurd (omega (arith, h))
take_less (suc j) (suc n) [] h = refl
take_less (suc j) (suc n) (x ∷ xs) h = ap (λ ys. x ∷ ys) (take_less j n xs (omega (arith, h)))

-- the quantities now are those of a mark that is made now
pub named_now : (t : Named) → AreNamed t → (flags : List Bool) → named_at t.names (record { roles = t.roles; restricted = flags }) ≡ t
named_now t a flags = ap (λ n. record { names = n; roles = t.roles }) (ap (λ n. take n t.names) (sym a.size) ∙ take-length t.names)

module _ (names : List Name) (saved : List Quantities) (marks : AreMarked names saved) where
  within : (k : ℕ) (q : Quantities) → slice_get saved k ≡ Some q → length q.roles ≤ length names
  within k q e = omega (arith, sym (length-take (length q.roles) names) ∙ (marks.named k q e).size)

  named_more : (more : List Name) (k : ℕ) (q : Quantities) → slice_get saved k ≡ Some q → named_at (names ++ more) q ≡ named_at names q
  named_more more k q e = ap (λ n. record { names = n; roles = q.roles }) (take-append-le (length q.roles) names more (within k q e))

  -- names are added
  pub marks_more : (more names' : List Name) (saved' : List Quantities) → names' ≡ names ++ more → saved' ≡ saved → AreMarked names' saved'
  marks_more more names' saved' e f = rw (e, f) (record {
    named = λ k q g. subst AreNamed (sym (named_more more k q g)) (marks.named k q g);
    sorted = marks.sorted;
  })

  pub saved_more : (more names' : List Name) (saved' : List Quantities) → names' ≡ names ++ more → saved' ≡ saved → map (named_at names') saved' ≡ map (named_at names) saved
  saved_more more names' saved' e f = rw (e, f) (map_same (named_at (names ++ more)) (named_at names) saved (named_more more))

  pub saved_at : (m : ℕ) (q : Quantities) → slice_get saved m ≡ Some q → slice_get (map (named_at names) saved) m ≡ Some (named_at names q)
  saved_at m q e = slice_get-map (named_at names) saved m ∙ ap (option_map (named_at names)) e

  pub marks_forget : (m : ℕ) (saved' : List Quantities) → saved' ≡ take m saved → AreMarked names saved'
  marks_forget m saved' f = rw f (record {
    named = λ k q g. marks.named k q (get_take m k saved q g).0;
    sorted = λ j k p q g h. marks.sorted j k p q (get_take m j saved p g).0 (get_take m k saved q h).0;
  })

  module _ (m : ℕ) (q : Quantities) (at : slice_get saved m ≡ Some q) where
    named_less : (k : ℕ) (p : Quantities) → slice_get (take m saved) k ≡ Some p → named_at (take (length q.roles) names) p ≡ named_at names p
    named_less k p e =
        let l : length p.roles ≤ length q.roles = marks.sorted k m p q (get_take m k saved p e).0 at (omega (arith, (get_take m k saved p e).1)) in
        ap (λ n. record { names = n; roles = p.roles }) (take_less (length p.roles) (length q.roles) names l)

    pub marks_undo : AreMarked (take (length q.roles) names) (take m saved)
    marks_undo = record {
      named = λ k p g. subst AreNamed (sym (named_less k p g)) (marks.named k p (get_take m k saved p g).0);
      sorted = λ j k p r g h. marks.sorted j k p r (get_take m j saved p g).0 (get_take m k saved r h).0;
    }

    pub saved_undo : map (named_at (take (length q.roles) names)) (take m saved) ≡ take m (map (named_at names) saved)
    saved_undo = map_same (named_at (take (length q.roles) names)) (named_at names) (take m saved) named_less ∙ sym (take-map (named_at names) m saved)

-- a mark is made
module _ (t : Named) (a : AreNamed t) (saved : List Quantities) (marks : AreMarked t.names saved) (flags : List Bool) where
  below : (k : ℕ) (q : Quantities) → slice_get saved k ≡ Some q → length q.roles ≤ length t.roles
  below k q e = omega (arith, within t.names saved marks k q e, a.size)

  pub marks_mark : AreMarked t.names (saved ++ record { roles = t.roles; restricted = flags } ∷ [])
  marks_mark = record {
    named = λ k q g. elim (get_push saved (record { roles = t.roles; restricted = flags }) k q g) [
      | inl h ↦ marks.named k q h
      | inr h ↦ subst (λ z. AreNamed (named_at t.names z)) h.1 (subst AreNamed (sym (named_now t a flags)) a)
    ];
    sorted = λ j k p q g h l. elim (get_push saved (record { roles = t.roles; restricted = flags }) k q h) [
      | inl h' ↦ elim (get_push saved (record { roles = t.roles; restricted = flags }) j p g) [
        | inl g' ↦ marks.sorted j k p q g' h' l
        | inr g' ↦ absurd (omega (arith, l, g'.0, slice_get_within saved k q h'))
      ]
      | inr h' ↦ elim (get_push saved (record { roles = t.roles; restricted = flags }) j p g) [
        | inl g' ↦ subst (λ (z : Quantities). length p.roles ≤ length z.roles) h'.1 (below j p g')
        | inr g' ↦ subst (λ (z : Quantities). length p.roles ≤ length z.roles) h'.1 (subst (λ (z : Quantities). length z.roles ≤ length t.roles) g'.1 (omega arith))
      ]
    ];
  }

  pub saved_mark : map (named_at t.names) (saved ++ record { roles = t.roles; restricted = flags } ∷ []) ≡ map (named_at t.names) saved ++ t ∷ []
  saved_mark = map-append (named_at t.names) saved (record { roles = t.roles; restricted = flags } ∷ []) ∙ ap (λ z. map (named_at t.names) saved ++ z ∷ []) (named_now t a flags)
