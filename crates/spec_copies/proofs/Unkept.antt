-- Where no disequation is told, no variable is kept beside the targets.
use Rattle.std.proofs.Common.{◌≡◌, inl, inr, ℕ, List, [], ◌∷◌, ◌++◌, true, map, refl, sym, ap, subst}
use Rattle.spec_linear.specs.declared.Relation.{Relation}
use Rattle.spec_linear.specs.declared.Relation.TheVariants.{Eq, Gt, Ge, Ne}
use Rattle.spec_linear.specs.Solution.{Constraint, Has, SomeMentions}
use Rattle.spec_projection.specs.Substitution.{put_into}
use Rattle.spec_projection.specs.Irredundant.{Sifts, done, dropped, stays}
use Rattle.spec_projection.specs.Projection.{is_disequation, disequations_of}
use Rattle.spec_projection.proofs.Members.{has_filtered}
use Rattle.spec_copies.specs.Parts.{IsSplit, nothing, into_first, into_second}
use Rattle.spec_copies.specs.Copies.{IsKept}

none_has : {A : Type 0} (xs : List A) → ((x : A) → Has x xs → ⊥) → xs ≡ []
none_has [] n = refl
none_has (x ∷ xs) n = absurd (n x (inl refl))

-- a pass over nothing leaves what was kept
nothing_sifted : (beside kept left final : List Constraint) → left ≡ [] → Sifts beside kept left final → kept ≡ final
nothing_sifted beside kept left final e done = refl
nothing_sifted beside kept left final e (dropped h s) = cc
nothing_sifted beside kept left final e (stays h s) = cc

is_unequal : (r : Relation) → is_disequation r ≡ true → r ≡ Ne
is_unequal Eq e = cc
is_unequal Gt e = cc
is_unequal Ge e = cc
is_unequal Ne e = refl

from_list : (l part rest : List Constraint) → IsSplit l part rest → (c : Constraint) → Has c part → Has c l
from_list l part rest nothing c h = absurd h
from_list l part rest (into_first s) c (inl e) = inl e
from_list l part rest (into_first s) c (inr h) = inr (from_list _ _ _ s c h)
from_list l part rest (into_second s) c h = inr (from_list _ _ _ s c h)

pub none_in_part : (targets : List ℕ) (l : List Constraint) (kept : List ℕ) (k : IsKept targets l kept) → ((c : Constraint) → Has c k.part → c.relation ≡ Ne → ⊥) → kept ≡ []
none_in_part targets l kept k n =
    let no_unequal : disequations_of k.part ≡ [] =
    none_has (disequations_of k.part) (λ c h. (let f = has_filtered (λ (d : Constraint). is_disequation d.relation) c k.part h in n c f.0 (is_unequal c.relation f.1))) in
    let none_left : [] ≡ k.keeps.left =
    nothing_sifted k.keeps.strict [] (map (put_into (k.keeps.others ++ k.equations)) (disequations_of k.part)) k.keeps.left
    (ap (map (put_into (k.keeps.others ++ k.equations))) no_unequal) k.keeps.unequal in
    none_has kept (λ x h. subst (λ (m : List Constraint). SomeMentions x m) (sym none_left) (k.keeps.kept_only x h).1)

pub none_kept : (targets : List ℕ) (l : List Constraint) (kept : List ℕ) → ((c : Constraint) → Has c l → c.relation ≡ Ne → ⊥) → IsKept targets l kept → kept ≡ []
none_kept targets l kept n k = none_in_part targets l kept k (λ c h. n c (from_list l k.part k.is_part.rest k.is_part.split c h))
