-- The echelon form of the equations of a list is that of what the list entails, and its stops are those of an answer.
use Rattle.std.proofs.Common.{◌≡◌, inl, inr, ℕ, List, [], ◌∷◌, ◌++◌, Bool, true, false, cond, refl, ap, sym, subst}
use Rattle.std.specs.List.{AllByRecursion}
use Rattle.spec_linear.specs.declared.Relation.{Relation}
use Rattle.spec_linear.specs.declared.Relation.TheVariants.{Eq, Gt, Ge, Ne}
use Rattle.spec_linear.specs.Form.{Linear}
use Rattle.spec_linear.specs.Solution.{Constraint, Solvable, AreEquations, Entails, Equivalent, Has, MentionsOnly, equal_zero}
use Rattle.spec_linear.proofs.Lists.{alike_entails}
use Rattle.spec_linear.specs.Echelon.{Solved, equation, AreDistinct, IsEchelon}
use Rattle.spec_projection.specs.Interior.{is_equation, equations_of}
use Rattle.spec_projection.proofs.Members.{solves_all, member_entailed, has_filtered}
use Rattle.cq_frac.specs.declared.Pair.{Pair}
use Rattle.cq_equations.specs.Told.{CallMakes, while_asked, asking}
use Rattle.cq_equations.specs.Contents.{variable_forms}
use Rattle.cq_project.specs.Answering.{IsRefusedAnswering}
use Rattle.cq_project.specs.Disclosing.{Discloses, no_row, one_row}
use Rattle.cq_store.specs.declared.store.StoreFault.{StoreFault}
use Rattle.cq_store.specs.declared.store.StoreFault.TheVariants.{Overflow}
use Rattle.cq_equations.specs.declared.project.ProjectFault.{ProjectFault}
use Rattle.cq_equations.specs.declared.project.ProjectFault.TheVariants as of_projection
use Rattle.cq_equations.specs.Rows.{ProjectionMakes}
use Rattle.cq_project.specs.EchelonFaults.{IsFaultOf}
use Rattle.cq_project.specs.Putting.{PutsInSome}
use Rattle.cq_project.proofs.Places.{AreAmong, no_more, passed, found, form_among}
use Rattle.cq_project.proofs.EchelonStops.{refused_so, putting_refused}

is_equal : (r : Relation) → is_equation r ≡ true → r ≡ Eq
is_equal Eq e = refl
is_equal Gt e = let d : false ≡ true = e in cc
is_equal Ge e = let d : false ≡ true = e in cc
is_equal Ne e = let d : false ≡ true = e in cc

pub are_equations : (l : List Constraint) → AreEquations (equations_of l)
are_equations [] = tt
are_equations (c ∷ l) = by (is_equation c.relation) refl (are_equations l)
  where
    by : (b : Bool) → is_equation c.relation ≡ b → AreEquations (equations_of l) → AreEquations (cond b (c ∷ equations_of l) (equations_of l))
    by true e r = (is_equal c.relation e, r)
    by false e r = r

-- each equation that stands in a disclosed list has its form in the list
pub among_disclosed : (told k l : List Constraint) → Discloses told k l → AreAmong (equations_of l) k
among_disclosed told _ _ no_row = no_more
among_disclosed told _ _ (one_row {c = c} {d = d} {k = k} {l = l} own t) = by (is_equation d.relation) (among_disclosed told k l t)
  where
    same : c.form ≡ d.form
    same = elim own [ inl h ↦ sym (ap (λ z. z.form) h.1) | inr h ↦ sym (ap (λ z. z.form) h.0) ]

    by : (b : Bool) → AreAmong (equations_of l) k → AreAmong (cond b (d ∷ equations_of l) (equations_of l)) (c ∷ k)
    by true r = found same r
    by false r = passed r

each_so : {A : Type 0} (P Q : A → Type 0) (s : List A) → ((x : A) → P x → Q x) → AllByRecursion P s → AllByRecursion Q s
each_so P Q [] f h = tt
each_so P Q (x ∷ s) f h = (f x h.0, each_so P Q s f h.1)

-- the pair of a fault that is handed on
pub fault_told : (fault : ProjectFault) (given : StoreFault) (pair : Pair) → IsFaultOf fault given → given ≡ Overflow pair → fault ≡ of_projection.Overflow pair
fault_told (of_projection.Overflow p) given pair h e = cc
fault_told (of_projection.Pivots n) given pair h e = cc
fault_told of_projection.NoMemory given pair h e = cc

module _ (told all : List Constraint) (same : Equivalent all told) where
  pub entailed_here : (c : Constraint) → Has c (equations_of all) → Entails told c
  entailed_here c h = alike_entails all told c same (member_entailed all c (has_filtered (λ d. is_equation d.relation) c all h).0)

  pub equations_solvable : Solvable told → Solvable (equations_of all)
  equations_solvable s = (s.0, solves_all s.0 (equations_of all) (λ c h. entailed_here c h s.0 s.1))

  pub echelon_of_list : (order : List ℕ) (es : List Solved) → ((f : Linear) → Entails told (equal_zero f) → Entails (equations_of all) (equal_zero f))
      → IsEchelon order (equations_of all) es → IsEchelon order told es
  echelon_of_list order es complete e = record {
    first = e.first;
    sorted = e.sorted;
    reduced = e.reduced;
    entailed = each_so (λ s. Entails (equations_of all) (equation s)) (λ s. Entails told (equation s)) es
        (λ s h p o. h p (solves_all p (equations_of all) (λ c k. entailed_here c k p o))) e.entailed;
    complete = λ f over h. e.complete f over (complete f h);
  }

  module _ (targets order : List ℕ) (solvable : Solvable told) (disclosed : Discloses told told all) (only : MentionsOnly order told) where
    among : AreAmong (equations_of all) told
    among = among_disclosed told told all disclosed

    pub solving_refused : (pair : Pair) → ProjectionMakes order (equations_of all) pair → IsRefusedAnswering targets told pair
    solving_refused pair m =
        let has : Has m.member (equations_of all) = subst (Has m.member) (sym m.split) (in_the_middle m.before m.member m.after) in
        let there = form_among (equations_of all) told among m.member has in
        by there.0 there.1 there.2 m.made
      where
        in_the_middle : (front : List Constraint) (c : Constraint) (back : List Constraint) → Has c (front ++ c ∷ back)
        in_the_middle [] c back = inl refl
        in_the_middle (d ∷ front) c back = inr (in_the_middle front c back)

        by : (c : Constraint) → Has c told → c.form ≡ m.member.form → CallMakes m.before m.order m.member pair → IsRefusedAnswering targets told pair
        by c h e (while_asked due) =
            refused_so targets order told (equations_of all) solvable only among (are_equations all) entailed_here (asking m.before m.order m.member) refl refl m.before
            (m.member ∷ m.after) m.split refl c h m.order m.stays (ap (λ f. f ∷ variable_forms m.order) (sym e)) pair due

    pub put_refused : (es : List Solved) → AreDistinct order → IsEchelon order (equations_of all) es → (rows : List Constraint) → ((c : Constraint) → Has c rows → Has c told)
        → (pair : Pair) → PutsInSome es rows pair → IsRefusedAnswering targets told pair
    put_refused es distinct e rows members pair p =
        putting_refused targets order told (equations_of all) solvable only among (are_equations all) entailed_here es distinct e rows members pair p
