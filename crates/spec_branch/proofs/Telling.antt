-- Telling a constraint adds just that it is met.
use Rattle.std.proofs.Common.{◌≡◌, ◌↔◌, ℕ, List, [], ◌∷◌, ◌++◌, map, filter, append-nil, Bool, true, false, cond, not, ◌&&◌, None, refl, sym, ap, ◌∙◌, subst}
use Rattle.std.specs.List.{AllByRecursion}
use Rattle.spec_numbers.specs.Rational.{ℚ}
use Rattle.spec_linear.specs.Solution.{Constraint, Point, number, Solves}
use Rattle.spec_numbers.specs.Texts.{Text}
use Rattle.spec_numbers.proofs.Tests.{nat_eq-self}
use Rattle.spec_terms.specs.Term.{Subst, Var, Number, Name, Compound, one, more, identity, apply, followed_by}
use Rattle.spec_terms.specs.Unifier.{IsUnifier}
use Rattle.spec_terms.proofs.Substitution.{apply-identity}
use Rattle.spec_syntax.specs.Trees.{Tree, binary}
use Rattle.spec_branch.specs.Checks.{is_conjunction, constraint_error, members, halves}
use Rattle.spec_branch.specs.Values.{IsTrueAt, IsMetAt}
use Rattle.spec_branch.proofs.Members.{both_parts, members_true}
use Rattle.spec_branch.specs.Branch.{State, Item, Pending, Branch, no_work}
use Rattle.spec_branch.specs.Settling.{Settles, Kept, Pruned, NoSolution, is_bound, newly_bound, binding_equation}
use Rattle.spec_branch.specs.Meaning.{IsSolution, SolvesState, SolvesPending}
use Rattle.spec_branch.proofs.Meant.{kept_means, pruned_means}

-- ---- no pairs, nothing bound

nothing_unified : (u : Subst Text) → IsUnifier [] u → u ≡ identity
nothing_unified u h = λ i v. (sym (apply-identity (u v)) ∙ h.general identity tt v) i

behind_identity : (s : Subst Text) → followed_by s identity ≡ s
behind_identity s = λ i v. apply-identity (s v) i

none_passes : (f : ℕ → Bool) → ((v : ℕ) → f v ≡ false) → (vs : List ℕ) → filter f vs ≡ []
none_passes f h [] = refl
none_passes f h (v ∷ vs) = ap (λ (b : Bool). cond b (v ∷ filter f vs) (filter f vs)) (h v) ∙ none_passes f h vs

and_none : (a b c : Bool) → c ≡ false → (a && b && c) ≡ false
and_none true true c e = e
and_none true false c e = refl
and_none false b c e = refl

unbound : (v : ℕ) → is_bound identity v ≡ false
unbound v = ap not (nat_eq-self v)

nothing_bound : (st : State) → newly_bound st identity ≡ []
nothing_bound st = none_passes (λ v. st.numeric v && not (is_bound st.bindings v) && is_bound identity v) (λ v. and_none (st.numeric v) (not (is_bound st.bindings v)) (is_bound identity v) (unbound v)) _

-- ---- members as they read

module _ (s : Subst Text) (a : ℕ → ℚ) where
  abbrev Read : Tree → Type 0
  Read t = IsTrueAt a (apply s t)

  one_read : (t : Tree) → apply s t ≡ t → AllByRecursion Read (t ∷ []) ↔ AllByRecursion (IsTrueAt a) (t ∷ [])
  one_read t e = (λ h. (subst (IsTrueAt a) e h.0, tt), λ h. (subst (IsTrueAt a) (sym e) h.0, tt))

  members_read : (t : Tree) → apply s t ≡ t → AllByRecursion Read (members t) ↔ AllByRecursion (IsTrueAt a) (members t)
  members_read (Var x) e = one_read (Var x) e
  members_read (Number q) e = one_read (Number q) e
  members_read (Name n) e = one_read (Name n) e
  members_read (Compound f (one t)) e = one_read (Compound f (one t)) e
  members_read (Compound f (more t (one u))) e =
      let left : apply s t ≡ t = cc in
      let right : apply s u ≡ u = cc in
      go (is_conjunction f) (members_read t left) (members_read u right)
    where
      go : (b : Bool) → AllByRecursion Read (members t) ↔ AllByRecursion (IsTrueAt a) (members t)
          → AllByRecursion Read (members u) ↔ AllByRecursion (IsTrueAt a) (members u)
          → AllByRecursion Read (cond b (members t ++ members u) (binary f t u ∷ [])) ↔ AllByRecursion (IsTrueAt a) (cond b (members t ++ members u) (binary f t u ∷ []))
      go false h k = one_read (binary f t u) e
      go true h k =
          let p = both_parts Read (members t) (members u) in
          let q = both_parts (IsTrueAt a) (members t) (members u) in (
            λ m. (let x = p.0 m in q.1 (h.0 x.0, k.0 x.1)),
            λ m. (let x = q.0 m in p.1 (h.1 x.0, k.1 x.1)),
          )
  members_read (Compound f (more t (more u us))) e = one_read (Compound f (more t (more u us))) e

-- ---- telling

-- what is to be told, and nothing else
abbrev telling : Tree → Pending
telling c = record no_work { told = members c }

module _ (st : State) (c : Tree) (lawful : constraint_error c ≡ None) (whole : halves c ≡ None) (reads : apply st.bindings c ≡ c) where
  -- under the bindings that stay
  as_before : (p : Point) → IsSolution st.bindings (st.linear ++ [] ++ []) (st.delayed ++ members c) p
      ↔ (SolvesState st p × IsMetAt (number p) c)
  as_before p =
      let rows : st.linear ++ [] ++ [] ≡ st.linear = append-nil (st.linear ++ []) ∙ append-nil st.linear in
      let parts = both_parts (λ t. IsTrueAt (number p) (apply st.bindings t)) st.delayed (members c) in
      let read = members_read st.bindings (number p) c reads in
      let met = members_true (number p) c lawful whole in (
        λ h. (
            let x = parts.0 h.true_there in
            (record { solves = subst (λ (l : List Constraint). Solves p l) rows h.solves; true_there = x.0 }, met.1 (read.0 x.1))),
        λ h. record { solves = subst (λ (l : List Constraint). Solves p l) (sym rows) h.0.solves; true_there = parts.1 (h.0.true_there, read.1 (met.0 h.1)) },
      )

  told_solutions : (u : Subst Text) → IsUnifier [] u → (p : Point)
      → SolvesPending st (telling c) u p ↔ (SolvesState st p × IsMetAt (number p) c)
  told_solutions u h p =
      subst (λ (v : Subst Text). SolvesPending st (telling c) v p ↔ (SolvesState st p × IsMetAt (number p) c)) (sym (nothing_unified u h)) (
      subst (λ (vs : List ℕ). IsSolution (followed_by st.bindings identity) (st.linear ++ map (binding_equation (followed_by st.bindings identity)) vs ++ []) (st.delayed ++ members c) p ↔ (SolvesState st p × IsMetAt (number p) c)) (sym (nothing_bound st)) (
      subst (λ (s : Subst Text). IsSolution s (st.linear ++ [] ++ []) (st.delayed ++ members c) p ↔ (SolvesState st p × IsMetAt (number p) c)) (sym (behind_identity st.bindings)) (as_before p)))

  pub told_kept : (items : List Item) (b : Branch) → Settles items st (telling c) (Kept b) → (p : Point)
      → SolvesState b.state p ↔ (SolvesState st p × IsMetAt (number p) c)
  told_kept items b h p =
      let k = kept_means items st (telling c) b h in
      let m = told_solutions k.0 k.1 p in (
        λ x. m.0 ((k.2 p).0 x),
        λ x. (k.2 p).1 (m.1 x),
      )

  pub told_pruned : (items : List Item) (l : List Constraint) → Settles items st (telling c) (Pruned (NoSolution l))
      → (p : Point) → SolvesState st p → IsMetAt (number p) c → ⊥
  told_pruned items l h p s m =
      let k = pruned_means items st (telling c) l h in
      k.2 p ((told_solutions k.0 k.1 p).1 (s, m))
