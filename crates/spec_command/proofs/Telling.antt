-- The query's constraints are told in a state in which nothing is known: none is pruned, and the solutions are theirs.
use Rattle.std.proofs.Common.{◌≡◌, ◌∙◌, ◌<◌, ◌↔◌, ℕ, suc, List, [], ◌∷◌, false, true, refl, sym, ap, ap₂, subst}
use Rattle.std.specs.List.{AllByRecursion}
use Rattle.spec_numbers.specs.Texts.{Text}
use Rattle.spec_linear.specs.Solution.{Point, number}
use Rattle.spec_terms.specs.Term.{Subst, apply, identity}
use Rattle.spec_terms.proofs.Substitution.{apply-identity}
use Rattle.spec_syntax.specs.Trees.{Tree}
use Rattle.spec_branch.specs.Checks.{members}
use Rattle.spec_branch.specs.Values.{IsMetAt, IsTrueAt}
use Rattle.spec_branch.specs.Branch.{State, Item, Goal, Branch, Pending, no_work, read}
use Rattle.spec_branch.specs.Meaning.{SolvesState}
use Rattle.spec_branch.specs.Settling as settling
use Rattle.spec_branch.specs.Settling.{Settles, SettlesUnified, Outcome, Kept, Pruned, Why, Clash, NoSolution}
use Rattle.spec_branch.proofs.Telling.{told_kept, told_pruned}
use Rattle.spec_search.specs.Constraints.{told_child, tell_or_split}
use Rattle.spec_search.specs.Replies.{Place, Made, Makes, made, unless_error}
use Rattle.spec_search.specs.Rows.{reply_of}
use Rattle.spec_search.specs.Search.{Search, Selecting, look_at}
use Rattle.spec_search.specs.Turns.{place_of, after_step}
use Rattle.spec_command.specs.Outcome.{GenFrom, gen_budgets}
use Rattle.spec_command.specs.Query.{asked, constraints, told}
use Rattle.spec_command.proofs.Beginning.{IsFree, is_made, no_ball}
use Rattle.spec_command.proofs.Bound.{met_there, there}
use Rattle.spec_command.proofs.Courses.{selects}
use Rattle.spec_command.proofs.Told.{right, whole}

module _ (k : ℕ) (line : Text) (st : State) (free : IsFree (suc k) line st) where
  abbrev c : Tree
  c = constraints (suc k)

  abbrev pub items : List Item
  items = Goal (asked (suc k)) 0 ∷ []

  pub reads : (t : Tree) → read st t ≡ t
  reads t = ap (λ (s : Subst Text). apply s t) free.bindings ∙ apply-identity t

  -- ---- the goal

  module _ (s : Search) (is : look_at s.branches ≡ Selecting (told (suc k)) 0 items st []) where
    abbrev p : Place
    p = place_of s st items 0 []

    abbrev pub telling : Made
    telling = made p (told_child p (members c) ∷ [])

    reply : reply_of p (read st (told (suc k))) ≡ Makes telling
    reply = ap (reply_of p) (reads (told (suc k))) ∙ ap₂ (λ e h. unless_error e (tell_or_split p c h)) (right k) (whole k)

    pub tells : GenFrom gen_budgets (suc k) line false 0 [] s → GenFrom gen_budgets (suc k) line false 0 [] (after_step s telling [])
    tells from =
        let (m, steps, more) = selects gen_budgets (suc k) line 0 [] s (told (suc k)) 0 items st [] is (no_ball p (read st (told (suc k))) telling reply) from in
        subst (λ x. GenFrom gen_budgets (suc k) line false 0 [] (after_step s x [])) (is_made p (read st (told (suc k))) telling reply m steps) more

  -- ---- settling

  abbrev pub work : Pending
  work = record no_work { told = members c }

  solves_all : (p : Point) → SolvesState st p
  solves_all p = record {
    solves = free.linear p;
    true_there = subst (λ ts. AllByRecursion (λ t. IsTrueAt (number p) (apply st.bindings t)) ts) (sym free.delayed) tt;
  }

  no_clash : (u : Subst Text) (o : Outcome) → SettlesUnified items st work u o → o ≡ Pruned Clash → ⊥
  no_clash u o (settling.clash h) e = let d : false ≡ true = sym (free.numeric h.variable) ∙ h.numeric in cc
  no_clash u o (settling.no_solution n j x) e = cc
  no_clash u o (settling.kept n j s f hf) e = cc

  not_clashed : (o : Outcome) → Settles items st work o → o ≡ Pruned Clash → ⊥
  not_clashed o (settling.no_unifier h) e = h identity tt
  not_clashed o (settling.unified u h x) e = no_clash u o x e

  pub not_pruned : k < 200 → (why : Why) → Settles items st work (Pruned why) → ⊥
  not_pruned small Clash h = not_clashed (Pruned Clash) h refl
  not_pruned small (NoSolution l) h = told_pruned st c (right k) (whole k) (reads c) items l h there (solves_all there) (met_there k small)

  pub solutions : (b : Branch) → Settles items st work (Kept b) → (p : Point) → SolvesState b.state p ↔ IsMetAt (number p) c
  solutions b h p =
      let both = told_kept st c (right k) (whole k) (reads c) items b h p in
      ((λ x. (both.0 x).1), (λ m. both.1 (solves_all p, m)))
