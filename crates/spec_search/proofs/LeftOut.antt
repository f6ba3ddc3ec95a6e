-- A clause whose head no substitution makes equal to the goal is pruned as soon as it is settled.
use Rattle.std.proofs.Common.{◌≡◌, refl, ap, List, [], ◌∷◌}
use Rattle.spec_terms.specs.Term.{followed_by}
use Rattle.spec_terms.specs.Unifier.{HasNoUnifier}
use Rattle.spec_terms.proofs.Unifiers.{equates_under}
use Rattle.spec_syntax.specs.Trees.{Tree}
use Rattle.spec_builtins.specs.Alternatives.{◌≐◌}
use Rattle.spec_branch.specs.Branch.{Branch}
use Rattle.spec_branch.specs.Settling.{Settles, no_unifier, Pruned, Clash}
use Rattle.spec_search.specs.Database.{Clause}
use Rattle.spec_search.specs.Replies.{Place}
use Rattle.spec_search.specs.Control.{instance, clause_items, clause_state, clause_work, clause_child}
use Rattle.spec_search.specs.Search.{Search, look_at}
use Rattle.spec_search.specs.Turns.{Turn, Wrote, prunes, with_branches}

pub left_out : (p : Place) (goal : Tree) (c : Clause) → HasNoUnifier ((goal ≐ (instance p c).head) ∷ [])
    → Settles (clause_items p c) (clause_state p c) (clause_work p goal c) (Pruned Clash)
left_out p goal c h = no_unifier (λ r k. h (followed_by p.state.bindings r) (equates_under p.state.bindings r ((goal ≐ (instance p c).head) ∷ []) k))

-- its child is dropped, and nothing is shown
pub dropped : (s : Search) (p : Place) (goal : Tree) (c : Clause) (bs : List Branch)
    → HasNoUnifier ((goal ≐ (instance p c).head) ∷ []) → s.branches ≡ clause_child p goal c ∷ bs
    → Turn s (Wrote []) (with_branches bs s)
dropped s p goal c bs h e = prunes (ap look_at e) (left_out p goal c h) refl
