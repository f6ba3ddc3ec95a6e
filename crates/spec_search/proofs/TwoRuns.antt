-- The query p(b) over the clause p(a), with the clause left out and with its child pruned.
use Rattle.std.proofs.Common.{◌≡◌, ℕ, [], ◌∷◌, get_or, refl, ap, arith}
use Rattle.std.specs.Prelude.{codes}
use Rattle.spec_numbers.specs.Texts.{Text}
use Rattle.spec_terms.specs.Unifier.{HasNoUnifier}
use Rattle.spec_builtins.specs.Alternatives.{◌≐◌}
use Rattle.spec_search.specs.Control.{instance}
use Rattle.spec_search.specs.Search.{start}
use Rattle.spec_search.specs.Steps.{end, takes, leaves_out, calls}
use Rattle.spec_search.specs.Turns.{steps}
use Rattle.spec_search.proofs.LeftOut.{dropped}
use Rattle.spec_search.specs.Runs.{Run, begins, goes_on}
use Rattle.spec_search.specs.Example.{one_clause, asked, place, only_clause, only_child, once_selected, selected_once}

apart : (m n : ℕ) → m ≡ 98 → n ≡ 97 → m ≡ n → ⊥
apart m n e f g = absurd (omega arith)

no_match : HasNoUnifier ((asked ≐ (instance place only_clause).head) ∷ [])
no_match r h =
    let e = h.0 in
    let f : codes "b" ≡ codes "a" = cc in
    apart 98 97 refl refl (ap (λ (x : Text). get_or x 0 0) f)

pub left_out : Run (start one_clause asked 0) (selected_once ∷ []) (once_selected [])
left_out = goes_on (steps refl (calls refl (leaves_out no_match end))) begins

pub taken : Run (start one_clause asked 0) (selected_once ∷ []) (once_selected (only_child ∷ []))
taken = goes_on (steps refl (calls refl (takes end))) begins

pub pruned : Run (once_selected (only_child ∷ [])) [] (once_selected [])
pruned = goes_on (dropped (once_selected (only_child ∷ [])) place asked only_clause [] no_match refl) begins
