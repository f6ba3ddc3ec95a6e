-- Bindings keep names below a count.
use Rattle.std.proofs.Common.{◌≡◌, ℕ, ◌<◌, List, length, map, Bool, true, false, cond, sym, subst}
use Rattle.std.specs.Prelude.{All, ◌==◌}
use Rattle.std.proofs.lemmas.List.Elements.{All-map, All-same, All-weaker, All-get_or}
use Rattle.spec_terms.specs.Term.{Subst, Var, apply, single}
use Rattle.cq_term.specs.Meaning.{HeapTerm, at, blank}
use Rattle.cq_term.specs.HeapValue.{Terms}
use Rattle.cq_term.specs.Names.{HasNamesBelow, KeepsNames}
use Rattle.cq_term.proofs.Known.{names_substituted}

module _ (n : ℕ) where
  names_under : (s : Subst ℕ) (ts us : List HeapTerm) → us ≡ map (apply s) ts → ((v : ℕ) → HasNamesBelow n (s v)) → All (HasNamesBelow n) ts → All (HasNamesBelow n) us
  names_under s ts us e h all =
      All-same (HasNamesBelow n) us (map (apply s) ts) e
      (All-map (HasNamesBelow n) (apply s) ts (All-weaker (HasNamesBelow n) (λ t. HasNamesBelow n (apply s t)) (λ t k. names_substituted n s t k (λ v o. h v)) ts all))

  names_single : (v : ℕ) (u : HeapTerm) → HasNamesBelow n u → (w : ℕ) → HasNamesBelow n (single v u w)
  names_single v u h w = go (v == w)
    where
      go : (b : Bool) → HasNamesBelow n (cond b u (Var w))
      go true = h
      go false = tt

  pub names_bind : (v : ℕ) (ts us : List HeapTerm) (id : ℕ) → us ≡ map (apply (single v (at ts id))) ts → id < length ts → All (HasNamesBelow n) ts → All (HasNamesBelow n) us
  names_bind v ts us id e live all = names_under (single v (at ts id)) ts us e (names_single v (at ts id) (All-get_or (HasNamesBelow n) ts id blank live all)) all

  pub names_same : (old new : Terms) → new ≡ old → KeepsNames n old new
  names_same old new e all = subst (λ (h : Terms). All (HasNamesBelow n) h.terms) (sym e) all
