-- Worlds to whose heap terms were added.
use Rattle.std.proofs.Common.{◌≡◌, ℕ, List, None, refl, sym, subst, arith}
use Rattle.std.specs.Prelude.{OnErr, Ok, Err}
use Rattle.std.specs.declared.result.Result.{Result}
use Rattle.spec_numbers.specs.Prefixes.{IsPrefix}
use Rattle.spec_numbers.specs.Texts.{Text}
use Rattle.spec_branch.specs.Branch.{State, Branch}
use Rattle.spec_search.specs.Replies.{Place, Reply}
use Rattle.cq_term.specs.HeapValue.{Terms}
use Rattle.cq_term.specs.Trees.{KnowsTerms}
use Rattle.cq_settle.specs.Contents.{Contents}
use Rattle.cq_settle.specs.Rest.{IsReadyAs}
use Rattle.spec_engine.specs.declared.machine.cell.Cell.{Cell}
use Rattle.spec_engine.specs.Cells.{Fits, Value, Stack}
use Rattle.cq_branch.specs.Lists.{KeepsLists}
use Rattle.cq_branch.specs.Worlds.{IsBranch, term_in, with_heap, Placed, Selected, Leads, Grown}
use Rattle.cq_branch.specs.declared.begin.beginning.Begun.{Begun}
use Rattle.cq_branch.specs.declared.begin.beginning.Begun.TheVariants.{Goes, Pruned}
use Rattle.cq_branch.specs.Begun.{IfPruned}
use Rattle.cq_branch.proofs.Added.{keeps_on}
use Rattle.cq_branch.proofs.Grown.{stands_grown, grown}
use Rattle.cq_branch.proofs.Selected.{continuation_grown}

keeps_itself : (lists : List (List Cell)) → KeepsLists lists lists
keeps_itself lists = record { more = omega arith; same = λ k l. refl }

module _ (texts : List Text) (c : Contents) (h : Terms) (terms : IsPrefix c.heap.terms h.terms) (images : h.images ≡ c.heap.images) (names : KnowsTerms texts h.terms) where
  pub ready_grown : (st : State) → IsReadyAs texts c st → IsReadyAs texts (with_heap h c) st
  ready_grown st r = record { stands = stands_grown texts c h terms images names st.bindings st.bindings st r.stands; rests = r.rests }

  pub grown_terms : (lists : List (List Cell)) → Grown texts (c, lists) (with_heap h c, lists)
  grown_terms lists = grown texts c h terms images names lists lists (keeps_itself lists)

-- the same world, and more continuations
pub grown_still : (texts : List Text) (old mid : Value Contents) (later : Contents) (lists : List (List Cell)) → Grown texts old mid → later ≡ mid.0 → KeepsLists mid.1 lists
    → Grown texts old (later, lists)
grown_still texts old mid later lists g e keeps =
    subst (λ (c : Contents). Grown texts old (c, lists)) (sym e)
    (record { state = λ st i. g.state st i; terms = λ id t r. g.terms id t r; lists = keeps_on old.1 mid.1 lists g.lists keeps })

-- ---- what is selected stays so

module _ (texts : List Text) (choices : Stack Contents) (old new : Value Contents) (g : Grown texts old new) (p : Place) (behind : List Branch) where
  pub placed_grown : (rest : ℕ) → Placed texts choices old rest p behind → Placed texts choices new rest p behind
  placed_grown rest place = (
    record {
      continuation = continuation_grown (IsBranch texts) (term_in texts) choices old new g rest p.rest p.state place.0.continuation;
      height = place.0.height;
    },
    place.1,
  )

  pub selected_grown : (height rest : ℕ) → Selected texts choices old height rest p behind → Selected texts choices new height rest p behind
  selected_grown height rest s = record {
    place = (placed_grown rest (s.place, s.waiting)).0;
    within = s.within;
    goes_back = s.goes_back;
    fits = subst (Fits height) (sym (g.lists.same rest s.place.continuation.there)) s.fits;
    waiting = s.waiting;
  }

-- an engine that comes back does so from any world
pub back_from_any : (texts : List Text) (choices : Stack Contents) (now later : Value Contents) (p : Place) (behind : List Branch) (reply : Reply)
    → Leads texts choices now None p behind reply → Leads texts choices later None p behind reply
back_from_any texts choices now later p behind reply l = record {
  made = l.made;
  row = l.row;
  database = l.database;
  output = l.output;
  comes = λ steps s d e. (let k = l.comes steps s d e in
      record {
        reached = k.reached;
        quiet = k.quiet;
        stands = record {
          database = k.stands.database;
          selected = k.stands.selected;
          first = k.stands.first;
          behind = k.stands.behind;
          branches = k.stands.branches;
          current = k.stands.current;
          waiting = k.stands.waiting;
        };
      });
}

-- ---- a branch that is pruned

pub grown_if : (texts : List Text) (old mid : Value Contents) (later : Contents) (lists : List (List Cell)) (b : Begun) → Grown texts old mid → IfPruned b (later ≡ mid.0) → KeepsLists mid.1 lists
    → IfPruned b (Grown texts old (later, lists))
grown_if texts old mid later lists (Goes k) g e keeps = tt
grown_if texts old mid later lists Pruned g e keeps = grown_still texts old mid later lists g e keeps

-- what holds holds after an error
pub after_error : {A E : Type 0} (P : Type 0) (result : Result A E) → P → OnErr result P
after_error P (Ok x) p = tt
after_error P (Err e) p = p
