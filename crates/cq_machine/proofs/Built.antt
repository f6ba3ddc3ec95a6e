-- What a machine stands for while terms are built and goals put in front.
use Rattle.std.proofs.Common.{◌≡◌, ◌<◌, ℕ, List, [], ◌∷◌, ◌++◌, length, length-append, Some, true, refl, sym, ap, subst, ◌∙◌, arith}
use Rattle.std.proofs.lemmas.List.{get_or_push}
use Rattle.spec_numbers.specs.Texts.{Text}
use Rattle.spec_terms.specs.Term.{more}
use Rattle.spec_syntax.specs.Trees.{Tree}
use Rattle.spec_builtins.specs.Kinds.{is_callable}
use Rattle.spec_branch.specs.Branch.{State, Branch, read}
use Rattle.spec_search.specs.Control.{put}
use Rattle.spec_search.specs.Replies.{Place, goes_on}
use Rattle.cq_control.specs.Items.{items_at}
use Rattle.cq_resolve.specs.Database.{Program, as_database}
use Rattle.cq_write.specs.Meaning.{operators}
use Rattle.cq_settle.specs.Contents.{Contents}
use Rattle.spec_engine.specs.declared.machine.cell.Cell.{Cell}
use Rattle.spec_engine.specs.declared.machine.cell.Cell.TheVariants.{Goal}
use Rattle.spec_engine.specs.Cells.{Fits, Value, Stack, below}
use Rattle.spec_engine.specs.Standing.{engine, AreItems, IsStanding}
use Rattle.cq_branch.specs.Lists.{HasCells, KeepsLists, put_cell}
use Rattle.cq_branch.specs.declared.alternatives.Alternatives.{Alternatives}
use Rattle.cq_branch.specs.Worlds.{IsBranch, term_in, stack, ReadsAs, Selected, Leads, Grown}
use Rattle.cq_branch.proofs.Branches.{branches_rest}
use Rattle.cq_branch.proofs.Control.{put_items, built, goes_on_with}
use Rattle.cq_branch.proofs.Selected.{continuation_grown, standing_grown}
use Rattle.cq_machine.specs.declared.machine.Machine.{Machine}
use Rattle.cq_machine.specs.Machines.{now, saved, holds, HasBuilt, HasSameProgram, StillStands}
use Rattle.cq_machine.specs.Stepping.{IsSelectedAt}

-- a goal that was selected stands so where more was built
pub selected_grown : (texts : List Text) (choices : Stack Contents) (old new : Value Contents) (height rest : ℕ) (p : Place) (behind : List Branch) → Grown texts old new
    → Selected texts choices old height rest p behind → Selected texts choices new height rest p behind
selected_grown texts choices old new height rest p behind g s = record {
  place = record {
    continuation = continuation_grown (IsBranch texts) (term_in texts) choices old new g rest p.rest p.state s.place.continuation;
    height = s.place.height;
  };
  within = s.within;
  goes_back = s.goes_back;
  fits = subst (Fits height) (sym (g.lists.same rest s.place.continuation.there)) s.fits;
  waiting = s.waiting;
}

-- a goal in front
pub put_leads : (texts : List Text) (w : Contents) (old new : List (List Cell)) (height rest : ℕ) (p : Place) (behind : List Branch) (choices : Stack Contents)
    → Selected texts choices (w, old) height rest p behind → (k id : ℕ) (g : Tree) → HasCells new k (Goal id height ∷ items_at old rest) → is_callable g ≡ true
    → ReadsAs texts w p.state id g → Leads texts choices (w, new) (Some k) p behind (goes_on p (put g p.cut ∷ p.rest))
put_leads texts w old new height rest p behind choices s k id g h callable r =
    subst (λ n. Leads texts choices (w, new) (Some k) p behind (goes_on p (put g n ∷ p.rest))) (sym s.goes_back)
    (goes_on_with (IsBranch texts) (term_in texts) (branches_rest texts) choices (w, new) k p behind (put g (below choices height) ∷ p.rest)
    (built (IsBranch texts) (term_in texts) choices w new k (Goal id height ∷ items_at old rest) (put g (below choices height) ∷ p.rest) p.state h.there h.are (s.within, s.fits)
    s.place.continuation.state
    (subst (λ b. AreItems (IsBranch texts) (term_in texts) choices w p.state (put_cell b id height ∷ items_at old rest) (put g (below choices height) ∷ p.rest)) callable
    (put_items (IsBranch texts) (term_in texts) choices w p.state id height g (items_at old rest) p.rest r s.place.continuation.cells)))
    s.waiting)

-- a continuation that came last
pub last_cells : (old new : List (List Cell)) (k : ℕ) (cells : List Cell) → k ≡ length old → new ≡ old ++ cells ∷ [] → HasCells new k cells
last_cells old new k cells e n = record {
  there = omega (arith, e, ap length n, length-append old (cells ∷ []));
  are = ap (λ l. items_at l k) n ∙ get_or_push old cells [] k (sym e);
}

-- nothing was added
pub lists_same : (lists : List (List Cell)) → KeepsLists lists lists
lists_same lists = record { more = omega arith; same = λ k l. refl }

-- ---- a machine that has built terms

-- a goal that was selected still is
pub selected_on : (old new : Machine) (id height rest : ℕ) (p : Place) (behind : List Branch) (g : Tree) → HasBuilt old new → IsSelectedAt old id height rest p behind g
    → IsSelectedAt new id height rest p behind g
selected_on old new id height rest p behind g b s = record {
  selected = subst (λ (a : List Text). Selected a (stack a new.clauses (saved new) new.choices) (now new) height rest p behind) (sym b.program.atoms)
      (subst (λ (v : Program). Selected old.atoms (stack old.atoms v (saved new) new.choices) (now new) height rest p behind) (sym b.program.clauses)
      (subst (λ (l : List (Value Contents)). Selected old.atoms (stack old.atoms old.clauses l new.choices) (now new) height rest p behind) (sym b.saved)
      (subst (λ (c : List Alternatives). Selected old.atoms (stack old.atoms old.clauses (saved old) c) (now new) height rest p behind) (sym b.choices)
      (selected_grown old.atoms (holds old) (now old) (now new) height rest p behind b.grown s.selected))));
  reads = subst (λ (a : List Text). ReadsAs a (now new).0 p.state id g) (sym b.program.atoms) (b.grown.terms id g s.reads.0, s.reads.1);
  database = s.database ∙ sym (λ i. as_database (b.program.atoms i) (operators (b.program.atoms i) (b.program.ops i)) (b.program.clauses i));
}

-- where more was built beside the same choices, it stands for what it stood for
pub stands_still : (old new : Machine) → HasSameProgram old new → new.choices ≡ old.choices → saved new ≡ saved old → Grown old.atoms (now old) (now new) → StillStands old new
stands_still old new same choices marks g = λ db n current s j.
    subst (λ (a : List Text). IsStanding (IsBranch a) (term_in a) (engine db n (stack a new.clauses (saved new) new.choices) (now new) current) s) (sym same.atoms)
    (subst (λ (v : Program). IsStanding (IsBranch old.atoms) (term_in old.atoms) (engine db n (stack old.atoms v (saved new) new.choices) (now new) current) s) (sym same.clauses)
    (subst (λ (l : List (Value Contents)). IsStanding (IsBranch old.atoms) (term_in old.atoms) (engine db n (stack old.atoms old.clauses l new.choices) (now new) current) s) (sym marks)
    (subst (λ (c : List Alternatives). IsStanding (IsBranch old.atoms) (term_in old.atoms) (engine db n (stack old.atoms old.clauses (saved old) c) (now new) current) s) (sym choices)
    (standing_grown (IsBranch old.atoms) (term_in old.atoms) db n (holds old) (now old) (now new) g current s j))))

pub stands_on : (old new : Machine) → HasBuilt old new → StillStands old new
stands_on old new b = stands_still old new b.program b.choices b.saved b.grown

-- and what stands for it then
pub stands_then : (old mid new : Machine) → StillStands old mid → StillStands mid new → StillStands old new
stands_then old mid new f g = λ db n current s j. g db n current s (f db n current s j)

-- what was read is read on
pub reads_on : (old new : Machine) (st : State) (id : ℕ) (t : Tree) → HasBuilt old new → ReadsAs old.atoms (now old).0 st id t → ReadsAs new.atoms (now new).0 st id t
reads_on old new st id t b r = subst (λ (a : List Text). ReadsAs a (now new).0 st id t) (sym b.program.atoms) (b.grown.terms id t r.0, r.1)
