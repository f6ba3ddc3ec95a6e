-- What an engine stands for where an alternative is taken, or none is left.
use Rattle.std.proofs.Common.{◌≡◌, ℕ, List, [], ◌∷◌, ◌++◌, map, Option, None, refl, sym, ap, ◌∙◌, subst}
use Rattle.std.specs.Prelude.{OnErr, Ok, Err}
use Rattle.std.specs.declared.result.Result.{Result}
use Rattle.std.specs.List.{AllByRecursion}
use Rattle.spec_numbers.specs.Prefixes.{IsPrefix}
use Rattle.spec_numbers.specs.Texts.{Text}
use Rattle.spec_search.specs.Replies.{alternative_child}
use Rattle.cq_store.specs.declared.store.StoreFault.{StoreFault}
use Rattle.cq_predicates.specs.Given.{over, ways_left}
use Rattle.cq_predicates.specs.declared.solutions.Solutions.{Solutions}
use Rattle.cq_resolve.specs.Database.{Program}
use Rattle.cq_settle.specs.Contents.{Contents}
use Rattle.spec_engine.specs.Cells.{Value}
use Rattle.spec_engine.specs.Standing.{AreWaiting}
use Rattle.spec_engine.specs.Coming.{at_once}
use Rattle.cq_branch.specs.declared.alternatives.Alternatives.{Alternatives}
use Rattle.cq_branch.specs.declared.alternatives.Alternatives.TheVariants as alternatives
use Rattle.cq_branch.specs.Choices.{CanBeTried}
use Rattle.cq_branch.specs.Worlds.{IsBranch, term_in, left_at}
use Rattle.cq_branch.proofs.Arrived.{quietly_on}
use Rattle.cq_branch.proofs.Counted.{open_more}
use Rattle.cq_branch.proofs.Back.{fault_after}
use Rattle.cq_choices.specs.Held.{Held, IsOver, StaysOver, AreNamedByTerms, open_of}
use Rattle.cq_choices.specs.Trying.{IsSearching, ComesOver, StopsOver}
use Rattle.cq_choices.proofs.Stacked.{program_more, waits_more, back_more}

abbrev pub Open : List Text → Program → List (Value Contents × Alternatives) → Type 0
Open texts v xs = AllByRecursion (λ (c : Value Contents × Alternatives). CanBeTried texts v c.0.0.heap.terms c.1) xs

-- ---- an engine whose choices are these

pub over_with : (old new : Held) (v : Program) → IsOver v old → IsPrefix old.texts new.texts → (xs : List (Value Contents × Alternatives)) → open_of new ≡ xs → Open old.texts v xs
    → IsOver v new
over_with old new v o longer xs e can = record { program = program_more new.texts v old longer o; choices = subst (Open new.texts v) (sym e) (open_more old.texts new.texts longer v xs can) }

-- nothing but names has changed
pub over_same : (old new : Held) (v : Program) → IsOver v old → IsPrefix old.texts new.texts → open_of new ≡ open_of old → IsOver v new
over_same old new v o longer e = over_with old new v o longer (open_of old) e o.choices

pub comes_same : (old new : Held) → AreNamedByTerms (open_of old) → IsPrefix old.texts new.texts → open_of new ≡ open_of old → ComesOver old new None
comes_same old new known longer e v o steps db n s j =
    let k = back_more new.texts v old longer o known db n s j in
    record {
      reached = s;
      quiet = at_once;
      stands = record {
        database = k.database;
        selected = k.selected;
        first = k.first;
        behind = k.behind;
        branches = k.branches;
        current = k.current;
        waiting = subst (λ xs. AreWaiting (IsBranch new.texts) (term_in new.texts) (map (left_at new.texts v) xs) k.behind) (sym e) k.waiting;
      };
    }

-- ---- no alternative is left

module _ (old new : Held) (longer : IsPrefix old.texts new.texts) (start : Value Contents) (s : Solutions) (rest : ℕ) (older : List (Value Contents × Alternatives))
    (was : open_of old ≡ (start, alternatives.Ways s rest) ∷ older) (is : open_of new ≡ older) where
  pub over_ended : StaysOver old new
  over_ended v o = over_with old new v o longer older is (subst (Open old.texts v) was o.choices).1

  pub comes_ended : AreNamedByTerms (open_of old) → ways_left old.texts start.0.heap.terms s ≡ [] → ComesOver old new None
  comes_ended known none v o steps db n t j =
      let texts = old.texts in
      let w = subst (λ xs. AreWaiting (IsBranch texts) (term_in texts) (map (left_at texts v) xs) j.behind) was j.waiting in
      let own : w.0 ≡ [] = w.3.1 ∙ ap (λ ws. map (alternative_child w.3.0) (map (over 0) ws)) none in
      record {
        reached = t;
        quiet = at_once;
        stands = record {
          database = j.database;
          selected = j.selected;
          first = j.first;
          behind = w.1;
          branches = j.branches ∙ ap (λ bs. j.first ++ bs) (w.2 ∙ ap (λ bs. bs ++ w.1) own);
          current = j.current;
          waiting = subst (λ xs. AreWaiting (IsBranch new.texts) (term_in new.texts) (map (left_at new.texts v) xs) w.1) (sym is)
              (waits_more texts new.texts longer v o.program older (subst (Open old.texts v) was o.choices).1 (subst AreNamedByTerms was known).1 w.1 w.4);
        };
      }

-- ---- one thing after another

pub comes_then : (a b c : Held) (current : Option ℕ) → StaysOver a b → ComesOver a b None → ComesOver b c current → ComesOver a c current
comes_then a b c current stays f g v o steps db n s j =
    let x = f v o steps db n s j in
    let y = g v (stays v o) steps db n x.reached x.stands in
    record { reached = y.reached; quiet = quietly_on x.quiet y.quiet; stands = y.stands }

pub stays_then : (a b c : Held) → StaysOver a b → StaysOver b c → StaysOver a c
stays_then a b c f g v o = g v (f v o)

pub stops_then : (a b : Held) (pivots : ℕ) (fault : StoreFault) → StaysOver a b → ComesOver a b None → StopsOver b pivots fault → StopsOver a pivots fault
stops_then a b pivots fault stays f g v o db n s j =
    fault_after pivots pivots fault s refl (λ steps. let r = f v o steps db n s j in (r.reached, r.quiet, r.stands.database ∙ sym j.database, g v (stays v o) db n r.reached r.stands))

-- an engine that comes back stands for some search on
pub works_then : (a b : Held) → StaysOver a b → ComesOver a b None → IsSearching a → IsSearching b
works_then a b stays f w =
    let r = f w.0 w.1 0 w.2 w.3 w.4 w.5 in
    (w.0, stays w.0 w.1, w.2, w.3, r.reached, r.stands)

-- what holds anyway holds after an error
pub on_err : {A E : Type 0} {P : Type 0} (r : Result A E) → P → OnErr r P
on_err (Ok x) p = tt
on_err (Err e) p = p
