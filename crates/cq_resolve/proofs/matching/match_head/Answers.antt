use Rattle.std.proofs.Common.{◌≡◌, ◌∙◌, ◌++◌, ◌∷◌, [], List, ℕ, map, ap, sym, subst, arith}
use Rattle.std.specs.Prelude.{All}
use Rattle.cq_frac.specs.declared.VarId.{VarId}
use Rattle.cq_term.specs.HeapValue.{HeapValue}
use Rattle.cq_term.specs.Names.{HasNamesBelow}
use Rattle.cq_term.specs.declared.view.View.{View}
use Rattle.cq_resolve.specs.Marks.{shown}
use Rattle.cq_resolve.specs.Matching.{Call, Walked}
use Rattle.cq_resolve.proofs.matching.match_head.Goals as goal

-- the match begins with the goal alone, on an empty list that the heap gave
begun_with : (k : Call) (head : List View) (first : ℕ) (old now : HeapValue) (newly : List VarId) (id : ℕ) (goals pushed : List ℕ) → now ≡ old → goals ≡ [] → pushed ≡ goals ++ id ∷ [] →
    Walked k head first old.now newly 0 0 (id ∷ []) → Walked k head first now.now newly 0 0 pushed
begun_with k head first old now newly id goals pushed same empty on m =
    subst (Walked k head first now.now newly 0 0) (sym (on ∙ ap (λ (gs : List ℕ). gs ++ id ∷ []) empty)) (subst (λ (h : HeapValue). Walked k head first h.now newly 0 0 (id ∷ [])) (sym same) m)

pub match_from-requires-clause-walk : goal.match_from-requires-clause-walk
match_from-requires-clause-walk c = (
  c.requires.walk.0,
  begun_with c.requires.walk.0 (map shown c.args.head.now) c.args.first c.args.heap.now c.spare_list-goals.new.self c.args.newly.now c.args.goal c.spare_list-goals.result.items c.push.new.self.items
      c.spare_list-goals.ensures.same c.spare_list-goals.ensures.empty c.in_ok-push.ensures.items c.requires.walk.1,
)

pub match_from-requires-clause-met : goal.match_from-requires-clause-met
match_from-requires-clause-met c = c.requires.marks.met

pub match_from-requires-clause-sized : goal.match_from-requires-clause-sized
match_from-requires-clause-sized c = c.requires.marks.sized

pub returns-clause-matched : goal.returns-clause-matched
returns-clause-matched c = λ e k m.
    let h = c.in_ok-matched.ensures.matched e k
    (begun_with k (map shown c.args.head.now) c.args.first c.args.heap.now c.spare_list-goals.new.self c.args.newly.now c.args.goal c.spare_list-goals.result.items c.push.new.self.items
    c.spare_list-goals.ensures.same c.spare_list-goals.ensures.empty c.in_ok-push.ensures.items m) in
    (h.0, h.1, subst (λ (v : HeapValue). Walked k (map shown c.args.head.now) c.args.first v.now c.match_from.new.newly h.0 h.1 []) (sym c.keep_list.ensures) h.2)

pub returns-clause-none : goal.returns-clause-none
returns-clause-none c = λ e k m.
    c.in_ok-matched.ensures.none e k
    (begun_with k (map shown c.args.head.now) c.args.first c.args.heap.now c.spare_list-goals.new.self c.args.newly.now c.args.goal c.spare_list-goals.result.items c.push.new.self.items
    c.spare_list-goals.ensures.same c.spare_list-goals.ensures.empty c.in_ok-push.ensures.items m)

pub returns-clause-names : goal.returns-clause-names
returns-clause-names c = λ n head all.
    subst (λ (v : HeapValue). All (HasNamesBelow n) v.now.terms) (sym c.keep_list.ensures)
    (c.in_ok-matched.ensures.names n head (subst (λ (v : HeapValue). All (HasNamesBelow n) v.now.terms) (sym c.spare_list-goals.ensures.same) all))

pub returns-clause-saved : goal.returns-clause-saved
returns-clause-saved c = ap (λ (v : HeapValue). v.saved) c.keep_list.ensures ∙ c.match_from.ensures.saved ∙ ap (λ (v : HeapValue). v.saved) c.spare_list-goals.ensures.same

pub returns-clause-room : goal.returns-clause-room
returns-clause-room c = omega (arith, c.match_from.ensures.room, ap (λ (v : HeapValue). v.room) c.keep_list.ensures, ap (λ (v : HeapValue). v.room) c.spare_list-goals.ensures.same)

pub returns-in_err-matched-clause-saved : goal.returns-in_err-matched-clause-saved
returns-in_err-matched-clause-saved c = c.match_from.ensures.saved ∙ ap (λ (v : HeapValue). v.saved) c.spare_list-goals.ensures.same

pub returns-in_err-matched-clause-room : goal.returns-in_err-matched-clause-room
returns-in_err-matched-clause-room c = omega (arith, c.match_from.ensures.room, ap (λ (v : HeapValue). v.room) c.spare_list-goals.ensures.same)
