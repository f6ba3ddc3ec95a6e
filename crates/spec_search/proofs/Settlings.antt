-- Branches that are the same settle alike, and a ball goes to the same catch.
use Rattle.std.proofs.Common.{◌≡◌, List, [], ◌∷◌, ◌++◌, Option, Some, None, refl, sym, ap, subst, ◌∙◌}
use Rattle.std.specs.List.{cons_option}
use Rattle.spec_linear.specs.Solution.{Constraint, Equivalent}
use Rattle.spec_numbers.specs.Texts.{Text}
use Rattle.spec_terms.specs.Term.{Subst}
use Rattle.spec_terms.specs.Unifier.{IsUnifier, read_under}
use Rattle.spec_syntax.specs.Trees.{Tree}
use Rattle.spec_branch.specs.Branch.{State, Sleeper, Copied, Item, Branch, Pending, Settled, Unsettled, no_work}
use Rattle.spec_branch.specs.Settling.{SleeperState, Sleeps, Wakes, state_of, woken_item, woken, Settles, no_unifier, unified, SettlesUnified, clash, no_solution, kept, Outcome, Kept, Pruned, Why, bindings_after, kept_branch}
use Rattle.spec_branch.specs.Alike.{with_linear}
use Rattle.spec_branch.specs.Alike as alike
use Rattle.spec_linear.proofs.Lists.{alike_sym}
use Rattle.spec_branch.proofs.EachForm.{kept_too, pruned_too}
use Rattle.spec_branch.proofs.Determined.{kept_alike, kept_and_pruned}
use Rattle.spec_builtins.specs.Alternatives.{◌≐◌}
use Rattle.spec_search.specs.Replies.{landed, landed_term}
use Rattle.spec_search.specs.Balls.{handed, caught_branch, last}
use Rattle.spec_search.specs.Runs.{SameState}
use Rattle.spec_search.proofs.Shapes.{Rung, OnBoth, first, IsEnd, whole, behind, ends_in, SameItems, no_item, goal, call, cut, cut_fails, caught, collects, gathered, SameBranch, SameBranches}
use Rattle.spec_search.proofs.Heights.{kept_last}
use Rattle.spec_search.proofs.Landing.{same_landed}
use Rattle.spec_search.proofs.Replies.{Same}

-- ---- woken goals

one_in_front : {t : List Rung} (xs is js : List Item) (x : SleeperState) → SameItems t (xs ++ is) (xs ++ js)
    → SameItems t (cons_option (woken_item x) xs ++ is) (cons_option (woken_item x) xs ++ js)
one_in_front xs is js Sleeps h = h
one_in_front xs is js (Wakes g) h = call g h

woken_in_front : {t : List Rung} {is js : List Item} (s : Subst Text) (ks : List Sleeper) → SameItems t is js
    → SameItems t (woken s ks ++ is) (woken s ks ++ js)
woken_in_front s [] h = h
woken_in_front {is = is} {js = js} s (k ∷ ks) h = one_in_front (woken s ks) is js (state_of s k.asleep) (woken_in_front s ks h)

-- ---- a branch that is kept

-- the branch with other items is kept as well, and the same goals wake
pub record Keeps (is js : List Item) (st : State) (p : Pending) (b : Branch) : Type 0 where
  pub bindings : Subst Text
  pub sleepers : List Sleeper
  pub items : b.items ≡ woken bindings sleepers ++ is
  pub phase : b.phase ≡ Settled
  pub settles : Settles js st p (Kept (record b { items = woken bindings sleepers ++ js }))

module _ (is js : List Item) (st : State) (p : Pending) where
  keeps_with : (u : Subst Text) → IsUnifier (read_under st.bindings p.equations) u → {o : Outcome}
      → SettlesUnified is st p u o → (b : Branch) → o ≡ Kept b → Keeps is js st p b
  keeps_with u h (clash c) b e = cc
  keeps_with u h (no_solution n j x) b e = cc
  keeps_with u h (kept n j s f hf) b e =
      let d : kept_branch is st p u j.linear j.waiting f ≡ b = cc in
      subst (λ (x : Branch). Keeps is js st p x) d
      (record { bindings = bindings_after st p u f; sleepers = st.sleepers; items = refl; phase = refl; settles = unified u h (kept n j s f hf) })

  keeps_from : {o : Outcome} → Settles is st p o → (b : Branch) → o ≡ Kept b → Keeps is js st p b
  keeps_from (no_unifier h) b e = cc
  keeps_from (unified u h k) b e = keeps_with u h k b e

  pub keeps : (b : Branch) → Settles is st p (Kept b) → Keeps is js st p b
  keeps b h = keeps_from h b refl

  pruned_with : (u : Subst Text) → IsUnifier (read_under st.bindings p.equations) u → {o : Outcome}
      → SettlesUnified is st p u o → (why : Why) → o ≡ Pruned why → Settles js st p (Pruned why)
  pruned_with u h (clash c) why e = subst (λ x. Settles js st p x) e (unified u h (clash c))
  pruned_with u h (no_solution n j x) why e = subst (λ y. Settles js st p y) e (unified u h (no_solution n j x))
  pruned_with u h (kept n j s f hf) why e = cc

  pruned_from : {o : Outcome} → Settles is st p o → (why : Why) → o ≡ Pruned why → Settles js st p (Pruned why)
  pruned_from (no_unifier h) why e = subst (λ x. Settles js st p x) e (no_unifier h)
  pruned_from (unified u h k) why e = pruned_with u h k why e

  -- the branch with other items is pruned as well
  prunes : (why : Why) → Settles is st p (Pruned why) → Settles js st p (Pruned why)
  prunes why h = pruned_from h why refl

same_states : (x y : State) → x.bindings ≡ y.bindings → x.delayed ≡ y.delayed → x.numeric ≡ y.numeric
    → x.sleepers ≡ y.sleepers → x.next_sleeper ≡ y.next_sleeper → x.fresh ≡ y.fresh → with_linear y.linear x ≡ y
same_states x y b d n s k f = λ i. record {
  bindings = b i;
  linear = y.linear;
  delayed = d i;
  numeric = n i;
  sleepers = s i;
  next_sleeper = k i;
  fresh = f i;
}

module _ (t : List Rung) (is js : List Item) (items : SameItems t is js) (st su : State) (state : SameState st su) (p : Pending) where
  pub kept_same : (b c : Branch) → Settles is st p (Kept b) → Settles js su p (Kept c) → SameBranch t b c
  kept_same b c h k =
      let m = keeps is js st p b h in
      let w = woken m.bindings m.sleepers in
      let n : alike.SameBranch (record b { items = w ++ js }) c =
      kept_alike js st su.linear state.linear p (record b { items = w ++ js }) c m.settles (subst (λ (x : State). Settles js x p (Kept c)) state.state k) in
      record {
        items = subst (λ (xs : List Item). SameItems t xs c.items) (sym m.items) (subst (λ (ys : List Item). SameItems t (w ++ is) ys) n.items (woken_in_front m.bindings m.sleepers items));
        state = record {
          state = sym (same_states b.state c.state n.bindings n.delayed n.numeric n.sleepers n.next_sleeper n.fresh);
          linear = n.linear;
        };
        phase = n.phase;
      }

  pub kept_first : (b : Branch) (why : Why) → Settles is st p (Kept b) → Settles js su p (Pruned why) → ⊥
  kept_first b why h k =
      let m = keeps is js st p b h in
      kept_and_pruned js st su.linear state.linear p (record b { items = woken m.bindings m.sleepers ++ js }) why m.settles
      (subst (λ (x : State). Settles js x p (Pruned why)) state.state k)

  pub kept_second : (c : Branch) (why : Why) → Settles is st p (Pruned why) → Settles js su p (Kept c) → ⊥
  kept_second c why h k =
      let m = keeps js is su p c k in
      let back : su ≡ with_linear su.linear st = state.state in
      let there : st ≡ with_linear st.linear su = ap (λ (x : State). with_linear st.linear x) (sym back) in
      kept_and_pruned is su st.linear (alike_sym st.linear su.linear state.linear) p (record c { items = woken m.bindings m.sleepers ++ is }) why m.settles
      (subst (λ (x : State). Settles is x p (Pruned why)) there h)

-- ---- settling in the other search as well

module _ (is js : List Item) (st su : State) (state : SameState st su) (p : Pending) where
  -- the first state, from the second
  back : st ≡ with_linear st.linear su
  back = ap (λ (x : State). with_linear st.linear x) (sym state.state)

  alike_there : Equivalent su.linear st.linear
  alike_there = alike_sym st.linear su.linear state.linear

  pub keeps_too : (c : Branch) → Settles js su p (Kept c) → (b : Branch) × Settles is st p (Kept b)
  keeps_too c h =
      let m = keeps js is su p c h in
      let n = kept_too is su st.linear alike_there p (record c { items = woken m.bindings m.sleepers ++ is }) m.settles in
      (n.0, subst (λ (x : State). Settles is x p (Kept n.0)) (sym back) n.1)

  pub prunes_too : (why : Why) → Settles js su p (Pruned why) → (other : Why) × Settles is st p (Pruned other)
  prunes_too why h =
      let n = pruned_too is su st.linear alike_there p why (prunes js is su p why h) in
      (n.0, subst (λ (x : State). Settles is x p (Pruned n.0)) (sym back) n.1)

-- ---- balls

pub data SameHanded : Option (List Branch) → Option (List Branch) → Type 0 where
  neither : SameHanded None None
  handed_on : {bs cs : List Branch} → Same bs cs → SameHanded (Some bs) (Some cs)

caught_same : {r : List Rung} {is js : List Item} {st su : State} (ball : Copied) (c g : Tree) → SameItems r is js
    → SameState st su → SameBranch r (caught_branch ball st c g is) (caught_branch ball su c g js)
caught_same {r} {is} {js} {st} {su} ball c g i h =
    subst (λ (x : State). SameBranch r (caught_branch ball st c g is) (caught_branch ball x c g js)) (sym h.state)
    (let other : State = with_linear su.linear st in
    let x = same_landed st other (record { state = refl; linear = h.linear }) (ball ∷ []) in
    let e = c ≐ landed_term st ball in
    record {
      items = call g i;
      state = x.state;
      phase = ap (λ (rs : List Constraint). Unsettled (record no_work { equations = e ∷ []; rows = rs; told = (landed st (ball ∷ [])).told; ball = Some ball })) x.rows ∙ ap (λ (ts : List Tree). Unsettled (record no_work { equations = e ∷ []; rows = (landed other (ball ∷ [])).rows; told = ts; ball = Some ball })) x.told;
    })

pub handed_same : (ball : Copied) {r s : List Rung} {is js : List Item} → SameItems r is js → IsEnd r s
    → (bs cs : List Branch) → SameBranches s bs cs → SameHanded (handed ball is bs) (handed ball js cs)
handed_same ball no_item e bs cs x = neither
handed_same ball (goal t a h k i) e bs cs x = handed_same ball i (ends_in a e) bs cs x
handed_same ball (call t i) e bs cs x = handed_same ball i e bs cs x
handed_same ball (cut a h k i) e bs cs x = handed_same ball i (ends_in a e) bs cs x
handed_same ball (cut_fails a h k i) e bs cs x = handed_same ball i (ends_in a e) bs cs x
handed_same ball (caught {r = r} {k = m} c g a h k j i) e bs cs x =
    handed_on (record {
      shape = OnBoth ∷ r;
      branches = (
        caught_same ball c g i j,
        subst (λ n. SameBranches r (last n bs) (last m cs)) (sym h) (subst (λ n. SameBranches r (last (first r) bs) (last n cs)) (sym k) (kept_last (ends_in a e) bs cs x)),
      );
    })
handed_same ball (collects {r = r} t a h k i) e bs cs x = handed_same ball i (ends_in (behind whole) (ends_in a e)) bs cs x
handed_same ball (gathered t ds i) e bs cs x = handed_same ball i e bs cs x
