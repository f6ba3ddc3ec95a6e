use Rattle.std.proofs.Common.{◌≡◌, ◌<◌, ◌+◌, ◌∙◌, [], ◌∷◌, ◌++◌, ℕ, List, refl, ap, subst, sym, length, take, get_or, arith}
use Rattle.std.specs.Prelude.{All, Contains}
use Rattle.std.proofs.lemmas.List.{take_more}
use Rattle.spec_terms.specs.Term.{Var}
use Rattle.cq_attr.specs.Attributes.{numbers}
use Rattle.cq_frac.specs.declared.VarId.{VarId}
use Rattle.cq_term.specs.HeapValue.{Terms}
use Rattle.cq_term.specs.Meaning.{at}
use Rattle.cq_term.specs.Shown.{view_of}
use Rattle.cq_term.specs.Places.{numbers_of}
use Rattle.cq_settle.specs.declared.world.World.{World}
use Rattle.cq_settle.specs.Settled.{KeepsMarks}
use Rattle.cq_settle.specs.Steps.{Follows}
use Rattle.cq_settle.proofs.Joined.{numbers_behind}
use Rattle.cq_settle.proofs.Marks.{marks_same, marks_more}
use Rattle.cq_settle.proofs.Shown.{as_variable}
use Rattle.cq_settle.proofs.Watch.{woken_wait, follows_none, follows_value, follows_variable}
use Rattle.cq_settle.proofs.joining.follow.Goals as goal
use Rattle.cq_settle.proofs.joining.follow.Goals.{in-Var+in_ok-woken+in_ok-watch_all, in_default}

pub loop-variable-init : goal.loop-variable-init
loop-variable-init c = record {
  follows = follows_none c.args.world.now.heap.now.images c.args.world.now.attrs.now;
  heap = refl;
  told = refl;
  marks = marks_same c.args.world.now;
}

pub watch_all-requires : goal.watch_all-requires
watch_all-requires c =
    subst (λ (ns : List ℕ). All (λ n. Contains (numbers c.loop-variable.world.attrs.now.waiting) n) ns) (sym c.deref.ensures.value)
    (woken_wait c.loop-variable.world.attrs.now _ c.in_ok-woken.woken.items c.in_ok-woken.ensures.woken)

pub loop-variable-preserved : goal.loop-variable-preserved
loop-variable-preserved c =
    let d : VarId = record { 0 = 0 } in
    let i = c.loop-variable.variable-index in
    let old = c.args.world.now in
    let vs = c.args.newly.now in
    let l = c.loop-variable in
    let here : i < length vs = omega (arith, c.loop-variable-test.true) in
    let v = get_or vs i d in
    let ones : numbers_of (take i vs) ++ v.0 ∷ [] ≡ numbers_of (take (i + 1) vs) = sym (ap numbers_of (take_more vs i d here) ∙ numbers_behind (take i vs) (v ∷ [])) in
    elim c.match-view.branch [
      | in-Var+in_ok-woken+in_ok-watch_all w ↦ (
          let shows : at old.heap.now.images v.0 ≡ Var w.in-Var.image.0 =
          ap (λ (h : Terms). at h.images v.0) (sym l.invariant.heap)
          ∙ as_variable l.world.heap.now.images l.world.heap.now.terms v.0 c.var_term.result c.var_term.ensures.term w.in-Var.image w.in-Var.ensures.view in
          record {
            follows = subst (λ (ns : List ℕ). Follows old.heap.now.images ns old.attrs.now c.match-view.world.attrs.now) ones
                (subst (λ (x : World). Follows old.heap.now.images (numbers_of (take i vs) ++ v.0 ∷ []) old.attrs.now x.attrs.now) (sym w.world-is)
                (follows_variable old.heap.now.images (numbers_of (take i vs)) v.0 old.attrs.now l.world.attrs.now w.watch_all.new.attrs.now l.invariant.follows
                w.in-Var.image.0 shows w.deref.result.now
                (λ n h. subst (λ (ns : List ℕ). Contains ns n) (sym w.deref.ensures.value) (w.in_ok-woken.ensures.all n h)) w.in_ok-watch_all.ensures.watch));
            heap = ap (λ (x : World). x.heap.now) w.world-is ∙ l.invariant.heap;
            told = ap (λ (x : World). x.store.told) w.world-is ∙ l.invariant.told;
            marks = subst (KeepsMarks old) (sym w.world-is) (marks_more old l.world _ l.invariant.marks refl (omega arith) w.watch_all.ensures.saved w.watch_all.ensures.room refl (omega arith) refl);
          })
      | in_default w ↦ record {
        follows = subst (λ (ns : List ℕ). Follows old.heap.now.images ns old.attrs.now c.match-view.world.attrs.now) ones
            (subst (λ (x : World). Follows old.heap.now.images (numbers_of (take i vs) ++ v.0 ∷ []) old.attrs.now x.attrs.now) (sym w.world-is)
            (follows_value old.heap.now.images (numbers_of (take i vs)) v.0 old.attrs.now l.world.attrs.now l.world.attrs.now l.invariant.follows
            (λ x e. w.in_default.not-Var (record { 0 = x })
            (c.view.ensures.view ∙ ap view_of (c.var_term.ensures.term ∙ ap (λ (h : Terms). at h.images v.0) l.invariant.heap ∙ e)))));
        heap = ap (λ (x : World). x.heap.now) w.world-is ∙ l.invariant.heap;
        told = ap (λ (x : World). x.store.told) w.world-is ∙ l.invariant.told;
        marks = subst (KeepsMarks old) (sym w.world-is) l.invariant.marks;
      }
    ]
