use Rattle.std.proofs.Common.{◌≡◌, ◌<◌, ◌≤◌, ◌+◌, ◌∙◌, ℕ, List, ◌||◌, refl, ap, subst, sym, length, map, take, get_or, true, false, arith, Err, Vec, Global}
use Rattle.std.specs.Prelude.{Contains}
use Rattle.std.proofs.lemmas.Bool.Decides.{when_true, when_false}
use Rattle.std.proofs.lemmas.List.{take_all}
use Rattle.spec_linear.specs.Solution.{Constraint}
use Rattle.spec_terms.specs.Term.{Var}
use Rattle.cq_attr.specs.Attributes.{is_numeric}
use Rattle.cq_frac.specs.declared.VarId.{VarId}
use Rattle.cq_store.proofs.Passed.{passed, store_spent}
use Rattle.cq_term.specs.HeapValue.{Terms}
use Rattle.cq_term.specs.Meaning.{at}
use Rattle.cq_term.specs.Places.{numbers_of}
use Rattle.cq_settle.specs.Worlds.{now_of}
use Rattle.cq_settle.specs.declared.world.World.{World}
use Rattle.cq_settle.specs.Settled.{KeepsMarks}
use Rattle.cq_settle.specs.Steps.{HaveJoined, StopsAt, CannotJoin, Refuses, Takes, equation_at, equations_of, numeric_ones, is_image_of}
use Rattle.cq_settle.proofs.Equated.{ones_same, numeric_here, equation_joins, equation_stops, numeric_next, images_next, unbound_next}
use Rattle.cq_settle.proofs.Joined.{joins_nothing}
use Rattle.cq_settle.proofs.Marks.{marks_same, marks_more, marks_then}
use Rattle.cq_settle.proofs.Shown.{or_nothing}
use Rattle.cq_settle.proofs.joining.join_equations.Goals as goal
use Rattle.cq_settle.proofs.joining.join_equations.Goals.{After-join, then-is_numeric+in_ok-equation+in_ok-join+else-not-branch, else-is_numeric}

pub loop-variable-init : goal.loop-variable-init
loop-variable-init c = record {
  joined = joins_nothing c.args.world.now.store.told c.args.fixed.now.items;
  numeric = λ v. or_nothing (is_numeric c.args.world.now.attrs.now v);
  images = λ v e. cc;
  unbound = λ v e. cc;
  waiting = refl;
  heap = refl;
  marks = marks_same c.args.world.now;
}

-- what stops the equation stops them all
stops : (c : After-join) (P : List Constraint → Constraint → Type 0) → P c.equation_of.new.world.store.told c.in_ok-equation.equation
    → StopsAt P c.args.world.now.store.told (equations_of (now_of c.args.world.now) c.args.newly.now)
stops c =
    let i = c.loop-variable.variable-index in
    let old = c.args.world.now in
    let l = c.loop-variable in
    let here : i < length c.args.newly.now = omega (arith, c.loop-variable-test.true) in
    equation_stops (now_of old) c.args.newly.now i (record { 0 = 0 }) here
    (numeric_here (now_of old) c.args.newly.now i (record { 0 = 0 }) here l.world.attrs.now l.invariant.numeric l.invariant.unbound c.requires.bound true c.if-is_numeric.ensures)
    l.world.store.told c.equation_of.new.world.store.told c.in_ok-equation.equation c.args.fixed.now.items l.fixed.items l.invariant.joined c.equation_of.ensures.told
    (c.in_ok-equation.ensures.equation ∙ ap (λ (h : Terms). equation_at h.images (get_or c.args.newly.now i (record { 0 = 0 })).0) l.invariant.heap)

pub returns-in_err-join-clause-overflow : goal.returns-in_err-join-clause-overflow
returns-in_err-join-clause-overflow c = λ pair e.
    stops (goal.at.returns-in_err-join-clause-overflow c).After-join (Refuses pair)
    (c.in_err-join.ensures.overflow pair (ap Err (passed c.from_residual-in_err-join.result c.in_err-join.field-0.0 pair c.from_residual-in_err-join.ensures.1 e)))

pub returns-in_err-join-clause-pivots : goal.returns-in_err-join-clause-pivots
returns-in_err-join-clause-pivots c = λ n e.
    let o = c.in_err-join.ensures.pivots n (ap Err (store_spent c.from_residual-in_err-join.result c.in_err-join.field-0.0 n c.from_residual-in_err-join.ensures.1 e)) in (
      o.0 ∙ c.equation_of.ensures.marks.pivots ∙ c.loop-variable.invariant.marks.pivots,
      stops (goal.at.returns-in_err-join-clause-pivots c).After-join (Takes n) o.1,
    )

pub returns-then-not-branch-clause-joined : goal.returns-then-not-branch-clause-joined
returns-then-not-branch-clause-joined c =
    stops (goal.at.returns-then-not-branch-clause-joined c).After-join CannotJoin (when_false _ _ c.if-not-branch.true c.in_ok-join.ensures.joined)

pub loop-variable-preserved : goal.loop-variable-preserved
loop-variable-preserved c =
    let d : VarId = record { 0 = 0 } in
    let i = c.loop-variable.variable-index in
    let old = c.args.world.now in
    let vs = c.args.newly.now in
    let l = c.loop-variable in
    let here : i < length vs = omega (arith, c.loop-variable-test.true) in
    let v = get_or vs i d in
    let numeric_so = numeric_here (now_of old) vs i d here l.world.attrs.now l.invariant.numeric l.invariant.unbound c.requires.bound in
    elim c.if-is_numeric.branch [
      | then-is_numeric+in_ok-equation+in_ok-join+else-not-branch w ↦ (
          let numeric = numeric_so true w.if-is_numeric.ensures in
          let told : c.if-is_numeric.world.store.told ≡ w.join.new.store.told = ap (λ (x : World). x.store.told) w.world-is in
          let items : c.if-is_numeric.fixed.items ≡ w.join.new.fixed.items = ap (λ (f : Vec VarId Global). f.items) w.fixed-is in
          let ahead = λ (x : ℕ) (h : Contains (numbers_of w.equation_of.new.fixed.items) x).
          let k = when_true _ _ w.if-not-branch.false w.in_ok-join.ensures.joined in k.still x h in
          record {
            joined = subst (λ (t : List Constraint). HaveJoined old.store.told (equations_of (now_of old) (take (i + 1) vs)) t c.args.fixed.now.items c.if-is_numeric.fixed.items) (sym told)
                (subst (λ (xs : List VarId). HaveJoined old.store.told (equations_of (now_of old) (take (i + 1) vs)) w.join.new.store.told c.args.fixed.now.items xs) (sym items)
                (equation_joins (now_of old) vs i d here numeric l.world.store.told w.equation_of.new.world.store.told w.in_ok-equation.equation
                c.args.fixed.now.items l.fixed.items l.invariant.joined w.equation_of.ensures.told
                (w.in_ok-equation.ensures.equation ∙ ap (λ (h : Terms). equation_at h.images v.0) l.invariant.heap)
                w.join.new.store.told w.equation_of.new.fixed.items w.join.new.fixed.items w.equation_of.ensures.still
                (when_true _ _ w.if-not-branch.false w.in_ok-join.ensures.joined)));
            numeric = subst (λ (x : World). (y : ℕ) → is_numeric x.attrs.now y ≡ (is_numeric old.attrs.now y || is_image_of old.heap.now.images (numeric_ones old.attrs.now (take (i + 1) vs)) y)) (sym w.world-is)
                (numeric_next (now_of old) vs i d here numeric l.world.heap.now l.invariant.heap l.world.attrs.now w.equation_of.new.world.attrs.now l.invariant.numeric w.in_ok-equation.ensures.numeric);
            images = subst (λ (xs : List VarId). (y : ℕ) → is_image_of old.heap.now.images (numeric_ones old.attrs.now (take (i + 1) vs)) y ≡ true → Contains (numbers_of xs) y) (sym items)
                (images_next (now_of old) vs i d here numeric l.world.heap.now l.invariant.heap (λ y. Contains (numbers_of w.join.new.fixed.items) y)
                (λ y h. ahead y (w.equation_of.ensures.still y (l.invariant.images y h))) (λ y h. ahead y (w.in_ok-equation.ensures.images y h)));
            unbound = unbound_next (now_of old) vs i d here numeric l.world.heap.now l.invariant.heap l.invariant.unbound w.in_ok-equation.ensures.unbound;
            waiting = ap (λ (x : World). x.attrs.now.waiting) w.world-is ∙ w.equation_of.ensures.waiting ∙ l.invariant.waiting;
            heap = ap (λ (x : World). x.heap.now) w.world-is ∙ w.equation_of.ensures.heap ∙ l.invariant.heap;
            marks = subst (KeepsMarks old) (sym w.world-is) (marks_more old w.equation_of.new.world _ (marks_then old l.world w.equation_of.new.world l.invariant.marks w.equation_of.ensures.marks)
                refl (omega arith) refl (omega arith) w.join.ensures.saved w.join.ensures.room w.join.ensures.budget);
          })
      | else-is_numeric w ↦ (
          let ones = ones_same (now_of old) vs i d here (numeric_so false w.if-is_numeric.ensures) in
          let items : c.if-is_numeric.fixed.items ≡ l.fixed.items = ap (λ (f : Vec VarId Global). f.items) w.fixed-is in
          record {
            joined = subst (λ (ns : List ℕ). HaveJoined old.store.told (map (equation_at old.heap.now.images) ns) c.if-is_numeric.world.store.told c.args.fixed.now.items c.if-is_numeric.fixed.items) ones
                (subst (λ (x : World). HaveJoined old.store.told (map (equation_at old.heap.now.images) (numeric_ones old.attrs.now (take i vs))) x.store.told c.args.fixed.now.items c.if-is_numeric.fixed.items) (sym w.world-is)
                (subst (λ (xs : List VarId). HaveJoined old.store.told (map (equation_at old.heap.now.images) (numeric_ones old.attrs.now (take i vs))) l.world.store.told c.args.fixed.now.items xs) (sym items) l.invariant.joined));
            numeric = subst (λ (ns : List ℕ). (y : ℕ) → is_numeric c.if-is_numeric.world.attrs.now y ≡ (is_numeric old.attrs.now y || is_image_of old.heap.now.images ns y)) ones
                (subst (λ (x : World). (y : ℕ) → is_numeric x.attrs.now y ≡ (is_numeric old.attrs.now y || is_image_of old.heap.now.images (numeric_ones old.attrs.now (take i vs)) y)) (sym w.world-is) l.invariant.numeric);
            images = subst (λ (ns : List ℕ). (y : ℕ) → is_image_of old.heap.now.images ns y ≡ true → Contains (numbers_of c.if-is_numeric.fixed.items) y) ones
                (subst (λ (xs : List VarId). (y : ℕ) → is_image_of old.heap.now.images (numeric_ones old.attrs.now (take i vs)) y ≡ true → Contains (numbers_of xs) y) (sym items) l.invariant.images);
            unbound = subst (λ (ns : List ℕ). (y : ℕ) → is_image_of old.heap.now.images ns y ≡ true → at old.heap.now.images y ≡ Var y) ones l.invariant.unbound;
            waiting = ap (λ (x : World). x.attrs.now.waiting) w.world-is ∙ l.invariant.waiting;
            heap = ap (λ (x : World). x.heap.now) w.world-is ∙ l.invariant.heap;
            marks = subst (KeepsMarks old) (sym w.world-is) l.invariant.marks;
          })
    ]

pub returns-clause-joined : goal.returns-clause-joined
returns-clause-joined c =
    let all : length c.args.newly.now ≤ c.loop-variable.variable-index = omega (arith, c.loop-variable-test.false) in
    rw (take_all c.loop-variable.variable-index c.args.newly.now all) at c.loop-variable.invariant.joined

pub returns-clause-numeric : goal.returns-clause-numeric
returns-clause-numeric c = λ t.
    let all : length c.args.newly.now ≤ c.loop-variable.variable-index = omega (arith, c.loop-variable-test.false) in
    rw (take_all c.loop-variable.variable-index c.args.newly.now all) at c.loop-variable.invariant.numeric

pub returns-clause-images : goal.returns-clause-images
returns-clause-images c = λ t.
    let all : length c.args.newly.now ≤ c.loop-variable.variable-index = omega (arith, c.loop-variable-test.false) in
    rw (take_all c.loop-variable.variable-index c.args.newly.now all) at c.loop-variable.invariant.images
