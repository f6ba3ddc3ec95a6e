use Rattle.std.proofs.Common.{rules, ◌++◌, Err, ap, sym, subst, ◌∙◌, ◌≡◌, append_assoc}
use Rattle.std.specs.Prelude.{IfOk}
use Rattle.spec_linear.specs.Solution.{Solvable}
use Rattle.spec_linear.proofs.Denominators.{has_left, has_right}
use Rattle.cq_store.proofs.Passed.{passed, store_spent}
use Rattle.cq_project.specs.Sifting.{SiftsBeside, RefusesSifting, SpendsSifting, SiftsBehind, IsToldWith}
use Rattle.cq_project.proofs.Parts.{solvable_with, solvable_turned, sublist_back, sublist_all, of_front, of_part, refuses_in, spends_in, sublist_front, of_back, none_told}
use Rattle.cq_store.specs.StoreValue.{Kept, kept}
use Rattle.cq_project.proofs.Marked.{same_lists, marked, is_live, given_back, marks_back}
use Rattle.std.proofs.lemmas.Result.{IfOk-weaker}
use Rattle.cq_project.proofs.SiftWhole.{rest_solvable, whole_told, whole_refuses, whole_spends, whole_sifted}
use Rattle.cq_project.proofs.sift.+sift.Goals as goal

pub sift_beside-tell_all-requires : goal.sift_beside-tell_all-requires
sift_beside-tell_all-requires t c =
    let front = c.args.front.now in
    let back = c.args.back.now in
    record { solvable = solvable_with c.args.store.now.told back (front ++ back) (sublist_back front back back (sublist_all back)) c.requires.solvable }

pub sift_beside-returns-in_err-tell_all-clause-overflow : goal.sift_beside-returns-in_err-tell_all-clause-overflow
sift_beside-returns-in_err-tell_all-clause-overflow t c = λ pair e.
    let front = c.args.front.now in
    let back = c.args.back.now in
    let told = c.args.store.now.told in
    refuses_in told back told (front ++ back) (of_part told back (front ++ back) (sublist_back front back back (sublist_all back))) (λ d h. has_right d front back h) pair
    (c.in_err-tell_all.ensures.overflow pair (ap Err (passed c.from_residual.result c.in_err-tell_all.field-0.0 pair c.from_residual.ensures.1 e)))

pub sift_beside-returns-in_err-tell_all-clause-pivots : goal.sift_beside-returns-in_err-tell_all-clause-pivots
sift_beside-returns-in_err-tell_all-clause-pivots t c = λ n e.
    let front = c.args.front.now in
    let back = c.args.back.now in
    let told = c.args.store.now.told in
    let o = c.in_err-tell_all.ensures.pivots n (ap Err (store_spent c.from_residual.result c.in_err-tell_all.field-0.0 n c.from_residual.ensures.1 e)) in (
      o.0,
      spends_in told back told (front ++ back) (of_part told back (front ++ back) (sublist_back front back back (sublist_all back))) (λ d h. has_right d front back h) n o.1,
    )

pub sift_beside-sift-requires : goal.sift_beside-sift-requires
sift_beside-sift-requires t c =
    let s : Solvable (c.tell_all.new.store.told ++ c.args.front.now) =
    subst (λ l. Solvable (l ++ c.args.front.now)) (sym c.in_ok-tell_all.ensures.told) (solvable_turned c.args.store.now.told c.args.front.now c.args.back.now c.requires.solvable) in
    search rules

pub sift_beside-returns-clause-sifts : goal.sift_beside-returns-clause-sifts
sift_beside-returns-clause-sifts t c =
    subst (λ l. IfOk c.sift.result (λ kept. SiftsBeside l c.args.front.now kept.items)) c.in_ok-tell_all.ensures.told c.sift.ensures.sifts

pub sift_beside-returns-clause-overflow : goal.sift_beside-returns-clause-overflow
sift_beside-returns-clause-overflow t c = λ pair e.
    let front = c.args.front.now in
    let back = c.args.back.now in
    let told = c.args.store.now.told in
    refuses_in (told ++ back) front told (front ++ back) (of_front told front back) (λ d h. has_left d front back h) pair
    (subst (λ l. RefusesSifting l front pair) c.in_ok-tell_all.ensures.told (c.sift.ensures.overflow pair e))

pub sift_beside-returns-clause-pivots : goal.sift_beside-returns-clause-pivots
sift_beside-returns-clause-pivots t c = λ n e.
    let front = c.args.front.now in
    let back = c.args.back.now in
    let told = c.args.store.now.told in
    let o = c.sift.ensures.pivots n e in (
      o.0 ∙ c.tell_all.ensures.budget,
      spends_in (told ++ back) front told (front ++ back) (of_front told front back) (λ d h. has_left d front back h) n
          (subst (λ l. SpendsSifting l front n) c.in_ok-tell_all.ensures.told o.1),
    )

pub sift_front-sift_beside-kept-requires : goal.sift_front-sift_beside-kept-requires
sift_front-sift_beside-kept-requires t c =
    let s : Solvable (c.mark.new.self.told ++ (c.args.front.now ++ c.args.back.now)) =
    subst (λ l. Solvable (l ++ (c.args.front.now ++ c.args.back.now))) (sym (ap (λ (k : Kept). k.told) c.mark.ensures.now)) c.requires.solvable in
    search rules

pub sift_front-returns-in_err-start-clause-saved : goal.sift_front-returns-in_err-start-clause-saved
sift_front-returns-in_err-start-clause-saved t c = same_lists c.mark.new.self.pivots c.args.store.now.pivots c.mark.new.self.saved c.args.store.now.saved c.in_err-start.ensures.err

pub sift_front-undo-requires : goal.sift_front-undo-requires
sift_front-undo-requires t c =
    let s = c.args.store.now in
    is_live s.pivots c.sift_beside-kept.new.store.pivots s.told s.saved c.sift_beside-kept.new.store.saved c.in_ok-start.start.number c.in_ok-start.ensures.mark
    (marked s.pivots c.mark.new.self.pivots c.sift_beside-kept.new.store.pivots s.told s.saved c.mark.new.self.saved c.sift_beside-kept.new.store.saved c.in_ok-start.ensures.saved
    c.sift_beside-kept.ensures.saved c.sift_beside-kept.ensures.budget)

pub sift_front-returns-clause-told : goal.sift_front-returns-clause-told
sift_front-returns-clause-told t c =
    let s = c.args.store.now in
    ap (λ (k : Kept). k.told)
    (given_back s.pivots c.sift_beside-kept.new.store.pivots s.told s.saved c.sift_beside-kept.new.store.saved c.in_ok-start.start.number c.in_ok-start.ensures.mark
    (marked s.pivots c.mark.new.self.pivots c.sift_beside-kept.new.store.pivots s.told s.saved c.mark.new.self.saved c.sift_beside-kept.new.store.saved c.in_ok-start.ensures.saved
    c.sift_beside-kept.ensures.saved c.sift_beside-kept.ensures.budget)
    (kept c.undo.new.self.pivots c.undo.new.self.told) c.undo.ensures.now)

pub sift_front-returns-clause-budget : goal.sift_front-returns-clause-budget
sift_front-returns-clause-budget t c =
    let s = c.args.store.now in
    ap (λ (k : Kept). k.pivots)
    (given_back s.pivots c.sift_beside-kept.new.store.pivots s.told s.saved c.sift_beside-kept.new.store.saved c.in_ok-start.start.number c.in_ok-start.ensures.mark
    (marked s.pivots c.mark.new.self.pivots c.sift_beside-kept.new.store.pivots s.told s.saved c.mark.new.self.saved c.sift_beside-kept.new.store.saved c.in_ok-start.ensures.saved
    c.sift_beside-kept.ensures.saved c.sift_beside-kept.ensures.budget)
    (kept c.undo.new.self.pivots c.undo.new.self.told) c.undo.ensures.now)

pub sift_front-returns-clause-saved : goal.sift_front-returns-clause-saved
sift_front-returns-clause-saved t c =
    let s = c.args.store.now in
    marks_back s.pivots c.sift_beside-kept.new.store.pivots s.told s.saved c.sift_beside-kept.new.store.saved c.in_ok-start.start.number c.in_ok-start.ensures.mark
    (marked s.pivots c.mark.new.self.pivots c.sift_beside-kept.new.store.pivots s.told s.saved c.mark.new.self.saved c.sift_beside-kept.new.store.saved c.in_ok-start.ensures.saved
    c.sift_beside-kept.ensures.saved c.sift_beside-kept.ensures.budget)
    c.undo.new.self.pivots c.undo.new.self.saved c.undo.ensures.saved

pub sift_front-returns-clause-sifts : goal.sift_front-returns-clause-sifts
sift_front-returns-clause-sifts t c =
    subst (λ l. IfOk c.sift_beside-kept.result (λ kept. SiftsBeside (l ++ c.args.back.now) c.args.front.now kept.items)) (ap (λ (k : Kept). k.told) c.mark.ensures.now)
    c.sift_beside-kept.ensures.sifts

pub sift_front-returns-clause-overflow : goal.sift_front-returns-clause-overflow
sift_front-returns-clause-overflow t c = λ pair e.
    subst (λ l. RefusesSifting l (c.args.front.now ++ c.args.back.now) pair) (ap (λ (k : Kept). k.told) c.mark.ensures.now) (c.sift_beside-kept.ensures.overflow pair e)

pub sift_front-returns-clause-pivots : goal.sift_front-returns-clause-pivots
sift_front-returns-clause-pivots t c = λ n e.
    let o = c.sift_beside-kept.ensures.pivots n e in (
      o.0 ∙ ap (λ (k : Kept). k.pivots) c.mark.ensures.now,
      subst (λ l. SpendsSifting l (c.args.front.now ++ c.args.back.now) n) (ap (λ (k : Kept). k.told) c.mark.ensures.now) o.1,
    )

pub sift_behind-tell_all-requires : goal.sift_behind-tell_all-requires
sift_behind-tell_all-requires t c =
    let first = c.args.first.items in
    let back = c.args.back.now in
    record {
      solvable = subst (λ l. Solvable (c.args.store.now.told ++ l)) (sym c.deref.ensures.value)
          (solvable_with c.args.store.now.told first (first ++ back) (sublist_front first first back (sublist_all first)) c.requires.solvable);
    }

pub sift_behind-returns-in_err-tell_all-clause-overflow : goal.sift_behind-returns-in_err-tell_all-clause-overflow
sift_behind-returns-in_err-tell_all-clause-overflow t c = λ pair e.
    let first = c.args.first.items in
    let back = c.args.back.now in
    let told = c.args.store.now.told in
    refuses_in told first told (first ++ back) (of_part told first (first ++ back) (sublist_front first first back (sublist_all first))) (λ d h. has_left d first back h) pair
    (subst (λ l. RefusesSifting told l pair) c.deref.ensures.value
    (c.in_err-tell_all.ensures.overflow pair (ap Err (passed c.from_residual.result c.in_err-tell_all.field-0.0 pair c.from_residual.ensures.1 e))))

pub sift_behind-returns-in_err-tell_all-clause-pivots : goal.sift_behind-returns-in_err-tell_all-clause-pivots
sift_behind-returns-in_err-tell_all-clause-pivots t c = λ n e.
    let first = c.args.first.items in
    let back = c.args.back.now in
    let told = c.args.store.now.told in
    let o = c.in_err-tell_all.ensures.pivots n (ap Err (store_spent c.from_residual.result c.in_err-tell_all.field-0.0 n c.from_residual.ensures.1 e)) in (
      o.0,
      spends_in told first told (first ++ back) (of_part told first (first ++ back) (sublist_front first first back (sublist_all first))) (λ d h. has_left d first back h) n
          (subst (λ l. SpendsSifting told l n) c.deref.ensures.value o.1),
    )

pub sift_behind-returns-in_err-tell_all-clause-part : goal.sift_behind-returns-in_err-tell_all-clause-part
sift_behind-returns-in_err-tell_all-clause-part t c =
    let first = c.args.first.items in
    of_part c.args.store.now.told first (first ++ c.args.back.now) (sublist_front first first c.args.back.now (sublist_all first)) c.tell_all.new.store.told
    (subst (λ l. IsToldWith c.args.store.now.told l c.tell_all.new.store.told) c.deref.ensures.value c.tell_all.ensures.part)

pub sift_behind-sift-requires : goal.sift_behind-sift-requires
sift_behind-sift-requires t c =
    let is : c.tell_all.new.store.told ≡ c.args.store.now.told ++ c.args.first.items = c.in_ok-tell_all.ensures.told ∙ ap (λ l. c.args.store.now.told ++ l) c.deref.ensures.value in
    let s : Solvable (c.tell_all.new.store.told ++ c.args.back.now) =
    subst Solvable (sym (append_assoc c.args.store.now.told c.args.first.items c.args.back.now) ∙ ap (λ l. l ++ c.args.back.now) (sym is)) c.requires.solvable in
    search rules

pub sift_behind-returns-in_err-second-clause-overflow : goal.sift_behind-returns-in_err-second-clause-overflow
sift_behind-returns-in_err-second-clause-overflow t c = λ pair e.
    let first = c.args.first.items in
    let back = c.args.back.now in
    let told = c.args.store.now.told in
    refuses_in (told ++ first) back told (first ++ back) (of_back told first back first (sublist_all first)) (λ d h. has_right d first back h) pair
    (subst (λ l. RefusesSifting l back pair) (c.in_ok-tell_all.ensures.told ∙ ap (λ l. told ++ l) c.deref.ensures.value)
    (c.in_err-second.ensures.overflow pair (ap Err (passed c.from_residual-in_err-second.result c.in_err-second.field-0.0 pair c.from_residual-in_err-second.ensures.1 e))))

pub sift_behind-returns-in_err-second-clause-pivots : goal.sift_behind-returns-in_err-second-clause-pivots
sift_behind-returns-in_err-second-clause-pivots t c = λ n e.
    let first = c.args.first.items in
    let back = c.args.back.now in
    let told = c.args.store.now.told in
    let o = c.in_err-second.ensures.pivots n (ap Err (store_spent c.from_residual-in_err-second.result c.in_err-second.field-0.0 n c.from_residual-in_err-second.ensures.1 e)) in (
      o.0 ∙ c.tell_all.ensures.budget,
      spends_in (told ++ first) back told (first ++ back) (of_back told first back first (sublist_all first)) (λ d h. has_right d first back h) n
          (subst (λ l. SpendsSifting l back n) (c.in_ok-tell_all.ensures.told ∙ ap (λ l. told ++ l) c.deref.ensures.value) o.1),
    )

pub sift_behind-returns-in_err-second-clause-part : goal.sift_behind-returns-in_err-second-clause-part
sift_behind-returns-in_err-second-clause-part t c =
    of_back c.args.store.now.told c.args.first.items c.args.back.now c.args.first.items (sublist_all c.args.first.items) c.sift.new.store.told
    (subst (λ l. IsToldWith l c.args.back.now c.sift.new.store.told) (c.in_ok-tell_all.ensures.told ∙ ap (λ l. c.args.store.now.told ++ l) c.deref.ensures.value) c.sift.ensures.part)

pub sift_behind-returns-in_err-append-clause-part : goal.sift_behind-returns-in_err-append-clause-part
sift_behind-returns-in_err-append-clause-part t c =
    of_back c.args.store.now.told c.args.first.items c.args.back.now c.args.first.items (sublist_all c.args.first.items) c.sift.new.store.told
    (subst (λ l. IsToldWith l c.args.back.now c.sift.new.store.told) (c.in_ok-tell_all.ensures.told ∙ ap (λ l. c.args.store.now.told ++ l) c.deref.ensures.value) c.sift.ensures.part)

pub sift_behind-returns-clause-part : goal.sift_behind-returns-clause-part
sift_behind-returns-clause-part t c =
    of_back c.args.store.now.told c.args.first.items c.args.back.now c.args.first.items (sublist_all c.args.first.items) c.sift.new.store.told
    (subst (λ l. IsToldWith l c.args.back.now c.sift.new.store.told) (c.in_ok-tell_all.ensures.told ∙ ap (λ l. c.args.store.now.told ++ l) c.deref.ensures.value) c.sift.ensures.part)

pub sift_behind-returns-clause-sifts : goal.sift_behind-returns-clause-sifts
sift_behind-returns-clause-sifts t c = record {
  rest = c.in_ok-second.second.items;
  sifts = subst (λ l. SiftsBeside l c.args.back.now c.in_ok-second.second.items) (c.in_ok-tell_all.ensures.told ∙ ap (λ l. c.args.store.now.told ++ l) c.deref.ensures.value)
      c.in_ok-second.ensures.sifts;
  kept_are = c.in_ok-append.ensures;
}

pub sift_behind-returns-clause-told : goal.sift_behind-returns-clause-told
sift_behind-returns-clause-told t c =
    c.in_ok-second.ensures.told ∙ ap (λ l. l ++ c.in_ok-second.second.items) (c.in_ok-tell_all.ensures.told ∙ ap (λ l. c.args.store.now.told ++ l) c.deref.ensures.value)
    ∙ append_assoc c.args.store.now.told c.args.first.items c.in_ok-second.second.items
    ∙ ap (λ l. c.args.store.now.told ++ l) (sym c.in_ok-append.ensures)

pub sift-sift_front-requires : goal.sift-sift_front-requires
sift-sift_front-requires t c =
    let s : Solvable (c.args.store.now.told ++ (c.split_at.result.0.now ++ c.split_at.result.1.now)) =
    subst (λ l. Solvable (c.args.store.now.told ++ l)) c.split_at.ensures.by_index.0 c.requires.solvable in
    search rules

pub sift-returns-in_err-first-clause-overflow : goal.sift-returns-in_err-first-clause-overflow
sift-returns-in_err-first-clause-overflow t c = λ pair e.
    subst (λ l. RefusesSifting c.args.store.now.told l pair) (sym c.split_at.ensures.by_index.0)
    (c.in_err-first.ensures.overflow pair (ap Err (passed c.from_residual.result c.in_err-first.field-0.0 pair c.from_residual.ensures.1 e)))

pub sift-returns-in_err-first-clause-pivots : goal.sift-returns-in_err-first-clause-pivots
sift-returns-in_err-first-clause-pivots t c = λ n e.
    let o = c.in_err-first.ensures.pivots n (ap Err (store_spent c.from_residual.result c.in_err-first.field-0.0 n c.from_residual.ensures.1 e)) in
    (o.0, subst (λ l. SpendsSifting c.args.store.now.told l n) (sym c.split_at.ensures.by_index.0) o.1)

pub sift-returns-in_err-first-clause-part : goal.sift-returns-in_err-first-clause-part
sift-returns-in_err-first-clause-part t c = subst (IsToldWith c.args.store.now.told c.args.rows.now) (sym c.sift_front.ensures.told) (none_told c.args.store.now.told c.args.rows.now)

pub sift-sift_behind-requires : goal.sift-sift_behind-requires
sift-sift_behind-requires t c =
    let told = c.args.store.now.told in
    let s : Solvable (c.sift_front.new.store.told ++ (c.in_ok-first.first.items ++ c.split_at.result.1.now)) =
    subst (λ l. Solvable (l ++ (c.in_ok-first.first.items ++ c.split_at.result.1.now))) (sym c.sift_front.ensures.told)
    (rest_solvable told c.args.rows.now c.split_at.result.0.now c.split_at.result.1.now c.in_ok-first.first.items c.split_at.ensures.by_index.0 c.in_ok-first.ensures.sifts c.requires.solvable) in
    search rules

pub sift-returns-clause-sifts : goal.sift-returns-clause-sifts
sift-returns-clause-sifts t c =
    let told = c.args.store.now.told in
    let first = c.in_ok-first.first.items in
    let back = c.split_at.result.1.now in
    IfOk-weaker c.sift_behind.result _ _
    (λ all h. whole_sifted told c.args.rows.now c.split_at.result.0.now back first c.split_at.ensures.by_index.0 c.in_ok-first.ensures.sifts all.items
    (subst (λ l. SiftsBehind l first back all.items) c.sift_front.ensures.told h)) c.sift_behind.ensures.sifts

pub sift-returns-clause-told : goal.sift-returns-clause-told
sift-returns-clause-told t c =
    subst (λ l. IfOk c.sift_behind.result (λ kept. c.sift_behind.new.store.told ≡ l ++ kept.items)) c.sift_front.ensures.told c.sift_behind.ensures.told

pub sift-returns-clause-overflow : goal.sift-returns-clause-overflow
sift-returns-clause-overflow t c = λ pair e.
    let first = c.in_ok-first.first.items in
    let back = c.split_at.result.1.now in
    whole_refuses c.args.store.now.told c.args.rows.now c.split_at.result.0.now back first c.split_at.ensures.by_index.0 c.in_ok-first.ensures.sifts pair
    (subst (λ l. RefusesSifting l (first ++ back) pair) c.sift_front.ensures.told (c.sift_behind.ensures.overflow pair e))

pub sift-returns-clause-pivots : goal.sift-returns-clause-pivots
sift-returns-clause-pivots t c = λ n e.
    let first = c.in_ok-first.first.items in
    let back = c.split_at.result.1.now in
    let o = c.sift_behind.ensures.pivots n e in (
      o.0 ∙ c.sift_front.ensures.budget,
      whole_spends c.args.store.now.told c.args.rows.now c.split_at.result.0.now back first c.split_at.ensures.by_index.0 c.in_ok-first.ensures.sifts n
          (subst (λ l. SpendsSifting l (first ++ back) n) c.sift_front.ensures.told o.1),
    )

pub sift-returns-clause-part : goal.sift-returns-clause-part
sift-returns-clause-part t c =
    let first = c.in_ok-first.first.items in
    let back = c.split_at.result.1.now in
    whole_told c.args.store.now.told c.args.rows.now c.split_at.result.0.now back first c.split_at.ensures.by_index.0 c.in_ok-first.ensures.sifts c.sift_behind.new.store.told
    (subst (λ l. IsToldWith l (first ++ back) c.sift_behind.new.store.told) c.sift_front.ensures.told c.sift_behind.ensures.part)
