use Rattle.std.proofs.Common.{◌≡◌, ℕ, ◌∙◌, ◌++◌, [], ◌∷◌, length, set, refl, ap, sym, subst, arith}
use Rattle.std.proofs.lemmas.List.{length-set}
use Rattle.cq_trail.specs.TrailValue.{TrailValue}
use Rattle.cq_dict.specs.Holders.{IsListed, AreLists, Grows}
use Rattle.cq_dict.proofs.Lists.{cell_lists, cell_still, head_lists, head_still, head_own}
use Rattle.cq_dict.proofs.holders.add.Goals as goal
use Rattle.cq_dict.proofs.holders.add.Goals.{In_ok-set}

pub returns-in_err-set-clause-grows : goal.returns-in_err-set-clause-grows
returns-in_err-set-clause-grows c =
    let heads = c.args.heads.now.now in
    let cells = c.args.cells.now.now in
    let e = c.in_ok-push.ensures.ok in
    subst (λ (z : TrailValue ℕ). Grows c.args.heads.now c.args.cells.now z c.push.new.self) (sym c.in_err-set.ensures.err) (record {
      size = refl;
      lists = λ l. subst (AreLists heads) (sym e) (cell_lists heads cells c.args.column c.args.row c.get-older.result.now c.get-older.ensures c.requires l);
      still = λ d r k. subst (λ z. IsListed heads z d r) (sym e) (cell_still heads cells c.args.column c.args.row c.get-older.result.now c.get-older.ensures c.requires d r k);
      heads_saved = refl;
      cells_saved = c.push.ensures.saved;
      heads_room = omega arith;
      cells_room = c.push.ensures.room;
    })

head : (c : In_ok-set) → c.set.new.self.now ≡ set c.args.heads.now.now c.args.column (length (c.args.cells.now.now ++ record { row = c.args.row; older = c.get-older.result.now } ∷ []))
head c = c.in_ok-set.ensures.ok ∙ ap (set c.args.heads.now.now c.args.column) c.len.ensures ∙ ap (λ l. set c.args.heads.now.now c.args.column (length l)) c.in_ok-push.ensures.ok

pub returns-clause-grows : goal.returns-clause-grows
returns-clause-grows c =
    let k = goal.at.returns-clause-grows c in
    let heads = c.args.heads.now.now in
    let cells = c.args.cells.now.now in
    let e = c.in_ok-push.ensures.ok in
    record {
      size = ap length (head k.In_ok-set) ∙ length-set heads c.args.column _;
      lists = λ l. subst (AreLists c.set.new.self.now) (sym e) (head_lists heads cells c.args.column c.args.row c.get-older.result.now c.get-older.ensures c.requires c.set.new.self.now (head k.In_ok-set) l);
      still = λ d r m. subst (λ z. IsListed c.set.new.self.now z d r) (sym e) (head_still heads cells c.args.column c.args.row c.get-older.result.now c.get-older.ensures c.requires c.set.new.self.now (head k.In_ok-set) d r m);
      heads_saved = c.set.ensures.saved;
      cells_saved = c.push.ensures.saved;
      heads_room = c.set.ensures.room;
      cells_room = c.push.ensures.room;
    }

pub returns-clause-listed : goal.returns-clause-listed
returns-clause-listed c =
    let k = goal.at.returns-clause-listed c in
    subst (λ z. IsListed c.set.new.self.now z c.args.column c.args.row) (sym c.in_ok-push.ensures.ok)
    (head_own c.args.heads.now.now c.args.cells.now.now c.args.column c.args.row c.get-older.result.now c.get-older.ensures c.requires c.set.new.self.now (head k.In_ok-set))
