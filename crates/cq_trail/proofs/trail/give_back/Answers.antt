use Rattle.std.proofs.Common.{◌<◌, ◌≤◌, arith, sym, ap, ◌∙◌, length, drop, take, length-append, length-set, ◌∷◌, []}
use Rattle.std.proofs.lemmas.List.{take-append-le}
use Rattle.cq_trail.proofs.Stamps.{give_value, give_stamp, entries_front}
use Rattle.cq_trail.specs.Log.{restore, old_values, old_stamps}
use Rattle.cq_trail.proofs.trail.give_back.Goals as goal

pub loop-log-preserved-in-Some : goal.loop-log-preserved-in-Some
loop-log-preserved-in-Some g c =
    let i = c.in-Some.ensures.items in
    let log = c.pop.new.self.items in
    let e = c.in-Some.field-0 in
    let lt : c.args.from < length c.loop-log.log.items = omega (arith, c.len.ensures, c.loop-log.log.ok.0) in
    let le : c.args.from ≤ length log = omega (arith, rw i at lt, length-append log (e ∷ [])) in
    record {
      values = sym (give_value log e c.args.from c.loop-log.items.items le) ∙ ap (λ l. restore (drop c.args.from (old_values l)) c.loop-log.items.items) (sym i) ∙ c.loop-log.invariant.values;
      stamps = sym (give_stamp log e c.args.from c.loop-log.stamps.items le) ∙ ap (λ l. restore (drop c.args.from (old_stamps l)) c.loop-log.stamps.items) (sym i) ∙ c.loop-log.invariant.stamps;
      front = sym (take-append-le c.args.from log (e ∷ []) le) ∙ ap (take c.args.from) (sym i) ∙ c.loop-log.invariant.front;
      enough = le;
      within = rw length-set (entries_front _ log e (rw i at c.loop-log.invariant.within));
      stamped = length-set _ _ _ ∙ c.loop-log.invariant.stamped ∙ sym (length-set _ _ _);
    }
