use Rattle.std.proofs.Common.{◌≡◌, [], refl, sym, ap, ap₂, ◌∙◌, Option}
use Rattle.std.specs.Prelude.{is_none, unwrap_or}
use Rattle.std.specs.HashMap.{get}
use Rattle.cq_clauses.specs.declared.key.Key.{Key}
use Rattle.cq_clauses.specs.Database.{added}
use Rattle.cq_clauses.specs.Keys.{same_key, has_key}
use Rattle.cq_clauses.specs.Indexes.{noted}
use Rattle.cq_clauses.proofs.Indexed.{noted_keyed}
use Rattle.cq_clauses.proofs.index.Index.note.Goals as goal

pub returns-in_ok-insert-in-Some : goal.returns-in_ok-insert-in-Some
returns-in_ok-insert-in-Some c =
    let old = c.args.self.now in
    let taken : c.unwrap_or-places.result ≡ unwrap_or (get same_key old.keyed c.in-Some.key) [] = c.unwrap_or-places.ensures ∙ ap₂ unwrap_or c.remove.ensures.value c.new.ensures in
    let put : c.add.new.self ≡ added c.args.end c.args.number (unwrap_or (get same_key old.keyed c.in-Some.key) []) = c.in_ok-add-in-Some.ensures ∙ ap (added c.args.end c.args.number) taken in
    record {
      first = refl;
      count = refl;
      keyless = sym (ap (λ (k : Option Key). noted (is_none k) c.args.end c.args.number old.keyless) c.in-Some.is);
      keyed = λ k. noted_keyed old.keyed c.remove.new.self c.insert.new.self c.in-Some.key c.args.end c.args.number c.add.new.self
          c.remove.ensures.updates.0 c.in_ok-insert-in-Some.ensures.updates.0 put k
          ∙ sym (ap (λ (l : Option Key). noted (has_key k l) c.args.end c.args.number (unwrap_or (get same_key old.keyed k) [])) c.in-Some.is);
    }
