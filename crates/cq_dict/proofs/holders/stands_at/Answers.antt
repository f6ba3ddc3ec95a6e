use Rattle.std.proofs.Common.{◌≡◌, ◌∙◌, ℕ, ◌<◌, List, length, get_or, eqb, ap}
use Rattle.std.specs.Bool.{OnTrue}
use Rattle.std.proofs.lemmas.Bool.{OnTrue_from, eqb-true}
use Rattle.cq_frac.specs.declared.row.Entry.{Entry}
use Rattle.cq_frac.specs.Rows.{Has}
use Rattle.cq_dict.proofs.Entries.{has_here}
use Rattle.cq_dict.proofs.holders.stands_at.Goals as goal

stands : (row : List Entry) (at quantity : ℕ) (m : Entry) → at < length row → m ≡ get_or row at m → OnTrue (eqb (get_or row at m).quantity quantity) ((o : Entry) × Has o row × (o.quantity ≡ quantity))
stands row at quantity m l e = OnTrue_from (eqb (get_or row at m).quantity quantity) ((o : Entry) × Has o row × (o.quantity ≡ quantity))
    (λ t. (m, has_here row at m l e, ap (λ (z : Entry). z.quantity) e ∙ eqb-true (get_or row at m).quantity quantity t))

pub returns-then-at-row : goal.returns-then-at-row
returns-then-at-row c = stands c.args.row.now c.args.at c.args.quantity c.index-row-at.result c.if-at-row.true c.index-row-at.is
