use Rattle.std.proofs.Common.{◌≡◌, ◌<◌, List, [], ◌∷◌, length, get_or, false, nat_eq, arith, sym, subst, ◌∙◌}
use Rattle.cq_frac.specs.declared.row.Entry.{Entry}
use Rattle.cq_frac.specs.Rows.{Has}
use Rattle.cq_frac.proofs.Steps.{has_at}
use Rattle.cq_tableau.proofs.Fixed.{nothing_left}
use Rattle.cq_store.proofs.equating.first_column.Goals as goal

pub returns-then-is_empty : goal.returns-then-is_empty
returns-then-is_empty c = λ own at.
    subst (λ (s : List Entry). s ≡ []) (c.row-row.ensures.entries own at) (nothing_left c.row-row.result.now (sym c.is_empty.ensures ∙ c.if-is_empty.true))

pub returns : goal.returns
returns c =
    let m = c.index-row-0.result in
    let e = c.row-row.ensures.entries c.requires.row.0 c.requires.row.1 in
    record {
      own = c.requires.row.0;
      factor = (get_or c.row-row.result.now 0 m).factor;
      is_row = c.requires.row.1;
      in_row = subst (λ (n : Entry). Has n c.requires.row.0.live) c.index-row-0.is
          (subst (Has m) e (has_at c.row-row.result.now 0 m (above c.row-row.result.now (sym c.is_empty.ensures ∙ c.if-is_empty.false)) c.index-row-0.is));
    }
  where
    above : (s : List Entry) → nat_eq (length s) 0 ≡ false → 0 < length s
    above [] e = cc
    above (m ∷ s) e = omega arith
