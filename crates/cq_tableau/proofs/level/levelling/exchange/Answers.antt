use Rattle.std.proofs.Common.{◌≡◌, List, Err, ap, sym, subst, ◌∙◌}
use Rattle.spec_numbers.proofs.Places.{newest}
use Rattle.cq_dict.specs.declared.table.Role.{Role}
use Rattle.cq_dict.specs.declared.table.Role.TheVariants.{Basic}
use Rattle.cq_dict.specs.DictValue.{quantities_of}
use Rattle.cq_dict.specs.Dict.{SameMeaning, RefusesPivot}
use Rattle.cq_dict.specs.Roles.{Quantities, IsAt, IsRow, HasEntry, IsExchanged}
use Rattle.cq_simplex.specs.declared.SimplexFault.TheVariants.{Overflow}
use Rattle.cq_tableau.specs.Levelled.{StaysRow, CrossesAt, GoesOn}
use Rattle.cq_tableau.proofs.Goes.{nearing_there, new_row, stays_here, stays_after, goes_on, crosses_instead, has_passed, not_passed, zero_is, refusal_of, same_fault}
use Rattle.cq_tableau.proofs.level.levelling.exchange.Goals as goal

-- what a mark and an undo leave
abbrev roles_are : {p q : Quantities} → p ≡ q → p.roles ≡ q.roles
roles_are e = ap (λ (z : Quantities). z.roles) e

abbrev flags_are : {p q : Quantities} → p ≡ q → p.restricted ≡ q.restricted
flags_are e = ap (λ (z : Quantities). z.restricted) e

pub pivot-requires : goal.pivot-requires
pivot-requires c =
    subst (λ (r : List Role). HasEntry r c.args.row c.args.column) (sym (roles_are c.mark.ensures.now))
    (nearing_there c.args.q c.args.up c.args.dict.now.roles c.args.dict.now.restricted c.requires.free c.args.row c.args.column c.requires.nearing)

pub returns-in-Err-clause-flags : goal.returns-in-Err-clause-flags
returns-in-Err-clause-flags c =
    flags_are (newest c.args.dict.now.saved (quantities_of c.args.dict.now) c.in_ok-start.start.number c.in_ok-start.ensures.mark c.pivot.new.self.saved
    (c.in-Err.ensures.saved ∙ c.in_ok-start.ensures.saved) (quantities_of c.undo.new.self) c.undo.ensures.now)

pub returns-in-Err-clause-err : goal.returns-in-Err-clause-err
returns-in-Err-clause-err c =
    roles_are (newest c.args.dict.now.saved (quantities_of c.args.dict.now) c.in_ok-start.start.number c.in_ok-start.ensures.mark c.pivot.new.self.saved
    (c.in-Err.ensures.saved ∙ c.in_ok-start.ensures.saved) (quantities_of c.undo.new.self) c.undo.ensures.now)

pub returns-in-Err-clause-overflow : goal.returns-in-Err-clause-overflow
returns-in-Err-clause-overflow c = λ pair e.
    let f = refusal_of c.in-Err.refusal c.from.result pair c.from.ensures (same_fault c.from.result (Overflow pair) e) in
    let p = subst (λ (r : List Role). RefusesPivot r c.args.row c.args.column pair) (roles_are c.mark.ensures.now) (c.in-Err.ensures.overflow pair (ap Err f)) in
    record { row = c.args.row; column = c.args.column; made = p.0; refused = p.1 }

pub constant-requires : goal.constant-requires
constant-requires c =
    let old = c.args.dict.now.roles in
    let s = roles_are c.mark.ensures.now in
    new_row c.args.q c.args.up old c.args.dict.now.restricted c.requires.asked c.requires.free c.requires.off c.requires.feasible c.requires.table c.args.row c.args.column c.requires.nearing
    c.pivot.new.self.roles (subst (λ (r : List Role). IsExchanged r c.args.row c.args.column c.pivot.new.self.roles) s c.in-Ok.ensures.kinds)
    (subst (λ (r : List Role). SameMeaning r c.pivot.new.self.roles) s c.in-Ok.ensures.same) c.in-Ok.ensures.table

pub returns-then-has_passed-clause-gone : goal.returns-then-has_passed-clause-gone
returns-then-has_passed-clause-gone c =
    let old = c.args.dict.now.roles in
    let flags = c.args.dict.now.restricted in
    let s = roles_are c.mark.ensures.now in
    let x = subst (λ (r : List Role). IsExchanged r c.args.row c.args.column c.pivot.new.self.roles) s c.in-Ok.ensures.kinds in
    let m = subst (λ (r : List Role). SameMeaning r c.pivot.new.self.roles) s c.in-Ok.ensures.same in
    let row = new_row c.args.q c.args.up old flags c.requires.asked c.requires.free c.requires.off c.requires.feasible c.requires.table c.args.row c.args.column c.requires.nearing
    c.pivot.new.self.roles x m c.in-Ok.ensures.table in
    let back = roles_are (newest c.args.dict.now.saved (quantities_of c.args.dict.now) c.in_ok-start.start.number c.in_ok-start.ensures.mark c.pivot.new.self.saved
    (c.in-Ok.ensures.saved ∙ c.in_ok-start.ensures.saved) (quantities_of c.undo-then-has_passed.new.self) c.undo-then-has_passed.ensures.now) in (
      subst (λ (r : List Role). StaysRow c.args.q old flags r) (sym back) (stays_here c.args.q old flags c.requires.asked),
      subst (λ (r : List Role). CrossesAt r flags c.args.q c.args.column) (sym back)
          (crosses_instead c.args.q c.args.up old flags c.requires.asked c.requires.free c.requires.off c.requires.feasible c.requires.table c.args.row c.args.column c.requires.nearing
          c.pivot.new.self.roles x m c.in-Ok.ensures.table
          (has_passed c.pivot.new.self.roles c.args.q row c.constant.result (λ own at. c.constant.ensures own at) c.args.up c.has_passed.result c.has_passed.ensures c.if-has_passed.true)),
    )

pub returns-then-has_passed-clause-flags : goal.returns-then-has_passed-clause-flags
returns-then-has_passed-clause-flags c =
    flags_are (newest c.args.dict.now.saved (quantities_of c.args.dict.now) c.in_ok-start.start.number c.in_ok-start.ensures.mark c.pivot.new.self.saved
    (c.in-Ok.ensures.saved ∙ c.in_ok-start.ensures.saved) (quantities_of c.undo-then-has_passed.new.self) c.undo-then-has_passed.ensures.now)

pub constant-requires-2 : goal.constant-requires-2
constant-requires-2 c =
    let old = c.args.dict.now.roles in
    let s = roles_are c.mark.ensures.now in
    subst (λ (r : List Role). IsRow r c.args.q) (sym (roles_are c.forget.ensures.now))
    (new_row c.args.q c.args.up old c.args.dict.now.restricted c.requires.asked c.requires.free c.requires.off c.requires.feasible c.requires.table c.args.row c.args.column c.requires.nearing
    c.pivot.new.self.roles (subst (λ (r : List Role). IsExchanged r c.args.row c.args.column c.pivot.new.self.roles) s c.in-Ok.ensures.kinds)
    (subst (λ (r : List Role). SameMeaning r c.pivot.new.self.roles) s c.in-Ok.ensures.same) c.in-Ok.ensures.table)

pub returns-then-is_zero-clause-gone : goal.returns-then-is_zero-clause-gone
returns-then-is_zero-clause-gone c =
    let old = c.args.dict.now.roles in
    let flags = c.args.dict.now.restricted in
    let s = roles_are c.mark.ensures.now in
    let x = subst (λ (r : List Role). IsExchanged r c.args.row c.args.column c.pivot.new.self.roles) s c.in-Ok.ensures.kinds in
    let m = subst (λ (r : List Role). SameMeaning r c.pivot.new.self.roles) s c.in-Ok.ensures.same in
    let g = roles_are c.forget.ensures.now in
    let stays = stays_after c.args.q c.args.up old flags c.requires.asked c.requires.free c.requires.off c.requires.feasible c.requires.table c.args.row c.args.column c.requires.nearing
    c.pivot.new.self.roles x m c.in-Ok.ensures.table in
    let row : IsRow c.forget.new.self.roles c.args.q = subst (λ (r : List Role). IsRow r c.args.q) (sym g) stays.row in (
      subst (λ (r : List Role). StaysRow c.args.q old flags r) (sym g) stays,
      zero_is c.forget.new.self.roles c.args.q row c.constant-2.result (λ own at. c.constant-2.ensures own at) (c.is_zero.ensures.0 c.if-is_zero.true),
    )

pub returns-clause-gone : goal.returns-clause-gone
returns-clause-gone c =
    let old = c.args.dict.now.roles in
    let flags = c.args.dict.now.restricted in
    let s = roles_are c.mark.ensures.now in
    let x = subst (λ (r : List Role). IsExchanged r c.args.row c.args.column c.pivot.new.self.roles) s c.in-Ok.ensures.kinds in
    let m = subst (λ (r : List Role). SameMeaning r c.pivot.new.self.roles) s c.in-Ok.ensures.same in
    let g = roles_are c.forget.ensures.now in
    let row = new_row c.args.q c.args.up old flags c.requires.asked c.requires.free c.requires.off c.requires.feasible c.requires.table c.args.row c.args.column c.requires.nearing
    c.pivot.new.self.roles x m c.in-Ok.ensures.table in
    let row_2 : IsRow c.forget.new.self.roles c.args.q = subst (λ (r : List Role). IsRow r c.args.q) (sym g) row in
    let n : c.constant.result ≡ c.constant-2.result = c.constant.ensures row.0 row.1
    ∙ sym (c.constant-2.ensures row.0 (subst (λ (r : List Role). IsAt r c.args.q (Basic row.0)) (sym g) row.1)) in
    subst (λ (r : List Role). GoesOn c.args.q c.args.up old flags c.args.row c.args.column r) (sym g)
    (goes_on c.args.q c.args.up old flags c.requires.asked c.requires.free c.requires.off c.requires.feasible c.requires.table c.args.row c.args.column c.requires.nearing
    c.pivot.new.self.roles x m c.in-Ok.ensures.table
    (not_passed c.pivot.new.self.roles c.args.q row c.constant.result (λ own at. c.constant.ensures own at) c.args.up c.has_passed.result c.has_passed.ensures c.if-has_passed.false
    (λ z. let k = c.is_zero.ensures.1 (sym n ∙ z) in let f = c.if-is_zero.false in cc)))
