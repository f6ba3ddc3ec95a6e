use Rattle.std.proofs.Common.{arith, sym, subst, refl, inl, inr}
use Rattle.cq_frac.specs.Rows.{Has}
use Rattle.cq_dict.specs.Holders.{IsListed}
use Rattle.cq_dict.proofs.holders.hold_row.Goals as goal
use Rattle.cq_dict.proofs.holders.hold_row.Goals.{in-Basic, in_default}

pub hold_entries-requires-clause-columns : goal.hold_entries-requires-clause-columns
hold_entries-requires-clause-columns c = λ m h. c.requires.columns m.quantity (m, inl (subst (Has m) c.live-2.ensures h), refl)

pub hold_entries-requires-2-clause-columns : goal.hold_entries-requires-2-clause-columns
hold_entries-requires-2-clause-columns c = λ m h.
    let b = c.requires.columns m.quantity (m, inr (subst (Has m) c.dropped-2.ensures h), refl) in
    let s = c.hold_entries.ensures.grows.size in
    omega (arith, b, s)

pub hold_entries-requires-clause-held : goal.hold_entries-requires-clause-held
hold_entries-requires-clause-held c = λ o h.
    elim c.match-role.branch [
      | in-Basic w ↦ c.requires.before w.in-Basic.own o.quantity w.in-Basic.is (o, inl (subst (Has o) w.live.ensures (rw w.held-is at h)), refl)
      | in_default w ↦ absurd (rw w.held-is at h)
    ]

pub hold_entries-requires-2-clause-held : goal.hold_entries-requires-2-clause-held
hold_entries-requires-2-clause-held c = λ o h. c.hold_entries.ensures.grows.still o.quantity c.args.number (
    elim c.match-role.branch [
      | in-Basic w ↦ c.requires.before w.in-Basic.own o.quantity w.in-Basic.is (o, inr (subst (Has o) w.dropped.ensures (rw w.held-is at h)), refl)
      | in_default w ↦ absurd (rw w.held-is at h)
    ])

pub returns-clause-listed : goal.returns-clause-listed
returns-clause-listed c = λ d k. subst (λ z. IsListed c.hold_entries-2.new.heads.now c.hold_entries-2.new.cells.now z c.args.number) k.2 (
    elim k.1 [
      | inl h ↦ c.hold_entries-2.ensures.grows.still k.0.quantity c.args.number (c.in_ok-hold_entries.ensures.listed k.0 (subst (Has k.0) (sym c.live-2.ensures) h))
      | inr h ↦ c.in_ok-hold_entries-2.ensures.listed k.0 (subst (Has k.0) (sym c.dropped-2.ensures) h)
    ])
