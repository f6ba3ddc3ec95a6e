use Rattle.std.proofs.Common.{◌+◌, ◌<◌, IfOk, length, arith, sym, subst}
use Rattle.std.proofs.lemmas.Result.{IfOk-weaker}
use Rattle.spec_log.specs.Verdicts.{step}
use Rattle.cq_cert.specs.Pieces.{words_of}
use Rattle.cq_cert.specs.Places.{place_of, counts, IsSound, Leads}
use Rattle.cq_cert.proofs.Reading.{leads_more, member_step}
use Rattle.cq_cert.proofs.check.read_line.Goals as goal

pub returns-in-Listing : goal.returns-in-Listing
returns-in-Listing c =
    let list = c.in-Listing.list in
    let ws = words_of c.args.text.now in
    let wants : 0 < list.left = subst IsSound c.in-Listing.is c.requires.sound in
    subst (λ p. IfOk c.listed.result (Leads (step c.args.line (place_of p) ws) (counts p + length c.args.text.now + 1))) (sym c.in-Listing.is)
    (IfOk-weaker c.listed.result _ _ (λ s h. leads_more _ _ _ _ s (sym (member_step c.args.line list.entries list.left list.seen list.members.items ws wants)) (omega arith) h) c.listed.ensures)
