use Rattle.std.proofs.Common.{Ok, sym, ap, ◌∙◌, ◌≤◌, length, subst}
use Rattle.cq_ops.specs.Tables.{named}
use Rattle.cq_read.specs.Shown.{read_of, IsReadOf}
use Rattle.cq_read.proofs.Marked.{IsMarked, as_before, leaves_marked}
use Rattle.cq_read.proofs.Feeding.{fits_behind, is_settled, is_unsettled, moved_read, leaves_saved}
use Rattle.cq_term.specs.Trees.{KnowsTerms}
use Rattle.cq_read.proofs.Naming.{terms_known}
use Rattle.cq_read.specs.Shown.{IsForward}
use Rattle.cq_read.proofs.feed.Feed.read.Goals as goal

pub returns-in-Err-clause-heap : goal.returns-in-Err-clause-heap
returns-in-Err-clause-heap c =
    let is : IsMarked c.args.heap.now c.mark.new.self c.in_ok-mark.mark.number = record { saved = c.in_ok-mark.ensures.saved; now = c.mark.ensures.now; room = c.mark.ensures.room; mark = c.in_ok-mark.ensures.mark } in
    as_before c.args.heap.now c.mark.new.self c.read_clause.new.heap c.undo.new.self c.in_ok-mark.mark.number is c.in-Err.ensures.heap.saved c.in-Err.ensures.heap.room c.undo.ensures.saved c.undo.ensures.room c.undo.ensures.now

pub go_on-requires : goal.go_on-requires
go_on-requires c =
    let ops = named c.read_clause.new.atoms c.args.ops.now in
    let n = length c.mark.new.self.now.images in
    let shown = read_of c.read_clause.new.atoms c.read_clause.new.heap.now c.in-Ok.read in
    let fits = subst (λ v. v.place ≤ length v.bytes) c.self.view_is c.self.invariant.fits in
    let is = subst (λ v. IsReadOf ops v.bytes v.place n shown) c.self.view_is (subst (λ b. IsReadOf ops b c.self.inside.place n shown) c.deref.ensures.value c.in-Ok.ensures.reads) in
    fits_behind ops c.args.self.now.bytes c.args.self.now.place n fits c.read_clause.new.atoms c.read_clause.new.heap.now c.in-Ok.read is

pub returns-then-is_settled-clause-fed : goal.returns-then-is_settled-clause-fed
returns-then-is_settled-clause-fed c =
    let ops = named c.read_clause.new.atoms c.args.ops.now in
    let n = length c.mark.new.self.now.images in
    let shown = read_of c.read_clause.new.atoms c.read_clause.new.heap.now c.in-Ok.read in
    let fits = subst (λ v. v.place ≤ length v.bytes) c.self.view_is c.self.invariant.fits in
    let is = subst (λ v. IsReadOf ops v.bytes v.place n shown) c.self.view_is (subst (λ b. IsReadOf ops b c.self.inside.place n shown) c.deref.ensures.value c.in-Ok.ensures.reads) in (
      is_settled ops c.args.self.now.bytes c.args.self.now.place n fits c.read_clause.new.atoms c.read_clause.new.heap.now c.in-Ok.read is c.args.self.now.finished (sym c.is_settled.ensures ∙ c.if-is_settled.true),
      moved_read ops c.args.self.now.bytes c.args.self.now.place n (length c.args.heap.now.now.images) shown _ (ap (λ t. length t.images) c.mark.ensures.now)
          (ap (λ t. read_of c.read_clause.new.atoms t c.in-Ok.read) (sym c.forget.ensures.now)) is,
    )

pub returns-clause-fed : goal.returns-clause-fed
returns-clause-fed c =
    let ops = named c.read_clause.new.atoms c.args.ops.now in
    let n = length c.mark.new.self.now.images in
    let shown = read_of c.read_clause.new.atoms c.read_clause.new.heap.now c.in-Ok.read in
    let fits = subst (λ v. v.place ≤ length v.bytes) c.self.view_is c.self.invariant.fits in
    let is = subst (λ v. IsReadOf ops v.bytes v.place n shown) c.self.view_is (subst (λ b. IsReadOf ops b c.self.inside.place n shown) c.deref.ensures.value c.in-Ok.ensures.reads) in
    is_unsettled ops c.args.self.now.bytes c.args.self.now.place n fits c.read_clause.new.atoms c.read_clause.new.heap.now c.in-Ok.read is c.args.self.now.finished (sym c.is_settled.ensures ∙ c.if-is_settled.false)

pub returns-clause-heap : goal.returns-clause-heap
returns-clause-heap c =
    let is : IsMarked c.args.heap.now c.mark.new.self c.in_ok-mark.mark.number = record { saved = c.in_ok-mark.ensures.saved; now = c.mark.ensures.now; room = c.mark.ensures.room; mark = c.in_ok-mark.ensures.mark } in
    let kept = leaves_saved c.mark.new.self c.read_clause.new.heap (Ok c.in-Ok.read) c.in-Ok.ensures.heap in
    as_before c.args.heap.now c.mark.new.self c.read_clause.new.heap c.undo-2.new.self c.in_ok-mark.mark.number is kept.0 kept.1 c.undo-2.ensures.saved c.undo-2.ensures.room c.undo-2.ensures.now

pub returns-then-is_settled-clause-forward : goal.returns-then-is_settled-clause-forward
returns-then-is_settled-clause-forward c =
    subst (λ v. IsForward (length v.bytes) v.place c.in-Ok.read) c.self.view_is
    (subst (λ b. IsForward (length b) c.self.inside.place c.in-Ok.read) c.deref.ensures.value c.in-Ok.ensures.forward)

pub returns-in-Err-clause-known : goal.returns-in-Err-clause-known
returns-in-Err-clause-known c known =
    terms_known c.args.atoms.now c.read_clause.new.atoms c.args.heap.now.now.terms c.undo.new.self.now.terms c.read_clause.ensures.names (ap (λ n. n.terms) (returns-in-Err-clause-heap c).now) known

pub returns-then-is_settled-clause-known : goal.returns-then-is_settled-clause-known
returns-then-is_settled-clause-known c known =
    let marked = subst (λ n. KnowsTerms c.args.atoms.now n.terms) (sym c.mark.ensures.now) known in
    subst (λ n. KnowsTerms c.read_clause.new.atoms n.terms) (sym c.forget.ensures.now) (c.read_clause.ensures.known marked)

pub returns-clause-known : goal.returns-clause-known
returns-clause-known c known =
    terms_known c.args.atoms.now c.read_clause.new.atoms c.args.heap.now.now.terms c.undo-2.new.self.now.terms c.read_clause.ensures.names (ap (λ n. n.terms) (returns-clause-heap c).now) known

pub returns-then-is_settled-clause-heap : goal.returns-then-is_settled-clause-heap
returns-then-is_settled-clause-heap c =
    let is : IsMarked c.args.heap.now c.mark.new.self c.in_ok-mark.mark.number = record { saved = c.in_ok-mark.ensures.saved; now = c.mark.ensures.now; room = c.mark.ensures.room; mark = c.in_ok-mark.ensures.mark } in
    let kept = leaves_saved c.mark.new.self c.read_clause.new.heap (Ok c.in-Ok.read) c.in-Ok.ensures.heap in
    leaves_marked c.args.heap.now c.mark.new.self c.read_clause.new.heap c.forget.new.self c.in_ok-mark.mark.number is kept.0 kept.1 c.forget.ensures.saved c.forget.ensures.room c.in-Ok.read c.in-Ok.ensures.heap c.forget.ensures.now
