use Rattle.std.proofs.Common.{sym, ap, subst, ◌∙◌, length}
use Rattle.cq_ops.specs.Tables.{named}
use Rattle.cq_read.specs.Shown.{read_of}
use Rattle.cq_read.proofs.Marked.{IsMarked, as_before}
use Rattle.cq_read.proofs.Running.{stands_on, read_anywhere, leaves_not}
use Rattle.cq_term.specs.Texts.{KeepsTexts}
use Rattle.cq_term.specs.Trees.{KnowsTerms}
use Rattle.cq_read.proofs.Naming.{terms_known}
use Rattle.cq_read.proofs.Feeding.{forward}
use Rattle.cq_read.proofs.reading.read_clause.Goals as goal

pub returns-in-Err-clause-heap : goal.returns-in-Err-clause-heap
returns-in-Err-clause-heap c =
    let is : IsMarked c.args.heap.now c.mark.new.self c.in_ok-mark.mark.number = record { saved = c.in_ok-mark.ensures.saved; now = c.mark.ensures.now; room = c.mark.ensures.room; mark = c.in_ok-mark.ensures.mark } in
    as_before c.args.heap.now c.mark.new.self c.read_on.new.heap c.undo.new.self c.in_ok-mark.mark.number is c.read_on.ensures.heap.saved c.read_on.ensures.heap.room c.undo.ensures.saved c.undo.ensures.room c.undo.ensures.now

pub returns-then-is_clause-clause-reads : goal.returns-then-is_clause-clause-reads
returns-then-is_clause-clause-reads c =
    stands_on (named c.read_on.new.atoms c.args.ops.now) c.args.text.now c.args.at (length c.mark.new.self.now.images) (length c.args.heap.now.now.images) c.read_on.new.atoms c.read_on.new.heap.now c.forget.new.self.now c.in-Ok.read
    c.requires (ap (λ n. length n.images) c.mark.ensures.now) (ap (λ n. read_of c.read_on.new.atoms n c.in-Ok.read) (sym c.forget.ensures.now)) c.in-Ok.ensures.reads

pub returns-clause-reads : goal.returns-clause-reads
returns-clause-reads c =
    stands_on (named c.read_on.new.atoms c.args.ops.now) c.args.text.now c.args.at (length c.mark.new.self.now.images) (length c.args.heap.now.now.images) c.read_on.new.atoms c.read_on.new.heap.now c.undo-2.new.self.now c.in-Ok.read
    c.requires (ap (λ n. length n.images) c.mark.ensures.now) (read_anywhere c.read_on.new.atoms c.read_on.new.heap.now c.undo-2.new.self.now c.in-Ok.read (sym c.is_clause.ensures ∙ c.if-is_clause.false)) c.in-Ok.ensures.reads

pub returns-clause-heap : goal.returns-clause-heap
returns-clause-heap c =
    let is : IsMarked c.args.heap.now c.mark.new.self c.in_ok-mark.mark.number = record { saved = c.in_ok-mark.ensures.saved; now = c.mark.ensures.now; room = c.mark.ensures.room; mark = c.in_ok-mark.ensures.mark } in
    leaves_not c.args.heap.now c.undo-2.new.self c.in-Ok.read (sym c.is_clause.ensures ∙ c.if-is_clause.false)
    (as_before c.args.heap.now c.mark.new.self c.read_on.new.heap c.undo-2.new.self c.in_ok-mark.mark.number is c.read_on.ensures.heap.saved c.read_on.ensures.heap.room c.undo-2.ensures.saved c.undo-2.ensures.room c.undo-2.ensures.now)

pub returns-in-Err-clause-known : goal.returns-in-Err-clause-known
returns-in-Err-clause-known c known =
    let kept : KeepsTexts c.args.atoms.now c.read_on.new.atoms = λ i x e. c.read_on.ensures.kept i x (c.in_ok-names.ensures.kept i x e) in
    terms_known c.args.atoms.now c.read_on.new.atoms c.args.heap.now.now.terms c.undo.new.self.now.terms kept (ap (λ n. n.terms) (returns-in-Err-clause-heap c).now) known

pub returns-then-is_clause-clause-known : goal.returns-then-is_clause-clause-known
returns-then-is_clause-clause-known c known =
    let marked = terms_known c.args.atoms.now c.new.new.atoms c.args.heap.now.now.terms c.mark.new.self.now.terms c.in_ok-names.ensures.kept (ap (λ n. n.terms) c.mark.ensures.now) known in
    subst (λ n. KnowsTerms c.read_on.new.atoms n.terms) (sym c.forget.ensures.now) (c.in-Ok.ensures.known marked)

pub returns-clause-known : goal.returns-clause-known
returns-clause-known c known =
    let is : IsMarked c.args.heap.now c.mark.new.self c.in_ok-mark.mark.number = record { saved = c.in_ok-mark.ensures.saved; now = c.mark.ensures.now; room = c.mark.ensures.room; mark = c.in_ok-mark.ensures.mark } in
    let before = as_before c.args.heap.now c.mark.new.self c.read_on.new.heap c.undo-2.new.self c.in_ok-mark.mark.number is c.read_on.ensures.heap.saved c.read_on.ensures.heap.room c.undo-2.ensures.saved c.undo-2.ensures.room c.undo-2.ensures.now in
    let kept : KeepsTexts c.args.atoms.now c.read_on.new.atoms = λ i x e. c.read_on.ensures.kept i x (c.in_ok-names.ensures.kept i x e) in
    terms_known c.args.atoms.now c.read_on.new.atoms c.args.heap.now.now.terms c.undo-2.new.self.now.terms kept (ap (λ n. n.terms) before.now) known

pub returns-then-is_clause-clause-forward : goal.returns-then-is_clause-clause-forward
returns-then-is_clause-clause-forward c =
    forward (named c.read_on.new.atoms c.args.ops.now) c.args.text.now c.args.at (length c.args.heap.now.now.images) c.requires c.read_on.new.atoms c.forget.new.self.now c.in-Ok.read (returns-then-is_clause-clause-reads c)

pub returns-clause-forward : goal.returns-clause-forward
returns-clause-forward c =
    forward (named c.read_on.new.atoms c.args.ops.now) c.args.text.now c.args.at (length c.args.heap.now.now.images) c.requires c.read_on.new.atoms c.undo-2.new.self.now c.in-Ok.read (returns-clause-reads c)

pub returns-in_err-names-clause-known : goal.returns-in_err-names-clause-known
returns-in_err-names-clause-known c = let ts = c.args.heap.now.now.terms in terms_known c.args.atoms.now c.new.new.atoms ts ts c.new.ensures.kept (λ i. ts)

pub returns-in_err-mark-clause-known : goal.returns-in_err-mark-clause-known
returns-in_err-mark-clause-known c =
    terms_known c.args.atoms.now c.new.new.atoms c.args.heap.now.now.terms c.mark.new.self.now.terms c.in_ok-names.ensures.kept (ap (λ n. n.terms) c.mark.ensures.now)
