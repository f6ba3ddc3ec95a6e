use Rattle.std.proofs.Common.{◌≡◌, ◌≤◌, ◌∙◌, ◌++◌, take, drop, false, inl, refl, sym, ap, subst, arith, length, append-nil}
use Rattle.std.proofs.lemmas.Result.{err_from_is_err_and}
use Rattle.std.specs.Io.KnownBytes.{Consumes}
use Rattle.cq_outside.specs.declared.shelf.TheConstants.{SIZE_LIMIT}
use Rattle.cq_session.specs.declared.transcript.input.Piece.{Piece}
use Rattle.cq_session.specs.Texts.{StopsShort}
use Rattle.cq_session.proofs.Inputs.{rests, rest_at_end, takes_none, takes_more, room_more, place_more, unfinished_yet, undecided_yet, split_more, short_more, short_at_end, none_waits, opens_input, stands_in, text_breaks, reads_on, piece_breaks, input_read, limit_passed}
use Rattle.cq_session.proofs.transcript.input.write_input.Goals as goal

pub pieces-init : goal.pieces-init
pieces-init g c =
    let e = c.new-text.ensures in
    record {
      stands = λ o told. rw c.none-lines.ensures (opens_input _ o _ _ c.new-text.result e.place);
      taken = rw e.bytes (takes_none _ _);
      room = rw e.bytes refl;
      finished = λ f. unfinished_yet _ _ _ _ refl refl e.finished f;
      place = omega (arith, e.place);
      short = λ f. inl e.place;
      none_waits = c.requires.none_waits;
      kept = c.requires.kept;
      budgets = refl;
      reads = refl;
      writes = refl;
    }

pub returns-in_err-pause-clause-part : goal.returns-in_err-pause-clause-part
returns-in_err-pause-clause-part g c =
    let p = err_from_is_err_and c.from_residual.result c.from_residual.ensures.1 in
    let i = c.pieces.invariant in
    let part = rw i.budgets at c.in_err-pause.ensures.part in
    rw (p.1, p.2)
    (λ o told.
    let r = rests o _ _ c.pieces.text.bytes told i.taken.consumed in
    text_breaks _ o _ _ (g.P.Interpreter.program c.pieces.program) c.pieces.text _ _ (i.stands o told) i.none_waits r.rest r.split (λ f. rest_at_end o _ _ r (i.finished f)) _ _ _ (part o))

pub returns-in-End-clause-whole : goal.returns-in-End-clause-whole
returns-in-End-clause-whole g c =
    let i = c.pieces.invariant in
    let e = c.in_ok-pause.ensures in
    let whole = rw i.budgets at e.whole in
    let pause = rw c.in-End.is at e.pause in
    let nothing = none_waits _ (g.P.Interpreter.program c.pieces.program) (g.P.Interpreter.program c.write_text.new.program) c.pieces.text c.write_text.new.text _ _ _ whole i.none_waits in
    let at_end = i.finished (sym e.finished ∙ pause.0) in
    let small : length c.write_text.new.text.bytes ≤ SIZE_LIMIT = subst (λ l. length l ≤ SIZE_LIMIT) (sym e.bytes) (omega (arith, i.room)) in
    rw c.and-lines.ensures
    (λ o told.
    let r = rests o _ _ c.pieces.text.bytes told i.taken.consumed in
    let s = rests o _ _ c.write_text.new.text.bytes told (subst (λ l. Consumes (g.I.Source.left c.args.input.now) (g.I.Source.left c.pieces.input) l) (sym e.bytes) i.taken.consumed) in
    input_read _ o _ _ (g.P.Interpreter.program c.write_text.new.program) c.write_text.new.text _ _
    (reads_on _ o _ _ (g.P.Interpreter.program c.pieces.program) c.pieces.text _ _ (i.stands o told) i.none_waits r.rest r.split (λ f. rest_at_end o _ _ r (i.finished f)) _
    (g.P.Interpreter.program c.write_text.new.program) c.write_text.new.text _ nothing (whole o)) _ s at_end small pause.1)

pub returns-in_err-left-clause-part : goal.returns-in_err-left-clause-part
returns-in_err-left-clause-part g c =
    let p = err_from_is_err_and c.from_residual-in_err-left.result c.from_residual-in_err-left.ensures.1 in
    let i = c.pieces.invariant in
    let e = c.in_ok-pause.ensures in
    let whole = rw i.budgets at e.whole in
    let pause = rw c.in-Needs.is at e.pause in
    let nothing = none_waits _ (g.P.Interpreter.program c.pieces.program) (g.P.Interpreter.program c.write_text.new.program) c.pieces.text c.write_text.new.text _ _ _ whole i.none_waits in
    let small : length c.write_text.new.text.bytes ≤ SIZE_LIMIT = subst (λ l. length l ≤ SIZE_LIMIT) (sym e.bytes) (omega (arith, i.room)) in
    rw (p.1, p.2)
    (λ o told.
    let r = rests o _ _ c.pieces.text.bytes told i.taken.consumed in
    let s = rests o _ _ c.write_text.new.text.bytes told (subst (λ l. Consumes (g.I.Source.left c.args.input.now) (g.I.Source.left c.pieces.input) l) (sym e.bytes) i.taken.consumed) in
    piece_breaks _ o _ _ (g.P.Interpreter.program c.write_text.new.program) c.write_text.new.text _ _
    (reads_on _ o _ _ (g.P.Interpreter.program c.pieces.program) c.pieces.text _ _ (i.stands o told) i.none_waits r.rest r.split (λ f. rest_at_end o _ _ r (i.finished f)) _
    (g.P.Interpreter.program c.write_text.new.program) c.write_text.new.text _ nothing (whole o)) _ _ Piece _ _ _ s c.in_err-left.ensures.unread c.in_err-left.ensures.cause
    small (e.short i.short pause.0) pause.1)

pub pieces-preserved-in-Bytes : goal.pieces-preserved-in-Bytes
pieces-preserved-in-Bytes g c =
    let i = c.pieces.invariant in
    let e = c.in_ok-pause.ensures in
    let whole = rw i.budgets at e.whole in
    let pause = rw c.in-Needs.is at e.pause in
    let nothing = none_waits _ (g.P.Interpreter.program c.pieces.program) (g.P.Interpreter.program c.write_text.new.program) c.pieces.text c.write_text.new.text _ _ _ whole i.none_waits in
    let piece = rw c.in-Bytes.is at c.in_ok-left.ensures.piece in
    let same : c.read_piece.new.text.bytes ≡ c.write_text.new.text.bytes ++ piece.0 = ap (λ x. x.bytes) piece.4 in
    let bytes : c.read_piece.new.text.bytes ≡ c.pieces.text.bytes ++ piece.0 = same ∙ ap (λ l. l ++ piece.0) e.bytes in
    record {
      stands = λ o told.
          let r = rests o _ _ c.pieces.text.bytes told i.taken.consumed in
          rw c.and-lines.ensures
          (stands_in _ o _ _ (g.P.Interpreter.program c.write_text.new.program) c.write_text.new.text _ _
          (reads_on _ o _ _ (g.P.Interpreter.program c.pieces.program) c.pieces.text _ _ (i.stands o told) i.none_waits r.rest r.split (λ f. rest_at_end o _ _ r (i.finished f)) _
          (g.P.Interpreter.program c.write_text.new.program) c.write_text.new.text _ nothing (whole o)) c.read_piece.new.text (ap (λ x. x.place) piece.4));
      taken = rw bytes (takes_more _ _ _ _ _ _ _ _ i.taken piece.1);
      room = room_more c.pieces.text.bytes c.read_piece.new.text.bytes piece.0 _ _ _ i.room piece.3 bytes;
      finished = λ f. unfinished_yet _ _ _ _ (ap (λ x. x.finished) piece.4) refl pause.0 f;
      place = place_more _ _ _ _ (subst (λ n. n ≤ length c.write_text.new.text.bytes) (sym (ap (λ x. x.place) piece.4)) e.place) same;
      short = short_more c.write_text.new.text c.read_piece.new.text piece.0 (e.short i.short) pause.0 (ap (λ x. x.place) piece.4) same;
      none_waits = nothing;
      kept = e.kept;
      budgets = e.budgets ∙ i.budgets;
      reads = c.in_ok-left.ensures.cause ∙ i.reads;
      writes = e.cause ∙ i.writes;
    }

pub pieces-preserved : goal.pieces-preserved
pieces-preserved g c =
    let i = c.pieces.invariant in
    let e = c.in_ok-pause.ensures in
    let whole = rw i.budgets at e.whole in
    let nothing = none_waits _ (g.P.Interpreter.program c.pieces.program) (g.P.Interpreter.program c.write_text.new.program) c.pieces.text c.write_text.new.text _ _ _ whole i.none_waits in
    let piece = rw c.in-End-2.is at c.in_ok-left.ensures.piece in
    let bytes : c.read_piece.new.text.bytes ≡ c.pieces.text.bytes = ap (λ x. x.bytes) piece.2 ∙ e.bytes in
    record {
      stands = λ o told.
          let r = rests o _ _ c.pieces.text.bytes told i.taken.consumed in
          rw c.and-lines.ensures
          (stands_in _ o _ _ (g.P.Interpreter.program c.write_text.new.program) c.write_text.new.text _ _
          (reads_on _ o _ _ (g.P.Interpreter.program c.pieces.program) c.pieces.text _ _ (i.stands o told) i.none_waits r.rest r.split (λ f. rest_at_end o _ _ r (i.finished f)) _
          (g.P.Interpreter.program c.write_text.new.program) c.write_text.new.text _ nothing (whole o)) c.read_piece.new.text (ap (λ x. x.place) piece.2));
      taken = rw (bytes, ← append-nil c.pieces.text.bytes) (takes_more _ _ _ _ _ _ _ _ i.taken piece.0);
      room = rw bytes i.room;
      finished = λ f. piece.1;
      place = rw (ap (λ x. x.bytes) piece.2, ap (λ x. x.place) piece.2) e.place;
      short = short_at_end c.read_piece.new.text (ap (λ x. x.finished) piece.2);
      none_waits = nothing;
      kept = e.kept;
      budgets = e.budgets ∙ i.budgets;
      reads = c.in_ok-left.ensures.cause ∙ i.reads;
      writes = e.cause ∙ i.writes;
    }

pub returns-in_err-write_text-in-TooMuch-clause-part :
    goal.returns-in_err-write_text-in-TooMuch-clause-part
returns-in_err-write_text-in-TooMuch-clause-part g c =
    let p = err_from_is_err_and c.from_residual-in_err-write_text-in-TooMuch.result c.from_residual-in_err-write_text-in-TooMuch.ensures.1 in
    let i = c.pieces.invariant in
    let e = c.in_ok-pause.ensures in
    let whole = rw i.budgets at e.whole in
    let pause = rw c.in-Needs.is at e.pause in
    let from = g.P.Interpreter.program c.pieces.program in
    let mid = g.P.Interpreter.program c.write_text.new.program in
    let nothing = none_waits _ from mid c.pieces.text c.write_text.new.text _ _ _ whole i.none_waits in
    let piece = rw c.in-TooMuch.is at c.in_ok-left.ensures.piece in
    let bytes : c.read_piece.new.text.bytes ≡ c.pieces.text.bytes ++ take c.pieces.room piece.0 =
    ap (λ x. x.bytes) piece.3 ∙ ap (λ l. l ++ take c.pieces.room piece.0) e.bytes in
    let taken = (takes_more _ _ _ _ _ _ _ _ i.taken piece.1).consumed in
    let part = rw (e.budgets, i.budgets) at c.in_err-write_text-in-TooMuch.ensures.part in
    rw (p.1, p.2)
    (λ o told.
    let r = rests o _ _ c.pieces.text.bytes told i.taken.consumed in
    let t = rests o _ _ (c.pieces.text.bytes ++ piece.0) told taken in
    let stands =
    stands_in _ o _ _ mid c.write_text.new.text _ _
    (reads_on _ o _ _ from c.pieces.text _ _ (i.stands o told) i.none_waits r.rest r.split (λ f. rest_at_end o _ _ r (i.finished f)) _ mid c.write_text.new.text _ nothing (whole o))
    c.read_piece.new.text (ap (λ x. x.place) piece.3) in
    let split = t.split ∙ split_more c.pieces.text.bytes piece.0 t.rest c.pieces.room ∙ ap (λ l. l ++ (drop c.pieces.room piece.0 ++ t.rest)) (sym bytes) in
    text_breaks _ o _ _ mid c.read_piece.new.text _ _ stands nothing (drop c.pieces.room piece.0 ++ t.rest) split
    (λ f. unfinished_yet _ _ _ _ (ap (λ x. x.finished) piece.3) refl pause.0 f) _ _ _ (part o))

pub returns-in-TooMuch-clause-part : goal.returns-in-TooMuch-clause-part
returns-in-TooMuch-clause-part g c =
    let i = c.pieces.invariant in
    let e = c.in_ok-pause.ensures in
    let whole = rw i.budgets at e.whole in
    let pause = rw c.in-Needs.is at e.pause in
    let from = g.P.Interpreter.program c.pieces.program in
    let mid = g.P.Interpreter.program c.write_text.new.program in
    let nothing = none_waits _ from mid c.pieces.text c.write_text.new.text _ _ _ whole i.none_waits in
    let piece = rw c.in-TooMuch.is at c.in_ok-left.ensures.piece in
    let bytes : c.read_piece.new.text.bytes ≡ c.pieces.text.bytes ++ take c.pieces.room piece.0 =
    ap (λ x. x.bytes) piece.3 ∙ ap (λ l. l ++ take c.pieces.room piece.0) e.bytes in
    let taken = (takes_more _ _ _ _ _ _ _ _ i.taken piece.1).consumed in
    let second = c.in_ok-write_text-in-TooMuch.ensures in
    let behind = rw (e.budgets, i.budgets) at second.whole in
    let last = g.P.Interpreter.program c.write_text-in-TooMuch.new.program in
    let unfinished : c.write_text-in-TooMuch.new.text.finished ≡ false = second.finished ∙ ap (λ x. x.finished) piece.3 ∙ pause.0 in
    let between : StopsShort c.read_piece.new.text =
    short_more c.write_text.new.text c.read_piece.new.text (take c.pieces.room piece.0) (e.short i.short) pause.0 (ap (λ x. x.place) piece.3) (ap (λ x. x.bytes) piece.3) in
    let still = none_waits _ mid last c.read_piece.new.text c.write_text-in-TooMuch.new.text _ _ _ behind nothing in
    λ o told.
    let r = rests o _ _ c.pieces.text.bytes told i.taken.consumed in
    let t = rests o _ _ (c.pieces.text.bytes ++ piece.0) told taken in
    let stands =
    stands_in _ o _ _ mid c.write_text.new.text _ _
    (reads_on _ o _ _ from c.pieces.text _ _ (i.stands o told) i.none_waits r.rest r.split (λ f. rest_at_end o _ _ r (i.finished f)) _ mid c.write_text.new.text _ nothing (whole o))
    c.read_piece.new.text (ap (λ x. x.place) piece.3) in
    let split = t.split ∙ split_more c.pieces.text.bytes piece.0 t.rest c.pieces.room ∙ ap (λ l. l ++ (drop c.pieces.room piece.0 ++ t.rest)) (sym bytes) in
    limit_passed _ o _ _ last c.pieces.text c.write_text-in-TooMuch.new.text _ _
    (reads_on _ o _ _ mid c.read_piece.new.text _ _ stands nothing (drop c.pieces.room piece.0 ++ t.rest) split
    (λ f. unfinished_yet _ _ _ _ (ap (λ x. x.finished) piece.3) refl pause.0 f) _ last c.write_text-in-TooMuch.new.text _ still (behind o))
    piece.0 c.pieces.room (second.bytes ∙ bytes) i.room piece.2 _ t (second.short between unfinished)
    (undecided_yet _ last c.write_text-in-TooMuch.new.text second.pause unfinished)
