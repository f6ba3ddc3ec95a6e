-- The transcript of the input, as steps of a session.
use Rattle.std.proofs.Common.{◌≡◌, ◌⊎◌, ◌≤◌, ◌<◌, ◌+◌, ◌∙◌, ℕ, suc, List, [], ◌∷◌, ◌++◌, length, take, drop, Bool, true, false, Option, Some, None, Err, IfSome, inl, inr, refl, sym, ap, subst, append-nil, append_assoc, arith, length-append}
use Rattle.std.proofs.lemmas.List.{take-append-drop}
use Rattle.std.specs.Io.KnownBytes.{Consumes, IsAtEnd, Keeps}
use Rattle.cq_outside.specs.Whole.{TakesBytes}
use Rattle.cq_outside.specs.declared.shelf.TheConstants.{SIZE_LIMIT}
use Rattle.cq_outside.proofs.Told.{consumes_more}
use Rattle.cq_read.specs.Inputs.{Input}
use Rattle.spec_text.specs.Decided.{Decided}
use Rattle.spec_text.specs.Readings.{Reads, Ended}
use Rattle.spec_transcript.specs.Causes.{Budgets}
use Rattle.spec_transcript.specs.Session as session
use Rattle.spec_transcript.specs.Session.{Session, Opening, Reading, Over, Marks, unmarked, plain_line, Reader, beginning}
use Rattle.spec_engine.specs.Parts.{both}
use Rattle.spec_command.specs.Outside.{Outside}
use Rattle.cq_session.specs.declared.transcript.halt.Halt.{Halt}
use Rattle.cq_session.specs.declared.transcript.halt.Halt.TheVariants.{Absent, TooLarge, TooMuchInput, Read, Write, Memory}
use Rattle.spec_transcript.specs.declared.Source.TheVariants as source
use Rattle.cq_session.specs.declared.transcript.reading.Pause.{Pause}
use Rattle.cq_session.specs.declared.transcript.reading.Pause.TheVariants.{Needs, End}
use Rattle.cq_session.specs.Sentences.{Program}
use Rattle.cq_session.specs.Progress.{Advanced, Broken}
use Rattle.cq_session.specs.Texts.{IsAt, StandsAt, IsShort, StopsShort, IsPause}
use Rattle.cq_session.specs.Pieces.{CountsReads, HasReadInput, IsUnread}
use Rattle.cq_session.specs.Breaks.{Breaks, ReadsAll, ReadsTaken}
use Rattle.cq_session.proofs.Steps.{one_step, at_start, advanced_both, advanced_quietly, memory_here, broken_more}
use Rattle.cq_session.proofs.Consulting.{broken_breaks}

-- the transcript of the input was written up to the text's place
pub record StandsIn (b : Budgets) (o : Outside) (from : Session) (marks : Marks) (q : Program) (text : Input) (held now : Option (List ℕ)) : Type 0 where
  pub reader : Reader
  pub source : reader.source ≡ source.Input
  pub bytes : reader.bytes ≡ o.input
  pub at : reader.at ≡ text.place
  pub later : reader.later ≡ []
  pub advanced : Advanced b o from marks (Reading q.database reader) held now

-- these bytes of the input were taken, and these are left
pub record Rests (o : Outside) (now : Option (List ℕ)) (bytes : List ℕ) : Type 0 where
  pub rest : List ℕ
  pub left : now ≡ Some rest
  pub split : o.input ≡ bytes ++ rest

rests_some : (xs bytes : List ℕ) (now : Option (List ℕ)) → Consumes (Some xs) now bytes → (rest : List ℕ) × (now ≡ Some rest) × (xs ≡ bytes ++ rest)
rests_some xs bytes (Some rest) h = (rest, refl, h)
rests_some xs bytes None h = absurd h

pub rests : (o : Outside) (left now : Option (List ℕ)) (bytes : List ℕ) → left ≡ Some o.input → Consumes left now bytes → Rests o now bytes
rests o left now bytes told h =
    let (rest, is, split) = rests_some o.input bytes now (subst (λ l. Consumes l now bytes) told h) in
    record { rest = rest; left = is; split = split }

pub rest_at_end : (o : Outside) (left : Option (List ℕ)) (bytes : List ℕ) (r : Rests o left bytes) → IsAtEnd left → r.rest ≡ []
rest_at_end o left bytes r at_end = subst IsAtEnd r.left at_end

-- ---- what was taken

pub takes_none : (left : Option (List ℕ)) (taken : ℕ) → TakesBytes left left taken taken []
takes_none left taken = record { consumed = none left; counted = (omega arith, omega arith) }
  where
    none : (l : Option (List ℕ)) → Consumes l l []
    none (Some xs) = refl
    none None = tt

pub takes_more : (left mid now : Option (List ℕ)) (taken mid_taken now_taken : ℕ) (xs ys : List ℕ) → TakesBytes left mid taken mid_taken xs → TakesBytes mid now mid_taken now_taken ys
    → TakesBytes left now taken now_taken (xs ++ ys)
takes_more left mid now taken mid_taken now_taken xs ys a b = record {
  consumed = consumes_more left mid now xs ys a.consumed b.consumed;
  counted = grind (arith, length-append, a.counted, b.counted);
}

pub room_more : (old new bytes : List ℕ) (room more limit : ℕ) → length old + room ≡ limit → length bytes + more ≡ room → new ≡ old ++ bytes → length new + more ≡ limit
room_more old new bytes room more limit a b e = let n : length new ≡ length old + length bytes = ap length e ∙ length-append old bytes in omega (arith, n, a, b)

pub place_more : (place : ℕ) (old new bytes : List ℕ) → place ≤ length old → new ≡ old ++ bytes → place ≤ length new
place_more place old new bytes fits e = let n : length new ≡ length old + length bytes = ap length e ∙ length-append old bytes in omega (arith, n, fits)

pub unfinished_yet : (P : Type 0) (a b c : Bool) → a ≡ b → b ≡ c → c ≡ false → a ≡ true → P
unfinished_yet P a b c e f g h = let no : true ≡ false = sym h ∙ e ∙ f ∙ g in cc

-- a text that isn't finished pauses where its bytes don't decide what stands next
pub undecided_yet : (x : Pause) (q : Program) (text : Input) → IsPause x q text → text.finished ≡ false → Decided q.database.operators text.bytes text.place → ⊥
undecided_yet Needs q text h e d = h.1 d
undecided_yet End q text h e d = let no : true ≡ false = sym h.0 ∙ e in cc

-- with more bytes behind it a text stops short as before
pub short_more : (old new : Input) (bytes : List ℕ) → StopsShort old → old.finished ≡ false → new.place ≡ old.place → new.bytes ≡ old.bytes ++ bytes
    → StopsShort new
short_more old new bytes short unfinished place same = λ f. elim (short unfinished) [ inl z ↦ inl (place ∙ z) | inr h ↦ inr (omega (arith, n, place, h)) ]
  where
    n : length new.bytes ≡ length old.bytes + length bytes
    n = ap length same ∙ length-append old.bytes bytes

-- no more bytes come
pub short_at_end : (new : Input) → new.finished ≡ true → StopsShort new
short_at_end new f unfinished = let no : true ≡ false = sym f ∙ unfinished in cc

-- more was taken than there was room for
pub split_more : (xs ys rest : List ℕ) (room : ℕ) → (xs ++ ys) ++ rest ≡ (xs ++ take room ys) ++ (drop room ys ++ rest)
split_more xs ys rest room =
    append_assoc xs ys rest ∙ ap (λ l. xs ++ (l ++ rest)) (sym (take-append-drop room ys)) ∙ ap (λ l. xs ++ l) (append_assoc (take room ys) (drop room ys) rest)
    ∙ sym (append_assoc xs (take room ys) (drop room ys ++ rest))

-- ---- programs alone

-- a reader at the text's place, whatever the input is
pub none_waits : (b : Budgets) (p q : Program) (old new : Input) (marks : Marks) (held now : Option (List ℕ))
    → ((o : Outside) (r : Reader) → IsAt r source.Input old p → StandsAt b o r source.Input marks p q new held now) → p.later ≡ [] → q.later ≡ []
none_waits b p q old new marks held now h none =
    let r : Reader = record { source = source.Input; bytes = old.bytes; at = old.place; later = p.later; files = [] } in
    let there : IsAt r source.Input old p = record { source = refl; more = []; bytes = sym (append-nil old.bytes); at = refl; later = refl; whole = λ f. refl } in
    let o : Outside = record { files = λ name. None; input = [] } in
    (h o r there).none_waits refl ∙ none

-- ---- the input is opened

module _ (b : Budgets) (o : Outside) (p : Program) (held : Option (List ℕ)) where
  pub opens_input : (text : Input) → text.place ≡ 0 → StandsIn b o (Opening p.database []) unmarked p text held held
  opens_input text place = record {
    reader = beginning source.Input o.input [];
    source = refl;
    bytes = refl;
    at = sym place;
    later = refl;
    advanced =
        advanced_quietly b o (Opening p.database []) (Opening p.database []) unmarked held held (at_start b o (Opening p.database []) held)
        (Reading p.database (beginning source.Input o.input []))
        (one_step b o (Opening p.database []) (Reading p.database (beginning source.Input o.input [])) [] plain_line session.opens_input);
  }

module _ (b : Budgets) (o : Outside) (from : Session) (m : Marks) (p : Program) (text : Input) (held mid : Option (List ℕ)) (stands : StandsIn b o from m p text held mid) where
  -- another text with the same place
  pub stands_in : (new : Input) → new.place ≡ text.place → StandsIn b o from m p new held mid
  stands_in new place = record {
    reader = stands.reader;
    source = stands.source;
    bytes = stands.bytes;
    at = stands.at ∙ sym place;
    later = stands.later;
    advanced = stands.advanced;
  }

  pub memory_wanted : (left : Option (List ℕ)) → Breaks b o left from Memory held mid
  memory_wanted left = memory_here b o from (Reading p.database stands.reader) m held mid stands.advanced

  module _ (none : p.later ≡ []) (more : List ℕ) (split : o.input ≡ text.bytes ++ more) (whole : text.finished ≡ true → more ≡ []) where
    is_at : IsAt stands.reader source.Input text p
    is_at = record { source = stands.source; more = more; bytes = stands.bytes ∙ split; at = stands.at; later = stands.later ∙ sym none; whole = whole }

    pub text_breaks : (left : Option (List ℕ)) (halt : Halt) (now : Option (List ℕ)) → ((r : Reader) → IsAt r source.Input text p → Broken b o (Reading p.database r) halt mid now)
        → Breaks b o left from halt held now
    text_breaks left halt now part =
        broken_breaks b o left from halt held now (broken_more b o from (Reading p.database stands.reader) m held mid stands.advanced halt now (part stands.reader is_at))

    pub reads_on : (k : Marks) (q : Program) (new : Input) (now : Option (List ℕ)) → q.later ≡ []
        → ((r : Reader) → IsAt r source.Input text p → StandsAt b o r source.Input k p q new mid now) → StandsIn b o from (both m k) q new held now
    reads_on k q new now nothing behind =
        let h = behind stands.reader is_at in
        record {
          reader = h.reader;
          source = h.is_at.source;
          bytes = h.bytes ∙ stands.bytes;
          at = h.is_at.at;
          later = h.is_at.later ∙ nothing;
          advanced = advanced_both b o from (Reading p.database stands.reader) m held mid stands.advanced (Reading q.database h.reader) k now h.advanced;
        }

  -- ---- ends

  pub reads_all : IsShort text → (Decided p.database.operators text.bytes text.place → ⊥) → ReadsAll b o from text.bytes held mid
  reads_all short undecided = record {
    database = p.database;
    reader = stands.reader;
    is_input = stands.source;
    short = subst (λ n. (n ≡ 0) ⊎ (n < length text.bytes)) (sym stands.at) short;
    undecided = λ d. undecided (subst (λ n. Decided p.database.operators text.bytes n) stands.at d);
    marks = m;
    advanced = stands.advanced;
  }

  -- a read failed
  pub read_fails : (left now_left : Option (List ℕ)) → Rests o left text.bytes → Keeps left now_left → length text.bytes ≤ SIZE_LIMIT
      → IsShort text → (Decided p.database.operators text.bytes text.place → ⊥) → Breaks b o now_left from Read held mid
  read_fails left now_left rest keeps small short undecided = inr (go now_left refl (subst (λ l. Keeps l now_left) rest.left keeps))
    where
      go : (l : Option (List ℕ)) → now_left ≡ l → Keeps (Some rest.rest) l → (bytes : List ℕ) × (now_left ≡ Some bytes) × ReadsTaken b o from bytes held mid
      go (Some ys) is same =
          (ys, is, record { taken = text.bytes; split = rest.split ∙ ap (λ l. text.bytes ++ l) (sym same); small = small; all = reads_all short undecided })
      go None is same = absurd same

  -- what stands in the way of a piece
  pub piece_breaks : (left now_left : Option (List ℕ)) (T : Type 0) (before after : ℕ) (halt : Halt) → Rests o left text.bytes → IsUnread left now_left halt
      → CountsReads {T = T} before after (Err halt) → length text.bytes ≤ SIZE_LIMIT → IsShort text → (Decided p.database.operators text.bytes text.place → ⊥)
      → Breaks b o now_left from halt held mid
  piece_breaks left now_left T before after Read rest keeps cause small short undecided = read_fails left now_left rest keeps small short undecided
  piece_breaks left now_left T before after Memory rest keeps cause small short undecided = memory_wanted now_left
  piece_breaks left now_left T before after Write rest keeps cause small short undecided = absurd cause
  piece_breaks left now_left T before after (Absent name) rest keeps cause small short undecided = absurd cause
  piece_breaks left now_left T before after (TooLarge name) rest keeps cause small short undecided = absurd cause
  piece_breaks left now_left T before after TooMuchInput rest keeps cause small short undecided = absurd cause

  -- the input is at its end
  pub input_read : (left : Option (List ℕ)) → Rests o left text.bytes → IsAtEnd left → length text.bytes ≤ SIZE_LIMIT → Reads p.database.operators text.bytes text.place Ended
      → HasReadInput b o left from m held mid
  input_read left rest at_end small ends =
      let none : rest.rest ≡ [] = subst IsAtEnd rest.left at_end in
      let same : o.input ≡ text.bytes = rest.split ∙ ap (λ l. text.bytes ++ l) none ∙ append-nil text.bytes in
      record {
        database = p.database;
        advanced =
            advanced_quietly b o from (Reading p.database stands.reader) m held mid stands.advanced (Over p.database)
            (one_step b o (Reading p.database stands.reader) (Over p.database) [] plain_line
            (session.input_ends
            (subst (λ n. Reads p.database.operators stands.reader.bytes n Ended) (sym stands.at)
            (subst (λ bs. Reads p.database.operators bs text.place Ended) (sym (stands.bytes ∙ same)) ends)) stands.source stands.later));
        size = subst (λ l. length l ≤ SIZE_LIMIT) (sym same) small;
        read = subst (λ l. IfSome l (λ bytes. bytes ≡ [])) (sym rest.left) none;
      }

-- ---- the limit

take_within : (xs ys : List ℕ) (room : ℕ) → take (length xs + room) (xs ++ ys) ≡ xs ++ take room ys
take_within [] ys room = let e : length {A = ℕ} [] + room ≡ room = omega arith in ap (λ n. take n ys) e
take_within (x ∷ xs) ys room =
    let e : length (x ∷ xs) + room ≡ suc (length xs + room) = omega arith in
    ap (λ n. take n (x ∷ (xs ++ ys))) e ∙ ap (λ l. x ∷ l) (take_within xs ys room)

module _ (b : Budgets) (o : Outside) (from : Session) (m : Marks) (q : Program) (text new : Input) (held now : Option (List ℕ)) (stands : StandsIn b o from m q new held now) (piece : List ℕ) (room : ℕ)
    (has : new.bytes ≡ text.bytes ++ take room piece) (fill : length text.bytes + room ≡ SIZE_LIMIT) (large : room < length piece) where
  within_limit : take SIZE_LIMIT (text.bytes ++ piece) ≡ new.bytes
  within_limit = ap (λ n. take n (text.bytes ++ piece)) (sym fill) ∙ take_within text.bytes piece room ∙ sym has

  pub limit_passed : (left : Option (List ℕ)) → Rests o left (text.bytes ++ piece) → IsShort new → (Decided q.database.operators new.bytes new.place → ⊥)
      → Breaks b o left from TooMuchInput held now
  limit_passed left rest short undecided = (
    rest.rest,
    rest.left,
    record {
      taken = text.bytes ++ piece;
      split = rest.split;
      large = omega (arith, length-append text.bytes piece, fill, large);
      all = subst (λ l. ReadsAll b o from l held now) (sym within_limit) (reads_all b o from m q new held now stands short undecided);
    },
  )
