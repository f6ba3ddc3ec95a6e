-- What is accepted from a state on completes a log, line by line.
use Rattle.std.proofs.Common.{◌≡◌, ℕ, zero, suc, ◌+◌, ◌-◌, ◌<◌, ◌≤◌, arith, List, [], ◌∷◌, ◌++◌, length, map, max, Bool, true, false, cond, not, ◌&&◌, ◌||◌, nat_eq, nat_le, nat_lt, Option, Some, None, codes, append-nil, append_assoc, refl, sym, ap, ap₂, subst, ◌∙◌}
use Rattle.std.specs.Prelude.{◌==◌}
use Rattle.std.specs.List.{AllByRecursion, slice_split, join_with_byte}
use Rattle.std.proofs.lemmas.List.Splits.{join_with_byte-slice_split}
use Rattle.spec_numbers.specs.Texts.{Text}
use Rattle.spec_numbers.specs.Rational.{ℚ}
use Rattle.spec_numbers.proofs.Tests.{nat_eq-same, true_le}
use Rattle.spec_linear.specs.Form.{is_zero}
use Rattle.spec_linear.specs.Solution.{Constraint}
use Rattle.spec_linear.specs.Certificate.{IsFalseRun}
use Rattle.spec_linear.proofs.Values.{is_zero-false}
use Rattle.cq_frac.specs.Fits.{limit}
use Rattle.spec_log.specs.declared.Verdict.{Verdict}
use Rattle.spec_log.specs.declared.Verdict.TheVariants.{Accepted, Wrong, Wide}
use Rattle.spec_log.specs.Log.{Run, Runs, one, two, Entry, PairFits, MemberFits, RunsFit, member_words, run_words, runs_words, list_words, entries_words, head_words, done_words, lines_text, log_text, AreCounted, seen_after, IsNumbered, AreCut, AreRefuting, IsLawful, IsLog}
use Rattle.spec_log.specs.Verdicts.{State, Start, Between, Listing, Proving, Proved, Ended, Found, goes, ends, are_counted, products_of, counted_in, is_head, member_in, run_in, is_wide, is_false_run, are_false_runs, begins_a_run, listing, ended_if, list_or, between, listed, proved, proved_twice, step, finish, check_from, verdict}
use Rattle.spec_log.proofs.Words.{four_are, Reads, RunReads, CountReads, member_is, run_is, counted_is, head_is}
use Rattle.spec_log.proofs.Sums.{false_run, false_runs}

-- ---- what the lines that are left have to be

abbrev Lines : Type 0
Lines = List (List Text)

-- entries and the last line
pub record Ends (n : ℕ) (k : ℕ) (ls : Lines) : Type 0 where
  pub entries : List Entry
  pub words : ls ≡ entries_words entries ++ done_words n ∷ []
  pub count : k + length entries ≡ n
  pub fits : n < limit
  pub lawful : AllByRecursion IsLawful entries

-- members, runs, entries and the last line
pub record Lists (n k left seen : ℕ) (l : List Constraint) (ls : Lines) : Type 0 where
  pub members : List Constraint
  pub size : length members ≡ left
  pub runs : Runs
  pub behind : Lines
  pub words : ls ≡ map member_words members ++ runs_words runs ++ behind
  pub numbered : IsNumbered seen members
  pub members_fit : AllByRecursion MemberFits members
  pub refuted : AreRefuting (l ++ members) runs
  pub runs_fit : RunsFit runs
  pub ends : Ends n (suc k) behind

pub record Proves (n k : ℕ) (l : List Constraint) (ls : Lines) : Type 0 where
  pub runs : Runs
  pub behind : Lines
  pub words : ls ≡ runs_words runs ++ behind
  pub refuted : AreRefuting l runs
  pub runs_fit : RunsFit runs
  pub ends : Ends n (suc k) behind

-- behind a first run: another, or the next entry
pub data Goes (n k : ℕ) (l : List Constraint) (r : Run) (ls : Lines) : Type 0 where
  alone : IsFalseRun l r → Ends n (suc k) ls → Goes n k l r ls
  another : (s : Run) (behind : Lines) → ls ≡ run_words s ∷ behind → AllByRecursion PairFits s → AreCut l r s → Ends n (suc k) behind → Goes n k l r ls

pub record Begins (n : ℕ) (ls : Lines) : Type 0 where
  pub behind : Lines
  pub words : ls ≡ head_words ∷ behind
  pub ends : Ends n 0 behind

abbrev Completes : State → ℕ → Lines → Type 0
Completes Start n ls = Begins n ls
Completes (Between k) n ls = Ends n k ls
Completes (Listing k left seen l) n ls = Lists n k left seen l ls
Completes (Proving k l) n ls = Proves n k l ls
Completes (Proved k l r) n ls = Goes n k l r ls
Completes (Ended k) n ls = (ls ≡ []) × (k ≡ n)

-- ---- numbers of variables

less_is : (m n : ℕ) → nat_lt m n ≡ true → m < n
less_is m n e = true_le (suc m) n e

counted_ones : (seen last : ℕ) (ps : List (ℕ × ℚ)) → are_counted seen last ps ≡ true → AreCounted seen last (products_of ps)
counted_ones seen last [] e = tt
counted_ones seen last (p ∷ ps) e =
    let k = four_are (nat_lt last p.0) (nat_le p.0 (suc seen)) (not (is_zero p.1)) (are_counted (max seen p.0) p.0 ps) e in
    (less_is last p.0 k.0, true_le p.0 (suc seen) k.1, is_zero-false p.1 (not_true (is_zero p.1) k.2), counted_ones (max seen p.0) p.0 ps k.3)
  where
    not_true : (b : Bool) → not b ≡ true → b ≡ false
    not_true true d = cc
    not_true false d = refl

-- ---- a list begins, or the end comes

listing_is : (n k left seen : ℕ) (l : List Constraint) (ls : Lines) → Completes (listing k left seen l) n ls → Lists n k left seen l ls
listing_is n k zero seen l ls h = record {
  members = [];
  size = refl;
  runs = h.runs;
  behind = h.behind;
  words = h.words;
  numbered = tt;
  members_fit = tt;
  refuted = subst (λ m. AreRefuting m h.runs) (sym (append-nil l)) h.refuted;
  runs_fit = h.runs_fit;
  ends = h.ends;
}
listing_is n k (suc left) seen l ls h = h

-- a whole entry in front
list_begins : (n k m : ℕ) (ls : Lines) → m < limit → Lists n k m 0 [] ls → Ends n k (list_words m ∷ ls)
list_begins n k m ls f h = go h.ends
  where
    entry : Entry
    entry = record { list = h.members; runs = h.runs }

    lawful : IsLawful entry
    lawful = record {
      numbered = h.numbered;
      refuted = h.refuted;
      size = subst (λ x. x < limit) (sym h.size) f;
      members = h.members_fit;
      runs = h.runs_fit;
    }

    go : Ends n (suc k) h.behind → Ends n k (list_words m ∷ ls)
    go e = record {
      entries = entry ∷ e.entries;
      words = ap₂ (λ a s. list_words a ∷ s) (sym h.size)
          (h.words ∙ ap (λ s. map member_words h.members ++ runs_words h.runs ++ s) e.words
          ∙ sym (append_assoc (map member_words h.members ++ runs_words h.runs) (entries_words e.entries) (done_words n ∷ [])));
      count = omega (arith, e.count);
      fits = e.fits;
      lawful = (lawful, e.lawful);
    }

between_is : (line k : ℕ) (ws : List Text) (st : State) (n : ℕ) (ls : Lines) → between line k ws ≡ goes st → Completes st n ls → Ends n k (ws ∷ ls)
between_is line k ws st n ls e h = go (counted_in (codes "list") ws) refl e
  where
    by_number : (m : ℕ) → counted_in (codes "done") ws ≡ Some m → (x : Bool) → nat_eq m k ≡ x → cond x (goes (Ended k)) (ends (Wrong line)) ≡ goes st → Ends n k (ws ∷ ls)
    by_number m i true j d =
        let s : Ended k ≡ st = cc in
        let c : Completes (Ended k) n ls = subst (λ t. Completes t n ls) (sym s) h in
        let w = counted_is (codes "done") ws m i in
        let same : m ≡ n = nat_eq-same m k j ∙ c.1 in
        record {
          entries = [];
          words = ap₂ (λ a b. a ∷ b) (sym w.words ∙ ap done_words same) c.0;
          count = let z : k ≡ n = c.1 in omega (arith, z);
          fits = subst (λ x. x < limit) same w.fits;
          lawful = tt;
        }
    by_number m i false j d = cc

    last : (x : Option ℕ) → counted_in (codes "done") ws ≡ x → ended_if line k x ≡ goes st → Ends n k (ws ∷ ls)
    last None i d = cc
    last (Some m) i d = by_number m i (nat_eq m k) refl d

    go : (x : Option ℕ) → counted_in (codes "list") ws ≡ x → list_or line k ws x ≡ goes st → Ends n k (ws ∷ ls)
    go None i d = last (counted_in (codes "done") ws) refl d
    go (Some m) i d =
        let s : listing k m 0 [] ≡ st = cc in
        let w = counted_is (codes "list") ws m i in
        subst (λ v. Ends n k (v ∷ ls)) w.words
        (list_begins n k m ls w.fits (listing_is n k m 0 [] ls (subst (λ t. Completes t n ls) (sym s) h)))

-- ---- one line

member_follows : (line k left seen : ℕ) (l : List Constraint) (ws : List Text) (st : State) (n : ℕ) (ls : Lines)
    → listed line k left seen l (member_in seen ws) ≡ goes st → Completes st n ls → Lists n k (suc left) seen l (ws ∷ ls)
member_follows line k left seen l ws st n ls e h = go (member_in seen ws) refl e
  where
    with_it : (c : Constraint) → Reads seen ws c → Lists n k left (seen_after seen c.form.products) (l ++ c ∷ []) ls → Lists n k (suc left) seen l (ws ∷ ls)
    with_it c r m = record {
      members = c ∷ m.members;
      size = ap suc m.size;
      runs = m.runs;
      behind = m.behind;
      words = ap₂ (λ a s. a ∷ s) (sym r.words) m.words;
      numbered = (subst (AreCounted seen 0) (sym r.products) (counted_ones seen 0 r.pairs r.counted), m.numbered);
      members_fit = (r.fits, m.members_fit);
      refuted = subst (λ t. AreRefuting t m.runs) (append_assoc l (c ∷ []) m.members) m.refuted;
      runs_fit = m.runs_fit;
      ends = m.ends;
    }

    go : (x : Option Constraint) → member_in seen ws ≡ x → listed line k left seen l x ≡ goes st → Lists n k (suc left) seen l (ws ∷ ls)
    go None i d = cc
    go (Some c) i d =
        let s : listing k left (seen_after seen c.form.products) (l ++ c ∷ []) ≡ st = cc in
        with_it c (member_is seen ws c i) (listing_is n k left (seen_after seen c.form.products) (l ++ c ∷ []) ls (subst (λ t. Completes t n ls) (sym s) h))

run_follows : (line k : ℕ) (l : List Constraint) (ws : List Text) (st : State) (n : ℕ) (ls : Lines)
    → proved line k l (run_in (length l) ws) ≡ goes st → Completes st n ls → Proves n k l (ws ∷ ls)
run_follows line k l ws st n ls e h = go (run_in (length l) ws) refl e
  where
    with_it : (r : Run) → RunReads ws r → Goes n k l r ls → Proves n k l (ws ∷ ls)
    with_it r w (alone f g) = record { runs = one r; behind = ls; words = ap (λ a. a ∷ ls) (sym w.words); refuted = f; runs_fit = w.fit; ends = g }
    with_it r w (another s behind i t f g) = record {
      runs = two r s;
      behind = behind;
      words = ap₂ (λ a b. a ∷ b) (sym w.words) i;
      refuted = f;
      runs_fit = (w.fit, t);
      ends = g;
    }

    by_test : (r : Run) → run_in (length l) ws ≡ Some r → (x : Bool) → cond x (ends (Wide line)) (goes (Proved k l r)) ≡ goes st → Proves n k l (ws ∷ ls)
    by_test r i true d = cc
    by_test r i false d = let s : Proved k l r ≡ st = cc in with_it r (run_is (length l) ws r i) (subst (λ t. Completes t n ls) (sym s) h)

    go : (x : Option Run) → run_in (length l) ws ≡ x → proved line k l x ≡ goes st → Proves n k l (ws ∷ ls)
    go None i d = cc
    go (Some r) i d = by_test r i (is_wide l r) d

second_follows : (line k : ℕ) (l : List Constraint) (r : Run) (ws : List Text) (st : State) (n : ℕ) (ls : Lines)
    → proved_twice line k l r (run_in (length l) ws) ≡ goes st → Completes st n ls → Goes n k l r (ws ∷ ls)
second_follows line k l r ws st n ls e h = go (run_in (length l) ws) refl e
  where
    by_tests : (s : Run) → run_in (length l) ws ≡ Some s → (x y : Bool) → are_false_runs l r s ≡ y
        → cond x (ends (Wide line)) (cond y (goes (Between (suc k))) (ends (Wrong line))) ≡ goes st → Goes n k l r (ws ∷ ls)
    by_tests s i true y j d = cc
    by_tests s i false true j d =
        let t : Between (suc k) ≡ st = cc in
        let w = run_is (length l) ws s i in
        another s ls (ap (λ a. a ∷ ls) (sym w.words)) w.fit (false_runs l r s j) (subst (λ q. Completes q n ls) (sym t) h)
    by_tests s i false false j d = cc

    go : (x : Option Run) → run_in (length l) ws ≡ x → proved_twice line k l r x ≡ goes st → Goes n k l r (ws ∷ ls)
    go None i d = cc
    go (Some s) i d = by_tests s i (is_wide l s) (are_false_runs l r s) refl d

line_follows : (line : ℕ) (st next : State) (ws : List Text) (n : ℕ) (ls : Lines) → step line st ws ≡ goes next → Completes next n ls → Completes st n (ws ∷ ls)
line_follows line Start next ws n ls e h = go (is_head ws) refl e
  where
    go : (x : Bool) → is_head ws ≡ x → cond x (goes (Between 0)) (ends (Wrong line)) ≡ goes next → Begins n (ws ∷ ls)
    go true i d =
        let s : Between 0 ≡ next = cc in
        record { behind = ls; words = ap (λ a. a ∷ ls) (sym (head_is ws i)); ends = subst (λ t. Completes t n ls) (sym s) h }
    go false i d = cc
line_follows line (Between k) next ws n ls e h = between_is line k ws next n ls e h
line_follows line (Listing k zero seen l) next ws n ls e h = cc
line_follows line (Listing k (suc left) seen l) next ws n ls e h = member_follows line k left seen l ws next n ls e h
line_follows line (Proving k l) next ws n ls e h = run_follows line k l ws next n ls e h
line_follows line (Proved k l r) next ws n ls e h = go (begins_a_run ws) (is_false_run l r) refl e
  where
    go : (x y : Bool) → is_false_run l r ≡ y
        → cond x (proved_twice line k l r (run_in (length l) ws)) (cond y (between line (suc k) ws) (ends (Wrong (line - 1)))) ≡ goes next → Goes n k l r (ws ∷ ls)
    go true y i d = second_follows line k l r ws next n ls d h
    go false true i d = alone (false_run l r i) (between_is line (suc k) ws next n ls d h)
    go false false i d = cc
line_follows line (Ended k) next ws n ls e h = cc

-- no line is the last one of a log
between_otherwise : (line k : ℕ) (ws : List Text) (u : Verdict) (n : ℕ) → between line k ws ≡ ends u → u ≡ Accepted n → ⊥
between_otherwise line k ws u n e d = go (counted_in (codes "list") ws) e
  where
    by_test : (x : Bool) → cond x (goes (Ended k)) (ends (Wrong line)) ≡ ends u → ⊥
    by_test true i = cc
    by_test false i = cc

    last : (x : Option ℕ) → ended_if line k x ≡ ends u → ⊥
    last None i = cc
    last (Some m) i = by_test (nat_eq m k) i

    go : (x : Option ℕ) → list_or line k ws x ≡ ends u → ⊥
    go None i = last (counted_in (codes "done") ws) i
    go (Some m) i = cc

second_otherwise : (line k : ℕ) (l : List Constraint) (r : Run) (o : Option Run) (u : Verdict) (n : ℕ) → proved_twice line k l r o ≡ ends u → u ≡ Accepted n → ⊥
second_otherwise line k l r None u n e d = cc
second_otherwise line k l r (Some s) u n e d = go (is_wide l s) (are_false_runs l r s) e
  where
    go : (x y : Bool) → cond x (ends (Wide line)) (cond y (goes (Between (suc k))) (ends (Wrong line))) ≡ ends u → ⊥
    go true y i = cc
    go false true i = cc
    go false false i = cc

ends_otherwise : (line : ℕ) (st : State) (ws : List Text) (u : Verdict) (n : ℕ) → step line st ws ≡ ends u → u ≡ Accepted n → ⊥
ends_otherwise line Start ws u n e d = go (is_head ws) e
  where
    go : (x : Bool) → cond x (goes (Between 0)) (ends (Wrong line)) ≡ ends u → ⊥
    go true i = cc
    go false i = cc
ends_otherwise line (Between k) ws u n e d = between_otherwise line k ws u n e d
ends_otherwise line (Listing k zero seen l) ws u n e d = cc
ends_otherwise line (Listing k (suc left) seen l) ws u n e d = go (member_in seen ws) e
  where
    go : (x : Option Constraint) → listed line k left seen l x ≡ ends u → ⊥
    go None i = cc
    go (Some c) i = cc
ends_otherwise line (Proving k l) ws u n e d = go (run_in (length l) ws) e
  where
    by_test : (r : Run) (x : Bool) → cond x (ends (Wide line)) (goes (Proved k l r)) ≡ ends u → ⊥
    by_test r true i = cc
    by_test r false i = cc

    go : (x : Option Run) → proved line k l x ≡ ends u → ⊥
    go None i = cc
    go (Some r) i = by_test r (is_wide l r) i
ends_otherwise line (Proved k l r) ws u n e d = go (begins_a_run ws) (is_false_run l r) e
  where
    go : (x y : Bool) → cond x (proved_twice line k l r (run_in (length l) ws)) (cond y (between line (suc k) ws) (ends (Wrong (line - 1)))) ≡ ends u → ⊥
    go true y i = second_otherwise line k l r (run_in (length l) ws) u n i d
    go false true i = between_otherwise line (suc k) ws u n i d
    go false false i = cc
ends_otherwise line (Ended k) ws u n e d = cc

-- ---- all lines

finished : (line : ℕ) (st : State) (w : Text) (n : ℕ) → finish line st w ≡ Accepted n → (w ≡ []) × Completes st n []
finished line Start w n e = cc
finished line (Between k) w n e = cc
finished line (Listing k left seen l) w n e = cc
finished line (Proving k l) w n e = cc
finished line (Proved k l r) w n e = go (begins_a_run (slice_split (λ b. b == 32) w) || is_false_run l r) e
  where
    go : (x : Bool) → cond x (Wrong line) (Wrong (line - 1)) ≡ Accepted n → (w ≡ []) × Completes (Proved k l r) n []
    go true d = cc
    go false d = cc
finished line (Ended k) [] n e = let s : k ≡ n = cc in (refl, (refl, s))
finished line (Ended k) (b ∷ w) n e = cc

pub record Text_is (st : State) (n : ℕ) (text : Text) : Type 0 where
  pub lines : Lines
  pub is_text : text ≡ lines_text lines
  pub completes : Completes st n lines

accepted_from : (line : ℕ) (st : State) (ws : List Text) (n : ℕ) → check_from line st ws ≡ Accepted n → Text_is st n (join_with_byte 10 ws)
accepted_from line st [] n e = cc
accepted_from line st (w ∷ []) n e = let k = finished line st w n e in record { lines = []; is_text = k.0; completes = k.1 }
accepted_from line st (w ∷ v ∷ ws) n e = go (step line st (slice_split (λ b. b == 32) w)) refl (λ next d. accepted_from (suc line) next (v ∷ ws) n d) e
  where
    with_it : (next : State) → step line st (slice_split (λ b. b == 32) w) ≡ goes next → Text_is next n (join_with_byte 10 (v ∷ ws))
        → Text_is st n (w ++ 10 ∷ join_with_byte 10 (v ∷ ws))
    with_it next i t = record {
      lines = slice_split (λ b. b == 32) w ∷ t.lines;
      is_text = ap (λ s. w ++ 10 ∷ s) t.is_text
          ∙ ap (λ u. u ++ 10 ∷ lines_text t.lines) (sym (join_with_byte-slice_split 32 w))
          ∙ sym (append_assoc (join_with_byte 32 (slice_split (λ b. b == 32) w)) (10 ∷ []) (lines_text t.lines));
      completes = line_follows line st next (slice_split (λ b. b == 32) w) n t.lines i t.completes;
    }

    go : (x : Found) → step line st (slice_split (λ b. b == 32) w) ≡ x
        → ((next : State) → check_from (suc line) next (v ∷ ws) ≡ Accepted n → Text_is next n (join_with_byte 10 (v ∷ ws)))
        → elim x [ goes next ↦ check_from (suc line) next (v ∷ ws) | ends u ↦ u ] ≡ Accepted n → Text_is st n (w ++ 10 ∷ join_with_byte 10 (v ∷ ws))
    go (goes next) i rest d = with_it next i (rest next d)
    go (ends u) i rest d = absurd (ends_otherwise line st (slice_split (λ b. b == 32) w) u n i d)

-- what is accepted is a log
pub accepted : (text : Text) (n : ℕ) → verdict text ≡ Accepted n → IsLog n text
accepted text n e = go (accepted_from 1 Start (slice_split (λ b. b == 10) text) n e)
  where
    whole : (t : Text_is Start n (join_with_byte 10 (slice_split (λ b. b == 10) text))) → Begins n t.lines → IsLog n text
    whole t b =
        let y = b.ends.count in
        let z : length b.ends.entries ≡ n = omega (arith, y) in
        record {
          entries = b.ends.entries;
          count = z;
          fits = b.ends.fits;
          is_text = sym (join_with_byte-slice_split 10 text) ∙ t.is_text
              ∙ ap lines_text (b.words ∙ ap (λ s. head_words ∷ s) (b.ends.words ∙ ap (λ m. entries_words b.ends.entries ++ done_words m ∷ []) (sym z)));
          lawful = b.ends.lawful;
        }

    go : Text_is Start n (join_with_byte 10 (slice_split (λ b. b == 10) text)) → IsLog n text
    go t = whole t t.completes
