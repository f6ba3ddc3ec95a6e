-- A findall's list is made, and one more copy is gathered for it.
use Rattle.std.proofs.Common.{inl, ◌≡◌, ◌<◌, ◌+◌, ◌-◌, ℕ, zero, suc, List, [], ◌∷◌, ◌++◌, length, length-append, Bool, Option, None, Some, refl, sym, ap, ◌∙◌, subst, drop, append_assoc, arith}
use Rattle.std.specs.Prelude.{if◌then◌else◌}
use Rattle.std.specs.List.{AllZip}
use Rattle.std.proofs.lemmas.List.{drop_at}
use Rattle.spec_numbers.proofs.Tests.{nat_eq-self, nat_eq-apart}
use Rattle.spec_terms.specs.Variables.{renamed_from}
use Rattle.spec_syntax.specs.Trees.{Tree}
use Rattle.spec_branch.specs.Branch as branch
use Rattle.spec_branch.specs.Branch.{State, Item, Branch, Copied, no_work, plain_copy, read}
use Rattle.spec_search.specs.Database.{Database}
use Rattle.spec_search.specs.Replies.{child, landed}
use Rattle.spec_search.specs.Search.{Search, Collecting, is_selecting, look_at, settled, gather, gathered_items, list_child}
use Rattle.spec_search.specs.Turns as turn
use Rattle.spec_search.specs.Turns.{with_branches}
use Rattle.cq_control.specs.Heights.{total}
use Rattle.cq_control.specs.Items.{items_at}
use Rattle.cq_control.specs.Open.{last}
use Rattle.spec_engine.specs.declared.machine.cell.Cell.{Cell}
use Rattle.spec_engine.specs.declared.machine.cell.Cell.TheVariants.{Collect}
use Rattle.spec_engine.specs.Cells.{Fits, Left, One, Clauses, Ways, Barrier, Catches, Caught, Gathers, Matches, size, Value, Stack, below, GathersAt}
use Rattle.spec_engine.specs.Standing.{engine, IsStoredAs, AreItems, IsContinuation, AreBranches, AreWaiting, IsStanding}
use Rattle.spec_engine.specs.Coming.{Quietly, at_once, after, Comes, Rest}
use Rattle.spec_engine.specs.Trying.{MakesList}
use Rattle.spec_engine.proofs.Kept.{Alike, items_same, length-waiting}

-- ---- one choice that gathers more

-- the same of a stack with one copy more at one choice
abbrev gathering : {W : Type 0} → Value W → ℕ → List Tree → ℕ → Value W × Left
gathering v l copies j = (v, Gathers l copies j)

alike_drop : {W : Type 0} (v : Value W) (l j : ℕ) (copies more : List Tree) (older : Stack W) (n : ℕ) (newer : Stack W)
    → Alike (drop n (newer ++ gathering v l copies j ∷ older)) (drop n (newer ++ gathering v l more j ∷ older))
alike_drop v l j copies more older zero [] = record { branches = refl; catches = refl; gathers = λ g. g }
alike_drop v l j copies more older zero (c ∷ newer) =
    record { branches = ap (λ (m : ℕ). size c.1 + m) (alike_drop v l j copies more older zero newer).branches; catches = refl; gathers = λ g. g }
alike_drop v l j copies more older (suc n) [] = record { branches = refl; catches = refl; gathers = λ g. g }
alike_drop v l j copies more older (suc n) (c ∷ newer) = alike_drop v l j copies more older n newer

length-behind : {A : Type 0} (newer : List A) (x : A) (older : List A) → length (newer ++ x ∷ older) ≡ length newer + suc (length older)
length-behind newer x older = length-append newer (x ∷ older)

alike_last : {W : Type 0} (v : Value W) (l j : ℕ) (copies more : List Tree) (newer older : Stack W) (h : ℕ)
    → Alike (last h (newer ++ gathering v l copies j ∷ older)) (last h (newer ++ gathering v l more j ∷ older))
alike_last v l j copies more newer older h =
    let same : length (newer ++ gathering v l copies j ∷ older) - h ≡ length (newer ++ gathering v l more j ∷ older) - h =
    ap (λ (m : ℕ). m - h) (length-behind newer (gathering v l copies j) older ∙ sym (length-behind newer (gathering v l more j) older)) in
    subst (λ (m : ℕ). Alike (last h (newer ++ gathering v l copies j ∷ older)) (drop m (newer ++ gathering v l more j ∷ older))) same
    (alike_drop v l j copies more older (length (newer ++ gathering v l copies j ∷ older) - h) newer)

-- the oldest so many are those behind
last-behind : {A : Type 0} (newer older : List A) → last (length older) (newer ++ older) ≡ older
last-behind newer older =
    let e : length (newer ++ older) - length older ≡ length newer = omega (arith, length-append newer older) in
    ap (λ (m : ℕ). drop m (newer ++ older)) e ∙ drop_at newer older (length newer) refl

pub last-under : {A : Type 0} (newer : List A) (x : A) (older : List A) → last (length older) (newer ++ x ∷ older) ≡ older
last-under newer x older = ap (last (length older)) (sym (append_assoc newer (x ∷ []) older)) ∙ last-behind (newer ++ x ∷ []) older

-- ---- a copy more among the branches

gather_past : (k : ℕ) (c : Copied) (own behind : List Branch) → k < length behind → gather k c (own ++ behind) ≡ own ++ gather k c behind
gather_past k c [] behind le = refl
gather_past k c (b ∷ own) behind le =
    ap (λ (found : Bool). if found then record b { items = gathered_items c b.items } ∷ (own ++ behind) else b ∷ gather k c (own ++ behind))
    (nat_eq-apart (length (own ++ behind)) k (λ e. absurd (omega (arith, e, le, length-append own behind))))
    ∙ ap (λ bs. b ∷ bs) (gather_past k c own behind le)

gather_here : (c : Copied) (b : Branch) (bs : List Branch) → gather (length bs) c (b ∷ bs) ≡ record b { items = gathered_items c b.items } ∷ bs
gather_here c b bs =
    ap (λ (found : Bool). if found then record b { items = gathered_items c b.items } ∷ bs else b ∷ gather (length bs) c bs) (nat_eq-self (length bs))

one_stored : (copies : List Copied) (stored : List Tree) (c : Copied) (t : Tree) → AllZip IsStoredAs copies stored → IsStoredAs c t
    → AllZip IsStoredAs (copies ++ c ∷ []) (stored ++ t ∷ [])
one_stored [] [] c t z s = (s, z)
one_stored [] (u ∷ stored) c t z s = absurd z
one_stored (d ∷ copies) [] c t z s = absurd z
one_stored (d ∷ copies) (u ∷ stored) c t z s = (z.0, one_stored copies stored c t z.1 s)

module _ {W : Type 0} (IsState : W → State → Type 0) (term : W → ℕ → Option Tree) where
  -- what each choice stands for, over choices of which one gathered more
  module _ (v : Value W) (l j : ℕ) (copies more : List Tree) where
    continuation_more : (newer older : Stack W) (u : Value W) (k : ℕ) (items : List Item) (st : State)
        → IsContinuation IsState term (newer ++ gathering v l copies j ∷ older) u k items st → IsContinuation IsState term (newer ++ gathering v l more j ∷ older) u k items st
    continuation_more newer older u k items st c =
        let same : length (newer ++ gathering v l copies j ∷ older) ≡ length (newer ++ gathering v l more j ∷ older) =
        length-behind newer (gathering v l copies j) older ∙ sym (length-behind newer (gathering v l more j) older) in
        record {
          there = c.there;
          fits = subst (λ (m : ℕ). Fits m (items_at u.1 k)) same c.fits;
          state = c.state;
          cells = items_same IsState term (newer ++ gathering v l copies j ∷ older) (newer ++ gathering v l more j ∷ older)
              (length (newer ++ gathering v l copies j ∷ older)) (λ h le. alike_last v l j copies more newer older h) u.0 st (items_at u.1 k) items c.fits c.cells;
        }

    total_more : (newer older : Stack W) → total size (newer ++ gathering v l copies j ∷ older) ≡ total size (newer ++ gathering v l more j ∷ older)
    total_more [] older = refl
    total_more (c ∷ newer) older = ap (λ (m : ℕ). size c.1 + m) (total_more newer older)

    branches_more : (newer older : Stack W) (u : Value W) (left : Left) (bs : List Branch)
        → AreBranches IsState term (newer ++ gathering v l copies j ∷ older) u left bs → AreBranches IsState term (newer ++ gathering v l more j ∷ older) u left bs
    branches_more newer older u (One k) bs a = (a.0, a.1, a.2, continuation_more newer older u k a.0 a.1 a.3)
    branches_more newer older u (Clauses t cs k) bs a = (
      a.0,
      a.1,
      a.2,
      a.3,
      record { continuation = continuation_more newer older u k a.0.rest a.0.state a.4.continuation; height = a.4.height ∙ total_more newer older },
    )
    branches_more newer older u (Ways ways k) bs a = (
      a.0,
      a.1,
      record { continuation = continuation_more newer older u k a.0.rest a.0.state a.2.continuation; height = a.2.height ∙ total_more newer older },
    )
    branches_more newer older u Barrier bs a = a
    branches_more newer older u (Catches k) bs a = a
    branches_more newer older u (Caught ball c r k) bs a = (a.0, a.1, a.2, a.3, a.4, a.5, a.6, a.7, a.8, continuation_more newer older u k a.0 a.1 a.9)
    branches_more newer older u (Gathers t stored k) bs a = (a.0, a.1, a.2, a.3, a.4, a.5, a.6, continuation_more newer older u k a.0 a.1 a.7)
    branches_more newer older u (Matches t removes cs k) bs a = (
      a.0,
      a.1,
      a.2,
      a.3,
      record { continuation = continuation_more newer older u k a.0.rest a.0.state a.4.continuation; height = a.4.height ∙ total_more newer older },
    )

  waiting_more : (v : Value W) (l j : ℕ) (copies : List Tree) (c : Copied) (stored : Tree) → IsStoredAs c stored → (newer older : Stack W) (bs : List Branch)
      → AreWaiting IsState term (newer ++ gathering v l copies j ∷ older) bs
      → AreWaiting IsState term (newer ++ gathering v l (copies ++ stored ∷ []) j ∷ older) (gather (total size older) c bs)
  waiting_more v l j copies c stored s [] older bs a =
      let own = a.3 in
      let long : length a.1 ≡ total size older = length-waiting IsState term older a.1 a.4 in
      let is : bs ≡ child (branch.Gathered own.2 own.3 ∷ own.0) own.1 no_work ∷ a.1 = a.2 ∙ ap (λ l. l ++ a.1) own.4 in (
        child (branch.Gathered own.2 (own.3 ++ c ∷ []) ∷ own.0) own.1 no_work ∷ [],
        a.1,
        ap (gather (total size older) c) is ∙ ap (λ (k : ℕ). gather k c (child (branch.Gathered own.2 own.3 ∷ own.0) own.1 no_work ∷ a.1)) (sym long)
            ∙ gather_here c (child (branch.Gathered own.2 own.3 ∷ own.0) own.1 no_work) a.1,
        (own.0, own.1, own.2, own.3 ++ c ∷ [], refl, one_stored own.3 copies c stored own.5 s, own.6, own.7),
        a.4,
      )
  waiting_more v l j copies c stored s (d ∷ newer) older bs a =
      let long : length a.1 ≡ total size (newer ++ gathering v l copies j ∷ older) = length-waiting IsState term _ a.1 a.4 in
      let more : total size older < total size (newer ++ gathering v l copies j ∷ older) = further newer in (
        a.0,
        gather (total size older) c a.1,
        ap (gather (total size older) c) a.2 ∙ gather_past (total size older) c a.0 a.1 (omega (arith, long, more)),
        branches_more v l j copies (copies ++ stored ∷ []) newer older d.0 d.1 a.0 a.3,
        waiting_more v l j copies c stored s newer older a.1 a.4,
      ) where
        further : (newer : Stack W) → total size older < total size (newer ++ gathering v l copies j ∷ older)
        further [] = omega arith
        further (e ∷ newer) = omega (arith, further newer)

  -- ---- the mark of a findall in front

  module _ (db : Database) (n : ℕ) (rs : Stack W) (now : Value W) (k rest : ℕ) (s : Search) (j : IsStanding IsState term (engine db n rs now (Some k)) s)
      (height t : ℕ) (e : items_at now.1 k ≡ Collect height t ∷ items_at now.1 rest) where
    abbrev cells : List Cell
    cells = Collect height t ∷ items_at now.1 rest

    front : AreItems IsState term rs now.0 j.current.1 cells j.current.0
    front = subst (λ l. AreItems IsState term rs now.0 j.current.1 l j.current.0) e j.current.3.cells

    pub collects_there : (height < length rs) × GathersAt rs height × ((x : Tree) × (term now.0 t ≡ Some x))
    collects_there = ((subst (Fits (length rs)) e j.current.3.fits).0, front.3, (read j.current.1 front.0, front.4))

    looks : look_at s.branches ≡ Collecting (below rs height) front.0 j.current.1 j.behind
    looks = ap look_at (j.branches ∙ ap (λ l. l ++ j.behind) j.current.2 ∙ ap (λ is. settled is j.current.1 ∷ j.behind) front.2)

  pub copy_gathered : (steps : ℕ) (db : Database) (n : ℕ) (newer older : Stack W) (v now : Value W) (k rest : ℕ) (s : Search) (l j : ℕ) (copies : List Tree)
      → IsStanding IsState term (engine db n (newer ++ (v, Gathers l copies j) ∷ older) now (Some k)) s
      → (t : ℕ) → items_at now.1 k ≡ Collect (length older) t ∷ items_at now.1 rest → (x : Tree) → term now.0 t ≡ Some x
      → Comes IsState term steps (engine db n (newer ++ (v, Gathers l (copies ++ renamed_from 0 x ∷ []) j) ∷ older) now None) s
  copy_gathered steps db n newer older v now k rest s l j copies i t e x reads =
      let rs : Stack W = newer ++ gathering v l copies j ∷ older in
      let f = front db n rs now k rest s i (length older) t e in
      let look = looks db n rs now k rest s i (length older) t e in
      let c : Copied = plain_copy (read i.current.1 f.0) in
      let same : Some (read i.current.1 f.0) ≡ Some x = sym f.4 ∙ reads in
      let stored : IsStoredAs c (renamed_from 0 x) = record { plain = refl; renamed = ap (renamed_from 0) (let y : x ≡ read i.current.1 f.0 = cc in y) } in
      let at : below rs (length older) ≡ total size older = ap (total size) (last-under newer (gathering v l copies j) older) in
      let bs = gather (below rs (length older)) c i.behind in
      record {
        reached = with_branches bs s;
        quiet = after (inl (ap is_selecting look)) (turn.collects look refl) at_once;
        stands = record {
          database = i.database;
          selected = i.selected;
          first = [];
          behind = bs;
          branches = refl;
          current = refl;
          waiting = subst (λ (m : ℕ). AreWaiting IsState term (newer ++ gathering v l (copies ++ renamed_from 0 x ∷ []) j ∷ older) (gather m c i.behind)) (sym at)
              (waiting_more v l j copies c (renamed_from 0 x) stored newer older i.behind i.waiting);
        };
      }

  -- ---- the list is made

  pub list_begun : (db : Database) (n : ℕ) (older : Stack W) (v now : Value W) (s : Search) (steps t : ℕ) (copies : List Tree) (k : ℕ) → Rest IsState
      → IsStanding IsState term (engine db n ((v, Gathers t copies k) ∷ older) now None) s
      → (r : Search) × Quietly steps s r × (r.database ≡ db) × (r.selected ≡ n) × MakesList IsState term older v t copies k r
  list_begun db n older v now s steps t copies k rest j =
      let own = j.waiting.3 in
      let items = branch.Gathered own.2 own.3 ∷ own.0 in
      let is : s.branches ≡ child items own.1 no_work ∷ j.waiting.1 =
      j.branches ∙ ap (λ l. l ++ j.behind) j.current ∙ j.waiting.2 ∙ ap (λ l. l ++ j.waiting.1) own.4 in
      let settled_one : Search = record s { database = s.database; branches = settled items own.1 ∷ j.waiting.1 } in
      let bs = list_child own.0 own.2 (landed own.1 own.3) ∷ j.waiting.1 in (
        with_branches bs settled_one,
        after (inl (ap is_selecting (ap look_at is))) (turn.keeps (ap look_at is) (rest v.0 own.1 items own.7.state))
            (after (inl refl) (turn.moves refl) at_once),
        j.database,
        j.selected,
        record {
          items = own.0;
          state = own.1;
          list = own.2;
          copies = own.3;
          behind = j.waiting.1;
          look = refl;
          are_stored = own.5;
          reads = own.6;
          continuation = own.7;
          waiting = j.waiting.4;
        },
      )
