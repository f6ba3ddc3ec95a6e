-- A heap that gets terms and variables keeps what it had.
use Rattle.std.proofs.Common.{◌≡◌, nat_lt, ℕ, ◌<◌, ◌≤◌, Bool, true, false, List, [], ◌∷◌, ◌++◌, length, Result, Ok, Err, refl, sym, ap, ◌∙◌, arith, length-append}
use Rattle.std.specs.Prelude.{OnOk, OnErr}
use Rattle.std.specs.declared.alloc.AllocError.{AllocError}
use Rattle.std.proofs.Math.Seq.{get_or-append_seam}
use Rattle.std.proofs.lemmas.Bool.Decides.{nat_tests}
use Rattle.std.proofs.lemmas.List.{append-nil}
use Rattle.spec_numbers.specs.Texts.{Text}
use Rattle.spec_numbers.specs.Prefixes.{IsPrefix}
use Rattle.spec_terms.specs.Term.{Var}
use Rattle.spec_syntax.specs.TextTokens.{VariableName}
use Rattle.cq_term.specs.Meaning.{HeapTerm, at, blank}
use Rattle.cq_term.specs.HeapValue.{HeapValue}
use Rattle.cq_term.specs.Shown.{IsUnbound}
use Rattle.cq_read.specs.declared.parse.frames.Frame.{Frame}
use Rattle.cq_read.specs.declared.parse.frames.State.{State}
use Rattle.cq_read.specs.declared.parse.frames.State.TheVariants as state
use Rattle.cq_read.specs.Views.{frames_of, state_of, AreLive, IsLiveState}
use Rattle.spec_syntax.specs.Machine as machine
use Rattle.cq_read.proofs.Kept.{prefix_both, prefix_at, prefix_length, tree_kept, frames_kept}
use Rattle.cq_read.specs.Growth.{Grows}
use Rattle.cq_read.specs.Names.{AreUnbound}
use Rattle.cq_read.specs.Clauses as clauses

-- ---- the heap

pub grows_both : (g h k : HeapValue) → Grows g h → Grows h k → Grows g k
grows_both g h k p q = record {
  terms = prefix_both g.now.terms h.now.terms k.now.terms p.terms q.terms;
  images = prefix_both g.now.images h.now.images k.now.images p.images q.images;
  fresh = λ v le lt. by v le lt (nat_lt v (length h.now.images)) refl;
  saved = q.saved ∙ p.saved;
  room = omega (arith, p.room, q.room);
}
  where
    by : (v : ℕ) → length g.now.images ≤ v → v < length k.now.images → (older : Bool) → nat_lt v (length h.now.images) ≡ older → at k.now.images v ≡ Var v
    by v le lt true e = let before : v < length h.now.images = grind (arith, nat_tests) in prefix_at h.now.images k.now.images v q.images before ∙ p.fresh v le before
    by v le lt false e = q.fresh v (grind (arith, nat_tests)) lt

-- by a variable at most
pub grows_by : (old new : HeapValue) (r : Result ℕ AllocError) → OnOk r (new.now.terms ≡ old.now.terms ++ Var (length old.now.images) ∷ []) →
    OnOk r (new.now.images ≡ old.now.images ++ Var (length old.now.images) ∷ []) → new.saved ≡ old.saved → old.room ≤ new.room → OnErr r (new.now ≡ old.now) → Grows old new
grows_by old new (Ok id) terms images saved room err = record {
  terms = (Var (length old.now.images) ∷ [], terms);
  images = (Var (length old.now.images) ∷ [], images);
  fresh = λ v le lt.
      let last : v ≡ length old.now.images = omega (arith, ap length images, length-append old.now.images (Var (length old.now.images) ∷ [])) in
      ap (λ xs. at xs v) images ∙ ap (at (old.now.images ++ Var (length old.now.images) ∷ [])) last ∙ get_or-append_seam old.now.images (Var (length old.now.images)) [] blank ∙ ap Var (sym last);
  saved = saved;
  room = room;
}
grows_by old new (Err e) terms images saved room err = record {
  terms = ([], ap (λ n. n.terms) err ∙ sym (append-nil old.now.terms));
  images = ([], ap (λ n. n.images) err ∙ sym (append-nil old.now.images));
  fresh = λ v le lt. absurd (omega (arith, ap (λ n. length n.images) err));
  saved = saved;
  room = room;
}

-- ---- unbound variables

pub unbound_kept : (is us : List HeapTerm) (v : ℕ) → IsPrefix is us → IsUnbound is v → IsUnbound us v
unbound_kept is us v p u = (omega (arith, u.0, prefix_length is us p), prefix_at is us v p u.0 ∙ u.1)

pub all_unbound_kept : (is us : List HeapTerm) (names : List VariableName) → IsPrefix is us → AreUnbound is names → AreUnbound us names
all_unbound_kept is us [] p all = tt
all_unbound_kept is us (v ∷ names) p all = (unbound_kept is us v.number p all.0, all_unbound_kept is us names p all.1)

pub unbound_push : (is : List HeapTerm) (names : List VariableName) (v : VariableName) → AreUnbound is names → IsUnbound is v.number → AreUnbound is (names ++ v ∷ [])
unbound_push is [] v all one = (one, tt)
unbound_push is (n ∷ names) v all one = (all.0, unbound_push is names v all.1 one)

-- ---- a clause that is being read

module _ (texts : List Text) (ts us : List HeapTerm) (p : IsPrefix ts us) where
  pub state_kept : (k : List machine.Frame) (s : State) → IsLiveState (length ts) s → state_of texts us k s ≡ state_of texts ts k s
  state_kept k (state.AfterOperand most priority operand) live = ap (λ t. machine.AfterOperand most priority t k) (tree_kept texts ts us p operand live)
  state_kept k (state.Whole term) live = ap machine.Whole (tree_kept texts ts us p term live)
  state_kept k (state.BeforeTerm most) live = refl
  state_kept k (state.AfterName f most) live = refl
  state_kept k (state.AfterFunctor f most) live = refl
  state_kept k (state.AfterMinus most) live = refl
  state_kept k (state.AfterOpenList most) live = refl
  state_kept k (state.AfterOpenCurly most) live = refl

  -- the machine stands where it did
  pub machine_kept : (fs : List Frame) (s : State) → AreLive (length ts) fs → IsLiveState (length ts) s → state_of texts us (frames_of texts us fs) s ≡ state_of texts ts (frames_of texts ts fs) s
  machine_kept fs s live there = ap (λ k. state_of texts us k s) (frames_kept texts ts us p fs live) ∙ state_kept (frames_of texts ts fs) s there
