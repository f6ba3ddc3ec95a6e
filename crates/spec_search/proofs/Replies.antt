-- Goals of two searches that come to the same.
use Rattle.std.proofs.Common.{◌≡◌, List, ◌++◌}
use Rattle.spec_numbers.specs.Rational.{ℚ}
use Rattle.cq_frac.specs.declared.Pair.{Pair}
use Rattle.spec_syntax.specs.Trees.{Tree}
use Rattle.spec_branch.specs.Branch.{Copied, Branch}
use Rattle.spec_search.specs.Database.{Clause}
use Rattle.spec_search.specs.Builtins.{Side}
use Rattle.spec_search.specs.Replies as reply
use Rattle.spec_search.specs.Replies.{Place, Made, Reply, Raises, Throws, WithCopy, Makes, Calls, IfEntailed, WithExtent, child, made, makes}
use Rattle.spec_search.specs.Steps.{Stepped, Ball, Children}
use Rattle.spec_search.specs.Turns.{older}
use Rattle.spec_search.proofs.Shapes.{Rung, SameBranch, SameBranches}

-- some shape in which the branches of two searches are the same
pub record Same (bs cs : List Branch) : Type 0 where
  pub shape : List Rung
  pub branches : SameBranches shape bs cs

-- the children of goals with branches of this shape behind them, before those that are left
pub record SameMade (s : List Rung) (m n : Made) : Type 0 where
  pub same : (bs cs : List Branch) → SameBranches s bs cs → Same (m.children ++ older m.keeps bs) (n.children ++ older n.keeps cs)
  pub database : m.database ≡ n.database
  pub output : m.output ≡ n.output

pub data SameReply (s : List Rung) : Reply → Reply → Type 0 where
  both_raise : (e : Tree) → SameReply s (Raises e) (Raises e)
  both_throw : (t : Tree) → SameReply s (Throws t) (Throws t)
  both_copy : {t : Tree} {f g : Copied → Branch} → ((c : Copied) → SameBranch s (f c) (g c)) → SameReply s (WithCopy t f) (WithCopy t g)
  both_overflow : (pair : Pair) → SameReply s (reply.Overflows pair) (reply.Overflows pair)
  both_make : {m n : Made} → SameMade s m n → SameReply s (Makes m) (Makes n)
  both_call : (cs : List Clause) → SameReply s (Calls cs) (Calls cs)
  both_ask : {ms : List Tree} {b c : Branch} → SameBranch s b c → SameReply s (IfEntailed ms b) (IfEntailed ms c)
  both_reach : {side : Side} {e : Tree} {f g : ℚ → Branch} → ((q : ℚ) → SameBranch s (f q) (g q))
      → SameReply s (WithExtent side e f) (WithExtent side e g)

pub data SameStep (s : List Rung) : Stepped → Stepped → Type 0 where
  same_ball : (c : Copied) → SameStep s (Ball c) (Ball c)
  same_children : {m n : Made} → SameMade s m n → SameStep s (Children m) (Children n)
