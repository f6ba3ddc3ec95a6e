-- A turn that neither settles nor hands on a ball is one: the next search and what is shown are determined.
use Rattle.std.proofs.Common.{◌≡◌, List, [], refl, sym, ap, ◌∙◌}
use Rattle.spec_syntax.specs.Trees.{Tree}
use Rattle.spec_branch.specs.Branch.{Branch}
use Rattle.spec_search.specs.Replies.{Place, Made, Raises, Makes}
use Rattle.spec_search.specs.Rows.{reply_of}
use Rattle.spec_search.specs.Steps.{Steps, Stepped, Children, ball_of, raises, throws, copies, makes, calls, not_linear, entailed, not_entailed, expression_waits, expression_false, extent, no_extent}
use Rattle.spec_search.specs.Search.{Search, Moving, look_at}
use Rattle.spec_search.specs.Turns as turn
use Rattle.spec_search.specs.Turns.{Event, Wrote, Turn, keeps, prunes, hands_on, escapes, moves, collects, steps, catches, answers, ends, with_branches}

-- a mark in front
pub one_move : (s t : Search) (e : Event) (bs : List Branch) → look_at s.branches ≡ Moving bs
    → Turn s e t → (e ≡ Wrote []) × (t ≡ with_branches bs s)
one_move s t e bs h (keeps k _) = let c = sym h ∙ k in cc
one_move s t e bs h (prunes k _ _) = let c = sym h ∙ k in cc
one_move s t e bs h (hands_on k _ _ _) = let c = sym h ∙ k in cc
one_move s t e bs h (escapes k _ _ _) = let c = sym h ∙ k in cc
one_move s t e bs h (moves {bs = cs} k) =
    let c : Moving cs ≡ Moving bs = sym k ∙ h in
    let d : cs ≡ bs = cc in
    (refl, ap (λ (x : List Branch). with_branches x s) d)
one_move s t e bs h (collects k _) = let c = sym h ∙ k in cc
one_move s t e bs h (steps k _) = let c = sym h ∙ k in cc
one_move s t e bs h (catches k _ _) = let c = sym h ∙ k in cc
one_move s t e bs h (turn.throws k _ _) = let c = sym h ∙ k in cc
one_move s t e bs h (answers k) = let c = sym h ∙ k in cc
one_move s t e bs h (ends k) = let c = sym h ∙ k in cc

-- a goal whose row gives children
pub one_step : (p : Place) (goal : Tree) (m : Made) (o : Stepped) → reply_of p goal ≡ Makes m
    → Steps p goal o → o ≡ Children m
one_step p goal m o h (raises k) = let c = sym h ∙ k in cc
one_step p goal m o h (throws k _) = let c = sym h ∙ k in cc
one_step p goal m o h (copies k _) = let c = sym h ∙ k in cc
one_step p goal m o h (makes {m = n} k) = let c : Makes n ≡ Makes m = sym k ∙ h in cc
one_step p goal m o h (calls k _) = let c = sym h ∙ k in cc
one_step p goal m o h (not_linear f k _ _) = let c = sym h ∙ k in cc
one_step p goal m o h (entailed f k _ _ _) = let c = sym h ∙ k in cc
one_step p goal m o h (not_entailed x f k _ _ _ _) = let c = sym h ∙ k in cc
one_step p goal m o h (expression_waits f k _ _) = let c = sym h ∙ k in cc
one_step p goal m o h (expression_false f k _ _) = let c = sym h ∙ k in cc
one_step p goal m o h (extent f k _ _ _) = let c = sym h ∙ k in cc
one_step p goal m o h (no_extent f k _ _ _) = let c = sym h ∙ k in cc

-- a ball of a row
pub one_ball : (p : Place) (goal e : Tree) (o : Stepped) → reply_of p goal ≡ Raises e
    → Steps p goal o → o ≡ ball_of goal e
one_ball p goal e o h (raises {e = f} k) =
    let c : Raises f ≡ Raises e = sym k ∙ h in
    let d : f ≡ e = cc in
    ap (λ x. ball_of goal x) d
one_ball p goal e o h (throws k _) = let d = sym h ∙ k in cc
one_ball p goal e o h (copies k _) = let d = sym h ∙ k in cc
one_ball p goal e o h (makes k) = let d = sym h ∙ k in cc
one_ball p goal e o h (calls k _) = let d = sym h ∙ k in cc
one_ball p goal e o h (not_linear f k _ _) = let d = sym h ∙ k in cc
one_ball p goal e o h (entailed f k _ _ _) = let d = sym h ∙ k in cc
one_ball p goal e o h (not_entailed x f k _ _ _ _) = let d = sym h ∙ k in cc
one_ball p goal e o h (expression_waits f k _ _) = let d = sym h ∙ k in cc
one_ball p goal e o h (expression_false f k _ _) = let d = sym h ∙ k in cc
one_ball p goal e o h (extent f k _ _ _) = let d = sym h ∙ k in cc
one_ball p goal e o h (no_extent f k _ _ _) = let d = sym h ∙ k in cc
