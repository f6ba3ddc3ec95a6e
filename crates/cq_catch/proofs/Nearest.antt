-- The nearest end of a catch, and the choice that it speaks of.
use Rattle.std.proofs.Common.{◌≡◌, ◌<◌, ℕ, List, ◌∷◌, length, sym, ◌∙◌, arith}
use Rattle.cq_control.specs.Items.{items_at}
use Rattle.cq_control.specs.Open.{AreMarked}
use Rattle.cq_settle.specs.Contents.{Contents}
use Rattle.spec_engine.specs.Cells.{Value}
use Rattle.spec_engine.proofs.Thrown.{nearest_fits}
use Rattle.cq_branch.specs.Worlds.{stack}
use Rattle.cq_branch.specs.declared.alternatives.Alternatives.{Alternatives}
use Rattle.cq_branch.proofs.Done.{length-stack}
use Rattle.cq_catch.specs.Balls.{ComesUpSomewhere, IsNearest}
use Rattle.cq_catch.specs.declared.balls.End.{End}

-- the height is of a choice that is there
pub within : (saved : List (Value Contents)) (choices : List Alternatives) (now : Value Contents) (from : ℕ) → AreMarked saved choices
    → (e : End) → IsNearest (items_at now.1 from) e → ComesUpSomewhere saved choices now from → e.height < length choices
within saved choices now from marked e near w =
    let rs = stack w.0 w.1 saved choices in
    let f = nearest_fits (length rs) (items_at now.1 from) (e.height, e.catcher, e.recovery, near.0) w.5.continuation.fits near.1 in
    omega (arith, f.0, length-stack w.0 w.1 saved choices marked)

-- the newest of choices is one
pub same_newest : {A : Type 0} (x y : A) (xs ys zs : List A) → zs ≡ x ∷ xs → zs ≡ y ∷ ys → x ≡ y
same_newest x y xs ys zs e f = let h : x ∷ xs ≡ y ∷ ys = sym e ∙ f in cc
