-- A name that was added before others.
use Rattle.std.proofs.Common.{◌≡◌, List, refl, arith}
use Rattle.spec_numbers.specs.Texts.{Text}
use Rattle.cq_term.specs.Texts.{with_text}
use Rattle.cq_term.specs.HeapValue.{HeapValue}
use Rattle.cq_built.specs.Growing.{Grows}
use Rattle.cq_built.proofs.Growing.{grows_both, grows_names, longer_by_text}

module _ (texts named : List Text) (text : Text) (is : named ≡ with_text texts text) where
  pub grows_by_name : (heap : HeapValue) → Grows texts heap named heap
  grows_by_name heap = grows_names texts named heap heap (longer_by_text texts named text is) refl refl (omega arith)

  pub grows_behind_name : (more : List Text) (old new : HeapValue) → Grows named old more new → Grows texts old more new
  grows_behind_name more old new g = grows_both texts named more old old new (grows_by_name old) g
