-- Variables of a heap of which nothing is known.
pub use Rattle.cq_interpreter.specs.GenerationVariables.{AreUnbound}
