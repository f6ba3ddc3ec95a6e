use Rattle.std.proofs.Common.{inl}
use Rattle.spec_simplex.proofs.Certificate.{once_refutes, face_refutes, strict_refutes, equation_refutes, apart_refutes}
use Rattle.spec_simplex.proofs.tableau.rows_refute.Goals as goal

pub returns : goal.returns
returns c = record {
  below = λ d l number w f p a n c e g r h. once_refutes l d number w f p a n c e g r (inl h);
  face = λ d l number w f p a. face_refutes l d number w f p a;
  strict = λ d l number w f p a. strict_refutes l d number w f p a;
  equation = λ d l number w f p a. equation_refutes l d number w f p a;
  disequation = apart_refutes;
}
