use Rattle.spec_transcript.proofs.StopsLemmas.{refused_stops}
use Rattle.spec_transcript.proofs.refused_arithmetic_stops.Goals as goal

pub returns : goal.returns
returns c = refused_stops
