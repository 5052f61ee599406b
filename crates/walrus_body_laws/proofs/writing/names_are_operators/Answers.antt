use Rattle.walrus_body_laws.proofs.Agreeing.{locals_agree, segments_agree}
use Rattle.walrus_body_laws.proofs.writing.names_are_operators.Goals as goal

pub returns-clause-locals : goal.returns-clause-locals
returns-clause-locals c = locals_agree

pub returns-clause-segments : goal.returns-clause-segments
returns-clause-segments c = segments_agree
