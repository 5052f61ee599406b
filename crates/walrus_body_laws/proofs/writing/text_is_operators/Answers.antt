use Rattle.walrus_body_laws.proofs.Agreeing.{bytes_agree, places_agree, sizes_agree}
use Rattle.walrus_body_laws.proofs.writing.text_is_operators.Goals as goal

pub returns-clause-bytes : goal.returns-clause-bytes
returns-clause-bytes c = bytes_agree

pub returns-clause-places : goal.returns-clause-places
returns-clause-places c = places_agree

pub returns-clause-sizes : goal.returns-clause-sizes
returns-clause-sizes c = sizes_agree
