use Rattle.walrus_rewritten_laws.proofs.Rewritten.{made_rewritten}
use Rattle.walrus_rewritten_laws.proofs.laws.made_are_rewritten.Goals as goal

pub returns : goal.returns
returns g c = made_rewritten c.kept_modules_are_planned.ensures c.written_bytes_are_canonical.ensures c.locations_are_places.ensures c.spelled_parts_are_rewritten.ensures
