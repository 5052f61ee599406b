use Rattle.walrus_named_bodies.proofs.walrus_file_bodies.DeclaredLemmas.{read_types_are_declared}
use Rattle.walrus_parse_laws.proofs.filled_groups.read_types_are_declared.Goals as goal

pub returns : goal.returns
returns c = read_types_are_declared
