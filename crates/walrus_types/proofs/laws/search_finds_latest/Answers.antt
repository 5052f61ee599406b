use Rattle.walrus_type_arenas.proofs.LawLemmas.{latest-law}
use Rattle.walrus_types.proofs.laws.search_finds_latest.Goals as goal

pub returns : goal.returns
returns c = latest-law c.args.types.now
