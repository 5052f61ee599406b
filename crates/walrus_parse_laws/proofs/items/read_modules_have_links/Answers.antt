use Rattle.walrus_parse_laws.proofs.LinkLemmas.{have_links}
use Rattle.walrus_parse_laws.proofs.items.read_modules_have_links.Goals as goal

pub returns : goal.returns
returns g c = have_links c.read_modules_have_items.ensures c.read_modules_link.ensures c.read_modules_are_full.ensures c.read_modules_are_linked.ensures
