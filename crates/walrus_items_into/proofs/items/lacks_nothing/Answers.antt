use Rattle.walrus_read_laws.specs.walrus_tables_into.walrus_sections_into.walrus_index_maps.Views.{ids}
use Rattle.walrus_items_into.proofs.LackLemmas.{left_lacks}
use Rattle.walrus_items_into.proofs.items.lacks_nothing.Goals as goal

pub returns : goal.returns
returns c = left_lacks c.args._sections.now (ids c.args._maps.now) c.read_sections_lack_nothing.ensures c.types_name_below.ensures c.new_types_stand.ensures c.requires
