use Rattle.walrus_parse_gc_laws.proofs.RuledLemmas.{meanings_merged}
use Rattle.walrus_parse_gc_laws.proofs.ruled.meanings_of_read_modules_are_merged.Goals as goal

pub returns : goal.returns
returns g c =
    meanings_merged c.parsing_carries_same.ensures c.numbered_operators_are_normal.ensures.normal c.numbered_operators_are_normal.ensures.decide c.normal_forms_of_read_modules_are_ruled.ensures.counted
