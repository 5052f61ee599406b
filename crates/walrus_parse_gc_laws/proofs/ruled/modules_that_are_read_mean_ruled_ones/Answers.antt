use Rattle.walrus_parse_gc_laws.proofs.RuledLemmas.{read_ruled}
use Rattle.walrus_parse_gc_laws.proofs.ruled.modules_that_are_read_mean_ruled_ones.Goals as goal

pub returns : goal.returns
returns g c =
    read_ruled c.parsing_carries_same.ensures c.normal_operators_are_ruled.ensures.operators c.new_kinds_stand_behind.ensures.unfound c.normal_forms_of_read_modules_are_ruled.ensures.counted
    c.merged_files_are_ruled.ensures c.meanings_of_read_modules_are_merged.ensures c.modules_that_are_read_mean_their_files.ensures
