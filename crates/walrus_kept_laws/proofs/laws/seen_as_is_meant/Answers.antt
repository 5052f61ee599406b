use Rattle.walrus_kept_laws.proofs.Looks.{seen_meant}
use Rattle.walrus_kept_laws.proofs.laws.seen_as_is_meant.Goals as goal

pub returns : goal.returns
returns g c =
    seen_meant c.meanings_of_read_modules_are_merged.ensures c.handlers_are_lacking.ensures c.read_types_are_read.ensures c.parsing_carries_same.ensures c.new_kinds_stand_behind.ensures.behind c.new_kinds_stand_behind.ensures.missing
    c.handlers_are_missing.ensures c.same_kind_is_equality.ensures c.names_are_renamed.ensures c.text_is_plain.ensures.plain c.trees_are_nested.ensures c.operators_come_back.ensures c.normal_forms_are_normal.ensures.nests
    c.operators_in_range_are_spelled.ensures c.normal_forms_of_read_modules_are_ruled.ensures.plain c.kept_is_meant.ensures c.linked_are_served.ensures
