use Rattle.walrus_stands_laws.proofs.Stands.{emissions_stand}
use Rattle.walrus_stands_laws.proofs.laws.emissions_stand_for_files.Goals as goal

pub returns : goal.returns
returns g c =
    emissions_stand c.emitted_parts_stand.ensures c.parts_stay.ensures.left c.parts_stay.ensures.parts c.plans_have_kept.ensures c.handlers_are_lacking.ensures c.meanings_of_read_modules_are_merged.ensures
    c.read_files_are_picked.ensures c.kept_plans_are_placed.ensures c.declared_are_kept.ensures c.left_types_are_listed.ensures c.plans_list_living.ensures c.declaring_plans_list_living.ensures
