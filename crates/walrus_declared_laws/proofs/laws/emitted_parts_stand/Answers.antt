use Rattle.walrus_declared_laws.proofs.Standing.{parts_stand}
use Rattle.walrus_declared_laws.proofs.laws.emitted_parts_stand.Goals as goal

pub returns : goal.returns
returns g c =
    parts_stand c.read_types_are_written.ensures c.file_types_have_their_indices.ensures c.emissions_declare.ensures c.undeclared_are_declared.ensures c.agreeing_modules_are_ordered.ensures c.parts_agree.ensures
    c.retyped_parts_are_same.ensures c.wanted_are_there.ensures c.normal_forms_of_read_modules_are_ruled.ensures.plain
