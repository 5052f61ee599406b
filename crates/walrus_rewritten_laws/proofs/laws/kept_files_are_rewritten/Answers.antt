use Rattle.walrus_rewritten_laws.proofs.Files.{files_rewritten}
use Rattle.walrus_rewritten_laws.proofs.laws.kept_files_are_rewritten.Goals as goal

pub returns : goal.returns
returns g c =
    files_rewritten c.seen_as_is_meant.ensures c.kept_modules_are_planned.ensures c.written_bytes_are_canonical.ensures c.emissions_stand_for_files.ensures c.due_parts_are_written.ensures c.written_parts_are_counted.ensures c.part_bodies_are_short.ensures c.code_is_apart.ensures c.made_are_rewritten.ensures
