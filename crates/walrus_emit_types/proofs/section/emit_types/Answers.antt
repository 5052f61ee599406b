use Rattle.std.specs.Prelude.{length, map}
use Rattle.std.proofs.Common.{rules, refl}
use Rattle.wasm_formats.specs.declared.fault.Limited.TheVariants.{Types}
use Rattle.walrus_forms.specs.Records.{type_group}
use Rattle.walrus_emit_parts.proofs.Lemmas.{limit_passed}
use Rattle.walrus_emit_due.specs.Types.{type_section}
use Rattle.walrus_emit_types.proofs.section.emit_types.Goals as goal

pub returns-then-len-gt-MAX_TYPES : goal.returns-then-len-gt-MAX_TYPES
returns-then-len-gt-MAX_TYPES c = limit_passed 1000000 (length c.args.types.now.ids.items) Types (type_section (map type_group c.args.types.now.groups.items)) _ _ (search rules) refl
