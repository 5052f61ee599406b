use Rattle.std.proofs.Common.{ℕ, List, length, subst}
use Rattle.wasm_formats.specs.declared.fault.Limited.TheVariants.{String}
use Rattle.walrus_index_maps.specs.Views.{indices}
use Rattle.walrus_pairing.specs.Looks.{number_of}
use Rattle.walrus_item_meaning.specs.Meaning.{own_export}
use Rattle.walrus_emit_parts.specs.Due.{Refused, limited, text}
use Rattle.walrus_emit_parts.proofs.Lemmas.{refused_front}
use Rattle.walrus_emit_due.specs.Items.{kind_index}
use Rattle.walrus_emit_sections.proofs.exports.write_export.Goals as goal

pub returns-in-Err : goal.returns-in-Err
returns-in-Err c =
    let it = own_export c.args.item.now in
    refused_front (limited 100000 (length it.name) String (text it.name)) (kind_index (number_of (indices c.args.maps.now) 0) it.item.space it.item.number) _ _ _
    (subst (λ (name : List ℕ). Refused (limited 100000 (length name) String (text name)) c.args.out.now.items c.write_name.new.out.items c.in-Err.error) c.as_str.ensures.value c.in-Err.ensures)
