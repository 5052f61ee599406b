use Rattle.std.proofs.Common.{◌≡◌, ◌++◌, ◌∙◌, true, List, map, ap, sym}
use Rattle.std.proofs.lemmas.Result.{on_ok_weaker}
use Rattle.walrus_payload_readers.specs.wasm_name_payloads.Names.{Given, same_name, section_name}
use Rattle.walrus_index_maps.specs.Views.{ids}
use Rattle.walrus_payload_readers.specs.Bearers.{given_of}
use Rattle.walrus_payloads_into.specs.Counted.{file_of, file_is_numbered}
use Rattle.walrus_payloads_into.specs.Same.{as_many, section_gives}
use Rattle.walrus_payloads_into.proofs.Lookups.{not_false}
use Rattle.walrus_payloads_into.proofs.names.read_section_names.Goals as goal

pub returns : goal.returns
returns c =
    let maps = ids c.args.maps.now in
    let named : same_name c.args.section.now section_name ≡ true = not_false _ (sym c.ne.ensures ∙ c.if-ne.false) in
    on_ok_weaker c.read_names.result
    (λ read m numbered.
    read
    ∙ ap (λ (l : List Given). map given_of c.args.names.now.items ++ l)
    (section_gives (file_of maps) m (as_many (file_of maps) m maps (file_is_numbered maps) numbered) c.args.section.now c.args.payload.now named))
    c.read_names.ensures
