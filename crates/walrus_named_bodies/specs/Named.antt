-- The names of a module that was read.
use Rattle.std.specs.Prelude.{Bool, List, [], ◌++◌, false, if◌then◌else◌}
use Rattle.walrus_payload_readers.specs.wasm_name_payloads.Names.{Given}
use Rattle.walrus_item_names.specs.walrus_module.walrus_body_writer.walrus_pairing.walrus_index_maps.Maps.{Ids}
use Rattle.walrus_item_names.specs.Holder.{Holder}
use Rattle.walrus_item_names.specs.Sent.{sent_names}
use Rattle.walrus_item_names.specs.Synthetic as made

-- synthetic names, if they are wanted
abbrev pub made_names : Bool → Ids → Holder → List Given
made_names synthetic ids m = sent_names false ids (if synthetic then made.synthetic ids m else [])

-- these come first, then those of the file, then without empty ones of locals
abbrev pub all_names : Bool → Ids → Holder → List Given → List Given
all_names synthetic ids m names = made_names synthetic ids m ++ sent_names synthetic ids names
