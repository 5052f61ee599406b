use Rattle.std.specs.Prelude.{◌++◌}
use Rattle.walrus_index_maps.specs.Views.{indices}
use Rattle.walrus_meaning.specs.Meaning.{means}
use Rattle.walrus_module.specs.Parts.{parts}
use Rattle.walrus_module.specs.walrus_body_writer.walrus_pairing.Looks.{Look, number_of}
use Rattle.wasm_grammar.specs.Modules.{Module}
use Rattle.walrus_emit_parts.specs.Due.{Due}
use Rattle.walrus_emit_parts.proofs.Lemmas.{refused_front, writes_on}
use Rattle.walrus_emit.proofs.WholeLemmas.{refused_later}
use Rattle.walrus_emit_due.specs.Items.{exports, globals, memories, tables, tags}
use Rattle.walrus_emit.proofs.contents.write_own_items.Goals as goal

pub returns-in-Err : goal.returns-in-Err
returns-in-Err g c =
    let look : Look = number_of (indices c.args.maps.now) 0 in
    let m : Module = means (parts c.args.input.now) in
    refused_front (tables look m.tables) _ _ _ _ c.in-Err.ensures

pub returns-in-Err-emit_memories : goal.returns-in-Err-emit_memories
returns-in-Err-emit_memories g c =
    let look : Look = number_of (indices c.args.maps.now) 0 in
    let m : Module = means (parts c.args.input.now) in
    let four : Due = globals look m.globals ++ exports look m.exports in
    let three : Due = tags look m.tags ++ four in
    refused_later _ _ _ (tables look m.tables) (memories m.memories ++ three) _ c.in-Ok.ensures (refused_front (memories m.memories) three _ _ _ c.in-Err-emit_memories.ensures)

pub returns-in-Err-emit_tags : goal.returns-in-Err-emit_tags
returns-in-Err-emit_tags g c =
    let look : Look = number_of (indices c.args.maps.now) 0 in
    let m : Module = means (parts c.args.input.now) in
    let four : Due = globals look m.globals ++ exports look m.exports in
    let three : Due = tags look m.tags ++ four in
    refused_later _ _ _ (tables look m.tables) (memories m.memories ++ three) _ c.in-Ok.ensures
    (refused_later _ _ _ (memories m.memories) three _ c.in-Ok-emit_memories.ensures (refused_front (tags look m.tags) four _ _ _ c.in-Err-emit_tags.ensures))

pub returns-in-Err-emit_globals : goal.returns-in-Err-emit_globals
returns-in-Err-emit_globals g c =
    let look : Look = number_of (indices c.args.maps.now) 0 in
    let m : Module = means (parts c.args.input.now) in
    let four : Due = globals look m.globals ++ exports look m.exports in
    let three : Due = tags look m.tags ++ four in
    refused_later _ _ _ (tables look m.tables) (memories m.memories ++ three) _ c.in-Ok.ensures
    (refused_later _ _ _ (memories m.memories) three _ c.in-Ok-emit_memories.ensures
    (refused_later _ _ _ (tags look m.tags) four _ c.in-Ok-emit_tags.ensures (refused_front (globals look m.globals) (exports look m.exports) _ _ _ c.in-Err-emit_globals.ensures)))

pub returns : goal.returns
returns g c =
    let look : Look = number_of (indices c.args.maps.now) 0 in
    let m : Module = means (parts c.args.input.now) in
    let four : Due = globals look m.globals ++ exports look m.exports in
    let three : Due = tags look m.tags ++ four in
    writes_on _ _ _ (tables look m.tables) (memories m.memories ++ three) _ c.in-Ok.ensures
    (writes_on _ _ _ (memories m.memories) three _ c.in-Ok-emit_memories.ensures
    (writes_on _ _ _ (tags look m.tags) four _ c.in-Ok-emit_tags.ensures
    (writes_on _ _ _ (globals look m.globals) (exports look m.exports) _ c.in-Ok-emit_globals.ensures c.emit_exports.ensures)))
