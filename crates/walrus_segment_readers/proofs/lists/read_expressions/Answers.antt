use Rattle.walrus_entry_readers.specs.walrus_known_sections.wasm_sections.wasm_grammar.Exprs.{expr}
use Rattle.walrus_entry_readers.specs.walrus_known_sections.wasm_sections.wasm_grammar.States.{known}
use Rattle.walrus_segment_readers.specs.Lists.{exprs_of, many_parse, listed_under}
use Rattle.walrus_entry_readers.specs.walrus_known_sections.State.{state_of}
use Rattle.walrus_segment_readers.proofs.lists.read_expressions.Goals as goal

pub returns : goal.returns
returns c =
    let k = known (state_of c.args.sections.now) in
    many_parse (expr c.args.reader.now.window.features k) exprs_of _ _ _ _ _ c.in_ok-count.ensures
    (listed_under k _ exprs_of c.args.reader.now c.read_u32.new.reader _ _ c.in_ok-count.ensures.moves.window c.read_exprs.ensures)
