use Rattle.std.proofs.Common.{arith, refl, ℕ}
use Rattle.std.proofs.lemmas.Result.{err_from_is_err_and}
use Rattle.wasm_reader.specs.Reading.{plain}
use Rattle.walrus_entry_readers.specs.walrus_known_sections.wasm_sections.wasm_grammar.wasm_formats.declared.fault.Space.TheVariants as spaces
use Rattle.walrus_entry_readers.specs.walrus_known_sections.wasm_sections.wasm_grammar.Values.{index}
use Rattle.walrus_entry_readers.specs.walrus_section_values.walrus_section_reader.Repeats.{collects_none, collects, collects_not, collected, unless_memory, listed_at}
use Rattle.walrus_segment_readers.specs.Lists.{numbers_of}
use Rattle.walrus_entry_readers.specs.walrus_known_sections.Leads.{handed_on}
use Rattle.walrus_segment_readers.proofs.lists.read_indices.Goals as goal

pub loop-init : goal.loop-init
loop-init c = rw c.new-list.ensures.items (collects_none (index spaces.Function c.args.functions) c.args.reader.now c.args.count)

pub returns-in_err-function : goal.returns-in_err-function
returns-in_err-function c =
    let p = err_from_is_err_and c.from_residual.result c.from_residual.ensures.1 in
    let f = index spaces.Function c.args.functions in
    handed_on (listed_at f c.args.count) numbers_of _ _ _ _ _ p.1 p.2
    (collects_not f c.args.reader.now c.loop.reader _ _ c.loop.counter c.loop.list.items (plain {X = ℕ}) numbers_of _ c.loop.invariant c.loop-test.true
    (unless_memory f.parse (plain {X = ℕ}) _ _ _ c.in_err-function.ensures))

pub loop-preserved : goal.loop-preserved
loop-preserved c =
    let f = index spaces.Function c.args.functions in
    rw c.in_ok-push.ensures.items (collects f (plain {X = ℕ}) _ _ _ _ _ c.loop.list.items _ c.loop.invariant c.loop-test.true (unless_memory f.parse (plain {X = ℕ}) _ _ _ c.in_ok-function.ensures))

pub returns : goal.returns
returns c = collected (index spaces.Function c.args.functions) _ _ _ c.loop.counter c.loop.list.items numbers_of _ c.loop.invariant (omega arith) refl
