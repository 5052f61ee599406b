use Rattle.std.specs.Prelude.{◌++◌}
use Rattle.walrus_index_maps.specs.Views.{indices}
use Rattle.walrus_meaning.specs.Meaning.{means}
use Rattle.walrus_module.specs.Parts.{parts}
use Rattle.walrus_module.specs.walrus_body_writer.walrus_pairing.Looks.{Look, number_of}
use Rattle.wasm_grammar.specs.Modules.{Module}
use Rattle.walrus_emit_parts.specs.Due.{Due}
use Rattle.walrus_emit_parts.proofs.Lemmas.{refused_front, writes_on}
use Rattle.walrus_emit.proofs.WholeLemmas.{refused_later}
use Rattle.std.specs.List.{list_any}
use Rattle.std.proofs.Common.{subst, Bool}
use Rattle.walrus_emit_numbers.specs.Numbers.{functions_at}
use Rattle.walrus_emit_numbers.specs.declared.facts.BodyFacts.{BodyFacts}
use Rattle.walrus_emit_parts.specs.Due.{Writes}
use Rattle.walrus_emit.specs.Whole.{front, own_items, uses}
use Rattle.walrus_emit.proofs.contents.write_before_code.Goals as goal

pub returns-in-Err : goal.returns-in-Err
returns-in-Err g c =
    let look : Look = number_of (indices c.args.maps.now) 0 in
    let m : Module = means (parts c.args.input.now) in
    refused_front (front look m c.args.types.now (functions_at c.args.facts.now c.args.order.now)) _ _ _ _ c.in-Err.ensures

pub returns-in-Err-write_own_items : goal.returns-in-Err-write_own_items
returns-in-Err-write_own_items g c =
    let look : Look = number_of (indices c.args.maps.now) 0 in
    let m : Module = means (parts c.args.input.now) in
    let behind : Due = uses look m (list_any (λ (f : BodyFacts). f.uses_data_segments) c.args.facts.now) in
    refused_later _ _ _ (front look m c.args.types.now (functions_at c.args.facts.now c.args.order.now)) (own_items look m ++ behind) _ c.in-Ok.ensures
    (refused_front (own_items look m) behind _ _ _ c.in-Err-write_own_items.ensures)

pub returns : goal.returns
returns g c =
    let look : Look = number_of (indices c.args.maps.now) 0 in
    let m : Module = means (parts c.args.input.now) in
    let behind : Due = uses look m (list_any (λ (f : BodyFacts). f.uses_data_segments) c.args.facts.now) in
    writes_on _ _ _ (front look m c.args.types.now (functions_at c.args.facts.now c.args.order.now)) (own_items look m ++ behind) _ c.in-Ok.ensures
    (writes_on _ _ _ (own_items look m) behind _ c.in-Ok-write_own_items.ensures
    (subst (λ (is_named : Bool). Writes (uses look m is_named) c.write_own_items.new.out.items c.write_uses.new.out.items c.write_uses.result) c.names_data.ensures c.write_uses.ensures))
