use Rattle.std.proofs.Common.{◌≡◌, ℕ, List, Some, None, false, length, slice_get, subst, ap, sym, arith}
use Rattle.std.specs.Option.{option_map}
use Rattle.wasm_name_payloads.specs.Names.{Given}
use Rattle.walrus_index_maps.specs.Views.{ids}
use Rattle.walrus_item_names.specs.Holder.{holder}
use Rattle.walrus_item_names.specs.Sent.{sent_names}
use Rattle.walrus_item_names.specs.Gives.{GivesNames}
use Rattle.walrus_item_names.specs.Synthetic.{synthetic_at}
use Rattle.walrus_item_names.proofs.Lookups.{found, missing}
use Rattle.walrus_item_names.proofs.Numbers.{gives_next, gives_all, below, past, same_synthetic}
use Rattle.walrus_item_names.proofs.synthetic.give_synthetic_names.Goals as goal

pub loop-id-preserved : goal.loop-id-preserved
loop-id-preserved c =
    let maps = ids c.args.maps.now in
    let first = holder c.args.types.now c.args.funcs.now c.args.tables.now c.args.memories.now c.args.tags.now c.args.globals.now c.args.elements.now c.args.data_segments.now c.args.locals.now c.args.own.now in
    let before = holder c.loop-id.types c.loop-id.funcs c.loop-id.tables c.loop-id.memories c.loop-id.tags c.loop-id.globals c.loop-id.elements c.loop-id.data_segments c.loop-id.locals c.loop-id.own in
    let after = holder c.name_function.new.types c.name_function.new.funcs c.name_function.new.tables c.name_function.new.memories c.name_function.new.tags c.name_function.new.globals c.name_function.new.elements c.name_function.new.data_segments c.name_function.new.locals c.name_function.new.own in
    let n = c.loop-id.number in
    let there : slice_get maps.functions n ≡ Some c.in-Ok.id = found (slice_get maps.functions n) _ c.in-Ok.id (sym c.in-Ok.ensures) in
    let less = below (λ (k : ℕ). k) maps.functions n c.in-Ok.id (ap (option_map (λ (k : ℕ). k)) (sym there)) in
    let step : GivesNames (sent_names false maps (synthetic_at maps first n)) before after =
    subst (λ (names : List Given). GivesNames (sent_names false maps names) before after) (same_synthetic maps first before n c.loop-id.invariant.gives.same) c.in_ok-name_function.ensures.gives
    in
    record {
      inside = omega (arith, less);
      gives = gives_next maps (synthetic_at maps first) n first before after c.loop-id.invariant.gives step;
    }

pub returns-clause-gives : goal.returns-clause-gives
returns-clause-gives c =
    let maps = ids c.args.maps.now in
    let first = holder c.args.types.now c.args.funcs.now c.args.tables.now c.args.memories.now c.args.tags.now c.args.globals.now c.args.elements.now c.args.data_segments.now c.args.locals.now c.args.own.now in
    let n = c.loop-id.number in
    let none : slice_get maps.functions n ≡ None = missing (slice_get maps.functions n) _ _ (sym c.in_default.ensures) in
    let all = past (λ (k : ℕ). k) maps.functions n (ap (option_map (λ (k : ℕ). k)) (sym none)) in
    gives_all maps (synthetic_at maps first) n (length maps.functions) first (holder c.loop-id.types c.loop-id.funcs c.loop-id.tables c.loop-id.memories c.loop-id.tags c.loop-id.globals c.loop-id.elements c.loop-id.data_segments c.loop-id.locals c.loop-id.own) c.loop-id.invariant.inside all c.loop-id.invariant.gives
