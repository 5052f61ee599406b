use Rattle.std.proofs.Common.{string_bytes, arith}
use Rattle.wasm_formats.specs.declared.fault.Space.TheVariants as spaces
use Rattle.wasm_name_payloads.specs.Names.{ALocal, item_in}
use Rattle.walrus_index_maps.specs.Views.{ids}
use Rattle.walrus_payloads_into.specs.Numbered.{locals_in}
use Rattle.walrus_item_names.specs.Holder.{holder}
use Rattle.walrus_item_names.specs.Synthetic.{local_text, local_names}
use Rattle.walrus_item_names.specs.Targets.{target_bearer}
use Rattle.walrus_item_names.proofs.Numbers.{gives_next, gives_this, below}
use Rattle.walrus_item_names.proofs.synthetic.name_locals.Goals as goal

pub loop-target-preserved : goal.loop-target-preserved
loop-target-preserved c =
    let maps = ids c.args.maps.now in
    let n = c.loop-target.number in
    let before = holder c.loop-target.types c.loop-target.funcs c.loop-target.tables c.loop-target.memories c.loop-target.tags c.loop-target.globals c.loop-target.elements c.loop-target.data_segments c.loop-target.locals c.loop-target.own in
    let after = holder c.give.new.types c.give.new.funcs c.give.new.tables c.give.new.memories c.give.new.tags c.give.new.globals c.give.new.elements c.give.new.data_segments c.give.new.locals c.give.new.own in
    let less = below (item_in spaces.Local) (locals_in maps c.args.function) n (target_bearer c.in-Some.target) c.in-Some.ensures in
    record {
      inside = omega (arith, less);
      gives = gives_next maps (local_names c.args.function c.args.args) n _ before after c.loop-target.invariant.gives
          (gives_this maps (ALocal c.args.function n) c.in-Some.target (string_bytes c.in_ok-name.name) (local_text c.args.args n) before after c.in-Some.ensures c.in_ok-name.ensures c.give.ensures.gives);
    }
