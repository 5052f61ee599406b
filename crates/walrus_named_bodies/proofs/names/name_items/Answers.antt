use Rattle.std.proofs.Common.{List, map, ap, ◌∙◌, subst}
use Rattle.std.proofs.lemmas.Result.{on_ok_weaker}
use Rattle.walrus_payload_readers.specs.wasm_name_payloads.Names.{Given, names_of}
use Rattle.walrus_item_names.specs.walrus_module.walrus_body_writer.walrus_pairing.walrus_index_maps.Views.{ids}
use Rattle.walrus_item_names.specs.Gives.{GivesNames, gives_both}
use Rattle.walrus_item_names.specs.Holder.{Holder, holder}
use Rattle.walrus_item_names.specs.Sent.{sent_names}
use Rattle.walrus_payload_readers.specs.Bearers.{given_of}
use Rattle.walrus_named_bodies.specs.Named.{made_names}
use Rattle.walrus_named_bodies.proofs.names.name_items.Goals as goal

pub returns : goal.returns
returns c =
    let i = ids c.args.maps.now in
    let old : Holder = holder c.args.types.now c.args.funcs.now c.args.tables.now c.args.memories.now c.args.tags.now c.args.globals.now c.args.elements.now c.args.data_segments.now c.args.locals.now c.args.own.now in
    let mid : Holder = holder c.make_names.new.types c.make_names.new.funcs c.make_names.new.tables c.make_names.new.memories c.make_names.new.tags c.make_names.new.globals c.make_names.new.elements c.make_names.new.data_segments c.make_names.new.locals c.make_names.new.own in
    let new : Holder = holder c.give_names.new.types c.give_names.new.funcs c.give_names.new.tables c.give_names.new.memories c.give_names.new.tags c.give_names.new.globals c.give_names.new.elements c.give_names.new.data_segments c.give_names.new.locals c.give_names.new.own in
    on_ok_weaker c.give_names.result
    (λ gives m numbered customs.
    gives_both (made_names c.args.synthetic i old) (sent_names c.args.synthetic i (names_of m)) old mid new c.in_ok-make_names.ensures
    (subst (λ (names : List Given). GivesNames (sent_names c.args.synthetic i names) mid new) (ap (map given_of) c.as_slice.ensures.value ∙ c.in_ok-names.ensures m numbered customs) gives))
    c.give_names.ensures.gives
