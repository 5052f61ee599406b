use Rattle.std.proofs.Common.{◌≡◌, ◌∙◌, ap, sym, subst, length, refl, List, [], Option}
use Rattle.std.specs.declared.alloc.Global.{Global as Alloc}
use Rattle.std.specs.declared.string.String.{String}
use Rattle.walrus_named_bodies.specs.wasm_name_payloads.Names.{names_of}
use Rattle.walrus_errors.specs.declared.error.ModuleError.{ModuleError}
use Rattle.walrus_named_bodies.specs.walrus_file_bodies.Ready.{bodies_in}
use Rattle.walrus_named_bodies.specs.walrus_file_bodies.walrus_items_into.Spaces.{spaces}
use Rattle.walrus_named_bodies.specs.walrus_file_bodies.walrus_items_into.walrus_tables_into.walrus_sections_into.walrus_index_maps.Views.{ids}
use Rattle.walrus_named_bodies.specs.walrus_file_bodies.walrus_items_into.walrus_tables_into.walrus_sections_into.walrus_index_maps.Maps.{Ids}
use Rattle.walrus_named_bodies.specs.walrus_file_bodies.walrus_items_into.walrus_tables_into.walrus_sections_into.walrus_known_sections.State.{state_of}
use Rattle.walrus_named_bodies.specs.walrus_file_bodies.walrus_items_into.walrus_tables_into.walrus_sections_into.walrus_known_sections.declared.sections.Sections.{Sections}
use Rattle.walrus_named_bodies.specs.walrus_file_bodies.walrus_items_into.wasm_module_rules.wasm_modules.Modules.{module_of}
use Rattle.walrus_named_bodies.specs.walrus_file_bodies.walrus_module_bodies.Steps.{Steps, state}
use Rattle.walrus_named_bodies.specs.walrus_item_names.Gives.{GivesNames}
use Rattle.walrus_named_bodies.specs.walrus_item_names.Holder.{holder}
use Rattle.walrus_named_bodies.specs.walrus_item_names.walrus_module.walrus_body_writer.walrus_pairing.wasm_operators.wasm_features.declared.WasmFeatures.{WasmFeatures}
use Rattle.walrus_named_bodies.specs.walrus_item_names.walrus_module.walrus_types.Table.{Table, entries, next_id}
use Rattle.walrus_named_bodies.specs.walrus_item_names.walrus_module.walrus_types.walrus_items.declared.local.Local.{Local}
use Rattle.walrus_named_bodies.specs.walrus_file_bodies.walrus_items_into.walrus_payloads_into.Customs.{AreCustoms, customs_of}
use Rattle.walrus_named_bodies.specs.Named.{all_names}
use Rattle.walrus_named_bodies.specs.Parsed.{ReadsAs, read_features}
use Rattle.walrus_parse.specs.Refusals.{IsRefusal}
use Rattle.walrus_parse.proofs.TypeLemmas.{all_live}
use Rattle.walrus_parse.proofs.WantLemmas.{filled_wanting}
use Rattle.walrus_named_bodies.proofs.CodeLemmas.{handed}
use Rattle.walrus_parse.proofs.WholeLemmas.{code_refused, file_typed, is_whole, ready_left, refusal_typed, small, steps_typed}
use Rattle.walrus_parse.proofs.whole.read_module.Goals as goal

pub read_items-requires-clause-read : goal.read_items-requires-clause-read
read_items-requires-clause-read g c = (c.features-features.result, c.args.wasm.now, (small c.args.wasm.now c.type_inv.wasm), c.in_ok-sections.ensures.read)

pub read_named-requires-clause-full : goal.read_named-requires-clause-full
read_named-requires-clause-full g c =
    subst (λ (t : Table). length (entries t) ≡ next_id t) (sym c.in-Ok.ensures.filled.types) (all_live c.in_ok-sections.sections.types)

pub read_named-requires-clause-ready : goal.read_named-requires-clause-ready
read_named-requires-clause-ready g c =
    let s = c.in_ok-sections.sections in
    let left = c.read_items.new.sections in
    let i = ids c.want_all_locals.new.self in
    let m = spaces c.read_items.new.types c.read_items.new.imports c.read_items.new.functions c.read_items.new.tables c.read_items.new.memories c.read_items.new.tags c.read_items.new.globals c.read_items.new.exports c.read_items.new.elements c.read_items.new.segments c.read_items.new.customs in
    let filled = filled_wanting s c.in-Ok.start (ids c.read_items.new.maps) i m c.args.config.now.generate_synthetic_names_for_anonymous_items c.want_all_locals.ensures c.in-Ok.ensures.filled in
    λ file is.
    ready_left left s m.functions file c.features-features.result (state m.types c.args.locals.now i m.functions) c.in-Ok.ensures.left
    ((c.filled_modules_are_ready.ensures c.features-features.result c.args.wasm.now s c.in-Ok.start i m file c.in_ok-sections.ensures.short (small c.args.wasm.now c.type_inv.wasm) c.in_ok-sections.ensures.read filled
    (file_typed left s m.types m.tags m.memories file c.in-Ok.ensures.left is)).ready c.args.locals.now)

pub read_named-requires-clause-few : goal.read_named-requires-clause-few
read_named-requires-clause-few g c =
    let s = c.in_ok-sections.sections in
    let left = c.read_items.new.sections in
    let i = ids c.want_all_locals.new.self in
    let m = spaces c.read_items.new.types c.read_items.new.imports c.read_items.new.functions c.read_items.new.tables c.read_items.new.memories c.read_items.new.tags c.read_items.new.globals c.read_items.new.exports c.read_items.new.elements c.read_items.new.segments c.read_items.new.customs in
    let filled = filled_wanting s c.in-Ok.start (ids c.read_items.new.maps) i m c.args.config.now.generate_synthetic_names_for_anonymous_items c.want_all_locals.ensures c.in-Ok.ensures.filled in
    λ file new is steps.
    (is_whole c.bodies_read_files.ensures c.named_locals_count.ensures c.filled_modules_are_numbered.ensures c.few_are_numbered.ensures c.features-features.result c.args.wasm.now s c.in-Ok.start i m
    file c.args.locals.now new c.in_ok-sections.ensures.short (small c.args.wasm.now c.type_inv.wasm) c.in_ok-sections.ensures.read filled
    (file_typed left s m.types m.tags m.memories file c.in-Ok.ensures.left is)
    (steps_typed left s m.functions file c.features-features.result (state m.types c.args.locals.now i m.functions) new c.in-Ok.ensures.left steps)).few

pub returns-in_err-read_named-clause-refused : goal.returns-in_err-read_named-clause-refused
returns-in_err-read_named-clause-refused g c =
    let s = c.in_ok-sections.sections in
    let left = c.read_items.new.sections in
    let i = ids c.want_all_locals.new.self in
    let m = spaces c.read_items.new.types c.read_items.new.imports c.read_items.new.functions c.read_items.new.tables c.read_items.new.memories c.read_items.new.tags c.read_items.new.globals c.read_items.new.exports c.read_items.new.elements c.read_items.new.segments c.read_items.new.customs in
    let filled = filled_wanting s c.in-Ok.start (ids c.read_items.new.maps) i m c.args.config.now.generate_synthetic_names_for_anonymous_items c.want_all_locals.ensures c.in-Ok.ensures.filled in
    handed (λ (error : ModuleError). IsRefusal (read_features c.args.config.now) c.args.wasm.now error) c.in_err-read_named.field-0.0 c.from_residual-in_err-read_named.result c.from_residual-in_err-read_named.ensures
    (subst (λ (features : WasmFeatures). IsRefusal features c.args.wasm.now c.in_err-read_named.field-0.0) c.features-features.ensures
    (code_refused c.bodies_stop_files.ensures c.features-features.result c.args.wasm.now s c.in-Ok.start i m c.args.locals.now c.in_err-read_named.field-0.0 c.in_ok-sections.ensures.short (small c.args.wasm.now c.type_inv.wasm) c.in_ok-sections.ensures.read
    filled
    (refusal_typed left s c.features-features.result m.tags m.memories m.functions (state m.types c.args.locals.now i m.functions) c.in_err-read_named.field-0.0 c.in-Ok.ensures.left c.in_err-read_named.ensures.stops)))

pub returns-clause-read : goal.returns-clause-read
returns-clause-read g c =
    let s = c.in_ok-sections.sections in
    let left = c.read_items.new.sections in
    let i = ids c.want_all_locals.new.self in
    let m = spaces c.read_items.new.types c.read_items.new.imports c.read_items.new.functions c.read_items.new.tables c.read_items.new.memories c.read_items.new.tags c.read_items.new.globals c.read_items.new.exports c.read_items.new.elements c.read_items.new.segments c.read_items.new.customs in
    let filled = filled_wanting s c.in-Ok.start (ids c.read_items.new.maps) i m c.args.config.now.generate_synthetic_names_for_anonymous_items c.want_all_locals.ensures c.in-Ok.ensures.filled in
    let read = c.in_ok-read_named.ensures.read in
    let new = read.bodied in
    let is_file = file_typed left s m.types m.tags m.memories read.file c.in-Ok.ensures.left read.is_file in
    let bodies_are = steps_typed left s m.functions read.file c.features-features.result (state m.types c.args.locals.now i m.functions) new c.in-Ok.ensures.left read.bodies_are in
    let w = is_whole c.bodies_read_files.ensures c.named_locals_count.ensures c.filled_modules_are_numbered.ensures c.few_are_numbered.ensures c.features-features.result c.args.wasm.now s c.in-Ok.start i m
    read.file c.args.locals.now new c.in_ok-sections.ensures.short (small c.args.wasm.now c.type_inv.wasm) c.in_ok-sections.ensures.read filled is_file bodies_are in
    let bs = bodies_in s m.functions in
    let whole = module_of (state_of s) w.bodies in
    let steps = subst (λ (locals : List Local). Steps read.file c.features-features.result bs (state m.types locals i m.functions) new) c.requires.no_locals bodies_are in
    let given = read.names whole w.numbered (subst (λ (t : Sections). AreCustoms whole t.customs.items) (sym c.in-Ok.ensures.left) refl) in record {
      sections = s;
      bodies = w.bodies;
      reads = subst (λ (features : WasmFeatures). ReadsAs features c.args.wasm.now s w.bodies) c.features-features.ensures w.reads;
      numbers = i;
      filled = m;
      are_filled = filled;
      wanted = ap (λ (j : Ids). j.all_locals) c.want_all_locals.ensures;
      file = read.file;
      is_file = is_file;
      bodied = new;
      bodies_are = subst (λ (features : WasmFeatures). Steps read.file features bs (state m.types [] i m.functions) new) c.features-features.ensures steps;
      found_are = read.found_are;
      names = subst (λ (own : Option (String Alloc)). GivesNames (all_names c.args.config.now.generate_synthetic_names_for_anonymous_items new.ids (holder new.types new.functions m.tables m.memories m.tags m.globals m.elements m.segments new.locals own) (names_of whole))
          (holder new.types new.functions m.tables m.memories m.tags m.globals m.elements m.segments new.locals own)
          (holder c.read_named.new.types c.read_named.new.functions c.read_named.new.tables c.read_named.new.memories c.read_named.new.tags c.read_named.new.globals c.read_named.new.elements c.read_named.new.segments c.read_named.new.locals c.read_named.new.own))
          c.requires.unnamed given;
      imports = refl;
      exports = refl;
      customs = refl;
      producers_are = c.in_ok-producers.ensures whole (ap (λ (t : Sections). customs_of t.customs.items) (sym c.in-Ok.ensures.left) ∙ ap customs_of (sym c.as_slice.ensures.value));
    }
