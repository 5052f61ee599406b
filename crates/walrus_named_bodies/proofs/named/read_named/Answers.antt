use Rattle.std.proofs.Common.{ap, sym, ◌∙◌, refl}
use Rattle.walrus_errors.specs.declared.error.ModuleError.{ModuleError}
use Rattle.walrus_file_bodies.specs.Ready.{bodies_in}
use Rattle.walrus_file_bodies.specs.walrus_items_into.walrus_payloads_into.Customs.{customs_of}
use Rattle.walrus_file_bodies.specs.walrus_module_bodies.Steps.{state}
use Rattle.walrus_item_names.specs.walrus_module.walrus_body_writer.walrus_pairing.walrus_index_maps.Views.{ids}
use Rattle.walrus_named_bodies.specs.Code.{IsCodeRefusal}
use Rattle.walrus_named_bodies.proofs.CodeLemmas.{handed}
use Rattle.walrus_named_bodies.proofs.named.read_named.Goals as goal

pub returns-in_err-read_code-clause-stops : goal.returns-in_err-read_code-clause-stops
returns-in_err-read_code-clause-stops c =
    handed (λ (error : ModuleError). IsCodeRefusal c.args.features c.args.sections.now c.args.tags.now c.args.memories.now (bodies_in c.args.sections.now c.args.functions.now) (state c.args.types.now c.args.locals.now (ids c.args.maps.now) c.args.functions.now) error)
    c.in_err-read_code.field-0.0 c.from_residual.result c.from_residual.ensures c.in_err-read_code.ensures.stops

pub name_items-requires : goal.name_items-requires
name_items-requires c =
    let read = c.in_ok-read_code.ensures.read in
    c.requires.few read.0 (state c.read_code.new.types c.read_code.new.locals (ids c.read_code.new.maps) c.read_code.new.functions) read.1 read.2

pub returns-clause-read : goal.returns-clause-read
returns-clause-read c =
    let read = c.in_ok-read_code.ensures.read in record {
      file = read.0;
      is_file = read.1;
      bodied = state c.read_code.new.types c.read_code.new.locals (ids c.read_code.new.maps) c.read_code.new.functions;
      bodies_are = read.2;
      found_are = refl;
      names = λ f numbered customs. c.in_ok-name_items.ensures f numbered (customs ∙ ap customs_of (sym c.as_slice.ensures.value));
    }
