use Rattle.std.specs.Prelude.{◌⊎◌, Err}
use Rattle.std.proofs.Common.{inl, inr, refl, subst}
use Rattle.walrus_config.specs.declared.config.ModuleConfig.{ModuleConfig as Flags}
use Rattle.walrus_errors.specs.declared.error.ModuleError.{ModuleError}
use Rattle.walrus_errors.specs.declared.error.ModuleError.TheVariants.{Memory}
use Rattle.walrus_named_bodies.specs.walrus_item_names.walrus_module.declared.module.Module.{Module as Whole}
use Rattle.walrus_named_bodies.specs.walrus_item_names.walrus_module.walrus_body_writer.walrus_pairing.walrus_index_maps.Views.{ids}
use Rattle.walrus_named_bodies.specs.Parsed.{HandsOn, read_features}
use Rattle.walrus_file_reader.specs.Files.{read_has_header}
use Rattle.walrus_parse.specs.Refusals.{IsRefusal}
use Rattle.walrus_parse.proofs.ReadLemmas.{is_read, leaves_so}
use Rattle.walrus_named_bodies.proofs.CodeLemmas.{handed}
use Rattle.walrus_parse.proofs.parse.ModuleConfigParse.parse_with.Goals as goal

pub returns-in_err-found-clause-refused : goal.returns-in_err-found-clause-refused
returns-in_err-found-clause-refused g c =
    handed (λ (error : ModuleError). IsRefusal (read_features c.args.self.now) c.args.wasm.now error ⊎ ((m : Whole g.row.B.Denot) × HandsOn {B = g.row.B.Denot} {G = g.row.G.Denot} (goal.G-step g) c.args.on_instr_loc {F = g.row.F.Denot} g.F.FnOnce c.args.on_parse c.args.self.now c.args.wasm.now (Err error) m))
    c.in_err-found.field-0.0 c.from_residual.result c.from_residual.ensures
    (inl (subst (λ (config : Flags). IsRefusal (read_features config) c.args.wasm.now c.in_err-found.field-0.0) c.with_config-module.ensures.config c.in_err-found.ensures.refused))

-- want of memory alone refuses a pass over locations
pub returns-in_err-send_locations-clause-refused : goal.returns-in_err-send_locations-clause-refused
returns-in_err-send_locations-clause-refused g c =
    handed (λ (error : ModuleError). IsRefusal (read_features c.args.self.now) c.args.wasm.now error ⊎ ((m : Whole g.row.B.Denot) × HandsOn {B = g.row.B.Denot} {G = g.row.G.Denot} (goal.G-step g) c.args.on_instr_loc {F = g.row.F.Denot} g.F.FnOnce c.args.on_parse c.args.self.now c.args.wasm.now (Err error) m))
    Memory c.from_residual-in_err-send_locations.result c.from_residual-in_err-send_locations.ensures (inl (inl (refl, c.in_ok-found.ensures.read.reads.short, read_has_header _ _ _ c.in_ok-found.ensures.read.reads.sections)))

pub returns-in-Err-clause-refused : goal.returns-in-Err-clause-refused
returns-in-Err-clause-refused g c =
    inr (
      c.on_parse.new.arg2,
      record {
        read = c.parse_into.new.module;
        found = c.in_ok-found.found;
        is_read = is_read c.parse_into.new.module c.args.self.now c.args.wasm.now c.with_config-module.result.config (ids c.in_ok-found.found) c.in_ok-found.ensures.flags c.with_config-module.ensures.config c.in_ok-found.ensures.read;
        last = c.send_locations.new.sends;
        functions = c.send_locations.new.functions;
        sent = c.in_ok-send_locations.ensures;
        left = leaves_so g.F.FnOnce c.args.on_parse _ _ _ _ _ c.in-Err.is c.on_parse.ensures;
      },
    )

pub returns-in-Ok-clause-read : goal.returns-in-Ok-clause-read
returns-in-Ok-clause-read g c = record {
  read = c.parse_into.new.module;
  found = c.in_ok-found.found;
  is_read = is_read c.parse_into.new.module c.args.self.now c.args.wasm.now c.with_config-module.result.config (ids c.in_ok-found.found) c.in_ok-found.ensures.flags c.with_config-module.ensures.config c.in_ok-found.ensures.read;
  last = c.send_locations.new.sends;
  functions = c.send_locations.new.functions;
  sent = c.in_ok-send_locations.ensures;
  left = leaves_so g.F.FnOnce c.args.on_parse _ _ _ _ _ c.in-Ok.is c.on_parse.ensures;
}
