-- Lemmas: what `on_parse` of `parse_with` is handed.
use Rattle.std.specs.Prelude.{ℕ, Result}
use Rattle.std.specs.Borrow.{Bor, MutBor}
use Rattle.std.specs.Fn.{Once}
use Rattle.walrus_errors.specs.declared.error.ModuleError.{ModuleError}
use Rattle.walrus_parse_laws.specs.walrus_named_bodies.walrus_item_names.walrus_module.declared.module.Module.{Module as Whole}
use Rattle.walrus_parse_laws.specs.walrus_pairing.walrus_index_maps.Views.{ids}
use Rattle.walrus_parse_laws.specs.walrus_pairing.walrus_index_maps.declared.indices_to_ids.IndicesToIds.{IndicesToIds}
use Rattle.walrus_walks.specs.walrus_instr.declared.seq.InstrLocId.{InstrLocId}
use Rattle.walrus_parse_gc_laws.specs.Handed.{HandedModulesMeanTheirFiles}
use Rattle.walrus_parse_gc_laws.specs.RuledSent.{ReadModulesAreHandedOn}

pub handed_files : {G : Type 0} (step : G → ℕ → InstrLocId → G → Type 0) {B F : Type 0} (on_parse : Once F (MutBor (Whole B) × (Bor IndicesToIds × Unit {0})) (Result (Unit {0}) ModuleError × (MutBor (Whole B) × Unit {0})))
    → ReadModulesAreHandedOn step B → HandedModulesMeanTheirFiles step on_parse
handed_files step on_parse on config bytes places f answer m small h = record {
  read = h.read;
  handed = record h.read { funcs = h.functions };
  found = h.found;
  is = on config bytes h.read (ids h.found) places h.last h.functions small h.is_read h.sent;
  left = h.left;
}
