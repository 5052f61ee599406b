-- A module that is read under the flags that it was made with.
use Rattle.std.specs.Prelude.{ℕ, ◌≡◌, List, Result, refl}
use Rattle.std.specs.Fn.{Once}
use Rattle.std.specs.Borrow.{Bor, MutBor}
use Rattle.std.proofs.Common.{◌∙◌, subst}
use Rattle.walrus_config.specs.declared.config.ModuleConfig.{ModuleConfig}
use Rattle.walrus_named_bodies.specs.walrus_file_bodies.walrus_items_into.Spaces.{spaces}
use Rattle.walrus_named_bodies.specs.walrus_item_names.walrus_module.declared.module.Module.{Module as Whole}
use Rattle.walrus_named_bodies.specs.walrus_item_names.walrus_module.walrus_body_writer.walrus_pairing.walrus_index_maps.Maps.{Ids}
use Rattle.walrus_errors.specs.declared.error.ModuleError.{ModuleError}
use Rattle.walrus_named_bodies.specs.walrus_item_names.walrus_module.walrus_body_writer.walrus_pairing.walrus_index_maps.declared.indices_to_ids.IndicesToIds.{IndicesToIds}
use Rattle.walrus_named_bodies.specs.Parsed.{IsModuleOf, IsReadAs, Leaves}

pub is_read : {B : Type 0} (m : Whole B) (config : ModuleConfig) (bytes : List ℕ) (own : ModuleConfig) (found : Ids) → m.config ≡ own → own ≡ config
    → IsModuleOf own bytes m.start m.producers (spaces m.types m.imports m.funcs m.tables m.memories m.tags m.globals m.exports m.elements m.data_segments m.customs) m.locals m.name found
    → IsReadAs config bytes m found
is_read m config bytes own found is same read = (
  is ∙ same,
  subst (λ (flags : ModuleConfig). IsModuleOf flags bytes m.start m.producers (spaces m.types m.imports m.funcs m.tables m.memories m.tags m.globals m.exports m.elements m.data_segments m.customs) m.locals m.name found) same read,
)

-- what a call that was handed a module answers, and leaves
pub leaves_so : {B F : Type 0} (g : Once F (MutBor (Whole B) × (Bor IndicesToIds × Unit {0})) (Result (Unit {0}) ModuleError × (MutBor (Whole B) × Unit {0}))) (f : F)
    (shown : MutBor (Whole B)) (given : Bor IndicesToIds) (after : MutBor (Whole B)) (result answer : Result (Unit {0}) ModuleError) → result ≡ answer
    → g.post f (shown, (given, tt)) (result, (after, tt)) → Leaves g f shown.now given.now answer after.now
leaves_so g f shown given after result answer is met = record {
  shown = shown;
  shows = refl;
  given = given;
  gives = refl;
  after = after;
  met = subst (λ (r : Result (Unit {0}) ModuleError). g.post f (shown, (given, tt)) (r, (after, tt))) is met;
  leaves = refl;
}
