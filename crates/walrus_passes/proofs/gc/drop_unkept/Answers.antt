use Rattle.std.proofs.Common.{refl}
use Rattle.wasm_formats.specs.declared.fault.Space.TheVariants as spaces
use Rattle.walrus_roots.specs.Items.{item}
use Rattle.walrus_types.specs.Table.{marked}
use Rattle.walrus_passes.specs.Keeping.{IsHeld}
use Rattle.walrus_passes.proofs.KeptLemmas.{surely_held}
use Rattle.walrus_passes.proofs.TypeLemmas.{types_rest}
use Rattle.walrus_passes.proofs.gc.drop_unkept.Goals as goal

pub returns-clause-part : goal.returns-clause-part
returns-clause-part g c = record {
  types = types_rest (λ id. IsHeld c.args.kept.now (item spaces.Type id)) (surely_held c.args.kept.now) c.args.input.now.types c.delete_unkept.new.self (marked c.args.types.now) (marked c.delete_unkept.new.marks) c.types_are_grouped.ensures c.requires.closed c.requires.listed
      c.delete_unkept.ensures.left c.delete_unkept.ensures.gone;
  funcs = c.drop_items.ensures;
  tables = c.drop_items-2.ensures;
  memories = c.drop_items-3.ensures;
  tags = c.drop_items-4.ensures;
  globals = c.drop_items-5.ensures;
  elements = c.drop_items-6.ensures;
  data_segments = c.drop_items-7.ensures;
  imports = c.drop_imports.ensures;
  others = refl;
}
