-- A module without items that nothing else names: what was linked stays so.
use Rattle.std.proofs.Common.{◌≡◌, ◌∙◌, ℕ, Some, Contains, refl, sym, ap}
use Rattle.walrus_arena.specs.Arena.{Arena, item_at}
use Rattle.walrus_linked.specs.walrus_module_items.declared.import.Import.{Import}
use Rattle.walrus_linked.specs.walrus_module_items.declared.export.Export.{Export}
use Rattle.walrus_linked.specs.walrus_module_items.declared.function.Function.{Function}
use Rattle.wasm_formats.specs.declared.fault.Space.{Space}
use Rattle.wasm_formats.specs.declared.fault.Space.TheVariants as spaces
use Rattle.walrus_linked.specs.walrus_module.Parts.{Module}
use Rattle.walrus_roots.specs.declared.item.Item.{Item}
use Rattle.walrus_roots.specs.Items.{item, space_number}
use Rattle.walrus_linked.specs.walrus_module.Items.{LivesIn, brought, given_out}
use Rattle.walrus_linked.specs.Names.{names}
use Rattle.walrus_linked.specs.Linked.{IsLinked, IsWhole, GroupsAreWritten, import_in}
use Rattle.walrus_module_laws.specs.Changes.{AreUnnamed}

-- items of two spaces differ
pub apart : (s t : Space) → (space_number s ≡ space_number t → ⊥) → (a b : ℕ) → item s a ≡ item t b → ⊥
apart s t differ a b same = differ (ap (λ (x : Item). space_number x.space) same)

-- in this space all items but those that go live on, and nothing else changes
pub record InDrop (m n : Module) (goes : Item → Type 0) (s : Space) : Type 0 where
  pub import_at : (id i : ℕ) → import_in n s id ≡ Some i → import_in m s id ≡ Some i
  pub import_kept : (id i : ℕ) → (goes (item s id) → ⊥) → import_in m s id ≡ Some i → import_in n s id ≡ Some i
  pub lives_at : (id : ℕ) → LivesIn n s id → LivesIn m s id × (goes (item s id) → ⊥)
  pub lives_kept : (id : ℕ) → (goes (item s id) → ⊥) → LivesIn m s id → LivesIn n s id
  pub named : (id : ℕ) → LivesIn n s id → (y : Item) → Contains (names n (item s id)) y → Contains (names m (item s id)) y

pub record Drops (m n : Module) (goes : Item → Type 0) : Type 0 where
  pub imports_same : n.imports ≡ m.imports
  pub exports_same : n.exports ≡ m.exports
  pub start_same : n.start ≡ m.start
  pub spaces : (s : Space) → InDrop m n goes s
  pub grouped : GroupsAreWritten n.types
  pub whole : (f : ℕ) (function : Function) → item_at n.funcs f ≡ Some function → IsWhole n.types function.kind

pub after_drop : (m n : Module) (goes : Item → Type 0) → Drops m n goes → AreUnnamed m goes → IsLinked m → IsLinked n
after_drop m n goes d none l = record {
  imports = λ i imp at.
      let old : item_at m.imports i ≡ Some imp = ap (λ (a : Arena Import). item_at a i) (sym d.imports_same) ∙ at in
      let y = brought imp.kind in (d.spaces y.space).import_kept y.id i (λ e. none.by_imports y e i imp old refl) (l.imports i imp old);
  imported = λ y i at.
      let o = l.imported y i ((d.spaces y.space).import_at y.id i at) in
      (o.0, ap (λ (a : Arena Import). item_at a i) d.imports_same ∙ o.1, o.2);
  whole = d.whole;
  named = λ y z lives has.
      let was = (d.spaces y.space).lives_at y.id lives in
      let had = (d.spaces y.space).named y.id lives z has in
      (d.spaces z.space).lives_kept z.id (λ e. was.1 (none.by_items z e y was.0 had)) (l.named y z was.0 had);
  grouped = d.grouped;
  exported = λ e export at.
      let old : item_at m.exports e ≡ Some export = ap (λ (a : Arena Export). item_at a e) (sym d.exports_same) ∙ at in
      let y = given_out export.item in (d.spaces y.space).lives_kept y.id (λ g. none.by_exports y g e export old refl) (l.exported e export old);
  started = λ f at.
      let old = sym d.start_same ∙ at in
      (d.spaces spaces.Function).lives_kept f (λ e. none.by_start (item spaces.Function f) e f old refl) (l.started f old);
}
