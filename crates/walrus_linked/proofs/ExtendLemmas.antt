-- A module that has one more item and the import that brings it stays linked.
use Rattle.std.proofs.Common.{◌≡◌, ◌∙◌, ◌⊎◌, ℕ, List, [], ◌∷◌, ◌++◌, length, Some, Contains, sym, ap, subst, inl, inr}
use Rattle.walrus_arena.specs.Arena.{Arena, item_at}
use Rattle.walrus_module.specs.walrus_module_items.declared.import.Import.{Import}
use Rattle.walrus_module.specs.walrus_module_items.declared.export.Export.{Export}
use Rattle.walrus_module.specs.walrus_module_items.declared.function.Function.{Function}
use Rattle.wasm_formats.specs.declared.fault.Space.{Space}
use Rattle.wasm_formats.specs.declared.fault.Space.TheVariants as spaces
use Rattle.walrus_module.specs.walrus_types.Table.{Table}
use Rattle.walrus_module.specs.Parts.{Module}
use Rattle.walrus_roots.specs.declared.item.Item.{Item}
use Rattle.walrus_roots.specs.Items.{item}
use Rattle.walrus_module.specs.Items.{Lives, LivesIn, brought, given_out}
use Rattle.walrus_linked.specs.Names.{names}
use Rattle.walrus_linked.specs.Linked.{IsLinked, IsWhole, GroupsAreWritten, import_of, import_in}
use Rattle.walrus_linked.proofs.SlotLemmas.{pushed_at, pushed_kept, pushed_new}

-- there is this import beside the old ones
pub record ImportsExtend (old new : Arena Import) (i0 : ℕ) (imp0 : Import) : Type 0 where
  pub at : (i : ℕ) (imp : Import) → item_at new i ≡ Some imp → (item_at old i ≡ Some imp) ⊎ ((i ≡ i0) × (imp ≡ imp0))
  pub kept : (i : ℕ) (imp : Import) → item_at old i ≡ Some imp → item_at new i ≡ Some imp
  pub added : item_at new i0 ≡ Some imp0

pub imports_extend : (m : Module) (is : Arena Import) (imp0 : Import) → is.slots ≡ m.imports.slots ++ Some imp0 ∷ [] → ImportsExtend m.imports is (length m.imports.slots) imp0
imports_extend m is imp0 brings = record {
  at = λ i imp at. pushed_at m.imports is imp0 brings imp i at;
  kept = λ i imp at. pushed_kept m.imports is imp0 brings imp i at;
  added = pushed_new m.imports is imp0 brings;
}

-- in this space items live on, say the same of imports and name the same; no other item is there, but this one, which this import brings
pub record InSpace (m n : Module) (x0 : Item) (i0 : ℕ) (s : Space) : Type 0 where
  pub import_kept : (id i : ℕ) → import_in m s id ≡ Some i → import_in n s id ≡ Some i
  pub import_at : (id i : ℕ) → import_in n s id ≡ Some i → (import_in m s id ≡ Some i) ⊎ ((item s id ≡ x0) × (i ≡ i0))
  pub lives_kept : (id : ℕ) → LivesIn m s id → LivesIn n s id
  pub lives_at : (id : ℕ) → LivesIn n s id → LivesIn m s id ⊎ (item s id ≡ x0)
  pub names_kept : (id : ℕ) → LivesIn m s id → names n (item s id) ≡ names m (item s id)

-- n has this item and this import beside what m has
pub record Extends (m n : Module) (x0 : Item) (i0 : ℕ) (imp0 : Import) : Type 0 where
  pub imports : ImportsExtend m.imports n.imports i0 imp0
  pub brings : brought imp0.kind ≡ x0
  pub spaces : (s : Space) → InSpace m n x0 i0 s
  pub import_new : import_of n x0 ≡ Some i0
  pub whole : (f : ℕ) (function : Function) → item_at n.funcs f ≡ Some function → IsWhole n.types function.kind
  pub names_new : (y : Item) → Contains (names n x0) y → Lives n y
  pub types_same : n.types ≡ m.types
  pub exports_same : n.exports ≡ m.exports
  pub start_same : n.start ≡ m.start

pub linked : (m n : Module) (x0 : Item) (i0 : ℕ) (imp0 : Import) → Extends m n x0 i0 imp0 → IsLinked m → IsLinked n
linked m n x0 i0 imp0 e l = record {
  imports = λ i imp at. elim (e.imports.at i imp at) as (λ _. import_of n (brought imp.kind) ≡ Some i) [
    | inl h ↦ let x = brought imp.kind in (e.spaces x.space).import_kept x.id i (l.imports i imp h)
    | inr h ↦ ap (λ (j : Import). import_of n (brought j.kind)) h.1 ∙ ap (import_of n) e.brings ∙ e.import_new ∙ ap Some (sym h.0)
  ];
  imported = λ x i at. elim ((e.spaces x.space).import_at x.id i at) as (λ _. (imp : Import) × (item_at n.imports i ≡ Some imp) × (brought imp.kind ≡ x)) [
    | inl h ↦ let o = l.imported x i h in (o.0, e.imports.kept i o.0 o.1, o.2)
    | inr h ↦ (imp0, ap (item_at n.imports) h.1 ∙ e.imports.added, e.brings ∙ sym h.0)
  ];
  whole = e.whole;
  named = λ x y lives has. elim ((e.spaces x.space).lives_at x.id lives) as (λ _. Lives n y) [
    | inl h ↦ let F : List Item → Type 0 = λ ys. Contains ys y in (e.spaces y.space).lives_kept y.id (l.named x y h (subst F ((e.spaces x.space).names_kept x.id h) has))
    | inr h ↦ let F : Item → Type 0 = λ z. Contains (names n z) y in e.names_new y (subst F h has)
  ];
  grouped = let G : Table → Type 0 = λ t. GroupsAreWritten t in subst G (sym e.types_same) l.grouped;
  exported = λ k export at. let old : item_at m.exports k ≡ Some export = ap (λ (a : Arena Export). item_at a k) (sym e.exports_same) ∙ at in let x = given_out export.item in (e.spaces x.space).lives_kept x.id (l.exported k export old);
  started = λ f at. (e.spaces spaces.Function).lives_kept f (l.started f (sym e.start_same ∙ at));
}
