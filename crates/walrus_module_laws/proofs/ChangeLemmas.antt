-- Changes of a module that leave its imports: what was linked stays so.
use Rattle.std.proofs.Common.{◌≡◌, ◌∙◌, ◌⊎◌, ℕ, [], Some, Contains, sym, ap, inl, inr, arith}
use Rattle.walrus_arena.specs.Arena.{Arena, item_at}
use Rattle.walrus_linked.specs.walrus_module_items.declared.import.Import.{Import}
use Rattle.walrus_linked.specs.walrus_module_items.declared.export.Export.{Export}
use Rattle.walrus_linked.specs.walrus_module_items.declared.function.Function.{Function}
use Rattle.wasm_formats.specs.declared.fault.Space.{Space}
use Rattle.wasm_formats.specs.declared.fault.Space.TheVariants as spaces
use Rattle.walrus_linked.specs.walrus_module.Parts.{Module}
use Rattle.walrus_roots.specs.declared.item.Item.{Item}
use Rattle.walrus_roots.specs.Items.{item}
use Rattle.walrus_linked.specs.walrus_module.Items.{Lives, LivesIn, brought, given_out}
use Rattle.walrus_linked.specs.Names.{names}
use Rattle.walrus_linked.specs.Linked.{IsLinked, IsWhole, GroupsAreWritten, import_in}

-- in this space items live on and say the same of imports; what they name they named, or it lives
pub record InSpace (m n : Module) (s : Space) : Type 0 where
  pub import_kept : (id i : ℕ) → import_in m s id ≡ Some i → import_in n s id ≡ Some i
  pub import_at : (id i : ℕ) → import_in n s id ≡ Some i → import_in m s id ≡ Some i
  pub lives_kept : (id : ℕ) → LivesIn m s id → LivesIn n s id
  pub named : (id : ℕ) → LivesIn n s id → (y : Item) → Contains (names n (item s id)) y → (LivesIn m s id × Contains (names m (item s id)) y) ⊎ Lives n y

pub record Changes (m n : Module) : Type 0 where
  pub imports_same : n.imports ≡ m.imports
  pub spaces : (s : Space) → InSpace m n s
  pub whole : (f : ℕ) (function : Function) → item_at n.funcs f ≡ Some function → IsWhole n.types function.kind
  pub exported : (e : ℕ) (export : Export) → item_at n.exports e ≡ Some export → (item_at m.exports e ≡ Some export) ⊎ Lives n (given_out export.item)
  pub start_same : n.start ≡ m.start
  pub grouped : GroupsAreWritten n.types

pub after_change : (m n : Module) → Changes m n → IsLinked m → IsLinked n
after_change m n c l = record {
  imports = λ i imp at.
      let old : item_at m.imports i ≡ Some imp = ap (λ (a : Arena Import). item_at a i) (sym c.imports_same) ∙ at in
      let x = brought imp.kind in (c.spaces x.space).import_kept x.id i (l.imports i imp old);
  imported = λ x i at.
      let o = l.imported x i ((c.spaces x.space).import_at x.id i at) in
      (o.0, ap (λ (a : Arena Import). item_at a i) c.imports_same ∙ o.1, o.2);
  whole = c.whole;
  named = λ x y lives has. elim ((c.spaces x.space).named x.id lives y has) as (λ _. Lives n y) [
    | inl h ↦ (c.spaces y.space).lives_kept y.id (l.named x y h.0 h.1)
    | inr h ↦ h
  ];
  grouped = c.grouped;
  exported = λ e export at. elim (c.exported e export at) as (λ _. Lives n (given_out export.item)) [
    | inl h ↦ let x = given_out export.item in (c.spaces x.space).lives_kept x.id (l.exported e export h)
    | inr h ↦ h
  ];
  started = λ f at. (c.spaces spaces.Function).lives_kept f (l.started f (sym c.start_same ∙ at));
}

pub none_has : {P : Type 0} (y : Item) → Contains [] y → P
none_has y (k, less, at) = absurd (omega (arith, less))
