-- A function in the place of an exported one: what was linked stays so.
use Rattle.std.proofs.Common.{◌≡◌, ◌∙◌, ℕ, zero, suc, List, ◌∷◌, length, Option, Some, Contains, sym, ap, subst, arith}
use Rattle.std.specs.Prelude.{Result}
use Rattle.std.specs.Option.{IfSome}
use Rattle.std.specs.Fn.{Once}
use Rattle.std.specs.Borrow.{Bor, MutBor}
use Rattle.std.specs.declared.alloc.AllocError.{AllocError}
use Rattle.walrus_arena.specs.Arena.{item_at}
use Rattle.walrus_forms.specs.Forms.{params_of}
use Rattle.walrus_forms.specs.Kinds.{Kind, function_kind}
use Rattle.walrus_types.specs.Items.{Item as TypeItem}
use Rattle.walrus_types.specs.Table.{Table, type_at}
use Rattle.walrus_builder.specs.declared.function.FunctionBuilder.{FunctionBuilder}
use Rattle.walrus_builder.specs.Built.{Building}
use Rattle.walrus_tree.specs.Trees.{AreDistinct}
use Rattle.walrus_linked.specs.walrus_local_function.declared.local_function.LocalFunction.{LocalFunction}
use Rattle.walrus_linked.specs.walrus_module_items.declared.function.Function.{Function}
use Rattle.walrus_linked.specs.walrus_module_items.declared.function.FunctionKind.{FunctionKind}
use Rattle.walrus_linked.specs.walrus_module_items.declared.function.FunctionKind.TheVariants as functions
use Rattle.walrus_linked.specs.walrus_module_items.Functions.{local_of, type_of}
use Rattle.wasm_formats.specs.declared.fault.Space.TheVariants as spaces
use Rattle.walrus_linked.specs.walrus_module.Parts.{Module}
use Rattle.walrus_linked.specs.walrus_module.Replaced.{IsExportReplaced, params_at, results_at, type_params}
use Rattle.walrus_roots.specs.declared.item.Item.{Item}
use Rattle.walrus_roots.specs.Items.{item}
use Rattle.walrus_marks.specs.Named.{items_of}
use Rattle.walrus_linked.specs.walrus_module.Items.{Lives, LivesIn}
use Rattle.walrus_linked.specs.Names.{body_names, function_names}
use Rattle.walrus_linked.specs.Linked.{IsLinked, IsWhole, HasArguments, function_import}
use Rattle.walrus_linked.proofs.SlotLemmas.{and_then_some, pushed_new, is_some_at}
use Rattle.walrus_module_laws.specs.Edits.{AreLive, CanStand}
use Rattle.walrus_module_laws.proofs.AddedFunction.{function_added}
use Rattle.walrus_module_laws.proofs.ChangedExports.{in_space, export_set}
use Rattle.walrus_module_laws.proofs.GrownTypes.{type_lives, type_of_item, item_of_type}
use Rattle.walrus_module_laws.proofs.ReplacedTypes.{IsGrown, grown}

pub local_kind : (kind : FunctionKind) (local : LocalFunction) → local_of kind ≡ Some local → kind ≡ functions.Local local
local_kind (functions.Local x) local e = let same : x ≡ local = cc in ap (λ (f : LocalFunction). functions.Local f) same
local_kind (functions.Import x) local e = absurd cc
local_kind (functions.Uninitialized x) local e = absurd cc

-- a function of the parameters of a live type has arguments, if they are as many
pub arguments_counted : (m : Module) (t : Table) (ty : ℕ) (made : LocalFunction) (id : ℕ) (results : _) → IsGrown m t (function_kind (params_at m.types ty) results) id → made.builder.ty ≡ id
    → length made.args.items ≡ length (params_at m.types ty) → IfSome (type_at t made.builder.ty) (λ x. length made.args.items ≡ length (params_of x.kind.form))
arguments_counted m t ty made id results g is count =
    let C : Option TypeItem → Type 0 = λ o. IfSome o (λ x. length made.args.items ≡ length (params_of x.kind.form)) in
    subst C (sym (ap (type_at t) is ∙ g.live)) (count ∙ ap (λ (k : Kind). length (params_of k.form)) (sym g.kind_is))

-- what a new function names lives: its type, and what its body names
pub new_names : (n : Module) (locals : _) (local : LocalFunction) (f : Function) → f.kind ≡ functions.Local local → Lives n (item spaces.Type local.builder.ty)
    → AreLive n (body_names locals (functions.Local local)) → (y : Item) → Contains (items_of (function_names locals f)) y → Lives n y
new_names n locals local f is lives body y has =
    let K : FunctionKind → Type 0 = λ k. Contains (item spaces.Type (type_of k) ∷ items_of (body_names locals k)) y in
    by_place (subst K is has)
  where
    by_place : Contains (item spaces.Type local.builder.ty ∷ items_of (body_names locals (functions.Local local))) y → Lives n y
    by_place (zero, less, at) = subst (Lives n) at lives
    by_place (suc k, less, at) = body y (k, omega (arith, less), at)

module _ {F : Type 0} (g : Once F (MutBor Building × (Bor (List ℕ) × Unit {0})) (Result (Unit {0}) AllocError × (MutBor Building × Unit {0}))) (build : F) (function id : ℕ) (m n : Module)
    (r : IsExportReplaced g build function id m n) (stands : CanStand n r.made) (l : IsLinked m) where
  ty : ℕ
  ty = r.was.builder.ty

  found : (f : Function) × (item_at m.funcs function ≡ Some f) × (local_of f.kind ≡ Some r.was)
  found = and_then_some (λ (f : Function). local_of f.kind) (item_at m.funcs function) r.was r.was_is

  was_kind : found.0.kind ≡ functions.Local r.was
  was_kind = local_kind found.0.kind r.was found.2

  abbrev m1 : Module
  m1 = record m { types = n.types }

  abbrev m2 : Module
  m2 = record m1 { funcs = n.funcs }

  abbrev m3 : Module
  m3 = record m2 { exports = n.exports }

  type_was : LivesIn m spaces.Type r.was.builder.ty
  type_was = let L : FunctionKind → Type 0 = λ k. LivesIn m spaces.Type (type_of k) in subst L was_kind (type_lives m l function found.0 found.1)

  types : IsGrown m n.types (function_kind (params_at m.types r.was.builder.ty) (results_at m.types r.was.builder.ty)) r.built.begun.ty
  types = grown m l r.was.builder.ty type_was n.types r.built.begun.ty r.built.is_new.entry r.built.is_new.types_added

  made_type : r.made.builder.ty ≡ r.built.begun.ty
  made_type = ap (λ (b : FunctionBuilder). b.ty) r.built.builder_is

  was_whole : HasArguments m.types r.was
  was_whole = let W : FunctionKind → Type 0 = λ k. IsWhole m.types k in let w : IsWhole m.types (functions.Local r.was) = subst W was_kind (l.whole function found.0 found.1) in w.0

  was_count : length r.was.args.items ≡ length (params_at m.types r.was.builder.ty)
  was_count =
      let x = type_of_item (type_at m.types r.was.builder.ty) type_was in
      let C : Option TypeItem → Type 0 = λ o. IfSome o (λ t. length r.was.args.items ≡ length (params_of t.kind.form)) in
      let count : length r.was.args.items ≡ length (params_of x.0.kind.form) = subst C x.1 was_whole.counted in
      count ∙ sym (ap (λ (o : Option TypeItem). length (type_params o)) x.1)

  made_stands : CanStand m3 r.made
  made_stands = let S : Module → Type 0 = λ w. CanStand w r.made in subst S r.rest stands

  made_whole : IsWhole n.types (functions.Local r.made)
  made_whole = (
    record {
      distinct = subst AreDistinct (sym r.built.args_are) was_whole.distinct;
      counted = arguments_counted m n.types r.was.builder.ty r.made r.built.begun.ty _ types made_type (ap (λ (xs : List ℕ). length xs) r.built.args_are ∙ was_count);
    },
    made_stands.tree,
  )

  added_linked : IsLinked m2
  added_linked =
      let f = r.added.0 in
      let is = r.added.1.kind_is in
      let W : FunctionKind → Type 0 = λ k. IsWhole n.types k in
      let lives : Lives m2 (item spaces.Type r.made.builder.ty) = item_of_type (type_at n.types r.made.builder.ty) types.ty (ap (type_at n.types) made_type ∙ types.live) (ap (λ (k : Kind). k.entry) types.kind_is) in
      let body : AreLive m2 (body_names m.locals (functions.Local r.made)) = λ y has. (in_space m3 m.exports y.space).lives_kept y.id (made_stands.named y has) in
      function_added m1 n.funcs f r.added.2 (ap function_import is) (subst W (sym is) made_whole) (new_names m2 m.locals r.made f is lives body) types.linked

  pub replaced_linked : IsLinked n
  replaced_linked =
      let there = is_some_at (item_at n.funcs id) r.added.0 (ap (item_at n.funcs) r.given ∙ pushed_new m.funcs n.funcs r.added.0 r.added.2) in
      subst IsLinked (sym r.rest) (export_set m2 n.exports r.export _ (ap (λ (a : _). a.slots) r.exports_are) there added_linked)
