-- A function with a body in the place of an imported one: what was linked stays so.
use Rattle.std.proofs.Common.{◌≡◌, ◌∙◌, ℕ, zero, suc, true, false, List, ◌++◌, length, Some, refl, sym, ap, subst, arith, ◌+◌, ◌≤◌, inl, inr}
use Rattle.std.specs.Prelude.{Result}
use Rattle.std.specs.List.{range_with_len}
use Rattle.std.specs.Fn.{Once}
use Rattle.std.specs.Borrow.{Bor, MutBor}
use Rattle.std.specs.declared.alloc.AllocError.{AllocError}
use Rattle.std.proofs.lemmas.Bool.{eqb-true}
use Rattle.std.proofs.lemmas.Option.{MatchOption-at_some}
use Rattle.std.proofs.lemmas.List.FromFn.{length-range_with_len}
use Rattle.walrus_arena.specs.Arena.{Arena, item_at}
use Rattle.walrus_arena.specs.Laws.{IsLowest}
use Rattle.walrus_arena.proofs.LawLemmas.{FindsLowest-any}
use Rattle.walrus_forms.specs.Kinds.{Kind, function_kind}
use Rattle.walrus_types.specs.Table.{type_at}
use Rattle.walrus_items.specs.declared.local.Local.{Local}
use Rattle.walrus_builder.specs.declared.function.FunctionBuilder.{FunctionBuilder}
use Rattle.walrus_builder.specs.Built.{Building}
use Rattle.walrus_tree.specs.Trees.{Has, AreDistinct}
use Rattle.walrus_linked.specs.walrus_module_items.declared.import.Import.{Import}
use Rattle.walrus_linked.specs.walrus_module_items.declared.import.ImportKind.{ImportKind}
use Rattle.walrus_linked.specs.walrus_module_items.declared.import.ImportKind.TheVariants as kinds
use Rattle.walrus_linked.specs.walrus_module_items.declared.function.Function.{Function}
use Rattle.walrus_linked.specs.walrus_module_items.declared.function.FunctionKind.{FunctionKind}
use Rattle.walrus_linked.specs.walrus_module_items.declared.function.FunctionKind.TheVariants as functions
use Rattle.walrus_linked.specs.walrus_module_items.Functions.{type_of}
use Rattle.walrus_linked.specs.walrus_collections.Tests.{imports, same_kind}
use Rattle.wasm_formats.specs.declared.fault.Space.TheVariants as spaces
use Rattle.walrus_linked.specs.walrus_module.Parts.{Module}
use Rattle.walrus_linked.specs.walrus_module.Replaced.{IsImportReplaced, import_of, arguments, params_at, results_at}
use Rattle.walrus_linked.specs.walrus_module.Items.{LivesIn}
use Rattle.walrus_linked.specs.Linked.{IsLinked, IsWhole}
use Rattle.walrus_module_laws.specs.Edits.{CanStand}
use Rattle.walrus_module_laws.proofs.GrownLocals as L
use Rattle.walrus_module_laws.proofs.GrownTypes.{type_lives, item_of_type}
use Rattle.walrus_module_laws.proofs.ReplacedTypes.{IsGrown, grown}
use Rattle.walrus_module_laws.proofs.ReplacedExport.{arguments_counted, new_names}
use Rattle.walrus_module_laws.proofs.DroppedImport.{import_dropped}

is_brought : (kind : ImportKind) (f : ℕ) → same_kind kind (kinds.Function f) ≡ true → kind ≡ kinds.Function f
is_brought (kinds.Function a) f e = ap (λ (i : ℕ). kinds.Function i) (eqb-true a f e)
is_brought (kinds.Table a) f e = absurd cc
is_brought (kinds.Memory a) f e = absurd cc
is_brought (kinds.Global a) f e = absurd cc
is_brought (kinds.Tag a) f e = absurd cc

-- the import that is found is one of the function
found_import : (is : Arena Import) (f k : ℕ) → import_of is f ≡ Some k → (imp : Import) × (item_at is k ≡ Some imp) × (imp.kind ≡ kinds.Function f)
found_import is f k e =
    let test = imports (kinds.Function f) in
    let lowest = MatchOption-at_some ((id : ℕ) (x : Import) → item_at is id ≡ Some x → test x ≡ false) (IsLowest test is) k e (FindsLowest-any is test) in
    (lowest.item, lowest.live, is_brought lowest.item.kind f lowest.passes)

-- numbers from one on are distinct
range_from : (a n k : ℕ) → Has (range_with_len a n) k → a ≤ k
range_from a zero k has = absurd has
range_from a (suc n) k (inl e) = omega (arith, e)
range_from a (suc n) k (inr has) = omega (arith, range_from (a + 1) n k has)

range_distinct : (a n : ℕ) → AreDistinct (range_with_len a n)
range_distinct a zero = tt
range_distinct a (suc n) = (λ has. let up : a + 1 ≤ a = range_from (a + 1) n a has in omega (arith, up), range_distinct (a + 1) n)

module _ {F : Type 0} (g : Once F (MutBor Building × (Bor (List ℕ) × Unit {0})) (Result (Unit {0}) AllocError × (MutBor Building × Unit {0}))) (build : F) (function : ℕ) (m n : Module)
    (r : IsImportReplaced g build function m n) (stands : CanStand n r.made) (l : IsLinked m) where
  abbrev more : List Local
  more = arguments (length m.locals) (params_at m.types r.was.ty)

  abbrev m1 : Module
  m1 = record m { types = n.types }

  abbrev m2 : Module
  m2 = record m1 { locals = m.locals ++ more }

  abbrev m3 : Module
  m3 = record m2 { imports = n.imports; funcs = n.funcs }

  rest : n ≡ m3
  rest = r.rest ∙ ap (λ (ls : List Local). let w : Module = record m { types = n.types; locals = ls; funcs = n.funcs; imports = n.imports } in w) r.locals_are

  type_was : LivesIn m spaces.Type r.was.ty
  type_was = let T : FunctionKind → Type 0 = λ k. LivesIn m spaces.Type (type_of k) in subst T r.was_is (type_lives m l function r.item r.item_is)

  types : IsGrown m n.types (function_kind (params_at m.types r.was.ty) (results_at m.types r.was.ty)) r.built.begun.ty
  types = grown m l r.was.ty type_was n.types r.built.begun.ty r.built.is_new.entry r.built.is_new.types_added

  made_type : r.made.builder.ty ≡ r.built.begun.ty
  made_type = ap (λ (b : FunctionBuilder). b.ty) r.built.builder_is

  made_stands : CanStand m3 r.made
  made_stands = let S : Module → Type 0 = λ w. CanStand w r.made in subst S rest stands

  made_whole : IsWhole n.types (functions.Local r.made)
  made_whole = (
    record {
      distinct = subst AreDistinct (sym r.built.args_are) (range_distinct (length m.locals) (length (params_at m.types r.was.ty)));
      counted = arguments_counted m n.types r.was.ty r.made r.built.begun.ty _ types made_type
          (ap (λ (xs : List ℕ). length xs) r.built.args_are ∙ length-range_with_len (length m.locals) (length (params_at m.types r.was.ty)));
    },
    made_stands.tree,
  )

  pub replaced_linked : IsLinked n
  replaced_linked =
      let l2 : IsLinked m2 = L.locals_added m1 more types.linked in
      let imp = found_import m.imports function r.import r.import_is in
      let new : Function = record r.item { kind = functions.Local r.made } in
      let lives : LivesIn m3 spaces.Type r.made.builder.ty = item_of_type (type_at n.types r.made.builder.ty) types.ty (ap (type_at n.types) made_type ∙ types.live) (ap (λ (k : Kind). k.entry) types.kind_is) in
      subst IsLinked (sym rest) (import_dropped m2 n.imports n.funcs function r.import r.item new imp.0 r.item_is imp.1 imp.2 refl (ap (λ (a : Arena Function). a.slots) r.funcs_are) r.imports_are l2
      made_whole (new_names m3 m2.locals r.made new refl lives made_stands.named))
