-- What replacing a function leaves.
use Rattle.std.specs.Prelude.{◌≡◌, ◌⊎◌, ℕ, ◌+◌, List, [], ◌∷◌, ◌++◌, length, take, Option, Some, None, Result, Ok, MatchOption, slice_set}
use Rattle.std.specs.List.{range_with_len}
use Rattle.std.specs.Option.{option_and_then}
use Rattle.std.specs.Fn.{Once}
use Rattle.std.specs.Borrow.{Bor, MutBor}
use Rattle.std.specs.declared.alloc.AllocError.{AllocError}
use Rattle.walrus_arena.specs.Arena.{Arena, item_at, lowest_id, next_id, with_item}
use Rattle.walrus_forms.specs.declared.value.ValType.{ValType}
use Rattle.walrus_forms.specs.Forms.{params_of, results_of}
use Rattle.walrus_forms.specs.Kinds.{function_kind, entry_kind}
use Rattle.walrus_items.specs.declared.local.Local.{Local}
use Rattle.walrus_types.specs.Items.{Item}
use Rattle.walrus_types.specs.Table.{Table, type_at, IsFunctionType}
use Rattle.walrus_types.specs.Pairs.{MergesBoth}
use Rattle.walrus_builder.specs.declared.function.FunctionBuilder.{FunctionBuilder}
use Rattle.walrus_builder.specs.Built.{Building}
use Rattle.walrus_builder.specs.Functions.{seqs_of, IsNew}
use Rattle.walrus_collections.specs.walrus_local_function.declared.local_function.LocalFunction.{LocalFunction}
use Rattle.walrus_collections.specs.walrus_module_items.declared.export.Export.{Export}
use Rattle.walrus_collections.specs.walrus_module_items.declared.export.ExportItem.TheVariants as items
use Rattle.walrus_collections.specs.walrus_module_items.declared.import.Import.{Import}
use Rattle.walrus_collections.specs.walrus_module_items.declared.import.ImportKind.TheVariants as kinds
use Rattle.walrus_collections.specs.walrus_module_items.declared.function.Function.{Function}
use Rattle.walrus_collections.specs.walrus_module_items.declared.function.FunctionKind.TheVariants as functions
use Rattle.walrus_collections.specs.walrus_module_items.declared.function.ImportedFunction.{ImportedFunction}
use Rattle.walrus_collections.specs.walrus_module_items.Functions.{type_of, local_of, imported_of}
use Rattle.walrus_collections.specs.Added.{Adds, IsLocal}
use Rattle.walrus_collections.specs.Tests.{exports, imports}
use Rattle.walrus_module.specs.Parts.{Module}

-- at a body that is begun, and these arguments, the closure may answer r and leave this
pub record Fills {F : Type 0} (g : Once F (MutBor Building × (Bor (List ℕ) × Unit {0})) (Result (Unit {0}) AllocError × (MutBor Building × Unit {0}))) (build : F) (args : List ℕ) (begun : Building) (r : Result (Unit {0}) AllocError) (left : Building) : Type 0 where
  pub shown : MutBor Building
  pub shows : shown.now ≡ begun
  pub given : Bor (List ℕ)
  pub gives : given.now ≡ args
  pub after : MutBor Building
  pub met : g.post build (shown, (given, tt)) (r, (after, tt))
  pub leaves : after.now ≡ left

-- a function of these parameters and results, with these arguments, whose body the closure filled
pub record IsBuilt {F : Type 0} (g : Once F (MutBor Building × (Bor (List ℕ) × Unit {0})) (Result (Unit {0}) AllocError × (MutBor Building × Unit {0}))) (build : F) (params results : List ValType) (args : List ℕ) (f : LocalFunction) (old new : Table) : Type 0 where
  pub begun : FunctionBuilder
  pub is_new : IsNew params results begun old new
  pub left : Building
  pub fills : Fills g build args (record { id = 0; seqs = seqs_of begun }) (Ok tt) left
  pub builder_is : f.builder ≡ record begun { builder = left }
  pub args_are : f.args.items ≡ args

-- the table is as it was, or has the function type and its entry type
abbrev pub MayAddTypes : List ValType → List ValType → Table → Table → Type 0
MayAddTypes params results old new =
    (new ≡ old) ⊎ ((ty entry : ℕ) × MergesBoth (function_kind params results) ty (entry_kind results) entry old new)

-- one local for each parameter, from this id on
abbrev pub arguments : ℕ → List ValType → List Local
arguments first [] = []
arguments first (ty ∷ params) = record { id = first; ty = ty; name = None } ∷ arguments (first + 1) params

-- the parameters and results of a live function type
abbrev pub type_params : Option Item → List ValType
type_params (Some item) = params_of item.kind.form
type_params None = []

abbrev pub type_results : Option Item → List ValType
type_results (Some item) = results_of item.kind.form
type_results None = []

abbrev pub params_at : Table → ℕ → List ValType
params_at t ty = type_params (type_at t ty)

abbrev pub results_at : Table → ℕ → List ValType
results_at t ty = type_results (type_at t ty)

-- the function's body, where it is live and has one
abbrev pub body_at : Arena Function → ℕ → Option LocalFunction
body_at functions id = option_and_then (λ (f : Function). local_of f.kind) (item_at functions id)

-- the imported function, where it is live and one
abbrev pub imported_at : Arena Function → ℕ → Option ImportedFunction
imported_at functions id = option_and_then (λ (f : Function). imported_of f.kind) (item_at functions id)

-- the lowest export of the function, and the lowest import
abbrev pub export_of : Arena Export → ℕ → Option ℕ
export_of es id = lowest_id (exports (items.Function id)) es

abbrev pub import_of : Arena Import → ℕ → Option ℕ
import_of is id = lowest_id (imports (kinds.Function id)) is

-- the function is live, and its type a live function type
abbrev pub IsTyped : Arena Function → Table → ℕ → Type 0
IsTyped functions types id = MatchOption (item_at functions id) ⊥ (λ f. IsFunctionType types (type_of f.kind))

-- the table is as it was, or has the function's type and its entry type once more
abbrev pub MayAddTypesOf : Arena Function → ℕ → Table → Table → Type 0
MayAddTypesOf functions id old new =
    MatchOption (item_at functions id) (new ≡ old) (λ f. MayAddTypes (params_at old (type_of f.kind)) (results_at old (type_of f.kind)) old new)

-- the locals are as they were, or some first arguments of the function are there too
abbrev pub MayAddArguments : Arena Function → ℕ → Table → List Local → List Local → Type 0
MayAddArguments functions id types old new =
    MatchOption (item_at functions id) (new ≡ old) (λ f. (some : ℕ) × (new ≡ old ++ arguments (length old) (take some (params_at types (type_of f.kind)))))

-- the lowest export of the function names a new one of its type and arguments, whose body the closure filled
pub record IsExportReplaced {F : Type 0} (g : Once F (MutBor Building × (Bor (List ℕ) × Unit {0})) (Result (Unit {0}) AllocError × (MutBor Building × Unit {0}))) (build : F) (function id : ℕ) (old new : Module) : Type 0 where
  pub was : LocalFunction
  pub was_is : body_at old.funcs function ≡ Some was
  pub export : ℕ
  pub export_is : export_of old.exports function ≡ Some export
  pub exported : Export
  pub exported_is : item_at old.exports export ≡ Some exported
  pub made : LocalFunction
  pub built : IsBuilt g build (params_at old.types was.builder.ty) (results_at old.types was.builder.ty) was.args.items made old.types new.types
  pub given : id ≡ next_id old.funcs
  pub added : Adds (IsLocal id made) old.funcs new.funcs
  pub exports_are : new.exports ≡ with_item old.exports export (record exported { item = items.Function id })
  pub rest : new ≡ record old { types = new.types; funcs = new.funcs; exports = new.exports }

-- the function has a body that the closure filled, of its type and with arguments of its own; it keeps its name, and its
-- lowest import is gone
pub record IsImportReplaced {F : Type 0} (g : Once F (MutBor Building × (Bor (List ℕ) × Unit {0})) (Result (Unit {0}) AllocError × (MutBor Building × Unit {0}))) (build : F) (function : ℕ) (old new : Module) : Type 0 where
  pub was : ImportedFunction
  pub item : Function
  pub item_is : item_at old.funcs function ≡ Some item
  pub was_is : item.kind ≡ functions.Import was
  pub import : ℕ
  pub import_is : import_of old.imports function ≡ Some import
  pub made : LocalFunction
  pub built : IsBuilt g build (params_at old.types was.ty) (results_at old.types was.ty) (range_with_len (length old.locals) (length (params_at old.types was.ty))) made old.types new.types
  pub locals_are : new.locals ≡ old.locals ++ arguments (length old.locals) (params_at old.types was.ty)
  pub funcs_are : new.funcs ≡ with_item old.funcs function (record item { kind = functions.Local made })
  pub imports_are : new.imports.slots ≡ slice_set old.imports.slots import None
  pub rest : new ≡ record old { types = new.types; locals = new.locals; funcs = new.funcs; imports = new.imports }
