-- Lemmas: a body that is read is a step.
use Rattle.std.proofs.Common.{ℕ, ◌≡◌, Bool, List, ◌++◌, length, refl, ap, sym, ◌∙◌, subst, arith, if◌then◌else◌}
use Rattle.std.proofs.lemmas.Bool.{eq-eqb}
use Rattle.std.specs.Prelude.{Err, IfSome, Option, Some, None}
use Rattle.wasm_features.specs.declared.WasmFeatures.{WasmFeatures}
use Rattle.wasm_reader.specs.Cursor.{Cursor, end_of, rest}
use Rattle.walrus_arena.specs.Arena.{Arena, item_at, with_item}
use Rattle.walrus_forms.specs.declared.value.ValType.{ValType}
use Rattle.walrus_forms.specs.Kinds.{entry_kind}
use Rattle.walrus_module_env.specs.walrus_body_parser.walrus_body_stack.walrus_instr.walrus_types.Table.{Merges, Table}
use Rattle.walrus_function_types.specs.FunctionTypes.{params_at, results_at}
use Rattle.walrus_function_types.specs.Growth.{EntryTypesGrow, FoundTypesStay, Grows, TablesGrowOn}
use Rattle.walrus_index_maps.specs.Maps.{Ids}
use Rattle.walrus_module_env.specs.walrus_body_parser.walrus_body_stack.walrus_instr.walrus_types.walrus_items.declared.local.Local.{Local}
use Rattle.walrus_module_env.proofs.walrus_handler_types.Growing.{params_grow}
use Rattle.walrus_module_env.specs.walrus_body_parser.walrus_body_stack.walrus_body_env.declared.error.BodyError.{BodyError}
use Rattle.walrus_module_env.specs.walrus_body_parser.walrus_body_rules.wasm_body_grammar.Bodies.{body}
use Rattle.walrus_module_env.specs.walrus_body_parser.walrus_body_rules.wasm_body_grammar.Rules.{Around}
use Rattle.walrus_module_env.specs.walrus_body_parser.walrus_body_stack.walrus_builder.Built.{contents}
use Rattle.walrus_module_env.specs.declared.env.ModuleEnv.{ModuleEnv}
use Rattle.walrus_module_env.specs.Around.{IsFiled}
use Rattle.walrus_module_env.specs.walrus_body_parser.Points.{place_at}
use Rattle.walrus_module_env.specs.walrus_collections.walrus_local_function.declared.local_function.LocalFunction.{LocalFunction}
use Rattle.walrus_module_env.specs.walrus_collections.walrus_local_function.walrus_body_locals.Calls.{IsFaultOf}
use Rattle.walrus_module_env.specs.walrus_collections.walrus_local_function.walrus_body_locals.Locals.{Leaves, ids_from}
use Rattle.walrus_module_env.specs.walrus_collections.walrus_module_items.declared.function.Function.{Function}
use Rattle.walrus_module_env.specs.walrus_collections.walrus_module_items.declared.function.FunctionKind.TheVariants as kinds
use Rattle.walrus_module_env.specs.walrus_collections.walrus_module_items.Functions.{type_of}
use Rattle.walrus_module_env.specs.walrus_collections.walrus_module_items.declared.tag.Tag.{Tag}
use Rattle.walrus_module_env.specs.walrus_functions_into.declared.bodies.FunctionBody.{FunctionBody}
use Rattle.walrus_module_bodies.specs.declared.file.FileEnv.{FileEnv}
use Rattle.walrus_module_bodies.specs.Envs.{IsEnv}
use Rattle.walrus_module_bodies.specs.Reading.{GivesHandlers, IsBodyFault, IsHandledBody, TagsStand}
use Rattle.walrus_module_bodies.specs.Steps.{Fails, HasArguments, IsFiledLater, IsModuleOf, IsReady, IsStep, State, cursor_of, state}
use Rattle.walrus_module_bodies.proofs.ArgumentLemmas.{many_ids}
use Rattle.walrus_module_bodies.proofs.StepLemmas.{IsFormed, formed, tags_grow}

-- its first byte has its place behind the beginning of the code section's contents
pub placed_there : (file : FileEnv) (features : WasmFeatures) (b : FunctionBody) (code : ℕ) → code ≡ file.code_start → place_at code (cursor_of file features b) ≡ b.chunk.place
placed_there file features b code is = omega (arith, is)

same_item : (x y : Function) → ◌≡◌ {A = Option Function} (Some x) (Some y) → x ≡ y
same_item x y e = cc

-- a body, its function's type, the type of its own block, its arguments, and its bytes
module _ (grow : EntryTypesGrow) (file : FileEnv) (features : WasmFeatures) (b : FunctionBody) (old : State) (ready : IsReady old b) (function ty : ℕ) (is : function ≡ b.number)
    (got : Function) (found : item_at old.functions function ≡ Some got) (ty_got : ty ≡ type_of got.kind) (entry : ℕ) (mid : Table) (entered : IfSome (results_at old.types ty) (λ (results : List ValType). Merges (entry_kind results) entry old.types mid))
    (params : List ValType) (named : List Local) (numbered : Ids) (args : List ℕ) (h : HasArguments function params old.locals named old.ids numbered args) (from : Cursor) (from_is : from ≡ cursor_of file features b) where
  abbrev own : ℕ
  own = type_of ready.item.kind

  form : IsFormed old.types own
  form = formed old.types own ready.typed

  ty_is : ty ≡ own
  ty_is = ty_got ∙ ap (λ (f : Function). type_of f.kind) (same_item got ready.item (sym found ∙ ap (item_at old.functions) is ∙ ready.live))

  merged : Merges (entry_kind form.results) entry old.types mid
  merged =
      subst (λ (o : Option (List ValType)). IfSome o (λ (results : List ValType). Merges (entry_kind results) entry old.types mid)) form.results_are
      (subst (λ (n : ℕ). IfSome (results_at old.types n) (λ (results : List ValType). Merges (entry_kind results) entry old.types mid)) ty_is entered)

  early : Grows old.types mid
  early = grow form.results entry old.types mid merged

  many_named : length (numbered.locals function) ≡ length args
  many_named =
      ap (λ (k : Ids). length (k.locals function)) h.adds.named
      ∙ ap (λ (c : Bool). length (if c then old.ids.locals function ++ ids_from (length old.locals) params else old.ids.locals function)) (eq-eqb function function refl)
      ∙ ap (λ (l : List ℕ). length (l ++ ids_from (length old.locals) params)) (ap old.ids.locals is ∙ ready.no_locals) ∙ sym (ap length h.args_are)

  -- the module is that of the file
  filed_in : (a : Around) → IsModuleOf file features old.types old.ids a → (g : ModuleEnv) → IsEnv file mid g → IsFiled g numbered function (length args) from.window.features a
  filed_in a filed g env =
      subst (λ (f : WasmFeatures). IsFiled g numbered function (length args) f a) (sym (ap (λ (c : Cursor). c.window.features) from_is))
      (subst (λ (k : Ids). IsFiled g k function (length args) features a) (sym names)
      (subst (λ (n : ℕ). IsFiled g (record old.ids { locals = numbered.locals }) function n features a) many_named (filed mid g numbered.locals function early env)))
    where
      names : numbered ≡ record old.ids { locals = numbered.locals }
      names = h.adds.named ∙ ap (λ (l : ℕ → List ℕ). record old.ids { locals = l }) (sym (ap (λ (k : Ids). k.locals) h.adds.named))

  pub filed_then : IsFiledLater file features old.types old.ids → (g : ModuleEnv) → IsEnv file mid g → (e : ModuleEnv) × (a : Around) × IsEnv file mid e × IsFiled e numbered function (length args) from.window.features a
  filed_then filed g env = (g, filed.0, env, filed_in filed.0 filed.1 g env)

  -- its tags have live function types
  pub tags_then : (stay : FoundTypesStay) (tags : Arena Tag) → TagsStand tags old.types old.ids → TagsStand tags mid numbered
  tags_then stay tags t = subst (TagsStand tags mid) (sym h.adds.named) (tags_grow stay tags old.types mid old.ids early t)

  -- the function has as many arguments as its type has parameters
  same : IfSome (params_at mid ty) (λ (ps : List ValType). params ≡ ps) → params ≡ form.params
  same listed = subst (λ (o : Option (List ValType)). IfSome o (λ (ps : List ValType). params ≡ ps)) (params_grow old.types mid early own form.params form.params_are)
      (subst (λ (n : ℕ). IfSome (params_at mid n) (λ (ps : List ValType). params ≡ ps)) ty_is listed)

  many : length args ≡ length params
  many = ap length h.args_are ∙ many_ids params (length old.locals)

  -- bytes that are no body of the file are none of the function
  pub failed : IfSome (params_at mid ty) (λ (ps : List ValType). params ≡ ps) → (g : ModuleEnv) → IsEnv file mid g → (fault : BodyError) → IsBodyFault g function (length args) from numbered fault → Fails file features b old fault
  failed listed g env fault stops = record {
    item = ready.item;
    was = ready.live;
    params = params;
    params_are = form.params_are ∙ ap (λ (l : List ValType). Some l) (sym (same listed));
    stops = λ a filed.
        let it = stops a (filed_in a filed g env) in (
          it.0,
          subst (λ (n : ℕ). (body a n b.chunk.place).parse b.chunk.bytes.now ≡ Err it.0) many
              (subst (λ (n : ℕ). (body a (length args) n).parse b.chunk.bytes.now ≡ Err it.0) (placed_there file features b g.code_start env.begins)
              (subst (λ (c : Cursor). (body a (length args) (place_at g.code_start c)).parse (rest c) ≡ Err it.0) from_is it.1)),
          subst (λ (c : Cursor). IsFaultOf (end_of c) it.0 fault) from_is it.2,
        );
  }

  pub stepped : TablesGrowOn → IfSome (params_at mid ty) (λ (ps : List ValType). params ≡ ps) → (new : State) (f : LocalFunction)
      → IsHandledBody file mid new.types function (length args) from numbered new.ids named new.locals (contents f.builder.builder)
      → GivesHandlers file mid new.types function (length args) from numbered new.ids named new.locals (contents f.builder.builder) → Grows mid new.types
      → f.builder.ty ≡ ty → f.builder.name ≡ None → f.args.items ≡ args → Leaves function named new.locals numbered new.ids
      → IfSome (item_at old.functions function) (λ (item : Function). new.functions ≡ with_item old.functions function (record item { kind = kinds.Local f }))
      → IsStep file features b old new
  stepped on listed new f read handled grown f_ty f_name f_args left given = record {
    item = ready.item;
    was = ready.live;
    params = params;
    params_are = form.params_are ∙ ap (λ (l : List ValType). Some l) (sym (same listed));
    results = form.results;
    results_are = form.results_are;
    named = named;
    numbered = numbered;
    arguments = (subst (λ (n : ℕ). HasArguments n params old.locals named old.ids numbered args) is h).adds;
    entry = entry;
    mid = mid;
    entered = merged;
    body = f;
    read = subst (λ (n : ℕ). IsHandledBody file mid new.types n (length params) (cursor_of file features b) numbered new.ids named new.locals (contents f.builder.builder)) is
        (subst (λ (c : Cursor). IsHandledBody file mid new.types function (length params) c numbered new.ids named new.locals (contents f.builder.builder)) from_is
        (subst (λ (k : ℕ). IsHandledBody file mid new.types function k from numbered new.ids named new.locals (contents f.builder.builder)) many read));
    handled = subst (λ (n : ℕ). GivesHandlers file mid new.types n (length params) (cursor_of file features b) numbered new.ids named new.locals (contents f.builder.builder)) is
        (subst (λ (c : Cursor). GivesHandlers file mid new.types function (length params) c numbered new.ids named new.locals (contents f.builder.builder)) from_is
        (subst (λ (k : ℕ). GivesHandlers file mid new.types function k from numbered new.ids named new.locals (contents f.builder.builder)) many handled));
    grown = on old.types mid new.types early grown;
    ty_is = f_ty ∙ ty_is;
    no_name = f_name;
    args_are = f_args ∙ h.args_are;
    left = subst (λ (n : ℕ). Leaves n named new.locals numbered new.ids) is left;
    given = subst (λ (o : Option Function). IfSome o (λ (item : Function). new.functions ≡ with_item old.functions b.number (record item { kind = kinds.Local f }))) ready.live
        (subst (λ (n : ℕ). IfSome (item_at old.functions n) (λ (item : Function). new.functions ≡ with_item old.functions n (record item { kind = kinds.Local f }))) is given);
  }

-- so it is in each collection that has the function so
pub read_for : (grow : EntryTypesGrow) (file : FileEnv) (features : WasmFeatures) (b : FunctionBody) (old : State) (ready : IsReady old b) (before : Arena Function) → item_at before b.number ≡ item_at old.functions b.number
    → (function ty : ℕ) (is : function ≡ b.number) (got : Function) (found : item_at old.functions function ≡ Some got) (ty_got : ty ≡ type_of got.kind) (entry : ℕ) (mid : Table)
    → IfSome (results_at old.types ty) (λ (results : List ValType). Merges (entry_kind results) entry old.types mid)
    → (params : List ValType) (named : List Local) (numbered : Ids) (args : List ℕ) → HasArguments function params old.locals named old.ids numbered args → (from : Cursor) → from ≡ cursor_of file features b
    → TablesGrowOn → IfSome (params_at mid ty) (λ (ps : List ValType). params ≡ ps) → (types : Table) (locals : List Local) (i : Ids) (given : Arena Function) (f : LocalFunction)
    → IsHandledBody file mid types function (length args) from numbered i named locals (contents f.builder.builder)
    → GivesHandlers file mid types function (length args) from numbered i named locals (contents f.builder.builder) → Grows mid types
    → f.builder.ty ≡ ty → f.builder.name ≡ None → f.args.items ≡ args → Leaves function named locals numbered i
    → IfSome (item_at before b.number) (λ (item : Function). given ≡ with_item before b.number (record item { kind = kinds.Local f }))
    → IsStep file features b (record old { functions = before }) (state types locals i given)
read_for grow file features b old ready before same function ty is got found ty_got entry mid entered params named numbered args h from from_is on listed types locals i given f read handled grown f_ty f_name f_args left gives =
    let there : item_at before function ≡ Some got = ap (item_at before) is ∙ same ∙ sym (ap (item_at old.functions) is) ∙ found in
    stepped grow file features b (record old { functions = before }) (record { item = ready.item; live = same ∙ ready.live; typed = ready.typed; no_locals = ready.no_locals }) function ty is got there ty_got entry mid entered
    params named numbered args h from from_is on listed (state types locals i given) f read handled grown f_ty f_name f_args left
    (subst (λ (n : ℕ). IfSome (item_at before n) (λ (item : Function). given ≡ with_item before n (record item { kind = kinds.Local f }))) (sym is) gives)
