-- Lemmas: a body that is read into its module is a body of the file, of a function with as many parameters.
use Rattle.std.proofs.Common.{ℕ, zero, suc, ◌≡◌, ◌≢◌, ◌⊎◌, inl, inr, ◌+◌, ◌-◌, ◌==◌, ◌<◌, ◌≤◌, Bool, true, false, List, [], ◌∷◌, ◌++◌, length, map, refl, ap, sym, ◌∙◌, subst, arith, if◌then◌else◌}
use Rattle.std.specs.Prelude.{All, Option, Some, None, Ok, Err, slice_index_or, slice_set}
use Rattle.std.specs.Option.{option_and_then}
use Rattle.std.proofs.lemmas.Bool.{eq-eqb, eqb-true}
use Rattle.std.proofs.lemmas.List.{append-nil}
use Rattle.std.proofs.lemmas.List.Elements.{All-head, All-tail}
use Rattle.walrus_arena.specs.Arena.{Arena, item_at}
use Rattle.walrus_items_into.specs.walrus_tables_into.walrus_sections_into.walrus_forms.declared.value.ValType.{ValType}
use Rattle.walrus_items_into.specs.walrus_tables_into.walrus_sections_into.walrus_instr.walrus_types.Items.{Item}
use Rattle.walrus_items_into.specs.walrus_tables_into.walrus_sections_into.walrus_instr.walrus_types.Table.{Table, type_at}
use Rattle.walrus_function_types.specs.FunctionTypes.{form_params, params_at}
use Rattle.walrus_function_types.specs.Growth.{EntryTypesGrow, FoundTypesStay, Grows, TablesGrowOn}
use Rattle.walrus_items_into.specs.walrus_functions_into.declared.bodies.FunctionBody.{FunctionBody}
use Rattle.walrus_items_into.specs.walrus_module_env.declared.env.ModuleEnv.{ModuleEnv}
use Rattle.walrus_items_into.specs.walrus_module_env.Around.{IsFiled}
use Rattle.walrus_items_into.specs.walrus_module_env.Parsed.{IsRead}
use Rattle.walrus_items_into.specs.walrus_tables_into.walrus_sections_into.walrus_collections.walrus_local_function.walrus_body_locals.Locals.{ids_from, with_more}
use Rattle.walrus_items_into.specs.walrus_tables_into.walrus_sections_into.walrus_collections.walrus_local_function.walrus_body_locals.walrus_body_nesting.walrus_body_env.declared.error.BodyError.{BodyError}
use Rattle.walrus_items_into.specs.walrus_tables_into.walrus_sections_into.walrus_collections.walrus_local_function.walrus_body_locals.walrus_body_nesting.wasm_formats.Formats.{Small}
use Rattle.walrus_items_into.specs.walrus_tables_into.walrus_sections_into.walrus_collections.walrus_local_function.walrus_body_locals.walrus_body_nesting.wasm_formats.Stops.{Stop, moved}
use Rattle.walrus_items_into.specs.walrus_tables_into.walrus_sections_into.walrus_collections.walrus_local_function.walrus_body_locals.walrus_body_nesting.wasm_formats.wasm_features.declared.WasmFeatures.{WasmFeatures}
use Rattle.walrus_items_into.specs.walrus_tables_into.walrus_sections_into.walrus_collections.walrus_local_function.walrus_body_locals.wasm_body_grammar.Bodies.{Parts, body, body_of}
use Rattle.walrus_items_into.specs.walrus_tables_into.walrus_sections_into.walrus_collections.walrus_local_function.walrus_body_locals.wasm_body_grammar.Codes.{Code, ReadsCodes, StopsCodes, left_behind}
use Rattle.walrus_items_into.specs.walrus_tables_into.walrus_sections_into.walrus_collections.walrus_local_function.walrus_body_locals.wasm_body_grammar.Laws.{ReadsBody}
use Rattle.walrus_items_into.specs.walrus_tables_into.walrus_sections_into.walrus_collections.walrus_local_function.walrus_body_locals.wasm_body_grammar.Read.{bodies_stop_inside}
use Rattle.walrus_items_into.specs.walrus_tables_into.walrus_sections_into.walrus_collections.walrus_local_function.walrus_body_locals.wasm_body_grammar.Rules.{Around}
use Rattle.walrus_items_into.specs.walrus_tables_into.walrus_sections_into.walrus_collections.walrus_local_function.walrus_body_locals.wasm_grammar.Modules.{Body}
use Rattle.walrus_items_into.specs.walrus_tables_into.walrus_sections_into.walrus_index_maps.Maps.{Ids}
use Rattle.walrus_items_into.specs.walrus_tables_into.walrus_sections_into.walrus_known_sections.Items.{chunk_of}
use Rattle.walrus_items_into.specs.walrus_tables_into.walrus_sections_into.walrus_module_items.declared.function.Function.{Function}
use Rattle.walrus_items_into.specs.walrus_tables_into.walrus_sections_into.walrus_module_items.declared.function.FunctionKind.TheVariants as kinds
use Rattle.walrus_items_into.specs.walrus_tables_into.walrus_sections_into.walrus_module_items.Functions.{type_of}
use Rattle.walrus_items_into.specs.wasm_sections.Within.{ChunksFit}
use Rattle.walrus_items_into.specs.walrus_tables_into.walrus_sections_into.walrus_collections.walrus_local_function.walrus_tree.walrus_builder.Built.{Seq, contents}
use Rattle.walrus_items_into.specs.walrus_module_bodies.declared.file.FileEnv.{FileEnv}
use Rattle.walrus_items_into.specs.walrus_module_bodies.Envs.{IsEnv}
use Rattle.walrus_items_into.specs.walrus_module_bodies.Steps.{AreApart, Fails, IsModuleOf, IsStep, State, Steps, StopsIn, cursor_of}
use Rattle.walrus_file_bodies.specs.Laws.{IsTold}

-- ---- bodies that are to be read

-- each function has a live type of so many parameters
abbrev pub AreCounted : (ℕ → ℕ) → Table → (ℕ → Option Function) → Type 0
AreCounted count t look = (n : ℕ) (f : Function) → look n ≡ Some f → (ps : List ValType) × (params_at t (type_of f.kind) ≡ Some ps) × (length ps ≡ count n)

-- a body as the grammar has it, of a function of so many parameters
abbrev pub coded_by : (ℕ → ℕ) → FunctionBody → Code
coded_by count b = record { params = count b.number; chunk = chunk_of b.chunk }

-- these bodies come next: the module is the file's, and its functions have so many parameters; theirs have no locals
pub record Waits (file : FileEnv) (features : WasmFeatures) (a : Around) (count : ℕ → ℕ) (s : State) (bs : List FunctionBody) : Type 0 where
  pub filed : IsModuleOf file features s.types s.ids a
  pub counted : AreCounted count s.types (item_at s.functions)
  pub apart : AreApart bs
  pub no_locals : All (λ (b : FunctionBody). s.ids.locals b.number ≡ []) bs

-- ---- lists and maps

some_is : {X : Type 0} (x y : X) → Some x ≡ Some y → x ≡ y
some_is x y e = cc

within : (xs : List (Option Item)) (n : ℕ) (x : Item) → slice_index_or xs n None ≡ Some x → n < length xs
within [] n x e = absurd cc
within (y ∷ ys) zero x e = omega arith
within (y ∷ ys) (suc n) x e = let lt = within ys n x e in omega (arith, lt)

-- a table has grown by nothing
pub grows_none : (t : Table) → Grows t t
grows_none t = record { more = []; behind = sym (append-nil t.types); apart = λ id other x y live le there entry. let past = within t.types other y there in absurd (omega (arith, le, past)) }

-- what stands in a list of which one place was set stood there, or was set
set_or : (xs : List (Option Function)) (n k : ℕ) (x f : Function) → slice_index_or (slice_set xs n (Some x)) k None ≡ Some f → (slice_index_or xs k None ≡ Some f) ⊎ ((k ≡ n) × (x ≡ f))
set_or [] n k x f e = absurd cc
set_or (y ∷ ys) zero zero x f e = inr (refl, some_is x f e)
set_or (y ∷ ys) zero (suc k) x f e = inl e
set_or (y ∷ ys) (suc n) zero x f e = inl e
set_or (y ∷ ys) (suc n) (suc k) x f e = elim (set_or ys n k x f e) as (λ _. (slice_index_or ys k None ≡ Some f) ⊎ ((suc k ≡ suc n) × (x ≡ f))) [ inl h ↦ inl h | inr h ↦ inr (ap suc h.0, h.1) ]

pub ids_length : (id : ℕ) (tys : List ValType) → length (ids_from id tys) ≡ length tys
ids_length id [] = refl
ids_length id (ty ∷ tys) = ap suc (ids_length (suc id) tys)

pub others_keep : (function : ℕ) (ids : List ℕ) (locals : ℕ → List ℕ) (c : ℕ) → c ≢ function → with_more function ids locals c ≡ locals c
others_keep function ids locals c apart = go (c == function) refl
  where
    go : (b : Bool) → (c == function) ≡ b → (if b then locals c ++ ids else locals c) ≡ locals c
    go true e = absurd (apart (eqb-true c function e))
    go false e = refl

own_first : (function : ℕ) (ids : List ℕ) (locals : ℕ → List ℕ) → locals function ≡ [] → with_more function ids locals function ≡ ids
own_first function ids locals none =
    ap (λ (b : Bool). if b then locals function ++ ids else locals function) (eq-eqb function function refl)
    ∙ ap (λ (l : List ℕ). l ++ ids) none

-- the same map, some locals aside
abbrev pub HasLocals : Ids → Ids → Type 0
HasLocals old new = new ≡ record old { locals = new.locals }

more_has : (function : ℕ) (ids : List ℕ) (old new : Ids) → new ≡ record old { locals = with_more function ids old.locals } → HasLocals old new
more_has function ids old new e = e ∙ ap (λ (l : ℕ → List ℕ). record old { locals = l }) (sym (ap (λ (i : Ids). i.locals) e))

pub names_on : (i j k : Ids) → HasLocals i j → HasLocals j k → HasLocals i k
names_on i j k a b = b ∙ ap (λ (m : Ids). record m { locals = k.locals }) a

-- ---- what bodies ask of the file's module

abbrev pub env_of : FileEnv → Table → ModuleEnv
env_of file t = record { types = record { now = t; ref_ptr = file.tags.ref_ptr }; tags = file.tags; memories = file.memories; own_types = file.own_types; has_data_count = file.has_data_count; code_start = file.code_start }

pub env_is : (file : FileEnv) (t : Table) → IsEnv file t (env_of file t)
env_is file t = record { types_are = refl; tags_are = refl; memories_are = refl; own_are = refl; counted_is = refl; begins = refl }

pub steps_grow : TablesGrowOn → (file : FileEnv) (features : WasmFeatures) (bs : List FunctionBody) (old new : State) → Steps file features bs old new → Grows old.types new.types
steps_grow on file features [] old new e = subst (λ (s : State). Grows old.types s.types) (sym e) (grows_none old.types)
steps_grow on file features (b ∷ bs) old new (mid, step, rest) = on old.types mid.types new.types step.grown (steps_grow on file features bs mid new rest)

module _ (stay : FoundTypesStay) (on : TablesGrowOn) (enter : EntryTypesGrow) (file : FileEnv) (features : WasmFeatures) (a : Around) (count : ℕ → ℕ) where
  -- ---- one body

  same_count : (s : State) (bs : List FunctionBody) (n : ℕ) (f : Function) (ps : List ValType) → Waits file features a count s bs → item_at s.functions n ≡ Some f → params_at s.types (type_of f.kind) ≡ Some ps → length ps ≡ count n
  same_count s bs n f ps w was is = let c = w.counted n f was in ap (λ (l : List ValType). length l) (some_is ps c.0 (sym is ∙ c.1)) ∙ c.2

  -- the file's module is there for a step's body, beside its function's parameters
  pub step_filed : (b : FunctionBody) (bs : List FunctionBody) (old new : State) → Waits file features a count old (b ∷ bs) → (s : IsStep file features b old new) (g : ModuleEnv) → IsEnv file s.mid g
      → IsFiled g s.numbered b.number (length s.params) features a
  step_filed b bs old new w s g is =
      let named : s.numbered ≡ record old.ids { locals = with_more b.number (ids_from (length old.locals) s.params) old.ids.locals } = s.arguments.named in
      let has : HasLocals old.ids s.numbered = more_has b.number (ids_from (length old.locals) s.params) old.ids s.numbered named in
      let none = All-head (λ (c : FunctionBody). old.ids.locals c.number ≡ []) b bs w.no_locals in
      let own : s.numbered.locals b.number ≡ ids_from (length old.locals) s.params =
      ap (λ (i : Ids). i.locals b.number) named ∙ own_first b.number (ids_from (length old.locals) s.params) old.ids.locals none in
      let size : length (s.numbered.locals b.number) ≡ length s.params = ap (λ (l : List ℕ). length l) own ∙ ids_length (length old.locals) s.params in
      let filed = w.filed s.mid g s.numbered.locals b.number (enter s.results s.entry old.types s.mid s.entered) is in
      subst (λ (n : ℕ). IsFiled g s.numbered b.number n features a) size
      (subst (λ (i : Ids). IsFiled g i b.number (length (s.numbered.locals b.number)) features a) (sym has) filed)

  -- it is read in the file, beside each later table of the module's types
  pub step_is_read : (b : FunctionBody) (bs : List FunctionBody) (old new : State) → Waits file features a count old (b ∷ bs) → (s : IsStep file features b old new) (f : ModuleEnv) (later : Table) → Grows new.types later → IsEnv file later f
      → IsRead f b.number (length s.params) (cursor_of file features b) new.ids (contents s.body.builder.builder) a
  step_is_read b bs old new w s f later grows is = (s.read (env_of file s.mid) f later (env_is file s.mid) grows is a (step_filed b bs old new w s (env_of file s.mid) (env_is file s.mid))).0

  place_is : (start place size : ℕ) → start + place + size - size - start ≡ place
  place_is start place size = omega arith

  -- what is read so is that body, in words of the grammar
  pub read_body_reads : (b : FunctionBody) (f : ModuleEnv) (params : ℕ) (j : Ids) (seqs : List Seq) → (r : IsRead f b.number params (cursor_of file features b) j seqs a) → f.code_start ≡ file.code_start → Small b.chunk.bytes.now
      → ReadsBody a params b.chunk.place b.chunk.bytes.now (body_of ((r.place, r.runs), r.ops))
  read_body_reads b f params j seqs r begins small =
      let parts : Parts = ((r.place, r.runs), r.ops) in
      let place : file.code_start + b.chunk.place + length b.chunk.bytes.now - length b.chunk.bytes.now - f.code_start ≡ b.chunk.place =
      ap (λ (n : ℕ). file.code_start + b.chunk.place + length b.chunk.bytes.now - length b.chunk.bytes.now - n) begins ∙ place_is file.code_start b.chunk.place (length b.chunk.bytes.now) in
      let read = subst (λ (n : ℕ). (body a params n).parse b.chunk.bytes.now ≡ Ok parts) place r.read in
      (parts, (body a params b.chunk.place).found b.chunk.bytes.now parts small read, refl)

  -- a step's body reads as a body of its function
  pub step_reads : (b : FunctionBody) (bs : List FunctionBody) (old new : State) → Waits file features a count old (b ∷ bs) → IsStep file features b old new → Small b.chunk.bytes.now
      → (x : Body) × ReadsBody a (count b.number) b.chunk.place b.chunk.bytes.now x
  step_reads b bs old new w s small =
      let r = step_is_read b bs old new w s (env_of file new.types) new.types (grows_none new.types) (env_is file new.types) in
      let x = body_of ((r.place, r.runs), r.ops) in
      let reads = read_body_reads b (env_of file new.types) (length s.params) new.ids (contents s.body.builder.builder) r refl small in
      (x, subst (λ (n : ℕ). ReadsBody a n b.chunk.place b.chunk.bytes.now x) (same_count old (b ∷ bs) b.number s.item s.params w s.was s.params_are) reads)

  -- ---- the bodies behind it

  pub step_names : (b : FunctionBody) (old new : State) → IsStep file features b old new → HasLocals old.ids new.ids
  step_names b old new s = names_on old.ids s.numbered new.ids (more_has b.number (ids_from (length old.locals) s.params) old.ids s.numbered s.arguments.named) (more_has b.number s.left.ids s.numbered new.ids s.left.named)

  -- functions have as many parameters still
  step_counts : (b : FunctionBody) (old new : State) → IsStep file features b old new → AreCounted count old.types (item_at old.functions) → AreCounted count new.types (item_at new.functions)
  step_counts b old new s h n f at = go (set_or old.functions.slots b.number n given f (sym (ap (λ (x : Arena Function). item_at x n) s.given) ∙ at))
    where
      given : Function
      given = record s.item { kind = kinds.Local s.body }

      grown : (ty : ℕ) (ps : List ValType) → params_at old.types ty ≡ Some ps → params_at new.types ty ≡ Some ps
      grown ty ps e = grown_at (type_at old.types ty) refl e
        where
          grown_at : (o : Option Item) → type_at old.types ty ≡ o → option_and_then (λ (item : Item). form_params item.kind.form) o ≡ Some ps → params_at new.types ty ≡ Some ps
          grown_at None live e = absurd cc
          grown_at (Some item) live e = ap (option_and_then (λ (item : Item). form_params item.kind.form)) ((stay old.types new.types s.grown).live ty item live) ∙ e

      as_before : (g : Function) → item_at old.functions n ≡ Some g → type_of f.kind ≡ type_of g.kind → (ps : List ValType) × (params_at new.types (type_of f.kind) ≡ Some ps) × (length ps ≡ count n)
      as_before g was ty = let c = h n g was in (c.0, ap (params_at new.types) ty ∙ grown (type_of g.kind) c.0 c.1, c.2)

      go : (item_at old.functions n ≡ Some f) ⊎ ((n ≡ b.number) × (given ≡ f)) → (ps : List ValType) × (params_at new.types (type_of f.kind) ≡ Some ps) × (length ps ≡ count n)
      go (inl was) = as_before f was refl
      go (inr x) = as_before s.item (ap (item_at old.functions) x.0 ∙ s.was) (sym (ap (λ (g : Function). type_of g.kind) x.1) ∙ s.ty_is)

  -- once it is read those behind it come next
  pub step_on : (b : FunctionBody) (bs : List FunctionBody) (old new : State) → Waits file features a count old (b ∷ bs) → IsStep file features b old new → Waits file features a count new bs
  step_on b bs old new w s = record {
    filed = λ v e locals function grows is. subst (λ (k : Ids). IsFiled e (record k { locals = locals }) function (length (locals function)) features a) (sym (step_names b old new s))
        (w.filed v e locals function (on old.types new.types v s.grown grows) is);
    counted = step_counts b old new s w.counted;
    apart = w.apart.1;
    no_locals = λ k d lt. let c = slice_index_or bs k d in
        let other : c.number ≢ b.number = w.apart.0 k d lt in
        ap (λ (i : Ids). i.locals c.number) s.left.named ∙ others_keep b.number s.left.ids s.numbered.locals c.number other ∙ ap (λ (i : Ids). i.locals c.number) s.arguments.named
        ∙ others_keep b.number (ids_from (length old.locals) s.params) old.ids.locals c.number other ∙ All-tail (λ (c : FunctionBody). old.ids.locals c.number ≡ []) b bs w.no_locals k d lt;
  }

  -- ---- all of them

  abbrev pub AreIn : ℕ → List FunctionBody → Type 0
  AreIn end bs = ChunksFit file.code_start end (map (λ (b : FunctionBody). chunk_of b.chunk) bs)

  -- bodies that were read read as the file's
  pub steps_read : (end : ℕ) (bs : List FunctionBody) (old new : State) → AreIn end bs → Waits file features a count old bs → Steps file features bs old new → (xs : List Body) × ReadsCodes a (map (coded_by count) bs) xs
  steps_read end [] old new fit w h = ([], tt)
  steps_read end (b ∷ bs) old new fit w h =
      let x = step_reads b bs old h.0 w h.1 fit.0.0 in
      let xs = steps_read end bs h.0 new fit.1 (step_on b bs old h.0 w h.1) h.2 in
      (x.0 ∷ xs.0, (x.1, xs.1))

  -- where they stop, the file's stop
  fails_stops : (end : ℕ) (b : FunctionBody) (bs : List FunctionBody) (old : State) (fault : BodyError) → AreIn end (b ∷ bs) → Waits file features a count old (b ∷ bs) → Fails file features b old fault
      → (t : Stop) × StopsCodes a (end - file.code_start) (map (coded_by count) (b ∷ bs)) t × IsTold end t fault
  fails_stops end b bs old fault fit w f =
      let stop = f.stops a w.filed in
      let t = stop.0 in
      let size = length b.chunk.bytes.now in
      let same = same_count old (b ∷ bs) b.number f.item f.params w f.was f.params_are in
      let refused = subst (λ (n : ℕ). (body a n b.chunk.place).parse b.chunk.bytes.now ≡ Err t) same stop.1 in
      let stops = (body a (count b.number) b.chunk.place).told b.chunk.bytes.now t fit.0.0 refused in
      let near : t.left ≤ size = bodies_stop_inside a (count b.number) b.chunk.place b.chunk.bytes.now t stops in
      let inside : file.code_start + (b.chunk.place + size) ≤ end = fit.0.1 in (
        moved (left_behind (end - file.code_start) (chunk_of b.chunk)) t,
        inl (t, stops, refl),
        (file.code_start + b.chunk.place + size - t.left, ends file.code_start b.chunk.place size t.left end near inside, stop.2),
      )
    where
      ends : (start place size left end : ℕ) → left ≤ size → start + (place + size) ≤ end → start + place + size - left + (left + (end - start - (place + size))) ≡ end
      ends start place size left end near inside = omega (arith, near, inside)

  pub stops_stop : (end : ℕ) (bs : List FunctionBody) (old : State) (fault : BodyError) → AreIn end bs → Waits file features a count old bs → StopsIn file features bs old fault
      → (t : Stop) × StopsCodes a (end - file.code_start) (map (coded_by count) bs) t × IsTold end t fault
  stops_stop end [] old fault fit w h = absurd h
  stops_stop end (b ∷ bs) old fault fit w (inl f) = fails_stops end b bs old fault fit w f
  stops_stop end (b ∷ bs) old fault fit w (inr h) =
      let x = step_reads b bs old h.0 w h.1 fit.0.0 in
      let later = stops_stop end bs h.0 fault fit.1 (step_on b bs old h.0 w h.1) h.2 in
      (later.0, inr (x.0, x.1, later.1), later.2)
