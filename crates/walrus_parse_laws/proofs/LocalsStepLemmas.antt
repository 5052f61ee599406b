-- Lemmas: the locals that the function of each body of a file gets.
use Rattle.std.specs.Prelude.{ℕ, ◌≡◌, ◌≢◌, ◌+◌, Bool, List, [], ◌∷◌, ◌++◌, All, length, map, Option, Some, None, slice_index_or, slice_set, refl, if◌then◌else◌}
use Rattle.std.specs.List.{AllZip}
use Rattle.std.proofs.Common.{ap, sym, ◌∙◌, subst, inl, inr}
use Rattle.std.proofs.lemmas.Bool.{eq-eqb}
use Rattle.std.proofs.lemmas.List.{append-nil, append_assoc, length-append, length-map}
use Rattle.std.proofs.lemmas.List.Elements.{All-head, All-tail}
use Rattle.walrus_named_bodies.specs.walrus_file_bodies.walrus_body_trees.walrus_body_nesting.wasm_body_grammar.Bodies.{Parts, body_of, declared, placed as placed_ops}
use Rattle.walrus_named_bodies.specs.walrus_file_bodies.walrus_body_trees.walrus_body_nesting.wasm_body_grammar.Codes.{ReadsCodes}
use Rattle.walrus_named_bodies.specs.walrus_file_bodies.walrus_body_trees.walrus_body_nesting.wasm_body_grammar.Laws.{BodiesReadOnce, ReadsBody}
use Rattle.walrus_named_bodies.specs.walrus_file_bodies.walrus_body_trees.walrus_body_nesting.wasm_body_grammar.Rules.{Around}
use Rattle.walrus_named_bodies.specs.walrus_file_bodies.walrus_body_trees.walrus_body_nesting.wasm_body_grammar.wasm_formats.wasm_features.declared.WasmFeatures.{WasmFeatures}
use Rattle.walrus_named_bodies.specs.walrus_file_bodies.walrus_body_trees.walrus_body_nesting.wasm_body_grammar.wasm_formats.Formats.{Small}
use Rattle.walrus_named_bodies.specs.walrus_file_bodies.walrus_body_trees.walrus_body_nesting.wasm_body_grammar.wasm_grammar.Modules as grammar
use Rattle.walrus_named_bodies.specs.walrus_file_bodies.walrus_body_trees.walrus_body_nesting.wasm_body_grammar.wasm_operators.Operators.{Seen}
use Rattle.wasm_import_links.specs.wasm_ruled_modules.Bodied.{body_is}
use Rattle.wasm_import_links.specs.wasm_ruled_modules.Rules.{IsBody}
use Rattle.walrus_named_bodies.specs.walrus_file_bodies.walrus_items_into.wasm_sections.Within.{ChunksFit}
use Rattle.walrus_arena.specs.Arena.{Arena}
use Rattle.walrus_named_bodies.specs.walrus_file_bodies.walrus_items_into.walrus_module_bodies.walrus_body_trees.walrus_meaning.walrus_local_function.walrus_body_locals.Locals.{ids_from, kept_ids, locals_from, with_more}
use Rattle.walrus_named_bodies.specs.walrus_file_bodies.walrus_items_into.walrus_module_bodies.walrus_body_trees.walrus_meaning.walrus_local_function.walrus_body_locals.Named.{kept_by, kept_of}
use Rattle.walrus_named_bodies.specs.walrus_file_bodies.walrus_items_into.walrus_module_bodies.walrus_body_trees.walrus_meaning.walrus_module.walrus_builder.Built.{contents}
use Rattle.walrus_named_bodies.specs.walrus_file_bodies.Read.{Waits, coded_by, env_is, env_of, grows_none, others_keep, read_body_reads, step_filed, step_on}
use Rattle.walrus_named_bodies.specs.walrus_file_bodies.walrus_body_trees.walrus_body_nesting.wasm_body_grammar.wasm_grammar.walrus_forms.Renaming.{at, renamed_value}
use Rattle.walrus_named_bodies.specs.walrus_file_bodies.walrus_body_trees.walrus_body_nesting.wasm_body_grammar.wasm_grammar.walrus_forms.declared.value.ValType.{ValType}
use Rattle.walrus_function_types.specs.Growth.{EntryTypesGrow, FoundTypesStay, TablesGrowOn}
use Rattle.walrus_named_bodies.specs.walrus_file_bodies.walrus_items_into.walrus_functions_into.declared.bodies.FunctionBody.{FunctionBody}
use Rattle.walrus_named_bodies.specs.walrus_file_bodies.walrus_items_into.walrus_module_bodies.walrus_body_trees.walrus_meaning.walrus_body_writer.walrus_pairing.walrus_index_maps.Maps.{Ids}
use Rattle.walrus_named_bodies.specs.walrus_file_bodies.walrus_items_into.walrus_module_bodies.walrus_body_trees.walrus_meaning.walrus_body_writer.walrus_pairing.walrus_items.declared.local.Local.{Local}
use Rattle.walrus_named_bodies.specs.walrus_file_bodies.walrus_items_into.walrus_tables_into.walrus_sections_into.walrus_known_sections.Items.{chunk_of}
use Rattle.walrus_named_bodies.specs.walrus_file_bodies.walrus_items_into.walrus_module_bodies.walrus_body_trees.walrus_meaning.walrus_local_function.declared.local_function.LocalFunction.{LocalFunction}
use Rattle.walrus_named_bodies.specs.walrus_file_bodies.walrus_module_bodies.Steps.{IsStep, State, Steps}
use Rattle.walrus_named_bodies.specs.walrus_file_bodies.walrus_module_bodies.declared.file.FileEnv.{FileEnv}
use Rattle.walrus_named_bodies.specs.walrus_file_bodies.walrus_items_into.walrus_module_bodies.walrus_body_trees.walrus_meaning.walrus_linked.walrus_module_items.declared.function.Function.{Function}
use Rattle.walrus_named_bodies.specs.walrus_file_bodies.walrus_items_into.walrus_module_bodies.walrus_body_trees.walrus_meaning.walrus_linked.walrus_module_items.declared.function.FunctionKind.TheVariants as kinds
use Rattle.walrus_parse_laws.proofs.BodiesSlotLemmas.{NoneOf, set_cases}
use Rattle.walrus_parse_laws.proofs.IdLemmas.{many_from}

some_is : {A : Type 0} (x y : A) → Some x ≡ Some y → x ≡ y
some_is x y e = cc

none_of : (n : ℕ) (bs : List FunctionBody) → All (λ (b : FunctionBody). b.number ≢ n) bs → NoneOf n bs
none_of n [] h = tt
none_of n (b ∷ bs) h =
    let other : FunctionBody → Type 0 = λ d. d.number ≢ n in
    (All-head other b bs h, none_of n bs (All-tail other b bs h))

joined : (before given own more named new final : List Local) → final ≡ new ++ more → new ≡ named ++ own → named ≡ before ++ given → final ≡ before ++ (given ++ (own ++ more))
joined before given own more named new final last e f =
    last ∙ ap (λ (l : List Local). l ++ more) (e ∙ ap (λ (l : List Local). l ++ own) f) ∙ append_assoc (before ++ given) own more ∙ append_assoc before given (own ++ more)

-- a function's own locals, and then more
own_more : (function : ℕ) (ids : List ℕ) (locals : ℕ → List ℕ) → with_more function ids locals function ≡ locals function ++ ids
own_more function ids locals = ap (λ (b : Bool). if b then locals function ++ ids else locals function) (eq-eqb function function refl)

own_slot : (slots : List (Option Function)) (k : ℕ) (x y : Function) → slice_index_or slots k None ≡ Some x → slice_index_or (slice_set slots k (Some y)) k None ≡ Some y
own_slot slots k x y at = elim (set_cases slots k k x y at) [
  | inl h ↦ h.1
  | inr h ↦ absurd (h.0 refl)
]

other_slot : (slots : List (Option Function)) (k n : ℕ) (x y : Function) → slice_index_or slots k None ≡ Some x → k ≢ n → slice_index_or (slice_set slots k (Some y)) n None ≡ slice_index_or slots n None
other_slot slots k n x y at apart = elim (set_cases slots k n x y at) [
  | inl h ↦ absurd (apart (sym h.0))
  | inr h ↦ h.1
]

-- ---- what stays while other functions get their bodies

pub record Kept (n : ℕ) (old new : State) : Type 0 where
  pub slot : slice_index_or new.functions.slots n None ≡ slice_index_or old.functions.slots n None
  pub own : new.ids.locals n ≡ old.ids.locals n
  pub types : new.ids.types ≡ old.ids.types
  pub all_locals : new.ids.all_locals ≡ old.ids.all_locals
  pub more : List Local
  pub locals : new.locals ≡ old.locals ++ more

module _ (file : FileEnv) (features : WasmFeatures) where
  kept : (n : ℕ) (bs : List FunctionBody) (old new : State) → NoneOf n bs → Steps file features bs old new → Kept n old new
  kept n [] old new none e = record {
    slot = ap (λ (s : State). slice_index_or s.functions.slots n None) e;
    own = ap (λ (s : State). s.ids.locals n) e;
    types = ap (λ (s : State). s.ids.types) e;
    all_locals = ap (λ (s : State). s.ids.all_locals) e;
    more = [];
    locals = ap (λ (s : State). s.locals) e ∙ sym (append-nil old.locals);
  }
  kept n (b ∷ bs) old new none (mid, s, more) =
      let later = kept n bs mid new none.1 more in
      let y = record s.item { kind = kinds.Local s.body } in
      let apart : n ≢ b.number = λ e. none.0 (sym e) in record {
        slot = later.slot ∙ ap (λ (x : Arena Function). slice_index_or x.slots n None) s.given ∙ other_slot old.functions.slots b.number n s.item y s.was none.0;
        own = later.own ∙ ap (λ (i : Ids). i.locals n) s.left.named ∙ others_keep b.number s.left.ids s.numbered.locals n apart
            ∙ ap (λ (i : Ids). i.locals n) s.arguments.named ∙ others_keep b.number (ids_from (length old.locals) s.params) old.ids.locals n apart;
        types = later.types ∙ ap (λ (i : Ids). i.types) s.left.named ∙ ap (λ (i : Ids). i.types) s.arguments.named;
        all_locals = later.all_locals ∙ ap (λ (i : Ids). i.all_locals) s.left.named ∙ ap (λ (i : Ids). i.all_locals) s.arguments.named;
        more = locals_from (length old.locals) s.params ++ (locals_from (length s.named) s.left.tys ++ later.more);
        locals = joined old.locals (locals_from (length old.locals) s.params) (locals_from (length s.named) s.left.tys) later.more s.named mid.locals new.locals later.locals s.left.added s.arguments.added;
      }

-- ---- bodies

-- the operators of a body that was parsed
pub operators_of : (place : ℕ) (ops : List (ℕ × Seen)) → map (λ (o : grammar.Placed). o.op) (placed_ops place ops) ≡ map (λ (x : ℕ × Seen). x.1) ops
operators_of place [] = refl
operators_of place (x ∷ ops) = ap (λ (l : List Seen). x.1 ∷ l) (operators_of x.0 ops)

-- the function of a body, once all are read: behind other locals stand those of its parameters, and of those that the body declares those that are kept
pub record LocalsIn (final : State) (a : Around) (b : FunctionBody) (x : grammar.Body) : Type 0 where
  pub function : Function
  pub there : slice_index_or final.functions.slots b.number None ≡ Some function
  pub local : LocalFunction
  pub kind : function.kind ≡ kinds.Local local
  pub before : List Local
  pub params : List ValType
  pub more : List Local
  pub kept : List Bool
  pub kept_is : kept ≡ kept_by final.ids.all_locals (length params) (length x.locals) (map (λ (o : grammar.Placed). o.op) x.operators)
  pub many : length kept ≡ length x.locals
  pub args : local.args.items ≡ ids_from (length before) params
  pub locals : final.locals ≡ before ++ (locals_from (length before) params ++ (locals_from (length before + length params) (kept_of kept (map (renamed_value (at final.ids.types)) x.locals)) ++ more))
  pub ids : final.ids.locals b.number ≡ ids_from (length before) params ++ kept_ids (length before + length params) kept
  pub ruled : IsBody a (length params) x

module _ (stay : FoundTypesStay) (on : TablesGrowOn) (enter : EntryTypesGrow) (once : BodiesReadOnce) (file : FileEnv) (features : WasmFeatures) (a : Around) (count : ℕ → ℕ) where
  step_locals : (b : FunctionBody) (bs : List FunctionBody) (old new final : State) → Small b.chunk.bytes.now → Waits file features a count old (b ∷ bs) → IsStep file features b old new → Kept b.number new final
      → (x : grammar.Body) → ReadsBody a (count b.number) b.chunk.place b.chunk.bytes.now x → LocalsIn final a b x
  step_locals b bs old new final small w s k x reads =
      let y = record s.item { kind = kinds.Local s.body } in
      let e = env_of file new.types in
      let it = s.read (env_of file s.mid) e new.types (env_is file s.mid) (grows_none new.types) (env_is file new.types) a (step_filed stay on enter file features a count b bs old new w s (env_of file s.mid) (env_is file s.mid)) in
      let parts : Parts = ((it.0.place, it.0.runs), it.0.ops) in
      let counted = w.counted b.number s.item s.was in
      let params : s.params ≡ counted.0 = some_is s.params counted.0 (sym s.params_are ∙ counted.1) in
      let many : length s.params ≡ count b.number = ap length params ∙ counted.2 in
      let own_reads = read_body_reads stay on enter file features a count b e (length s.params) new.ids (contents s.body.builder.builder) it.0 refl small in
      let file_reads = subst (λ (n : ℕ). ReadsBody a n b.chunk.place b.chunk.bytes.now x) (sym many) reads in
      let is : body_of parts ≡ x = once a (length s.params) b.chunk.place b.chunk.bytes.now (body_of parts) x own_reads file_reads in
      let types : s.numbered.types ≡ final.ids.types = sym (ap (λ (i : Ids). i.types) s.left.named) ∙ sym k.types in
      let tys = map (renamed_value (at s.numbered.types)) (declared it.0.runs) in
      let all : s.numbered.all_locals ≡ final.ids.all_locals = sym (ap (λ (i : Ids). i.all_locals) s.left.named) ∙ sym k.all_locals in
      let seen = map (λ (y : ℕ × Seen). y.1) it.0.ops in
      let kept : List Bool = kept_by s.numbered.all_locals (length s.params) (length (declared it.0.runs)) seen in
      let kept_is : kept ≡ kept_by final.ids.all_locals (length s.params) (length x.locals) (map (λ (o : grammar.Placed). o.op) x.operators) =
      ap (λ (c : Bool). kept_by c (length s.params) (length (declared it.0.runs)) seen) all
      ∙ ap (kept_by final.ids.all_locals (length s.params) (length (declared it.0.runs))) (sym (operators_of it.0.place it.0.ops))
      ∙ ap (λ (z : grammar.Body). kept_by final.ids.all_locals (length s.params) (length z.locals) (map (λ (o : grammar.Placed). o.op) z.operators)) is in
      let named_many : length kept ≡ length (declared it.0.runs) = it.2.many ∙ length-map (declared it.0.runs) (renamed_value (at s.numbered.types)) in
      let own : List ValType = kept_of kept (map (renamed_value (at final.ids.types)) x.locals) in
      let own_is : kept_of kept tys ≡ own =
      ap (kept_of kept) (ap (λ (z : grammar.Body). map (renamed_value (at s.numbered.types)) z.locals) is ∙ ap (λ (ids : List ℕ). map (renamed_value (at ids)) x.locals) types) in
      let sized : length s.named ≡ length old.locals + length s.params =
      ap length s.arguments.added ∙ length-append old.locals (locals_from (length old.locals) s.params) ∙ ap (λ (n : ℕ). length old.locals + n) (many_from (length old.locals) s.params) in
      let none = All-head (λ (c : FunctionBody). old.ids.locals c.number ≡ []) b bs w.no_locals in
      let given : s.numbered.locals b.number ≡ ids_from (length old.locals) s.params =
      ap (λ (i : Ids). i.locals b.number) s.arguments.named ∙ own_more b.number (ids_from (length old.locals) s.params) old.ids.locals ∙ ap (λ (l : List ℕ). l ++ ids_from (length old.locals) s.params) none in
      record {
        function = y;
        there = k.slot ∙ ap (λ (z : Arena Function). slice_index_or z.slots b.number None) s.given ∙ own_slot old.functions.slots b.number s.item y s.was;
        local = s.body;
        kind = refl;
        before = old.locals;
        params = s.params;
        more = k.more;
        kept = kept;
        kept_is = kept_is;
        many = named_many ∙ ap (λ (z : grammar.Body). length z.locals) is;
        args = s.args_are;
        locals = joined old.locals (locals_from (length old.locals) s.params) (locals_from (length old.locals + length s.params) own) k.more s.named new.locals final.locals k.locals
            (it.2.added ∙ ap (λ (n : ℕ). s.named ++ locals_from n (kept_of kept tys)) sized ∙ ap (λ (l : List ValType). s.named ++ locals_from (length old.locals + length s.params) l) own_is) s.arguments.added;
        ids = k.own ∙ ap (λ (i : Ids). i.locals b.number) it.2.named ∙ own_more b.number (kept_ids (length s.named) kept) s.numbered.locals ∙ ap (λ (l : List ℕ). l ++ kept_ids (length s.named) kept) given
            ∙ ap (λ (n : ℕ). ids_from (length old.locals) s.params ++ kept_ids n kept) sized;
        ruled = body_is a (length s.params) b.chunk.place b.chunk.bytes.now x file_reads;
      }

  pub all_locals : (start end : ℕ) (bs : List FunctionBody) (xs : List grammar.Body) (old final : State) → ChunksFit start end (map (λ (b : FunctionBody). chunk_of b.chunk) bs) → Waits file features a count old bs
      → ReadsCodes a (map (coded_by count) bs) xs → Steps file features bs old final → AllZip (LocalsIn final a) bs xs
  all_locals start end [] [] old final fit w reads steps = tt
  all_locals start end [] (x ∷ xs) old final fit w reads steps = absurd reads
  all_locals start end (b ∷ bs) [] old final fit w reads steps = absurd reads
  all_locals start end (b ∷ bs) (x ∷ xs) old final fit w reads (mid, s, more) = (
    step_locals b bs old mid final fit.0.0 w s (kept file features b.number bs mid final (none_of b.number bs w.apart.0) more) x reads.0,
    all_locals start end bs xs mid final fit.1 (step_on stay on enter file features a count b bs old mid w s) reads.1 more,
  )
