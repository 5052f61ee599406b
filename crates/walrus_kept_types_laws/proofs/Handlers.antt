-- Lemmas: what handlers of legacy `try`s lack is what the file alone says that they lack.
use Rattle.std.specs.Prelude.{ℕ, ◌≡◌, ◌&&◌, Bool, true, false, not, List, [], ◌∷◌, ◌++◌, filter, map, Option, Some, None, slice_get, slice_index_or, refl, if◌then◌else◌}
use Rattle.std.specs.List.{flat_map}
use Rattle.std.specs.Option.{is_none, option_and_then, option_map, option_or}
use Rattle.std.proofs.Common.{ap, ◌∙◌}
use Rattle.std.proofs.lemmas.List.{map-append}
use Rattle.walrus_forms.specs.Forms.{Form, FunctionForm, StructForm, ArrayForm}
use Rattle.walrus_forms.specs.Kinds.{Kind}
use Rattle.walrus_forms.specs.Same.{same_kind}
use Rattle.walrus_forms.specs.declared.value.ValType.{ValType}
use Rattle.walrus_function_types.specs.FunctionTypes.{form_params, form_results}
use Rattle.walrus_instr.specs.BlockTypes.{short_form}
use Rattle.walrus_instr.specs.declared.seq.InstrSeqType.TheVariants.{MultiValue}
use Rattle.walrus_types.specs.Table.{Table, found_type}
use Rattle.wasm_grammar.specs.Modules as grammar
use Rattle.wasm_grammar.specs.States.{types_of}
use Rattle.wasm_merged_modules.specs.Merged as merged
use Rattle.wasm_merged_modules.specs.Merged.{ids_of, merged_types}
use Rattle.wasm_normal_form.specs.Normal.{normal}
use Rattle.wasm_normal_form.specs.Trees.{Tree, Close, Arm, Skip, Run, Nest, tree_of}
use Rattle.wasm_operators.specs.Items.{Types, Functions, Tables, Memories, Tags, Globals, ElementSegments, DataSegments, Locals, Labels, Item, Names, Number, S32, S64, Bits, Byte, Bytes, Heap, Block, Access, ManyLabels, ManyValues, ManyClauses}
use Rattle.wasm_operators.specs.Operators.{flow_of}
use Rattle.wasm_operators.specs.declared.block_type.BlockType.{BlockType}
use Rattle.wasm_operators.specs.declared.block_type.BlockType.TheVariants as blocks
use Rattle.wasm_operators.specs.declared.entry.Flow.{Flow}
use Rattle.wasm_operators.specs.declared.entry.Flow.TheVariants as flows
use Rattle.wasm_part.specs.Handlers as part
use Rattle.wasm_part.specs.Handlers.{handler_groups, lacking}
use Rattle.wasm_ruled_normal.specs.Normal.{text_of}
use Rattle.walrus_forms.specs.Renaming.{at}
use Rattle.walrus_parse_laws.specs.Added as added
use Rattle.walrus_parse_laws.specs.Files as file
use Rattle.walrus_parse_laws.specs.Handlers.{signature_of}
use Rattle.walrus_parse_laws.specs.Means as means
use Rattle.walrus_parse_laws.specs.Means.{handler_kinds}
use Rattle.walrus_kept_types_laws.specs.Read.{HandlersAreLacking}

abbrev said : added.Signature → part.Signature
said s = record { params = s.params; results = s.results }

-- ---- what handlers take and give

params_at : (form : Form) → form_params form ≡ part.form_takes form
params_at (FunctionForm params results) = refl
params_at (StructForm fields) = refl
params_at (ArrayForm field) = refl

results_at : (form : Form) → form_results form ≡ part.form_gives form
results_at (FunctionForm params results) = refl
results_at (StructForm fields) = refl
results_at (ArrayForm field) = refl

params_same : ◌≡◌ {A = Form → Option (List ValType)} form_params part.form_takes
params_same = λ i form. params_at form i

results_same : ◌≡◌ {A = Form → Option (List ValType)} form_results part.form_gives
results_same = λ i form. results_at form i

signature_same : (o p : Option (List ValType)) → map said (signature_of o p) ≡ part.signature_of o p
signature_same (Some params) (Some results) = refl
signature_same (Some params) None = refl
signature_same None (Some results) = refl
signature_same None None = refl

module _ (types : List Kind) (tags : List (Option grammar.Tag)) where
  takes_same : (n : ℕ) → file.tag_takes types tags n ≡ part.tag_takes types tags n
  takes_same n =
      ap (λ (f : Form → Option (List ValType)). option_and_then (λ (t : grammar.Tag). option_and_then (λ (k : Kind). f k.form) (slice_get types t.ty)) (slice_index_or tags n None)) params_same

  gives_same : (ty : BlockType) → file.block_gives types tags ty ≡ part.block_gives types tags ty
  gives_same blocks.Empty = refl
  gives_same (blocks.Value ty) = refl
  gives_same (blocks.Type n) = ap (λ (f : Form → Option (List ValType)). option_and_then (λ (k : Kind). f k.form) (slice_get types n)) results_same

  opened_same : (items : List Item) → file.opened_gives types tags items ≡ part.opened_gives types tags items
  opened_same [] = refl
  opened_same (Block ty ∷ more) = gives_same ty
  opened_same (Names space n ∷ more) = refl
  opened_same (Number n ∷ more) = refl
  opened_same (S32 n ∷ more) = refl
  opened_same (S64 n ∷ more) = refl
  opened_same (Bits k n ∷ more) = refl
  opened_same (Byte n ∷ more) = refl
  opened_same (Bytes ns ∷ more) = refl
  opened_same (Heap ty ∷ more) = refl
  opened_same (Access a ∷ more) = refl
  opened_same (ManyLabels ns ∷ more) = refl
  opened_same (ManyValues tys ∷ more) = refl
  opened_same (ManyClauses cs ∷ more) = refl

  caught_same : (results : Option (List ValType)) (items : List Item) → map said (file.part_handles types tags results (Some flows.Catch) items) ≡ part.part_handles types tags results (Some flows.Catch) items
  caught_same results [] = refl
  caught_same results (Names Tags n ∷ []) =
      signature_same (file.tag_takes types tags n) results ∙ ap (λ (o : Option (List ValType)). part.signature_of o results) (takes_same n)
  caught_same results (Names Tags n ∷ x ∷ more) = refl
  caught_same results (Names Types n ∷ more) = refl
  caught_same results (Names Functions n ∷ more) = refl
  caught_same results (Names Tables n ∷ more) = refl
  caught_same results (Names Memories n ∷ more) = refl
  caught_same results (Names Globals n ∷ more) = refl
  caught_same results (Names ElementSegments n ∷ more) = refl
  caught_same results (Names DataSegments n ∷ more) = refl
  caught_same results (Names Locals n ∷ more) = refl
  caught_same results (Names Labels n ∷ more) = refl
  caught_same results (Block ty ∷ more) = refl
  caught_same results (Number n ∷ more) = refl
  caught_same results (S32 n ∷ more) = refl
  caught_same results (S64 n ∷ more) = refl
  caught_same results (Bits k n ∷ more) = refl
  caught_same results (Byte n ∷ more) = refl
  caught_same results (Bytes ns ∷ more) = refl
  caught_same results (Heap ty ∷ more) = refl
  caught_same results (Access a ∷ more) = refl
  caught_same results (ManyLabels ns ∷ more) = refl
  caught_same results (ManyValues tys ∷ more) = refl
  caught_same results (ManyClauses cs ∷ more) = refl

  handles_same : (results : Option (List ValType)) (flow : Option Flow) (items : List Item) → map said (file.part_handles types tags results flow items) ≡ part.part_handles types tags results flow items
  handles_same results None items = refl
  handles_same results (Some flows.Catch) items = caught_same results items
  handles_same results (Some flows.CatchAll) items = signature_same (Some []) results
  handles_same results (Some flows.Passes) items = refl
  handles_same results (Some flows.Goes) items = refl
  handles_same results (Some flows.Traps) items = refl
  handles_same results (Some flows.OpensBlock) items = refl
  handles_same results (Some flows.OpensLoop) items = refl
  handles_same results (Some flows.OpensIf) items = refl
  handles_same results (Some flows.OpensTry) items = refl
  handles_same results (Some flows.OpensTryTable) items = refl
  handles_same results (Some flows.Else) items = refl
  handles_same results (Some flows.Delegate) items = refl
  handles_same results (Some flows.End) items = refl
  handles_same results (Some flows.Branches) items = refl
  handles_same results (Some flows.Chooses) items = refl
  handles_same results (Some flows.Selects) items = refl
  handles_same results (Some flows.Returns) items = refl
  handles_same results (Some flows.Calls) items = refl
  handles_same results (Some flows.CallsIndirectly) items = refl
  handles_same results (Some flows.TailCalls) items = refl
  handles_same results (Some flows.TailCallsIndirectly) items = refl
  handles_same results (Some flows.Throws) items = refl
  handles_same results (Some flows.ThrowsOrTraps) items = refl

  text_same : (results : Option (List ValType)) (t : Tree) → map said (file.text_handles types tags results t) ≡ part.text_handles types tags results t
  text_same results (Close o p) = refl
  text_same results (Arm o p t) =
      map-append said (file.part_handles types tags results (flow_of o.code) o.items) (file.text_handles types tags results t)
      ∙ ap (λ (l : List part.Signature). l ++ map said (file.text_handles types tags results t)) (handles_same results (flow_of o.code) o.items)
      ∙ ap (λ (l : List part.Signature). part.part_handles types tags results (flow_of o.code) o.items ++ l) (text_same results t)
  text_same results (Skip o p t) = text_same results t
  text_same results (Run o p t) = text_same results t
  text_same results (Nest o p u t) =
      let own : Option (List ValType) = file.opened_gives types tags o.items in
      map-append said (file.text_handles types tags own u) (file.text_handles types tags results t)
      ∙ ap (λ (l : List part.Signature). l ++ map said (file.text_handles types tags results t)) (text_same own u ∙ ap (λ (r : Option (List ValType)). part.text_handles types tags r u) (opened_same o.items))
      ∙ ap (λ (l : List part.Signature). part.text_handles types tags (part.opened_gives types tags o.items) u ++ l) (text_same results t)

  bodies_same : (xs : List grammar.Body) → map said (flat_map (file.body_handles types tags) xs) ≡ flat_map (part.body_handles types tags) xs
  bodies_same [] = refl
  bodies_same (x ∷ xs) =
      map-append said (file.body_handles types tags x) (flat_map (file.body_handles types tags) xs)
      ∙ ap (λ (l : List part.Signature). l ++ map said (flat_map (file.body_handles types tags) xs)) (text_same None (normal (λ (ty : BlockType). ty) (tree_of (text_of x.operators))))
      ∙ ap (λ (l : List part.Signature). part.body_handles types tags x ++ l) (bodies_same xs)

-- ---- those that are missing

missing_same : (t : Table) (s : added.Signature) → added.is_missing t s ≡ part.is_missing t (said s)
missing_same t s = by s.params s.results
  where
    none : (o : Option ℕ) → is_none (option_map MultiValue o) ≡ is_none o
    none None = refl
    none (Some id) = refl

    by : (ps rs : List ValType) → is_none (option_or (short_form ps rs) (option_map MultiValue (found_type ps rs t))) ≡ (not (part.is_short ps rs) && is_none (found_type ps rs t))
    by [] [] = refl
    by [] (ty ∷ []) = refl
    by [] (ty ∷ other ∷ rs) = none (found_type [] (ty ∷ other ∷ rs) t)
    by (ty ∷ ps) [] = none (found_type (ty ∷ ps) [] t)
    by (ty ∷ ps) (r ∷ rs) = none (found_type (ty ∷ ps) (r ∷ rs) t)

sent_same : (r : ℕ → ℕ) (ss : List added.Signature) → map said (map (file.sent r) ss) ≡ map (part.sent r) (map said ss)
sent_same r [] = refl
sent_same r (s ∷ ss) = ap (λ (l : List part.Signature). part.sent r (said s) ∷ l) (sent_same r ss)

kinds_same : (t : Table) (ss : List added.Signature) → map added.kind_of (filter (added.is_missing t) ss) ≡ map part.kind_of (filter (part.is_missing t) (map said ss))
kinds_same t [] = refl
kinds_same t (s ∷ ss) =
    ap (λ (b : Bool). map added.kind_of (if b then s ∷ filter (added.is_missing t) ss else filter (added.is_missing t) ss)) (missing_same t s) ∙ by (part.is_missing t (said s)) (kinds_same t ss)
  where
    by : (b : Bool) → map added.kind_of (filter (added.is_missing t) ss) ≡ map part.kind_of (filter (part.is_missing t) (map said ss))
        → map added.kind_of (if b then s ∷ filter (added.is_missing t) ss else filter (added.is_missing t) ss)
        ≡ map part.kind_of (if b then said s ∷ filter (part.is_missing t) (map said ss) else filter (part.is_missing t) (map said ss))
    by true later = ap (λ (l : List Kind). part.kind_of (said s) ∷ l) later
    by false later = later

once_same : (kinds : List Kind) → added.once kinds ≡ merged.once kinds
once_same [] = refl
once_same (k ∷ kinds) = ap (λ (l : List Kind). k ∷ filter (λ other. not (same_kind k other)) l) (once_same kinds)

-- ---- of a file

function_same : (o : Option grammar.Function) → means.function_bodies o ≡ part.function_bodies o
function_same None = refl
function_same (Some f) = by f.origin
  where
    by : (o : grammar.Origin grammar.Body) → means.body_if o ≡ part.body_if o
    by (grammar.Imported n) = refl
    by (grammar.Own x) = refl

functions_same : (fs : List (Option grammar.Function)) → flat_map means.function_bodies fs ≡ flat_map part.function_bodies fs
functions_same [] = refl
functions_same (f ∷ fs) =
    ap (λ (l : List grammar.Body). l ++ flat_map means.function_bodies fs) (function_same f) ∙ ap (λ (l : List grammar.Body). part.function_bodies f ++ l) (functions_same fs)

pub kinds_lacking : (m : grammar.Module) → handler_kinds m ≡ merged.once (lacking m)
kinds_lacking m =
    let t : Table = (merged_types m.groups).table in
    let r : ℕ → ℕ = at (ids_of m.groups) in
    let handled : List added.Signature = file.bodies_handle m (means.bodies_of m) in
    let said_so : map said handled ≡ part.bodies_handle m (part.bodies_of m) =
    ap (λ (xs : List grammar.Body). map said (file.bodies_handle m xs)) (functions_same m.functions) ∙ bodies_same (types_of m) m.tags (part.bodies_of m) in
    ap added.once (kinds_same t (map (file.sent r) handled) ∙ ap (λ (l : List part.Signature). map part.kind_of (filter (part.is_missing t) l)) (sent_same r handled ∙ ap (map (part.sent r)) said_so))
    ∙ once_same (lacking m)

pub handlers_lacking : HandlersAreLacking
handlers_lacking m = ap (map merged.single) (kinds_lacking m)
