-- Lemmas: the code section of a plan's part.
use Rattle.std.specs.Prelude.{ℕ, zero, suc, ◌≡◌, ◌||◌, Bool, true, false, List, [], ◌∷◌, ◌++◌, length, map, Option, Some, None, slice_get, slice_index_or, refl}
use Rattle.std.specs.List.{cons_option, filter_map, flat_map, list_any}
use Rattle.std.specs.Option.{option_map}
use Rattle.std.proofs.Common.{ap, sym, ◌∙◌}
use Rattle.std.proofs.lemmas.Option.{cond_some, none-some}
use Rattle.wasm_features.specs.declared.WasmFeatures.{WasmFeatures}
use Rattle.wasm_formats.specs.declared.fault.Space.{Space as FileSpace}
use Rattle.wasm_formats.specs.declared.fault.Space.TheVariants as spaces
use Rattle.wasm_operators.specs.Bytes.{operator_bytes}
use Rattle.wasm_operators.specs.Items.{Functions}
use Rattle.wasm_operators.specs.NameLaws.{renamed_name, same}
use Rattle.wasm_operators.specs.Names.{Name, Renaming, operator_names, renamed_operator}
use Rattle.wasm_operators.specs.Operators.{Seen}
use Rattle.wasm_operators.specs.Renamed.{names_are_renamed}
use Rattle.wasm_grammar.specs.Modules as grammar
use Rattle.wasm_grammar.specs.Modules.{Imported, Own, Placed}
use Rattle.wasm_body_grammar.specs.Codes.{own_type, param_count}
use Rattle.wasm_body_grammar.specs.Rules.{Around, is_segment}
use Rattle.wasm_grammar_bytes.specs.Bodies.{runs_bytes as due_bytes}
use Rattle.wasm_grammar_bytes.specs.Maximal.{maximal_of}
use Rattle.wasm_import_links.specs.Links.{ImportsLink, brought, function_brought, origin_import, slot_import}
use Rattle.wasm_sections.specs.Entities.{Entity, ImportEntry}
use Rattle.wasm_sections.specs.Sections.{TypeSection, ImportSection, FunctionSection, TableSection, MemorySection, TagSection, GlobalSection, ExportSection, ElementSection, SectionEntry}
use Rattle.wasm_section_bytes.specs.Flags.{entry_of_element}
use Rattle.wasm_ruled_modules.specs.Rules.{table_wide, around_bodies}
use Rattle.wasm_module_bytes.specs.Bytes.{origin_unplaced, slot_unplaced, unplaced, without_places}
use Rattle.wasm_module_bytes.specs.Due.{export_from, group_from}
use Rattle.wasm_canonical.specs.Due.{bodies_due, body_names_segment, code_if, count_if, counts_data, entity_due, function_due, import_due, is_passive, items_in, names_segment, origin_bytes, own_bytes, own_global, own_memory, own_table, own_tag, section_if, standard_due, start_if, custom_due}
use Rattle.wasm_part.specs.Order.{InOrder, brought_by, brought_to, is_to}
use Rattle.wasm_part.specs.Part.{Plan, part, picked, renumbered_function, renumbered_placed}
use Rattle.wasm_ruled_renamed.specs.Bodies.{with_numbers}
use Rattle.wasm_ruled_renamed.specs.Renamed.{renamed_placed}
use Rattle.walrus_index_maps.specs.Maps.{Indices}
use Rattle.walrus_items.specs.declared.local.Local.{Local}
use Rattle.walrus_pairing.specs.Looks.{number_of}
use Rattle.walrus_module.specs.Parts.{Module}
use Rattle.walrus_module_items.specs.Functions.{type_of}
use Rattle.walrus_module_items.specs.declared.function.Function.{Function}
use Rattle.walrus_module_items.specs.declared.function.FunctionKind.{FunctionKind}
use Rattle.walrus_module_items.specs.declared.function.FunctionKind.TheVariants as kinds
use Rattle.walrus_meaning.specs.Bodies.{depth_of, local_ids, own_operators}
use Rattle.walrus_meaning.specs.Meaning.{means, own_function, own_origin}
use Rattle.walrus_emit_numbers.specs.declared.facts.BodyFacts.{BodyFacts}
use Rattle.walrus_emit_parts.specs.Due.{Due}
use Rattle.walrus_emit_due.specs.Items.{segments}
use Rattle.walrus_emit_code.specs.Code.{code}
use Rattle.walrus_due_laws.specs.Spelled.{SpelledAs, spelled, FilesAreSpelled}
use Rattle.walrus_due_laws.specs.Standard.{PartsAreSpelled, StandardIsAround, before_code, behind_code, due_before}
use Rattle.walrus_due_laws.proofs.Parts.{turned, both}
use Rattle.walrus_due_laws.proofs.Standard.{joined}
use Rattle.walrus_code_laws.specs.Code.{CodeIsSpelled, meant_bytes}
use Rattle.walrus_code_laws.specs.Numbered.{numbered_function, numbered_origin}
use Rattle.walrus_code_laws.specs.Parts.{CodeIsApart, PartCodeIsSpelled, PartsAreWritten, ServesCode, numbered, AreTold, PartsAreCanonical, all_due}
use Rattle.std.proofs.lemmas.List.{append_assoc}
use Rattle.wasm_grammar.specs.States.{nothing_yet}
use Rattle.wasm_sections.specs.Modules.{magic}
use Rattle.wasm_section_bytes.specs.Files.{entry_bytes, file_bytes}
use Rattle.wasm_canonical.specs.Canonical.{first_customs, last_customs}

-- ---- slots

see_at : {A B : Type 0} (see : A → B) (xs : List (Option A)) (n : ℕ) → slice_index_or (map (option_map see) xs) n None ≡ option_map see (slice_index_or xs n None)
see_at see [] n = refl
see_at see (x ∷ xs) zero = refl
see_at see (x ∷ xs) (suc n) = see_at see xs n

-- numbers in front that give nothing
given_by : {E : Type 0} (F : ℕ → Option E) (front back : List ℕ) → ((i n : ℕ) → slice_get front i ≡ Some n → F n ≡ None) → filter_map F (front ++ back) ≡ filter_map F back
given_by F [] back h = refl
given_by {E} F (n ∷ front) back h = ap (λ (o : Option E). cons_option o (filter_map F (front ++ back))) (h zero n refl) ∙ given_by F front back (λ i k e. h (suc i) k e)

picked_by : {A E : Type 0} (own : Option A → Option E) (f : A → A) (xs : List (Option A)) (ns : List ℕ) → filter_map own (picked f ns xs) ≡ filter_map (λ (n : ℕ). own (option_map f (slice_index_or xs n None))) ns
picked_by own f xs [] = refl
picked_by {A} {E} own f xs (n ∷ ns) = ap (λ (l : List E). cons_option (own (option_map f (slice_index_or xs n None))) l) (picked_by own f xs ns)

-- ---- sections that are joined

spelled_join : (features : WasmFeatures) (xs ys : List SectionEntry) → spelled features (xs ++ ys) ≡ spelled features xs ++ spelled features ys
spelled_join features [] ys = refl
spelled_join features (x ∷ xs) ys =
    let front = entry_bytes features nothing_yet x in
    ap (λ (l : List ℕ). front ++ l) (spelled_join features xs ys) ∙ sym (append_assoc front (spelled features xs) (spelled features ys))

-- ---- what imports bring

found_one : {E : Type 0} (F : ℕ → Option E) (k : ℕ) (e : E) (ks : List ℕ) (o : Option E) → F k ≡ o → ((i : ℕ) → slice_get (filter_map F ks) i ≡ Some e → (k : ℕ) × (F k ≡ Some e))
    → (i : ℕ) → slice_get (cons_option o (filter_map F ks)) i ≡ Some e → (k : ℕ) × (F k ≡ Some e)
found_one F k e ks None is rest i at = rest i at
found_one F k e ks (Some x) is rest zero at = (k, is ∙ at)
found_one F k e ks (Some x) is rest (suc i) at = rest i at

found_by : {E : Type 0} (F : ℕ → Option E) (e : E) (ks : List ℕ) (i : ℕ) → slice_get (filter_map F ks) i ≡ Some e → (k : ℕ) × (F k ≡ Some e)
found_by F e [] i at = absurd (none-some e at)
found_by F e (k ∷ ks) i at = found_one F k e ks (F k) refl (found_by F e ks) i at

slot_is : {A : Type 0} (brings : A → Option ℕ) (xs : List (Option A)) (n k : ℕ) → slice_index_or (map (slot_import brings) xs) n None ≡ Some k → slot_import brings (slice_index_or xs n None) ≡ Some k
slot_is brings [] n k e = absurd (none-some k e)
slot_is brings (x ∷ xs) zero k e = e
slot_is brings (x ∷ xs) (suc n) k e = slot_is brings xs n k e

function_is : (s : FileSpace) → is_to Functions s ≡ true → s ≡ spaces.Function
function_is spaces.Function e = refl
function_is spaces.«Type» e = absurd cc
function_is spaces.Table e = absurd cc
function_is spaces.Memory e = absurd cc
function_is spaces.Tag e = absurd cc
function_is spaces.Global e = absurd cc
function_is spaces.Element e = absurd cc
function_is spaces.Data e = absurd cc
function_is spaces.Local e = absurd cc
function_is spaces.Label e = absurd cc

module _ (m : grammar.Module) (link : ImportsLink m) where
  import_brings : (n k : ℕ) (o : Option grammar.Import) → slice_index_or m.imports k None ≡ o → brought_to Functions o ≡ Some n → slice_index_or (brought m spaces.Function) n None ≡ Some k
  import_brings n k None is e = absurd (none-some n e)
  import_brings n k (Some x) is e =
      let q = cond_some (is_to Functions x.item.space) x.item.number n e in
      sym (ap (λ (s : FileSpace). slice_index_or (brought m s) n None) (function_is x.item.space q.0))
      ∙ sym (ap (λ (j : ℕ). slice_index_or (brought m x.item.space) j None) q.1) ∙ link.named k x is

  -- a function in front is imported
  is_imported : (ns : List ℕ) (i n : ℕ) → slice_get (brought_by m Functions ns) i ≡ Some n → (k : ℕ) × (slot_import function_brought (slice_index_or m.functions n None) ≡ Some k)
  is_imported ns i n at =
      let b = found_by (λ (n : ℕ). brought_to Functions (slice_index_or m.imports n None)) n ns i at in
      (b.0, slot_is function_brought m.functions n b.0 (import_brings n b.0 (slice_index_or m.imports b.0 None) refl b.1))

-- ---- renaming keeps which spaces are named

segments_stay : (r : Renaming) (names : List Name) → list_any (λ (n : Name). is_segment n.0) (map (renamed_name r) names) ≡ list_any (λ (n : Name). is_segment n.0) names
segments_stay r [] = refl
segments_stay r (n ∷ names) = ap (λ (b : Bool). is_segment n.0 || b) (segments_stay r names)

segment_stays : (r : Renaming) (op : Seen) → list_any (λ (n : Name). is_segment n.0) (operator_names (renamed_operator r op)) ≡ list_any (λ (n : Name). is_segment n.0) (operator_names op)
segment_stays r op = ap (λ (l : List Name). list_any (λ (n : Name). is_segment n.0) l) (names_are_renamed r op) ∙ segments_stay r (operator_names op)

twice_named : (r q : Renaming) (ops : List Placed) → list_any names_segment (map (renumbered_placed r) (map (renamed_placed q) ops)) ≡ list_any names_segment (map (renumbered_placed r) ops)
twice_named r q [] = refl
twice_named r q (o ∷ ops) =
    ap (λ (b : Bool). b || list_any names_segment (map (renumbered_placed r) (map (renamed_placed q) ops))) (segment_stays r (renamed_operator q o.op) ∙ segment_stays q o.op ∙ sym (segment_stays r o.op))
    ∙ ap (λ (b : Bool). names_segment (renumbered_placed r o) || b) (twice_named r q ops)

-- ---- places

bare_bytes : (ops : List Placed) → flat_map (λ (p : Placed). operator_bytes p.op) (map unplaced ops) ≡ flat_map (λ (p : Placed). operator_bytes p.op) ops
bare_bytes [] = refl
bare_bytes (o ∷ ops) = ap (λ (l : List ℕ). operator_bytes o.op ++ l) (bare_bytes ops)

bare_origin : (a : Around) (params : ℕ) (o : grammar.Origin grammar.Body) → origin_bytes a params (origin_unplaced o) ≡ origin_bytes a params o
bare_origin a params (Imported n) = refl
bare_origin a params (Own x) = ap (λ (l : List ℕ). Some (due_bytes a params (maximal_of x.locals) ++ l)) (bare_bytes x.operators)

bare_slot : (a : Around) (o : Option grammar.Function) → own_bytes a (slot_unplaced o) ≡ own_bytes a o
bare_slot a None = refl
bare_slot a (Some f) = bare_origin a (param_count a.filled f.ty) f.origin

bare_bodies : (a : Around) (fs : List (Option grammar.Function)) → filter_map (own_bytes a) (map slot_unplaced fs) ≡ filter_map (own_bytes a) fs
bare_bodies a [] = refl
bare_bodies a (f ∷ fs) =
    ap (λ (o : Option (List ℕ)). cons_option o (filter_map (own_bytes a) (map slot_unplaced fs))) (bare_slot a f) ∙ ap (λ (l : List (List ℕ)). cons_option (own_bytes a f) l) (bare_bodies a fs)

-- ---- functions whose locals are numbered

module _ (p : Plan) (m : Module) where
  abbrev locals : List Local
  locals = m.locals

  abbrev old : grammar.Module
  old = means m

  abbrev new : grammar.Module
  new = numbered m

  abbrev turn : grammar.Function → grammar.Function
  turn = renumbered_function p.renames p.brings

  -- what shows nothing of how locals are numbered
  abbrev IsAlike : {X : Type 0} → (Option grammar.Function → X) → Type 0
  IsAlike g = (o : Option Function) → g (option_map turn (option_map (numbered_function locals) o)) ≡ g (option_map turn (option_map (own_function locals) o))

  alike_at : {X : Type 0} (g : Option grammar.Function → X) → IsAlike g → (n : ℕ) → g (option_map turn (slice_index_or new.functions n None)) ≡ g (option_map turn (slice_index_or old.functions n None))
  alike_at g alike n =
      ap (λ (o : Option grammar.Function). g (option_map turn o)) (see_at (numbered_function locals) m.funcs.slots n)
      ∙ alike (slice_index_or m.funcs.slots n None) ∙ sym (ap (λ (o : Option grammar.Function). g (option_map turn o)) (see_at (own_function locals) m.funcs.slots n))

  due_alike : IsAlike function_due
  due_alike None = refl
  due_alike (Some f) = refl

  type_by : (ty : ℕ) (k : FunctionKind) → own_type (Some (turn (record { ty = ty; origin = numbered_origin locals k }))) ≡ own_type (Some (turn (record { ty = ty; origin = own_origin locals k })))
  type_by ty (kinds.Import imported) = refl
  type_by ty (kinds.Local local) = refl
  type_by ty (kinds.Uninitialized other) = refl

  type_alike : IsAlike own_type
  type_alike None = refl
  type_alike (Some f) = type_by (type_of f.kind) f.kind

  -- whether the body of a slot names a data segment
  abbrev slot_names : Option grammar.Function → Bool
  slot_names None = false
  slot_names (Some f) = body_names_segment f.origin

  names_by : (ty : ℕ) (k : FunctionKind) → slot_names (Some (turn (record { ty = ty; origin = numbered_origin locals k }))) ≡ slot_names (Some (turn (record { ty = ty; origin = own_origin locals k })))
  names_by ty (kinds.Import imported) = refl
  names_by ty (kinds.Local local) = twice_named p.renames (with_numbers (depth_of (local_ids locals local)) same) (own_operators local)
  names_by ty (kinds.Uninitialized other) = refl

  names_alike : IsAlike slot_names
  names_alike None = refl
  names_alike (Some f) = names_by (type_of f.kind) f.kind

  -- ---- around code

  due_at : (ns : List ℕ) (k : ℕ) → function_due (slice_index_or (picked turn ns new.functions) k None) ≡ function_due (slice_index_or (picked turn ns old.functions) k None)
  due_at [] k = refl
  due_at (n ∷ ns) zero = alike_at function_due due_alike n
  due_at (n ∷ ns) (suc k) = due_at ns k

  entity_same : (space : FileSpace) (k : ℕ) → entity_due (part p new) space k ≡ entity_due (part p old) space k
  entity_same spaces.Function k = due_at (p.listed Functions) k
  entity_same spaces.Table k = refl
  entity_same spaces.Memory k = refl
  entity_same spaces.Global k = refl
  entity_same spaces.Tag k = refl
  entity_same spaces.«Type» k = refl
  entity_same spaces.Element k = refl
  entity_same spaces.Data k = refl
  entity_same spaces.Local k = refl
  entity_same spaces.Label k = refl

  abbrev with_entity : grammar.Import → Entity → ImportEntry
  with_entity i e = (i.space_name, (i.name, ((import_due (part p old) i).1.1.0, e)))

  imports_same : (xs : List grammar.Import) → map (import_due (part p new)) xs ≡ map (import_due (part p old)) xs
  imports_same [] = refl
  imports_same (i ∷ xs) = λ at. with_entity i (entity_same i.item.space i.item.number at) ∷ imports_same xs at

  types_same : (ns : List ℕ) → filter_map own_type (picked turn ns new.functions) ≡ filter_map own_type (picked turn ns old.functions)
  types_same [] = refl
  types_same (n ∷ ns) = λ at. cons_option (alike_at own_type type_alike n at) (types_same ns at)

  abbrev any_names : List (Option grammar.Function) → Bool
  any_names fs = list_any (λ (f : grammar.Function). body_names_segment f.origin) (items_in fs)

  any_first : (o : Option grammar.Function) (fs : List (Option grammar.Function)) → any_names (o ∷ fs) ≡ slot_names o || any_names fs
  any_first None fs = refl
  any_first (Some f) fs = refl

  any_same : (ns : List ℕ) → any_names (picked turn ns new.functions) ≡ any_names (picked turn ns old.functions)
  any_same [] = refl
  any_same (n ∷ ns) =
      any_first (option_map turn (slice_index_or new.functions n None)) (picked turn ns new.functions)
      ∙ (λ at. alike_at slot_names names_alike n at || any_same ns at)
      ∙ sym (any_first (option_map turn (slice_index_or old.functions n None)) (picked turn ns old.functions))

  -- what numbers of locals could show in
  abbrev before_by : List ImportEntry → List ℕ → Bool → List SectionEntry
  before_by imports functions named =
      let n = part p old in
      (section_if TypeSection (map group_from n.groups) ++ (section_if ImportSection imports ++ section_if FunctionSection functions))
      ++ ((section_if TableSection (filter_map own_table n.tables)
      ++ (section_if MemorySection (filter_map own_memory n.memories)
      ++ (section_if TagSection (filter_map own_tag n.tags)
      ++ (section_if GlobalSection (filter_map own_global n.globals) ++ section_if ExportSection (map export_from (items_in n.exports))))))
      ++ (start_if n.start
      ++ (section_if ElementSection (map (entry_of_element (table_wide n.tables)) (items_in n.elements))
      ++ count_if (list_any (λ (x : grammar.Segment). is_passive x.mode) (items_in n.segments) || named) (length n.segments))))

  around_same : before_code (part p new) ≡ before_code (part p old)
  around_same = λ at. before_by (imports_same (items_in (part p old).imports) at) (types_same (p.listed Functions) at) (any_same (p.listed Functions) at)

  -- ---- in code

  module _ (a : Around) where
    -- the bytes of the body of a number's function
    abbrev pub bytes_at : ℕ → Option (List ℕ)
    bytes_at n = own_bytes a (option_map turn (slice_index_or new.functions n None))

    bytes_by : (ty : ℕ) (k : FunctionKind) (n : ℕ) → origin_import (own_origin locals k) ≡ Some n → own_bytes a (Some (turn (record { ty = ty; origin = numbered_origin locals k }))) ≡ None
    bytes_by ty (kinds.Import imported) n e = refl
    bytes_by ty (kinds.Local local) n e = absurd (none-some n e)
    bytes_by ty (kinds.Uninitialized other) n e = absurd (none-some n e)

    slot_bytes : (o : Option Function) (n : ℕ) → slot_import function_brought (option_map (own_function locals) o) ≡ Some n → own_bytes a (option_map turn (option_map (numbered_function locals) o)) ≡ None
    slot_bytes None n e = refl
    slot_bytes (Some f) n e = bytes_by (type_of f.kind) f.kind n e

    front_none : ImportsLink old → (i n : ℕ) → slice_get (brought_by old Functions p.imports) i ≡ Some n → bytes_at n ≡ None
    front_none link i n at =
        let b = is_imported old link p.imports i n at in
        let told : slot_import function_brought (option_map (own_function locals) (slice_index_or m.funcs.slots n None)) ≡ Some b.0 =
        sym (ap (λ (o : Option grammar.Function). slot_import function_brought o) (see_at (own_function locals) m.funcs.slots n)) ∙ b.1 in
        ap (λ (o : Option grammar.Function). own_bytes a (option_map turn o)) (see_at (numbered_function locals) m.funcs.slots n) ∙ slot_bytes (slice_index_or m.funcs.slots n None) b.0 told

    pub part_bodies : ImportsLink old → (order : InOrder old p) → bodies_due a (part p new) ≡ filter_map bytes_at (order.own Functions)
    part_bodies link order =
        picked_by (own_bytes a) turn new.functions (p.listed Functions) ∙ ap (λ (ns : List ℕ). filter_map bytes_at ns) (order.listed Functions tt)
        ∙ given_by bytes_at (brought_by old Functions p.imports) (order.own Functions) (front_none link)

    abbrev meant : BodyFacts → Option (List ℕ)
    meant f = meant_bytes locals m.funcs a p.renames p.brings f.function

    pub facts_bodies : (facts : List BodyFacts) → filter_map meant facts ≡ filter_map bytes_at (map (λ (f : BodyFacts). f.function) facts)
    facts_bodies [] = refl
    facts_bodies (f ∷ facts) =
        ap (λ (o : Option grammar.Function). cons_option (own_bytes a (option_map turn o)) (filter_map meant facts)) (sym (see_at (numbered_function locals) m.funcs.slots f.function))
        ∙ ap (λ (l : List (List ℕ)). cons_option (bytes_at f.function) l) (facts_bodies facts)

    module _ (features : WasmFeatures) (i : Indices) (facts : List BodyFacts) (serves : ServesCode i p m facts) where
      same_bodies : filter_map meant facts ≡ bodies_due a (part p new)
      same_bodies = facts_bodies facts ∙ ap (λ (ns : List ℕ). filter_map bytes_at ns) serves.order ∙ sym (part_bodies serves.items.linked serves.items.order)

      code_as : CodeIsSpelled → SpelledAs (code locals m.funcs i facts) (spelled features (code_if (bodies_due a (part p new))))
      code_as spelling =
          turned (code locals m.funcs i facts) (spelled features (code_if (filter_map meant facts))) (spelled features (code_if (bodies_due a (part p new))))
          (ap (λ (l : List (List ℕ)). spelled features (code_if l)) same_bodies)
          (spelling features a p.renames p.brings i serves.bodies locals m.funcs serves.places facts serves.known)

      -- ---- all sections

      abbrev bare : grammar.Module
      bare = without_places (part p new)

      all_same : StandardIsAround → standard_due (bodies_due a bare) (counts_data bare) bare ≡ before_code (part p old) ++ (code_if (bodies_due a (part p new)) ++ behind_code (part p old))
      all_same standard =
          standard.standard (bodies_due a bare) bare
          ∙ ap (λ (l : List SectionEntry). l ++ (code_if (bodies_due a bare) ++ behind_code (part p old))) (standard.unplaced (part p new) ∙ around_same)
          ∙ ap (λ (bodies : List (List ℕ)). before_code (part p old) ++ (code_if bodies ++ behind_code (part p old))) (bare_bodies a (part p new).functions)

      module _ (spelling : CodeIsSpelled) (parts : PartsAreSpelled) (standard : StandardIsAround) (types : Due) (named : Bool) (told : AreTold features p m types named) where
        abbrev all : Due
        all = all_due i m facts (serves.items.order.own Functions) types named

        abbrev sections : List SectionEntry
        sections = standard_due (bodies_due a bare) (counts_data bare) bare

        all_as : SpelledAs all (spelled features sections)
        all_as =
            let around = parts features (number_of i 0) p old serves.items types named told.groups told.segments in
            let front = due_before types (number_of i 0) old (serves.items.order.own Functions) named in
            let due = code locals m.funcs i facts in
            let back = segments (number_of i 0) old.segments in
            let bodies = code_if (bodies_due a (part p new)) in
            turned (front ++ (due ++ back)) (spelled features (before_code (part p old) ++ (bodies ++ behind_code (part p old)))) (spelled features sections)
            (ap (λ (l : List SectionEntry). spelled features l) (sym (all_same standard)))
            (joined features front (due ++ back) (before_code (part p old)) (bodies ++ behind_code (part p old)) around.before
            (joined features due back bodies (behind_code (part p old)) (code_as spelling) around.behind))

        -- with what stands in front and behind
        whole_as : FilesAreSpelled → (before behind : List SectionEntry) (first last : Due) → SpelledAs first (magic ++ spelled features before) → SpelledAs last (spelled features behind)
            → SpelledAs (first ++ (all ++ last)) (file_bytes features (tt, before ++ (sections ++ behind)))
        whole_as files before behind first last f g =
            let rest = sections ++ behind in
            turned (first ++ (all ++ last)) ((magic ++ spelled features before) ++ spelled features rest) (file_bytes features (tt, before ++ rest))
            (append_assoc magic (spelled features before) (spelled features rest)
            ∙ ap (λ (l : List ℕ). magic ++ l) (sym (spelled_join features before rest)) ∙ sym (files features (before ++ rest)))
            (both first (all ++ last) (magic ++ spelled features before) (spelled features rest) f (joined features all last sections behind all_as g))

pub apart : CodeIsApart
apart = record { around = around_same; segments = λ p m. any_same p m (p.listed Functions); unplaced = λ a n. bare_bodies a n.functions }

pub part_code_spelled : CodeIsSpelled → PartCodeIsSpelled
part_code_spelled spelling features a i p m facts serves = code_as p m a features i facts serves spelling

pub parts_written : CodeIsSpelled → PartsAreSpelled → StandardIsAround → PartsAreWritten
parts_written spelling parts standard features a i p m facts serves types named told = all_as p m a features i facts serves spelling parts standard types named told

pub parts_canonical : CodeIsSpelled → PartsAreSpelled → StandardIsAround → FilesAreSpelled → PartsAreCanonical
parts_canonical spelling parts standard files features i p m facts serves types named told customs first last f g =
    let n = record (part p (numbered m)) { customs = customs } in
    let k = without_places n in
    whole_as p m (around_bodies features (counts_data k) k) features i facts serves spelling parts standard types named told files (map custom_due (first_customs n)) (map custom_due (last_customs n)) first last
    f g
