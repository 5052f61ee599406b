-- Lemmas: custom sections that are written of a file don't show places, and are told by what the plan lists.
use Rattle.std.specs.Prelude.{ℕ, suc, ◌≡◌, ◌==◌, Bool, true, not, List, [], ◌∷◌, ◌++◌, map, filter, Option, Some, None, slice_index_or, refl, if◌then◌else◌}
use Rattle.std.specs.List.{list_any, range_with_len}
use Rattle.std.proofs.Common.{ap, ◌∙◌}
use Rattle.walrus_forms.specs.declared.value.ValType.{ValType}
use Rattle.walrus_forms.specs.Renaming.{at, renamed_value}
use Rattle.wasm_features.specs.declared.WasmFeatures.{WasmFeatures}
use Rattle.wasm_formats.specs.declared.fault.Space.{Space as FileSpace}
use Rattle.wasm_formats.specs.declared.fault.Space.TheVariants as spaces
use Rattle.wasm_operators.specs.Items.{Types, Functions, Tables, Memories, Tags, Globals, ElementSegments, DataSegments}
use Rattle.wasm_grammar.specs.Modules.{Body, Custom, Function, Imported, Module, Origin, Own}
use Rattle.wasm_body_grammar.specs.Codes.{param_count}
use Rattle.wasm_body_grammar.specs.Rules.{Around}
use Rattle.wasm_name_payloads.specs.Names.{AnItem, ALocal, TheModule, section_name}
use Rattle.wasm_name_payloads.specs.Producers.{processed, producers_of, section_name as producers_name}
use Rattle.wasm_name_payloads.specs.Written.{NameMap, Names, payload_bytes, producers_bytes}
use Rattle.wasm_normal_form.specs.Locals.{Key}
use Rattle.wasm_ruled_modules.specs.Rules.{around_bodies}
use Rattle.wasm_run_names.specs.Picks.{block_pick}
use Rattle.wasm_module_bytes.specs.Bytes.{body_unplaced, origin_unplaced, slot_unplaced, without_places}
use Rattle.wasm_merged_modules.specs.Merged.{ids_of}
use Rattle.wasm_part.specs.Part.{Plan}
use Rattle.wasm_canonical.specs.Canonical.{is_linking}
use Rattle.wasm_canonical.specs.Due.{items_in}
use Rattle.wasm_rewritten.specs.Customs.{body_names, customs_written, function_if, listed_in, local_names, name_read, names_from, names_kept, origin_names, section_if, section_of, slot_names, stays}
use Rattle.wasm_rewriting_laws.specs.Told.{AreAlike}
use Rattle.wasm_rewriting_laws.proofs.Names.{reads_same}
use Rattle.wasm_rewriting_laws.proofs.Placeless.{around_stays, at_slot}
use Rattle.wasm_rewriting_laws.proofs.Texts.{keys_by, named_stay}

module _ (file : Module) (a : Around) where
  -- of a body the names of the locals that operators name
  abbrev names_by : ℕ → (ℕ → Option (List ℕ)) → List ValType → List ℕ → NameMap
  names_by params name tys named =
      names_from (λ n. if list_any (λ m. m == n) named then name n else None) 0 (range_with_len 0 params ++ map (λ (k : Key). k.1) (keys_by params (map (renamed_value (at (ids_of file.groups))) tys) named))

  body_stays : (params : ℕ) (name : ℕ → Option (List ℕ)) (x : Body) → body_names (without_places file) a params name (body_unplaced x) ≡ body_names file a params name x
  body_stays params name x = ap (names_by params name x.locals) (named_stay (block_pick a) x.operators)

  origin_stays : (params : ℕ) (name : ℕ → Option (List ℕ)) (o : Origin Body) → origin_names (without_places file) a params name (origin_unplaced o) ≡ origin_names file a params name o
  origin_stays params name (Imported n) = refl
  origin_stays params name (Own x) = body_stays params name x

  slot_stays : (f : ℕ) (o : Option Function) → slot_names (without_places file) a f (slot_unplaced o) ≡ slot_names file a f o
  slot_stays f None = refl
  slot_stays f (Some g) =
      let params = param_count a.filled g.ty in
      ap (λ (name : ℕ → Option (List ℕ)). origin_names (without_places file) a params name (origin_unplaced g.origin)) (λ i n. reads_same file (ALocal f n) i)
      ∙ origin_stays params (λ n. name_read file (ALocal f n)) g.origin

module _ (features : WasmFeatures) (file : Module) where
  locals_stay : (k : ℕ) (fs : List ℕ) → local_names features (without_places file) k fs ≡ local_names features file k fs
  locals_stay k [] = refl
  locals_stay k (f ∷ fs) =
      let one : slot_names (without_places file) (around_bodies features true (without_places file)) f (slice_index_or (map slot_unplaced file.functions) f None)
      ≡ slot_names file (around_bodies features true file) f (slice_index_or file.functions f None) =
      ap (λ (a : Around). slot_names (without_places file) a f (slice_index_or (map slot_unplaced file.functions) f None)) (around_stays features true file)
      ∙ ap (λ (o : Option Function). slot_names (without_places file) (around_bodies features true file) f o) (at_slot file.functions f)
      ∙ slot_stays file (around_bodies features true file) f (slice_index_or file.functions f None) in
      let rest = locals_stay (suc k) fs in
      λ i. function_if k (one i) ++ rest i

  names_stay : (p : Plan) → names_kept features (without_places file) p ≡ names_kept features file p
  names_stay p =
      let own = reads_same file TheModule in
      let locals = locals_stay 0 (p.listed Functions) in
      λ i. record {
        own = own i;
        items = λ space. names_from (λ n. reads_same file (AnItem (record { space = space; number = n })) i) 0 (listed_in p space);
        locals = locals i;
      }

  -- the sections with these names
  abbrev sections_with : Bool → Bool → Names → List Custom
  sections_with names producers kept =
      filter is_linking (filter stays (items_in file.customs))
      ++ (section_if names (section_of section_name (payload_bytes kept))
      ++ (section_if producers (section_of producers_name (producers_bytes (processed (producers_of file)))) ++ filter (λ c. not (is_linking c)) (filter stays (items_in file.customs))))

  pub customs_stay : (names producers : Bool) (p : Plan) → customs_written names producers features (without_places file) p ≡ customs_written names producers features file p
  customs_stay names producers p = ap (sections_with names producers) (names_stay p)

  module _ (p q : Plan) (alike : AreAlike p q) where
    listed_so : (space : FileSpace) → listed_in p space ≡ listed_in q space
    listed_so spaces.«Type» = alike.listed Types tt
    listed_so spaces.Function = alike.listed Functions tt
    listed_so spaces.Table = alike.listed Tables tt
    listed_so spaces.Memory = alike.listed Memories tt
    listed_so spaces.Tag = alike.listed Tags tt
    listed_so spaces.Global = alike.listed Globals tt
    listed_so spaces.Element = alike.listed ElementSegments tt
    listed_so spaces.Data = alike.listed DataSegments tt
    listed_so spaces.Local = refl
    listed_so spaces.Label = refl

    names_so : names_kept features file p ≡ names_kept features file q
    names_so =
        let locals = ap (λ (l : List ℕ). local_names features file 0 l) (alike.listed Functions tt) in
        λ i. record {
          own = name_read file TheModule;
          items = λ space. names_from (λ n. name_read file (AnItem (record { space = space; number = n }))) 0 (listed_so space i);
          locals = locals i;
        }

    pub customs_so : (names producers : Bool) → customs_written names producers features file p ≡ customs_written names producers features file q
    customs_so names producers = ap (sections_with names producers) names_so
