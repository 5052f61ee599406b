-- Lemmas: what the types of a file name lives in a module that was read.
use Rattle.std.specs.Prelude.{ℕ, ◌≡◌, ◌<◌, List, [], ◌∷◌, length, map, Option, Some, None, slice_get, refl}
use Rattle.std.specs.Option.{option_map, unwrap_or}
use Rattle.std.proofs.Common.{ap, sym, ◌∙◌, inl, inr, subst, arith}
use Rattle.std.proofs.lemmas.Option.{get_or_from_slice_get}
use Rattle.walrus_named_bodies.specs.walrus_file_bodies.walrus_items_into.walrus_module_env.walrus_handler_types.walrus_body_steps.walrus_body_nesting.wasm_formats.declared.fault.Space.TheVariants as spaces
use Rattle.wasm_import_links.specs.wasm_ruled_modules.Rules.{ReadModulesAreRuled}
use Rattle.walrus_named_bodies.specs.walrus_file_bodies.Laws.{BodiesReadFiles}
use Rattle.walrus_forms.specs.Kinds.{Kind, kind_names}
use Rattle.walrus_forms.specs.Renaming.{at, renamed_kind}
use Rattle.walrus_forms.proofs.RenamingLemmas.{kinds-names}
use Rattle.walrus_function_types.specs.Growth.{FoundTypesStay, TablesGrowOn}
use Rattle.walrus_parse_laws.specs.FilledGroups.{ReadTypesAreDeclared}
use Rattle.walrus_named_bodies.specs.walrus_file_bodies.walrus_items_into.walrus_module_bodies.walrus_body_trees.walrus_meaning.walrus_linked.walrus_body_writer.walrus_pairing.walrus_index_maps.Maps.{Ids}
use Rattle.walrus_named_bodies.specs.walrus_item_names.Names.{bare_type}
use Rattle.walrus_named_bodies.specs.walrus_file_bodies.walrus_items_into.Numbers.{types_in}
use Rattle.walrus_named_bodies.specs.walrus_file_bodies.walrus_items_into.walrus_tables_into.walrus_sections_into.walrus_known_sections.State.{state_of}
use Rattle.walrus_named_bodies.specs.walrus_file_bodies.walrus_items_into.walrus_tables_into.walrus_sections_into.walrus_known_sections.Types.{kinds_in}
use Rattle.walrus_named_bodies.specs.walrus_file_bodies.walrus_items_into.walrus_module_bodies.walrus_body_trees.walrus_meaning.walrus_linked.Names.{named_by, names, type_names}
use Rattle.walrus_body_laws.specs.walrus_marks.Named.{items_of}
use Rattle.walrus_body_laws.specs.walrus_marks.walrus_walks.Events.{NamesType}
use Rattle.walrus_named_bodies.specs.walrus_file_bodies.walrus_items_into.walrus_module_bodies.walrus_body_trees.walrus_meaning.walrus_linked.walrus_module.Items.{Lives, LivesIn}
use Rattle.walrus_named_bodies.specs.walrus_file_bodies.walrus_items_into.walrus_module_bodies.walrus_body_trees.walrus_meaning.walrus_linked.walrus_module.Parts.{Module, parts}
use Rattle.walrus_named_bodies.specs.Parsed.{read_features}
use Rattle.walrus_parse_laws.specs.Items.{ReadModulesHaveItems, file_of}
use Rattle.walrus_parse_laws.proofs.ListLemmas.{AllOf, all_at, all_contains, get_some, some_is}
use Rattle.walrus_parse_laws.proofs.ItemsTypeLemmas.{type_stands, types_live}
use Rattle.walrus_named_bodies.specs.walrus_file_bodies.walrus_items_into.walrus_tables_into.walrus_sections.walrus_roots.Items.{item}
use Rattle.walrus_body_laws.specs.walrus_marks.walrus_instr.walrus_types.Items.{Item as TypeItem}
use Rattle.walrus_body_laws.specs.walrus_marks.walrus_instr.walrus_types.Table.{type_at}
use Rattle.walrus_named_bodies.specs.walrus_file_bodies.walrus_items_into.walrus_functions_into.walrus_types_into.Into.{NewTypesStand, TypesNameBelow}
use Rattle.walrus_parse_laws.specs.Types.{NamesOfReadTypesLive}
use Rattle.walrus_parse_laws.proofs.BodiesRuleLemmas.{NamesBelow, groups_below}

types_named : (m : Module) (r : ℕ → ℕ) (end : ℕ) → ((n : ℕ) → n < end → LivesIn m spaces.«Type» (r n)) → (ns : List ℕ) → NamesBelow end ns
    → AllOf (Lives m) (items_of (map (λ name. NamesType name) (map r ns)))
types_named m r end lives [] h = tt
types_named m r end lives (n ∷ ns) h = (lives n (h n (inl refl)), types_named m r end lives ns (λ k i. h k (inr i)))

same_kind : (y x : TypeItem) → bare_type y ≡ bare_type x → y.kind ≡ x.kind
same_kind y x e = ap (λ (z : TypeItem). z.kind) e

-- the type of a slot, whose kind is known but for names
told : (m : Module) (o : Option TypeItem) (x : TypeItem) (ns : List ℕ) → option_map bare_type o ≡ Some (bare_type x) → kind_names x.kind ≡ ns → AllOf (Lives m) (items_of (map (λ name. NamesType name) ns))
    → AllOf (Lives m) (items_of (named_by type_names o))
told m None x ns e is h = absurd cc
told m (Some y) x ns e is h =
    let kind : y.kind ≡ x.kind = same_kind y x (some_is (bare_type y) (bare_type x) e) in
    subst (λ (l : List ℕ). AllOf (Lives m) (items_of (map (λ name. NamesType name) l))) (sym (ap kind_names kind ∙ is)) h

pub names_of_types : {B : Type 0} → ReadModulesHaveItems B → BodiesReadFiles B → ReadModulesAreRuled → NewTypesStand → TypesNameBelow → ReadTypesAreDeclared → FoundTypesStay → TablesGrowOn → NamesOfReadTypesLive B
names_of_types {B} items bodies ruled stand below declares stay on config bytes m found small is n y lt has =
    let h = is.1 in
    let s = h.sections in
    let features = read_features config in
    let ids = (types_in s).ids in
    let all = items config bytes m found small is in
    let f = file_of config bytes m found is in
    let rules = ruled features bytes f all.0 in
    let read = bodies features bytes s m.start h.numbers h.filled h.file [] h.bodied h.reads.short small h.reads.sections h.are_filled h.is_file h.bodies_are in
    let same : found.types ≡ ids = ap (λ (j : Ids). j.types) (h.found_are ∙ read.3) ∙ ap (λ (j : Ids). j.types) h.are_filled.numbers in
    let stands = stand s.types (below features bytes (state_of s) h.reads.sections) in
    let many : length found.types ≡ length (kinds_in s.types) = ap length same ∙ stands.sized in
    let t = type_stands stand below stay on config bytes m found is n (subst (λ (k : ℕ). n < k) many lt) same in
    let id = unwrap_or (slice_get found.types n) n in
    let x : TypeItem = record { id = id; kind = renamed_kind (at ids) t.kind; name = None } in
    let lives = λ (k : ℕ) (less : k < length (kinds_in s.types)).
    let other = get_some (kinds_in s.types) k less in
    let there = stands.stand k other.0 other.1 in
    let by : unwrap_or (slice_get found.types k) k ≡ at ids k =
    ap (λ (l : List ℕ). unwrap_or (slice_get l k) k) same ∙ ap (λ (o : Option ℕ). unwrap_or o k) there.1 ∙ sym (get_or_from_slice_get ids k there.0 0 there.1) in
    subst (LivesIn (parts m) spaces.«Type») by (types_live stand below declares stay on config bytes m found is k less same) in
    let named = types_named (parts m) (at ids) (length (kinds_in s.types)) lives (kind_names t.kind)
    (all_at (λ (k : Kind). NamesBelow (length (kinds_in s.types)) (kind_names k)) (kinds_in s.types) n t.kind (groups_below s.types 0 (length (kinds_in s.types)) (omega arith) rules.1.groups) t.kind_is) in
    all_contains (Lives (parts m)) (names (parts m) (item spaces.«Type» id)) y
    (told (parts m) (type_at m.types id) x (map (at ids) (kind_names t.kind)) t.slot (kinds-names (at ids) t.kind) named) has
