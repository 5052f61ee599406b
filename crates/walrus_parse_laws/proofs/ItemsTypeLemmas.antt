-- Lemmas: types of the file live in a module that was read.
use Rattle.std.specs.Prelude.{ℕ, ◌≡◌, ◌<◌, true, false, List, [], ◌∷◌, length, map, Option, Some, None, IsSome, slice_get, slice_index_or, refl}
use Rattle.std.specs.List.{AllByRecursion}
use Rattle.std.specs.Option.{is_some, option_map, unwrap_or}
use Rattle.std.proofs.Common.{ap, sym, ◌∙◌, subst}
use Rattle.walrus_config.specs.declared.config.ModuleConfig.{ModuleConfig}
use Rattle.walrus_named_bodies.specs.walrus_file_bodies.Read.{steps_grow}
use Rattle.walrus_walks.specs.walrus_forms.Kinds.{Kind}
use Rattle.walrus_walks.specs.walrus_forms.Records.{TypeGroup}
use Rattle.walrus_walks.specs.walrus_forms.Renaming.{at, renamed_kind}
use Rattle.walrus_function_types.specs.Growth.{FoundTypesStay, TablesGrowOn}
use Rattle.walrus_parse_laws.specs.FilledGroups.{AreDeclared, ReadTypesAreDeclared}
use Rattle.walrus_named_bodies.specs.walrus_file_bodies.walrus_items_into.walrus_module_bodies.walrus_body_trees.walrus_meaning.walrus_body_writer.walrus_pairing.walrus_index_maps.Maps.{Ids}
use Rattle.walrus_named_bodies.specs.walrus_item_names.Holder.{Holder}
use Rattle.walrus_named_bodies.specs.walrus_item_names.Names.{bare_type}
use Rattle.walrus_named_bodies.specs.walrus_file_bodies.walrus_items_into.Numbers.{types_in}
use Rattle.walrus_named_bodies.specs.walrus_file_bodies.walrus_items_into.walrus_tables_into.walrus_sections_into.walrus_known_sections.State.{state_of}
use Rattle.walrus_named_bodies.specs.walrus_file_bodies.walrus_items_into.walrus_tables_into.walrus_sections_into.walrus_known_sections.Types.{kinds_in}
use Rattle.walrus_named_bodies.specs.walrus_item_names.walrus_module.Items.{written, written_type}
use Rattle.walrus_named_bodies.specs.walrus_item_names.walrus_module.declared.module.Module.{Module as Whole}
use Rattle.walrus_named_bodies.specs.Parsed.{IsReadAs, read_features}
use Rattle.walrus_walks.specs.walrus_types.Items.{Item}
use Rattle.walrus_walks.specs.walrus_types.Table.{Table, type_at}
use Rattle.walrus_named_bodies.specs.walrus_file_bodies.walrus_items_into.walrus_functions_into.walrus_types_into.Into.{NewTypesStand, TypesNameBelow}
use Rattle.walrus_parse_laws.proofs.ItemsSlotLemmas.{seen_at}
use Rattle.walrus_parse_laws.proofs.ListLemmas.{AllOf, all_at, all_join, get_some, some_is}

-- ---- no type of the file is an entry type

all_rec : {A : Type 0} (P : A → Type 0) (xs : List A) → AllByRecursion P xs → AllOf P xs
all_rec P [] h = tt
all_rec P (x ∷ xs) h = (h.0, all_rec P xs h.1)

abbrev IsOpen : Kind → Type 0
IsOpen k = k.entry ≡ false

declared : (groups : List TypeGroup) → AreDeclared groups → AllOf IsOpen (kinds_in groups)
declared [] h = tt
declared (g ∷ groups) h = all_join IsOpen g.kinds (kinds_in groups) (all_rec IsOpen g.kinds h.0) (declared groups h.1)

-- ---- a type under another name lives

open_some : (y : Item) → y.kind.entry ≡ false → is_some (written (Some y)) ≡ true
open_some y e = rw e refl

written_some : (o : Option Item) (x : Item) → option_map bare_type o ≡ Some (bare_type x) → x.kind.entry ≡ false → is_some (written o) ≡ true
written_some None x e plain = absurd cc
written_some (Some y) x e plain = open_some y (ap (λ (z : Item). z.kind.entry) (some_is (bare_type y) (bare_type x) e) ∙ plain)

bare_there : (ts us : List (Option Item)) (id : ℕ) (x : Item) → map (option_map bare_type) ts ≡ map (option_map bare_type) us → slice_index_or us id None ≡ Some x
    → option_map bare_type (slice_index_or ts id None) ≡ Some (bare_type x)
bare_there ts us id x same at =
    sym (seen_at bare_type ts id) ∙ ap (λ (l : List (Option Item)). slice_index_or l id None) same ∙ seen_at bare_type us id ∙ ap (option_map bare_type) at

pub there_too : (ts us : List (Option Item)) (id : ℕ) (x : Item) → map (option_map bare_type) ts ≡ map (option_map bare_type) us → slice_index_or us id None ≡ Some x → x.kind.entry ≡ false
    → is_some (written (slice_index_or ts id None)) ≡ true
there_too ts us id x same at plain = written_some (slice_index_or ts id None) x (bare_there ts us id x same at) plain

-- ---- the types of the file

-- the type of an index of the file stands under its id, but for its name
pub record StandsAt (types : Table) (ids : List ℕ) (kinds : List Kind) (n id : ℕ) : Type 0 where
  pub kind : Kind
  pub kind_is : slice_get kinds n ≡ Some kind
  pub slot : option_map bare_type (type_at types id) ≡ Some (bare_type (record { id = id; kind = renamed_kind (at ids) kind; name = None }))

pub type_stands : {B : Type 0} → NewTypesStand → TypesNameBelow → FoundTypesStay → TablesGrowOn
    → (config : ModuleConfig) (bytes : List ℕ) (m : Whole B) (found : Ids) → (is : IsReadAs config bytes m found) → (n : ℕ) → n < length (kinds_in is.1.sections.types)
    → (found.types ≡ (types_in is.1.sections).ids) → StandsAt m.types (types_in is.1.sections).ids (kinds_in is.1.sections.types) n (unwrap_or (slice_get found.types n) n)
type_stands stand below stay on config bytes m found is n lt same =
    let h = is.1 in
    let s = h.sections in
    let features = read_features config in
    let kind = get_some (kinds_in s.types) n lt in
    let stood = (stand s.types (below features bytes (state_of s) h.reads.sections)).stand n kind.0 kind.1 in
    let x : Item = record { id = stood.0; kind = renamed_kind (at (types_in s).ids) kind.0; name = None } in
    let grown = steps_grow on h.file features _ _ h.bodied h.bodies_are in
    let filled : type_at h.filled.types stood.0 ≡ Some x = ap (λ (t : Table). type_at t stood.0) h.are_filled.types ∙ stood.2 in
    let bodied : type_at h.bodied.types stood.0 ≡ Some x = (stay h.filled.types h.bodied.types grown).live stood.0 x filled in
    let bare : map (option_map bare_type) m.types.types ≡ map (option_map bare_type) h.bodied.types.types = ap (λ (a : Holder). a.types.types) h.names.same in
    let slot = bare_there m.types.types h.bodied.types.types stood.0 x bare bodied in
    let id : unwrap_or (slice_get found.types n) n ≡ stood.0 = ap (λ (l : List ℕ). unwrap_or (slice_get l n) n) same ∙ ap (λ (o : Option ℕ). unwrap_or o n) stood.1 in
    subst (StandsAt m.types (types_in s).ids (kinds_in s.types) n) (sym id) (record { kind = kind.0; kind_is = kind.1; slot = slot })

pub types_live : {B : Type 0} → NewTypesStand → TypesNameBelow → ReadTypesAreDeclared → FoundTypesStay → TablesGrowOn
    → (config : ModuleConfig) (bytes : List ℕ) (m : Whole B) (found : Ids) → (is : IsReadAs config bytes m found) → (n : ℕ) → n < length (kinds_in is.1.sections.types)
    → (found.types ≡ (types_in is.1.sections).ids) → IsSome (written_type m.types (unwrap_or (slice_get found.types n) n))
types_live stand below declares stay on config bytes m found is n lt same =
    let s = is.1.sections in
    let t = type_stands stand below stay on config bytes m found is n lt same in
    let id = unwrap_or (slice_get found.types n) n in
    let plain : t.kind.entry ≡ false = all_at IsOpen (kinds_in s.types) n t.kind (declared s.types (declares (read_features config) bytes (state_of s) is.1.reads.sections)) t.kind_is in
    written_some (type_at m.types id) (record { id = id; kind = renamed_kind (at (types_in s).ids) t.kind; name = None }) t.slot plain
