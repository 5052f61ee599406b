-- Lemmas: the ids of the types of a module that was read, in the order of its groups.
use Rattle.std.specs.Prelude.{ℕ, zero, suc, ◌≡◌, ◌+◌, ◌<◌, Bool, true, false, List, [], ◌∷◌, ◌++◌, length, map, filter, Option, Some, None, MatchOption, slice_index_or, refl, if◌then◌else◌}
use Rattle.std.specs.List.{AllByRecursion, flat_map, range_with_len}
use Rattle.std.specs.Option.{option_map}
use Rattle.std.proofs.Common.{ap, sym, subst, ◌∙◌, arith}
use Rattle.std.proofs.lemmas.List.{length-append, append_assoc, append-nil}
use Rattle.walrus_arena.specs.Arena.{entries_from}
use Rattle.walrus_named_bodies.specs.walrus_file_bodies.walrus_items_into.walrus_module_env.walrus_handler_types.walrus_body_steps.wasm_body_grammar.wasm_grammar.walrus_forms.Kinds.{Kind, entry_kind, function_kind}
use Rattle.walrus_named_bodies.specs.walrus_file_bodies.walrus_items_into.walrus_module_env.walrus_handler_types.walrus_body_steps.wasm_body_grammar.wasm_grammar.walrus_forms.Records.{TypeGroup}
use Rattle.walrus_named_bodies.specs.walrus_file_bodies.walrus_items_into.walrus_module_env.walrus_handler_types.walrus_body_steps.wasm_body_grammar.wasm_grammar.walrus_forms.Renaming.{at, renamed_kind}
use Rattle.walrus_named_bodies.specs.walrus_file_bodies.walrus_items_into.walrus_module_env.walrus_handler_types.walrus_body_steps.wasm_body_grammar.wasm_grammar.walrus_forms.declared.value.ValType.{ValType}
use Rattle.walrus_body_laws.specs.walrus_pairing.walrus_instr.BlockTypes.{Makes, picked, short_form}
use Rattle.walrus_body_laws.specs.walrus_pairing.walrus_instr.declared.seq.InstrSeqType.{InstrSeqType}
use Rattle.walrus_body_laws.specs.walrus_pairing.walrus_instr.declared.seq.InstrSeqType.TheVariants.{MultiValue}
use Rattle.walrus_named_bodies.specs.walrus_item_names.walrus_module.walrus_types.Groups.{group_slot, new_items}
use Rattle.walrus_named_bodies.specs.walrus_file_bodies.walrus_items_into.walrus_module_env.walrus_handler_types.walrus_tree.walrus_walks.walrus_types.Items.{Item, Group}
use Rattle.walrus_named_bodies.specs.walrus_item_names.walrus_module.walrus_types.Parsing.{AreBelow, Parsed, added, known_ids, merged, parsed, parsed_group, unparsed, with_group}
use Rattle.walrus_named_bodies.specs.walrus_item_names.walrus_module.walrus_types.Table.{Adds, Merges, Table, equal_type, next_id, type_at}
use Rattle.walrus_parse_laws.specs.FilledGroups.{AreDeclared, GroupsMean, kept}
use Rattle.walrus_named_bodies.specs.walrus_file_bodies.walrus_items_into.walrus_module_env.walrus_handler_types.Giving.{Finds, FindsIf, Gives, GivesAt, block_results, caught}
use Rattle.walrus_function_types.specs.Growth.{Grows}
use Rattle.walrus_named_bodies.specs.walrus_file_bodies.walrus_items_into.walrus_module_env.walrus_handler_types.walrus_body_steps.wasm_body_grammar.wasm_formats.wasm_features.declared.WasmFeatures.{WasmFeatures}
use Rattle.walrus_named_bodies.specs.walrus_file_bodies.walrus_items_into.walrus_module_env.walrus_handler_types.walrus_handler_laws.Handlers.{told_by, tree_ids}
use Rattle.walrus_named_bodies.specs.walrus_file_bodies.walrus_items_into.walrus_functions_into.declared.bodies.FunctionBody.{FunctionBody}
use Rattle.walrus_named_bodies.specs.walrus_file_bodies.walrus_items_into.walrus_module_env.Env.{tag_type_at}
use Rattle.walrus_named_bodies.specs.walrus_file_bodies.walrus_module_bodies.Steps.{State, Steps}
use Rattle.walrus_named_bodies.specs.walrus_file_bodies.walrus_module_bodies.declared.file.FileEnv.{FileEnv}
use Rattle.walrus_named_bodies.specs.walrus_file_bodies.walrus_items_into.walrus_module_env.walrus_handler_types.walrus_handler_laws.declared.handler.Handler.{Handler}
use Rattle.walrus_named_bodies.specs.walrus_file_bodies.walrus_items_into.walrus_module_bodies.walrus_body_trees.walrus_meaning.walrus_module.walrus_builder.Built.{Seq, contents, seq_of}
use Rattle.walrus_named_bodies.specs.walrus_item_names.Names.{bare_type}
use Rattle.walrus_named_bodies.specs.walrus_file_bodies.walrus_items_into.walrus_module_bodies.walrus_body_trees.walrus_meaning.Meaning.{group_kinds, has_kinds, plain_kind, type_ids}
use Rattle.walrus_named_bodies.specs.walrus_file_bodies.walrus_items_into.walrus_tables_into.walrus_sections_into.walrus_known_sections.Types.{kinds_in}
use Rattle.walrus_named_bodies.specs.walrus_file_bodies.walrus_items_into.walrus_functions_into.walrus_types_into.Into.{no_types}
use Rattle.walrus_named_bodies.specs.walrus_file_bodies.walrus_items_into.walrus_tables_into.walrus_sections_into.Numbers.{upto}

-- ---- groups that are added stand behind those that there were

abbrev pub MoreGroups : Table → Table → Type 0
MoreGroups old new = (more : List (Option Group)) × (new.groups ≡ old.groups ++ more)

no_more : (t u : Table) → u ≡ t → MoreGroups t u
no_more t u e = ([], ap (λ (x : Table). x.groups) e ∙ sym (append-nil t.groups))

more_on : (t u v : Table) → MoreGroups t u → MoreGroups u v → MoreGroups t v
more_on t u v h k = (h.0 ++ k.0, k.1 ∙ ap (λ (l : List (Option Group)). l ++ k.0) h.1 ∙ append_assoc t.groups h.0 k.0)

more_merged : (kind : Kind) (id : ℕ) (t u : Table) → Merges kind id t u → MoreGroups t u
more_merged kind id t u m = by (equal_type kind t) m
  where
    by : (o : Option ℕ) → MatchOption o (Adds kind id t u) (λ found. (id ≡ found) × (u ≡ t)) → MoreGroups t u
    by None adds = (Some (record { explicit = false; types = id ∷ [] }) ∷ [], adds.groups)
    by (Some found) e = no_more t u e.1

more_made : (ps rs : List ValType) (ty : InstrSeqType) (t u : Table) → Makes ps rs ty t u → MoreGroups t u
more_made ps rs ty t u makes = by (short_form ps rs) makes
  where
    by : (o : Option InstrSeqType) → MatchOption o ((id : ℕ) × (ty ≡ MultiValue id) × Merges (function_kind ps rs) id t u) (λ short. (ty ≡ short) × (u ≡ t)) → MoreGroups t u
    by None m = more_merged (function_kind ps rs) m.0 t u m.2
    by (Some short) e = no_more t u e.1

more_found : (ps rs : List ValType) (ty : InstrSeqType) (t u : Table) → Finds ps rs t ty u → MoreGroups t u
more_found ps rs ty t u f = by (picked ps rs t) f
  where
    by : (o : Option InstrSeqType) → MatchOption o (Makes ps rs ty t u) (λ found. (ty ≡ found) × (u ≡ t)) → MoreGroups t u
    by None makes = more_made ps rs ty t u makes
    by (Some found) e = no_more t u e.1

more_if : (o p : Option (List ValType)) (was ty : InstrSeqType) (t u : Table) → FindsIf o p was t ty u → MoreGroups t u
more_if (Some ps) (Some rs) was ty t u f = more_found ps rs ty t u f
more_if (Some ps) None was ty t u f = no_more t u f.1
more_if None (Some rs) was ty t u f = no_more t u f.1
more_if None None was ty t u f = no_more t u f.1

more_at : (k : ℕ) (x : Option Handler) (b c : List Seq) (t u : Table) → GivesAt k x b t c u → MoreGroups t u
more_at k None b c t u (is, kept) = no_more t u kept
more_at k (Some h) b c t u (y, found, ty, gives, is) = more_if (caught t h.tag_type) (block_results t h.block) y.ty ty t u gives

more_given : (told : ℕ → Option Handler) (ks : List ℕ) (b c : List Seq) (t v : Table) → Gives told ks b t c v → MoreGroups t v
more_given told [] b c t v (is, kept) = no_more t v kept
more_given told (k ∷ ks) b c t v (mid, u, one, rest) = more_on t u v (more_at k (told k) b mid t u one) (more_given told ks mid c u v rest)

-- those that bodies add
pub more_stepped : (file : FileEnv) (features : WasmFeatures) (bs : List FunctionBody) (old new : State) → Steps file features bs old new → MoreGroups old.types new.types
more_stepped file features [] old new e = no_more old.types new.types (ap (λ (s : State). s.types) e)
more_stepped file features (b ∷ bs) old new (mid, s, rest) =
    let g = s.handled in
    let js = tree_ids g.tree in
    let given = more_given (told_by (tag_type_at g.env.tags.now) g.own js) js (map seq_of g.own) (contents s.body.builder.builder) s.mid mid.types g.given in
    more_on old.types mid.types new.types (more_on old.types s.mid mid.types (more_merged (entry_kind s.results) s.entry old.types s.mid s.entered) given) (more_stepped file features bs mid new rest)

-- ---- the types of a new table have the ids 0, 1 and on, in the order of its groups

upto_range : (n count : ℕ) → upto n ++ range_with_len n count ≡ upto (n + count)
upto_range n zero = append-nil (upto n) ∙ ap upto (let z : n ≡ n + 0 = omega arith in z)
upto_range n (suc count) =
    ap (λ (m : ℕ). upto n ++ n ∷ range_with_len m count) (let z : n + 1 ≡ suc n = omega arith in z)
    ∙ sym (append_assoc (upto n) (n ∷ []) (range_with_len (suc n) count))
    ∙ upto_range (suc n) count ∙ ap upto (let z : suc n + count ≡ n + suc count = omega arith in z)

abbrev members : List (Option Group) → List ℕ
members [] = []
members (None ∷ gs) = members gs
members (Some g ∷ gs) = g.types ++ members gs

members_both : (a b : List (Option Group)) → members (a ++ b) ≡ members a ++ members b
members_both [] b = refl
members_both (None ∷ a) b = members_both a b
members_both (Some g ∷ a) b = ap (λ (l : List ℕ). g.types ++ l) (members_both a b) ∙ sym (append_assoc g.types (members a) (members b))

slot_members : (explicit : Bool) (ids : List ℕ) → members (group_slot explicit ids) ≡ ids
slot_members explicit [] = refl
slot_members explicit (id ∷ ids) = append-nil (id ∷ ids)

-- no entry type, which isn't written
abbrev IsPlain : Option Item → Type 0
IsPlain None = ⊥
IsPlain (Some x) = x.kind.entry ≡ false

abbrev ArePlain : List Kind → Type 0
ArePlain = AllByRecursion (λ (k : Kind). k.entry ≡ false)

all_behind : (xs ys : List (Option Item)) → AllByRecursion IsPlain xs → AllByRecursion IsPlain ys → AllByRecursion IsPlain (xs ++ ys)
all_behind [] ys h k = k
all_behind (x ∷ xs) ys h k = (h.0, all_behind xs ys h.1 k)

new_plain : (id : ℕ) (kinds : List Kind) → ArePlain kinds → AllByRecursion IsPlain (new_items id kinds)
new_plain id [] h = tt
new_plain id (k ∷ kinds) h = (h.0, new_plain (id + 1) kinds h.1)

new_length : (id : ℕ) (kinds : List Kind) → length (new_items id kinds) ≡ length kinds
new_length id [] = refl
new_length id (k ∷ kinds) = ap suc (new_length (id + 1) kinds)

renamed_plain : (r : ℕ → ℕ) (kinds : List Kind) → ArePlain kinds → ArePlain (map (renamed_kind r) kinds)
renamed_plain r [] h = tt
renamed_plain r (k ∷ kinds) h = (h.0, renamed_plain r kinds h.1)

pub record IsOrdered (t : Table) : Type 0 where
  pub members_are : members t.groups ≡ upto (next_id t)
  pub plain : AllByRecursion IsPlain t.types

group_ordered : (explicit : Bool) (kinds : List Kind) (t : Table) → ArePlain kinds → IsOrdered t → IsOrdered (with_group explicit kinds t)
group_ordered explicit kinds t plain h =
    let first = next_id t in
    let count : first + length kinds ≡ length (t.types ++ new_items first kinds) =
    sym (length-append t.types (new_items first kinds) ∙ ap (λ (n : ℕ). first + n) (new_length first kinds)) in record {
      members_are = members_both t.groups (group_slot explicit (range_with_len first (length kinds)))
          ∙ ap (λ (l : List ℕ). members t.groups ++ l) (slot_members explicit (range_with_len first (length kinds)))
          ∙ ap (λ (l : List ℕ). l ++ range_with_len first (length kinds)) h.members_are ∙ upto_range first (length kinds) ∙ ap upto count;
      plain = all_behind t.types (new_items first kinds) h.plain (new_plain first kinds plain);
    }

merged_ordered : (found : Option ℕ) (kind : Kind) (s : Parsed) → kind.entry ≡ false → IsOrdered s.table → IsOrdered (merged found kind s).table
merged_ordered None kind s plain h = group_ordered false (kind ∷ []) s.table (plain, tt) h
merged_ordered (Some id) kind s plain h = h

added_ordered : (marked : Bool) (kinds : List Kind) (s : Parsed) → ArePlain kinds → IsOrdered s.table → IsOrdered (added marked kinds s).table
added_ordered true kinds s plain h = group_ordered true kinds s.table plain h
added_ordered false [] s plain h = group_ordered true [] s.table plain h
added_ordered false (kind ∷ []) s plain h = merged_ordered (equal_type kind s.table) kind s plain.0 h
added_ordered false (a ∷ b ∷ kinds) s plain h = group_ordered true (a ∷ b ∷ kinds) s.table plain h

all_ordered : (groups : List TypeGroup) (s : Parsed) → AreDeclared groups → IsOrdered s.table → IsOrdered (parsed groups s).table
all_ordered [] s plain h = h
all_ordered (g ∷ groups) s plain h =
    let r = at (known_ids g s) in
    all_ordered groups (parsed_group g s) plain.1 (added_ordered g.marked (map (renamed_kind r) g.kinds) s (renamed_plain r g.kinds plain.0) h)

-- ---- which ids are seen

abbrev plain_id : ℕ → Option Item → List ℕ
plain_id id None = []
plain_id id (Some ty) = if ty.kind.entry then [] else id ∷ []

flat_same : {A B : Type 0} (f g : A → List B) → ((x : A) → f x ≡ g x) → (xs : List A) → flat_map f xs ≡ flat_map g xs
flat_same f g h xs = ap (λ k. flat_map k xs) (λ i x. h x i)

module _ (f : ℕ → Option Item) where
  abbrev ids_in : List ℕ → List ℕ
  ids_in ids = flat_map (λ id. plain_id id (f id)) ids

  abbrev seen_ids : List (Option Group) → List ℕ
  seen_ids [] = []
  seen_ids (None ∷ gs) = seen_ids gs
  seen_ids (Some g ∷ gs) = ids_in g.types ++ seen_ids gs

  seen_both : (a b : List (Option Group)) → seen_ids (a ++ b) ≡ seen_ids a ++ seen_ids b
  seen_both [] b = refl
  seen_both (None ∷ a) b = seen_both a b
  seen_both (Some g ∷ a) b = ap (λ (l : List ℕ). ids_in g.types ++ l) (seen_both a b) ∙ sym (append_assoc (ids_in g.types) (seen_ids a) (seen_ids b))

  -- where they are all plain
  abbrev IsSeen : ℕ → Type 0
  IsSeen id = plain_id id (f id) ≡ id ∷ []

  ids_all : (ids : List ℕ) → AllByRecursion IsSeen ids → ids_in ids ≡ ids
  ids_all [] h = refl
  ids_all (id ∷ ids) h = ap (λ (l : List ℕ). l ++ ids_in ids) h.0 ∙ ap (λ (l : List ℕ). id ∷ l) (ids_all ids h.1)

  split_front : (xs ys : List ℕ) → AllByRecursion IsSeen (xs ++ ys) → AllByRecursion IsSeen xs
  split_front [] ys h = tt
  split_front (x ∷ xs) ys h = (h.0, split_front xs ys h.1)

  split_back : (xs ys : List ℕ) → AllByRecursion IsSeen (xs ++ ys) → AllByRecursion IsSeen ys
  split_back [] ys h = h
  split_back (x ∷ xs) ys h = split_back xs ys h.1

  all_seen : (gs : List (Option Group)) → AllByRecursion IsSeen (members gs) → seen_ids gs ≡ members gs
  all_seen [] h = refl
  all_seen (None ∷ gs) h = all_seen gs h
  all_seen (Some g ∷ gs) h =
      ap (λ (l : List ℕ). l ++ seen_ids gs) (ids_all g.types (split_front g.types (members gs) h))
      ∙ ap (λ (l : List ℕ). g.types ++ l) (all_seen gs (split_back g.types (members gs) h))

  one_more : (xs : List ℕ) (n : ℕ) → AllByRecursion IsSeen xs → IsSeen n → AllByRecursion IsSeen (xs ++ n ∷ [])
  one_more [] n h k = (k, tt)
  one_more (x ∷ xs) n h k = (h.0, one_more xs n h.1 k)

  all_upto : (n : ℕ) → ((k : ℕ) → k < n → IsSeen k) → AllByRecursion IsSeen (upto n)
  all_upto zero h = tt
  all_upto (suc n) h = one_more (upto n) n (all_upto n (λ k lt. h k (omega (arith, lt)))) (h n (omega arith))

  seen_upto : (gs : List (Option Group)) (n : ℕ) → members gs ≡ upto n → ((k : ℕ) → k < n → IsSeen k) → seen_ids gs ≡ upto n
  seen_upto gs n e h = all_seen gs (subst (AllByRecursion IsSeen) (sym e) (all_upto n h)) ∙ e

module _ (t : Table) where
  -- of one type
  abbrev alone : ℕ → Table
  alone id = record { types = t.types; groups = Some (record { explicit = false; types = id ∷ [] }) ∷ [] }

  one_id : (id : ℕ) (o : Option Item) → type_at t id ≡ o → type_ids (alone id) ≡ plain_id id o
  one_id id None e = rw e refl
  one_id id (Some ty) e = go ty.kind.entry refl
    where
      go : (b : Bool) → ty.kind.entry ≡ b → type_ids (alone id) ≡ plain_id id (Some ty)
      go true f = rw (e, f) refl
      go false f = rw (e, f) refl

  entries_seen : (id : ℕ) (gs : List (Option Group)) → flat_map (λ (e : ℕ × Group). ids_in (type_at t) e.1.types) (entries_from id gs) ≡ seen_ids (type_at t) gs
  entries_seen id [] = refl
  entries_seen id (None ∷ gs) = entries_seen (id + 1) gs
  entries_seen id (Some g ∷ gs) = ap (λ (l : List ℕ). ids_in (type_at t) g.types ++ l) (entries_seen (id + 1) gs)

  ids_are : type_ids t ≡ seen_ids (type_at t) t.groups
  ids_are =
      flat_same _ (λ (e : ℕ × Group). ids_in (type_at t) e.1.types)
      (λ (e : ℕ × Group). flat_same _ (λ id. plain_id id (type_at t id)) (λ id. sym (append-nil _) ∙ sym (append-nil _) ∙ one_id id (type_at t id) refl) e.1.types) (entries_from 0 t.groups)
      ∙ entries_seen 0 t.groups

  -- they are as many as the types of the groups
  one_length : (id : ℕ) (o : Option Item) (ids : List ℕ) (kinds : List Kind) → length kinds ≡ length ids → length (plain_kind o ++ kinds) ≡ length (plain_id id o ++ ids)
  one_length id None ids kinds e = e
  one_length id (Some ty) ids kinds e = elim ty.kind.entry as (λ b. length ((if b then [] else ty.kind ∷ []) ++ kinds) ≡ length ((if b then [] else id ∷ []) ++ ids)) [ true ↦ e | false ↦ ap suc e ]

  group_lengths : (ids : List ℕ) → length (flat_map (λ id. plain_kind (type_at t id)) ids) ≡ length (ids_in (type_at t) ids)
  group_lengths [] = refl
  group_lengths (id ∷ ids) = one_length id (type_at t id) (ids_in (type_at t) ids) (flat_map (λ id. plain_kind (type_at t id)) ids) (group_lengths ids)

  if_filled : (marked : Bool) (kinds : List Kind) (later : List TypeGroup) → kinds_in (filter has_kinds (record { marked = marked; kinds = kinds } ∷ later)) ≡ kinds ++ kinds_in (filter has_kinds later)
  if_filled marked [] later = refl
  if_filled marked (k ∷ kinds) later = refl

  lengths : (id : ℕ) (gs : List (Option Group)) → length (kinds_in (filter has_kinds (map (λ (e : ℕ × Group). group_kinds t e.1) (entries_from id gs)))) ≡ length (seen_ids (type_at t) gs)
  lengths id [] = refl
  lengths id (None ∷ gs) = lengths (id + 1) gs
  lengths id (Some g ∷ gs) =
      let kinds = flat_map (λ id. plain_kind (type_at t id)) g.types in
      let later = map (λ (e : ℕ × Group). group_kinds t e.1) (entries_from (id + 1) gs) in
      let first = group_lengths g.types in
      let others = lengths (id + 1) gs in
      let k = length-append kinds (kinds_in (filter has_kinds later)) in
      let i = length-append (ids_in (type_at t) g.types) (seen_ids (type_at t) gs) in
      ap length (if_filled g.explicit kinds later) ∙ k ∙ ap (λ (n : ℕ). n + length (kinds_in (filter has_kinds later))) first
      ∙ ap (λ (n : ℕ). length (ids_in (type_at t) g.types) + n) others ∙ sym i

-- ---- a table that has grown, names aside

plain_front : (xs more : List (Option Item)) (n id : ℕ) → AllByRecursion IsPlain xs → n < length xs → plain_id id (slice_index_or (xs ++ more) n None) ≡ id ∷ []
plain_front [] more n id h lt = absurd (omega (arith, lt))
plain_front (None ∷ xs) more n id h lt = absurd h.0
plain_front (Some x ∷ xs) more zero id h lt = ap (λ (b : Bool). (let l : List ℕ = if b then [] else id ∷ [] in l)) h.0
plain_front (Some x ∷ xs) more (suc n) id h lt = plain_front xs more n id h.1 (omega (arith, lt))

plain_bare : (id : ℕ) (o : Option Item) → plain_id id (option_map bare_type o) ≡ plain_id id o
plain_bare id None = refl
plain_bare id (Some x) = refl

at_bare : (xs : List (Option Item)) (n : ℕ) → slice_index_or (map (option_map bare_type) xs) n None ≡ option_map bare_type (slice_index_or xs n None)
at_bare [] n = refl
at_bare (x ∷ xs) zero = refl
at_bare (x ∷ xs) (suc n) = at_bare xs n

upto_length : (n : ℕ) → length (upto n) ≡ n
upto_length zero = refl
upto_length (suc n) = length-append (upto n) (n ∷ []) ∙ ap (λ (k : ℕ). k + 1) (upto_length n) ∙ (let z : n + 1 ≡ suc n = omega arith in z)

-- the types of the file's groups have the ids 0, 1 and on, and behind them come those of others
pub own_ids : GroupsMean → (groups : List TypeGroup) → AreBelow 0 groups → AreDeclared groups → (bodied t : Table) → Grows (parsed groups (unparsed no_types)).table bodied
    → MoreGroups (parsed groups (unparsed no_types)).table bodied → t.groups ≡ bodied.groups → map (option_map bare_type) t.types ≡ map (option_map bare_type) bodied.types
    → (later : List ℕ) × (type_ids t ≡ upto (length (kinds_in (kept (parsed groups (unparsed no_types)).ids 0 groups))) ++ later)
own_ids mean groups below plain bodied t grows more same bare =
    let p = parsed groups (unparsed no_types) in
    let first : Table = p.table in
    let n = next_id first in
    let ordered = all_ordered groups (unparsed no_types) plain (record { members_are = refl; plain = tt }) in
    let seen : (k : ℕ) → k < n → plain_id k (type_at first k) ≡ k ∷ [] = λ k lt.
    ap (λ (l : List (Option Item)). plain_id k (slice_index_or l k None)) (sym (append-nil first.types)) ∙ plain_front first.types [] k k ordered.plain lt in
    let later_seen : (k : ℕ) → k < n → plain_id k (type_at t k) ≡ k ∷ [] = λ k lt.
    sym (plain_bare k (type_at t k)) ∙ ap (plain_id k) (sym (at_bare t.types k) ∙ ap (λ (l : List (Option Item)). slice_index_or l k None) bare ∙ at_bare bodied.types k)
    ∙ plain_bare k (type_at bodied k) ∙ ap (λ (l : List (Option Item)). plain_id k (slice_index_or l k None)) grows.behind ∙ plain_front first.types grows.more k k ordered.plain lt in
    let count : length (kinds_in (kept p.ids 0 groups)) ≡ n =
    ap (λ (l : List TypeGroup). length (kinds_in l)) (sym (mean groups below plain)) ∙ lengths first 0 first.groups
    ∙ ap length (seen_upto (type_at first) first.groups n ordered.members_are seen) ∙ upto_length n in (
      seen_ids (type_at t) more.0,
      ids_are t ∙ ap (seen_ids (type_at t)) (same ∙ more.1) ∙ seen_both (type_at t) first.groups more.0
          ∙ ap (λ (l : List ℕ). l ++ seen_ids (type_at t) more.0) (seen_upto (type_at t) first.groups n ordered.members_are later_seen ∙ ap upto (sym count)),
    )
