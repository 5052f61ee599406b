-- Lemmas: the table of a file, and tables that differ in names alone.
use Rattle.std.proofs.Common.{◌≡◌, ◌∙◌, ℕ, zero, suc, ◌+◌, ◌<◌, ◌≤◌, Bool, true, false, List, [], ◌∷◌, ◌++◌, length, map, filter, Option, Some, None, refl, sym, ap, subst, arith}
use Rattle.std.specs.Prelude.{IsSome, slice_index_or, if◌then◌else◌}
use Rattle.std.specs.List.{AllByRecursion, flat_map, range_with_len}
use Rattle.std.specs.Option.{is_none, option_and_then, option_map, option_or}
use Rattle.std.proofs.lemmas.List.{length-append}
use Rattle.walrus_forms.specs.declared.value.ValType.{ValType}
use Rattle.walrus_arena.specs.Arena.{entries_from}
use Rattle.walrus_forms.specs.Kinds.{Kind, function_kind}
use Rattle.walrus_forms.specs.Same.{same_kind}
use Rattle.walrus_body_laws.specs.walrus_pairing.walrus_instr.BlockTypes.{short_form}
use Rattle.walrus_forms.specs.Records.{TypeGroup}
use Rattle.walrus_forms.specs.Renaming.{at, renamed_kind}
use Rattle.walrus_function_types.specs.FunctionTypes.{form_params, form_results}
use Rattle.walrus_named_bodies.specs.walrus_file_bodies.walrus_items_into.walrus_module_env.walrus_handler_types.walrus_handler_laws.declared.handler.Handler.{Handler}
use Rattle.walrus_named_bodies.specs.walrus_file_bodies.walrus_items_into.walrus_module_env.walrus_handler_types.Giving.{block_results, caught}
use Rattle.walrus_body_laws.specs.walrus_pairing.walrus_instr.declared.seq.InstrSeqType.{InstrSeqType}
use Rattle.walrus_body_laws.specs.walrus_pairing.walrus_instr.declared.seq.InstrSeqType.TheVariants.{Simple, MultiValue}
use Rattle.walrus_named_bodies.specs.walrus_item_names.Names.{bare_type}
use Rattle.walrus_named_bodies.specs.walrus_file_bodies.walrus_items_into.walrus_module_bodies.walrus_body_trees.walrus_meaning.Meaning.{has_kinds, own_groups, plain_kind}
use Rattle.walrus_named_bodies.specs.walrus_item_names.walrus_module.walrus_types.Groups.{group_slot, new_items}
use Rattle.walrus_named_bodies.specs.walrus_item_names.walrus_module.walrus_types.Items.{Group, Item}
use Rattle.walrus_named_bodies.specs.walrus_item_names.walrus_module.walrus_types.Parsing.{Parsed, added, known_ids, merged, parsed, parsed_group, unparsed, with_group}
use Rattle.walrus_named_bodies.specs.walrus_item_names.walrus_module.walrus_types.Table.{Table, equal_type, found_type, latest_in, next_id, type_at}
use Rattle.walrus_named_bodies.specs.walrus_file_bodies.walrus_items_into.walrus_functions_into.walrus_types_into.Into.{no_types}
use Rattle.walrus_parse_laws.specs.Added.{Signature, is_missing}
use Rattle.walrus_parse_laws.specs.Handlers.{HasTypes, signature_of, signatures}
use Rattle.walrus_parse_laws.proofs.GroupsTableLemmas.{IsClosed, Members, members_both, members_later, own_is, seen, seen_same}

-- ---- groups of a file name types that were given out

items_length : (id : ℕ) (kinds : List Kind) → length (new_items id kinds) ≡ length kinds
items_length id [] = refl
items_length id (k ∷ kinds) = let e = items_length (id + 1) kinds in omega (arith, e)

range_below : (first count most : ℕ) → first + count ≤ most → AllByRecursion (λ (id : ℕ). id < most) (range_with_len first count)
range_below first zero most le = tt
range_below first (suc count) most le = (omega (arith, le), range_below (first + 1) count most (omega (arith, le)))

slot_members : (P : ℕ → Type 0) (marked : Bool) (ids : List ℕ) → AllByRecursion P ids → Members P (group_slot marked ids)
slot_members P marked [] h = tt
slot_members P marked (id ∷ ids) h = (h, tt)

group_closed : (marked : Bool) (kinds : List Kind) (t : Table) → IsClosed t → IsClosed (with_group marked kinds t)
group_closed marked kinds t h =
    let u = with_group marked kinds t in
    let own = range_with_len (next_id t) (length kinds) in
    let next : next_id u ≡ next_id t + length kinds = length-append t.types (new_items (next_id t) kinds) ∙ ap (λ (n : ℕ). next_id t + n) (items_length (next_id t) kinds) in
    members_both (λ id. id < next_id u) t.groups (group_slot marked own) (members_later (λ id. id < next_id t) (λ id. id < next_id u) (λ id lt. omega (arith, lt, next)) t.groups h)
    (slot_members (λ id. id < next_id u) marked own (range_below (next_id t) (length kinds) (next_id u) (omega (arith, next))))

merged_closed : (found : Option ℕ) (kind : Kind) (s : Parsed) → IsClosed s.table → IsClosed (merged found kind s).table
merged_closed (Some id) kind s h = h
merged_closed None kind s h = group_closed false (kind ∷ []) s.table h

added_closed : (marked : Bool) (kinds : List Kind) (s : Parsed) → IsClosed s.table → IsClosed (added marked kinds s).table
added_closed true kinds s h = group_closed true kinds s.table h
added_closed false [] s h = group_closed true [] s.table h
added_closed false (kind ∷ []) s h = merged_closed (equal_type kind s.table) kind s h
added_closed false (a ∷ b ∷ kinds) s h = group_closed true (a ∷ b ∷ kinds) s.table h

all_closed : (groups : List TypeGroup) (s : Parsed) → IsClosed s.table → IsClosed (parsed groups s).table
all_closed [] s h = h
all_closed (g ∷ groups) s h = all_closed groups (parsed_group g s) (added_closed g.marked (map (renamed_kind (at (known_ids g s))) g.kinds) s h)

pub file_closed : (groups : List TypeGroup) → IsClosed (parsed groups (unparsed no_types)).table
file_closed groups = all_closed groups (unparsed no_types) tt

-- ---- names

bare_at : (xs : List (Option Item)) (id : ℕ) → slice_index_or (map (option_map bare_type) xs) id None ≡ option_map bare_type (slice_index_or xs id None)
bare_at [] id = refl
bare_at (x ∷ xs) zero = refl
bare_at (x ∷ xs) (suc id) = bare_at xs id

module _ (t u : Table) (types : map (option_map bare_type) t.types ≡ map (option_map bare_type) u.types) where
  same_type : (id : ℕ) → option_map bare_type (type_at t id) ≡ option_map bare_type (type_at u id)
  same_type id = sym (bare_at t.types id) ∙ ap (λ (l : List (Option Item)). slice_index_or l id None) types ∙ bare_at u.types id

  plain_bare : (o : Option Item) → plain_kind o ≡ plain_kind (option_map bare_type o)
  plain_bare None = refl
  plain_bare (Some x) = refl

  same_kinds : (id : ℕ) → plain_kind (type_at t id) ≡ plain_kind (type_at u id)
  same_kinds id = plain_bare (type_at t id) ∙ ap plain_kind (same_type id) ∙ sym (plain_bare (type_at u id))

  each_same : (gs : List (Option Group)) → Members (λ id. plain_kind (type_at t id) ≡ plain_kind (type_at u id)) gs
  each_same [] = tt
  each_same (None ∷ gs) = each_same gs
  each_same (Some g ∷ gs) = (all g.types, each_same gs)
    where
      all : (ids : List ℕ) → AllByRecursion (λ id. plain_kind (type_at t id) ≡ plain_kind (type_at u id)) ids
      all [] = tt
      all (id ∷ ids) = (same_kinds id, all ids)

  pub same_groups : t.groups ≡ u.groups → own_groups t ≡ own_groups u
  same_groups e =
      own_is t ∙ ap (λ (l : List TypeGroup). filter has_kinds l) (seen_same (type_at t) (type_at u) t.groups (each_same t.groups))
      ∙ ap (λ (gs : List (Option Group)). filter has_kinds (seen (type_at u) gs)) e ∙ sym (own_is u)

  params_bare : (o : Option Item) → option_and_then (λ (x : Item). form_params x.kind.form) o ≡ option_and_then (λ (x : Item). form_params x.kind.form) (option_map bare_type o)
  params_bare None = refl
  params_bare (Some x) = refl

  results_bare : (o : Option Item) → option_and_then (λ (x : Item). form_results x.kind.form) o ≡ option_and_then (λ (x : Item). form_results x.kind.form) (option_map bare_type o)
  results_bare None = refl
  results_bare (Some x) = refl

  pub same_caught : (tag : Option ℕ) → caught t tag ≡ caught u tag
  same_caught None = refl
  same_caught (Some id) =
      params_bare (type_at t id) ∙ ap (λ (o : Option Item). option_and_then (λ (x : Item). form_params x.kind.form) o) (same_type id) ∙ sym (params_bare (type_at u id))

  pub same_results : (block : InstrSeqType) → block_results t block ≡ block_results u block
  same_results (Simple ty) = refl
  same_results (MultiValue id) =
      results_bare (type_at t id) ∙ ap (λ (o : Option Item). option_and_then (λ (x : Item). form_results x.kind.form) o) (same_type id) ∙ sym (results_bare (type_at u id))

  same_signatures : (h : Option Handler) → signatures t h ≡ signatures u h
  same_signatures None = refl
  same_signatures (Some h) =
      ap (λ (o : Option (List ValType)). signature_of o (block_results t h.block)) (same_caught h.tag_type) ∙ ap (signature_of (caught u h.tag_type)) (same_results h.block)

  pub all_signatures : (hs : List (Option Handler)) → flat_map (signatures t) hs ≡ flat_map (signatures u) hs
  all_signatures [] = refl
  all_signatures (h ∷ hs) = ap (λ (l : List Signature). l ++ flat_map (signatures t) hs) (same_signatures h) ∙ ap (λ (l : List Signature). signatures u h ++ l) (all_signatures hs)

  -- what is found is found
  bare_latest : (ps rs : List ValType) (first : ℕ) (found : Option ℕ) (slots : List (Option Item)) → let test : ℕ × Item → Bool = λ e. same_kind e.1.kind (function_kind ps rs) in
      latest_in test found (entries_from first slots) ≡ latest_in test found (entries_from first (map (option_map bare_type) slots))
  bare_latest ps rs first found [] = refl
  bare_latest ps rs first found (None ∷ slots) = bare_latest ps rs (first + 1) found slots
  bare_latest ps rs first found (Some x ∷ slots) = bare_latest ps rs (first + 1) (if same_kind x.kind (function_kind ps rs) then Some first else found) slots

  pub same_found : (ps rs : List ValType) → found_type ps rs t ≡ found_type ps rs u
  same_found ps rs =
      bare_latest ps rs 0 None t.types ∙ ap (λ (l : List (Option Item)). latest_in (λ e. same_kind e.1.kind (function_kind ps rs)) None (entries_from 0 l)) types ∙ sym (bare_latest ps rs 0 None u.types)

  found_too : (s : Signature) → is_missing u s ≡ false → is_missing t s ≡ false
  found_too s e = ap (λ (o : Option ℕ). is_none (option_or (short_form s.params s.results) (option_map MultiValue o))) (same_found s.params s.results) ∙ e

  pub all_found : (ss : List Signature) → AllByRecursion (λ s. is_missing u s ≡ false) ss → AllByRecursion (λ s. is_missing t s ≡ false) ss
  all_found [] h = tt
  all_found (s ∷ ss) h = (found_too s h.0, all_found ss h.1)

  types_too : (h : Option Handler) → HasTypes u h → HasTypes t h
  types_too None is = tt
  types_too (Some h) is = (subst IsSome (sym (same_caught h.tag_type)) is.0, subst IsSome (sym (same_results h.block)) is.1)

  pub all_types : (hs : List (Option Handler)) → AllByRecursion (HasTypes u) hs → AllByRecursion (HasTypes t) hs
  all_types [] is = tt
  all_types (h ∷ hs) is = (types_too h is.0, all_types hs is.1)
