-- Lemmas: the types of a module that was read are settled: those of the file are, each call that a body adds a type by keeps them so, and names don't matter.
use Rattle.std.specs.Prelude.{ℕ, ◌≡◌, false, List, [], ◌∷◌, All, map, Option, Some, None, MatchOption, slice_index_or}
use Rattle.std.specs.List.{AllByRecursion}
use Rattle.std.specs.Option.{option_map}
use Rattle.std.proofs.Common.{refl, ap, sym, subst, ◌∙◌}
use Rattle.std.proofs.lemmas.List.Elements.{All-cons, All-nil}
use Rattle.std.proofs.lemmas.Option.{none-some, same_Some}
use Rattle.walrus_forms.specs.Kinds.{Kind, entry_kind, function_kind}
use Rattle.walrus_forms.specs.Records.{TypeGroup}
use Rattle.walrus_forms.specs.declared.value.ValType.{ValType}
use Rattle.walrus_instr.specs.BlockTypes.{Makes, picked, short_form}
use Rattle.walrus_instr.specs.declared.seq.InstrSeqType.{InstrSeqType}
use Rattle.walrus_instr.specs.declared.seq.InstrSeqType.TheVariants.{MultiValue}
use Rattle.walrus_types.specs.Items.{Item, Group}
use Rattle.walrus_types.specs.Merged.{IsMerged, UnmarkedAreSingle, single_group}
use Rattle.walrus_types.specs.Parsing.{parsed, unparsed, with_group}
use Rattle.walrus_types.specs.Table.{Merges, Table, group_at, merges, names_itself, type_at}
use Rattle.walrus_type_laws.specs.Edits.{IsSettled}
use Rattle.walrus_type_laws.specs.Ordinary.{AreOrdinary, IsOrdinary}
use Rattle.walrus_type_laws.proofs.Grown.{Fits, Inner, grown_inner, merges_kept, parsed_kept}
use Rattle.walrus_file_bodies.specs.walrus_items_into.walrus_module_env.walrus_handler_types.Giving.{Finds, FindsIf, Gives, GivesAt, block_results, caught}
use Rattle.walrus_file_bodies.specs.walrus_items_into.walrus_module_env.walrus_handler_types.walrus_handler_laws.Handlers.{told_by, tree_ids}
use Rattle.walrus_file_bodies.specs.walrus_items_into.walrus_module_env.walrus_handler_types.walrus_handler_laws.declared.handler.Handler.{Handler}
use Rattle.walrus_file_bodies.specs.walrus_items_into.walrus_module_env.Env.{tag_type_at}
use Rattle.walrus_file_bodies.specs.walrus_items_into.walrus_functions_into.declared.bodies.FunctionBody.{FunctionBody}
use Rattle.walrus_file_bodies.specs.walrus_items_into.walrus_functions_into.walrus_types_into.Into.{no_types}
use Rattle.walrus_file_bodies.specs.walrus_items_into.walrus_tables_into.walrus_sections_into.walrus_known_sections.State.{state_of}
use Rattle.walrus_file_bodies.specs.walrus_module_bodies.Steps.{State, Steps, state}
use Rattle.walrus_file_bodies.specs.walrus_module_bodies.declared.file.FileEnv.{FileEnv}
use Rattle.walrus_file_bodies.specs.Ready.{bodies_in}
use Rattle.walrus_builder.specs.Built.{Seq, contents, seq_of}
use Rattle.walrus_item_names.specs.Holder.{Holder}
use Rattle.walrus_item_names.specs.Names.{bare_type}
use Rattle.walrus_named_bodies.specs.Parsed.{read_features}
use Rattle.walrus_parse_laws.specs.FilledGroups.{AreDeclared, ReadTypesAreDeclared}
use Rattle.wasm_features.specs.declared.WasmFeatures.{WasmFeatures}
use Rattle.walrus_kept_types_laws.specs.Read.{ReadTypesAreSettled}

-- ---- types that are added

step : (explicit : _) (kinds : List Kind) (t : Table) → Inner t → Fits explicit kinds t → Inner (with_group explicit kinds t)
step explicit kinds t inner fits = grown_inner explicit kinds t inner fits

inner_merged : (kind : Kind) (id : ℕ) (t u : Table) → Merges kind id t u → Inner t → Inner u
inner_merged kind id t u m inner = merges_kept Inner step kind id t u m inner

inner_same : (t u : Table) → u ≡ t → Inner t → Inner u
inner_same t u e inner = subst Inner (sym e) inner

inner_made : (ps rs : List ValType) (ty : InstrSeqType) (t u : Table) → Makes ps rs ty t u → Inner t → Inner u
inner_made ps rs ty t u makes inner = by (short_form ps rs) makes
  where
    by : (o : Option InstrSeqType) → MatchOption o ((id : ℕ) × (ty ≡ MultiValue id) × Merges (function_kind ps rs) id t u) (λ short. (ty ≡ short) × (u ≡ t)) → Inner u
    by None m = inner_merged (function_kind ps rs) m.0 t u m.2 inner
    by (Some short) e = inner_same t u e.1 inner

inner_found : (ps rs : List ValType) (ty : InstrSeqType) (t u : Table) → Finds ps rs t ty u → Inner t → Inner u
inner_found ps rs ty t u f inner = by (picked ps rs t) f
  where
    by : (o : Option InstrSeqType) → MatchOption o (Makes ps rs ty t u) (λ found. (ty ≡ found) × (u ≡ t)) → Inner u
    by None makes = inner_made ps rs ty t u makes inner
    by (Some found) e = inner_same t u e.1 inner

inner_if : (o p : Option (List ValType)) (was ty : InstrSeqType) (t u : Table) → FindsIf o p was t ty u → Inner t → Inner u
inner_if (Some ps) (Some rs) was ty t u f inner = inner_found ps rs ty t u f inner
inner_if (Some ps) None was ty t u f inner = inner_same t u f.1 inner
inner_if None (Some rs) was ty t u f inner = inner_same t u f.1 inner
inner_if None None was ty t u f inner = inner_same t u f.1 inner

inner_at : (k : ℕ) (x : Option Handler) (b c : List Seq) (t u : Table) → GivesAt k x b t c u → Inner t → Inner u
inner_at k None b c t u (is, kept) inner = inner_same t u kept inner
inner_at k (Some h) b c t u (y, found, ty, gives, is) inner = inner_if (caught t h.tag_type) (block_results t h.block) y.ty ty t u gives inner

inner_given : (told : ℕ → Option Handler) (ks : List ℕ) (b c : List Seq) (t v : Table) → Gives told ks b t c v → Inner t → Inner v
inner_given told [] b c t v (is, kept) inner = inner_same t v kept inner
inner_given told (k ∷ ks) b c t v (mid, u, one, rest) inner = inner_given told ks mid c u v rest (inner_at k (told k) b mid t u one inner)

inner_stepped : (file : FileEnv) (features : WasmFeatures) (bs : List FunctionBody) (old new : State) → Steps file features bs old new → Inner old.types → Inner new.types
inner_stepped file features [] old new e inner = inner_same old.types new.types (ap (λ (s : State). s.types) e) inner
inner_stepped file features (b ∷ bs) old new (mid, s, rest) inner =
    let g = s.handled in
    let js = tree_ids g.tree in
    let entered = inner_merged (entry_kind s.results) s.entry old.types s.mid s.entered inner in
    let given = inner_given (told_by (tag_type_at g.env.tags.now) g.own js) js (map seq_of g.own) (contents s.body.builder.builder) s.mid mid.types g.given entered in
    inner_stepped file features bs mid new rest given

-- ---- names

bare_at : (xs : List (Option Item)) (id : ℕ) → slice_index_or (map (option_map bare_type) xs) id None ≡ option_map bare_type (slice_index_or xs id None)
bare_at [] id = refl
bare_at (x ∷ xs) ℕ.zero = refl
bare_at (x ∷ xs) (ℕ.suc id) = bare_at xs id

same_kind_at : (o p : Option Item) (x : Item) → o ≡ Some x → option_map bare_type o ≡ option_map bare_type p → (y : Item) × (p ≡ Some y) × (y.kind ≡ x.kind)
same_kind_at None p x is e = absurd (none-some x is)
same_kind_at (Some z) None x is e = absurd (none-some (bare_type z) (sym e))
same_kind_at (Some z) (Some y) x is e =
    (y, refl, ap (λ (w : Item). w.kind) (sym (same_Some (bare_type z) (bare_type y) e)) ∙ ap (λ (w : Item). w.kind) (same_Some z x is))

module _ (t u : Table) (groups : t.groups ≡ u.groups) (types : map (option_map bare_type) t.types ≡ map (option_map bare_type) u.types) where
  there : (id : ℕ) (x : Item) → type_at t id ≡ Some x → (y : Item) × (type_at u id ≡ Some y) × (y.kind ≡ x.kind)
  there id x is = same_kind_at (type_at t id) (type_at u id) x is (sym (bare_at t.types id) ∙ ap (λ (l : List (Option Item)). slice_index_or l id None) types ∙ bare_at u.types id)

  group_there : (place : ℕ) (group : Group) → group_at t place ≡ Some group → group_at u place ≡ Some group
  group_there place group at = ap (λ (l : List (Option Group)). slice_index_or l place None) (sym groups) ∙ at

  named_settled : IsMerged u → UnmarkedAreSingle u → IsSettled t
  named_settled merged single = record {
    merged = record {
      apart = λ place a b x y at is_b apart before is_a.
          let p = there b y is_b in
          let q = there a x is_a in
          ap (λ (k : Kind). merges k (a, x)) (sym p.2) ∙ like a x q.0 (p.0).kind q.2
          ∙ merged.apart place a b q.0 p.0 (group_there place (single_group b) at) p.1 (ap (λ (k : Kind). names_itself b k) p.2 ∙ apart) before q.1;
      entries = λ place group at id item c is entry.
          let p = there id item is in
          merged.entries place group (group_there place group at) id p.0 c p.1 (ap (λ (k : Kind). k.entry) p.2 ∙ entry);
    };
    single = λ place group at. single place group (group_there place group at);
  }
    where
      like : (a : ℕ) (x y : Item) (k : Kind) → y.kind ≡ x.kind → merges k (a, x) ≡ merges k (a, y)
      like a x y k e = ap (λ (kind : Kind). merges k (a, (let w : Item = record { id = x.id; kind = kind; name = x.name } in w))) (sym e)

-- ---- a module that was read

ordinary : (groups : List TypeGroup) → AreDeclared groups → AreOrdinary groups
ordinary [] h = All-nil IsOrdinary
ordinary (g ∷ groups) h = All-cons IsOrdinary g groups (each g.kinds h.0) (ordinary groups h.1)
  where
    each : (kinds : List Kind) → AllByRecursion (λ (k : Kind). k.entry ≡ false) kinds → All (λ (k : Kind). k.entry ≡ false) kinds
    each [] h = All-nil (λ (k : Kind). k.entry ≡ false)
    each (k ∷ kinds) h = All-cons (λ (k : Kind). k.entry ≡ false) k kinds h.0 (each kinds h.1)

begins : Inner no_types
begins = record {
  live = λ place group at. absurd (none-some group at);
  merged = record { apart = λ place a b x y is is_b apart less is_a. absurd (none-some x is_a); entries = λ place g is id item c is_id entry. absurd (none-some item is_id) };
  single = λ place g is unmarked. absurd (none-some g is);
}

pub read_settled : {B : Type 0} → ReadTypesAreDeclared → ReadTypesAreSettled B
read_settled declared config bytes m found is =
    let h = is.1 in
    let s = h.sections in
    let features = read_features config in
    let plain = ordinary s.types (declared features bytes (state_of s) h.reads.sections) in
    let first : Inner (parsed s.types (unparsed no_types)).table = parsed_kept Inner step s.types (unparsed no_types) plain begins in
    let start = state h.filled.types [] h.numbers h.filled.functions in
    let inner = inner_stepped h.file features (bodies_in s h.filled.functions) start h.bodied h.bodies_are (subst Inner (sym h.are_filled.types) first) in
    named_settled m.types h.bodied.types (ap (λ (x : Holder). x.types.groups) h.names.same) (ap (λ (x : Holder). x.types.types) h.names.same) inner.merged inner.single
