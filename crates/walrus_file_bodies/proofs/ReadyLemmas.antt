-- Lemmas: a module that a file filled is ready for the file's bodies.
use Rattle.std.proofs.Common.{◌≡◌, ◌∙◌, ◌<◌, ◌≤◌, ◌+◌, ℕ, zero, suc, false, List, [], ◌∷◌, length, slice_get, slice_index_or, Option, Some, None, refl, sym, ap, subst, arith}
use Rattle.std.proofs.lemmas.List.{append-nil}
use Rattle.walrus_arena.specs.Arena.{Arena, item_at}
use Rattle.walrus_function_types.specs.Growth.{Grows}
use Rattle.walrus_function_types.proofs.GrowthLemmas.{front}
use Rattle.walrus_items_into.specs.walrus_tables_into.walrus_sections_into.walrus_collections.walrus_local_function.walrus_body_locals.walrus_body_nesting.wasm_formats.wasm_features.declared.WasmFeatures.{WasmFeatures}
use Rattle.walrus_items_into.specs.walrus_tables_into.walrus_sections_into.walrus_collections.walrus_local_function.walrus_body_locals.wasm_grammar.States.{State, types_of}
use Rattle.walrus_items_into.specs.walrus_tables_into.walrus_sections_into.walrus_forms.Kinds.{Kind}
use Rattle.walrus_items_into.specs.walrus_tables_into.walrus_sections_into.walrus_index_maps.Maps.{Ids}
use Rattle.walrus_items_into.specs.walrus_tables_into.walrus_sections_into.walrus_instr.walrus_types.Items.{Item}
use Rattle.walrus_items_into.specs.walrus_tables_into.walrus_sections_into.walrus_instr.walrus_types.Table.{IsFunctionType, Table, next_id, type_at}
use Rattle.walrus_items_into.specs.walrus_tables_into.walrus_sections_into.walrus_known_sections.declared.sections.Sections.{Sections}
use Rattle.walrus_items_into.specs.walrus_tables_into.walrus_sections_into.walrus_known_sections.State.{state_of}
use Rattle.walrus_items_into.specs.walrus_tables_into.walrus_sections_into.walrus_module_items.declared.function.Function.{Function}
use Rattle.walrus_items_into.specs.walrus_tables_into.walrus_sections_into.walrus_module_items.Functions.{type_of}
use Rattle.walrus_items_into.specs.walrus_tables_into.walrus_sections_into.walrus_module_items.declared.tag.Tag.{Tag}
use Rattle.walrus_items_into.specs.walrus_tables_into.walrus_sections_into.Becomes.{look_of}
use Rattle.walrus_items_into.specs.walrus_functions_into.Bodies.{bodiless}
use Rattle.walrus_items_into.specs.walrus_functions_into.Laws.{read_bodies}
use Rattle.walrus_items_into.specs.walrus_module_env.declared.env.ModuleEnv.{ModuleEnv}
use Rattle.walrus_items_into.specs.walrus_module_env.Around.{IsFiled}
use Rattle.walrus_items_into.specs.walrus_module_env.Filled.{AreFiled, HasBehind}
use Rattle.walrus_items_into.specs.wasm_module_rules.Linked.{IsFunctionType as IsTyped, IsLinked}
use Rattle.walrus_items_into.specs.wasm_module_rules.Reading.{file_linked}
use Rattle.walrus_items_into.specs.wasm_module_rules.wasm_modules.Modules.{around}
use Rattle.walrus_items_into.specs.wasm_sections.Laws.{ReadsSections}
use Rattle.walrus_items_into.specs.wasm_sections.Within.{bodies_inside}
use Rattle.walrus_items_into.specs.Filled.{IsFilledFrom}
use Rattle.walrus_items_into.specs.Laws.{FilledFunctionsStand, FilledModulesAreFiled, IsEnvOf}
use Rattle.walrus_items_into.specs.Spaces.{Spaces}
use Rattle.walrus_items_into.specs.walrus_module_bodies.declared.file.FileEnv.{FileEnv}
use Rattle.walrus_items_into.specs.walrus_module_bodies.Envs.{IsEnv}
use Rattle.walrus_file_bodies.specs.Ready.{FilledModulesAreReady, IsFileOf, bodies_in}
use Rattle.walrus_file_bodies.proofs.DeclaredLemmas.{read_types_are_plain}
use Rattle.walrus_file_bodies.proofs.PairLemmas.{all_have, are_apart, are_placed, chunks_fit}
use Rattle.walrus_file_bodies.proofs.TagLemmas.{tag_at, typed_at, upto_is}

-- ---- a file's types have no entry types behind their kinds

some_item : (x y : Item) → Some x ≡ Some y → x ≡ y
some_item x y e = cc

some_number : (x y : ℕ) → Some x ≡ Some y → x ≡ y
some_number x y e = cc

within : (xs : List (Option Item)) (n : ℕ) (x : Item) → slice_index_or xs n None ≡ Some x → n < length xs
within [] n x e = absurd cc
within (y ∷ ys) zero x e = omega arith
within (y ∷ ys) (suc n) x e = let lt = within ys n x e in omega (arith, lt)

-- what stands at an index of a list as long
beside : (xs : List Kind) (ys : List ℕ) (n y : ℕ) → length ys ≡ length xs → slice_get ys n ≡ Some y → (x : Kind) × (slice_get xs n ≡ Some x)
beside xs [] n y size e = absurd cc
beside [] (z ∷ ys) n y size e = absurd (omega (arith, size))
beside (x ∷ xs) (z ∷ ys) zero y size e = (x, refl)
beside (x ∷ xs) (z ∷ ys) (suc n) y size e = beside xs ys n y (omega (arith, size)) e

declared : (kinds : List Kind) (ids : List ℕ) (own : ℕ) (t : Table) → AreFiled kinds ids own t → ((n : ℕ) (k : Kind) → slice_get kinds n ≡ Some k → k.entry ≡ false) → own ≡ next_id t
    → (id : ℕ) (item : Item) → type_at t id ≡ Some item → item.kind.entry ≡ false
declared kinds ids own t filed plain all id item live =
    let lt = within t.types id item live in
    let index = filed.only id item (omega (arith, lt, all)) live in
    let kind = beside kinds ids index.0 id filed.sized index.1 in
    let there = filed.stand index.0 kind.0 kind.1 in
    let same : there.id ≡ id = some_number there.id id (sym there.named ∙ index.1) in
    let one : there.item ≡ item = some_item there.item item (sym there.live ∙ ap (λ (n : ℕ). type_at t n) same ∙ live) in
    ap (λ (x : Item). x.kind.entry) (sym one) ∙ ap (λ (k : Kind). k.entry) there.kind_is ∙ plain index.0 kind.0 kind.1

-- types that are added stand behind
has_behind : (t v : Table) → ((id : ℕ) (item : Item) → type_at t id ≡ Some item → item.kind.entry ≡ false) → Grows t v → HasBehind t v
has_behind t v plain g = record { more = g.more; behind = g.behind; apart = apart }
  where
    before : (id : ℕ) (item : Item) → id < next_id t → type_at v id ≡ Some item → type_at t id ≡ Some item
    before id item lt e = sym (ap (λ (l : List (Option Item)). slice_index_or l id None) g.behind ∙ front t.types g.more id lt) ∙ e

    apart : (id other : ℕ) (x y : Item) → id < next_id t → next_id t ≤ other → type_at v id ≡ Some x → type_at v other ≡ Some y → x.kind ≡ y.kind → ⊥
    apart id other x y lt le live there alike =
        let own = before id x lt live in
        g.apart id other x y own le there (ap (λ (k : Kind). k.entry) (sym alike) ∙ plain id x own) alike

-- nothing is behind
none_behind : (t : Table) → HasBehind t t
none_behind t = record {
  more = [];
  behind = sym (append-nil t.types);
  apart = λ id other x y lt le live there. let past = within t.types other y there in absurd (omega (arith, le, past));
}

-- ---- the module

module _ {B : Type 0} (features : WasmFeatures) (bytes : List ℕ) (s : Sections) (begin : Option ℕ) (i : Ids) (m : Spaces B) (file : FileEnv) (law : FilledModulesAreFiled B)
    (reads : ReadsSections features bytes (state_of s)) (f : IsFilledFrom s begin i m) (o : IsFileOf s m.types m.tags m.memories file) where
  filed_as : (e : ModuleEnv) (v : Table) (locals : ℕ → List ℕ) (function : ℕ) → IsEnv file v e → HasBehind m.types v
      → IsFiled e (record i { locals = locals }) function (length (locals function)) features (around features (state_of s))
  filed_as e v locals function env behind = law features bytes s begin i (record i { locals = locals }) m e function reads f is refl
    where
      is : IsEnvOf s m e
      is = record {
        types = subst (λ (t : Table). HasBehind m.types t) (sym env.types_are) behind;
        memories = env.memories_are ∙ o.memories_are;
        own_types = env.own_are ∙ o.own_types;
        has_data_count = env.counted_is ∙ o.has_data_count;
      }

  -- before types are added
  types_filed : AreFiled (types_of (state_of s).filled) i.types file.own_types m.types
  types_filed =
      let e : ModuleEnv = record { types = record { now = m.types; ref_ptr = file.tags.ref_ptr }; tags = file.tags; memories = file.memories; own_types = file.own_types; has_data_count = file.has_data_count; code_start = file.code_start } in
      let is : IsEnv file m.types e = record { types_are = refl; tags_are = refl; memories_are = refl; own_are = refl; counted_is = refl; begins = refl } in
      (filed_as e m.types i.locals 0 is (none_behind m.types)).types_are

  plain : (id : ℕ) (item : Item) → type_at m.types id ≡ Some item → item.kind.entry ≡ false
  plain = declared (types_of (state_of s).filled) i.types file.own_types m.types types_filed (read_types_are_plain features bytes (state_of s) reads) o.own_types

  pub filed_later : (v : Table) (e : ModuleEnv) (locals : ℕ → List ℕ) (function : ℕ) → Grows m.types v → IsEnv file v e
      → IsFiled e (record i { locals = locals }) function (length (locals function)) features (around features (state_of s))
  filed_later v e locals function g env = filed_as e v locals function env (has_behind m.types v plain g)

  pub tags_stand : (n tag : ℕ) → slice_get i.tags n ≡ Some tag → (item : Tag) × (item_at file.tags.now tag ≡ Some item) × IsFunctionType m.types item.ty
  tags_stand n tag named =
      let linked = subst (λ (t : State). IsLinked t.filled) reads.2 (file_linked features bytes reads.0 reads.1.0 reads.1.1) in
      let at = upto_is (length s.tags.items) n tag (ap (λ (x : Ids). slice_get x.tags n) (sym f.numbers) ∙ named) in
      let slots : file.tags.now.slots ≡ f.tags.more = ap (λ (a : Arena Tag). a.slots) o.tags_are ∙ f.tags.behind in
      let read = tag_at (look_of i) (λ n. IsTyped (state_of s).filled n) (λ n. IsFunctionType m.types n)
      (λ n id typed look. typed_at (types_of (state_of s).filled) i.types file.own_types m.types types_filed n id typed look) s.tags.items f.tags.more n 0 at.1 f.tags.become linked.tags_typed in
      (read.0, ap (λ (l : List (Option Tag)). slice_index_or l tag None) slots ∙ ap (λ (k : ℕ). slice_index_or f.tags.more k None) at.0 ∙ read.1, read.2)

pub modules_are_ready : {B : Type 0} → FilledFunctionsStand B → FilledModulesAreFiled B → FilledModulesAreReady B
modules_are_ready functions law features bytes s begin i m file short small reads f o =
    let stand = functions features bytes s begin i m reads f in
    let fit = chunks_fit s.code_start (length bytes) s.bodies (bodies_inside features bytes (state_of s) small reads) in
    let look : ℕ → Option Function = λ n. slice_index_or m.functions.slots n None in
    let all = all_have (λ (f : Function). IsFunctionType m.types (type_of f.kind)) look m.functions.slots 0 (read_bodies s.bodies) stand.typed (λ k. let n : k ≡ 0 + k = omega arith in ap look n) in
    let later = filed_later features bytes s begin i m file law reads f o in record {
      ready = λ locals. record {
        placed = are_placed file s.code_start (length bytes) (bodiless m.functions) (read_bodies s.bodies) o.code_start (omega (arith, short)) fit;
        ready = λ k d lt. let h = all k d lt in record { item = h.0; live = h.1; typed = h.2; no_locals = ap (λ (x : Ids). x.locals (slice_index_or (bodies_in s m.functions) k d).number) f.numbers };
        apart = are_apart m.functions.slots 0 (read_bodies s.bodies);
        filed = (around features (state_of s), later);
        tags = tags_stand features bytes s begin i m file law reads f o;
      };
      is_module = later;
      codes_are = stand.paired.codes_are;
    }
