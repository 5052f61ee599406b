-- A linked module whose bodies' instructions stand at other places is linked.
use Rattle.std.proofs.Common.{ℕ, ◌≡◌, ◌∙◌, List, [], ◌∷◌, ◌++◌, length, Option, Some, None, Contains, IsSome, IfSome, refl, sym, ap, subst}
use Rattle.std.specs.List.{AllZip}
use Rattle.std.specs.Option.{option_and_then}
use Rattle.walrus_marks.specs.Named.{event_items, items_of}
use Rattle.walrus_marks.specs.walrus_instr.declared.seq.InstrLocId.{InstrLocId}
use Rattle.walrus_marks.specs.walrus_instr.walrus_items.declared.local.Local.{Local as LocalItem}
use Rattle.walrus_marks.specs.walrus_walks.Events.{Event, NamesType, events_of}
use Rattle.walrus_meaning.specs.walrus_local_function.walrus_body_locals.wasm_grammar.wasm_formats.declared.fault.Space.{Space}
use Rattle.walrus_meaning.specs.walrus_local_function.walrus_body_locals.wasm_grammar.wasm_formats.declared.fault.Space.TheVariants as spaces
use Rattle.walrus_meaning.specs.walrus_linked.Linked.{HasArguments, IsLinked, IsWhole, function_import, import_in}
use Rattle.walrus_meaning.specs.walrus_linked.Names.{body_events, body_names, function_names, named_by, names_in, used_types}
use Rattle.walrus_meaning.specs.walrus_linked.walrus_local_function.declared.local_function.LocalFunction.{LocalFunction}
use Rattle.walrus_meaning.specs.walrus_linked.walrus_module.Items.{LivesIn, brought, given_out}
use Rattle.walrus_meaning.specs.walrus_linked.walrus_module.Parts.{Module, parts}
use Rattle.walrus_meaning.specs.walrus_linked.walrus_module.walrus_builder.Functions.{seqs_of}
use Rattle.walrus_meaning.specs.walrus_linked.walrus_module.walrus_types.Items.{Item as TypeItem}
use Rattle.walrus_meaning.specs.walrus_linked.walrus_module.walrus_types.Table.{Table, type_at}
use Rattle.walrus_meaning.specs.walrus_linked.walrus_module.walrus_types.walrus_forms.Forms.{params_of}
use Rattle.walrus_meaning.specs.walrus_linked.walrus_module.walrus_types.walrus_forms.walrus_arena.Arena.{Arena, item_at}
use Rattle.walrus_meaning.specs.walrus_linked.walrus_module_items.Functions.{type_of}
use Rattle.walrus_meaning.specs.walrus_linked.walrus_module_items.declared.function.Function.{Function}
use Rattle.walrus_meaning.specs.walrus_linked.walrus_module_items.declared.function.FunctionKind.{FunctionKind}
use Rattle.walrus_meaning.specs.walrus_linked.walrus_module_items.declared.function.FunctionKind.TheVariants.{Import, Local, Uninitialized}
use Rattle.walrus_meaning.specs.walrus_linked.walrus_tree.Trees.{AreDistinct}
use Rattle.walrus_roots.specs.declared.item.Item.{Item}
use Rattle.walrus_parse_gc_laws.proofs.SeqLemmas.{tree_stays}
use Rattle.walrus_parse_gc_laws.proofs.SentLemmas.{Answered, FunctionShifted, KindShifted, LocalShifted, SlotsShifted, functions_moved}
use Rattle.walrus_parse_gc_laws.proofs.WalkLemmas.{body_told}
use Rattle.walrus_parse_gc_laws.proofs.ZipLemmas.{OptionZip, zip_append, zip_flat, zip_same, zip_slots}
use Rattle.walrus_parse_gc_laws.specs.Sent.{SentModulesAreLinked}

-- ---- what events name
module _ (locals : List LocalItem) where
  -- they name the same items, and locals of the same types
  abbrev Alike : Event → Event → Type 0
  Alike e f = (event_items f ≡ event_items e) × (used_types locals f ≡ used_types locals e)

  types_alike : (es fs : List Event) → AllZip Alike es fs → events_of (used_types locals) fs ≡ events_of (used_types locals) es
  types_alike [] [] z = refl
  types_alike [] (f ∷ fs) z = absurd z
  types_alike (e ∷ es) [] z = absurd z
  types_alike (e ∷ es) (f ∷ fs) z = λ i. z.0.1 i ++ types_alike es fs z.1 i

  names_alike : (es fs : List Event) → AllZip Alike es fs → items_of (fs ++ events_of (used_types locals) fs) ≡ items_of (es ++ events_of (used_types locals) es)
  names_alike es fs z =
      let us = events_of (used_types locals) es in
      let vs = events_of (used_types locals) fs in
      let types : AllZip Alike us vs = subst (AllZip Alike us) (sym (types_alike es fs z)) (zip_same Alike (λ e. (refl, refl)) us) in
      zip_flat Alike event_items event_items (λ e f h. h.0) (es ++ us) (fs ++ vs) (zip_append Alike es fs us vs z types)

module _ (P : InstrLocId → InstrLocId → Type 0) where
  -- ---- functions
  import_stays : (kind after : FunctionKind) → KindShifted P kind after → function_import after ≡ function_import kind
  import_stays (Local local) after h = ap function_import h.1
  import_stays (Import imported) after h = ap function_import h
  import_stays (Uninitialized ty) after h = ap function_import h

  local_names_stay : (locals : List LocalItem) (x y : LocalFunction) → LocalShifted P x y → items_of (NamesType y.builder.ty ∷ body_names locals (Local y)) ≡ items_of (NamesType x.builder.ty ∷ body_names locals (Local x))
  local_names_stay locals x y h =
      let told = body_told P (Alike locals) (λ e. (refl, refl)) (λ s t. (refl, refl)) (λ s t. (refl, refl)) (λ i p q. (refl, refl)) (seqs_of x.builder) (seqs_of y.builder) h.seqs 0 in
      let alike = names_alike locals (body_events x) (body_events y) told in
      λ i. event_items (NamesType (h.ty i)) ++ alike i

  names_stay : (locals : List LocalItem) (f after : Function) → KindShifted P f.kind after.kind → items_of (function_names locals after) ≡ items_of (function_names locals f)
  names_stay locals f after h = by_kind f.kind after.kind h
    where
      by_kind : (kind k : FunctionKind) → KindShifted P kind k → items_of (NamesType (type_of k) ∷ body_names locals k) ≡ items_of (NamesType (type_of kind) ∷ body_names locals kind)
      by_kind (Local local) k (new, is, moved) = subst (λ (x : FunctionKind). items_of (NamesType (type_of x) ∷ body_names locals x) ≡ items_of (NamesType local.builder.ty ∷ body_names locals (Local local))) (sym is) (local_names_stay locals local new moved)
      by_kind (Import imported) k is = ap (λ (x : FunctionKind). items_of (NamesType (type_of x) ∷ body_names locals x)) is
      by_kind (Uninitialized ty) k is = ap (λ (x : FunctionKind). items_of (NamesType (type_of x) ∷ body_names locals x)) is

  arguments_stay : (types : Table) (x y : LocalFunction) → LocalShifted P x y → HasArguments types x → HasArguments types y
  arguments_stay types x y h a =
      let Counted : ℕ → List ℕ → Type 0 = λ t args. IfSome (type_at types t) (λ (ty : TypeItem). length args ≡ length (params_of ty.kind.form)) in
      let typed : Counted y.builder.ty x.args.items = subst (λ (t : ℕ). Counted t x.args.items) (sym h.ty) a.counted in
      record { distinct = subst AreDistinct (sym h.args) a.distinct; counted = subst (Counted y.builder.ty) (sym h.args) typed }

  whole_stays : (types : Table) (kind after : FunctionKind) → KindShifted P kind after → IsWhole types kind → IsWhole types after
  whole_stays types (Local local) after (new, is, moved) w =
      subst (IsWhole types) (sym is) (arguments_stay types local new moved w.0, tree_stays P (seqs_of local.builder) (seqs_of new.builder) moved.seqs 0 w.1)
  whole_stays types (Import imported) after is w = subst (IsWhole types) (sym is) w
  whole_stays types (Uninitialized ty) after is w = absurd w

  -- ---- slots
  abbrev SlotShifted : Option Function → Option Function → Type 0
  SlotShifted = OptionZip (FunctionShifted P)

  slot_imports : (o p : Option Function) → SlotShifted o p → option_and_then (λ (f : Function). function_import f.kind) p ≡ option_and_then (λ (f : Function). function_import f.kind) o
  slot_imports None None z = refl
  slot_imports None (Some g) z = absurd z
  slot_imports (Some f) None z = absurd z
  slot_imports (Some f) (Some g) z = import_stays f.kind g.kind z.kind

  slot_names : (locals : List LocalItem) (o p : Option Function) → SlotShifted o p → items_of (named_by (function_names locals) p) ≡ items_of (named_by (function_names locals) o)
  slot_names locals None None z = refl
  slot_names locals None (Some g) z = absurd z
  slot_names locals (Some f) None z = absurd z
  slot_names locals (Some f) (Some g) z = names_stay locals f g z.kind

  lives_on : (o p : Option Function) → SlotShifted o p → IsSome o → IsSome p
  lives_on None None z h = h
  lives_on None (Some g) z h = absurd z
  lives_on (Some f) None z h = absurd z
  lives_on (Some f) (Some g) z h = refl

  lived_before : (o p : Option Function) → SlotShifted o p → IsSome p → IsSome o
  lived_before None None z h = h
  lived_before None (Some g) z h = absurd z
  lived_before (Some f) None z h = absurd z
  lived_before (Some f) (Some g) z h = refl

  whole_slot : (types : Table) (o p : Option Function) → SlotShifted o p → ((f : Function) → o ≡ Some f → IsWhole types f.kind) → (g : Function) → p ≡ Some g → IsWhole types g.kind
  whole_slot types None None z whole g e = absurd cc
  whole_slot types None (Some x) z whole g e = absurd z
  whole_slot types (Some f) None z whole g e = absurd z
  whole_slot types (Some f) (Some x) z whole g e =
      let same : x ≡ g = cc in
      subst (λ (y : Function). IsWhole types y.kind) same (whole_stays types f.kind x.kind z.kind (whole f refl))

  module _ (m : Module) (functions : Arena Function) (moved : SlotsShifted P m.funcs.slots functions.slots) where
    abbrev n : Module
    n = record m { funcs = functions }

    shifted_at : (id : ℕ) → SlotShifted (item_at m.funcs id) (item_at functions id)
    shifted_at id = zip_slots (FunctionShifted P) m.funcs.slots functions.slots moved id

    imports_stay : (space : Space) (id : ℕ) → import_in n space id ≡ import_in m space id
    imports_stay spaces.Function id = slot_imports (item_at m.funcs id) (item_at functions id) (shifted_at id)
    imports_stay _ id = refl

    all_names_stay : (space : Space) (id : ℕ) → items_of (names_in n space id) ≡ items_of (names_in m space id)
    all_names_stay spaces.Function id = slot_names m.locals (item_at m.funcs id) (item_at functions id) (shifted_at id)
    all_names_stay _ id = refl

    live_on : (space : Space) (id : ℕ) → LivesIn m space id → LivesIn n space id
    live_on spaces.Function id h = lives_on (item_at m.funcs id) (item_at functions id) (shifted_at id) h
    live_on _ id h = h

    lived : (space : Space) (id : ℕ) → LivesIn n space id → LivesIn m space id
    lived spaces.Function id h = lived_before (item_at m.funcs id) (item_at functions id) (shifted_at id) h
    lived _ id h = h

    pub stays_linked : IsLinked m → IsLinked n
    stays_linked l = record {
      imports = λ i import e. imports_stay (brought import.kind).space (brought import.kind).id ∙ l.imports i import e;
      imported = λ x i e. l.imported x i (sym (imports_stay x.space x.id) ∙ e);
      whole = λ f function e. whole_slot m.types (item_at m.funcs f) (item_at functions f) (shifted_at f) (l.whole f) function e;
      named = λ x y lx has. live_on y.space y.id (l.named x y (lived x.space x.id lx) (subst (λ (items : List Item). Contains items y) (all_names_stay x.space x.id) has));
      grouped = l.grouped;
      exported = λ e export at. live_on (given_out export.item).space (given_out export.item).id (l.exported e export at);
      started = λ f e. live_on spaces.Function f (l.started f e);
    }

pub sent_linked : {F : Type 0} (step : F → ℕ → InstrLocId → F → Type 0) {B : Type 0} → SentModulesAreLinked step B
sent_linked step f g m functions sent l = stays_linked (Answered step) (parts m) functions (functions_moved step f g m.funcs functions sent) l
