-- Lemmas: what a module means links, and which items imports bring.
use Rattle.std.specs.Prelude.{ℕ, zero, suc, ◌≡◌, Bool, true, false, List, [], ◌∷◌, map, Option, Some, None, slice_index_or, refl, if◌then◌else◌}
use Rattle.std.specs.List.{cons_option, filter_map}
use Rattle.std.specs.Option.{option_and_then, option_map}
use Rattle.std.proofs.Common.{ap, sym, ◌∙◌, subst}
use Rattle.std.proofs.lemmas.Option.{cond_some, none-some, same_Some}
use Rattle.wasm_formats.specs.declared.fault.Space.{Space as FileSpace}
use Rattle.wasm_formats.specs.declared.fault.Space.TheVariants as spaces
use Rattle.wasm_operators.specs.Items.{Space, Functions, Tables, Memories, Tags, Globals}
use Rattle.wasm_grammar.specs.Modules as grammar
use Rattle.wasm_body_grammar.specs.Rules.{space_of}
use Rattle.wasm_import_links.specs.Links.{ImportsLink, function_brought, global_brought, memory_brought, origin_import, slot_import, table_brought, tag_brought, brought as brings_of}
use Rattle.wasm_part.specs.Order.{brought_by, brought_to, import_of, is_to}
use Rattle.walrus_items.specs.declared.local.Local.{Local}
use Rattle.walrus_module.specs.Items.{brought}
use Rattle.walrus_module.specs.Linking.{import_in}
use Rattle.walrus_module.specs.Parts.{Module}
use Rattle.walrus_module_items.specs.Imported.{function_import, global_import, tag_import}
use Rattle.walrus_module_items.specs.declared.function.Function.{Function}
use Rattle.walrus_module_items.specs.declared.function.FunctionKind.{FunctionKind}
use Rattle.walrus_module_items.specs.declared.function.FunctionKind.TheVariants as functions
use Rattle.walrus_module_items.specs.declared.global.Global.{Global}
use Rattle.walrus_module_items.specs.declared.global.GlobalKind.{GlobalKind}
use Rattle.walrus_module_items.specs.declared.global.GlobalKind.TheVariants as globals
use Rattle.walrus_module_items.specs.declared.import.Import.{Import}
use Rattle.walrus_module_items.specs.declared.import.ImportKind.{ImportKind}
use Rattle.walrus_module_items.specs.declared.import.ImportKind.TheVariants as kinds
use Rattle.walrus_module_items.specs.declared.memory.Memory.{Memory}
use Rattle.walrus_module_items.specs.declared.table.Table.{Table}
use Rattle.walrus_module_items.specs.declared.tag.Tag.{Tag}
use Rattle.walrus_item_meaning.specs.Meaning.{own_brought, own_global, own_import, own_memory, own_table, own_tag, own_value_of}
use Rattle.walrus_meaning.specs.Meaning.{means, own_function, own_origin}
use Rattle.walrus_roots.specs.declared.item.Item.{Item}
use Rattle.walrus_roots.specs.Items.{item}
use Rattle.walrus_plan_laws.specs.Emissions.{IsBound}
use Rattle.walrus_plan_laws.specs.Plans.{living}
use Rattle.walrus_plan_laws.proofs.Lists.{Apart, In, apart_given, given_in, in_given, rise_apart}
use Rattle.walrus_plan_laws.proofs.Slots.{living_has, living_rises, slot_at}

-- ---- the import that an item says brings it

slot_brought : {A B : Type 0} (see : A → B) (brings : B → Option ℕ) (by : A → Option ℕ) → ((x : A) → brings (see x) ≡ by x) → (slots : List (Option A)) (n : ℕ)
    → slice_index_or (map (slot_import brings) (map (option_map see) slots)) n None ≡ option_and_then by (slice_index_or slots n None)
slot_brought see brings by h [] n = refl
slot_brought see brings by h (None ∷ slots) zero = refl
slot_brought see brings by h (Some x ∷ slots) zero = h x
slot_brought see brings by h (x ∷ slots) (suc n) = slot_brought see brings by h slots n

function_by : (locals : List Local) (k : FunctionKind) → origin_import (own_origin locals k) ≡ function_import k
function_by locals (functions.Import imported) = refl
function_by locals (functions.Local local) = refl
function_by locals (functions.Uninitialized ty) = refl

global_by : (k : GlobalKind) → origin_import (own_value_of k) ≡ global_import k
global_by (globals.Import import) = refl
global_by (globals.Local init) = refl

module _ (a : Module) where
  pub import_same : (space : FileSpace) (n : ℕ) → slice_index_or (brings_of (means a) space) n None ≡ import_in a space n
  import_same spaces.Function n = slot_brought (own_function a.locals) function_brought (λ (f : Function). function_import f.kind) (λ f. function_by a.locals f.kind) a.funcs.slots n
  import_same spaces.Table n = slot_brought own_table table_brought (λ (t : Table). t.import) (λ t. refl) a.tables.slots n
  import_same spaces.Memory n = slot_brought own_memory memory_brought (λ (x : Memory). x.import) (λ x. refl) a.memories.slots n
  import_same spaces.Tag n = slot_brought own_tag tag_brought (λ (t : Tag). tag_import t.kind) (λ t. refl) a.tags.slots n
  import_same spaces.Global n = slot_brought own_global global_brought (λ (g : Global). global_import g.kind) (λ g. global_by g.kind) a.globals.slots n
  import_same spaces.«Type» n = refl
  import_same spaces.Element n = refl
  import_same spaces.Data n = refl
  import_same spaces.Local n = refl
  import_same spaces.Label n = refl

-- ---- imports and what they bring

abbrev seen_item : Item → grammar.Item
seen_item i = record { space = i.space; number = i.id }

brought_is : (k : ImportKind) → own_brought k ≡ seen_item (brought k)
brought_is (kinds.Function id) = refl
brought_is (kinds.Table id) = refl
brought_is (kinds.Memory id) = refl
brought_is (kinds.Global id) = refl
brought_is (kinds.Tag id) = refl

pub filled : {A B : Type 0} (see : A → B) (o : Option A) (y : B) → option_map see o ≡ Some y → (x : A) × ((o ≡ Some x) × (see x ≡ y))
filled see None y e = absurd (none-some y e)
filled see (Some x) y e = (x, (refl, same_Some (see x) y e))

module _ (a : Module) (bound : IsBound a) where
  import_there : (i : ℕ) (x : grammar.Import) → slice_index_or (means a).imports i None ≡ Some x → (import : Import) × ((slice_index_or a.imports.slots i None ≡ Some import) × (own_import import ≡ x))
  import_there i x e = filled own_import (slice_index_or a.imports.slots i None) x (sym (slot_at own_import a.imports.slots i) ∙ e)

  pub links : ImportsLink (means a)
  links = record {
    named = λ i x e.
        let h = import_there i x e in
        let kind = h.0.kind in
        let named : import_in a (brought kind).space (brought kind).id ≡ Some i = bound.imports i h.0 h.1.0 in
        let at : slice_index_or (brings_of (means a) (own_brought kind).space) (own_brought kind).number None ≡ Some i =
        ap (λ (y : grammar.Item). slice_index_or (brings_of (means a) y.space) y.number None) (brought_is kind) ∙ import_same a (brought kind).space (brought kind).id ∙ named in
        subst (λ (y : grammar.Import). slice_index_or (brings_of (means a) y.item.space) y.item.number None ≡ Some i) h.1.1 at;
    told = λ space n i e.
        let h = bound.imported (item space n) i (sym (import_same a space n) ∙ e) in (
          own_import h.0,
          slot_at own_import a.imports.slots i ∙ ap (option_map own_import) h.1,
          brought_is h.0.kind ∙ ap seen_item h.2,
        );
  }

-- ---- what imports bring to a space, by a module that links

to_is : (space : Space) (s : FileSpace) → is_to space s ≡ true → s ≡ space_of space
to_is Functions spaces.Function e = refl
to_is Tables spaces.Table e = refl
to_is Memories spaces.Memory e = refl
to_is Tags spaces.Tag e = refl
to_is Globals spaces.Global e = refl
to_is _ _ e = absurd cc

-- the five spaces whose items imports bring
abbrev pub IsBrought : Space → Type 0
IsBrought space = is_to space (space_of space) ≡ true

module _ (m : grammar.Module) (link : ImportsLink m) (space : Space) where
  abbrev gives : ℕ → Option ℕ
  gives k = brought_to space (slice_index_or m.imports k None)

  given_by : (n k : ℕ) (o : Option grammar.Import) → slice_index_or m.imports k None ≡ o → brought_to space o ≡ Some n → import_of m space n ≡ Some k
  given_by n k None is e = absurd (none-some n e)
  given_by n k (Some x) is e =
      let q = cond_some (is_to space x.item.space) x.item.number n e in
      let at : slice_index_or (brings_of m x.item.space) n None ≡ Some k = subst (λ (j : ℕ). slice_index_or (brings_of m x.item.space) j None ≡ Some k) q.1 (link.named k x is) in
      subst (λ (s : FileSpace). slice_index_or (brings_of m s) n None ≡ Some k) (to_is space x.item.space q.0) at

  given_is : (k n : ℕ) → gives k ≡ Some n → import_of m space n ≡ Some k
  given_is k n e = given_by n k (slice_index_or m.imports k None) refl e

  -- each once
  pub brought_apart : Apart (brought_by m space (living m.imports))
  brought_apart = apart_given gives (living m.imports) (rise_apart 0 (living m.imports) (living_rises m.imports))
      (λ i j n e f. same_Some i j (sym (given_is i n e) ∙ given_is j n f))

  pub brought_has : (n : ℕ) → In (brought_by m space (living m.imports)) n → (k : ℕ) × (import_of m space n ≡ Some k)
  brought_has n at = let h = given_in gives (living m.imports) n at in (h.0, given_is h.0 n h.2)

  pub has_brought : IsBrought space → (n k : ℕ) → import_of m space n ≡ Some k → In (brought_by m space (living m.imports)) n
  has_brought to n k e =
      let h = link.told (space_of space) n k e in
      let gave : gives k ≡ Some n =
      ap (brought_to space) h.1
      ∙ ap (λ (y : grammar.Item). if is_to space y.space then Some y.number else None) h.2
      ∙ ap (λ (b : Bool). if b then Some n else None) to in
      in_given gives (living m.imports) k n (living_has m.imports k h.0 h.1) gave

-- nothing is brought to other spaces
none_to : (space : Space) → ((s : FileSpace) → is_to space s ≡ false) → (o : Option grammar.Import) → brought_to space o ≡ None
none_to space h None = refl
none_to space h (Some x) = ap (λ (b : Bool). if b then Some x.item.number else None) (h x.item.space)

nothing_given : (F : ℕ → Option ℕ) → ((n : ℕ) → F n ≡ None) → (ns : List ℕ) → filter_map F ns ≡ []
nothing_given F h [] = refl
nothing_given F h (n ∷ ns) = subst (λ (o : Option ℕ). cons_option o (filter_map F ns) ≡ []) (sym (h n)) (nothing_given F h ns)

pub none_brought : (m : grammar.Module) (space : Space) → ((s : FileSpace) → is_to space s ≡ false) → (ns : List ℕ) → brought_by m space ns ≡ []
none_brought m space h ns = nothing_given (λ n. brought_to space (slice_index_or m.imports n None)) (λ n. none_to space h (slice_index_or m.imports n None)) ns
