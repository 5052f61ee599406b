-- Lemmas: the part of a module is as it stands in a file.
use Rattle.std.specs.Prelude.{ℕ, ◌≡◌, ◌+◌, true, List, [], ◌∷◌, ◌++◌, length, map, Option, Some, None, IsSome, slice_get, slice_index_or, refl, if◌then◌else◌}
use Rattle.std.specs.List.{AllByRecursion}
use Rattle.std.specs.Option.{option_map}
use Rattle.std.proofs.Common.{ap, sym, ◌∙◌, subst, arith}
use Rattle.std.proofs.lemmas.List.{append-nil, append_assoc, length-append}
use Rattle.wasm_formats.specs.declared.fault.Space.{Space as FileSpace}
use Rattle.wasm_formats.specs.declared.fault.Space.TheVariants as spaces
use Rattle.wasm_operators.specs.Items.{Space, Functions, Tables, Memories, Tags, Globals, ElementSegments, DataSegments}
use Rattle.wasm_grammar.specs.Modules.{Body, Element, Expr, Function, Global, Import, Imported, Mode, Module, Origin, Own, Passive, Declared, Active, Table}
use Rattle.wasm_import_links.specs.Links.{brought, function_brought, global_brought, memory_brought, origin_import, slot_import, table_brought, tag_brought}
use Rattle.wasm_module_bytes.specs.Due.{IsExported, IsWritten}
use Rattle.wasm_section_bytes.specs.Flags.{IsNotDeclared}
use Rattle.wasm_part.specs.Part.{Plan, declaring, number_in, part, picked, renumbered_body, renumbered_element, renumbered_export, renumbered_expr, renumbered_function, renumbered_global, renumbered_import, renumbered_memory, renumbered_mode, renumbered_own, renumbered_segment, renumbered_table, renumbered_tag}
use Rattle.wasm_part.specs.Closed.{IsListed}
use Rattle.wasm_part.specs.Kept.{AreFilled, ListsItems}
use Rattle.wasm_part.specs.Order.{InOrder, brought_by, is_to}
use Rattle.wasm_part.proofs.Picked.{each_at, picked_at}
use Rattle.wasm_canonical.specs.Due.{items_in}
use Rattle.wasm_canonical.specs.Dense.{AreThere, BringAll, Brings, Counts, IsDense, IsOwnFunction, IsOwnGlobal, IsOwnMemory, IsOwnTable, IsOwnTag, all_of, none_brought, one_more}
use Rattle.wasm_rewritten.specs.Dense.{IsOrderly, PartsAreDense}
use Rattle.wasm_rewritten.proofs.Listed.{brought_at, each_unit, one_longer, own_behind, picked_there, slot_mapped, there_joined}

-- ---- how many items of each space the imports so far bring

record Counted (m : Module) (earlier : List ℕ) (c : Counts) : Type 0 where
  imports : c.imports ≡ length earlier
  functions : c.functions ≡ length (brought_by m Functions earlier)
  tables : c.tables ≡ length (brought_by m Tables earlier)
  memories : c.memories ≡ length (brought_by m Memories earlier)
  tags : c.tags ≡ length (brought_by m Tags earlier)
  globals : c.globals ≡ length (brought_by m Globals earlier)

counted_more : (m : Module) (earlier : List ℕ) (n : ℕ) (x : Import) (space : FileSpace) (c d : Counts) → slice_index_or m.imports n None ≡ Some x → x.item.space ≡ space → Counted m earlier c
    → d.imports ≡ c.imports + 1
    → d.functions ≡ c.functions + (if is_to Functions space then 1 else 0)
    → d.tables ≡ c.tables + (if is_to Tables space then 1 else 0)
    → d.memories ≡ c.memories + (if is_to Memories space then 1 else 0)
    → d.tags ≡ c.tags + (if is_to Tags space then 1 else 0)
    → d.globals ≡ c.globals + (if is_to Globals space then 1 else 0)
    → Counted m (earlier ++ n ∷ []) d
counted_more m earlier n x space c d at to h i f t y a g = record {
  imports = i ∙ ap (λ (k : ℕ). k + 1) h.imports ∙ sym (length-append earlier (n ∷ []));
  functions = f ∙ one Functions c.functions h.functions;
  tables = t ∙ one Tables c.tables h.tables;
  memories = y ∙ one Memories c.memories h.memories;
  tags = a ∙ one Tags c.tags h.tags;
  globals = g ∙ one Globals c.globals h.globals;
}
  where
    one : (s : Space) (k : ℕ) → k ≡ length (brought_by m s earlier) → k + (if is_to s space then 1 else 0) ≡ length (brought_by m s (earlier ++ n ∷ []))
    one s k e =
        ap (λ (k : ℕ). k + (if is_to s space then 1 else 0)) e ∙ ap (λ (z : FileSpace). length (brought_by m s earlier) + (if is_to s z then 1 else 0)) (sym to)
        ∙ sym (one_longer m s earlier n x at)

zero_more : (n : ℕ) → n ≡ n + 0
zero_more n = omega arith

counted_next : (m : Module) (earlier : List ℕ) (n : ℕ) (x : Import) (space : FileSpace) (c : Counts) → slice_index_or m.imports n None ≡ Some x → x.item.space ≡ space → Counted m earlier c
    → Counted m (earlier ++ n ∷ []) (one_more c space)
counted_next m earlier n x spaces.Function c at to h = counted_more m earlier n x spaces.Function c (one_more c spaces.Function) at to h refl refl (zero_more c.tables) (zero_more c.memories) (zero_more c.tags) (zero_more c.globals)
counted_next m earlier n x spaces.Table c at to h = counted_more m earlier n x spaces.Table c (one_more c spaces.Table) at to h refl (zero_more c.functions) refl (zero_more c.memories) (zero_more c.tags) (zero_more c.globals)
counted_next m earlier n x spaces.Memory c at to h = counted_more m earlier n x spaces.Memory c (one_more c spaces.Memory) at to h refl (zero_more c.functions) (zero_more c.tables) refl (zero_more c.tags) (zero_more c.globals)
counted_next m earlier n x spaces.Tag c at to h = counted_more m earlier n x spaces.Tag c (one_more c spaces.Tag) at to h refl (zero_more c.functions) (zero_more c.tables) (zero_more c.memories) refl (zero_more c.globals)
counted_next m earlier n x spaces.Global c at to h = counted_more m earlier n x spaces.Global c (one_more c spaces.Global) at to h refl (zero_more c.functions) (zero_more c.tables) (zero_more c.memories) (zero_more c.tags) refl
counted_next m earlier n x spaces.«Type» c at to h = counted_more m earlier n x spaces.«Type» c (one_more c spaces.«Type») at to h refl (zero_more c.functions) (zero_more c.tables) (zero_more c.memories) (zero_more c.tags) (zero_more c.globals)
counted_next m earlier n x spaces.Element c at to h = counted_more m earlier n x spaces.Element c (one_more c spaces.Element) at to h refl (zero_more c.functions) (zero_more c.tables) (zero_more c.memories) (zero_more c.tags) (zero_more c.globals)
counted_next m earlier n x spaces.Data c at to h = counted_more m earlier n x spaces.Data c (one_more c spaces.Data) at to h refl (zero_more c.functions) (zero_more c.tables) (zero_more c.memories) (zero_more c.tags) (zero_more c.globals)
counted_next m earlier n x spaces.Local c at to h = counted_more m earlier n x spaces.Local c (one_more c spaces.Local) at to h refl (zero_more c.functions) (zero_more c.tables) (zero_more c.memories) (zero_more c.tags) (zero_more c.globals)
counted_next m earlier n x spaces.Label c at to h = counted_more m earlier n x spaces.Label c (one_more c spaces.Label) at to h refl (zero_more c.functions) (zero_more c.tables) (zero_more c.memories) (zero_more c.tags) (zero_more c.globals)

-- ---- imports and what they bring

is_brought : (o : Origin Body) (n : ℕ) → origin_import o ≡ Some n → o ≡ Imported n
is_brought (Imported k) n e = ap (λ (k : ℕ). Imported k) (some_same k n e)
  where
    some_same : (x y : ℕ) → (let some : ℕ → Option ℕ = λ x. Some x in some x ≡ some y) → x ≡ y
    some_same x y e = cc
is_brought (Own x) n e = absurd cc

init_brought : (o : Origin Expr) (n : ℕ) → origin_import o ≡ Some n → o ≡ Imported n
init_brought (Imported k) n e = ap (λ (k : ℕ). Imported k) (some_same k n e)
  where
    some_same : (x y : ℕ) → (let some : ℕ → Option ℕ = λ x. Some x in some x ≡ some y) → x ≡ y
    some_same x y e = cc
init_brought (Own x) n e = absurd cc

none_at : (k n : ℕ) → (let none : List (Option ℕ) = [] in slice_index_or none k None ≡ Some n) → ⊥
none_at k n e = cc

there_from : {A : Type 0} (from : A → Option ℕ) (o : Option A) (n : ℕ) → slot_import from o ≡ Some n → (x : A) × (o ≡ Some x) × (from x ≡ Some n)
there_from from None n e = absurd cc
there_from from (Some x) n e = (x, refl, e)

module _ (p : Plan) (m : Module) (orderly : IsOrderly m) (h : InOrder m p) (there : ListsItems p m) (only : (space : Space) (i n : ℕ) → IsListed space → slice_get (p.listed space) i ≡ Some n → p.renames space n ≡ i) where
  abbrev N : Module
  N = part p m

  -- the item that an import brings, and where it stands in the part
  record StandsAs {A : Type 0} (space : Space) (from : A → Option ℕ) (f : A → A) (xs : List (Option A)) (k n c : ℕ) : Type 0 where
    number : p.renames space k ≡ c
    item : A
    is : from item ≡ Some n
    at : slice_index_or xs k None ≡ Some item
    stands : slice_index_or (picked f (p.listed space) xs) (p.renames space k) None ≡ Some (f item)

  stands_as : {A : Type 0} (space : Space) → IsListed space → (from : A → Option ℕ) (f : A → A) (xs : List (Option A)) (earlier later : List ℕ) (n c : ℕ) (x : Import)
      → p.imports ≡ earlier ++ n ∷ later → slice_index_or m.imports n None ≡ Some x → is_to space x.item.space ≡ true → c ≡ length (brought_by m space earlier)
      → slice_index_or (map (slot_import from) xs) x.item.number None ≡ Some n → StandsAs space from f xs x.item.number n c
  stands_as {A} space shared from f xs earlier later n c x all at to count link =
      let source = there_from from (slice_index_or xs x.item.number None) n (sym (slot_mapped from xs x.item.number) ∙ link) in
      let place : slice_get (p.listed space) c ≡ Some x.item.number = ap (λ (l : List ℕ). slice_get l c) (h.listed space shared ∙ ap (λ (l : List ℕ). brought_by m space l ++ h.own space) all)
      ∙ ap (λ (i : ℕ). slice_get (brought_by m space (earlier ++ n ∷ later) ++ h.own space) i) count ∙ brought_at m space earlier later (h.own space) n x at to in
      let new = only space c x.item.number shared place in record {
        number = new;
        item = source.0;
        is = source.2;
        at = source.1;
        stands = ap (λ (i : ℕ). slice_index_or (picked f (p.listed space) xs) i None) new ∙ picked_at f xs (p.listed space) c x.item.number place ∙ ap (λ (o : Option A). option_map f o) source.1;
      }

  place_of : (earlier later : List ℕ) (n : ℕ) → p.imports ≡ earlier ++ n ∷ later → p.brings n ≡ length earlier
  place_of earlier later n all = h.brings (length earlier) n (ap (λ (l : List ℕ). slice_get l (length earlier)) all ∙ seam_get earlier)
    where
      seam_get : (xs : List ℕ) → slice_get (xs ++ n ∷ later) (length xs) ≡ Some n
      seam_get [] = refl
      seam_get (x ∷ xs) = seam_get xs

  one_brings : (earlier later : List ℕ) (n : ℕ) (c : Counts) (x : Import) (space : FileSpace) → p.imports ≡ earlier ++ n ∷ later → Counted m earlier c → slice_index_or m.imports n None ≡ Some x
      → x.item.space ≡ space → Brings N c space (number_in p.renames space x.item.number)
  one_brings earlier later n c x spaces.Function all counts at to =
      let link = subst (λ (z : FileSpace). slice_index_or (brought m z) x.item.number None ≡ Some n) to (orderly.linked.named n x at) in
      let y = stands_as Functions tt function_brought (renumbered_function p.renames p.brings) m.functions earlier later n c.functions x all at (ap (λ (z : FileSpace). is_to Functions z) to) counts.functions link in
      let new : p.brings n ≡ c.imports = place_of earlier later n all ∙ sym counts.imports in
      (y.number, (renumbered_function p.renames p.brings y.item, y.stands, ap (λ (o : Origin Body). renumbered_own p.renames p.brings (renumbered_body p.renames) o) (is_brought y.item.origin n y.is) ∙ ap (λ (k : ℕ). Imported k) new))
  one_brings earlier later n c x spaces.Table all counts at to =
      let link = subst (λ (z : FileSpace). slice_index_or (brought m z) x.item.number None ≡ Some n) to (orderly.linked.named n x at) in
      let y = stands_as Tables tt table_brought (renumbered_table p.renames p.brings) m.tables earlier later n c.tables x all at (ap (λ (z : FileSpace). is_to Tables z) to) counts.tables link in
      let new : p.brings n ≡ c.imports = place_of earlier later n all ∙ sym counts.imports in
      (y.number, (renumbered_table p.renames p.brings y.item, y.stands, ap (λ (o : Option ℕ). option_map p.brings o) y.is ∙ ap (λ (k : ℕ). Some k) new, ap (λ (o : Option Expr). option_map (renumbered_expr p.renames) o) (each_at (λ (t : Table). (i : ℕ) → t.imported ≡ Some i → t.init ≡ None) m.tables x.item.number y.item orderly.tables y.at n y.is)))
  one_brings earlier later n c x spaces.Memory all counts at to =
      let link = subst (λ (z : FileSpace). slice_index_or (brought m z) x.item.number None ≡ Some n) to (orderly.linked.named n x at) in
      let y = stands_as Memories tt memory_brought (renumbered_memory p.renames p.brings) m.memories earlier later n c.memories x all at (ap (λ (z : FileSpace). is_to Memories z) to) counts.memories link in
      let new : p.brings n ≡ c.imports = place_of earlier later n all ∙ sym counts.imports in
      (y.number, (renumbered_memory p.renames p.brings y.item, y.stands, ap (λ (o : Option ℕ). option_map p.brings o) y.is ∙ ap (λ (k : ℕ). Some k) new))
  one_brings earlier later n c x spaces.Tag all counts at to =
      let link = subst (λ (z : FileSpace). slice_index_or (brought m z) x.item.number None ≡ Some n) to (orderly.linked.named n x at) in
      let y = stands_as Tags tt tag_brought (renumbered_tag p.renames p.brings) m.tags earlier later n c.tags x all at (ap (λ (z : FileSpace). is_to Tags z) to) counts.tags link in
      let new : p.brings n ≡ c.imports = place_of earlier later n all ∙ sym counts.imports in
      (y.number, (renumbered_tag p.renames p.brings y.item, y.stands, ap (λ (o : Option ℕ). option_map p.brings o) y.is ∙ ap (λ (k : ℕ). Some k) new))
  one_brings earlier later n c x spaces.Global all counts at to =
      let link = subst (λ (z : FileSpace). slice_index_or (brought m z) x.item.number None ≡ Some n) to (orderly.linked.named n x at) in
      let y = stands_as Globals tt global_brought (renumbered_global p.renames p.brings) m.globals earlier later n c.globals x all at (ap (λ (z : FileSpace). is_to Globals z) to) counts.globals link in
      let new : p.brings n ≡ c.imports = place_of earlier later n all ∙ sym counts.imports in
      (y.number, (renumbered_global p.renames p.brings y.item, y.stands, ap (λ (o : Origin Expr). renumbered_own p.renames p.brings (renumbered_expr p.renames) o) (init_brought y.item.origin n y.is) ∙ ap (λ (k : ℕ). Imported k) new))
  one_brings earlier later n c x spaces.«Type» all counts at to = absurd (none_at x.item.number n (subst (λ (z : FileSpace). slice_index_or (brought m z) x.item.number None ≡ Some n) to (orderly.linked.named n x at)))
  one_brings earlier later n c x spaces.Element all counts at to = absurd (none_at x.item.number n (subst (λ (z : FileSpace). slice_index_or (brought m z) x.item.number None ≡ Some n) to (orderly.linked.named n x at)))
  one_brings earlier later n c x spaces.Data all counts at to = absurd (none_at x.item.number n (subst (λ (z : FileSpace). slice_index_or (brought m z) x.item.number None ≡ Some n) to (orderly.linked.named n x at)))
  one_brings earlier later n c x spaces.Local all counts at to = absurd (none_at x.item.number n (subst (λ (z : FileSpace). slice_index_or (brought m z) x.item.number None ≡ Some n) to (orderly.linked.named n x at)))
  one_brings earlier later n c x spaces.Label all counts at to = absurd (none_at x.item.number n (subst (λ (z : FileSpace). slice_index_or (brought m z) x.item.number None ≡ Some n) to (orderly.linked.named n x at)))

  abbrev brought_in : List ℕ → List Import
  brought_in ns = items_in (picked (renumbered_import p.renames) ns m.imports)

  abbrev BringsSo : List ℕ → List ℕ → Counts → List Import → Type 0
  BringsSo all earlier c is = BringAll N c is × Counted m all (all_of c is)

  bring_one : (n : ℕ) (ns earlier : List ℕ) (c : Counts) → p.imports ≡ earlier ++ n ∷ ns → Counted m earlier c → (o : Option Import) → slice_index_or m.imports n None ≡ o → IsSome o
      → ((x : Import) → slice_index_or m.imports n None ≡ Some x → BringsSo (earlier ++ n ∷ ns) (earlier ++ n ∷ []) (one_more c x.item.space) (brought_in ns))
      → BringsSo (earlier ++ n ∷ ns) earlier c (items_in (option_map (renumbered_import p.renames) o ∷ picked (renumbered_import p.renames) ns m.imports))
  bring_one n ns earlier c all counts None at some later = absurd cc
  bring_one n ns earlier c all counts (Some x) at some later = let rest = later x at in ((one_brings earlier ns n c x x.item.space all counts at refl, rest.0), rest.1)

  all_bring : (ns earlier : List ℕ) (c : Counts) → p.imports ≡ earlier ++ ns → Counted m earlier c → AreFilled ns m.imports → BringsSo (earlier ++ ns) earlier c (brought_in ns)
  all_bring [] earlier c all counts filled = (tt, subst (λ (l : List ℕ). Counted m l c) (sym (append-nil earlier)) counts)
  all_bring (n ∷ ns) earlier c all counts filled =
      let next : earlier ++ n ∷ ns ≡ (earlier ++ n ∷ []) ++ ns = sym (append_assoc earlier (n ∷ []) ns) in
      bring_one n ns earlier c all counts (slice_index_or m.imports n None) refl filled.0
      (λ x at. subst (λ (l : List ℕ). BringsSo l (earlier ++ n ∷ []) (one_more c x.item.space) (brought_in ns)) (sym next)
      (all_bring ns (earlier ++ n ∷ []) (one_more c x.item.space) (all ∙ next) (counted_next m earlier n x x.item.space c at refl counts) filled.1))

  none_counted : Counted m [] none_brought
  none_counted = record { imports = refl; functions = refl; tables = refl; memories = refl; tags = refl; globals = refl }

  -- ---- all of it

  own_function : (f : Function) → function_brought f ≡ None → IsOwnFunction (Some (renumbered_function p.renames p.brings f))
  own_function f e = go f.origin e
    where
      go : (o : Origin Body) → origin_import o ≡ None → (x : Body) × (renumbered_own p.renames p.brings (renumbered_body p.renames) o ≡ Own x)
      go (Imported k) e = absurd cc
      go (Own x) e = (renumbered_body p.renames x, refl)

  own_global : (g : Global) → global_brought g ≡ None → IsOwnGlobal (Some (renumbered_global p.renames p.brings g))
  own_global g e = go g.origin e
    where
      go : (o : Origin Expr) → origin_import o ≡ None → (x : Expr) × (renumbered_own p.renames p.brings (renumbered_expr p.renames) o ≡ Own x)
      go (Imported k) e = absurd cc
      go (Own x) e = (renumbered_expr p.renames x, refl)

  mode_stays : (mode : Mode) → IsNotDeclared mode → IsNotDeclared (renumbered_mode p.renames Memories mode)
  mode_stays Passive e = tt
  mode_stays Declared e = e
  mode_stays (Active n offset) e = tt

  elements_there : (ns : List (List ℕ)) → AreThere (λ (e : Element). Unit {0}) (map (λ (l : List ℕ). Some (declaring p.renames l)) ns)
  elements_there [] = tt
  elements_there (n ∷ ns) = (tt, elements_there ns)

  pub dense : AllByRecursion IsWritten p.groups → IsDense (part p m)
  dense groups =
      let imports = all_bring p.imports [] none_brought refl none_counted there.imports in
      let counts = imports.1 in record {
        groups = groups;
        imports = picked_there (λ (i : Import). Unit {0}) (λ (i : Import). Unit {0}) (renumbered_import p.renames) m.imports p.imports there.imports (each_unit m.imports) (λ x e. tt);
        brings = imports.0;
        functions = own_behind IsOwnFunction function_brought (renumbered_function p.renames p.brings) m.functions (p.listed Functions) (brought_by m Functions p.imports) (h.own Functions) _ (h.listed Functions tt) counts.functions there.functions (h.are_own Functions tt) own_function;
        tables = own_behind IsOwnTable table_brought (renumbered_table p.renames p.brings) m.tables (p.listed Tables) (brought_by m Tables p.imports) (h.own Tables) _ (h.listed Tables tt) counts.tables there.tables (h.are_own Tables tt) (λ x e. ap (λ (o : Option ℕ). option_map p.brings o) e);
        memories = own_behind IsOwnMemory memory_brought (renumbered_memory p.renames p.brings) m.memories (p.listed Memories) (brought_by m Memories p.imports) (h.own Memories) _ (h.listed Memories tt) counts.memories there.memories (h.are_own Memories tt) (λ x e. ap (λ (o : Option ℕ). option_map p.brings o) e);
        tags = own_behind IsOwnTag tag_brought (renumbered_tag p.renames p.brings) m.tags (p.listed Tags) (brought_by m Tags p.imports) (h.own Tags) _ (h.listed Tags tt) counts.tags there.tags (h.are_own Tags tt) (λ x e. ap (λ (o : Option ℕ). option_map p.brings o) e);
        globals = own_behind IsOwnGlobal global_brought (renumbered_global p.renames p.brings) m.globals (p.listed Globals) (brought_by m Globals p.imports) (h.own Globals) _ (h.listed Globals tt) counts.globals there.globals (h.are_own Globals tt) own_global;
        exports = picked_there (λ e. IsExported e.item.space) (λ e. IsExported e.item.space) (renumbered_export p.renames) m.exports p.exports there.exports orderly.exports (λ x e. e);
        elements = there_joined (λ (e : Element). Unit {0}) (picked (renumbered_element p.renames) (p.listed ElementSegments) m.elements) (map (λ (l : List ℕ). Some (declaring p.renames l)) p.declared)
            (picked_there (λ (e : Element). Unit {0}) (λ (e : Element). Unit {0}) (renumbered_element p.renames) m.elements (p.listed ElementSegments) there.elements (each_unit m.elements) (λ x e. tt)) (elements_there p.declared);
        segments = picked_there (λ x. IsNotDeclared x.mode) (λ x. IsNotDeclared x.mode) (renumbered_segment p.renames) m.segments (p.listed DataSegments) there.segments orderly.segments (λ x e. mode_stays x.mode e);
      }

pub parts_dense : PartsAreDense
parts_dense p m orderly h there only groups = dense p m orderly h there only groups
