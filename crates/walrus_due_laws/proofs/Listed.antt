-- Lemmas: the part of a module that has all that lives.
use Rattle.std.specs.Prelude.{ℕ, zero, suc, ◌≡◌, true, not, List, [], ◌∷◌, ◌++◌, length, map, Contains, Option, Some, None, IsSome, slice_get, slice_index_or, refl}
use Rattle.std.specs.List.{cons_option, filter_map}
use Rattle.std.specs.Option.{option_map}
use Rattle.std.proofs.Common.{ap, sym, ◌∙◌, subst}
use Rattle.std.proofs.lemmas.Option.{cond_some, none-some, slice_get_read}
use Rattle.wasm_formats.specs.declared.fault.Space.{Space as FileSpace}
use Rattle.wasm_formats.specs.declared.fault.Space.TheVariants as spaces
use Rattle.wasm_operators.specs.Items.{Space, Types, Functions, Tables, Memories, Tags, Globals, ElementSegments, DataSegments}
use Rattle.wasm_operators.specs.Names.{Renaming}
use Rattle.wasm_grammar.specs.Modules.{Expr, Origin, Imported, Own, Body, Table, Global, Element, Import, Module}
use Rattle.wasm_body_grammar.specs.Codes.{own_type, type_if_own}
use Rattle.wasm_body_grammar.specs.Rules.{space_of}
use Rattle.wasm_import_links.specs.Links.{ImportsLink, brought, function_brought, global_brought, memory_brought, origin_import, slot_import, table_brought, tag_brought}
use Rattle.wasm_module_rules.specs.Linked.{Each}
use Rattle.wasm_sections.specs.Segments.{wide_table}
use Rattle.wasm_canonical.specs.Due.{global_entry, if_own, items_in, own_global, own_memory, own_table, own_tag}
use Rattle.wasm_part.specs.Part.{IsIn, Plan, declaring, part, picked, renumbered_body, renumbered_element, renumbered_export, renumbered_expr, renumbered_function, renumbered_global, renumbered_import, renumbered_memory, renumbered_own, renumbered_segment, renumbered_table, renumbered_tag}
use Rattle.wasm_part.specs.Closed.{Rise}
use Rattle.wasm_part.specs.Order.{brought_by, brought_to, is_to}
use Rattle.wasm_part.proofs.Picked.{picked_at}
use Rattle.walrus_emit_due.specs.Elements.{is_narrow}
use Rattle.walrus_emit_due.specs.Slots.{live_at}
use Rattle.walrus_due_laws.specs.Spelled.{in_slots}
use Rattle.walrus_due_laws.specs.Imports.{StandsIn}
use Rattle.walrus_due_laws.specs.Listed.{LivingAreListed, OwnItemsStay, PartsServe}
use Rattle.walrus_due_laws.proofs.Rising.{In, own_behind, own_stay}

-- ---- items that imports bring have no entries

if_own_none : {A : Type 0} (brings : ℕ → ℕ) (o : Option ℕ) (k : ℕ) (y : A) → o ≡ Some k → if_own (option_map brings o) y ≡ None
if_own_none brings None k y e = absurd (none-some k e)
if_own_none brings (Some j) k y e = refl

global_none : (r : Renaming) (brings : ℕ → ℕ) (g : Global) (o : Origin Expr) (k : ℕ) → origin_import o ≡ Some k → global_entry g (renumbered_own r brings (renumbered_expr r) o) ≡ None
global_none r brings g (Imported n) k e = refl
global_none r brings g (Own x) k e = absurd (none-some k e)

type_none : (r : Renaming) (brings : ℕ → ℕ) (ty : ℕ) (o : Origin Body) (k : ℕ) → origin_import o ≡ Some k → type_if_own ty (renumbered_own r brings (renumbered_body r) o) ≡ None
type_none r brings ty (Imported n) k e = refl
type_none r brings ty (Own x) k e = absurd (none-some k e)

-- ---- what imports bring

to_is : (space : Space) (s : FileSpace) → is_to space s ≡ true → s ≡ space_of space
to_is Functions spaces.Function e = refl
to_is Tables spaces.Table e = refl
to_is Memories spaces.Memory e = refl
to_is Tags spaces.Tag e = refl
to_is Globals spaces.Global e = refl
to_is _ _ e = absurd cc

given_one : (F : ℕ → Option ℕ) (k n : ℕ) (ks : List ℕ) (o : Option ℕ) → F k ≡ o → ((i : ℕ) → slice_get (filter_map F ks) i ≡ Some n → (k : ℕ) × (F k ≡ Some n))
    → (i : ℕ) → slice_get (cons_option o (filter_map F ks)) i ≡ Some n → (k : ℕ) × (F k ≡ Some n)
given_one F k n ks None is rest i e = rest i e
given_one F k n ks (Some m) is rest zero e = (k, is ∙ e)
given_one F k n ks (Some m) is rest (suc i) e = rest i e

given_by : (F : ℕ → Option ℕ) (ks : List ℕ) (i n : ℕ) → slice_get (filter_map F ks) i ≡ Some n → (k : ℕ) × (F k ≡ Some n)
given_by F [] i n e = absurd (none-some n e)
given_by F (k ∷ ks) i n e = given_one F k n ks (F k) refl (λ i e. given_by F ks i n e) i e

slot_is : {A : Type 0} (brings : A → Option ℕ) (xs : List (Option A)) (n k : ℕ) → slice_index_or (map (slot_import brings) xs) n None ≡ Some k → slot_import brings (slice_index_or xs n None) ≡ Some k
slot_is brings [] n k e = absurd (none-some k e)
slot_is brings (x ∷ xs) zero k e = e
slot_is brings (x ∷ xs) (suc n) k e = slot_is brings xs n k e

imported_none : {A E : Type 0} (brings : A → Option ℕ) (f : A → A) (own : Option A → Option E) → own None ≡ None → ((x : A) (k : ℕ) → brings x ≡ Some k → own (Some (f x)) ≡ None)
    → (o : Option A) (k : ℕ) → slot_import brings o ≡ Some k → own (option_map f o) ≡ None
imported_none brings f own none each None k e = none
imported_none brings f own none each (Some x) k e = each x k e

contains_in : (ns : List ℕ) (n : ℕ) → Contains ns n → In ns n
contains_in ns n h = (h.0, slice_get_read ns (length ns) h.0 n refl h.1 (sym h.2))

items_join : {A : Type 0} (xs ys : List (Option A)) → items_in (xs ++ ys) ≡ items_in xs ++ items_in ys
items_join [] ys = refl
items_join (None ∷ xs) ys = items_join xs ys
items_join {A} (Some x ∷ xs) ys = ap (λ (l : List A). x ∷ l) (items_join xs ys)

items_some : {A B : Type 0} (f : B → A) (xs : List B) → items_in (map (λ x. Some (f x)) xs) ≡ map f xs
items_some f [] = refl
items_some {A} {B} f (x ∷ xs) = ap (λ (l : List A). f x ∷ l) (items_some f xs)

-- ---- each space

module _ (p : Plan) (m : Module) (link : ImportsLink m) where
  one_brought : (space : Space) (n k : ℕ) (o : Option Import) → slice_index_or m.imports k None ≡ o → brought_to space o ≡ Some n → slice_index_or (brought m (space_of space)) n None ≡ Some k
  one_brought space n k None is e = absurd (none-some n e)
  one_brought space n k (Some x) is e =
      let q = cond_some (is_to space x.item.space) x.item.number n e in
      let at : slice_index_or (brought m x.item.space) n None ≡ Some k = subst (λ (j : ℕ). slice_index_or (brought m x.item.space) j None ≡ Some k) q.1 (link.named k x is) in
      subst (λ (s : FileSpace). slice_index_or (brought m s) n None ≡ Some k) (to_is space x.item.space q.0) at

  -- those in front are imported
  front_brought : (space : Space) (i n : ℕ) → slice_get (brought_by m space p.imports) i ≡ Some n → (k : ℕ) × (slice_index_or (brought m (space_of space)) n None ≡ Some k)
  front_brought space i n e =
      let b = given_by (λ n. brought_to space (slice_index_or m.imports n None)) p.imports i n e in
      (b.0, one_brought space n b.0 (slice_index_or m.imports b.0 None) refl b.1)

  module _ {A E : Type 0} (space : Space) (slots : List (Option A)) (brings : A → Option ℕ) (f : A → A) (own : Option A → Option E) (back : List ℕ) (none : own None ≡ None)
      (told : (n k : ℕ) → slice_index_or (brought m (space_of space)) n None ≡ Some k → slot_import brings (slice_index_or slots n None) ≡ Some k)
      (imported : (x : A) (k : ℕ) → brings x ≡ Some k → own (Some (f x)) ≡ None) (listed : p.listed space ≡ brought_by m space p.imports ++ back) where
    front_has_none : (i n : ℕ) → slice_get (brought_by m space p.imports) i ≡ Some n → own (option_map f (slice_index_or slots n None)) ≡ None
    front_has_none i n e =
        let b = front_brought space i n e in
        imported_none brings f own none imported (slice_index_or slots n None) b.0 (told n b.0 b.1)

    space_behind : filter_map own (picked f (p.listed space) slots) ≡ filter_map own (picked f back slots)
    space_behind = ap (λ (l : List ℕ). filter_map own (picked f l slots)) listed ∙ own_behind f own slots (brought_by m space p.imports) back none front_has_none

    space_stays : Rise back → ((n : ℕ) (x : A) → slice_index_or slots n None ≡ Some x → IsIn p space n) → filter_map own (picked f (p.listed space) slots) ≡ filter_map own (in_slots f slots)
    space_stays rise lives =
        ap (λ (l : List ℕ). filter_map own (picked f l slots)) listed
        ∙ own_stay f own slots (brought_by m space p.imports) back none front_has_none rise
        (λ n x e. (p.renames space n, subst (λ (l : List ℕ). slice_get l (p.renames space n) ≡ Some n) listed (lives n x e)))

  -- a list of its own
  own_list_stays : {A : Type 0} (slots : List (Option A)) (f : A → A) (ns : List ℕ) → Rise ns → ((n : ℕ) (x : A) → slice_index_or slots n None ≡ Some x → Contains ns n)
      → items_in (picked f ns slots) ≡ items_in (in_slots f slots)
  own_list_stays slots f ns rise lives = own_stay f (λ o. o) slots [] ns refl (λ i n e. absurd (none-some n e)) rise (λ n x e. contains_in ns n (lives n x e))

-- no import brings these
abbrev nothing_brings : {A : Type 0} → A → Option ℕ
nothing_brings x = None

pub own_items_stay : OwnItemsStay
own_items_stay p m order link lives exports =
    let r = p.renames in
    let b = p.brings in
    record {
      imports = own_list_stays p m link m.imports (renumbered_import r) p.imports order.imports lives.imports;
      functions = space_behind p m link Functions m.functions function_brought (renumbered_function r b) own_type (order.own Functions) refl (slot_is function_brought m.functions)
          (λ f k e. type_none r b (r Types f.ty) f.origin k e) (order.listed Functions tt);
      tables = space_stays p m link Tables m.tables table_brought (renumbered_table r b) own_table (order.own Tables) refl (slot_is table_brought m.tables)
          (λ t k e. if_own_none b t.imported k _ e) (order.listed Tables tt) (order.ordered Tables tt) lives.tables;
      memories = space_stays p m link Memories m.memories memory_brought (renumbered_memory r b) own_memory (order.own Memories) refl (slot_is memory_brought m.memories)
          (λ x k e. if_own_none b x.imported k _ e) (order.listed Memories tt) (order.ordered Memories tt) lives.memories;
      tags = space_stays p m link Tags m.tags tag_brought (renumbered_tag r b) own_tag (order.own Tags) refl (slot_is tag_brought m.tags)
          (λ t k e. if_own_none b t.imported k _ e) (order.listed Tags tt) (order.ordered Tags tt) lives.tags;
      globals = space_stays p m link Globals m.globals global_brought (renumbered_global r b) own_global (order.own Globals) refl (slot_is global_brought m.globals)
          (λ g k e. global_none r b (renumbered_global r b g) g.origin k e) (order.listed Globals tt) (order.ordered Globals tt) lives.globals;
      exports = own_list_stays p m link m.exports (renumbered_export r) p.exports exports lives.exports;
      elements = items_join (picked (renumbered_element r) (p.listed ElementSegments) m.elements) (map (λ ns. Some (declaring r ns)) p.declared)
          ∙ ap (λ (l : List Element). l ++ items_in (map (λ ns. Some (declaring r ns)) p.declared)) (space_stays p m link ElementSegments m.elements nothing_brings (renumbered_element r) (λ o. o) (order.own ElementSegments) refl
          (λ n k e. absurd (none-some k e)) (λ x k e. absurd (none-some k e)) (order.listed ElementSegments tt) (order.ordered ElementSegments tt) lives.elements)
          ∙ ap (λ (l : List Element). items_in (in_slots (renumbered_element r) m.elements) ++ l) (items_some (declaring r) p.declared);
      segments = space_stays p m link DataSegments m.segments nothing_brings (renumbered_segment r) (λ o. o) (order.own DataSegments) refl
          (λ n k e. absurd (none-some k e)) (λ x k e. absurd (none-some k e)) (order.listed DataSegments tt) (order.ordered DataSegments tt) lives.segments;
    }

-- ---- what stands at its new number

each_from : {A : Type 0} (P : A → Type 0) (xs : List (Option A)) → ((n : ℕ) (x : A) → slice_index_or xs n None ≡ Some x → P x) → Each P xs
each_from P [] h = tt
each_from P (None ∷ xs) h = each_from P xs (λ n x e. h (suc n) x e)
each_from P (Some x ∷ xs) h = (h zero x refl, each_from P xs (λ n x e. h (suc n) x e))

-- a listed item stands there
stands : {A : Type 0} (f : A → A) (xs : List (Option A)) (ns : List ℕ) (i n : ℕ) (x : A) → slice_get ns i ≡ Some n → slice_index_or xs n None ≡ Some x → slice_index_or (picked f ns xs) i None ≡ Some (f x)
stands f xs ns i n x at is = picked_at f xs ns i n at ∙ ap (option_map f) is

module _ (p : Plan) (m : Module) (link : ImportsLink m) (lives : LivingAreListed p m) where
  stands_in : (space : FileSpace) (id k : ℕ) → slice_index_or (brought m space) id None ≡ Some k → StandsIn p.renames p.brings m (part p m) space id
  stands_in spaces.Function id k e = λ f is. stands (renumbered_function p.renames p.brings) m.functions (p.listed Functions) (p.renames Functions id) id f (lives.functions id f is) is
  stands_in spaces.Table id k e = λ t is. stands (renumbered_table p.renames p.brings) m.tables (p.listed Tables) (p.renames Tables id) id t (lives.tables id t is) is
  stands_in spaces.Memory id k e = λ x is. stands (renumbered_memory p.renames p.brings) m.memories (p.listed Memories) (p.renames Memories id) id x (lives.memories id x is) is
  stands_in spaces.Tag id k e = λ t is. stands (renumbered_tag p.renames p.brings) m.tags (p.listed Tags) (p.renames Tags id) id t (lives.tags id t is) is
  stands_in spaces.Global id k e = λ g is. stands (renumbered_global p.renames p.brings) m.globals (p.listed Globals) (p.renames Globals id) id g (lives.globals id g is) is
  stands_in spaces.«Type» id k e = absurd (none-some k e)
  stands_in spaces.Element id k e = absurd (none-some k e)
  stands_in spaces.Data id k e = absurd (none-some k e)
  stands_in spaces.Local id k e = absurd (none-some k e)
  stands_in spaces.Label id k e = absurd (none-some k e)

  first_alike : (id : ℕ) (o : Option Table) → live_at m.tables id ≡ o → p.renames Tables id ≡ 0 → IsSome o → is_narrow o ≡ not (wide_table (slice_index_or (part p m).tables 0 None))
  first_alike id None is zero_is live = absurd cc
  first_alike id (Some t) is zero_is live =
      let at : slice_get (p.listed Tables) 0 ≡ Some id = subst (λ (n : ℕ). slice_get (p.listed Tables) n ≡ Some id) zero_is (lives.tables id t is) in
      ap (λ (o : Option Table). not (wide_table o)) (sym (stands (renumbered_table p.renames p.brings) m.tables (p.listed Tables) 0 id t at is))

pub parts_serve : PartsServe
parts_serve p m link lives = record {
  brought = each_from (λ (i : Import). StandsIn p.renames p.brings m (part p m) i.item.space i.item.number) m.imports (λ n x is. stands_in p m link lives x.item.space x.item.number n (link.named n x is));
  first = λ look follows live id e. first_alike p m link lives id (live_at m.tables id) refl (follows Tables id 0 e) (live id 0 e);
}
