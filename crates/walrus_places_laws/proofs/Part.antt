-- Lemmas: the functions of a part that has all that lives.
use Rattle.std.specs.Prelude.{ℕ, zero, suc, ◌≡◌, List, [], ◌∷◌, ◌++◌, length, map, take, drop, Option, Some, None, slice_index_or, refl}
use Rattle.std.specs.List.{AllByRecursion, cons_option, filter_map}
use Rattle.std.specs.Option.{option_map}
use Rattle.std.proofs.Common.{ap, sym, ◌∙◌, subst, arith}
use Rattle.std.proofs.lemmas.List.{length-append, map-append}
use Rattle.std.proofs.lemmas.List.Elements.{filter_map-append}
use Rattle.wasm_operators.specs.Bytes.{unsigned_bytes}
use Rattle.wasm_operators.specs.Items.{Functions, Types}
use Rattle.wasm_operators.specs.Names.{Renaming}
use Rattle.wasm_grammar.specs.Modules.{Origin, Imported, Own, Body, Function}
use Rattle.wasm_body_grammar.specs.Codes.{own_type, param_count, type_if_own}
use Rattle.wasm_body_grammar.specs.Rules.{Around}
use Rattle.wasm_canonical.specs.Dense.{IsOwnFunction}
use Rattle.wasm_canonical.specs.Due.{bodies_due, origin_bytes, own_bytes}
use Rattle.wasm_part.specs.Order.{brought_by}
use Rattle.wasm_part.specs.Part.{part, picked, renumbered_body, renumbered_function, renumbered_own}
use Rattle.wasm_places_laws.specs.Begun.{behind_origin, behind_slot, first_body}
use Rattle.wasm_places_laws.specs.Pairs.{functions_pairs, module_pairs, origin_pairs, slot_pairs}
use Rattle.wasm_places_laws.specs.Places.{WrittenPairsArePlaces, around_written}
use Rattle.wasm_rewritten.specs.Places.{ArePlaces}
use Rattle.walrus_arena.specs.Arena.{Arena}
use Rattle.walrus_items.specs.declared.local.Local.{Local}
use Rattle.walrus_module_items.specs.declared.function.Function.{Function as Item}
use Rattle.walrus_module_items.specs.Functions.{type_of}
use Rattle.walrus_module_items.specs.declared.function.FunctionKind.{FunctionKind}
use Rattle.walrus_module_items.specs.declared.function.FunctionKind.TheVariants as kinds
use Rattle.walrus_meaning.specs.Bodies.{local_ids, own_body}
use Rattle.walrus_meaning.specs.Meaning.{means, own_function, own_origin}
use Rattle.walrus_emit_numbers.specs.declared.facts.BodyFacts.{BodyFacts}
use Rattle.walrus_item_meaning.specs.Meaning.{slots_of}
use Rattle.walrus_emit_code.specs.Code.{code}
use Rattle.walrus_due_laws.specs.FunctionTypes.{HaveBodies}
use Rattle.walrus_due_laws.specs.Listed.{OwnItemsStay}
use Rattle.walrus_code_laws.specs.Numbered.{numbered_body, numbered_function, numbered_origin}
use Rattle.walrus_code_laws.specs.Parts.{numbered}
use Rattle.walrus_code_laws.proofs.Texts.{parts}
use Rattle.walrus_places_laws.specs.Bodies.{no_place}
use Rattle.walrus_places_laws.specs.Code.{CodePlacesArePairs, meant_at, meant_of}
use Rattle.walrus_places_laws.specs.Part.{LocationsArePairs}
use Rattle.walrus_places_laws.specs.Places.{LocationsArePlaces}

-- ---- functions without bodies leave no pairs, and take no bytes

none_first : {A B : Type 0} (g : A → Option B) (x : A) (xs : List A) (o : Option B) → g x ≡ o → length (cons_option o (filter_map g xs)) ≡ 0
    → (length (filter_map g xs) ≡ 0 → AllByRecursion (λ (x : A). g x ≡ None) xs) → (g x ≡ None) × AllByRecursion (λ (x : A). g x ≡ None) xs
none_first g x xs None is e rest = (is, rest e)
none_first g x xs (Some y) is e rest = absurd (omega (arith, e))

none_left : {A B : Type 0} (g : A → Option B) (xs : List A) → length (filter_map g xs) ≡ 0 → AllByRecursion (λ (x : A). g x ≡ None) xs
none_left g [] e = tt
none_left g (x ∷ xs) e = none_first g x xs (g x) refl e (λ h. none_left g xs h)

map_count : {A B : Type 0} (f : A → B) (xs : List A) → length (map f xs) ≡ length xs
map_count f [] = refl
map_count f (x ∷ xs) = ap (λ (n : ℕ). suc n) (map_count f xs)

abbrev HasNone : Option Function → Type 0
HasNone f = own_type f ≡ None

module _ (a : Around) where
  origin_none : (params at ty : ℕ) (o : Origin Body) → type_if_own ty o ≡ None
      → (origin_pairs no_place a params at o ≡ []) × (behind_origin a params at o ≡ at) × (origin_bytes a params o ≡ None)
  origin_none params at ty (Imported n) e = (refl, refl, refl)
  origin_none params at ty (Own x) e = absurd cc

  slot_none : (at : ℕ) (f : Option Function) → HasNone f → (slot_pairs no_place a at f ≡ []) × (behind_slot a at f ≡ at) × (own_bytes a f ≡ None)
  slot_none at None e = (refl, refl, refl)
  slot_none at (Some f) e = origin_none (param_count a.filled f.ty) at f.ty f.origin e

  pairs_behind : (at : ℕ) (zs ys : List (Option Function)) → AllByRecursion HasNone zs → functions_pairs no_place a at (zs ++ ys) ≡ functions_pairs no_place a at ys
  pairs_behind at [] ys h = refl
  pairs_behind at (z ∷ zs) ys h =
      let n = slot_none at z h.0 in
      ap (λ (l : List (ℕ × ℕ)). l ++ functions_pairs no_place a (behind_slot a at z) (zs ++ ys)) n.0
      ∙ ap (λ (k : ℕ). functions_pairs no_place a k (zs ++ ys)) n.1 ∙ pairs_behind at zs ys h.1

  bytes_behind : (zs ys : List (Option Function)) → AllByRecursion HasNone zs → filter_map (own_bytes a) (zs ++ ys) ≡ filter_map (own_bytes a) ys
  bytes_behind [] ys h = refl
  bytes_behind (z ∷ zs) ys h =
      ap (λ (o : Option (List ℕ)). cons_option o (filter_map (own_bytes a) (zs ++ ys))) (slot_none 0 z h.0).2 ∙ bytes_behind zs ys h.1

  -- ---- functions with bodies

  module _ (r : Renaming) (brings : ℕ → ℕ) where
    one_counts : (o : Option Function) (rest : List (List ℕ)) → IsOwnFunction o → length (cons_option (own_bytes a (option_map (renumbered_function r brings) o)) rest) ≡ suc (length rest)
    one_counts None rest h = absurd h
    one_counts (Some f) rest h =
        subst (λ (o : Origin Body). length (cons_option (origin_bytes a (param_count a.filled (r Types f.ty)) (renumbered_own r brings (renumbered_body r) o)) rest) ≡ suc (length rest)) (sym h.1) refl

    own_count : (xs : List (Option Function)) (ids : List ℕ) → HaveBodies xs ids → length (filter_map (own_bytes a) (picked (renumbered_function r brings) ids xs)) ≡ length ids
    own_count xs [] h = refl
    own_count xs (id ∷ ids) h =
        one_counts (slice_index_or xs id None) (filter_map (own_bytes a) (picked (renumbered_function r brings) ids xs)) h.0 ∙ ap (λ (n : ℕ). suc n) (own_count xs ids h.1)

-- ---- those that functions in memory mean

slot_seen : {A B : Type 0} (see : A → B) (slots : List (Option A)) (n : ℕ) → slice_index_or (map (option_map see) slots) n None ≡ option_map see (slice_index_or slots n None)
slot_seen see [] n = refl
slot_seen see (x ∷ slots) zero = refl
slot_seen see (x ∷ slots) (suc n) = slot_seen see slots n

module _ (locals : List Local) (functions : Arena Item) where
  abbrev meant : List (Option Function)
  meant = slots_of (own_function locals) functions

  abbrev counted : List (Option Function)
  counted = slots_of (numbered_function locals) functions

  kind_counted : (k : FunctionKind) → ((x : Body) × (own_origin locals k ≡ Own x)) → (x : Body) × (numbered_origin locals k ≡ Own x)
  kind_counted (kinds.Import imported) h = let e = h.1 in absurd cc
  kind_counted (kinds.Local local) h = (numbered_body (local_ids locals local) (own_body locals local), refl)
  kind_counted (kinds.Uninitialized ty) h = h

  item_counted : (o : Option Item) → IsOwnFunction (option_map (own_function locals) o) → IsOwnFunction (option_map (numbered_function locals) o)
  item_counted None h = h
  item_counted (Some f) h = kind_counted f.kind h

  bodies_counted : (ids : List ℕ) → HaveBodies meant ids → HaveBodies counted ids
  bodies_counted [] h = tt
  bodies_counted (id ∷ ids) h =
      let o = slice_index_or functions.slots id None in (
        subst IsOwnFunction (sym (slot_seen (numbered_function locals) functions.slots id)) (item_counted o (subst IsOwnFunction (slot_seen (own_function locals) functions.slots id) h.0)),
        bodies_counted ids h.1,
      )

  module _ (r : Renaming) (brings : ℕ → ℕ) where
    kind_same : (ty : ℕ) (k : FunctionKind) → type_if_own ty (renumbered_own r brings (renumbered_body r) (numbered_origin locals k)) ≡ type_if_own ty (renumbered_own r brings (renumbered_body r) (own_origin locals k))
    kind_same ty (kinds.Import imported) = refl
    kind_same ty (kinds.Local local) = refl
    kind_same ty (kinds.Uninitialized other) = refl

    item_same : (o : Option Item) → own_type (option_map (renumbered_function r brings) (option_map (numbered_function locals) o)) ≡ own_type (option_map (renumbered_function r brings) (option_map (own_function locals) o))
    item_same None = refl
    item_same (Some f) = kind_same (r Types (type_of f.kind)) f.kind

    none_counted : (ids : List ℕ) → AllByRecursion HasNone (picked (renumbered_function r brings) ids meant) → AllByRecursion HasNone (picked (renumbered_function r brings) ids counted)
    none_counted [] h = tt
    none_counted (id ∷ ids) h =
        let seen = λ (o : Option Function). own_type (option_map (renumbered_function r brings) o) in (
          ap seen (slot_seen (numbered_function locals) functions.slots id) ∙ item_same (slice_index_or functions.slots id None)
              ∙ sym (ap seen (slot_seen (own_function locals) functions.slots id)) ∙ h.0,
          none_counted ids h.1,
        )

    meant_picked : (facts : List BodyFacts) → picked (renumbered_function r brings) (map (λ (f : BodyFacts). f.function) facts) counted ≡ meant_of locals functions r brings facts
    meant_picked [] = refl
    meant_picked (f ∷ facts) =
        ap (λ (o : Option Function). option_map (renumbered_function r brings) o ∷ picked (renumbered_function r brings) (map (λ (f : BodyFacts). f.function) facts) counted)
        (slot_seen (numbered_function locals) functions.slots f.function)
        ∙ ap (λ (l : List (Option Function)). meant_at locals functions r brings f.function ∷ l) (meant_picked facts)

-- ---- all of it

pub locations_pairs : OwnItemsStay → CodePlacesArePairs → LocationsArePairs
locations_pairs stay code_pairs a i p m facts s bytes due =
    let serves = s.items in
    let f = renumbered_function p.renames p.brings in
    let own = serves.order.own Functions in
    let front = brought_by (means m) Functions p.imports in
    let old = meant m.locals m.funcs in
    let slots = counted m.locals m.funcs in
    let zs : List (Option Function) = picked f front slots in
    let ys : List (Option Function) = picked f own slots in
    let us : List (Option Function) = picked f front old in
    let vs : List (Option Function) = picked f own old in
    let ends = meant_of m.locals m.funcs p.renames p.brings facts in
    let listed = serves.order.listed Functions tt in
    let split : (part p (numbered m)).functions ≡ zs ++ ys =
    ap (λ (l : List ℕ). picked f l slots) listed ∙ map-append (λ (k : ℕ). option_map f (slice_index_or slots k None)) front own in
    let split_means : (part p (means m)).functions ≡ us ++ vs =
    ap (λ (l : List ℕ). picked f l old) listed ∙ map-append (λ (k : ℕ). option_map f (slice_index_or old k None)) front own in
    let types = (stay p (means m) serves.order serves.linked serves.lives serves.exports).functions in
    let joined : length (filter_map own_type (us ++ vs)) ≡ length (filter_map own_type vs) =
    ap (λ (l : List (Option Function)). length (filter_map own_type l)) (sym split_means) ∙ ap length types in
    let sum = ap length (filter_map-append own_type us vs) in
    let sizes = length-append (filter_map own_type us) (filter_map own_type vs) in
    let none = none_counted m.locals m.funcs p.renames p.brings front (none_left own_type us (omega (arith, joined, sum, sizes))) in
    let have = bodies_counted m.locals m.funcs own serves.bodies in
    let stand : own ≡ map (λ (b : BodyFacts). b.function) facts = sym s.order in
    let bodies : length (bodies_due a (part p (numbered m))) ≡ length facts =
    ap (λ (l : List (Option Function)). length (filter_map (own_bytes a) l)) split
    ∙ ap length (bytes_behind a zs ys none) ∙ own_count a p.renames p.brings slots own have ∙ ap length stand ∙ map_count (λ (b : BodyFacts). b.function) facts in
    let same : ys ≡ ends = ap (λ (l : List ℕ). picked f l slots) stand ∙ meant_picked m.locals m.funcs p.renames p.brings facts in
    let at = first_body a (part p (numbered m)) in
    code_pairs a p.renames p.brings i s.bodies m.locals m.funcs s.places facts s.known bytes due
    ∙ ap (λ (k : ℕ). functions_pairs no_place a (length (unsigned_bytes k)) ends) (sym bodies)
    ∙ ap (λ (fs : List (Option Function)). functions_pairs no_place a at fs) (sym same)
    ∙ sym (pairs_behind a at zs ys none) ∙ ap (λ (fs : List (Option Function)). functions_pairs no_place a at fs) (sym split)

pub locations_places : WrittenPairsArePlaces → LocationsArePairs → LocationsArePlaces
locations_places written_pairs pairs features i p m facts s bytes front behind last due normal k q stand same is n reads =
    let a = around_written features k in
    let mine = code m.locals m.funcs i facts in
    let most = parts (front ++ (mine ++ behind)) last bytes (sym due) in
    let rest = parts front (mine ++ behind) (take (length (front ++ (mine ++ behind))) bytes) most.0 in
    let own = drop (length front) (take (length (front ++ (mine ++ behind))) bytes) in
    let left = pairs a i p m facts s (take (length mine) own) (parts mine behind own rest.1).0 in
    let equal : module_pairs no_place a (part p (numbered m)) ≡ module_pairs no_place a (part q normal) =
    ap (λ (fs : List (Option Function)). functions_pairs no_place a (length (unsigned_bytes (length (filter_map (own_bytes a) fs)))) fs) same in
    subst (λ (l : List (ℕ × ℕ)). ArePlaces no_place normal n q l) (sym (left ∙ equal)) (written_pairs no_place features normal k q stand is n reads)
