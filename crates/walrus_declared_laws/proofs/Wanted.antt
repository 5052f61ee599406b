-- Lemmas: what a plan wants and holds.
use Rattle.std.specs.Prelude.{ℕ, zero, suc, ◌≡◌, ◌+◌, ◌⊎◌, ◌==◌, ◌&&◌, ◌++◌, Bool, true, false, List, [], ◌∷◌, length, Option, Some, None, slice_get, slice_index_or, refl, if◌then◌else◌}
use Rattle.std.specs.List.{flat_map}
use Rattle.std.proofs.Common.{inl, inr, ap, sym, subst, ◌∙◌}
use Rattle.std.proofs.lemmas.Bool.{cases_eq, false≢true, ne_eqb}
use Rattle.std.proofs.lemmas.Option.{get_or_from_slice_get, none-some, same_Some}
use Rattle.wasm_formats.specs.declared.fault.Space.{Space as FileSpace}
use Rattle.wasm_formats.specs.declared.fault.Space.TheVariants as spaces
use Rattle.wasm_grammar.specs.Modules.{Body, Elements, Expr, Expressions, Functions as Listed, Imported, Module, Origin, Own, Placed}
use Rattle.wasm_operators.specs.Items.{Types, Functions, Tables, Memories, Tags, Globals, ElementSegments, DataSegments, Locals, Labels, Item, Names, Number, S32, S64, Bits, Byte, Bytes, Heap, Block, Access, ManyLabels, ManyValues, ManyClauses}
use Rattle.wasm_operators.specs.Operators.{Seen, op_code}
use Rattle.wasm_operators.specs.declared.op_code.OpCode.{OpCode}
use Rattle.wasm_part.specs.Order.{BodyRefers, Holds, InitRefers, IsReference, ItemsHold, Wants}
use Rattle.wasm_part.specs.Part.{Plan}
use Rattle.walrus_types.proofs.Places.{Has, append_at, contains_has, has_contains, left_at, right_at, seat, start, unseat}
use Rattle.walrus_declared_laws.specs.Wanted.{ListsAll, WantsAreTold, element_names, export_names, function_refs, given_out, global_refs, held, held_names, init_refs, is_ref, origin_refs, referred_in, refs, single_refs, wanted}

abbrev pub ref : ℕ → Seen
ref n = record { code = op_code 0 0xd2; items = Names Functions n ∷ [] }

-- ---- an operator that refers

both : (a b : Bool) → (a && b) ≡ true → (a ≡ true) × (b ≡ true)
both true b e = (refl, e)
both false b e = absurd (false≢true e)

equal : (m n : ℕ) → (m == n) ≡ true → m ≡ n
equal m n e = elim (cases_eq m n) as (λ _. m ≡ n) [ inl same ↦ same | inr apart ↦ absurd (false≢true (sym (ne_eqb m n apart) ∙ e)) ]

none_has : {A : Type 0} (n : ℕ) → Has [] n → A
none_has n h = absurd (none-some n h.1)

one_has : (k n : ℕ) → Has (k ∷ []) n → k ≡ n
one_has k n (zero, at) = same_Some k n at
one_has k n (suc p, at) = absurd (none-some n at)

is_code : (code : OpCode) → is_ref code ≡ true → code ≡ op_code 0 0xd2
is_code code e =
    let h = both (code.prefix == 0) (code.number == 0xd2) e in
    let prefix = equal code.prefix 0 h.0 in
    let number = equal code.number 0xd2 h.1 in
    λ i. record { prefix = prefix i; number = number i }

abbrev seen : OpCode → List Item → Seen
seen code items = record { code = code; items = items }

one_ref : (code : OpCode) (k n : ℕ) (b : Bool) → is_ref code ≡ b → Has (if b then k ∷ [] else []) n → seen code (Names Functions k ∷ []) ≡ ref n
one_ref code k n true e h =
    let c = is_code code e in
    let same = one_has k n h in
    λ i. record { code = c i; items = Names Functions (same i) ∷ [] }
one_ref code k n false e h = none_has n h

by_items : (code : OpCode) (items : List Item) (n : ℕ) → Has (referred_in items (is_ref code)) n → seen code items ≡ ref n
by_items code [] n h = none_has n h
by_items code (Names Functions k ∷ []) n h = one_ref code k n (is_ref code) refl h
by_items code (Names Functions k ∷ x ∷ more) n h = none_has n h
by_items code (Names Types k ∷ more) n h = none_has n h
by_items code (Names Tables k ∷ more) n h = none_has n h
by_items code (Names Memories k ∷ more) n h = none_has n h
by_items code (Names Tags k ∷ more) n h = none_has n h
by_items code (Names Globals k ∷ more) n h = none_has n h
by_items code (Names ElementSegments k ∷ more) n h = none_has n h
by_items code (Names DataSegments k ∷ more) n h = none_has n h
by_items code (Names Locals k ∷ more) n h = none_has n h
by_items code (Names Labels k ∷ more) n h = none_has n h
by_items code (Number k ∷ more) n h = none_has n h
by_items code (S32 z ∷ more) n h = none_has n h
by_items code (S64 z ∷ more) n h = none_has n h
by_items code (Bits size k ∷ more) n h = none_has n h
by_items code (Byte b ∷ more) n h = none_has n h
by_items code (Bytes run ∷ more) n h = none_has n h
by_items code (Heap ty ∷ more) n h = none_has n h
by_items code (Block ty ∷ more) n h = none_has n h
by_items code (Access a ∷ more) n h = none_has n h
by_items code (ManyLabels ks ∷ more) n h = none_has n h
by_items code (ManyValues tys ∷ more) n h = none_has n h
by_items code (ManyClauses cs ∷ more) n h = none_has n h

pub refs_is : (op : Seen) (n : ℕ) → Has (refs op) n → IsReference n op
refs_is op n h = by_items op.code op.items n h

pub is_refs : (op : Seen) (n : ℕ) → IsReference n op → Has (refs op) n
is_refs op n is = (0, ap (λ (x : Seen). slice_get (refs x) 0) is)

-- ---- lists

flat_has : {X : Type 0} (f : X → List ℕ) (xs : List X) (j : ℕ) (x : X) (n : ℕ) → slice_get xs j ≡ Some x → Has (f x) n → Has (flat_map f xs) n
flat_has f xs j x n at h = (start f xs j + h.0, unseat f xs j h.0 x n at h.1)

left_has : (xs ys : List ℕ) (n : ℕ) → Has xs n → Has (xs ++ ys) n
left_has xs ys n h = (h.0, left_at xs ys h.0 n h.1)

right_has : (xs ys : List ℕ) (n : ℕ) → Has ys n → Has (xs ++ ys) n
right_has xs ys n h = (length xs + h.0, right_at xs ys h.0 (length xs + h.0) n refl h.1)

either_has : (xs ys : List ℕ) (n : ℕ) → Has (xs ++ ys) n → Has xs n ⊎ Has ys n
either_has xs ys n h = elim (append_at xs ys h.0 n h.1) as (λ _. Has xs n ⊎ Has ys n) [ inl here ↦ inl (h.0, here) | inr there ↦ inr (there.0, there.2) ]

slot_get : {X : Type 0} (xs : List (Option X)) (k : ℕ) (x : X) → slice_index_or xs k None ≡ Some x → slice_get xs k ≡ Some (Some x)
slot_get [] k x at = absurd (none-some x at)
slot_get {X} (y ∷ xs) zero x at = ap (λ (o : Option X). let z : Option (Option X) = Some o in z) at
slot_get (y ∷ xs) (suc k) x at = slot_get xs k x at

-- what a slot has is that of its item
pub record FromSlot {X : Type 0} (f : Option X → List ℕ) (xs : List (Option X)) (n : ℕ) : Type 0 where
  pub number : ℕ
  pub item : X
  pub there : slice_index_or xs number None ≡ Some item
  pub has : Has (f (Some item)) n

from_slot : {X : Type 0} (f : Option X → List ℕ) (none : f None ≡ []) (xs : List (Option X)) (n : ℕ) → Has (flat_map f xs) n → FromSlot f xs n
from_slot {X} f none xs n h =
    let s = seat f xs h.0 n h.1 in
    by s.piece s.from s.at_piece (s.place, s.at_place)
  where
    by : (k : ℕ) (o : Option X) → slice_get xs k ≡ Some o → Has (f o) n → FromSlot f xs n
    by k None at h = absurd (none-some n (sym (ap (λ (l : List ℕ). slice_get l h.0) none) ∙ h.1))
    by k (Some x) at h = record { number = k; item = x; there = get_or_from_slice_get xs k (Some x) None at; has = h }

-- ---- bodies and initialisers

body_has : (n : ℕ) (o : Origin Body) → BodyRefers n o → Has (origin_refs o) n
body_has n (Imported i) h = absurd h
body_has n (Own x) (o, c, is) = let at = contains_has x.operators o c in flat_has (λ (p : Placed). refs p.op) x.operators at.0 o n at.1 (is_refs o.op n is)

has_body : (n : ℕ) (o : Origin Body) → Has (origin_refs o) n → BodyRefers n o
has_body n (Imported i) h = none_has n h
has_body n (Own x) h =
    let s = seat (λ (p : Placed). refs p.op) x.operators h.0 n h.1 in
    (s.from, has_contains x.operators s.from (s.piece, s.at_piece), refs_is (s.from).op n (s.place, s.at_place))

init_has : (n : ℕ) (o : Origin Expr) → InitRefers n o → Has (init_refs o) n
init_has n (Imported i) h = absurd h
init_has n (Own e) (op, c, is) = let at = contains_has e op c in flat_has refs e at.0 op n at.1 (is_refs op n is)

has_init : (n : ℕ) (o : Origin Expr) → Has (init_refs o) n → InitRefers n o
has_init n (Imported i) h = none_has n h
has_init n (Own e) h =
    let s = seat refs e h.0 n h.1 in
    (s.from, has_contains e s.from (s.piece, s.at_piece), refs_is s.from n (s.place, s.at_place))

-- ---- segments and exports

single_has : (n : ℕ) (e : Expr) (op : Seen) → e ≡ op ∷ [] → IsReference n op → Has (single_refs e) n
single_has n e op same is = subst (λ (x : Expr). Has (single_refs x) n) (sym same) (is_refs op n is)

has_single : (n : ℕ) (e : Expr) → Has (single_refs e) n → (op : Seen) × IsReference n op × (e ≡ op ∷ [])
has_single n [] h = none_has n h
has_single n (op ∷ []) h = (op, refs_is op n h, refl)
has_single n (op ∷ other ∷ ops) h = none_has n h

items_has : (n : ℕ) (x : Elements) → ItemsHold n x → Has (held_names x) n
items_has n (Listed ns) h = contains_has ns n h
items_has n (Expressions ty es) (op, is, c) = let at = contains_has es (op ∷ []) c in flat_has single_refs es at.0 (op ∷ []) n at.1 (is_refs op n is)

has_items : (n : ℕ) (x : Elements) → Has (held_names x) n → ItemsHold n x
has_items n (Listed ns) h = has_contains ns n h
has_items n (Expressions ty es) h =
    let s = seat single_refs es h.0 n h.1 in
    let o = has_single n s.from (s.place, s.at_place) in
    (o.0, o.1, has_contains es (o.0 ∷ []) (s.piece, s.at_piece ∙ ap (λ (e : Expr). let z : Option Expr = Some e in z) o.2))

given_has : (space : FileSpace) (number n : ℕ) → space ≡ spaces.Function → number ≡ n → Has (given_out space number) n
given_has space number n is same = subst (λ (s : FileSpace). Has (given_out s number) n) (sym is) (0, ap (λ (k : ℕ). let o : Option ℕ = Some k in o) same)

has_given : (space : FileSpace) (number n : ℕ) → Has (given_out space number) n → (space ≡ spaces.Function) × (number ≡ n)
has_given spaces.Function number n h = (refl, one_has number n h)
has_given spaces.«Type» number n h = none_has n h
has_given spaces.Table number n h = none_has n h
has_given spaces.Memory number n h = none_has n h
has_given spaces.Tag number n h = none_has n h
has_given spaces.Global number n h = none_has n h
has_given spaces.Element number n h = none_has n h
has_given spaces.Data number n h = none_has n h
has_given spaces.Local number n h = none_has n h
has_given spaces.Label number n h = none_has n h

-- ---- of a module

module _ (p : Plan) (m : Module) (lists : ListsAll p m) where
  wants_on : (n : ℕ) → Wants m p n → Has (wanted m) n
  wants_on n (Wants.body k f c at h) =
      left_has (flat_map function_refs m.functions) (flat_map global_refs m.globals) n (flat_has function_refs m.functions k (Some f) n (slot_get m.functions k f at) (body_has n f.origin h))
  wants_on n (Wants.init k g c at h) =
      right_has (flat_map function_refs m.functions) (flat_map global_refs m.globals) n (flat_has global_refs m.globals k (Some g) n (slot_get m.globals k g at) (init_has n g.origin h))

  wants_back : (n : ℕ) → Has (wanted m) n → Wants m p n
  wants_back n h = elim (either_has (flat_map function_refs m.functions) (flat_map global_refs m.globals) n h) as (λ _. Wants m p n) [
    | inl here ↦ (
        let s = from_slot function_refs refl m.functions n here in
        Wants.body s.number s.item (lists.functions s.number s.item s.there) s.there (has_body n (s.item).origin s.has)
        )
    | inr there ↦ (
        let s = from_slot global_refs refl m.globals n there in
        Wants.init s.number s.item (lists.globals s.number s.item s.there) s.there (has_init n (s.item).origin s.has)
        )
  ]

  holds_on : (n : ℕ) → Holds m p n → Has (held m) n
  holds_on n (Holds.exported k e c at space number) =
      left_has (flat_map export_names m.exports) (flat_map element_names m.elements) n
      (flat_has export_names m.exports k (Some e) n (slot_get m.exports k e at) (given_has e.item.space e.item.number n space number))
  holds_on n (Holds.segment k e c at h) =
      right_has (flat_map export_names m.exports) (flat_map element_names m.elements) n (flat_has element_names m.elements k (Some e) n (slot_get m.elements k e at) (items_has n e.items h))

  holds_back : (n : ℕ) → Has (held m) n → Holds m p n
  holds_back n h = elim (either_has (flat_map export_names m.exports) (flat_map element_names m.elements) n h) as (λ _. Holds m p n) [
    | inl here ↦ (
        let s = from_slot export_names refl m.exports n here in
        let given = has_given (s.item).item.space (s.item).item.number n s.has in
        Holds.exported s.number s.item (lists.exports s.number s.item s.there) s.there given.0 given.1
        )
    | inr there ↦ (
        let s = from_slot element_names refl m.elements n there in
        Holds.segment s.number s.item (lists.elements s.number s.item s.there) s.there (has_items n (s.item).items s.has)
        )
  ]

pub wants_told : WantsAreTold
wants_told p m lists = record {
  wants = λ n. (λ w. has_contains (wanted m) n (wants_on p m lists n w), λ c. wants_back p m lists n (contains_has (wanted m) n c));
  holds = λ n. (λ h. has_contains (held m) n (holds_on p m lists n h), λ c. holds_back p m lists n (contains_has (held m) n c));
}
