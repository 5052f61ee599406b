-- Operators with a block type open a block, by the rows of the table.
use Rattle.std.proofs.Common.{ℕ, ◌≡◌, ◌==◌, Bool, true, false, ◌&&◌, nat_le, nat_lt, List, [], ◌∷◌, refl, sym, subst, if◌then◌else◌, inl, inr}
use Rattle.std.specs.Prelude.{Option, Some, None, ◌⊎◌}
use Rattle.std.specs.List.{AllByRecursion, list_all}
use Rattle.wasm_features.specs.declared.WasmFeatures.{WasmFeatures}
use Rattle.wasm_operators.specs.Items.{Form, Item, index, number, s32, s64, bits, run, any_byte, below, zero_byte, heap, block, access, labels, values, clauses}
use Rattle.wasm_operators.specs.ItemSpellings.{SpellsForms, SpellsItem}
use Rattle.wasm_operators.specs.declared.entry.Entry.{Entry}
use Rattle.wasm_operators.specs.declared.entry.Flow.{Flow}
use Rattle.wasm_operators.specs.declared.entry.Flow.TheVariants as flows
use Rattle.wasm_operators.specs.declared.entry.Kind.{Kind}
use Rattle.wasm_operators.specs.declared.entry.Kind.TheVariants as kinds
use Rattle.wasm_operators.specs.Kinds.{forms}
use Rattle.wasm_operators.specs.Table.{Row, find, find_byte, find_code, structure_rows, call_rows, plain_rows, fb_rows, fc_rows, fd_rows, fe_rows}
use Rattle.wasm_operators.specs.Operators.{is_on, kind_of, allowed, flow_in}
use Rattle.wasm_normal_form.specs.Roles.{Opens, role_in}
use Rattle.wasm_part.specs.Open.{IsNoBlock, SpelledBlocksOpen}

-- the flow opens a block
abbrev opens : Flow → Bool
opens flows.OpensBlock = true
opens flows.OpensLoop = true
opens flows.OpensIf = true
opens flows.OpensTry = true
opens flows.OpensTryTable = true
opens _ = false

abbrev has_open : Flow → Kind → Bool
has_open flow kinds.Block = opens flow
has_open flow kinds.TryTable = opens flow
has_open flow _ = true

-- ---- each row has it

abbrev row_has : Row → Bool
row_has r = has_open r.entry.flow r.entry.kind

abbrev if_some : Option Entry → Bool
if_some None = true
if_some (Some e) = has_open e.flow e.kind

if_holds : (x y : Option Entry) → if_some x ≡ true → if_some y ≡ true → (b : Bool) → if_some (if b then x else y) ≡ true
if_holds x y h k true = h
if_holds x y h k false = k

and_parts : (a b : Bool) → (a && b) ≡ true → (a ≡ true) × (b ≡ true)
and_parts true true h = (refl, refl)
and_parts true false h = absurd cc
and_parts false b h = absurd cc

found_has : (rows : List Row) → list_all row_has rows ≡ true → (n : ℕ) → if_some (find rows n) ≡ true
found_has [] h n = refl
found_has (r ∷ rows) h n =
    let parts = and_parts (row_has r) (list_all row_has rows) h in
    if_holds (Some r.entry) (find rows n) parts.0 (found_has rows parts.1 n) (nat_le r.first n && nat_le n r.last)

structure_have : list_all row_has structure_rows ≡ true
unfolding structure_rows
structure_have = refl

call_have : list_all row_has call_rows ≡ true
unfolding call_rows
call_have = refl

plain_have : list_all row_has plain_rows ≡ true
unfolding plain_rows
plain_have = refl

fb_have : list_all row_has fb_rows ≡ true
unfolding fb_rows
fb_have = refl

fc_have : list_all row_has fc_rows ≡ true
unfolding fc_rows
fc_have = refl

fd_have : list_all row_has fd_rows ≡ true
unfolding fd_rows
fd_have = refl

fe_have : list_all row_has fe_rows ≡ true
unfolding fe_rows
fe_have = refl

byte_has : (n : ℕ) → if_some (find_byte n) ≡ true
byte_has n =
    let inner = if_holds (find call_rows n) (find plain_rows n) (found_has call_rows call_have n) (found_has plain_rows plain_have n) (nat_lt n 0x28) in
    if_holds (find structure_rows n) (if nat_lt n 0x28 then find call_rows n else find plain_rows n) (found_has structure_rows structure_have n) inner (nat_lt n 0x10)

code_has : (prefix n : ℕ) → if_some (find_code prefix n) ≡ true
code_has prefix n =
    let fe : Option Entry = if prefix == 0xfe then find fe_rows n else None in
    let fd : Option Entry = if prefix == 0xfd then find fd_rows n else fe in
    let fc : Option Entry = if prefix == 0xfc then find fc_rows n else fd in
    let fb : Option Entry = if prefix == 0xfb then find fb_rows n else fc in
    if_holds (find_byte n) fb (byte_has n)
    (if_holds (find fb_rows n) fc (found_has fb_rows fb_have n)
    (if_holds (find fc_rows n) fd (found_has fc_rows fc_have n)
    (if_holds (find fd_rows n) fe (found_has fd_rows fd_have n) (if_holds (find fe_rows n) None (found_has fe_rows fe_have n) refl (prefix == 0xfe)) (prefix == 0xfd)) (prefix == 0xfc)) (prefix == 0xfb))
    (prefix == 0)

-- ---- what is spelled

opens_is : (flow : Flow) → opens flow ≡ true → role_in (Some flow) ≡ Opens
opens_is flows.OpensBlock e = refl
opens_is flows.OpensLoop e = refl
opens_is flows.OpensIf e = refl
opens_is flows.OpensTry e = refl
opens_is flows.OpensTryTable e = refl
opens_is _ e = absurd cc

-- forms of which none is a block type
abbrev Plain : List Form → Type 0
Plain [] = Unit {0}
Plain (block ∷ fs) = ⊥
Plain (f ∷ fs) = Plain fs

module _ (features : WasmFeatures) where
  item_plain : (f : Form) (fs : List Form) (front : List ℕ) (x : Item) → Plain (f ∷ fs) → SpellsItem features f front x → IsNoBlock x × Plain fs
  item_plain (index space) fs front x h k = (subst IsNoBlock (sym k.1) tt, h)
  item_plain number fs front x h k = (subst IsNoBlock (sym k.1) tt, h)
  item_plain s32 fs front x h k = (subst IsNoBlock (sym k.1) tt, h)
  item_plain s64 fs front x h k = (subst IsNoBlock (sym k.1) tt, h)
  item_plain (bits size) fs front x h k = (subst IsNoBlock (sym k.1) tt, h)
  item_plain (run size) fs front x h k = (subst IsNoBlock (sym k.1) tt, h)
  item_plain any_byte fs front x h k = (subst IsNoBlock (sym k.1) tt, h)
  item_plain (below bound) fs front x h k = (subst IsNoBlock (sym k.1) tt, h)
  item_plain zero_byte fs front x h k = (subst IsNoBlock (sym k.1) tt, h)
  item_plain heap fs front x h k = (subst IsNoBlock (sym k.1) tt, h)
  item_plain access fs front x h k = (subst IsNoBlock (sym k.1) tt, h)
  item_plain labels fs front x h k = (subst IsNoBlock (sym k.1) tt, h)
  item_plain values fs front x h k = (subst IsNoBlock (sym k.1) tt, h)
  item_plain clauses fs front x h k = (subst IsNoBlock (sym k.1) tt, h)
  item_plain block fs front x h k = absurd h

  all_plain : (fs : List Form) (bytes : List ℕ) (items : List Item) → Plain fs → SpellsForms features fs bytes items → AllByRecursion IsNoBlock items
  all_plain [] bytes items p h = subst (AllByRecursion IsNoBlock) (sym h.1) tt
  all_plain (f ∷ fs) bytes items p (x, xs, front, later, is, split, first, rest) =
      let one = item_plain f fs front x p first in subst (AllByRecursion IsNoBlock) (sym is) (one.0, all_plain fs later xs one.1 rest)

  of_kind : (flow : Flow) (kind : Kind) → has_open flow kind ≡ true → (bytes : List ℕ) (items : List Item) → SpellsForms features (forms kind) bytes items → (role_in (Some flow) ≡ Opens) ⊎ AllByRecursion IsNoBlock items
  of_kind flow kinds.Block e bytes items h = inl (opens_is flow e)
  of_kind flow kinds.TryTable e bytes items h = inl (opens_is flow e)
  of_kind flow kinds.Bare e bytes items h = inr (all_plain (forms kinds.Bare) bytes items tt h)
  of_kind flow kinds.Tag e bytes items h = inr (all_plain (forms kinds.Tag) bytes items tt h)
  of_kind flow kinds.Label e bytes items h = inr (all_plain (forms kinds.Label) bytes items tt h)
  of_kind flow kinds.BrTable e bytes items h = inr (all_plain (forms kinds.BrTable) bytes items tt h)
  of_kind flow kinds.Function e bytes items h = inr (all_plain (forms kinds.Function) bytes items tt h)
  of_kind flow kinds.TypeTable e bytes items h = inr (all_plain (forms kinds.TypeTable) bytes items tt h)
  of_kind flow kinds.Type e bytes items h = inr (all_plain (forms kinds.Type) bytes items tt h)
  of_kind flow kinds.Select e bytes items h = inr (all_plain (forms kinds.Select) bytes items tt h)
  of_kind flow kinds.Local e bytes items h = inr (all_plain (forms kinds.Local) bytes items tt h)
  of_kind flow kinds.Global e bytes items h = inr (all_plain (forms kinds.Global) bytes items tt h)
  of_kind flow kinds.Table e bytes items h = inr (all_plain (forms kinds.Table) bytes items tt h)
  of_kind flow kinds.Access e bytes items h = inr (all_plain (forms kinds.Access) bytes items tt h)
  of_kind flow kinds.Memory e bytes items h = inr (all_plain (forms kinds.Memory) bytes items tt h)
  of_kind flow kinds.I32 e bytes items h = inr (all_plain (forms kinds.I32) bytes items tt h)
  of_kind flow kinds.I64 e bytes items h = inr (all_plain (forms kinds.I64) bytes items tt h)
  of_kind flow kinds.F32 e bytes items h = inr (all_plain (forms kinds.F32) bytes items tt h)
  of_kind flow kinds.F64 e bytes items h = inr (all_plain (forms kinds.F64) bytes items tt h)
  of_kind flow kinds.Heap e bytes items h = inr (all_plain (forms kinds.Heap) bytes items tt h)
  of_kind flow kinds.DataMemory e bytes items h = inr (all_plain (forms kinds.DataMemory) bytes items tt h)
  of_kind flow kinds.Data e bytes items h = inr (all_plain (forms kinds.Data) bytes items tt h)
  of_kind flow kinds.MemoryMemory e bytes items h = inr (all_plain (forms kinds.MemoryMemory) bytes items tt h)
  of_kind flow kinds.ElementTable e bytes items h = inr (all_plain (forms kinds.ElementTable) bytes items tt h)
  of_kind flow kinds.Element e bytes items h = inr (all_plain (forms kinds.Element) bytes items tt h)
  of_kind flow kinds.TableTable e bytes items h = inr (all_plain (forms kinds.TableTable) bytes items tt h)
  of_kind flow kinds.TypeNumber e bytes items h = inr (all_plain (forms kinds.TypeNumber) bytes items tt h)
  of_kind flow kinds.TypeData e bytes items h = inr (all_plain (forms kinds.TypeData) bytes items tt h)
  of_kind flow kinds.TypeElement e bytes items h = inr (all_plain (forms kinds.TypeElement) bytes items tt h)
  of_kind flow kinds.TypeType e bytes items h = inr (all_plain (forms kinds.TypeType) bytes items tt h)
  of_kind flow kinds.Cast e bytes items h = inr (all_plain (forms kinds.Cast) bytes items tt h)
  of_kind flow kinds.Vector e bytes items h = inr (all_plain (forms kinds.Vector) bytes items tt h)
  of_kind flow kinds.Lane e bytes items h = inr (all_plain (forms kinds.Lane) bytes items tt h)
  of_kind flow kinds.AccessLane e bytes items h = inr (all_plain (forms kinds.AccessLane) bytes items tt h)
  of_kind flow kinds.Zero e bytes items h = inr (all_plain (forms kinds.Zero) bytes items tt h)

  gated : (on : Bool) (a b : Kind) → (if on then Some a else None) ≡ Some b → a ≡ b
  gated true a b e = cc
  gated false a b e = absurd cc

  listed : (o : Option Entry) → if_some o ≡ true → (kind : Kind) → allowed features o ≡ Some kind → (bytes : List ℕ) (items : List Item) → SpellsForms features (forms kind) bytes items
      → (role_in (flow_in o) ≡ Opens) ⊎ AllByRecursion IsNoBlock items
  listed None has kind e bytes items h = absurd cc
  listed (Some entry) has kind e bytes items h =
      let same : entry.kind ≡ kind = gated (is_on features entry.gate) entry.kind kind e in
      of_kind entry.flow entry.kind has bytes items (subst (λ (k : Kind). SpellsForms features (forms k) bytes items) (sym same) h)

pub blocks_open : SpelledBlocksOpen
unfolding kind_of
blocks_open features bytes op h = listed features (find_code op.code.prefix op.code.number) (code_has op.code.prefix op.code.number) h.kind h.listed h.later op.items h.items
