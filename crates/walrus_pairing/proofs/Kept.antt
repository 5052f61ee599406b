-- Lemmas: what comes back of an operator's immediates, where it has a spelling.
use Rattle.std.specs.Prelude.{ℕ, ◌<◌, ◌≡◌, ◌==◌, ◌&&◌, Bool, true, List, [], ◌∷◌, length, All, Option, Some, None, refl}
use Rattle.std.specs.List.{AllByRecursion}
use Rattle.std.proofs.Common.{sym, subst, ◌∙◌, inl, inr}
use Rattle.std.proofs.lemmas.Bool.{cases_Bool, and_parts, eqb-true}
use Rattle.wasm_operators.specs.wasm_features.declared.WasmFeatures.{WasmFeatures}
use Rattle.wasm_operators.specs.Items.{Item, Bytes, ManyValues, Form, index, number, s32, s64, bits, run, any_byte, below, zero_byte, heap, block, access, labels, values, clauses}
use Rattle.wasm_operators.specs.declared.entry.Entry.{Entry}
use Rattle.wasm_operators.specs.declared.entry.Kind.{Kind}
use Rattle.wasm_operators.specs.declared.op_code.OpCode.{OpCode}
use Rattle.wasm_operators.specs.Table.{find_code, structure_rows, call_rows, plain_rows, fb_rows, fc_rows, fd_rows, fe_rows}
use Rattle.wasm_operators.specs.Kinds.{forms}
use Rattle.wasm_operators.specs.Operators.{is_on, kind_of, Seen}
use Rattle.wasm_operators.specs.Ranges.{ItemFits, ItemsFit, OperatorFits}
use Rattle.walrus_codes.specs.Runs.{byte}
use Rattle.walrus_pairing.proofs.Rows.{TablePasses, table_holds}

-- the code of `select` with types
abbrev pub is_select : ℕ → ℕ → Bool
is_select prefix n = prefix == 0 && n == 0x1c

-- a run is of 16 bytes, and value types stand behind the code of `select` alone
abbrev pub IsKept : OpCode → Item → Type 0
IsKept code (Bytes bytes) = (length bytes ≡ 16) × All (λ b. b < 256) bytes
IsKept code (ManyValues tys) = code ≡ byte 0x1c
IsKept code _ = Unit {0}

-- such forms, where the test of the code has this answer
abbrev form_kept : Bool → Form → Bool
form_kept is (run size) = size == 16
form_kept is values = is
form_kept is _ = true

abbrev forms_kept : Bool → List Form → Bool
forms_kept is [] = true
forms_kept is (form ∷ forms) = form_kept is form && forms_kept is forms

abbrev kept_test : ℕ → Entry → ℕ → Bool
kept_test prefix e n = forms_kept (is_select prefix n) (forms e.kind)

table_kept : TablePasses kept_test
unfolding structure_rows call_rows plain_rows fb_rows fc_rows fd_rows fe_rows
table_kept = record { structure = refl; call = refl; plain = refl; fb = refl; fc = refl; fd = refl; fe = refl }

select_code : (code : OpCode) → is_select code.prefix code.number ≡ true → code ≡ byte 0x1c
select_code code is =
    let parts = and_parts (code.prefix == 0) (code.number == 0x1c) is in
    let prefix : code.prefix ≡ 0 = eqb-true code.prefix 0 parts.0 in
    let number : code.number ≡ 0x1c = eqb-true code.number 0x1c parts.1 in
    λ i. record { prefix = prefix i; number = number i }

module _ (features : WasmFeatures) (code : OpCode) where
  -- what is made of anything but bytes and value types
  item_kept : (form : Form) (x : Item) → form_kept (is_select code.prefix code.number) form ≡ true → ItemFits features form x → IsKept code x
  item_kept (run size) x e fits =
      let long : length fits.0 ≡ 16 = fits.2.0 ∙ eqb-true size 16 e in
      subst (IsKept code) (sym fits.1) (long, fits.2.1)
  item_kept values x e fits = subst (IsKept code) (sym fits.1) (select_code code e)
  item_kept (index space) x e fits = subst (IsKept code) (sym fits.1) tt
  item_kept number x e fits = subst (IsKept code) (sym fits.1) tt
  item_kept s32 x e fits = subst (IsKept code) (sym fits.1) tt
  item_kept s64 x e fits = subst (IsKept code) (sym fits.1) tt
  item_kept (bits size) x e fits = subst (IsKept code) (sym fits.1) tt
  item_kept any_byte x e fits = subst (IsKept code) (sym fits.1) tt
  item_kept (below bound) x e fits = subst (IsKept code) (sym fits.1) tt
  item_kept zero_byte x e fits = subst (IsKept code) (sym fits.1) tt
  item_kept heap x e fits = subst (IsKept code) (sym fits.1) tt
  item_kept block x e fits = subst (IsKept code) (sym fits.1) tt
  item_kept access x e fits = subst (IsKept code) (sym fits.1) tt
  item_kept labels x e fits = subst (IsKept code) (sym fits.1) tt
  item_kept clauses x e fits = subst (IsKept code) (sym fits.1) tt

  items_kept : (fs : List Form) (items : List Item) → forms_kept (is_select code.prefix code.number) fs ≡ true → ItemsFit features fs items → AllByRecursion (IsKept code) items
  items_kept [] items e fits = subst (AllByRecursion (IsKept code)) (sym fits) tt
  items_kept (form ∷ fs) items e fits =
      let parts = and_parts (form_kept (is_select code.prefix code.number) form) (forms_kept (is_select code.prefix code.number) fs) e in
      subst (AllByRecursion (IsKept code)) (sym fits.2) (item_kept form fits.0 parts.0 fits.3, items_kept fs fits.1 parts.1 fits.4)

-- the table's entry of an operator that has a spelling
pub entry_of : (features : WasmFeatures) (code : OpCode) (kind : Kind) → kind_of features code ≡ Some kind → (e : Entry) × (find_code code.prefix code.number ≡ Some e) × (e.kind ≡ kind)
unfolding kind_of
entry_of features code kind listed = at (find_code code.prefix code.number) refl
  where
    at : (o : Option Entry) → find_code code.prefix code.number ≡ o → (e : Entry) × (find_code code.prefix code.number ≡ Some e) × (e.kind ≡ kind)
    at None f = absurd (let w = (rw f at listed) in cc)
    at (Some e) f = elim (cases_Bool (is_on features e.gate)) [
      | inl on ↦ (e, f, (let w = (rw (f, on) at listed) in cc))
      | inr off ↦ absurd (let w = (rw (f, off) at listed) in cc)
    ]

pub operator_kept : (features : WasmFeatures) (op : Seen) → OperatorFits features op → AllByRecursion (IsKept op.code) op.items
operator_kept features op fits =
    let found = entry_of features op.code fits.kind fits.listed in
    let pass = table_holds kept_test table_kept op.code.prefix op.code.number found.0 found.1 in
    items_kept features op.code (forms fits.kind) op.items (subst (λ k. forms_kept (is_select op.code.prefix op.code.number) (forms k) ≡ true) found.2 pass) fits.items
