-- Lemmas: operators that are read by their classes.
use Rattle.std.specs.Prelude.{ℕ, ◌<◌, ◌≡◌, true, List, [], ◌∷◌, Option, Some, None, refl, slice_get}
use Rattle.std.proofs.Common.{ap, sym, ◌∙◌}
use Rattle.wasm_features.specs.declared.WasmFeatures.{WasmFeatures}
use Rattle.wasm_reader.specs.Cursor.{Cursor, rest}
use Rattle.walrus_pairing.specs.wasm_operators.Table.{find_code}
use Rattle.walrus_pairing.specs.wasm_operators.Operators.{is_on}
use Rattle.walrus_pairing.specs.wasm_operators.declared.entry.Entry.{Entry}
use Rattle.walrus_pairing.specs.wasm_operators.declared.entry.Gate.{Gate}
use Rattle.walrus_pairing.specs.wasm_operators.declared.entry.Gate.TheVariants as gates
use Rattle.walrus_operators.specs.Operators.{IsNext, IsNextOf}
use Rattle.walrus_body_locals.specs.Classes.{IsNextIn, class_entry}
use Rattle.walrus_body_locals.specs.declared.class.Class.{Class}
use Rattle.walrus_body_locals.specs.declared.class.Class.TheVariants as classes

-- each is always on
abbrev gate_in : Option Entry → Gate
gate_in None = gates.Always
gate_in (Some e) = e.gate

gate_always : (k : Class) → gate_in (class_entry k) ≡ gates.Always
gate_always classes.Local = refl
gate_always classes.Global = refl
gate_always classes.Load = refl
gate_always classes.Store = refl
gate_always classes.I32 = refl
gate_always classes.I64 = refl
gate_always classes.F64 = refl
gate_always classes.Plain = refl
gate_always classes.Chooses = refl
gate_always classes.Calls = refl
gate_always classes.End = refl
gate_always classes.Else = refl
gate_always (classes.Opens flow) = refl
gate_always classes.Rare = refl

on_so : (features : WasmFeatures) (k : Class) (e : Entry) → class_entry k ≡ Some e → is_on features e.gate ≡ true
on_so features k e same = ap (λ (g : Gate). is_on features g) (sym (ap gate_in same) ∙ gate_always k)

-- the byte that is looked at is the first
first_is : (bytes : List ℕ) (b : ℕ) → Some b ≡ slice_get bytes 0 → (later : List ℕ) × (bytes ≡ b ∷ later)
first_is [] b e = absurd cc
first_is (d ∷ bytes) b e = let same : d ≡ b = cc in (bytes, ap (λ (n : ℕ). n ∷ bytes) same)

pub next_in : (c : Cursor) (k : Class) (b : ℕ) → Some b ≡ slice_get (rest c) 0 → ((e : Entry) → class_entry k ≡ Some e → (b < 0xfb) × (find_code 0 b ≡ Some e)) → IsNextIn c k
next_in c k b first table = λ e same.
    let h = first_is (rest c) b first in
    let t = table e same in
    record { byte = b; later = h.0; stands = h.1; low = t.0; listed = t.1; on = on_so c.window.features k e same }

-- what is asked where one of a class is read
pub next_of : (c : Cursor) (k class : Class) (e : Entry) → IsNextIn c k → k ≡ class → class_entry class ≡ Some e → IsNextOf c e.kind
next_of c k class e next is has = (e, next e (ap class_entry is ∙ has), refl)
