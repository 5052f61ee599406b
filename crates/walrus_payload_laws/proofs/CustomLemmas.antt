-- A custom section that is written is read.
use Rattle.std.specs.Prelude.{ℕ, ◌≡◌, ◌<◌, ◌≤◌, ◌^◌, true, List, ◌∷◌, ◌++◌, length, refl}
use Rattle.std.specs.Str.{is_utf8}
use Rattle.std.proofs.Common.{◌∙◌, ap, sym, subst, arith}
use Rattle.wasm_operators.specs.Bytes.{unsigned_bytes}
use Rattle.wasm_reader.specs.Shortest.{u32_bytes}
use Rattle.wasm_section_bytes.specs.Sections.{custom_writer}
use Rattle.wasm_name_payloads.specs.Names as names
use Rattle.wasm_name_payloads.specs.Producers as producers
use Rattle.wasm_name_payloads.specs.Written.{name_bytes}
use Rattle.walrus_payload_writers.specs.Writes.{custom_bytes}
use Rattle.walrus_payload_writers.proofs.Numbers.{u32_is}
use Rattle.walrus_payload_laws.specs.Laws.{IsCustom, FitsSection}

-- both names are texts
pub names_utf8 : is_utf8 names.section_name ≡ true
unfolding Rattle.std.specs.Str.is_utf8 Rattle.std.specs.Str.chars lib.Utf8.encode
names_utf8 = refl

pub producers_utf8 : is_utf8 producers.section_name ≡ true
unfolding Rattle.std.specs.Str.is_utf8 Rattle.std.specs.Str.chars lib.Utf8.encode
producers_utf8 = refl

-- its bytes behind the id are those of the writer of custom sections
behind_id : (name payload : List ℕ) → length name ≤ 100000 → FitsSection name payload
    → u32_bytes (length (name_bytes name ++ payload)) ++ (name_bytes name ++ payload) ≡ custom_writer.bytes (name, payload)
behind_id name payload short fits =
    let spelled : unsigned_bytes (length name) ≡ u32_bytes (length name) = u32_is (length name) (omega (arith, short)) in
    ap (λ (size : List ℕ). size ++ (name_bytes name ++ payload)) (sym (u32_is (length (name_bytes name ++ payload)) fits))
    ∙ ap (λ (count : List ℕ). unsigned_bytes (length ((count ++ name) ++ payload)) ++ ((count ++ name) ++ payload)) (sym spelled)

pub custom_read : (name payload : List ℕ) → length name ≤ 100000 → is_utf8 name ≡ true → FitsSection name payload → IsCustom (custom_bytes name payload) name payload
custom_read name payload short utf8 fits =
    let spelled : unsigned_bytes (length name) ≡ u32_bytes (length name) = u32_is (length name) (omega (arith, short)) in
    let small : length ((unsigned_bytes (length name) ++ name) ++ payload) < 2 ^ 32 =
    subst (λ (count : List ℕ). length ((count ++ name) ++ payload) < 2 ^ 32) (sym spelled) fits in (
      custom_writer.bytes (name, payload),
      ap (λ (bytes : List ℕ). 0 ∷ bytes) (behind_id name payload short fits),
      custom_writer.written (name, payload) (((short, utf8), tt), small),
    )
