-- Which names a payload gives depends on nothing of a module but how many items and locals it has.
use Rattle.std.specs.Prelude.{ℕ, zero, suc, ◌≡◌, nat_lt, Bool, true, List, [], ◌∷◌, length, Some, if◌then◌else◌, refl}
use Rattle.std.proofs.Common.{ap, sym, ◌∙◌}
use Rattle.walrus_index_maps.specs.Maps.{Ids}
use Rattle.wasm_formats.specs.declared.fault.Space.{Space}
use Rattle.wasm_formats.specs.declared.fault.Space.TheVariants as spaces
use Rattle.wasm_formats.specs.Stops.{Index}
use Rattle.wasm_formats.specs.Bytes.{byte}
use Rattle.wasm_formats.specs.Joined.{checked, after}
use Rattle.wasm_formats.specs.Wholes.{u32}
use Rattle.wasm_body_grammar.specs.wasm_grammar.Modules.{Module}
use Rattle.wasm_body_grammar.specs.wasm_grammar.States.{count_of}
use Rattle.wasm_body_grammar.specs.wasm_grammar.Values.{must}
use Rattle.walrus_payload_readers.specs.wasm_name_payloads.Keepers.{Kept}
use Rattle.walrus_payload_readers.specs.wasm_name_payloads.Joined.{continued, led}
use Rattle.walrus_payload_readers.specs.wasm_name_payloads.Windows.{window, parts_of}
use Rattle.walrus_payload_readers.specs.wasm_name_payloads.Names.{Given, ALocal, Part, ModuleName, ItemNames, LocalNames, Skipped, part_of, item_in, name_map, counted, local_count, contents, subsection, takes_some, names_in, names_if, same_name, section_name}
use Rattle.walrus_payloads_into.specs.Numbered.{IsNumbered}

-- as many items and locals
pub record AreAsMany (m n : Module) : Type 0 where
  pub items : (space : Space) → count_of m space ≡ count_of n space
  pub locals : (function : ℕ) → local_count m function ≡ local_count n function

pub as_many : (m n : Module) (ids : Ids) → IsNumbered m ids → IsNumbered n ids → AreAsMany m n
as_many m n ids a b = record { items = λ space. a.items space ∙ sym (b.items space); locals = λ function. a.locals function ∙ sym (b.locals function) }

module _ (m n : Module) (same : AreAsMany m n) where
  contents_same : (part : Part) (size : ℕ) → contents m part size ≡ contents n part size
  contents_same ModuleName size = refl
  contents_same (ItemNames space) size = ap (λ (count : ℕ). window size (name_map count (item_in space))) (same.items space)
  contents_same LocalNames size = λ i.
      window size (counted (led (checked u32 (λ f. must (nat_lt f (same.items spaces.Function i)) (Index spaces.Function))) (λ f. name_map (same.locals f i) (ALocal f))))
  contents_same Skipped size = refl

  subsection_same : subsection m ≡ subsection n
  subsection_same = λ i. led (after byte (λ _. u32)) (λ h. contents_same (part_of h.0) h.1 i)

  parts_same : (fuel : ℕ) (bytes : List ℕ) → parts_of (subsection m) (takes_some m) fuel bytes ≡ parts_of (subsection n) (takes_some n) fuel bytes
  parts_same fuel [] = refl
  parts_same zero (b ∷ bytes) = refl
  parts_same (suc fuel) (b ∷ bytes) = λ i.
      continued ((subsection_same i).keeps (b ∷ bytes)).items ((subsection_same i).keeps (b ∷ bytes)).rest (λ later. parts_same fuel later i)

  -- a payload gives the same names to both
  pub names_same : (bytes : List ℕ) → names_in m bytes ≡ names_in n bytes
  names_same bytes = ap (λ (k : Kept Given). k.items) (parts_same (length bytes) bytes)

  -- and so does a section of that name
  pub section_gives : (name bytes : List ℕ) → same_name name section_name ≡ true → names_in m bytes ≡ names_if n (Some (record { name = name; bytes = bytes }))
  section_gives name bytes named = names_same bytes ∙ sym (ap (λ (b : Bool). if b then names_in n bytes else []) named)
