-- What contracts see of producers: texts as their bytes.
use Rattle.std.specs.Prelude.{ℕ, List, [], ◌∷◌, map, string_bytes}
use Rattle.wasm_producers.specs.Entries.{Value, Field}
use Rattle.walrus_customs.specs.declared.producers.ProducerValue.{ProducerValue}
use Rattle.walrus_customs.specs.declared.producers.ProducerField.{ProducerField}

abbrev pub value_of : ProducerValue → Value
value_of v = record { name = string_bytes v.name; version = string_bytes v.version }

abbrev pub values_of : List ProducerValue → List Value
values_of values = map value_of values

abbrev pub field_of : ProducerField → Field
field_of f = record { name = string_bytes f.name; values = values_of f.values.items }

abbrev pub fields_of : List ProducerField → List Field
fields_of fields = map field_of fields

-- the names of fields: language, processed-by, sdk
abbrev pub language : List ℕ
language = 0x6c ∷ 0x61 ∷ 0x6e ∷ 0x67 ∷ 0x75 ∷ 0x61 ∷ 0x67 ∷ 0x65 ∷ []

abbrev pub processed_by : List ℕ
processed_by = 0x70 ∷ 0x72 ∷ 0x6f ∷ 0x63 ∷ 0x65 ∷ 0x73 ∷ 0x73 ∷ 0x65 ∷ 0x64 ∷ 0x2d ∷ 0x62 ∷ 0x79 ∷ []

abbrev pub sdk : List ℕ
sdk = 0x73 ∷ 0x64 ∷ 0x6b ∷ []
