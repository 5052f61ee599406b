-- Look-ups of names, and answers that may be refusals.
use Rattle.std.specs.Prelude.{ℕ, Option, None, Result, Ok, Err, slice_get}
use Rattle.std.specs.Option.{ok_or}
use Rattle.walrus_operators.specs.wasm_operators.Items as items
use Rattle.walrus_index_maps.specs.Maps.{Ids, Indices}
use Rattle.walrus_index_maps.specs.declared.space.Space.{Space}
use Rattle.walrus_index_maps.specs.declared.space.Space.TheVariants as spaces
use Rattle.walrus_pairing.specs.declared.error.PairError.{PairError}
use Rattle.walrus_pairing.specs.declared.error.PairError.TheVariants as errors

-- what a number of a space is sent to, if it names something
abbrev pub Look : Type 0
Look = items.Space → ℕ → Option ℕ

-- a value, or why there is none
abbrev pub Or : Type 0 → Type 0
Or A = Result A PairError

infixl 10 ◌>>=◌
abbrev pub ◌>>=◌ : {A B : Type 0} → Or A → (A → Or B) → Or B
(Ok x) >>= f = f x
(Err e) >>= f = Err e

abbrev pub word : items.Space → Space
word items.Types = spaces.«Type»
word items.Functions = spaces.Function
word items.Tables = spaces.Table
word items.Memories = spaces.Memory
word items.Tags = spaces.Tag
word items.Globals = spaces.Global
word items.ElementSegments = spaces.Element
word items.DataSegments = spaces.Data
word items.Locals = spaces.Local
word items.Labels = spaces.Label

-- what a number is sent to; it is refused where it names nothing
abbrev pub found : Look → items.Space → ℕ → Or ℕ
found look space n = ok_or (look space n) (errors.Unknown (word space))

-- the id that an index names, in the body of a function; labels name no ids here
abbrev pub id_of : Ids → ℕ → Look
id_of ids function items.Types n = slice_get ids.types n
id_of ids function items.Functions n = slice_get ids.functions n
id_of ids function items.Tables n = slice_get ids.tables n
id_of ids function items.Memories n = slice_get ids.memories n
id_of ids function items.Tags n = slice_get ids.tags n
id_of ids function items.Globals n = slice_get ids.globals n
id_of ids function items.ElementSegments n = slice_get ids.elements n
id_of ids function items.DataSegments n = slice_get ids.segments n
id_of ids function items.Locals n = slice_get (ids.locals function) n
id_of ids function items.Labels n = None

-- the number that an id is written as, in the body of a function
abbrev pub number_of : Indices → ℕ → Look
number_of indices function items.Types id = indices.types.number id
number_of indices function items.Functions id = indices.functions.number id
number_of indices function items.Tables id = indices.tables.number id
number_of indices function items.Memories id = indices.memories.number id
number_of indices function items.Tags id = indices.tags.number id
number_of indices function items.Globals id = indices.globals.number id
number_of indices function items.ElementSegments id = indices.elements.number id
number_of indices function items.DataSegments id = indices.segments.number id
number_of indices function items.Locals id = indices.locals function id
number_of indices function items.Labels id = None
