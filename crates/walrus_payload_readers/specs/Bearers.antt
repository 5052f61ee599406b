-- What names are given to, in words of the grammar.
use Rattle.std.specs.Prelude.{ℕ, Bool, zero, suc, ◌≡◌, List, ◌++◌, Ok, Err, refl}
use Rattle.std.specs.List.{flat_map}
use Rattle.std.proofs.Common.{ap, sym, ◌∙◌}
use Rattle.wasm_formats.specs.Stops.{Parsing}
use Rattle.wasm_formats.specs.Wholes.{u32}
use Rattle.wasm_grammar.specs.Modules.{Module}
use Rattle.wasm_grammar.specs.States.{count_of}
use Rattle.wasm_reader.specs.Cursor.{Cursor, rest}
use Rattle.wasm_name_payloads.specs.Keepers.{Rest, Behind, Ended, Wrong, Kept, kept, Keeper, one}
use Rattle.wasm_name_payloads.specs.Joined.{led, led_by, times, each, as_others, continued, flat_map_append}
use Rattle.wasm_name_payloads.specs.Names as names
use Rattle.wasm_name_payloads.specs.Names.{TheModule, ALocal, item_in, known_function, local_count, association, counted, named_below, name_map}
use Rattle.walrus_payload_readers.specs.Keeps.{Keeps, keeps_as}
use Rattle.walrus_payload_readers.specs.declared.entries.Bearer.{Bearer}
use Rattle.walrus_payload_readers.specs.declared.entries.Bearer.TheVariants as bearers
use Rattle.walrus_payload_readers.specs.declared.entries.Given.{Given}
use Rattle.walrus_payload_readers.specs.declared.entries.Of.{Of}
use Rattle.walrus_payload_readers.specs.declared.entries.Of.TheVariants as of

abbrev pub bearer_of : Bearer → names.Bearer
bearer_of bearers.Module = TheModule
bearer_of (bearers.Item space number) = item_in space number
bearer_of (bearers.Local function local) = ALocal function local

abbrev pub given_of : Given → names.Given
given_of g = names.given (bearer_of g.bearer) g.name.now

-- how many there are that a map can name, and which they are
abbrev pub count_at : Module → Of → ℕ
count_at m (of.Items space) = count_of m space
count_at m (of.Locals function) = local_count m function

abbrev pub bearer_at : Of → ℕ → names.Bearer
bearer_at (of.Items space) = item_in space
bearer_at (of.Locals function) = ALocal function

abbrev pub map_at : Module → Of → Keeper names.Given
map_at m o = name_map (count_at m o) (bearer_at o)

-- an entry of such a map
abbrev pub entry_at : Module → Of → Keeper names.Given
entry_at m o = each (one association) (named_below (count_at m o) (bearer_at o))

-- a function, and the names of its locals
abbrev pub locals_at : Module → Keeper names.Given
locals_at m = led (known_function m) (λ f. map_at m (of.Locals f))

-- ---- Lemmas: the entries of a map, one by one

module _ {A B : Type 0} (k : Keeper A) (g : A → List B) where
  continued_as : (items : List A) (r : Rest) (more : List ℕ → Kept A) (others : List ℕ → Kept B) → ((later : List ℕ) → as_others k g (more later) ≡ others later)
      → as_others k g (continued items r more) ≡ continued (flat_map g items) r others
  continued_as items (Behind later) more others same =
      ap (λ (l : List B). kept l (more later).rest) (flat_map_append g items (more later).items)
      ∙ ap (λ (r : Kept B). kept (flat_map g items ++ r.items) r.rest) (same later)
  continued_as items Ended more others same = refl
  continued_as items Wrong more others same = refl

  pub times_as : (n : ℕ) (bytes : List ℕ) → as_others k g ((times k n).keeps bytes) ≡ (times (each k g) n).keeps bytes
  times_as zero bytes = refl
  times_as (suc n) bytes = continued_as (k.keeps bytes).items (k.keeps bytes).rest (times k n).keeps (times (each k g) n).keeps (λ later. times_as n later)

  counted_as : (r : Parsing ℕ) → as_others k g (led_by (times k) r) ≡ led_by (times (each k g)) r
  counted_as (Ok n) = times_as n.0 n.1
  counted_as (Err s) = refl

  pub each_counted : (bytes : List ℕ) → (each (counted k) g).keeps bytes ≡ (counted (each k g)).keeps bytes
  each_counted bytes = counted_as (u32.parse bytes)

pub map_keeps : {X : Type 0} (m : Module) (o : Of) (view : X → names.Given) (before now : List X) (old new : Cursor) (whole : Bool)
    → Keeps (counted (entry_at m o)).keeps view before now old new whole → Keeps (map_at m o).keeps view before now old new whole
map_keeps m o view before now old new whole h = keeps_as (counted (entry_at m o)).keeps (map_at m o).keeps view before now old new whole
    (sym (each_counted (one association) (named_below (count_at m o) (bearer_at o)) (rest old))) h
