-- The loop over a group's members.
use Rattle.std.proofs.Common.{ℕ, ◌≡◌, ◌+◌, ◌<◌, ◌≤◌, List, [], ◌∷◌, ◌++◌, length, All, Result, Ok, Err, refl, ap, subst, arith}
use Rattle.std.specs.Prelude.{zip}
use Rattle.std.proofs.lemmas.List.{length-append}
use Rattle.std.proofs.lemmas.List.Elements.{All-push}
use Rattle.wasm_reader.specs.declared.error.Error.{Error}
use Rattle.wasm_reader.specs.Cursor.{Window, Cursor, Forward, end_of}
use Rattle.wasm_reader.specs.Items.{WantsMemory, ReadsUnlessMemory, items_at}
use Rattle.wasm_reader.proofs.Repeats.{Repeats, begins, more, stops, starves, ends}
use Rattle.wasm_types.specs.declared.subtype.SubType.{SubType}
use Rattle.wasm_types.specs.Groups.{Group}
use Rattle.wasm_types.specs.Placed.{placed_sub_at, placed_member, placed_members}

-- after `i` of `count` members
pub record Collects (start now : Cursor) (count i : ℕ) (offsets : List ℕ) (types : List SubType) : Type 0 where
  pub repeats : Repeats (placed_sub_at start.window.features) (placed_member (end_of start)) start now count i (zip offsets types)
  pub paired : length offsets ≡ length types
  pub within : All (λ offset. offset ≤ end_of start) offsets

zip_push : (offsets : List ℕ) (types : List SubType) (offset : ℕ) (ty : SubType) → length offsets ≡ length types → zip (offsets ++ offset ∷ []) (types ++ ty ∷ []) ≡ zip offsets types ++ (offset, ty) ∷ []
zip_push [] [] offset ty h = refl
zip_push [] (t ∷ types) offset ty h = absurd (omega arith)
zip_push (o ∷ offsets) [] offset ty h = absurd (omega arith)
zip_push (o ∷ offsets) (t ∷ types) offset ty h = ap (λ (l : List (ℕ × SubType)). (o, t) ∷ l) (zip_push offsets types offset ty (omega arith))

pub collects_none : (start : Cursor) (count : ℕ) → Collects start start count 0 [] []
collects_none start count = record {
  repeats = begins (placed_sub_at start.window.features) (placed_member (end_of start)) start count;
  paired = refl;
  within = λ k d h. absurd (omega arith);
}

-- the same member, in the window of the start
at_start : (start now new : Cursor) (result : Result (ℕ × SubType) Error) → now.window ≡ start.window
    → ReadsUnlessMemory (placed_sub_at now.window.features) (placed_member (end_of now)) now new result
    → ReadsUnlessMemory (placed_sub_at start.window.features) (placed_member (end_of start)) now new result
at_start start now new result same h = subst (λ (w : Window). ReadsUnlessMemory (placed_sub_at w.features) (placed_member (w.start + length w.bytes)) now new result) same h

module _ (start now new : Cursor) (count i : ℕ) (offsets : List ℕ) (types : List SubType) (so : Collects start now count i offsets types) (below : i < count) where
  same_end : end_of now ≡ end_of start
  same_end = ap (λ (w : Window). w.start + length w.bytes) so.repeats.moves.window

  pub collects_more : (offset : ℕ) (ty : SubType) → ReadsUnlessMemory (placed_sub_at now.window.features) (placed_member (end_of now)) now new (Ok (offset, ty)) → offset ≤ end_of now
      → Collects start new count (i + 1) (offsets ++ offset ∷ []) (types ++ ty ∷ [])
  collects_more offset ty reads within = record {
    repeats = rw (zip_push offsets types offset ty so.paired)
        (more (placed_sub_at start.window.features) (placed_member (end_of start)) start now new count i (zip offsets types) so.repeats below (offset, ty)
        (at_start start now new (Ok (offset, ty)) so.repeats.moves.window reads));
    paired = omega (arith, so.paired, length-append offsets (offset ∷ []), length-append types (ty ∷ []));
    within = All-push (λ offset. offset ≤ end_of start) offsets offset so.within (omega (arith, same_end, within));
  }

  pub collects_stops : (e : Error) → ReadsUnlessMemory (placed_sub_at now.window.features) (placed_member (end_of now)) now new (Err e)
      → ReadsUnlessMemory (items_at (placed_sub_at start.window.features) count) (placed_members (end_of start)) start new (Err e)
  collects_stops e reads =
      stops (placed_sub_at start.window.features) (placed_member (end_of start)) start now new count i (zip offsets types) so.repeats below (placed_members (end_of start)) e
      (at_start start now new (Err e) so.repeats.moves.window reads)

  pub collects_starves : (e : Error) → Forward now new → WantsMemory new e → e.offset ≤ end_of new
      → ReadsUnlessMemory (items_at (placed_sub_at start.window.features) count) (placed_members (end_of start)) start new (Err e)
  collects_starves = starves (placed_sub_at start.window.features) (placed_member (end_of start)) start now new count i (zip offsets types) so.repeats below (placed_members (end_of start))

pub collects_all : (start now : Cursor) (count i : ℕ) (offsets : List ℕ) (types : List SubType) → Collects start now count i offsets types → count ≤ i → (group : Group) → group.offsets ≡ offsets → group.types ≡ types
    → ReadsUnlessMemory (items_at (placed_sub_at start.window.features) count) (placed_members (end_of start)) start now (Ok group)
collects_all start now count i offsets types so above group o t =
    ends (placed_sub_at start.window.features) (placed_member (end_of start)) (placed_members (end_of start)) start now count i (zip offsets types) group so.repeats above
    (rw (o, t) refl)
