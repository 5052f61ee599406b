-- A group's reading is that with the places of its types, which are left out.
use Rattle.std.proofs.Common.{ℕ, zero, suc, ◌≡◌, ◌==◌, Bool, true, false, List, [], ◌∷◌, map, length, Result, Ok, Err, refl, sym, ap, ◌∙◌, arith}
use Rattle.std.specs.Prelude.{zip, IfOk, if◌then◌else◌}
use Rattle.wasm_features.specs.declared.WasmFeatures.{WasmFeatures}
use Rattle.wasm_features.specs.Features.{GcTypes, enables}
use Rattle.wasm_reader.specs.declared.error.Error.{Error}
use Rattle.wasm_reader.specs.Cursor.{Cursor, rest, end_of}
use Rattle.wasm_reader.specs.Reading.{Reading, Fault, ◌>>=◌, byte_at}
use Rattle.wasm_reader.specs.Text.{size_at}
use Rattle.wasm_reader.specs.Items.{ReadsUnlessMemory, items_at, vec_at}
use Rattle.wasm_reader.specs.Unless.{fails_then, fails_as}
use Rattle.wasm_types.specs.declared.subtype.SubType.{SubType}
use Rattle.wasm_types.specs.Groups.{Group}
use Rattle.wasm_types.specs.Readings.{Listed, sub_at, sub_after, group_after, group_at}
use Rattle.wasm_types.specs.Placed.{Placed, placed_sub_at, placed_after, placed_at, placed_member, placed, listed}

abbrev types_of : List (ℕ × SubType) → List SubType
types_of = map (λ member. member.1)

abbrev unplaced : Placed → Listed
unplaced p = record { explicit = p.explicit; types = types_of p.members }

abbrev all_unplaced : Reading (List (ℕ × SubType)) → Reading (List SubType)
all_unplaced r = r >>= λ x. Ok (types_of x.0, x.1)

abbrev behind_one : {A : Type 0} → A → Reading (List A) → Reading (List A)
behind_one first r = r >>= λ later. Ok (first ∷ later.0, later.1)

abbrev group_unplaced : Reading Placed → Reading Listed
group_unplaced r = r >>= λ x. Ok (unplaced x.0, x.1)

abbrev placing : ℕ → Reading SubType → Reading (ℕ × SubType)
placing place r = r >>= λ ty. Ok ((place, ty.0), ty.1)

abbrev written_placed : Reading (List (ℕ × SubType)) → Reading Placed
written_placed r = r >>= λ x. Ok (record { explicit = true; members = x.0 }, x.1)

abbrev written : Reading (List SubType) → Reading Listed
written r = r >>= λ x. Ok (record { explicit = true; types = x.0 }, x.1)

abbrev alone_placed : ℕ → Reading SubType → Reading Placed
alone_placed start r = r >>= λ x. Ok (record { explicit = false; members = (start, x.0) ∷ [] }, x.1)

abbrev alone : Reading SubType → Reading Listed
alone r = r >>= λ x. Ok (record { explicit = false; types = x.0 ∷ [] }, x.1)

one_more : (place : ℕ) (ty : SubType) (r : Reading (List (ℕ × SubType))) → all_unplaced (behind_one (place, ty) r) ≡ behind_one ty (all_unplaced r)
one_more place ty (Ok x) = refl
one_more place ty (Err e) = refl

module _ (features : WasmFeatures) where
  step : (count place : ℕ) → ((bytes : List ℕ) → all_unplaced (items_at (placed_sub_at features) count bytes) ≡ items_at (sub_at features) count bytes) → (r : Reading SubType)
      → all_unplaced (placing place r >>= λ first. behind_one first.0 (items_at (placed_sub_at features) count first.1)) ≡ (r >>= λ first. behind_one first.0 (items_at (sub_at features) count first.1))
  step count place later (Ok x) = one_more place x.0 (items_at (placed_sub_at features) count x.1) ∙ ap (behind_one x.0) (later x.1)
  step count place later (Err e) = refl

  items_unplaced : (count : ℕ) (bytes : List ℕ) → all_unplaced (items_at (placed_sub_at features) count bytes) ≡ items_at (sub_at features) count bytes
  unfolding items_at placed_sub_at
  items_unplaced zero bytes = refl
  items_unplaced (suc count) bytes = step count (length bytes) (items_unplaced count) (sub_at features bytes)

  vec_step : (r : Reading ℕ) → all_unplaced (r >>= λ count. items_at (placed_sub_at features) count.0 count.1) ≡ (r >>= λ count. items_at (sub_at features) count.0 count.1)
  vec_step (Ok x) = items_unplaced x.0 x.1
  vec_step (Err e) = refl

  vec_unplaced : (limit : ℕ) (bytes : List ℕ) → all_unplaced (vec_at limit (placed_sub_at features) bytes) ≡ vec_at limit (sub_at features) bytes
  unfolding vec_at
  vec_unplaced limit bytes = vec_step (size_at limit bytes)

  group_step : (r : Reading (List (ℕ × SubType))) (s : Reading (List SubType)) → all_unplaced r ≡ s
      → group_unplaced (written_placed r) ≡ written s
  group_step (Ok x) s e = rw (← e) refl
  group_step (Err f) s e = rw (← e) refl

  single_step : (start : ℕ) (r : Reading SubType)
      → group_unplaced (alone_placed start r) ≡ alone r
  single_step start (Ok x) = refl
  single_step start (Err f) = refl

  gate_step : (on : Bool) (r : Reading Placed) (s : Reading Listed) (f : Fault) → group_unplaced r ≡ s → group_unplaced (if on then r else Err f) ≡ (if on then s else Err f)
  gate_step true r s f e = e
  gate_step false r s f e = refl

  choice_step : (b : Bool) (r1 r2 : Reading Placed) (s1 s2 : Reading Listed) → group_unplaced r1 ≡ s1 → group_unplaced r2 ≡ s2 → group_unplaced (if b then r1 else r2) ≡ (if b then s1 else s2)
  choice_step true r1 r2 s1 s2 e1 e2 = e1
  choice_step false r1 r2 s1 s2 e1 e2 = e2

  after_unplaced : (b start : ℕ) (bytes : List ℕ) → group_unplaced (placed_after features b start bytes) ≡ group_after features b start bytes
  unfolding placed_after group_after
  after_unplaced b start bytes = choice_step (b == 0x4e) _ _ _ _
      (gate_step (enables features GcTypes) _ _ _ (group_step (vec_at 1000000 (placed_sub_at features) bytes) (vec_at 1000000 (sub_at features) bytes) (vec_unplaced 1000000 bytes)))
      (single_step start (sub_after features b start bytes))

  byte_step : (start : ℕ) (r : Reading ℕ) → group_unplaced (r >>= λ b. placed_after features b.0 start b.1) ≡ (r >>= λ b. group_after features b.0 start b.1)
  byte_step start (Ok x) = after_unplaced x.0 start x.1
  byte_step start (Err e) = refl

  all_the_same : (bytes : List ℕ) → group_unplaced (placed_at features bytes) ≡ group_at features bytes
  unfolding placed_at group_at
  all_the_same bytes = byte_step (length bytes) (byte_at bytes)

seconds_placed : (end : ℕ) (offsets : List ℕ) (types : List SubType) → length offsets ≡ length types → types_of (map (placed_member end) (zip offsets types)) ≡ types
seconds_placed end [] [] h = refl
seconds_placed end [] (t ∷ types) h = absurd (omega arith)
seconds_placed end (o ∷ offsets) [] h = absurd (omega arith)
seconds_placed end (o ∷ offsets) (t ∷ types) h = ap (λ (l : List SubType). t ∷ l) (seconds_placed end offsets types (omega arith))

-- what was read with places was read
pub unplaced_reads : (features : WasmFeatures) (old new : Cursor) (result : Result Group Error) → ReadsUnlessMemory (placed_at features) (placed (end_of old)) old new result
    → IfOk result (λ group. length group.offsets ≡ length group.types) → ReadsUnlessMemory (group_at features) listed old new result
unplaced_reads features old new (Ok group) h paired = record {
  value = sym (all_the_same features (rest old)) ∙ ap group_unplaced h.value
      ∙ ap (λ (types : List SubType). Ok (record { explicit = group.explicit; types = types }, rest new)) (seconds_placed (end_of old) group.offsets group.types paired);
  place = h.place;
  moves = h.moves;
}
unplaced_reads features old new (Err e) h paired = record {
  value = fails_as new e _ _ (all_the_same features (rest old)) (fails_then new e (placed_at features (rest old)) (λ x. Ok (unplaced x.0, x.1)) h.value);
  place = h.place;
  moves = h.moves;
}
