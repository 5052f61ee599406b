-- Lemmas: types that are written merge as they stand.
use Rattle.std.specs.Prelude.{ℕ, zero, suc, ◌≡◌, ◌<◌, ◌≤◌, ◌+◌, ◌==◌, ◌&&◌, Bool, true, false, not, List, [], ◌∷◌, ◌++◌, length, map, filter, take, drop, Some, slice_get, refl, if◌then◌else◌}
use Rattle.std.specs.List.{AllByRecursion, filter_map, list_any, range_with_len}
use Rattle.std.proofs.Common.{ap, sym, ◌∙◌, subst, arith, inl, inr}
use Rattle.std.proofs.lemmas.Bool.{cases_Bool, eqb-true}
use Rattle.std.proofs.lemmas.List.{length-append, length-map}
use Rattle.std.proofs.lemmas.List.FromFn.{get_or-range_with_len}
use Rattle.walrus_forms.specs.Kinds.{Kind}
use Rattle.walrus_forms.specs.Records.{TypeGroup}
use Rattle.walrus_forms.specs.Renaming.{at, renamed_kind}
use Rattle.walrus_forms.proofs.RenamingLemmas.{In, any-in, kinds-agree, kinds-below}
use Rattle.walrus_types.specs.Emission.{described_group, index_at, is_written, written_groups, written_kind}
use Rattle.walrus_types.specs.Items.{Group}
use Rattle.walrus_types.specs.Table.{Table}
use Rattle.walrus_types.proofs.OnceLemmas.{reordered}
use Rattle.walrus_types.proofs.Places.{at_map, at_range, map_at}
use Rattle.walrus_type_laws.specs.Ordinary.{IsSingleUnmarked}
use Rattle.walrus_type_laws.proofs.KindOrder.{kinds-kept}
use Rattle.walrus_type_laws.proofs.Written.{group_kinds}
use Rattle.wasm_features.specs.declared.WasmFeatures.{WasmFeatures}
use Rattle.wasm_grammar.specs.Modules.{Item, Module}
use Rattle.wasm_grammar.specs.States.{types_of}
use Rattle.wasm_references.specs.References.{numbered}
use Rattle.wasm_ruled_modules.specs.Rules.{AreBelow, GroupsBelow}
use Rattle.wasm_merged_modules.specs.Merged.{ids_of, is_filled, is_new, kept, kept_of, kinds_of, merged_module, once, renamed_group, single as alone}
use Rattle.wasm_part.specs.Emitted.{EmittedTypesStand}
use Rattle.wasm_part.specs.Handlers.{handler_groups, lacking}
use Rattle.wasm_part.specs.Part.{Plan}
use Rattle.wasm_part.specs.Seen.{seen_as}
use Rattle.wasm_part.specs.Written.{WritesKept, with_types}
use Rattle.wasm_rewriting_laws.specs.Stay.{WrittenTypesStay}
use Rattle.wasm_rewriting_laws.proofs.Lists.{all_at, all_from}
use Rattle.wasm_rewriting_laws.proofs.Types.{in_order}

-- ---- groups that stay as they are

-- it has types, and a mark but where it is of one type without a mark
abbrev pub Stays : TypeGroup → Type 0
Stays g = (is_filled g.kinds ≡ true) × ((renamed_group (λ n. n) g).marked ≡ g.marked)

stays_so : (marked : Bool) (kinds : List Kind) → 0 < length kinds → (marked ≡ false → length kinds ≤ 1) → (is_filled kinds ≡ true) × (not (not marked && length kinds == 1) ≡ marked)
stays_so marked [] some few = absurd (omega (arith, some))
stays_so true (k ∷ ks) some few = (refl, refl)
stays_so false (k ∷ []) some few = (refl, refl)
stays_so false (k ∷ l ∷ ks) some few = let le = few refl in absurd (omega (arith, le))

module _ (ids : List ℕ) where
  -- each type that is there has its own id, and none before it has
  abbrev Own : ℕ → Type 0
  Own count = (k : ℕ) → k < count → (at ids k ≡ k) × (is_new ids k ≡ true)

  kinds_stay : (end : ℕ) (ks : List Kind) → AreBelow end ks → Own end → map (renamed_kind (at ids)) ks ≡ ks
  kinds_stay end [] h own = refl
  kinds_stay end (k ∷ ks) h own =
      let one : renamed_kind (at ids) k ≡ k = kinds-agree (at ids) (λ m. m) k (λ m i. (own m (kinds-below k end h.0 m i)).0) ∙ kinds-kept k in
      let rest = kinds_stay end ks h.1 own in
      λ i. one i ∷ rest i

  filled_long : (ks : List Kind) → is_filled ks ≡ true → 0 < length ks
  filled_long [] e = absurd cc
  filled_long (k ∷ ks) e = omega arith

  kept_stays : (n : ℕ) (gs : List TypeGroup) → AllByRecursion Stays gs → GroupsBelow n gs → Own (n + length (kinds_of gs)) → kept ids n gs ≡ gs
  kept_stays n [] h below own = refl
  kept_stays n (g ∷ gs) h below own =
      let k : ℕ = length g.kinds in
      let all : length (kinds_of (g ∷ gs)) ≡ k + length (kinds_of gs) = length-append g.kinds (kinds_of gs) in
      let long : 0 < k = filled_long g.kinds h.0.0 in
      let new : is_new ids n ≡ true = (own n (omega (arith, all, long))).1 in
      let both : (is_filled g.kinds && is_new ids n) ≡ true = ap (λ (b : Bool). b && is_new ids n) h.0.0 ∙ new in
      let kinds : map (renamed_kind (at ids)) g.kinds ≡ g.kinds = kinds_stay (n + k) g.kinds below.0 (λ j less. own j (omega (arith, less, all))) in
      let mark : (renamed_group (at ids) g).marked ≡ g.marked = h.0.1 in
      let rest : kept ids (n + k) gs ≡ gs = kept_stays (n + k) gs h.1 below.1 (λ j less. own j (omega (arith, less, all))) in
      ap (λ (b : Bool). if b then renamed_group (at ids) g ∷ kept ids (n + k) gs else kept ids (n + k) gs) both
      ∙ (λ i. record { marked = mark i; kinds = kinds i } ∷ rest i)

-- ---- types that are read each as a type of its own

in_take : (k : ℕ) (xs : List ℕ) (y : ℕ) → In y (take k xs) → (j : ℕ) × (j < k) × (slice_get xs j ≡ Some y)
in_take zero xs y h = absurd h
in_take (suc k) [] y h = absurd h
in_take (suc k) (x ∷ xs) y (inl e) = (zero, omega arith, ap (λ (n : ℕ). Some n) e)
in_take (suc k) (x ∷ xs) y (inr h) = let r = in_take k xs y h in let less = r.1 in (suc r.0, omega (arith, less), r.2)

own_at : (count k : ℕ) → k < count → at (range_with_len 0 count) k ≡ k
own_at count k less = get_or-range_with_len 0 count k 0 less ∙ (let e : 0 + k ≡ k = omega arith in e)

new_at : (count k : ℕ) → k < count → is_new (range_with_len 0 count) k ≡ true
new_at count k less =
    elim (cases_Bool (list_any (λ m. m == at (range_with_len 0 count) k) (take k (range_with_len 0 count)))) as (λ _. is_new (range_with_len 0 count) k ≡ true) [
      | inl e ↦
          let r = in_take k (range_with_len 0 count) (at (range_with_len 0 count) k) (any-in (take k (range_with_len 0 count)) (at (range_with_len 0 count) k) e) in
          let low = r.1 in
          let is = (at_range 0 count r.0 (at (range_with_len 0 count) k) r.2).1 in
          let own = own_at count k less in
          absurd (omega (arith, low, is, own))
      | inr e ↦ ap not e
    ]

-- ---- groups of a table that has a module's groups

few_if : (b : Bool) (n k : ℕ) (ns : List ℕ) → length ns ≤ k → length (if b then n ∷ ns else ns) ≤ suc k
few_if true n k ns le = omega (arith, le)
few_if false n k ns le = omega (arith, le)

module _ (w : ℕ → Bool) where
  few : (k : ℕ) (ns : List ℕ) → length (filter w (take k ns)) ≤ k
  few zero ns = omega arith
  few (suc k) [] = omega arith
  few (suc k) (n ∷ ns) = few_if (w n) n k (filter w (take k ns)) (few k ns)

  -- at most one type where there is no mark
  abbrev IsFew : Bool × List ℕ → Type 0
  IsFew e = e.0 ≡ false → length e.1 ≤ 1

  all_few : (gs : List TypeGroup) (ns : List ℕ) → AllByRecursion IsSingleUnmarked gs → AllByRecursion IsFew (map (λ (g : TypeGroup × List ℕ). (g.0.marked, filter w g.1)) (numbered gs ns))
  all_few [] ns h = tt
  all_few (g ∷ gs) ns h =
      ((λ un. let one = h.0 un in let le = few (length g.kinds) ns in omega (arith, one, le)), all_few gs (drop (length g.kinds) ns) h.1)

  some_few : (es : List (Bool × List ℕ)) → AllByRecursion IsFew es → AllByRecursion (λ (e : Bool × List ℕ). (0 < length e.1) × IsFew e) (with_types es)
  some_few [] h = tt
  some_few ((b, []) ∷ es) h = some_few es h.1
  some_few ((b, n ∷ ns) ∷ es) h = ((omega arith, h.0), some_few es h.1)

module _ (stand : EmittedTypesStand) (features : WasmFeatures) (m : Module) (keep : Bool) (pushed : List Item) (t : Table) (p : Plan) (x : WritesKept (seen_as features m) keep pushed t p)
    (single : AllByRecursion IsSingleUnmarked m.groups) where
  abbrev w : ℕ → Bool
  w = is_written t

  groups_few : AllByRecursion (λ (e : Bool × List ℕ). (0 < length e.1) × IsFew w e) (map (λ (g : Group). (g.explicit, g.types)) (written_groups t))
  groups_few =
      subst (AllByRecursion (λ (e : Bool × List ℕ). (0 < length e.1) × IsFew w e)) (sym x.grouped)
      (some_few w (map (λ (g : TypeGroup × List ℕ). (g.0.marked, filter w g.1)) (numbered m.groups (range_with_len 0 (length (types_of m)))))
      (all_few w m.groups (range_with_len 0 (length (types_of m))) single))

  group_stays : (i : ℕ) (g : Group) → slice_get x.emitted.groups i ≡ Some g → Stays (described_group t (index_at x.indices) g)
  group_stays i g here =
      let back = (reordered t x.emitted.groups x.emitted.arranged.in_order).back i g here in
      let few = all_at (λ (e : Bool × List ℕ). (0 < length e.1) × IsFew w e) (map (λ (g : Group). (g.explicit, g.types)) (written_groups t)) back.0 (g.explicit, g.types) groups_few
      (at_map (λ (g : Group). (g.explicit, g.types)) (written_groups t) back.0 g back.2) in
      let idx = in_order features m keep pushed t p x in
      let long : length (described_group t (index_at x.indices) g).kinds ≡ length g.types =
      length-map (filter_map (written_kind t) g.types) (renamed_kind (index_at x.indices)) ∙ group_kinds t g (λ k id there. idx.all i k g id here there) in
      let some = few.0 in
      stays_so g.explicit (described_group t (index_at x.indices) g).kinds (omega (arith, long, some)) (λ un. let le = few.1 un in omega (arith, long, le))

  all_stay : AllByRecursion Stays p.groups
  all_stay =
      subst (AllByRecursion Stays) (sym x.emitted.described)
      (all_from Stays (map (described_group t (index_at x.indices)) x.emitted.groups)
      (λ i d at. let g = map_at (described_group t (index_at x.indices)) x.emitted.groups i d at in subst Stays g.2 (group_stays i g.0 g.1)))

  own : Own (range_with_len 0 (length (kinds_of p.groups))) (0 + length (kinds_of p.groups))
  own = λ k less. (own_at (length (kinds_of p.groups)) k (omega (arith, less)), new_at (length (kinds_of p.groups)) k (omega (arith, less)))

  pub groups_stay : kept_of p.groups ≡ p.groups
  groups_stay =
      ap (λ (l : List ℕ). kept l 0 p.groups) x.once
      ∙ kept_stays (range_with_len 0 (length (kinds_of p.groups))) 0 p.groups all_stay (stand t p.groups x.indices x.emitted).below own

  pub ids_stay : (k : ℕ) → k < length (kinds_of p.groups) → at (ids_of p.groups) k ≡ k
  ids_stay k less = ap (λ (l : List ℕ). at l k) x.once ∙ own_at (length (kinds_of p.groups)) k less

-- ---- a file's merged types

not_false : (b : Bool) → not b ≡ false → b ≡ true
not_false true e = refl
not_false false e = absurd cc

single_of : (marked : Bool) (kinds : List Kind) → not (not marked && length kinds == 1) ≡ false → length kinds ≡ 1
single_of true kinds e = absurd cc
single_of false kinds e = eqb-true (length kinds) 1 (not_false (length kinds == 1) e)

kept_if : (ids : List ℕ) (g : TypeGroup) (gs : List TypeGroup) (b : Bool) → AllByRecursion IsSingleUnmarked gs → AllByRecursion IsSingleUnmarked (if b then renamed_group (at ids) g ∷ gs else gs)
kept_if ids g gs true h = ((λ e. length-map g.kinds (renamed_kind (at ids)) ∙ single_of g.marked g.kinds e), h)
kept_if ids g gs false h = h

kept_single : (ids : List ℕ) (n : ℕ) (gs : List TypeGroup) → AllByRecursion IsSingleUnmarked (kept ids n gs)
kept_single ids n [] = tt
kept_single ids n (g ∷ gs) = kept_if ids g (kept ids (n + length g.kinds) gs) (is_filled g.kinds && is_new ids n) (kept_single ids (n + length g.kinds) gs)

singles_single : (kinds : List Kind) → AllByRecursion IsSingleUnmarked (map alone kinds)
singles_single [] = tt
singles_single (k ∷ ks) = ((λ e. refl), singles_single ks)

joined_single : (gs hs : List TypeGroup) → AllByRecursion IsSingleUnmarked gs → AllByRecursion IsSingleUnmarked hs → AllByRecursion IsSingleUnmarked (gs ++ hs)
joined_single [] hs h k = k
joined_single (g ∷ gs) hs h k = (h.0, joined_single gs hs h.1 k)

pub types_stay : EmittedTypesStand → WrittenTypesStay
types_stay stand place names producers keep features input bytes places w =
    let m = merged_module place features true (handler_groups w.file) w.file in
    let single = joined_single (kept_of w.file.groups) (handler_groups w.file) (kept_single (ids_of w.file.groups) 0 w.file.groups) (singles_single (once (lacking w.file))) in
    let same : w.p.groups ≡ w.n.groups = sym (ap (λ (k : Module). k.groups) w.stands.whole) in
    subst (λ (gs : List TypeGroup). (kept_of gs ≡ gs) × ((k : ℕ) → k < length (kinds_of gs) → at (ids_of gs) k ≡ k)) same
    (groups_stay stand features m keep [] w.t w.p w.stands.writes single, ids_stay stand features m keep [] w.t w.p w.stands.writes single)
