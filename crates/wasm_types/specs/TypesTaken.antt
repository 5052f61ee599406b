-- Lemmas: a type is read from the bytes that spell it, and from no others.
use Rattle.std.specs.Prelude.{ℕ, ◌≤◌, ◌^◌, ◌≡◌, ◌==◌, nat_lt, Bool, true, false, List, [], ◌∷◌, ◌++◌, length, Option, Some, None, Ok, Err, if◌then◌else◌, refl}
use Rattle.std.proofs.Common.{ap, sym, ◌∙◌, subst, arith, inl, inr}
use Rattle.std.proofs.lemmas.Bool.{cases_lt, cases_Bool, eqb-true, eqb-false, ltb-true, lt-ltb}
use Rattle.std.proofs.lemmas.List.{append_assoc, append-nil}
use Rattle.wasm_features.specs.declared.WasmFeatures.{WasmFeatures}
use Rattle.wasm_features.specs.Features.{GcTypes, enables}
use Rattle.wasm_reader.specs.declared.error.ErrorKind.TheVariants as kinds
use Rattle.wasm_reader.specs.Numbers.{unsigned, Spells, unsigned_at}
use Rattle.wasm_reader.specs.Reading.{fault}
use Rattle.wasm_reader.specs.Text.{size_at}
use Rattle.wasm_reader.specs.Items.{SpellsVec, vec_at}
use Rattle.wasm_reader.specs.Laws.{TakesSpelled}
use Rattle.wasm_reader.specs.Spellings.{ok_is, then_was, if_was, number_taken, size_again, size_was}
use Rattle.wasm_reader.specs.Vecs.{later_bytes, vec_taken}
use Rattle.wasm_composite_types.specs.wasm_ref_types.declared.index.UnpackedIndex.{UnpackedIndex}
use Rattle.wasm_composite_types.specs.wasm_ref_types.declared.index.UnpackedIndex.TheVariants.{Module, RecGroup, Id}
use Rattle.wasm_composite_types.specs.declared.form.CompositeType.{CompositeType}
use Rattle.wasm_types.specs.declared.subtype.SubType.{SubType}
use Rattle.wasm_composite_types.specs.Readings.{composite_after, composite_at}
use Rattle.wasm_composite_types.specs.TypesTaken.{behind_is, behind, composite_range, CompositeBehind, composite_after_taken, composite_none, composite_taken}
use Rattle.wasm_types.specs.Readings.{Listed, index_at, supertype_at, declared_at, sub_after, sub_at, group_after, group_at}
use Rattle.wasm_composite_types.specs.Spellings.{SpellsBoth, SpellsComposite}
use Rattle.wasm_types.specs.Spellings.{SpellsIndex, SpellsSupertype, declared_byte, SpellsSub, SpellsGroup}
use Rattle.wasm_composite_types.specs.Taken.{Small, Fronts, test_taken, gated_taken, mapped, made_taken, both_taken, same_taken, begun_taken}

-- ---- subtypes

index_again : (bytes more : List ℕ) (index : UnpackedIndex) → SpellsIndex bytes index → index_at (bytes ++ more) ≡ Ok (index, more)
unfolding index_at
index_again bytes more (Module n) h = rw ((number_taken unsigned kinds.TooLarge 32).again bytes more n h.1, lt-ltb n (2 ^ 20) h.0) refl
index_again bytes more (RecGroup n) h = absurd h
index_again bytes more (Id n) h = absurd h

index_found : (bytes later : List ℕ) (index : UnpackedIndex) → Small bytes → index_at bytes ≡ Ok (index, later) → Fronts SpellsIndex bytes later index
unfolding index_at
index_found bytes later index small e =
    let was = then_was (unsigned_at 32 bytes) (λ n. if nat_lt n.0 (2 ^ 20) then Ok (Module n.0, n.1) else Err (fault kinds.Limit (length bytes))) (index, later) e in
    let tested = if_was (nat_lt was.0.0 (2 ^ 20)) (Module was.0.0, was.0.1) (index, later) (fault kinds.Limit (length bytes)) was.2 in
    let found = (number_taken unsigned kinds.TooLarge 32).found bytes was.0.1 was.0.0 small was.1 in
    (found.0, subst (SpellsIndex found.0) (ap (λ p. p.0) tested.1) (ltb-true was.0.0 (2 ^ 20) tested.0, found.1), found.2 ∙ ap (λ p. found.0 ++ p.1) tested.1)

index_taken : TakesSpelled index_at SpellsIndex
index_taken = record { again = index_again; found = index_found }

supertype_again : (bytes more : List ℕ) (supertype : Option UnpackedIndex) → SpellsSupertype bytes supertype → supertype_at (bytes ++ more) ≡ Ok (supertype, more)
unfolding supertype_at
supertype_again bytes more None h =
    rw (h.joined, append_assoc h.count h.listed more, size_again 1 h.count (h.listed ++ more) 0 h.counts h.most, h.lists) refl
supertype_again bytes more (Some index) h =
    let one = h.lists in
    rw (h.joined, append_assoc h.count h.listed more, size_again 1 h.count (h.listed ++ more) 1 h.counts h.most, one.2, one.4, append-nil one.0, index_taken.again one.0 more index one.3) refl

-- the spelling of a vec without supertypes, or with one
supertype_none : (count : List ℕ) (n : ℕ) → n ≡ 0 → Spells unsigned 32 count n → SpellsSupertype count None
supertype_none count n is spells = record {
  count = count;
  listed = [];
  joined = sym (append-nil count);
  counts = subst (λ (k : ℕ). Spells unsigned 32 count k) is spells;
  most = omega arith;
  lists = refl;
}

supertype_one : (count listed : List ℕ) (n : ℕ) (index : UnpackedIndex) → n ≡ 1 → Spells unsigned 32 count n → SpellsIndex listed index → SpellsSupertype (count ++ listed) (Some index)
supertype_one count listed n index is spells h = record {
  count = count;
  listed = listed;
  joined = refl;
  counts = subst (λ (k : ℕ). Spells unsigned 32 count k) is spells;
  most = omega arith;
  lists = (listed, [], sym (append-nil listed), h, refl);
}

supertype_found : (bytes later : List ℕ) (supertype : Option UnpackedIndex) → Small bytes → supertype_at bytes ≡ Ok (supertype, later) → Fronts SpellsSupertype bytes later supertype
unfolding supertype_at
supertype_found bytes later supertype small e =
    let was = then_was (size_at 1 bytes) (λ count. if count.0 == 0 then Ok (None, count.1) else mapped Some (index_at count.1)) (supertype, later) e in
    let size = size_was 1 bytes was.0.1 was.0.0 small was.1 in
    elim (cases_Bool (was.0.0 == 0)) [
      | inl is ↦
          let same = ok_is (None, was.0.1) (supertype, later) (rw is at was.2) in
          (size.0, subst (SpellsSupertype size.0) (ap (λ p. p.0) same) (supertype_none size.0 was.0.0 (eqb-true was.0.0 0 is) size.1), size.2 ∙ ap (λ p. size.0 ++ p.1) same)
      | inr not ↦
          let inner = then_was (index_at was.0.1) (λ x. Ok (Some x.0, x.1)) (supertype, later) (rw not at was.2) in
          let same = ok_is (Some inner.0.0, inner.0.1) (supertype, later) inner.2 in
          let found = index_taken.found was.0.1 inner.0.1 inner.0.0 (later_bytes size.0 was.0.1 (subst Small size.2 small)) inner.1 in
          let apart = eqb-false was.0.0 0 not in
          let one : was.0.0 ≡ 1 = elim (cases_lt was.0.0 1) [ inl none ↦ absurd (apart (omega arith)) | inr some ↦ omega (arith, size.3) ] in (
            size.0 ++ found.0,
            subst (SpellsSupertype (size.0 ++ found.0)) (ap (λ p. p.0) same) (supertype_one size.0 found.0 was.0.0 inner.0.0 one size.1 found.1),
            size.2 ∙ ap (λ (l : List ℕ). size.0 ++ l) found.2 ∙ sym (append_assoc size.0 found.0 inner.0.1) ∙ ap (λ p. (size.0 ++ found.0) ++ p.1) same,
          )
    ]

supertype_taken : TakesSpelled supertype_at SpellsSupertype
supertype_taken = record { again = supertype_again; found = supertype_found }

module _ (features : WasmFeatures) where
  -- what stands behind the byte of a subtype that is written with its supertypes
  abbrev SpellsDeclared : Bool → List ℕ → SubType → Type 0
  SpellsDeclared is_final bytes ty = (ty.is_final ≡ is_final) × SpellsBoth SpellsSupertype (SpellsComposite features) bytes ty.supertype_idx ty.composite_type

  abbrev sub : Bool → Option UnpackedIndex → CompositeType → SubType
  sub is_final supertype composite = record { is_final = is_final; supertype_idx = supertype; composite_type = composite }

  declared_taken : (is_final : Bool) → TakesSpelled (declared_at features is_final) (SpellsDeclared is_final)
  unfolding declared_at
  declared_taken is_final = both_taken supertype_at SpellsSupertype supertype_taken (composite_at features) (SpellsComposite features) (composite_taken features)
      (sub is_final) (SpellsDeclared is_final)
      (λ bytes ty h. (ty.supertype_idx, ty.composite_type, ap (λ (final : Bool). sub final ty.supertype_idx ty.composite_type) (sym h.0), h.1))
      (λ bytes supertype composite h. (refl, h))

  declared_range : (is_final : Bool) → (0x4f ≤ declared_byte is_final) × (declared_byte is_final ≤ 0x50)
  declared_range false = (omega arith, omega arith)
  declared_range true = (omega arith, omega arith)

  declared_is : (is_final wanted : Bool) (b : ℕ) → b ≡ declared_byte is_final → b ≡ declared_byte wanted → is_final ≡ wanted
  declared_is false false b e f = refl
  declared_is false true b e f = absurd (omega arith)
  declared_is true false b e f = absurd (omega arith)
  declared_is true true b e f = refl

  abbrev SubBehind : ℕ → List ℕ → SubType → Type 0
  SubBehind b bytes ty = SpellsSub features (b ∷ bytes) ty

  into_declared : (b : ℕ) (is_final : Bool) (bytes : List ℕ) (ty : SubType) → b ≡ declared_byte is_final → SpellsSub features (b ∷ bytes) ty → (enables features GcTypes ≡ true) × SpellsDeclared is_final bytes ty
  into_declared b is_final bytes ty is (inl h) =
      let was = behind_is _ (declared_byte ty.is_final) b bytes h.1 in
      (h.0, (declared_is ty.is_final is_final b was.0 is, was.1))
  into_declared b is_final bytes ty is (inr h) =
      let range = composite_range features b bytes ty.composite_type.shared ty.composite_type.inner h.2 in
      let here = declared_range is_final in
      absurd (omega (arith, range.0, here.1))

  onto_declared : (b : ℕ) (is_final : Bool) (bytes : List ℕ) (ty : SubType) → b ≡ declared_byte is_final → enables features GcTypes ≡ true → SpellsDeclared is_final bytes ty → SpellsSub features (b ∷ bytes) ty
  onto_declared b is_final bytes ty is on h = inl (on, behind _ (declared_byte ty.is_final) b bytes (is ∙ ap declared_byte (sym h.0)) h.1)

  into_bare : (b : ℕ) (bytes : List ℕ) (ty : SubType) → (b ≡ 0x50 → ⊥) → (b ≡ 0x4f → ⊥) → SpellsSub features (b ∷ bytes) ty → (ty.is_final ≡ true) × (ty.supertype_idx ≡ None) × SpellsComposite features (b ∷ bytes) ty.composite_type
  into_bare b bytes ty not not2 (inl h) = absurd (at ty.is_final (behind_is _ (declared_byte ty.is_final) b bytes h.1).0)
    where
      at : (is_final : Bool) → b ≡ declared_byte is_final → ⊥
      at false e = not e
      at true e = not2 e
  into_bare b bytes ty not not2 (inr h) = h

  bare_is : (ty : SubType) → ty.is_final ≡ true → ty.supertype_idx ≡ None → sub true None ty.composite_type ≡ ty
  bare_is ty final none = ap (λ (f : Bool). sub f None ty.composite_type) (sym final) ∙ ap (λ (s : Option UnpackedIndex). sub ty.is_final s ty.composite_type) (sym none)

  sub_after_taken : (b start : ℕ) → TakesSpelled (sub_after features b start) (SubBehind b)
  unfolding sub_after
  sub_after_taken b start =
      test_taken (b == 0x50) _ _ (SubBehind b)
      (λ is. let byte = eqb-true b 0x50 is in gated_taken features GcTypes start _ (SubBehind b)
      (λ on. same_taken (declared_at features false) (SpellsDeclared false) (SubBehind b) (declared_taken false)
      (λ bytes ty h. (into_declared b false bytes ty byte h).1) (λ bytes ty h. onto_declared b false bytes ty byte on h))
      (λ bytes ty h. (into_declared b false bytes ty byte h).0))
      (λ not. let apart = eqb-false b 0x50 not in test_taken (b == 0x4f) _ _ (SubBehind b)
      (λ is. let byte = eqb-true b 0x4f is in gated_taken features GcTypes start _ (SubBehind b)
      (λ on. same_taken (declared_at features true) (SpellsDeclared true) (SubBehind b) (declared_taken true)
      (λ bytes ty h. (into_declared b true bytes ty byte h).1) (λ bytes ty h. onto_declared b true bytes ty byte on h))
      (λ bytes ty h. (into_declared b true bytes ty byte h).0))
      (λ not2. let apart2 = eqb-false b 0x4f not2 in
      made_taken (composite_after features b start) (CompositeBehind features b) (composite_after_taken features b start) (sub true None) (SubBehind b)
      (λ bytes ty h. let was = into_bare b bytes ty apart apart2 h in (ty.composite_type, bare_is ty was.0 was.1, was.2))
      (λ bytes composite h. inr (refl, refl, h))))

  sub_none : (ty : SubType) → SpellsSub features [] ty → ⊥
  sub_none ty (inl h) = let e = h.1.1 in cc
  sub_none ty (inr h) = composite_none features ty.composite_type.shared ty.composite_type.inner h.2

  pub sub_taken : TakesSpelled (sub_at features) (SpellsSub features)
  unfolding sub_at
  sub_taken = begun_taken (sub_after features) (SpellsSub features) sub_none sub_after_taken

  sub_range : (b : ℕ) (bytes : List ℕ) (ty : SubType) → SpellsSub features (b ∷ bytes) ty → 0x4f ≤ b
  sub_range b bytes ty (inl h) =
      let is = (behind_is _ (declared_byte ty.is_final) b bytes h.1).0 in
      let range = declared_range ty.is_final in
      omega (arith, is, range.0)
  sub_range b bytes ty (inr h) = let range = composite_range features b bytes ty.composite_type.shared ty.composite_type.inner h.2 in omega (arith, range.0)

  -- ---- groups

  abbrev listing : Bool → List SubType → Listed
  listing explicit types = record { explicit = explicit; types = types }

  abbrev GroupBehind : ℕ → List ℕ → Listed → Type 0
  GroupBehind b bytes group = SpellsGroup features (b ∷ bytes) group

  abbrev SpellsSubs : List ℕ → List SubType → Type 0
  SpellsSubs = SpellsVec 1000000 (SpellsSub features)

  into_explicit : (b : ℕ) (bytes : List ℕ) (group : Listed) → b ≡ 0x4e → SpellsGroup features (b ∷ bytes) group → (group.explicit ≡ true) × (enables features GcTypes ≡ true) × SpellsSubs bytes group.types
  into_explicit b bytes group is (inl h) = (h.0, h.1, (behind_is _ 0x4e b bytes h.2).1)
  into_explicit b bytes group is (inr h) = let range = sub_range b bytes h.1.0 h.1.2 in absurd (omega (arith, range))

  into_single : (b : ℕ) (bytes : List ℕ) (group : Listed) → (b ≡ 0x4e → ⊥) → SpellsGroup features (b ∷ bytes) group → (ty : SubType) × (listing false (ty ∷ []) ≡ group) × SpellsSub features (b ∷ bytes) ty
  into_single b bytes group not (inl h) = absurd (not (behind_is _ 0x4e b bytes h.2).0)
  into_single b bytes group not (inr h) =
      (h.1.0, ap (λ (e : Bool). listing e (h.1.0 ∷ [])) (sym h.0) ∙ ap (λ (types : List SubType). listing group.explicit types) (sym h.1.1), h.1.2)

  group_after_taken : (b start : ℕ) → TakesSpelled (group_after features b start) (GroupBehind b)
  unfolding group_after
  group_after_taken b start =
      test_taken (b == 0x4e) _ _ (GroupBehind b)
      (λ is. let byte = eqb-true b 0x4e is in gated_taken features GcTypes start _ (GroupBehind b)
      (λ on. made_taken (vec_at 1000000 (sub_at features)) SpellsSubs (vec_taken (sub_at features) (SpellsSub features) sub_taken 1000000) (listing true) (GroupBehind b)
      (λ bytes group h. let was = into_explicit b bytes group byte h in (group.types, ap (λ (e : Bool). listing e group.types) (sym was.0), was.2))
      (λ bytes types h. inl (refl, on, behind _ 0x4e b bytes byte h)))
      (λ bytes group h. (into_explicit b bytes group byte h).1))
      (λ not. let apart = eqb-false b 0x4e not in
      made_taken (sub_after features b start) (SubBehind b) (sub_after_taken b start) (λ ty. listing false (ty ∷ [])) (GroupBehind b)
      (λ bytes group h. into_single b bytes group apart h)
      (λ bytes ty h. inr (refl, (ty, refl, h))))

  group_none : (group : Listed) → SpellsGroup features [] group → ⊥
  group_none group (inl h) = let e = h.2.1 in cc
  group_none group (inr h) = sub_none h.1.0 h.1.2

  pub group_taken : TakesSpelled (group_at features) (SpellsGroup features)
  unfolding group_at
  group_taken = begun_taken (group_after features) (SpellsGroup features) group_none group_after_taken
