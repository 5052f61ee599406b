-- Lemmas: the types of a module that was read, by ids and by places.
use Rattle.std.specs.Prelude.{ℕ, zero, suc, ◌≡◌, ◌<◌, ◌≤◌, Bool, true, false, List, [], ◌∷◌, ◌++◌, length, map, Option, Some, None, slice_get, slice_index, refl, if◌then◌else◌}
use Rattle.std.specs.Option.{option_and_then}
use Rattle.std.proofs.Common.{ap, sym, ◌∙◌, subst, arith, inl, inr}
use Rattle.std.proofs.lemmas.Bool.{cases_lt}
use Rattle.std.proofs.lemmas.Option.{none-some, same_Some, slice_get_within}
use Rattle.walrus_forms.specs.declared.value.ValType.{ValType}
use Rattle.walrus_forms.specs.Kinds.{Kind, function_kind, kind_names}
use Rattle.walrus_forms.specs.Records.{TypeGroup}
use Rattle.walrus_forms.specs.Renaming.{at}
use Rattle.walrus_forms.specs.Same.{SameKindIsEquality}
use Rattle.walrus_forms.proofs.RenamingLemmas.{In as Among}
use Rattle.walrus_types.specs.Items.{Item as TypeItem}
use Rattle.walrus_types.specs.Emission.{shown_kind, written_kind}
use Rattle.walrus_types.specs.Mergers.{ParsingCarriesSame}
use Rattle.walrus_types.specs.Table.{Table as TypeTable, found_type, type_at}
use Rattle.walrus_types.proofs.LawLemmas.{latest-law}
use Rattle.wasm_features.specs.declared.WasmFeatures.{WasmFeatures}
use Rattle.wasm_formats.specs.declared.fault.Space.{Space}
use Rattle.wasm_formats.specs.declared.fault.Space.TheVariants as spaces
use Rattle.wasm_grammar.specs.Modules as grammar
use Rattle.wasm_modules.specs.Modules.{Reads}
use Rattle.wasm_body_grammar.specs.Rules.{found_in}
use Rattle.wasm_ruled_modules.specs.Rules.{GroupsBelow}
use Rattle.wasm_merged_modules.specs.Merged.{AreNew, MissingKindsAreNew, NewKindsStandBehind, ids_of, kept_of, kinds_of, once, single}
use Rattle.wasm_merged_modules.proofs.Merged.{kept_many, kinds_joined, orderly}
use Rattle.wasm_part.specs.Handlers.{HandlersAreMissing, handler_groups, lacking}
use Rattle.walrus_meaning.specs.Meaning.{own_groups, type_ids}
use Rattle.walrus_pass_laws.proofs.Sets.{In, contains_of}
use Rattle.walrus_kept_types_laws.specs.Read.{AreReadOf}
use Rattle.walrus_kept_laws.specs.Alike.{NumberStands, StandsFor}
use Rattle.walrus_kept_laws.proofs.Found.{found_there, new_apart}
use Rattle.walrus_kept_laws.proofs.Reach.{AreOnce}
use Rattle.walrus_kept_laws.proofs.Refs.{at_left, at_right}
use Rattle.walrus_kept_laws.proofs.Types.{HasKind, ids_once, type_placed, types_beside, zip_many}

among_in : (xs : List ℕ) (j : ℕ) → Among j xs → In xs j
among_in [] j h = h
among_in (x ∷ xs) j (inl e) = inl e
among_in (x ∷ xs) j (inr h) = inr (among_in xs j h)

past_end : (xs : List ℕ) (n : ℕ) → length xs ≤ n → slice_index xs n ≡ 0
past_end [] n le = refl
past_end (x ∷ xs) zero le = absurd (omega (arith, le))
past_end (x ∷ xs) (suc n) le = past_end xs n (omega (arith, le))

singles : (ks : List Kind) → kinds_of (map single ks) ≡ ks
singles [] = refl
singles (k ∷ ks) = ap (λ (l : List Kind). k ∷ l) (singles ks)

module _ (t : TypeTable) (file : grammar.Module) (are : AreReadOf file t) where
  abbrev pub ids : List ℕ
  ids = type_ids t

  abbrev pub kinds : List Kind
  kinds = kinds_of (own_groups t)

  abbrev pub count : ℕ
  count = are.are.count

  pub once_ids : AreOnce ids
  once_ids = ids_once t are.are.grouped

  pub kinds_many : length kinds ≡ length ids
  kinds_many = sym (zip_many (HasKind t) ids kinds (types_beside t))

  kind_at : (n : ℕ) (kind : Kind) → slice_get kinds n ≡ Some kind → (id : ℕ) × (slice_get ids n ≡ Some id) × HasKind t id kind
  kind_at n kind e = at_left (HasKind t) ids kinds (types_beside t) n kind e

  pub id_at : (n id : ℕ) → slice_get ids n ≡ Some id → (kind : Kind) × (slice_get kinds n ≡ Some kind) × HasKind t id kind
  id_at n id e = at_right (HasKind t) ids kinds (types_beside t) n id e

  written : (id : ℕ) (kind : Kind) → HasKind t id kind → written_kind t id ≡ Some kind
  written id kind h = by (type_at t id) h.known
    where
      shown : (x : Kind) (b : Bool) → b ≡ false → (if b then None else Some x) ≡ Some x
      shown x true e = absurd cc
      shown x false e = refl

      by : (o : Option TypeItem) → o ≡ Some h.ty → option_and_then (λ (item : TypeItem). shown_kind item.kind) o ≡ Some kind
      by None e = absurd (none-some h.ty e)
      by (Some x) e =
          let same : x ≡ h.ty = same_Some x h.ty e in
          ap (λ (y : TypeItem). shown_kind y.kind) same ∙ shown h.ty.kind h.ty.kind.entry h.plain ∙ ap (λ (y : Kind). Some y) h.is

  -- kinds name types of the file
  pub kind_low : (id : ℕ) (kind : Kind) → HasKind t id kind → (j : ℕ) → Among j (kind_names kind) → j < count
  kind_low id kind h j i = are.are.names id kind (written id kind h) j (contains_of (kind_names kind) j (among_in (kind_names kind) j i))

  pub kinds_low : (n : ℕ) (kind : Kind) → slice_get kinds n ≡ Some kind → (j : ℕ) → Among j (kind_names kind) → j < count
  kinds_low n kind e = let h = kind_at n kind e in kind_low h.0 kind h.2

  count_within : (n : ℕ) → n < count → n < length kinds
  count_within n lt = let h = id_at n n (are.are.first n lt) in slice_get_within kinds n h.0 h.1

  pub known : (id : ℕ) → id < count → (x : TypeItem) → type_at t id ≡ Some x → slice_get kinds id ≡ Some x.kind
  known id lt x there =
      let h = id_at id id (are.are.first id lt) in
      let same : h.2.ty ≡ x = same_Some h.2.ty x (sym h.2.known ∙ there) in
      h.1 ∙ ap (λ (y : Kind). Some y) (sym h.2.is ∙ ap (λ (y : TypeItem). y.kind) same)

  -- a type of the file stands for itself
  pub fixed : (z : grammar.Item) → z.space ≡ spaces.«Type» → z.number < count → StandsFor ids z z
  fixed z space lt = record { space = refl; number = subst (λ (s : Space). NumberStands ids s z.number z.number) (sym space) (are.are.first z.number lt) }

  -- ---- what stands for what

  module _ (carries : ParsingCarriesSame) (below : GroupsBelow 0 file.groups) where
    abbrev pub sent : ℕ → ℕ
    sent = at (ids_of file.groups)

    pub sent_low : 0 < count → (n : ℕ) → sent n < count
    sent_low some n = elim (cases_lt n (length (ids_of file.groups))) as (λ _. sent n < count) [
      | inl lt ↦ (let h = (orderly carries file.groups below).below n lt in let many = kept_many carries file.groups below in let m = are.many in omega (arith, h, many, m))
      | inr ge ↦ (let e = past_end (ids_of file.groups) n ge in omega (arith, e, some))
    ]

    module _ (features : WasmFeatures) (missing_new : MissingKindsAreNew) (behind : NewKindsStandBehind) (missing : HandlersAreMissing) (same_is : SameKindIsEquality) (bytes : List ℕ) (reads : Reads features bytes file) where
      abbrev there : List Kind
      there = kinds_of (kept_of file.groups)

      new : AreNew there (once (lacking file))
      new = missing_new file.groups (lacking file) below (missing features bytes file reads)

      kinds_are : kinds ≡ there ++ once (lacking file)
      kinds_are = ap kinds_of are.groups ∙ kinds_joined (kept_of file.groups) (handler_groups file) ∙ ap (λ (l : List Kind). there ++ l) (singles (once (lacking file)))

      own : (n : ℕ) → n < length kinds → at (ids_of (own_groups t)) n ≡ n
      own n lt =
          let h = behind features true file (once (lacking file)) below new in
          let lt_there : n < length (kinds_of (kept_of file.groups ++ handler_groups file)) = subst (λ (gs : List TypeGroup). n < length (kinds_of gs)) are.groups lt in
          ap (λ (gs : List TypeGroup). at (ids_of gs) n) are.groups ∙ h.own n lt_there

      apart : (i j : ℕ) (kind : Kind) → i < j → count ≤ j → slice_get kinds i ≡ Some kind → slice_get kinds j ≡ Some kind → ⊥
      apart i j kind lt le at_i at_j =
          let m = are.many in
          new_apart there (once (lacking file)) new i j kind lt (omega (arith, le, m)) (ap (λ (l : List Kind). slice_get l i) (sym kinds_are) ∙ at_i) (ap (λ (l : List Kind). slice_get l j) (sym kinds_are) ∙ at_j)

      pub found : (ps rs : List ValType) (id : ℕ) → ((j : ℕ) → Among j (kind_names (function_kind ps rs)) → j < count) → found_type ps rs t ≡ Some id
          → (n : ℕ) × (found_in (at (ids_of (own_groups t))) ps rs kinds ≡ Some n) × (slice_get ids n ≡ Some id)
      found ps rs id good e =
          found_there same_is (λ test u. latest-law u test) t kinds ids count (at (ids_of (own_groups t))) own
          (λ n kind k j i. count_within j (kinds_low n kind k j i))
          (λ n id k. (let h = id_at n id k in (h.2.ty, h.2.known, h.1 ∙ ap (λ (y : Kind). Some y) (sym h.2.is))))
          (λ id x k plain. type_placed t are.are.grouped id x k plain)
          (λ n kind k. (let h = kind_at n kind k in (h.0, h.1)))
          are.are.first apart ps rs (λ j i. count_within j (good j i)) id e
