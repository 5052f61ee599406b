-- Lemmas: the types of a module that was read: those of its file under the ids 0, 1 and on, and those of handlers, each of which names types of the file alone.
use Rattle.std.specs.Prelude.{ℕ, zero, suc, ◌≡◌, ◌≤◌, ◌<◌, ◌+◌, ◌&&◌, ◌⊎◌, Bool, true, false, not, List, [], ◌∷◌, ◌++◌, Contains, filter, length, map, Option, Some, None, is_some, slice_get, refl, if◌then◌else◌}
use Rattle.std.specs.List.{AllByRecursion, flat_map}
use Rattle.std.proofs.Common.{inl, inr, ap, sym, subst, ◌∙◌, arith, append-nil}
use Rattle.std.proofs.lemmas.Bool.{cases_Bool, cases_lt}
use Rattle.std.proofs.lemmas.List.{length-append}
use Rattle.std.proofs.lemmas.Option.{none-some, same_Some, slice_get_within}
use Rattle.walrus_forms.specs.Kinds.{Kind, kind_names}
use Rattle.walrus_forms.specs.Records.{TypeGroup}
use Rattle.walrus_forms.specs.Renaming.{at, renamed_kind}
use Rattle.walrus_forms.specs.Same.{same_kind}
use Rattle.walrus_forms.proofs.RenamingLemmas.{In, kinds-below}
use Rattle.walrus_types.specs.Emission.{is_written, written_groups, written_kind}
use Rattle.walrus_types.specs.Mergers.{ParsingCarriesSame}
use Rattle.walrus_types.specs.Table.{Table}
use Rattle.walrus_types.proofs.Places.{contains_has, has_contains, left_at}
use Rattle.walrus_type_laws.specs.Alike.{AreHomed, members}
use Rattle.walrus_type_laws.proofs.Steady.{edited_homed}
use Rattle.walrus_meaning.specs.Meaning.{has_kinds, own_groups, type_ids}
use Rattle.walrus_named_bodies.specs.Parsed.{read_features}
use Rattle.walrus_sections_into.specs.Numbers.{upto}
use Rattle.walrus_parse_laws.specs.FilledGroups as filled
use Rattle.walrus_parse_laws.specs.Meant.{place_of as place_meant}
use Rattle.walrus_parse_laws.specs.Means.{handler_kinds}
use Rattle.wasm_features.specs.declared.WasmFeatures.{WasmFeatures}
use Rattle.wasm_grammar.specs.Modules.{Body, Function, Module}
use Rattle.wasm_grammar.specs.States.{form_test}
use Rattle.wasm_merged_modules.specs.Merged as merged
use Rattle.wasm_merged_modules.specs.Merged.{IsMissing, NoneStandBehind, TypesAreMerged, ids_of, is_filled, kept_of, kinds_of, merged_types}
use Rattle.wasm_merged_modules.proofs.Merged.{kind_there, many}
use Rattle.wasm_module_rules.specs.Linked.{Each}
use Rattle.wasm_normal_modules.proofs.Slots.{get_some}
use Rattle.wasm_part.specs.Handlers.{HandlersAreMissing, bodies_handle, bodies_of, function_bodies, handler_groups, is_missing, kind_of, lacking, sent}
use Rattle.wasm_ruled_modules.specs.Rules.{AreBelow, GroupsBelow}
use Rattle.walrus_kept_types_laws.specs.Read.{ReadTypesAreRead, ReadTypesAreSettled}
use Rattle.walrus_kept_types_laws.proofs.Handlers.{handlers_lacking, kinds_lacking}
use Rattle.walrus_kept_types_laws.proofs.Lists.{failed, flat_append, has_in, passed}
use Rattle.walrus_kept_types_laws.proofs.Meant.{groups_kind, groups_many, own_are}

-- ---- lists

upto_length : (n : ℕ) → length (upto n) ≡ n
upto_length zero = refl
upto_length (suc n) = length-append (upto n) (n ∷ []) ∙ ap (λ (k : ℕ). k + 1) (upto_length n) ∙ (let z : n + 1 ≡ suc n = omega arith in z)

last_at : (xs : List ℕ) (x : ℕ) → slice_get (xs ++ x ∷ []) (length xs) ≡ Some x
last_at [] x = refl
last_at (y ∷ xs) x = last_at xs x

upto_at : (n k : ℕ) → k < n → slice_get (upto n) k ≡ Some k
upto_at zero k lt = absurd (omega (arith, lt))
upto_at (suc n) k lt = elim (cases_lt k n) as (λ _. slice_get (upto n ++ n ∷ []) k ≡ Some k) [
  | inl less ↦ left_at (upto n) (n ∷ []) k k (upto_at n k less)
  | inr more ↦ (
      let e : k ≡ n = omega (arith, lt, more) in
      ap (λ (i : ℕ). slice_get (upto n ++ n ∷ []) i) (e ∙ sym (upto_length n)) ∙ last_at (upto n) n ∙ ap Some (sym e)
      )
]

-- ---- the groups of the file

filled_same : (marked : Bool) (kinds : List Kind) → has_kinds (record { marked = marked; kinds = kinds }) ≡ is_filled kinds
filled_same marked [] = refl
filled_same marked (k ∷ kinds) = refl

kept_same : (ids : List ℕ) (n : ℕ) (groups : List TypeGroup) → filled.kept ids n groups ≡ merged.kept ids n groups
kept_same ids n [] = refl
kept_same ids n (g ∷ groups) =
    ap (λ (b : Bool). if b && filled.is_new ids n then filled.renamed_group (at ids) g ∷ filled.kept ids (n + length g.kinds) groups else filled.kept ids (n + length g.kinds) groups) (filled_same g.marked g.kinds)
    ∙ ap (λ (l : List TypeGroup). if is_filled g.kinds && filled.is_new ids n then filled.renamed_group (at ids) g ∷ l else l) (kept_same ids (n + length g.kinds) groups)

-- ---- what kinds name

abbrev NamesBelow : ℕ → Kind → Type 0
NamesBelow n kind = (m : ℕ) → In m (kind_names kind) → m < n

abbrev AllBelow : ℕ → List Kind → Type 0
AllBelow n kinds = AllByRecursion (NamesBelow n) kinds

both_below : (n : ℕ) (xs ys : List Kind) → AllBelow n xs → AllBelow n ys → AllBelow n (xs ++ ys)
both_below n [] ys h k = k
both_below n (x ∷ xs) ys h k = (h.0, both_below n xs ys h.1 k)

below_at : (n : ℕ) (kinds : List Kind) (k : ℕ) (kind : Kind) → AllBelow n kinds → slice_get kinds k ≡ Some kind → NamesBelow n kind
below_at n [] k kind all at = absurd (none-some kind at)
below_at n (x ∷ kinds) zero kind all at = subst (NamesBelow n) (same_Some x kind at) all.0
below_at n (x ∷ kinds) (suc k) kind all at = below_at n kinds k kind all.1 at

kinds_below_all : (m n : ℕ) → m ≤ n → (kinds : List Kind) → AreBelow m kinds → AllBelow n kinds
kinds_below_all m n le [] h = tt
kinds_below_all m n le (k ∷ kinds) h = (λ j i. (let lt = kinds-below k m h.0 j i in omega (arith, lt, le)), kinds_below_all m n le kinds h.1)

groups_below_all : (m n : ℕ) (groups : List TypeGroup) → m + length (kinds_of groups) ≤ n → GroupsBelow m groups → AllBelow n (kinds_of groups)
groups_below_all m n [] le h = tt
groups_below_all m n (g ∷ groups) le h =
    let many = length-append g.kinds (kinds_of groups) in
    both_below n g.kinds (kinds_of groups) (kinds_below_all (m + length g.kinds) n (omega (arith, le, many)) g.kinds h.0) (groups_below_all (m + length g.kinds) n groups (omega (arith, le, many)) h.1)

missing_below : (groups : List TypeGroup) (kinds : List Kind) → AllByRecursion (IsMissing groups) kinds → AllBelow (length (kinds_of (kept_of groups))) kinds
missing_below groups [] h = tt
missing_below groups (k ∷ kinds) h = (λ j i. kinds-below k (length (kinds_of (kept_of groups))) h.0.0 j i, missing_below groups kinds h.1)

filter_below : (n : ℕ) (test : Kind → Bool) (kinds : List Kind) → AllBelow n kinds → AllBelow n (filter test kinds)
filter_below n test [] h = tt
filter_below n test (k ∷ kinds) h = elim (cases_Bool (test k)) as (λ _. AllBelow n (filter test (k ∷ kinds))) [
  | inl so ↦ subst (AllBelow n) (sym (passed test k kinds so)) (h.0, filter_below n test kinds h.1)
  | inr not_so ↦ subst (AllBelow n) (sym (failed test k kinds not_so)) (filter_below n test kinds h.1)
]

once_below : (n : ℕ) (kinds : List Kind) → AllBelow n kinds → AllBelow n (merged.once kinds)
once_below n [] h = tt
once_below n (k ∷ kinds) h = (h.0, filter_below n (λ other. not (same_kind k other)) (merged.once kinds) (once_below n kinds h.1))

singles : (kinds : List Kind) → kinds_of (map merged.single kinds) ≡ kinds
singles [] = refl
singles (k ∷ kinds) = ap (λ (l : List Kind). k ∷ l) (singles kinds)

-- ---- a file without types has no functions, so that handlers lack none

past : (xs : List ℕ) (n : ℕ) → length xs ≤ n → at xs n ≡ 0
past [] n le = refl
past (x ∷ xs) zero le = absurd (omega (arith, le))
past (x ∷ xs) (suc n) le = past xs n (omega (arith, le))

no_body : (types : List Kind) → types ≡ [] → (fs : List (Option Function)) → Each (λ (f : Function). form_test (slice_get types f.ty) ≡ None) fs → flat_map function_bodies fs ≡ []
no_body types none [] all = refl
no_body types none (None ∷ fs) all = no_body types none fs all
no_body types none (Some f ∷ fs) all = absurd (let wrong : form_test None ≡ None = ap (λ (l : List Kind). form_test (slice_get l f.ty)) (sym none) ∙ all.0 in none-some _ (sym wrong))

none_lacking : (file : Module) → bodies_of file ≡ [] → handler_groups file ≡ []
none_lacking file none =
    ap (λ (xs : List Body). map merged.single (merged.once (map kind_of (filter (is_missing (merged_types file.groups).table) (map (sent (at (ids_of file.groups))) (bodies_handle file xs)))))) none

empty : {A : Type 0} (xs : List A) → length xs ≡ 0 → xs ≡ []
empty [] e = refl
empty (x ∷ xs) e = absurd (omega (arith, e))

module _ (carries : ParsingCarriesSame) (file : Module) (below : GroupsBelow 0 file.groups) where
  abbrev count : ℕ
  count = length (kinds_of (kept_of file.groups))

  sent_there : (n : ℕ) → n < length (kinds_of file.groups) → at (ids_of file.groups) n < count
  sent_there n lt =
      let k = get_some (kinds_of file.groups) n lt in
      slice_get_within (kinds_of (kept_of file.groups)) (at (ids_of file.groups) n) (renamed_kind (at (ids_of file.groups)) k.0) (kind_there carries file.groups below n k.0 k.1)

  sent_or_none : (n : ℕ) → (at (ids_of file.groups) n < count) ⊎ (count ≡ 0)
  sent_or_none n = elim (cases_lt n (length (kinds_of file.groups))) as (λ _. (at (ids_of file.groups) n < count) ⊎ (count ≡ 0)) [
    | inl less ↦ inl (sent_there n less)
    | inr more ↦ (
        let zero_is = past (ids_of file.groups) n (let all = many carries file.groups below in omega (arith, more, all)) in
        elim (cases_lt 0 count) as (λ _. (at (ids_of file.groups) n < count) ⊎ (count ≡ 0)) [ inl some ↦ inl (omega (arith, zero_is, some)) | inr none ↦ inr (omega (arith, none)) ]
        )
  ]

  none_of_file : count ≡ 0 → kinds_of file.groups ≡ []
  none_of_file none = empty (kinds_of file.groups) (
      elim (cases_lt 0 (length (kinds_of file.groups))) as (λ _. length (kinds_of file.groups) ≡ 0) [
        | inl some ↦ absurd (let lt = sent_there 0 some in omega (arith, lt, none))
        | inr no_types ↦ omega (arith, no_types)
      ]
      )

-- ---- a module that was read

module _ {B : Type 0} (carries : ParsingCarriesSame) (missing : HandlersAreMissing) (none : NoneStandBehind) (behind : TypesAreMerged) (settled : ReadTypesAreSettled B) where
  read_types : ReadTypesAreRead B
  read_types config bytes m found file is reads h grouped =
      let t : Table = m.types in
      let features : WasmFeatures = read_features config in
      let n : ℕ = length (kinds_of (kept_of file.groups)) in
      let s = settled config bytes m found is in
      let homed : AreHomed t = edited_homed t grouped s.merged in
      let kept : filled.kept found.types 0 file.groups ≡ kept_of file.groups = ap (λ (ids : List ℕ). filled.kept ids 0 file.groups) h.types ∙ kept_same (ids_of file.groups) 0 file.groups in
      let count_is : length (kinds_of (filled.kept found.types 0 file.groups)) ≡ n = ap (λ (l : List TypeGroup). length (kinds_of l)) kept in
      let order : type_ids t ≡ upto n ++ h.types_in_order.0 = h.types_in_order.1 ∙ ap (λ (c : ℕ). upto c ++ h.types_in_order.0) count_is in
      let own : own_groups t ≡ kept_of file.groups ++ map merged.single (handler_kinds file) =
      ap (λ (x : Module). x.groups) h.meant ∙ ap (λ (l : List TypeGroup). l ++ map merged.single (handler_kinds file)) kept in
      let below : GroupsBelow 0 (kept_of file.groups) =
      subst (GroupsBelow 0) (append-nil (kept_of file.groups)) (behind place_meant features true [] file h.ruled.groups (none features true file h.ruled.groups)).1 in
      let of_file : AllBelow n (kinds_of (kept_of file.groups)) = groups_below_all 0 n (kept_of file.groups) (omega arith) below in
      let of_handlers : AllBelow n (handler_kinds file) = subst (AllBelow n) (sym (kinds_lacking file)) (once_below n (lacking file) (missing_below file.groups (lacking file) (missing features bytes file reads))) in
      let all : AllBelow n (kinds_of (own_groups t)) =
      subst (AllBelow n) (sym (ap kinds_of own ∙ flat_append (λ (g : TypeGroup). g.kinds) (kept_of file.groups) (map merged.single (handler_kinds file))))
      (both_below n (kinds_of (kept_of file.groups)) (kinds_of (map merged.single (handler_kinds file))) of_file (subst (AllBelow n) (sym (singles (handler_kinds file))) of_handlers)) in
      let inside : (k id : ℕ) → slice_get (members t) k ≡ Some id → is_written t id ≡ true = λ k id at. (homed.homed id).0 (has_contains (members t) id (k, at)) in
      let names : (id : ℕ) (kind : Kind) → written_kind t id ≡ Some kind → (j : ℕ) → Contains (kind_names kind) j → j < n =
      λ id kind written j c.
      let place = contains_has (members t) id ((homed.homed id).1 (ap (λ (o : Option Kind). is_some o) written)) in
      let there : slice_get (kinds_of (own_groups t)) place.0 ≡ Some kind =
      ap (λ (gs : List TypeGroup). slice_get (kinds_of gs) place.0) (own_are t) ∙ groups_kind t (written_groups t) inside place.0 id kind place.1 written in
      let at_j = contains_has (kind_names kind) j c in
      below_at n (kinds_of (own_groups t)) place.0 kind all there j (has_in (kind_names kind) at_j.0 j at_j.1) in
      let groups : own_groups t ≡ kept_of file.groups ++ handler_groups file = own ∙ ap (λ (l : List TypeGroup). kept_of file.groups ++ l) (handlers_lacking file) in
      let none_at : n ≡ 0 → length (members t) ≡ 0 =
      λ zero_is.
      let no_kinds = none_of_file carries file h.ruled.groups zero_is in
      let no_handlers = none_lacking file (no_body (kinds_of file.groups) no_kinds file.functions h.ruled.linked.functions_typed) in
      let all_kept : kept_of file.groups ++ handler_groups file ≡ kept_of file.groups = ap (λ (l : List TypeGroup). kept_of file.groups ++ l) no_handlers ∙ append-nil (kept_of file.groups) in
      sym (groups_many t (written_groups t) inside) ∙ sym (ap (λ (gs : List TypeGroup). length (kinds_of gs)) (own_are t)) ∙ ap (λ (gs : List TypeGroup). length (kinds_of gs)) (groups ∙ all_kept) ∙ zero_is in
      record {
        are = record {
          grouped = grouped;
          settled = s;
          count = n;
          first = λ k lt. ap (λ (l : List ℕ). slice_get l k) order ∙ left_at (upto n) h.types_in_order.0 k k (upto_at n k lt);
          names = names;
        };
        many = refl;
        groups = groups;
        sent = λ k. elim (sent_or_none carries file h.ruled.groups k) as (λ _. (at (ids_of file.groups) k < n) ⊎ ((id : ℕ) → is_written t id ≡ false)) [
          | inl less ↦ inl less
          | inr zero_is ↦ inr (λ id. elim (cases_Bool (is_written t id)) as (λ _. is_written t id ≡ false) [
            | inl w ↦ (
                let place = contains_has (members t) id ((homed.homed id).1 w) in
                let lt = slice_get_within (members t) place.0 id place.1 in
                absurd (omega (arith, lt, none_at zero_is))
                )
            | inr not_so ↦ not_so
          ])
        ];
      }

pub read_are_read : {B : Type 0} → ParsingCarriesSame → HandlersAreMissing → NoneStandBehind → TypesAreMerged → ReadTypesAreSettled B → ReadTypesAreRead B
read_are_read carries missing none behind settled config bytes m found file is reads h grouped = read_types carries missing none behind settled config bytes m found file is reads h grouped
