-- Lemmas: the entries that are due to groups of types are formed.
use Rattle.wasm_features.specs.Features.{GcTypes, enables}
use Rattle.std.specs.Prelude.{ℕ, ◌≡◌, ◌≤◌, ◌+◌, Bool, true, false, List, [], ◌∷◌, ◌++◌, length, map, Option, nat_le, refl}
use Rattle.std.specs.List.{AllByRecursion, cons_option, flat_map}
use Rattle.std.proofs.Common.{ap, sym, ◌∙◌, subst, arith}
use Rattle.std.proofs.lemmas.Bool.{le-leb}
use Rattle.std.proofs.lemmas.List.{length-append, length-map}
use Rattle.std.proofs.lemmas.List.Concat.{flat_map-append}
use Rattle.walrus_forms.specs.Kinds.{Kind}
use Rattle.walrus_forms.specs.Records.{TypeGroup}
use Rattle.wasm_features.specs.declared.WasmFeatures.{WasmFeatures}
use Rattle.wasm_formats.specs.Bytes.{either_type}
use Rattle.wasm_formats.specs.Lists.{EntryRules}
use Rattle.wasm_grammar.specs.Modules.{empty}
use Rattle.wasm_grammar.specs.States.{State, nothing_yet}
use Rattle.wasm_sections.specs.TypeNames.{kind_of}
use Rattle.wasm_formats.specs.Led.{led}
use Rattle.wasm_sections.specs.TypeSection.{Measured, behind, explicit, group, is_told, measured, members, placed, rectype, single, sub_apart, sub_some, sub_wants}
use Rattle.wasm_module_bytes.specs.Due.{AreWritten, EntriesTell, IsWritten, group_from, shaped, sub_from}
use Rattle.wasm_module_rules.specs.Entries.{AllRuled}
use Rattle.wasm_module_spellings.specs.Spelled.{IsFormed}
use Rattle.wasm_module_spellings.proofs.Values.{must_pass}
use Rattle.wasm_ruled_modules.specs.Rules.{AreBelow, GroupsBelow}
use Rattle.wasm_canonical.proofs.Members.{AreTold, kinds_of, members_pass, told_length}

abbrev entry : Kind → Measured
entry kind = (0, sub_from kind)

abbrev entries : List Kind → List Measured
entries kinds = map entry kinds

module _ (tell : EntriesTell) where
  told : (kind : Kind) → kind.entry ≡ false → is_told (kind_of (sub_from kind)) ≡ true
  told kind e = ap is_told (tell.types kind e)

  placed_told : (p : ℕ) (kinds : List Kind) → AreWritten kinds → AreTold (placed p (entries kinds)) × (kinds_of (placed p (entries kinds)) ≡ kinds)
  placed_told p [] h = (tt, refl)
  placed_told p (k ∷ kinds) h =
      let later = placed_told 0 kinds h.1 in
      ((told k h.0, later.0), ap (λ (o : Option Kind). cons_option o (kinds_of (placed 0 (entries kinds)))) (tell.types k h.0) ∙ ap (λ (l : List Kind). k ∷ l) later.1)

  members_told : (marked : Bool) (kinds : List Kind) → AreWritten kinds → AreTold (members (shaped marked (entries kinds))) × (kinds_of (members (shaped marked (entries kinds))) ≡ kinds)
  members_told true kinds h = placed_told 0 kinds h
  members_told false [] h = (tt, refl)
  members_told false (k ∷ []) h = ((told k h.0, tt), ap (λ (o : Option Kind). cons_option o []) (tell.types k h.0))
  members_told false (k ∷ other ∷ kinds) h = placed_told 0 (k ∷ other ∷ kinds) h

  entry_rules : (features : WasmFeatures) (p : ℕ) (xs : List Measured) → EntryRules behind (measured features) p xs
  entry_rules features p [] = tt
  entry_rules features p (x ∷ xs) = (tt, entry_rules features (behind p x) xs)

  shaped_ruled : (features : WasmFeatures) (marked : Bool) (kinds : List Kind) → length kinds ≤ 1000000 → (rectype features).rules (shaped marked (entries kinds))
  shaped_ruled features marked kinds le = go (enables features GcTypes) marked kinds le
    where
      count : (kinds : List Kind) → length kinds ≤ 1000000 → nat_le (length (entries kinds)) 1000000 ≡ true
      count kinds le = le-leb (length (entries kinds)) 1000000 (omega (arith, le, length-map kinds entry))

      go : (on : Bool) (marked : Bool) (kinds : List Kind) → length kinds ≤ 1000000
          → either_type on ((led 0x4e (explicit features) (measured features 0) (sub_apart features 0) (sub_some features 0) (sub_wants features 0)).rules (shaped marked (entries kinds))) ((single features).rules (shaped marked (entries kinds)))
      go true true kinds le = ((tt, must_pass (nat_le (length (entries kinds)) 1000000) _ (count kinds le)), entry_rules features 0 (entries kinds))
      go true false [] le = ((tt, refl), tt)
      go true false (k ∷ []) le = tt
      go true false (k ∷ other ∷ kinds) le = ((tt, must_pass (nat_le (length (entries (k ∷ other ∷ kinds))) 1000000) _ (count (k ∷ other ∷ kinds) le)), entry_rules features 0 (entries (k ∷ other ∷ kinds)))
      go false marked kinds le = λ x e. tt

pub groups_formed : EntriesTell → (features : WasmFeatures) (earlier groups : List TypeGroup) → AllByRecursion IsWritten groups → GroupsBelow (length (flat_map (λ (g : TypeGroup). g.kinds) earlier)) groups
    → length (flat_map (λ (g : TypeGroup). g.kinds) earlier) + length (flat_map (λ (g : TypeGroup). g.kinds) groups) ≤ 1000000 → AllRuled (IsFormed (group features)) (map group_from groups)
groups_formed tell features earlier [] written below le = tt
groups_formed tell features earlier (g ∷ groups) written below le =
    let kinds : TypeGroup → List Kind = λ g. g.kinds in
    let s : State = record nothing_yet { filled = record empty { groups = earlier } } in
    let ms = members (group_from g) in
    let t = members_told tell g.marked g.kinds written.0.0 in
    let many = told_length ms t.0 in
    let own = ap (λ (l : List Kind). length l) t.1 in
    let sum : length (flat_map kinds (g ∷ groups)) ≡ length g.kinds + length (flat_map kinds groups) = length-append g.kinds (flat_map kinds groups) in
    let end : length (flat_map kinds earlier) + length g.kinds ≡ length (flat_map kinds earlier) + length ms = omega (arith, many, own) in
    let there : AreBelow (length (flat_map kinds earlier) + length ms) (kinds_of ms) =
    subst (λ (l : List Kind). AreBelow (length (flat_map kinds earlier) + length ms) l) (sym t.1) (subst (λ (n : ℕ). AreBelow n g.kinds) end below.0) in
    let next : length (flat_map kinds (earlier ++ g ∷ [])) ≡ length (flat_map kinds earlier) + length g.kinds =
    ap (λ (l : List Kind). length l) (flat_map-append kinds earlier (g ∷ [])) ∙ length-append (flat_map kinds earlier) (flat_map kinds (g ∷ [])) ∙ omega (arith, length-append g.kinds (let none : List Kind = [] in none)) in (
      (s, (shaped_ruled tell features g.marked g.kinds (omega (arith, le, sum)), members_pass (length (flat_map kinds earlier) + length ms) (length (flat_map kinds earlier)) ms t.0 there (omega (arith, le, sum, many, own)))),
      groups_formed tell features (earlier ++ g ∷ []) groups written.1 (subst (λ (n : ℕ). GroupsBelow n groups) (sym next) below.1) (omega (arith, le, sum, next)),
    )
