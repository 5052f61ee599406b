-- Lemmas: what a member is refused for, one test after another.
use Rattle.std.proofs.Common.{◌≡◌, ◌≤◌, ◌<◌, ◌∙◌, ℕ, suc, arith, ◌+◌, Bool, true, false, nat_le, List, [], ◌∷◌, ◌++◌, Option, Some, None, Result, Ok, Err, refl, sym, ap, subst, inl, inr, map}
use Rattle.std.specs.Global.{Vec}
use Rattle.std.specs.List.{list_any, filter_map, cons_option}
use Rattle.std.proofs.lemmas.Bool.{lt-ltb, le-ltb}
use Rattle.std.proofs.lemmas.List.{map_push, append_assoc}
use Rattle.wasm_types.specs.declared.subtype.SubType.{SubType}
use Rattle.walrus_known_sections.specs.wasm_sections.wasm_grammar.wasm_formats.Stops.{Trouble}
use Rattle.walrus_known_sections.specs.wasm_sections.wasm_grammar.wasm_formats.declared.fault.Space.TheVariants as spaces
use Rattle.walrus_known_sections.specs.wasm_sections.wasm_grammar.wasm_formats.declared.fault.Form.TheVariants as unsupported
use Rattle.walrus_known_sections.specs.wasm_sections.wasm_grammar.wasm_formats.declared.fault.Limited.TheVariants as limits
use Rattle.walrus_forms.specs.declared.record.TypeRecord.{TypeRecord}
use Rattle.walrus_forms.specs.Kinds.{Kind}
use Rattle.walrus_forms.specs.Records.{record_kind}
use Rattle.walrus_known_sections.specs.wasm_sections.TypeNames.{kind_of, sub_names}
use Rattle.walrus_known_sections.specs.wasm_sections.TypeSection.{sub_test, members_test, at_place}
use Rattle.walrus_section_reader.specs.declared.fault.Fault.{Fault}
use Rattle.walrus_section_reader.specs.declared.fault.FaultKind.TheVariants as faults
use Rattle.walrus_section_reader.specs.Faults.{fault_of, no_memory}
use Rattle.walrus_type_readers.specs.Groups.{TellsMember, TellsMembers, kind_in, told}

module _ (end n offset : ℕ) (ty : SubType) where
  abbrev names_end : Bool
  names_end = list_any (λ name. nat_le end name) (sub_names ty)

  pub name_fails : (e : Fault) → e ≡ fault_of (faults.Index spaces.Type) offset → names_end ≡ true → TellsMember end n offset ty (Err e)
  name_fails e is names = subst (λ (e : Fault). TellsMember end n offset ty (Err e)) (sym is) (inl (rw names refl))

  pub shared_fails : (e : Fault) → e ≡ fault_of (faults.Unsupported unsupported.SharedType) offset → names_end ≡ false → kind_of ty ≡ None → TellsMember end n offset ty (Err e)
  shared_fails e is names kind = subst (λ (e : Fault). TellsMember end n offset ty (Err e)) (sym is) (inl (rw (names, kind) refl))

  pub room_fails : (e : Fault) (k : Kind) → e ≡ fault_of (faults.Limit limits.Types) offset → names_end ≡ false → kind_of ty ≡ Some k → 1000000 ≤ n → TellsMember end n offset ty (Err e)
  room_fails e k is names kind full = subst (λ (e : Fault). TellsMember end n offset ty (Err e)) (sym is) (inl (rw (names, kind, le-ltb n 1000000 full) refl))

  pub member_is : (r : TypeRecord) → names_end ≡ false → kind_of ty ≡ Some (record_kind r) → n < 1000000 → TellsMember end n offset ty (Ok r)
  member_is r names kind room = (rw (names, kind, lt-ltb n 1000000 room) refl, kind)

  pub wants_memory : (result : Result TypeRecord Fault) (d : Fault) → result ≡ Err d → d ≡ no_memory → TellsMember end n offset ty result
  wants_memory result d is memory = rw is (inr memory)

-- ---- members one after another

-- the first one passes, the others are to come
pub later_tests : (end n : ℕ) (m : ℕ × SubType) (ms all : List (ℕ × SubType)) (first : ℕ) → sub_test end n m.1 ≡ None → members_test end n (m ∷ ms) ≡ members_test end first all
    → members_test end (n + 1) ms ≡ members_test end first all
later_tests end n m ms all first passes so_far = let next : n + 1 ≡ suc n = omega arith in rw next (sym (rw passes refl) ∙ so_far)

-- the first one fails
pub first_fails : (end n : ℕ) (m : ℕ × SubType) (ms all : List (ℕ × SubType)) (first : ℕ) (result : Result (Vec TypeRecord) Fault) (d e : Fault) → result ≡ Err d → d ≡ e
    → TellsMember end n m.0 m.1 (Err e) → members_test end n (m ∷ ms) ≡ members_test end first all → TellsMembers end first all result
first_fails end n m ms all first result d e is same (inl found) so_far = rw (is, same) (inl (sym so_far ∙ at_fault (sub_test end n m.1) found))
  where
    at_fault : (o : Option Trouble) → at_place m.0 o None ≡ told e → at_place m.0 o (members_test end (suc n) ms) ≡ told e
    at_fault None h = absurd cc
    at_fault (Some t) h = h
first_fails end n m ms all first result d e is same (inr memory) so_far = rw (is, same) (inr memory)

-- one record more
pub later_kinds : (m : ℕ × SubType) (ms all : List (ℕ × SubType)) (r : TypeRecord) (items later : List TypeRecord) → kind_of m.1 ≡ Some (record_kind r) → later ≡ items ++ r ∷ []
    → map record_kind items ++ filter_map kind_in (m ∷ ms) ≡ filter_map kind_in all → map record_kind later ++ filter_map kind_in ms ≡ filter_map kind_in all
later_kinds m ms all r items later kind push so_far =
    rw (push, map_push record_kind items r) (append_assoc (map record_kind items) (record_kind r ∷ []) (filter_map kind_in ms)
    ∙ ap (λ (o : Option Kind). map record_kind items ++ cons_option o (filter_map kind_in ms)) (sym kind) ∙ so_far)
