-- What is alike to a table that is emitted is refused for no fault.
use Rattle.std.proofs.Common.{◌≡◌, ◌∙◌, ℕ, suc, ◌+◌, Bool, true, false, List, [], ◌∷◌, ◌++◌, length, map, filter, Option, Some, None, if◌then◌else◌, refl, sym, ap, subst}
use Rattle.std.specs.Prelude.{nat_lt}
use Rattle.std.specs.List.{slice_get, flat_map, filter_map, cons_option}
use Rattle.std.specs.Option.{option_map_or, option_or}
use Rattle.std.proofs.lemmas.List.{length-map, map-append}
use Rattle.std.proofs.lemmas.Option.{none-some}
use Rattle.walrus_types.specs.declared.error.IrError.{IrError}
use Rattle.walrus_types.specs.declared.error.IrError.TheVariants.{Memory, WrongCount, Dead, EntryOnly, Later}
use Rattle.walrus_forms.specs.Kinds.{Kind, kind_names}
use Rattle.walrus_forms.specs.Records.{TypeGroup}
use Rattle.walrus_forms.specs.Renaming.{renamed_kind}
use Rattle.walrus_forms.proofs.RenamingLemmas.{kinds-names}
use Rattle.walrus_types.specs.Items.{Item, Group}
use Rattle.walrus_types.specs.Table.{Table, type_at}
use Rattle.walrus_types.specs.Parsing.{Parsed}
use Rattle.walrus_types.specs.Emission.{written_kind, is_written, written_in, fault_at, first_fault, group_names, groups_fault, index_at, AreArranged, IsEmission, HasFault, IsRefusal}
use Rattle.walrus_types.proofs.Places.{map_at}
use Rattle.walrus_type_laws.specs.Alike.{renamed_group, AreHomed, Alike}
use Rattle.walrus_type_laws.specs.Rounds.{read}
use Rattle.walrus_type_laws.specs.Edited.{explicit_group, EditedAreSound}
use Rattle.walrus_type_laws.proofs.AlikeLemmas.{kind_renamed, written_renamed, groups_same, index_same}
use Rattle.walrus_type_laws.proofs.AgainLemmas.{alike, straight_is}
use Rattle.walrus_type_laws.proofs.Faults.{or_none, item_tests}
use Rattle.walrus_type_laws.proofs.Marked.{marked_table, marked_steady, marked_emission, read_marked}
use Rattle.walrus_type_laws.proofs.Straight.{straight}
use Rattle.walrus_type_laws.proofs.Written.{AllWritten, filter_all, indexed, kind_of, written_item}

module _ (r : ℕ → ℕ) (t u : Table) (homed : AreHomed t) (likeness : Alike r t u) where
  abbrev Written : List ℕ → Type 0
  Written ids = (k id : ℕ) → slice_get ids k ≡ Some id → is_written t id ≡ true

  names_renamed : (ids : List ℕ) → Written ids → flat_map kind_names (filter_map (written_kind u) (map r ids)) ≡ map r (flat_map kind_names (filter_map (written_kind t) ids))
  names_renamed [] all = refl
  names_renamed (id ∷ ids) all =
      let k = kind_of t id (all 0 id refl) in
      let us : List Kind = filter_map (written_kind u) (map r ids) in
      let ts : List Kind = filter_map (written_kind t) ids in
      ap (λ (o : Option Kind). flat_map kind_names (cons_option o us)) (kind_renamed r t u homed likeness id k.0 k.1)
      ∙ ap (λ (ns : List ℕ). ns ++ flat_map kind_names us) (kinds-names r k.0)
      ∙ ap (λ (ns : List ℕ). map r (kind_names k.0) ++ ns) (names_renamed ids (λ j x at. all (suc j) x at))
      ∙ sym (map-append r (kind_names k.0) (flat_map kind_names ts))
      ∙ sym (ap (λ (o : Option Kind). map r (flat_map kind_names (cons_option o ts))) k.1)

  members_renamed : (ids : List ℕ) → Written ids → length (filter (is_written u) (map r ids)) ≡ length (filter (is_written t) ids)
  members_renamed ids all =
      ap (λ (xs : List ℕ). length xs) (filter_all (is_written u) (map r ids) (λ k x at.
      let i = map_at r ids k x at in
      subst (λ (n : ℕ). is_written u n ≡ true) i.2 (written_renamed r t u homed likeness i.0 (all k i.0 i.1))))
      ∙ length-map ids r
      ∙ sym (ap (λ (xs : List ℕ). length xs) (filter_all (is_written t) ids all))

  module _ (index other : ℕ → ℕ) (same : (id : ℕ) → is_written t id ≡ true → other (r id) ≡ index id) where
    fault_none : (end name : ℕ) → fault_at t index end name ≡ None → fault_at u other end (r name) ≡ None
    fault_none end name none =
        let good = item_tests (type_at t name) (nat_lt (index name) end) none in
        let k = kind_of t name good.0 in
        let item = written_item u (r name) (renamed_kind r k.0) (kind_renamed r t u homed likeness name k.0 k.1) in
        let plain : (item.0).kind.entry ≡ false = ap (λ (x : Kind). x.entry) item.2 ∙ item.3 in
        let below : nat_lt (other (r name)) end ≡ true = ap (λ (n : ℕ). nat_lt n end) (same name good.0) ∙ good.1 in
        ap (λ (o : Option Item). option_map_or (λ x. if x.kind.entry then Some EntryOnly else if nat_lt (other (r name)) end then None else Some Later) o (Some Dead)) item.1
        ∙ ap (λ (b : Bool). if b then Some EntryOnly else if nat_lt (other (r name)) end then None else Some Later) plain
        ∙ ap (λ (b : Bool). let o : Option IrError = if b then None else Some Later in o) below

    names_none : (end : ℕ) (names : List ℕ) → first_fault (fault_at t index end) names ≡ None → first_fault (fault_at u other end) (map r names) ≡ None
    names_none end [] none = refl
    names_none end (name ∷ names) none =
        let parts = or_none (fault_at t index end name) (first_fault (fault_at t index end) names) none in
        ap (λ (o : Option IrError). option_or o (first_fault (fault_at u other end) (map r names))) (fault_none end name parts.0)
        ∙ names_none end names parts.1

    groups_none : (first : ℕ) (gs : List Group) → AllWritten t gs → groups_fault t index first gs ≡ None → groups_fault u other first (map (renamed_group r) gs) ≡ None
    groups_none first [] all none = refl
    groups_none first (g ∷ gs) all none =
        let end : ℕ = first + length (written_in t g) in
        let parts = or_none (first_fault (fault_at t index end) (group_names t g)) (groups_fault t index end gs) none in
        let own : Written g.types = λ k id at. all 0 k g id refl at in
        let hs : List Group = map (renamed_group r) gs in
        ap (λ (n : ℕ). option_or (first_fault (fault_at u other (first + n)) (group_names u (renamed_group r g))) (groups_fault u other (first + n) hs)) (members_renamed g.types own)
        ∙ ap (λ (names : List ℕ). option_or (first_fault (fault_at u other end) names) (groups_fault u other end hs)) (names_renamed g.types own)
        ∙ ap (λ (o : Option IrError). option_or o (groups_fault u other end hs)) (names_none end (group_names t g) parts.0)
        ∙ groups_none end gs (λ p k h id at_p at_k. all (suc p) k h id at_p at_k) parts.1

  -- so the other table has no fault
  pub no_fault : (out : List TypeGroup) (indices : List (Option ℕ)) → IsEmission t out indices → (fault : IrError) → HasFault u fault → ⊥
  no_fault out indices emission fault has =
      let hs : List Group = emission.groups in
      let index : ℕ → ℕ = index_at indices in
      let idx = indexed t hs indices homed emission.arranged in
      let groups : has.groups ≡ map (renamed_group r) hs = groups_same r t u homed likeness hs has.groups emission.arranged.in_order has.arranged.in_order in
      let arranged : AreArranged u (map (renamed_group r) hs) has.indices = subst (λ (gs : List Group). AreArranged u gs has.indices) groups has.arranged in
      let same : (id : ℕ) → is_written t id ≡ true → index_at has.indices (r id) ≡ index id = index_same r t u homed likeness hs index has.indices idx arranged in
      none-some fault (sym (groups_none index (index_at has.indices) same 0 hs idx.all emission.sound)
      ∙ ap (λ (gs : List Group). groups_fault u (index_at has.indices) 0 gs) (sym groups) ∙ has.found)

-- no fault is left
only_memory : (t : Table) → ((fault : IrError) → HasFault t fault → ⊥) → (fault : IrError) → IsRefusal t fault → fault ≡ Memory
only_memory t none Memory refusal = refl
only_memory t none WrongCount refusal = absurd refusal
only_memory t none Dead refusal = absurd (none Dead refusal)
only_memory t none EntryOnly refusal = absurd (none EntryOnly refusal)
only_memory t none Later refusal = absurd (none Later refusal)

pub sound-law : EditedAreSound
sound-law t grouped merged out indices emission =
    let v = marked_table t in
    let records = map explicit_group out in
    let steady = marked_steady t grouped merged in
    let written = marked_emission t grouped merged out indices emission in
    let r : ℕ → ℕ = index_at indices in
    only_memory (read out).table (λ fault has.
    no_fault r v (straight records).table steady.homed (alike v steady records indices written) records indices written fault
    (subst (λ (p : Parsed). HasFault p.table fault) (sym (read_marked out) ∙ straight_is v steady records indices written) has))
