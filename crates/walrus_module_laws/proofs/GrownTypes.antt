-- More types: what was linked stays so.
use Rattle.std.proofs.Common.{◌≡◌, ◌∙◌, ◌⊎◌, ℕ, zero, suc, ◌+◌, Bool, true, false, ◌&&◌, List, [], ◌∷◌, ◌++◌, length, Option, Some, None, IsSome, Contains, slice_index_or, if◌then◌else◌, refl, sym, ap, subst, inl, inr}
use Rattle.std.specs.Option.{IfSome}
use Rattle.std.proofs.lemmas.Option.{MatchOption-at_none, MatchOption-at_some}
use Rattle.std.proofs.lemmas.List.Elements.{Contains-append_right}
use Rattle.walrus_arena.specs.Arena.{item_at}
use Rattle.walrus_forms.specs.Kinds.{Kind, kind_names}
use Rattle.walrus_forms.specs.Forms.{params_of}
use Rattle.walrus_forms.specs.Same.{same_kind}
use Rattle.walrus_forms.proofs.EqLemmas.{same-kind-law}
use Rattle.walrus_types.specs.Items.{Item as TypeItem}
use Rattle.walrus_types.specs.Groups.{AddsGroup, new_items}
use Rattle.walrus_types.specs.Table.{Table, type_at, next_id, names_itself, merges, latest_id, equal_type, Adds, Merges}
use Rattle.walrus_types.specs.TypeLaws.{IsLatest}
use Rattle.walrus_types.proofs.LawLemmas.{latest-law}
use Rattle.walrus_linked.specs.walrus_local_function.declared.local_function.LocalFunction.{LocalFunction}
use Rattle.walrus_linked.specs.walrus_module_items.declared.function.Function.{Function}
use Rattle.walrus_linked.specs.walrus_module_items.declared.function.FunctionKind.{FunctionKind}
use Rattle.walrus_linked.specs.walrus_module_items.declared.function.FunctionKind.TheVariants as functions
use Rattle.walrus_linked.specs.walrus_module_items.Functions.{type_of}
use Rattle.wasm_formats.specs.declared.fault.Space.{Space}
use Rattle.wasm_formats.specs.declared.fault.Space.TheVariants as spaces
use Rattle.walrus_linked.specs.walrus_module.Parts.{Module}
use Rattle.walrus_roots.specs.Items.{item}
use Rattle.walrus_marks.specs.Named.{items_of}
use Rattle.walrus_linked.specs.walrus_module.Items.{Lives, LivesIn, written}
use Rattle.walrus_linked.specs.Names.{names, named_by, function_names, body_names, type_names}
use Rattle.walrus_linked.specs.Linked.{IsLinked, IsWhole, HasArguments, GroupsAreWritten}
use Rattle.walrus_linked.proofs.GroupLemmas.{group_written, merged_written}
use Rattle.walrus_linked.proofs.SlotLemmas.{at_push, at_kept, at_new, is_some_at}
use Rattle.walrus_module_laws.specs.Edits.{KindsNameLive, MembersAreDeclared}
use Rattle.walrus_module_laws.proofs.NameLemmas.{here, type_at_names}
use Rattle.walrus_module_laws.proofs.ChangeLemmas.{InSpace, after_change}

-- a type that is an item: live, and no entry type
abbrev IsItem : Option TypeItem → Type 0
IsItem o = IsSome (written o)

pub type_of_item : (o : Option TypeItem) → IsItem o → (ty : TypeItem) × (o ≡ Some ty) × (ty.kind.entry ≡ false)
type_of_item None h = absurd cc
type_of_item (Some ty) h = (ty, refl, by_entry ty.kind.entry refl h)
  where
    by_entry : (b : Bool) → ty.kind.entry ≡ b → IsSome (if b then None else Some ty) → ty.kind.entry ≡ false
    by_entry true e h = absurd cc
    by_entry false e h = e

pub item_of_type : (o : Option TypeItem) (ty : TypeItem) → o ≡ Some ty → ty.kind.entry ≡ false → IsItem o
item_of_type o ty e plain =
    let F : Option TypeItem → Type 0 = λ v. IsItem v in
    let G : Bool → Type 0 = λ b. IsSome (if b then None else Some ty) in
    subst F (sym e) (subst G (sym plain) refl)

-- the old types are there, and each other one has one of these kinds; the members of explicit groups are types that live, as before
pub record Grows (kinds : List Kind) (old new : Table) : Type 0 where
  pub kept : (id : ℕ) (ty : TypeItem) → type_at old id ≡ Some ty → type_at new id ≡ Some ty
  pub at : (id : ℕ) (ty : TypeItem) → type_at new id ≡ Some ty → (type_at old id ≡ Some ty) ⊎ Contains kinds ty.kind
  pub grouped : GroupsAreWritten old → GroupsAreWritten new

-- the type of this kind is there
pub record Finds (kind : Kind) (id : ℕ) (new : Table) : Type 0 where
  pub ty : TypeItem
  pub live : type_at new id ≡ Some ty
  pub kind_is : ty.kind ≡ kind

first_holds : (a b : Bool) → a && b ≡ true → a ≡ true
first_holds true b e = refl
first_holds false b e = absurd cc

module _ (kind : Kind) (id : ℕ) (old new : Table) where
  slots_at : (slots : List (Option TypeItem)) → new.types ≡ slots → (k : ℕ) → type_at new k ≡ slice_index_or slots k None
  slots_at slots is k = ap (λ (ts : List (Option TypeItem)). slice_index_or ts k None) is

  added_grows : Adds kind id old new → (GroupsAreWritten old → GroupsAreWritten new) → Grows (kind ∷ []) old new
  added_grows a grouped = record {
    kept = λ k ty h. slots_at _ a.types k ∙ at_kept old.types _ ty k h;
    at = λ k ty h. elim (at_push old.types _ ty k (sym (slots_at _ a.types k) ∙ h)) as (λ _. (type_at old k ≡ Some ty) ⊎ Contains (kind ∷ []) ty.kind) [
      | inl g ↦ inl g
      | inr g ↦ let H : Kind → Type 0 = λ x. Contains (kind ∷ []) x in inr (subst H (sym (ap (λ (t : TypeItem). t.kind) g.1)) (here kind []))
    ];
    grouped = grouped;
  }

  added_finds : Adds kind id old new → Finds kind id new
  added_finds a = record {
    ty = record { id = id; kind = kind; name = None };
    live = ap (type_at new) a.given ∙ slots_at _ a.types (length old.types) ∙ at_new old.types _;
    kind_is = refl;
  }

  -- the type that a search found is of the kind
  found_kind : (found : ℕ) → equal_type kind old ≡ Some found → Finds kind found old
  found_kind found is = by_itself (names_itself (next_id old) kind) is
    where
      by_itself : (b : Bool) → (if b then None else latest_id (merges kind) old) ≡ Some found → Finds kind found old
      by_itself true e = absurd cc
      by_itself false e =
          let latest = MatchOption-at_some ((k : ℕ) (x : TypeItem) → type_at old k ≡ Some x → merges kind (k, x) ≡ false) (IsLatest (merges kind) old) found e (latest-law old (merges kind)) in
          record { ty = latest.item; live = latest.live; kind_is = (same-kind-law latest.item.kind kind).0 (first_holds (same_kind latest.item.kind kind) _ latest.passes) }

  pub merged : Merges kind id old new → Grows (kind ∷ []) old new × Finds kind id new
  merged h = by_found (equal_type kind old) refl
    where
      by_found : (o : Option ℕ) → equal_type kind old ≡ o → Grows (kind ∷ []) old new × Finds kind id new
      by_found None e = let a = MatchOption-at_none (Adds kind id old new) (λ (found : ℕ). (id ≡ found) × (new ≡ old)) e h in (added_grows a (merged_written kind id old new h), added_finds a)
      by_found (Some found) e =
          let s = MatchOption-at_some (Adds kind id old new) (λ (k : ℕ). (id ≡ k) × (new ≡ old)) found e h in
          let G : Table → Type 0 = λ t. Grows (kind ∷ []) old t in
          let F : Table → Type 0 = λ t. Finds kind id t in
          let I : ℕ → Type 0 = λ k. Finds kind k old in
          (subst G (sym s.1) (record { kept = λ k ty at. at; at = λ k ty at. inl at; grouped = λ w. w }), subst F (sym s.1) (subst I (sym s.0) (found_kind found e)))

module _ (m : Module) where
  -- a live function's type is an item
  pub type_lives : IsLinked m → (id : ℕ) (f : Function) → item_at m.funcs id ≡ Some f → LivesIn m spaces.Type (type_of f.kind)
  type_lives l id f at =
      let N : Option Function → Type 0 = λ o. Contains (items_of (named_by (function_names m.locals) o)) (item spaces.Type (type_of f.kind)) in
      l.named (item spaces.Function id) (item spaces.Type (type_of f.kind)) (is_some_at (item_at m.funcs id) f at)
      (subst N (sym at) (here (item spaces.Type (type_of f.kind)) (items_of (body_names m.locals f.kind))))

module _ (kinds : List Kind) (old new : Table) where
  -- an item among new ones is of one of their kinds
  new_at : (first : ℕ) (ks : List Kind) (id : ℕ) (ty : TypeItem) → slice_index_or (new_items first ks) id None ≡ Some ty → Contains ks ty.kind
  new_at first [] id ty e = absurd cc
  new_at first (k ∷ ks) zero ty e =
      let one : TypeItem = record { id = first; kind = k; name = None } in
      let same : one ≡ ty = cc in
      let H : Kind → Type 0 = λ x. Contains (k ∷ ks) x in subst H (ap (λ (t : TypeItem). t.kind) same) (here k ks)
  new_at first (k ∷ ks) (suc id) ty e = Contains-append_right (k ∷ []) ks ty.kind (new_at (first + 1) ks id ty e)

  behind_at : (slots : List (Option TypeItem)) (first id : ℕ) (ty : TypeItem) → slice_index_or (slots ++ new_items first kinds) id None ≡ Some ty
      → (slice_index_or slots id None ≡ Some ty) ⊎ Contains kinds ty.kind
  behind_at [] first id ty e = inr (new_at first kinds id ty e)
  behind_at (s ∷ slots) first zero ty e = inl e
  behind_at (s ∷ slots) first (suc id) ty e = behind_at slots first id ty e

  before_at : (slots : List (Option TypeItem)) (first id : ℕ) (ty : TypeItem) → slice_index_or slots id None ≡ Some ty → slice_index_or (slots ++ new_items first kinds) id None ≡ Some ty
  before_at [] first id ty e = absurd cc
  before_at (s ∷ slots) first zero ty e = e
  before_at (s ∷ slots) first (suc id) ty e = before_at slots first id ty e

  pub group_grows : (explicit : Bool) → AddsGroup explicit kinds old new → MembersAreDeclared explicit kinds → Grows kinds old new
  group_grows explicit a declared =
      let slots_are : (id : ℕ) → type_at new id ≡ slice_index_or (old.types ++ new_items (next_id old) kinds) id None = λ id. ap (λ (ts : List (Option TypeItem)). slice_index_or ts id None) a.types in
      record {
        kept = λ id ty e. slots_are id ∙ before_at old.types (next_id old) id ty e;
        at = λ id ty e. behind_at old.types (next_id old) id ty (sym (slots_are id) ∙ e);
        grouped = group_written explicit kinds old new a declared;
      }

module _ (m : Module) (t : Table) (kinds : List Kind) (grows : Grows kinds m.types t) where
  abbrev n : Module
  n = record m { types = t }

  type_kept : (id : ℕ) → LivesIn m spaces.Type id → LivesIn n spaces.Type id
  type_kept id h = let a = type_of_item (type_at m.types id) h in item_of_type (type_at t id) a.0 (grows.kept id a.0 a.1) a.2

  pub in_space : KindsNameLive n kinds → (s : Space) → InSpace m n s
  in_space new spaces.Type = record {
    import_kept = λ id i h. h;
    import_at = λ id i h. h;
    lives_kept = type_kept;
    named = λ id h y has.
        let a = type_of_item (type_at t id) h in
        let N : Option TypeItem → Type 0 = λ o. Contains (items_of (named_by type_names o)) y in
        elim (grows.at id a.0 a.1) as (λ _. (LivesIn m spaces.Type id × Contains (names m (item spaces.Type id)) y) ⊎ Lives n y) [
          | inl k ↦ inl (item_of_type (type_at m.types id) a.0 k a.2, subst N (a.1 ∙ sym k) has)
          | inr k ↦
              let name = type_at_names (kind_names a.0.kind) y (subst N a.1 has) in
              inr (subst (Lives n) name.2 (new a.0.kind k a.2 name.0 name.1))
        ];
  }
  in_space new spaces.Function = record { import_kept = λ id i h. h; import_at = λ id i h. h; lives_kept = λ id h. h; named = λ id h y has. inl (h, has) }
  in_space new spaces.Table = record { import_kept = λ id i h. h; import_at = λ id i h. h; lives_kept = λ id h. h; named = λ id h y has. inl (h, has) }
  in_space new spaces.Memory = record { import_kept = λ id i h. h; import_at = λ id i h. h; lives_kept = λ id h. h; named = λ id h y has. inl (h, has) }
  in_space new spaces.Tag = record { import_kept = λ id i h. h; import_at = λ id i h. h; lives_kept = λ id h. h; named = λ id h y has. inl (h, has) }
  in_space new spaces.Global = record { import_kept = λ id i h. h; import_at = λ id i h. h; lives_kept = λ id h. h; named = λ id h y has. inl (h, has) }
  in_space new spaces.Element = record { import_kept = λ id i h. h; import_at = λ id i h. h; lives_kept = λ id h. h; named = λ id h y has. inl (h, has) }
  in_space new spaces.Data = record { import_kept = λ id i h. h; import_at = λ id i h. h; lives_kept = λ id h. h; named = λ id h y has. inl (h, has) }
  in_space new spaces.Local = record { import_kept = λ id i h. h; import_at = λ id i h. h; lives_kept = λ id h. h; named = λ id h y has. inl (h, has) }
  in_space new spaces.Label = record { import_kept = λ id i h. h; import_at = λ id i h. h; lives_kept = λ id h. h; named = λ id h y has. inl (h, has) }

  arguments_kept : (local : LocalFunction) → LivesIn m spaces.Type local.builder.ty → HasArguments m.types local → HasArguments t local
  arguments_kept local lives h =
      let a = type_of_item (type_at m.types local.builder.ty) lives in
      let C : Option TypeItem → Type 0 = λ o. IfSome o (λ ty. length local.args.items ≡ length (params_of ty.kind.form)) in
      record { distinct = h.distinct; counted = subst C (sym (grows.kept local.builder.ty a.0 a.1)) (subst C a.1 h.counted) }

  whole_kept : (kind : FunctionKind) → LivesIn m spaces.Type (type_of kind) → IsWhole m.types kind → IsWhole t kind
  whole_kept (functions.Import _) lives h = h
  whole_kept (functions.Local local) lives h = (arguments_kept local lives h.0, h.1)
  whole_kept (functions.Uninitialized _) lives h = h

  pub types_grown : KindsNameLive n kinds → IsLinked m → IsLinked n
  types_grown new l = after_change m n (record {
    imports_same = refl;
    spaces = in_space new;
    whole = λ f function at. whole_kept function.kind (type_lives m l f function at) (l.whole f function at);
    exported = λ e export at. inl at;
    start_same = refl;
    grouped = grows.grouped l.grouped;
  }) l
