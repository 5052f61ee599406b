-- An imported function that gets a body, while its import goes: what was linked stays so.
use Rattle.std.proofs.Common.{◌≡◌, ◌∙◌, ℕ, List, Option, Some, None, Contains, slice_index_or, slice_set, sym, ap, subst, inl, inr}
use Rattle.std.specs.Option.{option_and_then}
use Rattle.std.proofs.lemmas.Bool.{cases_eq}
use Rattle.std.proofs.lemmas.List.{get_or-set_same}
use Rattle.walrus_arena.specs.Arena.{Arena, item_at}
use Rattle.walrus_arena.proofs.ArenaLemmas.{live-within, at-other, at-deleted}
use Rattle.walrus_linked.specs.walrus_module_items.declared.import.Import.{Import}
use Rattle.walrus_linked.specs.walrus_module_items.declared.import.ImportKind.{ImportKind}
use Rattle.walrus_linked.specs.walrus_module_items.declared.import.ImportKind.TheVariants as kinds
use Rattle.walrus_linked.specs.walrus_module_items.declared.function.Function.{Function}
use Rattle.wasm_formats.specs.declared.fault.Space.{Space}
use Rattle.wasm_formats.specs.declared.fault.Space.TheVariants as spaces
use Rattle.walrus_linked.specs.walrus_module.Parts.{Module}
use Rattle.walrus_roots.specs.declared.item.Item.{Item}
use Rattle.walrus_roots.specs.Items.{item}
use Rattle.walrus_marks.specs.Named.{items_of}
use Rattle.walrus_linked.specs.walrus_module.Items.{Lives, LivesIn, brought, given_out}
use Rattle.walrus_linked.specs.Names.{names, named_by, function_names}
use Rattle.walrus_linked.specs.Linked.{IsLinked, IsWhole, import_of, import_in, function_import}
use Rattle.walrus_linked.proofs.SlotLemmas.{some_of, is_some_at}

abbrev says : Function → Option ℕ
says f = function_import f.kind

module _ (m : Module) (is : Arena Import) (fs : Arena Function) (f k : ℕ) (old new : Function) (imp : Import) (at : item_at m.funcs f ≡ Some old) (imp_at : item_at m.imports k ≡ Some imp)
    (brings : imp.kind ≡ kinds.Function f) (own : says new ≡ None) (fs_are : fs.slots ≡ slice_set m.funcs.slots f (Some new)) (is_are : is.slots ≡ slice_set m.imports.slots k None) (l : IsLinked m) where
  abbrev n : Module
  n = record m { imports = is; funcs = fs }

  other : (id : ℕ) → (id ≡ f → ⊥) → item_at fs id ≡ item_at m.funcs id
  other id apart = ap (λ (ss : List (Option Function)). slice_index_or ss id None) fs_are ∙ at-other m.funcs.slots (Some new) f id apart

  this : item_at fs f ≡ Some new
  this = ap (λ (ss : List (Option Function)). slice_index_or ss f None) fs_are ∙ get_or-set_same m.funcs.slots f (Some new) None (live-within m.funcs.slots f old at)

  -- the import that goes is the one that the function names
  names_it : import_in m spaces.Function f ≡ Some k
  names_it = ap (λ (kind : ImportKind). import_of m (brought kind)) (sym brings) ∙ l.imports k imp imp_at

  import_kept : (kind : ImportKind) (i : ℕ) → (i ≡ k → ⊥) → import_of m (brought kind) ≡ Some i → import_of n (brought kind) ≡ Some i
  import_kept (kinds.Function id) i apart h = elim (cases_eq id f) as (λ _. import_in n spaces.Function id ≡ Some i) [
    | inl e ↦ let both : Some i ≡ Some k = sym h ∙ ap (import_in m spaces.Function) e ∙ names_it in let same : i ≡ k = cc in absurd (apart same)
    | inr e ↦ ap (option_and_then says) (other id e) ∙ h
  ]
  import_kept (kinds.Table id) i apart h = h
  import_kept (kinds.Memory id) i apart h = h
  import_kept (kinds.Global id) i apart h = h
  import_kept (kinds.Tag id) i apart h = h

  -- what is imported still was imported, and is not that function
  import_at : (s : Space) (id i : ℕ) → import_in n s id ≡ Some i → (import_in m s id ≡ Some i) × (item s id ≡ item spaces.Function f → ⊥)
  import_at spaces.Function id i h = elim (cases_eq id f) as (λ _. (import_in m spaces.Function id ≡ Some i) × (item spaces.Function id ≡ item spaces.Function f → ⊥)) [
    | inl e ↦ let bad : None ≡ Some i = sym own ∙ sym (ap (option_and_then says) (ap (item_at fs) e ∙ this)) ∙ h in absurd cc
    | inr e ↦ (ap (option_and_then says) (sym (other id e)) ∙ h, λ same. e (ap (λ (x : Item). x.id) same))
  ]
  import_at spaces.Table id i h = (h, λ same. let bad : spaces.Table ≡ spaces.Function = ap (λ (x : Item). x.space) same in absurd cc)
  import_at spaces.Memory id i h = (h, λ same. let bad : spaces.Memory ≡ spaces.Function = ap (λ (x : Item). x.space) same in absurd cc)
  import_at spaces.Global id i h = (h, λ same. let bad : spaces.Global ≡ spaces.Function = ap (λ (x : Item). x.space) same in absurd cc)
  import_at spaces.Tag id i h = (h, λ same. let bad : spaces.Tag ≡ spaces.Function = ap (λ (x : Item). x.space) same in absurd cc)
  import_at spaces.Type id i h = absurd cc
  import_at spaces.Element id i h = absurd cc
  import_at spaces.Data id i h = absurd cc
  import_at spaces.Local id i h = absurd cc
  import_at spaces.Label id i h = absurd cc

  imports_at : (i : ℕ) → item_at is i ≡ slice_index_or (slice_set m.imports.slots k None) i None
  imports_at i = ap (λ (ss : List (Option Import)). slice_index_or ss i None) is_are

  -- the import of anything else stays
  import_stays : (x : Item) (i : ℕ) (a : Import) → item_at m.imports i ≡ Some a → brought a.kind ≡ x → (x ≡ item spaces.Function f → ⊥) → item_at is i ≡ Some a
  import_stays x i a h is_x apart = elim (cases_eq i k) as (λ _. item_at is i ≡ Some a) [
    | inl e ↦ let both : Some a ≡ Some imp = sym h ∙ ap (item_at m.imports) e ∙ imp_at in let same : a ≡ imp = cc in
        absurd (apart (sym is_x ∙ ap (λ (b : Import). brought b.kind) same ∙ ap brought brings))
    | inr e ↦ imports_at i ∙ at-other m.imports.slots None k i e ∙ h
  ]

  pub lives_kept : (s : Space) (id : ℕ) → LivesIn m s id → LivesIn n s id
  lives_kept spaces.Function id h = elim (cases_eq id f) as (λ _. LivesIn n spaces.Function id) [
    | inl e ↦ is_some_at (item_at fs id) new (ap (item_at fs) e ∙ this)
    | inr e ↦ let a = some_of (item_at m.funcs id) h in is_some_at (item_at fs id) a.0 (other id e ∙ a.1)
  ]
  lives_kept spaces.Type id h = h
  lives_kept spaces.Table id h = h
  lives_kept spaces.Memory id h = h
  lives_kept spaces.Tag id h = h
  lives_kept spaces.Global id h = h
  lives_kept spaces.Element id h = h
  lives_kept spaces.Data id h = h
  lives_kept spaces.Local id h = h
  lives_kept spaces.Label id h = h

  named : ((y : Item) → Contains (items_of (function_names m.locals new)) y → Lives n y) → (s : Space) (id : ℕ) → LivesIn n s id → (y : Item) → Contains (names n (item s id)) y → Lives n y
  named new_lives spaces.Function id h y has =
      let N : Option Function → Type 0 = λ o. Contains (items_of (named_by (function_names m.locals) o)) y in
      elim (cases_eq id f) as (λ _. Lives n y) [
        | inl e ↦ new_lives y (subst N (ap (item_at fs) e ∙ this) has)
        | inr e ↦
            let a = some_of (item_at fs id) h in
            lives_kept y.space y.id (l.named (item spaces.Function id) y (is_some_at (item_at m.funcs id) a.0 (sym (other id e) ∙ a.1)) (subst N (other id e) has))
      ]
  named new_lives spaces.Type id h y has = lives_kept y.space y.id (l.named (item spaces.Type id) y h has)
  named new_lives spaces.Table id h y has = lives_kept y.space y.id (l.named (item spaces.Table id) y h has)
  named new_lives spaces.Memory id h y has = lives_kept y.space y.id (l.named (item spaces.Memory id) y h has)
  named new_lives spaces.Tag id h y has = lives_kept y.space y.id (l.named (item spaces.Tag id) y h has)
  named new_lives spaces.Global id h y has = lives_kept y.space y.id (l.named (item spaces.Global id) y h has)
  named new_lives spaces.Element id h y has = lives_kept y.space y.id (l.named (item spaces.Element id) y h has)
  named new_lives spaces.Data id h y has = lives_kept y.space y.id (l.named (item spaces.Data id) y h has)
  named new_lives spaces.Local id h y has = lives_kept y.space y.id (l.named (item spaces.Local id) y h has)
  named new_lives spaces.Label id h y has = absurd h

  whole : IsWhole m.types new.kind → (id : ℕ) (function : Function) → item_at fs id ≡ Some function → IsWhole m.types function.kind
  whole is_whole id function h = elim (cases_eq id f) as (λ _. IsWhole m.types function.kind) [
    | inl e ↦
        let both : Some new ≡ Some function = sym this ∙ ap (item_at fs) (sym e) ∙ h in
        let same : new ≡ function = cc in
        let W : Function → Type 0 = λ x. IsWhole m.types x.kind in subst W same is_whole
    | inr e ↦ l.whole id function (sym (other id e) ∙ h)
  ]

  pub import_dropped : IsWhole m.types new.kind → ((y : Item) → Contains (items_of (function_names m.locals new)) y → Lives n y) → IsLinked n
  import_dropped is_whole new_lives = record {
    imports = λ i a h.
        let was = at-deleted m.imports.slots k i a (sym (imports_at i) ∙ h) in
        import_kept a.kind i was.1 (l.imports i a was.0);
    imported = λ x i h.
        let was = import_at x.space x.id i h in
        let o = l.imported x i was.0 in
        (o.0, import_stays x i o.0 o.1 o.2 was.1, o.2);
    whole = whole is_whole;
    named = λ x y lives has. named new_lives x.space x.id lives y has;
    grouped = l.grouped;
    exported = λ e export h. let x = given_out export.item in lives_kept x.space x.id (l.exported e export h);
    started = λ s h. lives_kept spaces.Function s (l.started s h);
  }
