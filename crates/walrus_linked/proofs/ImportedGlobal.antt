-- A global and the import that brings it: what was linked stays so.
use Rattle.std.proofs.Common.{◌≡◌, ◌∙◌, ℕ, [], ◌∷◌, ◌++◌, length, Option, Some, Contains, refl, ap, inl}
use Rattle.std.specs.Option.{option_and_then}
use Rattle.walrus_arena.specs.Arena.{Arena}
use Rattle.walrus_module.specs.walrus_module_items.declared.import.Import.{Import}
use Rattle.walrus_module.specs.walrus_module_items.declared.global.Global.{Global}
use Rattle.wasm_formats.specs.declared.fault.Space.{Space}
use Rattle.wasm_formats.specs.declared.fault.Space.TheVariants as spaces
use Rattle.walrus_module.specs.Parts.{Module}
use Rattle.walrus_roots.specs.declared.item.Item.{Item}
use Rattle.walrus_roots.specs.Items.{item}
use Rattle.walrus_marks.specs.Named.{items_of}
use Rattle.walrus_module.specs.Items.{Lives, brought}
use Rattle.walrus_linked.specs.Names.{named_by, global_names}
use Rattle.walrus_linked.specs.Linked.{IsLinked, global_import}
use Rattle.walrus_linked.proofs.SlotLemmas.{pushed_new}
use Rattle.walrus_linked.proofs.PushLemmas.{says_kept, says_or_new, live_kept, live_or_new, names_kept, new_names}
use Rattle.walrus_linked.proofs.ExtendLemmas.{InSpace, imports_extend, linked}

abbrev says : Global → Option ℕ
says x = global_import x.kind

module _ (m : Module) (is : Arena Import) (xs : Arena Global) (x0 : Global) (imp0 : Import) (brings : is.slots ≡ m.imports.slots ++ Some imp0 ∷ []) (adds : xs.slots ≡ m.globals.slots ++ Some x0 ∷ [])
    (back : says x0 ≡ Some (length m.imports.slots)) (forth : brought imp0.kind ≡ item spaces.Global (length m.globals.slots)) where
  abbrev n : Module
  n = record m { imports = is; globals = xs }

  pub in_space : (s : Space) → InSpace m n (item spaces.Global (length m.globals.slots)) (length m.imports.slots) s
  in_space spaces.Type = record { import_kept = λ id i h. h; import_at = λ id i h. inl h; lives_kept = λ id h. h; lives_at = λ id h. inl h; names_kept = λ id h. refl }
  in_space spaces.Function = record { import_kept = λ id i h. h; import_at = λ id i h. inl h; lives_kept = λ id h. h; lives_at = λ id h. inl h; names_kept = λ id h. refl }
  in_space spaces.Table = record { import_kept = λ id i h. h; import_at = λ id i h. inl h; lives_kept = λ id h. h; lives_at = λ id h. inl h; names_kept = λ id h. refl }
  in_space spaces.Memory = record { import_kept = λ id i h. h; import_at = λ id i h. inl h; lives_kept = λ id h. h; lives_at = λ id h. inl h; names_kept = λ id h. refl }
  in_space spaces.Tag = record { import_kept = λ id i h. h; import_at = λ id i h. inl h; lives_kept = λ id h. h; lives_at = λ id h. inl h; names_kept = λ id h. refl }
  in_space spaces.Global = record {
    import_kept = says_kept m.globals xs x0 adds says;
    import_at = says_or_new m.globals xs x0 adds spaces.Global says (length m.imports.slots) back;
    lives_kept = live_kept m.globals xs x0 adds;
    lives_at = live_or_new m.globals xs x0 adds spaces.Global;
    names_kept = names_kept m.globals xs x0 adds (λ o. items_of (named_by global_names o));
  }
  in_space spaces.Element = record { import_kept = λ id i h. h; import_at = λ id i h. inl h; lives_kept = λ id h. h; lives_at = λ id h. inl h; names_kept = λ id h. refl }
  in_space spaces.Data = record { import_kept = λ id i h. h; import_at = λ id i h. inl h; lives_kept = λ id h. h; lives_at = λ id h. inl h; names_kept = λ id h. refl }
  in_space spaces.Local = record { import_kept = λ id i h. h; import_at = λ id i h. inl h; lives_kept = λ id h. h; lives_at = λ id h. inl h; names_kept = λ id h. refl }
  in_space spaces.Label = record { import_kept = λ id i h. h; import_at = λ id i h. inl h; lives_kept = λ id h. h; lives_at = λ id h. inl h; names_kept = λ id h. refl }

  pub global_linked : ((y : Item) → Contains (items_of (global_names x0)) y → Lives n y) → IsLinked m → IsLinked n
  global_linked new l = linked m n (item spaces.Global (length m.globals.slots)) (length m.imports.slots) imp0
      (record {
        imports = imports_extend m is imp0 brings;
        brings = forth;
        spaces = in_space;
        import_new = ap (option_and_then says) (pushed_new m.globals xs x0 adds) ∙ back;
        whole = l.whole;
        names_new = new_names m.globals xs x0 adds (λ o. items_of (named_by global_names o)) (Lives n) new;
        types_same = refl;
        exports_same = refl;
        start_same = refl;
      }) l
