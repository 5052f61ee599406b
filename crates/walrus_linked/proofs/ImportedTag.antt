-- A tag and the import that brings it: what was linked stays so.
use Rattle.std.proofs.Common.{◌≡◌, ◌∙◌, ℕ, [], ◌∷◌, ◌++◌, length, Option, Some, Contains, refl, ap, inl}
use Rattle.std.specs.Option.{option_and_then}
use Rattle.walrus_arena.specs.Arena.{Arena}
use Rattle.walrus_module.specs.walrus_module_items.declared.import.Import.{Import}
use Rattle.walrus_module.specs.walrus_module_items.declared.tag.Tag.{Tag}
use Rattle.wasm_formats.specs.declared.fault.Space.{Space}
use Rattle.wasm_formats.specs.declared.fault.Space.TheVariants as spaces
use Rattle.walrus_module.specs.Parts.{Module}
use Rattle.walrus_roots.specs.declared.item.Item.{Item}
use Rattle.walrus_roots.specs.Items.{item}
use Rattle.walrus_marks.specs.Named.{items_of}
use Rattle.walrus_module.specs.Items.{Lives, brought}
use Rattle.walrus_linked.specs.Names.{named_by, tag_names}
use Rattle.walrus_linked.specs.Linked.{IsLinked, tag_import}
use Rattle.walrus_linked.proofs.SlotLemmas.{pushed_new}
use Rattle.walrus_linked.proofs.PushLemmas.{says_kept, says_or_new, live_kept, live_or_new, names_kept, new_names}
use Rattle.walrus_linked.proofs.ExtendLemmas.{InSpace, imports_extend, linked}

abbrev says : Tag → Option ℕ
says x = tag_import x.kind

module _ (m : Module) (is : Arena Import) (xs : Arena Tag) (x0 : Tag) (imp0 : Import) (brings : is.slots ≡ m.imports.slots ++ Some imp0 ∷ []) (adds : xs.slots ≡ m.tags.slots ++ Some x0 ∷ [])
    (back : says x0 ≡ Some (length m.imports.slots)) (forth : brought imp0.kind ≡ item spaces.Tag (length m.tags.slots)) where
  abbrev n : Module
  n = record m { imports = is; tags = xs }

  pub in_space : (s : Space) → InSpace m n (item spaces.Tag (length m.tags.slots)) (length m.imports.slots) s
  in_space spaces.Type = record { import_kept = λ id i h. h; import_at = λ id i h. inl h; lives_kept = λ id h. h; lives_at = λ id h. inl h; names_kept = λ id h. refl }
  in_space spaces.Function = record { import_kept = λ id i h. h; import_at = λ id i h. inl h; lives_kept = λ id h. h; lives_at = λ id h. inl h; names_kept = λ id h. refl }
  in_space spaces.Table = record { import_kept = λ id i h. h; import_at = λ id i h. inl h; lives_kept = λ id h. h; lives_at = λ id h. inl h; names_kept = λ id h. refl }
  in_space spaces.Memory = record { import_kept = λ id i h. h; import_at = λ id i h. inl h; lives_kept = λ id h. h; lives_at = λ id h. inl h; names_kept = λ id h. refl }
  in_space spaces.Tag = record {
    import_kept = says_kept m.tags xs x0 adds says;
    import_at = says_or_new m.tags xs x0 adds spaces.Tag says (length m.imports.slots) back;
    lives_kept = live_kept m.tags xs x0 adds;
    lives_at = live_or_new m.tags xs x0 adds spaces.Tag;
    names_kept = names_kept m.tags xs x0 adds (λ o. items_of (named_by tag_names o));
  }
  in_space spaces.Global = record { import_kept = λ id i h. h; import_at = λ id i h. inl h; lives_kept = λ id h. h; lives_at = λ id h. inl h; names_kept = λ id h. refl }
  in_space spaces.Element = record { import_kept = λ id i h. h; import_at = λ id i h. inl h; lives_kept = λ id h. h; lives_at = λ id h. inl h; names_kept = λ id h. refl }
  in_space spaces.Data = record { import_kept = λ id i h. h; import_at = λ id i h. inl h; lives_kept = λ id h. h; lives_at = λ id h. inl h; names_kept = λ id h. refl }
  in_space spaces.Local = record { import_kept = λ id i h. h; import_at = λ id i h. inl h; lives_kept = λ id h. h; lives_at = λ id h. inl h; names_kept = λ id h. refl }
  in_space spaces.Label = record { import_kept = λ id i h. h; import_at = λ id i h. inl h; lives_kept = λ id h. h; lives_at = λ id h. inl h; names_kept = λ id h. refl }

  pub tag_linked : ((y : Item) → Contains (items_of (tag_names x0)) y → Lives n y) → IsLinked m → IsLinked n
  tag_linked new l = linked m n (item spaces.Tag (length m.tags.slots)) (length m.imports.slots) imp0
      (record {
        imports = imports_extend m is imp0 brings;
        brings = forth;
        spaces = in_space;
        import_new = ap (option_and_then says) (pushed_new m.tags xs x0 adds) ∙ back;
        whole = l.whole;
        names_new = new_names m.tags xs x0 adds (λ o. items_of (named_by tag_names o)) (Lives n) new;
        types_same = refl;
        exports_same = refl;
        start_same = refl;
      }) l
