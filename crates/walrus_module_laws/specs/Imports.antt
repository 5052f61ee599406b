-- When two imports are equal.
use Rattle.std.specs.Prelude.{◌==◌, ◌&&◌, Bool, string_bytes}
use Rattle.std.specs.Str.{bytes_eq}
use Rattle.walrus_module_items.specs.declared.import.Import.{Import}
use Rattle.walrus_linked.specs.walrus_collections.Tests.{same_kind}

-- by all their fields, texts by their bytes
abbrev pub same_import : Import → Import → Bool
same_import a b = a.id == b.id && (bytes_eq (string_bytes a.«module») (string_bytes b.«module») && (bytes_eq (string_bytes a.name) (string_bytes b.name) && same_kind a.kind b.kind))
