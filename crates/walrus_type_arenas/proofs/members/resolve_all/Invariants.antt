use Rattle.std.proofs.Common.{◌≡◌, map, take}
use Rattle.walrus_type_index.specs.walrus_items.walrus_forms.Records.{record_kind}
use Rattle.walrus_type_index.specs.walrus_items.walrus_forms.Renaming.{renamed_kind, at}
use Rattle.walrus_type_arenas.specs.Groups.{member_kind}
use Rattle.walrus_type_arenas.proofs.members.resolve_all.Given as goal

abbrev pub invariant-loop-ty : goal.invariant-loop-ty
invariant-loop-ty l = map member_kind l.news.items ≡ map (renamed_kind (at l.ids)) (map record_kind (take l.ty-index l.types))
