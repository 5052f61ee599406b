-- Lemmas: groups whose members name types below their end, in the words of the table that takes them.
use Rattle.std.proofs.Common.{ℕ, ◌+◌, List, [], ◌∷◌, length, All, subst}
use Rattle.std.proofs.lemmas.List.Elements.{All-nil, All-cons}
use Rattle.walrus_forms.specs.Kinds.{Kind}
use Rattle.walrus_forms.specs.Records.{TypeGroup}
use Rattle.walrus_forms.specs.Renaming.{KindBelow}
use Rattle.walrus_types.specs.Parsing.{AreBelow}
use Rattle.wasm_grammar.specs.States.{State}
use Rattle.wasm_ruled_modules.specs.Rules.{GroupsBelow, AreBelow as KindsBelow}
use Rattle.wasm_ruled_modules.specs.Keeping.{file_kept}
use Rattle.wasm_ruled_modules.specs.Reading.{groups_kept}
use Rattle.walrus_types_into.specs.Into.{TypesNameBelow}

kinds_below : (end : ℕ) (kinds : List Kind) → KindsBelow end kinds → All (KindBelow end) kinds
kinds_below end [] h = All-nil (KindBelow end)
kinds_below end (kind ∷ kinds) h = All-cons (KindBelow end) kind kinds h.0 (kinds_below end kinds h.1)

groups_below : (types : ℕ) (groups : List TypeGroup) → GroupsBelow types groups → AreBelow types groups
groups_below types [] h = tt
groups_below types (g ∷ groups) h = (kinds_below (types + length g.kinds) g.kinds h.0, groups_below (types + length g.kinds) groups h.1)

pub types_name_below : TypesNameBelow
types_name_below features bytes s h =
    let kept = file_kept features (λ m. GroupsBelow 0 m.groups) (groups_kept features) tt bytes h.0 h.1.0 h.1.1 in
    groups_below 0 s.filled.groups (subst (λ (s : State). GroupsBelow 0 s.filled.groups) h.2 kept)
