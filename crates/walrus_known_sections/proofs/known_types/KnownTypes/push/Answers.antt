use Rattle.std.proofs.Common.{map}
use Rattle.std.proofs.lemmas.List.{map_push}
use Rattle.walrus_forms.specs.Records.{type_group}
use Rattle.walrus_known_sections.specs.Types.{one_more}
use Rattle.walrus_known_sections.proofs.known_types.KnownTypes.push.Goals as goal

pub invariant_of-self-2 : goal.invariant_of-self-2
invariant_of-self-2 c =
    let old = c.self.inside in
    rw (c.in_ok-push_functions.ensures.pushed, c.as_slice.ensures.value, c.push_reserved.ensures.items, c.in_ok-reserve.ensures.items, map_push type_group old.groups.items c.args.group)
    (one_more (map type_group old.groups.items) old.functions.items c.args.group c.self.invariant)
