use Rattle.std.proofs.Common.{◌∙◌, ℕ, length, map, List, ap, sym, subst}
use Rattle.walrus_type_arenas.specs.walrus_type_index.walrus_items.walrus_forms.Records.{TypeGroup, type_group}
use Rattle.walrus_type_arenas.specs.Table.{Table}
use Rattle.walrus_types.specs.Parsing.{Parsed, parsed_group, AreBelow, IsPartOf}
use Rattle.walrus_types.proofs.ParseLemmas.{IsParsedTo, group-sized, on_err, parsed-one, parsed-part, states-same}
use Rattle.walrus_types.proofs.table.ModuleTypes.parse_own_types.Goals as goal

pub loop-group-preserved : goal.loop-group-preserved
loop-group-preserved c =
    let groups = map type_group c.args.groups.items in
    let group = type_group c.in-Some.group in
    let left = map type_group c.pop_front.new.self.items in
    let here : Parsed = record { ids = c.loop-group.ids.items; table = c.look_ahead-seen.new.self } in
    let next : Parsed = record { ids = c.parse_group.new.ids.items; table = c.parse_group.new.self } in
    let steps = ap (map type_group) c.in-Some.ensures.items in
    let below = subst (AreBelow (length c.loop-group.ids.items)) steps c.loop-group.invariant.below in
    let read = subst (λ (t : Table). IsParsedTo groups (map type_group c.loop-group.left.items) c.args.self.now (record { ids = c.loop-group.ids.items; table = t })) (sym c.look_ahead-seen.ensures) c.loop-group.invariant.read in
    record {
      read = parsed-one groups left group c.args.self.now here next (subst (λ (gs : List TypeGroup). IsParsedTo groups gs c.args.self.now here) steps read)
          (states-same next (parsed_group group here) c.in_ok-parse_group.ensures.ids c.in_ok-parse_group.ensures.table);
      below = subst (λ (n : ℕ). AreBelow n left) (sym (ap (λ (xs : List ℕ). length xs) c.in_ok-parse_group.ensures.ids ∙ group-sized group here)) below.1;
    }

pub returns-in_err-parse_group-clause-refused : goal.returns-in_err-parse_group-clause-refused
returns-in_err-parse_group-clause-refused c =
    let groups = map type_group c.args.groups.items in
    let here : Parsed = record { ids = c.loop-group.ids.items; table = c.look_ahead-seen.new.self } in
    let read = subst (λ (t : Table). IsParsedTo groups (map type_group c.loop-group.left.items) c.args.self.now (record { ids = c.loop-group.ids.items; table = t })) (sym c.look_ahead-seen.ensures) c.loop-group.invariant.read in
    on_err c.from_residual.result
    (subst (IsPartOf groups c.args.self.now) (sym c.in_err-parse_group.ensures.refused)
    (parsed-part groups (map type_group c.pop_front.new.self.items) (type_group c.in-Some.group) c.args.self.now here
    (subst (λ (gs : List TypeGroup). IsParsedTo groups gs c.args.self.now here) (ap (map type_group) c.in-Some.ensures.items) read)))
