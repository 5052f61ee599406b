use Rattle.std.proofs.Common.{◌≡◌, ◌∙◌, ℕ, ◌+◌, length, map, take, drop, List, ap, sym, subst}
use Rattle.walrus_type_arenas.specs.walrus_type_index.walrus_items.walrus_forms.Records.{type_group}
use Rattle.walrus_types.specs.Parsing.{Parsed, parsed, parsed_group, unparsed, AreBelow}
use Rattle.walrus_types.proofs.ParseLemmas.{states-same, parsed-more, next-below, group-sized, part-of, on_err}
use Rattle.walrus_types.proofs.table.ModuleTypes.parse_types.Goals as goal

pub returns-in_err-parse_group-clause-refused : goal.returns-in_err-parse_group-clause-refused
returns-in_err-parse_group-clause-refused c = on_err c.from_residual.result
    (part-of c.args.groups.now c.loop-group.group-index c.group-item.result c.args.self.now c.parse_group.new.self c.loop-group-test.true c.group-item.is
    (c.in_err-parse_group.ensures.refused ∙ c.loop-group.invariant.table))

pub loop-group-preserved : goal.loop-group-preserved
loop-group-preserved c =
    let groups = c.args.groups.now in
    let i = c.loop-group.group-index in
    let group = c.group-item.result in
    let here : Parsed = record { ids = c.loop-group.ids.items; table = c.loop-group.self } in
    let same : here ≡ parsed (map type_group (take i groups)) (unparsed c.args.self.now) = states-same here _ c.loop-group.invariant.ids c.loop-group.invariant.table in
    let more : parsed_group (type_group group) here ≡ parsed (map type_group (take (i + 1) groups)) (unparsed c.args.self.now) =
    ap (λ (s : Parsed). parsed_group (type_group group) s) same ∙ sym (parsed-more groups i group (unparsed c.args.self.now) c.loop-group-test.true c.group-item.is) in
    let left = next-below groups i group (length c.loop-group.ids.items) c.loop-group-test.true c.group-item.is c.loop-group.invariant.below in
    record {
      ids = c.in_ok-parse_group.ensures.ids ∙ ap (λ (s : Parsed). s.ids) more;
      table = c.in_ok-parse_group.ensures.table ∙ ap (λ (s : Parsed). s.table) more;
      below = subst (λ (n : ℕ). AreBelow n (map type_group (drop (i + 1) groups)))
          (sym (ap (λ (xs : List ℕ). length xs) c.in_ok-parse_group.ensures.ids ∙ group-sized (type_group group) here)) left.1;
    }
