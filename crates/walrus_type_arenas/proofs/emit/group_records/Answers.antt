use Rattle.std.proofs.Common.{arith, ◌∙◌, ◌-◌, ◌≤◌, [], drop, take, map, sym}
use Rattle.walrus_type_index.specs.walrus_items.walrus_forms.Records.{type_group}
use Rattle.walrus_type_arenas.specs.Table.{table_of}
use Rattle.walrus_type_arenas.specs.Emission.{index_at}
use Rattle.walrus_type_arenas.proofs.EmitLemmas.{shown-groups}
use Rattle.walrus_type_arenas.proofs.BlockLemmas.{block-split, block-fits, block-fault, block-done}
use Rattle.walrus_type_arenas.proofs.emit.group_records.Goals as goal

pub groups_fault-requires : goal.groups_fault-requires
groups_fault-requires c =
    let gs = c.args.groups.now in
    let i = c.loop-start.start in
    let j = c.min-stop.result in
    let upto : i ≤ j = omega (arith, c.min-stop.ensures, c.saturating_add.ensures, c.loop-start-test.true, c.loop-start.auto.start-fits) in
    block-fits (table_of c.args.types.now.slots []) (index_at c.args.indices.now) (shown-groups gs) (shown-groups (drop i gs)) (shown-groups (take (j - i) (drop i gs))) (shown-groups (drop j gs)) c.loop-start.end (map type_group c.loop-start.records.items) c.loop-start.invariant (block-split gs i j upto) c.requires

pub returns-in-Some-clause-faulty : goal.returns-in-Some-clause-faulty
returns-in-Some-clause-faulty c =
    let gs = c.args.groups.now in
    let i = c.loop-start.start in
    let j = c.min-stop.result in
    let upto : i ≤ j = omega (arith, c.min-stop.ensures, c.saturating_add.ensures, c.loop-start-test.true, c.loop-start.auto.start-fits) in
    block-fault (table_of c.args.types.now.slots []) (index_at c.args.indices.now) (shown-groups gs) (shown-groups (drop i gs)) (shown-groups (take (j - i) (drop i gs))) (shown-groups (drop j gs)) c.loop-start.end (map type_group c.loop-start.records.items) c.loop-start.invariant (block-split gs i j upto)
    c.in-Some.fault (sym c.in_ok-fault.ensures.fault ∙ c.in-Some.is)

pub loop-start-preserved : goal.loop-start-preserved
loop-start-preserved c =
    let gs = c.args.groups.now in
    let i = c.loop-start.start in
    let j = c.min-stop.result in
    let upto : i ≤ j = omega (arith, c.min-stop.ensures, c.saturating_add.ensures, c.loop-start-test.true, c.loop-start.auto.start-fits) in
    block-done (table_of c.args.types.now.slots []) (index_at c.args.indices.now) (shown-groups gs) (shown-groups (drop i gs)) (shown-groups (take (j - i) (drop i gs))) (shown-groups (drop j gs)) c.loop-start.end (map type_group c.loop-start.records.items) c.loop-start.invariant (block-split gs i j upto)
    c.groups_fault.new.end (map type_group c.push_records.new.records.items) (sym c.in_ok-fault.ensures.fault ∙ c.in_default.is) (c.in_ok-fault.ensures.end c.in_default.is) c.in_ok-push_records.ensures
