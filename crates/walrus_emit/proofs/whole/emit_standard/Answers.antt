use Rattle.walrus_index_maps.specs.Views.{indices}
use Rattle.walrus_emit.proofs.WrittenLemmas.{is_standard, stands_in}
use Rattle.walrus_emit.proofs.whole.emit_standard.Goals as goal

pub returns : goal.returns
returns g c =
    is_standard g.B.CustomSection.own_name g.B.CustomSection.contents c.args.input.now c.args.facts.now c.as_slice-order.result.now c.in_ok-cx.cx.order.items c.in_ok-cx.cx.types c.in_ok-cx.cx.emission.bytes.items
    (indices c.in_ok-cx.cx.emission.indices) c.write_all.new.emission c.as_slice-order.ensures.value c.in_ok-cx.ensures.order c.in_ok-cx.ensures.types c.in_ok-cx.ensures.written c.in_ok-cx.ensures.numbers
    c.in_ok-write_all.ensures.numbered c.in_ok-write_all.ensures.written
    (stands_in g.B.CustomSection.own_name g.B.CustomSection.contents c.args.input.now c.args.facts.now c.as_slice-order.result.now c.in_ok-cx.cx.order.items c.in_ok-cx.cx.types c.in_ok-cx.cx.emission.bytes.items
    (indices c.in_ok-cx.cx.emission.indices) c.in_ok-cx.cx.emission.locations.items c.in_ok-cx.cx.emission.ranges.items c.in_ok-cx.cx.emission.code_section_start c.write_all.new.emission
    c.as_slice-order.ensures.value c.in_ok-cx.ensures.written c.in_ok-cx.ensures.numbers c.in_ok-cx.ensures.locations c.in_ok-cx.ensures.ranges c.in_ok-cx.ensures.start
    c.in_ok-write_all.ensures.located c.in_ok-write_all.ensures.ranged c.in_ok-write_all.ensures.begins)
