use Rattle.std.proofs.Common.{refl}
use Rattle.walrus_sections_into.proofs.SegmentLemmas.{held, segment}
use Rattle.walrus_sections_into.proofs.segments.add_segment.Goals as goal

pub returns-clause-added : goal.returns-clause-added
returns-clause-added c = (
  segment c.in_ok-add.field-0 c.in_ok-kind.kind c.kept.result,
  (
    segment c.in_ok-add.field-0 c.in_ok-kind.kind c.in_ok-value.value,
    record { id = c.in_ok-add.ensures.id; mode = c.in_ok-kind.ensures.becomes; bytes = c.in_ok-value.ensures.copied; no_name = refl },
    held c.args.keeps_bytes c.in_ok-add.field-0 c.in_ok-kind.kind c.in_ok-value.value c.kept.result c.kept.ensures.kept c.kept.ensures.empty,
  ),
  c.in_ok-add.ensures.added,
)
