use Rattle.std.proofs.Common.{refl}
use Rattle.walrus_section_frames.specs.Customs.{all_are}
use Rattle.walrus_section_frames.proofs.custom.read_custom.Goals as goal

pub returns : goal.returns
returns c =
    let name = c.in_ok-name.ensures in
    let all = all_are _ _ _ _ c.bytes_remaining-left.ensures c.in_ok-bytes.ensures.bytes.value in
    record { value = rw (name.value, all) refl; place = tt }
