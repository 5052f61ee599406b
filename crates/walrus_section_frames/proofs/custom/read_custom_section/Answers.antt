use Rattle.std.proofs.Common.{refl}
use Rattle.std.proofs.lemmas.Result.{err_from_is_err_and}
use Rattle.walrus_entry_readers.specs.walrus_known_sections.wasm_sections.Sections.{custom}
use Rattle.walrus_section_frames.proofs.Exact.{not_opened, not_parsed, parsed}
use Rattle.walrus_section_frames.specs.Customs.{custom_entry_of}
use Rattle.walrus_section_frames.proofs.custom.read_custom_section.Goals as goal

pub returns-in_err-contents : goal.returns-in_err-contents
returns-in_err-contents c =
    let p = err_from_is_err_and c.from_residual.result c.from_residual.ensures.1 in
    rw (p.1, p.2) (not_opened custom.parse custom_entry_of _ _ _ c.in_err-contents.ensures.contents)

pub returns-in_err-custom : goal.returns-in_err-custom
returns-in_err-custom c =
    let p = err_from_is_err_and c.from_residual-in_err-custom.result c.from_residual-in_err-custom.ensures.1 in
    rw (p.1, p.2) (not_parsed custom.parse custom_entry_of custom_entry_of _ _ _ _ c.in_ok-contents.ensures.contents c.in_ok-contents.ensures.place c.in_err-custom.ensures)

pub returns : goal.returns
returns c = parsed custom.parse custom_entry_of custom_entry_of _ _ _ _ _ refl c.in_ok-contents.ensures.contents c.in_ok-contents.ensures.place c.in_ok-custom.ensures
