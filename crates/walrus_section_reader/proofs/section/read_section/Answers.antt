use Rattle.std.proofs.Common.{arith, refl, ◌∙◌, ap}
use Rattle.std.proofs.lemmas.Result.{err_from_is_err_and}
use Rattle.walrus_section_reader.specs.Windows.{inner_features, whole_under, not_opened, not_parsed, parsed}
use Rattle.walrus_section_reader.specs.Steps.{whole_by}
use Rattle.walrus_section_reader.proofs.section.read_section.Goals as goal

pub returns-in_err-contents : goal.returns-in_err-contents
returns-in_err-contents g c =
    let p = err_from_is_err_and c.from_residual.result c.from_residual.ensures.1 in
    rw (p.1, p.2) (not_opened (whole_by (g.E.Entries.step c.args.reader.now.window.features (g.E.Entries.state c.args.into.now))) _ _ _ _ c.in_err-contents.ensures.contents)

pub returns-in_err-read_whole : goal.returns-in_err-read_whole
returns-in_err-read_whole g c =
    let p = err_from_is_err_and c.from_residual-in_err-read_whole.result c.from_residual-in_err-read_whole.ensures.1 in
    let inner = inner_features _ _ _ c.in_ok-contents.ensures.contents c.in_ok-contents.ensures.place in
    rw (p.1, p.2) (not_parsed (whole_by (g.E.Entries.step c.args.reader.now.window.features (g.E.Entries.state c.args.into.now))) _ _ _ _ _ _ c.in_ok-contents.ensures.contents c.in_ok-contents.ensures.place
    (whole_under g.E.Entries.step _ _ _ _ _ _ inner c.in_err-read_whole.ensures))

pub returns : goal.returns
returns g c =
    let inner = inner_features _ _ _ c.in_ok-contents.ensures.contents c.in_ok-contents.ensures.place in
    parsed (whole_by (g.E.Entries.step c.args.reader.now.window.features (g.E.Entries.state c.args.into.now))) _ _ _ _ _ _ _ refl c.in_ok-contents.ensures.contents c.in_ok-contents.ensures.place
    (whole_under g.E.Entries.step _ _ _ _ _ _ inner c.in_ok-read_whole.ensures)
