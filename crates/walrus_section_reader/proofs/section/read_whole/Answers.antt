use Rattle.std.proofs.Common.{arith, refl}
use Rattle.std.proofs.lemmas.Result.{err_from_is_err_and}
use Rattle.walrus_section_reader.specs.Windows.{not_whole, not_read, is_whole}
use Rattle.walrus_section_reader.proofs.section.read_whole.Goals as goal

pub returns-in_err-read_entry : goal.returns-in_err-read_entry
returns-in_err-read_entry g c =
    let p = err_from_is_err_and c.from_residual.result c.from_residual.ensures.1 in
    rw (p.1, p.2) (not_read (g.E.Entries.step c.args.contents.now.window.features (g.E.Entries.state c.args.into.now)) _ _ _ _ _ c.in_err-read_entry.ensures)

pub returns-in_err-close_section : goal.returns-in_err-close_section
returns-in_err-close_section g c =
    let p = err_from_is_err_and c.from_residual-in_err-close_section.result c.from_residual-in_err-close_section.ensures.1 in
    let closed = c.in_err-close_section.ensures in
    rw (p.1, p.2) (not_whole (g.E.Entries.step c.args.contents.now.window.features (g.E.Entries.state c.args.into.now)) _ _ _ _ _ _ c.in_ok-read_entry.ensures closed.kind closed.place closed.left_over)

pub returns : goal.returns
returns g c = is_whole (g.E.Entries.step c.args.contents.now.window.features (g.E.Entries.state c.args.into.now)) _ _ _ _ _ _ refl c.in_ok-read_entry.ensures c.in_ok-close_section.ensures.whole
