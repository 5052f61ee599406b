use Rattle.std.proofs.Common.{ap, sym, subst, arith}
use Rattle.std.proofs.lemmas.List.{get_or_default}
use Rattle.walrus_section_frames.specs.walrus_known_sections.wasm_sections.wasm_grammar.States.{State}
use Rattle.walrus_errors.specs.declared.error.ModuleError.{ModuleError}
use Rattle.walrus_section_frames.specs.walrus_known_sections.State.{state_of}
use Rattle.walrus_file_reader.specs.Files.{IsRefused, read_has_header}
use Rattle.walrus_file_reader.proofs.FileLemmas.{begins, file_read, file_refused}
use Rattle.walrus_file_reader.proofs.file.read_sections.Goals as goal

pub read_file-requires : goal.read_file-requires
read_file-requires c =
    let offset = ap (λ (s : State). s.offset) c.new-sections.ensures in
    omega (arith, offset, c.new_features-reader.ensures.start, c.new_features-reader.ensures.position)

pub returns-in-Ok-clause-read : goal.returns-in-Ok-clause-read
returns-in-Ok-clause-read c =
    let reader = c.new_features-reader.ensures in
    let at = begins c.args.features c.args.bytes.now c.new_features-reader.result reader.bytes reader.start reader.position reader.features in
    file_read c.args.features c.args.bytes.now c.new_features-reader.result (state_of c.new-sections.result) (state_of c.read_file.new.sections) _ at c.new-sections.ensures
    (λ k d lt. let same = get_or_default c.args.bytes.now k d 0 lt in omega (arith, same, c.type_inv.bytes k)) c.in-Ok.ensures.file

pub returns-in-Ok-clause-header : goal.returns-in-Ok-clause-header
returns-in-Ok-clause-header c =
    let reader = c.new_features-reader.ensures in
    let at = begins c.args.features c.args.bytes.now c.new_features-reader.result reader.bytes reader.start reader.position reader.features in
    read_has_header c.args.features c.args.bytes.now (state_of c.read_file.new.sections)
    (file_read c.args.features c.args.bytes.now c.new_features-reader.result (state_of c.new-sections.result) (state_of c.read_file.new.sections) _ at c.new-sections.ensures
    (λ k d lt. let same = get_or_default c.args.bytes.now k d 0 lt in omega (arith, same, c.type_inv.bytes k)) c.in-Ok.ensures.file)

pub returns-clause-refused : goal.returns-clause-refused
returns-clause-refused c =
    let reader = c.new_features-reader.ensures in
    let at = begins c.args.features c.args.bytes.now c.new_features-reader.result reader.bytes reader.start reader.position reader.features in
    subst (λ (e : ModuleError). IsRefused c.args.features c.args.bytes.now e) (sym c.from.ensures)
    (file_refused c.args.features c.args.bytes.now c.new_features-reader.result (state_of c.new-sections.result) _ c.in-Err.fault at c.new-sections.ensures
    (λ k d lt. let same = get_or_default c.args.bytes.now k d 0 lt in omega (arith, same, c.type_inv.bytes k)) c.in-Err.ensures.header c.in-Err.ensures.file)
