use Rattle.wasm_reader.specs.Cursor.{end_of}
use Rattle.walrus_section_frames.specs.walrus_known_sections.State.{state_of}
use Rattle.walrus_file_reader.proofs.PutLemmas.{types, imports, functions, tables, memories, globals, exports, elements, segments, tags, put_as}
use Rattle.walrus_file_reader.proofs.contents.read_contents.Goals as goal

pub returns-in-1 : goal.returns-in-1
returns-in-1 c =
    put_as c.args.reader.now.window.features (end_of c.args.reader.now) (state_of c.args.sections.now) c.args.id 1 _ _ c.args.reader.now c.read_section.new.reader c.read_section.result c.in-1.is
    (types c.args.reader.now.window.features (end_of c.args.reader.now) (state_of c.args.sections.now)) c.read_section.ensures

pub returns-in-2 : goal.returns-in-2
returns-in-2 c =
    put_as c.args.reader.now.window.features (end_of c.args.reader.now) (state_of c.args.sections.now) c.args.id 2 _ _ c.args.reader.now c.read_section-in-2.new.reader c.read_section-in-2.result c.in-2.is
    (imports c.args.reader.now.window.features (end_of c.args.reader.now) (state_of c.args.sections.now)) c.read_section-in-2.ensures

pub returns-in-3 : goal.returns-in-3
returns-in-3 c =
    put_as c.args.reader.now.window.features (end_of c.args.reader.now) (state_of c.args.sections.now) c.args.id 3 _ _ c.args.reader.now c.read_section-in-3.new.reader c.read_section-in-3.result c.in-3.is
    (functions c.args.reader.now.window.features (end_of c.args.reader.now) (state_of c.args.sections.now)) c.read_section-in-3.ensures

pub returns-in-4 : goal.returns-in-4
returns-in-4 c =
    put_as c.args.reader.now.window.features (end_of c.args.reader.now) (state_of c.args.sections.now) c.args.id 4 _ _ c.args.reader.now c.read_section-in-4.new.reader c.read_section-in-4.result c.in-4.is
    (tables c.args.reader.now.window.features (end_of c.args.reader.now) (state_of c.args.sections.now)) c.read_section-in-4.ensures

pub returns-in-5 : goal.returns-in-5
returns-in-5 c =
    put_as c.args.reader.now.window.features (end_of c.args.reader.now) (state_of c.args.sections.now) c.args.id 5 _ _ c.args.reader.now c.read_section-in-5.new.reader c.read_section-in-5.result c.in-5.is
    (memories c.args.reader.now.window.features (end_of c.args.reader.now) (state_of c.args.sections.now)) c.read_section-in-5.ensures

pub returns-in-6 : goal.returns-in-6
returns-in-6 c =
    put_as c.args.reader.now.window.features (end_of c.args.reader.now) (state_of c.args.sections.now) c.args.id 6 _ _ c.args.reader.now c.read_section-in-6.new.reader c.read_section-in-6.result c.in-6.is
    (globals c.args.reader.now.window.features (end_of c.args.reader.now) (state_of c.args.sections.now)) c.read_section-in-6.ensures

pub returns-in-7 : goal.returns-in-7
returns-in-7 c =
    put_as c.args.reader.now.window.features (end_of c.args.reader.now) (state_of c.args.sections.now) c.args.id 7 _ _ c.args.reader.now c.read_section-in-7.new.reader c.read_section-in-7.result c.in-7.is
    (exports c.args.reader.now.window.features (end_of c.args.reader.now) (state_of c.args.sections.now)) c.read_section-in-7.ensures

pub returns-in-9 : goal.returns-in-9
returns-in-9 c =
    put_as c.args.reader.now.window.features (end_of c.args.reader.now) (state_of c.args.sections.now) c.args.id 9 _ _ c.args.reader.now c.read_section-in-9.new.reader c.read_section-in-9.result c.in-9.is
    (elements c.args.reader.now.window.features (end_of c.args.reader.now) (state_of c.args.sections.now)) c.read_section-in-9.ensures

pub returns-in-11 : goal.returns-in-11
returns-in-11 c =
    put_as c.args.reader.now.window.features (end_of c.args.reader.now) (state_of c.args.sections.now) c.args.id 11 _ _ c.args.reader.now c.read_section-in-11.new.reader c.read_section-in-11.result c.in-11.is
    (segments c.args.reader.now.window.features (end_of c.args.reader.now) (state_of c.args.sections.now)) c.read_section-in-11.ensures

pub returns-in-13 : goal.returns-in-13
returns-in-13 c =
    put_as c.args.reader.now.window.features (end_of c.args.reader.now) (state_of c.args.sections.now) c.args.id 13 _ _ c.args.reader.now c.read_section-in-13.new.reader c.read_section-in-13.result c.in-13.is
    (tags c.args.reader.now.window.features (end_of c.args.reader.now) (state_of c.args.sections.now)) c.read_section-in-13.ensures
