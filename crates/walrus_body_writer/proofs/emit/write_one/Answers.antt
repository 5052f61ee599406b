use Rattle.std.proofs.Common.{◌∙◌, Ok, refl, subst}
use Rattle.std.specs.Prelude.{Bool}
use Rattle.walrus_body_writer.specs.Appended.{IsAppended}
use Rattle.walrus_body_text.specs.Doing.{label_by}
use Rattle.walrus_body_writer.specs.Numbers.{look_of}
use Rattle.walrus_body_writer.specs.Refusals.{IsLarge, value_in}
use Rattle.walrus_body_writer.specs.Spelled.{written_instr}
use Rattle.walrus_body_writer.proofs.Straight.{any_straight, ended_straight, refused_straight}
use Rattle.walrus_body_writer.proofs.emit.write_one.Goals as goal

pub returns-in-Ok-true : goal.returns-in-Ok-true
returns-in-Ok-true c =
    let look = look_of c.args.numbers.now in
    let large = IsLarge look (value_in c.args.seqs.now c.args.instr.now) in
    let x = written_instr look c.args.seqs.now (label_by c.args.depths.now.depths.items c.args.depths.now.height) c.args.instr.now in
    let F : Bool → Type 0 = λ z. IsAppended large x c.args.out.now.bytes c.append_frequent.new.bytes (Ok z) in
    ended_straight large x c.args.place c.len-at.result c.args.out.now c.append_frequent.new.bytes c.end_at.new.out c.end_at.result
    (subst F c.in-Ok-true.field-0-test (c.in-Ok-true.ensures c.args.seqs.now)) (c.len-at.ensures ∙ c.args.out.now.bytes.ok.0) c.end_at.ensures

pub returns-in-Ok-false : goal.returns-in-Ok-false
returns-in-Ok-false c =
    let look = look_of c.args.numbers.now in
    let large = IsLarge look (value_in c.args.seqs.now c.args.instr.now) in
    let x = written_instr look c.args.seqs.now (label_by c.args.depths.now.depths.items c.args.depths.now.height) c.args.instr.now in
    let F : Bool → Type 0 = λ z. IsAppended large x c.args.out.now.bytes c.append_frequent.new.bytes (Ok z) in
    any_straight large x c.args.place c.args.out.now c.append_frequent.new.bytes c.write_any.new.out c.write_any.result
    (subst F c.in-Ok-false.field-0-test (c.in-Ok-false.ensures c.args.seqs.now)) c.write_any.ensures

pub returns-in-Err : goal.returns-in-Err
returns-in-Err c =
    let look = look_of c.args.numbers.now in
    let large = IsLarge look (value_in c.args.seqs.now c.args.instr.now) in
    let x = written_instr look c.args.seqs.now (label_by c.args.depths.now.depths.items c.args.depths.now.height) c.args.instr.now in
    refused_straight large x c.args.place c.len-at.result c.args.out.now c.append_frequent.new.bytes
    (record { bytes = c.truncate.new.self; places = c.args.out.now.places; keeps_places = c.args.out.now.keeps_places }) c.in-Err.error
    (c.in-Err.ensures c.args.seqs.now) (c.len-at.ensures ∙ c.args.out.now.bytes.ok.0) (record { bytes = c.truncate.ensures.items; places = refl; keeps = refl })
