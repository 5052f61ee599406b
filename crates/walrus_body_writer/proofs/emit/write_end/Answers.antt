use Rattle.std.proofs.Common.{◌∙◌, Ok, refl, subst}
use Rattle.std.specs.Prelude.{Bool}
use Rattle.walrus_body_writer.specs.Appended.{IsAppended}
use Rattle.walrus_body_text.specs.Doing.{piece_of}
use Rattle.walrus_body_writer.specs.Numbers.{look_of}
use Rattle.walrus_body_writer.specs.Spelled.{written}
use Rattle.walrus_body_writer.proofs.Straight.{any_straight, ended_straight, refused_straight}
use Rattle.walrus_body_writer.proofs.emit.write_end.Goals as goal

pub returns-in-Ok-true : goal.returns-in-Ok-true
returns-in-Ok-true c = λ b.
    let look = look_of c.args.numbers.now in
    let x = written look b (piece_of c.args.closer) in
    let F : Bool → Type 0 = λ z. IsAppended ⊥ x c.args.out.now.bytes c.append_end.new.bytes (Ok z) in
    ended_straight ⊥ x c.args.place c.len-at.result c.args.out.now c.append_end.new.bytes c.end_at.new.out c.end_at.result
    (subst F c.in-Ok-true.field-0-test (c.in-Ok-true.ensures look b)) (c.len-at.ensures ∙ c.args.out.now.bytes.ok.0) c.end_at.ensures

pub returns-in-Ok-false : goal.returns-in-Ok-false
returns-in-Ok-false c = λ b.
    let look = look_of c.args.numbers.now in
    let x = written look b (piece_of c.args.closer) in
    let F : Bool → Type 0 = λ z. IsAppended ⊥ x c.args.out.now.bytes c.append_end.new.bytes (Ok z) in
    any_straight ⊥ x c.args.place c.args.out.now c.append_end.new.bytes c.write_any_end.new.out c.write_any_end.result
    (subst F c.in-Ok-false.field-0-test (c.in-Ok-false.ensures look b)) (c.write_any_end.ensures b)

pub returns-in-Err : goal.returns-in-Err
returns-in-Err c = λ b.
    let look = look_of c.args.numbers.now in
    let x = written look b (piece_of c.args.closer) in
    refused_straight ⊥ x c.args.place c.len-at.result c.args.out.now c.append_end.new.bytes
    (record { bytes = c.truncate.new.self; places = c.args.out.now.places; keeps_places = c.args.out.now.keeps_places }) c.in-Err.error
    (c.in-Err.ensures look b) (c.len-at.ensures ∙ c.args.out.now.bytes.ok.0) (record { bytes = c.truncate.ensures.items; places = refl; keeps = refl })
