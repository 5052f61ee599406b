use Rattle.std.proofs.Common.{ℕ, ap, sym, refl, ◌∙◌}
use Rattle.wasm_operators.specs.Items.{Functions, Globals, Labels, Locals, Names}
use Rattle.std.specs.Prelude.{[], ◌∷◌, None, Option}
use Rattle.wasm_operators.specs.declared.op_code.OpCode.{OpCode}
use Rattle.walrus_pairing.specs.walrus_codes.Binary.{binary_lane}
use Rattle.walrus_pairing.specs.walrus_codes.Unary.{unary_lane}
use Rattle.walrus_pairing.specs.Write.{access, lane_items, one, op}
use Rattle.walrus_body_text.specs.Doing.{label_by}
use Rattle.walrus_body_writer.specs.Numbers.{look_of}
use Rattle.walrus_body_writer.proofs.Straight.{call_is, const_is, global_get_is, global_set_is, load_is, local_get_is, local_set_is, local_tee_is, store_is, straight, unop_is, binop_is}
use Rattle.walrus_body_writer.proofs.frequent.append_frequent.Goals as goal

pub returns-in-LocalGet : goal.returns-in-LocalGet
returns-in-LocalGet c =
    let look = look_of c.args.numbers.now in
    let number = label_by c.args.depths.now.depths.items c.args.depths.now.height in
    λ b. straight look b number _ _ _ _ _ _ c.in-LocalGet.is refl (local_get_is look b number c.in-LocalGet.local ∙ ap (λ (z : OpCode). one look z Locals c.in-LocalGet.local) (sym c.byte.ensures)) c.append_local.ensures

pub returns-in-LocalSet : goal.returns-in-LocalSet
returns-in-LocalSet c =
    let look = look_of c.args.numbers.now in
    let number = label_by c.args.depths.now.depths.items c.args.depths.now.height in
    λ b. straight look b number _ _ _ _ _ _ c.in-LocalSet.is refl (local_set_is look b number c.in-LocalSet.local ∙ ap (λ (z : OpCode). one look z Locals c.in-LocalSet.local) (sym c.byte-in-LocalSet.ensures)) c.append_local-in-LocalSet.ensures

pub returns-in-LocalTee : goal.returns-in-LocalTee
returns-in-LocalTee c =
    let look = look_of c.args.numbers.now in
    let number = label_by c.args.depths.now.depths.items c.args.depths.now.height in
    λ b. straight look b number _ _ _ _ _ _ c.in-LocalTee.is refl (local_tee_is look b number c.in-LocalTee.local ∙ ap (λ (z : OpCode). one look z Locals c.in-LocalTee.local) (sym c.byte-in-LocalTee.ensures)) c.append_local-in-LocalTee.ensures

pub returns-in-Const : goal.returns-in-Const
returns-in-Const c =
    let look = look_of c.args.numbers.now in
    let number = label_by c.args.depths.now.depths.items c.args.depths.now.height in
    λ b. straight look b number _ _ _ _ _ _ c.in-Const.is refl (const_is look b number c.in-Const.value) c.append_constant.ensures

pub returns-in-Unop : goal.returns-in-Unop
returns-in-Unop c =
    let look = look_of c.args.numbers.now in
    let number = label_by c.args.depths.now.depths.items c.args.depths.now.height in
    λ b. straight look b number _ _ _ _ _ _ c.in-Unop.is refl (unop_is look b number c.in-Unop.op ∙ ap (λ (z : OpCode). op z (lane_items (unary_lane c.in-Unop.op))) (sym c.code_of_unary.ensures) ∙ ap (λ (z : Option ℕ). op c.code_of_unary.result (lane_items z)) (sym c.lane_of_unary.ensures)) c.append_lane.ensures

pub returns-in-Binop : goal.returns-in-Binop
returns-in-Binop c =
    let look = look_of c.args.numbers.now in
    let number = label_by c.args.depths.now.depths.items c.args.depths.now.height in
    λ b. straight look b number _ _ _ _ _ _ c.in-Binop.is refl (binop_is look b number c.in-Binop.op ∙ ap (λ (z : OpCode). op z (lane_items (binary_lane c.in-Binop.op))) (sym c.code_of_binary.ensures) ∙ ap (λ (z : Option ℕ). op c.code_of_binary.result (lane_items z)) (sym c.lane_of_binary.ensures)) c.append_lane-in-Binop.ensures

pub returns-in-Load : goal.returns-in-Load
returns-in-Load c =
    let look = look_of c.args.numbers.now in
    let number = label_by c.args.depths.now.depths.items c.args.depths.now.height in
    λ b. straight look b number _ _ _ _ _ _ c.in-Load.is refl (load_is look b number c.in-Load.memory c.in-Load.kind c.in-Load.arg ∙ ap (λ (z : OpCode). access look z c.in-Load.memory c.in-Load.arg None) (sym c.code_of_load.ensures)) c.append_access.ensures

pub returns-in-Store : goal.returns-in-Store
returns-in-Store c =
    let look = look_of c.args.numbers.now in
    let number = label_by c.args.depths.now.depths.items c.args.depths.now.height in
    λ b. straight look b number _ _ _ _ _ _ c.in-Store.is refl (store_is look b number c.in-Store.memory c.in-Store.kind c.in-Store.arg ∙ ap (λ (z : OpCode). access look z c.in-Store.memory c.in-Store.arg None) (sym c.code_of_store.ensures)) c.append_access-in-Store.ensures

pub returns-in-Call : goal.returns-in-Call
returns-in-Call c =
    let look = look_of c.args.numbers.now in
    let number = label_by c.args.depths.now.depths.items c.args.depths.now.height in
    λ b. straight look b number _ _ _ _ _ _ c.in-Call.is refl (call_is look b number c.in-Call.func ∙ ap (λ (z : OpCode). one look z Functions c.in-Call.func) (sym c.byte-in-Call.ensures)) c.append_function.ensures

pub returns-in-GlobalGet : goal.returns-in-GlobalGet
returns-in-GlobalGet c =
    let look = look_of c.args.numbers.now in
    let number = label_by c.args.depths.now.depths.items c.args.depths.now.height in
    λ b. straight look b number _ _ _ _ _ _ c.in-GlobalGet.is refl (global_get_is look b number c.in-GlobalGet.global ∙ ap (λ (z : OpCode). one look z Globals c.in-GlobalGet.global) (sym c.byte-in-GlobalGet.ensures)) c.append_global.ensures

pub returns-in-GlobalSet : goal.returns-in-GlobalSet
returns-in-GlobalSet c =
    let look = look_of c.args.numbers.now in
    let number = label_by c.args.depths.now.depths.items c.args.depths.now.height in
    λ b. straight look b number _ _ _ _ _ _ c.in-GlobalSet.is refl (global_set_is look b number c.in-GlobalSet.global ∙ ap (λ (z : OpCode). one look z Globals c.in-GlobalSet.global) (sym c.byte-in-GlobalSet.ensures)) c.append_global-in-GlobalSet.ensures

pub returns-in-Br : goal.returns-in-Br
returns-in-Br c =
    let look = look_of c.args.numbers.now in
    let number = label_by c.args.depths.now.depths.items c.args.depths.now.height in
    λ b. straight look b number _ _ _ _ _ _ c.in-Br.is refl (ap (λ (z : OpCode). op z (Names Labels (number c.in-Br.block) ∷ [])) (sym c.byte-in-Br.ensures) ∙ ap (λ (z : ℕ). op c.byte-in-Br.result (Names Labels z ∷ [])) (sym c.label.ensures)) c.append_label.ensures

pub returns-in-BrIf : goal.returns-in-BrIf
returns-in-BrIf c =
    let look = look_of c.args.numbers.now in
    let number = label_by c.args.depths.now.depths.items c.args.depths.now.height in
    λ b. straight look b number _ _ _ _ _ _ c.in-BrIf.is refl (ap (λ (z : OpCode). op z (Names Labels (number c.in-BrIf.block) ∷ [])) (sym c.byte-in-BrIf.ensures) ∙ ap (λ (z : ℕ). op c.byte-in-BrIf.result (Names Labels z ∷ [])) (sym c.label-in-BrIf.ensures)) c.append_label-in-BrIf.ensures
