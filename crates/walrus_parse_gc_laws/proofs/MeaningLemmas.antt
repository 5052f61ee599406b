-- What a module means whose bodies' instructions stand at other places.
use Rattle.std.proofs.Common.{ℕ, ◌≡◌, ◌∙◌, ◌&&◌, not, List, [], ◌∷◌, map, filter, flat_map, Option, Some, None, slice_get, refl, sym, ap, subst}
use Rattle.std.specs.List.{AllZip}
use Rattle.std.specs.Option.{option_map}
use Rattle.walrus_marks.specs.walrus_instr.declared.instr.Instr.{Instr}
use Rattle.walrus_marks.specs.walrus_instr.declared.instr.Instr.TheVariants as instrs
use Rattle.walrus_marks.specs.walrus_instr.declared.seq.InstrLocId.{InstrLocId}
use Rattle.walrus_marks.specs.walrus_instr.declared.seq.InstrSeq.{InstrSeq}
use Rattle.walrus_marks.specs.walrus_instr.walrus_items.declared.local.Local.{Local as LocalItem}
use Rattle.walrus_meaning.specs.Bodies.{block_of, depth_of, has_number, named_locals, own_body, own_clause, own_instr, own_operators, own_piece, own_seen, used_locals}
use Rattle.walrus_meaning.specs.Meaning.{means, own_function, own_origin}
use Rattle.walrus_meaning.specs.Words.{own_block}
use Rattle.walrus_meaning.specs.walrus_body_writer.walrus_pairing.Write.{seen_of}
use Rattle.walrus_meaning.specs.walrus_body_writer.walrus_pairing.walrus_codes.Runs.{byte}
use Rattle.walrus_meaning.specs.walrus_body_writer.walrus_pairing.wasm_operators.Items.{Block, ManyClauses}
use Rattle.walrus_meaning.specs.walrus_body_writer.walrus_pairing.wasm_operators.declared.block_type.BlockType.{BlockType}
use Rattle.walrus_meaning.specs.walrus_linked.walrus_local_function.declared.local_function.LocalFunction.{LocalFunction}
use Rattle.walrus_meaning.specs.walrus_linked.walrus_module.Parts.{Module, parts}
use Rattle.walrus_meaning.specs.walrus_linked.walrus_module.walrus_builder.Functions.{seqs_of}
use Rattle.walrus_meaning.specs.walrus_linked.walrus_module.walrus_types.walrus_forms.walrus_arena.Arena.{Arena}
use Rattle.walrus_meaning.specs.walrus_linked.walrus_module_items.Functions.{type_of}
use Rattle.walrus_meaning.specs.walrus_linked.walrus_module_items.declared.function.Function.{Function}
use Rattle.walrus_meaning.specs.walrus_linked.walrus_module_items.declared.function.FunctionKind.{FunctionKind}
use Rattle.walrus_meaning.specs.walrus_linked.walrus_module_items.declared.function.FunctionKind.TheVariants.{Import, Local, Uninitialized}
use Rattle.walrus_meaning.specs.walrus_linked.walrus_tree.Text.{Catch, CatchAll, Delegate, Else, End, Operator, Piece, operators}
use Rattle.walrus_meaning.specs.walrus_local_function.walrus_body_locals.wasm_grammar.Modules as grammar
use Rattle.walrus_meaning.specs.walrus_local_function.walrus_body_locals.wasm_normal_form.Bodies.{local_in}
use Rattle.walrus_meaning.specs.walrus_local_function.walrus_body_locals.wasm_normal_form.Locals.{Key, in_order, numbered}
use Rattle.walrus_parse_gc_laws.proofs.SentLemmas.{FunctionShifted, KindShifted, LocalShifted, SlotsShifted, functions_moved}
use Rattle.walrus_parse_gc_laws.proofs.SeqLemmas.{SeqMoved}
use Rattle.walrus_parse_gc_laws.proofs.SentTextLemmas.{PieceMoved, operators_moved}
use Rattle.walrus_parse_gc_laws.proofs.ZipLemmas.{OptionZip, zip_at, zip_flat, zip_map}
use Rattle.walrus_parse_gc_laws.specs.Moved.{BodyMoved, ModuleMoved, OperatorMoved, OriginMoved, SlotMoved}
use Rattle.walrus_parse_gc_laws.specs.Sent.{IsAnswer, SentModulesMeanTheSame}

-- ---- operators are those of sequences of the same block types
module _ (b c : List InstrSeq) (same : (k : ℕ) → block_of (slice_get c k) ≡ block_of (slice_get b k)) where
  instr_stays : (depth : ℕ → ℕ) (i : Instr) → own_instr c depth i ≡ own_instr b depth i
  instr_stays depth (instrs.Block k) = ap (λ (t : BlockType). seen_of (byte 0x02) (Block t ∷ [])) (same k)
  instr_stays depth (instrs.Loop k) = ap (λ (t : BlockType). seen_of (byte 0x03) (Block t ∷ [])) (same k)
  instr_stays depth (instrs.IfElse k other) = ap (λ (t : BlockType). seen_of (byte 0x04) (Block t ∷ [])) (same k)
  instr_stays depth (instrs.Try k catches) = ap (λ (t : BlockType). seen_of (byte 0x06) (Block t ∷ [])) (same k)
  instr_stays depth (instrs.TryTable k catches) = ap (λ (t : BlockType). seen_of (byte 0x1f) (Block t ∷ ManyClauses (map (own_clause depth) catches.items) ∷ [])) (same k)
  instr_stays depth _ = refl

  seen_stays : (p : Piece) → own_seen c p ≡ own_seen b p
  seen_stays (Operator around i) = instr_stays (depth_of around) i
  seen_stays Else = refl
  seen_stays (Catch tag) = refl
  seen_stays CatchAll = refl
  seen_stays (Delegate outer) = refl
  seen_stays End = refl

module _ (P : ℕ → ℕ → Type 0) where
  abbrev pub Q : InstrLocId → InstrLocId → Type 0
  Q old new = P old.0 new.0

  block_stays : (o p : Option InstrSeq) → OptionZip (SeqMoved Q) o p → block_of p ≡ block_of o
  block_stays None None z = refl
  block_stays None (Some t) z = absurd z
  block_stays (Some s) None z = absurd z
  block_stays (Some s) (Some t) z = ap own_block z.ty

  module _ (x y : LocalFunction) (h : LocalShifted Q x y) where
    abbrev b : List InstrSeq
    b = seqs_of x.builder

    abbrev c : List InstrSeq
    c = seqs_of y.builder

    operator_moves : (p q : Piece × InstrLocId) → PieceMoved Q p q → OperatorMoved P (own_piece b p) (own_piece c q)
    operator_moves p q z = record {
      op = ap (own_seen c) z.0 ∙ seen_stays b c (λ k. block_stays (slice_get b k) (slice_get c k) (zip_at (SeqMoved Q) b c h.seqs k)) p.0;
      place = z.1;
    }

    operators_move : AllZip (OperatorMoved P) (own_operators x) (own_operators y)
    operators_move = zip_map (PieceMoved Q) (OperatorMoved P) (own_piece b) (own_piece c) operator_moves (operators b 0) (operators c 0) (operators_moved Q b c h.seqs 0)

    names_stay : named_locals (own_operators y) ≡ named_locals (own_operators x)
    names_stay =
        let named = λ (o : grammar.Placed). flat_map local_in o.op.items in
        zip_flat (OperatorMoved P) named named (λ o p z. ap (λ (op : _). flat_map local_in op.items) z.op) (own_operators x) (own_operators y) operators_move

    pub used_stay : (locals : List LocalItem) → used_locals locals y ≡ used_locals locals x
    used_stay locals =
        let used = λ (ns args : List ℕ). in_order (filter (λ (k : Key). has_number ns k.1 && not (has_number args k.1)) (numbered 0 (map (λ (l : LocalItem). l.ty) locals))) in
        λ i. used (names_stay i) (h.args i)

    pub body_moves : (locals : List LocalItem) → BodyMoved P (own_body locals x) (own_body locals y)
    body_moves locals = record { locals = ap (map (λ (k : Key). k.0)) (used_stay locals); operators = operators_move }

  origin_moves : (locals : List LocalItem) (kind after : FunctionKind) → KindShifted Q kind after → OriginMoved P (own_origin locals kind) (own_origin locals after)
  origin_moves locals (Local local) after (new, is, moved) = subst (λ (k : FunctionKind). OriginMoved P (own_origin locals (Local local)) (own_origin locals k)) (sym is) (body_moves local new moved locals)
  origin_moves locals (Import imported) after is = subst (λ (k : FunctionKind). OriginMoved P (own_origin locals (Import imported)) (own_origin locals k)) (sym is) refl
  origin_moves locals (Uninitialized ty) after is =
      subst (λ (k : FunctionKind). OriginMoved P (own_origin locals (Uninitialized ty)) (own_origin locals k)) (sym is) (record { locals = refl; operators = tt })

  pub type_stays : (kind after : FunctionKind) → KindShifted Q kind after → type_of after ≡ type_of kind
  type_stays (Local local) after (new, is, moved) = ap type_of is ∙ moved.ty
  type_stays (Import imported) after is = ap type_of is
  type_stays (Uninitialized ty) after is = ap type_of is

  slot_moves : (locals : List LocalItem) (o p : Option Function) → OptionZip (FunctionShifted Q) o p → SlotMoved P (option_map (own_function locals) o) (option_map (own_function locals) p)
  slot_moves locals None None z = tt
  slot_moves locals None (Some g) z = absurd z
  slot_moves locals (Some f) None z = absurd z
  slot_moves locals (Some f) (Some g) z = record { ty = type_stays f.kind g.kind z.kind; origin = origin_moves locals f.kind g.kind z.kind }

  pub meaning_moves : (m : Module) (functions : Arena Function) → SlotsShifted Q m.funcs.slots functions.slots → ModuleMoved P (means m) (means (record m { funcs = functions }))
  meaning_moves m functions moved = record {
    functions = zip_map (OptionZip (FunctionShifted Q)) (SlotMoved P) (option_map (own_function m.locals)) (option_map (own_function m.locals)) (slot_moves m.locals) m.funcs.slots functions.slots moved;
    rest = refl;
  }

pub sent_meaning : {F : Type 0} (step : F → ℕ → InstrLocId → F → Type 0) {B : Type 0} → SentModulesMeanTheSame step B
sent_meaning step f g m functions sent = meaning_moves (IsAnswer step) (parts m) functions (functions_moved step f g m.funcs functions sent)
