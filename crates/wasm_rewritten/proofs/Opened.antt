-- Lemmas: an operator of a file, and of its normal form, opens a block or has no block type.
use Rattle.std.specs.Prelude.{ℕ, suc, ◌≡◌, ◌⊎◌, Bool, true, false, List, [], ◌∷◌, ◌++◌, drop, fold, length, map, Option, Some, None}
use Rattle.std.specs.List.{AllByRecursion, filter_map}
use Rattle.std.proofs.Common.{subst, arith, inl, inr}
use Rattle.wasm_features.specs.declared.WasmFeatures.{WasmFeatures}
use Rattle.wasm_formats.specs.Bytes.{either_type}
use Rattle.wasm_formats.specs.Lists.{SpellsEntries}
use Rattle.wasm_operators.specs.declared.block_type.BlockType.{BlockType}
use Rattle.wasm_operators.specs.Items.{Item, Names, Number, S32, S64, Bits, Byte, Bytes, Heap, Block, Access, ManyLabels, ManyValues, ManyClauses}
use Rattle.wasm_operators.specs.Names.{Renaming, renamed_item, renamed_operator}
use Rattle.wasm_operators.specs.Operators.{Seen}
use Rattle.wasm_operators.specs.Spellings.{SpellsEither}
use Rattle.wasm_grammar.specs.Modules.{Origin, Imported, Own, Body, Function, Module}
use Rattle.wasm_grammar.specs.Modules as grammar
use Rattle.wasm_grammar.specs.States.{Chunk, State}
use Rattle.wasm_body_grammar.specs.Bodies.{Point, is_closed, next_point, operator, operator_in, opened, placed as placed_at, next_total}
use Rattle.wasm_body_grammar.specs.Codes.{ReadsCodes, coded, filled_with, own_type, param_count, with_bodies}
use Rattle.wasm_body_grammar.specs.Laws.{ReadsBody}
use Rattle.wasm_body_grammar.specs.Rules.{Around}
use Rattle.wasm_modules.specs.Modules.{Reads, around, chunks_of}
use Rattle.wasm_module_rules.specs.Linked.{Each}
use Rattle.wasm_ruled_modules.specs.Codes.{bodies_match}
use Rattle.wasm_normal_form.specs.Normal.{normal, normal_from, normal_ops, picked, with_pick}
use Rattle.wasm_normal_form.specs.Roles.{Placed, Passes, Runs, Opens, Turns, Ends, Role, cuts, is_if, role}
use Rattle.wasm_normal_form.specs.Trees.{Tree, Close, Arm, Skip, Run, Nest, flat, innermost, open_in, prepend, tree_of}
use Rattle.wasm_ruled_normal.specs.Normal.{IsPicked, OpensPicked, located, text_of}
use Rattle.wasm_run_names.specs.Picks.{block_pick}
use Rattle.wasm_ruled_renamed.specs.Renamed.{renamed_placed}
use Rattle.wasm_normal_modules.specs.Modules.{OriginPicked, each, normal_function, normal_origin}
use Rattle.wasm_part.specs.Kept.{BodyPicked}
use Rattle.wasm_part.specs.Open.{IsNoBlock, SpelledBlocksOpen}

-- it opens a block, or has no block type
abbrev pub Shows : Seen → Type 0
Shows op = (role op ≡ Opens) ⊎ AllByRecursion IsNoBlock op.items

abbrev pub BodyShows : Origin Body → Type 0
BodyShows (Imported n) = Unit {0}
BodyShows (Own x) = AllByRecursion (λ (o : grammar.Placed). Shows o.op) x.operators

-- ---- where it was read

module _ (open_so : SpelledBlocksOpen) (a : Around) where
  one_shows : (locals : ℕ) (p : Point) (bytes : List ℕ) (x : ℕ × Seen) → (operator_in a locals p).spells bytes x → Shows x.1
  one_shows locals p bytes x h = go (is_closed p.frames) h.0
    where
      go : (c : Bool) → either_type c ⊥ ((operator a.features).spells bytes x.1) → Shows x.1
      go true h = absurd h
      go false h = open_so a.features bytes x.1 (subst (λ (o : Option Seen). SpellsEither a.features bytes o) h.1 h.2)

  ops_show : (locals place : ℕ) (ops : List (ℕ × Seen)) (p : Point) (bytes : List ℕ) → SpellsEntries next_point (operator_in a locals) p bytes ops
      → AllByRecursion (λ (o : grammar.Placed). Shows o.op) (placed_at place ops)
  ops_show locals place [] p bytes h = tt
  ops_show locals place (x ∷ ops) p bytes h = (one_shows locals p h.0 x h.3, ops_show locals x.0 ops (next_point p x) h.1 h.4)

  body_shows : (params place : ℕ) (bytes : List ℕ) (x : Body) → ReadsBody a params place bytes x → BodyShows (Own x)
  body_shows params place bytes x h =
      let parts = h.0 in
      let spelled = h.1.0 in
      subst (λ (x : Body). BodyShows (Own x)) h.2 (ops_show (fold next_total params parts.0.1) parts.0.0 parts.1 (opened parts.0.0) spelled.1 spelled.4)

  abbrev AllShow : List (Option Function) → Type 0
  AllShow fs = Each (λ (f : Function). BodyShows f.origin) fs

  abbrev Later : Module → List (Option Function) → Type 0
  Later m fs = (chunks : List Chunk) (xs : List Body) → length chunks ≡ length (filter_map own_type fs) → ReadsCodes a (coded m (filter_map own_type fs) chunks) xs → AllShow (with_bodies fs xs)

  read_one : (m : Module) (ty : ℕ) (fs : List (Option Function)) → Later m fs → (body : Body) (chunks : List Chunk) (xs : List Body) → length chunks ≡ suc (length (filter_map own_type fs))
      → ReadsCodes a (coded m (ty ∷ filter_map own_type fs) chunks) xs → AllShow (filled_with (Some (record { ty = ty; origin = Own body })) xs ∷ with_bodies fs (drop 1 xs))
  read_one m ty fs later body [] xs n h = absurd (omega (arith, n))
  read_one m ty fs later body (c ∷ chunks) [] n h = absurd h
  read_one m ty fs later body (c ∷ chunks) (x ∷ xs) n h = (body_shows (param_count m ty) c.place c.bytes x h.0, later chunks xs (omega (arith, n)) h.1)

  one_more : (m : Module) (ty : ℕ) (o : Origin Body) (fs : List (Option Function)) → Later m fs → Later m (Some (record { ty = ty; origin = o }) ∷ fs)
  one_more m ty (Imported k) fs later chunks xs n h = (tt, later chunks xs n h)
  one_more m ty (Own body) fs later chunks xs n h = read_one m ty fs later body chunks xs n h

  bodies_show : (m : Module) (fs : List (Option Function)) → Later m fs
  bodies_show m [] chunks xs n h = tt
  bodies_show m (None ∷ fs) chunks xs n h = bodies_show m fs chunks xs n h
  bodies_show m (Some f ∷ fs) chunks xs n h = one_more m f.ty f.origin fs (bodies_show m fs) chunks xs n h

pub read_shows : SpelledBlocksOpen → (features : WasmFeatures) (bytes : List ℕ) (m : Module) → Reads features bytes m → Each (λ (f : Function). BodyShows f.origin) m.functions
read_shows open_so features bytes m h =
    let s = h.1.0 in
    let xs = h.1.1 in
    let reads = h.1.2 in
    let matched : length (chunks_of s.bodies) ≡ length (filter_map own_type s.filled.functions) = subst (λ (s : State). length (chunks_of s.bodies) ≡ length (filter_map own_type s.filled.functions)) reads.2 (bodies_match features bytes reads.0 reads.1.0 reads.1.1) in
    subst (λ (m : Module). Each (λ (f : Function). BodyShows f.origin) m.functions) h.1.4 (bodies_show open_so (around features s) s.filled s.filled.functions (chunks_of s.bodies) xs matched h.1.3)

-- ---- in normal form, renamed

module _ (pick : BlockType → BlockType) where
  plain_picked : (x : Item) → IsNoBlock x → IsNoBlock (with_pick pick x)
  plain_picked (Block ty) h = absurd h
  plain_picked (Names space n) h = tt
  plain_picked (Number n) h = tt
  plain_picked (S32 z) h = tt
  plain_picked (S64 z) h = tt
  plain_picked (Bits size n) h = tt
  plain_picked (Byte n) h = tt
  plain_picked (Bytes run) h = tt
  plain_picked (Heap ty) h = tt
  plain_picked (Access n) h = tt
  plain_picked (ManyLabels ns) h = tt
  plain_picked (ManyValues tys) h = tt
  plain_picked (ManyClauses cs) h = tt

  items_picked : (xs : List Item) → AllByRecursion IsNoBlock xs → AllByRecursion IsNoBlock (map (with_pick pick) xs)
  items_picked [] h = tt
  items_picked (x ∷ xs) h = (plain_picked x h.0, items_picked xs h.1)

  picked_shows : (op : Seen) → Shows op → Shows (picked pick op)
  picked_shows op (inl e) = inl e
  picked_shows op (inr h) = inr (items_picked op.items h)

  abbrev TreeShows : Tree → Type 0
  TreeShows (Close o p) = Shows o
  TreeShows (Arm o p t) = Shows o × TreeShows t
  TreeShows (Skip o p t) = Shows o × TreeShows t
  TreeShows (Run o p t) = Shows o × TreeShows t
  TreeShows (Nest o p u t) = Shows o × TreeShows u × TreeShows t

  prepend_shows : (r : Role) (o : Seen) (p : Option ℕ) (ts : List Tree) → Shows o → AllByRecursion TreeShows ts → AllByRecursion TreeShows (prepend r o p ts)
  prepend_shows Passes o p [] h k = tt
  prepend_shows Passes o p (t ∷ ts) h k = ((h, k.0), k.1)
  prepend_shows Runs o p [] h k = tt
  prepend_shows Runs o p (t ∷ ts) h k = ((h, k.0), k.1)
  prepend_shows Turns o p [] h k = tt
  prepend_shows Turns o p (t ∷ ts) h k = ((h, k.0), k.1)
  prepend_shows Opens o p [] h k = tt
  prepend_shows Opens o p (u ∷ []) h k = tt
  prepend_shows Opens o p (u ∷ (t ∷ ts)) h k = ((h, k.0, k.1.0), k.1.1)
  prepend_shows Ends o p ts h k = (h, k)

  open_shows : (ops : List Placed) → AllByRecursion (λ (o : Placed). Shows o.op) ops → AllByRecursion TreeShows (open_in ops)
  open_shows [] h = tt
  open_shows (o ∷ ops) h = prepend_shows (role o.op) o.op o.place (open_in ops) h.0 (open_shows ops h.1)

  inner_shows : (ts : List Tree) → AllByRecursion TreeShows ts → TreeShows (innermost ts)
  inner_shows [] h = inr tt
  inner_shows (t ∷ ts) h = h.0

  normal_shows : (t : Tree) (bare dropped : Bool) → TreeShows t → TreeShows (normal_from pick t bare dropped)
  normal_shows (Close o p) true dropped h = (inr tt, inr tt)
  normal_shows (Close o p) false dropped h = h
  normal_shows (Arm o p t) bare dropped h = (h.0, normal_shows t false false h.1)
  normal_shows (Skip o p t) bare dropped h = normal_shows t bare dropped h.1
  normal_shows (Run o p t) bare true h = normal_shows t bare true h.1
  normal_shows (Run o p t) bare false h = (h.0, normal_shows t bare (cuts o) h.1)
  normal_shows (Nest o p u t) bare true h = normal_shows t bare true h.2
  normal_shows (Nest o p u t) bare false h = (picked_shows o h.0, normal_shows u (is_if o) false h.1, normal_shows t bare false h.2)

  all_join : (xs ys : List Placed) → AllByRecursion (λ (o : Placed). Shows o.op) xs → AllByRecursion (λ (o : Placed). Shows o.op) ys → AllByRecursion (λ (o : Placed). Shows o.op) (xs ++ ys)
  all_join [] ys h k = k
  all_join (x ∷ xs) ys h k = (h.0, all_join xs ys h.1 k)

  flat_shows : (t : Tree) → TreeShows t → AllByRecursion (λ (o : Placed). Shows o.op) (flat t)
  flat_shows (Close o p) h = (h, tt)
  flat_shows (Arm o p t) h = (h.0, flat_shows t h.1)
  flat_shows (Skip o p t) h = (h.0, flat_shows t h.1)
  flat_shows (Run o p t) h = (h.0, flat_shows t h.1)
  flat_shows (Nest o p u t) h = (h.0, all_join (flat u) (flat t) (flat_shows u h.1) (flat_shows t h.2))

  text_shows : (ops : List grammar.Placed) → AllByRecursion (λ (o : grammar.Placed). Shows o.op) ops → AllByRecursion (λ (o : Placed). Shows o.op) (text_of ops)
  text_shows [] h = tt
  text_shows (o ∷ ops) h = (h.0, text_shows ops h.1)

  ops_normal : (ops : List grammar.Placed) → AllByRecursion (λ (o : grammar.Placed). Shows o.op) ops → AllByRecursion (λ (o : Placed). Shows o.op) (normal_ops pick (text_of ops))
  ops_normal ops h =
      let text = text_shows ops h in
      let tree = inner_shows (open_in (text_of ops)) (open_shows (text_of ops) text) in
      flat_shows (normal pick (tree_of (text_of ops))) (normal_shows (tree_of (text_of ops)) false false tree)

module _ (r : Renaming) where
  plain_renamed : (x : Item) → IsNoBlock x → IsNoBlock (renamed_item r x)
  plain_renamed (Block ty) h = absurd h
  plain_renamed (Names space n) h = tt
  plain_renamed (Number n) h = tt
  plain_renamed (S32 z) h = tt
  plain_renamed (S64 z) h = tt
  plain_renamed (Bits size n) h = tt
  plain_renamed (Byte n) h = tt
  plain_renamed (Bytes run) h = tt
  plain_renamed (Heap ty) h = tt
  plain_renamed (Access n) h = tt
  plain_renamed (ManyLabels ns) h = tt
  plain_renamed (ManyValues tys) h = tt
  plain_renamed (ManyClauses cs) h = tt

  items_renamed : (xs : List Item) → AllByRecursion IsNoBlock xs → AllByRecursion IsNoBlock (map (renamed_item r) xs)
  items_renamed [] h = tt
  items_renamed (x ∷ xs) h = (plain_renamed x h.0, items_renamed xs h.1)

  renamed_shows : (op : Seen) → Shows op → Shows (renamed_operator r op)
  renamed_shows op (inl e) = inl e
  renamed_shows op (inr h) = inr (items_renamed op.items h)

  ops_renamed : (place : Option ℕ → ℕ) (ops : List Placed) → AllByRecursion (λ (o : Placed). Shows o.op) ops → AllByRecursion (λ (o : grammar.Placed). Shows o.op) (map (renamed_placed r) (map (located place) ops))
  ops_renamed place [] h = tt
  ops_renamed place (o ∷ ops) h = (renamed_shows o.op h.0, ops_renamed place ops h.1)

-- ---- its block types are picked

module _ (b : Around) where
  plain_item : (x : Item) → IsNoBlock x → IsPicked b x
  plain_item (Block ty) h = absurd h
  plain_item (Names space n) h = tt
  plain_item (Number n) h = tt
  plain_item (S32 z) h = tt
  plain_item (S64 z) h = tt
  plain_item (Bits size n) h = tt
  plain_item (Byte n) h = tt
  plain_item (Bytes run) h = tt
  plain_item (Heap ty) h = tt
  plain_item (Access n) h = tt
  plain_item (ManyLabels ns) h = tt
  plain_item (ManyValues tys) h = tt
  plain_item (ManyClauses cs) h = tt

  plain_items : (xs : List Item) → AllByRecursion IsNoBlock xs → AllByRecursion (IsPicked b) xs
  plain_items [] h = tt
  plain_items (x ∷ xs) h = (plain_item x h.0, plain_items xs h.1)

  one_picked : (op : Seen) → Shows op → (role op ≡ Opens → AllByRecursion (IsPicked b) op.items) → AllByRecursion (IsPicked b) op.items
  one_picked op (inl e) h = h e
  one_picked op (inr k) h = plain_items op.items k

  ops_picked : (ops : List grammar.Placed) → AllByRecursion (λ (o : grammar.Placed). Shows o.op) ops → AllByRecursion (OpensPicked b) ops → AllByRecursion (λ (o : grammar.Placed). AllByRecursion (IsPicked b) o.op.items) ops
  ops_picked [] h k = tt
  ops_picked (o ∷ ops) h k = (one_picked o.op h.0 k.0, ops_picked ops h.1 k.1)

module _ (place : Option ℕ → ℕ) (a b : Around) (r : ℕ → ℕ) where
  origin_picked : (params : ℕ) (o : Origin Body) → BodyShows o → OriginPicked b (normal_origin place a r params o) → BodyPicked b (normal_origin place a r params o)
  origin_picked params (Imported n) h k = tt
  origin_picked params (Own x) h k = ops_picked b _ (ops_renamed _ place (normal_ops (block_pick a) (text_of x.operators)) (ops_normal (block_pick a) x.operators h)) k

  pub functions_picked : (fs : List (Option Function)) → Each (λ (f : Function). BodyShows f.origin) fs → Each (λ (f : Function). OriginPicked b f.origin) (each (normal_function place a r) fs)
      → Each (λ (f : Function). BodyPicked b f.origin) (each (normal_function place a r) fs)
  functions_picked [] h k = tt
  functions_picked (None ∷ fs) h k = functions_picked fs h k
  functions_picked (Some f ∷ fs) h k = (origin_picked (param_count a.filled f.ty) f.origin h.0 k.0, functions_picked fs h.1 k.1)
