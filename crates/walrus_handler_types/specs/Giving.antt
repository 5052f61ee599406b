-- The types that handlers are given by a table of types, which has those that it lacked added.
use Rattle.std.specs.Prelude.{◌≡◌, ℕ, List, [], ◌∷◌, map, Option, Some, None, MatchOption, slice_get}
use Rattle.walrus_function_types.specs.FunctionTypes.{params_at, results_at}
use Rattle.walrus_function_types.specs.Growth.{Grows}
use Rattle.walrus_handlers.specs.walrus_body_steps.walrus_body_rules.Sights.{Sight, value_list}
use Rattle.walrus_handlers.specs.walrus_tree.Trees.{IsTree}
use Rattle.walrus_handlers.specs.walrus_tree.walrus_builder.Built.{Seq, edited, seq_of}
use Rattle.walrus_handlers.specs.walrus_tree.walrus_walks.walrus_forms.declared.value.ValType.{ValType}
use Rattle.walrus_handlers.specs.walrus_tree.walrus_walks.walrus_instr.BlockTypes.{Makes, picked}
use Rattle.walrus_handlers.specs.walrus_tree.walrus_walks.walrus_instr.declared.seq.InstrSeq.{InstrSeq}
use Rattle.walrus_handlers.specs.walrus_tree.walrus_walks.walrus_instr.declared.seq.InstrSeqType.{InstrSeqType}
use Rattle.walrus_handlers.specs.walrus_tree.walrus_walks.walrus_instr.declared.seq.InstrSeqType.TheVariants.{Simple, MultiValue}
use Rattle.walrus_handlers.specs.walrus_tree.walrus_walks.walrus_types.Table.{Table}
use Rattle.walrus_handlers.specs.walrus_handler_laws.declared.handler.Handler.{Handler}
use Rattle.walrus_handlers.specs.Gathering.{AreHandlers, listed}
use Rattle.walrus_handlers.specs.walrus_handler_laws.Handlers.{told_by, tree_ids}
use Rattle.walrus_handlers.specs.walrus_handler_laws.Retyping.{AreTyped, with_type}

-- the parameters of a handler of a tag of this type, or of all tags
abbrev pub caught : Table → Option ℕ → Option (List ValType)
caught t (Some tag) = params_at t tag
caught t None = Some []

-- the results of a block of this type
abbrev pub block_results : Table → InstrSeqType → Option (List ValType)
block_results t (Simple ty) = Some (value_list ty)
block_results t (MultiValue id) = results_at t id

-- the block type of these parameters and results that is there, or else one that is added
abbrev pub Finds : List ValType → List ValType → Table → InstrSeqType → Table → Type 0
Finds params results old ty new = MatchOption (picked params results old) (Makes params results ty old new) (λ found. (ty ≡ found) × (new ≡ old))

-- where there are no such lists, the type that was
abbrev pub FindsIf : Option (List ValType) → Option (List ValType) → InstrSeqType → Table → InstrSeqType → Table → Type 0
FindsIf (Some params) (Some results) was old ty new = Finds params results old ty new
FindsIf _ _ was old ty new = (ty ≡ was) × (new ≡ old)

-- the type of a handler's sequence that had this type
abbrev pub GivesType : Handler → InstrSeqType → Table → InstrSeqType → Table → Type 0
GivesType h was old ty new = FindsIf (caught old h.tag_type) (block_results old h.block) was old ty new

-- a sequence that is a handler has the type that it is given, all else of the sequences is as it was
abbrev pub GivesAt : ℕ → Option Handler → List Seq → Table → List Seq → Table → Type 0
GivesAt k None b old c new = (c ≡ b) × (new ≡ old)
GivesAt k (Some h) b old c new = (x : Seq) × (slice_get b k ≡ Some x) × (ty : InstrSeqType) × GivesType h x.ty old ty new × (c ≡ edited (with_type ty) b k)

-- these sequences have the types that they are given, one behind the other, each as the handler that it is told as, if it is one
abbrev pub Gives : (ℕ → Option Handler) → List ℕ → List Seq → Table → List Seq → Table → Type 0
Gives told [] b old c new = (c ≡ b) × (new ≡ old)
Gives told (k ∷ ks) b old c new = (mid : List Seq) × (t : Table) × GivesAt k (told k) b old mid t × Gives told ks mid t c new

-- the sequences of a tree, in the order of the text, each as the handler that it is, if it is one
abbrev pub tree_handlers : (ℕ → Option ℕ) → (b : List InstrSeq) → IsTree b 0 → List (Option Handler)
tree_handlers tags b t = map (told_by tags b (tree_ids t)) (tree_ids t)

-- in that order each has the type that it is given
abbrev pub GivesTree : (ℕ → Option ℕ) → (b : List InstrSeq) → IsTree b 0 → Table → List Seq → Table → Type 0
GivesTree tags b t old c new = Gives (told_by tags b (tree_ids t)) (tree_ids t) (map seq_of b) old c new

-- ---- what is told by later tables

-- of function types a sight has the parameters and results of a table
pub record SeesLists (s : Sight) (t : Table) : Type 0 where
  pub params : (id : ℕ) → s.params id ≡ params_at t id
  pub results : (id : ℕ) → s.results id ≡ results_at t id

-- a handler's type is the block type that is there
abbrev pub PicksHandlers : Sight → Table → Type 0
PicksHandlers u t = (params results : List ValType) → u.handler_type params results ≡ picked params results t

-- who saw the old table and sees a later one has the types that the handlers of a tree were given
abbrev pub TreesAreTyped : Type 0
TreesAreTyped = (tags : ℕ → Option ℕ) (b : List InstrSeq) (t : IsTree b 0) (c : List Seq) (old new later : Table) (s u : Sight) → GivesTree tags b t old c new → Grows new later
    → SeesLists s old → PicksHandlers u later → AreTyped s u (told_by tags b (tree_ids t)) (map seq_of b) c

-- a table grows by the types that sequences are given
abbrev pub GivenTypesGrow : Type 0
GivenTypesGrow = (told : ℕ → Option Handler) (ks : List ℕ) (b c : List Seq) (old new : Table) → Gives told ks b old c new → Grows old new

-- what is given by a list of handlers by sequence is given as the tree tells them
abbrev pub ListsGive : Type 0
ListsGive = (tags : ℕ → Option ℕ) (b : List InstrSeq) (t : IsTree b 0) (hs : List (Option Handler)) (old new : Table) (c : List Seq) → AreHandlers tags b (tree_ids t) hs
    → Gives (listed hs) (tree_ids t) (map seq_of b) old c new → GivesTree tags b t old c new
