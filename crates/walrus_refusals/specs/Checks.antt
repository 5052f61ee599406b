-- Checks of the items that were met.
use Rattle.std.specs.Prelude.{◌≡◌, ◌⊎◌, ◌↔◌, ℕ, ◌<◌, false, List, length, Option, Some, None, MatchOption, IsTrue}
use Rattle.wasm_formats.specs.declared.fault.Form.{Form}
use Rattle.wasm_formats.specs.declared.fault.Form.TheVariants as forms
use Rattle.wasm_formats.specs.declared.fault.Space.{Space}
use Rattle.wasm_formats.specs.declared.fault.Space.TheVariants as spaces
use Rattle.walrus_arena.specs.Arena.{item_at, next_id}
use Rattle.walrus_used.specs.walrus_module.walrus_module_items.declared.import.Import.{Import}
use Rattle.walrus_used.specs.walrus_module.Parts.{Module}
use Rattle.walrus_used.specs.walrus_module.Linking.{import_in}
use Rattle.walrus_roots.specs.declared.item.Item.{Item}
use Rattle.walrus_roots.specs.Items.{item, space_number}
use Rattle.walrus_marks.specs.Marks.{State, is_claimed, is_marked, misses_claimed}
use Rattle.walrus_marks.specs.Chains.{FitsIn}
use Rattle.walrus_used.specs.Counts.{counts_of}
use Rattle.walrus_used.specs.Asked.{AllHold}
use Rattle.walrus_used.specs.walrus_module.Items.{brought}
use Rattle.walrus_used.specs.walrus_references.Refused.{FormsTree}
use Rattle.walrus_refusals.specs.Asked.{IsOwnLinked}
use Rattle.walrus_refusals.specs.Sound.{Stands}
use Rattle.walrus_refusals.specs.Written.{HasNoExact, IsUnshared}

-- the item was met
abbrev pub IsMet : State → Item → Type 0
IsMet marks x = IsTrue (is_marked marks.met.marks x)

-- that is so of what was met in the space with an id below the count
abbrev pub HoldsIn : (Item → Type 0) → State → Space → ℕ → Type 0
HoldsIn holds marks space count = (id : ℕ) → id < count → IsMet marks (item space id) → holds (item space id)

-- that is so of all that was met but locals
abbrev pub HoldsMet : (Item → Type 0) → State → Type 0
HoldsMet holds marks = (x : Item) → space_number x.space < 8 → IsMet marks x → holds x

-- it is, or not in the space that is answered
abbrev pub HoldsOrFails : (Item → Type 0) → State → Option Space → Type 0
HoldsOrFails holds marks answer =
    MatchOption answer (HoldsMet holds marks) (λ space. (space_number space < 8) × (((x : Item) → x.space ≡ space → IsMet marks x → holds x) → ⊥))

-- it isn't so of what was met in the space, or an item of the space was met that has no flag
abbrev pub FailsIn : (Item → Type 0) → State → Space → Type 0
FailsIn holds marks space = (((x : Item) → x.space ≡ space → IsMet marks x → holds x) → ⊥) ⊎ ((i : Item) × (marks.missing.item ≡ Some i) × (i.space ≡ space))

-- no heap type in what was met, locals among it, is exact
abbrev pub AreInexact : Module → State → Type 0
AreInexact m marks = HoldsMet (HasNoExact m) marks × ((id : ℕ) → IsMet marks (item spaces.Local id) → HasNoExact m (item spaces.Local id))

-- nothing is wrong with the item, of all that an item says of itself
abbrev pub IsWell : Module → Item → Type 0
IsWell m x = (IsOwnLinked m x × FormsTree m x) × (Stands m x × (IsUnshared m x × HasNoExact m x))

-- something that was met has the form
abbrev pub HasMetForm : Module → State → Form → Type 0
HasMetForm m marks forms.SharedGlobal = HoldsMet (IsUnshared m) marks → ⊥
HasMetForm m marks forms.ExactType = AreInexact m marks → ⊥
HasMetForm m marks _ = ⊥

-- the item that the import brings names it back, where it was met
abbrev pub ClaimsTruly : Module → State → ℕ → Import → Type 0
ClaimsTruly m marks i import = IsMet marks (brought import.kind) → import_in m (brought import.kind).space (brought import.kind).id ≡ Some i

-- all imports do
abbrev pub AllClaimTruly : Module → State → Type 0
AllClaimTruly m marks = (i : ℕ) (import : Import) → item_at m.imports i ≡ Some import → ClaimsTruly m marks i import

-- an import below n brings the item
abbrev pub IsBroughtBelow : Module → ℕ → Item → Type 0
IsBroughtBelow m n x = (i : ℕ) × (i < n) × MatchOption (item_at m.imports i) ⊥ (λ import. brought import.kind ≡ x)

-- the ids were not given out, and imports below n bring them
abbrev pub ArePast : Module → ℕ → List (List ℕ) → Type 0
ArePast m n claimed = (x : Item) → IsTrue (is_claimed claimed x) ↔ ((FitsIn (counts_of m) x → ⊥) × IsBroughtBelow m n x)

-- the item and those before are claimed; the item only where there are fewer ids
pub record IsAddedPast (counts : List ℕ) (old : List (List ℕ)) (i : Item) (new : List (List ℕ)) : Type 0 where
  pub sized : length new ≡ length old
  pub are : (x : Item) → IsTrue (is_claimed new x) ↔ (((x ≡ i) × (FitsIn counts x → ⊥)) ⊎ IsTrue (is_claimed old x))

-- just these are brought by imports, and were not given out
abbrev pub AreClaims : Module → List (List ℕ) → Type 0
AreClaims m claimed = ArePast m (next_id m.imports) claimed

-- what was met and imports name each other, and functions have bodies
abbrev pub AreLinked : Module → State → Type 0
AreLinked m marks = HoldsMet (IsOwnLinked m) marks × AllClaimTruly m marks × (misses_claimed marks.missing ≡ false)

-- nothing is wrong with what was met
pub record AreWell (m : Module) (marks : State) : Type 0 where
  pub flagged : marks.missing.item ≡ None
  pub items : AllHold (IsWell m) marks
  pub claims : AllClaimTruly m marks
