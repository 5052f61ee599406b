-- The abstract module (Core Specification, structure: modules).
use Rattle.std.specs.Prelude.{ℕ, Bool, List, [], Option, None}
use Rattle.wasm_formats.specs.declared.fault.Space.{Space}
use Rattle.walrus_forms.specs.declared.value.RefType.{RefType}
use Rattle.walrus_forms.specs.declared.value.ValType.{ValType}
use Rattle.walrus_forms.specs.Records.{TypeGroup}
use Rattle.wasm_operators.specs.Operators.{Seen}

-- an item: its space, and its number there
pub record Item : Type 0 where
  pub space : Space
  pub number : ℕ

-- a constant expression: its operators, without the last `end`
abbrev pub Expr : Type 0
Expr = List Seen

-- what an item comes from: the import of this number, or the module's own
pub data Origin (A : Type 0) : Type 0 where
  Imported : ℕ → Origin A
  Own : A → Origin A

-- an operator and its place, which counts from the function count of the code section
pub record Placed : Type 0 where
  pub place : ℕ
  pub op : Seen

-- the types of the locals that are declared, one each, and the operators through the last `end`
pub record Body : Type 0 where
  pub locals : List ValType
  pub operators : List Placed

pub record Function : Type 0 where
  pub ty : ℕ
  pub origin : Origin Body

-- wide: its addresses have 64 bits
pub record Table : Type 0 where
  pub wide : Bool
  pub initial : ℕ
  pub maximum : Option ℕ
  pub element : RefType
  pub init : Option Expr
  pub imported : Option ℕ

pub record Memory : Type 0 where
  pub shared : Bool
  pub wide : Bool
  pub initial : ℕ
  pub maximum : Option ℕ
  pub page_size_log2 : Option ℕ
  pub imported : Option ℕ

pub record Global : Type 0 where
  pub ty : ValType
  pub mutable : Bool
  pub origin : Origin Expr

pub record Tag : Type 0 where
  pub ty : ℕ
  pub imported : Option ℕ

-- when a segment is copied: never by itself, never at all, or at instantiation, to this table or memory at this offset
pub data Mode : Type 0 where
  Passive : Mode
  Declared : Mode
  Active : (into : ℕ) (offset : Expr) → Mode

pub data Elements : Type 0 where
  Functions : List ℕ → Elements
  Expressions : RefType → List Expr → Elements

pub record Element : Type 0 where
  pub mode : Mode
  pub items : Elements

pub record Segment : Type 0 where
  pub mode : Mode
  pub bytes : List ℕ

-- names are their bytes in UTF-8
pub record Import : Type 0 where
  pub space_name : List ℕ
  pub name : List ℕ
  pub item : Item

pub record Export : Type 0 where
  pub name : List ℕ
  pub item : Item

pub record Custom : Type 0 where
  pub name : List ℕ
  pub bytes : List ℕ

-- each space is a list of slots: where a module is read each slot is filled, so that an item's number is its place; where
-- items were deleted their slots are empty. In each space the imported ones of a module that is read come first.
pub record Module : Type 0 where
  pub groups : List TypeGroup
  pub imports : List (Option Import)
  pub functions : List (Option Function)
  pub tables : List (Option Table)
  pub memories : List (Option Memory)
  pub tags : List (Option Tag)
  pub globals : List (Option Global)
  pub exports : List (Option Export)
  pub start : Option ℕ
  pub elements : List (Option Element)
  pub segments : List (Option Segment)
  pub customs : List (Option Custom)

-- nothing at all
abbrev pub empty : Module
empty = record {
  groups = [];
  imports = [];
  functions = [];
  tables = [];
  memories = [];
  tags = [];
  globals = [];
  exports = [];
  start = None;
  elements = [];
  segments = [];
  customs = [];
}
