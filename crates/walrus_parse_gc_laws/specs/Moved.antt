-- Modules that are the same, but for the places of the operators of their bodies.
use Rattle.std.specs.Prelude.{ℕ, ◌≡◌, Option, Some, None}
use Rattle.std.specs.List.{AllZip}
use Rattle.walrus_meaning.specs.walrus_local_function.walrus_body_locals.wasm_grammar.Modules.{Body, Function, Imported, Module, Origin, Own, Placed}

-- P says which places an old place may have become
module _ (P : ℕ → ℕ → Type 0) where
  -- the same operator, at a place that the old one may have become
  pub record OperatorMoved (old new : Placed) : Type 0 where
    pub op : new.op ≡ old.op
    pub place : P old.place new.place

  -- the same locals; each operator so, in the same order
  pub record BodyMoved (old new : Body) : Type 0 where
    pub locals : new.locals ≡ old.locals
    pub operators : AllZip OperatorMoved old.operators new.operators

  abbrev pub OriginMoved : Origin Body → Origin Body → Type 0
  OriginMoved (Imported n) (Imported k) = k ≡ n
  OriginMoved (Imported n) (Own y) = ⊥
  OriginMoved (Own x) (Imported k) = ⊥
  OriginMoved (Own x) (Own y) = BodyMoved x y

  pub record FunctionMoved (old new : Function) : Type 0 where
    pub ty : new.ty ≡ old.ty
    pub origin : OriginMoved old.origin new.origin

  abbrev pub SlotMoved : Option Function → Option Function → Type 0
  SlotMoved (Some f) (Some g) = FunctionMoved f g
  SlotMoved (Some f) None = ⊥
  SlotMoved None (Some g) = ⊥
  SlotMoved None None = Unit {0}

  -- each function has its body so; all else is the same
  pub record ModuleMoved (old new : Module) : Type 0 where
    pub functions : AllZip SlotMoved old.functions new.functions
    pub rest : new ≡ record old { functions = new.functions }
