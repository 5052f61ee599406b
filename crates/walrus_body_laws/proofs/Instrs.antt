-- Lemmas: what an instruction that was read names, and which sequences it holds.
use Rattle.std.proofs.Common.{ℕ, ◌≡◌, Bool, true, false, List, [], ◌∷◌, map, Option, Some, None, Ok, refl, sym, ap, subst, ◌∙◌, inl, inr}
use Rattle.std.specs.Prelude.{◌==◌, ◌/◌, ◌%◌, IfSome, reverse, if◌then◌else◌}
use Rattle.std.specs.List.{AllByRecursion}
use Rattle.std.specs.Option.{unwrap_or}
use Rattle.std.proofs.lemmas.List.Elements.{All-from_recursion, recursion_from_All}
use Rattle.std.proofs.lemmas.List.Sorted.{All-permutation, IsPermutation-reverse}
use Rattle.wasm_operators.specs.wasm_features.declared.WasmFeatures.{WasmFeatures}
use Rattle.walrus_handler_laws.specs.walrus_body_steps.wasm_body_grammar.wasm_formats.declared.fault.Space.TheVariants as spaces
use Rattle.walrus_pairing.specs.wasm_operators.declared.clause.Clause.{Clause}
use Rattle.walrus_pairing.specs.wasm_operators.declared.clause.Clause.TheVariants as handlers
use Rattle.walrus_pairing.specs.wasm_operators.Items.{Labels, Tags, Item as Word, Names, Byte, Heap, ManyLabels}
use Rattle.wasm_operators.specs.declared.op_code.OpCode.{OpCode}
use Rattle.wasm_operators.specs.Operators.{Seen}
use Rattle.wasm_operators.specs.Names.{Name, Renaming, operator_names, renamed_operator}
use Rattle.wasm_operators.specs.NameLaws.{NamesAreRenamed, renamed_name}
use Rattle.wasm_operators.specs.Ranges.{OperatorFits}
use Rattle.walrus_handler_laws.specs.walrus_body_steps.wasm_body_grammar.Rules.{space_of}
use Rattle.walrus_walks.specs.walrus_forms.declared.value.HeapType.{HeapType}
use Rattle.walrus_marks.specs.walrus_instr.declared.instr.Instr.{Instr}
use Rattle.walrus_marks.specs.walrus_instr.declared.instr.Instr.TheVariants as instrs
use Rattle.walrus_marks.specs.walrus_instr.declared.instr.LegacyCatch.{LegacyCatch}
use Rattle.walrus_marks.specs.walrus_instr.declared.instr.LegacyCatch.TheVariants as legacy
use Rattle.walrus_marks.specs.walrus_instr.declared.instr.TryTableCatch.{TryTableCatch}
use Rattle.walrus_marks.specs.walrus_instr.declared.seq.InstrSeqType.{InstrSeqType}
use Rattle.walrus_walks.specs.Tree.{children, handlers as handlers_of}
use Rattle.walrus_walks.specs.Events.{Event, StartOf, EndOf, Visits, NamesSeq, NamesLocal, NamesMemory, NamesTable, NamesGlobal, NamesFunction, NamesData, NamesType, NamesElement, NamesTag, Holds, block_names, clause_names, events_of, legacy_names, names, ref_names}
use Rattle.walrus_handler_laws.specs.walrus_tree.walrus_builder.Built.{Seq}
use Rattle.walrus_handler_laws.specs.walrus_tree.Trees.{Has}
use Rattle.walrus_roots.specs.declared.item.Item.{Item}
use Rattle.walrus_roots.specs.Items.{item}
use Rattle.walrus_pairing.specs.Read.{at, instr_at}
use Rattle.walrus_pairing.specs.Write.{operator_at}
use Rattle.walrus_body_trees.specs.walrus_meaning.Told.{NamesAreTold, is_reversed, told_all}
use Rattle.walrus_pairing.specs.Laws.{OperatorComesBack, Renames, all}
use Rattle.walrus_pairing.proofs.Forth.{bytes_found, objects_found}
use Rattle.walrus_handler_laws.specs.walrus_body_steps.walrus_body_nesting.declared.frames.Opener.{Opener}
use Rattle.walrus_handler_laws.specs.walrus_body_steps.walrus_body_nesting.declared.frames.Opener.TheVariants as openers
use Rattle.walrus_handler_laws.specs.walrus_body_steps.walrus_body_nesting.Opens.{Makes, type_at}
use Rattle.walrus_handler_laws.specs.walrus_body_steps.walrus_body_nesting.Stands.{Turn, Otherwise, Handles, Part, Block, EndsOnce, part, parts_of}
use Rattle.walrus_handler_laws.specs.walrus_body_steps.walrus_body_rules.Sights.{Sight, look}
use Rattle.walrus_handler_laws.specs.walrus_body_steps.Meanings.{AreClauses, IsClause, IsOpener, RunsAs, branch_at, cast_at}
use Rattle.walrus_body_laws.specs.Answers.{AnswersAre}
use Rattle.walrus_body_laws.specs.WalkingLaws.{try_type}
use Rattle.walrus_body_laws.proofs.Told.{Told, told_each, told_join}
use Rattle.walrus_body_laws.proofs.Types.{heap_told, ok_is, reference, some_is}

-- ---- what is shown of an instruction

-- what it names is good; the sequences that it holds are these; and what the type of a `try` names is good
pub record Fine (Good : Item → Type 0) (b : List Seq) (S : ℕ → Type 0) (i : Instr) : Type 0 where
  pub named : Told Good (names i)
  pub held : (k : ℕ) → Has (children i) k → S k
  pub tried : IfSome (try_type b i) (λ ty. Told Good (block_names ty))

-- the sequences of further parts of a block are these, and the tags that are handled are good
abbrev pub TurnGood : (Item → Type 0) → Turn → Type 0
TurnGood Good (Handles tag) = Good (item spaces.Tag tag)
TurnGood Good _ = Unit {0}

abbrev pub Parts : (Item → Type 0) → (ℕ → Type 0) → List Part → Type 0
Parts Good S ms = AllByRecursion (λ m. S m.seq × TurnGood Good m.turn) ms

-- ---- plain instructions

all_reversed : {A : Type 0} (P : A → Type 0) (c : Bool) (xs : List A) → AllByRecursion P xs → AllByRecursion P (if c then reverse xs else xs)
all_reversed P true xs h = recursion_from_All P (reverse xs) (All-permutation P xs (reverse xs) (IsPermutation-reverse xs) (All-from_recursion P xs h))
all_reversed P false xs h = h

cons_head : {A : Type 0} (x y : A) (xs ys : List A) → x ∷ xs ≡ y ∷ ys → x ≡ y
cons_head x y xs ys e = cc

cons_tail : {A : Type 0} (x y : A) (xs ys : List A) → x ∷ xs ≡ y ∷ ys → xs ≡ ys
cons_tail x y xs ys e = cc

-- a number of a space as the id that it names, or else as this one
abbrev named_or : ℕ → Sight → Renaming
named_or other s space n = unwrap_or (look s space n) other

named_renames : (other : ℕ) (s : Sight) → Renames (named_or other s) (look s) all
named_renames other s space n id e = ap (λ (o : Option ℕ). Some (unwrap_or o other)) (sym e)

plain_holds_none : (b : List Seq) (i : Instr) (x : Seen) → operator_at all i ≡ Ok (Some x) → (children i ≡ []) × (try_type b i ≡ None)
unfolding operator_at
plain_holds_none b (instrs.Block k) x e = absurd cc
plain_holds_none b (instrs.Loop k) x e = absurd cc
plain_holds_none b (instrs.IfElse k j) x e = absurd cc
plain_holds_none b (instrs.Try k cs) x e = absurd cc
plain_holds_none b (instrs.TryTable k cs) x e = absurd cc
plain_holds_none b _ x e = (refl, refl)

module _ (s : Sight) (Good : Item → Type 0) (answers : AnswersAre s Good) where
  abbrev GoodName : Name → Type 0
  GoodName n = Good (item (space_of n.0) n.1)

  -- names that are renamed alike, whatever what isn't found is renamed to, are found
  one_found : (n : Name) → named_or 0 s n.0 n.1 ≡ named_or 1 s n.0 n.1 → GoodName (renamed_name (named_or 0 s) n)
  one_found n e = go (look s n.0 n.1) refl e
    where
      go : (o : Option ℕ) → look s n.0 n.1 ≡ o → unwrap_or o 0 ≡ unwrap_or o 1 → Good (item (space_of n.0) (unwrap_or o 0))
      go (Some id) is e = answers.looked n.0 n.1 id is
      go None is e = absurd cc

  all_found : (ns : List Name) → map (renamed_name (named_or 0 s)) ns ≡ map (renamed_name (named_or 1 s)) ns → AllByRecursion GoodName (map (renamed_name (named_or 0 s)) ns)
  all_found [] e = tt
  all_found (n ∷ ns) e = (
    one_found n (ap (λ (m : Name). m.1) (cons_head (renamed_name (named_or 0 s) n) (renamed_name (named_or 1 s) n) (map (renamed_name (named_or 0 s)) ns) (map (renamed_name (named_or 1 s)) ns) e)),
    all_found ns (cons_tail (renamed_name (named_or 0 s) n) (renamed_name (named_or 1 s) n) (map (renamed_name (named_or 0 s)) ns) (map (renamed_name (named_or 1 s)) ns) e),
  )

  -- what a visitor is told
  events_good : (es : List Event) → AllByRecursion GoodName (told_all es) → Told Good es
  events_good [] h = tt
  events_good (StartOf seq ∷ es) h = (tt, events_good es h)
  events_good (EndOf seq ∷ es) h = (tt, events_good es h)
  events_good (Visits i p ∷ es) h = (tt, events_good es h)
  events_good (NamesSeq id ∷ es) h = (tt, events_good es h.1)
  events_good (NamesLocal id ∷ es) h = ((h.0, tt), events_good es h.1)
  events_good (NamesMemory id ∷ es) h = ((h.0, tt), events_good es h.1)
  events_good (NamesTable id ∷ es) h = ((h.0, tt), events_good es h.1)
  events_good (NamesGlobal id ∷ es) h = ((h.0, tt), events_good es h.1)
  events_good (NamesFunction id ∷ es) h = ((h.0, tt), events_good es h.1)
  events_good (NamesData id ∷ es) h = ((h.0, tt), events_good es h.1)
  events_good (NamesType id ∷ es) h = ((h.0, tt), events_good es h.1)
  events_good (NamesElement id ∷ es) h = ((h.0, tt), events_good es h.1)
  events_good (NamesTag id ∷ es) h = ((h.0, tt), events_good es h.1)
  events_good (Holds v ∷ es) h = (tt, events_good es h)

  module _ (back : OperatorComesBack) (told_names : NamesAreTold) (again : NamesAreRenamed) (features : WasmFeatures) where
    came_back : (other : ℕ) (op : Seen) (i : Instr) → OperatorFits features op → instr_at (look s) op ≡ Ok (Some i) → operator_at all i ≡ Ok (Some (renamed_operator (named_or other s) op))
    came_back other op i fits e = back (named_or other s) (look s) all (named_renames other s) features op i fits e

    read_told : (op : Seen) (i : Instr) → OperatorFits features op → instr_at (look s) op ≡ Ok (Some i) → Told Good (names i)
    read_told op i fits e =
        let first = came_back 0 op i fits e in
        let same : renamed_operator (named_or 0 s) op ≡ renamed_operator (named_or 1 s) op =
        some_is (renamed_operator (named_or 0 s) op) (renamed_operator (named_or 1 s) op)
        (ok_is (Some (renamed_operator (named_or 0 s) op)) (Some (renamed_operator (named_or 1 s) op)) (sym first ∙ came_back 1 op i fits e)) in
        let ns : List Name = operator_names (renamed_operator (named_or 0 s) op) in
        let alike : map (renamed_name (named_or 0 s)) (operator_names op) ≡ map (renamed_name (named_or 1 s)) (operator_names op) =
        sym (again (named_or 0 s) op) ∙ ap operator_names same ∙ again (named_or 1 s) op in
        let found : AllByRecursion GoodName ns = subst (AllByRecursion GoodName) (sym (again (named_or 0 s) op)) (all_found (operator_names op) alike) in
        events_good (names i) (subst (AllByRecursion GoodName) (sym (told_names i (renamed_operator (named_or 0 s) op) first)) (all_reversed GoodName (is_reversed i) ns found))

    -- ---- what stands in a sequence

    module _ (b : List Seq) where
      leaf : (S : ℕ → Type 0) (i : Instr) → Told Good (names i) → (children i ≡ []) × (try_type b i ≡ None) → Fine Good b S i
      leaf S i named holds = record {
        named = named;
        held = λ k h. absurd (subst (λ (ks : List ℕ). Has ks k) holds.0 h);
        tried = subst (λ (o : Option InstrSeqType). IfSome o (λ ty. Told Good (block_names ty))) (sym holds.1) tt;
      }

      module _ (S : ℕ → Type 0) where
        read_fine : (op : Seen) (i : Instr) → OperatorFits features op → instr_at (look s) op ≡ Ok (Some i) → Fine Good b S i
        read_fine op i fits e = leaf S i (read_told op i fits e) (plain_holds_none b i (renamed_operator (named_or 0 s) op) (came_back 0 op i fits e))

        abbrev F : OpCode → Instr → Type 0
        F code i = Fine Good b S i

        branch_fine : (code : OpCode) (k : ℕ) (i : Instr) → branch_at code k ≡ Some i → Fine Good b S i
        branch_fine code k i e =
            bytes_found F code i (at 0x0c (instrs.Br k) ∷ at 0x0d (instrs.BrIf k) ∷ at 0xd5 (instrs.BrOnNull k) ∷ at 0xd6 (instrs.BrOnNonNull k) ∷ [])
            ((leaf S (instrs.Br k) (tt, tt) (refl, refl), tt), ((leaf S (instrs.BrIf k) (tt, tt) (refl, refl), tt), ((leaf S (instrs.BrOnNull k) (tt, tt) (refl, refl), tt), ((leaf S (instrs.BrOnNonNull k) (tt, tt) (refl, refl), tt), tt)))) e

        cast_fine : (code : OpCode) (k : ℕ) (from_null to_null : Bool) (from to : HeapType) (i : Instr) → ((n : Bool) → Told Good (ref_names (reference n from))) → ((n : Bool) → Told Good (ref_names (reference n to)))
            → cast_at code k (reference from_null from) (reference to_null to) ≡ Some i → Fine Good b S i
        cast_fine code k from_null to_null from to i f t e =
            let x = reference from_null from in
            let y = reference to_null to in
            let both = told_join Good (ref_names x) (ref_names y) (f from_null) (t to_null) in
            objects_found F code i [] (at 24 (instrs.BrOnCast k x y) ∷ at 25 (instrs.BrOnCastFail k x y) ∷ []) tt
            ((leaf S (instrs.BrOnCast k x y) (tt, both) (refl, refl), tt), ((leaf S (instrs.BrOnCastFail k x y) (tt, both) (refl, refl), tt), tt)) e

        labels_told : (ks : List ℕ) → AllByRecursion (λ id. Told Good (NamesSeq id ∷ [])) ks
        labels_told [] = tt
        labels_told (k ∷ ks) = ((tt, tt), labels_told ks)

        pub run_fine : (around : List ℕ) (op : Seen) (i : Instr) → RunsAs s around op.code op.items i → OperatorFits features op → Fine Good b S i
        run_fine around op i h fits = go op.items refl h
          where
            go : (items : List Word) → op.items ≡ items → RunsAs s around op.code items i → Fine Good b S i
            go (Names Labels n ∷ []) e (inl h) = subst (Fine Good b S) (sym h.1) (leaf S (instrs.Rethrow n) tt (refl, refl))
            go (Names Labels n ∷ []) e (inr (k, there, is)) = branch_fine op.code k i is
            go (ManyLabels ns ∷ Names Labels n ∷ []) e (ks, k, are, there, is) =
                subst (Fine Good b S) (sym is)
                (leaf S (instrs.BrTable k ks) (told_join Good (events_of (λ id. NamesSeq id ∷ []) ks.items) (NamesSeq k ∷ []) (told_each Good (λ id. NamesSeq id ∷ []) ks.items (labels_told ks.items)) (tt, tt)) (refl, refl))
            go (Byte flags ∷ Names Labels n ∷ Heap x ∷ Heap y ∷ []) e (k, from, to, there, f, t, is) =
                cast_fine op.code k (flags % 2 == 1) (flags / 2 % 2 == 1) from to i (heap_told s Good answers x from f) (heap_told s Good answers y to t) is
            go _ e h = read_fine op i fits (ap (λ items. instr_at (look s) (record { code = op.code; items = items })) e ∙ h)

        -- ---- blocks

        clause_told : (around : List ℕ) (h : Clause) (c : TryTableCatch) → IsClause s around h c → Told Good (clause_names c)
        clause_told around (handlers.Catch tag n) c (t, k, found, there, is) = subst (λ (d : TryTableCatch). Told Good (clause_names d)) (sym is) ((answers.looked Tags tag t found, tt), (tt, tt))
        clause_told around (handlers.CatchRef tag n) c (t, k, found, there, is) = subst (λ (d : TryTableCatch). Told Good (clause_names d)) (sym is) ((answers.looked Tags tag t found, tt), (tt, tt))
        clause_told around (handlers.CatchAll n) c (k, there, is) = subst (λ (d : TryTableCatch). Told Good (clause_names d)) (sym is) (tt, tt)
        clause_told around (handlers.CatchAllRef n) c (k, there, is) = subst (λ (d : TryTableCatch). Told Good (clause_names d)) (sym is) (tt, tt)

        clauses_told : (around : List ℕ) (hs : List Clause) (cs : List TryTableCatch) → AreClauses s around hs cs → Told Good (events_of clause_names cs)
        clauses_told around [] cs h = subst (λ (ds : List TryTableCatch). Told Good (events_of clause_names ds)) (sym h) tt
        clauses_told around (c ∷ hs) cs (d, ds, is, one, rest) =
            subst (λ (es : List TryTableCatch). Told Good (events_of clause_names es)) (sym is) (told_join Good (clause_names d) (events_of clause_names ds) (clause_told around c d one) (clauses_told around hs ds rest))

        legacy_told : (cs : List LegacyCatch) → EndsOnce cs → Parts Good S (parts_of cs) → Told Good (events_of legacy_names cs)
        legacy_told [] h ps = tt
        legacy_told (legacy.Catch tag k ∷ cs) h ps = ((ps.0.1, tt), legacy_told cs h ps.1)
        legacy_told (legacy.CatchAll k ∷ cs) h ps = legacy_told cs h ps.1
        legacy_told (legacy.Delegate n ∷ cs) h ps = subst (λ (ds : List LegacyCatch). Told Good (events_of legacy_names ds)) (sym h) tt

        legacy_held : (cs : List LegacyCatch) → EndsOnce cs → Parts Good S (parts_of cs) → (k : ℕ) → Has (handlers_of cs) k → S k
        legacy_held [] h ps k has = absurd has
        legacy_held (legacy.Catch tag j ∷ cs) h ps k (inl e) = subst S e ps.0.0
        legacy_held (legacy.Catch tag j ∷ cs) h ps k (inr later) = legacy_held cs h ps.1 k later
        legacy_held (legacy.CatchAll j ∷ cs) h ps k (inl e) = subst S e ps.0.0
        legacy_held (legacy.CatchAll j ∷ cs) h ps k (inr later) = legacy_held cs h ps.1 k later
        legacy_held (legacy.Delegate n ∷ cs) h ps k has = absurd (subst (λ (ds : List LegacyCatch). Has (handlers_of ds) k) h has)

        one_held : (j k : ℕ) → S j → Has (j ∷ []) k → S k
        one_held j k here (inl e) = subst S e here
        one_held j k here (inr later) = absurd later

        two_held : (i j k : ℕ) → S i → S j → Has (i ∷ j ∷ []) k → S k
        two_held i j k first second (inl e) = subst S e first
        two_held i j k first second (inr later) = one_held j k second later

        more_held : (j : ℕ) (ks : List ℕ) (k : ℕ) → S j → ((m : ℕ) → Has ks m → S m) → Has (j ∷ ks) k → S k
        more_held j ks k here more (inl e) = subst S e here
        more_held j ks k here more (inr later) = more k later

        pub made_fine : (around : List ℕ) (op : Seen) (g : Opener) (i : Instr) (q : Block) (ty : InstrSeqType) → Makes g i q → IsOpener s around op g → S q.first → Parts Good S q.more → type_at b q.first ≡ Some ty → Told Good (block_names ty) → Fine Good b S i
        made_fine around op openers.Block i q ty h is here ps typed types = subst (Fine Good b S) (sym h.0) (record { named = tt; held = λ k has. one_held q.first k here has; tried = tt })
        made_fine around op openers.Loop i q ty h is here ps typed types = subst (Fine Good b S) (sym h.0) (record { named = tt; held = λ k has. one_held q.first k here has; tried = tt })
        made_fine around op openers.If i q ty h is here ps typed types =
            let other : Parts Good S (part Otherwise h.0 ∷ []) = subst (Parts Good S) h.2 ps in
            subst (Fine Good b S) (sym h.1) (record { named = tt; held = λ k has. two_held q.first h.0 k here other.0.0 has; tried = tt })
        made_fine around op openers.Try i q ty h is here ps typed types =
            let more : Parts Good S (parts_of h.0.items) = subst (Parts Good S) h.2 ps in
            subst (Fine Good b S) (sym h.1)
            (record {
              named = legacy_told h.0.items h.4 more;
              held = λ k has. more_held q.first (handlers_of h.0.items) k here (legacy_held h.0.items h.4 more) has;
              tried = subst (λ (o : Option InstrSeqType). IfSome o (λ t. Told Good (block_names t))) (sym typed) types;
            })
        made_fine around op (openers.TryTable cs) i q ty h is here ps typed types =
            subst (Fine Good b S) (sym h.0) (record { named = clauses_told around is.2 cs.items is.4; held = λ k has. one_held q.first k here has; tried = tt })
