-- Pairs of blocks, of an input and of a candidate, that are numbered together: what makes their runs alike, as a relation.
-- A rewriting is one such candidate. The relation mentions no store.
use Rattle.std.specs.Prelude.{ℕ, suc, ◌<◌, ◌≡◌, ◌≢◌, true, false, List, [], ◌∷◌, T}
use Rattle.std.proofs.Math.Option.{Option, none, some}
use Rattle.arith.specs.declared.One.TheVariants.{Not, Id}
use Rattle.arith.specs.declared.Two.{Two}
use Rattle.arith.specs.declared.Two.TheVariants.{Add, Sub, Mul, Div, Eq, Lt, Gt, Le, Ge, And, Or, PtrAdd}
use Rattle.arith.specs.Map.{upd}
use Rattle.arith.specs.Value.{tint, tbool, is_pointer, Val, in_range, HasType}
use Rattle.arith.specs.Operation.{ok, unset, Expr, constant, one, two, eval}
use Rattle.record.specs.declared.NameIx.{NameIx}
use Rattle.record.specs.Record.{NameIx-discrete, Instr, Block}
use Rattle.record.specs.Form.{pure, new, effect, return, nop, jump, branch, form}
use Rattle.numbering.specs.declared.ValNum.{ValNum}
use Rattle.numbering.specs.State.{vn, ValNum-discrete, start_env}
use Rattle.numbering.specs.Number.{reads, is_save, count_saves}
use Rattle.machine.specs.Machine.{Context}

-- N and A of the input, and the context of the candidate, whose names begin with the input's
pub record Setting : Type 0 where
  pub names : ℕ
  pub args : ℕ
  pub ctx : Context

-- ---- the joint numbering: the values of the numbers, the next number, and the numbers of the names on each side
pub record Joint : Type 0 where
  pub vals : ValNum → Option (Expr ValNum)
  pub next : ℕ
  pub env₁ : NameIx → Option ValNum
  pub env₂ : NameIx → Option ValNum

-- a number more, with its value expression or none
abbrev pub push : Joint → Option (Expr ValNum) → Joint
push j e =
    record {
      vals = upd ValNum-discrete j.vals (vn j.next) e;
      next = suc j.next;
      env₁ = j.env₁;
      env₂ = j.env₂;
    }

-- the name x takes the number v on both sides, or on the candidate's alone
abbrev pub set_both : Joint → NameIx → ValNum → Joint
set_both j x v =
    record {
      vals = j.vals;
      next = j.next;
      env₁ = upd NameIx-discrete j.env₁ x (some v);
      env₂ = upd NameIx-discrete j.env₂ x (some v);
    }

abbrev pub set_second : Joint → NameIx → ValNum → Joint
set_second j x v =
    record {
      vals = j.vals;
      next = j.next;
      env₁ = j.env₁;
      env₂ = upd NameIx-discrete j.env₂ x (some v);
    }

-- x takes the next number on both sides
abbrev pub fresh : Joint → NameIx → Joint
fresh j x = set_both (push j none) x (vn j.next)

-- the number of a value expression: an id's is its operand's
pub data Has (vals : ValNum → Option (Expr ValNum)) : Expr ValNum → ValNum → Type 0 where
  by_id : {v : ValNum} → Has vals (one Id v) v
  by_value : {e : Expr ValNum} {v : ValNum} → vals v ≡ some e → Has vals e v

-- a value expression is numbered: as one that is there, or as a new one
pub data Numbers (j : Joint) : Expr ValNum → ValNum → Joint → Type 0 where
  old : {e : Expr ValNum} {v : ValNum} → Has j.vals e v → Numbers j e v j
  fresh_value : {e : Expr ValNum} → Numbers j e (vn j.next) (push j (some e))

-- ---- expressions over names, with the numbers of the names put in
abbrev pub map₁ : {A B : Type 0} → (A → B) → Option A → Option B
map₁ f none = none
map₁ f (some x) = some (f x)

abbrev pub map₂ : {A B C : Type 0} → (A → B → C) → Option A → Option B → Option C
map₂ f none y = none
map₂ f (some x) none = none
map₂ f (some x) (some y) = some (f x y)

unfoldable pub number : (NameIx → Option ValNum) → Expr NameIx → Option (Expr ValNum)
number env (constant v) = some (constant v)
number env (one o a) = map₁ (one o) (env a)
number env (two o a b) = map₂ (two o) (env a) (env b)

unfoldable pub number_all : (NameIx → Option ValNum) → List NameIx → Option (List ValNum)
number_all env [] = some []
number_all env (x ∷ xs) = map₂ ◌∷◌ (env x) (number_all env xs)

-- ---- what may stand for what
-- a value for each number given, that fits the value expressions
abbrev pub Fits : (ValNum → Option Val) → (ValNum → Option (Expr ValNum)) → Type 0
Fits ρ vals = (v : ValNum) (e : Expr ValNum) → vals v ≡ some e → (x : Val) × (eval ρ e ≡ ok x) × (ρ v ≡ some x)

abbrev pub InRange : (ValNum → Option Val) → Type 0
InRange ρ = (v : ValNum) (x : Val) → ρ v ≡ some x → T (in_range x)

-- e' may stand for e: all that a change of the folds has to prove again
abbrev pub Stands : (ValNum → Option (Expr ValNum)) → Expr ValNum → Expr ValNum → Type 0
Stands vals e e' =
    (ρ : ValNum → Option Val) → Fits ρ vals → InRange ρ → eval ρ e ≢ unset → eval ρ e' ≡ eval ρ e

-- ---- types of operations: t the type of each name, d of the destination
abbrev pub Takes : Two → ℕ → ℕ → ℕ → Type 0
Takes Add a b d = (a ≡ tint) × (b ≡ tint) × (d ≡ tint)
Takes Sub a b d = (a ≡ tint) × (b ≡ tint) × (d ≡ tint)
Takes Mul a b d = (a ≡ tint) × (b ≡ tint) × (d ≡ tint)
Takes Div a b d = (a ≡ tint) × (b ≡ tint) × (d ≡ tint)
Takes Eq a b d = (a ≡ tint) × (b ≡ tint) × (d ≡ tbool)
Takes Lt a b d = (a ≡ tint) × (b ≡ tint) × (d ≡ tbool)
Takes Gt a b d = (a ≡ tint) × (b ≡ tint) × (d ≡ tbool)
Takes Le a b d = (a ≡ tint) × (b ≡ tint) × (d ≡ tbool)
Takes Ge a b d = (a ≡ tint) × (b ≡ tint) × (d ≡ tbool)
Takes And a b d = (a ≡ tbool) × (b ≡ tbool) × (d ≡ tbool)
Takes Or a b d = (a ≡ tbool) × (b ≡ tbool) × (d ≡ tbool)
Takes PtrAdd a b d = T (is_pointer a) × (b ≡ tint) × (d ≡ a)

abbrev pub Typed : (NameIx → ℕ) → Expr NameIx → ℕ → Type 0
Typed t (constant v) d = HasType d v
Typed t (one Not a) d = (t a ≡ tbool) × (d ≡ tbool)
Typed t (one Id a) d = d ≡ t a
Typed t (two o a b) d = Takes o (t a) (t b) d

-- ---- the relation
pub data Elem (x : NameIx) : List NameIx → Type 0 where
  first : {xs : List NameIx} → Elem x (x ∷ xs)
  later : {y : NameIx} {xs : List NameIx} → Elem x xs → Elem x (y ∷ xs)

-- equal but for the code, the literal and the arguments
pub record SameDest (i k : Instr) : Type 0 where
  pub id : k.id ≡ i.id
  pub dest : k.dest ≡ i.dest

-- and with one code and callee
pub record SameCode (i k : Instr) : Type 0 where
  pub id : k.id ≡ i.id
  pub code : k.code ≡ i.code
  pub dest : k.dest ≡ i.dest
  pub callee : k.callee ≡ i.callee

-- what the machine performs itself has the type of the destination
abbrev pub Performed : Context → Instr → Type 0
Performed ctx i = (vs : List Val) (v : Val) → ctx.performs i.code vs ≡ some v → HasType (ctx.types i.dest) v

-- what is left of the input's block, and of the candidate's
pub data Paired (Γ : Setting) : Joint → List Instr → List Instr → Type 0 where
  done : {j : Joint} → Paired Γ j [] []
  -- a name that the next instruction of the input reads takes a new number
  see :
      {j : Joint} {i : Instr} {is ks : List Instr} (x : NameIx) →
      Elem x (reads (form Γ.ctx.types i)) →
      x.0 < Γ.names →
      Paired Γ (fresh j x) (i ∷ is) ks →
      Paired Γ j (i ∷ is) ks
  -- a made name copies a name
  made :
      {j : Joint} {k : Instr} {is ks : List Instr} (x : NameIx) (v : ValNum) →
      form Γ.ctx.types k ≡ pure (one Id x) →
      is_save Γ.names k ≡ true →
      Γ.ctx.types k.dest ≡ Γ.ctx.types x →
      j.env₂ x ≡ some v →
      Paired Γ (set_second j k.dest v) is ks →
      Paired Γ j is (k ∷ ks)
  -- two operations with one value number
  pair_pure :
      {j j' : Joint} {i k : Instr} {is ks : List Instr} (e₁ e₂ : Expr NameIx) (v₁ v₂ w : Expr ValNum) (n : ValNum) →
      form Γ.ctx.types i ≡ pure e₁ →
      form Γ.ctx.types k ≡ pure e₂ →
      SameDest i k →
      is_save Γ.names k ≡ false →
      i.dest.0 < Γ.names →
      Typed Γ.ctx.types e₁ (Γ.ctx.types i.dest) →
      number j.env₁ e₁ ≡ some v₁ →
      Stands j.vals v₁ w →
      Numbers j w n j' →
      number j.env₂ e₂ ≡ some v₂ →
      Has j'.vals v₂ n →
      Paired Γ (set_both j' i.dest n) is ks →
      Paired Γ j (i ∷ is) (k ∷ ks)
  -- one constant, as a value that is new
  pair_constant :
      {j : Joint} {i k : Instr} {is ks : List Instr} (v : Val) →
      form Γ.ctx.types i ≡ pure (constant v) →
      form Γ.ctx.types k ≡ pure (constant v) →
      SameDest i k →
      is_save Γ.names k ≡ false →
      i.dest.0 < Γ.names →
      HasType (Γ.ctx.types i.dest) v →
      Paired Γ (fresh j i.dest) is ks →
      Paired Γ j (i ∷ is) (k ∷ ks)
  -- values that are new each time
  pair_new :
      {j : Joint} {i k : Instr} {is ks : List Instr} (xs ys : List NameIx) (ns : List ValNum) →
      form Γ.ctx.types i ≡ new xs →
      form Γ.ctx.types k ≡ new ys →
      SameCode i k →
      is_save Γ.names k ≡ false →
      i.dest.0 < Γ.names →
      Performed Γ.ctx i →
      number_all j.env₁ xs ≡ some ns →
      number_all j.env₂ ys ≡ some ns →
      Paired Γ (fresh j i.dest) is ks →
      Paired Γ j (i ∷ is) (k ∷ ks)
  pair_effect :
      {j : Joint} {i k : Instr} {is ks : List Instr} (xs ys : List NameIx) (ns : List ValNum) →
      form Γ.ctx.types i ≡ effect xs →
      form Γ.ctx.types k ≡ effect ys →
      SameCode i k →
      is_save Γ.names k ≡ false →
      number_all j.env₁ xs ≡ some ns →
      number_all j.env₂ ys ≡ some ns →
      Paired Γ j is ks →
      Paired Γ j (i ∷ is) (k ∷ ks)
  pair_nop :
      {j : Joint} {i k : Instr} {is ks : List Instr} →
      form Γ.ctx.types i ≡ nop →
      form Γ.ctx.types k ≡ nop →
      is_save Γ.names k ≡ false →
      Paired Γ j is ks →
      Paired Γ j (i ∷ is) (k ∷ ks)
  -- terminators stand last
  pair_jump :
      {j : Joint} {i k : Instr} (b : ℕ) →
      form Γ.ctx.types i ≡ jump b →
      form Γ.ctx.types k ≡ jump b →
      is_save Γ.names k ≡ false →
      Paired Γ j (i ∷ []) (k ∷ [])
  pair_branch :
      {j : Joint} {i k : Instr} (x y : NameIx) (n : ValNum) (b c : ℕ) →
      form Γ.ctx.types i ≡ branch x b c →
      form Γ.ctx.types k ≡ branch y b c →
      is_save Γ.names k ≡ false →
      j.env₁ x ≡ some n →
      j.env₂ y ≡ some n →
      Paired Γ j (i ∷ []) (k ∷ [])
  pair_return :
      {j : Joint} {i k : Instr} (xs ys : List NameIx) (ns : List ValNum) →
      form Γ.ctx.types i ≡ return xs →
      form Γ.ctx.types k ≡ return ys →
      SameCode i k →
      is_save Γ.names k ≡ false →
      number_all j.env₁ xs ≡ some ns →
      number_all j.env₂ ys ≡ some ns →
      Paired Γ j (i ∷ []) (k ∷ [])

-- ---- whole functions
-- "Per block, arguments get 0 to A-1": on both sides
abbrev pub start_joint : ℕ → Joint
start_joint A = record { vals = λ v. none; next = A; env₁ = start_env A; env₂ = start_env A }

-- block by block, and each saves field of the candidate counts its saves
pub data PairedBlocks (Γ : Setting) : List (Block Instr) → List (Block Instr) → Type 0 where
  no_blocks : PairedBlocks Γ [] []
  block_pair :
      {b c : Block Instr} {bs cs : List (Block Instr)} →
      Paired Γ (start_joint Γ.args) b.body c.body →
      c.saves ≡ count_saves Γ.names c.body →
      PairedBlocks Γ bs cs →
      PairedBlocks Γ (b ∷ bs) (c ∷ cs)
