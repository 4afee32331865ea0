-- The numbering state of the code as the state of the definitions.
use Rattle.std.specs.Prelude.{ℕ, Bool, false, cond, List, [], ◌∷◌, map, eqb, get_or, take, Option as Maybe, None, Some}
use Rattle.std.proofs.Math.Option.{Option, none, some}
use Rattle.arith.specs.declared.One.TheVariants.{Not, Id}
use Rattle.arith.specs.Operation.{Expr, constant, one, two}
use Rattle.record.specs.declared.NameIx.{NameIx}
use Rattle.record.specs.Record.{nm, Instr}
use Rattle.numbering.specs.declared.ValNum.{ValNum}
use Rattle.numbering.specs.State.{vn, State, new_number, update_env}
use Rattle.numbering.specs.Number.{Saved as SavedAs, save_before, get_val_num}
use Rattle.lvn_values.specs.Table.{vals_of}
use Rattle.lvn_state.specs.declared.LvnState.{LvnState}

-- 65535 stands for no number
abbrev pub slot : ℕ → Option ValNum
slot v = cond (eqb v 65535) none (some (vn v))

unfoldable pub env_of : List ℕ → NameIx → Option ValNum
env_of l x = slot (get_or l x.0 65535)

-- a number that is not given, or stands past the end, has nobody's home, 65535
unfoldable pub locs_of : List ℕ → ValNum → NameIx
locs_of l v = nm (get_or l v.0 65535)

-- env, homes: the maps; hs, ns: the heads and constants of the table; count: the next number; made: K
abbrev pub state_with : List ℕ → List ℕ → List ℕ → List ℕ → ℕ → ℕ → State
state_with env homes hs ns count made =
    record {
      env = env_of env;
      locs = locs_of homes;
      vals = vals_of hs ns count;
      next = count;
      temps = made;
    }

abbrev pub state_of : {m n : ℕ} → LvnState m n → State
state_of s = state_with s.env s.homes s.values.heads s.values.nums s.values.count s.made

-- the first n of an instruction's arguments
abbrev pub names_in : ℕ → List ℕ → List NameIx
names_in n l = map nm (take n l)

-- the save that is owed before i, where one is, by its made name
abbrev pub saves_of : Maybe NameIx → Instr → List Instr
saves_of None i = []
saves_of (Some made) i = save_before i made ∷ []

abbrev pub saved_of : {m n : ℕ} → LvnState m n → Maybe NameIx → Instr → SavedAs
saved_of s made i = record { state = state_of s; saves = saves_of made i }

-- whether a value's instruction reads exactly `x = id x`
unfoldable pub itself : (ValNum → NameIx) → NameIx → Option (Expr ValNum) → Bool
itself locs x none = false
itself locs x (some (constant v)) = false
itself locs x (some (one Not a)) = false
itself locs x (some (one Id a)) = eqb (locs a).0 x.0
itself locs x (some (two o a b)) = false

-- dest takes the number of the value e, or an unknown value gets the next number with dest as home
unfoldable pub settled_at : State → NameIx → Expr ValNum → Option ValNum → State
settled_at s x e none = new_number s x (some e)
settled_at s x e (some v) = update_env s x v

unfoldable pub settled : State → NameIx → Option (Expr ValNum) → State
settled s x none = new_number s x none
settled s x (some e) = settled_at s x e (get_val_num s e)
